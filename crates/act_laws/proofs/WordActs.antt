-- The loop that moves words, and the engine's transfer.
use Rattle.act_laws.specs.Templates.{KeepWordsDoes, PutWordsDoes, AcrossDoes, ToKeptDoes, FromKeptDoes}
use Rattle.std.specs.Prelude.{◌==◌, if◌then◌else◌, ◌-◌}
use Rattle.std.proofs.Common.{◌≡◌, ◌∙◌, ℕ, zero, suc, ◌+◌, ◌*◌, ◌%◌, ◌^◌, ◌<◌, ◌≤◌, true, false, List, [], ◌∷◌, ◌++◌, length, Some, None, refl, sym, ap, subst, append-nil, append_assoc, arith}
use Rattle.std.proofs.lemmas.Bool.Decides.{nat_tests}
use Rattle.devices.specs.declared.event.Event.TheVariants as the
use Rattle.fram_ram.specs.Addresses.{word_below}
use Rattle.fram_ram.specs.Engine.{begun, copied}
use Rattle.fram_ram.specs.Memories.{has_word, put}
use Rattle.word_isa.specs.declared.instr.Instr.TheVariants.{Mov, Ldi, Adi, Sub, Ld, St, Jmp, Jz, Dma}
use Rattle.word_isa.specs.declared.mark.MarkKind.TheVariants as mark
use Rattle.word_machine.specs.Events.{event_next}
use Rattle.word_machine.specs.RunLaws.{exec_more, trace_more}
use Rattle.word_machine.specs.State.{Program, State}
use Rattle.word_machine.specs.Step.{step, exec}
use Rattle.word_machine.specs.Straight.{Spot, live}
use Rattle.word_machine.specs.Traces.{Atom, showed, noted, seen, shows, trace, writes_next}
use Rattle.word_machine.specs.TransferLaws.{moving, copy_atoms, HasWords, copied_shows, transfer_runs, transfer_shows}
use Rattle.line_code.specs.declared.line.Line.{Line}
use Rattle.line_code.specs.Lines.{bares, marked}
use Rattle.run_plan.specs.declared.act.Leg.TheVariants.{Across, ToKept, FromKept}
use Rattle.word_code.specs.ActCode.{loop_code, keep_words_code, put_words_code}
use Rattle.word_code.specs.Acts.{jump, leg_lines, transfer_code}
use Rattle.word_code.specs.Frames.{Frame, ends_at, kept_at, sign}
use Rattle.line_laws.specs.Standing.{Lie, lie_front, lie_behind}
use Rattle.act_laws.specs.Codes.{Fixed, HasFixed, top, End, Acts, FramCell, after_code, ready, code_atoms, Goes}
use Rattle.act_laws.specs.CodeLaws.{goes_acts, goes_one, goes_jz, line_then, when_then, jump_then, arrived, code_ends, fram_cell}

suc_is_not_zero : (x : ℕ) → (suc x == 0) ≡ false
suc_is_not_zero x = grind (arith, nat_tests)

-- a loop's turn, before the jump to its top
abbrev words_body : List Line
words_body = bares (Ld 4 1 0 ∷ St 4 2 0 ∷ Adi 1 1 ∷ Adi 2 1 ∷ Ldi 5 1 ∷ Sub 3 5 ∷ [])

abbrev dma_line : Frame → (site : ℕ) → Line
dma_line f site = marked (sign f mark.Copy site) (Dma 1 2 3)

-- the words that are left go where they shall
pub words_acts : (p : Program) (x : Fixed) (n from to k at next : ℕ) (s : Spot) → HasFixed x s → s.pc ≡ at → s.regs 1 ≡ from + k → s.regs 2 ≡ to + k → s.regs 3 ≡ n → n < 2 ^ 32 → HasWords to from k n → Lie p at (loop_code at next)
    → Acts p x (9 * n + 2) s (record { pc = next; store = copied to from k n s.store; issued = s.issued; atoms = copy_atoms to from k n s.store })
unfolding copied
words_acts p x zero from to k at next s h here source target left fits words has =
    goes_acts p x 1 1 (9 * 0 + 2) s (record s { pc = s.pc + 1 + 1; clock = s.clock + 1 }) _ [] []
    (subst (λ w. Goes p 1 s (record s { pc = if w == 0 then s.pc + 1 + 1 else s.pc + 1; clock = s.clock + 1 }) []) left (goes_jz p 3 1 s (subst (λ a. Lie p a (bares (Jz 3 1 ∷ []))) (sym here) (has.0, tt))))
    (jump_then p x 0 1 next (record s { pc = s.pc + 1 + 1; clock = s.clock + 1 }) _ (rw here (has.1.1.0, tt)) (arrived p x 0 _ _ h refl refl refl refl) (omega arith)) (omega arith) refl
words_acts p x (suc n) from to k at next s h here source target left fits words has =
    let f : End = record { pc = next; store = copied to from k (suc n) s.store; issued = s.issued; atoms = copy_atoms to from k (suc n) s.store } in
    let t : Spot = record s { pc = at + 3; clock = s.clock + 1 + 1 } in
    let u : Spot = after_code p words_body t in
    let v : Spot = record u { pc = at; clock = u.clock + 1 } in
    let word : ℕ = s.store (from + k) in
    let there : has_word (from + k) ≡ true = words.source k (omega arith) (omega arith) in
    let to_there : has_word (to + k) ≡ true = words.target k (omega arith) (omega arith) in
    let e : (s.regs 1 + 0) % 2 ^ 32 ≡ from + k = omega (arith, source, word_below (from + k) there) in
    let g : (s.regs 2 + 0) % 2 ^ 32 ≡ to + k = omega (arith, target, word_below (to + k) to_there) in
    let body : Lie p (at + 3) (words_body ++ jump at) = lie_behind p at (bares (Jz 3 1 ∷ Jmp (at + 3) ∷ Jmp next ∷ [])) (words_body ++ jump at) (at + 3) has refl in
    let back : Lie p u.pc (jump at) = lie_behind p (at + 3) words_body (jump at) u.pc body (code_ends p words_body t) in
    let rest : List Atom = copy_atoms to from (k + 1) n (put s.store (to + k) word) in
    let again : Acts p x (9 * n + 2) v (record f { atoms = rest }) =
    subst (λ st. Acts p x (9 * n + 2) v (record { pc = next; store = copied to from (k + 1) n st; issued = s.issued; atoms = copy_atoms to from (k + 1) n st })) (rw (e, g))
    (words_acts p x n from to (k + 1) at next v h refl (omega (arith, source, word_below (from + k) there)) (omega (arith, target, word_below (to + k) to_there)) (omega (arith, left, fits)) (omega (arith, fits))
    (record { source = λ j a b. words.source j (omega arith) (omega arith); target = λ j a b. words.target j (omega arith) (omega arith) }) has) in
    when_then p x (9 * n + 9) (9 * suc n + 2) 3 (at + 3) s f false (rw here (has.0, (has.1.0, tt))) (rw left (suc_is_not_zero n)) (λ z. cc)
    (λ z. line_then p x (9 * n + 3) (9 * n + 9) words_body t (record f { atoms = rest }) f.atoms (lie_front p (at + 3) words_body (jump at) body) (rw (e, g, there, to_there))
    (jump_then p x (9 * n + 2) (9 * n + 3) at u (record f { atoms = rest }) back again (omega arith)) (omega arith)
    (rw (e, g) (ap (λ l. l ++ rest) (append-nil (noted (to + k) word ++ []) ∙ append-nil (noted (to + k) word)))))
    (omega arith)

-- the words at a copy's destination are kept
pub keep_acts : (p : Program) (x : Fixed) (f : Frame) (k next n from : ℕ) (s : Spot) → KeepWordsDoes p x f k next n from s
unfolding has_word
keep_acts p x f k next n from s is_from is_n fits words has =
    let first : List Line = bares (Ld 1 15 40 ∷ Ldi 2 (kept_at f k) ∷ Ld 3 15 44 ∷ []) in
    line_then p x (9 * n + 2) (9 * n + 5) first (top x s) _ _ (lie_front p s.pc first (loop_code (s.pc + 3) next) has) refl
    (words_acts p x n from (kept_at f k) 0 (s.pc + 3) next (after_code p first (top x s)) (refl, refl, refl, refl, refl) (omega arith) (omega (arith, is_from)) (omega arith) is_n fits words
    (lie_behind p s.pc first (loop_code (s.pc + 3) next) (s.pc + 3) has refl))
    (omega arith) refl

-- and go there again
pub put_acts : (p : Program) (x : Fixed) (f : Frame) (k next n to : ℕ) (s : Spot) → PutWordsDoes p x f k next n to s
unfolding has_word
put_acts p x f k next n to s low is_to is_n fits words has =
    let a : FramCell (ends_at k) = fram_cell (ends_at k) (omega (arith, low)) in
    let b : FramCell (ends_at k + 2) = fram_cell (ends_at k + 2) (omega (arith, low)) in
    let first : List Line = bares (Ld 3 0 (ends_at k + 2) ∷ []) ++ (marked (sign f mark.Kept k) (Mov 3 3) ∷ bares (Ldi 1 (kept_at f k) ∷ Ld 2 0 (ends_at k) ∷ [])) in
    line_then p x (9 * n + 2) (9 * n + 6) first (top x s) _ _ (lie_front p s.pc first (loop_code (s.pc + 4) next) has) (rw (a.wraps, b.wraps, a.fram, b.fram))
    (words_acts p x n (kept_at f k) to 0 (s.pc + 4) next (after_code p first (top x s)) (refl, refl, refl, refl, refl) (omega arith) (omega arith) (rw (a.wraps, is_to) (omega arith)) (rw (b.wraps, is_n)) fits words
    (lie_behind p s.pc first (loop_code (s.pc + 4) next) (s.pc + 4) has refl))
    (omega arith) (rw (b.wraps, is_n))

-- a DMA begins
dma_step : (p : Program) (f : Frame) (n to from site : ℕ) (t : Spot) → Lie p t.pc (dma_line f site ∷ []) → t.regs 1 ≡ to → t.regs 2 ≡ from → t.regs 3 ≡ n
    → step p (live t) ≡ record (live (record t { pc = t.pc + 1; clock = t.clock + 1 })) { engine = begun to from n }
unfolding step
dma_step p f n to from site t has a b c = rw (has.0.instr, a, b, c)

dma_seen : (p : Program) (f : Frame) (n to from site : ℕ) (t : Spot) → Lie p t.pc (dma_line f site ∷ []) → t.regs 1 ≡ to → t.regs 2 ≡ from → t.regs 3 ≡ n
    → seen p (live t) ≡ shows (if n == 0 then Some (the.Copied site from to 0) else None)
unfolding writes_next event_next
dma_seen p f n to from site t has a b c = rw (has.0.instr, has.0.mark, a, b, c)

one_step : (p : Program) (s : State) → exec p 1 s ≡ step p s
unfolding exec
one_step p s = refl

one_trace : (p : Program) (s : State) → trace p 1 s ≡ seen p s ++ []
unfolding trace
one_trace p s = refl

one_back : (n : ℕ) → n + 1 - 1 ≡ n
one_back n = omega arith

-- a DMA and its words, for a line that has put the ends and the length into registers 1 to 3
dma_goes : (p : Program) (f : Frame) (n to from site : ℕ) (t : Spot) → Lie p t.pc (dma_line f site ∷ []) → t.regs 1 ≡ to → t.regs 2 ≡ from → t.regs 3 ≡ n → HasWords to from 0 n
    → Goes p (1 + n) t (record t { pc = t.pc + 1; store = copied to from 0 n t.store; clock = t.clock + 1 + n }) (copy_atoms to from 0 n t.store ++ (showed (the.Copied site from to n) ∷ []))
unfolding copied
dma_goes p f zero to from site t has a b c words =
    let later : t.clock + 1 ≡ t.clock + 1 + 0 = omega arith in
    subst (λ c. Goes p 1 t (record t { pc = t.pc + 1; clock = c }) (showed (the.Copied site from to 0) ∷ [])) later
    (goes_one p t (record t { pc = t.pc + 1; clock = t.clock + 1 }) (showed (the.Copied site from to 0) ∷ []) (dma_step p f 0 to from site t has a b c) (dma_seen p f 0 to from site t has a b c))
dma_goes p f (suc n) to from site t has a b c words =
    let u : Spot = record t { pc = t.pc + 1; clock = t.clock + 1 } in
    let e : step p (live t) ≡ moving u to from 0 (suc n) = dma_step p f (suc n) to from site t has a b c ∙ rw (suc_is_not_zero n) in
    let quiet : seen p (live t) ≡ [] = dma_seen p f (suc n) to from site t has a b c ∙ rw (suc_is_not_zero n) in
    let event : copied_shows p u to from (suc n) ≡ showed (the.Copied site from to (suc n)) ∷ [] = rw (one_back t.pc, has.0.mark) in
    record {
      runs = exec_more p 1 (suc n) (live t) ∙ ap (exec p (suc n)) (one_step p (live t) ∙ e) ∙ transfer_runs p n u to from 0 words;
      seen = trace_more p 1 (suc n) (live t) ∙ ap (λ l. l ++ trace p (suc n) (exec p 1 (live t))) (one_trace p (live t) ∙ ap (λ l. l ++ []) quiet)
          ∙ ap (trace p (suc n)) (one_step p (live t) ∙ e) ∙ transfer_shows p n u to from 0 (suc n) words (omega arith) ∙ ap (λ l. copy_atoms to from 0 (suc n) t.store ++ l) event;
    }

-- the engine's transfer, behind a line that names its ends
pub transfer_acts : (p : Program) (x : Fixed) (f : Frame) (ends : List Line) (n to from site next most : ℕ) (s : Spot) → Lie p s.pc ((ends ++ (dma_line f site ∷ [])) ++ jump next) → ready p ends (top x s) ≡ true → HasFixed x (after_code p ends (top x s))
    → (after_code p ends (top x s)).regs 1 ≡ to → (after_code p ends (top x s)).regs 2 ≡ from → (after_code p ends (top x s)).regs 3 ≡ n
    → (after_code p ends (top x s)).store ≡ s.store → (after_code p ends (top x s)).issued ≡ s.issued → code_atoms p ends (top x s) ≡ [] → HasWords to from 0 n → length ends + (n + 2) ≤ most
    → Acts p x most (top x s) (record { pc = next; store = copied to from 0 n s.store; issued = s.issued; atoms = copy_atoms to from 0 n s.store ++ (showed (the.Copied site from to n) ∷ []) })
transfer_acts p x f ends n to from site next most s has ok fixed a b c stored counts quiet words few =
    let t : Spot = after_code p ends (top x s) in
    let all : Lie p s.pc (ends ++ (dma_line f site ∷ jump next)) = subst (Lie p s.pc) (append_assoc ends (dma_line f site ∷ []) (jump next)) has in
    let at : Lie p t.pc (dma_line f site ∷ jump next) = lie_behind p s.pc ends _ t.pc all (code_ends p ends (top x s)) in
    let atoms : List Atom = copy_atoms to from 0 n s.store ++ (showed (the.Copied site from to n) ∷ []) in
    let g : End = record { pc = next; store = copied to from 0 n s.store; issued = s.issued; atoms = [] } in
    line_then p x (n + 2) most ends (top x s) (record g { atoms = atoms }) atoms (lie_front p s.pc ends _ all) ok
    (goes_acts p x (1 + n) 1 (n + 2) t _ g (copy_atoms to from 0 n t.store ++ (showed (the.Copied site from to n) ∷ [])) atoms (dma_goes p f n to from site t (at.0, tt) a b c words)
    (jump_then p x 0 1 next _ g at.1 (arrived p x 0 _ g fixed refl (ap (copied to from 0 n) stored) counts refl) (omega arith)) (omega arith)
    (rw stored (append-nil atoms)))
    few (ap (λ l. l ++ atoms) quiet)

-- across, to the kept words, and from them
pub across_acts : (p : Program) (x : Fixed) (f : Frame) (n to from k next : ℕ) (s : Spot) → AcrossDoes p x f n to from k next s
unfolding has_word
across_acts p x f n to from k next s a b c words has = transfer_acts p x f (leg_lines f k Across) n to from k next (n + 5) s has refl (refl, refl, refl, refl, refl) a b c refl refl refl words (omega arith)

pub to_kept_acts : (p : Program) (x : Fixed) (f : Frame) (n from k next : ℕ) (s : Spot) → ToKeptDoes p x f n from k next s
unfolding has_word
to_kept_acts p x f n from k next s b c words has = transfer_acts p x f (leg_lines f k ToKept) n (kept_at f k) from k next (n + 5) s has refl (refl, refl, refl, refl, refl) refl b c refl refl refl words (omega arith)

pub from_kept_acts : (p : Program) (x : Fixed) (f : Frame) (n to k next : ℕ) (s : Spot) → FromKeptDoes p x f n to k next s
unfolding has_word
from_kept_acts p x f n to k next s low a c words has =
    let i : FramCell (ends_at k) = fram_cell (ends_at k) (omega (arith, low)) in
    let j : FramCell (ends_at k + 2) = fram_cell (ends_at k + 2) (omega (arith, low)) in
    transfer_acts p x f (leg_lines f k FromKept) n to (kept_at f k) k next (n + 5) s has (rw (i.wraps, j.wraps, i.fram, j.fram)) (refl, refl, refl, refl, refl) (rw (i.wraps, a)) refl (rw (j.wraps, c)) refl refl refl words (omega arith)
