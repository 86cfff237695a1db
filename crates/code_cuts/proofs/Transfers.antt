-- The engine's last step moves a word and shows the copy: no number of steps ends between them.
use Rattle.std.specs.Prelude.{◌==◌, ◌-◌, length, if◌then◌else◌}
use Rattle.std.proofs.Common.{◌≡◌, ◌≢◌, ◌∙◌, ℕ, zero, suc, ◌+◌, ◌<◌, ◌≤◌, true, false, List, [], ◌∷◌, ◌++◌, Some, None, append-nil, append_assoc, length-append, refl, sym, ap, subst, arith}
use Rattle.std.proofs.lemmas.Bool.Decides.{nat_tests}
use Rattle.devices.specs.Journal.{Place}
use Rattle.devices.specs.declared.event.Event.TheVariants as the
use Rattle.fram_ram.specs.Engine.{begun}
use Rattle.fram_ram.specs.Memories.{is_fram, put}
use Rattle.word_isa.specs.declared.instr.Instr.TheVariants.{Dma}
use Rattle.word_isa.specs.declared.mark.MarkKind.TheVariants as mark
use Rattle.word_machine.specs.Events.{event_next}
use Rattle.word_machine.specs.RunLaws.{trace_more}
use Rattle.word_machine.specs.State.{Program}
use Rattle.word_machine.specs.Step.{step}
use Rattle.word_machine.specs.Straight.{Spot, live}
use Rattle.word_machine.specs.Traces.{Atom, noted, seen, shows, trace, writes_next}
use Rattle.word_machine.specs.TransferLaws.{HasWords, copied_shows, copy_atoms, moving, transfer_shows}
use Rattle.line_code.specs.declared.line.Line.{Line}
use Rattle.line_code.specs.Lines.{marked}
use Rattle.line_laws.specs.Standing.{Lie, lie_behind, lie_front}
use Rattle.word_code.specs.Acts.{jump}
use Rattle.word_code.specs.Frames.{Frame, sign}
use Rattle.act_laws.specs.Codes.{Fixed, Goes, HasFixed, after_code, code_atoms, ready, top}
use Rattle.act_laws.specs.CodeLaws.{code_ends, goes_code, shape_is}
use Rattle.act_refines.specs.Seen.{trace_seen}
use Rattle.code_cuts.proofs.Steps.{steps_over}

abbrev pub dma_line : Frame → (site : ℕ) → Line
dma_line f site = marked (sign f mark.Copy site) (Dma 1 2 3)

not_none : (n : ℕ) → (suc n == 0) ≡ false
not_none n = grind (arith, nat_tests)

not_one : (n : ℕ) → (suc (suc n) == 1) ≡ false
not_one n = grind (arith, nat_tests)

one_less : (n : ℕ) → suc (suc n) - 1 ≡ suc n
one_less n = omega arith

-- ---- words but the last

abbrev after_word : Spot → (to from k : ℕ) → Spot
after_word s to from k = record s { store = put s.store (to + k) (s.store (from + k)); clock = s.clock + 1 }

next_word : (p : Program) (s : Spot) (to from k n : ℕ) → HasWords to from k (suc (suc n)) → step p (moving s to from k (suc (suc n))) ≡ moving (after_word s to from k) to from (k + 1) (suc n)
unfolding step
next_word p s to from k n h = rw (not_none (suc n), h.source k (omega arith) (omega arith), h.target k (omega arith) (omega arith), not_one n, one_less n)

next_seen : (p : Program) (s : Spot) (to from k n : ℕ) → HasWords to from k (suc (suc n)) → seen p (moving s to from k (suc (suc n))) ≡ noted (to + k) (s.store (from + k)) ++ []
unfolding writes_next event_next
next_seen p s to from k n h = rw (not_none (suc n), h.source k (omega arith) (omega arith), h.target k (omega arith) (omega arith), not_one n)

has_rest : (to from k n : ℕ) → HasWords to from k (suc n) → HasWords to from (k + 1) n
has_rest to from k n h = record { source = λ j a b. h.source j (omega arith) (omega arith); target = λ j a b. h.target j (omega arith) (omega arith) }

-- all of them go to FRAM
abbrev pub AllFram : (to k n : ℕ) → Type 0
AllFram to k n = (j : ℕ) → k ≤ j → j < k + n → is_fram (to + j) ≡ true

noted_long : (a w : ℕ) → is_fram a ≡ true → length (noted a w) ≡ 1
noted_long a w is = rw is

words_long : (to from k n : ℕ) (m : ℕ → ℕ) → AllFram to k n → length (copy_atoms to from k n m) ≡ n
words_long to from k zero m all = refl
words_long to from k (suc n) m all =
    let one : length (noted (to + k) (m (from + k))) ≡ 1 = noted_long (to + k) (m (from + k)) (all k (omega arith) (omega arith)) in
    let rest : length (copy_atoms to from (k + 1) n (put m (to + k) (m (from + k)))) ≡ n = words_long to from (k + 1) n (put m (to + k) (m (from + k))) (λ j a b. all j (omega arith) (omega arith)) in
    omega (arith, length-append (noted (to + k) (m (from + k))) (copy_atoms to from (k + 1) n (put m (to + k) (m (from + k)))), one, rest)

-- before the last word as many are seen as were moved
before_last : (p : Program) (n : ℕ) (s : Spot) (to from k : ℕ) → HasWords to from k (suc n) → AllFram to k (suc n) → length (trace p n (moving s to from k (suc n))) ≡ n
unfolding trace
before_last p zero s to from k h all = refl
before_last p (suc n) s to from k h all =
    let word : List Atom = noted (to + k) (s.store (from + k)) in
    let first : seen p (moving s to from k (suc (suc n))) ≡ word = next_seen p s to from k n h ∙ append-nil word in
    let one : length (seen p (moving s to from k (suc (suc n)))) ≡ 1 = ap length first ∙ noted_long (to + k) (s.store (from + k)) (all k (omega arith) (omega arith)) in
    let rest : length (trace p n (step p (moving s to from k (suc (suc n))))) ≡ n = ap (λ t. length (trace p n t)) (next_word p s to from k n h) ∙ before_last p n (after_word s to from k) to from (k + 1) (has_rest to from k (suc n) h) (λ j a b. all j (omega arith) (omega arith)) in
    omega (arith, length-append (seen p (moving s to from k (suc (suc n)))) (trace p n (step p (moving s to from k (suc (suc n))))), one, rest)

-- and with it its event too
with_last : (p : Program) (n : ℕ) (s : Spot) (to from : ℕ) → HasWords to from 0 (suc n) → AllFram to 0 (suc n) → length (trace p (suc n) (moving s to from 0 (suc n))) ≡ suc (suc n)
with_last p n s to from h all =
    let shown : trace p (suc n) (moving s to from 0 (suc n)) ≡ copy_atoms to from 0 (suc n) s.store ++ copied_shows p s to from (suc n) = transfer_shows p n s to from 0 (suc n) h (omega arith) in
    omega (arith, ap length shown, length-append (copy_atoms to from 0 (suc n) s.store) (copied_shows p s to from (suc n)), words_long to from 0 (suc n) s.store all)

-- ---- behind the line that names its ends

dma_step : (p : Program) (f : Frame) (n to from site : ℕ) (t : Spot) → Lie p t.pc (dma_line f site ∷ []) → t.regs 1 ≡ to → t.regs 2 ≡ from → t.regs 3 ≡ n
    → step p (live t) ≡ record (live (record t { pc = t.pc + 1; clock = t.clock + 1 })) { engine = begun to from n }
unfolding step
dma_step p f n to from site t has a b c = rw (has.0.instr, a, b, c)

dma_seen : (p : Program) (f : Frame) (n to from site : ℕ) (t : Spot) → Lie p t.pc (dma_line f site ∷ []) → t.regs 1 ≡ to → t.regs 2 ≡ from → t.regs 3 ≡ n
    → seen p (live t) ≡ shows (if n == 0 then Some (the.Copied site from to 0) else None)
unfolding writes_next event_next
dma_seen p f n to from site t has a b c = rw (has.0.instr, has.0.mark, a, b, c)

dma_trace : (p : Program) (f : Frame) (n to from site j : ℕ) (t : Spot) → Lie p t.pc (dma_line f site ∷ []) → t.regs 1 ≡ to → t.regs 2 ≡ from → t.regs 3 ≡ suc n
    → trace p (suc j) (live t) ≡ trace p j (moving (record t { pc = t.pc + 1; clock = t.clock + 1 }) to from 0 (suc n))
unfolding trace
dma_trace p f n to from site j t has a b c =
    let u : Spot = record t { pc = t.pc + 1; clock = t.clock + 1 } in
    let e : step p (live t) ≡ moving u to from 0 (suc n) = dma_step p f (suc n) to from site t has a b c ∙ rw (not_none n) in
    let quiet : seen p (live t) ≡ [] = dma_seen p f (suc n) to from site t has a b c ∙ rw (not_none n) in
    (λ i. quiet i ++ trace p j (e i))

-- the whole line
line_trace : (p : Program) (f : Frame) (x : Fixed) (ends : List Line) (n to from site next j : ℕ) (s : Spot) → Lie p s.pc ((ends ++ (dma_line f site ∷ [])) ++ jump next) → ready p ends (top x s) ≡ true
    → (after_code p ends (top x s)).regs 1 ≡ to → (after_code p ends (top x s)).regs 2 ≡ from → (after_code p ends (top x s)).regs 3 ≡ suc n → code_atoms p ends (top x s) ≡ []
    → trace p (length ends + suc j) (live (top x s)) ≡ trace p j (moving (record (after_code p ends (top x s)) { pc = (after_code p ends (top x s)).pc + 1; clock = (after_code p ends (top x s)).clock + 1 }) to from 0 (suc n))
line_trace p f x ends n to from site next j s has ok a b c quiet =
    let t : Spot = after_code p ends (top x s) in
    let all : Lie p s.pc (ends ++ (dma_line f site ∷ jump next)) = subst (Lie p s.pc) (append_assoc ends (dma_line f site ∷ []) (jump next)) has in
    let at : Lie p t.pc (dma_line f site ∷ jump next) = lie_behind p s.pc ends _ t.pc all (code_ends p ends (top x s)) in
    let g : Goes p (length ends) (top x s) t (code_atoms p ends (top x s)) = goes_code p ends (top x s) (lie_front p s.pc ends _ all) ok in
    trace_more p (length ends) (suc j) (live (top x s)) ∙ (λ i. g.seen i ++ trace p (suc j) (g.runs i)) ∙ ap (λ (l : List Atom). l ++ trace p (suc j) (live t)) quiet ∙ dma_trace p f n to from site j t (at.0, tt) a b c

pub transfer_over : (p : Program) (place_of : ℕ → Place) (f : Frame) (x : Fixed) (ends : List Line) (n to from site next : ℕ) (s : Spot) → HasFixed x s → Lie p s.pc ((ends ++ (dma_line f site ∷ [])) ++ jump next) → ready p ends (top x s) ≡ true
    → (after_code p ends (top x s)).regs 1 ≡ to → (after_code p ends (top x s)).regs 2 ≡ from → (after_code p ends (top x s)).regs 3 ≡ suc n → code_atoms p ends (top x s) ≡ [] → HasWords to from 0 (suc n) → AllFram to 0 (suc n)
    → (j : ℕ) → length (trace_seen place_of (trace p j (live s))) ≢ suc n
transfer_over p place_of f x ends n to from site next s fixed has ok a b c quiet words all =
    let t : Spot = after_code p ends (top x s) in
    let u : Spot = record t { pc = t.pc + 1; clock = t.clock + 1 } in
    let before : length (trace p (length ends + suc n) (live (top x s))) ≡ n = ap length (line_trace p f x ends n to from site next n s has ok a b c quiet) ∙ before_last p n u to from 0 words all in
    let later : length ends + suc (suc n) ≡ length ends + suc n + 1 = omega arith in
    let after : length (trace p (length ends + suc n + 1) (live (top x s))) ≡ suc (suc n) =
    sym (ap (λ k. length (trace p k (live (top x s)))) later) ∙ ap length (line_trace p f x ends n to from site next (suc n) s has ok a b c quiet) ∙ with_last p n u to from words all in
    subst (λ r. (j : ℕ) → length (trace_seen place_of (trace p j (live (record s { regs = r })))) ≢ suc n) (sym (shape_is x s fixed))
    (steps_over p place_of (length ends + suc n) (top x s) (suc n) (omega (arith, before)) (omega (arith, after)))
