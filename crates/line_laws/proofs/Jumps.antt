-- The code of `&&` and `||`: the right side is jumped over where the left one decides.
use Rattle.std.specs.Prelude.{◌==◌, if◌then◌else◌, not}
use Rattle.std.proofs.Common.{◌≡◌, ◌∙◌, ℕ, zero, suc, ◌+◌, ◌≤◌, true, false, List, [], ◌∷◌, ◌++◌, length, Result, Ok, refl, ap, subst, arith}
use Rattle.ease_base.specs.Found.{with_found}
use Rattle.task_ast.specs.declared.tree.Op2.TheVariants as two
use Rattle.word_isa.specs.declared.instr.Instr.TheVariants.{Eq, Jmp, Jz}
use Rattle.walk_run.specs.declared.trap.Trap.{Trap}
use Rattle.walk_run.specs.Operators.{two_words, two_values, truth, holds, decided, unless_decided}
use Rattle.walk_run.specs.Store.{Store}
use Rattle.word_machine.specs.Events.{event_next}
use Rattle.word_machine.specs.RunLaws.{step_jz, step_jmp}
use Rattle.word_machine.specs.State.{Program}
use Rattle.word_machine.specs.Straight.{Stand, Spot, live, line}
use Rattle.word_machine.specs.Traces.{seen, writes_next}
use Rattle.line_code.specs.declared.line.Line.{Line}
use Rattle.line_code.specs.Lines.{bares}
use Rattle.line_code.specs.Expressions.{both_code, either_code}
use Rattle.line_laws.specs.Gives.{Same, Goal, Gives, word_goal}
use Rattle.line_laws.specs.Relation.{Layout, Related}
use Rattle.line_laws.specs.Standing.{Lie, lie_behind}
use Rattle.line_laws.proofs.OwnLines.{own_gives}
use Rattle.line_laws.specs.GiveLaws.{line_gives, gives_line, gives_step, gives_then}
use Rattle.line_laws.proofs.Parts.{truth_fits, suc_is_not_zero, denied}
use Rattle.line_laws.proofs.Places.{jz_seen, related_same}

pub jmp_seen : (p : Program) (t : ℕ) (s : Spot) → Stand p s.pc (Jmp t) → seen p (live s) ≡ []
unfolding writes_next event_next
jmp_seen p t s stand = rw (stand.instr, stand.mark)

-- a jump where register 1 is not 0
pub when_gives : (p : Program) (d m most to w : ℕ) (s : Spot) (q : Goal d)
    → Stand p s.pc (Jz 1 1) → Stand p (s.pc + 1) (Jmp to) → s.regs 1 ≡ w
    → (w ≡ 0 → Gives p d m (record s { pc = s.pc + 1 + 1; clock = s.clock + 1 }) q)
    → (holds w ≡ true → Gives p d m (record s { pc = to; clock = s.clock + 1 + 1 }) q)
    → m + 2 ≤ most → Gives p d most s q
when_gives p d m most to zero s q test jump is on_zero on_more few =
    gives_step p d m most s (record s { pc = s.pc + 1 + 1; clock = s.clock + 1 }) q
    (step_jz p 1 1 s test ∙ rw is) (jz_seen p 1 1 s test) (record { fixed = λ r h. refl; kept = λ a h. refl }) (on_zero refl) (omega arith)
when_gives p d m most to (suc w) s q test jump is on_zero on_more few =
    let t : Spot = record s { pc = s.pc + 1; clock = s.clock + 1 } in
    gives_step p d (m + 1) most s t q
    (step_jz p 1 1 s test ∙ rw (is, suc_is_not_zero w)) (jz_seen p 1 1 s test) (record { fixed = λ r h. refl; kept = λ a h. refl })
    (gives_step p d m (m + 1) t (record t { pc = to; clock = t.clock + 1 }) q
    (step_jmp p to t jump) (jmp_seen p to t jump) (record { fixed = λ r h. refl; kept = λ a h. refl }) (on_more refl) (omega arith))
    (omega arith)

-- a word tested against 0 twice is its truth
twice_denied : (w z : ℕ) → z ≡ 0 → (if (if w == z then 1 else 0) == z then 1 else 0) ≡ truth (holds w)
twice_denied zero z h = rw h
twice_denied (suc w) z h = rw (h, suc_is_not_zero w)

pub truth_gives : (p : Program) (d most w : ℕ) (s : Spot) → Lie p s.pc (bares (Eq 1 0 ∷ Eq 1 0 ∷ [])) → s.regs 0 ≡ 0 → s.regs 1 ≡ w → 2 ≤ most → Gives p d most s (word_goal d (s.pc + 2) (Ok (truth (holds w))))
truth_gives p d most w s stands zero_is has few =
    own_gives p d most (Eq 1 0 ∷ Eq 1 0 ∷ []) s (truth (holds w)) stands refl (rw has (twice_denied w (s.regs 0) zero_is)) (truth_fits (holds w)) few

-- the right side's truth, behind the right side's code
right_gives : (p : Program) (d k to : ℕ) (s : Spot) (l : Layout) (c : ℕ) (store : Store) (y : Result ℕ Trap)
    → Lie p to (bares (Eq 1 0 ∷ Eq 1 0 ∷ [])) → Related l c s store → Gives p d k s (word_goal d to y) → Gives p d (k + 2) s (word_goal d (to + 2) (with_found y (λ b. Ok (truth (holds b)))))
right_gives p d k to s l c store y last related g =
    gives_then p d k 2 (k + 2) s to (λ v. word_goal d (to + 2) (with_found v (λ b. Ok (truth (holds b))))) y g
    (λ b t at_t has fits same. rw (← at_t) (truth_gives p d 2 b t (rw at_t last) (related_same l c d s t store related same).zero_is has (omega arith))) (λ why s u atoms h. h) (omega arith)

-- `||` by its left word
either_word : ℕ → Result ℕ Trap → Result ℕ Trap
either_word a y = unless_decided (decided two.Either a) (with_found y (two_words two.Either a))

either_open : (a : ℕ) (y : Result ℕ Trap) → a ≡ 0 → either_word a y ≡ with_found y (λ b. Ok (truth (holds b)))
unfolding either_word
either_open zero y h = refl
either_open (suc a) y h = absurd (omega (arith, h))

either_decided : (a : ℕ) (y : Result ℕ Trap) → holds a ≡ true → either_word a y ≡ Ok (truth (holds a))
unfolding either_word
either_decided zero y h = cc
either_decided (suc a) y h = refl

pub either_gives : (p : Program) (d m n at v w : ℕ) (s : Spot) (l : Layout) (c : ℕ) (store : Store) (left right : List Line) (x y : Result ℕ Trap)
    → length left ≡ v → length right ≡ w → s.pc ≡ at → Lie p at (either_code (at + v + w + 2) left right) → Related l c s store
    → Gives p d m s (word_goal d (at + v) x)
    → ((t : Spot) → t.pc ≡ at + v + 2 → Related l c t store → Gives p d n t (word_goal d (at + v + 2 + w) y))
    → Gives p d (12 + (m + n)) s (word_goal d (at + (v + w + 4)) (two_values two.Either x y))
unfolding either_word
either_gives p d m n at v w s l c store left right x y long_left long_right here stands related first second =
    let ends : List Line = bares (Eq 1 0 ∷ Eq 1 0 ∷ []) in
    let to : ℕ = at + v + 2 + w in
    let jump : List Line = bares (Jz 1 1 ∷ Jmp (at + v + w + 2) ∷ []) in
    let behind : Lie p (at + v) (jump ++ (right ++ ends)) = lie_behind p at left (jump ++ (right ++ ends)) (at + v) stands (omega (arith, long_left)) in
    let over : Stand p (at + v + 1) (Jmp to) = subst (λ z. Stand p (at + v + 1) (Jmp z)) (omega arith) behind.1.0 in
    let last : Lie p to ends = lie_behind p (at + v + 1 + 1) right ends to behind.1.1 (omega (arith, long_right)) in
    let end : at + (v + w + 4) ≡ to + 2 = omega arith in
    rw end (gives_then p d m (n + 4) (12 + (m + n)) s (at + v) (λ z. word_goal d (to + 2) (with_found z (λ a. either_word a y))) x first
    (λ a t at_t has fits same.
    let related_t : Related l c t store = related_same l c d s t store related same in
    when_gives p d (n + 2) (n + 4) to a t (word_goal d (to + 2) (either_word a y)) (rw at_t behind.0) (rw at_t over) has
    (λ is.
    let u : Spot = record t { pc = t.pc + 1 + 1; clock = t.clock + 1 } in
    let related_u : Related l c u store = related_same l c d t u store related_t (record { fixed = λ r h. refl; kept = λ a h. refl }) in
    rw (either_open a y is) (right_gives p d n to u l c store y last related_u (second u (omega (arith, at_t)) related_u)))
    (λ more. rw (either_decided a y more) (truth_gives p d (n + 2) a (record t { pc = to; clock = t.clock + 1 + 1 }) last related_t.zero_is has (omega arith)))
    (omega arith))
    (λ why s u atoms h. h) (omega arith))

-- `&&` by its left word
both_word : ℕ → Result ℕ Trap → Result ℕ Trap
both_word a y = unless_decided (decided two.Both a) (with_found y (two_words two.Both a))

both_open : (a : ℕ) (y : Result ℕ Trap) → holds a ≡ true → both_word a y ≡ with_found y (λ b. Ok (truth (holds b)))
unfolding both_word
both_open zero y h = cc
both_open (suc a) y h = refl

both_decided : (a : ℕ) (y : Result ℕ Trap) → holds a ≡ false → both_word a y ≡ Ok 0
unfolding both_word
both_decided zero y h = refl
both_decided (suc a) y h = cc

-- the denial of a word holds where the word doesn't
pub denial_open : (a : ℕ) → truth (not (holds a)) ≡ 0 → holds a ≡ true
denial_open zero h = cc
denial_open (suc a) h = refl

pub denial_decided : (a : ℕ) → holds (truth (not (holds a))) ≡ true → holds a ≡ false
denial_decided zero h = refl
denial_decided (suc a) h = cc

decided_word : (a x z : ℕ) → z ≡ 0 → (if x == z then 1 else 0) ≡ truth (not (holds a)) → holds (truth (not (holds a))) ≡ true → ◌≡◌ {A = ℕ} (if (if x == z then 1 else 0) == z then 1 else 0) 0
decided_word a x z h e more = ap (λ (w : ℕ). if w == z then 1 else 0) e ∙ denied (truth (not (holds a))) z h ∙ ap (λ b. truth (not b)) more

pub both_gives : (p : Program) (d m n at v w : ℕ) (s : Spot) (l : Layout) (c : ℕ) (store : Store) (left right : List Line) (x y : Result ℕ Trap)
    → length left ≡ v → length right ≡ w → s.pc ≡ at → Lie p at (both_code (at + v + w + 4) left right) → Related l c s store
    → Gives p d m s (word_goal d (at + v) x)
    → ((t : Spot) → t.pc ≡ at + v + 3 → Related l c t store → Gives p d n t (word_goal d (at + v + 3 + w) y))
    → Gives p d (12 + (m + n)) s (word_goal d (at + (v + w + 5)) (two_values two.Both x y))
unfolding both_word
both_gives p d m n at v w s l c store left right x y long_left long_right here stands related first second =
    let ends : List Line = bares (Eq 1 0 ∷ Eq 1 0 ∷ []) in
    let mid : ℕ = at + v + 3 + w in
    let to : ℕ = mid + 1 in
    let jump : List Line = bares (Eq 1 0 ∷ Jz 1 1 ∷ Jmp (at + v + w + 4) ∷ []) in
    let behind : Lie p (at + v) (jump ++ (right ++ ends)) = lie_behind p at left (jump ++ (right ++ ends)) (at + v) stands (omega (arith, long_left)) in
    let over : Stand p (at + v + 1 + 1) (Jmp to) = subst (λ z. Stand p (at + v + 1 + 1) (Jmp z)) (omega arith) behind.1.1.0 in
    let last : Lie p mid ends = lie_behind p (at + v + 1 + 1 + 1) right ends mid behind.1.1.1 (omega (arith, long_right)) in
    let end : at + (v + w + 5) ≡ mid + 2 = omega arith in
    rw end (gives_then p d m (n + 5) (12 + (m + n)) s (at + v) (λ z. word_goal d (mid + 2) (with_found z (λ a. both_word a y))) x first
    (λ a r at_r has fits same.
    let related_r : Related l c r store = related_same l c d s r store related same in
    let t : Spot = line p (Eq 1 0 ∷ []) r in
    let same_t : Same d r t = record { fixed = λ r h. simp (h.one); kept = λ a h. refl } in
    let related_t : Related l c t store = related_same l c d r t store related_r same_t in
    let denial : t.regs 1 ≡ truth (not (holds a)) = rw has (denied a (r.regs 0) related_r.zero_is) in
    gives_line p d (n + 4) (n + 5) (Eq 1 0 ∷ []) r (word_goal d (mid + 2) (both_word a y)) (rw at_r behind.0, tt) (refl, refl, tt) refl same_t
    (when_gives p d (n + 2) (n + 4) to (truth (not (holds a))) t (word_goal d (mid + 2) (both_word a y)) (rw at_r behind.1.0) (rw at_r over) denial
    (λ is.
    let u : Spot = record t { pc = t.pc + 1 + 1; clock = t.clock + 1 } in
    let related_u : Related l c u store = related_same l c d t u store related_t (record { fixed = λ r h. refl; kept = λ a h. refl }) in
    rw (both_open a y (denial_open a is)) (right_gives p d n mid u l c store y last related_u (second u (omega (arith, at_r)) related_u)))
    (λ more.
    let u : Spot = record t { pc = to; clock = t.clock + 1 + 1 } in
    let pc_is : mid + 2 ≡ to + 1 = omega arith in
    let word : (line p (Eq 1 0 ∷ []) u).regs 1 ≡ 0 = decided_word a (r.regs 1) (r.regs 0) related_r.zero_is denial more in
    rw (both_decided a y (denial_decided a more), pc_is) (line_gives p d (n + 2) (Eq 1 0 ∷ []) u 0 (last.1.0, tt) (refl, refl, tt) refl
    (record { fixed = λ r h. simp (h.one); kept = λ a h. refl }) word (omega arith) (omega arith)))
    (omega arith))
    (omega arith))
    (λ why s u atoms h. h) (omega arith))
