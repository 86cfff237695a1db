-- A step that shows two things: no number of steps ends between them.
use Rattle.std.specs.Prelude.{length, nat_le}
use Rattle.std.proofs.Common.{◌≡◌, ◌≢◌, ◌∙◌, ℕ, ◌+◌, ◌-◌, ◌<◌, ◌≤◌, Bool, true, false, List, [], ◌∷◌, ◌++◌, append_assoc, length-append, refl, sym, ap, subst, arith}
use Rattle.std.proofs.lemmas.Bool.Decides.{nat_tests}
use Rattle.devices.specs.Journal.{Place}
use Rattle.word_machine.specs.RunLaws.{trace_more}
use Rattle.word_machine.specs.State.{Program}
use Rattle.word_machine.specs.Step.{exec}
use Rattle.word_machine.specs.Straight.{Spot, live}
use Rattle.word_machine.specs.Traces as trace
use Rattle.line_code.specs.declared.line.Line.{Line}
use Rattle.line_laws.specs.Standing.{Lie, lie_front}
use Rattle.act_laws.specs.Codes.{Fixed, HasFixed, code_atoms, ready, top}
use Rattle.act_laws.specs.CodeLaws.{goes_code, shape_is}
use Rattle.act_refines.specs.Seen.{trace_seen}

-- as many things are seen as the trace has
pub seen_long : (place_of : ℕ → Place) (atoms : List trace.Atom) → length (trace_seen place_of atoms) ≡ length atoms
seen_long place_of [] = refl
seen_long place_of (trace.wrote at word ∷ atoms) = omega (arith, seen_long place_of atoms)
seen_long place_of (trace.showed e ∷ atoms) = omega (arith, seen_long place_of atoms)

-- more steps show no less
longer : (p : Program) (n k : ℕ) (m : Spot) → n ≤ k → length (trace.trace p n (live m)) ≤ length (trace.trace p k (live m))
longer p n k m few =
    let whole : n + (k - n) ≡ k = omega (arith, few) in
    let long : length (trace.trace p k (live m)) ≡ length (trace.trace p n (live m)) + length (trace.trace p (k - n) (exec p n (live m))) =
    sym (ap (λ j. length (trace.trace p j (live m))) whole) ∙ ap length (trace_more p n (k - n) (live m)) ∙ length-append (trace.trace p n (live m)) (trace.trace p (k - n) (exec p n (live m))) in
    omega (arith, long)

is_few : (n k : ℕ) → nat_le n k ≡ true → n ≤ k
is_few n k is = grind (arith, nat_tests)

is_more : (n k : ℕ) → nat_le n k ≡ false → k + 1 ≤ n
is_more n k is = grind (arith, nat_tests)

-- up to a step fewer things are seen than these, and behind it more
pub steps_over : (p : Program) (place_of : ℕ → Place) (k : ℕ) (m : Spot) (many : ℕ) → length (trace.trace p k (live m)) < many → many < length (trace.trace p (k + 1) (live m)) → (n : ℕ) → length (trace_seen place_of (trace.trace p n (live m))) ≢ many
steps_over p place_of k m many before after n is = by_test (nat_le n k) refl
  where
    by_test : (b : Bool) → nat_le n k ≡ b → ⊥
    by_test true few = omega (arith, before, is, seen_long place_of (trace.trace p n (live m)), longer p n k m (is_few n k few))
    by_test false more = omega (arith, after, is, seen_long place_of (trace.trace p n (live m)), longer p (k + 1) n m (is_more n k more))

-- a line whose step shows two things
pub code_over : (p : Program) (place_of : ℕ → Place) (x : Fixed) (front : List Line) (w : Line) (rest : List Line) (s : Spot) (many : ℕ) → HasFixed x s → Lie p s.pc (front ++ (w ∷ rest)) → ready p front (top x s) ≡ true → ready p (front ++ (w ∷ [])) (top x s) ≡ true
    → length (code_atoms p front (top x s)) < many → many < length (code_atoms p (front ++ (w ∷ [])) (top x s)) → (n : ℕ) → length (trace_seen place_of (trace.trace p n (live s))) ≢ many
code_over p place_of x front w rest s many fixed has one two before after =
    let joined : front ++ (w ∷ rest) ≡ (front ++ (w ∷ [])) ++ rest = sym (append_assoc front (w ∷ []) rest) in
    let all : Lie p s.pc ((front ++ (w ∷ [])) ++ rest) = subst (Lie p s.pc) joined has in
    let a : trace.trace p (length front) (live (top x s)) ≡ code_atoms p front (top x s) = (goes_code p front (top x s) (lie_front p s.pc front (w ∷ rest) has) one).seen in
    let b : trace.trace p (length (front ++ (w ∷ []))) (live (top x s)) ≡ code_atoms p (front ++ (w ∷ [])) (top x s) = (goes_code p (front ++ (w ∷ [])) (top x s) (lie_front p s.pc (front ++ (w ∷ [])) rest all) two).seen in
    let long : length (front ++ (w ∷ [])) ≡ length front + 1 = length-append front (w ∷ []) in
    let c : length (trace.trace p (length front + 1) (live (top x s))) ≡ length (code_atoms p (front ++ (w ∷ [])) (top x s)) = sym (ap (λ j. length (trace.trace p j (live (top x s)))) long) ∙ ap length b in
    subst (λ r. (n : ℕ) → length (trace_seen place_of (trace.trace p n (live (record s { regs = r })))) ≢ many) (sym (shape_is x s fixed))
    (steps_over p place_of (length front) (top x s) many (omega (arith, ap length a, before)) (omega (arith, c, after)))
