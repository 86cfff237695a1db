-- An act that values an expression: its code leads on with the word, or traps.
use Rattle.std.specs.Prelude.{◌==◌, if◌then◌else◌}
use Rattle.std.proofs.Common.{◌≡◌, ◌∙◌, ℕ, zero, suc, ◌+◌, ◌*◌, ◌^◌, ◌<◌, ◌≤◌, false, List, [], ◌∷◌, ◌++◌, length, Option, Some, None, Result, Ok, Err, refl, sym, ap, subst, arith}
use Rattle.std.proofs.lemmas.Bool.Decides.{nat_tests}
use Rattle.task_ast.specs.declared.core_form.CoreExpr.{CoreExpr}
use Rattle.task_ast.specs.WellFormed.{Scope}
use Rattle.walk_run.specs.Operators.{holds}
use Rattle.walk_run.specs.PlainSteps.{expr_steps}
use Rattle.walk_run.specs.Store.{Store}
use Rattle.walk_run.specs.Trap.{code_of}
use Rattle.walk_run.specs.Value.{value_of}
use Rattle.walk_run.specs.declared.trap.Trap as walked
use Rattle.word_isa.specs.declared.instr.Instr.TheVariants.{Eq, Jmp, Jz}
use Rattle.word_machine.specs.State.{Program}
use Rattle.word_machine.specs.Step.{exec}
use Rattle.word_machine.specs.Straight.{Spot, live}
use Rattle.word_machine.specs.Traces.{Atom, trace}
use Rattle.line_code.specs.declared.line.Line.{Line}
use Rattle.line_code.specs.Lines.{bares}
use Rattle.line_code.specs.Sizes.{expr_size}
use Rattle.line_code.specs.Expressions.{expr_code}
use Rattle.line_laws.specs.CodeSizes.{expr_long}
use Rattle.line_laws.specs.Gives.{IsKept, Same, Gives, word_goal}
use Rattle.line_laws.specs.Relation.{Layout}
use Rattle.line_laws.specs.Standing.{Lie, lie_front, lie_behind}
use Rattle.line_laws.specs.Works.{Works}
use Rattle.word_code.specs.ActCode.{test_code}
use Rattle.act_laws.specs.Codes.{Fixed, HasFixed, Acts, after_code}
use Rattle.act_laws.specs.CodeLaws.{goes_acts, line_then, fork_then, arrived}
use Rattle.act_laws.specs.Values.{Nearly, Traps, Tested, TestDoes}
use Rattle.act_laws.proofs.Counted.{counted, issued_traced}

kept : (r : ℕ) → (1 == r) ≡ false → (2 == r) ≡ false → (3 == r) ≡ false → IsKept r
kept r a b c = record { one = a; two = b; three = c }

pub fixed_same : (x : Fixed) (d : ℕ) (s t : Spot) → HasFixed x s → Same d s t → HasFixed x t
fixed_same x d s t h same =
    (same.fixed 0 (kept 0 refl refl refl) ∙ h.0, same.fixed 12 (kept 12 refl refl refl) ∙ h.1, same.fixed 13 (kept 13 refl refl refl) ∙ h.2, same.fixed 14 (kept 14 refl refl refl) ∙ h.3, same.fixed 15 (kept 15 refl refl refl) ∙ h.4)

-- an expression's word before what goes on with it
pub valued_then : (p : Program) (x : Fixed) (m k most mid word pc : ℕ) (s : Spot) (store : ℕ → ℕ) (atoms : List Atom) → HasFixed x s → Gives p 0 m s (word_goal 0 mid (Ok word))
    → ((t : Spot) → t.pc ≡ mid → t.regs 1 ≡ word → word < 2 ^ 32 → Same 0 s t → HasFixed x t → t.issued ≡ s.issued → Nearly p x k t pc store atoms)
    → m + k ≤ most → Nearly p x most s pc store atoms
valued_then p x m k most mid word pc s store atoms h g go few =
    let t : Spot = g.met.there in
    let runs : exec p g.steps (live s) ≡ live t = g.runs ∙ g.met.goes_on in
    let quiet : trace p g.steps (live s) ≡ [] = g.shows ∙ g.met.quiet in
    let counts : t.issued ≡ s.issued = ap (λ u. u.issued) (sym runs) ∙ issued_traced p g.steps (live s) ∙ ap (λ a. counted p a s.issued) quiet in
    let n : Nearly p x k t pc store atoms = go t g.met.at g.met.has g.met.fits g.met.same (fixed_same x 0 s t h g.met.same) counts in
    record {
      left = n.left;
      same = n.same;
      acts = goes_acts p x g.steps k most s t (record { pc = pc; store = n.left; issued = s.issued; atoms = atoms }) [] atoms (record { runs = runs; seen = quiet })
          (subst (λ c. Acts p x k t (record { pc = pc; store = n.left; issued = c; atoms = atoms })) counts n.acts) (omega (arith, g.few, few)) refl;
    }

pub valued_trap : (p : Program) (m most mid : ℕ) (why : walked.Trap) (s : Spot) → Gives p 0 m s (word_goal 0 mid (Err why)) → m ≤ most → Traps p most s (code_of why)
valued_trap p m most mid why s g few = record { steps = g.steps; few = omega (arith, g.few, few); ended = ap (λ u. u.ending) g.runs ∙ g.met.ended; quiet = g.shows ∙ g.met.quiet }

test_is : (w z : ℕ) → z ≡ 0 → ((if w == z then 1 else 0) == 0) ≡ holds w
test_is zero z h = rw h
test_is (suc w) z h = let e : (suc w == 0) ≡ false = grind (arith, nat_tests) in rw (h, e)

-- a test, by its word
tested : (p : Program) (x : Fixed) (n mid first second : ℕ) (s : Spot) (r : Result ℕ walked.Trap) → HasFixed x s → Gives p 0 n s (word_goal 0 mid r) → Lie p mid (test_code first second) → Tested p x (n + 3) s first second r
tested p x n mid first second s (Err why) h g has = valued_trap p n (n + 3) mid why s g (omega arith)
tested p x n mid first second s (Ok word) h g has =
    valued_then p x n 3 (n + 3) mid word (if holds word then first else second) s s.store [] h g
    (λ t at_t is_word fits same fixed counts.
    let at : Lie p t.pc (test_code first second) = rw at_t has in
    record {
      left = t.store;
      same = same.kept;
      acts = line_then p x 2 3 (bares (Eq 1 0 ∷ [])) t (record { pc = if holds word then first else second; store = t.store; issued = t.issued; atoms = [] }) [] (at.0, tt) refl
          (fork_then p x 0 2 1 second first (after_code p (bares (Eq 1 0 ∷ [])) t) _ (holds word) at.1 (rw is_word (test_is word (t.regs 0) fixed.0)) (arrived p x 0 _ _ fixed refl refl refl refl) (omega arith)) (omega arith) refl;
    })
    (omega arith)

pub test_acts : (works : (p : Program) (scope : Scope) (l : Layout) (store : Store) (e : CoreExpr) → Works p scope l store e)
    → (p : Program) (x : Fixed) (scope : Scope) (l : Layout) (store : Store) (e : CoreExpr) (first second : ℕ) (s : Spot) → TestDoes p x scope l store e first second s
test_acts works p x scope l store e first second s h related over short has =
    let code : List Line = expr_code l.areas e 0 s.pc in
    tested p x (expr_steps e) (s.pc + expr_size e) first second s (value_of e store) h (works p scope l store e 0 s.pc s refl (lie_front p s.pc code (test_code first second) has) related over short)
    (lie_behind p s.pc code (test_code first second) (s.pc + expr_size e) has (omega (arith, expr_long l.areas e 0 s.pc)))
