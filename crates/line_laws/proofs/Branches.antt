-- The code of a choice: one of two runs.
use Rattle.std.proofs.Common.{◌≡◌, ◌∙◌, ℕ, zero, suc, ◌+◌, List, [], ◌∷◌, ◌++◌, length, refl, arith}
use Rattle.task_ast.specs.declared.core_form.CoreExpr.{CoreExpr}
use Rattle.task_ast.specs.WellFormed.{Scope, IsOver}
use Rattle.word_isa.specs.declared.instr.Instr.TheVariants.{Jmp}
use Rattle.walk_run.specs.Plain.{Ran, if_found, chosen, branched}
use Rattle.walk_run.specs.PlainSteps.{expr_steps, found_steps, branch_steps}
use Rattle.walk_run.specs.PlainWrites.{Write, found_writes, branch_writes}
use Rattle.walk_run.specs.Store.{Store}
use Rattle.walk_run.specs.Value.{value_of}
use Rattle.word_machine.specs.State.{Program}
use Rattle.word_machine.specs.Straight.{Stand, Spot}
use Rattle.line_code.specs.declared.line.Line.{Line}
use Rattle.line_code.specs.Lines.{bares}
use Rattle.line_code.specs.Sizes.{expr_size}
use Rattle.line_code.specs.Expressions.{expr_code}
use Rattle.line_code.specs.Statements.{unless_code, if_code}
use Rattle.line_code.specs.Fitting.{IsShort}
use Rattle.line_laws.specs.Gives.{Gives}
use Rattle.line_laws.specs.Goals.{run_goal}
use Rattle.line_laws.specs.Relation.{Layout, Related}
use Rattle.line_laws.specs.Standing.{Lie, lie_front, lie_behind}
use Rattle.line_laws.specs.CodeSizes.{expr_long}
use Rattle.line_laws.proofs.Found.{word_then}
use Rattle.line_laws.proofs.Places.{related_same}
use Rattle.line_laws.proofs.RunGoals.{run_trap, run_jump, unless_gives}
use Rattle.line_laws.proofs.ExpressionWorks.{expr_works}

-- what a part of a choice does, wherever it stands
abbrev pub PartWorks : (p : Program) (l : Layout) (c from to : ℕ) (store : Store) (steps : Store → ℕ) (writes : Store → List Write) (run : Store → Ran) → Type 0
PartWorks p l c from to store steps writes run = (t : Spot) → t.pc ≡ from → Related l c t store → Gives p 0 (steps store) t (run_goal l c to (writes store) (run store))

-- by the condition's word
branch_on : (p : Program) (w : ℕ) (t : Spot) (l : Layout) (c yes_at yes_end no_at end : ℕ) (store : Store) (f g : Store → ℕ) (a b : Store → List Write) (x y : Store → Ran)
    → Lie p t.pc (unless_code no_at) → t.pc + 3 ≡ yes_at → Stand p yes_end (Jmp end) → Related l c t store → t.regs 1 ≡ w
    → PartWorks p l c yes_at yes_end store f a x → PartWorks p l c no_at end store g b y
    → Gives p 0 (chosen w f g store + 4) t (run_goal l c end (chosen w a b store) (chosen w x y store))
branch_on p zero t l c yes_at yes_end no_at end store f g a b x y stands here jump related has yes_works no_works =
    unless_gives p (g store) (g store + 4) no_at 0 t (run_goal l c end (b store) (y store)) stands related.zero_is has
    (λ is u at_u same. cc)
    (λ is u at_u same. no_works u at_u (related_same l c 0 t u store related same))
    (omega arith)
branch_on p (suc w) t l c yes_at yes_end no_at end store f g a b x y stands here jump related has yes_works no_works =
    unless_gives p (f store + 1) (f store + 4) no_at (suc w) t (run_goal l c end (a store) (x store)) stands related.zero_is has
    (λ is u at_u same. run_jump p (f store) u l c yes_end end (a store) (x store) (yes_works u (at_u ∙ here) (related_same l c 0 t u store related same)) jump)
    (λ is u at_u same. cc)
    (omega arith)

-- a choice
pub if_gives : (p : Program) (scope : Scope) (l : Layout) (store : Store) (e : CoreExpr) (at v w : ℕ) (yes_part no_part : List Line) (s : Spot) (f g : Store → ℕ) (a b : Store → List Write) (x y : Store → Ran)
    → length yes_part ≡ v → length no_part ≡ w → s.pc ≡ at
    → Lie p at (if_code (at + expr_size e + 3 + v + 1) (at + expr_size e + 3 + v + 1 + w) (expr_code l.areas e 0 at) yes_part no_part)
    → Related l scope.pointers s store → IsOver scope e → IsShort 0 e
    → PartWorks p l scope.pointers (at + expr_size e + 3) (at + expr_size e + 3 + v) store f a x → PartWorks p l scope.pointers (at + expr_size e + 3 + v + 1) (at + expr_size e + 3 + v + 1 + w) store g b y
    → Gives p 0 (15 + expr_steps e + found_steps (value_of e store) (λ word. chosen word f g store)) s (run_goal l scope.pointers (at + (expr_size e + v + w + 4)) (branch_writes e a b store) (branched e x y store))
if_gives p scope l store e at v w yes_part no_part s f g a b x y long_yes long_no here stands related over short yes_works no_works =
    let c : ℕ = scope.pointers in
    let yes_at : ℕ = at + expr_size e + 3 in
    let no_at : ℕ = yes_at + v + 1 in
    let pc : ℕ = no_at + w in
    let end : at + (expr_size e + v + w + 4) ≡ pc = omega arith in
    let cond : List Line = expr_code l.areas e 0 at in
    let last : List Line = bares (Jmp pc ∷ []) ++ no_part in
    let behind : Lie p (at + expr_size e) (unless_code no_at ++ (yes_part ++ last)) = lie_behind p at cond (unless_code no_at ++ (yes_part ++ last)) (at + expr_size e) stands (omega (arith, expr_long l.areas e 0 at)) in
    let at_yes : Lie p yes_at (yes_part ++ last) = lie_behind p (at + expr_size e) (unless_code no_at) (yes_part ++ last) yes_at behind refl in
    let at_jump : Lie p (yes_at + v) last = lie_behind p yes_at yes_part last (yes_at + v) at_yes (omega (arith, long_yes)) in
    rw end (word_then p 0 0 (expr_steps e) (λ word. chosen word f g store + 4) s (at + expr_size e) (λ r. run_goal l c pc (found_writes r (λ word. chosen word a b store)) (if_found r store (λ word. chosen word x y store)))
    (λ r. 15 + expr_steps e + found_steps r (λ word. chosen word f g store)) (value_of e store) (omega arith)
    (expr_works p scope l store e 0 at s here (lie_front p at cond _ stands) related over short)
    (λ word t at_t has fits same.
    branch_on p word t l c yes_at (yes_at + v) no_at pc store f g a b x y (rw at_t (lie_front p (at + expr_size e) (unless_code no_at) _ behind)) (omega (arith, at_t)) at_jump.0
    (related_same l c 0 s t store related same) has yes_works no_works)
    (run_trap l c pc store) (λ word. omega arith) (λ why. omega arith))
