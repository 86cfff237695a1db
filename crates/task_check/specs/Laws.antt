-- Accepted programs are those without a first fault.
use Rattle.std.specs.Prelude.{◌≡◌, List, [], ◌∷◌, Some, None}
use Rattle.std.proofs.Common.{refl, sym, ap, ◌∙◌, is_some, true≢false}
use Rattle.task_ast.specs.declared.tree.Program.{Program}
use Rattle.task_check.specs.declared.error.CheckError.{CheckError}
use Rattle.task_check.specs.Faults.{first, first_fault, faults, Accepted}

-- an accepted program has no first fault
pub accepted-none : (p : Program) → Accepted p → first_fault p ≡ None
accepted-none p none = ap first none

-- a program with a first fault isn't accepted
pub refused-not : (p : Program) (e : CheckError) → first_fault p ≡ Some e → Accepted p → ⊥
refused-not p e some none = true≢false (sym (ap is_some some) ∙ ap is_some (accepted-none p none))

empty : (es : List CheckError) → first es ≡ None → es ≡ []
empty [] h = refl
empty (e ∷ es) h = absurd (true≢false (ap is_some h))

-- a program without a first fault is accepted
pub none-accepted : (p : Program) → first_fault p ≡ None → Accepted p
none-accepted p h = empty (faults p) h
