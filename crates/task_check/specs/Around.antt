-- What surrounds a statement, as far as the rules ask for it.
use Rattle.std.specs.Prelude.{ℕ, ◌+◌, Bool, true, false, List, [], ◌∷◌, if◌then◌else◌}
use Rattle.task_ast.specs.declared.tree.Task.{Task}
use Rattle.task_ast.specs.declared.core_form.Array.{Array}
use Rattle.task_check.specs.CheckedForm.{reach_in}
use Rattle.task_check.specs.Names.{Meanings}
use Rattle.task_check.specs.Reach.{Reach}

-- The names, what the pointers of the task may reach, the variables of the loops around, unrolled ones among them, how
-- many pure loops these are, and whether an `if` is around.
pub record Around : Type 0 where
  pub names : Meanings
  pub reach : ℕ → Reach
  pub barred : List ℕ
  pub level : ℕ
  pub branched : Bool

-- directly in a task
abbrev pub in_task : Meanings → List Array → Task → Around
in_task names arrays t = record { names = names; reach = reach_in names arrays t; barred = []; level = 0; branched = false }

-- in the body of an `if`
abbrev pub in_branch : Around → Around
in_branch a = record { names = a.names; reach = a.reach; barred = a.barred; level = a.level; branched = true }

-- in the body of a loop
abbrev pub in_loop : Around → (unrolled : Bool) → (variable : ℕ) → Around
in_loop a unrolled variable = record {
  names = a.names;
  reach = a.reach;
  barred = variable ∷ a.barred;
  level = if unrolled then a.level else a.level + 1;
  branched = a.branched;
}
