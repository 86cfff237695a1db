-- The faults at a declaration and at a task, by counts of what came before them.
use Rattle.std.specs.Prelude.{ℕ, ◌+◌, List, [], ◌∷◌, ◌++◌}
use Rattle.task_ast.specs.declared.tree.Name.{Name}
use Rattle.task_ast.specs.declared.tree.Decl.{Decl}
use Rattle.task_ast.specs.declared.tree.Task.{Task}
use Rattle.task_ast.specs.declared.core_form.Array.{Array}
use Rattle.task_check.specs.declared.error.CheckError.{CheckError}
use Rattle.task_check.specs.Names.{Meanings, decl_name}
use Rattle.task_check.specs.Refusals.{twice_numbered, too_many_values}
use Rattle.task_check.specs.Limits.{task_limit, name_limit, bytes_limit, length_limit, number_limit, nv_limit, vol_limit, fram_words, ram_words}
use Rattle.task_check.specs.Nodes.{nodes_of_task}
use Rattle.task_check.specs.Faults.{inner_faults, close_faults}
use Rattle.task_check.specs.Bearers.{other_bearer}

-- the first of a declaration's faults behind its name's first rule: it is the one of this number, behind these
-- peripherals' numbers
abbrev pub front_at : ℕ → List ℕ → Decl → List CheckError
front_at number taken d = twice_numbered taken d ++ too_many_values d ++ name_limit (decl_name d).at number

-- the others, behind so many words
abbrev pub decl_at : ℕ → List ℕ → ℕ → ℕ → Decl → List CheckError
decl_at number taken fram ram d =
    front_at number taken d ++ nv_limit (decl_name d).at (fram + fram_words d) ++ vol_limit (decl_name d).at (ram + ram_words d)
    ++ length_limit d ++ bytes_limit (decl_name d) ++ number_limit d

-- the faults at the name of the task of this number, behind so many declarations
abbrev pub name_at : Meanings → ℕ → ℕ → Name → List CheckError
name_at names words number x = other_bearer x.at number (names x.text) ++ task_limit x.at number ++ name_limit x.at (words + number) ++ bytes_limit x

-- the faults of a task, behind so many declarations, tasks and nodes
abbrev pub task_at : Meanings → List Array → ℕ → ℕ → ℕ → Task → List CheckError
task_at names arrays words number nodes t =
    name_at names words (number + 1) t.name ++ inner_faults names arrays t ++ close_faults names arrays nodes t

-- the faults of tasks, behind so many declarations, tasks and nodes
abbrev pub tasks_at : Meanings → List Array → ℕ → ℕ → ℕ → List Task → List CheckError
tasks_at names arrays words number nodes [] = []
tasks_at names arrays words number nodes (t ∷ ts) =
    task_at names arrays words number nodes t ++ tasks_at names arrays words (number + 1) (nodes + nodes_of_task t) ts
