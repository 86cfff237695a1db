-- The mode inside a block (docs/LANGUAGE.md, "Annotations").
use Rattle.std.specs.Prelude.{ℕ, Option, Some, None, if◌then◌else◌}
use Rattle.task_ast.specs.declared.tree.Ann.{Ann}
use Rattle.task_ast.specs.declared.tree.Ann.TheVariants.{Single, Timely, Always}
use Rattle.io_annot.specs.declared.choice.Mode.{Mode}
use Rattle.io_annot.specs.declared.choice.Mode.TheVariants.{Own, Keep, Force}
use Rattle.io_annot.specs.Choice.{is_expired}

-- the mode inside a block around which no block keeps or forces, by its annotation and the stamp of its record
abbrev pub own_entered : Ann → (stamp : Option ℕ) → (t : ℕ) → Mode
own_entered Always stamp t = Force
own_entered Single None t = Own
own_entered Single (Some stamp) t = Keep
own_entered (Timely ticks) None t = Own
own_entered (Timely ticks) (Some stamp) t = if is_expired ticks stamp t then Force else Keep

-- the mode inside a block: where a block around it keeps or forces, that one decides
abbrev pub entered : (outside : Mode) → Ann → (stamp : Option ℕ) → (t : ℕ) → Mode
entered Keep ann stamp t = Keep
entered Force ann stamp t = Force
entered Own ann stamp t = own_entered ann stamp t
