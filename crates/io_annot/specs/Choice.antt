-- Whether an I/O site keeps its recorded value or issues (docs/LANGUAGE.md, "Annotations").
use Rattle.std.specs.Prelude.{ℕ, ◌+◌, Bool, Option, Some, None, nat_lt, if◌then◌else◌}
use Rattle.task_ast.specs.declared.tree.Ann.{Ann}
use Rattle.task_ast.specs.declared.tree.Ann.TheVariants.{Single, Timely, Always}
use Rattle.io_annot.specs.declared.choice.Mode.{Mode}
use Rattle.io_annot.specs.declared.choice.Mode.TheVariants as mode
use Rattle.io_annot.specs.declared.choice.Choice.{Choice}
use Rattle.io_annot.specs.declared.choice.Choice.TheVariants.{Keep, Issue}

-- A record made at a stamp is expired at a time: more than so many ticks have passed.
abbrev pub is_expired : (ticks stamp t : ℕ) → Bool
is_expired ticks stamp t = nat_lt (stamp + ticks) t

-- the stamp of a record of value and stamp
abbrev pub stamp_of : Option (ℕ × ℕ) → ℕ
stamp_of None = 0
stamp_of (Some r) = r.1

-- what a site does with its record by its own annotation
abbrev pub own_choice : Ann → (value stamp t : ℕ) → Choice
own_choice Single value stamp t = Keep value
own_choice (Timely ticks) value stamp t = if is_expired ticks stamp t then Issue else Keep value
own_choice Always value stamp t = Issue

-- What a site does at its look: without a record it issues; with one, in a block that keeps or forces the block
-- decides, and else its own annotation.
abbrev pub choice : Mode → Ann → (kept : Option (ℕ × ℕ)) → (t : ℕ) → Choice
choice m ann None t = Issue
choice mode.Keep ann (Some r) t = Keep r.0
choice mode.Force ann (Some r) t = Issue
choice mode.Own ann (Some r) t = own_choice ann r.0 r.1 t
