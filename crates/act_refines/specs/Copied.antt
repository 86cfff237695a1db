-- What a copy that is noted has to be.
use Rattle.std.specs.Prelude.{◌≡◌, ℕ, ◌+◌, ◌<◌, ◌≤◌}
use Rattle.task_ast.specs.declared.core_form.Core.{Core}
use Rattle.task_attempts.specs.Copies.{class_at}
use Rattle.walk_run.specs.declared.place.Place.{Place}
use Rattle.run_plan.specs.Cells.{CopyValued}
use Rattle.run_plan.specs.Small.{Doing, core_of}
use Rattle.line_laws.specs.Relation.{room_at}
use Rattle.layout_laws.specs.Layouts.{layout_of}

-- a place with room for so many words from there on
pub record HasSpace (c : Core) (at : Place) (n : ℕ) : Type 0 where
  pub there : at.index < room_at (layout_of c 0) at.array
  pub inside : at.index + n ≤ room_at (layout_of c 0) at.array

-- both ends have room for the copy's words, and its class is that of its ends
pub record CopyFits (d : Doing) (v : CopyValued) : Type 0 where
  pub to : HasSpace (core_of d) v.to v.length
  pub from : HasSpace (core_of d) v.from v.length
  pub class : v.class ≡ class_at d.setting v.to v.from
