-- That a journal tells words by their places.
use Rattle.std.specs.Prelude.{◌≡◌, ℕ, ◌+◌, ◌<◌}
use Rattle.devices.specs.Journal.{Place, keep}
use Rattle.task_ast.specs.declared.core_form.Core.{Core}
use Rattle.task_attempts.specs.Copies.{shown}
use Rattle.walk_run.specs.declared.place.Place as walked
use Rattle.word_isa.specs.declared.parts.Scheme.{Scheme}
use Rattle.line_laws.specs.Relation.{room_at}
use Rattle.layout_laws.specs.Layouts.{layout_of}
use Rattle.word_code.specs.CodeOf.{most_kept}
use Rattle.cell_laws.specs.Standing.{address_in, worked}
use Rattle.act_refines.specs.Between.{IsBank}

-- The address of a word is told as its place, in the bank that is worked in; and those of kept words as kept.
pub record TellsPlaces (place_of : ℕ → Place) (c : Core) (scheme : Scheme) : Type 0 where
  pub places : (bank : ℕ) → IsBank scheme bank → (at : walked.Place) → at.index < room_at (layout_of c 0) at.array → place_of (address_in c (worked scheme bank) at) ≡ shown at
  pub kept : (n : ℕ) → n < most_kept c.tasks → place_of (7042 + n) ≡ keep
