-- What an act notes in RAM, a word at a time.
use Rattle.std.specs.Prelude.{◌≡◌, ℕ, ◌+◌, ◌^◌, ◌<◌, ⊤, Some}
use Rattle.task_ast.specs.declared.core_form.Core.{Core}
use Rattle.io_annot.specs.declared.choice.Mode.{Mode}
use Rattle.walk_run.specs.declared.place.Place.{Place}
use Rattle.task_attempts.specs.Changes.{put}
use Rattle.run_plan.specs.Cells.{Frame}
use Rattle.word_code.specs.Frames.{begun_at, outer_at}
use Rattle.act_laws.specs.Words.{mode_word}
use Rattle.cell_laws.specs.Standing.{IsSite}

-- one word that is noted: the mode, a look's time, the word that was read or kept, and of a block the mode around it and the time
-- of its beginning
pub data Note : Type 0 where
  notes_mode : Mode → Note
  notes_time : (time : ℕ) → Note
  notes_word : (word : ℕ) → Note
  notes_outer : (site : ℕ) → Mode → Note
  notes_begun : (site time : ℕ) → Note

-- its cell
abbrev pub cell_of : Note → ℕ
cell_of (notes_mode o) = 1048615
cell_of (notes_time t) = 1048613
cell_of (notes_word w) = 1048614
cell_of (notes_outer k o) = 1048576 + outer_at k
cell_of (notes_begun k t) = 1048576 + begun_at k

-- the word that it has there
abbrev pub noted_word : Note → ℕ
noted_word (notes_mode o) = mode_word o
noted_word (notes_time t) = t
noted_word (notes_word w) = w
noted_word (notes_outer k o) = mode_word o
noted_word (notes_begun k t) = t

-- what lives between acts behind it
abbrev pub after_note : Note → Frame → Frame
after_note (notes_mode o) f = record f { mode = Some o }
after_note (notes_time t) f = record f { time = Some t }
after_note (notes_word w) f = record f { word = Some w }
after_note (notes_outer k o) f = record f { outer = put k (Some o) f.outer }
after_note (notes_begun k t) f = record f { begun = put k (Some t) f.begun }

-- it is a word, of a site that is there
abbrev pub NoteFits : Note → Type 0
NoteFits (notes_mode o) = ⊤
NoteFits (notes_time t) = t < 2 ^ 32
NoteFits (notes_word w) = w < 2 ^ 32
NoteFits (notes_outer k o) = IsSite k
NoteFits (notes_begun k t) = IsSite k × (t < 2 ^ 32)
