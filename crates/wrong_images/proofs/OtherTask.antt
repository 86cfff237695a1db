-- An image that begins task 1 and then looks for task 2 is sound for no program (`marked`).
use Rattle.std.specs.List.{IsDistinct}
use Rattle.std.proofs.Common.{◌≡◌, zero, suc, [], ◌∷◌, All, refl, lit<, lit≤, arith}
use Rattle.devices.specs.World.{AreWords, IsFeed, IsRow, IsWithinLimits}
use Rattle.devices.specs.declared.world.World.{World}
use Rattle.sound_images.proofs.Marked.{wrong_look_shown}
use Rattle.sound_images.specs.Sound.{IsSound}
use Rattle.task_ast.specs.declared.core_form.Core.{Core}
use Rattle.task_marks.proofs.Examples.{wrong_look}
use Rattle.task_marks.specs.Small.{begin_of_one, failing, looking, of_two}
use Rattle.word_isa.specs.declared.image.Image.{Image}
use Rattle.word_isa.specs.declared.mark.MarkKind.TheVariants as mark
use Rattle.word_isa.specs.declared.parts.Scheme.{Scheme}

-- the power fails behind the first of three steps
abbrev failing_once : World
failing_once = record { power = failing 2; feeds = []; retained = [] }

no_feeds : All IsFeed []
no_feeds k d h = absurd (omega arith)

no_words : AreWords []
no_words k d h = absurd (omega arith)

both_rows : All IsRow (failing 2)
both_rows zero d h = record { on = lit< tt; off = lit< tt; fill = lit< tt }
both_rows (suc zero) d h = record { on = lit< tt; off = lit< tt; fill = lit< tt }
both_rows (suc (suc k)) d h = absurd (omega arith)

once_within : IsWithinLimits failing_once
unfolding IsDistinct
once_within = record { distinct = tt; feeds = no_feeds; rows = both_rows; retained = no_words; steps = lit≤ tt; ticks = lit≤ tt }

pub other_task_isn't_sound : (c : Core) (scheme : Scheme) (i : Image) → i.code ≡ looking → i.marks ≡ begin_of_one ∷ of_two mark.Look 1 ∷ [] → IsSound c scheme i → ⊥
other_task_isn't_sound c scheme i code marks sound =
    wrong_look_shown (λ values fram h. wrong_look values fram h) i failing_once code marks refl (sound.runs failing_once once_within).marked
