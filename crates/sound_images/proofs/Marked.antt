-- The events of an image's runs come from marks of the tasks that began last; and an image whose look is another task's.
use Rattle.std.proofs.Common.{◌≡◌, ℕ, List, [], ◌∷◌, None, subst, sym}
use Rattle.code_places.specs.Placed.{program_by}
use Rattle.devices.specs.Reading.{values_in}
use Rattle.devices.specs.declared.world.PowerRow.{PowerRow}
use Rattle.devices.specs.declared.world.World.{World}
use Rattle.task_ast.specs.declared.core_form.Core.{Core}
use Rattle.task_marks.specs.Small.{begin_of_one, failing, looking, of_two, small_run}
use Rattle.task_marks.specs.Told.{AtTheirTasks, marks_on}
use Rattle.word_isa.specs.declared.image.Image.{Image}
use Rattle.word_isa.specs.declared.mark.Mark.{Mark}
use Rattle.word_isa.specs.declared.mark.MarkKind.TheVariants as mark
use Rattle.word_isa.specs.declared.parts.Scheme.{Scheme}
use Rattle.word_machine.specs.State.{program_of, start}
use Rattle.run_plan.specs.PlanOf.{plan_of}
use Rattle.word_code.specs.CodeOf.{code_of, marks_of}
use Rattle.word_code.specs.ImageOf.{IsImageOf}
use Rattle.sound_images.specs.Sound.{marks_shown}

-- what is said of the runs of a plan's code
abbrev AreNamed : Core → Scheme → Type 0
AreNamed c scheme = (values : ℕ → List ℕ) (rows : List PowerRow) (fram : List ℕ)
    → AtTheirTasks None (marks_on (marks_of 0 (code_of (plan_of c scheme) c)) (program_by (plan_of c scheme) c values) rows (start fram))

pub image_marked : (c : Core) (scheme : Scheme) (i : Image) → IsImageOf (plan_of c scheme) c i → AreNamed c scheme → (world : World) → AtTheirTasks None (marks_shown i world)
image_marked c scheme i image named world =
    let same : marks_shown i world ≡ marks_on (marks_of 0 (code_of (plan_of c scheme) c)) (program_by (plan_of c scheme) c (values_in world.feeds)) world.power (start i.fram) =
    (λ j. marks_on (image.marks j) (program_of (image.code j) (image.marks j) (values_in world.feeds)) world.power (start i.fram)) in
    subst (AtTheirTasks None) (sym same) (named (values_in world.feeds) world.power i.fram)

-- whatever its FRAM, its names and what the world reads
pub wrong_look_shown : ((values : ℕ → List ℕ) (fram : List ℕ) → AtTheirTasks None (small_run looking (begin_of_one ∷ of_two mark.Look 1 ∷ []) values fram 2) → ⊥)
    → (i : Image) (world : World) → i.code ≡ looking → i.marks ≡ begin_of_one ∷ of_two mark.Look 1 ∷ [] → world.power ≡ failing 2 → AtTheirTasks None (marks_shown i world) → ⊥
wrong_look_shown refused i world code marks power h =
    let same : marks_shown i world ≡ small_run looking (begin_of_one ∷ of_two mark.Look 1 ∷ []) (values_in world.feeds) i.fram 2 =
    (λ j. marks_on (marks j) (program_of (code j) (marks j) (values_in world.feeds)) (power j) (start i.fram)) in
    refused (values_in world.feeds) i.fram (subst (AtTheirTasks None) same h)
