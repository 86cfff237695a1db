-- The journal of a sound image is right.
use Rattle.std.specs.Prelude.{◌^◌}
use Rattle.std.proofs.Common.{◌≡◌, ℕ, ◌+◌, ◌<◌, List, length}
use Rattle.task_ast.specs.declared.core_form.Core.{Core}
use Rattle.devices.specs.Reading.{values_in}
use Rattle.devices.specs.World.{IsWithinLimits}
use Rattle.devices.specs.declared.world.World.{World}
use Rattle.power_trace.specs.Report.{Style, place_in}
use Rattle.power_trace.specs.Run.{journal_on, program_in}
use Rattle.report_text.specs.Events.{style_of}
use Rattle.report_text.specs.Written.{IsJournal}
use Rattle.sound_images.specs.Sound.{IsSound}
use Rattle.task_attempts.specs.Boots.{expect, rules_of}
use Rattle.task_attempts.specs.Sound.{AllEndWell}
use Rattle.audit_check.specs.Ended.{EndFits}
use Rattle.audit_check.specs.Fits.{BootsFit}
use Rattle.word_isa.specs.declared.image.Image.{Image}
use Rattle.word_isa.specs.declared.parts.Scheme.{Scheme}
use Rattle.word_machine.specs.Runs.{boots}
use Rattle.word_machine.specs.State.{start}
use Rattle.journal_fits.specs.Names.{AllNamePeripherals}
use Rattle.audit_sound.specs.RightJournal.{IsRight}
use Rattle.audit_sound.proofs.Named.{journal_named}
use Rattle.audit_sound.proofs.Styles.{as_many}

-- by what holds of every machine's journal and of the rules
pub journal_right : (c : Core) (scheme : Scheme) (i : Image) (world : World)
    → ((style : Style) → length style.symbols ≡ length i.symbols → length (journal_on i world).boots + 1 < 2 ^ 32 → IsJournal style (journal_on i world))
    → ((cuts looks : List ℕ) → AllNamePeripherals c (expect (rules_of c world) cuts looks))
    → BootsFit 0 world.power (boots (place_in i) (program_in i (values_in world.feeds)) world.power 0 (start i.fram))
    → (AllEndWell 1 (journal_on i world).steps (journal_on i world).boots (journal_on i world).ending → EndFits world.power (journal_on i world).boots (journal_on i world).steps (journal_on i world).ending)
    → IsWithinLimits world → IsSound c scheme i → length (journal_on i world).boots + 1 < 2 ^ 32 → IsRight c world (journal_on i world)
journal_right c scheme i world writes names steps ends limits sound count =
    let keeps = (sound.runs world limits).keeps in
    let written : IsJournal (style_of c) (journal_on i world) = writes (style_of c) (as_many c.arrays i.symbols sound.tells.symbols) count in
    record {
      written = written;
      named = journal_named c world (journal_on i world) names written keeps.legal;
      legal = record { expected = keeps.legal.expected; timed = keeps.legal.timed };
      steps = steps;
      ends = ends keeps.ends;
    }
