-- The answer on the report of a right journal, whose names are those of an image that tells the program.
use Rattle.std.specs.Prelude.{◌^◌, false}
use Rattle.std.proofs.Common.{◌+◌, ◌<◌, ◌≤◌, length, sym, subst, arith}
use Rattle.task_ast.specs.declared.core_form.Core.{Core}
use Rattle.devices.specs.Journal.{Journal}
use Rattle.devices.specs.Reading.{values_in}
use Rattle.devices.specs.declared.world.World.{World}
use Rattle.power_trace.specs.Report as written
use Rattle.power_trace.specs.Report.{place_in, report}
use Rattle.power_trace.specs.Run.{journal_on, program_in, report_on}
use Rattle.report_text.specs.Events.{style_of}
use Rattle.report_text.specs.Written.{IsJournal}
use Rattle.sound_images.specs.Sound.{IsSound}
use Rattle.task_attempts.specs.Boots.{rules_of}
use Rattle.task_attempts.specs.Sound.{IsLegal}
use Rattle.audit_check.specs.Ended.{EndFits}
use Rattle.audit_check.specs.Fits.{BootsFit}
use Rattle.audit_laws.specs.Answers.{BootsAreNamed, IsAnswer, legal}
use Rattle.word_isa.specs.declared.image.Image.{Image}
use Rattle.word_isa.specs.declared.parts.Scheme.{Scheme}
use Rattle.word_machine.specs.State.{start}
use Rattle.audit_sound.specs.RightJournal.{IsRight}
use Rattle.audit_sound.proofs.Short.{few_bytes, few_rows}
use Rattle.audit_sound.proofs.Styles.{report_told}

-- what an audit answers on right journals
abbrev pub IsLaw : Core → World → Type 0
IsLaw c world =
    (j : Journal) → IsJournal (style_of c) j → BootsAreNamed c j.boots → IsLegal (rules_of c world) j → BootsFit 0 world.power j.boots → EndFits world.power j.boots j.steps j.ending
    → IsAnswer c world (report (style_of c) j) legal

right_legal : (c : Core) (scheme : Scheme) (i : Image) (world : World) → IsLaw c world → IsSound c scheme i → IsRight c world (journal_on i world) → IsAnswer c world (report_on i world false) legal
right_legal c scheme i world law sound right =
    subst (λ bytes. IsAnswer c world bytes legal) (sym (report_told c scheme i (journal_on i world) sound.tells))
    (law (journal_on i world) right.written right.named right.legal right.steps right.ends)

pub rows_legal : (c : Core) (scheme : Scheme) (i : Image) (world : World) → IsLaw c world → (IsSound c scheme i → length (journal_on i world).boots + 1 < 2 ^ 32 → IsRight c world (journal_on i world))
    → IsSound c scheme i → length world.power + 1 < 2 ^ 32 → IsAnswer c world (report_on i world false) legal
rows_legal c scheme i world law right sound few =
    let boots : length (journal_on i world).boots ≤ length world.power = few_rows (place_in i) (program_in i (values_in world.feeds)) world.power 0 (start i.fram) in
    right_legal c scheme i world law sound (right sound (omega (arith, few, boots)))

pub bytes_legal : (c : Core) (scheme : Scheme) (i : Image) (world : World) → IsLaw c world → (IsSound c scheme i → length (journal_on i world).boots + 1 < 2 ^ 32 → IsRight c world (journal_on i world))
    → IsSound c scheme i → length (report_on i world false) ≤ 67108864 → IsAnswer c world (report_on i world false) legal
bytes_legal c scheme i world law right sound few =
    let boots : length (journal_on i world).boots ≤ length (report_on i world false) = few_bytes (written.style_of i false) (journal_on i world) in
    right_legal c scheme i world law sound (right sound (omega (arith, few, boots)))
