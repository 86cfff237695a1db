-- The lines of the boots and the line of the end are the report.
use Rattle.std.proofs.Common.{◌≡◌, ◌∙◌, ℕ, ◌+◌, Bool, List, [], ◌++◌, length, Option, sym, ap, subst, append-nil, arith}
use Rattle.std.proofs.Common.{take_all}
use Rattle.devices.specs.Readings.{Series, values_of}
use Rattle.devices.specs.declared.event.RunEnd.{RunEnd}
use Rattle.devices.specs.declared.world.PowerRow.{PowerRow}
use Rattle.ease_base.specs.Sink.{extended, TookFront}
use Rattle.power_trace.specs.Way.{IsOnWay, extended_more, front_of}
use Rattle.power_trace.specs.Report.{style_of, place_in, boots_lines, end_text, line, report}
use Rattle.power_trace.specs.Run.{Prepared, program_in, report_from}
use Rattle.power_trace.specs.Writing.{Wrote}
use Rattle.word_isa.specs.declared.image.Image.{Image}
use Rattle.word_machine.specs.Runs.{boots, total_steps, last_ending, end_of, journal}
use Rattle.word_machine.specs.State.{Program, State, start}

-- the lines of the boots
abbrev pub all_boots : Image → Bool → Program → List PowerRow → State → List ℕ
all_boots image brief p rows s = boots_lines (style_of image brief) 1 (boots (place_in image) p rows 0 s)

-- the line of the end
abbrev pub last_line : Image → Bool → (steps : ℕ) → RunEnd → List ℕ
last_line image brief n end = line (style_of image brief) n (end_text end)

-- a run whose parts are those of the first boot has this report
pub report_is : (r : Prepared) (brief : Bool) (image : Image) (readings : List Series) (p : Program) (s : State) (rows power : List PowerRow) (n : ℕ) (end : RunEnd)
    → record { image = image; readings = readings } ≡ r → s ≡ start image.fram → p ≡ program_in image (values_of readings) → rows ≡ power → n ≡ 0 + total_steps p rows s → end ≡ end_of (last_ending p rows s)
    → all_boots image brief p rows s ++ last_line image brief n end ≡ report_from r power brief
report_is r brief image readings p s rows power n end same first program all counted ended =
    let total : n ≡ total_steps p rows s = omega (arith, counted) in
    let line_is : last_line image brief n end ≡ last_line image brief (total_steps p rows s) (end_of (last_ending p rows s)) = λ i. last_line image brief (total i) (ended i) in
    ap (λ l. all_boots image brief p rows s ++ l) line_is
    ∙ (λ i. report (style_of image brief) (journal (place_in image) (program i) (all i) (first i)))
    ∙ ap (λ q. report_from q power brief) same

-- both pieces were taken
pub whole_is : (old mid new : Option (List ℕ)) (f0 f1 : ℕ) (boots last slice text : List ℕ) → Wrote old mid f0 f1 boots → new ≡ extended mid slice → slice ≡ last → boots ++ last ≡ text → new ≡ extended old text
whole_is old mid new f0 f1 boots last slice text first second is all =
    second ∙ ap (extended mid) is ∙ ap (λ t. extended t last) first.0 ∙ extended_more old boots last ∙ ap (extended old) all

-- what was taken whole was taken as a front
pub front_all : (old new : Option (List ℕ)) (text : List ℕ) → new ≡ extended old text → TookFront old new text
front_all old new text taken = (length text, omega arith, taken ∙ ap (extended old) (sym (take_all (length text) text (omega arith))))

-- the first piece was taken, and a front of the second
pub front_last : (old mid new : Option (List ℕ)) (f0 f1 : ℕ) (boots last slice text : List ℕ) → Wrote old mid f0 f1 boots → TookFront mid new slice → slice ≡ last → boots ++ last ≡ text → TookFront old new text
front_last old mid new f0 f1 boots last slice text first second is all =
    let way : IsOnWay old mid f0 f1 (last ++ []) text = record { written = boots; taken = first.0; parts = sym all ∙ ap (λ l. boots ++ l) (sym (append-nil last)); steady = first.1 } in
    front_of old mid new f0 f1 last [] text way (subst (TookFront mid new) is second)
