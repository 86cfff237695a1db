-- Why the bytes of a file are refused, from what their reader answers.
use Rattle.std.proofs.Common.{◌≡◌, ◌≢◌, ℕ, List, [], ◌∷◌, Option, Some, None, Result, Ok, Err, IfOk, IfErr, IfSome, refl, sym, ap, subst, ◌∙◌}
use Rattle.std.specs.Prelude.{OnOk, MatchResult}
use Rattle.audit_gather.specs.Told.{answer_of}
use Rattle.audit_gather.specs.declared.answer.Verdict.{Verdict}
use Rattle.audit_gather.specs.declared.answer.Verdict.TheVariants as verdict
use Rattle.audit_laws.specs.Answers.{Answer, no_report, IsAnswer, IsAnswerOn}
use Rattle.audit_verdict.specs.Answered.{refusal_in, IsJudged}
use Rattle.audit_verdict.specs.Texts.{answer_text}
use Rattle.audit_verdict.specs.declared.error.AuditError.{AuditError}
use Rattle.audit_verdict.specs.declared.error.AuditError.TheVariants as audit
use Rattle.devices.specs.declared.world.World.{World}
use Rattle.ease_base.specs.declared.error.NoMemory.{NoMemory}
use Rattle.ease_base.specs.declared.place.Peripheral.{Peripheral}
use Rattle.ease_cli.specs.Answer.{Tells, IsRead}
use Rattle.ease_cli.specs.Files.{Files, named, limit_of, IsBrought, source_file, image_file, world_file, script_file, report_file}
use Rattle.ease_cli.specs.Inputs.{Input, IsRefused, IsTree, IsImage, IsScript, IsUnaccepted, IsReportLine, names_of, unread, unaccepted}
use Rattle.ease_cli.specs.Inputs as inputs
use Rattle.ease_cli.specs.Lines.{text_line, check_line, world_line, image_line, script_line}
use Rattle.ease_cli.specs.declared.readers.Source.{Source}
use Rattle.ease_cli.specs.declared.refusal.Refusal.{Refusal}
use Rattle.ease_cli.specs.declared.refusal.Refusal.TheVariants as refusal
use Rattle.ease_cli.specs.declared.status.Status.{Status}
use Rattle.ease_cli.specs.declared.status.Status.TheVariants as ends
use Rattle.ease_debug.specs.Commands.{lines_of, AreCommands, ReadsAs, TellsFirst, IsFirstRefused}
use Rattle.ease_debug.specs.declared.command.Command.{Command}
use Rattle.ease_debug.specs.declared.command.Script.{Script}
use Rattle.ease_debug.specs.declared.error.ScriptError.{ScriptError}
use Rattle.ease_debug.specs.declared.error.ScriptError.TheVariants as script
use Rattle.image_file.specs.Bytes.{image_bytes, raw_of, HasFields}
use Rattle.image_file.specs.Faults.{image_fault}
use Rattle.image_file.specs.declared.error.ImageError.{ImageError}
use Rattle.image_file.specs.declared.error.ImageError.TheVariants as image
use Rattle.report_text.specs.Grammar.{IsReport}
use Rattle.report_text.specs.declared.line.ReportLine.{ReportLine}
use Rattle.task_ast.specs.declared.core_form.Core.{Core}
use Rattle.task_ast.specs.declared.tree.Program.{Program}
use Rattle.task_check.specs.CheckedForm.{core_of}
use Rattle.task_check.specs.Faults.{Accepted, first_fault}
use Rattle.task_check.specs.declared.error.CheckError.{CheckError}
use Rattle.task_text.specs.Reads.{Reads, Refuses, IsCause, Answers}
use Rattle.task_text.specs.declared.error.TextError.{TextError}
use Rattle.task_text.specs.declared.error.TextError.TheVariants as text
use Rattle.word_isa.specs.declared.image.Image.{Image}
use Rattle.world_file.specs.WorldFile.{world_of, world_fault}
use Rattle.world_file.specs.declared.error.WorldError.{WorldError}
use Rattle.world_file.specs.declared.error.WorldError.TheVariants as world

-- what is so of a line that was made
line_has : (P : List ℕ → Type 0) (line : Result (List ℕ) NoMemory) (t : List ℕ) → IfOk line P → line ≡ Ok t → P t
line_has P line t if is = subst (λ (l : Result (List ℕ) NoMemory). IfOk l P) is if

-- a refusal that was made of a line
made : (Q : Status → List ℕ → Type 0) (status : Status) (line : Result (List ℕ) NoMemory) (r : Refusal) → Tells (λ s t. (s ≡ status) × (line ≡ Ok t)) r → ((t : List ℕ) → line ≡ Ok t → Q status t) → Tells Q r
made Q status line (refusal.Refused s t) told so = subst (λ (x : Status). Q x t) (sym told.0) (so t told.1)
made Q status line refusal.WriteFault told so = told
made Q status line refusal.NoMemory told so = tt

-- ---- sources

cause_refuses : (bytes : List ℕ) (fault : TextError) → fault ≢ text.NoMemory → IsCause bytes fault → Refuses bytes fault
cause_refuses bytes (text.Syntax at) other cause = cause
cause_refuses bytes (text.NumberTooWide at) other cause = cause
cause_refuses bytes text.NoMemory other cause = absurd (other refl)

refused_reads_none : (fault : TextError) (p : Program) → fault ≢ text.NoMemory → Answers (Err fault) (Ok p) → ⊥
refused_reads_none (text.Syntax at) p other answers = cc
refused_reads_none (text.NumberTooWide at) p other answers = cc
refused_reads_none text.NoMemory p other answers = other refl

-- a text that is no program
pub text_refused : (bytes : List ℕ) (fault : TextError) (line : Result (List ℕ) NoMemory) (r : Refusal) → IsCause bytes fault → ((p : Program) → Reads bytes p → Answers (Err fault) (Ok p))
    → IfOk line (λ t. t ≡ text_line fault) → OnOk line (fault ≢ text.NoMemory) → Tells (λ s t. (s ≡ ends.SourceRefused) × (line ≡ Ok t)) r → Tells (IsRefused source_file [] bytes) r
text_refused bytes fault line r cause only spelled memory told = made (IsRefused source_file [] bytes) ends.SourceRefused line r told (λ t is.
    let other = line_has (λ _. fault ≢ text.NoMemory) line t memory is in
    record {
      status_is = refl;
      line = unread fault (cause_refuses bytes fault other cause) (line_has (λ x. x ≡ text_line fault) line t spelled is);
      none = λ p tree. refused_reads_none fault p other (only p tree.0);
    })

one_program : (p q : Program) → Answers (Ok p) (Ok q) → q ≡ p
one_program p q same = cc

not_accepted : (p : Program) (fault : CheckError) → first_fault p ≡ Some fault → Accepted p → ⊥
not_accepted p fault first none = cc

-- a tree that isn't accepted
pub tree_refused : (bytes : List ℕ) (p : Program) (r : Result Source Refusal) → Reads bytes p → ((q : Program) → Reads bytes q → Answers (Ok p) (Ok q))
    → IfErr r (Tells (IsUnaccepted p)) → IfErr r (Tells (IsRefused source_file [] bytes))
tree_refused bytes p (Ok source) reads only told = told
tree_refused bytes p (Err refusal.WriteFault) reads only told = told
tree_refused bytes p (Err refusal.NoMemory) reads only told = told
tree_refused bytes p (Err (refusal.Refused s t)) reads only told = record {
  status_is = told.status_is;
  line = unaccepted p told.fault reads told.first told.line;
  none = λ q tree. not_accepted p told.fault told.first (subst Accepted (one_program p q (only q tree.0)) tree.1);
}

-- a tree that is accepted
pub tree_read : (bytes : List ℕ) (p : Program) (r : Result Source Refusal) → Reads bytes p → IfOk r (λ source. (source.program ≡ p) × Accepted p × (source.core ≡ core_of p))
    → IfOk r (λ source. IsTree bytes source.program × (source.core ≡ core_of source.program))
tree_read bytes p (Ok source) reads got =
    let is : p ≡ source.program = sym got.0 in
    ((subst (Reads bytes) is reads, subst Accepted is got.1), got.2 ∙ ap core_of is)
tree_read bytes p (Err e) reads got = got

-- ---- images and worlds

-- bytes that are no image
pub image_refused : (bytes : List ℕ) (fault : ImageError) (line : Result (List ℕ) NoMemory) (r : Refusal) → (fault ≢ image.NoMemory → image_fault bytes ≡ Some fault)
    → ((i : Image) → HasFields i → bytes ≡ image_bytes i → fault ≢ image.NoMemory → ⊥)
    → IfOk line (λ t. t ≡ image_line fault) → OnOk line (fault ≢ image.NoMemory) → Tells (λ s t. (s ≡ ends.ImageRefused) × (line ≡ Ok t)) r → Tells (IsRefused image_file [] bytes) r
image_refused bytes fault line r first only spelled memory told = made (IsRefused image_file [] bytes) ends.ImageRefused line r told (λ t is.
    let other = line_has (λ _. fault ≢ image.NoMemory) line t memory is in
    record {
      status_is = refl;
      line = (fault, first other, line_has (λ x. x ≡ image_line fault) line t spelled is);
      none = λ i fits same. only i fits same other;
    })

-- bytes that are no world
pub world_refused : (bytes : List ℕ) (names : List Peripheral) (before : List Input) (fault : WorldError) (line : Result (List ℕ) NoMemory) (r : Refusal) → names_of before ≡ names
    → (fault ≢ world.NoMemory → world_fault bytes names ≡ Some fault) → ((w : World) → world_of bytes names ≡ Some w → fault ≡ world.NoMemory)
    → IfOk line (λ t. t ≡ world_line fault) → OnOk line (fault ≢ world.NoMemory) → Tells (λ s t. (s ≡ ends.WorldRefused) × (line ≡ Ok t)) r → Tells (IsRefused world_file before bytes) r
world_refused bytes names before fault line r named first only spelled memory told = made (IsRefused world_file before bytes) ends.WorldRefused line r told (λ t is.
    let other = line_has (λ _. fault ≢ world.NoMemory) line t memory is in
    record {
      status_is = refl;
      line = (fault, ap (world_fault bytes) named ∙ first other, line_has (λ x. x ≡ world_line fault) line t spelled is);
      none = λ w is_world. other (only w (sym (ap (world_of bytes) named) ∙ is_world));
    })

-- ---- scripts

told_first : (i : Image) (lines : List (List ℕ)) (n : ℕ) (text : List ℕ) → TellsFirst i lines (script.Line n) → text ≡ script_line (script.Line n) → (m : ℕ) × IsFirstRefused i lines m × (text ≡ script_line (script.Line m))
told_first i lines n text first is = (n, first, is)

first_told : (i : Image) (lines : List (List ℕ)) (fault : ScriptError) (text : List ℕ) → fault ≢ script.NoMemory → TellsFirst i lines fault → text ≡ script_line fault
    → (m : ℕ) × IsFirstRefused i lines m × (text ≡ script_line (script.Line m))
first_told i lines (script.Line n) text other first is = told_first i lines n text first is
first_told i lines script.NoMemory text other first is = absurd (other refl)

reads_none : (commands : List Command) (fault : ScriptError) → fault ≢ script.NoMemory → ReadsAs commands (Err fault) → ⊥
reads_none commands (script.Line n) other reads = reads
reads_none commands script.NoMemory other reads = other refl

-- bytes that are no script
pub script_refused : (bytes : List ℕ) (i : Image) (rest : List Input) (fault : ScriptError) (line : Result (List ℕ) NoMemory) (r : Refusal) → TellsFirst i (lines_of bytes) fault
    → ((commands : List Command) → AreCommands i (lines_of bytes) commands → ReadsAs commands (Err fault))
    → IfOk line (λ t. t ≡ script_line fault) → OnOk line (fault ≢ script.NoMemory) → Tells (λ s t. (s ≡ ends.ScriptRefused) × (line ≡ Ok t)) r → Tells (IsRefused script_file (inputs.image i ∷ rest) bytes) r
script_refused bytes i rest fault line r first only spelled memory told = made (IsRefused script_file (inputs.image i ∷ rest) bytes) ends.ScriptRefused line r told (λ t is.
    let other = line_has (λ _. fault ≢ script.NoMemory) line t memory is in
    record {
      status_is = refl;
      line = first_told i (lines_of bytes) fault t other first (line_has (λ x. x ≡ script_line fault) line t spelled is);
      none = λ s is_script. reads_none s.lines fault other (only s.lines is_script);
    })

-- ---- reports

-- bytes on which a verdict is the answer are a report
answered_lines : (c : Core) (w : World) (bytes : List ℕ) (v : Verdict) → IsAnswer c w bytes (answer_of v) → (lines : List ReportLine) × IsReport bytes lines × IsAnswerOn c w lines (answer_of v)
answered_lines c w bytes verdict.Legal is = is
answered_lines c w bytes (verdict.Illegal n) is = is

-- a report that was brought, with the answer on its lines
pub report_read : (f : Files) (name : List ℕ) (before : List Input) (bytes got : List ℕ) (c : Core) (w : World) (v : Verdict) → got ≡ bytes → IsBrought f name (limit_of report_file) bytes
    → IsAnswer c w got (answer_of v) → (lines : List ReportLine) × IsRead f (named report_file name) before (inputs.report lines) × IsAnswerOn c w lines (answer_of v)
report_read f name before bytes got c w v same brought is =
    let told = answered_lines c w bytes v (subst (λ (b : List ℕ). IsAnswer c w b (answer_of v)) same is) in
    (told.0, record { bytes = bytes; brought = brought; is = told.1 }, told.2)

-- bytes that are no report
report_line : (c : Core) (w : World) (bytes text : List ℕ) (n : ℕ) → IsAnswer c w bytes (no_report n) → text ≡ answer_text (no_report n) → IsReportLine bytes text
report_line c w bytes text n is line = (is.0, is.2, line ∙ ap (λ (m : ℕ). answer_text (no_report m)) is.1)

first_no_report : (c : Core) (w : World) (bytes text : List ℕ) (fault : AuditError) → fault ≢ audit.NoMemory → IfSome (refusal_in fault) (IsAnswer c w bytes) → IfSome (refusal_in fault) (λ a. text ≡ answer_text a) → IsReportLine bytes text
first_no_report c w bytes text (audit.Line n) other is line = report_line c w bytes text n is line
first_no_report c w bytes text audit.NoMemory other is line = absurd (other refl)

judged_none : (fault : AuditError) → fault ≢ audit.NoMemory → IsJudged (Err fault) → ⊥
judged_none (audit.Line n) other judged = judged
judged_none audit.NoMemory other judged = other refl

pub report_refused : (c : Core) (w : World) (bytes : List ℕ) (before : List Input) (fault : AuditError) (line : Result (List ℕ) NoMemory) (r : Refusal) → IfSome (refusal_in fault) (IsAnswer c w bytes)
    → ((lines : List ReportLine) → IsReport bytes lines → IsJudged (Err fault))
    → IfOk line (λ t. IfSome (refusal_in fault) (λ a. t ≡ answer_text a)) → OnOk line (fault ≢ audit.NoMemory) → Tells (λ s t. (s ≡ ends.ReportRefused) × (line ≡ Ok t)) r → Tells (IsRefused report_file before bytes) r
report_refused c w bytes before fault line r is only spelled memory told = made (IsRefused report_file before bytes) ends.ReportRefused line r told (λ t made_of.
    let other = line_has (λ _. fault ≢ audit.NoMemory) line t memory made_of in
    record {
      status_is = refl;
      line = first_no_report c w bytes t fault other is (line_has (λ x. IfSome (refusal_in fault) (λ a. x ≡ answer_text a)) line t spelled made_of);
      none = λ lines is_report. judged_none fault other (only lines is_report);
    })
