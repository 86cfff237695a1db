-- The output of each command over its inputs, with its status.
use Rattle.std.specs.Prelude.{◌≡◌, ℕ, Bool, List, [], ◌∷◌, Option}
use Rattle.audit_laws.specs.Answers.{Answer, legal, illegal, no_report, IsAnswerOn}
use Rattle.audit_verdict.specs.Texts.{answer_text}
use Rattle.command_line.specs.Form.{Form, walk, run, build, sites, debug, audit, soak}
use Rattle.devices.specs.declared.event.RunEnd.{RunEnd}
use Rattle.devices.specs.declared.event.RunEnd.TheVariants as run_end
use Rattle.devices.specs.declared.world.World.{World}
use Rattle.ease_cli.specs.Files.{source_file}
use Rattle.ease_cli.specs.Inputs.{Input, tree, image, world, script, report, IsTree, IsRefused}
use Rattle.ease_cli.specs.declared.status.Status.{Status}
use Rattle.ease_cli.specs.declared.status.Status.TheVariants.{Ok, Trapped, PowerEnded, ReportRefused, Illegal}
use Rattle.ease_debug.specs.Session.{session_text, session_end}
use Rattle.ease_debug.specs.declared.command.Script.{Script}
use Rattle.ease_debug.specs.declared.end.DebugEnd.{DebugEnd}
use Rattle.ease_debug.specs.declared.end.DebugEnd.TheVariants as debug_end
use Rattle.image_file.specs.Bytes.{image_bytes}
use Rattle.power_trace.specs.Run.{journal_on, report_on}
use Rattle.report_text.specs.declared.line.ReportLine.{ReportLine}
use Rattle.run_plan.specs.PlanOf.{plan_of}
use Rattle.site_account.specs.Account.{account_of}
use Rattle.site_account.specs.Places.{program_places}
use Rattle.soak_case.specs.Readings.{world_of}
use Rattle.soak_case.specs.Source.{source_of}
use Rattle.soak_run.specs.Summary.{summary_on}
use Rattle.sound_images.specs.Sound.{IsSound}
use Rattle.task_ast.specs.declared.core_form.Core.{Core}
use Rattle.task_ast.specs.declared.tree.Program.{Program}
use Rattle.task_check.specs.CheckedForm.{core_of}
use Rattle.walk_run.specs.Walk.{walk_of}
use Rattle.walk_run.specs.WalkText.{text_of}
use Rattle.walk_run.specs.declared.walked.WalkEnd.{WalkEnd}
use Rattle.walk_run.specs.declared.walked.WalkEnd.TheVariants as walk_end
use Rattle.word_isa.specs.declared.image.Image.{Image}
use Rattle.word_code.specs.ImageOf.{IsImageOf}
use Rattle.word_isa.specs.declared.parts.Scheme.{Scheme}
use Rattle.word_isa.specs.declared.parts.Scheme.TheVariants.{Undo}

-- the status of an unbroken run, by its end
abbrev pub walk_status : WalkEnd → Status
walk_status (walk_end.Trapped trap) = Trapped
walk_status walk_end.Stopped = Ok
walk_status walk_end.Limit = Ok
walk_status walk_end.NoReading = Ok

-- `walk`: the text is that of the unbroken run, of at most so many tasks, with these readings
pub record IsWalkOutput (core : Core) (readings : List ℕ) (tasks : ℕ) (status : Status) (text : List ℕ) : Type 0 where
  pub ended : status ≡ walk_status (walk_of core readings tasks).end
  pub written : text ≡ text_of core (walk_of core readings tasks)

-- the status of a run, by its end
abbrev pub run_status : RunEnd → Status
run_status run_end.Halted = Ok
run_status (run_end.Trapped code) = Trapped
run_status run_end.Power = PowerEnded

-- `run`: the text is the report of the journal of the image on the world
pub record IsRunOutput (i : Image) (w : World) (brief : Bool) (status : Status) (text : List ℕ) : Type 0 where
  pub ended : status ≡ run_status (journal_on i w).ending
  pub written : text ≡ report_on i w brief

-- the status of a session, by its last line
abbrev pub session_status : DebugEnd → Status
session_status debug_end.Script = Ok
session_status debug_end.Halted = Ok
session_status (debug_end.Trapped code) = Trapped
session_status debug_end.Power = PowerEnded

-- `debug`: the text is that of the script's session on the image, with the readings of the world
pub record IsSession (i : Image) (w : World) (s : Script) (status : Status) (text : List ℕ) : Type 0 where
  pub ended : status ≡ session_status (session_end i w s.lines)
  pub written : text ≡ session_text i w s.lines

-- `build`: the bytes are those of an image with the code, the marks and the words of the plan of the checked form, and it is sound
pub record IsBuilt (core : Core) (scheme : Scheme) (status : Status) (text : List ℕ) : Type 0 where
  pub ended : status ≡ Ok
  pub image : Image
  pub lowered : IsImageOf (plan_of core scheme) core image
  pub sound : IsSound core scheme image
  pub written : text ≡ image_bytes image

-- `sites`: the text is the account of the checked form, with the places that its sites have in the tree
pub record IsAccount (core : Core) (p : Program) (status : Status) (text : List ℕ) : Type 0 where
  pub ended : status ≡ Ok
  pub written : text ≡ account_of core (program_places p)

-- the status of an audit, by its answer
abbrev pub verdict_status : Answer → Status
verdict_status legal = Ok
verdict_status (illegal n) = Illegal
verdict_status (no_report n) = ReportRefused

-- `audit`: the text is that of the answer on the lines of the report
pub record IsAudit (core : Core) (w : World) (lines : List ReportLine) (status : Status) (text : List ℕ) : Type 0 where
  pub answer : Answer
  pub right : IsAnswerOn core w lines answer
  pub ended : status ≡ verdict_status answer
  pub written : text ≡ answer_text answer

-- `soak`: the text sums up the journal that an image of the checked form has on the world, with the nonvolatile word `n` at its
-- end; it is the image that `build` writes under `undo`, and it is sound
pub record IsSoaked (core : Core) (w : World) (status : Status) (text : List ℕ) : Type 0 where
  pub image : Image
  pub lowered : IsImageOf (plan_of core Undo) core image
  pub sound : IsSound core Undo image
  pub ended : status ≡ run_status (journal_on image w).ending
  pub written : text ≡ summary_on image w

-- the readings of an unbroken run: those that a world retains, or none without a world
abbrev pub retained_of : List Input → List ℕ
retained_of [] = []
retained_of (world w ∷ rest) = w.retained
retained_of (tree p ∷ rest) = []
retained_of (image i ∷ rest) = []
retained_of (script s ∷ rest) = []
retained_of (report lines ∷ rest) = []

-- What each command writes, over its files: one row for each command, and one for a soak whose program is refused.
pub data IsOutput (c : Form) (inputs : List Input) (status : Status) (text : List ℕ) : Type 0 where
  walks : (program : List ℕ) (tasks : ℕ) (named : Option (List ℕ)) (p : Program) (rest : List Input) → c ≡ walk program tasks named → inputs ≡ tree p ∷ rest
      → IsWalkOutput (core_of p) (retained_of rest) tasks status text → IsOutput c inputs status text
  runs : (file named : List ℕ) (brief : Bool) (i : Image) (w : World) → c ≡ run file named brief → inputs ≡ image i ∷ (world w ∷ [])
      → IsRunOutput i w brief status text → IsOutput c inputs status text
  builds : (program : List ℕ) (scheme : Scheme) (p : Program) → c ≡ build program scheme → inputs ≡ tree p ∷ []
      → IsBuilt (core_of p) scheme status text → IsOutput c inputs status text
  accounts : (program : List ℕ) (p : Program) → c ≡ sites program → inputs ≡ tree p ∷ []
      → IsAccount (core_of p) p status text → IsOutput c inputs status text
  debugs : (file named listed : List ℕ) (i : Image) (w : World) (s : Script) → c ≡ debug file named listed → inputs ≡ image i ∷ (world w ∷ (script s ∷ []))
      → IsSession i w s status text → IsOutput c inputs status text
  audits : (program named listed : List ℕ) (p : Program) (w : World) (lines : List ReportLine) → c ≡ audit program named listed → inputs ≡ tree p ∷ (world w ∷ (report lines ∷ []))
      → IsAudit (core_of p) w lines status text → IsOutput c inputs status text
  soaks : (number : ℕ) (p : Program) → c ≡ soak number → inputs ≡ [] → IsTree (source_of number) p
      → IsSoaked (core_of p) (world_of number) status text → IsOutput c inputs status text
  soaks_in_vain : (number : ℕ) → c ≡ soak number → inputs ≡ [] → IsRefused source_file [] (source_of number) status text → IsOutput c inputs status text
