-- From what the parts of a command answer to what the command says.
use Rattle.std.proofs.Common.{◌≡◌, ℕ, ◌<◌, ◌≤◌, Bool, List, [], ◌∷◌, ◌++◌, length, take, Option, Some, None, Result, Ok, Err, IfOk, refl, sym, ap, subst, ◌∙◌, arith, inl, inr}
use Rattle.audit_laws.specs.Answers.{Answer, legal, illegal, no_report, IsAnswerOn}
use Rattle.command_line.specs.Form.{Form, walk, run, build, sites, debug, audit, soak}
use Rattle.devices.specs.declared.event.RunEnd.{RunEnd}
use Rattle.devices.specs.declared.event.RunEnd.TheVariants as run_end
use Rattle.devices.specs.declared.world.World.{World}
use Rattle.ease_base.specs.Cabinet.{Contents}
use Rattle.ease_base.specs.Sink.{extended, TookFront}
use Rattle.ease_base.specs.declared.error.NoMemory.{NoMemory}
use Rattle.ease_cli.proofs.FileLemmas.{both_fetches, read_stays, tells_line, tells_weaker}
use Rattle.ease_cli.specs.Answer.{Answers, Tells, AreRead, IsRead, Reaches, Stops, unbrought, refused, Says, stopped, done, IsUsage, LineSays, Writes, TellsFetchFault}
use Rattle.ease_cli.specs.Files.{Files, files_of, Kind, source_file, image_file, world_file, script_file, report_file, Wanted, named, named_if, wanted, limit_of, IsQuiet, IsUnbrought, failed, long}
use Rattle.ease_cli.specs.Inputs.{Input, tree, image, world, script, report, refused_status, IsRefused, IsTree}
use Rattle.ease_cli.specs.Lines.{usage}
use Rattle.ease_cli.specs.Output.{IsOutput, walks, runs, builds, accounts, debugs, audits, IsWalkOutput, IsRunOutput, IsBuilt, IsAccount, IsSession, IsAudit, walk_status, run_status, session_status, verdict_status, soaks, soaks_in_vain, IsSoaked}
use Rattle.ease_cli.specs.declared.refusal.Refusal.{Refusal}
use Rattle.ease_cli.specs.declared.refusal.Refusal.TheVariants as refusal
use Rattle.ease_cli.specs.declared.status.Status.{Status}
use Rattle.ease_cli.specs.declared.status.Status.TheVariants as ends
use Rattle.ease_debug.specs.declared.command.Script.{Script}
use Rattle.ease_debug.specs.declared.end.DebugEnd.{DebugEnd}
use Rattle.ease_debug.specs.declared.end.DebugEnd.TheVariants as debug_end
use Rattle.report_text.specs.declared.line.ReportLine.{ReportLine}
use Rattle.soak_case.specs.Readings.{world_of}
use Rattle.soak_case.specs.Source.{source_of}
use Rattle.task_ast.specs.declared.core_form.Core.{Core}
use Rattle.task_ast.specs.declared.tree.Program.{Program}
use Rattle.task_check.specs.CheckedForm.{core_of}
use Rattle.walk_run.specs.declared.walked.WalkEnd.{WalkEnd}
use Rattle.walk_run.specs.declared.walked.WalkEnd.TheVariants as walk_end
use Rattle.word_isa.specs.declared.image.Image.{Image}
use Rattle.word_isa.specs.declared.parts.Scheme.{Scheme}

-- what is answered of less is answered of more
pub answers_weaker : (P Q : Status → List ℕ → Type 0) (r : Result Status Refusal) (before after : Option (List ℕ)) → ((s : Status) (t : List ℕ) → P s t → Q s t) → Answers P r before after → Answers Q r before after
answers_weaker P Q (Ok s) before after weaker a = (a.0, weaker s a.0 a.1, a.2)
answers_weaker P Q (Err (refusal.Refused s t)) before after weaker a = (weaker s t a.0, a.1)
answers_weaker P Q (Err refusal.WriteFault) before after weaker a = (a.0, a.1, weaker a.0 a.1 a.2, a.3)
answers_weaker P Q (Err refusal.NoMemory) before after weaker a = a

-- a refusal before anything is written
pub answers_refusal : (P : Status → List ℕ → Type 0) (r : Refusal) (before after : Option (List ℕ)) → after ≡ before → Tells P r → Answers P (Err r) before after
answers_refusal P (refusal.Refused s t) before after same told = (told, same)
answers_refusal P refusal.WriteFault before after same told = absurd told
answers_refusal P refusal.NoMemory before after same told = same

-- a file of a command ends it
pub says_stopped : (c : Form) (f : Files) (at : Wanted) (before : List Input) (r : Refusal) → Reaches f c at before → Tells (Stops f at before) r → Tells (Says c f) r
says_stopped c f at before (refusal.Refused s t) reaches told = stopped at before reaches told
says_stopped c f at before refusal.WriteFault reaches told = told
says_stopped c f at before refusal.NoMemory reaches told = tt

-- ---- the order of files

pub first_reached : (f : Files) (c : Form) (at : Wanted) (rest : List Wanted) → wanted c ≡ at ∷ rest → Reaches f c at []
first_reached f c at rest order = record { front = []; back = rest; order = order; passed = tt }

pub second_reached : (f : Files) (c : Form) (first at : Wanted) (rest : List Wanted) (input : Input) → wanted c ≡ first ∷ (at ∷ rest) → IsRead f first [] input → Reaches f c at (input ∷ [])
second_reached f c first at rest input order read = record { front = first ∷ []; back = rest; order = order; passed = (read, tt) }

pub third_reached : (f : Files) (c : Form) (first second at : Wanted) (rest : List Wanted) (i j : Input) → wanted c ≡ first ∷ (second ∷ (at ∷ rest)) → IsRead f first [] i → IsRead f second (i ∷ []) j → Reaches f c at (i ∷ (j ∷ []))
third_reached f c first second at rest i j order read read2 = record { front = first ∷ (second ∷ []); back = rest; order = order; passed = (read, (read2, tt)) }

-- the first file ends the command
pub first_stops : (c : Form) (f : Files) (at : Wanted) (rest : List Wanted) (e : Refusal) (r : Result Status Refusal) (before after : Option (List ℕ)) → wanted c ≡ at ∷ rest
    → Tells (Stops f at []) e → r ≡ Err e → after ≡ before → Answers (Says c f) r before after
first_stops c f at rest e r before after order told is same =
    subst (λ (x : Result Status Refusal). Answers (Says c f) x before after) (sym is)
    (answers_refusal (Says c f) e before after same (says_stopped c f at [] e (first_reached f c at rest order) told))

-- the second file ends the command
pub second_stops : (c : Form) (first at : Wanted) (rest : List Wanted) (input : Input) (told told1 : Bool) (contents contents1 : Contents) (a a1 a2 l l1 l2 : ℕ) (e : Refusal) (r : Result Status Refusal) (before after : Option (List ℕ))
    → wanted c ≡ first ∷ (at ∷ rest) → IsRead (files_of told contents a a1 l l1) first [] input → IsQuiet (files_of told contents a a1 l l1)
    → told1 ≡ told → ((name : List ℕ) → contents1 name ≡ contents name)
    → Tells (Stops (files_of told1 contents1 a1 a2 l1 l2) at (input ∷ [])) e → r ≡ Err e → after ≡ before → Answers (Says c (files_of told contents a a2 l l2)) r before after
second_stops c first at rest input told told1 contents contents1 a a1 a2 l l1 l2 e r before after order read quiet t cs stops is same =
    let f = files_of told contents a a2 l l2 in
    let moved = both_fetches told told1 contents contents1 a a1 a2 l l1 l2 t cs quiet.faults quiet.long in
    let reaches = second_reached f c first at rest input order (read_stays told contents a a1 a2 l l1 l2 first [] input read) in
    subst (λ (x : Result Status Refusal). Answers (Says c f) x before after) (sym is)
    (answers_refusal (Says c f) e before after same (says_stopped c f at (input ∷ []) e reaches (subst (λ (g : Files). Tells (Stops g at (input ∷ [])) e) moved stops)))

-- the files of a walk with a world
pub walk_wants : (program named_world : List ℕ) (tasks : ℕ) (asked : Option (List ℕ)) → asked ≡ Some named_world → wanted (walk program tasks asked) ≡ named source_file program ∷ (named world_file named_world ∷ [])
walk_wants program named_world tasks asked some = ap (λ (o : Option (List ℕ)). wanted (walk program tasks o)) some

-- both files were read in the one cabinet
pub both_read : (first at : Wanted) (input second : Input) (told told1 : Bool) (contents contents1 : Contents) (a a1 a2 l l1 l2 : ℕ)
    → IsRead (files_of told contents a a1 l l1) first [] input → IsQuiet (files_of told contents a a1 l l1)
    → told1 ≡ told → ((name : List ℕ) → contents1 name ≡ contents name)
    → IsRead (files_of told1 contents1 a1 a2 l1 l2) at (input ∷ []) second → IsQuiet (files_of told1 contents1 a1 a2 l1 l2)
    → IsQuiet (files_of told contents a a2 l l2) × IsRead (files_of told contents a a2 l l2) first [] input × IsRead (files_of told contents a a2 l l2) at (input ∷ []) second
both_read first at input second told told1 contents contents1 a a1 a2 l l1 l2 read quiet t cs read2 quiet2 =
    let moved = both_fetches told told1 contents contents1 a a1 a2 l l1 l2 t cs quiet.faults quiet.long in
    (subst IsQuiet moved quiet2, read_stays told contents a a1 a2 l l1 l2 first [] input read, subst (λ (g : Files). IsRead g at (input ∷ []) second) moved read2)

-- the third file ends the command
pub third_stops : (c : Form) (first second at : Wanted) (rest : List Wanted) (i j : Input) (told told1 told2 : Bool) (contents contents1 contents2 : Contents) (a a1 a2 a3 l l1 l2 l3 : ℕ) (e : Refusal) (r : Result Status Refusal) (before after : Option (List ℕ))
    → wanted c ≡ first ∷ (second ∷ (at ∷ rest)) → IsRead (files_of told contents a a1 l l1) first [] i → IsQuiet (files_of told contents a a1 l l1)
    → told1 ≡ told → ((name : List ℕ) → contents1 name ≡ contents name)
    → IsRead (files_of told1 contents1 a1 a2 l1 l2) second (i ∷ []) j → IsQuiet (files_of told1 contents1 a1 a2 l1 l2)
    → told2 ≡ told1 → ((name : List ℕ) → contents2 name ≡ contents1 name)
    → Tells (Stops (files_of told2 contents2 a2 a3 l2 l3) at (i ∷ (j ∷ []))) e → r ≡ Err e → after ≡ before → Answers (Says c (files_of told contents a a3 l l3)) r before after
third_stops c first second at rest i j told told1 told2 contents contents1 contents2 a a1 a2 a3 l l1 l2 l3 e r before after order read quiet t cs read2 quiet2 t2 cs2 stops is same =
    let f = files_of told contents a a3 l l3 in
    let both = both_read first second i j told told1 contents contents1 a a1 a2 l l1 l2 read quiet t cs read2 quiet2 in
    let moved = both_fetches told told2 contents contents2 a a2 a3 l l2 l3 (t2 ∙ t) (λ name. cs2 name ∙ cs name) both.0.faults both.0.long in
    let reaches = third_reached f c first second at rest i j order (read_stays told contents a a2 a3 l l2 l3 first [] i both.1) (read_stays told contents a a2 a3 l l2 l3 second (i ∷ []) j both.2) in
    subst (λ (x : Result Status Refusal). Answers (Says c f) x before after) (sym is)
    (answers_refusal (Says c f) e before after same (says_stopped c f at (i ∷ (j ∷ [])) e reaches (subst (λ (g : Files). Tells (Stops g at (i ∷ (j ∷ []))) e) moved stops)))

-- all three files were read in the one cabinet
pub three_read : (first second at : Wanted) (i j input : Input) (told told1 told2 : Bool) (contents contents1 contents2 : Contents) (a a1 a2 a3 l l1 l2 l3 : ℕ)
    → IsRead (files_of told contents a a1 l l1) first [] i → IsQuiet (files_of told contents a a1 l l1)
    → told1 ≡ told → ((name : List ℕ) → contents1 name ≡ contents name)
    → IsRead (files_of told1 contents1 a1 a2 l1 l2) second (i ∷ []) j → IsQuiet (files_of told1 contents1 a1 a2 l1 l2)
    → told2 ≡ told1 → ((name : List ℕ) → contents2 name ≡ contents1 name)
    → IsRead (files_of told2 contents2 a2 a3 l2 l3) at (i ∷ (j ∷ [])) input → IsQuiet (files_of told2 contents2 a2 a3 l2 l3)
    → IsQuiet (files_of told contents a a3 l l3) × IsRead (files_of told contents a a3 l l3) first [] i
    × IsRead (files_of told contents a a3 l l3) second (i ∷ []) j × IsRead (files_of told contents a a3 l l3) at (i ∷ (j ∷ [])) input
three_read first second at i j input told told1 told2 contents contents1 contents2 a a1 a2 a3 l l1 l2 l3 read quiet t cs read2 quiet2 t2 cs2 read3 quiet3 =
    let both = both_read first second i j told told1 contents contents1 a a1 a2 l l1 l2 read quiet t cs read2 quiet2 in
    let moved = both_fetches told told2 contents contents2 a a2 a3 l l2 l3 (t2 ∙ t) (λ name. cs2 name ∙ cs name) both.0.faults both.0.long in
    (subst IsQuiet moved quiet3, read_stays told contents a a2 a3 l l2 l3 first [] i both.1, read_stays told contents a a2 a3 l l2 l3 second (i ∷ []) j both.2, subst (λ (g : Files). IsRead g at (i ∷ (j ∷ [])) input) moved read3)

-- ---- outputs

-- `walk` without a world
pub walk_alone : (f : Files) (program : List ℕ) (tasks : ℕ) (asked : Option (List ℕ)) (p : Program) (core : Core) (r : Result Status Refusal) (before after : Option (List ℕ)) → asked ≡ None
    → IsQuiet f → IsRead f (named source_file program) [] (tree p) → core ≡ core_of p
    → Answers (IsWalkOutput core [] tasks) r before after → Answers (Says (walk program tasks asked) f) r before after
walk_alone f program tasks asked p core r before after none quiet read is answers =
    subst (λ (o : Option (List ℕ)). Answers (Says (walk program tasks o) f) r before after) (sym none)
    (answers_weaker (IsWalkOutput core [] tasks) (Says (walk program tasks None) f) r before after
    (λ s t output. done (tree p ∷ []) quiet (read, tt) (walks program tasks None p [] refl refl (subst (λ (c : Core). IsWalkOutput c [] tasks s t) is output))) answers)

-- `walk` with a world
pub walk_with : (f : Files) (program named_world : List ℕ) (tasks : ℕ) (asked : Option (List ℕ)) (p : Program) (core : Core) (w : World) (readings : List ℕ) (r : Result Status Refusal) (before after : Option (List ℕ)) → asked ≡ Some named_world
    → IsQuiet f → IsRead f (named source_file program) [] (tree p) → core ≡ core_of p → IsRead f (named world_file named_world) (tree p ∷ []) (world w) → readings ≡ w.retained
    → Answers (IsWalkOutput core readings tasks) r before after → Answers (Says (walk program tasks asked) f) r before after
walk_with f program named_world tasks asked p core w readings r before after some quiet read is second fed answers =
    subst (λ (o : Option (List ℕ)). Answers (Says (walk program tasks o) f) r before after) (sym some)
    (answers_weaker (IsWalkOutput core readings tasks) (Says (walk program tasks (Some named_world)) f) r before after
    (λ s t output. done (tree p ∷ (world w ∷ [])) quiet (read, (second, tt))
    (walks program tasks (Some named_world) p (world w ∷ []) refl refl
    (subst (λ (x : List ℕ). IsWalkOutput (core_of p) x tasks s t) fed (subst (λ (c : Core). IsWalkOutput c readings tasks s t) is output)))) answers)

-- `run`
pub run_on : (f : Files) (file named_world : List ℕ) (brief : Bool) (i : Image) (w : World) (r : Result Status Refusal) (before after : Option (List ℕ))
    → IsQuiet f → IsRead f (named image_file file) [] (image i) → IsRead f (named world_file named_world) (image i ∷ []) (world w)
    → Answers (IsRunOutput i w brief) r before after → Answers (Says (run file named_world brief) f) r before after
run_on f file named_world brief i w r before after quiet read second answers =
    answers_weaker (IsRunOutput i w brief) (Says (run file named_world brief) f) r before after
    (λ s t output. done (image i ∷ (world w ∷ [])) quiet (read, (second, tt)) (runs file named_world brief i w refl refl output)) answers

-- `build`
pub built_of : (f : Files) (program : List ℕ) (scheme : Scheme) (p : Program) (core : Core) (r : Result Status Refusal) (before after : Option (List ℕ))
    → IsQuiet f → IsRead f (named source_file program) [] (tree p) → core ≡ core_of p → Answers (IsBuilt core scheme) r before after → Answers (Says (build program scheme) f) r before after
built_of f program scheme p core r before after quiet read is answers =
    answers_weaker (IsBuilt core scheme) (Says (build program scheme) f) r before after
    (λ s t output. done (tree p ∷ []) quiet (read, tt) (builds program scheme p refl refl (subst (λ (c : Core). IsBuilt c scheme s t) is output))) answers

-- `sites`
pub sites_of : (f : Files) (program : List ℕ) (p : Program) (core : Core) (r : Result Status Refusal) (before after : Option (List ℕ))
    → IsQuiet f → IsRead f (named source_file program) [] (tree p) → core ≡ core_of p → Answers (IsAccount core p) r before after → Answers (Says (sites program) f) r before after
sites_of f program p core r before after quiet read is answers =
    answers_weaker (IsAccount core p) (Says (sites program) f) r before after
    (λ s t output. done (tree p ∷ []) quiet (read, tt) (accounts program p refl refl (subst (λ (c : Core). IsAccount c p s t) is output))) answers

-- `debug`
pub debug_on : (f : Files) (file named_world listed : List ℕ) (i : Image) (w : World) (s : Script) (r : Result Status Refusal) (before after : Option (List ℕ))
    → IsQuiet f → IsRead f (named image_file file) [] (image i) → IsRead f (named world_file named_world) (image i ∷ []) (world w) → IsRead f (named script_file listed) (image i ∷ (world w ∷ [])) (script s)
    → Answers (IsSession i w s) r before after → Answers (Says (debug file named_world listed) f) r before after
debug_on f file named_world listed i w s r before after quiet read second third answers =
    answers_weaker (IsSession i w s) (Says (debug file named_world listed) f) r before after
    (λ st t output. done (image i ∷ (world w ∷ (script s ∷ []))) quiet (read, (second, (third, tt))) (debugs file named_world listed i w s refl refl output)) answers

-- `audit`
pub audit_on : (f : Files) (program named_world listed : List ℕ) (p : Program) (core : Core) (w : World) (lines : List ReportLine) (r : Result Status Refusal) (before after : Option (List ℕ))
    → IsQuiet f → IsRead f (named source_file program) [] (tree p) → IsRead f (named world_file named_world) (tree p ∷ []) (world w) → IsRead f (named report_file listed) (tree p ∷ (world w ∷ [])) (report lines)
    → core ≡ core_of p → Answers (IsAudit core w lines) r before after → Answers (Says (audit program named_world listed) f) r before after
audit_on f program named_world listed p core w lines r before after quiet read second third is answers =
    answers_weaker (IsAudit core w lines) (Says (audit program named_world listed) f) r before after
    (λ s t output. done (tree p ∷ (world w ∷ (report lines ∷ []))) quiet (read, (second, (third, tt)))
    (audits program named_world listed p w lines refl refl (subst (λ (c : Core). IsAudit c w lines s t) is output))) answers

-- `soak`
pub soaked_of : (f : Files) (number : ℕ) (p : Program) (core : Core) (bytes : List ℕ) (w : World) (r : Result Status Refusal) (before after : Option (List ℕ))
    → IsQuiet f → bytes ≡ source_of number → IsTree bytes p → core ≡ core_of p → w ≡ world_of number → Answers (IsSoaked core w) r before after → Answers (Says (soak number) f) r before after
soaked_of f number p core bytes w r before after quiet drawn read is met answers =
    answers_weaker (IsSoaked core w) (Says (soak number) f) r before after
    (λ s t output. done [] quiet tt (soaks number p refl refl (subst (λ (b : List ℕ). IsTree b p) drawn read)
    (subst (λ (x : World). IsSoaked (core_of p) x s t) met (subst (λ (c : Core). IsSoaked c w s t) is output)))) answers

-- the program of a soak is refused
pub soak_refused : (f : Files) (number : ℕ) (bytes : List ℕ) (e : Refusal) (r : Result Status Refusal) (before after : Option (List ℕ))
    → IsQuiet f → bytes ≡ source_of number → Tells (IsRefused source_file [] bytes) e → r ≡ Err e → after ≡ before → Answers (Says (soak number) f) r before after
soak_refused f number bytes e r before after quiet drawn told is same =
    subst (λ (x : Result Status Refusal). Answers (Says (soak number) f) x before after) (sym is)
    (answers_refusal (Says (soak number) f) e before after same (tells_weaker (IsRefused source_file [] bytes) (Says (soak number) f) e
    (λ s t vain. done [] quiet tt (soaks_in_vain number refl refl (subst (λ (b : List ℕ). IsRefused source_file [] b s t) drawn vain))) told))

-- ---- what is said has a status of its own

-- the statuses that write no line
abbrev pub IsSilent : Status → Type 0
IsSilent ends.WriteFault = Unit {0}
IsSilent ends.NoMemory = Unit {0}
IsSilent ends.Ok = ⊥
IsSilent ends.Usage = ⊥
IsSilent ends.SourceRefused = ⊥
IsSilent ends.WorldRefused = ⊥
IsSilent ends.ImageRefused = ⊥
IsSilent ends.ReadFault = ⊥
IsSilent ends.TooLong = ⊥
IsSilent ends.Trapped = ⊥
IsSilent ends.PowerEnded = ⊥
IsSilent ends.ScriptRefused = ⊥
IsSilent ends.ReportRefused = ⊥
IsSilent ends.Illegal = ⊥

refusal_speaks : (kind : Kind) → IsSilent (refused_status kind) → ⊥
refusal_speaks source_file silent = silent
refusal_speaks image_file silent = silent
refusal_speaks world_file silent = silent
refusal_speaks script_file silent = silent
refusal_speaks report_file silent = silent

walk_speaks : (e : WalkEnd) → IsSilent (walk_status e) → ⊥
walk_speaks (walk_end.Trapped trap) silent = silent
walk_speaks walk_end.Stopped silent = silent
walk_speaks walk_end.Limit silent = silent
walk_speaks walk_end.NoReading silent = silent

run_speaks : (e : RunEnd) → IsSilent (run_status e) → ⊥
run_speaks run_end.Halted silent = silent
run_speaks (run_end.Trapped code) silent = silent
run_speaks run_end.Power silent = silent

session_speaks : (e : DebugEnd) → IsSilent (session_status e) → ⊥
session_speaks debug_end.Script silent = silent
session_speaks debug_end.Halted silent = silent
session_speaks (debug_end.Trapped code) silent = silent
session_speaks debug_end.Power silent = silent

verdict_speaks : (a : Answer) → IsSilent (verdict_status a) → ⊥
verdict_speaks legal silent = silent
verdict_speaks (illegal n) silent = silent
verdict_speaks (no_report n) silent = silent

unbrought_speaks : (f : Files) (name : List ℕ) (limit : ℕ) (s : Status) (t : List ℕ) → IsUnbrought f name limit s t → IsSilent s → ⊥
unbrought_speaks f name limit s t (failed is line steady why) silent = subst IsSilent is silent
unbrought_speaks f name limit s t (long is line steady rose why) silent = subst IsSilent is silent

output_speaks : (c : Form) (inputs : List Input) (s : Status) (t : List ℕ) → IsOutput c inputs s t → IsSilent s → ⊥
output_speaks c inputs s t (walks program tasks named p rest asked read output) silent = walk_speaks _ (subst IsSilent output.ended silent)
output_speaks c inputs s t (runs file named brief i w asked read output) silent = run_speaks _ (subst IsSilent output.ended silent)
output_speaks c inputs s t (builds program scheme p asked read output) silent = subst IsSilent output.ended silent
output_speaks c inputs s t (accounts program p asked read output) silent = subst IsSilent output.ended silent
output_speaks c inputs s t (debugs file named listed i w played asked read output) silent = session_speaks _ (subst IsSilent output.ended silent)
output_speaks c inputs s t (audits program named listed p w lines asked read output) silent = verdict_speaks _ (subst IsSilent output.ended silent)
output_speaks c inputs s t (soaks number p asked read parsed output) silent = run_speaks _ (subst IsSilent output.ended silent)
output_speaks c inputs s t (soaks_in_vain number asked read vain) silent = refusal_speaks source_file (subst IsSilent vain.status_is silent)

stops_speak : (f : Files) (at : Wanted) (before : List Input) (s : Status) (t : List ℕ) → Stops f at before s t → IsSilent s → ⊥
stops_speak f at before s t (unbrought why) silent = unbrought_speaks f at.name (limit_of at.kind) s t why silent
stops_speak f at before s t (refused quiet vain) silent = refusal_speaks at.kind (subst IsSilent vain.refused.status_is silent)

says_speak : (c : Form) (f : Files) (s : Status) (t : List ℕ) → Says c f s t → IsSilent s → ⊥
says_speak c f s t (stopped at before reaches why) silent = stops_speak f at before s t why silent
says_speak c f s t (done inputs quiet read output) silent = output_speaks c inputs s t output silent

pub line_speaks : (form : Option Form) (f : Files) (s : Status) (t : List ℕ) → LineSays form f s t → IsSilent s → ⊥
line_speaks None f s t told silent = subst IsSilent told.status_is silent
line_speaks (Some c) f s t says silent = says_speak c f s t says silent

-- so a command that answers a status hasn't failed to write
pub whole_speaks : (form : Option Form) (f : Files) (s : Status) (before after : Option (List ℕ)) → Answers (LineSays form f) (Ok s) before after → s ≡ ends.WriteFault → ⊥
whole_speaks form f s before after a is = line_speaks form f s a.0 a.1 (subst IsSilent (sym is) tt)

pub refusal_has_line : (form : Option Form) (f : Files) (s : Status) (t : List ℕ) (before after : Option (List ℕ)) → Answers (LineSays form f) (Err (refusal.Refused s t)) before after → s ≡ ends.WriteFault → ⊥
refusal_has_line form f s t before after a is = line_speaks form f s t a.0 (subst IsSilent (sym is) tt)

-- ---- the words

-- words that are no command
pub usage_answers : (form : Option Form) (f : Files) (text : Result (List ℕ) NoMemory) (r : Refusal) (before after : Option (List ℕ)) → None ≡ form → IsQuiet f → after ≡ before
    → IfOk text (λ t. t ≡ usage) → Tells (λ s t. (s ≡ ends.Usage) × (text ≡ Ok t)) r → Answers (LineSays form f) (Err r) before after
usage_answers form f text r before after none quiet same spelled told =
    subst (λ (o : Option Form). Answers (LineSays o f) (Err r) before after) none
    (answers_refusal (IsUsage f) r before after same (tells_line (λ t. t ≡ usage) (IsUsage f) ends.Usage text r spelled told (λ t is made. record { status_is = refl; line = is; quiet = quiet })))

-- what a command answers is what the words say
pub form_answers : (c : Form) (form : Option Form) (f : Files) (r : Result Status Refusal) (before after : Option (List ℕ)) → Some c ≡ form → Answers (Says c f) r before after → Answers (LineSays form f) r before after
form_answers c form f r before after some answers = subst (λ (o : Option Form). Answers (LineSays o f) r before after) some answers

-- ---- what is written

-- what is said and then written whole
pub writes_whole : (form : Option Form) (f : Files) (s : Status) (t : List ℕ) (before after : Option (List ℕ)) → LineSays form f s t → after ≡ extended before t → Writes (LineSays form f) s before after
writes_whole form f ends.Ok t before after said is = (t, said, is)
writes_whole form f ends.Usage t before after said is = (t, said, is)
writes_whole form f ends.SourceRefused t before after said is = (t, said, is)
writes_whole form f ends.WorldRefused t before after said is = (t, said, is)
writes_whole form f ends.ImageRefused t before after said is = (t, said, is)
writes_whole form f ends.ReadFault t before after said is = (t, said, is)
writes_whole form f ends.TooLong t before after said is = (t, said, is)
writes_whole form f ends.Trapped t before after said is = (t, said, is)
writes_whole form f ends.PowerEnded t before after said is = (t, said, is)
writes_whole form f ends.ScriptRefused t before after said is = (t, said, is)
writes_whole form f ends.ReportRefused t before after said is = (t, said, is)
writes_whole form f ends.Illegal t before after said is = (t, said, is)
writes_whole form f ends.WriteFault t before after said is = absurd (line_speaks form f ends.WriteFault t said tt)
writes_whole form f ends.NoMemory t before after said is = absurd (line_speaks form f ends.NoMemory t said tt)

-- a command that answered a status has written its output
pub writes_output : (form : Option Form) (f : Files) (s : Status) (before after : Option (List ℕ)) → Answers (LineSays form f) (Ok s) before after → Writes (LineSays form f) s before after
writes_output form f s before after a = writes_whole form f s a.0 before after a.1 a.2

-- a command that answered a refusal writes its line, or a front of it
pub writes_line : (form : Option Form) (f : Files) (s : Status) (t sent : List ℕ) (before mid after : Option (List ℕ)) → Answers (LineSays form f) (Err (refusal.Refused s t)) before mid → sent ≡ t → after ≡ extended mid sent → Writes (LineSays form f) s before after
writes_line form f s t sent before mid after a same is = writes_whole form f s t before after a.0 (is ∙ ap (λ (o : Option (List ℕ)). extended o sent) a.1 ∙ ap (extended before) same)

pub writes_front : (form : Option Form) (f : Files) (s : Status) (t sent : List ℕ) (before mid after : Option (List ℕ)) → Answers (LineSays form f) (Err (refusal.Refused s t)) before mid → sent ≡ t → TookFront mid after sent → Writes (LineSays form f) ends.WriteFault before after
writes_front form f s t sent before mid after a same took =
    (s, t, a.0, subst (λ (x : List ℕ). TookFront before after x) same (subst (λ (o : Option (List ℕ)). TookFront o after sent) a.1 took))
