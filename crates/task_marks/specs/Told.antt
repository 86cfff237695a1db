-- The marks that the events of a run come from, and that each names the task that began last (docs/CODE.md, "What is proved").
use Rattle.std.specs.Prelude.{◌≡◌, ℕ, zero, suc, ◌-◌, ◌==◌, List, [], ◌∷◌, ◌++◌, Option, Some, None, if◌then◌else◌, ⊤}
use Rattle.devices.specs.declared.event.Event.{Event}
use Rattle.devices.specs.declared.event.Event.TheVariants as event
use Rattle.devices.specs.declared.world.PowerRow.{PowerRow}
use Rattle.word_isa.specs.Marks.{mark_at}
use Rattle.word_isa.specs.declared.mark.Mark.{Mark}
use Rattle.word_isa.specs.declared.mark.MarkKind.{MarkKind}
use Rattle.word_isa.specs.declared.mark.MarkKind.TheVariants.{Begin, Look, Kept, Drop, Issue, Seal, Copy, Commit}
use Rattle.word_machine.specs.Events.{stepped_next}
use Rattle.word_machine.specs.Runs.{fail_behind, is_running}
use Rattle.word_machine.specs.State.{Program, State}
use Rattle.word_machine.specs.Step.{exec, step}
use Rattle.word_machine.specs.declared.stepped.Stepped.{Stepped}
use Rattle.word_machine.specs.declared.stepped.Stepped.TheVariants as stepped

-- ---- the marks of a run

-- where the instruction of a step's event stands: before the counter while the words of its copy move
abbrev pub told_at : State → ℕ
told_at s = if s.engine.left == 0 then s.pc else s.pc - 1

-- the mark of what a step tells, if it tells an event and that has one
abbrev pub mark_told : Stepped → Option Mark → List Mark
mark_told (stepped.Ran None) m = []
mark_told (stepped.Ran (Some e)) None = []
mark_told (stepped.Ran (Some e)) (Some m) = m ∷ []
mark_told stepped.Halted m = []
mark_told (stepped.Trapped code) m = []

-- those of so many steps
unfoldable pub marks_in : List Mark → Program → ℕ → State → List Mark
marks_in marks p zero s = []
marks_in marks p (suc n) s = mark_told (stepped_next p s) (mark_at marks (told_at s)) ++ marks_in marks p n (step p s)

-- those of all boots
unfoldable pub marks_on : List Mark → Program → List PowerRow → State → List Mark
marks_on marks p [] s = []
marks_on marks p (row ∷ rows) s = marks_in marks p row.on s ++ (if is_running (exec p row.on s).ending then marks_on marks p rows (fail_behind row (exec p row.on s)) else [])

-- ---- their tasks

-- the task that began last, behind a mark
abbrev pub begun_by : MarkKind → (site : ℕ) → (begun : Option ℕ) → Option ℕ
begun_by Begin site begun = Some site
begun_by Look site begun = begun
begun_by Kept site begun = begun
begun_by Drop site begun = begun
begun_by Issue site begun = begun
begun_by Seal site begun = begun
begun_by Copy site begun = begun
begun_by Commit site begun = begun

-- a mark of any other kind than a begin's names that task
abbrev pub IsOfBegun : MarkKind → (task : ℕ) → (begun : Option ℕ) → Type 0
IsOfBegun Begin task begun = ⊤
IsOfBegun Look task begun = begun ≡ Some task
IsOfBegun Kept task begun = begun ≡ Some task
IsOfBegun Drop task begun = begun ≡ Some task
IsOfBegun Issue task begun = begun ≡ Some task
IsOfBegun Seal task begun = begun ≡ Some task
IsOfBegun Copy task begun = begun ≡ Some task
IsOfBegun Commit task begun = begun ≡ Some task

-- so does each of these marks, one after another
abbrev pub AtTheirTasks : (begun : Option ℕ) → List Mark → Type 0
AtTheirTasks begun [] = ⊤
AtTheirTasks begun (m ∷ marks) = IsOfBegun m.kind m.task begun × AtTheirTasks (begun_by m.kind m.site begun) marks

-- ---- events and marks

-- the site that an event names, a begin's task, or the task that is next behind a commit
abbrev pub site_in : Event → ℕ
site_in (event.Begin task) = task
site_in (event.Look site time) = site
site_in (event.Kept site value) = site
site_in (event.Dropped site) = site
site_in (event.Issued site peripheral args reading) = site
site_in (event.Sealed site) = site
site_in (event.Copied site from to words) = site
site_in (event.Commit next) = next
