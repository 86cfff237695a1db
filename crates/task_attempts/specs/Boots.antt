-- The boots that the rules expect, and by how many steps each event must have come (docs/ATTEMPTS.md, "Boots").
use Rattle.std.specs.Prelude.{ℕ, zero, suc, ◌+◌, List, [], ◌∷◌, map, take, Option, Some, None, slice_get}
use Rattle.task_ast.specs.declared.core_form.CoreTask.{CoreTask}
use Rattle.task_ast.specs.declared.core_form.Core.{Core}
use Rattle.io_annot.specs.declared.choice.Mode.TheVariants.{Own}
use Rattle.devices.specs.declared.world.World.{World}
use Rattle.devices.specs.Journal.{JournalEvent}
use Rattle.word_isa.specs.declared.parts.Scheme.{Scheme}
use Rattle.task_attempts.specs.State.{Steps, Rules, Standing, Here, Log, Rest, start}
use Rattle.task_attempts.specs.Costs.{restoring_steps}
use Rattle.task_attempts.specs.Attempts.{attempt_log}

-- what runs of a program in a world go by
abbrev pub rules_of : Core → World → Rules
rules_of c world = record { core = c; world = world }

-- the task of a number from 1; none has the number 0
abbrev pub task_of : Core → (number : ℕ) → Option CoreTask
task_of c zero = None
task_of c (suc n) = slice_get c.tasks n

-- an attempt of a task, where there is a next task
abbrev pub attempt_if_there : Rules → Option CoreTask → Rest → Rest
attempt_if_there rules None go here = []
attempt_if_there rules (Some t) go here = attempt_log (record { rules = rules; task = t }) go here

-- at most so many attempts, one after another, up to STOP or a trap
abbrev pub attempts_log : Rules → (attempts : ℕ) → Rest
attempts_log rules zero here = []
attempts_log rules (suc n) here = attempt_if_there rules (task_of rules.core here.standing.next) (attempts_log rules n) here

-- a boot may take 64 steps, and those of restoring where a task runs
abbrev pub boot_steps : Core → Option CoreTask → (furthest : ℕ) → Steps
boot_steps c None furthest scheme = 64
boot_steps c (Some t) furthest scheme = 64 + restoring_steps c t furthest scheme

-- where a boot begins
abbrev pub booted : Rules → Standing → Here
booted rules s = record {
  standing = s;
  store = s.committed;
  mode = Own;
  steps = boot_steps rules.core (task_of rules.core s.next) s.account.furthest;
}

-- What a boot does from a standing while the power lasts, up to so many events: each attempt has at least two events, so
-- as many attempts as events are enough.
unfoldable pub boot_log : Rules → (events : ℕ) → Standing → Log
boot_log rules events s = attempts_log rules events (booted rules s)

-- the standing after what was taken of a log
abbrev pub after : Standing → Log → Standing
after s [] = s
after s (l ∷ log) = after l.after log

-- what a boot shows whose power fails behind so many events, and what it leaves
abbrev pub cut_boot : Rules → (events : ℕ) → Standing → Log
cut_boot rules events s = take events (boot_log rules events s)

abbrev pub left_by : Rules → (events : ℕ) → Standing → Standing
left_by rules events s = after s (cut_boot rules events s)

-- the boots with so many events each, one after another from a standing
unfoldable pub boots_from : Rules → (cuts : List ℕ) → Standing → List Log
boots_from rules [] s = []
boots_from rules (cut ∷ cuts) s = cut_boot rules cut s ∷ boots_from rules cuts (left_by rules cut s)

-- the events of a log
abbrev pub events_in : Log → List JournalEvent
events_in log = map (λ l. l.event) log

-- the boots of a whole run, with so many events each and these looks
abbrev pub boots : Rules → (cuts looks : List ℕ) → List Log
boots rules cuts looks = boots_from rules cuts (start rules.core looks)

-- their events: what a journal with these cuts and looks must show
abbrev pub expect : Rules → (cuts looks : List ℕ) → List (List JournalEvent)
expect rules cuts looks = map events_in (boots rules cuts looks)

-- The steps by which each event of a boot must have come, and the one that would come next.
abbrev pub boot_costs : Rules → Scheme → (events : ℕ) → Standing → List ℕ
boot_costs rules scheme events s = map (λ l. l.steps scheme) (cut_boot rules (events + 1) s)

-- those of boots with so many events each, one after another from a standing
unfoldable pub costs_from : Rules → Scheme → (cuts : List ℕ) → Standing → List (List ℕ)
costs_from rules scheme [] s = []
costs_from rules scheme (cut ∷ cuts) s = boot_costs rules scheme cut s ∷ costs_from rules scheme cuts (left_by rules cut s)

-- those of the boots of a whole run
abbrev pub costs : Rules → Scheme → (cuts looks : List ℕ) → List (List ℕ)
costs rules scheme cuts looks = costs_from rules scheme cuts (start rules.core looks)
