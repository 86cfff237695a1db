-- Each issue of the boots that the rules expect is of a peripheral of the program.
use Rattle.std.specs.Prelude.{slice_get}
use Rattle.std.specs.List.{AllByRecursion}
use Rattle.std.proofs.Common.{◌≡◌, ℕ, zero, suc, List, [], ◌∷◌, map, take, Option, Some, None, refl, subst}
use Rattle.task_ast.specs.WellFormed.{IsCoreTask, IsWellFormed}
use Rattle.task_ast.specs.declared.core_form.Core.{Core}
use Rattle.task_ast.specs.declared.core_form.CoreTask.{CoreTask}
use Rattle.devices.specs.declared.world.World.{World}
use Rattle.task_attempts.specs.Boots.{attempt_if_there, attempts_log, boot_log, booted, boots_from, events_in, expect, left_by, rules_of, task_of}
use Rattle.task_attempts.specs.State.{Here, Log, Rest, Standing, start}
use Rattle.journal_fits.specs.Names.{AllNamePeripherals, LogsPeripherals, NamePeripherals}
use Rattle.journal_fits.proofs.Named.{attempt_names}

-- a task that is there is one of the checked form
task_at : (c : Core) (tasks : List CoreTask) (n : ℕ) (t : CoreTask) → AllByRecursion (IsCoreTask c) tasks → slice_get tasks n ≡ Some t → IsCoreTask c t
task_at c [] n t all is = absurd (cc is)
task_at c (x ∷ tasks) zero t all is = let same : x ≡ t = cc is in subst (IsCoreTask c) same all.0
task_at c (x ∷ tasks) (suc n) t all is = task_at c tasks n t all.1 is

task_formed : (c : Core) (number : ℕ) (t : CoreTask) → IsWellFormed c → task_of c number ≡ Some t → IsCoreTask c t
task_formed c zero t well is = absurd (cc is)
task_formed c (suc n) t well is = task_at c c.tasks n t well.tasks is

there_names : (c : Core) (world : World) (number : ℕ) (go : Rest) (here : Here) → IsWellFormed c → ((here : Here) → LogsPeripherals c (go here)) → (t : Option CoreTask) → task_of c number ≡ t
    → LogsPeripherals c (attempt_if_there (rules_of c world) t go here)
there_names c world number go here well names None is = tt
there_names c world number go here well names (Some t) is = attempt_names c (record { rules = rules_of c world; task = t }) go refl (task_formed c number t well is) names here

attempts_name : (c : Core) (world : World) (n : ℕ) → IsWellFormed c → (here : Here) → LogsPeripherals c (attempts_log (rules_of c world) n here)
attempts_name c world zero well here = tt
attempts_name c world (suc n) well here = there_names c world here.standing.next (attempts_log (rules_of c world) n) here well (attempts_name c world n well) (task_of c here.standing.next) refl

-- some first ones are too
some_first : (c : Core) (n : ℕ) (log : Log) → LogsPeripherals c log → NamePeripherals c (events_in (take n log))
some_first c zero log all = tt
some_first c (suc n) [] all = tt
some_first c (suc n) (l ∷ log) all = (all.0, some_first c n log all.1)

boots_name : (c : Core) (world : World) (cuts : List ℕ) (s : Standing) → IsWellFormed c → AllNamePeripherals c (map events_in (boots_from (rules_of c world) cuts s))
unfolding boots_from boot_log
boots_name c world [] s well = tt
boots_name c world (cut ∷ cuts) s well =
    (some_first c cut (boot_log (rules_of c world) cut s) (attempts_name c world cut well (booted (rules_of c world) s)), boots_name c world cuts (left_by (rules_of c world) cut s) well)

pub expected_name : (c : Core) (world : World) (cuts looks : List ℕ) → IsWellFormed c → AllNamePeripherals c (expect (rules_of c world) cuts looks)
expected_name c world cuts looks well = boots_name c world cuts (start c looks) well
