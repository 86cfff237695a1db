-- What every run of a plan tells of one boot, and of those behind it.
use Rattle.std.specs.Prelude.{◌⊎◌, map}
use Rattle.std.proofs.Common.{◌≡◌, ◌∙◌, ℕ, zero, suc, List, [], ◌∷◌, drop, length, take, refl, ap}
use Rattle.walk_run.specs.Store.{Store}
use Rattle.devices.specs.Journal.{JournalEvent, begins, looks, keeps, drops, issues, seals, copies, commits, traps}
use Rattle.task_attempts.specs.Boots
use Rattle.task_attempts.specs.Boots.{boot_costs, boot_log, boots_from, costs_from, cut_boot, events_in}
use Rattle.task_attempts.specs.Laws.{AllStay, Stays}
use Rattle.task_attempts.specs.State.{Rules, Standing, Log}
use Rattle.task_attempts.proofs.AttemptLaws.{boot_stays}
use Rattle.run_plan.specs.Cells.{State}
use Rattle.run_plan.specs.Runs.{Planned, Smalls, boots_run, cut_run, event_weights, left_by, shown_events}
use Rattle.run_plan.specs.Sound.{AllWithin, GoesOn, IsOver, Within, counts, shown}
use Rattle.code_cuts.specs.Lasting.{task_by}
use Rattle.timely_events.proofs.Quiet.{task_told}

-- ---- the rules' next task, by the events

next_by : (store : Store) (next : ℕ) (e : JournalEvent) (s : Standing) → Stays store next e s → s.next ≡ task_by e next
next_by store next (begins t) s h = h.1
next_by store next (looks k t) s h = h.1
next_by store next (keeps k value) s h = h.1
next_by store next (drops k) s h = h.1
next_by store next (issues k p args reading) s h = h.1
next_by store next (seals k) s h = h.1
next_by store next (copies k from to n) s h = h.1
next_by store next (commits task) s h = h
next_by store next (traps code) s h = h.1

log_next : (k : ℕ) (log : Log) (s : Standing) → AllStay s.committed s.next log → (Boots.after s (take k log)).next ≡ task_told (events_in (take k log)) s.next
log_next zero log s h = refl
log_next (suc k) [] s h = refl
log_next (suc k) (l ∷ log) s h = log_next k log l.after h.1 ∙ ap (task_told (events_in (take k log))) (next_by s.committed s.next l.event l.after h.0)

pub next_told : (rules : Rules) (k : ℕ) (s : Standing) → (Boots.left_by rules k s).next ≡ task_told (events_in (cut_boot rules k s)) s.next
next_told rules k s = log_next k (boot_log rules k s) s (boot_stays rules k s)

-- ---- boots

-- the first of some lists
abbrev first_of : {A : Type 0} → List (List A) → List A
first_of [] = []
first_of (xs ∷ rest) = xs

-- From a state and a standing on, boots of whatever numbers of small steps show what the rules expect, within the steps, and go on.
pub record AreSound (x : Planned) (numbers : List ℕ) (s : State) (st : Standing) : Type 0 where
  pub expected : shown (boots_run x numbers s) ≡ map events_in (boots_from x.rules (counts (boots_run x numbers s)) st)
  pub weights : AllWithin (map event_weights (boots_run x numbers s)) (costs_from x.rules x.plan.scheme (counts (boots_run x numbers s)) st)
  pub goes_on : GoesOn x numbers s

module _ (x : Planned) where
  abbrev pub count : Smalls → ℕ
  count xs = length (shown_events xs)

  abbrev pub SoundFrom : State → Standing → Type 0
  SoundFrom s st = (numbers : List ℕ) → AreSound x numbers s st

  -- so it is behind the first boot
  next_sound : (n : ℕ) (numbers : List ℕ) (s : State) (st : Standing) → AreSound x (n ∷ numbers) s st → AreSound x numbers (left_by x n s) (Boots.left_by x.rules (count (cut_run x n s)) st)
  unfolding boots_run boots_from costs_from
  next_sound n numbers s st h = record { expected = ap (drop 1) h.expected; weights = h.weights.1; goes_on = h.goes_on.1 }

  pub sound_behind : (n : ℕ) (s : State) (st : Standing) → SoundFrom s st → SoundFrom (left_by x n s) (Boots.left_by x.rules (count (cut_run x n s)) st)
  sound_behind n s st h numbers = next_sound n numbers s st (h (n ∷ numbers))

  -- what it says of the first
  pub record BootSound (n : ℕ) (s : State) (st : Standing) : Type 0 where
    pub events : shown_events (cut_run x n s) ≡ events_in (cut_boot x.rules (count (cut_run x n s)) st)
    pub weights : Within (event_weights (cut_run x n s)) (boot_costs x.rules x.plan.scheme (count (cut_run x n s)) st)
    pub goes_on : (length (cut_run x n s) ≡ n) ⊎ IsOver s (cut_run x n s)

  first_sound : (n : ℕ) (s : State) (st : Standing) → AreSound x (n ∷ []) s st → BootSound n s st
  unfolding boots_run boots_from costs_from
  first_sound n s st h = record { events = ap first_of h.expected; weights = h.weights.0; goes_on = h.goes_on.0 }

  pub boot_sound : (n : ℕ) (s : State) (st : Standing) → SoundFrom s st → BootSound n s st
  boot_sound n s st h = first_sound n s st (h (n ∷ []))
