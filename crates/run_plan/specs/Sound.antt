-- What a plan must meet: its runs do what the rules say, at the steps that the rules allow, it never stands still, and
-- what is saved is saved in its place (docs/PLAN.md, "What a sound plan is").
use Rattle.std.specs.Prelude.{◌≡◌, ◌⊎◌, ⊤, ℕ, ◌+◌, ◌-◌, ◌≤◌, Bool, true, false, ◌==◌, ◌&&◌, nat_le, IsTrue, List, [], ◌∷◌, ◌++◌, length, map, flat_map, Some}
use Rattle.std.specs.List.{AllByRecursion}
use Rattle.task_ast.specs.declared.core_form.CoreTask.{CoreTask}
use Rattle.task_ast.specs.declared.core_form.Core.{Core}
use Rattle.region_split.specs.Regions.{regions, region_of}
use Rattle.walk_run.specs.Walk.{walk_of}
use Rattle.devices.specs.declared.world.World.{World}
use Rattle.devices.specs.World.{IsWithinLimits}
use Rattle.devices.specs.Journal.{JournalEvent, traps}
use Rattle.word_isa.specs.declared.parts.Scheme.{Scheme}
use Rattle.word_isa.specs.declared.parts.Scheme.TheVariants.{Undo, Bank}
use Rattle.task_attempts.specs.Boots.{rules_of, boots, expect, costs}
use Rattle.task_attempts.specs.Journals.{idle, retained, trapped_in}
use Rattle.task_attempts.specs.Laws.{EndsWith}
use Rattle.task_attempts.specs.Sound.{AreWalked, RecordsAgree, next_in, code_in, end_code}
use Rattle.run_plan.specs.declared.act.Act.{Act, Row_of-Act, end_of-Act, more_of-Act}
use Rattle.run_plan.specs.declared.act.Act.TheVariants as act
use Rattle.run_plan.specs.declared.parts.Plan.{Plan}
use Rattle.run_plan.specs.Cells.{State}
use Rattle.run_plan.specs.Runs.{Smalls, Planned, cut_run, left_by, started, after, plan_run, shown_events, event_weights, commit_states}

-- ---- a run does what the unbroken run does

-- the events of each boot, and how many they are
abbrev pub shown : List Smalls → List (List JournalEvent)
shown run = map shown_events run

abbrev pub counts : List Smalls → List ℕ
counts run = map (λ b. length (shown_events b)) run

-- A trap of a boot is that of the unbroken run that is fed the readings retained so far, and those of the attempt that
-- traps.
abbrev pub TrapsAreWalked : Core → (before boots : List (List JournalEvent)) → Type 0
TrapsAreWalked c before [] = ⊤
TrapsAreWalked c before (boot ∷ rest) =
    let so_far = before ++ boot ∷ [] in
    AllByRecursion (λ code. end_code (walk_of c (retained c so_far ++ trapped_in c idle boot) (length (flat_map (λ b. flat_map next_in b) so_far) + 1)).end ≡ Some code) (flat_map code_in boot)
    × TrapsAreWalked c so_far rest

-- ---- weights

-- each number is at most that at its place in another list
abbrev pub Within : (few many : List ℕ) → Type 0
Within [] many = ⊤
Within (n ∷ few) [] = ⊥
Within (n ∷ few) (m ∷ many) = (n ≤ m) × Within few many

-- so it is of each list at its place
abbrev pub AllWithin : (few many : List (List ℕ)) → Type 0
AllWithin [] many = ⊤
AllWithin (n ∷ few) [] = ⊥
AllWithin (n ∷ few) (m ∷ many) = Within n m × AllWithin few many

-- ---- a run goes on

-- a trap
abbrev pub IsTrap : JournalEvent → Type 0
IsTrap (traps code) = ⊤
IsTrap e = ⊥

-- a boot is over: no task is next, or it trapped
abbrev pub IsOver : State → Smalls → Type 0
IsOver s xs = ((after s xs).task ≡ 0) ⊎ EndsWith IsTrap (shown_events xs)

-- each boot does its small steps unless it is over before
abbrev pub GoesOn : Planned → (numbers : List ℕ) → State → Type 0
GoesOn p [] s = ⊤
GoesOn p (n ∷ numbers) s = ((length (cut_run p n s) ≡ n) ⊎ IsOver s (cut_run p n s)) × GoesOn p numbers (left_by p n s)

-- What holds of a run of so many small steps a boot, with these looks: its states at commits and its traps are those of
-- the unbroken run; its events are those of the rules; records that are followed agree; the weights of the acts begun up
-- to each event are within the steps that the rules allow; and it goes on.
pub record IsSoundRun (p : Planned) (numbers looks : List ℕ) : Type 0 where
  pub walked : AreWalked p.rules.core (shown (plan_run p numbers looks)) (flat_map (commit_states p) (plan_run p numbers looks))
  pub traps : TrapsAreWalked p.rules.core [] (shown (plan_run p numbers looks))
  pub expected : shown (plan_run p numbers looks) ≡ expect p.rules (counts (plan_run p numbers looks)) looks
  pub agree : AllByRecursion RecordsAgree (boots p.rules (counts (plan_run p numbers looks)) looks)
  pub weights : AllWithin (map event_weights (plan_run p numbers looks)) (costs p.rules p.plan.scheme (counts (plan_run p numbers looks)) looks)
  pub goes_on : GoesOn p numbers (started p looks)

-- ---- saving stands in its place

abbrev mutual
  -- the acts of a list in the order of the text, those inside behind the one that has them
  pub in_order : Act → List Act → List Act
  in_order (act.Test' c m yes_row n no_row) rest = act.Test c [] [] ∷ row_in_order yes_row (row_in_order no_row rest)
  in_order (act.Choose' k m issue_row n keep_row) rest = act.Choose k [] [] ∷ row_in_order issue_row (row_in_order keep_row rest)
  in_order (act.Leave' k m row) rest = act.Leave k [] ∷ row_in_order row rest
  in_order (act.ByClass' k l single_row m private_row n rest_row) rest =
      act.ByClass k [] [] [] ∷ row_in_order single_row (row_in_order private_row (row_in_order rest_row rest))
  in_order a rest = a ∷ rest

  -- those of a row
  pub row_in_order : {n : _} → Row_of-Act n → List Act → List Act
  row_in_order end_of-Act rest = rest
  row_in_order (more_of-Act a acts) rest = in_order a (row_in_order acts rest)

-- those of a list
abbrev pub all_in_order : List Act → List Act
all_in_order [] = []
all_in_order (a ∷ acts) = in_order a (all_in_order acts)

-- a lock of this region comes next
abbrev pub locks_next : (region : ℕ) → List Act → Bool
locks_next r [] = false
locks_next r (act.Lock l ∷ acts) = l == r
locks_next r (a ∷ acts) = false

-- the site of an act that belongs to a site; a drop and a block's end belong to none here, since a record may be dropped
-- earlier, by a site on which its own depends
abbrev pub site_in : Act → (ℕ → Bool) → Bool → Bool
site_in (act.Look k) f other = f k
site_in (act.Choose' k m issue_row n keep_row) f other = f k
site_in (act.Issue k) f other = f k
site_in (act.Seal k) f other = f k
site_in (act.Take k) f other = f k
site_in (act.Write k) f other = f k
site_in (act.Enter k) f other = f k
site_in (act.ByClass' k l single_row m private_row n rest_row) f other = f k
site_in (act.Transfer k leg) f other = f k
site_in (act.KeepWords k) f other = f k
site_in (act.PutWords k) f other = f k
site_in a f other = other

-- Whether an act stands where so many regions are saved: a beginning before all, a region's saving next and with its lock
-- right behind, a copy's valuing before its region is saved and its other acts behind that, all else behind region 0.
abbrev pub stands : CoreTask → Act → (behind : List Act) → (saved : ℕ) → Bool
stands t (act.Begin n) behind saved = saved == 0
stands t (act.Save r) behind saved = (saved == r) && locks_next r behind
stands t (act.Lock r) behind saved = saved == r + 1
stands t (act.Value k) behind saved = saved == region_of t (k - 1) + 1
stands t a behind saved = site_in a (λ k. nat_le (region_of t k + 1) saved) (nat_le 1 saved)

-- the regions saved behind an act
abbrev pub more_saved : Act → ℕ → ℕ
more_saved (act.Save r) saved = saved + 1
more_saved a saved = saved

-- all regions of a task are saved, each in its place
abbrev pub saved_in_place : CoreTask → List Act → (saved : ℕ) → Bool
saved_in_place t [] saved = saved == regions t
saved_in_place t (a ∷ acts) saved = stands t a acts saved && saved_in_place t acts (more_saved a saved)

-- nothing is saved
abbrev pub saves_nothing : List Act → Bool
saves_nothing [] = true
saves_nothing (act.Save r ∷ acts) = false
saves_nothing (act.Lock r ∷ acts) = false
saves_nothing (a ∷ acts) = saves_nothing acts

-- a task's acts save as the scheme says
abbrev pub task_saves : Scheme → CoreTask → List Act → Bool
task_saves Undo t acts = saved_in_place t (all_in_order acts) 0
task_saves Bank t acts = saves_nothing (all_in_order acts)

-- each task of a program has its acts, and these save as the scheme says
abbrev pub tasks_save : Scheme → List CoreTask → List (List Act) → Bool
tasks_save scheme [] [] = true
tasks_save scheme [] (acts ∷ lists) = false
tasks_save scheme (t ∷ tasks) [] = false
tasks_save scheme (t ∷ tasks) (acts ∷ lists) = task_saves scheme t acts && tasks_save scheme tasks lists

-- ---- all of it

-- A sound plan: all its runs are, in every world within the limits, and its saving stands in its place.
pub record PlanSound (c : Core) (plan : Plan) : Type 0 where
  pub runs : (world : World) → IsWithinLimits world → (numbers looks : List ℕ) → IsSoundRun (record { rules = rules_of c world; plan = plan }) numbers looks
  pub saves : IsTrue (tasks_save plan.scheme c.tasks plan.tasks)
