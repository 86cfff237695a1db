-- The code of a program runs its plan where its attempts lead on, and a program's without sites does: what a boot restores, and the whole.
use Rattle.std.specs.Prelude.{cond, filter, map, length, nat_lt, Option, Some, None, slice_get, slice_index_or}
use Rattle.std.specs.List.{range_with_len}
use Rattle.std.proofs.Common.{◌≡◌, ◌∙◌, ℕ, zero, suc, ◌+◌, ◌<◌, ◌≤◌, Bool, true, false, List, [], ◌∷◌, ◌++◌, refl, sym, ap, subst, arith}
use Rattle.std.proofs.lemmas.Bool.Decides.{nat_tests}
use Rattle.devices.specs.Journal.{Place}
use Rattle.devices.specs.declared.world.World.{World}
use Rattle.region_split.specs.Owners.{all_first}
use Rattle.region_split.specs.Regions.{copies, is_copy, regions}
use Rattle.task_ast.specs.WellFormed.{IsCoreTask, IsWellFormed}
use Rattle.task_ast.specs.declared.core_form.Core.{Core}
use Rattle.task_ast.specs.declared.core_form.CoreTask.{CoreTask}
use Rattle.task_ast.specs.declared.core_form.Site.{Site}
use Rattle.task_attempts.specs.Boots.{task_of}
use Rattle.word_isa.specs.declared.parts.Scheme.{Scheme}
use Rattle.word_isa.specs.declared.parts.Scheme.TheVariants.{Undo, Bank}
use Rattle.word_machine.specs.State.{Program}
use Rattle.word_machine.specs.Straight.{Spot}
use Rattle.line_code.specs.Areas.{areas_from, free_at_first}
use Rattle.line_laws.specs.Standing.{Lie}
use Rattle.run_plan.specs.declared.act.Act.{Act}
use Rattle.run_plan.specs.declared.act.Act.TheVariants as act
use Rattle.run_plan.specs.PlanOf.{around, body_acts, most_regions, plan_of, restore_acts, save_acts, task_acts}
use Rattle.run_plan.specs.Cells.{State}
use Rattle.run_plan.specs.Runs.{Onward, Planned, acts_run, doing, nothing}
use Rattle.run_plan.specs.Small.{Doing, core_of}
use Rattle.word_code.specs.ActCode.{act_code, acts_entry}
use Rattle.word_code.specs.Acts.{jump}
use Rattle.word_code.specs.CodeOf.{frame_at}
use Rattle.word_code.specs.Frames.{Frame, stub_at}
use Rattle.word_code.specs.Heads.{boot_at}
use Rattle.word_code.specs.Sizes.{act_size, acts_size}
use Rattle.code_places.specs.Placed.{ActsLie, IsPlaced, TaskLies}
use Rattle.act_refines.specs.Does.{frame_of}
use Rattle.code_cuts.specs.Lasting.{Lasts}
use Rattle.code_runs.specs.Attempts.{IfThere, LeadsFirst, RegionsRun}
use Rattle.code_runs.specs.Bare.{IsBare, planned}
use Rattle.code_runs.specs.Booting.{AllBootsRun, BootIfThere, BootRuns}
use Rattle.code_runs.specs.Claims.{Common, GoesWell}
use Rattle.code_runs.specs.Following.{AnyWay, LeadsAgain, RunsAt}
use Rattle.code_runs.proofs.BareActs.{restore_runs}
use Rattle.code_runs.proofs.BareLaws.{BareLaws}
use Rattle.code_runs.proofs.BarePlans.{all_at, attempt_where, bare_claim, homes, long, map_at, tasks_at}
use Rattle.code_runs.proofs.InAttempts.{attempt_follows}

is_less : (n m : ℕ) → nat_lt n m ≡ true → n < m
is_less n m is = grind (arith, nat_tests)

-- the regions that a boot restores
abbrev restored : Scheme → (count : ℕ) → List ℕ
restored Undo count = range_with_len 0 count
restored Bank count = []

restores_them : (scheme : Scheme) (count : ℕ) → restore_acts scheme count ≡ map act.Restore (restored scheme count)
restores_them Undo count = refl
restores_them Bank count = refl

-- where a row of them is entered
enters : (f : Frame) (rs : List ℕ) (at next : ℕ) → next ≡ at + acts_size f (map act.Restore rs) → acts_entry (map act.Restore rs) at next ≡ at
enters f [] at next is = omega (arith, is)
enters f (r ∷ rs) at next is = refl

-- ---- a task

-- no task has more copies than sites
fewer : (b : Bool) (x : Site) (xs : List Site) (n : ℕ) → length xs ≤ n → length (cond b (x ∷ xs) xs) ≤ suc n
fewer true x xs n few = omega (arith, few)
fewer false x xs n few = omega (arith, few)

few_copies : (sites : List Site) → copies sites ≤ length sites
few_copies [] = omega arith
few_copies (x ∷ sites) = fewer (is_copy x) x (filter is_copy sites) (length sites) (few_copies sites)

module _ (p : Program) (place_of : ℕ → Place) (law : BareLaws p place_of) (d : Doing) (number : ℕ) (well : IsWellFormed (core_of d)) (here : task_of (core_of d) number ≡ Some d.setting.task)
    (formed : IsCoreTask (core_of d) d.setting.task) (firsts : d.firsts ≡ all_first (core_of d) d.setting.task) where
  abbrev Ready : ℕ → Spot → State → Type 0
  Ready = Common p place_of d.setting.rules d.scheme number

  -- a region's code, where the task has the region
  region_where : d.scheme ≡ Undo → (r at next : ℕ) → Lie p at (act_code (frame_of d number) false (act.Restore r) at next) → (b : Bool) → nat_lt r (regions d.setting.task) ≡ b
      → IfThere b (RunsAt p place_of d number (Lasts p d.setting.rules d.scheme) Ready (AnyWay Ready) (act.Restore r) at next)
  region_where undo r at next lies true is =
      let less : r < regions d.setting.task = is_less r (regions d.setting.task) is in
      let few : copies d.setting.task.sites ≤ length d.setting.task.sites = few_copies d.setting.task.sites in
      let sites : length d.setting.task.sites ≤ 128 = formed.sites.few in
      let many : length d.firsts ≡ regions d.setting.task = long (core_of d) d.setting.task d.firsts firsts in
      restore_runs p place_of law d number well here r at next (omega (arith, less, few, sites)) (omega (arith, less, many)) undo (homes (core_of d) d.setting.task d.firsts firsts r) lies
  region_where undo r at next lies false is = tt

  regions_where : d.scheme ≡ Undo → (rs : List ℕ) (at next : ℕ) → next ≡ at + acts_size (frame_of d number) (map act.Restore rs) → ActsLie p (frame_of d number) false (map act.Restore rs) at next
      → RegionsRun p place_of d number (Lasts p d.setting.rules d.scheme) Ready rs at next
  regions_where undo [] at next is lies = tt
  regions_where undo (r ∷ rs) at next is lies =
      let behind_at : ℕ = at + act_size (frame_of d number) (act.Restore r) in
      let rest_is : next ≡ behind_at + acts_size (frame_of d number) (map act.Restore rs) = omega (arith, is) in
      let one_lies : Lie p at (act_code (frame_of d number) false (act.Restore r) at behind_at) = subst (λ w. Lie p at (act_code (frame_of d number) false (act.Restore r) at w)) (enters (frame_of d number) rs behind_at next rest_is) lies.0 in
      (region_where undo r at behind_at one_lies (nat_lt r (regions d.setting.task)) refl, regions_where undo rs behind_at next rest_is lies.1)

  boot_where : (scheme : Scheme) → d.scheme ≡ scheme → (count at next : ℕ) → next ≡ at + acts_size (frame_of d number) (map act.Restore (restored scheme count)) → ActsLie p (frame_of d number) false (map act.Restore (restored scheme count)) at next
      → RegionsRun p place_of d number (Lasts p d.setting.rules d.scheme) Ready (restored scheme count) at next
  boot_where Undo undo count at next is lies = regions_where undo (restored Undo count) at next is lies
  boot_where Bank banks count at next is lies = tt

-- ---- the whole

-- each task's attempts lead on from where their code lies
abbrev pub AllAttemptsLead : Program → (ℕ → Place) → Core → World → Scheme → Type 0
AllAttemptsLead p place_of c world scheme =
    (n : ℕ) (t : CoreTask) (top : ℕ) → slice_get c.tasks n ≡ Some t → ActsLie p (frame_of (doing (planned c world scheme) (suc n) t) (suc n)) false (task_acts scheme (suc n) t) top 0
    → (most : ℕ) (again : Onward) → LeadsAgain p place_of (doing (planned c world scheme) (suc n) t) (Lasts p (planned c world scheme).rules scheme) (Common p place_of (planned c world scheme).rules scheme) most again
    → LeadsFirst p place_of (doing (planned c world scheme) (suc n) t) (Lasts p (planned c world scheme).rules scheme) (Common p place_of (planned c world scheme).rules scheme (suc n)) (suc most) top
    (acts_run (doing (planned c world scheme) (suc n) t) again (task_acts scheme (suc n) t) nothing)

module _ (p : Program) (place_of : ℕ → Place) (law : BareLaws p place_of) (c : Core) (world : World) (scheme : Scheme) (well : IsWellFormed c) (lies : IsPlaced p (plan_of c scheme) c) where
  abbrev x : Planned
  x = planned c world scheme

  one_more : (n : ℕ) → n + 1 ≡ suc n
  one_more n = omega arith

  -- what the code of a task goes by
  frames : (n : ℕ) (t : CoreTask) → frame_at (plan_of c scheme) c n t ≡ frame_of (doing x (suc n) t) (suc n)
  frames n t = λ i. record { core = c; areas = areas_from free_at_first c.arrays; task = t; number = one_more n i; scheme = scheme; firsts = slice_index_or (plan_of c scheme).firsts n [] }

  pub firsts_there : (n : ℕ) (t : CoreTask) → slice_get c.tasks n ≡ Some t → (doing x (suc n) t).firsts ≡ all_first c t
  firsts_there n t found = map_at CoreTask (List (List ℕ)) (all_first c) [] c.tasks n t found

  pub formed_there : (n : ℕ) (t : CoreTask) → slice_get c.tasks n ≡ Some t → IsCoreTask c t
  formed_there n t found = all_at CoreTask (IsCoreTask c) c.tasks n t well.tasks found

  module _ (attempts_lead : AllAttemptsLead p place_of c world scheme) where
    boot_there : (n : ℕ) (t : CoreTask) → slice_get c.tasks n ≡ Some t → BootRuns p place_of x (suc n) t
    boot_there n t found =
        let l : TaskLies p (plan_of c scheme) c n t = lies.tasks n t found in
        let d : Doing = doing x (suc n) t in
        let f : Frame = frame_of d (suc n) in
        let boot : List Act = (plan_of c scheme).boot in
        let rs : List ℕ = restored scheme (most_regions c.tasks) in
        let boot_is : boot ≡ map act.Restore rs = restores_them scheme (most_regions c.tasks) in
        let firsts : d.firsts ≡ all_first c t = firsts_there n t found in
        let formed : IsCoreTask c t = formed_there n t found in
        let number_is : 1 + n ≡ suc n = omega arith in
        let acts_are : slice_index_or (plan_of c scheme).tasks n [] ≡ task_acts scheme (suc n) t = tasks_at scheme 1 c.tasks n t found ∙ ap (λ k. task_acts scheme k t) number_is in
        let top : ℕ = l.top + acts_size f boot in
        let behind : top ≡ l.top + acts_size f (map act.Restore rs) = ap (λ acts. l.top + acts_size f acts) boot_is in
        let attempt_lies : ActsLie p f false (task_acts scheme (suc n) t) top 0 = subst (λ acts. ActsLie p f false acts top 0) acts_are (subst (λ g. ActsLie p g false (slice_index_or (plan_of c scheme).tasks n []) (l.top + acts_size g boot) 0) (frames n t) l.acts) in
        let boot_lies : ActsLie p f false (map act.Restore rs) l.top top = subst (λ acts. ActsLie p f false acts l.top top) boot_is (subst (λ g. ActsLie p g false boot l.top (l.top + acts_size g boot)) (frames n t) l.boot) in
        record {
          rs = rs;
          top = l.top;
          planned = boot_is;
          long = long c t d.firsts firsts;
          stub = subst (λ k. Lie p (boot_at (length c.tasks) k) (jump l.top)) (one_more n) l.boot_stub;
          attempt = record {
            top = top;
            stub = subst (λ k. Lie p (stub_at (length c.tasks) k) (jump top)) (one_more n) (subst (λ g. Lie p (stub_at (length c.tasks) (n + 1)) (jump (l.top + acts_size g boot))) (frames n t) l.stub);
            leads = λ most again leads. subst (λ acts. LeadsFirst p place_of d (Lasts p x.rules scheme) (Common p place_of x.rules scheme (suc n)) (suc most) top (acts_run d again acts nothing)) (sym acts_are)
                (attempts_lead n t top found attempt_lies most again leads);
          };
          behind = behind;
          runs = boot_where p place_of law d (suc n) well found formed firsts scheme refl (most_regions c.tasks) l.top top behind boot_lies;
        }

    there_by : (n : ℕ) (o : Option CoreTask) → slice_get c.tasks n ≡ o → BootIfThere p place_of x (suc n) o
    there_by n None none = tt
    there_by n (Some t) found = boot_there n t found

    boots_there : (number : ℕ) → number ≤ length c.tasks → BootIfThere p place_of x number (task_of c number)
    boots_there zero few = tt
    boots_there (suc n) few = there_by n (slice_get c.tasks n) refl

    pub all_boots : AllBootsRun p place_of x
    all_boots = record { head = lies.head; halt = lies.halt; boots = boots_there }

  -- those of a program without sites do
  pub bare_attempts : IsBare c → AllAttemptsLead p place_of c world scheme
  bare_attempts bare n t top found attempt_lies most again leads =
      let d : Doing = doing x (suc n) t in
      let none : t.sites ≡ [] = all_at CoreTask (λ u. u.sites ≡ []) c.tasks n t bare found in
      attempt_follows p place_of d (suc n) (Lasts p x.rules scheme) (Common p place_of x.rules scheme) (GoesWell p place_of x.rules scheme (suc n) t) most again leads (suc n) (save_acts scheme 0 ++ body_acts (around scheme t) t.body) t.exit top 0
      (attempt_where p place_of law d (suc n) well found (formed_there n t found) (firsts_there n t found) (GoesWell p place_of x.rules scheme (suc n) t) (bare_claim p place_of x.rules scheme (suc n) t)
      (λ n m s known within frame. record { common = known; within = within }) none top 0 attempt_lies)
