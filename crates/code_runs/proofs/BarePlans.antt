-- The code of a task without sites: its boot, and its attempt, each act of which runs at its place.
use Rattle.std.specs.Prelude.{cond, map, filter, length, Option, Some, None, slice_get, slice_index_or, ◌&&◌}
use Rattle.std.specs.List.{AllByRecursion, range_with_len}
use Rattle.std.proofs.Common.{◌≡◌, ◌∙◌, ℕ, zero, suc, ◌+◌, ◌<◌, ◌≤◌, Bool, true, false, List, [], ◌∷◌, ◌++◌, refl, sym, ap, subst, arith, eq-eqb}
use Rattle.devices.specs.Journal.{Place}
use Rattle.io_flow.specs.Written.{Covers, back_of, front_of}
use Rattle.region_split.specs.Owners.{all_first}
use Rattle.region_split.specs.Regions.{first, is_nonvolatile, keeps_words, regions}
use Rattle.task_ast.specs.declared.tree.Kind.{Kind}
use Rattle.task_ast.specs.declared.tree.Kind.TheVariants.{Nv, Const, Vol}
use Rattle.task_ast.specs.CoreSites.{all_numbers, site_numbers}
use Rattle.task_ast.specs.Pointing.{addresses, all_addresses, pointing}
use Rattle.task_ast.specs.WellFormed.{IsCoreExit, IsCoreStmt, IsCoreTask, IsWellFormed, scope_of}
use Rattle.task_ast.specs.declared.core_form.Array.{Array}
use Rattle.task_ast.specs.declared.core_form.Core.{Core}
use Rattle.task_ast.specs.declared.core_form.CoreExit.{CoreExit, end_of-CoreExit, more_of-CoreExit}
use Rattle.task_ast.specs.declared.core_form.CoreExit.TheVariants as exit
use Rattle.task_ast.specs.declared.core_form.CoreStmt.{CoreStmt}
use Rattle.task_ast.specs.declared.core_form.CoreStmt.TheVariants as stmt
use Rattle.task_ast.specs.declared.core_form.CoreTask.{CoreTask}
use Rattle.task_attempts.specs.Boots.{task_of}
use Rattle.task_attempts.specs.State.{Rules}
use Rattle.walk_run.specs.PlainSteps.{plain_steps}
use Rattle.walk_run.specs.Store.{Store}
use Rattle.word_isa.specs.declared.parts.Scheme.{Scheme}
use Rattle.word_isa.specs.declared.parts.Scheme.TheVariants.{Undo, Bank}
use Rattle.word_machine.specs.State.{Program}
use Rattle.word_machine.specs.Straight.{Spot}
use Rattle.line_code.specs.declared.areas.Free.{Free}
use Rattle.line_code.specs.Areas.{area_at, area_of, areas_from, free_at_first, free_of}
use Rattle.line_code.specs.Sizes.{expr_size}
use Rattle.run_plan.specs.declared.act.Act.{Act, Row_of-Act, end_of-Act, more_of-Act, items-the_row-Act}
use Rattle.run_plan.specs.declared.act.Act.TheVariants as act
use Rattle.run_plan.specs.PlanOf.{Around, around, body_acts, exit_act, row_acts, save_acts, statement_acts, task_acts, tasks_acts, unless_plain}
use Rattle.run_plan.specs.Cells.{State}
use Rattle.run_plan.specs.Rows.{act_row_of, act_row_shows}
use Rattle.run_plan.specs.Small.{Doing, core_of}
use Rattle.word_code.specs.ActCode.{acts_entry}
use Rattle.word_code.specs.Frames.{Frame}
use Rattle.word_code.specs.Sizes.{act_size, row_size}
use Rattle.word_code.proofs.ShortLaws.{expr_short}
use Rattle.code_places.specs.Placed.{ActLies, ActsLie, RowLies}
use Rattle.cell_laws.specs.Standing.{is_home}
use Rattle.act_refines.specs.Does.{AreHomes, frame_of}
use Rattle.act_refines.proofs.Begins.{few_pointers}
use Rattle.code_cuts.specs.Lasting.{Lasts}
use Rattle.code_runs.specs.Attempts.{AttemptRuns}
use Rattle.code_runs.specs.Claims.{Common, GoesWell, IsClaim}
use Rattle.code_runs.specs.Following.{ActRuns, ActsRun}
use Rattle.code_runs.proofs.BareActs.{Starts, begin_runs, commit_runs, lock_runs, plain_runs, save_runs, test_runs}
use Rattle.code_runs.proofs.BareLaws.{BareLaws}
use Rattle.code_runs.proofs.InAttempts.{entry_is, lists_run}

-- ---- lists

empty_front : {A : Type 0} (a b : List A) → a ++ b ≡ [] → a ≡ []
empty_front [] b is = refl
empty_front (x ∷ a) b is = absurd (cc is)

empty_back : {A : Type 0} (a b : List A) → a ++ b ≡ [] → b ≡ []
empty_back [] b is = is
empty_back (x ∷ a) b is = absurd (cc is)

pub all_at : (A : Type 0) (P : A → Type 0) (xs : List A) (n : ℕ) (x : A) → AllByRecursion P xs → slice_get xs n ≡ Some x → P x
all_at A P [] n x all there = absurd (cc there)
all_at A P (y ∷ xs) zero x all there = subst (λ o. of_some o) there all.0
  where
    of_some : Option A → Type 0
    of_some None = P x
    of_some (Some z) = P z
all_at A P (y ∷ xs) (suc n) x all there = all_at A P xs n x all.1 there

pub all_both : {A : Type 0} (P : A → Type 0) (a b : List A) → AllByRecursion P a → AllByRecursion P b → AllByRecursion P (a ++ b)
all_both P [] b h k = k
all_both P (x ∷ a) b h k = (h.0, all_both P a b h.1 k)

pub map_at : (A B : Type 0) (f : A → B) (none : B) (xs : List A) (n : ℕ) (x : A) → slice_get xs n ≡ Some x → slice_index_or (map f xs) n none ≡ f x
map_at A B f none [] n x there = absurd (cc there)
map_at A B f none (y ∷ xs) zero x there = ap of_some there
  where
    of_some : Option A → B
    of_some None = none
    of_some (Some z) = f z
map_at A B f none (y ∷ xs) (suc n) x there = map_at A B f none xs n x there

-- the acts of a task among those of all
pub tasks_at : (scheme : Scheme) (k : ℕ) (tasks : List CoreTask) (n : ℕ) (t : CoreTask) → slice_get tasks n ≡ Some t → slice_index_or (tasks_acts scheme k tasks) n [] ≡ task_acts scheme (k + n) t
tasks_at scheme k [] n t there = absurd (cc there)
tasks_at scheme k (y ∷ tasks) zero t there = let same : k ≡ k + 0 = omega arith in ap of_some there ∙ ap (λ j. task_acts scheme j t) same
  where
    of_some : Option CoreTask → List Act
    of_some None = []
    of_some (Some z) = task_acts scheme k z
tasks_at scheme k (y ∷ tasks) (suc n) t there = let same : k + 1 + n ≡ k + suc n = omega arith in tasks_at scheme (k + 1) tasks n t there ∙ ap (λ j. task_acts scheme j t) same

-- ---- homes

home_here : (f : Free) (k : Kind) (n : ℕ) → is_nonvolatile k ≡ true → (area_of f k n).base ≡ 14
home_here f Nv n is = refl
home_here f Const n is = absurd (cc is)
home_here f Vol n is = absurd (cc is)

home_at : (f : Free) (arrays : List Array) (n : ℕ) → keeps_words (slice_get arrays n) ≡ true → (area_at (areas_from f arrays) n).base ≡ 14
home_at f [] n is = absurd (cc is)
home_at f (x ∷ arrays) zero is = home_here f x.kind (length x.first) is
home_at f (x ∷ arrays) (suc n) is = home_at (free_of f x.kind (length x.first)) arrays n is

left_true : (a b : Bool) → (a && b) ≡ true → a ≡ true
left_true true b is = refl
left_true false b is = absurd (cc is)

-- what a region writes first are homes
homes_among : (c : Core) (more : ℕ → Bool) (xs : List ℕ) → AllByRecursion (λ a. is_home c a ≡ true) (filter (λ a. keeps_words (slice_get c.arrays a) && more a) xs)
homes_among c more [] = tt
homes_among c more (x ∷ xs) = by (keeps_words (slice_get c.arrays x) && more x) refl (homes_among c more xs)
  where
    by : (b : Bool) → (keeps_words (slice_get c.arrays x) && more x) ≡ b → AllByRecursion (λ a. is_home c a ≡ true) (filter (λ a. keeps_words (slice_get c.arrays a) && more a) xs)
        → AllByRecursion (λ a. is_home c a ≡ true) (cond b (x ∷ filter (λ a. keeps_words (slice_get c.arrays a) && more a) xs) (filter (λ a. keeps_words (slice_get c.arrays a) && more a) xs))
    by true is rest = (eq-eqb (area_at (areas_from free_at_first c.arrays) x).base 14 (home_at free_at_first c.arrays x (left_true (keeps_words (slice_get c.arrays x)) (more x) is)), rest)
    by false is rest = rest

-- ---- statements take steps

pub some_steps : (s : CoreStmt) → site_numbers s ≡ [] → (store : Store) → 0 < plain_steps s store
some_steps (stmt.Assign x e) none store = omega arith
some_steps (stmt.Point p array i) none store = omega arith
some_steps (stmt.If' c m yes_row n no_row) none store = omega arith
some_steps (stmt.Loop' i turns m row) none store = omega arith
some_steps (stmt.Io k x p args) none store = absurd (cc none)
some_steps (stmt.Block' k m row) none store = absurd (cc none)
some_steps (stmt.Copy k to from n) none store = absurd (cc none)

-- ---- rows

module _ (p : Program) (f : Frame) where
  rows_lie : (at next n : _) (row : Row_of-Act n) → RowLies p f false row at next ≡ ActsLie p f false (items-the_row-Act n row) at next
  rows_lie at next n end_of-Act = refl
  rows_lie at next n (more_of-Act a rest) =
      let behind_at : ℕ = at + act_size f a in
      λ i. ActLies p f false a at (entry_is behind_at next _ rest i) × rows_lie behind_at next _ rest i

  pub lists_lie : (at next : ℕ) (acts : List Act) → RowLies p f false (act_row_of acts).1 at next ≡ ActsLie p f false acts at next
  lists_lie at next acts = rows_lie at next (act_row_of acts).0 (act_row_of acts).1 ∙ ap (λ x. ActsLie p f false x at next) (act_row_shows acts)

-- ---- a task

-- claims that say no more
pub bare_claim : (p : Program) (place_of : ℕ → Place) (rules : Rules) (scheme : Scheme) (number : ℕ) (t : CoreTask) → IsClaim p place_of rules scheme number t (GoesWell p place_of rules scheme number t)
bare_claim p place_of rules scheme number t = record {
  common = λ n m s goes. goes.common;
  within = λ n m s goes. goes.within;
  kept = λ n k m there s to goes later frame common within. record { common = common; within = within };
}

-- the regions of a task
module _ (c : Core) (t : CoreTask) (firsts : List (List ℕ)) (is : firsts ≡ all_first c t) where
  homes_in : (rs : List ℕ) (r : ℕ) → AreHomes c (slice_index_or (map (first c t) rs) r [])
  homes_in [] r = tt
  homes_in (x ∷ rs) zero = homes_among c _ (range_with_len 0 (length c.arrays))
  homes_in (x ∷ rs) (suc r) = homes_in rs r

  pub homes : (r : ℕ) → AreHomes c (slice_index_or firsts r [])
  homes r = subst (λ fs. AreHomes c (slice_index_or fs r [])) (sym is) (homes_in (range_with_len 0 (regions t)) r)

  mapped_long : (rs : List ℕ) → length (map (first c t) rs) ≡ length rs
  mapped_long [] = refl
  mapped_long (r ∷ rs) = ap suc (mapped_long rs)

  ranged_long : (from n : ℕ) → length (range_with_len from n) ≡ n
  ranged_long from zero = refl
  ranged_long from (suc n) = ap suc (ranged_long (from + 1) n)

  pub long : length firsts ≡ regions t
  long = ap length is ∙ mapped_long (range_with_len 0 (regions t)) ∙ ranged_long 0 (regions t)

module _ (p : Program) (place_of : ℕ → Place) (law : BareLaws p place_of) (d : Doing) (number : ℕ) (well : IsWellFormed (core_of d)) (here : task_of (core_of d) number ≡ Some d.setting.task)
    (formed : IsCoreTask (core_of d) d.setting.task) (firsts : d.firsts ≡ all_first (core_of d) d.setting.task) (Well : ℕ → Spot → State → Type 0) (claim : IsClaim p place_of d.setting.rules d.scheme number d.setting.task Well) where
  abbrev c : Core
  c = core_of d

  abbrev t : CoreTask
  t = d.setting.task

  abbrev Ready : ℕ → ℕ → Spot → State → Type 0
  Ready = Common p place_of d.setting.rules d.scheme

  -- where an act lies, it runs
  abbrev pub RunsWhere : Act → Type 0
  RunsWhere a = (at next : ℕ) → ActLies p (frame_of d number) false a at next → ActRuns p place_of d number (Lasts p d.setting.rules d.scheme) Ready Well a at next

  pub all_run : (acts : List Act) (at next : ℕ) → AllByRecursion RunsWhere acts → ActsLie p (frame_of d number) false acts at next → ActsRun p place_of d number (Lasts p d.setting.rules d.scheme) Ready Well acts at next
  all_run [] at next each lies = tt
  all_run (a ∷ rest) at next each lies =
      let behind_at : ℕ = at + act_size (frame_of d number) a in
      (each.0 at (acts_entry rest behind_at next) lies.0, all_run rest behind_at next each.1 lies.1)

  few_tasks : length c.tasks ≤ 64
  few_tasks = well.few_tasks

  -- an exit
  pub exits : (e : CoreExit) (level : ℕ) → IsCoreExit (scope_of c t) (length c.tasks) level e → RunsWhere (exit_act e)
  exits (exit.Next u) level ok at next lies = let there : u ≤ length c.tasks = ok.1 in (commit_runs p place_of law d number well here Well claim u at next (omega (arith, there, few_tasks)) there lies, there)
  exits exit.Stop level ok at next lies = let there : 0 ≤ length c.tasks = omega arith in (commit_runs p place_of law d number well here Well claim 0 at next (omega arith) there lies, there)
  exits (exit.Choose' e u (more_of-CoreExit x end_of-CoreExit) v (more_of-CoreExit y end_of-CoreExit)) level ok at next lies =
      let yes_at : ℕ = at + expr_size e + 4 in
      let no_at : ℕ = yes_at + row_size (frame_of d number) (act_row_of (exit_act x ∷ [])).1 in
      let x_lies : ActsLie p (frame_of d number) false (exit_act x ∷ []) yes_at next = subst (λ t. t) (lists_lie p (frame_of d number) yes_at next (exit_act x ∷ [])) lies.1 in
      let y_lies : ActsLie p (frame_of d number) false (exit_act y ∷ []) no_at next = subst (λ t. t) (lists_lie p (frame_of d number) no_at next (exit_act y ∷ [])) lies.2 in (
        test_runs p place_of law d number well here Well claim e (exit_act x ∷ []) (exit_act y ∷ []) at next ok.1.1 (expr_short (scope_of c t) (few_pointers c well) 0 e (omega arith) ok.1) lies.0,
        subst (λ t. t) (sym (lists_run p place_of d number (Lasts p d.setting.rules d.scheme) Ready Well yes_at next (exit_act x ∷ []))) (exits x (1 + level) ok.2 yes_at next x_lies.0, tt),
        subst (λ t. t) (sym (lists_run p place_of d number (Lasts p d.setting.rules d.scheme) Ready Well no_at next (exit_act y ∷ []))) (exits y (1 + level) ok.3 no_at next y_lies.0, tt),
      )

  -- a statement
  pub plain_where : (level : ℕ) (branched : Bool) (s : CoreStmt) → site_numbers s ≡ [] → IsCoreStmt (scope_of c t) level branched [] s → Covers (pointing t) (λ q. addresses q s) → RunsWhere (act.Plain s)
  plain_where level branched s none ok covers at next lies = plain_runs p place_of law d number well here Well claim level branched s at next ok covers (some_steps s none) lies

  statement_where : (a : Around) (s : CoreStmt) → site_numbers s ≡ [] → IsCoreStmt (scope_of c t) 1 false [] s → Covers (pointing t) (λ q. addresses q s) → AllByRecursion RunsWhere (statement_acts a s)
  statement_where a (stmt.Assign x e) none ok covers = (plain_where 1 false (stmt.Assign x e) none ok covers, tt)
  statement_where a (stmt.Point q array i) none ok covers = (plain_where 1 false (stmt.Point q array i) none ok covers, tt)
  statement_where a (stmt.If' e m yes_row n no_row) none ok covers =
      subst (λ ks. AllByRecursion RunsWhere (unless_plain ks (stmt.If' e m yes_row n no_row) (act.Test e (row_acts a yes_row) (row_acts a no_row)) ∷ [])) (sym none) (plain_where 1 false (stmt.If' e m yes_row n no_row) none ok covers, tt)
  statement_where a (stmt.Loop' i turns m row) none ok covers = (plain_where 1 false (stmt.Loop' i turns m row) none ok covers, tt)
  statement_where a (stmt.Io k x q args) none ok covers = absurd (cc none)
  statement_where a (stmt.Block' k m row) none ok covers = absurd (cc none)
  statement_where a (stmt.Copy k to from n) none ok covers = absurd (cc none)

  body_where : (a : Around) (body : List CoreStmt) → all_numbers body ≡ [] → AllByRecursion (IsCoreStmt (scope_of c t) 1 false []) body → Covers (pointing t) (λ q. all_addresses q body) → AllByRecursion RunsWhere (body_acts a body)
  body_where a [] none ok covers = tt
  body_where a (s ∷ rest) none ok covers =
      all_both RunsWhere (statement_acts a s) (body_acts a rest)
      (statement_where a s (empty_front (site_numbers s) (all_numbers rest) none) ok.0 (λ q. front_of (addresses q s) (all_addresses q rest) (pointing t q) (covers q)))
      (body_where a rest (empty_back (site_numbers s) (all_numbers rest) none) ok.1 (λ q. back_of (addresses q s) (all_addresses q rest) (pointing t q) (covers q)))

  -- a region is saved
  pub save_where : (scheme : Scheme) (r : ℕ) → r ≤ 128 → d.scheme ≡ scheme → AllByRecursion RunsWhere (save_acts scheme r)
  save_where Undo r few is =
      ((λ at next lies. save_runs p place_of law d number well here Well claim r at next few is (homes c t d.firsts firsts r) lies), ((λ at next lies. lock_runs p place_of law d number well here Well claim r at next few lies), tt))
  save_where Bank r few is = tt

  -- the attempt of a task without sites
  pub attempt_where : Starts p place_of law d number well here Well → t.sites ≡ [] → (at next : ℕ) → ActsLie p (frame_of d number) false (task_acts d.scheme number t) at next
      → AttemptRuns p place_of d number (Lasts p d.setting.rules d.scheme) Ready Well number (save_acts d.scheme 0 ++ body_acts (around d.scheme t) t.body) t.exit at next
  attempt_where starts bare at next lies =
      let numbers : all_numbers t.body ≡ [] = formed.sites.numbers ∙ ap (λ sites. range_with_len 1 (length sites)) bare in
      let acts : List Act = save_acts d.scheme 0 ++ body_acts (around d.scheme t) t.body in
      let behind_at : ℕ = at + act_size (frame_of d number) (act.Begin number) in (
        begin_runs p place_of law d number well here Well starts number at (acts_entry (acts ++ exit_act t.exit ∷ []) behind_at next) lies.0,
        all_run (acts ++ exit_act t.exit ∷ []) behind_at next
            (all_both RunsWhere acts (exit_act t.exit ∷ []) (all_both RunsWhere (save_acts d.scheme 0) (body_acts (around d.scheme t) t.body) (save_where d.scheme 0 (omega arith) refl) (body_where (around d.scheme t) t.body numbers formed.body (λ q n there. there)))
            (exits t.exit 1 formed.exit, tt)) lies.1,
      )
