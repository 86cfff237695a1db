-- The acts of a call tell what the rules say of it, each act by a lemma of its own.
use Rattle.std.proofs.Common.{◌≡◌, ◌∙◌, ℕ, suc, ◌+◌, ◌*◌, ◌≤◌, Bool, true, false, cond, List, [], ◌∷◌, ◌++◌, length, map, drop, Result, Ok, Err, refl, sym, ap, subst, arith}
use Rattle.std.specs.Prelude.{Option, Some, None, if◌then◌else◌}
use Rattle.std.specs.List.{AllByRecursion}
use Rattle.std.proofs.Math.Path.{fun_ext}
use Rattle.ease_base.specs.Found.{with_found}
use Rattle.task_ast.specs.declared.tree.Ann.{Ann}
use Rattle.task_ast.specs.declared.tree.Ann.TheVariants.{Single, Timely, Always}
use Rattle.task_ast.specs.declared.core_form.CoreExpr.{CoreExpr}
use Rattle.task_ast.specs.declared.core_form.CoreTarget.{CoreTarget}
use Rattle.task_ast.specs.declared.core_form.CoreStmt.{CoreStmt}
use Rattle.task_ast.specs.declared.core_form.CoreStmt.TheVariants as stmt
use Rattle.task_ast.specs.declared.core_form.CoreTask.{CoreTask}
use Rattle.task_ast.specs.declared.core_form.Core.{Core}
use Rattle.task_ast.specs.declared.core_form.Site.{Site}
use Rattle.task_ast.specs.declared.core_form.Site.TheVariants as site
use Rattle.task_ast.specs.Pointing.{pointing, reading_arrays}
use Rattle.io_annot.specs.declared.choice.Mode.{Mode}
use Rattle.io_annot.specs.declared.choice.Mode.TheVariants as mode
use Rattle.io_annot.specs.declared.choice.Choice.{Choice}
use Rattle.io_annot.specs.declared.choice.Choice.TheVariants.{Keep, Issue}
use Rattle.io_annot.specs.Choice.{is_expired, choice}
use Rattle.io_depend.specs.Depend.{dependents}
use Rattle.region_split.specs.Regions.{may_write}
use Rattle.walk_run.specs.declared.trap.Trap.{Trap}
use Rattle.walk_run.specs.declared.place.Place.{Place}
use Rattle.walk_run.specs.Store.{Store, put_word}
use Rattle.walk_run.specs.Value.{value_of, target_place}
use Rattle.walk_run.specs.PlainWrites.{sets}
use Rattle.walk_run.specs.PlainSteps.{expr_steps, target_steps, found_steps}
use Rattle.devices.specs.Reading.{reading_in}
use Rattle.devices.specs.Journal.{looks, keeps, drops, issues, seals}
use Rattle.task_attempts.specs.State.{Setting, Account, Record, of_reading, of_block, of_copy, Here, Followed, Rest}
use Rattle.task_attempts.specs.Changes.{put, with_steps, with_store, with_record, with_looks, with_issue, spent}
use Rattle.task_attempts.specs.Costs.{call_steps}
use Rattle.task_attempts.specs.Along.{setting_of}
use Rattle.task_attempts.specs.Told.{logged, unless_trap, next_look, look, drop_one, drop_all, seal}
use Rattle.task_attempts.specs.Values.{value, values, reading_place, put_into}
use Rattle.task_attempts.specs.Calls
use Rattle.task_attempts.specs.Calls.{annotation_of, number_of, site_at, issue, issue_anew, kept_in, issued_with, by_record, call_inside, call_log}
use Rattle.task_attempts.specs.Boots.{task_of}
use Rattle.run_plan.specs.declared.act.Act.{Act}
use Rattle.run_plan.specs.declared.act.Act.TheVariants as act
use Rattle.run_plan.specs.Cells.{Frame, State, puts_flag, puts_value, puts_stamp, after_write}
use Rattle.run_plan.specs.Small.{Doing, Done, does, ahead, silent, showing, writing, have, unless_fails, same, sets_frame, with_volatile, after_event}
use Rattle.run_plan.specs.Deeds.{target_found, all_values, value_done, reading_held, by_choice, choose_done, issue_done, sealed, seal_done, words_put, write_done}
use Rattle.run_plan.specs.Words.{home_writes}
use Rattle.run_plan.specs.Weights.{values_steps, target_weight, value_weight, choose_weight, seal_weight}
use Rattle.run_plan.specs.Finding.{statement_of}
use Rattle.run_plan.specs.Safe.{all_written}
use Rattle.run_plan.specs.PlanOf.{Around, around, issue_acts, call_acts}
use Rattle.run_plan.specs.Runs.{Small, At, Onward, Planned, with_state, doing, small, act_end, deed, act_steps, straight, by_way, act_run, acts_run}
use Rattle.run_plan.specs.RunRows.{run_choose}
use Rattle.plan_restore.proofs.Puts.{NotConst}
use Rattle.plan_restore.proofs.Writing.{TouchMay, touched_may, target_array, as_found, ok_is}
use Rattle.site_events.specs.Records.{View, view, holds, HasReading, Says, IsRecord, kept_from}
use Rattle.site_events.specs.Standing.{sites_of, StandsAt}
use Rattle.site_events.specs.Follows.{PointsWithin, Outer, Beside, Known, Goes}
use Rattle.site_events.proofs.Records.{put_here, put_all}
use Rattle.site_events.proofs.Places.{value_stands, stamp_stands, drop_stands, seal_stands, look_stands, issue_stands, homes_unseen, all_view, all_frame, all_stand}
use Rattle.site_events.proofs.Stores.{writes_leave}
use Rattle.site_events.proofs.Telling.{silent_goes, writes_go, shown_goes, end_goes, trap_goes}
use Rattle.site_events.proofs.Acts.{Pair, Go, put_fits, no_spare, sites_are, same_goes}

-- ---- what is valued

-- steps spent twice
spent_twice : (a b : ℕ) (here : Here) → spent b (spent a here) ≡ spent (a + b) here
spent_twice a b here = ap (λ s. with_steps s here) (fun_ext (λ scheme. let e : here.steps scheme + a + b ≡ here.steps scheme + (a + b) = omega arith in e))

spent_none : (here : Here) → spent 0 here ≡ here
spent_none here = ap (λ s. with_steps s here) (fun_ext (λ scheme. let e : here.steps scheme + 0 ≡ here.steps scheme = omega arith in e))

-- words are valued all at once
abbrev Words : (List ℕ → Rest) → Result (List ℕ) Trap → (steps : ℕ) → Rest
Words go r steps here = unless_trap r go (spent steps here)

first_value : (e : CoreExpr) (es : List CoreExpr) (go : List ℕ → Rest) (here : Here) (r : Result ℕ Trap) → ((more : List ℕ → Rest) (here' : Here) → here'.store ≡ here.store → values es more here' ≡ Words more (all_values es here.store) (values_steps es here.store) here')
    → unless_trap r (λ word. values es (λ words. go (word ∷ words))) (spent (expr_steps e) here)
    ≡ Words go (with_found r (λ word. with_found (all_values es here.store) (λ words. Ok (word ∷ words)))) (expr_steps e + found_steps r (λ word. values_steps es here.store)) here
first_value e es go here (Ok word) rest =
    rest (λ words. go (word ∷ words)) (spent (expr_steps e) here) refl ∙ by_rest (all_values es here.store) ∙ ap (unless_trap (with_found (all_values es here.store) (λ words. Ok (word ∷ words))) go) (spent_twice (expr_steps e) (values_steps es here.store) here)
  where
    by_rest : (r : Result (List ℕ) Trap) → unless_trap r (λ words. go (word ∷ words)) (spent (values_steps es here.store) (spent (expr_steps e) here))
        ≡ unless_trap (with_found r (λ words. Ok (word ∷ words))) go (spent (values_steps es here.store) (spent (expr_steps e) here))
    by_rest (Ok words) = refl
    by_rest (Err why) = refl
first_value e es go here (Err why) rest = ap (unless_trap {A = List ℕ} (Err why) go) (ap (λ n. spent n here) (let e0 : expr_steps e ≡ expr_steps e + 0 = omega arith in e0))

values_are : (es : List CoreExpr) (go : List ℕ → Rest) (here : Here) → values es go here ≡ Words go (all_values es here.store) (values_steps es here.store) here
values_are [] go here = ap (go []) (sym (spent_none here))
values_are (e ∷ es) go here =
    first_value e es go here (value_of e here.store) (λ more here' is. values_are es more here' ∙ ap (λ store. Words more (all_values es store) (values_steps es store) here') is)

-- a call's target, and then its words
abbrev pub Valued : Option CoreTarget → List CoreExpr → (Option Place → List ℕ → Rest) → Store → Rest
Valued target args rest store here =
    unless_trap (target_found target store) (λ at there. Words (rest at) (all_values args store) (values_steps args store) there) (spent (target_weight target) here)

valued_are : (target : Option CoreTarget) (args : List CoreExpr) (rest : Option Place → List ℕ → Rest) (here : Here) → reading_place target (λ at. values args (rest at)) here ≡ Valued target args rest here.store here
valued_are None args rest here = values_are args (rest None) here ∙ ap (Words (rest None) (all_values args here.store) (values_steps args here.store)) (sym (spent_none here))
valued_are (Some t) args rest here = by_place (target_place t here.store)
  where
    by_place : (r : Result Place Trap) → unless_trap r (λ at. values args (rest (Some at))) (spent (target_steps t) here)
        ≡ unless_trap (with_found r (λ at. Ok (Some at))) (λ at there. Words (rest at) (all_values args here.store) (values_steps args here.store) there) (spent (target_steps t) here)
    by_place (Ok at) = values_are args (rest (Some at)) (spent (target_steps t) here)
    by_place (Err why) = refl

-- ---- what is known between the acts of a call

-- the place that a call's word goes to may be written
abbrev pub MayPut : Core → Option Place → Type 0
MayPut c None = Unit {0}
MayPut c (Some at) = NotConst c at.array

-- ---- what is kept

keep_is : (value word : ℕ) → Keep value ≡ Keep word → value ≡ word
keep_is value word is = ap out is
  where
    out : Choice → ℕ
    out (Keep v) = v
    out Issue = word

-- the choice by a record that is there
own_keeps : (m : Mode) (ann : Ann) (value stamp time word : ℕ) → choice m ann (Some (value, stamp)) time ≡ Keep word → value ≡ word
own_keeps mode.Keep ann value stamp time word is = keep_is value word is
own_keeps mode.Force ann value stamp time word is = absurd (cc is)
own_keeps mode.Own Single value stamp time word is = keep_is value word is
own_keeps mode.Own Always value stamp time word is = absurd (cc is)
own_keeps mode.Own (Timely ticks) value stamp time word is = by_test (is_expired ticks stamp time) is
  where
    by_test : (b : Bool) → (if b then Issue else Keep value) ≡ Keep word → value ≡ word
    by_test true found = absurd (cc found)
    by_test false found = keep_is value word found

-- what is kept is a reading's value
kept_from_record : (m : Mode) (ann : Ann) (r : Option Record) (time word : ℕ) → choice m ann (kept_in r) time ≡ Keep word → (stamp : ℕ) × ((args : List ℕ) × (r ≡ Some (of_reading word stamp args)))
kept_from_record m ann None time word is = absurd (cc is)
kept_from_record m ann (Some (of_block stamp)) time word is = absurd (cc is)
kept_from_record m ann (Some (of_copy class to from words)) time word is = absurd (cc is)
kept_from_record m ann (Some (of_reading value stamp args)) time word is = (stamp, (args, ap (λ v. Some (of_reading v stamp args)) (own_keeps m ann value stamp time word is)))

-- what a call's flag and cells give is what its record gives
held_is : (v : View) (start k : ℕ) (ann : Ann) (r : Option Record) → IsRecord v start k r (Some (site.Io ann)) → cond (holds v k) (Some (v.value k, v.stamp k)) None ≡ kept_in r
held_is v start k ann None h = ap (λ b. cond b (Some (v.value k, v.stamp k)) None) h
held_is v start k ann (Some (of_block stamp)) h = absurd h.1
held_is v start k ann (Some (of_copy class to from words)) h = absurd h.1
held_is v start k ann (Some (of_reading value stamp args)) h = λ i. cond (h.0 i) (Some (h.1.value i, h.1.stamp i)) None

module _ (p : Planned) (Sees : Store → Small → Type 0) (fuel number : ℕ) (t : CoreTask) (there : task_of p.rules.core number ≡ Some t) (again : Onward) where
  abbrev c : Core
  c = p.rules.core

  abbrev d : Doing
  d = doing p number t

  abbrev setting : Setting
  setting = setting_of p.rules t

  abbrev Going : Known → (spare : ℕ) → Onward → Rest → Type 0
  Going K spare go rest = Go p Sees fuel number t there again K spare go rest

  abbrev Near : (spare : ℕ) → At → Here → Type 0
  Near spare at here = Pair p Sees fuel number t there again spare at here

  module _ (P : Outer) (k : ℕ) where
    abbrev IsValued : Option Place → List ℕ → Known
    IsValued at words f acc = P f.mode f.outer f.begun acc.furthest × (f.target ≡ Some at) × (f.args ≡ Some words)

    abbrev IsLooked : Option Place → List ℕ → (time : ℕ) → Known
    IsLooked at words time f acc = P f.mode f.outer f.begun acc.furthest × (f.target ≡ Some at) × (f.args ≡ Some words) × (f.time ≡ Some time)

    abbrev IsDropped : Option Place → List ℕ → (time : ℕ) → Known
    IsDropped at words time f acc = IsLooked at words time f acc × (acc.records k ≡ None)

    abbrev IsIssued : Option Place → (time word : ℕ) → Known
    IsIssued at time word f acc = P f.mode f.outer f.begun acc.furthest × (f.target ≡ Some at) × (f.time ≡ Some time) × (f.word ≡ Some word) × (acc.records k ≡ None)

    abbrev IsKept : Option Place → (word : ℕ) → Known
    IsKept at word f acc = P f.mode f.outer f.begun acc.furthest × (f.target ≡ Some at) × ((time : ℕ) × ((args : List ℕ) × (acc.records k ≡ Some (of_reading word time args))))

    abbrev IsTaken : Option Place → (word : ℕ) → Known
    IsTaken at word f acc = P f.mode f.outer f.begun acc.furthest × (f.target ≡ Some at) × (f.word ≡ Some word)

    -- ---- its target and its arguments are valued

    module _ (target : Option CoreTarget) (q : ℕ) (args : List CoreExpr) (spare : ℕ) (go : Onward) (rest : Option Place → List ℕ → Rest) where
      -- the act's end, or a trap of its arguments
      words_go : (at_place : Option Place) → ((words : List ℕ) → Going (IsValued at_place words) spare go (rest at_place words)) → (r : Result (List ℕ) Trap) (at : At) (here : Here) → Near spare at here → P at.state.frame.mode at.state.frame.outer at.state.frame.begun here.standing.account.furthest
          → Goes p Sees fuel at.state.store here.standing (deed c (act.Value k) (unless_fails r (λ words. sets_frame (record at.state.frame { target = Some at_place; args = Some words }))) (straight go) at) (unless_trap r (rest at_place) here)
      words_go at_place follows (Err why) at here related outer = trap_goes p Sees fuel at.state.store (act.Value k) why at here related.stands (no_spare spare _ _ related.weights)
      words_go at_place follows (Ok words) at here related outer =
          let f = record at.state.frame { target = Some at_place; args = Some words } in
          end_goes p Sees fuel (act.Value k) (λ s. record s { frame = f }) go at at.state.store here.standing (rest at_place words here) related.stands
          (λ seen. follows words (with_state (record at.state { frame = f }) at) here (record {
            store = related.store;
            mode = related.mode;
            running = related.running;
            stands = related.stands;
            weights = related.weights;
            within = related.within;
            fits = related.fits;
          }) (outer, refl, refl))

      abbrev Ends : (Option Place → List ℕ → Frame) → Store → Result (Option Place) Trap → Done
      Ends f store r = unless_fails r (λ at_place. unless_fails (all_values args store) (λ words. sets_frame (f at_place words)))

      place_go : ((at_place : Option Place) → MayPut c at_place → (words : List ℕ) → Going (IsValued at_place words) spare go (rest at_place words)) → (at : At) (here : Here) → Near (spare + 20) at here → P at.state.frame.mode at.state.frame.outer at.state.frame.begun here.standing.account.furthest
          → (r : Result (Option Place) Trap) → ((at_place : Option Place) → r ≡ Ok at_place → MayPut c at_place)
          → Goes p Sees fuel at.state.store here.standing
          (deed c (act.Value k) (Ends (λ at_place words. record at.state.frame { target = Some at_place; args = Some words }) at.state.store r) (straight go)
          (record at { weights = at.weights + (20 + (target_weight target + found_steps r (λ at_place. values_steps args at.state.store))) }))
          (unless_trap r (λ at_place after. Words (rest at_place) (all_values args at.state.store) (values_steps args at.state.store) after) (spent (target_weight target) here))
      place_go follows at here related outer (Err why) may =
          trap_goes p Sees fuel at.state.store (act.Value k) why (record at { weights = at.weights + (20 + (target_weight target + 0)) }) (spent (target_weight target) here) related.stands
          (let few = related.weights in omega (arith, few))
      place_go follows at here related outer (Ok at_place) may =
          let n = target_weight target in
          let m = values_steps args at.state.store in
          words_go at_place (follows at_place (may at_place refl)) (all_values args at.state.store) (record at { weights = at.weights + (20 + (n + m)) }) (spent m (spent n here)) (record {
            store = related.store;
            mode = related.mode;
            running = related.running;
            stands = related.stands;
            weights = (let few = related.weights in omega (arith, few));
            within = related.within;
            fits = related.fits;
          }) outer

      may_put : (at : At) (here : Here) → Near (spare + 20) at here → AllByRecursion (TouchMay (NotConst c)) (map may_write (reading_arrays (pointing t) target)) → (at_place : Option Place) → target_found target at.state.store ≡ Ok at_place → MayPut c at_place
      may_put at here related all at_place is = by_target target all is
        where
          by_place : (x : CoreTarget) → AllByRecursion (TouchMay (NotConst c)) (map may_write (reading_arrays (pointing t) (Some x))) → (r : Result Place Trap) → target_place x at.state.store ≡ r → (at_place : Option Place)
              → with_found r (λ a. as_found (Some a)) ≡ Ok at_place → MayPut c at_place
          by_place x all (Err why) found at_place is = absurd (cc is)
          by_place x all (Ok a) found at_place is =
              subst (MayPut c) (ok_is (Some a) at_place is)
              (touched_may (NotConst c) (reading_arrays (pointing t) (Some x)) all a.array (target_array (pointing t) x at.state.store a (subst (PointsWithin (pointing t)) (sym related.store) related.within) found))

          by_target : (x : Option CoreTarget) → AllByRecursion (TouchMay (NotConst c)) (map may_write (reading_arrays (pointing t) x)) → target_found x at.state.store ≡ Ok at_place → MayPut c at_place
          by_target None all is = subst (MayPut c) (ok_is None at_place is) tt
          by_target (Some x) all is = by_place x all (target_place x at.state.store) refl at_place is

      pub value_follows : statement_of d k ≡ Some (stmt.Io k target q args) → AllByRecursion (TouchMay (NotConst c)) (map may_write (reading_arrays (pointing t) target))
          → ((at_place : Option Place) → MayPut c at_place → (words : List ℕ) → Going (IsValued at_place words) spare go (rest at_place words))
          → Going (Beside P) (spare + 20) (act_steps d (act.Value k) (straight go)) (λ here. reading_place target (λ at_place. values args (rest at_place)) here)
      value_follows found all follows at here related outer =
          let one = place_go follows at here related outer (target_found target at.state.store) (may_put at here related all) in
          let two = subst (λ (o : Option CoreStmt). Goes p Sees fuel at.state.store here.standing (deed c (act.Value k) (value_done setting o at.state) (straight go) (record at { weights = at.weights + value_weight o at.state.store })) (Valued target args rest at.state.store here)) (sym found) one in
          subst (λ log. Goes p Sees fuel at.state.store here.standing (act_steps d (act.Value k) (straight go) at) log)
          (ap (λ store. Valued target args rest store here) related.store ∙ sym (valued_are target args rest here)) two

    -- ---- a look

    pub look_follows : (K : Known) (L : ℕ → Known) (spare : ℕ) (go : Onward) (rest : ℕ → Rest) → ((time : ℕ) (left : List ℕ) (f : Frame) (acc : Account) → K f acc → L time (record f { time = Some time }) (record acc { looks = left }))
        → ((time : ℕ) → Going (L time) spare go (rest time)) → Going K (spare + 6) (act_steps d (act.Look k) (straight go)) (look k rest)
    look_follows K L spare go rest step follows at here related known =
        let time = next_look here.standing.account.looks in
        let time' = next_look at.state.looks in
        let same_time : time' ≡ time = ap next_look related.stands.looks in
        let begun : At = record at { weights = at.weights + 6 } in
        let s = after_event (looks k time') at.state in
        let here' = with_looks (drop 1 here.standing.account.looks) here in
        let frame : Frame = record at.state.frame { time = Some time' } in
        let change : State → State = λ after. record after { frame = record at.state.frame { time = Some time' } } in
        let stands = look_stands c at.state here related.stands in
        shown_goes p Sees fuel (act.Look k) None (looks k time') (act_end c (act.Look k) change go) begun here.standing (logged (looks k time) None here') (rest time here')
        (record { event = ap (looks k) same_time; weights = (let few = related.weights in omega (arith, few)); committed = refl; stands = stands; leads = tt })
        (end_goes p Sees fuel (act.Look k) change go (with_state s begun) s.store here'.standing (rest time here') stands
        (λ seen. follows time (with_state (change s) begun) here' (record {
          store = related.store;
          mode = related.mode;
          running = related.running;
          stands = stands;
          weights = (let few = related.weights in omega (arith, few));
          within = related.within;
          fits = related.fits;
        }) (subst (λ x. L x frame here'.standing.account) same_time (step time' (drop 1 here.standing.account.looks) at.state.frame here.standing.account known))))

    -- ---- a drop, whatever is known that a drop leaves

    pub drop_follows : (K L : Known) (j spare : ℕ) (go : Onward) (rest : Rest) → ((f : Frame) (acc : Account) → K f acc → L f (record acc { records = put j None acc.records })) → Going L spare go rest
        → Going K (spare + 4) (act_steps d (act.Drop j) (straight go)) (drop_one j rest)
    drop_follows K L j spare go rest step follows at here related known =
        let begun : At = record at { weights = at.weights + 4 } in
        let s = after_write c.arrays (puts_flag j 0) at.state in
        let here' = with_record j None here in
        let stands = drop_stands c at.state here related.stands j in
        let later : Near spare (with_state s begun) here' = record {
          store = related.store;
          mode = related.mode;
          running = related.running;
          stands = stands;
          weights = (let few = related.weights in omega (arith, few));
          within = related.within;
          fits = related.fits;
        } in
        shown_goes p Sees fuel (act.Drop j) (Some (puts_flag j 0)) (drops j) (act_end c (act.Drop j) same go) begun here.standing (logged (drops j) None here') (rest here')
        (record { event = refl; weights = (let few = related.weights in omega (arith, few)); committed = refl; stands = stands; leads = tt })
        (same_goes p Sees fuel number t there again L spare (act.Drop j) go rest follows (with_state s begun) here' later (step at.state.frame here.standing.account known))

    -- drops one after another
    pub drops_follow : (K : Known) → ((j : ℕ) (f : Frame) (acc : Account) → K f acc → K f (record acc { records = put j None acc.records })) → (js : List ℕ) (acts : List Act) (spare : ℕ) (go : Onward) (rest : Rest) → Going K spare (acts_run d again acts go) rest
        → Going K (spare + 4 * length js) (acts_run d again (map act.Drop js ++ acts) go) (drop_all js rest)
    drops_follow K step [] acts spare go rest follows = let e0 : spare ≡ spare + 4 * 0 = omega arith in subst (λ n. Going K n (acts_run d again acts go) rest) e0 follows
    drops_follow K step (j ∷ js) acts spare go rest follows =
        let e0 : spare + 4 * length js + 4 ≡ spare + 4 * suc (length js) = omega arith in
        subst (λ n. Going K n (acts_run d again (map act.Drop (j ∷ js) ++ acts) go) (drop_all (j ∷ js) rest)) e0
        (drop_follows K K j (spare + 4 * length js) (acts_run d again (map act.Drop js ++ acts) go) (drop_all js rest) (step j) (drops_follow K step js acts spare go rest follows))

    -- ---- an issue

    pub issue_follows : (q : ℕ) (target : Option CoreTarget) (args : List CoreExpr) (at_place : Option Place) (words : List ℕ) (time spare : ℕ) (go : Onward) (rest : ℕ → Rest) → statement_of d k ≡ Some (stmt.Io k target q args)
        → ((word : ℕ) → Going (IsIssued at_place time word) spare go (rest word))
        → Going (IsDropped at_place words time) (spare + 12) (act_steps d (act.Issue k) (straight go)) (issue setting k (number_of setting q) words rest)
    issue_follows q target args at_place words time spare go rest found follows at here related known =
        let n = number_of setting q in
        let word = reading_in p.rules.world.feeds n (here.standing.account.issued n + 1) in
        let word' = reading_in p.rules.world.feeds n (at.state.issued n + 1) in
        let same_word : word' ≡ word = ap (λ (f : ℕ → ℕ). reading_in p.rules.world.feeds n (f n + 1)) related.stands.issued in
        let begun : At = record at { weights = at.weights + 12 } in
        let s = after_event (issues k n words word') at.state in
        let here' = with_issue n here in
        let change : State → State = λ after. record after { frame = record at.state.frame { word = Some word' } } in
        let stands = issue_stands c at.state here related.stands n in
        let told = shown_goes p Sees fuel (act.Issue k) None (issues k n words word') (act_end c (act.Issue k) change go) begun here.standing (logged (issues k n words word) None here') (rest word here')
        (record { event = ap (issues k n words) same_word; weights = (let few = related.weights in omega (arith, few)); committed = refl; stands = stands; leads = tt })
        (end_goes p Sees fuel (act.Issue k) change go (with_state s begun) s.store here'.standing (rest word here') stands
        (λ seen. follows word (with_state (change s) begun) here' (record {
          store = related.store;
          mode = related.mode;
          running = related.running;
          stands = stands;
          weights = (let few = related.weights in omega (arith, few));
          within = related.within;
          fits = related.fits;
        }) (known.0.0, known.0.1, known.0.3, ap Some same_word, known.1))) in
        let with_words = subst (λ (o : Option (List ℕ)). Goes p Sees fuel at.state.store here.standing (deed c (act.Issue k) (have o (Issues n at)) (straight go) begun) (issue setting k n words rest here)) (sym known.0.2) told in
        subst (λ (o : Option CoreStmt). Goes p Sees fuel at.state.store here.standing (deed c (act.Issue k) (issue_done setting o k at.state) (straight go) begun) (issue setting k n words rest here)) (sym found) with_words
      where
        Issues : ℕ → At → List ℕ → Done
        Issues n at words =
            let word = reading_in p.rules.world.feeds n (at.state.issued n + 1) in
            does (showing (issues k n words word) ∷ []) (λ after. record after { frame = record at.state.frame { word = Some word } }) ahead

    -- ---- the seal of a call

    pub seal_follows : (ann : Ann) (at_place : Option Place) (words : List ℕ) (time word spare : ℕ) (go : Onward) (rest : Rest) → site_at t.sites k ≡ Some (site.Io ann)
        → Going (λ f acc. P f.mode f.outer f.begun acc.furthest × (f.target ≡ Some at_place) × (f.word ≡ Some word)) spare go rest
        → Going (IsIssued at_place time word) (spare + 8) (act_steps d (act.Seal k) (straight go)) (seal k (of_reading word time words) rest)
    seal_follows ann at_place words time word spare go rest standing follows at here related known =
        let begun : At = record at { weights = at.weights + 8 } in
        let s0 = at.state in
        let s1 = after_write c.arrays (puts_value k word) s0 in
        let s2 = after_write c.arrays (puts_stamp k time) s1 in
        let s3 = after_write c.arrays (puts_flag k s0.epoch) s2 in
        let here' = with_record k (Some (of_reading word time words)) here in
        let stands1 = value_stands c s0 here related.stands k word known.4 in
        let stands2 = stamp_stands c s1 here stands1 k time known.4 in
        let says : HasReading (view s2) k word time = record { value = put_here k word s0.cells.value; stamp = put_here k time s0.cells.stamp } in
        let place : site_at (sites_of c s0.task) k ≡ Some (site.Io ann) = ap (λ sites. site_at sites k) (sites_are p Sees fuel number t there again (spare + 8) at here related) ∙ standing in
        let stands3 = seal_stands c s2 here stands2 k (of_reading word time words) (λ sort to from kept is. absurd (cc is)) (subst (Says (view s2) (kept_from (sites_of c s0.task) k) k (of_reading word time words)) (sym place) says) in
        let later : Near spare (with_state s3 begun) here' = record {
          store = related.store;
          mode = related.mode;
          running = related.running;
          stands = stands3;
          weights = (let few = related.weights in omega (arith, few));
          within = related.within;
          fits = related.fits;
        } in
        let told = silent_goes p Sees fuel (act.Seal k) (puts_value k word) (small c (act.Seal k) (silent (puts_stamp k time)) (small c (act.Seal k) (writing (puts_flag k s0.epoch) (seals k)) (act_end c (act.Seal k) same go))) begun here.standing _ stands1
        (silent_goes p Sees fuel (act.Seal k) (puts_stamp k time) (small c (act.Seal k) (writing (puts_flag k s0.epoch) (seals k)) (act_end c (act.Seal k) same go)) (with_state s1 begun) here.standing _ stands2
        (shown_goes p Sees fuel (act.Seal k) (Some (puts_flag k s0.epoch)) (seals k) (act_end c (act.Seal k) same go) (with_state s2 begun) here.standing (logged (seals k) None here') (rest here')
        (record { event = refl; weights = (let few = related.weights in omega (arith, few)); committed = refl; stands = stands3; leads = tt })
        (same_goes p Sees fuel number t there again (λ f acc. P f.mode f.outer f.begun acc.furthest × (f.target ≡ Some at_place) × (f.word ≡ Some word)) spare (act.Seal k) go rest follows (with_state s3 begun) here' later (known.0, known.1, known.3)))) in
        let log = seal k (of_reading word time words) rest here in
        let with_time = subst (λ (o : Option ℕ). Goes p Sees fuel s0.store here.standing (deed c (act.Seal k) (have o (Sealed s0 word)) (straight go) begun) log) (sym known.2) told in
        let with_word = subst (λ (o : Option ℕ). Goes p Sees fuel s0.store here.standing (deed c (act.Seal k) (have o (λ w. have s0.frame.time (Sealed s0 w))) (straight go) begun) log) (sym known.3) with_time in
        subst (λ (o : Option Site). Goes p Sees fuel s0.store here.standing (deed c (act.Seal k) (seal_done o k s0) (straight go) (record at { weights = at.weights + seal_weight o })) log) (sym standing) with_word
      where
        Sealed : State → ℕ → ℕ → Done
        Sealed s word time = sealed k (puts_value k word ∷ puts_stamp k time ∷ puts_flag k s.epoch ∷ [])

    -- ---- a record's value is taken

    pub take_follows : (at_place : Option Place) (word spare : ℕ) (followed : Option Followed) (go : Onward) (rest : Rest) → Going (IsTaken at_place word) spare go rest → (ann : Ann) → site_at t.sites k ≡ Some (site.Io ann)
        → Going (IsKept at_place word) (spare + 6) (act_steps d (act.Take k) (straight go)) (λ here. logged (keeps k word) followed here ∷ rest here)
    take_follows at_place word spare followed go rest follows ann standing at here related known =
        let begun : At = record at { weights = at.weights + 6 } in
        let word' = at.state.cells.value k in
        let place : site_at (sites_of c at.state.task) k ≡ Some (site.Io ann) = ap (λ sites. site_at sites k) (sites_are p Sees fuel number t there again (spare + 6) at here related) ∙ standing in
        let start = kept_from (sites_of c at.state.task) k in
        let reading : HasReading (view at.state) k word known.2.0 =
        (subst (λ o. IsRecord (view at.state) start k (Some (of_reading word known.2.0 known.2.1.0)) o) place (subst (λ r. IsRecord (view at.state) start k r (site_at (sites_of c at.state.task) k)) known.2.1.1 (related.stands.records k))).1 in
        let same_word : word' ≡ word = reading.value in
        let change : State → State = λ after. record after { frame = record at.state.frame { word = Some word' } } in
        shown_goes p Sees fuel (act.Take k) None (keeps k word') (act_end c (act.Take k) change go) begun here.standing (logged (keeps k word) followed here) (rest here)
        (record { event = ap (keeps k) same_word; weights = (let few = related.weights in omega (arith, few)); committed = refl; stands = related.stands; leads = tt })
        (end_goes p Sees fuel (act.Take k) change go begun at.state.store here.standing (rest here) related.stands
        (λ seen. follows (with_state (change at.state) begun) here (record {
          store = related.store;
          mode = related.mode;
          running = related.running;
          stands = related.stands;
          weights = (let few = related.weights in omega (arith, few));
          within = related.within;
          fits = related.fits;
        }) (known.0, known.1, ap Some same_word)))

    -- ---- the word goes to the target

    pub write_follows : (at_place : Option Place) (word spare : ℕ) (go : Onward) (rest : Rest) → MayPut c at_place → Going (Beside P) spare go rest
        → Going (IsTaken at_place word) (spare + 6) (act_steps d (act.Write k) (straight go)) (λ here. rest (put_into at_place word here))
    write_follows at_place word spare go rest may follows at here related known =
        let begun : At = record at { weights = at.weights + 6 } in
        subst (λ (o : Option (Option Place)). Goes p Sees fuel at.state.store here.standing (deed c (act.Write k) (have o (λ target. write_done c target at.state)) (straight go) begun) (rest (put_into at_place word here))) (sym known.1)
        (by_place at_place may begun here (record {
          store = related.store;
          mode = related.mode;
          running = related.running;
          stands = related.stands;
          weights = (let few = related.weights in omega (arith, few));
          within = related.within;
          fits = related.fits;
        }) known.0 known.2)
      where
        by_place : (o : Option Place) → MayPut c o → (at : At) (here : Here) → Near spare at here → P at.state.frame.mode at.state.frame.outer at.state.frame.begun here.standing.account.furthest → at.state.frame.word ≡ Some word
            → Goes p Sees fuel at.state.store here.standing (deed c (act.Write k) (write_done c o at.state) (straight go) at) (rest (put_into o word here))
        by_place None may at here related outer known = same_goes p Sees fuel number t there again (Beside P) spare (act.Write k) go rest follows at here related outer
        by_place (Some a) may at here related outer known =
            let store = put_word a word at.state.store in
            let writes = sets a word ∷ [] in
            let homes = home_writes c writes in
            let unseen = homes_unseen c writes in
            let s = all_written c homes at.state in
            let stands = subst (λ v. StandsAt c v here.standing) (sym (all_view c homes unseen at.state)) related.stands in
            let frame = all_frame c homes unseen at.state in
            let here' = with_store (put_word a word here.store) here in
            subst (λ (o : Option ℕ). Goes p Sees fuel at.state.store here.standing (deed c (act.Write k) (have o (λ w. words_put c (sets a w ∷ []) (put_word a w at.state.store))) (straight go) at) (rest here')) (sym known)
            (writes_go p Sees fuel (act.Write k) homes (act_end c (act.Write k) (with_volatile c store) go) at here.standing (rest here') (all_stand p Sees fuel here.standing homes unseen at.state related.stands)
            (end_goes p Sees fuel (act.Write k) (with_volatile c store) go (with_state s at) s.store here.standing (rest here') stands
            (λ seen. follows (with_state (with_volatile c store s) at) here' (record {
              store = writes_leave c writes (may, tt) at.state ∙ ap (put_word a word) related.store;
              mode = ap (λ f. f.mode) frame ∙ related.mode;
              running = related.running;
              stands = stands;
              weights = related.weights;
              within = related.within;
              fits = put_fits c a word here.store related.fits;
            }) (subst (λ f. P f.mode f.outer f.begun here.standing.account.furthest) (sym frame) outer))))

    -- what needs less may have more to spare
    spares : (K : Known) (few many : ℕ) → few ≤ many → (go : Onward) (rest : Rest) → Going K few go rest → Going K many go rest
    spares K few many less go rest follows at here related known = follows at here (record {
      store = related.store;
      mode = related.mode;
      running = related.running;
      stands = related.stands;
      weights = (let low = related.weights in omega (arith, low, less));
      within = related.within;
      fits = related.fits;
    }) known

    -- ---- the choice

    choice_goes : (ann : Ann) (q : ℕ) (at_place : Option Place) (words : List ℕ) (time spare : ℕ) (a : Act) (issue_way keep_way go : Onward) (rest : ℕ → Rest)
        → Going (IsLooked at_place words time) spare issue_way (issue_anew setting k q words time rest)
        → ((word : ℕ) (followed : Option Followed) → Going (IsKept at_place word) spare keep_way (λ here. logged (keeps k word) followed here ∷ rest word here))
        → (at : At) (here : Here) → Near spare at here → (r : Option Record) → here.standing.account.records k ≡ r → IsLooked at_place words time at.state.frame here.standing.account
        → (ch : Choice) → choice here.mode ann (kept_in r) time ≡ ch
        → Goes p Sees fuel at.state.store here.standing (deed c a (does [] same (by_choice ch)) (by_way issue_way keep_way go go) at) (Calls.by_choice setting k q (issued_with r) words time rest ch here)
    choice_goes ann q at_place words time spare a issue_way keep_way go rest issues_so keeps_so at here related r is known Issue chosen =
        same_goes p Sees fuel number t there again (IsLooked at_place words time) spare a issue_way (issue_anew setting k q words time rest) issues_so at here related known
    choice_goes ann q at_place words time spare a issue_way keep_way go rest issues_so keeps_so at here related r is known (Keep word) chosen =
        let from = kept_from_record here.mode ann r time word chosen in
        same_goes p Sees fuel number t there again (IsKept at_place word) spare a keep_way _ (keeps_so word _) at here related (known.0, known.1, (from.0, (from.1.0, is ∙ from.1.1)))

    choose_follows : (ann : Ann) (q : ℕ) (at_place : Option Place) (words : List ℕ) (time spare : ℕ) (issuing keeping : List Act) (go : Onward) (rest : ℕ → Rest) → site_at t.sites k ≡ Some (site.Io ann)
        → Going (IsLooked at_place words time) spare (acts_run d again issuing go) (issue_anew setting k q words time rest)
        → ((word : ℕ) (followed : Option Followed) → Going (IsKept at_place word) spare (acts_run d again keeping go) (λ here. logged (keeps k word) followed here ∷ rest word here))
        → Going (IsLooked at_place words time) (spare + 30) (act_run d again (act.Choose k issuing keeping) go) (λ here. by_record setting k q words time rest (here.standing.account.records k) here)
    choose_follows ann q at_place words time spare issuing keeping go rest standing issues_so keeps_so =
        subst (λ (f : Onward). Going (IsLooked at_place words time) (spare + 30) f (λ here. by_record setting k q words time rest (here.standing.account.records k) here)) (sym (run_choose d again k issuing keeping go))
        (λ at here related known.
        let a = act.Choose k issuing keeping in
        let ways = by_way (acts_run d again issuing go) (acts_run d again keeping go) go go in
        let begun : At = record at { weights = at.weights + 30 } in
        let r = here.standing.account.records k in
        let place : site_at (sites_of c at.state.task) k ≡ Some (site.Io ann) = ap (λ sites. site_at sites k) (sites_are p Sees fuel number t there again (spare + 30) at here related) ∙ standing in
        let held = held_is (view at.state) (kept_from (sites_of c at.state.task) k) k ann r (subst (λ o. IsRecord (view at.state) (kept_from (sites_of c at.state.task) k) k r o) place (related.stands.records k)) in
        let log = by_record setting k q words time rest r here in
        let told = choice_goes ann q at_place words time spare a (acts_run d again issuing go) (acts_run d again keeping go) go rest issues_so keeps_so begun here (record {
          store = related.store;
          mode = related.mode;
          running = related.running;
          stands = related.stands;
          weights = (let few = related.weights in omega (arith, few));
          within = related.within;
          fits = related.fits;
        }) r refl known (choice here.mode ann (kept_in r) time) refl in
        let told' = subst (λ x. Goes p Sees fuel at.state.store here.standing (deed c a (does [] same (by_choice (choice here.mode ann (kept_in r) time))) ways begun) (Calls.by_choice setting k q (issued_with r) words time rest (choice here.mode x (kept_in r) time) here)) (sym (ap annotation_of standing)) told in
        let with_kept = subst (λ o. Goes p Sees fuel at.state.store here.standing (deed c a (does [] same (by_choice (choice here.mode ann o time))) ways begun) log) (sym held) told' in
        let with_time = subst (λ (o : Option ℕ). Goes p Sees fuel at.state.store here.standing (deed c a (have o (λ time. does [] same (by_choice (choice here.mode ann (reading_held at.state k) time)))) ways begun) log) (sym known.3) with_kept in
        let with_mode = subst (λ (o : Option Mode). Goes p Sees fuel at.state.store here.standing (deed c a (have o (λ m. have at.state.frame.time (λ time. does [] same (by_choice (choice m ann (reading_held at.state k) time))))) ways begun) log) (sym related.mode) with_time in
        subst (λ (o : Option Site). Goes p Sees fuel at.state.store here.standing (deed c a (choose_done o k at.state) ways (record at { weights = at.weights + choose_weight o })) log) (sym standing) with_mode)

    -- ---- the whole call

    abbrev a : Around
    a = around p.plan.scheme t

    issuing_follows : (ann : Ann) (target : Option CoreTarget) (q : ℕ) (args : List CoreExpr) (at_place : Option Place) (words : List ℕ) (time : ℕ) (go : Onward) (rest : ℕ → Rest)
        → site_at t.sites k ≡ Some (site.Io ann) → statement_of d k ≡ Some (stmt.Io k target q args) → ((word : ℕ) → Going (IsTaken at_place word) 6 go (rest word))
        → Going (IsLooked at_place words time) (30 + 4 * length (dependents t k)) (acts_run d again (issue_acts a k) go) (issue_anew setting k (number_of setting q) words time rest)
    issuing_follows ann target q args at_place words time go rest standing found follows =
        let js = dependents t k in
        let seals_so = (λ (word : ℕ). seal_follows ann at_place words time word 6 go (rest word) standing (follows word)) in
        let issues_so = issue_follows q target args at_place words time (6 + 8) (act_steps d (act.Seal k) (straight go)) (λ word. seal k (of_reading word time words) (rest word)) found seals_so in
        let stays : (j : ℕ) (f : Frame) (acc : Account) → IsDropped at_place words time f acc → IsDropped at_place words time f (record acc { records = put j None acc.records }) = (λ j f acc h. (h.0, put_all (λ i o. i ≡ k → o ≡ None) j None acc.records (λ is. refl) (λ i apart is. ap acc.records is ∙ h.1) k refl)) in
        let drops_so = drops_follow (IsDropped at_place words time) stays js (act.Issue k ∷ act.Seal k ∷ []) (6 + 8 + 12) go (issue setting k (number_of setting q) words (λ word. seal k (of_reading word time words) (rest word))) issues_so in
        let own = drop_follows (IsLooked at_place words time) (IsDropped at_place words time) k (6 + 8 + 12 + 4 * length js) (acts_run d again (map act.Drop js ++ act.Issue k ∷ act.Seal k ∷ []) go)
        (drop_all js (issue setting k (number_of setting q) words (λ word. seal k (of_reading word time words) (rest word)))) (λ f acc h. (h, put_here k None acc.records)) drops_so in
        let e0 : 6 + 8 + 12 + 4 * length js + 4 ≡ 30 + 4 * length js = omega arith in
        subst (λ n. Going (IsLooked at_place words time) n (acts_run d again (issue_acts a k) go) (issue_anew setting k (number_of setting q) words time rest)) e0 own

    -- What a call's acts do is what the rules say of it, if what comes behind does what they say behind it.
    pub call_follows : (ann : Ann) (target : Option CoreTarget) (q : ℕ) (args : List CoreExpr) (go : Onward) (rest : Rest) → site_at t.sites k ≡ Some (site.Io ann) → statement_of d k ≡ Some (stmt.Io k target q args)
        → AllByRecursion (TouchMay (NotConst c)) (map may_write (reading_arrays (pointing t) target)) → Going (Beside P) 0 go rest
        → Going (Beside P) 0 (acts_run d again (call_acts a k) go) (call_log setting k target q args rest)
    call_follows ann target q args go rest standing found all follows at here related outer =
        let n = number_of setting q in
        let js = length (dependents t k) in
        let writes = act_steps d (act.Write k) (straight go) in
        let behind : Option Place → ℕ → Rest = λ at_place word after. rest (put_into at_place word after) in
        let write_so = (λ (at_place : Option Place) (may : MayPut c at_place) (word : ℕ). write_follows at_place word 0 go rest may follows) in
        let issues_so = (λ (at_place : Option Place) (may : MayPut c at_place) (words : List ℕ) (time : ℕ). issuing_follows ann target q args at_place words time writes (behind at_place) standing found (write_so at_place may)) in
        let keeps_so = (λ (at_place : Option Place) (may : MayPut c at_place) (words : List ℕ) (time word : ℕ) (followed : Option Followed).
        spares (IsKept at_place word) (0 + 6 + 6) (30 + 4 * js) (omega arith) (acts_run d again (act.Take k ∷ []) writes) (λ here. logged (keeps k word) followed here ∷ behind at_place word here)
        (take_follows at_place word (0 + 6) followed writes (behind at_place word) (write_so at_place may word) ann standing)) in
        let choose_so = (λ (at_place : Option Place) (may : MayPut c at_place) (words : List ℕ) (time : ℕ).
        choose_follows ann n at_place words time (30 + 4 * js) (issue_acts a k) (act.Take k ∷ []) writes (behind at_place) standing (issues_so at_place may words time) (keeps_so at_place may words time)) in
        let look_so = (λ (at_place : Option Place) (may : MayPut c at_place) (words : List ℕ). look_follows (IsValued at_place words) (IsLooked at_place words) (30 + 4 * js + 30) (act_run d again (act.Choose k (issue_acts a k) (act.Take k ∷ [])) writes)
        (call_inside setting k n at_place words rest) (λ time left f acc h. (h.0, h.1, h.2, refl)) (choose_so at_place may words)) in
        value_follows target q args (30 + 4 * js + 30 + 6) (acts_run d again (act.Look k ∷ act.Choose k (issue_acts a k) (act.Take k ∷ []) ∷ act.Write k ∷ []) go)
        (λ at_place words. look k (call_inside setting k n at_place words rest)) found all look_so at (spent (call_steps t k) here) (record {
          store = related.store;
          mode = related.mode;
          running = related.running;
          stands = related.stands;
          weights = (let few = related.weights in omega (arith, few));
          within = related.within;
          fits = related.fits;
        }) outer
