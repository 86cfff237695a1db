-- The acts of a block tell what the rules say of it, if its body's do: its look, its beginning, and its end.
use Rattle.std.proofs.lemmas.Bool.{ne_eqb}
use Rattle.std.proofs.Common.{◌≡◌, ◌∙◌, ℕ, ◌+◌, ◌≤◌, ◌==◌, false, cond, List, [], ◌∷◌, ◌++◌, refl, sym, ap, subst, arith}
use Rattle.std.specs.Prelude.{Option, Some, None}
use Rattle.task_ast.specs.declared.tree.Ann.{Ann}
use Rattle.task_ast.specs.declared.core_form.CoreTask.{CoreTask}
use Rattle.task_ast.specs.declared.core_form.Core.{Core}
use Rattle.task_ast.specs.declared.core_form.Site.{Site}
use Rattle.task_ast.specs.declared.core_form.Site.TheVariants as site
use Rattle.io_annot.specs.declared.choice.Mode.{Mode}
use Rattle.io_annot.specs.declared.choice.Mode.TheVariants as mode
use Rattle.block_scope.specs.Enter.{entered}
use Rattle.walk_run.specs.Store.{Store}
use Rattle.devices.specs.Journal.{seals}
use Rattle.task_attempts.specs.State.{Setting, Record, of_reading, of_block, of_copy, Here, Rest}
use Rattle.task_attempts.specs.Changes.{put, with_mode, with_record, spent}
use Rattle.task_attempts.specs.Costs.{block_steps}
use Rattle.task_attempts.specs.Along.{setting_of}
use Rattle.task_attempts.specs.Told.{logged, drop_one, seal}
use Rattle.task_attempts.specs.Calls.{annotation, site_at}
use Rattle.task_attempts.specs.Blocks.{stamp_in, block_sealed, block_end, block_inside, block_log}
use Rattle.task_attempts.specs.Boots.{task_of}
use Rattle.run_plan.specs.declared.act.Act.{Act}
use Rattle.run_plan.specs.declared.act.Act.TheVariants as act
use Rattle.run_plan.specs.Cells.{Frame, State, puts_flag, puts_stamp, after_write}
use Rattle.run_plan.specs.Small.{Doing, Done, does, writing, have, same, sets_frame}
use Rattle.run_plan.specs.Deeds.{stamp_held, sealed, seal_done, leaving}
use Rattle.run_plan.specs.Weights.{seal_weight}
use Rattle.run_plan.specs.PlanOf.{block_end_acts, block_acts}
use Rattle.run_plan.specs.Runs.{Small, At, Onward, Planned, with_state, doing, small, act_end, deed, act_steps, straight, by_way, act_run, acts_run}
use Rattle.run_plan.specs.RunRows.{run_leave, run_joined}
use Rattle.site_events.specs.Records.{View, view, holds, Says, IsRecord, kept_from}
use Rattle.site_events.specs.Standing.{sites_of}
use Rattle.site_events.specs.Follows.{Known, Outer, Beside, Stable, Inside, Goes}
use Rattle.site_events.proofs.Records.{put_here, put_other}
use Rattle.site_events.proofs.Places.{stamp_stands, seal_stands}
use Rattle.site_events.proofs.Telling.{silent_goes, shown_goes, end_goes}
use Rattle.site_events.proofs.Acts.{Pair, Go, sites_are, same_goes}
use Rattle.site_events.proofs.Calls.{look_follows, drop_follows}

-- what a block's flag and stamp give is what its record gives
stamp_is : (v : View) (start k : ℕ) (ann : Ann) (r : Option Record) → IsRecord v start k r (Some (site.Block ann)) → cond (holds v k) (Some (v.stamp k)) None ≡ stamp_in r
stamp_is v start k ann None h = ap (λ b. cond b (Some (v.stamp k)) None) h
stamp_is v start k ann (Some (of_reading value stamp args)) h = absurd h.1
stamp_is v start k ann (Some (of_copy class to from words)) h = absurd h.1
stamp_is v start k ann (Some (of_block stamp)) h = λ i. cond (h.0 i) (Some (h.1 i)) None

module _ (p : Planned) (Sees : Store → Small → Type 0) (fuel number : ℕ) (t : CoreTask) (there : task_of p.rules.core number ≡ Some t) (again : Onward) where
  abbrev c : Core
  c = p.rules.core

  abbrev d : Doing
  d = doing p number t

  abbrev setting : Setting
  setting = setting_of p.rules t

  abbrev Going : Known → (spare : ℕ) → Onward → Rest → Type 0
  Going K spare go rest = Go p Sees fuel number t there again K spare go rest

  abbrev Near : (spare : ℕ) → At → Here → Type 0
  Near spare at here = Pair p Sees fuel number t there again spare at here

  module _ (P : Outer) (k : ℕ) (ann : Ann) (standing : site_at t.sites k ≡ Some (site.Block ann)) where
    -- ---- its beginning

    abbrev IsLooked : (time : ℕ) → Known
    IsLooked time f acc = P f.mode f.outer f.begun acc.furthest × (f.time ≡ Some time)

    enter_follows : (most : ℕ) → k ≡ most + 1 → Stable P most → (time spare : ℕ) (go : Onward) (rest : (outside inside : Mode) → Rest) → ((outside inside : Mode) → Going (Beside (Inside P k outside inside time)) spare go (rest outside inside))
        → Going (IsLooked time) (spare + 40) (act_steps d (act.Enter k) (straight go))
        (λ before. (let inside = entered before.mode (annotation setting k) (stamp_in (before.standing.account.records k)) time in rest before.mode inside (with_mode inside before)))
    enter_follows most is stable time spare go rest follows at here related known =
        let begun : At = record at { weights = at.weights + 40 } in
        let m = here.mode in
        let r = here.standing.account.records k in
        let inside = entered m (annotation setting k) (stamp_in r) time in
        let inside' = entered m (annotation setting k) (stamp_held at.state k) time in
        let place : site_at (sites_of c at.state.task) k ≡ Some (site.Block ann) = ap (λ sites. site_at sites k) (sites_are p Sees fuel number t there again (spare + 40) at here related) ∙ standing in
        let held = stamp_is (view at.state) (kept_from (sites_of c at.state.task) k) k ann r (subst (λ o. IsRecord (view at.state) (kept_from (sites_of c at.state.task) k) k r o) place (related.stands.records k)) in
        let same_mode : inside' ≡ inside = ap (λ o. entered m (annotation setting k) o time) held in
        let f : Frame = record at.state.frame { mode = Some inside'; outer = put k (Some m) at.state.frame.outer; begun = put k (Some time) at.state.frame.begun } in
        let change : State → State = λ s. record s { frame = record at.state.frame { mode = Some inside'; outer = put k (Some m) at.state.frame.outer; begun = put k (Some time) at.state.frame.begun } } in
        let here' = with_mode inside here in
        let log = rest m inside here' in
        let other : (j : ℕ) → j ≤ most → (k == j) ≡ false = (λ j few. ne_eqb k j (λ same. omega (arith, is, few, same))) in
        let outer : P (Some m) f.outer f.begun here.standing.account.furthest = stable (Some m) at.state.frame.outer f.outer at.state.frame.begun f.begun here.standing.account.furthest
        (λ j few. sym (put_other k j (Some m) at.state.frame.outer (other j few))) (λ j few. sym (put_other k j (Some time) at.state.frame.begun (other j few)))
        (subst (λ o. P o at.state.frame.outer at.state.frame.begun here.standing.account.furthest) related.mode known.0) in
        let told = end_goes p Sees fuel (act.Enter k) change go begun at.state.store here.standing log related.stands
        (λ seen. follows m inside (with_state (change at.state) begun) here' (record {
          store = related.store;
          mode = ap Some same_mode;
          running = related.running;
          stands = related.stands;
          weights = (let few = related.weights in omega (arith, few));
          within = related.within;
          fits = related.fits;
        }) (ap Some same_mode, put_here k (Some m) at.state.frame.outer, put_here k (Some time) at.state.frame.begun, outer)) in
        let with_time = subst (λ (o : Option ℕ). Goes p Sees fuel at.state.store here.standing (deed c (act.Enter k) (have o (Entered at m)) (straight go) begun) log) (sym known.1) told in
        subst (λ (o : Option Mode). Goes p Sees fuel at.state.store here.standing (deed c (act.Enter k) (have o (λ m. have at.state.frame.time (Entered at m))) (straight go) begun) log) (sym related.mode) with_time
      where
        Entered : At → Mode → ℕ → Done
        Entered at m time = sets_frame (record at.state.frame {
          mode = Some (entered m (annotation setting k) (stamp_held at.state k) time);
          outer = put k (Some m) at.state.frame.outer;
          begun = put k (Some time) at.state.frame.begun;
        })

    -- ---- its end

    abbrev IsClosing : (time : ℕ) → Known
    IsClosing time f acc = P f.mode f.outer f.begun acc.furthest × (f.begun k ≡ Some time)

    abbrev IsClosed : (time : ℕ) → Known
    IsClosed time f acc = IsClosing time f acc × (acc.records k ≡ None)

    block_seal_follows : (time spare : ℕ) (go : Onward) (rest : Rest) → Going (Beside P) spare go rest → Going (IsClosed time) (spare + 8) (act_steps d (act.Seal k) (straight go)) (seal k (of_block time) rest)
    block_seal_follows time spare go rest follows at here related known =
        let begun : At = record at { weights = at.weights + 8 } in
        let s0 = at.state in
        let s1 = after_write c.arrays (puts_stamp k time) s0 in
        let s2 = after_write c.arrays (puts_flag k s0.epoch) s1 in
        let here' = with_record k (Some (of_block time)) here in
        let stands1 = stamp_stands c s0 here related.stands k time known.1 in
        let place : site_at (sites_of c s0.task) k ≡ Some (site.Block ann) = ap (λ sites. site_at sites k) (sites_are p Sees fuel number t there again (spare + 8) at here related) ∙ standing in
        let stands2 = seal_stands c s1 here stands1 k (of_block time) (λ sort to from kept is. absurd (cc is)) (subst (Says (view s1) (kept_from (sites_of c s0.task) k) k (of_block time)) (sym place) (put_here k time s0.cells.stamp)) in
        let later : Near spare (with_state s2 begun) here' = record {
          store = related.store;
          mode = related.mode;
          running = related.running;
          stands = stands2;
          weights = (let few = related.weights in omega (arith, few));
          within = related.within;
          fits = related.fits;
        } in
        let told = silent_goes p Sees fuel (act.Seal k) (puts_stamp k time) (small c (act.Seal k) (writing (puts_flag k s0.epoch) (seals k)) (act_end c (act.Seal k) same go)) begun here.standing _ stands1
        (shown_goes p Sees fuel (act.Seal k) (Some (puts_flag k s0.epoch)) (seals k) (act_end c (act.Seal k) same go) (with_state s1 begun) here.standing (logged (seals k) None here') (rest here')
        (record { event = refl; weights = (let few = related.weights in omega (arith, few)); committed = refl; stands = stands2; leads = tt })
        (same_goes p Sees fuel number t there again (Beside P) spare (act.Seal k) go rest follows (with_state s2 begun) here' later known.0.0)) in
        let log = seal k (of_block time) rest here in
        let with_time = subst (λ (o : Option ℕ). Goes p Sees fuel s0.store here.standing (deed c (act.Seal k) (have o (λ time. sealed k (puts_stamp k time ∷ puts_flag k s0.epoch ∷ []))) (straight go) begun) log) (sym known.0.1) told in
        subst (λ (o : Option Site). Goes p Sees fuel s0.store here.standing (deed c (act.Seal k) (seal_done o k s0) (straight go) (record at { weights = at.weights + seal_weight o })) log) (sym standing) with_time

    sealing_follows : (time : ℕ) (go : Onward) (rest : Rest) → Going (Beside P) 0 go rest → Going (IsClosing time) 12 (acts_run d again (block_end_acts k) go) (drop_one k (seal k (of_block time) rest))
    sealing_follows time go rest follows =
        drop_follows p Sees fuel number t there again P k (IsClosing time) (IsClosed time) k (0 + 8) (act_steps d (act.Seal k) (straight go)) (seal k (of_block time) rest) (λ f acc h. (h, put_here k None acc.records)) (block_seal_follows time 0 go rest follows)

    -- by the mode inside
    left_goes : (outside inside : Mode) (time : ℕ) (go : Onward) (rest : Rest) → Going (Beside P) 0 go rest → (a : Act) (at : At) (here : Here) → Near 12 at (with_mode inside here)
        → P (Some outside) at.state.frame.outer at.state.frame.begun here.standing.account.furthest → at.state.frame.begun k ≡ Some time
        → Goes p Sees fuel at.state.store here.standing (deed c a (does [] (λ after. record after { frame = record at.state.frame { mode = Some outside } }) (leaving inside)) (by_way (acts_run d again (block_end_acts k) go) go go go) at)
        (block_sealed k time inside (λ after. rest (with_mode outside after)) here)
    left_goes outside inside time go rest follows a at here related outer begun = by_mode inside (leaving inside) refl
      where
        change : State → State
        change after = record after { frame = record at.state.frame { mode = Some outside } }

        later : (spare : ℕ) → spare ≤ 12 → Near spare (with_state (change at.state) at) (with_mode outside here)
        later spare less = record {
          store = related.store;
          mode = refl;
          running = related.running;
          stands = related.stands;
          weights = (let few = related.weights in omega (arith, few, less));
          within = related.within;
          fits = related.fits;
        }

        seals_so : Goes p Sees fuel at.state.store here.standing (act_end c a change (acts_run d again (block_end_acts k) go) at) (drop_one k (seal k (of_block time) (λ after. rest (with_mode outside after))) here)
        seals_so = end_goes p Sees fuel a change (acts_run d again (block_end_acts k) go) at at.state.store here.standing _ related.stands
            (λ seen. sealing_follows time go rest follows (with_state (change at.state) at) (with_mode outside here) (later 12 (omega arith)) (outer, begun))

        by_mode : (m : Mode) (w : _) → leaving m ≡ w
            → Goes p Sees fuel at.state.store here.standing (deed c a (does [] change (leaving m)) (by_way (acts_run d again (block_end_acts k) go) go go go) at) (block_sealed k time m (λ after. rest (with_mode outside after)) here)
        by_mode mode.Keep w is = end_goes p Sees fuel a change go at at.state.store here.standing _ related.stands (λ seen. follows (with_state (change at.state) at) (with_mode outside here) (later 0 (omega arith)) outer)
        by_mode mode.Own w is = seals_so
        by_mode mode.Force w is = seals_so

    leave_follows : (outside inside : Mode) (time : ℕ) (go : Onward) (rest : Rest) → Going (Beside P) 0 go rest
        → Going (Beside (Inside P k outside inside time)) 0 (act_run d again (act.Leave k (block_end_acts k)) go) (block_end k time outside inside rest)
    leave_follows outside inside time go rest follows =
        subst (λ (f : Onward). Going (Beside (Inside P k outside inside time)) 0 f (block_end k time outside inside rest)) (sym (run_leave d again k (block_end_acts k) go))
        (λ at here related known.
        let a = act.Leave k (block_end_acts k) in
        let ways = by_way (acts_run d again (block_end_acts k) go) go go go in
        let begun : At = record at { weights = at.weights + 24 } in
        let log = block_end k time outside inside rest here in
        let told = left_goes outside inside time go rest follows a begun (spent block_steps here) (record {
          store = related.store;
          mode = known.0;
          running = related.running;
          stands = related.stands;
          weights = (let few = related.weights in omega (arith, few));
          within = related.within;
          fits = related.fits;
        }) known.3 known.2 in
        let with_outer = subst (λ (o : Option Mode). Goes p Sees fuel at.state.store here.standing (deed c a (have o (λ m. does [] (λ after. record after { frame = record at.state.frame { mode = Some m } }) (leaving inside))) ways begun) log) (sym known.1) told in
        subst (λ (o : Option Mode). Goes p Sees fuel at.state.store here.standing (deed c a (have o (λ inside. have (at.state.frame.outer k) (λ m. does [] (λ after. record after { frame = record at.state.frame { mode = Some m } }) (leaving inside)))) ways begun) log) (sym known.0) with_outer)

  -- ---- the whole block

  -- What a block's acts do is what the rules say of it, if its body's acts do what they say of the body, and what comes
  -- behind does what they say behind it; what is known behind the block may be more.
  pub block_follows : (P Q : Outer) (k : ℕ) (ann : Ann) → site_at t.sites k ≡ Some (site.Block ann) → (most : ℕ) → k ≡ most + 1 → Stable P most → (body : List Act) (inner : Rest → Rest)
      → ((outside inside : Mode) (time : ℕ) (go : Onward) (rest : Rest) → Going (Beside (Inside Q k outside inside time)) 0 go rest → Going (Beside (Inside P k outside inside time)) 0 (acts_run d again body go) (inner rest))
      → (go : Onward) (rest : Rest) → Going (Beside Q) 0 go rest → Going (Beside P) 0 (acts_run d again (block_acts k body) go) (block_log setting k inner rest)
  block_follows P Q k ann standing most is stable body inner body_so go rest follows at here related outer =
      let leave = act.Leave k (block_end_acts k) in
      let leaving_run = act_run d again leave go in
      let joined : acts_run d again (body ++ leave ∷ []) go ≡ acts_run d again body leaving_run = run_joined d again body (leave ∷ []) go in
      let enter_so = (λ (time : ℕ). enter_follows P k ann standing most is stable time 0 (acts_run d again body leaving_run) (λ outside inside. inner (block_end k time outside inside rest))
      (λ outside inside. body_so outside inside time leaving_run (block_end k time outside inside rest) (leave_follows Q k ann standing outside inside time go rest follows))) in
      let look_so = look_follows p Sees fuel number t there again P k (Beside P) (IsLooked P k ann standing) (0 + 40) (act_steps d (act.Enter k) (straight (acts_run d again body leaving_run))) (block_inside setting k inner rest) (λ time left f acc h. (h, refl)) enter_so in
      let told = look_so at (spent block_steps here) (record {
        store = related.store;
        mode = related.mode;
        running = related.running;
        stands = related.stands;
        weights = (let few = related.weights in omega (arith, few));
        within = related.within;
        fits = related.fits;
      }) outer in
      subst (λ (f : Onward). Goes p Sees fuel at.state.store here.standing (act_steps d (act.Look k) (straight (act_steps d (act.Enter k) (straight f))) at) (block_log setting k inner rest here)) (sym joined) told
