-- The acts of a copy tell what the rules say of it, each act by a lemma of its own.
use Rattle.std.proofs.Common.{◌≡◌, ◌∙◌, ℕ, ◌+◌, ◌*◌, ◌≤◌, true, cond, List, [], ◌∷◌, ◌++◌, length, map, slice_get, Result, Ok, Err, refl, sym, ap, subst, arith}
use Rattle.std.specs.Prelude.{Option, Some, None, max}
use Rattle.std.specs.List.{AllByRecursion}
use Rattle.ease_base.specs.Found.{with_found}
use Rattle.task_ast.specs.declared.core_form.CoreExpr.{CoreExpr}
use Rattle.task_ast.specs.declared.core_form.CoreEnd.{CoreEnd}
use Rattle.task_ast.specs.declared.core_form.CoreStmt.{CoreStmt}
use Rattle.task_ast.specs.declared.core_form.CoreStmt.TheVariants as stmt
use Rattle.task_ast.specs.declared.core_form.CoreTask.{CoreTask}
use Rattle.task_ast.specs.declared.core_form.Core.{Core}
use Rattle.task_ast.specs.declared.core_form.Site.{Site}
use Rattle.task_ast.specs.declared.core_form.Site.TheVariants as site
use Rattle.task_ast.specs.CoreSites.{room, greatest}
use Rattle.task_ast.specs.Pointing.{pointing, end_arrays}
use Rattle.region_split.specs.declared.class.DmaClass.{DmaClass}
use Rattle.region_split.specs.declared.class.DmaClass.TheVariants as class
use Rattle.region_split.specs.Regions.{may_write, region_of}
use Rattle.walk_run.specs.declared.trap.Trap.{Trap}
use Rattle.walk_run.specs.declared.place.Place.{Place}
use Rattle.walk_run.specs.Store.{Store, place, words_of}
use Rattle.walk_run.specs.Value.{value_of, end_place, with_room}
use Rattle.walk_run.specs.Walk.{move_words}
use Rattle.walk_run.specs.PlainWrites.{Write, after_writes}
use Rattle.walk_run.specs.PlainSteps.{expr_steps, end_steps, found_steps}
use Rattle.devices.specs.Journal as journal
use Rattle.devices.specs.Journal.{JournalEvent, keep, keeps, copies, seals}
use Rattle.task_attempts.specs.State.{Setting, Valued, Record, of_reading, of_block, of_copy, Here, Followed, Log, Rest}
use Rattle.task_attempts.specs.Changes.{with_record, with_store, with_region, spent, spent_by}
use Rattle.word_isa.specs.declared.parts.Scheme.{Scheme}
use Rattle.word_isa.specs.declared.parts.Scheme.TheVariants.{Undo, Bank}
use Rattle.task_attempts.specs.Costs.{first_words, copy_steps, moving_steps}
use Rattle.task_attempts.specs.Along.{setting_of}
use Rattle.task_attempts.specs.Told.{logged, unless_trap, seal}
use Rattle.task_attempts.specs.Values.{value, copy_end, tested}
use Rattle.task_attempts.specs.Calls.{site_at}
use Rattle.task_attempts.specs.Copies.{words_at, put_words, shown, class_at, copy_valued, moved, brought, single_sealed, copy_by_class, again, copy_again, copy_anew, copy_by_record, copy_log}
use Rattle.task_attempts.specs.Boots.{task_of}
use Rattle.run_plan.specs.declared.act.Act.{Act}
use Rattle.run_plan.specs.declared.act.Act.TheVariants as act
use Rattle.run_plan.specs.declared.act.Leg.TheVariants.{Across, ToKept, FromKept}
use Rattle.run_plan.specs.Cells.{CopyValued, Frame, State, puts_flag, puts_class, puts_to, puts_from, puts_length, puts_kept, after_write}
use Rattle.run_plan.specs.Small.{Doing, Done, does, ahead, first_way, second_way, silent, showing, writing, have, unless_fails, same, sets_frame, silently, shown_last, with_volatile, flag_holds}
use Rattle.run_plan.specs.Deeds.{copy_found, value_done, choose_done, seal_done, sealed, class_valued, by_class, words_shown}
use Rattle.run_plan.specs.Words.{home_writes, move_writes, put_writes, keep_writes, kept_at, kept_words, recorded_words}
use Rattle.run_plan.specs.Weights.{region_words, value_weight, choose_weight, seal_weight, length_valued}
use Rattle.run_plan.specs.Finding.{statement_of}
use Rattle.run_plan.specs.Safe.{all_written}
use Rattle.run_plan.specs.PlanOf.{around, save_acts, anew_acts, again_acts, copy_acts}
use Rattle.run_plan.specs.Runs.{Small, Smalls, At, Onward, Planned, with_state, doing, small, small_steps, act_end, deed, act_steps, straight, by_way, act_run, acts_run}
use Rattle.run_plan.specs.RunRows.{run_choose, run_by_class}
use Rattle.plan_restore.proofs.Puts.{NotConst}
use Rattle.plan_restore.proofs.Writing.{TouchMay, WriteMay, touched_may, as_found}
use Rattle.site_events.specs.Records.{view, holds, HasCopy, Says, IsRecord, kept_from}
use Rattle.site_events.specs.Standing.{FitsIn, LeavesRecord, sites_of, StandsAt}
use Rattle.site_events.specs.Follows.{PointsWithin, Known, Outer, Beside, Goes}
use Rattle.site_events.proofs.Records.{put_here, no_record}
use Rattle.site_events.proofs.Places.{class_stands, to_stands, from_stands, length_stands, kept_stands, seal_stands, region_stands, homes_unseen, all_view, all_frame, all_stand}
use Rattle.site_events.proofs.KeptWords.{from_read, written_kept}
use Rattle.site_events.proofs.CopyWords.{moves_may, puts_may, moves_give, puts_give, moved_pointers, put_pointers, same_pointers, longest_is, has_room, end_array, words_long, Moves}
use Rattle.site_events.proofs.Stores.{writes_leave}
use Rattle.site_events.proofs.Telling.{AllStand, silent_goes, last_goes, writes_go, shown_goes, end_goes, trap_goes}
use Rattle.site_events.proofs.Acts.{Pair, Go, writes_fit, no_spare, sites_are, same_goes, save_follows, lock_follows}

-- what saving a region may weigh
abbrev saved_weight : Scheme → (words : ℕ) → ℕ
saved_weight Undo words = 8 + 12 * words
saved_weight Bank words = 0

module _ (p : Planned) (Sees : Store → Small → Type 0) (fuel number : ℕ) (t : CoreTask) (there : task_of p.rules.core number ≡ Some t) (again_run : Onward) where
  abbrev c : Core
  c = p.rules.core

  abbrev d : Doing
  d = doing p number t

  abbrev setting : Setting
  setting = setting_of p.rules t

  abbrev Going : Known → (spare : ℕ) → Onward → Rest → Type 0
  Going K spare go rest = Go p Sees fuel number t there again_run K spare go rest

  abbrev Near : (spare : ℕ) → At → Here → Type 0
  Near spare at here = Pair p Sees fuel number t there again_run spare at here

  module _ (k most : ℕ) (standing : site_at t.sites k ≡ Some (site.Copy most)) where
    -- what a copy was valued at
    pub record IsFine (v : CopyValued) : Type 0 where
      pub class : v.class ≡ class_at setting v.to v.from
      pub writable : NotConst c v.to.array
      pub to_room : v.to.index + v.length ≤ room (slice_get c.arrays v.to.array)
      pub from_room : v.from.index + v.length ≤ room (slice_get c.arrays v.from.array)
      pub room : v.length ≤ most

    abbrev IsCopied : Outer → CopyValued → Known
    IsCopied P v f acc = P f.mode f.outer f.begun acc.furthest × (f.copy ≡ Some v)

    abbrev IsNew : Outer → CopyValued → Known
    IsNew P v f acc = P f.mode f.outer f.begun acc.furthest × (f.copy ≡ Some v) × (acc.records k ≡ None)

    abbrev IsOld : Outer → Record → Known
    IsOld P r f acc = P f.mode f.outer f.begun acc.furthest × (acc.records k ≡ Some r)

    -- what stands at the site, as the running task has it
    place_is : (spare : ℕ) (at : At) (here : Here) → Near spare at here → site_at (sites_of c at.state.task) k ≡ Some (site.Copy most)
    place_is spare at here related = ap (λ sites. site_at sites k) (sites_are p Sees fuel number t there again_run spare at here related) ∙ standing

    -- ---- its ends and its length are valued

    module _ (P : Outer) (spare : ℕ) (go : Onward) (rest : Place → Place → ℕ → Rest) (to from : CoreEnd) (words : CoreExpr) (writable : AllByRecursion (TouchMay (NotConst c)) (map may_write (end_arrays (pointing t) to)))
        (most_is : most ≡ greatest c.arrays (pointing t) to from) (follows : (v : CopyValued) → IsFine v → Going (IsCopied P v) spare go (rest v.to v.from v.length)) where
      abbrev Ends : At → Result CopyValued Trap → At → Smalls
      Ends at r begun = deed c (act.Value k) (unless_fails r (λ v. sets_frame (record at.state.frame { copy = Some v }))) (straight go) begun

      abbrev made : Place → Place → ℕ → CopyValued
      made a b n = record { to = a; from = b; length = n; class = class_at setting a b }

      ends_so : (v : CopyValued) → IsFine v → (at : At) (here : Here) → Near spare at here → P at.state.frame.mode at.state.frame.outer at.state.frame.begun here.standing.account.furthest
          → Goes p Sees fuel at.state.store here.standing (Ends at (Ok v) at) (rest v.to v.from v.length here)
      ends_so v fine at here related outer =
          let f = record at.state.frame { copy = Some v } in
          end_goes p Sees fuel (act.Value k) (λ s. record s { frame = f }) go at at.state.store here.standing (rest v.to v.from v.length here) related.stands
          (λ seen. follows v fine (with_state (record at.state { frame = f }) at) here (record {
            store = related.store;
            mode = related.mode;
            running = related.running;
            stands = related.stands;
            weights = related.weights;
            within = related.within;
            fits = related.fits;
          }) (outer, refl))

      fails_so : (why : Trap) (at : At) (here : Here) → Near spare at here → Goes p Sees fuel at.state.store here.standing (Ends at (Err why) at) (unless_trap {A = Place} (Err why) (λ found. rest found found 0) here)
      fails_so why at here related = trap_goes p Sees fuel at.state.store (act.Value k) why at here related.stands (no_spare spare _ _ related.weights)

      -- the source's range is tested
      from_goes : (a b : Place) (n : ℕ) (r : Result Place Trap) → ((x : Place) → r ≡ Ok x → IsFine (made a b n)) → (at : At) (here : Here) → Near spare at here → P at.state.frame.mode at.state.frame.outer at.state.frame.begun here.standing.account.furthest
          → Goes p Sees fuel at.state.store here.standing (Ends at (with_found r (λ _. as_found (made a b n))) at) (unless_trap r (λ found. rest a b n) here)
      from_goes a b n (Err why) fine at here related outer = fails_so why at here related
      from_goes a b n (Ok x) fine at here related outer = ends_so (made a b n) (fine x refl) at here related outer

      -- the destination's, before it
      to_goes : (a b : Place) (n : ℕ) (r : Result Place Trap) (at : At) (here : Here) → ((x y : Place) → r ≡ Ok x → with_room at.state.store b n ≡ Ok y → IsFine (made a b n)) → Near spare at here
          → P at.state.frame.mode at.state.frame.outer at.state.frame.begun here.standing.account.furthest
          → Goes p Sees fuel at.state.store here.standing (Ends at (with_found r (λ _. with_found (with_room at.state.store b n) (λ _. as_found (made a b n)))) at) (unless_trap r (λ found. tested b n (rest a b n)) here)
      to_goes a b n (Err why) at here fine related outer = fails_so why at here related
      to_goes a b n (Ok x) at here fine related outer =
          subst (λ store. Goes p Sees fuel at.state.store here.standing (Ends at (with_found (with_room at.state.store b n) (λ _. as_found (made a b n))) at) (unless_trap (with_room store b n) (λ found. rest a b n) here)) related.store
          (from_goes a b n (with_room at.state.store b n) (λ y is. fine x y refl is) at here related outer)

      -- the length is valued
      length_goes : (a b : Place) (r : Result ℕ Trap) (at : At) (here : Here) → ((n : ℕ) (x y : Place) → with_room at.state.store a n ≡ Ok x → with_room at.state.store b n ≡ Ok y → IsFine (made a b n)) → Near spare at here
          → P at.state.frame.mode at.state.frame.outer at.state.frame.begun here.standing.account.furthest
          → Goes p Sees fuel at.state.store here.standing
          (Ends at (with_found r (λ n. with_found (with_room at.state.store a n) (λ _. with_found (with_room at.state.store b n) (λ _. as_found (made a b n))))) at)
          (unless_trap r (λ n. tested a n (tested b n (rest a b n))) here)
      length_goes a b (Err why) at here fine related outer = fails_so why at here related
      length_goes a b (Ok n) at here fine related outer =
          subst (λ store. Goes p Sees fuel at.state.store here.standing (Ends at (with_found (with_room at.state.store a n) (λ _. with_found (with_room at.state.store b n) (λ _. as_found (made a b n)))) at)
          (unless_trap (with_room store a n) (λ found. tested b n (rest a b n)) here)) related.store
          (to_goes a b n (with_room at.state.store a n) at here (λ x y one two. fine n x y one two) related outer)

      -- what was valued may be copied
      all_fine : (at : At) (here : Here) (s : ℕ) → Near s at here → (a b : Place) → end_place to at.state.store ≡ Ok a → end_place from at.state.store ≡ Ok b
          → (n : ℕ) (x y : Place) → with_room at.state.store a n ≡ Ok x → with_room at.state.store b n ≡ Ok y → IsFine (made a b n)
      all_fine at here s related a b one two n x y first second =
          let within = subst (PointsWithin (pointing t)) (sym related.store) related.within in
          let fits = subst (FitsIn c) (sym related.store) related.fits in
          let there_a = end_array (pointing t) to at.state.store a within one in
          let there_b = end_array (pointing t) from at.state.store b within two in
          let room_a = has_room at.state.store a x n first in
          let room_b = has_room at.state.store b y n second in
          let long_a = fits a.array in
          let long_b = fits b.array in
          let most_a = longest_is c.arrays (end_arrays (pointing t) to) a.array there_a in
          let most_b = longest_is c.arrays (end_arrays (pointing t) from) b.array there_b in
          record {
            class = refl;
            writable = touched_may (NotConst c) (end_arrays (pointing t) to) writable a.array there_a;
            to_room = omega (arith, room_a, long_a);
            from_room = omega (arith, room_b, long_b);
            room = omega (arith, room_a, long_a, most_a, room_b, long_b, most_b, most_is);
          }

      begun_at : (at : At) (here : Here) → Near (spare + 42) at here → (w x : ℕ) (later : Here) → later.store ≡ here.store → later.mode ≡ here.mode → later.standing ≡ here.standing → here.steps p.plan.scheme + x ≤ later.steps p.plan.scheme → w ≤ 42 + x
          → Near spare (record at { weights = at.weights + w }) later
      begun_at at here related w x later store mode same steps few = record {
        store = related.store ∙ sym store;
        mode = related.mode ∙ ap Some (sym mode);
        running = ap (λ st. st.next) same ∙ related.running;
        stands = subst (StandsAt c (view at.state)) (sym same) related.stands;
        weights = (let low = related.weights in omega (arith, low, steps, few));
        within = subst (PointsWithin (pointing t)) (sym store) related.within;
        fits = subst (FitsIn c) (sym store) related.fits;
      }

      -- the source
      source_goes : (a : Place) (at : At) (here : Here) → Near (spare + 42) at here → P at.state.frame.mode at.state.frame.outer at.state.frame.begun here.standing.account.furthest → end_place to at.state.store ≡ Ok a
          → (r : Result Place Trap) → end_place from at.state.store ≡ r
          → Goes p Sees fuel at.state.store here.standing
          (Ends at (with_found r (λ b. with_found (value_of words at.state.store) (λ n. with_found (with_room at.state.store a n) (λ _. with_found (with_room at.state.store b n) (λ _. as_found (made a b n))))))
          (record at { weights = at.weights + (42 + (end_steps to + (end_steps from + found_steps r (λ b. expr_steps words)))) }))
          (unless_trap r (λ b. value words (λ n. tested a n (tested b n (rest a b n)))) (spent (end_steps from) (spent (end_steps to) here)))
      source_goes a at here related outer one (Err why) two =
          fails_so why (record at { weights = at.weights + (42 + (end_steps to + (end_steps from + 0))) }) (spent (end_steps from) (spent (end_steps to) here))
          (begun_at at here related (42 + (end_steps to + (end_steps from + 0))) (end_steps to + end_steps from) (spent (end_steps from) (spent (end_steps to) here)) refl refl refl (omega arith) (omega arith))
      source_goes a at here related outer one (Ok b) two =
          let w = 42 + (end_steps to + (end_steps from + expr_steps words)) in
          let later = spent (expr_steps words) (spent (end_steps from) (spent (end_steps to) here)) in
          let begun : At = record at { weights = at.weights + w } in
          subst (λ store. Goes p Sees fuel at.state.store here.standing
          (Ends at (with_found (value_of words at.state.store) (λ n. with_found (with_room at.state.store a n) (λ _. with_found (with_room at.state.store b n) (λ _. as_found (made a b n))))) begun)
          (unless_trap (value_of words store) (λ n. tested a n (tested b n (rest a b n))) later)) related.store
          (length_goes a b (value_of words at.state.store) begun later (all_fine at here (spare + 42) related a b one two)
          (begun_at at here related w (end_steps to + end_steps from + expr_steps words) later refl refl refl (omega arith) (omega arith)) outer)

      -- the destination
      destination_goes : (at : At) (here : Here) → Near (spare + 42) at here → P at.state.frame.mode at.state.frame.outer at.state.frame.begun here.standing.account.furthest → (r : Result Place Trap) → end_place to at.state.store ≡ r
          → Goes p Sees fuel at.state.store here.standing
          (Ends at (with_found r (λ a. with_found (end_place from at.state.store) (λ b. with_found (value_of words at.state.store) (λ n. with_found (with_room at.state.store a n) (λ _. with_found (with_room at.state.store b n) (λ _. as_found (made a b n)))))))
          (record at { weights = at.weights + (42 + (end_steps to + found_steps r (λ a. end_steps from + found_steps (end_place from at.state.store) (λ b. expr_steps words)))) }))
          (unless_trap r (λ a. copy_end from (λ b. value words (λ n. tested a n (tested b n (rest a b n))))) (spent (end_steps to) here))
      destination_goes at here related outer (Err why) one =
          fails_so why (record at { weights = at.weights + (42 + (end_steps to + 0)) }) (spent (end_steps to) here) (begun_at at here related (42 + (end_steps to + 0)) (end_steps to) (spent (end_steps to) here) refl refl refl (omega arith) (omega arith))
      destination_goes at here related outer (Ok a) one =
          subst (λ store. Goes p Sees fuel at.state.store here.standing
          (Ends at (with_found (end_place from at.state.store) (λ b. with_found (value_of words at.state.store) (λ n. with_found (with_room at.state.store a n) (λ _. with_found (with_room at.state.store b n) (λ _. as_found (made a b n))))))
          (record at { weights = at.weights + (42 + (end_steps to + (end_steps from + found_steps (end_place from at.state.store) (λ b. expr_steps words)))) }))
          (unless_trap (end_place from store) (λ b. value words (λ n. tested a n (tested b n (rest a b n)))) (spent (end_steps from) (spent (end_steps to) here)))) related.store
          (source_goes a at here related outer one (end_place from at.state.store) refl)

      pub copy_valued_follows : statement_of d k ≡ Some (stmt.Copy k to from words)
          → Going (Beside P) (spare + 42) (act_steps d (act.Value k) (straight go)) (copy_end to (λ a. copy_end from (λ b. value words (λ n. tested a n (tested b n (rest a b n))))))
      copy_valued_follows found at here related outer =
          let log = copy_end to (λ a. copy_end from (λ b. value words (λ n. tested a n (tested b n (rest a b n))))) here in
          let told = subst (λ store. Goes p Sees fuel at.state.store here.standing
          (Ends at (copy_found setting to from words at.state.store)
          (record at { weights = at.weights + value_weight (Some (stmt.Copy k to from words)) at.state.store }))
          (unless_trap (end_place to store) (λ a. copy_end from (λ b. value words (λ n. tested a n (tested b n (rest a b n))))) (spent (end_steps to) here))) related.store
          (destination_goes at here related outer (end_place to at.state.store) refl) in
          subst (λ (o : Option CoreStmt). Goes p Sees fuel at.state.store here.standing (deed c (act.Value k) (value_done setting o at.state) (straight go) (record at { weights = at.weights + value_weight o at.state.store })) log) (sym found) told

    -- ---- moves of words

    -- homes are written, the last with the event; what is volatile belongs to the act's end
    words_go : (P Q : Outer) (gain : ℕ) (F : Here → Here) → Moves c P Q gain F → (L : Known) (spare : ℕ) (a : Act) (go : Onward) (rest : Rest) → Going L spare go rest → (writes : List Write) → AllByRecursion (WriteMay (NotConst c)) writes
        → (from to : journal.Place) (n : ℕ) (followed : Option Followed) (after after' : Store) → (at : At) (here : Here) → Near spare at (F here) → StandsAt c (view at.state) here.standing
        → after_writes writes at.state.store ≡ after → after ≡ after' → after.pointers ≡ at.state.store.pointers
        → L at.state.frame (F here).standing.account
        → Goes p Sees fuel at.state.store here.standing (deed c a (words_shown c writes (copies k from to n) after) (straight go) at)
        (logged (copies k from to n) followed (with_store after' (F here)) ∷ rest (with_store after' (F here)))
    words_go P Q gain F moves L spare a go rest follows writes may from to n followed after after' at here related stands gives same pointers known =
        let homes = home_writes c writes in
        let unseen = homes_unseen c writes in
        let s = all_written c homes at.state in
        let frame = all_frame c homes unseen at.state in
        let here' = with_store after' (F here) in
        let stands' = subst (λ v. StandsAt c v (F here).standing) (sym (all_view c homes unseen at.state)) related.stands in
        last_goes p Sees fuel a homes k from to n (act_end c a (with_volatile c after) go) at here.standing (logged (copies k from to n) followed here') (rest here')
        (all_stand p Sees fuel here.standing homes unseen at.state stands) refl (no_spare spare _ _ related.weights) (sym (moves.committed here)) stands'
        (end_goes p Sees fuel a (with_volatile c after) go (with_state s at) s.store here'.standing (rest here') stands'
        (λ seen. follows (with_state (with_volatile c after s) at) here' (record {
          store = ap (λ st. (with_volatile c st s).store) (sym gives) ∙ writes_leave c writes may at.state ∙ gives ∙ same;
          mode = ap (λ f. f.mode) frame ∙ related.mode;
          running = related.running;
          stands = stands';
          weights = related.weights;
          within = same_pointers (pointing t) at.state.store after' (ap (λ (st : Store). st.pointers) (sym same) ∙ pointers) (subst (PointsWithin (pointing t)) (sym related.store) related.within);
          fits = subst (FitsIn c) (gives ∙ same) (writes_fit c writes at.state.store (subst (FitsIn c) (sym related.store) related.fits));
        }) (subst (λ f. L f (F here).standing.account) (sym frame) known)))

    -- a place behind a move without an event
    moved_near : (P Q : Outer) (gain : ℕ) (F : Here → Here) → Moves c P Q gain F → (spare w more : ℕ) (at : At) (here : Here) → Near spare at here → w + more ≤ spare + gain → Near more (record at { weights = at.weights + w }) (F here)
    moved_near P Q gain F moves spare w more at here related few = record {
      store = related.store ∙ sym (moves.store here);
      mode = related.mode ∙ ap Some (sym (moves.mode here));
      running = moves.next here ∙ related.running;
      stands = moves.stands (view at.state) here related.stands;
      weights = (let low = related.weights in let steps = moves.steps here p.plan.scheme in omega (arith, low, steps, few));
      within = subst (PointsWithin (pointing t)) (sym (moves.store here)) related.within;
      fits = subst (FitsIn c) (sym (moves.store here)) related.fits;
    }

    -- words go across
    across_follows : (P Q : Outer) (gain : ℕ) (F : Here → Here) → Moves c P Q gain F → (v : CopyValued) → IsFine v → (L : Known) → ((f : Frame) (here : Here) → IsNew P v f here.standing.account → L f (F here).standing.account)
        → (spare more : ℕ) → 6 + 2 * v.length + more ≤ spare + gain → (go : Onward) (rest : Rest) → Going L more go rest
        → Going (IsNew P v) spare (act_steps d (act.Transfer k Across) (straight go)) (λ here. moved k v.to v.from v.length rest (F here))
    across_follows P Q gain F moves v fine L step spare more few go rest follows at here related known =
        let w = 6 + 2 * v.length in
        let begun : At = record at { weights = at.weights + w } in
        let store = at.state.store in
        let near = moved_near P Q gain F moves spare w more at here related few in
        let log = moved k v.to v.from v.length rest (F here) in
        let same_store : store ≡ (F here).store = near.store in
        let told = words_go P Q gain F moves L more (act.Transfer k Across) go rest follows (move_writes v.length v.to v.from store) (moves_may (NotConst c) v.length v.to v.from store fine.writable)
        (shown v.from) (shown v.to) v.length None (move_words v.length v.to v.from store) (move_words v.length v.to v.from (F here).store) begun here near related.stands
        (moves_give v.length v.to v.from store) (ap (move_words v.length v.to v.from) same_store) (moved_pointers v.length v.to v.from store) (step at.state.frame here known) in
        subst (λ (o : Option CopyValued). Goes p Sees fuel store here.standing (deed c (act.Transfer k Across) (have o (Across_done store)) (straight go) (record at { weights = at.weights + (6 + 2 * length_valued o) })) log) (sym known.1) told
      where
        Across_done : Store → CopyValued → Done
        Across_done store v = words_shown c (move_writes v.length v.to v.from store) (copies k (shown v.from) (shown v.to) v.length) (move_words v.length v.to v.from store)

    -- ---- kept words and their record

    -- kept words are written, where the rules have no record
    kept_stand : (spare : ℕ) (st : Here) (at_most : ℕ) (start : ℕ) (words : List ℕ) (s : State) → site_at (sites_of c s.task) k ≡ Some (site.Copy most) → kept_from (sites_of c s.task) k ≤ start → start + length words ≤ kept_from (sites_of c s.task) k + most
        → st.standing.account.records k ≡ None → StandsAt c (view s) st.standing → AllStand p Sees fuel st.standing (keep_writes start words) s × StandsAt c (view (all_written c (keep_writes start words) s)) st.standing
    kept_stand spare st at_most start [] s place low high none h = (tt, h)
    kept_stand spare st at_most start (w ∷ words) s place low high none h =
        let here = kept_stands c s st h k most start w place (low, (omega (arith, high))) none in
        let rest = kept_stand spare st at_most (start + 1) words (after_write c.arrays (puts_kept start w) s) place (omega (arith, low)) (omega (arith, high)) none here in
        ((here, rest.0), rest.1)

    kept_same : (start : ℕ) (words : List ℕ) (s : State) → ((all_written c (keep_writes start words) s).store ≡ s.store) × ((all_written c (keep_writes start words) s).frame ≡ s.frame)
        × ((all_written c (keep_writes start words) s).task ≡ s.task) × ((all_written c (keep_writes start words) s).epoch ≡ s.epoch)
    kept_same start [] s = (refl, refl, refl, refl)
    kept_same start (w ∷ words) s = kept_same (start + 1) words (after_write c.arrays (puts_kept start w) s)

    -- the seal of a copy, where its words are kept
    copy_seal_follows : (P : Outer) (v : CopyValued) → IsFine v → LeavesRecord v.class → (words : List ℕ) → length words ≡ v.length → (spare : ℕ) (go : Onward) (rest : Rest)
        → Going (IsOld P (of_copy v.class v.to v.from words)) spare go rest → (at : At) (here : Here) → Near (spare + 12) at here → IsNew P v at.state.frame here.standing.account
        → kept_words at.state.cells.kept (kept_from t.sites k) (length words) ≡ words
        → Goes p Sees fuel at.state.store here.standing (act_steps d (act.Seal k) (straight go) at) (seal k (of_copy v.class v.to v.from words) rest here)
    copy_seal_follows P v fine leaves words long spare go rest follows at here related known kept =
        let a = act.Seal k in
        let begun : At = record at { weights = at.weights + 12 } in
        let r = of_copy v.class v.to v.from words in
        let s0 = at.state in
        let s1 = after_write c.arrays (puts_class k v.class) s0 in
        let s2 = after_write c.arrays (puts_to k v.to) s1 in
        let s3 = after_write c.arrays (puts_from k v.from) s2 in
        let s4 = after_write c.arrays (puts_length k v.length) s3 in
        let s5 = after_write c.arrays (puts_flag k s0.epoch) s4 in
        let here' = with_record k (Some r) here in
        let stands1 = class_stands c s0 here related.stands k v.class known.2 in
        let stands2 = to_stands c s1 here stands1 k v.to known.2 in
        let stands3 = from_stands c s2 here stands2 k v.from known.2 in
        let stands4 = length_stands c s3 here stands3 k v.length known.2 in
        let there_sites = sites_are p Sees fuel number t there again_run (spare + 12) at here related in
        let place = place_is (spare + 12) at here related in
        let says : HasCopy (view s4) (kept_from (sites_of c s0.task) k) most k v.class v.to v.from words = record {
          class = put_here k (Some v.class) s0.cells.class;
          to = put_here k (Some v.to) s0.cells.to;
          from = put_here k (Some v.from) s0.cells.from;
          count = put_here k v.length s0.cells.length ∙ sym long;
          kept = subst (λ sites. kept_words s0.cells.kept (kept_from sites k) (length words) ≡ words) (sym there_sites) kept;
          room = (let few = fine.room in omega (arith, few, long));
        } in
        let stands5 = seal_stands c s4 here stands4 k r (λ sort onto out_of kept_ones is. recorded v leaves words fine sort onto out_of kept_ones is) (subst (Says (view s4) (kept_from (sites_of c s0.task) k) k r) (sym place) says) in
        let later : Near spare (with_state s5 begun) here' = record {
          store = related.store;
          mode = related.mode;
          running = related.running;
          stands = stands5;
          weights = (let few = related.weights in omega (arith, few));
          within = related.within;
          fits = related.fits;
        } in
        let end = act_end c a same go in
        let flag = small c a (writing (puts_flag k s0.epoch) (seals k)) end in
        let four = small c a (silent (puts_length k v.length)) flag in
        let three = small c a (silent (puts_from k v.from)) four in
        let two = small c a (silent (puts_to k v.to)) three in
        let told = silent_goes p Sees fuel a (puts_class k v.class) two begun here.standing _ stands1 (silent_goes p Sees fuel a (puts_to k v.to) three (with_state s1 begun) here.standing _ stands2
        (silent_goes p Sees fuel a (puts_from k v.from) four (with_state s2 begun) here.standing _ stands3 (silent_goes p Sees fuel a (puts_length k v.length) flag (with_state s3 begun) here.standing _ stands4
        (shown_goes p Sees fuel a (Some (puts_flag k s0.epoch)) (seals k) end (with_state s4 begun) here.standing (logged (seals k) None here') (rest here')
        (record { event = refl; weights = (let few = related.weights in omega (arith, few)); committed = refl; stands = stands5; leads = tt })
        (same_goes p Sees fuel number t there again_run (IsOld P r) spare a go rest follows (with_state s5 begun) here' later (known.0, put_here k (Some r) here.standing.account.records)))))) in
        let log = seal k r rest here in
        let with_copy = subst (λ (o : Option CopyValued). Goes p Sees fuel s0.store here.standing (deed c a (have o (Sealed s0)) (straight go) begun) log) (sym known.1) told in
        subst (λ (o : Option Site). Goes p Sees fuel s0.store here.standing (deed c a (seal_done o k s0) (straight go) (record at { weights = at.weights + seal_weight o })) log) (sym standing) with_copy
      where
        Sealed : State → CopyValued → Done
        Sealed s v = sealed k (puts_class k v.class ∷ puts_to k v.to ∷ puts_from k v.from ∷ puts_length k v.length ∷ puts_flag k s.epoch ∷ [])

        recorded : (v : CopyValued) → LeavesRecord v.class → (words : List ℕ) → IsFine v → (sort : DmaClass) (onto out_of : Place) (kept_ones : List ℕ) → Some (of_copy v.class v.to v.from words) ≡ Some (of_copy sort onto out_of kept_ones) → LeavesRecord sort × NotConst c onto.array
        recorded v leaves words fine sort onto out_of kept_ones is =
            (subst LeavesRecord (ap (class_in v.class) is) leaves, subst (λ (q : Place). NotConst c q.array) (ap (to_in v.to) is) fine.writable)
          where
            class_in : DmaClass → Option Record → DmaClass
            class_in default (Some (of_copy sort onto out_of kept_ones)) = sort
            class_in default o = default

            to_in : Place → Option Record → Place
            to_in default (Some (of_copy sort onto out_of kept_ones)) = onto
            to_in default o = default

    -- the kept words are those at a place, and their record is sealed
    module _ (P : Outer) (v : CopyValued) (fine : IsFine v) (leaves : LeavesRecord v.class) (spare : ℕ) (go : Onward) (rest : List ℕ → Rest) (follows : (words : List ℕ) → length words ≡ v.length → Going (IsOld P (of_copy v.class v.to v.from words)) spare go (rest words)) where
      sealed_behind : (words : List ℕ) → length words ≡ v.length → (s : State) (at : At) (here : Here) → Near (spare + 12) at here → IsNew P v at.state.frame here.standing.account → s ≡ all_written c (keep_writes (kept_at d k) words) at.state
          → (begun : At) → begun.state ≡ s → begun.weights ≡ at.weights → StandsAt c (view s) here.standing
          → Goes p Sees fuel begun.state.store here.standing (act_steps d (act.Seal k) (straight go) begun) (seal k (of_copy v.class v.to v.from words) (rest words) here)
      sealed_behind words long s at here related known is begun state weights stands =
          let e = state ∙ is in
          let kept = kept_same (kept_at d k) words at.state in
          copy_seal_follows P v fine leaves words long spare go (rest words) (follows words long) begun here (record {
            store = ap (λ (x : State). x.store) e ∙ kept.0 ∙ related.store;
            mode = ap (λ (x : State). x.frame.mode) e ∙ ap (λ f. f.mode) kept.1 ∙ related.mode;
            running = related.running;
            stands = subst (λ (x : State). StandsAt c (view x) here.standing) (sym state) stands;
            weights = (let few = related.weights in omega (arith, few, weights));
            within = related.within;
            fits = related.fits;
          }) (subst (λ (f : Frame). IsNew P v f here.standing.account) (sym (ap (λ (x : State). x.frame) e ∙ kept.1)) known)
          (ap (λ (x : State). kept_words x.cells.kept (kept_at d k) (length words)) e ∙ ap (λ (f : ℕ → ℕ). kept_words f (kept_at d k) (length words)) (written_kept c (kept_at d k) words at.state) ∙ from_read at.state.cells.kept (kept_at d k) words)

      -- kept words lie within those of the site
      all_within : (words : List ℕ) → length words ≡ v.length → (s : ℕ) (at : At) (here : Here) → Near s at here → (kept_from (sites_of c at.state.task) k ≤ kept_at d k) × (kept_at d k + length words ≤ kept_from (sites_of c at.state.task) k + most)
      all_within words long s at here related =
          let same : kept_from (sites_of c at.state.task) k ≡ kept_at d k = ap (λ sites. kept_from sites k) (sites_are p Sees fuel number t there again_run s at here related) in
          let few = fine.room in
          ((omega (arith, same)), (omega (arith, same, few, long)))

      -- the words at the destination are kept
      keep_follows : Going (IsNew P v) (spare + 12 + (8 + 12 * v.length)) (act_steps d (act.KeepWords k) (straight (act_steps d (act.Seal k) (straight go))))
          (λ here. (let words = words_at here.store v.to v.length in seal k (of_copy v.class v.to v.from words) (rest words) here))
      keep_follows at here related known =
          let words = words_at at.state.store v.to v.length in
          let long = words_long at.state.store v.to v.length (let few = fine.to_room in let fits = related.fits v.to.array in let same = ap (λ (st : Store). length (words_of st v.to.array)) related.store in omega (arith, few, fits, same)) in
          let writes = keep_writes (kept_at d k) words in
          let begun : At = record at { weights = at.weights + (8 + 12 * v.length) } in
          let s = all_written c writes at.state in
          let range = all_within words long (spare + 12 + (8 + 12 * v.length)) at here related in
          let stand = kept_stand 0 here 0 (kept_at d k) words at.state (place_is (spare + 12 + (8 + 12 * v.length)) at here related) range.0 range.1 known.2 related.stands in
          let near : Near (spare + 12) begun here = record {
            store = related.store;
            mode = related.mode;
            running = related.running;
            stands = related.stands;
            weights = (let few = related.weights in omega (arith, few));
            within = related.within;
            fits = related.fits;
          } in
          let log = seal k (of_copy v.class v.to v.from words) (rest words) here in
          let told = writes_go p Sees fuel (act.KeepWords k) writes (act_end c (act.KeepWords k) same (act_steps d (act.Seal k) (straight go))) begun here.standing log stand.0
          (end_goes p Sees fuel (act.KeepWords k) same (act_steps d (act.Seal k) (straight go)) (with_state s begun) s.store here.standing log stand.1
          (λ seen. sealed_behind words long s begun here near known refl (with_state s begun) refl refl stand.1)) in
          let with_copy = subst (λ (o : Option CopyValued). Goes p Sees fuel at.state.store here.standing (deed c (act.KeepWords k) (have o (λ v. silently (keep_writes (kept_at d k) (words_at at.state.store v.to v.length)))) (straight (act_steps d (act.Seal k) (straight go))) (record at { weights = at.weights + (8 + 12 * length_valued o) })) log) (sym known.1) told in
          subst (λ (st : Store). Goes p Sees fuel at.state.store here.standing (act_steps d (act.KeepWords k) (straight (act_steps d (act.Seal k) (straight go))) at)
          (let words = words_at st v.to v.length in seal k (of_copy v.class v.to v.from words) (rest words) here)) related.store with_copy

    -- ---- a copy by its kept words

    -- the cells of a record that the rules have
    record_is : (sort : DmaClass) (onto out_of : Place) (words : List ℕ) (s : ℕ) (at : At) (here : Here) → Near s at here → here.standing.account.records k ≡ Some (of_copy sort onto out_of words)
        → (holds (view at.state) k ≡ true) × HasCopy (view at.state) (kept_at d k) most k sort onto out_of words
    record_is sort onto out_of words s at here related is =
        subst (λ sites. IsRecord (view at.state) (kept_from sites k) k (Some (of_copy sort onto out_of words)) (Some (site.Copy most))) (sites_are p Sees fuel number t there again_run s at here related)
        (subst (λ o. IsRecord (view at.state) (kept_from (sites_of c at.state.task) k) k (Some (of_copy sort onto out_of words)) o) (place_is s at here related)
        (subst (λ r. IsRecord (view at.state) (kept_from (sites_of c at.state.task) k) k r (site_at (sites_of c at.state.task) k)) is (related.stands.records k)))

    words_are : (sort : DmaClass) (onto out_of : Place) (words : List ℕ) (s : State) → HasCopy (view s) (kept_at d k) most k sort onto out_of words → recorded_words d k s ≡ words
    words_are sort onto out_of words s h = ap (kept_words s.cells.kept (kept_at d k)) h.count ∙ h.kept

    from_kept_follows : (P Q : Outer) (gain : ℕ) (F : Here → Here) → Moves c P Q gain F → (sort : DmaClass) (onto out_of : Place) (words : List ℕ) (followed : Option Followed) (spare more : ℕ) → 6 + 2 * length words + more ≤ spare + gain
        → (go : Onward) (rest : Rest) → Going (Beside Q) more go rest
        → Going (IsOld P (of_copy sort onto out_of words)) spare (act_steps d (act.Transfer k FromKept) (straight go))
        (λ here. logged (copies k keep (shown onto) (length words)) followed (with_store (put_words onto words (F here).store) (F here)) ∷ rest (with_store (put_words onto words (F here).store) (F here)))
    from_kept_follows P Q gain F moves sort onto out_of words followed spare more few go rest follows at here related known =
        let a = act.Transfer k FromKept in
        let h = (record_is sort onto out_of words spare at here related known.1).1 in
        let store = at.state.store in
        let w = 6 + 2 * length words in
        let near = moved_near P Q gain F moves spare w more at here related few in
        let begun : At = record at { weights = at.weights + w } in
        let log = logged (copies k keep (shown onto) (length words)) followed (with_store (put_words onto words (F here).store) (F here)) ∷ rest (with_store (put_words onto words (F here).store) (F here)) in
        let told = words_go P Q gain F moves (Beside Q) more a go rest follows (put_writes onto words) (puts_may (NotConst c) onto words (related.stands.good.copies k sort onto out_of words known.1).1) keep (shown onto) (length words) followed
        (put_words onto words store) (put_words onto words (F here).store) begun here near related.stands (puts_give onto words store) (ap (put_words onto words) near.store) (put_pointers onto words store)
        (moves.known at.state.frame.mode at.state.frame.outer at.state.frame.begun here known.0) in
        let with_words = subst (λ (n : ℕ). Goes p Sees fuel store here.standing (deed c a (words_shown c (put_writes onto words) (copies k keep (shown onto) n) (put_words onto words store)) (straight go) (record at { weights = at.weights + (6 + 2 * n) })) log) (sym h.count) told in
        let with_kept = subst (λ (ws : List ℕ). Goes p Sees fuel store here.standing (deed c a (words_shown c (put_writes onto ws) (copies k keep (shown onto) (at.state.cells.length k)) (put_words onto ws store)) (straight go) (record at { weights = at.weights + (6 + 2 * at.state.cells.length k) })) log)
        (sym (words_are sort onto out_of words at.state h)) with_words in
        subst (λ (o : Option Place). Goes p Sees fuel store here.standing (deed c a (have o (λ to. words_shown c (put_writes to (recorded_words d k at.state)) (copies k keep (shown to) (at.state.cells.length k)) (put_words to (recorded_words d k at.state) store))) (straight go)
        (record at { weights = at.weights + (6 + 2 * at.state.cells.length k) })) log) (sym h.to) with_kept

    pub put_words_follows : (P Q : Outer) (gain : ℕ) (F : Here → Here) → Moves c P Q gain F → (sort : DmaClass) (onto out_of : Place) (words : List ℕ) (followed : Option Followed) (spare more : ℕ) → 8 + 12 * length words + more ≤ spare + gain
        → (go : Onward) (rest : Rest) → Going (Beside Q) more go rest
        → Going (IsOld P (of_copy sort onto out_of words)) spare (act_steps d (act.PutWords k) (straight go))
        (λ here. logged (keeps k (length words)) followed (with_store (put_words onto words (F here).store) (F here)) ∷ rest (with_store (put_words onto words (F here).store) (F here)))
    put_words_follows P Q gain F moves sort onto out_of words followed spare more few go rest follows at here related known =
        let a = act.PutWords k in
        let h = (record_is sort onto out_of words spare at here related known.1).1 in
        let store = at.state.store in
        let w = 8 + 12 * length words in
        let near = moved_near P Q gain F moves spare w more at here related few in
        let begun : At = record at { weights = at.weights + w } in
        let after = put_words onto words store in
        let here' = with_store (put_words onto words (F here).store) (F here) in
        let writes = put_writes onto words in
        let may = puts_may (NotConst c) onto words (related.stands.good.copies k sort onto out_of words known.1).1 in
        let homes = home_writes c writes in
        let unseen = homes_unseen c writes in
        let s = all_written c homes at.state in
        let frame = all_frame c homes unseen at.state in
        let stands' = subst (λ v. StandsAt c v (F here).standing) (sym (all_view c homes unseen at.state)) near.stands in
        let gives = puts_give onto words store in
        let same_after : after ≡ put_words onto words (F here).store = ap (put_words onto words) near.store in
        let log = logged (keeps k (length words)) followed here' ∷ rest here' in
        let told = shown_goes p Sees fuel a None (keeps k (length words)) (small_steps c a (map silent homes) (act_end c a (with_volatile c after) go)) begun here.standing (logged (keeps k (length words)) followed here') (rest here')
        (record { event = refl; weights = no_spare more _ _ near.weights; committed = sym (moves.committed here); stands = near.stands; leads = tt })
        (writes_go p Sees fuel a homes (act_end c a (with_volatile c after) go) begun here'.standing (rest here') (all_stand p Sees fuel here'.standing homes unseen at.state near.stands)
        (end_goes p Sees fuel a (with_volatile c after) go (with_state s begun) s.store here'.standing (rest here') stands'
        (λ seen. follows (with_state (with_volatile c after s) begun) here' (record {
          store = ap (λ st. (with_volatile c st s).store) (sym gives) ∙ writes_leave c writes may at.state ∙ gives ∙ same_after;
          mode = ap (λ f. f.mode) frame ∙ near.mode;
          running = near.running;
          stands = stands';
          weights = near.weights;
          within = same_pointers (pointing t) store (put_words onto words (F here).store) (ap (λ (st : Store). st.pointers) (sym same_after) ∙ put_pointers onto words store) (subst (PointsWithin (pointing t)) (sym related.store) related.within);
          fits = subst (FitsIn c) (gives ∙ same_after) (writes_fit c writes store (subst (FitsIn c) (sym related.store) related.fits));
        }) (subst (λ (f : Frame). Q f.mode f.outer f.begun (F here).standing.account.furthest) (sym frame) (moves.known at.state.frame.mode at.state.frame.outer at.state.frame.begun here known.0))))) in
        let with_words = subst (λ (n : ℕ). Goes p Sees fuel store here.standing (deed c a (Put n words store onto) (straight go) (record at { weights = at.weights + (8 + 12 * n) })) log) (sym h.count) told in
        let with_kept = subst (λ (ws : List ℕ). Goes p Sees fuel store here.standing (deed c a (Put (at.state.cells.length k) ws store onto) (straight go) (record at { weights = at.weights + (8 + 12 * at.state.cells.length k) })) log) (sym (words_are sort onto out_of words at.state h)) with_words in
        subst (λ (o : Option Place). Goes p Sees fuel store here.standing (deed c a (have o (Put (at.state.cells.length k) (recorded_words d k at.state) store)) (straight go) (record at { weights = at.weights + (8 + 12 * at.state.cells.length k) })) log) (sym h.to) with_kept
      where
        Put : ℕ → List ℕ → Store → Place → Done
        Put n words store to = does (showing (keeps k n) ∷ map silent (home_writes c (put_writes to words))) (with_volatile c (put_words to words store)) ahead

    -- ---- the choice

    -- a copy goes by its class as it was valued, and its words by the class of its record
    kept_way : (P : Outer) (K : Known) (spare : ℕ) (anew again go : Onward) (at : At) (here : Here) (log : Log) (a : Act) (r : Option Record) → here.standing.account.records k ≡ r → Near spare at here
        → IsRecord (view at.state) (kept_at d k) k r (Some (site.Copy most))
        → (r ≡ None → Goes p Sees fuel at.state.store here.standing (act_end c a same anew at) log)
        → ((sort : DmaClass) (onto out_of : Place) (words : List ℕ) → r ≡ Some (of_copy sort onto out_of words) → Goes p Sees fuel at.state.store here.standing (act_end c a same again at) log)
        → Goes p Sees fuel at.state.store here.standing (deed c a (does [] same (cond (flag_holds at.state k) second_way first_way)) (by_way anew again go go) at) log
    kept_way P K spare anew again go at here log a None is related h none some =
        subst (λ b. Goes p Sees fuel at.state.store here.standing (deed c a (does [] same (cond b second_way first_way)) (by_way anew again go go) at) log) (sym h) (none refl)
    kept_way P K spare anew again go at here log a (Some (of_reading word time args)) is related h none some = absurd h.1
    kept_way P K spare anew again go at here log a (Some (of_block time)) is related h none some = absurd h.1
    kept_way P K spare anew again go at here log a (Some (of_copy sort onto out_of words)) is related h none some =
        subst (λ b. Goes p Sees fuel at.state.store here.standing (deed c a (does [] same (cond b second_way first_way)) (by_way anew again go go) at) log) (sym h.0) (some sort onto out_of words refl)

    choose_copy_follows : (P : Outer) (v : CopyValued) (r : ℕ) (spare : ℕ) (anew again : List Act) (go : Onward) (rest : Rest)
        → Going (IsNew P v) spare (acts_run d again_run anew go) (λ here. copy_anew setting k v.to v.from v.length rest (with_region r here))
        → ((sort : DmaClass) (onto out_of : Place) (words : List ℕ) (valued : Valued) → Going (IsOld P (of_copy sort onto out_of words)) spare (acts_run d again_run again go)
        (λ here. copy_again sort k onto out_of words valued rest (spent (moving_steps (length words)) (with_region r here))))
        → Going (IsCopied P v) (spare + 4) (act_run d again_run (act.Choose k anew again) go) (λ here. copy_by_record setting k v.to v.from v.length rest (here.standing.account.records k) (with_region r here))
    choose_copy_follows P v r spare anew again go rest anew_so again_so =
        subst (λ (f : Onward). Going (IsCopied P v) (spare + 4) f (λ here. copy_by_record setting k v.to v.from v.length rest (here.standing.account.records k) (with_region r here))) (sym (run_choose d again_run k anew again go))
        (λ at here related known.
        let a = act.Choose k anew again in
        let begun : At = record at { weights = at.weights + 4 } in
        let o = here.standing.account.records k in
        let near : Near spare begun here = record {
          store = related.store;
          mode = related.mode;
          running = related.running;
          stands = related.stands;
          weights = (let few = related.weights in omega (arith, few));
          within = related.within;
          fits = related.fits;
        } in
        let log : Option Record → Log = λ o. copy_by_record setting k v.to v.from v.length rest o (with_region r here) in
        let is_record = subst (λ sites. IsRecord (view at.state) (kept_from sites k) k o (Some (site.Copy most))) (sites_are p Sees fuel number t there again_run (spare + 4) at here related)
        (subst (λ x. IsRecord (view at.state) (kept_from (sites_of c at.state.task) k) k o x) (place_is (spare + 4) at here related) (related.stands.records k)) in
        let told = kept_way P (IsCopied P v) spare (acts_run d again_run anew go) (acts_run d again_run again go) go begun here (log o) a o refl near is_record
        (λ none. subst (λ (x : Option Record). Goes p Sees fuel at.state.store here.standing (act_end c a same (acts_run d again_run anew go) begun) (log x)) (sym none)
        (same_goes p Sees fuel number t there again_run (IsNew P v) spare a (acts_run d again_run anew go) _ anew_so begun here near (known.0, known.1, none)))
        (λ sort onto out_of words some. subst (λ (x : Option Record). Goes p Sees fuel at.state.store here.standing (act_end c a same (acts_run d again_run again go) begun) (log x)) (sym some)
        (same_goes p Sees fuel number t there again_run (IsOld P (of_copy sort onto out_of words)) spare a (acts_run d again_run again go) _ (again_so sort onto out_of words (copy_valued here.store v.to v.from v.length)) begun here near (known.0, some))) in
        subst (λ (x : Option Site). Goes p Sees fuel at.state.store here.standing (deed c a (choose_done x k at.state) (by_way (acts_run d again_run anew go) (acts_run d again_run again go) go go) (record at { weights = at.weights + choose_weight x })) (log o)) (sym standing) told)

    -- ---- by its class

    -- the region that a copy begins is reached, and the steps of its words are spent
    abbrev Reach : (r gain : ℕ) → Here → Here
    Reach r gain here = spent gain (with_region r here)

    reach_moves : (P Q : Outer) (r gain : ℕ) → ((m : _) (o : _) (b : _) (n : ℕ) → P m o b n → Q m o b (max n r)) → Moves c P Q gain (Reach r gain)
    reach_moves P Q r gain known = record {
      store = λ here. refl;
      mode = λ here. refl;
      next = λ here. refl;
      committed = λ here. refl;
      records = λ here. refl;
      steps = λ here scheme. omega arith;
      stands = λ v here h. region_stands c v r here h;
      known = λ m o b here h. known m o b here.standing.account.furthest h;
    }

    stay_moves : (P : Outer) → Moves c P P 0 (λ here. here)
    stay_moves P = record {
      store = λ here. refl;
      mode = λ here. refl;
      next = λ here. refl;
      committed = λ here. refl;
      records = λ here. refl;
      steps = λ here scheme. omega arith;
      stands = λ v here h. h;
      known = λ m o b here h. h;
    }

    module _ (P Q : Outer) (r : ℕ) (known_so : (m : _) (o : _) (b : _) (n : ℕ) → P m o b n → Q m o b (max n r)) (go : Onward) (rest : Rest) (follows : Going (Beside Q) 0 go rest) where
      -- the words are kept, and then their record
      to_kept_follows : (v : CopyValued) → IsFine v → LeavesRecord v.class → (spare : ℕ) (next : Onward) (later : List ℕ → Rest) → ((words : List ℕ) → length words ≡ v.length → Going (IsOld Q (of_copy v.class v.to v.from words)) spare next (later words))
          → (start : ℕ) → 18 + 2 * v.length + spare ≤ start + moving_steps v.length → Going (IsNew P v) start (act_steps d (act.Transfer k ToKept) (straight (act_steps d (act.Seal k) (straight next))))
          (λ here. (let words = words_at here.store v.from v.length in
          logged (copies k (shown v.from) keep v.length) None (Reach r (moving_steps v.length) here) ∷ seal k (of_copy v.class v.to v.from words) (later words) (Reach r (moving_steps v.length) here)))
      to_kept_follows v fine leaves spare next later next_so start enough at here related known =
          let a = act.Transfer k ToKept in
          let n = v.length in
          let F = Reach r (moving_steps n) in
          let moves = reach_moves P Q r (moving_steps n) known_so in
          let words = words_at at.state.store v.from n in
          let long = words_long at.state.store v.from n (let few = fine.from_room in let fits = related.fits v.from.array in let same = ap (λ (st : Store). length (words_of st v.from.array)) related.store in omega (arith, few, fits, same)) in
          let writes = keep_writes (kept_at d k) words in
          let begun : At = record at { weights = at.weights + (6 + 2 * n) } in
          let near = moved_near P Q (moving_steps n) F moves start (6 + 2 * n) (spare + 12) at here related (omega (arith, enough)) in
          let s = all_written c writes at.state in
          let range = all_within Q v fine leaves spare next later next_so words long start at here related in
          let stand = kept_stand 0 here 0 (kept_at d k) words at.state (place_is start at here related) range.0 range.1 known.2 related.stands in
          let stands' = moves.stands (view s) here stand.1 in
          let seals_run = act_steps d (act.Seal k) (straight next) in
          let log = seal k (of_copy v.class v.to v.from words) (later words) (F here) in
          let told = last_goes p Sees fuel a writes k (shown v.from) keep n (act_end c a same seals_run) begun here.standing (logged (copies k (shown v.from) keep n) None (F here)) log stand.0 refl
          (no_spare (spare + 12) _ _ near.weights) refl stands'
          (end_goes p Sees fuel a same seals_run (with_state s begun) s.store (F here).standing log stands'
          (λ seen. sealed_behind Q v fine leaves spare next later next_so words long s begun (F here) near (known_so at.state.frame.mode at.state.frame.outer at.state.frame.begun here.standing.account.furthest known.0, known.1, known.2) refl
          (with_state s begun) refl refl stands')) in
          let with_copy = subst (λ (o : Option CopyValued). Goes p Sees fuel at.state.store here.standing (deed c a (have o (To_kept at.state.store)) (straight seals_run) (record at { weights = at.weights + (6 + 2 * length_valued o) }))
          (logged (copies k (shown v.from) keep n) None (F here) ∷ log)) (sym known.1) told in
          subst (λ (st : Store). Goes p Sees fuel at.state.store here.standing (act_steps d a (straight seals_run) at)
          (let words = words_at st v.from n in logged (copies k (shown v.from) keep n) None (F here) ∷ seal k (of_copy v.class v.to v.from words) (later words) (F here))) related.store with_copy
        where
          To_kept : Store → CopyValued → Done
          To_kept store v = does (shown_last (keep_writes (kept_at d k) (words_at store v.from v.length)) (copies k (shown v.from) keep v.length)) same ahead

      -- what is known of a record isn't asked for any more
      forget : (o : Record) (spare : ℕ) (next : Onward) (later : Rest) → Going (Beside Q) spare next later → Going (IsOld Q o) spare next later
      forget o spare next later next_so at here related known = next_so at here related known.0

      spares : (K : Known) (few many : ℕ) → few ≤ many → (next : Onward) (later : Rest) → Going K few next later → Going K many next later
      spares K few many less next later next_so at here related known = next_so at here (record {
        store = related.store;
        mode = related.mode;
        running = related.running;
        stands = related.stands;
        weights = (let low = related.weights in omega (arith, low, less));
        within = related.within;
        fits = related.fits;
      }) known

      -- a copy of class Single
      single_follows : (v : CopyValued) → IsFine v → v.class ≡ class.Single
          → Going (IsNew P v) 26 (acts_run d again_run (act.Transfer k Across ∷ act.KeepWords k ∷ act.Seal k ∷ []) go) (λ here. copy_by_class class.Single k v.to v.from v.length rest (Reach r (moving_steps v.length) here))
      single_follows v fine is =
          let leaves : LeavesRecord v.class = subst LeavesRecord (sym is) tt in
          let keep_so = keep_follows Q v fine leaves 0 go (λ words. rest) (λ words long. forget (of_copy v.class v.to v.from words) 0 go rest follows) in
          let keep_single = subst (λ (x : DmaClass). Going (IsNew Q v) (0 + 12 + (8 + 12 * v.length)) (act_steps d (act.KeepWords k) (straight (act_steps d (act.Seal k) (straight go))))
          (λ here. (let words = words_at here.store v.to v.length in seal k (of_copy x v.to v.from words) rest here))) is keep_so in
          across_follows P Q (moving_steps v.length) (Reach r (moving_steps v.length)) (reach_moves P Q r (moving_steps v.length) known_so) v fine (IsNew Q v)
          (λ f here h. (known_so f.mode f.outer f.begun here.standing.account.furthest h.0, h.1, h.2)) 26 (0 + 12 + (8 + 12 * v.length)) (omega arith)
          (act_steps d (act.KeepWords k) (straight (act_steps d (act.Seal k) (straight go)))) (single_sealed k v.to v.from v.length rest) keep_single

      -- one of class Private
      private_follows : (v : CopyValued) → IsFine v → v.class ≡ class.Private
          → Going (IsNew P v) 26 (acts_run d again_run (act.Transfer k ToKept ∷ act.Seal k ∷ act.Transfer k FromKept ∷ []) go) (λ here. copy_by_class class.Private k v.to v.from v.length rest (Reach r (moving_steps v.length) here))
      private_follows v fine is =
          let leaves : LeavesRecord v.class = subst LeavesRecord (sym is) tt in
          let next = act_steps d (act.Transfer k FromKept) (straight go) in
          let back_so = (λ (words : List ℕ) (long : length words ≡ v.length). spares (IsOld Q (of_copy v.class v.to v.from words)) (6 + 2 * length words) (6 + 2 * v.length) (omega (arith, long)) next (brought k v.to words rest)
          (from_kept_follows Q Q 0 (λ here. here) (stay_moves Q) v.class v.to v.from words None (6 + 2 * length words) 0 (omega arith) go rest follows)) in
          subst (λ (x : DmaClass). Going (IsNew P v) 26 (act_steps d (act.Transfer k ToKept) (straight (act_steps d (act.Seal k) (straight next))))
          (λ here. (let words = words_at here.store v.from v.length in
          logged (copies k (shown v.from) keep v.length) None (Reach r (moving_steps v.length) here) ∷ seal k (of_copy x v.to v.from words) (brought k v.to words rest) (Reach r (moving_steps v.length) here)))) is
          (to_kept_follows v fine leaves (6 + 2 * v.length) next (λ words. brought k v.to words rest) back_so 26 (omega arith))

      -- the others leave no record
      across_only : (v : CopyValued) → IsFine v → Going (IsNew P v) 26 (acts_run d again_run (act.Transfer k Across ∷ []) go) (λ here. moved k v.to v.from v.length rest (Reach r (moving_steps v.length) here))
      across_only v fine =
          across_follows P Q (moving_steps v.length) (Reach r (moving_steps v.length)) (reach_moves P Q r (moving_steps v.length) known_so) v fine (Beside Q)
          (λ f here h. known_so f.mode f.outer f.begun here.standing.account.furthest h.0) 26 0 (omega arith) go rest follows

      abbrev singles : Onward
      singles = acts_run d again_run (act.Transfer k Across ∷ act.KeepWords k ∷ act.Seal k ∷ []) go

      abbrev privates : Onward
      privates = acts_run d again_run (act.Transfer k ToKept ∷ act.Seal k ∷ act.Transfer k FromKept ∷ []) go

      abbrev others : Onward
      others = acts_run d again_run (act.Transfer k Across ∷ []) go

      -- the way of a class
      class_goes : (v : CopyValued) → IsFine v → (x : DmaClass) → v.class ≡ x → (a : Act) (at : At) (here : Here) → Near 26 at here → IsNew P v at.state.frame here.standing.account
          → Goes p Sees fuel at.state.store here.standing (deed c a (does [] same (by_class x)) (by_way singles privates others go) at) (copy_by_class x k v.to v.from v.length rest (Reach r (moving_steps v.length) here))
      class_goes v fine class.Single is a at here related known = same_goes p Sees fuel number t there again_run (IsNew P v) 26 a singles _ (single_follows v fine is) at here related known
      class_goes v fine class.Private is a at here related known = same_goes p Sees fuel number t there again_run (IsNew P v) 26 a privates _ (private_follows v fine is) at here related known
      class_goes v fine class.Exclude is a at here related known = same_goes p Sees fuel number t there again_run (IsNew P v) 26 a others _ (across_only v fine) at here related known
      class_goes v fine class.Always is a at here related known = same_goes p Sees fuel number t there again_run (IsNew P v) 26 a others _ (across_only v fine) at here related known

      anew_follows : (v : CopyValued) → IsFine v → Going (IsNew P v) 42 (acts_run d again_run (anew_acts k) go) (λ here. copy_anew setting k v.to v.from v.length rest (with_region r here))
      anew_follows v fine =
          let one = act.Transfer k Across ∷ act.KeepWords k ∷ act.Seal k ∷ [] in
          let two = act.Transfer k ToKept ∷ act.Seal k ∷ act.Transfer k FromKept ∷ [] in
          let three = act.Transfer k Across ∷ [] in
          let a = act.ByClass k one two three in
          subst (λ (f : Onward). Going (IsNew P v) 42 f (λ here. copy_anew setting k v.to v.from v.length rest (with_region r here))) (sym (run_by_class d again_run k one two three go))
          (λ at here related known.
          let begun : At = record at { weights = at.weights + 16 } in
          let near : Near 26 begun here = record {
            store = related.store;
            mode = related.mode;
            running = related.running;
            stands = related.stands;
            weights = (let few = related.weights in omega (arith, few));
            within = related.within;
            fits = related.fits;
          } in
          let log = copy_by_class (class_at setting v.to v.from) k v.to v.from v.length rest (Reach r (moving_steps v.length) here) in
          let told = class_goes v fine (class_at setting v.to v.from) fine.class a begun here near known in
          let with_class = subst (λ (x : DmaClass). Goes p Sees fuel at.state.store here.standing (deed c a (does [] same (by_class x)) (by_way singles privates others go) begun) log) (sym fine.class) told in
          let flag = no_record (view at.state) (kept_from (sites_of c at.state.task) k) k (here.standing.account.records k) (site_at (sites_of c at.state.task) k) known.2 (related.stands.records k) in
          let with_copy = subst (λ (o : Option CopyValued). Goes p Sees fuel at.state.store here.standing (deed c a (have (class_valued o) (λ x. does [] same (by_class x))) (by_way singles privates others go) begun) log) (sym known.1) with_class in
          subst (λ b. Goes p Sees fuel at.state.store here.standing (deed c a (have (cond b (at.state.cells.class k) (class_valued at.state.frame.copy)) (λ x. does [] same (by_class x))) (by_way singles privates others go) begun) log) (sym flag) with_copy)

      -- a copy by its record
      again_goes : (sort : DmaClass) → LeavesRecord sort → (onto out_of : Place) (words : List ℕ) (valued : Valued) (a : Act) (at : At) (here : Here) → Near 26 at here → IsOld P (of_copy sort onto out_of words) at.state.frame here.standing.account
          → Goes p Sees fuel at.state.store here.standing
          (deed c a (does [] same (by_class sort)) (by_way (acts_run d again_run (act.PutWords k ∷ []) go) (acts_run d again_run (act.Transfer k FromKept ∷ []) go) go go) at)
          (copy_again sort k onto out_of words valued rest (Reach r (moving_steps (length words)) here))
      again_goes class.Single leaves onto out_of words valued a at here related known =
          let n = moving_steps (length words) in
          same_goes p Sees fuel number t there again_run (IsOld P (of_copy class.Single onto out_of words)) 26 a _ _
          (put_words_follows P Q n (Reach r n) (reach_moves P Q r n known_so) class.Single onto out_of words _ 26 0 (omega arith) go rest follows) at here related known
      again_goes class.Private leaves onto out_of words valued a at here related known =
          let n = moving_steps (length words) in
          same_goes p Sees fuel number t there again_run (IsOld P (of_copy class.Private onto out_of words)) 26 a _ _
          (from_kept_follows P Q n (Reach r n) (reach_moves P Q r n known_so) class.Private onto out_of words _ 26 0 (omega arith) go rest follows) at here related known
      again_goes class.Exclude leaves onto out_of words valued a at here related known = absurd leaves
      again_goes class.Always leaves onto out_of words valued a at here related known = absurd leaves

      again_follows : (sort : DmaClass) (onto out_of : Place) (words : List ℕ) (valued : Valued) → Going (IsOld P (of_copy sort onto out_of words)) 42 (acts_run d again_run (again_acts k) go)
          (λ here. copy_again sort k onto out_of words valued rest (Reach r (moving_steps (length words)) here))
      again_follows sort onto out_of words valued =
          let one = act.PutWords k ∷ [] in
          let two = act.Transfer k FromKept ∷ [] in
          let a = act.ByClass k one two [] in
          subst (λ (f : Onward). Going (IsOld P (of_copy sort onto out_of words)) 42 f (λ here. copy_again sort k onto out_of words valued rest (Reach r (moving_steps (length words)) here))) (sym (run_by_class d again_run k one two [] go))
          (λ at here related known.
          let begun : At = record at { weights = at.weights + 16 } in
          let near : Near 26 begun here = record {
            store = related.store;
            mode = related.mode;
            running = related.running;
            stands = related.stands;
            weights = (let few = related.weights in omega (arith, few));
            within = related.within;
            fits = related.fits;
          } in
          let log = copy_again sort k onto out_of words valued rest (Reach r (moving_steps (length words)) here) in
          let ways = by_way (acts_run d again_run one go) (acts_run d again_run two go) go go in
          let h = record_is sort onto out_of words 42 at here related known.1 in
          let told = again_goes sort (related.stands.good.copies k sort onto out_of words known.1).0 onto out_of words valued a begun here near known in
          let with_class = subst (λ (o : Option DmaClass). Goes p Sees fuel at.state.store here.standing (deed c a (have o (λ x. does [] same (by_class x))) ways begun) log) (sym h.1.class) told in
          subst (λ b. Goes p Sees fuel at.state.store here.standing (deed c a (have (cond b (at.state.cells.class k) (class_valued at.state.frame.copy)) (λ x. does [] same (by_class x))) ways begun) log) (sym h.0) with_class)

      -- ---- the whole copy

      abbrev copy_choice : Act
      copy_choice = act.Choose k (anew_acts k) (again_acts k)

      -- saving the region that it begins, and then the choice
      saving_follows : (scheme : Scheme) (v : CopyValued) → ((m : _) (o : _) (b : _) (n : ℕ) → P m o b n → r ≤ n + 1) → (later : Rest) → Going (IsCopied P v) 46 (act_run d again_run copy_choice go) later
          → Going (IsCopied P v) (46 + saved_weight scheme (region_words d r)) (acts_run d again_run (save_acts scheme r ++ copy_choice ∷ []) go) later
      saving_follows Bank v reached later choice_so = spares (IsCopied P v) 46 (46 + 0) (omega arith) (act_run d again_run copy_choice go) later choice_so
      saving_follows Undo v reached later choice_so =
          let lock_so = lock_follows p Sees fuel number t there again_run (IsCopied P v) 46 r (λ f acc h. reached f.mode f.outer f.begun acc.furthest h.0) (act_run d again_run copy_choice go) later choice_so in
          let save_so = save_follows p Sees fuel number t there again_run (IsCopied P v) (46 + 2) r (act_steps d (act.Lock r) (straight (act_run d again_run copy_choice go))) later lock_so in
          spares (IsCopied P v) (46 + 2 + (6 + 12 * region_words d r)) (46 + (8 + 12 * region_words d r)) (omega arith) _ later save_so

      pub copy_follows : (to from : CoreEnd) (words : CoreExpr) → AllByRecursion (TouchMay (NotConst c)) (map may_write (end_arrays (pointing t) to)) → most ≡ greatest c.arrays (pointing t) to from → statement_of d k ≡ Some (stmt.Copy k to from words)
          → r ≡ region_of t k → region_words d r ≡ first_words c t r → ((m : _) (o : _) (b : _) (n : ℕ) → P m o b n → r ≤ n + 1)
          → Going (Beside P) 0 (acts_run d again_run (copy_acts (around p.plan.scheme t) k) go) (copy_log setting k to from words rest)
      copy_follows to from words writable most_is found is_region words_there reached at here related outer =
          let scheme = p.plan.scheme in
          let w = region_words d r in
          let rest_behind : Place → Place → ℕ → Rest = λ a b n inside. copy_by_record setting k a b n rest (inside.standing.account.records k) (with_region r inside) in
          let choice_so = (λ (v : CopyValued) (fine : IsFine v). choose_copy_follows P v r 42 (anew_acts k) (again_acts k) go rest (anew_follows v fine) (λ sort onto out_of words valued. again_follows sort onto out_of words valued)) in
          let saved_so = (λ (v : CopyValued) (fine : IsFine v). saving_follows scheme v reached (rest_behind v.to v.from v.length) (choice_so v fine)) in
          let steps = copy_steps c t k in
          let enough = steps_enough scheme w words_there is_region in
          let told = copy_valued_follows P (46 + saved_weight scheme w) (acts_run d again_run (save_acts scheme r ++ copy_choice ∷ []) go) rest_behind to from words writable most_is saved_so found at (spent_by steps here) (record {
            store = related.store;
            mode = related.mode;
            running = related.running;
            stands = related.stands;
            weights = (let few = related.weights in omega (arith, few, enough));
            within = related.within;
            fits = related.fits;
          }) outer in
          subst (λ (q : ℕ). Goes p Sees fuel at.state.store here.standing (act_steps d (act.Value k) (straight (acts_run d again_run (save_acts scheme q ++ copy_choice ∷ []) go)) at)
          (copy_end to (λ a. copy_end from (λ b. value words (λ n. tested a n (tested b n (λ inside. copy_by_record setting k a b n rest (inside.standing.account.records k) (with_region q inside)))))) (spent_by steps here))) is_region told
        where
          steps_enough : (scheme : Scheme) (w : ℕ) → w ≡ first_words c t r → r ≡ region_of t k → 46 + saved_weight scheme w + 42 ≤ copy_steps c t k scheme
          steps_enough Undo w there_words is_r = let same : first_words c t r ≡ first_words c t (region_of t k) = ap (first_words c t) is_r in omega (arith, there_words, same)
          steps_enough Bank w there_words is_r = omega arith
