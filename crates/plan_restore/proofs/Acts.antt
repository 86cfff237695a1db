-- What each act of statements does from an open state: each small step leaves it open, and so does its end.
use Rattle.std.proofs.Common.{◌≡◌, ◌∙◌, ℕ, zero, suc, ◌+◌, ◌<◌, ◌≤◌, Bool, true, false, ◌==◌, cond, List, [], ◌∷◌, length, map, slice_get, get_or, set, refl, sym, ap, subst, arith, eqb-true, length-set}
use Rattle.std.specs.Prelude.{Option, Some, None, Result, Ok, Err, slice_index_or}
use Rattle.std.specs.List.{AllByRecursion}
use Rattle.ease_base.specs.Found.{with_found}
use Rattle.task_ast.specs.declared.tree.Kind.{Kind}
use Rattle.task_ast.specs.declared.tree.Kind.TheVariants.{Nv, Const, Vol}
use Rattle.task_ast.specs.declared.core_form.Array.{Array}
use Rattle.task_ast.specs.declared.core_form.CoreExpr.{CoreExpr}
use Rattle.task_ast.specs.declared.core_form.CoreTarget.{CoreTarget}
use Rattle.task_ast.specs.declared.core_form.CoreEnd.{CoreEnd}
use Rattle.task_ast.specs.declared.core_form.CoreEnd.TheVariants as end
use Rattle.task_ast.specs.declared.core_form.CoreStmt.{CoreStmt}
use Rattle.task_ast.specs.declared.core_form.CoreStmt.TheVariants as stmt
use Rattle.task_ast.specs.declared.core_form.CoreTask.{CoreTask}
use Rattle.task_ast.specs.declared.core_form.Core.{Core}
use Rattle.task_ast.specs.declared.core_form.Site.{Site}
use Rattle.task_ast.specs.declared.core_form.Site.TheVariants as site
use Rattle.task_ast.specs.CoreSites.{a_copy, standing_of}
use Rattle.task_ast.specs.Pointing.{Pointing, pointing, reading_arrays, end_arrays}
use Rattle.io_annot.specs.declared.choice.Mode.{Mode}
use Rattle.io_annot.specs.Choice.{choice}
use Rattle.io_depend.specs.Sets.{has}
use Rattle.region_split.specs.declared.class.DmaClass.{DmaClass}
use Rattle.region_split.specs.Regions.{may_write, keeps_words, region_of}
use Rattle.region_split.specs.Owners.{all_first}
use Rattle.walk_run.specs.declared.trap.Trap.{Trap}
use Rattle.walk_run.specs.declared.place.Place.{Place}
use Rattle.walk_run.specs.Store.{Store, place, word_at, put_word, pointed, first_if_shown}
use Rattle.walk_run.specs.Value.{value_of, target_place, end_place, place_pointed, with_room}
use Rattle.walk_run.specs.Plain.{Ran, done, trapped, chosen}
use Rattle.walk_run.specs.PlainWrites.{Write, sets, points}
use Rattle.walk_run.specs.Walk.{move_words}
use Rattle.devices.specs.Journal.{JournalEvent, begins, looks, keeps, drops, issues, seals, copies, commits, traps}
use Rattle.task_attempts.specs.State.{Setting}
use Rattle.task_attempts.specs.Changes.{put}
use Rattle.task_attempts.specs.Told.{next_look}
use Rattle.task_attempts.specs.Calls.{site_at}
use Rattle.task_attempts.specs.Copies.{put_words, words_at, class_at}
use Rattle.run_plan.specs.declared.act.Leg.TheVariants.{Across, ToKept, FromKept}
use Rattle.run_plan.specs.declared.act.Act.{Act}
use Rattle.run_plan.specs.Cells.{CopyValued, Frame, State, CellWrite, puts_home, puts_flag, puts_value, puts_stamp, puts_class, puts_to, puts_from, puts_length, after_write}
use Rattle.run_plan.specs.Small.{Doing, Way, first_way, second_way, Done, does, silent, showing, writing, ending, have, unless_fails, same, one, shown_last, with_volatile, after_event, flag_holds}
use Rattle.run_plan.specs.Words.{home_writes, kind_at, kind_or_volatile, move_writes, put_writes, keep_writes, kept_at, recorded_words}
use Rattle.run_plan.specs.Kinds.{IsCopy, standing_or_none}
use Rattle.run_plan.specs.Deeds.{plain_ends, target_found, all_values, copy_found, value_done, reading_held, by_choice, choose_done, issue_done, sealed, seal_done, look_done, take_done, words_put, words_shown, write_done, enter_done, leave_done, class_now, by_class, transfer_done, keep_done, put_done}
use Rattle.run_plan.specs.Runs.{Planned, at_task, doing}
use Rattle.plan_restore.specs.Kept.{EndsBegin, IsAside}
use Rattle.plan_restore.proofs.Lists.{is_itself}
use Rattle.walk_run.specs.Laws.{HasItsConstants}
use Rattle.plan_restore.proofs.Puts.{NotConst, const_put}
use Rattle.plan_restore.proofs.Steps.{Keeps, DoneKeeps, DoneGoes, IsNoCommit, no_shown_end, silent_quiet, shown_quiet, writing_quiet}
use Rattle.plan_restore.proofs.Writing.{AllWithin, TouchMay, WriteMay, Does, touched_may, target_array, one_array, cell_array, as_found, ok_is}
use Rattle.plan_restore.proofs.Open.{view, MayWrite, IsSafe, IsOpen, Open}
use Rattle.plan_restore.proofs.Opening.{home_open, volatile_open, flag_open, to_open, frame_open, reach_more}

-- ---- lists of writes

-- words moved, or put, to an array that may be written
pub moves_may : (W : ℕ → Type 0) (n : ℕ) (to from : Place) (store : Store) → W to.array → AllByRecursion (WriteMay W) (move_writes n to from store)
moves_may W zero to from store may = tt
moves_may W (suc n) to from store may = (may, moves_may W n (place to.array (to.index + 1)) (place from.array (from.index + 1)) (put_word to (word_at store from) store) may)

pub puts_may : (W : ℕ → Type 0) (to : Place) (words : List ℕ) → W to.array → AllByRecursion (WriteMay W) (put_writes to words)
puts_may W to [] may = tt
puts_may W to (word ∷ words) may = (may, puts_may W (place to.array (to.index + 1)) words may)

put_long : (at : Place) (w : ℕ) (store : Store) → length (put_word at w store).words ≡ length store.words
put_long at w store = length-set store.words at.array (set (get_or store.words at.array []) at.index w)

pub moved_long : (n : ℕ) (to from : Place) (store : Store) → length (move_words n to from store).words ≡ length store.words
moved_long zero to from store = refl
moved_long (suc n) to from store = moved_long n _ _ (put_word to (word_at store from) store) ∙ put_long to (word_at store from) store

pub moved_pointers : (n : ℕ) (to from : Place) (store : Store) → (move_words n to from store).pointers ≡ store.pointers
moved_pointers zero to from store = refl
moved_pointers (suc n) to from store = moved_pointers n _ _ (put_word to (word_at store from) store)

pub put_all_long : (to : Place) (words : List ℕ) (store : Store) → length (put_words to words store).words ≡ length store.words
put_all_long to [] store = refl
put_all_long to (word ∷ words) store = put_all_long (place to.array (to.index + 1)) words (put_word to word store) ∙ put_long to word store

pub put_all_pointers : (to : Place) (words : List ℕ) (store : Store) → (put_words to words store).pointers ≡ store.pointers
put_all_pointers to [] store = refl
put_all_pointers to (word ∷ words) store = put_all_pointers (place to.array (to.index + 1)) words (put_word to word store)

-- and constants stay
moved_const : (c : Core) (n : ℕ) (to from : Place) (store : Store) → NotConst c to.array → HasItsConstants c store → HasItsConstants c (move_words n to from store)
moved_const c zero to from store not h = h
moved_const c (suc n) to from store not h = moved_const c n (place to.array (to.index + 1)) (place from.array (from.index + 1)) (put_word to (word_at store from) store) not (const_put c to (word_at store from) store not h)

put_all_const : (c : Core) (to : Place) (words : List ℕ) (store : Store) → NotConst c to.array → HasItsConstants c store → HasItsConstants c (put_words to words store)
put_all_const c to [] store not h = h
put_all_const c to (word ∷ words) store not h = put_all_const c (place to.array (to.index + 1)) words (put_word to word store) not (const_put c to word store not h)

-- an array of kind nv is nonvolatile
kind_kept : (o : Option Array) → kind_or_volatile o ≡ Nv → keeps_words o ≡ true
kind_kept None is = absurd (cc is)
kind_kept (Some a) is = ap (λ k. keeps_words (Some (record a { kind = k }))) is

-- what a site is valued at may be written where so many regions are saved
abbrev pub FineFor : (W : ℕ → Type 0) → (points : ℕ → List ℕ) → Option CoreStmt → Type 0
FineFor W may None = Unit {0}
FineFor W may (Some (stmt.Assign x e)) = Unit {0}
FineFor W may (Some (stmt.Point q array i)) = Unit {0}
FineFor W may (Some (stmt.If' c m yes_row n no_row)) = Unit {0}
FineFor W may (Some (stmt.Loop' i turns m row)) = Unit {0}
FineFor W may (Some (stmt.Io k x q args)) = AllByRecursion (TouchMay W) (map may_write (reading_arrays may x))
FineFor W may (Some (stmt.Block' k m row)) = Unit {0}
FineFor W may (Some (stmt.Copy k to from n)) = AllByRecursion (TouchMay W) (map may_write (end_arrays may to))

-- the place of a copy's end is in an array that it may be in
end_array : (may : Pointing) (x : CoreEnd) (store : Store) (at : Place) → AllWithin may store → end_place x store ≡ Ok at → has (end_arrays may x) at.array ≡ true
end_array may (end.Cell array index) store at within is = one_array array at.array (cell_array store array (value_of index store) at is)
end_array may (end.Pointer q) store at within is = by_pointed (pointed store q) refl is
  where
    by_pointed : (o : Option Place) → pointed store q ≡ o → place_pointed o ≡ Ok at → has (may q) at.array ≡ true
    by_pointed None leads found = absurd (cc found)
    by_pointed (Some to) leads found = subst (λ z. has (may q) z.array ≡ true) (ok_is to at found) (within q to leads)

-- the destination of a copy that was valued
copy_to : (setting : Setting) (to from : CoreEnd) (words : CoreExpr) (store : Store) (u : CopyValued) → copy_found setting to from words store ≡ Ok u → end_place to store ≡ Ok u.to
copy_to setting to from words store u is = by_to (end_place to store) is
  where
    made : Place → Place → ℕ → CopyValued
    made a b n = record { to = a; from = b; length = n; class = class_at setting a b }

    by_room : (a b : Place) (n : ℕ) (x y : Result Place Trap) → with_found x (λ _. with_found y (λ _. as_found (made a b n))) ≡ Ok u → as_found a ≡ Ok u.to
    by_room a b n (Err why) y found = absurd (cc found)
    by_room a b n (Ok x) (Err why) found = absurd (cc found)
    by_room a b n (Ok x) (Ok y) found = ap (λ v. as_found v.to) (ok_is (made a b n) u found)

    by_words : (a b : Place) (x : Result ℕ Trap) → with_found x (λ n. with_found (with_room store a n) (λ _. with_found (with_room store b n) (λ _. as_found (made a b n)))) ≡ Ok u → as_found a ≡ Ok u.to
    by_words a b (Err why) found = absurd (cc found)
    by_words a b (Ok n) found = by_room a b n (with_room store a n) (with_room store b n) found

    by_from : (a : Place) (x : Result Place Trap) → with_found x (λ b. with_found (value_of words store) (λ n. with_found (with_room store a n) (λ _. with_found (with_room store b n) (λ _. as_found (made a b n))))) ≡ Ok u → as_found a ≡ Ok u.to
    by_from a (Err why) found = absurd (cc found)
    by_from a (Ok b) found = by_words a b (value_of words store) found

    by_to : (x : Result Place Trap) → with_found x (λ a. with_found (end_place from store) (λ b. with_found (value_of words store) (λ n. with_found (with_room store a n) (λ _. with_found (with_room store b n) (λ _. as_found (made a b n)))))) ≡ Ok u → x ≡ Ok u.to
    by_to (Err why) found = absurd (cc found)
    by_to (Ok a) found = by_from a (end_place from store) found

-- a destination that was just recorded
recorded_is : (k : ℕ) (to : Place) (before : ℕ → Option Place) (at : Place) → put k (Some to) before k ≡ Some at → to ≡ at
recorded_is k to before at is = place_is (sym (ap (λ b. cond b (Some to) (before k)) (is_itself k)) ∙ is)
  where
    out : Option Place → Place
    out None = to
    out (Some x) = x

    place_is : Some to ≡ Some at → to ≡ at
    place_is same = ap out same

module _ (p : Planned) (t : CoreTask) (number : ℕ) (e : Store) (split : at_task p.plan.firsts number [] ≡ all_first p.rules.core t) where
  abbrev c : Core
  c = p.rules.core

  abbrev d : Doing
  d = doing p number t

  abbrev May : (saved array : ℕ) → Type 0
  May = MayWrite p.plan.scheme c t

  abbrev Now : (m r : ℕ) → State → Type 0
  Now m r s = Open p.plan.scheme c t number (at_task p.plan.firsts number []) e m r s

  abbrev Safe : Store → State → Type 0
  Safe = IsSafe p

  -- ---- writes that keep a state open

  -- from each state
  abbrev WriteKeeps : (I : State → Type 0) → CellWrite → Type 0
  WriteKeeps I w = ((s : State) → I s → I (after_write c.arrays w s)) × (IsAside (Some w) → ⊥)

  event_now : (m r : ℕ) (event : JournalEvent) (s : State) → Now m r s → Now m r (after_event event s)
  event_now m r (begins k) s h = h
  event_now m r (looks k time) s h = h
  event_now m r (keeps k value) s h = h
  event_now m r (drops k) s h = h
  event_now m r (issues k q args reading) s h = h
  event_now m r (seals k) s h = h
  event_now m r (copies k from to n) s h = h
  event_now m r (commits next) s h = h
  event_now m r (traps code) s h = h

  shown_keeps : (a : Act) (m r : ℕ) (event : JournalEvent) → IsNoCommit (Some event) → Keeps p Safe d a (Now m r) (showing event)
  shown_keeps a m r event none = (shown_quiet p Safe a event none, λ s h. event_now m r event s h)

  all_silent : (a : Act) (m r : ℕ) (ws : List CellWrite) → AllByRecursion (WriteKeeps (Now m r)) ws → AllByRecursion (Keeps p Safe d a (Now m r)) (map silent ws)
  all_silent a m r [] all = tt
  all_silent a m r (w ∷ ws) all = ((silent_quiet p Safe a w (λ is aside. all.0.1 aside), all.0.0), all_silent a m r ws all.1)

  all_shown : (a : Act) (m r : ℕ) (event : JournalEvent) → IsNoCommit (Some event) → (ws : List CellWrite) → AllByRecursion (WriteKeeps (Now m r)) ws → AllByRecursion (Keeps p Safe d a (Now m r)) (shown_last ws event)
  all_shown a m r event none [] all = (shown_keeps a m r event none, tt)
  all_shown a m r event none (w ∷ []) all =
      ((writing_quiet p Safe a w event none (λ is aside. all.0.1 aside), λ s h. all.0.0 (after_event event s) (event_now m r event s h)), tt)
  all_shown a m r event none (w ∷ v ∷ ws) all = ((silent_quiet p Safe a w (λ is aside. all.0.1 aside), all.0.0), all_shown a m r event none (v ∷ ws) all.1)

  -- homes that may be written
  homes_keep : (m r : ℕ) (writes : List Write) → AllByRecursion (WriteMay (May m)) writes → AllByRecursion (WriteKeeps (Now m r)) (home_writes c writes)
  homes_keep m r [] all = tt
  homes_keep m r (points q at ∷ writes) all = homes_keep m r writes all.1
  homes_keep m r (sets at word ∷ writes) all = by_kind (kind_at c at) refl (homes_keep m r writes all.1)
    where
      by_kind : (k : Kind) → kind_at c at ≡ k → AllByRecursion (WriteKeeps (Now m r)) (home_writes c writes) → AllByRecursion (WriteKeeps (Now m r)) (first_if_shown k (puts_home at word) (home_writes c writes))
      by_kind Nv is rest =
          ((λ s h. home_open p.plan.scheme c t number (at_task p.plan.firsts number []) e split m r at word (view s) (kind_kept (slice_get c.arrays at.array) is) all.0.0 h, λ aside. aside), rest)
      by_kind Const is rest = rest
      by_kind Vol is rest = rest

  -- kept words
  kept_keep : (m r at : ℕ) (words : List ℕ) → AllByRecursion (WriteKeeps (Now m r)) (keep_writes at words)
  kept_keep m r at [] = tt
  kept_keep m r at (word ∷ words) = ((λ s h. h, λ aside. aside), kept_keep m r (at + 1) words)

  -- what is volatile becomes that of a store
  left_now : (m r : ℕ) (old new : Store) → HasItsConstants c new → length new.words ≡ length old.words → length old.words ≡ length c.arrays → AllWithin (pointing t) new → (s : State) → Now m r s → Now m r (with_volatile c new s)
  left_now m r old new consts long count within s h = volatile_open p.plan.scheme c t number (at_task p.plan.firsts number []) e m r (view s) new consts (long ∙ count) within h

  -- the same pointers as before
  same_within : (old new : Store) → new.pointers ≡ old.pointers → AllWithin (pointing t) old → AllWithin (pointing t) new
  same_within old new is within q at there = within q at (sym (ap (λ ps. slice_index_or ps q None) is) ∙ there)

  -- another frame
  frame_now : (m r : ℕ) (f : Frame) → ((at : Place) → f.target ≡ Some (Some at) → May r at.array) → ((u : CopyValued) → f.copy ≡ Some u → May r u.to.array) → (s : State) → Now m r s → Now m r (record s { frame = f })
  frame_now m r f target copy s h = frame_open p.plan.scheme c t number (at_task p.plan.firsts number []) e m r f.target f.copy (view s) target copy h

  -- what was valued may be written later too
  more : (m r n : ℕ) (s : State) → Now m r s → Now m (r + n) s
  more m r n s h = reach_more p.plan.scheme c t number (at_task p.plan.firsts number []) e m r n (view s) h

  -- ---- acts, by what they are valued at

  have_keeps : {A : Type 0} (a : Act) (P : State → Type 0) (Q : Way → State → Type 0) (o : Option A) (go : A → Done) → ((x : A) → o ≡ Some x → DoneKeeps p Safe d a P Q (go x)) → DoneKeeps p Safe d a P Q (have o go)
  have_keeps a P Q None go each = tt
  have_keeps a P Q (Some x) go each = each x refl

  unless_keeps : {A : Type 0} (a : Act) (P : State → Type 0) (Q : Way → State → Type 0) (r : Result A Trap) (go : A → Done) → ((x : A) → r ≡ Ok x → DoneKeeps p Safe d a P Q (go x)) → DoneKeeps p Safe d a P Q (unless_fails r go)
  unless_keeps a P Q (Ok x) go each = each x refl
  unless_keeps a P Q (Err why) go each = tt

  -- an act that ends no beginning
  abbrev Other : Act → Type 0
  Other a = EndsBegin a ending → ⊥

  -- a statement without sites
  pub plain_keeps : (a : Act) → Other a → (m r : ℕ) (s : State) → Now m r s → (writes : List Write) (ran : Ran) → Does c (pointing t) (May m) (λ a may. may.1) s.store writes ran
      → DoneKeeps p Safe d a (Now m r) (λ w. Now m r) (plain_ends c (map silent (home_writes c writes)) ran)
  plain_keeps a other m r s h writes (done new) it =
      (all_silent a m r (home_writes c writes) (homes_keep m r writes it.writable), λ s' h'. left_now m r s.store new (it.constants h.constants) it.many h.shaped.count it.within s' h', other)
  plain_keeps a other m r s h writes (trapped why new) it = all_silent a m r (home_writes c writes) (homes_keep m r writes it.writable)

  -- words are put, silently or with an event
  words_keep : (a : Act) → Other a → (m r : ℕ) (s : State) → Now m r s → (writes : List Write) (new : Store) → HasItsConstants c new → AllByRecursion (WriteMay (May m)) writes → length new.words ≡ length s.store.words → new.pointers ≡ s.store.pointers
      → DoneKeeps p Safe d a (Now m r) (λ w. Now m r) (words_put c writes new)
  words_keep a other m r s h writes new consts all long pointers =
      (all_silent a m r (home_writes c writes) (homes_keep m r writes all), λ s' h'. left_now m r s.store new consts long h.shaped.count (same_within s.store new pointers h.pointers) s' h', other)

  words_shown_keep : (a : Act) → Other a → (m r : ℕ) (s : State) → Now m r s → (writes : List Write) (event : JournalEvent) (new : Store) → HasItsConstants c new → IsNoCommit (Some event) → AllByRecursion (WriteMay (May m)) writes → length new.words ≡ length s.store.words → new.pointers ≡ s.store.pointers
      → DoneKeeps p Safe d a (Now m r) (λ w. Now m r) (words_shown c writes event new)
  words_shown_keep a other m r s h writes event new consts none all long pointers =
      (all_shown a m r event none (home_writes c writes) (homes_keep m r writes all), λ s' h'. left_now m r s.store new consts long h.shaped.count (same_within s.store new pointers h.pointers) s' h', other)

  -- ---- what is valued

  some_is : {A : Type 0} (x y : A) → Some x ≡ Some y → x ≡ y
  some_is x y is = ap (λ o. out o x) is
    where
      out : {A : Type 0} → Option A → A → A
      out None z = z
      out (Some v) z = v

  target_fine : (r : ℕ) (x : Option CoreTarget) (store : Store) (o : Option Place) → AllByRecursion (TouchMay (May r)) (map may_write (reading_arrays (pointing t) x)) → AllWithin (pointing t) store → target_found x store ≡ Ok o
      → (at : Place) → Some o ≡ Some (Some at) → May r at.array
  target_fine r None store o all within is at found = absurd (let none : Some (Some at) ≡ Some None = sym found ∙ ap (λ z. Some (ok_or z)) (sym is) in cc none)
    where
      ok_or : Result (Option Place) Trap → Option Place
      ok_or (Ok z) = z
      ok_or (Err why) = None
  target_fine r (Some x) store o all within is at found = by_place (target_place x store) refl is
    where
      ok_or : Result (Option Place) Trap → Option Place
      ok_or (Ok z) = z
      ok_or (Err why) = None

      as_some : Place → Result (Option Place) Trap
      as_some q = Ok (Some q)

      by_place : (z : Result Place Trap) → target_place x store ≡ z → with_found z (λ q. as_some q) ≡ Ok o → May r at.array
      by_place (Err why) eq h = absurd (cc h)
      by_place (Ok q) eq h =
          let same : q ≡ at = some_is q at (ap ok_or h ∙ some_is o (Some at) found) in
          subst (λ z. May r z.array) same (touched_may (May r) (reading_arrays (pointing t) (Some x)) all q.array (target_array (pointing t) x store q within eq))

  copy_fine : (r : ℕ) (to from : CoreEnd) (words : CoreExpr) (store : Store) (u : CopyValued) → AllByRecursion (TouchMay (May r)) (map may_write (end_arrays (pointing t) to)) → AllWithin (pointing t) store
      → copy_found d.setting to from words store ≡ Ok u → May r u.to.array
  copy_fine r to from words store u all within is =
      let at = copy_to d.setting to from words store u is in
      touched_may (May r) (end_arrays (pointing t) to) all u.to.array (end_array (pointing t) to store u.to within at)

  -- what a site is valued at
  pub value_keeps : (a : Act) → Other a → (m r n : ℕ) (s : State) → Now m r s → (o : Option CoreStmt) → FineFor (May (r + n)) (pointing t) o → DoneKeeps p Safe d a (Now m r) (λ w. Now m (r + n)) (value_done d.setting o s)
  value_keeps a other m r n s h None fine = tt
  value_keeps a other m r n s h (Some (stmt.Assign x e)) fine = tt
  value_keeps a other m r n s h (Some (stmt.Point q array i)) fine = tt
  value_keeps a other m r n s h (Some (stmt.If' e k yes_row l no_row)) fine = tt
  value_keeps a other m r n s h (Some (stmt.Loop' i turns k row)) fine = tt
  value_keeps a other m r n s h (Some (stmt.Io k x q args)) fine =
      unless_keeps a (Now m r) (λ w. Now m (r + n)) (target_found x s.store) _ (λ o found. unless_keeps a (Now m r) (λ w. Now m (r + n)) (all_values args s.store) _ (λ words valued.
      (tt, λ s' h'. frame_now m (r + n) (record s.frame { target = Some o; args = Some words }) (λ at is. target_fine (r + n) x s.store o fine h.pointers found at is) (more m r n s h).copy s' (more m r n s' h'), other)))
  value_keeps a other m r n s h (Some (stmt.Block' k l row)) fine = tt
  value_keeps a other m r n s h (Some (stmt.Copy k to from words)) fine =
      unless_keeps a (Now m r) (λ w. Now m (r + n)) (copy_found d.setting to from words s.store) _ (λ u found. (
        tt,
        λ s' h'. frame_now m (r + n) (record s.frame { copy = Some u }) (more m r n s h).target
            (λ v is. subst (λ z. May (r + n) z.to.array) (some_is u v is) (copy_fine (r + n) to from words s.store u fine h.pointers found)) s' (more m r n s' h'),
        other,
      ))

  -- ---- acts that change what lives between acts

  -- the same target and the same copy, and anything else
  frame_same : (m r : ℕ) (s : State) → Now m r s → (s' : State) → Now m r s' → IsOpen p.plan.scheme c t number (at_task p.plan.firsts number []) e m r (record (view s') { target = s.frame.target; copy = s.frame.copy })
  frame_same m r s h s' h' = frame_open p.plan.scheme c t number (at_task p.plan.firsts number []) e m r s.frame.target s.frame.copy (view s') h.target h.copy h'

  pub look_keeps : (a : Act) → Other a → (m r k : ℕ) (s : State) → Now m r s → DoneKeeps p Safe d a (Now m r) (λ w. Now m r) (look_done k s)
  look_keeps a other m r k s h = ((shown_keeps a m r (looks k (next_look s.looks)) tt, tt), λ s' h'. frame_same m r s h s' h', other)

  pub take_keeps : (a : Act) → Other a → (m r k : ℕ) (s : State) → Now m r s → DoneKeeps p Safe d a (Now m r) (λ w. Now m r) (take_done k s)
  take_keeps a other m r k s h = ((shown_keeps a m r (keeps k (s.cells.value k)) tt, tt), λ s' h'. frame_same m r s h s' h', other)

  pub issue_keeps : (a : Act) → Other a → (m r k : ℕ) (s : State) → Now m r s → (o : Option CoreStmt) → DoneKeeps p Safe d a (Now m r) (λ w. Now m r) (issue_done d.setting o k s)
  issue_keeps a other m r k s h None = tt
  issue_keeps a other m r k s h (Some (stmt.Assign x e)) = tt
  issue_keeps a other m r k s h (Some (stmt.Point q array i)) = tt
  issue_keeps a other m r k s h (Some (stmt.If' e i yes_row j no_row)) = tt
  issue_keeps a other m r k s h (Some (stmt.Loop' i turns j row)) = tt
  issue_keeps a other m r k s h (Some (stmt.Io i x q args)) = have_keeps a (Now m r) (λ w. Now m r) s.frame.args _ (λ words is.
      ((shown_keeps a m r _ tt, tt), λ s' h'. frame_same m r s h s' h', other))
  issue_keeps a other m r k s h (Some (stmt.Block' i j row)) = tt
  issue_keeps a other m r k s h (Some (stmt.Copy i to from n)) = tt

  pub enter_keeps : (a : Act) → Other a → (m r k : ℕ) (s : State) → Now m r s → DoneKeeps p Safe d a (Now m r) (λ w. Now m r) (enter_done d.setting k s)
  enter_keeps a other m r k s h = have_keeps a (Now m r) (λ w. Now m r) s.frame.mode _ (λ mode is. have_keeps a (Now m r) (λ w. Now m r) s.frame.time _ (λ time known.
      (tt, λ s' h'. frame_same m r s h s' h', other)))

  pub leave_keeps : (a : Act) → Other a → (m r k : ℕ) (s : State) → Now m r s → DoneKeeps p Safe d a (Now m r) (λ w. Now m r) (leave_done k s)
  leave_keeps a other m r k s h = have_keeps a (Now m r) (λ w. Now m r) s.frame.mode _ (λ mode is. have_keeps a (Now m r) (λ w. Now m r) (s.frame.outer k) _ (λ outer known.
      (tt, λ s' h'. frame_same m r s h s' h', other)))

  -- ---- acts that only choose a way

  -- an act without small steps that changes nothing leaves what holds
  chosen_goes : (a : Act) → Other a → (P : State → Type 0) (Q : Way → State → Type 0) (s : State) (w : Way) → Q w s → DoneGoes p Safe d a e P Q (does [] same w) s
  chosen_goes a other P Q s w h = (tt, h, λ b. absurd (other b))

  pub test_goes : (a : Act) → Other a → (P : State → Type 0) (s : State) → P s → (r : Result ℕ Trap) → DoneGoes p Safe d a e P (λ w. P) (unless_fails r (λ word. does [] same (chosen word first_way second_way))) s
  test_goes a other P s h (Ok word) = chosen_goes a other P (λ w. P) s (chosen word first_way second_way) h
  test_goes a other P s h (Err why) = (record { no_commit = tt; bank = λ is aside. aside; begun = no_shown_end a _ }, h, tt)

  pub class_goes : (a : Act) → Other a → (P : State → Type 0) (k : ℕ) (s : State) → P s → DoneGoes p Safe d a e P (λ w. P) (have (class_now s k) (λ z. does [] same (by_class z))) s
  class_goes a other P k s h = by_class_there (class_now s k)
    where
      by_class_there : (o : Option DmaClass) → DoneGoes p Safe d a e P (λ w. P) (have o (λ z. does [] same (by_class z))) s
      by_class_there None = tt
      by_class_there (Some z) = chosen_goes a other P (λ w. P) s (by_class z) h

  -- a call chooses
  pub call_goes : (a : Act) → Other a → (P : State → Type 0) (k : ℕ) (s : State) → P s → (o : Option Site) → DoneGoes p Safe d a e P (λ w. P) (choose_done o k s) s
  call_goes a other P k s h None = tt
  call_goes a other P k s h (Some (site.Block ann)) = tt
  call_goes a other P k s h (Some (site.Copy n)) = chosen_goes a other P (λ w. P) s (cond (flag_holds s k) second_way first_way) h
  call_goes a other P k s h (Some (site.Io ann)) = by_mode s.frame.mode
    where
      by_time : (mode : Mode) (o : Option ℕ) → DoneGoes p Safe d a e P (λ w. P) (have o (λ time. does [] same (by_choice (choice mode ann (reading_held s k) time)))) s
      by_time mode None = tt
      by_time mode (Some time) = chosen_goes a other P (λ w. P) s (by_choice (choice mode ann (reading_held s k) time)) h

      by_mode : (o : Option Mode) → DoneGoes p Safe d a e P (λ w. P) (have o (λ mode. have s.frame.time (λ time. does [] same (by_choice (choice mode ann (reading_held s k) time))))) s
      by_mode None = tt
      by_mode (Some mode) = by_time mode s.frame.time

  -- the way of a copy that has a record
  abbrev pub HasRecordWhere : (k : ℕ) → Way → State → Type 0
  HasRecordWhere k second_way s = flag_holds s k ≡ true
  HasRecordWhere k w s = Unit {0}

  pub copy_goes : (a : Act) → Other a → (P : State → Type 0) (k n : ℕ) (s : State) → P s → (o : Option Site) → o ≡ Some (site.Copy n) → DoneGoes p Safe d a e P (λ w s. P s × HasRecordWhere k w s) (choose_done o k s) s
  copy_goes a other P k n s h None is = absurd (cc is)
  copy_goes a other P k n s h (Some (site.Block ann)) is = absurd (cc is)
  copy_goes a other P k n s h (Some (site.Io ann)) is = absurd (cc is)
  copy_goes a other P k n s h (Some (site.Copy l)) is = by_flag (flag_holds s k) refl
    where
      by_flag : (b : Bool) → flag_holds s k ≡ b → DoneGoes p Safe d a e P (λ w s. P s × HasRecordWhere k w s) (does [] same (cond b second_way first_way)) s
      by_flag true holds = chosen_goes a other P (λ w s. P s × HasRecordWhere k w s) s second_way (h, holds)
      by_flag false holds = chosen_goes a other P (λ w s. P s × HasRecordWhere k w s) s first_way (h, tt)

  -- ---- records

  flag_now : (m r k f : ℕ) (s : State) → f ≤ s.epoch → (IsCopy t k → (f == s.epoch) ≡ true → (at : Place) → s.cells.to k ≡ Some at → May (region_of t k + 1) at.array) → Now m r s → Now m r (after_write c.arrays (puts_flag k f) s)
  flag_now m r k f s few fine h = flag_open p.plan.scheme c t number (at_task p.plan.firsts number []) e m r k f (view s) few fine h

  zero_apart : (n : ℕ) → 0 < n → (0 == n) ≡ true → ⊥
  zero_apart n less is = let none : 0 ≡ n = eqb-true 0 n is in absurd (omega (arith, less, none))

  pub drop_keeps : (a : Act) → Other a → (m r k : ℕ) (s : State) → DoneKeeps p Safe d a (Now m r) (λ w. Now m r) (one (writing (puts_flag k 0) (drops k)))
  drop_keeps a other m r k s =
      (((writing_quiet p Safe a (puts_flag k 0) (drops k) tt (λ is aside. aside), λ s h. flag_now m r k 0 s (omega arith) (λ copy holds. absurd (zero_apart s.epoch h.numbered.started holds)) h), tt), λ s' h'. h', other)

  -- a call or a block is sealed
  not_copy : (k : ℕ) (x : Site) → site_at t.sites k ≡ Some x → (n : ℕ) → standing_of x ≡ a_copy n → IsCopy t k
  not_copy k x is n stands = (n, ap standing_or_none is ∙ ap Some stands)

  pub seal_goes : (a : Act) → Other a → (m r k : ℕ) (s : State) → Now m r s → (IsCopy t k → ⊥) → (o : Option Site) → site_at t.sites k ≡ o → DoneGoes p Safe d a e (Now m r) (λ w. Now m r) (seal_done o k s) s
  seal_goes a other m r k s h bare None is = tt
  seal_goes a other m r k s h bare (Some (site.Copy n)) is = absurd (bare (not_copy k (site.Copy n) is n refl))
  seal_goes a other m r k s h bare (Some (site.Io ann)) is = by_word s.frame.word
    where
      by_time : (word : ℕ) (o : Option ℕ) → DoneGoes p Safe d a e (Now m r) (λ w. Now m r) (have o (λ time. sealed k (puts_value k word ∷ puts_stamp k time ∷ puts_flag k s.epoch ∷ []))) s
      by_time word None = tt
      by_time word (Some time) =
          let last = flag_now m r k s.epoch s (omega arith) (λ copy holds. absurd (bare copy)) h in
          ((silent_quiet p Safe a _ (λ is aside. aside), h, (silent_quiet p Safe a _ (λ is aside. aside), h, (writing_quiet p Safe a _ _ tt (λ is aside. aside), last, tt))), last, λ b. absurd (other b))

      by_word : (o : Option ℕ) → DoneGoes p Safe d a e (Now m r) (λ w. Now m r) (have o (λ word. have s.frame.time (λ time. sealed k (puts_value k word ∷ puts_stamp k time ∷ puts_flag k s.epoch ∷ [])))) s
      by_word None = tt
      by_word (Some word) = by_time word s.frame.time
  seal_goes a other m r k s h bare (Some (site.Block ann)) is = by_begun (s.frame.begun k)
    where
      by_begun : (o : Option ℕ) → DoneGoes p Safe d a e (Now m r) (λ w. Now m r) (have o (λ time. sealed k (puts_stamp k time ∷ puts_flag k s.epoch ∷ []))) s
      by_begun None = tt
      by_begun (Some time) =
          let last = flag_now m r k s.epoch s (omega arith) (λ copy holds. absurd (bare copy)) h in
          ((silent_quiet p Safe a _ (λ is aside. aside), h, (writing_quiet p Safe a _ _ tt (λ is aside. aside), last, tt)), last, λ b. absurd (other b))

  -- a copy's recorded destination may be written now
  abbrev pub ToMay : (m k : ℕ) → State → Type 0
  ToMay m k s = (at : Place) → s.cells.to k ≡ Some at → May m at.array

  -- a copy is sealed
  pub seal_copy_goes : (a : Act) → Other a → (m k n : ℕ) (s : State) → Now m m s → m ≡ region_of t k + 1 → (o : Option Site) → o ≡ Some (site.Copy n) → DoneGoes p Safe d a e (Now m m) (λ w s. Now m m s × ToMay m k s) (seal_done o k s) s
  seal_copy_goes a other m k n s h region None is = absurd (cc is)
  seal_copy_goes a other m k n s h region (Some (site.Io ann)) is = absurd (cc is)
  seal_copy_goes a other m k n s h region (Some (site.Block ann)) is = absurd (cc is)
  seal_copy_goes a other m k n s h region (Some (site.Copy l)) is = by_copy s.frame.copy refl
    where
      by_copy : (o : Option CopyValued) → s.frame.copy ≡ o → DoneGoes p Safe d a e (Now m m) (λ w s. Now m m s × ToMay m k s) (have o (λ v. sealed k (puts_class k v.class ∷ puts_to k v.to ∷ puts_from k v.from ∷ puts_length k v.length ∷ puts_flag k s.epoch ∷ []))) s
      by_copy None there = tt
      by_copy (Some v) there =
          let may : May m v.to.array = h.copy v there in
          let with_to = to_open p.plan.scheme c t number (at_task p.plan.firsts number []) e m m k v.to (view s) (subst (λ j. May j v.to.array) region may) h in
          let s' = after_write c.arrays (puts_length k v.length) (after_write c.arrays (puts_from k v.from) (after_write c.arrays (puts_to k v.to) (after_write c.arrays (puts_class k v.class) s))) in
          let recorded : ToMay m k s' = (λ at is. subst (λ z. May m z.array) (recorded_is k v.to s.cells.to at is) may) in
          let last = flag_now m m k s.epoch s' (omega arith) (λ copy holds at is. subst (λ j. May j at.array) region (recorded at is)) with_to in
          let class_quiet = silent_quiet p Safe a (puts_class k v.class) (λ is aside. aside) in
          let to_quiet = silent_quiet p Safe a (puts_to k v.to) (λ is aside. aside) in
          let from_quiet = silent_quiet p Safe a (puts_from k v.from) (λ is aside. aside) in
          let length_quiet = silent_quiet p Safe a (puts_length k v.length) (λ is aside. aside) in
          let flag_quiet = writing_quiet p Safe a (puts_flag k s.epoch) (seals k) tt (λ is aside. aside) in
          ((class_quiet, h, (to_quiet, with_to, (from_quiet, with_to, (length_quiet, with_to, (flag_quiet, last, tt))))), (last, recorded), λ b. absurd (other b))

  -- ---- words

  pub write_keeps : (a : Act) → Other a → (m : ℕ) (s : State) → Now m m s → DoneKeeps p Safe d a (Now m m) (λ w. Now m m) (have s.frame.target (λ target. write_done c target s))
  write_keeps a other m s h = have_keeps a (Now m m) (λ w. Now m m) s.frame.target _ by_target
    where
      by_target : (o : Option Place) → s.frame.target ≡ Some o → DoneKeeps p Safe d a (Now m m) (λ w. Now m m) (write_done c o s)
      by_target None is = (tt, λ s' h'. h', other)
      by_target (Some at) is = have_keeps a (Now m m) (λ w. Now m m) s.frame.word _ (λ word there.
          words_keep a other m m s h (sets at word ∷ []) (put_word at word s.store) (const_put c at word s.store (h.target at is).1 h.constants) (h.target at is, tt) (put_long at word s.store) refl)

  pub across_keeps : (a : Act) → Other a → (m k : ℕ) (s : State) → Now m m s → DoneKeeps p Safe d a (Now m m) (λ w. Now m m) (transfer_done d Across k s)
  across_keeps a other m k s h = have_keeps a (Now m m) (λ w. Now m m) s.frame.copy _ (λ v is.
      words_shown_keep a other m m s h (move_writes v.length v.to v.from s.store) _ (move_words v.length v.to v.from s.store) (moved_const c v.length v.to v.from s.store (h.copy v is).1 h.constants) tt (moves_may (May m) v.length v.to v.from s.store (h.copy v is))
      (moved_long v.length v.to v.from s.store) (moved_pointers v.length v.to v.from s.store))

  pub to_kept_keeps : (a : Act) → Other a → (m r k : ℕ) (s : State) → Now m r s → DoneKeeps p Safe d a (Now m r) (λ w. Now m r) (transfer_done d ToKept k s)
  to_kept_keeps a other m r k s h = have_keeps a (Now m r) (λ w. Now m r) s.frame.copy _ (λ v is. (all_shown a m r _ tt _ (kept_keep m r (kept_at d k) (words_at s.store v.from v.length)), λ s' h'. h', other))

  pub from_kept_keeps : (a : Act) → Other a → (m r k : ℕ) (s : State) → Now m r s → ToMay m k s → DoneKeeps p Safe d a (Now m r) (λ w. Now m r) (transfer_done d FromKept k s)
  from_kept_keeps a other m r k s h to_may = have_keeps a (Now m r) (λ w. Now m r) (s.cells.to k) _ (λ to is.
      words_shown_keep a other m r s h (put_writes to (recorded_words d k s)) _ (put_words to (recorded_words d k s) s.store) (put_all_const c to (recorded_words d k s) s.store (to_may to is).1 h.constants) tt (puts_may (May m) to (recorded_words d k s) (to_may to is))
      (put_all_long to (recorded_words d k s) s.store) (put_all_pointers to (recorded_words d k s) s.store))

  pub put_keeps : (a : Act) → Other a → (m r k : ℕ) (s : State) → Now m r s → ToMay m k s → DoneKeeps p Safe d a (Now m r) (λ w. Now m r) (put_done d k s)
  put_keeps a other m r k s h to_may = have_keeps a (Now m r) (λ w. Now m r) (s.cells.to k) _ (λ to is.
      let words = recorded_words d k s in (
        (shown_keeps a m r _ tt, all_silent a m r _ (homes_keep m r (put_writes to words) (puts_may (May m) to words (to_may to is)))),
        λ s' h'. left_now m r s.store (put_words to words s.store) (put_all_const c to words s.store (to_may to is).1 h.constants) (put_all_long to words s.store) h.shaped.count (same_within s.store (put_words to words s.store) (put_all_pointers to words s.store) h.pointers) s' h',
        other,
      ))

  pub keep_keeps : (a : Act) → Other a → (m r k : ℕ) (s : State) → Now m r s → DoneKeeps p Safe d a (Now m r) (λ w. Now m r) (keep_done d k s)
  keep_keeps a other m r k s h = have_keeps a (Now m r) (λ w. Now m r) s.frame.copy _ (λ v is. (all_silent a m r _ (kept_keep m r (kept_at d k) (words_at s.store v.to v.length)), λ s' h'. h', other))
