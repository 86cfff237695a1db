-- A statement without sites writes no array but those that it may write, and keeps pointers at what they may point to.
use Rattle.std.proofs.Common.{◌≡◌, ◌∙◌, ◌⊎◌, inl, inr, ℕ, zero, suc, ◌+◌, Bool, true, false, ◌==◌, ◌||◌, List, [], ◌∷◌, ◌++◌, length, map, get_or, set, refl, sym, ap, subst, eqb-true, length-set}
use Rattle.std.specs.Prelude.{Option, Some, None, Result, Ok, Err, nat_lt, if◌then◌else◌}
use Rattle.std.specs.List.{AllByRecursion}
use Rattle.std.proofs.lemmas.Bool.{or_left}
use Rattle.task_ast.specs.declared.core_form.CoreTarget.{CoreTarget}
use Rattle.task_ast.specs.declared.core_form.CoreTarget.TheVariants as target
use Rattle.task_ast.specs.declared.core_form.CoreStmt.{CoreStmt, Row_of-CoreStmt, end_of-CoreStmt, more_of-CoreStmt}
use Rattle.task_ast.specs.declared.core_form.CoreStmt.TheVariants as stmt
use Rattle.task_ast.specs.declared.core_form.Core.{Core}
use Rattle.task_ast.specs.Pointing.{Pointing, target_arrays, addresses, row_addresses}
use Rattle.io_depend.specs.Sets.{has}
use Rattle.region_split.specs.Regions.{Touch, may_write, next_region, touches, row_touches}
use Rattle.walk_run.specs.declared.trap.Trap.{Trap}
use Rattle.walk_run.specs.declared.trap.Trap.TheVariants.{Index}
use Rattle.walk_run.specs.declared.place.Place.{Place}
use Rattle.walk_run.specs.Store.{Store, place, words_of, put_word, put_pointer, pointed}
use Rattle.walk_run.specs.Value.{value_of, place_in, place_behind, cell_place, through_place, target_place}
use Rattle.walk_run.specs.Plain.{Ran, done, trapped, store_left, if_found, and_then, chosen, set_variable, turns_done, plain_done, row_done}
use Rattle.walk_run.specs.PlainWrites.{Write, sets, points, found_writes, next_writes, turns_writes, plain_writes, row_writes}
use Rattle.walk_run.specs.Laws.{HasItsConstants}
use Rattle.plan_restore.proofs.Puts.{NotConst, const_put}
use Rattle.plan_restore.proofs.Lists.{all_joined, all_parts, is_itself, has_front, has_behind}

-- each pointer points to nothing or to an array to which it may point
abbrev pub AllWithin : Pointing → Store → Type 0
AllWithin may store = (p : ℕ) (at : Place) → pointed store p ≡ Some at → has (may p) at.array ≡ true

-- a touch writes where a claim holds
abbrev pub TouchMay : (W : ℕ → Type 0) → Touch → Type 0
TouchMay W (may_write a) = W a
TouchMay W next_region = Unit {0}

-- so does a write
abbrev pub WriteMay : (W : ℕ → Type 0) → Write → Type 0
WriteMay W (sets at word) = W at.array
WriteMay W (points p at) = Unit {0}

-- arrays that are touched
pub touched_may : (W : ℕ → Type 0) (arrays : List ℕ) → AllByRecursion (TouchMay W) (map may_write arrays) → (a : ℕ) → has arrays a ≡ true → W a
touched_may W [] all a there = absurd (cc there)
touched_may W (x ∷ arrays) all a there = by_test (x == a) refl (touched_may W arrays all.1 a)
  where
    by_test : (b : Bool) → (x == a) ≡ b → (has arrays a ≡ true → W a) → W a
    by_test true is more = subst W (eqb-true x a is) all.0
    by_test false is more = more (sym (ap (λ t. t || has arrays a) is) ∙ there)

-- ---- places that are found

-- what was found
abbrev pub as_found : {A : Type 0} → A → Result A Trap
as_found x = Ok x

pub ok_is : {A : Type 0} (x y : A) → as_found x ≡ as_found y → x ≡ y
ok_is x y e = ap (λ r. out r x) e
  where
    out : {A : Type 0} → Result A Trap → A → A
    out (Err why) d = d
    out (Ok v) d = v

in_array : (store : Store) (array index : ℕ) (at : Place) → place_in store array index ≡ Ok at → at.array ≡ array
in_array store array index at is = by_test (nat_lt index (length (words_of store array))) is
  where
    by_test : (b : Bool) → (if b then as_found (place array index) else Err Index) ≡ Ok at → at.array ≡ array
    by_test true found = ap (λ p. p.array) (sym (ok_is (place array index) at found))
    by_test false found = absurd (cc found)

pub cell_array : (store : Store) (array : ℕ) (index : Result ℕ Trap) (at : Place) → cell_place store array index ≡ Ok at → at.array ≡ array
cell_array store array (Ok i) at is = in_array store array i at is
cell_array store array (Err why) at is = absurd (cc is)

behind_array : (may : Pointing) (store : Store) (p index : ℕ) (at : Place) → AllWithin may store → place_behind store (pointed store p) index ≡ Ok at → has (may p) at.array ≡ true
behind_array may store p index at within is = by_pointed (pointed store p) refl is
  where
    by_pointed : (o : Option Place) → pointed store p ≡ o → place_behind store o index ≡ Ok at → has (may p) at.array ≡ true
    by_pointed None leads found = absurd (cc found)
    by_pointed (Some to) leads found = subst (λ a. has (may p) a ≡ true) (sym (in_array store to.array (to.index + index) at found)) (within p to leads)

through_array : (may : Pointing) (store : Store) (p : ℕ) (index : Result ℕ Trap) (at : Place) → AllWithin may store → through_place store p index ≡ Ok at → has (may p) at.array ≡ true
through_array may store p (Ok i) at within is = behind_array may store p i at within is
through_array may store p (Err why) at within is = absurd (cc is)

pub one_array : (array a : ℕ) → a ≡ array → has (array ∷ []) a ≡ true
one_array array a is = or_left (array == a) false (ap (λ x. array == x) is ∙ is_itself array)

-- the place of a target is in an array that it may be in
pub target_array : (may : Pointing) (t : CoreTarget) (store : Store) (at : Place) → AllWithin may store → target_place t store ≡ Ok at → has (target_arrays may t) at.array ≡ true
target_array may (target.Cell array index) store at within is = one_array array at.array (cell_array store array (value_of index store) at is)
target_array may (target.Through p index) store at within is = through_array may store p (value_of index store) at within is

-- ---- pointers

-- a pointer after one is set: the place that was set, or what it was
set_either : (ps : List (Option Place)) (p q : ℕ) (at to : Place) → get_or (set ps p (Some at)) q None ≡ Some to → ((q ≡ p) × (to ≡ at)) ⊎ (get_or ps q None ≡ Some to)
set_either [] p q at to is = inr is
set_either (x ∷ ps) zero zero at to is = inl (refl, cc)
set_either (x ∷ ps) zero (suc q) at to is = inr is
set_either (x ∷ ps) (suc p) zero at to is = inr is
set_either (x ∷ ps) (suc p) (suc q) at to is = elim (set_either ps p q at to is) [ inl same ↦ inl (ap suc same.0, same.1) | inr before ↦ inr before ]

pub point_within : (may : Pointing) (p : ℕ) (at : Place) (store : Store) → AllWithin may store → has (may p) at.array ≡ true → AllWithin may (put_pointer p at store)
point_within may p at store within there q to is = either (set_either store.pointers p q at to is)
  where
    either : ((q ≡ p) × (to ≡ at)) ⊎ (pointed store q ≡ Some to) → has (may q) to.array ≡ true
    either (inl same) = subst (λ k. has (may k) to.array ≡ true) (sym same.0) (subst (λ x. has (may p) x.array ≡ true) (sym same.1) there)
    either (inr before) = within q to before

-- ---- statements

module _ (c : Core) (may : Pointing) (W : ℕ → Type 0) (solid : (a : ℕ) → W a → NotConst c a) where
  -- writes that may be, and a store that is left with pointers at what they may point to and with as many arrays
  pub record Does (store : Store) (writes : List Write) (r : Ran) : Type 0 where
    pub writable : AllByRecursion (WriteMay W) writes
    pub within : AllWithin may (store_left r)
    pub many : length (store_left r).words ≡ length store.words
    pub constants : HasItsConstants c store → HasItsConstants c (store_left r)

  found_does : {A : Type 0} (r : Result A Trap) (store : Store) (writes : A → List Write) (go : A → Ran) → AllWithin may store → ((x : A) → r ≡ Ok x → Does store (writes x) (go x))
      → Does store (found_writes r writes) (if_found r store go)
  found_does (Ok x) store writes go within does = does x refl
  found_does (Err why) store writes go within does = record { writable = tt; within = within; many = refl; constants = λ h. h }

  chosen_does : (word : ℕ) (store : Store) (a b : Store → List Write) (f g : Store → Ran) → Does store (a store) (f store) → Does store (b store) (g store) → Does store (chosen word a b store) (chosen word f g store)
  chosen_does zero store a b f g yes_does no_does = no_does
  chosen_does (suc n) store a b f g yes_does no_does = yes_does

  next_does : (front : List Write) (store : Store) (r : Ran) (writes : Store → List Write) (go : Store → Ran) → Does store front r → ((s : Store) → AllWithin may s → Does s (writes s) (go s))
      → Does store (front ++ next_writes r writes) (and_then r go)
  next_does front store (done s) writes go first rest = let more = rest s first.within in
      record { writable = all_joined (WriteMay W) front (writes s) first.writable more.writable; within = more.within; many = more.many ∙ first.many; constants = λ h. more.constants (first.constants h) }
  next_does front store (trapped why s) writes go first rest = record { writable = all_joined (WriteMay W) front [] first.writable tt; within = first.within; many = first.many; constants = first.constants }

  -- a word more in front
  set_first : (at : Place) (word : ℕ) (store : Store) (writes : List Write) (r : Ran) → W at.array → Does (put_word at word store) writes r → Does store (sets at word ∷ writes) r
  set_first at word store writes r there does = record {
    writable = (there, does.writable);
    within = does.within;
    many = does.many ∙ length-set store.words at.array (set (words_of store at.array) at.index word);
    constants = λ h. does.constants (const_put c at word store (solid at.array there) h);
  }

  turns_do : (body : Store → Ran) (writes : Store → List Write) → ((s : Store) → AllWithin may s → Does s (writes s) (body s)) → (variable : ℕ) → W variable → (number left : ℕ) (store : Store) → AllWithin may store
      → Does store (turns_writes body writes variable number left store) (turns_done body variable number left store)
  turns_do body writes does variable there number zero store within =
      set_first (place variable 0) number store [] (done (set_variable variable number store)) there (record { writable = tt; within = within; many = refl; constants = λ h. h })
  turns_do body writes does variable there number (suc left) store within =
      let s = set_variable variable number store in
      set_first (place variable 0) number store _ _ there
      (next_does (writes s) s (body s) _ (turns_done body variable (number + 1) left) (does s within) (turns_do body writes does variable there (number + 1) left))

  -- what a part gives to pointers, they may point to
  abbrev Given : (ℕ → List ℕ) → Type 0
  Given given = (p a : ℕ) → has (given p) a ≡ true → has (may p) a ≡ true

  mutual
    pub plain_writes_may : (s : CoreStmt) → AllByRecursion (TouchMay W) (touches may s) → Given (λ p. addresses p s) → (store : Store) → AllWithin may store → Does store (plain_writes s store) (plain_done s store)
    plain_writes_may (stmt.Assign x e) all given store within =
        found_does (target_place x store) store _ _ within (λ at is. found_does (value_of e store) store _ _ within (λ word valued.
        set_first at word store [] (done (put_word at word store)) (touched_may W (target_arrays may x) all at.array (target_array may x store at within is)) (record { writable = tt; within = within; many = refl; constants = λ h. h })))
    plain_writes_may (stmt.Point p array i) all given store within =
        found_does (cell_place store array (value_of i store)) store _ _ within (λ at is. record {
          writable = (tt, tt);
          within = point_within may p at store within (given p at.array (subst (λ b. has (if b then array ∷ [] else []) at.array ≡ true) (sym (is_itself p)) (one_array array at.array (cell_array store array (value_of i store) at is))));
          many = refl;
          constants = λ h. h;
        })
    plain_writes_may (stmt.If' condition m yes_row n no_row) all given store within =
        let parts = all_parts (TouchMay W) (row_touches may yes_row) (row_touches may no_row) all in
        found_does (value_of condition store) store _ _ within (λ word valued. chosen_does word store (row_writes yes_row) (row_writes no_row) (row_done yes_row) (row_done no_row)
        (row_writes_may yes_row parts.0 (λ p a there. given p a (has_front (row_addresses p yes_row) (row_addresses p no_row) a there)) store within)
        (row_writes_may no_row parts.1 (λ p a there. given p a (has_behind (row_addresses p yes_row) (row_addresses p no_row) a there)) store within))
    plain_writes_may (stmt.Loop' variable turns m row) all given store within =
        turns_do (row_done row) (row_writes row) (row_writes_may row all.1 given) variable all.0 0 turns store within
    plain_writes_may (stmt.Io k x p args) all given store within = record { writable = tt; within = within; many = refl; constants = λ h. h }
    plain_writes_may (stmt.Block' k m row) all given store within = record { writable = tt; within = within; many = refl; constants = λ h. h }
    plain_writes_may (stmt.Copy k to from n) all given store within = record { writable = tt; within = within; many = refl; constants = λ h. h }

    pub row_writes_may : {n : _} (row : Row_of-CoreStmt n) → AllByRecursion (TouchMay W) (row_touches may row) → Given (λ p. row_addresses p row) → (store : Store) → AllWithin may store → Does store (row_writes row store) (row_done row store)
    row_writes_may end_of-CoreStmt all given store within = record { writable = tt; within = within; many = refl; constants = λ h. h }
    row_writes_may (more_of-CoreStmt s rest) all given store within =
        let parts = all_parts (TouchMay W) (touches may s) (row_touches may rest) all in
        next_does (plain_writes s store) store (plain_done s store) (row_writes rest) (row_done rest)
        (plain_writes_may s parts.0 (λ p a there. given p a (has_front (addresses p s) (row_addresses p rest) a there)) store within)
        (row_writes_may rest parts.1 (λ p a there. given p a (has_behind (addresses p s) (row_addresses p rest) a there)))
