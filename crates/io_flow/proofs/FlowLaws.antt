-- What doesn't carry a site's word is the same in two runs that differ by that word.
use Rattle.io_flow.specs.Written.{Includes, IsIn, IsWithin, or_assoc, or_left, or_right, target_is_in}
use Rattle.std.proofs.Common.{◌≡◌, ℕ, ◌+◌, Bool, true, false, ◌||◌, ◌==◌, cond, ltb, List, [], ◌∷◌, length, get_or, set, Option, Some, None, Result, Ok, Err, refl, sym, ap, ap₂, subst, ◌∙◌, eqb-true, eq-eqb, length-set, get_or-set_other, if◌then◌else◌}
use Rattle.std.specs.List.{list_any}
use Rattle.std.specs.Prelude.{⊤}
use Rattle.std.proofs.lemmas.Bool.{eqb-false}
use Rattle.walk_run.specs.declared.trap.Trap.TheVariants.{Index}
use Rattle.walk_run.specs.StoreLaws.{words_same}
use Rattle.ease_base.specs.Found.{with_found}
use Rattle.io_depend.specs.Flow.{Carrying, carries, into_arrays, one_carries, passed, target_carries, through_carries}
use Rattle.io_depend.specs.Sets.{has, joined, with_one}
use Rattle.task_ast.specs.Pointing.{Pointing, target_arrays}
use Rattle.task_ast.specs.declared.core_form.CoreExpr.{CoreExpr, end_of-CoreExpr, more_of-CoreExpr}
use Rattle.task_ast.specs.declared.core_form.CoreTarget.{CoreTarget}
use Rattle.walk_run.specs.Operators.{two_values}
use Rattle.walk_run.specs.Plain.{Ran, assigned, done, if_found, trapped}
use Rattle.walk_run.specs.Store.{Store, place, pointed, put_word, words_of}
use Rattle.walk_run.specs.Value.{place_behind, place_in, target_place, value_of, word_found}
use Rattle.walk_run.specs.declared.place.Place.{Place}
use Rattle.walk_run.specs.declared.trap.Trap.{Trap}
use Rattle.task_ast.specs.declared.core_form.CoreExpr.TheVariants as expr
use Rattle.task_ast.specs.declared.core_form.CoreTarget.TheVariants as target
use Rattle.task_ast.specs.declared.core_form.CoreStmt.TheVariants as stmt

-- ---- lists of numbers

pub or_false : (a b : Bool) → (a || b) ≡ false → (a ≡ false) × (b ≡ false)
or_false true b is = absurd (cc is)
or_false false b is = (refl, is)

has-with_one : (x : ℕ) (xs : List ℕ) (n : ℕ) → has (with_one x xs) n ≡ ((x == n) || has xs n)
has-with_one x xs n = by_there (has xs x) refl
  where
    by_equal : (b : Bool) → (x == n) ≡ b → has xs x ≡ true → has xs n ≡ (b || has xs n)
    by_equal true is there = ap (has xs) (sym (eqb-true x n is)) ∙ there
    by_equal false is there = refl

    by_there : (b : Bool) → has xs x ≡ b → has (cond b xs (x ∷ xs)) n ≡ ((x == n) || has xs n)
    by_there true there = by_equal (x == n) refl there
    by_there false there = refl

pub has-joined : (xs ys : List ℕ) (n : ℕ) → has (joined xs ys) n ≡ (has xs n || has ys n)
has-joined [] ys n = refl
has-joined (x ∷ xs) ys n = has-with_one x (joined xs ys) n ∙ ap (λ b. (x == n) || b) (has-joined xs ys n) ∙ or_assoc (x == n) (has xs n) (has ys n)

pub joined_left : (xs ys : List ℕ) → Includes xs (joined xs ys)
joined_left xs ys n there = has-joined xs ys n ∙ or_left (has xs n) (has ys n) there

pub joined_right : (xs ys : List ℕ) → Includes ys (joined xs ys)
joined_right xs ys n there = has-joined xs ys n ∙ or_right (has xs n) (has ys n) there

-- what is in no larger list is in none
pub not_in : (xs ys : List ℕ) → Includes xs ys → (n : ℕ) → has ys n ≡ false → has xs n ≡ false
not_in xs ys all n clean = by_there (has xs n) refl
  where
    by_there : (q : Bool) → has xs n ≡ q → q ≡ false
    by_there true is = absurd (let e : true ≡ false = sym (all n is) ∙ clean in cc e)
    by_there false is = refl

-- what is in neither list
pub out_of_joined : (xs ys : List ℕ) (n : ℕ) → has (joined xs ys) n ≡ false → (has xs n ≡ false) × (has ys n ≡ false)
out_of_joined xs ys n out = or_false (has xs n) (has ys n) (sym (has-joined xs ys n) ∙ out)

-- a test that no number of a list passes
pub none_passes : (test : ℕ → Bool) (xs : List ℕ) (n : ℕ) → list_any test xs ≡ false → has xs n ≡ true → test n ≡ false
none_passes test [] n fails there = absurd (cc there)
none_passes test (x ∷ xs) n fails there = by_equal (x == n) refl there (λ t. none_passes test xs n (or_false (test x) (list_any test xs) fails).1 t)
  where
    by_equal : (b : Bool) → (x == n) ≡ b → (b || has xs n) ≡ true → (has xs n ≡ true → test n ≡ false) → test n ≡ false
    by_equal true is there' rest = ap test (sym (eqb-true x n is)) ∙ (or_false (test x) (list_any test xs) fails).0
    by_equal false is there' rest = rest there'

-- ---- two stores that are the same but for what carries

pub record Same (points : Pointing) (c : Carrying) (x y : Store) : Type 0 where
  pub words : (a : ℕ) → has c.arrays a ≡ false → words_of x a ≡ words_of y a
  pub rooms : (a : ℕ) → length (words_of x a) ≡ length (words_of y a)
  pub places : (p : ℕ) → has c.pointers p ≡ false → pointed x p ≡ pointed y p
  pub many : length x.pointers ≡ length y.pointers
  pub within : (p : ℕ) → IsWithin (points p) (pointed x p)
  pub within' : (p : ℕ) → IsWithin (points p) (pointed y p)

-- a word of an array, by its words and its length
abbrev word_in : List ℕ → ℕ → Result ℕ Trap
word_in ws i = if ltb i (length ws) then Ok (get_or ws i 0) else Err Index

word_found_in : (s : Store) (a i : ℕ) → word_found s (place_in s a i) ≡ word_in (words_of s a) i
word_found_in s a i = by_room (ltb i (length (words_of s a)))
  where
    by_room : (b : Bool) → word_found s (if b then Ok (place a i) else Err Index) ≡ (if b then Ok (get_or (words_of s a) i 0) else Err Index)
    by_room true = refl
    by_room false = refl

pub found_same : {A B : Type 0} (r q : Result A Trap) (f g : A → Result B Trap) → r ≡ q → ((a : A) → f a ≡ g a) → with_found r f ≡ with_found q g
found_same {A} {B} r q f g is same = by_case r ∙ ap (λ r. with_found r g) is
  where
    by_case : (r : Result A Trap) → with_found r f ≡ with_found r g
    by_case (Ok a) = same a
    by_case (Err code) = refl

-- a word at a place that is found by an index
twice_found : (r : Result ℕ Trap) (f : ℕ → Result Place Trap) (s : Store) → word_found s (with_found r f) ≡ with_found r (λ i. word_found s (f i))
twice_found (Ok i) f s = refl
twice_found (Err code) f s = refl

module _ (points : Pointing) (c : Carrying) (x y : Store) (same : Same points c x y) where
  cell_same : (a i : ℕ) → has c.arrays a ≡ false → word_found x (place_in x a i) ≡ word_found y (place_in y a i)
  cell_same a i clean = word_found_in x a i ∙ ap (λ ws. word_in ws i) (same.words a clean) ∙ sym (word_found_in y a i)

  pub place_same : (a i : ℕ) → place_in x a i ≡ place_in y a i
  place_same a i = ap (λ n. if ltb i n then Ok (place a i) else Err Index) (same.rooms a)

  behind_word_same : (o : Option Place) (arrays : List ℕ) (i : ℕ) → IsWithin arrays o → one_carries c arrays ≡ false → word_found x (place_behind x o i) ≡ word_found y (place_behind y o i)
  behind_word_same None arrays i within clean = refl
  behind_word_same (Some at) arrays i within clean = cell_same at.array (at.index + i) (none_passes (has c.arrays) arrays at.array clean within)

  behind_same : (o : Option Place) (i : ℕ) → place_behind x o i ≡ place_behind y o i
  behind_same None i = refl
  behind_same (Some at) i = place_same at.array (at.index + i)

  -- an expression that reads nothing that carries
  pub value_same : (e : CoreExpr) → carries points c e ≡ false → value_of e x ≡ value_of e y
  value_same (expr.Number word) clean = refl
  value_same (expr.Cell' a size (more_of-CoreExpr i end_of-CoreExpr)) clean =
      let both = or_false (has c.arrays a) (carries points c i) clean in
      twice_found (value_of i x) (place_in x a) x ∙ found_same _ _ _ _ (value_same i both.1) (λ k. cell_same a k both.0) ∙ sym (twice_found (value_of i y) (place_in y a) y)
  value_same (expr.Through' p size (more_of-CoreExpr i end_of-CoreExpr)) clean =
      let both = or_false (through_carries points c p) (carries points c i) clean in
      let through = or_false (has c.pointers p) (one_carries c (points p)) both.0 in
      twice_found (value_of i x) (place_behind x (pointed x p)) x
      ∙ found_same _ _ _ _ (value_same i both.1)
      (λ k. behind_word_same (pointed x p) (points p) k (same.within p) through.1 ∙ ap (λ o. word_found y (place_behind y o k)) (same.places p through.0))
      ∙ sym (twice_found (value_of i y) (place_behind y (pointed y p)) y)
  value_same (expr.One' op size (more_of-CoreExpr e end_of-CoreExpr)) clean = found_same _ _ _ _ (value_same e clean) (λ w. refl)
  value_same (expr.Two' op size_a (more_of-CoreExpr a end_of-CoreExpr) size_b (more_of-CoreExpr b end_of-CoreExpr)) clean =
      let both = or_false (carries points c a) (carries points c b) clean in
      ap₂ (two_values op) (value_same a both.0) (value_same b both.1)

  -- a target whose place is found by nothing that carries
  pub target_same : (t : CoreTarget) → target_carries points c t ≡ false → target_place t x ≡ target_place t y
  target_same (target.Cell a i) clean = found_same _ _ _ _ (value_same i clean) (λ k. place_same a k)
  target_same (target.Through p i) clean =
      let both = or_false (has c.pointers p) (carries points c i) clean in
      found_same _ _ _ _ (value_same i both.1) (λ k. behind_same (pointed x p) k ∙ ap (λ o. place_behind y o k) (same.places p both.0))

-- ---- one word written

pub put_other : (at : Place) (w : ℕ) (s : Store) (b : ℕ) → (at.array == b) ≡ false → words_of (put_word at w s) b ≡ words_of s b
put_other at w s b other = get_or-set_other s.words at.array b _ [] (λ e. eqb-false at.array b other (sym e))

put_there : (at : Place) (w : ℕ) (s : Store) (b : ℕ) → (at.array == b) ≡ true → words_of (put_word at w s) b ≡ set (words_of s b) at.index w
put_there at w s b is =
    let e : at.array ≡ b = eqb-true at.array b is in
    subst (λ a. words_of (put_word at w s) a ≡ set (words_of s a) at.index w) e (words_same at w s)

pub put_room : (at : Place) (w : ℕ) (s : Store) (b : ℕ) → length (words_of (put_word at w s) b) ≡ length (words_of s b)
put_room at w s b = by_equal (at.array == b) refl
  where
    by_equal : (q : Bool) → (at.array == b) ≡ q → length (words_of (put_word at w s) b) ≡ length (words_of s b)
    by_equal true is = ap length (put_there at w s b is) ∙ length-set (words_of s b) at.index w
    by_equal false is = ap length (put_other at w s b is)

-- the same word put to the same place
put_alike : (at : Place) (w : ℕ) (x y : Store) (b : ℕ) → words_of x b ≡ words_of y b → words_of (put_word at w x) b ≡ words_of (put_word at w y) b
put_alike at w x y b is = by_equal (at.array == b) refl
  where
    by_equal : (q : Bool) → (at.array == b) ≡ q → words_of (put_word at w x) b ≡ words_of (put_word at w y) b
    by_equal true there = put_there at w x b there ∙ ap (λ ws. set ws at.index w) is ∙ sym (put_there at w y b there)
    by_equal false other = put_other at w x b other ∙ is ∙ sym (put_other at w y b other)

pub put_same : (points : Pointing) (c : Carrying) (x y : Store) (at : Place) (w : ℕ) → Same points c x y → Same points c (put_word at w x) (put_word at w y)
put_same points c x y at w same = record {
  words = λ a clean. put_alike at w x y a (same.words a clean);
  rooms = λ a. put_room at w x a ∙ same.rooms a ∙ sym (put_room at w y a);
  places = same.places;
  many = same.many;
  within = same.within;
  within' = same.within';
}

-- words put into arrays that carry from now on
pub clean_of : (arrays more : List ℕ) (a b : ℕ) → has arrays a ≡ true → has (joined arrays more) b ≡ false → (a == b) ≡ false
clean_of arrays more a b there clean = by_equal (a == b) refl
  where
    by_equal : (q : Bool) → (a == b) ≡ q → q ≡ false
    by_equal true is = absurd (let e : true ≡ false = sym there ∙ ap (has arrays) (eqb-true a b is) ∙ (out_of_joined arrays more b clean).0 in cc e)
    by_equal false is = refl

pub put_into_carrying : (points : Pointing) (c : Carrying) (x y : Store) (arrays : List ℕ) (at at' : Place) (w w' : ℕ) → has arrays at.array ≡ true → has arrays at'.array ≡ true
    → Same points c x y → Same points (record c { arrays = joined arrays c.arrays }) (put_word at w x) (put_word at' w' y)
put_into_carrying points c x y arrays at at' w w' there there' same = record {
  words = λ a clean.
      put_other at w x a (clean_of arrays c.arrays at.array a there clean)
      ∙ same.words a (out_of_joined arrays c.arrays a clean).1
      ∙ sym (put_other at' w' y a (clean_of arrays c.arrays at'.array a there' clean));
  rooms = λ a. put_room at w x a ∙ same.rooms a ∙ sym (put_room at' w' y a);
  places = same.places;
  many = same.many;
  within = same.within;
  within' = same.within';
}

-- ---- statements

-- where both end, their stores are the same but for what carries
abbrev pub Both : Pointing → Carrying → Ran → Ran → Type 0
Both points c (done x) (done y) = Same points c x y
Both points c (done x) (trapped code y) = ⊤
Both points c (trapped code x) q = ⊤

pub both_trapped : (points : Pointing) (c : Carrying) (r : Ran) (code : Trap) (y : Store) → Both points c r (trapped code y)
both_trapped points c (done x) code y = tt
both_trapped points c (trapped code' x) code y = tt

pub both_same : {A : Type 0} (points : Pointing) (c : Carrying) (x y : Store) (r q : Result A Trap) (f g : A → Ran) → r ≡ q → ((a : A) → Both points c (f a) (g a)) → Both points c (if_found r x f) (if_found q y g)
both_same {A} points c x y r q f g is both = subst (λ q. Both points c (if_found r x f) (if_found q y g)) is (by_case r)
  where
    by_case : (r : Result A Trap) → Both points c (if_found r x f) (if_found r y g)
    by_case (Ok a) = both a
    by_case (Err code) = tt

pub both_any : {A : Type 0} (points : Pointing) (c : Carrying) (x y : Store) (P : Result A Trap → Type 0) (r q : Result A Trap) (f g : A → Ran) → P r → P q → ((a b : A) → P (Ok a) → P (Ok b) → Both points c (f a) (g b)) → Both points c (if_found r x f) (if_found q y g)
both_any points c x y P (Ok a) (Ok b) f g in_r in_q both = both a b in_r in_q
both_any points c x y P (Ok a) (Err code) f g in_r in_q both = both_trapped points c (f a) code y
both_any points c x y P (Err code) q f g in_r in_q both = tt

pub assign_both : (points : Pointing) (sources : ℕ → Bool) (t : CoreTarget) (e : CoreExpr) (around : Bool) (c : Carrying) (x y : Store) → Same points c x y → Both points (passed points sources (stmt.Assign t e) around c) (assigned t e x) (assigned t e y)
assign_both points sources t e around c x y same = by_flow (around || (target_carries points c t || carries points c e)) refl
  where
    arrays : List ℕ
    arrays = target_arrays points t

    by_flow : (b : Bool) → (around || (target_carries points c t || carries points c e)) ≡ b → Both points (into_arrays b arrays c) (assigned t e x) (assigned t e y)
    by_flow true is =
        both_any points _ x y (IsIn arrays) (target_place t x) (target_place t y) _ _ (target_is_in points t x same.within) (target_is_in points t y same.within')
        (λ at at' there there'. both_any points _ x y (λ r. ⊤) (value_of e x) (value_of e y) _ _ tt tt (λ w w' _ _. put_into_carrying points c x y arrays at at' w w' there there' same))
    by_flow false is =
        let parts = or_false (target_carries points c t) (carries points c e) (or_false around _ is).1 in
        both_same points c x y (target_place t x) (target_place t y) _ _ (target_same points c x y same t parts.0)
        (λ at. both_same points c x y (value_of e x) (value_of e y) _ _ (value_same points c x y same e parts.1) (λ w. put_same points c x y at w same))
