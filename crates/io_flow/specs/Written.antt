-- Statements without sites write only the arrays that they assign, and move only the pointers that they move.
use Rattle.std.proofs.Common.{◌≡◌, ◌≢◌, ℕ, zero, suc, ◌+◌, Bool, true, false, ◌||◌, ◌==◌, cond, ltb, List, [], ◌∷◌, ◌++◌, length, get_or, set, Option, Some, None, Result, Ok, Err, refl, sym, ap, subst, ◌∙◌, eqb-true, eq-eqb, arith, length-set, get_or-set_other, if◌then◌else◌}
use Rattle.std.specs.Prelude.{⊤}
use Rattle.std.proofs.lemmas.Bool.{eqb-false}
use Rattle.ease_base.specs.Found.{with_found}
use Rattle.task_ast.specs.Pointing.{Pointing, addresses, row_addresses, target_arrays}
use Rattle.task_ast.specs.declared.core_form.CoreExpr.{CoreExpr}
use Rattle.task_ast.specs.declared.core_form.CoreTarget.{CoreTarget}
use Rattle.task_ast.specs.declared.core_form.CoreTarget.TheVariants as target
use Rattle.task_ast.specs.declared.core_form.CoreStmt.{CoreStmt, Row_of-CoreStmt, end_of-CoreStmt, more_of-CoreStmt}
use Rattle.task_ast.specs.declared.core_form.CoreStmt.TheVariants as stmt
use Rattle.walk_run.specs.declared.place.Place.{Place}
use Rattle.walk_run.specs.declared.trap.Trap.{Trap}
use Rattle.walk_run.specs.declared.trap.Trap.TheVariants.{Index}
use Rattle.walk_run.specs.Plain.{Ran, and_then, chosen, done, if_found, plain_done, row_done, set_variable, trapped, turns_done}
use Rattle.walk_run.specs.Store.{Store, place, pointed, put_pointer, put_word, words_of}
use Rattle.walk_run.specs.StoreLaws.{words_other, rooms_stay}
use Rattle.walk_run.specs.Value.{place_behind, place_in, target_place, value_of}
use Rattle.io_depend.specs.Flow.{assigns, moves, row_assigns, row_moves}
use Rattle.io_depend.specs.Sets.{has}

-- ---- lists of numbers

pub or_assoc : (a b c : Bool) → (a || (b || c)) ≡ ((a || b) || c)
or_assoc true b c = refl
or_assoc false b c = refl

abbrev pub Includes : List ℕ → List ℕ → Type 0
Includes xs ys = (n : ℕ) → has xs n ≡ true → has ys n ≡ true

pub or_left : (a b : Bool) → a ≡ true → (a || b) ≡ true
or_left a b is = ap (λ q. q || b) is

pub or_right : (a b : Bool) → b ≡ true → (a || b) ≡ true
or_right true b is = refl
or_right false b is = is

pub has-append : (xs ys : List ℕ) (n : ℕ) → has (xs ++ ys) n ≡ (has xs n || has ys n)
has-append [] ys n = refl
has-append (x ∷ xs) ys n = ap (λ q. (x == n) || q) (has-append xs ys n) ∙ or_assoc (x == n) (has xs n) (has ys n)

pub front_of : (xs ys zs : List ℕ) → Includes (xs ++ ys) zs → Includes xs zs
front_of xs ys zs all n there = all n (has-append xs ys n ∙ or_left (has xs n) (has ys n) there)

pub back_of : (xs ys zs : List ℕ) → Includes (xs ++ ys) zs → Includes ys zs
back_of xs ys zs all n there = all n (has-append xs ys n ∙ or_right (has xs n) (has ys n) there)

-- ---- where pointers point

-- where a pointer points, its array is one of those to which it may
abbrev pub IsWithin : List ℕ → Option Place → Type 0
IsWithin arrays None = ⊤
IsWithin arrays (Some at) = has arrays at.array ≡ true

-- a place is in one of these arrays
abbrev pub IsIn : List ℕ → Result Place Trap → Type 0
IsIn arrays (Ok at) = has arrays at.array ≡ true
IsIn arrays (Err code) = ⊤

abbrev pub AllWithin : Pointing → Store → Type 0
AllWithin points s = (p : ℕ) → IsWithin (points p) (pointed s p)

pub has_itself : (a : ℕ) → has (a ∷ []) a ≡ true
has_itself a = ap (λ b. b || false) (eq-eqb a a refl)

pub place_is_in : (s : Store) (a i : ℕ) (arrays : List ℕ) → has arrays a ≡ true → IsIn arrays (place_in s a i)
place_is_in s a i arrays there = by_room (ltb i (length (words_of s a)))
  where
    by_room : (b : Bool) → IsIn arrays (if b then Ok (place a i) else Err Index)
    by_room true = there
    by_room false = tt

pub target_is_in : (points : Pointing) (t : CoreTarget) (s : Store) → AllWithin points s → IsIn (target_arrays points t) (target_place t s)
target_is_in points (target.Cell a i) s within = by_value (value_of i s)
  where
    by_value : (r : Result ℕ Trap) → IsIn (a ∷ []) (with_found r (place_in s a))
    by_value (Ok k) = place_is_in s a k (a ∷ []) (has_itself a)
    by_value (Err code) = tt
target_is_in points (target.Through p i) s within = by_value (value_of i s)
  where
    by_pointed : (o : Option Place) (k : ℕ) → IsWithin (points p) o → IsIn (points p) (place_behind s o k)
    by_pointed None k inside = tt
    by_pointed (Some at) k inside = place_is_in s at.array (at.index + k) (points p) inside

    by_value : (r : Result ℕ Trap) → IsIn (points p) (with_found r (place_behind s (pointed s p)))
    by_value (Ok k) = by_pointed (pointed s p) k (within p)
    by_value (Err code) = tt

-- ---- statements write only what they assign

-- between two stores of a run only these arrays and these pointers have changed
pub record Only (points : Pointing) (arrays ptrs : List ℕ) (x y : Store) : Type 0 where
  pub words : (a : ℕ) → has arrays a ≡ false → words_of y a ≡ words_of x a
  pub rooms : (a : ℕ) → length (words_of y a) ≡ length (words_of x a)
  pub places : (p : ℕ) → has ptrs p ≡ false → pointed y p ≡ pointed x p
  pub many : length y.pointers ≡ length x.pointers
  pub within : AllWithin points y

pub only_none : (points : Pointing) (arrays ptrs : List ℕ) (x : Store) → AllWithin points x → Only points arrays ptrs x x
only_none points arrays ptrs x within = record { words = λ a clean. refl; rooms = λ a. refl; places = λ p clean. refl; many = refl; within = within }

pub only_twice : (points : Pointing) (arrays ptrs : List ℕ) (x y z : Store) → Only points arrays ptrs x y → Only points arrays ptrs y z → Only points arrays ptrs x z
only_twice points arrays ptrs x y z a b = record {
  words = λ n clean. b.words n clean ∙ a.words n clean;
  rooms = λ n. b.rooms n ∙ a.rooms n;
  places = λ p clean. b.places p clean ∙ a.places p clean;
  many = b.many ∙ a.many;
  within = b.within;
}

pub only_put : (points : Pointing) (arrays ptrs : List ℕ) (at : Place) (w : ℕ) (x : Store) → AllWithin points x → has arrays at.array ≡ true → Only points arrays ptrs x (put_word at w x)
only_put points arrays ptrs at w x within there = record {
  words = λ a clean. words_other at w x a (apart a clean);
  rooms = λ a. rooms_stay at w x a;
  places = λ p clean. refl;
  many = refl;
  within = within;
}
  where
    apart : (a : ℕ) → has arrays a ≡ false → a ≢ at.array
    apart a clean is = let e : true ≡ false = sym there ∙ ap (has arrays) (sym is) ∙ clean in cc e

pointed_within : (arrays : List ℕ) (xs : List (Option Place)) (p q : ℕ) (at : Place) → has arrays at.array ≡ true → IsWithin arrays (get_or xs q None) → p ≡ q → IsWithin arrays (get_or (set xs p (Some at)) q None)
pointed_within arrays [] p q at there before is = tt
pointed_within arrays (x ∷ xs) zero zero at there before is = there
pointed_within arrays (x ∷ xs) zero (suc q) at there before is = before
pointed_within arrays (x ∷ xs) (suc p) zero at there before is = before
pointed_within arrays (x ∷ xs) (suc p) (suc q) at there before is = pointed_within arrays xs p q at there before (omega arith)

pub point_within : (points : Pointing) (p : ℕ) (at : Place) (x : Store) → AllWithin points x → has (points p) at.array ≡ true → AllWithin points (put_pointer p at x)
point_within points p at x within there q = by_equal (p == q) refl
  where
    by_equal : (b : Bool) → (p == q) ≡ b → IsWithin (points q) (pointed (put_pointer p at x) q)
    by_equal true is =
        let e : p ≡ q = eqb-true p q is in
        pointed_within (points q) x.pointers p q at (ap (λ r. has (points r) at.array) (sym e) ∙ there) (within q) e
    by_equal false is = subst (IsWithin (points q)) (sym (get_or-set_other x.pointers p q (Some at) None (λ e. eqb-false p q is (sym e)))) (within q)

only_point : (points : Pointing) (arrays ptrs : List ℕ) (p : ℕ) (at : Place) (x : Store) → AllWithin points x → has (points p) at.array ≡ true → has ptrs p ≡ true → Only points arrays ptrs x (put_pointer p at x)
only_point points arrays ptrs p at x within there moved = record {
  words = λ a clean. refl;
  rooms = λ a. refl;
  places = λ q clean. get_or-set_other x.pointers p q (Some at) None (λ e. let no : true ≡ false = sym moved ∙ ap (has ptrs) (sym e) ∙ clean in cc no);
  many = length-set x.pointers p (Some at);
  within = point_within points p at x within there;
}

abbrev pub OnlyEnd : Pointing → List ℕ → List ℕ → Store → Ran → Type 0
OnlyEnd points arrays ptrs x (done y) = Only points arrays ptrs x y
OnlyEnd points arrays ptrs x (trapped code y) = ⊤

pub only_after : (points : Pointing) (arrays ptrs : List ℕ) (x y : Store) (r : Ran) → Only points arrays ptrs x y → OnlyEnd points arrays ptrs y r → OnlyEnd points arrays ptrs x r
only_after points arrays ptrs x y (done z) a b = only_twice points arrays ptrs x y z a b
only_after points arrays ptrs x y (trapped code z) a b = tt

pub only_then : (points : Pointing) (arrays ptrs : List ℕ) (x : Store) (r : Ran) (go : Store → Ran) → OnlyEnd points arrays ptrs x r → ((y : Store) → AllWithin points y → OnlyEnd points arrays ptrs y (go y)) → OnlyEnd points arrays ptrs x (and_then r go)
only_then points arrays ptrs x (done y) go first rest = only_after points arrays ptrs x y (go y) first (rest y first.within)
only_then points arrays ptrs x (trapped code y) go first rest = tt

pub only_found : {A : Type 0} (points : Pointing) (arrays ptrs : List ℕ) (x : Store) (P : Result A Trap → Type 0) (r : Result A Trap) (go : A → Ran) → P r → ((a : A) → P (Ok a) → OnlyEnd points arrays ptrs x (go a)) → OnlyEnd points arrays ptrs x (if_found r x go)
only_found points arrays ptrs x P (Ok a) go p only = only a p
only_found points arrays ptrs x P (Err code) go p only = tt

pub only_chosen : (points : Pointing) (arrays ptrs : List ℕ) (x : Store) (word : ℕ) (f g : Store → Ran) → OnlyEnd points arrays ptrs x (f x) → OnlyEnd points arrays ptrs x (g x) → OnlyEnd points arrays ptrs x (chosen word f g x)
only_chosen points arrays ptrs x zero f g yes_only no_only = no_only
only_chosen points arrays ptrs x (suc n) f g yes_only no_only = yes_only

only_turns : (points : Pointing) (arrays ptrs : List ℕ) (body : Store → Ran) → ((x : Store) → AllWithin points x → OnlyEnd points arrays ptrs x (body x)) → (variable : ℕ) → has arrays variable ≡ true → (turn left : ℕ) (x : Store) → AllWithin points x → OnlyEnd points arrays ptrs x (turns_done body variable turn left x)
only_turns points arrays ptrs body only variable there turn zero x within = only_put points arrays ptrs (place variable 0) turn x within there
only_turns points arrays ptrs body only variable there turn (suc left) x within =
    let set_only = only_put points arrays ptrs (place variable 0) turn x within there in
    only_after points arrays ptrs x (set_variable variable turn x) _ set_only
    (only_then points arrays ptrs (set_variable variable turn x) _ (turns_done body variable (turn + 1) left) (only (set_variable variable turn x) set_only.within)
    (only_turns points arrays ptrs body only variable there (turn + 1) left))

-- the arrays whose address statements give to a pointer are among those to which it may point
abbrev pub Covers : Pointing → (ℕ → List ℕ) → Type 0
Covers points given = (p : ℕ) → Includes (given p) (points p)

pub point_is_in : (points : Pointing) (p a : ℕ) (i : CoreExpr) (x : Store) → AllWithin points x → Covers points (λ q. addresses q (stmt.Point p a i)) → IsIn (points p) (target_place (target.Cell a i) x)
point_is_in points p a i x within covers = by_case (target_place (target.Cell a i) x) (target_is_in points (target.Cell a i) x within)
  where
    by_case : (r : Result Place Trap) → IsIn (a ∷ []) r → IsIn (points p) r
    by_case (Ok at) there = covers p at.array (ap (λ b. has (cond b (a ∷ []) []) at.array) (eq-eqb p p refl) ∙ there)
    by_case (Err code) there = tt

mutual
  pub plain_only : (points : Pointing) (arrays ptrs : List ℕ) (s : CoreStmt) → Includes (assigns points s) arrays → Includes (moves s) ptrs → Covers points (λ p. addresses p s) → (x : Store) → AllWithin points x → OnlyEnd points arrays ptrs x (plain_done s x)
  plain_only points arrays ptrs (stmt.Assign t e) all moved covers x within =
      only_found points arrays ptrs x (IsIn (target_arrays points t)) (target_place t x) _ (target_is_in points t x within)
      (λ at there. only_found points arrays ptrs x (λ r. ⊤) (value_of e x) _ tt (λ w _. only_put points arrays ptrs at w x within (all at.array there)))
  plain_only points arrays ptrs (stmt.Point p a i) all moved covers x within =
      only_found points arrays ptrs x (IsIn (points p)) (target_place (target.Cell a i) x) _ (point_is_in points p a i x within covers)
      (λ at there. only_point points arrays ptrs p at x within there (moved p (has_itself p)))
  plain_only points arrays ptrs (stmt.If' c size_a yes_part size_b no_part) all moved covers x within =
      only_found points arrays ptrs x (λ r. ⊤) (value_of c x) _ tt (λ word _. only_chosen points arrays ptrs x word (row_done yes_part) (row_done no_part)
      (row_only points arrays ptrs yes_part (front_of _ _ _ all) (front_of _ _ _ moved) (λ p. front_of _ _ _ (covers p)) x within)
      (row_only points arrays ptrs no_part (back_of _ _ _ all) (back_of _ _ _ moved) (λ p. back_of _ _ _ (covers p)) x within))
  plain_only points arrays ptrs (stmt.Loop' variable turns size body) all moved covers x within =
      only_turns points arrays ptrs (row_done body) (row_only points arrays ptrs body (λ n there. all n (or_right (variable == n) (has (row_assigns points body) n) there)) moved covers)
      variable (all variable (or_left (variable == variable) _ (eq-eqb variable variable refl))) 0 turns x within
  plain_only points arrays ptrs (stmt.Io site target peripheral args) all moved covers x within = only_none points arrays ptrs x within
  plain_only points arrays ptrs (stmt.Block' site size body) all moved covers x within = only_none points arrays ptrs x within
  plain_only points arrays ptrs (stmt.Copy site to from words) all moved covers x within = only_none points arrays ptrs x within

  pub row_only : (points : Pointing) (arrays ptrs : List ℕ) {size : _} (b : Row_of-CoreStmt size) → Includes (row_assigns points b) arrays → Includes (row_moves b) ptrs → Covers points (λ p. row_addresses p b) → (x : Store) → AllWithin points x → OnlyEnd points arrays ptrs x (row_done b x)
  row_only points arrays ptrs end_of-CoreStmt all moved covers x within = only_none points arrays ptrs x within
  row_only points arrays ptrs (more_of-CoreStmt s rest) all moved covers x within =
      only_then points arrays ptrs x (plain_done s x) (row_done rest)
      (plain_only points arrays ptrs s (front_of _ _ _ all) (front_of _ _ _ moved) (λ p. front_of _ _ _ (covers p)) x within)
      (row_only points arrays ptrs rest (back_of (assigns points s) _ _ all) (back_of (moves s) _ _ moved) (λ p. back_of (addresses p s) _ _ (covers p)))
