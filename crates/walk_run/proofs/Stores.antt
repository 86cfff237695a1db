-- Stores of a program stay such: at the start, when a task begins, and after each write.
use Rattle.std.proofs.Common.{◌≡◌, ◌∙◌, ℕ, zero, suc, ◌+◌, ◌<◌, ◌≤◌, List, [], ◌∷◌, ◌++◌, map, length, Option, Some, None, IfSome, refl, ap, sym, subst, set, take, drop, arith, add-one, length-set}
use Rattle.std.specs.Prelude.{sum_by}
use Rattle.std.specs.List.{AllByRecursion}
use Rattle.std.proofs.Math.Seq.{map-set_same}
use Rattle.std.proofs.lemmas.List.{length-map}
use Rattle.std.proofs.lemmas.List.Sums.{sum_by-cons}
use Rattle.task_ast.specs.declared.tree.Kind.{Kind}
use Rattle.task_ast.specs.declared.tree.Kind.TheVariants.{Nv, Const, Vol}
use Rattle.task_ast.specs.declared.core_form.Array.{Array}
use Rattle.task_ast.specs.declared.core_form.Core.{Core}
use Rattle.task_ast.specs.WellFormed.{IsWellFormed, fram_size, ram_size}
use Rattle.walk_run.specs.declared.place.Place.{Place}
use Rattle.walk_run.specs.Arrays.{IsNarrow}
use Rattle.walk_run.specs.Store.{Store, Fits, KeepsFit, IsInside, words_of, put_word, put_pointer, unset, declared_store, fresh, fresh_arrays}
use Rattle.walk_run.specs.StoreLaws.{rooms_stay}
use Rattle.walk_run.proofs.Shapes.{shape_declared, shape_all_fresh}

-- a store by its two parts
abbrev pub store_with : List (List ℕ) → List (Option Place) → Store
store_with words pointers = record { words = words; pointers = pointers }

-- what holds of pointers holds of those that point to nothing
unset_holds : {A : Type 0} (P : Place → Type 0) (names : List A) → AllByRecursion (λ p. IfSome p P) (unset names)
unset_holds P [] = tt
unset_holds P (n ∷ names) = (tt, unset_holds P names)

pub fits_declared : (c : Core) → Fits c (declared_store c)
fits_declared c = record {
  shape = shape_declared c.arrays;
  count = length-map c.pointers _;
  inside = unset_holds (IsInside (declared_store c)) c.pointers;
}

pub fits_fresh : (c : Core) (store : Store) → Fits c store → Fits c (fresh c store)
fits_fresh c store h = record {
  shape = shape_all_fresh c.arrays store.words h.shape;
  count = length-map c.pointers _;
  inside = unset_holds (IsInside (fresh c store)) c.pointers;
}

-- places that are inside stay so where rooms stay
stay_inside : (old new : Store) → ((b : ℕ) → length (words_of new b) ≡ length (words_of old b)) → (pointers : List (Option Place))
    → AllByRecursion (λ p. IfSome p (IsInside old)) pointers → AllByRecursion (λ p. IfSome p (IsInside new)) pointers
stay_inside old new same [] h = tt
stay_inside old new same (None ∷ pointers) h = (tt, stay_inside old new same pointers h.1)
stay_inside old new same (Some at ∷ pointers) h = (subst (λ n. at.index < n) (sym (same at.array)) h.0, stay_inside old new same pointers h.1)

pub fits_word : (at : Place) (word : ℕ) (store : Store) → KeepsFit store (put_word at word store)
fits_word at word store c h = record {
  shape = map-set_same length store.words at.array (set (words_of store at.array) at.index word) [] (length-set (words_of store at.array) at.index word) ∙ h.shape;
  count = h.count;
  inside = stay_inside store (put_word at word store) (rooms_stay at word store) store.pointers h.inside;
}

set_inside : (store : Store) (pointers : List (Option Place)) (p : ℕ) (at : Place) → IsInside store at
    → AllByRecursion (λ p. IfSome p (IsInside store)) pointers → AllByRecursion (λ p. IfSome p (IsInside store)) (set pointers p (Some at))
set_inside store [] p at there h = tt
set_inside store (q ∷ pointers) zero at there h = (there, h.1)
set_inside store (q ∷ pointers) (suc p) at there h = (h.0, set_inside store pointers p at there h.1)

pub fits_pointer : (p : ℕ) (at : Place) (store : Store) → IsInside store at → KeepsFit store (put_pointer p at store)
fits_pointer p at store there c h = record {
  shape = h.shape;
  count = length-set store.pointers p (Some at) ∙ h.count;
  inside = set_inside store store.pointers p at there h.inside;
}

-- as many pointers to nothing
pub unset_alike : {A B : Type 0} (xs : List A) (ys : List B) → length xs ≡ length ys → unset xs ≡ unset ys
unset_alike [] [] same = refl
unset_alike [] (y ∷ ys) same = absurd (omega (arith, same))
unset_alike (x ∷ xs) [] same = absurd (omega (arith, same))
unset_alike (x ∷ xs) (y ∷ ys) same = ap (λ ps. None ∷ ps) (unset_alike xs ys (omega (arith, same)))

-- one pointer more is unset
pub one_unset : (pointers : List (Option Place)) (n : ℕ) → n < length pointers
    → set (unset (take n pointers) ++ drop n pointers) n None ≡ unset (take (n + 1) pointers) ++ drop (n + 1) pointers
one_unset pointers n there = step pointers n there ∙ ap (λ k. unset (take k pointers) ++ drop k pointers) (sym (add-one n))
  where
    step : (ps : List (Option Place)) (n : ℕ) → n < length ps → set (unset (take n ps) ++ drop n ps) n None ≡ unset (take (suc n) ps) ++ drop (suc n) ps
    step [] n there = absurd (omega (arith, there))
    step (p ∷ ps) zero there = refl
    step (p ∷ ps) (suc n) there = ap (λ qs. None ∷ qs) (step ps n (omega (arith, there)))

-- the lengths of arrays whose sum fits a word
sizes_narrow : (arrays : List Array) → sum_by (λ a. fram_size a.kind (length a.first)) arrays ≤ 2048 → sum_by (λ a. ram_size a.kind (length a.first)) arrays ≤ 2048 → IsNarrow (map (λ a. a.first) arrays)
sizes_narrow [] fram ram = tt
sizes_narrow (a ∷ arrays) fram ram =
    let in_fram = sum_by-cons (λ a. fram_size a.kind (length a.first)) a arrays in
    let in_ram = sum_by-cons (λ a. ram_size a.kind (length a.first)) a arrays in
    let whole : length a.first ≡ fram_size a.kind (length a.first) + ram_size a.kind (length a.first) = parts a.kind (length a.first) in
    (omega (arith, fram, ram, in_fram, in_ram, whole), sizes_narrow arrays (omega (arith, fram, in_fram)) (omega (arith, ram, in_ram)))
  where
    parts : (kind : Kind) (n : ℕ) → n ≡ fram_size kind n + ram_size kind n
    parts Nv n = omega arith
    parts Const n = omega arith
    parts Vol n = omega arith

pub narrow_declared : (c : Core) → IsWellFormed c → IsNarrow (map (λ a. a.first) c.arrays)
narrow_declared c h = sizes_narrow c.arrays h.fram h.ram

-- the store that is made
pub made_fits : (c : Core) (arrays : List Array) (names : List (List ℕ)) (words : List (List ℕ)) (pointers : List (Option Place))
    → arrays ≡ c.arrays → names ≡ c.pointers → words ≡ map (λ a. a.first) arrays → pointers ≡ unset names → Fits c (store_with words pointers)
made_fits c arrays names words pointers arrays_are names_are words_are pointers_are =
    let first : words ≡ map (λ a. a.first) c.arrays = words_are ∙ ap (λ items. map (λ a. a.first) items) arrays_are in
    let second : pointers ≡ unset c.pointers = pointers_are ∙ ap (λ ns. unset ns) names_are in
    subst (Fits c) (sym (λ i. store_with (first i) (second i))) (fits_declared c)

-- the store when a task has begun
pub begun : (c : Core) (old : Store) (words : List (List ℕ)) (pointers : List (Option Place)) (arrays : List Array) (new_words : List (List ℕ)) (seen new_pointers : List (Option Place))
    → store_with words pointers ≡ old → Fits c old → arrays ≡ c.arrays → new_words ≡ fresh_arrays arrays words → seen ≡ pointers → new_pointers ≡ unset seen
    → store_with new_words new_pointers ≡ fresh c old
begun c old words pointers arrays new_words seen new_pointers is fits arrays_are words_are seen_is pointers_are =
    let first : new_words ≡ fresh_arrays c.arrays old.words = words_are ∙ (λ i. fresh_arrays (arrays_are i) (is i).words) in
    let many : length seen ≡ length c.pointers = ap length seen_is ∙ ap (λ s. length s.pointers) is ∙ fits.count in
    let second : new_pointers ≡ unset c.pointers = pointers_are ∙ unset_alike seen c.pointers many in
    λ i. store_with (first i) (second i)
