-- Where nothing is at fault, what each name stands for is there, and no name stands twice.
use Rattle.std.proofs.Common.{◌≡◌, ◌∙◌, ℕ, suc, ◌+◌, ◌-◌, ◌<◌, ◌≤◌, Bool, true, false, ◌||◌, ◌==◌, List, [], ◌∷◌, ◌++◌, length, map, replicate, Option, Some, None, refl, sym, ap, subst, arith, is_some, true≢false, append_assoc, bytes_eq}
use Rattle.std.specs.Prelude.{slice_get, if◌then◌else◌}
use Rattle.std.specs.List.{AllByRecursion, list_any, flat_map}
use Rattle.std.specs.Option.{option_map}
use Rattle.std.specs.Cmp.Lexicographic.{bytes_decides}
use Rattle.std.proofs.lemmas.List.{length-append, length-replicate}
use Rattle.std.proofs.lemmas.List.Folds.{list_any-append}
use Rattle.op_table.specs.Places.{place_of, repeats}
use Rattle.task_ast.specs.declared.tree.Decl.{Decl}
use Rattle.task_ast.specs.declared.tree.Decl.TheVariants as decl
use Rattle.task_ast.specs.declared.tree.Task.{Task}
use Rattle.task_ast.specs.declared.core_form.Array.{Array}
use Rattle.task_ast.specs.WellFormed.{Scope}
use Rattle.task_check.specs.declared.names.Meaning.{Meaning}
use Rattle.task_check.specs.declared.names.Numbers.{Numbers}
use Rattle.task_check.specs.Names.{look_up, decl_text, decl_meaning, none_yet, with_decl, declared_words, declared_tasks}
use Rattle.ease_base.specs.declared.place.Peripheral.{Peripheral}
use Rattle.task_check.specs.Refusals.{size_words, decl_number}
use Rattle.task_check.specs.CheckedForm.{first_words, core_arrays, core_pointers, core_peripherals}
use Rattle.task_check.proofs.WellFormedForms.{IsThere, IsThereIfSome, all_append}

-- a declaration without a fault has words, and values for at most as many, or a number that is allowed
abbrev pub IsSized : Decl → Type 0
IsSized (decl.Words kind x size values) = (0 < size_words size) × (length values ≤ size_words size)
IsSized (decl.Pointer x) = Unit {0}
IsSized (decl.Peripheral x number) = number ≤ 255

-- an array has as many words as its declaration
pub first_length : (size : ℕ) (values : List ℕ) → length values ≤ size → length (first_words size values) ≡ size
first_length size values few = omega (arith, length-append values (replicate (size - length values) 0), length-replicate {A = ℕ} (size - length values) 0)

get_behind : {A : Type 0} (front : List A) (x : A) (rest : List A) → slice_get (front ++ x ∷ rest) (length front) ≡ Some x
get_behind [] x rest = refl
get_behind (y ∷ front) x rest = get_behind front x rest

append_more : {A : Type 0} (front : List A) (x : A) (rest : List A) → front ++ x ∷ rest ≡ (front ++ x ∷ []) ++ rest
append_more [] x rest = refl
append_more (y ∷ front) x rest = ap (λ zs. y ∷ zs) (append_more front x rest)

-- what a declared name stands for, as it is declared
abbrev pub IsDeclaredThere : Scope → ℕ → List ℕ × Meaning → Type 0
IsDeclaredThere s tasks d = IsThere s tasks d.1

word_there : (s : Scope) (tasks n : ℕ) (m : Numbers) (a : Array) (kind : _) (x : _) (size : Option ℕ) (values : List ℕ) → m.arrays ≡ n → slice_get s.arrays n ≡ Some a → a.kind ≡ kind → a.first ≡ first_words (size_words size) values
    → length values ≤ size_words size → IsThere s tasks (decl_meaning m (decl.Words kind x size values))
word_there s tasks n m a kind x None values same stands kinds words few = (a, ap (slice_get s.arrays) same ∙ stands, kinds, ap length words ∙ first_length 1 values few)
word_there s tasks n m a kind x (Some size) values same stands kinds words few = (a, ap (slice_get s.arrays) same ∙ stands, kinds)

-- each declared array, pointer and peripheral is there
pub words_there : (s : Scope) (tasks : ℕ) (front : List Array) (ds : List Decl) (m : Numbers) → m.arrays ≡ length front → s.arrays ≡ front ++ flat_map core_arrays ds
    → m.pointers + length (flat_map core_pointers ds) ≤ s.pointers → m.peripherals + length (flat_map core_peripherals ds) ≤ s.peripherals → AllByRecursion IsSized ds
    → AllByRecursion (IsDeclaredThere s tasks) (declared_words m ds)
words_there s tasks front [] m at_arrays is pointers peripherals sized = tt
words_there s tasks front (decl.Words kind x size values ∷ ds) m at_arrays is pointers peripherals sized =
    let a : Array = record { name = x.text; kind = kind; first = first_words (size_words size) values } in (
      word_there s tasks (length front) m a kind x size values at_arrays (ap (λ l. slice_get l (length front)) is ∙ get_behind front a (flat_map core_arrays ds)) refl refl sized.0.1,
      words_there s tasks (front ++ a ∷ []) ds (with_decl m (decl.Words kind x size values)) (omega (arith, at_arrays, length-append front (a ∷ []))) (is ∙ append_more front a (flat_map core_arrays ds)) pointers peripherals sized.1,
    )
words_there s tasks front (decl.Pointer x ∷ ds) m at_arrays is pointers peripherals sized = (
  let k : m.pointers < s.pointers = omega (arith, pointers) in k,
  words_there s tasks front ds (with_decl m (decl.Pointer x)) at_arrays is (omega (arith, pointers)) peripherals sized.1,
)
words_there s tasks front (decl.Peripheral x number ∷ ds) m at_arrays is pointers peripherals sized = (
  let k : m.peripherals < s.peripherals = omega (arith, peripherals) in k,
  words_there s tasks front ds (with_decl m (decl.Peripheral x number)) at_arrays is pointers (omega (arith, peripherals)) sized.1,
)

-- each task has its number
tasks_there : (s : Scope) (ts : List Task) (tasks n : ℕ) → 0 < n → n + length ts ≤ tasks + 1 → AllByRecursion (IsDeclaredThere s tasks) (declared_tasks n ts)
tasks_there s [] tasks n some fit = tt
tasks_there s (t ∷ ts) tasks n some fit = ((omega (arith, some), omega (arith, fit)), tasks_there s ts tasks (n + 1) (omega (arith, some)) (omega (arith, fit)))

-- what is looked up is there
found_there : (s : Scope) (tasks : ℕ) (ds : List (List ℕ × Meaning)) → AllByRecursion (IsDeclaredThere s tasks) ds → (text : List ℕ) → IsThereIfSome s tasks (look_up ds text)
found_there s tasks [] h text = tt
found_there s tasks (d ∷ ds) h text = by_test (bytes_eq text d.0) (found_there s tasks ds h.1 text)
  where
    by_test : (b : Bool) → IsThereIfSome s tasks (look_up ds text) → IsThereIfSome s tasks (if b then Some d.1 else look_up ds text)
    by_test true rest = h.0
    by_test false rest = rest

-- what each name of a program stands for is there
pub names_there : (s : Scope) (ds : List Decl) (ts : List Task) → s.arrays ≡ flat_map core_arrays ds → s.pointers ≡ length (flat_map core_pointers ds) → s.peripherals ≡ length (flat_map core_peripherals ds)
    → AllByRecursion IsSized ds → (text : List ℕ) → IsThereIfSome s (length ts) (look_up (declared_words none_yet ds ++ declared_tasks 1 ts) text)
names_there s ds ts arrays pointers peripherals sized text =
    found_there s (length ts) (declared_words none_yet ds ++ declared_tasks 1 ts)
    (all_append (IsDeclaredThere s (length ts)) (declared_words none_yet ds) (declared_tasks 1 ts)
    (words_there s (length ts) [] ds none_yet refl arrays (omega (arith, pointers)) (omega (arith, peripherals)) sized)
    (tasks_there s ts (length ts) 1 (omega arith) (omega arith)))
    text

-- A test of equality that both sides pass alike.
abbrev pub IsEven : {A : Type 0} → (A → A → Bool) → Type 0
IsEven {A} eq = (x y : A) → eq x y ≡ eq y x

or_none : (a b : Bool) → (a || b) ≡ false → (a ≡ false) × (b ≡ false)
or_none true b h = absurd (true≢false h)
or_none false b h = (refl, h)

-- none of these is one of those before it
abbrev pub AreApart : {A : Type 0} → (A → A → Bool) → List A → List A → Type 0
AreApart eq before [] = Unit {0}
AreApart eq before (x ∷ xs) = (list_any (eq x) before ≡ false) × AreApart eq (before ++ x ∷ []) xs

-- none of these is one of those behind it
abbrev pub AreDistinct : {A : Type 0} → (A → A → Bool) → List A → Type 0
AreDistinct eq [] = Unit {0}
AreDistinct eq (x ∷ xs) = (list_any (eq x) xs ≡ false) × AreDistinct eq xs

module _ {A : Type 0} (eq : A → A → Bool) (even : IsEven eq) where
  none_ahead : (before : List A) (y : A) (behind xs : List A) → AreApart eq (before ++ y ∷ behind) xs → list_any (eq y) xs ≡ false
  none_ahead before y behind [] h = refl
  none_ahead before y behind (x ∷ xs) h =
      let split = or_none (list_any (eq x) before) (list_any (eq x) (y ∷ behind)) (sym (list_any-append (eq x) before (y ∷ behind)) ∙ h.0) in
      let first = or_none (eq x y) (list_any (eq x) behind) split.1 in
      (λ i. (even y x ∙ first.0) i || none_ahead before y (behind ++ x ∷ []) xs (subst (λ l. AreApart eq l xs) (append_assoc before (y ∷ behind) (x ∷ [])) h.1) i)

  -- so each is none of those behind it
  pub apart_distinct : (before xs : List A) → AreApart eq before xs → AreDistinct eq xs
  apart_distinct before [] h = tt
  apart_distinct before (x ∷ xs) h = (none_ahead before x [] xs h.1, apart_distinct (before ++ x ∷ []) xs h.1)

  no_place : (xs : List A) (e : A) → list_any (eq e) xs ≡ false → place_of eq e xs ≡ None
  unfolding place_of
  no_place [] e h = refl
  no_place (x ∷ xs) e h =
      let parts = or_none (eq e x) (list_any (eq e) xs) h in
      ap (λ b. if b then Some 0 else option_map suc (place_of eq e xs)) (even x e ∙ parts.0) ∙ ap (option_map suc) (no_place xs e parts.1)

  -- and no one stands twice
  pub distinct_once : (xs : List A) → AreDistinct eq xs → repeats eq xs ≡ false
  unfolding repeats
  distinct_once [] h = refl
  distinct_once (x ∷ xs) h = ap (λ p. is_some p || repeats eq xs) (no_place xs x h.0) ∙ distinct_once xs h.1

  -- one more between others
  pub distinct_between : (front rest : List A) (x : A) → AreDistinct eq (front ++ rest) → list_any (eq x) (front ++ rest) ≡ false → AreDistinct eq (front ++ x ∷ rest)
  distinct_between [] rest x h none = (none, h)
  distinct_between (y ∷ front) rest x h none =
      let parts = or_none (eq x y) (list_any (eq x) (front ++ rest)) none in
      let others = or_none (list_any (eq y) front) (list_any (eq y) rest) (sym (list_any-append (eq y) front rest) ∙ h.0) in (
        list_any-append (eq y) front (x ∷ rest) ∙ (λ i. others.0 i || ((even y x ∙ parts.0) i || others.1 i)),
        distinct_between front rest x h.1 parts.1,
      )

pub bytes_even : IsEven bytes_eq
bytes_even x y = both (bytes_eq x y) (bytes_eq y x) (λ e. (bytes_decides y x).1 (sym ((bytes_decides x y).0 e))) (λ e. (bytes_decides x y).1 (sym ((bytes_decides y x).0 e)))
  where
    both : (b c : Bool) → (b ≡ true → c ≡ true) → (c ≡ true → b ≡ true) → b ≡ c
    both true c f g = sym (f refl)
    both false true f g = g refl
    both false false f g = refl

abbrev pub number_eq : ℕ → ℕ → Bool
number_eq m n = m == n

pub numbers_even : IsEven number_eq
numbers_even x y = both (x == y) (y == x) (λ e. grind arith) (λ e. grind arith)
  where
    both : (b c : Bool) → (b ≡ true → c ≡ true) → (c ≡ true → b ≡ true) → b ≡ c
    both true c f g = sym (f refl)
    both false true f g = g refl
    both false false f g = refl

-- the names of declarations by what they declare
abbrev pub array_names : List Decl → List (List ℕ)
array_names ds = map (λ (a : Array). a.name) (flat_map core_arrays ds)

abbrev pub peripheral_names : List Decl → List (List ℕ)
peripheral_names ds = map (λ (p : Peripheral). p.name) (flat_map core_peripherals ds)

-- arrays, pointers, peripherals, and then others
abbrev pub sorted : List Decl → List (List ℕ) → List (List ℕ)
sorted ds ts = array_names ds ++ (flat_map core_pointers ds ++ (peripheral_names ds ++ ts))

both_none : (a b : Bool) → a ≡ false → b ≡ false → (a || b) ≡ false
both_none a b p q = λ i. p i || q i

-- what no name of declarations passes, no sorted one does
parts_none : (f : List ℕ → Bool) (ds : List Decl) → list_any f (map decl_text ds) ≡ false
    → (list_any f (array_names ds) ≡ false) × (list_any f (flat_map core_pointers ds) ≡ false) × (list_any f (peripheral_names ds) ≡ false)
parts_none f [] h = (refl, refl, refl)
parts_none f (decl.Words kind x size values ∷ ds) h =
    let split = or_none (f x.text) (list_any f (map decl_text ds)) h in let rest = parts_none f ds split.1 in (both_none _ _ split.0 rest.0, rest.1, rest.2)
parts_none f (decl.Pointer x ∷ ds) h =
    let split = or_none (f x.text) (list_any f (map decl_text ds)) h in let rest = parts_none f ds split.1 in (rest.0, both_none _ _ split.0 rest.1, rest.2)
parts_none f (decl.Peripheral x number ∷ ds) h =
    let split = or_none (f x.text) (list_any f (map decl_text ds)) h in let rest = parts_none f ds split.1 in (rest.0, rest.1, both_none _ _ split.0 rest.2)

sorted_none : (f : List ℕ → Bool) (ds : List Decl) (ts : List (List ℕ)) → list_any f (map decl_text ds ++ ts) ≡ false → list_any f (sorted ds ts) ≡ false
sorted_none f ds ts h =
    let split = or_none (list_any f (map decl_text ds)) (list_any f ts) (sym (list_any-append f (map decl_text ds) ts) ∙ h) in
    let parts = parts_none f ds split.0 in
    list_any-append f (array_names ds) (flat_map core_pointers ds ++ (peripheral_names ds ++ ts))
    ∙ both_none _ _ parts.0 (list_any-append f (flat_map core_pointers ds) (peripheral_names ds ++ ts) ∙ both_none _ _ parts.1 (list_any-append f (peripheral_names ds) ts ∙ both_none _ _ parts.2 split.1))

-- distinct names are distinct when they are sorted
pub sorted_distinct : (ds : List Decl) (ts : List (List ℕ)) → AreDistinct bytes_eq (map decl_text ds ++ ts) → AreDistinct bytes_eq (sorted ds ts)
sorted_distinct [] ts h = h
sorted_distinct (decl.Words kind x size values ∷ ds) ts h = (sorted_none (bytes_eq x.text) ds ts h.0, sorted_distinct ds ts h.1)
sorted_distinct (decl.Pointer x ∷ ds) ts h =
    distinct_between bytes_eq bytes_even (array_names ds) (flat_map core_pointers ds ++ (peripheral_names ds ++ ts)) x.text (sorted_distinct ds ts h.1) (sorted_none (bytes_eq x.text) ds ts h.0)
sorted_distinct (decl.Peripheral x number ∷ ds) ts h =
    let regroup = append_assoc (array_names ds) (flat_map core_pointers ds) in
    subst (AreDistinct bytes_eq) (regroup (x.text ∷ (peripheral_names ds ++ ts)))
    (distinct_between bytes_eq bytes_even (array_names ds ++ flat_map core_pointers ds) (peripheral_names ds ++ ts) x.text
    (subst (AreDistinct bytes_eq) (sym (regroup (peripheral_names ds ++ ts))) (sorted_distinct ds ts h.1))
    (ap (list_any (bytes_eq x.text)) (regroup (peripheral_names ds ++ ts)) ∙ sorted_none (bytes_eq x.text) ds ts h.0))

-- they are as many
pub sorted_counted : (ds : List Decl) (ts : List (List ℕ)) → length (sorted ds ts) ≡ length ds + length ts
sorted_counted [] ts = omega arith
sorted_counted (decl.Words kind x size values ∷ ds) ts = omega (arith, sorted_counted ds ts)
sorted_counted (decl.Pointer x ∷ ds) ts =
    omega (arith, sorted_counted ds ts, length-append (array_names ds) (x.text ∷ (flat_map core_pointers ds ++ (peripheral_names ds ++ ts))), length-append (array_names ds) (flat_map core_pointers ds ++ (peripheral_names ds ++ ts)))
sorted_counted (decl.Peripheral x number ∷ ds) ts =
    omega (
      arith,
      sorted_counted ds ts,
      length-append (array_names ds) (flat_map core_pointers ds ++ (x.text ∷ (peripheral_names ds ++ ts))),
      length-append (flat_map core_pointers ds) (x.text ∷ (peripheral_names ds ++ ts)),
      length-append (array_names ds) (flat_map core_pointers ds ++ (peripheral_names ds ++ ts)),
      length-append (flat_map core_pointers ds) (peripheral_names ds ++ ts),
    )

-- the numbers of peripherals
pub numbers_listed : (ds : List Decl) → map (λ (p : Peripheral). p.number) (flat_map core_peripherals ds) ≡ flat_map decl_number ds
numbers_listed [] = refl
numbers_listed (decl.Words kind x size values ∷ ds) = numbers_listed ds
numbers_listed (decl.Pointer x ∷ ds) = numbers_listed ds
numbers_listed (decl.Peripheral x number ∷ ds) = ap (λ l. number ∷ l) (numbers_listed ds)
