-- Where nothing is at fault, the limits hold of the checked form.
use Rattle.std.proofs.Common.{◌≡◌, ◌∙◌, ℕ, ◌+◌, ◌≤◌, ◌<◌, ◌==◌, Bool, false, Option, List, [], ◌∷◌, ◌++◌, length, map, refl, sym, ap, subst, arith, append_assoc, ◌||◌}
use Rattle.std.specs.Prelude.{sum_by, bytes_eq, nat_lt}
use Rattle.std.specs.List.{AllByRecursion, list_any, flat_map}
use Rattle.std.proofs.lemmas.Bool.Decides.{nat_tests}
use Rattle.std.proofs.lemmas.List.{length-append, append-nil}
use Rattle.std.proofs.lemmas.List.Sums.{sum_by-cons, sum_by_push}
use Rattle.task_ast.specs.declared.limits.TheConstants.{MOST_TASKS, MOST_NAMES, LONGEST_NAME, MOST_NV_WORDS, MOST_VOL_WORDS, MOST_NODES, MOST_SITES, MOST_KEPT_WORDS, HIGHEST_PERIPHERAL}
use Rattle.task_ast.specs.declared.tree.Kind.{Kind}
use Rattle.task_ast.specs.declared.tree.Kind.TheVariants.{Nv, Const, Vol}
use Rattle.task_ast.specs.declared.tree.Name.{Name}
use Rattle.task_ast.specs.declared.tree.Decl.{Decl}
use Rattle.task_ast.specs.declared.tree.Decl.TheVariants as decl
use Rattle.task_ast.specs.declared.tree.Task.{Task}
use Rattle.task_ast.specs.declared.core_form.Array.{Array}
use Rattle.task_ast.specs.WellFormed.{fram_size, ram_size, site_words}
use Rattle.task_check.specs.declared.error.CheckError.{CheckError}
use Rattle.task_check.specs.declared.error.Limit.TheVariants.{Tasks, Names, NvWords, VolWords, NameBytes, PeripheralNumber, Nodes, Sites, KeptWords}
use Rattle.task_check.specs.Names.{Meanings, decl_name, decl_text, task_text}
use Rattle.task_check.specs.Nodes.{nodes_of_task}
use Rattle.task_check.specs.Refusals.{where_true, twice_named, decl_number, twice_numbered, too_many_values, size_words}
use Rattle.task_check.specs.Limits.{IsSmall, task_limit, name_limit, fram_words, ram_words, nv_limit, vol_limit, length_limit, bytes_limit, number_limit, sites_limit, kept_limit, node_limit}
use Rattle.task_check.specs.Faults.{inner_faults, decl_faults, decls_faults, rest_faults, tasks_faults}
use Rattle.task_check.specs.CheckedForm.{core_arrays, first_words, task_sites}
use Rattle.task_check.proofs.FirstLemmas.{none-front, none-behind}
use Rattle.task_check.proofs.WellFormedForms.{within, not_true}
use Rattle.task_check.proofs.WellFormedNames.{IsSized, AreApart, number_eq, numbers_even, first_length}

-- what a declaration without a fault says behind those before it
record CountsDecl (before : List Decl) (d : Decl) : Type 0 where
  apart : list_any (bytes_eq (decl_text d)) (map decl_text before) ≡ false
  numbers : AreApart number_eq (flat_map decl_number before) (decl_number d)
  names : length before + 1 ≤ MOST_NAMES
  fram : sum_by fram_words before + fram_words d ≤ MOST_NV_WORDS
  ram : sum_by ram_words before + ram_words d ≤ MOST_VOL_WORDS
  sized : IsSized d
  bytes : length (decl_text d) ≤ LONGEST_NAME

some_words : (n : ℕ) (e : CheckError) → where_true (n == 0) e ≡ [] → 0 < n
some_words n e none = let h = not_true (n == 0) e none in grind (arith, nat_tests)

few_values : (n m : ℕ) (e : CheckError) → where_true (nat_lt n m) e ≡ [] → m ≤ n
few_values n m e none = let h = not_true (nat_lt n m) e none in grind (arith, nat_tests)

sized_rightly : (d : Decl) → too_many_values d ≡ [] → length_limit d ≡ [] → number_limit d ≡ [] → IsSized d
sized_rightly (decl.Words kind x size values) many long number = (some_words (size_words size) _ long, few_values (size_words size) (length values) _ many)
sized_rightly (decl.Pointer x) many long number = tt
sized_rightly (decl.Peripheral x n) many long number = within PeripheralNumber HIGHEST_PERIPHERAL x.at n number

any_turned : (n : ℕ) (before : List ℕ) → list_any (λ m. m == n) before ≡ list_any (number_eq n) before
any_turned n [] = refl
any_turned n (m ∷ before) = λ i. turned m n i || any_turned n before i
  where
    turned : (m n : ℕ) → (m == n) ≡ (n == m)
    turned m n = numbers_even m n

numbers_apart : (before : List ℕ) (d : Decl) → twice_numbered before d ≡ [] → AreApart number_eq before (decl_number d)
numbers_apart before (decl.Words kind x size values) none = tt
numbers_apart before (decl.Pointer x) none = tt
numbers_apart before (decl.Peripheral x n) none = (sym (any_turned n before) ∙ not_true _ _ none, tt)

counts_decl : (before : List Decl) (d : Decl) → decl_faults before d ≡ [] → CountsDecl before d
counts_decl before d none =
    let a = twice_named (map decl_text before) (decl_name d) in
    let b = twice_numbered (flat_map decl_number before) d in
    let c = too_many_values d in
    let e = name_limit (decl_name d).at (length before + 1) in
    let f = nv_limit (decl_name d).at (sum_by fram_words before + fram_words d) in
    let g = vol_limit (decl_name d).at (sum_by ram_words before + ram_words d) in
    let h = length_limit d in
    let k = bytes_limit (decl_name d) in
    let l = number_limit d in
    let h8 = none-front (a ++ b ++ c ++ e ++ f ++ g ++ h ++ k) l none in
    let h7 = none-front (a ++ b ++ c ++ e ++ f ++ g ++ h) k h8 in
    let h6 = none-front (a ++ b ++ c ++ e ++ f ++ g) h h7 in
    let h5 = none-front (a ++ b ++ c ++ e ++ f) g h6 in
    let h4 = none-front (a ++ b ++ c ++ e) f h5 in
    let h3 = none-front (a ++ b ++ c) e h4 in
    let h2 = none-front (a ++ b) c h3 in
    record {
      apart = not_true (list_any (bytes_eq (decl_text d)) (map decl_text before)) _ (none-front a b h2);
      numbers = numbers_apart (flat_map decl_number before) d (none-behind a b h2);
      names = within Names MOST_NAMES (decl_name d).at (length before + 1) (none-behind (a ++ b ++ c) e h4);
      fram = within NvWords MOST_NV_WORDS (decl_name d).at (sum_by fram_words before + fram_words d) (none-behind (a ++ b ++ c ++ e) f h5);
      ram = within VolWords MOST_VOL_WORDS (decl_name d).at (sum_by ram_words before + ram_words d) (none-behind (a ++ b ++ c ++ e ++ f) g h6);
      sized = sized_rightly d (none-behind (a ++ b) c h3) (none-behind (a ++ b ++ c ++ e ++ f ++ g) h h7) (none-behind (a ++ b ++ c ++ e ++ f ++ g ++ h ++ k) l none);
      bytes = within NameBytes LONGEST_NAME (decl_name d).at (length (decl_text d)) (none-behind (a ++ b ++ c ++ e ++ f ++ g ++ h) k h8);
    }

-- what all declarations say, behind those before them
pub record CountsDecls (before ds : List Decl) : Type 0 where
  pub apart : AreApart bytes_eq (map decl_text before) (map decl_text ds)
  pub numbers : AreApart number_eq (flat_map decl_number before) (flat_map decl_number ds)
  pub names : length before ≤ 256 → length before + length ds ≤ 256
  pub fram : sum_by fram_words before ≤ 2048 → sum_by fram_words before + sum_by fram_words ds ≤ 2048
  pub ram : sum_by ram_words before ≤ 2048 → sum_by ram_words before + sum_by ram_words ds ≤ 2048
  pub sized : AllByRecursion IsSized ds
  pub bytes : AllByRecursion (λ d. length (decl_text d) ≤ 32) ds

map_more : {A B : Type 0} (f : A → B) (xs : List A) (x : A) → map f (xs ++ x ∷ []) ≡ map f xs ++ f x ∷ []
map_more f [] x = refl
map_more f (y ∷ xs) x = ap (λ zs. f y ∷ zs) (map_more f xs x)

flat_more : {A B : Type 0} (f : A → List B) (xs : List A) (x : A) → flat_map f (xs ++ x ∷ []) ≡ flat_map f xs ++ f x
flat_more f [] x = append-nil (f x)
flat_more f (y ∷ xs) x = ap (λ l. f y ++ l) (flat_more f xs x) ∙ sym (append_assoc (f y) (flat_map f xs) (f x))

pub apart_append : {A : Type 0} (eq : A → A → Bool) (before xs ys : List A) → AreApart eq before xs → AreApart eq (before ++ xs) ys → AreApart eq before (xs ++ ys)
apart_append eq before [] ys h k = subst (λ l. AreApart eq l ys) (append-nil before) k
apart_append eq before (x ∷ xs) ys h k = (h.0, apart_append eq (before ++ x ∷ []) xs ys h.1 (subst (λ l. AreApart eq l ys) (sym (append_assoc before (x ∷ []) xs)) k))

one_decl_more : (before : List Decl) (d : Decl) (ds : List Decl) → CountsDecl before d → CountsDecls (before ++ d ∷ []) ds → CountsDecls before (d ∷ ds)
one_decl_more before d ds one rest = record {
  apart = (one.apart, subst (λ b. AreApart bytes_eq b (map decl_text ds)) (map_more decl_text before d) rest.apart);
  numbers = apart_append number_eq (flat_map decl_number before) (decl_number d) (flat_map decl_number ds) one.numbers (subst (λ b. AreApart number_eq b (flat_map decl_number ds)) (flat_more decl_number before d) rest.numbers);
  names = λ h. omega (arith, one.names, length-append before (d ∷ []), rest.names (omega (arith, one.names, length-append before (d ∷ []))));
  fram = λ h. omega (arith, one.fram, sum_by_push fram_words before d, sum_by-cons fram_words d ds, rest.fram (omega (arith, one.fram, sum_by_push fram_words before d)));
  ram = λ h. omega (arith, one.ram, sum_by_push ram_words before d, sum_by-cons ram_words d ds, rest.ram (omega (arith, one.ram, sum_by_push ram_words before d)));
  sized = (one.sized, rest.sized);
  bytes = (one.bytes, rest.bytes);
}

pub counts_decls : (before ds : List Decl) → decls_faults before ds ≡ [] → CountsDecls before ds
counts_decls before [] none = record { apart = tt; numbers = tt; names = λ h. omega (arith, h); fram = λ h. omega (arith, h); ram = λ h. omega (arith, h); sized = tt; bytes = tt }
counts_decls before (d ∷ ds) none =
    one_decl_more before d ds (counts_decl before d (none-front (decl_faults before d) (decls_faults (before ++ d ∷ []) ds) none))
    (counts_decls (before ++ d ∷ []) ds (none-behind (decl_faults before d) (decls_faults (before ++ d ∷ []) ds) none))

-- a task without a fault
pub record IsSound (names : Meanings) (arrays : List Array) (t : Task) : Type 0 where
  pub bytes : length (task_text t) ≤ 32
  pub inner : inner_faults names arrays t ≡ []
  pub sites : length (task_sites names arrays t) ≤ 128
  pub kept : sum_by site_words (task_sites names arrays t) ≤ 16384

-- what a task without a fault says behind those before it
record CountsTask (names : Meanings) (arrays : List Array) (words : List (List ℕ)) (before : List Task) (t : Task) : Type 0 where
  apart : list_any (bytes_eq (task_text t)) (words ++ map task_text before) ≡ false
  tasks : length before + 1 ≤ MOST_TASKS
  all : length words + length before + 1 ≤ MOST_NAMES
  sound : IsSound names arrays t
  nodes : sum_by nodes_of_task before + nodes_of_task t ≤ MOST_NODES

counts_task : (names : Meanings) (arrays : List Array) (words : List (List ℕ)) (before : List Task) (t : Task) → twice_named (words ++ map task_text before) t.name ≡ []
    → rest_faults names arrays (length words) before t ≡ [] → CountsTask names arrays words before t
counts_task names arrays words before t once none =
    let a = task_limit t.name.at (length before + 1) in
    let b = name_limit t.name.at (length words + length before + 1) in
    let c = bytes_limit t.name in
    let d = inner_faults names arrays t in
    let s = sites_limit t.close (length (task_sites names arrays t)) in
    let k = kept_limit t.close (sum_by site_words (task_sites names arrays t)) in
    let n = node_limit t.close (sum_by nodes_of_task before + nodes_of_task t) in
    let h3 = none-front (a ++ b ++ c ++ d) (s ++ k ++ n) none in
    let close = none-behind (a ++ b ++ c ++ d) (s ++ k ++ n) none in
    let h2 = none-front (a ++ b ++ c) d h3 in
    let h1 = none-front (a ++ b) c h2 in
    let sk = none-front (s ++ k) n close in
    record {
      apart = not_true (list_any (bytes_eq (task_text t)) (words ++ map task_text before)) _ once;
      tasks = within Tasks MOST_TASKS t.name.at (length before + 1) (none-front a b h1);
      all = within Names MOST_NAMES t.name.at (length words + length before + 1) (none-behind a b h1);
      sound = record {
        bytes = within NameBytes LONGEST_NAME t.name.at (length (task_text t)) (none-behind (a ++ b) c h2);
        inner = none-behind (a ++ b ++ c) d h3;
        sites = within Sites MOST_SITES t.close (length (task_sites names arrays t)) (none-front s k sk);
        kept = within KeptWords MOST_KEPT_WORDS t.close (sum_by site_words (task_sites names arrays t)) (none-behind s k sk);
      };
      nodes = within Nodes MOST_NODES t.close (sum_by nodes_of_task before + nodes_of_task t) (none-behind (s ++ k) n close);
    }

-- what all tasks say, behind those before them
pub record CountsTasks (names : Meanings) (arrays : List Array) (words : List (List ℕ)) (before ts : List Task) : Type 0 where
  pub apart : AreApart bytes_eq (words ++ map task_text before) (map task_text ts)
  pub tasks : length before ≤ 64 → length before + length ts ≤ 64
  pub all : length words + length before ≤ 256 → length words + length before + length ts ≤ 256
  pub sound : AllByRecursion (IsSound names arrays) ts
  pub nodes : sum_by nodes_of_task before ≤ 32768 → sum_by nodes_of_task before + sum_by nodes_of_task ts ≤ 32768

one_task_more : (names : Meanings) (arrays : List Array) (words : List (List ℕ)) (before : List Task) (t : Task) (ts : List Task) → CountsTask names arrays words before t
    → CountsTasks names arrays words (before ++ t ∷ []) ts → CountsTasks names arrays words before (t ∷ ts)
one_task_more names arrays words before t ts one rest = record {
  apart = (
    one.apart,
    subst (λ b. AreApart bytes_eq b (map task_text ts)) (ap (λ l. words ++ l) (map_more task_text before t) ∙ sym (append_assoc words (map task_text before) (task_text t ∷ []))) rest.apart,
  );
  tasks = λ h. omega (arith, one.tasks, length-append before (t ∷ []), rest.tasks (omega (arith, one.tasks, length-append before (t ∷ []))));
  all = λ h. omega (arith, one.all, length-append before (t ∷ []), rest.all (omega (arith, one.all, length-append before (t ∷ []))));
  sound = (one.sound, rest.sound);
  nodes = λ h. omega (arith, one.nodes, sum_by_push nodes_of_task before t, sum_by-cons nodes_of_task t ts, rest.nodes (omega (arith, one.nodes, sum_by_push nodes_of_task before t)));
}

pub counts_tasks : (names : Meanings) (arrays : List Array) (words : List (List ℕ)) (before ts : List Task) → tasks_faults names arrays words before ts ≡ [] → CountsTasks names arrays words before ts
counts_tasks names arrays words before [] none = record { apart = tt; tasks = λ h. omega (arith, h); all = λ h. omega (arith, h); sound = tt; nodes = λ h. omega (arith, h) }
counts_tasks names arrays words before (t ∷ ts) none =
    let a = twice_named (words ++ map task_text before) t.name in
    let b = rest_faults names arrays (length words) before t in
    let c = tasks_faults names arrays words (before ++ t ∷ []) ts in
    let front = none-front (a ++ b) c none in
    one_task_more names arrays words before t ts (counts_task names arrays words before t (none-front a b front) (none-behind a b front))
    (counts_tasks names arrays words (before ++ t ∷ []) ts (none-behind (a ++ b) c none))

abbrev array_fram : Array → ℕ
array_fram a = fram_size a.kind (length a.first)

abbrev array_ram : Array → ℕ
array_ram a = ram_size a.kind (length a.first)

-- the array of a declaration of words
abbrev made_array : Kind → Name → Option ℕ → List ℕ → Array
made_array kind x size values = record { name = x.text; kind = kind; first = first_words (size_words size) values }

pub fram_counted : (ds : List Decl) → AllByRecursion IsSized ds → sum_by array_fram (flat_map core_arrays ds) ≡ sum_by fram_words ds
fram_counted [] sized = refl
fram_counted (decl.Words kind x size values ∷ ds) sized =
    sum_by-cons array_fram (made_array kind x size values) (flat_map core_arrays ds)
    ∙ (λ i. fram_size kind (first_length (size_words size) values sized.0.1 i) + fram_counted ds sized.1 i)
    ∙ sym (sum_by-cons fram_words (decl.Words kind x size values) ds)
fram_counted (decl.Pointer x ∷ ds) sized = omega (arith, fram_counted ds sized.1, sum_by-cons fram_words (decl.Pointer x) ds)
fram_counted (decl.Peripheral x number ∷ ds) sized = omega (arith, fram_counted ds sized.1, sum_by-cons fram_words (decl.Peripheral x number) ds)

pub ram_counted : (ds : List Decl) → AllByRecursion IsSized ds → sum_by array_ram (flat_map core_arrays ds) ≡ sum_by ram_words ds
ram_counted [] sized = refl
ram_counted (decl.Words kind x size values ∷ ds) sized =
    sum_by-cons array_ram (made_array kind x size values) (flat_map core_arrays ds)
    ∙ (λ i. ram_size kind (first_length (size_words size) values sized.0.1 i) + ram_counted ds sized.1 i)
    ∙ sym (sum_by-cons ram_words (decl.Words kind x size values) ds)
ram_counted (decl.Pointer x ∷ ds) sized = omega (arith, ram_counted ds sized.1, sum_by-cons ram_words (decl.Pointer x) ds)
ram_counted (decl.Peripheral x number ∷ ds) sized = omega (arith, ram_counted ds sized.1, sum_by-cons ram_words (decl.Peripheral x number) ds)

-- Each array is small where the sums are.
one_small : (kind : Kind) (n rest_fram rest_ram : ℕ) → fram_size kind n + rest_fram ≤ 2048 → ram_size kind n + rest_ram ≤ 2048 → n ≤ 2048
one_small Nv n f r h k = omega (arith, h)
one_small Const n f r h k = omega (arith, h)
one_small Vol n f r h k = omega (arith, k)

pub all_small : (arrays : List Array) → sum_by array_fram arrays ≤ 2048 → sum_by array_ram arrays ≤ 2048 → AllByRecursion IsSmall arrays
all_small [] h k = tt
all_small (a ∷ arrays) h k =
    let f = sum_by-cons array_fram a arrays in
    let r = sum_by-cons array_ram a arrays in
    (one_small a.kind (length a.first) (sum_by array_fram arrays) (sum_by array_ram arrays) (omega (arith, h, f)) (omega (arith, k, r)), all_small arrays (omega (arith, h, f)) (omega (arith, k, r)))

-- the arrays of declarations without a fault
pub arrays_small : (ds : List Decl) → decls_faults [] ds ≡ [] → AllByRecursion IsSmall (flat_map core_arrays ds)
arrays_small ds none =
    let h = counts_decls [] ds none in
    all_small (flat_map core_arrays ds) (omega (arith, fram_counted ds h.sized, h.fram (omega arith))) (omega (arith, ram_counted ds h.sized, h.ram (omega arith)))
