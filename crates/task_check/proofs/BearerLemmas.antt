-- A task's name is one of an earlier declaration or task exactly where its first bearer is another.
use Rattle.std.proofs.Common.{◌≡◌, ℕ, ◌+◌, ◌<◌, ◌==◌, Bool, true, false, ◌||◌, List, [], ◌∷◌, ◌++◌, length, map, sum_by, Option, Some, None, is_some, IfSome, refl, sym, ap, ◌∙◌, arith, if◌then◌else◌, bytes_eq, append_assoc, length-append}
use Rattle.std.specs.List.{AllByRecursion, list_any}
use Rattle.std.specs.Cmp.Lexicographic.{bytes_decides}
use Rattle.std.proofs.lemmas.List.{map-append, length-map}
use Rattle.std.proofs.lemmas.List.Sums.{sum_by_push}
use Rattle.ease_base.specs.declared.place.Pos.{Pos}
use Rattle.task_ast.specs.declared.tree.Decl.{Decl}
use Rattle.task_ast.specs.declared.tree.Decl.TheVariants as decl
use Rattle.task_ast.specs.declared.tree.Task.{Task}
use Rattle.task_ast.specs.declared.tree.Program.{Program}
use Rattle.task_ast.specs.declared.core_form.Array.{Array}
use Rattle.task_check.specs.declared.error.CheckError.{CheckError}
use Rattle.task_check.specs.declared.error.CheckError.TheVariants.{TwiceNamed}
use Rattle.task_check.specs.declared.names.Numbers.{Numbers}
use Rattle.task_check.specs.declared.names.Meaning.{Meaning}
use Rattle.task_check.specs.declared.names.Meaning.TheVariants as meaning
use Rattle.task_check.specs.Names.{Declared, Meanings, or_else, look_up, decl_text, decl_meaning, task_text, none_yet, with_decl, declared_words, declared_tasks, names_of}
use Rattle.task_check.specs.Refusals.{where_true, twice_named}
use Rattle.task_check.specs.Limits.{task_limit, name_limit, bytes_limit}
use Rattle.task_check.specs.Nodes.{nodes_of_task}
use Rattle.task_check.specs.Faults.{inner_faults, close_faults, tasks_faults}
use Rattle.task_check.specs.Bearers.{other_bearer}
use Rattle.task_check.specs.Counted.{tasks_at}
use Rattle.task_check.proofs.NameLemmas.{look_up-append}
use Rattle.task_check.proofs.MeaningLemmas.{all-append, found_holds}

-- a task among these has a number below n
abbrev pub IsBelow : ℕ → Meaning → Type 0
IsBelow n (meaning.Scalar a kind) = Unit {0}
IsBelow n (meaning.Array a kind) = Unit {0}
IsBelow n (meaning.Pointer p) = Unit {0}
IsBelow n (meaning.Peripheral p) = Unit {0}
IsBelow n (meaning.Task t) = t < n

-- the declared texts
abbrev pub texts_of : List Declared → List (List ℕ)
texts_of ds = map (λ d. d.0) ds

-- a text is among the declared ones exactly where it is found
among : (ds : List Declared) (q : List ℕ) → list_any (bytes_eq q) (texts_of ds) ≡ is_some (look_up ds q)
among [] q = refl
among (d ∷ ds) q = by (bytes_eq q d.0) (among ds q)
  where
    by : (b : Bool) → list_any (bytes_eq q) (texts_of ds) ≡ is_some (look_up ds q) → (b || list_any (bytes_eq q) (texts_of ds)) ≡ is_some (if b then Some d.1 else look_up ds q)
    by true h = refl
    by false h = h

same_number : (n : ℕ) → (n == n) ≡ true
same_number n = grind arith

other_number : (t n : ℕ) → t < n → (t == n) ≡ false
other_number t n h = grind arith

-- the first bearer among earlier names and this task decides
by_bearer : (at : Pos) (n : ℕ) (o : Option Meaning) → IfSome o (IsBelow n) → other_bearer at n (or_else o (Some (meaning.Task n))) ≡ where_true (is_some o) (TwiceNamed at)
by_bearer at n None h = ap (λ b. if b then [] else TwiceNamed at ∷ []) (same_number n)
by_bearer at n (Some (meaning.Scalar a kind)) h = refl
by_bearer at n (Some (meaning.Array a kind)) h = refl
by_bearer at n (Some (meaning.Pointer p)) h = refl
by_bearer at n (Some (meaning.Peripheral p)) h = refl
by_bearer at n (Some (meaning.Task t)) h = ap (λ b. if b then [] else TwiceNamed at ∷ []) (other_number t n h)

still_below : (n : ℕ) (ds : List Declared) → AllByRecursion (λ d. IsBelow n d.1) ds → AllByRecursion (λ d. IsBelow (n + 1) d.1) ds
still_below n [] h = tt
still_below n (d ∷ ds) h = (more d.1 h.0, still_below n ds h.1)
  where
    more : (m : Meaning) → IsBelow n m → IsBelow (n + 1) m
    more (meaning.Scalar a kind) k = tt
    more (meaning.Array a kind) k = tt
    more (meaning.Pointer p) k = tt
    more (meaning.Peripheral p) k = tt
    more (meaning.Task t) k = omega arith

-- a task as a declared name
abbrev named : Task → ℕ → Declared
named t n = (t.name.text, meaning.Task n)

-- the first of six parts stands before the other five
front_out : (a b c d e f : List CheckError) → (a ++ b ++ c ++ d) ++ e ++ f ≡ a ++ (b ++ c ++ d ++ e ++ f)
front_out [] b c d e f = refl
front_out (x ∷ a) b c d e f = ap (λ (l : List CheckError). x ∷ l) (front_out a b c d e f)

-- the faults of tasks by counts are those behind the tasks before them
pub counted_is : (names : Meanings) (arrays : List Array) (texts : List (List ℕ)) (earlier : List Declared) (before : List Task) (number nodes : ℕ) (ts : List Task)
    → number ≡ length before → nodes ≡ sum_by nodes_of_task before → texts_of earlier ≡ texts ++ map task_text before
    → AllByRecursion (λ d. IsBelow (number + 1) d.1) earlier → names ≡ look_up (earlier ++ declared_tasks (number + 1) ts)
    → tasks_at names arrays (length texts) number nodes ts ≡ tasks_faults names arrays texts before ts
counted_is names arrays texts earlier before number nodes [] at_number at_nodes at_texts below is = refl
counted_is names arrays texts earlier before number nodes (t ∷ ts) at_number at_nodes at_texts below is =
    (λ i. ((name i ++ task_limit t.name.at (at_number i + 1) ++ name_limit t.name.at (sum i) ++ bytes_limit t.name) ++ inner_faults names arrays t ++ close_faults names arrays (at_nodes i) t)
    ++ counted_is names arrays texts (earlier ++ named t (number + 1) ∷ []) (before ++ t ∷ []) (number + 1) (nodes + nodes_of_task t) ts more_tasks more_nodes more_texts all_below longer i)
    ∙ ap (λ (l : List CheckError). l ++ tasks_faults names arrays texts (before ++ t ∷ []) ts)
    (front_out (twice_named (texts ++ map task_text before) t.name) (task_limit t.name.at (length before + 1)) (name_limit t.name.at (length texts + length before + 1)) (bytes_limit t.name) (inner_faults names arrays t) (close_faults names arrays (sum_by nodes_of_task before) t))
  where
    sum : length texts + (number + 1) ≡ length texts + length before + 1
    sum = omega (arith, at_number)

    found : names t.name.text ≡ or_else (look_up earlier t.name.text) (Some (meaning.Task (number + 1)))
    found =
        ap (λ (f : Meanings). f t.name.text) is
        ∙ look_up-append earlier (named t (number + 1) ∷ declared_tasks (number + 1 + 1) ts) t.name.text
        ∙ ap (λ b. or_else (look_up earlier t.name.text) (if b then Some (meaning.Task (number + 1)) else look_up (declared_tasks (number + 1 + 1) ts) t.name.text)) ((bytes_decides t.name.text t.name.text).1 refl)

    name : other_bearer t.name.at (number + 1) (names t.name.text) ≡ twice_named (texts ++ map task_text before) t.name
    name =
        ap (other_bearer t.name.at (number + 1)) found
        ∙ by_bearer t.name.at (number + 1) (look_up earlier t.name.text) (found_holds (IsBelow (number + 1)) earlier below t.name.text)
        ∙ ap (λ b. where_true b (TwiceNamed t.name.at)) (sym (among earlier t.name.text))
        ∙ ap (λ (l : List (List ℕ)). twice_named l t.name) at_texts

    more_tasks : number + 1 ≡ length (before ++ t ∷ [])
    more_tasks = omega (arith, at_number, length-append before (t ∷ []))

    more_nodes : nodes + nodes_of_task t ≡ sum_by nodes_of_task (before ++ t ∷ [])
    more_nodes = ap (λ (n : ℕ). n + nodes_of_task t) at_nodes ∙ sym (sum_by_push nodes_of_task before t)

    more_texts : texts_of (earlier ++ named t (number + 1) ∷ []) ≡ texts ++ map task_text (before ++ t ∷ [])
    more_texts =
        map-append (λ d. d.0) earlier (named t (number + 1) ∷ [])
        ∙ ap (λ (l : List (List ℕ)). l ++ t.name.text ∷ []) at_texts
        ∙ append_assoc texts (map task_text before) (t.name.text ∷ [])
        ∙ ap (λ (l : List (List ℕ)). texts ++ l) (sym (map-append task_text before (t ∷ [])))

    all_below : AllByRecursion (λ d. IsBelow (number + 1 + 1) d.1) (earlier ++ named t (number + 1) ∷ [])
    all_below =
        let P : Declared → Type 0 = λ d. IsBelow (number + 1 + 1) d.1 in
        all-append P earlier (named t (number + 1) ∷ []) (still_below (number + 1) earlier below) (omega arith, tt)

    longer : names ≡ look_up ((earlier ++ named t (number + 1) ∷ []) ++ declared_tasks (number + 1 + 1) ts)
    longer = is ∙ ap look_up (sym (append_assoc earlier (named t (number + 1) ∷ []) (declared_tasks (number + 1 + 1) ts)))

words_below : (n : ℕ) (k : Numbers) (d : Decl) → IsBelow n (decl_meaning k d)
words_below n k (decl.Words kind x None values) = tt
words_below n k (decl.Words kind x (Some size) values) = tt
words_below n k (decl.Pointer x) = tt
words_below n k (decl.Peripheral x number) = tt

decls_below : (n : ℕ) (k : Numbers) (ds : List Decl) → AllByRecursion (λ d. IsBelow n d.1) (declared_words k ds)
decls_below n k [] = tt
decls_below n k (d ∷ ds) = (words_below n k d, decls_below n (with_decl k d) ds)

texts_declared : (k : Numbers) (ds : List Decl) → texts_of (declared_words k ds) ≡ map decl_text ds
texts_declared k [] = refl
texts_declared k (d ∷ ds) = ap (λ (l : List (List ℕ)). decl_text d ∷ l) (texts_declared (with_decl k d) ds)

append_none : {Y : Type 0} (l : List Y) → l ++ [] ≡ l
append_none [] = refl
append_none (z ∷ zs) = ap (λ t. z ∷ t) (append_none zs)

-- the faults of a program's tasks, by counts
pub task_faults_are : (p : Program) (arrays : List Array) → tasks_at (names_of p) arrays (length p.decls) 0 0 p.tasks ≡ tasks_faults (names_of p) arrays (map decl_text p.decls) [] p.tasks
task_faults_are p arrays =
    ap (λ (n : ℕ). tasks_at (names_of p) arrays n 0 0 p.tasks) (sym (length-map p.decls decl_text))
    ∙ counted_is (names_of p) arrays (map decl_text p.decls) (declared_words none_yet p.decls) [] 0 0 p.tasks refl refl
    (texts_declared none_yet p.decls ∙ sym (append_none (map decl_text p.decls))) (decls_below 1 none_yet p.decls) refl
