-- Declarations that a loop has come through as far as a place.
use Rattle.std.proofs.Common.{◌≡◌, ℕ, ◌+◌, ◌<◌, Bool, true, false, List, [], ◌∷◌, ◌++◌, length, take, drop, get_or, map, sum_by, Some, is_some, refl, sym, ap, ◌∙◌, arith, length-take-le, append_assoc}
use Rattle.task_ast.specs.declared.tree.Decl.{Decl}
use Rattle.task_ast.specs.declared.tree.Task.{Task}
use Rattle.task_check.specs.declared.error.CheckError.{CheckError}
use Rattle.task_check.specs.declared.error.CheckError.TheVariants.{TwiceNamed}
use Rattle.task_check.specs.declared.names.Meaning.TheVariants as meaning
use Rattle.task_check.specs.declared.names.Numbers.{Numbers}
use Rattle.task_check.specs.Names.{Meanings, look_up, extended, decl_name, decl_text, decl_meaning, with_decl, with_decls, none_yet, declared_words, declared_tasks}
use Rattle.task_check.specs.Refusals.{where_true, twice_named, decl_number, twice_numbered, too_many_values}
use Rattle.task_check.specs.Limits.{name_limit, nv_limit, vol_limit, length_limit, bytes_limit, number_limit, fram_words, ram_words}
use Rattle.task_check.specs.Faults.{decls_faults, first}
use Rattle.task_check.specs.Counted.{decl_at}
use Rattle.std.specs.List.{AllByRecursion, flat_map}
use Rattle.std.proofs.lemmas.List.{append-nil}
use Rattle.task_check.proofs.FirstLemmas.{IsFirst, first-front}
use Rattle.task_check.proofs.ListLemmas.{rest_is, front_is}
use Rattle.task_check.proofs.NameLemmas.{look_up-extended, extended-twice, declared_words-push, with_decls-push, declared_tasks-push, among_declared}

flat_map_push : {A B : Type 0} (f : A → List B) (xs : List A) (x : A) → flat_map f (xs ++ x ∷ []) ≡ flat_map f xs ++ f x
flat_map_push f [] x = append-nil (f x)
flat_map_push f (y ∷ xs) x = ap (λ l. f y ++ l) (flat_map_push f xs x) ∙ sym (append_assoc (f y) (flat_map f xs) (f x))

-- what holds of two lists holds of both behind one another
pub all_append : {A : Type 0} (P : A → Type 0) (xs ys : List A) → AllByRecursion P xs → AllByRecursion P ys → AllByRecursion P (xs ++ ys)
all_append P [] ys h k = k
all_append P (x ∷ xs) ys h k = (h.0, all_append P xs ys h.1 k)

-- the first of nine parts stands before the other eight
front_out : (a b c d e f g h k : List CheckError) → a ++ b ++ c ++ d ++ e ++ f ++ g ++ h ++ k ≡ a ++ (b ++ c ++ d ++ e ++ f ++ g ++ h ++ k)
front_out [] b c d e f g h k = refl
front_out (x ∷ a) b c d e f g h k = ap (λ (l : List CheckError). x ∷ l) (front_out a b c d e f g h k)

module _ (all : List Decl) (i : ℕ) (d : Decl) (within : i < length all) (is : d ≡ get_or all i d)
    (names : Meanings) (table : names ≡ look_up (declared_words none_yet (take i all))) where
  named : Bool → List CheckError
  named b = where_true b (TwiceNamed (decl_name d).at)

  twice_is : twice_named (map decl_text (take i all)) (decl_name d) ≡ named (is_some (names (decl_text d)))
  unfolding named
  twice_is = ap named (among_declared none_yet (take i all) (decl_text d) ∙ ap (λ (n : Meanings). is_some (n (decl_text d))) (sym table))

  -- with one more declaration the table is as long as the front
  pub word_declared : (n : Numbers) (after : Meanings) → n ≡ with_decls none_yet (take i all) → after ≡ extended names ((decl_text d, decl_meaning n d) ∷ []) → after ≡ look_up (declared_words none_yet (take (i + 1) all))
  word_declared n after same at_after =
      at_after
      ∙ (λ j. extended (table j) ((decl_text d, decl_meaning (same j) d) ∷ []))
      ∙ sym (look_up-extended (declared_words none_yet (take i all)) ((decl_text d, decl_meaning (with_decls none_yet (take i all)) d) ∷ []))
      ∙ ap look_up (sym (ap (declared_words none_yet) (front_is all i d within is) ∙ declared_words-push none_yet (take i all) d))

  -- and the numbers are further
  pub numbers_after : (n after : Numbers) → n ≡ with_decls none_yet (take i all) → after ≡ with_decl n d → after ≡ with_decls none_yet (take (i + 1) all)
  numbers_after n after same at_after = at_after ∙ ap (λ m. with_decl m d) same ∙ sym (ap (with_decls none_yet) (front_is all i d within is) ∙ with_decls-push none_yet (take i all) d)

  pub taken_more : (taken after : List ℕ) → taken ≡ flat_map decl_number (take i all) → after ≡ taken ++ decl_number d → after ≡ flat_map decl_number (take (i + 1) all)
  taken_more taken after same at_after =
      at_after ∙ ap (λ l. l ++ decl_number d) same ∙ sym (ap (flat_map decl_number) (front_is all i d within is) ∙ flat_map_push decl_number (take i all) d)

  module _ (taken : List ℕ) (fram ram : ℕ) (at_taken : taken ≡ flat_map decl_number (take i all)) (at_fram : fram ≡ sum_by fram_words (take i all)) (at_ram : ram ≡ sum_by ram_words (take i all))
      (left : decls_faults [] all ≡ decls_faults (take i all) (drop i all)) where
    rest_counted : decl_at (length (take i all) + 1) (flat_map decl_number (take i all)) (sum_by fram_words (take i all)) (sum_by ram_words (take i all)) d ≡ decl_at (i + 1) taken fram ram d
    rest_counted = let n : length (take i all) ≡ i = omega (arith, within, length-take-le i all) in λ j. decl_at (n j + 1) (sym at_taken j) (sym at_fram j) (sym at_ram j) d

    faults_are : decls_faults [] all ≡ named (is_some (names (decl_text d))) ++ decl_at (i + 1) taken fram ram d ++ decls_faults (take (i + 1) all) (drop (i + 1) all)
    faults_are =
        left ∙ ap (decls_faults (take i all)) (rest_is all i d within is)
        ∙ (λ j. front_out (twice_named (map decl_text (take i all)) (decl_name d)) (twice_numbered (flat_map decl_number (take i all)) d) (too_many_values d) (name_limit (decl_name d).at (length (take i all) + 1)) (nv_limit (decl_name d).at (sum_by fram_words (take i all) + fram_words d)) (vol_limit (decl_name d).at (sum_by ram_words (take i all) + ram_words d)) (length_limit d) (bytes_limit (decl_name d)) (number_limit d) j
        ++ decls_faults (sym (front_is all i d within is) j) (drop (i + 1) all))
        ∙ (λ j. twice_is j ++ rest_counted j ++ decls_faults (take (i + 1) all) (drop (i + 1) all))

    -- a name that the table has is the first fault
    pub twice_here : is_some (names (decl_text d)) ≡ true → first (decls_faults [] all) ≡ Some (TwiceNamed (decl_name d).at)
    unfolding named
    twice_here known = ap first faults_are ∙ ap (λ b. first (named b ++ decl_at (i + 1) taken fram ram d ++ decls_faults (take (i + 1) all) (drop (i + 1) all))) known

    module _ (new : is_some (names (decl_text d)) ≡ false) where
      new_faults : decls_faults [] all ≡ decl_at (i + 1) taken fram ram d ++ decls_faults (take (i + 1) all) (drop (i + 1) all)
      unfolding named
      new_faults = faults_are ∙ ap (λ b. named b ++ decl_at (i + 1) taken fram ram d ++ decls_faults (take (i + 1) all) (drop (i + 1) all)) new

      -- a new name's further fault is the first
      pub fault_here : (e : CheckError) → IsFirst e (decl_at (i + 1) taken fram ram d) → IsFirst e (decls_faults [] all)
      fault_here e h apart = ap first new_faults ∙ first-front _ _ e (h apart)

      -- a new name without a fault leaves the faults behind it
      pub once_here : decl_at (i + 1) taken fram ram d ≡ [] → decls_faults [] all ≡ decls_faults (take (i + 1) all) (drop (i + 1) all)
      once_here none = new_faults ∙ ap (λ (l : List CheckError). l ++ decls_faults (take (i + 1) all) (drop (i + 1) all)) none

-- with one more task the table is as long as the front
pub task_declared : (all : List Task) (i : ℕ) (t : Task) (k : ℕ) (initial names after : Meanings) → i < length all → t ≡ get_or all i t → k ≡ i + 1
    → names ≡ extended initial (declared_tasks 1 (take i all)) → after ≡ extended names ((t.name.text, meaning.Task k) ∷ [])
    → after ≡ extended initial (declared_tasks 1 (take (i + 1) all))
task_declared all i t k initial names after within is same at_names at_after =
    at_after
    ∙ ap (λ (n : Meanings). extended n ((t.name.text, meaning.Task k) ∷ [])) at_names
    ∙ extended-twice initial (declared_tasks 1 (take i all)) ((t.name.text, meaning.Task k) ∷ [])
    ∙ ap (extended initial) (sym (ap (declared_tasks 1) (front_is all i t within is) ∙ declared_tasks-push 1 k (take i all) t (omega (arith, same, within, length-take-le i all))))
