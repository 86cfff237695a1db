-- Lists of sites, and the sites that a run may meet.
use Rattle.std.proofs.Common.{◌≡◌, ℕ, zero, suc, Bool, true, false, ◌||◌, ◌==◌, List, [], ◌∷◌, ◌++◌, Result, Ok, Err, refl, sym, ap, ◌∙◌}
use Rattle.std.specs.Prelude.{⊤}
use Rattle.attempt_laws.specs.Records.{IsOnce, acts_in, all_acts_in, row_acts_in}
use Rattle.io_depend.specs.Sets.{has}
use Rattle.io_flow.specs.Written.{Includes}
use Rattle.io_flow.proofs.FlowLaws.{not_in}
use Rattle.io_flow.proofs.FlowMeets.{append_left, append_right}
use Rattle.io_flow.specs.Replay.{Upto, all_until, args_found, meets, met, over, place_found, row_until, stopped, unmet, until, upto_found, upto_then}
use Rattle.task_ast.specs.declared.core_form.CoreStmt.{CoreStmt, Row_of-CoreStmt, end_of-CoreStmt, more_of-CoreStmt}
use Rattle.task_attempts.specs.Copies.{words_at}
use Rattle.task_attempts.specs.State.{Valued, arguments, range}
use Rattle.walk_run.specs.Plain.{Ran, chosen, done, plain_done, trapped}
use Rattle.walk_run.specs.Store.{Store}
use Rattle.walk_run.specs.Value.{end_place, value_of, with_room}
use Rattle.walk_run.specs.declared.trap.Trap.{Trap}
use Rattle.task_ast.specs.declared.core_form.CoreStmt.TheVariants as stmt

-- ---- lists of sites

pub not_both : (b : Bool) → b ≡ true → b ≡ false → {A : Type 0} → A
not_both b is not_is = absurd (let e : true ≡ false = sym is ∙ not_is in cc e)

pub once_back : (xs ys : List ℕ) → IsOnce (xs ++ ys) → IsOnce ys
once_back [] ys once = once
once_back (x ∷ xs) ys once = once_back xs ys once.1

pub skip_has : (xs ys zs : List ℕ) → Includes (xs ++ zs) (xs ++ (ys ++ zs))
skip_has [] ys zs n there = append_right ys zs n there
skip_has (x ∷ xs) ys zs n there = by_front (x == n) there (skip_has xs ys zs n)
  where
    by_front : (b : Bool) → (b || has (xs ++ zs) n) ≡ true → (has (xs ++ zs) n ≡ true → has (xs ++ (ys ++ zs)) n ≡ true) → (b || has (xs ++ (ys ++ zs)) n) ≡ true
    by_front true there more = refl
    by_front false there more = more there

pub once_skip : (xs ys zs : List ℕ) → IsOnce (xs ++ (ys ++ zs)) → IsOnce (xs ++ zs)
once_skip [] ys zs once = once_back ys zs once
once_skip (x ∷ xs) ys zs once = (not_in (xs ++ zs) (xs ++ (ys ++ zs)) (skip_has xs ys zs) x once.0, once_skip xs ys zs once.1)

pub append_joins : (xs ys zs : List ℕ) → (xs ++ ys) ++ zs ≡ xs ++ (ys ++ zs)
append_joins [] ys zs = refl
append_joins (x ∷ xs) ys zs = ap {B = List ℕ} (λ l. x ∷ l) (append_joins xs ys zs)

-- ---- a site that is met is an I/O site or a copy of the text

-- it is met only where this holds
abbrev pub OnlyMet : Bool → Upto → Type 0
OnlyMet b (over store) = ⊤
OnlyMet b (met v) = b ≡ true
OnlyMet b (stopped code) = ⊤

met_found : {A : Type 0} (b : Bool) (r : Result A Trap) (f : A → Upto) → ((x : A) → OnlyMet b (f x)) → OnlyMet b (upto_found r f)
met_found b (Ok x) f only = only x
met_found b (Err code) f only = tt

met_then : (b : Bool) (u : Upto) (f : Store → Upto) → OnlyMet b u → ((s : Store) → OnlyMet b (f s)) → OnlyMet b (upto_then u f)
met_then b (over store) f only next = next store
met_then b (met v) f only next = only
met_then b (stopped code) f only next = tt

met_chosen : (b : Bool) (word : ℕ) (f g : Store → Upto) (x : Store) → OnlyMet b (f x) → OnlyMet b (g x) → OnlyMet b (chosen word f g x)
met_chosen b zero f g x yes_met no_met = no_met
met_chosen b (suc n) f g x yes_met no_met = yes_met

met_unmet : (b : Bool) (r : Ran) → OnlyMet b (unmet r)
met_unmet b (done store) = tt
met_unmet b (trapped code store) = tt

met_more : (b d : Bool) (u : Upto) → (b ≡ true → d ≡ true) → OnlyMet b u → OnlyMet d u
met_more b d (over store) more only = tt
met_more b d (met v) more only = more only
met_more b d (stopped code) more only = tt

met_meets : (b : Bool) (v : Valued) (s : Store) → OnlyMet (b || false) (meets b v s)
met_meets true v s = refl
met_meets false v s = tt

mutual
  only_met : (k : ℕ) (r : (ℕ → ℕ)) (s : CoreStmt) (x : Store) → OnlyMet (has (acts_in s) k) (until k r s x)
  only_met k r (stmt.Assign target e) x = met_unmet _ (plain_done (stmt.Assign target e) x)
  only_met k r (stmt.Point pointer array index) x = met_unmet _ (plain_done (stmt.Point pointer array index) x)
  only_met k r (stmt.If' c size_a a size_b b) x =
      met_found _ (value_of c x) _ (λ word. met_chosen _ word (row_until k r a) (row_until k r b) x
      (met_more _ _ (row_until k r a x) (append_left (row_acts_in a) (row_acts_in b) k) (row_only_met k r a x))
      (met_more _ _ (row_until k r b x) (append_right (row_acts_in a) (row_acts_in b) k) (row_only_met k r b x)))
  only_met k r (stmt.Loop' variable turns size body) x = met_unmet _ (plain_done (stmt.Loop' variable turns size body) x)
  only_met k r (stmt.Io j target peripheral args) x = met_found _ (place_found target x) _ (λ at. met_found _ (args_found args x) _ (λ words. met_meets (j == k) (arguments words) _))
  only_met k r (stmt.Block' j size body) x = row_only_met k r body x
  only_met k r (stmt.Copy j to from words) x =
      met_found _ (end_place to x) _ (λ t. met_found _ (end_place from x) _ (λ f. met_found _ (value_of words x) _ (λ n.
      met_found _ (with_room x t n) _ (λ _. met_found _ (with_room x f n) _ (λ _. met_meets (j == k) (range t f (words_at x f n)) _)))))

  pub row_only_met : (k : ℕ) (r : (ℕ → ℕ)) {size : _} (b : Row_of-CoreStmt size) (x : Store) → OnlyMet (has (row_acts_in b) k) (row_until k r b x)
  row_only_met k r end_of-CoreStmt x = tt
  row_only_met k r (more_of-CoreStmt s rest) x =
      met_then _ (until k r s x) (row_until k r rest)
      (met_more _ _ (until k r s x) (append_left (acts_in s) (row_acts_in rest) k) (only_met k r s x))
      (λ y. met_more _ _ (row_until k r rest y) (append_right (acts_in s) (row_acts_in rest) k) (row_only_met k r rest y))

pub all_only_met : (k : ℕ) (r : (ℕ → ℕ)) (b : List CoreStmt) (x : Store) → OnlyMet (has (all_acts_in b) k) (all_until k r b x)
all_only_met k r [] x = tt
all_only_met k r (s ∷ rest) x =
    met_then _ (until k r s x) (all_until k r rest)
    (met_more _ _ (until k r s x) (append_left (acts_in s) (all_acts_in rest) k) (only_met k r s x))
    (λ y. met_more _ _ (all_until k r rest y) (append_right (acts_in s) (all_acts_in rest) k) (all_only_met k r rest y))
