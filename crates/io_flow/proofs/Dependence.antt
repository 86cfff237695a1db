-- Dependence: two runs of a task that agree on all I/O sites which may flow into a site agree at that site.
use Rattle.io_flow.specs.Written.{IsWithin}
use Rattle.std.proofs.Common.{◌≡◌, ℕ, Bool, true, false, not, ◌==◌, None, refl, sym, ap, subst, ◌∙◌, eq-eqb, eqb-true}
use Rattle.io_depend.specs.Depend.{flow}
use Rattle.io_depend.specs.Flow.{Carrying, all_passed, no_carrying}
use Rattle.io_depend.specs.Sets.{has}
use Rattle.io_flow.proofs.FlowLaws.{Same}
use Rattle.io_flow.proofs.FlowMeets.{Meet, all_meets}
use Rattle.io_flow.proofs.FlowSites.{Differ}
use Rattle.io_flow.proofs.FlowUnion.{Covered, Sound, sound_all_passed}
use Rattle.io_flow.specs.Laws.{AgreeAt, AgreeInto, PointsNowhere}
use Rattle.io_flow.specs.Replay.{Upto, over, met, stopped, all_until}
use Rattle.task_ast.specs.Pointing.{Pointing, pointing}
use Rattle.task_ast.specs.declared.core_form.CoreTask.{CoreTask}
use Rattle.walk_run.specs.Store.{Store, pointed, unset}

-- the sites at which two readings differ
abbrev pub differing : (r r' : ℕ → ℕ) → ℕ → Bool
differing r r' a = not (r a == r' a)

differ : (r r' : ℕ → ℕ) → Differ (differing r r') r r'
differ r r' k is = by_equal (r k == r' k) refl is
  where
    by_equal : (b : Bool) → (r k == r' k) ≡ b → not b ≡ false → r k ≡ r' k
    by_equal true e n = eqb-true (r k) (r' k) e
    by_equal false e n = absurd (cc n)

sound_clean : (sources : ℕ → Bool) → Sound sources no_carrying (λ a. no_carrying)
sound_clean sources = record { arrays = λ n. none; pointers = λ n. none; sites = λ n. none }
  where
    none : Covered sources false (λ a. false)
    none = record { one = λ is. absurd (cc is) }

-- the site isn't found from the differing ones, where the readings agree on those from which it is found
not_found : (t : CoreTask) (k : ℕ) (r r' : ℕ → ℕ) → ((a : ℕ) → has (flow t a).sites k ≡ true → r a ≡ r' a) → has (all_passed (pointing t) (differing r r') t.body false no_carrying).sites k ≡ false
not_found t k r r' agree = by_found (has (all_passed (pointing t) (differing r r') t.body false no_carrying).sites k) refl
  where
    by_found : (b : Bool) → has (all_passed (pointing t) (differing r r') t.body false no_carrying).sites k ≡ b → b ≡ false
    by_found false is = refl
    by_found true is =
        let none : Covered (differing r r') false (λ a. false) = record { one = λ is. absurd (cc is) } in
        let sound = sound_all_passed (differing r r') (pointing t) t.body false (λ a. false) no_carrying (λ a. no_carrying) none (sound_clean (differing r r')) in
        let one = (sound.sites k).one is in
        let no : true ≡ false = sym one.1 ∙ ap not (eq-eqb (r one.0) (r' one.0) (agree one.0 one.2)) in
        absurd (cc no)

-- a store in which pointers point to nothing, as an attempt begins with
same_store : (t : CoreTask) (store : Store) → ((p : ℕ) → pointed store p ≡ None) → Same (pointing t) no_carrying store store
same_store t store unset = record { words = λ a is. refl; rooms = λ a. refl; places = λ p is. refl; many = refl; within = within; within' = within }
  where
    within : (p : ℕ) → IsWithin (pointing t p) (pointed store p)
    within p = subst (IsWithin (pointing t p)) (sym (unset p)) tt

-- Two runs of a task from one store agree at a site, where neither traps before it: on whether it is reached, and on its arguments,
-- or its ends and words.
pub dependence : (t : CoreTask) (k : ℕ) (r r' : ℕ → ℕ) → ((a : ℕ) → has (flow t a).sites k ≡ true → r a ≡ r' a) → (store : Store) → ((p : ℕ) → pointed store p ≡ None)
    → Meet (pointing t) (all_passed (pointing t) (differing r r') t.body false no_carrying) (all_until k r t.body store) (all_until k r' t.body store)
dependence t k r r' agree store unset =
    all_meets (pointing t) (differing r r') k r r' (differ r r') t.body (λ p n there. there) false no_carrying store store (same_store t store unset) (not_found t k r r' agree)

-- what both come to
met_alike : (points : Pointing) (c : Carrying) (u w : Upto) → Meet points c u w → AgreeAt u w
met_alike points c (over x) (over y) same = tt
met_alike points c (over x) (met w) same = same
met_alike points c (over x) (stopped code) same = tt
met_alike points c (met v) (over y) same = same
met_alike points c (met v) (met w) same = same
met_alike points c (met v) (stopped code) same = tt
met_alike points c (stopped code) w same = tt

pub agree_at : (t : CoreTask) (k : ℕ) (r r' : ℕ → ℕ) → AgreeInto t k r r' → (store : Store) → PointsNowhere store → AgreeAt (all_until k r t.body store) (all_until k r' t.body store)
agree_at t k r r' agree store nowhere = met_alike _ _ (all_until k r t.body store) (all_until k r' t.body store) (dependence t k r r' agree store nowhere)
