-- The series of all peripherals: one is replaced.
use Rattle.std.proofs.Common.{◌≡◌, ◌∙◌, ℕ, ◌+◌, ◌<◌, List, length, refl, ap, get_or, set, cond, eqb, eq-eqb, inl, inr, [], Bool, true, false, arith}
use Rattle.std.proofs.Math.Path.{fun_ext}
use Rattle.std.proofs.lemmas.Bool.Decides.{nat_tests}
use Rattle.std.proofs.lemmas.Bool.{cases_eq, ne_eqb}
use Rattle.std.proofs.lemmas.List.{get_or_default, get_or-set_same, get_or-set_other}
use Rattle.devices.specs.Reading.{reading, values_in}
use Rattle.devices.specs.Readings.{Series, silent, values_of, issued_of, one_more, issued_after}

-- the series of a peripheral after one was replaced
series_at : (xs : List Series) (p q : ℕ) (y : Series) → p < length xs
    → get_or (set xs p y) q silent ≡ cond (eqb p q) y (get_or xs q silent)
series_at xs p q y h = grind (arith, nat_tests, get_or-set_same, get_or-set_other)

-- the list of either of two series
values_either : (b : Bool) (y z : Series) → (cond b y z).values ≡ cond b y.values z.values
values_either true y z = refl
values_either false y z = refl

-- the count of either of two series
issued_either : (b : Bool) (y z : Series) → (cond b y z).issued ≡ cond b y.issued z.issued
issued_either true y z = refl
issued_either false y z = refl

-- the lists after one series was replaced
pub values_set : (xs : List Series) (p q : ℕ) (y : Series) → p < length xs
    → values_of (set xs p y) q ≡ cond (eqb p q) y.values (values_of xs q)
unfolding values_of
values_set xs p q y h = ap (λ s. s.values) (series_at xs p q y h) ∙ values_either (eqb p q) y (get_or xs q silent)

-- the counts after one series was replaced
pub issued_set : (xs : List Series) (p q : ℕ) (y : Series) → p < length xs
    → issued_of (set xs p y) q ≡ cond (eqb p q) y.issued (issued_of xs q)
unfolding issued_of
issued_set xs p q y h = ap (λ s. s.issued) (series_at xs p q y h) ∙ issued_either (eqb p q) y (get_or xs q silent)

-- a test that chooses between two equal things
both_same : {X : Type 0} (p q : ℕ) (f : ℕ → X) → cond (eqb p q) (f p) (f q) ≡ f q
both_same p q f = elim (cases_eq p q) [
  | inl e ↦ ap (λ b. cond b (f p) (f q)) (eq-eqb p q e) ∙ ap f e
  | inr ne ↦ ap (λ b. cond b (f p) (f q)) (ne_eqb p q ne)
]

-- replacing a series by one with the same list leaves the lists
pub values_stay : (xs : List Series) (p : ℕ) (y : Series) → p < length xs → y.values ≡ values_of xs p
    → values_of (set xs p y) ≡ values_of xs
values_stay xs p y h e = fun_ext (λ q. values_set xs p q y h ∙ ap (λ v. cond (eqb p q) v (values_of xs q)) e ∙ both_same p q (values_of xs))

-- the list of the series at a place
pub values_there : (xs : List Series) (p : ℕ) (y : Series) → p < length xs → y ≡ get_or xs p y → y.values ≡ values_of xs p
unfolding values_of
values_there xs p y h e = ap (λ s. s.values) (e ∙ get_or_default xs p y silent h)

-- the count of the series at a place
pub issued_there : (xs : List Series) (p : ℕ) (y : Series) → p < length xs → y ≡ get_or xs p y → y.issued ≡ issued_of xs p
unfolding issued_of
issued_there xs p y h e = ap (λ s. s.issued) (e ∙ get_or_default xs p y silent h)

-- replacing a series by one with one more issue
pub issued_raised : (xs : List Series) (p : ℕ) (x y : Series) → p < length xs → x ≡ get_or xs p x
    → y.issued ≡ one_more x.values x.issued → issued_of (set xs p y) ≡ issued_after (values_of xs) (issued_of xs) p
issued_raised xs p x y h is e =
    let count : y.issued ≡ one_more (values_of xs p) (issued_of xs p) =
    e ∙ ap (λ v. one_more v x.issued) (values_there xs p x h is) ∙ ap (λ n. one_more (values_of xs p) n) (issued_there xs p x h is) in
    fun_ext (λ q. issued_set xs p q y h ∙ ap (λ n. cond (eqb p q) n (issued_of xs q)) count)

-- what the series at a place reads is what the whole says of the peripheral
pub reads : (xs whole : List Series) (p : ℕ) (x : Series) (word : ℕ) → p < length xs → xs ≡ whole → x ≡ get_or xs p x
    → word ≡ reading x.values (x.issued + 1) → word ≡ reading (values_of whole p) (issued_of whole p + 1)
reads xs whole p x word h v is e =
    e ∙ ap (λ vs. reading vs (x.issued + 1)) (values_there xs p x h is ∙ ap (λ r. values_of r p) v)
    ∙ ap (λ n. reading (values_of whole p) (n + 1)) (issued_there xs p x h is ∙ ap (λ r. issued_of r p) v)

-- silent series have the lists that no feed gives
pub values_silent : (xs : List Series) (p : ℕ) → ((k : ℕ) → get_or xs k silent ≡ silent) → values_of xs p ≡ values_in [] p
unfolding values_of values_in
values_silent xs p h = ap (λ s. s.values) (h p)

-- silent series have no counts
pub issued_silent : (xs : List Series) (p : ℕ) → ((k : ℕ) → get_or xs k silent ≡ silent) → issued_of xs p ≡ 0
unfolding issued_of
issued_silent xs p h = ap (λ s. s.issued) (h p)

-- a test that chooses between 0 and 0
pub none_either : (b : Bool) (m n : ℕ) → m ≡ 0 → n ≡ 0 → cond b m n ≡ 0
none_either true m n e f = e
none_either false m n e f = f
