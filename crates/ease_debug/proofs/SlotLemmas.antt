-- The trails of all sites, as a list and as a function from sites.
use Rattle.std.specs.Prelude.{map, if◌then◌else◌, ◌==◌, slice_index_or}
use Rattle.std.proofs.Common.{◌≡◌, ◌∙◌, ℕ, zero, suc, ◌+◌, ◌<◌, Bool, true, false, List, [], ◌∷◌, length, refl, sym, ap, get_or, set, take, drop, replicate, ◌++◌, arith}
use Rattle.std.proofs.Math.Path.{fun_ext}
use Rattle.std.proofs.lemmas.Bool.Decides.{nat_tests}
use Rattle.std.proofs.lemmas.List.{get_or-set_same, get_or-set_other}
use Rattle.std.proofs.lemmas.List.Edits.{map_over_more}
use Rattle.ease_debug.specs.Trails.{Slots, trails_in, untrodden, rolled, seen, noted_at, no_trails}
use Rattle.ease_debug.specs.declared.trail.Trail.{Trail}
use Rattle.devices.specs.declared.event.Event.{Event}

map_at : (f : Trail → Trail) → f untrodden ≡ untrodden → (xs : List Trail) (k : ℕ) → slice_index_or (map f xs) k untrodden ≡ f (slice_index_or xs k untrodden)
map_at f none [] k = sym none
map_at f none (x ∷ xs) zero = refl
map_at f none (x ∷ xs) (suc k) = map_at f none xs k

-- all are rolled
pub all_rolled : (begun now : Bool) (xs ys : List Trail) (t : Slots) → record { begun = begun; slots = xs } ≡ t → ys ≡ map (λ (t : Trail). rolled t) xs
    → trails_in (record { begun = now; slots = ys }) ≡ record { begun = now; trail = λ k. rolled ((trails_in t).trail k) }
unfolding trails_in
all_rolled begun now xs ys t same is =
    ap (λ (zs : List Trail). trails_in (record { begun = now; slots = zs })) is
    ∙ ap (λ (t : ℕ → Trail). record { begun = now; trail = t }) (fun_ext (λ k. map_at (λ (t : Trail). rolled t) refl xs k ∙ ap (λ (u : Slots). rolled ((trails_in u).trail k)) same))

-- all are cleared
pub all_cleared : (begun : Bool) (xs ys : List Trail) (t : Slots) → record { begun = begun; slots = xs } ≡ t → ys ≡ map (λ (_ : Trail). untrodden) xs
    → trails_in (record { begun = begun; slots = ys }) ≡ record (trails_in t) { trail = λ _. untrodden }
unfolding trails_in
all_cleared begun xs ys t same is =
    ap (λ (zs : List Trail). trails_in (record { begun = begun; slots = zs })) is
    ∙ ap (λ (t : ℕ → Trail). record { begun = begun; trail = t }) (fun_ext (λ k. map_at (λ (_ : Trail). untrodden) refl xs k))
    ∙ ap (λ (u : Slots). record (trails_in u) { trail = λ _. untrodden }) same

set_at : (xs : List Trail) (k : ℕ) (x : Trail) (j : ℕ) → k < length xs → slice_index_or (set xs k x) j untrodden ≡ (if k == j then x else slice_index_or xs j untrodden)
set_at xs k x j within = grind (arith, nat_tests, get_or-set_same, get_or-set_other)

chosen : (b : Bool) (x y z : Trail) → x ≡ y → (if b then x else z) ≡ (if b then y else z)
chosen true x y z e = e
chosen false x y z e = refl

-- where the site is k, its own trail is meant
same_site : (b : Bool) (k j : ℕ) (f : ℕ → Trail) (z : Trail) → (b ≡ true → k ≡ j) → (if b then f k else z) ≡ (if b then f j else z)
same_site true k j f z e = ap f (e refl)
same_site false k j f z e = refl

equal_sites : (k j : ℕ) → (k == j) ≡ true → k ≡ j
equal_sites k j e = grind (arith, nat_tests)

-- one is written
pub one_noted : (begun : Bool) (xs : List Trail) (k : ℕ) (e : Event) (x : Trail) (t : Slots) → record { begun = begun; slots = xs } ≡ t → k < length xs
    → x ≡ (if begun then seen e (slice_index_or xs k untrodden) else rolled (seen e (slice_index_or xs k untrodden)))
    → trails_in (record { begun = begun; slots = set xs k x }) ≡ noted_at k e (trails_in t)
unfolding trails_in
one_noted begun xs k e x t same within is =
    ap (λ (t : ℕ → Trail). record { begun = begun; trail = t }) (fun_ext (λ j.
    set_at xs k x j within
    ∙ chosen (k == j) x (if begun then seen e (slice_index_or xs k untrodden) else rolled (seen e (slice_index_or xs k untrodden))) (slice_index_or xs j untrodden) is
    ∙ same_site (k == j) k j (λ i. if begun then seen e (slice_index_or xs i untrodden) else rolled (seen e (slice_index_or xs i untrodden))) (slice_index_or xs j untrodden) (equal_sites k j)))
    ∙ ap (λ (u : Slots). noted_at k e (trails_in u)) same

-- what is written at a site in an attempt, and outside one
pub noted_in : (begun : Bool) (e : Event) (d first after x : Trail) → first ≡ d → after ≡ seen e first → begun ≡ true → x ≡ after → x ≡ (if begun then seen e d else rolled (seen e d))
noted_in begun e d first after x same is on wrote = wrote ∙ is ∙ ap (seen e) same ∙ sym (ap (λ b. if b then seen e d else rolled (seen e d)) on)

pub noted_out : (begun : Bool) (e : Event) (d first after x : Trail) → first ≡ d → after ≡ seen e first → begun ≡ false → x ≡ rolled after → x ≡ (if begun then seen e d else rolled (seen e d))
noted_out begun e d first after x same is off wrote = wrote ∙ ap rolled (is ∙ ap (seen e) same) ∙ sym (ap (λ b. if b then seen e d else rolled (seen e d)) off)

-- at the beginning
pub none_noted : (xs : List Trail) → ((k : ℕ) → slice_index_or xs k untrodden ≡ untrodden) → trails_in (record { begun = false; slots = xs }) ≡ no_trails
unfolding trails_in
none_noted xs all = ap (λ (t : ℕ → Trail). record { begun = false; trail = t }) (fun_ext all)

-- the answer of a site
pub answer_at : (xs : List Trail) (begun : Bool) (k : ℕ) (x : Trail) (t : Slots) → record { begun = begun; slots = xs } ≡ t → x ≡ slice_index_or xs k untrodden → x.answer ≡ ((trails_in t).trail k).answer
unfolding trails_in
answer_at xs begun k x t same is = ap (λ (y : Trail). y.answer) is ∙ ap (λ (u : Slots). ((trails_in u).trail k).answer) same

all_same : (n k : ℕ) (x : Trail) → get_or (replicate n x) k x ≡ x
all_same zero k x = refl
all_same (suc n) zero x = refl
all_same (suc n) (suc k) x = all_same n k x

-- every trail of a list of one and the same
pub all_untrodden : (xs : List Trail) (n : ℕ) (x : Trail) → xs ≡ replicate n x → x ≡ untrodden → (k : ℕ) → slice_index_or xs k untrodden ≡ untrodden
all_untrodden xs n x made is k = ap (λ ys. slice_index_or ys k untrodden) (made ∙ ap (λ (y : Trail). replicate n y) is) ∙ all_same n k untrodden

-- one more trail is written, in a list of as many
pub one_more : (f : Trail → Trail) (xs ys : List Trail) (count i : ℕ) (x y : Trail) → count ≡ length ys → length ys ≡ length xs → ys ≡ map f (take i xs) ++ drop i xs → i < count
    → x ≡ get_or ys i x → y ≡ f x → set ys i y ≡ map f (take (i + 1) xs) ++ drop (i + 1) xs
one_more f xs ys count i x y counted size done below read is =
    ap (λ (z : Trail). set ys i z) is ∙ map_over_more f xs ys i x (omega (arith, counted, size)) done read

pub wrote_untrodden : (xs ys : List Trail) (i : ℕ) (x y : Trail) → x ≡ y → set xs i y ≡ ys → set xs i x ≡ ys
wrote_untrodden xs ys i x y same done = ap (λ (z : Trail). set xs i z) same ∙ done
