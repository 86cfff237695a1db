-- The list of a peripheral among the feeds, one feed after another.
use Rattle.std.proofs.Common.{◌≡◌, ◌∙◌, ℕ, suc, ◌+◌, ◌<◌, false, cond, List, [], ◌∷◌, ◌++◌, length, map, refl, sym, ap, get_or, take, eqb, arith, nat_eq}
use Rattle.std.proofs.lemmas.Bool.Decides.{nat_tests}
use Rattle.std.proofs.lemmas.List.{take_more, get_or-map, length-map, length-take-le, get_or-take, take-map}
use Rattle.std.proofs.lemmas.Map.Keys.{apart_from_distinct}
use Rattle.devices.specs.declared.world.Feed.{Feed}
use Rattle.devices.specs.Reading.{values_in}
use Rattle.devices.specs.World.{AreDistinct}

-- the first feed has the number, or the others are asked
values_cons : (x : Feed) (xs : List Feed) (p : ℕ) → values_in (x ∷ xs) p ≡ cond (eqb x.number p) x.values (values_in xs p)
unfolding values_in
values_cons x xs p = refl

-- two tests of different numbers may be asked in either order
swapped : (a b p : ℕ) (u v w : List ℕ) → eqb a b ≡ false
    → cond (eqb a p) u (cond (eqb b p) v w) ≡ cond (eqb b p) v (cond (eqb a p) u w)
swapped a b p u v w h = grind (arith, nat_tests)

-- a feed behind feeds of other peripherals
values_append : (xs : List Feed) (y : Feed) (p : ℕ) → ((k : ℕ) → k < length xs → eqb (get_or (map (λ x. x.number) xs) k 0) y.number ≡ false)
    → values_in (xs ++ y ∷ []) p ≡ cond (eqb y.number p) y.values (values_in xs p)
values_append [] y p apart = values_cons y [] p
values_append (x ∷ xs) y p apart =
    values_cons x (xs ++ y ∷ []) p
    ∙ ap (λ w. cond (eqb x.number p) x.values w) (values_append xs y p (λ k h. apart (suc k) (omega arith)))
    ∙ swapped x.number y.number p x.values y.values (values_in xs p) (apart 0 (omega arith))
    ∙ sym (ap (λ w. cond (eqb y.number p) y.values w) (values_cons x xs p))

-- the feeds before a place are of other peripherals than the feed there
others_before : (feeds : List Feed) (i k : ℕ) (feed : Feed) → AreDistinct feeds → i < length feeds → feed ≡ get_or feeds i feed → k < i
    → eqb (get_or (map (λ x. x.number) (take i feeds)) k 0) feed.number ≡ false
others_before feeds i k feed distinct h is lt =
    let numbers = map (λ (x : Feed). x.number) feeds in
    let there : i < length numbers = omega (arith, length-map feeds (λ (x : Feed). x.number)) in
    let at_i : get_or numbers i 0 ≡ feed.number = get_or-map (λ (x : Feed). x.number) feeds i feed 0 h ∙ ap (λ x. x.number) (sym is) in
    let at_k : get_or (map (λ (x : Feed). x.number) (take i feeds)) k 0 ≡ get_or numbers k 0 =
    ap (λ ns. get_or ns k 0) (sym (take-map (λ (x : Feed). x.number) i feeds)) ∙ get_or-take i numbers k 0 lt in
    ap (λ n. eqb n feed.number) at_k ∙ ap (λ n. eqb (get_or numbers k 0) n) (sym at_i) ∙ apart_from_distinct nat_eq numbers k i 0 distinct lt there

-- one feed more
pub values_more : (feeds : List Feed) (i p : ℕ) (feed : Feed) → AreDistinct feeds → i < length feeds → feed ≡ get_or feeds i feed
    → values_in (take (i + 1) feeds) p ≡ cond (eqb feed.number p) feed.values (values_in (take i feeds) p)
values_more feeds i p feed distinct h is =
    ap (λ xs. values_in xs p) (take_more feeds i feed h ∙ ap (λ x. take i feeds ++ x ∷ []) (sym is))
    ∙ values_append (take i feeds) feed p (λ k lt. others_before feeds i k feed distinct h is (omega (arith, length-take-le i feeds (omega arith))))
