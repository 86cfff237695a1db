-- Two events are the same exactly where they are found to be.
use Rattle.std.proofs.Common.{◌≡◌, ℕ, zero, suc, Bool, true, false, ◌&&◌, ◌==◌, List, [], ◌∷◌, refl, sym, ap, ◌∙◌, arith}
use Rattle.std.proofs.lemmas.Bool.{false≢true}
use Rattle.std.proofs.lemmas.Bool.Decides.{nat_tests}
use Rattle.devices.specs.Journal.{Place, cell, keep, address, JournalEvent, begins, looks, keeps, drops, issues, seals, copies, commits, traps}
use Rattle.audit_check.specs.Same.{kind_of, first_of, second_of, third_of, args_of, from_of, to_of, alike, same_place, same}

both : (a b : Bool) → (a && b) ≡ true → (a ≡ true) × (b ≡ true)
both true b h = (refl, h)
both false b h = absurd (false≢true h)

are_both : (a b : Bool) → a ≡ true → b ≡ true → (a && b) ≡ true
are_both true b h k = k
are_both false b h k = absurd (false≢true h)

pub equal : (a b : ℕ) → (a == b) ≡ true → a ≡ b
equal a b h = grind (arith, nat_tests)

pub itself : (a : ℕ) → (a == a) ≡ true
itself a = grind (arith, nat_tests)

alike_is : (xs ys : List ℕ) → alike xs ys ≡ true → xs ≡ ys
alike_is [] [] h = refl
alike_is [] (y ∷ ys) h = absurd (false≢true h)
alike_is (x ∷ xs) [] h = absurd (false≢true h)
alike_is (x ∷ xs) (y ∷ ys) h =
    let p = both (x == y) (alike xs ys) h in
    let first = equal x y p.0 in
    let rest = alike_is xs ys p.1 in
    λ i. first i ∷ rest i

alike_itself : (xs : List ℕ) → alike xs xs ≡ true
alike_itself [] = refl
alike_itself (x ∷ xs) = are_both (x == x) (alike xs xs) (itself x) (alike_itself xs)

place_is : (x y : Place) → same_place x y ≡ true → x ≡ y
place_is (cell a i) (cell b j) h =
    let p = both (a == b) (i == j) h in
    let array = equal a b p.0 in
    let index = equal i j p.1 in
    λ t. cell (array t) (index t)
place_is (cell a i) keep h = absurd (false≢true h)
place_is (cell a i) (address y) h = absurd (false≢true h)
place_is keep (cell b j) h = absurd (false≢true h)
place_is keep keep h = refl
place_is keep (address y) h = absurd (false≢true h)
place_is (address x) (cell b j) h = absurd (false≢true h)
place_is (address x) keep h = absurd (false≢true h)
place_is (address x) (address y) h = ap address (equal x y h)

place_itself : (x : Place) → same_place x x ≡ true
place_itself (cell a i) = are_both (a == a) (i == i) (itself a) (itself i)
place_itself keep = refl
place_itself (address x) = itself x

-- an event from its kind, its numbers, its arguments and its ends
made : (kind a b c : ℕ) → List ℕ → (from to : Place) → JournalEvent
made zero a b c args from to = begins a
made (suc zero) a b c args from to = looks a b
made (suc (suc zero)) a b c args from to = keeps a b
made (suc (suc (suc zero))) a b c args from to = drops a
made (suc (suc (suc (suc zero)))) a b c args from to = issues a b args c
made (suc (suc (suc (suc (suc zero))))) a b c args from to = seals a
made (suc (suc (suc (suc (suc (suc zero)))))) a b c args from to = copies a from to b
made (suc (suc (suc (suc (suc (suc (suc zero))))))) a b c args from to = commits a
made (suc (suc (suc (suc (suc (suc (suc (suc kind)))))))) a b c args from to = traps a

made_of : (e : JournalEvent) → made (kind_of e) (first_of e) (second_of e) (third_of e) (args_of e) (from_of e) (to_of e) ≡ e
unfolding made
made_of (begins task) = refl
made_of (looks site time) = refl
made_of (keeps site value) = refl
made_of (drops site) = refl
made_of (issues site peripheral args reading) = refl
made_of (seals site) = refl
made_of (copies site from to words) = refl
made_of (commits next) = refl
made_of (traps code) = refl

pub same_is : (x y : JournalEvent) → same x y ≡ true → x ≡ y
same_is x y h =
    let third = both (third_of x == third_of y) _ h in
    let kind = both (kind_of x == kind_of y) _ third.1 in
    let second = both (second_of x == second_of y) _ kind.1 in
    let args = both (alike (args_of x) (args_of y)) _ second.1 in
    let from = both (same_place (from_of x) (from_of y)) _ args.1 in
    let to = both (same_place (to_of x) (to_of y)) (first_of x == first_of y) from.1 in
    let k = equal (kind_of x) (kind_of y) kind.0 in
    let a = equal (first_of x) (first_of y) to.1 in
    let b = equal (second_of x) (second_of y) second.0 in
    let c = equal (third_of x) (third_of y) third.0 in
    let l = alike_is (args_of x) (args_of y) args.0 in
    let f = place_is (from_of x) (from_of y) from.0 in
    let t = place_is (to_of x) (to_of y) to.0 in
    sym (made_of x) ∙ (λ i. made (k i) (a i) (b i) (c i) (l i) (f i) (t i)) ∙ made_of y

same_itself : (x : JournalEvent) → same x x ≡ true
same_itself x =
    are_both (third_of x == third_of x) _ (itself (third_of x))
    (are_both (kind_of x == kind_of x) _ (itself (kind_of x))
    (are_both (second_of x == second_of x) _ (itself (second_of x))
    (are_both (alike (args_of x) (args_of x)) _ (alike_itself (args_of x))
    (are_both (same_place (from_of x) (from_of x)) _ (place_itself (from_of x))
    (are_both (same_place (to_of x) (to_of x)) (first_of x == first_of x) (place_itself (to_of x)) (itself (first_of x)))))))

pub is_same : (x y : JournalEvent) → x ≡ y → same x y ≡ true
is_same x y is = ap (λ e. same x e) (sym is) ∙ same_itself x
