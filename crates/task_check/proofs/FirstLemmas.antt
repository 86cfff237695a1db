-- The first of faults that stand behind one another.
use Rattle.std.proofs.Common.{◌≡◌, ◌≢◌, List, [], ◌∷◌, ◌++◌, Some, Result, Ok, Err, refl, sym, ap, subst, ◌∙◌}
use Rattle.task_check.specs.declared.error.CheckError.{CheckError}
use Rattle.task_check.specs.declared.error.CheckError.TheVariants.{NoMemory}
use Rattle.task_check.specs.Faults.{first}
use Rattle.task_check.specs.Finds.{Finds}

-- an error that isn't want of memory is the first of these faults
abbrev pub IsFirst : CheckError → List CheckError → Type 0
IsFirst e faults = e ≢ NoMemory → first faults ≡ Some e

-- the first fault of the front is the first of all
pub first-front : (xs ys : List CheckError) (e : CheckError) → first xs ≡ Some e → first (xs ++ ys) ≡ Some e
first-front [] ys e h = cc
first-front (x ∷ xs) ys e h = h

-- behind a front without faults the first is that of the rest
pub first-behind : (xs ys : List CheckError) (e : CheckError) → xs ≡ [] → first ys ≡ Some e → first (xs ++ ys) ≡ Some e
first-behind xs ys e none h = ap (λ (l : List CheckError). first (l ++ ys)) none ∙ h

-- two parts without faults have none
pub none-append : (xs ys : List CheckError) → xs ≡ [] → ys ≡ [] → xs ++ ys ≡ []
none-append xs ys p q = (λ i. p i ++ q i)

-- where two parts have no faults, the first has none, and neither has the second
pub none-front : (xs ys : List CheckError) → xs ++ ys ≡ [] → xs ≡ []
none-front [] ys h = refl
none-front (x ∷ xs) ys h = cc

pub none-behind : (xs ys : List CheckError) → xs ++ ys ≡ [] → ys ≡ []
none-behind [] ys h = h
none-behind (x ∷ xs) ys h = cc

-- the first fault of the front of some faults
pub finds_front : (all fs gs : List CheckError) (e : CheckError) → all ≡ fs ++ gs → IsFirst e fs → IsFirst e all
finds_front all fs gs e is h apart = ap first is ∙ first-front fs gs e (h apart)

-- what a check without a result answers
abbrev pub Clears : List CheckError → Result (Unit {0}) CheckError → Type 0
Clears faults r = Finds faults (λ _. Unit {0}) r

-- what is answered of the faults behind a front that has none
pub finds_behind : (all fs gs : List CheckError) (r : Result (Unit {0}) CheckError) → all ≡ fs ++ gs → fs ≡ [] → Clears gs r → Clears all r
finds_behind all fs gs (Ok v) is none h = (is ∙ none-append fs gs none h.0, h.1)
finds_behind all fs gs (Err e) is none h = λ apart. ap first is ∙ first-behind fs gs e none (h apart)

-- what is answered of the same faults
pub finds_same : (all fs : List CheckError) (r : Result (Unit {0}) CheckError) → all ≡ fs → Clears fs r → Clears all r
finds_same all fs r is h = subst (λ l. Clears l r) (sym is) h

-- the first fault of the first or second of three parts, and what is answered of the third
pub first_of_three : (all fs gs hs : List CheckError) (e : CheckError) → all ≡ fs ++ gs ++ hs → IsFirst e fs → IsFirst e all
first_of_three all fs gs hs e is h = finds_front all (fs ++ gs) hs e is (λ apart. first-front fs gs e (h apart))

pub second_of_three : (all fs gs hs : List CheckError) (e : CheckError) → all ≡ fs ++ gs ++ hs → fs ≡ [] → IsFirst e gs → IsFirst e all
second_of_three all fs gs hs e is none h = finds_front all (fs ++ gs) hs e is (λ apart. first-behind fs gs e none (h apart))

pub third_of_three : (all fs gs hs : List CheckError) (r : Result (Unit {0}) CheckError) → all ≡ fs ++ gs ++ hs → fs ≡ [] → gs ≡ [] → Clears hs r → Clears all r
third_of_three all fs gs hs r is none none_too h = finds_behind all (fs ++ gs) hs r is (none-append fs gs none none_too) h

-- the first fault of the second of four parts
pub second_of_four : (fs gs hs is : List CheckError) (e : CheckError) → fs ≡ [] → IsFirst e gs → IsFirst e (fs ++ gs ++ hs ++ is)
second_of_four fs gs hs is e none h apart = first-front (fs ++ gs ++ hs) is e (first-front (fs ++ gs) hs e (first-behind fs gs e none (h apart)))

-- the result of the last of three parts
pub result_of_three : {T : Type 0} (P : T → Type 0) (all fs gs hs : List CheckError) (r : Result T CheckError) → all ≡ fs ++ gs ++ hs → fs ≡ [] → gs ≡ [] → Finds hs P r → Finds all P r
result_of_three P all fs gs hs (Ok v) is none none_too h = (is ∙ none-append (fs ++ gs) hs (none-append fs gs none none_too) h.0, h.1)
result_of_three P all fs gs hs (Err e) is none none_too h = λ apart. ap first is ∙ first-behind (fs ++ gs) hs e (none-append fs gs none none_too) (h apart)
