-- A search for the first item that fails, one item after another.
use Rattle.std.specs.Prelude.{◌≡◌, ℕ, suc, ◌+◌, ◌<◌, ◌≤◌, Bool, true, false, List, [], ◌∷◌, ◌++◌, Option, Some, None, if◌then◌else◌, length, refl}
use Rattle.std.proofs.Common.{sym, ◌∙◌, ap, take, drop, get_or, arith, add-one}
use Rattle.std.proofs.lemmas.List.{drop_all}
use Rattle.std.proofs.Math.Seq.{drop-cons, take-suc}
use Rattle.std.specs.Option.{option_map}
use Rattle.word_isa.specs.FirstFailing.{first_failing}

-- a place found behind so many items, counted from the first
abbrev pub behind : ℕ → Option ℕ → Option ℕ
behind i place = option_map (λ k. i + k) place

-- what is left to search gives the whole answer
pub record IsSearched {A : Type 0} (test : List A → A → Bool) (xs : List A) (i : ℕ) : Type 0 where
  pub same : first_failing test [] xs ≡ behind i (first_failing test (take i xs) (drop i xs))

behind_none : (place : Option ℕ) → place ≡ behind 0 place
behind_none None = refl
behind_none (Some k) = ap Some (omega arith)

behind_more : (i : ℕ) (place : Option ℕ) → behind i (option_map suc place) ≡ behind (suc i) place
behind_more i None = refl
behind_more i (Some k) = ap Some (omega arith)

pub search_starts : {A : Type 0} (test : List A → A → Bool) (xs : List A) → IsSearched test xs 0
search_starts test xs = record { same = behind_none (first_failing test [] xs) }

-- one step of the search
step : {A : Type 0} (test : List A → A → Bool) (earlier : List A) (x : A) (xs : List A) → first_failing test earlier (x ∷ xs) ≡ (if test earlier x then option_map suc (first_failing test (earlier ++ x ∷ []) xs) else Some 0)
unfolding first_failing
step test earlier x xs = refl

chosen : (b : Bool) (p q : Option ℕ) → b ≡ true → (if b then p else q) ≡ p
chosen true p q e = refl
chosen false p q e = cc

other : (b : Bool) (p q : Option ℕ) → b ≡ false → (if b then p else q) ≡ q
other true p q e = cc
other false p q e = refl

pub search_goes_on : {A : Type 0} (test : List A → A → Bool) (xs : List A) (i : ℕ) (d : A) → i < length xs → test (take i xs) (get_or xs i d) ≡ true → IsSearched test xs i → IsSearched test xs (suc i)
search_goes_on test xs i d within passes searched =
    let x = get_or xs i d in
    let rest : first_failing test (take i xs) (drop i xs) ≡ option_map suc (first_failing test (take i xs ++ x ∷ []) (drop (suc i) xs)) =
    ap (first_failing test (take i xs)) (drop-cons xs i d within) ∙ (step test (take i xs) x (drop (suc i) xs) ∙ chosen (test (take i xs) x) (option_map suc (first_failing test (take i xs ++ x ∷ []) (drop (suc i) xs))) (Some 0) passes) in
    let more : first_failing test (take i xs ++ x ∷ []) (drop (suc i) xs) ≡ first_failing test (take (suc i) xs) (drop (suc i) xs) =
    ap (λ front. first_failing test front (drop (suc i) xs)) (sym (take-suc xs i d within)) in
    record { same = searched.same ∙ (ap (behind i) rest ∙ (behind_more i (first_failing test (take i xs ++ x ∷ []) (drop (suc i) xs)) ∙ ap (behind (suc i)) more)) }

pub search_finds : {A : Type 0} (test : List A → A → Bool) (xs : List A) (i : ℕ) (d : A) → i < length xs → test (take i xs) (get_or xs i d) ≡ false → IsSearched test xs i → Some i ≡ first_failing test [] xs
search_finds test xs i d within fails searched =
    let x = get_or xs i d in
    let rest : first_failing test (take i xs) (drop i xs) ≡ Some 0 =
    ap (first_failing test (take i xs)) (drop-cons xs i d within) ∙ (step test (take i xs) x (drop (suc i) xs) ∙ other (test (take i xs) x) (option_map suc (first_failing test (take i xs ++ x ∷ []) (drop (suc i) xs))) (Some 0) fails) in
    ap Some (omega arith) ∙ sym (searched.same ∙ ap (behind i) rest)

end : {A : Type 0} (test : List A → A → Bool) (earlier rest : List A) → rest ≡ [] → first_failing test earlier rest ≡ None
unfolding first_failing
end test earlier [] e = refl
end test earlier (x ∷ rest) e = cc

pub search_ends : {A : Type 0} (test : List A → A → Bool) (xs : List A) (i : ℕ) → length xs ≤ i → IsSearched test xs i → None ≡ first_failing test [] xs
search_ends test xs i past searched =
    sym (searched.same ∙ ap (behind i) (end test (take i xs) (drop i xs) (drop_all i xs past)))

-- the same as a loop knows them: by the item and the answer of its test
pub goes_on_at : {A : Type 0} (test : List A → A → Bool) (xs : List A) (i : ℕ) (d x : A) (r : Bool) → i < length xs → x ≡ get_or xs i d → r ≡ test (take i xs) x → r ≡ true → IsSearched test xs i → IsSearched test xs (i + 1)
goes_on_at test xs i d x r within item is passes searched =
    let tested : test (take i xs) (get_or xs i d) ≡ true = ap (test (take i xs)) (sym item) ∙ (sym is ∙ passes) in
    rw add-one (search_goes_on test xs i d within tested searched)

pub finds_at : {A : Type 0} (test : List A → A → Bool) (xs : List A) (i : ℕ) (d x : A) (r : Bool) → i < length xs → x ≡ get_or xs i d → r ≡ test (take i xs) x → r ≡ false → IsSearched test xs i → Some i ≡ first_failing test [] xs
finds_at test xs i d x r within item is fails searched =
    search_finds test xs i d within (ap (test (take i xs)) (sym item) ∙ (sym is ∙ fails)) searched
