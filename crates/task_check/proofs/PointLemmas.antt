-- The table of pointers, as what each pointer may point to.
use Rattle.std.proofs.Common.{◌≡◌, ◌∙◌, ℕ, zero, suc, ◌<◌, Bool, true, false, ◌||◌, ◌&&◌, ◌==◌, List, [], ◌∷◌, ◌++◌, map, length, refl, sym, ap, get_or, set, arith}
use Rattle.std.proofs.Math.Path.{fun_ext}
use Rattle.std.proofs.lemmas.List.{map-set, map-append, get_or-map, length-map}
use Rattle.std.proofs.lemmas.List.Folds.{list_any-append}
use Rattle.task_ast.specs.WellFormed.{is_turning}
use Rattle.task_check.specs.Table.{row, held, with_address}

or_false : (b : Bool) → (b || false) ≡ b
or_false true = refl
or_false false = refl

row_past : (p : ℕ) → row [] p ≡ []
row_past zero = refl
row_past (suc p) = refl

-- a table with one more empty row holds the same
row_more : (rows : List (List ℕ)) (p : ℕ) → row (rows ++ [] ∷ []) p ≡ row rows p
row_more [] zero = refl
row_more [] (suc p) = refl
row_more (r ∷ rows) zero = refl
row_more (r ∷ rows) (suc p) = row_more rows p

pub held_more : (rows : List (List ℕ)) → held (rows ++ [] ∷ []) ≡ held rows
held_more rows = fun_ext (λ p. fun_ext (λ a. ap (λ (l : List ℕ). is_turning l a) (row_more rows p)))

-- one more array in a row
held_put_at : (rows : List (List ℕ)) (p a q b : ℕ) → p < length rows → held (set rows p (row rows p ++ a ∷ [])) q b ≡ with_address (held rows) p a q b
held_put_at [] p a q b h = absurd (let k : p < 0 = h in omega (arith, k))
held_put_at (r ∷ rows) zero a zero b h = list_any-append (λ x. x == b) r (a ∷ []) ∙ ap (λ c. is_turning r b || c) (or_false (a == b))
held_put_at (r ∷ rows) zero a (suc q) b h = let e : (zero == suc q) ≡ false = grind arith in sym (ap (λ c. held rows q b || (c && (a == b))) e ∙ or_false (held rows q b))
held_put_at (r ∷ rows) (suc p) a zero b h = let e : (suc p == zero) ≡ false = grind arith in sym (ap (λ c. is_turning r b || (c && (a == b))) e ∙ or_false (is_turning r b))
held_put_at (r ∷ rows) (suc p) a (suc q) b h =
    let e : (suc p == suc q) ≡ (p == q) = grind arith in
    held_put_at rows p a q b (omega (arith, h)) ∙ ap (λ c. held rows q b || (c && (a == b))) (sym e)

-- the same where each row is seen by f
pub held_put : {X : Type 0} (f : X → List ℕ) (xs : List X) (x d y : X) (p a : ℕ) → p < length xs → x ≡ get_or xs p d → f y ≡ f x ++ a ∷ []
    → held (map f (set xs p y)) ≡ with_address (held (map f xs)) p a
held_put f xs x d y p a h is e =
    let is_row : f y ≡ row (map f xs) p ++ a ∷ [] = e ∙ ap (λ (l : List ℕ). l ++ a ∷ []) (ap f is ∙ sym (get_or-map f xs p d [] h)) in
    ap held (map-set f xs p y ∙ ap (set (map f xs) p) is_row)
    ∙ fun_ext (λ q. fun_ext (λ b. held_put_at (map f xs) p a q b (omega (arith, h, length-map xs f))))

-- one more row, where each row is seen by f
pub held_pushed : {X : Type 0} (f : X → List ℕ) (xs : List X) (x : X) → f x ≡ [] → held (map f (xs ++ x ∷ [])) ≡ held (map f xs)
held_pushed f xs x none = ap held (map-append f xs (x ∷ []) ∙ ap (λ (r : List ℕ). map f xs ++ r ∷ []) none) ∙ held_more (map f xs)

-- an address that is held is no news
pub held_there : (rows : List (List ℕ)) (p a : ℕ) → held rows p a ≡ true → held rows ≡ with_address (held rows) p a
held_there rows p a there = fun_ext (λ q. fun_ext (λ b. by (p == q) (a == b) q b refl refl))
  where
    by : (c d : Bool) (q b : ℕ) → (p == q) ≡ c → (a == b) ≡ d → held rows q b ≡ (held rows q b || (c && d))
    by true true q b e f =
        let same : p ≡ q = grind arith in
        let also : a ≡ b = grind arith in
        let h : held rows q b ≡ true = (λ i. held rows (sym same i) (sym also i)) ∙ there in
        h ∙ sym (ap (λ c. c || true) h)
    by true false q b e f = sym (or_false (held rows q b))
    by false d q b e f = sym (or_false (held rows q b))
