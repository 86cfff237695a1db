-- Lists of places with some left out.
use Rattle.std.proofs.Common.{◌≡◌, ◌∙◌, ◌⊎◌, inl, inr, List, [], ◌∷◌, ◌++◌, refl, sym, subst}
use Rattle.std.specs.List.{AllByRecursion}
use Rattle.ease_base.specs.declared.place.Pos.{Pos}
use Rattle.task_check.specs.Order.{IsBefore, Rise}

-- the first list is the second with some places left out
abbrev pub IsPart : List Pos → List Pos → Type 0
IsPart [] ys = Unit {0}
IsPart (x ∷ xs) [] = ⊥
IsPart (x ∷ xs) (y ∷ ys) = ((x ≡ y) × IsPart xs ys) ⊎ IsPart (x ∷ xs) ys

pub part_more : (y : Pos) (xs ys : List Pos) → IsPart xs ys → IsPart xs (y ∷ ys)
part_more y [] ys h = tt
part_more y (x ∷ xs) ys h = inr h

pub part_same : (xs : List Pos) → IsPart xs xs
part_same [] = tt
part_same (x ∷ xs) = inl (refl, part_same xs)

pub part_of_same : (xs ys : List Pos) → xs ≡ ys → IsPart xs ys
part_of_same xs ys e = subst (IsPart xs) e (part_same xs)

pub part_behind : (ys xs zs : List Pos) → IsPart xs zs → IsPart xs (ys ++ zs)
part_behind [] xs zs h = h
part_behind (y ∷ ys) xs zs h = part_more y xs (ys ++ zs) (part_behind ys xs zs h)

pub part_join : (ps qs xs ys : List Pos) → IsPart ps xs → IsPart qs ys → IsPart (ps ++ qs) (xs ++ ys)
part_join [] qs xs ys h k = part_behind xs qs ys k
part_join (p ∷ ps) qs [] ys h k = absurd h
part_join (p ∷ ps) qs (x ∷ xs) ys (inl h) k = inl (h.0, part_join ps qs xs ys h.1 k)
part_join (p ∷ ps) qs (x ∷ xs) ys (inr h) k = inr (part_join (p ∷ ps) qs xs ys h k)

pub part_through : (xs ys zs : List Pos) → IsPart xs ys → IsPart ys zs → IsPart xs zs
part_through [] ys zs h k = tt
part_through (x ∷ xs) [] zs h k = absurd h
part_through (x ∷ xs) (y ∷ ys) [] h k = absurd k
part_through (x ∷ xs) (y ∷ ys) (z ∷ zs) h (inr k) = inr (part_through (x ∷ xs) (y ∷ ys) zs h k)
part_through (x ∷ xs) (y ∷ ys) (z ∷ zs) (inl h) (inl k) = inl (h.0 ∙ k.0, part_through xs ys zs h.1 k.1)
part_through (x ∷ xs) (y ∷ ys) (z ∷ zs) (inr h) (inl k) = inr (part_through (x ∷ xs) ys zs h k.1)

part_all : (P : Pos → Type 0) (xs ys : List Pos) → IsPart xs ys → AllByRecursion P ys → AllByRecursion P xs
part_all P [] ys h all = tt
part_all P (x ∷ xs) [] h all = absurd h
part_all P (x ∷ xs) (y ∷ ys) (inl h) all = (subst P (sym h.0) all.0, part_all P xs ys h.1 all.1)
part_all P (x ∷ xs) (y ∷ ys) (inr h) all = part_all P (x ∷ xs) ys h all.1

-- what is left of places that rise rises
pub part_rises : (xs ys : List Pos) → IsPart xs ys → Rise ys → Rise xs
part_rises [] ys h rise = tt
part_rises (x ∷ xs) [] h rise = absurd h
part_rises (x ∷ xs) (y ∷ ys) (inl h) rise = (subst (λ q. AllByRecursion (IsBefore q) xs) (sym h.0) (part_all (IsBefore y) xs ys h.1 rise.0), part_rises xs ys h.1 rise.1)
part_rises (x ∷ xs) (y ∷ ys) (inr h) rise = part_rises (x ∷ xs) ys h rise.1
