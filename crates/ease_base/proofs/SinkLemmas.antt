-- A sink that takes one piece after another.
use Rattle.std.proofs.Common.{◌≡◌, ℕ, ◌+◌, List, ◌++◌, Option, Some, None, take, drop, refl, ap, sym, ◌∙◌, append_assoc}
use Rattle.std.proofs.Math.Seq.{take-add}
use Rattle.ease_base.specs.Sink.{extended}

-- one piece and then another are the two in a row
pub extended-twice : (taken : Option (List ℕ)) (xs ys : List ℕ) → extended (extended taken xs) ys ≡ extended taken (xs ++ ys)
extended-twice None xs ys = refl
extended-twice (Some taken) xs ys = ap Some (append_assoc taken xs ys)

-- a front of the piece, and then a front of what is left of it, are a longer front
pub extended-front : (old mid new : Option (List ℕ)) (sent n : ℕ) (piece rest : List ℕ) → mid ≡ extended old (take sent piece) → rest ≡ drop sent piece → new ≡ extended mid (take n rest) → new ≡ extended old (take (sent + n) piece)
extended-front old mid new sent n piece rest at_mid at_rest at_new =
    at_new
    ∙ ap (λ (x : Option (List ℕ)). extended x (take n rest)) at_mid
    ∙ ap (λ (x : List ℕ). extended (extended old (take sent piece)) (take n x)) at_rest
    ∙ extended-twice old (take sent piece) (take n (drop sent piece))
    ∙ ap (extended old) (sym (take-add sent n piece))
