-- Texts that were appended in part.
use Rattle.std.specs.Prelude.{◌≡◌, ℕ, List, [], ◌++◌, refl}
use Rattle.std.proofs.Common.{sym, ◌∙◌, ap, append_assoc}
use Rattle.std.proofs.lemmas.List.{append-nil}

-- a front of the text was appended to the old text
pub record IsPart (old new text : List ℕ) : Type 0 where
  pub front : List ℕ
  pub rest : List ℕ
  pub appended : new ≡ old ++ front
  pub cut : text ≡ front ++ rest

-- nothing was appended
pub part_none : (old new text : List ℕ) → new ≡ old → IsPart old new text
part_none old new text same = record { front = []; rest = text; appended = same ∙ sym (append-nil old); cut = refl }

-- the first of two texts was appended, and a part of the second
pub part_second : (old middle new first second : List ℕ) → middle ≡ old ++ first → IsPart middle new second → IsPart old new (first ++ second)
part_second old middle new first second whole part = record {
  front = first ++ part.front;
  rest = part.rest;
  appended = part.appended ∙ (ap (λ t. t ++ part.front) whole ∙ append_assoc old first part.front);
  cut = ap (λ t. first ++ t) part.cut ∙ sym (append_assoc first part.front part.rest);
}

-- a part of the first of two texts was appended
pub part_first : (old new first second : List ℕ) → IsPart old new first → IsPart old new (first ++ second)
part_first old new first second part = record {
  front = part.front;
  rest = part.rest ++ second;
  appended = part.appended;
  cut = ap (λ t. t ++ second) part.cut ∙ append_assoc part.front part.rest second;
}
