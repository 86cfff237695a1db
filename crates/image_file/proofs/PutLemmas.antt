-- Texts to which parts are appended.
use Rattle.std.proofs.Common.{◌≡◌, ℕ, ◌%◌, ◌≤◌, List, [], ◌∷◌, ◌++◌, length, take, map, refl, sym, ap, ap₂, ◌∙◌, append_assoc, arith}
use Rattle.std.specs.List.{flat_map}
use Rattle.std.proofs.lemmas.List.{append-nil, take_all, length-map}
use Rattle.std.proofs.lemmas.List.Concat.{flat_map-cons}
use Rattle.image_file.specs.Fields.{field}

-- nothing behind a text leaves it
pub nothing_behind : (out : List ℕ) → out ≡ out ++ []
nothing_behind out = sym (append-nil out)

-- one byte of a number is that of its remainder
pub lowest_byte : (n : ℕ) → field 1 (n % 256) ≡ field 1 n
unfolding field
lowest_byte n = let e : n % 256 % 256 ≡ n % 256 = omega arith in ap (λ (b : ℕ). b ∷ []) e

-- values that are written in another form are the other form's values, written
mapped : {A B : Type 0} (spell : B → List ℕ) (g : A → B) (xs : List A) → flat_map (λ x. spell (g x)) xs ≡ flat_map spell (map g xs)
mapped spell g [] = refl
mapped spell g (x ∷ xs) = flat_map-cons (λ y. spell (g y)) x xs ∙ ap (λ (bytes : List ℕ). spell (g x) ++ bytes) (mapped spell g xs) ∙ sym (flat_map-cons spell (g x) (map g xs))

-- all values are written behind their number
pub all_written : {A B : Type 0} (out old : List ℕ) (width k : ℕ) (spell : B → List ℕ) (g : A → B) (xs : List A)
    → out ≡ old ++ field width (length xs) ++ flat_map (λ x. spell (g x)) (take k xs) → length xs ≤ k
    → out ≡ old ++ (field width (length (map g xs)) ++ flat_map spell (map g xs))
all_written out old width k spell g xs h all =
    let bytes = ap (flat_map (λ x. spell (g x))) (take_all k xs all) ∙ mapped spell g xs in
    h ∙ append_assoc old (field width (length xs)) _ ∙ ap₂ (λ (n : ℕ) (b : List ℕ). old ++ (field width n ++ b)) (sym (length-map xs g)) bytes
