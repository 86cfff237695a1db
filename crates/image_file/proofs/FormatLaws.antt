-- What is written is read again, and what is read is what was written: for each way in which formats are made.
use Rattle.std.proofs.Common.{◌≡◌, ℕ, zero, suc, ◌^◌, ◌<◌, ◌≤◌, Bool, true, false, if◌then◌else◌, nat_lt, List, [], ◌∷◌, ◌++◌, Option, Some, None, length, take, drop, refl, sym, ap, ap₂, subst, ◌∙◌, append_assoc, length-append, arith}
use Rattle.std.specs.List.{AllByRecursion, flat_map}
use Rattle.std.proofs.Math.Seq.{take-append_seam}
use Rattle.std.proofs.lemmas.List.{take-append-drop, length-take-le}
use Rattle.std.proofs.lemmas.List.Concat.{flat_map-cons}
use Rattle.std.proofs.lemmas.Bool.Decides.{nat_tests}
use Rattle.image_file.specs.Fields.{AreBytes, Format, field, number_at, number, taken_at, text, many_at, listed, before, absent, shaped, ◌>>=◌}
use Rattle.image_file.proofs.NumberLaws.{drop_front, number_of_field, field_of_number, bytes_behind}

-- a value, and the bytes behind it
abbrev pub found : {A : Type 0} → A → List ℕ → Option (A × List ℕ)
found x rest = Some (x, rest)

-- values that fit are read again, whatever stands behind them; and bytes from which a value was read are its bytes
pub record IsLawful {A : Type 0} (f : Format A) (Fits : A → Type 0) : Type 0 where
  pub back : (x : A) (rest : List ℕ) → Fits x → f.read (f.spell x ++ rest) ≡ found x rest
  pub forth : (bytes : List ℕ) (x : A) (rest : List ℕ) → AreBytes bytes → f.read bytes ≡ found x rest → bytes ≡ f.spell x ++ rest

-- a chain that gave something: its first step did, and then the others
pub bind_found : {A B : Type 0} (o : Option A) (f : A → Option B) (y : B) → (o >>= f) ≡ Some y → (x : A) × (o ≡ Some x) × (f x ≡ Some y)
bind_found None f y e = cc
bind_found (Some x) f y e = (x, refl, e)

-- the value and the rest of what was found
pub found_value : {A : Type 0} (a b : A) (r s : List ℕ) → found a r ≡ found b s → a ≡ b
found_value {A} a b r s e = let pairs : ◌≡◌ {A = A × List ℕ} (a, r) (b, s) = cc in ap (λ p. p.0) pairs

pub found_rest : {A : Type 0} (a b : A) (r s : List ℕ) → found a r ≡ found b s → r ≡ s
found_rest {A} a b r s e = let pairs : ◌≡◌ {A = A × List ℕ} (a, r) (b, s) = cc in ap (λ p. p.1) pairs

pub number_lawful : (n : ℕ) → IsLawful (number n) (λ x. x < 256 ^ n)
number_lawful n = record {
  back = λ x rest fits. number_of_field n x rest fits;
  forth = λ bytes x rest small read. field_of_number n x bytes rest small read;
}

-- so many bytes come back
pub taken_back : (bytes rest : List ℕ) → taken_at (length bytes) (bytes ++ rest) ≡ found bytes rest
taken_back bytes rest =
    let enough : nat_lt (length (bytes ++ rest)) (length bytes) ≡ false = grind (arith, nat_tests, length-append) in
    rw (enough, take-append_seam bytes rest, drop_front (length bytes) bytes rest refl) refl

pub taken_forth : (n : ℕ) (bytes taken rest : List ℕ) → taken_at n bytes ≡ found taken rest → (bytes ≡ taken ++ rest) × (length taken ≡ n)
taken_forth n bytes taken rest read = by (nat_lt (length bytes) n) refl read
  where
    by : (short : Bool) → nat_lt (length bytes) n ≡ short → (if short then None else found (take n bytes) (drop n bytes)) ≡ found taken rest → (bytes ≡ taken ++ rest) × (length taken ≡ n)
    by true h e = cc
    by false h e =
        let front = found_value (take n bytes) taken (drop n bytes) rest e in
        let behind = found_rest (take n bytes) taken (drop n bytes) rest e in
        let enough : n ≤ length bytes = grind (arith, nat_tests) in
        (sym (take-append-drop n bytes) ∙ ap₂ (λ (a b : List ℕ). a ++ b) front behind, ap length (sym front) ∙ length-take-le n bytes enough)

pub text_lawful : IsLawful text (λ t. length t < 256)
text_lawful = record {
  back = λ t rest fits.
      ap text.read (append_assoc (field 1 (length t)) t rest)
      ∙ ap (λ o. o >>= (λ n. taken_at n.0 n.1)) (number_of_field 1 (length t) (t ++ rest) fits) ∙ taken_back t rest;
  forth = λ bytes t rest small read.
      let (n, n_is, more) = bind_found (number_at 1 bytes) _ _ read in
      let (whole, size) = taken_forth n.0 n.1 t rest more in
      field_of_number 1 n.0 bytes n.1 small n_is
      ∙ ap₂ (λ (k : ℕ) (b : List ℕ). field 1 k ++ b) (sym size) whole ∙ sym (append_assoc (field 1 (length t)) t rest);
}

pub before_lawful : {A B : Type 0} {f : Format A} {g : A → Format B} {FitsF : A → Type 0} {FitsG : A → B → Type 0} → IsLawful f FitsF → ((x : A) → IsLawful (g x) (FitsG x))
    → IsLawful (before f g) (λ p. FitsF p.0 × FitsG p.0 p.1)
before_lawful {A} {B} {f} {g} F G = record {
  back = λ p rest fits.
      ap (before f g).read (append_assoc (f.spell p.0) ((g p.0).spell p.1) rest)
      ∙ ap (λ o. o >>= (λ x. (g x.0).read x.1 >>= (λ y. Some ((x.0, y.0), y.1)))) (F.back p.0 ((g p.0).spell p.1 ++ rest) fits.0)
      ∙ ap (λ o. o >>= (λ y. Some ((p.0, y.0), y.1))) ((G p.0).back p.1 rest fits.1);
  forth = λ bytes p rest small read.
      let (x, x_is, more) = bind_found (f.read bytes) _ _ read in
      let (y, y_is, last) = bind_found ((g x.0).read x.1) _ _ more in
      let first = F.forth bytes x.0 x.1 small x_is in
      let behind = bytes_behind (f.spell x.0) x.1 (subst AreBytes first small) in
      let second = (G x.0).forth x.1 y.0 y.1 behind y_is in
      let value = found_value (x.0, y.0) p y.1 rest last in
      let left = found_rest (x.0, y.0) p y.1 rest last in
      first ∙ ap (λ (b : List ℕ). f.spell x.0 ++ b) second ∙ sym (append_assoc (f.spell x.0) ((g x.0).spell y.0) y.1)
      ∙ ap₂ (λ (q : A × B) (r : List ℕ). (before f g).spell q ++ r) value left;
}

pub absent_lawful : {A : Type 0} (x : A) → IsLawful (absent x) (λ y. x ≡ y)
absent_lawful x = record {
  back = λ y rest same. ap (λ z. Some (z, rest)) same;
  forth = λ bytes y rest small read. found_rest x y bytes rest read;
}

pub shaped_lawful : {A B : Type 0} {f : Format A} {Fits : A → Type 0} (to : A → B) (of : B → A) → ((x : A) → of (to x) ≡ x) → ((y : B) → to (of y) ≡ y) → IsLawful f Fits
    → IsLawful (shaped to of f) (λ y. Fits (of y))
shaped_lawful {A} {B} {f} to of to_of of_to F = record {
  back = λ y rest fits. ap (λ o. o >>= (λ x. Some (to x.0, x.1))) (F.back (of y) rest fits) ∙ ap (λ z. Some (z, rest)) (of_to y);
  forth = λ bytes y rest small read.
      let (x, x_is, last) = bind_found (f.read bytes) _ _ read in
      let value = found_value (to x.0) y x.1 rest last in
      let left = found_rest (to x.0) y x.1 rest last in
      F.forth bytes x.0 x.1 small x_is ∙ ap₂ (λ (z : A) (r : List ℕ). f.spell z ++ r) (sym (to_of x.0) ∙ ap of value) left;
}

-- so many values come back
many_back : {A : Type 0} {f : Format A} {Fits : A → Type 0} → IsLawful f Fits → (xs : List A) (rest : List ℕ) → AllByRecursion Fits xs → many_at f.read (length xs) (flat_map f.spell xs ++ rest) ≡ found xs rest
many_back F [] rest fits = refl
many_back {A} {f} F (x ∷ xs) rest fits =
    ap (many_at f.read (suc (length xs))) (ap (λ (b : List ℕ). b ++ rest) (flat_map-cons f.spell x xs) ∙ append_assoc (f.spell x) (flat_map f.spell xs) rest)
    ∙ ap (λ o. o >>= (λ y. many_at f.read (length xs) y.1 >>= (λ ys. Some (y.0 ∷ ys.0, ys.1)))) (F.back x (flat_map f.spell xs ++ rest) fits.0)
    ∙ ap (λ o. o >>= (λ ys. Some (x ∷ ys.0, ys.1))) (many_back F xs rest fits.1)

-- bytes from which so many values were read
pub record AreMany {A : Type 0} (f : Format A) (n : ℕ) (bytes : List ℕ) (xs : List A) (rest : List ℕ) : Type 0 where
  whole : bytes ≡ flat_map f.spell xs ++ rest
  count : length xs ≡ n

many_forth : {A : Type 0} {f : Format A} {Fits : A → Type 0} → IsLawful f Fits → (n : ℕ) (bytes : List ℕ) (xs : List A) (rest : List ℕ) → AreBytes bytes → many_at f.read n bytes ≡ found xs rest → AreMany f n bytes xs rest
many_forth {A} {f} F zero bytes xs rest small read =
    let none = found_value [] xs bytes rest read in
    let left = found_rest [] xs bytes rest read in
    record { whole = left ∙ ap (λ (ys : List A). flat_map f.spell ys ++ rest) none; count = ap length (sym none) }
many_forth {A} {f} F (suc n) bytes xs rest small read =
    let (x, x_is, more) = bind_found (f.read bytes) _ _ read in
    let (ys, ys_is, last) = bind_found (many_at f.read n x.1) _ _ more in
    let first = F.forth bytes x.0 x.1 small x_is in
    let behind = bytes_behind (f.spell x.0) x.1 (subst AreBytes first small) in
    let others = many_forth F n x.1 ys.0 ys.1 behind ys_is in
    let value = found_value (x.0 ∷ ys.0) xs ys.1 rest last in
    let left = found_rest (x.0 ∷ ys.0) xs ys.1 rest last in
    record {
      whole = first ∙ ap (λ (b : List ℕ). f.spell x.0 ++ b) others.whole ∙ sym (append_assoc (f.spell x.0) (flat_map f.spell ys.0) ys.1)
          ∙ ap (λ (b : List ℕ). b ++ ys.1) (sym (flat_map-cons f.spell x.0 ys.0)) ∙ ap₂ (λ (zs : List A) (r : List ℕ). flat_map f.spell zs ++ r) value left;
      count = ap length (sym value) ∙ ap suc others.count;
    }

pub listed_lawful : (width : ℕ) {A : Type 0} {f : Format A} {Fits : A → Type 0} → IsLawful f Fits → IsLawful (listed width f) (λ xs. (length xs < 256 ^ width) × AllByRecursion Fits xs)
listed_lawful width {A} {f} F = record {
  back = λ xs rest fits.
      ap (listed width f).read (append_assoc (field width (length xs)) (flat_map f.spell xs) rest)
      ∙ ap (λ o. o >>= (λ n. many_at f.read n.0 n.1)) (number_of_field width (length xs) (flat_map f.spell xs ++ rest) fits.0) ∙ many_back F xs rest fits.1;
  forth = λ bytes xs rest small read.
      let (n, n_is, more) = bind_found (number_at width bytes) _ _ read in
      let first = field_of_number width n.0 bytes n.1 small n_is in
      let behind = bytes_behind (field width n.0) n.1 (subst AreBytes first small) in
      let many = many_forth F n.0 n.1 xs rest behind more in
      first ∙ ap₂ (λ (k : ℕ) (b : List ℕ). field width k ++ b) (sym many.count) many.whole ∙ sym (append_assoc (field width (length xs)) (flat_map f.spell xs) rest);
}
