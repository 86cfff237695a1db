-- A number comes back from its bytes, and bytes from the number that they give.
use Rattle.std.proofs.Common.{◌≡◌, ℕ, zero, suc, ◌+◌, ◌*◌, ◌^◌, ◌/◌, ◌%◌, ◌<◌, ◌≤◌, Bool, true, false, List, [], ◌∷◌, ◌++◌, Option, Some, None, length, take, drop, nat_lt, cond, refl, sym, ap, ap₂, ◌∙◌, arith}
use Rattle.std.proofs.Math.Nat.{div-div-eq-div-mul, pow-succ'}
use Rattle.std.proofs.lemmas.List.{take-append-drop, length-append}
use Rattle.std.proofs.lemmas.Bool.Decides.{nat_tests}
use Rattle.std.specs.Int.{byte_at, bytes_low_first}
use Rattle.byteorder.specs.Endian.{little_bytes, little_number, little_from}
use Rattle.byteorder.specs.Numbers.{little_from-cons, little_number-reads_back, length-bytes_low_first}
use Rattle.image_file.specs.Fields.{AreBytes, field, number_at}

-- what stands behind the first n
pub drop_front : (n : ℕ) (xs ys : List ℕ) → length xs ≡ n → drop n (xs ++ ys) ≡ ys
drop_front zero [] ys e = refl
drop_front zero (x ∷ xs) ys e = absurd (omega (arith, e))
drop_front (suc n) [] ys e = absurd (omega (arith, e))
drop_front (suc n) (x ∷ xs) ys e = drop_front n xs ys (omega (arith, e))

-- a byte further up is a byte of what is left above the lowest
byte_above : (j x : ℕ) → byte_at (suc j) x ≡ byte_at j (x / 256)
byte_above zero x = refl
byte_above (suc j) x = ap (λ (y : ℕ). y % 256) (ap (λ (p : ℕ). x / p) (pow-succ' 256 (suc j)) ∙ sym (div-div-eq-div-mul x 256 (256 ^ suc j)))

bytes_above : (j k x : ℕ) → bytes_low_first (suc j) k x ≡ bytes_low_first j k (x / 256)
bytes_above j zero x = refl
bytes_above j (suc k) x = ap₂ (λ (b : ℕ) (bs : List ℕ). b ∷ bs) (byte_above j x) (bytes_above (suc j) k x)

lowest : (b y : ℕ) → b < 256 → (b + 256 * y) % 256 ≡ b
lowest b y small = omega arith

above : (b y : ℕ) → b < 256 → (b + 256 * y) / 256 ≡ y
above b y small = omega arith

-- the bytes of the number that the first n bytes give are these
bytes_of_number : (n : ℕ) (xs : List ℕ) → AreBytes xs → n ≤ length xs → bytes_low_first 0 n (little_from 0 n xs) ≡ take n xs
bytes_of_number zero xs bytes enough = refl
bytes_of_number (suc n) [] bytes enough = absurd (omega arith)
bytes_of_number (suc n) (b ∷ xs) bytes enough =
    let y = little_from 0 n xs in
    let rest = bytes_above 0 n (b + 256 * y) ∙ ap (bytes_low_first 0 n) (above b y (bytes 0)) ∙ bytes_of_number n xs (λ i. bytes (suc i)) (omega arith) in
    rw (little_from-cons 0 n b xs) (ap₂ (λ (c : ℕ) (cs : List ℕ). c ∷ cs) (lowest b y (bytes 0)) rest)

-- a number and the bytes behind it
abbrev pub found : ℕ → List ℕ → Option (ℕ × List ℕ)
found x rest = Some (x, rest)

number_in : Option (ℕ × List ℕ) → ℕ
number_in None = 0
number_in (Some p) = p.0

rest_in : Option (ℕ × List ℕ) → List ℕ
rest_in None = []
rest_in (Some p) = p.1

-- a number that fits n bytes comes back from them, with what stands behind
pub number_of_field : (n x : ℕ) (rest : List ℕ) → x < 256 ^ n → number_at n (field n x ++ rest) ≡ found x rest
unfolding field
number_of_field n x rest small =
    let count = length-bytes_low_first 0 n x in
    let enough : nat_lt (length (little_bytes n x ++ rest)) n ≡ false = grind (arith, nat_tests, length-append, count) in
    let behind : drop n (little_bytes n x ++ rest) ≡ rest = drop_front n (little_bytes n x) rest count in
    rw (enough, little_number-reads_back n x rest small, behind) refl

-- where a number is read, its bytes stand in front
pub field_of_number : (n x : ℕ) (bytes rest : List ℕ) → AreBytes bytes → number_at n bytes ≡ found x rest → bytes ≡ field n x ++ rest
unfolding field number_in rest_in
field_of_number n x bytes rest small read = by_length (nat_lt (length bytes) n) refl read
  where
    by_length : (short : Bool) → nat_lt (length bytes) n ≡ short → cond short None (found (little_number n bytes) (drop n bytes)) ≡ found x rest → bytes ≡ little_bytes n x ++ rest
    by_length true is e = cc
    by_length false is e =
        let front : take n bytes ≡ little_bytes n x = sym (bytes_of_number n bytes small (grind (arith, nat_tests))) ∙ ap (little_bytes n) (ap number_in e) in
        sym (take-append-drop n bytes) ∙ ap₂ (λ (a b : List ℕ). a ++ b) front (ap rest_in e)

-- what stands behind the first bytes are bytes too
pub bytes_behind : (front rest : List ℕ) → AreBytes (front ++ rest) → AreBytes rest
bytes_behind [] rest small = small
bytes_behind (b ∷ front) rest small = bytes_behind front rest (λ i. small (suc i))
