-- One bit of rows that are made of others.
use Rattle.std.proofs.Common.{◌≡◌, ◌∙◌, ℕ, zero, suc, ◌+◌, ◌^◌, ◌<◌, ◌≤◌, max, Bool, true, false, ◌||◌, ◌&&◌, ◌==◌, ltb, cond, List, [], ◌∷◌, length, slice_index, slice_set, bit_or, refl, sym, ap, arith}
use Rattle.std.specs.Int.{bit_at}
use Rattle.std.specs.List.{list_any}
use Rattle.std.proofs.lemmas.Bool.{cases_eq, cases_lt, eq-eqb, ne_eqb, lt-ltb, le-ltb}
use Rattle.std.proofs.lemmas.List.{length-set, get_or-set_same, get_or-set_other}
use Rattle.std.proofs.lemmas.Nat.Bits.{bit_at-zero, bit_at_or, bit_at-pow_same, bit_at-pow_other}
use mathlib.Core.Logic.{⊎_elim}
use Rattle.io_depend.specs.Sets.{has}
use Rattle.io_depend.specs.Rows.{has_bit, with_bits, with_each, with_all, each_bits, own_bit}
use Rattle.io_depend.proofs.SetLemmas.{or_none, or_grouped, and_none}

-- the greater of two bits
greater : (a b : ℕ) → a < 2 → b < 2 → (max a b == 1) ≡ ((a == 1) || (b == 1))
greater zero zero low small = refl
greater zero (suc zero) low small = refl
greater (suc zero) zero low small = refl
greater (suc zero) (suc zero) low small = refl
greater zero (suc (suc b)) low small = absurd (omega arith)
greater (suc zero) (suc (suc b)) low small = absurd (omega arith)
greater (suc (suc a)) b low small = absurd (omega arith)

pub bit_of_or : (x y b : ℕ) → has_bit (bit_or x y) b ≡ (has_bit x b || has_bit y b)
bit_of_or x y b = ap (λ n. n == 1) (bit_at_or x y b) ∙ greater (bit_at x b) (bit_at y b) (omega arith) (omega arith)

pub bit_of_none : (b : ℕ) → has_bit 0 b ≡ false
bit_of_none b = ap (λ n. n == 1) (bit_at-zero b)

-- the own bit of a site is at the place before its number
own_at : (k b : ℕ) (low : Bool) → b < 128 → ltb k 128 ≡ low → has_bit (cond low (2 ^ k) 0) b ≡ (k == b)
own_at k b true small is =
    let apart : (k ≡ b → ⊥) → has_bit (2 ^ k) b ≡ (k == b) = λ other. ap (λ n. n == 1) (bit_at-pow_other k b (λ e. other (sym e))) ∙ sym (ne_eqb k b other) in
    let same : k ≡ b → has_bit (2 ^ k) b ≡ (k == b) = λ e. ap (λ j. has_bit (2 ^ k) j) (sym e) ∙ ap (λ n. n == 1) (bit_at-pow_same k) ∙ sym (eq-eqb k b e) in
    ⊎_elim same apart (cases_eq k b)
own_at k b false small is = bit_of_none b ∙ sym (ne_eqb k b (λ e. absurd (omega (arith, e, high))))
  where
    high : 128 ≤ k
    high = ⊎_elim (λ l. absurd (Rattle.std.proofs.lemmas.Bool.true≢false (sym (lt-ltb k 128 l) ∙ is))) (λ h. h) (cases_lt k 128)

next_equal : (k b : ℕ) → (k == b) ≡ (suc k == suc b)
next_equal k b = ⊎_elim (λ e. eq-eqb k b e ∙ sym (eq-eqb (suc k) (suc b) (ap suc e))) (λ apart. ne_eqb k b apart ∙ sym (ne_eqb (suc k) (suc b) (λ e. apart (omega (arith, e))))) (cases_eq k b)

pub bit_of_own : (k b : ℕ) → b < 128 → has_bit (own_bit k) b ≡ (k == suc b)
bit_of_own zero b small = bit_of_none b ∙ sym (ne_eqb 0 (suc b) (λ e. absurd (omega (arith, e))))
bit_of_own (suc k) b small = own_at k b (ltb k 128) small refl ∙ next_equal k b

-- a row with the bits of another
pub bits_length : (rows : List ℕ) (n row : ℕ) → length (with_bits rows n row) ≡ length rows
bits_length rows n row = length-set rows n _

pub bit_with : (rows : List ℕ) (n row x b : ℕ) → x < length rows → has_bit (slice_index (with_bits rows n row) x) b ≡ (has_bit (slice_index rows x) b || ((n == x) && has_bit row b))
bit_with rows n row x b there =
    let same : n ≡ x → has_bit (slice_index (with_bits rows n row) x) b ≡ (has_bit (slice_index rows x) b || ((n == x) && has_bit row b)) =
    λ e. ap (λ y. has_bit y b) (ap (λ j. slice_index (slice_set rows j (bit_or (slice_index rows j) row)) x) e ∙ get_or-set_same rows x _ 0 there)
    ∙ bit_of_or (slice_index rows x) row b ∙ ap (λ t. has_bit (slice_index rows x) b || (t && has_bit row b)) (sym (eq-eqb n x e)) in
    let other : (n ≡ x → ⊥) → has_bit (slice_index (with_bits rows n row) x) b ≡ (has_bit (slice_index rows x) b || ((n == x) && has_bit row b)) =
    λ apart. ap (λ y. has_bit y b) (get_or-set_other rows n x _ 0 (λ e. apart (sym e)))
    ∙ sym (or_none _) ∙ ap (λ t. has_bit (slice_index rows x) b || (t && has_bit row b)) (sym (ne_eqb n x apart)) in
    ⊎_elim same other (cases_eq n x)

-- the rows of several numbers
pub each_length : (rows numbers : List ℕ) (row : ℕ) → length (with_each rows numbers row) ≡ length rows
each_length rows [] row = refl
each_length rows (n ∷ numbers) row = each_length (with_bits rows n row) numbers row ∙ bits_length rows n row

both_tests : (t a b c : Bool) → ((t || (a && c)) || (b && c)) ≡ (t || ((a || b) && c))
both_tests true a b c = refl
both_tests false true b true = refl
both_tests false true b false = and_none b
both_tests false false b c = refl

pub bit_with_each : (rows numbers : List ℕ) (row x b : ℕ) → x < length rows → has_bit (slice_index (with_each rows numbers row) x) b ≡ (has_bit (slice_index rows x) b || (has numbers x && has_bit row b))
bit_with_each rows [] row x b there = sym (or_none _)
bit_with_each rows (n ∷ numbers) row x b there =
    bit_with_each (with_bits rows n row) numbers row x b (omega (arith, bits_length rows n row))
    ∙ ap (λ t. t || (has numbers x && has_bit row b)) (bit_with rows n row x b there)
    ∙ both_tests (has_bit (slice_index rows x) b) (n == x) (has numbers x) (has_bit row b)

-- rows with the bits of others
pub all_length : (rows : List ℕ) (from : ℕ) (others : List ℕ) → length (with_all rows from others) ≡ length rows
all_length rows from [] = refl
all_length rows from (row ∷ others) = all_length (with_bits rows from row) (from + 1) others ∙ bits_length rows from row

past_all : (rows : List ℕ) (from : ℕ) (others : List ℕ) (x b : ℕ) → x < length rows → x < from → has_bit (slice_index (with_all rows from others) x) b ≡ has_bit (slice_index rows x) b
past_all rows from [] x b there past = refl
past_all rows from (row ∷ others) x b there past =
    past_all (with_bits rows from row) (from + 1) others x b (omega (arith, bits_length rows from row)) (omega arith)
    ∙ ap (λ y. has_bit y b) (get_or-set_other rows from x _ 0 (λ e. absurd (omega (arith, e))))

bit_with_rest : (rows : List ℕ) (from : ℕ) (others : List ℕ) (k b : ℕ) → from + k < length rows
    → has_bit (slice_index (with_all rows from others) (from + k)) b ≡ (has_bit (slice_index rows (from + k)) b || has_bit (slice_index others k) b)
bit_with_rest rows from [] k b there = sym (or_none _) ∙ ap (λ t. has_bit (slice_index rows (from + k)) b || t) (sym (bit_of_none b))
bit_with_rest rows from (row ∷ others) zero b there =
    past_all (with_bits rows from row) (from + 1) others (from + 0) b (omega (arith, bits_length rows from row)) (omega arith)
    ∙ bit_with rows from row (from + 0) b there
    ∙ ap (λ t. has_bit (slice_index rows (from + 0)) b || (t && has_bit row b)) (eq-eqb from (from + 0) (omega arith))
bit_with_rest rows from (row ∷ others) (suc k) b there =
    let place : from + 1 + k ≡ from + suc k = omega arith in
    ap (λ j. has_bit (slice_index (with_all (with_bits rows from row) (from + 1) others) j) b) (sym place)
    ∙ bit_with_rest (with_bits rows from row) (from + 1) others k b (omega (arith, bits_length rows from row))
    ∙ ap (λ y. has_bit y b || has_bit (slice_index others k) b) (get_or-set_other rows from (from + 1 + k) _ 0 (λ e. absurd (omega (arith, e))))
    ∙ ap (λ j. has_bit (slice_index rows j) b || has_bit (slice_index others k) b) place

pub bit_with_all : (rows others : List ℕ) (x b : ℕ) → x < length rows → has_bit (slice_index (with_all rows 0 others) x) b ≡ (has_bit (slice_index rows x) b || has_bit (slice_index others x) b)
bit_with_all rows others x b there =
    let at : 0 + x ≡ x = omega arith in
    ap (λ j. has_bit (slice_index (with_all rows 0 others) j) b) (sym at) ∙ bit_with_rest rows 0 others x b (omega arith)
    ∙ ap (λ j. has_bit (slice_index rows j) b || has_bit (slice_index others x) b) at

-- the bits of several rows, and more
pub bit_of_each : (rows : List ℕ) (row : ℕ) (numbers : List ℕ) (b : ℕ) → has_bit (each_bits rows row numbers) b ≡ (has_bit row b || list_any (λ n. has_bit (slice_index rows n) b) numbers)
bit_of_each rows row [] b = sym (or_none _)
bit_of_each rows row (n ∷ numbers) b =
    bit_of_each rows (bit_or row (slice_index rows n)) numbers b
    ∙ ap (λ t. t || list_any (λ m. has_bit (slice_index rows m) b) numbers) (bit_of_or row (slice_index rows n) b)
    ∙ sym (or_grouped (has_bit row b) (has_bit (slice_index rows n) b) _)
