-- A word's instruction as a function of its fields is the one whose row has the word.
use Rattle.std.specs.Prelude.{◌≡◌, ◌↔◌, if◌then◌else◌, ℕ, zero, suc, ◌+◌, ◌/◌, ◌<◌, ◌≤◌, Bool, true, false, ◌&&◌, ◌==◌, nat_le, nat_lt, List, [], ◌∷◌, Option, Some, None, slice_get, refl}
use Rattle.std.proofs.Common.{sym, ◌∙◌, subst, arith, rules}
use Rattle.std.proofs.lemmas.Bool.{eqb-true, leb-true}
use Rattle.std.proofs.lemmas.Bool.Decides.{nat_tests}
use Rattle.word_isa.specs.Fields.{word_of, code_field, a_field, b_field, m_field, t_field}
use Rattle.word_isa.specs.Operands.{Operands, op_none, op_a, op_m, op_t, op_a_b, op_a_m, op_a_b_m, op_io, op_dma, packed, Fit}
use Rattle.word_isa.specs.Instructions.{row_of, HasRow}
use Rattle.word_isa.specs.Decoding.{rows_with, rest_is_clear, if_clear, instr_at, decoded}
use Rattle.word_isa.specs.declared.instr.Instr.{Instr}
use Rattle.word_isa.specs.declared.instr.Instr.TheVariants.{Halt, Ldi, Lui, Mov, Add, Sub, Mul, Div, Rem, And, Or, Xor, Shl, Shr, Eq, Ltu, Adi, Ld, St, Jmp, Jz, Io, Time, Dma, Trap}

-- the fields of a word that was put together
code_back : (code a b m w : ℕ) → a < 16 → b < 16 → m < 65536 → word_of code a b m ≡ w → code_field w ≡ code
code_back code a b m w a_fits b_fits m_fits e = omega arith

a_back : (code a b m w : ℕ) → a < 16 → b < 16 → m < 65536 → word_of code a b m ≡ w → a_field w ≡ a
a_back code a b m w a_fits b_fits m_fits e = omega arith

b_back : (code a b m w : ℕ) → a < 16 → b < 16 → m < 65536 → word_of code a b m ≡ w → b_field w ≡ b
b_back code a b m w a_fits b_fits m_fits e = omega arith

m_back : (code a b m w : ℕ) → a < 16 → b < 16 → m < 65536 → word_of code a b m ≡ w → m_field w ≡ m
m_back code a b m w a_fits b_fits m_fits e = omega arith

t_back : (code t w : ℕ) → t < 16777216 → word_of code 0 0 0 + t ≡ w → t_field w ≡ t
t_back code t w t_fits e = omega arith

code_back_t : (code t w : ℕ) → t < 16777216 → word_of code 0 0 0 + t ≡ w → code_field w ≡ code
code_back_t code t w t_fits e = omega arith

-- and a word that is put together from its fields
word_back : (w : ℕ) → word_of (code_field w) (a_field w) (b_field w) (m_field w) ≡ w
word_back w = omega arith

t_word_back : (w : ℕ) → word_of (code_field w) 0 0 0 + t_field w ≡ w
t_word_back w = omega arith

-- the instruction at a word's fields is the one at the fields that the word was put together from
fields_back : (code a b m w : ℕ) → a < 16 → b < 16 → m < 65536 → word_of code a b m ≡ w → decoded w ≡ instr_at code a b m (t_field w)
unfolding decoded
fields_back code a b m w a_fits b_fits m_fits e =
    rw (code_back code a b m w a_fits b_fits m_fits e, a_back code a b m w a_fits b_fits m_fits e, b_back code a b m w a_fits b_fits m_fits e, m_back code a b m w a_fits b_fits m_fits e) refl

address_back : (t w : ℕ) → t < 16777216 → word_of 20 0 0 0 + t ≡ w → decoded w ≡ Some (Jmp t)
unfolding decoded
address_back t w t_fits e = rw (code_back_t 20 t w t_fits e, t_back 20 t w t_fits e) refl

-- a test that holds lets the instruction through
passed : (test : Bool) (i : Instr) (w : ℕ) → test ≡ true → decoded w ≡ (if test then Some i else None) → decoded w ≡ Some i
passed true i w e is = is
passed false i w e is = cc

both_le : (m b : ℕ) → m / 256 ≤ 4 → b + m / 256 ≤ 16 → (nat_le (m / 256) 4 && nat_le (b + m / 256) 16) ≡ true
both_le m b few last = grind (arith, nat_tests)

below_16 : (m : ℕ) → m < 16 → nat_lt m 16 ≡ true
below_16 m h = grind (arith, nat_tests)

zero_fits : 0 < 16
zero_fits = omega arith

zero_fits_m : 0 < 65536
zero_fits_m = omega arith

-- the word of an instruction whose operands fit gives the instruction again
pub row_decoded : (w : ℕ) (i : Instr) → HasRow w i → decoded w ≡ Some i
row_decoded w Halt h = fields_back 1 0 0 0 w zero_fits zero_fits zero_fits_m h.1
row_decoded w (Ldi a m) h = fields_back 2 a 0 m w h.0.0 zero_fits h.0.1 h.1
row_decoded w (Lui a m) h = fields_back 3 a 0 m w h.0.0 zero_fits h.0.1 h.1
row_decoded w (Mov a b) h = fields_back 4 a b 0 w h.0.0 h.0.1 zero_fits_m h.1
row_decoded w (Add a b) h = fields_back 5 a b 0 w h.0.0 h.0.1 zero_fits_m h.1
row_decoded w (Sub a b) h = fields_back 6 a b 0 w h.0.0 h.0.1 zero_fits_m h.1
row_decoded w (Mul a b) h = fields_back 7 a b 0 w h.0.0 h.0.1 zero_fits_m h.1
row_decoded w (Div a b) h = fields_back 8 a b 0 w h.0.0 h.0.1 zero_fits_m h.1
row_decoded w (Rem a b) h = fields_back 9 a b 0 w h.0.0 h.0.1 zero_fits_m h.1
row_decoded w (And a b) h = fields_back 10 a b 0 w h.0.0 h.0.1 zero_fits_m h.1
row_decoded w (Or a b) h = fields_back 11 a b 0 w h.0.0 h.0.1 zero_fits_m h.1
row_decoded w (Xor a b) h = fields_back 12 a b 0 w h.0.0 h.0.1 zero_fits_m h.1
row_decoded w (Shl a b) h = fields_back 13 a b 0 w h.0.0 h.0.1 zero_fits_m h.1
row_decoded w (Shr a b) h = fields_back 14 a b 0 w h.0.0 h.0.1 zero_fits_m h.1
row_decoded w (Eq a b) h = fields_back 15 a b 0 w h.0.0 h.0.1 zero_fits_m h.1
row_decoded w (Ltu a b) h = fields_back 16 a b 0 w h.0.0 h.0.1 zero_fits_m h.1
row_decoded w (Adi a m) h = fields_back 17 a 0 m w h.0.0 zero_fits h.0.1 h.1
row_decoded w (Ld a b m) h = fields_back 18 a b m w h.0.0 h.0.1 h.0.2 h.1
row_decoded w (St a b m) h = fields_back 19 a b m w h.0.0 h.0.1 h.0.2 h.1
row_decoded w (Jmp t) h = address_back t w h.0 h.1
row_decoded w (Jz a m) h = fields_back 21 a 0 m w h.0.0 zero_fits h.0.1 h.1
row_decoded w (Io a b m) h =
    passed (nat_le (m / 256) 4 && nat_le (b + m / 256) 16) (Io a b m) w (both_le m b h.0.3 h.0.4) (fields_back 22 a b m w h.0.0 h.0.1 h.0.2 h.1)
row_decoded w (Time a) h = fields_back 23 a 0 0 w h.0 zero_fits zero_fits_m h.1
row_decoded w (Dma a b m) h =
    let m_fits : m < 65536 = omega (arith, h.0.2) in
    passed (nat_lt m 16) (Dma a b m) w (below_16 m h.0.2) (fields_back 24 a b m w h.0.0 h.0.1 m_fits h.1)
row_decoded w (Trap m) h = fields_back 25 0 0 m w zero_fits zero_fits h.0 h.1

-- operands of the same form with these fields
abbrev pub refilled : Operands → (a b m t : ℕ) → Operands
refilled op_none a b m t = op_none
refilled (op_a _) a b m t = op_a a
refilled (op_m _) a b m t = op_m m
refilled (op_t _) a b m t = op_t t
refilled (op_a_b _ _) a b m t = op_a_b a b
refilled (op_a_m _ _) a b m t = op_a_m a m
refilled (op_a_b_m _ _ _) a b m t = op_a_b_m a b m
refilled (op_io _ _ _) a b m t = op_io a b m
refilled (op_dma _ _ _) a b m t = op_dma a b m

-- the instructions have the codes from here on, and these fields
abbrev pub AreNumbered : ℕ → List Instr → (a b m t : ℕ) → Type 0
AreNumbered first [] a b m t = Unit {0}
AreNumbered first (i ∷ rest) a b m t = ((row_of i).code ≡ first) × ((row_of i).operands ≡ refilled (row_of i).operands a b m t) × AreNumbered (suc first) rest a b m t

pub rows_numbered : (a b m t : ℕ) → AreNumbered 1 (rows_with a b m t) a b m t
rows_numbered a b m t = search rules

-- so has each of them
pub record IsAtCode (code : ℕ) (i : Instr) (a b m t : ℕ) : Type 0 where
  pub is_code : (row_of i).code ≡ code
  pub is_filled : (row_of i).operands ≡ refilled (row_of i).operands a b m t

pub numbered_at : (rows : List Instr) (first n : ℕ) (i : Instr) (a b m t : ℕ) → AreNumbered first rows a b m t → slice_get rows n ≡ Some i → IsAtCode (first + n) i a b m t
numbered_at [] first n i a b m t all at = cc
numbered_at (j ∷ rows) first zero i a b m t all at =
    let same : j ≡ i = cc in subst (λ k. IsAtCode (first + 0) k a b m t) same (record { is_code = omega (arith, all.0); is_filled = all.1 })
numbered_at (j ∷ rows) first (suc n) i a b m t all at =
    let rest = numbered_at rows (suc first) n i a b m t all.2 at in
    record { is_code = omega (arith, rest.is_code); is_filled = rest.is_filled }

both_true : (p q : Bool) → (p && q) ≡ true → (p ≡ true) × (q ≡ true)
both_true true q e = (refl, e)
both_true false q e = cc

is_zero : (n : ℕ) → (n == 0) ≡ true → n ≡ 0
is_zero n e = eqb-true n 0 e

two_zero : (a b : ℕ) → ((a == 0) && (b == 0)) ≡ true → (a ≡ 0) × (b ≡ 0)
two_zero a b e =
    let both = both_true (a == 0) (b == 0) e in (is_zero a both.0, is_zero b both.1)

three_zero : (a b m : ℕ) → ((a == 0) && (b == 0) && (m == 0)) ≡ true → (a ≡ 0) × (b ≡ 0) × (m ≡ 0)
three_zero a b m e =
    let both = both_true ((a == 0) && (b == 0)) (m == 0) e in
    let first = two_zero a b both.0 in
    (first.0, first.1, is_zero m both.1)

two_le : (b m : ℕ) → (nat_le (m / 256) 4 && nat_le (b + m / 256) 16) ≡ true → (m / 256 ≤ 4) × (b + m / 256 ≤ 16)
two_le b m e =
    let both = both_true (nat_le (m / 256) 4) (nat_le (b + m / 256) 16) e in (leb-true (m / 256) 4 both.0, leb-true (b + m / 256) 16 both.1)

-- where the rest is clear, operands with a word's fields fit and give the word
filled_word : (o : Operands) (w : ℕ) → rest_is_clear o (a_field w) (b_field w) (m_field w) ≡ true → Fit (refilled o (a_field w) (b_field w) (m_field w) (t_field w)) × (packed (code_field w) (refilled o (a_field w) (b_field w) (m_field w) (t_field w)) ≡ w)
filled_word op_none w clear =
    let zeros = three_zero (a_field w) (b_field w) (m_field w) clear in (tt, omega (arith, word_back w))
filled_word (op_a _) w clear =
    let zeros = two_zero (b_field w) (m_field w) clear in (omega arith, omega (arith, word_back w))
filled_word (op_m _) w clear =
    let zeros = two_zero (a_field w) (b_field w) clear in (omega arith, omega (arith, word_back w))
filled_word (op_t _) w clear = (omega arith, t_word_back w)
filled_word (op_a_b _ _) w clear =
    let zero_ = is_zero (m_field w) clear in ((omega arith, omega arith), omega (arith, word_back w))
filled_word (op_a_m _ _) w clear =
    let zero_ = is_zero (b_field w) clear in ((omega arith, omega arith), omega (arith, word_back w))
filled_word (op_a_b_m _ _ _) w clear = ((omega arith, omega arith, omega arith), word_back w)
filled_word (op_io _ _ _) w clear =
    let limits = two_le (b_field w) (m_field w) clear in ((omega arith, omega arith, omega arith, limits.0, limits.1), word_back w)
filled_word (op_dma _ _ _) w clear =
    let limit : m_field w < 16 = leb-true (suc (m_field w)) 16 clear in ((omega arith, omega arith, limit), word_back w)

-- an instruction at its code that is let through has the word
let_through : (w code : ℕ) (i j : Instr) (test : Bool) → code ≡ code_field w → IsAtCode code i (a_field w) (b_field w) (m_field w) (t_field w) → test ≡ rest_is_clear (row_of i).operands (a_field w) (b_field w) (m_field w) → (if test then Some i else None) ≡ Some j → HasRow w j
let_through w code i j true is_code at is_test e =
    let same : i ≡ j = cc in
    let filled = filled_word (row_of i).operands w (sym is_test) in
    let P : Operands → ℕ → Type 0 = λ o n. Fit o × (packed n o ≡ w) in
    let at_operands : P (row_of i).operands (code_field w) = subst (λ o. P o (code_field w)) (sym at.is_filled) filled in
    let at_code : P (row_of i).operands (row_of i).code = subst (λ n. P (row_of i).operands n) (sym (at.is_code ∙ is_code)) at_operands in
    subst (λ k. HasRow w k) same at_code
let_through w code i j false is_code at is_test e = cc

found_at : (w n : ℕ) (o : Option Instr) (j : Instr) → suc n ≡ code_field w → slice_get (rows_with (a_field w) (b_field w) (m_field w) (t_field w)) n ≡ o → if_clear o (a_field w) (b_field w) (m_field w) ≡ Some j → HasRow w j
found_at w n None j is_code at e = cc
found_at w n (Some i) j is_code at e =
    let_through w (1 + n) i j (rest_is_clear (row_of i).operands (a_field w) (b_field w) (m_field w)) (omega arith) (numbered_at (rows_with (a_field w) (b_field w) (m_field w) (t_field w)) 1 n i (a_field w) (b_field w) (m_field w) (t_field w) (rows_numbered (a_field w) (b_field w) (m_field w) (t_field w)) at) refl e

at_fields : (w code : ℕ) (j : Instr) → code ≡ code_field w → instr_at code (a_field w) (b_field w) (m_field w) (t_field w) ≡ Some j → HasRow w j
at_fields w zero j is_code e = cc
at_fields w (suc n) j is_code e =
    found_at w n (slice_get (rows_with (a_field w) (b_field w) (m_field w) (t_field w)) n) j is_code refl e

-- the instruction that a word gives has it
pub decoded_row : (w : ℕ) (i : Instr) → decoded w ≡ Some i → HasRow w i
unfolding decoded
decoded_row w i e = at_fields w (code_field w) i refl e

none_or_row : (w : ℕ) (o : Option Instr) → decoded w ≡ o → ((i : Instr) → HasRow w i → ⊥) → o ≡ None
none_or_row w None is nowhere = refl
none_or_row w (Some i) is nowhere = absurd (nowhere i (decoded_row w i is))

none_and_some : (o : Option Instr) (i : Instr) → o ≡ None → o ≡ Some i → ⊥
none_and_some o i none some = cc

-- a word gives exactly the instruction whose row has it
pub decoded_exactly : (w : ℕ) (i : Instr) → (decoded w ≡ Some i) ↔ HasRow w i
decoded_exactly w i = (decoded_row w i, row_decoded w i)

-- and none exactly where no row has it
pub decoded_never : (w : ℕ) → (decoded w ≡ None) ↔ ((i : Instr) → HasRow w i → ⊥)
decoded_never w = (
  λ e i h. none_and_some (decoded w) i e (row_decoded w i h),
  λ nowhere. none_or_row w (decoded w) refl nowhere,
)

-- the same of a result that is the word's instruction
pub result_exactly : (w : ℕ) (o : Option Instr) → o ≡ decoded w → (i : Instr) → (o ≡ Some i) ↔ HasRow w i
result_exactly w o is i =
    let P : Option Instr → Type 0 = λ k. (k ≡ Some i) ↔ HasRow w i in subst P (sym is) (decoded_exactly w i)

pub result_never : (w : ℕ) (o : Option Instr) → o ≡ decoded w → (o ≡ None) ↔ ((i : Instr) → HasRow w i → ⊥)
result_never w o is =
    let P : Option Instr → Type 0 = λ k. (k ≡ None) ↔ ((i : Instr) → HasRow w i → ⊥) in subst P (sym is) (decoded_never w)
