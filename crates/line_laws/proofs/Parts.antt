-- Each template does what its part of a value says.
use Rattle.std.specs.Prelude.{◌==◌, ◌*◌, ◌/◌, ◌%◌, ◌-◌, nat_lt, nat_le, if◌then◌else◌, not, bit_and, bit_or, bit_xor}
use Rattle.std.proofs.lemmas.Nat.{and_le_l, or_of_32, xor_of_32}
use Rattle.std.proofs.Common.{◌≡◌, ℕ, zero, suc, ◌+◌, ◌^◌, ◌<◌, Bool, true, false, List, length, Ok, Err, refl, arith}
use Rattle.std.proofs.lemmas.Bool.Decides.{nat_tests}
use Rattle.task_ast.specs.declared.tree.Op1.{Op1}
use Rattle.task_ast.specs.declared.tree.Op1.TheVariants as one
use Rattle.task_ast.specs.declared.tree.Op2.{Op2}
use Rattle.task_ast.specs.declared.tree.Op2.TheVariants as two
use Rattle.word_isa.specs.declared.instr.Instr.{Instr}
use Rattle.word_isa.specs.declared.instr.Instr.TheVariants.{Div, Rem}
use Rattle.walk_run.specs.Operators.{truth, holds, one_word, two_words}
use Rattle.walk_run.specs.declared.trap.Trap.TheVariants.{Divisor}
use Rattle.word_machine.specs.State.{Program}
use Rattle.word_machine.specs.Straight.{Spot}
use Rattle.line_laws.specs.Standing.{Lie, instrs}
use Rattle.line_laws.specs.Gives.{Gives, word_goal}
use Rattle.line_code.specs.Expressions.{number_code, one_code, op_code}
use Rattle.line_laws.proofs.OwnLines.{own_gives}
use Rattle.line_laws.specs.GiveLaws.{line_gives, gives_trap}

pub number_gives : (p : Program) (d n : ℕ) (s : Spot) → Lie p s.pc (number_code n) → n < 2 ^ 32 → Gives p d 12 s (word_goal d (s.pc + 2) (Ok n))
number_gives p d n s stands small =
    own_gives p d 12 (instrs (number_code n)) s n stands refl (omega arith) small (omega arith)

pub truth_fits : (b : Bool) → truth b < 2 ^ 32
truth_fits true = omega arith
truth_fits false = omega arith

pub suc_is_not_zero : (x : ℕ) → (suc x == 0) ≡ false
suc_is_not_zero x = grind (arith, nat_tests)

-- a test against 0 is a denial
pub denied : (x z : ℕ) → z ≡ 0 → (if x == z then 1 else 0) ≡ truth (not (holds x))
denied zero z h = rw h
denied (suc x) z h = rw (h, suc_is_not_zero x)

pub one_gives : (op : Op1) (p : Program) (d x : ℕ) (s : Spot) → Lie p s.pc (one_code op) → s.regs 0 ≡ 0 → s.regs 1 ≡ x → x < 2 ^ 32
    → Gives p d 4 s (word_goal d (s.pc + length (one_code op)) (Ok (one_word op x)))
one_gives one.Not p d x s stands zero_is has small =
    own_gives p d 4 (instrs (one_code one.Not)) s (one_word one.Not x) stands refl
    (rw has (denied x (s.regs 0) zero_is)) (truth_fits (not (holds x))) (omega arith)
one_gives one.Inv p d x s stands zero_is has small =
    own_gives p d 4 (instrs (one_code one.Inv)) s (one_word one.Inv x) stands refl
    (rw has (omega arith)) (omega arith) (omega arith)
one_gives one.Neg p d x s stands zero_is has small =
    own_gives p d 4 (instrs (one_code one.Neg)) s (one_word one.Neg x) stands refl
    (rw has (omega arith)) (omega arith) (omega arith)

-- the tests that a comparison's code ends in
at_most : (x y z : ℕ) → z ≡ 0 → (if (if nat_lt y x then 1 else 0) == z then 1 else 0) ≡ truth (nat_le x y)
at_most x y z h = rw h (grind (arith, nat_tests))

not_equal : (x y z : ℕ) → z ≡ 0 → (if (if x == y then 1 else 0) == z then 1 else 0) ≡ truth (not (x == y))
not_equal x y z h = rw h (grind (arith, nat_tests))

-- a line of scratch registers alone, that leaves a word
abbrev Lines : Program → ℕ → Spot → List Instr → ℕ → Type 0
Lines p d s is word = Gives p d 3 s (word_goal d (s.pc + length is) (Ok word))

-- a shift's word, by whether it shifts by less than 32
by_width : (p : Program) (d x word : ℕ) (s : Spot) (is : List Instr) (b : Bool) → Lines p d s is (if b then word else 0) → Gives p d 3 s (word_goal d (s.pc + length is) (if b then Ok word else Ok 0))
by_width p d x word s is true g = g
by_width p d x word s is false g = g

small_if : (b : Bool) (word : ℕ) → word < 2 ^ 32 → (if b then word else 0) < 2 ^ 32
small_if true word h = h
small_if false word h = omega arith

-- the operators that value both sides
abbrev pub is_strict : Op2 → Bool
is_strict two.Both = false
is_strict two.Either = false
is_strict op = true

pub op_gives : (op : Op2) (p : Program) (d x y : ℕ) (s : Spot) → is_strict op ≡ true → Lie p s.pc (op_code op) → s.regs 0 ≡ 0 → s.regs 1 ≡ x → s.regs 2 ≡ y → x < 2 ^ 32 → y < 2 ^ 32
    → Gives p d 3 s (word_goal d (s.pc + length (op_code op)) (two_words op x y))
op_gives two.Add p d x y s strict stands z a b h k = own_gives p d 3 (instrs (op_code two.Add)) s ((x + y) % 2 ^ 32) stands refl (rw (a, b)) (omega arith) (omega arith)
op_gives two.Sub p d x y s strict stands z a b h k = own_gives p d 3 (instrs (op_code two.Sub)) s ((x + (2 ^ 32 - y)) % 2 ^ 32) stands refl (rw (a, b)) (omega arith) (omega arith)
op_gives two.Mul p d x y s strict stands z a b h k = own_gives p d 3 (instrs (op_code two.Mul)) s (x * y % 2 ^ 32) stands refl (rw (a, b)) (omega arith) (omega arith)
op_gives two.Div p d x zero s strict stands z a b h k = gives_trap p d 3 (Div 1 2) s (word_goal d (s.pc + 1) (Err Divisor)) 2 stands.0 (rw b) (λ s u atoms h. h) (omega arith)
op_gives two.Div p d x (suc y) s strict stands z a b h k = line_gives p d 3 (instrs (op_code two.Div)) s (x / suc y) stands (refl, rw (b, suc_is_not_zero y), tt) refl (record { fixed = λ r h. simp (h.one); kept = λ a h. refl }) (rw (a, b)) (omega arith) (omega arith)
op_gives two.Rem p d x zero s strict stands z a b h k = gives_trap p d 3 (Rem 1 2) s (word_goal d (s.pc + 1) (Err Divisor)) 2 stands.0 (rw b) (λ s u atoms h. h) (omega arith)
op_gives two.Rem p d x (suc y) s strict stands z a b h k = line_gives p d 3 (instrs (op_code two.Rem)) s (x % suc y) stands (refl, rw (b, suc_is_not_zero y), tt) refl (record { fixed = λ r h. simp (h.one); kept = λ a h. refl }) (rw (a, b)) (omega arith) (omega arith)
op_gives two.And p d x y s strict stands z a b h k = own_gives p d 3 (instrs (op_code two.And)) s (bit_and x y) stands refl (rw (a, b)) (omega (arith, and_le_l x y)) (omega arith)
op_gives two.Or p d x y s strict stands z a b h k = own_gives p d 3 (instrs (op_code two.Or)) s (bit_or x y) stands refl (rw (a, b)) (or_of_32 x y h k) (omega arith)
op_gives two.Xor p d x y s strict stands z a b h k = own_gives p d 3 (instrs (op_code two.Xor)) s (bit_xor x y) stands refl (rw (a, b)) (xor_of_32 x y h k) (omega arith)
op_gives two.Shl p d x y s strict stands z a b h k = by_width p d x (x * 2 ^ y % 2 ^ 32) s (instrs (op_code two.Shl)) (nat_lt y 32) (own_gives p d 3 (instrs (op_code two.Shl)) s (if nat_lt y 32 then x * 2 ^ y % 2 ^ 32 else 0) stands refl (rw (a, b)) (small_if (nat_lt y 32) (x * 2 ^ y % 2 ^ 32) (omega arith)) (omega arith))
op_gives two.Shr p d x y s strict stands z a b h k = by_width p d x (x / 2 ^ y) s (instrs (op_code two.Shr)) (nat_lt y 32) (own_gives p d 3 (instrs (op_code two.Shr)) s (if nat_lt y 32 then x / 2 ^ y else 0) stands refl (rw (a, b)) (small_if (nat_lt y 32) (x / 2 ^ y) (omega arith)) (omega arith))
op_gives two.Eq p d x y s strict stands z a b h k = own_gives p d 3 (instrs (op_code two.Eq)) s (truth (x == y)) stands refl (rw (a, b)) (truth_fits (x == y)) (omega arith)
op_gives two.Ne p d x y s strict stands z a b h k = own_gives p d 3 (instrs (op_code two.Ne)) s (truth (not (x == y))) stands refl (rw (a, b) (not_equal x y (s.regs 0) z)) (truth_fits (not (x == y))) (omega arith)
op_gives two.Lt p d x y s strict stands z a b h k = own_gives p d 3 (instrs (op_code two.Lt)) s (truth (nat_lt x y)) stands refl (rw (a, b)) (truth_fits (nat_lt x y)) (omega arith)
op_gives two.Le p d x y s strict stands z a b h k = own_gives p d 3 (instrs (op_code two.Le)) s (truth (nat_le x y)) stands refl (rw (a, b) (at_most x y (s.regs 0) z)) (truth_fits (nat_le x y)) (omega arith)
op_gives two.Gt p d x y s strict stands z a b h k = own_gives p d 3 (instrs (op_code two.Gt)) s (truth (nat_lt y x)) stands refl (rw (a, b)) (truth_fits (nat_lt y x)) (omega arith)
op_gives two.Ge p d x y s strict stands z a b h k = own_gives p d 3 (instrs (op_code two.Ge)) s (truth (nat_le y x)) stands refl (rw (a, b) (at_most y x (s.regs 0) z)) (truth_fits (nat_le y x)) (omega arith)
op_gives two.Both p d x y s strict stands z a b h k = cc
op_gives two.Either p d x y s strict stands z a b h k = cc
