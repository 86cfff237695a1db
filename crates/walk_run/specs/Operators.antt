-- The operators on words.
use Rattle.std.specs.Prelude.{ℕ, zero, suc, ◌+◌, ◌-◌, ◌*◌, ◌/◌, ◌%◌, ◌^◌, Bool, true, false, not, ◌&&◌, ◌||◌, ◌==◌, nat_lt, nat_le, if◌then◌else◌, bit_and, bit_or, bit_xor, Option, Some, None, Result, Ok, Err}
use Rattle.ease_base.specs.Found.{with_found}
use Rattle.task_ast.specs.declared.tree.Op2.{Op2}
use Rattle.task_ast.specs.declared.tree.Op2.TheVariants.{Add, Sub, Mul, Div, Rem, And, Or, Xor, Shl, Shr, Eq, Ne, Lt, Le, Gt, Ge, Both, Either}
use Rattle.task_ast.specs.declared.tree.Op1.{Op1}
use Rattle.task_ast.specs.declared.tree.Op1.TheVariants.{Not, Inv, Neg}
use Rattle.walk_run.specs.declared.trap.Trap.{Trap}
use Rattle.walk_run.specs.declared.trap.Trap.TheVariants.{Divisor}

-- a truth as a word
abbrev pub truth : Bool → ℕ
truth b = if b then 1 else 0

-- a word is a condition that holds where it isn't 0
abbrev pub holds : ℕ → Bool
holds zero = false
holds (suc n) = true

-- a quotient or a remainder; trap Divisor where the divisor is 0
abbrev pub divided : (ℕ → ℕ → ℕ) → (x divisor : ℕ) → Result ℕ Trap
divided f x zero = Err Divisor
divided f x (suc y) = Ok (f x (suc y))

-- a shift; by 32 or more it gives 0
abbrev pub shifted : (ℕ → ℕ → ℕ) → (x places : ℕ) → Result ℕ Trap
shifted f x y = if nat_lt y 32 then Ok (f x y) else Ok 0

-- a prefix operator on a word
abbrev pub one_word : Op1 → ℕ → ℕ
one_word Not x = truth (not (holds x))
one_word Inv x = 2 ^ 32 - 1 - x
one_word Neg x = (2 ^ 32 - x) % 2 ^ 32

-- a binary operator on two words: sums, differences and products wrap
abbrev pub two_words : Op2 → ℕ → ℕ → Result ℕ Trap
two_words Add x y = Ok ((x + y) % 2 ^ 32)
two_words Sub x y = Ok ((x + (2 ^ 32 - y)) % 2 ^ 32)
two_words Mul x y = Ok (x * y % 2 ^ 32)
two_words Div x y = divided ◌/◌ x y
two_words Rem x y = divided ◌%◌ x y
two_words And x y = Ok (bit_and x y)
two_words Or x y = Ok (bit_or x y)
two_words Xor x y = Ok (bit_xor x y)
two_words Shl x y = shifted (λ a b. a * 2 ^ b % 2 ^ 32) x y
two_words Shr x y = shifted (λ a b. a / 2 ^ b) x y
two_words Eq x y = Ok (truth (x == y))
two_words Ne x y = Ok (truth (not (x == y)))
two_words Lt x y = Ok (truth (nat_lt x y))
two_words Le x y = Ok (truth (nat_le x y))
two_words Gt x y = Ok (truth (nat_lt y x))
two_words Ge x y = Ok (truth (nat_le y x))
two_words Both x y = Ok (truth (holds x && holds y))
two_words Either x y = Ok (truth (holds x || holds y))

-- what `&&` gives where its left side decides, and what `||` does
abbrev pub decided_both : (left : ℕ) → Option ℕ
decided_both zero = Some 0
decided_both (suc n) = None

abbrev pub decided_either : (left : ℕ) → Option ℕ
decided_either zero = None
decided_either (suc n) = Some 1

-- where the left side of an operator decides, the result
abbrev pub decided : Op2 → (left : ℕ) → Option ℕ
decided Add left = None
decided Sub left = None
decided Mul left = None
decided Div left = None
decided Rem left = None
decided And left = None
decided Or left = None
decided Xor left = None
decided Shl left = None
decided Shr left = None
decided Eq left = None
decided Ne left = None
decided Lt left = None
decided Le left = None
decided Gt left = None
decided Ge left = None
decided Both left = decided_both left
decided Either left = decided_either left

-- what is decided, or else what the right side gives
abbrev pub unless_decided : Option ℕ → Result ℕ Trap → Result ℕ Trap
unless_decided (Some word) r = Ok word
unless_decided None r = r

-- A binary operator on two values: a trap of the left one comes first, and the right one isn't valued where the left decides.
abbrev pub two_values : Op2 → Result ℕ Trap → Result ℕ Trap → Result ℕ Trap
two_values op x y = with_found x (λ left. unless_decided (decided op left) (with_found y (two_words op left)))
