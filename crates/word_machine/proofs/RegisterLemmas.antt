-- Registers that all have the same word.
use Rattle.std.specs.Prelude.{if◌then◌else◌, nat_lt, slice_index}
use Rattle.std.proofs.Common.{◌≡◌, ℕ, zero, suc, Bool, true, false, replicate, refl, arith}
use Rattle.std.proofs.Math.Path.{fun_ext}
use Rattle.std.proofs.lemmas.Bool.Decides.{nat_tests}
use Rattle.word_machine.specs.State.{all_registers}

none_below_zero : (r : ℕ) → nat_lt r 0 ≡ false
none_below_zero r = grind (arith, nat_tests)

zero_below : (n : ℕ) → nat_lt 0 (suc n) ≡ true
zero_below n = grind (arith, nat_tests)

both_less : (r n : ℕ) → nat_lt (suc r) (suc n) ≡ nat_lt r n
both_less r n = grind (arith, nat_tests)

-- a register of so many alike
alike_at : (n word r : ℕ) → slice_index (replicate n word) r ≡ (if nat_lt r n then word else 0)
alike_at zero word r = rw (none_below_zero r) refl
alike_at (suc n) word zero = rw (zero_below n) refl
alike_at (suc n) word (suc r) = rw (both_less r n) (alike_at n word r)

pub all_alike : (word : ℕ) → slice_index (replicate 16 word) ≡ all_registers word
all_alike word = fun_ext (λ r. alike_at 16 word r)

nothing_either : (b : Bool) → ◌≡◌ {A = ℕ} (if b then 0 else 0) 0
nothing_either true = refl
nothing_either false = refl

-- registers that are all 0
pub all_zero : all_registers 0 ≡ λ _. 0
all_zero = fun_ext (λ r. nothing_either (nat_lt r 16))
