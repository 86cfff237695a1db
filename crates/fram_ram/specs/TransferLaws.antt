-- A transfer's words, one at each step, are the updates of a copy, the lowest place first.
use Rattle.std.specs.Prelude.{◌≡◌, ℕ, zero, suc, ◌+◌, ◌-◌, ◌==◌, false, refl}
use Rattle.std.proofs.Common.{◌∙◌, ap, arith}
use Rattle.std.proofs.lemmas.Bool.Decides.{nat_tests}
use Rattle.fram_ram.specs.Engine.{Transfer, begun, advanced, moved_word, moved_words, copied}

-- a transfer under way
abbrev under_way : (to from k n : ℕ) → Transfer
under_way to from k n = record { to = to; from = from; moved = k; left = n }

one_more_is_not_none : (n : ℕ) → (suc n == 0) ≡ false
one_more_is_not_none n = grind (arith, nat_tests)

two_are_not_one : (n : ℕ) → (suc (suc n) == 1) ≡ false
two_are_not_one n = grind (arith, nat_tests)

one_less : (n : ℕ) → suc (suc n) - 1 ≡ suc n
one_less n = omega arith

goes_on : (to from k n : ℕ) → advanced (under_way to from k (suc (suc n))) ≡ under_way to from (k + 1) (suc n)
goes_on to from k n = rw (two_are_not_one n, one_less n)

-- all words that are left
pub moved_are_copied : (to from k n : ℕ) (store : ℕ → ℕ) → moved_words n (under_way to from k n) store ≡ copied to from k n store
unfolding moved_words copied
moved_are_copied to from k zero store = refl
moved_are_copied to from k (suc zero) store = refl
moved_are_copied to from k (suc (suc n)) store =
    let word = moved_word (under_way to from k (suc (suc n))) store in
    ap (λ t. moved_words (suc n) t word) (goes_on to from k n) ∙ moved_are_copied to from (k + 1) (suc n) word

-- a whole transfer; one of no words is none
pub transfer_copies : (to from n : ℕ) (store : ℕ → ℕ) → moved_words n (begun to from n) store ≡ copied to from 0 n store
unfolding moved_words copied
transfer_copies to from zero store = refl
transfer_copies to from (suc n) store = rw (one_more_is_not_none n) (moved_are_copied to from 0 (suc n) store)
