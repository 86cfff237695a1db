-- Which addresses have a word, for those who know only the bounds of an address.
use Rattle.std.specs.Prelude.{◌≡◌, ℕ, ◌<◌, ◌≤◌, true, false}
use Rattle.std.proofs.Common.{arith}
use Rattle.std.proofs.lemmas.Bool.Decides.{nat_tests}
use Rattle.fram_ram.specs.Memories.{has_word}

-- an address of FRAM
pub fram_has_word : (at : ℕ) → at < 65536 → has_word at ≡ true
unfolding has_word
fram_has_word at h = grind (arith, nat_tests)

-- an address of RAM
pub ram_has_word : (at : ℕ) → 1048576 ≤ at → at < 1052672 → has_word at ≡ true
unfolding has_word
ram_has_word at h k = grind (arith, nat_tests)

-- an address between the memories
pub gap_has_no_word : (at : ℕ) → 65536 ≤ at → at < 1048576 → has_word at ≡ false
unfolding has_word
gap_has_no_word at h k = grind (arith, nat_tests)

-- an address behind both memories
pub end_has_no_word : (at : ℕ) → 1052672 ≤ at → has_word at ≡ false
unfolding has_word
end_has_no_word at h = grind (arith, nat_tests)

-- an address that has a word lies below the end of RAM
pub word_below : (at : ℕ) → has_word at ≡ true → at < 1052672
unfolding has_word
word_below at h = grind (arith, nat_tests)
