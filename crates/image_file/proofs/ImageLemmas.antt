-- What the tests of an image give for its bytes.
use Rattle.std.proofs.Common.{◌≡◌, ℕ, ◌<◌, ◌^◌, Bool, true, false, nat_lt, if◌then◌else◌, List, ◌++◌, Option, Some, None, refl, append_assoc, arith}
use Rattle.std.proofs.lemmas.Bool.Decides.{nat_tests}
use Rattle.word_isa.specs.Checks.{first_too_large}

-- counts within their limits fit their fields
pub record CountsFit (code fram symbols peripherals marks : ℕ) : Type 0 where
  pub code_fits : code < 2 ^ 32
  pub fram_fits : fram < 2 ^ 32
  pub symbols_fit : symbols < 2 ^ 16
  pub peripherals_fit : peripherals < 2 ^ 16
  pub marks_fit : marks < 2 ^ 32

-- no count is told here
no_count : (past : Bool) (n : ℕ) (rest : Option ℕ) → (if past then Some n else rest) ≡ None → (past ≡ false) × (rest ≡ None)
no_count true n rest e = cc
no_count false n rest e = (refl, e)

within : (most n end : ℕ) → nat_lt most n ≡ false → most < end → n < end
within most n end e small = grind (arith, nat_tests)

pub counts_fit : (code fram symbols peripherals marks : ℕ) → first_too_large code fram symbols peripherals marks ≡ None → CountsFit code fram symbols peripherals marks
counts_fit code fram symbols peripherals marks e =
    let (a, b) = no_count (nat_lt 4194304 code) code _ e in
    let (c, d) = no_count (nat_lt 65536 fram) fram _ b in
    let (f, g) = no_count (nat_lt 256 symbols) symbols _ d in
    let (h, i) = no_count (nat_lt 256 peripherals) peripherals _ g in
    let (j, k) = no_count (nat_lt 2097152 marks) marks None i in
    record {
      code_fits = within 4194304 code (2 ^ 32) a (omega arith);
      fram_fits = within 65536 fram (2 ^ 32) c (omega arith);
      symbols_fit = within 256 symbols (2 ^ 16) f (omega arith);
      peripherals_fit = within 256 peripherals (2 ^ 16) h (omega arith);
      marks_fit = within 2097152 marks (2 ^ 32) j (omega arith);
    }

-- seven parts, one behind another
pub all_parts : (a b c d e f g : List ℕ) → a ++ b ++ c ++ d ++ e ++ f ++ g ≡ a ++ (b ++ (c ++ (d ++ (e ++ (f ++ g)))))
all_parts a b c d e f g = simp append_assoc
