-- A transfer keeps its addresses and its length within words.
use Rattle.std.proofs.Common.{◌≡◌, ◌∙◌, ℕ, ◌+◌, ◌-◌, ◌<◌, Bool, ◌&&◌, true, sym, arith}
use Rattle.std.proofs.lemmas.Bool.{and_parts}
use Rattle.fram_ram.specs.Addresses.{word_below}
use Rattle.fram_ram.specs.Engine.{IsWithinWords}
use Rattle.fram_ram.specs.Memories.{has_word}

-- an address behind one that has a word is a word, so after a word that was moved the next addresses are words
pub next_within : (to from moved left : ℕ) (moves : Bool) → IsWithinWords to from moved left → 1 < left
    → moves ≡ (has_word (from + moved) && has_word (to + moved)) → true ≡ moves → IsWithinWords to from (moved + 1) (left - 1)
next_within to from moved left moves within more found answered =
    let both = and_parts (has_word (from + moved)) (has_word (to + moved)) (sym (answered ∙ found)) in
    let source = word_below (from + moved) both.0 in
    let destination = word_below (to + moved) both.1 in
    record {
      destination = omega arith;
      source = omega arith;
      length = omega arith;
      nothing = λ h. absurd (omega arith);
    }
