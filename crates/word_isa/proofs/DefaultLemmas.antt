-- A code that no row has gives no instruction.
use Rattle.std.specs.Prelude.{◌≡◌, ℕ, zero, suc, ◌<◌, ◌≤◌, None, refl}
use Rattle.std.proofs.Common.{ap, arith}
use Rattle.std.proofs.lemmas.Option.{slice_get_past}
use Rattle.word_isa.specs.Decoding.{rows_with, if_clear, instr_at}

pub no_row : (code a b m t : ℕ) → (0 < code → 25 < code) → instr_at code a b m t ≡ None
no_row zero a b m t past = refl
no_row (suc n) a b m t past =
    let h : 25 ≤ n = omega (arith, past (omega arith)) in ap (λ o. if_clear o a b m) (slice_get_past (rows_with a b m t) n h)
