-- Small lists in which an element stands twice, or none does.
use Rattle.std.specs.Prelude.{◌≡◌, ℕ, [], ◌∷◌, eqb, codes, true, false, refl}
use Rattle.std.proofs.Common.{arith}
use Rattle.op_table.specs.Places.{StandsTwice, place_of, repeats}
use Rattle.op_table.specs.Reserved.{IsReserved, reserved_words}

-- 7 stands at the places 0 and 2
twice_apart : StandsTwice {A = ℕ} (7 ∷ 8 ∷ 7 ∷ [])
twice_apart = (0, 2, 7, omega arith, refl, refl)

-- the test sees it too, and sees no twins in 7, 8, 9
repeats_apart : repeats {A = ℕ} eqb (7 ∷ 8 ∷ 7 ∷ []) ≡ true
unfolding repeats place_of
repeats_apart = refl

repeats_none : repeats {A = ℕ} eqb (7 ∷ 8 ∷ 9 ∷ []) ≡ false
unfolding repeats place_of
repeats_none = refl

-- DMA is the eleventh of the reserved words
dma_is_reserved : IsReserved (codes "DMA")
unfolding reserved_words
dma_is_reserved = (10, refl)
