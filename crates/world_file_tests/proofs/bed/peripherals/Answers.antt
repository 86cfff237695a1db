-- Two peripherals of different names and numbers.
use Rattle.std.proofs.Common.{◌≡◌, ℕ, List, [], ◌∷◌, ◌++◌, codes, refl}
use Rattle.std.specs.List.{IsDistinct}
use Rattle.ease_base.specs.declared.place.Peripheral.{Peripheral}
use Rattle.world_file.specs.Peripherals.{AreApart}
use Rattle.world_file_tests.proofs.bed.peripherals.Goals as goal

both_apart : AreApart (record { name = codes "temp"; number = 0 } ∷ record { name = codes "radio"; number = 7 } ∷ [])
unfolding IsDistinct
both_apart = record { names = ((refl, tt), (tt, tt)); numbers = ((refl, tt), (tt, tt)) }

-- a list that begins empty, and to which both are put
made_apart : (empty one both : List Peripheral) (a b : List ℕ) → empty ≡ [] → a ≡ codes "temp" → b ≡ codes "radio"
    → one ≡ empty ++ record { name = a; number = 0 } ∷ [] → both ≡ one ++ record { name = b; number = 7 } ∷ [] → AreApart both
made_apart empty one both a b none first second put more = rw (more, put, none, first, second) both_apart

pub returns : goal.returns
returns c =
    made_apart c.new-peripherals.result c.push.new.self c.push-2.new.self c.in_ok-from_slice.field-0 c.in_ok-from_slice-2.field-0
    c.new-peripherals.ensures c.in_ok-from_slice.ensures c.in_ok-from_slice-2.ensures c.in_ok-push.ensures.ok c.in_ok-push-2.ensures.ok
