-- The two feeds have two numbers.
use Rattle.std.proofs.Common.{◌∙◌, ℕ, List, [], ◌∷◌, ◌++◌, ap, subst, sym, refl}
use Rattle.std.specs.List.{IsDistinct}
use Rattle.devices.specs.World.{AreDistinct}
use Rattle.base_tests.proofs.outside.feeds.Goals as goal

-- feeds of the peripherals 255 and 0
two_apart : (v w : List ℕ) → AreDistinct (record { number = 255; values = v } ∷ record { number = 0; values = w } ∷ [])
unfolding IsDistinct
two_apart v w = ((refl, tt), (tt, tt))

pub returns : goal.returns
returns c =
    let one = c.in_ok-push.ensures.ok ∙ ap (λ xs. xs ++ record { number = 255; values = c.in_ok-from_slice.field-0 } ∷ []) c.new-feeds.ensures in
    let two = c.in_ok-push-2.ensures.ok ∙ ap (λ xs. xs ++ record { number = 0; values = c.new.result } ∷ []) one in
    subst AreDistinct (sym two) (two_apart c.in_ok-from_slice.field-0 c.new.result)
