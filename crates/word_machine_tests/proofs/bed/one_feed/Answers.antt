-- One feed is of one peripheral.
use Rattle.std.proofs.Common.{◌∙◌, ℕ, List, [], ◌∷◌, ◌++◌, ap, subst, sym}
use Rattle.std.specs.List.{IsDistinct}
use Rattle.devices.specs.World.{AreDistinct}
use Rattle.word_machine_tests.proofs.bed.one_feed.Goals as goal

one_distinct : (values : List ℕ) → AreDistinct (record { number = 0; values = values } ∷ [])
unfolding IsDistinct
one_distinct values = (tt, tt)

pub returns : goal.returns
returns c =
    let one = c.in_ok-push.ensures.ok ∙ ap (λ xs. xs ++ record { number = 0; values = c.in_ok-from_slice.field-0 } ∷ []) c.new-feeds.ensures in
    subst AreDistinct (sym one) (one_distinct c.in_ok-from_slice.field-0)
