-- The series made from feeds: one feed more puts its list at its peripheral.
use Rattle.std.proofs.Common.{◌≡◌, ◌∙◌, ℕ, ◌+◌, ◌<◌, List, length, sym, ap, get_or, set, take, cond, eqb}
use Rattle.devices.specs.declared.world.Feed.{Feed}
use Rattle.devices.specs.Reading.{values_in}
use Rattle.devices.specs.Readings.{Series, values_of, issued_of}
use Rattle.devices.specs.World.{AreDistinct}
use Rattle.devices.proofs.FeedLemmas.{values_more}
use Rattle.devices.proofs.SeriesLemmas.{values_set, issued_set, none_either}

-- the lists after one feed more
pub values_step : (xs : List Series) (feeds : List Feed) (i p : ℕ) (feed : Feed) (y : Series) → feed.number < length xs
    → AreDistinct feeds → i < length feeds → feed ≡ get_or feeds i feed → y.values ≡ feed.values
    → values_of xs p ≡ values_in (take i feeds) p → values_of (set xs feed.number y) p ≡ values_in (take (i + 1) feeds) p
values_step xs feeds i p feed y within distinct h is list before =
    values_set xs feed.number p y within
    ∙ ap (λ v. cond (eqb feed.number p) v (values_of xs p)) list
    ∙ ap (λ v. cond (eqb feed.number p) feed.values v) before
    ∙ sym (values_more feeds i p feed distinct h is)

-- the counts after one feed more
pub issued_step : (xs : List Series) (p : ℕ) (n : ℕ) (y : Series) → n < length xs → y.issued ≡ 0
    → issued_of xs p ≡ 0 → issued_of (set xs n y) p ≡ 0
issued_step xs p n y within none before = issued_set xs n p y within ∙ none_either (eqb n p) y.issued (issued_of xs p) none before
