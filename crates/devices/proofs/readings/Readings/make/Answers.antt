-- One feed more, whose number is below 256.
use Rattle.std.proofs.Common.{◌∙◌, ◌<◌, length, sym, ap, subst, arith}
use Rattle.devices.specs.World.{AreDistinct}
use Rattle.devices.proofs.MakeLemmas.{values_step, issued_step}
use Rattle.devices.proofs.SeriesLemmas.{values_silent, issued_silent}
use Rattle.devices.proofs.readings.Readings.make.Goals as goal

pub feeds-init : goal.feeds-init
feeds-init c = record {
  count = c.in_ok-series.ensures.count;
  values = λ p. values_silent c.in_ok-series.series.items p c.in_ok-series.ensures.silent;
  issued = λ p. issued_silent c.in_ok-series.series.items p c.in_ok-series.ensures.silent;
}

pub feeds-preserved : goal.feeds-preserved
feeds-preserved c =
    let feeds = c.as_slice-feeds.result.now in
    let feed = c.feed-item.result in
    let distinct = subst AreDistinct (sym c.as_slice-feeds.ensures) c.requires in
    let within : feed.number < length c.feeds.series.items = omega arith in
    let there : c.feeds.feed-index < length feeds = omega arith in
    let list = ap (λ s. s.values) c.in_ok-series-2.ensures ∙ c.as_slice.ensures in
    record {
      count = c.feeds.invariant.count;
      values = λ p. values_step c.feeds.series.items feeds c.feeds.feed-index p feed c.in_ok-series-2.field-0 within distinct there
          c.feed-item.is list (c.feeds.invariant.values p);
      issued = λ p. issued_step c.feeds.series.items p feed.number c.in_ok-series-2.field-0 within
          (ap (λ s. s.issued) c.in_ok-series-2.ensures) (c.feeds.invariant.issued p);
    }
