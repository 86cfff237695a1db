-- The series of the peripheral is replaced by one that goes on.
use Rattle.std.proofs.Common.{◌∙◌, ◌+◌, ◌<◌, length, ap, arith}
use Rattle.devices.specs.Reading.{reading}
use Rattle.devices.specs.ReadingLaws.{reading_kept}
use Rattle.devices.specs.Readings.{values_of, issued_of, issued_after}
use Rattle.devices.proofs.SeriesLemmas.{values_there, values_stay, issued_raised, reads}
use Rattle.devices.proofs.readings.Readings.issue.Goals as goal

pub returns-clause-reading : goal.returns-clause-reading
returns-clause-reading c =
    let xs = c.self.inside.series.items in
    let there : c.args.p < length xs = omega arith in
    reads xs c.args.self.now c.args.p c.index_mut.result.now c.issue.result there c.self.view_is c.index_mut.ensures.value c.issue.ensures.reading

pub returns-clause-every : goal.returns-clause-every
returns-clause-every c k e =
    let xs = c.self.inside.series.items in
    let there : c.args.p < length xs = omega arith in
    reads xs c.args.self.now c.args.p c.index_mut.result.now c.issue.result there c.self.view_is c.index_mut.ensures.value c.issue.ensures.reading
    ∙ ap (λ n. reading (values_of c.args.self.now c.args.p) (n + 1)) e
    ∙ reading_kept (values_of c.args.self.now c.args.p) k

pub returns-clause-values : goal.returns-clause-values
returns-clause-values c =
    let xs = c.self.inside.series.items in
    let there : c.args.p < length xs = omega arith in
    values_stay xs c.args.p c.issue.new.self there
    (ap (λ s. s.values) c.issue.ensures.after ∙ values_there xs c.args.p c.index_mut.result.now there c.index_mut.ensures.value)
    ∙ ap values_of c.self.view_is

pub returns-clause-issued : goal.returns-clause-issued
returns-clause-issued c =
    let xs = c.self.inside.series.items in
    let there : c.args.p < length xs = omega arith in
    issued_raised xs c.args.p c.index_mut.result.now c.issue.new.self there c.index_mut.ensures.value (ap (λ s. s.issued) c.issue.ensures.after)
    ∙ ap (λ r. issued_after (values_of r) (issued_of r) c.args.p) c.self.view_is
