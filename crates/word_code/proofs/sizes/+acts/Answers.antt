-- Each act by its lists.
use Rattle.std.specs.Prelude.{◌<◌, ◌+◌}
use Rattle.std.proofs.Common.{arith, rules, ap, refl}
use Rattle.word_code.specs.Fitting.{IsFit, AreFit}
use Rattle.word_code.specs.Sizes.{act_size, acts_size}
use Rattle.word_code.specs.Tables.{keeps_size}
use Rattle.word_code.proofs.ActLemmas.{test_size, test_fit, choose_size, choose_fit, leave_size, leave_fit, class_size, class_fit, next_counted, one_counted}
use Rattle.word_code.proofs.sizes.+acts.Goals as goal

pub act_size-acts_size-parts-requires : goal.act_size-acts_size-parts-requires
act_size-acts_size-parts-requires t c =
    let size = test_size c.args.f.now c.args.a.now _ _ _ _ _ c.in-Test.is c.as_slice.ensures refl in
    let fits = test_fit c.args.f.now c.args.a.now _ _ _ _ _ c.in-Test.is c.as_slice.ensures refl c.requires in
    let smaller : acts_size c.args.f.now c.as_slice.result.now + 1 < act_size c.args.f.now c.args.a.now = omega (arith, size) in
    let good : AreFit c.args.f.now c.as_slice.result.now = fits.1 in
    search rules

pub act_size-acts_size-requires : goal.act_size-acts_size-requires
act_size-acts_size-requires t c =
    let size = test_size c.args.f.now c.args.a.now _ _ _ _ _ c.in-Test.is c.as_slice.ensures c.as_slice-in-Test.ensures in
    let fits = test_fit c.args.f.now c.args.a.now _ _ _ _ _ c.in-Test.is c.as_slice.ensures c.as_slice-in-Test.ensures c.requires in
    let smaller : acts_size c.args.f.now c.as_slice-in-Test.result.now + 1 < act_size c.args.f.now c.args.a.now = omega (arith, size) in
    let good : AreFit c.args.f.now c.as_slice-in-Test.result.now = fits.2 in
    search rules

pub act_size-acts_size-parts-requires-in-Choose : goal.act_size-acts_size-parts-requires-in-Choose
act_size-acts_size-parts-requires-in-Choose t c =
    let size = choose_size c.args.f.now c.args.a.now _ _ _ _ _ c.in-Choose.is c.as_slice-in-Choose.ensures refl in
    let fits = choose_fit c.args.f.now c.args.a.now _ _ _ _ _ c.in-Choose.is c.as_slice-in-Choose.ensures refl c.requires in
    let smaller : acts_size c.args.f.now c.as_slice-in-Choose.result.now + 1 < act_size c.args.f.now c.args.a.now = omega (arith, size) in
    let good : AreFit c.args.f.now c.as_slice-in-Choose.result.now = fits.1 in
    search rules

pub act_size-acts_size-requires-in-Choose : goal.act_size-acts_size-requires-in-Choose
act_size-acts_size-requires-in-Choose t c =
    let size = choose_size c.args.f.now c.args.a.now _ _ _ _ _ c.in-Choose.is c.as_slice-in-Choose.ensures c.as_slice-in-Choose-2.ensures in
    let fits = choose_fit c.args.f.now c.args.a.now _ _ _ _ _ c.in-Choose.is c.as_slice-in-Choose.ensures c.as_slice-in-Choose-2.ensures c.requires in
    let smaller : acts_size c.args.f.now c.as_slice-in-Choose-2.result.now + 1 < act_size c.args.f.now c.args.a.now = omega (arith, size) in
    let good : AreFit c.args.f.now c.as_slice-in-Choose-2.result.now = fits.2 in
    search rules

pub act_size-acts_size-requires-in-Leave : goal.act_size-acts_size-requires-in-Leave
act_size-acts_size-requires-in-Leave t c =
    let size = leave_size c.args.f.now c.args.a.now _ _ _ c.in-Leave.is c.as_slice-in-Leave.ensures in
    let fits = leave_fit c.args.f.now c.args.a.now _ _ _ c.in-Leave.is c.as_slice-in-Leave.ensures c.requires in
    let smaller : acts_size c.args.f.now c.as_slice-in-Leave.result.now + 1 < act_size c.args.f.now c.args.a.now = omega (arith, size) in
    let good : AreFit c.args.f.now c.as_slice-in-Leave.result.now = fits.1 in
    search rules

pub act_size-acts_size-parts-requires-in-ByClass : goal.act_size-acts_size-parts-requires-in-ByClass
act_size-acts_size-parts-requires-in-ByClass t c =
    let size = class_size c.args.f.now c.args.a.now _ _ _ _ _ _ _ c.in-ByClass.is c.as_slice-in-ByClass.ensures refl refl in
    let fits = class_fit c.args.f.now c.args.a.now _ _ _ _ _ _ _ c.in-ByClass.is c.as_slice-in-ByClass.ensures refl refl c.requires in
    let smaller : acts_size c.args.f.now c.as_slice-in-ByClass.result.now + 1 < act_size c.args.f.now c.args.a.now = omega (arith, size) in
    let good : AreFit c.args.f.now c.as_slice-in-ByClass.result.now = fits.1 in
    search rules

pub act_size-acts_size-requires-in-ByClass : goal.act_size-acts_size-requires-in-ByClass
act_size-acts_size-requires-in-ByClass t c =
    let size = class_size c.args.f.now c.args.a.now _ _ _ _ _ _ _ c.in-ByClass.is c.as_slice-in-ByClass.ensures c.as_slice-in-ByClass-2.ensures refl in
    let fits = class_fit c.args.f.now c.args.a.now _ _ _ _ _ _ _ c.in-ByClass.is c.as_slice-in-ByClass.ensures c.as_slice-in-ByClass-2.ensures refl c.requires in
    let smaller : acts_size c.args.f.now c.as_slice-in-ByClass-2.result.now + 1 < act_size c.args.f.now c.args.a.now = omega (arith, size) in
    let good : AreFit c.args.f.now c.as_slice-in-ByClass-2.result.now = fits.2 in
    search rules

pub act_size-acts_size-requires-in-ByClass-2 : goal.act_size-acts_size-requires-in-ByClass-2
act_size-acts_size-requires-in-ByClass-2 t c =
    let size = class_size c.args.f.now c.args.a.now _ _ _ _ _ _ _ c.in-ByClass.is c.as_slice-in-ByClass.ensures c.as_slice-in-ByClass-2.ensures c.as_slice-in-ByClass-3.ensures in
    let fits = class_fit c.args.f.now c.args.a.now _ _ _ _ _ _ _ c.in-ByClass.is c.as_slice-in-ByClass.ensures c.as_slice-in-ByClass-2.ensures c.as_slice-in-ByClass-3.ensures c.requires in
    let smaller : acts_size c.args.f.now c.as_slice-in-ByClass-3.result.now + 1 < act_size c.args.f.now c.args.a.now = omega (arith, size) in
    let good : AreFit c.args.f.now c.as_slice-in-ByClass-3.result.now = fits.3 in
    search rules

pub act_size-returns-in-Test : goal.act_size-returns-in-Test
act_size-returns-in-Test t c =
    let size = test_size c.args.f.now c.args.a.now _ _ _ _ _ c.in-Test.is c.as_slice.ensures c.as_slice-in-Test.ensures in
    omega (arith, size, c.acts_size-parts.ensures, c.acts_size.ensures, c.saturating_add-parts.ensures, c.expr_size.ensures, c.saturating_add-in-Test.ensures, c.saturating_add-in-Test-2.ensures)

pub act_size-returns-in-Choose : goal.act_size-returns-in-Choose
act_size-returns-in-Choose t c =
    let size = choose_size c.args.f.now c.args.a.now _ _ _ _ _ c.in-Choose.is c.as_slice-in-Choose.ensures c.as_slice-in-Choose-2.ensures in
    omega (arith, size, c.acts_size-parts-in-Choose.ensures, c.acts_size-in-Choose.ensures, c.saturating_add-parts-in-Choose.ensures, c.keeps_size.ensures, ap keeps_size c.site.ensures, c.saturating_add-in-Choose.ensures)

pub act_size-returns-in-Leave : goal.act_size-returns-in-Leave
act_size-returns-in-Leave t c =
    let size = leave_size c.args.f.now c.args.a.now _ _ _ c.in-Leave.is c.as_slice-in-Leave.ensures in
    omega (arith, size, c.acts_size-in-Leave.ensures, c.saturating_add-in-Leave.ensures)

pub act_size-returns-in-ByClass : goal.act_size-returns-in-ByClass
act_size-returns-in-ByClass t c =
    let size = class_size c.args.f.now c.args.a.now _ _ _ _ _ _ _ c.in-ByClass.is c.as_slice-in-ByClass.ensures c.as_slice-in-ByClass-2.ensures c.as_slice-in-ByClass-3.ensures in
    omega (arith, size, c.acts_size-parts-in-ByClass.ensures, c.acts_size-in-ByClass.ensures, c.saturating_add-parts-in-ByClass.ensures, c.acts_size-in-ByClass-2.ensures, c.saturating_add-parts-in-ByClass-2.ensures, c.saturating_add-in-ByClass.ensures)

pub acts_size-act_size-requires : goal.acts_size-act_size-requires
acts_size-act_size-requires t c =
    let way = next_counted c.args.f.now c.args.acts.now c.acts.size c.acts.a-index c.a-item.result c.acts-test.true c.a-item.is c.acts.invariant in
    let smaller : act_size c.args.f.now c.a-item.result < acts_size c.args.f.now c.args.acts.now + 1 = omega (arith, way.within) in
    let good : IsFit c.args.f.now c.a-item.result = way.fit.0 in
    search rules

pub acts_size-acts-preserved : goal.acts_size-acts-preserved
acts_size-acts-preserved t c = one_counted c.args.f.now c.args.acts.now c.acts.size _ _ c.a-item.result _ (next_counted c.args.f.now c.args.acts.now c.acts.size c.acts.a-index c.a-item.result c.acts-test.true c.a-item.is c.acts.invariant) c.act_size.ensures c.saturating_add-size.ensures
