-- One mark more, from the last down.
use Rattle.std.proofs.Common.{◌-◌, ◌+◌, ◌<◌, ◌∙◌, ℕ, length, drop, refl, subst, get_or, set, arith}
use Rattle.std.proofs.lemmas.List.{drop_all, length-set}
use Rattle.ease_debug.specs.Stopping.{Names}
use Rattle.ease_debug.proofs.TableLemmas.{names_none, names_one, no_mark, drop_none, zeros_long}
use Rattle.ease_debug.proofs.stop.tasks_of.Goals as goal

pub marks-init : goal.marks-init
marks-init c = record {
  count = refl;
  size = zeros_long _ c.args.code (c.in_ok-tasks.ensures.items_if_clones_equal (λ y e. e));
  names = names_none _ _ _ (c.in_ok-tasks.ensures.items_if_clones_equal (λ y e. e)) (drop_all (length c.args.marks.now - 0) c.args.marks.now (omega arith));
}

pub marks-preserved : goal.marks-preserved
marks-preserved c =
    let marks = c.args.marks.now in
    let k : ℕ = length marks - 1 - c.marks.done in
    let within : k < length marks = omega (arith, c.marks-test.true) in
    let m = get_or marks k no_mark in
    let here : Names c.marks.tasks.items (drop (k + 1) marks) = subst (λ n. Names c.marks.tasks.items (drop n marks)) (omega (arith, c.marks-test.true)) c.marks.invariant.names in
    let below : m.at < length c.marks.tasks.items = omega (arith, c.requires k no_mark within, c.marks.invariant.size) in
    record {
      count = refl;
      size = length-set c.marks.tasks.items m.at _ ∙ c.marks.invariant.size;
      names = subst (λ n. Names (set c.marks.tasks.items m.at m.task) (drop n marks)) (omega (arith, c.marks-test.true)) (names_one c.marks.tasks.items marks k m within refl below here);
    }

pub returns : goal.returns
returns c = subst (λ ms. Names c.marks.tasks.items ms) (drop_none c.marks.done c.args.marks.now c.marks-test.false) c.marks.invariant.names
