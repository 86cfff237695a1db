-- Each act by its lists.
use Rattle.std.specs.Prelude.{◌≡◌, ◌<◌, ◌≤◌, ◌+◌, ◌++◌, length, drop}
use Rattle.std.proofs.Common.{arith, rules, ap, ◌∙◌}
use Rattle.line_code.specs.Fitting.{IsShort}
use Rattle.line_code.specs.PartLaws.{on_ok}
use Rattle.line_code.specs.Sizes.{expr_size}
use Rattle.word_code.specs.ActCode.{acts_entry}
use Rattle.word_code.specs.Fitting.{IsFit, AreFit, IsSiteNumber}
use Rattle.line_code.specs.Expressions.{expr_code}
use Rattle.word_code.specs.Frames.{Frame, site_at}
use Rattle.word_code.specs.Sizes.{act_size, acts_size}
use Rattle.word_code.specs.Tables.{keeps_size}
use Rattle.word_code.proofs.ActLemmas.{IsSimple, simple_lines, simple_count, behind_is, test_put, class_put, test_size, test_fit, test_lines, choose_size, choose_fit, choose_lines, leave_size, leave_fit, leave_lines, class_size, class_fit, class_lines, at_next, one_more, all_there, entry_small}
use Rattle.word_code.proofs.act_lines.+acts.Goals as goal

pub act-test-requires : goal.act-test-requires
act-test-requires t c =
    let size = test_size c.args.f.now c.args.a.now _ _ _ _ _ c.in-Test.is c.as_slice.ensures c.as_slice-in-Test.ensures in
    let fits = test_fit c.args.f.now c.args.a.now _ _ _ _ _ c.in-Test.is c.as_slice.ensures c.as_slice-in-Test.ensures c.requires.fit in
    let smaller : expr_size c.in-Test.c + acts_size c.args.f.now c.as_slice.result.now + acts_size c.args.f.now c.as_slice-in-Test.result.now + 2 < act_size c.args.f.now c.args.a.now = omega (arith, size) in
    let room : length c.args.code.now + expr_size c.in-Test.c + acts_size c.args.f.now c.as_slice.result.now + acts_size c.args.f.now c.as_slice-in-Test.result.now + 4 ≤ 4194304 = omega (arith, size, c.requires.room) in
    let condition : IsShort 0 c.in-Test.c = fits.0 in
    let yes_part : AreFit c.args.f.now c.as_slice.result.now = fits.1 in
    let no_part : AreFit c.args.f.now c.as_slice-in-Test.result.now = fits.2 in
    search rules

pub act-returns-in-Test-clause-lines : goal.act-returns-in-Test-clause-lines
act-returns-in-Test-clause-lines t c =
    on_ok c.test.result (test_lines c.args.f.now c.args.ahead.keeps c.args.ahead.next c.args.a.now _ _ _ _ _ c.args.code.now _ c.in-Test.is c.as_slice.ensures c.as_slice-in-Test.ensures) c.test.ensures.lines

pub act-returns-in-Test-clause-count : goal.act-returns-in-Test-clause-count
act-returns-in-Test-clause-count t c =
    on_ok c.test.result (λ h. omega (arith, h, test_size c.args.f.now c.args.a.now _ _ _ _ _ c.in-Test.is c.as_slice.ensures c.as_slice-in-Test.ensures)) c.test.ensures.count

pub act-choose-requires : goal.act-choose-requires
act-choose-requires t c =
    let size = choose_size c.args.f.now c.args.a.now _ _ _ _ _ c.in-Choose.is c.as_slice-in-Choose.ensures c.as_slice-in-Choose-2.ensures in
    let fits = choose_fit c.args.f.now c.args.a.now _ _ _ _ _ c.in-Choose.is c.as_slice-in-Choose.ensures c.as_slice-in-Choose-2.ensures c.requires.fit in
    let smaller : keeps_size (site_at c.args.f.now c.in-Choose.k) + acts_size c.args.f.now c.as_slice-in-Choose.result.now + acts_size c.args.f.now c.as_slice-in-Choose-2.result.now + 2 < act_size c.args.f.now c.args.a.now = omega (arith, size) in
    let room : length c.args.code.now + keeps_size (site_at c.args.f.now c.in-Choose.k) + acts_size c.args.f.now c.as_slice-in-Choose.result.now + acts_size c.args.f.now c.as_slice-in-Choose-2.result.now + 3 ≤ 4194304 = omega (arith, size, c.requires.room) in
    let site : IsSiteNumber c.in-Choose.k = fits.0 in
    let issue_part : AreFit c.args.f.now c.as_slice-in-Choose.result.now = fits.1 in
    let keep_part : AreFit c.args.f.now c.as_slice-in-Choose-2.result.now = fits.2 in
    search rules

pub act-returns-in-Choose-clause-lines : goal.act-returns-in-Choose-clause-lines
act-returns-in-Choose-clause-lines t c =
    on_ok c.choose.result (choose_lines c.args.f.now c.args.ahead.keeps c.args.ahead.next c.args.a.now _ _ _ _ _ c.args.code.now _ c.in-Choose.is c.as_slice-in-Choose.ensures c.as_slice-in-Choose-2.ensures) c.choose.ensures.lines

pub act-returns-in-Choose-clause-count : goal.act-returns-in-Choose-clause-count
act-returns-in-Choose-clause-count t c = on_ok c.choose.result (λ h. omega (arith, h, choose_size c.args.f.now c.args.a.now _ _ _ _ _ c.in-Choose.is c.as_slice-in-Choose.ensures c.as_slice-in-Choose-2.ensures)) c.choose.ensures.count

pub act-leave_block-requires : goal.act-leave_block-requires
act-leave_block-requires t c =
    let size = leave_size c.args.f.now c.args.a.now _ _ _ c.in-Leave.is c.as_slice-in-Leave.ensures in
    let fits = leave_fit c.args.f.now c.args.a.now _ _ _ c.in-Leave.is c.as_slice-in-Leave.ensures c.requires.fit in
    let smaller : acts_size c.args.f.now c.as_slice-in-Leave.result.now + 4 < act_size c.args.f.now c.args.a.now = omega (arith, size) in
    let room : length c.args.code.now + acts_size c.args.f.now c.as_slice-in-Leave.result.now + 8 ≤ 4194304 = omega (arith, size, c.requires.room) in
    let site : IsSiteNumber c.in-Leave.k = fits.0 in
    let part : AreFit c.args.f.now c.as_slice-in-Leave.result.now = fits.1 in
    search rules

pub act-returns-in-Leave-clause-lines : goal.act-returns-in-Leave-clause-lines
act-returns-in-Leave-clause-lines t c =
    on_ok c.leave_block.result (leave_lines c.args.f.now c.args.ahead.keeps c.args.ahead.next c.args.a.now _ _ _ c.args.code.now _ c.in-Leave.is c.as_slice-in-Leave.ensures) c.leave_block.ensures.lines

pub act-returns-in-Leave-clause-count : goal.act-returns-in-Leave-clause-count
act-returns-in-Leave-clause-count t c = on_ok c.leave_block.result (λ h. omega (arith, h, leave_size c.args.f.now c.args.a.now _ _ _ c.in-Leave.is c.as_slice-in-Leave.ensures)) c.leave_block.ensures.count

pub act-by_class-requires : goal.act-by_class-requires
act-by_class-requires t c =
    let size = class_size c.args.f.now c.args.a.now _ _ _ _ _ _ _ c.in-ByClass.is c.as_slice-in-ByClass.ensures c.as_slice-in-ByClass-2.ensures c.as_slice-in-ByClass-3.ensures in
    let fits = class_fit c.args.f.now c.args.a.now _ _ _ _ _ _ _ c.in-ByClass.is c.as_slice-in-ByClass.ensures c.as_slice-in-ByClass-2.ensures c.as_slice-in-ByClass-3.ensures c.requires.fit in
    let smaller : acts_size c.args.f.now c.as_slice-in-ByClass.result.now + acts_size c.args.f.now c.as_slice-in-ByClass-2.result.now + acts_size c.args.f.now c.as_slice-in-ByClass-3.result.now + 4 < act_size c.args.f.now c.args.a.now = omega (arith, size) in
    let room : length c.args.code.now + acts_size c.args.f.now c.as_slice-in-ByClass.result.now + acts_size c.args.f.now c.as_slice-in-ByClass-2.result.now + acts_size c.args.f.now c.as_slice-in-ByClass-3.result.now + 12 ≤ 4194304 = omega (arith, size, c.requires.room) in
    let site : IsSiteNumber c.in-ByClass.k = fits.0 in
    let single : AreFit c.args.f.now c.as_slice-in-ByClass.result.now = fits.1 in
    let private : AreFit c.args.f.now c.as_slice-in-ByClass-2.result.now = fits.2 in
    let others : AreFit c.args.f.now c.as_slice-in-ByClass-3.result.now = fits.3 in
    search rules

pub act-returns-in-ByClass-clause-lines : goal.act-returns-in-ByClass-clause-lines
act-returns-in-ByClass-clause-lines t c =
    on_ok c.by_class.result (class_lines c.args.f.now c.args.ahead.keeps c.args.ahead.next c.args.a.now _ _ _ _ _ _ _ c.args.code.now _ c.in-ByClass.is c.as_slice-in-ByClass.ensures c.as_slice-in-ByClass-2.ensures c.as_slice-in-ByClass-3.ensures) c.by_class.ensures.lines

pub act-returns-in-ByClass-clause-count : goal.act-returns-in-ByClass-clause-count
act-returns-in-ByClass-clause-count t c = on_ok c.by_class.result (λ h. omega (arith, h, class_size c.args.f.now c.args.a.now _ _ _ _ _ _ _ c.in-ByClass.is c.as_slice-in-ByClass.ensures c.as_slice-in-ByClass-2.ensures c.as_slice-in-ByClass-3.ensures)) c.by_class.ensures.count

pub act-returns-in_ok-simple-in_default : goal.act-returns-in_ok-simple-in_default
act-returns-in_ok-simple-in_default t c =
    let d = c.in_default in
    let simple : IsSimple c.args.a.now = record {
      not_restore = d.not-Restore;
      not_save = d.not-Save;
      not_test = d.not-Test;
      not_choose = d.not-Choose;
      not_leave = d.not-Leave;
      not_class = d.not-ByClass;
      not_keep = d.not-KeepWords;
      not_put = d.not-PutWords;
      not_commit = d.not-Commit;
    } in
    record {
      lines = on_ok c.jump.result (simple_lines c.args.f.now c.args.ahead.keeps c.args.ahead.next c.args.a.now simple c.args.code.now c.simple.new.code c.jump.new.code c.in_ok-simple-in_default.ensures.lines) c.jump.ensures.lines;
      count = on_ok c.jump.result (simple_count c.args.f.now c.args.a.now simple (length c.args.code.now) (length c.simple.new.code) (length c.jump.new.code) c.in_ok-simple-in_default.ensures.count) c.jump.ensures.count;
    }

pub acts-at-requires : goal.acts-at-requires
acts-at-requires t c = omega (arith, c.acts.invariant.count, c.requires.room)

pub acts-act-requires : goal.acts-act-requires
acts-act-requires t c =
    let way = at_next c.args.f.now c.args.ahead.keeps c.args.ahead.next c.args.code.now c.args.acts.now c.acts.code c.acts.place c.index-acts-place.result c.acts-test.true c.index-acts-place.is c.acts.invariant in
    let smaller : act_size c.args.f.now c.index-acts-place.result < acts_size c.args.f.now c.args.acts.now + 1 = omega (arith, way.within) in
    let room : length c.acts.code + act_size c.args.f.now c.index-acts-place.result ≤ 4194304 = omega (arith, way.count, c.requires.room) in
    let next : c.entry-next.result ≤ 4194304 = entry_small (drop (c.acts.place + 1) c.args.acts.now) (c.at.result + c.act_size.result) c.args.ahead.next c.entry-next.result (c.entry-next.ensures ∙ ap (λ x. acts_entry x (c.at.result + c.act_size.result) c.args.ahead.next) (behind_is c.args.acts.now (c.acts.place + 1))) (omega (arith, c.at.ensures, c.act_size.ensures, room)) c.requires.next in
    let good : IsFit c.args.f.now c.index-acts-place.result = way.fit.0 in
    search rules

pub acts-acts-preserved : goal.acts-acts-preserved
acts-acts-preserved t c =
    let way = at_next c.args.f.now c.args.ahead.keeps c.args.ahead.next c.args.code.now c.args.acts.now c.acts.code c.acts.place c.index-acts-place.result c.acts-test.true c.index-acts-place.is c.acts.invariant in
    let at : c.at.result + c.act_size.result ≡ length c.acts.code + act_size c.args.f.now c.index-acts-place.result = omega (arith, c.at.ensures, c.act_size.ensures, way.count, c.requires.room) in
    let to : c.entry-next.result ≡ acts_entry (drop (c.acts.place + 1) c.args.acts.now) (length c.acts.code + act_size c.args.f.now c.index-acts-place.result) c.args.ahead.next =
    c.entry-next.ensures ∙ ap (λ x. acts_entry x (c.at.result + c.act_size.result) c.args.ahead.next) (behind_is c.args.acts.now (c.acts.place + 1)) ∙ ap (λ n. acts_entry (drop (c.acts.place + 1) c.args.acts.now) n c.args.ahead.next) at in
    one_more c.args.f.now c.args.ahead.keeps c.args.ahead.next c.args.code.now c.args.acts.now c.acts.code _ c.index-acts-place.result _ _ way to c.in_ok-act.ensures.lines c.in_ok-act.ensures.count

pub acts-returns-clause-lines : goal.acts-returns-clause-lines
acts-returns-clause-lines t c = (all_there c.args.f.now c.args.ahead.keeps c.args.ahead.next c.args.code.now c.args.acts.now c.acts.code c.acts.place c.acts-test.false c.acts.invariant).0

pub acts-returns-clause-count : goal.acts-returns-clause-count
acts-returns-clause-count t c = (all_there c.args.f.now c.args.ahead.keeps c.args.ahead.next c.args.code.now c.args.acts.now c.acts.code c.acts.place c.acts-test.false c.acts.invariant).1

pub test-acts-requires : goal.test-acts-requires
test-acts-requires t c =
    let smaller : acts_size c.args.f.now c.args.yes_part.now + 1 < expr_size c.args.c.now + acts_size c.args.f.now c.args.yes_part.now + acts_size c.args.f.now c.args.no_part.now + 2 = omega arith in
    let room : length c.branch-code.new.code + acts_size c.args.f.now c.args.yes_part.now ≤ 4194304 = omega (arith, c.requires.room, c.in_ok-expr.ensures.count, c.in_ok-put.ensures.count, c.in_ok-branch.ensures.count) in
    search rules

pub test-acts-requires-2 : goal.test-acts-requires-2
test-acts-requires-2 t c =
    let smaller : acts_size c.args.f.now c.args.no_part.now + 1 < expr_size c.args.c.now + acts_size c.args.f.now c.args.yes_part.now + acts_size c.args.f.now c.args.no_part.now + 2 = omega arith in
    let room : length c.acts.new.code + acts_size c.args.f.now c.args.no_part.now ≤ 4194304 = omega (arith, c.requires.room, c.in_ok-expr.ensures.count, c.in_ok-put.ensures.count, c.in_ok-branch.ensures.count, c.in_ok-acts.ensures.count) in
    search rules

pub test-returns-clause-lines : goal.test-returns-clause-lines
test-returns-clause-lines t c =
    let yes_at : c.at.result + c.expr_size.result + 4 ≡ length c.args.code.now + expr_size c.args.c.now + 4 = omega (arith, c.at.ensures, c.expr_size.ensures, c.requires.room) in
    let no_at : c.at.result + c.expr_size.result + 4 + c.acts_size.result ≡ length c.args.code.now + expr_size c.args.c.now + 4 + acts_size c.args.f.now c.args.yes_part.now =
    omega (arith, c.at.ensures, c.expr_size.ensures, c.acts_size.ensures, c.requires.room) in
    let at_yes : length c.branch-code.new.code ≡ length c.args.code.now + expr_size c.args.c.now + 4 = omega (arith, c.in_ok-expr.ensures.count, c.in_ok-put.ensures.count, c.in_ok-branch.ensures.count) in
    let at_no : length c.acts.new.code ≡ length c.args.code.now + expr_size c.args.c.now + 4 + acts_size c.args.f.now c.args.yes_part.now = omega (arith, at_yes, c.in_ok-acts.ensures.count) in
    on_ok c.acts-2.result (test_put c.args.f.now c.args.ahead.keeps c.args.ahead.next c.args.c.now c.args.yes_part.now c.args.no_part.now c.args.code.now _ _ _ _ _ _ _
    (c.entry-2.ensures ∙ ap (λ n. acts_entry c.args.yes_part.now n c.args.ahead.next) yes_at) (c.entry.ensures ∙ ap (λ n. acts_entry c.args.no_part.now n c.args.ahead.next) no_at)
    at_yes at_no (c.in_ok-expr.ensures.lines ∙ ap (λ (v : Frame). c.args.code.now ++ expr_code v.areas c.args.c.now 0 (length c.args.code.now)) c.f.view_is) c.in_ok-put.ensures.lines c.in_ok-branch.ensures.lines c.in_ok-acts.ensures.lines) c.acts-2.ensures.lines

pub choose-acts-requires-2 : goal.choose-acts-requires-2
choose-acts-requires-2 t c =
    let smaller : acts_size c.args.f.now c.args.keep_part.now + 1 < keeps_size (site_at c.args.f.now c.args.site) + acts_size c.args.f.now c.args.issue_part.now + acts_size c.args.f.now c.args.keep_part.now + 2 = omega arith in
    let room : length c.acts.new.code + acts_size c.args.f.now c.args.keep_part.now ≤ 4194304 = omega (arith, c.requires.room, ap keeps_size c.site.ensures, c.in_ok-keeps.ensures.count, c.in_ok-branch.ensures.count, c.in_ok-acts.ensures.count) in
    search rules

pub by_class-acts-requires-2 : goal.by_class-acts-requires-2
by_class-acts-requires-2 t c =
    let smaller : acts_size c.args.f.now c.args.private.now + 1 < acts_size c.args.f.now c.args.single.now + acts_size c.args.f.now c.args.private.now + acts_size c.args.f.now c.args.rest.now + 4 = omega arith in
    let room : length c.acts.new.code + acts_size c.args.f.now c.args.private.now ≤ 4194304 = omega (arith, c.requires.room, c.in_ok-class_test.ensures.count, c.in_ok-class_test-2.ensures.count, c.in_ok-acts.ensures.count) in
    search rules

pub by_class-acts-requires-3 : goal.by_class-acts-requires-3
by_class-acts-requires-3 t c =
    let smaller : acts_size c.args.f.now c.args.rest.now + 1 < acts_size c.args.f.now c.args.single.now + acts_size c.args.f.now c.args.private.now + acts_size c.args.f.now c.args.rest.now + 4 = omega arith in
    let room : length c.acts-2.new.code + acts_size c.args.f.now c.args.rest.now ≤ 4194304 = omega (arith, c.requires.room, c.in_ok-class_test.ensures.count, c.in_ok-class_test-2.ensures.count, c.in_ok-acts.ensures.count, c.in_ok-acts-2.ensures.count) in
    search rules

pub by_class-returns-clause-lines : goal.by_class-returns-clause-lines
by_class-returns-clause-lines t c =
    let next = c.args.ahead.next in
    let o = length c.args.code.now in
    let s = acts_size c.args.f.now c.args.single.now in
    let p = acts_size c.args.f.now c.args.private.now in
    let single_at : c.at-at.result + 12 ≡ o + 12 = omega (arith, c.at-at.ensures) in
    let private_at : c.at-at.result + 12 + c.acts_size.result ≡ o + 12 + s = omega (arith, c.at-at.ensures, c.acts_size.ensures, c.requires.room) in
    let rest_at : c.at-at.result + 12 + c.acts_size.result + c.acts_size-2.result ≡ o + 12 + s + p = omega (arith, c.at-at.ensures, c.acts_size.ensures, c.acts_size-2.ensures, c.requires.room) in
    let second : c.at-at.result + 6 ≡ o + 6 = omega (arith, c.at-at.ensures) in
    let at_single : length c.class_test-2.new.code ≡ o + 12 = omega (arith, c.in_ok-class_test.ensures.count, c.in_ok-class_test-2.ensures.count) in
    let at_private : length c.acts.new.code ≡ o + 12 + s = omega (arith, at_single, c.in_ok-acts.ensures.count) in
    let at_rest : length c.acts-2.new.code ≡ o + 12 + s + p = omega (arith, at_private, c.in_ok-acts-2.ensures.count) in
    on_ok c.acts-3.result (class_put c.args.f.now c.args.ahead.keeps next c.args.site c.args.single.now c.args.private.now c.args.rest.now c.args.code.now _ _ _ _ _ _ _ _ _
    (c.entry.ensures ∙ ap (λ n. acts_entry c.args.single.now n next) single_at) (c.entry-2.ensures ∙ ap (λ n. acts_entry c.args.private.now n next) private_at)
    (c.entry-3.ensures ∙ ap (λ n. acts_entry c.args.rest.now n next) rest_at) second at_single at_private at_rest
    c.in_ok-class_test.ensures.lines c.in_ok-class_test-2.ensures.lines c.in_ok-acts.ensures.lines c.in_ok-acts-2.ensures.lines) c.acts-3.ensures.lines
