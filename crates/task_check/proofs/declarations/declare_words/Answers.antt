use Rattle.std.proofs.Common.{◌≡◌, ℕ, true, false, List, [], ◌∷◌, is_some, refl, ap, subst, ◌∙◌, arith}
use Rattle.std.specs.List.{AllByRecursion}
use Rattle.std.proofs.lemmas.Result.{err_from_is_err_and}
use Rattle.task_ast.specs.declared.tree.Name.{Name}
use Rattle.task_check.specs.declared.names.Meaning.{Meaning}
use Rattle.task_check.specs.Limits.{IsByte, fram_words, ram_words}
use Rattle.task_check.specs.Names.{decl_text, extended}
use Rattle.task_check.specs.Table.{meanings}
use Rattle.task_check.proofs.DeclarationLemmas.{word_declared, numbers_after, taken_more, all_append, twice_here, fault_here, once_here}
use Rattle.task_check.proofs.ListLemmas.{sum_more}
use Rattle.task_check.proofs.declarations.declare_words.Goals as goal

pub returns-then-not-branch : goal.returns-then-not-branch
returns-then-not-branch c = λ apart.
    let known : is_some (meanings c.loop-at.names (decl_text c.index-decls-at.result)) ≡ true = grind (arith, c.in_ok-declare.ensures.first, c.name_of-x.ensures, c.as_slice.ensures) in
    rw c.name_of-x.ensures (twice_here c.args.decls.now c.loop-at.at c.index-decls-at.result c.loop-at-test.true c.index-decls-at.is (meanings c.loop-at.names) c.loop-at.invariant.table
    _ _ _ c.loop-at.invariant.taken c.loop-at.invariant.fram c.loop-at.invariant.ram c.loop-at.invariant.left known)

pub returns-in_err-sums : goal.returns-in_err-sums
returns-in_err-sums c =
    let new : is_some (meanings c.loop-at.names (decl_text c.index-decls-at.result)) ≡ false = grind (arith, c.in_ok-declare.ensures.first, c.name_of-x.ensures, c.as_slice.ensures) in
    let p = err_from_is_err_and c.from_residual-in_err-sums.result c.from_residual-in_err-sums.ensures.1 in
    rw (p.1, p.2) (fault_here c.args.decls.now c.loop-at.at c.index-decls-at.result c.loop-at-test.true c.index-decls-at.is (meanings c.loop-at.names) c.loop-at.invariant.table
    _ _ _ (c.as_slice-in-loop-at.ensures ∙ c.loop-at.invariant.taken) c.loop-at.invariant.fram c.loop-at.invariant.ram c.loop-at.invariant.left new _ c.in_err-sums.ensures)

pub loop-at-preserved : goal.loop-at-preserved
loop-at-preserved c =
    let new : is_some (meanings c.loop-at.names (decl_text c.index-decls-at.result)) ≡ false = grind (arith, c.in_ok-declare.ensures.first, c.name_of-x.ensures, c.as_slice.ensures) in
    let text = c.as_slice.ensures ∙ ap (λ (x : Name). x.text) c.name_of-x.ensures in
    let after =
    c.in_ok-declare.ensures.declared
    ∙ ap (λ (t : List ℕ). extended (meanings c.loop-at.names) ((t, c.meaning_of.result) ∷ [])) text
    ∙ ap (λ (m : Meaning). extended (meanings c.loop-at.names) ((decl_text c.index-decls-at.result, m) ∷ [])) c.meaning_of.ensures in
    record {
      table = word_declared c.args.decls.now c.loop-at.at c.index-decls-at.result c.loop-at-test.true c.index-decls-at.is (meanings c.loop-at.names) c.loop-at.invariant.table _ _ c.loop-at.invariant.numbers after;
      numbers = numbers_after c.args.decls.now c.loop-at.at c.index-decls-at.result c.loop-at-test.true c.index-decls-at.is (meanings c.loop-at.names) c.loop-at.invariant.table _ _ c.loop-at.invariant.numbers c.with-numbers.ensures.same;
      counted = omega (arith, c.with-numbers.ensures.sum, c.loop-at.invariant.counted);
      few_names = c.in_ok-sums.ensures.1.4;
      taken = taken_more c.args.decls.now c.loop-at.at c.index-decls-at.result c.loop-at-test.true c.index-decls-at.is (meanings c.loop-at.names) c.loop-at.invariant.table _ _ c.loop-at.invariant.taken c.in_ok-note_number.ensures;
      bytes = subst (AllByRecursion IsByte) (taken_more c.args.decls.now c.loop-at.at c.index-decls-at.result c.loop-at-test.true c.index-decls-at.is (meanings c.loop-at.names) c.loop-at.invariant.table _ _ refl refl) (all_append IsByte _ _ c.loop-at.invariant.bytes c.in_ok-sums.ensures.1.5);
      fram = sum_more c.args.decls.now c.loop-at.at c.index-decls-at.result c.loop-at-test.true c.index-decls-at.is fram_words _ _ c.loop-at.invariant.fram c.in_ok-sums.ensures.1.0;
      ram = sum_more c.args.decls.now c.loop-at.at c.index-decls-at.result c.loop-at-test.true c.index-decls-at.is ram_words _ _ c.loop-at.invariant.ram c.in_ok-sums.ensures.1.1;
      few = c.in_ok-sums.ensures.1.2;
      small = c.in_ok-sums.ensures.1.3;
      left = once_here c.args.decls.now c.loop-at.at c.index-decls-at.result c.loop-at-test.true c.index-decls-at.is (meanings c.loop-at.names) c.loop-at.invariant.table
          _ _ _ (c.as_slice-in-loop-at.ensures ∙ c.loop-at.invariant.taken) c.loop-at.invariant.fram c.loop-at.invariant.ram c.loop-at.invariant.left new c.in_ok-sums.ensures.0;
    }
