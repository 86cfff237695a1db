use Rattle.task_check.specs.Table.{meanings}
use Rattle.task_check.proofs.FormLemmas.{index_form, paren_form, one_form, two_form}
use Rattle.task_check.proofs.OkLemmas.{if_ok}
use Rattle.task_check.proofs.form_expr.+form_expr.Goals as goal

pub returns-in_ok-index-in-Index : goal.returns-in_ok-index-in-Index
returns-in_ok-index-in-Index t c =
    if_ok _ _ c.element.result (λ v h. index_form (meanings c.args.names.now) _ _ _ _ c.find-meaning.result _ _ _ _ v c.in-Index.is c.get.ensures c.as_slice-in-Index.ensures c.find-meaning.ensures
    c.pointer_of.ensures c.array_number.ensures c.in_ok-index-in-Index.ensures h) c.element.ensures

pub returns-in-Paren : goal.returns-in-Paren
returns-in-Paren t c = if_ok _ _ c.form_expr-in-Paren.result (λ v h. paren_form (meanings c.args.names.now) _ _ _ v c.in-Paren.is c.get-in-Paren.ensures h) c.form_expr-in-Paren.ensures

pub returns-in_ok-inner-in-One : goal.returns-in_ok-inner-in-One
returns-in_ok-inner-in-One t c =
    if_ok _ _ c.one.result (λ v h. one_form (meanings c.args.names.now) _ _ _ _ _ v c.in-One.is c.get-in-One.ensures c.in_ok-inner-in-One.ensures h) c.one.ensures

pub returns-in_ok-right-in-Two : goal.returns-in_ok-right-in-Two
returns-in_ok-right-in-Two t c =
    if_ok _ _ c.two.result (λ v h. two_form (meanings c.args.names.now) _ _ _ _ _ _ _ _ v c.in-Two.is c.get-in-Two.ensures c.get-in-Two-2.ensures c.in_ok-left-in-Two.ensures c.in_ok-right-in-Two.ensures h) c.two.ensures
