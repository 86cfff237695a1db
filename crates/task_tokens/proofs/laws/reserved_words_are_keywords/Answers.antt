use Rattle.std.proofs.Common.{sym, subst}
use Rattle.op_table.specs.Reserved.{IsReserved}
use Rattle.task_tokens.proofs.ReservedWords.{reserved-keyword, keyword-reserved}
use Rattle.task_tokens.proofs.laws.reserved_words_are_keywords.Goals as goal

pub returns : goal.returns
returns c = λ word. (reserved-keyword word, λ h. subst IsReserved (sym h.1) (keyword-reserved h.0))
