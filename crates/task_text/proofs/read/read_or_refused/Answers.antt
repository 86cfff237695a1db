use Rattle.task_text.proofs.ReadLaws.{not_both}
use Rattle.task_text.proofs.Totality.{read_or_refused_law}
use Rattle.task_text.proofs.read.read_or_refused.Goals as goal

pub returns : goal.returns
returns c = record { one = λ text. read_or_refused_law text (c.divides_or_breaks.ensures text); not_both = not_both c.one_division.ensures }
