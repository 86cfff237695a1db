-- An event and its text give each other.
use Rattle.report_text.proofs.EventLemmas.{event_back, event_there}
use Rattle.report_text.proofs.laws.an_event_and_its_text_give_each_other.Goals as goal

pub returns-clause-told : goal.returns-clause-told
returns-clause-told c = λ core t e is text told. event_back core t e is text told

pub returns-clause-given : goal.returns-clause-given
returns-clause-given c = λ core e is whose. event_there core e is whose
