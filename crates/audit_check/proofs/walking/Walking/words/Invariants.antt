-- Behind the words so far, those that are left lead where all lead.
use Rattle.std.proofs.Common.{◌≡◌, [], drop}
use Rattle.audit_check.specs.Walking.{words_behind}
use Rattle.audit_check.proofs.walking.Walking.words.Given as goal

abbrev pub invariant-words : goal.invariant-words
invariant-words l = words_behind l.words (drop l.e-index l.es) l.self ≡ words_behind [] l.es l.initial.self
