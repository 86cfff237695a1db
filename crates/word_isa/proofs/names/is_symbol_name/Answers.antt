-- What the last test says, where those before it passed, is what the name is.
use Rattle.std.proofs.Common.{sym}
use Rattle.word_isa.proofs.NameLemmas.{symbol_name_exact, named_by}
use Rattle.word_isa.proofs.names.is_symbol_name.Goals as goal

pub returns-clause-exact : goal.returns-clause-exact
returns-clause-exact c =
    symbol_name_exact c.is_free.result c.args.name.now
    (named_by c.is_free.result c.args.name.now (sym c.if-not-is_name_token.ensures) (sym c.if-not-is_short.ensures) c.is_free.ensures)
