use Rattle.ease_debug.proofs.WordLemmas.{no_symbol}
use Rattle.ease_debug.proofs.line.show_in.Goals as goal

pub returns-in_err-place : goal.returns-in_err-place
returns-in_err-place c = no_symbol c.args.image.now _ _ _ _ _ c.from_residual-in_err-place.ensures c.in_err-place.was c.symbol_named.ensures.place c.as_slice.ensures c.in_ok-only_word.ensures
