-- The seven words are text, and none stands twice.
use Rattle.std.proofs.Common.{◌∙◌, ap}
use Rattle.std.specs.Str.{bytes_eq}
use Rattle.op_table.specs.Places.{place_of}
use Rattle.ease_debug.specs.Reading.{command_words}
use Rattle.ease_debug.proofs.TableWords.{no_twins, no_text}
use Rattle.ease_debug.proofs.line.place_in_words.Goals as goal

pub place_in-requires-clause-clear : goal.place_in-requires-clause-clear
place_in-requires-clause-clear c = no_twins

pub returns-in-Ok : goal.returns-in-Ok
returns-in-Ok c = c.place_in.ensures ∙ ap (λ w. place_of bytes_eq w command_words) c.in-Ok.ensures.cases.0

pub returns-in-Err : goal.returns-in-Err
returns-in-Err c = no_text c.args.word.now c.in-Err.ensures.cases.0
