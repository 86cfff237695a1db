use Rattle.std.proofs.Common.{map, string_bytes}
use Rattle.command_line.proofs.FormLaws.{form_is_taken}
use Rattle.command_line.proofs.laws.forms_are_taken.Goals as goal

pub returns : goal.returns
returns c = λ f. form_is_taken (map string_bytes c.args.words.now) f c.words_are_texts.ensures
