use Rattle.clap.specs.Words.{found_of}
use Rattle.command_line.proofs.ParsedLaws.{line_shown}
use Rattle.command_line.proofs.line.words_in.Goals as goal

pub returns : goal.returns
returns c = line_shown (found_of c.args.matches.now) _ c.get_str.ensures c.in_ok-args_in.ensures c.get_flag.ensures.value c.get_flag.ensures.other c.get_str-2.ensures
