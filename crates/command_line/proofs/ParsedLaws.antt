-- From what `clap` answers to the line.
use Rattle.std.specs.Prelude.{◌≡◌, Bool, true, false, List, [], map, codes, Option, None, Some, option_map, unwrap_or}
use Rattle.std.proofs.Common.{refl, ap, ◌∙◌, subst, inl, inr}
use Rattle.clap.specs.Words.{fault_of, found_of, matches_of, rows_of, first_value, matched_of, one_text, raw_values}
use Rattle.clap.specs.Kinds.{HasKind, IsAmong, Kinds}
use Rattle.clap.specs.Values.{kind_of}
use Rattle.clap.specs.declared.error.Error.{Error}
use Rattle.clap.specs.declared.error.kind.ErrorKind.TheVariants.{OutOfMemory}
use Rattle.clap.specs.declared.parser.matches.Found.{Found}
use Rattle.clap.specs.declared.parser.matches.ArgMatches.{ArgMatches}
use Rattle.clap.proofs.WalkLemmas.{first_value-rows, one_text-rows, raw_values-rows}
use Rattle.command_line.proofs.Agrees.{Agrees, rows_of_held, end_of}
use Rattle.command_line.specs.Line.{Line, line_of, Text}
use Rattle.command_line.proofs.Matched.{matches_show, parse_agrees, start}
use Rattle.command_line.specs.Parsed.{AreTexts, IsLine, Matches, Shows, flag_text}
use Rattle.command_line.specs.Words.{ease_app}
use Rattle.command_line.specs.declared.line.Words.{Words}

-- matches that were answered
pub parsed_ok : (words : List Text) (m : ArgMatches) → AreTexts words → fault_of ease_app words ≡ [] → rows_of (found_of m) ≡ matches_of ease_app words → Matches words (Some m)
parsed_ok words m texts none rows = by_line (line_of words) refl (parse_agrees words texts)
  where
    by_line : (o : Option Line) → line_of words ≡ o → Agrees (fault_of ease_app words) (rows_of_held (end_of start words)) o → Matches words (Some m)
    by_line None is agrees = absurd (agrees none)
    by_line (Some l) is agrees = (l, is, rw rows (matches_show words l agrees.1))

not_among : (e : Error) (kinds : Kinds) → kinds ≡ [] → HasKind kinds e → kind_of e ≡ OutOfMemory
not_among e kinds none (inl memory) = memory
not_among e kinds none (inr among) = absurd (subst (IsAmong (kind_of e)) none among)

-- an error that was answered
pub parsed_err : (words : List Text) (e : Error) → AreTexts words → HasKind (fault_of ease_app words) e → (kind_of e ≡ OutOfMemory → ⊥) → line_of words ≡ None
parsed_err words e texts has other = by_line (line_of words) refl (parse_agrees words texts)
  where
    by_line : (o : Option Line) → line_of words ≡ o → Agrees (fault_of ease_app words) (rows_of_held (end_of start words)) o → line_of words ≡ None
    by_line None is agrees = is
    by_line (Some l) is agrees = absurd (other (not_among e (fault_of ease_app words) agrees.0 has))

flag_is : (b flag : Bool) (o : Option Text) → o ≡ Some (flag_text flag) → (o ≡ Some (codes "true") → b ≡ true) → (o ≡ Some (codes "false") → b ≡ false) → b ≡ flag
flag_is b true o is set clear = set is
flag_is b false o is set clear = clear is

-- what the getters give of the matches that show a line
pub line_shown : (f : Found) (w : Words) → option_map (λ s. s.now) w.command ≡ first_value f (codes "COMMAND")
    → map (λ s. s.now) w.args.items ≡ unwrap_or (option_map raw_values (matched_of f (codes "ARGS"))) []
    → (one_text f (codes "brief") ≡ Some (codes "true") → w.brief ≡ true) → (one_text f (codes "brief") ≡ Some (codes "false") → w.brief ≡ false)
    → option_map (λ s. s.now) w.scheme ≡ first_value f (codes "scheme") → (l : Line) → Shows (rows_of f) l → IsLine w l
line_shown f w command args set clear scheme l shows = record {
  command = command ∙ first_value-rows f (codes "COMMAND") ∙ shows.command;
  args = args ∙ ap (λ (o : Option (List Text)). unwrap_or o []) (raw_values-rows f (codes "ARGS")) ∙ shows.args;
  brief = flag_is w.brief l.brief (one_text f (codes "brief")) (one_text-rows f (codes "brief") ∙ shows.brief) set clear;
  scheme = scheme ∙ first_value-rows f (codes "scheme") ∙ shows.scheme;
}

-- words that have a line fault nothing
pub line_is_taken : (words : List Text) (l : Line) → AreTexts words → line_of words ≡ Some l → fault_of ease_app words ≡ []
line_is_taken words l texts is = (subst (λ (o : Option Line). Agrees (fault_of ease_app words) (rows_of_held (end_of start words)) o) is (parse_agrees words texts)).0
