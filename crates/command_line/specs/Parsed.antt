-- A line as code holds it, and as `clap` shows it.
use Rattle.std.specs.Prelude.{◌≡◌, Bool, true, false, List, [], map, codes, drop, slice_get, Option, None, Some, option_map, unwrap_or}
use Rattle.std.specs.List.{AllByRecursion}
use Rattle.std.specs.Str.{IsUtf8}
use Rattle.clap.specs.Walk.{Row, first_of, one_of, all_of}
use Rattle.clap.specs.Words.{found_of, rows_of}
use Rattle.clap.specs.declared.parser.matches.ArgMatches.{ArgMatches}
use Rattle.command_line.specs.Line.{Line, line_of, Text}
use Rattle.command_line.specs.declared.line.Words.{Words}

-- all words are texts in UTF-8
abbrev pub AreTexts : List Text → Type 0
AreTexts words = AllByRecursion IsUtf8 words

-- the code's line is this one: its first positional stands apart from the others
pub record IsLine (w : Words) (l : Line) : Type 0 where
  pub command : option_map (λ s. s.now) w.command ≡ slice_get l.places 0
  pub args : map (λ s. s.now) w.args.items ≡ drop 1 l.places
  pub brief : w.brief ≡ l.brief
  pub scheme : option_map (λ s. s.now) w.scheme ≡ l.scheme

-- what reading gave is the line of the words, and nothing where they have none
abbrev pub Reads : List Text → Option Words → Type 0
Reads words None = line_of words ≡ None
Reads words (Some w) = (l : Line) × (line_of words ≡ Some l) × IsLine w l

-- a flag's value as `clap` keeps it
abbrev pub flag_text : Bool → Text
flag_text true = codes "true"
flag_text false = codes "false"

-- rows of `clap` whose getters give a line
pub record Shows (rows : List Row) (l : Line) : Type 0 where
  pub command : first_of (codes "COMMAND") rows ≡ slice_get l.places 0
  pub args : unwrap_or (all_of (codes "ARGS") rows) [] ≡ drop 1 l.places
  pub brief : one_of (codes "brief") rows ≡ Some (flag_text l.brief)
  pub scheme : first_of (codes "scheme") rows ≡ l.scheme

-- what `clap` found is the line of the words, and nothing where they have none
abbrev pub Matches : List Text → Option ArgMatches → Type 0
Matches words None = line_of words ≡ None
Matches words (Some m) = (l : Line) × (line_of words ≡ Some l) × Shows (rows_of (found_of m)) l
