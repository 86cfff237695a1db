-- A parse of the words by `clap`, all in all: it fails exactly where no line has the words, and else its rows tell the line.
use Rattle.std.specs.Prelude.{◌≡◌, Bool, true, false, ◌||◌, List, [], ◌∷◌, ◌++◌, codes, Option, Some, None, fold, is_some, option_map, option_and_then, unwrap_or, slice_get, drop, if◌then◌else◌}
use Rattle.std.proofs.Common.{refl, ap, sym, ◌∙◌, subst}
use Rattle.std.specs.Str.{bytes_eq}
use Rattle.clap.specs.Words.{fault_of, matches_of}
use Rattle.clap.specs.Walk.{Row, Rule, Text, Walk, is_empty, has_row, with_default, finished, idle, walked, at_row, stronger, one_of}
use Rattle.clap.specs.Faults.{default_fault, defaults_fault, walk_fault, entered_fault, check_fault}
use Rattle.clap.specs.Kinds.{Kinds, or_else}
use Rattle.clap.specs.Simple.{built, entered}
use Rattle.clap.specs.declared.builder.value_parser.Reading.TheVariants.{AsWritten}
use Rattle.clap.specs.declared.parser.matches.ValueSource.TheVariants.{DefaultValue}
use Rattle.command_line.proofs.Agrees.{Agrees, AgreesFrom, rest_fault, held_fault, end_of, rows_of_held, line_agrees}
use Rattle.command_line.specs.Line.{Line, line_of}
use Rattle.command_line.specs.Parsed.{AreTexts, Shows, flag_text}
use Rattle.command_line.proofs.Rows.{Tells, row, given, command_row, args_row, row_changed, row_stays, has_row_is}
use Rattle.command_line.proofs.Walked.{at, top, built_rules, command_built, args_built, brief_built, scheme_built}
use Rattle.command_line.specs.Words.{ease_app}

-- the walk over all words agrees with their line
walk_agrees : (words : List Text) → AreTexts words → AgreesFrom (at [] None idle 1 false) words (line_of words)
walk_agrees words texts = line_agrees words [] None idle [] false None texts tt (record { good = refl; tells = record { command = refl; args = refl; brief = refl; scheme = refl } })

or_true : (b : Bool) → (b || true) ≡ true
or_true true = refl
or_true false = refl

-- defaults fault nothing
none_due : (rows : List Row) (a : Rule) → is_empty a.defaults ≡ true → default_fault rows a ≡ []
none_due rows a none = rw (none, or_true (has_row a.id rows)) refl

flag_due : (rows : List Row) (b : Bool) → has_row (codes "brief") rows ≡ b → default_fault rows brief_built ≡ []
flag_due rows true is = rw is refl
flag_due rows false is = rw is refl

or_none : (a b : Kinds) → a ≡ [] → b ≡ [] → or_else a b ≡ []
or_none a b first second = ap (λ (k : Kinds). or_else k b) first ∙ second

all_due : (rows : List Row) → defaults_fault rows built_rules ≡ []
unfolding defaults_fault
all_due rows =
    or_none _ _ (none_due rows command_built refl)
    (or_none _ _ (none_due (with_default rows command_built) args_built refl)
    (or_none _ _ (flag_due (with_default (with_default rows command_built) args_built) _ refl)
    (or_none _ _ (none_due (with_default (with_default (with_default rows command_built) args_built) brief_built) scheme_built refl) refl)))

-- ---- the whole fault

or_else_nothing : (ks : Kinds) → or_else ks [] ≡ ks
or_else_nothing [] = refl
or_else_nothing (k ∷ ks) = refl

-- a command without subcommands enters none, wherever the walk stopped
abbrev level_with : Kinds → Kinds → Kinds → List Row → Option (Text × List Text) → Kinds
level_with walking pending due rows stop =
    or_else walking (or_else (entered_fault (built ease_app) stop) (or_else pending (or_else due (check_fault top rows (is_some (entered (built ease_app) stop))))))

enters_none : (walking pending due : Kinds) (rows : List Row) (stop : Option (Text × List Text)) → due ≡ [] → level_with walking pending due rows stop ≡ or_else walking pending
enters_none walking pending due rows None none = ap (λ (d : Kinds). or_else walking (or_else pending (or_else d []))) none ∙ ap (or_else walking) (or_else_nothing pending)
enters_none walking pending due rows (Some p) none = ap (λ (d : Kinds). or_else walking (or_else pending (or_else d []))) none ∙ ap (or_else walking) (or_else_nothing pending)

abbrev pub start : Walk
start = at [] None idle 1 false

fault_is : (words : List Text) → fault_of ease_app words ≡ rest_fault start words
fault_is words =
    let h = end_of start words in
    enters_none (walk_fault top [] start words) (held_fault h) (defaults_fault (rows_of_held h) built_rules) (finished built_rules h) (fold (walked built_rules []) start words).stopped (all_due (rows_of_held h))

-- the parse fails exactly where no line has the words, and else its rows before the defaults tell the line
pub parse_agrees : (words : List Text) → AreTexts words → Agrees (fault_of ease_app words) (rows_of_held (end_of start words)) (line_of words)
parse_agrees words texts =
    subst (λ (f : Kinds). Agrees f (rows_of_held (end_of start words)) (line_of words)) (sym (fault_is words)) (walk_agrees words texts)

-- ---- the rows with the flag's default

abbrev first_in : Option Row → Option Text
first_in = option_and_then (λ r. slice_get r.values 0)

abbrev all_in : Option Row → List Text
all_in o = unwrap_or (option_map (λ r. r.values) o) []

first_of_command : (places : List Text) → first_in (command_row places) ≡ slice_get places 0
first_of_command [] = refl
first_of_command (c ∷ cs) = refl

all_of_args : (places : List Text) → all_in (args_row places) ≡ drop 1 places
all_of_args [] = refl
all_of_args (c ∷ []) = refl
all_of_args (c ∷ d ∷ ds) = refl

first_of_scheme : (scheme : Option Text) → first_in (option_map (λ value. given (codes "scheme") (value ∷ [])) scheme) ≡ scheme
first_of_scheme None = refl
first_of_scheme (Some value) = refl

shows : (rows told : List Row) (l : Line) → Tells told l → ((id : Text) → bytes_eq (codes "brief") id ≡ false → row id rows ≡ row id told) → one_of (codes "brief") rows ≡ Some (flag_text l.brief) → Shows rows l
shows rows told l tells same flag = record {
  command = ap first_in (same (codes "COMMAND") refl ∙ tells.command) ∙ first_of_command l.places;
  args = ap all_in (same (codes "ARGS") refl ∙ tells.args) ∙ all_of_args l.places;
  brief = flag;
  scheme = ap first_in (same (codes "scheme") refl ∙ tells.scheme) ∙ first_of_scheme l.scheme;
}

stays_same : (b : Bool) (rows : List Row) → (if b then rows else rows) ≡ rows
stays_same true rows = refl
stays_same false rows = refl

no_default : (rows : List Row) (a : Rule) → a.defaults ≡ [] → with_default rows a ≡ rows
no_default rows a none = rw none (stays_same (has_row a.id rows) rows)

abbrev unset : Row
unset = record { id = codes "brief"; values = codes "false" ∷ []; count = None; source = Some DefaultValue; reading = AsWritten }

default_shows : (rows : List Row) (l : Line) → Tells rows l → Shows (with_default rows brief_built) l
default_shows rows l tells = by_flag l.brief refl
  where
    by_flag : (b : Bool) → l.brief ≡ b → Shows (with_default rows brief_built) l
    by_flag true set =
        let there : row (codes "brief") rows ≡ Some (given (codes "brief") (codes "true" ∷ [])) = tells.brief ∙ ap (λ b. if b then Some (given (codes "brief") (codes "true" ∷ [])) else None) set in
        let has : has_row (codes "brief") rows ≡ true = has_row_is (codes "brief") rows ∙ ap is_some there in
        rw has (shows rows rows l tells (λ id differs. refl) (rw (there, set) refl))
    by_flag false set =
        let absent : row (codes "brief") rows ≡ None = tells.brief ∙ ap (λ b. if b then Some (given (codes "brief") (codes "true" ∷ [])) else None) set in
        let has : has_row (codes "brief") rows ≡ false = has_row_is (codes "brief") rows ∙ ap is_some absent in
        let change = λ (r : Row). record r { values = r.values ++ codes "false" ∷ []; source = Some (stronger r.source DefaultValue) } in
        let other : (id : Text) → bytes_eq (codes "brief") id ≡ false → row id (at_row (codes "brief") (λ r. change r ∷ []) (unset ∷ []) rows) ≡ row id rows =
        λ id differs. row_stays (codes "brief") id change unset differs (λ r. refl) refl rows in
        let own = row_changed (codes "brief") change unset (λ r. refl) refl rows in
        rw has (shows (at_row (codes "brief") (λ r. change r ∷ []) (unset ∷ []) rows) rows l tells other (rw (own, absent, set) refl))

-- the matches of the words that a line has show it
pub matches_show : (words : List Text) (l : Line) → Tells (rows_of_held (end_of start words)) l → Shows (matches_of ease_app words) l
matches_show words l tells =
    let rows = rows_of_held (end_of start words) in
    let first = no_default rows command_built refl in
    let second = no_default rows args_built refl in
    let last = no_default (with_default rows brief_built) scheme_built refl in
    let all : matches_of ease_app words ≡ with_default rows brief_built = ap (λ (x : List Row). with_default (with_default (with_default x args_built) brief_built) scheme_built) first
    ∙ ap (λ (x : List Row). with_default (with_default x brief_built) scheme_built) second ∙ last in
    rw all (default_shows rows l tells)
