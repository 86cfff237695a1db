-- One word of `clap`'s walk, over the four arguments as they are built.
use Rattle.std.specs.Prelude.{◌≡◌, ℕ, ◌==◌, ⊤, Bool, true, false, ◌&&◌, List, [], ◌∷◌, codes, Option, Some, None, if◌then◌else◌}
use Rattle.std.proofs.Common.{refl, ◌∙◌}
use Rattle.std.specs.Str.{bytes_eq}
use Rattle.std.proofs.lemmas.Slice.Eq.{bytes_eq-Decides}
use Rattle.clap.specs.Words.{Rule}
use Rattle.clap.specs.Lexer.{long_of, short_of}
use Rattle.clap.specs.Walk.{Row, Walk, Waiting, Text, arg_by_long, long_word, after_step, used, settled_rows, walked, idle, positional, option, is_pending}
use Rattle.clap.specs.Simple.{built, Shape}
use Rattle.clap.specs.Faults.{settle_fault, turn_fault, use_fault, long_fault, step_fault}
use Rattle.clap.specs.Kinds.{Kinds, or_else}
use Rattle.clap.specs.declared.builder.action.ArgAction.TheVariants.{Set}
use Rattle.clap.specs.declared.builder.value_parser.ValueParser.TheVariants as vp
use Rattle.command_line.specs.Words.{ease_app, command_rule, args_rule, brief_rule, scheme_rule}
use Rattle.clap.specs.declared.builder.range.ValueRange.{ValueRange}

abbrev one : Option ValueRange
one = Some (record { start_inclusive = 1; end_inclusive = 1 })

abbrev none : Option ValueRange
none = Some (record { start_inclusive = 0; end_inclusive = 0 })

abbrev pub command_built : Rule
command_built = record command_rule { action = Some Set; range = one; parser = Some vp.String; index = Some 1 }

abbrev pub args_built : Rule
args_built = record args_rule { range = one; parser = Some vp.String; index = Some 2 }

abbrev pub brief_built : Rule
brief_built = record brief_rule { range = none; parser = Some vp.Bool; defaults = codes "false" ∷ []; missing = codes "true" ∷ [] }

abbrev pub scheme_built : Rule
scheme_built = record scheme_rule { action = Some Set; range = one; parser = Some vp.String }

-- the four arguments as a parse finds them
abbrev pub built_rules : List Rule
built_rules = command_built ∷ args_built ∷ brief_built ∷ scheme_built ∷ []

-- the command as a parse finds it
abbrev pub top : Shape
top = (built ease_app).top

rules_built : top.rules ≡ built_rules
rules_built = refl

-- where the walk stands: the rows, the argument that gets values, what waits, the next positional, behind `--`
abbrev pub at : List Row → Option (Text × List Text) → Waiting → ℕ → Bool → Walk
at rows pending waiting place behind = record {
  held = record { rows = rows; pending = pending; skip = 0 };
  waiting = waiting;
  position = place;
  is_trailing = behind;
  stopped = None;
}

-- no option waits for its value
abbrev pub IsOpen : Waiting → Type 0
IsOpen idle = ⊤
IsOpen (option id) = ⊥
IsOpen positional = ⊤

-- what a use of the pending argument makes of the rows, and its fault
abbrev pub settled_at : List Row → Option (Text × List Text) → List Row
settled_at rows pending = settled_rows built_rules pending rows

abbrev pub fault_at : List Row → Option (Text × List Text) → Kinds
fault_at rows pending = settle_fault built_rules false (record { rows = rows; pending = pending; skip = 0 })

-- the positional at a place, and what waits behind a word of it
abbrev pub placed : ℕ → Text
placed place = if place == 1 then codes "COMMAND" else codes "ARGS"

abbrev pub dashes : Text
dashes = codes "--"

and_false : (b : Bool) → (b && false) ≡ false
and_false true = refl
and_false false = refl

-- the two places of a positional
pub data IsPlace : ℕ → Type 0 where
  first : IsPlace 1
  later : IsPlace 2

abbrev pub waiting_behind : ℕ → Waiting
waiting_behind place = if place == 1 then idle else positional

-- a word behind `--`
pub behind_fault : (r : List Row) (p : Option (Text × List Text)) (w : Waiting) (k : ℕ) (word : Text) → IsPlace k → turn_fault top [] (at r p w k true) word ≡ fault_at r p
behind_fault r p w k word first = rw (and_false (is_pending command_built p)) refl
behind_fault r p w k word later = rw (and_false (is_pending args_built p)) refl

pub behind_walked : (r : List Row) (p : Option (Text × List Text)) (w : Waiting) (k : ℕ) (word : Text) → IsPlace k → walked built_rules [] (at r p w k true) word ≡ at (settled_at r p) (Some (placed k, word ∷ [])) (waiting_behind k) 2 true
unfolding walked
behind_walked r p w k word first = rw (and_false (is_pending command_built p)) refl
behind_walked r p w k word later = rw (and_false (is_pending args_built p)) refl

-- a word that is no option and no `--`
pub record IsPlain (word : Text) : Type 0 where
  pub dashes : bytes_eq word dashes ≡ false
  pub long : long_of word ≡ None
  pub short : short_of word ≡ None

pub plain_fault : (r : List Row) (p : Option (Text × List Text)) (w : Waiting) (k : ℕ) (word : Text) → IsOpen w → IsPlace k → IsPlain word → turn_fault top [] (at r p w k false) word ≡ fault_at r p
plain_fault r p idle k word free first plain = rw (plain.dashes, plain.long, plain.short, and_false (is_pending command_built p)) refl
plain_fault r p idle k word free later plain = rw (plain.dashes, plain.long, plain.short, and_false (is_pending args_built p)) refl
plain_fault r p (option id) k word free place plain = absurd free
plain_fault r p positional k word free first plain = rw (plain.dashes, plain.long, plain.short, and_false (is_pending command_built p)) refl
plain_fault r p positional k word free later plain = rw (plain.dashes, plain.long, plain.short, and_false (is_pending args_built p)) refl

pub plain_walked : (r : List Row) (p : Option (Text × List Text)) (w : Waiting) (k : ℕ) (word : Text) → IsOpen w → IsPlace k → IsPlain word → walked built_rules [] (at r p w k false) word ≡ at (settled_at r p) (Some (placed k, word ∷ [])) (waiting_behind k) 2 false
unfolding walked
plain_walked r p idle k word free first plain = rw (plain.dashes, plain.long, plain.short, and_false (is_pending command_built p)) refl
plain_walked r p idle k word free later plain = rw (plain.dashes, plain.long, plain.short, and_false (is_pending args_built p)) refl
plain_walked r p (option id) k word free place plain = absurd free
plain_walked r p positional k word free first plain = rw (plain.dashes, plain.long, plain.short, and_false (is_pending command_built p)) refl
plain_walked r p positional k word free later plain = rw (plain.dashes, plain.long, plain.short, and_false (is_pending args_built p)) refl

-- `--` itself
pub dashes_fault : (r : List Row) (p : Option (Text × List Text)) (w : Waiting) (k : ℕ) (word : Text) → bytes_eq word dashes ≡ true → turn_fault top [] (at r p w k false) word ≡ []
dashes_fault r p idle k word is = rw is refl
dashes_fault r p (option id) k word is = rw is refl
dashes_fault r p positional k word is = rw is refl

pub dashes_walked : (r : List Row) (p : Option (Text × List Text)) (w : Waiting) (k : ℕ) (word : Text) → bytes_eq word dashes ≡ true → walked built_rules [] (at r p w k false) word ≡ at r p w k true
unfolding walked
dashes_walked r p idle k word is = rw is refl
dashes_walked r p (option id) k word is = rw is refl
dashes_walked r p positional k word is = rw is refl

-- a word `--NAME` or `--NAME=VALUE`
pub record IsLong (word name : Text) (given : Option Text) : Type 0 where
  pub dashes : bytes_eq word dashes ≡ false
  pub long : long_of word ≡ Some (name, given)

-- what it faults, by the argument of the name
abbrev pub long_faults : List Row → Option (Text × List Text) → Option Rule → Option Text → Kinds
long_faults r p found given = long_fault built_rules false found given (record { rows = r; pending = p; skip = 0 })

pub long_turn : (r : List Row) (p : Option (Text × List Text)) (w : Waiting) (k : ℕ) (word name : Text) (given : Option Text) → IsLong word name given
    → turn_fault top [] (at r p w k false) word ≡ or_else (long_faults r p (arg_by_long built_rules name) given) (step_fault top k (long_word built_rules w word name given (record { rows = r; pending = p; skip = 0 })).0 (long_word built_rules w word name given (record { rows = r; pending = p; skip = 0 })).1)
long_turn r p idle k word name given is = rw (is.dashes, is.long) refl
long_turn r p (option id) k word name given is = rw (is.dashes, is.long) refl
long_turn r p positional k word name given is = rw (is.dashes, is.long) refl

pub long_walked : (r : List Row) (p : Option (Text × List Text)) (w : Waiting) (k : ℕ) (word name : Text) (given : Option Text) → IsLong word name given
    → walked built_rules [] (at r p w k false) word ≡ after_step built_rules word (at r p w k false) (long_word built_rules w word name given (record { rows = r; pending = p; skip = 0 })).0 (long_word built_rules w word name given (record { rows = r; pending = p; skip = 0 })).1
unfolding walked
long_walked r p idle k word name given is = rw (is.dashes, is.long) refl
long_walked r p (option id) k word name given is = rw (is.dashes, is.long) refl
long_walked r p positional k word name given is = rw (is.dashes, is.long) refl

is_brief : (name : Text) → bytes_eq name (codes "brief") ≡ true → name ≡ codes "brief"
is_brief name is = (bytes_eq-Decides name (codes "brief")).0 is

is_scheme : (name : Text) → bytes_eq name (codes "scheme") ≡ true → name ≡ codes "scheme"
is_scheme name is = (bytes_eq-Decides name (codes "scheme")).0 is

or_else_nothing : (ks : Kinds) → or_else ks [] ≡ ks
or_else_nothing [] = refl
or_else_nothing (k ∷ ks) = refl

-- the flag
pub brief_fault : (r : List Row) (p : Option (Text × List Text)) (w : Waiting) (k : ℕ) (word : Text) → IsLong word (codes "brief") None → turn_fault top [] (at r p w k false) word ≡ or_else (fault_at r p) (use_fault false brief_built [] (settled_at r p))
brief_fault r p w k word is = long_turn r p w k word (codes "brief") None is ∙ or_else_nothing _

pub brief_walked : (r : List Row) (p : Option (Text × List Text)) (w : Waiting) (k : ℕ) (word : Text) → IsLong word (codes "brief") None → walked built_rules [] (at r p w k false) word ≡ at (used brief_built [] (settled_at r p)) None idle k false
brief_walked r p w k word is = long_walked r p w k word (codes "brief") None is

-- the option with its value attached
pub scheme_fault : (r : List Row) (p : Option (Text × List Text)) (w : Waiting) (k : ℕ) (word value : Text) → IsLong word (codes "scheme") (Some value) → turn_fault top [] (at r p w k false) word ≡ or_else (fault_at r p) (use_fault false scheme_built (value ∷ []) (settled_at r p))
scheme_fault r p w k word value is = long_turn r p w k word (codes "scheme") (Some value) is ∙ or_else_nothing _

pub scheme_walked : (r : List Row) (p : Option (Text × List Text)) (w : Waiting) (k : ℕ) (word value : Text) → IsLong word (codes "scheme") (Some value) → walked built_rules [] (at r p w k false) word ≡ at (used scheme_built (value ∷ []) (settled_at r p)) None idle k false
scheme_walked r p w k word value is = long_walked r p w k word (codes "scheme") (Some value) is

-- the option alone, which waits
abbrev pub waiting_scheme : Option (Text × List Text)
waiting_scheme = Some (codes "scheme", [])

pub alone_fault : (r : List Row) (p : Option (Text × List Text)) (w : Waiting) (k : ℕ) (word : Text) → IsLong word (codes "scheme") None → turn_fault top [] (at r p w k false) word ≡ fault_at r p
alone_fault r p w k word is = long_turn r p w k word (codes "scheme") None is ∙ or_else_nothing _

pub alone_walked : (r : List Row) (p : Option (Text × List Text)) (w : Waiting) (k : ℕ) (word : Text) → IsLong word (codes "scheme") None → walked built_rules [] (at r p w k false) word ≡ at (settled_at r p) waiting_scheme (option (codes "scheme")) k false
alone_walked r p w k word is = long_walked r p w k word (codes "scheme") None is

-- a word that is the value of the option
pub value_fault : (r : List Row) (k : ℕ) (word : Text) → IsPlain word → turn_fault top [] (at r waiting_scheme (option (codes "scheme")) k false) word ≡ []
value_fault r k word plain = rw (plain.dashes, plain.long, plain.short) refl

pub value_walked : (r : List Row) (k : ℕ) (word : Text) → IsPlain word → walked built_rules [] (at r waiting_scheme (option (codes "scheme")) k false) word ≡ at r (Some (codes "scheme", word ∷ [])) idle k false
unfolding walked
value_walked r k word plain = rw (plain.dashes, plain.long, plain.short) refl
