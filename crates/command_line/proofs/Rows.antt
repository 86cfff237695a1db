-- What the rows of a walk tell of a line, and what one more use of an argument tells.
use Rattle.std.specs.Prelude.{◌≡◌, Bool, true, false, ◌&&◌, List, [], ◌∷◌, ◌++◌, codes, Option, Some, None, is_some, find, option_map, if◌then◌else◌}
use Rattle.std.proofs.Common.{refl, ap, sym, ◌∙◌, cond}
use Rattle.std.specs.Option.{option_map_or}
use Rattle.std.specs.Str.{bytes_eq}
use Rattle.std.proofs.lemmas.Slice.Eq.{bytes_eq-Decides}
use Rattle.clap.specs.Walk.{Row, Text, at_row, without, used, has_row, stronger}
use Rattle.clap.specs.Faults.{use_fault}
use Rattle.clap.specs.Kinds.{Kinds, or_else}
use Rattle.clap.specs.declared.error.kind.ErrorKind.TheVariants as kind
use Rattle.clap.specs.declared.builder.value_parser.Reading.TheVariants.{AsWritten}
use Rattle.clap.specs.declared.parser.matches.ValueSource.TheVariants.{CommandLine}
use Rattle.command_line.specs.Line.{Line, with_places}
use Rattle.command_line.proofs.Walked.{command_built, args_built, brief_built, scheme_built}

-- the row of an argument
abbrev pub row : Text → List Row → Option Row
row id rows = find (λ r. bytes_eq r.id id) rows

-- the row of an argument with these values
abbrev pub given : Text → List Text → Row
given id values = record { id = id; values = values; count = None; source = Some CommandLine; reading = AsWritten }

-- the rows of positionals
abbrev pub command_row : List Text → Option Row
command_row [] = None
command_row (word ∷ words) = Some (given (codes "COMMAND") (word ∷ []))

abbrev pub args_row : List Text → Option Row
args_row [] = None
args_row (word ∷ []) = None
args_row (word ∷ next ∷ words) = Some (given (codes "ARGS") (next ∷ words))

-- rows that tell a line
pub record Tells (rows : List Row) (l : Line) : Type 0 where
  pub command : row (codes "COMMAND") rows ≡ command_row l.places
  pub args : row (codes "ARGS") rows ≡ args_row l.places
  pub brief : row (codes "brief") rows ≡ (if l.brief then Some (given (codes "brief") (codes "true" ∷ [])) else None)
  pub scheme : row (codes "scheme") rows ≡ option_map (λ value. given (codes "scheme") (value ∷ [])) l.scheme

-- ---- one row changed or added

same_id : (x y : Text) → x ≡ y → bytes_eq x y ≡ true
same_id x y is = (bytes_eq-Decides x y).1 is

-- the row of the argument itself
pub row_changed : (id : Text) (g : Row → Row) (new : Row) → ((r : Row) → (g r).id ≡ r.id) → new.id ≡ id → (rows : List Row)
    → row id (at_row id (λ r. g r ∷ []) (new ∷ []) rows) ≡ Some (option_map_or g (row id rows) new)
row_changed id g new keeps named [] = rw (same_id new.id id named) refl
row_changed id g new keeps named (r ∷ rs) = by_test (bytes_eq r.id id) refl (row_changed id g new keeps named rs)
  where
    by_test : (b : Bool) → bytes_eq r.id id ≡ b → row id (at_row id (λ r. g r ∷ []) (new ∷ []) rs) ≡ Some (option_map_or g (row id rs) new)
        → row id (at_row id (λ r. g r ∷ []) (new ∷ []) (r ∷ rs)) ≡ Some (option_map_or g (row id (r ∷ rs)) new)
    by_test true is rest = rw (is, keeps r, is) refl
    by_test false is rest = rw (is, is) rest

-- the row of another argument
pub row_stays : (id other : Text) (g : Row → Row) (new : Row) → bytes_eq id other ≡ false → ((r : Row) → (g r).id ≡ r.id) → new.id ≡ id → (rows : List Row)
    → row other (at_row id (λ r. g r ∷ []) (new ∷ []) rows) ≡ row other rows
row_stays id other g new differs keeps named [] = rw (named, differs) refl
row_stays id other g new differs keeps named (r ∷ rs) = by_test (bytes_eq r.id id) refl (row_stays id other g new differs keeps named rs)
  where
    by_test : (b : Bool) → bytes_eq r.id id ≡ b → row other (at_row id (λ r. g r ∷ []) (new ∷ []) rs) ≡ row other rs
        → row other (at_row id (λ r. g r ∷ []) (new ∷ []) (r ∷ rs)) ≡ row other (r ∷ rs)
    by_test true is rest =
        let is_id : r.id ≡ id = (bytes_eq-Decides r.id id).0 is in
        let apart : bytes_eq r.id other ≡ false = rw is_id differs in
        rw (is, keeps r, apart) refl
    by_test false is rest = rw is (ap (λ (o : Option Row). cond (bytes_eq r.id other) (Some r) o) rest)

-- without a row of the argument nothing is taken out
pub nothing_out : (id : Text) (rows : List Row) → row id rows ≡ None → without id rows ≡ rows
nothing_out id [] absent = refl
nothing_out id (r ∷ rs) absent = by_test (bytes_eq r.id id) refl absent (λ e. nothing_out id rs e)
  where
    by_test : (b : Bool) → bytes_eq r.id id ≡ b → row id (r ∷ rs) ≡ None → (row id rs ≡ None → without id rs ≡ rs) → without id (r ∷ rs) ≡ r ∷ rs
    by_test true is absent rest = let some : Some r ≡ None = rw is at absent in cc
    by_test false is absent rest = rw is (ap (λ (l : List Row). r ∷ l) (rest (rw is at absent)))

pub has_row_is : (id : Text) (rows : List Row) → has_row id rows ≡ is_some (row id rows)
has_row_is id [] = refl
has_row_is id (r ∷ rs) = by_test (bytes_eq r.id id) refl (has_row_is id rs)
  where
    by_test : (b : Bool) → bytes_eq r.id id ≡ b → has_row id rs ≡ is_some (row id rs) → has_row id (r ∷ rs) ≡ is_some (row id (r ∷ rs))
    by_test true is rest = rw is refl
    by_test false is rest = rw is rest

-- ---- one more use of an argument

abbrev more : List Text → Row → Row
more values r = record r { values = r.values ++ values; source = Some (stronger r.source CommandLine) }

-- an argument that had no row has one with these values
abbrev set_row : Text → List Text → List Row → List Row
set_row id values rows = at_row id (λ r. more values r ∷ []) (given id values ∷ []) (without id rows)

set_own : (id : Text) (values : List Text) (rows : List Row) → row id rows ≡ None → row id (set_row id values rows) ≡ Some (given id values)
set_own id values rows absent =
    row_changed id (more values) (given id values) (λ r. refl) refl (without id rows)
    ∙ ap (λ (l : List Row). Some (option_map_or (more values) (row id l) (given id values))) (nothing_out id rows absent)
    ∙ ap (λ (o : Option Row). Some (option_map_or (more values) o (given id values))) absent

set_other : (id other : Text) (values : List Text) (rows : List Row) → bytes_eq id other ≡ false → row id rows ≡ None → row other (set_row id values rows) ≡ row other rows
set_other id other values rows differs absent =
    row_stays id other (more values) (given id values) differs (λ r. refl) refl (without id rows)
    ∙ ap (row other) (nothing_out id rows absent)

-- the flag
pub with_flag : (rows : List Row) (l : Line) → Tells rows l → l.brief ≡ false → Tells (used brief_built [] rows) (record l { brief = true })
with_flag rows l tells unset =
    let absent : row (codes "brief") rows ≡ None = tells.brief ∙ ap (λ b. if b then Some (given (codes "brief") (codes "true" ∷ [])) else None) unset in
    record {
      command = set_other (codes "brief") (codes "COMMAND") (codes "true" ∷ []) rows refl absent ∙ tells.command;
      args = set_other (codes "brief") (codes "ARGS") (codes "true" ∷ []) rows refl absent ∙ tells.args;
      brief = set_own (codes "brief") (codes "true" ∷ []) rows absent;
      scheme = set_other (codes "brief") (codes "scheme") (codes "true" ∷ []) rows refl absent ∙ tells.scheme;
    }

-- the option
pub with_option : (rows : List Row) (l : Line) (value : Text) → Tells rows l → l.scheme ≡ None → Tells (used scheme_built (value ∷ []) rows) (record l { scheme = Some value })
with_option rows l value tells unset =
    let absent : row (codes "scheme") rows ≡ None = tells.scheme ∙ ap (option_map (λ v. given (codes "scheme") (v ∷ []))) unset in
    record {
      command = set_other (codes "scheme") (codes "COMMAND") (value ∷ []) rows refl absent ∙ tells.command;
      args = set_other (codes "scheme") (codes "ARGS") (value ∷ []) rows refl absent ∙ tells.args;
      brief = set_other (codes "scheme") (codes "brief") (value ∷ []) rows refl absent ∙ tells.brief;
      scheme = set_own (codes "scheme") (value ∷ []) rows absent;
    }

-- the first positional
pub with_first : (rows : List Row) (l : Line) (word : Text) → Tells rows l → l.places ≡ [] → Tells (used command_built (word ∷ []) rows) (with_places (word ∷ []) l)
with_first rows l word tells none =
    let absent : row (codes "COMMAND") rows ≡ None = tells.command ∙ ap command_row none in
    let places : l.places ++ word ∷ [] ≡ word ∷ [] = ap (λ (ps : List Text). ps ++ word ∷ []) none in
    record {
      command = set_own (codes "COMMAND") (word ∷ []) rows absent ∙ ap command_row (sym places);
      args = set_other (codes "COMMAND") (codes "ARGS") (word ∷ []) rows refl absent ∙ tells.args ∙ ap args_row none ∙ ap args_row (sym places);
      brief = set_other (codes "COMMAND") (codes "brief") (word ∷ []) rows refl absent ∙ tells.brief;
      scheme = set_other (codes "COMMAND") (codes "scheme") (word ∷ []) rows refl absent ∙ tells.scheme;
    }

-- a later one
args_more : (first word : Text) (words : List Text) → Some (option_map_or (more (word ∷ [])) (args_row (first ∷ words)) (given (codes "ARGS") (word ∷ []))) ≡ args_row ((first ∷ words) ++ word ∷ [])
args_more first word [] = refl
args_more first word (next ∷ words) = refl

pub with_later : (rows : List Row) (l : Line) (first word : Text) (words : List Text) → Tells rows l → l.places ≡ first ∷ words → Tells (used args_built (word ∷ []) rows) (with_places (word ∷ []) l)
with_later rows l first word words tells some =
    let places : l.places ++ word ∷ [] ≡ (first ∷ words) ++ word ∷ [] = ap (λ (ps : List Text). ps ++ word ∷ []) some in
    let other : (id : Text) → bytes_eq (codes "ARGS") id ≡ false → row id (used args_built (word ∷ []) rows) ≡ row id rows =
    λ id differs. row_stays (codes "ARGS") id (more (word ∷ [])) (given (codes "ARGS") (word ∷ [])) differs (λ r. refl) refl rows in
    record {
      command = other (codes "COMMAND") refl ∙ tells.command ∙ ap command_row some ∙ ap command_row (sym places);
      args = row_changed (codes "ARGS") (more (word ∷ [])) (given (codes "ARGS") (word ∷ [])) (λ r. refl) refl rows
          ∙ ap (λ (o : Option Row). Some (option_map_or (more (word ∷ [])) o (given (codes "ARGS") (word ∷ [])))) (tells.args ∙ ap args_row some)
          ∙ args_more first word words ∙ ap args_row (sym places);
      brief = other (codes "brief") refl ∙ tells.brief;
      scheme = other (codes "scheme") refl ∙ tells.scheme;
    }

-- ---- what such a use faults

abbrev pub conflict_if : Bool → Kinds
conflict_if b = if b then kind.ArgumentConflict ∷ [] else []

or_conflict : (b : Bool) → or_else (if b && true then kind.ArgumentConflict ∷ [] else []) [] ≡ conflict_if b
or_conflict true = refl
or_conflict false = refl

is_set : (b : Bool) (x : Row) → is_some (if b then Some x else None) ≡ b
is_set true x = refl
is_set false x = refl

is_mapped : (f : Text → Row) (o : Option Text) → is_some (option_map f o) ≡ is_some o
is_mapped f None = refl
is_mapped f (Some x) = refl

pub flag_use : (rows : List Row) (l : Line) → Tells rows l → use_fault false brief_built [] rows ≡ conflict_if l.brief
flag_use rows l tells =
    or_conflict (has_row (codes "brief") rows)
    ∙ ap conflict_if (has_row_is (codes "brief") rows ∙ ap is_some tells.brief ∙ is_set l.brief (given (codes "brief") (codes "true" ∷ [])))

pub option_use : (rows : List Row) (l : Line) (value : Text) → Tells rows l → use_fault false scheme_built (value ∷ []) rows ≡ conflict_if (is_some l.scheme)
option_use rows l value tells =
    or_conflict (has_row (codes "scheme") rows)
    ∙ ap conflict_if (has_row_is (codes "scheme") rows ∙ ap is_some tells.scheme ∙ is_mapped (λ v. given (codes "scheme") (v ∷ [])) l.scheme)

pub first_use : (rows : List Row) (l : Line) (word : Text) → Tells rows l → l.places ≡ [] → use_fault false command_built (word ∷ []) rows ≡ []
first_use rows l word tells none =
    or_conflict (has_row (codes "COMMAND") rows)
    ∙ ap conflict_if (has_row_is (codes "COMMAND") rows ∙ ap is_some (tells.command ∙ ap command_row none))

pub later_use : (rows : List Row) (word : Text) → use_fault false args_built (word ∷ []) rows ≡ []
later_use rows word = refl
