-- A cabinet in memory as contracts see it, and what a fetch leaves of it.
use Rattle.std.specs.Prelude.{ℕ, Bool, List, [], ◌∷◌, Option, Some, None, Result, if◌then◌else◌}
use Rattle.std.specs.Str.{bytes_eq}
use Rattle.ease_base.specs.declared.error.FetchError.{FetchError}
use Rattle.ease_base.specs.declared.mem_cabinet.File.{File}
use Rattle.ease_base.specs.Calls.{fails_next}
use Rattle.ease_base.specs.Cabinet.{counted}
use Rattle.ease_base.specs.Count.{raised}

-- the files, the calls that are to fail, and three counts: of calls, of faults, of long contents
pub record Shelf : Type 0 where
  pub files : List File
  pub fails : List ℕ
  pub calls : ℕ
  pub faults : ℕ
  pub long_contents : ℕ

-- the bytes of the first file of that name; None where there is none
unfoldable pub contents_in : List File → List ℕ → Option (List ℕ)
contents_in [] name = None
contents_in (file ∷ files) name = if bytes_eq file.name name then Some file.bytes else contents_in files name

-- whether the next fetch is to fail
abbrev pub is_failing : Shelf → Bool
is_failing shelf = fails_next shelf.fails shelf.calls

-- after a fetch with this answer: one call more, one fault more where the call was to fail, and the files as they were
abbrev pub fetched : Shelf → Result (Unit {0}) FetchError → Shelf
fetched shelf answer = record shelf {
  calls = raised shelf.calls;
  faults = if is_failing shelf then raised shelf.faults else shelf.faults;
  long_contents = counted shelf.long_contents answer;
}
