-- The files that a command names, and a cabinet while they are fetched.
use Rattle.std.specs.Prelude.{◌≡◌, ◌⊎◌, ℕ, ◌<◌, ◌≤◌, Bool, IsTrue, List, [], ◌∷◌, length, Option, Some, None}
use Rattle.command_line.specs.Form.{Form, walk, run, build, sites, debug, audit, soak}
use Rattle.ease_base.specs.Cabinet.{Contents, Brings, Lacks}
use Rattle.ease_base.specs.Count.{HasRisen, raised}
use Rattle.ease_cli.specs.declared.status.Status.{Status}
use Rattle.ease_cli.specs.declared.status.Status.TheVariants.{ReadFault, TooLong}
use Rattle.ease_cli.specs.Lines.{read_fault, too_long}

pub data Kind : Type 0 where
  source_file : Kind
  image_file : Kind
  world_file : Kind
  script_file : Kind
  report_file : Kind

-- a file of the words, and what is to stand in it
pub record Wanted : Type 0 where
  pub name : List ℕ
  pub kind : Kind

abbrev pub named : Kind → List ℕ → Wanted
named kind name = record { name = name; kind = kind }

abbrev pub named_if : Kind → Option (List ℕ) → List Wanted
named_if kind None = []
named_if kind (Some name) = named kind name ∷ []

-- the files of a command, in the order of the words
abbrev pub wanted : Form → List Wanted
wanted (walk program tasks world) = named source_file program ∷ named_if world_file world
wanted (run image world brief) = named image_file image ∷ (named world_file world ∷ [])
wanted (build program scheme) = named source_file program ∷ []
wanted (sites program) = named source_file program ∷ []
wanted (debug image world script) = named image_file image ∷ (named world_file world ∷ (named script_file script ∷ []))
wanted (audit program world report) = named source_file program ∷ (named world_file world ∷ (named report_file report ∷ []))
wanted (soak number) = []

-- the most bytes of a file
abbrev pub limit_of : Kind → ℕ
limit_of source_file = 65536
limit_of image_file = 40000000
limit_of world_file = 1048576
limit_of script_file = 65536
limit_of report_file = 67108864

-- A cabinet during a command: what it tells, and its two counts before and after.
pub record Files : Type 0 where
  pub told : Bool
  pub contents : Contents
  pub faults : ℕ
  pub faults_after : ℕ
  pub long : ℕ
  pub long_after : ℕ

-- the same, from what a cabinet means
abbrev pub files_of : Bool → Contents → ℕ → ℕ → ℕ → ℕ → Files
files_of told contents faults faults_after long long_after =
    record { told = told; contents = contents; faults = faults; faults_after = faults_after; long = long; long_after = long_after }

-- neither count rose
pub record IsQuiet (f : Files) : Type 0 where
  pub faults : f.faults_after ≡ f.faults
  pub long : f.long_after ≡ f.long

-- the bytes of a file were brought, and are not too many
pub record IsBrought (f : Files) (name : List ℕ) (limit : ℕ) (bytes : List ℕ) : Type 0 where
  pub brought : Brings f.told f.contents name bytes
  pub short : length bytes ≤ limit

-- Why a file could not be brought, with the status and the line: its fetch failed, where the count of faults rose or
-- told contents lack the file; or it is too long, which alone raises the count of long contents, by one.
pub data IsUnbrought (f : Files) (name : List ℕ) (limit : ℕ) (status : Status) (text : List ℕ) : Type 0 where
  failed : status ≡ ReadFault → text ≡ read_fault → f.long_after ≡ f.long
      → HasRisen f.faults f.faults_after ⊎ Lacks f.told f.contents name → IsUnbrought f name limit status text
  long : status ≡ TooLong → text ≡ too_long → f.faults_after ≡ f.faults → f.long_after ≡ raised f.long
      → (IsTrue f.told → (bytes : List ℕ) × (f.contents name ≡ Some bytes) × (limit < length bytes)) → IsUnbrought f name limit status text
