-- What the status must be, where nothing fails and the files are there.
use Rattle.std.specs.Prelude.{◌≡◌, ◌⊎◌, ℕ, ◌≤◌, Bool, IsTrue, List, [], ◌∷◌, length, Some}
use Rattle.command_line.specs.Form.{Form}
use Rattle.ease_base.specs.Cabinet.{Contents}
use Rattle.ease_base.specs.Count.{HasRisen}
use Rattle.ease_cli.specs.Answer.{AreRead, Reaches}
use Rattle.ease_cli.specs.Files.{Wanted, wanted, limit_of, Files, IsBrought}
use Rattle.ease_cli.specs.Inputs.{Input, refused_status, IsNoInput}
use Rattle.ease_cli.specs.Output.{IsOutput}
use Rattle.ease_cli.specs.declared.status.Status.{Status}
use Rattle.ease_cli.specs.declared.status.Status.TheVariants.{NoMemory}

-- told contents have each of the files, and none is too long
abbrev pub AreThere : Contents → List Wanted → Type 0
AreThere contents [] = Unit {0}
AreThere contents (at ∷ rest) = ((bytes : List ℕ) × (contents at.name ≡ Some bytes) × (length bytes ≤ limit_of at.kind)) × AreThere contents rest

-- Nothing keeps the files from being read: no fetch failed, and told contents have them all, none too long; where
-- contents aren't told, no file was too long.
pub record CanBeRead (c : Form) (f : Files) : Type 0 where
  pub steady : HasRisen f.faults f.faults_after → ⊥
  pub there : IsTrue f.told → AreThere f.contents (wanted c)
  pub short : IsTrue f.told ⊎ (HasRisen f.long f.long_after → ⊥)

-- The status: that of the output where all files are accepted, else that of the first that isn't.
pub data Settles (c : Form) (f : Files) (status : Status) : Type 0 where
  accepted : (inputs : List Input) (text : List ℕ) → AreRead f [] (wanted c) inputs → IsOutput c inputs status text → Settles c f status
  refused : (at : Wanted) (before : List Input) (bytes : List ℕ) → Reaches f c at before → IsBrought f at.name (limit_of at.kind) bytes
      → IsNoInput at.kind before bytes → status ≡ refused_status at.kind → Settles c f status
  no_memory : status ≡ NoMemory → Settles c f status
