-- What a cabinet brought.
use Rattle.std.specs.Prelude.{◌≡◌, ℕ, ◌+◌, ◌<◌, Bool, IsTrue, List, length, take, Option, Some, None, Result, Ok, Err}
use Rattle.ease_base.specs.declared.error.FetchError.{FetchError}
use Rattle.ease_base.specs.declared.error.FetchError.TheVariants.{Failed, TooLong, NoMemory}
use Rattle.ease_base.specs.Count.{raised}

-- the contents of a cabinet by name; None is a name that isn't there
abbrev pub Contents : Type 0
Contents = List ℕ → Option (List ℕ)

-- told contents lack the name
abbrev pub Lacks : Bool → Contents → List ℕ → Type 0
Lacks told contents name = IsTrue told × (contents name ≡ None)

-- where contents are told, the bytes are those of the name
abbrev pub Brings : Bool → Contents → List ℕ → List ℕ → Type 0
Brings told contents name bytes = IsTrue told → contents name ≡ Some bytes

-- limit and one bytes, where contents are told the first of longer contents
abbrev pub BringsFront : Bool → Contents → List ℕ → ℕ → List ℕ → Type 0
BringsFront told contents name limit front =
    (length front ≡ limit + 1) × (IsTrue told → (bytes : List ℕ) × (contents name ≡ Some bytes) × (limit < length bytes) × (front ≡ take (limit + 1) bytes))

-- the count of long contents after an answer: each TooLong raises it, nothing else changes it
abbrev pub counted : ℕ → Result (Unit {0}) FetchError → ℕ
counted count (Err TooLong) = raised count
counted count (Err Failed) = count
counted count (Err NoMemory) = count
counted count (Ok done) = count
