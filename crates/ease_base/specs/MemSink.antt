-- A sink in memory as contracts see it, and what a write leaves of it.
use Rattle.std.specs.Prelude.{◌⊎◌, ℕ, ◌-◌, ◌≤◌, IsTrue, List, ◌++◌, length, take, min}
use Rattle.ease_base.specs.Calls.{fails_next}
use Rattle.ease_base.specs.Count.{raised}

-- the bytes taken, how many may be taken in all, the calls that are to fail, and two counts: of calls, of faults
pub record Tape : Type 0 where
  pub taken : List ℕ
  pub room : ℕ
  pub fails : List ℕ
  pub calls : ℕ
  pub faults : ℕ

-- the next write fails: it is to fail, or no room is left
abbrev pub Fails : Tape → Type 0
Fails tape = IsTrue (fails_next tape.fails tape.calls) ⊎ (tape.room ≤ length tape.taken)

-- how many bytes of a piece there is room for
abbrev pub taken_count : Tape → List ℕ → ℕ
taken_count tape piece = min (length piece) (tape.room - length tape.taken)

-- after a write that took n bytes of the piece: one call more
abbrev pub written : Tape → List ℕ → ℕ → Tape
written tape piece n = record tape { taken = tape.taken ++ take n piece; calls = raised tape.calls }

-- after a write that failed: one call and one fault more
abbrev pub refused : Tape → Tape
refused tape = record tape { calls = raised tape.calls; faults = raised tape.faults }
