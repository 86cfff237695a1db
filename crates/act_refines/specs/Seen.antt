-- What is seen of a run: the words that are written in FRAM and the events, in one order for machine and plan.
use Rattle.std.specs.Prelude.{List, [], ◌∷◌, ◌++◌, ◌≡◌, ℕ, Option, Some, None}
use Rattle.devices.specs.Journal.{JournalEvent, Place, placed}
use Rattle.task_ast.specs.declared.core_form.Core.{Core}
use Rattle.word_isa.specs.declared.parts.Scheme.{Scheme}
use Rattle.word_machine.specs.Traces as trace
use Rattle.run_plan.specs.Cells.{CellWrite, State}
use Rattle.run_plan.specs.Small.{Atom, after_atom, after_shown}
use Rattle.cell_laws.specs.Standing.{address_of, word_of}

-- a word that was written at an address, or an event
pub data Seen : Type 0 where
  puts : (at word : ℕ) → Seen
  tells : JournalEvent → Seen

-- what a trace of the machine shows, with a copy's addresses told as places
abbrev pub trace_seen : (ℕ → Place) → List trace.Atom → List Seen
trace_seen place_of [] = []
trace_seen place_of (trace.wrote at word ∷ atoms) = puts at word ∷ trace_seen place_of atoms
trace_seen place_of (trace.showed e ∷ atoms) = tells (placed place_of e) ∷ trace_seen place_of atoms

-- what a write of a cell shows: the cell's word at the cell's address
abbrev pub write_seen : Core → Scheme → State → Option CellWrite → List Seen
write_seen c scheme s None = []
write_seen c scheme s (Some w) = puts (address_of c scheme s w) (word_of c scheme s w) ∷ []

abbrev pub event_seen : Option JournalEvent → List Seen
event_seen None = []
event_seen (Some e) = tells e ∷ []

-- what small steps show, one after another: of each its write, and then its event
abbrev pub steps_seen : Core → Scheme → List Atom → State → List Seen
steps_seen c scheme [] s = []
steps_seen c scheme (a ∷ atoms) s = write_seen c scheme (after_shown a.event s) a.write ++ event_seen a.event ++ steps_seen c scheme atoms (after_atom c a s)

-- and the state behind them
abbrev pub behind : Core → List Atom → State → State
behind c [] s = s
behind c (a ∷ atoms) s = behind c atoms (after_atom c a s)

-- ---- cuts

-- some of it, from the first on
pub record IsFront (some all : List Seen) : Type 0 where
  pub rest : List Seen
  pub joined : some ++ rest ≡ all

-- the addresses of the words that are seen, in order
abbrev pub addresses : List Seen → List ℕ
addresses [] = []
addresses (puts at word ∷ seen) = at ∷ addresses seen
addresses (tells e ∷ seen) = addresses seen

-- and those of the cells that small steps write
abbrev pub write_cells : Core → Scheme → State → Option CellWrite → List ℕ
write_cells c scheme s None = []
write_cells c scheme s (Some w) = address_of c scheme s w ∷ []

abbrev pub cells_written : Core → Scheme → List Atom → State → List ℕ
cells_written c scheme [] s = []
cells_written c scheme (a ∷ atoms) s = write_cells c scheme (after_shown a.event s) a.write ++ cells_written c scheme atoms (after_atom c a s)
