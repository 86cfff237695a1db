-- Where the words of a program lie, and what that is good for (docs/CODE.md, "Memory").
use Rattle.std.specs.Prelude.{◌≡◌, ℕ, ◌+◌, ◌-◌, ◌<◌, ◌≤◌, ◌==◌, true, false, length, if◌then◌else◌}
use Rattle.task_ast.specs.declared.core_form.Core.{Core}
use Rattle.task_ast.specs.declared.core_form.CoreStmt.{CoreStmt}
use Rattle.task_ast.specs.declared.core_form.CoreTask.{CoreTask}
use Rattle.task_ast.specs.Pointing.{addresses, pointing}
use Rattle.fram_ram.specs.Memories.{has_word}
use Rattle.io_flow.specs.Written.{AllWithin, Covers}
use Rattle.walk_run.specs.Plain.{plain_done}
use Rattle.walk_run.specs.PlainSteps.{plain_steps}
use Rattle.walk_run.specs.PlainWrites.{plain_writes}
use Rattle.walk_run.specs.Store.{Store}
use Rattle.word_machine.specs.State.{Program}
use Rattle.word_machine.specs.Straight.{Spot}
use Rattle.line_code.specs.Areas.{areas_from, free_at_first}
use Rattle.line_code.specs.Sizes.{statement_size}
use Rattle.line_code.specs.Statements.{statement_code}
use Rattle.line_laws.specs.Gives.{Gives}
use Rattle.line_laws.specs.Goals.{run_goal}
use Rattle.line_laws.specs.Relation.{Layout, Related, base_at, is_cell, place_address, room_at}
use Rattle.line_laws.specs.Standing.{Lie}

-- the arrays of a program as they lie, over the bank at this offset
abbrev pub layout_of : Core → (bank : ℕ) → Layout
layout_of c bank = record { areas = areas_from free_at_first c.arrays; bank = bank }

-- an address that a memory has, and that isn't a cell of the code
pub record IsOwn (a : ℕ) : Type 0 where
  pub there : has_word a ≡ true
  pub apart : is_cell a ≡ false

-- so is that of each place
abbrev pub HasOwnPlaces : Layout → Type 0
HasOwnPlaces l = (array i : ℕ) → i < room_at l array → IsOwn (place_address l array i)

-- where the area of the arrays begins that count from a register: homes behind the bank's offset, volatile words, constants
abbrev pub area_from : (bank register : ℕ) → ℕ
area_from bank r = if r == 14 then bank + 1 else if r == 15 then 1049408 else 4097

-- a place lies in the area of its array, which has room for 2048 words
pub record IsInArea (bank register a : ℕ) : Type 0 where
  pub from : area_from bank register ≤ a
  pub below : a < area_from bank register + 2048

abbrev pub LieInAreas : Layout → Type 0
LieInAreas l = (array i : ℕ) → i < room_at l array → IsInArea l.bank (base_at l array) (place_address l array i)

-- The code of a statement without sites, wherever it stands: from memory related to a store it shows the statement's writes of
-- FRAM in order, and comes behind itself with memory related to the store that the statement leaves, or to its trap, in time.
abbrev pub StatementWorks : Program → Core → (bank : ℕ) → CoreTask → CoreStmt → Type 0
StatementWorks p c bank t s = (m : Spot) (store : Store) → Lie p m.pc (statement_code (areas_from free_at_first c.arrays) s m.pc) → Related (layout_of c bank) (length c.pointers) m store
    → Covers (pointing t) (λ q. addresses q s) → AllWithin (pointing t) store
    → Gives p 0 (plain_steps s store - 1) m (run_goal (layout_of c bank) (length c.pointers) (m.pc + statement_size s) (plain_writes s store) (plain_done s store))
