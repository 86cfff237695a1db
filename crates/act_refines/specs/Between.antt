-- How the machine stands between two acts: related to a state of the plan (docs/CODE.md, "What is proved").
use Rattle.std.specs.Prelude.{List, ◌≡◌, ℕ, ◌^◌, ◌<◌, ◌≤◌, ◌==◌, ◌⊎◌, ⊤, Bool, true, false, length, min, if◌then◌else◌}
use Rattle.devices.specs.Reading.{values_in}
use Rattle.task_ast.specs.declared.core_form.Core.{Core}
use Rattle.task_ast.specs.declared.core_form.CoreTask.{CoreTask}
use Rattle.walk_run.specs.Store.{Store}
use Rattle.word_isa.specs.declared.parts.Scheme.{Scheme}
use Rattle.word_isa.specs.declared.parts.Scheme.TheVariants.{Undo, Bank}
use Rattle.word_machine.specs.State.{Program}
use Rattle.word_machine.specs.Straight.{Spot}
use Rattle.run_plan.specs.Cells.{Cells, CellWrite, Frame, State, with_words, puts_home, puts_aside, puts_lock, puts_flag, puts_value, puts_stamp, puts_class, puts_to, puts_from, puts_length, puts_kept, puts_state}
use Rattle.run_plan.specs.Small.{Doing, core_of}
use Rattle.act_laws.specs.Codes.{Fixed, HasFixed}
use Rattle.cell_laws.specs.Standing.{HaveHomes, IsSite, Stands, worked}
use Rattle.ram_laws.specs.Ram.{AreWhole, HasConstants, RamStands}

-- ---- the fixed registers

-- where the committed bank lies
abbrev pub committed_at : Scheme → (bank : ℕ) → ℕ
committed_at Undo bank = 0
committed_at Bank bank = if bank == 0 then 0 else 2048

-- what the fixed registers have in a state
abbrev pub fixed_in : Scheme → State → Fixed
fixed_in scheme s = record { committed = committed_at scheme s.bank; epoch = s.epoch; working = worked scheme s.bank }

-- there is one bank, or two
abbrev pub IsBank : Scheme → (bank : ℕ) → Type 0
IsBank Undo bank = bank ≡ 0
IsBank Bank bank = (bank ≡ 0) ⊎ (bank ≡ 1)

-- ---- readings

-- the machine has the readings of the world, and its kept counts are those of the plan, up to the ends of the lists
pub record HasReadings (p : Program) (d : Doing) (counted issued : ℕ → ℕ) : Type 0 where
  pub values : (q : ℕ) → p.values q ≡ values_in d.setting.rules.world.feeds q
  pub counts : (q : ℕ) → counted q ≡ min (issued q) (length (p.values q))

-- ---- what the plan's own state keeps

-- each cell has a word of 32 bits
pub record AreWords (x : Cells) : Type 0 where
  pub value : (k : ℕ) → x.value k < 2 ^ 32
  pub stamp : (k : ℕ) → x.stamp k < 2 ^ 32
  pub kept : (n : ℕ) → x.kept n < 2 ^ 32

-- both areas of homes have as many words as are declared, each of 32 bits; no flag is of a later epoch, and none is 0
pub record IsTidy (c : Core) (scheme : Scheme) (s : State) : Type 0 where
  pub shape : HaveHomes c s
  pub homes : AreWhole c 14 s.store
  pub aside : AreWhole c 14 (with_words s.aside s.store)
  pub words : AreWords s.cells
  pub flags : (k : ℕ) → IsSite k → s.cells.flag k ≤ s.epoch
  pub started : 0 < s.epoch
  pub bank : IsBank scheme s.bank

-- ---- memory

-- RAM counts only once the attempt has begun
abbrev pub IfBegun : Bool → Type 0 → Type 0
IfBegun true claim = claim
IfBegun false claim = ⊤

-- memory and counts of issues stand for a state
pub record MemoryStands (p : Program) (d : Doing) (begun : Bool) (m counts : ℕ → ℕ) (s : State) : Type 0 where
  pub cells : Stands (core_of d) d.scheme d.setting.task m s
  pub constants : HasConstants (core_of d) m s.store
  pub ram : IfBegun begun (RamStands (core_of d) d.scheme m s)
  pub readings : HasReadings p d counts s.issued
  pub tidy : IsTidy (core_of d) d.scheme s

-- the machine is related to a state: its fixed registers are right, and its memory stands for the state
pub record AreRelated (p : Program) (d : Doing) (begun : Bool) (m : Spot) (s : State) : Type 0 where
  pub fixed : HasFixed (fixed_in d.scheme s) m
  pub memory : MemoryStands p d begun m.store m.issued s

-- ---- writes

-- the word that a write puts there is one of 32 bits, and a flag no later epoch
abbrev pub WordFits : State → CellWrite → Type 0
WordFits s (puts_home at w) = w < 2 ^ 32
WordFits s (puts_aside at w) = w < 2 ^ 32
WordFits s (puts_lock r e) = ⊤
WordFits s (puts_flag k e) = e ≤ s.epoch
WordFits s (puts_value k w) = w < 2 ^ 32
WordFits s (puts_stamp k t) = t < 2 ^ 32
WordFits s (puts_class k d) = ⊤
WordFits s (puts_to k at) = ⊤
WordFits s (puts_from k at) = ⊤
WordFits s (puts_length k n) = ⊤
WordFits s (puts_kept n w) = w < 2 ^ 32
WordFits s (puts_state e t b) = ⊥

-- a state with other frame, looks and issues
abbrev pub with_rest : Frame → (looks : List ℕ) → (issued : ℕ → ℕ) → State → State
with_rest frame looks issued s = record s { frame = frame; looks = looks; issued = issued }
