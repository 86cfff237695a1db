-- Where a word's code leads: behind it with the word in register 1, or to the word's trap.
use Rattle.std.specs.Prelude.{◌≡◌, ℕ, ◌+◌, ◌^◌, ◌<◌, ◌≤◌, Bool, true, false, ◌==◌, ◌&&◌, nat_lt, nat_le, List, [], ◌∷◌, Result, Ok, Err}
use Rattle.std.proofs.Common.{◌∙◌}
use Rattle.word_isa.specs.declared.instr.Instr.{Instr}
use Rattle.word_isa.specs.declared.instr.Instr.TheVariants.{Halt, Ldi, Lui, Mov, Add, Sub, Mul, Div, Rem, And, Or, Xor, Shl, Shr, Eq, Ltu, Adi, Ld, St, Jmp, Jz, Io, Time, Dma, Trap}
use Rattle.walk_run.specs.Trap.{code_of}
use Rattle.walk_run.specs.declared.trap.Trap as walked
use Rattle.word_machine.specs.State.{Program, State}
use Rattle.word_machine.specs.Step.{exec}
use Rattle.word_machine.specs.Straight.{Spot, live}
use Rattle.word_machine.specs.Traces.{Atom, trace}
use Rattle.word_machine.specs.declared.ending.Ending.TheVariants.{Trapped}

-- a register that no expression changes
pub record IsKept (r : ℕ) : Type 0 where
  pub one : (1 == r) ≡ false
  pub two : (2 == r) ≡ false
  pub three : (3 == r) ≡ false

-- the cell for words in between, of 32, from this depth on
abbrev pub is_temp : (d a : ℕ) → Bool
is_temp d a = nat_le (1048576 + d) a && nat_lt a 1048608

-- of two places in a run: the later one has what the earlier one has, but for registers 1 to 3 and cells from a depth on
pub record Same (d : ℕ) (s t : Spot) : Type 0 where
  pub fixed : (r : ℕ) → IsKept r → t.regs r ≡ s.regs r
  pub kept : (a : ℕ) → is_temp d a ≡ false → t.store a ≡ s.store a

pub same_then : (d : ℕ) (s t u : Spot) → Same d s t → Same d t u → Same d s u
same_then d s t u a b = record { fixed = λ r h. b.fixed r h ∙ a.fixed r h; kept = λ x h. b.kept x h ∙ a.kept x h }

-- what a piece of code is to come to, told from where it starts: the machine then, and what was seen;
-- a change of registers 1 to 3 and of deeper cells before the start makes no difference
pub record Goal (d : ℕ) : Type 1 where
  pub met : Spot → State → List Atom → Type 0
  pub back : (s t : Spot) (u : State) (atoms : List Atom) → Same d s t → met t u atoms → met s u atoms

-- within so many steps the machine comes to a goal
pub record Gives (p : Program) (d most : ℕ) (s : Spot) (q : Goal d) : Type 0 where
  pub steps : ℕ
  pub few : steps ≤ most
  pub there : State
  pub atoms : List Atom
  pub runs : exec p steps (live s) ≡ there
  pub shows : trace p steps (live s) ≡ atoms
  pub met : q.met s there atoms

-- a word in register 1 at an address, with nothing seen
pub record HasWord (d pc word : ℕ) (s : Spot) (u : State) (atoms : List Atom) : Type 0 where
  pub there : Spot
  pub goes_on : u ≡ live there
  pub at : there.pc ≡ pc
  pub has : there.regs 1 ≡ word
  pub fits : word < 2 ^ 32
  pub same : Same d s there
  pub quiet : atoms ≡ []

-- a trap, with nothing seen
pub record HasTrapped (code : ℕ) (u : State) (atoms : List Atom) : Type 0 where
  pub ended : u.ending ≡ Trapped code
  pub quiet : atoms ≡ []

-- what a value says: the word at an address, or the trap
abbrev pub word_met : (d pc : ℕ) → Result ℕ walked.Trap → Spot → State → List Atom → Type 0
word_met d pc (Ok word) s u atoms = HasWord d pc word s u atoms
word_met d pc (Err why) s u atoms = HasTrapped (code_of why) u atoms

pub word_back : (d pc : ℕ) (r : Result ℕ walked.Trap) (s t : Spot) (u : State) (atoms : List Atom) → Same d s t → word_met d pc r t u atoms → word_met d pc r s u atoms
word_back d pc (Ok word) s t u atoms same h = record { there = h.there; goes_on = h.goes_on; at = h.at; has = h.has; fits = h.fits; same = same_then d s t h.there same h.same; quiet = h.quiet }
word_back d pc (Err why) s t u atoms same h = h

abbrev pub word_goal : (d pc : ℕ) → Result ℕ walked.Trap → Goal d
word_goal d pc r = record { met = λ s u atoms. word_met d pc r s u atoms; back = λ s t u atoms same h. word_back d pc r s t u atoms same h }

-- a goal that a trap meets
abbrev pub IsMetByTrap : {d : ℕ} → Goal d → ℕ → Type 0
IsMetByTrap q code = (s : Spot) (u : State) (atoms : List Atom) → HasTrapped code u atoms → q.met s u atoms

-- an instruction that changes one of registers 1 to 3 alone, and never traps
abbrev pub is_scratch : ℕ → Bool
is_scratch r = nat_le 1 r && nat_le r 3

abbrev pub is_own : Instr → Bool
is_own Halt = false
is_own (Ldi a m) = is_scratch a
is_own (Lui a m) = is_scratch a
is_own (Mov a b) = is_scratch a
is_own (Add a b) = is_scratch a
is_own (Sub a b) = is_scratch a
is_own (Mul a b) = is_scratch a
is_own (Div a b) = false
is_own (Rem a b) = false
is_own (And a b) = is_scratch a
is_own (Or a b) = is_scratch a
is_own (Xor a b) = is_scratch a
is_own (Shl a b) = is_scratch a
is_own (Shr a b) = is_scratch a
is_own (Eq a b) = is_scratch a
is_own (Ltu a b) = is_scratch a
is_own (Adi a m) = is_scratch a
is_own (Ld a b m) = false
is_own (St a b m) = false
is_own (Jmp t) = false
is_own (Jz a m) = false
is_own (Io a b m) = false
is_own (Time a) = false
is_own (Dma a b m) = false
is_own (Trap m) = false

abbrev pub all_own : List Instr → Bool
all_own [] = true
all_own (i ∷ is) = is_own i && all_own is
