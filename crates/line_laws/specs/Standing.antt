-- Lines of code that stand in a machine's program.
use Rattle.std.specs.Prelude.{◌≡◌, ℕ, ◌+◌, List, [], ◌∷◌, ◌++◌, length, Option, Some, None}
use Rattle.std.proofs.Common.{arith}
use native.Mathlib.Nat.{add-zero}
use Rattle.word_isa.specs.declared.instr.Instr.{Instr}
use Rattle.word_machine.specs.State.{Program}
use Rattle.word_machine.specs.Straight.{Stand}
use Rattle.line_code.specs.declared.line.Line.{Line}
use Rattle.line_code.specs.declared.line.Sign.{Sign}

-- this instruction stands at an address, with the mark of a sign
pub record Marked (p : Program) (at : ℕ) (i : Instr) (sign : Sign) : Type 0 where
  pub instr : p.instr at ≡ Some i
  pub mark : p.mark at ≡ Some (record { kind = sign.kind; site = sign.site })

-- so it does, or without a mark
abbrev pub StandsWith : Program → (at : ℕ) → Instr → Option Sign → Type 0
StandsWith p at i None = Stand p at i
StandsWith p at i (Some sign) = Marked p at i sign

-- these lines stand from an address on
abbrev pub Lie : Program → (at : ℕ) → List Line → Type 0
Lie p at [] = Unit {0}
Lie p at (l ∷ ls) = StandsWith p at l.instr l.sign × Lie p (at + 1) ls

-- the instructions of lines
abbrev pub instrs : List Line → List Instr
instrs [] = []
instrs (l ∷ ls) = l.instr ∷ instrs ls

-- lines in front of others, and behind them
pub lie_front : (p : Program) (at : ℕ) (a b : List Line) → Lie p at (a ++ b) → Lie p at a
lie_front p at [] b h = tt
lie_front p at (l ∷ a) b h = (h.0, lie_front p (at + 1) a b h.1)

pub lie_behind : (p : Program) (at : ℕ) (a b : List Line) (n : ℕ) → Lie p at (a ++ b) → n ≡ at + length a → Lie p n b
lie_behind p at [] b n h e = rw (e, add-zero) h
lie_behind p at (l ∷ a) b n h e = lie_behind p (at + 1) a b n h.1 (omega arith)
