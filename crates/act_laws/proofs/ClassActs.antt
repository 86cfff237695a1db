-- Blocks that are left, the class of a copy, and the lists that go by it.
use Rattle.act_laws.specs.Templates.{LeaveDoes, ByClassDoes}
use Rattle.act_laws.specs.Words.{mode_word, is_keep, class_of, class_in}
use Rattle.std.specs.Prelude.{◌==◌, if◌then◌else◌, nat_lt, ◌-◌, bit_and, not}
use Rattle.std.proofs.Common.{◌≡◌, ℕ, ◌+◌, ◌*◌, ◌%◌, ◌^◌, ◌<◌, ◌≤◌, Bool, true, false, List, [], ◌∷◌, ◌++◌, refl, subst, arith}
use Rattle.fram_ram.specs.Memories.{has_word, put}
use Rattle.io_annot.specs.declared.choice.Mode.{Mode}
use Rattle.io_annot.specs.declared.choice.Mode.TheVariants.{Own, Keep, Force}
use Rattle.word_isa.specs.declared.instr.Instr.TheVariants.{Ldi, Eq, St}
use Rattle.word_machine.specs.State.{Program}
use Rattle.word_machine.specs.Straight.{Spot}
use Rattle.line_code.specs.Lines.{bares}
use Rattle.word_code.specs.Acts.{jump}
use Rattle.word_code.specs.Frames.{value_at, outer_at}
use Rattle.word_code.specs.Tables.{leave_code, branch, class_code, class_load, class_test}
use Rattle.line_laws.specs.Standing.{Lie, lie_front, lie_behind}
use Rattle.act_laws.specs.Codes.{Fixed, top, End, Acts, FramCell, RamCell}
use Rattle.act_laws.specs.CodeLaws.{line_acts, acts_most, acts_then, branch_acts, fork_acts, from_end, fram_cell, ram_cell}

keep_is : (m : Mode) → ((if 1 == mode_word m then 1 else 0) == 0) ≡ not (is_keep m)
keep_is Own = refl
keep_is Keep = refl
keep_is Force = refl

-- a block is left: its record is made anew where it kept nothing
pub leave_acts : (p : Program) (x : Fixed) (k next acts : ℕ) (s : Spot) (m : Mode) → LeaveDoes p x k next acts s m
unfolding has_word
leave_acts p x k next acts s m low mode at =
    let o : RamCell (outer_at k) = ram_cell (outer_at k) (omega (arith, low)) in
    fork_acts p x 7 (leave_code k) 1 next acts (top x s) _ (not (is_keep m)) at (rw (o.wraps, o.apart, o.ram)) (refl, refl, refl, refl, refl) (rw (mode) (keep_is m)) refl (rw o.wraps) refl refl (omega arith)

abbrev class_word : (single private : Bool) → ℕ
class_word a b =
    (((if a then 1 else 0) + bit_and (if b then 1 else 0) (if (if a then 1 else 0) == 0 then 1 else 0)) % 2 ^ 32 + bit_and (if b then 1 else 0) (if (if a then 1 else 0) == 0 then 1 else 0)) % 2 ^ 32

class_is : (a b : Bool) → class_word a b ≡ class_of a b
class_is true true = refl
class_is true false = refl
class_is false true = refl
class_is false false = refl

pub class_acts : (p : Program) (x : Fixed) (next : ℕ) (s : Spot) (single private : Bool) → nat_lt (s.store 1048616) 1048576 ≡ single → nat_lt (s.store 1048618) 4097 ≡ private
    → Lie p s.pc ((class_code ++ bares (St 1 15 45 ∷ [])) ++ jump next)
    → Acts p x 12 (top x s) (record { pc = next; store = put s.store 1048621 (class_of single private); issued = s.issued; atoms = [] })
unfolding has_word
class_acts p x next s a b is_a is_b at =
    line_acts p x 12 (class_code ++ bares (St 1 15 45 ∷ [])) next (top x s) _ at refl (refl, refl, refl, refl, refl) refl (rw (is_a, is_b, class_is a b)) refl refl (omega arith)

bit_is_zero : (b : Bool) → ((if b then 1 else 0) == 0) ≡ not b
bit_is_zero true = refl
bit_is_zero false = refl

-- one test of it
one_test : (keeps : Bool) (p : Program) (x : Fixed) (k number to other : ℕ) (b : Bool) (t : Spot) → k ≤ 128 → (class_in keeps k t.store == number) ≡ b → Lie p t.pc (class_test keeps k number to other)
    → Acts p x 5 (top x t) (record { pc = if not b then other else to; store = t.store; issued = t.issued; atoms = [] })
unfolding has_word
one_test false p x k number to other b t low is at = branch_acts p x 5 (bares (class_load false k ∷ Ldi 2 number ∷ Eq 1 2 ∷ [])) 1 to other (top x t) (not b) at refl (refl, refl, refl, refl, refl) (rw is (bit_is_zero b)) refl refl refl (omega arith)
one_test true p x k number to other b t low is at =
    let c : FramCell (value_at k) = fram_cell (value_at k) (omega (arith, low)) in
    branch_acts p x 5 (bares (class_load true k ∷ Ldi 2 number ∷ Eq 1 2 ∷ [])) 1 to other (top x t) (not b) at (rw (c.wraps, c.fram)) (refl, refl, refl, refl, refl) (rw (c.wraps, is) (bit_is_zero b)) refl refl refl (omega arith)

one_of : (b : Bool) (first second : ℕ) → ◌≡◌ {A = ℕ} (if not b then second else first) (if b then first else second)
one_of true first second = refl
one_of false first second = refl

-- one of three lists
pub by_class_acts : (keeps one two : Bool) (p : Program) (x : Fixed) (k single private rest : ℕ) (s : Spot) → ByClassDoes keeps one two p x k single private rest s
by_class_acts keeps true two p x k single private rest s low is_one is_two at =
    acts_most p x 5 10 (top x s) _ (one_test keeps p x k 1 single (s.pc + 6) true s low is_one (lie_front p s.pc (class_test keeps k 1 single (s.pc + 6)) (class_test keeps k 2 private rest) at)) (omega arith)
by_class_acts keeps false two p x k single private rest s low is_one is_two at =
    let e : End = record { pc = s.pc + 6; store = s.store; issued = s.issued; atoms = [] } in
    acts_then p x x 5 5 10 (top x s) e (record { pc = if two then private else rest; store = s.store; issued = s.issued; atoms = [] }) []
    (one_test keeps p x k 1 single (s.pc + 6) false s low is_one (lie_front p s.pc (class_test keeps k 1 single (s.pc + 6)) (class_test keeps k 2 private rest) at))
    (λ regs clock. subst (λ pc. Acts p x 5 (from_end x e regs clock) (record { pc = pc; store = s.store; issued = s.issued; atoms = [] })) (one_of two private rest)
    (one_test keeps p x k 2 private rest two (record { pc = s.pc + 6; regs = regs; store = s.store; clock = clock; issued = s.issued }) low is_two
    (lie_behind p s.pc (class_test keeps k 1 single (s.pc + 6)) (class_test keeps k 2 private rest) (s.pc + 6) at refl)))
    (omega arith) refl
