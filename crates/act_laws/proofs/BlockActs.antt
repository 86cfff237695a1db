-- Acts over a list of fixed blocks: restoring and saving.
use Rattle.std.specs.Prelude.{◌==◌, if◌then◌else◌, not}
use Rattle.std.proofs.Common.{◌≡◌, ℕ, ◌+◌, ◌≤◌, Bool, true, false, List, [], ◌∷◌, ◌++◌, length, refl, subst, append-nil, length-append, arith}
use native.Mathlib.Nat.{add-zero}
use Rattle.fram_ram.specs.Memories.{has_word, put}
use Rattle.word_isa.specs.declared.instr.Instr.TheVariants.{Eq, Ld, Jmp, Jz}
use Rattle.word_machine.specs.State.{Program}
use Rattle.word_machine.specs.Straight.{Spot}
use Rattle.line_code.specs.declared.line.Line.{Line}
use Rattle.line_code.specs.Lines.{bares}
use Rattle.word_code.specs.Acts.{jump}
use Rattle.line_laws.specs.Standing.{Lie, lie_front, lie_behind}
use Rattle.act_laws.specs.Codes.{HasFixed, Fixed, top, End, Acts, FramCell, after_code, ready, code_atoms}
use Rattle.act_laws.specs.Blocks.{Block, list_code, list_makes, list_atoms, AllGood, Copy, GoodCopy, copies, Home, homes, Start, GoodStart, starts, GoodPointer, pointers}
use Rattle.act_laws.specs.Templates.{copied_end}
use Rattle.act_laws.specs.CodeLaws.{line_acts, flow_acts, acts_then, acts_none, when_acts, from_end}

-- the code of saving and restoring, by the words that go aside and back
abbrev pub save_lines : (lock : ℕ) → List Copy → (next : ℕ) → List Line
save_lines lock cs next = bares (Ld 1 0 lock ∷ Eq 1 13 ∷ Jz 1 1 ∷ Jmp next ∷ []) ++ (list_code copies cs ++ jump next)

abbrev pub restore_lines : (lock : ℕ) → List Copy → (next : ℕ) → List Line
restore_lines lock cs next = bares (Ld 1 0 lock ∷ Eq 1 13 ∷ Eq 1 0 ∷ Jz 1 1 ∷ Jmp next ∷ []) ++ (list_code copies cs ++ jump next)

-- what a block's code makes
abbrev pub block_end : (b : Block) → b.Item → Spot → End
block_end b i s = record { pc = s.pc + length (bares (b.code i)); store = b.makes i s.store; issued = s.issued; atoms = b.atoms i s.store }

abbrev pub list_end : (b : Block) → List b.Item → Spot → End
list_end b is s = record { pc = s.pc + length (list_code b is); store = list_makes b is s.store; issued = s.issued; atoms = list_atoms b is s.store }

-- what each block does, their list does
pub list_acts : (p : Program) (x : Fixed) (b : Block) (is : List b.Item) (s : Spot)
    → ((i : b.Item) (t : Spot) → b.Good i → Lie p t.pc (bares (b.code i)) → Acts p x (length (bares (b.code i))) (top x t) (block_end b i t))
    → AllGood b is → Lie p s.pc (list_code b is) → Acts p x (length (list_code b is)) (top x s) (list_end b is s)
list_acts p x b [] s law good has = rw (add-zero) (acts_none p x 0 s)
list_acts p x b (i ∷ is) s law good has =
    let e : End = block_end b i s in
    let n : length (bares (b.code i) ++ list_code b is) ≡ length (bares (b.code i)) + length (list_code b is) = length-append (bares (b.code i)) (list_code b is) in
    let pc_is : s.pc + length (bares (b.code i)) + length (list_code b is) ≡ s.pc + length (bares (b.code i) ++ list_code b is) = omega (arith, n) in
    let f : End = record (list_end b is (from_end x e s.regs s.clock)) { pc = s.pc + length (bares (b.code i) ++ list_code b is) } in
    acts_then p x x (length (bares (b.code i))) (length (list_code b is)) _ (top x s) e f _
    (law i s good.0 (lie_front p s.pc (bares (b.code i)) (list_code b is) has))
    (λ regs clock. subst (λ pc. Acts p x (length (list_code b is)) (from_end x e regs clock) (record f { pc = pc })) pc_is
    (list_acts p x b is (record { pc = e.pc; regs = regs; store = e.store; clock = clock; issued = e.issued }) law good.1 (lie_behind p s.pc (bares (b.code i)) (list_code b is) (s.pc + length (bares (b.code i))) has refl)))
    (omega (arith, n)) refl

-- a jump behind a piece
pub acts_jump : (p : Program) (x : Fixed) (n most next : ℕ) (s : Spot) (e : End) → Acts p x n s e → Lie p e.pc (jump next) → n + 1 ≤ most → Acts p x most s (record e { pc = next })
acts_jump p x n most next s e a has few =
    acts_then p x x n 1 most s e (record e { pc = next; atoms = [] }) e.atoms a
    (λ regs clock. line_acts p x 1 [] next (from_end x e regs clock) _ has refl (refl, refl, refl, refl, refl) refl refl refl refl (omega arith)) few (append-nil e.atoms)

-- the blocks
pub copy_acts : (p : Program) (x : Fixed) (c : Copy) (s : Spot) → GoodCopy c → Lie p s.pc (bares (copies.code c)) → Acts p x 2 (top x s) (block_end copies c s)
unfolding has_word
copy_acts p x c s good has =
    flow_acts p x 2 (bares (copies.code c)) (top x s) _ has (rw (good.from.wraps, good.to.wraps, good.from.fram, good.to.fram)) (refl, refl, refl, refl, refl) refl (rw (good.from.wraps, good.to.wraps)) refl (rw (good.from.wraps, good.to.wraps, good.to.fram)) (omega arith)

pub home_acts : (p : Program) (x : Fixed) (h : Home x.committed x.working) (s : Spot) → Lie p s.pc (bares ((homes x.committed x.working).code h)) → Acts p x 2 (top x s) (block_end (homes x.committed x.working) h s)
unfolding has_word
home_acts p x h s has =
    flow_acts p x 2 (bares ((homes x.committed x.working).code h)) (top x s) _ has (rw (h.is_from.wraps, h.is_to.wraps, h.is_from.fram, h.is_to.fram)) (refl, refl, refl, refl, refl) refl (rw (h.is_from.wraps, h.is_to.wraps)) refl (rw (h.is_from.wraps, h.is_to.wraps, h.is_to.fram)) (omega arith)

pub start_acts : (p : Program) (x : Fixed) (v : Start) (s : Spot) → GoodStart v → Lie p s.pc (bares (starts.code v)) → Acts p x 3 (top x s) (block_end starts v s)
unfolding has_word
start_acts p x v s good has =
    flow_acts p x 3 (bares (starts.code v)) (top x s) _ has (rw (good.cell.wraps, good.cell.apart, good.cell.ram)) (refl, refl, refl, refl, refl) refl (rw (good.cell.wraps, good.number)) refl (rw (good.cell.wraps, good.cell.apart)) (omega arith)

pub pointer_acts : (p : Program) (x : Fixed) (at : ℕ) (s : Spot) → GoodPointer at → Lie p s.pc (bares (pointers.code at)) → Acts p x 2 (top x s) (block_end pointers at s)
unfolding has_word
pointer_acts p x at s good has =
    flow_acts p x 2 (bares (pointers.code at)) (top x s) _ has (rw (good.address.wraps, good.room.wraps, good.address.apart, good.address.ram, good.room.apart, good.room.ram)) (refl, refl, refl, refl, refl) refl
    (rw (good.address.wraps, good.room.wraps)) refl (rw (good.address.wraps, good.room.wraps, good.address.apart, good.room.apart)) (omega arith)

-- the words of a region, and the jump behind them
copies_done : (p : Program) (x : Fixed) (cs : List Copy) (next : ℕ) (s : Spot) → AllGood copies cs → Lie p s.pc (list_code copies cs ++ jump next)
    → Acts p x (length (list_code copies cs) + 1) (top x s) (copied_end next cs true s)
copies_done p x cs next s good has =
    acts_jump p x (length (list_code copies cs)) _ next (top x s) (list_end copies cs s)
    (list_acts p x copies cs s (λ c t g h. copy_acts p x c t g h) good (lie_front p s.pc (list_code copies cs) (jump next) has))
    (lie_behind p s.pc (list_code copies cs) (jump next) _ has refl) (omega arith)

bit_is_zero : (b : Bool) → ((if b then 1 else 0) == 0) ≡ not b
bit_is_zero true = refl
bit_is_zero false = refl

twice_zero : (b : Bool) → ((if (if b then 1 else 0) == 0 then 1 else 0) == 0) ≡ not (not b)
twice_zero true = refl
twice_zero false = refl

twice : (b : Bool) → not (not b) ≡ b
twice true = refl
twice false = refl

-- a test that jumps over them to the next act
tested_copies : (p : Program) (x : Fixed) (test : List Line) (cs : List Copy) (next most : ℕ) (s : Spot) (skips : Bool) → AllGood copies cs
    → Lie p s.pc (test ++ bares (Jz 1 1 ∷ Jmp next ∷ [])) → Lie p (s.pc + length test + 2) (list_code copies cs ++ jump next)
    → ready p test (top x s) ≡ true → HasFixed x (after_code p test (top x s)) → ((after_code p test (top x s)).regs 1 == 0) ≡ not skips
    → (after_code p test (top x s)).store ≡ s.store → (after_code p test (top x s)).issued ≡ s.issued → code_atoms p test (top x s) ≡ [] → length test + 3 + length (list_code copies cs) ≤ most
    → Acts p x most (top x s) (copied_end next cs (not skips) s)
tested_copies p x test cs next most s true good has body ok fixed is stored counts quiet few =
    when_acts p x most test 1 next (top x s) (copied_end next cs false s) false has ok fixed is refl stored counts quiet (omega (arith, few))
tested_copies p x test cs next most s false good has body ok fixed is stored counts quiet few =
    acts_then p x x (length test + 2) (length (list_code copies cs) + 1) most (top x s) (record { pc = s.pc + length test + 2; store = s.store; issued = s.issued; atoms = [] }) (copied_end next cs true s) _
    (when_acts p x (length test + 2) test 1 next (top x s) _ true has ok fixed is refl stored counts quiet (omega arith))
    (λ regs clock. copies_done p x cs next (record { pc = s.pc + length test + 2; regs = regs; store = s.store; clock = clock; issued = s.issued }) good body)
    (omega (arith, few)) refl

pub save_acts : (p : Program) (x : Fixed) (lock : ℕ) (cs : List Copy) (next : ℕ) (s : Spot) (held : Bool) → (s.store lock == x.epoch) ≡ held → FramCell lock → AllGood copies cs → Lie p s.pc (save_lines lock cs next)
    → Acts p x (length (list_code copies cs) + 5) (top x s) (copied_end next cs (not held) s)
unfolding has_word
save_acts p x lock cs next s held is c good has =
    let head : List Line = bares (Ld 1 0 lock ∷ Eq 1 13 ∷ Jz 1 1 ∷ Jmp next ∷ []) in
    tested_copies p x (bares (Ld 1 0 lock ∷ Eq 1 13 ∷ [])) cs next _ s held good (lie_front p s.pc head (list_code copies cs ++ jump next) has) (lie_behind p s.pc head (list_code copies cs ++ jump next) _ has (omega arith))
    (rw (c.wraps, c.fram)) (refl, refl, refl, refl, refl) (rw (c.wraps, is) (bit_is_zero held)) refl refl refl (omega arith)

pub restore_acts : (p : Program) (x : Fixed) (lock : ℕ) (cs : List Copy) (next : ℕ) (s : Spot) (held : Bool) → (s.store lock == x.epoch) ≡ held → FramCell lock → AllGood copies cs → Lie p s.pc (restore_lines lock cs next)
    → Acts p x (length (list_code copies cs) + 6) (top x s) (copied_end next cs held s)
unfolding has_word
restore_acts p x lock cs next s held is c good has =
    let head : List Line = bares (Ld 1 0 lock ∷ Eq 1 13 ∷ Eq 1 0 ∷ Jz 1 1 ∷ Jmp next ∷ []) in
    subst (λ b. Acts p x (length (list_code copies cs) + 6) (top x s) (copied_end next cs b s)) (twice held)
    (tested_copies p x (bares (Ld 1 0 lock ∷ Eq 1 13 ∷ Eq 1 0 ∷ [])) cs next (length (list_code copies cs) + 6) s (not held) good (lie_front p s.pc head (list_code copies cs ++ jump next) has) (lie_behind p s.pc head (list_code copies cs ++ jump next) _ has (omega arith))
    (rw (c.wraps, c.fram)) (refl, refl, refl, refl, refl) (rw (c.wraps, is) (twice_zero held)) refl refl refl (omega arith))
