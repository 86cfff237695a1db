-- The fixed registers, the commit, and the head (docs/CODE.md, "Boot").
use Rattle.std.specs.Prelude.{ℕ, zero, suc, ◌+◌, ◌-◌, ◌*◌, ◌/◌, nat_lt, cond, List, [], ◌∷◌, ◌++◌}
use Rattle.word_isa.specs.declared.instr.Instr.TheVariants.{Ldi, Lui, Mov, Add, Mul, Rem, Shl, Shr, Eq, Ltu, Adi, Ld, St, Jmp, Jz}
use Rattle.word_isa.specs.declared.mark.MarkKind.TheVariants as mark
use Rattle.line_code.specs.declared.line.Line.{Line}
use Rattle.line_code.specs.Lines.{bares, marked}
use Rattle.word_code.specs.Frames.{Frame, sign, stride}

-- the fixed registers from the state word: its lowest bit is the committed bank, the epoch begins at bit 8
abbrev pub fix_code : (stride : ℕ) → List Line
fix_code stride = bares (Ldi 0 0 ∷ Ldi 15 0 ∷ Lui 15 16 ∷ Ld 13 0 0 ∷ Mov 12 13 ∷ Ldi 1 2 ∷ Rem 12 1 ∷ Mov 14 12 ∷ Eq 14 0 ∷ Ldi 1 stride ∷ Mul 12 1 ∷ Mul 14 1 ∷ Ldi 1 8 ∷ Shr 13 1 ∷ [])

-- one write ends the instance: the next epoch and task, and the working bank
abbrev pub commit_code : Frame → (next : ℕ) → List Line
commit_code f t =
    bares (Mov 1 13 ∷ Adi 1 1 ∷ Ldi 2 8 ∷ Shl 1 2 ∷ Adi 1 (2 * t) ∷ Mov 2 14 ∷ Ldi 3 11 ∷ Shr 2 3 ∷ Add 1 2 ∷ [])
    ++ (marked (sign f mark.Commit t) (St 1 0 0) ∷ fix_code (stride f.scheme))

-- the boot stub of a task, and the halt where the program has stopped
abbrev pub boot_at : (tasks task : ℕ) → ℕ
boot_at tasks task = 20 + 5 * tasks + task

abbrev pub leaf_code : (tasks task : ℕ) → List Line
leaf_code tasks task = bares (Jmp (boot_at tasks task) ∷ [])

-- a tree of tests on register 1 over so many numbers from the first on, which goes to their boot stubs
abbrev pub tree_code : (tasks deep first count at : ℕ) → List Line
tree_code tasks zero first count at = leaf_code tasks first
tree_code tasks (suc deep) first count at =
    cond (nat_lt 1 count)
    (bares (Ldi 2 (first + count / 2 - 1) ∷ Ltu 2 1 ∷ Jz 2 1 ∷ Jmp (at + 5 * (count / 2)) ∷ [])
    ++ (tree_code tasks deep first (count / 2) (at + 4) ++ tree_code tasks deep (first + count / 2) (count - count / 2) (at + 5 * (count / 2))))
    (leaf_code tasks first)

-- the fixed registers, and the tree for the state word's task, from bit 1 to bit 7
abbrev pub head_code : (stride tasks : ℕ) → List Line
head_code stride tasks = fix_code stride ++ (bares (Ld 1 0 0 ∷ Ldi 2 256 ∷ Rem 1 2 ∷ Ldi 2 1 ∷ Shr 1 2 ∷ []) ++ tree_code tasks (tasks + 1) 0 (tasks + 1) 19)
