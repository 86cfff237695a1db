-- The code of acts that jump nowhere but to the next act (docs/CODE.md, "Acts").
use Rattle.std.specs.Prelude.{ℕ, ◌+◌, ◌*◌, List, [], ◌∷◌, ◌++◌, Option, Some, length}
use Rattle.task_ast.specs.declared.core_form.CoreStmt.{CoreStmt}
use Rattle.task_ast.specs.declared.core_form.CoreStmt.TheVariants as stmt
use Rattle.task_ast.specs.declared.core_form.Site.{Site}
use Rattle.task_ast.specs.declared.core_form.Site.TheVariants as site
use Rattle.word_isa.specs.declared.instr.Instr.{Instr}
use Rattle.word_isa.specs.declared.instr.Instr.TheVariants.{Mov, Ld, St, Ldi, Jmp, Io, Time, Dma}
use Rattle.word_isa.specs.declared.mark.MarkKind.TheVariants as mark
use Rattle.line_code.specs.declared.line.Line.{Line}
use Rattle.line_code.specs.Lines.{bares, marked}
use Rattle.run_plan.specs.declared.act.Leg.{Leg}
use Rattle.run_plan.specs.declared.act.Leg.TheVariants.{Across, ToKept, FromKept}
use Rattle.word_code.specs.Repeats.{each}
use Rattle.word_code.specs.Frames.{Frame, flag_at, stamp_at, value_at, ends_at, lock_at, begun_at, kept_at, sign, peripheral_number}

abbrev pub jump : ℕ → List Line
jump to = bares (Jmp to ∷ [])

abbrev pub lock_code : (region : ℕ) → List Line
lock_code r = bares (St 13 0 (lock_at r) ∷ [])

abbrev pub drop_code : Frame → (site : ℕ) → List Line
drop_code f k = marked (sign f mark.Drop k) (St 0 0 (flag_at k)) ∷ []

-- the time goes to its cell
abbrev pub look_code : Frame → (site : ℕ) → List Line
look_code f k = marked (sign f mark.Look k) (Time 1) ∷ bares (St 1 15 37 ∷ [])

-- an argument of a call goes from its cell to its register
abbrev pub load_code : (number : ℕ) → List Instr
load_code i = Ld (4 + i) 15 (33 + i) ∷ []

abbrev pub loads : (count : ℕ) → List Line
loads count = bares (each load_code 0 count)

-- the number of arguments of a call, and of its peripheral
abbrev pub count_of : Option CoreStmt → ℕ
count_of (Some (stmt.Io k x p args)) = length args
count_of _ = 0

abbrev pub peripheral_of : Frame → Option CoreStmt → ℕ
peripheral_of f (Some (stmt.Io k x p args)) = peripheral_number f.core p
peripheral_of f _ = 0

-- the reading goes to its cell
abbrev pub issue_code : Frame → (site : ℕ) → Option CoreStmt → List Line
issue_code f k s = loads (count_of s) ++ (marked (sign f mark.Issue k) (Io 1 4 (256 * count_of s + peripheral_of f s)) ∷ bares (St 1 15 38 ∷ []))

-- what a record says goes to its cells: of a call, of a block, and of a copy
abbrev pub record_code : (site : ℕ) → Option Site → List Instr
record_code k (Some (site.Io ann)) = Ld 1 15 38 ∷ Ld 2 15 37 ∷ St 1 0 (value_at k) ∷ St 2 0 (stamp_at k) ∷ []
record_code k (Some (site.Block ann)) = Ld 1 15 (begun_at k) ∷ St 1 0 (stamp_at k) ∷ []
record_code k _ = Ld 1 15 45 ∷ Ld 2 15 40 ∷ Ld 3 15 42 ∷ Ld 4 15 44 ∷ St 1 0 (value_at k) ∷ St 2 0 (ends_at k) ∷ St 3 0 (ends_at k + 1) ∷ St 4 0 (ends_at k + 2) ∷ []

abbrev pub record_lines : (site : ℕ) → Option Site → List Line
record_lines k s = bares (record_code k s)

-- the record's flag is written last
abbrev pub seal_code : Frame → (site : ℕ) → Option Site → List Line
seal_code f k s = record_lines k s ++ (marked (sign f mark.Seal k) (St 13 0 (flag_at k)) ∷ [])

-- the kept word goes where a reading goes
abbrev pub take_code : Frame → (site : ℕ) → List Line
take_code f k = bares (Ld 1 0 (value_at k) ∷ []) ++ (marked (sign f mark.Kept k) (Mov 2 1) ∷ bares (St 2 15 38 ∷ []))

-- the word goes to the target, if there is one
abbrev pub write_code : Option CoreStmt → List Line
write_code (Some (stmt.Io k (Some x) p args)) = bares (Ld 1 15 38 ∷ Ld 2 15 32 ∷ St 1 2 0 ∷ [])
write_code _ = []

-- the ends of a transfer in registers 1 and 2, and its length in register 3
abbrev pub leg_code : Frame → (site : ℕ) → Leg → List Instr
leg_code f k Across = Ld 1 15 40 ∷ Ld 2 15 42 ∷ Ld 3 15 44 ∷ []
leg_code f k ToKept = Ldi 1 (kept_at f k) ∷ Ld 2 15 42 ∷ Ld 3 15 44 ∷ []
leg_code f k FromKept = Ld 1 0 (ends_at k) ∷ Ldi 2 (kept_at f k) ∷ Ld 3 0 (ends_at k + 2) ∷ []

abbrev pub leg_lines : Frame → (site : ℕ) → Leg → List Line
leg_lines f k leg = bares (leg_code f k leg)

abbrev pub transfer_code : Frame → (site : ℕ) → Leg → List Line
transfer_code f k leg = leg_lines f k leg ++ (marked (sign f mark.Copy k) (Dma 1 2 3) ∷ [])
