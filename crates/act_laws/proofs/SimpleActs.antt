-- The acts that are one line: a lock, a dropped record, the time, a sealed and a kept value, a write, an issue.
use Rattle.act_laws.specs.Templates.{LockDoes, DropDoes, LookDoes, SealCallDoes, SealBlockDoes, SealCopyDoes, TakeDoes, WriteDoes, WriteNoneDoes, Issues, IssueDoes}
use Rattle.act_laws.specs.Words.{cell_args}
use Rattle.std.specs.Prelude.{◌==◌, nat_lt, if◌then◌else◌}
use Rattle.std.proofs.Common.{◌≡◌, ◌∙◌, ℕ, zero, suc, ◌+◌, ◌*◌, ◌/◌, ◌%◌, ◌^◌, ◌<◌, ◌≤◌, true, List, [], ◌∷◌, ◌++◌, Option, Some, None, refl, append-nil, arith}
use Rattle.devices.specs.declared.event.Args.{Args}
use Rattle.devices.specs.declared.event.Event.TheVariants as the
use Rattle.devices.specs.Reading.{reading}
use Rattle.devices.specs.Readings.{issued_after}
use Rattle.fram_ram.specs.Memories.{has_word, put}
use Rattle.task_ast.specs.declared.tree.Ann.{Ann}
use Rattle.task_ast.specs.declared.core_form.CoreExpr.{CoreExpr}
use Rattle.task_ast.specs.declared.core_form.CoreStmt.{CoreStmt}
use Rattle.task_ast.specs.declared.core_form.CoreStmt.TheVariants as stmt
use Rattle.task_ast.specs.declared.core_form.CoreTarget.{CoreTarget}
use Rattle.task_ast.specs.declared.core_form.Site.TheVariants as site
use Rattle.word_isa.specs.declared.instr.Instr.TheVariants.{Io, St}
use Rattle.word_isa.specs.declared.mark.MarkKind.TheVariants as mark
use Rattle.line_code.specs.declared.line.Line.{Line}
use Rattle.line_code.specs.Lines.{bares, marked}
use Rattle.word_machine.specs.State.{Program}
use Rattle.word_machine.specs.Straight.{Spot}
use Rattle.word_machine.specs.Traces.{wrote, showed, noted}
use Rattle.word_code.specs.Acts.{jump, lock_code, drop_code, look_code, issue_code, seal_code, take_code, write_code, loads, count_of, peripheral_of}
use Rattle.word_code.specs.Frames.{Frame, flag_at, stamp_at, value_at, ends_at, lock_at, begun_at, sign}
use Rattle.line_laws.specs.Standing.{Lie}
use Rattle.act_laws.specs.Codes.{Fixed, top, End, Acts, FramCell, RamCell}
use Rattle.act_laws.specs.CodeLaws.{line_acts, fram_cell, ram_cell}

pub lock_acts : (p : Program) (x : Fixed) (r next : ℕ) (s : Spot) → LockDoes p x r next s
unfolding has_word
lock_acts p x r next s low has =
    let c : FramCell (lock_at r) = fram_cell (lock_at r) (omega (arith, low)) in
    line_acts p x 2 (lock_code r) next (top x s) _ has (rw (c.wraps, c.fram)) (refl, refl, refl, refl, refl) refl (rw c.wraps) refl (rw (c.wraps, c.fram)) (omega arith)

pub drop_acts : (p : Program) (x : Fixed) (f : Frame) (k next : ℕ) (s : Spot) → DropDoes p x f k next s
unfolding has_word
drop_acts p x f k next s low has =
    let c : FramCell (flag_at k) = fram_cell (flag_at k) (omega (arith, low)) in
    line_acts p x 2 (drop_code f k) next (top x s) _ has (rw (c.wraps, c.fram)) (refl, refl, refl, refl, refl) refl (rw c.wraps) refl (rw (c.wraps, c.fram)) (omega arith)

pub look_acts : (p : Program) (x : Fixed) (f : Frame) (k next : ℕ) (s : Spot) → LookDoes p x f k next s
unfolding has_word
look_acts p x f k next s has =
    line_acts p x 3 (look_code f k) next (top x s) _ has refl (refl, refl, refl, refl, refl) refl refl refl refl (omega arith)

-- the record of a call: the word, the time, and the flag last
pub seal_call_acts : (p : Program) (x : Fixed) (f : Frame) (ann : Ann) (k next : ℕ) (s : Spot) → SealCallDoes p x f ann k next s
unfolding has_word
seal_call_acts p x f ann k next s low has =
    let a : FramCell (value_at k) = fram_cell (value_at k) (omega (arith, low)) in
    let b : FramCell (stamp_at k) = fram_cell (stamp_at k) (omega (arith, low)) in
    let c : FramCell (flag_at k) = fram_cell (flag_at k) (omega (arith, low)) in
    line_acts p x 6 (seal_code f k (Some (site.Io ann))) next (top x s) _ has (rw (a.wraps, b.wraps, c.wraps, a.fram, b.fram, c.fram)) (refl, refl, refl, refl, refl) refl (rw (a.wraps, b.wraps, c.wraps)) refl (rw (a.wraps, b.wraps, c.wraps, a.fram, b.fram, c.fram)) (omega arith)

-- of a block: the time of its beginning, and the flag last
pub seal_block_acts : (p : Program) (x : Fixed) (f : Frame) (ann : Ann) (k next : ℕ) (s : Spot) → SealBlockDoes p x f ann k next s
unfolding has_word
seal_block_acts p x f ann k next s high low has =
    let a : RamCell (begun_at k) = ram_cell (begun_at k) (omega (arith, low)) in
    let b : FramCell (stamp_at k) = fram_cell (stamp_at k) (omega (arith, low)) in
    let c : FramCell (flag_at k) = fram_cell (flag_at k) (omega (arith, low)) in
    line_acts p x 4 (seal_code f k (Some (site.Block ann))) next (top x s) _ has (rw (a.wraps, b.wraps, c.wraps, a.apart, a.ram, b.fram, c.fram)) (refl, refl, refl, refl, refl) refl
    (rw (a.wraps, b.wraps, c.wraps)) refl (rw (a.wraps, b.wraps, c.wraps, b.fram, c.fram)) (omega arith)

-- of a copy: its class, both ends and the length, and the flag last
pub seal_copy_acts : (p : Program) (x : Fixed) (f : Frame) (n k next : ℕ) (s : Spot) → SealCopyDoes p x f n k next s
unfolding has_word
seal_copy_acts p x f n k next s low has =
    let a : FramCell (value_at k) = fram_cell (value_at k) (omega (arith, low)) in
    let b : FramCell (ends_at k) = fram_cell (ends_at k) (omega (arith, low)) in
    let c : FramCell (ends_at k + 1) = fram_cell (ends_at k + 1) (omega (arith, low)) in
    let d : FramCell (ends_at k + 2) = fram_cell (ends_at k + 2) (omega (arith, low)) in
    let e : FramCell (flag_at k) = fram_cell (flag_at k) (omega (arith, low)) in
    line_acts p x 10 (seal_code f k (Some (site.Copy n))) next (top x s) _ has (rw (a.wraps, b.wraps, c.wraps, d.wraps, e.wraps, a.fram, b.fram, c.fram, d.fram, e.fram)) (refl, refl, refl, refl, refl) refl
    (rw (a.wraps, b.wraps, c.wraps, d.wraps, e.wraps)) refl (rw (a.wraps, b.wraps, c.wraps, d.wraps, e.wraps, a.fram, b.fram, c.fram, d.fram, e.fram)) (omega arith)

pub take_acts : (p : Program) (x : Fixed) (f : Frame) (k next : ℕ) (s : Spot) → TakeDoes p x f k next s
unfolding has_word
take_acts p x f k next s low has =
    let a : FramCell (value_at k) = fram_cell (value_at k) (omega (arith, low)) in
    line_acts p x 4 (take_code f k) next (top x s) _ has (rw (a.wraps, a.fram)) (refl, refl, refl, refl, refl) refl (rw a.wraps) refl (rw a.wraps) (omega arith)

-- a write through the address in the target's cell
pub write_acts : (p : Program) (x : Fixed) (k q : ℕ) (target : CoreTarget) (args : List CoreExpr) (a next : ℕ) (s : Spot) → WriteDoes p x k q target args a next s
unfolding has_word
write_acts p x k q target args a next s is there wraps has =
    line_acts p x 4 (write_code (Some (stmt.Io k (Some target) q args))) next (top x s) _ has (rw (is, wraps, there)) (refl, refl, refl, refl, refl) refl (rw (is, wraps)) refl (rw (is, wraps) (append-nil _ ∙ append-nil _)) (omega arith)

pub write_none_acts : (p : Program) (x : Fixed) (k q : ℕ) (args : List CoreExpr) (next : ℕ) (s : Spot) → WriteNoneDoes p x k q args next s
write_none_acts p x k q args next s has = line_acts p x 1 [] next (top x s) _ has refl (refl, refl, refl, refl, refl) refl refl refl refl (omega arith)

abbrev issue_lines : Frame → (k n q : ℕ) → List Line
issue_lines f k n q = loads n ++ (marked (sign f mark.Issue k) (Io 1 4 (256 * n + q)) ∷ bares (St 1 15 38 ∷ []))

issue_with : (p : Program) (x : Fixed) (f : Frame) (k n q next : ℕ) (s : Spot) → n ≤ 4 → (256 * n + q) % 256 ≡ q → (256 * n + q) / 256 ≡ n → Lie p s.pc (issue_lines f k n q ++ jump next) → Issues p x k n q next s
unfolding has_word
issue_with p x f k zero q next s few e g has = line_acts p x 7 (issue_lines f k 0 q) next (top x s) _ has refl (refl, refl, refl, refl, refl) refl (rw e) (rw e) (rw (e, g)) (omega arith)
issue_with p x f k (suc zero) q next s few e g has = line_acts p x 7 (issue_lines f k 1 q) next (top x s) _ has refl (refl, refl, refl, refl, refl) refl (rw e) (rw e) (rw (e, g)) (omega arith)
issue_with p x f k (suc (suc zero)) q next s few e g has = line_acts p x 7 (issue_lines f k 2 q) next (top x s) _ has refl (refl, refl, refl, refl, refl) refl (rw e) (rw e) (rw (e, g)) (omega arith)
issue_with p x f k (suc (suc (suc zero))) q next s few e g has = line_acts p x 7 (issue_lines f k 3 q) next (top x s) _ has refl (refl, refl, refl, refl, refl) refl (rw e) (rw e) (rw (e, g)) (omega arith)
issue_with p x f k (suc (suc (suc (suc zero)))) q next s few e g has = line_acts p x 7 (issue_lines f k 4 q) next (top x s) _ has refl (refl, refl, refl, refl, refl) refl (rw e) (rw e) (rw (e, g)) (omega arith)
issue_with p x f k (suc (suc (suc (suc (suc n))))) q next s few e g has = absurd (omega (arith, few))

pub issue_acts : (p : Program) (x : Fixed) (f : Frame) (o : Option CoreStmt) (k next : ℕ) (s : Spot) → IssueDoes p x f o k next s
issue_acts p x f o k next s few small has = issue_with p x f k (count_of o) (peripheral_of f o) next s few (omega (arith, small)) (omega (arith, small)) has
