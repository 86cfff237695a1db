-- The code of acts passes, and is marked where these show events.
use Rattle.std.specs.Prelude.{◌≡◌, ℕ, zero, suc, ◌+◌, ◌*◌, ◌/◌, ◌<◌, ◌≤◌, Bool, true, false, not, ◌&&◌, ◌==◌, nat_lt, nat_le, cond, List, [], ◌∷◌, ◌++◌, length, Option, Some, None, IsTrue, refl}
use Rattle.std.proofs.Common.{arith, rules}
use Rattle.std.proofs.lemmas.Bool.Decides.{nat_tests}
use Rattle.task_ast.specs.declared.tree.Ann.{Ann}
use Rattle.task_ast.specs.declared.tree.Ann.TheVariants as ann
use Rattle.task_ast.specs.declared.core_form.Array.{Array}
use Rattle.task_ast.specs.declared.core_form.CoreExpr.{CoreExpr}
use Rattle.task_ast.specs.declared.core_form.CoreTarget.{CoreTarget}
use Rattle.task_ast.specs.declared.core_form.CoreEnd.{CoreEnd}
use Rattle.task_ast.specs.declared.core_form.CoreEnd.TheVariants as end
use Rattle.task_ast.specs.declared.core_form.CoreStmt.{CoreStmt}
use Rattle.task_ast.specs.declared.core_form.CoreStmt.TheVariants as stmt
use Rattle.task_ast.specs.declared.core_form.Site.{Site}
use Rattle.task_ast.specs.declared.core_form.Site.TheVariants as site
use Rattle.word_isa.specs.declared.instr.Instr.TheVariants.{Ldi, Mov, Add, Mul, Shl, Shr, And, Eq, Adi, Ld, St, Jmp, Jz, Io, Dma}
use Rattle.word_isa.specs.declared.mark.MarkKind.TheVariants as mark
use Rattle.line_code.specs.declared.areas.Placed.{Placed}
use Rattle.line_code.specs.declared.line.Line.{Line}
use Rattle.line_code.specs.Areas.{area_at, pointer_at}
use Rattle.line_code.specs.Lines.{bares, marked}
use Rattle.line_code.specs.Sizes.{expr_size}
use Rattle.run_plan.specs.declared.act.Leg.{Leg}
use Rattle.run_plan.specs.declared.act.Leg.TheVariants.{Across, ToKept, FromKept}
use Rattle.run_plan.specs.declared.act.Act.{Act, Row_of-Act, end_of-Act, more_of-Act}
use Rattle.run_plan.specs.declared.act.Act.TheVariants as act
use Rattle.word_code.specs.ActCode.{loop_code, keep_words_code, put_words_code, entry, acts_entry, test_code, restored, ended, act_code, row_code, acts_code}
use Rattle.word_code.specs.ActMarks.{act_marks, row_marks, acts_marks}
use Rattle.word_code.specs.Acts.{jump, lock_code, drop_code, look_code, load_code, count_of, peripheral_of, issue_code, record_lines, seal_code, take_code, write_code, leg_lines, transfer_code}
use Rattle.word_code.specs.Beginnings.{first_of, moved_code, homes_code, restore_code, save_code, unset_code, words_code, volatile_words, volatile_code, level_code, level_count, begin_code}
use Rattle.word_code.specs.Finding.{statement_at}
use Rattle.word_code.specs.Fitting.{IsSiteNumber, IsShortSite, IsFit, AreFitRow, AreFit}
use Rattle.word_code.specs.Frames.{Frame, site_at, ends_at, kept_at, sign, stride, halt_at, stub_at, peripheral_number}
use Rattle.word_code.specs.Heads.{fix_code, commit_code}
use Rattle.word_code.specs.Passing.{is_placed}
use Rattle.word_code.specs.Repeats.{each}
use Rattle.word_code.specs.Sizes.{act_size, row_size, acts_size}
use Rattle.word_code.specs.Tables.{own_lines, inside_code, ann_of, enter_code, leave_code, keeps_code, keeps_size, branch, class_load, class_test}
use Rattle.word_code.specs.Values.{aim_code, aim_size, args_code, args_size, end_code, end_size, length_code, copy_code, value_code, value_size}
use Rattle.word_code.proofs.Fine.{Fine, fine_join, fine_front, fine_back, fine_as}
use Rattle.word_code.proofs.LinePasses.{IsBased, place_fine, room_fine, expr_fine, target_fine, statement_fine}

-- a mark of a site of the task, and of the task's beginning and its commit
of_site : (k n : ℕ) → IsSiteNumber k → 0 < n → n ≤ 64 → (not (k == 0) && (nat_le 1 n && nat_le n 64 && nat_le k 128)) ≡ true
of_site k n is low high =
    let some : 0 < k = is.some in
    let few : k ≤ 128 = is.few in
    grind (arith, nat_tests)

of_begin : (t n : ℕ) → t ≡ n → 0 < n → n ≤ 64 → (not (t == 0) && (nat_le 1 n && nat_le n 64 && (t == n))) ≡ true
of_begin t n is low high = grind (arith, nat_tests)

of_commit : (n : ℕ) → 0 < n → n ≤ 64 → (nat_le 1 n && nat_le n 64 && true) ≡ true
of_commit n low high = grind (arith, nat_tests)

-- ---- jumps and loops

pub jump_fine : (to : ℕ) → to ≤ 4194304 → Fine 0 (jump to)
jump_fine to low =
    let there : to < 16777216 = omega (arith, low) in
    record { pass = search rules; signs = refl }

branch_fine : (to other : ℕ) → to ≤ 4194304 → other ≤ 4194304 → Fine 0 (branch to other)
branch_fine to other low high =
    let there : to < 16777216 = omega (arith, low) in
    let else_there : other < 16777216 = omega (arith, high) in
    record { pass = search rules; signs = refl }

test_fine : (first second : ℕ) → first ≤ 4194304 → second ≤ 4194304 → Fine 0 (test_code first second)
test_fine first second low high =
    let test : Fine 0 (bares (Eq 1 0 ∷ [])) = record { pass = search rules; signs = refl } in
    fine_front test (branch_fine second first high low)

turns_fine : (top next : ℕ) → top + 3 ≤ 4194304 → next ≤ 4194304 → Fine 0 (loop_code top next)
turns_fine top next low high =
    let in_loop : top + 3 < 16777216 = omega (arith, low) in
    let there : next < 16777216 = omega (arith, high) in
    let back : top < 16777216 = omega (arith, low) in
    record { pass = search rules; signs = refl }

pub fix_fine : (far : ℕ) → Fine 0 (fix_code far)
fix_fine far = record { pass = search rules; signs = refl }

-- ---- what makes words safe

moves_fine : (from to m n : ℕ) → Fine 0 (bares (each (moved_code from to) m n))
moves_fine from to m zero = record { pass = tt; signs = refl }
moves_fine from to m (suc n) =
    let rest = moves_fine from to (m + 1) n in
    record { pass = ((refl, tt), ((refl, tt), rest.pass)); signs = omega (arith, rest.signs) }

homes_fine : (areas : List Placed) (from to : ℕ) (arrays : List ℕ) → Fine 0 (homes_code areas from to arrays)
homes_fine areas from to [] = record { pass = tt; signs = refl }
homes_fine areas from to (a ∷ rest) = fine_front (moves_fine ((area_at areas a).offset + from) ((area_at areas a).offset + to) 0 (area_at areas a).room) (homes_fine areas from to rest)

restore_fine : (f : Frame) (r next : ℕ) → next ≤ 4194304 → Fine 0 (restore_code f r next)
restore_fine f r next low =
    let there : next < 16777216 = omega (arith, low) in
    let test : Fine 0 (bares (Ld 1 0 (6145 + r) ∷ Eq 1 13 ∷ Eq 1 0 ∷ Jz 1 1 ∷ Jmp next ∷ [])) = record { pass = search rules; signs = refl } in
    fine_front test (fine_front (homes_fine f.areas 2048 0 (first_of f r)) (jump_fine next low))

restored_fine : (f : Frame) (r next : ℕ) → next ≤ 4194304 → Fine 0 (restored f r next)
restored_fine f r next low = by_test (nat_lt r (length f.firsts))
  where
    by_test : (b : Bool) → Fine 0 (cond b (restore_code f r next) [])
    by_test true = restore_fine f r next low
    by_test false = record { pass = tt; signs = refl }

save_fine : (f : Frame) (r next : ℕ) → next ≤ 4194304 → Fine 0 (save_code f r next)
save_fine f r next low =
    let there : next < 16777216 = omega (arith, low) in
    let test : Fine 0 (bares (Ld 1 0 (6145 + r) ∷ Eq 1 13 ∷ Jz 1 1 ∷ Jmp next ∷ [])) = record { pass = search rules; signs = refl } in
    fine_front test (fine_front (homes_fine f.areas 0 2048 (first_of f r)) (jump_fine next low))

-- ---- a beginning

unsets_fine : (m n : ℕ) → Fine 0 (bares (each unset_code m n))
unsets_fine m zero = record { pass = tt; signs = refl }
unsets_fine m (suc n) =
    let rest = unsets_fine (m + 1) n in
    record { pass = ((refl, tt), ((refl, tt), rest.pass)); signs = omega (arith, rest.signs) }

levels_fine : (m n : ℕ) → Fine 0 (bares (each level_code m n))
levels_fine m zero = record { pass = tt; signs = refl }
levels_fine m (suc n) =
    let rest = levels_fine (m + 1) n in
    record { pass = ((refl, tt), ((refl, tt), rest.pass)); signs = omega (arith, rest.signs) }

words_fine : (at : ℕ) (words : List ℕ) → Fine 0 (bares (words_code at words))
words_fine at [] = record { pass = tt; signs = refl }
words_fine at (w ∷ words) =
    let rest = words_fine (at + 1) words in
    record { pass = ((refl, tt), ((refl, tt), ((refl, tt), rest.pass))); signs = omega (arith, rest.signs) }

volatile_fine : (at : ℕ) (arrays : List Array) → Fine 0 (volatile_code at arrays)
volatile_fine at [] = record { pass = tt; signs = refl }
volatile_fine at (a ∷ arrays) = fine_front (words_fine at (volatile_words a.kind a.first)) (volatile_fine (at + length (volatile_words a.kind a.first)) arrays)

-- a frame of a numbered task, whose arrays and peripherals are within the limits
pub record IsLow (f : Frame) : Type 0 where
  pub based : (a : ℕ) → IsBased (area_at f.areas a)
  pub some : 0 < f.number
  pub few : f.number ≤ 64
  pub tasks : length f.core.tasks ≤ 64
  pub peripherals : (p : ℕ) → peripheral_number f.core p ≤ 255

begin_fine : (f : Frame) (t : ℕ) → IsLow f → t ≡ f.number → Fine 1 (begin_code f t)
begin_fine f t low is =
    let placed : IsTrue (is_placed (sign f mark.Begin t) (Ldi 1 t)) = of_begin t f.number is low.some low.few in
    let head : Fine 1 (marked (sign f mark.Begin t) (Ldi 1 t) ∷ bares (St 0 15 39 ∷ [])) = record { pass = search rules; signs = refl } in
    fine_back head (fine_front (unsets_fine 0 (length f.core.pointers)) (fine_front (volatile_fine 832 f.core.arrays) (levels_fine 0 (level_count f.scheme f.core.arrays))))

-- ---- sites

drop_fine : (f : Frame) (k : ℕ) → IsLow f → IsSiteNumber k → Fine 1 (drop_code f k)
drop_fine f k low is =
    let placed : (not (k == 0) && (nat_le 1 f.number && nat_le f.number 64 && nat_le k 128)) ≡ true = of_site k f.number is low.some low.few in
    record { pass = ((refl, placed), tt); signs = refl }

look_fine : (f : Frame) (k : ℕ) → IsLow f → IsSiteNumber k → Fine 1 (look_code f k)
look_fine f k low is =
    let placed : (not (k == 0) && (nat_le 1 f.number && nat_le f.number 64 && nat_le k 128)) ≡ true = of_site k f.number is low.some low.few in
    record { pass = ((refl, placed), ((refl, tt), tt)); signs = refl }

take_fine : (f : Frame) (k : ℕ) → IsLow f → IsSiteNumber k → Fine 1 (take_code f k)
take_fine f k low is =
    let placed : (not (k == 0) && (nat_le 1 f.number && nat_le f.number 64 && nat_le k 128)) ≡ true = of_site k f.number is low.some low.few in
    record { pass = ((refl, tt), ((refl, placed), ((refl, tt), tt))); signs = refl }

write_fine : (o : Option CoreStmt) → Fine 0 (write_code o)
write_fine None = record { pass = tt; signs = refl }
write_fine (Some (stmt.Assign x e)) = record { pass = tt; signs = refl }
write_fine (Some (stmt.Point p array i)) = record { pass = tt; signs = refl }
write_fine (Some (stmt.If' c m yes_row n no_row)) = record { pass = tt; signs = refl }
write_fine (Some (stmt.Loop' i turns m row)) = record { pass = tt; signs = refl }
write_fine (Some (stmt.Io k None p args)) = record { pass = tt; signs = refl }
write_fine (Some (stmt.Io k (Some x) p args)) = record { pass = search rules; signs = refl }
write_fine (Some (stmt.Block' k m row)) = record { pass = tt; signs = refl }
write_fine (Some (stmt.Copy k to from n)) = record { pass = tt; signs = refl }

record_fine : (k : ℕ) (s : Option Site) → Fine 0 (record_lines k s)
record_fine k None = record { pass = search rules; signs = refl }
record_fine k (Some (site.Io a)) = record { pass = search rules; signs = refl }
record_fine k (Some (site.Block a)) = record { pass = search rules; signs = refl }
record_fine k (Some (site.Copy n)) = record { pass = search rules; signs = refl }

seal_fine : (f : Frame) (k : ℕ) (s : Option Site) → IsLow f → IsSiteNumber k → Fine 1 (seal_code f k s)
seal_fine f k s low is =
    let placed : (not (k == 0) && (nat_le 1 f.number && nat_le f.number 64 && nat_le k 128)) ≡ true = of_site k f.number is low.some low.few in
    let last : Fine 1 (marked (sign f mark.Seal k) (St 13 0 (6273 + k)) ∷ []) = record { pass = ((refl, placed), tt); signs = refl } in
    fine_front (record_fine k s) last

leg_fine : (f : Frame) (k : ℕ) (leg : Leg) → Fine 0 (leg_lines f k leg)
leg_fine f k Across = record { pass = search rules; signs = refl }
leg_fine f k ToKept = record { pass = search rules; signs = refl }
leg_fine f k FromKept = record { pass = search rules; signs = refl }

transfer_fine : (f : Frame) (k : ℕ) (leg : Leg) → IsLow f → IsSiteNumber k → Fine 1 (transfer_code f k leg)
transfer_fine f k leg low is =
    let placed : (not (k == 0) && (nat_le 1 f.number && nat_le f.number 64 && nat_le k 128)) ≡ true = of_site k f.number is low.some low.few in
    let last : Fine 1 (marked (sign f mark.Copy k) (Dma 1 2 3) ∷ []) = record { pass = ((refl, placed), tt); signs = refl } in
    fine_front (leg_fine f k leg) last

-- ---- an issue

register_and : (a : ℕ) → a < 16 → (nat_lt a 16 && true) ≡ true
register_and a low = grind (arith, nat_tests)

loads_from : (m n : ℕ) → m + n ≤ 4 → Fine 0 (bares (each load_code m n))
loads_from m zero low = record { pass = tt; signs = refl }
loads_from m (suc n) low =
    let rest = loads_from (m + 1) n (omega (arith, low)) in
    let small : 4 + m < 16 = omega (arith, low) in
    record { pass = ((register_and (4 + m) small, tt), rest.pass); signs = omega (arith, rest.signs) }

call_few : (o : Option CoreStmt) → IsShortSite o → count_of o ≤ 4
call_few None h = omega arith
call_few (Some (stmt.Assign x e)) h = omega arith
call_few (Some (stmt.Point p array i)) h = omega arith
call_few (Some (stmt.If' c m yes_row n no_row)) h = omega arith
call_few (Some (stmt.Loop' i turns m row)) h = omega arith
call_few (Some (stmt.Io k x p args)) h = h.1
call_few (Some (stmt.Block' k m row)) h = omega arith
call_few (Some (stmt.Copy k to from n)) h = omega arith

called_few : (f : Frame) (o : Option CoreStmt) → IsLow f → peripheral_of f o ≤ 255
called_few f None low = omega arith
called_few f (Some (stmt.Assign x e)) low = omega arith
called_few f (Some (stmt.Point p array i)) low = omega arith
called_few f (Some (stmt.If' c m yes_row n no_row)) low = omega arith
called_few f (Some (stmt.Loop' i turns m row)) low = omega arith
called_few f (Some (stmt.Io k x p args)) low = low.peripherals p
called_few f (Some (stmt.Block' k m row)) low = omega arith
called_few f (Some (stmt.Copy k to from n)) low = omega arith

issue_fine : (f : Frame) (k : ℕ) (o : Option CoreStmt) → IsLow f → IsSiteNumber k → IsShortSite o → Fine 1 (issue_code f k o)
issue_fine f k o low is short =
    let placed : (not (k == 0) && (nat_le 1 f.number && nat_le f.number 64 && nat_le k 128)) ≡ true = of_site k f.number is low.some low.few in
    let count : count_of o ≤ 4 = call_few o short in
    let called : peripheral_of f o ≤ 255 = called_few f o low in
    let few : (256 * count_of o + peripheral_of f o) / 256 ≤ 4 = omega (arith, count, called) in
    let last : 4 + (256 * count_of o + peripheral_of f o) / 256 ≤ 16 = omega (arith, few) in
    let lines : Fine 1 (marked (sign f mark.Issue k) (Io 1 4 (256 * count_of o + peripheral_of f o)) ∷ bares (St 1 15 38 ∷ [])) =
    record { pass = (((refl, few, last), placed), ((refl, tt), tt)); signs = refl } in
    fine_front (loads_from 0 (count_of o) (omega (arith, count))) lines

-- ---- choices

own_fine : (x : Ann) (k : ℕ) → Fine 0 (own_lines x k)
own_fine ann.Single k = record { pass = search rules; signs = refl }
own_fine (ann.Timely limit) k = record { pass = search rules; signs = refl }
own_fine ann.Always k = record { pass = search rules; signs = refl }

inside_fine : (x : Ann) (k : ℕ) → Fine 0 (inside_code x k)
inside_fine x k =
    let head : Fine 0 (bares (Ld 2 0 (6273 + k) ∷ Eq 2 13 ∷ [])) = record { pass = search rules; signs = refl } in
    let last : Fine 0 (bares (Ld 3 15 39 ∷ Mov 4 3 ∷ Eq 4 0 ∷ Mul 1 4 ∷ Add 1 3 ∷ [])) = record { pass = search rules; signs = refl } in
    fine_front head (fine_front (own_fine x k) last)

enter_fine : (x : Ann) (k : ℕ) → Fine 0 (enter_code x k)
enter_fine x k =
    let last : Fine 0 (bares (Ld 3 15 37 ∷ Ld 4 15 39 ∷ St 3 15 (191 + k) ∷ St 4 15 (63 + k) ∷ St 1 15 39 ∷ [])) = record { pass = search rules; signs = refl } in
    fine_front (inside_fine x k) last

leave_fine : (k : ℕ) → Fine 0 (leave_code k)
leave_fine k = record { pass = search rules; signs = refl }

flag_fine : (k : ℕ) → Fine 0 (bares (Ld 1 0 (6273 + k) ∷ Eq 1 13 ∷ []))
flag_fine k = record { pass = search rules; signs = refl }

keeps_fine : (s : Option Site) (k : ℕ) → Fine 0 (keeps_code s k)
keeps_fine None k = flag_fine k
keeps_fine (Some (site.Io a)) k =
    let last : Fine 0 (bares (Ldi 3 1 ∷ Eq 1 3 ∷ And 1 2 ∷ [])) = record { pass = search rules; signs = refl } in
    fine_front (inside_fine a k) last
keeps_fine (Some (site.Block a)) k = flag_fine k
keeps_fine (Some (site.Copy n)) k = flag_fine k

class_fine : (keeps : Bool) (k class to other : ℕ) → to ≤ 4194304 → other ≤ 4194304 → Fine 0 (class_test keeps k class to other)
class_fine true k class to other low high =
    let head : Fine 0 (bares (class_load true k ∷ Ldi 2 class ∷ Eq 1 2 ∷ [])) = record { pass = search rules; signs = refl } in
    fine_front head (branch_fine to other low high)
class_fine false k class to other low high =
    let head : Fine 0 (bares (class_load false k ∷ Ldi 2 class ∷ Eq 1 2 ∷ [])) = record { pass = search rules; signs = refl } in
    fine_front head (branch_fine to other low high)

-- ---- valuing

module _ (areas : List Placed) (based : (a : ℕ) → IsBased (area_at areas a)) where
  kept_fine : (cell : ℕ) → Fine 0 (bares (St 1 15 cell ∷ []))
  kept_fine cell = record { pass = search rules; signs = refl }

  aim_fine : (x : Option CoreTarget) (at : ℕ) → at + aim_size x ≤ 4194304 → Fine 0 (aim_code areas x at)
  aim_fine None at low = record { pass = tt; signs = refl }
  aim_fine (Some x) at low = fine_front (target_fine areas based x at (omega (arith, low))) (kept_fine 32)

  args_fine : (es : List CoreExpr) (cell at : ℕ) → at + args_size es ≤ 4194304 → Fine 0 (args_code areas es cell at)
  args_fine [] cell at low = record { pass = tt; signs = refl }
  args_fine (e ∷ es) cell at low = fine_front (expr_fine areas based e 0 at (omega (arith, low))) (fine_front (kept_fine cell) (args_fine es (cell + 1) (at + expr_size e + 1) (omega (arith, low))))

  end_fine : (x : CoreEnd) (cell at : ℕ) → at + end_size x ≤ 4194304 → Fine 0 (end_code areas x cell at)
  end_fine (end.Cell array i) cell at low =
      let last : Fine 0 (bares (St 1 15 cell ∷ St 2 15 (cell + 1) ∷ [])) = record { pass = search rules; signs = refl } in
      fine_front (expr_fine areas based i 0 at (omega (arith, low))) (fine_front (place_fine (area_at areas array) (based array)) last)
  end_fine (end.Pointer p) cell at low =
      let last : Fine 0 (bares (Ld 1 15 (pointer_at p) ∷ St 1 15 cell ∷ St 2 15 (cell + 1) ∷ [])) = record { pass = search rules; signs = refl } in
      fine_front (room_fine (pointer_at p)) last

  length_fine : Fine 0 length_code
  length_fine = record { pass = search rules; signs = refl }

  copied_fine : (to from : CoreEnd) (n : CoreExpr) (at : ℕ) → at + (end_size to + end_size from + expr_size n + 20) ≤ 4194304 → Fine 0 (copy_code areas to from n at)
  copied_fine to from n at low =
      fine_front (end_fine to 40 at (omega (arith, low)))
      (fine_front (end_fine from 42 (at + end_size to) (omega (arith, low))) (fine_front (expr_fine areas based n 0 (at + end_size to + end_size from) (omega (arith, low))) length_fine))

  value_fine : (o : Option CoreStmt) (at : ℕ) → at + value_size o ≤ 4194304 → Fine 0 (value_code areas o at)
  value_fine None at low = record { pass = tt; signs = refl }
  value_fine (Some (stmt.Assign x e)) at low = record { pass = tt; signs = refl }
  value_fine (Some (stmt.Point p array i)) at low = record { pass = tt; signs = refl }
  value_fine (Some (stmt.If' c m yes_row n no_row)) at low = record { pass = tt; signs = refl }
  value_fine (Some (stmt.Loop' i turns m row)) at low = record { pass = tt; signs = refl }
  value_fine (Some (stmt.Io k x p args)) at low = fine_front (aim_fine x at (omega (arith, low))) (args_fine args 33 (at + aim_size x) (omega (arith, low)))
  value_fine (Some (stmt.Block' k m row)) at low = record { pass = tt; signs = refl }
  value_fine (Some (stmt.Copy k to from n)) at low = copied_fine to from n at low

-- ---- the words of a copy

keep_fine : (f : Frame) (k at next : ℕ) → at + 13 ≤ 4194304 → next ≤ 4194304 → Fine 0 (keep_words_code f k at next)
keep_fine f k at next low high =
    let head : Fine 0 (bares (Ld 1 15 40 ∷ Ldi 2 (kept_at f k) ∷ Ld 3 15 44 ∷ [])) = record { pass = search rules; signs = refl } in
    fine_front head (turns_fine (at + 3) next (omega (arith, low)) high)

put_fine : (f : Frame) (k at next : ℕ) → IsLow f → IsSiteNumber k → at + 14 ≤ 4194304 → next ≤ 4194304 → Fine 1 (put_words_code f k at next)
put_fine f k at next good is low high =
    let placed : (not (k == 0) && (nat_le 1 f.number && nat_le f.number 64 && nat_le k 128)) ≡ true = of_site k f.number is good.some good.few in
    let head : Fine 0 (bares (Ld 3 0 (ends_at k + 2) ∷ [])) = record { pass = search rules; signs = refl } in
    let lines : Fine 1 (marked (sign f mark.Kept k) (Mov 3 3) ∷ bares (Ldi 1 (kept_at f k) ∷ Ld 2 0 (ends_at k) ∷ [])) = record { pass = ((refl, placed), ((refl, tt), ((refl, tt), tt))); signs = refl } in
    fine_front head (fine_back lines (turns_fine (at + 4) next (omega (arith, low)) high))

-- ---- a commit

stub_low : (tasks t : ℕ) → tasks ≤ 64 → t ≤ 64 → stub_at tasks t ≤ 4194304
stub_low tasks t few low = by_test (t == 0)
  where
    by_test : (b : Bool) → cond b (halt_at tasks) (20 + 6 * tasks + t) ≤ 4194304
    by_test true = omega (arith, few)
    by_test false = omega (arith, few, low)

ended_fine : (f : Frame) (t : ℕ) → IsLow f → t ≤ 64 → Fine 1 (ended f t)
ended_fine f t good low =
    let placed : (nat_le 1 f.number && nat_le f.number 64 && true) ≡ true = of_commit f.number good.some good.few in
    let head : Fine 0 (bares (Mov 1 13 ∷ Adi 1 1 ∷ Ldi 2 8 ∷ Shl 1 2 ∷ Adi 1 (2 * t) ∷ Mov 2 14 ∷ Ldi 3 11 ∷ Shr 2 3 ∷ Add 1 2 ∷ [])) = record { pass = search rules; signs = refl } in
    let line : Fine 1 (marked (sign f mark.Commit t) (St 1 0 0) ∷ []) = record { pass = ((refl, placed), tt); signs = refl } in
    let commit : Fine 1 (commit_code f t) = fine_front head (fine_back line (fix_fine (stride f.scheme))) in
    fine_back commit (jump_fine (stub_at (length f.core.tasks) t) (stub_low (length f.core.tasks) t good.tasks low))

-- ---- acts

entry_low : {n : _} (row : Row_of-Act n) (at next : ℕ) → at ≤ 4194304 → next ≤ 4194304 → entry row at next ≤ 4194304
entry_low end_of-Act at next low high = high
entry_low (more_of-Act a rest) at next low high = low

-- an act before the jump to what comes next
and_jump : {n : ℕ} {lines : List Line} (next : ℕ) → Fine n lines → next ≤ 4194304 → Fine n (lines ++ jump next)
and_jump next fine low = fine_back fine (jump_fine next low)

module _ (f : Frame) (good : IsLow f) where
  mutual
    pub act_fine : (keeps : Bool) (a : Act) (at next : ℕ) → IsFit f a → at + act_size f a ≤ 4194304 → next ≤ 4194304 → Fine (act_marks a) (act_code f keeps a at next)
    act_fine keeps (act.Restore r) at next fit low high = restored_fine f r next high
    act_fine keeps (act.Begin t) at next fit low high = and_jump next (begin_fine f t good fit.1) high
    act_fine keeps (act.Save r) at next fit low high = save_fine f r next high
    act_fine keeps (act.Lock r) at next fit low high =
        let lock : Fine 0 (lock_code r) = record { pass = search rules; signs = refl } in
        and_jump next lock high
    act_fine keeps (act.Plain s) at next fit low high = and_jump next (statement_fine f.areas good.based s at (omega (arith, low))) high
    act_fine keeps (act.Test' c m yes_row n no_row) at next fit low high =
        let yes_at = at + expr_size c + 4 in
        let no_at = yes_at + row_size f yes_row in
        fine_front (expr_fine f.areas good.based c 0 at (omega (arith, low)))
        (fine_front (test_fine (entry yes_row yes_at next) (entry no_row no_at next) (entry_low yes_row yes_at next (omega (arith, low)) high) (entry_low no_row no_at next (omega (arith, low)) high))
        (fine_join (row_fine keeps yes_row yes_at next fit.1 (omega (arith, low)) high) (row_fine keeps no_row no_at next fit.2 (omega (arith, low)) high)))
    act_fine keeps (act.Value k) at next fit low high = and_jump next (value_fine f.areas good.based (statement_at f k) at (omega (arith, low))) high
    act_fine keeps (act.Look k) at next fit low high = and_jump next (look_fine f k good fit) high
    act_fine keeps (act.Choose' k m issue_row n keep_row) at next fit low high =
        let issue_at = at + keeps_size (site_at f k) + 3 in
        let keep_at = issue_at + row_size f issue_row in
        fine_front (keeps_fine (site_at f k) k)
        (fine_front (branch_fine (entry keep_row keep_at next) (entry issue_row issue_at next) (entry_low keep_row keep_at next (omega (arith, low)) high) (entry_low issue_row issue_at next (omega (arith, low)) high))
        (fine_join (row_fine false issue_row issue_at next fit.1 (omega (arith, low)) high) (row_fine true keep_row keep_at next fit.2 (omega (arith, low)) high)))
    act_fine keeps (act.Drop k) at next fit low high = and_jump next (drop_fine f k good fit) high
    act_fine keeps (act.Issue k) at next fit low high = and_jump next (issue_fine f k (statement_at f k) good fit.0 fit.1) high
    act_fine keeps (act.Seal k) at next fit low high = and_jump next (seal_fine f k (site_at f k) good fit) high
    act_fine keeps (act.Take k) at next fit low high = and_jump next (take_fine f k good fit) high
    act_fine keeps (act.Write k) at next fit low high = and_jump next (write_fine (statement_at f k)) high
    act_fine keeps (act.Enter k) at next fit low high = and_jump next (enter_fine (ann_of (site_at f k)) k) high
    act_fine keeps (act.Leave' k m row) at next fit low high =
        fine_front (leave_fine k) (fine_front (branch_fine next (entry row (at + 8) next) high (entry_low row (at + 8) next (omega (arith, low)) high)) (row_fine keeps row (at + 8) next fit.1 (omega (arith, low)) high))
    act_fine keeps (act.ByClass' k l single_row m private_row n rest_row) at next fit low high =
        let single_at = at + 12 in
        let private_at = single_at + row_size f single_row in
        let rest_at = private_at + row_size f private_row in
        let same : row_marks single_row + (row_marks private_row + row_marks rest_row) ≡ row_marks single_row + row_marks private_row + row_marks rest_row = omega arith in
        fine_as _ (fine_front (class_fine keeps k 1 (entry single_row single_at next) (at + 6) (entry_low single_row single_at next (omega (arith, low)) high) (omega (arith, low)))
        (fine_front (class_fine keeps k 2 (entry private_row private_at next) (entry rest_row rest_at next) (entry_low private_row private_at next (omega (arith, low)) high) (entry_low rest_row rest_at next (omega (arith, low)) high))
        (fine_join (row_fine keeps single_row single_at next fit.1 (omega (arith, low)) high)
        (fine_join (row_fine keeps private_row private_at next fit.2 (omega (arith, low)) high) (row_fine keeps rest_row rest_at next fit.3 (omega (arith, low)) high))))) same
    act_fine keeps (act.Transfer k leg) at next fit low high = and_jump next (transfer_fine f k leg good fit) high
    act_fine keeps (act.KeepWords k) at next fit low high = keep_fine f k at next low high
    act_fine keeps (act.PutWords k) at next fit low high = put_fine f k at next good fit low high
    act_fine keeps (act.Commit t) at next fit low high = ended_fine f t good fit

    row_fine : (keeps : Bool) {n : _} (row : Row_of-Act n) (at next : ℕ) → AreFitRow f row → at + row_size f row ≤ 4194304 → next ≤ 4194304 → Fine (row_marks row) (row_code f keeps row at next)
    row_fine keeps end_of-Act at next fit low high = record { pass = tt; signs = refl }
    row_fine keeps (more_of-Act a rest) at next fit low high =
        fine_join (act_fine keeps a at (entry rest (at + act_size f a) next) fit.0 (omega (arith, low)) (entry_low rest (at + act_size f a) next (omega (arith, low)) high))
        (row_fine keeps rest (at + act_size f a) next fit.1 (omega (arith, low)) high)

  acts_low : (acts : List Act) (at next : ℕ) → at ≤ 4194304 → next ≤ 4194304 → acts_entry acts at next ≤ 4194304
  acts_low [] at next low high = high
  acts_low (a ∷ rest) at next low high = low

  -- acts, one after another
  pub acts_fine : (keeps : Bool) (acts : List Act) (at next : ℕ) → AreFit f acts → at + acts_size f acts ≤ 4194304 → next ≤ 4194304 → Fine (acts_marks acts) (acts_code f keeps acts at next)
  acts_fine keeps [] at next fit low high = record { pass = tt; signs = refl }
  acts_fine keeps (a ∷ rest) at next fit low high =
      fine_join (act_fine keeps a at (acts_entry rest (at + act_size f a) next) fit.0 (omega (arith, low)) (acts_low rest (at + act_size f a) next (omega (arith, low)) high))
      (acts_fine keeps rest (at + act_size f a) next fit.1 (omega (arith, low)) high)
