-- In the code of a task's acts each mark names the task, and each jump stays in it or leads among the stubs.
use Rattle.std.specs.Prelude.{◌≡◌, ℕ, zero, suc, ◌+◌, ◌*◌, ◌≤◌, Bool, true, false, ◌==◌, nat_lt, cond, List, [], ◌∷◌, ◌++◌, length, Option, Some, None, ⊤, refl}
use Rattle.std.specs.List.{AllByRecursion}
use Rattle.std.proofs.Common.{arith}
use Rattle.task_ast.specs.declared.tree.Ann.{Ann}
use Rattle.task_ast.specs.declared.tree.Ann.TheVariants as ann
use Rattle.task_ast.specs.declared.core_form.Array.{Array}
use Rattle.task_ast.specs.declared.core_form.CoreEnd.{CoreEnd}
use Rattle.task_ast.specs.declared.core_form.CoreEnd.TheVariants as end
use Rattle.task_ast.specs.declared.core_form.CoreExpr.{CoreExpr}
use Rattle.task_ast.specs.declared.core_form.CoreTarget.{CoreTarget}
use Rattle.task_ast.specs.declared.core_form.CoreStmt.{CoreStmt}
use Rattle.task_ast.specs.declared.core_form.CoreStmt.TheVariants as stmt
use Rattle.task_ast.specs.declared.core_form.Site.{Site}
use Rattle.task_ast.specs.declared.core_form.Site.TheVariants as site
use Rattle.word_isa.specs.declared.instr.Instr.{Instr}
use Rattle.word_isa.specs.declared.instr.Instr.TheVariants.{Ldi, Mov, Eq, Ld, St, Jmp, Jz, Add, Adi, And, Io, Mul, Shl, Shr, Sub, Dma}
use Rattle.word_isa.specs.declared.mark.MarkKind.{MarkKind}
use Rattle.word_isa.specs.declared.mark.MarkKind.TheVariants as mark
use Rattle.line_code.specs.declared.areas.Placed.{Placed}
use Rattle.line_code.specs.declared.line.Line.{Line}
use Rattle.line_code.specs.declared.line.Sign.{Sign}
use Rattle.line_code.specs.Areas.{area_at, pointer_at}
use Rattle.line_code.specs.Lines.{bares, marked}
use Rattle.line_code.specs.Sizes.{expr_size}
use Rattle.run_plan.specs.Kinds.{IsOfTask, AreOfTask}
use Rattle.run_plan.specs.declared.act.Leg.{Leg}
use Rattle.run_plan.specs.declared.act.Leg.TheVariants.{Across, ToKept, FromKept}
use Rattle.run_plan.specs.declared.act.Act.{Act, Row_of-Act, end_of-Act, more_of-Act}
use Rattle.run_plan.specs.declared.act.Act.TheVariants as act
use Rattle.word_code.specs.ActCode.{loop_code, keep_words_code, put_words_code, entry, acts_entry, test_code, restored, ended, act_code, row_code, acts_code}
use Rattle.word_code.specs.Acts.{jump, lock_code, drop_code, look_code, load_code, count_of, peripheral_of, issue_code, seal_code, record_lines, take_code, write_code, leg_lines, transfer_code}
use Rattle.word_code.specs.Beginnings.{first_of, moved_code, homes_code, restore_code, save_code, unset_code, words_code, volatile_words, volatile_code, level_code, level_count, begin_code}
use Rattle.word_code.specs.Finding.{statement_at}
use Rattle.word_code.specs.Fitting.{IsFit, AreFitRow, AreFit}
use Rattle.word_code.specs.Frames.{Frame, site_at, kept_at, ends_at, flag_at, lock_at, sign, stride, stub_at, halt_at}
use Rattle.word_code.specs.Heads.{commit_code, fix_code}
use Rattle.word_code.specs.Repeats.{each}
use Rattle.word_code.specs.Sizes.{act_size, row_size, acts_size}
use Rattle.word_code.specs.Tables.{ann_of, own_lines, inside_code, enter_code, leave_code, keeps_code, keeps_size, branch, class_load, class_test}
use Rattle.word_code.specs.Values.{aim_code, aim_size, args_code, args_size, end_code, end_size, length_code, copy_code, value_code, value_size}
use Rattle.task_marks.proofs.Flows.{Flows, join, nothing, straight}
use Rattle.task_marks.proofs.LineFlows.{place_flows, room_flows, jump_flows, skip_flows, expr_flows, target_flows, statement_flows}

-- ---- what needs no task

module _ (Ok : Option Sign → Instr → Type 0) (May : ℕ → Type 0) (plain : (i : Instr) → Ok None i) where
  branch_flows : (to other : ℕ) → May to → May other → Flows Ok May (branch to other)
  branch_flows to other may may_other = join (skip_flows Ok May plain to may) (jump_flows Ok May plain other may_other)

  test_flows : (first second : ℕ) → May first → May second → Flows Ok May (test_code first second)
  test_flows first second may may_second =
      let test : Flows Ok May (bares (Eq 1 0 ∷ [])) = straight plain refl in
      join test (branch_flows second first may_second may)

  turns_flows : (top next : ℕ) → May top → May (top + 3) → May next → Flows Ok May (loop_code top next)
  turns_flows top next may inner may_next =
      let test : Flows Ok May (bares (Jz 3 1 ∷ Jmp (top + 3) ∷ [])) = record { flow = (plain (Jz 3 1), refl, (plain (Jmp (top + 3)), inner, tt)) } in
      let moves : Flows Ok May (bares (Ld 4 1 0 ∷ St 4 2 0 ∷ Adi 1 1 ∷ Adi 2 1 ∷ Ldi 5 1 ∷ Sub 3 5 ∷ [])) = straight plain refl in
      join test (join (jump_flows Ok May plain next may_next) (join moves (jump_flows Ok May plain top may)))

  pub fix_flows : (far : ℕ) → Flows Ok May (fix_code far)
  fix_flows far = straight plain refl

  -- ---- what makes words safe

  moves_flow : (from to m n : ℕ) → Flows Ok May (bares (each (moved_code from to) m n))
  moves_flow from to m zero = nothing
  moves_flow from to m (suc n) =
      let rest = moves_flow from to (m + 1) n in
      let one : Flows Ok May (bares (moved_code from to m)) = straight plain refl in
      join one rest

  homes_flow : (areas : List Placed) (from to : ℕ) (arrays : List ℕ) → Flows Ok May (homes_code areas from to arrays)
  homes_flow areas from to [] = nothing
  homes_flow areas from to (a ∷ rest) = join (moves_flow ((area_at areas a).offset + from) ((area_at areas a).offset + to) 0 (area_at areas a).room) (homes_flow areas from to rest)

  restore_flows : (f : Frame) (r next : ℕ) → May next → Flows Ok May (restore_code f r next)
  restore_flows f r next may =
      let test : Flows Ok May (bares (Ld 1 0 (lock_at r) ∷ Eq 1 13 ∷ Eq 1 0 ∷ [])) = straight plain refl in
      join test (join (skip_flows Ok May plain next may) (join (homes_flow f.areas 2048 0 (first_of f r)) (jump_flows Ok May plain next may)))

  pub restored_flows : (f : Frame) (r next : ℕ) → May next → Flows Ok May (restored f r next)
  restored_flows f r next may = by_test (nat_lt r (length f.firsts))
    where
      by_test : (b : Bool) → Flows Ok May (cond b (restore_code f r next) [])
      by_test true = restore_flows f r next may
      by_test false = nothing

  save_flows : (f : Frame) (r next : ℕ) → May next → Flows Ok May (save_code f r next)
  save_flows f r next may =
      let test : Flows Ok May (bares (Ld 1 0 (lock_at r) ∷ Eq 1 13 ∷ [])) = straight plain refl in
      join test (join (skip_flows Ok May plain next may) (join (homes_flow f.areas 0 2048 (first_of f r)) (jump_flows Ok May plain next may)))

  -- ---- a beginning's words

  unsets_flow : (m n : ℕ) → Flows Ok May (bares (each unset_code m n))
  unsets_flow m zero = nothing
  unsets_flow m (suc n) =
      let rest = unsets_flow (m + 1) n in
      let one : Flows Ok May (bares (unset_code m)) = straight plain refl in
      join one rest

  levels_flow : (m n : ℕ) → Flows Ok May (bares (each level_code m n))
  levels_flow m zero = nothing
  levels_flow m (suc n) =
      let rest = levels_flow (m + 1) n in
      let one : Flows Ok May (bares (level_code m)) = straight plain refl in
      join one rest

  words_flow : (at : ℕ) (words : List ℕ) → Flows Ok May (bares (words_code at words))
  words_flow at [] = nothing
  words_flow at (w ∷ words) =
      let rest = words_flow (at + 1) words in
      let one : Flows Ok May (bares (words_code at (w ∷ []))) = straight plain refl in
      join one rest

  volatile_flow : (at : ℕ) (arrays : List Array) → Flows Ok May (volatile_code at arrays)
  volatile_flow at [] = nothing
  volatile_flow at (a ∷ arrays) = join (words_flow at (volatile_words a.kind a.first)) (volatile_flow (at + length (volatile_words a.kind a.first)) arrays)

  -- ---- choices

  own_flows : (x : Ann) (k : ℕ) → Flows Ok May (own_lines x k)
  own_flows ann.Single k = straight plain refl
  own_flows (ann.Timely limit) k = straight plain refl
  own_flows ann.Always k = straight plain refl

  inside_flows : (x : Ann) (k : ℕ) → Flows Ok May (inside_code x k)
  inside_flows x k =
      let head : Flows Ok May (bares (Ld 2 0 (flag_at k) ∷ Eq 2 13 ∷ [])) = straight plain refl in
      let last : Flows Ok May (bares (Ld 3 15 39 ∷ Mov 4 3 ∷ Eq 4 0 ∷ Mul 1 4 ∷ Add 1 3 ∷ [])) = straight plain refl in
      join head (join (own_flows x k) last)

  enter_flows : (x : Ann) (k : ℕ) → Flows Ok May (enter_code x k)
  enter_flows x k =
      let last : Flows Ok May (bares (Ld 3 15 37 ∷ Ld 4 15 39 ∷ St 3 15 (191 + k) ∷ St 4 15 (63 + k) ∷ St 1 15 39 ∷ [])) = straight plain refl in
      join (inside_flows x k) last

  leave_flows : (k : ℕ) → Flows Ok May (leave_code k)
  leave_flows k = straight plain refl

  flag_flows : (k : ℕ) → Flows Ok May (bares (Ld 1 0 (flag_at k) ∷ Eq 1 13 ∷ []))
  flag_flows k = straight plain refl

  keeps_flow : (s : Option Site) (k : ℕ) → Flows Ok May (keeps_code s k)
  keeps_flow None k = flag_flows k
  keeps_flow (Some (site.Io a)) k =
      let last : Flows Ok May (bares (Ldi 3 1 ∷ Eq 1 3 ∷ And 1 2 ∷ [])) = straight plain refl in
      join (inside_flows a k) last
  keeps_flow (Some (site.Block a)) k = flag_flows k
  keeps_flow (Some (site.Copy n)) k = flag_flows k

  class_flows : (keeps : Bool) (k class to other : ℕ) → May to → May other → Flows Ok May (class_test keeps k class to other)
  class_flows true k class to other may may_other =
      let head : Flows Ok May (bares (class_load true k ∷ Ldi 2 class ∷ Eq 1 2 ∷ [])) = straight plain refl in
      join head (branch_flows to other may may_other)
  class_flows false k class to other may may_other =
      let head : Flows Ok May (bares (class_load false k ∷ Ldi 2 class ∷ Eq 1 2 ∷ [])) = straight plain refl in
      join head (branch_flows to other may may_other)

  -- ---- sites, without their marks

  write_flows : (o : Option CoreStmt) → Flows Ok May (write_code o)
  write_flows None = nothing
  write_flows (Some (stmt.Assign x e)) = nothing
  write_flows (Some (stmt.Point p array i)) = nothing
  write_flows (Some (stmt.If' c m yes_row n no_row)) = nothing
  write_flows (Some (stmt.Loop' i turns m row)) = nothing
  write_flows (Some (stmt.Io k None p args)) = nothing
  write_flows (Some (stmt.Io k (Some x) p args)) = straight plain refl
  write_flows (Some (stmt.Block' k m row)) = nothing
  write_flows (Some (stmt.Copy k to from n)) = nothing

  record_flows : (k : ℕ) (s : Option Site) → Flows Ok May (record_lines k s)
  record_flows k None = straight plain refl
  record_flows k (Some (site.Io a)) = straight plain refl
  record_flows k (Some (site.Block a)) = straight plain refl
  record_flows k (Some (site.Copy n)) = straight plain refl

  leg_flows : (f : Frame) (k : ℕ) (leg : Leg) → Flows Ok May (leg_lines f k leg)
  leg_flows f k Across = straight plain refl
  leg_flows f k ToKept = straight plain refl
  leg_flows f k FromKept = straight plain refl

  loads_flow : (m n : ℕ) → Flows Ok May (bares (each load_code m n))
  loads_flow m zero = nothing
  loads_flow m (suc n) =
      let rest = loads_flow (m + 1) n in
      let one : Flows Ok May (bares (load_code m)) = straight plain refl in
      join one rest

  -- ---- valuing

  module _ (lo hi : ℕ) (within : (t : ℕ) → lo ≤ t → t ≤ hi → May t) (areas : List Placed) where
    kept_flows : (cell : ℕ) → Flows Ok May (bares (St 1 15 cell ∷ []))
    kept_flows cell = straight plain refl

    aim_flows : (x : Option CoreTarget) (at : ℕ) → lo ≤ at → at + aim_size x ≤ hi → Flows Ok May (aim_code areas x at)
    aim_flows None at low high = nothing
    aim_flows (Some x) at low high = join (target_flows Ok May plain lo hi within areas x at low (omega (arith, high))) (kept_flows 32)

    args_flow : (es : List CoreExpr) (cell at : ℕ) → lo ≤ at → at + args_size es ≤ hi → Flows Ok May (args_code areas es cell at)
    args_flow [] cell at low high = nothing
    args_flow (e ∷ es) cell at low high =
        join (expr_flows Ok May plain lo hi within areas e 0 at low (omega (arith, high)))
        (join (kept_flows cell) (args_flow es (cell + 1) (at + expr_size e + 1) (omega (arith, low)) (omega (arith, high))))

    end_flows : (x : CoreEnd) (cell at : ℕ) → lo ≤ at → at + end_size x ≤ hi → Flows Ok May (end_code areas x cell at)
    end_flows (end.Cell array i) cell at low high =
        let last : Flows Ok May (bares (St 1 15 cell ∷ St 2 15 (cell + 1) ∷ [])) = straight plain refl in
        join (expr_flows Ok May plain lo hi within areas i 0 at low (omega (arith, high))) (join (place_flows Ok May plain (area_at areas array)) last)
    end_flows (end.Pointer p) cell at low high =
        let last : Flows Ok May (bares (Ld 1 15 (pointer_at p) ∷ St 1 15 cell ∷ St 2 15 (cell + 1) ∷ [])) = straight plain refl in
        join (room_flows Ok May plain (pointer_at p)) last

    length_flows : Flows Ok May length_code
    length_flows = straight plain refl

    copied_flows : (to from : CoreEnd) (n : CoreExpr) (at : ℕ) → lo ≤ at → at + (end_size to + end_size from + expr_size n + 20) ≤ hi → Flows Ok May (copy_code areas to from n at)
    copied_flows to from n at low high =
        join (end_flows to 40 at low (omega (arith, high)))
        (join (end_flows from 42 (at + end_size to) (omega (arith, low)) (omega (arith, high)))
        (join (expr_flows Ok May plain lo hi within areas n 0 (at + end_size to + end_size from) (omega (arith, low)) (omega (arith, high))) length_flows))

    value_flows : (o : Option CoreStmt) (at : ℕ) → lo ≤ at → at + value_size o ≤ hi → Flows Ok May (value_code areas o at)
    value_flows None at low high = nothing
    value_flows (Some (stmt.Assign x e)) at low high = nothing
    value_flows (Some (stmt.Point p array i)) at low high = nothing
    value_flows (Some (stmt.If' c m yes_row n no_row)) at low high = nothing
    value_flows (Some (stmt.Loop' i turns m row)) at low high = nothing
    value_flows (Some (stmt.Io k x p args)) at low high = join (aim_flows x at low (omega (arith, high))) (args_flow args 33 (at + aim_size x) (omega (arith, low)) (omega (arith, high)))
    value_flows (Some (stmt.Block' k m row)) at low high = nothing
    value_flows (Some (stmt.Copy k to from n)) at low high = copied_flows to from n at low high

-- ---- marks of a task

-- a begin's mark stands at an LDI and has its task as its site
pub record IsOwnBegin (site task : ℕ) (i : Instr) : Type 0 where
  pub own : site ≡ task
  pub word : ℕ
  pub loads : i ≡ Ldi 1 word

abbrev pub IsOwn : MarkKind → (site task : ℕ) → Instr → Type 0
IsOwn mark.Begin site task i = IsOwnBegin site task i
IsOwn _ site task i = ⊤

abbrev pub IsNamed : (task : ℕ) → Option Sign → Instr → Type 0
IsNamed task None i = ⊤
IsNamed task (Some s) i = (s.task ≡ task) × IsOwn s.kind s.site task i

pub named_plain : (task : ℕ) (i : Instr) → IsNamed task None i
named_plain task i = tt

-- ---- the acts of a frame's task

module _ (f : Frame) (May : ℕ → Type 0) (lo hi : ℕ) (within : (t : ℕ) → lo ≤ t → t ≤ hi → May t) (stubs : (t : ℕ) → t ≤ 21 + 7 * length f.core.tasks → May t) where
  abbrev Ok : Option Sign → Instr → Type 0
  Ok = IsNamed f.number

  abbrev plain : (i : Instr) → Ok None i
  plain = named_plain f.number

  abbrev jumps : (next : ℕ) → May next → Flows Ok May (jump next)
  jumps next may = jump_flows Ok May plain next may

  begin_flows : (t : ℕ) → t ≡ f.number → Flows Ok May (begin_code f t)
  begin_flows t is =
      let first : Flows Ok May (marked (sign f mark.Begin t) (Ldi 1 t) ∷ []) = record { flow = ((refl, record { own = is; word = t; loads = refl }), tt, tt) } in
      let mode : Flows Ok May (bares (St 0 15 39 ∷ [])) = straight plain refl in
      join (join first mode) (join (unsets_flow Ok May plain 0 (length f.core.pointers)) (join (volatile_flow Ok May plain 832 f.core.arrays) (levels_flow Ok May plain 0 (level_count f.scheme f.core.arrays))))

  lock_flows : (r : ℕ) → Flows Ok May (lock_code r)
  lock_flows r = straight plain refl

  drop_flows : (k : ℕ) → Flows Ok May (drop_code f k)
  drop_flows k = record { flow = ((refl, tt), tt, tt) }

  look_flows : (k : ℕ) → Flows Ok May (look_code f k)
  look_flows k = record { flow = ((refl, tt), tt, (tt, tt, tt)) }

  issue_flows : (k : ℕ) (o : Option CoreStmt) → Flows Ok May (issue_code f k o)
  issue_flows k o =
      let lines : Flows Ok May (marked (sign f mark.Issue k) (Io 1 4 (256 * count_of o + peripheral_of f o)) ∷ bares (St 1 15 38 ∷ [])) = record { flow = ((refl, tt), tt, (tt, tt, tt)) } in
      join (loads_flow Ok May plain 0 (count_of o)) lines

  seal_flows : (k : ℕ) (s : Option Site) → Flows Ok May (seal_code f k s)
  seal_flows k s =
      let last : Flows Ok May (marked (sign f mark.Seal k) (St 13 0 (flag_at k)) ∷ []) = record { flow = ((refl, tt), tt, tt) } in
      join (record_flows Ok May plain k s) last

  take_flows : (k : ℕ) → Flows Ok May (take_code f k)
  take_flows k = record { flow = (tt, tt, ((refl, tt), tt, (tt, tt, tt))) }

  transfer_flows : (k : ℕ) (leg : Leg) → Flows Ok May (transfer_code f k leg)
  transfer_flows k leg =
      let last : Flows Ok May (marked (sign f mark.Copy k) (Dma 1 2 3) ∷ []) = record { flow = ((refl, tt), tt, tt) } in
      join (leg_flows Ok May plain f k leg) last

  -- the words of a copy
  keep_flows : (k at next : ℕ) → lo ≤ at → at + 13 ≤ hi → May next → Flows Ok May (keep_words_code f k at next)
  keep_flows k at next low high may =
      let head : Flows Ok May (bares (Ld 1 15 40 ∷ Ldi 2 (kept_at f k) ∷ Ld 3 15 44 ∷ [])) = straight plain refl in
      join head (turns_flows Ok May plain (at + 3) next (within (at + 3) (omega (arith, low)) (omega (arith, high))) (within (at + 3 + 3) (omega (arith, low)) (omega (arith, high))) may)

  put_flows : (k at next : ℕ) → lo ≤ at → at + 14 ≤ hi → May next → Flows Ok May (put_words_code f k at next)
  put_flows k at next low high may =
      let head : Flows Ok May (bares (Ld 3 0 (ends_at k + 2) ∷ [])) = straight plain refl in
      let lines : Flows Ok May (marked (sign f mark.Kept k) (Mov 3 3) ∷ bares (Ldi 1 (kept_at f k) ∷ Ld 2 0 (ends_at k) ∷ [])) = record { flow = ((refl, tt), tt, (tt, tt, (tt, tt, tt))) } in
      join head (join lines (turns_flows Ok May plain (at + 4) next (within (at + 4) (omega (arith, low)) (omega (arith, high))) (within (at + 4 + 3) (omega (arith, low)) (omega (arith, high))) may))

  -- a commit goes to a stub or to the halt
  stub_low : (t : ℕ) → t ≤ length f.core.tasks → stub_at (length f.core.tasks) t ≤ 21 + 7 * length f.core.tasks
  stub_low t few = by_test (t == 0)
    where
      by_test : (b : Bool) → cond b (halt_at (length f.core.tasks)) (20 + 6 * length f.core.tasks + t) ≤ 21 + 7 * length f.core.tasks
      by_test true = omega arith
      by_test false = omega (arith, few)

  ended_flows : (t : ℕ) → t ≤ length f.core.tasks → Flows Ok May (ended f t)
  ended_flows t few =
      let head : Flows Ok May (bares (Mov 1 13 ∷ Adi 1 1 ∷ Ldi 2 8 ∷ Shl 1 2 ∷ Adi 1 (2 * t) ∷ Mov 2 14 ∷ Ldi 3 11 ∷ Shr 2 3 ∷ Add 1 2 ∷ [])) = straight plain refl in
      let line : Flows Ok May (marked (sign f mark.Commit t) (St 1 0 0) ∷ []) = record { flow = ((refl, tt), tt, tt) } in
      let commit : Flows Ok May (commit_code f t) = join head (join line (fix_flows Ok May plain (stride f.scheme))) in
      join commit (jumps (stub_at (length f.core.tasks) t) (stubs (stub_at (length f.core.tasks) t) (stub_low t few)))

  -- ---- acts

  entry_may : {n : _} (row : Row_of-Act n) (at next : ℕ) → May at → May next → May (entry row at next)
  entry_may end_of-Act at next may may_next = may_next
  entry_may (more_of-Act a rest) at next may may_next = may

  and_jump : {lines : List Line} (next : ℕ) → Flows Ok May lines → May next → Flows Ok May (lines ++ jump next)
  and_jump next flows may = join flows (jumps next may)

  mutual
    pub act_flows : (keeps : Bool) (a : Act) (at next : ℕ) → IsFit f a → IsOfTask f.core f.task a → lo ≤ at → at + act_size f a ≤ hi → May next → Flows Ok May (act_code f keeps a at next)
    act_flows keeps (act.Restore r) at next fit of low high may = restored_flows Ok May plain f r next may
    act_flows keeps (act.Begin t) at next fit of low high may = and_jump next (begin_flows t fit.1) may
    act_flows keeps (act.Save r) at next fit of low high may = save_flows Ok May plain f r next may
    act_flows keeps (act.Lock r) at next fit of low high may = and_jump next (lock_flows r) may
    act_flows keeps (act.Plain s) at next fit of low high may = and_jump next (statement_flows Ok May plain lo hi within f.areas s at low (omega (arith, high))) may
    act_flows keeps (act.Test' c m yes_row n no_row) at next fit of low high may =
        let yes_at : ℕ = at + expr_size c + 4 in
        let no_at : ℕ = yes_at + row_size f yes_row in
        join (expr_flows Ok May plain lo hi within f.areas c 0 at low (omega (arith, high)))
        (join (test_flows Ok May plain (entry yes_row yes_at next) (entry no_row no_at next)
        (entry_may yes_row yes_at next (within yes_at (omega (arith, low)) (omega (arith, high))) may) (entry_may no_row no_at next (within no_at (omega (arith, low)) (omega (arith, high))) may))
        (join (row_flows keeps yes_row yes_at next fit.1 of.1 (omega (arith, low)) (omega (arith, high)) may) (row_flows keeps no_row no_at next fit.2 of.2 (omega (arith, low)) (omega (arith, high)) may)))
    act_flows keeps (act.Value k) at next fit of low high may = and_jump next (value_flows Ok May plain lo hi within f.areas (statement_at f k) at low (omega (arith, high))) may
    act_flows keeps (act.Look k) at next fit of low high may = and_jump next (look_flows k) may
    act_flows keeps (act.Choose' k m issue_row n keep_row) at next fit of low high may =
        let issue_at : ℕ = at + keeps_size (site_at f k) + 3 in
        let keep_at : ℕ = issue_at + row_size f issue_row in
        join (keeps_flow Ok May plain (site_at f k) k)
        (join (branch_flows Ok May plain (entry keep_row keep_at next) (entry issue_row issue_at next)
        (entry_may keep_row keep_at next (within keep_at (omega (arith, low)) (omega (arith, high))) may) (entry_may issue_row issue_at next (within issue_at (omega (arith, low)) (omega (arith, high))) may))
        (join (row_flows false issue_row issue_at next fit.1 of.1 (omega (arith, low)) (omega (arith, high)) may) (row_flows true keep_row keep_at next fit.2 of.2 (omega (arith, low)) (omega (arith, high)) may)))
    act_flows keeps (act.Drop k) at next fit of low high may = and_jump next (drop_flows k) may
    act_flows keeps (act.Issue k) at next fit of low high may = and_jump next (issue_flows k (statement_at f k)) may
    act_flows keeps (act.Seal k) at next fit of low high may = and_jump next (seal_flows k (site_at f k)) may
    act_flows keeps (act.Take k) at next fit of low high may = and_jump next (take_flows k) may
    act_flows keeps (act.Write k) at next fit of low high may = and_jump next (write_flows Ok May plain (statement_at f k)) may
    act_flows keeps (act.Enter k) at next fit of low high may = and_jump next (enter_flows Ok May plain (ann_of (site_at f k)) k) may
    act_flows keeps (act.Leave' k m row) at next fit of low high may =
        join (leave_flows Ok May plain k)
        (join (branch_flows Ok May plain next (entry row (at + 8) next) may (entry_may row (at + 8) next (within (at + 8) (omega (arith, low)) (omega (arith, high))) may))
        (row_flows keeps row (at + 8) next fit.1 of.1 (omega (arith, low)) (omega (arith, high)) may))
    act_flows keeps (act.ByClass' k l single_row m private_row n rest_row) at next fit of low high may =
        let single_at : ℕ = at + 12 in
        let private_at : ℕ = single_at + row_size f single_row in
        let rest_at : ℕ = private_at + row_size f private_row in
        join (class_flows Ok May plain keeps k 1 (entry single_row single_at next) (at + 6)
        (entry_may single_row single_at next (within single_at (omega (arith, low)) (omega (arith, high))) may) (within (at + 6) (omega (arith, low)) (omega (arith, high))))
        (join (class_flows Ok May plain keeps k 2 (entry private_row private_at next) (entry rest_row rest_at next)
        (entry_may private_row private_at next (within private_at (omega (arith, low)) (omega (arith, high))) may) (entry_may rest_row rest_at next (within rest_at (omega (arith, low)) (omega (arith, high))) may))
        (join (row_flows keeps single_row single_at next fit.1 of.1 (omega (arith, low)) (omega (arith, high)) may)
        (join (row_flows keeps private_row private_at next fit.2 of.2 (omega (arith, low)) (omega (arith, high)) may)
        (row_flows keeps rest_row rest_at next fit.3 of.3 (omega (arith, low)) (omega (arith, high)) may))))
    act_flows keeps (act.Transfer k leg) at next fit of low high may = and_jump next (transfer_flows k leg) may
    act_flows keeps (act.KeepWords k) at next fit of low high may = keep_flows k at next low high may
    act_flows keeps (act.PutWords k) at next fit of low high may = put_flows k at next low high may
    act_flows keeps (act.Commit t) at next fit of low high may = ended_flows t of

    row_flows : (keeps : Bool) {n : _} (row : Row_of-Act n) (at next : ℕ) → AreFitRow f row → AreOfTask f.core f.task row → lo ≤ at → at + row_size f row ≤ hi → May next → Flows Ok May (row_code f keeps row at next)
    row_flows keeps end_of-Act at next fit of low high may = nothing
    row_flows keeps (more_of-Act a rest) at next fit of low high may =
        join (act_flows keeps a at (entry rest (at + act_size f a) next) fit.0 of.0 low (omega (arith, high))
        (entry_may rest (at + act_size f a) next (within (at + act_size f a) (omega (arith, low)) (omega (arith, high))) may))
        (row_flows keeps rest (at + act_size f a) next fit.1 of.1 (omega (arith, low)) (omega (arith, high)) may)

  acts_may : (acts : List Act) (at next : ℕ) → May at → May next → May (acts_entry acts at next)
  acts_may [] at next may may_next = may_next
  acts_may (a ∷ rest) at next may may_next = may

  -- acts, one after another
  pub acts_flow : (keeps : Bool) (acts : List Act) (at next : ℕ) → AreFit f acts → AllByRecursion (IsOfTask f.core f.task) acts → lo ≤ at → at + acts_size f acts ≤ hi → May next → Flows Ok May (acts_code f keeps acts at next)
  acts_flow keeps [] at next fit of low high may = nothing
  acts_flow keeps (a ∷ rest) at next fit of low high may =
      join (act_flows keeps a at (acts_entry rest (at + act_size f a) next) fit.0 of.0 low (omega (arith, high))
      (acts_may rest (at + act_size f a) next (within (at + act_size f a) (omega (arith, low)) (omega (arith, high))) may))
      (acts_flow keeps rest (at + act_size f a) next fit.1 of.1 (omega (arith, low)) (omega (arith, high)) may)
