-- The code of each act of a frame within the limits is narrow, as long as its size, and followed to the halt.
use Rattle.std.specs.Prelude.{◌≡◌, ℕ, zero, suc, ◌+◌, ◌-◌, ◌*◌, ◌≤◌, Bool, true, false, ◌==◌, nat_lt, cond, List, [], ◌∷◌, length, Option, Some, None, IsTrue, refl}
use Rattle.std.proofs.Common.{sym, arith, rules, append-nil}
use Rattle.std.proofs.lemmas.Bool.Decides.{nat_tests}
use Rattle.task_ast.specs.Readable.{IsReadableAnn}
use Rattle.task_ast.specs.declared.core_form.CoreStmt.{CoreStmt}
use Rattle.task_ast.specs.declared.core_form.CoreStmt.TheVariants as stmt
use Rattle.task_ast.specs.declared.core_form.Site.{Site}
use Rattle.task_ast.specs.declared.core_form.Site.TheVariants as site
use Rattle.word_isa.specs.declared.instr.Instr.TheVariants.{Ldi, Mov, Add, Shl, Shr, Eq, Adi, Ld, St, Jmp, Jz, Io}
use Rattle.word_isa.specs.declared.mark.MarkKind.TheVariants as mark
use Rattle.line_code.specs.declared.line.Line.{Line}
use Rattle.line_code.specs.Lines.{bares, marked}
use Rattle.line_code.specs.Sizes.{expr_size}
use Rattle.run_plan.specs.declared.act.Leg.{Leg}
use Rattle.run_plan.specs.declared.act.Leg.TheVariants.{Across, ToKept, FromKept}
use Rattle.run_plan.specs.declared.act.Act.{Act, Row_of-Act, end_of-Act, more_of-Act}
use Rattle.run_plan.specs.declared.act.Act.TheVariants as act
use Rattle.word_code.specs.ActCode.{keep_words_code, put_words_code, entry, acts_entry, restored, ended, act_code, row_code, acts_code}
use Rattle.word_code.specs.Acts.{lock_code, drop_code, look_code, count_of, peripheral_of, issue_code, take_code, transfer_code}
use Rattle.word_code.specs.Beginnings.{first_of, restore_code, save_code, level_count, begin_code, begin_size}
use Rattle.word_code.specs.Finding.{statement_at}
use Rattle.word_code.specs.Fitting.{IsSiteNumber, IsShortSite, IsFit, AreFitRow, AreFit}
use Rattle.word_code.specs.Frames.{Frame, site_at, kept_at, sign, stride, stub_at}
use Rattle.word_code.specs.Sizes.{region_size, restored_size, act_size, row_size, acts_size}
use Rattle.word_code.specs.Tables.{ann_of, keeps_size}
use Rattle.code_places.proofs.Good.{Good, Follows, small, join, good_as, nothing}
use Rattle.code_places.proofs.LineGoods.{expr_good, statement_good}
use Rattle.code_places.proofs.ActGoods.{IsTimed, IsSmall, way_of, stride_low, level_few, sum_front, call_few, jump_good, branch_good, test_good, turns_good, fix_good, homes_good, unsets_good, levels_good, volatile_good, loads_good, write_good, seal_good, enter_good, leave_good, keeps_good, class_good, and_jump}
use Rattle.code_places.proofs.ValueGoods.{value_good}

ann_timed : (s : Option Site) → IsTimed s → IsReadableAnn (ann_of s)
ann_timed None h = tt
ann_timed (Some (site.Io a)) h = h
ann_timed (Some (site.Block a)) h = h
ann_timed (Some (site.Copy n)) h = tt

-- a commit behind which a task is next
some_next : (t : ℕ) → (suc t == 0) ≡ false
some_next t = grind (arith, nat_tests)

not_last : (b : Bool) → b ≡ false → (way : List Line) → Follows b way (St 1 0 0) []
not_last true e way = cc
not_last false e way = tt

module _ (f : Frame) (good : IsSmall f) where
  abbrev way : List Line
  way = way_of f.scheme (length f.core.tasks)

  called_few : (o : Option CoreStmt) → peripheral_of f o ≤ 255
  called_few None = omega arith
  called_few (Some (stmt.Assign x e)) = omega arith
  called_few (Some (stmt.Point p array i)) = omega arith
  called_few (Some (stmt.If' c m yes_row n no_row)) = omega arith
  called_few (Some (stmt.Loop' i turns m row)) = omega arith
  called_few (Some (stmt.Io k x p args)) = good.peripherals p
  called_few (Some (stmt.Block' k m row)) = omega arith
  called_few (Some (stmt.Copy k to from n)) = omega arith

  kept_low : (k : ℕ) → IsTrue (nat_lt (kept_at f k) 65536)
  kept_low k = small (kept_at f k) (omega (arith, sum_front (k - 1) f.task.sites, good.kept))

  -- ---- what makes words safe

  restore_good : (r next : ℕ) → r ≤ 128 → Good way (region_size f r + 6) (restore_code f r next)
  restore_good r next few =
      let lock : IsTrue (nat_lt (6145 + r) 65536) = small (6145 + r) (omega (arith, few)) in
      let test : Good way 5 (bares (Ld 1 0 (6145 + r) ∷ Eq 1 13 ∷ Eq 1 0 ∷ Jz 1 1 ∷ Jmp next ∷ [])) = record { long = refl; narrow = (lock, (tt, (tt, (refl, (tt, tt))))); followed = search rules } in
      good_as (region_size f r + 6) (join test (join (homes_good way f.areas good.low 2048 0 (omega arith) (omega arith) (first_of f r)) (jump_good way next))) (omega arith)

  restored_good : (r next : ℕ) → r ≤ 128 → Good way (restored_size f r) (restored f r next)
  restored_good r next few = by_test (nat_lt r (length f.firsts))
    where
      by_test : (b : Bool) → Good way (cond b (region_size f r + 6) 0) (cond b (restore_code f r next) [])
      by_test true = restore_good r next few
      by_test false = nothing

  save_good : (r next : ℕ) → r ≤ 128 → Good way (region_size f r + 5) (save_code f r next)
  save_good r next few =
      let lock : IsTrue (nat_lt (6145 + r) 65536) = small (6145 + r) (omega (arith, few)) in
      let test : Good way 4 (bares (Ld 1 0 (6145 + r) ∷ Eq 1 13 ∷ Jz 1 1 ∷ Jmp next ∷ [])) = record { long = refl; narrow = (lock, (tt, (refl, (tt, tt)))); followed = search rules } in
      good_as (region_size f r + 5) (join test (join (homes_good way f.areas good.low 0 2048 (omega arith) (omega arith) (first_of f r)) (jump_good way next))) (omega arith)

  lock_good : (r : ℕ) → r ≤ 128 → Good way 1 (lock_code r)
  lock_good r few =
      let lock : IsTrue (nat_lt (6145 + r) 65536) = small (6145 + r) (omega (arith, few)) in
      record { long = refl; narrow = (lock, tt); followed = search rules }

  begin_good : (t : ℕ) → t ≤ 64 → Good way (begin_size f) (begin_code f t)
  begin_good t few =
      let task : IsTrue (nat_lt t 65536) = small t (omega (arith, few)) in
      let head : Good way 2 (marked (sign f mark.Begin t) (Ldi 1 t) ∷ bares (St 0 15 39 ∷ [])) = record { long = refl; narrow = (task, (refl, tt)); followed = (tt, (tt, tt)) } in
      let levels : level_count f.scheme f.core.arrays ≤ 4096 = level_few f.scheme f.core.arrays good.homes in
      good_as (begin_size f)
      (join head
      (join (unsets_good way 0 (length f.core.pointers) (omega (arith, good.pointers)))
      (join (volatile_good way 832 f.core.arrays (omega (arith, good.words)) good.arrays) (levels_good way 0 (level_count f.scheme f.core.arrays) (omega (arith, levels))))))
      (omega arith)

  -- ---- sites

  drop_good : (k : ℕ) → IsSiteNumber k → Good way 1 (drop_code f k)
  drop_good k is =
      let flag : IsTrue (nat_lt (6273 + k) 65536) = small (6273 + k) (omega (arith, is.few)) in
      record { long = refl; narrow = (flag, tt); followed = (tt, tt) }

  look_good : (k : ℕ) → Good way 2 (look_code f k)
  look_good k = record { long = refl; narrow = (tt, (refl, tt)); followed = (tt, (tt, tt)) }

  take_good : (k : ℕ) → IsSiteNumber k → Good way 3 (take_code f k)
  take_good k is =
      let value : IsTrue (nat_lt (6529 + k) 65536) = small (6529 + k) (omega (arith, is.few)) in
      record { long = refl; narrow = (value, (tt, (refl, tt))); followed = (tt, (tt, (tt, tt))) }

  transfer_good : (k : ℕ) (leg : Leg) → IsSiteNumber k → Good way 4 (transfer_code f k leg)
  transfer_good k Across is = record { long = refl; narrow = (refl, (refl, (refl, (tt, tt)))); followed = (tt, (tt, (tt, (tt, tt)))) }
  transfer_good k ToKept is = record { long = refl; narrow = (kept_low k, (refl, (refl, (tt, tt)))); followed = (tt, (tt, (tt, (tt, tt)))) }
  transfer_good k FromKept is =
      let first : IsTrue (nat_lt (6655 + 3 * k) 65536) = small (6655 + 3 * k) (omega (arith, is.few)) in
      let third : IsTrue (nat_lt (6655 + 3 * k + 2) 65536) = small (6655 + 3 * k + 2) (omega (arith, is.few)) in
      record { long = refl; narrow = (first, (kept_low k, (third, (tt, tt)))); followed = (tt, (tt, (tt, (tt, tt)))) }

  issue_good : (k : ℕ) (o : Option CoreStmt) → IsShortSite o → Good way (count_of o + 2) (issue_code f k o)
  issue_good k o short =
      let count : count_of o ≤ 4 = call_few o short in
      let number : IsTrue (nat_lt (256 * count_of o + peripheral_of f o) 65536) = small (256 * count_of o + peripheral_of f o) (omega (arith, count, called_few o)) in
      let lines : Good way 2 (marked (sign f mark.Issue k) (Io 1 4 (256 * count_of o + peripheral_of f o)) ∷ bares (St 1 15 38 ∷ [])) = record { long = refl; narrow = (number, (refl, tt)); followed = (tt, (tt, tt)) } in
      join (loads_good way 0 (count_of o) (omega (arith, count))) lines

  -- ---- the words of a copy

  keep_good : (k at next : ℕ) → Good way 13 (keep_words_code f k at next)
  keep_good k at next =
      let head : Good way 3 (bares (Ld 1 15 40 ∷ Ldi 2 (kept_at f k) ∷ Ld 3 15 44 ∷ [])) = record { long = refl; narrow = (refl, (kept_low k, (refl, tt))); followed = search rules } in
      join head (turns_good way (at + 3) next)

  put_good : (k at next : ℕ) → IsSiteNumber k → Good way 14 (put_words_code f k at next)
  put_good k at next is =
      let first : IsTrue (nat_lt (6655 + 3 * k) 65536) = small (6655 + 3 * k) (omega (arith, is.few)) in
      let third : IsTrue (nat_lt (6655 + 3 * k + 2) 65536) = small (6655 + 3 * k + 2) (omega (arith, is.few)) in
      let head : Good way 1 (bares (Ld 3 0 (6655 + 3 * k + 2) ∷ [])) = record { long = refl; narrow = (third, tt); followed = search rules } in
      let lines : Good way 3 (marked (sign f mark.Kept k) (Mov 3 3) ∷ bares (Ldi 1 (kept_at f k) ∷ Ld 2 0 (6655 + 3 * k) ∷ [])) = record { long = refl; narrow = (tt, (kept_low k, (first, tt))); followed = (tt, (tt, (tt, tt))) } in
      join head (join lines (turns_good way (at + 4) next))

  -- ---- a commit

  ended_good : (t : ℕ) → t ≤ 64 → Good way 25 (ended f t)
  ended_good zero few =
      let head : Good way 9 (bares (Mov 1 13 ∷ Adi 1 1 ∷ Ldi 2 8 ∷ Shl 1 2 ∷ Adi 1 (2 * 0) ∷ Mov 2 14 ∷ Ldi 3 11 ∷ Shr 2 3 ∷ Add 1 2 ∷ [])) = record { long = refl; narrow = search rules; followed = search rules } in
      let behind : Good way 15 way = join (fix_good way (stride f.scheme) (stride_low f.scheme)) (jump_good way (20 + 5 * length f.core.tasks)) in
      let line : Good way 16 (marked (sign f mark.Commit 0) (St 1 0 0) ∷ way) =
      record { long = refl; narrow = (refl, behind.narrow); followed = (record { write = refl; others = []; behind = sym (append-nil way) }, behind.followed) } in
      join head line
  ended_good (suc t) few =
      let epoch : IsTrue (nat_lt (2 * suc t) 65536) = small (2 * suc t) (omega (arith, few)) in
      let head : Good way 9 (bares (Mov 1 13 ∷ Adi 1 1 ∷ Ldi 2 8 ∷ Shl 1 2 ∷ Adi 1 (2 * suc t) ∷ Mov 2 14 ∷ Ldi 3 11 ∷ Shr 2 3 ∷ Add 1 2 ∷ [])) =
      record { long = refl; narrow = (tt, (refl, (refl, (tt, (epoch, (tt, (refl, (tt, (tt, tt))))))))); followed = search rules } in
      let line : Good way 1 (marked (sign f mark.Commit (suc t)) (St 1 0 0) ∷ []) = record { long = refl; narrow = (refl, tt); followed = (not_last (suc t == 0) (some_next t) way, tt) } in
      join head (join line (join (fix_good way (stride f.scheme) (stride_low f.scheme)) (jump_good way (stub_at (length f.core.tasks) (suc t)))))

  -- ---- acts

  mutual
    pub act_good : (keeps : Bool) (a : Act) (at next : ℕ) → IsFit f a → Good way (act_size f a) (act_code f keeps a at next)
    act_good keeps (act.Restore r) at next fit = restored_good r next fit
    act_good keeps (act.Begin t) at next fit = and_jump way next (begin_good t fit.0)
    act_good keeps (act.Save r) at next fit = save_good r next fit
    act_good keeps (act.Lock r) at next fit = and_jump way next (lock_good r fit)
    act_good keeps (act.Plain s) at next fit = and_jump way next (statement_good way f.areas good.low s at fit)
    act_good keeps (act.Test' c m yes_row n no_row) at next fit =
        let yes_at = at + expr_size c + 4 in
        let no_at = yes_at + row_size f yes_row in
        good_as (expr_size c + row_size f yes_row + row_size f no_row + 4)
        (join (expr_good way f.areas good.low c 0 at fit.0)
        (join (test_good way (entry yes_row yes_at next) (entry no_row no_at next))
        (join (row_good keeps yes_row yes_at next fit.1) (row_good keeps no_row no_at next fit.2))))
        (omega arith)
    act_good keeps (act.Value k) at next fit = and_jump way next (value_good way f.areas good.low (statement_at f k) at fit.1)
    act_good keeps (act.Look k) at next fit = and_jump way next (look_good k)
    act_good keeps (act.Choose' k m issue_row n keep_row) at next fit =
        let issue_at = at + keeps_size (site_at f k) + 3 in
        let keep_at = issue_at + row_size f issue_row in
        good_as (keeps_size (site_at f k) + row_size f issue_row + row_size f keep_row + 3)
        (join (keeps_good way (site_at f k) k (good.times k) fit.0)
        (join (branch_good way (entry keep_row keep_at next) (entry issue_row issue_at next))
        (join (row_good false issue_row issue_at next fit.1) (row_good true keep_row keep_at next fit.2))))
        (omega arith)
    act_good keeps (act.Drop k) at next fit = and_jump way next (drop_good k fit)
    act_good keeps (act.Issue k) at next fit = and_jump way next (issue_good k (statement_at f k) fit.1)
    act_good keeps (act.Seal k) at next fit = and_jump way next (seal_good way f k (site_at f k) fit)
    act_good keeps (act.Take k) at next fit = and_jump way next (take_good k fit)
    act_good keeps (act.Write k) at next fit = and_jump way next (write_good way (statement_at f k))
    act_good keeps (act.Enter k) at next fit = and_jump way next (enter_good way (ann_of (site_at f k)) k (ann_timed (site_at f k) (good.times k)) fit)
    act_good keeps (act.Leave' k m row) at next fit =
        good_as (row_size f row + 8) (join (leave_good way k fit.0) (join (branch_good way next (entry row (at + 8) next)) (row_good keeps row (at + 8) next fit.1))) (omega arith)
    act_good keeps (act.ByClass' k l single_row m private_row n rest_row) at next fit =
        let single_at = at + 12 in
        let private_at = single_at + row_size f single_row in
        let rest_at = private_at + row_size f private_row in
        good_as (row_size f single_row + row_size f private_row + row_size f rest_row + 12)
        (join (class_good way keeps k 1 (entry single_row single_at next) (at + 6) (omega arith) fit.0)
        (join (class_good way keeps k 2 (entry private_row private_at next) (entry rest_row rest_at next) (omega arith) fit.0)
        (join (row_good keeps single_row single_at next fit.1) (join (row_good keeps private_row private_at next fit.2) (row_good keeps rest_row rest_at next fit.3)))))
        (omega arith)
    act_good keeps (act.Transfer k leg) at next fit = and_jump way next (transfer_good k leg fit)
    act_good keeps (act.KeepWords k) at next fit = keep_good k at next
    act_good keeps (act.PutWords k) at next fit = put_good k at next fit
    act_good keeps (act.Commit t) at next fit = ended_good t fit

    pub row_good : (keeps : Bool) {n : _} (row : Row_of-Act n) (at next : ℕ) → AreFitRow f row → Good way (row_size f row) (row_code f keeps row at next)
    row_good keeps end_of-Act at next fit = nothing
    row_good keeps (more_of-Act a rest) at next fit = join (act_good keeps a at (entry rest (at + act_size f a) next) fit.0) (row_good keeps rest (at + act_size f a) next fit.1)

  -- acts, one after another
  pub acts_good : (keeps : Bool) (acts : List Act) (at next : ℕ) → AreFit f acts → Good way (acts_size f acts) (acts_code f keeps acts at next)
  acts_good keeps [] at next fit = nothing
  acts_good keeps (a ∷ rest) at next fit = join (act_good keeps a at (acts_entry rest (at + act_size f a) next) fit.0) (acts_good keeps rest (at + act_size f a) next fit.1)
