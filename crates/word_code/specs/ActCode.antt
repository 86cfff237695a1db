-- The code of acts (docs/CODE.md, "Acts"): entered at its top, and left only by a jump to what comes next, or into one of its lists.
use Rattle.std.specs.Prelude.{ℕ, ◌+◌, nat_lt, cond, Bool, true, false, List, [], ◌∷◌, ◌++◌, length}
use Rattle.word_isa.specs.declared.instr.Instr.TheVariants.{Ldi, Mov, Sub, Eq, Adi, Ld, St, Jmp, Jz}
use Rattle.word_isa.specs.declared.mark.MarkKind.TheVariants as mark
use Rattle.line_code.specs.declared.line.Line.{Line}
use Rattle.line_code.specs.Lines.{bares, marked}
use Rattle.line_code.specs.Sizes.{expr_size}
use Rattle.line_code.specs.Expressions.{expr_code}
use Rattle.line_code.specs.Statements.{statement_code}
use Rattle.run_plan.specs.declared.act.Act.{Act, Row_of-Act, end_of-Act, more_of-Act}
use Rattle.run_plan.specs.declared.act.Act.TheVariants as act
use Rattle.word_code.specs.Acts.{jump, lock_code, drop_code, look_code, issue_code, seal_code, take_code, write_code, transfer_code}
use Rattle.word_code.specs.Beginnings.{begin_code, restore_code, save_code}
use Rattle.word_code.specs.Finding.{statement_at}
use Rattle.word_code.specs.Frames.{Frame, site_at, sign, kept_at, ends_at, stub_at}
use Rattle.word_code.specs.Heads.{commit_code}
use Rattle.word_code.specs.Sizes.{act_size, row_size}
use Rattle.word_code.specs.Tables.{ann_of, enter_code, leave_code, keeps_code, keeps_size, branch, class_test}
use Rattle.word_code.specs.Values.{value_code}

-- from register 1 on to register 2, as many words as register 3 says
abbrev pub loop_code : (top next : ℕ) → List Line
loop_code top next = bares (Jz 3 1 ∷ Jmp (top + 3) ∷ Jmp next ∷ Ld 4 1 0 ∷ St 4 2 0 ∷ Adi 1 1 ∷ Adi 2 1 ∷ Ldi 5 1 ∷ Sub 3 5 ∷ Jmp top ∷ [])

-- the words at a copy's destination are kept, and put there again
abbrev pub keep_words_code : Frame → (site at next : ℕ) → List Line
keep_words_code f k at next = bares (Ld 1 15 40 ∷ Ldi 2 (kept_at f k) ∷ Ld 3 15 44 ∷ []) ++ loop_code (at + 3) next

abbrev pub put_words_code : Frame → (site at next : ℕ) → List Line
put_words_code f k at next =
    bares (Ld 3 0 (ends_at k + 2) ∷ []) ++ (marked (sign f mark.Kept k) (Mov 3 3) ∷ bares (Ldi 1 (kept_at f k) ∷ Ld 2 0 (ends_at k) ∷ []) ++ loop_code (at + 4) next)

-- where a list of acts is entered: where there is none, that is what comes next
abbrev pub entry : {n : _} → Row_of-Act n → (at next : ℕ) → ℕ
entry end_of-Act at next = next
entry (more_of-Act a rest) at next = at

-- a test on register 1, which leads to one of two lists
abbrev pub test_code : (first second : ℕ) → List Line
test_code first second = bares (Eq 1 0 ∷ []) ++ branch second first

-- an act without lists that jumps nowhere but to the next act, before that jump
abbrev pub simple_code : Frame → Act → (at : ℕ) → List Line
simple_code f (act.Begin t) at = begin_code f t
simple_code f (act.Lock r) at = lock_code r
simple_code f (act.Plain s) at = statement_code f.areas s at
simple_code f (act.Value k) at = value_code f.areas (statement_at f k) at
simple_code f (act.Look k) at = look_code f k
simple_code f (act.Drop k) at = drop_code f k
simple_code f (act.Issue k) at = issue_code f k (statement_at f k)
simple_code f (act.Seal k) at = seal_code f k (site_at f k)
simple_code f (act.Take k) at = take_code f k
simple_code f (act.Write k) at = write_code (statement_at f k)
simple_code f (act.Enter k) at = enter_code (ann_of (site_at f k)) k
simple_code f (act.Transfer k leg) at = transfer_code f k leg
simple_code f _ at = []

-- a test, a choice, a block's end and a copy's classes, by the code of their lists and where these begin and are entered
abbrev pub tested : (condition : List Line) → (first second : ℕ) → (yes_part no_part : List Line) → List Line
tested condition first second yes_part no_part = condition ++ (test_code first second ++ (yes_part ++ no_part))

abbrev pub chosen : (keeps : List Line) → (to other : ℕ) → (issue_part keep_part : List Line) → List Line
chosen keeps to other issue_part keep_part = keeps ++ (branch to other ++ (issue_part ++ keep_part))

abbrev pub left_code : (site next at : ℕ) → List Line → List Line
left_code k next at part = leave_code k ++ (branch next at ++ part)

abbrev pub classed : (keeps : Bool) → (site at single private rest : ℕ) → (single_part private_part rest_part : List Line) → List Line
classed keeps k at single private rest single_part private_part rest_part =
    class_test keeps k 1 single (at + 6) ++ (class_test keeps k 2 private rest ++ (single_part ++ (private_part ++ rest_part)))

-- a region that the task hasn't is not restored
abbrev pub restored : Frame → (region next : ℕ) → List Line
restored f r next = cond (nat_lt r (length f.firsts)) (restore_code f r next) []

-- the commit, and the way to the next task's stub
abbrev pub ended : Frame → (next : ℕ) → List Line
ended f t = commit_code f t ++ jump (stub_at (length f.core.tasks) t)

abbrev mutual
  -- the code of an act, at an address, before what comes next; where a copy keeps, its record's class counts
  pub act_code : Frame → (keeps : Bool) → Act → (at next : ℕ) → List Line
  act_code f keeps (act.Restore r) at next = restored f r next
  act_code f keeps (act.Save r) at next = save_code f r next
  act_code f keeps (act.Test' c m yes_row n no_row) at next =
      let yes_at = at + expr_size c + 4 in
      let no_at = yes_at + row_size f yes_row in
      tested (expr_code f.areas c 0 at) (entry yes_row yes_at next) (entry no_row no_at next) (row_code f keeps yes_row yes_at next) (row_code f keeps no_row no_at next)
  act_code f keeps (act.Choose' k m issue_row n keep_row) at next =
      let issue_at = at + keeps_size (site_at f k) + 3 in
      let keep_at = issue_at + row_size f issue_row in
      chosen (keeps_code (site_at f k) k) (entry keep_row keep_at next) (entry issue_row issue_at next) (row_code f false issue_row issue_at next) (row_code f true keep_row keep_at next)
  act_code f keeps (act.Leave' k m row) at next = left_code k next (entry row (at + 8) next) (row_code f keeps row (at + 8) next)
  act_code f keeps (act.ByClass' k l single_row m private_row n rest_row) at next =
      let single_at = at + 12 in
      let private_at = single_at + row_size f single_row in
      let rest_at = private_at + row_size f private_row in
      classed keeps k at (entry single_row single_at next) (entry private_row private_at next) (entry rest_row rest_at next)
      (row_code f keeps single_row single_at next) (row_code f keeps private_row private_at next) (row_code f keeps rest_row rest_at next)
  act_code f keeps (act.KeepWords k) at next = keep_words_code f k at next
  act_code f keeps (act.PutWords k) at next = put_words_code f k at next
  act_code f keeps (act.Commit t) at next = ended f t
  act_code f keeps a at next = simple_code f a at ++ jump next

  -- the code of a row's acts; the last goes on with what comes behind the row
  pub row_code : Frame → (keeps : Bool) → {n : _} → Row_of-Act n → (at next : ℕ) → List Line
  row_code f keeps end_of-Act at next = []
  row_code f keeps (more_of-Act a rest) at next = act_code f keeps a at (entry rest (at + act_size f a) next) ++ row_code f keeps rest (at + act_size f a) next

-- the same of acts in a list
abbrev pub acts_entry : List Act → (at next : ℕ) → ℕ
acts_entry [] at next = next
acts_entry (a ∷ rest) at next = at

abbrev pub acts_code : Frame → (keeps : Bool) → List Act → (at next : ℕ) → List Line
acts_code f keeps [] at next = []
acts_code f keeps (a ∷ rest) at next = act_code f keeps a at (acts_entry rest (at + act_size f a) next) ++ acts_code f keeps rest (at + act_size f a) next
