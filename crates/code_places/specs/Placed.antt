-- Where the code of a plan lies in a machine's program (docs/CODE.md, "The whole").
use Rattle.std.specs.Prelude.{List, [], ◌∷◌, ◌≡◌, ℕ, ◌+◌, Bool, true, false, length, Some, slice_get, slice_index_or}
use Rattle.task_ast.specs.declared.core_form.Core.{Core}
use Rattle.task_ast.specs.declared.core_form.CoreTask.{CoreTask}
use Rattle.word_isa.specs.declared.instr.Instr.TheVariants.{Halt}
use Rattle.word_machine.specs.State.{Program, program_of}
use Rattle.word_machine.specs.Straight.{Stand}
use Rattle.line_code.specs.Sizes.{expr_size}
use Rattle.line_laws.specs.Standing.{Lie}
use Rattle.run_plan.specs.declared.act.Act.{Act, Row_of-Act, end_of-Act, more_of-Act}
use Rattle.run_plan.specs.declared.act.Act.TheVariants as act
use Rattle.run_plan.specs.declared.parts.Plan.{Plan}
use Rattle.word_code.specs.ActCode.{act_code, acts_entry, entry}
use Rattle.word_code.specs.Acts.{jump}
use Rattle.word_code.specs.CodeOf.{code_of, frame_at, marks_of, words_of}
use Rattle.word_code.specs.Frames.{Frame, halt_at, site_at, stride, stub_at}
use Rattle.word_code.specs.Heads.{boot_at, head_code}
use Rattle.word_code.specs.Sizes.{act_size, acts_size, row_size}
use Rattle.word_code.specs.Tables.{keeps_size}

abbrev mutual
  -- an act's code lies at an address, and in it that of each act of its lists; where a copy keeps, its record's class counts
  pub ActLies : Program → Frame → (keeps : Bool) → Act → (at next : ℕ) → Type 0
  ActLies p f keeps (act.Test' c m yes_row n no_row) at next =
      let yes_at = at + expr_size c + 4 in
      Lie p at (act_code f keeps (act.Test' c m yes_row n no_row) at next) × RowLies p f keeps yes_row yes_at next × RowLies p f keeps no_row (yes_at + row_size f yes_row) next
  ActLies p f keeps (act.Choose' k m issue_row n keep_row) at next =
      let issue_at = at + keeps_size (site_at f k) + 3 in
      Lie p at (act_code f keeps (act.Choose' k m issue_row n keep_row) at next) × RowLies p f false issue_row issue_at next × RowLies p f true keep_row (issue_at + row_size f issue_row) next
  ActLies p f keeps (act.Leave' k m row) at next = Lie p at (act_code f keeps (act.Leave' k m row) at next) × RowLies p f keeps row (at + 8) next
  ActLies p f keeps (act.ByClass' k l single_row m private_row n rest_row) at next =
      let private_at = at + 12 + row_size f single_row in
      Lie p at (act_code f keeps (act.ByClass' k l single_row m private_row n rest_row) at next)
      × RowLies p f keeps single_row (at + 12) next × RowLies p f keeps private_row private_at next × RowLies p f keeps rest_row (private_at + row_size f private_row) next
  ActLies p f keeps a at next = Lie p at (act_code f keeps a at next)

  -- that of a row's acts, each before what comes next in it
  pub RowLies : Program → Frame → (keeps : Bool) → {n : _} → Row_of-Act n → (at next : ℕ) → Type 0
  RowLies p f keeps end_of-Act at next = Unit {0}
  RowLies p f keeps (more_of-Act a rest) at next = let behind_at = at + act_size f a in ActLies p f keeps a at (entry rest behind_at next) × RowLies p f keeps rest behind_at next

-- and that of acts in a list
abbrev pub ActsLie : Program → Frame → (keeps : Bool) → List Act → (at next : ℕ) → Type 0
ActsLie p f keeps [] at next = Unit {0}
ActsLie p f keeps (a ∷ rest) at next = let behind_at = at + act_size f a in ActLies p f keeps a at (acts_entry rest behind_at next) × ActsLie p f keeps rest behind_at next

-- The task at a place among the program's tasks: from its boot stub its code for a boot is reached, which ends at that of its
-- attempts; and from its stub the latter.
pub record TaskLies (p : Program) (plan : Plan) (c : Core) (n : ℕ) (t : CoreTask) : Type 0 where
  pub top : ℕ
  pub boot_stub : Lie p (boot_at (length c.tasks) (n + 1)) (jump top)
  pub boot : ActsLie p (frame_at plan c n t) false plan.boot top (top + acts_size (frame_at plan c n t) plan.boot)
  pub stub : Lie p (stub_at (length c.tasks) (n + 1)) (jump (top + acts_size (frame_at plan c n t) plan.boot))
  pub acts : ActsLie p (frame_at plan c n t) false (slice_index_or plan.tasks n []) (top + acts_size (frame_at plan c n t) plan.boot) 0

-- the whole code: the head, the halt, and each task
pub record IsPlaced (p : Program) (plan : Plan) (c : Core) : Type 0 where
  pub head : Lie p 0 (head_code (stride plan.scheme) (length c.tasks))
  pub halt : Stand p (halt_at (length c.tasks)) Halt
  pub tasks : (n : ℕ) (t : CoreTask) → slice_get c.tasks n ≡ Some t → TaskLies p plan c n t

-- the program of a plan's code, where each peripheral has these readings
abbrev pub program_by : Plan → Core → (values : ℕ → List ℕ) → Program
program_by plan c values = program_of (words_of (code_of plan c)) (marks_of 0 (code_of plan c)) values
