-- Acts that value an expression (docs/CODE.md, "What is proved"): but for the cells of words in between the memory is told.
use Rattle.std.specs.Prelude.{◌≡◌, ℕ, ◌+◌, ◌-◌, ◌<◌, ◌≤◌, ◌&&◌, not, nat_lt, Option, Some, None, Bool, true, false, List, [], ◌∷◌, ◌++◌, length, Result, Ok, Err, if◌then◌else◌}
use Rattle.ease_base.specs.Found.{with_found}
use Rattle.fram_ram.specs.Memories.{put}
use Rattle.task_ast.specs.declared.core_form.CoreExpr.{CoreExpr}
use Rattle.task_ast.specs.declared.core_form.CoreStmt.{CoreStmt}
use Rattle.task_ast.specs.declared.core_form.CoreStmt.TheVariants as stmt
use Rattle.task_ast.specs.declared.core_form.CoreTarget.{CoreTarget}
use Rattle.task_ast.specs.declared.core_form.CoreEnd.{CoreEnd}
use Rattle.task_ast.specs.declared.core_form.CoreEnd.TheVariants as end
use Rattle.task_ast.specs.Pointing.{addresses}
use Rattle.task_ast.specs.WellFormed.{Scope, IsOver}
use Rattle.walk_run.specs.Operators.{holds}
use Rattle.walk_run.specs.Plain.{plain_done}
use Rattle.walk_run.specs.PlainSteps.{expr_steps, target_steps, end_steps, found_steps, plain_steps}
use Rattle.walk_run.specs.PlainWrites.{plain_writes}
use Rattle.walk_run.specs.Store.{Store}
use Rattle.walk_run.specs.Trap.{code_of}
use Rattle.walk_run.specs.Value.{value_of, target_place, end_place}
use Rattle.walk_run.specs.declared.place.Place.{Place}
use Rattle.walk_run.specs.declared.trap.Trap.{Trap}
use Rattle.word_machine.specs.State.{Program}
use Rattle.word_machine.specs.Step.{exec}
use Rattle.word_machine.specs.Straight.{Spot, live}
use Rattle.word_machine.specs.Traces.{Atom, trace}
use Rattle.word_machine.specs.declared.ending.Ending.TheVariants.{Trapped}
use Rattle.run_plan.specs.Deeds.{all_values}
use Rattle.line_code.specs.declared.areas.Placed.{Placed}
use Rattle.line_code.specs.Expressions.{expr_code}
use Rattle.line_code.specs.Statements.{statement_code}
use Rattle.line_code.specs.Fitting.{IsShort}
use Rattle.io_flow.specs.Written.{AllWithin, Covers}
use Rattle.line_laws.specs.Gives.{is_temp, Gives}
use Rattle.line_laws.specs.Goals.{run_goal}
use Rattle.line_laws.specs.Suits.{IsOverTarget, Suits}
use Rattle.line_laws.specs.Relation.{Layout, Related, IsApart, base_at, from_at, room_at, place_address}
use Rattle.line_laws.specs.Standing.{Lie}
use Rattle.word_code.specs.ActCode.{test_code}
use Rattle.word_code.specs.Acts.{jump}
use Rattle.word_code.specs.Values.{args_code, args_size, value_code}
use Rattle.act_laws.specs.Words.{class_of}
use Rattle.act_laws.specs.Codes.{Fixed, HasFixed, shaped, Acts}

-- an act whose memory is this one but for the cells of words in between
pub record Nearly (p : Program) (x : Fixed) (most : ℕ) (s : Spot) (pc : ℕ) (store : ℕ → ℕ) (atoms : List Atom) : Type 0 where
  pub left : ℕ → ℕ
  pub same : (a : ℕ) → is_temp 0 a ≡ false → left a ≡ store a
  pub acts : Acts p x most s (record { pc = pc; store = left; issued = s.issued; atoms = atoms })

-- an act that traps before it shows anything
pub record Traps (p : Program) (most : ℕ) (s : Spot) (code : ℕ) : Type 0 where
  pub steps : ℕ
  pub few : steps ≤ most
  pub ended : (exec p steps (live s)).ending ≡ Trapped code
  pub quiet : trace p steps (live s) ≡ []

-- a test leads to one of two lists, or traps
abbrev pub Tested : (p : Program) (x : Fixed) (most : ℕ) (s : Spot) (first second : ℕ) → Result ℕ Trap → Type 0
Tested p x most s first second (Ok word) = Nearly p x most s (if holds word then first else second) s.store []
Tested p x most s first second (Err why) = Traps p most s (code_of why)

abbrev pub TestDoes : (p : Program) (x : Fixed) (scope : Scope) (l : Layout) (store : Store) (e : CoreExpr) (first second : ℕ) (s : Spot) → Type 0
TestDoes p x scope l store e first second s =
    HasFixed x s → Related l scope.pointers s store → IsOver scope e → IsShort 0 e → Lie p s.pc (expr_code l.areas e 0 s.pc ++ test_code first second)
    → Tested p x (expr_steps e + 3) s first second (value_of e store)

-- a memory with the words in the cells from an offset on
abbrev pub with_arguments : List ℕ → (cell : ℕ) → (ℕ → ℕ) → ℕ → ℕ
with_arguments [] cell store = store
with_arguments (word ∷ words) cell store = with_arguments words (cell + 1) (put store (1048576 + cell) word)

-- what the expressions of arguments may take, as far as they are valued, and what is asked of them
abbrev pub arguments_steps : List CoreExpr → Store → ℕ
arguments_steps [] store = 0
arguments_steps (e ∷ es) store = expr_steps e + 1 + found_steps (value_of e store) (λ word. arguments_steps es store)

abbrev pub AreArguments : Scope → List CoreExpr → Type 0
AreArguments scope [] = Unit {0}
AreArguments scope (e ∷ es) = IsOver scope e × IsShort 0 e × AreArguments scope es

-- arguments go to their cells, or the first that traps does
abbrev pub Argued : (p : Program) (x : Fixed) (most : ℕ) (s : Spot) (pc cell : ℕ) → Result (List ℕ) Trap → Type 0
Argued p x most s pc cell (Ok words) = Nearly p x most s pc (with_arguments words cell s.store) []
Argued p x most s pc cell (Err why) = Traps p most s (code_of why)

-- the arrays count from fixed registers
abbrev pub Based : Fixed → Layout → Type 0
Based x l = (array : ℕ) (regs : ℕ → ℕ) → shaped x regs (base_at l array) ≡ from_at l array

abbrev pub ArgumentsDo : (p : Program) (x : Fixed) (scope : Scope) (l : Layout) (store : Store) (es : List CoreExpr) (cell : ℕ) (s : Spot) → Type 0
ArgumentsDo p x scope l store es cell s =
    Based x l → HasFixed x s → Related l scope.pointers s store → AreArguments scope es → 32 ≤ cell → cell + length es ≤ 320 → Lie p s.pc (args_code l.areas es cell s.pc)
    → Argued p x (arguments_steps es store) s (s.pc + args_size es) cell (all_values es store)

-- A statement without sites, which takes some step, and the jump behind it: its writes of FRAM in order, and the store that it
-- leaves, or its trap.
abbrev pub PlainDoes : (p : Program) (scope : Scope) (l : Layout) (s : CoreStmt) (next : ℕ) (t : Spot) (store : Store) → Type 0
PlainDoes p scope l s next t store =
    Lie p t.pc (statement_code l.areas s t.pc ++ jump next) → IsApart l → Related l scope.pointers t store → Suits l scope s → Covers scope.points (λ q. addresses q s) → AllWithin scope.points store
    → 0 < plain_steps s store → Gives p 0 (plain_steps s store) t (run_goal l scope.pointers next (plain_writes s store) (plain_done s store))

-- a value before those of arguments
abbrev pub with_more : Result ℕ Trap → Result (List ℕ) Trap → Result (List ℕ) Trap
with_more v r = with_found v (λ word. with_found r (λ words. Ok (word ∷ words)))

-- the address of a place that was found
abbrev pub address_found : Layout → Result Place Trap → Result ℕ Trap
address_found l r = with_found r (λ at. Ok (place_address l at.array at.index))

-- a call is valued: without a target its arguments go to their cells, else the address of its target to the cell before them
abbrev pub CallDoes : (p : Program) (x : Fixed) (scope : Scope) (l : Layout) (store : Store) (k q : ℕ) (es : List CoreExpr) (next : ℕ) (s : Spot) → Type 0
CallDoes p x scope l store k q es next s =
    Based x l → HasFixed x s → Related l scope.pointers s store → AreArguments scope es → length es ≤ 4 → Lie p s.pc (value_code l.areas (Some (stmt.Io k None q es)) s.pc ++ jump next)
    → Argued p x (arguments_steps es store + 1) s next 33 (all_values es store)

abbrev pub TargetCallDoes : (p : Program) (x : Fixed) (scope : Scope) (l : Layout) (store : Store) (k q : ℕ) (target : CoreTarget) (es : List CoreExpr) (next : ℕ) (s : Spot) → Type 0
TargetCallDoes p x scope l store k q target es next s =
    Based x l → HasFixed x s → Related l scope.pointers s store → IsOverTarget scope target → AreArguments scope es → length es ≤ 4 → Lie p s.pc (value_code l.areas (Some (stmt.Io k (Some target) q es)) s.pc ++ jump next)
    → Argued p x (target_steps target + 9 + found_steps (target_place target store) (λ at. arguments_steps es store) + 1) s next 32 (with_more (address_found l (target_place target store)) (all_values es store))

-- the memory with an end in a cell and its room in the next
abbrev pub with_end : Layout → (cell : ℕ) → Place → (ℕ → ℕ) → ℕ → ℕ
with_end l cell at store = put (put store (1048576 + cell) (place_address l at.array at.index)) (1048576 + (cell + 1)) (room_at l at.array - at.index)

-- its array or pointer is there, and its index short
abbrev pub IsOverEnd : Scope → CoreEnd → Type 0
IsOverEnd scope (end.Cell array i) = IsOver scope i × IsShort 0 i
IsOverEnd scope (end.Pointer q) = q < scope.pointers

-- the length of a copy fits the rooms of both ends
abbrev pub fits : Layout → (to from : Place) → (n : ℕ) → Bool
fits l to from n = not (nat_lt (room_at l to.array - to.index) n) && not (nat_lt (room_at l from.array - from.index) n)

-- the memory with a copy in its cells: its ends with their rooms, its length and its class
abbrev pub with_copy : Layout → (to from : Place) → (n : ℕ) → (ℕ → ℕ) → ℕ → ℕ
with_copy l to from n store =
    put (put (with_end l 42 from (with_end l 40 to store)) 1048620 n) 1048621 (class_of (nat_lt (place_address l to.array to.index) 1048576) (nat_lt (place_address l from.array from.index) 4097))

-- a copy that was valued goes to its cells where it fits, else trap 4
abbrev pub CopyTested : (p : Program) (x : Fixed) (most : ℕ) (s : Spot) (next : ℕ) → (store : ℕ → ℕ) → Bool → Type 0
CopyTested p x most s next store true = Nearly p x most s next store []
CopyTested p x most s next store false = Traps p most s 4

abbrev pub CopyFound : (p : Program) (x : Fixed) (l : Layout) (most : ℕ) (s : Spot) (next : ℕ) → (to from : Result Place Trap) → (n : Result ℕ Trap) → Type 0
CopyFound p x l most s next (Err why) from n = Traps p most s (code_of why)
CopyFound p x l most s next (Ok to) (Err why) n = Traps p most s (code_of why)
CopyFound p x l most s next (Ok to) (Ok from) (Err why) = Traps p most s (code_of why)
CopyFound p x l most s next (Ok to) (Ok from) (Ok n) = CopyTested p x most s next (with_copy l to from n s.store) (fits l to from n)

-- what a copy's valuing may take
abbrev pub copy_steps : (to from : CoreEnd) → CoreExpr → Store → ℕ
copy_steps to from words store = 39 + (end_steps to + found_steps (end_place to store) (λ t. end_steps from + found_steps (end_place from store) (λ f. expr_steps words)))

-- a copy is valued: destination, source, length, each or its trap
abbrev pub CopyDoes : (p : Program) (x : Fixed) (scope : Scope) (l : Layout) (store : Store) (k : ℕ) (to from : CoreEnd) (words : CoreExpr) (next : ℕ) (s : Spot) → Type 0
CopyDoes p x scope l store k to from words next s =
    Based x l → HasFixed x s → Related l scope.pointers s store → IsOverEnd scope to → IsOverEnd scope from → IsOver scope words → IsShort 0 words → Lie p s.pc (value_code l.areas (Some (stmt.Copy k to from words)) s.pc ++ jump next)
    → CopyFound p x l (copy_steps to from words store) s next (end_place to store) (end_place from store) (value_of words store)
