-- A call is valued: its target, and its arguments.
use Rattle.std.specs.Prelude.{Option, Some, None}
use Rattle.std.proofs.Common.{◌≡◌, ◌∙◌, ℕ, ◌+◌, ◌<◌, ◌≤◌, List, [], ◌∷◌, ◌++◌, length, Result, Ok, Err, refl, sym, ap, subst, append_assoc, length-append, arith}
use Rattle.task_ast.specs.declared.core_form.CoreExpr.{CoreExpr}
use Rattle.task_ast.specs.declared.core_form.CoreTarget.{CoreTarget}
use Rattle.task_ast.specs.WellFormed.{Scope}
use Rattle.walk_run.specs.declared.place.Place.{Place}
use Rattle.walk_run.specs.declared.trap.Trap as walked
use Rattle.walk_run.specs.PlainSteps.{target_steps, found_steps}
use Rattle.walk_run.specs.Store.{Store}
use Rattle.walk_run.specs.Trap.{code_of}
use Rattle.walk_run.specs.Value.{target_place}
use Rattle.word_isa.specs.declared.instr.Instr.TheVariants.{St, Jmp}
use Rattle.word_machine.specs.State.{Program}
use Rattle.word_machine.specs.Straight.{Spot}
use Rattle.run_plan.specs.Deeds.{all_values}
use Rattle.line_code.specs.declared.line.Line.{Line}
use Rattle.line_code.specs.Lines.{bares}
use Rattle.line_code.specs.Sizes.{expr_size, target_size}
use Rattle.line_code.specs.Expressions.{expr_code, target_code}
use Rattle.line_laws.specs.CodeSizes.{target_long, expr_long}
use Rattle.line_laws.specs.Gives.{Gives}
use Rattle.line_laws.specs.Goals.{place_goal}
use Rattle.line_laws.specs.Relation.{Layout, place_address, Related}
use Rattle.line_laws.specs.Standing.{Lie, lie_front, lie_behind}
use Rattle.line_laws.specs.Works.{Works, TargetWorks}
use Rattle.word_code.specs.Acts.{jump}
use Rattle.word_code.specs.Values.{args_code, args_size}
use Rattle.act_laws.specs.Codes.{Fixed, HasFixed, Acts}
use Rattle.act_laws.specs.Values.{Nearly, Traps, Argued, Based, AreArguments, arguments_steps, with_arguments, with_more, address_found, CallDoes, TargetCallDoes}
use Rattle.act_laws.proofs.Arguments.{Behind, IsArgument, came_place, cell_behind, argued_then, arguments_act}
use Rattle.act_laws.proofs.BlockActs.{acts_jump}

-- a trap of a place is a trap
pub place_trap : (p : Program) (l : Layout) (m most mid : ℕ) (why : walked.Trap) (s : Spot) → Gives p 0 m s (place_goal l 0 mid (Err why)) → m ≤ most → Traps p most s (code_of why)
place_trap p l m most mid why s g few = record { steps = g.steps; few = omega (arith, g.few, few); ended = ap (λ u. u.ending) g.runs ∙ g.met.ended; quiet = g.shows ∙ g.met.quiet }

-- the jump behind arguments
argued_jump : (p : Program) (x : Fixed) (m pc next cell : ℕ) (s : Spot) (r : Result (List ℕ) walked.Trap) → Argued p x m s pc cell r → Lie p pc (jump next) → Argued p x (m + 1) s next cell r
argued_jump p x m pc next cell s (Ok words) a has = record {
  left = a.left;
  same = a.same;
  acts = acts_jump p x m (m + 1) next s (record { pc = pc; store = a.left; issued = s.issued; atoms = [] }) a.acts has (omega arith);
}
argued_jump p x m pc next cell s (Err why) a has = record { steps = a.steps; few = omega (arith, a.few); ended = a.ended; quiet = a.quiet }

-- arguments have as many lines as their size says
args_long : (l : Layout) (es : List CoreExpr) (cell at : ℕ) → length (args_code l.areas es cell at) ≡ args_size es
args_long l [] cell at = refl
args_long l (e ∷ es) cell at =
    let next : ℕ = at + expr_size e + 1 in
    omega (arith, length-append (expr_code l.areas e 0 at) (bares (St 1 15 cell ∷ []) ++ args_code l.areas es (cell + 1) next), expr_long l.areas e 0 at, args_long l es (cell + 1) next)

pub call_acts : (works : (p : Program) (scope : Scope) (l : Layout) (store : Store) (e : CoreExpr) → Works p scope l store e)
    → (p : Program) (x : Fixed) (scope : Scope) (l : Layout) (store : Store) (k q : ℕ) (es : List CoreExpr) (next : ℕ) (s : Spot) → CallDoes p x scope l store k q es next s
call_acts works p x scope l store k q es next s based h related good few has =
    let code : List Line = args_code l.areas es 33 s.pc in
    argued_jump p x (arguments_steps es store) (s.pc + args_size es) next 33 s (all_values es store)
    (arguments_act works es p x scope l store s.pc 33 s refl based h related good (omega arith) (omega (arith, few)) (lie_front p s.pc code (jump next) (called k has)))
    (lie_behind p s.pc code (jump next) (s.pc + args_size es) (called k has) (omega (arith, args_long l es 33 s.pc)))
  where
    called : (k : ℕ) → Lie p s.pc (([] ++ args_code l.areas es 33 (s.pc + 0)) ++ jump next) → Lie p s.pc (args_code l.areas es 33 s.pc ++ jump next)
    called k has = subst (λ at. Lie p s.pc (args_code l.areas es 33 at ++ jump next)) (omega arith) has

-- the address of the target, and then the arguments
aimed_by : (p : Program) (x : Fixed) (l : Layout) (c : ℕ) (store : Store) (n m mid pc : ℕ) (s : Spot) (r : Result Place walked.Trap) (rest : Result (List ℕ) walked.Trap) → Based x l → HasFixed x s → Related l c s store
    → Gives p 0 n s (place_goal l 0 mid r) → Lie p mid (bares (St 1 15 32 ∷ [])) → ((word : ℕ) (b : Behind p x l c store (n + 1) (mid + 1) 32 word s) → Argued p x m b.there pc 33 rest)
    → Argued p x (n + 1 + found_steps r (λ at. m)) s pc 32 (with_more (address_found l r) rest)
aimed_by p x l c store n m mid pc s (Ok at) rest based h related g at_store go =
    let word : ℕ = place_address l at.array at.index in
    let b : Behind p x l c store (n + 1) (mid + 1) 32 word s = cell_behind p x l c store n mid 32 word s based h related (record { low = omega arith; high = omega arith }) (came_place p l n mid at s g) at_store in
    argued_then p x l c store (n + 1) m _ (mid + 1) pc 32 word s rest b (go word b) (omega arith)
aimed_by p x l c store n m mid pc s (Err why) rest based h related g at_store go = place_trap p l n _ mid why s g (omega arith)

pub target_call_acts : (works : (p : Program) (scope : Scope) (l : Layout) (store : Store) (e : CoreExpr) → Works p scope l store e) → (targets : (p : Program) (scope : Scope) (l : Layout) (store : Store) (x : CoreTarget) → TargetWorks p scope l store x)
    → (p : Program) (x : Fixed) (scope : Scope) (l : Layout) (store : Store) (k q : ℕ) (target : CoreTarget) (es : List CoreExpr) (next : ℕ) (s : Spot) → TargetCallDoes p x scope l store k q target es next s
target_call_acts works targets p x scope l store k q target es next s based h related over good few has =
    let size : ℕ = target_size target + 1 in
    let first : List Line = target_code l.areas target s.pc in
    let store_line : List Line = bares (St 1 15 32 ∷ []) in
    let code : List Line = args_code l.areas es 33 (s.pc + size) in
    let whole : Lie p s.pc (first ++ (store_line ++ (code ++ jump next))) =
    subst (Lie p s.pc) (append_assoc (first ++ store_line) code (jump next) ∙ append_assoc first store_line (code ++ jump next)) has in
    let at_store : Lie p (s.pc + target_size target) (store_line ++ (code ++ jump next)) = lie_behind p s.pc first (store_line ++ (code ++ jump next)) (s.pc + target_size target) whole (omega (arith, target_long l.areas target s.pc)) in
    let at_code : Lie p (s.pc + size) (code ++ jump next) = subst (λ n. Lie p n (code ++ jump next)) (omega arith) at_store.1 in
    let steps : ℕ = arguments_steps es store in
    let end : ℕ = s.pc + size + args_size es in
    argued_jump p x (target_steps target + 9 + found_steps (target_place target store) (λ at. steps)) end next 32 s (with_more (address_found l (target_place target store)) (all_values es store))
    (subst (λ n. Argued p x (n + found_steps (target_place target store) (λ at. steps)) s end 32 (with_more (address_found l (target_place target store)) (all_values es store))) (omega arith)
    (aimed_by p x l scope.pointers store (target_steps target + 8) steps (s.pc + target_size target) end s (target_place target store) (all_values es store) based h related
    (targets p scope l store target s.pc s refl (lie_front p s.pc first (store_line ++ (code ++ jump next)) whole) related over) (at_store.0, tt)
    (λ word b. arguments_act works es p x scope l store (s.pc + size) 33 b.there (omega (arith, b.at)) based b.fixed b.related good (omega arith) (omega (arith, few)) (lie_front p (s.pc + size) code (jump next) at_code))))
    (lie_behind p (s.pc + size) code (jump next) end at_code (omega (arith, args_long l es 33 (s.pc + size))))
