-- The arguments of a call go to their cells, one after another, or the first that traps does.
use Rattle.std.specs.Prelude.{◌==◌, if◌then◌else◌, Option, Some, None}
use Rattle.std.proofs.Common.{◌≡◌, ◌∙◌, ℕ, ◌+◌, ◌<◌, ◌≤◌, true, false, List, [], ◌∷◌, ◌++◌, length, Result, Ok, Err, refl, sym, ap, subst, arith, length-append}
use Rattle.std.proofs.lemmas.Bool.Decides.{nat_tests}
use Rattle.fram_ram.specs.Memories.{has_word, put}
use Rattle.task_ast.specs.declared.core_form.CoreExpr.{CoreExpr}
use Rattle.task_ast.specs.WellFormed.{Scope}
use Rattle.walk_run.specs.declared.place.Place.{Place}
use Rattle.walk_run.specs.PlainSteps.{expr_steps, found_steps}
use Rattle.walk_run.specs.Store.{Store, place, word_at, pointed}
use Rattle.walk_run.specs.Trap.{code_of}
use Rattle.walk_run.specs.Value.{value_of}
use Rattle.walk_run.specs.declared.trap.Trap as walked
use Rattle.word_isa.specs.declared.instr.Instr.TheVariants.{St}
use Rattle.word_machine.specs.State.{Program}
use Rattle.word_machine.specs.Step.{exec}
use Rattle.word_machine.specs.Straight.{Spot, live}
use Rattle.word_machine.specs.RunLaws.{exec_more, trace_more}
use Rattle.word_machine.specs.Traces.{trace}
use Rattle.run_plan.specs.Deeds.{all_values}
use Rattle.line_code.specs.declared.line.Line.{Line}
use Rattle.line_code.specs.Areas.{pointer_at}
use Rattle.line_code.specs.Lines.{bares}
use Rattle.line_code.specs.Sizes.{expr_size}
use Rattle.line_code.specs.Expressions.{expr_code}
use Rattle.line_laws.specs.CodeSizes.{expr_long}
use Rattle.line_laws.specs.Gives.{is_temp, Same, Gives, word_goal}
use Rattle.line_laws.specs.Goals.{place_goal}
use Rattle.line_laws.specs.Relation.{Layout, base_at, place_address, is_cell, Points, Related}
use Rattle.line_laws.specs.Standing.{Lie, lie_front, lie_behind}
use Rattle.line_laws.specs.Works.{Works}
use Rattle.word_code.specs.Values.{args_code, args_size}
use Rattle.act_laws.specs.Codes.{Fixed, HasFixed, Goes, Acts, RamCell, after_code}
use Rattle.act_laws.specs.CodeLaws.{goes_acts, goes_code, goes_then, arrived, shape_is, ram_cell}
use Rattle.act_laws.specs.Values.{Nearly, Traps, with_arguments, with_more, arguments_steps, AreArguments, Argued, Based, ArgumentsDo}
use Rattle.act_laws.proofs.Counted.{counted, issued_traced}
use Rattle.act_laws.proofs.Valued.{fixed_same, valued_trap}

-- the cells of pointers stand behind those of arguments
points_stay : (l : Layout) (cell : ℕ) (at : Option Place) (m n : ℕ → ℕ) → n (1048576 + cell) ≡ m (1048576 + cell) → n (1048576 + (cell + 1)) ≡ m (1048576 + (cell + 1)) → Points l cell at m → Points l cell at n
points_stay l cell None m n one two h = two ∙ h
points_stay l cell (Some at) m n one two h = (one ∙ h.0, two ∙ h.1, h.2)

-- a store stays related where only cells of RAM before the pointers' have changed
pub related_acts : (x : Fixed) (l : Layout) (c : ℕ) (s t : Spot) (store : Store) → Based x l → Related l c s store → HasFixed x t → ((a : ℕ) → is_cell a ≡ false → t.store a ≡ s.store a)
    → ((k : ℕ) → 320 ≤ k → t.store (1048576 + k) ≡ s.store (1048576 + k)) → Related l c t store
related_acts x l c s t store based related h same high = record {
  zero_is = h.0;
  ram_is = h.4;
  few = related.few;
  many = related.many;
  arrays = λ array. record {
    base = (related.arrays array).base;
    from = ap (λ f. f (base_at l array)) (shape_is x t h) ∙ based array t.regs;
    rooms = (related.arrays array).rooms;
    cells = λ i below. let c = (related.arrays array).cells i below in record { there = c.there; apart = c.apart; holds = same (place_address l array i) c.apart ∙ c.holds; fits = c.fits };
  };
  pointers = λ pointer below. points_stay l (pointer_at pointer) (pointed store pointer) s.store t.store (high (pointer_at pointer) (omega arith)) (high (pointer_at pointer + 1) (omega arith)) (related.pointers pointer below);
}

same_arguments : (words : List ℕ) (cell a : ℕ) (f g : ℕ → ℕ) → f a ≡ g a → with_arguments words cell f a ≡ with_arguments words cell g a
same_arguments [] cell a f g e = e
same_arguments (word ∷ words) cell a f g e = same_arguments words (cell + 1) a _ _ (ap (λ (w : ℕ). if 1048576 + cell == a then word else w) e)

-- the offsets of the arguments' cells
pub record IsArgument (cell : ℕ) : Type 0 where
  pub low : 32 ≤ cell
  pub high : cell < 320

no_cell : (cell a : ℕ) → IsArgument cell → is_cell a ≡ false → (1048576 + cell == a) ≡ false
no_cell cell a h k = grind (arith, nat_tests, h.high)

no_temp : (a : ℕ) → is_cell a ≡ false → is_temp 0 a ≡ false
no_temp a h = grind (arith, nat_tests)

no_pointer : (cell k : ℕ) → IsArgument cell → 320 ≤ k → (1048576 + cell == 1048576 + k) ≡ false
no_pointer cell k h far = grind (arith, nat_tests, h.high, far)

high_temp : (k : ℕ) → 320 ≤ k → is_temp 0 (1048576 + k) ≡ false
high_temp k far = grind (arith, nat_tests, far)

-- where the machine is behind an argument
pub record Behind (p : Program) (x : Fixed) (l : Layout) (c : ℕ) (store : Store) (most pc cell word : ℕ) (s : Spot) : Type 0 where
  pub steps : ℕ
  pub few : steps ≤ most
  pub there : Spot
  pub goes : Goes p steps s there []
  pub at : there.pc ≡ pc
  pub fixed : HasFixed x there
  pub related : Related l c there store
  pub counts : there.issued ≡ s.issued
  pub stored : (a : ℕ) → is_temp 0 a ≡ false → there.store a ≡ put s.store (1048576 + cell) word a

-- a word that came into register 1, with nothing seen
pub record Came (p : Program) (most mid word : ℕ) (s : Spot) : Type 0 where
  pub steps : ℕ
  pub few : steps ≤ most
  pub there : Spot
  pub runs : exec p steps (live s) ≡ live there
  pub quiet : trace p steps (live s) ≡ []
  pub at : there.pc ≡ mid
  pub has : there.regs 1 ≡ word
  pub same : Same 0 s there

pub came_word : (p : Program) (m mid word : ℕ) (s : Spot) → Gives p 0 m s (word_goal 0 mid (Ok word)) → Came p m mid word s
came_word p m mid word s g = record { steps = g.steps; few = g.few; there = g.met.there; runs = g.runs ∙ g.met.goes_on; quiet = g.shows ∙ g.met.quiet; at = g.met.at; has = g.met.has; same = g.met.same }

pub came_place : (p : Program) (l : Layout) (m mid : ℕ) (at : Place) (s : Spot) → Gives p 0 m s (place_goal l 0 mid (Ok at)) → Came p m mid (place_address l at.array at.index) s
came_place p l m mid at s g = record { steps = g.steps; few = g.few; there = g.met.there; runs = g.runs ∙ g.met.goes_on; quiet = g.shows ∙ g.met.quiet; at = g.met.arrives; has = g.met.address; same = g.met.same }

-- it goes to a cell
pub cell_behind : (p : Program) (x : Fixed) (l : Layout) (c : ℕ) (store : Store) (m mid cell word : ℕ) (s : Spot) → Based x l → HasFixed x s → Related l c s store → IsArgument cell
    → Came p m mid word s → Lie p mid (bares (St 1 15 cell ∷ [])) → Behind p x l c store (m + 1) (mid + 1) cell word s
unfolding has_word
cell_behind p x l c store m mid cell word s based h related is g code =
    let r : RamCell cell = ram_cell cell (omega (arith, is.high)) in
    let t : Spot = g.there in
    let last : List Line = bares (St 1 15 cell ∷ []) in
    let u : Spot = after_code p last t in
    let fixed : HasFixed x t = fixed_same x 0 s t h g.same in
    let stored : (a : ℕ) → is_temp 0 a ≡ false → u.store a ≡ put s.store (1048576 + cell) word a =
    λ a k. rw (fixed.4, r.wraps, g.has) (ap (λ (w : ℕ). if 1048576 + cell == a then word else w) (g.same.kept a k)) in
    record {
      steps = g.steps + 1;
      few = omega (arith, g.few);
      there = u;
      goes = goes_then p g.steps 1 _ s t u [] [] [] (record { runs = g.runs; seen = g.quiet })
          (subst (λ a. Goes p 1 t u a) (rw (fixed.4, r.wraps, r.apart)) (goes_code p last t (subst (λ n. Lie p n last) (sym g.at) code) (rw (fixed.4, r.wraps, r.apart, r.ram)))) refl refl;
      at = omega (arith, g.at);
      fixed = fixed;
      related = related_acts x l c s u store based related fixed (λ a k. stored a (no_temp a k) ∙ rw (no_cell cell a is k)) (λ k far. stored (1048576 + k) (high_temp k far) ∙ rw (no_pointer cell k is far));
      counts = ap (λ v. v.issued) (sym g.runs) ∙ issued_traced p g.steps (live s) ∙ ap (λ a. counted p a s.issued) g.quiet;
      stored = stored;
    }

-- steps that show nothing before a trap
pub goes_traps : (p : Program) (n m most code : ℕ) (s t : Spot) → Goes p n s t [] → Traps p m t code → n + m ≤ most → Traps p most s code
goes_traps p n m most code s t g h few = record {
  steps = n + h.steps;
  few = omega (arith, h.few, few);
  ended = ap (λ u. u.ending) (exec_more p n h.steps (live s) ∙ ap (exec p h.steps) g.runs) ∙ h.ended;
  quiet = trace_more p n h.steps (live s) ∙ ap (λ l. l ++ trace p h.steps (exec p n (live s))) g.seen ∙ ap (trace p h.steps) g.runs ∙ h.quiet;
}

-- what the rest of the arguments comes to, behind the first one
pub argued_then : (p : Program) (x : Fixed) (l : Layout) (c : ℕ) (store : Store) (n m most at pc cell word : ℕ) (s : Spot) (r : Result (List ℕ) walked.Trap) → (b : Behind p x l c store n at cell word s) → Argued p x m b.there pc (cell + 1) r → n + m ≤ most
    → Argued p x most s pc cell (with_more (Ok word) r)
argued_then p x l c store n m most at pc cell word s (Ok words) b rest few = record {
  left = rest.left;
  same = λ a h. rest.same a h ∙ same_arguments words (cell + 1) a b.there.store (put s.store (1048576 + cell) word) (b.stored a h);
  acts = subst (λ c. Acts p x most s (record { pc = pc; store = rest.left; issued = c; atoms = [] })) b.counts (goes_acts p x b.steps m most s b.there _ [] [] b.goes rest.acts (omega (arith, b.few, few)) refl);
}
argued_then p x l c store n m most at pc cell word s (Err why) b rest few = goes_traps p b.steps m most (code_of why) s b.there b.goes rest (omega (arith, b.few, few))

-- the first argument's value, and then the rest
argued_by : (p : Program) (x : Fixed) (l : Layout) (c : ℕ) (store : Store) (n m mid pc cell : ℕ) (s : Spot) (v : Result ℕ walked.Trap) (rest : Result (List ℕ) walked.Trap) → Based x l → HasFixed x s → Related l c s store → IsArgument cell
    → Gives p 0 n s (word_goal 0 mid v) → Lie p mid (bares (St 1 15 cell ∷ [])) → ((word : ℕ) (b : Behind p x l c store (n + 1) (mid + 1) cell word s) → Argued p x m b.there pc (cell + 1) rest)
    → Argued p x (n + 1 + found_steps v (λ word. m)) s pc cell (with_more v rest)
argued_by p x l c store n m mid pc cell s (Ok word) rest based h related is g at_store go =
    let b : Behind p x l c store (n + 1) (mid + 1) cell word s = cell_behind p x l c store n mid cell word s based h related is (came_word p n mid word s g) at_store in
    argued_then p x l c store (n + 1) m _ (mid + 1) pc cell word s rest b (go word b) (omega arith)
argued_by p x l c store n m mid pc cell s (Err why) rest based h related is g at_store go = valued_trap p n _ mid why s g (omega arith)

-- the arguments, one after another
pub arguments_act : (works : (p : Program) (scope : Scope) (l : Layout) (store : Store) (e : CoreExpr) → Works p scope l store e)
    → (es : List CoreExpr) (p : Program) (x : Fixed) (scope : Scope) (l : Layout) (store : Store) (at cell : ℕ) (s : Spot) → s.pc ≡ at → Based x l → HasFixed x s → Related l scope.pointers s store → AreArguments scope es → 32 ≤ cell → cell + length es ≤ 320
    → Lie p at (args_code l.areas es cell at) → Argued p x (arguments_steps es store) s (at + args_size es) cell (all_values es store)
arguments_act works [] p x scope l store at cell s here based h related good low high has =
    record { left = s.store; same = λ a k. refl; acts = arrived p x 0 s _ h (omega (arith, here)) refl refl refl }
arguments_act works (e ∷ es) p x scope l store at cell s here based h related good low high has =
    let code : List Line = expr_code l.areas e 0 at in
    let next : ℕ = at + expr_size e + 1 in
    let rest : List Line = args_code l.areas es (cell + 1) next in
    let tail : List Line = bares (St 1 15 cell ∷ []) ++ rest in
    let at_tail : Lie p (at + expr_size e) tail = lie_behind p at code tail (at + expr_size e) has (omega (arith, expr_long l.areas e 0 at)) in
    let end : next + args_size es ≡ at + (expr_size e + 1 + args_size es) = omega arith in
    subst (λ pc. Argued p x (arguments_steps (e ∷ es) store) s pc cell (all_values (e ∷ es) store)) end
    (argued_by p x l scope.pointers store (expr_steps e) (arguments_steps es store) (at + expr_size e) (next + args_size es) cell s (value_of e store) (all_values es store) based h related (record { low = low; high = omega (arith, high) })
    (works p scope l store e 0 at s here (lie_front p at code tail has) related good.0 good.1) (at_tail.0, tt)
    (λ word b. arguments_act works es p x scope l store next (cell + 1) b.there b.at based b.fixed b.related good.2 (omega (arith, low)) (omega (arith, high)) at_tail.1))
