-- The code of an assignment makes its one write, and that of a pointer's assignment sets the pointer; or they trap as the source does.
use Rattle.std.specs.Prelude.{◌==◌, ◌%◌, ◌-◌}
use Rattle.std.proofs.Common.{◌≡◌, ◌∙◌, ℕ, ◌+◌, ◌^◌, ◌<◌, ◌≤◌, true, false, List, [], ◌∷◌, ◌++◌, refl, sym, subst, arith, append_assoc}
use Rattle.std.proofs.lemmas.Bool.Decides.{nat_tests}
use Rattle.fram_ram.specs.Memories.{has_word, is_fram, put}
use Rattle.fram_ram.specs.Addresses.{word_below, ram_has_word}
use Rattle.task_ast.specs.declared.core_form.CoreExpr.{CoreExpr}
use Rattle.task_ast.specs.declared.core_form.CoreTarget.{CoreTarget}
use Rattle.task_ast.specs.WellFormed.{Scope, IsOver}
use Rattle.word_isa.specs.declared.instr.Instr.{Instr}
use Rattle.word_isa.specs.declared.instr.Instr.TheVariants.{Ld, St}
use Rattle.walk_run.specs.declared.place.Place.{Place}
use Rattle.walk_run.specs.Plain.{Ran, done, if_found, assigned, pointed_at}
use Rattle.walk_run.specs.PlainSteps.{expr_steps, target_steps, found_steps, assignment_steps}
use Rattle.walk_run.specs.PlainWrites.{Write, sets, points, found_writes, assignment_writes, pointing_writes}
use Rattle.walk_run.specs.Store.{Store, put_word, put_pointer}
use Rattle.walk_run.specs.Value.{value_of, cell_place, target_place}
use Rattle.word_machine.specs.State.{Program}
use Rattle.word_machine.specs.Straight.{Spot, line}
use Rattle.line_code.specs.declared.line.Line.{Line}
use Rattle.line_code.specs.Areas.{area_at, pointer_at}
use Rattle.line_code.specs.Lines.{bares}
use Rattle.line_code.specs.Sizes.{expr_size, target_size}
use Rattle.line_code.specs.Expressions.{expr_code, target_code, place_code}
use Rattle.line_code.specs.Statements.{assign_code, point_code}
use Rattle.line_code.specs.Fitting.{IsShort}
use Rattle.line_laws.specs.Gives.{IsKept, is_temp, Gives}
use Rattle.line_laws.specs.Goals.{is_frame, run_goal}
use Rattle.line_laws.specs.Relation.{Layout, room_at, place_address, is_cell, Related, IsApart}
use Rattle.line_laws.specs.Standing.{Lie, lie_front, lie_behind}
use Rattle.line_laws.proofs.After.{related_after, related_pointed}
use Rattle.line_laws.specs.CodeSizes.{expr_long, target_long}
use Rattle.line_laws.proofs.Found.{place_then}
use Rattle.line_laws.specs.GiveLaws.{gives_then_deeper, line_comes}
use Rattle.line_laws.proofs.Places.{related_same}
use Rattle.line_laws.specs.Suits.{IsOverTarget}
use Rattle.line_laws.proofs.Placing.{cell_place_gives, target_gives}
use Rattle.line_laws.proofs.RunGoals.{run_trap}
use Rattle.line_laws.proofs.Templates.{temp_gives, temp_there}
use Rattle.line_laws.proofs.ExpressionWorks.{expr_works}

-- a place's address is none of the frame's cells, nor is a pointer's
pub frame_other : (to a : ℕ) → is_cell to ≡ false → is_frame a ≡ true → (to == a) ≡ false
frame_other to a clear frame = grind (arith, nat_tests)

frame_no_pointer : (k a : ℕ) → 320 ≤ k → is_frame a ≡ true → (1048576 + k == a) ≡ false
frame_no_pointer k a far frame = grind (arith, nat_tests)

in_ram : (k : ℕ) → is_fram (1048576 + k) ≡ false
in_ram k = grind (arith, nat_tests)

-- the last two instructions: the word in register 1 goes to the address in the first cell
store_gives : (p : Program) (s : Spot) (l : Layout) (c : ℕ) (store : Store) (at : Place) (word pc : ℕ) → Lie p s.pc (bares (Ld 2 15 0 ∷ St 1 2 0 ∷ [])) → s.pc + 2 ≡ pc → IsApart l → Related l c s store → at.index < room_at l at.array
    → s.store 1048576 ≡ place_address l at.array at.index → s.regs 1 ≡ word → word < 2 ^ 32 → Gives p 0 2 s (run_goal l c pc (sets at word ∷ []) (done (put_word at word store)))
store_gives p s l c store at word pc stands end apart related inside cell_is has fits =
    let is : List Instr = Ld 2 15 0 ∷ St 1 2 0 ∷ [] in
    let to : ℕ = place_address l at.array at.index in
    let cell = (related.arrays at.array).cells at.index inside in
    let there : has_word to ≡ true = cell.there in
    let e : (s.regs 15 + 0) % 2 ^ 32 ≡ 1048576 = omega (arith, related.ram_is) in
    let is_at : s.store ((s.regs 15 + 0) % 2 ^ 32) ≡ to = rw e cell_is in
    let f : (s.store ((s.regs 15 + 0) % 2 ^ 32) + 0) % 2 ^ 32 ≡ to = omega (arith, is_at, word_below to there) in
    let fixed : (r : ℕ) → IsKept r → (line p is s).regs r ≡ s.regs r = λ r h. simp (h.two) in
    let stored : (a : ℕ) → is_temp 0 a ≡ false → (line p is s).store a ≡ put s.store to word a = λ a apart. rw (f, has) in
    line_comes p 0 2 is s (run_goal l c pc (sets at word ∷ []) (done (put_word at word store))) stands
    (refl, rw (e, temp_there 0 (omega arith)), (refl, rw (f, there), tt))
    (record {
      shown = rw (f, has);
      ended = record {
        there = line p is s;
        goes_on = refl;
        arrives = omega (arith, end);
        fixed = fixed;
        kept = λ a k. rw (f, has, frame_other to a cell.apart k);
        related = related_after l c store at word s (line p is s) apart inside fits related fixed stored;
      };
    })
    (omega arith)

lie_at : (p : Program) (a b : ℕ) (is : List Line) → b ≡ a → Lie p a is → Lie p b is
lie_at p a b is e stands = rw e stands

-- an assignment does what the source says
pub assign_gives : (p : Program) (scope : Scope) (l : Layout) (store : Store) (x : CoreTarget) (e : CoreExpr) (at : ℕ) (s : Spot)
    → s.pc ≡ at → Lie p at (assign_code l.areas x e at) → IsApart l → Related l scope.pointers s store → IsOverTarget scope x → IsOver scope e → IsShort 1 e
    → Gives p 0 (15 + (target_steps x + found_steps (target_place x store) (λ place. expr_steps e))) s (run_goal l scope.pointers (at + (target_size x + expr_size e + 3)) (assignment_writes x e store) (assigned x e store))
assign_gives p scope l store x e at s here stands apart related over_x over_e short =
    let c : ℕ = scope.pointers in
    let first : List Line = target_code l.areas x at in
    let from : ℕ = at + target_size x + 1 in
    let second : List Line = expr_code l.areas e 1 from in
    let tail : List Line = bares (Ld 2 15 0 ∷ St 1 2 0 ∷ []) in
    let rest : List Line = bares (St 1 15 0 ∷ []) ++ (second ++ tail) in
    let pc : ℕ = from + expr_size e + 2 in
    let end : at + (target_size x + expr_size e + 3) ≡ pc = omega arith in
    let at_cell : Lie p (at + target_size x) rest = lie_behind p at first rest (at + target_size x) stands (omega (arith, target_long l.areas x at)) in
    let at_second : Lie p from (second ++ tail) = at_cell.1 in
    let at_tail : Lie p (from + expr_size e) tail = lie_behind p from second tail (from + expr_size e) at_second (omega (arith, expr_long l.areas e 1 from)) in
    let go_writes : Place → List Write = λ place. found_writes (value_of e store) (λ word. sets place word ∷ []) in
    let go : Place → Ran = λ place. if_found (value_of e store) store (λ word. done (put_word place word store)) in
    rw end (place_then p 0 (target_steps x + 8) (λ place. expr_steps e + 3) s l (at + target_size x) (λ r. run_goal l c pc (found_writes r go_writes) (if_found r store go))
    (λ r. 15 + (target_steps x + found_steps r (λ place. expr_steps e))) (target_place x store)
    (target_gives p scope l store x at s here (lie_front p at first rest stands) related over_x)
    (λ place t h.
    let related_t : Related l c t store = related_same l c 0 s t store related h.same in
    temp_gives p 0 (expr_steps e + 2) (expr_steps e + 3) t (run_goal l c pc (go_writes place) (go place)) (lie_at p (at + target_size x) t.pc rest h.arrives at_cell).0 related_t.ram_is (omega arith)
    (λ v at_v cell same_v.
    let related_v : Related l c v store = related_same l c 0 t v store related_t same_v in
    gives_then_deeper p 0 1 (expr_steps e) 2 (expr_steps e + 2) v (from + expr_size e) (λ r. run_goal l c pc (found_writes r (λ word. sets place word ∷ [])) (if_found r store (λ word. done (put_word place word store)))) (value_of e store) (omega arith)
    (expr_works p scope l store e 1 from v (omega (arith, at_v, h.arrives)) (lie_front p from second tail at_second) related_v over_e short)
    (λ word w at_w has_w fits_w same_w.
    store_gives p w l c store place word pc (lie_at p (from + expr_size e) w.pc tail at_w at_tail) (omega (arith, at_w)) apart (related_same l c 1 v w store related_v same_w) h.inside
    (same_w.kept 1048576 refl ∙ cell ∙ h.address) has_w fits_w)
    (run_trap l c pc store) (omega arith)) (omega arith))
    (run_trap l c pc store) (λ place. omega arith) (λ why. omega arith))

-- the cells of a pointer are two
other_cell : (k : ℕ) → (1048576 + (k + 1) == 1048576 + k) ≡ false
other_cell k = grind (arith, nat_tests)

-- a pointer's assignment does what the source says
pub point_gives : (p : Program) (scope : Scope) (l : Layout) (store : Store) (pointer array : ℕ) (i : CoreExpr) (at : ℕ) (s : Spot)
    → s.pc ≡ at → Lie p at (point_code l.areas pointer array i at) → Related l scope.pointers s store → pointer < scope.pointers → IsOver scope i → IsShort 0 i
    → Gives p 0 (15 + expr_steps i) s (run_goal l scope.pointers (at + (expr_size i + 11)) (pointing_writes pointer array i store) (pointed_at pointer array i store))
point_gives p scope l store pointer array i at s here stands related there over short =
    let c : ℕ = scope.pointers in
    let k : ℕ = pointer_at pointer in
    let index : List Line = expr_code l.areas i 0 at in
    let code : List Line = place_code (area_at l.areas array) in
    let is : List Instr = St 1 15 k ∷ St 2 15 (k + 1) ∷ [] in
    let front : Lie p at (index ++ code) = lie_front p at (index ++ code) (bares is) (subst (Lie p at) (sym (append_assoc index code (bares is))) stands) in
    let pc : ℕ = at + expr_size i + 11 in
    let end : at + (expr_size i + 11) ≡ pc = omega arith in
    let at_stores : Lie p (at + expr_size i + 9) (bares is) =
    lie_behind p (at + expr_size i) code (bares is) (at + expr_size i + 9) (lie_behind p at index (code ++ bares is) (at + expr_size i) stands (omega (arith, expr_long l.areas i 0 at))) refl in
    let small : k + 1 < 832 = omega (arith, there, related.few) in
    rw end (place_then p 0 (expr_steps i + 8) (λ place. 2) s l (at + expr_size i + 9) (λ r. run_goal l c pc (found_writes r (λ place. points pointer place ∷ [])) (if_found r store (λ place. done (put_pointer pointer place store))))
    (λ r. 15 + expr_steps i) (cell_place store array (value_of i store))
    (cell_place_gives p scope l store array i 0 at s here front related over short)
    (λ place t h.
    let related_t : Related l c t store = related_same l c 0 s t store related h.same in
    let e : (t.regs 15 + k) % 2 ^ 32 ≡ 1048576 + k = omega (arith, related_t.ram_is, small) in
    let g : (t.regs 15 + (k + 1)) % 2 ^ 32 ≡ 1048576 + (k + 1) = omega (arith, related_t.ram_is, small) in
    let u : Spot = line p is t in
    let fixed : (r : ℕ) → IsKept r → u.regs r ≡ t.regs r = λ r k. refl in
    let stored : (a : ℕ) → u.store a ≡ put (put t.store (1048576 + k) (place_address l place.array place.index)) (1048576 + (k + 1)) (room_at l place.array - place.index) a = λ a. rw (e, g, h.address, h.room) in
    line_comes p 0 2 is t (run_goal l c pc (points pointer place ∷ []) (done (put_pointer pointer place store))) (lie_at p (at + expr_size i + 9) t.pc (bares is) h.arrives at_stores)
    (refl, rw (e, ram_has_word (1048576 + k) (omega arith) (omega (arith, small))), (refl, rw (g, ram_has_word (1048576 + (k + 1)) (omega arith) (omega (arith, small))), tt))
    (record {
      shown = rw (e, g, in_ram k, in_ram (k + 1));
      ended = record {
        there = u;
        goes_on = refl;
        arrives = omega (arith, h.arrives);
        fixed = fixed;
        kept = λ a q. rw (e, g, frame_no_pointer k a (omega arith) q, frame_no_pointer (k + 1) a (omega arith) q);
        related = related_pointed l c store pointer place t u there h.inside related_t fixed stored;
      };
    })
    (omega arith))
    (run_trap l c pc store) (λ place. omega arith) (λ why. omega arith))
