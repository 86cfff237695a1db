-- A copy is valued: both ends with their rooms, the length, and the class.
use Rattle.std.specs.Prelude.{◌==◌, ◌&&◌, ◌-◌, ◌*◌, if◌then◌else◌, not, nat_lt, Option, Some, None}
use Rattle.std.proofs.Common.{◌≡◌, ◌∙◌, ℕ, zero, suc, ◌+◌, ◌%◌, ◌^◌, ◌<◌, ◌≤◌, Bool, true, false, List, [], ◌∷◌, ◌++◌, length, Result, Ok, Err, refl, sym, ap, subst, append_assoc, append-nil, length-append, arith}
use Rattle.std.proofs.lemmas.Bool.Decides.{nat_tests}
use Rattle.fram_ram.specs.Memories.{has_word, put}
use Rattle.task_ast.specs.declared.core_form.CoreExpr.{CoreExpr}
use Rattle.task_ast.specs.declared.core_form.CoreEnd.{CoreEnd}
use Rattle.task_ast.specs.declared.core_form.CoreEnd.TheVariants as end
use Rattle.task_ast.specs.WellFormed.{Scope, IsOver}
use Rattle.walk_run.specs.declared.place.Place.{Place}
use Rattle.walk_run.specs.declared.trap.Trap as walked
use Rattle.walk_run.specs.declared.trap.Trap.TheVariants.{Unset}
use Rattle.walk_run.specs.PlainSteps.{expr_steps, end_steps, found_steps}
use Rattle.walk_run.specs.Store.{Store, pointed}
use Rattle.walk_run.specs.Trap.{code_of}
use Rattle.walk_run.specs.Value.{value_of, cell_place, end_place, place_pointed}
use Rattle.word_isa.specs.declared.instr.Instr.TheVariants.{Mov, Eq, Ld, St, Jz, Trap}
use Rattle.word_machine.specs.State.{Program}
use Rattle.word_machine.specs.Step.{exec}
use Rattle.word_machine.specs.Straight.{Spot, live}
use Rattle.word_machine.specs.Traces.{trace}
use Rattle.line_code.specs.declared.line.Line.{Line}
use Rattle.line_code.specs.Areas.{area_at, pointer_at}
use Rattle.line_code.specs.Lines.{bares}
use Rattle.line_code.specs.Sizes.{expr_size}
use Rattle.line_code.specs.Expressions.{expr_code, place_code, room_code}
use Rattle.line_code.specs.Fitting.{IsShort}
use Rattle.line_laws.specs.CodeSizes.{expr_long}
use Rattle.line_laws.specs.Gives.{is_temp, Same, Gives}
use Rattle.line_laws.specs.Goals.{place_goal}
use Rattle.line_laws.specs.Relation.{Layout, room_at, place_address, is_cell, Points, Related}
use Rattle.line_laws.specs.Standing.{Lie, lie_front, lie_behind}
use Rattle.line_laws.specs.Works.{CellWorks}
use Rattle.word_code.specs.Values.{end_code, end_size}
use Rattle.act_laws.specs.Codes.{Fixed, HasFixed, Goes, RamCell, after_code}
use Rattle.act_laws.specs.CodeLaws.{goes_code, goes_then, goes_jz, ram_cell}
use Rattle.act_laws.specs.Values.{Traps, Based, with_end, IsOverEnd}
use Rattle.act_laws.proofs.Arguments.{IsArgument, related_acts, goes_traps}
use Rattle.act_laws.proofs.Calls.{place_trap}
use Rattle.act_laws.proofs.Counted.{counted, issued_traced}
use Rattle.act_laws.proofs.Lengths.{stop_lines, stop_traps}
use Rattle.act_laws.proofs.Valued.{fixed_same}

-- a place that came into registers 1 and 2, with nothing seen
record CameAt (p : Program) (l : Layout) (most mid : ℕ) (at : Place) (s : Spot) : Type 0 where
  steps : ℕ
  few : steps ≤ most
  there : Spot
  goes : Goes p steps s there []
  arrives : there.pc ≡ mid
  address : there.regs 1 ≡ place_address l at.array at.index
  room : there.regs 2 ≡ room_at l at.array - at.index
  same : Same 0 s there

came_at : (p : Program) (l : Layout) (m mid : ℕ) (at : Place) (s : Spot) → Gives p 0 m s (place_goal l 0 mid (Ok at)) → CameAt p l m mid at s
came_at p l m mid at s g = record {
  steps = g.steps;
  few = g.few;
  there = g.met.there;
  goes = record { runs = g.runs ∙ g.met.goes_on; seen = g.shows ∙ g.met.quiet };
  arrives = g.met.arrives;
  address = g.met.address;
  room = g.met.room;
  same = g.met.same;
}

-- where the machine is behind an end
pub record Ended (p : Program) (x : Fixed) (l : Layout) (c : ℕ) (store : Store) (most pc cell : ℕ) (at : Place) (s : Spot) : Type 0 where
  pub steps : ℕ
  pub few : steps ≤ most
  pub there : Spot
  pub goes : Goes p steps s there []
  pub arrives : there.pc ≡ pc
  pub fixed : HasFixed x there
  pub related : Related l c there store
  pub counts : there.issued ≡ s.issued
  pub stored : (a : ℕ) → is_temp 0 a ≡ false → there.store a ≡ with_end l cell at s.store a

no_cells : (cell a : ℕ) → IsArgument cell → IsArgument (cell + 1) → is_cell a ≡ false → ((1048576 + cell == a) ≡ false) × ((1048576 + (cell + 1) == a) ≡ false)
no_cells cell a h g k = (grind (arith, nat_tests, h.high, k), grind (arith, nat_tests, g.high, k))

no_pointers : (cell k : ℕ) → IsArgument cell → IsArgument (cell + 1) → 320 ≤ k → ((1048576 + cell == 1048576 + k) ≡ false) × ((1048576 + (cell + 1) == 1048576 + k) ≡ false)
no_pointers cell k h g far = (grind (arith, nat_tests, h.high, far), grind (arith, nat_tests, g.high, far))

not_temp : (a : ℕ) → is_cell a ≡ false → is_temp 0 a ≡ false
not_temp a h = grind (arith, nat_tests)

far_temp : (k : ℕ) → 320 ≤ k → is_temp 0 (1048576 + k) ≡ false
far_temp k far = grind (arith, nat_tests, far)

-- an end goes to its cells
ended_behind : (p : Program) (x : Fixed) (l : Layout) (c : ℕ) (store : Store) (m mid cell : ℕ) (at : Place) (s : Spot) → Based x l → HasFixed x s → Related l c s store → IsArgument cell → IsArgument (cell + 1)
    → CameAt p l m mid at s → Lie p mid (bares (St 1 15 cell ∷ St 2 15 (cell + 1) ∷ [])) → Ended p x l c store (m + 2) (mid + 2) cell at s
unfolding has_word
ended_behind p x l c store m mid cell at s based h related is next g code =
    let one : RamCell cell = ram_cell cell (omega (arith, is.high)) in
    let two : RamCell (cell + 1) = ram_cell (cell + 1) (omega (arith, next.high)) in
    let t : Spot = g.there in
    let last : List Line = bares (St 1 15 cell ∷ St 2 15 (cell + 1) ∷ []) in
    let u : Spot = after_code p last t in
    let fixed : HasFixed x t = fixed_same x 0 s t h g.same in
    let stored : (a : ℕ) → is_temp 0 a ≡ false → u.store a ≡ with_end l cell at s.store a =
    λ a k. rw (fixed.4, one.wraps, two.wraps, g.address, g.room) (ap (λ (w : ℕ). if 1048576 + (cell + 1) == a then room_at l at.array - at.index else if 1048576 + cell == a then place_address l at.array at.index else w) (g.same.kept a k)) in
    record {
      steps = g.steps + 2;
      few = omega (arith, g.few);
      there = u;
      goes = goes_then p g.steps 2 _ s t u [] [] [] g.goes
          (subst (λ a. Goes p 2 t u a) (rw (fixed.4, one.wraps, two.wraps, one.apart, two.apart)) (goes_code p last t (subst (λ n. Lie p n last) (sym g.arrives) code) (rw (fixed.4, one.wraps, two.wraps, one.apart, two.apart, one.ram, two.ram)))) refl refl;
      arrives = omega (arith, g.arrives);
      fixed = fixed;
      related = related_acts x l c s u store based related fixed
          (λ a k. let no = no_cells cell a is next k in stored a (not_temp a k) ∙ rw (no.0, no.1))
          (λ k far. let no = no_pointers cell k is next far in stored (1048576 + k) (far_temp k far) ∙ rw (no.0, no.1));
      counts = ap (λ v. v.issued) (sym g.goes.runs) ∙ issued_traced p g.steps (live s) ∙ ap (λ a. counted p a s.issued) g.goes.seen;
      stored = stored;
    }

-- an end that was found, or its trap
abbrev pub EndFound : (p : Program) (x : Fixed) (l : Layout) (c : ℕ) (store : Store) (most pc cell : ℕ) (s : Spot) → Result Place walked.Trap → Type 0
EndFound p x l c store most pc cell s (Ok at) = Ended p x l c store most pc cell at s
EndFound p x l c store most pc cell s (Err why) = Traps p most s (code_of why)

end_by : (p : Program) (x : Fixed) (l : Layout) (c : ℕ) (store : Store) (m mid cell : ℕ) (s : Spot) (r : Result Place walked.Trap) → Based x l → HasFixed x s → Related l c s store → IsArgument cell → IsArgument (cell + 1)
    → Gives p 0 m s (place_goal l 0 mid r) → Lie p mid (bares (St 1 15 cell ∷ St 2 15 (cell + 1) ∷ [])) → EndFound p x l c store (m + 2) (mid + 2) cell s r
end_by p x l c store m mid cell s (Ok at) based h related is next g code = ended_behind p x l c store m mid cell at s based h related is next (came_at p l m mid at s g) code
end_by p x l c store m mid cell s (Err why) based h related is next g code = place_trap p l m (m + 2) mid why s g (omega arith)

-- within more steps
end_most : (p : Program) (x : Fixed) (l : Layout) (c : ℕ) (store : Store) (m most pc to cell : ℕ) (s : Spot) (r : Result Place walked.Trap) → m ≤ most → pc ≡ to → EndFound p x l c store m pc cell s r → EndFound p x l c store most to cell s r
end_most p x l c store m most pc to cell s (Ok at) more same e = record {
  steps = e.steps;
  few = omega (arith, e.few, more);
  there = e.there;
  goes = e.goes;
  arrives = e.arrives ∙ same;
  fixed = e.fixed;
  related = e.related;
  counts = e.counts;
  stored = e.stored;
}
end_most p x l c store m most pc to cell s (Err why) more same e = record { steps = e.steps; few = omega (arith, e.few, more); ended = e.ended; quiet = e.quiet }

-- ---- an end through a pointer

some_room : (w : ℕ) → 0 < w → ((if w == 0 then 1 else 0) == 0) ≡ true
some_room zero h = absurd (omega (arith, h))
some_room (suc w) h = let e : (suc w == 0) ≡ false = grind (arith, nat_tests) in rw e

pointer_by : (p : Program) (x : Fixed) (l : Layout) (c : ℕ) (store : Store) (k cell : ℕ) (at : Option Place) (s : Spot) → Based x l → HasFixed x s → Related l c s store → 320 ≤ k → k + 1 < 832 → Points l k at s.store → IsArgument cell → IsArgument (cell + 1)
    → Lie p s.pc (room_code k ++ bares (Ld 1 15 k ∷ St 1 15 cell ∷ St 2 15 (cell + 1) ∷ [])) → EndFound p x l c store 7 (s.pc + 8) cell s (place_pointed at)
unfolding has_word
pointer_by p x l c store k cell None s based h related far small points is next has =
    let room : RamCell (k + 1) = ram_cell (k + 1) (omega (arith, small)) in
    let first : List Line = bares (Ld 2 15 (k + 1) ∷ Mov 3 2 ∷ Eq 3 0 ∷ []) in
    let t : Spot = after_code p first s in
    let goes : Goes p 3 s t [] = subst (λ a. Goes p 3 s t a) refl (goes_code p first s (has.0, (has.1.0, (has.1.1.0, tt))) (rw (h.4, room.wraps, room.apart, room.ram))) in
    let is_none : (t.regs 3 == 0) ≡ false = rw (h.4, h.0, room.wraps, points) in
    goes_traps p 4 1 7 3 s (record t { pc = t.pc + 1; clock = t.clock + 1 })
    (goes_then p 3 1 4 s t _ [] [] [] goes (subst (λ b. Goes p 1 t (record t { pc = if b then t.pc + 1 + 1 else t.pc + 1; clock = t.clock + 1 }) []) is_none (goes_jz p 3 1 t (has.1.1.1.0, tt))) refl refl)
    (stop_traps p 3 (record t { pc = t.pc + 1; clock = t.clock + 1 }) (has.1.1.1.1.0, tt)) (omega arith)
pointer_by p x l c store k cell (Some at) s based h related far small points is next has =
    let address : RamCell k = ram_cell k (omega (arith, small)) in
    let room : RamCell (k + 1) = ram_cell (k + 1) (omega (arith, small)) in
    let first : List Line = bares (Ld 2 15 (k + 1) ∷ Mov 3 2 ∷ Eq 3 0 ∷ []) in
    let t : Spot = after_code p first s in
    let u : Spot = record t { pc = t.pc + 1 + 1; clock = t.clock + 1 } in
    let load : List Line = bares (Ld 1 15 k ∷ []) in
    let v : Spot = after_code p load u in
    let left : ℕ = room_at l at.array - at.index in
    let some : 0 < left = omega (arith, points.2) in
    let goes : Goes p 3 s t [] = subst (λ a. Goes p 3 s t a) refl (goes_code p first s (has.0, (has.1.0, (has.1.1.0, tt))) (rw (h.4, room.wraps, room.apart, room.ram))) in
    let is_some : (t.regs 3 == 0) ≡ true = rw (h.4, h.0, room.wraps, points.1) (some_room left some) in
    let over : Goes p 1 t u [] = subst (λ b. Goes p 1 t (record t { pc = if b then t.pc + 1 + 1 else t.pc + 1; clock = t.clock + 1 }) []) is_some (goes_jz p 3 1 t (has.1.1.1.0, tt)) in
    let loaded : Goes p 1 u v [] = goes_code p load u (has.1.1.1.1.1.0, tt) (rw (h.4, address.wraps, address.apart, address.ram)) in
    let came : CameAt p l 5 (s.pc + 6) at s = record {
      steps = 5;
      few = omega arith;
      there = v;
      goes = goes_then p 4 1 5 s u v [] [] [] (goes_then p 3 1 4 s t u [] [] [] goes over refl refl) loaded refl refl;
      arrives = omega arith;
      address = rw (h.4, address.wraps, points.0);
      room = rw (h.4, room.wraps, points.1);
      same = record { fixed = λ r g. simp (g.one, g.two, g.three); kept = λ a g. refl };
    } in
    subst (λ n. Ended p x l c store 7 n cell at s) (omega arith)
    (ended_behind p x l c store 5 (s.pc + 6) cell at s based h related is next came (subst (λ n. Lie p n (bares (St 1 15 cell ∷ St 2 15 (cell + 1) ∷ []))) (omega arith) has.1.1.1.1.1.1))

-- ---- an end

pub end_long : (l : Layout) (e : CoreEnd) (cell at : ℕ) → length (end_code l.areas e cell at) ≡ end_size e
end_long l (end.Cell array i) cell at = omega (arith, length-append (expr_code l.areas i 0 at) (place_code (area_at l.areas array) ++ bares (St 1 15 cell ∷ St 2 15 (cell + 1) ∷ [])), expr_long l.areas i 0 at)
end_long l (end.Pointer q) cell at = refl

pub end_acts : (cells : (p : Program) (scope : Scope) (l : Layout) (store : Store) (array : ℕ) (i : CoreExpr) → CellWorks p scope l store array i)
    → (p : Program) (x : Fixed) (scope : Scope) (l : Layout) (store : Store) (e : CoreEnd) (cell at : ℕ) (s : Spot) → s.pc ≡ at → Based x l → HasFixed x s → Related l scope.pointers s store → IsOverEnd scope e → IsArgument cell → IsArgument (cell + 1)
    → Lie p at (end_code l.areas e cell at) → EndFound p x l scope.pointers store (end_steps e + 10) (at + end_size e) cell s (end_place e store)
end_acts cells p x scope l store (end.Cell array i) cell at s here based h related over is next has =
    let index : List Line = expr_code l.areas i 0 at in
    let place : List Line = place_code (area_at l.areas array) in
    let last : List Line = bares (St 1 15 cell ∷ St 2 15 (cell + 1) ∷ []) in
    let front : Lie p at (index ++ place) = lie_front p at (index ++ place) last (subst (Lie p at) (sym (append_assoc index place last)) has) in
    let at_last : Lie p (at + expr_size i + 9) last = lie_behind p (at + expr_size i) place last (at + expr_size i + 9) (lie_behind p at index (place ++ last) (at + expr_size i) has (omega (arith, expr_long l.areas i 0 at))) refl in
    end_most p x l scope.pointers store (expr_steps i + 8 + 2) (expr_steps i + 10) (at + expr_size i + 9 + 2) (at + (expr_size i + 11)) cell s (cell_place store array (value_of i store)) (omega arith) (omega arith)
    (end_by p x l scope.pointers store (expr_steps i + 8) (at + expr_size i + 9) cell s (cell_place store array (value_of i store)) based h related is next (cells p scope l store array i 0 at s here front related over.0 over.1) at_last)
end_acts cells p x scope l store (end.Pointer q) cell at s here based h related over is next has =
    end_most p x l scope.pointers store 7 10 (s.pc + 8) (at + 8) cell s (place_pointed (pointed store q)) (omega arith) (omega (arith, here))
    (pointer_by p x l scope.pointers store (pointer_at q) cell (pointed store q) s based h related (omega arith) (omega (arith, over, related.few)) (related.pointers q over) is next (rw here has))
