-- A copy is valued.
use Rattle.std.specs.Prelude.{◌&&◌, not, nat_le, nat_lt, Option, Some, None, Result, Ok, Err, if◌then◌else◌}
use Rattle.std.proofs.Common.{◌≡◌, ◌∙◌, ℕ, ◌+◌, ◌-◌, ◌<◌, ◌≤◌, Bool, true, false, ◌++◌, length, refl, sym, ap, subst, arith}
use Rattle.std.proofs.lemmas.Bool.Decides.{nat_tests}
use Rattle.ease_base.specs.Found.{with_found}
use Rattle.devices.specs.Journal as journal
use Rattle.task_ast.specs.declared.core_form.CoreEnd.{CoreEnd}
use Rattle.task_ast.specs.declared.core_form.CoreEnd.TheVariants as end
use Rattle.task_ast.specs.declared.core_form.CoreExpr.{CoreExpr}
use Rattle.task_ast.specs.declared.core_form.CoreStmt.TheVariants as stmt
use Rattle.task_ast.specs.WellFormed.{IsOver, IsWellFormed, Scope, scope_of}
use Rattle.task_attempts.specs.Copies.{class_at}
use Rattle.task_attempts.specs.State.{Setting}
use Rattle.walk_run.specs.declared.place.Place.{Place}
use Rattle.walk_run.specs.declared.trap.Trap.{Trap}
use Rattle.walk_run.specs.declared.trap.Trap.TheVariants.{Index, Range}
use Rattle.walk_run.specs.PlainSteps.{end_steps, expr_steps, found_steps}
use Rattle.walk_run.specs.Store.{Store, place, words_of, pointed}
use Rattle.walk_run.specs.Trap.{code_of}
use Rattle.walk_run.specs.Value.{end_place, place_in, place_pointed, value_of, with_room}
use Rattle.word_machine.specs.State.{Program}
use Rattle.word_machine.specs.Straight.{Spot}
use Rattle.line_code.specs.Areas.{areas_from, free_at_first, pointer_at}
use Rattle.line_code.specs.Fitting.{IsShort}
use Rattle.run_plan.specs.declared.act.Act.TheVariants as act
use Rattle.run_plan.specs.Cells.{CopyValued, State}
use Rattle.run_plan.specs.Deeds.{value_done}
use Rattle.run_plan.specs.Finding.{statement_of}
use Rattle.run_plan.specs.Small.{Doing, core_of, sets_frame, unless_fails}
use Rattle.run_plan.specs.Weights.{value_weight}
use Rattle.line_laws.specs.Relation.{Layout, Points, Related, room_at}
use Rattle.line_laws.specs.Standing.{Lie}
use Rattle.word_code.specs.Acts.{jump}
use Rattle.word_code.specs.Finding.{statement_at}
use Rattle.word_code.specs.Values.{value_code}
use Rattle.act_laws.specs.Codes.{Fixed}
use Rattle.act_laws.specs.Values.{CopyDoes, CopyFound, CopyTested, IsOverEnd, copy_steps, fits, with_copy}
use Rattle.layout_laws.specs.Layouts.{layout_of}
use Rattle.cell_laws.specs.Standing.{worked}
use Rattle.act_refines.specs.Between.{MemoryStands, fixed_in, with_rest}
use Rattle.act_refines.specs.Copied.{CopyFits, HasSpace}
use Rattle.act_refines.specs.Does.{DoesAct, Ends, Nothing, frame_of}
use Rattle.act_refines.proofs.Calls.{IsRelatedThere, TempsKeep, based}
use Rattle.act_refines.proofs.Going.{goes_from, related_at, stops}
use Rattle.act_refines.proofs.Noted.{is_over, is_under}

-- ---- ends are places

under_is : (a b : ℕ) → nat_lt a b ≡ true → a < b
under_is a b h = grind (arith, nat_tests, h)

cell_there : (store : Store) (array : ℕ) (r : Result ℕ Trap) (at : Place) → with_found r (place_in store array) ≡ Ok at → at.index < length (words_of store at.array)
cell_there store array (Err why) at is = absurd (cc is)
cell_there store array (Ok j) at is = by_test (nat_lt j (length (words_of store array))) refl is
  where
    by_test : (b : Bool) → nat_lt j (length (words_of store array)) ≡ b → (if b then Ok (place array j) else Err Index) ≡ Ok at → at.index < length (words_of store at.array)
    by_test true low is = let same : place array j ≡ at = cc is in subst (λ (q : Place). q.index < length (words_of store q.array)) same (under_is j (length (words_of store array)) low)
    by_test false low is = absurd (cc is)

pointer_there : (l : Layout) (cell : ℕ) (o : Option Place) (memory : ℕ → ℕ) (at : Place) → Points l cell o memory → place_pointed o ≡ Ok at → at.index < room_at l at.array
pointer_there l cell None memory at h is = absurd (cc is)
pointer_there l cell (Some p) memory at h is = let same : p ≡ at = cc is in subst (λ (q : Place). q.index < room_at l q.array) same h.2

end_there : (scope : Scope) (l : Layout) (m : Spot) (store : Store) (e : CoreEnd) (at : Place) → Related l scope.pointers m store → IsOverEnd scope e → end_place e store ≡ Ok at → at.index < room_at l at.array
end_there scope l m store (end.Cell array i) at h over is = subst (λ n. at.index < n) ((h.arrays at.array).rooms) (cell_there store array (value_of i store) at is)
end_there scope l m store (end.Pointer q) at h over is = pointer_there l (pointer_at q) (pointed store q) m.store at (h.pointers q over) is

-- ---- rooms

within_is : (a b : ℕ) → nat_le a b ≡ true → a ≤ b
within_is a b h = grind (arith, nat_tests, h)

beyond_is : (a b : ℕ) → nat_le a b ≡ false → b < a
beyond_is a b h = grind (arith, nat_tests, h)

room_is : (room i n : ℕ) → i < room → not (nat_lt (room - i) n) ≡ nat_le (i + n) room
room_is room i n low = by_test (nat_le (i + n) room) refl
  where
    by_test : (b : Bool) → nat_le (i + n) room ≡ b → not (nat_lt (room - i) n) ≡ b
    by_test true is = let few : i + n ≤ room = within_is (i + n) room is in ap not (is_over (room - i) n (omega (arith, few, low)))
    by_test false is = let many : room < i + n = beyond_is (i + n) room is in ap not (is_under (room - i) n (omega (arith, many, low)))

-- ---- the act

-- what a copy is valued at, by its ends and its length
abbrev copy_of : Setting → Store → (to from : Result Place Trap) → Result ℕ Trap → Result CopyValued Trap
copy_of setting store to from n =
    with_found to (λ t. with_found from (λ f. with_found n (λ n. with_found (with_room store t n) (λ _. with_found (with_room store f n) (λ _. Ok (record { to = t; from = f; length = n; class = class_at setting t f }))))))

abbrev pub CopiesKeep : Type 0
CopiesKeep =
    (p : Program) (d : Doing) (m counts : ℕ → ℕ) (s : State) (v : CopyValued) → IsWellFormed (core_of d) → MemoryStands p d true m counts s → CopyFits d v
    → MemoryStands p d true (with_copy (layout_of (core_of d) (worked d.scheme s.bank)) v.to v.from v.length m) counts (with_rest (record s.frame { copy = Some v }) s.looks s.issued s)

pub copy_value_does : ((p : Program) (x : Fixed) (scope : Scope) (l : Layout) (store : Store) (k : ℕ) (to from : CoreEnd) (words : CoreExpr) (next : ℕ) (s : Spot) → CopyDoes p x scope l store k to from words next s)
    → TempsKeep → IsRelatedThere → CopiesKeep
    → (p : Program) (place_of : ℕ → journal.Place) (d : Doing) (number : ℕ) (keeps : Bool) (k : ℕ) (to from : CoreEnd) (words : CoreExpr) → statement_of d k ≡ Some (stmt.Copy k to from words) → statement_at (frame_of d number) k ≡ Some (stmt.Copy k to from words)
    → IsOverEnd (scope_of (core_of d) d.setting.task) to → IsOverEnd (scope_of (core_of d) d.setting.task) from → IsOver (scope_of (core_of d) d.setting.task) words → IsShort 0 words → DoesAct p place_of d number keeps (act.Value k) Nothing
copy_value_does template temps relates copies p place_of d number keeps k to from words plan code over_to over_from over short next m s well has related asks =
    subst (λ o. Ends p place_of d (act.Value k) (value_weight o s.store) (λ way. next) m s (value_done d.setting o s)) (sym plan) (by_found (end_place to s.store) refl (end_place from s.store) refl (value_of words s.store) found)
  where
    near_store : Related (layout_of (core_of d) (worked d.scheme s.bank)) (length (core_of d).pointers) m s.store
    near_store = relates p d m s well related

    found : CopyFound p (fixed_in d.scheme s) (layout_of (core_of d) (worked d.scheme s.bank)) (copy_steps to from words s.store) m next (end_place to s.store) (end_place from s.store) (value_of words s.store)
    found = template p (fixed_in d.scheme s) (scope_of (core_of d) d.setting.task) (layout_of (core_of d) (worked d.scheme s.bank)) s.store k to from words next m (based d s) related.fixed near_store over_to over_from over short
        (subst (λ o. Lie p m.pc (value_code (areas_from free_at_first (core_of d).arrays) o m.pc ++ jump next)) code has)

    by_rooms : (steps most : ℕ) (t f : Place) (n : ℕ) → steps ≤ most → t.index < room_at (layout_of (core_of d) 0) t.array → f.index < room_at (layout_of (core_of d) 0) f.array
        → (a : Bool) → nat_le (t.index + n) (length (words_of s.store t.array)) ≡ a → (b : Bool) → nat_le (f.index + n) (length (words_of s.store f.array)) ≡ b
        → CopyTested p (fixed_in d.scheme s) steps m next (with_copy (layout_of (core_of d) (worked d.scheme s.bank)) t f n m.store) (a && b)
        → Ends p place_of d (act.Value k) most (λ way. next) m s
        (unless_fails (with_found (if a then Ok t else Err Range) (λ _. with_found (if b then Ok f else Err Range) (λ _. Ok (record { to = t; from = f; length = n; class = class_at d.setting t f })))) (λ v. sets_frame (record s.frame { copy = Some v })))
    by_rooms steps most t f n few there_t there_f false one b two trap = stops p place_of steps most m 4 trap few
    by_rooms steps most t f n few there_t there_f true one false two trap = stops p place_of steps most m 4 trap few
    by_rooms steps most t f n few there_t there_f true one true two near =
        let v : CopyValued = record { to = t; from = f; length = n; class = class_at d.setting t f } in
        let space_t : HasSpace (core_of d) t n = record { there = there_t; inside = subst (λ r. t.index + n ≤ r) ((near_store.arrays t.array).rooms) (within_is (t.index + n) (length (words_of s.store t.array)) one) } in
        let space_f : HasSpace (core_of d) f n = record { there = there_f; inside = subst (λ r. f.index + n ≤ r) ((near_store.arrays f.array).rooms) (within_is (f.index + n) (length (words_of s.store f.array)) two) } in
        let fit : CopyFits d v = record { to = space_t; from = space_f; class = refl } in
        let after : State = with_rest (record s.frame { copy = Some v }) s.looks s.issued s in
        let kept = copies p d m.store m.issued s v well related.memory fit in
        goes_from p place_of (fixed_in d.scheme s) steps most m _ next _ _ near.acts few refl refl
        (λ there fixed stored issued. related_at p d true there near.left m.issued after fixed stored issued (temps p d (with_copy (layout_of (core_of d) (worked d.scheme s.bank)) t f n m.store) near.left m.issued after well kept near.same))

    fits_are : (t f : Place) (n : ℕ) → t.index < room_at (layout_of (core_of d) 0) t.array → f.index < room_at (layout_of (core_of d) 0) f.array
        → fits (layout_of (core_of d) (worked d.scheme s.bank)) t f n ≡ (nat_le (t.index + n) (length (words_of s.store t.array)) && nat_le (f.index + n) (length (words_of s.store f.array)))
    fits_are t f n there_t there_f =
        let one = room_is (room_at (layout_of (core_of d) 0) t.array) t.index n there_t ∙ ap (nat_le (t.index + n)) (sym ((near_store.arrays t.array).rooms)) in
        let two = room_is (room_at (layout_of (core_of d) 0) f.array) f.index n there_f ∙ ap (nat_le (f.index + n)) (sym ((near_store.arrays f.array).rooms)) in
        λ i. one i && two i

    by_found : (r : Result Place Trap) → end_place to s.store ≡ r → (q : Result Place Trap) → end_place from s.store ≡ q → (v : Result ℕ Trap)
        → CopyFound p (fixed_in d.scheme s) (layout_of (core_of d) (worked d.scheme s.bank)) (39 + (end_steps to + found_steps r (λ t. end_steps from + found_steps q (λ f. expr_steps words)))) m next r q v
        → Ends p place_of d (act.Value k) (42 + (end_steps to + found_steps r (λ t. end_steps from + found_steps q (λ f. expr_steps words)))) (λ way. next) m s
        (unless_fails (copy_of d.setting s.store r q v) (λ v. sets_frame (record s.frame { copy = Some v })))
    by_found (Err why) one q two v trap = stops p place_of _ _ m (code_of why) trap (omega arith)
    by_found (Ok t) one (Err why) two v trap = stops p place_of _ _ m (code_of why) trap (omega arith)
    by_found (Ok t) one (Ok f) two (Err why) trap = stops p place_of _ _ m (code_of why) trap (omega arith)
    by_found (Ok t) one (Ok f) two (Ok n) tested =
        let scope : Scope = scope_of (core_of d) d.setting.task in
        let there_t : t.index < room_at (layout_of (core_of d) 0) t.array = end_there scope (layout_of (core_of d) (worked d.scheme s.bank)) m s.store to t near_store over_to one in
        let there_f : f.index < room_at (layout_of (core_of d) 0) f.array = end_there scope (layout_of (core_of d) (worked d.scheme s.bank)) m s.store from f near_store over_from two in
        let steps : ℕ = 39 + (end_steps to + (end_steps from + expr_steps words)) in
        by_rooms steps (42 + (end_steps to + (end_steps from + expr_steps words))) t f n (omega arith) there_t there_f (nat_le (t.index + n) (length (words_of s.store t.array))) refl (nat_le (f.index + n) (length (words_of s.store f.array))) refl
        (subst (CopyTested p (fixed_in d.scheme s) steps m next (with_copy (layout_of (core_of d) (worked d.scheme s.bank)) t f n m.store)) (fits_are t f n there_t there_f) tested)
