-- A copy is valued: its ends, its length and its class.
use Rattle.std.specs.Prelude.{◌==◌, ◌&&◌, ◌-◌, if◌then◌else◌, not, nat_lt, Some}
use Rattle.std.proofs.Common.{◌≡◌, ◌∙◌, ℕ, ◌+◌, ◌<◌, ◌≤◌, Bool, true, false, List, [], ◌∷◌, ◌++◌, length, Result, Ok, Err, refl, sym, ap, subst, append_assoc, arith}
use Rattle.fram_ram.specs.Memories.{put}
use Rattle.task_ast.specs.declared.core_form.CoreExpr.{CoreExpr}
use Rattle.task_ast.specs.declared.core_form.CoreEnd.{CoreEnd}
use Rattle.task_ast.specs.WellFormed.{Scope}
use Rattle.walk_run.specs.declared.place.Place.{Place}
use Rattle.walk_run.specs.declared.trap.Trap as walked
use Rattle.walk_run.specs.PlainSteps.{expr_steps, end_steps, found_steps}
use Rattle.walk_run.specs.Store.{Store}
use Rattle.walk_run.specs.Trap.{code_of}
use Rattle.walk_run.specs.Value.{value_of, end_place}
use Rattle.word_machine.specs.State.{Program}
use Rattle.word_machine.specs.Straight.{Spot}
use Rattle.line_code.specs.declared.line.Line.{Line}
use Rattle.line_code.specs.Sizes.{expr_size}
use Rattle.line_code.specs.Expressions.{expr_code}
use Rattle.line_laws.specs.CodeSizes.{expr_long}
use Rattle.line_laws.specs.Gives.{is_temp, Gives, word_goal}
use Rattle.line_laws.specs.Relation.{Layout, room_at, place_address, Related}
use Rattle.line_laws.specs.Standing.{Lie, lie_front, lie_behind}
use Rattle.line_laws.specs.Works.{Works, CellWorks}
use Rattle.word_code.specs.Acts.{jump}
use Rattle.word_code.specs.Values.{end_code, end_size, length_code}
use Rattle.act_laws.specs.Codes.{Fixed, HasFixed, End, Goes, Acts, top}
use Rattle.act_laws.specs.CodeLaws.{acts_most, goes_acts, goes_then, shape_is}
use Rattle.act_laws.specs.Values.{Nearly, Traps, Based, with_end, fits, with_copy, CopyTested, CopyFound, copy_steps, CopyDoes}
use Rattle.act_laws.specs.Words.{class_of}
use Rattle.act_laws.proofs.Arguments.{IsArgument, Came, came_word, goes_traps}
use Rattle.act_laws.proofs.CopyEnds.{Ended, EndFound, end_acts, end_long}
use Rattle.act_laws.proofs.Counted.{counted, issued_traced}
use Rattle.act_laws.proofs.Lengths.{Passed, length_lines, copy_end_acts}
use Rattle.act_laws.proofs.Valued.{fixed_same, valued_trap}

-- what a memory with a copy has, by what the memory before it has
same_copy : (l : Layout) (to from : Place) (n a : ℕ) (f g : ℕ → ℕ) (class : ℕ) → f a ≡ with_end l 42 from (with_end l 40 to g) a
    → put (put f 1048620 n) 1048621 class a ≡ put (put (with_end l 42 from (with_end l 40 to g)) 1048620 n) 1048621 class a
same_copy l to from n a f g class e = ap (λ (w : ℕ). if 1048621 == a then class else if 1048620 == a then n else w) e

-- the cells of ends are no cells for words in between
end_cells : (is_temp 0 1048616 ≡ false) × (is_temp 0 1048617 ≡ false) × (is_temp 0 1048618 ≡ false) × (is_temp 0 1048619 ≡ false)
end_cells = (refl, refl, refl, refl)

-- the length and the class, behind both ends and the length's word
tested_by : (p : Program) (x : Fixed) (l : Layout) (m next n : ℕ) (s t : Spot) (to from : Place) (b : Bool) → HasFixed x t → t.issued ≡ s.issued → ((a : ℕ) → is_temp 0 a ≡ false → t.store a ≡ with_end l 42 from (with_end l 40 to s.store) a)
    → (steps : ℕ) → steps ≤ m → Goes p steps s t []
    → Passed p x 19 t 4 (record { pc = next; store = put (put t.store 1048620 n) 1048621 (class_of (nat_lt (place_address l to.array to.index) 1048576) (nat_lt (place_address l from.array from.index) 4097)); issued = t.issued; atoms = [] }) b
    → CopyTested p x (m + 19) s next (with_copy l to from n s.store) b
tested_by p x l m next n s t to from true h counts stored steps few goes a =
    let class : ℕ = class_of (nat_lt (place_address l to.array to.index) 1048576) (nat_lt (place_address l from.array from.index) 4097) in
    record {
      left = put (put t.store 1048620 n) 1048621 class;
      same = λ a k. same_copy l to from n a t.store s.store class (stored a k);
      acts = subst (λ c. Acts p x (m + 19) s (record { pc = next; store = put (put t.store 1048620 n) 1048621 class; issued = c; atoms = [] })) counts
          (goes_acts p x steps 19 (m + 19) s t (record { pc = next; store = put (put t.store 1048620 n) 1048621 class; issued = t.issued; atoms = [] }) [] [] goes a (omega (arith, few)) refl);
    }
tested_by p x l m next n s t to from false h counts stored steps few goes a = goes_traps p steps 19 (m + 19) 4 s t goes a (omega (arith, few))

-- a test's law at the top's shape is one wherever the fixed registers are right
passed_any : (p : Program) (x : Fixed) (most code : ℕ) (t : Spot) (e : End) (b : Bool) → HasFixed x t → Passed p x most (top x t) code e b → Passed p x most t code e b
passed_any p x most code t e b h a = subst (λ f. Passed p x most (record t { regs = f }) code e b) (sym (shape_is x t h)) a

-- the length, its tests and the class, behind both ends
length_by : (p : Program) (x : Fixed) (l : Layout) (c : ℕ) (store : Store) (m k e pc1 pc2 pc3 next n : ℕ) (s : Spot) (to from : Place) (one : Ended p x l c store m pc1 40 to s) (two : Ended p x l c store k pc2 42 from one.there)
    → Gives p 0 e two.there (word_goal 0 pc3 (Ok n)) → Lie p pc3 (length_lines next) → CopyTested p x (m + k + e + 19) s next (with_copy l to from n s.store) (fits l to from n)
length_by p x l c store m k e pc1 pc2 pc3 next n s to from one two g has =
    let came : Came p e pc3 n two.there = came_word p e pc3 n two.there g in
    let t : Spot = came.there in
    let stored : (a : ℕ) → is_temp 0 a ≡ false → t.store a ≡ with_end l 42 from (with_end l 40 to s.store) a =
    λ a q. came.same.kept a q ∙ two.stored a q ∙ same_end l from a one.there.store (with_end l 40 to s.store) (one.stored a q) in
    let fixed : HasFixed x t = fixed_same x 0 two.there t two.fixed came.same in
    let counts : t.issued ≡ s.issued = ap (λ v. v.issued) (sym came.runs) ∙ issued_traced p came.steps _ ∙ ap (λ a. counted p a two.there.issued) came.quiet ∙ two.counts ∙ one.counts in
    let to_is : t.store 1048616 ≡ place_address l to.array to.index = stored 1048616 refl in
    let to_room : t.store 1048617 ≡ room_at l to.array - to.index = stored 1048617 refl in
    let from_is : t.store 1048618 ≡ place_address l from.array from.index = stored 1048618 refl in
    let from_room : t.store 1048619 ≡ room_at l from.array - from.index = stored 1048619 refl in
    let goes : Goes p (one.steps + two.steps + came.steps) s t [] =
    goes_then p (one.steps + two.steps) came.steps _ s two.there t [] [] [] (goes_then p one.steps two.steps _ s one.there two.there [] [] [] one.goes two.goes refl refl) (record { runs = came.runs; seen = came.quiet }) refl refl in
    let fit : Bool = fits l to from n in
    let end : End = record { pc = next; store = put (put t.store 1048620 n) 1048621 (class_of (nat_lt (place_address l to.array to.index) 1048576) (nat_lt (place_address l from.array from.index) 4097)); issued = t.issued; atoms = [] } in
    let passed : Passed p x 19 t 4 end fit =
    passed_any p x 19 4 t end fit fixed
    (subst (λ b. Passed p x 19 (top x t) 4 end b) (λ i. not (nat_lt (to_room i) n) && not (nat_lt (from_room i) n))
    (copy_end_acts p x next n t (nat_lt (place_address l to.array to.index) 1048576) (nat_lt (place_address l from.array from.index) 4097) came.has (ap (λ a. nat_lt a 1048576) to_is) (ap (λ a. nat_lt a 4097) from_is) (subst (λ a. Lie p a (length_lines next)) (sym came.at) has))) in
    tested_by p x l (m + k + e) next n s t to from fit fixed counts stored (one.steps + two.steps + came.steps) (omega (arith, one.few, two.few, came.few)) goes passed
  where
    same_end : (l : Layout) (at : Place) (a : ℕ) (f g : ℕ → ℕ) → f a ≡ g a → with_end l 42 at f a ≡ with_end l 42 at g a
    same_end l at a f g e = ap (λ (w : ℕ). if 1048619 == a then room_at l at.array - at.index else if 1048618 == a then place_address l at.array at.index else w) e

tested_most : (p : Program) (x : Fixed) (m most next : ℕ) (s : Spot) (store : ℕ → ℕ) (b : Bool) → m ≤ most → CopyTested p x m s next store b → CopyTested p x most s next store b
tested_most p x m most next s store true more a = record { left = a.left; same = a.same; acts = acts_most p x m most s _ a.acts more }
tested_most p x m most next s store false more a = record { steps = a.steps; few = omega (arith, a.few, more); ended = a.ended; quiet = a.quiet }

-- by what both ends and the length are
copy_by : (p : Program) (x : Fixed) (l : Layout) (c : ℕ) (store : Store) (m k e pc1 pc2 pc3 next : ℕ) (s : Spot) (to from : Result Place walked.Trap) (n : Result ℕ walked.Trap)
    → EndFound p x l c store (m + 10) pc1 40 s to
    → ((t : Place) (one : Ended p x l c store (m + 10) pc1 40 t s) → EndFound p x l c store (k + 10) pc2 42 one.there from)
    → ((t f : Place) (one : Ended p x l c store (m + 10) pc1 40 t s) (two : Ended p x l c store (k + 10) pc2 42 f one.there) → Gives p 0 e two.there (word_goal 0 pc3 n))
    → Lie p pc3 (length_lines next)
    → CopyFound p x l (39 + (m + found_steps to (λ t. k + found_steps from (λ f. e)))) s next to from n
copy_by p x l c store m k e pc1 pc2 pc3 next s (Err why) from n first second third has = record { steps = first.steps; few = omega (arith, first.few); ended = first.ended; quiet = first.quiet }
copy_by p x l c store m k e pc1 pc2 pc3 next s (Ok t) (Err why) n first second third has = goes_traps p first.steps (k + 10) _ (code_of why) s first.there first.goes (second t first) (omega (arith, first.few))
copy_by p x l c store m k e pc1 pc2 pc3 next s (Ok t) (Ok f) (Err why) first second third has =
    let two : Ended p x l c store (k + 10) pc2 42 f first.there = second t first in
    goes_traps p (first.steps + two.steps) e _ (code_of why) s two.there (goes_then p first.steps two.steps _ s first.there two.there [] [] [] first.goes two.goes refl refl)
    (valued_trap p e e pc3 why two.there (third t f first two) (omega arith)) (omega (arith, first.few, two.few))
copy_by p x l c store m k e pc1 pc2 pc3 next s (Ok t) (Ok f) (Ok n) first second third has =
    let two : Ended p x l c store (k + 10) pc2 42 f first.there = second t first in
    tested_most p x (m + 10 + (k + 10) + e + 19) _ next s _ (fits l t f n) (omega arith) (length_by p x l c store (m + 10) (k + 10) e pc1 pc2 pc3 next n s t f first two (third t f first two) has)

argument : (cell : ℕ) → 32 ≤ cell → cell < 320 → IsArgument cell
argument cell h k = record { low = h; high = k }

pub copy_acts : (works : (p : Program) (scope : Scope) (l : Layout) (store : Store) (e : CoreExpr) → Works p scope l store e) → (cells : (p : Program) (scope : Scope) (l : Layout) (store : Store) (array : ℕ) (i : CoreExpr) → CellWorks p scope l store array i)
    → (p : Program) (x : Fixed) (scope : Scope) (l : Layout) (store : Store) (k : ℕ) (to from : CoreEnd) (words : CoreExpr) (next : ℕ) (s : Spot) → CopyDoes p x scope l store k to from words next s
copy_acts works cells p x scope l store k to from words next s based h related over_to over_from over short has =
    let at2 : ℕ = s.pc + end_size to in
    let at3 : ℕ = at2 + end_size from in
    let a : List Line = end_code l.areas to 40 s.pc in
    let b : List Line = end_code l.areas from 42 at2 in
    let e : List Line = expr_code l.areas words 0 at3 in
    let whole : Lie p s.pc (a ++ (b ++ (e ++ length_lines next))) =
    subst (Lie p s.pc) (append_assoc a (b ++ (e ++ length_code)) (jump next) ∙ ap (λ (z : List Line). a ++ z) (append_assoc b (e ++ length_code) (jump next) ∙ ap (λ (z : List Line). b ++ z) (append_assoc e length_code (jump next)))) has in
    let second : Lie p at2 (b ++ (e ++ length_lines next)) = lie_behind p s.pc a (b ++ (e ++ length_lines next)) at2 whole (omega (arith, end_long l to 40 s.pc)) in
    let third : Lie p at3 (e ++ length_lines next) = lie_behind p at2 b (e ++ length_lines next) at3 second (omega (arith, end_long l from 42 at2)) in
    let last : Lie p (at3 + expr_size words) (length_lines next) = lie_behind p at3 e (length_lines next) (at3 + expr_size words) third (omega (arith, expr_long l.areas words 0 at3)) in
    copy_by p x l scope.pointers store (end_steps to) (end_steps from) (expr_steps words) at2 at3 (at3 + expr_size words) next s (end_place to store) (end_place from store) (value_of words store)
    (end_acts cells p x scope l store to 40 s.pc s refl based h related over_to (argument 40 (omega arith) (omega arith)) (argument 41 (omega arith) (omega arith)) (lie_front p s.pc a (b ++ (e ++ length_lines next)) whole))
    (λ t one. end_acts cells p x scope l store from 42 at2 one.there one.arrives based one.fixed one.related over_from (argument 42 (omega arith) (omega arith)) (argument 43 (omega arith) (omega arith)) (lie_front p at2 b (e ++ length_lines next) second))
    (λ t f one two. works p scope l store words 0 at3 two.there two.arrives (lie_front p at3 e (length_lines next) third) two.related over short)
    last
