-- The code of a loop: its variable counts the turns.
use Rattle.std.specs.Prelude.{◌%◌, nat_lt, if◌then◌else◌}
use Rattle.std.proofs.Common.{◌≡◌, ◌∙◌, ℕ, zero, suc, ◌+◌, ◌^◌, ◌<◌, ◌≤◌, true, false, List, [], ◌∷◌, ◌++◌, length, refl, sym, ap, subst, arith}
use Rattle.std.proofs.lemmas.Bool.Decides.{nat_tests}
use Rattle.fram_ram.specs.Memories.{put}
use Rattle.fram_ram.specs.Addresses.{word_below}
use Rattle.word_isa.specs.declared.instr.Instr.{Instr}
use Rattle.word_isa.specs.declared.instr.Instr.TheVariants.{Jmp, Ld, Ldi, Ltu, St, Adi}
use Rattle.walk_run.specs.Operators.{holds}
use Rattle.walk_run.specs.Plain.{Ran, done, trapped, store_left, set_variable, turns_done}
use Rattle.walk_run.specs.PlainSteps.{next_steps, turns_steps}
use Rattle.walk_run.specs.PlainWrites.{Write, sets, next_writes, turns_writes}
use Rattle.walk_run.specs.Store.{Store, place, words_of, word_at}
use Rattle.walk_run.specs.StoreLaws.{word_same}
use Rattle.word_machine.specs.State.{Program}
use Rattle.word_machine.specs.Straight.{Spot, line}
use Rattle.line_code.specs.declared.line.Line.{Line}
use Rattle.line_code.specs.Areas.{area_at}
use Rattle.line_code.specs.Lines.{bares}
use Rattle.line_code.specs.Statements.{loop_code, unless_code}
use Rattle.line_laws.specs.Gives.{IsKept, is_temp, Same, Goal, Gives}
use Rattle.line_laws.specs.Goals.{run_goal}
use Rattle.line_laws.specs.Relation.{Layout, base_at, offset_at, room_at, place_address, HasCell, Related, IsApart}
use Rattle.line_laws.specs.Standing.{Lie, lie_front, lie_behind}
use Rattle.line_laws.proofs.After.{related_after}
use Rattle.line_laws.proofs.Assigning.{frame_other}
use Rattle.line_laws.specs.GiveLaws.{gives_line, gives_most, line_comes}
use Rattle.line_laws.proofs.Places.{related_same}
use Rattle.line_laws.proofs.RunGoals.{run_more, run_there, run_jump, unless_gives}

-- the address of a counter
counter_at : (l : Layout) (c : ℕ) (s : Spot) (store : Store) (i : ℕ) → Related l c s store → 0 < room_at l i → (s.regs (base_at l i) + offset_at l i) % 2 ^ 32 ≡ place_address l i 0
counter_at l c s store i related scalar = omega (arith, (related.arrays i).from, word_below (place_address l i 0) ((related.arrays i).cells 0 scalar).there)

-- a counter takes the word in register 1
counter_gives : (p : Program) (s : Spot) (l : Layout) (c : ℕ) (store : Store) (i word : ℕ) → Lie p s.pc (bares (St 1 (base_at l i) (offset_at l i) ∷ [])) → IsApart l → Related l c s store → 0 < room_at l i → s.regs 1 ≡ word → word < 2 ^ 32
    → Gives p 0 1 s (run_goal l c (s.pc + 1) (sets (place i 0) word ∷ []) (done (set_variable i word store)))
counter_gives p s l c store i word stands apart related scalar has fits =
    let is : List Instr = St 1 (base_at l i) (offset_at l i) ∷ [] in
    let to : ℕ = place_address l i 0 in
    let cell : HasCell s to (word_at store (place i 0)) = (related.arrays i).cells 0 scalar in
    let e : (s.regs (base_at l i) + offset_at l i) % 2 ^ 32 ≡ to = counter_at l c s store i related scalar in
    let fixed : (r : ℕ) → IsKept r → (line p is s).regs r ≡ s.regs r = λ r h. refl in
    let stored : (a : ℕ) → is_temp 0 a ≡ false → (line p is s).store a ≡ put s.store to word a = λ a apart. rw (e, has) in
    line_comes p 0 1 is s (run_goal l c (s.pc + 1) (sets (place i 0) word ∷ []) (done (set_variable i word store))) stands (refl, rw (e, cell.there), tt)
    (record {
      shown = rw (e, has);
      ended = record {
        there = line p is s;
        goes_on = refl;
        arrives = refl;
        fixed = fixed;
        kept = λ a k. rw (e, has, frame_other to a cell.apart k);
        related = related_after l c store (place i 0) word s (line p is s) apart scalar fits related fixed stored;
      };
    })
    (omega arith)

-- a counter grows by one, and the loop begins anew
grow_gives : (p : Program) (s : Spot) (l : Layout) (c : ℕ) (store : Store) (i turn top : ℕ) → Lie p s.pc (bares (Ld 1 (base_at l i) (offset_at l i) ∷ Adi 1 1 ∷ St 1 (base_at l i) (offset_at l i) ∷ Jmp top ∷ []))
    → IsApart l → Related l c s store → 0 < room_at l i → word_at store (place i 0) ≡ turn → turn < 65536 → Gives p 0 4 s (run_goal l c top (sets (place i 0) (turn + 1) ∷ []) (done (set_variable i (turn + 1) store)))
grow_gives p s l c store i turn top stands apart related scalar counts small =
    let is : List Instr = Ld 1 (base_at l i) (offset_at l i) ∷ Adi 1 1 ∷ [] in
    let cell : HasCell s (place_address l i 0) (word_at store (place i 0)) = (related.arrays i).cells 0 scalar in
    let e : (s.regs (base_at l i) + offset_at l i) % 2 ^ 32 ≡ place_address l i 0 = counter_at l c s store i related scalar in
    let t : Spot = line p is s in
    let same : Same 0 s t = record { fixed = λ r h. simp (h.one); kept = λ a h. refl } in
    let word : t.regs 1 ≡ turn + 1 = rw (e, cell.holds, counts) (omega arith) in
    gives_line p 0 2 4 is s (run_goal l c top (sets (place i 0) (turn + 1) ∷ []) (done (set_variable i (turn + 1) store))) (stands.0, (stands.1.0, tt)) (refl, rw (e, cell.there), (refl, refl, tt)) refl same
    (run_jump p 1 t l c (t.pc + 1) top (sets (place i 0) (turn + 1) ∷ []) (done (set_variable i (turn + 1) store))
    (counter_gives p t l c store i (turn + 1) (stands.1.1.0, tt) apart (related_same l c 0 s t store related same) scalar word (omega arith)) stands.1.1.1.0)
    (omega arith)

-- the test of the turns
test_holds : (a b : ℕ) → holds (if nat_lt a b then 1 else 0) ≡ true → a < b
test_holds a b h = grind (arith, nat_tests)

test_fails : (a b : ℕ) → holds (if nat_lt a b then 1 else 0) ≡ false → b ≤ a
test_fails a b h = grind (arith, nat_tests)

-- what stands of a loop behind its first write
record Loop (p : Program) (l : Layout) (i turns top at_body end at_grow : ℕ) : Type 0 where
  test : Lie p top (bares (Ld 1 (base_at l i) (offset_at l i) ∷ Ldi 2 turns ∷ Ltu 1 2 ∷ []) ++ unless_code end)
  body : at_body ≡ top + 6
  grow : Lie p at_grow (bares (Ld 1 (base_at l i) (offset_at l i) ∷ Adi 1 1 ∷ St 1 (base_at l i) (offset_at l i) ∷ Jmp top ∷ []))

-- the test leads into the body where turns are left, and else behind the loop
test_gives : (p : Program) (m most : ℕ) (s : Spot) (l : Layout) (c : ℕ) (store : Store) (i turns top at_body end at_grow turn : ℕ) (q : Goal 0)
    → Loop p l i turns top at_body end at_grow → s.pc ≡ top → Related l c s store → 0 < room_at l i → word_at store (place i 0) ≡ turn
    → ((t : Spot) → t.pc ≡ at_body → Related l c t store → turn < turns → Gives p 0 m t q)
    → ((t : Spot) → t.pc ≡ end → Related l c t store → turns ≤ turn → Gives p 0 m t q)
    → m + 6 ≤ most → Gives p 0 most s q
test_gives p m most s l c store i turns top at_body end at_grow turn q loop here related scalar counts more over few =
    let is : List Instr = Ld 1 (base_at l i) (offset_at l i) ∷ Ldi 2 turns ∷ Ltu 1 2 ∷ [] in
    let cell : HasCell s (place_address l i 0) (word_at store (place i 0)) = (related.arrays i).cells 0 scalar in
    let e : (s.regs (base_at l i) + offset_at l i) % 2 ^ 32 ≡ place_address l i 0 = counter_at l c s store i related scalar in
    let t : Spot = line p is s in
    let same : Same 0 s t = record { fixed = λ r h. simp (h.one, h.two); kept = λ a h. refl } in
    let related_t : Related l c t store = related_same l c 0 s t store related same in
    let w : ℕ = if nat_lt turn turns then 1 else 0 in
    let has : t.regs 1 ≡ w = rw (e, cell.holds, counts) in
    let test : Lie p s.pc (bares is ++ unless_code end) = rw here loop.test in
    gives_line p 0 (m + 3) most is s q (test.0, (test.1.0, (test.1.1.0, tt))) (refl, rw (e, cell.there), (refl, refl, (refl, refl, tt))) refl same
    (unless_gives p m (m + 3) end w t q test.1.1.1 related_t.zero_is has
    (λ is_more u at_u same_u. more u (omega (arith, at_u, here, loop.body)) (related_same l c 0 t u store related_t same_u) (test_holds turn turns is_more))
    (λ is_over u at_u same_u. over u at_u (related_same l c 0 t u store related_t same_u) (test_fails turn turns is_over))
    (omega arith))
    (omega (arith, few))

-- the writes of the turns that are left, but for the variable's first
abbrev tail_writes : (body : Store → Ran) → (writes : Store → List Write) → (variable number left : ℕ) → Store → List Write
tail_writes body writes variable number zero store = []
tail_writes body writes variable number (suc left) store =
    let set = set_variable variable number store in
    writes set ++ next_writes (body set) (turns_writes body writes variable (number + 1) left)

turns_are : (body : Store → Ran) (writes : Store → List Write) (variable number left : ℕ) (store : Store) → turns_writes body writes variable number left store ≡ sets (place variable 0) number ∷ tail_writes body writes variable number left store
turns_are body writes variable number zero store = refl
turns_are body writes variable number (suc left) store = refl

more_most : (r : Ran) (k : Store → ℕ) (n : ℕ) → next_steps r (λ store. n + k store) ≤ n + next_steps r k
more_most (done store) k n = omega arith
more_most (trapped why store) k n = omega arith

same_done : (x y : Store) → done x ≡ done y → x ≡ y
same_done x y is = ap store_left is

-- what a turn's body does, wherever its variable stands
abbrev pub BodyWorks : (p : Program) (l : Layout) (c i at_body at_grow : ℕ) (body : Store → Ran) (writes : Store → List Write) (steps : Store → ℕ) (good : Store → Type 0) → Type 0
BodyWorks p l c i at_body at_grow body writes steps good =
    (t : Spot) (store : Store) → t.pc ≡ at_body → Related l c t store → good store → Gives p 0 (steps store) t (run_goal l c at_grow (writes store) (body store))

-- a body leaves its loop's variable, and what is good of a store
pub record BodyKeeps (i : ℕ) (body : Store → Ran) (good : Store → Type 0) : Type 0 where
  pub spares : (store after : Store) → good store → body store ≡ done after → word_at after (place i 0) ≡ word_at store (place i 0)
  pub stays : (store after : Store) → good store → body store ≡ done after → good after
  pub sets_good : (store : Store) (number : ℕ) → good store → good (set_variable i number store)

-- the turns that are left, from the test on
rest_gives : (p : Program) (l : Layout) (c i turns top at_body end at_grow : ℕ) (body : Store → Ran) (writes : Store → List Write) (steps : Store → ℕ) (good : Store → Type 0)
    → Loop p l i turns top at_body end at_grow → IsApart l → 0 < room_at l i → turns < 65536 → BodyWorks p l c i at_body at_grow body writes steps good → BodyKeeps i body good
    → (left turn : ℕ) (s : Spot) (store : Store) → s.pc ≡ top → Related l c s (set_variable i turn store) → good store → word_at (set_variable i turn store) (place i 0) ≡ turn → turn + left ≡ turns
    → Gives p 0 (turns_steps body steps i turn left store + 6) s (run_goal l c end (tail_writes body writes i turn left store) (turns_done body i turn left store))
rest_gives p l c i turns top at_body end at_grow body writes steps good loop apart scalar small works keeps zero turn s store here related is_good counts all =
    let set : Store = set_variable i turn store in
    test_gives p 0 6 s l c set i turns top at_body end at_grow turn (run_goal l c end [] (done set)) loop here related scalar counts
    (λ t at_t related_t more. absurd (omega (arith, more, all)))
    (λ t at_t related_t over. run_there p 0 t l c end set at_t related_t)
    (omega arith)
rest_gives p l c i turns top at_body end at_grow body writes steps good loop apart scalar small works keeps (suc left) turn s store here related is_good counts all =
    let set : Store = set_variable i turn store in
    let good_set : good set = keeps.sets_good store turn is_good in
    let next : Store → Ran = turns_done body i (turn + 1) left in
    let next_most : Store → ℕ = λ after. 10 + turns_steps body steps i (turn + 1) left after in
    let next_all : Store → List Write = turns_writes body writes i (turn + 1) left in
    test_gives p (steps set + next_steps (body set) next_most) (turns_steps body steps i turn (suc left) store + 6) s l c set i turns top at_body end at_grow turn
    (run_goal l c end (tail_writes body writes i turn (suc left) store) (turns_done body i turn (suc left) store)) loop here related scalar counts
    (λ t at_t related_t more.
    run_more p (steps set) next_most t l c at_grow end (writes set) (body set) next_all next (works t set at_t related_t good_set)
    (λ u after is at_u related_u.
    let good_after : good after = keeps.stays set after good_set is in
    let count : word_at after (place i 0) ≡ turn = keeps.spares set after good_set is ∙ counts in
    let grown : Store = set_variable i (turn + 1) after in
    let rest_most : ℕ = turns_steps body steps i (turn + 1) left after + 6 in
    let inside : 0 < length (words_of after i) = subst (λ n. 0 < n) (sym (related_u.arrays i).rooms) scalar in
    subst (λ w. Gives p 0 (next_most after) u (run_goal l c end w (next after))) (sym (turns_are body writes i (turn + 1) left after))
    (gives_most p 0 (4 + rest_most) (next_most after) u (run_goal l c end (sets (place i 0) (turn + 1) ∷ tail_writes body writes i (turn + 1) left after) (next after))
    (run_more p 4 (λ v. rest_most) u l c top end (sets (place i 0) (turn + 1) ∷ []) (done grown) (λ v. tail_writes body writes i (turn + 1) left after) (λ v. next after)
    (grow_gives p u l c after i turn top (rw at_u loop.grow) apart related_u scalar count (omega (arith, more, small)))
    (λ v last is_last at_v related_v.
    rest_gives p l c i turns top at_body end at_grow body writes steps good loop apart scalar small works keeps left (turn + 1) v after at_v
    (subst (Related l c v) (sym (same_done grown last is_last)) related_v) good_after (word_same (place i 0) (turn + 1) after inside) (omega (arith, all))))
    (omega arith))))
    (λ t at_t related_t over. absurd (omega (arith, over, all)))
    (omega (arith, more_most (body set) (turns_steps body steps i (turn + 1) left) 10))

-- a loop
pub loop_gives : (p : Program) (l : Layout) (c i turns at size : ℕ) (code : List Line) (body : Store → Ran) (writes : Store → List Write) (steps : Store → ℕ) (good : Store → Type 0) (s : Spot) (store : Store)
    → length code ≡ size → s.pc ≡ at → Lie p at (loop_code (area_at l.areas i) turns (at + 2) (at + 8 + size + 4) code) → IsApart l → Related l c s store → 0 < room_at l i → turns < 65536 → good store
    → BodyWorks p l c i (at + 8) (at + 8 + size) body writes steps good → BodyKeeps i body good
    → Gives p 0 (23 + turns_steps body steps i 0 turns store) s (run_goal l c (at + (size + 12)) (turns_writes body writes i 0 turns store) (turns_done body i 0 turns store))
loop_gives p l c i turns at size code body writes steps good s store long here stands apart related scalar small is_good works keeps =
    let end : ℕ = at + 8 + size + 4 in
    let end_is : at + (size + 12) ≡ end = omega arith in
    let tail : List Line = bares (Ld 1 (base_at l i) (offset_at l i) ∷ Adi 1 1 ∷ St 1 (base_at l i) (offset_at l i) ∷ Jmp (at + 2) ∷ []) in
    let begin : List Line = bares (Ldi 1 0 ∷ St 1 (base_at l i) (offset_at l i) ∷ []) in
    let test : List Line = bares (Ld 1 (base_at l i) (offset_at l i) ∷ Ldi 2 turns ∷ Ltu 1 2 ∷ []) ++ unless_code end in
    let at_test : Lie p (at + 2) (test ++ (code ++ tail)) = lie_behind p at begin (test ++ (code ++ tail)) (at + 2) stands refl in
    let at_code : Lie p (at + 8) (code ++ tail) = lie_behind p (at + 2) test (code ++ tail) (at + 8) at_test (omega arith) in
    let loop : Loop p l i turns (at + 2) (at + 8) end (at + 8 + size) = record {
      test = lie_front p (at + 2) test (code ++ tail) at_test;
      body = omega arith;
      grow = lie_behind p (at + 8) code tail (at + 8 + size) at_code (omega (arith, long));
    } in
    let t : Spot = line p (Ldi 1 0 ∷ []) s in
    let same : Same 0 s t = record { fixed = λ r h. simp (h.one); kept = λ a h. refl } in
    let related_t : Related l c t store = related_same l c 0 s t store related same in
    let set : Store = set_variable i 0 store in
    let most : ℕ = turns_steps body steps i 0 turns store + 6 in
    let inside : 0 < length (words_of store i) = subst (λ n. 0 < n) (sym (related.arrays i).rooms) scalar in
    let first : Lie p s.pc begin = rw here (lie_front p at begin (test ++ (code ++ tail)) stands) in
    rw end_is (gives_line p 0 (1 + most) (23 + turns_steps body steps i 0 turns store) (Ldi 1 0 ∷ []) s (run_goal l c end (turns_writes body writes i 0 turns store) (turns_done body i 0 turns store))
    (first.0, tt) (refl, refl, tt) refl same
    (subst (λ w. Gives p 0 (1 + most) t (run_goal l c end w (turns_done body i 0 turns store))) (sym (turns_are body writes i 0 turns store))
    (run_more p 1 (λ v. most) t l c (t.pc + 1) end (sets (place i 0) 0 ∷ []) (done set) (λ v. tail_writes body writes i 0 turns store) (λ v. turns_done body i 0 turns store)
    (counter_gives p t l c store i 0 (first.1.0, tt) apart related_t scalar refl (omega arith))
    (λ v last is_last at_v related_v.
    rest_gives p l c i turns (at + 2) (at + 8) end (at + 8 + size) body writes steps good loop apart scalar small works keeps turns 0 v store (omega (arith, at_v, here))
    (subst (Related l c v) (sym (same_done set last is_last)) related_v) is_good (word_same (place i 0) 0 store inside) (omega arith))))
    (omega arith))
