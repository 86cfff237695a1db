-- Each template gives what the value of its variant says, from what its parts' code gives.
use Rattle.std.specs.Prelude.{◌==◌, ◌%◌}
use Rattle.std.proofs.Common.{◌≡◌, ◌∙◌, ℕ, ◌+◌, ◌^◌, ◌<◌, ◌≤◌, true, false, List, [], ◌∷◌, ◌++◌, length, Result, Ok, refl, arith}
use Rattle.std.proofs.lemmas.Bool.Decides.{nat_tests}
use Rattle.ease_base.specs.Found.{with_found}
use Rattle.fram_ram.specs.Memories.{has_word, is_fram}
use Rattle.fram_ram.specs.Addresses.{word_below, ram_has_word}
use Rattle.task_ast.specs.declared.tree.Op1.{Op1}
use Rattle.task_ast.specs.declared.tree.Op2.{Op2}
use Rattle.word_isa.specs.declared.instr.Instr.{Instr}
use Rattle.word_isa.specs.declared.instr.Instr.TheVariants.{Mov, Ld, St}
use Rattle.walk_run.specs.declared.trap.Trap.{Trap}
use Rattle.walk_run.specs.Operators.{one_word, two_words}
use Rattle.walk_run.specs.Store.{Store, place, word_at}
use Rattle.walk_run.specs.Value.{cell_place, word_found}
use Rattle.word_machine.specs.State.{Program}
use Rattle.word_machine.specs.Straight.{Stand, Spot, line}
use Rattle.line_code.specs.declared.line.Line.{Line}
use Rattle.line_code.specs.Areas.{area_at}
use Rattle.line_code.specs.Lines.{bares}
use Rattle.line_code.specs.Expressions.{place_code, one_code, op_code, sides_code}
use Rattle.line_laws.specs.Gives.{is_temp, Same, Goal, Gives, word_goal}
use Rattle.line_laws.specs.Relation.{Layout, place_address, HasCell, HasArray, Related}
use Rattle.line_laws.specs.Standing.{Lie, lie_front, lie_behind}
use Rattle.line_laws.specs.GiveLaws.{line_gives, gives_line, gives_then, gives_then_deeper}
use Rattle.line_laws.proofs.Parts.{is_strict, op_gives, one_gives}
use Rattle.line_laws.proofs.Places.{place_gives, related_same, cell_same}

-- a word of a memory, read from the address in register 1
pub read_gives : (p : Program) (d a word : ℕ) (s : Spot) → Stand p s.pc (Ld 1 1 0) → s.regs 1 ≡ a → HasCell s a word → Gives p d 1 s (word_goal d (s.pc + 1) (Ok word))
read_gives p d a word s stands is cell =
    let e : (s.regs 1 + 0) % 2 ^ 32 ≡ a = omega (arith, is, word_below a cell.there) in
    line_gives p d 1 (Ld 1 1 0 ∷ []) s word (stands, tt) (refl, rw (e, cell.there), tt) refl
    (record { fixed = λ r h. simp (h.one); kept = λ a h. refl }) (rw e (cell.holds)) cell.fits (omega arith)

-- a word of an array
pub cell_gives : (p : Program) (d most at size : ℕ) (s : Spot) (l : Layout) (c : ℕ) (store : Store) (array : ℕ) (index : List Line) (r : Result ℕ Trap)
    → length index ≡ size → s.pc ≡ at → Lie p at (index ++ (place_code (area_at l.areas array) ++ bares (Ld 1 1 0 ∷ []))) → Related l c s store
    → Gives p d most s (word_goal d (at + size) r)
    → Gives p d (12 + most) s (word_goal d (at + (size + 10)) (word_found store (cell_place store array r)))
cell_gives p d most at size s l c store array index r long here stands related g =
    let code : List Line = place_code (area_at l.areas array) in
    let last : List Line = bares (Ld 1 1 0 ∷ []) in
    let end : at + (size + 10) ≡ at + size + 10 = omega arith in
    let behind : Lie p (at + size) (code ++ last) = lie_behind p at index (code ++ last) (at + size) stands (omega (arith, long)) in
    rw end (gives_then p d most 10 (12 + most) s (at + size) (λ x. word_goal d (at + size + 10) (word_found store (cell_place store array x))) r g
    (λ i t at_t has fits same. place_gives p d 1 10 t l c store array i (λ x. word_goal d (at + size + 10) (word_found store x))
    (rw at_t (lie_front p (at + size) code last behind)) (related_same l c d s t store related same) has
    (λ u at_u h.
    let a : HasArray l t store array = (related_same l c d s t store related same).arrays array in
    let there : Lie p u.pc last = lie_behind p (at + size) code last u.pc behind (omega (arith, at_u, at_t)) in
    let e : u.pc + 1 ≡ at + size + 10 = omega (arith, at_u, at_t) in
    rw (← e) (read_gives p d (place_address l array i) (word_at store (place array i)) u there.0 h.address (cell_same d (place_address l array i) (word_at store (place array i)) t u (a.cells i h.inside) h.same)))
    (λ why s u atoms h. h) (omega arith))
    (λ why s u atoms h. h) (omega arith))

-- a prefix operator
pub prefix_gives : (op : Op1) (p : Program) (d most at size : ℕ) (s : Spot) (l : Layout) (c : ℕ) (store : Store) (part : List Line) (r : Result ℕ Trap)
    → length part ≡ size → s.pc ≡ at → Lie p at (part ++ one_code op) → Related l c s store → Gives p d most s (word_goal d (at + size) r)
    → Gives p d (12 + most) s (word_goal d (at + (size + length (one_code op))) (with_found r (λ word. Ok (one_word op word))))
prefix_gives op p d most at size s l c store part r long here stands related g =
    let end : at + (size + length (one_code op)) ≡ at + size + length (one_code op) = omega arith in
    rw end (gives_then p d most 4 (12 + most) s (at + size) (λ x. word_goal d (at + size + length (one_code op)) (with_found x (λ word. Ok (one_word op word)))) r g
    (λ x t at_t has fits same.
    rw (← at_t) (one_gives op p d x t (lie_behind p at part (one_code op) t.pc stands (omega (arith, at_t, long))) (related_same l c d s t store related same).zero_is has fits))
    (λ why s u atoms h. h) (omega arith))

-- the cell for a word in between: it has a word of RAM, and is no other cell
pub temp_there : (d : ℕ) → d < 32 → has_word (1048576 + d) ≡ true
temp_there d h = ram_has_word (1048576 + d) (omega arith) (omega arith)

temp_other : (d a : ℕ) → d < 32 → is_temp d a ≡ false → (1048576 + d == a) ≡ false
temp_other d a h k = grind (arith, nat_tests)

pub temp_shallow : (d : ℕ) → is_temp (d + 1) (1048576 + d) ≡ false
temp_shallow d = grind (arith, nat_tests)

temp_in_ram : (d : ℕ) → is_fram (1048576 + d) ≡ false
temp_in_ram d = grind (arith, nat_tests)

same_word : (a : ℕ) → (a == a) ≡ true
same_word a = grind (arith, nat_tests)

-- a word is put into the cell of a depth
pub temp_gives : (p : Program) (d m most : ℕ) (s : Spot) (q : Goal d) → Stand p s.pc (St 1 15 d) → s.regs 15 ≡ 1048576 → d < 32
    → ((t : Spot) → t.pc ≡ s.pc + 1 → t.store (1048576 + d) ≡ s.regs 1 → Same d s t → Gives p d m t q)
    → 1 + m ≤ most → Gives p d most s q
temp_gives p d m most s q stands ram room go few =
    let e : (s.regs 15 + d) % 2 ^ 32 ≡ 1048576 + d = omega (arith, ram) in
    let t : Spot = line p (St 1 15 d ∷ []) s in
    let same : Same d s t = record { fixed = λ r h. refl; kept = λ a h. rw (e, temp_other d a room h) } in
    gives_line p d m most (St 1 15 d ∷ []) s q (stands, tt) (refl, rw (e, temp_there d room), tt) (rw (e, temp_in_ram d)) same
    (go t refl (rw (e, same_word (1048576 + d))) same) few

-- the left word is taken back from its cell, and the operator follows
pub back_gives : (op : Op2) (p : Program) (d x y : ℕ) (s : Spot) → is_strict op ≡ true → d < 32 → Lie p s.pc (bares (Mov 2 1 ∷ Ld 1 15 d ∷ []) ++ op_code op)
    → s.regs 0 ≡ 0 → s.regs 15 ≡ 1048576 → s.store (1048576 + d) ≡ x → s.regs 1 ≡ y → x < 2 ^ 32 → y < 2 ^ 32
    → Gives p d 5 s (word_goal d (s.pc + 2 + length (op_code op)) (two_words op x y))
back_gives op p d x y s strict room stands zero_is ram cell has fits_x fits_y =
    let e : (s.regs 15 + d) % 2 ^ 32 ≡ 1048576 + d = omega (arith, ram) in
    let is : List Instr = Mov 2 1 ∷ Ld 1 15 d ∷ [] in
    let t : Spot = line p is s in
    let pc_is : s.pc + 2 + length (op_code op) ≡ t.pc + length (op_code op) = omega arith in
    gives_line p d 3 5 is s (word_goal d (s.pc + 2 + length (op_code op)) (two_words op x y)) (stands.0, (stands.1.0, tt)) (refl, refl, (refl, rw (e, temp_there d room), tt)) refl
    (record { fixed = λ r h. simp (h.one, h.two); kept = λ a h. refl })
    (rw pc_is (op_gives op p d x y t strict stands.1.1 zero_is (rw e cell) has fits_x fits_y)) (omega arith)

-- both sides of an operator that values both
pub sides_gives : (op : Op2) (p : Program) (d m n at v w : ℕ) (s : Spot) (l : Layout) (c : ℕ) (store : Store) (left right : List Line) (x y : Result ℕ Trap)
    → is_strict op ≡ true → d < 32 → length left ≡ v → length right ≡ w → s.pc ≡ at → Lie p at (sides_code op d left right) → Related l c s store
    → Gives p d m s (word_goal d (at + v) x)
    → ((t : Spot) → t.pc ≡ at + v + 1 → Related l c t store → Gives p (d + 1) n t (word_goal (d + 1) (at + v + 1 + w) y))
    → Gives p d (12 + (m + n)) s (word_goal d (at + (v + w + (3 + length (op_code op)))) (with_found x (λ word. with_found y (two_words op word))))
sides_gives op p d m n at v w s l c store left right x y strict room long_left long_right here stands related first second =
    let tail : List Line = bares (Mov 2 1 ∷ Ld 1 15 d ∷ []) ++ op_code op in
    let mid : ℕ = at + v + 1 + w in
    let pc : ℕ = mid + 2 + length (op_code op) in
    let end : at + (v + w + (3 + length (op_code op))) ≡ pc = omega arith in
    let behind : Lie p (at + v) (bares (St 1 15 d ∷ []) ++ (right ++ tail)) = lie_behind p at left (bares (St 1 15 d ∷ []) ++ (right ++ tail)) (at + v) stands (omega (arith, long_left)) in
    let last : Lie p mid tail = lie_behind p (at + v + 1) right tail mid behind.1 (omega (arith, long_right)) in
    rw end (gives_then p d m (n + 6) (12 + (m + n)) s (at + v) (λ z. word_goal d pc (with_found z (λ word. with_found y (two_words op word)))) x first
    (λ a t at_t has_a fits_a same_t.
    let related_t : Related l c t store = related_same l c d s t store related same_t in
    temp_gives p d (n + 5) (n + 6) t (word_goal d pc (with_found y (two_words op a))) (rw at_t behind.0) related_t.ram_is room
    (λ u at_u cell same_u.
    let related_u : Related l c u store = related_same l c d t u store related_t same_u in
    gives_then_deeper p d (d + 1) n 5 (n + 5) u mid (λ z. word_goal d pc (with_found z (two_words op a))) y (omega arith) (second u (omega (arith, at_u, at_t)) related_u)
    (λ b r at_r has_b fits_b same_r.
    let related_r : Related l c r store = related_same l c (d + 1) u r store related_u same_r in
    rw (← at_r) (back_gives op p d a b r strict room (rw at_r last) related_r.zero_is related_r.ram_is (same_r.kept (1048576 + d) (temp_shallow d) ∙ cell ∙ has_a) has_b fits_a fits_b))
    (λ why s u atoms h. h) (omega arith)) (omega arith))
    (λ why s u atoms h. h) (omega arith))
