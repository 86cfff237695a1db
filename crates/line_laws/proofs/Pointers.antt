-- A place through a pointer, and a read through one.
use Rattle.std.specs.Prelude.{◌==◌, nat_lt, if◌then◌else◌, ◌-◌}
use Rattle.std.proofs.Common.{◌≡◌, ℕ, zero, suc, ◌+◌, ◌%◌, ◌^◌, ◌<◌, ◌≤◌, true, false, List, [], ◌∷◌, ◌++◌, length, Option, Some, None, Result, Ok, Err, refl, arith}
use Rattle.std.proofs.lemmas.Bool.Decides.{nat_tests}
use Rattle.fram_ram.specs.Memories.{has_word}
use Rattle.fram_ram.specs.Addresses.{word_below, ram_has_word}
use Rattle.word_isa.specs.declared.instr.Instr.{Instr}
use Rattle.word_isa.specs.declared.instr.Instr.TheVariants.{Mov, Add, Sub, Eq, Ltu, Ld}
use Rattle.walk_run.specs.declared.place.Place.{Place}
use Rattle.walk_run.specs.declared.trap.Trap as walked
use Rattle.walk_run.specs.declared.trap.Trap.TheVariants.{Index, Unset}
use Rattle.walk_run.specs.Trap.{code_of}
use Rattle.walk_run.specs.Store.{Store, place, word_at, pointed}
use Rattle.walk_run.specs.Value.{place_behind, through_place, word_found}
use Rattle.word_machine.specs.State.{Program}
use Rattle.word_machine.specs.Straight.{Spot, line}
use Rattle.line_code.specs.declared.line.Line.{Line}
use Rattle.line_code.specs.Areas.{pointer_at}
use Rattle.line_code.specs.Lines.{bares}
use Rattle.line_code.specs.Expressions.{bound_code, pointer_code}
use Rattle.line_laws.specs.Gives.{Same, Goal, Gives, IsMetByTrap, same_then, word_goal}
use Rattle.line_laws.specs.Relation.{Layout, room_at, place_address, HasArray, Points, Related}
use Rattle.line_laws.specs.Standing.{Lie, lie_front, lie_behind}
use Rattle.line_laws.specs.GiveLaws.{gives_line, gives_then}
use Rattle.line_laws.proofs.Places.{HasPlace, bound_test, below, guard_gives, related_same, cell_same}
use Rattle.line_laws.proofs.Templates.{read_gives}

-- a cell of a pointer
record PointerCell (m : ℕ) : Type 0 where
  there : has_word (1048576 + m) ≡ true
  wraps : (1048576 + m) % 2 ^ 32 ≡ 1048576 + m

in_ram : (m : ℕ) → m < 832 → PointerCell m
in_ram m h = record { there = ram_has_word (1048576 + m) (omega arith) (omega (arith, h)); wraps = omega (arith, h) }

-- the test of a room against 0, and of an index against the room
no_room : (w z : ℕ) → z ≡ 0 → w ≡ 0 → ◌≡◌ {A = ℕ} (if w == z then 1 else 0) 1
no_room w z h k = rw (h, k)

some_room : (w z : ℕ) → z ≡ 0 → 0 < w → ◌≡◌ {A = ℕ} (if w == z then 1 else 0) 0
some_room zero z h k = absurd (omega (arith, k))
some_room (suc w) z h k = let e : (suc w == 0) ≡ false = grind (arith, nat_tests) in rw (h, e)

further : (j i n : ℕ) → nat_lt (j + i) n ≡ nat_lt i (n - j)
further j i n = grind (arith, nat_tests)

-- the parts of the code without jumps
abbrev room_line : (cell : ℕ) → List Instr
room_line cell = Ld 2 15 (cell + 1) ∷ Mov 3 2 ∷ Eq 3 0 ∷ []

abbrev bound_line : List Instr
bound_line = Mov 3 1 ∷ Ltu 3 2 ∷ Eq 3 0 ∷ []

abbrev address_line : (cell : ℕ) → List Instr
address_line cell = Sub 2 1 ∷ Ld 3 15 cell ∷ Add 1 3 ∷ []

-- the place that an index in register 1 names from where a pointer points: its address and room, or trap 3 or 1
pub pointer_gives : (p : Program) (d k most : ℕ) (s : Spot) (l : Layout) (c : ℕ) (store : Store) (cell : ℕ) (at : Option Place) (i : ℕ) (q : Result Place walked.Trap → Goal d)
    → Lie p s.pc (pointer_code cell) → Related l c s store → cell < 831 → Points l cell at s.store → s.regs 1 ≡ i → i < 2 ^ 32
    → ((u : Spot) (array index : ℕ) → u.pc ≡ s.pc + 13 → HasPlace l d array index s u → Gives p d k u (q (Ok (place array index))))
    → ((why : walked.Trap) → IsMetByTrap (q (Err why)) (code_of why)) → k + 11 ≤ most → Gives p d most s (q (place_behind store at i))
pointer_gives p d k most s l c store cell None i q stands related small points has fits go stop few =
    let t : Spot = line p (room_line cell) s in
    let room : PointerCell (cell + 1) = in_ram (cell + 1) (omega (arith, small)) in
    let e : (s.regs 15 + (cell + 1)) % 2 ^ 32 ≡ 1048576 + (cell + 1) = rw related.ram_is room.wraps in
    gives_line p d 2 most (room_line cell) s (q (Err Unset)) (stands.0, (stands.1.0, (stands.1.1.0, tt))) (refl, rw (e, room.there), (refl, refl, (refl, refl, tt))) refl
    (record { fixed = λ r h. simp (h.two, h.three); kept = λ a h. refl })
    (guard_gives p d 1 2 3 t 3 (q (Err Unset)) false stands.1.1.1.0 stands.1.1.1.1.0 (rw e (no_room _ (s.regs 0) related.zero_is points)) (λ h. cc) (λ h. stop Unset) (omega arith) (omega arith)) (omega (arith, few))
pointer_gives p d k most s l c store cell (Some at) i q stands related small points has fits go stop few =
    let a : HasArray l s store at.array = related.arrays at.array in
    let room : ℕ = room_at l at.array - at.index in
    let t : Spot = line p (room_line cell) s in
    let v : Spot = record t { pc = t.pc + 1 + 1; clock = t.clock + 1 } in
    let w : Spot = line p bound_line v in
    let y : Spot = record w { pc = w.pc + 1 + 1; clock = w.clock + 1 } in
    let z : Spot = line p (address_line cell) y in
    let first : PointerCell cell = in_ram cell (omega (arith, small)) in
    let second : PointerCell (cell + 1) = in_ram (cell + 1) (omega (arith, small)) in
    let e : (s.regs 15 + (cell + 1)) % 2 ^ 32 ≡ 1048576 + (cell + 1) = rw related.ram_is second.wraps in
    let g : (s.regs 15 + cell) % 2 ^ 32 ≡ 1048576 + cell = rw related.ram_is first.wraps in
    let has_room : s.store ((s.regs 15 + (cell + 1)) % 2 ^ 32) ≡ room = rw e points.1 in
    let has_address : s.store ((s.regs 15 + cell) % 2 ^ 32) ≡ place_address l at.array at.index = rw g points.0 in
    let to_v : Same d s v = record { fixed = λ r h. simp (h.two, h.three); kept = λ a h. refl } in
    let to_y : Same d v y = record { fixed = λ r h. simp (h.three); kept = λ a h. refl } in
    let to_z : Same d y z = record { fixed = λ r h. simp (h.one, h.two, h.three); kept = λ a h. refl } in
    let rest : Lie p v.pc (bound_code ++ bares (address_line cell)) = stands.1.1.1.1.1 in
    gives_line p d (k + 8) most (room_line cell) s (q (place_behind store (Some at) i)) (stands.0, (stands.1.0, (stands.1.1.0, tt))) (refl, rw (e, second.there), (refl, refl, (refl, refl, tt))) refl
    (record { fixed = λ r h. simp (h.two, h.three); kept = λ a h. refl })
    (guard_gives p d (k + 7) (k + 8) 3 t 3 (q (place_behind store (Some at) i)) true stands.1.1.1.0 stands.1.1.1.1.0 (some_room _ (s.regs 0) related.zero_is (rw has_room (omega (arith, points.2))))
    (λ h. gives_line p d (k + 4) (k + 7) bound_line v (q (place_behind store (Some at) i)) (rest.0, (rest.1.0, (rest.1.1.0, tt))) (refl, refl, (refl, refl, (refl, refl, tt))) refl
    (record { fixed = λ r h. simp (h.three); kept = λ a h. refl })
    (guard_gives p d (k + 3) (k + 4) 1 w 3 (q (place_behind store (Some at) i)) (nat_lt i room) rest.1.1.1.0 rest.1.1.1.1.0 (rw (has_room, has) (bound_test (nat_lt i room) (s.regs 0) related.zero_is))
    (λ inside.
    let j : at.index + i < room_at l at.array = omega (arith, below i room inside) in
    let last : place_address l at.array (room_at l at.array - 1) < 1052672 = word_below (place_address l at.array (room_at l at.array - 1)) (a.cells (room_at l at.array - 1) (omega (arith, j))).there in
    let low : place_address l at.array (at.index + i) < 1052672 = word_below (place_address l at.array (at.index + i)) (a.cells (at.index + i) j).there in
    rw (a.rooms, further at.index i (room_at l at.array), inside)
    (gives_line p d k (k + 3) (address_line cell) y (q (Ok (place at.array (at.index + i)))) rest.1.1.1.1.1 (refl, refl, (refl, rw (g, first.there), (refl, refl, tt))) refl to_z
    (go z at.array (at.index + i) (omega arith) (record {
      address = rw (has, has_address) (omega (arith, low));
      room = rw (has_room, has) (omega (arith, j, last, below i room inside, points.2));
      inside = j;
      same = same_then d s v z to_v (same_then d v y z to_y to_z);
    })) (omega arith)))
    (λ outside. rw (a.rooms, further at.index i (room_at l at.array), outside) (stop Index)) (omega arith) (omega arith)) (omega arith))
    (λ h. cc) (omega arith) (omega arith)) (omega (arith, few))

-- a word through a pointer
pub through_gives : (p : Program) (d most at size : ℕ) (s : Spot) (l : Layout) (c : ℕ) (store : Store) (pointer : ℕ) (index : List Line) (r : Result ℕ walked.Trap)
    → length index ≡ size → pointer < c → s.pc ≡ at → Lie p at (index ++ (pointer_code (pointer_at pointer) ++ bares (Ld 1 1 0 ∷ []))) → Related l c s store
    → Gives p d most s (word_goal d (at + size) r)
    → Gives p d (24 + most) s (word_goal d (at + (size + 14)) (word_found store (through_place store pointer r)))
through_gives p d most at size s l c store pointer index r long there here stands related g =
    let code : List Line = pointer_code (pointer_at pointer) in
    let last : List Line = bares (Ld 1 1 0 ∷ []) in
    let end : at + (size + 14) ≡ at + size + 14 = omega arith in
    let behind : Lie p (at + size) (code ++ last) = lie_behind p at index (code ++ last) (at + size) stands (omega (arith, long)) in
    rw end (gives_then p d most 13 (24 + most) s (at + size) (λ x. word_goal d (at + size + 14) (word_found store (through_place store pointer x))) r g
    (λ i t at_t has fits same.
    let related_t : Related l c t store = related_same l c d s t store related same in
    pointer_gives p d 1 13 t l c store (pointer_at pointer) (pointed store pointer) i (λ x. word_goal d (at + size + 14) (word_found store x))
    (rw at_t (lie_front p (at + size) code last behind)) related_t (omega (arith, there, related_t.few)) (related_t.pointers pointer there) has fits
    (λ u array j at_u h.
    let a : HasArray l t store array = related_t.arrays array in
    let there : Lie p u.pc last = lie_behind p (at + size) code last u.pc behind (omega (arith, at_u, at_t)) in
    let e : u.pc + 1 ≡ at + size + 14 = omega (arith, at_u, at_t) in
    rw (← e) (read_gives p d (place_address l array j) (word_at store (place array j)) u there.0 h.address (cell_same d (place_address l array j) (word_at store (place array j)) t u (a.cells j h.inside) h.same)))
    (λ why s u atoms h. h) (omega arith))
    (λ why s u atoms h. h) (omega arith))
