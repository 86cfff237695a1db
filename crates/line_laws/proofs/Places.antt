-- The code of a place, and what of a relation stays.
use Rattle.std.specs.Prelude.{◌==◌, ◌-◌, nat_lt, if◌then◌else◌}
use Rattle.std.proofs.Common.{◌≡◌, ◌∙◌, ℕ, ◌+◌, ◌<◌, ◌≤◌, Bool, true, false, List, [], ◌∷◌, Option, Some, None, Result, Ok, Err, refl, arith}
use Rattle.std.proofs.lemmas.Bool.Decides.{nat_tests}
use Rattle.fram_ram.specs.Addresses.{word_below}
use Rattle.word_isa.specs.declared.instr.Instr.TheVariants.{Jz, Trap, Ldi, Mov, Ltu, Eq, Sub, Add, Adi}
use Rattle.walk_run.specs.Store.{Store, place, word_at, pointed}
use Rattle.walk_run.specs.Value.{place_in}
use Rattle.walk_run.specs.Trap.{code_of}
use Rattle.walk_run.specs.declared.place.Place.{Place}
use Rattle.walk_run.specs.declared.trap.Trap as walked
use Rattle.walk_run.specs.declared.trap.Trap.TheVariants.{Index}
use Rattle.word_machine.specs.State.{Program}
use Rattle.word_machine.specs.Events.{event_next}
use Rattle.word_machine.specs.Traces.{seen, writes_next}
use Rattle.word_machine.specs.Straight.{Stand, Spot, live, line}
use Rattle.line_laws.specs.Standing.{Lie}
use Rattle.line_code.specs.Areas.{area_at, pointer_at}
use Rattle.word_isa.specs.declared.instr.Instr.{Instr}
use Rattle.line_laws.specs.Gives.{is_temp, Same, Goal, Gives, IsMetByTrap, same_then}
use Rattle.line_laws.specs.Relation.{Layout, base_at, offset_at, room_at, is_cell, place_address, HasCell, HasArray, Points, Related}
use Rattle.line_code.specs.Expressions.{place_code}
use Rattle.word_machine.specs.RunLaws.{step_jz}
use Rattle.line_laws.specs.GiveLaws.{gives_line, gives_step, gives_trap}

-- deeper cells are cells
pub apart_deeper : (d a : ℕ) → is_cell a ≡ false → is_temp d a ≡ false
apart_deeper d a h = grind (arith, nat_tests)

-- a cell that is the same
pub cell_same : (d a word : ℕ) (s t : Spot) → HasCell s a word → Same d s t → HasCell t a word
cell_same d a word s t h same = record { there = h.there; apart = h.apart; holds = same.kept a (apart_deeper d a h.apart) ∙ h.holds; fits = h.fits }

-- the cells of a pointer are none of the cells for words in between
pub pointer_cell : (d k : ℕ) → 320 ≤ k → is_temp d (1048576 + k) ≡ false
pointer_cell d k h = grind (arith, nat_tests)

points_same : (l : Layout) (d cell : ℕ) (at : Option Place) (s t : Spot) → 320 ≤ cell → Same d s t → Points l cell at s.store → Points l cell at t.store
points_same l d cell None s t far same h = same.kept (1048576 + (cell + 1)) (pointer_cell d (cell + 1) (omega arith)) ∙ h
points_same l d cell (Some at) s t far same h =
    (same.kept (1048576 + cell) (pointer_cell d cell far) ∙ h.0, same.kept (1048576 + (cell + 1)) (pointer_cell d (cell + 1) (omega arith)) ∙ h.1, h.2)

-- a store stays related over the code of an expression
pub related_same : (l : Layout) (n d : ℕ) (s t : Spot) (store : Store) → Related l n s store → Same d s t → Related l n t store
related_same l n d s t store h same = record {
  zero_is = same.fixed 0 (record { one = refl; two = refl; three = refl }) ∙ h.zero_is;
  ram_is = same.fixed 15 (record { one = refl; two = refl; three = refl }) ∙ h.ram_is;
  few = h.few;
  many = h.many;
  arrays = λ array. record {
    base = (h.arrays array).base;
    from = same.fixed (base_at l array) (h.arrays array).base ∙ (h.arrays array).from;
    rooms = (h.arrays array).rooms;
    cells = λ i below. cell_same d (place_address l array i) (word_at store (place array i)) s t ((h.arrays array).cells i below) same;
  };
  pointers = λ pointer below. points_same l d (pointer_at pointer) (pointed store pointer) s t (omega arith) same (h.pointers pointer below);
}

-- nothing is seen of a jump where a register is 0
pub jz_seen : (p : Program) (a m : ℕ) (s : Spot) → Stand p s.pc (Jz a m) → seen p (live s) ≡ []
unfolding writes_next event_next
jz_seen p a m s stand = rw (stand.instr, stand.mark)

-- a guard is passed where its register is 0, and else traps
pub guard_gives : (p : Program) (d m most code : ℕ) (s : Spot) (r : ℕ) (q : Goal d) (b : Bool)
    → Stand p s.pc (Jz r 1) → Stand p (s.pc + 1) (Trap code) → s.regs r ≡ (if b then 0 else 1)
    → (b ≡ true → Gives p d m (record s { pc = s.pc + 1 + 1; clock = s.clock + 1 }) q)
    → (b ≡ false → IsMetByTrap q code)
    → 1 ≤ m → 1 + m ≤ most → Gives p d most s q
guard_gives p d m most code s r q true jump stop is pass fail some few =
    gives_step p d m most s (record s { pc = s.pc + 1 + 1; clock = s.clock + 1 }) q
    (step_jz p r 1 s jump ∙ rw is) (jz_seen p r 1 s jump) (record { fixed = λ r h. refl; kept = λ a h. refl }) (pass refl) few
guard_gives p d m most code s r q false jump stop is pass fail some few =
    gives_step p d 1 most s (record s { pc = s.pc + 1; clock = s.clock + 1 }) q
    (step_jz p r 1 s jump ∙ rw is) (jz_seen p r 1 s jump) (record { fixed = λ r h. refl; kept = λ a h. refl })
    (gives_trap p d 1 (Trap code) (record s { pc = s.pc + 1; clock = s.clock + 1 }) q code stop refl (fail refl) (omega arith)) (omega (arith, some, few))

-- the three parts of a place's code
abbrev pub room_line : (l : Layout) (array : ℕ) → List Instr
room_line l array = Ldi 2 (room_at l array) ∷ Mov 3 1 ∷ Ltu 3 2 ∷ Eq 3 0 ∷ []

abbrev pub address_line : (l : Layout) (array : ℕ) → List Instr
address_line l array = Sub 2 1 ∷ Add 1 (base_at l array) ∷ Adi 1 (offset_at l array) ∷ []

-- a place's code led to an address and to the room from there on
pub record HasPlace (l : Layout) (d array i : ℕ) (s u : Spot) : Type 0 where
  pub address : u.regs 1 ≡ place_address l array i
  pub room : u.regs 2 ≡ room_at l array - i
  pub inside : i < room_at l array
  pub same : Same d s u

-- a test of the room, as the guard finds it
pub bound_test : (b : Bool) (z : ℕ) → z ≡ 0 → ◌≡◌ {A = ℕ} (if (if b then 1 else 0) == z then 1 else 0) (if b then 0 else 1)
bound_test true z h = rw h
bound_test false z h = rw h

pub below : (i n : ℕ) → nat_lt i n ≡ true → i < n
below i n h = grind (arith, nat_tests)

-- the place that an index in register 1 names: its address and its room, or trap 1
pub place_gives : (p : Program) (d k most : ℕ) (s : Spot) (l : Layout) (n : ℕ) (store : Store) (array i : ℕ) (q : Result Place walked.Trap → Goal d)
    → Lie p s.pc (place_code (area_at l.areas array)) → Related l n s store → s.regs 1 ≡ i
    → ((u : Spot) → u.pc ≡ s.pc + 9 → HasPlace l d array i s u → Gives p d k u (q (Ok (place array i))))
    → ((why : walked.Trap) → IsMetByTrap (q (Err why)) (code_of why)) → k + 8 ≤ most → Gives p d most s (q (place_in store array i))
place_gives p d k most s l n store array i q stands related has go stop few =
    let a : HasArray l s store array = related.arrays array in
    let t : Spot = line p (room_line l array) s in
    let v : Spot = record t { pc = t.pc + 1 + 1; clock = t.clock + 1 } in
    let z : Spot = line p (address_line l array) v in
    let to_v : Same d s v = record { fixed = λ r h. simp (h.two, h.three); kept = λ a h. refl } in
    let to_z : Same d v z = record { fixed = λ r h. simp (h.one, h.two); kept = λ a h. refl } in
    gives_line p d (k + 4) most (room_line l array) s (q (place_in store array i))
    (stands.0, (stands.1.0, (stands.1.1.0, (stands.1.1.1.0, tt)))) (refl, refl, (refl, refl, (refl, refl, (refl, refl, tt)))) refl (record { fixed = λ r h. simp (h.two, h.three); kept = λ a h. refl })
    (guard_gives p d (k + 3) (k + 4) 1 t 3 (q (place_in store array i)) (nat_lt i (room_at l array)) stands.1.1.1.1.0 stands.1.1.1.1.1.0 (rw has (bound_test (nat_lt i (room_at l array)) (s.regs 0) related.zero_is))
    (λ inside.
    let j : i < room_at l array = below i (room_at l array) inside in
    let last : place_address l array (room_at l array - 1) < 1052672 = word_below (place_address l array (room_at l array - 1)) (a.cells (room_at l array - 1) (omega (arith, j))).there in
    rw (a.rooms, inside) (gives_line p d k (k + 3) (address_line l array) v (q (Ok (place array i))) stands.1.1.1.1.1.1 (refl, refl, (refl, refl, (refl, refl, tt))) refl to_z
    (go z (omega arith) (record {
      address = simp (a.base.two, a.base.three, a.from, has) (omega (arith, last, j));
      room = rw has (omega (arith, last, j));
      inside = j;
      same = same_then d s v z to_v to_z;
    })) (omega arith)))
    (λ outside. rw (a.rooms, outside) (stop Index)) (omega arith) (omega arith)) (omega (arith, few))
