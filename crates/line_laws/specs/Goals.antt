-- What the code of a place and of a statement comes to.
use Rattle.std.specs.Prelude.{◌≡◌, ℕ, ◌-◌, ◌<◌, ◌&&◌, nat_lt, nat_le, Bool, true, List, [], ◌∷◌, ◌++◌, Result, Ok, Err}
use Rattle.std.proofs.Common.{◌∙◌, false, arith}
use Rattle.std.proofs.lemmas.Bool.Decides.{nat_tests}
use Rattle.walk_run.specs.declared.place.Place.{Place}
use Rattle.walk_run.specs.declared.trap.Trap.{Trap}
use Rattle.walk_run.specs.Trap.{code_of}
use Rattle.walk_run.specs.Store.{Store}
use Rattle.walk_run.specs.Plain.{Ran, done, trapped}
use Rattle.walk_run.specs.PlainWrites.{Write, sets, points}
use Rattle.word_machine.specs.State.{State}
use Rattle.word_machine.specs.Straight.{Spot, live}
use Rattle.word_machine.specs.Traces.{Atom, noted}
use Rattle.word_machine.specs.declared.ending.Ending.TheVariants.{Trapped}
use Rattle.line_laws.specs.Gives.{is_temp, IsKept, Same, Goal, HasTrapped, same_then}
use Rattle.line_laws.specs.Relation.{Layout, room_at, place_address, Related}

-- the address of a place in register 1 and the room from there on in register 2, at an address, with nothing seen
pub record HasPlaceAt (l : Layout) (d pc : ℕ) (at : Place) (s : Spot) (u : State) (atoms : List Atom) : Type 0 where
  pub there : Spot
  pub goes_on : u ≡ live there
  pub arrives : there.pc ≡ pc
  pub address : there.regs 1 ≡ place_address l at.array at.index
  pub room : there.regs 2 ≡ room_at l at.array - at.index
  pub inside : at.index < room_at l at.array
  pub same : Same d s there
  pub quiet : atoms ≡ []

-- the place that was found, or the trap
abbrev pub place_met : Layout → (d pc : ℕ) → Result Place Trap → Spot → State → List Atom → Type 0
place_met l d pc (Ok at) s u atoms = HasPlaceAt l d pc at s u atoms
place_met l d pc (Err why) s u atoms = HasTrapped (code_of why) u atoms

pub place_back : (l : Layout) (d pc : ℕ) (r : Result Place Trap) (s t : Spot) (u : State) (atoms : List Atom) → Same d s t → place_met l d pc r t u atoms → place_met l d pc r s u atoms
place_back l d pc (Ok at) s t u atoms same h = record {
  there = h.there;
  goes_on = h.goes_on;
  arrives = h.arrives;
  address = h.address;
  room = h.room;
  inside = h.inside;
  same = same_then d s t h.there same h.same;
  quiet = h.quiet;
}
place_back l d pc (Err why) s t u atoms same h = h

abbrev pub place_goal : Layout → (d pc : ℕ) → Result Place Trap → Goal d
place_goal l d pc r = record { met = λ s u atoms. place_met l d pc r s u atoms; back = λ s t u atoms same h. place_back l d pc r s t u atoms same h }

-- the cells of RAM that no statement without sites writes: those of the acts of sites
abbrev pub is_frame : (a : ℕ) → Bool
is_frame a = nat_le 1048608 a && nat_lt a 1048896

-- what writes show: those of words where they are in FRAM
abbrev pub atoms_of : Layout → List Write → List Atom
atoms_of l [] = []
atoms_of l (sets at word ∷ writes) = noted (place_address l at.array at.index) word ++ atoms_of l writes
atoms_of l (points pointer at ∷ writes) = atoms_of l writes

-- an address with a store, over so many pointers; the fixed registers and the frame's cells are as before
pub record HasStore (l : Layout) (c pc : ℕ) (store : Store) (s : Spot) (u : State) : Type 0 where
  pub there : Spot
  pub goes_on : u ≡ live there
  pub arrives : there.pc ≡ pc
  pub fixed : (r : ℕ) → IsKept r → there.regs r ≡ s.regs r
  pub kept : (a : ℕ) → is_frame a ≡ true → there.store a ≡ s.store a
  pub related : Related l c there store

-- where statements end, or their trap
abbrev pub HasEnd : Layout → (c pc : ℕ) → Ran → Spot → State → Type 0
HasEnd l c pc (done store) s u = HasStore l c pc store s u
HasEnd l c pc (trapped why store) s u = u.ending ≡ Trapped (code_of why)

-- the writes of statements in order, and where they end
pub record HasRun (l : Layout) (c pc : ℕ) (writes : List Write) (ran : Ran) (s : Spot) (u : State) (atoms : List Atom) : Type 0 where
  pub shown : atoms ≡ atoms_of l writes
  pub ended : HasEnd l c pc ran s u

pub end_back : (l : Layout) (c pc : ℕ) (r : Ran) (s t : Spot) (u : State) → ((k : ℕ) → IsKept k → t.regs k ≡ s.regs k) → ((a : ℕ) → is_frame a ≡ true → t.store a ≡ s.store a) → HasEnd l c pc r t u → HasEnd l c pc r s u
end_back l c pc (done store) s t u same kept h = record {
  there = h.there;
  goes_on = h.goes_on;
  arrives = h.arrives;
  fixed = λ r k. h.fixed r k ∙ same r k;
  kept = λ a k. h.kept a k ∙ kept a k;
  related = h.related;
}
end_back l c pc (trapped why store) s t u same kept h = h

-- they are no cells for words in between
pub frame_apart : (d a : ℕ) → is_frame a ≡ true → is_temp d a ≡ false
frame_apart d a h = grind (arith, nat_tests)

abbrev pub run_goal : Layout → (c pc : ℕ) → List Write → Ran → Goal 0
run_goal l c pc writes ran = record {
  met = λ s u atoms. HasRun l c pc writes ran s u atoms;
  back = λ s t u atoms same h. record { shown = h.shown; ended = end_back l c pc ran s t u same.fixed (λ a k. same.kept a (frame_apart 0 a k)) h.ended };
}
