-- What acts do from a place of an attempt on, against what the rules say from there on.
use Rattle.std.specs.Prelude.{◌≡◌, ℕ, ◌+◌, ◌≤◌, ⊤, true, [], ◌∷◌, take, Option, Some}
use Rattle.task_ast.specs.declared.core_form.CoreTask.{CoreTask}
use Rattle.task_ast.specs.Pointing.{Pointing, pointing}
use Rattle.io_annot.specs.declared.choice.Mode.{Mode}
use Rattle.io_depend.specs.Sets.{has}
use Rattle.walk_run.specs.declared.place.Place.{Place}
use Rattle.walk_run.specs.Store.{Store, pointed}
use Rattle.task_attempts.specs.State.{Account, Standing, Here, Log, Rest}
use Rattle.run_plan.specs.Cells.{Frame}
use Rattle.run_plan.specs.Runs.{Small, Smalls, At, Onward, Planned}
use Rattle.plan_restore.specs.Kept.{committed_by}
use Rattle.site_events.specs.Records.{view}
use Rattle.site_events.specs.Standing.{FitsIn, StandsAt}
use Rattle.site_events.specs.Telling.{Tells}

-- each pointer points to nothing or to an array to which it may point
abbrev pub PointsWithin : Pointing → Store → Type 0
PointsWithin may store = (q : ℕ) (at : Place) → pointed store q ≡ Some at → has (may q) at.array ≡ true

-- what is known of each small step, with the store that is committed there, holds of all
abbrev pub AreSeen : (Store → Small → Type 0) → (committed left : Store) → Smalls → Type 0
AreSeen Sees committed left [] = ⊤
AreSeen Sees committed left (x ∷ xs) =
    let now = committed_by x.atom.event left committed in
    Sees now x × AreSeen Sees now x.after.store xs

-- what is known of a place besides: of what lives between acts, and of the account
abbrev pub Known : Type 1
Known = Frame → Account → Type 0

-- what is known of the mode, of the blocks around, the mode outside each and the time of its beginning, and of the greatest
-- region whose copy gave an event
abbrev pub Outer : Type 1
Outer = Option Mode → (ℕ → Option Mode) → (ℕ → Option ℕ) → (furthest : ℕ) → Type 0

-- that is all that is known between two statements
abbrev pub Beside : Outer → Known
Beside P f account = P f.mode f.outer f.begun account.furthest

-- it speaks of the blocks up to a site alone
abbrev pub Stable : Outer → (most : ℕ) → Type 0
Stable P most = (m : Option Mode) (o u : ℕ → Option Mode) (b v : ℕ → Option ℕ) (n : ℕ) → ((j : ℕ) → j ≤ most → o j ≡ u j) → ((j : ℕ) → j ≤ most → b j ≡ v j) → P m o b n → P m u v n

-- in the body of a block the mode is that inside, and the mode outside and the time of its beginning are noted
abbrev pub Inside : Outer → (site : ℕ) → (outside inside : Mode) → (time : ℕ) → Outer
Inside P k outside inside time m o b n = (m ≡ Some inside) × (o k ≡ Some outside) × (b k ≡ Some time) × P (Some outside) o b n

module _ (p : Planned) (Sees : Store → Small → Type 0) (fuel : ℕ) where
  -- the first so many small steps tell a log, if what is known of small steps holds of them
  abbrev pub Told : (m : ℕ) → (left : Store) → Standing → Smalls → Log → Type 0
  Told m left st xs log = AreSeen Sees st.committed left (take m xs) → Tells p m left st xs log

  -- however many they are, up to a number
  abbrev pub Goes : (left : Store) → Standing → Smalls → Log → Type 0
  Goes left st xs log = (m : ℕ) → m ≤ fuel → Told m left st xs log

  module _ (number : ℕ) (t : CoreTask) where
    -- Between two acts of an attempt of a task the plan has the attempt's store and mode, stands where the rules do, and its
    -- weights are within the steps, with some to spare; pointers point to what they may.
    pub record Related (spare : ℕ) (at : At) (here : Here) : Type 0 where
      pub store : at.state.store ≡ here.store
      pub mode : at.state.frame.mode ≡ Some here.mode
      pub running : here.standing.next ≡ number
      pub stands : StandsAt p.rules.core (view at.state) here.standing
      pub weights : at.weights + spare ≤ here.steps p.plan.scheme
      pub within : PointsWithin (pointing t) here.store
      pub fits : FitsIn p.rules.core here.store

    -- what comes behind tells what the rules say, from any related places of which a claim holds
    abbrev pub Follows : Known → (spare : ℕ) → Onward → Rest → Type 0
    Follows K spare go rest =
        (at : At) (here : Here) → Related spare at here → K at.state.frame here.standing.account → Goes at.state.store here.standing (go at) (rest here)
