-- One induction for all claims about two runs that go the same way as far as both go.
use Rattle.std.specs.Prelude.{nat_lt}
use Rattle.std.proofs.Common.{ℕ, ◌+◌, Bool, true, false, List, [], ◌∷◌, ◌++◌}
use Rattle.task_ast.specs.declared.core_form.Core.{Core}
use Rattle.region_split.specs.Regions.{regions}
use Rattle.walk_run.specs.Trap.{code_of}
use Rattle.devices.specs.Journal.{traps}
use Rattle.run_plan.specs.declared.act.Act.{Act, Row_of-Act, end_of-Act, more_of-Act}
use Rattle.run_plan.specs.declared.act.Act.TheVariants as act
use Rattle.run_plan.specs.Cells.{State}
use Rattle.run_plan.specs.Deeds.{act_done}
use Rattle.run_plan.specs.Runs.{At, Onward, Small, Smalls, act_end, act_run, act_steps, acts_run, by_way, deed, if_there, nothing, row_run, small_steps, straight, with_state}
use Rattle.run_plan.specs.Small.{Atom, Doing, Done, Way, ahead, does, fails, first_way, second_way, stuck, third_way, after_atom, core_of, showing}
use Rattle.run_plan.specs.Weights.{weight}

-- A claim about two runs from a place with so many weights. It goes along: at the end of both, over a small step with which
-- both begin, and from a place with more weights to one with fewer. A claim about one run is one that doesn't look at the second.
pub record GoesAlong (R : (weights : ℕ) → Smalls → Smalls → Type 0) : Type 0 where
  pub none : (w : ℕ) → R w [] []
  pub small : (x : Small) (xs ys : Smalls) → R x.weights xs ys → R x.weights (x ∷ xs) (x ∷ ys)
  pub fewer : (w n : ℕ) (xs ys : Smalls) → R (w + n) xs ys → R w xs ys

module _ (R : (weights : ℕ) → Smalls → Smalls → Type 0) (along : GoesAlong R) where
  -- the claim holds of what comes behind, from everywhere
  abbrev pub Goes : Onward → Onward → Type 0
  Goes go to = (at : At) → R at.weights (go at) (to at)

  pub steps_go : (c : Core) (a : Act) (atoms : List Atom) (go to : Onward) → Goes go to → Goes (small_steps c a atoms go) (small_steps c a atoms to)
  steps_go c a [] go to h at = h at
  steps_go c a (x ∷ atoms) go to h at =
      let later : At = with_state (after_atom c x at.state) at in
      along.small (record { act = a; atom = x; after = after_atom c x at.state; weights = at.weights }) (small_steps c a atoms go later) (small_steps c a atoms to later) (steps_go c a atoms go to h later)

  pub end_goes : (c : Core) (a : Act) (change : State → State) (go to : Onward) → Goes go to → Goes (act_end c a change go) (act_end c a change to)
  end_goes c a change go to h at = along.small _ (go (with_state (change at.state) at)) (to (with_state (change at.state) at)) (h (with_state (change at.state) at))

  pub deed_goes : (c : Core) (a : Act) (done : Done) (go to : Way → Onward) → ((way : Way) → Goes (go way) (to way)) → Goes (deed c a done go) (deed c a done to)
  deed_goes c a (does atoms change way) go to h at = steps_go c a atoms (act_end c a change (go way)) (act_end c a change (to way)) (end_goes c a change (go way) (to way) (h way)) at
  deed_goes c a (fails atoms why) go to h at = steps_go c a (atoms ++ showing (traps (code_of why)) ∷ []) nothing nothing (λ at. along.none at.weights) at
  deed_goes c a stuck go to h at = along.none at.weights

  pub steps : (d : Doing) (a : Act) (go to : Way → Onward) → ((way : Way) → Goes (go way) (to way)) → Goes (act_steps d a go) (act_steps d a to)
  steps d a go to h at = along.fewer at.weights (weight d a at.state) _ _ (deed_goes (core_of d) a (act_done d a at.state) go to h (record at { weights = at.weights + weight d a at.state }))

  straight_goes : (d : Doing) (a : Act) (go to : Onward) → Goes go to → Goes (act_steps d a (straight go)) (act_steps d a (straight to))
  straight_goes d a go to h = steps d a (straight go) (straight to) (λ way. h)

  ways_go : (one two three behind one' two' three' behind' : Onward) → Goes one one' → Goes two two' → Goes three three' → Goes behind behind' → (way : Way) → Goes (by_way one two three behind way) (by_way one' two' three' behind' way)
  ways_go one two three behind one' two' three' behind' a b c d ahead = d
  ways_go one two three behind one' two' three' behind' a b c d first_way = a
  ways_go one two three behind one' two' three' behind' a b c d second_way = b
  ways_go one two three behind one' two' three' behind' a b c d third_way = c

  if_goes : (b : Bool) (one one' two two' : Onward) → Goes one one' → Goes two two' → Goes (if_there b one two) (if_there b one' two')
  if_goes true one one' two two' h g = h
  if_goes false one one' two two' h g = g

  module _ (d : Doing) (again next : Onward) (on : Goes again next) where
    mutual
      pub act_goes : (a : Act) (go to : Onward) → Goes go to → Goes (act_run d again a go) (act_run d next a to)
      act_goes (act.Restore r) go to h =
          if_goes (nat_lt r (regions d.setting.task)) (act_steps d (act.Restore r) (straight go)) (act_steps d (act.Restore r) (straight to)) go to (straight_goes d (act.Restore r) go to h) h
      act_goes (act.Begin t) go to h = straight_goes d (act.Begin t) go to h
      act_goes (act.Save r) go to h = straight_goes d (act.Save r) go to h
      act_goes (act.Lock r) go to h = straight_goes d (act.Lock r) go to h
      act_goes (act.Plain x) go to h = straight_goes d (act.Plain x) go to h
      act_goes (act.Test' c m yes_row n no_row) go to h =
          steps d (act.Test' c m yes_row n no_row) (by_way (row_run d again yes_row go) (row_run d again no_row go) go go) (by_way (row_run d next yes_row to) (row_run d next no_row to) to to)
          (ways_go _ _ _ _ _ _ _ _ (row_goes yes_row go to h) (row_goes no_row go to h) h h)
      act_goes (act.Value k) go to h = straight_goes d (act.Value k) go to h
      act_goes (act.Look k) go to h = straight_goes d (act.Look k) go to h
      act_goes (act.Choose' k m issue_row n keep_row) go to h =
          steps d (act.Choose' k m issue_row n keep_row) (by_way (row_run d again issue_row go) (row_run d again keep_row go) go go) (by_way (row_run d next issue_row to) (row_run d next keep_row to) to to)
          (ways_go _ _ _ _ _ _ _ _ (row_goes issue_row go to h) (row_goes keep_row go to h) h h)
      act_goes (act.Drop k) go to h = straight_goes d (act.Drop k) go to h
      act_goes (act.Issue k) go to h = straight_goes d (act.Issue k) go to h
      act_goes (act.Seal k) go to h = straight_goes d (act.Seal k) go to h
      act_goes (act.Take k) go to h = straight_goes d (act.Take k) go to h
      act_goes (act.Write k) go to h = straight_goes d (act.Write k) go to h
      act_goes (act.Enter k) go to h = straight_goes d (act.Enter k) go to h
      act_goes (act.Leave' k m row) go to h =
          steps d (act.Leave' k m row) (by_way (row_run d again row go) go go go) (by_way (row_run d next row to) to to to) (ways_go _ _ _ _ _ _ _ _ (row_goes row go to h) h h h)
      act_goes (act.ByClass' k l single_row m private_row n rest_row) go to h =
          steps d (act.ByClass' k l single_row m private_row n rest_row) (by_way (row_run d again single_row go) (row_run d again private_row go) (row_run d again rest_row go) go)
          (by_way (row_run d next single_row to) (row_run d next private_row to) (row_run d next rest_row to) to)
          (ways_go _ _ _ _ _ _ _ _ (row_goes single_row go to h) (row_goes private_row go to h) (row_goes rest_row go to h) h)
      act_goes (act.Transfer k leg) go to h = straight_goes d (act.Transfer k leg) go to h
      act_goes (act.KeepWords k) go to h = straight_goes d (act.KeepWords k) go to h
      act_goes (act.PutWords k) go to h = straight_goes d (act.PutWords k) go to h
      act_goes (act.Commit n) go to h = straight_goes d (act.Commit n) again next on

      row_goes : {n : _} (row : Row_of-Act n) (go to : Onward) → Goes go to → Goes (row_run d again row go) (row_run d next row to)
      row_goes end_of-Act go to h = h
      row_goes (more_of-Act a rest) go to h = act_goes a (row_run d again rest go) (row_run d next rest to) (row_goes rest go to h)

    pub acts_go : (acts : List Act) (go to : Onward) → Goes go to → Goes (acts_run d again acts go) (acts_run d next acts to)
    acts_go [] go to h = h
    acts_go (a ∷ acts) go to h = act_goes a (acts_run d again acts go) (acts_run d next acts to) (acts_go acts go to h)
