-- An act that is cut, and what comes behind it; and acts in a row.
use Rattle.std.specs.Prelude.{◌⊎◌, ◌≢◌, length}
use Rattle.std.proofs.Common.{◌≡◌, ◌∙◌, ℕ, zero, suc, ◌+◌, ◌-◌, ◌<◌, ◌≤◌, inl, inr, List, [], ◌∷◌, ◌++◌, refl, sym, ap, subst, append_assoc, append-nil, arith}
use Rattle.devices.specs.Journal.{Place, commits, traps}
use Rattle.task_ast.specs.declared.core_form.Core.{Core}
use Rattle.task_attempts.specs.Boots.{task_of}
use Rattle.walk_run.specs.Trap.{code_of}
use Rattle.word_isa.specs.declared.parts.Scheme.{Scheme}
use Rattle.word_machine.specs.State as machine
use Rattle.word_machine.specs.State.{Program}
use Rattle.word_machine.specs.Step.{exec}
use Rattle.word_machine.specs.Straight.{Spot, live}
use Rattle.word_machine.specs.Traces as trace
use Rattle.word_machine.specs.declared.ending.Ending.TheVariants.{Halted}
use Rattle.run_plan.specs.declared.act.Act.{Act}
use Rattle.run_plan.specs.declared.act.Act.TheVariants as act
use Rattle.run_plan.specs.Cells.{State, puts_state}
use Rattle.run_plan.specs.Deeds.{act_done, next_bank}
use Rattle.run_plan.specs.Runs.{At, Onward, Small, Smalls, act_end, act_steps, after, by_way, deed, nothing, small_steps, straight, with_state}
use Rattle.run_plan.specs.Small.{Atom, Doing, Done, Way, ahead, first_way, second_way, third_way, core_of, does, ending, fails, same, showing, stuck, writing}
use Rattle.run_plan.specs.Weights.{weight}
use Rattle.word_code.specs.Frames.{stub_at}
use Rattle.act_laws.specs.Words.{state_word}
use Rattle.act_refines.specs.Between.{AreRelated}
use Rattle.act_refines.specs.Does.{GoesOn, RelatedBehind, frame_of, has_begun, way_at, way_to}
use Rattle.act_refines.specs.Seen.{Seen, behind, puts, steps_seen, tells, trace_seen}
use Rattle.code_cuts.specs.Lasting.{IsNear}
use Rattle.code_cuts.specs.Runs.{Cut, IsInProgress, shown_by, smalls_seen}
use Rattle.code_runs.specs.Following.{AnyWay, IfMore, Inside, IsWay, Leads, LeadsAgain, LeadsFrom, Passes, PassesBy, RunsAt, RunsIn, commit_most}
use Rattle.code_runs.proofs.Near.{near_then}
use Rattle.code_runs.proofs.Splitting.{at_behind, exec_behind, from_after, from_seen, from_split, shown_behind, smalls_from, steps_split}

-- an act's end as a small step
abbrev end_small : Act → State → At → Small
end_small a s at = record { act = a; atom = ending; after = s; weights = at.weights }

-- behind an act that has gone its way
pub cut_behind : (p : Program) (place_of : ℕ → Place) (c : Core) (scheme : Scheme) (Stood : machine.State → State → Type 0) (a : Act) (n spent most pc : ℕ) (m : Spot) (at : At) (atoms : List Atom) (change : State → State) (go : Onward)
    (Related : Spot → Type 0) (g : GoesOn p place_of most m pc (steps_seen c scheme atoms at.state) Related) → g.steps ≤ n → IsNear c scheme g.steps (steps_seen c scheme atoms at.state) at.state (change (behind c atoms at.state))
    → Cut p place_of c scheme Stood (n - g.steps) (spent + g.steps) g.there (change (behind c atoms at.state)) (go (with_state (change (behind c atoms at.state)) at))
    → Cut p place_of c scheme Stood n spent m at.state (small_steps c a atoms (act_end c a change go) at)
cut_behind p place_of c scheme Stood a n spent most pc m at atoms change go Related g few near r =
    let to : State = change (behind c atoms at.state) in
    let k : ℕ = n - g.steps in
    let steps_are : g.steps + k ≡ n = omega (arith, few) in
    let own : Smalls = smalls_from c a atoms at in
    let front : Smalls = own ++ (end_small a to at ∷ r.front) in
    let ended : exec p n (live m) ≡ exec p k (live g.there) = ap (λ j. exec p j (live m)) (sym steps_are) ∙ exec_behind p g.steps k m g.there g.atoms g.goes in
    let left : after at.state front ≡ after to r.front = from_after c a atoms at (end_small a to at ∷ r.front) in
    let seen : smalls_seen c scheme front at.state ≡ steps_seen c scheme atoms at.state ++ smalls_seen c scheme r.front to = from_seen c scheme a atoms at (end_small a to at ∷ r.front) in
    record {
      front = front;
      rest = r.rest;
      whole = append_assoc own (end_small a to at ∷ r.front) r.rest ∙ ap (λ (ys : Smalls). own ++ (end_small a to at ∷ ys)) r.whole ∙ sym (steps_split c a atoms (act_end c a change go) at);
      shown = ap (λ j. shown_by p place_of j m) (sym steps_are) ∙ shown_behind p place_of g.steps k m g.there g.atoms g.goes ∙ (λ i. g.shown i ++ r.shown i)
          ∙ sym seen;
      stood = subst (λ e. Stood e (after at.state front)) (sym ended) (subst (Stood (exec p k (live g.there))) (sym left) r.stood);
      near = subst (IsNear c scheme n (smalls_seen c scheme front at.state) at.state) (sym left)
          (subst (λ xs. IsNear c scheme n xs at.state (after to r.front)) (sym seen)
          (near_then c scheme g.steps k n (steps_seen c scheme atoms at.state) (smalls_seen c scheme r.front to) at.state to (after to r.front) steps_are near r.near));
      on = λ is. ap (λ (s : State). task_of c s.task) left ∙ r.on (ap (λ e. e.ending) (sym ended) ∙ is);
      within = let sum_is : spent + g.steps + k ≡ spent + n = omega (arith, steps_are) in subst (λ j. IsInProgress j r.rest) sum_is r.within;
    }

-- a front of an act's small steps shows what they show, and leaves what they leave
front_seen : (c : Core) (scheme : Scheme) (a : Act) (front : List Atom) (at : At) → smalls_seen c scheme (smalls_from c a front at) at.state ≡ steps_seen c scheme front at.state
front_seen c scheme a front at =
    ap (λ (ys : Smalls). smalls_seen c scheme ys at.state) (sym (append-nil (smalls_from c a front at))) ∙ from_seen c scheme a front at [] ∙ append-nil (steps_seen c scheme front at.state)

front_after : (c : Core) (a : Act) (front : List Atom) (at : At) → after at.state (smalls_from c a front at) ≡ behind c front at.state
front_after c a front at = ap (after at.state) (sym (append-nil (smalls_from c a front at))) ∙ from_after c a front at []

-- within an act, whatever small steps come behind it
cut_within : (p : Program) (place_of : ℕ → Place) (c : Core) (scheme : Scheme) (Stood : machine.State → State → Type 0) (a : Act) (n spent : ℕ) (m : Spot) (at : At) (front left : List Atom) (more xs : Smalls)
    → smalls_from c a (front ++ left) at ++ more ≡ xs
    → shown_by p place_of n m ≡ steps_seen c scheme front at.state → Stood (exec p n (live m)) (behind c front at.state)
    → IsNear c scheme n (steps_seen c scheme front at.state) at.state (behind c front at.state) → (exec p n (live m)).ending ≢ Halted
    → IsInProgress (spent + n) (smalls_from c a left (at_behind c front at) ++ more) → Cut p place_of c scheme Stood n spent m at.state xs
cut_within p place_of c scheme Stood a n spent m at front left more xs whole shown stood near on within = record {
  front = smalls_from c a front at;
  rest = smalls_from c a left (at_behind c front at) ++ more;
  whole = sym (append_assoc (smalls_from c a front at) (smalls_from c a left (at_behind c front at)) more) ∙ ap (λ (ys : Smalls). ys ++ more) (sym (from_split c a front left at)) ∙ whole;
  shown = shown ∙ sym (front_seen c scheme a front at);
  stood = subst (Stood (exec p n (live m))) (sym (front_after c a front at)) stood;
  near = subst (IsNear c scheme n (smalls_seen c scheme (smalls_from c a front at) at.state) at.state) (sym (front_after c a front at))
      (subst (λ xs. IsNear c scheme n xs at.state (behind c front at.state)) (sym (front_seen c scheme a front at)) near);
  on = λ is. absurd (on is);
  within = within;
}

-- an act in progress has its weight begun
begun_behind : (c : Core) (a : Act) (steps : ℕ) (left : List Atom) (at : At) (x : Small) (more : Smalls) → steps < at.weights → x.weights ≡ at.weights → IsInProgress steps (smalls_from c a left at ++ (x ∷ more))
begun_behind c a steps [] at x more few is = omega (arith, few, is)
begun_behind c a steps (y ∷ left) at x more few is = few

-- one that traps, or misses something, has its weight begun until all of it is seen
begun_till : (c : Core) (a : Act) (n spent most : ℕ) (left : List Atom) (at : At) → spent + most ≤ at.weights → IfMore left (n < most) → IsInProgress (spent + n) (smalls_from c a left at ++ [])
begun_till c a n spent most [] at few time = tt
begun_till c a n spent most (y ∷ left) at few time = omega (arith, few, time)

-- within an act, by how it ends
pub cut_inside : (p : Program) (place_of : ℕ → Place) (c : Core) (scheme : Scheme) (Stood : machine.State → State → Type 0) (a : Act) (n spent most : ℕ) (m : Spot) (at : At) (done : Done) (ways : Way → Onward) → spent + most ≤ at.weights
    → Inside p place_of c scheme Stood n most m at.state done → Cut p place_of c scheme Stood n spent m at.state (deed c a done ways at)
cut_inside p place_of c scheme Stood a n spent most m at (does atoms change way) ways few x =
    let to : State = change (behind c atoms at.state) in
    let more : Smalls = end_small a to at ∷ ways way (with_state to at) in
    let time : n < most = x.in_time in
    let early : spent + n < at.weights = omega (arith, few, time) in
    cut_within p place_of c scheme Stood a n spent m at x.front x.left more (small_steps c a atoms (act_end c a change (ways way)) at)
    (ap (λ (ys : List Atom). smalls_from c a ys at ++ more) x.whole ∙ sym (steps_split c a atoms (act_end c a change (ways way)) at)) x.shown x.stood x.near x.on
    (begun_behind c a (spent + n) x.left (at_behind c x.front at) (end_small a to at) (ways way (with_state to at)) early refl)
cut_inside p place_of c scheme Stood a n spent most m at (fails atoms why) ways few x =
    let all : List Atom = atoms ++ showing (traps (code_of why)) ∷ [] in
    cut_within p place_of c scheme Stood a n spent m at x.front x.left [] (small_steps c a all nothing at)
    (ap (λ (ys : List Atom). smalls_from c a ys at ++ []) x.whole ∙ sym (steps_split c a all nothing at)) x.shown x.stood x.near x.on
    (begun_till c a n spent most x.left (at_behind c x.front at) few x.in_time)
cut_inside p place_of c scheme Stood a n spent most m at stuck ways few x =
    cut_within p place_of c scheme Stood a n spent m at x.front x.left [] []
    (ap (λ (ys : List Atom). smalls_from c a ys at ++ []) x.whole) x.shown x.stood x.near x.on (begun_till c a n spent most x.left (at_behind c x.front at) few x.in_time)

-- behind one that has gone its way
pub cut_passed : (p : Program) (place_of : ℕ → Place) (c : Core) (scheme : Scheme) (Stood : machine.State → State → Type 0) (Holds : ℕ → Spot → State → Type 0) (Related Later : Spot → State → Type 0) (a : Act) (n spent most later pc : ℕ) (m : Spot) (at : At)
    (atoms : List Atom) (change : State → State) (go : Onward) → spent + most ≤ at.weights
    → (x : Passes p place_of c scheme Holds Related n most pc m atoms at.state (change (behind c atoms at.state))) → n - x.goes.steps < later
    → Later x.goes.there (change (behind c atoms at.state)) → LeadsFrom p place_of c scheme Stood Holds Later later pc go
    → Cut p place_of c scheme Stood n spent m at.state (small_steps c a atoms (act_end c a change go) at)
cut_passed p place_of c scheme Stood Holds Related Later a n spent most later pc m at atoms change go few x soon related leads =
    let to : State = change (behind c atoms at.state) in
    let g = x.goes in
    let few_steps : g.steps ≤ most = g.few in
    let weighed : spent + g.steps ≤ at.weights = omega (arith, few, few_steps) in
    cut_behind p place_of c scheme Stood a n spent most pc m at atoms change go (λ there. Related there to) g x.few x.near
    (leads (n - g.steps) (spent + g.steps) g.there (with_state to at) soon g.at related weighed x.holds)

-- ---- an act

-- the weights where an act begins, with its own
abbrev weighed : Doing → Act → At → At
weighed d a at = record at { weights = at.weights + weight d a at.state }

-- an act is done at its place, and what comes behind it where it leads
module _ (p : Program) (place_of : ℕ → Place) (d : Doing) (number : ℕ) (Stood : machine.State → State → Type 0) (Before : ℕ → Spot → State → Type 0) (After : Way → ℕ → Spot → State → Type 0) where
  pub act_follows : (Later : Spot → State → Type 0) (a : Act) (at next most : ℕ) (ways : Way → Onward) → ((m : Spot) (s : State) → RelatedBehind p d a m s → Later m s)
      → RunsAt p place_of d number Stood Before After a at next → ((s : State) (way : Way) → IsWay (act_done d a s) way → LeadsFrom p place_of (core_of d) d.scheme Stood (After way) Later (suc most) (way_at (frame_of d number) a at next way) (ways way))
      → LeadsFrom p place_of (core_of d) d.scheme Stood Before (AreRelated p d (has_begun a)) (suc most) at (act_steps d a ways)
  act_follows Later a at next most ways later runs leads n spent m w soon pc related few holds = by (act_done d a w.state) refl (runs n m w.state pc related holds)
    where
      enough : spent + weight d a w.state ≤ w.weights + weight d a w.state
      enough = omega (arith, few)

      by : (done : Done) → act_done d a w.state ≡ done → Inside p place_of (core_of d) d.scheme Stood n (weight d a w.state) m w.state done
          ⊎ PassesBy p place_of (core_of d) d.scheme After (RelatedBehind p d a) n (weight d a w.state) (way_at (frame_of d number) a at next) m w.state done
          → Cut p place_of (core_of d) d.scheme Stood n spent m w.state (deed (core_of d) a done ways (weighed d a w))
      by done is (inl x) = cut_inside p place_of (core_of d) d.scheme Stood a n spent (weight d a w.state) m (weighed d a w) done ways enough x
      by (does atoms change way) is (inr x) =
          let soon_too : n - x.goes.steps < suc most = omega (arith, soon) in
          cut_passed p place_of (core_of d) d.scheme Stood (After way) (RelatedBehind p d a) Later a n spent (weight d a w.state) (suc most) (way_at (frame_of d number) a at next way) m (weighed d a w) atoms change (ways way) enough x soon_too
          (later x.goes.there (change (behind (core_of d) atoms w.state)) x.goes.related) (leads w.state way (subst (λ o. IsWay o way) (sym is) refl))
      by (fails atoms why) is (inr x) = elim x [ ]
      by stuck is (inr x) = elim x [ ]

module _ (p : Program) (place_of : ℕ → Place) (d : Doing) (number : ℕ) (Stood : machine.State → State → Type 0) (Ready : ℕ → ℕ → Spot → State → Type 0) (Holds : ℕ → Spot → State → Type 0) where
  -- where it leads into lists
  pub ways_lead : (most first second third next : ℕ) (one two three go : Onward) → Leads p place_of d Stood Holds most first one → Leads p place_of d Stood Holds most second two → Leads p place_of d Stood Holds most third three
      → Leads p place_of d Stood Holds most next go → (way : Way) → Leads p place_of d Stood Holds most (way_to first second third next way) (by_way one two three go way)
  ways_lead most first second third next one two three go a b c behind ahead = behind
  ways_lead most first second third next one two three go a b c behind first_way = a
  ways_lead most first second third next one two three go a b c behind second_way = b
  ways_lead most first second third next one two three go a b c behind third_way = c

  -- ---- a commit

  -- what shows something takes steps
  takes_steps : (most pc : ℕ) (m : Spot) (x : Seen) (xs : List Seen) (Related : Spot → Type 0) (g : GoesOn p place_of most m pc (x ∷ xs) Related) → 0 < g.steps
  unfolding trace.trace
  takes_steps most pc m x xs Related g = by g.steps (ap (trace_seen place_of) g.goes.seen ∙ g.shown)
    where
      by : (steps : ℕ) → trace_seen place_of (trace.trace p steps (live m)) ≡ x ∷ xs → 0 < steps
      by zero is = cc
      by (suc steps) is = omega arith

  -- it leads to the attempt of its next task, in fewer steps, and leaves one of its weight
  pub commit_follows : (t at next most : ℕ) (again : Onward) → RunsIn p place_of d number Stood Holds (AnyWay (Ready t)) commit_most (act.Commit t) at next → t ≤ length (core_of d).tasks → LeadsAgain p place_of d Stood Ready most again
      → Leads p place_of d Stood Holds (suc most) at (act_steps d (act.Commit t) (straight again))
  commit_follows t at next most again runs there leads n spent m w soon pc related few holds = by (runs n m w.state pc related holds)
    where
      enough : spent + 31 ≤ w.weights + 32
      enough = omega (arith, few)

      by : Inside p place_of (core_of d) d.scheme Stood n 31 m w.state (act_done d (act.Commit t) w.state)
          ⊎ PassesBy p place_of (core_of d) d.scheme (AnyWay (Ready t)) (RelatedBehind p d (act.Commit t)) n 31 (way_at (frame_of d number) (act.Commit t) at next) m w.state (act_done d (act.Commit t) w.state)
          → Cut p place_of (core_of d) d.scheme Stood n spent m w.state (deed (core_of d) (act.Commit t) (act_done d (act.Commit t) w.state) (straight again) (weighed d (act.Commit t) w))
      by (inl x) = cut_inside p place_of (core_of d) d.scheme Stood (act.Commit t) n spent 31 m (weighed d (act.Commit t) w) (act_done d (act.Commit t) w.state) (straight again) enough x
      by (inr x) =
          let e : ℕ = w.state.epoch + 1 in
          let bank : ℕ = next_bank d.scheme w.state.bank in
          let atoms : List Atom = writing (puts_state e t bank) (commits t) ∷ [] in
          let to : State = behind (core_of d) atoms w.state in
          let g = x.goes in
          let some : 0 < g.steps = takes_steps 31 (stub_at (length (core_of d).tasks) t) m (puts 0 (state_word e t bank)) (tells (commits t) ∷ []) (λ there. RelatedBehind p d (act.Commit t) there to) g in
          let fits : g.steps ≤ n = x.few in
          let in_weight : g.steps ≤ 31 = g.few in
          let soon_too : n - g.steps < most = omega (arith, soon, some, fits) in
          let early : spent + g.steps < w.weights + 32 = omega (arith, few, in_weight) in
          cut_behind p place_of (core_of d) d.scheme Stood (act.Commit t) n spent 31 (stub_at (length (core_of d).tasks) t) m (weighed d (act.Commit t) w) atoms same again (λ at_stub. RelatedBehind p d (act.Commit t) at_stub to) g fits x.near
          (leads t there (n - g.steps) (spent + g.steps) g.there (with_state to (weighed d (act.Commit t) w)) soon_too g.at (refl, g.related) early x.holds)
