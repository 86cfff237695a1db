-- A run's small steps, split between acts; and what a run shows, split behind steps.
use Rattle.std.proofs.Common.{◌≡◌, ◌∙◌, ℕ, ◌+◌, List, [], ◌∷◌, ◌++◌, refl, sym, ap, append_assoc}
use Rattle.devices.specs.Journal.{Place, placed}
use Rattle.task_ast.specs.declared.core_form.Core.{Core}
use Rattle.word_isa.specs.declared.parts.Scheme.{Scheme}
use Rattle.word_machine.specs.RunLaws.{exec_more, trace_more}
use Rattle.word_machine.specs.State.{Program}
use Rattle.word_machine.specs.Step.{exec}
use Rattle.word_machine.specs.Straight.{Spot, live}
use Rattle.word_machine.specs.Traces as trace
use Rattle.run_plan.specs.declared.act.Act.{Act}
use Rattle.run_plan.specs.Runs.{At, Onward, Smalls, after, small_steps, with_state}
use Rattle.run_plan.specs.Small.{Atom, after_atom, after_shown}
use Rattle.act_laws.specs.Codes.{Goes}
use Rattle.act_refines.specs.Seen.{Seen, behind, event_seen, puts, steps_seen, tells, trace_seen, write_seen}
use Rattle.code_cuts.specs.Runs.{end_seen, shown_by, smalls_seen}

-- ---- small steps

-- an act's small steps as a list
abbrev pub smalls_from : Core → Act → List Atom → At → Smalls
smalls_from c a [] at = []
smalls_from c a (x ∷ xs) at = record { act = a; atom = x; after = after_atom c x at.state; weights = at.weights } ∷ smalls_from c a xs (with_state (after_atom c x at.state) at)

-- behind them
abbrev pub at_behind : Core → List Atom → At → At
at_behind c atoms at = with_state (behind c atoms at.state) at

pub steps_split : (c : Core) (a : Act) (atoms : List Atom) (go : Onward) (at : At) → small_steps c a atoms go at ≡ smalls_from c a atoms at ++ go (at_behind c atoms at)
steps_split c a [] go at = refl
steps_split c a (x ∷ xs) go at =
    ap (λ (ys : Smalls). record { act = a; atom = x; after = after_atom c x at.state; weights = at.weights } ∷ ys) (steps_split c a xs go (with_state (after_atom c x at.state) at))

pub from_split : (c : Core) (a : Act) (some more : List Atom) (at : At) → smalls_from c a (some ++ more) at ≡ smalls_from c a some at ++ smalls_from c a more (at_behind c some at)
from_split c a [] more at = refl
from_split c a (x ∷ some) more at =
    ap (λ (ys : Smalls). record { act = a; atom = x; after = after_atom c x at.state; weights = at.weights } ∷ ys) (from_split c a some more (with_state (after_atom c x at.state) at))

-- what they show, and the state behind them
pub from_seen : (c : Core) (scheme : Scheme) (a : Act) (atoms : List Atom) (at : At) (more : Smalls)
    → smalls_seen c scheme (smalls_from c a atoms at ++ more) at.state ≡ steps_seen c scheme atoms at.state ++ smalls_seen c scheme more (behind c atoms at.state)
from_seen c scheme a [] at more = refl
from_seen c scheme a (x ∷ xs) at more =
    let own : List Seen = write_seen c scheme (after_shown x.event at.state) x.write ++ event_seen x.event in
    ap (λ (ys : List Seen). own ++ ys) (from_seen c scheme a xs (with_state (after_atom c x at.state) at) more)
    ∙ sym (append_assoc own (steps_seen c scheme xs (after_atom c x at.state)) (smalls_seen c scheme more (behind c xs (after_atom c x at.state))))

pub from_after : (c : Core) (a : Act) (atoms : List Atom) (at : At) (more : Smalls) → after at.state (smalls_from c a atoms at ++ more) ≡ after (behind c atoms at.state) more
from_after c a [] at more = refl
from_after c a (x ∷ xs) at more = from_after c a xs (with_state (after_atom c x at.state) at) more

-- ---- the machine

pub seen_more : (place_of : ℕ → Place) (a b : List trace.Atom) → trace_seen place_of (a ++ b) ≡ trace_seen place_of a ++ trace_seen place_of b
seen_more place_of [] b = refl
seen_more place_of (trace.wrote at word ∷ a) b = ap (λ (xs : List Seen). puts at word ∷ xs) (seen_more place_of a b)
seen_more place_of (trace.showed e ∷ a) b = ap (λ (xs : List Seen). tells (placed place_of e) ∷ xs) (seen_more place_of a b)

-- behind steps that go on, the machine is where they lead
pub exec_behind : (p : Program) (steps k : ℕ) (m there : Spot) (atoms : List trace.Atom) → Goes p steps m there atoms → exec p (steps + k) (live m) ≡ exec p k (live there)
exec_behind p steps k m there atoms goes = exec_more p steps k (live m) ∙ ap (exec p k) goes.runs

-- and shows what they showed, and then what it shows from there
pub shown_behind : (p : Program) (place_of : ℕ → Place) (steps k : ℕ) (m there : Spot) (atoms : List trace.Atom) → Goes p steps m there atoms
    → shown_by p place_of (steps + k) m ≡ trace_seen place_of atoms ++ shown_by p place_of k there
shown_behind p place_of steps k m there atoms goes =
    let traced : trace.trace p (steps + k) (live m) ≡ atoms ++ trace.trace p k (live there) =
    trace_more p steps k (live m) ∙ (λ i. goes.seen i ++ trace.trace p k (goes.runs i)) in
    let ended : exec p (steps + k) (live m) ≡ exec p k (live there) = exec_behind p steps k m there atoms goes in
    (λ i. trace_seen place_of (traced i) ++ end_seen (ended i).ending)
    ∙ ap (λ (xs : List Seen). xs ++ end_seen (exec p k (live there)).ending) (seen_more place_of atoms (trace.trace p k (live there)))
    ∙ append_assoc (trace_seen place_of atoms) (trace_seen place_of (trace.trace p k (live there))) (end_seen (exec p k (live there)).ending)
