-- A run that is cut anywhere shows a front of what the whole of it shows, and writes words of cells alone.
use Rattle.std.proofs.Common.{◌≡◌, ◌∙◌, ℕ, ◌+◌, ◌-◌, ◌≤◌, List, [], ◌∷◌, ◌++◌, Option, Some, None, refl, sym, ap, arith}
use Rattle.devices.specs.Journal.{JournalEvent, Place, placed}
use Rattle.task_ast.specs.declared.core_form.Core.{Core}
use Rattle.word_isa.specs.declared.parts.Scheme.{Scheme}
use Rattle.word_machine.specs.RunLaws.{trace_more}
use Rattle.word_machine.specs.State.{Program}
use Rattle.word_machine.specs.Step.{exec}
use Rattle.word_machine.specs.Straight.{Spot, live}
use Rattle.word_machine.specs.Traces as trace
use Rattle.run_plan.specs.Cells.{CellWrite, State}
use Rattle.run_plan.specs.Small.{Atom, after_atom, after_shown}
use Rattle.act_refines.specs.Does.{GoesOn, Stops}
use Rattle.act_refines.specs.Seen.{IsFront, Seen, addresses, cells_written, event_seen, puts, steps_seen, tells, trace_seen, write_cells, write_seen}

seen_more : (place_of : ℕ → Place) (a b : List trace.Atom) → trace_seen place_of (a ++ b) ≡ trace_seen place_of a ++ trace_seen place_of b
seen_more place_of [] b = refl
seen_more place_of (trace.wrote at word ∷ a) b = ap (λ (xs : List Seen). puts at word ∷ xs) (seen_more place_of a b)
seen_more place_of (trace.showed e ∷ a) b = ap (λ (xs : List Seen). tells (placed place_of e) ∷ xs) (seen_more place_of a b)

front_of : (p : Program) (place_of : ℕ → Place) (n steps : ℕ) (m : Spot) (seen : List Seen) → n ≤ steps → trace_seen place_of (trace.trace p steps (live m)) ≡ seen → IsFront (trace_seen place_of (trace.trace p n (live m))) seen
front_of p place_of n steps m seen few is =
    let whole : n + (steps - n) ≡ steps = omega (arith, few) in
    record {
      rest = trace_seen place_of (trace.trace p (steps - n) (exec p n (live m)));
      joined = sym (seen_more place_of (trace.trace p n (live m)) (trace.trace p (steps - n) (exec p n (live m)))) ∙ ap (trace_seen place_of) (sym (trace_more p n (steps - n) (live m)))
          ∙ ap (λ j. trace_seen place_of (trace.trace p j (live m))) whole ∙ is;
    }

pub cut_goes : (p : Program) (place_of : ℕ → Place) (most : ℕ) (m : Spot) (pc : ℕ) (seen : List Seen) (Related : Spot → Type 0) (g : GoesOn p place_of most m pc seen Related) (n : ℕ) → n ≤ g.steps
    → IsFront (trace_seen place_of (trace.trace p n (live m))) seen
cut_goes p place_of most m pc seen Related g n few = front_of p place_of n g.steps m seen few (ap (trace_seen place_of) g.goes.seen ∙ g.shown)

pub cut_stops : (p : Program) (place_of : ℕ → Place) (most : ℕ) (m : Spot) (code : ℕ) (seen : List Seen) (g : Stops p place_of most m code seen) (n : ℕ) → n ≤ g.steps → IsFront (trace_seen place_of (trace.trace p n (live m))) seen
cut_stops p place_of most m code seen g n few = front_of p place_of n g.steps m seen few g.shown

-- ---- the words are those of cells

addresses_more : (a b : List Seen) → addresses (a ++ b) ≡ addresses a ++ addresses b
addresses_more [] b = refl
addresses_more (puts at word ∷ a) b = ap (λ (xs : List ℕ). at ∷ xs) (addresses_more a b)
addresses_more (tells e ∷ a) b = addresses_more a b

write_addresses : (c : Core) (scheme : Scheme) (s : State) (w : Option CellWrite) (e : Option JournalEvent) (rest : List Seen) → addresses (write_seen c scheme s w ++ event_seen e ++ rest) ≡ write_cells c scheme s w ++ addresses rest
write_addresses c scheme s None None rest = refl
write_addresses c scheme s None (Some e) rest = refl
write_addresses c scheme s (Some w) None rest = refl
write_addresses c scheme s (Some w) (Some e) rest = refl

pub written_cells : (c : Core) (scheme : Scheme) (atoms : List Atom) (s : State) → addresses (steps_seen c scheme atoms s) ≡ cells_written c scheme atoms s
written_cells c scheme [] s = refl
written_cells c scheme (a ∷ atoms) s =
    write_addresses c scheme (after_shown a.event s) a.write a.event (steps_seen c scheme atoms (after_atom c a s)) ∙ ap (λ (xs : List ℕ). write_cells c scheme (after_shown a.event s) a.write ++ xs) (written_cells c scheme atoms (after_atom c a s))
