-- The events of small steps are those that are seen of them.
use Rattle.std.specs.Prelude.{Option, Some, None}
use Rattle.std.proofs.Common.{◌≡◌, List, [], ◌∷◌, ◌++◌, refl, ap}
use Rattle.devices.specs.Journal.{JournalEvent}
use Rattle.task_ast.specs.declared.core_form.Core.{Core}
use Rattle.word_isa.specs.declared.parts.Scheme.{Scheme}
use Rattle.run_plan.specs.Cells.{CellWrite, State}
use Rattle.run_plan.specs.Runs.{Small, Smalls, at_event, shown_events}
use Rattle.run_plan.specs.Small.{after_shown}
use Rattle.act_refines.specs.Seen.{Seen, event_seen, write_seen}
use Rattle.code_cuts.specs.Runs.{smalls_seen}
use Rattle.power_runs.specs.Journals.{tells_in}

one_small : (c : Core) (scheme : Scheme) (s : State) (w : Option CellWrite) (e : Option JournalEvent) (x : Small) (more : List Seen) (es : List JournalEvent) → tells_in more ≡ es
    → tells_in (write_seen c scheme s w ++ event_seen e ++ more) ≡ at_event (λ e x. e) e x es
one_small c scheme s None None x more es h = h
one_small c scheme s None (Some e) x more es h = ap (λ (ys : List JournalEvent). e ∷ ys) h
one_small c scheme s (Some w) None x more es h = h
one_small c scheme s (Some w) (Some e) x more es h = ap (λ (ys : List JournalEvent). e ∷ ys) h

pub smalls_told : (c : Core) (scheme : Scheme) (xs : Smalls) (s : State) → tells_in (smalls_seen c scheme xs s) ≡ shown_events xs
smalls_told c scheme [] s = refl
smalls_told c scheme (x ∷ xs) s = one_small c scheme (after_shown x.atom.event s) x.atom.write x.atom.event x (smalls_seen c scheme xs x.after) (shown_events xs) (smalls_told c scheme xs x.after)
