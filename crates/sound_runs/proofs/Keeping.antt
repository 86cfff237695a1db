-- From the plan's run to the rules: what is said of the run holds of the journal that shows it.
use Rattle.std.specs.Prelude.{flat_map, map}
use Rattle.std.proofs.Common.{◌≡◌, ◌∙◌, ℕ, suc, List, [], ◌∷◌, length, refl, sym, ap, subst}
use Rattle.std.specs.List.{AllByRecursion}
use Rattle.devices.specs.Journal.{Boot, Journal}
use Rattle.task_attempts.specs.Boots.{boots, expect}
use Rattle.task_attempts.specs.Journals.{all_events, cuts_of, events_of, looks_of}
use Rattle.task_attempts.specs.Sound.{AreWalked, RecordsAgree}
use Rattle.walk_run.specs.declared.walked.State as walked
use Rattle.run_plan.specs.Runs.{Planned, Smalls, commit_states, plan_run, shown_events}
use Rattle.run_plan.specs.Sound.{IsSoundRun, TrapsAreWalked, counts, shown}
use Rattle.sound_runs.specs.Keeps.{KeepsEvents}
use Rattle.sound_runs.proofs.TrapsLast.{TrapsLast, trap_walked}

map_long : {A B : Type 0} (f : A → B) (xs : List A) → length (map f xs) ≡ length xs
map_long f [] = refl
map_long f (x ∷ xs) = ap suc (map_long f xs)

-- how many events each boot has
cuts_are : (bs : List Boot) → map (λ b. length b.events) bs ≡ map length (map events_of bs)
cuts_are [] = refl
cuts_are (b ∷ bs) = λ i. sym (map_long (λ e. e.1) b.events) i ∷ cuts_are bs i

counts_are : (run : List Smalls) → map length (shown run) ≡ counts run
counts_are [] = refl
counts_are (xs ∷ run) = ap (λ ns. length (shown_events xs) ∷ ns) (counts_are run)

-- the journal keeps what the rules say of events
pub keeps_events : (x : Planned) (j : Journal) (numbers : List ℕ) → all_events j ≡ shown (plan_run x numbers (looks_of j)) → TrapsLast (all_events j) → IsSoundRun x numbers (looks_of j)
    → KeepsEvents x.rules j (flat_map (commit_states x) (plan_run x numbers (looks_of j)))
keeps_events x j numbers events last h =
    let run : List Smalls = plan_run x numbers (looks_of j) in
    let states : List walked.State = flat_map (commit_states x) run in
    let cuts : cuts_of j ≡ counts run = cuts_are j.boots ∙ ap (map length) events ∙ counts_are run in
    let walked_states : AreWalked x.rules.core (all_events j) states = subst (λ es. AreWalked x.rules.core es states) (sym events) h.walked in
    record {
      expected = events ∙ h.expected ∙ ap (λ ns. expect x.rules ns (looks_of j)) (sym cuts);
      walked = walked_states;
      trap = trap_walked x.rules.core (all_events j) (length states) (sym (map_long (λ s. s.next) states) ∙ ap length walked_states.nexts) (subst (TrapsAreWalked x.rules.core []) (sym events) h.traps) last;
      agree = subst (λ ns. AllByRecursion RecordsAgree (boots x.rules ns (looks_of j))) (sym cuts) h.agree;
    }
