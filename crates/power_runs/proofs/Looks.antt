-- The looks that are left behind what is seen, and those of a journal, which are due.
use Rattle.std.specs.Prelude.{flat_map, if◌then◌else◌}
use Rattle.std.proofs.Common.{◌≡◌, ◌∙◌, ℕ, ◌+◌, List, [], ◌∷◌, ◌++◌, refl, sym, ap, subst, append_assoc, append-nil}
use Rattle.devices.specs.declared.world.PowerRow.{PowerRow}
use Rattle.devices.specs.Journal.{Boot, JournalEvent, Place, begins, looks, keeps, drops, issues, seals, copies, commits, traps}
use Rattle.task_attempts.specs.Journals.{events_of, look_time}
use Rattle.word_machine.specs.RunLaws.{trace_more}
use Rattle.word_machine.specs.Runs.{boots, fail_behind, is_running}
use Rattle.word_machine.specs.State.{Program}
use Rattle.word_machine.specs.Step.{exec}
use Rattle.word_machine.specs.Straight.{Spot, live}
use Rattle.word_machine.specs.Traces as trace
use Rattle.word_machine.specs.declared.ending.Ending.{Ending}
use Rattle.word_machine.specs.declared.ending.Ending.TheVariants.{Running, Halted, Trapped}
use Rattle.act_refines.specs.Seen.{Seen, puts, tells, trace_seen}
use Rattle.code_cuts.specs.Boots.{AreDue, time_in, times_in}
use Rattle.code_cuts.specs.Lasting.{looks_behind, looks_by}
use Rattle.code_cuts.specs.Runs.{end_seen, shown_by}
use Rattle.power_runs.specs.Due.{AreDueOver, HaltsUnmarked}
use Rattle.power_runs.specs.Followed.{begun_again}
use Rattle.power_runs.specs.Journals.{events_seen, fails_live, seen_more, times_told}

-- ---- the looks that are left

one_used : (e : JournalEvent) (times later : List ℕ) → looks_by e (time_in e times ++ later) ≡ times ++ later
one_used (begins t) times later = refl
one_used (looks k t) times later = refl
one_used (keeps k value) times later = refl
one_used (drops k) times later = refl
one_used (issues k q args reading) times later = refl
one_used (seals k) times later = refl
one_used (copies k from to n) times later = refl
one_used (commits next) times later = refl
one_used (traps code) times later = refl

-- behind looks that were due those are left that come later
pub looks_left : (xs : List Seen) (later : List ℕ) → looks_behind xs (times_in xs ++ later) ≡ later
looks_left [] later = refl
looks_left (puts at word ∷ xs) later = looks_left xs later
looks_left (tells e ∷ xs) later = ap (looks_behind xs) (one_used e (times_in xs) later) ∙ looks_left xs later

-- ---- the looks of fewer steps

time_more : (e : JournalEvent) (a b : List ℕ) → time_in e (a ++ b) ≡ time_in e a ++ b
time_more (begins t) a b = refl
time_more (looks k t) a b = refl
time_more (keeps k value) a b = refl
time_more (drops k) a b = refl
time_more (issues k q args reading) a b = refl
time_more (seals k) a b = refl
time_more (copies k from to n) a b = refl
time_more (commits next) a b = refl
time_more (traps code) a b = refl

pub times_more : (a b : List Seen) → times_in (a ++ b) ≡ times_in a ++ times_in b
times_more [] b = refl
times_more (puts at word ∷ a) b = times_more a b
times_more (tells e ∷ a) b = ap (time_in e) (times_more a b) ∙ time_more e (times_in a) (times_in b)

no_end_time : (e : Ending) → times_in (end_seen e) ≡ []
no_end_time Running = refl
no_end_time Halted = refl
no_end_time (Trapped code) = refl

module _ (p : Program) (place_of : ℕ → Place) (m : Spot) where
  -- those of so many steps
  abbrev Times : ℕ → List ℕ
  Times n = times_in (trace_seen place_of (trace.trace p n (live m)))

  shown_times : (n : ℕ) → times_in (shown_by p place_of n m) ≡ Times n
  shown_times n =
      times_more (trace_seen place_of (trace.trace p n (live m))) (end_seen (exec p n (live m)).ending)
      ∙ ap (λ ts. Times n ++ ts) (no_end_time (exec p n (live m)).ending)
      ∙ append-nil (Times n)

  -- the looks of more steps begin with those of fewer
  pub fewer_due : (n k : ℕ) (times later : List ℕ) → times ≡ times_in (shown_by p place_of (n + k) m) ++ later → AreDue p place_of n m times
  fewer_due n k times later due =
      let rest : List trace.Atom = trace.trace p k (exec p n (live m)) in
      let more : List ℕ = times_in (trace_seen place_of rest) in
      let split : Times (n + k) ≡ Times n ++ more =
      ap (λ xs. times_in (trace_seen place_of xs)) (trace_more p n k (live m)) ∙ ap times_in (seen_more place_of (trace.trace p n (live m)) rest) ∙ times_more (trace_seen place_of (trace.trace p n (live m))) (trace_seen place_of rest) in
      record {
        later = more ++ later;
        due = due ∙ ap (λ ts. ts ++ later) (shown_times (n + k) ∙ split) ∙ append_assoc (Times n) more later ∙ ap (λ ts. ts ++ (more ++ later)) (sym (shown_times n));
      }

-- ---- the looks of a journal

-- of boots
abbrev pub looks_in : List Boot → List ℕ
looks_in bs = flat_map (λ b. flat_map look_time (events_of b)) bs

module _ (p : Program) (place_of : ℕ → Place) (unmarked : HaltsUnmarked p) where
  -- they are due boot by boot
  pub journal_due : (rows : List PowerRow) (before : ℕ) (m : Spot) → AreDueOver p place_of rows m (looks_in (boots place_of p rows before (live m)))
  unfolding boots
  journal_due [] before m = tt
  journal_due (row ∷ rows) before m = record {
    later = looks_in (if is_running (exec p row.on (live m)).ending then boots place_of p rows (before + row.on) (fail_behind row (exec p row.on (live m))) else []);
    due = ap (λ ts. ts ++ looks_in (if is_running (exec p row.on (live m)).ending then boots place_of p rows (before + row.on) (fail_behind row (exec p row.on (live m))) else []))
        (ap (flat_map look_time) (events_seen p place_of unmarked before row.on (live m) refl) ∙ times_told (shown_by p place_of row.on m));
    rest = λ on. subst (λ ts. AreDueOver p place_of rows (begun_again row (exec p row.on (live m))) ts)
        (sym (λ i. looks_in (if is_running (on i) then boots place_of p rows (before + row.on) (fails_live row (exec p row.on (live m)) on i) else [])))
        (journal_due rows (before + row.on) (begun_again row (exec p row.on (live m))));
  }
