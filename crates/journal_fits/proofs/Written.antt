-- The journal of a machine that holds words can be written: its numbers are words, and its symbols are there.
use Rattle.std.specs.Prelude.{◌^◌, if◌then◌else◌, map}
use Rattle.std.specs.List.{AllByRecursion}
use Rattle.std.proofs.Common.{◌≡◌, ℕ, zero, suc, ◌+◌, ◌<◌, ◌≤◌, Bool, true, false, All, List, [], ◌∷◌, ◌++◌, length, Option, Some, None, sym, subst, arith}
use Rattle.std.proofs.lemmas.List.Sums.{sum_by-cons}
use Rattle.devices.specs.Journal.{Boot, JournalEvent, Place}
use Rattle.devices.specs.World.{IsRow, steps_of}
use Rattle.devices.specs.declared.event.Event.{Event}
use Rattle.devices.specs.declared.world.PowerRow.{PowerRow}
use Rattle.power_trace.specs.Report.{Style}
use Rattle.power_trace.specs.Short.{IsWord, IsWordEnd}
use Rattle.report_text.specs.Written.{IsBoot, IsEvent, IsJournal}
use Rattle.word_machine.specs.Events.{event_next, stepped_next, told}
use Rattle.word_machine.specs.Runs.{boots, end_of, fail_behind, is_running, journal, journal_event, last_ending, numbered, told_event, total_steps}
use Rattle.word_machine.specs.State.{Program, State}
use Rattle.word_machine.specs.Step.{exec, step}
use Rattle.word_machine.specs.declared.ending.Ending.{Ending}
use Rattle.word_machine.specs.declared.ending.Ending.TheVariants.{Running, Halted, Trapped}
use Rattle.journal_fits.specs.Words.{EndsByWord, HoldsWords, ReadsWords, ShowsWordsOr}
use Rattle.journal_fits.proofs.Ends.{done_within}
use Rattle.journal_fits.proofs.Held.{exec_holds, failure_holds, step_holds}
use Rattle.journal_fits.proofs.Shown.{AreGoodPlaces, event_shows, placed_words}

-- ---- lists

pub all_of : {A : Type 0} (P : A → Type 0) (xs : List A) → AllByRecursion P xs → All P xs
all_of P [] h = λ k d low. absurd (omega (arith, low))
all_of P (x ∷ xs) h = by (all_of P xs h.1)
  where
    by : All P xs → All P (x ∷ xs)
    by rest zero d low = h.0
    by rest (suc k) d low = rest k d (omega (arith, low))

pub each_of : {A : Type 0} (P : A → Type 0) (xs : List A) → All P xs → AllByRecursion P xs
each_of P [] h = tt
each_of P (x ∷ xs) h = (h 0 x (omega arith), each_of P xs (λ k d low. h (suc k) d (omega (arith, low))))

all_behind : {A : Type 0} (P : A → Type 0) (xs ys : List A) → AllByRecursion P xs → AllByRecursion P ys → AllByRecursion P (xs ++ ys)
all_behind P [] ys a b = b
all_behind P (x ∷ xs) ys a b = (a.0, all_behind P xs ys a.1 b)

module _ (style : Style) (place_of : ℕ → Place) (p : Program) (places : AreGoodPlaces style place_of) (reads : ReadsWords p) where
  -- ---- a boot

  told_writes : (number : ℕ) (ending : Ending) (e : Option Event) → IsWord number → EndsByWord ending → ShowsWordsOr e → AllByRecursion (IsEvent style) (map (λ e. (number, e)) (told_event place_of (told ending e)))
  told_writes number Running None fits ends h = tt
  told_writes number Running (Some e) fits ends h = let words = placed_words style place_of e places h in (record { step = fits; words = words.0; there = words.1 }, tt)
  told_writes number Halted e fits ends h = tt
  told_writes number (Trapped code) e fits ends h = (record { step = fits; words = ends; there = tt }, tt)

  shown_writes : (number : ℕ) (s : State) → IsWord number → HoldsWords s → AllByRecursion (IsEvent style) (map (λ e. (number, e)) (journal_event place_of p s))
  unfolding stepped_next
  shown_writes number s fits h = by (is_running s.ending)
    where
      by : (b : Bool) → AllByRecursion (IsEvent style) (map (λ (e : JournalEvent). (number, e)) (if b then told_event place_of (stepped_next p s) else []))
      by true = told_writes number (step p s).ending (event_next p s) fits (step_holds p s reads h).ending (event_shows p s reads h)
      by false = tt

  boot_writes : (before n : ℕ) (s : State) → before + n ≤ 4194304 → HoldsWords s → AllByRecursion (IsEvent style) (numbered place_of p before n s)
  unfolding numbered
  boot_writes before zero s few h = tt
  boot_writes before (suc n) s few h =
      all_behind (IsEvent style) (map (λ e. (suc before, e)) (journal_event place_of p s)) (numbered place_of p (suc before) n (step p s))
      (shown_writes (suc before) s (omega (arith, few)) h) (boot_writes (suc before) n (step p s) (omega (arith, few)) (step_holds p s reads h))

  -- ---- all boots

  writes_if : (b : Bool) (bs : List Boot) → AllByRecursion (IsBoot style) bs → AllByRecursion (IsBoot style) (if b then bs else [])
  writes_if true bs h = h
  writes_if false bs h = tt

  boots_write : (rows : List PowerRow) (before : ℕ) (s : State) → AllByRecursion IsRow rows → before + steps_of rows ≤ 4194304 → HoldsWords s → AllByRecursion (IsBoot style) (boots place_of p rows before s)
  unfolding boots
  boots_write [] before s fit few h = tt
  boots_write (row ∷ rows) before s fit few h =
      let after = exec p row.on s in
      let steps : steps_of (row ∷ rows) ≡ row.on + steps_of rows = sum_by-cons (λ (r : PowerRow). r.on) row rows in
      let first : before + row.on ≤ 4194304 = omega (arith, few, steps) in
      let rest : before + row.on + steps_of rows ≤ 4194304 = omega (arith, few, steps) in (
        record { begun = omega (arith, first); events = all_of (IsEvent style) (numbered place_of p before row.on s) (boot_writes before row.on s first h) },
        writes_if (is_running after.ending) (boots place_of p rows (before + row.on) (fail_behind row after))
            (boots_write rows (before + row.on) (fail_behind row after) fit.1 rest (failure_holds row after fit.0.fill (exec_holds p row.on s reads h))),
      )

  -- ---- the end

  last_word : (rows : List PowerRow) (s : State) → AllByRecursion IsRow rows → HoldsWords s → EndsByWord (last_ending p rows s)
  unfolding last_ending
  last_word [] s fit h = h.ending
  last_word (row ∷ rows) s fit h = last_word rows (fail_behind row (exec p row.on s)) fit.1 (failure_holds row (exec p row.on s) fit.0.fill (exec_holds p row.on s reads h))

  end_word : (e : Ending) → EndsByWord e → IsWordEnd (end_of e)
  end_word Running h = tt
  end_word Halted h = tt
  end_word (Trapped code) h = h

  total_within : (rows : List PowerRow) (s : State) → total_steps p rows s ≤ steps_of rows
  unfolding total_steps
  total_within [] s = omega arith
  total_within (row ∷ rows) s =
      omega (arith, done_within p row.on s, total_within rows (fail_behind row (exec p row.on s)), sum_by-cons (λ (r : PowerRow). r.on) row rows)

  from_none : (n : ℕ) → 0 + n ≡ n
  from_none n = omega arith

  -- the journal
  pub journal_writes : (rows : List PowerRow) (s : State) → AllByRecursion IsRow rows → steps_of rows ≤ 4194304 → HoldsWords s → length (boots place_of p rows 0 s) + 1 < 2 ^ 32 → IsJournal style (journal place_of p rows s)
  journal_writes rows s fit few h count = record {
    count = count;
    boots = all_of (IsBoot style) (boots place_of p rows 0 s) (boots_write rows 0 s fit (subst (λ n. n ≤ 4194304) (sym (from_none (steps_of rows))) few) h);
    steps = omega (arith, total_within rows s, few);
    ending = end_word (last_ending p rows s) (last_word rows s fit h);
  }
