-- The lines that are found to fit are those that do, and no more.
use Rattle.std.proofs.Common.{◌≡◌, ◌⊎◌, inl, inr, ℕ, zero, suc, ◌+◌, ◌-◌, ◌<◌, ◌≤◌, Bool, true, false, ◌&&◌, ◌||◌, not, cond, nat_lt, nat_le, ◌==◌, List, [], ◌∷◌, map, length, take, refl, sym, ap, ◌∙◌, subst, arith, not-suc-le-zero, le_of_suc-le-suc, length-take-le, take_all}
use Rattle.std.proofs.Math.Nat.{min-eq_left}
use Rattle.std.proofs.lemmas.Bool.{false≢true}
use Rattle.std.proofs.lemmas.Bool.Decides.{nat_tests}
use Rattle.std.proofs.lemmas.List.Sums.{sum_by-cons}
use Rattle.std.specs.Prelude.{⊤}
use Rattle.std.specs.List.{AllByRecursion}
use Rattle.devices.specs.declared.world.PowerRow.{PowerRow}
use Rattle.devices.specs.declared.world.World.{World}
use Rattle.devices.specs.Clock.{off_ticks}
use Rattle.devices.specs.World.{ticks_of, IsWithinLimits}
use Rattle.devices.specs.Journal.{JournalEvent, Boot}
use Rattle.task_attempts.specs.Sound.{IsTimed}
use Rattle.audit_check.specs.declared.journal.ReportEvent.{ReportEvent}
use Rattle.audit_check.specs.declared.journal.ReportEvent.TheVariants as event
use Rattle.audit_check.specs.declared.journal.TimedEvent.{TimedEvent}
use Rattle.audit_check.specs.declared.journal.ReportBoot.{ReportBoot}
use Rattle.audit_check.specs.Journal.{event_of, timed_of, boot_of, boots_of}
use Rattle.audit_check.specs.Lines.{lines_of, shortened, front, Reaches}
use Rattle.audit_check.specs.Fits.{is_trap, has_trap, EventsFit, BootsFit, LooksFit, BootsFitWorld}
use Rattle.audit_check.specs.Fitting.{capped, traps_here, shows_clock, Pace, fits_here, paced_by, stepped, passed, Power, begins_here, pace_in, behind_row, booted_in, all_booted, powered}

-- ---- tests

both : (a b : Bool) → (a && b) ≡ true → (a ≡ true) × (b ≡ true)
both true b h = (refl, h)
both false b h = absurd (false≢true h)

put_together : (a b : Bool) → a ≡ true → b ≡ true → (a && b) ≡ true
put_together true b h k = k
put_together false b h k = absurd (false≢true h)

not_over : (b : Bool) → not b ≡ true → b ≡ false
not_over true h = absurd (false≢true h)
not_over false h = refl

is_less : (a b : ℕ) → nat_lt a b ≡ true → a < b
is_less a b h = grind (arith, nat_tests)

is_within : (a b : ℕ) → nat_le a b ≡ true → a ≤ b
is_within a b h = grind (arith, nat_tests)

shows_less : (a b : ℕ) → a < b → nat_lt a b ≡ true
shows_less a b h = grind (arith, nat_tests)

shows_within : (a b : ℕ) → a ≤ b → nat_le a b ≡ true
shows_within a b h = grind (arith, nat_tests)

are_equal : (a b : ℕ) → (a == b) ≡ true → a ≡ b
are_equal a b h = grind (arith, nat_tests)

show_equal : (a b : ℕ) → a ≡ b → (a == b) ≡ true
show_equal a b h = grind (arith, nat_tests)

pub capped_is : (n : ℕ) → n ≤ 18446744073709551615 → capped n ≡ n
capped_is n few = min-eq_left few

trap_is : (e : ReportEvent) → traps_here e ≡ is_trap (event_of e)
trap_is (event.Begin task) = refl
trap_is (event.Look site time) = refl
trap_is (event.Kept site value) = refl
trap_is (event.Drop site) = refl
trap_is (event.Issue site peripheral arguments reading) = refl
trap_is (event.Seal site) = refl
trap_is (event.Copy site from to words) = refl
trap_is (event.Commit next) = refl
trap_is (event.Trap code) = refl

-- what a test that passes says
record Passes (p : Pace) (e : TimedEvent) : Type 0 where
  goes_on : p.over ≡ false
  later : p.done < e.step
  within : e.step ≤ p.last
  clock : shows_clock e.step p.off e.event ≡ true

passes : (p : Pace) (e : TimedEvent) → fits_here p e ≡ true → Passes p e
passes p e h =
    let a = both (not p.over) (nat_lt p.done e.step && (nat_le e.step p.last && shows_clock e.step p.off e.event)) h in
    let b = both (nat_lt p.done e.step) (nat_le e.step p.last && shows_clock e.step p.off e.event) a.1 in
    let c = both (nat_le e.step p.last) (shows_clock e.step p.off e.event) b.1 in
    record { goes_on = not_over p.over a.0; later = is_less _ _ b.0; within = is_within _ _ c.0; clock = c.1 }

passing : (p : Pace) (e : TimedEvent) → Passes p e → fits_here p e ≡ true
passing p e q =
    put_together (not p.over) _ (ap not q.goes_on) (put_together (nat_lt p.done e.step) _ (shows_less _ _ q.later)
    (put_together (nat_le e.step p.last) _ (shows_within _ _ q.within) q.clock))

-- ---- the clock

module _ (world : World) where
  shown_is : (step off : ℕ) (e : ReportEvent) → off_ticks world.power (step - 1) ≡ off → step - 1 + off ≤ 18446744073709551615 → shows_clock step off e ≡ true → IsTimed world step (event_of e)
  shown_is step off (event.Look site time) clock few h =
      are_equal time (capped (step - 1 + off)) h ∙ capped_is (step - 1 + off) few ∙ ap (λ o. step - 1 + o) (sym clock)
  shown_is step off (event.Begin task) clock few h = tt
  shown_is step off (event.Kept site value) clock few h = tt
  shown_is step off (event.Drop site) clock few h = tt
  shown_is step off (event.Issue site peripheral arguments reading) clock few h = tt
  shown_is step off (event.Seal site) clock few h = tt
  shown_is step off (event.Copy site from to words) clock few h = tt
  shown_is step off (event.Commit next) clock few h = tt
  shown_is step off (event.Trap code) clock few h = tt

  is_shown : (step off : ℕ) (e : ReportEvent) → off_ticks world.power (step - 1) ≡ off → step - 1 + off ≤ 18446744073709551615 → IsTimed world step (event_of e) → shows_clock step off e ≡ true
  is_shown step off (event.Look site time) clock few h =
      show_equal time (capped (step - 1 + off)) (h ∙ ap (λ o. step - 1 + o) clock ∙ sym (capped_is (step - 1 + off) few))
  is_shown step off (event.Begin task) clock few h = refl
  is_shown step off (event.Kept site value) clock few h = refl
  is_shown step off (event.Drop site) clock few h = refl
  is_shown step off (event.Issue site peripheral arguments reading) clock few h = refl
  is_shown step off (event.Seal site) clock few h = refl
  is_shown step off (event.Copy site from to words) clock few h = refl
  is_shown step off (event.Commit next) clock few h = refl
  is_shown step off (event.Trap code) clock few h = refl

  -- ---- events

  abbrev timed : List TimedEvent → List (ℕ × JournalEvent)
  timed es = map timed_of es

  length_timed : (es : List TimedEvent) → length (timed es) ≡ length es
  length_timed [] = refl
  length_timed (e ∷ es) = ap suc (length_timed es)

  -- events that fit, with looks that do
  abbrev Good : (done last : ℕ) → List (ℕ × JournalEvent) → Type 0
  Good done last events = EventsFit done last events × AllByRecursion (λ e. IsTimed world e.0 e.1) events

  -- in this row the ticks without power are known
  record Clocked (p : Pace) : Type 0 where
    off : (d : ℕ) → p.done ≤ d → d < p.last → off_ticks world.power d ≡ p.off
    few : p.last + p.off ≤ 18446744073709551615

  -- how many events fit
  abbrev fitted : Pace → List TimedEvent → ℕ
  fitted p [] = 0
  fitted p (e ∷ es) = cond (fits_here p e) (suc (fitted (paced_by p e) es)) 0

  over_stops : (p : Pace) (es : List TimedEvent) → p.over ≡ true → fitted p es ≡ 0
  over_stops p [] over = refl
  over_stops p (e ∷ es) over =
      ap (λ o. cond (not o && (nat_lt p.done e.step && (nat_le e.step p.last && shows_clock e.step p.off e.event))) (suc (fitted (paced_by p e) es)) 0) over

  clocked_next : (p : Pace) (e : TimedEvent) → Clocked p → Passes p e → Clocked (paced_by p e)
  clocked_next p e c q = record { off = λ d above below. c.off d (omega (arith, q.later, above)) below; few = c.few }

  clock_here : (p : Pace) (e : TimedEvent) → Clocked p → p.done < e.step → e.step ≤ p.last → (off_ticks world.power (e.step - 1) ≡ p.off) × (e.step - 1 + p.off ≤ 18446744073709551615)
  clock_here p e c later within = (c.off (e.step - 1) (omega (arith, later)) (omega (arith, later, within)), omega (arith, within, c.few))

  hold_step : (p : Pace) (e : TimedEvent) (es : List TimedEvent) (k : ℕ) → Clocked p → (t : Bool) → fits_here p e ≡ t → suc k ≤ cond t (suc (fitted (paced_by p e) es)) 0
      → (Clocked (paced_by p e) → k ≤ fitted (paced_by p e) es → Good e.step p.last (take k (timed es)))
      → Good p.done p.last (timed_of e ∷ take k (timed es))
  hold_step p e es k c false is le more = absurd (not-suc-le-zero le)
  hold_step p e es k c true is le more =
      let q = passes p e is in
      let at = clock_here p e c q.later q.within in
      let less = le_of_suc-le-suc le in
      let rest = more (clocked_next p e c q) less in
      let last : is_trap (event_of e.event) ≡ true → take k (timed es) ≡ [] = λ trap.
      let stops : fitted (paced_by p e) es ≡ 0 = over_stops (paced_by p e) es (trap_is e.event ∙ trap) in
      let none : k ≡ 0 = omega (arith, stops, less) in ap (λ k. take k (timed es)) none in
      ((q.later, q.within, last, rest.0), (shown_is e.step p.off e.event at.0 at.1 q.clock, rest.1))

  events_hold : (p : Pace) (es : List TimedEvent) (k : ℕ) → Clocked p → k ≤ fitted p es → Good p.done p.last (take k (timed es))
  events_hold p es zero c le = (tt, tt)
  events_hold p [] (suc k) c le = absurd (not-suc-le-zero le)
  events_hold p (e ∷ es) (suc k) c le = hold_step p e es k c (fits_here p e) refl le (λ next less. events_hold (paced_by p e) es k next less)

  -- a part of a list that is there isn't empty
  not_none : (k : ℕ) (es : List TimedEvent) → 0 < k → k ≤ length es → take k (timed es) ≡ [] → ⊥
  not_none k es some within none =
      let there : length (take k (timed es)) ≡ k = length-take-le k (timed es) (omega (arith, within, length_timed es)) in
      let gone : length (take k (timed es)) ≡ 0 = ap length none in
      omega (arith, some, there, gone)

  trapped_end : (p : Pace) (e : TimedEvent) (es : List TimedEvent) (k : ℕ) → (t : Bool) → traps_here e.event ≡ t → fitted (paced_by p e) es < k → k ≤ length es
      → (is_trap (event_of e.event) ≡ true → take k (timed es) ≡ []) → ((paced_by p e).over ≡ false → ⊥) → ⊥
  trapped_end p e es k true is more within last go = not_none k es (omega (arith, more)) within (last (sym (trap_is e.event) ∙ is))
  trapped_end p e es k false is more within last go = go is

  end_step : (p : Pace) (e : TimedEvent) (es : List TimedEvent) (k : ℕ) → Clocked p → p.over ≡ false → (t : Bool) → fits_here p e ≡ t → cond t (suc (fitted (paced_by p e) es)) 0 < suc k → k ≤ length es
      → Good p.done p.last (timed_of e ∷ take k (timed es))
      → (Clocked (paced_by p e) → (paced_by p e).over ≡ false → fitted (paced_by p e) es < k → Good e.step p.last (take k (timed es)) → ⊥) → ⊥
  end_step p e es k c over true is more within good go =
      let less : fitted (paced_by p e) es < k = omega (arith, more) in
      trapped_end p e es k (traps_here e.event) refl less within good.0.2
      (λ on. go (clocked_next p e c (passes p e is)) on less (good.0.3, good.1.1))
  end_step p e es k c over false is more within good go =
      let at = clock_here p e c good.0.0 good.0.1 in
      false≢true (sym is ∙ passing p e (record { goes_on = over; later = good.0.0; within = good.0.1; clock = is_shown e.step p.off e.event at.0 at.1 good.1.0 }))

  events_end : (p : Pace) (es : List TimedEvent) (k : ℕ) → Clocked p → p.over ≡ false → fitted p es < k → k ≤ length es → Good p.done p.last (take k (timed es)) → ⊥
  events_end p es zero c over more within good = not-suc-le-zero more
  events_end p [] (suc k) c over more within good = not-suc-le-zero within
  events_end p (e ∷ es) (suc k) c over more within good =
      end_step p e es k c over (fits_here p e) refl more (le_of_suc-le-suc within) good
      (λ next on less rest. events_end (paced_by p e) es k next on less (le_of_suc-le-suc within) rest)

  -- ---- what stands behind the events of a boot

  -- behind something that doesn't fit no line counts
  step_over : (p : Pace) (e : TimedEvent) → p.over ≡ true → ((stepped p e).over ≡ true) × ((stepped p e).lines ≡ p.lines)
  step_over p e over =
      let fails : fits_here p e ≡ false = ap (λ o. not o && (nat_lt p.done e.step && (nat_le e.step p.last && shows_clock e.step p.off e.event))) over in
      (ap (λ t. (cond t (paced_by p e) (record p { over = true })).over) fails, ap (λ t. (cond t (paced_by p e) (record p { over = true })).lines) fails)

  over_stays : (p : Pace) (es : List TimedEvent) → p.over ≡ true → ((passed p es).over ≡ true) × ((passed p es).lines ≡ p.lines)
  over_stays p [] over = (over, refl)
  over_stays p (e ∷ es) over =
      let s = step_over p e over in
      let rest = over_stays (stepped p e) es s.0 in
      (rest.0, rest.1 ∙ s.1)

  step_last : (p : Pace) (e : TimedEvent) (t : Bool) → (cond t (paced_by p e) (record p { over = true })).last ≡ p.last
  step_last p e true = refl
  step_last p e false = refl

  last_stays : (p : Pace) (es : List TimedEvent) → (passed p es).last ≡ p.last
  last_stays p [] = refl
  last_stays p (e ∷ es) = last_stays (stepped p e) es ∙ step_last p e (fits_here p e)

  few_step : (n m : ℕ) (t : Bool) → n ≤ m → cond t (suc n) 0 ≤ suc m
  few_step n m true le = omega (arith, le)
  few_step n m false le = omega arith

  fitted_few : (p : Pace) (es : List TimedEvent) → fitted p es ≤ length es
  fitted_few p [] = omega arith
  fitted_few p (e ∷ es) = few_step (fitted (paced_by p e) es) (length es) (fits_here p e) (fitted_few (paced_by p e) es)

  -- the lines are counted
  lines_step : (p : Pace) (e : TimedEvent) (es : List TimedEvent) (t : Bool) → p.lines + suc (length es) ≤ 18446744073709551615
      → ((paced_by p e).lines + length es ≤ 18446744073709551615 → (passed (paced_by p e) es).lines ≡ (paced_by p e).lines + fitted (paced_by p e) es)
      → (passed (cond t (paced_by p e) (record p { over = true })) es).lines ≡ p.lines + cond t (suc (fitted (paced_by p e) es)) 0
  lines_step p e es true few more =
      let one : capped (p.lines + 1) ≡ p.lines + 1 = capped_is (p.lines + 1) (omega (arith, few)) in
      let rest = more (omega (arith, few, one)) in
      omega (arith, rest, one)
  lines_step p e es false few more = (over_stays (record p { over = true }) es refl).1 ∙ omega arith

  lines_counted : (p : Pace) (es : List TimedEvent) → p.lines + length es ≤ 18446744073709551615 → (passed p es).lines ≡ p.lines + fitted p es
  lines_counted p [] few = omega arith
  lines_counted p (e ∷ es) few = lines_step p e es (fits_here p e) few (λ less. lines_counted (paced_by p e) es less)

  -- where it can go on, all events fit and none is a trap
  abbrev AllFit : Pace → List TimedEvent → Type 0
  AllFit p es = (fitted p es ≡ length es) × (has_trap (timed es) ≡ false)

  all_fit_step : (p : Pace) (e : TimedEvent) (es : List TimedEvent) (t u : Bool) → traps_here e.event ≡ u → (passed (cond t (paced_by p e) (record p { over = true })) es).over ≡ false
      → ((paced_by p e).over ≡ false → (passed (paced_by p e) es).over ≡ false → AllFit (paced_by p e) es)
      → (cond t (suc (fitted (paced_by p e) es)) 0 ≡ suc (length es)) × ((is_trap (event_of e.event) || has_trap (timed es)) ≡ false)
  all_fit_step p e es true true is on more = absurd (false≢true (sym on ∙ (over_stays (paced_by p e) es is).0))
  all_fit_step p e es true false is on more =
      let rest = more is on in
      (ap suc rest.0, ap (λ b. b || has_trap (timed es)) (sym (trap_is e.event) ∙ is) ∙ rest.1)
  all_fit_step p e es false u is on more = absurd (false≢true (sym on ∙ (over_stays (record p { over = true }) es refl).0))

  goes_on_all : (p : Pace) (es : List TimedEvent) → p.over ≡ false → (passed p es).over ≡ false → AllFit p es
  goes_on_all p [] over on = (refl, refl)
  goes_on_all p (e ∷ es) over on = all_fit_step p e es (fits_here p e) (traps_here e.event) refl on (λ next rest. goes_on_all (paced_by p e) es next rest)

  -- where it can't, some event doesn't fit, or one is a trap
  abbrev Broken : Pace → List TimedEvent → Type 0
  Broken p es = (fitted p es < length es) ⊎ (has_trap (timed es) ≡ true)

  or_true : (a b : Bool) → b ≡ true → (a || b) ≡ true
  or_true true b h = refl
  or_true false b h = h

  broken_more : (p : Pace) (e : TimedEvent) (es : List TimedEvent) → Broken (paced_by p e) es → (suc (fitted (paced_by p e) es) < suc (length es)) ⊎ ((is_trap (event_of e.event) || has_trap (timed es)) ≡ true)
  broken_more p e es (inl less) = inl (omega (arith, less))
  broken_more p e es (inr trap) = inr (or_true (is_trap (event_of e.event)) (has_trap (timed es)) trap)

  broken_step : (p : Pace) (e : TimedEvent) (es : List TimedEvent) (t u : Bool) → traps_here e.event ≡ u → (passed (cond t (paced_by p e) (record p { over = true })) es).over ≡ true
      → ((paced_by p e).over ≡ false → (passed (paced_by p e) es).over ≡ true → Broken (paced_by p e) es)
      → (cond t (suc (fitted (paced_by p e) es)) 0 < suc (length es)) ⊎ ((is_trap (event_of e.event) || has_trap (timed es)) ≡ true)
  broken_step p e es true true is over more = inr (ap (λ b. b || has_trap (timed es)) (sym (trap_is e.event) ∙ is))
  broken_step p e es true false is over more = broken_more p e es (more is over)
  broken_step p e es false u is over more = inl (omega arith)

  stops_broken : (p : Pace) (es : List TimedEvent) → p.over ≡ false → (passed p es).over ≡ true → Broken p es
  stops_broken p [] on over = absurd (false≢true (sym on ∙ over))
  stops_broken p (e ∷ es) on over = broken_step p e es (fits_here p e) (traps_here e.event) refl over (λ next rest. stops_broken (paced_by p e) es next rest)

  -- all events of a boot, or the first ones of it
  whole : (k : ℕ) (es : List TimedEvent) → length es ≤ k → take k (timed es) ≡ take (length es) (timed es)
  whole k es long =
      let n : length (timed es) ≡ length es = length_timed es in
      take_all k (timed es) (omega (arith, n, long)) ∙ sym (take_all (length es) (timed es) (omega (arith, n)))

  -- ---- boots

  -- what is known where rows are left: the ticks without power before each step, and that sums fit
  abbrev Standing : Power → List PowerRow → Type 0
  Standing p [] = ⊤
  Standing p (row ∷ rows) = ((d : ℕ) → p.done ≤ d → off_ticks world.power d ≡ p.off + off_ticks (row ∷ rows) (d - p.done)) × (p.done + p.off + ticks_of (row ∷ rows) ≤ 4294967295)

  ticks_more : (row : PowerRow) (rows : List PowerRow) → ticks_of (row ∷ rows) ≡ row.on + row.off + ticks_of rows
  ticks_more row rows = sum_by-cons (λ (row : PowerRow). row.on + row.off) row rows

  off_none : (row : PowerRow) (rows : List PowerRow) (x : ℕ) → x < row.on → off_ticks (row ∷ rows) x ≡ 0
  off_none row [] x less = refl
  off_none row (next ∷ rows) x less = by_test (nat_le row.on x) refl
    where
      by_test : (t : Bool) → nat_le row.on x ≡ t → cond t (row.off + off_ticks (next ∷ rows) (x - row.on)) 0 ≡ 0
      by_test true is = absurd (grind (arith, nat_tests))
      by_test false is = refl

  off_more : (row next : PowerRow) (rows : List PowerRow) (x : ℕ) → row.on ≤ x → off_ticks (row ∷ next ∷ rows) x ≡ row.off + off_ticks (next ∷ rows) (x - row.on)
  off_more row next rows x more = ap (λ t. cond t (row.off + off_ticks (next ∷ rows) (x - row.on)) 0) (shows_within row.on x more)

  clocked_in : (p : Power) (row : PowerRow) (rows : List PowerRow) → Standing p (row ∷ rows) → (Clocked (pace_in p row)) × ((pace_in p row).last ≡ p.done + row.on)
  clocked_in p row rows st =
      let sum = ticks_more row rows in
      let on : capped (p.done + row.on) ≡ p.done + row.on = capped_is (p.done + row.on) (omega (arith, st.1, sum)) in
      let known : (d : ℕ) → p.done ≤ d → d < capped (p.done + row.on) → off_ticks world.power d ≡ p.off = λ d above below.
      let none : off_ticks (row ∷ rows) (d - p.done) ≡ 0 = off_none row rows (d - p.done) (omega (arith, above, below, on)) in
      st.0 d above ∙ omega (arith, none) in
      (record { off = known; few = omega (arith, st.1, sum, on) }, on)

  -- behind a boot of the row
  abbrev next_in : Power → PowerRow → List PowerRow → ReportBoot → Power
  next_in p row rows b = behind_row p row rows (passed (pace_in p row) b.events)

  done_next : (p : Power) (row : PowerRow) (rows : List PowerRow) (b : ReportBoot) → Standing p (row ∷ rows) → (next_in p row rows b).done ≡ p.done + row.on
  done_next p row rows b st = last_stays (pace_in p row) b.events ∙ (clocked_in p row rows st).1

  standing_next : (p : Power) (row : PowerRow) (rows : List PowerRow) (b : ReportBoot) → Standing p (row ∷ rows) → Standing (next_in p row rows b) rows
  standing_next p row [] b st = tt
  standing_next p row (next ∷ rows) b st =
      let sum = ticks_more row (next ∷ rows) in
      let done = done_next p row (next ∷ rows) b st in
      let off : capped (p.off + row.off) ≡ p.off + row.off = capped_is (p.off + row.off) (omega (arith, st.1, sum)) in (
        λ d above.
            let more = off_more row next rows (d - p.done) (omega (arith, above, done)) in
            let at : d - p.done - row.on ≡ d - (next_in p row (next ∷ rows) b).done = omega (arith, above, done) in
            let rest = ap (off_ticks (next ∷ rows)) at in
            let before = st.0 d (omega (arith, above, done)) in
            omega (arith, before, more, rest, off),
        omega (arith, st.1, sum, done, off),
      )

  -- how many lines of boots fit
  abbrev fitted_boot : Power → List PowerRow → ReportBoot → (rest : ℕ) → ℕ
  fitted_boot p [] b rest = 0
  fitted_boot p (row ∷ rows) b rest = cond (begins_here p b) (suc (fitted (pace_in p row) b.events) + rest) 0

  abbrev fitted_from : Power → List ReportBoot → ℕ
  fitted_from p [] = 0
  fitted_from p (b ∷ bs) = fitted_boot p p.rows b (fitted_from (booted_in p p.rows b) bs)

  boot_over : (p : Power) (rows : List PowerRow) (b : ReportBoot) (rest : ℕ) → p.over ≡ true → fitted_boot p rows b rest ≡ 0
  boot_over p [] b rest over = refl
  boot_over p (row ∷ rows) b rest over = ap (λ o. cond (not o && b.begun_at == p.done) (suc (fitted (pace_in p row) b.events) + rest) 0) over

  from_over : (p : Power) (bs : List ReportBoot) → p.over ≡ true → fitted_from p bs ≡ 0
  from_over p [] over = refl
  from_over p (b ∷ bs) over = boot_over p p.rows b (fitted_from (booted_in p p.rows b) bs) over

  -- boots that fit, with looks that do
  abbrev GoodBoots : (done : ℕ) → List PowerRow → List Boot → Type 0
  GoodBoots done rows bs = BootsFit done rows bs × LooksFit world bs

  abbrev Holds : List ReportBoot → Type 0
  Holds bs = (p : Power) (m : ℕ) → Standing p p.rows → m ≤ fitted_from p bs → GoodBoots p.done p.rows (front m (boots_of bs))

  -- the first lines of a boot, or all of it and lines behind it
  abbrev Fronts : Power → PowerRow → List PowerRow → ReportBoot → List ReportBoot → (m k : ℕ) → Type 0
  Fronts p row rows b bs m k = GoodBoots p.done (row ∷ rows) (shortened m (boot_of b) ∷ front k (boots_of bs))

  first_lines : (p : Power) (row : PowerRow) (rows : List PowerRow) (b : ReportBoot) (bs : List ReportBoot) (m k : ℕ) → Standing p (row ∷ rows) → b.begun_at ≡ p.done
      → m ≤ fitted (pace_in p row) b.events → k ≡ 0 → Fronts p row rows b bs m k
  first_lines p row rows b bs m k st begun less none =
      let c = clocked_in p row rows st in
      let good = events_hold (pace_in p row) b.events m c.0 less in
      subst (Fronts p row rows b bs m) (sym none)
      ((begun, subst (λ last. EventsFit p.done last (take m (timed b.events))) c.1 good.0, λ trap. refl, tt), (good.1, tt))

  all_lines : (p : Power) (row : PowerRow) (rows : List PowerRow) (b : ReportBoot) (bs : List ReportBoot) (m k : ℕ) → Standing p (row ∷ rows) → b.begun_at ≡ p.done
      → AllFit (pace_in p row) b.events → length b.events ≤ m → GoodBoots (next_in p row rows b).done rows (front k (boots_of bs)) → Fronts p row rows b bs m k
  all_lines p row rows b bs m k st begun all long rest =
      let c = clocked_in p row rows st in
      let n = length b.events in
      let every = events_hold (pace_in p row) b.events n c.0 (omega (arith, all.0)) in
      let good = subst (Good p.done (pace_in p row).last) (sym (whole m b.events long)) every in
      let no_trap : has_trap (take m (timed b.events)) ≡ false =
      ap has_trap (take_all m (timed b.events) (omega (arith, long, length_timed b.events))) ∙ all.1 in (
        (
          begun,
          subst (λ last. EventsFit p.done last (take m (timed b.events))) c.1 good.0,
          (λ trap. absurd (false≢true (sym no_trap ∙ trap))),
          subst (λ done. BootsFit done rows (front k (boots_of bs))) (done_next p row rows b st) rest.0,
        ),
        (good.1, rest.1),
      )

  hold_in : (p : Power) (row : PowerRow) (rows : List PowerRow) (b : ReportBoot) (bs : List ReportBoot) (m : ℕ) (u within : Bool) → Standing p (row ∷ rows) → b.begun_at ≡ p.done
      → (next_in p row rows b).over ≡ u → nat_le m (length b.events) ≡ within
      → m ≤ fitted (pace_in p row) b.events + fitted_from (next_in p row rows b) bs → Holds bs → Fronts p row rows b bs m (m - length (timed b.events))
  hold_in p row rows b bs m true within st begun over test le more =
      let none = from_over (next_in p row rows b) bs over in
      let few = fitted_few (pace_in p row) b.events in
      first_lines p row rows b bs m _ st begun (omega (arith, le, none)) (omega (arith, le, none, few, length_timed b.events))
  hold_in p row rows b bs m false true st begun over test le more =
      let all = goes_on_all (pace_in p row) b.events refl over in
      let short = is_within m (length b.events) test in
      first_lines p row rows b bs m _ st begun (omega (arith, short, all.0)) (omega (arith, short, length_timed b.events))
  hold_in p row rows b bs m false false st begun over test le more =
      let all = goes_on_all (pace_in p row) b.events refl over in
      let long : length b.events ≤ m = above m (length b.events) test in
      let n = length_timed b.events in
      all_lines p row rows b bs m _ st begun all long (more (next_in p row rows b) (m - length (timed b.events)) (standing_next p row rows b st) (omega (arith, le, long, all.0, n)))
    where
      above : (m n : ℕ) → nat_le m n ≡ false → n ≤ m
      above m n test = grind (arith, nat_tests)

  begun : (p : Power) (b : ReportBoot) → begins_here p b ≡ true → (p.over ≡ false) × (b.begun_at ≡ p.done)
  begun p b h = let a = both (not p.over) (b.begun_at == p.done) h in (not_over p.over a.0, are_equal b.begun_at p.done a.1)

  hold_test : (p : Power) (row : PowerRow) (rows : List PowerRow) (b : ReportBoot) (bs : List ReportBoot) (m : ℕ) (t : Bool) → begins_here p b ≡ t → Standing p (row ∷ rows)
      → suc m ≤ cond t (suc (fitted (pace_in p row) b.events) + fitted_from (cond t (next_in p row rows b) (record p { over = true })) bs) 0 → Holds bs → Fronts p row rows b bs m (m - length (timed b.events))
  hold_test p row rows b bs m true is st le more =
      hold_in p row rows b bs m (next_in p row rows b).over (nat_le m (length b.events)) st (begun p b is).1 refl refl (omega (arith, le)) more
  hold_test p row rows b bs m false is st le more = absurd (not-suc-le-zero le)

  hold_boot : (p : Power) (rows : List PowerRow) (b : ReportBoot) (bs : List ReportBoot) (m : ℕ) → Standing p rows → suc m ≤ fitted_boot p rows b (fitted_from (booted_in p rows b) bs) → Holds bs
      → GoodBoots p.done rows (shortened m (boot_of b) ∷ front (m - length (timed b.events)) (boots_of bs))
  hold_boot p [] b bs m st le more = absurd (not-suc-le-zero le)
  hold_boot p (row ∷ rows) b bs m st le more = hold_test p row rows b bs m (begins_here p b) refl st le more

  boots_hold : (bs : List ReportBoot) → Holds bs
  boots_hold bs p zero st le = (tt, tt)
  boots_hold [] p (suc m) st le = absurd (not-suc-le-zero le)
  boots_hold (b ∷ bs) p (suc m) st le = hold_boot p p.rows b bs m st le (λ q k next less. boots_hold bs q k next less)

  -- ---- and no more

  abbrev Ends : List ReportBoot → Type 0
  Ends bs = (p : Power) (m : ℕ) → Standing p p.rows → p.over ≡ false → fitted_from p bs < m → m ≤ lines_of (boots_of bs) → GoodBoots p.done p.rows (front m (boots_of bs)) → ⊥

  front_some : (k : ℕ) (bs : List Boot) → 0 < k → k ≤ lines_of bs → front k bs ≡ [] → ⊥
  front_some zero bs some within none = not-suc-le-zero some
  front_some (suc k) [] some within none = not-suc-le-zero within
  front_some (suc k) (b ∷ bs) some within none = let gone = ap length none in omega (arith, gone)

  -- the events of a boot, all of them or some, with what was said of them
  events_good : (p : Power) (row : PowerRow) (rows : List PowerRow) (b : ReportBoot) (bs : List ReportBoot) (m k : ℕ) → Standing p (row ∷ rows) → Fronts p row rows b bs m k → Good p.done (pace_in p row).last (take m (timed b.events))
  events_good p row rows b bs m k st good = (subst (λ last. EventsFit p.done last (take m (timed b.events))) (sym (clocked_in p row rows st).1) good.0.1, good.1.0)

  end_broken : (p : Power) (row : PowerRow) (rows : List PowerRow) (b : ReportBoot) (bs : List ReportBoot) (m k : ℕ) → Standing p (row ∷ rows) → Broken (pace_in p row) b.events → length b.events ≤ m → 0 < k → k ≤ lines_of (boots_of bs)
      → Fronts p row rows b bs m k → ⊥
  end_broken p row rows b bs m k st (inl less) long some within good =
      events_end (pace_in p row) b.events (length b.events) (clocked_in p row rows st).0 refl less (omega arith)
      (subst (Good p.done (pace_in p row).last) (whole m b.events long) (events_good p row rows b bs m k st good))
  end_broken p row rows b bs m k st (inr trap) long some within good =
      front_some k (boots_of bs) some within
      (good.0.2 (ap has_trap (take_all m (timed b.events) (omega (arith, long, length_timed b.events))) ∙ trap))

  end_in : (p : Power) (row : PowerRow) (rows : List PowerRow) (b : ReportBoot) (bs : List ReportBoot) (m : ℕ) (u within : Bool) → Standing p (row ∷ rows)
      → (next_in p row rows b).over ≡ u → nat_le m (length b.events) ≡ within → fitted (pace_in p row) b.events + fitted_from (next_in p row rows b) bs < m → m ≤ length (timed b.events) + lines_of (boots_of bs)
      → Fronts p row rows b bs m (m - length (timed b.events)) → Ends bs → ⊥
  end_in p row rows b bs m u true st over test more within good go =
      events_end (pace_in p row) b.events m (clocked_in p row rows st).0 refl (omega (arith, more)) (is_within m (length b.events) test) (events_good p row rows b bs m _ st good)
  end_in p row rows b bs m true false st over test more within good go =
      let n = length_timed b.events in
      let long : length b.events < m = beyond m (length b.events) test in
      end_broken p row rows b bs m _ st (stops_broken (pace_in p row) b.events refl over) (omega (arith, long)) (omega (arith, long, n)) (omega (arith, within, long, n)) good
    where
      beyond : (m n : ℕ) → nat_le m n ≡ false → n < m
      beyond m n test = grind (arith, nat_tests)
  end_in p row rows b bs m false false st over test more within good go =
      let n = length_timed b.events in
      let all = goes_on_all (pace_in p row) b.events refl over in
      let q = next_in p row rows b in
      go q (m - length (timed b.events)) (standing_next p row rows b st) over (omega (arith, more, all.0, n)) (omega (arith, within, more, all.0, n))
      (subst (λ done. BootsFit done rows (front (m - length (timed b.events)) (boots_of bs))) (sym (done_next p row rows b st)) good.0.3, good.1.1)

  end_test : (p : Power) (row : PowerRow) (rows : List PowerRow) (b : ReportBoot) (bs : List ReportBoot) (m : ℕ) (t : Bool) → begins_here p b ≡ t → Standing p (row ∷ rows) → p.over ≡ false
      → cond t (suc (fitted (pace_in p row) b.events) + fitted_from (cond t (next_in p row rows b) (record p { over = true })) bs) 0 < suc m → m ≤ length (timed b.events) + lines_of (boots_of bs)
      → Fronts p row rows b bs m (m - length (timed b.events)) → Ends bs → ⊥
  end_test p row rows b bs m true is st over more within good go =
      end_in p row rows b bs m (next_in p row rows b).over (nat_le m (length b.events)) st refl refl (omega (arith, more)) within good go
  end_test p row rows b bs m false is st over more within good go =
      false≢true (sym is ∙ put_together (not p.over) (b.begun_at == p.done) (ap not over) (show_equal b.begun_at p.done good.0.0))

  end_boot : (p : Power) (rows : List PowerRow) (b : ReportBoot) (bs : List ReportBoot) (m : ℕ) → Standing p rows → p.over ≡ false → fitted_boot p rows b (fitted_from (booted_in p rows b) bs) < suc m
      → m ≤ length (timed b.events) + lines_of (boots_of bs) → GoodBoots p.done rows (shortened m (boot_of b) ∷ front (m - length (timed b.events)) (boots_of bs)) → Ends bs → ⊥
  end_boot p [] b bs m st over more within good go = absurd good.0
  end_boot p (row ∷ rows) b bs m st over more within good go = end_test p row rows b bs m (begins_here p b) refl st over more within good go

  boots_end : (bs : List ReportBoot) → Ends bs
  boots_end bs p zero st over more within good = not-suc-le-zero more
  boots_end [] p (suc m) st over more within good = not-suc-le-zero within
  boots_end (b ∷ bs) p (suc m) st over more within good = end_boot p p.rows b bs m st over more (omega (arith, within)) good (λ q k next on less rest. boots_end bs q k next on less rest)

  -- ---- the lines are counted

  boot_stays : (p : Power) (rows : List PowerRow) (b : ReportBoot) → p.over ≡ true → ((booted_in p rows b).over ≡ true) × ((booted_in p rows b).lines ≡ p.lines)
  boot_stays p [] b over = (refl, refl)
  boot_stays p (row ∷ rows) b over =
      let fails : begins_here p b ≡ false = ap (λ o. not o && b.begun_at == p.done) over in
      (ap (λ t. (cond t (next_in p row rows b) (record p { over = true })).over) fails, ap (λ t. (cond t (next_in p row rows b) (record p { over = true })).lines) fails)

  boots_stay : (p : Power) (bs : List ReportBoot) → p.over ≡ true → (all_booted p bs).lines ≡ p.lines
  boots_stay p [] over = refl
  boots_stay p (b ∷ bs) over = let s = boot_stays p p.rows b over in boots_stay (booted_in p p.rows b) bs s.0 ∙ s.1

  abbrev Counted : List ReportBoot → Type 0
  Counted bs = (p : Power) → p.lines + lines_of (boots_of bs) ≤ 18446744073709551615 → (all_booted p bs).lines ≡ p.lines + fitted_from p bs

  count_test : (p : Power) (row : PowerRow) (rows : List PowerRow) (b : ReportBoot) (bs : List ReportBoot) (t : Bool) → p.lines + (suc (length (timed b.events)) + lines_of (boots_of bs)) ≤ 18446744073709551615 → Counted bs
      → (all_booted (cond t (next_in p row rows b) (record p { over = true })) bs).lines ≡ p.lines + cond t (suc (fitted (pace_in p row) b.events) + fitted_from (cond t (next_in p row rows b) (record p { over = true })) bs) 0
  count_test p row rows b bs true few more =
      let n = length_timed b.events in
      let one : capped (p.lines + 1) ≡ p.lines + 1 = capped_is (p.lines + 1) (omega (arith, few)) in
      let at = lines_counted (pace_in p row) b.events (omega (arith, few, one, n)) in
      let rest = more (next_in p row rows b) (omega (arith, few, at, one, n, fitted_few (pace_in p row) b.events)) in
      omega (arith, rest, at, one)
  count_test p row rows b bs false few more = boots_stay (record p { over = true }) bs refl ∙ omega arith

  count_boot : (p : Power) (rows : List PowerRow) (b : ReportBoot) (bs : List ReportBoot) → p.lines + (suc (length (timed b.events)) + lines_of (boots_of bs)) ≤ 18446744073709551615 → Counted bs
      → (all_booted (booted_in p rows b) bs).lines ≡ p.lines + fitted_boot p rows b (fitted_from (booted_in p rows b) bs)
  count_boot p [] b bs few more = boots_stay (record p { over = true }) bs refl ∙ omega arith
  count_boot p (row ∷ rows) b bs few more = count_test p row rows b bs (begins_here p b) few more

  boots_counted : (bs : List ReportBoot) → Counted bs
  boots_counted [] p few = omega arith
  boots_counted (b ∷ bs) p few = count_boot p p.rows b bs few (λ q less. boots_counted bs q less)

  -- they are no more than there are
  few_test : (t : Bool) (n rest m k : ℕ) → n ≤ m → rest ≤ k → cond t (suc n + rest) 0 ≤ suc m + k
  few_test true n rest m k a b = omega (arith, a, b)
  few_test false n rest m k a b = omega arith

  few_boot : (p : Power) (rows : List PowerRow) (b : ReportBoot) (rest k : ℕ) → rest ≤ k → fitted_boot p rows b rest ≤ suc (length (timed b.events)) + k
  few_boot p [] b rest k few = omega arith
  few_boot p (row ∷ rows) b rest k few =
      few_test (begins_here p b) (fitted (pace_in p row) b.events) rest (length (timed b.events)) k (omega (arith, fitted_few (pace_in p row) b.events, length_timed b.events)) few

  boots_few : (p : Power) (bs : List ReportBoot) → fitted_from p bs ≤ lines_of (boots_of bs)
  boots_few p [] = omega arith
  boots_few p (b ∷ bs) = few_boot p p.rows b _ _ (boots_few (booted_in p p.rows b) bs)

  -- ---- all of it

  at_first : IsWithinLimits world → (rows : List PowerRow) → rows ≡ world.power → Standing (powered world.power) rows
  at_first limits [] is = tt
  at_first limits (row ∷ rows) is =
      let ticks = ap ticks_of is in
      let same : (d : ℕ) → d - 0 ≡ d = λ d. omega arith in
      (λ d above. ap (λ rows. off_ticks rows d) (sym is) ∙ ap (off_ticks (row ∷ rows)) (sym (same d)) ∙ omega arith, omega (arith, ticks, limits.ticks))

  pub fitting_is : IsWithinLimits world → (bs : List ReportBoot) → lines_of (boots_of bs) ≤ 4294967295 → (p : Power) → p ≡ powered world.power → (n : ℕ) → n ≡ (all_booted p bs).lines → Reaches (BootsFitWorld world) (boots_of bs) n
  fitting_is limits bs few p begins n is =
      let p = powered world.power in
      let st = at_first limits world.power refl in
      let count : n ≡ fitted_from p bs = is ∙ ap (λ p. (all_booted p bs).lines) begins ∙ boots_counted bs p (omega (arith, few)) ∙ omega arith in
      let most = boots_few p bs in
      record {
        within = omega (arith, count, most);
        holds = λ m le. let good = boots_hold bs p m st (omega (arith, le, count)) in record { steps = good.0; looks = good.1 };
        ends = λ m more within good. boots_end bs p m st refl (omega (arith, more, count)) within (good.steps, good.looks);
      }
