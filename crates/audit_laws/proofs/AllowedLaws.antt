-- How far a journal is allowed: as far as its steps and looks fit the world, and its events are those of the rules.
use Rattle.std.proofs.Common.{◌≡◌, ℕ, zero, suc, ◌+◌, ◌-◌, ◌<◌, ◌≤◌, min, Bool, true, false, cond, ltb, List, [], ◌∷◌, ◌++◌, length, map, flat_map, replicate, Option, None, slice_index_or, refl, sym, ap, ◌∙◌, subst, arith}
use Rattle.std.proofs.lemmas.List.{take-map}
use Rattle.std.proofs.lemmas.Bool.Decides.{nat_tests}
use Rattle.task_ast.specs.declared.core_form.Core.{Core}
use Rattle.task_ast.specs.WellFormed.{IsWellFormed}
use Rattle.devices.specs.declared.world.World.{World}
use Rattle.devices.specs.declared.world.Feed.{Feed}
use Rattle.devices.specs.Journal.{JournalEvent, Boot}
use Rattle.task_attempts.specs.State.{start}
use Rattle.task_attempts.specs.Boots.{rules_of, boots_from, events_in}
use Rattle.task_attempts.specs.Journals.{events_of, look_time}
use Rattle.audit_check.specs.declared.around.Around.{Around}
use Rattle.audit_check.specs.declared.journal.TimedEvent.{TimedEvent}
use Rattle.audit_check.specs.declared.journal.ReportBoot.{ReportBoot}
use Rattle.audit_check.specs.declared.walking.Kept.{Kept}
use Rattle.audit_check.specs.Journal.{timed_of, boots_of}
use Rattle.audit_check.specs.Lines.{lines_of, front, Reaches}
use Rattle.audit_check.specs.Fits.{BootsFitWorld}
use Rattle.audit_check.specs.Fitting.{capped}
use Rattle.audit_check.specs.Allowed.{IsAllowed}
use Rattle.audit_check.specs.Leads.{relooked}
use Rattle.audit_check.specs.Walking.{Walking}
use Rattle.audit_check.specs.Booted.{boot_walked, are_left, Booted, behind_boot, booted_by, all_walked, unwalked, unbooted, journal_walked}
use Rattle.audit_check.specs.Tracks.{events, Knows}
use Rattle.audit_check.proofs.FittingLaws.{capped_is}
use Rattle.audit_laws.specs.Right.{AreAround}
use Rattle.audit_laws.specs.Expected.{all_times, AreExpected, lines_in, first_lines, IsExpected}
use Rattle.audit_laws.specs.Followed.{followed_by, followed, told}
use Rattle.audit_laws.proofs.JournalLaws.{length_events, lines_hold, lines_end, lines_few}

-- ---- boots by their events

length_seen : (es : List (ℕ × JournalEvent)) → length (map (λ e. e.1) es) ≡ length es
length_seen [] = refl
length_seen (e ∷ es) = ap suc (length_seen es)

cuts_are : (boots : List Boot) → map (λ b. length b.events) boots ≡ map length (map events_of boots)
cuts_are [] = refl
cuts_are (b ∷ boots) = λ i. sym (length_seen b.events) i ∷ cuts_are boots i

times_are : (boots : List Boot) → flat_map (λ b. flat_map look_time (events_of b)) boots ≡ all_times (map events_of boots)
times_are [] = refl
times_are (b ∷ boots) = ap (λ (times : List ℕ). flat_map look_time (events_of b) ++ times) (times_are boots)

front_is : (n : ℕ) (boots : List Boot) → map events_of (front n boots) ≡ first_lines n (map events_of boots)
front_is zero boots = refl
front_is (suc n) [] = refl
front_is (suc n) (b ∷ boots) =
    λ i. sym (take-map (λ e. e.1) n b.events) i ∷ (front_is (n - length b.events) boots ∙ ap (λ k. first_lines (n - k) (map events_of boots)) (sym (length_seen b.events))) i

lines_are : (boots : List Boot) → lines_of boots ≡ lines_in (map events_of boots)
lines_are [] = refl
lines_are (b ∷ boots) = λ i. suc (sym (length_seen b.events) i) + lines_are boots i

events_are : (es : List TimedEvent) → map (λ e. e.1) (map timed_of es) ≡ events es
events_are [] = refl
events_are (e ∷ es) = λ i. (timed_of e).1 ∷ events_are es i

told_is : (bs : List ReportBoot) → map events_of (boots_of bs) ≡ told bs
told_is [] = refl
told_is (b ∷ bs) = λ i. events_are b.events i ∷ told_is bs i

-- what the rules give for boots is what they give for their events
expected_is : (c : Core) (world : World) (boots : List Boot) → IsExpected (rules_of c world) boots ≡ AreExpected (rules_of c world) (start c []) (map events_of boots)
expected_is c world boots = λ i. map events_of boots ≡ map events_in (boots_from (rules_of c world) (cuts_are boots i) (relooked (times_are boots i) (start c [])))

-- ---- before the first boot

index_replicate : {A : Type 0} (x : A) (n k : ℕ) → slice_index_or (replicate n x) k x ≡ x
index_replicate x zero k = refl
index_replicate x (suc n) zero = refl
index_replicate x (suc n) (suc k) = index_replicate x n k

none_of : (n : ℕ) → 0 ≡ min 0 n
none_of n = omega arith

knows_nothing : (c : Core) (feeds : List Feed) → Knows feeds (unwalked c feeds) (start c [])
knows_nothing c feeds = record {
  readings = refl;
  committed = refl;
  next = refl;
  sites = refl;
  records = λ k few. index_replicate {A = Option Kept} None 129 k;
  peripherals = refl;
  issued = λ p few. index_replicate 0 256 p ∙ none_of _;
}

-- ---- two claims at once

below : (n m : ℕ) → ltb n m ≡ true → n < m
below n m is = grind (arith, nat_tests)

above : (n m : ℕ) → ltb n m ≡ false → m ≤ n
above n m is = grind (arith, nat_tests)

-- what is more than the lesser of two is more than one of them
more_than_one : (n k m : ℕ) (t : Bool) → ltb n m ≡ t → min n k < m → (n < m → ⊥) → (k < m → ⊥) → ⊥
more_than_one n k m true is more first second = first (below n m is)
more_than_one n k m false is more first second = second (omega (arith, more, above n m is))

pub both_reach : (P Q A : List Boot → Type 0) (boots : List Boot) (n k : ℕ) → ((boots : List Boot) → P boots → Q boots → A boots) → ((boots : List Boot) → A boots → P boots × Q boots) → Reaches P boots n → Reaches Q boots k → Reaches A boots (min n k)
both_reach P Q A boots n k join part one other = record {
  within = omega (arith, one.within);
  holds = λ m le. join (front m boots) (one.holds m (omega (arith, le))) (other.holds m (omega (arith, le)));
  ends = λ m more le at. more_than_one n k m (ltb n m) refl more (λ more. one.ends m more le (part (front m boots) at).0) (λ more. other.ends m more le (part (front m boots) at).1);
}

-- ---- the lines of the walk

module _ (tasks : List Around) where
  over_stays : (bs : List ReportBoot) (r : Booted) → r.over ≡ true → (all_walked tasks r bs).lines ≡ r.lines
  over_stays [] r over = refl
  over_stays (b ∷ bs) r over =
      let stays : booted_by tasks r b ≡ r = ap (λ t. cond t r (behind_boot r.lines b (boot_walked tasks b r.walking))) over in
      ap (λ r. (all_walked tasks r bs).lines) stays ∙ over_stays bs r over

  abbrev Counted : List ReportBoot → Type 0
  Counted bs = (r : Booted) → r.over ≡ false → r.lines + lines_in (told bs) ≤ 18446744073709551615 → (all_walked tasks r bs).lines ≡ r.lines + followed tasks bs r.walking

  count_by : (b : ReportBoot) (bs : List ReportBoot) (lines : ℕ) (v : Walking) (left : List TimedEvent) → v.rest ≡ left → lines + (suc (length (events b.events)) + lines_in (told bs)) ≤ 18446744073709551615 → Counted bs
      → (all_walked tasks (behind_boot lines b v) bs).lines ≡ lines + followed_by (length b.events) left (followed tasks bs v)
  count_by b bs lines v [] is few more =
      let n = length_events b.events in
      let none : length v.rest ≡ 0 = ap length is in
      let one : capped (lines + 1) ≡ lines + 1 = capped_is (lines + 1) (omega (arith, few)) in
      let all : capped (capped (lines + 1) + (length b.events - length v.rest)) ≡ lines + 1 + length b.events =
      ap (λ k. capped (k + (length b.events - length v.rest))) one ∙ capped_is (lines + 1 + (length b.events - length v.rest)) (omega (arith, few, n)) ∙ omega (arith, none) in
      more (behind_boot lines b v) (ap are_left is) (omega (arith, all, few, n)) ∙ omega (arith, all)
  count_by b bs lines v (e ∷ es) is few more =
      let n = length_events b.events in
      let some : length v.rest ≡ suc (length es) = ap length is in
      let one : capped (lines + 1) ≡ lines + 1 = capped_is (lines + 1) (omega (arith, few)) in
      let all : capped (capped (lines + 1) + (length b.events - length v.rest)) ≡ lines + 1 + (length b.events - length v.rest) =
      ap (λ k. capped (k + (length b.events - length v.rest))) one ∙ capped_is (lines + 1 + (length b.events - length v.rest)) (omega (arith, few, n)) in
      over_stays bs (behind_boot lines b v) (ap are_left is) ∙ omega (arith, all, some)

  count_boot : (b : ReportBoot) (bs : List ReportBoot) (r : Booted) → r.over ≡ false → r.lines + (suc (length (events b.events)) + lines_in (told bs)) ≤ 18446744073709551615 → Counted bs
      → (all_walked tasks (booted_by tasks r b) bs).lines ≡ r.lines + followed tasks (b ∷ bs) r.walking
  count_boot b bs r on few more =
      let v = boot_walked tasks b r.walking in
      let goes : booted_by tasks r b ≡ behind_boot r.lines b v = ap (λ t. cond t r (behind_boot r.lines b v)) on in
      ap (λ r. (all_walked tasks r bs).lines) goes ∙ count_by b bs r.lines v v.rest refl few more

  lines_counted : (bs : List ReportBoot) → Counted bs
  lines_counted [] r on few = omega arith
  lines_counted (b ∷ bs) r on few = count_boot b bs r on few (λ r on few. lines_counted bs r on few)

-- ---- all of it

module _ (world : World) (c : Core) (tasks : List Around) (well : IsWellFormed c) (right : AreAround c tasks) where
  rules_reach : (bs : List ReportBoot) → Reaches (IsExpected (rules_of c world)) (boots_of bs) (followed tasks bs (unwalked c world.feeds))
  rules_reach bs =
      let w = unwalked c world.feeds in
      let nothing = knows_nothing c world.feeds in
      let lines : lines_of (boots_of bs) ≡ lines_in (told bs) = lines_are (boots_of bs) ∙ ap lines_in (told_is bs) in
      let same : (m : ℕ) → IsExpected (rules_of c world) (front m (boots_of bs)) ≡ AreExpected (rules_of c world) (start c []) (first_lines m (told bs)) =
      λ m. expected_is c world (front m (boots_of bs)) ∙ ap (AreExpected (rules_of c world) (start c [])) (front_is m (boots_of bs) ∙ ap (first_lines m) (told_is bs)) in
      record {
        within = omega (arith, lines, lines_few world c tasks well right bs w);
        holds = λ m le. subst (λ T. T) (sym (same m)) (lines_hold world c tasks well right bs w (start c []) m nothing le);
        ends = λ m more le at. lines_end world c tasks well right bs w (start c []) m nothing more (omega (arith, le, lines)) (subst (λ T. T) (same m) at);
      }

  -- The lines that fit the world and that the walk goes along, of which there are so many, are the first lines that are allowed.
  pub allowed_reach : (bs : List ReportBoot) (n : ℕ) → lines_of (boots_of bs) ≤ 4294967295 → Reaches (BootsFitWorld world) (boots_of bs) n
      → Reaches (IsAllowed c world) (boots_of bs) (min n (journal_walked tasks c world.feeds bs).lines)
  allowed_reach bs n few fits =
      let w = unwalked c world.feeds in
      let lines : lines_of (boots_of bs) ≡ lines_in (told bs) = lines_are (boots_of bs) ∙ ap lines_in (told_is bs) in
      let counted : (journal_walked tasks c world.feeds bs).lines ≡ followed tasks bs w = lines_counted tasks bs (unbooted c world.feeds) refl (omega (arith, few, lines)) ∙ omega arith in
      subst (λ k. Reaches (IsAllowed c world) (boots_of bs) (min n k)) (sym counted)
      (both_reach (BootsFitWorld world) (IsExpected (rules_of c world)) (IsAllowed c world) (boots_of bs) n (followed tasks bs w)
      (λ boots fit follow. record { legal = record { expected = follow; timed = fit.looks }; steps = fit.steps })
      (λ boots at. (record { steps = at.steps; looks = at.legal.timed }, at.legal.expected))
      fits (rules_reach bs))
