-- The lines that a walk goes along are those that the rules allow, and no more.
use Rattle.std.proofs.Common.{◌≡◌, ℕ, zero, suc, ◌+◌, ◌-◌, ◌<◌, ◌≤◌, Bool, true, false, nat_le, List, [], ◌∷◌, ◌++◌, length, take, drop, map, refl, sym, ap, ◌∙◌, subst, arith, not-suc-le-zero, length-take-le, length-drop, take_all}
use Rattle.std.proofs.lemmas.Bool.Decides.{nat_tests}
use Rattle.task_ast.specs.declared.core_form.Core.{Core}
use Rattle.task_ast.specs.WellFormed.{IsWellFormed}
use Rattle.devices.specs.declared.world.World.{World}
use Rattle.devices.specs.Journal.{JournalEvent}
use Rattle.task_attempts.specs.State.{Rules, Standing}
use Rattle.task_attempts.specs.Boots.{rules_of, attempts_log, booted, boot_log, after, cut_boot, left_by, boots_from, events_in}
use Rattle.task_attempts.proofs.AttemptLaws.{longer_boot}
use Rattle.audit_check.specs.declared.around.Around.{Around}
use Rattle.audit_check.specs.declared.journal.TimedEvent.{TimedEvent}
use Rattle.audit_check.specs.declared.journal.ReportBoot.{ReportBoot}
use Rattle.audit_check.specs.Leads.{Awaited, Reached, relooked}
use Rattle.audit_check.specs.Walking.{Walking}
use Rattle.audit_check.specs.Booted.{boot_walked}
use Rattle.audit_check.specs.Tracks.{events, Knows, from_here}
use Rattle.audit_laws.specs.Right.{AreAround}
use Rattle.audit_laws.specs.Stops.{Stops}
use Rattle.audit_laws.specs.Expected.{Events, times_in, all_times, AreExpected, lines_in, first_lines}
use Rattle.audit_laws.specs.Followed.{followed_by, followed, told}
use Rattle.audit_laws.proofs.LogLaws.{shows_first, behind_them, differs_behind}
use Rattle.audit_laws.proofs.BootWalks.{boot_tracks}

-- ---- lists

-- the first of some boots, and what comes behind it
abbrev head : Events → List JournalEvent
head [] = []
head (es ∷ boots) = es

abbrev behind : Events → Events
behind [] = []
behind (es ∷ boots) = boots

within : (n m : ℕ) → nat_le n m ≡ true → n ≤ m
within n m test = grind (arith, nat_tests)

beyond : (n m : ℕ) → nat_le n m ≡ false → m < n
beyond n m test = grind (arith, nat_tests)

pub length_events : (xs : List TimedEvent) → length (events xs) ≡ length xs
length_events [] = refl
length_events (x ∷ xs) = ap suc (length_events xs)

-- some first boots have no more lines than all
no_lines : (n : ℕ) (boots : Events) → n ≡ 0 → first_lines n boots ≡ []
no_lines n boots none = ap (λ n. first_lines n boots) none

module _ (rules : Rules) where
  -- no boots are expected from everywhere
  none_expected : (s : Standing) → AreExpected rules s []
  unfolding boots_from
  none_expected s = refl

  -- a boot, and those behind it from where it leads
  abbrev IsHead : Standing → List JournalEvent → (others : List ℕ) → Type 0
  IsHead s es others = events_in (cut_boot rules (length es) (relooked (times_in es ++ others) s)) ≡ es

  pub one_more : (s t : Standing) (es : List JournalEvent) (boots : Events) → IsHead s es (all_times boots) → left_by rules (length es) (relooked (times_in es ++ all_times boots) s) ≡ relooked (all_times boots) t
      → AreExpected rules t boots → AreExpected rules s (es ∷ boots)
  unfolding boots_from
  one_more s t es boots first left rest =
      λ i. sym first i ∷ (rest ∙ ap (λ s. map events_in (boots_from rules (map length boots) s)) (sym left)) i

  pub just_one : (s : Standing) (es : List JournalEvent) → IsHead s es [] → AreExpected rules s (es ∷ [])
  unfolding boots_from
  just_one s es first = λ i. sym first i ∷ []

  pub head_of : (s : Standing) (es : List JournalEvent) (boots : Events) → AreExpected rules s (es ∷ boots) → IsHead s es (all_times boots)
  unfolding boots_from
  head_of s es boots are = sym (ap head are)

  pub rest_of : (s t : Standing) (es : List JournalEvent) (boots : Events) → left_by rules (length es) (relooked (times_in es ++ all_times boots) s) ≡ relooked (all_times boots) t
      → AreExpected rules s (es ∷ boots) → AreExpected rules t boots
  unfolding boots_from
  rest_of s t es boots left are = ap behind are ∙ ap (λ s. map events_in (boots_from rules (map length boots) s)) left

  -- ---- one boot, by the log of more attempts than it has events

  abbrev log_from : (attempts : ℕ) → Standing → Awaited
  log_from n s = from_here (attempts_log rules n) (booted rules s)

  cut_is : (n k : ℕ) (s : Standing) (times : List ℕ) → k ≤ n → take k (log_from n s times) ≡ cut_boot rules k (relooked times s)
  unfolding boot_log
  cut_is n k s times few = longer_boot rules k n (relooked times s) few

module _ (world : World) (c : Core) (tasks : List Around) (well : IsWellFormed c) (right : AreAround c tasks) where
  abbrev R : Rules
  R = rules_of c world

  -- what a walk of a boot says of the rules: how many of its events are theirs, and what is known behind them
  record Walks (b : ReportBoot) (s : Standing) (v : Walking) : Type 0 where
    count : ℕ
    left : drop count (events b.events) ≡ events v.rest
    few : count ≤ length b.events
    standing : Standing
    knows : Knows world.feeds v standing
    heads : (k : ℕ) (others : List ℕ) → k ≤ count → IsHead R s (take k (events b.events)) others
    leads : (others : List ℕ) → left_by R count (relooked (times_in (take count (events b.events)) ++ others) s) ≡ relooked others standing
    ends : (k : ℕ) (others : List ℕ) → count < k → k ≤ length b.events → IsHead R s (take k (events b.events)) others → ⊥

  walks : (b : ReportBoot) (w : Walking) (s : Standing) → Knows world.feeds w s → Walks b s (boot_walked tasks b w)
  walks b w s knows =
      let es = events b.events in
      let n = length b.events in
      let v = boot_walked tasks b w in
      let long : length es ≡ n = length_events b.events in
      let f = log_from R n s in
      let at : Reached es s f (Stops world.feeds v) = boot_tracks world c tasks well right b w s knows in
      let behind = behind_them at.0 es s f (Stops world.feeds v) at.1 in
      let few : at.0 ≤ n = omega (arith, behind.few, long) in
      let cut : (k : ℕ) (times : List ℕ) → k ≤ n → cut_boot R (length (take k es)) (relooked times s) ≡ take k (f times) =
      λ k times le. let as_many : length (take k es) ≡ k = length-take-le k es (omega (arith, le, long)) in
      ap (λ k. cut_boot R k (relooked times s)) as_many ∙ sym (cut_is R n k s times le) in
      record {
        count = at.0;
        left = behind.ends.0;
        few = few;
        standing = behind.standing;
        knows = behind.ends.1;
        heads = λ k others le. ap events_in (cut k (times_in (take k es) ++ others) (omega (arith, le, few))) ∙ shows_first at.0 es s f (Stops world.feeds v) at.1 k le others;
        leads = λ others. let times = times_in (take at.0 es) ++ others in
            ap (after (relooked times s)) (sym (cut_is R n at.0 s times few)) ∙ behind.leaves others;
        ends = λ k others more le is. differs_behind at.0 es s f (Stops world.feeds v) at.1 (λ es s f at. at.2) k more (omega (arith, le, long)) others
            (sym (ap events_in (cut k (times_in (take k es) ++ others) le)) ∙ is);
      }

  -- how many events are left
  count_left : (b : ReportBoot) (s : Standing) (v : Walking) (walk : Walks b s v) → walk.count + length v.rest ≡ length b.events
  count_left b s v walk =
      let long = length_events b.events in
      let there = length_events v.rest in
      let less : length (drop walk.count (events b.events)) ≡ length (events b.events) - walk.count = length-drop walk.count (events b.events) in
      let same = ap length walk.left in
      omega (arith, long, there, less, same, walk.few)

  -- ---- they hold

  abbrev Holds : List ReportBoot → Type 0
  Holds bs = (w : Walking) (s : Standing) (m : ℕ) → Knows world.feeds w s → m ≤ followed tasks bs w → AreExpected R s (first_lines m (told bs))

  -- the first lines of one boot
  hold_part : (b : ReportBoot) (bs : List ReportBoot) (s : Standing) (v : Walking) (walk : Walks b s v) (k : ℕ) → k ≤ walk.count → AreExpected R s (take k (events b.events) ∷ first_lines (k - length (events b.events)) (told bs))
  hold_part b bs s v walk k le =
      let none : k - length (events b.events) ≡ 0 = omega (arith, le, walk.few, length_events b.events) in
      subst (λ (boots : Events). AreExpected R s (take k (events b.events) ∷ boots)) (sym (no_lines _ (told bs) none)) (just_one R s (take k (events b.events)) (walk.heads k [] le))

  -- a whole boot, and lines behind it
  hold_whole : (b : ReportBoot) (bs : List ReportBoot) (s : Standing) (v : Walking) (walk : Walks b s v) (k : ℕ) → walk.count ≡ length b.events → length b.events ≤ k
      → AreExpected R walk.standing (first_lines (k - length (events b.events)) (told bs)) → AreExpected R s (take k (events b.events) ∷ first_lines (k - length (events b.events)) (told bs))
  hold_whole b bs s v walk k all long rest =
      let es = events b.events in
      let boots = first_lines (k - length es) (told bs) in
      let same : take walk.count es ≡ take k es =
      take_all walk.count es (omega (arith, all, length_events b.events)) ∙ sym (take_all k es (omega (arith, long, length_events b.events))) in
      let as_many : length (take k es) ≡ walk.count = ap length (sym same) ∙ length-take-le walk.count es (omega (arith, all, length_events b.events)) in
      let left : left_by R (length (take k es)) (relooked (times_in (take k es) ++ all_times boots) s) ≡ relooked (all_times boots) walk.standing =
      (λ i. left_by R (as_many i) (relooked (times_in (sym same i) ++ all_times boots) s)) ∙ walk.leads (all_times boots) in
      one_more R s walk.standing (take k es) boots (subst (λ es. IsHead R s es (all_times boots)) same (walk.heads walk.count (all_times boots) (omega arith))) left rest

  hold_test : (b : ReportBoot) (bs : List ReportBoot) (s : Standing) (v : Walking) (walk : Walks b s v) (k : ℕ) (short : Bool) → nat_le k (length b.events) ≡ short → walk.count ≡ length b.events
      → k ≤ length b.events + followed tasks bs v → Holds bs → AreExpected R s (take k (events b.events) ∷ first_lines (k - length (events b.events)) (told bs))
  hold_test b bs s v walk k true test all le more = hold_part b bs s v walk k (omega (arith, within k (length b.events) test, all))
  hold_test b bs s v walk k false test all le more =
      let long = beyond k (length b.events) test in
      hold_whole b bs s v walk k all (omega (arith, long)) (more v walk.standing (k - length (events b.events)) walk.knows (omega (arith, le, long, length_events b.events)))

  hold_by : (b : ReportBoot) (bs : List ReportBoot) (s : Standing) (v : Walking) (walk : Walks b s v) (k : ℕ) (left : List TimedEvent) → v.rest ≡ left → suc k ≤ followed_by (length b.events) left (followed tasks bs v) → Holds bs
      → AreExpected R s (take k (events b.events) ∷ first_lines (k - length (events b.events)) (told bs))
  hold_by b bs s v walk k [] is le more =
      let none : length v.rest ≡ 0 = ap length is in
      hold_test b bs s v walk k (nat_le k (length b.events)) refl (omega (arith, none, count_left b s v walk)) (omega (arith, le)) more
  hold_by b bs s v walk k (e ∷ es) is le more =
      let some : length v.rest ≡ suc (length es) = ap length is in
      hold_part b bs s v walk k (omega (arith, some, le, count_left b s v walk))

  pub lines_hold : (bs : List ReportBoot) → Holds bs
  lines_hold bs w s zero knows le = none_expected R s
  lines_hold [] w s (suc k) knows le = absurd (not-suc-le-zero le)
  lines_hold (b ∷ bs) w s (suc k) knows le =
      let v = boot_walked tasks b w in
      hold_by b bs s v (walks b w s knows) k v.rest refl le (λ w s m knows le. lines_hold bs w s m knows le)

  -- ---- and no more of them

  abbrev Ends : List ReportBoot → Type 0
  Ends bs = (w : Walking) (s : Standing) (m : ℕ) → Knows world.feeds w s → followed tasks bs w < m → m ≤ lines_in (told bs) → AreExpected R s (first_lines m (told bs)) → ⊥

  -- a part of a boot that isn't expected, or a whole one that isn't
  end_part : (b : ReportBoot) (boots : Events) (s : Standing) (v : Walking) (walk : Walks b s v) (k : ℕ) (short : Bool) → nat_le k (length b.events) ≡ short → walk.count < k → walk.count < length b.events
      → AreExpected R s (take k (events b.events) ∷ boots) → ⊥
  end_part b boots s v walk k true test more some are =
      walk.ends k (all_times boots) more (within k (length b.events) test) (head_of R s (take k (events b.events)) boots are)
  end_part b boots s v walk k false test more some are =
      let es = events b.events in
      let n = length b.events in
      let same : take k es ≡ take n es = take_all k es (omega (arith, beyond k n test, length_events b.events)) ∙ sym (take_all n es (omega (arith, length_events b.events))) in
      walk.ends n (all_times boots) some (omega arith) (subst (λ es. IsHead R s es (all_times boots)) same (head_of R s (take k es) boots are))

  end_whole : (b : ReportBoot) (bs : List ReportBoot) (s : Standing) (v : Walking) (walk : Walks b s v) (k : ℕ) → walk.count ≡ length b.events → length b.events ≤ k
      → AreExpected R s (take k (events b.events) ∷ first_lines (k - length (events b.events)) (told bs)) → AreExpected R walk.standing (first_lines (k - length (events b.events)) (told bs))
  end_whole b bs s v walk k all long are =
      let es = events b.events in
      let boots = first_lines (k - length es) (told bs) in
      let same : take walk.count es ≡ take k es =
      take_all walk.count es (omega (arith, all, length_events b.events)) ∙ sym (take_all k es (omega (arith, long, length_events b.events))) in
      let as_many : length (take k es) ≡ walk.count = ap length (sym same) ∙ length-take-le walk.count es (omega (arith, all, length_events b.events)) in
      let left : left_by R (length (take k es)) (relooked (times_in (take k es) ++ all_times boots) s) ≡ relooked (all_times boots) walk.standing =
      (λ i. left_by R (as_many i) (relooked (times_in (sym same i) ++ all_times boots) s)) ∙ walk.leads (all_times boots) in
      rest_of R s walk.standing (take k es) boots left are

  end_by : (b : ReportBoot) (bs : List ReportBoot) (s : Standing) (v : Walking) (walk : Walks b s v) (k : ℕ) (left : List TimedEvent) → v.rest ≡ left → followed_by (length b.events) left (followed tasks bs v) < suc k
      → k ≤ length (events b.events) + lines_in (told bs) → AreExpected R s (take k (events b.events) ∷ first_lines (k - length (events b.events)) (told bs)) → Ends bs → ⊥
  end_by b bs s v walk k [] is more le are go =
      let none : length v.rest ≡ 0 = ap length is in
      let all : walk.count ≡ length b.events = omega (arith, none, count_left b s v walk) in
      go v walk.standing (k - length (events b.events)) walk.knows (omega (arith, more, length_events b.events)) (omega (arith, le, more, length_events b.events))
      (end_whole b bs s v walk k all (omega (arith, more)) are)
  end_by b bs s v walk k (e ∷ es) is more le are go =
      let some : length v.rest ≡ suc (length es) = ap length is in
      let there = count_left b s v walk in
      end_part b (first_lines (k - length (events b.events)) (told bs)) s v walk k (nat_le k (length b.events)) refl (omega (arith, some, more, there)) (omega (arith, some, there)) are

  pub lines_end : (bs : List ReportBoot) → Ends bs
  lines_end bs w s zero knows more le are = absurd (not-suc-le-zero more)
  lines_end [] w s (suc k) knows more le are = absurd (not-suc-le-zero le)
  lines_end (b ∷ bs) w s (suc k) knows more le are =
      let v = boot_walked tasks b w in
      end_by b bs s v (walks b w s knows) k v.rest refl more (omega (arith, le)) are (λ w s m knows more le are. lines_end bs w s m knows more le are)

  -- ---- they are no more than there are

  followed_few : (n : ℕ) (left : List TimedEvent) (rest more : ℕ) → rest ≤ more → followed_by n left rest ≤ suc n + more
  followed_few n [] rest more few = omega (arith, few)
  followed_few n (e ∷ es) rest more few = omega arith

  pub lines_few : (bs : List ReportBoot) (w : Walking) → followed tasks bs w ≤ lines_in (told bs)
  lines_few [] w = omega arith
  lines_few (b ∷ bs) w =
      let v = boot_walked tasks b w in
      let few = followed_few (length b.events) v.rest (followed tasks bs v) (lines_in (told bs)) (lines_few bs v) in
      omega (arith, few, length_events b.events)
