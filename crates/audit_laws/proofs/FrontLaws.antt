-- How many first lines of a report are right, and the answer by their number.
use Rattle.std.proofs.Common.{◌≡◌, ℕ, zero, suc, ◌+◌, ◌-◌, ◌<◌, ◌≤◌, Bool, true, false, cond, ltb, ◌==◌, IfSome, Option, Some, None, List, [], ◌∷◌, ◌++◌, length, take, refl, sym, ap, ◌∙◌, subst, arith, take-take, take_all, append-nil}
use Rattle.std.proofs.lemmas.Bool.{false≢true}
use Rattle.std.proofs.lemmas.Bool.Decides.{nat_tests}
use Rattle.task_ast.specs.declared.core_form.Core.{Core}
use Rattle.devices.specs.declared.world.World.{World}
use Rattle.devices.specs.declared.event.RunEnd.{RunEnd}
use Rattle.devices.specs.Journal.{JournalEvent, Boot}
use Rattle.report_text.specs.declared.line.LineText.{LineText}
use Rattle.report_text.specs.declared.line.ReportLine.{ReportLine}
use Rattle.report_text.specs.Events.{style_of, event_in, IsOf}
use Rattle.report_text.specs.Grammar.{IsText, AreLines, IsReport}
use Rattle.report_text.specs.Written.{event_told, boots_told}
use Rattle.audit_check.specs.declared.journal.ReportBoot.{ReportBoot}
use Rattle.audit_check.specs.Journal.{boots_of}
use Rattle.audit_check.specs.Lines.{lines_of, front, Reaches}
use Rattle.audit_check.specs.Allowed.{IsAllowed}
use Rattle.audit_check.specs.Ended.{EndFits, end_fits}
use Rattle.audit_laws.specs.Answers.{end_told, IsFront, Answer, legal, illegal, no_report, IsAnswerOn, IsAnswer}
use Rattle.audit_laws.specs.Gathered.{Gathered, gathered, end_lines, ends_well, right_lines}
use Rattle.audit_laws.specs.Verdict.{Fronts, answer_by}
use Rattle.audit_laws.proofs.EndLaws.{end_holds, end_shown}
use Rattle.audit_laws.proofs.GatheredLaws.{Tells, same_boots, is_least, gathered_tells, first_told, front_named}

-- ---- numbers

below : (n m : ℕ) → ltb n m ≡ true → n < m
below n m is = grind (arith, nat_tests)

above : (n m : ℕ) → ltb n m ≡ false → m ≤ n
above n m is = grind (arith, nat_tests)

are_equal : (a b : ℕ) → (a == b) ≡ true → a ≡ b
are_equal a b h = grind (arith, nat_tests)

are_other : (a b : ℕ) → (a == b) ≡ false → a ≡ b → ⊥
are_other a b h is = grind (arith, nat_tests)

-- all lines of boots, and no more
whole_front : (boots : List Boot) (n : ℕ) → lines_of boots ≤ n → front n boots ≡ boots
whole_front [] zero long = refl
whole_front [] (suc n) long = refl
whole_front (b ∷ boots) zero long = absurd (omega (arith, long))
whole_front (b ∷ boots) (suc n) long =
    λ i. record { begun_at = b.begun_at; events = take_all n b.events (omega (arith, long)) i } ∷ whole_front boots (n - length b.events) (omega (arith, long)) i

module _ (world : World) (c : Core) (given : (e : JournalEvent) → IsOf c e → event_in c (event_told (style_of c) e) ≡ Some e)
    (back : (t : LineText) (e : JournalEvent) → IsText t → event_in c t ≡ Some e → event_told (style_of c) e ≡ t) (whose : (t : LineText) (e : JournalEvent) → event_in c t ≡ Some e → IsOf c e)
    (lines : List ReportLine) (are : AreLines false lines) where
  abbrev G : Gathered
  G = gathered c false 1 lines

  told : Tells c back whose false 1 lines G
  told = gathered_tells c back whose lines false are false 1

  -- no event stands before the first boot
  abbrev L : ℕ
  L = lines_of G.boots

  counted : G.lines ≡ L + end_lines G.ending
  counted = told.count ∙ ap (λ (es : List (ℕ × JournalEvent)). length es + (L + end_lines G.ending)) (told.outside refl) ∙ omega arith

  told_so : take G.lines lines ≡ boots_told (style_of c) 1 G.boots ++ end_told G.ending
  told_so = told.tell ∙ ap (λ es. Rattle.report_text.specs.Written.events_told (style_of c) es ++ (boots_told (style_of c) 1 G.boots ++ end_told G.ending)) (told.outside refl)

  -- the first lines of the boots
  first_tell : (m : ℕ) → m ≤ L → take m lines ≡ boots_told (style_of c) 1 (front m G.boots) ++ end_told None
  first_tell m few =
      sym (take-take m G.lines lines (omega (arith, few, counted))) ∙ ap (take m) told_so ∙ first_told (style_of c) 1 m G.boots (end_told G.ending) few ∙ sym (append-nil (boots_told (style_of c) 1 (front m G.boots)))

  hold_first : (n m : ℕ) → Reaches (IsAllowed c world) G.boots n → m ≤ n → IsFront c world lines m
  hold_first n m reach few = record {
    boots = front m G.boots;
    ending = None;
    tell = first_tell m (omega (arith, few, reach.within));
    named = front_named c m G.boots told.all;
    allowed = reach.holds m few;
    ends = tt;
  }

  -- all of them
  hold_all : (m : ℕ) → m ≡ G.lines → IsAllowed c world G.boots → IfSome G.ending (λ e. EndFits world.power G.boots e.0 e.1) → IsFront c world lines m
  hold_all m is allowed ends = record {
    boots = G.boots;
    ending = G.ending;
    tell = ap (λ m. take m lines) is ∙ told_so;
    named = told.all;
    allowed = allowed;
    ends = ends;
  }

  -- right lines are lines that are gathered
  gathered_few : (m : ℕ) → m ≤ length lines → IsFront c world lines m → m ≤ G.lines
  gathered_few m few at = is_least c given lines false 1 m [] at.boots at.ending few (λ shut. refl) tt at.named at.tell

  -- and the first ones tell the first boots
  end_first : (n m : ℕ) → Reaches (IsAllowed c world) G.boots n → n < m → m ≤ L → IsFront c world lines m → ⊥
  end_first n m reach more few at =
      let same = same_boots c given at.boots (front m G.boots) at.ending None at.named (front_named c m G.boots told.all) (sym at.tell ∙ first_tell m few) in
      reach.ends m more few (subst (IsAllowed c world) same.0 at.allowed)

  -- all of them tell all
  all_told : (m : ℕ) → m ≡ G.lines → IsFront c world lines m → IsAllowed c world G.boots × IfSome G.ending (λ e. EndFits world.power G.boots e.0 e.1)
  all_told m is at =
      let same = same_boots c given at.boots G.boots at.ending G.ending at.named told.all (sym at.tell ∙ ap (λ m. take m lines) is ∙ told_so) in
      (subst (IsAllowed c world) same.0 at.allowed, subst (λ ending. IfSome ending (λ e. EndFits world.power G.boots e.0 e.1)) same.1 (subst (λ boots. IfSome at.ending (λ e. EndFits world.power boots e.0 e.1)) same.0 at.ends))

  module _ (bs : List ReportBoot) (are_these : boots_of bs ≡ G.boots) (n : ℕ) (reach : Reaches (IsAllowed c world) G.boots n) where
    abbrev fits : ℕ × RunEnd → Bool
    fits e = end_fits world.power bs e.0 e.1

    fits_so : (e : ℕ × RunEnd) → fits e ≡ true → EndFits world.power G.boots e.0 e.1
    fits_so e h = subst (λ boots. EndFits world.power boots e.0 e.1) are_these (end_holds world.power bs e.0 e.1 h)

    so_fits : (e : ℕ × RunEnd) → EndFits world.power G.boots e.0 e.1 → fits e ≡ true
    so_fits e at = end_shown world.power bs e.0 e.1 (subst (λ boots. EndFits world.power boots e.0 e.1) (sym are_these) at)

    -- all boots are allowed
    all_allowed : n ≡ L → IsAllowed c world G.boots
    all_allowed all = subst (IsAllowed c world) (whole_front G.boots n (omega (arith, all))) (reach.holds n (omega arith))

    -- with the end, or without it
    by_end : (ending : Option (ℕ × RunEnd)) → G.ending ≡ ending → n ≡ L → Fronts c world lines (L + ends_well ending fits)
    by_end None is all =
        let last : G.lines ≡ L = counted ∙ ap (λ ending. L + end_lines ending) is ∙ omega arith in
        record {
          within = omega (arith, last, told.few);
          holds = λ m few. hold_first n m reach (omega (arith, few, all));
          ends = λ m more few at. let less = gathered_few m few at in omega (arith, less, last, more);
        }
    by_end (Some e) is all = by_fits (fits e) refl
      where
        last : G.lines ≡ L + 1
        last = counted ∙ ap (λ ending. L + end_lines ending) is

        fitting : (ending : Option (ℕ × RunEnd)) → ending ≡ Some e → EndFits world.power G.boots e.0 e.1 → IfSome ending (λ e. EndFits world.power G.boots e.0 e.1)
        fitting ending is at = subst (λ ending. IfSome ending (λ e. EndFits world.power G.boots e.0 e.1)) (sym is) at

        by_line : (m : ℕ) → m ≤ L + 1 → EndFits world.power G.boots e.0 e.1 → (t : Bool) → ltb L m ≡ t → IsFront c world lines m
        by_line m few at true more = hold_all m (let less = below L m more in omega (arith, less, few, last)) (all_allowed all) (fitting G.ending is at)
        by_line m few at false less = hold_first n m reach (let more = above L m less in omega (arith, more, all))

        by_fits : (t : Bool) → fits e ≡ t → Fronts c world lines (L + cond t 1 0)
        by_fits true h = record {
          within = omega (arith, last, told.few);
          holds = λ m few. by_line m few (fits_so e h) (ltb L m) refl;
          ends = λ m more few at. let less = gathered_few m few at in omega (arith, less, last, more);
        }
        by_fits false h = record {
          within = omega (arith, last, told.few);
          holds = λ m few. hold_first n m reach (omega (arith, few, all));
          ends = λ m more few at.
              let less = gathered_few m few at in
              let here : m ≡ G.lines = omega (arith, less, last, more) in
              false≢true (sym h ∙ so_fits e (subst (λ ending. IfSome ending (λ e. EndFits world.power G.boots e.0 e.1)) is (all_told m here at).1));
        }

    fronts_by : (t : Bool) → (n == L) ≡ t → Fronts c world lines (cond t (L + ends_well G.ending fits) n)
    fronts_by true is = by_end G.ending refl (are_equal n L is)
    fronts_by false is = record {
      within = omega (arith, reach.within, counted, told.few);
      holds = λ m few. hold_first n m reach few;
      ends = λ m more few at. by_line m more few at (ltb L m) refl;
    }
      where
        less : n < L
        less = let other = are_other n L is in by_less (ltb n L) refl other
          where
            by_less : (t : Bool) → ltb n L ≡ t → (n ≡ L → ⊥) → n < L
            by_less true is other = below n L is
            by_less false is other = absurd (other (let more = above n L is in omega (arith, more, reach.within)))

        by_line : (m : ℕ) → n < m → m ≤ length lines → IsFront c world lines m → (t : Bool) → ltb L m ≡ t → ⊥
        by_line m more few at true beyond =
            let fewer = gathered_few m few at in
            let past = below L m beyond in
            reach.ends L less (omega arith) (subst (IsAllowed c world) (sym (whole_front G.boots L (omega arith))) (all_told m (one_end G.ending refl m fewer past) at).0)
          where
            one_end : (ending : Option (ℕ × RunEnd)) → G.ending ≡ ending → (m : ℕ) → m ≤ G.lines → L < m → m ≡ G.lines
            one_end None is m fewer past = absurd (let last : G.lines ≡ L = counted ∙ ap (λ ending. L + end_lines ending) is ∙ omega arith in omega (arith, last, fewer, past))
            one_end (Some e) is m fewer past = let last : G.lines ≡ L + 1 = counted ∙ ap (λ ending. L + end_lines ending) is in omega (arith, last, fewer, past)
        by_line m more few at false within = end_first n m reach more (above L m within) at

    -- so many first lines are right, and no more of them
    pub fronts : Fronts c world lines (right_lines n L G.ending fits)
    fronts = fronts_by (n == L) refl

-- by the boots that are gathered
pub fronts_of : (world : World) (c : Core) (given : (e : JournalEvent) → IsOf c e → event_in c (event_told (style_of c) e) ≡ Some e) (back : (t : LineText) (e : JournalEvent) → IsText t → event_in c t ≡ Some e → event_told (style_of c) e ≡ t)
    → (whose : (t : LineText) (e : JournalEvent) → event_in c t ≡ Some e → IsOf c e) (lines : List ReportLine) → AreLines false lines → (bs : List ReportBoot) → boots_of bs ≡ (gathered c false 1 lines).boots
    → (n : ℕ) → Reaches (IsAllowed c world) (boots_of bs) n → Fronts c world lines (right_lines n (lines_of (boots_of bs)) (gathered c false 1 lines).ending (λ e. end_fits world.power bs e.0 e.1))
fronts_of world c given back whose lines are bs these n reach =
    let at = fronts world c given back whose lines are bs these n (subst (λ boots. Reaches (IsAllowed c world) boots n) these reach) in
    subst (λ boots. Fronts c world lines (right_lines n (lines_of boots) (gathered c false 1 lines).ending (λ e. end_fits world.power bs e.0 e.1))) (sym these) at

-- ---- the answer

answers : (c : Core) (world : World) (report : List ℕ) (lines : List ReportLine) (n : ℕ) → IsReport report lines → Fronts c world lines n → (t : Bool) → (n == length lines) ≡ t → IsAnswer c world report (cond t legal (illegal (suc n)))
answers c world report lines n is at true all = (lines, is, at.holds (length lines) (let same = are_equal n (length lines) all in omega (arith, same)))
answers c world report lines n is at false some =
    let other = are_other n (length lines) some in
    let less : suc n ≤ length lines = more_left n (length lines) at.within other in
    (lines, is, record { there = less; wrong = λ front. at.ends (suc n) (omega arith) less front; before = λ m few. at.holds m (omega (arith, few)) })
  where
    more_left : (n m : ℕ) → n ≤ m → (n ≡ m → ⊥) → suc n ≤ m
    more_left n m few other = by_less (ltb n m) refl
      where
        by_less : (t : Bool) → ltb n m ≡ t → suc n ≤ m
        by_less true is = let less = below n m is in omega (arith, less)
        by_less false is = absurd (other (let more = above n m is in omega (arith, more, few)))

pub answer_is : (c : Core) (world : World) (report : List ℕ) (lines : List ReportLine) (n : ℕ) → IsReport report lines → Fronts c world lines n → IsAnswer c world report (answer_by n (length lines))
answer_is c world report lines n is at = answers c world report lines n is at (n == length lines) refl

-- no other answer is one
only_answer : (c : Core) (world : World) (lines : List ReportLine) (n : ℕ) → Fronts c world lines n → (a : Answer) → IsAnswerOn c world lines a → (t : Bool) → (n == length lines) ≡ t → a ≡ cond t legal (illegal (suc n))
only_answer c world lines n at legal right true all = refl
only_answer c world lines n at legal right false some =
    let other = are_other n (length lines) some in
    absurd (at.ends (length lines) (more_right n (length lines) at.within other) (let all : length lines ≤ length lines = omega arith in all) right)
  where
    more_right : (n m : ℕ) → n ≤ m → (n ≡ m → ⊥) → n < m
    more_right n m few other = by_less (ltb n m) refl
      where
        by_less : (t : Bool) → ltb n m ≡ t → n < m
        by_less true is = below n m is
        by_less false is = absurd (other (let more = above n m is in omega (arith, more, few)))
only_answer c world lines n at (illegal k) first t is = by_line (ltb n k) refl
  where
    by_all : (t : Bool) → (n == length lines) ≡ t → n < k → k ≡ suc n → illegal k ≡ cond t legal (illegal (suc n))
    by_all true all more next = let same = are_equal n (length lines) all in absurd (omega (arith, same, more, first.there))
    by_all false some more next = ap illegal next

    next_one : n < k → (t : Bool) → ltb (suc n) k ≡ t → k ≡ suc n
    next_one more true far = let past = below (suc n) k far in absurd (at.ends (suc n) (omega arith) (omega (arith, past, first.there)) (first.before (suc n) past))
    next_one more false near = let few = above (suc n) k near in omega (arith, few, more)

    by_line : (u : Bool) → ltb n k ≡ u → illegal k ≡ cond t legal (illegal (suc n))
    by_line true more = let past = below n k more in by_all t is past (next_one past (ltb (suc n) k) refl)
    by_line false few = absurd (first.wrong (at.holds k (above n k few)))
only_answer c world lines n at (no_report k) none t is = absurd none

pub answer_only : (c : Core) (world : World) (lines : List ReportLine) (n : ℕ) → Fronts c world lines n → (a : Answer) → IsAnswerOn c world lines a → a ≡ answer_by n (length lines)
answer_only c world lines n at a is = only_answer c world lines n at a is (n == length lines) refl
