-- Each event of a boot's steps has its number at most at the weights of the plan's event, since the act that is in progress has
-- begun; and so an event comes within the steps that the rules allow.
use Rattle.std.specs.Prelude.{⊤, map}
use Rattle.std.proofs.Common.{◌≡◌, ◌∙◌, ℕ, zero, suc, ◌+◌, ◌<◌, ◌≤◌, List, [], ◌∷◌, ◌++◌, length, take, refl, sym, ap, subst, append_assoc, append-nil, length-append, arith}
use Rattle.devices.specs.Journal.{JournalEvent, Place}
use Rattle.task_ast.specs.declared.core_form.Core.{Core}
use Rattle.word_isa.specs.declared.parts.Scheme.{Scheme}
use Rattle.task_attempts.specs.State.{Log}
use Rattle.task_attempts.specs.Sound.{AreInTime}
use Rattle.word_machine.specs.Runs.{journal_event, numbered}
use Rattle.word_machine.specs.State as machine
use Rattle.word_machine.specs.State.{Program}
use Rattle.word_machine.specs.Step.{exec, step}
use Rattle.word_machine.specs.Straight.{Spot, live}
use Rattle.run_plan.specs.Cells.{State}
use Rattle.run_plan.specs.Runs.{Smalls, event_weights, shown_events}
use Rattle.run_plan.specs.Sound.{Within}
use Rattle.code_cuts.specs.Runs.{Cut}
use Rattle.power_runs.specs.Due.{HaltsUnmarked}
use Rattle.power_runs.specs.Journals.{events_seen, tells_in, unnumbered}
use Rattle.timely_events.proofs.Fronts.{Rises, AreLate, weights_more, as_many, rest_late}
use Rattle.timely_events.proofs.Seen.{smalls_told}

-- ---- the last step's events

numbered_last : (place_of : ℕ → Place) (p : Program) (n before : ℕ) (e : machine.State)
    → numbered place_of p before (suc n) e ≡ numbered place_of p before n e ++ map (λ x. (suc (before + n), x)) (journal_event place_of p (exec p n e))
unfolding numbered exec
numbered_last place_of p zero before e =
    let e0 : before ≡ before + 0 = omega arith in
    append-nil _ ∙ ap (λ k. map (λ x. (suc k, x)) (journal_event place_of p e)) e0
numbered_last place_of p (suc n) before e =
    let e0 : suc before + n ≡ before + suc n = omega arith in
    ap (λ es. map (λ x. (suc before, x)) (journal_event place_of p e) ++ es) (numbered_last place_of p n (suc before) (step p e) ∙ ap (λ k. numbered place_of p (suc before) n (step p e) ++ map (λ x. (suc k, x)) (journal_event place_of p (exec p n (step p e)))) e0)
    ∙ sym (append_assoc (map (λ x. (suc before, x)) (journal_event place_of p e)) (numbered place_of p (suc before) n (step p e)) (map (λ x. (suc (before + suc n), x)) (journal_event place_of p (exec p n (step p e)))))

-- ---- numbers and weights

-- each event's number is at most at its weights, from a boot's beginning
abbrev pub AreEarly : (before : ℕ) → List (ℕ × JournalEvent) → List ℕ → Type 0
AreEarly before [] ws = ⊤
AreEarly before (e ∷ es) [] = ⊥
AreEarly before (e ∷ es) (w ∷ ws) = (e.0 ≤ before + w) × AreEarly before es ws

-- events of one step behind others
new_early : (before n number : ℕ) → number ≤ before + n → (js : List JournalEvent) (rw : List ℕ) → AreLate n rw → length js ≤ length rw → AreEarly before (map (λ x. (number, x)) js) rw
new_early before n number less [] rw late few = tt
new_early before n number less (j ∷ js) [] late few = absurd (omega (arith, few))
new_early before n number less (j ∷ js) (w ∷ rw) late few = (omega (arith, less, late.0), new_early before n number less js rw late.1 (omega (arith, few)))

more_early : (before n number : ℕ) → number ≤ before + n → (js : List JournalEvent) (es : List (ℕ × JournalEvent)) (fw rw : List ℕ) → length es ≡ length fw → AreLate n rw → length js ≤ length rw
    → AreEarly before es (fw ++ rw) → AreEarly before (es ++ map (λ x. (number, x)) js) (fw ++ rw)
more_early before n number less js [] [] rw same late few h = new_early before n number less js rw late few
more_early before n number less js [] (w ∷ fw) rw same late few h = absurd (omega (arith, same))
more_early before n number less js (e ∷ es) [] rw same late few h = absurd (omega (arith, same))
more_early before n number less js (e ∷ es) (w ∷ fw) rw same late few h = (h.0, more_early before n number less js es fw rw (omega (arith, same)) late few h.1)

-- ---- a boot, step by step

map_long : {A B : Type 0} (f : A → B) (xs : List A) → length (map f xs) ≡ length xs
map_long f [] = refl
map_long f (x ∷ xs) = ap suc (map_long f xs)

module _ (p : Program) (place_of : ℕ → Place) (unmarked : HaltsUnmarked p) (c : Core) (scheme : Scheme) (Stood : machine.State → State → Type 0) (m : Spot) (s : State) where
  abbrev pub CutAt : ℕ → Smalls → Type 0
  CutAt n xs = Cut p place_of c scheme Stood n 0 m s xs

  -- a boot's events are those of a front
  pub events_are : (before n : ℕ) (xs : Smalls) (cut : CutAt n xs) → unnumbered (numbered place_of p before n (live m)) ≡ shown_events cut.front
  events_are before n xs cut = events_seen p place_of unmarked before n (live m) refl ∙ ap tells_in cut.shown ∙ smalls_told c scheme cut.front s

  -- and as many
  pub as_long : (before n : ℕ) (xs : Smalls) (cut : CutAt n xs) → length (numbered place_of p before n (live m)) ≡ length (event_weights cut.front)
  as_long before n xs cut = sym (map_long (λ e. e.1) (numbered place_of p before n (live m))) ∙ ap length (events_are before n xs cut) ∙ sym (as_many cut.front)

  pub boot_early : (before w : ℕ) (xs : Smalls) → Rises w xs → (n : ℕ) → ((k : ℕ) → k ≤ n → CutAt k xs) → AreEarly before (numbered place_of p before n (live m)) (event_weights xs)
  unfolding numbered
  boot_early before w xs rises zero cuts = tt
  boot_early before w xs rises (suc n) cuts = subst (λ es. AreEarly before es (event_weights xs)) (sym (numbered_last place_of p n before (live m))) (subst (λ ws. AreEarly before (es ++ new) ws) (sym split) (now (boot_early before w xs rises n (λ k few. cuts k (omega (arith, few))))))
    where
      cut : CutAt n xs
      cut = cuts n (omega arith)

      next : CutAt (suc n) xs
      next = cuts (suc n) (omega arith)

      es : List (ℕ × JournalEvent)
      es = numbered place_of p before n (live m)

      js : List JournalEvent
      js = journal_event place_of p (exec p n (live m))

      new : List (ℕ × JournalEvent)
      new = map (λ x. (suc (before + n), x)) js

      split : event_weights xs ≡ event_weights cut.front ++ event_weights cut.rest
      split = ap event_weights (sym cut.whole) ∙ weights_more cut.front cut.rest

      late : AreLate (suc n) (event_weights cut.rest)
      late =
          let e0 : 0 + n ≡ n = omega arith in
          subst (λ k. AreLate (suc k) (event_weights cut.rest)) e0 (rest_late cut.front cut.rest w (0 + n) (subst (Rises w) (sym cut.whole) rises) cut.within)

      -- the rest has as many events as the step shows
      room : length js ≤ length (event_weights cut.rest)
      room =
          let e1 : length (es ++ new) ≡ length (event_weights next.front) = ap length (sym (numbered_last place_of p n before (live m))) ∙ as_long before (suc n) xs next in
          let e2 : length (es ++ new) ≡ length es + length new = length-append es new in
          let e3 : length new ≡ length js = map_long (λ x. (suc (before + n), x)) js in
          let e4 : length es ≡ length (event_weights cut.front) = as_long before n xs cut in
          let e5 : length (event_weights xs) ≡ length (event_weights next.front) + length (event_weights next.rest) = ap (λ ys. length (event_weights ys)) (sym next.whole) ∙ ap length (weights_more next.front next.rest) ∙ length-append (event_weights next.front) (event_weights next.rest) in
          let e6 : length (event_weights xs) ≡ length (event_weights cut.front) + length (event_weights cut.rest) = ap length split ∙ length-append (event_weights cut.front) (event_weights cut.rest) in
          omega (arith, e1, e2, e3, e4, e5, e6)

      now : AreEarly before es (event_weights xs) → AreEarly before (es ++ new) (event_weights cut.front ++ event_weights cut.rest)
      now so_far = more_early before (suc n) (suc (before + n)) (omega arith) js es (event_weights cut.front) (event_weights cut.rest) (as_long before n xs cut) late room (subst (AreEarly before es) split so_far)

-- ---- against the steps that the rules allow

-- where steps are allowed for an event behind so many, the boot ends before
abbrev pub EndsBefore : (begun ends count : ℕ) → List ℕ → Type 0
EndsBefore begun ends count [] = ⊤
EndsBefore begun ends zero (cost ∷ costs) = ends < begun + cost
EndsBefore begun ends (suc count) (cost ∷ costs) = EndsBefore begun ends count costs

pub in_time : (begun ends : ℕ) (es : List (ℕ × JournalEvent)) (fw rw costs : List ℕ) → length es ≡ length fw → AreEarly begun es (fw ++ rw) → Within fw costs → EndsBefore begun ends (length es) costs → AreInTime begun ends es costs
in_time begun ends [] fw rw [] same early within before = tt
in_time begun ends [] fw rw (cost ∷ costs) same early within before = before
in_time begun ends (e ∷ es) [] rw costs same early within before = absurd (omega (arith, same))
in_time begun ends (e ∷ es) (w ∷ fw) rw [] same early within before = absurd within
in_time begun ends (e ∷ es) (w ∷ fw) rw (cost ∷ costs) same early within before = (omega (arith, early.0, within.0), in_time begun ends es fw rw costs (omega (arith, same)) early.1 within.1 before)

-- an event that is late is allowed more steps than the boot had
pub late_before : (scheme : Scheme) (begun ends : ℕ) (fw more : List ℕ) (least most some : ℕ) (log : Log) → Within (fw ++ more) (map (λ l. l.steps scheme) (take most log)) → AreLate least more → 1 ≤ length more
    → ends < begun + least → EndsBefore begun ends (length fw) (map (λ l. l.steps scheme) (take some log))
late_before scheme begun ends fw more least most zero log within late there less = tt
late_before scheme begun ends fw more least most (suc some) [] within late there less = tt
late_before scheme begun ends [] [] least most (suc some) (l ∷ log) within late there less = absurd (omega (arith, there))
late_before scheme begun ends [] (w ∷ more) least zero (suc some) (l ∷ log) within late there less = absurd within
late_before scheme begun ends [] (w ∷ more) least (suc most) (suc some) (l ∷ log) within late there less = omega (arith, within.0, late.0, less)
late_before scheme begun ends (v ∷ fw) more least zero (suc some) (l ∷ log) within late there less = absurd within
late_before scheme begun ends (v ∷ fw) more least (suc most) (suc some) (l ∷ log) within late there less = late_before scheme begun ends fw more least most some log within.1 late there less

-- where the log has no more, none is allowed
pub none_before : (scheme : Scheme) (begun ends count some : ℕ) (log : Log) → length log ≤ count → EndsBefore begun ends count (map (λ l. l.steps scheme) (take some log))
none_before scheme begun ends count zero log few = tt
none_before scheme begun ends count (suc some) [] few = tt
none_before scheme begun ends zero (suc some) (l ∷ log) few = absurd (omega (arith, few))
none_before scheme begun ends (suc count) (suc some) (l ∷ log) few = none_before scheme begun ends count some log (omega (arith, few))
