-- Events that lead along a log are its first, whatever looks come behind them; and where they part from it they aren't.
use Rattle.std.proofs.Common.{◌≡◌, ℕ, zero, suc, ◌<◌, ◌≤◌, List, [], ◌∷◌, ◌++◌, length, take, drop, Option, Some, None, refl, sym, ap, ◌∙◌, append_assoc, arith, not-suc-le-zero, le_of_suc-le-suc}
use Rattle.devices.specs.Journal.{JournalEvent}
use Rattle.task_attempts.specs.State.{Standing, Logged, Log}
use Rattle.task_attempts.specs.Boots.{after, events_in}
use Rattle.task_attempts.specs.Journals.{look_time}
use Rattle.audit_check.specs.Leads.{Awaited, relooked, told_with, End, IsNext, Leads, first_event, Differs}
use Rattle.audit_laws.specs.Expected.{times_in}

-- the log where the times of some events, and then others, are those of the looks to come
abbrev pub awaited : Awaited → List JournalEvent → (others : List ℕ) → Log
awaited f es others = f (times_in es ++ others)

-- behind an event that is the next
goes_on : (e : JournalEvent) (es : List JournalEvent) (f : Awaited) (l : Logged) (g : Awaited) → IsNext e f l g → (others : List ℕ) → awaited f (e ∷ es) others ≡ told_with (times_in es ++ others) l ∷ awaited g es others
goes_on e es f l g next others = ap f (append_assoc (look_time e) (times_in es) others) ∙ next.goes (times_in es ++ others)

-- ---- the first events

pub shows_first : (n : ℕ) (es : List JournalEvent) (s : Standing) (f : Awaited) (end : End) → Leads n es s f end → (k : ℕ) → k ≤ n → (others : List ℕ) → events_in (take k (awaited f (take k es) others)) ≡ take k es
shows_first n es s f end at zero few others = refl
shows_first zero es s f end at (suc k) few others = absurd (not-suc-le-zero few)
shows_first (suc n) [] s f end at (suc k) few others = absurd at
shows_first (suc n) (e ∷ es) s f end at (suc k) few others =
    ap (λ log. events_in (take (suc k) log)) (goes_on e (take k es) f at.0 at.1 at.2 others)
    ∙ (λ i. at.2.event i ∷ shows_first n es at.0.after at.1 end at.3 k (le_of_suc-le-suc few) others i)

-- ---- all of them, and what they leave

-- what stands behind the events that lead along
pub record Behind (n : ℕ) (es : List JournalEvent) (s : Standing) (f : Awaited) (end : End) : Type 0 where
  pub standing : Standing
  pub rest : Awaited
  pub few : n ≤ length es
  pub ends : end (drop n es) standing rest
  pub leaves : (others : List ℕ) → after (relooked (times_in (take n es) ++ others) s) (take n (awaited f (take n es) others)) ≡ relooked others standing

pub behind_them : (n : ℕ) (es : List JournalEvent) (s : Standing) (f : Awaited) (end : End) → Leads n es s f end → Behind n es s f end
behind_them zero es s f end at = record { standing = s; rest = f; few = omega arith; ends = at; leaves = λ others. refl }
behind_them (suc n) [] s f end at = absurd at
behind_them (suc n) (e ∷ es) s f end at =
    let b = behind_them n es at.0.after at.1 end at.3 in
    record {
      standing = b.standing;
      rest = b.rest;
      few = omega (arith, b.few);
      ends = b.ends;
      leaves = λ others.
          ap (λ log. after (relooked (times_in (take (suc n) (e ∷ es)) ++ others) s) (take (suc n) log)) (goes_on e (take n es) f at.0 at.1 at.2 others)
          ∙ b.leaves others;
    }

-- ---- no more of them

-- the first of some events
abbrev first : List JournalEvent → Option JournalEvent
first [] = None
first (e ∷ es) = Some e

abbrev behind_first : List JournalEvent → List JournalEvent
behind_first [] = []
behind_first (e ∷ es) = es

first_shown : (k : ℕ) (log : Log) → first (events_in (take (suc k) log)) ≡ first_event log
first_shown k [] = refl
first_shown k (l ∷ log) = refl

pub differs_behind : (n : ℕ) (es : List JournalEvent) (s : Standing) (f : Awaited) (end : End) → Leads n es s f end → ((es : List JournalEvent) (s : Standing) (f : Awaited) → end es s f → Differs es f)
    → (k : ℕ) → n < k → k ≤ length es → (others : List ℕ) → events_in (take k (awaited f (take k es) others)) ≡ take k es → ⊥
differs_behind n es s f end at parts zero more few others is = absurd (not-suc-le-zero more)
differs_behind zero [] s f end at parts (suc k) more few others is = absurd (not-suc-le-zero few)
differs_behind zero (e ∷ es) s f end at parts (suc k) more few others is =
    let log = awaited f (take (suc k) (e ∷ es)) others in
    let starts : first_event log ≡ Some e = sym (first_shown k log) ∙ ap first is in
    parts (e ∷ es) s f at (times_in (take k es) ++ others) (sym (ap (λ times. first_event (f times)) (append_assoc (look_time e) (times_in (take k es)) others)) ∙ starts)
differs_behind (suc n) [] s f end at parts (suc k) more few others is = absurd at
differs_behind (suc n) (e ∷ es) s f end at parts (suc k) more few others is =
    differs_behind n es at.0.after at.1 end at.3 parts k (le_of_suc-le-suc more) (le_of_suc-le-suc few) others
    (sym (ap (λ log. behind_first (events_in (take (suc k) log))) (goes_on e (take k es) f at.0 at.1 at.2 others)) ∙ ap behind_first is)
