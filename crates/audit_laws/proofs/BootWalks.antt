-- Attempts one after another go along the rules, and so does a whole boot.
use Rattle.std.proofs.Common.{◌≡◌, ℕ, zero, suc, List, length, Option, Some, None, slice_get, Ok, Err, refl, sym, subst}
use Rattle.task_ast.specs.declared.core_form.CoreTask.{CoreTask}
use Rattle.task_ast.specs.declared.core_form.Core.{Core}
use Rattle.task_ast.specs.WellFormed.{IsWellFormed}
use Rattle.devices.specs.declared.world.World.{World}
use Rattle.task_attempts.specs.State.{Rules, Standing, Here, Rest}
use Rattle.task_attempts.specs.Attempts.{attempt_log}
use Rattle.task_attempts.specs.Boots as rules
use Rattle.task_attempts.specs.Boots.{rules_of, task_of, attempts_log, booted}
use Rattle.audit_check.specs.declared.around.Around.{Around}
use Rattle.audit_check.specs.declared.journal.TimedEvent.{TimedEvent}
use Rattle.audit_check.specs.declared.journal.ReportBoot.{ReportBoot}
use Rattle.audit_check.specs.Leads.{Reached}
use Rattle.audit_check.specs.Walking.{Walking, Way, chain, left_by}
use Rattle.audit_check.specs.Walked.{setting_of, attempt_walked}
use Rattle.audit_check.specs.Booted.{task_at, attempt_if_there, attempts_walked, with_rest, boot_walked}
use Rattle.audit_check.specs.Tracks.{events, Knows, from_here, Follows}
use Rattle.audit_check.proofs.TrackLaws.{ended}
use Rattle.audit_check.proofs.WalkLaws.{then_at}
use Rattle.audit_check.proofs.AttemptWalks.{attempt_tracks}
use Rattle.audit_laws.specs.Right.{IsOfTask, IsAround, AreAround}
use Rattle.audit_laws.specs.Stops.{Stops}
use Rattle.audit_laws.proofs.SiteLaws.{sites_right, numbers_few, task_there}

-- attempts go on until the walk stops
stops_then : (way : Way (Unit {0})) (next : Unit {0} → Walking → Way (Unit {0})) → ((w : Walking) → next tt w ≡ Err (left_by (next tt w))) → chain way next ≡ Err (left_by (chain way next))
stops_then (Ok m) next stops = stops m.walking
stops_then (Err w) next stops = refl

attempts_stop : (tasks : List Around) (n : ℕ) (w : Walking) → attempts_walked tasks n w ≡ Err (left_by (attempts_walked tasks n w))
attempts_stop tasks zero w = refl
attempts_stop tasks (suc n) w = stops_then (attempt_if_there (task_at tasks w.next) w) (λ _ w. attempts_walked tasks n w) (attempts_stop tasks n)

module _ (world : World) (c : Core) (tasks : List Around) (well : IsWellFormed c) (right : AreAround c tasks) where
  abbrev R : Rules
  R = rules_of c world

  -- what an attempt of a task goes by
  setting_is : (t : CoreTask) (a : Around) → IsOfTask c t a → setting_of world a ≡ record { rules = R; task = t }
  setting_is t a is = λ i. record { rules = record { core = is.core i; world = world }; task = is.task i }

  one_attempt : (k : ℕ) (t : Option CoreTask) (x : Option Around) → slice_get c.tasks k ≡ t → IsAround c t x → (w : Walking) (here : Here) (s : Standing) (go : Unit {0} → Rest) → Knows world.feeds w here.standing → Knows world.feeds w s
      → Reached (events w.rest) s (from_here (rules.attempt_if_there R t (go tt)) here) (Follows world.feeds (attempt_if_there x w) go)
  one_attempt k None None there is w here s go known knows = (0, (refl, knows, ended (events w.rest)))
  one_attempt k None (Some a) there is w here s go known knows = absurd is
  one_attempt k (Some t) None there is w here s go known knows = absurd is
  one_attempt k (Some t) (Some a) there is w here s go known knows =
      subst (λ S. Reached (events w.rest) s (from_here (attempt_log S (go tt)) here) (Follows world.feeds (attempt_walked a w) go)) (setting_is t a is)
      (attempt_tracks world a (numbers_few c t a well is) (sites_right c t a (task_there c c.tasks well.tasks k t there) is) w here s go known knows)

  attempt_of : (number : ℕ) (w : Walking) (here : Here) (s : Standing) (go : Unit {0} → Rest) → Knows world.feeds w here.standing → Knows world.feeds w s
      → Reached (events w.rest) s (from_here (rules.attempt_if_there R (task_of c number) (go tt)) here) (Follows world.feeds (attempt_if_there (task_at tasks number) w) go)
  attempt_of zero w here s go known knows = (0, (refl, knows, ended (events w.rest)))
  attempt_of (suc k) w here s go known knows = one_attempt k (slice_get c.tasks k) (slice_get tasks k) refl (right k) w here s go known knows

  -- at most so many attempts, from whatever store and mode the boot has
  pub attempts_track : (n : ℕ) (w : Walking) (here : Here) (s : Standing) (go : Unit {0} → Rest) → Knows world.feeds w here.standing → Knows world.feeds w s
      → Reached (events w.rest) s (from_here (attempts_log R n) here) (Follows world.feeds (attempts_walked tasks n w) go)
  attempts_track zero w here s go known knows = (0, (refl, knows, ended (events w.rest)))
  attempts_track (suc n) w here s go known knows =
      let first : Reached (events w.rest) s (from_here (attempts_log R (suc n)) here) (Follows world.feeds (attempt_if_there (task_at tasks w.next) w) (λ _. attempts_log R n)) =
      subst (λ next. Reached (events w.rest) s (from_here (rules.attempt_if_there R (task_of c next) (attempts_log R n)) here) (Follows world.feeds (attempt_if_there (task_at tasks w.next) w) (λ _. attempts_log R n)))
      (sym known.next) (attempt_of w.next w here s (λ _. attempts_log R n) known knows) in
      then_at world.feeds (λ _ go. attempts_log R n) (λ _ w. attempts_walked tasks n w) go w s (from_here (attempts_log R (suc n)) here) (attempt_if_there (task_at tasks w.next) w) first
      (λ _ w here s go at knows. attempts_track n w here s go at.knows knows)

  -- what is known doesn't ask for the events that lie ahead
  knows_ahead : (w : Walking) (rest : List TimedEvent) (s : Standing) → Knows world.feeds w s → Knows world.feeds (with_rest rest w) s
  knows_ahead w rest s n = record { readings = n.readings; committed = n.committed; next = n.next; sites = n.sites; records = n.records; peripherals = n.peripherals; issued = n.issued }

  -- a boot, until the walk stops
  pub boot_tracks : (b : ReportBoot) (w : Walking) (s : Standing) → Knows world.feeds w s
      → Reached (events b.events) s (from_here (attempts_log R (length b.events)) (booted R s)) (Stops world.feeds (boot_walked tasks b w))
  unfolding boot_walked
  boot_tracks b w s knows =
      let v = with_rest b.events w in
      let known = knows_ahead w b.events s knows in
      subst (λ way. Reached (events b.events) s (from_here (attempts_log R (length b.events)) (booted R s)) (Follows {A = Unit {0}} world.feeds way (λ _. attempts_log R 0))) (attempts_stop tasks (length b.events) v)
      (attempts_track (length b.events) v (booted R s) s (λ _. attempts_log R 0) known known)
