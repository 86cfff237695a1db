-- What is known anywhere, behind steps that lead on.
use Rattle.std.specs.Prelude.{◌^◌, ◌≢◌, slice_get, Option, Some, None}
use Rattle.std.proofs.Common.{◌≡◌, ◌∙◌, ℕ, ◌+◌, ◌-◌, ◌<◌, ◌≤◌, inl, false, List, [], ◌∷◌, ◌++◌, refl, sym, ap, subst, append_assoc, arith}
use Rattle.devices.specs.Journal.{JournalEvent, Place, begins, looks, keeps, drops, issues, seals, copies, commits, traps}
use Rattle.task_ast.specs.declared.core_form.CoreTask.{CoreTask}
use Rattle.task_ast.specs.declared.core_form.Site.{Site}
use Rattle.task_ast.specs.declared.core_form.Site.TheVariants as site
use Rattle.task_attempts.specs.Boots.{task_of}
use Rattle.task_attempts.specs.State.{Rules}
use Rattle.word_isa.specs.declared.parts.Scheme.{Scheme}
use Rattle.word_machine.specs.State as machine
use Rattle.word_machine.specs.State.{Program}
use Rattle.word_machine.specs.Step.{exec}
use Rattle.word_machine.specs.Straight.{Spot}
use Rattle.word_machine.specs.Traces as trace
use Rattle.run_plan.specs.Cells.{Cells, State}
use Rattle.run_plan.specs.Small.{Atom, Doing, core_of}
use Rattle.run_plan.specs.Words.{kept_at}
use Rattle.line_laws.specs.Relation.{room_at}
use Rattle.layout_laws.specs.Layouts.{layout_of}
use Rattle.act_laws.specs.Codes.{Goes}
use Rattle.act_refines.specs.Between.{MemoryStands}
use Rattle.act_refines.specs.Seen.{Seen, behind, puts, steps_seen, tells}
use Rattle.code_cuts.specs.Boots.{AreDue, time_in, times_in}
use Rattle.code_cuts.specs.Lasting.{Lasts, LastsFor, MayFollow, MayRun, RecordHolds, doing_of, looks_behind, looks_by, task_behind}
use Rattle.code_cuts.specs.Runs.{shown_by}
use Rattle.code_runs.specs.Claims.{Common}
use Rattle.code_runs.specs.Cutting.{HasGone}
use Rattle.code_runs.proofs.Cutting.{clock_of}
use Rattle.code_runs.proofs.Splitting.{shown_behind}

-- ---- looks

time_more : (e : JournalEvent) (a b : List ℕ) → time_in e (a ++ b) ≡ time_in e a ++ b
time_more (begins t) a b = refl
time_more (looks k t) a b = refl
time_more (keeps k value) a b = refl
time_more (drops k) a b = refl
time_more (issues k q args reading) a b = refl
time_more (seals k) a b = refl
time_more (copies k from to n) a b = refl
time_more (commits next) a b = refl
time_more (traps code) a b = refl

pub times_more : (a b : List Seen) → times_in (a ++ b) ≡ times_in a ++ times_in b
times_more [] b = refl
times_more (puts at word ∷ a) b = times_more a b
times_more (tells e ∷ a) b = ap (time_in e) (times_more a b) ∙ time_more e (times_in a) (times_in b)

-- those that an event shows are used up by it
used_up : (e : JournalEvent) (times : List ℕ) → looks_by e (time_in e times) ≡ times
used_up (begins t) times = refl
used_up (looks k t) times = refl
used_up (keeps k value) times = refl
used_up (drops k) times = refl
used_up (issues k q args reading) times = refl
used_up (seals k) times = refl
used_up (copies k from to n) times = refl
used_up (commits next) times = refl
used_up (traps code) times = refl

-- and so by all that is seen
pub due_behind : (seen : List Seen) (later : List ℕ) → looks_behind seen (times_in seen ++ later) ≡ later
due_behind [] later = refl
due_behind (puts at word ∷ seen) later = due_behind seen later
due_behind (tells e ∷ seen) later = ap (λ (times : List ℕ). looks_behind seen (looks_by e times)) (sym (time_more e (times_in seen) later)) ∙ ap (looks_behind seen) (used_up e (times_in seen ++ later)) ∙ due_behind seen later

-- ---- records that may be followed

record_like : (d : Doing) (k : ℕ) (s to : State) → to.cells ≡ s.cells → (o : Option Site) → RecordHolds d k s o → RecordHolds d k to o
record_like d k s to cells None h = tt
record_like d k s to cells (Some (site.Io ann)) h = tt
record_like d k s to cells (Some (site.Block ann)) h = tt
record_like d k s to cells (Some (site.Copy most)) h = record {
  class = subst (λ (x : Cells). x.class k ≢ None) (sym cells) h.class;
  to = h.to;
  there = ap (λ (x : Cells). x.to k) cells ∙ h.there;
  starts = h.starts;
  inside = subst (λ (x : Cells). h.to.index + x.length k ≤ room_at (layout_of (core_of d) 0) h.to.array) (sym cells) h.inside;
  written = h.written;
  room = subst (λ (x : Cells). kept_at d k + x.length k ≤ 16384) (sym cells) h.room;
}

-- where what is recorded is the same, and it is later
pub follow_like : (d : Doing) (now then : ℕ) (s to : State) → to.cells ≡ s.cells → to.epoch ≡ s.epoch → now ≤ then → MayFollow d now s → MayFollow d then to
follow_like d now then s to cells epoch later h = record {
  records = λ k is held. record_like d k s to cells (slice_get d.setting.task.sites (k - 1)) (h.records k is (sym (ap (λ (x : Cells). x.flag k) cells) ∙ held ∙ epoch));
  past = λ k. (let past : s.cells.stamp k ≤ now = h.past k in let same : to.cells.stamp k ≡ s.cells.stamp k = ap (λ (x : Cells). x.stamp k) cells in omega (arith, past, same, later));
}

record_of : (d : Doing) (k : ℕ) (s : State) → (o : Option Site) → RecordHolds (doing_of d.setting.rules d.scheme d.setting.task) k s o → RecordHolds d k s o
record_of d k s None h = tt
record_of d k s (Some (site.Io ann)) h = tt
record_of d k s (Some (site.Block ann)) h = tt
record_of d k s (Some (site.Copy most)) h = record { class = h.class; to = h.to; there = h.there; starts = h.starts; inside = h.inside; written = h.written; room = h.room }

-- so it is for the task that runs
pub follow_of : (d : Doing) (now : ℕ) (s : State) → MayFollow (doing_of d.setting.rules d.scheme d.setting.task) now s → MayFollow d now s
follow_of d now s h = record { records = λ k is held. record_of d k s (slice_get d.setting.task.sites (k - 1)) (h.records k is held); past = h.past }

-- ---- what lasts

pub lasts_later : (p : Program) (d : Doing) (e f : machine.State) (s : State) → f.store ≡ e.store → f.issued ≡ e.issued → e.clock ≤ f.clock → LastsFor p d e s → LastsFor p d f s
lasts_later p d e f s words counts later h = record {
  memory = subst (λ st. Memory st f.issued) (sym words) (subst (λ k. Memory e.store k) (sym counts) h.memory);
  follows = follow_like d e.clock f.clock s s refl refl later h.follows;
}
  where
    Memory : (ℕ → ℕ) → (ℕ → ℕ) → Type 0
    Memory st k = MemoryStands p d false st k s

-- ---- what is known anywhere

module _ (p : Program) (place_of : ℕ → Place) (rules : Rules) (scheme : Scheme) where
  -- of the task that runs
  pub follows_here : (number n : ℕ) (m : Spot) (s : State) (t : CoreTask) → task_of rules.core number ≡ Some t → Common p place_of rules scheme number n m s → MayFollow (doing_of rules scheme t) m.clock s
  follows_here number n m s t here h = h.follows t (inl (ap (task_of rules.core) h.task ∙ here))

  -- the looks that are due, behind some that were seen
  pub due_later : (n k : ℕ) (m there : Spot) (seen : List Seen) (s to : State) → to.looks ≡ looks_behind seen s.looks → shown_by p place_of n m ≡ seen ++ shown_by p place_of k there → AreDue p place_of n m s.looks → AreDue p place_of k there to.looks
  due_later n k m there seen s to left shown h = record {
    later = h.later;
    due = left ∙ ap (looks_behind seen) (h.due ∙ ap (λ (xs : List Seen). times_in xs ++ h.later) shown ∙ ap (λ (xs : List ℕ). xs ++ h.later) (times_more seen (shown_by p place_of k there))
        ∙ append_assoc (times_in seen) (times_in (shown_by p place_of k there)) h.later)
        ∙ due_behind seen (times_in (shown_by p place_of k there) ++ h.later);
  }

  -- behind an act, in which the next task may have changed
  pub common_to : (number next n steps : ℕ) (m there : Spot) (atoms : List Atom) (s to : State) → Common p place_of rules scheme number n m s → HasGone p place_of rules.core scheme (Lasts p rules scheme) n steps m there atoms s to → to.task ≡ next
      → Common p place_of rules scheme next (n - steps) there to
  common_to number next n steps m there atoms s to h g task =
      let up : to.epoch ≤ s.epoch + steps = g.near.epoch in
      let room : s.epoch + n + 1 < 2 ^ 24 = h.room in
      let ticks : m.clock + n < 2 ^ 32 = h.ticks in
      let few : steps ≤ n = g.few in
      let clock : there.clock ≡ m.clock + steps = g.clock in
      let middle : State = behind rules.core atoms s in
      record {
        room = omega (arith, up, room, few);
        ticks = omega (arith, ticks, few, clock);
        task = task;
        follows = λ t may. follow_like (doing_of rules scheme t) there.clock there.clock middle to g.quiet.cells g.quiet.epoch (omega arith) (g.stood t (subst (λ k. MayRun rules.core k t) g.quiet.task may)).follows;
        due = due_later n (n - steps) m there (steps_seen rules.core scheme atoms s) s to g.near.looks g.shown h.due;
      }

  -- in which it hasn't
  pub common_same : (number n steps : ℕ) (m there : Spot) (atoms : List Atom) (s to : State) → Common p place_of rules scheme number n m s → HasGone p place_of rules.core scheme (Lasts p rules scheme) n steps m there atoms s to
      → task_behind (steps_seen rules.core scheme atoms s) s.task ≡ s.task → Common p place_of rules scheme number (n - steps) there to
  common_same number n steps m there atoms s to h g same = common_to number number n steps m there atoms s to h g (g.near.task ∙ same ∙ h.task)

  -- behind steps that show nothing
  pub common_on : (number steps k n : ℕ) (m there : Spot) (s : State) → Goes p steps m there [] → steps + k ≡ n → Common p place_of rules scheme number n m s → Common p place_of rules scheme number k there s
  common_on number steps k n m there s goes sum h =
      let room : s.epoch + n + 1 < 2 ^ 24 = h.room in
      let ticks : m.clock + n < 2 ^ 32 = h.ticks in
      let clock : there.clock ≡ m.clock + steps = clock_of p steps m there goes.runs in
      record {
        room = omega (arith, room, sum);
        ticks = omega (arith, ticks, sum, clock);
        task = h.task;
        follows = λ t may. follow_like (doing_of rules scheme t) m.clock there.clock s s refl refl (omega (arith, clock)) (h.follows t may);
        due = due_later n k m there [] s s refl (ap (λ j. shown_by p place_of j m) (sym sum) ∙ shown_behind p place_of steps k m there [] goes) h.due;
      }

  -- with no step to go, wherever the machine is at this time
  pub common_none : (number n : ℕ) (m there : Spot) (s : State) → there.clock ≡ m.clock → Common p place_of rules scheme number n m s → Common p place_of rules scheme number 0 there s
  unfolding exec trace.trace
  common_none number n m there s clock h =
      let room : s.epoch + n + 1 < 2 ^ 24 = h.room in
      let ticks : m.clock + n < 2 ^ 32 = h.ticks in
      record {
        room = omega (arith, room);
        ticks = omega (arith, ticks, clock);
        task = h.task;
        follows = λ t may. follow_like (doing_of rules scheme t) m.clock there.clock s s refl refl (omega (arith, clock)) (h.follows t may);
        due = record { later = s.looks; due = refl };
      }
