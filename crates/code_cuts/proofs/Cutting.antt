-- An act whose small steps fit is cut well, where a front of what is seen is what a front of the small steps shows.
use Rattle.std.specs.Prelude.{length}
use Rattle.std.proofs.Common.{◌≡◌, ◌≢◌, ◌∙◌, ℕ, Bool, false, List, Some, inl, inr, refl, sym, ap, subst, arith}
use Rattle.devices.specs.Journal.{Place}
use Rattle.task_ast.specs.declared.core_form.CoreTask.{CoreTask}
use Rattle.task_ast.specs.WellFormed.{IsWellFormed}
use Rattle.task_attempts.specs.Boots.{task_of}
use Rattle.word_machine.specs.State as machine
use Rattle.word_machine.specs.State.{Program}
use Rattle.word_machine.specs.Step.{exec}
use Rattle.word_machine.specs.Straight.{Spot, live}
use Rattle.word_machine.specs.Traces as trace
use Rattle.run_plan.specs.Cells.{State}
use Rattle.run_plan.specs.Small.{Atom, Doing, Done, core_of}
use Rattle.act_refines.specs.Between.{AreRelated, MemoryStands}
use Rattle.act_refines.specs.Seen.{IsFront, Seen, behind, steps_seen, trace_seen}
use Rattle.act_refines.proofs.Simple.{WritesKeep}
use Rattle.act_refines.proofs.Statements.{FramKeeps}
use Rattle.code_cuts.specs.Acts.{AreWhole, CutsBy, IsRunning, SoFar}
use Rattle.code_cuts.specs.Lasting.{IsNear, Lasts, LastsFor, MayFollow, doing_of}
use Rattle.code_cuts.proofs.Fitting.{AllFit, all_follow, all_stand, all_stay, banks_stay, fit_front, tasks_stay}
use Rattle.code_cuts.proofs.Following.{clock_stays, follows_alone, follows_later}
use Rattle.code_cuts.proofs.Memories.{count_seen, counts_behind, fram_behind, put_seen}
use Rattle.code_cuts.proofs.Splitting.{AllShowOne, LastShowsBoth, Split, last_split, ones_split}

-- an act's small steps are cut well, and its end
abbrev pub Whole : Program → (ℕ → Place) → Doing → Spot → State → List Atom → Type 0
Whole p place_of d m s atoms = AreWhole p place_of (core_of d) d.scheme (Lasts p d.setting.rules d.scheme) m s atoms

abbrev pub Cuts : Program → (ℕ → Place) → Doing → Spot → State → Done → Type 0
Cuts p place_of d m s done = CutsBy p place_of (core_of d) d.scheme (Lasts p d.setting.rules d.scheme) m s done

-- before RAM counts
pub cells_alone : (p : Program) (d : Doing) (begun : Bool) (m counts : ℕ → ℕ) (s : State) → MemoryStands p d begun m counts s → MemoryStands p d false m counts s
cells_alone p d begun m counts s h = record { cells = h.cells; constants = h.constants; ram = tt; readings = h.readings; tidy = h.tidy }

-- the lists of first writes aren't looked at
same_task : (p : Program) (d : Doing) (m counts : ℕ → ℕ) (s : State) → MemoryStands p d false m counts s → MemoryStands p (doing_of d.setting.rules d.scheme d.setting.task) false m counts s
same_task p d m counts s h = record { cells = h.cells; constants = h.constants; ram = tt; readings = record { values = h.readings.values; counts = h.readings.counts }; tidy = h.tidy }

one_task : (t u : CoreTask) → Some t ≡ Some u → u ≡ t
one_task t u same = cc same

-- memory that stands for a state whose next task runs lasts, where what is recorded may be followed
pub lasting : (p : Program) (d : Doing) (e : machine.State) (s : State) → MemoryStands p d false e.store e.issued s → MayFollow d e.clock s → task_of (core_of d) s.task ≡ Some d.setting.task → Lasts p d.setting.rules d.scheme e s
lasting p d e s h follows next t (inl is) =
    subst (λ u. LastsFor p (doing_of d.setting.rules d.scheme u) e s) (one_task t d.setting.task (sym is ∙ next)) (record { memory = same_task p d e.store e.issued s h; follows = follows_alone d e.clock s follows })
lasting p d e s h follows next t (inr none) = absurd (cc (next, none))

module _ (keep : WritesKeep) (fram : FramKeeps) (p : Program) (place_of : ℕ → Place) (d : Doing) (begun : Bool) (m : Spot) (s : State) (well : IsWellFormed (core_of d)) (related : AreRelated p d begun m s) (runs : IsRunning d s) (follows : MayFollow d m.clock s) where
  abbrev Stood : machine.State → State → Type 0
  Stood = Lasts p d.setting.rules d.scheme

  -- memory behind what was seen
  seen_stands : (front : List Atom) (n : ℕ) → AllFit d m.clock m.store front s → trace_seen place_of (trace.trace p n (live m)) ≡ steps_seen (core_of d) d.scheme front s
      → MemoryStands p d false (exec p n (live m)).store (exec p n (live m)).issued (behind (core_of d) front s)
  seen_stands front n fit is =
      let seen : List Seen = steps_seen (core_of d) d.scheme front s in
      let end : MemoryStands p d false (put_seen seen m.store) (count_seen p seen m.issued) (behind (core_of d) front s) = all_stand keep p d m.clock well front m.store m.issued s fit (cells_alone p d begun m.store m.issued s related.memory) in
      subst (λ k. MemoryStands p d false (exec p n (live m)).store k (behind (core_of d) front s)) (sym (counts_behind p place_of n m seen is))
      (fram p d (put_seen seen m.store) (exec p n (live m)).store (count_seen p seen m.issued) (behind (core_of d) front s) well end (fram_behind p place_of n m seen is))

  -- and what may be followed, by the clock of the last step
  seen_follows : (front : List Atom) (n : ℕ) → AllFit d m.clock m.store front s → MayFollow d (exec p n (live m)).clock (behind (core_of d) front s)
  seen_follows front n fit =
      let end : State = behind (core_of d) front s in
      follows_later d m.clock (exec p n (live m)).clock end end refl refl (clock_stays p n (live m)) (all_follow d m.clock front m.store s fit follows)

  pub front_lasts : (front : List Atom) (n : ℕ) → AllFit d m.clock m.store front s → trace_seen place_of (trace.trace p n (live m)) ≡ steps_seen (core_of d) d.scheme front s → Stood (exec p n (live m)) (behind (core_of d) front s)
  front_lasts front n fit is =
      lasting p d (exec p n (live m)) (behind (core_of d) front s) (seen_stands front n fit is) (seen_follows front n fit) (ap (task_of (core_of d)) (all_stay d m.clock front m.store s fit).task ∙ runs)

  pub front_near : (front : List Atom) (n : ℕ) → AllFit d m.clock m.store front s → IsNear (core_of d) d.scheme n (steps_seen (core_of d) d.scheme front s) s (behind (core_of d) front s)
  front_near front n fit =
      let stays = all_stay d m.clock front m.store s fit in
      record {
        epoch = omega (arith, stays.epoch);
        task = stays.task ∙ sym (tasks_stay d m.clock front m.store s s.task fit);
        bank = stays.bank ∙ sym (banks_stay d m.clock front m.store s s.bank fit);
        looks = stays.looks;
        there = λ low. omega (arith, low, stays.task);
      }

  so_far : (atoms : List Atom) (n : ℕ) → AllFit d m.clock m.store atoms s → Split (core_of d) d.scheme s (trace_seen place_of (trace.trace p n (live m))) atoms → SoFar p place_of (core_of d) d.scheme Stood n m s atoms
  so_far atoms n fit h =
      let first : AllFit d m.clock m.store h.front s = fit_front d m.clock h.front h.left m.store s (subst (λ l. AllFit d m.clock m.store l s) (sym h.whole) fit) in
      record { front = h.front; left = h.left; whole = h.whole; shown = h.shown; stood = front_lasts h.front n first h.shown; near = front_near h.front n first }

  are_whole : (atoms : List Atom) → AllFit d m.clock m.store atoms s
      → ((n : ℕ) → IsFront (trace_seen place_of (trace.trace p n (live m))) (steps_seen (core_of d) d.scheme atoms s) → Split (core_of d) d.scheme s (trace_seen place_of (trace.trace p n (live m))) atoms)
      → AreWhole p place_of (core_of d) d.scheme Stood m s atoms
  are_whole atoms fit split = record {
    fronts = λ n h. so_far atoms n fit (split n h);
    last = λ n h. record { stood = front_lasts atoms n fit h; near = front_near atoms n fit };
  }

  -- small steps of one thing each
  pub ones_cut : (atoms : List Atom) → AllFit d m.clock m.store atoms s → AllShowOne atoms → AreWhole p place_of (core_of d) d.scheme Stood m s atoms
  ones_cut atoms fit ones = are_whole atoms fit (λ n h. ones_split (core_of d) d.scheme atoms s (trace_seen place_of (trace.trace p n (live m))) ones h)

  -- and a last one of two, between which no step ends
  pub last_cut : (atoms : List Atom) → AllFit d m.clock m.store atoms s → LastShowsBoth atoms → ((n : ℕ) → length (trace_seen place_of (trace.trace p n (live m))) ≢ length atoms) → AreWhole p place_of (core_of d) d.scheme Stood m s atoms
  last_cut atoms fit both apart = are_whole atoms fit (λ n h. last_split (core_of d) d.scheme atoms s (trace_seen place_of (trace.trace p n (live m))) both (apart n) h)
