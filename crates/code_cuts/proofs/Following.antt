-- What is recorded may be followed behind a small step as before it, while the clock rises.
use Rattle.std.specs.Prelude.{◌==◌, cond, slice_get, ⊤}
use Rattle.std.proofs.Common.{◌≡◌, ◌≢◌, ◌∙◌, ℕ, zero, suc, ◌+◌, ◌-◌, ◌≤◌, Bool, true, false, Option, Some, None, refl, sym, ap, subst, arith, eqb-true}
use Rattle.task_ast.specs.declared.core_form.Site.{Site}
use Rattle.task_ast.specs.declared.core_form.Site.TheVariants as site
use Rattle.task_attempts.specs.Changes as changes
use Rattle.word_machine.specs.State as machine
use Rattle.word_machine.specs.State.{Program}
use Rattle.word_machine.specs.Step.{exec, step, step_at}
use Rattle.word_machine.specs.declared.ending.Ending.{Ending}
use Rattle.word_machine.specs.declared.ending.Ending.TheVariants.{Running, Halted, Trapped}
use Rattle.line_laws.specs.Relation.{room_at}
use Rattle.layout_laws.specs.Layouts.{layout_of}
use Rattle.run_plan.specs.Cells.{CellWrite, State, after_write, puts_aside, puts_class, puts_flag, puts_from, puts_home, puts_kept, puts_length, puts_lock, puts_stamp, puts_state, puts_to, puts_value}
use Rattle.run_plan.specs.Small.{Doing, core_of}
use Rattle.run_plan.specs.Words.{kept_at}
use Rattle.cell_laws.specs.Standing.{Fits, IsSite}
use Rattle.cell_laws.proofs.Puts.{left}
use Rattle.code_cuts.specs.Lasting.{MayFollow, RecordHolds, doing_of}

-- ---- the clock

ticks : (p : Program) (e : Ending) (s : machine.State) → s.clock ≤ (step_at p e s).clock
ticks p Running s = omega arith
ticks p Halted s = omega arith
ticks p (Trapped code) s = omega arith

-- it never falls, and stays where a machine has ended
pub clock_stays : (p : Program) (n : ℕ) (s : machine.State) → s.clock ≤ (exec p n s).clock
unfolding exec step
clock_stays p zero s = omega arith
clock_stays p (suc n) s = omega (arith, ticks p s.ending s, clock_stays p n (step p s))

-- ---- a record

-- what a record may be followed by is as it was
record IsSame (k : ℕ) (s t : State) : Type 0 where
  class : t.cells.class k ≡ s.cells.class k
  to : t.cells.to k ≡ s.cells.to k
  length : t.cells.length k ≡ s.cells.length k

record_stays : (d : Doing) (k : ℕ) (s t : State) (o : Option Site) → IsSame k s t → RecordHolds d k s o → RecordHolds d k t o
record_stays d k s t (Some (site.Io ann)) same h = tt
record_stays d k s t (Some (site.Block ann)) same h = tt
record_stays d k s t (Some (site.Copy most)) same h = record {
  class = λ none. h.class (sym same.class ∙ none);
  to = h.to;
  there = same.to ∙ h.there;
  starts = h.starts;
  inside = subst (λ n. h.to.index + n ≤ room_at (layout_of (core_of d) 0) h.to.array) (sym same.length) h.inside;
  written = h.written;
  room = subst (λ n. kept_at d k + n ≤ 16384) (sym same.length) h.room;
}
record_stays d k s t None same h = tt

-- the same cells and epoch, later
pub follows_later : (d : Doing) (now later : ℕ) (s t : State) → t.cells ≡ s.cells → t.epoch ≡ s.epoch → now ≤ later → MayFollow d now s → MayFollow d later t
follows_later d now later s t cells epoch rose h = record {
  records = λ k here is.
      record_stays d k s t (slice_get d.setting.task.sites (k - 1)) (record { class = ap (λ x. x.class k) cells; to = ap (λ x. x.to k) cells; length = ap (λ x. x.length k) cells })
      (h.records k here (sym (ap (λ x. x.flag k) cells) ∙ is ∙ epoch));
  past = λ k. omega (arith, rose, ap (λ x. x.stamp k) cells, h.past k);
}

-- the lists of first writes aren't looked at
record_alone : (d : Doing) (k : ℕ) (s : State) (o : Option Site) → RecordHolds d k s o → RecordHolds (doing_of d.setting.rules d.scheme d.setting.task) k s o
record_alone d k s (Some (site.Io ann)) h = tt
record_alone d k s (Some (site.Block ann)) h = tt
record_alone d k s (Some (site.Copy most)) h = record { class = h.class; to = h.to; there = h.there; starts = h.starts; inside = h.inside; written = h.written; room = h.room }
record_alone d k s None h = tt

pub follows_alone : (d : Doing) (now : ℕ) (s : State) → MayFollow d now s → MayFollow (doing_of d.setting.rules d.scheme d.setting.task) now s
follows_alone d now s h = record { records = λ k here is. record_alone d k s (slice_get d.setting.task.sites (k - 1)) (h.records k here is); past = h.past }

record_with : (d : Doing) (k : ℕ) (s : State) (o : Option Site) → RecordHolds (doing_of d.setting.rules d.scheme d.setting.task) k s o → RecordHolds d k s o
record_with d k s (Some (site.Io ann)) h = tt
record_with d k s (Some (site.Block ann)) h = tt
record_with d k s (Some (site.Copy most)) h = record { class = h.class; to = h.to; there = h.there; starts = h.starts; inside = h.inside; written = h.written; room = h.room }
record_with d k s None h = tt

pub follows_with : (d : Doing) (now : ℕ) (s : State) → MayFollow (doing_of d.setting.rules d.scheme d.setting.task) now s → MayFollow d now s
follows_with d now s h = record { records = λ k here is. record_with d k s (slice_get d.setting.task.sites (k - 1)) (h.records k here is); past = h.past }

-- ---- a write

-- A flag is set to the epoch where its record may be followed, and no stamp is of the future; no other write is asked of.
abbrev pub RecordFits : Doing → (now : ℕ) → State → CellWrite → Type 0
RecordFits d now s (puts_home at w) = ⊤
RecordFits d now s (puts_aside at w) = ⊤
RecordFits d now s (puts_lock r e) = ⊤
RecordFits d now s (puts_flag k e) = e ≡ s.epoch → RecordHolds d k s (slice_get d.setting.task.sites (k - 1))
RecordFits d now s (puts_value k w) = ⊤
RecordFits d now s (puts_stamp k t) = t ≤ now
RecordFits d now s (puts_class k c) = ⊤
RecordFits d now s (puts_to k at) = ⊤
RecordFits d now s (puts_from k at) = ⊤
RecordFits d now s (puts_length k n) = ⊤
RecordFits d now s (puts_kept n w) = ⊤
RecordFits d now s (puts_state e t b) = ⊤

module _ (d : Doing) (now : ℕ) (s : State) (h : MayFollow d now s) where
  abbrev after : CellWrite → State
  after w = after_write (core_of d).arrays w s

  -- behind a write that changes neither flags nor stamps, where the records that hold are as they were
  same_follows : (t : State) → t.epoch ≡ s.epoch → t.cells.flag ≡ s.cells.flag → t.cells.stamp ≡ s.cells.stamp → ((k : ℕ) → s.cells.flag k ≡ s.epoch → IsSame k s t) → MayFollow d now t
  same_follows t epoch flags stamps same = record {
    records = λ k here is.
        let held : s.cells.flag k ≡ s.epoch = sym (ap (λ f. f k) flags) ∙ is ∙ epoch in
        record_stays d k s t (slice_get d.setting.task.sites (k - 1)) (same k held) (h.records k here held);
    past = λ k. subst (λ u. u ≤ now) (sym (ap (λ f. f k) stamps)) (h.past k);
  }

  -- a record that doesn't hold is another's than one that does
  loose_apart : (j k : ℕ) → s.cells.flag j ≢ s.epoch → s.cells.flag k ≡ s.epoch → j ≢ k
  loose_apart j k free is same = free (ap s.cells.flag same ∙ is)

  flag_follows : (j e : ℕ) → (e ≡ s.epoch → RecordHolds d j s (slice_get d.setting.task.sites (j - 1))) → MayFollow d now (after (puts_flag j e))
  flag_follows j e holds = record {
    records = λ k here is. record_stays d k s (after (puts_flag j e)) (slice_get d.setting.task.sites (k - 1)) (record { class = refl; to = refl; length = refl }) (by_test k here is (j == k) refl);
    past = h.past;
  }
    where
      by_test : (k : ℕ) → IsSite k → changes.put j e s.cells.flag k ≡ s.epoch → (b : Bool) → (j == k) ≡ b → RecordHolds d k s (slice_get d.setting.task.sites (k - 1))
      by_test k here is true same =
          let one : e ≡ s.epoch = sym (ap (λ b. cond b e (s.cells.flag k)) same) ∙ is in
          subst (λ i. RecordHolds d i s (slice_get d.setting.task.sites (i - 1))) (eqb-true j k same) (holds one)
      by_test k here is false apart = h.records k here (sym (ap (λ b. cond b e (s.cells.flag k)) apart) ∙ is)

  stamp_follows : (j u : ℕ) → u ≤ now → MayFollow d now (after (puts_stamp j u))
  stamp_follows j u past = record {
    records = λ k here is. record_stays d k s (after (puts_stamp j u)) (slice_get d.setting.task.sites (k - 1)) (record { class = refl; to = refl; length = refl }) (h.records k here is);
    past = λ k. by_test k (j == k);
  }
    where
      by_test : (k : ℕ) (b : Bool) → cond b u (s.cells.stamp k) ≤ now
      by_test k true = past
      by_test k false = h.past k

  -- behind a write
  pub write_follows : (m : ℕ → ℕ) (w : CellWrite) → Fits (core_of d) d.scheme d.setting.task m s w → RecordFits d now s w → MayFollow d now (after_write (core_of d).arrays w s)
  write_follows m (puts_home at w) fits holds = same_follows (after (puts_home at w)) refl refl refl (λ k is. record { class = refl; to = refl; length = refl })
  write_follows m (puts_aside at w) fits holds = same_follows (after (puts_aside at w)) refl refl refl (λ k is. record { class = refl; to = refl; length = refl })
  write_follows m (puts_lock r e) fits holds = same_follows (after (puts_lock r e)) refl refl refl (λ k is. record { class = refl; to = refl; length = refl })
  write_follows m (puts_flag j e) fits holds = flag_follows j e holds
  write_follows m (puts_value j w) fits holds = same_follows (after (puts_value j w)) refl refl refl (λ k is. record { class = refl; to = refl; length = refl })
  write_follows m (puts_stamp j u) fits holds = stamp_follows j u holds
  write_follows m (puts_class j c) fits holds =
      same_follows (after (puts_class j c)) refl refl refl (λ k is. record { class = left j (Some c) s.cells.class k (loose_apart j k fits.1 is); to = refl; length = refl })
  write_follows m (puts_to j at) fits holds =
      same_follows (after (puts_to j at)) refl refl refl (λ k is. record { class = refl; to = left j (Some at) s.cells.to k (loose_apart j k fits.1 is); length = refl })
  write_follows m (puts_from j at) fits holds = same_follows (after (puts_from j at)) refl refl refl (λ k is. record { class = refl; to = refl; length = refl })
  write_follows m (puts_length j n) fits holds =
      same_follows (after (puts_length j n)) refl refl refl (λ k is. record { class = refl; to = refl; length = left j n s.cells.length k (loose_apart j k fits.1 is) })
  write_follows m (puts_kept n w) fits holds = same_follows (after (puts_kept n w)) refl refl refl (λ k is. record { class = refl; to = refl; length = refl })
  write_follows m (puts_state e t b) fits holds = absurd fits
