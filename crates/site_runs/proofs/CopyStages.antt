-- What is known between the acts of a copy, and behind acts whose small steps are mild.
use Rattle.std.specs.Prelude.{Option, slice_index_or, Some, None}
use Rattle.std.proofs.Common.{◌≡◌, ◌≢◌, ◌∙◌, ℕ, ◌+◌, ◌-◌, ◌<◌, ◌≤◌, List, sym, ap, subst}
use Rattle.devices.specs.Journal.{Place}
use Rattle.io_flow.specs.Written.{AllWithin, IsWithin}
use Rattle.task_ast.specs.Pointing.{pointing}
use Rattle.walk_run.specs.declared.place.Place as walked
use Rattle.word_machine.specs.State.{Program}
use Rattle.word_machine.specs.Straight.{Spot}
use Rattle.run_plan.specs.Cells.{CopyValued, Frame, State}
use Rattle.run_plan.specs.Small.{Atom, Doing, Way, ahead, core_of, first_way, second_way, third_way}
use Rattle.run_plan.specs.Words.{kept_at}
use Rattle.line_laws.specs.Relation.{base_at, room_at}
use Rattle.layout_laws.specs.Layouts.{layout_of}
use Rattle.word_code.specs.CodeOf.{most_kept}
use Rattle.act_refines.specs.Does.{Holds, IsFree}
use Rattle.code_cuts.specs.Asked.{HasCopy}
use Rattle.code_runs.proofs.Placing.{Gone}
use Rattle.site_runs.specs.InAttempts.{In, Never, With}
use Rattle.site_runs.proofs.Behind.{attempt_kept}
use Rattle.site_runs.proofs.Mild.{AreMild, Stays, mild_task}

-- a copy whose ends are places, which goes to no constant, and for which the site's kept words have room
pub record IsGoodCopy (d : Doing) (k : ℕ) (v : CopyValued) : Type 0 where
  pub to : v.to.index < room_at (layout_of (core_of d) 0) v.to.array
  pub from : v.from.index < room_at (layout_of (core_of d) 0) v.from.array
  pub clear : base_at (layout_of (core_of d) 0) v.to.array ≢ 0
  pub room : kept_at d k + v.length ≤ 16384
  pub kept : kept_at d k < most_kept (core_of d).tasks

-- such a copy was valued
pub record IsNoted (d : Doing) (k : ℕ) (m : Spot) (s : State) : Type 0 where
  pub copy : HasCopy m s
  pub good : (v : CopyValued) → s.frame.copy ≡ Some v → IsGoodCopy d k v

noted_stays : (d : Doing) (k : ℕ) (m there : Spot) (s to : State) → to.frame ≡ s.frame → IsNoted d k m s → IsNoted d k there to
noted_stays d k m there s to frame h = record { copy = λ none. h.copy (sym (ap (λ (f : Frame). f.copy) frame) ∙ none); good = λ v is. h.good v (sym (ap (λ (f : Frame). f.copy) frame) ∙ is) }

free_stays : (k : ℕ) (m there : Spot) (s to : State) → Stays s to → IsFree k m s → IsFree k there to
free_stays k m there s to stays free = λ same. free (sym (ap (λ (f : ℕ → ℕ). f k) stays.flags) ∙ same ∙ stays.epoch)

holds_stays : (k : ℕ) (m there : Spot) (s to : State) → Stays s to → Holds k m s → Holds k there to
holds_stays k m there s to stays held = ap (λ (f : ℕ → ℕ). f k) stays.flags ∙ held ∙ sym stays.epoch

within_stays : (d : Doing) (s to : State) → Stays s to → AllWithin (pointing d.setting.task) s.store → AllWithin (pointing d.setting.task) to.store
within_stays d s to stays within = λ q. subst (λ (ps : List (Option walked.Place)). IsWithin (pointing d.setting.task q) (slice_index_or ps q None)) (sym stays.pointers) (within q)

module _ (p : Program) (place_of : ℕ → Place) (d : Doing) (number k : ℕ) (blocks : List ℕ) where
  -- a copy was valued; it has no record, or one that holds
  abbrev pub Noted : ℕ → Spot → State → Type 0
  Noted = With (In p place_of d number blocks) (IsNoted d k)

  abbrev pub Fresh : ℕ → Spot → State → Type 0
  Fresh = With Noted (IsFree k)

  abbrev pub Held : ℕ → Spot → State → Type 0
  Held = With Noted (Holds k)

  -- a choice goes into one of two lists
  abbrev pub Chosen : Way → ℕ → Spot → State → Type 0
  Chosen ahead = Never
  Chosen first_way = Fresh
  Chosen second_way = Held
  Chosen third_way = Never

  module _ (n steps : ℕ) (m there : Spot) (atoms : List Atom) (s to : State) (gone : Gone p place_of d number n steps m there atoms s to) (mild : AreMild atoms) (stays : Stays s to) where
    noted_on : Noted n m s → Noted (n - steps) there to
    noted_on h = (attempt_kept p place_of d number blocks n steps m there atoms s to h.0 gone (mild_task (core_of d) d.scheme atoms s s.task mild) stays.frame (within_stays d s to stays h.0.within), noted_stays d k m there s to stays.frame h.1)

    pub noted_behind : Noted n m s → Noted (n - steps) there to
    noted_behind h = noted_on h

    pub fresh_behind : Fresh n m s → Fresh (n - steps) there to
    fresh_behind h = (noted_on h.0, free_stays k m there s to stays h.1)

    pub held_behind : Held n m s → Held (n - steps) there to
    held_behind h = (noted_on h.0, holds_stays k m there s to stays h.1)
