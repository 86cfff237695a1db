-- The words of a copy go across, aside and back, its record is sealed, and its classes lead on.
use Rattle.std.specs.Prelude.{◌≢◌, cond, map, slice_get, Option, Some, None}
use Rattle.std.proofs.Common.{◌≡◌, ◌∙◌, ℕ, zero, suc, ◌+◌, ◌-◌, ◌<◌, ◌≤◌, ◌==◌, Bool, true, false, List, [], ◌∷◌, refl, sym, ap, subst, arith, eq-eqb}
use Rattle.devices.specs.Journal.{JournalEvent, Place, copies, keep, keeps}
use Rattle.region_split.specs.declared.class.DmaClass.{DmaClass}
use Rattle.task_ast.specs.WellFormed.{IsWellFormed}
use Rattle.task_ast.specs.declared.core_form.CoreEnd.{CoreEnd}
use Rattle.task_ast.specs.declared.core_form.CoreExpr.{CoreExpr}
use Rattle.task_attempts.specs.Boots.{task_of}
use Rattle.task_attempts.specs.Copies.{put_words, shown, words_at}
use Rattle.walk_run.specs.declared.place.Place as walked
use Rattle.walk_run.specs.PlainWrites.{Write}
use Rattle.walk_run.specs.Store.{Store, place, put_word, word_at}
use Rattle.walk_run.specs.Walk.{move_words}
use Rattle.word_machine.specs.State.{Program}
use Rattle.word_machine.specs.Straight.{Spot}
use Rattle.line_laws.specs.Relation.{room_at}
use Rattle.line_laws.specs.Standing.{Lie}
use Rattle.layout_laws.specs.Layouts.{layout_of}
use Rattle.run_plan.specs.declared.act.Act.{Act}
use Rattle.run_plan.specs.declared.act.Act.TheVariants as act
use Rattle.run_plan.specs.declared.act.Leg.TheVariants as leg
use Rattle.run_plan.specs.Cells.{CopyValued, State, puts_class, puts_flag, puts_from, puts_length, puts_to}
use Rattle.run_plan.specs.Deeds.{class_valued, keep_done, put_done, seal_done, sealed, transfer_done, words_shown}
use Rattle.run_plan.specs.Runs.{Onward, act_run, act_steps, straight}
use Rattle.run_plan.specs.Small.{Atom, Doing, ahead, core_of, does, flag_holds, have, shown_last, showing, silent, silently, with_volatile}
use Rattle.run_plan.specs.Words.{home_writes, keep_writes, kept_at, move_writes, put_writes, recorded_words}
use Rattle.word_code.specs.ActCode.{act_code}
use Rattle.code_places.specs.Placed.{ActLies}
use Rattle.cell_laws.proofs.Puts.{got, unequal}
use Rattle.act_refines.specs.Between.{AreRelated}
use Rattle.act_refines.specs.Does.{Holds, IsAsKept, IsFree, frame_of}
use Rattle.act_refines.specs.Moves.{ComesFromKept, GoesAcross, GoesToKept, IsRecorded, IsRoomFor, IsWritableRow}
use Rattle.act_refines.specs.Seen.{behind}
use Rattle.act_refines.proofs.Records.{at_site}
use Rattle.code_cuts.specs.Asked.{HasClass, KeepsCopy, MovesCopy, PutsCopy, SealsCopy}
use Rattle.code_cuts.specs.Lasting.{CopyHolds, RecordHolds}
use Rattle.code_runs.specs.Following.{AnyWay}
use Rattle.code_runs.proofs.Placing.{Keeps, may_follow}
use Rattle.site_runs.specs.InAttempts.{LeadsOn}
use Rattle.site_runs.proofs.Behind.{attempt_kept, same_thing, something}
use Rattle.site_runs.proofs.Leading.{straight_leads}
use Rattle.site_runs.proofs.Lists.{ListLeads}
use Rattle.site_runs.specs.Copies.{IsCopyOf}
use Rattle.site_runs.specs.Told.{TellsPlaces}
use Rattle.site_runs.proofs.CopyLaws.{CopyLaws}
use Rattle.site_runs.proofs.CopyLists.{by_class_leads}
use Rattle.site_runs.proofs.Mild.{AreMild, Stays, behind_stays, mild_homes, mild_keeps, mild_shown, mild_silent, stays_itself}
use Rattle.site_runs.proofs.CopyStages.{Fresh, Held, IsGoodCopy, fresh_behind, held_behind}

-- ---- pointers

moved_pointers : (n : ℕ) (to from : walked.Place) (store : Store) → (move_words n to from store).pointers ≡ store.pointers
moved_pointers zero to from store = refl
moved_pointers (suc n) to from store = moved_pointers n (place to.array (to.index + 1)) (place from.array (from.index + 1)) (put_word to (word_at store from) store)

put_pointers : (words : List ℕ) (to : walked.Place) (store : Store) → (put_words to words store).pointers ≡ store.pointers
put_pointers [] to store = refl
put_pointers (word ∷ words) to store = put_pointers words (place to.array (to.index + 1)) (put_word to word store)

-- what is volatile changes last
volatile_stays : (d : Doing) (s t : State) (store : Store) → Stays s t → store.pointers ≡ s.store.pointers → Stays s (with_volatile (core_of d) store t)
volatile_stays d s t store stays pointers = record { frame = stays.frame; flags = stays.flags; epoch = stays.epoch; pointers = pointers }

-- a copy that is there has a class
class_there : (o : Option CopyValued) → o ≢ None → class_valued o ≢ None
class_there None there = λ none. there refl
class_there (Some v) there = something v.class

module _ (p : Program) (place_of : ℕ → Place) (law : CopyLaws p place_of) (d : Doing) (number : ℕ) (well : IsWellFormed (core_of d)) (here : task_of (core_of d) number ≡ Some d.setting.task) (told : TellsPlaces place_of (core_of d) d.scheme)
    (k : ℕ) (to from : CoreEnd) (words : CoreExpr) (copy : IsCopyOf d number k to from words) (blocks : List ℕ) where
  abbrev BeforeSeal : ℕ → Spot → State → Type 0
  BeforeSeal = Fresh p place_of d number k blocks

  abbrev WithRecord : ℕ → Spot → State → Type 0
  WithRecord = Held p place_of d number k blocks

  -- ---- what acts ask

  -- a record that holds may be followed
  record_there : (n : ℕ) (m : Spot) (s : State) → WithRecord n m s → CopyHolds d k s
  record_there n m s h = subst (RecordHolds d k s) copy.there ((may_follow p place_of d number well here n m s h.0.0.common).records k copy.numbered h.1)

  recorded : (n : ℕ) (m : Spot) (s : State) → WithRecord n m s → IsRecorded d k m s
  recorded n m s h =
      let r = record_there n m s h in
      record {
        held = h.1;
        inside = λ at is. subst (λ (x : walked.Place). IsWritableRow (core_of d) x (s.cells.length k)) (same_thing r.to at (sym r.there ∙ is)) (record { inside = r.inside; written = r.written });
        room = r.room;
      }

  puts_copy : (n : ℕ) (m : Spot) (s : State) → WithRecord n m s → PutsCopy d k m s
  puts_copy n m s h = let r = record_there n m s h in record { there = λ none. something r.to (sym r.there ∙ none); recorded = recorded n m s h }

  kept_told : (v : CopyValued) → IsGoodCopy d k v → place_of (7042 + kept_at d k) ≡ keep
  kept_told v good = told.kept (kept_at d k) good.kept

  kept_is : (m : Spot) (s : State) (o : Option CopyValued) → s.frame.copy ≡ o → o ≢ None → ((v : CopyValued) → s.frame.copy ≡ Some v → IsGoodCopy d k v) → place_of (7042 + kept_at d k) ≡ keep
  kept_is m s None is some good = absurd (some refl)
  kept_is m s (Some v) is some good = kept_told v (good v is)

  comes_back : (n : ℕ) (m : Spot) (s : State) → AreRelated p d true m s → WithRecord n m s → ComesFromKept place_of d k m s
  comes_back n m s related h =
      let r = record_there n m s h in
      record {
        recorded = recorded n m s h;
        to = λ at is. told.places s.bank related.memory.tidy.bank at (subst (λ (x : walked.Place). x.index < room_at (layout_of (core_of d) 0) x.array) (same_thing r.to at (sym r.there ∙ is)) r.starts);
        kept = kept_is m s s.frame.copy refl h.0.1.copy h.0.1.good;
      }

  -- ---- words go across

  across_keeps : (n : ℕ) (m : Spot) (s : State) → BeforeSeal n m s → (o : Option CopyValued)
      → Keeps p place_of d number (AnyWay BeforeSeal) n m s (have o (λ v. words_shown (core_of d) (move_writes v.length v.to v.from s.store) (copies k (shown v.from) (shown v.to) v.length) (move_words v.length v.to v.from s.store)))
  across_keeps n m s h None = tt
  across_keeps n m s h (Some v) = λ steps there gone.
      let e : JournalEvent = copies k (shown v.from) (shown v.to) v.length in
      let writes : List Write = move_writes v.length v.to v.from s.store in
      let mild : AreMild (shown_last (home_writes (core_of d) writes) e) = mild_shown (home_writes (core_of d) writes) e (mild_homes (core_of d) writes) tt in
      fresh_behind p place_of d number k blocks n steps m there _ s _ gone mild
      (volatile_stays d s (behind (core_of d) (shown_last (home_writes (core_of d) writes) e) s) (move_words v.length v.to v.from s.store) (behind_stays (core_of d) _ s mild) (moved_pointers v.length v.to v.from s.store)) h

  pub across_leads : (at next most : ℕ) (go : Onward) → Lie p at (act_code (frame_of d number) false (act.Transfer k leg.Across) at next) → LeadsOn p place_of d BeforeSeal (suc most) next go
      → LeadsOn p place_of d BeforeSeal (suc most) at (act_steps d (act.Transfer k leg.Across) (straight go))
  across_leads at next most go lies leads =
      straight_leads p place_of d number well here false BeforeSeal BeforeSeal (GoesAcross place_of d) (MovesCopy d) (act.Transfer k leg.Across) at next most go (λ m s related. related) (λ way. refl) (law.word.across d number false k) (law.word.across_cut d number false k)
      (λ n m s h. h.0.0.common)
      (λ n m s related h. (
        record {
          clear = λ v is. (h.0.1.good v is).clear;
          from = λ v is. told.places s.bank related.memory.tidy.bank v.from (h.0.1.good v is).from;
          to = λ v is. told.places s.bank related.memory.tidy.bank v.to (h.0.1.good v is).to;
        },
        record { copy = h.0.1.copy; clear = λ v is. (h.0.1.good v is).clear },
      ))
      (λ n m s related h. across_keeps n m s h s.frame.copy) lies leads

  -- ---- words go aside

  aside_keeps : (n : ℕ) (m : Spot) (s : State) → BeforeSeal n m s → (o : Option CopyValued)
      → Keeps p place_of d number (AnyWay BeforeSeal) n m s (have o (λ v. does (shown_last (keep_writes (kept_at d k) (words_at s.store v.from v.length)) (copies k (shown v.from) keep v.length)) (λ (t : State). t) ahead))
  aside_keeps n m s h None = tt
  aside_keeps n m s h (Some v) = λ steps there gone.
      let e : JournalEvent = copies k (shown v.from) keep v.length in
      let mild = mild_shown (keep_writes (kept_at d k) (words_at s.store v.from v.length)) e (mild_keeps (kept_at d k) (words_at s.store v.from v.length)) tt in
      fresh_behind p place_of d number k blocks n steps m there _ s _ gone mild (behind_stays (core_of d) _ s mild) h

  pub aside_leads : (at next most : ℕ) (go : Onward) → Lie p at (act_code (frame_of d number) false (act.Transfer k leg.ToKept) at next) → LeadsOn p place_of d BeforeSeal (suc most) next go
      → LeadsOn p place_of d BeforeSeal (suc most) at (act_steps d (act.Transfer k leg.ToKept) (straight go))
  aside_leads at next most go lies leads =
      straight_leads p place_of d number well here false BeforeSeal BeforeSeal (GoesToKept place_of d k) (KeepsCopy d k) (act.Transfer k leg.ToKept) at next most go (λ m s related. related) (λ way. refl) (law.word.aside d number false k) (law.word.aside_cut d number false k)
      (λ n m s h. h.0.0.common)
      (λ n m s related h. (
        record {
          room = λ v is. (h.0.1.good v is).room;
          from = λ v is. told.places s.bank related.memory.tidy.bank v.from (h.0.1.good v is).from;
          kept = kept_is m s s.frame.copy refl h.0.1.copy h.0.1.good;
        },
        record { copy = h.0.1.copy; room = λ v is. (h.0.1.good v is).room },
      ))
      (λ n m s related h. aside_keeps n m s h s.frame.copy) lies leads

  -- ---- words at the destination are kept

  words_keep : (n : ℕ) (m : Spot) (s : State) → BeforeSeal n m s → (o : Option CopyValued) → Keeps p place_of d number (AnyWay BeforeSeal) n m s (have o (λ v. silently (keep_writes (kept_at d k) (words_at s.store v.to v.length))))
  words_keep n m s h None = tt
  words_keep n m s h (Some v) = λ steps there gone.
      let mild = mild_silent (keep_writes (kept_at d k) (words_at s.store v.to v.length)) (mild_keeps (kept_at d k) (words_at s.store v.to v.length)) in
      fresh_behind p place_of d number k blocks n steps m there _ s _ gone mild (behind_stays (core_of d) _ s mild) h

  pub keep_leads : (at next most : ℕ) (go : Onward) → Lie p at (act_code (frame_of d number) false (act.KeepWords k) at next) → LeadsOn p place_of d BeforeSeal (suc most) next go → LeadsOn p place_of d BeforeSeal (suc most) at (act_steps d (act.KeepWords k) (straight go))
  keep_leads at next most go lies leads =
      straight_leads p place_of d number well here false BeforeSeal BeforeSeal (IsRoomFor d k) (KeepsCopy d k) (act.KeepWords k) at next most go (λ m s related. related) (λ way. refl) (law.word.keeps_words d number false k) (law.word.keeps_cut d number false k)
      (λ n m s h. h.0.0.common) (λ n m s related h. ((λ v is. (h.0.1.good v is).room), record { copy = h.0.1.copy; room = λ v is. (h.0.1.good v is).room })) (λ n m s related h. words_keep n m s h s.frame.copy) lies leads

  -- ---- the record is sealed

  seal_keeps : (n : ℕ) (m : Spot) (s : State) → BeforeSeal n m s → (o : Option CopyValued)
      → Keeps p place_of d number (AnyWay WithRecord) n m s (have o (λ v. sealed k (puts_class k v.class ∷ puts_to k v.to ∷ puts_from k v.from ∷ puts_length k v.length ∷ puts_flag k s.epoch ∷ [])))
  seal_keeps n m s h None = tt
  seal_keeps n m s h (Some v) = λ steps there gone.
      ((attempt_kept p place_of d number blocks n steps m there _ s _ h.0.0 gone refl refl h.0.0.within, record { copy = h.0.1.copy; good = h.0.1.good }), got k s.epoch s.cells.flag)

  pub seal_leads : (at next most : ℕ) (go : Onward) → Lie p at (act_code (frame_of d number) false (act.Seal k) at next) → LeadsOn p place_of d WithRecord (suc most) next go → LeadsOn p place_of d BeforeSeal (suc most) at (act_steps d (act.Seal k) (straight go))
  seal_leads at next most go lies leads =
      straight_leads p place_of d number well here false BeforeSeal WithRecord (IsFree k) (SealsCopy d k) (act.Seal k) at next most go (λ m s related. related) (λ way. refl)
      (law.word.seals d number false k _ copy.numbered copy.there) (law.word.seals_cut d number false k _ copy.numbered copy.there) (λ n m s h. h.0.0.common)
      (λ n m s related h. (h.1, record { free = h.1; copy = h.0.1.copy; starts = λ v is. (h.0.1.good v is).to; clear = λ v is. (h.0.1.good v is).clear; room = λ v is. (h.0.1.good v is).room }))
      (λ n m s related h. subst (λ o. Keeps p place_of d number (AnyWay WithRecord) n m s (seal_done o k s)) (sym (at_site d.setting.task.sites k copy.numbered ∙ copy.there)) (seal_keeps n m s h s.frame.copy)) lies leads

  -- ---- words come back

  back_keeps : (n : ℕ) (m : Spot) (s : State) → WithRecord n m s → (o : Option walked.Place)
      → Keeps p place_of d number (AnyWay WithRecord) n m s (have o (λ x. words_shown (core_of d) (put_writes x (recorded_words d k s)) (copies k keep (shown x) (s.cells.length k)) (put_words x (recorded_words d k s) s.store)))
  back_keeps n m s h None = tt
  back_keeps n m s h (Some x) = λ steps there gone.
      let e : JournalEvent = copies k keep (shown x) (s.cells.length k) in
      let writes : List Write = put_writes x (recorded_words d k s) in
      let mild : AreMild (shown_last (home_writes (core_of d) writes) e) = mild_shown (home_writes (core_of d) writes) e (mild_homes (core_of d) writes) tt in
      held_behind p place_of d number k blocks n steps m there _ s _ gone mild
      (volatile_stays d s (behind (core_of d) (shown_last (home_writes (core_of d) writes) e) s) (put_words x (recorded_words d k s) s.store) (behind_stays (core_of d) _ s mild) (put_pointers (recorded_words d k s) x s.store)) h

  pub back_leads : (kept : Bool) (at next most : ℕ) (go : Onward) → Lie p at (act_code (frame_of d number) kept (act.Transfer k leg.FromKept) at next) → LeadsOn p place_of d WithRecord (suc most) next go
      → LeadsOn p place_of d WithRecord (suc most) at (act_steps d (act.Transfer k leg.FromKept) (straight go))
  back_leads kept at next most go lies leads =
      straight_leads p place_of d number well here kept WithRecord WithRecord (ComesFromKept place_of d k) (PutsCopy d k) (act.Transfer k leg.FromKept) at next most go (λ m s related. related) (λ way. refl)
      (law.word.back d number kept k _ copy.numbered copy.there) (law.word.back_cut d number kept k _ copy.numbered copy.there) (λ n m s h. h.0.0.common) (λ n m s related h. (comes_back n m s related h, puts_copy n m s h))
      (λ n m s related h. back_keeps n m s h (s.cells.to k)) lies leads

  -- kept words are put
  put_keeps : (n : ℕ) (m : Spot) (s : State) → WithRecord n m s → (o : Option walked.Place)
      → Keeps p place_of d number (AnyWay WithRecord) n m s
      (have o (λ x. does (showing (keeps k (s.cells.length k)) ∷ map silent (home_writes (core_of d) (put_writes x (recorded_words d k s)))) (with_volatile (core_of d) (put_words x (recorded_words d k s) s.store)) ahead))
  put_keeps n m s h None = tt
  put_keeps n m s h (Some x) = λ steps there gone.
      let writes : List Write = put_writes x (recorded_words d k s) in
      let atoms : List Atom = showing (keeps k (s.cells.length k)) ∷ map silent (home_writes (core_of d) writes) in
      let mild : AreMild atoms = ((tt, tt), mild_silent (home_writes (core_of d) writes) (mild_homes (core_of d) writes)) in
      held_behind p place_of d number k blocks n steps m there atoms s (with_volatile (core_of d) (put_words x (recorded_words d k s) s.store) (behind (core_of d) atoms s)) gone mild
      (volatile_stays d s (behind (core_of d) atoms s) (put_words x (recorded_words d k s) s.store) (behind_stays (core_of d) atoms s mild) (put_pointers (recorded_words d k s) x s.store)) h

  pub put_leads : (at next most : ℕ) (go : Onward) → Lie p at (act_code (frame_of d number) true (act.PutWords k) at next) → LeadsOn p place_of d WithRecord (suc most) next go → LeadsOn p place_of d WithRecord (suc most) at (act_steps d (act.PutWords k) (straight go))
  put_leads at next most go lies leads =
      straight_leads p place_of d number well here true WithRecord WithRecord (IsRecorded d k) (PutsCopy d k) (act.PutWords k) at next most go (λ m s related. related) (λ way. refl) (law.word.puts_words d number true k _ copy.numbered copy.there) (law.word.puts_cut d number true k)
      (λ n m s h. h.0.0.common) (λ n m s related h. (recorded n m s h, puts_copy n m s h)) (λ n m s related h. put_keeps n m s h (s.cells.to k)) lies leads

  -- ---- classes

  -- by the class as it was valued
  pub anew_leads : (single private rest : List Act) (at next most : ℕ) (again go : Onward) → ActLies p (frame_of d number) false (act.ByClass k single private rest) at next
      → ListLeads p place_of d number well here false BeforeSeal (suc most) single next again go → ListLeads p place_of d number well here false BeforeSeal (suc most) private next again go → ListLeads p place_of d number well here false BeforeSeal (suc most) rest next again go
      → LeadsOn p place_of d BeforeSeal (suc most) at (act_run d again (act.ByClass k single private rest) go)
  anew_leads single private rest at next most again go lies first second third =
      by_class_leads p place_of d number well here false BeforeSeal (IsAsKept false k) (HasClass k) k single private rest at next most again go (law.way.classes d number false k _ single private rest copy.numbered copy.there) (law.way.classes_cut d number false k single private rest)
      (λ n m s h. h.0.0.common)
      (λ n m s related h.
      let is : flag_holds s k ≡ false = unequal (s.cells.flag k) s.epoch h.1 in
      (is, subst (λ b. cond b (s.cells.class k) (class_valued s.frame.copy) ≢ None) (sym is) (class_there s.frame.copy h.0.1.copy)))
      (λ n steps m there s h gone. fresh_behind p place_of d number k blocks n steps m there [] s s gone tt (stays_itself s) h) lies first second third

  -- and by the record's
  pub again_leads : (single private rest : List Act) (at next most : ℕ) (again go : Onward) → ActLies p (frame_of d number) true (act.ByClass k single private rest) at next
      → ListLeads p place_of d number well here true WithRecord (suc most) single next again go → ListLeads p place_of d number well here true WithRecord (suc most) private next again go → ListLeads p place_of d number well here true WithRecord (suc most) rest next again go
      → LeadsOn p place_of d WithRecord (suc most) at (act_run d again (act.ByClass k single private rest) go)
  again_leads single private rest at next most again go lies first second third =
      by_class_leads p place_of d number well here true WithRecord (IsAsKept true k) (HasClass k) k single private rest at next most again go (law.way.classes d number true k _ single private rest copy.numbered copy.there) (law.way.classes_cut d number true k single private rest)
      (λ n m s h. h.0.0.common)
      (λ n m s related h.
      let is : flag_holds s k ≡ true = eq-eqb (s.cells.flag k) s.epoch h.1 in
      (is, subst (λ b. cond b (s.cells.class k) (class_valued s.frame.copy) ≢ None) (sym is) (record_there n m s h).class))
      (λ n steps m there s h gone. held_behind p place_of d number k blocks n steps m there [] s s gone tt (stays_itself s) h) lies first second third
