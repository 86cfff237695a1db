-- Acts that choose: a call by its record and the mode, a copy by its record, and the ends of blocks.
use Rattle.std.specs.Prelude.{◌==◌, cond, not, Option, Some, None, slice_get, if◌then◌else◌}
use Rattle.std.proofs.Common.{◌≡◌, ◌∙◌, ℕ, ◌+◌, ◌-◌, ◌^◌, ◌<◌, ◌≤◌, Bool, true, false, List, [], ◌++◌, refl, sym, ap, subst, append_assoc, arith, eqb-true}
use Rattle.devices.specs.Journal.{Place}
use Rattle.fram_ram.specs.Memories.{put}
use Rattle.io_annot.specs.declared.choice.Choice.{Choice}
use Rattle.io_annot.specs.declared.choice.Choice.TheVariants as choices
use Rattle.io_annot.specs.declared.choice.Mode.{Mode}
use Rattle.io_annot.specs.declared.choice.Mode.TheVariants as mode
use Rattle.io_annot.specs.Choice.{choice}
use Rattle.block_scope.specs.Enter.{entered}
use Rattle.task_ast.specs.declared.tree.Ann.{Ann}
use Rattle.task_ast.specs.declared.core_form.Site.{Site}
use Rattle.task_ast.specs.declared.core_form.Site.TheVariants as site
use Rattle.task_attempts.specs.Calls.{annotation_of}
use Rattle.task_attempts.specs.Changes as changes
use Rattle.word_machine.specs.State.{Program}
use Rattle.word_machine.specs.Straight.{Spot}
use Rattle.line_code.specs.declared.line.Line.{Line}
use Rattle.run_plan.specs.declared.act.Act.{Row_of-Act}
use Rattle.run_plan.specs.declared.act.Act.TheVariants as act
use Rattle.run_plan.specs.Cells as kept
use Rattle.run_plan.specs.Cells.{State}
use Rattle.run_plan.specs.Deeds.{by_choice, choose_done, leaving, reading_held, stamp_held}
use Rattle.run_plan.specs.Small.{Doing, first_way, second_way, core_of, does, flag_holds, have, same, sets_frame}
use Rattle.run_plan.specs.Weights.{choose_weight}
use Rattle.line_laws.specs.Standing.{Lie, lie_front}
use Rattle.word_code.specs.ActCode.{entry}
use Rattle.word_code.specs.Acts.{jump}
use Rattle.word_code.specs.Frames as frames
use Rattle.word_code.specs.Frames.{Frame, begun_at, flag_at, outer_at, stamp_at}
use Rattle.word_code.specs.Sizes.{row_size}
use Rattle.word_code.specs.Tables.{ann_of, branch, enter_code, keeps_code, keeps_size, leave_code}
use Rattle.act_laws.specs.Codes.{Fixed}
use Rattle.act_laws.specs.Templates.{ChooseCopyDoes, ChooseDoes, EnterDoes, LeaveDoes}
use Rattle.act_laws.specs.Words.{Around, FitsLimit, is_keep, is_kept, mode_word, record_in, stamp_in}
use Rattle.cell_laws.specs.Standing.{HasRecord, IsSite, address_in, worked}
use Rattle.ram_laws.specs.Notes.{notes_begun, notes_mode, notes_outer}
use Rattle.ram_laws.specs.Ram.{HasWord}
use Rattle.act_refines.specs.Between.{AreRelated, fixed_in, with_rest}
use Rattle.act_refines.specs.Does.{DoesAct, Ends, IsEarlier, Nothing, frame_of, way_at, way_to}
use Rattle.act_refines.proofs.Going.{goes_on, related_at}
use Rattle.act_refines.proofs.Records.{at_site}
use Rattle.act_refines.proofs.Simple.{NotesKeep}

-- the front of code in three parts
pub two_parts : (p : Program) (at : ℕ) (a b rest : List Line) → Lie p at (a ++ (b ++ rest)) → Lie p at (a ++ b)
two_parts p at a b rest has = lie_front p at (a ++ b) rest (subst (Lie p at) (sym (append_assoc a b rest)) has)

-- where a choice leads
choice_leads : (ch : Choice) (issue keep next : ℕ) → (if not (is_kept ch) then issue else keep) ≡ way_to issue keep next next (by_choice ch)
choice_leads (choices.Keep value) issue keep next = refl
choice_leads choices.Issue issue keep next = refl

record_leads : (has : Bool) (issue keep next : ℕ) → (if not has then issue else keep) ≡ way_to issue keep next next (cond has second_way first_way)
record_leads true issue keep next = refl
record_leads false issue keep next = refl

mode_leads : (o : Mode) (acts next : ℕ) → (if not (is_keep o) then acts else next) ≡ way_to acts next next next (leaving o)
mode_leads mode.Own acts next = refl
mode_leads mode.Keep acts next = refl
mode_leads mode.Force acts next = refl

-- a call's record as its cells say
reading_is : (has : Bool) (value stamp word : ℕ) → (has ≡ true → word ≡ stamp) → record_in has value word ≡ cond has (Some (value, stamp)) None
reading_is true value stamp word same = ap (λ w. Some (value, w)) (same refl)
reading_is false value stamp word same = refl

stamp_is : (has : Bool) (stamp word : ℕ) → (has ≡ true → word ≡ stamp) → stamp_in has word ≡ cond has (Some stamp) None
stamp_is true stamp word same = ap Some (same refl)
stamp_is false stamp word same = refl

module _ (p : Program) (place_of : ℕ → Place) (d : Doing) (k : ℕ) (here : IsSite k) (m : Spot) (s : State) (related : AreRelated p d true m s) where
  abbrev x : Fixed
  x = fixed_in d.scheme s

  -- whether the flag holds
  flag_found : (m.store (flag_at k) == s.epoch) ≡ flag_holds s k
  flag_found = ap (λ e. e == s.epoch) (related.memory.cells.cells.flags k here)

  -- the stamp of a record that holds
  record_found : (o : Option Site) → slice_get d.setting.task.sites (k - 1) ≡ o → flag_holds s k ≡ true → HasRecord (address_in (core_of d) (worked d.scheme s.bank)) o m.store s.cells k
  record_found o is held = subst (λ o. HasRecord (address_in (core_of d) (worked d.scheme s.bank)) o m.store s.cells k) is (related.memory.cells.cells.records k here (eqb-true (s.cells.flag k) s.epoch held))

  call_stamp : (ann : Ann) → slice_get d.setting.task.sites (k - 1) ≡ Some (site.Io ann) → flag_holds s k ≡ true → m.store (stamp_at k) ≡ s.cells.stamp k
  call_stamp ann is held = (record_found (Some (site.Io ann)) is held).1

  block_stamp : (ann : Ann) → slice_get d.setting.task.sites (k - 1) ≡ Some (site.Block ann) → flag_holds s k ≡ true → m.store (stamp_at k) ≡ s.cells.stamp k
  block_stamp ann is held = record_found (Some (site.Block ann)) is held

  -- what a table finds
  around : (ann : Ann) (o : Mode) (t : ℕ) → FitsLimit ann → (flag_holds s k ≡ true → m.store (stamp_at k) ≡ s.cells.stamp k) → IsEarlier k m s → s.frame.mode ≡ Some o → s.frame.time ≡ Some t → Around x ann k m o (flag_holds s k)
  around ann o t limit stamp early one two =
      let time : HasWord m.store 1048613 t = related.memory.ram.frame.time t two in
      record {
        site = here.few;
        mode = related.memory.ram.frame.mode o one;
        recorded = flag_found;
        earlier = λ held. subst (λ w. m.store (stamp_at k) ≤ w) (sym time.holds) (subst (λ w. w ≤ t) (sym (stamp held)) (early (eqb-true (s.cells.flag k) s.epoch held) t two));
        fits = subst (λ w. w < 2 ^ 32) (sym time.holds) time.fits;
        limit = limit;
      }

-- where the lists of a choice are entered
abbrev issue_at : Frame → (k pc : ℕ) → ℕ
issue_at f k pc = pc + keeps_size (frames.site_at f k) + 3

abbrev issue_to : {n : _} → Frame → (k pc next : ℕ) → Row_of-Act n → ℕ
issue_to f k pc next issue_row = entry issue_row (issue_at f k pc) next

abbrev keep_to : {n i : _} → Frame → (k pc next : ℕ) → Row_of-Act n → Row_of-Act i → ℕ
keep_to f k pc next issue_row keep_row = entry keep_row (issue_at f k pc + row_size f issue_row) next

-- a call chooses
pub choose_call_does : ((ann : Ann) (p : Program) (x : Fixed) (k value keep issue : ℕ) (s : Spot) (m : Mode) (has : Bool) → ChooseDoes ann p x k value keep issue s m has)
    → (p : Program) (place_of : ℕ → Place) (d : Doing) (number : ℕ) (keeps : Bool) (k : ℕ) (ann : Ann) (n : _) (issue_row : _) (i : _) (keep_row : _) → IsSite k → slice_get d.setting.task.sites (k - 1) ≡ Some (site.Io ann) → FitsLimit ann
    → DoesAct p place_of d number keeps (act.Choose' k n issue_row i keep_row) (IsEarlier k)
choose_call_does template p place_of d number keeps k ann n issue_row i keep_row here is limit next m s well has related early =
    subst (λ o. Ends p place_of d (act.Choose' k n issue_row i keep_row) (choose_weight o) (way_at (frame_of d number) (act.Choose' k n issue_row i keep_row) m.pc next) m s (choose_done o k s)) (sym (at_site d.setting.task.sites k here ∙ is)) (by_frame s.frame.mode refl s.frame.time refl)
  where
    laid : Lie p m.pc (keeps_code (Some (site.Io ann)) k ++ branch (keep_to (frame_of d number) k m.pc next issue_row keep_row) (issue_to (frame_of d number) k m.pc next issue_row))
    laid = subst (λ o. Lie p m.pc (keeps_code o k ++ branch (keep_to (frame_of d number) k m.pc next issue_row keep_row) (issue_to (frame_of d number) k m.pc next issue_row))) is (two_parts p m.pc (keeps_code (frames.site_at (frame_of d number) k) k) (branch (keep_to (frame_of d number) k m.pc next issue_row keep_row) (issue_to (frame_of d number) k m.pc next issue_row)) _ has)

    by_frame : (o : Option Mode) → s.frame.mode ≡ o → (u : Option ℕ) → s.frame.time ≡ u
        → Ends p place_of d (act.Choose' k n issue_row i keep_row) 30 (way_at (frame_of d number) (act.Choose' k n issue_row i keep_row) m.pc next) m s (have o (λ m. have u (λ t. does [] same (by_choice (choice m ann (reading_held s k) t)))))
    by_frame None one u two = tt
    by_frame (Some o) one None two = tt
    by_frame (Some o) one (Some t) two =
        let stamp : flag_holds s k ≡ true → m.store (stamp_at k) ≡ s.cells.stamp k = call_stamp p place_of d k here m s related ann is in
        let time : m.store 1048613 ≡ t = (related.memory.ram.frame.time t two).holds in
        let same_choice : choice o ann (record_in (flag_holds s k) (s.cells.value k) (m.store (stamp_at k))) (m.store 1048613) ≡ choice o ann (reading_held s k) t =
        ap (λ r. choice o ann r (m.store 1048613)) (reading_is (flag_holds s k) (s.cells.value k) (s.cells.stamp k) (m.store (stamp_at k)) stamp) ∙ ap (choice o ann (reading_held s k)) time in
        goes_on p place_of (fixed_in d.scheme s) (fixed_in d.scheme s) 20 30 m _ _ _ _ related.fixed
        (template ann p (fixed_in d.scheme s) k (s.cells.value k) (keep_to (frame_of d number) k m.pc next issue_row keep_row) (issue_to (frame_of d number) k m.pc next issue_row) m o (flag_holds s k) (around p place_of d k here m s related ann o t limit stamp early one two) laid) (omega arith)
        (ap (λ ch. if not (is_kept ch) then (issue_to (frame_of d number) k m.pc next issue_row) else (keep_to (frame_of d number) k m.pc next issue_row keep_row)) same_choice ∙ choice_leads (choice o ann (reading_held s k) t) (issue_to (frame_of d number) k m.pc next issue_row) (keep_to (frame_of d number) k m.pc next issue_row keep_row) next) refl
        (λ there fixed stored issued. related_at p d true there m.store m.issued s fixed stored issued related.memory)

-- a copy chooses
pub choose_copy_does : ((p : Program) (x : Fixed) (n k keep issue : ℕ) (s : Spot) (has : Bool) → ChooseCopyDoes p x n k keep issue s has)
    → (p : Program) (place_of : ℕ → Place) (d : Doing) (number : ℕ) (keeps : Bool) (k most : ℕ) (n : _) (issue_row : _) (i : _) (keep_row : _) → IsSite k → slice_get d.setting.task.sites (k - 1) ≡ Some (site.Copy most)
    → DoesAct p place_of d number keeps (act.Choose' k n issue_row i keep_row) Nothing
choose_copy_does template p place_of d number keeps k most n issue_row i keep_row here is next m s well has related asks =
    subst (λ o. Ends p place_of d (act.Choose' k n issue_row i keep_row) (choose_weight o) (way_at (frame_of d number) (act.Choose' k n issue_row i keep_row) m.pc next) m s (choose_done o k s)) (sym (at_site d.setting.task.sites k here ∙ is))
    (goes_on p place_of (fixed_in d.scheme s) (fixed_in d.scheme s) 4 4 m _ _ _ _ related.fixed
    (template p (fixed_in d.scheme s) most k (keep_to (frame_of d number) k m.pc next issue_row keep_row) (issue_to (frame_of d number) k m.pc next issue_row) m (flag_holds s k) here.few (flag_found p place_of d k here m s related) laid) (omega arith)
    (record_leads (flag_holds s k) (issue_to (frame_of d number) k m.pc next issue_row) (keep_to (frame_of d number) k m.pc next issue_row keep_row) next) refl
    (λ there fixed stored issued. related_at p d true there m.store m.issued s fixed stored issued related.memory))
  where
    laid : Lie p m.pc (keeps_code (Some (site.Copy most)) k ++ branch (keep_to (frame_of d number) k m.pc next issue_row keep_row) (issue_to (frame_of d number) k m.pc next issue_row))
    laid = subst (λ o. Lie p m.pc (keeps_code o k ++ branch (keep_to (frame_of d number) k m.pc next issue_row keep_row) (issue_to (frame_of d number) k m.pc next issue_row))) is (two_parts p m.pc (keeps_code (frames.site_at (frame_of d number) k) k) (branch (keep_to (frame_of d number) k m.pc next issue_row keep_row) (issue_to (frame_of d number) k m.pc next issue_row)) _ has)

-- a block is left
pub leave_does : ((p : Program) (x : Fixed) (k next acts : ℕ) (s : Spot) (m : Mode) → LeaveDoes p x k next acts s m) → NotesKeep
    → (p : Program) (place_of : ℕ → Place) (d : Doing) (number : ℕ) (keeps : Bool) (k : ℕ) (n : _) (row : _) → IsSite k
    → DoesAct p place_of d number keeps (act.Leave' k n row) Nothing
leave_does template keep p place_of d number keeps k n row here next m s well has related asks = by_frame s.frame.mode refl (s.frame.outer k) refl
  where
    by_frame : (o : Option Mode) → s.frame.mode ≡ o → (u : Option Mode) → s.frame.outer k ≡ u
        → Ends p place_of d (act.Leave' k n row) 24 (way_at (frame_of d number) (act.Leave' k n row) m.pc next) m s (have o (λ inside. have u (λ m. does [] (λ after. record after { frame = record s.frame { mode = Some m } }) (leaving inside))))
    by_frame None one u two = tt
    by_frame (Some o) one None two = tt
    by_frame (Some o) one (Some outside) two =
        let holds : m.store (1048576 + outer_at k) ≡ mode_word outside = related.memory.ram.frame.outer k here outside two in
        goes_on p place_of (fixed_in d.scheme s) (fixed_in d.scheme s) 7 24 m _ _ _ _ related.fixed
        (template p (fixed_in d.scheme s) k next (entry row (m.pc + 8) next) m o here.few (related.memory.ram.frame.mode o one) (two_parts p m.pc (leave_code k) (branch next (entry row (m.pc + 8) next)) _ has)) (omega arith)
        (mode_leads o (entry row (m.pc + 8) next) next) refl
        (λ there fixed stored issued. related_at p d true there (put m.store 1048615 (mode_word outside)) m.issued (with_rest (record s.frame { mode = Some outside }) s.looks s.issued s) fixed
        (stored ∙ ap (put m.store 1048615) holds) issued (keep p d m.store m.issued s s.looks (notes_mode outside) well related.memory tt))

-- a block is entered
pub enter_does : ((ann : Ann) (p : Program) (x : Fixed) (k next : ℕ) (s : Spot) (m : Mode) (has : Bool) → EnterDoes ann p x k next s m has) → NotesKeep
    → (p : Program) (place_of : ℕ → Place) (d : Doing) (number : ℕ) (keeps : Bool) (k : ℕ) (ann : Ann) → IsSite k → slice_get d.setting.task.sites (k - 1) ≡ Some (site.Block ann) → FitsLimit ann
    → DoesAct p place_of d number keeps (act.Enter k) (IsEarlier k)
enter_does template keep p place_of d number keeps k ann here is limit next m s well has related early =
    subst (λ o. Ends p place_of d (act.Enter k) 40 (λ way. next) m s (have s.frame.mode (λ m. have s.frame.time (λ t. sets_frame (frame_with (annotation_of o) m t))))) (sym (at_site d.setting.task.sites k here ∙ is))
    (by_frame s.frame.mode refl s.frame.time refl)
  where
    frame_with : Ann → Mode → (t : ℕ) → kept.Frame
    frame_with a o t = record s.frame { mode = Some (entered o a (stamp_held s k) t); outer = changes.put k (Some o) s.frame.outer; begun = changes.put k (Some t) s.frame.begun }

    laid : Lie p m.pc (enter_code ann k ++ jump next)
    laid = subst (λ o. Lie p m.pc (enter_code (ann_of o) k ++ jump next)) is has

    by_frame : (o : Option Mode) → s.frame.mode ≡ o → (u : Option ℕ) → s.frame.time ≡ u
        → Ends p place_of d (act.Enter k) 40 (λ way. next) m s (have o (λ m. have u (λ t. sets_frame (frame_with ann m t))))
    by_frame None one u two = tt
    by_frame (Some o) one None two = tt
    by_frame (Some o) one (Some t) two =
        let stamp : flag_holds s k ≡ true → m.store (stamp_at k) ≡ s.cells.stamp k = block_stamp p place_of d k here m s related ann is in
        let time : HasWord m.store 1048613 t = related.memory.ram.frame.time t two in
        let inside : Mode = entered o ann (stamp_held s k) t in
        let same_mode : entered o ann (stamp_in (flag_holds s k) (m.store (stamp_at k))) (m.store 1048613) ≡ inside =
        ap (λ r. entered o ann r (m.store 1048613)) (stamp_is (flag_holds s k) (s.cells.stamp k) (m.store (stamp_at k)) stamp) ∙ ap (entered o ann (stamp_held s k)) time.holds in
        let store : ℕ → ℕ = put (put (put m.store (1048576 + begun_at k) t) (1048576 + outer_at k) (mode_word o)) 1048615 (mode_word inside) in
        let one_note = keep p d m.store m.issued s s.looks (notes_begun k t) well related.memory (here, time.fits) in
        let begun_state : State = with_rest (record s.frame { begun = changes.put k (Some t) s.frame.begun }) s.looks s.issued s in
        let two_notes = keep p d (put m.store (1048576 + begun_at k) t) m.issued begun_state s.looks (notes_outer k o) well one_note here in
        let outer_state : State = with_rest (record begun_state.frame { outer = changes.put k (Some o) s.frame.outer }) s.looks s.issued begun_state in
        let three_notes = keep p d (put (put m.store (1048576 + begun_at k) t) (1048576 + outer_at k) (mode_word o)) m.issued outer_state s.looks (notes_mode inside) well two_notes tt in
        goes_on p place_of (fixed_in d.scheme s) (fixed_in d.scheme s) 21 40 m _ next _ _ related.fixed
        (template ann p (fixed_in d.scheme s) k next m o (flag_holds s k) (around p place_of d k here m s related ann o t limit stamp early one two) here.from laid) (omega arith) refl refl
        (λ there fixed stored issued. related_at p d true there store m.issued (with_rest (frame_with ann o t) s.looks s.issued s) fixed
        (stored ∙ ap (λ w. put (put (put m.store (1048576 + begun_at k) w) (1048576 + outer_at k) (mode_word o)) 1048615 (mode_word (entered o ann (stamp_in (flag_holds s k) (m.store (stamp_at k))) (m.store 1048613)))) time.holds
        ∙ ap (λ i. put (put (put m.store (1048576 + begun_at k) t) (1048576 + outer_at k) (mode_word o)) 1048615 (mode_word i)) same_mode) issued three_notes)
