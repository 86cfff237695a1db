-- Acts of sites that show one thing at most: what is valued, chosen, noted, issued and taken, and words in a row.
use Rattle.std.specs.Prelude.{map, slice_get, Option, Result, Ok, Err}
use Rattle.std.proofs.Common.{◌≡◌, ◌∙◌, ℕ, ◌+◌, ◌-◌, Bool, true, List, [], ◌∷◌, Some, None, refl, sym, subst}
use Rattle.devices.specs.Journal as journal
use Rattle.devices.specs.Reading.{reading_in}
use Rattle.io_annot.specs.declared.choice.Mode.{Mode}
use Rattle.io_annot.specs.Choice.{choice}
use Rattle.block_scope.specs.Enter.{entered}
use Rattle.region_split.specs.declared.class.DmaClass.{DmaClass}
use Rattle.task_ast.specs.declared.tree.Ann.{Ann}
use Rattle.task_ast.specs.declared.core_form.CoreEnd.{CoreEnd}
use Rattle.task_ast.specs.declared.core_form.CoreExpr.{CoreExpr}
use Rattle.task_ast.specs.declared.core_form.CoreStmt.TheVariants as stmt
use Rattle.task_ast.specs.declared.core_form.CoreTarget.{CoreTarget}
use Rattle.task_ast.specs.declared.core_form.Site.TheVariants as site
use Rattle.task_attempts.specs.Calls.{annotation, number_of}
use Rattle.task_attempts.specs.Changes as changes
use Rattle.task_attempts.specs.Told.{next_look}
use Rattle.walk_run.specs.declared.place.Place.{Place}
use Rattle.walk_run.specs.declared.trap.Trap.{Trap}
use Rattle.walk_run.specs.PlainWrites.{Write, sets}
use Rattle.walk_run.specs.Store.{put_word}
use Rattle.word_machine.specs.State.{Program}
use Rattle.word_machine.specs.Straight.{Spot}
use Rattle.run_plan.specs.declared.act.Act.TheVariants as act
use Rattle.run_plan.specs.Cells.{Frame, State}
use Rattle.run_plan.specs.Deeds.{all_values, by_choice, by_class, choose_done, class_now, copy_found, issue_done, leaving, reading_held, stamp_held, target_found, value_done, words_put, write_done}
use Rattle.run_plan.specs.Finding.{statement_of}
use Rattle.run_plan.specs.Small.{Doing, Done, ahead, core_of, does, have, same, sets_frame, showing, silent, unless_fails}
use Rattle.run_plan.specs.Words.{home_writes}
use Rattle.cell_laws.specs.Standing.{IsSite, worked}
use Rattle.ram_laws.specs.Ram as ram
use Rattle.act_refines.specs.Does.{Nothing}
use Rattle.act_refines.proofs.Records.{at_site}
use Rattle.act_refines.proofs.Simple.{WritesKeep}
use Rattle.act_refines.proofs.Statements.{FramKeeps}
use Rattle.code_cuts.specs.Acts.{CutsAct}
use Rattle.code_cuts.specs.Asked.{HasAimed, HasArguments, HasClass, IsInside, IsTimed}
use Rattle.code_cuts.proofs.Cutting.{Cuts, Whole, cells_alone, ones_cut}
use Rattle.code_cuts.proofs.Simple.{silent_ones, writes_fit}

-- the frame inside a block, and the next reading of a call's peripheral
abbrev entering : Doing → (site : ℕ) → State → Mode → ℕ → Frame
entering d k s o t = record s.frame { mode = Some (entered o (annotation d.setting k) (stamp_held s k) t); outer = changes.put k (Some o) s.frame.outer; begun = changes.put k (Some t) s.frame.begun }

abbrev reading_next : Doing → (peripheral : ℕ) → State → ℕ
reading_next d q s = reading_in d.setting.rules.world.feeds (number_of d.setting q) (s.issued (number_of d.setting q) + 1)

-- what is valued is noted, or it traps
valued_cuts : {A : Type 0} (p : Program) (place_of : ℕ → journal.Place) (d : Doing) (m : Spot) (s : State) (r : Result A Trap) (go : A → Done) → Whole p place_of d m s [] → ((a : A) → Cuts p place_of d m s (go a)) → Cuts p place_of d m s (unless_fails r go)
valued_cuts p place_of d m s (Ok a) go whole next = next a
valued_cuts p place_of d m s (Err why) go whole next = whole

module _ (keep : WritesKeep) (fram : FramKeeps) (p : Program) (place_of : ℕ → journal.Place) (d : Doing) (number : ℕ) (keeps : Bool) where
  -- ---- values

  pub call_value_cuts : (k i q : ℕ) (target : Option CoreTarget) (es : List CoreExpr) → statement_of d k ≡ Some (stmt.Io i target q es) → CutsAct p place_of d number keeps (act.Value k) Nothing
  call_value_cuts k i q target es plan next m s well has related runs follows asks =
      let none : Whole p place_of d m s [] = ones_cut keep fram p place_of d true m s well related runs follows [] tt tt in
      subst (λ o. Cuts p place_of d m s (value_done d.setting o s)) (sym plan)
      (valued_cuts p place_of d m s (target_found target s.store) _ none (λ at. valued_cuts p place_of d m s (all_values es s.store) _ none (λ words. (none, record { epoch = refl; task = refl; bank = refl; looks = refl; cells = refl }))))

  pub copy_value_cuts : (k i : ℕ) (to from : CoreEnd) (words : CoreExpr) → statement_of d k ≡ Some (stmt.Copy i to from words) → CutsAct p place_of d number keeps (act.Value k) Nothing
  copy_value_cuts k i to from words plan next m s well has related runs follows asks =
      let none : Whole p place_of d m s [] = ones_cut keep fram p place_of d true m s well related runs follows [] tt tt in
      subst (λ o. Cuts p place_of d m s (value_done d.setting o s)) (sym plan)
      (valued_cuts p place_of d m s (copy_found d.setting to from words s.store) _ none (λ v. (none, record { epoch = refl; task = refl; bank = refl; looks = refl; cells = refl })))

  -- ---- looks and choices

  pub look_cuts : (k : ℕ) → CutsAct p place_of d number keeps (act.Look k) Nothing
  look_cuts k next m s well has related runs follows asks =
      (ones_cut keep fram p place_of d true m s well related runs follows (showing (journal.looks k (next_look s.looks)) ∷ []) (tt, tt, tt) (tt, tt), record { epoch = refl; task = refl; bank = refl; looks = refl; cells = refl })

  pub choose_call_cuts : (k : ℕ) (ann : Ann) (n : _) (issue_row : _) (j : _) (keep_row : _) → IsSite k → slice_get d.setting.task.sites (k - 1) ≡ Some (site.Io ann) → CutsAct p place_of d number keeps (act.Choose' k n issue_row j keep_row) IsTimed
  choose_call_cuts k ann n issue_row j keep_row here is next m s well has related runs follows asks =
      subst (λ o. Cuts p place_of d m s (choose_done o k s)) (sym (at_site d.setting.task.sites k here ∙ is)) (by_mode s.frame.mode refl)
    where
      by_time : (o : Mode) (u : Option ℕ) → s.frame.time ≡ u → Cuts p place_of d m s (have u (λ t. does [] same (by_choice (choice o ann (reading_held s k) t))))
      by_time o None two = absurd (asks.time two)
      by_time o (Some t) two = (ones_cut keep fram p place_of d true m s well related runs follows [] tt tt, record { epoch = refl; task = refl; bank = refl; looks = refl; cells = refl })

      by_mode : (o : Option Mode) → s.frame.mode ≡ o → Cuts p place_of d m s (have o (λ m. have s.frame.time (λ t. does [] same (by_choice (choice m ann (reading_held s k) t)))))
      by_mode None one = absurd (asks.mode one)
      by_mode (Some o) one = by_time o s.frame.time refl

  pub choose_copy_cuts : (k most : ℕ) (n : _) (issue_row : _) (j : _) (keep_row : _) → IsSite k → slice_get d.setting.task.sites (k - 1) ≡ Some (site.Copy most) → CutsAct p place_of d number keeps (act.Choose' k n issue_row j keep_row) Nothing
  choose_copy_cuts k most n issue_row j keep_row here is next m s well has related runs follows asks =
      subst (λ o. Cuts p place_of d m s (choose_done o k s)) (sym (at_site d.setting.task.sites k here ∙ is))
      (ones_cut keep fram p place_of d true m s well related runs follows [] tt tt, record { epoch = refl; task = refl; bank = refl; looks = refl; cells = refl })

  pub by_class_cuts : (k : ℕ) (l : _) (single_row : _) (n : _) (private_row : _) (j : _) (rest_row : _) → CutsAct p place_of d number keeps (act.ByClass' k l single_row n private_row j rest_row) (HasClass k)
  by_class_cuts k l single_row n private_row j rest_row next m s well has related runs follows asks = by_found (class_now s k) refl
    where
      by_found : (o : Option DmaClass) → class_now s k ≡ o → Cuts p place_of d m s (have o (λ c. does [] same (by_class c)))
      by_found None one = absurd (asks one)
      by_found (Some c) one = (ones_cut keep fram p place_of d true m s well related runs follows [] tt tt, record { epoch = refl; task = refl; bank = refl; looks = refl; cells = refl })

  -- ---- blocks

  pub enter_cuts : (k : ℕ) → CutsAct p place_of d number keeps (act.Enter k) IsTimed
  enter_cuts k next m s well has related runs follows asks = by_mode s.frame.mode refl
    where
      by_time : (o : Mode) (u : Option ℕ) → s.frame.time ≡ u → Cuts p place_of d m s (have u (λ t. sets_frame (entering d k s o t)))
      by_time o None two = absurd (asks.time two)
      by_time o (Some t) two = (ones_cut keep fram p place_of d true m s well related runs follows [] tt tt, record { epoch = refl; task = refl; bank = refl; looks = refl; cells = refl })

      by_mode : (o : Option Mode) → s.frame.mode ≡ o → Cuts p place_of d m s (have o (λ o. have s.frame.time (λ t. sets_frame (entering d k s o t))))
      by_mode None one = absurd (asks.mode one)
      by_mode (Some o) one = by_time o s.frame.time refl

  pub leave_cuts : (k : ℕ) (n : _) (row : _) → CutsAct p place_of d number keeps (act.Leave' k n row) (IsInside k)
  leave_cuts k n row next m s well has related runs follows asks = by_mode s.frame.mode refl
    where
      by_outer : (inside : Mode) (u : Option Mode) → s.frame.outer k ≡ u → Cuts p place_of d m s (have u (λ o. does [] (λ after. record after { frame = record s.frame { mode = Some o } }) (leaving inside)))
      by_outer inside None two = absurd (asks.outer two)
      by_outer inside (Some o) two = (ones_cut keep fram p place_of d true m s well related runs follows [] tt tt, record { epoch = refl; task = refl; bank = refl; looks = refl; cells = refl })

      by_mode : (o : Option Mode) → s.frame.mode ≡ o → Cuts p place_of d m s (have o (λ inside. have (s.frame.outer k) (λ o. does [] (λ after. record after { frame = record s.frame { mode = Some o } }) (leaving inside))))
      by_mode None one = absurd (asks.mode one)
      by_mode (Some inside) one = by_outer inside (s.frame.outer k) refl

  -- ---- words

  pub issue_cuts : (k i q : ℕ) (target : Option CoreTarget) (es : List CoreExpr) → statement_of d k ≡ Some (stmt.Io i target q es) → CutsAct p place_of d number keeps (act.Issue k) HasArguments
  issue_cuts k i q target es plan next m s well has related runs follows asks =
      subst (λ o. Cuts p place_of d m s (issue_done d.setting o k s)) (sym plan) (by_args s.frame.args refl)
    where
      by_args : (o : Option (List ℕ)) → s.frame.args ≡ o
          → Cuts p place_of d m s (have o (λ words. does (showing (journal.issues k (number_of d.setting q) words (reading_next d q s)) ∷ []) (λ after. record after { frame = record s.frame { word = Some (reading_next d q s) } }) ahead))
      by_args None is = absurd (asks is)
      by_args (Some words) is =
          (ones_cut keep fram p place_of d true m s well related runs follows (showing (journal.issues k (number_of d.setting q) words (reading_next d q s)) ∷ []) (tt, tt, tt) (tt, tt), record { epoch = refl; task = refl; bank = refl; looks = refl; cells = refl })

  pub take_cuts : (k : ℕ) → CutsAct p place_of d number keeps (act.Take k) Nothing
  take_cuts k next m s well has related runs follows asks =
      (ones_cut keep fram p place_of d true m s well related runs follows (showing (journal.keeps k (s.cells.value k)) ∷ []) (tt, tt, tt) (tt, tt), record { epoch = refl; task = refl; bank = refl; looks = refl; cells = refl })

  -- a word goes to the target, if there is one
  pub write_cuts : (k : ℕ) → CutsAct p place_of d number keeps (act.Write k) HasAimed
  write_cuts k next m s well has related runs follows asks = by_target s.frame.target refl
    where
      by_word : (at : Place) → s.frame.target ≡ Some (Some at) → (u : Option ℕ) → s.frame.word ≡ u → Cuts p place_of d m s (have u (λ word. words_put (core_of d) (sets at word ∷ []) (put_word at word s.store)))
      by_word at one None two = absurd (asks.word at one two)
      by_word at one (Some w) two =
          let aim : ram.HasTarget (core_of d) (worked d.scheme s.bank) m.store at = related.memory.ram.frame.target at one in
          let word : ram.HasWord m.store 1048614 w = related.memory.ram.frame.word w two in
          let writes : List Write = sets at w ∷ [] in (
            ones_cut keep fram p place_of d true m s well related runs follows (map silent (home_writes (core_of d) writes))
                (writes_fit keep p d m.clock m.issued well writes m.store s ((record { inside = aim.inside; written = aim.written }, word.fits), tt) (cells_alone p d true m.store m.issued s related.memory)) (silent_ones (home_writes (core_of d) writes)),
            record { epoch = refl; task = refl; bank = refl; looks = refl; cells = refl },
          )

      by_target : (o : Option (Option Place)) → s.frame.target ≡ o → Cuts p place_of d m s (have o (λ target. write_done (core_of d) target s))
      by_target None one = absurd (asks.target one)
      by_target (Some None) one = (ones_cut keep fram p place_of d true m s well related runs follows [] tt tt, record { epoch = refl; task = refl; bank = refl; looks = refl; cells = refl })
      by_target (Some (Some at)) one = by_word at one s.frame.word refl
