-- Where the acts of each copy of a task lead: to what comes behind them.
use Rattle.std.specs.Prelude.{Some}
use Rattle.std.specs.List.{AllByRecursion}
use Rattle.std.proofs.Common.{◌≡◌, ℕ, ◌+◌, ◌<◌, ◌≤◌, true, false, List, [], ◌∷◌, ◌++◌, refl, sym, subst, arith}
use Rattle.devices.specs.Journal.{Place}
use Rattle.line_code.specs.declared.line.Line.{Line}
use Rattle.line_code.specs.Areas.{area_at}
use Rattle.line_code.specs.Lines.{bares}
use Rattle.line_laws.specs.Standing.{Lie, lie_behind}
use Rattle.task_ast.specs.declared.core_form.Core.{Core}
use Rattle.task_ast.specs.declared.core_form.CoreEnd.{CoreEnd}
use Rattle.task_ast.specs.declared.core_form.CoreExpr.{CoreExpr}
use Rattle.task_ast.specs.declared.core_form.CoreStmt.{CoreStmt, Row_of-CoreStmt, end_of-CoreStmt, more_of-CoreStmt}
use Rattle.task_ast.specs.declared.core_form.CoreStmt.TheVariants as stmt
use Rattle.word_isa.specs.declared.instr.Instr.TheVariants.{Eq, Ld, Ldi}
use Rattle.word_isa.specs.declared.parts.Scheme.{Scheme}
use Rattle.word_isa.specs.declared.parts.Scheme.TheVariants.{Undo, Bank}
use Rattle.word_machine.specs.State.{Program}
use Rattle.run_plan.specs.declared.act.Act.{Act}
use Rattle.run_plan.specs.declared.act.Act.TheVariants as act
use Rattle.run_plan.specs.declared.act.Leg.TheVariants.{Across, FromKept, ToKept}
use Rattle.run_plan.specs.PlanOf.{Around, again_acts, anew_acts, copy_acts, save_acts}
use Rattle.run_plan.specs.Rows.{act_row_of}
use Rattle.word_code.specs.ActCode.{acts_entry, entry, row_code}
use Rattle.word_code.specs.ActLaws.{entry_of_acts}
use Rattle.word_code.specs.Acts.{count_of, jump}
use Rattle.word_code.specs.Finding.{statement_at}
use Rattle.word_code.specs.Frames.{Frame, kept_at, site_at, value_at}
use Rattle.word_code.specs.Sizes.{act_size, row_size}
use Rattle.word_code.specs.Tables.{class_test, keeps_size}
use Rattle.word_code.specs.Values.{copy_code, value_code}
use Rattle.word_code.proofs.SiteLaws.{AreFound, IsFound}
use Rattle.code_places.specs.Placed.{ActLies, ActsLie}
use Rattle.code_places.proofs.LineGoods.{LiesLow}
use Rattle.seal_steps.specs.Places.{TellsMemory}
use Rattle.seal_steps.proofs.Acts.{Fixed, branch_range, seal_flows}
use Rattle.seal_steps.proofs.Classes.{Both, Classed, IsClass, Where, choose_keeps, class_goes, classed_moves, forget, lock_keeps, save_keeps, valued_classed}
use Rattle.seal_steps.proofs.CopyActs.{from_kept_flows, rest_flows, single_flows, to_kept_flows}
use Rattle.seal_steps.proofs.Loops.{put_flows}
use Rattle.seal_steps.proofs.Statements.{AllCopiesFlow, CopiesFlow, ListFlows, lists_lie}
use Rattle.seal_steps.proofs.Telling.{seal_soon}

module _ (c : Core) (place_of : ℕ → Place) (p : Program) (tells : TellsMemory c place_of) (f : Frame) (few : (k : ℕ) → count_of (statement_at f k) ≤ 4) (kept_low : (k : ℕ) → kept_at f k < 1048576) (low : (a : ℕ) → LiesLow (area_at f.areas a)) (n : ℕ) where
  abbrev single_acts : ℕ → List Act
  single_acts k = act.Transfer k Across ∷ act.KeepWords k ∷ act.Seal k ∷ []

  abbrev private_acts : ℕ → List Act
  private_acts k = act.Transfer k ToKept ∷ act.Seal k ∷ act.Transfer k FromKept ∷ []

  abbrev rest_acts : ℕ → List Act
  rest_acts k = act.Transfer k Across ∷ []

  -- of class Private
  private_flows : (k b next : ℕ) → ActsLie p f false (private_acts k) b next → Fixed c place_of p n next → Fixed c place_of p n b
  private_flows k b next lies behind =
      let seal_at : ℕ = b + act_size f (act.Transfer k ToKept) in
      let from_at : ℕ = seal_at + act_size f (act.Seal k) in
      let brought : Fixed c place_of p n from_at = from_kept_flows c place_of p tells f kept_low n k from_at next lies.1.1.0 behind in
      let sealed : Fixed c place_of p n seal_at = seal_flows c place_of p f k (site_at f k) seal_at from_at lies.1.0 n brought in
      to_kept_flows c place_of p tells f kept_low n k b seal_at lies.0 (seal_soon place_of p f k (site_at f k) seal_at (jump from_at) lies.1.0) sealed

  -- anew, by its class
  anew_flows : (k at next : ℕ) → ActLies p f false (act.ByClass k (single_acts k) (private_acts k) (rest_acts k)) at next → Fixed c place_of p n next → Where c place_of p Classed n at
  anew_flows k at next lies behind =
      let single_at : ℕ = at + 12 in
      let private_at : ℕ = single_at + row_size f (act_row_of (single_acts k)).1 in
      let rest_at : ℕ = private_at + row_size f (act_row_of (private_acts k)).1 in
      let single_entry : ℕ = entry (act_row_of (single_acts k)).1 single_at next in
      let private_entry : ℕ = entry (act_row_of (private_acts k)).1 private_at next in
      let rest_entry : ℕ = entry (act_row_of (rest_acts k)).1 rest_at next in
      let single : Where c place_of p (Both Classed (IsClass 1 true)) n single_entry =
      subst (λ x. Where c place_of p (Both Classed (IsClass 1 true)) n x) (sym (entry_of_acts single_at next (single_acts k))) (single_flows c place_of p tells f kept_low n k single_at next (lists_lie p f false single_at next (single_acts k) lies.1) behind) in
      let private : Where c place_of p (Both (Both Classed (IsClass 1 false)) (IsClass 2 true)) n private_entry =
      subst (λ x. Where c place_of p (Both (Both Classed (IsClass 1 false)) (IsClass 2 true)) n x) (sym (entry_of_acts private_at next (private_acts k)))
      (forget c place_of p (Both (Both Classed (IsClass 1 false)) (IsClass 2 true)) n private_at (private_flows k private_at next (lists_lie p f false private_at next (private_acts k) lies.2) behind)) in
      let other : Where c place_of p (Both (Both Classed (IsClass 1 false)) (IsClass 2 false)) n rest_entry =
      subst (λ x. Where c place_of p (Both (Both Classed (IsClass 1 false)) (IsClass 2 false)) n x) (sym (entry_of_acts rest_at next (rest_acts k))) (rest_flows c place_of p tells f kept_low n k rest_at next (lists_lie p f false rest_at next (rest_acts k) lies.3) behind) in
      let parts : List Line = row_code f false (act_row_of (single_acts k)).1 single_at next ++ (row_code f false (act_row_of (private_acts k)).1 private_at next ++ row_code f false (act_row_of (rest_acts k)).1 rest_at next) in
      let later : List Line = class_test false k 2 private_entry rest_entry ++ parts in
      let second : Lie p (at + 6) later = lie_behind p at (class_test false k 1 single_entry (at + 6)) later (at + 6) lies.0 (omega arith) in
      class_goes c place_of p Classed k 1 at single_entry (at + 6) n later lies.0 single (class_goes c place_of p (Both Classed (IsClass 1 false)) k 2 (at + 6) private_entry rest_entry n parts second private other)

  -- again, by the record's class
  again_flows : (k at next : ℕ) → ActLies p f true (act.ByClass k (act.PutWords k ∷ []) (act.Transfer k FromKept ∷ []) []) at next → Fixed c place_of p n next → Fixed c place_of p n at
  again_flows k at next lies behind =
      let put_at : ℕ = at + 12 in
      let from_at : ℕ = put_at + row_size f (act_row_of (act.PutWords k ∷ [])).1 in
      let none_at : ℕ = from_at + row_size f (act_row_of (act.Transfer k FromKept ∷ [])).1 in
      let put_entry : ℕ = entry (act_row_of (act.PutWords k ∷ [])).1 put_at next in
      let from_entry : ℕ = entry (act_row_of (act.Transfer k FromKept ∷ [])).1 from_at next in
      let none_entry : ℕ = entry (act_row_of []).1 none_at next in
      let puts : Fixed c place_of p n put_entry =
      subst (λ x. Fixed c place_of p n x) (sym (entry_of_acts put_at next (act.PutWords k ∷ []))) (put_flows c place_of p f k put_at next n (lists_lie p f true put_at next (act.PutWords k ∷ []) lies.1).0 behind) in
      let brings : Fixed c place_of p n from_entry =
      subst (λ x. Fixed c place_of p n x) (sym (entry_of_acts from_at next (act.Transfer k FromKept ∷ [])))
      (from_kept_flows c place_of p tells f kept_low n k from_at next (lists_lie p f true from_at next (act.Transfer k FromKept ∷ []) lies.2).0 behind) in
      let none : Fixed c place_of p n none_entry = subst (λ x. Fixed c place_of p n x) (sym (entry_of_acts none_at next [])) behind in
      let parts : List Line = row_code f true (act_row_of (act.PutWords k ∷ [])).1 put_at next ++ (row_code f true (act_row_of (act.Transfer k FromKept ∷ [])).1 from_at next ++ row_code f true (act_row_of []).1 none_at next) in
      let behind_test : List Line = class_test true k 2 from_entry none_entry ++ parts in
      let second : Lie p (at + 6) behind_test = lie_behind p at (class_test true k 1 put_entry (at + 6)) behind_test (at + 6) lies.0 (omega arith) in
      let later : Fixed c place_of p n (at + 6) = branch_range c place_of p (at + 6) 3 from_entry none_entry (bares (Ld 1 0 (value_at k) ∷ Ldi 2 2 ∷ Eq 1 2 ∷ [])) parts (record { long = refl; steady = refl }) second n brings none in
      branch_range c place_of p at 3 put_entry (at + 6) (bares (Ld 1 0 (value_at k) ∷ Ldi 2 1 ∷ Eq 1 2 ∷ [])) behind_test (record { long = refl; steady = refl }) lies.0 n puts later

  -- by whether it has a record
  choice_flows : (k at next : ℕ) → ActLies p f false (act.Choose k (anew_acts k) (again_acts k)) at next → Fixed c place_of p n next → Where c place_of p Classed n at
  choice_flows k at next lies behind =
      let issue_at : ℕ = at + keeps_size (site_at f k) + 3 in
      let keep_at : ℕ = issue_at + row_size f (act_row_of (anew_acts k)).1 in
      let anew : Where c place_of p Classed n (entry (act_row_of (anew_acts k)).1 issue_at next) =
      subst (λ x. Where c place_of p Classed n x) (sym (entry_of_acts issue_at next (anew_acts k))) (anew_flows k issue_at next (lists_lie p f false issue_at next (anew_acts k) lies.1).0 behind) in
      let again : Fixed c place_of p n (entry (act_row_of (again_acts k)).1 keep_at next) =
      subst (λ x. Fixed c place_of p n x) (sym (entry_of_acts keep_at next (again_acts k))) (again_flows k keep_at next (lists_lie p f true keep_at next (again_acts k) lies.2).0 behind) in
      choose_keeps c place_of p Classed classed_moves (site_at f k) k at (entry (act_row_of (again_acts k)).1 keep_at next) (entry (act_row_of (anew_acts k)).1 issue_at next) _ lies.0 n
      (forget c place_of p Classed n (entry (act_row_of (again_acts k)).1 keep_at next) again) anew

  -- what a copy saves, and its choice
  saved_flows : (scheme : Scheme) (r k at next : ℕ) → r ≤ 59390 → ActsLie p f false (save_acts scheme r ++ act.Choose k (anew_acts k) (again_acts k) ∷ []) at next → Fixed c place_of p n next
      → Where c place_of p Classed n (acts_entry (save_acts scheme r ++ act.Choose k (anew_acts k) (again_acts k) ∷ []) at next)
  saved_flows Undo r k at next few lies behind =
      let lock_at : ℕ = at + act_size f (act.Save r) in
      let choose_at : ℕ = lock_at + act_size f (act.Lock r) in
      save_keeps c place_of p Classed classed_moves f low r at lock_at n lies.0 (lock_keeps c place_of p Classed classed_moves r lock_at choose_at n few lies.1.0 (choice_flows k choose_at next lies.1.1.0 behind))
  saved_flows Bank r k at next few lies behind = choice_flows k at next lies.0 behind

  module _ (a : Around) (regions : (k : ℕ) → a.region k ≤ 59390) where
    copy_flow : (k : ℕ) (to from : CoreEnd) (e : CoreExpr) → statement_at f k ≡ Some (stmt.Copy k to from e) → ListFlows c place_of p f few n false (copy_acts a k)
    copy_flow k to from e found at next lies behind =
        let rest : List Act = save_acts a.scheme (a.region k) ++ act.Choose k (anew_acts k) (again_acts k) ∷ [] in
        let value_next : ℕ = acts_entry rest (at + act_size f (act.Value k)) next in
        let code : Lie p at (copy_code f.areas to from e at ++ jump value_next) = subst (λ o. Lie p at (value_code f.areas o at ++ jump value_next)) found lies.0 in
        valued_classed c place_of p f to from e n at value_next code (saved_flows a.scheme (a.region k) k (at + act_size f (act.Value k)) next (regions k) lies.1 behind)

    mutual
      copies_lead : (s : CoreStmt) → IsFound (statement_at f) s → CopiesFlow c place_of p f few n a s
      copies_lead (stmt.Assign x e) found = tt
      copies_lead (stmt.Point q array i) found = tt
      copies_lead (stmt.If' e m yes_row l no_row) found = (row_copies yes_row found.0, row_copies no_row found.1)
      copies_lead (stmt.Loop' i turns m row) found = tt
      copies_lead (stmt.Io k x q args) found = tt
      copies_lead (stmt.Block' k m row) found = row_copies row found
      copies_lead (stmt.Copy k to from e) found = copy_flow k to from e found

      row_copies : {l : _} (row : Row_of-CoreStmt l) → AreFound (statement_at f) row → AllCopiesFlow c place_of p f few n a row
      row_copies end_of-CoreStmt found = tt
      row_copies (more_of-CoreStmt s rest) found = (copies_lead s found.0, row_copies rest found.1)

    pub body_copies : (body : List CoreStmt) → AllByRecursion (IsFound (statement_at f)) body → AllByRecursion (CopiesFlow c place_of p f few n a) body
    body_copies [] found = tt
    body_copies (s ∷ rest) found = (copies_lead s found.0, body_copies rest found.1)
