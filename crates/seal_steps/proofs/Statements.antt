-- Where the code of statements leads: to what comes behind them.
use Rattle.std.specs.Prelude.{⊤, map, Option, Some, None}
use Rattle.std.proofs.Common.{◌≡◌, ◌∙◌, ℕ, ◌+◌, ◌*◌, ◌≤◌, Bool, true, false, List, [], ◌∷◌, ◌++◌, refl, sym, ap, subst, arith}
use Rattle.devices.specs.Journal.{Place}
use Rattle.line_code.specs.declared.line.Line.{Line}
use Rattle.line_code.specs.Lines.{bares, marked}
use Rattle.line_code.specs.Sizes.{expr_size}
use Rattle.line_laws.specs.Standing.{Lie, lie_behind, lie_front}
use Rattle.task_ast.specs.declared.core_form.Core.{Core}
use Rattle.task_ast.specs.declared.core_form.CoreEnd.{CoreEnd}
use Rattle.task_ast.specs.declared.core_form.CoreExpr.{CoreExpr}
use Rattle.task_ast.specs.declared.core_form.CoreStmt.{CoreStmt, Row_of-CoreStmt, end_of-CoreStmt, more_of-CoreStmt}
use Rattle.task_ast.specs.declared.core_form.CoreStmt.TheVariants as stmt
use Rattle.task_ast.specs.CoreSites.{row_numbers}
use Rattle.word_isa.specs.declared.instr.Instr.TheVariants.{Io, St}
use Rattle.word_isa.specs.declared.mark.MarkKind.TheVariants as mark
use Rattle.word_machine.specs.State.{Program}
use Rattle.run_plan.specs.declared.act.Act.{Act, Row_of-Act, end_of-Act, more_of-Act, items-the_row-Act}
use Rattle.run_plan.specs.declared.act.Act.TheVariants as act
use Rattle.run_plan.specs.PlanOf.{Around, block_acts, block_end_acts, call_acts, copy_acts, issue_acts, row_acts, statement_acts, unless_plain}
use Rattle.run_plan.specs.Rows.{act_row_of, act_row_shows}
use Rattle.word_code.specs.ActCode.{acts_entry, entry}
use Rattle.word_code.specs.ActLaws.{entry_of_acts}
use Rattle.word_code.specs.Acts.{count_of, jump, load_code, peripheral_of}
use Rattle.word_code.specs.Finding.{statement_at}
use Rattle.word_code.specs.Frames.{Frame, sign, site_at}
use Rattle.word_code.specs.Repeats.{each}
use Rattle.word_code.specs.Sizes.{act_size, acts_size, row_size}
use Rattle.word_code.specs.Tables.{ann_of, keeps_size}
use Rattle.word_code.specs.Values.{copy_code, end_size, length_code, value_code}
use Rattle.code_places.specs.Placed.{ActLies, ActsLie, RowLies}
use Rattle.seal_steps.proofs.Acts.{Fixed, calm_jump, calm_range, call_valued_flows, choose_flows, drop_flows, empty, enter_flows, leave_flows, loads_straight, look_flows, none_out, nowhere, plain_flows, seal_flows, straight_jump, take_flows, test_flows, write_flows}
use Rattle.seal_steps.proofs.Lines.{Calm, Straight, calm_as, end_calm, expr_calm, join, straight}
use Rattle.seal_steps.proofs.Telling.{Soon, issue_flows, seal_soon, soon_jump, soon_plain, tells_more}

-- ---- where lists lie

entry_is : (at next n : _) (row : Row_of-Act n) → entry row at next ≡ acts_entry (items-the_row-Act n row) at next
entry_is at next n end_of-Act = refl
entry_is at next n (more_of-Act a rest) = refl

module _ (p : Program) (f : Frame) (keeps : Bool) where
  rows_lie : (at next n : _) (row : Row_of-Act n) → RowLies p f keeps row at next ≡ ActsLie p f keeps (items-the_row-Act n row) at next
  rows_lie at next n end_of-Act = refl
  rows_lie at next n (more_of-Act a rest) =
      let behind_at : ℕ = at + act_size f a in
      λ i. ActLies p f keeps a at (entry_is behind_at next _ rest i) × rows_lie behind_at next _ rest i

  pub lists_lie : (at next : ℕ) (acts : List Act) → RowLies p f keeps (act_row_of acts).1 at next → ActsLie p f keeps acts at next
  lists_lie at next acts lies = subst (λ t. t) (rows_lie at next (act_row_of acts).0 (act_row_of acts).1 ∙ ap (λ x. ActsLie p f keeps x at next) (act_row_shows acts)) lies

  -- one list behind another
  pub entry_joined : (xs ys : List Act) (at next : ℕ) → acts_entry (xs ++ ys) at next ≡ acts_entry xs at (acts_entry ys (at + acts_size f xs) next)
  entry_joined [] ys at next = let same : at ≡ at + 0 = omega arith in ap (λ x. acts_entry ys x next) same
  entry_joined (x ∷ xs) ys at next = refl

  pub record Split (xs ys : List Act) (at next : ℕ) : Type 0 where
    pub first : ActsLie p f keeps xs at (acts_entry ys (at + acts_size f xs) next)
    pub second : ActsLie p f keeps ys (at + acts_size f xs) next

  pub split : (xs ys : List Act) (at next : ℕ) → ActsLie p f keeps (xs ++ ys) at next → Split xs ys at next
  split [] ys at next lies = let same : at ≡ at + 0 = omega arith in record { first = tt; second = subst (λ x. ActsLie p f keeps ys x next) same lies }
  split (x ∷ xs) ys at next lies =
      let behind_at : ℕ = at + act_size f x in
      let rest : Split xs ys behind_at next = split xs ys behind_at next lies.1 in
      let sum : behind_at + acts_size f xs ≡ at + (act_size f x + acts_size f xs) = omega arith in
      record {
        first = (subst (λ e. ActLies p f keeps x at e) (entry_joined xs ys behind_at next ∙ ap (λ y. acts_entry xs behind_at (acts_entry ys y next)) sum) lies.0, subst (λ y. ActsLie p f keeps xs behind_at (acts_entry ys y next)) sum rest.first);
        second = subst (λ y. ActsLie p f keeps ys y next) sum rest.second;
      }

module _ (c : Core) (place_of : ℕ → Place) (p : Program) (f : Frame) (few : (k : ℕ) → count_of (statement_at f k) ≤ 4) (n : ℕ) where
  -- from the entry of a list's code to what comes next
  abbrev pub ListFlows : (keeps : Bool) → List Act → Type 0
  ListFlows keeps acts = (at next : ℕ) → ActsLie p f keeps acts at next → Fixed c place_of p n next → Fixed c place_of p n (acts_entry acts at next)

  -- and of one act's
  abbrev pub ActFlows : (keeps : Bool) → Act → Type 0
  ActFlows keeps a = (at next : ℕ) → ActLies p f keeps a at next → Fixed c place_of p n next → Fixed c place_of p n at

  pub none_flow : (keeps : Bool) → ListFlows keeps []
  none_flow keeps at next lies behind = behind

  pub one_more : (keeps : Bool) (a : Act) (rest : List Act) → ActFlows keeps a → ListFlows keeps rest → ListFlows keeps (a ∷ rest)
  one_more keeps a rest one two at next lies behind = one at (acts_entry rest (at + act_size f a) next) lies.0 (two (at + act_size f a) next lies.1 behind)

  pub and_then : (keeps : Bool) (xs ys : List Act) → ListFlows keeps xs → ListFlows keeps ys → ListFlows keeps (xs ++ ys)
  and_then keeps xs ys one two at next lies behind =
      let h : Split p f keeps xs ys at next = split p f keeps xs ys at next lies in
      subst (λ x. Fixed c place_of p n x) (sym (entry_joined p f keeps xs ys at next)) (one at (acts_entry ys (at + acts_size f xs) next) h.first (two (at + acts_size f xs) next h.second behind))

  pub in_list : (keeps : Bool) (acts : List Act) (at next : ℕ) → RowLies p f keeps (act_row_of acts).1 at next → ListFlows keeps acts → Fixed c place_of p n next → Fixed c place_of p n (entry (act_row_of acts).1 at next)
  in_list keeps acts at next lies flows behind = subst (λ x. Fixed c place_of p n x) (sym (entry_of_acts at next acts)) (flows at next (lists_lie p f keeps at next acts lies) behind)

  -- ---- acts with lists

  pub test_list : (e : CoreExpr) (ys ns : List Act) → ListFlows false ys → ListFlows false ns → ActFlows false (act.Test e ys ns)
  test_list e ys ns one two at next lies behind =
      let yes_at : ℕ = at + expr_size e + 4 in
      let no_at : ℕ = yes_at + row_size f (act_row_of ys).1 in
      test_flows c place_of p f e at (entry (act_row_of ys).1 yes_at next) (entry (act_row_of ns).1 no_at next) _ lies.0 n (in_list false ys yes_at next lies.1 one behind) (in_list false ns no_at next lies.2 two behind)

  pub choose_list : (k : ℕ) (xs ys : List Act) → ListFlows false xs → ListFlows true ys → ActFlows false (act.Choose k xs ys)
  choose_list k xs ys one two at next lies behind =
      let issue_at : ℕ = at + keeps_size (site_at f k) + 3 in
      let keep_at : ℕ = issue_at + row_size f (act_row_of xs).1 in
      choose_flows c place_of p f (site_at f k) k at (entry (act_row_of ys).1 keep_at next) (entry (act_row_of xs).1 issue_at next) _ lies.0 n (in_list true ys keep_at next lies.2 two behind) (in_list false xs issue_at next lies.1 one behind)

  pub leave_list : (k : ℕ) (xs : List Act) → ListFlows false xs → ActFlows false (act.Leave k xs)
  leave_list k xs one at next lies behind = leave_flows c place_of p f k at next (entry (act_row_of xs).1 (at + 8) next) _ lies.0 n behind (in_list false xs (at + 8) next lies.1 one behind)

  -- ---- calls and blocks

  -- an issue, and its seal
  sealed_issue : (k : ℕ) → ListFlows false (act.Issue k ∷ act.Seal k ∷ [])
  sealed_issue k at next lies behind =
      let o = statement_at f k in
      let count : ℕ = count_of o in
      let word : ℕ = 256 * count + peripheral_of f o in
      let loads : List Line = bares (each load_code 0 count) in
      let seal_at : ℕ = at + act_size f (act.Issue k) in
      let rest : List Line = (marked (sign f mark.Issue k) (Io 1 4 word) ∷ bares (St 1 15 38 ∷ [])) ++ jump seal_at in
      let io_at : ℕ = at + count in
      let h : Straight count loads = loads_straight count (few k) in
      let lies_in : Lie p at (loads ++ rest) = regrouped at loads (marked (sign f mark.Issue k) (Io 1 4 word) ∷ bares (St 1 15 38 ∷ [])) (jump seal_at) lies.0 in
      let here : Lie p io_at rest = lie_behind p at loads rest io_at lies_in (omega (arith, h.long)) in
      let sealed : Fixed c place_of p n seal_at = seal_flows c place_of p f k (site_at f k) seal_at next lies.1.0 n behind in
      let soon : Soon place_of p 12 (io_at + 1) =
      soon_plain place_of p 11 (io_at + 1) (St 1 15 38) here.1.0.instr refl (soon_jump place_of p 10 (io_at + 1 + 1) seal_at here.1.1.0.instr
      (λ m pc. tells_more place_of p 9 _ (seal_soon place_of p f k (site_at f k) seal_at (jump next) lies.1.0 m pc))) in
      let stored : Fixed c place_of p n (io_at + 1) = straight_jump c place_of p (io_at + 1) 1 seal_at (bares (St 1 15 38 ∷ [])) (record { long = refl; steady = refl }) (here.1.0, (here.1.1.0, tt)) n sealed in
      calm_range c place_of p at io_at count nowhere loads (straight at io_at nowhere at (omega arith) (omega arith) h) refl (lie_front p at loads rest lies_in) n
      (issue_flows c place_of p io_at word n here.0.instr soon stored) (none_out c place_of p n)
    where
      regrouped : (at : ℕ) (xs ys zs : List Line) → Lie p at ((xs ++ ys) ++ zs) → Lie p at (xs ++ (ys ++ zs))
      regrouped at [] ys zs lies = lies
      regrouped at (x ∷ xs) ys zs lies = (lies.0, regrouped (at + 1) xs ys zs lies.1)

  drops_flow : (ks : List ℕ) → ListFlows false (map act.Drop ks)
  drops_flow [] = none_flow false
  drops_flow (k ∷ ks) = one_more false (act.Drop k) (map act.Drop ks) (λ at next lies behind. drop_flows c place_of p f k at next lies n behind) (drops_flow ks)

  issued_flow : (a : Around) (k : ℕ) → ListFlows false (issue_acts a k)
  issued_flow a k = and_then false (act.Drop k ∷ map act.Drop (a.dependents k)) (act.Issue k ∷ act.Seal k ∷ []) (drops_flow (k ∷ a.dependents k)) (sealed_issue k)

  -- what is valued
  copied_calm : (to from : CoreEnd) (e : CoreExpr) (at : ℕ) → Calm at (at + (end_size to + end_size from + expr_size e + 20)) nowhere at (end_size to + end_size from + expr_size e + 20) (copy_code f.areas to from e at)
  copied_calm to from e at =
      let hi : ℕ = at + (end_size to + end_size from + expr_size e + 20) in
      let last : Straight 20 length_code = record { long = refl; steady = refl } in
      calm_as at hi nowhere (end_size to + end_size from + expr_size e + 20)
      (join at hi nowhere (end_calm at hi nowhere f.areas to 40 at (omega arith) (omega arith)) (at + end_size to) refl
      (join at hi nowhere (end_calm at hi nowhere f.areas from 42 (at + end_size to) (omega arith) (omega arith)) (at + end_size to + end_size from) refl
      (join at hi nowhere (expr_calm at hi nowhere f.areas e 0 (at + end_size to + end_size from) (omega arith) (omega arith)) (at + end_size to + end_size from + expr_size e) refl
      (straight at hi nowhere (at + end_size to + end_size from + expr_size e) (omega arith) (omega arith) last)))) (omega arith)

  pub valued_flow : (o : Option CoreStmt) (at next : ℕ) → Lie p at (value_code f.areas o at ++ jump next) → Fixed c place_of p n next → Fixed c place_of p n at
  valued_flow (Some (stmt.Io k x q args)) at next lies behind = call_valued_flows c place_of p f k x q args at next lies n behind
  valued_flow (Some (stmt.Copy k to from e)) at next lies behind = calm_jump c place_of p at (end_size to + end_size from + expr_size e + 20) next (copy_code f.areas to from e at) (copied_calm to from e at) lies n behind
  valued_flow None at next lies behind = straight_jump c place_of p at 0 next [] empty lies n behind
  valued_flow (Some (stmt.Assign x e)) at next lies behind = straight_jump c place_of p at 0 next [] empty lies n behind
  valued_flow (Some (stmt.Point q array i)) at next lies behind = straight_jump c place_of p at 0 next [] empty lies n behind
  valued_flow (Some (stmt.If' e m yes_row l no_row)) at next lies behind = straight_jump c place_of p at 0 next [] empty lies n behind
  valued_flow (Some (stmt.Loop' i turns m row)) at next lies behind = straight_jump c place_of p at 0 next [] empty lies n behind
  valued_flow (Some (stmt.Block' k m row)) at next lies behind = straight_jump c place_of p at 0 next [] empty lies n behind

  module _ (a : Around) where
    call_flow : (k : ℕ) → ListFlows false (call_acts a k)
    call_flow k =
        one_more false (act.Value k) (act.Look k ∷ act.Choose k (issue_acts a k) (act.Take k ∷ []) ∷ act.Write k ∷ []) (λ at next lies behind. valued_flow (statement_at f k) at next lies behind)
        (one_more false (act.Look k) (act.Choose k (issue_acts a k) (act.Take k ∷ []) ∷ act.Write k ∷ []) (λ at next lies behind. look_flows c place_of p f k at next lies n behind)
        (one_more false (act.Choose k (issue_acts a k) (act.Take k ∷ [])) (act.Write k ∷ [])
        (choose_list k (issue_acts a k) (act.Take k ∷ []) (issued_flow a k) (one_more true (act.Take k) [] (λ at next lies behind. take_flows c place_of p f k at next lies n behind) (none_flow true)))
        (one_more false (act.Write k) [] (λ at next lies behind. write_flows c place_of p f (statement_at f k) at next lies n behind) (none_flow false))))

    ended_flow : (k : ℕ) → ListFlows false (block_end_acts k)
    ended_flow k =
        one_more false (act.Drop k) (act.Seal k ∷ []) (λ at next lies behind. drop_flows c place_of p f k at next lies n behind)
        (one_more false (act.Seal k) [] (λ at next lies behind. seal_flows c place_of p f k (site_at f k) at next lies n behind) (none_flow false))

    block_flow : (k : ℕ) (body : List Act) → ListFlows false body → ListFlows false (block_acts k body)
    block_flow k body inside =
        one_more false (act.Look k) (act.Enter k ∷ body ++ act.Leave k (block_end_acts k) ∷ []) (λ at next lies behind. look_flows c place_of p f k at next lies n behind)
        (one_more false (act.Enter k) (body ++ act.Leave k (block_end_acts k) ∷ []) (λ at next lies behind. enter_flows c place_of p f (ann_of (site_at f k)) k at next lies n behind)
        (and_then false body (act.Leave k (block_end_acts k) ∷ []) inside (one_more false (act.Leave k (block_end_acts k)) [] (leave_list k (block_end_acts k) (ended_flow k)) (none_flow false))))

    -- ---- statements

    abbrev mutual
      -- the acts of each copy in a statement lead to what comes behind them
      pub CopiesFlow : CoreStmt → Type 0
      CopiesFlow (stmt.Assign x e) = ⊤
      CopiesFlow (stmt.Point q array i) = ⊤
      CopiesFlow (stmt.If' e m yes_row l no_row) = AllCopiesFlow yes_row × AllCopiesFlow no_row
      CopiesFlow (stmt.Loop' i turns m row) = ⊤
      CopiesFlow (stmt.Io k x q args) = ⊤
      CopiesFlow (stmt.Block' k m row) = AllCopiesFlow row
      CopiesFlow (stmt.Copy k to from e) = ListFlows false (copy_acts a k)

      pub AllCopiesFlow : {n : _} → Row_of-CoreStmt n → Type 0
      AllCopiesFlow end_of-CoreStmt = ⊤
      AllCopiesFlow (more_of-CoreStmt s rest) = CopiesFlow s × AllCopiesFlow rest

    plain_flow : (s : CoreStmt) → ListFlows false (act.Plain s ∷ [])
    plain_flow s = one_more false (act.Plain s) [] (λ at next lies behind. plain_flows c place_of p f s at next lies n behind) (none_flow false)

    unless_flow : (sites : List ℕ) (s : CoreStmt) (test : Act) → ActFlows false test → ListFlows false (unless_plain sites s test ∷ [])
    unless_flow [] s test flows = plain_flow s
    unless_flow (k ∷ ks) s test flows = one_more false test [] flows (none_flow false)

    mutual
      pub statement_flow : (s : CoreStmt) → CopiesFlow s → ListFlows false (statement_acts a s)
      statement_flow (stmt.Assign x e) copies = plain_flow (stmt.Assign x e)
      statement_flow (stmt.Point q array i) copies = plain_flow (stmt.Point q array i)
      statement_flow (stmt.If' e m yes_row l no_row) copies =
          unless_flow (row_numbers yes_row ++ row_numbers no_row) (stmt.If' e m yes_row l no_row) (act.Test e (row_acts a yes_row) (row_acts a no_row))
          (test_list e (row_acts a yes_row) (row_acts a no_row) (row_flow yes_row copies.0) (row_flow no_row copies.1))
      statement_flow (stmt.Loop' i turns m row) copies = plain_flow (stmt.Loop' i turns m row)
      statement_flow (stmt.Io k x q args) copies = call_flow k
      statement_flow (stmt.Block' k m row) copies = block_flow k (row_acts a row) (row_flow row copies)
      statement_flow (stmt.Copy k to from e) copies = copies

      row_flow : {n : _} (row : Row_of-CoreStmt n) → AllCopiesFlow row → ListFlows false (row_acts a row)
      row_flow end_of-CoreStmt copies = none_flow false
      row_flow (more_of-CoreStmt s rest) copies = and_then false (statement_acts a s) (row_acts a rest) (statement_flow s copies.0) (row_flow rest copies.1)
