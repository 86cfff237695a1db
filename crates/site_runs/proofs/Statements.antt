-- The acts of statements lead on, inside whatever blocks: one induction over the statements of a body.
use Rattle.std.specs.Prelude.{◌-◌, Some, length, Option}
use Rattle.std.specs.List.{AllByRecursion, range_with_len}
use Rattle.std.proofs.Common.{◌≡◌, ◌∙◌, ℕ, suc, ◌+◌, ◌<◌, ◌≤◌, Bool, true, false, List, [], ◌∷◌, ◌++◌, refl, sym, ap, subst, arith}
use Rattle.std.proofs.lemmas.List.FromFn.{length-range_with_len}
use Rattle.devices.specs.Journal.{Place}
use Rattle.io_flow.specs.Written.{Covers, back_of, front_of}
use Rattle.task_ast.specs.CoreSites.{all_numbers, all_standings, greatest, row_numbers, row_standings, site_numbers, standings}
use Rattle.task_ast.specs.Pointing.{addresses, all_addresses, pointing, row_addresses}
use Rattle.task_ast.specs.Readable.{IsReadableAnn}
use Rattle.task_ast.specs.WellFormed.{AreCoreStmts, IsCoreExpr, IsCoreStmt, IsCoreTask, IsWellFormed, scope_of}
use Rattle.task_ast.specs.WellFormed as formed
use Rattle.task_ast.specs.declared.core_form.Core.{Core}
use Rattle.task_ast.specs.declared.core_form.CoreExpr.{CoreExpr}
use Rattle.task_ast.specs.declared.core_form.CoreStmt.{CoreStmt, Row_of-CoreStmt, end_of-CoreStmt, more_of-CoreStmt}
use Rattle.task_ast.specs.declared.core_form.CoreStmt.TheVariants as stmt
use Rattle.task_ast.specs.declared.core_form.CoreTask.{CoreTask}
use Rattle.task_ast.specs.declared.core_form.Site.{Site}
use Rattle.task_ast.specs.declared.core_form.Site.TheVariants as site
use Rattle.task_ast.specs.declared.tree.Ann.{Ann}
use Rattle.task_ast.specs.declared.tree.Ann.TheVariants.{Single, Timely, Always}
use Rattle.task_attempts.specs.Boots.{task_of}
use Rattle.task_attempts.specs.Calls.{site_at}
use Rattle.word_machine.specs.State as machine
use Rattle.word_machine.specs.State.{Program}
use Rattle.word_machine.specs.Straight.{Spot}
use Rattle.line_code.specs.Sizes.{expr_size}
use Rattle.run_plan.specs.declared.act.Act.{Act}
use Rattle.run_plan.specs.declared.act.Act.TheVariants as act
use Rattle.run_plan.specs.Cells.{State}
use Rattle.run_plan.specs.Finding.{found_among, found_in, found_in_row, statement_of}
use Rattle.run_plan.specs.PlanOf.{Around, around, body_acts, row_acts, statement_acts, unless_plain}
use Rattle.run_plan.specs.Rows.{act_row_of}
use Rattle.run_plan.specs.RunRows.{lists_run}
use Rattle.run_plan.specs.Runs.{by_way, row_run, straight}
use Rattle.run_plan.specs.Small.{Doing, core_of}
use Rattle.word_code.specs.ActCode.{acts_entry, entry}
use Rattle.word_code.specs.ActLaws.{entry_of_acts}
use Rattle.word_code.specs.Finding.{statement_at}
use Rattle.word_code.specs.Frames.{Frame}
use Rattle.word_code.specs.Sizes.{row_size}
use Rattle.word_code.proofs.ShortLaws.{expr_short}
use Rattle.word_code.proofs.SiteLaws as code
use Rattle.plan_laws.specs.PlacedSites.{Next, Placed, back_next, first_next, front_next, placed_parts, row_long, same_long, task_placed}
use Rattle.code_places.specs.Placed.{ActsLie}
use Rattle.act_laws.specs.Words.{FitsLimit}
use Rattle.act_refines.specs.Between.{AreRelated}
use Rattle.act_refines.specs.Does.{frame_of}
use Rattle.act_refines.proofs.Begins.{few_pointers}
use Rattle.code_cuts.specs.Lasting.{Lasts}
use Rattle.code_runs.specs.Claims.{Common}
use Rattle.code_runs.specs.Following.{AnyWay}
use Rattle.code_runs.proofs.BareActs.{plain_runs, test_runs}
use Rattle.code_runs.proofs.BareLaws.{BareLaws}
use Rattle.code_runs.proofs.BarePlans.{all_at, lists_lie, some_steps}
use Rattle.code_runs.proofs.Following.{act_follows, ways_lead}
use Rattle.site_runs.specs.InAttempts.{In, LeadsOn}
use Rattle.site_runs.specs.Calls.{CallsLead}
use Rattle.site_runs.specs.Bodies.{ActsLead, BlocksLead}
use Rattle.site_runs.specs.Copies.{CopiesLead}
use Rattle.site_runs.proofs.Claims.{in_claim}
use Rattle.site_runs.proofs.Finding.{IsFound, beyond, block_there, by_place, call_there, copy_there, found_back, found_front, found_inside, found_itself, numbered, row_beyond}
use Rattle.site_runs.proofs.Lying.{both_lead, none_lead}

-- earlier sites are earlier than later ones
pub all_less : (q r : ℕ) (blocks : List ℕ) → q < r → AllByRecursion (λ j. j ≤ q) blocks → AllByRecursion (λ j. j < r) blocks
all_less q r [] less few = tt
all_less q r (j ∷ blocks) less few = (let low : j ≤ q = few.0 in omega (arith, low, less), all_less q r blocks less few.1)

pub all_up_to : (q r : ℕ) (blocks : List ℕ) → q ≤ r → AllByRecursion (λ j. j ≤ q) blocks → AllByRecursion (λ j. j ≤ r) blocks
all_up_to q r [] less few = tt
all_up_to q r (j ∷ blocks) less few = (let low : j ≤ q = few.0 in omega (arith, low, less), all_up_to q r blocks less few.1)

-- the limit of a site's annotation is a word
pub ann_fits : (ann : Ann) → IsReadableAnn ann → FitsLimit ann
ann_fits Single is = tt
ann_fits (Timely limit) is = is
ann_fits Always is = tt

module _ (p : Program) (place_of : ℕ → Place) (law : BareLaws p place_of) (d : Doing) (number : ℕ) (well : IsWellFormed (core_of d)) (here : task_of (core_of d) number ≡ Some d.setting.task) where
  abbrev c : Core
  c = core_of d

  abbrev t : CoreTask
  t = d.setting.task

  abbrev f : Frame
  f = frame_of d number

  abbrev a : Around
  a = around d.scheme t

  abbrev Now : machine.State → State → Type 0
  Now = Lasts p d.setting.rules d.scheme

  abbrev Inside : List ℕ → ℕ → Spot → State → Type 0
  Inside = In p place_of d number

  -- ---- acts without sites

  plain_leads : (blocks : List ℕ) (level : ℕ) (branched : Bool) (s : CoreStmt) → site_numbers s ≡ [] → IsCoreStmt (scope_of c t) level branched [] s → Covers (pointing t) (λ q. addresses q s) → ActsLead p place_of d number blocks (act.Plain s ∷ [])
  plain_leads blocks level branched s none w covers most at next again go lies on =
      act_follows p place_of d number Now (Inside blocks) (AnyWay (Inside blocks)) (AreRelated p d true) (act.Plain s) at next most (straight go) (λ m s related. related)
      (plain_runs p place_of law d number well here (Inside blocks) (in_claim p place_of d number blocks) level branched s at next w covers (some_steps s none) lies.0) (λ s way goes. on)

  -- a test leads into its lists
  test_leads : (blocks : List ℕ) (e : CoreExpr) (xs ys : List Act) → IsCoreExpr (scope_of c t) e → ActsLead p place_of d number blocks xs → ActsLead p place_of d number blocks ys → ActsLead p place_of d number blocks (act.Test e xs ys ∷ [])
  test_leads blocks e xs ys ok one two most at next again go lies on =
      let yes_at : ℕ = at + expr_size e + 4 in
      let no_at : ℕ = yes_at + row_size f (act_row_of xs).1 in
      let xs_lie : ActsLie p f false xs yes_at next = subst (λ t. t) (lists_lie p f yes_at next xs) lies.0.1 in
      let ys_lie : ActsLie p f false ys no_at next = subst (λ t. t) (lists_lie p f no_at next ys) lies.0.2 in
      let first : LeadsOn p place_of d (Inside blocks) (suc most) (entry (act_row_of xs).1 yes_at next) (row_run d again (act_row_of xs).1 go) =
      subst (λ pc. LeadsOn p place_of d (Inside blocks) (suc most) pc (row_run d again (act_row_of xs).1 go)) (sym (entry_of_acts yes_at next xs))
      (subst (LeadsOn p place_of d (Inside blocks) (suc most) (acts_entry xs yes_at next)) (sym (lists_run d again xs go)) (one most yes_at next again go xs_lie on)) in
      let second : LeadsOn p place_of d (Inside blocks) (suc most) (entry (act_row_of ys).1 no_at next) (row_run d again (act_row_of ys).1 go) =
      subst (λ pc. LeadsOn p place_of d (Inside blocks) (suc most) pc (row_run d again (act_row_of ys).1 go)) (sym (entry_of_acts no_at next ys))
      (subst (LeadsOn p place_of d (Inside blocks) (suc most) (acts_entry ys no_at next)) (sym (lists_run d again ys go)) (two most no_at next again go ys_lie on)) in
      act_follows p place_of d number Now (Inside blocks) (AnyWay (Inside blocks)) (AreRelated p d true) (act.Test e xs ys) at next most (by_way (row_run d again (act_row_of xs).1 go) (row_run d again (act_row_of ys).1 go) go go)
      (λ m s related. related)
      (test_runs p place_of law d number well here (Inside blocks) (in_claim p place_of d number blocks) e xs ys at next ok.1 (expr_short (scope_of c t) (few_pointers c well) 0 e (omega arith) ok) lies.0.0)
      (λ s way goes. ways_lead p place_of d number Now (Common p place_of d.setting.rules d.scheme) (Inside blocks) (suc most) (entry (act_row_of xs).1 yes_at next) (entry (act_row_of ys).1 no_at next) next next
      (row_run d again (act_row_of xs).1 go) (row_run d again (act_row_of ys).1 go) go go first second on on way)

  or_plain : (blocks : List ℕ) (ks : List ℕ) (s : CoreStmt) (test : Act) → (ks ≡ [] → ActsLead p place_of d number blocks (act.Plain s ∷ [])) → ActsLead p place_of d number blocks (test ∷ []) → ActsLead p place_of d number blocks (unless_plain ks s test ∷ [])
  or_plain blocks [] s test without with = without refl
  or_plain blocks (k ∷ ks) s test without with = with

  -- ---- statements

  module _ (formed_task : IsCoreTask c t) (calls : CallsLead p place_of d number) (copies : CopiesLead p place_of d number) (blocks_lead : BlocksLead p place_of d number) where
    abbrev Has : Option CoreStmt → ℕ → Type 0
    Has o j = statement_of d j ≡ o

    few_sites : length t.sites ≤ 128
    few_sites = formed_task.sites.few

    -- the limit of a block
    block_fits : (k : ℕ) (ann : Ann) → site_at t.sites k ≡ Some (site.Block ann) → FitsLimit ann
    block_fits k ann there = ann_fits ann (all_at Site formed.IsSite t.sites (k - 1) (site.Block ann) formed_task.sites.times (by_place t.sites k (site.Block ann) there))

    mutual
      stmt_leads : (blocks : List ℕ) (s : CoreStmt) (level : ℕ) (branched : Bool) → IsCoreStmt (scope_of c t) level branched [] s → (q : ℕ) → Next q (site_numbers s) → Placed t (site_numbers s) (standings c.arrays (pointing t) s)
          → Covers (pointing t) (λ r. addresses r s) → IsFound Has q (λ j. found_in j s) → code.IsFound (statement_at f) s → AllByRecursion (λ j. j ≤ q) blocks → ActsLead p place_of d number blocks (statement_acts a s)
      stmt_leads blocks (stmt.Assign x e) level branched w q next placed covers found laid few = plain_leads blocks level branched (stmt.Assign x e) refl w covers
      stmt_leads blocks (stmt.Point r array i) level branched w q next placed covers found laid few = plain_leads blocks level branched (stmt.Point r array i) refl w covers
      stmt_leads blocks (stmt.If' e m yes_row n no_row) level branched w q next placed covers found laid few =
          let ks = row_numbers yes_row in
          let ls = row_numbers no_row in
          let parts = placed_parts t ks ls (row_standings c.arrays (pointing t) yes_row) (row_standings c.arrays (pointing t) no_row) (row_long c.arrays (pointing t) yes_row) placed in
          let front = front_next ks ls q next in
          let back = back_next ks ls q next in
          let yes_so = row_leads blocks yes_row (1 + level) true w.2 q front parts.0 (λ r. front_of (row_addresses r yes_row) (row_addresses r no_row) (pointing t r) (covers r))
          (found_front Has q (λ j. found_in_row j yes_row) (λ j. found_in_row j no_row) found) laid.0 few in
          let no_so = row_leads blocks no_row (1 + level) true w.3 (q + length ks) back parts.1 (λ r. back_of (row_addresses r yes_row) (row_addresses r no_row) (pointing t r) (covers r))
          (found_back Has q (length ks) (λ j. found_in_row j yes_row) (λ j. found_in_row j no_row) (λ j less. row_beyond yes_row q front j less) found) laid.1 (all_up_to q (q + length ks) blocks (omega arith) few) in
          or_plain blocks (ks ++ ls) (stmt.If' e m yes_row n no_row) (act.Test e (row_acts a yes_row) (row_acts a no_row)) (λ none. plain_leads blocks level branched (stmt.If' e m yes_row n no_row) none w covers)
          (test_leads blocks e (row_acts a yes_row) (row_acts a no_row) w.1 yes_so no_so)
      stmt_leads blocks (stmt.Loop' i turns m row) level branched w q next placed covers found laid few = plain_leads blocks level branched (stmt.Loop' i turns m row) w.4 w covers
      stmt_leads blocks (stmt.Io k x r args) level branched w q next placed covers found laid few = λ most at onward again go lies on.
          let is = first_next k [] q next in
          let call = call_there (site_at t.sites k) placed.0.1 in
          calls k x r args
          (record {
            ann = call.0;
            level = level;
            branched = branched;
            turning = [];
            numbered = numbered t k few_sites placed.0.0;
            there = by_place t.sites k (site.Io call.0) call.1;
            said = found_itself Has q k (stmt.Io k x r args) is found;
            laid = laid;
            formed = w;
          })
          blocks most at onward again go lies on
      stmt_leads blocks (stmt.Block' k m row) level branched w q next placed covers found laid few =
          let is = first_next k (row_numbers row) q next in
          let block = block_there (site_at t.sites k) placed.0.1 in
          let inner : AllByRecursion (λ j. j ≤ q + 1) (k ∷ blocks) = (omega (arith, is), all_up_to q (q + 1) blocks (omega arith) few) in
          blocks_lead k blocks (row_acts a row) (record { ann = block.0; numbered = numbered t k few_sites placed.0.0; there = by_place t.sites k (site.Block block.0) block.1; limit = block_fits k block.0 block.1 }) (all_less q k blocks (omega (arith, is)) few)
          (row_leads (k ∷ blocks) row (1 + level) branched w.1 (q + 1) (back_next (k ∷ []) (row_numbers row) q next) placed.1 covers (found_inside Has q k (stmt.Block' k m row) (λ j. found_in_row j row) is found) laid inner)
      stmt_leads blocks (stmt.Copy k to from n) level branched w q next placed covers found laid few = λ most at onward again go lies on.
          let is = first_next k [] q next in
          let greatest_length : ℕ = greatest c.arrays (pointing t) to from in
          copies k to from n
          (record {
            level = level;
            branched = branched;
            numbered = numbered t k few_sites placed.0.0;
            there = by_place t.sites k (site.Copy greatest_length) (copy_there greatest_length (site_at t.sites k) placed.0.1);
            said = found_itself Has q k (stmt.Copy k to from n) is found;
            laid = laid;
            formed = w;
          })
          blocks most at onward again go lies on

      row_leads : (blocks : List ℕ) {n : _} (row : Row_of-CoreStmt n) (level : ℕ) (branched : Bool) → AreCoreStmts (scope_of c t) level branched [] row → (q : ℕ) → Next q (row_numbers row) → Placed t (row_numbers row) (row_standings c.arrays (pointing t) row)
          → Covers (pointing t) (λ r. row_addresses r row) → IsFound Has q (λ j. found_in_row j row) → code.AreFound (statement_at f) row → AllByRecursion (λ j. j ≤ q) blocks → ActsLead p place_of d number blocks (row_acts a row)
      row_leads blocks end_of-CoreStmt level branched w q next placed covers found laid few = none_lead p place_of d number blocks
      row_leads blocks (more_of-CoreStmt s rows) level branched w q next placed covers found laid few =
          let ks = site_numbers s in
          let ls = row_numbers rows in
          let parts = placed_parts t ks ls (standings c.arrays (pointing t) s) (row_standings c.arrays (pointing t) rows) (same_long c.arrays (pointing t) s) placed in
          let front = front_next ks ls q next in
          let back = back_next ks ls q next in
          both_lead p place_of d number blocks (statement_acts a s) (row_acts a rows)
          (stmt_leads blocks s level branched w.0 q front parts.0 (λ r. front_of (addresses r s) (row_addresses r rows) (pointing t r) (covers r)) (found_front Has q (λ j. found_in j s) (λ j. found_in_row j rows) found) laid.0 few)
          (row_leads blocks rows level branched w.1 (q + length ks) back parts.1 (λ r. back_of (addresses r s) (row_addresses r rows) (pointing t r) (covers r))
          (found_back Has q (length ks) (λ j. found_in j s) (λ j. found_in_row j rows) (λ j less. beyond s q front j less) found) laid.1 (all_up_to q (q + length ks) blocks (omega arith) few))

    -- statements, one after another
    pub body_leads : (blocks : List ℕ) (body : List CoreStmt) (level : ℕ) (branched : Bool) → AllByRecursion (IsCoreStmt (scope_of c t) level branched []) body → (q : ℕ) → Next q (all_numbers body) → Placed t (all_numbers body) (all_standings c.arrays (pointing t) body)
        → Covers (pointing t) (λ r. all_addresses r body) → IsFound Has q (λ j. found_among j body) → AllByRecursion (code.IsFound (statement_at f)) body → AllByRecursion (λ j. j ≤ q) blocks → ActsLead p place_of d number blocks (body_acts a body)
    body_leads blocks [] level branched w q next placed covers found laid few = none_lead p place_of d number blocks
    body_leads blocks (s ∷ body) level branched w q next placed covers found laid few =
        let ks = site_numbers s in
        let ls = all_numbers body in
        let parts = placed_parts t ks ls (standings c.arrays (pointing t) s) (all_standings c.arrays (pointing t) body) (same_long c.arrays (pointing t) s) placed in
        let front = front_next ks ls q next in
        let back = back_next ks ls q next in
        both_lead p place_of d number blocks (statement_acts a s) (body_acts a body)
        (stmt_leads blocks s level branched w.0 q front parts.0 (λ r. front_of (addresses r s) (all_addresses r body) (pointing t r) (covers r)) (found_front Has q (λ j. found_in j s) (λ j. found_among j body) found) laid.0 few)
        (body_leads blocks body level branched w.1 (q + length ks) back parts.1 (λ r. back_of (addresses r s) (all_addresses r body) (pointing t r) (covers r))
        (found_back Has q (length ks) (λ j. found_in j s) (λ j. found_among j body) (λ j less. beyond s q front j less) found) laid.1 (all_up_to q (q + length ks) blocks (omega arith) few))

    -- those of the task, in no block
    pub task_body_leads : ActsLead p place_of d number [] (body_acts a t.body)
    task_body_leads =
        body_leads [] t.body 1 false formed_task.body 0 (formed_task.sites.numbers ∙ ap (range_with_len 1) (sym (ap length formed_task.sites.numbers ∙ length-range_with_len 1 (length t.sites)))) (task_placed c.arrays t formed_task.sites)
        (λ q n there. there) (λ j x less is. is) (code.body_finds t.body 1 (length t.sites) formed_task.sites.numbers) tt
