-- What is claimed of the acts of sites holds.
use Rattle.std.proofs.Common.{◌≡◌, ◌∙◌, ℕ, ◌+◌, ◌≤◌, Bool, true, false, ◌==◌, List, [], ◌∷◌, refl, sym, subst, ap, slice_get, arith}
use Rattle.std.specs.Prelude.{Option, Some, None, max, sum_by}
use Rattle.std.specs.List.{AllByRecursion}
use Rattle.task_ast.specs.declared.core_form.CoreStmt.TheVariants as stmt
use Rattle.task_ast.specs.declared.core_form.Core.{Core}
use Rattle.task_ast.specs.declared.core_form.Site.{Site}
use Rattle.task_ast.specs.CoreSites.{room, greatest}
use Rattle.task_ast.specs.Pointing.{pointing}
use Rattle.io_annot.specs.declared.choice.Mode.{Mode}
use Rattle.region_split.specs.Regions.{touches, region_of}
use Rattle.task_attempts.specs.State.{Record}
use Rattle.task_attempts.specs.Changes.{put}
use Rattle.task_attempts.specs.Calls.{site_at}
use Rattle.run_plan.specs.Cells.{State, CellWrite, puts_home, puts_aside, puts_lock, puts_flag, puts_value, puts_stamp, puts_class, puts_to, puts_from, puts_length, puts_kept, puts_state, turned, after_write}
use Rattle.run_plan.specs.Runs.{Planned, at_task}
use Rattle.plan_restore.proofs.Lists.{all_parts}
use Rattle.plan_restore.proofs.Puts.{NotConst}
use Rattle.plan_restore.proofs.Solid.{body_solid}
use Rattle.plan_restore.proofs.Writing.{TouchMay}
use Rattle.site_events.specs.Records.{view, Says, kept_from, AreRecords}
use Rattle.site_events.specs.Standing.{IsNumbered}
use Rattle.site_events.specs.SiteLaws.{IsCellOf, Anything, Noted, AreNoted, AreReached, CallsDo, BlocksDo, CopiesDo}
use Rattle.site_events.specs.Follows.{Stable}
use Rattle.site_events.proofs.Records.{value_keeps, stamp_keeps, class_keeps, to_keeps, from_keeps, length_keeps, drop_keeps, seal_keeps, commit_keeps}
use Rattle.site_events.proofs.Calls.{call_follows}
use Rattle.site_events.proofs.Blocks.{block_follows}
use Rattle.site_events.proofs.Bodies.{region_there_is}
use Rattle.site_events.proofs.Copies.{copy_follows}

module _ (c : Core) (sites : List Site) (rs : ℕ → Option Record) (s : State) (k : ℕ) where
  -- the record of a site, by an equal number
  none_at : (j : ℕ) → j ≡ k → rs k ≡ None → rs j ≡ None
  none_at j is none = subst (λ i. rs i ≡ None) (sym is) none

  pub cell_says_nothing : (w : CellWrite) → IsCellOf k w → rs k ≡ None → AreRecords sites (view s) rs → AreRecords sites (view (after_write c.arrays w s)) rs
  cell_says_nothing (puts_home at word) is none all = absurd is
  cell_says_nothing (puts_aside at word) is none all = absurd is
  cell_says_nothing (puts_lock r e) is none all = absurd is
  cell_says_nothing (puts_flag j e) is none all = absurd is
  cell_says_nothing (puts_value j word) is none all = value_keeps sites rs (view s) j word (none_at j is none) all
  cell_says_nothing (puts_stamp j time) is none all = stamp_keeps sites rs (view s) j time (none_at j is none) all
  cell_says_nothing (puts_class j class) is none all = class_keeps sites rs (view s) j class (none_at j is none) all
  cell_says_nothing (puts_to j at) is none all = to_keeps sites rs (view s) j at (none_at j is none) all
  cell_says_nothing (puts_from j at) is none all = from_keeps sites rs (view s) j at (none_at j is none) all
  cell_says_nothing (puts_length j n) is none all = length_keeps sites rs (view s) j n (none_at j is none) all
  cell_says_nothing (puts_kept at word) is none all = absurd is
  cell_says_nothing (puts_state e t bank) is none all = absurd is

  pub flag_makes : (r : Record) → Says (view s) (kept_from sites k) k r (site_at sites k) → AreRecords sites (view s) rs → AreRecords sites (view (after_write c.arrays (puts_flag k s.epoch) s)) (put k (Some r) rs)
  flag_makes r says all = seal_keeps sites rs (view s) k r says all

  pub flag_drops : IsNumbered (view s) → AreRecords sites (view s) rs → AreRecords sites (view (after_write c.arrays (puts_flag k 0) s)) (put k None rs)
  flag_drops numbered all = drop_keeps sites rs (view s) k numbered.some all

-- a commit, to whichever bank
pub epoch_drops : (c : Core) (sites : List Site) (s : State) (n bank : ℕ) → IsNumbered (view s) → AreRecords sites (view (after_write c.arrays (puts_state (s.epoch + 1) n bank) s)) (λ k. None)
epoch_drops c sites s n bank numbered = subst (λ v. AreRecords sites v (λ k. None)) (sym (by_bank (bank == s.bank))) (commit_keeps sites (view s) n numbered.flags)
  where
    by_bank : (same : Bool) → view (record (turned same c.arrays s) { epoch = s.epoch + 1; task = n; bank = bank }) ≡ record (view s) { epoch = s.epoch + 1; task = n }
    by_bank true = refl
    by_bank false = refl

pub calls_do : (p : Planned) → CallsDo p
calls_do p fuel number t again blocks k ann target q args go rest call follows =
    let solid = body_solid p.rules.core t (stmt.Io k target q args ∷ []) call.level call.branched [] (call.formed, tt) in
    call_follows p Anything fuel number t call.there again (AreNoted blocks) k ann target q args go rest call.standing call.found
    (all_parts (TouchMay (NotConst p.rules.core)) (touches (pointing t) (stmt.Io k target q args)) [] solid).0 follows

noted_stable : (blocks : List Noted) (k : ℕ) → AllByRecursion (λ n. n.site ≤ k) blocks → Stable (AreNoted blocks) k
noted_stable [] k few m o u b v n same same' h = tt
noted_stable (x ∷ blocks) k few m o u b v n same same' h =
    (sym (same x.site few.0) ∙ h.0, sym (same' x.site few.0) ∙ h.1, noted_stable blocks k few.1 m o u b v n same same' h.2)

pub blocks_do : (p : Planned) → BlocksDo p
blocks_do p fuel number t again blocks k ann body inner go rest there standing few body_so follows =
    block_follows p Anything fuel number t there again (AreNoted blocks) (AreNoted blocks) (k + 1) ann standing k refl (noted_stable blocks k few) body inner body_so go rest follows

-- blocks are noted whatever regions were reached
noted_anywhere : (blocks : List Noted) (m : Option Mode) (o : ℕ → Option Mode) (b : ℕ → Option ℕ) (n x : ℕ) → AreNoted blocks m o b n → AreNoted blocks m o b x
noted_anywhere [] m o b n x h = tt
noted_anywhere (y ∷ blocks) m o b n x h = (h.0, h.1, noted_anywhere blocks m o b n x h.2)

pub copies_do : (p : Planned) → CopiesDo p
copies_do p fuel number t again blocks k to from words go rest copy follows =
    let c = p.rules.core in
    let solid = body_solid c t (stmt.Copy k to from words ∷ []) 1 false [] (copy.formed, tt) in
    let arrays = (all_parts (TouchMay (NotConst c)) (touches (pointing t) (stmt.Copy k to from words)) [] solid).0.1 in
    let words_there = ap (λ (xs : List ℕ). sum_by (λ x. room (slice_get c.arrays x)) xs) (region_there_is c t (at_task p.plan.firsts number []) (region_of t k) copy.firsts copy.region) in
    copy_follows p Anything fuel number t copy.there again k (greatest c.arrays (pointing t) to from) copy.standing (AreReached blocks (region_of t k)) (AreReached blocks (region_of t k + 1)) (region_of t k)
    (λ m o b n h. (noted_anywhere blocks m o b n (max n (region_of t k)) h.0, omega arith)) go rest follows to from words arrays refl copy.found refl words_there (λ m o b n h. h.1)
