-- What the methods of a walk need: sites by their places, and looks that lie behind a record's.
use Rattle.std.proofs.Common.{◌≡◌, ℕ, zero, suc, ◌+◌, ◌-◌, ◌<◌, Bool, cond, List, [], ◌∷◌, Some, ◌++◌, length, drop, get_or, Err, slice_get, refl, sym, ap, ◌∙◌, arith}
use Rattle.std.proofs.lemmas.List.{at_drop_more}
use Rattle.std.proofs.lemmas.Bool.Decides.{nat_tests}
use Rattle.task_ast.specs.declared.tree.Ann.{Ann}
use Rattle.task_ast.specs.declared.tree.Ann.TheVariants as ann
use Rattle.task_ast.specs.declared.core_form.Site.{Site}
use Rattle.task_ast.specs.declared.core_form.CoreExpr.{CoreExpr}
use Rattle.audit_check.specs.declared.walking.Stop.{Stop}
use Rattle.audit_check.specs.declared.walking.Stop.TheVariants.{Parted, NoMemory}
use Rattle.audit_check.specs.Walking.{Walking, Way, Gives, chain, word, words_behind, dropped_if, dropped_from}
use Rattle.io_annot.specs.declared.choice.Mode.{Mode}
use Rattle.io_annot.specs.declared.choice.Mode.TheVariants as mode
use Rattle.io_annot.specs.declared.choice.Choice.{Choice}
use Rattle.io_annot.specs.declared.choice.Choice.TheVariants as choices
use Rattle.io_annot.specs.Choice.{choice, is_expired}
use Rattle.block_scope.specs.Enter.{entered}
use Rattle.task_attempts.specs.Calls.{annotation_of, site_at}

-- a site's place from 0
pub site_before : (sites : List Site) (k : ℕ) → (k ≡ 0 → ⊥) → annotation_of (slice_get sites (k - 1)) ≡ annotation_of (site_at sites k)
site_before sites zero some = absurd (some refl)
site_before sites (suc n) some = let e : suc n - 1 ≡ n = omega arith in ap (λ n. annotation_of (slice_get sites n)) e

-- a record isn't expired at its own time, nor at an earlier one
fresh_at : (ticks stamp t : ℕ) → t < stamp → is_expired ticks stamp stamp ≡ is_expired ticks stamp t
fresh_at ticks stamp t before = grind (arith, nat_tests)

pub choice_behind : (m : Mode) (a : Ann) (value stamp t : ℕ) → t < stamp → choice m a (Some (value, stamp)) stamp ≡ choice m a (Some (value, stamp)) t
choice_behind mode.Keep a value stamp t before = refl
choice_behind mode.Force a value stamp t before = refl
choice_behind mode.Own ann.Single value stamp t before = refl
choice_behind mode.Own (ann.Timely ticks) value stamp t before = ap (λ old. cond {A = Choice} old choices.Issue (choices.Keep value)) (fresh_at ticks stamp t before)
choice_behind mode.Own ann.Always value stamp t before = refl

pub entered_behind : (m : Mode) (a : Ann) (stamp t : ℕ) → t < stamp → entered m a (Some stamp) stamp ≡ entered m a (Some stamp) t
entered_behind mode.Keep a stamp t before = refl
entered_behind mode.Force a stamp t before = refl
entered_behind mode.Own ann.Single stamp t before = refl
entered_behind mode.Own (ann.Timely ticks) stamp t before = ap (λ old. cond {A = Mode} old mode.Force mode.Keep) (fresh_at ticks stamp t before)
entered_behind mode.Own ann.Always stamp t before = refl

-- ---- words that are valued

-- a word that isn't found ends them all
pub words_break : (whole : Way (List ℕ)) (words : List ℕ) (all : List CoreExpr) (i : ℕ) (e : CoreExpr) (w v : Walking) (why : Stop) → i < length all → e ≡ get_or all i e
    → words_behind words (drop i all) w ≡ whole → Gives (word e w) (Err why) v → Gives whole (Err why) v
words_break whole words all i e w v Parted within is so_far stops =
    sym so_far ∙ at_drop_more (λ es. words_behind words es w) all i e within ∙ ap (λ x. words_behind words (x ∷ drop (i + 1) all) w) (sym is)
    ∙ ap (λ way. chain way (λ x w. words_behind (words ++ x ∷ []) (drop (i + 1) all) w)) stops
words_break whole words all i e w v NoMemory within is so_far stops = tt

-- ---- sites that drop their records

pub drops_step : (wanted : ℕ → Bool) (k before sites : ℕ) (w : Walking) → before < sites
    → dropped_from wanted k (sites - before) w ≡ chain (dropped_if (wanted k) k w) (λ _ w. dropped_from wanted (k + 1) (sites - (before + 1)) w)
drops_step wanted k before sites w more =
    let left : sites - before ≡ suc (sites - (before + 1)) = omega arith in
    ap (λ n. dropped_from wanted k n w) left
