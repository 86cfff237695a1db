-- Sites and kept words by those of parts.
use Rattle.std.proofs.Common.{◌≡◌, ◌∙◌, ℕ, zero, suc, ◌+◌, ◌*◌, List, [], ◌∷◌, ◌++◌, length, sum_by, sym, ap, subst, arith, length-append}
use Rattle.std.proofs.Math.Nat.{suc-mul}
use Rattle.std.proofs.lemmas.List.Sums.{sum_by-append}
use Rattle.ease_base.specs.declared.place.Pos.{Pos}
use Rattle.task_ast.specs.declared.tree.Ann.{Ann}
use Rattle.task_ast.specs.declared.tree.Name.{Name}
use Rattle.task_ast.specs.declared.tree.Expr.{Expr}
use Rattle.task_ast.specs.declared.tree.Place.{Place}
use Rattle.task_ast.specs.declared.tree.Stmt.{Stmt}
use Rattle.task_ast.specs.declared.tree.Stmt.TheVariants as stmt
use Rattle.task_ast.specs.declared.core_form.Site.{Site}
use Rattle.task_ast.specs.declared.core_form.Site.TheVariants as site
use Rattle.task_ast.specs.WellFormed.{site_words}
use Rattle.task_check.specs.declared.site_counts.SiteCounts.{SiteCounts}
use Rattle.task_check.specs.Capped.{capped}
use Rattle.task_check.specs.Sites.{repeated, stmt_sites, body_sites, sites_if, sites_for, sites_block}
use Rattle.task_check.specs.Table.{Counts}
use Rattle.task_check.proofs.NodeLemmas.{times_capped}

-- a list so many times over has as many items more
pub length_repeated : {A : Type 0} (n : ℕ) (xs : List A) → length (repeated n xs) ≡ n * length xs
length_repeated zero xs = let e : 0 * length xs ≡ 0 = omega arith in sym e
length_repeated (suc n) xs = omega (arith, length-append xs (repeated n xs), length_repeated n xs, suc-mul n (length xs))

pub sum_repeated : {A : Type 0} (f : A → ℕ) (n : ℕ) (xs : List A) → sum_by f (repeated n xs) ≡ n * sum_by f xs
sum_repeated f zero xs = let e : 0 * sum_by f xs ≡ 0 = omega arith in sym e
sum_repeated f (suc n) xs = omega (arith, sum_by-append f xs (repeated n xs), sum_repeated f n xs, suc-mul n (sum_by f xs))

sum_capped : (a b x y : ℕ) → a ≡ capped x → b ≡ capped y → capped (a + b) ≡ capped (x + y)
sum_capped a b x y p q = omega (arith, p, q)

-- two parts
pub counts_both : (a b c : SiteCounts) (xs ys : List Site) → Counts a xs → Counts b ys → c.sites ≡ capped (a.sites + b.sites) → c.kept ≡ capped (a.kept + b.kept) → Counts c (xs ++ ys)
counts_both a b c xs ys h k at_sites at_kept = (
  at_sites ∙ sum_capped a.sites b.sites (length xs) (length ys) h.0 k.0 ∙ ap capped (sym (length-append xs ys)),
  at_kept ∙ sum_capped a.kept b.kept (sum_by site_words xs) (sum_by site_words ys) h.1 k.1 ∙ ap capped (sym (sum_by-append site_words xs ys)),
)

-- a part so many times over
pub counts_repeated : (a c : SiteCounts) (turns : ℕ) (xs : List Site) → Counts a xs → c.sites ≡ capped (turns * a.sites) → c.kept ≡ capped (turns * a.kept) → Counts c (repeated turns xs)
counts_repeated a c turns xs h at_sites at_kept = (
  at_sites ∙ ap (λ k. capped (turns * k)) h.0 ∙ times_capped turns (length xs) ∙ ap capped (sym (length_repeated turns xs)),
  at_kept ∙ ap (λ k. capped (turns * k)) h.1 ∙ times_capped turns (sum_by site_words xs) ∙ ap capped (sym (sum_repeated site_words turns xs)),
)

module _ (words : Place → Place → ℕ) (s : Stmt) where
  -- those of an `if`
  pub if_counts : (c : Expr) (ys ns ys' ns' : List Stmt) (a b r : SiteCounts) → s ≡ stmt.If c ys ns → ys' ≡ ys → ns' ≡ ns → Counts a (body_sites words ys') → Counts b (body_sites words ns')
      → r.sites ≡ capped (a.sites + b.sites) → r.kept ≡ capped (a.kept + b.kept) → Counts r (stmt_sites words s)
  if_counts c ys ns ys' ns' a b r is at_ys at_ns h k at_sites at_kept =
      subst (Counts r) ((λ i. body_sites words (at_ys i) ++ body_sites words (at_ns i)) ∙ sym (ap (stmt_sites words) is ∙ sites_if words c ys ns))
      (counts_both a b r (body_sites words ys') (body_sites words ns') h k at_sites at_kept)

  -- those of a loop
  pub for_counts : (i : Name) (turns : ℕ) (at : Pos) (body body' : List Stmt) (word : Pos) (a r : SiteCounts) → s ≡ stmt.For i turns at body word → body' ≡ body → Counts a (body_sites words body')
      → r.sites ≡ capped (turns * a.sites) → r.kept ≡ capped (turns * a.kept) → Counts r (stmt_sites words s)
  for_counts i turns at body body' word a r is same h at_sites at_kept =
      subst (Counts r) (ap (λ l. repeated turns (body_sites words l)) same ∙ sym (ap (stmt_sites words) is ∙ sites_for words i turns at body word))
      (counts_repeated a r turns (body_sites words body') h at_sites at_kept)

  -- those of a block
  pub block_counts : (n : Ann) (body body' : List Stmt) (word : Pos) (a b r : SiteCounts) → s ≡ stmt.Block n body word → body' ≡ body → a.sites ≡ 1 → a.kept ≡ 0 → Counts b (body_sites words body')
      → r.sites ≡ capped (a.sites + b.sites) → r.kept ≡ capped (a.kept + b.kept) → Counts r (stmt_sites words s)
  block_counts n body body' word a b r is same one none h at_sites at_kept =
      let first : Counts a (site.Block n ∷ []) = (omega (arith, one), omega (arith, none)) in
      subst (Counts r) (ap (λ l. site.Block n ∷ body_sites words l) same ∙ sym (ap (stmt_sites words) is ∙ sites_block words n body word))
      (counts_both a b r (site.Block n ∷ []) (body_sites words body') first h at_sites at_kept)
