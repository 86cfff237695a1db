-- Kept words: those of each copy stand apart from those of the others, and what is written is there.
use Rattle.std.proofs.Common.{◌≡◌, ◌∙◌, ◌⊎◌, inl, inr, ℕ, zero, suc, ◌+◌, ◌-◌, ◌<◌, ◌≤◌, false, ◌==◌, List, [], ◌∷◌, length, take, slice_get, refl, sym, ap, subst, arith}
use Rattle.std.specs.Prelude.{Option, Some, None, sum_by}
use Rattle.std.proofs.lemmas.Bool.{ne_eqb, eqb-false}
use Rattle.std.proofs.lemmas.List.Sums.{sum_by-cons}
use Rattle.task_ast.specs.declared.core_form.Core.{Core}
use Rattle.task_ast.specs.declared.core_form.Site.{Site}
use Rattle.task_ast.specs.declared.core_form.Site.TheVariants as site
use Rattle.task_ast.specs.WellFormed.{site_words}
use Rattle.task_attempts.specs.State.{Record}
use Rattle.task_attempts.specs.Changes.{put}
use Rattle.task_attempts.specs.Calls.{site_at}
use Rattle.run_plan.specs.Cells.{State, puts_kept, after_write}
use Rattle.run_plan.specs.Words.{kept_words, keep_writes}
use Rattle.run_plan.specs.Safe.{all_written}
use Rattle.site_events.specs.Records.{View, kept_from, AreRecords}
use Rattle.site_events.proofs.Records.{SameKept, put_here, put_other, cells_keep}

-- ---- ranges

-- the words of the first so many sites
abbrev words_before : List Site → ℕ → ℕ
words_before sites n = sum_by site_words (take n sites)

one_before : (x : Site) (sites : List Site) (n : ℕ) → words_before (x ∷ sites) (suc n) ≡ site_words x + words_before sites n
one_before x sites n = sum_by-cons site_words x (take n sites)

up_to : (sites : List Site) (n m : ℕ) → n ≤ m → words_before sites n ≤ words_before sites m
up_to sites zero m few = omega arith
up_to [] (suc n) m few = by_none (omega arith)
  where
    by_none : words_before [] (suc n) ≤ 0 → words_before [] (suc n) ≤ words_before [] m
    by_none low = omega (arith, low)
up_to (x ∷ sites) (suc n) zero few = absurd (omega (arith, few))
up_to (x ∷ sites) (suc n) (suc m) few =
    let rest = up_to sites n m (omega (arith, few)) in
    let one = one_before x sites n in
    let two = one_before x sites m in
    omega (arith, rest, one, two)

-- those of a site lie before those of each later one
behind_it : (sites : List Site) (n m : ℕ) (x : Site) → slice_get sites n ≡ Some x → n < m → words_before sites n + site_words x ≤ words_before sites m
behind_it [] n m x is less = absurd (cc is)
behind_it (y ∷ sites) n zero x is less = absurd (omega (arith, less))
behind_it (y ∷ sites) zero (suc m) x is less =
    let same : y ≡ x = cc is in
    let same_words : site_words y ≡ site_words x = ap site_words same in
    let one = one_before y sites m in
    omega (arith, one, same_words)
behind_it (y ∷ sites) (suc n) (suc m) x is less =
    let rest = behind_it sites n m x is (omega (arith, less)) in
    let one = one_before y sites n in
    let two = one_before y sites m in
    omega (arith, rest, one, two)

before_site : (sites : List Site) (j k n : ℕ) → site_at sites j ≡ Some (site.Copy n) → j < k → kept_from sites j + n ≤ kept_from sites k
before_site sites zero k n is less = absurd (cc is)
before_site sites (suc j) k n is less =
    let e0 : suc j - 1 ≡ j = omega arith in
    let few : j < k - 1 = omega (arith, less) in
    subst (λ i. words_before sites i + n ≤ words_before sites (k - 1)) (sym e0) (behind_it sites j (k - 1) (site.Copy n) is few)

-- a number is within the kept words of a site
abbrev pub IsWithin : List Site → (site most at : ℕ) → Type 0
IsWithin sites k most at = (kept_from sites k ≤ at) × (at < kept_from sites k + most)

-- kept words are read as before where a word that isn't of theirs is written
apart_words : (f : ℕ → ℕ) (i w at n : ℕ) → (i < at) ⊎ (at + n ≤ i) → kept_words (put i w f) at n ≡ kept_words f at n
apart_words f i w at zero apart = refl
apart_words f i w at (suc n) apart = λ x. first x ∷ apart_words f i w (at + 1) n (later apart) x
  where
    other : i ≡ at → (i < at) ⊎ (at + suc n ≤ i) → ⊥
    other is (inl less) = omega (arith, is, less)
    other is (inr less) = omega (arith, is, less)

    first : put i w f at ≡ f at
    first = put_other i at w f (ne_eqb i at (λ is. other is apart))

    later : (i < at) ⊎ (at + suc n ≤ i) → (i < at + 1) ⊎ (at + 1 + n ≤ i)
    later (inl less) = inl (omega (arith, less))
    later (inr less) = inr (omega (arith, less))

-- a word of a site leaves those of another
other_site : (sites : List Site) (v : View) (k j most i w : ℕ) → site_at sites k ≡ Some (site.Copy most) → IsWithin sites k most i → (k == j) ≡ false → SameKept v (record v { kept = put i w v.kept }) (kept_from sites j) (site_at sites j)
other_site sites v k j most i w standing inside apart others is n few = apart_words v.kept i w (kept_from sites j) n (by_order (either k j (eqb-false k j apart)))
  where
    either : (a b : ℕ) → (a ≡ b → ⊥) → (a < b) ⊎ (b < a)
    either zero zero not = absurd (not refl)
    either zero (suc b) not = inl (omega arith)
    either (suc a) zero not = inr (omega arith)
    either (suc a) (suc b) not = more (either a b (λ e. not (ap suc e)))
      where
        more : (a < b) ⊎ (b < a) → (suc a < suc b) ⊎ (suc b < suc a)
        more (inl x) = inl (omega (arith, x))
        more (inr x) = inr (omega (arith, x))

    by_order : (k < j) ⊎ (j < k) → (i < kept_from sites j) ⊎ (kept_from sites j + n ≤ i)
    by_order (inl less) = let low = before_site sites k j most standing less in let top = inside.1 in inl (omega (arith, low, top))
    by_order (inr less) = let low = before_site sites j k others is less in let bottom = inside.0 in inr (omega (arith, low, bottom, few))

pub kept_keeps : (sites : List Site) (rs : ℕ → Option Record) (v : View) (k most i w : ℕ) → site_at sites k ≡ Some (site.Copy most) → IsWithin sites k most i → rs k ≡ None → AreRecords sites v rs → AreRecords sites (record v { kept = put i w v.kept }) rs
kept_keeps sites rs v k most i w standing inside none all =
    cells_keep sites rs v (record v { kept = put i w v.kept }) k none (λ j. refl) (λ j apart. record { value = refl; stamp = refl; class = refl; to = refl; from = refl; count = refl })
    (λ j apart. other_site sites v k j most i w standing inside apart) all

-- ---- what is written is there

-- words put one behind another
abbrev pub put_from : (f : ℕ → ℕ) (at : ℕ) → List ℕ → ℕ → ℕ
put_from f at [] = f
put_from f at (w ∷ words) = put_from (put at w f) (at + 1) words

from_apart : (f : ℕ → ℕ) (i at : ℕ) (words : List ℕ) → i < at → put_from f at words i ≡ f i
from_apart f i at [] less = refl
from_apart f i at (w ∷ words) less = from_apart (put at w f) i (at + 1) words (omega (arith, less)) ∙ put_other at i w f (ne_eqb at i (λ is. omega (arith, less, is)))

pub from_read : (f : ℕ → ℕ) (at : ℕ) (words : List ℕ) → kept_words (put_from f at words) at (length words) ≡ words
from_read f at [] = refl
from_read f at (w ∷ words) = λ i. first i ∷ from_read (put at w f) (at + 1) words i
  where
    first : put_from (put at w f) (at + 1) words at ≡ w
    first = from_apart (put at w f) at (at + 1) words (omega arith) ∙ put_here at w f

pub written_kept : (c : Core) (at : ℕ) (words : List ℕ) (s : State) → (all_written c (keep_writes at words) s).cells.kept ≡ put_from s.cells.kept at words
written_kept c at [] s = refl
written_kept c at (w ∷ words) s = written_kept c (at + 1) words (after_write c.arrays (puts_kept at w) s)
