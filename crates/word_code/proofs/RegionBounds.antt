-- The lines that save, lock and restore a task's regions, by the words that these write first.
use Rattle.std.specs.Prelude.{◌≡◌, ℕ, zero, suc, ◌+◌, ◌-◌, ◌*◌, ◌≤◌, Bool, true, false, cond, List, [], ◌∷◌, ◌++◌, length, map, filter, take, sum_by, slice_get, slice_index_or, Some, refl}
use Rattle.std.specs.List.{range_with_len}
use Rattle.std.proofs.Common.{ap, sym, ◌∙◌, arith}
use Rattle.std.proofs.lemmas.List.{length-append, append_assoc, length-map}
use Rattle.std.proofs.lemmas.List.FromFn.{length-range_with_len}
use Rattle.std.proofs.lemmas.List.Sums.{sum_by-cons}
use Rattle.task_ast.specs.declared.tree.Kind.{Kind}
use Rattle.task_ast.specs.declared.tree.Kind.TheVariants.{Nv, Const, Vol}
use Rattle.task_ast.specs.declared.core_form.Array.{Array}
use Rattle.task_ast.specs.declared.core_form.Site.{Site}
use Rattle.task_ast.specs.declared.core_form.CoreTask.{CoreTask}
use Rattle.task_ast.specs.declared.core_form.Core.{Core}
use Rattle.task_ast.specs.CoreSites.{room}
use Rattle.region_split.specs.Owners.{all_first}
use Rattle.region_split.specs.Regions.{first, is_copy, copies, region_of, regions}
use Rattle.word_isa.specs.declared.parts.Scheme.{Scheme}
use Rattle.word_isa.specs.declared.parts.Scheme.TheVariants.{Undo, Bank}
use Rattle.line_code.specs.declared.areas.Free.{Free}
use Rattle.line_code.specs.declared.areas.Placed.{Placed}
use Rattle.line_code.specs.Areas.{area_at, area_of, free_of, areas_from, free_at_first}
use Rattle.task_attempts.specs.Calls.{site_at}
use Rattle.task_attempts.specs.Costs.{first_words}
use Rattle.run_plan.specs.declared.act.Act.TheVariants as act
use Rattle.run_plan.specs.PlanOf.{restore_acts}
use Rattle.run_plan.specs.Sizes.{safety_words}
use Rattle.word_code.specs.ActMarks.{acts_marks}
use Rattle.word_code.specs.Beginnings.{homes_size}
use Rattle.word_code.specs.Frames.{Frame}
use Rattle.word_code.specs.Sizes.{region_size, restored_size, acts_size}
use Rattle.word_code.proofs.BoundLaws.{copy_at, save_lines}
use Rattle.word_code.proofs.Sums.{sum_and, sum_below}

-- ---- the words of a region

area_room : (free : Free) (k : Kind) (n : ℕ) → (area_of free k n).room ≡ n
area_room free Nv n = refl
area_room free Const n = refl
area_room free Vol n = refl

room_is : (free : Free) (arrays : List Array) (a : ℕ) → (area_at (areas_from free arrays) a).room ≡ room (slice_get arrays a)
room_is free [] zero = refl
room_is free [] (suc a) = refl
room_is free (x ∷ xs) zero = area_room free x.kind (length x.first)
room_is free (x ∷ xs) (suc a) = room_is (free_of free x.kind (length x.first)) xs a

homes_are : (arrays : List Array) (xs : List ℕ) → homes_size (areas_from free_at_first arrays) xs ≡ 2 * sum_by (λ a. room (slice_get arrays a)) xs
homes_are arrays [] = refl
homes_are arrays (a ∷ rest) = omega (arith, room_is free_at_first arrays a, sum_by-cons (λ a. room (slice_get arrays a)) a rest, homes_are arrays rest)

module _ (c : Core) (t : CoreTask) where
  abbrev areas : List Placed
  areas = areas_from free_at_first c.arrays

  first_few : (m n r : ℕ) → homes_size areas (slice_index_or (map (first c t) (range_with_len m n)) r []) ≤ 2 * first_words c t (m + r)
  first_few m zero zero = omega arith
  first_few m zero (suc r) = omega arith
  first_few m (suc n) zero =
      let here : m + 0 ≡ m = omega arith in
      omega (arith, homes_are c.arrays (first c t m), ap (first_words c t) here)
  first_few m (suc n) (suc r) =
      let next : m + 1 + r ≡ m + suc r = omega arith in
      omega (arith, first_few (m + 1) n r, ap (first_words c t) next)

-- ---- the regions of a task's copies

copies_more : (b : Bool) (s : Site) (rest : List Site) → is_copy s ≡ b → copies (s ∷ rest) ≡ cond b (suc (copies rest)) (copies rest)
copies_more true s rest is = ap (λ (t : Bool). length (cond t (s ∷ filter is_copy rest) (filter is_copy rest))) is
copies_more false s rest is = ap (λ (t : Bool). length (cond t (s ∷ filter is_copy rest) (filter is_copy rest))) is

behind_others : (before : List Site) (s : Site) (rest : List Site) → slice_get (before ++ s ∷ rest) (length before) ≡ Some s
behind_others [] s rest = refl
behind_others (b ∷ before) s rest = behind_others before s rest

taken : (before : List Site) (s : Site) (rest : List Site) → take (suc (length before)) (before ++ s ∷ rest) ≡ before ++ s ∷ []
taken [] s rest = refl
taken (b ∷ before) s rest = ap (λ (xs : List Site). b ∷ xs) (taken before s rest)

copies_joined : (xs ys : List Site) → copies (xs ++ ys) ≡ copies xs + copies ys
copies_joined [] ys = omega arith
copies_joined (x ∷ xs) ys = by_kind (is_copy x) refl (copies_joined xs ys)
  where
    by_kind : (b : Bool) → is_copy x ≡ b → copies (xs ++ ys) ≡ copies xs + copies ys → copies (x ∷ (xs ++ ys)) ≡ copies (x ∷ xs) + copies ys
    by_kind true is rest = omega (arith, copies_more true x (xs ++ ys) is, copies_more true x xs is, rest)
    by_kind false is rest = omega (arith, copies_more false x (xs ++ ys) is, copies_more false x xs is, rest)

-- what each site of a list saves, by how many copies stand before it
abbrev saves : (ℕ → ℕ) → List Site → (site : ℕ) → ℕ
saves g sites k = cond (copy_at (site_at sites k)) (g (copies (take k sites))) 0

saves_from : (g : ℕ → ℕ) (sites before behind : List Site) → sites ≡ before ++ behind
    → sum_by (saves g sites) (range_with_len (length before + 1) (length behind)) ≤ sum_by g (range_with_len (copies before + 1) (copies behind))
saves_from g sites before [] is = omega arith
saves_from g sites before (s ∷ rest) is = by_kind (is_copy s) refl (saves_from g sites (before ++ s ∷ []) rest (is ∙ sym (append_assoc before (s ∷ []) rest)))
  where
    by_kind : (b : Bool) → is_copy s ≡ b
        → sum_by (saves g sites) (range_with_len (length (before ++ s ∷ []) + 1) (length rest)) ≤ sum_by g (range_with_len (copies (before ++ s ∷ []) + 1) (copies rest))
        → sum_by (saves g sites) (range_with_len (length before + 1) (suc (length rest))) ≤ sum_by g (range_with_len (copies before + 1) (copies (s ∷ rest)))
    by_kind true kind few =
        let more : length before + 1 ≡ suc (length before) = omega arith in
        let there : copy_at (site_at sites (length before + 1)) ≡ true =
        ap (λ (x : List Site). copy_at (site_at x (length before + 1))) is ∙ ap (λ n. copy_at (site_at (before ++ s ∷ rest) n)) more ∙ ap copy_at (behind_others before s rest) ∙ kind in
        let front : take (length before + 1) sites ≡ before ++ s ∷ [] = ap (take (length before + 1)) is ∙ ap (λ n. take n (before ++ s ∷ rest)) more ∙ taken before s rest in
        let long : length (before ++ s ∷ []) + 1 ≡ length before + 1 + 1 = omega (arith, length-append before (s ∷ [])) in
        let one : copies (s ∷ []) ≡ 1 = copies_more true s [] kind in
        let many : copies (before ++ s ∷ []) ≡ copies before + 1 = omega (arith, copies_joined before (s ∷ []), one) in
        let whole : copies (s ∷ rest) ≡ suc (copies rest) = omega (arith, copies_more true s rest kind) in
        let saves_here : saves g sites (length before + 1) ≡ g (copies before + 1) = (λ i. cond (there i) (g (copies (front i))) 0) ∙ ap g many in
        omega (
          arith,
          few,
          saves_here,
          sum_by-cons (saves g sites) (length before + 1) (range_with_len (length before + 1 + 1) (length rest)),
          ap (λ m. sum_by (saves g sites) (range_with_len m (length rest))) long,
          ap (λ m. sum_by g (range_with_len (m + 1) (copies rest))) many,
          ap (λ n. sum_by g (range_with_len (copies before + 1) n)) whole,
          sum_by-cons g (copies before + 1) (range_with_len (copies before + 1 + 1) (copies rest)),
        )
    by_kind false kind few =
        let more : length before + 1 ≡ suc (length before) = omega arith in
        let there : copy_at (site_at sites (length before + 1)) ≡ false =
        ap (λ (x : List Site). copy_at (site_at x (length before + 1))) is ∙ ap (λ n. copy_at (site_at (before ++ s ∷ rest) n)) more ∙ ap copy_at (behind_others before s rest) ∙ kind in
        let long : length (before ++ s ∷ []) + 1 ≡ length before + 1 + 1 = omega (arith, length-append before (s ∷ [])) in
        let one : copies (s ∷ []) ≡ 0 = copies_more false s [] kind in
        let many : copies (before ++ s ∷ []) ≡ copies before = omega (arith, copies_joined before (s ∷ []), one) in
        let whole : copies (s ∷ rest) ≡ copies rest = copies_more false s rest kind in
        let saves_here : saves g sites (length before + 1) ≡ 0 = ap (λ (t : Bool). cond t (g (copies (take (length before + 1) sites))) 0) there in
        omega (
          arith,
          few,
          saves_here,
          sum_by-cons (saves g sites) (length before + 1) (range_with_len (length before + 1 + 1) (length rest)),
          ap (λ m. sum_by (saves g sites) (range_with_len m (length rest))) long,
          ap (λ m. sum_by g (range_with_len (m + 1) (copies rest))) many,
          ap (λ n. sum_by g (range_with_len (copies before + 1) n)) whole,
        )

all_saves : (g : ℕ → ℕ) (sites : List Site) → sum_by (saves g sites) (range_with_len 1 (length sites)) ≤ sum_by g (range_with_len 1 (copies sites))
all_saves g sites = saves_from g sites [] sites refl

-- ---- what a boot restores

size_restores : (f : Frame) (xs : List ℕ) → acts_size f (map act.Restore xs) ≡ sum_by (restored_size f) xs
size_restores f [] = refl
size_restores f (r ∷ rs) = omega (arith, sum_by-cons (restored_size f) r rs, size_restores f rs)

marks_restores : (xs : List ℕ) → acts_marks (map act.Restore xs) ≡ 0
marks_restores [] = refl
marks_restores (r ∷ rs) = omega (arith, marks_restores rs)

pub boot_signs : (scheme : Scheme) (count : ℕ) → acts_marks (restore_acts scheme count) ≡ 0
boot_signs Undo count = marks_restores (range_with_len 0 count)
boot_signs Bank count = refl

-- ---- all regions

-- a task's frame under a scheme, whose regions write first what the program says
pub record IsTaskFrame (c : Core) (t : CoreTask) (f : Frame) : Type 0 where
  pub task : f.task ≡ t
  pub core : f.core ≡ c
  pub areas : f.areas ≡ areas_from free_at_first c.arrays
  pub firsts : f.firsts ≡ all_first c t

region_few : (c : Core) (t : CoreTask) (f : Frame) → IsTaskFrame c t f → (r : ℕ) → region_size f r ≤ 2 * first_words c t r
region_few c t f is r =
    let same : region_size f r ≡ homes_size (areas_from free_at_first c.arrays) (slice_index_or (all_first c t) r []) = λ i. homes_size (is.areas i) (slice_index_or (is.firsts i) r []) in
    let here : 0 + r ≡ r = omega arith in
    omega (arith, same, first_few c t 0 (regions t) r, ap (first_words c t) here)

regions_sum : (c : Core) (t : CoreTask) (f : Frame) → IsTaskFrame c t f → (xs : List ℕ) → sum_by (region_size f) xs ≤ 2 * sum_by (first_words c t) xs
regions_sum c t f is [] = omega arith
regions_sum c t f is (x ∷ xs) = omega (arith, sum_by-cons (region_size f) x xs, sum_by-cons (first_words c t) x xs, region_few c t f is x, regions_sum c t f is xs)

-- under `undo` all regions are saved, locked and restored
pub undo_few : (c : Core) (t : CoreTask) (f : Frame) (count : ℕ) → IsTaskFrame c t f
    → acts_size f (restore_acts Undo count) + save_lines f Undo 0 + sum_by (λ k. cond (copy_at (site_at t.sites k)) (save_lines f Undo (region_of t k)) 0) (range_with_len 1 (length t.sites)) ≤ safety_words Undo c t
undo_few c t f count is =
    let g : ℕ → ℕ = region_size f in
    let many : length f.firsts ≡ regions t = ap length is.firsts ∙ length-map (range_with_len 0 (regions t)) (first c t) ∙ length-range_with_len 0 (regions t) in
    let next : regions t ≡ suc (copies t.sites) = omega arith in
    let all : length f.firsts - 0 ≡ regions t = omega (arith, many) in
    omega (
      arith,
      many,
      size_restores f (range_with_len 0 count),
      sum_below (λ r. region_size f r + 6) 0 count (length f.firsts),
      ap (λ n. sum_by (λ r. region_size f r + 6) (range_with_len 0 n)) all,
      sum_and g 6 (range_with_len 0 (regions t)),
      length-range_with_len 0 (regions t),
      all_saves (λ r. region_size f r + 7) t.sites,
      sum_and g 7 (range_with_len 1 (copies t.sites)),
      length-range_with_len 1 (copies t.sites),
      ap (λ n. sum_by g (range_with_len 0 n)) next,
      sum_by-cons g 0 (range_with_len 1 (copies t.sites)),
      regions_sum c t f is (range_with_len 0 (regions t)),
    )
