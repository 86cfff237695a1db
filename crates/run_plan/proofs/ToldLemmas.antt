-- What is told of a task's sites is what the definitions say of them, wherever one of them stands.
use Rattle.std.proofs.Common.{◌≡◌, ℕ, zero, suc, ◌+◌, ◌-◌, ◌<◌, ◌≤◌, min, Bool, true, false, not, ◌&&◌, ◌==◌, cond, List, [], ◌∷◌, ◌++◌, map, length, filter, take, slice_index, bit_and, refl, ap, sym, subst, ◌∙◌, arith}
use Rattle.std.proofs.Math.Nat.{min-eq_left, min-le_right}
use Rattle.std.specs.List.{AllByRecursion, range_with_len}
use Rattle.std.proofs.lemmas.Bool.{le-ltb}
use Rattle.std.proofs.lemmas.List.{append_assoc, map-append, length-take}
use Rattle.std.proofs.lemmas.List.Elements.{filter-append}
use Rattle.task_ast.specs.declared.core_form.CoreStmt.{CoreStmt, Row_of-CoreStmt, end_of-CoreStmt, more_of-CoreStmt}
use Rattle.task_ast.specs.declared.core_form.CoreStmt.TheVariants as stmt
use Rattle.task_ast.specs.declared.core_form.CoreTask.{CoreTask}
use Rattle.task_ast.specs.declared.core_form.Core.{Core}
use Rattle.task_ast.specs.declared.core_form.Site.{Site}
use Rattle.task_ast.specs.CoreSites.{site_numbers, row_numbers, all_numbers}
use Rattle.task_ast.specs.WellFormed.{IsCoreTask}
use Rattle.io_depend.specs.Sets.{has}
use Rattle.io_depend.specs.Depend.{flow, dependents}
use Rattle.io_depend.specs.Rows.{own_bit}
use Rattle.io_depend.specs.Told.{Told, Tells, tells_later}
use Rattle.io_depend.specs.RangeLaws.{range_more, has_filter}
use Rattle.region_split.specs.Regions.{is_copy, copies, region_of}
use Rattle.word_isa.specs.declared.parts.Scheme.{Scheme}
use Rattle.run_plan.specs.declared.act.Act.{Act}
use Rattle.run_plan.specs.declared.act.Act.TheVariants as act
use Rattle.run_plan.specs.PlanOf.{Around, save_acts, block_acts, anew_acts, again_acts, unless_plain, statement_acts, row_acts, body_acts, around}
use Rattle.run_plan.specs.Told.{later_told}

-- one site more
one_more : (t : Bool) (k : ℕ) → map act.Drop (cond t (k ∷ []) []) ≡ cond t (act.Drop k ∷ []) []
one_more true k = refl
one_more false k = refl

told_more : (d : Told) (n k : ℕ) → map act.Drop (later_told d (n + 1) k) ≡ map act.Drop (later_told d n k) ++ cond (tells_later d k (n + 1)) (act.Drop (n + 1) ∷ []) []
told_more d n k =
    let at : 1 + n ≡ n + 1 = omega arith in
    ap (λ xs. map act.Drop (filter (tells_later d k) xs)) (range_more 1 n) ∙ ap (map act.Drop) (filter-append (tells_later d k) (range_with_len 1 n) ((1 + n) ∷ []))
    ∙ map-append act.Drop (later_told d n k) (filter (tells_later d k) ((1 + n) ∷ []))
    ∙ (λ i. map act.Drop (later_told d n k) ++ one_more (tells_later d k (at i)) (at i) i)

pub later_more : (d : Told) (n k : ℕ) (before acts after : List Act) (t : Bool) → acts ≡ before ++ map act.Drop (later_told d n k) → t ≡ tells_later d k (n + 1)
    → after ≡ acts ++ cond t (act.Drop (n + 1) ∷ []) [] → after ≡ before ++ map act.Drop (later_told d (n + 1) k)
later_more d n k before acts after t at_acts at_t made =
    made ∙ (λ i. at_acts i ++ cond (at_t i) (act.Drop (n + 1) ∷ []) []) ∙ append_assoc before (map act.Drop (later_told d n k)) (cond (tells_later d k (n + 1)) (act.Drop (n + 1) ∷ []) [])
    ∙ ap (λ (acts : List Act). before ++ acts) (sym (told_more d n k))

-- ---- what is told where a site stands

-- a claim on each number of a range
pub all_in_range : (P : ℕ → Type 0) (m n : ℕ) → ((k : ℕ) → m ≤ k → k < m + n → P k) → AllByRecursion P (range_with_len m n)
all_in_range P m zero all = tt
all_in_range P m (suc n) all = (all m (omega arith) (omega arith), all_in_range P (m + 1) n (λ k low high. all k (omega arith) (omega arith)))

-- numbers that a test leaves out
left_out : (f : ℕ → Bool) (m n : ℕ) → f m ≡ false → filter f (range_with_len m (suc n)) ≡ filter f (range_with_len (m + 1) n)
left_out f m n none = ap (λ t. cond t (m ∷ filter f (range_with_len (m + 1) n)) (filter f (range_with_len (m + 1) n))) none

skipped : (f : ℕ → Bool) (m j n : ℕ) → ((a : ℕ) → m ≤ a → a < m + j → f a ≡ false) → filter f (range_with_len m (j + n)) ≡ filter f (range_with_len (m + j) n)
skipped f m zero n none = let e : zero + n ≡ n = omega arith in let at : m ≡ m + zero = omega arith in λ i. filter f (range_with_len (at i) (e i))
skipped f m (suc j) n none =
    let e : suc j + n ≡ suc (j + n) = omega arith in
    let at : m + 1 + j ≡ m + suc j = omega arith in
    ap (λ x. filter f (range_with_len m x)) e ∙ left_out f m (j + n) (none m (omega arith) (omega arith))
    ∙ skipped f (m + 1) j n (λ a low high. none a (omega arith) (omega arith)) ∙ ap (λ x. filter f (range_with_len x n)) at

-- tests that agree in a range
one_test : (t u : Bool) (m : ℕ) (xs ys : List ℕ) → t ≡ u → xs ≡ ys → cond t (m ∷ xs) xs ≡ cond u (m ∷ ys) ys
one_test t u m xs ys test rest = λ i. cond (test i) (m ∷ rest i) (rest i)

same_between : (f g : ℕ → Bool) (m n : ℕ) → ((a : ℕ) → m ≤ a → a < m + n → f a ≡ g a) → filter f (range_with_len m n) ≡ filter g (range_with_len m n)
same_between f g m zero same = refl
same_between f g m (suc n) same =
    one_test (f m) (g m) m _ _ (same m (omega arith) (omega arith)) (same_between f g (m + 1) n (λ a low high. same a (omega arith) (omega arith)))

-- the sites that depend on a site
none_before : (d : Told) (k a : ℕ) → a ≤ k → tells_later d k a ≡ false
none_before d k a early = ap (λ t. t && not (bit_and (slice_index d.sites a) (own_bit k) == 0)) (le-ltb k a early)

later_is : (c : Core) (t : CoreTask) (d : Told) → Tells c t d → (k : ℕ) → 1 ≤ k → k ≤ length t.sites → later_told d (length t.sites) k ≡ dependents t k
later_is c t d tells k low high =
    let n = length t.sites in
    let all : n ≡ k + (n - k) = omega (arith, high) in
    let at : 1 + k ≡ k + 1 = omega arith in
    ap (λ x. filter (tells_later d k) (range_with_len 1 x)) all
    ∙ skipped (tells_later d k) 1 k (n - k) (λ a above below. none_before d k a (omega (arith, below)))
    ∙ ap (λ x. filter (tells_later d k) (range_with_len x (n - k))) at
    ∙ same_between (tells_later d k) (has (flow t k).sites) (k + 1) (n - k)
    (λ a above below. tells.later k a (omega (arith, low), high) (omega (arith, above), omega (arith, below, high)) ∙ has_filter (has (flow t k).sites) a (k + 1) (n - k) above below)

-- the region of a copy
pub copies_few : (sites : List Site) → copies sites ≤ length sites
copies_few [] = omega arith
copies_few (x ∷ xs) = omega (arith, one_less (is_copy x) x (filter is_copy xs) (length xs) (copies_few xs))
  where
    one_less : (t : Bool) (x : Site) (xs : List Site) (n : ℕ) → length xs ≤ n → length (cond t (x ∷ xs) xs) ≤ suc n
    one_less true x xs n few = omega (arith, few)
    one_less false x xs n few = omega (arith, few)

region_is : (t : CoreTask) (k : ℕ) → length t.sites ≤ 128 → min (copies (take k t.sites)) 4294967295 ≡ region_of t k
region_is t k few = min-eq_left (omega (arith, copies_few (take k t.sites), length-take k t.sites, min-le_right k (length t.sites), few))

-- ---- acts that go by what agrees at their sites

all_front : (P : ℕ → Type 0) (xs ys : List ℕ) → AllByRecursion P (xs ++ ys) → AllByRecursion P xs
all_front P [] ys all = tt
all_front P (x ∷ xs) ys all = (all.0, all_front P xs ys all.1)

all_behind : (P : ℕ → Type 0) (xs ys : List ℕ) → AllByRecursion P (xs ++ ys) → AllByRecursion P ys
all_behind P [] ys all = all
all_behind P (x ∷ xs) ys all = all_behind P xs ys all.1

module _ (a b : Around) (scheme : a.scheme ≡ b.scheme) where
  abbrev Agree : ℕ → Type 0
  Agree k = (a.dependents k ≡ b.dependents k) × (a.region k ≡ b.region k)

  mutual
    acts_agree : (s : CoreStmt) → AllByRecursion Agree (site_numbers s) → statement_acts a s ≡ statement_acts b s
    acts_agree (stmt.Assign x e) all = refl
    acts_agree (stmt.Point p array i) all = refl
    acts_agree (stmt.If' c m yes_row n no_row) all =
        let ys = row_agrees yes_row (all_front Agree (row_numbers yes_row) (row_numbers no_row) all) in
        let ns = row_agrees no_row (all_behind Agree (row_numbers yes_row) (row_numbers no_row) all) in
        λ i. unless_plain (row_numbers yes_row ++ row_numbers no_row) (stmt.If' c m yes_row n no_row) (act.Test c (ys i) (ns i)) ∷ []
    acts_agree (stmt.Loop' i turns m row) all = refl
    acts_agree (stmt.Io k x p args) all =
        λ i. act.Value k ∷ act.Look k ∷ act.Choose k (act.Drop k ∷ map act.Drop (all.0.0 i) ++ act.Issue k ∷ act.Seal k ∷ []) (act.Take k ∷ []) ∷ act.Write k ∷ []
    acts_agree (stmt.Block' k m row) all = ap (block_acts k) (row_agrees row all.1)
    acts_agree (stmt.Copy k to from n) all = λ i. act.Value k ∷ save_acts (scheme i) (all.0.1 i) ++ act.Choose k (anew_acts k) (again_acts k) ∷ []

    row_agrees : {n : _} (row : Row_of-CoreStmt n) → AllByRecursion Agree (row_numbers row) → row_acts a row ≡ row_acts b row
    row_agrees end_of-CoreStmt all = refl
    row_agrees (more_of-CoreStmt s rest) all =
        let one = acts_agree s (all_front Agree (site_numbers s) (row_numbers rest) all) in
        let more = row_agrees rest (all_behind Agree (site_numbers s) (row_numbers rest) all) in
        λ i. one i ++ more i

  body_agrees : (body : List CoreStmt) → AllByRecursion Agree (all_numbers body) → body_acts a body ≡ body_acts b body
  body_agrees [] all = refl
  body_agrees (s ∷ rest) all =
      let one = acts_agree s (all_front Agree (site_numbers s) (all_numbers rest) all) in
      let more = body_agrees rest (all_behind Agree (site_numbers s) (all_numbers rest) all) in
      λ i. one i ++ more i

-- a task's acts by what is told are those of its definition
pub task_told : (c : Core) (t : CoreTask) (d : Told) → IsCoreTask c t → Tells c t d → (a : Around) (scheme : Scheme) → a ≡ record { scheme = scheme; dependents = later_told d (length t.sites); region = λ k. min (copies (take k t.sites)) 4294967295 }
    → body_acts a t.body ≡ body_acts (around scheme t) t.body
task_told c t d core tells a scheme is =
    ap (λ a. body_acts a t.body) is
    ∙ body_agrees _ (around scheme t) refl t.body (subst (AllByRecursion _) (sym core.sites.numbers)
    (all_in_range _ 1 (length t.sites) (λ k low high. (later_is c t d tells k low (omega (arith, high)), region_is t k core.sites.few))))
