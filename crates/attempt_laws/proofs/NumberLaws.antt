-- A task whose sites are numbered in the order of its text is numbered: what is found from an I/O site comes later.
use Rattle.std.proofs.Common.{◌≡◌, ◌≢◌, ◌⊎◌, inl, inr, ℕ, zero, suc, ◌+◌, ◌-◌, ◌≤◌, ◌<◌, Bool, true, false, ◌||◌, ◌==◌, cond, List, [], ◌∷◌, ◌++◌, length, filter, refl, sym, ap, ap₂, subst, ◌∙◌, arith, eqb-true, eq-eqb}
use Rattle.std.specs.Prelude.{⊤}
use Rattle.std.specs.List.{list_any, range_with_len}
use Rattle.attempt_laws.proofs.SiteLists.{not_both}
use Rattle.attempt_laws.specs.Records.{IsInOrder, IsNumbered, IsOnce, acts_in, all_acts_in, row_acts_in}
use Rattle.io_depend.specs.Depend.{flow}
use Rattle.io_depend.specs.Flow.{Carrying, all_passed, block_passed, carries, either, end_carries, into_arrays, into_pointers, into_sites, no_carrying, no_sites, one_carries, passed, reading_carries, row_assigns, row_moves, row_passed, row_reads, target_carries}
use Rattle.io_depend.specs.Sets.{has, has_some, joined}
use Rattle.io_flow.specs.Written.{Includes, has-append, or_left, or_right}
use Rattle.io_flow.proofs.FlowLaws.{has-joined}
use Rattle.io_flow.proofs.FlowMeets.{append_left, append_right}
use Rattle.io_flow.proofs.FlowUnion.{Covered, Sound, cov_args, cov_carries, cov_end, or_true, sound_passed}
use Rattle.io_flow.specs.Replay.{all_sites_in, row_sites_in, sites_in}
use Rattle.task_ast.specs.Pointing.{Pointing, end_arrays, pointing, reading_arrays, target_arrays}
use Rattle.task_ast.specs.declared.core_form.CoreEnd.{CoreEnd}
use Rattle.task_ast.specs.declared.core_form.CoreExpr.{CoreExpr}
use Rattle.task_ast.specs.declared.core_form.CoreStmt.{CoreStmt, Row_of-CoreStmt, end_of-CoreStmt, more_of-CoreStmt}
use Rattle.task_ast.specs.declared.core_form.CoreTask.{CoreTask}
use Rattle.task_attempts.specs.Boots.{after}
use Rattle.task_ast.specs.declared.core_form.CoreStmt.TheVariants as stmt

-- ---- ascending lists

abbrev Ascends : List ℕ → Type 0
Ascends [] = ⊤
Ascends (x ∷ xs) = ((n : ℕ) → has xs n ≡ true → x < n) × Ascends xs

in_append : (xs ys : List ℕ) (n : ℕ) → has (xs ++ ys) n ≡ true → (has xs n ≡ true) ⊎ (has ys n ≡ true)
in_append xs ys n there = or_true (has xs n) (has ys n) (sym (has-append xs ys n) ∙ there)

asc_front : (xs ys : List ℕ) → Ascends (xs ++ ys) → Ascends xs
asc_front [] ys asc = tt
asc_front (x ∷ xs) ys asc = (λ n there. asc.0 n (append_left xs ys n there), asc_front xs ys asc.1)

asc_back : (xs ys : List ℕ) → Ascends (xs ++ ys) → Ascends ys
asc_back [] ys asc = asc
asc_back (x ∷ xs) ys asc = asc_back xs ys asc.1

asc_between : (xs ys : List ℕ) → Ascends (xs ++ ys) → (m n : ℕ) → has xs m ≡ true → has ys n ≡ true → m < n
asc_between [] ys asc m n there there' = absurd (cc there)
asc_between (x ∷ xs) ys asc m n there there' = by_first (or_true (x == m) (has xs m) there) (asc_between xs ys asc.1 m n)
  where
    by_first : (x == m) ≡ true ⊎ has xs m ≡ true → (has xs m ≡ true → has ys n ≡ true → m < n) → m < n
    by_first (inl is) more = subst (λ x. x < n) (eqb-true x m is) (asc.0 n (append_right xs ys n there'))
    by_first (inr later) more = more later there'

below_itself : (n : ℕ) {A : Type 0} → n < n → A
below_itself n less = absurd (omega arith)

asc_once : (xs : List ℕ) → Ascends xs → IsOnce xs
asc_once [] asc = tt
asc_once (x ∷ xs) asc = (by_there (has xs x) refl, asc_once xs asc.1)
  where
    by_there : (b : Bool) → has xs x ≡ b → b ≡ false
    by_there true there = below_itself x (asc.0 x there)
    by_there false there = refl

in_range : (a n k : ℕ) → has (range_with_len a n) k ≡ true → (a ≤ k) × (k < a + n)
in_range a zero k there = absurd (cc there)
in_range a (suc n) k there = by_first (or_true (a == k) (has (range_with_len (a + 1) n) k) there) (in_range (a + 1) n k)
  where
    by_first : (a == k) ≡ true ⊎ has (range_with_len (a + 1) n) k ≡ true → (has (range_with_len (a + 1) n) k ≡ true → (a + 1 ≤ k) × (k < a + 1 + n)) → (a ≤ k) × (k < a + suc n)
    by_first (inl is) more = let e = eqb-true a k is in (omega arith, omega arith)
    by_first (inr later) more = let m = more later in (omega (arith, m.0), omega (arith, m.1))

range_has : (a n k : ℕ) → a ≤ k → k < a + n → has (range_with_len a n) k ≡ true
range_has a zero k least below = absurd (omega arith)
range_has a (suc n) k least below = by_first (a == k) refl (range_has (a + 1) n k)
  where
    by_first : (b : Bool) → (a == k) ≡ b → (a + 1 ≤ k → k < a + 1 + n → has (range_with_len (a + 1) n) k ≡ true) → (b || has (range_with_len (a + 1) n) k) ≡ true
    by_first true is more = refl
    by_first false is more = let other : a ≢ k = λ e. not_both (a == k) (eq-eqb a k e) is in more (omega arith) (omega arith)

asc_range : (a n : ℕ) → Ascends (range_with_len a n)
asc_range a zero = tt
asc_range a (suc n) = (λ k there. let r = in_range (a + 1) n k there in omega (arith, r.0), asc_range (a + 1) n)

filter_has : (test : ℕ → Bool) (xs : List ℕ) (k : ℕ) → test k ≡ true → has xs k ≡ true → has (filter test xs) k ≡ true
filter_has test [] k passes there = there
filter_has test (x ∷ xs) k passes there = by_test (test x) refl (or_true (x == k) (has xs k) there) (filter_has test xs k passes)
  where
    by_test : (b : Bool) → test x ≡ b → (x == k) ≡ true ⊎ has xs k ≡ true → (has xs k ≡ true → has (filter test xs) k ≡ true) → has (cond b (x ∷ filter test xs) (filter test xs)) k ≡ true
    by_test true is (inl here) more = or_left (x == k) (has (filter test xs) k) here
    by_test true is (inr later) more = or_right (x == k) (has (filter test xs) k) (more later)
    by_test false is (inl here) more = not_both (test x) (ap test (eqb-true x k here) ∙ passes) is
    by_test false is (inr later) more = more later

-- ---- sites of the text

in_both : (xs ys us vs : List ℕ) → Includes xs us → Includes ys vs → Includes (xs ++ ys) (us ++ vs)
in_both xs ys us vs f g n there = by_part (in_append xs ys n there)
  where
    by_part : (has xs n ≡ true) ⊎ (has ys n ≡ true) → has (us ++ vs) n ≡ true
    by_part (inl front) = append_left us vs n (f n front)
    by_part (inr back) = append_right us vs n (g n back)

mutual
  acts_are_sites : (s : CoreStmt) → Includes (acts_in s) (sites_in s)
  acts_are_sites (stmt.Assign target e) n there = there
  acts_are_sites (stmt.Point pointer array index) n there = there
  acts_are_sites (stmt.If' c size_a a size_b b) n there = in_both (row_acts_in a) (row_acts_in b) (row_sites_in a) (row_sites_in b) (row_acts_are_sites a) (row_acts_are_sites b) n there
  acts_are_sites (stmt.Loop' variable turns size body) n there = there
  acts_are_sites (stmt.Io k target peripheral args) n there = there
  acts_are_sites (stmt.Block' k size body) n there = or_right (k == n) (has (row_sites_in body) n) (row_acts_are_sites body n there)
  acts_are_sites (stmt.Copy k to from words) n there = there

  row_acts_are_sites : {size : _} (b : Row_of-CoreStmt size) → Includes (row_acts_in b) (row_sites_in b)
  row_acts_are_sites end_of-CoreStmt n there = there
  row_acts_are_sites (more_of-CoreStmt s rest) n there = in_both (acts_in s) (row_acts_in rest) (sites_in s) (row_sites_in rest) (acts_are_sites s) (row_acts_are_sites rest) n there

all_acts_are_sites : (b : List CoreStmt) → Includes (all_acts_in b) (all_sites_in b)
all_acts_are_sites [] n there = there
all_acts_are_sites (s ∷ rest) n there = in_both (acts_in s) (all_acts_in rest) (sites_in s) (all_sites_in rest) (acts_are_sites s) (all_acts_are_sites rest) n there

-- a site that is found was found before, or is one of these
abbrev IsFound : (before after own : List ℕ) → Type 0
IsFound before after own = (n : ℕ) → has after n ≡ true → (has before n ≡ true) ⊎ (has own n ≡ true)

arrays_sites : (flows : Bool) (arrays : List ℕ) (c : Carrying) → (into_arrays flows arrays c).sites ≡ c.sites
arrays_sites true arrays c = refl
arrays_sites false arrays c = refl

pointers_sites : (flows : Bool) (pointers : List ℕ) (c : Carrying) → (into_pointers flows pointers c).sites ≡ c.sites
pointers_sites true pointers c = refl
pointers_sites false pointers c = refl

-- what goes into arrays and pointers alone finds no site
none_found : (before after own : List ℕ) → after ≡ before → IsFound before after own
none_found before after own is n there = inl (subst (λ xs. has xs n ≡ true) is there)

site_found : (flows : Bool) (k : ℕ) (c : Carrying) → IsFound c.sites (into_sites flows k c).sites (k ∷ [])
site_found true k c n there = by_first (k == n) refl there
  where
    by_first : (b : Bool) → (k == n) ≡ b → (b || has c.sites n) ≡ true → (has c.sites n ≡ true) ⊎ (((k == n) || false) ≡ true)
    by_first true is there = inr (or_left (k == n) false is)
    by_first false is there = inl there
site_found false k c n there = inl there

found_then : (a b c own own' : List ℕ) → IsFound a b own → IsFound b c own' → IsFound a c (own ++ own')
found_then a b c own own' first next n there = by_next (next n there)
  where
    by_first : (has a n ≡ true) ⊎ (has own n ≡ true) → (has a n ≡ true) ⊎ (has (own ++ own') n ≡ true)
    by_first (inl before) = inl before
    by_first (inr here) = inr (append_left own own' n here)

    by_next : (has b n ≡ true) ⊎ (has own' n ≡ true) → (has a n ≡ true) ⊎ (has (own ++ own') n ≡ true)
    by_next (inl before) = by_first (first n before)
    by_next (inr here) = inr (append_right own own' n here)

either_found : (a b c own own' : List ℕ) → IsFound a b own → IsFound a c own' → IsFound a (joined b c) (own ++ own')
either_found a b c own own' yes_found no_found n there = by_branch (or_true (has b n) (has c n) (sym (has-joined b c n) ∙ there))
  where
    on_yes : (has a n ≡ true) ⊎ (has own n ≡ true) → (has a n ≡ true) ⊎ (has (own ++ own') n ≡ true)
    on_yes (inl before) = inl before
    on_yes (inr here) = inr (append_left own own' n here)

    on_no : (has a n ≡ true) ⊎ (has own' n ≡ true) → (has a n ≡ true) ⊎ (has (own ++ own') n ≡ true)
    on_no (inl before) = inl before
    on_no (inr here) = inr (append_right own own' n here)

    by_branch : (has b n ≡ true) ⊎ (has c n ≡ true) → (has a n ≡ true) ⊎ (has (own ++ own') n ≡ true)
    by_branch (inl there) = on_yes (yes_found n there)
    by_branch (inr there) = on_no (no_found n there)

block_found : (around : Bool) (k : ℕ) (sites : List ℕ) (inside : Carrying) (own : List ℕ) → IsFound [] inside.sites own → IsFound sites (block_passed around k sites inside).sites (k ∷ own)
block_found around k sites inside own found n there =
    by_site (site_found (around || has_some inside.sites) k (record inside { sites = inside.sites ++ sites }) n there)
  where
    by_inside : (has [] n ≡ true) ⊎ (has own n ≡ true) → (has sites n ≡ true) ⊎ (((k == n) || has own n) ≡ true)
    by_inside (inl none) = absurd (cc none)
    by_inside (inr here) = inr (or_right (k == n) (has own n) here)

    by_part : (has inside.sites n ≡ true) ⊎ (has sites n ≡ true) → (has sites n ≡ true) ⊎ (((k == n) || has own n) ≡ true)
    by_part (inl there) = by_inside (found n there)
    by_part (inr before) = inl before

    by_site : (has (inside.sites ++ sites) n ≡ true) ⊎ (((k == n) || false) ≡ true) → (has sites n ≡ true) ⊎ (((k == n) || has own n) ≡ true)
    by_site (inl there) = by_part (in_append inside.sites sites n there)
    by_site (inr here) = inr (or_left (k == n) (has own n) (by_or (or_true (k == n) false here)))
      where
        by_or : (k == n) ≡ true ⊎ false ≡ true → (k == n) ≡ true
        by_or (inl is) = is
        by_or (inr none) = absurd (cc none)

mutual
  finds_only : (points : Pointing) (sources : ℕ → Bool) (s : CoreStmt) (around : Bool) (c : Carrying) → IsFound c.sites (passed points sources s around c).sites (sites_in s)
  finds_only points sources (stmt.Assign t e) around c n there = none_found c.sites _ [] (arrays_sites (around || (target_carries points c t || carries points c e)) (target_arrays points t) c) n there
  finds_only points sources (stmt.Point p a i) around c n there = none_found c.sites _ [] (pointers_sites (around || carries points c i) (p ∷ []) c) n there
  finds_only points sources (stmt.If' e size_a a size_b b) around c n there =
      either_found c.sites _ _ (row_sites_in a) (row_sites_in b) (row_finds_only points sources a (around || carries points c e) c) (row_finds_only points sources b (around || carries points c e) c) n there
  finds_only points sources (stmt.Loop' variable turns size body) around c n there =
      let flows = around || row_reads points c body in
      let arrays = variable ∷ row_assigns points body in
      none_found c.sites _ [] (pointers_sites flows (row_moves body) (into_arrays flows arrays c) ∙ arrays_sites flows arrays c) n there
  finds_only points sources (stmt.Io k t p args) around c n there =
      site_found (around || list_any (carries points c) args) k c n
      (subst (λ xs. has xs n ≡ true) (arrays_sites ((sources k) || (around || reading_carries points c t)) (reading_arrays points t) (into_sites (around || list_any (carries points c) args) k c)) there)
  finds_only points sources (stmt.Block' k size body) around c n there = block_found around k c.sites (row_passed points sources body around (no_sites c)) (row_sites_in body) (row_finds_only points sources body around (no_sites c)) n there
  finds_only points sources (stmt.Copy k to from words) around c n there =
      let flows = around || (end_carries points c to || (end_carries points c from || (carries points c words || one_carries c (end_arrays points from)))) in
      site_found flows k c n (subst (λ xs. has xs n ≡ true) (arrays_sites flows (end_arrays points to) (into_sites flows k c)) there)

  row_finds_only : (points : Pointing) (sources : ℕ → Bool) {size : _} (b : Row_of-CoreStmt size) (around : Bool) (c : Carrying) → IsFound c.sites (row_passed points sources b around c).sites (row_sites_in b)
  row_finds_only points sources end_of-CoreStmt around c n there = inl there
  row_finds_only points sources (more_of-CoreStmt s rest) around c n there =
      let next = passed points sources s around c in
      found_then c.sites next.sites _ (sites_in s) (row_sites_in rest) (finds_only points sources s around c) (row_finds_only points sources rest around next) n there

all_finds_only : (points : Pointing) (sources : ℕ → Bool) (b : List CoreStmt) (around : Bool) (c : Carrying) → IsFound c.sites (all_passed points sources b around c).sites (all_sites_in b)
all_finds_only points sources [] around c n there = inl there
all_finds_only points sources (s ∷ rest) around c n there =
    let next = passed points sources s around c in
    found_then c.sites next.sites _ (sites_in s) (all_sites_in rest) (finds_only points sources s around c) (all_finds_only points sources rest around next) n there

-- ---- where nothing carries

mutual
  -- the pass asks its sources only for the statement's own sites
  passed_alike : (points : Pointing) (f g : ℕ → Bool) (s : CoreStmt) (around : Bool) (c : Carrying) → ((k : ℕ) → has (sites_in s) k ≡ true → f k ≡ g k) → passed points f s around c ≡ passed points g s around c
  passed_alike points f g (stmt.Assign t e) around c same = refl
  passed_alike points f g (stmt.Point p a i) around c same = refl
  passed_alike points f g (stmt.If' e size_a a size_b b) around c same =
      ap₂ either (row_passed_alike points f g a (around || carries points c e) c (λ k there. same k (append_left (row_sites_in a) (row_sites_in b) k there)))
      (row_passed_alike points f g b (around || carries points c e) c (λ k there. same k (append_right (row_sites_in a) (row_sites_in b) k there)))
  passed_alike points f g (stmt.Loop' variable turns size body) around c same = refl
  passed_alike points f g (stmt.Io k t p args) around c same =
      ap (λ b. into_arrays (b || (around || reading_carries points c t)) (reading_arrays points t) (into_sites (around || list_any (carries points c) args) k c)) (same k (or_left (k == k) false (eq-eqb k k refl)))
  passed_alike points f g (stmt.Block' k size body) around c same = ap (block_passed around k c.sites) (row_passed_alike points f g body around (no_sites c) (λ n there. same n (or_right (k == n) (has (row_sites_in body) n) there)))
  passed_alike points f g (stmt.Copy k to from words) around c same = refl

  row_passed_alike : (points : Pointing) (f g : ℕ → Bool) {size : _} (b : Row_of-CoreStmt size) (around : Bool) (c : Carrying) → ((k : ℕ) → has (row_sites_in b) k ≡ true → f k ≡ g k) → row_passed points f b around c ≡ row_passed points g b around c
  row_passed_alike points f g end_of-CoreStmt around c same = refl
  row_passed_alike points f g (more_of-CoreStmt s rest) around c same =
      ap (row_passed points f rest around) (passed_alike points f g s around c (λ k there. same k (append_left (sites_in s) (row_sites_in rest) k there)))
      ∙ row_passed_alike points f g rest around (passed points g s around c) (λ k there. same k (append_right (sites_in s) (row_sites_in rest) k there))

-- no source
abbrev nowhere : ℕ → Bool
nowhere k = false

-- nothing carries and no site is found: it is what no source covers
record IsBare (c : Carrying) : Type 0 where
  pub cs : ℕ → Carrying
  pub sound : Sound nowhere c cs

covers_none : (b : Bool) (from : ℕ → Bool) → Covered nowhere b from → b ≡ false
covers_none true from covered = absurd (cc (covered.one refl).1)
covers_none false from covered = refl

none_around : Covered nowhere false (λ a. false)
none_around = record { one = λ is. absurd (cc is) }

bare_carries : (points : Pointing) (c : Carrying) → IsBare c → (e : CoreExpr) → carries points c e ≡ false
bare_carries points c bare e = covers_none (carries points c e) _ (cov_carries nowhere points c bare.cs bare.sound e)

bare_site : (c : Carrying) → IsBare c → (k : ℕ) {A : Type 0} → has c.sites k ≡ true → A
bare_site c bare k there = not_both (has c.sites k) there (covers_none (has c.sites k) _ (bare.sound.sites k))

-- a statement without the site leaves it so
bare_passed : (points : Pointing) (a : ℕ) (s : CoreStmt) (c : Carrying) → IsBare c → has (sites_in s) a ≡ false → IsBare (passed points (λ k. k == a) s false c)
bare_passed points a s c bare out =
    subst IsBare (passed_alike points nowhere (λ k. k == a) s false c (λ k there. other k (k == a) refl there))
    (record { cs = λ a. passed points (λ k. k == a) s false (bare.cs a); sound = sound_passed nowhere points s false (λ a. false) c bare.cs none_around bare.sound })
  where
    other : (k : ℕ) (b : Bool) → (k == a) ≡ b → has (sites_in s) k ≡ true → false ≡ (k == a)
    other k true is there = not_both (has (sites_in s) a) (subst (λ k. has (sites_in s) k ≡ true) (eqb-true k a is) there) out
    other k false is there = sym is

any_none : (test : ℕ → Bool) (xs : List ℕ) → ((n : ℕ) → test n ≡ false) → list_any test xs ≡ false
any_none test [] none = refl
any_none test (x ∷ xs) none = ap (λ b. b || list_any test xs) (none x) ∙ any_none test xs none

bare_arrays : (c : Carrying) → IsBare c → (n : ℕ) → has c.arrays n ≡ false
bare_arrays c bare n = covers_none (has c.arrays n) _ (bare.sound.arrays n)

bare_end : (points : Pointing) (c : Carrying) → IsBare c → (e : CoreEnd) → end_carries points c e ≡ false
bare_end points c bare e = covers_none (end_carries points c e) _ (cov_end nowhere points c bare.cs bare.sound e)

bare_copy : (points : Pointing) (c : Carrying) → IsBare c → (to from : CoreEnd) (words : CoreExpr) → (end_carries points c to || (end_carries points c from || (carries points c words || one_carries c (end_arrays points from)))) ≡ false
bare_copy points c bare to from words =
    ap (λ b. b || (end_carries points c from || (carries points c words || one_carries c (end_arrays points from)))) (bare_end points c bare to)
    ∙ ap (λ b. b || (carries points c words || one_carries c (end_arrays points from))) (bare_end points c bare from)
    ∙ ap (λ b. b || one_carries c (end_arrays points from)) (bare_carries points c bare words)
    ∙ any_none (has c.arrays) (end_arrays points from) (bare_arrays c bare)

bare_inside : (c : Carrying) → IsBare c → IsBare (no_sites c)
bare_inside c bare = record { cs = bare.cs; sound = record { arrays = bare.sound.arrays; pointers = bare.sound.pointers; sites = λ n. record { one = λ is. absurd (cc is) } } }

-- ---- what is found comes later

-- a site found in one of two parts whose sites ascend
two_parts : (a k : ℕ) (xs ys us vs : List ℕ) → Ascends (us ++ vs) → Includes xs us → Includes ys vs → has (xs ++ ys) k ≡ true
    → (has xs k ≡ true → (has vs k ≡ false) → a < k) → (has ys k ≡ true → (has us k ≡ false) → a < k) → a < k
two_parts a k xs ys us vs asc own own' there front back = by_part (in_append xs ys k there)
  where
    not_behind : has us k ≡ true → (b : Bool) → has vs k ≡ b → b ≡ false
    not_behind here true is = below_itself k (asc_between us vs asc k k here is)
    not_behind here false is = refl

    not_before : has vs k ≡ true → (b : Bool) → has us k ≡ b → b ≡ false
    not_before here true is = below_itself k (asc_between us vs asc k k is here)
    not_before here false is = refl

    by_part : (has xs k ≡ true) ⊎ (has ys k ≡ true) → a < k
    by_part (inl is) = front is (not_behind (own k is) (has vs k) refl)
    by_part (inr is) = back is (not_before (own' k is) (has us k) refl)

-- what was found isn't one of the other part's
found_in : (before after own : List ℕ) (k : ℕ) → IsFound before after own → has after k ≡ true → has own k ≡ false → has before k ≡ true
found_in before after own k found there out = by_found (found k there)
  where
    by_found : (has before k ≡ true) ⊎ (has own k ≡ true) → has before k ≡ true
    by_found (inl is) = is
    by_found (inr is) = not_both (has own k) is out

-- of two branches, the one whose sites have it
in_left : (before b c own : List ℕ) (k : ℕ) → IsFound before c own → has before k ≡ false → has own k ≡ false → has (joined b c) k ≡ true → has b k ≡ true
in_left before b c own k found new out there = by_branch (or_true (has b k) (has c k) (sym (has-joined b c k) ∙ there))
  where
    by_branch : (has b k ≡ true) ⊎ (has c k ≡ true) → has b k ≡ true
    by_branch (inl is) = is
    by_branch (inr is) = not_both (has before k) (found_in before c own k found is out) new

in_right : (before b c own : List ℕ) (k : ℕ) → IsFound before b own → has before k ≡ false → has own k ≡ false → has (joined b c) k ≡ true → has c k ≡ true
in_right before b c own k found new out there = by_branch (or_true (has b k) (has c k) (sym (has-joined b c k) ∙ there))
  where
    by_branch : (has b k ≡ true) ⊎ (has c k ≡ true) → has c k ≡ true
    by_branch (inl is) = not_both (has before k) (found_in before b own k found is out) new
    by_branch (inr is) = is

-- an act that isn't found where nothing flows
unfound_act : (flows : Bool) (j k : ℕ) (c : Carrying) → IsBare c → flows ≡ false → {A : Type 0} → has (into_sites flows j c).sites k ≡ true → A
unfound_act flows j k c bare none there = bare_site c bare k (subst (λ b. has (into_sites b j c).sites k ≡ true) none there)

module _ (points : Pointing) (a : ℕ) where
  abbrev source : ℕ → Bool
  source k = k == a

  block_later : (j k : ℕ) {size : _} (body : Row_of-CoreStmt size) (c : Carrying) → IsBare c → ((n : ℕ) → has (row_sites_in body) n ≡ true → j < n) → has (row_acts_in body) k ≡ true
      → (has (row_passed points source body false (no_sites c)).sites k ≡ true → a < k) → has (block_passed false j c.sites (row_passed points source body false (no_sites c))).sites k ≡ true → a < k
  block_later j k body c bare above act later there = by_site (site_found (has_some inside.sites) j (record inside { sites = inside.sites ++ c.sites }) k there)
    where
      inside : Carrying
      inside = row_passed points source body false (no_sites c)

      by_part : (has inside.sites k ≡ true) ⊎ (has c.sites k ≡ true) → a < k
      by_part (inl is) = later is
      by_part (inr is) = bare_site c bare k is

      by_or : (j == k) ≡ true ⊎ false ≡ true → a < k
      by_or (inl is) = below_itself k (subst (λ j. j < k) (eqb-true j k is) (above k (row_acts_are_sites body k act)))
      by_or (inr none) = absurd (cc none)

      by_site : (has (inside.sites ++ c.sites) k ≡ true) ⊎ (((j == k) || false) ≡ true) → a < k
      by_site (inl is) = by_part (in_append inside.sites c.sites k is)
      by_site (inr is) = by_or (or_true (j == k) false is)

  -- behind a statement with the source all comes later; behind one without it still nothing carries
  rest_later : (s : CoreStmt) (behind : List ℕ) (k : ℕ) (c : Carrying) → IsBare c → Ascends (sites_in s ++ behind) → has behind k ≡ true
      → (IsBare (passed points source s false c) → a < k) → a < k
  rest_later s behind k c bare asc there later = by_source (has (sites_in s) a) refl
    where
      by_source : (b : Bool) → has (sites_in s) a ≡ b → a < k
      by_source true is = asc_between (sites_in s) behind asc a k is there
      by_source false is = later (bare_passed points a s c bare is)

  mutual
    found_later : (s : CoreStmt) (c : Carrying) → IsBare c → Ascends (sites_in s) → (k : ℕ) → has (acts_in s) k ≡ true → has (passed points source s false c).sites k ≡ true → a < k
    found_later (stmt.Assign t e) c bare asc k act there = absurd (cc act)
    found_later (stmt.Point p x i) c bare asc k act there = absurd (cc act)
    found_later (stmt.If' e size_a x size_b y) c bare asc k act there =
        let there' = subst (λ i. has (either (row_passed points source x i c) (row_passed points source y i c)).sites k ≡ true) (bare_carries points c bare e) there in
        let new : has c.sites k ≡ false = covers_none (has c.sites k) _ (bare.sound.sites k) in
        let in_x = (row_passed points source x false c).sites in
        let in_y = (row_passed points source y false c).sites in
        two_parts a k (row_acts_in x) (row_acts_in y) (row_sites_in x) (row_sites_in y) asc (row_acts_are_sites x) (row_acts_are_sites y) act
        (λ front out. row_found_later x c bare (asc_front (row_sites_in x) (row_sites_in y) asc) k front (in_left c.sites in_x in_y (row_sites_in y) k (row_finds_only points source y false c) new out there'))
        (λ back out. row_found_later y c bare (asc_back (row_sites_in x) (row_sites_in y) asc) k back (in_right c.sites in_x in_y (row_sites_in x) k (row_finds_only points source x false c) new out there'))
    found_later (stmt.Loop' variable turns size body) c bare asc k act there = absurd (cc act)
    found_later (stmt.Io j t p args) c bare asc k act there =
        unfound_act (list_any (carries points c) args) j k c bare (covers_none (list_any (carries points c) args) _ (cov_args nowhere points c bare.cs bare.sound args))
        (subst (λ xs. has xs k ≡ true) (arrays_sites ((source j) || (false || reading_carries points c t)) (reading_arrays points t) (into_sites (list_any (carries points c) args) j c)) there)
    found_later (stmt.Block' j size body) c bare asc k act there =
        block_later j k body c bare asc.0 act (λ inside. row_found_later body (no_sites c) (bare_inside c bare) asc.1 k act inside) there
    found_later (stmt.Copy j to from words) c bare asc k act there =
        let flows = end_carries points c to || (end_carries points c from || (carries points c words || one_carries c (end_arrays points from))) in
        unfound_act flows j k c bare (bare_copy points c bare to from words) (subst (λ xs. has xs k ≡ true) (arrays_sites flows (end_arrays points to) (into_sites flows j c)) there)

    row_found_later : {size : _} (b : Row_of-CoreStmt size) (c : Carrying) → IsBare c → Ascends (row_sites_in b) → (k : ℕ) → has (row_acts_in b) k ≡ true → has (row_passed points source b false c).sites k ≡ true → a < k
    row_found_later end_of-CoreStmt c bare asc k act there = absurd (cc act)
    row_found_later (more_of-CoreStmt s rest) c bare asc k act there =
        let next = passed points source s false c in
        two_parts a k (acts_in s) (row_acts_in rest) (sites_in s) (row_sites_in rest) asc (acts_are_sites s) (row_acts_are_sites rest) act
        (λ front out. found_later s c bare (asc_front (sites_in s) (row_sites_in rest) asc) k front (found_in next.sites _ (row_sites_in rest) k (row_finds_only points source rest false next) there out))
        (λ back out. rest_later s (row_sites_in rest) k c bare asc (row_acts_are_sites rest k back) (λ bare'. row_found_later rest next bare' (asc_back (sites_in s) (row_sites_in rest) asc) k back there))

  all_found_later : (b : List CoreStmt) (c : Carrying) → IsBare c → Ascends (all_sites_in b) → (k : ℕ) → has (all_acts_in b) k ≡ true → has (all_passed points source b false c).sites k ≡ true → a < k
  all_found_later [] c bare asc k act there = absurd (cc act)
  all_found_later (s ∷ rest) c bare asc k act there =
      let next = passed points source s false c in
      two_parts a k (acts_in s) (all_acts_in rest) (sites_in s) (all_sites_in rest) asc (acts_are_sites s) (all_acts_are_sites rest) act
      (λ front out. found_later s c bare (asc_front (sites_in s) (all_sites_in rest) asc) k front (found_in next.sites _ (all_sites_in rest) k (all_finds_only points source rest false next) there out))
      (λ back out. rest_later s (all_sites_in rest) k c bare asc (all_acts_are_sites rest k back) (λ bare'. all_found_later rest next bare' (asc_back (sites_in s) (all_sites_in rest) asc) k back there))

-- at a task's beginning
bare_start : IsBare no_carrying
bare_start = record { cs = λ a. no_carrying; sound = record { arrays = λ n. none; pointers = λ n. none; sites = λ n. none } }
  where
    none : Covered nowhere false (λ a. false)
    none = record { one = λ is. absurd (cc is) }

pub numbered_in_order : (t : CoreTask) → IsInOrder t → IsNumbered t
numbered_in_order t in_order =
    let many = length t.sites in
    let order = in_order in
    let asc : Ascends (all_sites_in t.body) = subst Ascends (sym order) (asc_range 1 many) in
    record {
      once = asc_once (all_sites_in t.body) asc;
      later = λ a k act found.
          let above : a < k = all_found_later (pointing t) a t.body _ bare_start asc k act found in
          let below = in_range 1 many k (subst (λ xs. has xs k ≡ true) order (all_acts_are_sites t.body k act)) in
          filter_has (has (flow t a).sites) (range_with_len (a + 1) (many - a)) k found (range_has (a + 1) (many - a) k (omega (arith, above)) (omega (arith, above, below.1)));
    }
