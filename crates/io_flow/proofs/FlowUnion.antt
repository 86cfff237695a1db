-- What the pass finds from some sites it finds from one of them.
use Rattle.io_flow.specs.Written.{has-append, or_left, or_right}
use Rattle.std.proofs.Common.{◌≡◌, ◌⊎◌, inl, inr, ℕ, Bool, true, false, ◌||◌, ◌==◌, List, [], ◌∷◌, ◌++◌, Option, Some, None, refl, sym, ap, ◌∙◌, eq-eqb}
use Rattle.std.specs.List.{list_any}
use Rattle.io_depend.specs.Flow.{Carrying, all_passed, block_passed, carries, either, end_carries, into_arrays, into_pointers, into_sites, no_sites, one_carries, passed, reading_carries, reads, row_assigns, row_moves, row_passed, row_reads, target_carries, through_carries}
use Rattle.io_depend.specs.Sets.{has, has_some, joined}
use Rattle.io_flow.proofs.FlowLaws.{has-joined, joined_left}
use Rattle.io_flow.proofs.FlowMeets.{arrays_keep, pointers_keep, sites_keep}
use Rattle.io_flow.proofs.FlowRuns.{arrays_get, into_arrays_has, into_pointers_has, into_sites_has}
use Rattle.task_ast.specs.Pointing.{Pointing, end_arrays, reading_arrays, target_arrays}
use Rattle.task_ast.specs.declared.core_form.CoreEnd.{CoreEnd}
use Rattle.task_ast.specs.declared.core_form.CoreExpr.{CoreExpr, end_of-CoreExpr, more_of-CoreExpr}
use Rattle.task_ast.specs.declared.core_form.CoreStmt.{CoreStmt, Row_of-CoreStmt, end_of-CoreStmt, more_of-CoreStmt}
use Rattle.task_ast.specs.declared.core_form.CoreTarget.{CoreTarget}
use Rattle.task_ast.specs.declared.core_form.CoreExpr.TheVariants as expr
use Rattle.task_ast.specs.declared.core_form.CoreTarget.TheVariants as target
use Rattle.task_ast.specs.declared.core_form.CoreEnd.TheVariants as end
use Rattle.task_ast.specs.declared.core_form.CoreStmt.TheVariants as stmt

pub or_true : (a b : Bool) → (a || b) ≡ true → (a ≡ true) ⊎ (b ≡ true)
or_true true b is = inl refl
or_true false b is = inr is

module _ (sources : ℕ → Bool) where
  -- where it holds from the sources, it holds from one of them
  pub record Covered (b : Bool) (from : ℕ → Bool) : Type 0 where
    pub one : b ≡ true → (a : ℕ) × (sources a ≡ true) × (from a ≡ true)

  cov_false : (f : ℕ → Bool) → Covered false f
  cov_false f = record { one = λ is. absurd (cc is) }

  cov_or : (b q : Bool) (f g : ℕ → Bool) → Covered b f → Covered q g → Covered (b || q) (λ a. f a || g a)
  cov_or true q f g h k = record { one = λ is. let s = h.one refl in (s.0, s.1, or_left (f s.0) (g s.0) s.2) }
  cov_or false q f g h k = record { one = λ is. let s = k.one is in (s.0, s.1, or_right (f s.0) (g s.0) s.2) }

  -- what implies something from each
  cov_to : (b q : Bool) (f g : ℕ → Bool) → (q ≡ true → b ≡ true) → ((a : ℕ) → f a ≡ true → g a ≡ true) → Covered b f → Covered q g
  cov_to b q f g back to h = record { one = λ is. let s = h.one (back is) in (s.0, s.1, to s.0 s.2) }

  cov_any : (t : ℕ → Bool) (ts : ℕ → ℕ → Bool) (xs : List ℕ) → ((n : ℕ) → Covered (t n) (λ a. ts a n)) → Covered (list_any t xs) (λ a. list_any (ts a) xs)
  cov_any t ts [] h = cov_false _
  cov_any t ts (x ∷ xs) h = cov_or (t x) (list_any t xs) _ _ (h x) (cov_any t ts xs h)

  pub record Sound (c : Carrying) (cs : ℕ → Carrying) : Type 0 where
    pub arrays : (n : ℕ) → Covered (has c.arrays n) (λ a. has (cs a).arrays n)
    pub pointers : (n : ℕ) → Covered (has c.pointers n) (λ a. has (cs a).pointers n)
    pub sites : (n : ℕ) → Covered (has c.sites n) (λ a. has (cs a).sites n)

  module _ (points : Pointing) (c : Carrying) (cs : ℕ → Carrying) (sound : Sound c cs) where
    cov_through : (p : ℕ) → Covered (through_carries points c p) (λ a. through_carries points (cs a) p)
    cov_through p = cov_or (has c.pointers p) (one_carries c (points p)) _ _ (sound.pointers p) (cov_any (has c.arrays) (λ a. has (cs a).arrays) (points p) sound.arrays)

    pub cov_carries : (e : CoreExpr) → Covered (carries points c e) (λ a. carries points (cs a) e)
    cov_carries (expr.Number word) = cov_false _
    cov_carries (expr.Cell' a size (more_of-CoreExpr i end_of-CoreExpr)) = cov_or (has c.arrays a) (carries points c i) _ _ (sound.arrays a) (cov_carries i)
    cov_carries (expr.Through' p size (more_of-CoreExpr i end_of-CoreExpr)) = cov_or (through_carries points c p) (carries points c i) _ _ (cov_through p) (cov_carries i)
    cov_carries (expr.One' op size (more_of-CoreExpr e end_of-CoreExpr)) = cov_carries e
    cov_carries (expr.Two' op size_a (more_of-CoreExpr a end_of-CoreExpr) size_b (more_of-CoreExpr b end_of-CoreExpr)) = cov_or (carries points c a) (carries points c b) _ _ (cov_carries a) (cov_carries b)

    pub cov_args : (es : List CoreExpr) → Covered (list_any (carries points c) es) (λ a. list_any (carries points (cs a)) es)
    cov_args [] = cov_false _
    cov_args (e ∷ es) = cov_or (carries points c e) (list_any (carries points c) es) _ _ (cov_carries e) (cov_args es)

    cov_target : (t : CoreTarget) → Covered (target_carries points c t) (λ a. target_carries points (cs a) t)
    cov_target (target.Cell a i) = cov_carries i
    cov_target (target.Through p i) = cov_or (has c.pointers p) (carries points c i) _ _ (sound.pointers p) (cov_carries i)

    cov_reading : (t : Option CoreTarget) → Covered (reading_carries points c t) (λ a. reading_carries points (cs a) t)
    cov_reading None = cov_false _
    cov_reading (Some t) = cov_target t

    pub cov_end : (e : CoreEnd) → Covered (end_carries points c e) (λ a. end_carries points (cs a) e)
    cov_end (end.Cell a i) = cov_carries i
    cov_end (end.Pointer p) = sound.pointers p

    mutual
      cov_reads : (s : CoreStmt) → Covered (reads points c s) (λ a. reads points (cs a) s)
      cov_reads (stmt.Assign (target.Cell a i) e) = cov_or (carries points c i) (carries points c e) _ _ (cov_carries i) (cov_carries e)
      cov_reads (stmt.Assign (target.Through p i) e) = cov_or (through_carries points c p) (carries points c i || carries points c e) _ _ (cov_through p) (cov_or (carries points c i) (carries points c e) _ _ (cov_carries i) (cov_carries e))
      cov_reads (stmt.Point p a i) = cov_carries i
      cov_reads (stmt.If' e size_a yes_part size_b no_part) = cov_or (carries points c e) (row_reads points c yes_part || row_reads points c no_part) _ _ (cov_carries e) (cov_or (row_reads points c yes_part) (row_reads points c no_part) _ _ (cov_row_reads yes_part) (cov_row_reads no_part))
      cov_reads (stmt.Loop' variable turns size body) = cov_row_reads body
      cov_reads (stmt.Io k t p args) = cov_false _
      cov_reads (stmt.Block' k size body) = cov_false _
      cov_reads (stmt.Copy k to from words) = cov_false _

      cov_row_reads : {size : _} (b : Row_of-CoreStmt size) → Covered (row_reads points c b) (λ a. row_reads points (cs a) b)
      cov_row_reads end_of-CoreStmt = cov_false _
      cov_row_reads (more_of-CoreStmt s rest) = cov_or (reads points c s) (row_reads points c rest) _ _ (cov_reads s) (cov_row_reads rest)

  -- what flows into a list, from the sources and from each
  cov_into : (flows : Bool) (fs : ℕ → Bool) (there new : Bool) (old : Bool) (olds news : ℕ → Bool) → Covered flows fs → Covered old olds → (new ≡ true → (flows ≡ true) × (there ≡ true) ⊎ (old ≡ true)) → ((a : ℕ) → fs a ≡ true → there ≡ true → news a ≡ true) → ((a : ℕ) → olds a ≡ true → news a ≡ true) → Covered new news
  cov_into flows fs there new old olds news f o split by_flow by_old = record { one = λ is. by_case (split is) }
    where
      by_case : ((flows ≡ true) × (there ≡ true) ⊎ (old ≡ true)) → (a : ℕ) × (sources a ≡ true) × (news a ≡ true)
      by_case (inl h) = let s = f.one h.0 in (s.0, s.1, by_flow s.0 s.2 h.1)
      by_case (inr h) = let s = o.one h in (s.0, s.1, by_old s.0 s.2)

  in_arrays : (flows : Bool) (xs : List ℕ) (c : Carrying) (n : ℕ) → has (into_arrays flows xs c).arrays n ≡ true → (flows ≡ true) × (has xs n ≡ true) ⊎ (has c.arrays n ≡ true)
  in_arrays true xs c n is = by_case (or_true (has xs n) (has c.arrays n) (sym (has-joined xs c.arrays n) ∙ is))
    where
      by_case : (has xs n ≡ true) ⊎ (has c.arrays n ≡ true) → (true ≡ true) × (has xs n ≡ true) ⊎ (has c.arrays n ≡ true)
      by_case (inl h) = inl (refl, h)
      by_case (inr h) = inr h
  in_arrays false xs c n is = inr is

  keeps_pointers : (flows : Bool) (xs : List ℕ) (c : Carrying) → (into_arrays flows xs c).pointers ≡ c.pointers
  keeps_pointers true xs c = refl
  keeps_pointers false xs c = refl

  keeps_sites : (flows : Bool) (xs : List ℕ) (c : Carrying) → (into_arrays flows xs c).sites ≡ c.sites
  keeps_sites true xs c = refl
  keeps_sites false xs c = refl

  sound_arrays : (flows : Bool) (fs : ℕ → Bool) (xs : List ℕ) (c : Carrying) (cs : ℕ → Carrying) → Covered flows fs → Sound c cs → Sound (into_arrays flows xs c) (λ a. into_arrays (fs a) xs (cs a))
  sound_arrays flows fs xs c cs f sound = record {
    arrays = λ n. cov_into flows fs (has xs n) (has (into_arrays flows xs c).arrays n) (has c.arrays n) (λ a. has (cs a).arrays n) _ f (sound.arrays n) (in_arrays flows xs c n)
        (λ a is there. (arrays_get (fs a) xs (cs a) is).arrays_in n there) (λ a there. (into_arrays_has (fs a) xs (cs a)).arrays_in n there);
    pointers = λ n. cov_to (has c.pointers n) _ _ _ (λ is. ap (λ p. has p n) (sym (keeps_pointers flows xs c)) ∙ is) (λ a is. (into_arrays_has (fs a) xs (cs a)).pointers_in n is) (sound.pointers n);
    sites = λ n. cov_to (has c.sites n) _ _ _ (λ is. ap (λ p. has p n) (sym (keeps_sites flows xs c)) ∙ is) (λ a is. arrays_keep (fs a) xs (cs a) n is) (sound.sites n);
  }

  in_pointers : (flows : Bool) (xs : List ℕ) (c : Carrying) (n : ℕ) → has (into_pointers flows xs c).pointers n ≡ true → (flows ≡ true) × (has xs n ≡ true) ⊎ (has c.pointers n ≡ true)
  in_pointers true xs c n is = by_case (or_true (has xs n) (has c.pointers n) (sym (has-joined xs c.pointers n) ∙ is))
    where
      by_case : (has xs n ≡ true) ⊎ (has c.pointers n ≡ true) → (true ≡ true) × (has xs n ≡ true) ⊎ (has c.pointers n ≡ true)
      by_case (inl h) = inl (refl, h)
      by_case (inr h) = inr h
  in_pointers false xs c n is = inr is

  arrays_kept : (flows : Bool) (xs : List ℕ) (c : Carrying) → (into_pointers flows xs c).arrays ≡ c.arrays
  arrays_kept true xs c = refl
  arrays_kept false xs c = refl

  sites_kept : (flows : Bool) (xs : List ℕ) (c : Carrying) → (into_pointers flows xs c).sites ≡ c.sites
  sites_kept true xs c = refl
  sites_kept false xs c = refl

  pointers_get : (flows : Bool) (xs : List ℕ) (c : Carrying) (n : ℕ) → flows ≡ true → has xs n ≡ true → has (into_pointers flows xs c).pointers n ≡ true
  pointers_get true xs c n is there = joined_left xs c.pointers n there
  pointers_get false xs c n is there = absurd (cc is)

  sound_pointers : (flows : Bool) (fs : ℕ → Bool) (xs : List ℕ) (c : Carrying) (cs : ℕ → Carrying) → Covered flows fs → Sound c cs → Sound (into_pointers flows xs c) (λ a. into_pointers (fs a) xs (cs a))
  sound_pointers flows fs xs c cs f sound = record {
    arrays = λ n. cov_to (has c.arrays n) _ _ _ (λ is. ap (λ p. has p n) (sym (arrays_kept flows xs c)) ∙ is) (λ a is. (into_pointers_has (fs a) xs (cs a)).arrays_in n is) (sound.arrays n);
    pointers = λ n. cov_into flows fs (has xs n) (has (into_pointers flows xs c).pointers n) (has c.pointers n) (λ a. has (cs a).pointers n) _ f (sound.pointers n) (in_pointers flows xs c n)
        (λ a is there. pointers_get (fs a) xs (cs a) n is there) (λ a there. (into_pointers_has (fs a) xs (cs a)).pointers_in n there);
    sites = λ n. cov_to (has c.sites n) _ _ _ (λ is. ap (λ p. has p n) (sym (sites_kept flows xs c)) ∙ is) (λ a is. pointers_keep (fs a) xs (cs a) n is) (sound.sites n);
  }

  in_sites : (flows : Bool) (k : ℕ) (c : Carrying) (n : ℕ) → has (into_sites flows k c).sites n ≡ true → (flows ≡ true) × ((k == n) ≡ true) ⊎ (has c.sites n ≡ true)
  in_sites true k c n is = by_case (or_true (k == n) (has c.sites n) is)
    where
      by_case : ((k == n) ≡ true) ⊎ (has c.sites n ≡ true) → (true ≡ true) × ((k == n) ≡ true) ⊎ (has c.sites n ≡ true)
      by_case (inl h) = inl (refl, h)
      by_case (inr h) = inr h
  in_sites false k c n is = inr is

  sites_get : (flows : Bool) (k : ℕ) (c : Carrying) (n : ℕ) → flows ≡ true → (k == n) ≡ true → has (into_sites flows k c).sites n ≡ true
  sites_get true k c n is there = or_left (k == n) (has c.sites n) there
  sites_get false k c n is there = absurd (cc is)

  kept_arrays : (flows : Bool) (k : ℕ) (c : Carrying) → (into_sites flows k c).arrays ≡ c.arrays
  kept_arrays true k c = refl
  kept_arrays false k c = refl

  kept_pointers : (flows : Bool) (k : ℕ) (c : Carrying) → (into_sites flows k c).pointers ≡ c.pointers
  kept_pointers true k c = refl
  kept_pointers false k c = refl

  sound_sites : (flows : Bool) (fs : ℕ → Bool) (k : ℕ) (c : Carrying) (cs : ℕ → Carrying) → Covered flows fs → Sound c cs → Sound (into_sites flows k c) (λ a. into_sites (fs a) k (cs a))
  sound_sites flows fs k c cs f sound = record {
    arrays = λ n. cov_to (has c.arrays n) _ _ _ (λ is. ap (λ p. has p n) (sym (kept_arrays flows k c)) ∙ is) (λ a is. (into_sites_has (fs a) k (cs a)).arrays_in n is) (sound.arrays n);
    pointers = λ n. cov_to (has c.pointers n) _ _ _ (λ is. ap (λ p. has p n) (sym (kept_pointers flows k c)) ∙ is) (λ a is. (into_sites_has (fs a) k (cs a)).pointers_in n is) (sound.pointers n);
    sites = λ n. cov_into flows fs (k == n) (has (into_sites flows k c).sites n) (has c.sites n) (λ a. has (cs a).sites n) _ f (sound.sites n) (in_sites flows k c n)
        (λ a is there. sites_get (fs a) k (cs a) n is there) (λ a there. sites_keep (fs a) k (cs a) n there);
  }

  -- lists joined, and lists one behind another
  cov_joined : (xs ys : List ℕ) (xss yss : ℕ → List ℕ) (n : ℕ) → Covered (has xs n) (λ a. has (xss a) n) → Covered (has ys n) (λ a. has (yss a) n) → Covered (has (joined xs ys) n) (λ a. has (joined (xss a) (yss a)) n)
  cov_joined xs ys xss yss n h k =
      cov_to (has xs n || has ys n) _ (λ a. has (xss a) n || has (yss a) n) _ (λ is. sym (has-joined xs ys n) ∙ is) (λ a is. has-joined (xss a) (yss a) n ∙ is) (cov_or (has xs n) (has ys n) _ _ h k)

  cov_append : (xs ys : List ℕ) (xss yss : ℕ → List ℕ) (n : ℕ) → Covered (has xs n) (λ a. has (xss a) n) → Covered (has ys n) (λ a. has (yss a) n) → Covered (has (xs ++ ys) n) (λ a. has (xss a ++ yss a) n)
  cov_append xs ys xss yss n h k =
      cov_to (has xs n || has ys n) _ (λ a. has (xss a) n || has (yss a) n) _ (λ is. sym (has-append xs ys n) ∙ is) (λ a is. has-append (xss a) (yss a) n ∙ is) (cov_or (has xs n) (has ys n) _ _ h k)

  sound_either : (c d : Carrying) (cs ds : ℕ → Carrying) → Sound c cs → Sound d ds → Sound (either c d) (λ a. either (cs a) (ds a))
  sound_either c d cs ds h k = record {
    arrays = λ n. cov_joined c.arrays d.arrays _ _ n (h.arrays n) (k.arrays n);
    pointers = λ n. cov_joined c.pointers d.pointers _ _ n (h.pointers n) (k.pointers n);
    sites = λ n. cov_joined c.sites d.sites _ _ n (h.sites n) (k.sites n);
  }

  -- a list with a number has one
  has_a_number : (xs : List ℕ) → has_some xs ≡ true → (n : ℕ) × (has xs n ≡ true)
  has_a_number [] is = absurd (cc is)
  has_a_number (x ∷ xs) is = (x, or_left (x == x) (has xs x) (eq-eqb x x refl))

  some_of : (xs : List ℕ) (n : ℕ) → has xs n ≡ true → has_some xs ≡ true
  some_of [] n is = absurd (cc is)
  some_of (x ∷ xs) n is = refl

  cov_some : (c : Carrying) (cs : ℕ → Carrying) → Sound c cs → Covered (has_some c.sites) (λ a. has_some (cs a).sites)
  cov_some c cs sound = record { one = λ is. let n = has_a_number c.sites is in let s = (sound.sites n.0).one n.1 in (s.0, s.1, some_of (cs s.0).sites n.0 s.2) }

  sound_block : (around : Bool) (arounds : ℕ → Bool) (k : ℕ) (c : Carrying) (cs : ℕ → Carrying) (inside : Carrying) (insides : ℕ → Carrying) → Covered around arounds → Sound c cs → Sound inside insides
      → Sound (block_passed around k c.sites inside) (λ a. block_passed (arounds a) k (cs a).sites (insides a))
  sound_block around arounds k c cs inside insides f sound sound_in =
      sound_sites (around || has_some inside.sites) (λ a. arounds a || has_some (insides a).sites) k (record inside { sites = inside.sites ++ c.sites }) (λ a. record (insides a) { sites = (insides a).sites ++ (cs a).sites })
      (cov_or around (has_some inside.sites) _ _ f (cov_some inside insides sound_in))
      (record { arrays = sound_in.arrays; pointers = sound_in.pointers; sites = λ n. cov_append inside.sites c.sites _ _ n (sound_in.sites n) (sound.sites n) })

  mutual
    pub sound_passed : (points : Pointing) (s : CoreStmt) (around : Bool) (arounds : ℕ → Bool) (c : Carrying) (cs : ℕ → Carrying) → Covered around arounds → Sound c cs → Sound (passed points sources s around c) (λ a. passed points (λ k. k == a) s (arounds a) (cs a))
    sound_passed points (stmt.Assign t e) around arounds c cs f sound =
        sound_arrays (around || (target_carries points c t || carries points c e)) _ (target_arrays points t) c cs
        (cov_or around _ _ _ f (cov_or (target_carries points c t) (carries points c e) _ _ (cov_target points c cs sound t) (cov_carries points c cs sound e))) sound
    sound_passed points (stmt.Point p a i) around arounds c cs f sound = sound_pointers (around || carries points c i) _ (p ∷ []) c cs (cov_or around (carries points c i) _ _ f (cov_carries points c cs sound i)) sound
    sound_passed points (stmt.If' e size_a yes_part size_b no_part) around arounds c cs f sound =
        let inside = cov_or around (carries points c e) arounds (λ a. carries points (cs a) e) f (cov_carries points c cs sound e) in
        sound_either _ _ _ _ (sound_row_passed points yes_part (around || carries points c e) (λ a. arounds a || carries points (cs a) e) c cs inside sound)
        (sound_row_passed points no_part (around || carries points c e) (λ a. arounds a || carries points (cs a) e) c cs inside sound)
    sound_passed points (stmt.Loop' variable turns size body) around arounds c cs f sound =
        let flows = cov_or around (row_reads points c body) arounds (λ a. row_reads points (cs a) body) f (cov_row_reads points c cs sound body) in
        sound_pointers (around || row_reads points c body) (λ a. arounds a || row_reads points (cs a) body) (row_moves body) _ _ flows
        (sound_arrays (around || row_reads points c body) (λ a. arounds a || row_reads points (cs a) body) (variable ∷ row_assigns points body) c cs flows sound)
    sound_passed points (stmt.Io k t p args) around arounds c cs f sound =
        sound_arrays (sources k || (around || reading_carries points c t)) (λ a. (k == a) || (arounds a || reading_carries points (cs a) t)) (reading_arrays points t) _ _
        (cov_or (sources k) _ (λ a. k == a) _ (record { one = λ is. (k, is, eq-eqb k k refl) }) (cov_or around (reading_carries points c t) _ _ f (cov_reading points c cs sound t)))
        (sound_sites (around || list_any (carries points c) args) (λ a. arounds a || list_any (carries points (cs a)) args) k c cs (cov_or around (list_any (carries points c) args) _ _ f (cov_args points c cs sound args)) sound)
    sound_passed points (stmt.Block' k size body) around arounds c cs f sound =
        sound_block around arounds k c cs _ _ f sound
        (sound_row_passed points body around arounds (no_sites c) (λ a. no_sites (cs a)) f (record { arrays = sound.arrays; pointers = sound.pointers; sites = λ n. cov_false _ }))
    sound_passed points (stmt.Copy k to from words) around arounds c cs f sound =
        let flows = cov_or around _ arounds (λ a. end_carries points (cs a) to || (end_carries points (cs a) from || (carries points (cs a) words || one_carries (cs a) (end_arrays points from)))) f
        (cov_or (end_carries points c to) _ _ _ (cov_end points c cs sound to) (cov_or (end_carries points c from) _ _ _ (cov_end points c cs sound from)
        (cov_or (carries points c words) (one_carries c (end_arrays points from)) _ _ (cov_carries points c cs sound words) (cov_any (has c.arrays) (λ a. has (cs a).arrays) (end_arrays points from) sound.arrays)))) in
        sound_arrays _ _ (end_arrays points to) _ _ flows (sound_sites _ _ k c cs flows sound)

    pub sound_row_passed : (points : Pointing) {size : _} (b : Row_of-CoreStmt size) (around : Bool) (arounds : ℕ → Bool) (c : Carrying) (cs : ℕ → Carrying) → Covered around arounds → Sound c cs → Sound (row_passed points sources b around c) (λ a. row_passed points (λ k. k == a) b (arounds a) (cs a))
    sound_row_passed points end_of-CoreStmt around arounds c cs f sound = sound
    sound_row_passed points (more_of-CoreStmt s rest) around arounds c cs f sound =
        sound_row_passed points rest around arounds (passed points sources s around c) (λ a. passed points (λ k. k == a) s (arounds a) (cs a)) f (sound_passed points s around arounds c cs f sound)

  pub sound_all_passed : (points : Pointing) (b : List CoreStmt) (around : Bool) (arounds : ℕ → Bool) (c : Carrying) (cs : ℕ → Carrying) → Covered around arounds → Sound c cs → Sound (all_passed points sources b around c) (λ a. all_passed points (λ k. k == a) b (arounds a) (cs a))
  sound_all_passed points [] around arounds c cs f sound = sound
  sound_all_passed points (s ∷ rest) around arounds c cs f sound =
      sound_all_passed points rest around arounds (passed points sources s around c) (λ a. passed points (λ k. k == a) s (arounds a) (cs a)) f (sound_passed points s around arounds c cs f sound)
