-- Dependence: two runs that differ by one site's word agree at each site that doesn't depend on it, where neither traps before.
use Rattle.io_flow.specs.Written.{Covers, Includes, IsIn, back_of, front_of, has-append, or_left, or_right}
use Rattle.std.proofs.Common.{◌≡◌, ℕ, zero, suc, Bool, true, false, ◌||◌, ◌==◌, List, [], ◌∷◌, ◌++◌, Option, Result, Ok, Err, refl, sym, ap, subst, subst₂, take, drop, ◌∙◌}
use Rattle.std.specs.Prelude.{⊤}
use Rattle.std.specs.List.{list_any}
use Rattle.io_depend.specs.Flow.{Carrying, all_passed, block_passed, carries, either, end_carries, into_arrays, into_pointers, into_sites, no_sites, one_carries, passed, reading_carries, row_assigns, row_moves, row_passed, row_reads, target_carries}
use Rattle.io_depend.specs.Sets.{has, has_some, joined}
use Rattle.io_flow.proofs.FlowLaws.{Both, Same, joined_left, joined_right, none_passes, not_in, or_false, out_of_joined, value_same}
use Rattle.io_flow.proofs.FlowRuns.{Has, block_has, either_left, either_right, has_all, same_more}
use Rattle.io_flow.proofs.FlowSites.{Differ, args_same, end_is_in, end_same, replay_flows, room_same}
use Rattle.io_flow.specs.Replay.{Upto, all_until, args_found, meets, met, over, place_found, put_if, replay, row_replay, row_sites_in, row_until, sites_in, stopped, unmet, until, upto_found, upto_then}
use Rattle.task_ast.specs.Pointing.{Pointing, addresses, all_addresses, end_arrays, reading_arrays, row_addresses, target_arrays}
use Rattle.task_ast.specs.declared.core_form.CoreEnd.{CoreEnd}
use Rattle.task_ast.specs.declared.core_form.CoreExpr.{CoreExpr}
use Rattle.task_ast.specs.declared.core_form.CoreStmt.{CoreStmt, Row_of-CoreStmt, end_of-CoreStmt, more_of-CoreStmt}
use Rattle.task_ast.specs.declared.core_form.CoreTarget.{CoreTarget}
use Rattle.task_attempts.specs.Copies.{words_at}
use Rattle.task_attempts.specs.State.{Valued, arguments, range}
use Rattle.walk_run.specs.Plain.{Ran, and_then, chosen, done, if_found, trapped}
use Rattle.walk_run.specs.Store.{Store}
use Rattle.walk_run.specs.Value.{end_place, value_of, with_room}
use Rattle.walk_run.specs.Walk.{move_words}
use Rattle.walk_run.specs.declared.trap.Trap.{Trap}
use Rattle.task_ast.specs.declared.core_form.CoreStmt.TheVariants as stmt

-- ---- the sites that the pass finds

pub arrays_keep : (flows : Bool) (arrays : List ℕ) (c : Carrying) → Includes c.sites (into_arrays flows arrays c).sites
arrays_keep true arrays c n there = there
arrays_keep false arrays c n there = there

pub pointers_keep : (flows : Bool) (pointers : List ℕ) (c : Carrying) → Includes c.sites (into_pointers flows pointers c).sites
pointers_keep true pointers c n there = there
pointers_keep false pointers c n there = there

pub sites_keep : (flows : Bool) (k : ℕ) (c : Carrying) → Includes c.sites (into_sites flows k c).sites
sites_keep true k c n there = or_right (k == n) (has c.sites n) there
sites_keep false k c n there = there

block_keeps : (around : Bool) (k : ℕ) (sites : List ℕ) (inside : Carrying) → Includes (inside.sites ++ sites) (block_passed around k sites inside).sites
block_keeps around k sites inside = sites_keep (around || has_some inside.sites) k (record inside { sites = inside.sites ++ sites })

pub append_left : (xs ys : List ℕ) → Includes xs (xs ++ ys)
append_left xs ys n there = has-append xs ys n ∙ or_left (has xs n) (has ys n) there

pub append_right : (xs ys : List ℕ) → Includes ys (xs ++ ys)
append_right xs ys n there = has-append xs ys n ∙ or_right (has xs n) (has ys n) there

mutual
  finds_more : (points : Pointing) (sources : ℕ → Bool) (s : CoreStmt) (around : Bool) (c : Carrying) → Includes c.sites (passed points sources s around c).sites
  finds_more points sources (stmt.Assign t e) around c n there = arrays_keep (around || (target_carries points c t || carries points c e)) (target_arrays points t) c n there
  finds_more points sources (stmt.Point p a i) around c n there = pointers_keep (around || carries points c i) (p ∷ []) c n there
  finds_more points sources (stmt.If' e size_a yes_part size_b no_part) around c n there =
      joined_left (row_passed points sources yes_part (around || carries points c e) c).sites (row_passed points sources no_part (around || carries points c e) c).sites n
      (row_find_more points sources yes_part (around || carries points c e) c n there)
  finds_more points sources (stmt.Loop' variable turns size body) around c n there =
      let flows = around || row_reads points c body in
      let arrays = variable ∷ row_assigns points body in
      pointers_keep flows (row_moves body) (into_arrays flows arrays c) n (arrays_keep flows arrays c n there)
  finds_more points sources (stmt.Io k t p args) around c n there =
      arrays_keep ((sources k) || (around || reading_carries points c t)) (reading_arrays points t) (into_sites (around || list_any (carries points c) args) k c) n
      (sites_keep (around || list_any (carries points c) args) k c n there)
  finds_more points sources (stmt.Block' k size body) around c n there =
      let inside = row_passed points sources body around (no_sites c) in
      block_keeps around k c.sites inside n (append_right inside.sites c.sites n there)
  finds_more points sources (stmt.Copy k to from words) around c n there =
      let flows = around || (end_carries points c to || (end_carries points c from || (carries points c words || one_carries c (end_arrays points from)))) in
      arrays_keep flows (end_arrays points to) (into_sites flows k c) n (sites_keep flows k c n there)

  row_find_more : (points : Pointing) (sources : ℕ → Bool) {size : _} (b : Row_of-CoreStmt size) (around : Bool) (c : Carrying) → Includes c.sites (row_passed points sources b around c).sites
  row_find_more points sources end_of-CoreStmt around c n there = there
  row_find_more points sources (more_of-CoreStmt s rest) around c n there = row_find_more points sources rest around (passed points sources s around c) n (finds_more points sources s around c n there)

all_find_more : (points : Pointing) (sources : ℕ → Bool) (b : List CoreStmt) (around : Bool) (c : Carrying) → Includes c.sites (all_passed points sources b around c).sites
all_find_more points sources [] around c n there = there
all_find_more points sources (s ∷ rest) around c n there = all_find_more points sources rest around (passed points sources s around c) n (finds_more points sources s around c n there)

-- a number in front or behind
in_either : (xs ys zs : List ℕ) → Includes xs zs → Includes ys zs → Includes (xs ++ ys) zs
in_either xs ys zs f g n there = by_front (has xs n) refl (sym (has-append xs ys n) ∙ there)
  where
    by_front : (b : Bool) → has xs n ≡ b → (b || has ys n) ≡ true → has zs n ≡ true
    by_front true is either_there = f n is
    by_front false is either_there = g n either_there

or_false' : (b : Bool) → (b || false) ≡ true → b ≡ true
or_false' true is = refl
or_false' false is = is

mutual
  -- under a condition that carries all sites are found
  finds_all : (points : Pointing) (sources : ℕ → Bool) (s : CoreStmt) (c : Carrying) → Includes (sites_in s) (passed points sources s true c).sites
  finds_all points sources (stmt.Assign t e) c n there = absurd (cc there)
  finds_all points sources (stmt.Point p a i) c n there = absurd (cc there)
  finds_all points sources (stmt.If' e size_a yes_part size_b no_part) c n there =
      let yes_after = row_passed points sources yes_part true c in
      let no_after = row_passed points sources no_part true c in
      in_either (row_sites_in yes_part) (row_sites_in no_part) (joined yes_after.sites no_after.sites)
      (λ n there. joined_left yes_after.sites no_after.sites n (row_find_all points sources yes_part c n there))
      (λ n there. joined_right yes_after.sites no_after.sites n (row_find_all points sources no_part c n there)) n there
  finds_all points sources (stmt.Loop' variable turns size body) c n there = absurd (cc there)
  finds_all points sources (stmt.Io k t p args) c n there =
      arrays_keep ((sources k) || true) (reading_arrays points t) (into_sites true k c) n (or_left (k == n) (has c.sites n) ((or_false' (k == n) there)))
  finds_all points sources (stmt.Block' k size body) c n there =
      let inside = row_passed points sources body true (no_sites c) in
      in_either (k ∷ []) (row_sites_in body) (block_passed true k c.sites inside).sites
      (λ n there. or_left (k == n) (has (inside.sites ++ c.sites) n) (or_false' (k == n) there))
      (λ n there. or_right (k == n) (has (inside.sites ++ c.sites) n) (append_left inside.sites c.sites n (row_find_all points sources body (no_sites c) n there))) n there
  finds_all points sources (stmt.Copy k to from words) c n there = or_left (k == n) (has c.sites n) (or_false' (k == n) there)

  row_find_all : (points : Pointing) (sources : ℕ → Bool) {size : _} (b : Row_of-CoreStmt size) (c : Carrying) → Includes (row_sites_in b) (row_passed points sources b true c).sites
  row_find_all points sources end_of-CoreStmt c n there = absurd (cc there)
  row_find_all points sources (more_of-CoreStmt s rest) c n there =
      in_either (sites_in s) (row_sites_in rest) (row_passed points sources rest true (passed points sources s true c)).sites
      (λ n there. row_find_more points sources rest true (passed points sources s true c) n (finds_all points sources s c n there))
      (row_find_all points sources rest (passed points sources s true c)) n there

-- ---- a site that isn't there isn't met

out_of_append : (xs ys : List ℕ) (n : ℕ) → has (xs ++ ys) n ≡ false → (has xs n ≡ false) × (has ys n ≡ false)
out_of_append xs ys n out = or_false (has xs n) (has ys n) (sym (has-append xs ys n) ∙ out)

unmet_found : {A : Type 0} (r : Result A Trap) (store : Store) (f : A → Upto) (g : A → Ran) → ((a : A) → f a ≡ unmet (g a)) → upto_found r f ≡ unmet (if_found r store g)
unmet_found (Ok a) store f g is = is a
unmet_found (Err code) store f g is = refl

unmet_then : (u : Upto) (r : Ran) (f : Store → Upto) (g : Store → Ran) → u ≡ unmet r → ((s : Store) → f s ≡ unmet (g s)) → upto_then u f ≡ unmet (and_then r g)
unmet_then u (done store) f g is next = ap (λ u. upto_then u f) is ∙ next store
unmet_then u (trapped code store) f g is next = ap (λ u. upto_then u f) is

unmet_chosen : (word : ℕ) (f g : Store → Upto) (f' g' : Store → Ran) (x : Store) → f x ≡ unmet (f' x) → g x ≡ unmet (g' x) → chosen word f g x ≡ unmet (chosen word f' g' x)
unmet_chosen zero f g f' g' x a b = b
unmet_chosen (suc n) f g f' g' x a b = a

not_met : (b : Bool) (v : Valued) (s : Store) → b ≡ false → meets b v s ≡ over s
not_met true v s is = absurd (cc is)
not_met false v s is = refl

mutual
  until_none : (k : ℕ) (r : ℕ → ℕ) (s : CoreStmt) → has (sites_in s) k ≡ false → (x : Store) → until k r s x ≡ unmet (replay r s x)
  until_none k r (stmt.Assign t e) out x = refl
  until_none k r (stmt.Point p a i) out x = refl
  until_none k r (stmt.If' c size_a yes_part size_b no_part) out x =
      let parts = out_of_append (row_sites_in yes_part) (row_sites_in no_part) k out in
      unmet_found (value_of c x) x _ _ (λ word. unmet_chosen word (row_until k r yes_part) (row_until k r no_part) (row_replay r yes_part) (row_replay r no_part) x (row_until_none k r yes_part parts.0 x) (row_until_none k r no_part parts.1 x))
  until_none k r (stmt.Loop' variable turns size body) out x = refl
  until_none k r (stmt.Io j t p args) out x =
      unmet_found (place_found t x) x _ _ (λ at. unmet_found (args_found args x) x _ _ (λ ws. not_met (j == k) (arguments ws) (put_if at (r j) x) (or_false (j == k) false out).0))
  until_none k r (stmt.Block' j size body) out x = row_until_none k r body (or_false (j == k) (has (row_sites_in body) k) out).1 x
  until_none k r (stmt.Copy j to from words) out x =
      unmet_found (end_place to x) x _ _ (λ t. unmet_found (end_place from x) x _ _ (λ f. unmet_found (value_of words x) x _ _ (λ n.
      unmet_found (with_room x t n) x _ _ (λ _. unmet_found (with_room x f n) x _ _ (λ _. not_met (j == k) (range t f (words_at x f n)) (move_words n t f x) (or_false (j == k) false out).0)))))

  row_until_none : (k : ℕ) (r : ℕ → ℕ) {size : _} (b : Row_of-CoreStmt size) → has (row_sites_in b) k ≡ false → (x : Store) → row_until k r b x ≡ unmet (row_replay r b x)
  row_until_none k r end_of-CoreStmt out x = refl
  row_until_none k r (more_of-CoreStmt s rest) out x =
      let parts = out_of_append (sites_in s) (row_sites_in rest) k out in
      unmet_then (until k r s x) (replay r s x) (row_until k r rest) (row_replay r rest) (until_none k r s parts.0 x) (row_until_none k r rest parts.1)

-- ---- both runs up to a site

-- where neither traps before, both meet the site with the same valued, or neither meets it and the stores are the same but for what carries
abbrev pub Meet : Pointing → Carrying → Upto → Upto → Type 0
Meet points c (over x) (over y) = Same points c x y
Meet points c (over x) (met w) = ⊥
Meet points c (over x) (stopped code) = ⊤
Meet points c (met v) (over y) = ⊥
Meet points c (met v) (met w) = v ≡ w
Meet points c (met v) (stopped code) = ⊤
Meet points c (stopped code) u = ⊤

meet_unmet : (points : Pointing) (c : Carrying) (r q : Ran) → Both points c r q → Meet points c (unmet r) (unmet q)
meet_unmet points c (done x) (done y) both = both
meet_unmet points c (done x) (trapped code y) both = tt
meet_unmet points c (trapped code x) q both = tt

meet_stopped : (points : Pointing) (c : Carrying) (u : Upto) (code : Trap) → Meet points c u (stopped code)
meet_stopped points c (over x) code = tt
meet_stopped points c (met v) code = tt
meet_stopped points c (stopped code') code = tt

meet_then : (points : Pointing) (c d : Carrying) (u w : Upto) (f g : Store → Upto) → Meet points c u w → ((x y : Store) → Same points c x y → Meet points d (f x) (g y)) → Meet points d (upto_then u f) (upto_then w g)
meet_then points c d (over x) (over y) f g same next = next x y same
meet_then points c d (over x) (met w) f g same next = absurd same
meet_then points c d (over x) (stopped code) f g same next = meet_stopped points d (f x) code
meet_then points c d (met v) (over y) f g same next = absurd same
meet_then points c d (met v) (met w) f g same next = same
meet_then points c d (met v) (stopped code) f g same next = tt
meet_then points c d (stopped code) w f g same next = tt

meet_more : (points : Pointing) (c d : Carrying) (u w : Upto) → Has c.arrays c.pointers d → Meet points c u w → Meet points d u w
meet_more points c d (over x) (over y) h same = same_more points c d x y h same
meet_more points c d (over x) (met w) h same = same
meet_more points c d (over x) (stopped code) h same = tt
meet_more points c d (met v) (over y) h same = same
meet_more points c d (met v) (met w) h same = same
meet_more points c d (met v) (stopped code) h same = tt
meet_more points c d (stopped code) w h same = tt

-- where the site isn't among the statement's own
meet_none : (points : Pointing) (sources : ℕ → Bool) (k : ℕ) (r r' : ℕ → ℕ) → Differ sources r r' → (s : CoreStmt) → Covers points (λ p. addresses p s) → (around : Bool) (c : Carrying) (x y : Store) → Same points c x y → has (sites_in s) k ≡ false → Meet points (passed points sources s around c) (until k r s x) (until k r' s y)
meet_none points sources k r r' differ s covers around c x y same out =
    subst₂ (Meet points (passed points sources s around c)) (sym (until_none k r s out x)) (sym (until_none k r' s out y))
    (meet_unmet points (passed points sources s around c) (replay r s x) (replay r' s y) (replay_flows points sources r r' differ s covers around c x y same))

meet_found : {A : Type 0} (points : Pointing) (c : Carrying) (r q : Result A Trap) (f g : A → Upto) → r ≡ q → ((a : A) → Meet points c (f a) (g a)) → Meet points c (upto_found r f) (upto_found q g)
meet_found {A} points c r q f g is meet = subst (λ q. Meet points c (upto_found r f) (upto_found q g)) is (by_case r)
  where
    by_case : (r : Result A Trap) → Meet points c (upto_found r f) (upto_found r g)
    by_case (Ok a) = meet a
    by_case (Err code) = tt

meet_found_in : {A : Type 0} (points : Pointing) (c : Carrying) (P : Result A Trap → Type 0) (r q : Result A Trap) (f g : A → Upto) → r ≡ q → P r → ((a : A) → P (Ok a) → Meet points c (f a) (g a)) → Meet points c (upto_found r f) (upto_found q g)
meet_found_in {A} points c P r q f g is p meet = subst (λ q. Meet points c (upto_found r f) (upto_found q g)) is (by_case r p)
  where
    by_case : (r : Result A Trap) → P r → Meet points c (upto_found r f) (upto_found r g)
    by_case (Ok a) p = meet a p
    by_case (Err code) p = tt

meet_any : {A : Type 0} (points : Pointing) (c : Carrying) (r q : Result A Trap) (f g : A → Upto) → ((a b : A) → Meet points c (f a) (g b)) → Meet points c (upto_found r f) (upto_found q g)
meet_any points c (Ok a) (Ok b) f g meet = meet a b
meet_any points c (Ok a) (Err code) f g meet = meet_stopped points c (f a) code
meet_any points c (Err code) q f g meet = tt

-- both meet it
meet_here : (points : Pointing) (c : Carrying) (b : Bool) (v w : Valued) (x y : Store) → b ≡ true → v ≡ w → Meet points c (meets b v x) (meets b w y)
meet_here points c true v w x y is same = same
meet_here points c false v w x y is same = absurd (cc is)

-- a flow that would find the site
unfound : (flows : Bool) (j k : ℕ) (c : Carrying) → (j == k) ≡ true → has (into_sites flows j c).sites k ≡ false → flows ≡ false
unfound true j k c is clean = absurd (let e : true ≡ false = sym (or_left (j == k) (has c.sites k) is) ∙ clean in cc e)
unfound false j k c is clean = refl

io_meets : (points : Pointing) (sources : ℕ → Bool) (k : ℕ) (r r' : ℕ → ℕ) → Differ sources r r' → (j : ℕ) (t : Option CoreTarget) (p : ℕ) (args : List CoreExpr) (around : Bool) (c : Carrying) (x y : Store) → Same points c x y
    → has (passed points sources (stmt.Io j t p args) around c).sites k ≡ false → Meet points (passed points sources (stmt.Io j t p args) around c) (until k r (stmt.Io j t p args) x) (until k r' (stmt.Io j t p args) y)
io_meets points sources k r r' differ j t p args around c x y same clean = by_site (j == k) refl
  where
    after : Carrying
    after = passed points sources (stmt.Io j t p args) around c

    flows : Bool
    flows = around || list_any (carries points c) args

    by_site : (b : Bool) → (j == k) ≡ b → Meet points after (until k r (stmt.Io j t p args) x) (until k r' (stmt.Io j t p args) y)
    by_site true is =
        let none = unfound flows j k c is (not_in (into_sites flows j c).sites after.sites (arrays_keep ((sources j) || (around || reading_carries points c t)) (reading_arrays points t) (into_sites flows j c)) k clean) in
        meet_any points after (place_found t x) (place_found t y) _ _
        (λ at at'. meet_found points after (args_found args x) (args_found args y) _ _ (args_same points c x y same args (or_false around _ none).1)
        (λ ws. meet_here points after (j == k) (arguments ws) (arguments ws) _ _ is refl))
    by_site false is = meet_none points sources k r r' differ (stmt.Io j t p args) (λ q n there. absurd (cc there)) around c x y same (ap (λ b. b || false) is)

copy_meets : (points : Pointing) (sources : ℕ → Bool) (k : ℕ) (r r' : ℕ → ℕ) → Differ sources r r' → (j : ℕ) (to from : CoreEnd) (words : CoreExpr) (around : Bool) (c : Carrying) (x y : Store) → Same points c x y
    → has (passed points sources (stmt.Copy j to from words) around c).sites k ≡ false → Meet points (passed points sources (stmt.Copy j to from words) around c) (until k r (stmt.Copy j to from words) x) (until k r' (stmt.Copy j to from words) y)
copy_meets points sources k r r' differ j to from words around c x y same clean = by_site (j == k) refl
  where
    after : Carrying
    after = passed points sources (stmt.Copy j to from words) around c

    flows : Bool
    flows = around || (end_carries points c to || (end_carries points c from || (carries points c words || one_carries c (end_arrays points from))))

    by_site : (b : Bool) → (j == k) ≡ b → Meet points after (until k r (stmt.Copy j to from words) x) (until k r' (stmt.Copy j to from words) y)
    by_site true is =
        let none = unfound flows j k c is (not_in (into_sites flows j c).sites after.sites (arrays_keep flows (end_arrays points to) (into_sites flows j c)) k clean) in
        let p2 = or_false (end_carries points c to) _ (or_false around _ none).1 in
        let p3 = or_false (end_carries points c from) _ p2.1 in
        let p4 = or_false (carries points c words) (one_carries c (end_arrays points from)) p3.1 in
        meet_found points after (end_place to x) (end_place to y) _ _ (end_same points c x y same to p2.0)
        (λ t. meet_found_in points after (IsIn (end_arrays points from)) (end_place from x) (end_place from y) _ _ (end_same points c x y same from p3.0) (end_is_in points from x same.within)
        (λ f there. meet_found points after (value_of words x) (value_of words y) _ _ (value_same points c x y same words p4.0)
        (λ n. meet_found points after (with_room x t n) (with_room y t n) _ _ (room_same points c x y same t n)
        (λ _. meet_found points after (with_room x f n) (with_room y f n) _ _ (room_same points c x y same f n)
        (λ _. meet_here points after (j == k) _ _ _ _ is
        (ap (λ ws. range t f (take n (drop f.index ws))) (same.words f.array (none_passes (has c.arrays) (end_arrays points from) f.array p4.1 there))))))))
    by_site false is = meet_none points sources k r r' differ (stmt.Copy j to from words) (λ q n there. absurd (cc there)) around c x y same (ap (λ b. b || false) is)

chosen_meets : (points : Pointing) (d : Carrying) (word : ℕ) (f g f' g' : Store → Upto) (x y : Store) → Meet points d (f x) (f' y) → Meet points d (g x) (g' y) → Meet points d (chosen word f g x) (chosen word f' g' y)
chosen_meets points d zero f g f' g' x y yes_meet no_meet = no_meet
chosen_meets points d (suc n) f g f' g' x y yes_meet no_meet = yes_meet

if_meets : (points : Pointing) (sources : ℕ → Bool) (k : ℕ) (r r' : ℕ → ℕ) → Differ sources r r' → (e : CoreExpr) (size_a : _) (a : Row_of-CoreStmt _) (size_b : _) (b : Row_of-CoreStmt _) → Covers points (λ p. addresses p (stmt.If' e size_a a size_b b)) → (around : Bool) (c : Carrying) (x y : Store) → Same points c x y
    → has (passed points sources (stmt.If' e size_a a size_b b) around c).sites k ≡ false → (flows : Bool) → carries points c e ≡ flows
    → Meet points (row_passed points sources a (around || carries points c e) c) (row_until k r a x) (row_until k r' a y) → Meet points (row_passed points sources b (around || carries points c e) c) (row_until k r b x) (row_until k r' b y)
    → Meet points (passed points sources (stmt.If' e size_a a size_b b) around c) (until k r (stmt.If' e size_a a size_b b) x) (until k r' (stmt.If' e size_a a size_b b) y)
if_meets points sources k r r' differ e size_a a size_b b covers around c x y same clean true is yes_meet no_meet =
    let inside : (around || carries points c e) ≡ true = or_right around (carries points c e) is in
    let clean' : has (passed points sources (stmt.If' e size_a a size_b b) true c).sites k ≡ false = subst (λ i. has (either (row_passed points sources a i c) (row_passed points sources b i c)).sites k ≡ false) inside clean in
    meet_none points sources k r r' differ (stmt.If' e size_a a size_b b) covers around c x y same (not_in (sites_in (stmt.If' e size_a a size_b b)) (passed points sources (stmt.If' e size_a a size_b b) true c).sites (finds_all points sources (stmt.If' e size_a a size_b b) c) k clean')
if_meets points sources k r r' differ e size_a a size_b b covers around c x y same clean false is yes_meet no_meet =
    let i = around || carries points c e in
    let after_a = row_passed points sources a i c in
    let after_b = row_passed points sources b i c in
    meet_found points (either after_a after_b) (value_of e x) (value_of e y) _ _ (value_same points c x y same e is)
    (λ word. chosen_meets points (either after_a after_b) word (row_until k r a) (row_until k r b) (row_until k r' a) (row_until k r' b) x y
    (meet_more points after_a (either after_a after_b) (row_until k r a x) (row_until k r' a y) (either_left _ _ after_a after_b (has_all after_a)) yes_meet)
    (meet_more points after_b (either after_a after_b) (row_until k r b x) (row_until k r' b y) (either_right _ _ after_a after_b (has_all after_b)) no_meet))

mutual
  -- two runs whose readings differ at most at one site agree at each site that the pass doesn't find
  pub statement_meets : (points : Pointing) (sources : ℕ → Bool) (k : ℕ) (r r' : ℕ → ℕ) → Differ sources r r' → (s : CoreStmt) → Covers points (λ p. addresses p s) → (around : Bool) (c : Carrying) (x y : Store) → Same points c x y
      → has (passed points sources s around c).sites k ≡ false → Meet points (passed points sources s around c) (until k r s x) (until k r' s y)
  statement_meets points sources k r r' differ (stmt.Assign t e) covers around c x y same clean = meet_none points sources k r r' differ (stmt.Assign t e) covers around c x y same refl
  statement_meets points sources k r r' differ (stmt.Point p a i) covers around c x y same clean = meet_none points sources k r r' differ (stmt.Point p a i) covers around c x y same refl
  statement_meets points sources k r r' differ (stmt.If' e size_a yes_part size_b no_part) covers around c x y same clean =
      let i = around || carries points c e in
      let parts = out_of_joined (row_passed points sources yes_part i c).sites (row_passed points sources no_part i c).sites k clean in
      if_meets points sources k r r' differ e size_a yes_part size_b no_part covers around c x y same clean (carries points c e) refl
      (row_meets points sources k r r' differ yes_part (λ p. front_of _ _ _ (covers p)) i c x y same parts.0)
      (row_meets points sources k r r' differ no_part (λ p. back_of _ _ _ (covers p)) i c x y same parts.1)
  statement_meets points sources k r r' differ (stmt.Loop' variable turns size body) covers around c x y same clean = meet_none points sources k r r' differ (stmt.Loop' variable turns size body) covers around c x y same refl
  statement_meets points sources k r r' differ (stmt.Io j t p args) covers around c x y same clean = io_meets points sources k r r' differ j t p args around c x y same clean
  statement_meets points sources k r r' differ (stmt.Block' j size body) covers around c x y same clean =
      let inside = row_passed points sources body around (no_sites c) in
      let out = not_in (inside.sites ++ c.sites) (passed points sources (stmt.Block' j size body) around c).sites (block_keeps around j c.sites inside) k clean in
      meet_more points inside (passed points sources (stmt.Block' j size body) around c) (row_until k r body x) (row_until k r' body y) (block_has around j c.sites inside)
      (row_meets points sources k r r' differ body covers around (no_sites c) x y (same_more points c (no_sites c) x y (has_all (no_sites c)) same) (out_of_append inside.sites c.sites k out).0)
  statement_meets points sources k r r' differ (stmt.Copy j to from words) covers around c x y same clean = copy_meets points sources k r r' differ j to from words around c x y same clean

  pub row_meets : (points : Pointing) (sources : ℕ → Bool) (k : ℕ) (r r' : ℕ → ℕ) → Differ sources r r' → {size : _} (b : Row_of-CoreStmt size) → Covers points (λ p. row_addresses p b) → (around : Bool) (c : Carrying) (x y : Store) → Same points c x y
      → has (row_passed points sources b around c).sites k ≡ false → Meet points (row_passed points sources b around c) (row_until k r b x) (row_until k r' b y)
  row_meets points sources k r r' differ end_of-CoreStmt covers around c x y same clean = same
  row_meets points sources k r r' differ (more_of-CoreStmt s rest) covers around c x y same clean =
      let next = passed points sources s around c in
      meet_then points next (row_passed points sources rest around next) (until k r s x) (until k r' s y) (row_until k r rest) (row_until k r' rest)
      (statement_meets points sources k r r' differ s (λ p. front_of _ _ _ (covers p)) around c x y same (not_in next.sites (row_passed points sources rest around next).sites (row_find_more points sources rest around next) k clean))
      (λ x' y' same'. row_meets points sources k r r' differ rest (λ p. back_of (addresses p s) _ _ (covers p)) around next x' y' same' clean)

pub all_meets : (points : Pointing) (sources : ℕ → Bool) (k : ℕ) (r r' : ℕ → ℕ) → Differ sources r r' → (b : List CoreStmt) → Covers points (λ p. all_addresses p b) → (around : Bool) (c : Carrying) (x y : Store) → Same points c x y
    → has (all_passed points sources b around c).sites k ≡ false → Meet points (all_passed points sources b around c) (all_until k r b x) (all_until k r' b y)
all_meets points sources k r r' differ [] covers around c x y same clean = same
all_meets points sources k r r' differ (s ∷ rest) covers around c x y same clean =
    let next = passed points sources s around c in
    meet_then points next (all_passed points sources rest around next) (until k r s x) (until k r' s y) (all_until k r rest) (all_until k r' rest)
    (statement_meets points sources k r r' differ s (λ p. front_of _ _ _ (covers p)) around c x y same (not_in next.sites (all_passed points sources rest around next).sites (all_find_more points sources rest around next) k clean))
    (λ x' y' same'. all_meets points sources k r r' differ rest (λ p. back_of (addresses p s) _ _ (covers p)) around next x' y' same' clean)
