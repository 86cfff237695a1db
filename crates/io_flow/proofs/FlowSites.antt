-- The pass is right for whole tasks: two runs that differ by one I/O site's word stay the same but for what carries it.
use Rattle.io_flow.specs.Written.{AllWithin, Covers, Includes, IsIn, IsWithin, Only, OnlyEnd, back_of, front_of, has_itself, only_chosen, only_found, only_none, only_put, only_then, only_twice, or_right, place_is_in, plain_only, target_is_in}
use Rattle.std.proofs.Common.{◌≡◌, ℕ, zero, suc, ◌+◌, Bool, true, false, ◌||◌, List, [], ◌∷◌, get_or, leb, Option, Some, None, Result, Ok, Err, refl, sym, ap, subst, if◌then◌else◌}
use Rattle.std.specs.Prelude.{⊤}
use Rattle.std.specs.List.{list_any}
use Rattle.walk_run.specs.declared.trap.Trap.TheVariants as cause
use Rattle.ease_base.specs.Found.{with_found}
use Rattle.io_depend.specs.Flow.{Carrying, all_passed, assigns, carries, either, end_carries, into_arrays, into_sites, moves, no_sites, one_carries, passed, reading_carries, row_assigns, row_moves, row_passed}
use Rattle.io_depend.specs.Sets.{has}
use Rattle.io_flow.proofs.FlowLaws.{Both, Same, assign_both, both_any, both_same, found_same, none_passes, or_false, place_same, put_same, target_same, value_same}
use Rattle.io_flow.proofs.FlowRuns.{Has, arrays_get, block_has, both_more, both_then, either_left, either_right, gets, grows, has_all, has_more, includes_itself, into_arrays_has, into_sites_has, loop_flows, point_flows, same_apart, same_more}
use Rattle.io_flow.specs.Replay.{all_replay, args_found, place_found, put_if, replay, row_replay}
use Rattle.task_ast.specs.Pointing.{Pointing, addresses, all_addresses, end_arrays, reading_arrays, row_addresses, target_arrays}
use Rattle.task_ast.specs.declared.core_form.CoreEnd.{CoreEnd}
use Rattle.task_ast.specs.declared.core_form.CoreExpr.{CoreExpr}
use Rattle.task_ast.specs.declared.core_form.CoreStmt.{CoreStmt, Row_of-CoreStmt, end_of-CoreStmt, more_of-CoreStmt}
use Rattle.task_ast.specs.declared.core_form.CoreTarget.{CoreTarget}
use Rattle.task_attempts.specs.Copies.{moved}
use Rattle.walk_run.specs.Plain.{Ran, chosen, if_found}
use Rattle.walk_run.specs.Store.{Store, place, pointed, put_word, word_at}
use Rattle.walk_run.specs.Value.{end_place, place_in, place_pointed, target_place, value_of, with_room}
use Rattle.walk_run.specs.Walk.{move_words}
use Rattle.walk_run.specs.declared.place.Place.{Place}
use Rattle.walk_run.specs.declared.trap.Trap.{Trap}
use Rattle.task_ast.specs.declared.core_form.CoreEnd.TheVariants as end
use Rattle.task_ast.specs.declared.core_form.CoreStmt.TheVariants as stmt

-- ---- only what is assigned is written

pub end_is_in : (points : Pointing) (e : CoreEnd) (s : Store) → AllWithin points s → IsIn (end_arrays points e) (end_place e s)
end_is_in points (end.Cell a i) s within = by_value (value_of i s)
  where
    by_value : (r : Result ℕ Trap) → IsIn (a ∷ []) (with_found r (place_in s a))
    by_value (Ok k) = place_is_in s a k (a ∷ []) (has_itself a)
    by_value (Err code) = tt
end_is_in points (end.Pointer p) s within = by_pointed (pointed s p) (within p)
  where
    by_pointed : (o : Option Place) → IsWithin (points p) o → IsIn (points p) (place_pointed o)
    by_pointed None inside = tt
    by_pointed (Some at) inside = inside

only_moved : (points : Pointing) (arrays ptrs : List ℕ) (n : ℕ) (t f : Place) (x : Store) → AllWithin points x → has arrays t.array ≡ true → Only points arrays ptrs x (move_words n t f x)
only_moved points arrays ptrs zero t f x within there = only_none points arrays ptrs x within
only_moved points arrays ptrs (suc n) t f x within there =
    let first = only_put points arrays ptrs t (word_at x f) x within there in
    only_twice points arrays ptrs x _ _ first (only_moved points arrays ptrs n (place t.array (t.index + 1)) (place f.array (f.index + 1)) (put_word t (word_at x f) x) first.within there)

-- the place of an optional target
abbrev IsInIf : List ℕ → Result (Option Place) Trap → Type 0
IsInIf arrays (Ok None) = ⊤
IsInIf arrays (Ok (Some at)) = has arrays at.array ≡ true
IsInIf arrays (Err code) = ⊤

place_found_in : (points : Pointing) (t : Option CoreTarget) (s : Store) → AllWithin points s → IsInIf (reading_arrays points t) (place_found t s)
place_found_in points None s within = tt
place_found_in points (Some t) s within = by_place (target_place t s) (target_is_in points t s within)
  where
    by_place : (r : Result Place Trap) → IsIn (target_arrays points t) r → IsInIf (target_arrays points t) (with_found r (λ at. Ok (Some at)))
    by_place (Ok at) there = there
    by_place (Err code) there = tt

only_put_if : (points : Pointing) (arrays target ptrs : List ℕ) (at : Option Place) (w : ℕ) (x : Store) → AllWithin points x → Includes target arrays → IsInIf target (Ok at) → Only points arrays ptrs x (put_if at w x)
only_put_if points arrays target ptrs None w x within all there = only_none points arrays ptrs x within
only_put_if points arrays target ptrs (Some at) w x within all there = only_put points arrays ptrs at w x within (all at.array there)

mutual
  pub replay_only : (points : Pointing) (reading : ℕ → ℕ) (arrays ptrs : List ℕ) (s : CoreStmt) → Includes (assigns points s) arrays → Includes (moves s) ptrs → Covers points (λ p. addresses p s) → (x : Store) → AllWithin points x → OnlyEnd points arrays ptrs x (replay reading s x)
  replay_only points reading arrays ptrs (stmt.Assign t e) all moved covers x within = plain_only points arrays ptrs (stmt.Assign t e) all moved covers x within
  replay_only points reading arrays ptrs (stmt.Point p a i) all moved covers x within = plain_only points arrays ptrs (stmt.Point p a i) all moved covers x within
  replay_only points reading arrays ptrs (stmt.If' c size_a yes_part size_b no_part) all moved covers x within =
      only_found points arrays ptrs x (λ r. ⊤) (value_of c x) _ tt (λ word _. only_chosen points arrays ptrs x word (row_replay reading yes_part) (row_replay reading no_part)
      (row_replay_only points reading arrays ptrs yes_part (front_of _ _ _ all) (front_of _ _ _ moved) (λ p. front_of _ _ _ (covers p)) x within)
      (row_replay_only points reading arrays ptrs no_part (back_of _ _ _ all) (back_of _ _ _ moved) (λ p. back_of _ _ _ (covers p)) x within))
  replay_only points reading arrays ptrs (stmt.Loop' variable turns size body) all moved covers x within = plain_only points arrays ptrs (stmt.Loop' variable turns size body) all moved covers x within
  replay_only points reading arrays ptrs (stmt.Io k t p args) all moved covers x within =
      only_found points arrays ptrs x (IsInIf (reading_arrays points t)) (place_found t x) _ (place_found_in points t x within)
      (λ at there. only_found points arrays ptrs x (λ r. ⊤) (args_found args x) _ tt (λ words _. only_put_if points arrays (reading_arrays points t) ptrs at (reading k) x within all there))
  replay_only points reading arrays ptrs (stmt.Block' k size body) all moved covers x within = row_replay_only points reading arrays ptrs body all moved covers x within
  replay_only points reading arrays ptrs (stmt.Copy k to from words) all moved covers x within =
      only_found points arrays ptrs x (IsIn (end_arrays points to)) (end_place to x) _ (end_is_in points to x within)
      (λ t there. only_found points arrays ptrs x (λ r. ⊤) (end_place from x) _ tt (λ f _. only_found points arrays ptrs x (λ r. ⊤) (value_of words x) _ tt
      (λ n _. only_found points arrays ptrs x (λ r. ⊤) (with_room x t n) _ tt (λ _ _. only_found points arrays ptrs x (λ r. ⊤) (with_room x f n) _ tt
      (λ _ _. only_moved points arrays ptrs n t f x within (all t.array there))))))

  pub row_replay_only : (points : Pointing) (reading : ℕ → ℕ) (arrays ptrs : List ℕ) {size : _} (b : Row_of-CoreStmt size) → Includes (row_assigns points b) arrays → Includes (row_moves b) ptrs → Covers points (λ p. row_addresses p b) → (x : Store) → AllWithin points x → OnlyEnd points arrays ptrs x (row_replay reading b x)
  row_replay_only points reading arrays ptrs end_of-CoreStmt all moved covers x within = only_none points arrays ptrs x within
  row_replay_only points reading arrays ptrs (more_of-CoreStmt s rest) all moved covers x within =
      only_then points arrays ptrs x (replay reading s x) (row_replay reading rest)
      (replay_only points reading arrays ptrs s (front_of _ _ _ all) (front_of _ _ _ moved) (λ p. front_of _ _ _ (covers p)) x within)
      (row_replay_only points reading arrays ptrs rest (back_of (assigns points s) _ _ all) (back_of (moves s) _ _ moved) (λ p. back_of (addresses p s) _ _ (covers p)))

-- ---- the same in both runs

-- readings that differ at most at one site
abbrev pub Differ : (sources : ℕ → Bool) → (reading reading' : ℕ → ℕ) → Type 0
Differ sources reading reading' = (k : ℕ) → (sources k) ≡ false → reading k ≡ reading' k

-- under a condition that carries the two runs needn't even do the same
around_replays : (points : Pointing) (sources : ℕ → Bool) (r r' : ℕ → ℕ) (s : CoreStmt) → Covers points (λ p. addresses p s) → (c d : Carrying) (x y : Store) → Same points c x y → Has c.arrays c.pointers d → Has (assigns points s) (moves s) d → Both points d (replay r s x) (replay r' s y)
around_replays points sources r r' s covers c d x y same grown got =
    same_apart points c d (assigns points s) (moves s) (assigns points s) (moves s) x y (replay r s x) (replay r' s y) same grown
    (replay_only points r (assigns points s) (moves s) s (includes_itself _) (includes_itself _) covers x same.within) got
    (replay_only points r' (assigns points s) (moves s) s (includes_itself _) (includes_itself _) covers y same.within') got

both_same_in : {A : Type 0} (points : Pointing) (c : Carrying) (x y : Store) (P : Result A Trap → Type 0) (r q : Result A Trap) (f g : A → Ran) → r ≡ q → P r → ((a : A) → P (Ok a) → Both points c (f a) (g a)) → Both points c (if_found r x f) (if_found q y g)
both_same_in {A} points c x y P r q f g is p both = subst (λ q. Both points c (if_found r x f) (if_found q y g)) is (by_case r p)
  where
    by_case : (r : Result A Trap) → P r → Both points c (if_found r x f) (if_found r y g)
    by_case (Ok a) p = both a p
    by_case (Err code) p = tt

-- arguments that read nothing that carries
pub args_same : (points : Pointing) (c : Carrying) (x y : Store) → Same points c x y → (args : List CoreExpr) → list_any (carries points c) args ≡ false → args_found args x ≡ args_found args y
args_same points c x y same [] clean = refl
args_same points c x y same (e ∷ es) clean =
    let parts = or_false (carries points c e) (list_any (carries points c) es) clean in
    found_same _ _ _ _ (value_same points c x y same e parts.0) (λ w. found_same _ _ _ _ (args_same points c x y same es parts.1) (λ ws. refl))

place_found_same : (points : Pointing) (c : Carrying) (x y : Store) → Same points c x y → (t : Option CoreTarget) → reading_carries points c t ≡ false → place_found t x ≡ place_found t y
place_found_same points c x y same None clean = refl
place_found_same points c x y same (Some t) clean = found_same _ _ _ _ (target_same points c x y same t clean) (λ at. refl)

put_if_same : (points : Pointing) (c : Carrying) (x y : Store) (at : Option Place) (w : ℕ) → Same points c x y → Same points c (put_if at w x) (put_if at w y)
put_if_same points c x y None w same = same
put_if_same points c x y (Some at) w same = put_same points c x y at w same

io_both : (points : Pointing) (sources : ℕ → Bool) (r r' : ℕ → ℕ) → Differ sources r r' → (k : ℕ) (t : Option CoreTarget) (p : ℕ) (args : List CoreExpr) (around : Bool) (c : Carrying) (x y : Store) → Same points c x y
    → Both points (passed points sources (stmt.Io k t p args) around c) (replay r (stmt.Io k t p args) x) (replay r' (stmt.Io k t p args) y)
io_both points sources r r' differ k t p args around c x y same = by_flow ((sources k) || (around || reading_carries points c t)) refl
  where
    after : Carrying
    after = into_sites (around || list_any (carries points c) args) k c

    same_after : Same points after x y
    same_after = same_more points c after x y (into_sites_has (around || list_any (carries points c) args) k c) same

    by_flow : (b : Bool) → ((sources k) || (around || reading_carries points c t)) ≡ b → Both points (into_arrays b (reading_arrays points t) after) (replay r (stmt.Io k t p args) x) (replay r' (stmt.Io k t p args) y)
    by_flow true is =
        around_replays points sources r r' (stmt.Io k t p args) (λ p n there. absurd (cc there)) after (into_arrays true (reading_arrays points t) after) x y same_after
        (into_arrays_has true (reading_arrays points t) after) (arrays_get true (reading_arrays points t) after refl)
    by_flow false is =
        let parts = or_false (sources k) (around || reading_carries points c t) is in
        let more = or_false around (reading_carries points c t) parts.1 in
        both_same points after x y (place_found t x) (place_found t y) _ _ (place_found_same points c x y same t more.1)
        (λ at. both_any points after x y (λ q. ⊤) (args_found args x) (args_found args y) _ _ tt tt
        (λ ws ws' _ _. subst (λ w. Same points after (put_if at (r k) x) (put_if at w y)) (differ k parts.0) (put_if_same points after x y at (r k) same_after)))

pub end_same : (points : Pointing) (c : Carrying) (x y : Store) → Same points c x y → (e : CoreEnd) → end_carries points c e ≡ false → end_place e x ≡ end_place e y
end_same points c x y same (end.Cell a i) clean = found_same _ _ _ _ (value_same points c x y same i clean) (λ k. place_same points c x y same a k)
end_same points c x y same (end.Pointer p) clean = ap place_pointed (same.places p clean)

pub room_same : (points : Pointing) (c : Carrying) (x y : Store) → Same points c x y → (at : Place) (n : ℕ) → with_room x at n ≡ with_room y at n
room_same points c x y same at n = ap (λ m. if leb (at.index + n) m then Ok at else Err cause.Range) (same.rooms at.array)

moved_same : (points : Pointing) (c : Carrying) (n : ℕ) (t f : Place) (x y : Store) → has c.arrays f.array ≡ false → Same points c x y → Same points c (move_words n t f x) (move_words n t f y)
moved_same points c zero t f x y clean same = same
moved_same points c (suc n) t f x y clean same =
    let word : word_at x f ≡ word_at y f = ap (λ ws. get_or ws f.index 0) (same.words f.array clean) in
    let put : Same points c (put_word t (word_at x f) x) (put_word t (word_at y f) y) = subst (λ w. Same points c (put_word t (word_at x f) x) (put_word t w y)) word (put_same points c x y t (word_at x f) same) in
    moved_same points c n (place t.array (t.index + 1)) (place f.array (f.index + 1)) _ _ clean put

copy_both : (points : Pointing) (sources : ℕ → Bool) (r r' : ℕ → ℕ) (k : ℕ) (to from : CoreEnd) (words : CoreExpr) (around : Bool) (c : Carrying) (x y : Store) → Same points c x y
    → Both points (passed points sources (stmt.Copy k to from words) around c) (replay r (stmt.Copy k to from words) x) (replay r' (stmt.Copy k to from words) y)
copy_both points sources r r' k to from words around c x y same = by_flow _ refl
  where
    by_flow : (b : Bool) → (around || (end_carries points c to || (end_carries points c from || (carries points c words || one_carries c (end_arrays points from))))) ≡ b
        → Both points (into_arrays b (end_arrays points to) (into_sites b k c)) (replay r (stmt.Copy k to from words) x) (replay r' (stmt.Copy k to from words) y)
    by_flow true is =
        around_replays points sources r r' (stmt.Copy k to from words) (λ p n there. absurd (cc there)) c (into_arrays true (end_arrays points to) (into_sites true k c)) x y same
        (has_more _ _ _ _ (into_sites_has true k c) (into_arrays_has true (end_arrays points to) (into_sites true k c))) (arrays_get true (end_arrays points to) (into_sites true k c) refl)
    by_flow false is =
        let p1 = (or_false around _ is).1 in
        let p2 = or_false (end_carries points c to) _ p1 in
        let p3 = or_false (end_carries points c from) _ p2.1 in
        let p4 = or_false (carries points c words) (one_carries c (end_arrays points from)) p3.1 in
        both_same points c x y (end_place to x) (end_place to y) _ _ (end_same points c x y same to p2.0)
        (λ t. both_same_in points c x y (IsIn (end_arrays points from)) (end_place from x) (end_place from y) _ _ (end_same points c x y same from p3.0) (end_is_in points from x same.within)
        (λ f there. both_same points c x y (value_of words x) (value_of words y) _ _ (value_same points c x y same words p4.0)
        (λ n. both_same points c x y (with_room x t n) (with_room y t n) _ _ (room_same points c x y same t n)
        (λ _. both_same points c x y (with_room x f n) (with_room y f n) _ _ (room_same points c x y same f n)
        (λ _. moved_same points c n t f x y (none_passes (has c.arrays) (end_arrays points from) f.array p4.1 there) same)))))

-- an `if`: its branches both flow where its condition is the same
if_replays : (points : Pointing) (sources : ℕ → Bool) (r r' : ℕ → ℕ) (e : CoreExpr) (size_a : _) (a : Row_of-CoreStmt _) (size_b : _) (b : Row_of-CoreStmt _) → Covers points (λ p. addresses p (stmt.If' e size_a a size_b b)) → (around : Bool) (c : Carrying) (x y : Store) → Same points c x y
    → (flows : Bool) → carries points c e ≡ flows
    → Both points (row_passed points sources a (around || carries points c e) c) (row_replay r a x) (row_replay r' a y) → Both points (row_passed points sources b (around || carries points c e) c) (row_replay r b x) (row_replay r' b y)
    → Both points (passed points sources (stmt.If' e size_a a size_b b) around c) (replay r (stmt.If' e size_a a size_b b) x) (replay r' (stmt.If' e size_a a size_b b) y)
if_replays points sources r r' e size_a a size_b b covers around c x y same true is yes_both no_both =
    let inside : true ≡ (around || carries points c e) = sym (or_right around (carries points c e) is) in
    subst (λ i. Both points (either (row_passed points sources a i c) (row_passed points sources b i c)) (replay r (stmt.If' e size_a a size_b b) x) (replay r' (stmt.If' e size_a a size_b b) y)) inside
    (around_replays points sources r r' (stmt.If' e size_a a size_b b) covers c (passed points sources (stmt.If' e size_a a size_b b) true c) x y same (grows points sources (stmt.If' e size_a a size_b b) true c) (gets points sources (stmt.If' e size_a a size_b b) c))
if_replays points sources r r' e size_a a size_b b covers around c x y same false is yes_both no_both =
    let i = around || carries points c e in
    let after_a = row_passed points sources a i c in
    let after_b = row_passed points sources b i c in
    both_same points (either after_a after_b) x y (value_of e x) (value_of e y) _ _ (value_same points c x y same e is)
    (λ word. chosen_replays (either after_a after_b) word
    (both_more points after_a (either after_a after_b) (row_replay r a x) (row_replay r' a y) (either_left _ _ after_a after_b (has_all after_a)) yes_both)
    (both_more points after_b (either after_a after_b) (row_replay r b x) (row_replay r' b y) (either_right _ _ after_a after_b (has_all after_b)) no_both))
  where
    chosen_replays : (d : Carrying) (word : ℕ) → Both points d (row_replay r a x) (row_replay r' a y) → Both points d (row_replay r b x) (row_replay r' b y) → Both points d (chosen word (row_replay r a) (row_replay r b) x) (chosen word (row_replay r' a) (row_replay r' b) y)
    chosen_replays d zero yes_both no_both = no_both
    chosen_replays d (suc n) yes_both no_both = yes_both

mutual
  -- Two runs of a statement whose readings differ at most at one site, and whose stores are the same but for what carries, are so
  -- after it, if both end.
  pub replay_flows : (points : Pointing) (sources : ℕ → Bool) (r r' : ℕ → ℕ) → Differ sources r r' → (s : CoreStmt) → Covers points (λ p. addresses p s) → (around : Bool) (c : Carrying) (x y : Store) → Same points c x y → Both points (passed points sources s around c) (replay r s x) (replay r' s y)
  replay_flows points sources r r' differ (stmt.Assign t e) covers around c x y same = assign_both points sources t e around c x y same
  replay_flows points sources r r' differ (stmt.Point p a i) covers around c x y same = point_flows points sources p a i covers around c x y same
  replay_flows points sources r r' differ (stmt.If' e size_a yes_part size_b no_part) covers around c x y same =
      if_replays points sources r r' e size_a yes_part size_b no_part covers around c x y same (carries points c e) refl
      (row_replay_flows points sources r r' differ yes_part (λ p. front_of _ _ _ (covers p)) (around || carries points c e) c x y same)
      (row_replay_flows points sources r r' differ no_part (λ p. back_of _ _ _ (covers p)) (around || carries points c e) c x y same)
  replay_flows points sources r r' differ (stmt.Loop' variable turns size body) covers around c x y same = loop_flows points sources variable turns size body covers around c x y same
  replay_flows points sources r r' differ (stmt.Io k t p args) covers around c x y same = io_both points sources r r' differ k t p args around c x y same
  replay_flows points sources r r' differ (stmt.Block' k size body) covers around c x y same =
      both_more points (row_passed points sources body around (no_sites c)) (passed points sources (stmt.Block' k size body) around c) (row_replay r body x) (row_replay r' body y)
      (block_has around k c.sites (row_passed points sources body around (no_sites c)))
      (row_replay_flows points sources r r' differ body covers around (no_sites c) x y (same_more points c (no_sites c) x y (has_all (no_sites c)) same))
  replay_flows points sources r r' differ (stmt.Copy k to from words) covers around c x y same = copy_both points sources r r' k to from words around c x y same

  -- and of statements, one after another
  pub row_replay_flows : (points : Pointing) (sources : ℕ → Bool) (r r' : ℕ → ℕ) → Differ sources r r' → {size : _} (b : Row_of-CoreStmt size) → Covers points (λ p. row_addresses p b) → (around : Bool) (c : Carrying) (x y : Store) → Same points c x y → Both points (row_passed points sources b around c) (row_replay r b x) (row_replay r' b y)
  row_replay_flows points sources r r' differ end_of-CoreStmt covers around c x y same = same
  row_replay_flows points sources r r' differ (more_of-CoreStmt s rest) covers around c x y same =
      both_then points (passed points sources s around c) (row_passed points sources rest around (passed points sources s around c)) (replay r s x) (replay r' s y) (row_replay r rest) (row_replay r' rest)
      (replay_flows points sources r r' differ s (λ p. front_of _ _ _ (covers p)) around c x y same)
      (row_replay_flows points sources r r' differ rest (λ p. back_of (addresses p s) _ _ (covers p)) around (passed points sources s around c))

-- and of statements, one after another
pub all_replay_flows : (points : Pointing) (sources : ℕ → Bool) (r r' : ℕ → ℕ) → Differ sources r r' → (b : List CoreStmt) → Covers points (λ p. all_addresses p b) → (around : Bool) (c : Carrying) (x y : Store) → Same points c x y → Both points (all_passed points sources b around c) (all_replay r b x) (all_replay r' b y)
all_replay_flows points sources r r' differ [] covers around c x y same = same
all_replay_flows points sources r r' differ (s ∷ rest) covers around c x y same =
    both_then points (passed points sources s around c) (all_passed points sources rest around (passed points sources s around c)) (replay r s x) (replay r' s y) (all_replay r rest) (all_replay r' rest)
    (replay_flows points sources r r' differ s (λ p. front_of _ _ _ (covers p)) around c x y same)
    (all_replay_flows points sources r r' differ rest (λ p. back_of (addresses p s) _ _ (covers p)) around (passed points sources s around c))
