-- The pass over statements without sites is right: what it leaves clean is the same in both runs.
use Rattle.io_flow.specs.Written.{Covers, Includes, IsIn, OnlyEnd, back_of, front_of, has-append, or_right, plain_only, point_is_in, point_within}
use Rattle.std.proofs.Common.{◌≡◌, ℕ, zero, suc, ◌+◌, Bool, true, false, ◌||◌, List, [], ◌∷◌, ◌++◌, length, get_or, set, Option, Some, None, Result, Ok, Err, refl, sym, ap, subst, ◌∙◌, arith, length-set}
use Rattle.std.specs.List.{list_any}
use Rattle.io_depend.specs.Flow.{Carrying, assigns, block_passed, carries, copy_passed, either, end_carries, into_arrays, into_pointers, into_sites, loop_passed, moves, no_sites, one_carries, passed, reading_carries, reads, row_assigns, row_moves, row_passed, row_reads, target_carries, through_carries}
use Rattle.io_depend.specs.Sets.{has, has_some}
use Rattle.io_flow.proofs.FlowLaws.{Both, Same, both_same, both_trapped, joined_left, joined_right, not_in, or_false, put_same, target_same, value_same}
use Rattle.task_ast.specs.Pointing.{Pointing, addresses, end_arrays, reading_arrays, row_addresses, target_arrays}
use Rattle.task_ast.specs.declared.core_form.CoreEnd.{CoreEnd}
use Rattle.task_ast.specs.declared.core_form.CoreExpr.{CoreExpr}
use Rattle.task_ast.specs.declared.core_form.CoreStmt.{CoreStmt, Row_of-CoreStmt, end_of-CoreStmt, more_of-CoreStmt}
use Rattle.walk_run.specs.Plain.{Ran, and_then, chosen, done, if_found, plain_done, pointed_at, row_done, set_variable, trapped, turns_done}
use Rattle.walk_run.specs.Store.{Store, place, put_pointer}
use Rattle.walk_run.specs.Value.{target_place, value_of}
use Rattle.walk_run.specs.declared.place.Place.{Place}
use Rattle.walk_run.specs.declared.trap.Trap.{Trap}
use Rattle.task_ast.specs.declared.core_form.CoreTarget.TheVariants as target
use Rattle.task_ast.specs.declared.core_form.CoreStmt.TheVariants as stmt

-- ---- the pass only adds, and where a condition carries it adds all that is assigned

-- a carrying with at least these arrays and pointers
pub record Has (arrays pointers : List ℕ) (c : Carrying) : Type 0 where
  pub arrays_in : Includes arrays c.arrays
  pub pointers_in : Includes pointers c.pointers

pub into_arrays_has : (flows : Bool) (arrays : List ℕ) (c : Carrying) → Has c.arrays c.pointers (into_arrays flows arrays c)
into_arrays_has true arrays c = record { arrays_in = joined_right arrays c.arrays; pointers_in = λ n there. there }
into_arrays_has false arrays c = record { arrays_in = λ n there. there; pointers_in = λ n there. there }

pub into_pointers_has : (flows : Bool) (pointers : List ℕ) (c : Carrying) → Has c.arrays c.pointers (into_pointers flows pointers c)
into_pointers_has true pointers c = record { arrays_in = λ n there. there; pointers_in = joined_right pointers c.pointers }
into_pointers_has false pointers c = record { arrays_in = λ n there. there; pointers_in = λ n there. there }

pub has_more : (arrays ptrs : List ℕ) (b c : Carrying) → Has arrays ptrs b → Has b.arrays b.pointers c → Has arrays ptrs c
has_more arrays ptrs b c h k = record { arrays_in = λ n there. k.arrays_in n (h.arrays_in n there); pointers_in = λ n there. k.pointers_in n (h.pointers_in n there) }

pub either_left : (arrays ptrs : List ℕ) (a b : Carrying) → Has arrays ptrs a → Has arrays ptrs (either a b)
either_left arrays ptrs a b h = record { arrays_in = λ n there. joined_left a.arrays b.arrays n (h.arrays_in n there); pointers_in = λ n there. joined_left a.pointers b.pointers n (h.pointers_in n there) }

pub either_right : (arrays ptrs : List ℕ) (a b : Carrying) → Has arrays ptrs b → Has arrays ptrs (either a b)
either_right arrays ptrs a b h = record { arrays_in = λ n there. joined_right a.arrays b.arrays n (h.arrays_in n there); pointers_in = λ n there. joined_right a.pointers b.pointers n (h.pointers_in n there) }

pub has_all : (c : Carrying) → Has c.arrays c.pointers c
has_all c = record { arrays_in = λ n there. there; pointers_in = λ n there. there }

-- two lists one after another
has_both : (a a' p p' : List ℕ) (c : Carrying) → Has a p c → Has a' p' c → Has (a ++ a') (p ++ p') c
has_both a a' p p' c h k = record {
  arrays_in = λ n there. in_either a a' c.arrays h.arrays_in k.arrays_in n there;
  pointers_in = λ n there. in_either p p' c.pointers h.pointers_in k.pointers_in n there;
}
  where
    in_either : (xs ys zs : List ℕ) → Includes xs zs → Includes ys zs → Includes (xs ++ ys) zs
    in_either xs ys zs f g n there = by_front (has xs n) refl (sym (has-append xs ys n) ∙ there)
      where
        by_front : (b : Bool) → has xs n ≡ b → (b || has ys n) ≡ true → has zs n ≡ true
        by_front true is either_there = f n is
        by_front false is either_there = g n either_there

pub into_sites_has : (flows : Bool) (k : ℕ) (c : Carrying) → Has c.arrays c.pointers (into_sites flows k c)
into_sites_has true k c = has_all (into_sites true k c)
into_sites_has false k c = has_all c

pub block_has : (around : Bool) (k : ℕ) (sites : List ℕ) (inside : Carrying) → Has inside.arrays inside.pointers (block_passed around k sites inside)
block_has around k sites inside = into_sites_has (around || has_some inside.sites) k (record inside { sites = inside.sites ++ sites })

copy_grows : (points : Pointing) (around : Bool) (k : ℕ) (to from : CoreEnd) (words : CoreExpr) (c : Carrying) → Has c.arrays c.pointers (copy_passed points around k to from words c)
copy_grows points around k to from words c =
    let flows = around || (end_carries points c to || (end_carries points c from || (carries points c words || one_carries c (end_arrays points from)))) in
    has_more _ _ _ _ (into_sites_has flows k c) (into_arrays_has flows (end_arrays points to) (into_sites flows k c))

mutual
  pub grows : (points : Pointing) (sources : ℕ → Bool) (s : CoreStmt) (around : Bool) (c : Carrying) → Has c.arrays c.pointers (passed points sources s around c)
  grows points sources (stmt.Assign t e) around c = into_arrays_has (around || (target_carries points c t || carries points c e)) (target_arrays points t) c
  grows points sources (stmt.Point p a i) around c = into_pointers_has (around || carries points c i) (p ∷ []) c
  grows points sources (stmt.If' e size_a yes_part size_b no_part) around c = either_left _ _ _ _ (row_grow points sources yes_part (around || carries points c e) c)
  grows points sources (stmt.Loop' variable turns size body) around c =
      let flows = around || row_reads points c body in
      let arrays = variable ∷ row_assigns points body in
      has_more _ _ _ _ (into_arrays_has flows arrays c) (into_pointers_has flows (row_moves body) (into_arrays flows arrays c))
  grows points sources (stmt.Io k t p args) around c =
      has_more _ _ _ _ (into_sites_has (around || list_any (carries points c) args) k c) (into_arrays_has ((sources k) || (around || reading_carries points c t)) (reading_arrays points t) _)
  grows points sources (stmt.Block' k size body) around c =
      has_more _ _ _ _ (row_grow points sources body around (no_sites c)) (block_has around k c.sites (row_passed points sources body around (no_sites c)))
  grows points sources (stmt.Copy k to from words) around c = copy_grows points around k to from words c

  pub row_grow : (points : Pointing) (sources : ℕ → Bool) {size : _} (b : Row_of-CoreStmt size) (around : Bool) (c : Carrying) → Has c.arrays c.pointers (row_passed points sources b around c)
  row_grow points sources end_of-CoreStmt around c = has_all c
  row_grow points sources (more_of-CoreStmt s rest) around c = has_more _ _ _ _ (grows points sources s around c) (row_grow points sources rest around (passed points sources s around c))

pub loop_gets : (points : Pointing) (variable : ℕ) {size : _} (body : Row_of-CoreStmt size) (c : Carrying) → Has (variable ∷ row_assigns points body) (row_moves body) (loop_passed true (variable ∷ row_assigns points body) (row_moves body) c)
loop_gets points variable body c = record { arrays_in = joined_left (variable ∷ row_assigns points body) c.arrays; pointers_in = joined_left (row_moves body) c.pointers }

-- arrays that get what flows
pub arrays_get : (flows : Bool) (arrays : List ℕ) (c : Carrying) → flows ≡ true → Has arrays [] (into_arrays flows arrays c)
arrays_get true arrays c is = record { arrays_in = joined_left arrays c.arrays; pointers_in = λ n there. absurd (cc there) }
arrays_get false arrays c is = absurd (cc is)

mutual
  pub gets : (points : Pointing) (sources : ℕ → Bool) (s : CoreStmt) (c : Carrying) → Has (assigns points s) (moves s) (passed points sources s true c)
  gets points sources (stmt.Assign t e) c = arrays_get true (target_arrays points t) c refl
  gets points sources (stmt.Point p a i) c = record { arrays_in = λ n there. absurd (cc there); pointers_in = joined_left (p ∷ []) c.pointers }
  gets points sources (stmt.If' e size_a yes_part size_b no_part) c =
      let yes_has = row_get points sources yes_part c in
      let no_has = row_get points sources no_part c in
      has_both _ _ _ _ _ (either_left _ _ (row_passed points sources yes_part true c) (row_passed points sources no_part true c) yes_has)
      (either_right _ _ (row_passed points sources yes_part true c) (row_passed points sources no_part true c) no_has)
  gets points sources (stmt.Loop' variable turns size body) c = loop_gets points variable body c
  gets points sources (stmt.Io k t p args) c = arrays_get ((sources k) || true) (reading_arrays points t) _ (or_right (sources k) true refl)
  gets points sources (stmt.Block' k size body) c = has_more _ _ _ _ (row_get points sources body (no_sites c)) (block_has true k c.sites (row_passed points sources body true (no_sites c)))
  gets points sources (stmt.Copy k to from words) c = arrays_get true (end_arrays points to) (into_sites true k c) refl

  pub row_get : (points : Pointing) (sources : ℕ → Bool) {size : _} (b : Row_of-CoreStmt size) (c : Carrying) → Has (row_assigns points b) (row_moves b) (row_passed points sources b true c)
  row_get points sources end_of-CoreStmt c = record { arrays_in = λ n there. absurd (cc there); pointers_in = λ n there. absurd (cc there) }
  row_get points sources (more_of-CoreStmt s rest) c =
      has_both _ _ _ _ _ (has_more _ _ _ _ (gets points sources s c) (row_grow points sources rest true (passed points sources s true c))) (row_get points sources rest (passed points sources s true c))

-- ---- both runs

both_after : (points : Pointing) (c : Carrying) (q : Ran) (f g : Store → Ran) (x : Store) → Both points c (done x) q → ((a b : Store) → Same points c a b → Both points c (f a) (g b)) → Both points c (f x) (and_then q g)
both_after points c (done y) f g x same both = both x y same
both_after points c (trapped code y) f g x same both = both_trapped points c (f x) code y

-- one after another: the pass may have added something
pub both_then : (points : Pointing) (c d : Carrying) (r q : Ran) (f g : Store → Ran) → Both points c r q → ((a b : Store) → Same points c a b → Both points d (f a) (g b)) → Both points d (and_then r f) (and_then q g)
both_then points c d (done x) (done y) f g same both = both x y same
both_then points c d (done x) (trapped code y) f g same both = both_trapped points d (f x) code y
both_then points c d (trapped code x) q f g same both = tt

-- what is the same but for what carries is so for what carries besides
pub same_more : (points : Pointing) (c d : Carrying) (x y : Store) → Has c.arrays c.pointers d → Same points c x y → Same points d x y
same_more points c d x y h same = record {
  words = λ a clean. same.words a (not_in c.arrays d.arrays h.arrays_in a clean);
  rooms = same.rooms;
  places = λ p clean. same.places p (not_in c.pointers d.pointers h.pointers_in p clean);
  many = same.many;
  within = same.within;
  within' = same.within';
}

pub both_more : (points : Pointing) (c d : Carrying) (r q : Ran) → Has c.arrays c.pointers d → Both points c r q → Both points d r q
both_more points c d (done x) (done y) h same = same_more points c d x y h same
both_more points c d (done x) (trapped code y) h same = tt
both_more points c d (trapped code x) q h same = tt

-- where both only write what carries, it doesn't matter what they do
pub same_apart : (points : Pointing) (c d : Carrying) (arrays ptrs arrays' ptrs' : List ℕ) (x y : Store) (r q : Ran) → Same points c x y → Has c.arrays c.pointers d
    → OnlyEnd points arrays ptrs x r → Has arrays ptrs d → OnlyEnd points arrays' ptrs' y q → Has arrays' ptrs' d → Both points d r q
same_apart points c d arrays ptrs arrays' ptrs' x y (done x') (done y') same h a ha b hb = record {
  words = λ n clean. a.words n (not_in arrays d.arrays ha.arrays_in n clean) ∙ same.words n (not_in c.arrays d.arrays h.arrays_in n clean) ∙ sym (b.words n (not_in arrays' d.arrays hb.arrays_in n clean));
  rooms = λ n. a.rooms n ∙ same.rooms n ∙ sym (b.rooms n);
  places = λ p clean. a.places p (not_in ptrs d.pointers ha.pointers_in p clean) ∙ same.places p (not_in c.pointers d.pointers h.pointers_in p clean) ∙ sym (b.places p (not_in ptrs' d.pointers hb.pointers_in p clean));
  many = a.many ∙ same.many ∙ sym b.many;
  within = a.within;
  within' = b.within;
}
same_apart points c d arrays ptrs arrays' ptrs' x y (done x') (trapped code y') same h a ha b hb = tt
same_apart points c d arrays ptrs arrays' ptrs' x y (trapped code x') q same h a ha b hb = tt

-- a pointer put to the same place in both
pointer_alike : (xs ys : List (Option Place)) (p q : ℕ) (v : Option Place) → length xs ≡ length ys → get_or xs q None ≡ get_or ys q None → get_or (set xs p v) q None ≡ get_or (set ys p v) q None
pointer_alike [] [] p q v many is = refl
pointer_alike [] (y ∷ ys) p q v many is = absurd (omega arith)
pointer_alike (x ∷ xs) [] p q v many is = absurd (omega arith)
pointer_alike (x ∷ xs) (y ∷ ys) zero zero v many is = refl
pointer_alike (x ∷ xs) (y ∷ ys) zero (suc q) v many is = is
pointer_alike (x ∷ xs) (y ∷ ys) (suc p) zero v many is = is
pointer_alike (x ∷ xs) (y ∷ ys) (suc p) (suc q) v many is = pointer_alike xs ys p q v (omega arith) is

point_same : (points : Pointing) (c : Carrying) (x y : Store) (p : ℕ) (at : Place) → has (points p) at.array ≡ true → Same points c x y → Same points c (put_pointer p at x) (put_pointer p at y)
point_same points c x y p at there same = record {
  words = same.words;
  rooms = same.rooms;
  places = λ q clean. pointer_alike x.pointers y.pointers p q (Some at) same.many (same.places q clean);
  many = length-set x.pointers p (Some at) ∙ same.many ∙ sym (length-set y.pointers p (Some at));
  within = point_within points p at x same.within there;
  within' = point_within points p at y same.within' there;
}

pub chosen_both : (points : Pointing) (c : Carrying) (word : ℕ) (f g : Store → Ran) (x y : Store) → Both points c (f x) (f y) → Both points c (g x) (g y) → Both points c (chosen word f g x) (chosen word f g y)
chosen_both points c zero f g x y yes_both no_both = no_both
chosen_both points c (suc n) f g x y yes_both no_both = yes_both

turns_both : (points : Pointing) (c : Carrying) (body : Store → Ran) → ((x y : Store) → Same points c x y → Both points c (body x) (body y)) → (variable turn left : ℕ) (x y : Store) → Same points c x y → Both points c (turns_done body variable turn left x) (turns_done body variable turn left y)
turns_both points c body both variable turn zero x y same = put_same points c x y (place variable 0) turn same
turns_both points c body both variable turn (suc left) x y same =
    both_then points c c (body (set_variable variable turn x)) (body (set_variable variable turn y)) _ _ (both (set_variable variable turn x) (set_variable variable turn y) (put_same points c x y (place variable 0) turn same))
    (turns_both points c body both variable (turn + 1) left)

-- what is in the pointer's arrays in one run
pub point_both : (points : Pointing) (c : Carrying) (p a : ℕ) (i : CoreExpr) (x y : Store) → Covers points (λ q. addresses q (stmt.Point p a i)) → carries points c i ≡ false → Same points c x y → Both points c (pointed_at p a i x) (pointed_at p a i y)
point_both points c p a i x y covers clean same = by_place (target_place (target.Cell a i) x) (target_place (target.Cell a i) y) (target_same points c x y same (target.Cell a i) clean) (point_is_in points p a i x same.within covers)
  where
    by_place : (r q : Result Place Trap) → r ≡ q → IsIn (points p) r → Both points c (if_found r x (λ at. done (put_pointer p at x))) (if_found q y (λ at. done (put_pointer p at y)))
    by_place r q is there = subst (λ q. Both points c (if_found r x (λ at. done (put_pointer p at x))) (if_found q y (λ at. done (put_pointer p at y)))) is (by_case r there)
      where
        by_case : (r : Result Place Trap) → IsIn (points p) r → Both points c (if_found r x (λ at. done (put_pointer p at x))) (if_found r y (λ at. done (put_pointer p at y)))
        by_case (Ok at) there = point_same points c x y p at there same
        by_case (Err code) there = tt

mutual
  -- statements of a loop that read nothing that carries
  pub still : (points : Pointing) (c : Carrying) (s : CoreStmt) → Covers points (λ p. addresses p s) → reads points c s ≡ false → (x y : Store) → Same points c x y → Both points c (plain_done s x) (plain_done s y)
  still points c (stmt.Assign (target.Cell a i) e) covers clean x y same =
      let parts = or_false (carries points c i) (carries points c e) clean in
      both_same points c x y (target_place (target.Cell a i) x) (target_place (target.Cell a i) y) _ _ (target_same points c x y same (target.Cell a i) parts.0)
      (λ at. both_same points c x y (value_of e x) (value_of e y) _ _ (value_same points c x y same e parts.1) (λ w. put_same points c x y at w same))
  still points c (stmt.Assign (target.Through p i) e) covers clean x y same =
      let parts = or_false (through_carries points c p) (carries points c i || carries points c e) clean in
      let more = or_false (carries points c i) (carries points c e) parts.1 in
      let pointer = or_false (has c.pointers p) (one_carries c (points p)) parts.0 in
      let found : target_carries points c (target.Through p i) ≡ false = ap (λ b. b || carries points c i) pointer.0 ∙ more.0 in
      both_same points c x y (target_place (target.Through p i) x) (target_place (target.Through p i) y) _ _ (target_same points c x y same (target.Through p i) found)
      (λ at. both_same points c x y (value_of e x) (value_of e y) _ _ (value_same points c x y same e more.1) (λ w. put_same points c x y at w same))
  still points c (stmt.Point p a i) covers clean x y same = point_both points c p a i x y covers clean same
  still points c (stmt.If' e size_a yes_part size_b no_part) covers clean x y same =
      let parts = or_false (carries points c e) (row_reads points c yes_part || row_reads points c no_part) clean in
      let more = or_false (row_reads points c yes_part) (row_reads points c no_part) parts.1 in
      both_same points c x y (value_of e x) (value_of e y) _ _ (value_same points c x y same e parts.0)
      (λ word. chosen_both points c word (row_done yes_part) (row_done no_part) x y
      (row_still points c yes_part (λ p. front_of _ _ _ (covers p)) more.0 x y same) (row_still points c no_part (λ p. back_of _ _ _ (covers p)) more.1 x y same))
  still points c (stmt.Loop' variable turns size body) covers clean x y same = turns_both points c (row_done body) (row_still points c body covers clean) variable 0 turns x y same
  still points c (stmt.Io k t p args) covers clean x y same = same
  still points c (stmt.Block' k size body) covers clean x y same = same
  still points c (stmt.Copy k to from words) covers clean x y same = same

  pub row_still : (points : Pointing) (c : Carrying) {size : _} (b : Row_of-CoreStmt size) → Covers points (λ p. row_addresses p b) → row_reads points c b ≡ false → (x y : Store) → Same points c x y → Both points c (row_done b x) (row_done b y)
  row_still points c end_of-CoreStmt covers clean x y same = same
  row_still points c (more_of-CoreStmt s rest) covers clean x y same =
      let parts = or_false (reads points c s) (row_reads points c rest) clean in
      both_then points c c (plain_done s x) (plain_done s y) (row_done rest) (row_done rest) (still points c s (λ p. front_of _ _ _ (covers p)) parts.0 x y same)
      (row_still points c rest (λ p. back_of (addresses p s) _ _ (covers p)) parts.1)

-- ---- the pass is right

pub includes_itself : (xs : List ℕ) → Includes xs xs
includes_itself xs n there = there

-- under a condition that carries the two runs needn't even do the same
pub around_both : (points : Pointing) (sources : ℕ → Bool) (s : CoreStmt) → Covers points (λ p. addresses p s) → (c : Carrying) (x y : Store) → Same points c x y → Both points (passed points sources s true c) (plain_done s x) (plain_done s y)
around_both points sources s covers c x y same =
    same_apart points c (passed points sources s true c) (assigns points s) (moves s) (assigns points s) (moves s) x y (plain_done s x) (plain_done s y) same (grows points sources s true c)
    (plain_only points (assigns points s) (moves s) s (includes_itself _) (includes_itself _) covers x same.within) (gets points sources s c)
    (plain_only points (assigns points s) (moves s) s (includes_itself _) (includes_itself _) covers y same.within') (gets points sources s c)

-- two runs of a pointer's assignment, and of a loop, that are the same but for what carries are so after it, if both end
pub point_flows : (points : Pointing) (sources : ℕ → Bool) (p a : ℕ) (i : CoreExpr) → Covers points (λ q. addresses q (stmt.Point p a i)) → (around : Bool) (c : Carrying) (x y : Store) → Same points c x y
    → Both points (passed points sources (stmt.Point p a i) around c) (plain_done (stmt.Point p a i) x) (plain_done (stmt.Point p a i) y)
point_flows points sources p a i covers around c x y same = by_flow (around || carries points c i) refl
  where
    by_flow : (b : Bool) → (around || carries points c i) ≡ b → Both points (into_pointers b (p ∷ []) c) (plain_done (stmt.Point p a i) x) (plain_done (stmt.Point p a i) y)
    by_flow true is = around_both points sources (stmt.Point p a i) covers c x y same
    by_flow false is = point_both points c p a i x y covers (or_false around (carries points c i) is).1 same

pub loop_flows : (points : Pointing) (sources : ℕ → Bool) (variable turns : ℕ) (size : _) (body : Row_of-CoreStmt _) → Covers points (λ p. addresses p (stmt.Loop' variable turns size body)) → (around : Bool) (c : Carrying) (x y : Store) → Same points c x y
    → Both points (passed points sources (stmt.Loop' variable turns size body) around c) (plain_done (stmt.Loop' variable turns size body) x) (plain_done (stmt.Loop' variable turns size body) y)
loop_flows points sources variable turns size body covers around c x y same = by_flow (around || row_reads points c body) refl
  where
    by_flow : (b : Bool) → (around || row_reads points c body) ≡ b
        → Both points (into_pointers b (row_moves body) (into_arrays b (variable ∷ row_assigns points body) c)) (plain_done (stmt.Loop' variable turns size body) x) (plain_done (stmt.Loop' variable turns size body) y)
    by_flow true is = around_both points sources (stmt.Loop' variable turns size body) covers c x y same
    by_flow false is = still points c (stmt.Loop' variable turns size body) covers (or_false around (row_reads points c body) is).1 x y same
