-- Pointers as `depend` lists their arrays touch what the definition says, and the regions that come of it are the definition's.
use Rattle.std.proofs.Common.{◌≡◌, ◌∙◌, ℕ, zero, suc, ◌+◌, ◌<◌, ◌≤◌, Bool, true, false, not, ◌||◌, ◌&&◌, cond, List, [], ◌∷◌, ◌++◌, length, map, filter, take, replicate, Option, Some, None, slice_get, slice_set, slice_index_or, Contains, refl, sym, ap, subst, arith}
use Rattle.std.specs.List.{AllByRecursion, range_with_len}
use Rattle.std.specs.Option.{ForSome}
use Rattle.std.proofs.lemmas.List.{length-set, length-replicate, length-take, get_or-replicate}
use Rattle.std.proofs.lemmas.List.Elements.{filter-append}
use Rattle.std.proofs.lemmas.List.FromFn.{get_or-map-range_with_len, map-range_with_len_more, length-range_with_len}
use Rattle.task_ast.specs.declared.core_form.Array.{Array}
use Rattle.task_ast.specs.declared.core_form.CoreEnd.{CoreEnd}
use Rattle.task_ast.specs.declared.core_form.CoreEnd.TheVariants as end
use Rattle.task_ast.specs.declared.core_form.CoreTarget.{CoreTarget}
use Rattle.task_ast.specs.declared.core_form.CoreTarget.TheVariants as target
use Rattle.task_ast.specs.declared.core_form.CoreStmt.{CoreStmt, Row_of-CoreStmt, end_of-CoreStmt, more_of-CoreStmt}
use Rattle.task_ast.specs.declared.core_form.CoreStmt.TheVariants as stmt
use Rattle.task_ast.specs.declared.core_form.CoreTask.{CoreTask}
use Rattle.task_ast.specs.declared.core_form.Core.{Core}
use Rattle.task_ast.specs.declared.core_form.Site.{Site}
use Rattle.task_ast.specs.Pointing.{Pointing, pointing, target_arrays, reading_arrays, end_arrays}
use Rattle.task_ast.specs.WellFormed.{Scope, IsTarget, IsEnd, IsCoreStmt, AreCoreStmts, IsCoreTask, IsWellFormed, scope_of}
use Rattle.io_depend.specs.Sets.{has}
use Rattle.io_depend.specs.Depend.{points}
use Rattle.io_depend.specs.Rows.{listed}
use Rattle.io_depend.specs.Told.{Told, Tells}
use Rattle.io_depend.specs.RangeLaws.{has_filter, same_filter, range_more}
use Rattle.region_split.specs.Regions.{Touch, may_write, next_region, touches, row_touches, all_touches, writes_in, writes_before, is_nonvolatile, keeps_words, first, is_copy, copies, regions}
use Rattle.region_split.specs.Owners.{Owners, unowned, owner_is, owner_of, touched_by, touched, all_touched, is_first, first_arrays, all_first}
use Rattle.region_split.proofs.Touching.{touched_append, all_touched_is}
use Rattle.region_split.proofs.Owning.{written_alike, touched_length, all_turns_few, owns}

module _ (s : Scope) (near : Pointing) (same : (p : ℕ) → p < s.pointers → (a : ℕ) → a < length s.arrays → has (near p) a ≡ has (s.points p) a) where
  same_target : (turning : List ℕ) (x : CoreTarget) → IsTarget s turning x → (a : ℕ) → a < length s.arrays → has (target_arrays near x) a ≡ has (target_arrays s.points x) a
  same_target turning (target.Cell array e) w a l = refl
  same_target turning (target.Through p e) w a l = same p w.0 a l

  same_reading : (turning : List ℕ) (x : Option CoreTarget) → ForSome x (IsTarget s turning) → (a : ℕ) → a < length s.arrays → has (reading_arrays near x) a ≡ has (reading_arrays s.points x) a
  same_reading turning None w a l = refl
  same_reading turning (Some x) w a l = same_target turning x (w x refl) a l

  same_end : (e : CoreEnd) → IsEnd s e → (a : ℕ) → a < length s.arrays → has (end_arrays near e) a ≡ has (end_arrays s.points e) a
  same_end (end.Cell array e) w a l = refl
  same_end (end.Pointer p) w a l = same p w a l

  mutual
    alike : (t : CoreStmt) (level : ℕ) (branched : Bool) (turning : List ℕ) → IsCoreStmt s level branched turning t → (o : Owners) → length o.first ≡ length s.arrays
        → touched (touches near t) o ≡ touched (touches s.points t) o
    alike (stmt.Assign x e) level branched turning w o long =
        written_alike (target_arrays near x) (target_arrays s.points x) o (λ a l. same_target turning x w.1 a (omega (arith, l, long)))
    alike (stmt.Point p array i) level branched turning w o long = refl
    alike (stmt.If' e m yes_row n no_row) level branched turning w o long =
        touched_append (row_touches near yes_row) (row_touches near no_row) o
        ∙ ap (touched (row_touches near no_row)) (row_alike yes_row _ _ _ w.2 o long)
        ∙ row_alike no_row _ _ _ w.3 (touched (row_touches s.points yes_row) o) (touched_length (row_touches s.points yes_row) o ∙ long)
        ∙ sym (touched_append (row_touches s.points yes_row) (row_touches s.points no_row) o)
    alike (stmt.Loop' i turns m body) level branched turning w o long =
        row_alike body _ _ _ w.5 (touched_by (may_write i) o) (touched_length (may_write i ∷ []) o ∙ long)
    alike (stmt.Io k x p args) level branched turning w o long =
        written_alike (reading_arrays near x) (reading_arrays s.points x) o (λ a l. same_reading turning x w.1 a (omega (arith, l, long)))
    alike (stmt.Block' k m body) level branched turning w o long = row_alike body _ _ _ w.1 o long
    alike (stmt.Copy k to from n) level branched turning w o long =
        written_alike (end_arrays near to) (end_arrays s.points to) (touched_by next_region o) (λ a l. same_end to w.2.0 a (omega (arith, l, long)))

    row_alike : {n : _} (body : Row_of-CoreStmt n) (level : ℕ) (branched : Bool) (turning : List ℕ) → AreCoreStmts s level branched turning body → (o : Owners) → length o.first ≡ length s.arrays
        → touched (row_touches near body) o ≡ touched (row_touches s.points body) o
    row_alike end_of-CoreStmt level branched turning w o long = refl
    row_alike (more_of-CoreStmt t rest) level branched turning w o long =
        touched_append (touches near t) (row_touches near rest) o
        ∙ ap (touched (row_touches near rest)) (alike t level branched turning w.0 o long)
        ∙ row_alike rest level branched turning w.1 (touched (touches s.points t) o) (touched_length (touches s.points t) o ∙ long)
        ∙ sym (touched_append (touches s.points t) (row_touches s.points rest) o)

  all_alike : (body : List CoreStmt) (level : ℕ) (branched : Bool) (turning : List ℕ) → AllByRecursion (IsCoreStmt s level branched turning) body → (o : Owners) → length o.first ≡ length s.arrays
      → all_touched near body o ≡ all_touched s.points body o
  all_alike [] level branched turning w o long = refl
  all_alike (t ∷ rest) level branched turning w o long =
      ap (all_touched near rest) (alike t level branched turning w.0 o long)
      ∙ all_alike rest level branched turning w.1 (touched (touches s.points t) o) (touched_length (touches s.points t) o ∙ long)

-- a task of a list of which something is said
task_at : {X : Type 0} (P : X → Type 0) (xs : List X) (k : ℕ) (x : X) → k < length xs → AllByRecursion P xs → P (slice_index_or xs k x)
task_at P [] k x l all = absurd (omega arith)
task_at P (y ∷ xs) zero x l all = all.0
task_at P (y ∷ xs) (suc k) x l all = task_at P xs k x (omega arith) all.1

pub task_of : (c : Core) (t : CoreTask) → IsWellFormed c → Contains c.tasks t → IsCoreTask c t
task_of c t w has_it = subst (IsCoreTask c) has_it.2 (task_at (IsCoreTask c) c.tasks has_it.0 t has_it.1 w.tasks)

module _ (c : Core) (t : CoreTask) (w : IsCoreTask c t) (d : Told) (told : Tells c t d) where
  same_points : (p : ℕ) → p < length c.pointers → (a : ℕ) → a < length c.arrays → has (listed d.points p) a ≡ has (pointing t p) a
  same_points p l a m =
      ap (λ rows. has (listed rows p) a) told.points
      ∙ ap (λ xs. has xs a) (get_or-map-range_with_len (points c t) 0 (length c.pointers) p p [] l (omega arith))
      ∙ has_filter (has (pointing t p)) a 0 (length c.arrays) (omega arith) (omega arith)

  -- the owners after the whole task
  owners_are : all_touched (listed d.points) t.body (unowned (length c.arrays)) ≡ touched (all_touches (pointing t) t.body) (unowned (length c.arrays))
  owners_are =
      all_alike (scope_of c t) (listed d.points) same_points t.body _ _ _ w.body (unowned (length c.arrays)) (length-replicate (length c.arrays) None)
      ∙ all_touched_is (pointing t) t.body (unowned (length c.arrays))

  -- each region's arrays are the definition's
  first_is : (o : Owners) → o ≡ all_touched (listed d.points) t.body (unowned (length c.arrays)) → (r : ℕ) → first_arrays c.arrays o r ≡ first c t r
  first_is o is r =
      let ts = all_touches (pointing t) t.body in
      let long = length-range_with_len 1 (length t.sites) in
      let few = all_turns_few (pointing t) t.body in
      let numbers = ap length w.sites.numbers in
      let bound : 0 + Rattle.region_split.proofs.Owning.turns ts ≤ 4294967295 = omega (arith, few, numbers, long, w.sites.few) in
      let at : 0 + r ≡ r = omega arith in
      same_filter (is_first c.arrays o r) (λ a. keeps_words (slice_get c.arrays a) && (writes_in ts r a && not (writes_before ts r a))) 0 (length c.arrays)
      (λ a l. ap (λ t. keeps_words (slice_get c.arrays a) && t)
      (ap (λ q. owner_is (owner_of q a) r) (is ∙ owners_are)
      ∙ ap (λ q. owner_is (owner_of (touched ts (unowned (length c.arrays))) a) q) (sym at)
      ∙ owns ts (unowned (length c.arrays)) a (omega (arith, l, length-replicate {A = Option ℕ} (length c.arrays) None)) (get_or-replicate (length c.arrays) a None None (omega (arith, l))) bound r))

  pub all_first_is : (o : Owners) (count : ℕ) (rows : List (List ℕ)) → o ≡ all_touched (listed d.points) t.body (unowned (length c.arrays)) → count ≡ regions t
      → rows ≡ map (first_arrays c.arrays o) (range_with_len 0 count) → rows ≡ all_first c t
  all_first_is o count rows is many made = made ∙ (λ i. map (λ r. first_is o is r i) (range_with_len 0 (many i)))

  -- the same by what the code made on its way
  pub told_first : (made o seen : Owners) (arrays count : ℕ) (body : List CoreStmt) (got : List Array) (sites : List Site) (rows : List (List ℕ))
      → arrays ≡ length c.arrays → body ≡ t.body → made ≡ unowned arrays → o ≡ all_touched (listed d.points) body made → seen ≡ o → got ≡ c.arrays → sites ≡ t.sites
      → count ≡ copies sites + 1 → rows ≡ map (first_arrays got seen) (range_with_len 0 count) → rows ≡ all_first c t
  told_first made o seen arrays count body got sites rows a b fresh passes same g s many is =
      let start = fresh ∙ ap unowned a in
      all_first_is seen count rows (same ∙ passes ∙ (λ i. all_touched (listed d.points) (b i) (start i))) (many ∙ ap (λ xs. copies xs + 1) s)
      (is ∙ ap (λ xs. map (first_arrays xs seen) (range_with_len 0 count)) g)

-- one region more
pub rows_more : (arrays : List Array) (o : Owners) (r : ℕ) (row : List ℕ) → row ≡ first_arrays arrays o r
    → map (first_arrays arrays o) (range_with_len 0 r) ++ row ∷ [] ≡ map (first_arrays arrays o) (range_with_len 0 (r + 1))
rows_more arrays o r row is =
    ap (λ x. map (first_arrays arrays o) (range_with_len 0 r) ++ x ∷ []) is ∙ sym (map-range_with_len_more (first_arrays arrays o) 0 r r (omega arith))

-- one array more
pub first_more : (arrays : List Array) (o : Owners) (r n : ℕ) (belongs : Bool) (row after : List ℕ) → belongs ≡ is_first arrays o r n → row ≡ filter (is_first arrays o r) (range_with_len 0 n) → after ≡ row ++ cond belongs (n ∷ []) []
    → after ≡ filter (is_first arrays o r) (range_with_len 0 (n + 1))
first_more arrays o r n belongs row after test so_far put =
    let at : 0 + n ≡ n = omega arith in
    put ∙ (λ i. so_far i ++ cond (test i) (n ∷ []) []) ∙ sym (filter-append (is_first arrays o r) (range_with_len 0 n) (n ∷ []))
    ∙ ap (filter (is_first arrays o r)) (sym (range_more 0 n ∙ ap (λ k. range_with_len 0 n ++ k ∷ []) at))

-- the array at a place
pub at_place : (arrays : List Array) (n : ℕ) (a : Array) → n < length arrays → slice_get arrays n ≡ Some (slice_index_or arrays n a)
at_place [] n a l = absurd (omega arith)
at_place (x ∷ xs) zero a l = refl
at_place (x ∷ xs) (suc n) a l = at_place xs n a (omega arith)

pub array_test : (arrays : List Array) (o : Owners) (r n : ℕ) (a : Array) (belongs : Bool) → n < length arrays → a ≡ slice_index_or arrays n a → belongs ≡ (is_nonvolatile a.kind && owner_is (owner_of o n) r)
    → belongs ≡ is_first arrays o r n
array_test arrays o r n a belongs l is test = test ∙ ap (λ x. keeps_words x && owner_is (owner_of o n) r) (ap Some is ∙ sym (at_place arrays n a l))

-- copies are at most as many as sites
one_less : (t : Bool) (x : Site) (xs : List Site) (n : ℕ) → length xs ≤ n → length (cond t (x ∷ xs) xs) ≤ n + 1
one_less true x xs n few = omega (arith, few)
one_less false x xs n few = omega (arith, few)

pub copies_few : (sites : List Site) → copies sites ≤ length sites
copies_few [] = omega arith
copies_few (x ∷ xs) = omega (arith, one_less (is_copy x) x (filter is_copy xs) (length xs) (copies_few xs))
