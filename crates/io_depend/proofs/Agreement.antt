-- Bit b of the rows is what the pass from the I/O site b + 1 alone gives: what is read, and what is assigned in loops.
use Rattle.std.proofs.Common.{◌≡◌, ◌∙◌, ℕ, ◌<◌, Bool, true, false, ◌||◌, ◌&&◌, ◌==◌, List, [], ◌∷◌, ◌++◌, length, slice_index, bit_or, Option, Some, None, refl, sym, ap, arith}
use Rattle.std.specs.List.{AllByRecursion, list_any}
use Rattle.std.specs.Option.{ForSome}
use Rattle.task_ast.specs.declared.core_form.CoreExpr.{CoreExpr, end_of-CoreExpr, more_of-CoreExpr}
use Rattle.task_ast.specs.declared.core_form.CoreExpr.TheVariants as expr
use Rattle.task_ast.specs.declared.core_form.CoreTarget.{CoreTarget}
use Rattle.task_ast.specs.declared.core_form.CoreTarget.TheVariants as target
use Rattle.task_ast.specs.declared.core_form.CoreEnd.{CoreEnd}
use Rattle.task_ast.specs.declared.core_form.CoreEnd.TheVariants as end
use Rattle.task_ast.specs.declared.core_form.CoreStmt.{CoreStmt, Row_of-CoreStmt, end_of-CoreStmt, more_of-CoreStmt}
use Rattle.task_ast.specs.declared.core_form.CoreStmt.TheVariants as stmt
use Rattle.task_ast.specs.Pointing.{Pointing, target_arrays, reading_arrays, end_arrays}
use Rattle.task_ast.specs.WellFormed.{Scope, IsOver, IsCoreExpr, IsTarget, IsEnd, IsCoreStmt, AreCoreStmts}
use Rattle.io_depend.specs.Sets.{has, has_some}
use Rattle.io_depend.specs.Flow.{Carrying, one_carries, through_carries, carries, target_carries, reading_carries, end_carries, copy_carries, assignment_reads, reads, row_reads, assigns, row_assigns, moves, row_moves}
use Rattle.io_depend.specs.Rows.{Rows, has_bit, through_bits, expr_bits, exprs_bits, target_bits, reading_bits, end_bits, copy_bits, assignment_bits, read_bits, row_bits, in_arrays, in_pointer, spread, row_spread}
use Rattle.io_depend.proofs.SetLemmas.{or_none, and_none, or_grouped, has_append, same_any}
use Rattle.io_depend.proofs.BitLemmas.{bit_of_or, bit_of_none, bit_with, bit_with_each, bits_length, each_length, bit_of_each}

-- The arrays of each pointer as the code lists them: the same ones, all of them there.
pub record SamePoints (s : Scope) (near : Pointing) : Type 0 where
  pub any : (p : ℕ) → p < s.pointers → (f : ℕ → Bool) → list_any f (near p) ≡ list_any f (s.points p)
  pub below : (p : ℕ) → p < s.pointers → AllByRecursion (λ a. a < length s.arrays) (s.points p)

-- What bit b of the rows says of each array, pointer and site, and of the sites of the block around. `outer` are the
-- sites that were found outside it, or in the other branch, and `extra` says whether some of them count here.
pub record Agrees (b : ℕ) (s : Scope) (count : ℕ) (outer : List ℕ) (extra : Bool) (r : Rows) (c : Carrying) : Type 0 where
  pub array_rows : length r.arrays ≡ length s.arrays
  pub pointer_rows : length r.pointers ≡ s.pointers
  pub site_rows : length r.sites ≡ count
  pub arrays : (x : ℕ) → x < length s.arrays → has_bit (slice_index r.arrays x) b ≡ has c.arrays x
  pub pointers : (x : ℕ) → x < s.pointers → has_bit (slice_index r.pointers x) b ≡ has c.pointers x
  pub sites : (x : ℕ) → x < count → has_bit (slice_index r.sites x) b ≡ (has c.sites x || has outer x)
  pub found : has_bit r.found b ≡ (has_some c.sites || extra)

-- What rows become where this row's bits are put into these arrays and pointers.
pub record Spreads (b : ℕ) (arrays pointers : List ℕ) (row : ℕ) (r after : Rows) : Type 0 where
  pub array_rows : length after.arrays ≡ length r.arrays
  pub pointer_rows : length after.pointers ≡ length r.pointers
  pub sites : after.sites ≡ r.sites
  pub found : after.found ≡ r.found
  pub into_arrays : (x : ℕ) → x < length r.arrays → has_bit (slice_index after.arrays x) b ≡ (has_bit (slice_index r.arrays x) b || (has arrays x && has_bit row b))
  pub into_pointers : (x : ℕ) → x < length r.pointers → has_bit (slice_index after.pointers x) b ≡ (has_bit (slice_index r.pointers x) b || (has pointers x && has_bit row b))

grouped : (a t f n o : Bool) → ((((a || t) || f) || n) || o) ≡ (a || (t || (f || (n || o))))
grouped true t f n o = refl
grouped false true f n o = refl
grouped false false true n o = refl
grouped false false false n o = refl

joins : (t a c d : Bool) → ((t || (a && d)) || (c && d)) ≡ (t || ((a || c) && d))
joins true a c d = refl
joins false true c true = refl
joins false true c false = and_none c
joins false false c d = refl

module _ (b : ℕ) (s : Scope) (near : Pointing) (same : SamePoints s near) where
  -- what rows say where nothing is put in
  spreads_none : (row : ℕ) (r : Rows) → Spreads b [] [] row r r
  spreads_none row r = record { array_rows = refl; pointer_rows = refl; sites = refl; found = refl; into_arrays = λ x l. sym (or_none _); into_pointers = λ x l. sym (or_none _) }

  pub spreads_on : {xs ys ps qs : List ℕ} {row : ℕ} {r mid after : Rows} → Spreads b xs ps row r mid → Spreads b ys qs row mid after → Spreads b (xs ++ ys) (ps ++ qs) row r after
  spreads_on {xs} {ys} {ps} {qs} {row} {r} g h = record {
    array_rows = h.array_rows ∙ g.array_rows;
    pointer_rows = h.pointer_rows ∙ g.pointer_rows;
    sites = h.sites ∙ g.sites;
    found = h.found ∙ g.found;
    into_arrays = λ x l. h.into_arrays x (omega (arith, l, g.array_rows)) ∙ ap (λ t. t || (has ys x && has_bit row b)) (g.into_arrays x l)
        ∙ joins (has_bit (slice_index r.arrays x) b) (has xs x) (has ys x) (has_bit row b) ∙ ap (λ t. has_bit (slice_index r.arrays x) b || (t && has_bit row b)) (sym (has_append xs ys x));
    into_pointers = λ x l. h.into_pointers x (omega (arith, l, g.pointer_rows)) ∙ ap (λ t. t || (has qs x && has_bit row b)) (g.into_pointers x l)
        ∙ joins (has_bit (slice_index r.pointers x) b) (has ps x) (has qs x) (has_bit row b) ∙ ap (λ t. has_bit (slice_index r.pointers x) b || (t && has_bit row b)) (sym (has_append ps qs x));
  }

  -- bits put into arrays, and into a pointer
  pub spreads_arrays : (xs ys : List ℕ) → ((x : ℕ) → has xs x ≡ has ys x) → (row : ℕ) (r : Rows) → Spreads b ys [] row r (in_arrays r xs row)
  spreads_arrays xs ys equal row r = record {
    array_rows = each_length r.arrays xs row;
    pointer_rows = refl;
    sites = refl;
    found = refl;
    into_arrays = λ x l. bit_with_each r.arrays xs row x b l ∙ ap (λ t. has_bit (slice_index r.arrays x) b || (t && has_bit row b)) (equal x);
    into_pointers = λ x l. sym (or_none _);
  }

  pub spreads_pointer : (p row : ℕ) (r : Rows) → Spreads b [] (p ∷ []) row r (in_pointer r p row)
  spreads_pointer p row r = record {
    array_rows = refl;
    pointer_rows = bits_length r.pointers p row;
    sites = refl;
    found = refl;
    into_arrays = λ x l. sym (or_none _);
    into_pointers = λ x l. bit_with r.pointers p row x b l ∙ ap (λ t. has_bit (slice_index r.pointers x) b || (t && has_bit row b)) (sym (or_none (p == x)));
  }

  -- the arrays that a target, a reading's target and a copy's end may be in
  same_has : (p : ℕ) → p < s.pointers → (x : ℕ) → has (near p) x ≡ has (s.points p) x
  same_has p l x = same.any p l (λ y. y == x)

  pub same_target : (turning : List ℕ) (t : CoreTarget) → IsTarget s turning t → (x : ℕ) → has (target_arrays near t) x ≡ has (target_arrays s.points t) x
  same_target turning (target.Cell array e) w x = refl
  same_target turning (target.Through p e) w x = same_has p w.0 x

  pub same_reading : (turning : List ℕ) (t : Option CoreTarget) → ForSome t (IsTarget s turning) → (x : ℕ) → has (reading_arrays near t) x ≡ has (reading_arrays s.points t) x
  same_reading turning None w x = refl
  same_reading turning (Some t) w x = same_target turning t (w t refl) x

  pub same_end : (e : CoreEnd) → IsEnd s e → (x : ℕ) → has (end_arrays near e) x ≡ has (end_arrays s.points e) x
  same_end (end.Cell array e) w x = refl
  same_end (end.Pointer p) w x = same_has p w x

  mutual
    -- bits spread into all that a statement may assign
    pub spreads : (t : CoreStmt) (level : ℕ) (branched : Bool) (turning : List ℕ) → IsCoreStmt s level branched turning t → (row : ℕ) (r : Rows)
        → Spreads b (assigns s.points t) (moves t) row r (spread near t row r)
    spreads (stmt.Assign x e) level branched turning w row r = spreads_arrays (target_arrays near x) (target_arrays s.points x) (same_target turning x w.1) row r
    spreads (stmt.Point p array i) level branched turning w row r = spreads_pointer p row r
    spreads (stmt.If' e m yes_row n no_row) level branched turning w row r =
        spreads_on (row_spreads yes_row _ _ _ w.2 row r) (row_spreads no_row _ _ _ w.3 row (row_spread near yes_row row r))
    spreads (stmt.Loop' i turns m body) level branched turning w row r =
        spreads_on (spreads_arrays (i ∷ []) (i ∷ []) (λ x. refl) row r) (row_spreads body _ _ _ w.5 row (in_arrays r (i ∷ []) row))
    spreads (stmt.Io k x p args) level branched turning w row r = spreads_arrays (reading_arrays near x) (reading_arrays s.points x) (same_reading turning x w.1) row r
    spreads (stmt.Block' k m body) level branched turning w row r = row_spreads body _ _ _ w.1 row r
    spreads (stmt.Copy k to from n) level branched turning w row r = spreads_arrays (end_arrays near to) (end_arrays s.points to) (same_end to w.2.0) row r

    pub row_spreads : {n : _} (body : Row_of-CoreStmt n) (level : ℕ) (branched : Bool) (turning : List ℕ) → AreCoreStmts s level branched turning body → (row : ℕ) (r : Rows)
        → Spreads b (row_assigns s.points body) (row_moves body) row r (row_spread near body row r)
    row_spreads end_of-CoreStmt level branched turning w row r = spreads_none row r
    row_spreads (more_of-CoreStmt t rest) level branched turning w row r =
        spreads_on (spreads t level branched turning w.0 row r) (row_spreads rest level branched turning w.1 row (spread near t row r))

  -- what is read of rows that agree
  module _ {count : ℕ} {outer : List ℕ} {extra : Bool} {r : Rows} {c : Carrying} (h : Agrees b s count outer extra r c) where
    each_agrees : (p : ℕ) → p < s.pointers → list_any (λ n. has_bit (slice_index r.arrays n) b) (near p) ≡ one_carries c (s.points p)
    each_agrees p l =
        same.any p l (λ n. has_bit (slice_index r.arrays n) b)
        ∙ same_any (λ n. has_bit (slice_index r.arrays n) b) (has c.arrays) (λ a. a < length s.arrays) h.arrays (s.points p) (same.below p l)

    through_agrees : (p : ℕ) → p < s.pointers → has_bit (through_bits near r p) b ≡ through_carries s.points c p
    through_agrees p l = bit_of_each r.arrays (slice_index r.pointers p) (near p) b ∙ (λ i. h.pointers p l i || each_agrees p l i)

    pub expr_agrees : (e : CoreExpr) → IsOver s e → has_bit (expr_bits near r e) b ≡ carries s.points c e
    expr_agrees (expr.Number n) o = bit_of_none b
    expr_agrees (expr.Cell' array u (more_of-CoreExpr e end_of-CoreExpr)) o =
        bit_of_or (slice_index r.arrays array) (expr_bits near r e) b ∙ (λ i. h.arrays array o.0 i || expr_agrees e o.1 i)
    expr_agrees (expr.Through' p u (more_of-CoreExpr e end_of-CoreExpr)) o =
        bit_of_or (through_bits near r p) (expr_bits near r e) b ∙ (λ i. through_agrees p o.0 i || expr_agrees e o.1 i)
    expr_agrees (expr.One' op u (more_of-CoreExpr e end_of-CoreExpr)) o = expr_agrees e o
    expr_agrees (expr.Two' op u (more_of-CoreExpr x end_of-CoreExpr) v (more_of-CoreExpr y end_of-CoreExpr)) o =
        bit_of_or (expr_bits near r x) (expr_bits near r y) b ∙ (λ i. expr_agrees x o.0 i || expr_agrees y o.1 i)

    pub exprs_agree : (es : List CoreExpr) (row : ℕ) → AllByRecursion (IsCoreExpr s) es → has_bit (exprs_bits near r row es) b ≡ (has_bit row b || list_any (carries s.points c) es)
    exprs_agree [] row all = sym (or_none _)
    exprs_agree (e ∷ es) row all =
        exprs_agree es (bit_or row (expr_bits near r e)) all.1
        ∙ ap (λ t. t || list_any (carries s.points c) es) (bit_of_or row (expr_bits near r e) b ∙ ap (λ t. has_bit row b || t) (expr_agrees e all.0.1))
        ∙ sym (or_grouped (has_bit row b) (carries s.points c e) (list_any (carries s.points c) es))

    pub target_agrees : (turning : List ℕ) (x : CoreTarget) → IsTarget s turning x → has_bit (target_bits near r x) b ≡ target_carries s.points c x
    target_agrees turning (target.Cell array e) w = expr_agrees e w.1.1
    target_agrees turning (target.Through p e) w =
        bit_of_or (slice_index r.pointers p) (expr_bits near r e) b ∙ (λ i. h.pointers p w.0 i || expr_agrees e w.2.1 i)

    pub reading_agrees : (turning : List ℕ) (x : Option CoreTarget) → ForSome x (IsTarget s turning) → has_bit (reading_bits near r x) b ≡ reading_carries s.points c x
    reading_agrees turning None w = bit_of_none b
    reading_agrees turning (Some x) w = target_agrees turning x (w x refl)

    end_agrees : (e : CoreEnd) → IsEnd s e → has_bit (end_bits near r e) b ≡ end_carries s.points c e
    end_agrees (end.Cell array e) w = expr_agrees e w.1.1
    end_agrees (end.Pointer p) w = h.pointers p w

    source_any : (e : CoreEnd) → IsEnd s e → list_any (λ n. has_bit (slice_index r.arrays n) b) (end_arrays near e) ≡ one_carries c (end_arrays s.points e)
    source_any (end.Cell array e) w = ap (λ t. t || false) (h.arrays array w.0)
    source_any (end.Pointer p) w = each_agrees p w

    pub copy_agrees : (row : ℕ) (to from : CoreEnd) (n : CoreExpr) → IsEnd s to → IsEnd s from → IsCoreExpr s n
        → has_bit (copy_bits near row to from n r) b ≡ (has_bit row b || copy_carries s.points c to from n)
    copy_agrees row to from n wt wf wn =
        let ends = bit_or (bit_or row (end_bits near r to)) (end_bits near r from) in
        let first = bit_of_or row (end_bits near r to) b ∙ ap (λ t. has_bit row b || t) (end_agrees to wt) in
        let second = bit_of_or (bit_or row (end_bits near r to)) (end_bits near r from) b ∙ (λ i. first i || end_agrees from wf i) in
        let third = bit_of_or ends (expr_bits near r n) b ∙ (λ i. second i || expr_agrees n wn.1 i) in
        bit_of_each r.arrays (bit_or ends (expr_bits near r n)) (end_arrays near from) b ∙ (λ i. third i || source_any from wf i)
        ∙ grouped (has_bit row b) (end_carries s.points c to) (end_carries s.points c from) (carries s.points c n) (one_carries c (end_arrays s.points from))

    assignment_agrees : (turning : List ℕ) (x : CoreTarget) (e : CoreExpr) → IsTarget s turning x → IsCoreExpr s e → has_bit (assignment_bits near r x e) b ≡ assignment_reads s.points c x e
    assignment_agrees turning (target.Cell array i) e w v = bit_of_or (expr_bits near r i) (expr_bits near r e) b ∙ (λ j. expr_agrees i w.1.1 j || expr_agrees e v.1 j)
    assignment_agrees turning (target.Through p i) e w v =
        bit_of_or (bit_or (through_bits near r p) (expr_bits near r i)) (expr_bits near r e) b
        ∙ (λ j. (bit_of_or (through_bits near r p) (expr_bits near r i) b ∙ (λ k. through_agrees p w.0 k || expr_agrees i w.2.1 k)) j || expr_agrees e v.1 j)
        ∙ sym (or_grouped (through_carries s.points c p) (carries s.points c i) (carries s.points c e))

    from_none : (t : Bool) → (has_bit 0 b || t) ≡ t
    from_none t = ap (λ x. x || t) (bit_of_none b)

    mutual
      -- what a statement of a loop reads
      reads_agree : (t : CoreStmt) (level : ℕ) (branched : Bool) (turning : List ℕ) → IsCoreStmt s level branched turning t → has_bit (read_bits near r t) b ≡ reads s.points c t
      reads_agree (stmt.Assign x e) level branched turning w = assignment_agrees turning x e w.1 w.2
      reads_agree (stmt.Point p array i) level branched turning w = expr_agrees i w.3.1
      reads_agree (stmt.If' e m yes_row n no_row) level branched turning w =
          let condition = expr_bits near r e in
          let one = row_bits near r 0 yes_row in
          let first = bit_of_or condition one b ∙ (λ i. expr_agrees e w.1.1 i || (rows_after yes_row 0 _ _ _ w.2 ∙ from_none _) i) in
          bit_of_or (bit_or condition one) (row_bits near r 0 no_row) b ∙ (λ i. first i || (rows_after no_row 0 _ _ _ w.3 ∙ from_none _) i)
          ∙ sym (or_grouped (carries s.points c e) (row_reads s.points c yes_row) (row_reads s.points c no_row))
      reads_agree (stmt.Loop' i turns m body) level branched turning w = rows_after body 0 _ _ _ w.5 ∙ from_none _
      reads_agree (stmt.Io k x p args) level branched turning w = bit_of_none b
      reads_agree (stmt.Block' k m body) level branched turning w = bit_of_none b
      reads_agree (stmt.Copy k to from n) level branched turning w = bit_of_none b

      -- what a row's statements read, and what was there before
      rows_after : {n : _} (body : Row_of-CoreStmt n) (row : ℕ) (level : ℕ) (branched : Bool) (turning : List ℕ) → AreCoreStmts s level branched turning body
          → has_bit (row_bits near r row body) b ≡ (has_bit row b || row_reads s.points c body)
      rows_after end_of-CoreStmt row level branched turning w = sym (or_none _)
      rows_after (more_of-CoreStmt t rest) row level branched turning w =
          rows_after rest (bit_or row (read_bits near r t)) level branched turning w.1
          ∙ ap (λ x. x || row_reads s.points c rest) (bit_of_or row (read_bits near r t) b ∙ ap (λ x. has_bit row b || x) (reads_agree t level branched turning w.0))
          ∙ sym (or_grouped (has_bit row b) (reads s.points c t) (row_reads s.points c rest))

    pub rows_agree : {n : _} (body : Row_of-CoreStmt n) (level : ℕ) (branched : Bool) (turning : List ℕ) → AreCoreStmts s level branched turning body
        → has_bit (row_bits near r 0 body) b ≡ row_reads s.points c body
    rows_agree body level branched turning w = rows_after body 0 level branched turning w ∙ from_none _
