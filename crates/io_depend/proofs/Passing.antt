-- Bit b of the rows is what the pass from the I/O site b + 1 alone gives: each statement, and a whole task.
use Rattle.std.proofs.Common.{◌≡◌, ◌∙◌, ℕ, suc, ◌<◌, ◌≤◌, Bool, true, false, ◌||◌, ◌&&◌, ◌==◌, List, [], ◌∷◌, ◌++◌, length, slice_index, bit_or, Option, refl, sym, ap, arith}
use Rattle.std.specs.List.{AllByRecursion, list_any}
use Rattle.std.proofs.lemmas.Bool.{or_left, or_right}
use Rattle.task_ast.specs.declared.core_form.CoreExpr.{CoreExpr}
use Rattle.task_ast.specs.declared.core_form.CoreEnd.{CoreEnd}
use Rattle.task_ast.specs.declared.core_form.CoreTarget.{CoreTarget}
use Rattle.task_ast.specs.declared.core_form.CoreStmt.{CoreStmt, Row_of-CoreStmt, end_of-CoreStmt, more_of-CoreStmt}
use Rattle.task_ast.specs.declared.core_form.CoreStmt.TheVariants as stmt
use Rattle.task_ast.specs.Pointing.{Pointing, target_arrays, reading_arrays, end_arrays}
use Rattle.task_ast.specs.WellFormed.{Scope, IsCoreExpr, IsCoreStmt, AreCoreStmts}
use Rattle.io_depend.specs.Sets.{has, joined, has_some}
use Rattle.io_depend.specs.Flow.{Carrying, carries, target_carries, reading_carries, copy_carries, row_reads, row_assigns, row_moves, into_arrays, into_pointers, into_sites, either, no_sites, loop_passed, block_passed, passed, row_passed, all_passed}
use Rattle.io_depend.specs.Laws.{Grows}
use Rattle.io_depend.specs.Rows.{Rows, has_bit, own_bit, expr_bits, exprs_bits, target_bits, reading_bits, copy_bits, row_bits, in_arrays, in_pointer, in_site, branch_of, other_branch, both_branches, block_entered, block_left, row_spread, done, row_done, all_done}
use Rattle.io_depend.proofs.SetLemmas.{or_none, and_none, and_all, or_swapped, or_grouped, has_joined, has_append, some_append, some_joined, some_from_has}
use Rattle.io_depend.proofs.BitLemmas.{bit_of_or, bit_of_none, bit_of_own, bit_with, bit_with_all, bits_length, all_length}
use Rattle.io_depend.proofs.Growing.{row_grows}
use Rattle.io_depend.proofs.Agreement.{SamePoints, Agrees, Spreads, expr_agrees, exprs_agree, target_agrees, reading_agrees, copy_agrees, rows_agree, same_target, same_reading, same_end, spreads_arrays, spreads_pointer, spreads_on, row_spreads}

-- what was said of a place, with more put in where it flows
put_in : (xs ys : List ℕ) (x : ℕ) → (has ys x || (has xs x && true)) ≡ has (joined xs ys) x
put_in xs ys x = ap (λ t. has ys x || t) (and_all (has xs x)) ∙ or_swapped (has ys x) (has xs x) ∙ sym (has_joined xs ys x)

left_out : (xs ys : List ℕ) (x : ℕ) → (has ys x || (has xs x && false)) ≡ has ys x
left_out xs ys x = ap (λ t. has ys x || t) (and_none (has xs x)) ∙ or_none (has ys x)

one_more : (a o e : Bool) → ((a || o) || (e && true)) ≡ ((e || a) || o)
one_more true o true = refl
one_more true o false = refl
one_more false true true = refl
one_more false true false = refl
one_more false false true = refl
one_more false false false = refl

no_more : (a o e : Bool) → ((a || o) || (e && false)) ≡ (a || o)
no_more a o e = ap (λ t. (a || o) || t) (and_none e) ∙ or_none (a || o)

-- the sites of the first branch are outside the other one
kept_sites : (c y o : Bool) → (c ≡ true → y ≡ true) → (y || o) ≡ (c || (y || o))
kept_sites true y o more = ap (λ t. t || o) (more refl)
kept_sites false y o more = refl

more_some : (xs ys : List ℕ) → ((x : ℕ) → has xs x ≡ true → has ys x ≡ true) → has_some xs ≡ true → has_some ys ≡ true
more_some [] ys more there = absurd (Rattle.std.proofs.lemmas.Bool.true≢false (sym there))
more_some (x ∷ xs) ys more there = some_from_has ys x (more x (or_left (x == x) (has xs x) (itself x)))
  where
    itself : (n : ℕ) → (n == n) ≡ true
    itself n = Rattle.std.proofs.lemmas.Bool.eq-eqb n n refl

swapped_in : (n y o : Bool) → (n || (y || o)) ≡ ((y || n) || o)
swapped_in n y o = or_grouped n y o ∙ ap (λ t. t || o) (or_swapped n y)

block_sites : (i c o e : Bool) → ((i || (c || o)) || (e && true)) ≡ ((e || (i || c)) || o)
block_sites i c o e = ap (λ t. t || (e && true)) (or_grouped i c o) ∙ one_more (i || c) o e

block_sites_kept : (i c o e : Bool) → ((i || (c || o)) || (e && false)) ≡ ((i || c) || o)
block_sites_kept i c o e = ap (λ t. t || (e && false)) (or_grouped i c o) ∙ no_more (i || c) o e

block_found : (i c x : Bool) → (((i || false) || true) || (c || x)) ≡ true
block_found true c x = refl
block_found false c x = refl

block_found_kept : (i c x : Bool) → (((i || false) || false) || (c || x)) ≡ ((i || c) || x)
block_found_kept true c x = refl
block_found_kept false c x = refl

module _ (b : ℕ) (s : Scope) (near : Pointing) (count : ℕ) where
  -- bits put into arrays and pointers where they flow
  both_on : {outer : List ℕ} {extra : Bool} {r after : Rows} {c : Carrying} (flows : Bool) (xs ps : List ℕ) (row : ℕ) → has_bit row b ≡ flows → Spreads b xs ps row r after
      → Agrees b s count outer extra r c → Agrees b s count outer extra after (loop_passed flows xs ps c)
  both_on {outer} {extra} {r} {after} {c} true xs ps row on g h = record {
    array_rows = g.array_rows ∙ h.array_rows;
    pointer_rows = g.pointer_rows ∙ h.pointer_rows;
    site_rows = ap length g.sites ∙ h.site_rows;
    arrays = λ x l. g.into_arrays x (omega (arith, l, h.array_rows)) ∙ (λ i. h.arrays x l i || (has xs x && on i)) ∙ put_in xs c.arrays x;
    pointers = λ x l. g.into_pointers x (omega (arith, l, h.pointer_rows)) ∙ (λ i. h.pointers x l i || (has ps x && on i)) ∙ put_in ps c.pointers x;
    sites = λ x l. ap (λ rows. has_bit (slice_index rows x) b) g.sites ∙ h.sites x l;
    found = ap (λ row. has_bit row b) g.found ∙ h.found;
  }
  both_on {outer} {extra} {r} {after} {c} false xs ps row on g h = record {
    array_rows = g.array_rows ∙ h.array_rows;
    pointer_rows = g.pointer_rows ∙ h.pointer_rows;
    site_rows = ap length g.sites ∙ h.site_rows;
    arrays = λ x l. g.into_arrays x (omega (arith, l, h.array_rows)) ∙ (λ i. h.arrays x l i || (has xs x && on i)) ∙ left_out xs c.arrays x;
    pointers = λ x l. g.into_pointers x (omega (arith, l, h.pointer_rows)) ∙ (λ i. h.pointers x l i || (has ps x && on i)) ∙ left_out ps c.pointers x;
    sites = λ x l. ap (λ rows. has_bit (slice_index rows x) b) g.sites ∙ h.sites x l;
    found = ap (λ row. has_bit row b) g.found ∙ h.found;
  }

  -- into arrays alone, and into pointers alone
  no_pointers : (flows : Bool) (xs : List ℕ) (c : Carrying) → loop_passed flows xs [] c ≡ into_arrays flows xs c
  no_pointers true xs c = refl
  no_pointers false xs c = refl

  no_arrays : (flows : Bool) (ps : List ℕ) (c : Carrying) → loop_passed flows [] ps c ≡ into_pointers flows ps c
  no_arrays true ps c = refl
  no_arrays false ps c = refl

  arrays_on : {outer : List ℕ} {extra : Bool} {r after : Rows} {c : Carrying} (flows : Bool) (xs : List ℕ) (row : ℕ) → has_bit row b ≡ flows → Spreads b xs [] row r after
      → Agrees b s count outer extra r c → Agrees b s count outer extra after (into_arrays flows xs c)
  arrays_on {outer} {extra} {r} {after} {c} flows xs row on g h =
      Rattle.std.proofs.Common.subst (Agrees b s count outer extra after) (no_pointers flows xs c) (both_on flows xs [] row on g h)

  pointers_on : {outer : List ℕ} {extra : Bool} {r after : Rows} {c : Carrying} (flows : Bool) (ps : List ℕ) (row : ℕ) → has_bit row b ≡ flows → Spreads b [] ps row r after
      → Agrees b s count outer extra r c → Agrees b s count outer extra after (into_pointers flows ps c)
  pointers_on {outer} {extra} {r} {after} {c} flows ps row on g h =
      Rattle.std.proofs.Common.subst (Agrees b s count outer extra after) (no_arrays flows ps c) (both_on flows [] ps row on g h)

  -- a site is found
  site_on : {outer : List ℕ} {extra : Bool} {r : Rows} {c : Carrying} (flows : Bool) (k row : ℕ) → has_bit row b ≡ flows
      → Agrees b s count outer extra r c → Agrees b s count outer extra (in_site r k row) (into_sites flows k c)
  site_on {outer} {extra} {r} {c} true k row on h = record {
    array_rows = h.array_rows;
    pointer_rows = h.pointer_rows;
    site_rows = bits_length r.sites k row ∙ h.site_rows;
    arrays = h.arrays;
    pointers = h.pointers;
    sites = λ x l. bit_with r.sites k row x b (omega (arith, l, h.site_rows)) ∙ (λ i. h.sites x l i || ((k == x) && on i)) ∙ one_more (has c.sites x) (has outer x) (k == x);
    found = bit_of_or r.found row b ∙ or_right (has_bit r.found b) (has_bit row b) on;
  }
  site_on {outer} {extra} {r} {c} false k row on h = record {
    array_rows = h.array_rows;
    pointer_rows = h.pointer_rows;
    site_rows = bits_length r.sites k row ∙ h.site_rows;
    arrays = h.arrays;
    pointers = h.pointers;
    sites = λ x l. bit_with r.sites k row x b (omega (arith, l, h.site_rows)) ∙ (λ i. h.sites x l i || ((k == x) && on i)) ∙ no_more (has c.sites x) (has outer x) (k == x);
    found = bit_of_or r.found row b ∙ (λ i. h.found i || on i) ∙ or_none (has_some c.sites || extra);
  }

  -- the other branch begins with what carried before, and with the first one's sites outside
  begins_other : {outer : List ℕ} {extra : Bool} {r one : Rows} {c y : Carrying} → Agrees b s count outer extra r c → Grows c y → Agrees b s count outer extra one y
      → Agrees b s count (y.sites ++ outer) (has_some y.sites || extra) (other_branch (branch_of r) one) c
  begins_other {outer} {extra} {r} {one} {c} {y} h g f = record {
    array_rows = h.array_rows;
    pointer_rows = h.pointer_rows;
    site_rows = f.site_rows;
    arrays = h.arrays;
    pointers = h.pointers;
    sites = λ x l. f.sites x l ∙ kept_sites (has c.sites x) (has y.sites x) (has outer x) (g.sites x) ∙ ap (λ t. has c.sites x || t) (sym (has_append y.sites outer x));
    found = f.found ∙ kept_sites (has_some c.sites) (has_some y.sites) extra (more_some c.sites y.sites g.sites);
  }

  -- after both branches
  merges : {outer : List ℕ} {extra : Bool} {one other : Rows} {y n : Carrying} → Agrees b s count outer extra one y → Agrees b s count (y.sites ++ outer) (has_some y.sites || extra) other n
      → Agrees b s count outer extra (both_branches (branch_of one) other) (either y n)
  merges {outer} {extra} {one} {other} {y} {n} f h = record {
    array_rows = all_length other.arrays 0 one.arrays ∙ h.array_rows;
    pointer_rows = all_length other.pointers 0 one.pointers ∙ h.pointer_rows;
    site_rows = h.site_rows;
    arrays = λ x l. bit_with_all other.arrays one.arrays x b (omega (arith, l, h.array_rows)) ∙ (λ i. h.arrays x l i || f.arrays x l i)
        ∙ or_swapped (has n.arrays x) (has y.arrays x) ∙ sym (has_joined y.arrays n.arrays x);
    pointers = λ x l. bit_with_all other.pointers one.pointers x b (omega (arith, l, h.pointer_rows)) ∙ (λ i. h.pointers x l i || f.pointers x l i)
        ∙ or_swapped (has n.pointers x) (has y.pointers x) ∙ sym (has_joined y.pointers n.pointers x);
    sites = λ x l. h.sites x l ∙ ap (λ t. has n.sites x || t) (has_append y.sites outer x) ∙ swapped_in (has n.sites x) (has y.sites x) (has outer x)
        ∙ ap (λ t. t || has outer x) (sym (has_joined y.sites n.sites x));
    found = h.found ∙ swapped_in (has_some n.sites) (has_some y.sites) extra ∙ ap (λ t. t || extra) (sym (some_joined y.sites n.sites));
  }

  -- a block is entered, with what was found before outside
  enters : {outer : List ℕ} {extra : Bool} {r : Rows} {c : Carrying} → Agrees b s count outer extra r c → Agrees b s count (c.sites ++ outer) false (block_entered r) (no_sites c)
  enters {outer} {extra} {r} {c} h = record {
    array_rows = h.array_rows;
    pointer_rows = h.pointer_rows;
    site_rows = h.site_rows;
    arrays = h.arrays;
    pointers = h.pointers;
    sites = λ x l. h.sites x l ∙ sym (has_append c.sites outer x);
    found = bit_of_none b;
  }

  -- a block is left, by whether its site depends
  leaves_with : {outer : List ℕ} {extra : Bool} {r inside : Rows} {c y : Carrying} (flows : Bool) (k row : ℕ) → has_bit row b ≡ flows → Agrees b s count outer extra r c
      → Agrees b s count (c.sites ++ outer) false inside y
      → Agrees b s count outer extra (record (in_site inside k row) { found = bit_or (in_site inside k row).found r.found }) (into_sites flows k (record y { sites = y.sites ++ c.sites }))
  leaves_with {outer} {extra} {r} {inside} {c} {y} true k row on h g = record {
    array_rows = g.array_rows;
    pointer_rows = g.pointer_rows;
    site_rows = bits_length inside.sites k row ∙ g.site_rows;
    arrays = g.arrays;
    pointers = g.pointers;
    sites = λ x l. bit_with inside.sites k row x b (omega (arith, l, g.site_rows))
        ∙ (λ i. (g.sites x l ∙ ap (λ t. has y.sites x || t) (has_append c.sites outer x)) i || ((k == x) && on i))
        ∙ block_sites (has y.sites x) (has c.sites x) (has outer x) (k == x) ∙ ap (λ t. ((k == x) || t) || has outer x) (sym (has_append y.sites c.sites x));
    found = bit_of_or (bit_or inside.found row) r.found b ∙ (λ i. (bit_of_or inside.found row b ∙ (λ j. g.found j || on j)) i || h.found i)
        ∙ block_found (has_some y.sites) (has_some c.sites) extra;
  }
  leaves_with {outer} {extra} {r} {inside} {c} {y} false k row on h g = record {
    array_rows = g.array_rows;
    pointer_rows = g.pointer_rows;
    site_rows = bits_length inside.sites k row ∙ g.site_rows;
    arrays = g.arrays;
    pointers = g.pointers;
    sites = λ x l. bit_with inside.sites k row x b (omega (arith, l, g.site_rows))
        ∙ (λ i. (g.sites x l ∙ ap (λ t. has y.sites x || t) (has_append c.sites outer x)) i || ((k == x) && on i))
        ∙ block_sites_kept (has y.sites x) (has c.sites x) (has outer x) (k == x) ∙ ap (λ t. t || has outer x) (sym (has_append y.sites c.sites x));
    found = bit_of_or (bit_or inside.found row) r.found b ∙ (λ i. (bit_of_or inside.found row b ∙ (λ j. g.found j || on j)) i || h.found i)
        ∙ block_found_kept (has_some y.sites) (has_some c.sites) extra ∙ ap (λ t. t || extra) (sym (some_append y.sites c.sites));
  }

  leaves : {outer : List ℕ} {extra : Bool} {r inside : Rows} {c y : Carrying} (around : Bool) (k row : ℕ) → has_bit row b ≡ around → Agrees b s count outer extra r c
      → Agrees b s count (c.sites ++ outer) false inside y → Agrees b s count outer extra (block_left row k r.found inside) (block_passed around k c.sites y)
  leaves {outer} {extra} {r} {inside} {c} {y} around k row on h g =
      leaves_with (around || has_some y.sites) k (bit_or row inside.found)
      (bit_of_or row inside.found b ∙ (λ i. on i || (g.found ∙ or_none (has_some y.sites)) i)) h g

  module _ (small : b < 128) (same : SamePoints s near) where
    -- an I/O site
    io_agrees : {outer : List ℕ} {extra : Bool} {r : Rows} {c : Carrying} (turning : List ℕ) (k : ℕ) (x : Option CoreTarget) (args : List CoreExpr)
        → Rattle.std.specs.Option.ForSome x (Rattle.task_ast.specs.WellFormed.IsTarget s turning) → AllByRecursion (IsCoreExpr s) args
        → (row : ℕ) (around : Bool) → has_bit row b ≡ around → Agrees b s count outer extra r c
        → Agrees b s count outer extra (Rattle.io_depend.specs.Rows.io_done near row k x args r) (Rattle.io_depend.specs.Flow.io_passed s.points (λ j. j == suc b) around k x args c)
    io_agrees {outer} {extra} {r} {c} turning k x args wx wargs row around on h =
        let found = exprs_bits near r row args in
        let own = bit_of_or (bit_or (own_bit k) row) (reading_bits near r x) b
        ∙ (λ i. (bit_of_or (own_bit k) row b ∙ (λ j. bit_of_own k b small j || on j)) i || reading_agrees b s near same h turning x wx i)
        ∙ sym (or_grouped (k == suc b) around (reading_carries s.points c x)) in
        arrays_on ((k == suc b) || (around || reading_carries s.points c x)) (reading_arrays s.points x) (bit_or (bit_or (own_bit k) row) (reading_bits near r x)) own
        (spreads_arrays b s near same (reading_arrays near x) (reading_arrays s.points x) (same_reading b s near same turning x wx) _ (in_site r k found))
        (site_on (around || list_any (carries s.points c) args) k found (exprs_agree b s near same h args row wargs ∙ ap (λ t. t || list_any (carries s.points c) args) on) h)

    -- a copy
    copies_agree : {outer : List ℕ} {extra : Bool} {r : Rows} {c : Carrying} (k : ℕ) (to from : CoreEnd) (n : CoreExpr)
        → Rattle.task_ast.specs.WellFormed.IsEnd s to → Rattle.task_ast.specs.WellFormed.IsEnd s from → IsCoreExpr s n
        → (row : ℕ) (around : Bool) → has_bit row b ≡ around → Agrees b s count outer extra r c
        → Agrees b s count outer extra (Rattle.io_depend.specs.Rows.copy_done near row k to from n r) (Rattle.io_depend.specs.Flow.copy_passed s.points around k to from n c)
    copies_agree {outer} {extra} {r} {c} k to from n wt wf wn row around on h =
        let bits = copy_bits near row to from n r in
        let flows = copy_agrees b s near same h row to from n wt wf wn ∙ ap (λ t. t || copy_carries s.points c to from n) on in
        arrays_on (around || copy_carries s.points c to from n) (end_arrays s.points to) bits flows
        (spreads_arrays b s near same (end_arrays near to) (end_arrays s.points to) (same_end b s near same to wt) bits (in_site r k bits))
        (site_on (around || copy_carries s.points c to from n) k bits flows h)

    mutual
      -- a statement
      pub agrees : (t : CoreStmt) (level : ℕ) (branched : Bool) (turning : List ℕ) → IsCoreStmt s level branched turning t → (row : ℕ) (around : Bool) → has_bit row b ≡ around
          → (outer : List ℕ) (extra : Bool) (r : Rows) (c : Carrying) → Agrees b s count outer extra r c
          → Agrees b s count outer extra (done near t row r) (passed s.points (λ k. k == suc b) t around c)
      agrees (stmt.Assign x e) level branched turning w row around on outer extra r c h =
          let bits = bit_or (bit_or row (target_bits near r x)) (expr_bits near r e) in
          let flows = bit_of_or (bit_or row (target_bits near r x)) (expr_bits near r e) b
          ∙ (λ i. (bit_of_or row (target_bits near r x) b ∙ (λ j. on j || target_agrees b s near same h turning x w.1 j)) i || expr_agrees b s near same h e w.2.1 i)
          ∙ sym (or_grouped around (target_carries s.points c x) (carries s.points c e)) in
          arrays_on (around || (target_carries s.points c x || carries s.points c e)) (target_arrays s.points x) bits flows
          (spreads_arrays b s near same (target_arrays near x) (target_arrays s.points x) (same_target b s near same turning x w.1) bits r) h
      agrees (stmt.Point p array i) level branched turning w row around on outer extra r c h =
          let bits = bit_or row (expr_bits near r i) in
          pointers_on (around || carries s.points c i) (p ∷ []) bits (bit_of_or row (expr_bits near r i) b ∙ (λ j. on j || expr_agrees b s near same h i w.3.1 j))
          (spreads_pointer b s near same p bits r) h
      agrees (stmt.If' e m yes_row n no_row) level branched turning w row around on outer extra r c h =
          let inside = bit_or row (expr_bits near r e) in
          let holds = around || carries s.points c e in
          let reaches = bit_of_or row (expr_bits near r e) b ∙ (λ i. on i || expr_agrees b s near same h e w.1.1 i) in
          let one = rows_do yes_row _ _ _ w.2 inside holds reaches outer extra r c h in
          let first = row_passed s.points (λ k. k == suc b) yes_row holds c in
          merges one (rows_do no_row _ _ _ w.3 inside holds reaches (first.sites ++ outer) (has_some first.sites || extra) _ c
          (begins_other h (row_grows s.points (λ k. k == suc b) yes_row holds c) one))
      agrees (stmt.Loop' i turns m body) level branched turning w row around on outer extra r c h =
          let bits = bit_or row (row_bits near r 0 body) in
          both_on (around || row_reads s.points c body) (i ∷ row_assigns s.points body) (row_moves body) bits
          (bit_of_or row (row_bits near r 0 body) b ∙ (λ j. on j || rows_agree b s near same h body _ _ _ w.5 j))
          (spreads_on b s near same (spreads_arrays b s near same (i ∷ []) (i ∷ []) (λ x. refl) bits r) (row_spreads b s near same body _ _ _ w.5 bits (in_arrays r (i ∷ []) bits))) h
      agrees (stmt.Io k x p args) level branched turning w row around on outer extra r c h = io_agrees turning k x args w.1 w.4 row around on h
      agrees (stmt.Block' k m body) level branched turning w row around on outer extra r c h =
          leaves around k row on h (rows_do body _ _ _ w.1 row around on (c.sites ++ outer) false (block_entered r) (no_sites c) (enters h))
      agrees (stmt.Copy k to from n) level branched turning w row around on outer extra r c h = copies_agree k to from n w.2.0 w.3 w.4 row around on h

      -- a row's statements
      rows_do : {n : _} (body : Row_of-CoreStmt n) (level : ℕ) (branched : Bool) (turning : List ℕ) → AreCoreStmts s level branched turning body → (row : ℕ) (around : Bool) → has_bit row b ≡ around
          → (outer : List ℕ) (extra : Bool) (r : Rows) (c : Carrying) → Agrees b s count outer extra r c
          → Agrees b s count outer extra (row_done near body row r) (row_passed s.points (λ k. k == suc b) body around c)
      rows_do end_of-CoreStmt level branched turning w row around on outer extra r c h = h
      rows_do (more_of-CoreStmt t rest) level branched turning w row around on outer extra r c h =
          rows_do rest level branched turning w.1 row around on outer extra _ _ (agrees t level branched turning w.0 row around on outer extra r c h)

    -- statements one after another
    pub all_agree : (body : List CoreStmt) (level : ℕ) (branched : Bool) (turning : List ℕ) → AllByRecursion (IsCoreStmt s level branched turning) body → (row : ℕ) (around : Bool) → has_bit row b ≡ around
        → (outer : List ℕ) (extra : Bool) (r : Rows) (c : Carrying) → Agrees b s count outer extra r c
        → Agrees b s count outer extra (all_done near body row r) (all_passed s.points (λ k. k == suc b) body around c)
    all_agree [] level branched turning w row around on outer extra r c h = h
    all_agree (t ∷ rest) level branched turning w row around on outer extra r c h =
        all_agree rest level branched turning w.1 row around on outer extra _ _ (agrees t level branched turning w.0 row around on outer extra r c h)
