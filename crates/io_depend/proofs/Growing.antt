-- The pass only adds: what carries, goes on carrying, and a site that is found, stays found.
use Rattle.std.proofs.Common.{◌≡◌, ◌∙◌, ℕ, Bool, true, false, ◌||◌, ◌==◌, List, [], ◌∷◌, ◌++◌}
use Rattle.std.specs.List.{list_any}
use Rattle.std.proofs.lemmas.Bool.{or_left, or_right}
use Rattle.task_ast.specs.declared.core_form.CoreStmt.{CoreStmt, Row_of-CoreStmt, end_of-CoreStmt, more_of-CoreStmt}
use Rattle.task_ast.specs.declared.core_form.CoreStmt.TheVariants as stmt
use Rattle.task_ast.specs.Pointing.{Pointing, target_arrays, reading_arrays, end_arrays}
use Rattle.io_depend.specs.Sets.{has, joined, has_some}
use Rattle.io_depend.specs.Flow.{Carrying, carries, target_carries, reading_carries, copy_carries, row_reads, row_assigns, row_moves, into_arrays, into_pointers, into_sites, either, no_sites, block_passed, passed, row_passed, all_passed}
use Rattle.io_depend.specs.Laws.{Grows}
use Rattle.io_depend.proofs.SetLemmas.{has_joined, has_append}

pub stays : (c : Carrying) → Grows c c
stays c = record { arrays = λ x h. h; pointers = λ x h. h; sites = λ x h. h }

pub grows_on : {a b c : Carrying} → Grows a b → Grows b c → Grows a c
grows_on g h = record { arrays = λ x t. h.arrays x (g.arrays x t); pointers = λ x t. h.pointers x (g.pointers x t); sites = λ x t. h.sites x (g.sites x t) }

in_second : (xs ys : List ℕ) (n : ℕ) → has ys n ≡ true → has (joined xs ys) n ≡ true
in_second xs ys n there = has_joined xs ys n ∙ or_right (has xs n) (has ys n) there

in_first : (xs ys : List ℕ) (n : ℕ) → has xs n ≡ true → has (joined xs ys) n ≡ true
in_first xs ys n there = has_joined xs ys n ∙ or_left (has xs n) (has ys n) there

pub grows_arrays : (flows : Bool) (xs : List ℕ) (c : Carrying) → Grows c (into_arrays flows xs c)
grows_arrays true xs c = record { arrays = λ x h. in_second xs c.arrays x h; pointers = λ x h. h; sites = λ x h. h }
grows_arrays false xs c = stays c

pub grows_pointers : (flows : Bool) (xs : List ℕ) (c : Carrying) → Grows c (into_pointers flows xs c)
grows_pointers true xs c = record { arrays = λ x h. h; pointers = λ x h. in_second xs c.pointers x h; sites = λ x h. h }
grows_pointers false xs c = stays c

pub grows_sites : (flows : Bool) (k : ℕ) (c : Carrying) → Grows c (into_sites flows k c)
grows_sites true k c = record { arrays = λ x h. h; pointers = λ x h. h; sites = λ x h. or_right (k == x) (has c.sites x) h }
grows_sites false k c = stays c

grows_either : (c a b : Carrying) → Grows c a → Grows c (either a b)
grows_either c a b g = record {
  arrays = λ x h. in_first a.arrays b.arrays x (g.arrays x h);
  pointers = λ x h. in_first a.pointers b.pointers x (g.pointers x h);
  sites = λ x h. in_first a.sites b.sites x (g.sites x h);
}

-- what was found inside a block comes to what was found before it
grows_block : (around : Bool) (k : ℕ) (c inside : Carrying) → Grows (no_sites c) inside → Grows c (block_passed around k c.sites inside)
grows_block around k c inside g = grows_on {b = record inside { sites = inside.sites ++ c.sites }} (record {
  arrays = λ x h. g.arrays x h;
  pointers = λ x h. g.pointers x h;
  sites = λ x h. has_append inside.sites c.sites x ∙ or_right (has inside.sites x) (has c.sites x) h;
}) (grows_sites (around || has_some inside.sites) k (record inside { sites = inside.sites ++ c.sites }))

module _ (points : Pointing) (sources : ℕ → Bool) where
  mutual
    pub grows : (s : CoreStmt) (around : Bool) (c : Carrying) → Grows c (passed points sources s around c)
    grows (stmt.Assign x e) around c = grows_arrays (around || (target_carries points c x || carries points c e)) (target_arrays points x) c
    grows (stmt.Point p array i) around c = grows_pointers (around || carries points c i) (p ∷ []) c
    grows (stmt.If' e m yes_row n no_row) around c = grows_either c _ _ (row_grows yes_row _ c)
    grows (stmt.Loop' i turns m row) around c =
        let flows = around || row_reads points c row in
        let arrays = i ∷ row_assigns points row in
        grows_on (grows_arrays flows arrays c) (grows_pointers flows (row_moves row) (into_arrays flows arrays c))
    grows (stmt.Io k x p args) around c =
        let found = around || list_any (carries points c) args in
        grows_on (grows_sites found k c) (grows_arrays (sources k || (around || reading_carries points c x)) (reading_arrays points x) (into_sites found k c))
    grows (stmt.Block' k m row) around c = grows_block around k c _ (row_grows row around (no_sites c))
    grows (stmt.Copy k to from n) around c =
        let flows = around || copy_carries points c to from n in
        grows_on (grows_sites flows k c) (grows_arrays flows (end_arrays points to) (into_sites flows k c))

    pub row_grows : {n : _} (row : Row_of-CoreStmt n) (around : Bool) (c : Carrying) → Grows c (row_passed points sources row around c)
    row_grows end_of-CoreStmt around c = stays c
    row_grows (more_of-CoreStmt s rest) around c = grows_on (grows s around c) (row_grows rest around _)

  pub all_grow : (body : List CoreStmt) (around : Bool) (c : Carrying) → Grows c (all_passed points sources body around c)
  all_grow [] around c = stays c
  all_grow (s ∷ rest) around c = grows_on (grows s around c) (all_grow rest around _)
