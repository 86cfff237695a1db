-- Acts of programs without sites but a commit: locks, regions, beginnings, statements and tests are cut well.
use Rattle.std.specs.Prelude.{◌==◌, cond, filter, map, slice_get, slice_index_or, Result, Ok, Err}
use Rattle.std.specs.List.{AllByRecursion, range_with_len}
use Rattle.std.proofs.Common.{◌≡◌, ℕ, zero, suc, ◌^◌, ◌<◌, ◌≤◌, Bool, true, false, List, [], ◌∷◌, length, refl, sym, ap, subst, eqb-true}
use Rattle.devices.specs.Journal as journal
use Rattle.fram_ram.specs.Memories.{put}
use Rattle.region_split.specs.Regions.{is_nonvolatile, keeps_words}
use Rattle.task_ast.specs.declared.tree.Kind.{Kind}
use Rattle.task_ast.specs.declared.tree.Kind.TheVariants.{Nv, Const, Vol}
use Rattle.task_ast.specs.declared.core_form.Array.{Array}
use Rattle.task_ast.specs.declared.core_form.Core.{Core}
use Rattle.task_ast.specs.declared.core_form.CoreExpr.{CoreExpr}
use Rattle.task_ast.specs.declared.core_form.CoreStmt.{CoreStmt}
use Rattle.task_ast.specs.WellFormed.{IsWellFormed}
use Rattle.walk_run.specs.declared.place.Place.{Place}
use Rattle.walk_run.specs.declared.trap.Trap.{Trap}
use Rattle.walk_run.specs.Plain.{Ran, chosen, done, plain_done, trapped}
use Rattle.walk_run.specs.PlainWrites.{Write, plain_writes, points, sets}
use Rattle.walk_run.specs.Store.{first_if_shown, word_at, words_of}
use Rattle.walk_run.specs.Value.{value_of}
use Rattle.word_isa.specs.declared.parts.Scheme.{Scheme}
use Rattle.word_isa.specs.declared.parts.Scheme.TheVariants.{Undo, Bank}
use Rattle.word_machine.specs.State.{Program}
use Rattle.line_code.specs.declared.areas.Free.{Free}
use Rattle.line_code.specs.Areas.{area_at, area_of, areas_from, free_at_first, free_of}
use Rattle.line_laws.specs.Relation.{base_at}
use Rattle.layout_laws.specs.Layouts.{layout_of}
use Rattle.run_plan.specs.declared.act.Act.TheVariants as act
use Rattle.run_plan.specs.Cells.{CellWrite, State, after_write, aside_at, puts_aside, puts_home, puts_lock, with_words}
use Rattle.run_plan.specs.Deeds.{begin_writes, plain_ends}
use Rattle.run_plan.specs.Small.{Doing, core_of, does, first_way, lock_holds, same, second_way, showing, silent, silently, unless_fails}
use Rattle.run_plan.specs.Words.{first_places, home_places, home_writes, kind_at, kind_or_volatile, restore_writes, save_writes}
use Rattle.cell_laws.specs.Standing.{IsHome, address_in, beside, worked}
use Rattle.act_refines.specs.Between.{MemoryStands}
use Rattle.act_refines.specs.Does.{AreHomes, IsGoodWrite, Nothing, StatementFits}
use Rattle.act_refines.proofs.Places.{AllHomes, homes_all}
use Rattle.act_refines.proofs.Simple.{WritesKeep}
use Rattle.act_refines.proofs.Statements.{FramKeeps}
use Rattle.code_cuts.specs.Acts.{CutsAct}
use Rattle.code_cuts.proofs.Cutting.{Cuts, Whole, cells_alone, ones_cut}
use Rattle.code_cuts.proofs.Fitting.{AllFit}
use Rattle.code_cuts.proofs.Splitting.{AllShowOne}

-- writes without events show one thing each
pub silent_ones : (writes : List CellWrite) → AllShowOne (map silent writes)
silent_ones [] = tt
silent_ones (w ∷ writes) = (tt, silent_ones writes)

-- ---- words in a row

module _ (keep : WritesKeep) (p : Program) (d : Doing) (now : ℕ) (counts : ℕ → ℕ) (well : IsWellFormed (core_of d)) where
  abbrev c : Core
  c = core_of d

  save_fit : (places : List Place) (m : ℕ → ℕ) (s : State) (word : Place → ℕ) → AllHomes c places → ((at : Place) → word at ≡ word_at s.store at) → MemoryStands p d false m counts s → AllFit d now m (map silent (map (λ at. puts_aside at (word at)) places)) s
  save_fit [] m s word homes same h = tt
  save_fit (at ∷ places) m s word homes same h =
      let home : IsHome c at = homes.0 in
      let counts_is = eqb-true _ 14 home.nonvolatile in
      let fits : word at < 2 ^ 32 = subst (λ w. w < 2 ^ 32) (sym (same at)) (h.tidy.homes.fits at (record { counts = counts_is; inside = home.inside })) in
      let inside : at.index < length (words_of (with_words s.aside s.store) at.array) = subst (λ n. at.index < n) (sym (h.tidy.aside.rooms at.array counts_is)) home.inside in
      let next : MemoryStands p d false (put m (address_in c (beside d.scheme s.bank) at) (word at)) counts (after_write c.arrays (puts_aside at (word at)) s) = keep p d false m counts s (puts_aside at (word at)) well h (home, inside) fits in
      (tt, ((home, inside), fits, tt), save_fit places (put m (address_in c (beside d.scheme s.bank) at) (word at)) (after_write c.arrays (puts_aside at (word at)) s) word homes.1 same next)

  restore_fit : (places : List Place) (m : ℕ → ℕ) (s : State) (word : Place → ℕ) → AllHomes c places → ((at : Place) → word at ≡ aside_at s at) → MemoryStands p d false m counts s → AllFit d now m (map silent (map (λ at. puts_home at (word at)) places)) s
  restore_fit [] m s word homes same h = tt
  restore_fit (at ∷ places) m s word homes same h =
      let home : IsHome c at = homes.0 in
      let counts_is = eqb-true _ 14 home.nonvolatile in
      let fits : word at < 2 ^ 32 = subst (λ w. w < 2 ^ 32) (sym (same at)) (h.tidy.aside.fits at (record { counts = counts_is; inside = home.inside })) in
      let inside : at.index < length (words_of s.store at.array) = subst (λ n. at.index < n) (sym (h.tidy.homes.rooms at.array counts_is)) home.inside in
      let next : MemoryStands p d false (put m (address_in c (worked d.scheme s.bank) at) (word at)) counts (after_write c.arrays (puts_home at (word at)) s) = keep p d false m counts s (puts_home at (word at)) well h (home, inside) fits in
      (tt, ((home, inside), fits, tt), restore_fit places (put m (address_in c (worked d.scheme s.bank) at) (word at)) (after_write c.arrays (puts_home at (word at)) s) word homes.1 same next)

-- ---- the places of all homes

home_here : (f : Free) (kind : Kind) (n : ℕ) → is_nonvolatile kind ≡ true → (area_of f kind n).base ≡ 14
home_here f Nv n is = refl
home_here f Const n is = absurd (cc is)
home_here f Vol n is = absurd (cc is)

kept_home : (f : Free) (arrays : List Array) (n : ℕ) → keeps_words (slice_get arrays n) ≡ true → (area_at (areas_from f arrays) n).base ≡ 14
kept_home f [] zero is = absurd (cc is)
kept_home f [] (suc n) is = absurd (cc is)
kept_home f (x ∷ arrays) zero is = home_here f x.kind (length x.first) is
kept_home f (x ∷ arrays) (suc n) is = kept_home (free_of f x.kind (length x.first)) arrays n is

kept_homes : (c : Core) (xs : List ℕ) → AreHomes c (filter (λ a. keeps_words (slice_get c.arrays a)) xs)
kept_homes c [] = tt
kept_homes c (x ∷ xs) = by_test (keeps_words (slice_get c.arrays x)) refl (kept_homes c xs)
  where
    by_test : (b : Bool) → keeps_words (slice_get c.arrays x) ≡ b → AreHomes c (filter (λ a. keeps_words (slice_get c.arrays a)) xs)
        → AreHomes c (cond b (x ∷ filter (λ a. keeps_words (slice_get c.arrays a)) xs) (filter (λ a. keeps_words (slice_get c.arrays a)) xs))
    by_test true is rest = (ap (λ n. n == 14) (kept_home free_at_first c.arrays x is), rest)
    by_test false is rest = rest

-- a beginning brings none level, or all
begin_fit : WritesKeep → (scheme : Scheme) (p : Program) (d : Doing) (now : ℕ) (m counts : ℕ → ℕ) (s : State) → IsWellFormed (core_of d) → MemoryStands p d false m counts s → AllFit d now m (map silent (begin_writes scheme (core_of d) s)) s
begin_fit keep Undo p d now m counts s well h = tt
begin_fit keep Bank p d now m counts s well h =
    let c : Core = core_of d in
    restore_fit keep p d now counts well (home_places c) m s (aside_at s) (homes_all c (filter (λ a. keeps_words (slice_get c.arrays a)) (range_with_len 0 (length c.arrays))) (kept_homes c (range_with_len 0 (length c.arrays)))) (λ at. refl) h

-- ---- the writes of a statement

nv_here : (f : Free) (k : Kind) (n : ℕ) → k ≡ Nv → (area_of f k n).base ≡ 14
nv_here f Nv n is = refl
nv_here f Const n is = absurd (cc is)
nv_here f Vol n is = absurd (cc is)

pub nv_base : (f : Free) (arrays : List Array) (n : ℕ) → kind_or_volatile (slice_get arrays n) ≡ Nv → (area_at (areas_from f arrays) n).base ≡ 14
nv_base f [] zero is = absurd (cc is)
nv_base f [] (suc n) is = absurd (cc is)
nv_base f (x ∷ arrays) zero is = nv_here f x.kind (length x.first) is
nv_base f (x ∷ arrays) (suc n) is = nv_base (free_of f x.kind (length x.first)) arrays n is

pub writes_fit : WritesKeep → (p : Program) (d : Doing) (now : ℕ) (counts : ℕ → ℕ) → IsWellFormed (core_of d) → (writes : List Write) (m : ℕ → ℕ) (s : State) → AllByRecursion (IsGoodWrite (core_of d)) writes → MemoryStands p d false m counts s
    → AllFit d now m (map silent (home_writes (core_of d) writes)) s
writes_fit keep p d now counts well [] m s good h = tt
writes_fit keep p d now counts well (points q at ∷ writes) m s good h = writes_fit keep p d now counts well writes m s good.1 h
writes_fit keep p d now counts well (sets at w ∷ writes) m s good h =
    by_kind (kind_at (core_of d) at) refl (writes_fit keep p d now counts well writes m s good.1 h)
    (λ next. writes_fit keep p d now counts well writes (put m (address_in (core_of d) (worked d.scheme s.bank) at) w) (after_write (core_of d).arrays (puts_home at w) s) good.1 next)
  where
    by_kind : (k : Kind) → kind_at (core_of d) at ≡ k → AllFit d now m (map silent (home_writes (core_of d) writes)) s
        → (MemoryStands p d false (put m (address_in (core_of d) (worked d.scheme s.bank) at) w) counts (after_write (core_of d).arrays (puts_home at w) s)
        → AllFit d now (put m (address_in (core_of d) (worked d.scheme s.bank) at) w) (map silent (home_writes (core_of d) writes)) (after_write (core_of d).arrays (puts_home at w) s))
        → AllFit d now m (map silent (first_if_shown k (puts_home at w) (home_writes (core_of d) writes))) s
    by_kind Nv is rest next =
        let base : base_at (layout_of (core_of d) 0) at.array ≡ 14 = nv_base free_at_first (core_of d).arrays at.array is in
        let home : IsHome (core_of d) at = record { nonvolatile = ap (λ n. n == 14) base; inside = good.0.0.inside } in
        let inside : at.index < length (words_of s.store at.array) = subst (λ n. at.index < n) (sym (h.tidy.homes.rooms at.array base)) home.inside in
        (tt, ((home, inside), good.0.1, tt), next (keep p d false m counts s (puts_home at w) well h (home, inside) good.0.1))
    by_kind Const is rest next = rest
    by_kind Vol is rest next = rest

-- ---- the acts

module _ (keep : WritesKeep) (fram : FramKeeps) (p : Program) (place_of : ℕ → journal.Place) (d : Doing) (number : ℕ) (keeps : Bool) where
  pub lock_cuts : (r : ℕ) → r ≤ 128 → CutsAct p place_of d number keeps (act.Lock r) Nothing
  lock_cuts r low next m s well has related runs follows asks =
      (ones_cut keep fram p place_of d true m s well related runs follows (silent (puts_lock r s.epoch) ∷ []) (tt, (low, tt, tt), tt) (tt, tt), record { epoch = refl; task = refl; bank = refl; looks = refl; cells = refl })

  pub save_cuts : (r : ℕ) → AreHomes (core_of d) (slice_index_or d.firsts r []) → CutsAct p place_of d number keeps (act.Save r) Nothing
  save_cuts r homes next m s well has related runs follows asks = by_lock (lock_holds s r)
    where
      by_lock : (b : Bool) → Cuts p place_of d m s (silently (save_writes s (cond b [] (first_places d r))))
      by_lock true = (ones_cut keep fram p place_of d true m s well related runs follows [] tt tt, record { epoch = refl; task = refl; bank = refl; looks = refl; cells = refl })
      by_lock false =
          let writes : List CellWrite = save_writes s (first_places d r) in (
            ones_cut keep fram p place_of d true m s well related runs follows (map silent writes)
                (save_fit keep p d m.clock m.issued well (first_places d r) m.store s (word_at s.store) (homes_all (core_of d) (slice_index_or d.firsts r []) homes) (λ at. refl) (cells_alone p d true m.store m.issued s related.memory)) (silent_ones writes),
            record { epoch = refl; task = refl; bank = refl; looks = refl; cells = refl },
          )

  pub restore_cuts : (r : ℕ) → AreHomes (core_of d) (slice_index_or d.firsts r []) → CutsAct p place_of d number keeps (act.Restore r) Nothing
  restore_cuts r homes next m s well has related runs follows asks = by_lock (lock_holds s r)
    where
      by_lock : (b : Bool) → Cuts p place_of d m s (silently (restore_writes s (cond b (first_places d r) [])))
      by_lock false = (ones_cut keep fram p place_of d false m s well related runs follows [] tt tt, record { epoch = refl; task = refl; bank = refl; looks = refl; cells = refl })
      by_lock true =
          let writes : List CellWrite = restore_writes s (first_places d r) in (
            ones_cut keep fram p place_of d false m s well related runs follows (map silent writes)
                (restore_fit keep p d m.clock m.issued well (first_places d r) m.store s (aside_at s) (homes_all (core_of d) (slice_index_or d.firsts r []) homes) (λ at. refl) related.memory) (silent_ones writes),
            record { epoch = refl; task = refl; bank = refl; looks = refl; cells = refl },
          )

  pub begin_cuts : (task : ℕ) → CutsAct p place_of d number keeps (act.Begin task) Nothing
  begin_cuts task next m s well has related runs follows asks =
      let writes : List CellWrite = begin_writes d.scheme (core_of d) s in (
        ones_cut keep fram p place_of d false m s well related runs follows (showing (journal.begins task) ∷ map silent writes) (tt, tt, begin_fit keep d.scheme p d m.clock m.store m.issued s well related.memory) (tt, silent_ones writes),
        record { epoch = refl; task = refl; bank = refl; looks = refl; cells = refl },
      )

  pub plain_cuts : (x : CoreStmt) → CutsAct p place_of d number keeps (act.Plain x) (StatementFits d x)
  plain_cuts x next m s well has related runs follows fits =
      let writes : List CellWrite = home_writes (core_of d) (plain_writes x s.store) in
      by_end (plain_done x s.store) (ones_cut keep fram p place_of d true m s well related runs follows (map silent writes)
      (writes_fit keep p d m.clock m.issued well (plain_writes x s.store) m.store s fits.well (cells_alone p d true m.store m.issued s related.memory)) (silent_ones writes))
    where
      by_end : (ran : Ran) → Whole p place_of d m s (map silent (home_writes (core_of d) (plain_writes x s.store)))
          → Cuts p place_of d m s (plain_ends (core_of d) (map silent (home_writes (core_of d) (plain_writes x s.store))) ran)
      by_end (done store) whole = (whole, record { epoch = refl; task = refl; bank = refl; looks = refl; cells = refl })
      by_end (trapped why store) whole = whole

  pub test_cuts : (e : CoreExpr) (i : _) (yes_row : _) (j : _) (no_row : _) → CutsAct p place_of d number keeps (act.Test' e i yes_row j no_row) Nothing
  test_cuts e i yes_row j no_row next m s well has related runs follows asks = by_value (value_of e s.store) (ones_cut keep fram p place_of d true m s well related runs follows [] tt tt)
    where
      by_value : (r : Result ℕ Trap) → Whole p place_of d m s []
          → Cuts p place_of d m s (unless_fails r (λ word. does [] same (chosen word first_way second_way)))
      by_value (Ok word) whole = (whole, record { epoch = refl; task = refl; bank = refl; looks = refl; cells = refl })
      by_value (Err why) whole = whole
