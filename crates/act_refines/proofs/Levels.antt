-- An attempt begins, under `bank`: each home of the working bank is brought level with the committed bank.
use Rattle.std.specs.Prelude.{◌==◌, cond, filter, map, slice_get, sum_by}
use Rattle.std.specs.List.{range_with_len}
use Rattle.std.proofs.Common.{◌≡◌, ◌∙◌, ℕ, zero, suc, ◌+◌, ◌*◌, ◌<◌, ◌≤◌, Bool, true, false, List, [], ◌∷◌, ◌++◌, length, refl, sym, ap, subst, arith}
use Rattle.std.proofs.lemmas.List.Sums.{sum_by-cons}
use Rattle.devices.specs.Journal as journal
use Rattle.devices.specs.declared.event.Event.TheVariants as the
use Rattle.fram_ram.specs.Memories.{put}
use Rattle.task_ast.specs.declared.tree.Kind.{Kind}
use Rattle.task_ast.specs.declared.tree.Kind.TheVariants.{Nv, Const, Vol}
use Rattle.task_ast.specs.declared.core_form.Array.{Array}
use Rattle.task_ast.specs.declared.core_form.Core.{Core}
use Rattle.task_ast.specs.WellFormed.{IsWellFormed, fram_size}
use Rattle.region_split.specs.Regions.{is_nonvolatile, keeps_words}
use Rattle.walk_run.specs.declared.place.Place.{Place}
use Rattle.walk_run.specs.Store.{Store, fresh}
use Rattle.word_isa.specs.declared.parts.Scheme.{Scheme}
use Rattle.word_isa.specs.declared.parts.Scheme.TheVariants.{Undo, Bank}
use Rattle.word_machine.specs.State.{Program}
use Rattle.word_machine.specs.Straight.{Spot}
use Rattle.word_machine.specs.Traces as trace
use Rattle.line_code.specs.declared.areas.Free.{Free}
use Rattle.line_code.specs.declared.areas.Placed.{Placed}
use Rattle.line_code.specs.Areas.{area_at, area_of, areas_from, free_at_first, free_of}
use Rattle.run_plan.specs.declared.act.Act.TheVariants as act
use Rattle.run_plan.specs.Cells.{Frame, State, aside_at, puts_home}
use Rattle.run_plan.specs.Deeds.{begin_writes, begun_state}
use Rattle.run_plan.specs.Small.{Atom, Doing, ahead, core_of, does, showing, silent}
use Rattle.run_plan.specs.Weights.{begin_words, level_words}
use Rattle.run_plan.specs.Words.{home_places, restore_writes}
use Rattle.word_code.specs.Beginnings.{home_count, home_words, level_count, volatile_count}
use Rattle.word_code.specs.Frames as code
use Rattle.act_laws.specs.Blocks.{Copy, array_copies, copies, home_items, homes, list_atoms, list_code, list_makes, word_copies}
use Rattle.act_laws.specs.Codes.{Fixed, HasFixed}
use Rattle.act_laws.specs.Templates.{BeginDoes}
use Rattle.cell_laws.specs.Standing.{beside, worked}
use Rattle.cell_laws.proofs.Puts.{miss}
use Rattle.cell_laws.proofs.Writes.{beside_low, worked_low}
use Rattle.ram_laws.specs.Ram.{HasRam}
use Rattle.act_refines.specs.Between.{committed_at, fixed_in}
use Rattle.act_refines.specs.Does.{AreHomes, DoesAct, Ends, Nothing, frame_of}
use Rattle.act_refines.specs.Seen.{Seen, behind, tells, trace_seen}
use Rattle.act_refines.proofs.Begins.{begun_frame, begun_memory_of, begun_ram, few_pointers, fram_there, with_arrays}
use Rattle.act_refines.proofs.Going.{goes_on, related_at}
use Rattle.act_refines.proofs.Places.{arrays_are, copies_of, homes_all}
use Rattle.act_refines.proofs.Regions.{Moved, restore_goes}
use Rattle.act_refines.proofs.Simple.{WritesKeep}
use Rattle.act_refines.proofs.Starts.{arrays_good, arrays_long, count_is, pointers_long, where_is}
use Rattle.act_refines.proofs.Statements.{FramKeeps}

-- ---- homes are copied as words are

-- so many homes from one on, from one bank to another
abbrev bank_copies : (from to i n : ℕ) → List Copy
bank_copies from to i zero = []
bank_copies from to i (suc n) = record { from = from + (1 + i); to = to + (1 + i) } ∷ bank_copies from to (i + 1) n

items_make : (c w i n : ℕ) (hc : c ≤ 2048) (hw : w ≤ 2048) (few : i + n ≤ 2048) (m : ℕ → ℕ) → list_makes (homes c w) (home_items c w i n hc hw few) m ≡ list_makes copies (bank_copies c w i n) m
items_make c w i zero hc hw few m = refl
items_make c w i (suc n) hc hw few m = items_make c w (i + 1) n hc hw (omega (arith, few)) (put m (w + (1 + i)) (m (c + (1 + i))))

items_show : (c w i n : ℕ) (hc : c ≤ 2048) (hw : w ≤ 2048) (few : i + n ≤ 2048) (m : ℕ → ℕ) → list_atoms (homes c w) (home_items c w i n hc hw few) m ≡ list_atoms copies (bank_copies c w i n) m
items_show c w i zero hc hw few m = refl
items_show c w i (suc n) hc hw few m =
    ap (λ (atoms : List trace.Atom). trace.wrote (w + (1 + i)) (m (c + (1 + i))) ∷ atoms) (items_show c w (i + 1) n hc hw (omega (arith, few)) (put m (w + (1 + i)) (m (c + (1 + i)))))

items_long : (c w i n : ℕ) (hc : c ≤ 2048) (hw : w ≤ 2048) (few : i + n ≤ 2048) → length (list_code (homes c w) (home_items c w i n hc hw few)) ≡ 2 * n
items_long c w i zero hc hw few = refl
items_long c w i (suc n) hc hw few = let rest = items_long c w (i + 1) n hc hw (omega (arith, few)) in omega (arith, rest)

-- behind all of them nothing changes
levels_stay : (c w i n : ℕ) (m : ℕ → ℕ) (a : ℕ) → w + i + n < a → list_makes copies (bank_copies c w i n) m a ≡ m a
levels_stay c w i zero m a far = refl
levels_stay c w i (suc n) m a far =
    levels_stay c w (i + 1) n (put m (w + (1 + i)) (m (c + (1 + i)))) a (omega (arith, far)) ∙ miss m (w + (1 + i)) (m (c + (1 + i))) a (λ e. absurd (omega (arith, far, e)))

-- ---- they are the plan's places, in their order

words_level : (c w x y i v n more : ℕ) (rest : List Copy) → x + i ≡ c + (1 + v) → y + i ≡ w + (1 + v) → rest ≡ bank_copies c w (v + n) more → word_copies x y i n ++ rest ≡ bank_copies c w v (n + more)
words_level c w x y i v zero more rest from to same =
    let at : v + 0 ≡ v = omega arith in
    let all : more ≡ 0 + more = omega arith in
    same ∙ (λ k. bank_copies c w (at k) (all k))
words_level c w x y i v (suc n) more rest from to same =
    let next : v + suc n ≡ v + 1 + n = omega arith in
    let all : suc (n + more) ≡ suc n + more = omega arith in
    let later : word_copies x y (i + 1) n ++ rest ≡ bank_copies c w (v + 1) (n + more) = words_level c w x y (i + 1) (v + 1) n more rest (omega (arith, from)) (omega (arith, to)) (same ∙ ap (λ k. bank_copies c w k more) next) in
    let both : record { from = x + i; to = y + i } ∷ (word_copies x y (i + 1) n ++ rest) ≡ bank_copies c w v (suc (n + more)) = (λ k. record { from = from k; to = to k } ∷ later k) in
    both ∙ ap (bank_copies c w v) all

-- an array in front of the others
array_level : (areas : List Placed) (from to : ℕ) (f : Free) (kind : Kind) (first : List ℕ) (k v more : ℕ) (rest : List ℕ) → f.nv ≡ 1 + v → area_at areas k ≡ area_of f kind (length first)
    → array_copies areas from to rest ≡ bank_copies from to (v + length (home_words kind first)) more
    → array_copies areas from to (cond (is_nonvolatile kind) (k ∷ rest) rest) ≡ bank_copies from to v (length (home_words kind first) + more)
array_level areas from to f Nv first k v more rest next lies same =
    ap (λ (a : Placed). word_copies (a.offset + from) (a.offset + to) 0 a.room ++ array_copies areas from to rest) lies
    ∙ words_level from to (f.nv + from) (f.nv + to) 0 v (length first) more (array_copies areas from to rest) (omega (arith, next)) (omega (arith, next)) same
array_level areas from to f Const first k v more rest next lies same =
    let at : v + 0 ≡ v = omega arith in
    let all : more ≡ 0 + more = omega arith in
    same ∙ (λ i. bank_copies from to (at i) (all i))
array_level areas from to f Vol first k v more rest next lies same =
    let at : v + 0 ≡ v = omega arith in
    let all : more ≡ 0 + more = omega arith in
    same ∙ (λ i. bank_copies from to (at i) (all i))

free_home : (f : Free) (kind : Kind) (first : List ℕ) (v : ℕ) → f.nv ≡ 1 + v → (free_of f kind (length first)).nv ≡ 1 + (v + length (home_words kind first))
free_home f Nv first v is = omega (arith, is)
free_home f Const first v is = omega (arith, is)
free_home f Vol first v is = omega (arith, is)

abbrev kept_of : Core → List ℕ → List ℕ
kept_of c xs = filter (λ a. keeps_words (slice_get c.arrays a)) xs

levels_are : (c : Core) (from to : ℕ) (f : Free) (arrays : List Array) (k v : ℕ) → f.nv ≡ 1 + v → ((j : ℕ) → slice_get c.arrays (k + j) ≡ slice_get arrays j)
    → ((j : ℕ) → area_at (areas_from free_at_first c.arrays) (k + j) ≡ area_at (areas_from f arrays) j)
    → array_copies (areas_from free_at_first c.arrays) from to (kept_of c (range_with_len k (length arrays))) ≡ bank_copies from to v (home_count arrays)
levels_are c from to f [] k v next there lies = refl
levels_are c from to f (x ∷ arrays) k v next there lies =
    let areas : List Placed = areas_from free_at_first c.arrays in
    let rest : List ℕ = kept_of c (range_with_len (k + 1) (length arrays)) in
    let first : k ≡ k + 0 = omega arith in
    let behind_it : (j : ℕ) → k + 1 + j ≡ k + suc j = λ j. omega arith in
    let later : array_copies areas from to rest ≡ bank_copies from to (v + length (home_words x.kind x.first)) (home_count arrays) =
    levels_are c from to (free_of f x.kind (length x.first)) arrays (k + 1) (v + length (home_words x.kind x.first)) (free_home f x.kind x.first v next)
    (λ j. ap (slice_get c.arrays) (behind_it j) ∙ there (suc j)) (λ j. ap (area_at areas) (behind_it j) ∙ lies (suc j)) in
    ap (λ o. array_copies areas from to (cond (keeps_words o) (k ∷ rest) rest)) (ap (slice_get c.arrays) first ∙ there 0)
    ∙ array_level areas from to f x.kind x.first k v (home_count arrays) rest next (ap (area_at areas) first ∙ lies 0) later
    ∙ ap (bank_copies from to v) (sym (sum_by-cons (λ a. length (home_words a.kind a.first)) x arrays))

-- ---- each is a home

home_here : (f : Free) (kind : Kind) (n : ℕ) → is_nonvolatile kind ≡ true → (area_of f kind n).base ≡ 14
home_here f Nv n is = refl
home_here f Const n is = absurd (cc is)
home_here f Vol n is = absurd (cc is)

kept_home : (f : Free) (arrays : List Array) (n : ℕ) → keeps_words (slice_get arrays n) ≡ true → (area_at (areas_from f arrays) n).base ≡ 14
kept_home f [] zero is = absurd (cc is)
kept_home f [] (suc n) is = absurd (cc is)
kept_home f (x ∷ arrays) zero is = home_here f x.kind (length x.first) is
kept_home f (x ∷ arrays) (suc n) is = kept_home (free_of f x.kind (length x.first)) arrays n is

kept_homes : (c : Core) (xs : List ℕ) → AreHomes c (kept_of c xs)
kept_homes c [] = tt
kept_homes c (x ∷ xs) = by_test (keeps_words (slice_get c.arrays x)) refl (kept_homes c xs)
  where
    by_test : (b : Bool) → keeps_words (slice_get c.arrays x) ≡ b → AreHomes c (kept_of c xs) → AreHomes c (cond b (x ∷ kept_of c xs) (kept_of c xs))
    by_test true is rest = (ap (λ n. n == 14) (kept_home free_at_first c.arrays x is), rest)
    by_test false is rest = rest

-- ---- how many they are

home_size : (kind : Kind) (first : List ℕ) → length (home_words kind first) ≤ fram_size kind (length first)
home_size Nv first = omega arith
home_size Const first = omega arith
home_size Vol first = omega arith

home_few : (arrays : List Array) → home_count arrays ≤ sum_by (λ a. fram_size a.kind (length a.first)) arrays
home_few [] = omega arith
home_few (x ∷ arrays) =
    omega (arith, home_size x.kind x.first, home_few arrays, sum_by-cons (λ a. length (home_words a.kind a.first)) x arrays, sum_by-cons (λ a. fram_size a.kind (length a.first)) x arrays)

abbrev home_ones : List Array → List Array
home_ones arrays = filter (λ a. is_nonvolatile a.kind) arrays

abbrev words_in : List Array → ℕ
words_in arrays = sum_by (λ a. length a.first) arrays

one_home : (k : Kind) (x : Array) (rest : List Array) → words_in (cond (is_nonvolatile k) (x ∷ rest) rest) ≡ length (home_words k x.first) + words_in rest
one_home Nv x rest = sum_by-cons (λ a. length a.first) x rest
one_home Const x rest = omega arith
one_home Vol x rest = omega arith

homes_counted : (arrays : List Array) → home_count arrays ≡ words_in (home_ones arrays)
homes_counted [] = refl
homes_counted (x ∷ arrays) =
    sum_by-cons (λ a. length (home_words a.kind a.first)) x arrays ∙ ap (λ n. length (home_words x.kind x.first) + n) (homes_counted arrays) ∙ sym (one_home x.kind x (home_ones arrays))

-- ---- under `bank`

level_is : (scheme : Scheme) (arrays : List Array) → scheme ≡ Bank → level_count scheme arrays ≡ home_count arrays
level_is Undo arrays is = absurd (cc is)
level_is Bank arrays is = refl

level_weighs : (scheme : Scheme) (c : Core) → scheme ≡ Bank → level_words scheme c ≡ words_in (home_ones c.arrays)
level_weighs Undo c is = absurd (cc is)
level_weighs Bank c is = refl

all_writes : (scheme : Scheme) (c : Core) (s : State) → scheme ≡ Bank → begin_writes scheme c s ≡ restore_writes s (home_places c)
all_writes Undo c s is = absurd (cc is)
all_writes Bank c s is = refl

committed_is : (scheme : Scheme) (bank : ℕ) → scheme ≡ Bank → committed_at scheme bank ≡ beside scheme bank
committed_is Undo bank is = absurd (cc is)
committed_is Bank bank is = refl

-- RAM stays where words before its cells are other ones
abbrev pub RamKeeps : Type 0
RamKeeps = (c : Core) (bank : ℕ) (m n : ℕ → ℕ) (store : Store) (f : Frame) → IsWellFormed c → HasRam c bank m store f → ((a : ℕ) → 1048608 ≤ a → n a ≡ m a) → HasRam c bank n store f

-- an attempt begins
pub level_does : ((p : Program) (x : Fixed) (fr : code.Frame) (task next : ℕ) (s : Spot) (hc : x.committed ≤ 2048) (hw : x.working ≤ 2048) (few : 0 + level_count fr.scheme fr.core.arrays ≤ 2048) → BeginDoes p x fr task next s hc hw few) → WritesKeep → FramKeeps → RamKeeps
    → (p : Program) (place_of : ℕ → journal.Place) (d : Doing) (number : ℕ) (keeps : Bool) (task : ℕ) → d.scheme ≡ Bank → DoesAct p place_of d number keeps (act.Begin task) Nothing
level_does template keep fram near p place_of d number keeps task bank next m s well has related asks =
    subst (λ writes. Ends p place_of d (act.Begin task) (40 + 12 * begin_words d) (λ way. next) m s (does (showing (journal.begins task) ∷ map silent writes) (begun_state (core_of d)) ahead)) (sym (all_writes d.scheme (core_of d) s bank)) began
  where
    began : Ends p place_of d (act.Begin task) (40 + 12 * begin_words d) (λ way. next) m s (does (showing (journal.begins task) ∷ map silent (restore_writes s (home_places (core_of d)))) (begun_state (core_of d)) ahead)
    began =
        let c : Core = core_of d in
        let x : Fixed = fixed_in d.scheme s in
        let n : ℕ = level_count d.scheme c.arrays in
        let committed : x.committed ≡ beside d.scheme s.bank = committed_is d.scheme s.bank bank in
        let hc : x.committed ≤ 2048 = omega (arith, committed, beside_low d.scheme s.bank) in
        let hw : x.working ≤ 2048 = worked_low d.scheme s.bank in
        let count : n ≡ home_count c.arrays = level_is d.scheme c.arrays bank in
        let few : 0 + n ≤ 2048 = omega (arith, count, home_few c.arrays, well.fram) in
        let vols : volatile_count c.arrays ≤ 2048 = omega (arith, count_is c.arrays, well.ram) in
        let acts = template p x (frame_of d number) task next m hc hw few (few_pointers c well) (arrays_good 832 c.arrays (omega (arith, vols)) well.arrays) has in
        let m' : ℕ → ℕ = with_arrays c m.store in
        let arrays : List ℕ = kept_of c (range_with_len 0 (length c.arrays)) in
        let places : List Place = home_places c in
        let cs : List Copy = copies_of c (beside d.scheme s.bank) (worked d.scheme s.bank) places in
        let zero_more : (j : ℕ) → 0 + j ≡ j = λ j. omega arith in
        let laid : bank_copies x.committed x.working 0 (home_count c.arrays) ≡ copies_of c x.committed x.working places =
        sym (levels_are c x.committed x.working free_at_first c.arrays 0 0 refl (λ j. ap (slice_get c.arrays) (zero_more j)) (λ j. ap (area_at (areas_from free_at_first c.arrays)) (zero_more j)))
        ∙ arrays_are c x.committed x.working arrays (kept_homes c (range_with_len 0 (length c.arrays))) in
        let same : bank_copies x.committed x.working 0 n ≡ cs = ap (bank_copies x.committed x.working 0) count ∙ laid ∙ ap (λ from. copies_of c from x.working places) committed in
        let atoms : List Atom = map silent (map (λ at. puts_home at (aside_at s at)) places) in
        let moved : Moved p place_of d false m' m.issued s cs atoms =
        restore_goes keep p place_of d false m.issued well places m' s (aside_at s) (homes_all c arrays (kept_homes c (range_with_len 0 (length c.arrays)))) (λ at. refl) (fram p d m.store m' m.issued s well related.memory (fram_there c well m.store)) in
        let m'' : ℕ → ℕ = list_makes copies cs m' in
        let t : State = behind c atoms s in
        let far : (a : ℕ) → 1048608 ≤ a → m'' a ≡ m' a = λ a high. ap (λ (cs : List Copy). list_makes copies cs m' a) (sym same) ∙ levels_stay x.committed x.working 0 n m' a (omega (arith, few, hw, high)) in
        let ram : HasRam c (worked d.scheme t.bank) m'' (fresh c t.store) begun_frame =
        near c (worked d.scheme t.bank) m' m'' (fresh c t.store) begun_frame well (begun_ram c well m.store (worked d.scheme t.bank) t.store moved.memory.tidy.shape.homes) far in
        let long = items_long x.committed x.working 0 n hc hw few in
        goes_on p place_of x x _ (40 + 12 * begin_words d) m _ next _ _ related.fixed acts
        (omega (arith, pointers_long 0 (length c.pointers), arrays_long 832 c.arrays, long, where_is c.arrays, count, homes_counted c.arrays, level_weighs d.scheme c bank)) refl
        (ap (λ (atoms : List trace.Atom). trace_seen place_of (trace.showed (the.Begin task) ∷ atoms)) (items_show x.committed x.working 0 n hc hw few m' ∙ ap (λ (cs : List Copy). list_atoms copies cs m') same)
        ∙ ap (λ (seen : List Seen). tells (journal.begins task) ∷ seen) moved.shown)
        (λ there fixed stored issued. related_at p d true there m'' m.issued (begun_state c t) (subst (λ x. HasFixed x there) (sym moved.fixed) fixed)
        (stored ∙ items_make x.committed x.working 0 n hc hw few m' ∙ ap (λ (cs : List Copy). list_makes copies cs m') same) issued (begun_memory_of p d m'' m.issued t well moved.memory ram))
