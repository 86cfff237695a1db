-- The places that acts write, and their words.
use Rattle.std.specs.Prelude.{ℕ, zero, suc, ◌+◌, ◌-◌, List, [], ◌∷◌, length, map, filter, flat_map, take, sum_by, slice_index_or, slice_get, Option, Some, None}
use Rattle.std.specs.List.{range_with_len}
use Rattle.task_ast.specs.declared.tree.Kind.{Kind}
use Rattle.task_ast.specs.declared.tree.Kind.TheVariants.{Vol}
use Rattle.task_ast.specs.declared.core_form.Array.{Array}
use Rattle.task_ast.specs.declared.core_form.Core.{Core}
use Rattle.task_ast.specs.CoreSites.{room}
use Rattle.task_ast.specs.WellFormed.{site_words}
use Rattle.walk_run.specs.declared.place.Place.{Place}
use Rattle.walk_run.specs.Store.{Store, place, word_at, put_word, first_if_shown}
use Rattle.walk_run.specs.PlainWrites.{Write, sets, points}
use Rattle.region_split.specs.Regions.{keeps_words}
use Rattle.run_plan.specs.Cells.{State, CellWrite, puts_home, puts_aside, puts_kept, aside_at}
use Rattle.run_plan.specs.Small.{Doing, core_of}

-- so many places from one on
abbrev pub places_from : (array index n : ℕ) → List Place
places_from array index zero = []
places_from array index (suc n) = place array index ∷ places_from array (index + 1) n

-- all places of these arrays
abbrev pub places_of : Core → List ℕ → List Place
places_of c arrays = flat_map (λ a. places_from a 0 (room (slice_get c.arrays a))) arrays

-- the places that a region may write first
abbrev pub first_places : Doing → (region : ℕ) → List Place
first_places d r = places_of (core_of d) (slice_index_or d.firsts r [])

-- the places of all nonvolatile arrays
abbrev pub home_places : Core → List Place
home_places c = places_of c (filter (λ a. keeps_words (slice_get c.arrays a)) (range_with_len 0 (length c.arrays)))

-- words go from the homes aside
abbrev pub save_writes : State → List Place → List CellWrite
save_writes s places = map (λ at. puts_aside at (word_at s.store at)) places

-- words go from aside to the homes
abbrev pub restore_writes : State → List Place → List CellWrite
restore_writes s places = map (λ at. puts_home at (aside_at s at)) places

-- the kind of the array that a place is in
abbrev pub kind_or_volatile : Option Array → Kind
kind_or_volatile None = Vol
kind_or_volatile (Some a) = a.kind

abbrev pub kind_at : Core → Place → Kind
kind_at c at = kind_or_volatile (slice_get c.arrays at.array)

-- the writes of homes among writes of a store
abbrev pub home_writes : Core → List Write → List CellWrite
home_writes c [] = []
home_writes c (sets at word ∷ writes) = first_if_shown (kind_at c at) (puts_home at word) (home_writes c writes)
home_writes c (points p at ∷ writes) = home_writes c writes

-- the writes of words moved one by one, lowest place first
abbrev pub move_writes : (n : ℕ) → (to from : Place) → Store → List Write
move_writes zero to from store = []
move_writes (suc n) to from store =
    let word = word_at store from in
    sets to word ∷ move_writes n (place to.array (to.index + 1)) (place from.array (from.index + 1)) (put_word to word store)

-- the writes of words put to a place and behind it
abbrev pub put_writes : Place → List ℕ → List Write
put_writes at [] = []
put_writes at (word ∷ words) = sets at word ∷ put_writes (place at.array (at.index + 1)) words

-- the writes of words into the kept words, from one on
abbrev pub keep_writes : (at : ℕ) → List ℕ → List CellWrite
keep_writes at [] = []
keep_writes at (word ∷ words) = puts_kept at word ∷ keep_writes (at + 1) words

-- so many kept words, from one on
abbrev pub kept_words : (ℕ → ℕ) → (at n : ℕ) → List ℕ
kept_words kept at n = map kept (range_with_len at n)

-- where a copy's kept words begin: behind those of the task's earlier sites
abbrev pub kept_at : Doing → (site : ℕ) → ℕ
kept_at d k = sum_by site_words (take (k - 1) d.setting.task.sites)

-- the words of a record go to its destination
abbrev pub recorded_words : Doing → (site : ℕ) → State → List ℕ
recorded_words d k s = kept_words s.cells.kept (kept_at d k) (s.cells.length k)
