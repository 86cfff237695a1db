-- A copy in an attempt (docs/ATTEMPTS.md, "Copies").
use Rattle.std.specs.Prelude.{ℕ, ◌+◌, List, [], ◌∷◌, take, drop, length, Option, Some, None, slice_get}
use Rattle.task_ast.specs.declared.core_form.Array.{Array}
use Rattle.task_ast.specs.declared.core_form.CoreExpr.{CoreExpr}
use Rattle.task_ast.specs.declared.core_form.CoreEnd.{CoreEnd}
use Rattle.walk_run.specs.declared.place.Place.{Place}
use Rattle.walk_run.specs.Store.{Store, place, words_of, put_word}
use Rattle.walk_run.specs.Walk.{move_words}
use Rattle.region_split.specs.declared.class.Memory.{Memory}
use Rattle.region_split.specs.declared.class.Memory.TheVariants.{Ram}
use Rattle.region_split.specs.declared.class.DmaClass.{DmaClass}
use Rattle.region_split.specs.declared.class.DmaClass.TheVariants as class
use Rattle.region_split.specs.Class.{class_of, memory_of}
use Rattle.region_split.specs.Regions.{region_of}
use Rattle.devices.specs.Journal as journal
use Rattle.devices.specs.Journal.{JournalEvent, cell, keep, keeps, copies}
use Rattle.task_attempts.specs.State.{Setting, Valued, range, Record, of_reading, of_block, of_copy, Rest}
use Rattle.task_attempts.specs.Changes.{with_store, spent, spent_by, with_region}
use Rattle.task_attempts.specs.Costs.{copy_steps, moving_steps}
use Rattle.task_attempts.specs.Told.{told, told_following, seal}
use Rattle.task_attempts.specs.Values.{value, copy_end, tested}

-- so many words from a place on
abbrev pub words_at : Store → Place → (n : ℕ) → List ℕ
words_at store at n = take n (drop at.index (words_of store at.array))

-- words are put to a place and behind it
abbrev pub put_words : Place → List ℕ → Store → Store
put_words at [] store = store
put_words at (word ∷ words) store = put_words (place at.array (at.index + 1)) words (put_word at word store)

-- a place as an event shows it
abbrev pub shown : Place → journal.Place
shown at = cell at.array at.index

-- the memory of an array that is there
abbrev pub memory_or_ram : Option Array → Memory
memory_or_ram None = Ram
memory_or_ram (Some a) = memory_of a.kind

-- the memory in which the words of a place stand
abbrev pub memory_at : Setting → Place → Memory
memory_at setting at = memory_or_ram (slice_get setting.rules.core.arrays at.array)

-- the class of a copy by its two ends as they are valued
abbrev pub class_at : Setting → (to from : Place) → DmaClass
class_at setting to from = class_of (memory_at setting from) (memory_at setting to)

-- what a copy is valued at: its ends, and the words that stand at the destination once they are moved
abbrev pub copy_valued : Store → (to from : Place) → (n : ℕ) → Valued
copy_valued store to from n = range to from (words_at (move_words n to from store) to n)

-- words go from the source to the destination, which may overlap
abbrev pub moved : (site : ℕ) → (to from : Place) → (n : ℕ) → Rest → Rest
moved k to from n go here = told (copies k (shown from) (shown to) n) go (with_store (move_words n to from here.store) here)

-- words go from those that are kept to the destination
abbrev pub brought : (site : ℕ) → (to : Place) → List ℕ → Rest → Rest
brought k to words go here = told (copies k keep (shown to) (length words)) go (with_store (put_words to words here.store) here)

-- the words that now stand at the destination are kept
abbrev pub single_sealed : (site : ℕ) → (to from : Place) → (n : ℕ) → Rest → Rest
single_sealed k to from n go here = seal k (of_copy class.Single to from (words_at here.store to n)) go here

-- a copy of class Single is done and then sealed
abbrev pub single_copy : (site : ℕ) → (to from : Place) → (n : ℕ) → Rest → Rest
single_copy k to from n go = moved k to from n (single_sealed k to from n go)

-- one of class Private: the source's words are kept, and then go to the destination
abbrev pub private_copy : (site : ℕ) → (to from : Place) → (n : ℕ) → Rest → Rest
private_copy k to from n go here =
    let words = words_at here.store from n in
    told (copies k (shown from) keep n) (seal k (of_copy class.Private to from words) (brought k to words go)) here

-- a copy without a record, by its class
abbrev pub copy_by_class : DmaClass → (site : ℕ) → (to from : Place) → (n : ℕ) → Rest → Rest
copy_by_class class.Single k to from n go = single_copy k to from n go
copy_by_class class.Private k to from n go = private_copy k to from n go
copy_by_class class.Exclude k to from n go = moved k to from n go
copy_by_class class.Always k to from n go = moved k to from n go

-- the event of a copy that follows its record; Exclude and Always leave none
abbrev pub again : DmaClass → (site : ℕ) → (to : Place) → (words : ℕ) → JournalEvent
again class.Single k to n = keeps k n
again class.Private k to n = copies k keep (shown to) n
again class.Exclude k to n = copies k keep (shown to) n
again class.Always k to n = copies k keep (shown to) n

-- a copy that follows its record: the kept words go to the recorded place
abbrev pub copy_again : DmaClass → (site : ℕ) → (to from : Place) → (words : List ℕ) → Valued → Rest → Rest
copy_again c k to from words valued go here =
    told_following (record { made_with = range to from words; valued = valued }) (again c k to (length words)) go
    (with_store (put_words to words here.store) here)

-- a copy of n words without a record
abbrev pub copy_anew : Setting → (site : ℕ) → (to from : Place) → (n : ℕ) → Rest → Rest
copy_anew setting k to from n go here = copy_by_class (class_at setting to from) k to from n go (spent (moving_steps n) here)

-- what a copy does with its record, or with none
abbrev pub copy_by_record : Setting → (site : ℕ) → (to from : Place) → (n : ℕ) → Rest → Option Record → Rest
copy_by_record setting k to from n go (Some (of_copy c to_then from_then words)) here =
    copy_again c k to_then from_then words (copy_valued here.store to from n) go (spent (moving_steps (length words)) here)
copy_by_record setting k to from n go (Some (of_reading value stamp args)) here = copy_anew setting k to from n go here
copy_by_record setting k to from n go (Some (of_block stamp)) here = copy_anew setting k to from n go here
copy_by_record setting k to from n go None here = copy_anew setting k to from n go here

-- destination, source and length are valued in this order, and both ranges tested; then it goes by its record
abbrev pub copy_log : Setting → (site : ℕ) → (to from : CoreEnd) → CoreExpr → Rest → Rest
copy_log setting k to from words go here =
    copy_end to (λ t. copy_end from (λ f. value words (λ n. tested t n (tested f n (λ inside.
    copy_by_record setting k t f n go (inside.standing.account.records k) (with_region (region_of setting.task k) inside))))))
    (spent_by (copy_steps setting.rules.core setting.task k) here)
