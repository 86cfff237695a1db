-- The state of a plan's run: the cells that outlive a power failure, and what else lives between acts (docs/PLAN.md,
-- "Cells").
use Rattle.std.specs.Prelude.{ℕ, Bool, true, false, ◌==◌, List, [], ◌∷◌, map, Option, Some, None}
use Rattle.task_ast.specs.declared.tree.Kind.{Kind}
use Rattle.task_ast.specs.declared.tree.Kind.TheVariants.{Nv, Const, Vol}
use Rattle.task_ast.specs.declared.core_form.Array.{Array}
use Rattle.task_ast.specs.declared.core_form.Core.{Core}
use Rattle.io_annot.specs.declared.choice.Mode.{Mode}
use Rattle.region_split.specs.declared.class.DmaClass.{DmaClass}
use Rattle.walk_run.specs.declared.place.Place.{Place}
use Rattle.walk_run.specs.Store.{Store, unset, declared_store, word_at, put_word}
use Rattle.word_isa.specs.declared.parts.Scheme.{Scheme}
use Rattle.word_isa.specs.declared.parts.Scheme.TheVariants.{Undo, Bank}
use Rattle.task_attempts.specs.Changes.{put}

-- a copy as it was valued: its ends, its length and its class
pub record CopyValued : Type 0 where
  pub to : Place
  pub from : Place
  pub length : ℕ
  pub class : DmaClass

-- What lives between acts beside the store, each only once it was made: the mode, the place and the arguments of a call,
-- the last look's time, the word that was read or kept, a copy, and of each block the mode outside and its beginning.
pub record Frame : Type 0 where
  pub mode : Option Mode
  pub target : Option (Option Place)
  pub args : Option (List ℕ)
  pub time : Option ℕ
  pub word : Option ℕ
  pub copy : Option CopyValued
  pub outer : ℕ → Option Mode
  pub begun : ℕ → Option ℕ

-- the cells of locks and records; a lock or a flag holds where it is the epoch
pub record Cells : Type 0 where
  pub lock : ℕ → ℕ
  pub flag : ℕ → ℕ
  pub value : ℕ → ℕ
  pub stamp : ℕ → ℕ
  pub class : ℕ → Option DmaClass
  pub to : ℕ → Option Place
  pub from : ℕ → Option Place
  pub length : ℕ → ℕ
  pub kept : ℕ → ℕ

-- The store has the homes that are worked in, the constants, and what is volatile. `aside` has the words of the other
-- area by the same places: the copies under `undo`, the committed bank under `bank`.
pub record State : Type 0 where
  pub store : Store
  pub aside : List (List ℕ)
  pub cells : Cells
  pub epoch : ℕ
  pub task : ℕ
  pub bank : ℕ
  pub frame : Frame
  pub looks : List ℕ
  pub issued : ℕ → ℕ

-- ---- writes

-- one write of one cell
pub data CellWrite : Type 0 where
  puts_home : Place → (word : ℕ) → CellWrite
  puts_aside : Place → (word : ℕ) → CellWrite
  puts_lock : (region epoch : ℕ) → CellWrite
  puts_flag : (site epoch : ℕ) → CellWrite
  puts_value : (site word : ℕ) → CellWrite
  puts_stamp : (site time : ℕ) → CellWrite
  puts_class : (site : ℕ) → DmaClass → CellWrite
  puts_to : (site : ℕ) → Place → CellWrite
  puts_from : (site : ℕ) → Place → CellWrite
  puts_length : (site number : ℕ) → CellWrite
  puts_kept : (at word : ℕ) → CellWrite
  puts_state : (epoch task bank : ℕ) → CellWrite

-- by the kind of an array the first of two for a nonvolatile one, else the second
abbrev pub of_home : {A : Type 0} → Kind → A → A → A
of_home Nv home other = home
of_home Const home other = other
of_home Vol home other = other

-- the words of nonvolatile arrays from one store, and those of all others from another
abbrev pub joined : List Array → (homes others : List (List ℕ)) → List (List ℕ)
joined [] homes others = others
joined (a ∷ arrays) [] others = others
joined (a ∷ arrays) (h ∷ homes) [] = []
joined (a ∷ arrays) (h ∷ homes) (o ∷ others) = of_home a.kind h o ∷ joined arrays homes others

-- the store with other words
abbrev pub with_words : List (List ℕ) → Store → Store
with_words words store = record store { words = words }

-- a word aside
abbrev pub aside_at : State → Place → ℕ
aside_at s at = word_at (with_words s.aside s.store) at

-- another word aside
abbrev pub put_aside : Place → ℕ → State → State
put_aside at word s = record s { aside = (put_word at word (with_words s.aside s.store)).words }

-- the two areas change their parts
abbrev pub exchanged : List Array → State → State
exchanged arrays s = record s { store = with_words (joined arrays s.aside s.store.words) s.store; aside = joined arrays s.store.words s.aside }

-- a commit to another bank goes on in the other area
abbrev pub turned : (same : Bool) → List Array → State → State
turned true arrays s = s
turned false arrays s = exchanged arrays s

-- other cells
abbrev pub with_cells : Cells → State → State
with_cells cells s = record s { cells = cells }

-- the state after a write
abbrev pub after_write : List Array → CellWrite → State → State
after_write arrays (puts_home at w) s = record s { store = put_word at w s.store }
after_write arrays (puts_aside at w) s = put_aside at w s
after_write arrays (puts_lock r e) s = with_cells (record s.cells { lock = put r e s.cells.lock }) s
after_write arrays (puts_flag k e) s = with_cells (record s.cells { flag = put k e s.cells.flag }) s
after_write arrays (puts_value k w) s = with_cells (record s.cells { value = put k w s.cells.value }) s
after_write arrays (puts_stamp k t) s = with_cells (record s.cells { stamp = put k t s.cells.stamp }) s
after_write arrays (puts_class k c) s = with_cells (record s.cells { class = put k (Some c) s.cells.class }) s
after_write arrays (puts_to k at) s = with_cells (record s.cells { to = put k (Some at) s.cells.to }) s
after_write arrays (puts_from k at) s = with_cells (record s.cells { from = put k (Some at) s.cells.from }) s
after_write arrays (puts_length k n) s = with_cells (record s.cells { length = put k n s.cells.length }) s
after_write arrays (puts_kept at w) s = with_cells (record s.cells { kept = put at w s.cells.kept }) s
after_write arrays (puts_state e t bank) s = record (turned (bank == s.bank) arrays s) { epoch = e; task = t; bank = bank }

-- ---- the first state, and what a failure leaves

-- nothing was made yet
abbrev pub no_frame : Frame
no_frame = record { mode = None; target = None; args = None; time = None; word = None; copy = None; outer = λ _. None; begun = λ _. None }

-- cells that hold nothing: no epoch is 0
abbrev pub no_cells : Cells
no_cells = record {
  lock = λ _. 0;
  flag = λ _. 0;
  value = λ _. 0;
  stamp = λ _. 0;
  class = λ _. None;
  to = λ _. None;
  from = λ _. None;
  length = λ _. 0;
  kept = λ _. 0;
}

-- the words of an array that a failure leaves: volatile arrays have none until the next beginning
abbrev pub lost_words : Kind → List ℕ → List ℕ
lost_words Nv words = words
lost_words Const words = words
lost_words Vol words = []

-- those of all arrays
abbrev pub lost : List Array → List (List ℕ) → List (List ℕ)
lost [] store = store
lost (a ∷ arrays) [] = []
lost (a ∷ arrays) (words ∷ store) = lost_words a.kind words ∷ lost arrays store

-- what a failure leaves: no volatile words, pointers at nothing, and nothing between acts
abbrev pub failed : Core → State → State
failed c s = record s { store = record { words = lost c.arrays s.store.words; pointers = unset c.pointers }; frame = no_frame }

-- words that are 0
abbrev pub zeros : List (List ℕ) → List (List ℕ)
zeros words = map (map (λ _. 0)) words

-- homes and the words aside before the first boot: under `undo` the homes are as declared and the copies are 0, under
-- `bank` the committed bank is as declared and the other is 0
abbrev pub first_areas : Scheme → (declared : List (List ℕ)) → List (List ℕ) × List (List ℕ)
first_areas Undo words = (words, zeros words)
first_areas Bank words = (zeros words, words)

-- before the first boot: epoch 1, task 1, bank 0
abbrev pub first_state : Core → Scheme → (looks : List ℕ) → State
first_state c scheme looks =
    let words = (declared_store c).words in
    let areas = first_areas scheme words in
    record {
      store = record { words = joined c.arrays areas.0 words; pointers = unset c.pointers };
      aside = areas.1;
      cells = no_cells;
      epoch = 1;
      task = 1;
      bank = 0;
      frame = no_frame;
      looks = looks;
      issued = λ _. 0;
    }
