-- Acts that repeat a block for each item of a list: words that are copied, words of RAM, pointers.
use Rattle.std.proofs.Common.{arith}
use Rattle.std.proofs.lemmas.Bool.Decides.{nat_tests}
use Rattle.std.specs.Prelude.{◌≡◌, ℕ, zero, suc, ◌+◌, ◌*◌, ◌/◌, ◌%◌, ◌^◌, ◌≤◌, true, false, List, [], ◌∷◌, ◌++◌, length}
use Rattle.fram_ram.specs.Memories.{is_fram, is_ram, put}
use Rattle.task_ast.specs.declared.core_form.Array.{Array}
use Rattle.word_isa.specs.declared.instr.Instr.{Instr}
use Rattle.word_isa.specs.declared.instr.Instr.TheVariants.{Ldi, Lui, Ld, St}
use Rattle.word_machine.specs.Traces.{Atom, wrote}
use Rattle.line_code.specs.declared.areas.Placed.{Placed}
use Rattle.line_code.specs.declared.line.Line.{Line}
use Rattle.line_code.specs.Areas.{area_at, pointer_at}
use Rattle.line_code.specs.Lines.{bares}
use Rattle.word_code.specs.Beginnings.{volatile_words}
use Rattle.act_laws.specs.Codes.{FramCell, RamCell}

-- what each item of a list has: its code, what that makes of a store, and what is seen
pub record Block : Type 1 where
  pub Item : Type 0
  pub code : Item → List Instr
  pub makes : Item → (ℕ → ℕ) → ℕ → ℕ
  pub atoms : Item → (ℕ → ℕ) → List Atom
  pub Good : Item → Type 0

abbrev pub list_code : (b : Block) → List b.Item → List Line
list_code b [] = []
list_code b (i ∷ is) = bares (b.code i) ++ list_code b is

abbrev pub list_makes : (b : Block) → List b.Item → (ℕ → ℕ) → ℕ → ℕ
list_makes b [] store = store
list_makes b (i ∷ is) store = list_makes b is (b.makes i store)

abbrev pub list_atoms : (b : Block) → List b.Item → (ℕ → ℕ) → List Atom
list_atoms b [] store = []
list_atoms b (i ∷ is) store = b.atoms i store ++ list_atoms b is (b.makes i store)

abbrev pub AllGood : (b : Block) → List b.Item → Type 0
AllGood b [] = Unit {0}
AllGood b (i ∷ is) = b.Good i × AllGood b is

-- a word of FRAM that is copied to another
pub record Copy : Type 0 where
  pub from : ℕ
  pub to : ℕ

pub record GoodCopy (c : Copy) : Type 0 where
  pub from : FramCell c.from
  pub to : FramCell c.to

abbrev pub copies : Block
copies = record {
  Item = Copy;
  code = λ c. Ld 1 0 c.from ∷ St 1 0 c.to ∷ [];
  makes = λ c store. put store c.to (store c.from);
  atoms = λ c store. wrote c.to (store c.from) ∷ [];
  Good = GoodCopy;
}

-- an address that a bank's offset and a home give
pub record BankCell (bank home a : ℕ) : Type 0 where
  pub fram : is_fram a ≡ true
  pub wraps : (bank + home) % 2 ^ 32 ≡ a

-- the committed bank's word of a home goes to the working bank
pub record Home (committed working : ℕ) : Type 0 where
  pub home : ℕ
  pub from : ℕ
  pub to : ℕ
  pub is_from : BankCell committed home from
  pub is_to : BankCell working home to

abbrev pub homes : (committed working : ℕ) → Block
homes c w = record {
  Item = Home c w;
  code = λ h. Ld 1 12 h.home ∷ St 1 14 h.home ∷ [];
  makes = λ h store. put store h.to (store h.from);
  atoms = λ h store. wrote h.to (store h.from) ∷ [];
  Good = λ h. Unit {0};
}

-- a word of RAM that begins with a number
pub record Start : Type 0 where
  pub at : ℕ
  pub word : ℕ

pub record GoodStart (v : Start) : Type 0 where
  pub cell : RamCell v.at
  pub number : v.word / 65536 * 65536 + v.word % 65536 % 65536 ≡ v.word

abbrev pub starts : Block
starts = record {
  Item = Start;
  code = λ v. Ldi 1 (v.word % 65536) ∷ Lui 1 (v.word / 65536) ∷ St 1 15 v.at ∷ [];
  makes = λ v store. put store (1048576 + v.at) v.word;
  atoms = λ v store. [];
  Good = GoodStart;
}

-- a pointer, which begins without a place: its two cells
pub record GoodPointer (at : ℕ) : Type 0 where
  pub address : RamCell at
  pub room : RamCell (at + 1)

abbrev pub pointers : Block
pointers = record {
  Item = ℕ;
  code = λ at. St 0 15 at ∷ St 0 15 (at + 1) ∷ [];
  makes = λ at store. put (put store (1048576 + at) 0) (1048576 + (at + 1)) 0;
  atoms = λ at store. [];
  Good = GoodPointer;
}

-- the words of an array, each from so far above its home to so far above it
abbrev pub word_copies : (from to i n : ℕ) → List Copy
word_copies from to i zero = []
word_copies from to i (suc n) = record { from = from + i; to = to + i } ∷ word_copies from to (i + 1) n

abbrev pub array_copies : List Placed → (from to : ℕ) → (arrays : List ℕ) → List Copy
array_copies areas from to [] = []
array_copies areas from to (a ∷ rest) = word_copies ((area_at areas a).offset + from) ((area_at areas a).offset + to) 0 (area_at areas a).room ++ array_copies areas from to rest

-- the cells of so many pointers
abbrev pub pointer_cells : (from count : ℕ) → List ℕ
pointer_cells from zero = []
pointer_cells from (suc n) = pointer_at from ∷ pointer_cells (from + 1) n

-- words of RAM from an offset on, and those of all volatile arrays
abbrev pub word_starts : (at : ℕ) → List ℕ → List Start
word_starts at [] = []
word_starts at (w ∷ words) = record { at = at; word = w } ∷ word_starts (at + 1) words

abbrev pub array_starts : (at : ℕ) → List Array → List Start
array_starts at [] = []
array_starts at (a ∷ arrays) = word_starts at (volatile_words a.kind a.first) ++ array_starts (at + length (volatile_words a.kind a.first)) arrays

-- a home of a bank
pub bank_cell : (bank home : ℕ) → bank ≤ 2048 → home ≤ 2048 → BankCell bank home (bank + home)
bank_cell bank home h k = record { fram = grind (arith, nat_tests, h, k); wraps = omega (arith, h, k) }

-- the homes from one on
abbrev pub home_items : (c w i n : ℕ) → c ≤ 2048 → w ≤ 2048 → i + n ≤ 2048 → List (Home c w)
home_items c w i zero hc hw few = []
home_items c w i (suc n) hc hw few =
    record { home = 1 + i; from = c + (1 + i); to = w + (1 + i); is_from = bank_cell c (1 + i) hc (omega (arith, few)); is_to = bank_cell w (1 + i) hw (omega (arith, few)) } ∷ home_items c w (i + 1) n hc hw (omega (arith, few))

-- the store behind a beginning
abbrev pub begun_store : List ℕ → List Start → (b : Block) → List b.Item → (ℕ → ℕ) → ℕ → ℕ
begun_store ptrs vols b hs store = list_makes b hs (list_makes starts vols (list_makes pointers ptrs (put store 1048615 0)))
