-- The words of two lists, seen as one store: at an address, after a write, after a failure, at the start.
use Rattle.std.proofs.Common.{◌≡◌, ◌∙◌, ℕ, zero, suc, ◌+◌, ◌-◌, ◌%◌, ◌^◌, ◌<◌, ◌≤◌, ◌⊎◌, inl, inr, List, [], ◌++◌, length, refl, sym, ap, get_or, set, take, replicate, arith, true, false}
use Rattle.std.proofs.Math.Path.{fun_ext}
use Rattle.std.proofs.Math.Seq.{get_or-append_right}
use Rattle.std.proofs.lemmas.Bool.Decides.{nat_tests}
use Rattle.std.proofs.lemmas.Bool.{cases_lt}
use Rattle.std.proofs.lemmas.Grind.{get_or_default_zero}
use Rattle.std.proofs.lemmas.List.{take_all, get_or-set_same, get_or-set_other, get_or_append_left, get_or_past}
use Rattle.fram_ram.specs.Addresses.{fram_has_word, ram_has_word, gap_has_no_word, end_has_no_word}
use Rattle.fram_ram.specs.Memories.{Contents, has_word, words, put, failed}

-- the word at an address of FRAM
pub words_fram : (m : Contents) (at : ℕ) → at < 65536 → words m at ≡ get_or m.fram at 0
unfolding words
words_fram m at h = grind (arith, nat_tests)

-- the word at a place of RAM
pub words_ram : (m : Contents) (at place : ℕ) → at ≡ 1048576 + place → place < 4096 → words m at ≡ get_or m.ram place 0
unfolding words
words_ram m at place e h = let i : at - 1048576 ≡ place = omega arith in rw (← i) (grind (arith, nat_tests))

-- elsewhere
pub words_elsewhere : (m : Contents) (at : ℕ) → 65536 ≤ at → (at < 1048576) ⊎ (1052672 ≤ at) → words m at ≡ 0
unfolding words
words_elsewhere m at h k = grind (arith, nat_tests)

-- the place of RAM that machine arithmetic finds for an address
abbrev pub ram_offset : ℕ → ℕ
ram_offset at = (at + 4293918720) % 4294967296

-- it is the address counted from the start of RAM
pub ram_place : (at : ℕ) → at < 2 ^ 32 → ram_offset at < 4096 → at ≡ 1048576 + ram_offset at
ram_place at r h = omega arith

-- an address below 65536 is found in FRAM
pub fram_found : (at : ℕ) → at < 65536 → true ≡ has_word at
fram_found at h = sym (fram_has_word at h)

-- an address whose place is below 4096 is found in RAM
pub ram_found : (at : ℕ) → at < 2 ^ 32 → ram_offset at < 4096 → true ≡ has_word at
ram_found at r h = sym (ram_has_word at (omega arith) (omega arith))

-- any other address has no word
pub none_found : (at : ℕ) → at < 2 ^ 32 → 65536 ≤ at → 4096 ≤ ram_offset at → false ≡ has_word at
none_found at r h k = elim (cases_lt at 1048576) [
  | inl lt ↦ sym (gap_has_no_word at h lt)
  | inr ge ↦ sym (end_has_no_word at (omega arith))
]

-- a write in FRAM, seen at another address
stored_fram_at : (fram ram : List ℕ) (at word a : ℕ) → length fram ≡ 65536 → at < 65536
    → words (record { fram = set fram at word; ram = ram }) a ≡ put (words (record { fram = fram; ram = ram })) at word a
unfolding words
stored_fram_at fram ram at word a n h = grind (arith, nat_tests, get_or-set_same, get_or-set_other)

-- a write in FRAM changes the store at its address alone
pub stored_fram : (fram ram : List ℕ) (at word : ℕ) → length fram ≡ 65536 → at < 65536
    → words (record { fram = set fram at word; ram = ram }) ≡ put (words (record { fram = fram; ram = ram })) at word
stored_fram fram ram at word n h = fun_ext (λ a. stored_fram_at fram ram at word a n h)

-- a write in RAM, seen at another address
stored_ram_at : (fram ram : List ℕ) (at place word a : ℕ) → length ram ≡ 4096 → at ≡ 1048576 + place → place < 4096
    → words (record { fram = fram; ram = set ram place word }) a ≡ put (words (record { fram = fram; ram = ram })) at word a
unfolding words
stored_ram_at fram ram at place word a n e h = grind (arith, nat_tests, get_or-set_same, get_or-set_other)

-- a write in RAM changes the store at its address alone
pub stored_ram : (fram ram : List ℕ) (at place word : ℕ) → length ram ≡ 4096 → at ≡ 1048576 + place → place < 4096
    → words (record { fram = fram; ram = set ram place word }) ≡ put (words (record { fram = fram; ram = ram })) at word
stored_ram fram ram at place word n e h = fun_ext (λ a. stored_ram_at fram ram at place word a n e h)

-- RAM filled, seen at an address
filled_at : (fram ram after : List ℕ) (fill a : ℕ) → ((k : ℕ) → k < 4096 → get_or after k 0 ≡ fill)
    → words (record { fram = fram; ram = after }) a ≡ failed (words (record { fram = fram; ram = ram })) fill a
unfolding words
filled_at fram ram after fill a h = grind (arith, nat_tests, h)

-- a failure fills RAM and leaves FRAM
pub filled_ram : (fram ram after : List ℕ) (fill : ℕ) → ((k : ℕ) → k < 4096 → get_or after k 0 ≡ fill)
    → words (record { fram = fram; ram = after }) ≡ failed (words (record { fram = fram; ram = ram })) fill
filled_ram fram ram after fill h = fun_ext (λ a. filled_at fram ram after fill a h)

-- the words at the start, seen at an address
made_at : (fram ram first : List ℕ) (a : ℕ) → length first ≤ 65536 → ((k : ℕ) → get_or fram k 0 ≡ get_or first k 0)
    → ((k : ℕ) → get_or ram k 0 ≡ 0) → words (record { fram = fram; ram = ram }) a ≡ get_or first a 0
unfolding words
made_at fram ram first a n f r = grind (arith, nat_tests, f, r, get_or_past first a 0)

-- at the start there are the first words of FRAM, and 0
pub made : (fram ram first : List ℕ) → length first ≤ 65536 → ((k : ℕ) → get_or fram k 0 ≡ get_or first k 0)
    → ((k : ℕ) → get_or ram k 0 ≡ 0) → words (record { fram = fram; ram = ram }) ≡ λ a. get_or first a 0
made fram ram first n f r = fun_ext (λ a. made_at fram ram first a n f r)

-- zeros are 0 at each place, and past their end
zeros : (n k : ℕ) → get_or {A = ℕ} (replicate n 0) k 0 ≡ 0
zeros zero k = refl
zeros (suc n) zero = refl
zeros (suc n) (suc k) = zeros n k

-- a list with zeros behind it has the same words, as past its end they are 0
pub before_zeros : (xs : List ℕ) (n k : ℕ) → get_or (xs ++ replicate n 0) k 0 ≡ get_or xs k 0
before_zeros xs n k = elim (cases_lt k (length xs)) [
  | inl lt ↦ get_or_append_left xs (replicate n 0) 0 k lt
  | inr ge ↦ get_or-append_right xs (replicate n 0) k 0 ge ∙ zeros n (k - length xs) ∙ sym (get_or_past xs k 0 ge)
]

-- the first words, cut at the count that they don't pass, with zeros behind them
pub filled_words : (none more whole first : List ℕ) (count n k : ℕ) → length first ≤ count → none ≡ []
    → more ≡ none ++ first → whole ≡ take count more ++ replicate n 0 → get_or whole k 0 ≡ get_or first k 0
filled_words none more whole first count n k h e m w =
    let start : more ≡ first = m ∙ ap (λ xs. xs ++ first) e in
    let uncut : take count more ≡ first = ap (λ xs. take count xs) start ∙ take_all count first h in
    ap (λ xs. get_or xs k 0) (w ∙ ap (λ xs. xs ++ replicate n 0) uncut) ∙ before_zeros first n k

-- a word that was read at a place is the word there
pub read_at : (xs : List ℕ) (i x : ℕ) → i < length xs → x ≡ get_or xs i x → get_or xs i 0 ≡ x
read_at xs i x h e = sym (e ∙ get_or_default_zero xs i x h)
