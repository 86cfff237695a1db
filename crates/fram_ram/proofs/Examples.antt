-- The definitions on small cases, computed; the values on the right were worked out by hand.
use Rattle.std.proofs.Common.{◌≡◌, ℕ, true, false, [], ◌∷◌, refl}
use Rattle.fram_ram.specs.Engine.{Transfer, idle, begun, next_source, next_destination, length_of, advanced}
use Rattle.fram_ram.specs.Memories.{Contents, has_word, words, put, failed}

-- the first and the last address of each memory, and those beside them
first_of_fram : has_word 0 ≡ true
unfolding has_word
first_of_fram = refl

last_of_fram : has_word 65535 ≡ true
unfolding has_word
last_of_fram = refl

behind_fram : has_word 65536 ≡ false
unfolding has_word
behind_fram = refl

before_ram : has_word 1048575 ≡ false
unfolding has_word
before_ram = refl

first_of_ram : has_word 1048576 ≡ true
unfolding has_word
first_of_ram = refl

last_of_ram : has_word 1052671 ≡ true
unfolding has_word
last_of_ram = refl

behind_ram : has_word 1052672 ≡ false
unfolding has_word
behind_ram = refl

last_address : has_word 4294967295 ≡ false
unfolding has_word
last_address = refl

-- memories whose FRAM begins with 7 and 8 and whose RAM begins with 9
few : Contents
few = record { fram = 7 ∷ 8 ∷ []; ram = 9 ∷ [] }

word_of_fram : words few 1 ≡ 8
unfolding words few
word_of_fram = refl

word_of_ram : words few 1048576 ≡ 9
unfolding words few
word_of_ram = refl

word_of_no_memory : words few 65536 ≡ 0
unfolding words few
word_of_no_memory = refl

-- a store changes one word
written_word : put (words few) 1 5 1 ≡ 5
unfolding words few
written_word = refl

other_word : put (words few) 1 5 0 ≡ 7
unfolding words few
other_word = refl

-- a failure leaves FRAM and fills RAM, and nothing else
fram_stays : failed (words few) 3 1 ≡ 8
unfolding words few
fram_stays = refl

ram_is_filled : failed (words few) 3 1052671 ≡ 3
ram_is_filled = refl

gap_stays_empty : failed (words few) 3 65536 ≡ 0
gap_stays_empty = refl

-- a transfer of two words from 8 to 10 moves the word at 8, then the one at 9, and is over
second_turn : advanced (begun 10 8 2) ≡ record { to = 10; from = 8; moved = 1; left = 1 }
second_turn = refl

second_source : next_source (advanced (begun 10 8 2)) ≡ 9
second_source = refl

second_destination : next_destination (advanced (begun 10 8 2)) ≡ 11
second_destination = refl

whole_length : length_of (advanced (begun 10 8 2)) ≡ 2
whole_length = refl

over : advanced (advanced (begun 10 8 2)) ≡ idle
over = refl

of_no_words : begun 10 8 0 ≡ idle
of_no_words = refl

-- the store after the next word of a transfer
moved : Transfer → (ℕ → ℕ) → ℕ → ℕ
moved t store = put store (next_destination t) (store (next_source t))

-- two words from 0 to 1 smear, and two words from 1 to 0 don't
up_smears : moved (advanced (begun 1 0 2)) (moved (begun 1 0 2) (words few)) 2 ≡ 7
unfolding words few moved
up_smears = refl

down_keeps : moved (advanced (begun 0 1 2)) (moved (begun 0 1 2) (words few)) 0 ≡ 8
unfolding words few moved
down_keeps = refl
