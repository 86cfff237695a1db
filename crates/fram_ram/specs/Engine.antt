-- The engine's state, and what a transfer's next word makes of it (docs/MACHINE.md, "The DMA engine").
use Rattle.std.specs.Prelude.{◌≡◌, ℕ, zero, suc, ◌<◌, ◌^◌, ◌+◌, ◌-◌, ◌==◌, if◌then◌else◌}
use Rattle.fram_ram.specs.Memories.{put}

-- a transfer: the two addresses at its start, the words that were moved, and those that are left
pub record Transfer : Type 0 where
  pub to : ℕ
  pub from : ℕ
  pub moved : ℕ
  pub left : ℕ

-- what a transfer keeps: the next addresses and the length are words, and without words left all is 0
pub record IsWithinWords (to from moved left : ℕ) : Type 0 where
  pub destination : to + moved < 2 ^ 32
  pub source : from + moved < 2 ^ 32
  pub length : moved + left < 2 ^ 32
  pub nothing : left ≡ 0 → (to ≡ 0) × (from ≡ 0) × (moved ≡ 0)

-- no transfer
abbrev pub idle : Transfer
idle = record { to = 0; from = 0; moved = 0; left = 0 }

-- a transfer of so many words before its first word; one of no words is none
abbrev pub begun : ℕ → ℕ → ℕ → Transfer
begun to from n = if n == 0 then idle else record { to = to; from = from; moved = 0; left = n }

-- the address that the next word comes from; it never wraps
abbrev pub next_source : Transfer → ℕ
next_source t = t.from + t.moved

-- the address that the next word goes to; it never wraps
abbrev pub next_destination : Transfer → ℕ
next_destination t = t.to + t.moved

-- the words of the whole transfer
abbrev pub length_of : Transfer → ℕ
length_of t = t.moved + t.left

-- one word further; after the last word there is no transfer
abbrev pub advanced : Transfer → Transfer
advanced t = if t.left == 1 then idle else record t { moved = t.moved + 1; left = t.left - 1 }

-- a store after the next word, which is read at its own turn
abbrev pub moved_word : Transfer → (ℕ → ℕ) → ℕ → ℕ
moved_word t store = put store (next_destination t) (store (next_source t))

-- a store after so many words of a transfer, one after the other
unfoldable pub moved_words : ℕ → Transfer → (ℕ → ℕ) → ℕ → ℕ
moved_words zero t store = store
moved_words (suc n) t store = moved_words n (advanced t) (moved_word t store)

-- a store in which n words were copied, one update each, from place k of both ranges on and the lowest first
unfoldable pub copied : (to from k n : ℕ) → (ℕ → ℕ) → ℕ → ℕ
copied to from k zero store = store
copied to from k (suc n) store = copied to from (k + 1) n (put store (to + k) (store (from + k)))
