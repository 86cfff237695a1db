-- The fields of an instruction's word: bits 31 to 24, 23 to 20, 19 to 16, 15 to 0, and 23 to 0.
use Rattle.std.specs.Prelude.{ℕ, ◌+◌, ◌*◌, ◌/◌, ◌%◌}

-- bits 31 to 24
abbrev pub code_field : ℕ → ℕ
code_field word = word / 16777216

-- A, bits 23 to 20
abbrev pub a_field : ℕ → ℕ
a_field word = word / 1048576 % 16

-- B, bits 19 to 16
abbrev pub b_field : ℕ → ℕ
b_field word = word / 65536 % 16

-- M, bits 15 to 0
abbrev pub m_field : ℕ → ℕ
m_field word = word % 65536

-- T, bits 23 to 0
abbrev pub t_field : ℕ → ℕ
t_field word = word % 16777216

-- the word with this code and these fields
abbrev pub word_of : (code a b m : ℕ) → ℕ
word_of code a b m = code * 16777216 + a * 1048576 + b * 65536 + m
