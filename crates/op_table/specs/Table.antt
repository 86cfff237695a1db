-- Tables as contracts see them: the list of the rows' entries.
use Rattle.std.specs.Prelude.{ℕ, List, map, ◌⊎◌}
use Rattle.op_table.specs.declared.table.Row.{Row}
use Rattle.op_table.specs.Places.{StandsTwice}

-- what a row says: the code, the bytes of the name, the form
pub record Entry : Type 0 where
  pub code : ℕ
  pub name : List ℕ
  pub form : ℕ

-- the entry of a row
abbrev pub entry_of : Row → Entry
entry_of row = record { code = row.code; name = row.name.now; form = row.form }

-- the entries of the rows, in order
abbrev pub entries : List Row → List Entry
entries rows = map entry_of rows

-- the codes, in order
abbrev pub codes : List Entry → List ℕ
codes table = map (λ entry. entry.code) table

-- the names, in order
abbrev pub names : List Entry → List (List ℕ)
names table = map (λ entry. entry.name) table

-- two entries have the same code, or two have the same name
abbrev pub HasTwins : List Entry → Type 0
HasTwins table = StandsTwice (codes table) ⊎ StandsTwice (names table)
