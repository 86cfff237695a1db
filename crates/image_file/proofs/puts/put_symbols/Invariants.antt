-- What is written so far.
use Rattle.std.proofs.Common.{◌≡◌, ◌++◌, length, take}
use Rattle.std.specs.List.{flat_map}
use Rattle.image_file.specs.Fields.{field}
use Rattle.image_file.specs.Layout.{symbol, raw_symbol}
use Rattle.image_file.proofs.puts.put_symbols.Given as goal

abbrev pub invariant-items : goal.invariant-items
invariant-items l = l.out ≡ l.fn.out ++ field 2 (length l.symbols) ++ flat_map (λ s. symbol.spell (raw_symbol s)) (take l.s-index l.symbols)
