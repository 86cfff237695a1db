-- The modes of the blocks around a place, from the outermost to the innermost.
use Rattle.std.specs.Prelude.{◌-◌, List, length, slice_index_or}
use Rattle.io_annot.specs.declared.choice.Mode.{Mode}
use Rattle.io_annot.specs.declared.choice.Mode.TheVariants.{Own}

-- the mode of the innermost; where there is none, a site's own annotation decides
abbrev pub innermost : List Mode → Mode
innermost modes = slice_index_or modes (length modes - 1) Own
