-- Every row of the table of copies, computed.
use Rattle.std.proofs.Common.{◌≡◌, ℕ, List, [], ◌∷◌, map, refl}
use Rattle.region_split.specs.declared.class.Memory.TheVariants.{Fram, ConstFram, Ram}
use Rattle.region_split.specs.declared.class.DmaClass.TheVariants.{Single, Private, Exclude, Always}
use Rattle.region_split.specs.Class.{class_of}
use Rattle.region_split.specs.Regions.{first, regions}
use Rattle.region_split.proofs.Programs.{copying, through_a_pointer}

-- into FRAM, from anywhere
from_fram : class_of Fram Fram ≡ Single
from_fram = refl

from_constant : class_of ConstFram Fram ≡ Single
from_constant = refl

from_ram : class_of Ram Fram ≡ Single
from_ram = refl

-- into RAM: from a constant, from other FRAM, from RAM
constant_to_ram : class_of ConstFram Ram ≡ Exclude
constant_to_ram = refl

fram_to_ram : class_of Fram Ram ≡ Private
fram_to_ram = refl

ram_to_ram : class_of Ram Ram ≡ Always
ram_to_ram = refl

-- x = 1; DMA(a, b, 4); y = 2; x = 3; DMA(c, a, 4); a[0] = 4; with x, a, y, c nonvolatile, b constant and v volatile
each_array_is_in_its_first_region : map (first copying.0 copying.1) (0 ∷ 1 ∷ 2 ∷ []) ≡ (0 ∷ []) ∷ (1 ∷ 2 ∷ []) ∷ (3 ∷ []) ∷ []
unfolding copying
each_array_is_in_its_first_region = refl

one_region_more_than_copies : regions copying.1 ≡ 3
unfolding copying
one_region_more_than_copies = refl

-- p = &v; p = &c; p[0] = 1; v = IO(temp); b is never written
what_a_pointer_may_reach_is_written : first through_a_pointer.0 through_a_pointer.1 0 ≡ 3 ∷ []
unfolding through_a_pointer
what_a_pointer_may_reach_is_written = refl
