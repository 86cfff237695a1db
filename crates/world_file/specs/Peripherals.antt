-- Which lists of peripherals name each by one name and one number.
use Rattle.std.specs.Prelude.{List, map, nat_eq}
use Rattle.std.specs.List.{IsDistinct}
use Rattle.std.specs.Str.{bytes_eq}
use Rattle.ease_base.specs.declared.place.Peripheral.{Peripheral}

-- no two peripherals share a name, and no two share a number
pub record AreApart (peripherals : List Peripheral) : Type 0 where
  pub names : IsDistinct bytes_eq (map (λ p. p.name) peripherals)
  pub numbers : IsDistinct nat_eq (map (λ p. p.number) peripherals)
