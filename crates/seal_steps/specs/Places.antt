-- That an address is told as a place of the memory in which it lies.
use Rattle.std.specs.Prelude.{◌≡◌, ◌≢◌, ◌<◌, ◌≤◌, ℕ, slice_get}
use Rattle.devices.specs.Journal.{Place, cell, keep}
use Rattle.region_split.specs.declared.class.Memory.TheVariants.{Fram, Ram}
use Rattle.task_ast.specs.declared.core_form.Core.{Core}
use Rattle.task_attempts.specs.Copies.{memory_or_ram}

-- An address of RAM is told as a place of a volatile array, one behind the homes isn't told as one of a nonvolatile array that is
-- written, and one from the kept words on, up to RAM, as none of an array; the kept words lie before RAM.
pub record TellsMemory (c : Core) (place_of : ℕ → Place) : Type 0 where
  pub ram : (x a i : ℕ) → place_of x ≡ cell a i → 1048576 ≤ x → memory_or_ram (slice_get c.arrays a) ≡ Ram
  pub homes : (x a i : ℕ) → place_of x ≡ cell a i → 4097 ≤ x → memory_or_ram (slice_get c.arrays a) ≢ Fram
  pub above : (x a i : ℕ) → place_of x ≡ cell a i → 7042 ≤ x → 1048576 ≤ x
  pub kept : (x : ℕ) → place_of x ≡ keep → x < 1048576
