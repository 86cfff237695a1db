-- The world and the fault of bytes, by what `toml` makes of them; and what an answer says of them.
use Rattle.std.proofs.Common.{◌≡◌, ◌≢◌, refl, ap, ◌∙◌, List, ℕ, Some, None, Result, Ok, Err, MatchResult, arith}
use Rattle.toml.specs.Data.{Members}
use Rattle.ease_base.specs.declared.place.Peripheral.{Peripheral}
use Rattle.devices.specs.declared.world.World.{World}
use Rattle.world_file.specs.Document.{document}
use Rattle.world_file.specs.WorldFile.{table_world, table_fault, document_fault, world_fault, world_of, Answers}
use Rattle.world_file.specs.declared.error.WorldError.{WorldError}
use Rattle.world_file.specs.declared.error.WorldError.TheVariants.{NotToml, BadKey, BadValue, UnknownPeripheral, TooManySteps, TooManyTicks, NoMemory}

-- bytes that are no table
pub no_table : (bytes : List ℕ) (names : List Peripheral) → document bytes ≡ None → world_fault bytes names ≡ Some NotToml
unfolding world_fault
no_table bytes names none = ap (document_fault names) none

-- bytes that are this table
pub table_fails : (bytes : List ℕ) (names : List Peripheral) (top : Members) → document bytes ≡ Some top → world_fault bytes names ≡ table_fault names top
unfolding world_fault
table_fails bytes names top is = ap (document_fault names) is

pub table_passes : (bytes : List ℕ) (names : List Peripheral) (top : Members) (w : World) → document bytes ≡ Some top → table_fault names top ≡ None → w ≡ table_world names top → world_of bytes names ≡ Some w
unfolding world_of
table_passes bytes names top w is passes made =
    rw (table_fails bytes names top is ∙ passes, is, made) refl

-- bytes with a fault are no world
pub faulty : (bytes : List ℕ) (names : List Peripheral) (fault : WorldError) → world_fault bytes names ≡ Some fault → world_of bytes names ≡ None
unfolding world_of
faulty bytes names fault is = rw is refl

-- an answer of the table is one of the bytes
pub answer_of_table : (bytes : List ℕ) (names : List Peripheral) (top : Members) (result : Result World WorldError) → document bytes ≡ Some top
    → Answers (table_fault names top) (λ w. w ≡ table_world names top) result → Answers (world_fault bytes names) (λ w. world_of bytes names ≡ Some w) result
answer_of_table bytes names top (Ok w) is (passes, made) = (table_fails bytes names top is ∙ passes, table_passes bytes names top w is passes made)
answer_of_table bytes names top (Err e) is fails = λ other. table_fails bytes names top is ∙ fails other

-- an error that isn't for memory is another than the world
no_fault : (bytes : List ℕ) (names : List Peripheral) (w : World) (e : WorldError) → world_fault bytes names ≡ Some e → world_of bytes names ≡ Some w → e ≡ NoMemory
no_fault bytes names w e is world = let none = faulty bytes names e is in absurd (grind arith)

refused_for_memory : (bytes : List ℕ) (names : List Peripheral) (w : World) (e : WorldError) → (e ≢ NoMemory → world_fault bytes names ≡ Some e) → world_of bytes names ≡ Some w → e ≡ NoMemory
refused_for_memory bytes names w NotToml is world = no_fault bytes names w NotToml (is (λ e. absurd (grind arith))) world
refused_for_memory bytes names w BadKey is world = no_fault bytes names w BadKey (is (λ e. absurd (grind arith))) world
refused_for_memory bytes names w BadValue is world = no_fault bytes names w BadValue (is (λ e. absurd (grind arith))) world
refused_for_memory bytes names w UnknownPeripheral is world = no_fault bytes names w UnknownPeripheral (is (λ e. absurd (grind arith))) world
refused_for_memory bytes names w (TooManySteps n) is world = no_fault bytes names w (TooManySteps n) (is (λ e. absurd (grind arith))) world
refused_for_memory bytes names w (TooManyTicks n) is world = no_fault bytes names w (TooManyTicks n) (is (λ e. absurd (grind arith))) world
refused_for_memory bytes names w NoMemory is world = refl

-- bytes that are a world are refused for memory alone
pub only_world : (bytes : List ℕ) (names : List Peripheral) (result : Result World WorldError) → Answers (world_fault bytes names) (λ w. world_of bytes names ≡ Some w) result
    → (w : World) → world_of bytes names ≡ Some w → MatchResult result (λ v. v ≡ w) (λ e. e ≡ NoMemory)
only_world bytes names (Ok v) (none, is) w world = grind arith
only_world bytes names (Err e) is w world = refused_for_memory bytes names w e is world
