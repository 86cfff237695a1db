-- The code of a word or of a place before what goes on with it, within steps that depend on what was found.
use Rattle.std.specs.Prelude.{◌-◌}
use Rattle.std.proofs.Common.{◌≡◌, ◌∙◌, ℕ, ◌+◌, ◌^◌, ◌<◌, ◌≤◌, Result, Ok, Err, arith}
use Rattle.walk_run.specs.Trap.{code_of}
use Rattle.walk_run.specs.declared.place.Place.{Place}
use Rattle.walk_run.specs.declared.trap.Trap.{Trap}
use Rattle.word_machine.specs.State.{Program}
use Rattle.word_machine.specs.Straight.{Spot}
use Rattle.line_laws.specs.Gives.{Same, Goal, Gives, HasWord, IsMetByTrap, word_goal}
use Rattle.line_laws.specs.Goals.{HasPlaceAt, place_goal}
use Rattle.line_laws.specs.Relation.{Layout, room_at, place_address}
use Rattle.line_laws.specs.GiveLaws.{gives_after, same_deeper}

-- a word, whose code may write deeper cells alone
pub word_then : (p : Program) (d e m : ℕ) (k : ℕ → ℕ) (s : Spot) (mid : ℕ) (q : Result ℕ Trap → Goal d) (most : Result ℕ Trap → ℕ) (r : Result ℕ Trap)
    → d ≤ e → Gives p e m s (word_goal e mid r)
    → ((word : ℕ) (t : Spot) → t.pc ≡ mid → t.regs 1 ≡ word → word < 2 ^ 32 → Same e s t → Gives p d (k word) t (q (Ok word)))
    → ((why : Trap) → IsMetByTrap (q (Err why)) (code_of why))
    → ((word : ℕ) → m + k word ≤ most (Ok word)) → ((why : Trap) → m ≤ most (Err why))
    → Gives p d (most r) s (q r)
word_then p d e m k s mid q most (Ok word) deep g go stop few low =
    let w : HasWord e mid word s g.there g.atoms = g.met in
    gives_after p d g.steps (k word) (most (Ok word)) s w.there (q (Ok word)) (g.runs ∙ w.goes_on) (g.shows ∙ w.quiet) (same_deeper d e s w.there deep w.same)
    (go word w.there w.at w.has w.fits w.same) (omega (arith, g.few, few word))
word_then p d e m k s mid q most (Err why) deep g go stop few low =
    record { steps = g.steps; few = omega (arith, g.few, low why); there = g.there; atoms = g.atoms; runs = g.runs; shows = g.shows; met = stop why s g.there g.atoms g.met }

-- what is known where a place was found
pub record IsThere (l : Layout) (d pc : ℕ) (at : Place) (s t : Spot) : Type 0 where
  pub arrives : t.pc ≡ pc
  pub address : t.regs 1 ≡ place_address l at.array at.index
  pub room : t.regs 2 ≡ room_at l at.array - at.index
  pub inside : at.index < room_at l at.array
  pub same : Same d s t

-- a place
pub place_then : (p : Program) (d m : ℕ) (k : Place → ℕ) (s : Spot) (l : Layout) (mid : ℕ) (q : Result Place Trap → Goal d) (most : Result Place Trap → ℕ) (r : Result Place Trap)
    → Gives p d m s (place_goal l d mid r)
    → ((at : Place) (t : Spot) → IsThere l d mid at s t → Gives p d (k at) t (q (Ok at)))
    → ((why : Trap) → IsMetByTrap (q (Err why)) (code_of why))
    → ((at : Place) → m + k at ≤ most (Ok at)) → ((why : Trap) → m ≤ most (Err why))
    → Gives p d (most r) s (q r)
place_then p d m k s l mid q most (Ok at) g go stop few low =
    let w : HasPlaceAt l d mid at s g.there g.atoms = g.met in
    gives_after p d g.steps (k at) (most (Ok at)) s w.there (q (Ok at)) (g.runs ∙ w.goes_on) (g.shows ∙ w.quiet) w.same
    (go at w.there (record { arrives = w.arrives; address = w.address; room = w.room; inside = w.inside; same = w.same }))
    (omega (arith, g.few, few at))
place_then p d m k s l mid q most (Err why) g go stop few low =
    record { steps = g.steps; few = omega (arith, g.few, low why); there = g.there; atoms = g.atoms; runs = g.runs; shows = g.shows; met = stop why s g.there g.atoms g.met }
