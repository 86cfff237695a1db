-- The answer of the site's trail.
use Rattle.std.proofs.Common.{◌∙◌, ◌<◌, length, arith}
use Rattle.std.proofs.lemmas.List.{get_or_default}
use Rattle.ease_debug.specs.Trails.{untrodden}
use Rattle.ease_debug.proofs.SlotLemmas.{answer_at}
use Rattle.ease_debug.proofs.trails.Trails.answer.Goals as goal

pub returns : goal.returns
returns c =
    let within : c.args.site < length c.self.inside.slots.items = omega (arith, c.self.invariant, c.ranges.site.fits) in
    answer_at c.self.inside.slots.items c.self.inside.begun c.args.site _ c.args.self.now c.self.view_is (c.index.ensures ∙ get_or_default c.self.inside.slots.items c.args.site _ untrodden within)
