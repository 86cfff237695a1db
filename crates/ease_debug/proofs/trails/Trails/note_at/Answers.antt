-- The site's trail is written.
use Rattle.std.proofs.Common.{◌∙◌, ◌<◌, length, arith}
use Rattle.std.proofs.lemmas.List.{get_or_default}
use Rattle.ease_debug.specs.Trails.{untrodden}
use Rattle.ease_debug.proofs.SlotLemmas.{one_noted, noted_in, noted_out}
use Rattle.ease_debug.proofs.trails.Trails.note_at.Goals as goal
use Rattle.ease_debug.proofs.trails.Trails.note_at.Goals.{then-self, else-self}

pub returns : goal.returns
returns c =
    let within : c.args.site < length c.self.inside.slots.items = omega (arith, c.self.invariant, c.ranges.site.fits) in
    let first = c.index.ensures ∙ get_or_default c.self.inside.slots.items c.args.site _ untrodden within in
    one_noted c.self.inside.begun c.self.inside.slots.items c.args.site c.args.event _ c.args.self.now c.self.view_is within
    (elim c.if-self.branch [
      | then-self w ↦ noted_in _ c.args.event _ c.index.result.now c.seen-seen.result _ first c.seen-seen.ensures w.if-self.true w.t-13-is
      | else-self w ↦ noted_out _ c.args.event _ c.index.result.now c.seen-seen.result _ first c.seen-seen.ensures w.if-self.false (w.t-13-is ∙ w.rolled.ensures)
    ])
