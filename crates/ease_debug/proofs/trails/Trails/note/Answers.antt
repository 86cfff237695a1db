-- A begin rolls all trails, a commit clears them.
use Rattle.std.proofs.Common.{◌∙◌, true, ap, sym}
use Rattle.ease_debug.proofs.SlotLemmas.{all_rolled, all_cleared}
use Rattle.ease_debug.specs.Past.{shows}
use Rattle.ease_debug.specs.Trails.{noted, trails_in}
use Rattle.devices.specs.declared.event.Event.{Event}
use Rattle.ease_debug.proofs.trails.Trails.note.Goals as goal

pub returns-in-Begin : goal.returns-in-Begin
returns-in-Begin c =
    all_rolled c.self.inside.begun true c.self.inside.slots.items _ c.args.self.now c.self.view_is c.roll.ensures
    ∙ ap (λ (e : Event). noted (shows e) (trails_in c.args.self.now)) (sym c.in-Begin.is)

pub returns-in-Commit : goal.returns-in-Commit
returns-in-Commit c =
    all_cleared c.self.inside.begun c.self.inside.slots.items _ c.args.self.now c.self.view_is c.clear.ensures
    ∙ ap (λ (e : Event). noted (shows e) (trails_in c.args.self.now)) (sym c.in-Commit.is)
