-- Past the end of the tasks there are no places.
use Rattle.std.proofs.Common.{◌∙◌, sym}
use Rattle.site_account.proofs.Joining.{none_there}
use Rattle.site_account.specs.Places.{body_places}
use Rattle.site_account.proofs.account.places_at.Goals as goal

pub returns-in-None : goal.returns-in-None
returns-in-None c = c.new.ensures ∙ sym (none_there (λ t. body_places t.body) c.args.program.now.tasks c.args.number c.in-None.ensures.value)
