-- The lines that were counted are those that fit.
use Rattle.std.proofs.Common.{refl, ap, ◌∙◌}
use Rattle.audit_check.specs.Fitting.{Power, all_booted, powered}
use Rattle.audit_check.proofs.FittingLaws.{fitting_is}
use Rattle.audit_check.proofs.fitting.fitting_lines.Goals as goal

pub returns : goal.returns
returns c =
    let p = powered c.args.world.now.power in
    fitting_is c.args.world.now c.requires.limits c.args.boots.now c.requires.few p refl c.power.inside.lines
    (ap (λ (p : Power). p.lines) (c.power.view_is ∙ c.pass.ensures) ∙ ap (λ rows. (all_booted (powered rows) c.args.boots.now).lines) c.as_slice.ensures)
