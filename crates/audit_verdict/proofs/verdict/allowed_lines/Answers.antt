-- As many as fit the world and as go along the rules, whichever are fewer.
use Rattle.std.proofs.Common.{sym, subst}
use Rattle.audit_check.specs.Allowed.{IsAllowed}
use Rattle.audit_check.specs.Journal.{boots_of}
use Rattle.audit_check.specs.Lines.{Reaches}
use Rattle.audit_verdict.proofs.JudgedLaws.{allowed_is}
use Rattle.audit_verdict.proofs.verdict.allowed_lines.Goals as goal

pub returns : goal.returns
returns c =
    let core = c.args.c.now in
    let world = c.args.world.now in
    let boots = c.args.boots.now in
    subst (λ n. Reaches (IsAllowed core world) (boots_of boots) n) (sym c.lesser.ensures)
    (allowed_is core world boots _ c.args.along c.a_walk_finds_the_lines_that_are_allowed.ensures c.requires.few c.fitting_lines.ensures c.requires.along)
