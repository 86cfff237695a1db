-- One pointer more is unset.
use Rattle.std.proofs.Common.{◌∙◌, None, ap, set, arith}
use Rattle.walk_run.proofs.Stores.{one_unset}
use Rattle.walk_run.proofs.live.unset_all.Goals as goal

pub pointers-preserved : goal.pointers-preserved
pointers-preserved c = ap (λ ps. set ps c.pointers.number None) c.pointers.invariant ∙ one_unset c.args.pointers.now.items c.pointers.number (omega (arith, c.pointers-test.true, c.len-number-end.ensures, c.args.pointers.now.ok))
