-- What fits is put behind the bytes so far.
use Rattle.std.proofs.Common.{◌+◌, ◌-◌}
use Rattle.power_trace.specs.LineLaws.{put_fits}
use Rattle.power_trace.proofs.line.Line.put.Goals as goal

pub returns : goal.returns
returns c =
    put_fits c.self.inside.len c.min-count.result (c.self.inside.len + c.min-count.result - c.self.inside.len) c.self.inside.bytes c.copy_from_slice.new.self c.args.text.now c.args.self.now
    c.self.told c.self.invariant c.min-count.ensures c.copy_from_slice.ensures.after c.self.view_is
