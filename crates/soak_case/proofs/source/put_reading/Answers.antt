-- Three texts, one after another.
use Rattle.std.specs.Prelude.{codes}
use Rattle.std.proofs.Common.{◌∙◌, ◌++◌, ap}
use Rattle.soak_case.specs.Source.{ann_text}
use Rattle.soak_case.proofs.Drawing.{more_text}
use Rattle.soak_case.proofs.source.put_reading.Goals as goal

pub returns : goal.returns
returns c =
    let ann = ann_text c.args.drawn.now.reading in
    more_text c.args.out.now (codes "  v = IO(temp, " ++ ann) (codes ");\n") c.extend-2.new.self c.extend-3.new.self
    (more_text c.args.out.now (codes "  v = IO(temp, ") ann c.extend.new.self c.extend-2.new.self c.in_ok-extend.ensures.ok (c.in_ok-extend-2.ensures.ok ∙ ap (λ t. c.extend.new.self ++ t) c.ann_text.ensures)) c.in_ok-extend-3.ensures.ok
