-- Seven texts, one after another.
use Rattle.std.specs.Prelude.{codes}
use Rattle.std.proofs.Common.{◌∙◌, ◌++◌, ap}
use Rattle.soak_case.specs.Source.{ann_text, named}
use Rattle.soak_case.proofs.Drawing.{more_text}
use Rattle.soak_case.proofs.source.put_block.Goals as goal

pub returns : goal.returns
returns c =
    let out = c.args.out.now in
    let d = c.args.drawn.now in
    let first = codes "  IO_BLOCK(" in
    let second = first ++ ann_text d.block in
    let third = second ++ named (codes ") { b[") d.element (codes "] = IO(temp, ") in
    let fourth = third ++ ann_text d.inner in
    let fifth = fourth ++ codes "); IO(radio, " in
    let sixth = fifth ++ ann_text d.sent in
    let two = more_text out first (ann_text d.block) c.extend.new.self c.extend-2.new.self c.in_ok-extend.ensures.ok (c.in_ok-extend-2.ensures.ok ∙ ap (λ t. c.extend.new.self ++ t) c.ann_text.ensures) in
    let three = more_text out second (named (codes ") { b[") d.element (codes "] = IO(temp, ")) c.extend-2.new.self c.put_named.new.out two c.in_ok-put_named.ensures in
    let four = more_text out third (ann_text d.inner) c.put_named.new.out c.extend-3.new.self three (c.in_ok-extend-3.ensures.ok ∙ ap (λ t. c.put_named.new.out ++ t) c.ann_text-2.ensures) in
    let five = more_text out fourth (codes "); IO(radio, ") c.extend-3.new.self c.extend-4.new.self four c.in_ok-extend-4.ensures.ok in
    let six = more_text out fifth (ann_text d.sent) c.extend-4.new.self c.extend-5.new.self five (c.in_ok-extend-5.ensures.ok ∙ ap (λ t. c.extend-4.new.self ++ t) c.ann_text-3.ensures) in
    more_text out sixth (codes ", v); }\n") c.extend-5.new.self c.extend-6.new.self six c.in_ok-extend-6.ensures.ok
