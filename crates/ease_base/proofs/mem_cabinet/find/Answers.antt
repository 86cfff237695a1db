use Rattle.std.proofs.Common.{◌≡◌, true, false, sym, ◌∙◌}
use Rattle.std.specs.Str.{bytes_eq}
use Rattle.ease_base.proofs.MemCabinetLemmas.{passed, reached, passed_all}
use Rattle.ease_base.proofs.mem_cabinet.find.Goals as goal

pub returns-then-eq : goal.returns-then-eq
returns-then-eq c =
    let same : bytes_eq c.file-item.result.name c.args.name.now ≡ true = cc (c.eq.ensures, c.if-eq.true, c.as_slice.ensures, c.as_bytes.ensures.value) in
    let found = reached c.args.files.now c.loop-file.file-index c.file-item.result c.args.name.now c.loop-file-test.true c.file-item.is same in
    cc (c.as_slice-then-eq.ensures, found, c.loop-file.invariant)

pub loop-file-preserved : goal.loop-file-preserved
loop-file-preserved c =
    let differs : bytes_eq c.file-item.result.name c.args.name.now ≡ false = cc (c.eq.ensures, c.if-eq.false, c.as_slice.ensures, c.as_bytes.ensures.value) in
    sym (passed c.args.files.now c.loop-file.file-index c.file-item.result c.args.name.now c.loop-file-test.true c.file-item.is differs) ∙ c.loop-file.invariant

pub returns : goal.returns
returns c = sym (passed_all c.args.files.now c.loop-file.file-index c.args.name.now c.loop-file-test.false) ∙ c.loop-file.invariant
