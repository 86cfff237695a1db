-- RAM is filled, and FRAM stays.
use Rattle.std.proofs.Common.{◌≡◌, ◌∙◌, length, refl, ap, arith}
use Rattle.std.proofs.lemmas.List.{take_at}
use Rattle.fram_ram.specs.Memories.{words, failed}
use Rattle.fram_ram.proofs.StoreLemmas.{filled_ram}
use Rattle.fram_ram.proofs.memories.Memories.fail.Goals as goal

pub returns : goal.returns
returns c =
    let whole : length c.fill.new.self ≡ c.self.inside.ram.len = omega (arith, c.fill.ensures.len, c.as_mut_slice.ensures.len) in
    ap (λ xs. words (record { fram = c.self.inside.fram.items; ram = xs })) (take_at c.fill.new.self _ c.self.inside.ram.len whole)
    ∙ filled_ram c.self.inside.fram.items c.self.inside.ram.items c.fill.new.self c.args.fill
    (λ k h. c.fill.ensures.clones k 0 (omega (arith, c.as_mut_slice.ensures.len)) refl)
    ∙ ap (λ m. failed (words m) c.args.fill) c.self.view_is
