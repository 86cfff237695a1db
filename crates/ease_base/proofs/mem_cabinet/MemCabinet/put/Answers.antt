use Rattle.std.proofs.Common.{ap, ◌∙◌}
use Rattle.std.proofs.lemmas.Slice.{pushed}
use Rattle.ease_base.specs.MemCabinet.{Shelf}
use Rattle.ease_base.proofs.MemCabinetLemmas.{put_found, put_others}
use Rattle.ease_base.proofs.mem_cabinet.MemCabinet.put.Goals as goal

pub returns-clause-added : goal.returns-clause-added
returns-clause-added c =
    let files = ap (λ (shelf : Shelf). shelf.files) c.self.view_is in
    put_found c.args.self.now.files c.push.new.self.items (record { name = c.in_ok-name.name; bytes = c.in_ok-bytes.bytes }) c.args.name.now c.args.bytes.now
    (pushed _ files c.in_ok-push.was c.push.ensures.items) (c.in_ok-name.ensures ∙ c.as_bytes.ensures.value) c.in_ok-bytes.ensures c.requires.absent

pub returns-clause-others : goal.returns-clause-others
returns-clause-others c = λ other differs.
    let files = ap (λ (shelf : Shelf). shelf.files) c.self.view_is in
    put_others c.args.self.now.files c.push.new.self.items (record { name = c.in_ok-name.name; bytes = c.in_ok-bytes.bytes }) c.args.name.now other
    (pushed _ files c.in_ok-push.was c.push.ensures.items) (c.in_ok-name.ensures ∙ c.as_bytes.ensures.value) differs
