use Rattle.std.proofs.Common.{rules}
use Rattle.image_file.proofs.AnswerLemmas.{found_bytes, found_only}
use Rattle.image_file.proofs.reading.read_image.Goals as goal

pub returns-clause-found : goal.returns-clause-found
returns-clause-found c = found_bytes c.args.bytes.now c.image_at.result (λ i. let fits = c.type_inv.bytes i in search rules) c.image_at.ensures

pub returns-clause-only : goal.returns-clause-only
returns-clause-only c = λ i fits is. found_only c.args.bytes.now c.image_at.result i fits is c.image_at.ensures
