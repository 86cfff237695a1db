use Rattle.std.proofs.Common.{◌≡◌, drop}
use Rattle.ease_base.specs.MemCabinet.{contents_in}
use Rattle.ease_base.proofs.mem_cabinet.find.Given as goal

abbrev pub invariant-loop-file : goal.invariant-loop-file
invariant-loop-file l = contents_in (drop l.file-index l.files) l.name ≡ contents_in l.files l.name
