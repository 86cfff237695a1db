-- A write keeps a store of a program.
use Rattle.std.proofs.Common.{◌∙◌, ap, subst, sym}
use Rattle.walk_run.specs.Store.{KeepsFit, place, put_word}
use Rattle.walk_run.proofs.Stores.{store_with, fits_word}
use Rattle.walk_run.proofs.live.Live.set.Goals as goal

pub returns-clause-fits : goal.returns-clause-fits
returns-clause-fits c =
    let at = place c.args.a c.args.i in
    let written = ap (λ words. store_with words c.self.inside.pointers.items) c.write.ensures ∙ ap (put_word at c.args.word) c.self.view_is in
    subst (KeepsFit c.args.self.now) (sym written) (fits_word at c.args.word c.args.self.now)
