use Rattle.std.proofs.lemmas.Result.{IfOk-weaker, IfErr-weaker}
use Rattle.ease_cli.proofs.FileLemmas.{read_is, refused_stops}
use Rattle.ease_cli.proofs.fetched.fetch_script.Goals as goal

pub returns-clause-read : goal.returns-clause-read
returns-clause-read g c rest =
    IfOk-weaker c.script_in.result _ _ (λ s is. read_is _ _ _ _ _ _ c.as_slice.ensures.value c.in_ok-bytes.ensures.brought is) (c.script_in.ensures.read rest)

pub returns-clause-stops : goal.returns-clause-stops
returns-clause-stops g c rest =
    IfErr-weaker c.script_in.result _ _ (λ r told. refused_stops _ _ _ _ _ r c.as_slice.ensures.value c.in_ok-bytes.ensures.quiet c.in_ok-bytes.ensures.brought told) (c.script_in.ensures.refused rest)
