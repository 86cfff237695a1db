-- Command by command.
use Rattle.std.proofs.Common.{◌∙◌, get_or, arith}
use Rattle.ease_debug.proofs.DebuggerLemmas.{goes_err}
use Rattle.ease_debug.proofs.PlayLemmas.{play_on, play_breaks, goes_as, next_command}
use Rattle.ease_debug.specs.declared.command.Command.TheVariants.{Step}
use Rattle.std.specs.Prelude.{Ok, Err}
use Rattle.ease_debug.proofs.play.do_all.Goals as goal

pub returns-in_err-do_one : goal.returns-in_err-do_one
returns-in_err-do_one g c =
    let command = get_or c.args.commands.now c.commands.command-index (Step 0) in
    let more = next_command c.args.commands.now c.commands.command-index (Step 0) c.commands-test.true in
    record {
      goes = λ s stands.
          let way = c.commands.invariant.playing s stands in
          let did = goes_as {A = Unit {0}} (Err c.in_err-do_one.field-0.0) _ _ _ _ command way.s c.do_one.new.debugger _ _ _ _ c.commands.invariant.stays.image c.commands.invariant.stays.program (c.in_err-do_one.ensures.goes way.s way.stands) in
          goes_err _ _ _ _ _ _ _ c.from_residual.ensures.0 (play_breaks _ _ _ _ _ _ _ _ _ _ command _ _ _ way more did);
    }

pub commands-preserved : goal.commands-preserved
commands-preserved g c =
    let command = get_or c.args.commands.now c.commands.command-index (Step 0) in
    let more = next_command c.args.commands.now c.commands.command-index (Step 0) c.commands-test.true in
    record {
      stays = record { program = c.in_ok-do_one.ensures.stays.program ∙ c.commands.invariant.stays.program; image = c.in_ok-do_one.ensures.stays.image ∙ c.commands.invariant.stays.image };
      boots = omega (arith, c.in_ok-do_one.ensures.boots, c.commands.invariant.boots);
      playing = λ s stands.
          let way = c.commands.invariant.playing s stands in
          let did = goes_as (Ok c.in_ok-do_one.field-0) _ _ _ _ command way.s _ _ _ _ _ c.commands.invariant.stays.image c.commands.invariant.stays.program (c.in_ok-do_one.ensures.goes way.s way.stands) in
          play_on _ _ _ _ _ _ _ _ _ _ _ command _ _ _ way more did;
    }
