-- The commit sets the state word and the fixed registers.
use Rattle.act_laws.specs.Templates.{CommitDoes}
use Rattle.act_laws.specs.Words.{fixed_of, state_word}
use Rattle.std.specs.Prelude.{◌==◌, if◌then◌else◌}
use Rattle.std.proofs.Common.{◌≡◌, ℕ, ◌+◌, ◌*◌, ◌/◌, ◌%◌, ◌^◌, ◌<◌, ◌≤◌, List, [], ◌∷◌, ◌++◌, refl, arith}
use Rattle.devices.specs.declared.event.Event.TheVariants as the
use Rattle.fram_ram.specs.Memories.{has_word, put}
use Rattle.word_machine.specs.State.{Program}
use Rattle.word_machine.specs.Straight.{Spot}
use Rattle.word_machine.specs.Traces.{wrote, showed}
use Rattle.word_code.specs.Acts.{jump}
use Rattle.word_code.specs.Frames.{Frame, stride}
use Rattle.word_code.specs.Heads.{commit_code}
use Rattle.line_laws.specs.Standing.{Lie}
use Rattle.act_laws.specs.Codes.{Fixed, top, Acts}
use Rattle.act_laws.specs.CodeLaws.{line_acts}

-- the word that the code of a commit makes
state_is : (epoch task working : ℕ) → epoch + 1 < 2 ^ 24 → task < 128 → working / 2 ^ 11 < 2
    → (((epoch + 1) % 2 ^ 32 * 2 ^ 8 % 2 ^ 32 + 2 * task) % 2 ^ 32 + working / 2 ^ 11) % 2 ^ 32 ≡ state_word (epoch + 1) task (working / 2 ^ 11)
state_is epoch task working h k m = omega (arith, h, k, m)

-- a commit: one write of the state, its event, and then the registers of the next attempt
pub commit_acts : (p : Program) (x : Fixed) (f : Frame) (task next : ℕ) (s : Spot) → CommitDoes p x f task next s
unfolding has_word
commit_acts p x f task next s h k m has =
    let e : (((x.epoch + 1) % 2 ^ 32 * 2 ^ 8 % 2 ^ 32 + 2 * task) % 2 ^ 32 + x.working / 2 ^ 11) % 2 ^ 32 ≡ state_word (x.epoch + 1) task (x.working / 2 ^ 11) = state_is x.epoch task x.working h k m in
    line_acts p (fixed_of (stride f.scheme) (state_word (x.epoch + 1) task (x.working / 2 ^ 11))) 25 (commit_code f task) next (top x s) _ has refl (refl, rw e, rw e, rw e, refl) refl (rw e) refl (rw e) (omega arith)
