-- What follows from what is written: the status of words that are no command, of faults, and of files that are there.
use Rattle.std.proofs.Common.{◌≡◌, ◌⊎◌, ℕ, ◌<◌, ◌≤◌, Bool, true, false, IsTrue, List, [], ◌∷◌, ◌++◌, length, Option, Some, None, Result, Ok, Err, refl, sym, ap, subst, ◌∙◌, arith, inl, inr}
use Rattle.command_line.specs.Form.{Form}
use Rattle.ease_base.specs.Cabinet.{Contents, Brings, Lacks}
use Rattle.ease_base.specs.Count.{HasRisen, raised}
use Rattle.ease_base.specs.Sink.{extended}
use Rattle.ease_cli.proofs.AnswerLemmas.{writes_line, refusal_has_line}
use Rattle.ease_cli.specs.declared.refusal.Refusal.{Refusal}
use Rattle.ease_cli.specs.declared.refusal.Refusal.TheVariants as refusal
use Rattle.ease_cli.specs.Answer.{Answers, AreRead, Reaches, Stops, unbrought, refused, Says, stopped, done, IsUsage, LineSays, Writes, TellsFetchFault}
use Rattle.ease_cli.specs.Files.{Files, Wanted, wanted, limit_of, IsQuiet, IsBrought, IsUnbrought, failed, long}
use Rattle.ease_cli.specs.Inputs.{Input}
use Rattle.ease_cli.specs.Settled.{AreThere, CanBeRead, Settles, accepted, no_memory}
use Rattle.ease_cli.specs.Settled as settled
use Rattle.ease_cli.specs.declared.status.Status.{Status}
use Rattle.ease_cli.specs.declared.status.Status.TheVariants as ends

-- ---- a fault of the cabinet

no_fault : (f : Files) → f.faults < f.faults_after → f.faults_after ≡ f.faults → ⊥
no_fault f rose steady = omega (arith, rose, steady)

unbrought_faulted : (f : Files) (name : List ℕ) (limit : ℕ) (s : Status) (t : List ℕ) → f.faults < f.faults_after → IsUnbrought f name limit s t → s ≡ ends.ReadFault
unbrought_faulted f name limit s t rose (failed is line quiet why) = is
unbrought_faulted f name limit s t rose (long is line steady raised why) = absurd (no_fault f rose steady)

stops_faulted : (f : Files) (at : Wanted) (before : List Input) (s : Status) (t : List ℕ) → f.faults < f.faults_after → Stops f at before s t → s ≡ ends.ReadFault
stops_faulted f at before s t rose (unbrought why) = unbrought_faulted f at.name (limit_of at.kind) s t rose why
stops_faulted f at before s t rose (refused quiet vain) = absurd (no_fault f rose quiet.faults)

line_faulted : (form : Option Form) (f : Files) (s : Status) (t : List ℕ) → f.faults < f.faults_after → LineSays form f s t → s ≡ ends.ReadFault
line_faulted None f s t rose usage = absurd (no_fault f rose usage.quiet.faults)
line_faulted (Some c) f s t rose (stopped at before reaches why) = stops_faulted f at before s t rose why
line_faulted (Some c) f s t rose (done inputs quiet read output) = absurd (no_fault f rose quiet.faults)

-- it is told by the status
tells_read_fault : (s : Status) → s ≡ ends.ReadFault → TellsFetchFault s
tells_read_fault s is = subst TellsFetchFault (sym is) tt

pub fault_is_told : (form : Option Form) (f : Files) (s : Status) (before after : Option (List ℕ)) → Writes (LineSays form f) s before after → f.faults < f.faults_after → TellsFetchFault s
fault_is_told form f ends.Ok before after w rose = tells_read_fault ends.Ok (line_faulted form f ends.Ok w.0 rose w.1)
fault_is_told form f ends.Usage before after w rose = tells_read_fault ends.Usage (line_faulted form f ends.Usage w.0 rose w.1)
fault_is_told form f ends.SourceRefused before after w rose = tells_read_fault ends.SourceRefused (line_faulted form f ends.SourceRefused w.0 rose w.1)
fault_is_told form f ends.WorldRefused before after w rose = tells_read_fault ends.WorldRefused (line_faulted form f ends.WorldRefused w.0 rose w.1)
fault_is_told form f ends.ImageRefused before after w rose = tells_read_fault ends.ImageRefused (line_faulted form f ends.ImageRefused w.0 rose w.1)
fault_is_told form f ends.TooLong before after w rose = tells_read_fault ends.TooLong (line_faulted form f ends.TooLong w.0 rose w.1)
fault_is_told form f ends.Trapped before after w rose = tells_read_fault ends.Trapped (line_faulted form f ends.Trapped w.0 rose w.1)
fault_is_told form f ends.PowerEnded before after w rose = tells_read_fault ends.PowerEnded (line_faulted form f ends.PowerEnded w.0 rose w.1)
fault_is_told form f ends.ScriptRefused before after w rose = tells_read_fault ends.ScriptRefused (line_faulted form f ends.ScriptRefused w.0 rose w.1)
fault_is_told form f ends.ReportRefused before after w rose = tells_read_fault ends.ReportRefused (line_faulted form f ends.ReportRefused w.0 rose w.1)
fault_is_told form f ends.Illegal before after w rose = tells_read_fault ends.Illegal (line_faulted form f ends.Illegal w.0 rose w.1)
fault_is_told form f ends.ReadFault before after w rose = tt
fault_is_told form f ends.WriteFault before after w rose = tt
fault_is_told form f ends.NoMemory before after w rose = tt

-- ---- words that are no command

usage_line : (form : Option Form) (f : Files) (s : Status) (t : List ℕ) → form ≡ None → LineSays form f s t → s ≡ ends.Usage
usage_line form f s t none said = let usage : IsUsage f s t = subst (λ (o : Option Form). LineSays o f s t) none said in usage.status_is

pub none_is_usage : (form : Option Form) (f : Files) (s : Status) (before after : Option (List ℕ)) → form ≡ None → Writes (LineSays form f) s before after → (s ≡ ends.Usage) ⊎ (s ≡ ends.WriteFault) ⊎ (s ≡ ends.NoMemory)
none_is_usage form f ends.Ok before after none w = inl ((usage_line form f ends.Ok w.0 none w.1))
none_is_usage form f ends.Usage before after none w = inl refl
none_is_usage form f ends.SourceRefused before after none w = inl ((usage_line form f ends.SourceRefused w.0 none w.1))
none_is_usage form f ends.WorldRefused before after none w = inl ((usage_line form f ends.WorldRefused w.0 none w.1))
none_is_usage form f ends.ImageRefused before after none w = inl ((usage_line form f ends.ImageRefused w.0 none w.1))
none_is_usage form f ends.TooLong before after none w = inl ((usage_line form f ends.TooLong w.0 none w.1))
none_is_usage form f ends.Trapped before after none w = inl ((usage_line form f ends.Trapped w.0 none w.1))
none_is_usage form f ends.PowerEnded before after none w = inl ((usage_line form f ends.PowerEnded w.0 none w.1))
none_is_usage form f ends.ScriptRefused before after none w = inl ((usage_line form f ends.ScriptRefused w.0 none w.1))
none_is_usage form f ends.ReportRefused before after none w = inl ((usage_line form f ends.ReportRefused w.0 none w.1))
none_is_usage form f ends.Illegal before after none w = inl ((usage_line form f ends.Illegal w.0 none w.1))
none_is_usage form f ends.ReadFault before after none w = inl ((usage_line form f ends.ReadFault w.0 none w.1))
none_is_usage form f ends.WriteFault before after none w = inr (inl refl)
none_is_usage form f ends.NoMemory before after none w = inr (inr refl)

-- ---- files that are there

-- one of the files that are there
there_at : (contents : Contents) (front : List Wanted) (at : Wanted) (back : List Wanted) → AreThere contents (front ++ at ∷ back) → (bytes : List ℕ) × (contents at.name ≡ Some bytes) × (length bytes ≤ limit_of at.kind)
there_at contents [] at back there = there.0
there_at contents (w ∷ front) at back there = there_at contents front at back there.1

none_lacks : (o : Option (List ℕ)) (bytes : List ℕ) → o ≡ Some bytes → o ≡ None → ⊥
none_lacks o bytes some none = cc

not_long : (o : Option (List ℕ)) (limit : ℕ) (a b : List ℕ) → o ≡ Some a → length a ≤ limit → o ≡ Some b → limit < length b → ⊥
not_long o limit a b first short second above = let same : a ≡ b = cc in let less : limit < length a = subst (λ (x : List ℕ). limit < length x) (sym same) above in omega (arith, short, less)

risen : (before after : ℕ) → after ≡ raised before → HasRisen before after
risen before after is = subst (λ (n : ℕ). n ≤ after) is (omega arith)

-- can't be kept from being read
brought_always : (c : Form) (f : Files) (at : Wanted) (before : List Input) (s : Status) (t : List ℕ) → CanBeRead c f → Reaches f c at before → IsUnbrought f at.name (limit_of at.kind) s t → ⊥
brought_always c f at before s t can reaches (failed is line steady why) = elim why [
  | inl rose ↦ can.steady rose
  | inr lacks ↦
      let there = there_at f.contents reaches.front at reaches.back (subst (AreThere f.contents) reaches.order (can.there lacks.0)) in
      none_lacks (f.contents at.name) there.0 there.1 lacks.1
]
brought_always c f at before s t can reaches (long is line steady rose why) = elim can.short [
  | inl told ↦
      let there = there_at f.contents reaches.front at reaches.back (subst (AreThere f.contents) reaches.order (can.there told)) in
      let w = why told in
      not_long (f.contents at.name) (limit_of at.kind) there.0 w.0 there.1 there.2 w.1 w.2
  | inr still ↦ still (risen f.long f.long_after rose)
]

says_settles : (c : Form) (f : Files) (s : Status) (t : List ℕ) → CanBeRead c f → Says c f s t → Settles c f s
says_settles c f s t can (stopped at before reaches (unbrought why)) = absurd (brought_always c f at before s t can reaches why)
says_settles c f s t can (stopped at before reaches (refused quiet vain)) =
    settled.refused at before vain.bytes reaches vain.brought vain.refused.none vain.refused.status_is
says_settles c f s t can (done inputs quiet read output) = accepted inputs t read output

line_settles : (form : Option Form) (c : Form) (f : Files) (s : Status) (t : List ℕ) → form ≡ Some c → CanBeRead c f → LineSays form f s t → Settles c f s
line_settles form c f s t some can said = says_settles c f s t can (subst (λ (o : Option Form). LineSays o f s t) some said)

pub written_settles : (form : Option Form) (c : Form) (f : Files) (s : Status) (before after : Option (List ℕ)) → form ≡ Some c → CanBeRead c f → (s ≡ ends.WriteFault → ⊥) → Writes (LineSays form f) s before after → Settles c f s
written_settles form c f ends.Ok before after some can whole w = line_settles form c f ends.Ok w.0 some can w.1
written_settles form c f ends.Usage before after some can whole w = line_settles form c f ends.Usage w.0 some can w.1
written_settles form c f ends.SourceRefused before after some can whole w = line_settles form c f ends.SourceRefused w.0 some can w.1
written_settles form c f ends.WorldRefused before after some can whole w = line_settles form c f ends.WorldRefused w.0 some can w.1
written_settles form c f ends.ImageRefused before after some can whole w = line_settles form c f ends.ImageRefused w.0 some can w.1
written_settles form c f ends.ReadFault before after some can whole w = line_settles form c f ends.ReadFault w.0 some can w.1
written_settles form c f ends.TooLong before after some can whole w = line_settles form c f ends.TooLong w.0 some can w.1
written_settles form c f ends.Trapped before after some can whole w = line_settles form c f ends.Trapped w.0 some can w.1
written_settles form c f ends.PowerEnded before after some can whole w = line_settles form c f ends.PowerEnded w.0 some can w.1
written_settles form c f ends.ScriptRefused before after some can whole w = line_settles form c f ends.ScriptRefused w.0 some can w.1
written_settles form c f ends.ReportRefused before after some can whole w = line_settles form c f ends.ReportRefused w.0 some can w.1
written_settles form c f ends.Illegal before after some can whole w = line_settles form c f ends.Illegal w.0 some can w.1
written_settles form c f ends.WriteFault before after some can whole w = absurd (whole refl)
written_settles form c f ends.NoMemory before after some can whole w = no_memory refl

-- a refusal whose line was written whole settles the status
pub settles_by_line : (form : Option Form) (f : Files) (e : Refusal) (s : Status) (t sent : List ℕ) (before mid after : Option (List ℕ)) (c : Form) → e ≡ refusal.Refused s t
    → Answers (LineSays form f) (Err e) before mid → sent ≡ t → after ≡ extended mid sent → form ≡ Some c → CanBeRead c f → Settles c f s
settles_by_line form f e s t sent before mid after c is answers same wrote some can =
    let told : Answers (LineSays form f) (Err (refusal.Refused s t)) before mid = subst (λ (x : Refusal). Answers (LineSays form f) (Err x) before mid) is answers in
    written_settles form c f s before after some can (refusal_has_line form f s t before mid told) (writes_line form f s t sent before mid after told same wrote)
