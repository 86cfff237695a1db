-- The length and the class of a copy: the length is tested against the rooms of both ends.
use Rattle.std.specs.Prelude.{◌==◌, ◌&&◌, if◌then◌else◌, not, nat_lt}
use Rattle.std.proofs.Common.{◌≡◌, ◌∙◌, ℕ, ◌+◌, ◌≤◌, Bool, true, false, List, [], ◌∷◌, ◌++◌, refl, ap, subst, arith}
use Rattle.fram_ram.specs.Memories.{has_word, put}
use Rattle.word_isa.specs.declared.instr.Instr.TheVariants.{Trap, St, Ld, Ltu, Jz}
use Rattle.word_machine.specs.Events.{event_next}
use Rattle.word_machine.specs.RunLaws.{exec_more, trace_more}
use Rattle.word_machine.specs.State.{Program}
use Rattle.word_machine.specs.Step.{step, exec}
use Rattle.word_machine.specs.Straight.{Spot, live}
use Rattle.word_machine.specs.Traces.{seen, trace, writes_next}
use Rattle.line_code.specs.declared.line.Line.{Line}
use Rattle.line_code.specs.Lines.{bares}
use Rattle.line_laws.specs.Standing.{Lie, lie_front, lie_behind}
use Rattle.word_code.specs.Acts.{jump}
use Rattle.word_code.specs.Tables.{class_code}
use Rattle.act_laws.specs.Codes.{Fixed, End, Acts, after_code, Goes, top}
use Rattle.act_laws.specs.CodeLaws.{goes_acts, goes_code, goes_jz, at_any, code_ends}
use Rattle.act_laws.specs.Values.{Traps}
use Rattle.act_laws.specs.Words.{class_of}
use Rattle.act_laws.proofs.Arguments.{goes_traps}
use Rattle.act_laws.proofs.ClassActs.{class_acts}

-- the act's end where a test is passed, else a trap
abbrev pub Passed : (p : Program) (x : Fixed) (most : ℕ) (s : Spot) (code : ℕ) (e : End) → Bool → Type 0
Passed p x most s code e true = Acts p x most s e
Passed p x most s code e false = Traps p most s code

abbrev pub room_test : (cell : ℕ) → List Line
room_test cell = bares (Ld 3 15 cell ∷ Ltu 3 1 ∷ [])

abbrev pub stop_lines : (code : ℕ) → List Line
stop_lines code = bares (Jz 3 1 ∷ Trap code ∷ [])

-- the length's code in its parts, with the jump behind it
abbrev pub length_lines : (next : ℕ) → List Line
length_lines next = (bares (St 1 15 44 ∷ []) ++ room_test 41) ++ (stop_lines 4 ++ (room_test 43 ++ (stop_lines 4 ++ ((class_code ++ bares (St 1 15 45 ∷ [])) ++ jump next))))

goes_passed : (p : Program) (x : Fixed) (n m most code : ℕ) (s t : Spot) (e : End) (c : Bool) → Goes p n s t [] → Passed p x m t code e c → n + m ≤ most → Passed p x most s code e c
goes_passed p x n m most code s t e true g h few = goes_acts p x n m most s t e [] e.atoms g h few refl
goes_passed p x n m most code s t e false g h few = goes_traps p n m most code s t g h few

-- a trap
pub stop_traps : (p : Program) (code : ℕ) (s : Spot) → Lie p s.pc (bares (Trap code ∷ [])) → Traps p 1 s code
unfolding exec trace step writes_next event_next
stop_traps p code s has = record { steps = 1; few = omega arith; ended = rw has.0.instr; quiet = rw has.0.instr }

-- a guard before what it lets pass
stop_passed : (p : Program) (x : Fixed) (m most code : ℕ) (s : Spot) (e : End) (b c : Bool) → Lie p s.pc (stop_lines code) → (s.regs 3 == 0) ≡ b
    → Passed p x m (record s { pc = s.pc + 1 + 1; clock = s.clock + 1 }) code e c → 1 ≤ m → 1 + m ≤ most → Passed p x most s code e (b && c)
stop_passed p x m most code s e true c has is go some few =
    goes_passed p x 1 m most code s _ e c (subst (λ b. Goes p 1 s (record s { pc = if b then s.pc + 1 + 1 else s.pc + 1; clock = s.clock + 1 }) []) is (goes_jz p 3 1 s (has.0, tt))) go (omega (arith, few))
stop_passed p x m most code s e false c has is go some few =
    goes_traps p 1 1 most code s _ (subst (λ b. Goes p 1 s (record s { pc = if b then s.pc + 1 + 1 else s.pc + 1; clock = s.clock + 1 }) []) is (goes_jz p 3 1 s (has.0, tt)))
    (stop_traps p code (record s { pc = s.pc + 1; clock = s.clock + 1 }) has.1) (omega (arith, some, few))

and_true : (b : Bool) → (b && true) ≡ b
and_true true = refl
and_true false = refl

fits_is : (b : Bool) → ((if b then 1 else 0) == 0) ≡ not b
fits_is true = refl
fits_is false = refl

-- the end of a copy's value: the length is kept where it fits both rooms, and so is the class
pub copy_end_acts : (p : Program) (x : Fixed) (next n : ℕ) (s : Spot) (single private : Bool) → s.regs 1 ≡ n
    → nat_lt (s.store 1048616) 1048576 ≡ single → nat_lt (s.store 1048618) 4097 ≡ private → Lie p s.pc (length_lines next)
    → Passed p x 19 (top x s) 4 (record { pc = next; store = put (put s.store 1048620 n) 1048621 (class_of single private); issued = s.issued; atoms = [] })
    (not (nat_lt (s.store 1048617) n) && not (nat_lt (s.store 1048619) n))
unfolding has_word
copy_end_acts p x next n s single private is is_single is_private has =
    let e : End = record { pc = next; store = put (put s.store 1048620 n) 1048621 (class_of single private); issued = s.issued; atoms = [] } in
    let first : List Line = bares (St 1 15 44 ∷ []) ++ room_test 41 in
    let class_part : List Line = (class_code ++ bares (St 1 15 45 ∷ [])) ++ jump next in
    let t : Spot = after_code p first (top x s) in
    let u : Spot = record t { pc = t.pc + 1 + 1; clock = t.clock + 1 } in
    let v : Spot = after_code p (room_test 43) u in
    let w : Spot = record v { pc = v.pc + 1 + 1; clock = v.clock + 1 } in
    let fit_to : Bool = not (nat_lt (s.store 1048617) n) in
    let fit_from : Bool = not (nat_lt (s.store 1048619) n) in
    let behind : List Line = stop_lines 4 ++ (room_test 43 ++ (stop_lines 4 ++ class_part)) in
    let at_t : Lie p t.pc behind = lie_behind p s.pc first behind t.pc has (code_ends p first (top x s)) in
    let at_u : Lie p u.pc (room_test 43 ++ (stop_lines 4 ++ class_part)) = lie_behind p t.pc (stop_lines 4) (room_test 43 ++ (stop_lines 4 ++ class_part)) u.pc at_t (omega arith) in
    let at_v : Lie p v.pc (stop_lines 4 ++ class_part) = lie_behind p u.pc (room_test 43) (stop_lines 4 ++ class_part) v.pc at_u (code_ends p (room_test 43) u) in
    let at_w : Lie p w.pc class_part = lie_behind p v.pc (stop_lines 4) class_part w.pc at_v (omega arith) in
    let kept : put s.store 1048620 (s.regs 1) ≡ put s.store 1048620 n = ap (put s.store 1048620) is in
    let last : Acts p x 12 w e = at_any p x 12 w e (refl, refl, refl, refl, refl)
    (subst (λ st. Acts p x 12 (top x w) (record e { store = put st 1048621 (class_of single private) })) kept (class_acts p x next w single private is_single is_private at_w)) in
    goes_passed p x 3 16 19 4 (top x s) t e (fit_to && fit_from) (goes_code p first (top x s) (lie_front p s.pc first behind has) refl)
    (stop_passed p x 15 16 4 t e fit_to fit_from (lie_front p t.pc (stop_lines 4) (room_test 43 ++ (stop_lines 4 ++ class_part)) at_t) (rw is (fits_is (nat_lt (s.store 1048617) n)))
    (goes_passed p x 2 13 15 4 u v e fit_from (goes_code p (room_test 43) u (lie_front p u.pc (room_test 43) (stop_lines 4 ++ class_part) at_u) refl)
    (subst (λ b. Passed p x 13 v 4 e b) (and_true fit_from) (stop_passed p x 12 13 4 v e fit_from true (lie_front p v.pc (stop_lines 4) class_part at_v) (rw is (fits_is (nat_lt (s.store 1048619) n))) last (omega arith) (omega arith))) (omega arith)) (omega arith) (omega arith)) (omega arith)
