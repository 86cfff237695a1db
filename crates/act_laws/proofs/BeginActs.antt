-- An attempt's beginning, and the code of lists of words as lists of blocks.
use Rattle.act_laws.specs.Templates.{BeginDoes}
use Rattle.std.specs.Prelude.{◌*◌, ◌/◌}
use Rattle.std.proofs.Common.{◌≡◌, ◌∙◌, ℕ, zero, suc, ◌+◌, ◌%◌, ◌^◌, ◌<◌, ◌≤◌, true, List, [], ◌∷◌, ◌++◌, length, refl, sym, ap, subst, append-nil, append_assoc, length-append, arith}
use Rattle.std.specs.List.{AllByRecursion}
use Rattle.std.proofs.lemmas.Bool.Decides.{nat_tests}
use Rattle.devices.specs.declared.event.Event.TheVariants as the
use Rattle.fram_ram.specs.Memories.{has_word, is_fram, put}
use Rattle.task_ast.specs.declared.core_form.Array.{Array}
use Rattle.word_isa.specs.declared.instr.Instr.{Instr}
use Rattle.word_isa.specs.declared.instr.Instr.TheVariants.{Ldi, St}
use Rattle.word_isa.specs.declared.mark.MarkKind.TheVariants as mark
use Rattle.word_machine.specs.State.{Program}
use Rattle.word_machine.specs.Straight.{Spot}
use Rattle.word_machine.specs.Traces.{Atom, showed}
use Rattle.line_code.specs.declared.areas.Placed.{Placed}
use Rattle.line_code.specs.declared.line.Line.{Line}
use Rattle.line_code.specs.Areas.{area_at, pointer_at}
use Rattle.line_code.specs.Lines.{bare, bares, marked}
use Rattle.word_code.specs.Acts.{jump}
use Rattle.word_code.specs.Beginnings.{moved_code, homes_code, unset_code, words_code, volatile_words, volatile_code, level_code, level_count, begin_code}
use Rattle.word_code.specs.Frames.{Frame, sign}
use Rattle.word_code.specs.Repeats.{each}
use Rattle.line_laws.specs.Standing.{Lie, lie_front, lie_behind}
use Rattle.act_laws.specs.Codes.{Fixed, top, End, Acts, FramCell, RamCell}
use Rattle.act_laws.specs.Blocks.{Block, list_code, list_makes, list_atoms, AllGood, Copy, GoodCopy, copies, BankCell, Home, homes, Start, GoodStart, starts, GoodPointer, pointers, word_copies, array_copies, pointer_cells, word_starts, array_starts, home_items, begun_store}
use Rattle.act_laws.specs.CodeLaws.{flow_acts, acts_then, from_end, fram_cell, ram_cell}
use Rattle.act_laws.proofs.BlockActs.{list_acts, acts_jump, home_acts, start_acts, pointer_acts}

-- ---- lists of words as lists of blocks

pub bares_more : (a b : List Instr) → bares (a ++ b) ≡ bares a ++ bares b
bares_more [] b = refl
bares_more (i ∷ a) b = ap (λ (z : List Line). bare i ∷ z) (bares_more a b)

pub list_code_more : (b : Block) (is js : List b.Item) → list_code b (is ++ js) ≡ list_code b is ++ list_code b js
list_code_more b [] js = refl
list_code_more b (i ∷ is) js = ap (λ (z : List Line). bares (b.code i) ++ z) (list_code_more b is js) ∙ sym (append_assoc (bares (b.code i)) (list_code b is) (list_code b js))

pub all_good_more : (b : Block) (is js : List b.Item) → AllGood b is → AllGood b js → AllGood b (is ++ js)
all_good_more b [] js g h = h
all_good_more b (i ∷ is) js g h = (g.0, all_good_more b is js g.1 h)

pub words_are : (from to i n : ℕ) → bares (each (moved_code from to) i n) ≡ list_code copies (word_copies from to i n)
words_are from to i zero = refl
words_are from to i (suc n) = ap (λ (z : List Line). bares (moved_code from to i) ++ z) (words_are from to (i + 1) n)

pub homes_are : (areas : List Placed) (from to : ℕ) (arrays : List ℕ) → homes_code areas from to arrays ≡ list_code copies (array_copies areas from to arrays)
homes_are areas from to [] = refl
homes_are areas from to (a ∷ rest) =
    let p : Placed = area_at areas a in
    (λ i. words_are (p.offset + from) (p.offset + to) 0 p.room i ++ homes_are areas from to rest i)
    ∙ sym (list_code_more copies (word_copies (p.offset + from) (p.offset + to) 0 p.room) (array_copies areas from to rest))

pub pointers_are : (from n : ℕ) → bares (each unset_code from n) ≡ list_code pointers (pointer_cells from n)
pointers_are from zero = refl
pointers_are from (suc n) = ap (λ (z : List Line). bares (unset_code from) ++ z) (pointers_are (from + 1) n)

pub starts_are : (at : ℕ) (words : List ℕ) → bares (words_code at words) ≡ list_code starts (word_starts at words)
starts_are at [] = refl
starts_are at (w ∷ words) = ap (λ (z : List Line). bares (starts.code (record { at = at; word = w })) ++ z) (starts_are (at + 1) words)

pub volatile_are : (at : ℕ) (arrays : List Array) → volatile_code at arrays ≡ list_code starts (array_starts at arrays)
volatile_are at [] = refl
volatile_are at (a ∷ arrays) =
    let words : List ℕ = volatile_words a.kind a.first in
    (λ i. starts_are at words i ++ volatile_are (at + length words) arrays i) ∙ sym (list_code_more starts (word_starts at words) (array_starts (at + length words) arrays))

pub levels_are : (c w i n : ℕ) (hc : c ≤ 2048) (hw : w ≤ 2048) (few : i + n ≤ 2048) → bares (each level_code i n) ≡ list_code (homes c w) (home_items c w i n hc hw few)
levels_are c w i zero hc hw few = refl
levels_are c w i (suc n) hc hw few = ap (λ (z : List Line). bares (level_code i) ++ z) (levels_are c w (i + 1) n hc hw (omega (arith, few)))

all_good_homes : (c w : ℕ) (hs : List (Home c w)) → AllGood (homes c w) hs
all_good_homes c w [] = tt
all_good_homes c w (h ∷ hs) = (tt, all_good_homes c w hs)

good_pointers : (from n : ℕ) → from + n ≤ 256 → AllGood pointers (pointer_cells from n)
good_pointers from zero few = tt
good_pointers from (suc n) few = (record { address = ram_cell (pointer_at from) (omega (arith, few)); room = ram_cell (pointer_at from + 1) (omega (arith, few)) }, good_pointers (from + 1) n (omega (arith, few)))

good_starts : (at : ℕ) (words : List ℕ) → at + length words ≤ 4096 → AllByRecursion (λ w. w < 2 ^ 32) words → AllGood starts (word_starts at words)
good_starts at [] room fit = tt
good_starts at (w ∷ words) room fit = (record { cell = ram_cell at (omega (arith, room)); number = let small : w < 2 ^ 32 = fit.0 in omega (arith, small) }, good_starts (at + 1) words (omega (arith, room)) fit.1)

-- ---- an attempt begins

no_atoms_pointers : (ptrs : List ℕ) (store : ℕ → ℕ) → list_atoms pointers ptrs store ≡ []
no_atoms_pointers [] store = refl
no_atoms_pointers (at ∷ ptrs) store = no_atoms_pointers ptrs _

no_atoms_starts : (vols : List Start) (store : ℕ → ℕ) → list_atoms starts vols store ≡ []
no_atoms_starts [] store = refl
no_atoms_starts (v ∷ vols) store = no_atoms_starts vols _

-- the code of a beginning, by its pointers, volatile words and homes
abbrev pub begin_lines : Frame → (task : ℕ) → List ℕ → List Start → (b : Block) → List b.Item → (next : ℕ) → List Line
begin_lines f t ptrs vols b hs next =
    (marked (sign f mark.Begin t) (Ldi 1 t) ∷ bares (St 0 15 39 ∷ [])) ++ (list_code pointers ptrs ++ (list_code starts vols ++ (list_code b hs ++ jump next)))

pub begin_with : (p : Program) (x : Fixed) (fr : Frame) (task : ℕ) (ptrs : List ℕ) (vols : List Start) (hs : List (Home x.committed x.working)) (next : ℕ) (s : Spot)
    → AllGood pointers ptrs → AllGood starts vols → Lie p s.pc (begin_lines fr task ptrs vols (homes x.committed x.working) hs next)
    → Acts p x (3 + length (list_code pointers ptrs) + length (list_code starts vols) + length (list_code (homes x.committed x.working) hs)) (top x s) (record {
      pc = next;
      store = begun_store ptrs vols (homes x.committed x.working) hs s.store;
      issued = s.issued;
      atoms = showed (the.Begin task) ∷ list_atoms (homes x.committed x.working) hs (list_makes starts vols (list_makes pointers ptrs (put s.store 1048615 0)));
    })
unfolding has_word
begin_with p x fr task ptrs vols hs next s good_p good_v has =
    let b : Block = homes x.committed x.working in
    let first : List Line = marked (sign fr mark.Begin task) (Ldi 1 task) ∷ bares (St 0 15 39 ∷ []) in
    let a : List Line = list_code pointers ptrs in
    let v : List Line = list_code starts vols in
    let h : List Line = list_code b hs in
    let e : End = record { pc = s.pc + 2; store = put s.store 1048615 0; issued = s.issued; atoms = showed (the.Begin task) ∷ [] } in
    let f : End = record { pc = e.pc + length a; store = list_makes pointers ptrs e.store; issued = s.issued; atoms = list_atoms pointers ptrs e.store } in
    let g : End = record { pc = f.pc + length v; store = list_makes starts vols f.store; issued = s.issued; atoms = list_atoms starts vols f.store } in
    let k : End = record { pc = g.pc + length h; store = list_makes b hs g.store; issued = s.issued; atoms = list_atoms b hs g.store } in
    let at_p : Lie p e.pc (a ++ (v ++ (h ++ jump next))) = lie_behind p s.pc first (a ++ (v ++ (h ++ jump next))) e.pc has refl in
    let at_v : Lie p f.pc (v ++ (h ++ jump next)) = lie_behind p e.pc a (v ++ (h ++ jump next)) f.pc at_p refl in
    let at_h : Lie p g.pc (h ++ jump next) = lie_behind p f.pc v (h ++ jump next) g.pc at_v refl in
    acts_jump p x (2 + (length a + (length v + length h))) _ next (top x s) (record k { atoms = showed (the.Begin task) ∷ list_atoms b hs g.store })
    (acts_then p x x 2 (length a + (length v + length h)) _ (top x s) e k _
    (flow_acts p x 2 first (top x s) e (lie_front p s.pc first (a ++ (v ++ (h ++ jump next))) has) refl (refl, refl, refl, refl, refl) refl refl refl refl (omega arith))
    (λ regs clock. acts_then p x x (length a) (length v + length h) _ (from_end x e regs clock) f k _
    (list_acts p x pointers ptrs (record { pc = e.pc; regs = regs; store = e.store; clock = clock; issued = s.issued }) (λ i t good at. pointer_acts p x i t good at) good_p (lie_front p e.pc a (v ++ (h ++ jump next)) at_p))
    (λ regs clock. acts_then p x x (length v) (length h) _ (from_end x f regs clock) g k _
    (list_acts p x starts vols (record { pc = f.pc; regs = regs; store = f.store; clock = clock; issued = s.issued }) (λ i t good at. start_acts p x i t good at) good_v (lie_front p f.pc v (h ++ jump next) at_v))
    (λ regs clock. list_acts p x b hs (record { pc = g.pc; regs = regs; store = g.store; clock = clock; issued = s.issued }) (λ i t good at. home_acts p x i t at) (all_good_homes x.committed x.working hs) (lie_front p g.pc h (jump next) at_h))
    (omega arith) (rw (no_atoms_starts vols f.store) refl))
    (omega arith) (rw (no_atoms_pointers ptrs e.store) refl))
    (omega arith) refl)
    (lie_behind p g.pc h (jump next) k.pc at_h refl) (omega arith)

-- its parts, with what comes behind it
begins_are : (fr : Frame) (t next c w : ℕ) (hc : c ≤ 2048) (hw : w ≤ 2048) (few : 0 + level_count fr.scheme fr.core.arrays ≤ 2048)
    → begin_code fr t ++ jump next ≡ begin_lines fr t (pointer_cells 0 (length fr.core.pointers)) (array_starts 832 fr.core.arrays) (homes c w) (home_items c w 0 (level_count fr.scheme fr.core.arrays) hc hw few) next
begins_are fr t next c w hc hw few =
    let first : List Line = marked (sign fr mark.Begin t) (Ldi 1 t) ∷ bares (St 0 15 39 ∷ []) in
    let a : List Line = bares (each unset_code 0 (length fr.core.pointers)) in
    let v : List Line = volatile_code 832 fr.core.arrays in
    let h : List Line = bares (each level_code 0 (level_count fr.scheme fr.core.arrays)) in
    append_assoc first (a ++ (v ++ h)) (jump next)
    ∙ ap (λ (z : List Line). first ++ z) (append_assoc a (v ++ h) (jump next) ∙ ap (λ (z : List Line). a ++ z) (append_assoc v h (jump next)))
    ∙ (λ i. first ++ (pointers_are 0 (length fr.core.pointers) i ++ (volatile_are 832 fr.core.arrays i ++ (levels_are c w 0 (level_count fr.scheme fr.core.arrays) hc hw few i ++ jump next))))

-- an attempt begins: its mode, its pointers, its volatile words, and the homes of the working bank
pub begin_acts : (p : Program) (x : Fixed) (fr : Frame) (task next : ℕ) (s : Spot) (hc : x.committed ≤ 2048) (hw : x.working ≤ 2048) (few : 0 + level_count fr.scheme fr.core.arrays ≤ 2048) → BeginDoes p x fr task next s hc hw few
begin_acts p x fr task next s hc hw few small good has =
    begin_with p x fr task (pointer_cells 0 (length fr.core.pointers)) (array_starts 832 fr.core.arrays) (home_items x.committed x.working 0 (level_count fr.scheme fr.core.arrays) hc hw few) next s
    (good_pointers 0 (length fr.core.pointers) (omega (arith, small))) good (subst (Lie p s.pc) (begins_are fr task next x.committed x.working hc hw few) has)
