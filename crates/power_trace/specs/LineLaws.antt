-- Bytes put behind a line that holds 256.
use Rattle.std.specs.Prelude.{min}
use Rattle.std.proofs.Common.{take_all, ◌≡◌, ◌∙◌, ℕ, zero, suc, ◌+◌, ◌-◌, ◌≤◌, List, [], ◌∷◌, ◌++◌, length, take, refl, sym, ap, append_assoc, arith}
use Rattle.std.proofs.Math.Seq.{take-append-add}
use Rattle.std.proofs.lemmas.List.{take_min, length-take-le}
use Rattle.std.proofs.lemmas.Slice.{take-put_mid}
use Rattle.power_trace.specs.Put.{IsPut}
use borrow.Rule.Slice.PartMut.{put_mid}

-- as many as fit
pub put_fits : (len count k : ℕ) (bytes new text old : List ℕ) → length bytes ≡ 256 → len ≤ 256 → count ≡ min (length text) (256 - len) → new ≡ take count text → take len bytes ≡ old
    → IsPut old (take (len + count) (put_mid len k bytes new)) text
unfolding IsPut
put_fits len count k bytes new text old room within counted taken held =
    let some : length (take count text) ≡ count = length-take-le count text (omega (arith, counted)) in
    let size : length new ≡ count = ap length taken ∙ some in
    let so_far : length old ≡ len = sym (ap length held) ∙ length-take-le len bytes (omega (arith, room, within)) in
    let put : take (len + count) (put_mid len k bytes new) ≡ take len bytes ++ new = take-put_mid len k bytes new (len + count) (omega (arith, size)) (omega (arith, room, within)) in
    let rooms : 256 ≡ length old + (256 - len) = omega (arith, so_far, within) in
    let least : count ≡ min (256 - len) (length text) = omega (arith, counted) in
    let all : take 256 (old ++ text) ≡ old ++ take (256 - len) text =
    ap (λ n. take n (old ++ text)) rooms ∙ take-append-add old text (256 - len) in
    let fits : take count text ≡ take (256 - len) text = ap (λ n. take n text) least ∙ take_min (256 - len) text in
    put ∙ ap (λ xs. xs ++ new) held ∙ ap (λ xs. old ++ xs) (taken ∙ fits) ∙ sym all

take_front : (n : ℕ) (x y : List ℕ) → take n (take n x ++ y) ≡ take n (x ++ y)
take_front zero x y = refl
take_front (suc n) [] y = refl
take_front (suc n) (a ∷ x) y = ap (λ l. a ∷ l) (take_front n x y)

-- one text and then another
pub put_more : (a b c x y : List ℕ) → IsPut a b x → IsPut b c y → IsPut a c (x ++ y)
unfolding IsPut
put_more a b c x y first second =
    second ∙ ap (λ l. take 256 (l ++ y)) first ∙ take_front 256 (a ++ x) y ∙ ap (take 256) (append_assoc a x y)

-- six texts, one after another
pub six_puts : (l0 l1 l2 l3 l4 l5 l6 a b c d e f : List ℕ) → IsPut l0 l1 a → IsPut l1 l2 b → IsPut l2 l3 c → IsPut l3 l4 d → IsPut l4 l5 e → IsPut l5 l6 f
    → IsPut l0 l6 (a ++ b ++ c ++ d ++ e ++ f)
six_puts l0 l1 l2 l3 l4 l5 l6 a b c d e f first second third fourth fifth sixth =
    let two = put_more l0 l1 l2 a b first second in
    let three = put_more l0 l2 l3 (a ++ b) c two third in
    let four = put_more l0 l3 l4 (a ++ b ++ c) d three fourth in
    let five = put_more l0 l4 l5 (a ++ b ++ c ++ d) e four fifth in
    put_more l0 l5 l6 (a ++ b ++ c ++ d ++ e) f five sixth

-- a list of length 0
pub nothing_left : {X : Type 0} (xs : List X) → length xs ≡ 0 → [] ≡ xs
nothing_left [] e = refl
nothing_left (x ∷ xs) e = absurd (omega arith)

-- what has room is there whole
pub put_whole : (line text : List ℕ) → IsPut [] line text → length text ≤ 256 → line ≡ text
unfolding IsPut
put_whole line text put fits = put ∙ take_all 256 text fits

-- a head, a text and a line feed, with room for all
pub line_put : (l1 l2 l3 head text : List ℕ) → IsPut [] l1 head → IsPut l1 l2 text → IsPut l2 l3 (10 ∷ []) → length (head ++ text ++ 10 ∷ []) ≤ 256 → l3 ≡ head ++ text ++ 10 ∷ []
line_put l1 l2 l3 head text first second third fits =
    put_whole l3 (head ++ text ++ 10 ∷ []) (put_more [] l2 l3 (head ++ text) (10 ∷ []) (put_more [] l1 l2 head text first second) third) fits
