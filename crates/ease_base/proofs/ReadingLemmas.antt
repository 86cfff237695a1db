-- A reader that gives one piece after another.
use Rattle.std.proofs.Common.{◌≡◌, ℕ, ◌+◌, List, [], ◌++◌, Option, Some, None, take, length, refl, ap, sym, subst, ◌∙◌, append_assoc, length-append, arith}
use Rattle.std.proofs.Math.Seq.{take-append_seam}
use Rattle.std.proofs.lemmas.List.{append-nil}
use Rattle.std.specs.Io.KnownBytes.{Consumes, IsAtEnd}
use Rattle.ease_base.specs.Reading.{ReadsAll, ReadsFront}

-- nothing is read yet
pub read_none : (known : Option (List ℕ)) → Consumes known known []
read_none None = tt
read_none (Some bytes) = refl

-- one piece and then another are the two in a row
pub read_twice : (old mid new : Option (List ℕ)) (xs ys : List ℕ) → Consumes old mid xs → Consumes mid new ys → Consumes old new (xs ++ ys)
read_twice None mid new xs ys h k = tt
read_twice (Some all) None new xs ys h k = elim h [ ]
read_twice (Some all) (Some rest) None xs ys h k = elim k [ ]
read_twice (Some all) (Some rest) (Some left) xs ys h k = h ∙ ap (λ (bytes : List ℕ). xs ++ bytes) k ∙ sym (append_assoc xs ys left)

-- at the end all is read
pub read_all : (old new : Option (List ℕ)) (xs : List ℕ) → Consumes old new xs → IsAtEnd new → ReadsAll old xs
read_all None new xs h k = tt
read_all (Some all) None xs h k = elim h [ ]
read_all (Some all) (Some rest) xs h k = sym (h ∙ ap (λ (bytes : List ℕ). xs ++ bytes) k ∙ append-nil xs)

-- what is read so far is a front of all
pub read_front : (old new : Option (List ℕ)) (xs : List ℕ) (limit : ℕ) → Consumes old new xs → length xs ≡ limit + 1 → ReadsFront old limit xs
read_front None new xs limit h k = tt
read_front (Some all) None xs limit h k = elim h [ ]
read_front (Some all) (Some rest) xs limit h k =
    let size : length all ≡ length xs + length rest = ap length h ∙ length-append xs rest in
    let same : take (limit + 1) all ≡ xs = subst (λ n. take n all ≡ xs) k (ap (take (length xs)) h ∙ take-append_seam xs rest) in
    (omega (arith, size, k), sym same)
