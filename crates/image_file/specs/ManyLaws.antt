-- Many values, read one after another.
use Rattle.std.proofs.Common.{◌≡◌, ℕ, suc, ◌+◌, ◌-◌, ◌<◌, List, [], ◌∷◌, ◌++◌, Option, Some, None, refl, ap, sym, ◌∙◌, append_assoc, arith}
use Rattle.std.proofs.lemmas.List.{append-nil}
use Rattle.image_file.specs.Fields.{many_at, ◌>>=◌}

-- what was read so far stands in front of what is read of the rest
abbrev pub behind_done : {A : Type 0} → List A → Option (List A × List ℕ) → Option (List A × List ℕ)
behind_done done None = None
behind_done done (Some p) = Some (done ++ p.0, p.1)

-- nothing was read yet
many_begun : {A : Type 0} (o : Option (List A × List ℕ)) → behind_done [] o ≡ o
many_begun None = refl
many_begun (Some p) = refl

-- one more was read
moved_over : {A : Type 0} (done : List A) (x : A) (o : Option (List A × List ℕ)) → behind_done done (o >>= (λ xs. Some (x ∷ xs.0, xs.1))) ≡ behind_done (done ++ x ∷ []) o
moved_over done x None = refl
moved_over done x (Some p) = ap (λ xs. Some (xs, p.1)) (sym (append_assoc done (x ∷ []) p.0))

many_passed : {A : Type 0} (read : List ℕ → Option (A × List ℕ)) (n : ℕ) (done : List A) (bytes behind : List ℕ) (x : A) → read bytes ≡ Some (x, behind)
    → behind_done done (many_at read (suc n) bytes) ≡ behind_done (done ++ x ∷ []) (many_at read n behind)
many_passed read n done bytes behind x e =
    ap (λ o. behind_done done (o >>= (λ y. many_at read n y.1 >>= (λ xs. Some (y.0 ∷ xs.0, xs.1))))) e ∙ moved_over done x (many_at read n behind)

-- the bytes ended
many_ended : {A : Type 0} (read : List ℕ → Option (A × List ℕ)) (n : ℕ) (done : List A) (bytes : List ℕ) → read bytes ≡ None
    → behind_done done (many_at read (suc n) bytes) ≡ None
many_ended read n done bytes e = ap (λ o. behind_done done (o >>= (λ y. many_at read n y.1 >>= (λ xs. Some (y.0 ∷ xs.0, xs.1))))) e

-- all were read
many_done : {A : Type 0} (done : List A) (bytes : List ℕ) → behind_done done (Some ([], bytes)) ≡ Some (done, bytes)
many_done done bytes = ap (λ xs. Some (xs, bytes)) (append-nil done)

-- before the first value
pub many_first : {A : Type 0} (read : List ℕ → Option (A × List ℕ)) (count : ℕ) (bytes : List ℕ) → behind_done [] (many_at read (count - 0) bytes) ≡ many_at read count bytes
many_first read count bytes =
    let n : count - 0 ≡ count = omega arith in
    ap (λ k. behind_done [] (many_at read k bytes)) n ∙ many_begun (many_at read count bytes)

-- a value more
pub many_next : {A : Type 0} (read : List ℕ → Option (A × List ℕ)) (count i : ℕ) (done : List A) (bytes behind : List ℕ) (x : A) (whole : Option (List A × List ℕ)) → i < count → read bytes ≡ Some (x, behind)
    → behind_done done (many_at read (count - i) bytes) ≡ whole → behind_done (done ++ x ∷ []) (many_at read (count - (i + 1)) behind) ≡ whole
many_next read count i done bytes behind x whole less e h =
    let n : count - i ≡ suc (count - (i + 1)) = omega arith in
    sym (many_passed read (count - (i + 1)) done bytes behind x e) ∙ ap (λ k. behind_done done (many_at read k bytes)) (sym n) ∙ h

-- the bytes end before the next value does
pub many_short : {A : Type 0} (read : List ℕ → Option (A × List ℕ)) (count i : ℕ) (done : List A) (bytes : List ℕ) (whole : Option (List A × List ℕ)) → i < count → read bytes ≡ None
    → behind_done done (many_at read (count - i) bytes) ≡ whole → None ≡ whole
many_short read count i done bytes whole less e h =
    let n : count - i ≡ suc (count - (i + 1)) = omega arith in
    sym (many_ended read (count - (i + 1)) done bytes e) ∙ ap (λ k. behind_done done (many_at read k bytes)) (sym n) ∙ h

-- behind the last value
pub many_last : {A : Type 0} (read : List ℕ → Option (A × List ℕ)) (count : ℕ) (done : List A) (bytes : List ℕ) (whole : Option (List A × List ℕ))
    → behind_done done (many_at read (count - count) bytes) ≡ whole → Some (done, bytes) ≡ whole
many_last read count done bytes whole h =
    let n : count - count ≡ 0 = omega arith in
    sym (many_done done bytes) ∙ ap (λ k. behind_done done (many_at read k bytes)) (sym n) ∙ h
