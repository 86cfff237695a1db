-- What is wrong with bytes, test by test.
use Rattle.std.proofs.Common.{◌≡◌, ℕ, List, [], ◌∷◌, Option, None, Some, refl, ap, ◌∙◌, slice_get}
use Rattle.image_file.specs.declared.error.ImageError.{ImageError}
use Rattle.image_file.specs.declared.error.ImageError.TheVariants.{Trailing}
use Rattle.image_file.specs.declared.raw.RawImage.{RawImage}
use Rattle.image_file.specs.Faults.{or_else, version_fault, scheme_fault, rest_fault, layout_fault, fields_fault, front_fault}
use Rattle.image_file.specs.Layout.{raw_image}

-- where version and scheme pass, the layout decides
pub front_of : (fields : List ℕ) (o : Option (RawImage × List ℕ)) → version_fault (slice_get fields 0) ≡ None → scheme_fault (slice_get fields 1) ≡ None → raw_image.read fields ≡ o → front_fault fields ≡ layout_fault o
front_of fields o version scheme read =
    ap (λ f. or_else f (or_else (scheme_fault (slice_get fields 1)) (layout_fault (raw_image.read fields)))) version
    ∙ ap (λ f. or_else f (layout_fault (raw_image.read fields))) scheme ∙ ap layout_fault read

-- a fault of the fields
pub fault_of_fields : (raw : RawImage) (rest : List ℕ) (e : ImageError) → fields_fault raw ≡ Some e → layout_fault (Some (raw, rest)) ≡ Some e
fault_of_fields raw rest e h = ap (λ f. or_else f (rest_fault rest)) h

-- only what stands behind good fields
pub fault_of_rest : (raw : RawImage) (rest : List ℕ) → fields_fault raw ≡ None → layout_fault (Some (raw, rest)) ≡ rest_fault rest
fault_of_rest raw rest h = ap (λ f. or_else f (rest_fault rest)) h

-- bytes that are there
pub some_rest : (rest : List ℕ) → (rest ≡ [] → ⊥) → rest_fault rest ≡ Some Trailing
some_rest [] h = absurd (h refl)
some_rest (byte ∷ bytes) h = refl
