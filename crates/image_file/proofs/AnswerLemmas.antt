-- What an answer says of the bytes of images.
use Rattle.std.proofs.Common.{◌≡◌, ◌≢◌, ℕ, List, None, Some, Result, Ok, Err, IfOk, MatchResult, sym, subst, ◌∙◌}
use Rattle.word_isa.specs.declared.image.Image.{Image}
use Rattle.image_file.specs.declared.error.ImageError.{ImageError}
use Rattle.image_file.specs.declared.error.ImageError.TheVariants.{NoMemory}
use Rattle.image_file.specs.Answers.{Answers}
use Rattle.image_file.specs.Bytes.{raw_of, image_bytes, IsImageAt, HasFields}
use Rattle.image_file.specs.Faults.{image_fault}
use Rattle.image_file.specs.Fields.{AreBytes}
use Rattle.image_file.proofs.ImageLaws.{no_fault, image_there, one_image, bytes_are_its}

-- an image that is found has these bytes
pub found_bytes : (bytes : List ℕ) (result : Result Image ImageError) → AreBytes bytes → Answers (image_fault bytes) (λ i. IsImageAt bytes i) result → IfOk result (λ i. bytes ≡ image_bytes i)
found_bytes bytes (Ok i) small answer = bytes_are_its bytes i small answer.1
found_bytes bytes (Err e) small answer = tt

-- no other image is found, and none is refused
pub found_only : (bytes : List ℕ) (result : Result Image ImageError) (i : Image) → HasFields i → bytes ≡ image_bytes i → Answers (image_fault bytes) (λ j. IsImageAt bytes j) result
    → MatchResult result (λ j. raw_of j ≡ raw_of i) (λ fault. fault ≢ NoMemory → ⊥)
found_only bytes (Ok j) i fits is answer = one_image bytes j i answer.1 (subst (λ b. IsImageAt b i) (sym is) (image_there i fits))
found_only bytes (Err e) i fits is answer = λ other. none_some e (sym (subst (λ b. image_fault b ≡ None) (sym is) (no_fault i fits)) ∙ answer other)
  where
    none_some : (e : ImageError) → None ≡ Some e → ⊥
    none_some e h = cc
