-- When a text is a document, by its two parts.
use Rattle.std.proofs.Common.{◌≡◌, Bool, true, false, ℕ, List, Some, None, cond, refl}
use Rattle.std.specs.Str.{IsUtf8, is_utf8}
use Rattle.std.proofs.lemmas.Str.{IsUtf8-from_is_utf8, is_utf8-from_IsUtf8}
use Rattle.toml.specs.Data.{Members}
use Rattle.toml.specs.Parse.{parse_document}
use Rattle.world_file.specs.Document.{document}

-- a text in UTF-8 that has a table
pub document_is : (bytes : List ℕ) (top : Members) → IsUtf8 bytes → parse_document bytes ≡ Some top → document bytes ≡ Some top
document_is bytes top utf8 parsed = rw (is_utf8-from_IsUtf8 bytes utf8) parsed

-- bytes of which none has, if they are a text in UTF-8
pub no_document : (bytes : List ℕ) → (IsUtf8 bytes → parse_document bytes ≡ None) → document bytes ≡ None
no_document bytes refused = by_test (is_utf8 bytes) refl
  where
    by_test : (t : Bool) → is_utf8 bytes ≡ t → cond t (parse_document bytes) None ≡ None
    by_test true is = refused (IsUtf8-from_is_utf8 bytes is)
    by_test false is = refl
