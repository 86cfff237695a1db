-- The contents of a list of files, one file after another.
use Rattle.std.proofs.Common.{◌≡◌, ◌≢◌, ℕ, ◌+◌, ◌<◌, ◌≤◌, length, drop, get_or, Bool, true, false, cond, List, [], ◌∷◌, ◌++◌, refl, sym, ap, ◌∙◌}
use Rattle.std.specs.Prelude.{Some, None}
use Rattle.std.specs.Str.{bytes_eq}
use Rattle.std.proofs.lemmas.List.{at_drop_more, at_drop_all}
use Rattle.std.proofs.lemmas.Slice.Eq.{bytes_eq-Decides}
use Rattle.ease_base.specs.declared.mem_cabinet.File.{File}
use Rattle.ease_base.specs.MemCabinet.{contents_in}

-- no file, no contents
pub no_files : (name : List ℕ) → contents_in [] name ≡ None
unfolding contents_in
no_files name = refl

-- the first file of a name decides
pub at_file : (file : File) (files : List File) (name : List ℕ) → contents_in (file ∷ files) name ≡ cond (bytes_eq file.name name) (Some file.bytes) (contents_in files name)
unfolding contents_in
at_file file files name = refl

-- a file behind the others is found by its name, where that was absent
pub added_found : (files : List File) (file : File) → contents_in files file.name ≡ None → contents_in (files ++ file ∷ []) file.name ≡ Some file.bytes
unfolding contents_in
added_found [] file absent = rw ((bytes_eq-Decides file.name file.name).1 refl)
added_found (first ∷ files) file absent = first_cases (bytes_eq first.name file.name) absent (λ e. added_found files file e)
  where
    first_cases : (same : Bool) → cond same (Some first.bytes) (contents_in files file.name) ≡ None → (contents_in files file.name ≡ None → contents_in (files ++ file ∷ []) file.name ≡ Some file.bytes) → cond same (Some first.bytes) (contents_in (files ++ file ∷ []) file.name) ≡ Some file.bytes
    first_cases true e rest = cc
    first_cases false e rest = rest e

-- and the contents of every other name stay
pub added_others : (files : List File) (file : File) (other : List ℕ) → other ≢ file.name → contents_in (files ++ file ∷ []) other ≡ contents_in files other
unfolding contents_in
added_others [] file other differs = last_cases (bytes_eq file.name other) (bytes_eq-Decides file.name other).0
  where
    last_cases : (same : Bool) → (same ≡ true → file.name ≡ other) → cond same (Some file.bytes) None ≡ None
    last_cases true told = absurd (differs (sym (told refl)))
    last_cases false told = refl
added_others (first ∷ files) file other differs = ap (cond (bytes_eq first.name other) (Some first.bytes)) (added_others files file other differs)

-- the same, where the list, the name and the bytes are known by equations
pub put_found : (files new : List File) (file : File) (name bytes : List ℕ) → new ≡ files ++ file ∷ [] → file.name ≡ name → file.bytes ≡ bytes → contents_in files name ≡ None → contents_in new name ≡ Some bytes
put_found files new file name bytes at_new at_name at_bytes absent =
    let absent_too : contents_in files file.name ≡ None = ap (contents_in files) at_name ∙ absent in
    ap (λ (x : List File). contents_in x name) at_new ∙ ap (contents_in (files ++ file ∷ [])) (sym at_name) ∙ added_found files file absent_too ∙ ap Some at_bytes

pub put_others : (files new : List File) (file : File) (name other : List ℕ) → new ≡ files ++ file ∷ [] → file.name ≡ name → other ≢ name → contents_in new other ≡ contents_in files other
put_others files new file name other at_new at_name differs =
    ap (λ (x : List File). contents_in x other) at_new ∙ added_others files file other (λ same. differs (same ∙ at_name))

-- how far a search through the files has come
pub passed : (files : List File) (i : ℕ) (file : File) (name : List ℕ) → i < length files → file ≡ get_or files i file → bytes_eq file.name name ≡ false → contents_in (drop i files) name ≡ contents_in (drop (i + 1) files) name
unfolding contents_in
passed files i file name within at differs = at_drop_more (λ (x : List File). contents_in x name) files i file within ∙ rw (← at, differs)

pub reached : (files : List File) (i : ℕ) (file : File) (name : List ℕ) → i < length files → file ≡ get_or files i file → bytes_eq file.name name ≡ true → contents_in (drop i files) name ≡ Some file.bytes
unfolding contents_in
reached files i file name within at same = at_drop_more (λ (x : List File). contents_in x name) files i file within ∙ rw (← at, same)

pub passed_all : (files : List File) (i : ℕ) (name : List ℕ) → length files ≤ i → contents_in (drop i files) name ≡ None
unfolding contents_in
passed_all files i name past = at_drop_all (λ (x : List File). contents_in x name) files i past
