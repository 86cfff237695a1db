-- Command lines and their forms, computed.
use Rattle.std.proofs.Common.{◌≡◌, true, false, [], ◌∷◌, refl, codes}
use Rattle.std.specs.Fmt.{digits}
use Rattle.std.specs.Prelude.{Some, None}
use Rattle.command_line.specs.Form.{walk, run, build, sites, debug, audit, soak, walk_in, run_in, build_in, sites_in, debug_in, audit_in, soak_in, form_of}
use Rattle.command_line.specs.Line.{line_from, value_from}
use Rattle.word_isa.specs.declared.parts.Scheme.TheVariants.{Undo, Bank}

-- options stand anywhere before `--`, and behind it every word is a place
brief_first : form_of (codes "--brief" ∷ codes "run" ∷ codes "i" ∷ codes "w" ∷ []) ≡ Some (run (codes "i") (codes "w") true)
unfolding form_of line_from value_from run_in
brief_first = refl

brief_is_a_file : form_of (codes "run" ∷ codes "--" ∷ codes "i" ∷ codes "--brief" ∷ []) ≡ Some (run (codes "i") (codes "--brief") false)
unfolding form_of line_from value_from run_in
brief_is_a_file = refl

walk_has_no_option : form_of (codes "walk" ∷ codes "--brief" ∷ codes "a" ∷ codes "5" ∷ []) ≡ None
unfolding form_of line_from value_from walk_in
walk_has_no_option = refl

one_line_alone : form_of (codes "walk" ∷ codes "-" ∷ codes "7" ∷ codes "w" ∷ []) ≡ Some (walk (codes "-") 7 (Some (codes "w")))
unfolding form_of line_from value_from walk_in digits
one_line_alone = refl

no_leading_zero : form_of (codes "walk" ∷ codes "a" ∷ codes "01" ∷ []) ≡ None
unfolding form_of line_from value_from walk_in digits
no_leading_zero = refl

no_help : form_of (codes "--help" ∷ []) ≡ None
unfolding form_of line_from value_from walk_in
no_help = refl

undo_is_built : form_of (codes "build" ∷ codes "a" ∷ []) ≡ Some (build (codes "a") Undo)
unfolding form_of line_from value_from build_in
undo_is_built = refl

a_scheme_is_named : form_of (codes "build" ∷ codes "--scheme" ∷ codes "bank" ∷ codes "a" ∷ []) ≡ Some (build (codes "a") Bank)
unfolding form_of line_from value_from build_in
a_scheme_is_named = refl

another_scheme : form_of (codes "build" ∷ codes "a" ∷ codes "--scheme=banks" ∷ []) ≡ None
unfolding form_of line_from value_from build_in
another_scheme = refl

sites_of_a_program : form_of (codes "sites" ∷ codes "--" ∷ codes "--brief" ∷ []) ≡ Some (sites (codes "--brief"))
unfolding form_of line_from value_from sites_in
sites_of_a_program = refl

sites_has_no_option : form_of (codes "sites" ∷ codes "a" ∷ codes "--brief" ∷ []) ≡ None
unfolding form_of line_from value_from sites_in
sites_has_no_option = refl

sites_has_one_file : form_of (codes "sites" ∷ codes "a" ∷ codes "b" ∷ []) ≡ None
unfolding form_of line_from value_from sites_in
sites_has_one_file = refl

three_files_are_debugged : form_of (codes "debug" ∷ codes "i" ∷ codes "--" ∷ codes "w" ∷ codes "--brief" ∷ []) ≡ Some (debug (codes "i") (codes "w") (codes "--brief"))
unfolding form_of line_from value_from debug_in
three_files_are_debugged = refl

debug_has_three_files : form_of (codes "debug" ∷ codes "i" ∷ codes "w" ∷ []) ≡ None
unfolding form_of line_from value_from debug_in
debug_has_three_files = refl

debug_is_never_brief : form_of (codes "debug" ∷ codes "i" ∷ codes "w" ∷ codes "s" ∷ codes "--brief" ∷ []) ≡ None
unfolding form_of line_from value_from debug_in
debug_is_never_brief = refl

a_report_is_audited : form_of (codes "audit" ∷ codes "p" ∷ codes "w" ∷ codes "r" ∷ []) ≡ Some (audit (codes "p") (codes "w") (codes "r"))
unfolding form_of line_from value_from audit_in
a_report_is_audited = refl

audit_has_a_world : form_of (codes "audit" ∷ codes "p" ∷ codes "r" ∷ []) ≡ None
unfolding form_of line_from value_from audit_in
audit_has_a_world = refl

soak_of_a_number : form_of (codes "soak" ∷ codes "24" ∷ []) ≡ Some (soak 24)
unfolding form_of line_from value_from soak_in digits
soak_of_a_number = refl

soak_has_one_number : form_of (codes "soak" ∷ codes "1" ∷ codes "2" ∷ []) ≡ None
unfolding form_of line_from value_from soak_in digits
soak_has_one_number = refl

soak_has_no_option : form_of (codes "soak" ∷ codes "1" ∷ codes "--scheme=undo" ∷ []) ≡ None
unfolding form_of line_from value_from soak_in
soak_has_no_option = refl

soak_wants_a_number : form_of (codes "soak" ∷ codes "+1" ∷ []) ≡ None
unfolding form_of line_from value_from soak_in digits
soak_wants_a_number = refl
