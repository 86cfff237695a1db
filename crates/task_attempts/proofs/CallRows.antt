-- What programs with calls show over failures, computed.
use Rattle.std.proofs.Common.{◌≡◌, ℕ, List, [], ◌∷◌, ◌++◌, refl}
use Rattle.task_ast.specs.declared.tree.Ann.TheVariants.{Timely, Always}
use Rattle.task_ast.specs.declared.core_form.CoreExpr.TheBlock.{hidden-the_row-CoreExpr-0, shape-the_row-CoreExpr-0}
use Rattle.walk_run.specs.Store.{place, word_at}
use Rattle.devices.specs.Reading.{reading, values_in}
use Rattle.devices.specs.Journal.{JournalEvent, begins, looks, keeps, drops, issues, seals, commits}
use Rattle.task_attempts.specs.State.{Rules, Standing, start}
use Rattle.task_attempts.specs.Boots.{boot_log, boots_from, left_by, expect}
use Rattle.task_attempts.specs.Journals.{retained}
use Rattle.task_attempts.proofs.Programs as programs
use Rattle.task_attempts.proofs.Programs.{sending, sensing, sense_and_send, sense_send_and_log}
use denote.Hole.Carrier.{hidden}

-- an attempt of a call that issues, after its beginning
issued : (site time peripheral : ℕ) → (args : List ℕ) → (value : ℕ) → List JournalEvent
issued k t p args v = looks k t ∷ drops k ∷ issues k p args v ∷ seals k ∷ []

-- A failure between issue and seal: it is issued twice, and the second reading is retained.
three_readings : Rules
three_readings = programs.reading (1 ∷ 2 ∷ 3 ∷ []) [] sending

a_failure_before_the_seal_issues_again : expect three_readings (4 ∷ 6 ∷ []) (40 ∷ 90 ∷ []) ≡
    (begins 1 ∷ looks 1 40 ∷ drops 1 ∷ issues 1 0 (7 ∷ []) 1 ∷ [])
    ∷ (begins 1 ∷ looks 1 90 ∷ drops 1 ∷ issues 1 0 (7 ∷ []) 2 ∷ seals 1 ∷ commits 0 ∷ [])
    ∷ []
unfolding hidden-the_row-CoreExpr-0 shape-the_row-CoreExpr-0 hidden boot_log boots_from values_in reading sending three_readings
a_failure_before_the_seal_issues_again = refl

the_second_reading_is_retained : retained sending (expect three_readings (4 ∷ 6 ∷ []) (40 ∷ 90 ∷ [])) ≡ 2 ∷ []
unfolding hidden-the_row-CoreExpr-0 shape-the_row-CoreExpr-0 hidden boot_log boots_from values_in reading sending three_readings
the_second_reading_is_retained = refl

-- A failure right behind the seal: the value is kept.
a_failure_behind_the_seal_keeps : expect three_readings (5 ∷ 4 ∷ []) (40 ∷ 90 ∷ []) ≡
    (begins 1 ∷ looks 1 40 ∷ drops 1 ∷ issues 1 0 (7 ∷ []) 1 ∷ seals 1 ∷ [])
    ∷ (begins 1 ∷ looks 1 90 ∷ keeps 1 1 ∷ commits 0 ∷ [])
    ∷ []
unfolding hidden-the_row-CoreExpr-0 shape-the_row-CoreExpr-0 hidden boot_log boots_from values_in reading sending three_readings
a_failure_behind_the_seal_keeps = refl

the_kept_reading_is_retained : retained sending (expect three_readings (5 ∷ 4 ∷ []) (40 ∷ 90 ∷ [])) ≡ 1 ∷ []
unfolding hidden-the_row-CoreExpr-0 shape-the_row-CoreExpr-0 hidden boot_log boots_from values_in reading sending three_readings
the_kept_reading_is_retained = refl

-- A reading that may be 1,000 ticks old: looked at 1,000 ticks later it is kept, a tick more and it is issued again. The
-- times are those of the looks, whenever the boot began.
two_temperatures : Rules
two_temperatures = programs.reading (20 ∷ 21 ∷ []) [] sensing

a_reading_at_its_limit_is_kept : expect two_temperatures (5 ∷ 4 ∷ []) (50 ∷ 1050 ∷ []) ≡
    (begins 1 ∷ looks 1 50 ∷ drops 1 ∷ issues 1 0 [] 20 ∷ seals 1 ∷ [])
    ∷ (begins 1 ∷ looks 1 1050 ∷ keeps 1 20 ∷ commits 0 ∷ [])
    ∷ []
unfolding hidden-the_row-CoreExpr-0 shape-the_row-CoreExpr-0 hidden boot_log boots_from values_in reading sensing two_temperatures
a_reading_at_its_limit_is_kept = refl

a_reading_past_its_limit_is_issued_again : expect two_temperatures (5 ∷ 6 ∷ []) (50 ∷ 1051 ∷ []) ≡
    (begins 1 ∷ looks 1 50 ∷ drops 1 ∷ issues 1 0 [] 20 ∷ seals 1 ∷ [])
    ∷ (begins 1 ∷ looks 1 1051 ∷ drops 1 ∷ issues 1 0 [] 21 ∷ seals 1 ∷ commits 0 ∷ [])
    ∷ []
unfolding hidden-the_row-CoreExpr-0 shape-the_row-CoreExpr-0 hidden boot_log boots_from values_in reading sensing two_temperatures
a_reading_past_its_limit_is_issued_again = refl

-- A sense that is done in each attempt makes its send go again.
two_senses : Rules
two_senses = programs.reading (20 ∷ 21 ∷ []) [] (sense_and_send Always)

-- what a sense and its send show, after the beginning
sensed_and_sent : (t u value : ℕ) → List JournalEvent
sensed_and_sent t u v =
    looks 1 t ∷ drops 1 ∷ drops 2 ∷ issues 1 0 [] v ∷ seals 1 ∷ looks 2 u ∷ drops 2 ∷ issues 2 1 (v ∷ []) 0 ∷ seals 2 ∷ []

a_new_sense_is_sent_again : expect two_senses (10 ∷ 11 ∷ []) (30 ∷ 60 ∷ 90 ∷ 120 ∷ []) ≡
    (begins 1 ∷ sensed_and_sent 30 60 20) ∷ (begins 1 ∷ sensed_and_sent 90 120 21 ++ commits 0 ∷ []) ∷ []
unfolding hidden-the_row-CoreExpr-0 shape-the_row-CoreExpr-0 hidden boot_log boots_from values_in reading sense_and_send two_senses sensed_and_sent
a_new_sense_is_sent_again = refl

-- An expired sense is done again and drops the send; the failure then comes before the send. In the third boot the sense is
-- kept, and yet the send goes again.
two_young_senses : Rules
two_young_senses = programs.reading (20 ∷ 21 ∷ []) [] (sense_and_send (Timely 1000))

a_kept_sense_is_sent_where_its_send_was_dropped : expect two_young_senses (10 ∷ 6 ∷ 8 ∷ []) (30 ∷ 60 ∷ 2100 ∷ 2200 ∷ 2230 ∷ []) ≡
    (begins 1 ∷ sensed_and_sent 30 60 20)
    ∷ (begins 1 ∷ looks 1 2100 ∷ drops 1 ∷ drops 2 ∷ issues 1 0 [] 21 ∷ seals 1 ∷ [])
    ∷ (begins 1 ∷ looks 1 2200 ∷ keeps 1 21 ∷ looks 2 2230 ∷ drops 2 ∷ issues 2 1 (21 ∷ []) 0 ∷ seals 2 ∷ commits 0 ∷ [])
    ∷ []
unfolding hidden-the_row-CoreExpr-0 shape-the_row-CoreExpr-0 hidden boot_log boots_from values_in reading sense_and_send two_young_senses sensed_and_sent
a_kept_sense_is_sent_where_its_send_was_dropped = refl

-- A failure between two drops: the next attempt finds no record of the sense, and drops all again.
a_sense_that_is_logged : Rules
a_sense_that_is_logged = programs.reading (20 ∷ 21 ∷ []) [] sense_send_and_log

sent_and_logged : (t u w value : ℕ) → List JournalEvent
sent_and_logged t u w v =
    looks 1 t ∷ drops 1 ∷ drops 2 ∷ drops 3 ∷ issues 1 0 [] v ∷ seals 1
    ∷ looks 2 u ∷ drops 2 ∷ issues 2 1 (v ∷ []) 0 ∷ seals 2 ∷ looks 3 w ∷ drops 3 ∷ issues 3 2 (v ∷ []) 0 ∷ seals 3 ∷ []

a_failure_between_drops_drops_again : expect a_sense_that_is_logged (15 ∷ 4 ∷ 16 ∷ []) (30 ∷ 60 ∷ 90 ∷ 2100 ∷ 2110 ∷ 2140 ∷ 2170 ∷ []) ≡
    (begins 1 ∷ sent_and_logged 30 60 90 20)
    ∷ (begins 1 ∷ looks 1 2100 ∷ drops 1 ∷ drops 2 ∷ [])
    ∷ (begins 1 ∷ sent_and_logged 2110 2140 2170 21 ++ commits 0 ∷ [])
    ∷ []
unfolding hidden-the_row-CoreExpr-0 shape-the_row-CoreExpr-0 hidden boot_log boots_from values_in reading sense_send_and_log a_sense_that_is_logged sent_and_logged
a_failure_between_drops_drops_again = refl

-- ---- what is committed

-- the standing behind boots with so many events each
left_behind : Rules → (cuts : List ℕ) → Standing → Standing
left_behind rules [] s = s
left_behind rules (cut ∷ cuts) s = left_behind rules cuts (left_by rules cut s)

-- the first word of an array behind boots of a whole run
word_behind : Rules → (array : ℕ) → (cuts times : List ℕ) → ℕ
word_behind rules array cuts times = word_at (left_behind rules cuts (start rules.core times)).committed (place array 0)

-- n = 7 + 2 where it was issued twice, 7 + 1 where the first reading was kept; and n is the kept or the new temperature
the_words_of_the_last_commit :
    word_behind three_readings 0 (4 ∷ 6 ∷ []) (40 ∷ 90 ∷ []) ∷ word_behind three_readings 0 (5 ∷ 4 ∷ []) (40 ∷ 90 ∷ [])
    ∷ word_behind two_temperatures 1 (5 ∷ 4 ∷ []) (50 ∷ 1050 ∷ []) ∷ word_behind two_temperatures 1 (5 ∷ 6 ∷ []) (50 ∷ 1051 ∷ []) ∷ []
    ≡ 9 ∷ 8 ∷ 20 ∷ 21 ∷ []
unfolding hidden-the_row-CoreExpr-0 shape-the_row-CoreExpr-0 hidden boot_log values_in reading sending sensing three_readings two_temperatures left_behind word_behind
the_words_of_the_last_commit = refl
