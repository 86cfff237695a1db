-- The definitions on small cases, computed; the values on the right were worked out by hand.
use Rattle.std.proofs.Common.{◌≡◌, true, false, [], ◌∷◌, refl}
use Rattle.std.specs.Prelude.{Some, None, Err}
use Rattle.ease_base.specs.declared.error.FetchError.TheVariants.{Failed, TooLong}
use Rattle.ease_base.specs.Calls.{fails_next}
use Rattle.ease_base.specs.Cabinet.{counted}
use Rattle.ease_base.specs.Count.{raised}
use Rattle.ease_base.specs.MemCabinet.{Shelf, contents_in, fetched}
use Rattle.ease_base.specs.MemSink.{Tape, taken_count, written}
use Rattle.ease_base.specs.Sink.{extended}

-- a count rises by one, and stands still at its end
first_fault : raised 0 ≡ 1
first_fault = refl

last_fault : raised 18446744073709551615 ≡ 18446744073709551615
last_fault = refl

-- only TooLong counts as long contents
long_counts : counted 3 (Err TooLong) ≡ 4
long_counts = refl

failed_counts_not : counted 3 (Err Failed) ≡ 3
failed_counts_not = refl

-- calls are numbered from 1
second_fails : fails_next (2 ∷ 7 ∷ []) 1 ≡ true
second_fails = refl

first_passes : fails_next (2 ∷ 7 ∷ []) 0 ≡ false
first_passes = refl

-- bytes that are not told stay untold
told_bytes : extended (Some (1 ∷ [])) (2 ∷ []) ≡ Some (1 ∷ 2 ∷ [])
told_bytes = refl

untold_bytes : extended None (2 ∷ []) ≡ None
untold_bytes = refl

-- two files, `p` with one byte and `q` with none
abbrev two_files : Shelf
two_files = record { files = record { name = 112 ∷ []; bytes = 49 ∷ [] } ∷ record { name = 113 ∷ []; bytes = [] } ∷ []; fails = 1 ∷ []; calls = 0; faults = 5; long_contents = 0 }

p_holds_one : contents_in two_files.files (112 ∷ []) ≡ Some (49 ∷ [])
unfolding contents_in
p_holds_one = refl

q_is_empty : contents_in two_files.files (113 ∷ []) ≡ Some []
unfolding contents_in
q_is_empty = refl

r_is_absent : contents_in two_files.files (114 ∷ []) ≡ None
unfolding contents_in
r_is_absent = refl

-- its first fetch is to fail, and is a call and a fault more
one_fault_more : (fetched two_files (Err Failed)).faults ≡ 6
one_fault_more = refl

-- a sink with room for 5 bytes that has taken 3 takes 2 of 7
abbrev three_of_five : Tape
three_of_five = record { taken = 1 ∷ 2 ∷ 3 ∷ []; room = 5; fails = []; calls = 0; faults = 0 }

two_fit : taken_count three_of_five (4 ∷ 5 ∷ 6 ∷ 7 ∷ 8 ∷ 9 ∷ 10 ∷ []) ≡ 2
two_fit = refl

then_full : (written three_of_five (4 ∷ 5 ∷ 6 ∷ []) 2).taken ≡ 1 ∷ 2 ∷ 3 ∷ 4 ∷ 5 ∷ []
then_full = refl
