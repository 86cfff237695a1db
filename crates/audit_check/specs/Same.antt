-- Whether two events are the same, number by number.
use Rattle.std.specs.Prelude.{ℕ, Bool, true, false, ◌&&◌, ◌==◌, List, [], ◌∷◌}
use Rattle.devices.specs.Journal.{Place, cell, keep, address, JournalEvent, begins, looks, keeps, drops, issues, seals, copies, commits, traps}

-- which event it is
abbrev pub kind_of : JournalEvent → ℕ
kind_of (begins task) = 0
kind_of (looks site time) = 1
kind_of (keeps site value) = 2
kind_of (drops site) = 3
kind_of (issues site peripheral args reading) = 4
kind_of (seals site) = 5
kind_of (copies site from to words) = 6
kind_of (commits next) = 7
kind_of (traps code) = 8

-- its numbers, 0 where it has no such number
abbrev pub first_of : JournalEvent → ℕ
first_of (begins task) = task
first_of (looks site time) = site
first_of (keeps site value) = site
first_of (drops site) = site
first_of (issues site peripheral args reading) = site
first_of (seals site) = site
first_of (copies site from to words) = site
first_of (commits next) = next
first_of (traps code) = code

abbrev pub second_of : JournalEvent → ℕ
second_of (looks site time) = time
second_of (keeps site value) = value
second_of (issues site peripheral args reading) = peripheral
second_of (copies site from to words) = words
second_of e = 0

abbrev pub third_of : JournalEvent → ℕ
third_of (issues site peripheral args reading) = reading
third_of e = 0

-- its arguments, and its ends
abbrev pub args_of : JournalEvent → List ℕ
args_of (issues site peripheral args reading) = args
args_of e = []

abbrev pub from_of : JournalEvent → Place
from_of (copies site from to words) = from
from_of e = keep

abbrev pub to_of : JournalEvent → Place
to_of (copies site from to words) = to
to_of e = keep

-- whether two lists have the same words
abbrev pub alike : List ℕ → List ℕ → Bool
alike [] [] = true
alike [] (y ∷ ys) = false
alike (x ∷ xs) [] = false
alike (x ∷ xs) (y ∷ ys) = x == y && alike xs ys

-- whether two ends are the same
abbrev pub same_place : Place → Place → Bool
same_place (cell a i) (cell b j) = a == b && i == j
same_place (cell a i) keep = false
same_place (cell a i) (address y) = false
same_place keep (cell b j) = false
same_place keep keep = true
same_place keep (address y) = false
same_place (address x) (cell b j) = false
same_place (address x) keep = false
same_place (address x) (address y) = x == y

-- whether two events are
abbrev pub same : JournalEvent → JournalEvent → Bool
same x y =
    third_of x == third_of y && (kind_of x == kind_of y && (second_of x == second_of y && (alike (args_of x) (args_of y)
    && (same_place (from_of x) (from_of y) && (same_place (to_of x) (to_of y) && first_of x == first_of y)))))
