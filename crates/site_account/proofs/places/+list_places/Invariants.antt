-- What is listed so far.
use Rattle.std.proofs.Common.{◌≡◌, ◌++◌, take}
use Rattle.site_account.specs.Places.{body_places}
use Rattle.site_account.proofs.places.+list_places.Given as goal

abbrev pub invariant-list_body-statements : goal.invariant-list_body-statements
invariant-list_body-statements l = l.places ≡ l.initial.places ++ body_places (take l.s-index l.body)
