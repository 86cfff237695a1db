-- What the functions that write the account know of a task.
use Rattle.std.specs.Prelude.{ℕ, ◌+◌, ◌-◌, List, filter}
use Rattle.std.specs.List.{range_with_len}
use Rattle.io_depend.specs.Rows.{listed as row_of}
use Rattle.io_depend.specs.Told.{Told, tells_later}
use Rattle.site_account.specs.Account.{Facts}
use Rattle.site_account.specs.declared.view.View.{View}

-- the sites, of so many, that are told to depend on a site, ascending
abbrev pub told_later : Told → (sites site : ℕ) → List ℕ
told_later d sites site = filter (tells_later d site) (range_with_len (site + 1) (sites - site))

-- what a view tells
abbrev pub told : View → Facts
told v = record {
  arrays = v.core.now.arrays;
  peripherals = v.core.now.peripherals;
  sites = v.task.now.sites;
  places = v.places.now;
  forced = told_later v.depends.now v.count;
  points = row_of v.depends.now.points;
}
