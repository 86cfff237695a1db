-- The names of a table ascend, so the feeds are of different peripherals.
use Rattle.std.proofs.Common.{rules, ◌≡◌, ◌∷◌, map}
use Rattle.std.proofs.lemmas.List.Elements.{All-push}
use Rattle.devices.specs.World.{IsFeed}
use Rattle.world_file.proofs.FeedLemmas.{Entry, feeds_differ, one_more}
use Rattle.world_file.specs.Document.{pair_of}
use Rattle.world_file.specs.WorldFile.{feed_of}
use Rattle.world_file.proofs.parts.feeds_in.Goals as goal

pub returns-clause-distinct : goal.returns-clause-distinct
returns-clause-distinct c =
    let made = feeds_differ c.args.names.now c.args.readings.now.entries c.requires.apart.numbers c.requires.known c.iter-key-items.ensures.ordered in
    let all : c.pairs.feeds ≡ map (λ e. feed_of c.args.names.now (pair_of e)) c.args.readings.now.entries = search rules in
    rw all made

pub pairs-preserved : goal.pairs-preserved
pairs-preserved c =
    let e : Entry = (c.in-Some.key.now, c.in-Some.value.now) in
    let feed = c.in_ok-feed_of.field-0 in
    let first : c.pairs.key-iterator ≡ e ∷ c.next.new.self = search rules in
    let made : feed ≡ feed_of c.args.names.now (pair_of e) = search rules in (
      one_more c.args.names.now c.pairs.feeds c.push.new.self feed c.pairs.key-iterator e c.next.new.self c.args.readings.now.entries c.pairs.invariant.0 first c.in_ok-push.ensures.ok made,
      rw c.in_ok-push.ensures.ok (All-push IsFeed c.pairs.feeds feed c.pairs.invariant.1 c.in_ok-feed_of.ensures.fits),
    )
