use Rattle.std.proofs.Common.{rules, ◌≡◌, ℕ, Option, subst}
use Rattle.std.specs.Option.{ForSome}
use Rattle.left_right.specs.Sides.{view as known}
use Rattle.sm_log.specs.Digests.{Extends}
use Rattle.sm_shelf.specs.declared.replies.Listed.{Listed}
use Rattle.sm_shelf.specs.Shelf.{Sight}
use Rattle.sm_shelf.specs.Shown.{IsListed, IsListingOf}
use Rattle.sm_shelf.proofs.Reading.{reader_later}
use Rattle.sm_shelf.proofs.readers.ShelfReader.manifest.Goals as goal

pub invariant_of-self : goal.invariant_of-self
invariant_of-self c =
    let d = known c.ask-listing.new.seat.place in
    let later = reader_later c.self.inside.channel c.self.inside.listed d (known c.self.inside.seat.place) c.ask-listing.ensures.seen c.self.invariant in
    let same : c.self.inside.listed ≡ c.take-kept.result = search rules in
    record {
      channel = later.channel;
      listed = c.manifest_of-shown.ensures.kept d (subst (λ (k : Option ℕ). IsListingOf d k c.ask-listing.result) c.count_of.ensures c.ask-listing.ensures.listing)
          (subst (λ (o : Option Listed). ForSome o (λ l. IsListed d l.count l.text)) same later.listed);
    }

pub returns-clause-found : goal.returns-clause-found
returns-clause-found c =
    let d = known c.ask-listing.new.seat.place in
    let later = reader_later c.self.inside.channel c.self.inside.listed d (known c.self.inside.seat.place) c.ask-listing.ensures.seen c.self.invariant in
    let same : c.self.inside.listed ≡ c.take-kept.result = search rules in (
      subst (λ (s : Sight). Extends d s.seen) c.self.view_is c.ask-listing.ensures.seen,
      c.manifest_of-shown.ensures.shown d (subst (λ (k : Option ℕ). IsListingOf d k c.ask-listing.result) c.count_of.ensures c.ask-listing.ensures.listing)
          (subst (λ (o : Option Listed). ForSome o (λ l. IsListed d l.count l.text)) same later.listed),
    )
