use Rattle.std.proofs.Common.{rules, ◌≡◌, Bool, List, Option, is_some, subst}
use Rattle.std.specs.Option.{ForSome}
use Rattle.left_right.specs.Sides.{view as known}
use Rattle.sm_model.specs.declared.track.Track.{Track}
use Rattle.sm_log.specs.Digests.{Extends}
use Rattle.sm_shelf.specs.Shelf.{Sight}
use Rattle.sm_shelf.specs.Shown.{IsFound, IsSeen}
use Rattle.sm_shelf.proofs.Reading.{reader_later}
use Rattle.sm_shelf.proofs.readers.ShelfReader.fragment.Goals as goal

pub fragment_of-shown-requires : goal.fragment_of-shown-requires
fragment_of-shown-requires c =
    let d = known c.find-found.new.seat.place in
    let later = reader_later c.self.inside.channel c.self.inside.listed d (known c.self.inside.seat.place) c.find-found.ensures.seen c.self.invariant in
    let same : c.self.inside.channel ≡ c.take-known.result = search rules in
    let knows : c.is_some.result ≡ is_some c.take-known.result = search rules in
    (d, subst (λ (b : Bool). IsFound d c.args.address.now b c.find-found.result) knows c.find-found.ensures.found, subst (λ (o : Option (List Track)). ForSome o (IsSeen d)) same later.channel)

pub invariant_of-self : goal.invariant_of-self
invariant_of-self c =
    let d = known c.find-found.new.seat.place in
    let later = reader_later c.self.inside.channel c.self.inside.listed d (known c.self.inside.seat.place) c.find-found.ensures.seen c.self.invariant in
    let same : c.self.inside.channel ≡ c.take-known.result = search rules in
    let knows : c.is_some.result ≡ is_some c.take-known.result = search rules in
    record {
      channel = c.fragment_of-shown.ensures.channel d (subst (λ (b : Bool). IsFound d c.args.address.now b c.find-found.result) knows c.find-found.ensures.found)
          (subst (λ (o : Option (List Track)). ForSome o (IsSeen d)) same later.channel);
      listed = later.listed;
    }

pub returns-clause-found : goal.returns-clause-found
returns-clause-found c =
    let d = known c.find-found.new.seat.place in
    let later = reader_later c.self.inside.channel c.self.inside.listed d (known c.self.inside.seat.place) c.find-found.ensures.seen c.self.invariant in
    let same : c.self.inside.channel ≡ c.take-known.result = search rules in
    let knows : c.is_some.result ≡ is_some c.take-known.result = search rules in (
      subst (λ (s : Sight). Extends d s.seen) c.self.view_is c.find-found.ensures.seen,
      c.fragment_of-shown.ensures.shown d (subst (λ (b : Bool). IsFound d c.args.address.now b c.find-found.result) knows c.find-found.ensures.found)
          (subst (λ (o : Option (List Track)). ForSome o (IsSeen d)) same later.channel),
    )
