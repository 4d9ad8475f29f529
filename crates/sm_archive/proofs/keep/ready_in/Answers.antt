use Rattle.std.proofs.Common.{◌≡◌, ◌∙◌, sym, ap, subst, ℕ, List, Some, true, inr}
use Rattle.sm_model.specs.declared.track.Track.{Track}
use Rattle.sm_model.specs.declared.address.Address.{Address}
use Rattle.sm_model.specs.declared.entry.Entry.TheVariants.{Keep}
use Rattle.sm_model.specs.Entries.{address_of}
use Rattle.sm_log.specs.Adds.{is_declared}
use Rattle.sm_record.specs.Bodies.{IsBody, IsSealedBody}
use Rattle.sm_record.specs.Metas.{meta_of}
use Rattle.sm_seglog.specs.Segments.{HasRoom}
use Rattle.sm_archive.proofs.Places.{place_in}
use Rattle.sm_archive.proofs.Readying.{meta_is}
use Rattle.sm_archive.proofs.keep.ready_in.Goals as goal

pub put_keep-requires-clause-track : goal.put_keep-requires-clause-track
put_keep-requires-clause-track c =
    let address : c.in_ok-address.address ≡ address_of c.args.fragment.now = c.in_ok-address.ensures in
    let there : is_declared c.args.index.now.catalog.channel (address_of c.args.fragment.now) ≡ true =
    subst (λ (a : Address). is_declared c.args.index.now.catalog.channel a ≡ true) address (sym c.has_track.ensures ∙ c.if-not-has_track.false) in
    let same : c.channel.result.now ≡ c.args.index.now.catalog.channel = c.channel.ensures.same ∙ c.in_ok-reserve.ensures.reserved.channel in
    place_in c.channel.result.now (address_of c.args.fragment.now) (subst (λ (t : List Track). is_declared t (address_of c.args.fragment.now) ≡ true) (sym same) there)

pub returns-clause-ready : goal.returns-clause-ready
returns-clause-ready c =
    let f = c.args.fragment.now in
    let ch = c.reserve.new.self.catalog.channel in
    let sealed : IsSealedBody (Some ch) (Keep f) c.in_ok-body.body = subst (λ (t : List Track). IsSealedBody (Some t) (Keep f) c.in_ok-body.body) c.channel.ensures.same c.in_ok-body.ensures.sealed in
    let body : IsBody (Some ch) (Keep f) c.in_ok-body.body = inr sealed in
    let told : Some c.in-Some.meta ≡ meta_of c.in_ok-body.body = c.in-Some.ensures ∙ ap meta_of c.as_slice-2.ensures in
    record {
      address = c.in_ok-address.ensures;
      body = body;
      meta = meta_is ch f c.in_ok-body.body c.in-Some.meta told (c.front_of_a_fragment.ensures ch f c.in_ok-body.body body);
      len = c.in_ok-body.ensures.len;
      short = c.in_ok-body.ensures.short;
      room = subst (λ (n : ℕ). HasRoom c.reserve-2.new.self n) c.len.ensures c.in_ok-reserve-2.ensures.ready.room;
      spare = c.in_ok-reserve-2.ensures.two;
      space = c.in_ok-reserve.ensures.space (sym c.has_track.ensures ∙ c.if-not-has_track.false);
    }
