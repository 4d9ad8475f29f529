use Rattle.std.proofs.Common.{◌≡◌, ℕ, rules, refl, subst, sym, arith, inl, inr, slice_index_or, length}
use Rattle.std.proofs.lemmas.List.{get_or_read_under}
use Rattle.std.proofs.lemmas.Bool.{cases_lt}
use Rattle.sm_model.specs.declared.track.Track.{Track}
use Rattle.sm_model.specs.Channels.{Agree}
use Rattle.sm_model.proofs.channel.agrees_before.Goals as goal

pub loop-i-preserved : goal.loop-i-preserved
loop-i-preserved c = λ k d lt.
    let own : Agree c.index-tracks-i.result c.index-tracks-place.result = search rules in
    let at : c.index-tracks-i.result ≡ slice_index_or c.args.tracks.now c.loop-i.i d = get_or_read_under c.args.tracks.now c.loop-i.i (length c.args.tracks.now) c.index-tracks-i.result d
    c.index-tracks-i.is (omega (arith, c.loop-i-test.true, c.requires)) refl in
    let last : c.index-tracks-place.result ≡ slice_index_or c.args.tracks.now c.args.place d = get_or_read_under c.args.tracks.now c.args.place (length c.args.tracks.now) c.index-tracks-place.result
    d c.index-tracks-place.is c.requires refl in
    let held : Agree (slice_index_or c.args.tracks.now c.loop-i.i d) (slice_index_or c.args.tracks.now c.args.place d) = subst
    (λ (t : Track). Agree t (slice_index_or c.args.tracks.now c.args.place d)) at (subst (λ (t : Track). Agree c.index-tracks-i.result t) last own) in
    elim (cases_lt k c.loop-i.i) [
      | inl before ↦ c.loop-i.invariant k d before
      | inr le ↦ let same : k ≡ c.loop-i.i = omega (arith, le, lt) in subst (λ (n : ℕ). Agree (slice_index_or c.args.tracks.now n d) (slice_index_or c.args.tracks.now c.args.place d)) (sym same) held
    ]
