use Rattle.std.proofs.Common.{◌≡◌, ℕ, rules, refl, subst, sym, arith, inl, inr, slice_index_or, length}
use Rattle.std.proofs.lemmas.List.{get_or_read_under}
use Rattle.std.proofs.lemmas.Bool.{cases_lt}
use Rattle.sm_model.specs.Channels.{IsTrack}
use Rattle.sm_model.proofs.channel.are_tracks.Goals as goal

pub loop-track-preserved : goal.loop-track-preserved
loop-track-preserved c = λ k d lt.
    let there : c.track-item.result ≡ slice_index_or c.args.tracks.now c.loop-track.track-index d = get_or_read_under c.args.tracks.now c.loop-track.track-index (length c.args.tracks.now)
    c.track-item.result d c.track-item.is (omega (arith, c.loop-track-test.true)) refl in
    let now : IsTrack c.track-item.result = search rules in
    elim (cases_lt k c.loop-track.track-index) [
      | inl before ↦ c.loop-track.invariant k d before
      | inr le ↦ let same : k ≡ c.loop-track.track-index = omega (arith, le, lt) in subst (λ (n : ℕ). IsTrack (slice_index_or c.args.tracks.now n d)) (sym same) (subst IsTrack there now)
    ]

pub returns : goal.returns
returns c = (λ t k d lt. c.loop-track.invariant k d (omega (arith, lt, c.loop-track-test.false)), λ all. refl)
