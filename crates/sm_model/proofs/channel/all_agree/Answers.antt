use Rattle.std.proofs.Common.{◌≡◌, ◌<◌, ℕ, rules, subst, sym, arith, inl, inr, slice_index_or}
use Rattle.std.proofs.lemmas.Bool.{cases_lt}
use Rattle.sm_model.specs.declared.track.Track.{Track}
use Rattle.sm_model.specs.Channels.{Agree}
use Rattle.sm_model.proofs.channel.all_agree.Goals as goal

pub loop-place-preserved : goal.loop-place-preserved
loop-place-preserved c = λ j k d before lt.
    let held : (i : ℕ) (x : Track) → i < c.loop-place.place → Agree (slice_index_or c.args.tracks.now i x) (slice_index_or c.args.tracks.now c.loop-place.place x) = search rules in
    elim (cases_lt k c.loop-place.place) [
      | inl earlier ↦ c.loop-place.invariant j k d before earlier
      | inr le ↦ let same : k ≡ c.loop-place.place = omega (arith, le, lt) in subst (λ (n : ℕ). Agree (slice_index_or c.args.tracks.now j d) (slice_index_or c.args.tracks.now n d)) (sym same) (held j d (omega (arith, same, before)))
    ]
