use Rattle.std.proofs.Common.{◌≡◌, ◌++◌, ◌∷◌, [], ◌∙◌, ap, sym, subst, take, List, append_assoc, ℕ, ◌+◌}
use Rattle.std.specs.List.{flat_map, All}
use Rattle.std.proofs.lemmas.List.Elements.{All-push}
use Rattle.sm_model.specs.declared.track.Track.{Track}
use Rattle.sm_record.specs.Texts.{track_text}
use Rattle.sm_record.specs.Bodies.{FitsTrack}
use Rattle.sm_record.proofs.PutLaws.{one_more, texts_push}
use Rattle.sm_record.proofs.put.append_tracks.Goals as goal

pub loop-track-preserved : goal.loop-track-preserved
loop-track-preserved c =
    let xs = c.args.tracks.now in
    let i = c.loop-track.track-index in
    let x = c.track-item.result in
    let more : take (i + 1) xs ≡ take i xs ++ x ∷ [] = one_more xs i x c.loop-track-test.true c.track-item.is in (
      c.in_ok-append_track.ensures.text ∙ ap (λ (l : List ℕ). l ++ track_text x) c.loop-track.invariant.0 ∙ append_assoc c.args.out.now.items (flat_map track_text (take i xs)) (track_text x) ∙ ap
          (λ (l : List ℕ). c.args.out.now.items ++ l) (sym (texts_push track_text (take i xs) x)) ∙ ap (λ (l : List Track). c.args.out.now.items ++ flat_map track_text l) (sym more),
      subst (λ (l : List Track). All FitsTrack l) (sym more) (All-push FitsTrack (take i xs) x c.loop-track.invariant.1 c.in_ok-append_track.ensures.fits),
    )
