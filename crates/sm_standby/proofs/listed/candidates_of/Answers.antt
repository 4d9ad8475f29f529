use Rattle.std.proofs.Common.{◌≡◌, ◌+◌, ◌∷◌, List, drop, map, ap, sym, ◌∙◌, arith}
use Rattle.std.proofs.lemmas.List.{drop_more}
use Rattle.sm_model.specs.declared.track.Track.{Track}
use Rattle.sm_client.specs.Stands.{listed, times_of}
use Rattle.sm_log.specs.Adds.{names_from}
use Rattle.sm_standby.specs.Candidates.{Candidates, candidates_by}
use Rattle.sm_standby.proofs.Plans.{with_names, with_times, drop_all}
use Rattle.sm_standby.proofs.listed.candidates_of.Goals as goal

pub loop-track-preserved : goal.loop-track-preserved
loop-track-preserved c =
    let times = λ (name : List _). times_of (listed name c.args.listing.now.streams) in
    let ch = c.args.channel.now in
    let i = c.loop-track.track-index in
    let t = c.track-item.result in
    let rest : drop i ch ≡ t ∷ drop (i + 1) ch = drop_more ch i t (omega arith) ∙ ap (λ (u : Track). u ∷ drop (i + 1) ch) (sym c.track-item.is) in
    let made = c.in_ok-put_stream.ensures in
    record {
      names = rw made (with_names times c.loop-track.all.items t (drop (i + 1) ch) ∙ (ap (names_from (map (λ (d : Candidates). d.name) c.loop-track.all.items)) (sym rest) ∙ c.loop-track.invariant.names));
      times = rw made (with_times times c.loop-track.all.items t c.loop-track.invariant.times);
    }

pub returns : goal.returns
returns c =
    let ch = c.args.channel.now in
    let i = c.loop-track.track-index in
    let none = drop_all ch i (omega arith) in
    c.loop-track.invariant.times
    ∙ ap (candidates_by (λ name. times_of (listed name c.args.listing.now.streams))) (sym (ap (names_from (map (λ (d : Candidates). d.name) c.loop-track.all.items)) none) ∙ c.loop-track.invariant.names)
