use Rattle.std.proofs.Common.{◌≡◌, ◌<◌, ◌+◌, ◌-◌, ◌*◌, ℕ, List, length, take, drop, ap, ◌∙◌, subst, arith}
use Rattle.std.proofs.lemmas.List.{length-drop}
use Rattle.sm_ends.specs.TracksHeld.{TracksState}
use Rattle.sm_fetch.specs.declared.dial.Exchange.{Exchange}
use Rattle.sm_client.specs.declared.report.End.TheVariants.{Done}
use Rattle.sm_world.specs.Dialing.{Dialing}
use Rattle.sm_world.specs.Clients.{HaveCome}
use Rattle.sm_world.proofs.ClientsPlayed.{plays_one, has_played, take_rest}
use Rattle.sm_world.proofs.client.play_stream.Goals as goal
use Rattle.sm_world.proofs.client.play_stream.Goals.{in-Done, in_default+else-count-gt0}

pub returns : goal.returns
returns c c' =
    let count = c'.args.count in
    let old = c'.args.dial.now in
    let mid = c'.renumber.new.self in
    let new = c'.play-report.new.dial in
    let tracks = c'.new-tracks.result in
    let report = c'.play-report.result in
    let lost = c'.in_ok-multiples.field-0 in
    let cut = c'.in_ok-multiples-2.field-0 in
    let plays = plays_one _ c'.args.policy c'.args.stream.now count old mid new lost cut tracks c'.play-report.new.tracks c'.in_ok-plan.plan c'.in_ok-vec.field-0.items report
    c'.in_ok-plan.ensures c'.in_ok-vec.ensures.items (ap (λ (t : TracksState). t.tracks) c'.new-tracks.ensures) c'.renumber.ensures.site c'.renumber.ensures.dialing
    c'.play-report.ensures.served c'.play-report.ensures.dial.goes_on c'.play-report.ensures.dial.dialed.answered
    in
    let ended : 0 < count → report.end ≡ Done = elim c'.match-report.branch [
      | in-Done w ↦ (λ some. w.in-Done.is)
      | in_default+else-count-gt0 w ↦ (λ some. absurd (let none = w.if-count-gt0.false in omega (arith, some, none)))
    ] in
    let more = take (length c'.exchanges.result.now - length c'.exchanges-before.result.now) (drop (length c'.exchanges-before.result.now) c'.exchanges.result.now) in
    let before : length c'.exchanges-before.result.now ≡ length old.1.made =
    ap (λ (xs : List Exchange). length xs) (c'.exchanges-before.ensures ∙ ap (λ (d : Dialing). d.made) c'.renumber.ensures.dialing)
    in
    let are : more ≡ drop (length old.1.made) new.1.made =
    take_rest (length c'.exchanges-before.result.now) c'.exchanges.result.now
    ∙ ap (λ (n : ℕ). drop n c'.exchanges.result.now) before ∙ ap (λ (xs : List Exchange). drop (length old.1.made) xs) c'.exchanges.ensures
    in
    let made : length more ≡ length new.1.made - length old.1.made = ap (λ (xs : List Exchange). length xs) are ∙ length-drop (length old.1.made) new.1.made in
    has_played _ c'.args.policy c'.args.stream.now count ((count + 1) * 9) old new lost cut c'.play-report.new.tracks report c'.requires.stream c'.requires.few (omega arith)
    c'.in_ok-multiples.ensures c'.in_ok-multiples-2.ensures plays (subst (HaveCome 1) are (c'.have_come.ensures c'.if-not-have_come.false)) ended c'.if-report-count.false (length more) made
