use Rattle.std.proofs.Common.{◌≡◌, ◌∙◌, ℕ, List, [], ◌∷◌, IfOk, sym, subst}
use Rattle.sm_model.specs.declared.track.Track.{Track}
use Rattle.sm_model.specs.FragText.{frag_text}
use Rattle.sm_log.specs.Adds.{ahead}
use Rattle.sm_head.specs.declared.reply.Content.TheVariants.{Mp4}
use Rattle.sm_reply.specs.Replies.{ok}
use Rattle.sm_log.specs.Adds.{id_in}
use Rattle.sm_origin.proofs.Ahead.{ahead_few, one_is, two_are}
use Rattle.sm_origin.proofs.kept.give.Goals as goal

pub returns-in-Some-None : goal.returns-in-Some-None
returns-in-Some-None c =
    let xs = ahead c.args.catalog.now.channel c.args.catalog.now.adds c.args.address.now.stream c.args.address.now.time in
    let is : xs ≡ c.in-Some-None.first ∷ [] = one_is xs c.in-Some-None.first (sym c.in-Some-None.is-0 ∙ c.ahead-first.ensures) (sym c.in-Some-None.is-1 ∙ c.ahead-second.ensures) in
    subst (λ (l : List (ℕ × ℕ)). IfOk c.fragment_reply-in-Some-None.result (λ reply. reply ≡ ok Mp4 (frag_text c.args.place (id_in c.args.catalog.now.channel c.args.address.now) c.args.fragment.now l)))
    (sym is)
    (subst (λ (ts : List Track). IfOk c.fragment_reply-in-Some-None.result (λ reply. reply ≡ ok Mp4 (frag_text c.args.place (id_in ts c.args.address.now) c.args.fragment.now (c.in-Some-None.first ∷ []))))
    c.channel-channel.ensures.same c.fragment_reply-in-Some-None.ensures)

pub returns-in-Some-Some : goal.returns-in-Some-Some
returns-in-Some-Some c =
    let xs = ahead c.args.catalog.now.channel c.args.catalog.now.adds c.args.address.now.stream c.args.address.now.time in
    let few = ahead_few c.args.catalog.now.channel c.args.catalog.now.adds c.args.address.now.stream c.args.address.now.time in
    let is : xs ≡ c.in-Some-Some.first ∷ c.in-Some-Some.second ∷ [] =
    two_are xs c.in-Some-Some.first c.in-Some-Some.second (sym c.in-Some-Some.is-0 ∙ c.ahead-first.ensures) (sym c.in-Some-Some.is-1 ∙ c.ahead-second.ensures) few in
    subst (λ (l : List (ℕ × ℕ)). IfOk c.fragment_reply-in-Some-Some.result (λ reply. reply ≡ ok Mp4 (frag_text c.args.place (id_in c.args.catalog.now.channel c.args.address.now) c.args.fragment.now l)))
    (sym is)
    (subst (λ (ts : List Track). IfOk c.fragment_reply-in-Some-Some.result (λ reply. reply ≡ ok Mp4 (frag_text c.args.place (id_in ts c.args.address.now) c.args.fragment.now (c.in-Some-Some.first ∷ c.in-Some-Some.second ∷ []))))
    c.channel-channel.ensures.same c.fragment_reply-in-Some-Some.ensures)
