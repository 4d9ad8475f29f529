use Rattle.std.proofs.Common.{rules, ◌≡◌, ◌∙◌, List, Option, Some, sym, ap, subst}
use Rattle.sm_model.specs.declared.track.Track.{Track}
use Rattle.sm_model.specs.declared.entry.Entry.{Entry}
use Rattle.sm_log.specs.Logs.{channel_of, FitsBehind}
use Rattle.sm_record.specs.Bodies.{IsBody}
use Rattle.sm_archive.proofs.Admitting.{index_channel_is}
use Rattle.sm_archive.proofs.admit.admit_next.Goals as goal

pub returns-in-Err-clause-damaged : goal.returns-in-Err-clause-damaged
returns-in-Err-clause-damaged c = λ is log index e own fits few.
    let channel : channel_of log ≡ Some c.channel.result.now = index_channel_is c.args.index.now log index ∙ ap (λ (t : List Track). Some t) (sym c.channel.ensures.same) in
    c.in-Err.ensures.damaged (search rules) e (subst (λ (o : Option (List Track)). IsBody o e c.args.body.now) channel own)

pub returns-in-Ok-clause-damaged : goal.returns-in-Ok-clause-damaged
returns-in-Ok-clause-damaged c = λ is log index e own fits few.
    let channel : channel_of log ≡ Some c.channel.result.now = index_channel_is c.args.index.now log index ∙ ap (λ (t : List Track). Some t) (sym c.channel.ensures.same) in
    let here : IsBody (Some c.channel.result.now) e c.args.body.now = subst (λ (o : Option (List Track)). IsBody o e c.args.body.now) channel own in
    c.admit_entry.ensures.damaged is log index (subst (λ (x : Entry). FitsBehind log x) (c.a_body_has_one_entry.ensures (Some c.channel.result.now) e c.in-Ok.entry c.args.body.now here c.in-Ok.ensures.entry) fits)
