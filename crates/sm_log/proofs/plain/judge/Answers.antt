use Rattle.std.proofs.Common.{◌≡◌, ℕ, List, true, is_some, subst, sym, ap, ◌∙◌}
use Rattle.sm_log.specs.Times.{AreTimes, decision}
use Rattle.sm_log.specs.Adds.{place_of, track_at}
use Rattle.sm_model.specs.Entries.{address_of}
use Rattle.sm_log.specs.Logs.{adds_of, times_in}
use Rattle.sm_log.proofs.AllLogs.{times_sound}
use Rattle.sm_log.proofs.PlainLemmas.{verdict_is}
use Rattle.sm_log.proofs.plain.judge.Goals as goal

pub returns : goal.returns
returns c = λ sound.
    let log = c.args.log.now in
    let f = c.args.fragment.now in
    let name = c.as_bytes-stream.ensures.same in
    let ts : c.deref.result.now ≡ times_in log f.stream = c.deref.ensures.value ∙ c.in_ok-times.ensures ∙ ap (λ (s : List ℕ). times_in log s) name in
    let times : AreTimes c.deref.result.now = subst AreTimes (sym ts) (times_sound log f.stream sound) in
    let declared : is_some (track_at f.stream f.bitrate c.in-Some.channel.now) ≡ true =
    ap (λ (s : List ℕ). is_some (track_at s f.bitrate c.in-Some.channel.now)) (sym name) ∙ sym c.is_declared.ensures ∙ c.if-not-is_declared.false in
    let decided : c.decide.result ≡ decision (times_in log f.stream) f.time f.duration = c.decide.ensures times ∙ ap (λ (ts : List (ℕ × ℕ)). decision ts f.time f.duration) ts in
    let place : c.kept-kept.result ≡ place_of (address_of f) (adds_of log) = c.kept-kept.ensures ∙ ap (λ (s : List ℕ). place_of (record { stream = s; bitrate = f.bitrate; time = f.time }) (adds_of log)) name in
    c.judged.ensures ∙ rw (place, decided) (sym (verdict_is c.in-Some.channel.now log f c.in-Some.ensures declared))
