-- What a manifest lists.
use Rattle.std.proofs.Common.{◌≡◌, ◌<◌, ◌^◌, ℕ, true, List, [], ◌∷◌, length, Option, Some, is_some, ap, subst}
use Rattle.std.specs.Prelude.{All}
use Rattle.sm_model.specs.declared.address.Address.{Address}
use Rattle.sm_model.specs.declared.entry.Entry.{Entry}
use Rattle.sm_model.specs.declared.entry.Entry.TheVariants.{Declare, Keep}
use Rattle.sm_model.specs.declared.track.Track.{Track}
use Rattle.sm_model.specs.Channels.{IsChannel}
use Rattle.sm_log.specs.Adds.{is_declared, listed}
use Rattle.sm_log.specs.Logs.{adds_of, channel_of, listed_by, listed_in, IsSound}
use Rattle.sm_log.specs.Times.{entry_at, IsSpan}
use Rattle.sm_manout.specs.ManifestText.{manifest}
use Rattle.sm_manout.specs.Shown.{IsWritable, ListsIn}
use Rattle.sm_reply.specs.Replies.{manifest_of}
use Rattle.sm_origin.specs.Shown.{IsReal}

pub writable : (log : List Entry) (channel : List Track) → IsReal log → channel_of log ≡ Some channel → All IsWritable channel
writable [] channel real is = absurd (cc)
writable (Declare tracks ∷ more) channel real is =
    let same : tracks ≡ channel = cc in
    subst (λ (ts : List Track). All IsWritable ts) same real.each.0
writable (Keep f ∷ more) channel real is = absurd (cc)

pub all_listed : ((channel : List Track) (times : List ℕ → List (ℕ × ℕ)) (a : Address) → IsChannel channel → All IsWritable channel
    → ((name : List ℕ) → All IsSpan (times name)) → ((name : List ℕ) → length (times name) < 2 ^ 64)
    → is_declared channel a ≡ true → is_some (entry_at a.time (times a.stream)) ≡ true → ListsIn (manifest channel times) a)
    → ((log : List Entry) (channel : List Track) → IsSound log → channel_of log ≡ Some channel → IsChannel channel)
    → ((log : List Entry) (stream : List ℕ) → IsSound log → All IsSpan (listed_in log stream)) → ((log : List Entry) (stream : List ℕ) → IsSound log → length (listed_in log stream) < 2 ^ 64)
    → (log : List Entry) (channel : List Track) (a : Address) → IsReal log → channel_of log ≡ Some channel → is_declared channel a ≡ true
    → is_some (entry_at a.time (listed_in log a.stream)) ≡ true → ListsIn (manifest_of channel log) a
all_listed lists valid spans few log channel a real is declared listed_ =
    let same = λ (name : List ℕ). ap (λ (o : Option (List Track)). listed_by o (adds_of log) name) is in
    lists channel (listed channel (adds_of log)) a (valid log channel real.sound is) (writable log channel real is)
    (λ name. subst (λ (ts : List (ℕ × ℕ)). All IsSpan ts) (same name) (spans log name real.sound))
    (λ name. subst (λ (ts : List (ℕ × ℕ)). length ts < 2 ^ 64) (same name) (few log name real.sound))
    declared (subst (λ (ts : List (ℕ × ℕ)). is_some (entry_at a.time ts) ≡ true) (same a.stream) listed_)
