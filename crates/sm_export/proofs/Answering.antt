-- What an export answers, of its parts.
use Rattle.std.proofs.Common.{◌≡◌, ◌<◌, ◌^◌, ℕ, List, ◌++◌, take, Option, Some, None, sym, ap, subst, ◌∙◌}
use Rattle.sm_model.specs.declared.entry.Entry.{Entry}
use Rattle.sm_model.specs.declared.track.Track.{Track}
use Rattle.sm_log.specs.Logs.{channel_of, times_in}
use Rattle.std.specs.Io.KnownBytes.{Appends}
use Rattle.sm_ends.specs.Moves.{AppendsFront}
use Rattle.sm_export.specs.Heads.{IsHead, input_refusal}
use Rattle.sm_export.specs.Exporting.{texts_from, unfit, unfit_in, IsBegun, IsFit, IsExportText, IsStopped}
use Rattle.sm_export.specs.Qualities.{kept_among}

pub fit : (b name : List ℕ) (bitrate : ℕ) (log : List Entry) (header : List ℕ) (channel declared : List Track) (found : Option ℕ) (id : ℕ) → IsHead b header channel name bitrate found → found ≡ Some id
    → unfit_in declared channel found name bitrate ≡ None → channel_of log ≡ Some declared → IsFit b log name bitrate
fit b name bitrate log header channel declared found id head is none some = record {
  header = header;
  channel = channel;
  id = id;
  head = subst (λ (i : Option ℕ). IsHead b header channel name bitrate i) is head;
  fits = ap (λ (o : Option (List Track)). unfit o channel (Some id) name bitrate) some ∙ (ap (λ (i : Option ℕ). unfit_in declared channel i name bitrate) (sym is) ∙ none);
}

unfoldable pub text_is : (b name : List ℕ) (bitrate : ℕ) (log : List Entry) (header written : List ℕ) (channel : List Track) (found : Option ℕ) (id : ℕ) (times : List (ℕ × ℕ)) → IsHead b header channel name bitrate found
    → found ≡ Some id → id < 2 ^ 32 → written ≡ header → times ≡ times_in log name → IsExportText b log name bitrate (written ++ texts_from 1 id (kept_among log name bitrate times))
text_is b name bitrate log header written channel found id times head is small same all = record {
  header = header;
  channel = channel;
  id = id;
  head = subst (λ (i : Option ℕ). IsHead b header channel name bitrate i) is head;
  id_fits = small;
  text_is = ap (λ (h : List ℕ). h ++ texts_from 1 id (kept_among log name bitrate times)) same ∙ ap (λ (ts : List (ℕ × ℕ)). header ++ texts_from 1 id (kept_among log name bitrate ts)) all;
}

-- a header that fits, and that went out with a front of the texts behind it
pub begun : (told : Type 0) (b name : List ℕ) (bitrate : ℕ) (log : List Entry) (header written : List ℕ) (channel declared : List Track) (found : Option ℕ) (id : ℕ) (times : List (ℕ × ℕ)) (held held' : Option (List ℕ))
    → input_refusal b ≡ None → IsHead b header channel name bitrate found → found ≡ Some id → unfit_in declared channel found name bitrate ≡ None → channel_of log ≡ Some declared
    → id < 2 ^ 32 → written ≡ header → times ≡ times_in log name → (told → (n : ℕ) × Appends held held' (written ++ take n (texts_from 1 id (kept_among log name bitrate times))))
    → IsBegun told log b name bitrate held held'
unfolding text_is
begun told b name bitrate log header written channel declared found id times held held' clear head is none some small same all front = record {
  clear = clear;
  fits = fit b name bitrate log header channel declared found id head is none some;
  front = λ now.
      let w = front now in (
        _,
        text_is b name bitrate log header written channel found id times head is small same all,
        w.0,
        subst (λ (t : List ℕ). Appends held held' t)
            (ap (λ (h : List ℕ). h ++ take w.0 (texts_from 1 id (kept_among log name bitrate times))) same
            ∙ ap (λ (ts : List (ℕ × ℕ)). header ++ take w.0 (texts_from 1 id (kept_among log name bitrate ts))) all)
            w.1,
      );
}

-- a header that fits, and a front of the file, where the output failed
pub stopped : (told : Type 0) (b name : List ℕ) (bitrate : ℕ) (log : List Entry) (header written : List ℕ) (channel declared : List Track) (found : Option ℕ) (id : ℕ) (times : List (ℕ × ℕ)) (held held' : Option (List ℕ))
    → input_refusal b ≡ None → IsHead b header channel name bitrate found → found ≡ Some id → unfit_in declared channel found name bitrate ≡ None → channel_of log ≡ Some declared
    → id < 2 ^ 32 → written ≡ header → times ≡ times_in log name → (told → AppendsFront held held' (written ++ texts_from 1 id (kept_among log name bitrate times))) → IsStopped told log b name bitrate held held'
stopped told b name bitrate log header written channel declared found id times held held' clear head is none some small same all front = record {
  clear = clear;
  fits = fit b name bitrate log header channel declared found id head is none some;
  front = λ now. (_, text_is b name bitrate log header written channel found id times head is small same all, front now);
}
