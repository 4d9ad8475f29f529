-- Each track of a channel is declared in it; no line of a quality holds a line feed.
use Rattle.std.proofs.Common.{◌≡◌, ◌&&◌, ℕ, Bool, true, false, cond, eqb, List, [], ◌∷◌, Some, refl}
use Rattle.std.specs.Prelude.{is_some}
use Rattle.std.specs.List.{AllByRecursion}
use Rattle.std.proofs.lemmas.Bool.{eq-eqb}
use Rattle.std.proofs.lemmas.Slice.Eq.{bytes_eq-Decides}
use Rattle.sm_model.specs.declared.track.Track.{Track}
use Rattle.sm_model.specs.Same.{is_same}
use Rattle.sm_log.specs.Adds.{track_at}

abbrev pub Declares : List Track → List ℕ → ℕ → Type 0
Declares channel name b = is_some (track_at name b channel) ≡ true

pub same_is : (a b : List ℕ) → is_same a b ≡ true → a ≡ b
same_is a b e = (bytes_eq-Decides a b).0 e

declares_more : (u : Track) (channel ts : List Track) → AllByRecursion (λ (t : Track). Declares channel t.name t.bitrate) ts → AllByRecursion (λ (t : Track). Declares (u ∷ channel) t.name t.bitrate) ts
declares_more u channel [] all = tt
declares_more u channel (t ∷ ts) all = (by_test (is_same u.name t.name && eqb u.bitrate t.bitrate), declares_more u channel ts all.1)
  where
    by_test : (b : Bool) → is_some (cond b (Some u) (track_at t.name t.bitrate channel)) ≡ true
    by_test true = refl
    by_test false = all.0

pub all_declared : (channel : List Track) → AllByRecursion (λ (t : Track). Declares channel t.name t.bitrate) channel
all_declared [] = tt
all_declared (t ∷ ts) =
    let n : is_same t.name t.name ≡ true = (bytes_eq-Decides t.name t.name).1 refl in
    let b : eqb t.bitrate t.bitrate ≡ true = eq-eqb t.bitrate t.bitrate refl in
    (rw (n, b) refl, declares_more t ts ts (all_declared ts))
