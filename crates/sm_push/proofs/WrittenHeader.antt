-- A written header is read as its channel.
use Rattle.std.proofs.Common.{◌≡◌, ◌+◌, ℕ, suc, Bool, true, false, ◌&&◌, not, eqb, List, [], ◌∷◌, ◌++◌, length, Some, Ok, refl, ap, ◌∙◌, subst, append_assoc, length-append, arith, AllPairs}
use Rattle.std.specs.List.{AllByRecursion, list_any}
use Rattle.std.proofs.lemmas.Bool.{ne_eqb, eq-eqb}
use Rattle.std.proofs.lemmas.List.Elements.{recursion_from_All}
use Rattle.std.proofs.lemmas.Slice.Eq.{bytes_eq-Decides}
use Rattle.sm_model.specs.declared.heads.TrackHead.{TrackHead}
use Rattle.sm_model.specs.declared.track.Track.{Track}
use Rattle.sm_model.specs.Channels.{Agree, IsChannel}
use Rattle.sm_model.specs.Same.{is_same}
use Rattle.sm_smil.specs.LiveRead.{live_manifest}
use Rattle.sm_model.specs.Moov.{moov}
use Rattle.sm_model.specs.MoovText.{numbered, head, heads}
use Rattle.sm_push.specs.Header.{head_for, heads_for, tracks_of, keys_of, is_off, has_two_timescales, names_protected, header_with, header_of}
use Rattle.sm_smil.specs.Untimed.{untimed_tracks}
use Rattle.sm_push.specs.Written.{written_keys}

abbrev heads_from : ℕ → List Track → List TrackHead
heads_from id ts = numbered (λ i t. head i t ∷ []) id ts

-- the head behind as many as stand before it
head_found : (k j : ℕ) (before after : List Track) (t : Track) → j ≡ k + length before → head_for j (heads_from k (before ++ t ∷ after)) ≡ Some (head j t)
unfolding numbered
head_found k j [] after t e =
    let here : k ≡ j = omega (arith, e) in
    let same : eqb k j ≡ true = eq-eqb k j here in
    rw same (ap (λ (n : ℕ). Some (head n t)) here)
head_found k j (b ∷ bs) after t e =
    let other : eqb k j ≡ false = ne_eqb k j (λ s. omega (arith, e, s)) in
    rw other (head_found (k + 1) j bs after t (omega (arith, e)))

heads_found : (channel before rest : List Track) (id : ℕ) → before ++ rest ≡ channel → id ≡ 1 + length before → heads_for (heads channel) (untimed_tracks id rest) ≡ Some (heads_from id rest)
unfolding heads_for numbered
heads_found channel before [] id whole place = refl
heads_found channel before (t ∷ ts) id whole place =
    let here : head_for id (heads channel) ≡ Some (head id t) = subst (λ (c : List Track). head_for id (heads c) ≡ Some (head id t)) whole (head_found 1 id before ts t place) in
    let more : id + 1 ≡ 1 + length (before ++ t ∷ []) = omega (arith, place, length-append before (t ∷ [])) in
    let rest = heads_found channel (before ++ t ∷ []) ts (id + 1) (append_assoc before (t ∷ []) ts ∙ whole) more in
    rw (here, rest) refl

tracks_again : (id : ℕ) (ts : List Track) → tracks_of (untimed_tracks id ts) (heads_from id ts) ≡ ts
unfolding numbered
tracks_again id [] = refl
tracks_again id (t ∷ ts) = rw (tracks_again (id + 1) ts) refl

keys_again : (id : ℕ) (ts : List Track) → keys_of (untimed_tracks id ts) (heads_from id ts) ≡ written_keys id ts
unfolding numbered
keys_again id [] = refl
keys_again id (t ∷ ts) = rw (keys_again (id + 1) ts) refl

none_protected : (id : ℕ) (ts : List Track) → names_protected (heads_from id ts) ≡ false
unfolding numbered
none_protected id [] = refl
none_protected id (t ∷ ts) = none_protected (id + 1) ts

not_off : (a b : Track) → Agree a b → is_off a b ≡ false
not_off a b agree = tested (is_same a.name b.name) refl
  where
    tested : (same : Bool) → is_same a.name b.name ≡ same → (same && not (eqb a.timescale b.timescale)) ≡ false
    tested false e = refl
    tested true e =
        let t : eqb a.timescale b.timescale ≡ true = eq-eqb a.timescale b.timescale (agree.timescale ((bytes_eq-Decides a.name b.name).0 e)) in
        rw t refl

none_off : (a : Track) (ts : List Track) → AllByRecursion (Agree a) ts → list_any (is_off a) ts ≡ false
none_off a [] all = refl
none_off a (t ∷ ts) all = rw (not_off a t all.0, none_off a ts all.1) refl

one_timescale : (ts : List Track) → AllPairs Agree ts → has_two_timescales ts ≡ false
unfolding has_two_timescales
one_timescale [] all = refl
one_timescale (t ∷ ts) all =
    let first = none_off t ts (recursion_from_All (Agree t) ts (λ k d within. all 0 (suc k) d (omega arith) (omega arith))) in
    let rest = one_timescale ts (λ i j d lt within. all (suc i) (suc j) d (omega arith) (omega arith)) in
    rw (first, rest) refl

pub header_again : (text body : List ℕ) (channel : List Track) → IsChannel channel → live_manifest text ≡ Ok (untimed_tracks 1 channel) → moov body ≡ Some (heads channel)
    → header_of text body ≡ Ok (record { channel = channel; tracks = written_keys 1 channel })
unfolding header_of header_with
header_again text body channel is live says =
    let found = heads_found channel [] channel 1 refl refl in
    let tracks = tracks_again 1 channel in
    let keys = keys_again 1 channel in
    let free = none_protected 1 channel in
    let one = one_timescale channel is.agree in
    rw (live, says, found, tracks, one, free, keys) refl
