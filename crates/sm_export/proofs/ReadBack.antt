-- What a file says when it is read as a push.
use Rattle.std.proofs.Common.{◌≡◌, ◌≢◌, ◌<◌, ◌^◌, ◌&&◌, ℕ, zero, suc, Bool, true, false, cond, eqb, List, [], ◌∷◌, ◌++◌, map, Some, None, All, refl, sym, ap, subst, ◌∙◌, arith}
use Rattle.std.specs.Prelude.{◌+◌}
use Rattle.std.specs.List.{flat_map, AllByRecursion}
use Rattle.std.proofs.lemmas.Bool.{eq-eqb, eqb-true, ne_eqb}
use Rattle.std.proofs.lemmas.List.Elements.{All-contains, All-from_recursion, recursion_from_All}
use Rattle.std.proofs.lemmas.Slice.Eq.{bytes_eq-Decides}
use Rattle.sm_model.specs.declared.address.Address.{Address}
use Rattle.sm_model.specs.declared.entry.Entry.{Entry}
use Rattle.sm_model.specs.declared.entry.Entry.TheVariants.{Keep}
use Rattle.sm_model.specs.declared.fragment.Fragment.{Fragment}
use Rattle.sm_model.specs.declared.header.HeaderTrack.{HeaderTrack}
use Rattle.sm_model.specs.Canonical.{Canonical, text_of}
use Rattle.sm_model.specs.Fragments.{IsValid, IsNarrow}
use Rattle.sm_model.specs.FragText.{frag_text}
use Rattle.sm_model.specs.Items.{Given, Header, Frag}
use Rattle.sm_model.specs.Same.{is_same}
use Rattle.sm_log.specs.Logs.{kept_at, times_in, IsSound}
use Rattle.sm_origin.specs.Shown.{FitsFields, IsReal}
use Rattle.sm_push.specs.Body.{body, body_end}
use Rattle.sm_push.specs.Header.{id_for, is_named, track_with}
use Rattle.sm_push.specs.Joins.{given_by, AreApart, HaveIds, IsOfHeader, FollowsHeader}
use Rattle.sm_export.specs.Exporting.{texts_from, IsExportText}
use Rattle.sm_export.specs.Qualities.{quality}
use Rattle.sm_export.proofs.BareHead.{SplitAll, SplitAny, bare}
use Rattle.sm_export.proofs.Ordered.{There, Addressed, each_kept}

-- ---- the track of a header

first_pairs : (x : HeaderTrack) (xs : List HeaderTrack) → HaveIds (x ∷ xs) → All (AreApart x) xs
first_pairs x xs all = λ i d lt. all zero (suc i) d (omega arith) (omega (arith, lt))

later_pairs : (x : HeaderTrack) (xs : List HeaderTrack) → HaveIds (x ∷ xs) → HaveIds xs
later_pairs x xs all = λ i j d lt within. all (suc i) (suc j) d (omega (arith, lt)) (omega (arith, within))

-- the track that is found has the track_ID, and what each has
with_has : (P : HeaderTrack → Type 0) (id : ℕ) (ts : List HeaderTrack) (u : HeaderTrack) → AllByRecursion P ts → track_with id ts ≡ Some u → P u × (u.id ≡ id)
with_has P id [] u all e = absurd cc
with_has P id (t ∷ ts) u all e = by_test (eqb t.id id) refl e (λ rest. with_has P id ts u all.1 rest)
  where
    by_test : (b : Bool) → eqb t.id id ≡ b → cond b (Some t) (track_with id ts) ≡ Some u → (track_with id ts ≡ Some u → P u × (u.id ≡ id)) → P u × (u.id ≡ id)
    by_test true is e rest = let same : t ≡ u = cc in subst (λ (x : HeaderTrack). P x × (x.id ≡ id)) same (all.0, eqb-true t.id id is)
    by_test false is e rest = rest e

record IsTrackOf (name : List ℕ) (bitrate id : ℕ) (ts : List HeaderTrack) : Type 0 where
  track : HeaderTrack
  named : track_with id ts ≡ Some track
  stream : track.stream ≡ name
  bitrate_is : track.bitrate ≡ bitrate

both_true : (a b : Bool) → (a && b) ≡ true → (a ≡ true) × (b ≡ true)
both_true true true e = (refl, refl)
both_true true false e = absurd cc
both_true false b e = absurd cc

track_of : (name : List ℕ) (bitrate id : ℕ) (ts : List HeaderTrack) → HaveIds ts → id_for name bitrate ts ≡ Some id → IsTrackOf name bitrate id ts
track_of name bitrate id [] apart e = absurd cc
track_of name bitrate id (t ∷ ts) apart e = by_test (is_named name bitrate t) refl e (λ rest. track_of name bitrate id ts (later_pairs t ts apart) rest)
  where
    by_test : (b : Bool) → is_named name bitrate t ≡ b → cond b (Some t.id) (id_for name bitrate ts) ≡ Some id → (id_for name bitrate ts ≡ Some id → IsTrackOf name bitrate id ts)
        → IsTrackOf name bitrate id (t ∷ ts)
    by_test true is e rest =
        let same : t.id ≡ id = cc in
        let p = both_true (is_same t.stream name) (eqb t.bitrate bitrate) is in
        record { track = t; named = ap (λ (b : Bool). cond b (Some t) (track_with id ts)) (eq-eqb t.id id same); stream = (bytes_eq-Decides t.stream name).0 p.0; bitrate_is = eqb-true t.bitrate bitrate p.1 }
    by_test false is e rest =
        let r = rest e in
        let found = with_has (AreApart t) id ts r.track (recursion_from_All (AreApart t) ts (first_pairs t ts apart)) r.named in
        let other : t.id ≢ id = λ same. found.0 (same ∙ sym found.1) in
        record { track = r.track; named = ap (λ (b : Bool). cond b (Some t) (track_with id ts)) (ne_eqb t.id id other) ∙ r.named; stream = r.stream; bitrate_is = r.bitrate_is }

-- ---- the texts

abbrev numbered : ℕ → ℕ → List Fragment → List Canonical
numbered seq id [] = []
numbered seq id (f ∷ fs) = record { seq = seq; id = id; fragment = f } ∷ numbered (seq + 1) id fs

texts_are : (seq id : ℕ) (fs : List Fragment) → texts_from seq id fs ≡ flat_map text_of (numbered seq id fs)
texts_are seq id [] = refl
texts_are seq id (f ∷ fs) = ap (λ (x : List ℕ). frag_text seq id f [] ++ x) (texts_are (seq + 1) id fs)

given_are : (seq id : ℕ) (fs : List Fragment) → map given_by (numbered seq id fs) ≡ map (λ (f : Fragment). Frag id f) fs
given_are seq id [] = refl
given_are seq id (f ∷ fs) = ap (λ (gs : List Given). Frag id f ∷ gs) (given_are (seq + 1) id fs)

-- what is asked of a fragment of a quality
record IsOf (name : List ℕ) (bitrate : ℕ) (f : Fragment) : Type 0 where
  stream : f.stream ≡ name
  bitrate_is : f.bitrate ≡ bitrate
  valid : IsValid f
  samples : All IsNarrow f.samples

of_header : (name : List ℕ) (bitrate seq id : ℕ) (ts : List HeaderTrack) (fs : List Fragment) → id < 2 ^ 32 → IsTrackOf name bitrate id ts → AllByRecursion (IsOf name bitrate) fs
    → AllByRecursion (IsOfHeader ts) (numbered seq id fs)
of_header name bitrate seq id ts [] fits t all = tt
of_header name bitrate seq id ts (f ∷ fs) fits t all = (
  record {
    id_fits = fits;
    track = t.track;
    named = t.named;
    stream = t.stream ∙ sym all.0.stream;
    bitrate = t.bitrate_is ∙ sym all.0.bitrate_is;
    valid = all.0.valid;
    samples = all.0.samples;
  },
  of_header name bitrate (seq + 1) id ts fs fits t all.1,
)

-- ---- the whole file

-- what the laws of logs and pushes say
pub record Laws : Type 0 where
  pub there : There
  pub address : Addressed
  pub valid : (log : List Entry) (address : Address) (place : ℕ) (f : Fragment) → IsSound log → kept_at log address ≡ Some (place, f) → IsValid f
  pub split : SplitAll
  pub any : SplitAny
  pub apart : (headerless : Bool) (b : List ℕ) → HaveIds (body headerless b).header
  pub items : (head b : List ℕ) (cs : List Canonical) → FollowsHeader head b cs → (body false b).items ≡ (body false head).items ++ map given_by cs
  pub end : (head b : List ℕ) (cs : List Canonical) → FollowsHeader head b cs → body_end false b ≡ None

each_is : Laws → (log : List Entry) (name : List ℕ) (bitrate : ℕ) → IsReal log → AllByRecursion (IsOf name bitrate) (quality log name bitrate)
each_is laws log name bitrate real =
    each_kept (IsOf name bitrate) log name bitrate (times_in log name) (λ t kept is.
    let a : Address = record { stream = name; bitrate = bitrate; time = t } in
    let named = laws.address log a kept.0 kept.1 is in
    record {
      stream = ap (λ (x : Address). x.stream) named;
      bitrate_is = ap (λ (x : Address). x.bitrate) named;
      valid = laws.valid log a kept.0 kept.1 real.sound is;
      samples = All-contains FitsFields log (Keep kept.1) (All-from_recursion FitsFields log real.each) (laws.there log a kept is);
    })

module _ (laws : Laws) (b : List ℕ) (log : List Entry) (name : List ℕ) (bitrate : ℕ) (text : List ℕ) (t : IsExportText b log name bitrate text) (real : IsReal log) where
  follows : FollowsHeader t.header text (numbered 1 t.id (quality log name bitrate))
  follows =
      let h = t.head in
      let track = track_of name bitrate t.id (body false t.header).header (laws.apart false t.header) (sym h.id_is) in
      record {
        whole = (bare laws.split laws.any t.header t.channel h.gives h.shortest).1;
        each = of_header name bitrate 1 t.id (body false t.header).header (quality log name bitrate) t.id_fits track (each_is laws log name bitrate real);
        text = t.text_is ∙ ap (λ (x : List ℕ). t.header ++ x) (texts_are 1 t.id (quality log name bitrate));
      }

  pub items_back : (body false text).items ≡ Header t.channel ∷ map (λ (f : Fragment). Frag t.id f) (quality log name bitrate)
  items_back =
      let fs = quality log name bitrate in
      laws.items t.header text (numbered 1 t.id fs) follows
      ∙ (ap (λ (gs : List Given). gs ++ map given_by (numbered 1 t.id fs)) (bare laws.split laws.any t.header t.channel t.head.gives t.head.shortest).0
      ∙ ap (λ (gs : List Given). Header t.channel ∷ gs) (given_are 1 t.id fs))

  pub ends_back : body_end false text ≡ None
  ends_back = laws.end t.header text (numbered 1 t.id (quality log name bitrate)) follows
