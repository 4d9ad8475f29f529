-- The tracks of a channel, read and written.
use Rattle.std.proofs.Common.{◌≡◌, ℕ, zero, suc, List, [], ◌∷◌, ◌++◌, length, Some, refl, sym, ap, subst, ◌∙◌, append_assoc, arith}
use Rattle.std.specs.Int.{w16, w32}
use Rattle.std.specs.List.{flat_map, AllByRecursion}
use Rattle.std.proofs.lemmas.List.{append-nil}
use Rattle.std.proofs.lemmas.List.Concat.{flat_map-cons}
use Rattle.sm_model.specs.declared.track.Track.{Track}
use Rattle.sm_model.specs.Numbers.{number32}
use Rattle.sm_record.specs.Texts.{kind_byte, short_text, long_text, params_text, track_text, declare_text, number16}
use Rattle.sm_record.specs.Bodies.{FitsTrack, IsDeclare}
use Rattle.sm_record.specs.Reading.{◌>>=◌, number_at, short_at, long_at, kind_at, name_at, params_at, track_at, tracks_at, whole, declare_at}
use Rattle.sm_record.proofs.Steps.{IsBytes, bind_some, some_is, Takes, Takes-then, takes16, again16, takes32, again32, whole_takes, nothing_behind, behind}
use Rattle.sm_record.proofs.FieldLaws.{short_takes, short_again, long_takes, long_again, kind_takes, kind_again, name_takes, name_again, params_takes, params_again}

track_takes : (bytes : List ℕ) (t : Track) (rest : List ℕ) → IsBytes bytes → track_at bytes ≡ Some (t, rest) → Takes bytes (track_text t) rest × FitsTrack t
unfolding track_at track_text
track_takes bytes t rest fits e =
    let b1 = bind_some (kind_at bytes) _ (t, rest) e in
    let t1 = kind_takes bytes b1.0.0 b1.0.1 fits b1.1 in
    let b2 = bind_some (name_at b1.0.1) _ (t, rest) b1.2 in
    let t2 = name_takes b1.0.1 b2.0.0 b2.0.1 t1.rest_fits b2.1 in
    let b3 = bind_some (number_at w32 b2.0.1) _ (t, rest) b2.2 in
    let t3 = takes32 b2.0.1 b3.0.0 b3.0.1 t2.0.rest_fits b3.1 in
    let b4 = bind_some (number_at w32 b3.0.1) _ (t, rest) b3.2 in
    let t4 = takes32 b3.0.1 b4.0.0 b4.0.1 t3.0.rest_fits b4.1 in
    let b5 = bind_some (short_at b4.0.1) _ (t, rest) b4.2 in
    let t5 = short_takes b4.0.1 b5.0.0 b5.0.1 t4.0.rest_fits b5.1 in
    let b6 = bind_some (long_at b5.0.1) _ (t, rest) b5.2 in
    let t6 = long_takes b5.0.1 b6.0.0 b6.0.1 t5.0.rest_fits b6.1 in
    let b7 = bind_some (params_at b6.0.1) _ (t, rest) b6.2 in
    let t7 = params_takes b6.0.1 b7.0.0 b7.0.1 t6.0.rest_fits b7.1 in
    let u6 = Takes-then _ _ _ _ _ t6.0 t7.0 in
    let u5 = Takes-then _ _ _ _ _ t5.0 u6 in
    let u4 = Takes-then _ _ _ _ _ t4.0 u5 in
    let u3 = Takes-then _ _ _ _ _ t3.0 u4 in
    let u2 = Takes-then _ _ _ _ _ t2.0 u3 in
    let u1 = Takes-then _ _ _ _ _ t1 u2 in
    let made : Track × List ℕ = (record { kind = b1.0.0; name = b2.0.0; bitrate = b3.0.0; timescale = b4.0.0; fourcc = b5.0.0; private = b6.0.0; numbers = b7.0.0 }, b7.0.1) in
    subst (λ (x : Track × List ℕ). Takes bytes (track_text x.0) x.1 × FitsTrack x.0) (some_is made (t, rest) b7.2)
    (u1, record { name = t2.1; bitrate = t3.1; timescale = t4.1; fourcc = t5.1; private = t6.1; numbers = t7.1 })

track_again : (t : Track) (rest : List ℕ) → FitsTrack t → track_at (track_text t ++ rest) ≡ Some (t, rest)
unfolding track_at track_text
track_again t rest h =
    let regrouped : track_text t ++ rest ≡ kind_byte t.kind ∷ (short_text t.name ++ (number32 t.bitrate ++
    (number32 t.timescale ++ (short_text t.fourcc ++ (long_text t.private ++ (params_text t.numbers ++ rest)))))) = ap (λ (x : List ℕ). kind_byte t.kind ∷ x)
    (behind (short_text t.name) _ rest _ (behind (number32 t.bitrate) _ rest _ (behind (number32 t.timescale) _ rest _
    (behind (short_text t.fourcc) _ rest _ (behind (long_text t.private) _ rest _ refl))))) in
    ap track_at regrouped
    ∙ rw (
      kind_again t.kind _,
      name_again t.name _ h.name,
      again32 t.bitrate _ h.bitrate,
      again32 t.timescale _ h.timescale,
      short_again t.fourcc _,
      long_again t.private _ h.private,
      params_again t.numbers rest h.numbers,
    ) refl

tracks_take : (n : ℕ) (bytes : List ℕ) (x : List Track × List ℕ) → IsBytes bytes → tracks_at n bytes ≡ Some x → Takes bytes (flat_map track_text x.0) x.1 × (length x.0 ≡ n) × AllByRecursion
    FitsTrack x.0
unfolding tracks_at
tracks_take zero bytes x fits e =
    subst (λ (y : List Track × List ℕ). Takes bytes (flat_map track_text y.0) y.1 × (length y.0 ≡ 0) × AllByRecursion FitsTrack y.0) (some_is ([], bytes) x e)
    (record { parts = refl; rest_fits = fits }, refl, tt)
tracks_take (suc n) bytes x fits e =
    let a = bind_some (track_at bytes) (λ first. tracks_at n first.1 >>= λ others. Some (first.0 ∷ others.0, others.1)) x e in
    let b = bind_some (tracks_at n a.0.1) (λ others. Some (a.0.0 ∷ others.0, others.1)) x a.2 in
    let first = track_takes bytes a.0.0 a.0.1 fits a.1 in
    let second = tracks_take n a.0.1 b.0 first.0.rest_fits b.1 in
    let both = Takes-then bytes (track_text a.0.0) a.0.1 (flat_map track_text b.0.0) b.0.1 first.0 second.0 in
    let made : List Track × List ℕ = (a.0.0 ∷ b.0.0, b.0.1) in
    subst (λ (y : List Track × List ℕ). Takes bytes (flat_map track_text y.0) y.1 × (length y.0 ≡ suc n) × AllByRecursion FitsTrack y.0) (some_is made x b.2)
    (rw flat_map-cons both, ap suc second.1, (first.1, second.2))

tracks_again : (ts : List Track) (rest : List ℕ) → AllByRecursion FitsTrack ts → tracks_at (length ts) (flat_map track_text ts ++ rest) ≡ Some (ts, rest)
unfolding tracks_at
tracks_again [] rest fits = refl
tracks_again (t ∷ ts) rest fits =
    let regrouped : flat_map track_text (t ∷ ts) ++ rest ≡ track_text t ++ (flat_map track_text ts ++ rest) = ap (λ (x : List ℕ). x ++ rest) (flat_map-cons track_text t ts) ∙ append_assoc
    (track_text t) (flat_map track_text ts) rest in
    ap (tracks_at (suc (length ts))) regrouped ∙ rw (track_again t (flat_map track_text ts ++ rest) fits.0, tracks_again ts rest fits.1) refl

pub declare_takes : (bytes : List ℕ) (ts : List Track) → IsBytes bytes → declare_at bytes ≡ Some ts → IsDeclare ts bytes
unfolding declare_at declare_text
declare_takes bytes ts fits e =
    let a = bind_some (number_at w16 bytes) (λ n. tracks_at n.0 n.1 >>= λ x. whole x) ts e in
    let b = bind_some (tracks_at a.0.0 a.0.1) (λ x. whole x) ts a.2 in
    let g = whole_takes b.0.0 b.0.1 ts b.2 in
    let first = takes16 bytes a.0.0 a.0.1 fits a.1 in
    let second = tracks_take a.0.0 a.0.1 b.0 first.0.rest_fits b.1 in
    let both = nothing_behind _ _ _ (Takes-then bytes (number16 a.0.0) a.0.1 (flat_map track_text b.0.0) b.0.1 first.0 second.0) g.0 in
    let text : bytes ≡ declare_text b.0.0 = both ∙ ap (λ (k : ℕ). number16 k ++ flat_map track_text b.0.0) (sym second.1) in
    subst (λ (v : List Track). IsDeclare v bytes) g.1 (record { few = omega (arith, second.1, first.1); each = second.2; text = text })

pub declare_again : (ts : List Track) (bytes : List ℕ) → IsDeclare ts bytes → declare_at bytes ≡ Some ts
unfolding declare_at declare_text
declare_again ts bytes h =
    let rest : tracks_at (length ts) (flat_map track_text ts) ≡ Some (ts, []) = ap (tracks_at (length ts)) (sym (append-nil (flat_map track_text ts))) ∙ tracks_again ts [] h.each in
    ap declare_at h.text ∙ rw (again16 (length ts) (flat_map track_text ts) h.few, rest) refl
