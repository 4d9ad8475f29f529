-- What a write that was put down leaves.
use Rattle.std.proofs.Common.{◌≡◌, ℕ, ◌≤◌, Bool, true, false, List, [], ◌∷◌, ◌++◌, IsTrue, length, take, drop, refl, sym, ◌∙◌, ap, subst}
use Rattle.sm_site.specs.declared.step.Pending.{Pending}
use Rattle.sm_site.specs.declared.step.Step.{Step}
use Rattle.sm_site.specs.declared.step.Step.TheVariants.{Wrote}
use Rattle.sm_site.specs.declared.event.Event.{Event}
use Rattle.sm_site.specs.Image.{Image, bytes_of, written, SameElsewhere, TearsAt}
use Rattle.sm_site.specs.Clauses.{Follows}
use Rattle.sm_site.specs.Past.{Range, State, Agrees, IsOutcome, Tracks, Undoes, after, after_step, is_ordered, numbers_of, ranges_from}
use Rattle.sm_site.specs.Scripts.{is_script}
use Rattle.sm_site.proofs.Connections.{tracks_quiet}
use Rattle.sm_site.proofs.Given.{script_quiet}
use Rattle.sm_site.proofs.Kept.{ranges_push, undoes_noted}
use Rattle.sm_site.proofs.Ordered.{ordered_step}
use Rattle.sm_site.proofs.Steps.{after_push}
use Rattle.sm_site.proofs.Writes.{Put, noted_agrees, noted_write, noted_tears, cached_write}

-- what it puts over is pending
abbrev pub Pends : List Pending → List Pending → ℕ → ℕ → List ℕ → Image → Type 0
Pends pending more file at bytes x = (p : Pending) × (more ≡ pending ++ p ∷ []) × (p.file ≡ file) × (p.at ≡ at) × (p.count ≡ length bytes)
    × (p.length ≡ length (bytes_of x file)) × (p.old.items ≡ take (length bytes) (drop at (bytes_of x file)))

module _ {past later : List Step} {file at : ℕ} {bytes : List ℕ} {failed reached : Bool} (put : Put past later file at bytes failed reached) where
  pub put_tracks : (live : List ℕ) → Tracks past live → Tracks later live
  put_tracks live tracks = tracks_quiet past later (Wrote file at put.own failed reached) live refl put.behind refl tracks

  pub put_script : (rest : List Event) → IsTrue (is_script (numbers_of past) rest) → IsTrue (is_script (numbers_of later) rest)
  put_script rest script = script_quiet past later (Wrote file at put.own failed reached) rest put.behind refl script

  pub put_ordered : IsTrue (is_ordered 0 past) → IsTrue (is_ordered 0 later)
  put_ordered ordered = ordered_step past later (Wrote file at put.own failed reached) put.behind refl ordered

  module _ (first : State) where
    is : after first later ≡ after_step (after first past) (Wrote file at put.own failed reached)
    is = ap (λ (l : List Step). after first l) put.behind ∙ after_push first past (Wrote file at put.own failed reached)

    pub put_agrees : at ≤ length (bytes_of (after first past).contents file) → Agrees (after first past) → Agrees (after first later)
    put_agrees inside agrees = subst (λ (s : State). Agrees s) (sym is) (noted_agrees (after first past) file at put.own failed reached inside agrees)

    pub put_tears : at ≤ length (bytes_of (after first past).contents file) → TearsAt file at (length bytes) (after first past).contents (after first later).contents
    put_tears inside =
        subst (λ (s : State). TearsAt file at (length bytes) (after first past).contents s.contents) (sym is)
        (subst (λ (l : List ℕ). TearsAt file at (length l) (after first past).contents (after_step (after first past) (Wrote file at put.own failed reached)).contents)
        put.copied (noted_tears (after first past) file at put.own failed reached inside))

    pub put_follows : at ≤ length (bytes_of (after first past).contents file)
        → Follows (TearsAt file at (length bytes)) (IsOutcome (after first past)) (IsOutcome (after first later))
    put_follows inside = λ x left.
        let r = noted_write (after first past) file at put.own failed reached inside x (subst (λ (s : State). IsOutcome s x) is left) in
        (r.0, r.1, subst (λ (l : List ℕ). TearsAt file at (length l) r.0 x) put.copied r.2)

    pub put_ranges : (pending more : List Pending) (x : Image) → Pends pending more file at bytes x
        → (after first past).ranges ≡ ranges_from [] pending → (after first later).ranges ≡ ranges_from [] more
    put_ranges pending more x pends ranges =
        let p = pends.0 in
        ap (λ (s : State). s.ranges) is
        ∙ ap (λ (n : ℕ). (record { file = file; at = at; n = n }) ∷ (after first past).ranges) (ap length put.copied ∙ sym pends.4)
        ∙ ap (λ (a : ℕ). (record { file = file; at = a; n = p.count }) ∷ (after first past).ranges) (sym pends.3)
        ∙ ap (λ (f : ℕ). (record { file = f; at = p.at; n = p.count }) ∷ (after first past).ranges) (sym pends.2)
        ∙ ap (λ (rs : List Range). (record { file = p.file; at = p.at; n = p.count }) ∷ rs) ranges
        ∙ sym (ranges_push [] pending p) ∙ ap (λ (l : List Pending). ranges_from [] l) (sym pends.1)

    -- the files after it
    module _ (x y : Image) (cached : (k : ℕ) → bytes_of x k ≡ bytes_of (after first past).contents k) (others : SameElsewhere file x y)
        (wrote : reached ≡ true → bytes_of y file ≡ written (bytes_of x file) at bytes) (kept : reached ≡ false → bytes_of y file ≡ bytes_of x file) where
      pub put_cached : (k : ℕ) → bytes_of y k ≡ bytes_of (after first later).contents k
      put_cached k =
          cached_write (after first past) file at put.own failed reached x y cached others
          (λ yes. wrote yes ∙ ap (λ (l : List ℕ). written (bytes_of x file) at l) (sym put.copied)) kept k
          ∙ ap (λ (s : State). bytes_of s.contents k) (sym is)

      pub put_undoes : (pending more : List Pending) → Pends pending more file at bytes x → at ≤ length (bytes_of (after first past).contents file)
          → Undoes pending x (after first past).base → Undoes more y (after first later).base
      put_undoes pending more pends inside undoes =
          subst (λ (s : State). Undoes more y s.base) (sym is)
          (subst (λ (l : List Pending). Undoes l y (after first past).base) (sym pends.1)
          (undoes_noted pending pends.0 file at x y (after first past).base bytes reached undoes pends.2 pends.3 others
          (subst (λ (l : List ℕ). at ≤ length l) (sym (cached file)) inside) pends.5 pends.6 wrote kept))
