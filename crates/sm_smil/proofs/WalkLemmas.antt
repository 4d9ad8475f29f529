-- At most 64 tracks are kept on the way through the tags.
use Rattle.std.proofs.Common.{◌≡◌, ◌≢◌, ◌≤◌, ◌<◌, ◌+◌, ◌-◌, ℕ, Bool, true, false, ◌&&◌, cond, eqb, leb, List, [], ◌∷◌, ◌++◌, length, take, Option, Some, None, option_to_list, refl, arith, length-append, length-take}
use Rattle.std.proofs.lemmas.Bool.{eqb-false, leb-false}
use Rattle.std.specs.Prelude.{codes}
use Rattle.sm_model.specs.declared.tag.Attribute.{Attribute}
use Rattle.sm_model.specs.declared.tag.Tag.{Tag}
use Rattle.sm_model.specs.declared.tag.Tag.TheVariants.{Start, Finish, Text, End, Bad}
use Rattle.sm_model.specs.declared.track.Kind.{Kind}
use Rattle.sm_smil.specs.declared.raw_track.Form.{Form}
use Rattle.sm_smil.specs.declared.raw_track.RawTrack.{RawTrack}
use Rattle.sm_model.specs.Same.{is_same}
use Rattle.sm_smil.specs.LiveWalk.{Walk, nothing_met, is_switch, track_kind, kind_in, begins, with_current, passes, meets, begins_element, ends_element, step, walk_tags}
use Rattle.sm_tag.specs.Elements.{enters}
use Rattle.sm_model.specs.Places.{first_place}

-- at most 64 tracks have ended, and fewer where one hasn't, which then is open
pub record Fits (w : Walk) : Type 0 where
  pub few : length w.done ≤ 64
  pub inside : (t : RawTrack) → w.current ≡ Some t → (4 ≤ length w.path) × (length w.done < 64)

switch_len : (path : List (List ℕ)) → is_switch path ≡ true → length path ≡ 3
switch_len [] e = cc
switch_len (a ∷ []) e = cc
switch_len (a ∷ b ∷ []) e = cc
switch_len (a ∷ b ∷ c ∷ []) e = refl
switch_len (a ∷ b ∷ c ∷ d ∷ rest) e = cc

pub at_switch : (path : List (List ℕ)) (name : List ℕ) (k : Kind) → track_kind path name ≡ Some k → length path ≡ 3
at_switch path name k e = tested (is_switch path) refl e
  where
    tested : (b : Bool) → is_switch path ≡ b → cond b (kind_in name) None ≡ Some k → length path ≡ 3
    tested true is e = switch_len path is
    tested false is e = cc

entered : (empty : Bool) (name : List ℕ) (path : List (List ℕ)) → length path ≤ length (enters empty name path)
entered true name path = omega arith
entered false name path = omega (arith, length-append path (name ∷ []))

begins_fits : (w : Walk) (name : List ℕ) (empty : Bool) (t : RawTrack) → Fits w → length w.path ≡ 3 → Fits (record (begins w empty t) { path = enters empty name w.path })
begins_fits w name empty t fits at = tested (leb 64 (length w.done)) refl empty
  where
    outside : (u : RawTrack) → w.current ≡ Some u → ⊥
    outside u e = omega (arith, (fits.inside u e).0, at)

    tested : (full : Bool) → leb 64 (length w.done) ≡ full → (empty : Bool)
        → Fits (record (cond full (record w { over = first_place w.over t.at }) (cond empty (record w { done = w.done ++ t ∷ [] }) (record w { current = Some t }))) { path = enters empty name w.path })
    tested true is empty = record { few = fits.few; inside = λ u e. absurd (outside u e) }
    tested false is true =
        let room : length w.done < 64 = leb-false 64 (length w.done) is in
        record { few = omega (arith, room, length-append w.done (t ∷ [])); inside = λ u e. absurd (outside u e) }
    tested false is false =
        let room : length w.done < 64 = leb-false 64 (length w.done) is in
        record { few = fits.few; inside = λ u e. (omega (arith, at, length-append w.path (name ∷ [])), room) }

-- the same tracks have ended, and one is open only if one was
pub record Keeps (w v : Walk) : Type 0 where
  pub done : v.done ≡ w.done
  pub current : (t : RawTrack) → v.current ≡ Some t → (u : RawTrack) × (w.current ≡ Some u)

was_open : (form : Form) (attributes : List Attribute) (at : ℕ) (o : Option RawTrack) (t : RawTrack) → with_current form attributes at o ≡ Some t → (u : RawTrack) × (o ≡ Some u)
was_open form attributes at None t e = cc
was_open form attributes at (Some u) t e = (u, refl)

passes_keeps : (form : Form) (w : Walk) (name : List ℕ) (attributes : List Attribute) (at : ℕ) → Keeps w (passes form w name attributes at)
passes_keeps form w name attributes at = tested (eqb (length w.path) 0) (is_same name (codes "smil")) (eqb (length w.path) 4 && is_same name (codes "param"))
  where
    tested : (a b c : Bool) → Keeps w (cond a (cond b w (record w { other = first_place w.other at })) (cond c (record w { current = with_current form attributes at w.current }) w))
    tested true true c = record { done = refl; current = λ t e. (t, e) }
    tested true false c = record { done = refl; current = λ t e. (t, e) }
    tested false b true = record { done = refl; current = λ t e. was_open form attributes at w.current t e }
    tested false b false = record { done = refl; current = λ t e. (t, e) }

keeps_fits : (w v : Walk) (p : List (List ℕ)) → Keeps w v → length w.path ≤ length p → Fits w → Fits (record v { path = p })
keeps_fits w v p keeps longer fits = record {
  few = rw keeps.done fits.few;
  inside = λ t e.
      let was = keeps.current t e in
      let old = fits.inside was.0 was.1 in
      (omega (arith, old.0, longer), rw keeps.done old.1);
}

starts_fits : (form : Form) (w : Walk) (name : List ℕ) (attributes : List Attribute) (empty : Bool) (at : ℕ) → Fits w → Fits (begins_element form w name attributes empty at)
starts_fits form w name attributes empty at fits = tested (track_kind w.path name) (λ k e. at_switch w.path name k e)
  where
    tested : (o : Option Kind) → ((k : Kind) → o ≡ Some k → length w.path ≡ 3) → Fits (record (meets form w name attributes empty at o) { path = enters empty name w.path })
    tested None len = keeps_fits w _ _ (passes_keeps form w name attributes at) (entered empty name w.path) fits
    tested (Some k) len = begins_fits w name empty _ fits (len k refl)

finishes_fits : (w : Walk) (p : List (List ℕ)) → length w.path ≤ length p + 1 → Fits w → Fits (ends_element w p)
finishes_fits w p longer fits = tested (eqb (length p) 3) refl
  where
    joined : (o : Option RawTrack) → w.current ≡ o → length (w.done ++ option_to_list o) ≤ 64
    joined None is = omega (arith, fits.few, length-append w.done [])
    joined (Some t) is = omega (arith, (fits.inside t is).1, length-append w.done (t ∷ []))

    tested : (b : Bool) → eqb (length p) 3 ≡ b → Fits (cond b (record w { path = p; done = w.done ++ option_to_list w.current; current = None }) (record w { path = p }))
    tested true is = record { few = joined w.current refl; inside = λ t e. cc e }
    tested false is = record {
      few = fits.few;
      inside = λ t e.
          let old = fits.inside t e in
          let other : length p ≢ 3 = eqb-false (length p) 3 is in
          (omega (arith, old.0, longer, other), old.1);
    }

step_fits : (form : Form) (w : Walk) (tag : Tag) → Fits w → Fits (step form w tag)
step_fits form w (Start name attributes empty at) fits = starts_fits form w name attributes empty at fits
step_fits form w (Finish name at) fits =
    finishes_fits w (take (length w.path - 1) w.path) (omega (arith, length-take (length w.path - 1) w.path)) fits
step_fits form w (Text at) fits = fits
step_fits form w End fits = fits
step_fits form w (Bad at) fits = fits

walk_fits : (form : Form) (w : Walk) (tags : List Tag) → Fits w → Fits (walk_tags form w tags)
walk_fits form w [] fits = fits
walk_fits form w (t ∷ ts) fits = walk_fits form (step form w t) ts (step_fits form w t fits)

pub few_tracks : (form : Form) (tags : List Tag) (w : Walk) → w ≡ walk_tags form nothing_met tags → length w.done ≤ 64
few_tracks form tags w is = rw is (walk_fits form nothing_met tags (record { few = omega arith; inside = λ t e. cc e })).few
