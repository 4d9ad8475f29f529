-- The streams of a catalog to which a fragment was added.
use Rattle.std.proofs.Common.{◌≡◌, ◌≢◌, ◌≤◌, ◌+◌, ℕ, Bool, true, false, ◌&&◌, ◌||◌, cond, eqb, List, [], ◌∷◌, ◌++◌, length, filter, Some, None, is_some, refl, sym, ap, subst, ◌∙◌, arith}
use Rattle.std.proofs.lemmas.Bool.{eqb-true, eqb-false, eq-eqb, ne_eqb, and_left, and_right}
use Rattle.sm_model.specs.declared.track.Track.{Track}
use Rattle.sm_model.specs.Channels.{IsChannel}
use Rattle.sm_model.specs.Same.{is_same}
use Rattle.sm_log.specs.Times.{entry_at, with_entry}
use Rattle.sm_log.specs.Adds.{Add, is_at, tracks_of, place_of, times_of, is_kept, is_listed, listed}
use Rattle.sm_timeline.specs.Lines.{more, count_at}
use Rattle.sm_catalog.specs.Content.{Lane}
use Rattle.sm_catalog.specs.Whole.{IsLane}
use Rattle.sm_log.proofs.Snoc.{times_snoc, sorted_times_from, kept_snoc}
use Rattle.sm_catalog.proofs.Listing.{filter_with, filter_same}
use Rattle.sm_catalog.proofs.Counting.{passing, passing_most, all_by_count, all_same, count_same, HasBitrate, DifferInBitrate, count_flip, not_all}
use Rattle.sm_catalog.proofs.Lookups.{is_named}
use Rattle.sm_catalog.proofs.Adding.{same_name, differ_in_bitrate}
use Rattle.sm_log.proofs.New.{IsNew}

-- ---- the same stream

at_time : (a : Add) (s : List ℕ) (t : ℕ) (tr : Track) → a.address.stream ≡ s → a.address.time ≡ t → is_at (record { stream = s; bitrate = tr.bitrate; time = t }) a ≡ eqb tr.bitrate a.address.bitrate
at_time a s t tr name time =
    let n = same_name a.address.stream s name in
    let e = eq-eqb a.address.time t time in
    rw (n, e) (by_and (eqb a.address.bitrate tr.bitrate) ∙ eqb_swap a.address.bitrate tr.bitrate)
  where
    by_and : (b : Bool) → (b && true) ≡ b
    by_and true = refl
    by_and false = refl

    eqb_swap : (m n : ℕ) → eqb m n ≡ eqb n m
    eqb_swap m n = tested (eqb m n) refl
      where
        tested : (b : Bool) → eqb m n ≡ b → b ≡ eqb n m
        tested true is = sym (eq-eqb n m (sym (eqb-true m n is)))
        tested false is = sym (ne_eqb n m (λ e. eqb-false m n is (sym e)))

other_time : (a : Add) (s : List ℕ) (t : ℕ) (tr : Track) → t ≢ a.address.time → is_at (record { stream = s; bitrate = tr.bitrate; time = t }) a ≡ false
other_time a s t tr ne =
    and_right (is_same a.address.stream s) _ (and_right (eqb a.address.bitrate tr.bitrate) _ (ne_eqb a.address.time t (λ e. ne (sym e))))

or_false : (b c : Bool) → c ≡ false → (b || c) ≡ b
or_false true c e = refl
or_false false c e = e

-- another time is kept as before
pub kept_elsewhen : (adds : List Add) (a : Add) (s : List ℕ) (t : ℕ) (tr : Track) → t ≢ a.address.time → is_kept (adds ++ a ∷ []) s t tr ≡ is_kept adds s t tr
kept_elsewhen adds a s t tr ne = kept_snoc adds a s t tr ∙ or_false (is_kept adds s t tr) _ (other_time a s t tr ne)

pub kept_elsewhere : (adds : List Add) (a : Add) (s : List ℕ) (t : ℕ) (tr : Track) → is_same a.address.stream s ≡ false → is_kept (adds ++ a ∷ []) s t tr ≡ is_kept adds s t tr
kept_elsewhere adds a s t tr ne = kept_snoc adds a s t tr ∙ or_false (is_kept adds s t tr) _ (and_left (is_same a.address.stream s) _ ne)

kept_now : (adds : List Add) (a : Add) (s : List ℕ) (tr : Track) → a.address.stream ≡ s → is_kept (adds ++ a ∷ []) s a.address.time tr ≡ (is_kept adds s a.address.time tr || eqb tr.bitrate a.address.bitrate)
kept_now adds a s tr name =
    kept_snoc adds a s a.address.time tr ∙ ap (λ (b : Bool). is_kept adds s a.address.time tr || b) (at_time a s a.address.time tr name refl)

not_kept : (adds : List Add) (a : Add) (s : List ℕ) (tr : Track) → a.address.stream ≡ s → place_of a.address adds ≡ None → tr.bitrate ≡ a.address.bitrate → is_kept adds s a.address.time tr ≡ false
not_kept adds a s tr name free bitrate =
    ap (λ (n : List ℕ). is_kept adds n a.address.time tr) (sym name)
    ∙ ap (λ (r : ℕ). is_some (place_of (record { stream = a.address.stream; bitrate = r; time = a.address.time }) adds)) bitrate
    ∙ ap is_some free

-- how many tracks are kept at each time
counts_now : (channel : List Track) (adds : List Add) (a : Add) (s : List ℕ) (t : ℕ) → a.address.stream ≡ s → place_of a.address adds ≡ None
    → DifferInBitrate (tracks_of s channel) → HasBitrate a.address.bitrate (tracks_of s channel)
    → passing (is_kept (adds ++ a ∷ []) s t) (tracks_of s channel) ≡ cond (eqb a.address.time t) (passing (is_kept adds s a.address.time) (tracks_of s channel) + 1) (passing (is_kept adds s t) (tracks_of s channel))
counts_now channel adds a s t name free differ has = by_test (eqb a.address.time t) refl
  where
    by_test : (b : Bool) → eqb a.address.time t ≡ b → passing (is_kept (adds ++ a ∷ []) s t) (tracks_of s channel) ≡ cond b (passing (is_kept adds s a.address.time) (tracks_of s channel) + 1)
        (passing (is_kept adds s t) (tracks_of s channel))
    by_test true is =
        let at : a.address.time ≡ t = eqb-true a.address.time t is in
        ap (λ (u : ℕ). passing (is_kept (adds ++ a ∷ []) s u) (tracks_of s channel)) (sym at)
        ∙ count_flip (is_kept adds s a.address.time) (is_kept (adds ++ a ∷ []) s a.address.time) a.address.bitrate (tracks_of s channel) (λ tr. kept_now adds a s tr name) (λ tr e. not_kept adds a s tr name free e) differ has
    by_test false is =
        count_same (is_kept adds s t) (is_kept (adds ++ a ∷ []) s t) (tracks_of s channel) (λ tr. kept_elsewhen adds a s t tr (λ e. eqb-false a.address.time t is (sym e)))

-- what a lane is after the add
pub record IsAddedTo (l m : Lane) (a : Add) : Type 0 where
  pub name : m.name ≡ l.name
  pub tracks : m.tracks ≡ l.tracks
  pub times : m.times ≡ with_entry a.address.time a.duration l.times
  pub count : (start : ℕ) → count_at start m.times m.counts ≡ cond (eqb a.address.time start) (more (count_at a.address.time l.times l.counts)) (count_at start l.times l.counts)
  pub listed : m.listed ≡ cond (eqb (count_at a.address.time m.times m.counts) l.tracks) (with_entry a.address.time a.duration l.listed) l.listed
  pub spare : m.spare + 1 ≡ l.spare
  pub backed : m.spare ≤ m.room

pub lane_added : (channel : List Track) (adds : List Add) (l m : Lane) (a : Add) → IsChannel channel → IsLane channel adds l → IsAddedTo l m a → a.address.stream ≡ l.name → IsNew adds a.address a.duration
    → HasBitrate a.address.bitrate (tracks_of l.name channel) → IsLane channel (adds ++ a ∷ []) m
lane_added channel adds l m a valid lane to name new has =
    let s = l.name in
    let adds' = adds ++ a ∷ [] in
    let differ = differ_in_bitrate s channel valid.agree in
    let few : length (tracks_of s channel) ≤ 64 = omega (arith, passing_most (is_named s) channel, valid.few) in
    let old_most = passing_most (is_kept adds s a.address.time) (tracks_of s channel) in
    let times : times_of s adds' ≡ with_entry a.address.time a.duration (times_of s adds) = times_snoc s [] adds a ∙ rw (same_name a.address.stream s name) refl in
    let value : (w : ℕ) → entry_at a.address.time (times_of s adds) ≡ Some w → w ≡ a.duration = subst (λ (n : List ℕ). (w : ℕ) → entry_at a.address.time (times_of n adds) ≡ Some w → w ≡ a.duration) name new.value in
    let count : (t : ℕ) → count_at t m.times m.counts ≡ passing (is_kept adds' s t) (tracks_of s channel) = λ t.
    to.count t ∙ ap (λ (n : ℕ). cond (eqb a.address.time t) (more n) (count_at t l.times l.counts)) (lane.counts a.address.time)
    ∙ ap (λ (n : ℕ). cond (eqb a.address.time t) (more (passing (is_kept adds s a.address.time) (tracks_of s channel))) n) (lane.counts t)
    ∙ ap (λ (n : ℕ). cond (eqb a.address.time t) n (passing (is_kept adds s t) (tracks_of s channel))) (small (passing (is_kept adds s a.address.time) (tracks_of s channel)) (omega (arith, few, old_most)))
    ∙ sym (counts_now channel adds a s t name new.free differ has) in
    let off : is_listed channel adds s (a.address.time, a.duration) ≡ false = not_all (is_kept adds s a.address.time) a.address.bitrate (tracks_of s channel) (λ tr e. not_kept adds a s tr name new.free e) has in
    let step = filter_with (is_listed channel adds s) (is_listed channel adds' s) a.address.time a.duration (times_of s adds) (sorted_times_from s [] adds tt)
    (λ x ne. all_same (is_kept adds s x.0) (is_kept adds' s x.0) (tracks_of s channel) (λ tr. kept_elsewhen adds a s x.0 tr ne)) off value in
    let now : eqb (count_at a.address.time m.times m.counts) l.tracks ≡ is_listed channel adds' s (a.address.time, a.duration) =
    ap (λ (n : ℕ). eqb n l.tracks) (count a.address.time) ∙ ap (λ (n : ℕ). eqb (passing (is_kept adds' s a.address.time) (tracks_of s channel)) n) lane.tracks
    ∙ sym (all_by_count (is_kept adds' s a.address.time) (tracks_of s channel)) in
    let listing : m.listed ≡ listed channel adds' s =
    to.listed ∙ ap (λ (b : Bool). cond b (with_entry a.address.time a.duration l.listed) l.listed) now
    ∙ ap (λ (ls : List (ℕ × ℕ)). cond (is_listed channel adds' s (a.address.time, a.duration)) (with_entry a.address.time a.duration ls) ls) lane.listed
    ∙ sym (ap (λ (ts : List (ℕ × ℕ)). filter (is_listed channel adds' s) ts) times ∙ step) in
    record {
      times = to.times ∙ ap (λ (ts : List (ℕ × ℕ)). with_entry a.address.time a.duration ts) lane.times ∙ sym times ∙ ap (λ (n : List ℕ). times_of n adds') (sym to.name);
      counts = λ t. count t ∙ ap (λ (n : List ℕ). passing (is_kept adds' n t) (tracks_of n channel)) (sym to.name);
      listed = listing ∙ ap (λ (n : List ℕ). listed channel adds' n) (sym to.name);
      tracks = to.tracks ∙ lane.tracks ∙ ap (λ (n : List ℕ). length (tracks_of n channel)) (sym to.name);
      backed = to.backed;
    }
  where
    small : (n : ℕ) → n ≤ 64 → more n ≡ n + 1
    small n h = omega arith

-- ---- another stream

pub lane_other : (channel : List Track) (adds : List Add) (l : Lane) (a : Add) → IsLane channel adds l → is_same a.address.stream l.name ≡ false → IsLane channel (adds ++ a ∷ []) l
lane_other channel adds l a lane other =
    let s = l.name in
    let adds' = adds ++ a ∷ [] in
    let times : times_of s adds' ≡ times_of s adds = times_snoc s [] adds a ∙ rw other refl in
    record {
      times = lane.times ∙ sym times;
      counts = λ t. lane.counts t ∙ sym (count_same (is_kept adds s t) (is_kept adds' s t) (tracks_of s channel) (λ tr. kept_elsewhere adds a s t tr other));
      listed = lane.listed ∙ sym (ap (λ (ts : List (ℕ × ℕ)). filter (is_listed channel adds' s) ts) times
          ∙ filter_same (is_listed channel adds s) (is_listed channel adds' s) (times_of s adds) (λ x. all_same (is_kept adds s x.0) (is_kept adds' s x.0) (tracks_of s channel) (λ tr. kept_elsewhere adds a s x.0 tr other)));
      tracks = lane.tracks;
      backed = lane.backed;
    }
