-- What looking for tracks and streams by name says.
use Rattle.std.proofs.Common.{◌≡◌, ◌≤◌, ◌<◌, ◌+◌, ℕ, zero, suc, Bool, true, false, not, ◌&&◌, ◌||◌, cond, eqb, ltb, List, [], ◌∷◌, ◌++◌, length, map, get_or, Option, Some, None, is_some, is_none, refl, sym, ap, subst, ◌∙◌, All, arith}
use Rattle.std.proofs.lemmas.Bool.{eqb-true, ltb-false, and_parts}
use Rattle.std.proofs.lemmas.List.Elements.{recursion_from_All}
use Rattle.std.proofs.lemmas.List.Quantifiers.{position-Some}
use Rattle.std.proofs.lemmas.Slice.Eq.{bytes_eq-Decides}
use Rattle.std.specs.List.{AllByRecursion, list_any, position, prefix_len}
use Rattle.sm_model.specs.declared.address.Address.{Address}
use Rattle.sm_model.specs.declared.track.Track.{Track}
use Rattle.sm_log.specs.declared.verdict.Decision.{Decision}
use Rattle.sm_log.specs.declared.verdict.Judged.TheVariants as judged
use Rattle.sm_model.specs.Same.{is_same}
use Rattle.sm_log.specs.Times.{entry_at, with_entry, decision}
use Rattle.sm_log.specs.Adds.{Add, track_at, names_from, names_of, place_of, times_from, times_of, listed, judged_by, verdict}
use Rattle.sm_timeline.specs.Lines.{Entries}
use Rattle.sm_catalog.specs.declared.added.Added.{Added}
use Rattle.sm_catalog.specs.Content.{Lane}
use Rattle.sm_catalog.specs.Kept.{places_of}
use Rattle.sm_catalog.specs.Whole.{address_in, add_in, adds_in, IsLane, IsWhole}
use Rattle.sm_catalog.proofs.Snoc.{places_are}

-- ---- the first place that passes

none_front : {X : Type 0} (p : X → Bool) (xs : List X) → length xs ≤ prefix_len (λ x. not (p x)) xs → list_any p xs ≡ false
none_front p [] h = refl
none_front p (x ∷ xs) h = by_test (p x) h (λ k. none_front p xs k)
  where
    by_test : (b : Bool) → suc (length xs) ≤ cond (not b) (1 + prefix_len (λ x. not (p x)) xs) 0 → (length xs ≤ prefix_len (λ x. not (p x)) xs → list_any p xs ≡ false) → (b || list_any p xs) ≡ false
    by_test true h rest = absurd (omega arith)
    by_test false h rest = rest (omega arith)

pub nowhere : {X : Type 0} (p : X → Bool) (xs : List X) → position p xs ≡ None → list_any p xs ≡ false
nowhere p xs e = by_test (ltb (prefix_len (λ x. not (p x)) xs) (length xs)) refl e
  where
    by_test : (b : Bool) → ltb (prefix_len (λ x. not (p x)) xs) (length xs) ≡ b → cond b (Some (prefix_len (λ x. not (p x)) xs)) None ≡ None → list_any p xs ≡ false
    by_test true is e = absurd cc
    by_test false is e = none_front p xs (ltb-false _ _ is)

pub any_at : {X : Type 0} (p : X → Bool) (xs : List X) (i : ℕ) (d : X) → i < length xs → p (get_or xs i d) ≡ true → list_any p xs ≡ true
any_at p [] i d h e = absurd (omega arith)
any_at p (x ∷ xs) zero d h e = rw e refl
any_at p (x ∷ xs) (suc i) d h e = by_or (p x) (any_at p xs i d (omega arith) e)
  where
    by_or : (b : Bool) → list_any p xs ≡ true → (b || list_any p xs) ≡ true
    by_or true k = refl
    by_or false k = k

-- ---- tracks

abbrev pub is_the : List ℕ → ℕ → Track → Bool
is_the s r t = is_same t.name s && eqb t.bitrate r

pub declared_any : (s : List ℕ) (r : ℕ) (ts : List Track) → is_some (track_at s r ts) ≡ list_any (is_the s r) ts
declared_any s r [] = refl
declared_any s r (t ∷ ts) = by_test (is_the s r t) (declared_any s r ts)
  where
    by_test : (b : Bool) → is_some (track_at s r ts) ≡ list_any (is_the s r) ts → is_some (cond b (Some t) (track_at s r ts)) ≡ (b || list_any (is_the s r) ts)
    by_test true rest = refl
    by_test false rest = rest

pub record FoundTrack (s : List ℕ) (r : ℕ) (channel : List Track) (k : ℕ) : Type 0 where
  pub within : k < length channel
  pub name : (d : Track) → (get_or channel k d).name ≡ s
  pub bitrate : (d : Track) → (get_or channel k d).bitrate ≡ r
  pub declared : is_some (track_at s r channel) ≡ true

pub found_track : (s : List ℕ) (r : ℕ) (channel : List Track) (k : ℕ) → position (is_the s r) channel ≡ Some k → FoundTrack s r channel k
found_track s r channel k e =
    record {
      within = within_of channel e;
      name = λ d. let h = position-Some (is_the s r) channel k d e in (bytes_eq-Decides (get_or channel k d).name s).0 (and_parts _ _ h.1).0;
      bitrate = λ d. let h = position-Some (is_the s r) channel k d e in eqb-true _ _ (and_parts _ _ h.1).1;
      declared = declared_any s r channel ∙ any_of channel e;
    }
  where
    within_of : (ts : List Track) → position (is_the s r) ts ≡ Some k → k < length ts
    within_of [] e = absurd cc
    within_of (t ∷ ts) e = (position-Some (is_the s r) (t ∷ ts) k t e).0

    any_of : (ts : List Track) → position (is_the s r) ts ≡ Some k → list_any (is_the s r) ts ≡ true
    any_of [] e = absurd cc
    any_of (t ∷ ts) e = let h = position-Some (is_the s r) (t ∷ ts) k t e in any_at (is_the s r) (t ∷ ts) k t h.0 h.1

pub no_track : (s : List ℕ) (r : ℕ) (channel : List Track) → position (is_the s r) channel ≡ None → is_some (track_at s r channel) ≡ false
no_track s r channel e = declared_any s r channel ∙ nowhere (is_the s r) channel e

-- ---- streams

abbrev pub is_named : List ℕ → Track → Bool
is_named s t = is_same t.name s

any_append : (s : List ℕ) (ns : List (List ℕ)) (n : List ℕ) → list_any (λ (m : List ℕ). is_same m s) (ns ++ n ∷ []) ≡ (list_any (λ (m : List ℕ). is_same m s) ns || is_same n s)
any_append s [] n = by_or (is_same n s)
  where
    by_or : (b : Bool) → (b || false) ≡ b
    by_or true = refl
    by_or false = refl
any_append s (m ∷ ns) n = by_or (is_same m s) (any_append s ns n)
  where
    by_or : (b : Bool) → list_any (λ (m : List ℕ). is_same m s) (ns ++ n ∷ []) ≡ (list_any (λ (m : List ℕ). is_same m s) ns || is_same n s)
        → (b || list_any (λ (m : List ℕ). is_same m s) (ns ++ n ∷ [])) ≡ ((b || list_any (λ (m : List ℕ). is_same m s) ns) || is_same n s)
    by_or true rest = refl
    by_or false rest = rest

any_same : (s n : List ℕ) (ns : List (List ℕ)) → n ≡ s → list_any (λ (m : List ℕ). is_same m n) ns ≡ true → list_any (λ (m : List ℕ). is_same m s) ns ≡ true
any_same s n ns e h = subst (λ (x : List ℕ). list_any (λ (m : List ℕ). is_same m x) ns ≡ true) e h

-- the names are those of the tracks
pub names_have : (s : List ℕ) (ns : List (List ℕ)) (ts : List Track) → list_any (λ (n : List ℕ). is_same n s) (names_from ns ts) ≡ (list_any (λ (n : List ℕ). is_same n s) ns || list_any (is_named s) ts)
names_have s ns [] = by_or (list_any (λ (n : List ℕ). is_same n s) ns)
  where
    by_or : (b : Bool) → b ≡ (b || false)
    by_or true = refl
    by_or false = refl
names_have s ns (t ∷ ts) = by_test (list_any (λ (n : List ℕ). is_same n t.name) ns) (is_same t.name s) refl refl (names_have s ns ts) (names_have s (ns ++ t.name ∷ []) ts)
  where
    by_or : (a b c : Bool) → ((a || b) || c) ≡ (a || (b || c))
    by_or true b c = refl
    by_or false b c = refl

    by_test : (a b : Bool) → list_any (λ (n : List ℕ). is_same n t.name) ns ≡ a → is_same t.name s ≡ b
        → list_any (λ (n : List ℕ). is_same n s) (names_from ns ts) ≡ (list_any (λ (n : List ℕ). is_same n s) ns || list_any (is_named s) ts)
        → list_any (λ (n : List ℕ). is_same n s) (names_from (ns ++ t.name ∷ []) ts) ≡ (list_any (λ (n : List ℕ). is_same n s) (ns ++ t.name ∷ []) || list_any (is_named s) ts)
        → list_any (λ (n : List ℕ). is_same n s) (cond a (names_from ns ts) (names_from (ns ++ t.name ∷ []) ts)) ≡ (list_any (λ (n : List ℕ). is_same n s) ns || (b || list_any (is_named s) ts))
    by_test true true u w old new =
        let there = any_same s t.name ns ((bytes_eq-Decides t.name s).0 w) u in
        old ∙ rw there refl
    by_test true false u w old new = old
    by_test false b u w old new = new ∙ ap (λ (x : Bool). x || list_any (is_named s) ts) (any_append s ns t.name) ∙ rw w (by_or (list_any (λ (n : List ℕ). is_same n s) ns) b (list_any (is_named s) ts))

any_map : (s : List ℕ) (ls : List Lane) → list_any (λ (n : List ℕ). is_same n s) (map (λ (l : Lane). l.name) ls) ≡ list_any (λ (l : Lane). is_same l.name s) ls
any_map s [] = refl
any_map s (l ∷ ls) = ap (λ (b : Bool). is_same l.name s || b) (any_map s ls)

pub none_named : (s : List ℕ) (channel : List Track) (lanes : List Lane) → map (λ (l : Lane). l.name) lanes ≡ names_of channel → position (λ (l : Lane). is_same l.name s) lanes ≡ None → list_any (is_named s) channel ≡ false
none_named s channel lanes names e =
    sym (names_have s [] channel) ∙ ap (λ (ns : List (List ℕ)). list_any (λ (n : List ℕ). is_same n s) ns) (sym names) ∙ any_map s lanes ∙ nowhere (λ (l : Lane). is_same l.name s) lanes e

pub not_declared : (s : List ℕ) (r : ℕ) (channel : List Track) → list_any (is_named s) channel ≡ false → is_some (track_at s r channel) ≡ false
not_declared s r [] e = refl
not_declared s r (t ∷ ts) e = by_test (is_same t.name s) e (λ k. not_declared s r ts k)
  where
    by_test : (b : Bool) → (b || list_any (is_named s) ts) ≡ false → (list_any (is_named s) ts ≡ false → is_some (track_at s r ts) ≡ false) → is_some (cond (b && eqb t.bitrate r) (Some t) (track_at s r ts)) ≡ false
    by_test true e rest = absurd cc
    by_test false e rest = rest e

-- ---- what was added

other_stream : (s : List ℕ) (channel : List Track) (k time : ℕ) → k < length channel → list_any (is_named s) channel ≡ false → is_same (address_in channel k time).stream s ≡ false
other_stream s [] k time h e = absurd (omega arith)
other_stream s (t ∷ ts) zero time h e = by_or (is_same t.name s) e
  where
    by_or : (b : Bool) → (b || list_any (is_named s) ts) ≡ false → b ≡ false
    by_or true e = absurd cc
    by_or false e = refl
other_stream s (t ∷ ts) (suc k) time h e = by_or (is_same t.name s) e (λ k'. other_stream s ts k time (omega arith) k')
  where
    by_or : (b : Bool) → (b || list_any (is_named s) ts) ≡ false → (list_any (is_named s) ts ≡ false → is_same (address_in ts k time).stream s ≡ false) → is_same (address_in ts k time).stream s ≡ false
    by_or true e rest = absurd cc
    by_or false e rest = rest e

no_times_from : (s : List ℕ) (channel : List Track) (ts : List (ℕ × ℕ)) (added : List Added) → AllByRecursion (λ (x : Added). x.track < length channel) added → list_any (is_named s) channel ≡ false
    → times_from s ts (adds_in channel added) ≡ ts
no_times_from s channel ts [] all e = refl
no_times_from s channel ts (x ∷ added) all e =
    let other = other_stream s channel x.track x.time all.0 e in
    ap (λ (b : Bool). times_from s (cond b (with_entry (add_in channel x).address.time (add_in channel x).duration ts) ts) (adds_in channel added)) other ∙ no_times_from s channel ts added all.1 e

pub no_times : (s : List ℕ) (channel : List Track) (added : List Added) → All (λ (x : Added). x.track < length channel) added → list_any (is_named s) channel ≡ false → times_of s (adds_in channel added) ≡ []
no_times s channel added all e = no_times_from s channel [] added (recursion_from_All (λ (x : Added). x.track < length channel) added all) e

other_address : (s : List ℕ) (r t : ℕ) (channel : List Track) (k time : ℕ) → k < length channel → list_any (is_the s r) channel ≡ false
    → (is_same (address_in channel k time).stream s && (eqb (address_in channel k time).bitrate r && eqb (address_in channel k time).time t)) ≡ false
other_address s r t [] k time h e = absurd (omega arith)
other_address s r t (u ∷ us) zero time h e = by_or (is_same u.name s) (eqb u.bitrate r) e
  where
    by_or : (a b : Bool) → ((a && b) || list_any (is_the s r) us) ≡ false → (a && (b && eqb time t)) ≡ false
    by_or true true e = absurd cc
    by_or true false e = refl
    by_or false b e = refl
other_address s r t (u ∷ us) (suc k) time h e = by_or (is_the s r u) e (λ k'. other_address s r t us k time (omega arith) k')
  where
    P : Type 0
    P = (is_same (address_in us k time).stream s && (eqb (address_in us k time).bitrate r && eqb (address_in us k time).time t)) ≡ false

    by_or : (b : Bool) → (b || list_any (is_the s r) us) ≡ false → (list_any (is_the s r) us ≡ false → P) → P
    by_or true e rest = absurd cc
    by_or false e rest = rest e

no_place_in : (x : Address) (channel : List Track) (added : List Added) → AllByRecursion (λ (a : Added). a.track < length channel) added → list_any (is_the x.stream x.bitrate) channel ≡ false
    → place_of x (adds_in channel added) ≡ None
no_place_in x channel [] all e = refl
no_place_in x channel (a ∷ added) all e =
    let other = other_address x.stream x.bitrate x.time channel a.track a.time all.0 e in
    rw other (no_place_in x channel added all.1 e)

pub no_place : (x : Address) (channel : List Track) (added : List Added) → All (λ (a : Added). a.track < length channel) added → position (is_the x.stream x.bitrate) channel ≡ None → place_of x (adds_in channel added) ≡ None
no_place x channel added all e =
    no_place_in x channel added (recursion_from_All (λ (a : Added). a.track < length channel) added all) (nowhere (is_the x.stream x.bitrate) channel e)

-- ---- what a catalog has

pub kept_place : (x : Address) (channel : List Track) (added : List Added) (kept : List Entries) (lanes : List Lane) (reserved capacity k : ℕ) (e : Entries) (o : Option ℕ) → IsWhole channel added kept lanes reserved capacity
    → position (is_the x.stream x.bitrate) channel ≡ Some k → e ≡ get_or kept k e → o ≡ entry_at x.time e.entries → o ≡ place_of x (adds_in channel added)
kept_place x [] added kept lanes reserved capacity k e o whole at is value = absurd cc
kept_place x (t ∷ ts) added kept lanes reserved capacity k e o whole at is value =
    let found = found_track x.stream x.bitrate (t ∷ ts) k at in
    let places = whole.places k e t found.within in
    value ∙ ap (λ (y : Entries). entry_at x.time y.entries) is ∙ ap (λ l. entry_at x.time l) places
    ∙ ap (λ (s : List ℕ). entry_at x.time (places_of s (get_or (t ∷ ts) k t).bitrate (adds_in (t ∷ ts) added))) (found.name t)
    ∙ ap (λ (r : ℕ). entry_at x.time (places_of x.stream r (adds_in (t ∷ ts) added))) (found.bitrate t)
    ∙ places_are x.stream x.bitrate x.time [] (adds_in (t ∷ ts) added) tt

pub record FoundLane (s : List ℕ) (channel : List Track) (adds : List Add) (l : Lane) : Type 0 where
  pub name : l.name ≡ s
  pub times : l.times ≡ times_of s adds
  pub listed : l.listed ≡ listed channel adds s

pub found_lane : (s : List ℕ) (channel : List Track) (added : List Added) (kept : List Entries) (lanes : List Lane) (reserved capacity j : ℕ) (l : Lane) → IsWhole channel added kept lanes reserved capacity
    → position (λ (m : Lane). is_same m.name s) lanes ≡ Some j → l ≡ get_or lanes j l → FoundLane s channel (adds_in channel added) l
found_lane s channel added kept lanes reserved capacity j l whole at is =
    let h = position-Some (λ (m : Lane). is_same m.name s) lanes j l at in
    let name : l.name ≡ s = (bytes_eq-Decides l.name s).0 (rw (← is) at h.1) in
    let lane : IsLane channel (adds_in channel added) l = subst (IsLane channel (adds_in channel added)) (sym is) (whole.each j l h.0) in
    record {
      name = name;
      times = lane.times ∙ ap (λ (n : List ℕ). times_of n (adds_in channel added)) name;
      listed = lane.listed ∙ ap (λ (n : List ℕ). listed channel (adds_in channel added) n) name;
    }

-- ---- verdicts

pub undeclared : (channel : List Track) (adds : List Add) (x : Address) (d : ℕ) → is_some (track_at x.stream x.bitrate channel) ≡ false → judged.NotDeclared ≡ verdict channel adds x d
undeclared channel adds x d e = rw e refl

pub verdict_is : (channel : List Track) (adds : List Add) (x : Address) (d : ℕ) (ts : List (ℕ × ℕ)) (is : Decision) → is_some (track_at x.stream x.bitrate channel) ≡ true → ts ≡ times_of x.stream adds
    → is ≡ decision ts x.time d
    → judged_by (place_of x adds) is ≡ verdict channel adds x d
verdict_is channel adds x d ts is declared times e =
    rw declared (ap (judged_by (place_of x adds)) e ∙ ap (λ (l : List (ℕ × ℕ)). judged_by (place_of x adds) (decision l x.time d)) times)

-- ---- the track of an address

track_first : (s : List ℕ) (r : ℕ) (ts : List Track) (k : ℕ) (d : Track) → k < length ts → is_the s r (get_or ts k d) ≡ true → ((i : ℕ) → i < k → is_the s r (get_or ts i d) ≡ false)
    → track_at s r ts ≡ Some (get_or ts k d)
track_first s r [] k d h is before = absurd (omega arith)
track_first s r (t ∷ ts) zero d h is before = rw is refl
track_first s r (t ∷ ts) (suc k) d h is before =
    let first : is_the s r t ≡ false = before 0 (omega arith) in
    rw first (track_first s r ts k d (omega arith) is (λ i less. before (suc i) (omega (arith, less))))

pub track_is : (s : List ℕ) (r : ℕ) (ts : List Track) (k : ℕ) (d : Track) → position (is_the s r) ts ≡ Some k → track_at s r ts ≡ Some (get_or ts k d)
track_is s r ts k d e = let h = position-Some (is_the s r) ts k d e in track_first s r ts k d h.0 h.1 h.2

pub none_is : (o : Option Track) → is_some o ≡ false → o ≡ None
none_is None e = refl
none_is (Some t) e = absurd cc

pub lacks_is : (s : List ℕ) (r : ℕ) (ts : List Track) (o : Option ℕ) → o ≡ position (is_the s r) ts → is_none o ≡ is_none (track_at s r ts)
lacks_is s r ts None e = ap is_none (sym (none_is (track_at s r ts) (no_track s r ts (sym e))))
lacks_is s r [] (Some k) e = absurd cc
lacks_is s r (t ∷ ts) (Some k) e = ap is_none (sym (track_is s r (t ∷ ts) k t (sym e)))

-- ---- the lane of a name

pub found_within : (s : List ℕ) (lanes : List Lane) (j : ℕ) → position (λ (l : Lane). is_same l.name s) lanes ≡ Some j → j < length lanes
found_within s [] j e = absurd cc
found_within s (l ∷ lanes) j e = (position-Some (λ (m : Lane). is_same m.name s) (l ∷ lanes) j l e).0

pub found_name : (s : List ℕ) (lanes : List Lane) (j : ℕ) (d : Lane) → position (λ (l : Lane). is_same l.name s) lanes ≡ Some j → (get_or lanes j d).name ≡ s
found_name s lanes j d e = (bytes_eq-Decides (get_or lanes j d).name s).0 (position-Some (λ (m : Lane). is_same m.name s) lanes j d e).1

-- ---- the names, track by track

some_any : {X : Type 0} (p : X → Bool) (xs : List X) (k : ℕ) → position p xs ≡ Some k → list_any p xs ≡ true
some_any p [] k e = absurd cc
some_any p (x ∷ xs) k e = let h = position-Some p (x ∷ xs) k x e in any_at p (x ∷ xs) k x h.0 h.1

pub name_there : (ls : List Lane) (t : Track) (ts : List Track) (k : ℕ) → position (λ (l : Lane). is_same l.name t.name) ls ≡ Some k
    → names_from (map (λ (l : Lane). l.name) ls) (t ∷ ts) ≡ names_from (map (λ (l : Lane). l.name) ls) ts
name_there ls t ts k e = rw (any_map t.name ls ∙ some_any (λ (l : Lane). is_same l.name t.name) ls k e) refl

pub name_new : (ls : List Lane) (t : Track) (ts : List Track) → position (λ (l : Lane). is_same l.name t.name) ls ≡ None
    → names_from (map (λ (l : Lane). l.name) ls) (t ∷ ts) ≡ names_from (map (λ (l : Lane). l.name) ls ++ t.name ∷ []) ts
name_new ls t ts e = rw (any_map t.name ls ∙ nowhere (λ (l : Lane). is_same l.name t.name) ls e) refl
