-- What is wanted of a part of a channel and of a stream's times.
use Rattle.std.proofs.Common.{◌≡◌, ◌<◌, ◌≤◌, ◌+◌, ℕ, Bool, true, false, cond, not, Some, None, List, [], ◌∷◌, ◌++◌, length, take, drop, get_or, refl, ap, sym, ◌∙◌, subst, append_assoc, append-nil}
use Rattle.std.specs.List.{flat_map, list_any}
use Rattle.std.proofs.lemmas.Grind.{flat_map-append}
use Rattle.std.proofs.lemmas.List.{map-append, take_more, take-append-drop, take_all, get_or_default}
use Rattle.std.proofs.lemmas.List.Elements.{filter-append}
use Rattle.sm_model.specs.declared.track.Track.{Track}
use Rattle.sm_model.specs.Same.{is_same}
use Rattle.sm_log.specs.Adds.{names_from, names_of, tracks_of}
use Rattle.sm_catalog.proofs.Lookups.{names_have}
use Rattle.sm_manin.specs.declared.listing.Listing.{Listing}
use Rattle.sm_manin.specs.declared.listing.StreamListing.{StreamListing}
use Rattle.sm_client.specs.Stands.{listed}
use Rattle.sm_relay.specs.Wants.{Want, wants_at, wants_over, stream_wants, wants_of, first_wants}

-- ---- at one time, and over several

pub wants_at_both : (url : List ℕ) (time : ℕ) (name : List ℕ) (xs ys : List Track) → wants_at url time (tracks_of name (xs ++ ys)) ≡ wants_at url time (tracks_of name xs) ++ wants_at url time (tracks_of name ys)
wants_at_both url time name xs ys =
    ap (wants_at url time) (filter-append (λ (t : Track). is_same t.name name) xs ys) ∙ map-append _ (tracks_of name xs) (tracks_of name ys)

pub wants_over_both : (url : List ℕ) (tracks : List Track) (xs ys : List (ℕ × ℕ)) → wants_over url tracks (xs ++ ys) ≡ wants_over url tracks xs ++ wants_over url tracks ys
wants_over_both url tracks xs ys = flat_map-append (λ (x : ℕ × ℕ). wants_at url x.0 tracks) xs ys

-- ---- by name

by_bool : (b : Bool) (P : Bool → Type 0) → (b ≡ true → P true) → (b ≡ false → P false) → P b
by_bool true P so other = so refl
by_bool false P so other = other refl

abbrev name_more : List (List ℕ) → Track → List (List ℕ)
name_more ns t = cond (list_any (λ n. is_same n t.name) ns) ns (ns ++ t.name ∷ [])

names_snoc : (ns : List (List ℕ)) (ts : List Track) (t : Track) → names_from ns (ts ++ t ∷ []) ≡ name_more (names_from ns ts) t
names_snoc ns [] t = refl
names_snoc ns (u ∷ ts) t =
    by_bool (list_any (λ n. is_same n u.name) ns)
    (λ b. cond b (names_from ns (ts ++ t ∷ [])) (names_from (ns ++ u.name ∷ []) (ts ++ t ∷ [])) ≡ name_more (cond b (names_from ns ts) (names_from (ns ++ u.name ∷ []) ts)) t)
    (λ is. names_snoc ns ts t) (λ is. names_snoc (ns ++ u.name ∷ []) ts t)

names_on : (ns : List (List ℕ)) (ts : List Track) → (rest : List (List ℕ)) × (names_from ns ts ≡ ns ++ rest)
names_on ns [] = ([], sym (append-nil ns))
names_on ns (u ∷ ts) =
    by_bool (list_any (λ n. is_same n u.name) ns) (λ b. (rest : List (List ℕ)) × (cond b (names_from ns ts) (names_from (ns ++ u.name ∷ []) ts) ≡ ns ++ rest))
    (λ is. names_on ns ts)
    (λ is. let r = names_on (ns ++ u.name ∷ []) ts in (u.name ∷ r.0, r.1 ∙ append_assoc ns (u.name ∷ []) r.0))

names_split : (ns : List (List ℕ)) (xs ys : List Track) → names_from ns (xs ++ ys) ≡ names_from (names_from ns xs) ys
names_split ns [] ys = refl
names_split ns (u ∷ xs) ys =
    by_bool (list_any (λ n. is_same n u.name) ns)
    (λ b. cond b (names_from ns (xs ++ ys)) (names_from (ns ++ u.name ∷ []) (xs ++ ys)) ≡ names_from (cond b (names_from ns xs) (names_from (ns ++ u.name ∷ []) xs)) ys)
    (λ is. names_split ns xs ys) (λ is. names_split (ns ++ u.name ∷ []) xs ys)

-- what is wanted of the streams whose names stand in a front of the channel
abbrev pub front_wants : List Track → Listing → List Track → List Want
front_wants channel listing front = flat_map (λ name. stream_wants channel (listed name listing.streams)) (names_of front)

named_before : (front : List Track) (t : Track) → list_any (λ n. is_same n t.name) (names_of front) ≡ list_any (λ u. is_same u.name t.name) front
named_before front t = names_have t.name [] front

one_more : (g : List ℕ → List Want) (ns : List (List ℕ)) (n : List ℕ) (b : Bool) → flat_map g (cond b ns (ns ++ n ∷ [])) ≡ flat_map g ns ++ cond b [] (g n)
one_more g ns n true = sym (append-nil (flat_map g ns))
one_more g ns n false = flat_map-append g ns (n ∷ []) ∙ ap (λ (ws : List Want). flat_map g ns ++ ws) (append-nil (g n))

pub front_wants_more : (channel : List Track) (listing : Listing) (front : List Track) (t : Track)
    → front_wants channel listing (front ++ t ∷ []) ≡ front_wants channel listing front ++ first_wants channel listing front t
front_wants_more channel listing front t =
    ap (flat_map (λ name. stream_wants channel (listed name listing.streams))) (names_snoc [] front t)
    ∙ (one_more (λ name. stream_wants channel (listed name listing.streams)) (names_of front) t.name (list_any (λ n. is_same n t.name) (names_of front))
    ∙ ap (λ (b : Bool). front_wants channel listing front ++ cond b [] (stream_wants channel (listed t.name listing.streams))) (named_before front t))

pub front_wants_on : (channel : List Track) (listing : Listing) (front back : List Track) → (rest : List Want) × (front_wants channel listing (front ++ back) ≡ front_wants channel listing front ++ rest)
front_wants_on channel listing front back =
    let more = names_on (names_of front) back in (
      flat_map (λ name. stream_wants channel (listed name listing.streams)) more.0,
      ap (flat_map (λ name. stream_wants channel (listed name listing.streams))) (names_split [] front back ∙ more.1)
          ∙ flat_map-append (λ name. stream_wants channel (listed name listing.streams)) (names_of front) more.0,
    )

-- ---- an element further

part_more : {A : Type 0} (xs : List A) (i : ℕ) (x : A) → i < length xs → x ≡ get_or xs i x → take (i + 1) xs ≡ take i xs ++ x ∷ []
part_more xs i x lt is = take_more xs i x lt ∙ ap (λ y. take i xs ++ y ∷ []) (sym is)

part_rest : {A : Type 0} (xs : List A) (i : ℕ) (x : A) → i < length xs → x ≡ get_or xs i x → xs ≡ (take i xs ++ x ∷ []) ++ drop (i + 1) xs
part_rest xs i x lt is = sym (take-append-drop (i + 1) xs) ∙ ap (λ ys. ys ++ drop (i + 1) xs) (part_more xs i x lt is)

module _ (url : List ℕ) (time : ℕ) (name : List ℕ) (channel : List Track) (i : ℕ) (t : Track) (lt : i < length channel) (is : t ≡ get_or channel i t) where
  pub wants_at_more : wants_at url time (tracks_of name (take (i + 1) channel)) ≡ wants_at url time (tracks_of name (take i channel)) ++ wants_at url time (tracks_of name (t ∷ []))
  wants_at_more = ap (λ ts. wants_at url time (tracks_of name ts)) (part_more channel i t lt is) ∙ wants_at_both url time name (take i channel) (t ∷ [])

  pub wants_at_rest : wants_at url time (tracks_of name channel)
      ≡ (wants_at url time (tracks_of name (take i channel)) ++ wants_at url time (tracks_of name (t ∷ []))) ++ wants_at url time (tracks_of name (drop (i + 1) channel))
  wants_at_rest =
      ap (λ ts. wants_at url time (tracks_of name ts)) (part_rest channel i t lt is) ∙ wants_at_both url time name (take i channel ++ t ∷ []) (drop (i + 1) channel)
      ∙ ap (λ ws. ws ++ wants_at url time (tracks_of name (drop (i + 1) channel))) (wants_at_both url time name (take i channel) (t ∷ []))

wants_over_one : (url : List ℕ) (tracks : List Track) (x : ℕ × ℕ) → wants_over url tracks (x ∷ []) ≡ wants_at url x.0 tracks
wants_over_one url tracks x = append-nil (wants_at url x.0 tracks)

module _ (url : List ℕ) (tracks : List Track) (times : List (ℕ × ℕ)) (i : ℕ) (x : ℕ × ℕ) (lt : i < length times) (is : x ≡ get_or times i x) where
  pub wants_over_more : wants_over url tracks (take (i + 1) times) ≡ wants_over url tracks (take i times) ++ wants_at url x.0 tracks
  wants_over_more =
      ap (wants_over url tracks) (part_more times i x lt is) ∙ wants_over_both url tracks (take i times) (x ∷ []) ∙ ap (λ ws. wants_over url tracks (take i times) ++ ws) (wants_over_one url tracks x)

  pub wants_over_rest : wants_over url tracks times ≡ (wants_over url tracks (take i times) ++ wants_at url x.0 tracks) ++ wants_over url tracks (drop (i + 1) times)
  wants_over_rest =
      ap (wants_over url tracks) (part_rest times i x lt is) ∙ wants_over_both url tracks (take i times ++ x ∷ []) (drop (i + 1) times)
      ∙ ap (λ ws. ws ++ wants_over url tracks (drop (i + 1) times)) (wants_over_both url tracks (take i times) (x ∷ []) ∙ ap (λ ws. wants_over url tracks (take i times) ++ ws) (wants_over_one url tracks x))

module _ (channel : List Track) (listing : Listing) (i : ℕ) (t : Track) (lt : i < length channel) (is : t ≡ get_or channel i t) where
  pub listing_wants_more : front_wants channel listing (take (i + 1) channel) ≡ front_wants channel listing (take i channel) ++ first_wants channel listing (take i channel) t
  listing_wants_more = ap (front_wants channel listing) (part_more channel i t lt is) ∙ front_wants_more channel listing (take i channel) t

  pub listing_wants_rest : (rest : List Want) × (wants_of channel listing ≡ (front_wants channel listing (take i channel) ++ first_wants channel listing (take i channel) t) ++ rest)
  listing_wants_rest =
      let on = front_wants_on channel listing (take i channel ++ t ∷ []) (drop (i + 1) channel) in (
        on.0,
        ap (front_wants channel listing) (part_rest channel i t lt is) ∙ on.1 ∙ ap (λ ws. ws ++ on.0) (front_wants_more channel listing (take i channel) t),
      )

pub wants_at_all : (url : List ℕ) (time : ℕ) (name : List ℕ) (channel : List Track) (i : ℕ) → length channel ≤ i → wants_at url time (tracks_of name (take i channel)) ≡ wants_at url time (tracks_of name channel)
wants_at_all url time name channel i le = ap (λ (ts : List Track). wants_at url time (tracks_of name ts)) (take_all i channel le)

pub wants_over_all : (url : List ℕ) (tracks : List Track) (times : List (ℕ × ℕ)) (i : ℕ) → length times ≤ i → wants_over url tracks (take i times) ≡ wants_over url tracks times
wants_over_all url tracks times i le = ap (wants_over url tracks) (take_all i times le)

pub listing_wants_all : (channel : List Track) (listing : Listing) (i : ℕ) → length channel ≤ i → front_wants channel listing (take i channel) ≡ wants_of channel listing
listing_wants_all channel listing i le = ap (front_wants channel listing) (take_all i channel le)

-- an element of a list that is lent
pub lent_below : {A : Type 0} (xs ys : List A) (i : ℕ) → ys ≡ xs → i < length ys → i < length xs
lent_below xs ys i same lt = subst (λ (zs : List _). i < length zs) same lt

pub lent_is : {A : Type 0} (xs ys : List A) (i : ℕ) (d : A) → ys ≡ xs → i < length ys → get_or ys i d ≡ get_or xs i (get_or ys i d)
lent_is xs ys i d same lt = get_or_default ys i d (get_or ys i d) lt ∙ ap (λ (zs : List _). get_or zs i (get_or ys i d)) same

-- ---- the first track of a name

pub first_wants_none : (channel : List Track) (listing : Listing) (before : List Track) (t : Track) → list_any (λ u. is_same u.name t.name) before ≡ true → first_wants channel listing before t ≡ []
first_wants_none channel listing before t is = ap (λ (b : Bool). cond b [] (stream_wants channel (listed t.name listing.streams))) is

pub first_wants_found : (channel : List Track) (listing : Listing) (before : List Track) (t : Track) (s : StreamListing) → list_any (λ u. is_same u.name t.name) before ≡ false
    → Some s ≡ listed t.name listing.streams → wants_over s.pattern (tracks_of s.name channel) s.times ≡ first_wants channel listing before t
first_wants_found channel listing before t s is found =
    sym (ap (λ (b : Bool). cond b [] (stream_wants channel (listed t.name listing.streams))) is ∙ ap (stream_wants channel) (sym found))

pub first_wants_absent : (channel : List Track) (listing : Listing) (before : List Track) (t : Track) → list_any (λ u. is_same u.name t.name) before ≡ false → None ≡ listed t.name listing.streams
    → first_wants channel listing before t ≡ []
first_wants_absent channel listing before t is found =
    ap (λ (b : Bool). cond b [] (stream_wants channel (listed t.name listing.streams))) is ∙ ap (stream_wants channel) (sym found)

not_true : (b : Bool) → not b ≡ true → b ≡ false
not_true true e = absurd (cc)
not_true false e = refl

-- a track of another name
pub wants_at_other : (url : List ℕ) (time : ℕ) (name : List ℕ) (t : Track) → not (is_same t.name name) ≡ true → wants_at url time (tracks_of name (t ∷ [])) ≡ []
wants_at_other url time name t other = ap (λ (b : Bool). wants_at url time (cond b (t ∷ []) [])) (not_true (is_same t.name name) other)
