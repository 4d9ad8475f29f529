-- Whether one catalog goes on from another.
use Rattle.std.proofs.Common.{◌≡◌, ◌<◌, ◌+◌, inl, inr, ℕ, zero, suc, Option, Some, None, List, [], ◌∷◌, ◌++◌, length, map, get_or, refl, sym, ap, subst, ◌∙◌, arith}
use Rattle.std.proofs.lemmas.Bool.{cases_order}
use Rattle.std.proofs.lemmas.List.{map-append}
use Rattle.std.specs.List.{slice_get}
use Rattle.std.specs.Option.{option_map, IfSome}
use Rattle.sm_model.specs.declared.address.Address.{Address}
use Rattle.sm_model.specs.declared.track.Track.{Track}
use Rattle.sm_model.specs.Channels.{IsChannel}
use Rattle.sm_log.specs.Adds.{Add}
use Rattle.sm_log.specs.Digests.{Digest, Extends}
use Rattle.sm_catalog.specs.declared.added.Added.{Added}
use Rattle.sm_catalog.specs.Content.{Content}
use Rattle.sm_catalog.specs.Whole.{address_in, add_in}
use Rattle.sm_catalog.proofs.Adding.{tracks_apart}
use Rattle.sm_catalog.proofs.Together.{address_is}
use Rattle.sm_shelf.specs.Parts.{stripped, placed, channel_in, told_in, added_in, IsListing}

-- a list that has all that another has goes on from it
pub goes_on : (xs bs : List Add) → ((k : ℕ) → k < length bs → slice_get xs k ≡ slice_get bs k) → (more : List Add) × (xs ≡ bs ++ more)
goes_on xs [] all = (xs, refl)
goes_on [] (b ∷ bs) all = absurd (let first = all 0 (omega arith) in cc)
goes_on (a ∷ xs) (b ∷ bs) all =
    let first : Some a ≡ Some b = all 0 (omega arith) in
    let same : a ≡ b = cc in
    let rest = goes_on xs bs (λ k lt. all (suc k) (omega (arith, lt))) in
    (rest.0, ap (λ (x : Add). x ∷ xs) same ∙ ap (λ (l : List Add). b ∷ l) rest.1)

-- one that goes on from another has all that it has
pub front_at : (bs more : List Add) (k : ℕ) → k < length bs → slice_get (bs ++ more) k ≡ slice_get bs k
front_at [] more k lt = absurd (omega (arith, lt))
front_at (b ∷ bs) more zero lt = refl
front_at (b ∷ bs) more (suc k) lt = front_at bs more k (omega (arith, lt))

-- tracks of a channel that have one address are one
one_track : (channel : List Track) (i j : ℕ) (d : Track) → IsChannel channel → i < length channel → j < length channel → (get_or channel i d).name ≡ (get_or channel j d).name
    → (get_or channel i d).bitrate ≡ (get_or channel j d).bitrate → i ≡ j
one_track channel i j d valid hi hj name bitrate =
    elim (cases_order i j) [
      | inl e ↦ e
      | inr o ↦ absurd (tracks_apart channel i j d valid hi hj (λ e. elim o [
        | inl less ↦ omega (arith, less, e)
        | inr less ↦ omega (arith, less, e)
      ]) name bitrate)
    ]

same_added : (x y : Added) → x.track ≡ y.track → x.time ≡ y.time → x.duration ≡ y.duration → x.place ≡ y.place → x ≡ y
same_added x y a b c d =
    ap (λ (n : ℕ). record { track = n; time = x.time; duration = x.duration; place = x.place }) a
    ∙ ap (λ (n : ℕ). record { track = y.track; time = n; duration = x.duration; place = x.place }) b
    ∙ ap (λ (n : ℕ). record { track = y.track; time = y.time; duration = n; place = x.place }) c
    ∙ ap (λ (n : ℕ). record { track = y.track; time = y.time; duration = y.duration; place = n }) d

-- what is kept of two adds of a channel is equal where they are
one_added : (channel : List Track) (x y : Added) → IsChannel channel → x.track < length channel → y.track < length channel → add_in channel x ≡ add_in channel y → x ≡ y
one_added [] x y valid hx hy same = absurd (omega (arith, hx))
one_added (t ∷ ts) x y valid hx hy same =
    let channel = t ∷ ts in
    let ax = address_is channel x.track x.time t hx in
    let ay = address_is channel y.track y.time t hy in
    let address : address_in channel x.track x.time ≡ address_in channel y.track y.time = ap (λ (a : Add). a.address) same in
    let named = sym (ap (λ (a : Address). a.stream) ax) ∙ ap (λ (a : Address). a.stream) address ∙ ap (λ (a : Address). a.stream) ay in
    let rated = sym (ap (λ (a : Address). a.bitrate) ax) ∙ ap (λ (a : Address). a.bitrate) address ∙ ap (λ (a : Address). a.bitrate) ay in
    let timed = sym (ap (λ (a : Address). a.time) ax) ∙ ap (λ (a : Address). a.time) address ∙ ap (λ (a : Address). a.time) ay in
    same_added x y (one_track channel x.track y.track t valid hx hy named rated) timed (ap (λ (a : Add). a.duration) same) (ap (λ (a : Add). a.place) same)

-- so is what is read of two lists of adds
pub one_read : (channel : List Track) (o p : Option Added) → IsChannel channel → IfSome o (λ x. x.track < length channel) → IfSome p (λ y. y.track < length channel)
    → option_map (add_in channel) o ≡ option_map (add_in channel) p → o ≡ p
one_read channel None None valid ho hp same = refl
one_read channel None (Some y) valid ho hp same = absurd cc
one_read channel (Some x) None valid ho hp same = absurd cc
one_read channel (Some x) (Some y) valid ho hp same =
    let is : add_in channel x ≡ add_in channel y = cc in
    ap (λ (a : Added). Some a) (one_added channel x y valid ho hp is)

-- so the digests do
pub digests_go : (d older : Digest) (o p : Option Content) (c e : Content) → d.channel ≡ channel_in o → d.adds ≡ told_in o → older.channel ≡ channel_in p → older.adds ≡ told_in p
    → o ≡ Some c → p ≡ Some e → c.channel ≡ e.channel → (more : List Add) × (c.adds ≡ e.adds ++ more) → Extends d older
digests_go d older o p c e dc da oc oa is at same on = record {
  channel = inr (dc ∙ ap channel_in is ∙ ap (λ (t : List Track). Some t) same ∙ sym (oc ∙ ap channel_in at));
  adds = (map stripped on.0, da ∙ ap told_in is ∙ ap (map stripped) on.1 ∙ map-append stripped e.adds on.0 ∙ ap (λ (l : List (Address × ℕ)). l ++ map stripped on.0) (sym (oa ∙ ap told_in at)));
}

pub from_nothing : (d older : Digest) (p : Option Content) → older.channel ≡ channel_in p → older.adds ≡ told_in p → p ≡ None → Extends d older
from_nothing d older p oc oa none = record {
  channel = inl (oc ∙ ap channel_in none);
  adds = (d.adds, ap (λ (l : List (Address × ℕ)). l ++ d.adds) (sym (oa ∙ ap told_in none)));
}

-- ---- the other way

-- a list behind another has the places behind those of that
placed_append : (p : ℕ) (xs ys : List (Address × ℕ)) → placed p (xs ++ ys) ≡ placed p xs ++ placed (p + length xs) ys
placed_append p [] ys =
    let same : p ≡ p + 0 = omega arith in
    ap (λ (n : ℕ). placed n ys) same
placed_append p (x ∷ xs) ys =
    let same : suc p + length xs ≡ p + suc (length xs) = omega arith in
    ap (λ (l : List Add). record { address = x.0; duration = x.1; place = p } ∷ l) (placed_append (suc p) xs ys ∙ ap (λ (n : ℕ). placed (suc p) xs ++ placed n ys) same)

-- adds tell their places, so they go on from others where they do so without them
adds_go : (adds olds : List Add) (more : List (Address × ℕ)) → IsListing adds → IsListing olds → map stripped adds ≡ map stripped olds ++ more
    → (rest : List Add) × (adds ≡ olds ++ rest)
adds_go adds olds more a o is =
    let rest = placed (1 + length (map stripped olds)) more in
    (rest, a.places ∙ ap (placed 1) is ∙ placed_append 1 (map stripped olds) more ∙ ap (λ (l : List Add). l ++ rest) (sym o.places))

-- so do the catalogs of digests
pub catalogs_go : (d older : Digest) (o p : Option Content) (c e : Content) → d.channel ≡ channel_in o → d.adds ≡ told_in o → older.channel ≡ channel_in p → older.adds ≡ told_in p
    → o ≡ Some c → p ≡ Some e → IsListing (added_in o) → IsListing (added_in p) → Extends d older → (c.channel ≡ e.channel) × ((more : List Add) × (c.adds ≡ e.adds ++ more))
catalogs_go d older o p c e dc da oc oa is at l m on = (
  elim on.channel [
    | inl empty ↦ absurd (let some : Some e.channel ≡ None = sym (oc ∙ ap channel_in at) ∙ empty in cc)
    | inr same ↦ let one : Some c.channel ≡ Some e.channel = sym (dc ∙ ap channel_in is) ∙ same ∙ oc ∙ ap channel_in at in cc
  ],
  adds_go c.adds e.adds on.adds.0 (subst IsListing (ap added_in is) l) (subst IsListing (ap added_in at) m)
      (sym (da ∙ ap told_in is) ∙ on.adds.1 ∙ ap (λ (x : List (Address × ℕ)). x ++ on.adds.0) (oa ∙ ap told_in at)),
)

-- one without a channel goes on from none that has one
pub not_from_nothing : (d older : Digest) (o p : Option Content) (e : Content) → d.channel ≡ channel_in o → older.channel ≡ channel_in p → o ≡ None → p ≡ Some e → Extends d older → ⊥
not_from_nothing d older o p e dc oc none at on =
    elim on.channel [
      | inl empty ↦ let some : Some e.channel ≡ None = sym (oc ∙ ap channel_in at) ∙ empty in cc
      | inr same ↦ let one : None ≡ Some e.channel = sym (dc ∙ ap channel_in none) ∙ same ∙ oc ∙ ap channel_in at in cc
    ]
