-- What is read back of a log.
use Rattle.std.proofs.Common.{◌≡◌, ◌<◌, ◌+◌, ◌-◌, ◌⊎◌, inl, inr, ⊎_elim, ℕ, zero, suc, Result, Ok, Err, IfOk, Some, IsSome, List, [], ◌∷◌, ◌++◌, All, length, map, take, drop, reverse, get_or, refl, sym, ◌∙◌, ap, subst, arith}
use Rattle.std.proofs.lemmas.List.{length-map, reverse-append, take-append-drop}
use Rattle.std.proofs.lemmas.List.Sums.{sum_by-cons}
use Rattle.std.proofs.lemmas.Option.{slice_get-get_or}
use Rattle.std.specs.List.{slice_get}
use Rattle.sm_site.specs.Meanings.{Seen}
use Rattle.sm_model.specs.declared.address.Address.{Address}
use Rattle.sm_model.specs.declared.entry.Entry.{Entry}
use Rattle.sm_model.specs.declared.entry.Entry.TheVariants.{Keep}
use Rattle.sm_model.specs.declared.fragment.Fragment.{Fragment}
use Rattle.sm_model.specs.Entries.{address_of}
use Rattle.sm_model.specs.Fragments.{IsValid, sample_bytes}
use Rattle.sm_log.specs.Adds.{Add, place_of}
use Rattle.sm_log.specs.Logs.{adds_of, IsSound}
use Rattle.sm_log.specs.Digests.{keeps_of, bytes_of}
use Rattle.sm_model.specs.declared.track.Track.{Track}
use Rattle.sm_catalog.specs.Content.{Content}
use Rattle.sm_catalog.specs.Whole.{address_in}
use Rattle.sm_serve.specs.declared.state.State.{State}
use Rattle.sm_serve.specs.Standing.{History}
use Rattle.sm_serve.specs.Serving.{Serves}
use Rattle.sm_shelf.specs.Parts.{IsListing, addresses_in}
use Rattle.sm_show.specs.Recalling.{Recalls, Reads, Shows, IsEndOf}

pub if_ok : {T E : Type 0} (r : Result T E) (P : T → Type 0) → ((x : T) → r ≡ Ok x → P x) → IfOk r P
if_ok (Ok x) P all = all x refl
if_ok (Err e) P all = tt

-- what is found at an address stands at the place of what was added there
pub recalled_found : (log : List Entry) (adds : List Add) (x : Add) (index place : ℕ) (a : Address) (f : Fragment) → IsListing (adds_of log) → adds ≡ adds_of log
    → slice_get adds index ≡ Some x → a ≡ x.address → place_of a (adds_of log) ≡ Some place → slice_get log place ≡ Some (Keep f) → slice_get log x.place ≡ Some (Keep f)
recalled_found log adds x index place a f listing is at same found kept =
    let there = listing.found index x (subst (λ (l : List Add). slice_get l index ≡ Some x) is at) in
    let both : Some place ≡ Some x.place = sym found ∙ ap (λ (b : Address). place_of b (adds_of log)) same ∙ there in
    let one : place ≡ x.place = cc in
    subst (λ (n : ℕ). slice_get log n ≡ Some (Keep f)) one kept

module _ {A : Type 0} where
  pub drop_get : (xs : List A) (i : ℕ) (x : A) → slice_get xs i ≡ Some x → drop i xs ≡ x ∷ drop (suc i) xs
  drop_get [] i x at = absurd cc
  drop_get (y ∷ xs) zero x at = let same : y ≡ x = cc in ap (λ (z : A). z ∷ xs) same
  drop_get (y ∷ xs) (suc i) x at = drop_get xs i x at

  pub drop_back : (xs : List A) (i j : ℕ) (x : A) → j ≡ suc i → slice_get xs i ≡ Some x → drop i xs ≡ x ∷ drop j xs
  drop_back xs i j x is at = drop_get xs i x at ∙ ap (λ (n : ℕ). x ∷ drop n xs) (sym is)

  pub reverse_push : (xs ys : List A) (x : A) → ys ≡ xs ++ x ∷ [] → reverse ys ≡ x ∷ reverse xs
  reverse_push xs ys x is = ap reverse is ∙ reverse-append xs (x ∷ [])

get_address : (adds : List Add) (i : ℕ) (x : Add) → slice_get adds i ≡ Some x → slice_get (addresses_in adds) i ≡ Some x.address
get_address [] i x at = absurd cc
get_address (y ∷ adds) zero x at = let same : y ≡ x = cc in ap (λ (z : Add). Some z.address) same
get_address (y ∷ adds) (suc i) x at = get_address adds i x at

valid_cons : (fs : List Fragment) (f : Fragment) → IsValid f → All IsValid fs → All IsValid (f ∷ fs)
valid_cons fs f one all zero d lt = one
valid_cons fs f one all (suc k) d lt = all k d (omega (arith, lt))

module _ {D : Type 0} (site : Seen D) where
  -- so far the last ones were read, and so many are left
  pub record Gathered (state : State) (adds : List Add) (old : D) (left bytes : ℕ) (fs : List Fragment) : Type 0 where
    pub valid : All IsValid fs
    pub many : length fs + left ≡ length adds
    pub last : map address_of fs ≡ drop left (addresses_in adds)
    pub sum : bytes ≡ bytes_of fs
    pub kept : (h : History) → Serves site h state old → IsSome (site.view old).contents → fs ≡ drop left (keeps_of h.point.machine.log)

  -- what a log says of what was added and what is kept
  pub record Laws : Type 0 where
    pub places : (log : List Entry) (index : ℕ) (a : Add) → IsSound log → slice_get (adds_of log) index ≡ Some a → a.place ≡ index + 1
    pub kept : (log : List Entry) (index : ℕ) (f : Fragment) → IsSound log → slice_get log (index + 1) ≡ Some (Keep f) → slice_get (keeps_of log) index ≡ Some f
    pub many : (log : List Entry) → IsSound log → length (keeps_of log) ≡ length (adds_of log)

  kept_there : Laws → (log : List Entry) (adds : List Add) (x : Add) (index : ℕ) (f : Fragment) → IsSound log → adds ≡ adds_of log → slice_get adds index ≡ Some x
      → slice_get log x.place ≡ Some (Keep f) → slice_get (keeps_of log) index ≡ Some f
  kept_there laws log adds x index f sound is at kept =
      let place = laws.places log index x sound (subst (λ (l : List Add). slice_get l index ≡ Some x) is at) in
      laws.kept log index f sound (subst (λ (n : ℕ). slice_get log n ≡ Some (Keep f)) place kept)

  nothing_yet : (adds : List Address) → drop (length adds) adds ≡ []
  nothing_yet [] = refl
  nothing_yet (a ∷ adds) = nothing_yet adds

  none_kept : (fs : List Fragment) (n : ℕ) → length fs ≡ n → drop n fs ≡ []
  none_kept [] zero is = refl
  none_kept [] (suc n) is = refl
  none_kept (f ∷ fs) zero is = absurd (omega (arith, is))
  none_kept (f ∷ fs) (suc n) is = none_kept fs n (omega (arith, is))

  pub gathers : (state : State) (c : Content) (old : D) (left : ℕ) → Laws → Shows state.origin.archive (Some c) → left ≡ length c.adds → Gathered state c.adds old left 0 []
  gathers state c old left laws of is = record {
    valid = λ k d lt. absurd (omega (arith, lt));
    many = omega (arith, is);
    last = sym (ap (λ (n : ℕ). drop n (addresses_in c.adds)) (is ∙ sym (length-map c.adds (λ (a : Add). a.address))) ∙ nothing_yet (addresses_in c.adds));
    sum = refl;
    kept = λ h serves told.
        let keeps = serves.rest.stands.stands.keeps in
        let shows = of serves.rest.stands.stands.bodies serves.rest.stands.stands.body h.point.machine.log h.point.machine.doubt keeps in
        let log = h.point.machine.log in
        sym (none_kept (keeps_of log) left (laws.many log keeps.sound ∙ ap length (sym shows.1) ∙ sym is));
  }

  pub gathered : (state : State) (c : Content) (old mid : D) (left left' bytes bytes' index : ℕ) (fs : List Fragment) (f : Fragment) → Laws → Shows state.origin.archive (Some c)
      → Recalls site state old mid → Gathered state c.adds old left bytes fs → Reads site state c.adds index mid f
      → left ≡ suc index → left' ≡ index → bytes' ≡ bytes + sample_bytes f.samples → Gathered state c.adds old left' bytes' (f ∷ fs)
  gathered state c old mid left left' bytes bytes' index fs f laws of recalls g reads here there sum =
      let many = g.many in
      let before = g.sum in
      let more : bytes_of (f ∷ fs) ≡ sample_bytes f.samples + bytes_of fs = sum_by-cons (λ (x : Fragment). sample_bytes x.samples) f fs in
      record {
        valid = valid_cons fs f reads.valid g.valid;
        many = omega (arith, many, here, there);
        last = ap (λ (l : List Address). address_of f ∷ l) g.last ∙ ap (λ (a : Address). a ∷ drop left (addresses_in c.adds)) reads.address
            ∙ sym (drop_back (addresses_in c.adds) index left reads.added.address here (get_address c.adds index reads.added reads.at)) ∙ ap (λ (n : ℕ). drop n (addresses_in c.adds)) (sym there);
        sum = omega (arith, sum, before, more);
        kept = λ h serves told.
            let rests = recalls.rests h serves in
            let has = recalls.told ∙ told in
            let keeps = serves.rest.stands.stands.keeps in
            let shows = of serves.rest.stands.stands.bodies serves.rest.stands.stands.body h.point.machine.log h.point.machine.doubt keeps in
            let log = h.point.machine.log in
            let found : slice_get log reads.added.place ≡ Some (Keep f) =
            subst (λ (l : List Entry). slice_get l reads.added.place ≡ Some (Keep f)) (rests.log has) (reads.found rests.later rests.serves has) in
            let at = kept_there laws log c.adds reads.added index f keeps.sound shows.1 reads.at found in
            ap (λ (l : List Fragment). f ∷ l) (g.kept h serves told) ∙ sym (drop_back (keeps_of log) index left f here at) ∙ ap (λ (n : ℕ). drop n (keeps_of log)) (sym there);
      }

  pub end_gathered : (state : State) (adds : List Add) (old : D) (left bytes : ℕ) (fs : List Fragment) → Gathered state adds old left bytes fs → (left ≡ 0) ⊎ (67108864 < bytes)
      → IsEndOf site state adds old fs
  end_gathered state adds old left bytes fs g enough =
      let many = g.many in
      let sum = g.sum in
      let all = length-map adds (λ (a : Add). a.address) in
      let some = length-map fs address_of in
      let here : left ≡ length (addresses_in adds) - length (map address_of fs) = omega (arith, many, all, some) in
      record {
        valid = g.valid;
        within = omega (arith, many);
        last = g.last ∙ ap (λ (n : ℕ). drop n (addresses_in adds)) here;
        kept = λ h serves told.
            let keeps = keeps_of h.point.machine.log in (
              take left keeps,
              sym (ap (λ (l : List Fragment). take left keeps ++ l) (g.kept h serves told) ∙ take-append-drop left keeps),
              ⊎_elim (λ (none : left ≡ 0). inl (ap (λ (n : ℕ). take n keeps) none)) (λ (over : 67108864 < bytes). inr (omega (arith, over, sum))) enough,
            );
      }

abbrev address_made : List ℕ → ℕ → ℕ → Address
address_made name bitrate time = record { stream = name; bitrate = bitrate; time = time }

pub address_is : (channel : List Track) (i time : ℕ) (t : Track) (name : List ℕ) → slice_get channel i ≡ Some t → name ≡ t.name
    → address_made name t.bitrate time ≡ address_in channel i time
address_is [] i time t name at same = absurd cc
address_is (x ∷ channel) zero time t name at same =
    let is : t ≡ x = cc in
    ap (λ (n : List ℕ). address_made n t.bitrate time) same ∙ ap (λ (u : Track). address_made u.name u.bitrate time) is
address_is (x ∷ channel) (suc i) time t name at same = address_is channel i time t name at same

pub address_at_index : (channel tracks : List Track) (i time : ℕ) (d e : Track) (name : List ℕ) → tracks ≡ channel → i < length tracks → name ≡ (get_or tracks i d).name
    → address_made name (get_or tracks i e).bitrate time ≡ address_in channel i time
address_at_index channel tracks i time d e name is within named =
    let one = slice_get-get_or tracks i d within in
    let two = slice_get-get_or tracks i e within in
    let both : Some (get_or tracks i d) ≡ Some (get_or tracks i e) = sym one ∙ two in
    let same : get_or tracks i d ≡ get_or tracks i e = cc in
    address_is channel i time (get_or tracks i e) name (subst (λ (l : List Track). slice_get l i ≡ Some (get_or tracks i e)) is two) (named ∙ ap (λ (t : Track). t.name) same)
