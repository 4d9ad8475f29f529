-- What was added, with its places, and the window at its end.
use Rattle.std.proofs.Common.{◌≡◌, ◌⊎◌, inl, inr, ◌+◌, ◌-◌, ◌≤◌, ◌<◌, ℕ, zero, suc, Bool, true, false, cond, eqb, eq-eqb, ltb, Option, Some, None, List, [], ◌∷◌, ◌++◌, length, map, take, drop, refl, sym, ap, ◌∙◌, subst, append_assoc, arith}
use Rattle.std.proofs.lemmas.Bool.{and_parts, and_from}
use Rattle.std.proofs.lemmas.Bool.Decides.{nat_tests}
use Rattle.std.proofs.lemmas.Slice.Eq.{bytes_eq-Decides}
use Rattle.std.proofs.lemmas.List.{length-append, length-map, map-append, take-append-drop, length-take-le}
use Rattle.std.proofs.lemmas.Option.{slice_get_within}
use Rattle.std.proofs.Math.Seq.{drop-append_seam}
use Rattle.std.specs.List.{slice_get}
use Rattle.sm_model.specs.declared.address.Address.{Address}
use Rattle.sm_model.specs.declared.fragment.Fragment.{Fragment}
use Rattle.sm_model.specs.declared.track.Track.{Track}
use Rattle.sm_model.specs.Entries.{address_of}
use Rattle.sm_model.specs.Same.{is_same}
use Rattle.sm_log.specs.declared.verdict.Judged.{Judged}
use Rattle.sm_log.specs.declared.verdict.Judged.TheVariants as judged
use Rattle.sm_log.specs.Adds.{Add, place_of, is_at, verdict}
use Rattle.sm_log.specs.Logs.{verdict_by}
use Rattle.sm_log.specs.Digests.{Digest, window_of}
use Rattle.sm_log.proofs.AllAdds.{places_stay, new_declared}
use Rattle.sm_log.proofs.New as new
use Rattle.sm_catalog.specs.Content.{Content}
use Rattle.sm_shelf.specs.Parts.{placed, stripped, told_in, addresses_in, IsEnd, IsListing, IsStocked}
use Rattle.sm_shelf.specs.Laying.{is_next, is_new, adds_in}
use Rattle.sm_shelf.proofs.Windows.{window_behind, window_short}

abbrev add_at : Address × ℕ → ℕ → Add
add_at x p = record { address = x.0; duration = x.1; place = p }

pub placed_snoc : (p : ℕ) (xs : List (Address × ℕ)) (x : Address × ℕ) → placed p (xs ++ x ∷ []) ≡ placed p xs ++ add_at x (p + length xs) ∷ []
placed_snoc p [] x =
    let same : p ≡ p + 0 = omega arith in
    ap (λ (n : ℕ). add_at x n ∷ []) same
placed_snoc p (y ∷ ys) x =
    let same : suc p + length ys ≡ p + suc (length ys) = omega arith in
    ap (λ (l : List Add). add_at y p ∷ l) (placed_snoc (suc p) ys x ∙ ap (λ (n : ℕ). placed (suc p) ys ++ add_at x n ∷ []) same)

-- each stands at its place
pub placed_at : (p : ℕ) (xs : List (Address × ℕ)) (i : ℕ) (a : Add) → slice_get (placed p xs) i ≡ Some a → a.place ≡ p + i
placed_at p [] i a at = absurd cc
placed_at p (x ∷ xs) zero a at = let same : add_at x p ≡ a = cc in let is : p ≡ a.place = ap (λ (y : Add). y.place) same in omega (arith, is)
placed_at p (x ∷ xs) (suc i) a at = let is = placed_at (suc p) xs i a at in omega (arith, is)

-- ---- found at its place

get_snoc : (xs : List Add) (x y : Add) (k : ℕ) → slice_get (xs ++ x ∷ []) k ≡ Some y → (slice_get xs k ≡ Some y) ⊎ (x ≡ y)
get_snoc [] x y zero at = inr (cc)
get_snoc [] x y (suc k) at = absurd cc
get_snoc (z ∷ xs) x y zero at = inl at
get_snoc (z ∷ xs) x y (suc k) at = get_snoc xs x y k at

at_itself : (x : Add) → is_at x.address x ≡ true
at_itself x =
    and_from (is_same x.address.stream x.address.stream) _ ((bytes_eq-Decides x.address.stream x.address.stream).1 refl)
    (and_from (eqb x.address.bitrate x.address.bitrate) _ (eq-eqb x.address.bitrate x.address.bitrate refl) (eq-eqb x.address.time x.address.time refl))

place_last : (xs : List Add) (x : Add) → place_of x.address xs ≡ None → place_of x.address (xs ++ x ∷ []) ≡ Some x.place
place_last [] x none = rw (at_itself x) refl
place_last (y ∷ xs) x none = by_test (is_at x.address y) none (λ e. place_last xs x e)
  where
    by_test : (b : Bool) → cond b (Some y.place) (place_of x.address xs) ≡ None → (place_of x.address xs ≡ None → place_of x.address (xs ++ x ∷ []) ≡ Some x.place)
        → cond b (Some y.place) (place_of x.address (xs ++ x ∷ [])) ≡ Some x.place
    by_test true e rest = absurd cc
    by_test false e rest = rest e

not_yet : (channel : List Track) (adds : List Add) (a : Address) (n : ℕ) → verdict channel adds a n ≡ judged.New → place_of a adds ≡ None
not_yet channel adds a n e = (new.is_new channel adds a n (new_declared channel adds a n e) e).free

-- ---- one more

grown_told : (adds adds' : List Add) (x : Add) → adds' ≡ adds ++ x ∷ [] → map stripped adds' ≡ map stripped adds ++ stripped x ∷ []
grown_told adds adds' x is = ap (map stripped) is ∙ map-append stripped adds (x ∷ [])

grown_places : (adds adds' : List Add) (a : Address) (n place : ℕ) → adds ≡ placed 1 (map stripped adds) → place ≡ length adds + 1
    → adds' ≡ adds ++ add_at (a, n) place ∷ [] → adds' ≡ placed 1 (map stripped adds')
grown_places adds adds' a n place was at is =
    let long = length-map adds stripped in
    let here : place ≡ 1 + length (map stripped adds) = omega (arith, at, long) in
    let told = grown_told adds adds' (add_at (a, n) place) is in
    is ∙ ap (λ (l : List Add). l ++ add_at (a, n) place ∷ []) was
    ∙ ap (λ (p : ℕ). placed 1 (map stripped adds) ++ add_at (a, n) p ∷ []) here
    ∙ sym (placed_snoc 1 (map stripped adds) (a, n)) ∙ ap (placed 1) (sym told)

-- what is listed, with one more
pub listing_grows : (channel : List Track) (adds adds' : List Add) (a : Address) (n place : ℕ) → IsListing adds → verdict channel adds a n ≡ judged.New → place ≡ length adds + 1
    → place < 4294967295 → adds' ≡ adds ++ add_at (a, n) place ∷ [] → IsListing adds'
listing_grows channel adds adds' a n place l new at small is =
    let x = add_at (a, n) place in
    let free = not_yet channel adds a n new in
    let long = ap length is ∙ length-append adds (x ∷ []) in
    record {
      places = grown_places adds adds' a n place l.places at is;
      found = λ k y got. subst (λ (m : List Add). place_of y.address m ≡ Some y.place) (sym is) (elim (get_snoc adds x y k (subst (λ (m : List Add). slice_get m k ≡ Some y) is got)) [
        | inl old ↦ places_stay adds (x ∷ []) y.address y.place (l.found k y old)
        | inr same ↦ subst (λ (z : Add). place_of z.address (adds ++ x ∷ []) ≡ Some z.place) same (place_last adds x free)
      ]);
      few = omega (arith, long, at, small);
    }

-- ---- the end of a list

pub end_of : (front last all : List Address) → all ≡ front ++ last → IsEnd all last
end_of front last all is =
    let long = ap length is ∙ length-append front last in
    let here : length all - length last ≡ length front = omega (arith, long) in
    sym (ap (λ (n : ℕ). drop n all) here ∙ ap (drop (length front)) is ∙ drop-append_seam front last)

pub front_of : (all last : List Address) → IsEnd all last → length last ≤ length all
    → (front : List Address) × (all ≡ front ++ last) × (length front + length last ≡ length all)
front_of all last is le =
    let n = length all - length last in
    let whole : all ≡ take n all ++ last = sym (take-append-drop n all) ∙ ap (λ (l : List Address). take n all ++ l) (sym is) in
    let long = length-take-le n all (omega arith) in
    (take n all, whole, omega (arith, long, le))

addresses_long : (adds : List Add) → length (addresses_in adds) ≡ length adds
addresses_long adds = length-map adds (λ (a : Add). a.address)

-- the window of what is held and one more is the end of what was added and one more
pub end_grows : (adds adds' : List Add) (x : Add) (w w' : List Fragment) (f : Fragment) → IsEnd (addresses_in adds) (map address_of w) → length w ≤ length adds
    → adds' ≡ adds ++ x ∷ [] → x.address ≡ address_of f → w' ≡ window_of (w ++ f ∷ []) → (length w' ≤ length adds') × IsEnd (addresses_in adds') (map address_of w')
end_grows adds adds' x w w' f last le is at more =
    let named = length-map w address_of in
    let many = addresses_long adds in
    let f0 = front_of (addresses_in adds) (map address_of w) last (omega (arith, named, many, le)) in
    let g = window_behind (w ++ f ∷ []) in
    let short = window_short (w ++ f ∷ []) in
    let long = length-append w (f ∷ []) in
    let longer = ap length is ∙ length-append adds (x ∷ []) in
    let as_long = ap length more in
    let all : addresses_in adds' ≡ (f0.0 ++ map address_of g.0) ++ map address_of w' =
    ap addresses_in is ∙ map-append (λ (a : Add). a.address) adds (x ∷ []) ∙ ap (λ (b : Address). addresses_in adds ++ b ∷ []) at
    ∙ ap (λ (l : List Address). l ++ address_of f ∷ []) f0.1 ∙ append_assoc f0.0 (map address_of w) (address_of f ∷ [])
    ∙ ap (λ (l : List Address). f0.0 ++ l) (sym (map-append address_of w (f ∷ [])) ∙ ap (map address_of) g.1
    ∙ map-append address_of g.0 (window_of (w ++ f ∷ [])) ∙ ap (λ (l : List Fragment). map address_of g.0 ++ map address_of l) (sym more))
    ∙ sym (append_assoc f0.0 (map address_of g.0) (map address_of w')) in
    (omega (arith, as_long, short, long, longer, le), end_of (f0.0 ++ map address_of g.0) (map address_of w') (addresses_in adds') all)

module _ {A : Type 0} where
  pub get_behind : (front ws : List A) (i : ℕ) (a : A) → slice_get ws i ≡ Some a → slice_get (front ++ ws) (length front + i) ≡ Some a
  get_behind [] ws i a at = ap (slice_get ws) (let same : 0 + i ≡ i = omega arith in same) ∙ at
  get_behind (x ∷ front) ws i a at =
      let same : suc (length front) + i ≡ suc (length front + i) = omega arith in
      ap (slice_get (x ∷ (front ++ ws))) same ∙ get_behind front ws i a at

get_address : (adds : List Add) (i : ℕ) (a : Address) → slice_get (addresses_in adds) i ≡ Some a → (x : Add) × (slice_get adds i ≡ Some x) × (x.address ≡ a)
get_address [] i a at = absurd cc
get_address (x ∷ adds) zero a at = (x, refl, cc)
get_address (x ∷ adds) (suc i) a at = get_address adds i a at

get_held : (w : List Fragment) (i : ℕ) (f : Fragment) → slice_get w i ≡ Some f → slice_get (map address_of w) i ≡ Some (address_of f)
get_held [] i f at = absurd cc
get_held (g ∷ w) zero f at = let same : g ≡ f = cc in ap (λ (h : Fragment). Some (address_of h)) same
get_held (g ∷ w) (suc i) f at = get_held w i f at

-- what the window has at an index is found by its address at the place that the index says
pub held_place : (adds : List Add) (w : List Fragment) (i : ℕ) (f : Fragment) → IsListing adds → length w ≤ length adds → IsEnd (addresses_in adds) (map address_of w)
    → slice_get w i ≡ Some f → (place : ℕ) × (place_of (address_of f) adds ≡ Some place) × (place + length w ≡ length adds + 1 + i)
held_place adds w i f l le last at =
    let named = length-map w address_of in
    let many = addresses_long adds in
    let f0 = front_of (addresses_in adds) (map address_of w) last (omega (arith, named, many, le)) in
    let got : slice_get (addresses_in adds) (length f0.0 + i) ≡ Some (address_of f) =
    ap (λ (m : List Address). slice_get m (length f0.0 + i)) f0.1 ∙ get_behind f0.0 (map address_of w) i (address_of f) (get_held w i f at) in
    let x = get_address adds (length f0.0 + i) (address_of f) got in
    let placed = placed_at 1 (map stripped adds) (length f0.0 + i) x.0 (subst (λ (m : List Add). slice_get m (length f0.0 + i) ≡ Some x.0) l.places x.1) in
    (x.0.place, subst (λ (a : Address). place_of a adds ≡ Some x.0.place) x.2 (l.found (length f0.0 + i) x.0 x.1), omega (arith, placed, f0.2, named, many))

-- what stands at an address that is found at a place has the index that the place says
pub held_at : (adds : List Add) (w : List Fragment) (a : Address) (place : ℕ) → IsListing adds → length w ≤ length adds → IsEnd (addresses_in adds) (map address_of w)
    → place_of a adds ≡ Some place → (i : ℕ) (f : Fragment) → slice_get w i ≡ Some f → address_of f ≡ a → (place + length w ≡ length adds + 1 + i) × (i < length w)
held_at adds w a place l le last found i f at same =
    let h = held_place adds w i f l le last at in
    let both : Some h.0 ≡ Some place = sym h.1 ∙ ap (λ (b : Address). place_of b adds) same ∙ found in
    let is : h.0 ≡ place = cc in
    (omega (arith, is, h.2), slice_get_within w i f at)

-- nothing of the window stands at an address that isn't found
pub not_held : (adds : List Add) (w : List Fragment) (a : Address) → IsListing adds → length w ≤ length adds → IsEnd (addresses_in adds) (map address_of w)
    → place_of a adds ≡ None → (i : ℕ) (f : Fragment) → slice_get w i ≡ Some f → address_of f ≡ a → ⊥
not_held adds w a l le last none i f at same =
    let h = held_place adds w i f l le last at in
    let both : Some h.0 ≡ None = sym h.1 ∙ ap (λ (b : Address). place_of b adds) same ∙ none in
    cc

-- ---- what is laid next

pub record IsNextOne (d : Digest) (place : ℕ) (a : Address) (n : ℕ) : Type 0 where
  pub place_is : place ≡ length d.adds + 1
  pub small : place < 4294967295
  pub new : is_new (verdict_by d.channel (adds_in d) a n) ≡ true

pub next_one : (d : Digest) (place : ℕ) (a : Address) (n : ℕ) → is_next d place a n ≡ true → IsNextOne d place a n
next_one d place a n is =
    let parts = and_parts (eqb place (length d.adds + 1)) _ is in
    let more = and_parts (ltb place 4294967295) _ parts.1 in
    let here = parts.0 in
    let low = more.0 in
    record { place_is = grind (arith, nat_tests, here); small = grind (arith, nat_tests, low); new = (and_parts (is_new (verdict_by d.channel (adds_in d) a n)) _ more.1).0 }

new_is : (v : Judged) → is_new v ≡ true → v ≡ judged.New
new_is judged.New is = refl
new_is (judged.Known place) is = absurd cc
new_is judged.NotDeclared is = absurd cc
new_is (judged.Clash kept) is = absurd cc
new_is (judged.Overlap end) is = absurd cc

-- what a shelf holds with one add more
pub grown : (o : Option Content) (c c' : Content) (place : ℕ) (w w' : List Fragment) (f : Fragment) (d : Digest) → IsStocked o w → o ≡ Some c
    → d.channel ≡ Some c.channel → d.adds ≡ told_in o → is_next d place (address_of f) f.duration ≡ true
    → c'.adds ≡ c.adds ++ add_at (address_of f, f.duration) place ∷ [] → w' ≡ window_of (w ++ f ∷ []) → IsStocked (Some c') w'
grown o c c' place w w' f d s is channel adds next more window =
    let one = next_one d place (address_of f) f.duration next in
    let stock : IsStocked (Some c) w = subst (λ (p : Option Content). IsStocked p w) is s in
    let told : d.adds ≡ map stripped c.adds = adds ∙ ap told_in is in
    let long : length d.adds ≡ length c.adds = ap length told ∙ length-map c.adds stripped in
    let placed_adds : adds_in d ≡ c.adds = ap (placed 1) told ∙ sym stock.listing.places in
    let verdict_is : verdict_by d.channel (adds_in d) (address_of f) f.duration ≡ verdict c.channel c.adds (address_of f) f.duration =
    ap (λ (p : Option (List Track)). verdict_by p (adds_in d) (address_of f) f.duration) channel ∙ ap (λ (l : List Add). verdict c.channel l (address_of f) f.duration) placed_adds in
    let new = sym verdict_is ∙ new_is (verdict_by d.channel (adds_in d) (address_of f) f.duration) one.new in
    let at : place ≡ length c.adds + 1 = let p = one.place_is in omega (arith, p, long) in
    let ends = end_grows c.adds c'.adds (add_at (address_of f, f.duration) place) w w' f stock.last stock.within more refl window in
    record {
      listing = listing_grows c.channel c.adds c'.adds (address_of f) f.duration place stock.listing new at one.small more;
      within = ends.0;
      last = ends.1;
    }

-- the window of the last ones has the last ones
pub end_trims : (adds adds' : List Add) (fs w : List Fragment) → IsEnd (addresses_in adds) (map address_of fs) → length fs ≤ length adds → adds' ≡ adds → w ≡ window_of fs
    → (length w ≤ length adds') × IsEnd (addresses_in adds') (map address_of w)
end_trims adds adds' fs w last le same is =
    let named = length-map fs address_of in
    let many = addresses_long adds in
    let f0 = front_of (addresses_in adds) (map address_of fs) last (omega (arith, named, many, le)) in
    let g = window_behind fs in
    let short = window_short fs in
    let as_long = ap length is in
    let longer = ap length same in
    let all : addresses_in adds' ≡ (f0.0 ++ map address_of g.0) ++ map address_of w =
    ap addresses_in same ∙ f0.1 ∙ ap (λ (l : List Address). f0.0 ++ l) (ap (map address_of) g.1 ∙ map-append address_of g.0 (window_of fs) ∙ ap (λ (l : List Fragment). map address_of g.0 ++ map address_of l) (sym is))
    ∙ sym (append_assoc f0.0 (map address_of g.0) (map address_of w)) in
    (omega (arith, as_long, short, longer, le), end_of (f0.0 ++ map address_of g.0) (map address_of w) (addresses_in adds') all)
