-- Looking for one fragment among the items of a push.
use Rattle.std.proofs.Common.{◌≡◌, ◌≤◌, ◌<◌, ◌+◌, ℕ, zero, suc, Bool, true, false, cond, eqb, ◌&&◌, List, [], ◌∷◌, ◌++◌, length, get_or, map, Option, Some, None, refl, sym, ap, subst, ◌∙◌, add-zero, arith}
use Rattle.std.specs.Prelude.{is_some}
use Rattle.std.specs.Option.{option_or}
use Rattle.std.specs.List.{AllByRecursion}
use Rattle.std.proofs.Math.ListN.{get_or-append}
use Rattle.std.proofs.Math.Seq.{get_or-append_seam}
use Rattle.std.proofs.lemmas.List.{length-append, get_or-map}
use Rattle.sm_model.specs.declared.fragment.Fragment.{Fragment}
use Rattle.sm_model.specs.declared.item.Item.{Item}
use Rattle.sm_model.specs.declared.item.Item.TheVariants as items
use Rattle.sm_model.specs.declared.track.Track.{Track}
use Rattle.sm_model.specs.Fragments.{IsValid}
use Rattle.sm_model.specs.Items.{Given, Header, Frag, item_of, id_of, id_at, first_from}
use Rattle.sm_push.specs.Body.{body, walk}
use Rattle.sm_push.specs.Validity.{IsValidItem}
use Rattle.sm_pick.specs.declared.seek.Hit.{Hit}
use Rattle.sm_pick.specs.declared.seek.Tally.{Tally}
use Rattle.sm_pick.specs.Search.{tallied, is_fragment, is_sought, fragment_of, fragments_in, IsHit, Hits, first_hit}

-- ---- one item

pub id_there : (gs : List Given) (i : ℕ) (d : Given) → i < length gs → id_at gs i ≡ id_of (get_or gs i d)
unfolding id_at
id_there [] i d lt = absurd (omega arith)
id_there (g ∷ gs) zero d lt = refl
id_there (g ∷ gs) (suc i) d lt = id_there gs i d (omega arith)

pub no_id : (track time : ℕ) (gs : List Given) (i : ℕ) → None ≡ id_at gs i → i < length gs → (d : Given) → false ≡ is_sought track time (get_or gs i d)
no_id track time gs i e lt d = none_by (get_or gs i d) (e ∙ id_there gs i d lt)
  where
    none_by : (g : Given) → None ≡ id_of g → false ≡ is_sought track time g
    none_by (Header channel) e = refl
    none_by (Frag id f) e = absurd cc

pub has_id : (gs : List Given) (i : ℕ) (id : Option ℕ) (some : Bool) → id ≡ id_at gs i → some ≡ is_some id → i < length gs → (d : Given) → some ≡ is_fragment (get_or gs i d)
has_id gs i id some e f lt d = f ∙ ap is_some (e ∙ id_there gs i d lt) ∙ by_item (get_or gs i d)
  where
    by_item : (g : Given) → is_some (id_of g) ≡ is_fragment g
    by_item (Header channel) = refl
    by_item (Frag id f) = refl

-- what stands at an index, lent
pub record IsLent (gs : List Given) (i : ℕ) (x : Item) : Type 0 where
  pub inside : i < length gs
  pub is : x ≡ get_or (map item_of gs) i x

pub lent : (gs : List Given) (i : ℕ) (x : Item) → IsLent gs i x → (d : Given) → x ≡ item_of (get_or gs i d)
lent gs i x h d = h.is ∙ get_or-map item_of gs i d x h.inside

header_not : (track time : ℕ) (g : Given) (channel : List Track) → items.Header channel ≡ item_of g → false ≡ is_sought track time g
header_not track time (Header other) channel e = refl
header_not track time (Frag id f) channel e = absurd cc

fragment_is : (track time : ℕ) (g : Given) (id : ℕ) (f : Fragment) → items.Frag f ≡ item_of g → Some id ≡ id_of g → (eqb id track && eqb f.time time) ≡ is_sought track time g
fragment_is track time (Header channel) id f e n = absurd cc
fragment_is track time (Frag other x) id f e n =
    let ids : id ≡ other = cc in
    let fs : f ≡ x = cc in
    ap (λ (k : ℕ). eqb k track && eqb f.time time) ids ∙ ap (λ (y : Fragment). eqb other track && eqb y.time time) fs

pub header_lent : (track time : ℕ) (gs : List Given) (i : ℕ) (x : Item) (channel : List Track) → IsLent gs i x → x ≡ items.Header channel → (d : Given) → false ≡ is_sought track time (get_or gs i d)
header_lent track time gs i x channel h e d = header_not track time (get_or gs i d) channel (sym e ∙ lent gs i x h d)

pub fragment_lent : (track time : ℕ) (gs : List Given) (i : ℕ) (x : Item) (id : ℕ) (f : Fragment) → IsLent gs i x → x ≡ items.Frag f → Some id ≡ id_at gs i
    → (d : Given) → (eqb id track && eqb f.time time) ≡ is_sought track time (get_or gs i d)
fragment_lent track time gs i x id f h e n d = fragment_is track time (get_or gs i d) id f (sym e ∙ lent gs i x h d) (n ∙ id_there gs i d h.inside)

-- ---- lists of items joined

pub fragments-append : (xs ys : List Given) → fragments_in (xs ++ ys) ≡ fragments_in xs + fragments_in ys
fragments-append [] ys = omega arith
fragments-append (Header channel ∷ xs) ys = fragments-append xs ys
fragments-append (Frag id fragment ∷ xs) ys = omega (arith, fragments-append xs ys)

pub fragments_few : (gs : List Given) → fragments_in gs ≤ length gs
fragments_few [] = omega arith
fragments_few (Header channel ∷ gs) = omega (arith, fragments_few gs)
fragments_few (Frag id fragment ∷ gs) = omega (arith, fragments_few gs)

or_by : (b : Bool) (x : ℕ × Fragment) (y z : Option (ℕ × Fragment)) → cond b (Some x) (option_or y z) ≡ option_or (cond b (Some x) y) z
or_by true x y z = refl
or_by false x y z = refl

-- the first one of both is that of the one, or else that of the other
pub first-append : (place track time : ℕ) (xs ys : List Given)
    → first_from place track time (xs ++ ys) ≡ option_or (first_from place track time xs) (first_from (place + fragments_in xs) track time ys)
first-append place track time [] ys = ap (λ (n : ℕ). first_from n track time ys) (sym (add-zero place))
first-append place track time (Header channel ∷ xs) ys = first-append place track time xs ys
first-append place track time (Frag id fragment ∷ xs) ys =
    let n : place + 1 + fragments_in xs ≡ place + (fragments_in xs + 1) = omega arith in
    let b : Bool = eqb id track && eqb fragment.time time in
    ap (λ (o : Option (ℕ × Fragment)). cond b (Some (place, fragment)) o) (first-append (place + 1) track time xs ys)
    ∙ or_by b (place, fragment) (first_from (place + 1) track time xs) (first_from (place + 1 + fragments_in xs) track time ys)
    ∙ ap (λ (k : ℕ). option_or (cond b (Some (place, fragment)) (first_from (place + 1) track time xs)) (first_from k track time ys)) n

-- ---- one item more

abbrev sought_behind : ℕ → ℕ → ℕ → List Given → List Given → Option (ℕ × Fragment) → Option (ℕ × Fragment)
sought_behind first track time xs ys before = option_or before (first_from (first + fragments_in xs) track time ys)

hit_stays : (first track time : ℕ) (xs ys : List Given) (hit : Hit) → IsHit first track time xs hit → IsHit first track time (xs ++ ys) hit
hit_stays first track time xs ys hit h = record {
  fragment = h.fragment;
  inside = omega (arith, length-append xs ys, h.inside);
  here = λ d. ap fragment_of (get_or-append xs ys d hit.index h.inside) ∙ h.here d;
  sought = first-append first track time xs ys ∙ ap (sought_behind first track time xs ys) h.sought;
}

header_more : (first track time : ℕ) (xs : List Given) (g : Given) (hit : Option Hit) → is_fragment g ≡ false → Hits first track time xs hit → Hits first track time (xs ++ g ∷ []) hit
header_more first track time xs g (Some hit) e h = hit_stays first track time xs (g ∷ []) hit h
header_more first track time xs (Header channel) None e h = first-append first track time xs (Header channel ∷ []) ∙ ap (sought_behind first track time xs (Header channel ∷ [])) h
header_more first track time xs (Frag id fragment) None e h = absurd cc

fragment_more : (first track time : ℕ) (xs : List Given) (id : ℕ) (f : Fragment) (b : Bool) → (eqb id track && eqb f.time time) ≡ b → first_from first track time xs ≡ None
    → Hits first track time (xs ++ Frag id f ∷ []) (first_hit None b (length xs) (first + fragments_in xs))
fragment_more first track time xs id f true e h = record {
  fragment = f;
  inside = omega (arith, length-append xs (Frag id f ∷ []));
  here = λ d. ap fragment_of (get_or-append_seam xs (Frag id f) [] d);
  sought =
      first-append first track time xs (Frag id f ∷ [])
      ∙ ap (sought_behind first track time xs (Frag id f ∷ [])) h
      ∙ ap (λ (t : Bool). cond t (Some (first + fragments_in xs, f)) None) e;
}
fragment_more first track time xs id f false e h =
    first-append first track time xs (Frag id f ∷ [])
    ∙ ap (sought_behind first track time xs (Frag id f ∷ [])) h
    ∙ ap (λ (t : Bool). cond t (Some (first + fragments_in xs, f)) None) e

hit_more : (first track time : ℕ) (xs : List Given) (g : Given) (hit : Option Hit) → is_fragment g ≡ true → Hits first track time xs hit
    → Hits first track time (xs ++ g ∷ []) (first_hit hit (is_sought track time g) (length xs) (first + fragments_in xs))
hit_more first track time xs g (Some hit) e h = hit_stays first track time xs (g ∷ []) hit h
hit_more first track time xs (Header channel) None e h = absurd cc
hit_more first track time xs (Frag id f) None e h = fragment_more first track time xs id f _ refl h

one_of : (g : Given) (b : Bool) → is_fragment g ≡ b → fragments_in (g ∷ []) ≡ cond b 1 0
one_of (Header channel) b e = ap (λ (t : Bool). cond t 1 0) e
one_of (Frag id f) b e = ap (λ (t : Bool). cond t 1 0) e

-- ---- how far items were looked through

pub record IsCounted (before track time : ℕ) (gs : List Given) (count : ℕ) (hit : Option Hit) : Type 0 where
  pub count_is : count ≡ before + fragments_in gs
  pub hits : Hits (before + 1) track time gs hit

pub none_counted : (before track time : ℕ) → IsCounted before track time [] before None
none_counted before track time = record { count_is = omega arith; hits = refl }

pub header_counted : (before track time : ℕ) (xs : List Given) (g : Given) (count : ℕ) (hit : Option Hit) → is_fragment g ≡ false → IsCounted before track time xs count hit
    → IsCounted before track time (xs ++ g ∷ []) count hit
header_counted before track time xs g count hit e h = record {
  count_is = omega (arith, h.count_is, fragments-append xs (g ∷ []), one_of g false e);
  hits = header_more (before + 1) track time xs g hit e h.hits;
}

pub fragment_counted : (before track time index : ℕ) (xs : List Given) (g : Given) (count : ℕ) (hit : Option Hit) → is_fragment g ≡ true → index ≡ length xs → IsCounted before track time xs count hit
    → IsCounted before track time (xs ++ g ∷ []) (count + 1) (first_hit hit (is_sought track time g) index (count + 1))
fragment_counted before track time index xs g count hit e at h =
    let place : count + 1 ≡ before + 1 + fragments_in xs = omega (arith, h.count_is) in
    record {
      count_is = omega (arith, h.count_is, fragments-append xs (g ∷ []), one_of g true e);
      hits = rw (at, place) (hit_more (before + 1) track time xs g hit e h.hits);
    }

pub tally_header : (before track time : ℕ) (xs : List Given) (g : Given) (old new : Tally) (b : Bool) → b ≡ is_fragment g → b ≡ false → new ≡ old → IsCounted before track time xs old.count old.hit
    → IsCounted before track time (xs ++ g ∷ []) new.count new.hit
tally_header before track time xs g old new b e f is h = rw is (header_counted before track time xs g old.count old.hit (sym e ∙ f) h)

pub tally_fragment : (before track time index : ℕ) (xs : List Given) (g : Given) (old new : Tally) (b here : Bool) → b ≡ is_fragment g → b ≡ true → here ≡ is_sought track time g → index ≡ length xs
    → new ≡ tallied old here index → IsCounted before track time xs old.count old.hit → IsCounted before track time (xs ++ g ∷ []) new.count new.hit
tally_fragment before track time index xs g old new b here e f sought at is h =
    rw (is, sought) (fragment_counted before track time index xs g old.count old.hit (sym e ∙ f) at h)

-- ---- what was found

pub nothing_yet : (body true []).items ≡ []
unfolding walk
nothing_yet = refl

some_is : (x y : Fragment) → Some x ≡ Some y → x ≡ y
some_is x y e = cc

pub hit_found : (first track time : ℕ) (gs : List Given) (hit : Hit) (f : Fragment) → ((d : Given) → Some f ≡ fragment_of (get_or gs hit.index d)) → IsHit first track time gs hit
    → Some (hit.place, f) ≡ first_from first track time gs
hit_found first track time gs hit f e h =
    ap (λ (x : Fragment). Some (hit.place, x)) (some_is f h.fragment (e (Header []) ∙ h.here (Header []))) ∙ sym h.sought

pub hit_missed : (first track time : ℕ) (gs : List Given) (hit : Hit) → ((d : Given) → None ≡ fragment_of (get_or gs hit.index d)) → IsHit first track time gs hit → ⊥
hit_missed first track time gs hit e h = let same : None ≡ Some h.fragment = e (Header []) ∙ h.here (Header []) in cc

abbrev fragment_in : Fragment → Option (ℕ × Fragment) → Fragment
fragment_in f None = f
fragment_in f (Some x) = x.1

valid_by : (b : Bool) (place : ℕ) (f : Fragment) (rest : Option (ℕ × Fragment)) (n : ℕ) (g : Fragment) → cond b (Some (place, f)) rest ≡ Some (n, g) → IsValid f → (rest ≡ Some (n, g) → IsValid g) → IsValid g
valid_by true place f rest n g e v more = let same : f ≡ g = ap (λ (o : Option (ℕ × Fragment)). fragment_in f o) e in subst IsValid same v
valid_by false place f rest n g e v more = more e

-- what is found among valid items is valid
pub found_valid : (place track time : ℕ) (gs : List Given) (n : ℕ) (f : Fragment) → AllByRecursion IsValidItem gs → first_from place track time gs ≡ Some (n, f) → IsValid f
found_valid place track time [] n f v e = absurd cc
found_valid place track time (Header channel ∷ gs) n f v e = found_valid place track time gs n f v.1 e
found_valid place track time (Frag id x ∷ gs) n f v e =
    valid_by (eqb id track && eqb x.time time) place x (first_from (place + 1) track time gs) n f e v.0 (λ r. found_valid (place + 1) track time gs n f v.1 r)
