-- A catalog to which a fragment was added.
use Rattle.std.proofs.Common.{◌≡◌, ◌≢◌, ◌<◌, ℕ, zero, suc, Bool, true, false, ◌&&◌, ◌||◌, cond, eqb, List, [], ◌∷◌, ◌++◌, length, map, filter, get_or, refl, sym, ap, subst, ◌∙◌, AllPairs, inl, inr, arith}
use Rattle.std.proofs.lemmas.Bool.{cases_order, false_from_ne_true}
use Rattle.std.proofs.lemmas.List.{length-map, get_or-map}
use Rattle.std.proofs.lemmas.List.Quantifiers.{all_pairs_push}
use Rattle.std.proofs.lemmas.Slice.Eq.{bytes_eq-Decides}
use Rattle.std.specs.List.{AllByRecursion, list_any}
use Rattle.sm_model.specs.declared.track.Track.{Track}
use Rattle.sm_model.specs.Channels.{IsChannel, Agree}
use Rattle.sm_model.specs.Same.{is_same}
use Rattle.sm_log.specs.Adds.{names_from, names_of}
use Rattle.sm_log.proofs.Choice.{chosen}
use Rattle.sm_catalog.specs.Content.{Lane}
use Rattle.sm_catalog.proofs.Counting.{DifferInBitrate}
use Rattle.sm_catalog.proofs.Lookups.{is_the, is_named}

-- ---- names

pub not_same : (a b : List ℕ) → is_same a b ≡ false → is_same b a ≡ false
not_same a b e =
    false_from_ne_true (is_same b a) (λ t. let yes : is_same a b ≡ true = (bytes_eq-Decides a b).1 (sym ((bytes_eq-Decides b a).0 t)) in absurd cc)

pub differ_names : (a b : List ℕ) → a ≢ b → is_same a b ≡ false
differ_names a b ne = false_from_ne_true (is_same a b) (λ t. ne ((bytes_eq-Decides a b).0 t))

pub same_name : (a b : List ℕ) → a ≡ b → is_same a b ≡ true
same_name a b e = (bytes_eq-Decides a b).1 e

none_at : {X : Type 0} (p : X → Bool) (xs : List X) (k : ℕ) (d : X) → list_any p xs ≡ false → k < length xs → p (get_or xs k d) ≡ false
none_at p [] k d e h = absurd (omega arith)
none_at p (x ∷ xs) k d e h = by_or (p x) refl e k h (λ i f w. none_at p xs i d f w)
  where
    by_or : (b : Bool) → p x ≡ b → (b || list_any p xs) ≡ false → (k : ℕ) → k < suc (length xs)
        → ((i : ℕ) → list_any p xs ≡ false → i < length xs → p (get_or xs i d) ≡ false) → p (get_or (x ∷ xs) k d) ≡ false
    by_or true is e k h rest = absurd cc
    by_or false is e zero h rest = is
    by_or false is e (suc i) h rest = rest i e (omega arith)

pub names_apart : (ns : List (List ℕ)) (ts : List Track) → AllPairs (λ (a b : List ℕ). a ≢ b) ns → AllPairs (λ (a b : List ℕ). a ≢ b) (names_from ns ts)
names_apart ns [] apart = apart
names_apart ns (t ∷ ts) apart =
    chosen (list_any (λ (n : List ℕ). is_same n t.name) ns) (λ l. AllPairs (λ (a b : List ℕ). a ≢ b) l) (names_from ns ts) (names_from (ns ++ t.name ∷ []) ts)
    (λ _. names_apart ns ts apart)
    (λ is. names_apart (ns ++ t.name ∷ []) ts (all_pairs_push (λ (a b : List ℕ). a ≢ b) ns t.name apart
    (λ k d h e. let no = none_at (λ (n : List ℕ). is_same n t.name) ns k d is h in let yes = same_name (get_or ns k d) t.name e in absurd cc)))

-- two streams have different names
pub lanes_apart : (channel : List Track) (lanes : List Lane) (i j : ℕ) (d : Lane) → map (λ (l : Lane). l.name) lanes ≡ names_of channel → i < length lanes
    → j < length lanes → i ≢ j → (get_or lanes i d).name ≢ (get_or lanes j d).name
lanes_apart channel lanes i j d names hi hj ne = λ same.
    let apart : AllPairs (λ (a b : List ℕ). a ≢ b) (map (λ (l : Lane). l.name) lanes) = subst (λ (ns : List (List ℕ)). AllPairs (λ (a b : List ℕ). a ≢ b) ns) (sym names)
    (names_apart [] channel (λ a b e h k. absurd (omega (arith, k)))) in
    let at : (k : ℕ) → k < length lanes → get_or (map (λ (l : Lane). l.name) lanes) k d.name ≡ (get_or lanes k d).name = λ k h. get_or-map (λ (l : Lane). l.name) lanes k d d.name h in
    let len : length (map (λ (l : Lane). l.name) lanes) ≡ length lanes = length-map lanes (λ (l : Lane). l.name) in
    elim (cases_order i j) [
      | inl e ↦ absurd (ne e)
      | inr o ↦ elim o [
        | inl less ↦ apart i j d.name less (omega (arith, len, hj)) (at i hi ∙ same ∙ sym (at j hj))
        | inr less ↦ apart j i d.name less (omega (arith, len, hi)) (at j hj ∙ sym same ∙ sym (at i hi))
      ]
    ]

-- two tracks have different addresses
pub tracks_apart : (channel : List Track) (i j : ℕ) (d : Track) → IsChannel channel → i < length channel → j < length channel → i ≢ j → (get_or channel i d).name ≡ (get_or channel j d).name
    → (get_or channel i d).bitrate ≡ (get_or channel j d).bitrate → ⊥
tracks_apart channel i j d valid hi hj ne name bitrate =
    elim (cases_order i j) [
      | inl e ↦ ne e
      | inr o ↦ elim o [
        | inl less ↦ (valid.agree i j d less hj).apart name bitrate
        | inr less ↦ (valid.agree j i d less hi).apart (sym name) (sym bitrate)
      ]
    ]

-- ---- the tracks of a stream

pub differ_in_bitrate : (s : List ℕ) (ts : List Track) → AllPairs Agree ts → DifferInBitrate (filter (is_named s) ts)
differ_in_bitrate s [] agree = tt
differ_in_bitrate s (t ∷ ts) agree =
    let rest : AllPairs Agree ts = λ i j d h k. agree (suc i) (suc j) d (omega (arith, h)) (omega (arith, k)) in
    let first : (k : ℕ) (d : Track) → k < length ts → Agree t (get_or ts k d) = λ k d h. agree 0 (suc k) d (omega arith) (omega (arith, h)) in
    chosen (is_named s t) DifferInBitrate (t ∷ filter (is_named s) ts) (filter (is_named s) ts) (λ is. (each ts (bytes t is) first, differ_in_bitrate s ts rest)) (λ _. differ_in_bitrate s ts rest)
  where
    bytes : (u : Track) → is_named s u ≡ true → u.name ≡ s
    bytes u is = (bytes_eq-Decides u.name s).0 is

    each : (us : List Track) → t.name ≡ s → ((k : ℕ) (d : Track) → k < length us → Agree t (get_or us k d)) → AllByRecursion (λ (u : Track). t.bitrate ≢ u.bitrate) (filter (is_named s) us)
    each [] name agree = tt
    each (u ∷ us) name agree =
        let later = each us name (λ k d h. agree (suc k) d (omega (arith, h))) in
        chosen (is_named s u) (λ l. AllByRecursion (λ (v : Track). t.bitrate ≢ v.bitrate) l) (u ∷ filter (is_named s) us) (filter (is_named s) us)
        (λ is. ((agree 0 u (omega arith)).apart (name ∙ sym (bytes u is)), later)) (λ _. later)

pub has_bitrate : (s : List ℕ) (r : ℕ) (ts : List Track) → list_any (is_the s r) ts ≡ list_any (λ (t : Track). eqb t.bitrate r) (filter (is_named s) ts)
has_bitrate s r [] = refl
has_bitrate s r (t ∷ ts) = by_test (is_named s t) (has_bitrate s r ts)
  where
    by_test : (b : Bool) → list_any (is_the s r) ts ≡ list_any (λ (u : Track). eqb u.bitrate r) (filter (is_named s) ts)
        → ((b && eqb t.bitrate r) || list_any (is_the s r) ts) ≡ list_any (λ (u : Track). eqb u.bitrate r) (cond b (t ∷ filter (is_named s) ts) (filter (is_named s) ts))
    by_test true rest = ap (λ (x : Bool). eqb t.bitrate r || x) rest
    by_test false rest = rest
