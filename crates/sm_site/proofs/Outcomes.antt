-- What each step of a disk in memory lets a crash leave.
use Rattle.std.proofs.Common.{◌≡◌, ◌≢◌, ◌⊎◌, ⊎_elim, inl, inr, ℕ, zero, suc, ◌+◌, ◌-◌, ◌≤◌, ◌<◌, max, Bool, true, false, ◌==◌, ◌&&◌, ◌||◌, nat_le}
use Rattle.std.proofs.Common.{nat_lt, if◌then◌else◌, List, [], ◌∷◌, ◌++◌, length, get_or, take, drop, refl, sym, ◌∙◌, ap, subst, arith, append_assoc, length-append, length-take, length-drop, rules}
use Rattle.std.proofs.lemmas.Bool.{cases_eq, cases_lt}
use Rattle.std.proofs.lemmas.Bool.Decides.{nat_tests}
use Rattle.std.proofs.lemmas.List.{take_all, drop_all, get_or-take, get_or-drop, take_at, drop_at, length-take-le, ext_get_or}
use Rattle.std.specs.FinMap as map
use Rattle.std.specs.FinMap.{gets}
use Rattle.sm_site.specs.Image.{Image, bytes_of, written, Torn, TearsAt, SameElsewhere}
use Rattle.sm_site.specs.Past.{State, Range, is_pending, without, Patched, IsOutcome, Agrees}

pub bytes_insert_same : (m : Image) (k : ℕ) (v : List ℕ) → bytes_of (map.insert m k v) k ≡ v
bytes_insert_same m k v = grind (gets, rules)

pub bytes_insert_other : (m : Image) (k : ℕ) (v : List ℕ) (q : ℕ) → q ≢ k → bytes_of (map.insert m k v) q ≡ bytes_of m q
bytes_insert_other m k v q apart = grind (gets, rules)

-- c with the old bytes in a range
patch : ℕ → ℕ → List ℕ → List ℕ → List ℕ
patch at n old [] = []
patch (suc at) n [] (x ∷ c) = x ∷ c
patch (suc at) n (b ∷ old) (x ∷ c) = x ∷ patch at n old c
patch zero zero old (x ∷ c) = x ∷ c
patch zero (suc n) [] (x ∷ c) = x ∷ c
patch zero (suc n) (b ∷ old) (x ∷ c) = b ∷ patch zero n old c

patch_length : (at n : ℕ) (old c : List ℕ) → length (patch at n old c) ≡ length c
unfolding patch
patch_length at n old [] = refl
patch_length (suc at) n [] (x ∷ c) = refl
patch_length (suc at) n (b ∷ old) (x ∷ c) = ap suc (patch_length at n old c)
patch_length zero zero old (x ∷ c) = refl
patch_length zero (suc n) [] (x ∷ c) = refl
patch_length zero (suc n) (b ∷ old) (x ∷ c) = ap suc (patch_length zero n old c)

patch_in : (at n : ℕ) (old c : List ℕ) (i : ℕ) → at ≤ i → i < at + n → i < length old → i < length c → get_or (patch at n old c) i 0 ≡ get_or old i 0
unfolding patch
patch_in at n old [] i a b o l = absurd (omega arith)
patch_in (suc at) n [] (x ∷ c) i a b o l = absurd (omega arith)
patch_in (suc at) n (y ∷ old) (x ∷ c) zero a b o l = absurd (omega arith)
patch_in (suc at) n (y ∷ old) (x ∷ c) (suc i) a b o l = patch_in at n old c i (omega arith) (omega arith) (omega arith) (omega arith)
patch_in zero zero old (x ∷ c) i a b o l = absurd (omega arith)
patch_in zero (suc n) [] (x ∷ c) i a b o l = absurd (omega arith)
patch_in zero (suc n) (y ∷ old) (x ∷ c) zero a b o l = refl
patch_in zero (suc n) (y ∷ old) (x ∷ c) (suc i) a b o l = patch_in zero n old c i (omega arith) (omega arith) (omega arith) (omega arith)

patch_out : (at n : ℕ) (old c : List ℕ) (i : ℕ) → (i < at) ⊎ (at + n ≤ i) → get_or (patch at n old c) i 0 ≡ get_or c i 0
unfolding patch
patch_out at n old [] i out = refl
patch_out (suc at) n [] (x ∷ c) i out = refl
patch_out (suc at) n (y ∷ old) (x ∷ c) zero out = refl
patch_out (suc at) n (y ∷ old) (x ∷ c) (suc i) out = patch_out at n old c i (⊎_elim (λ (h : suc i < suc at). inl (omega arith)) (λ (h : suc at + n ≤ suc i). inr (omega arith)) out)
patch_out zero zero old (x ∷ c) i out = refl
patch_out zero (suc n) [] (x ∷ c) i out = refl
patch_out zero (suc n) (y ∷ old) (x ∷ c) zero (inl h) = absurd (omega arith)
patch_out zero (suc n) (y ∷ old) (x ∷ c) zero (inr h) = absurd (omega arith)
patch_out zero (suc n) (y ∷ old) (x ∷ c) (suc i) (inl h) = absurd (omega arith)
patch_out zero (suc n) (y ∷ old) (x ∷ c) (suc i) (inr h) = patch_out zero n old c i (inr (omega arith))

-- a write may make c of the patched c, cut to the length that the file could have before
torn_patch : (at n long : ℕ) (old c : List ℕ) → at ≤ long → length c ≤ max long (at + n) → Torn at n (take long (patch at n old c)) c
torn_patch at n long old c inside fits =
    let p = patch at n old c in
    let same : length p ≡ length c = patch_length at n old c in
    record {
      before = ext_get_or 0 (take at c) (take at (take long p)) (omega (arith, length-take at c, length-take at (take long p), length-take long p))
          (λ i lt.
          let below : i < at = omega (arith, length-take at c) in
          get_or-take at c i 0 below ∙ sym (get_or-take at (take long p) i 0 below ∙ get_or-take long p i 0 (omega arith) ∙ patch_out at n old c i (inl below)));
      behind = elim (cases_lt long (length c)) [
        | inl longer ↦ drop_all (at + n) c (omega arith) ∙ sym (drop_all (at + n) (take long p) (omega (arith, length-take long p)))
        | inr within ↦
            ext_get_or 0 (drop (at + n) c) (drop (at + n) (take long p)) (omega (arith, length-drop (at + n) c, length-drop (at + n) (take long p), length-take long p))
            (λ i lt. get_or-drop (at + n) c i 0 ∙ sym (get_or-drop (at + n) (take long p) i 0 ∙ ap (λ (l : List ℕ). get_or l (at + n + i) 0) (take_all long p (omega arith)) ∙ patch_out at n old c (at + n + i) (inr (omega arith))))
      ];
      no_shorter = omega (arith, length-take long p);
      no_longer = omega (arith, length-take long p);
    }

pending_other : (file at n other i : ℕ) (rs : List Range) → other ≢ file → is_pending other i rs ≡ false → is_pending other i ((record { file = file; at = at; n = n }) ∷ rs) ≡ false
pending_other file at n other i rs apart none = grind (arith, nat_tests)

pending_outside : (file at n i : ℕ) (rs : List Range) → (i < at) ⊎ (at + n ≤ i) → is_pending file i rs ≡ false → is_pending file i ((record { file = file; at = at; n = n }) ∷ rs) ≡ false
pending_outside file at n i rs outside none = grind (arith, nat_tests)

-- the bytes are written, or they stay
pub torn_now : (at : ℕ) (bytes old new : List ℕ) → at ≤ length old → (new ≡ written old at bytes) ⊎ (new ≡ old) → Torn at (length bytes) old new
torn_now at bytes old new inside (inr same) = subst (λ (l : List ℕ). Torn at (length bytes) old l) (sym same) (record { before = refl; behind = refl; no_shorter = omega arith; no_longer = omega arith })
torn_now at bytes old new inside (inl is) =
    let front : length (take at old) ≡ at = length-take-le at old inside in
    let all : length (written old at bytes) ≡ at + (length bytes + (length old - (at + length bytes))) =
    omega (arith, length-append (take at old) (bytes ++ drop (at + length bytes) old), length-append bytes (drop (at + length bytes) old), length-drop (at + length bytes) old, front) in
    let parts : written old at bytes ≡ (take at old ++ bytes) ++ drop (at + length bytes) old = sym (append_assoc (take at old) bytes (drop (at + length bytes) old)) in
    subst (λ (l : List ℕ). Torn at (length bytes) old l) (sym is) (record {
      before = take_at (take at old) (bytes ++ drop (at + length bytes) old) at front;
      behind = ap (λ (l : List ℕ). drop (at + length bytes) l) parts ∙ drop_at (take at old ++ bytes) (drop (at + length bytes) old) (at + length bytes) (omega (arith, length-append (take at old) bytes, front));
      no_shorter = omega (arith, all, inside);
      no_longer = omega (arith, all, inside);
    })

module _ (x y base : Image) (rs : List Range) (file at : ℕ) (bytes : List ℕ) where
  abbrev n : ℕ
  n = length bytes

  abbrev before : State
  before = record { contents = x; base = base; ranges = rs }

  abbrev later : State
  later = record { contents = y; base = base; ranges = (record { file = file; at = at; n = n }) ∷ rs }

  pub follows_write : at ≤ length (bytes_of x file) → SameElsewhere file x y → (bytes_of y file ≡ written (bytes_of x file) at bytes) ⊎ (bytes_of y file ≡ bytes_of x file)
      → (c : Image) → IsOutcome later c → (d : Image) × IsOutcome before d × TearsAt file at n d c
  follows_write inside others done c outcome = (
    d,
    λ j. elim (cases_eq j file) [
      | inl is ↦ subst (λ (k : ℕ). (bytes_of d k ≡ bytes_of x k) ⊎ Patched k before (bytes_of d k)) (sym is) (subst (λ (l : List ℕ). (l ≡ bytes_of x file) ⊎ Patched file before l) (sym same) here.1)
      | inr apart ↦ elsewhere j apart (outcome j)
    ],
    record {
      torn = subst (λ (l : List ℕ). Torn at n l (bytes_of c file)) (sym same) here.2;
      others = λ j apart. sym (bytes_insert_other c file here.0 j apart);
    },
  )
    where
      torn : Torn at n (bytes_of x file) (bytes_of y file)
      torn = torn_now at bytes (bytes_of x file) (bytes_of y file) inside done

      old : List ℕ
      old = bytes_of base file

      cut : List ℕ
      cut = bytes_of c file

      long : ℕ
      long = max (length old) (length (bytes_of x file))

      kept : Patched file later cut → (i : ℕ) → i < length old → is_pending file i rs ≡ false → get_or (take long (patch at n old cut)) i 0 ≡ get_or old i 0
      kept p i lt none =
          get_or-take long (patch at n old cut) i 0 (omega arith)
          ∙ elim (cases_lt i at) [
            | inl below ↦ patch_out at n old cut i (inl below) ∙ p.kept i lt (pending_outside file at n i rs (inl below) none)
            | inr from ↦ elim (cases_lt i (at + n)) [
              | inl within ↦ patch_in at n old cut i from within lt (omega (arith, p.no_shorter))
              | inr behind ↦ patch_out at n old cut i (inr behind) ∙ p.kept i lt (pending_outside file at n i rs (inr behind) none)
            ]
          ]

      pick : (bytes_of c file ≡ bytes_of y file) ⊎ Patched file later (bytes_of c file)
          → (l : List ℕ) × ((l ≡ bytes_of x file) ⊎ Patched file before l) × Torn at n l (bytes_of c file)
      pick (inl is) = (bytes_of x file, inl refl, subst (λ (l : List ℕ). Torn at n (bytes_of x file) l) (sym is) torn)
      pick (inr p) =
          let q = patch at n old cut in
          let same_length : length q ≡ length cut = patch_length at n old cut in (
            take long q,
            inr (record {
              no_shorter = omega (arith, length-take long q, p.no_shorter);
              no_longer = omega (arith, length-take long q);
              kept = kept p;
            }),
            torn_patch at n long old cut (omega arith) (omega (arith, p.no_longer, torn.no_longer)),
          )

      here : (l : List ℕ) × ((l ≡ bytes_of x file) ⊎ Patched file before l) × Torn at n l (bytes_of c file)
      here = pick (outcome file)

      d : Image
      d = map.insert c file here.0

      same : bytes_of d file ≡ here.0
      same = bytes_insert_same c file here.0

      elsewhere : (j : ℕ) → j ≢ file → (bytes_of c j ≡ bytes_of y j) ⊎ Patched j later (bytes_of c j) → (bytes_of d j ≡ bytes_of x j) ⊎ Patched j before (bytes_of d j)
      elsewhere j apart (inl is) = inl (bytes_insert_other c file here.0 j apart ∙ is ∙ others j apart)
      elsewhere j apart (inr p) =
          inr (subst (λ (l : List ℕ). Patched j before l) (sym (bytes_insert_other c file here.0 j apart)) (record {
            no_shorter = p.no_shorter;
            no_longer = omega (arith, p.no_longer, ap length (others j apart));
            kept = λ i lt none. p.kept i lt (pending_other file at n j i rs apart none);
          }))

-- a sync
or_false : (a b : Bool) → a ≡ false → b ≡ false → a || b ≡ false
or_false a b x y = ap (λ (z : Bool). z || b) x ∙ y

pass_on : (b : Bool) (other i : ℕ) (r : Range) (ps : List Range) → (b ≡ false → ((r.file == other) && (nat_le r.at i && nat_lt i (r.at + r.n))) ≡ false) → is_pending other i ps ≡ false
    → is_pending other i (if b then ps else r ∷ ps) ≡ false
pass_on true other i r ps apart none = none
pass_on false other i r ps apart none = or_false ((r.file == other) && (nat_le r.at i && nat_lt i (r.at + r.n))) (is_pending other i ps) (apart refl) none

pub tail_none : (a b : Bool) → a || b ≡ false → b ≡ false
tail_none true b e = absurd (cc)
tail_none false b e = e

head_none : (a b : Bool) → a || b ≡ false → a ≡ false
head_none true b e = e
head_none false b e = refl

and_none : (a b : Bool) → a ≡ false → a && b ≡ false
and_none a b e = ap (λ (x : Bool). x && b) e

not_pending : (file i : ℕ) (rs : List Range) → is_pending file i (without file rs) ≡ false
not_pending file i [] = refl
not_pending file i (r ∷ rs) = pass_on (r.file == file) file i r (without file rs) (λ no. and_none (r.file == file) (nat_le r.at i && nat_lt i (r.at + r.n)) no) (not_pending file i rs)

still_pending : (file other i : ℕ) (rs : List Range) → other ≢ file → is_pending other i rs ≡ false → is_pending other i (without file rs) ≡ false
still_pending file other i [] apart none = refl
still_pending file other i (r ∷ rs) apart none =
    let here : Bool = (r.file == other) && (nat_le r.at i && nat_lt i (r.at + r.n)) in
    pass_on (r.file == file) other i r (without file rs) (λ no. head_none here (is_pending other i rs) none) (still_pending file other i rs apart (tail_none here (is_pending other i rs) none))

module _ (x base : Image) (rs : List Range) (file : ℕ) where
  abbrev unsynced : State
  unsynced = record { contents = x; base = base; ranges = rs }

  abbrev synced : State
  synced = record { contents = x; base = map.insert base file (bytes_of x file); ranges = without file rs }

  at_file : (c : Image) → (bytes_of c file ≡ bytes_of x file) ⊎ Patched file synced (bytes_of c file) → bytes_of c file ≡ bytes_of x file
  at_file c (inl is) = is
  at_file c (inr p) =
      let same : bytes_of (map.insert base file (bytes_of x file)) file ≡ bytes_of x file = bytes_insert_same base file (bytes_of x file) in
      let long : length (bytes_of (map.insert base file (bytes_of x file)) file) ≡ length (bytes_of x file) = ap length same in
      ext_get_or 0 (bytes_of c file) (bytes_of x file) (omega (arith, p.no_shorter, p.no_longer))
      (λ i lt. p.kept i (omega (arith, p.no_longer)) (not_pending file i rs) ∙ ap (λ (l : List ℕ). get_or l i 0) same)

  pub durable_sync : (c : Image) → IsOutcome synced c → bytes_of c file ≡ bytes_of x file
  durable_sync c outcome = at_file c (outcome file)

  elsewhere_sync : (c : Image) (j : ℕ) → j ≢ file → (bytes_of c j ≡ bytes_of x j) ⊎ Patched j synced (bytes_of c j) → (bytes_of c j ≡ bytes_of x j) ⊎ Patched j unsynced (bytes_of c j)
  elsewhere_sync c j apart (inl is) = inl is
  elsewhere_sync c j apart (inr p) =
      let same : bytes_of (map.insert base file (bytes_of x file)) j ≡ bytes_of base j = bytes_insert_other base file (bytes_of x file) j apart in
      inr (record {
        no_shorter = omega (arith, p.no_shorter, ap length same);
        no_longer = omega (arith, p.no_longer, ap length same);
        kept = λ i lt none. p.kept i (omega (arith, ap length same)) (still_pending file j i rs apart none) ∙ ap (λ (l : List ℕ). get_or l i 0) same;
      })

  pub no_more_sync : (c : Image) → IsOutcome synced c → IsOutcome unsynced c
  no_more_sync c outcome j = elim (cases_eq j file) [
    | inl is ↦ inl (subst (λ (k : ℕ). bytes_of c k ≡ bytes_of x k) (sym is) (durable_sync c outcome))
    | inr apart ↦ elsewhere_sync c j apart (outcome j)
  ]

-- nothing is pending at first
pub settled_start : (x c : Image) → IsOutcome (record { contents = x; base = x; ranges = [] }) c → (file : ℕ) → bytes_of c file ≡ bytes_of x file
settled_start x c outcome file = pick (outcome file)
  where
    pick : (bytes_of c file ≡ bytes_of x file) ⊎ Patched file (record { contents = x; base = x; ranges = [] }) (bytes_of c file) → bytes_of c file ≡ bytes_of x file
    pick (inl is) = is
    pick (inr p) = ext_get_or 0 (bytes_of c file) (bytes_of x file) (omega (arith, p.no_shorter, p.no_longer)) (λ i lt. p.kept i (omega (arith, p.no_longer)) refl)

-- what a crash keeps: the old bytes
pub old_outcome : (s : State) → IsOutcome s s.base
old_outcome s file = inr (record { no_shorter = omega arith; no_longer = omega arith; kept = λ i lt none. refl })

-- the new lengths, and the contents but for pending bytes
pub filled_outcome : (s : State) (c : Image) → Agrees s → ((file : ℕ) → length (bytes_of c file) ≡ length (bytes_of s.contents file))
    → ((file i : ℕ) → is_pending file i s.ranges ≡ false → get_or (bytes_of c file) i 0 ≡ get_or (bytes_of s.contents file) i 0) → IsOutcome s c
filled_outcome s c agrees long same file =
    let p = agrees file in
    inr (record { no_shorter = omega (arith, p.no_shorter, long file); no_longer = omega (arith, p.no_longer, long file); kept = λ i lt none. same file i none ∙ p.kept i lt none })

pub agrees_start : (x : Image) → Agrees (record { contents = x; base = x; ranges = [] })
agrees_start x file = record { no_shorter = omega arith; no_longer = omega arith; kept = λ i lt none. refl }

pub outside_of : (file at n i : ℕ) (rs : List Range) → is_pending file i ((record { file = file; at = at; n = n }) ∷ rs) ≡ false → ((i < at) ⊎ (at + n ≤ i)) × (is_pending file i rs ≡ false)
outside_of file at n i rs none = elim (cases_lt i at) [
  | inl below ↦ (inl below, tail_none _ _ none)
  | inr from ↦ elim (cases_lt i (at + n)) [
    | inl within ↦ absurd (grind (arith, nat_tests))
    | inr behind ↦ (inr behind, tail_none _ _ none)
  ]
]

-- outside the range the bytes are the old ones
same_outside : (at n : ℕ) (old new : List ℕ) (i : ℕ) → Torn at n old new → (i < at) ⊎ (at + n ≤ i) → get_or new i 0 ≡ get_or old i 0
same_outside at n old new i torn (inl below) = sym (get_or-take at new i 0 below) ∙ ap (λ (l : List ℕ). get_or l i 0) torn.before ∙ get_or-take at old i 0 below
same_outside at n old new i torn (inr behind) =
    let k = i - (at + n) in
    let at_i : at + n + k ≡ i = omega arith in
    ap (λ (j : ℕ). get_or new j 0) (sym at_i) ∙ sym (get_or-drop (at + n) new k 0) ∙ ap (λ (l : List ℕ). get_or l k 0) torn.behind ∙ get_or-drop (at + n) old k 0 ∙ ap (λ (j : ℕ). get_or old j 0) at_i

still_none : (file at n other i : ℕ) (rs : List Range) → is_pending other i ((record { file = file; at = at; n = n }) ∷ rs) ≡ false → is_pending other i rs ≡ false
still_none file at n other i rs none = tail_none _ _ none

pub agrees_write : (x y base : Image) (rs : List Range) (file at : ℕ) (bytes : List ℕ) → at ≤ length (bytes_of x file) → SameElsewhere file x y
    → (bytes_of y file ≡ written (bytes_of x file) at bytes) ⊎ (bytes_of y file ≡ bytes_of x file) → Agrees (record { contents = x; base = base; ranges = rs })
    → Agrees (record { contents = y; base = base; ranges = (record { file = file; at = at; n = length bytes }) ∷ rs })
agrees_write x y base rs file at bytes inside others done agrees j = elim (cases_eq j file) [
  | inl is ↦ subst (λ (k : ℕ). Patched k later-state (bytes_of y k)) (sym is) here
  | inr apart ↦
      let p = agrees j in
      let same : bytes_of y j ≡ bytes_of x j = others j apart in
      record {
        no_shorter = omega (arith, p.no_shorter, ap length same);
        no_longer = omega arith;
        kept = λ i lt none. ap (λ (l : List ℕ). get_or l i 0) same ∙ p.kept i lt (still_none file at (length bytes) j i rs none);
      }
]
  where
    later-state : State
    later-state = record { contents = y; base = base; ranges = (record { file = file; at = at; n = length bytes }) ∷ rs }

    torn : Torn at (length bytes) (bytes_of x file) (bytes_of y file)
    torn = torn_now at bytes (bytes_of x file) (bytes_of y file) inside done

    here : Patched file later-state (bytes_of y file)
    here = record {
      no_shorter = omega (arith, (agrees file).no_shorter, torn.no_shorter);
      no_longer = omega arith;
      kept = λ i lt none.
          let out = outside_of file at (length bytes) i rs none in
          same_outside at (length bytes) (bytes_of x file) (bytes_of y file) i torn out.0 ∙ (agrees file).kept i lt out.1;
    }

not_other : (a file other : ℕ) → (a == file) ≡ true → other ≢ file → (a == other) ≡ false
not_other a file other is apart = grind (arith, nat_tests)

was_none : (file other i : ℕ) (rs : List Range) → other ≢ file → is_pending other i (without file rs) ≡ false → is_pending other i rs ≡ false
was_none file other i [] apart none = refl
was_none file other i (r ∷ rs) apart none =
    let here : Bool = (r.file == other) && (nat_le r.at i && nat_lt i (r.at + r.n)) in
    elim (r.file == file) as (λ b. (r.file == file) ≡ b → is_pending other i (if b then without file rs else r ∷ without file rs) ≡ false → (here || is_pending other i rs) ≡ false) [
      | true ↦ λ is n. or_false here (is_pending other i rs) (and_none (r.file == other) (nat_le r.at i && nat_lt i (r.at + r.n)) (not_other r.file file other is apart)) (was_none file other i rs apart n)
      | false ↦ λ is n. or_false here (is_pending other i rs) (head_none here (is_pending other i (without file rs)) n) (was_none file other i rs apart (tail_none here (is_pending other i (without file rs)) n))
    ] refl none

pub agrees_sync : (x base : Image) (rs : List Range) (file : ℕ) → Agrees (record { contents = x; base = base; ranges = rs }) → Agrees (record { contents = x; base = map.insert base file (bytes_of x file); ranges = without file rs })
agrees_sync x base rs file agrees j = elim (cases_eq j file) [
  | inl is ↦ subst (λ (k : ℕ). Patched k later-state (bytes_of x k)) (sym is) (record { no_shorter = omega (arith, ap length own); no_longer = omega arith; kept = λ i lt none. ap (λ (l : List ℕ). get_or l i 0) (sym own) })
  | inr apart ↦
      let p = agrees j in
      let same : bytes_of (map.insert base file (bytes_of x file)) j ≡ bytes_of base j = bytes_insert_other base file (bytes_of x file) j apart in
      record {
        no_shorter = omega (arith, p.no_shorter, ap length same);
        no_longer = omega arith;
        kept = λ i lt none. p.kept i (omega (arith, lt, ap length same)) (was_none file j i rs apart none) ∙ ap (λ (l : List ℕ). get_or l i 0) (sym same);
      }
]
  where
    later-state : State
    later-state = record { contents = x; base = map.insert base file (bytes_of x file); ranges = without file rs }

    own : bytes_of (map.insert base file (bytes_of x file)) file ≡ bytes_of x file
    own = bytes_insert_same base file (bytes_of x file)
