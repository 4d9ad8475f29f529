-- What a step of reading takes from the front of the bytes.
use Rattle.std.proofs.Common.{◌≡◌, ℕ, suc, ◌+◌, ◌^◌, ◌<◌, ◌≤◌, Bool, true, false, cond, eqb, ltb, List, [], ◌∷◌, ◌++◌, length, get_or, take, drop, Option, Some, None, refl, sym, ap, subst, ◌∙◌, append_assoc, arith, inl, inr}
use Rattle.std.specs.Int.{Width, w16, w32, w64, byte_len, from_be_bytes, to_be_bytes}
use Rattle.std.proofs.lemmas.Bool.{cases_lt, ltb-false, le-ltb, eqb-true}
use Rattle.std.proofs.lemmas.List.{take_at, drop_at, take-append-drop, length-append, length-take, get_or-drop, get_or-take, get_or_past, nil_from_length, append-nil}
use Rattle.std.proofs.lemmas.Nat.{be_bytes_2, be_bytes_4, be_bytes_8, from_be_bytes-to_be_bytes_2, from_be_bytes-to_be_bytes_4, from_be_bytes-to_be_bytes_8}
use Rattle.sm_model.specs.Numbers.{number32, number64}
use Rattle.sm_record.specs.Texts.{number16}
use Rattle.sm_record.specs.Reading.{◌>>=◌, number_at, taken, byte_at, whole}

abbrev pub IsBytes : List ℕ → Type 0
IsBytes bytes = (i : ℕ) → get_or bytes i 0 < 256

IsBytes-drop : (n : ℕ) (bytes : List ℕ) → IsBytes bytes → IsBytes (drop n bytes)
IsBytes-drop n bytes h i = rw get_or-drop (h (n + i))

IsBytes-take : (n : ℕ) (bytes : List ℕ) → IsBytes bytes → IsBytes (take n bytes)
IsBytes-take n bytes h i =
    elim (cases_lt i n) [
      | inl lt ↦ rw (get_or-take n bytes i 0 lt) (h i)
      | inr le ↦ rw (get_or_past (take n bytes) i 0 (omega (arith, length-take n bytes))) (omega arith)
    ]

pub IsBytes-rest : (b : ℕ) (bytes : List ℕ) → IsBytes (b ∷ bytes) → IsBytes bytes
IsBytes-rest b bytes h i = h (suc i)

-- the value of a step that found one
pub bind_some : {A B : Type 0} (r : Option A) (f : A → Option B) (y : B) → (r >>= f) ≡ Some y → (x : A) × (r ≡ Some x) × (f x ≡ Some y)
bind_some (Some x) f y e = (x, refl, e)
bind_some None f y e = absurd cc

pub guard_some : {A : Type 0} (b : Bool) (x y : A) → cond b None (Some x) ≡ Some y → (b ≡ false) × (x ≡ y)
guard_some true x y e = absurd cc
guard_some false x y e = (refl, cc)

pub guard_held : {A : Type 0} (b : Bool) (x y : A) → cond b (Some x) None ≡ Some y → (b ≡ true) × (x ≡ y)
guard_held true x y e = (refl, cc)
guard_held false x y e = absurd cc

abbrev found : {A : Type 0} → A → Option A
found x = Some x

pub some_is : {A : Type 0} (x y : A) → found x ≡ found y → x ≡ y
some_is x y e = cc

-- what a reader took from the front
pub record Takes (bytes text rest : List ℕ) : Type 0 where
  pub parts : bytes ≡ text ++ rest
  pub rest_fits : IsBytes rest

pub Takes-then : (a x b y c : List ℕ) → Takes a x b → Takes b y c → Takes a (x ++ y) c
Takes-then a x b y c p q = record { parts = p.parts ∙ ap (λ (t : List ℕ). x ++ t) q.parts ∙ sym (append_assoc x y c); rest_fits = q.rest_fits }

-- ---- numbers

record IsWide (w : Width) (limit : ℕ) : Type 0 where
  len : (n : ℕ) → length (to_be_bytes w n) ≡ byte_len w
  back : (bytes : List ℕ) → length bytes ≡ byte_len w → IsBytes bytes → to_be_bytes w (from_be_bytes w bytes) ≡ bytes
  again : (n : ℕ) → n < limit → from_be_bytes w (to_be_bytes w n) ≡ n
  below : (bytes : List ℕ) → IsBytes bytes → from_be_bytes w bytes < limit

wide16 : IsWide w16 (2 ^ 16)
wide16 = record {
  len = λ n. refl;
  back = λ bytes len fits. be_bytes_2 bytes _ len fits refl;
  again = λ n lt. from_be_bytes-to_be_bytes_2 n lt;
  below = λ bytes fits. omega (arith, fits 0, fits 1);
}

wide32 : IsWide w32 (2 ^ 32)
wide32 = record {
  len = λ n. refl;
  back = λ bytes len fits. be_bytes_4 bytes _ len fits refl;
  again = λ n lt. from_be_bytes-to_be_bytes_4 n lt;
  below = λ bytes fits. omega (arith, fits 0, fits 1, fits 2, fits 3);
}

wide64 : IsWide w64 (2 ^ 64)
wide64 = record {
  len = λ n. refl;
  back = λ bytes len fits. be_bytes_8 bytes _ len fits refl;
  again = λ n lt. from_be_bytes-to_be_bytes_8 n lt;
  below = λ bytes fits. omega (arith, fits 0, fits 1, fits 2, fits 3, fits 4, fits 5, fits 6, fits 7);
}

number_takes : (w : Width) (limit : ℕ) (wide : IsWide w limit) (bytes : List ℕ) (n : ℕ) (rest : List ℕ) → IsBytes bytes → number_at w bytes ≡ Some (n, rest) → Takes bytes (to_be_bytes w n) rest ×
    (n < limit)
number_takes w limit wide bytes n rest fits e =
    let g = guard_some (ltb (length bytes) (byte_len w)) (from_be_bytes w (take (byte_len w) bytes), drop (byte_len w) bytes) (n, rest) e in
    let long : byte_len w ≤ length bytes = ltb-false _ _ g.0 in
    let n-is : from_be_bytes w (take (byte_len w) bytes) ≡ n = ap (λ (p : ℕ × List ℕ). p.0) g.1 in
    let rest-is : drop (byte_len w) bytes ≡ rest = ap (λ (p : ℕ × List ℕ). p.1) g.1 in
    let front : to_be_bytes w n ≡ take (byte_len w) bytes = rw (← n-is) (wide.back (take (byte_len w) bytes) (omega (arith, length-take (byte_len w) bytes)) (IsBytes-take (byte_len w) bytes fits)) in (
      record { parts = rw (front, ← rest-is) (sym (take-append-drop (byte_len w) bytes)); rest_fits = rw (← rest-is) (IsBytes-drop (byte_len w) bytes fits) },
      rw (← n-is)
          (wide.below (take (byte_len w) bytes) (IsBytes-take (byte_len w) bytes fits)),
    )

number_again : (w : Width) (limit : ℕ) (wide : IsWide w limit) (n : ℕ) (rest : List ℕ) → n < limit → number_at w (to_be_bytes w n ++ rest) ≡ Some (n, rest)
number_again w limit wide n rest lt =
    let len = wide.len n in
    let long : ltb (length (to_be_bytes w n ++ rest)) (byte_len w) ≡ false = le-ltb _ _ (omega (arith, length-append (to_be_bytes w n) rest)) in
    rw (long, take_at (to_be_bytes w n) rest (byte_len w) len, drop_at (to_be_bytes w n) rest (byte_len w) len, wide.again n lt) refl

pub takes16 : (bytes : List ℕ) (n : ℕ) (rest : List ℕ) → IsBytes bytes → number_at w16 bytes ≡ Some (n, rest) → Takes bytes (number16 n) rest × (n < 2 ^ 16)
unfolding number16
takes16 bytes n rest fits e = number_takes w16 (2 ^ 16) wide16 bytes n rest fits e

pub again16 : (n : ℕ) (rest : List ℕ) → n < 2 ^ 16 → number_at w16 (number16 n ++ rest) ≡ Some (n, rest)
unfolding number16
again16 n rest lt = number_again w16 (2 ^ 16) wide16 n rest lt

pub takes32 : (bytes : List ℕ) (n : ℕ) (rest : List ℕ) → IsBytes bytes → number_at w32 bytes ≡ Some (n, rest) → Takes bytes (number32 n) rest × (n < 2 ^ 32)
unfolding number32
takes32 bytes n rest fits e = number_takes w32 (2 ^ 32) wide32 bytes n rest fits e

pub again32 : (n : ℕ) (rest : List ℕ) → n < 2 ^ 32 → number_at w32 (number32 n ++ rest) ≡ Some (n, rest)
unfolding number32
again32 n rest lt = number_again w32 (2 ^ 32) wide32 n rest lt

pub takes64 : (bytes : List ℕ) (n : ℕ) (rest : List ℕ) → IsBytes bytes → number_at w64 bytes ≡ Some (n, rest) → Takes bytes (number64 n) rest × (n < 2 ^ 64)
unfolding number64
takes64 bytes n rest fits e = number_takes w64 (2 ^ 64) wide64 bytes n rest fits e

pub again64 : (n : ℕ) (rest : List ℕ) → n < 2 ^ 64 → number_at w64 (number64 n ++ rest) ≡ Some (n, rest)
unfolding number64
again64 n rest lt = number_again w64 (2 ^ 64) wide64 n rest lt

-- ---- so many bytes

pub record HasTaken (n : ℕ) (bytes own rest : List ℕ) : Type 0 where
  pub takes : Takes bytes own rest
  pub len : length own ≡ n
  pub own_fits : IsBytes own

pub taken_takes : (n : ℕ) (bytes own rest : List ℕ) → IsBytes bytes → taken n bytes ≡ Some (own, rest) → HasTaken n bytes own rest
taken_takes n bytes own rest fits e =
    let g = guard_some (ltb (length bytes) n) (take n bytes, drop n bytes) (own, rest) e in
    let long : n ≤ length bytes = ltb-false _ _ g.0 in
    let made : HasTaken n bytes (take n bytes) (drop n bytes) = record {
      takes = record { parts = sym (take-append-drop n bytes); rest_fits = IsBytes-drop n bytes fits };
      len = omega (arith, length-take n bytes);
      own_fits = IsBytes-take n bytes fits;
    } in
    subst (λ (p : List ℕ × List ℕ). HasTaken n bytes p.0 p.1) g.1 made

pub taken_again : (n : ℕ) (own rest : List ℕ) → length own ≡ n → taken n (own ++ rest) ≡ Some (own, rest)
taken_again n own rest len =
    let long : ltb (length (own ++ rest)) n ≡ false = le-ltb _ _ (omega (arith, length-append own rest)) in
    rw (long, take_at own rest n len, drop_at own rest n len) refl

pub byte_takes : (bytes : List ℕ) (b : ℕ) (rest : List ℕ) → IsBytes bytes → byte_at bytes ≡ Some (b, rest) → Takes bytes (b ∷ []) rest × (b < 256)
byte_takes [] b rest fits e = absurd cc
byte_takes (x ∷ xs) b rest fits e =
    subst (λ (p : ℕ × List ℕ). Takes (x ∷ xs) (p.0 ∷ []) p.1 × (p.0 < 256)) (some_is (x, xs) (b, rest) e) (record { parts = refl; rest_fits = IsBytes-rest x xs fits }, fits 0)

-- nothing stands behind
pub whole_takes : {A : Type 0} (x : A) (rest : List ℕ) (y : A) → whole (x, rest) ≡ Some y → (rest ≡ []) × (x ≡ y)
whole_takes x rest y e = let g = guard_held (eqb (length rest) 0) x y e in (nil_from_length rest (eqb-true _ _ g.0), g.1)

pub nothing_behind : (a x rest : List ℕ) → Takes a x rest → rest ≡ [] → a ≡ x
nothing_behind a x rest t e = t.parts ∙ ap (λ (r : List ℕ). x ++ r) e ∙ append-nil x

-- what is put behind joined texts goes behind the last of them
pub behind : (a b rest x : List ℕ) → b ++ rest ≡ x → (a ++ b) ++ rest ≡ a ++ x
behind a b rest x e = append_assoc a b rest ∙ ap (λ (l : List ℕ). a ++ l) e
