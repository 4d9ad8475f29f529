-- Bodies read step by step.
use Rattle.std.proofs.Common.{zero, suc, suc-add, zero-add, ◌≡◌, ◌≢◌, ◌<◌, ◌≤◌, ℕ, ◌+◌, ◌-◌, ◌⊎◌, ◌==◌, if◌then◌else◌, Bool, true, false, List, []}
use Rattle.std.proofs.Common.{◌∷◌, ◌++◌, length, take, drop, get_or, refl, ap, ◌∙◌, sym, subst, arith, inl, inr, ⊎_elim, append_assoc, length-take, take-append-drop, length-drop}
use Rattle.std.proofs.lemmas.List.{append-nil, take_all}
use Rattle.std.proofs.lemmas.Grind.{common_steps}
use Rattle.sm_model.specs.declared.framing.Framing.{Framing}
use Rattle.sm_model.specs.declared.framing.Framing.TheVariants as framing
use Rattle.sm_body.specs.declared.place.Place.{Place}
use Rattle.sm_body.specs.declared.place.Place.TheVariants.{Ended, Failed, Counted}
use Rattle.sm_body.specs.declared.framer.Step.TheVariants.{Skip, Body, End, Bad}
use Rattle.sm_body.specs.Places.{start, place_after, body_from, is_data, next_place}
use Rattle.sm_body.specs.Steps.{StepGives}
use Rattle.sm_fetch.specs.Framed.{IsFramedWhole, IsFramedBad}

-- so many bytes are read: they lead to this place, before a byte that fits nowhere, and this is the body of them
pub record IsReadTo (f : Framing) (bytes : List ℕ) (at : ℕ) (place : Place) (body : List ℕ) : Type 0 where
  pub within : at ≤ length bytes
  pub place_is : place_after (start f) (take at bytes) ≡ place
  pub body_is : body ≡ body_from (start f) (take at bytes)
  pub fine : place ≢ Failed

-- ---- places and bodies of joined bytes

pub place_on : (p : Place) (xs ys : List ℕ) → place_after p (xs ++ ys) ≡ place_after (place_after p xs) ys
place_on p [] ys = refl
place_on p (x ∷ xs) ys = place_on (next_place p x) xs ys

pub body_on : (p : Place) (xs ys : List ℕ) → body_from p (xs ++ ys) ≡ body_from p xs ++ body_from (place_after p xs) ys
body_on p [] ys = refl
body_on p (x ∷ xs) ys =
    ap (λ b. (if is_data p then x ∷ [] else []) ++ b) (body_on (next_place p x) xs ys)
    ∙ sym (append_assoc (if is_data p then x ∷ [] else []) (body_from (next_place p x) xs) (body_from (place_after (next_place p x) xs) ys))

none_of : (p : Place) (xs : List ℕ) → is_data p ≡ false → length xs ≤ 1 → body_from p xs ≡ []
none_of p [] frame short = refl
none_of p (x ∷ []) frame short = rw frame refl
none_of p (x ∷ y ∷ xs) frame short = absurd (omega arith)

taken_on : (bytes : List ℕ) (at n : ℕ) → take (at + n) bytes ≡ take at bytes ++ take n (drop at bytes)
taken_on bytes zero n = ap (λ k. take k bytes) (zero-add n)
taken_on [] (suc at) n = rw (suc-add at n) (sym (take_all n [] (omega arith)))
taken_on (b ∷ bytes) (suc at) n = rw (suc-add at n) (ap (λ t. b ∷ t) (taken_on bytes at n))

pub failed_stays : (k : List ℕ) → place_after Failed k ≡ Failed
failed_stays [] = refl
failed_stays (x ∷ k) = failed_stays k

start_fine : (f : Framing) → start f ≢ Failed
start_fine framing.None is = cc
start_fine (framing.Counted n) is = absurd (counted_fine (n == 0) n is)
  where
    counted_fine : (b : Bool) (n : ℕ) → (if b then Ended else Counted n) ≢ Failed
    counted_fine true n is = absurd (cc)
    counted_fine false n is = absurd (cc)
start_fine framing.Chunked is = cc

-- ---- steps

pub read_start : (f : Framing) (bytes : List ℕ) → IsReadTo f bytes 0 (start f) []
read_start f bytes = record { within = omega arith; place_is = refl; body_is = refl; fine = start_fine f }

moved : (f : Framing) (bytes : List ℕ) (at n : ℕ) (p q : Place) (b b' : List ℕ) → IsReadTo f bytes at p b → at + n ≤ length bytes
    → q ≡ place_after p (take n (drop at bytes)) → b' ≡ b ++ body_from p (take n (drop at bytes)) → q ≢ Failed → IsReadTo f bytes (at + n) q b'
moved f bytes at n p q b b' r fits leads adds fine = record {
  within = fits;
  place_is = rw (taken_on bytes at n) (place_on (start f) (take at bytes) (take n (drop at bytes)) ∙ ap (λ (o : Place). place_after o (take n (drop at bytes))) r.place_is ∙ sym leads);
  body_is = rw (taken_on bytes at n) (adds ∙ ap (λ x. x ++ body_from p (take n (drop at bytes))) r.body_is
      ∙ ap (λ (o : Place). body_from (start f) (take at bytes) ++ body_from o (take n (drop at bytes))) (sym r.place_is)
      ∙ sym (body_on (start f) (take at bytes) (take n (drop at bytes))));
  fine = fine;
}

pub tail_is : (bytes : List ℕ) (at : ℕ) → take (length bytes - at) (drop at bytes) ≡ drop at bytes
tail_is bytes at = grind (arith, common_steps)

pub tail_len : (bytes : List ℕ) (at n : ℕ) → n ≤ length (take (length bytes - at) (drop at bytes)) → at ≤ length bytes → at + n ≤ length bytes
tail_len bytes at n fits within = let l = length-drop at bytes in let e = ap length (tail_is bytes at) in omega (arith, l, e)

first_of_tail : (bytes : List ℕ) (at n : ℕ) → take n (take (length bytes - at) (drop at bytes)) ≡ take n (drop at bytes)
first_of_tail bytes at n = ap (take n) (tail_is bytes at)

pub read_skip : (f : Framing) (bytes : List ℕ) (at n : ℕ) (p q : Place) (b : List ℕ) → IsReadTo f bytes at p b
    → StepGives p (take (length bytes - at) (drop at bytes)) (Skip n) q → IsReadTo f bytes (at + n) q b
read_skip f bytes at n p q b r s =
    let first = first_of_tail bytes at n in
    let l = length-take n (drop at bytes) in
    let none : body_from p (take n (drop at bytes)) ≡ [] = none_of p (take n (drop at bytes)) s.0 (omega (arith, l, s.1)) in
    moved f bytes at n p q b b r (tail_len bytes at n s.2 r.within) (s.3 ∙ ap (place_after p) first) (sym (append-nil b) ∙ ap (λ x. b ++ x) (sym none)) s.4

pub read_data : (f : Framing) (bytes : List ℕ) (at n : ℕ) (p q : Place) (b b' piece : List ℕ) → IsReadTo f bytes at p b
    → StepGives p (take (length bytes - at) (drop at bytes)) (Body n) q → b' ≡ b ++ piece → piece ≡ take n (drop at bytes) → IsReadTo f bytes (at + n) q b'
read_data f bytes at n p q b b' piece r s adds is =
    let first = first_of_tail bytes at n in
    moved f bytes at n p q b b' r (tail_len bytes at n (omega (arith, s.2)) r.within) (s.3 ∙ ap (place_after p) first)
    (adds ∙ ap (λ x. b ++ x) (is ∙ sym first ∙ sym s.4 ∙ ap (body_from p) first)) s.5

pub read_end : (f : Framing) (bytes : List ℕ) (at n : ℕ) (p q : Place) (b : List ℕ) → IsReadTo f bytes at p b
    → StepGives p (take (length bytes - at) (drop at bytes)) (End n) q → IsFramedWhole f bytes b
read_end f bytes at n p q b r s =
    let first = first_of_tail bytes at n in
    let l = length-take n (drop at bytes) in
    let none : body_from p (take n (drop at bytes)) ≡ [] = none_of p (take n (drop at bytes)) s.0 (omega (arith, l, s.1)) in
    let done = moved f bytes at n p Ended b b r (tail_len bytes at n s.2 r.within) (sym s.3 ∙ ap (place_after p) first) (sym (append-nil b) ∙ ap (λ x. b ++ x) (sym none)) (λ is. cc) in
    record { framed = take (at + n) bytes; rest = drop (at + n) bytes; joined = sym (take-append-drop (at + n) bytes); ends = done.place_is; body_is = done.body_is }

-- a front of a list that two splits give
pub split : (a b c d : List ℕ) → a ++ b ≡ c ++ d → ((k : List ℕ) × (c ≡ a ++ k) × (b ≡ k ++ d)) ⊎ ((k : List ℕ) × (a ≡ c ++ k) × (d ≡ k ++ b))
split [] b c d same = inl (c, refl, same)
split (x ∷ a) b [] d same = inr (x ∷ a, refl, sym same)
split (x ∷ a) b (y ∷ c) d same =
    let heads : x ≡ y = cc in
    let tails : a ++ b ≡ c ++ d = cc in
    ⊎_elim (λ (s : (k : List ℕ) × (c ≡ a ++ k) × (b ≡ k ++ d)). inl (s.0, (let e = s.1 in cc), s.2)) (λ (s : (k : List ℕ) × (a ≡ c ++ k) × (d ≡ k ++ b)). inr (s.0, (let e = s.1 in cc), s.2)) (split a b c d tails)

-- nothing but a byte that fits nowhere stands behind the end
ended_on : (k : List ℕ) (q : Place) → place_after Ended k ≡ q → q ≢ Failed → q ≡ Ended
ended_on [] q is fine = sym is
ended_on (x ∷ k) q is fine = absurd (fine (sym is ∙ failed_stays k))

bad_at : (f : Framing) (bytes front tail : List ℕ) (c : ℕ) (p : Place) → bytes ≡ front ++ c ∷ tail → place_after (start f) front ≡ p → p ≢ Failed → p ≢ Ended
    → next_place p c ≡ Failed → IsFramedBad f bytes
bad_at f bytes front tail c p joined leads fine unended fails = record {
  failed = rw joined (place_on (start f) front (c ∷ tail) ∙ ap (λ (o : Place). place_after o (c ∷ tail)) leads ∙ ap (λ (o : Place). place_after o tail) fails ∙ failed_stays tail);
  unended = λ framed rest cut ended. ⊎_elim
      (λ (s : (k : List ℕ) × (framed ≡ front ++ k) × (c ∷ tail ≡ k ++ rest)). inside framed rest s.0 s.1 s.2 ended)
      (λ (s : (k : List ℕ) × (front ≡ framed ++ k) × (rest ≡ k ++ c ∷ tail)). absurd (unended (ended_on s.0 p (behind framed s.0 s.1 ended) fine)))
      (split front (c ∷ tail) framed rest (sym joined ∙ cut));
}
  where
    behind : (framed k : List ℕ) → front ≡ framed ++ k → place_after (start f) framed ≡ Ended → place_after Ended k ≡ p
    behind framed k is ended = ap (λ (o : Place). place_after o k) (sym ended) ∙ sym (place_on (start f) framed k) ∙ ap (place_after (start f)) (sym is) ∙ leads

    inside : (framed rest k : List ℕ) → framed ≡ front ++ k → c ∷ tail ≡ k ++ rest → place_after (start f) framed ≡ Ended → ⊥
    inside framed rest [] is at ended = unended (sym leads ∙ ap (place_after (start f)) (sym (is ∙ append-nil front)) ∙ ended)
    inside framed rest (x ∷ k) is at ended =
        let head : c ≡ x = cc in
        let all : Ended ≡ Failed = sym ended ∙ ap (place_after (start f)) is ∙ place_on (start f) front (x ∷ k) ∙ ap (λ (o : Place). place_after o (x ∷ k)) leads
        ∙ ap (λ y. place_after (next_place p y) k) (sym head) ∙ ap (λ (o : Place). place_after o k) fails ∙ failed_stays k in
        absurd (cc)

pub read_bad : (f : Framing) (bytes : List ℕ) (at : ℕ) (p q : Place) (b : List ℕ) → IsReadTo f bytes at p b
    → StepGives p (take (length bytes - at) (drop at bytes)) Bad q → IsFramedBad f bytes
read_bad f bytes at p q b r (frame, now, inl was) = absurd (r.fine was)
read_bad f bytes at p q b r (frame, now, inr (unended, some, fails)) = at_tail (drop at bytes) (sym (take-append-drop at bytes)) (some_left) (fails_left)
  where
    some_left : 0 < length (drop at bytes)
    some_left = subst (λ (x : List ℕ). 0 < length x) (tail_is bytes at) some

    fails_left : next_place p (get_or (drop at bytes) 0 0) ≡ Failed
    fails_left = subst (λ (x : List ℕ). next_place p (get_or x 0 0) ≡ Failed) (tail_is bytes at) fails

    at_tail : (tail : List ℕ) → bytes ≡ take at bytes ++ tail → 0 < length tail → next_place p (get_or tail 0 0) ≡ Failed → IsFramedBad f bytes
    at_tail [] joined some fails = absurd (omega arith)
    at_tail (c ∷ tail) joined some fails = bad_at f bytes (take at bytes) tail c p joined r.place_is r.fine unended fails
