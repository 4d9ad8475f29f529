-- Each proper front of a reply is cut.
use Rattle.std.proofs.Common.{◌≡◌, ◌<◌, ◌≤◌, ℕ, ◌+◌, List, [], ◌∷◌, ◌++◌, length, drop, refl, ap, ◌∙◌, sym, subst, arith, inl, inr, ⊎_elim, append_assoc, length-append, length-drop}
use Rattle.std.specs.Prelude.{Some}
use Rattle.std.proofs.lemmas.List.{append-nil, drop-append-le}
use Rattle.std.proofs.lemmas.Bool.{cases_lt}
use Rattle.httparse.specs.Grammar.{print_response}
use Rattle.httparse.proofs.GrammarLemmas.{response_prefix_free}
use Rattle.sm_model.specs.declared.framing.Framing.{Framing}
use Rattle.sm_body.specs.declared.place.Place.{Place}
use Rattle.sm_body.specs.declared.place.Place.TheVariants.{Ended, Failed}
use Rattle.sm_body.specs.Places.{start, place_after}
use Rattle.sm_head.specs.Responses.{IsReplyAt, IsUnfinished}
use Rattle.sm_fetch.specs.Answered.{IsBehindInterim, first, next, IsHeadEnd, IsWholeReply, IsReply, IsCutReply}
use Rattle.sm_fetch.proofs.Framing.{place_on, failed_stays, split}
use Rattle.sm_fetch.proofs.OneReply.{Leads, here, over, from_start, same_framed}

-- ---- heads in a front

cancel : (xs ys more : List ℕ) → xs ++ more ≡ ys ++ more → xs ≡ ys
cancel xs ys more same = same_length xs ys same (omega (arith, ap length same, length-append xs more, length-append ys more))
  where
    same_length : (xs ys : List ℕ) → xs ++ more ≡ ys ++ more → length xs ≡ length ys → xs ≡ ys
    same_length [] [] same len = refl
    same_length [] (y ∷ ys) same len = absurd (omega (arith, len))
    same_length (x ∷ xs) [] same len = absurd (omega (arith, len))
    same_length (x ∷ xs) (y ∷ ys) same len =
        let heads : x ≡ y = cc in
        let tails : xs ++ more ≡ ys ++ more = cc in
        let e = same_length xs ys tails (omega (arith, len)) in cc

-- a head that fits into the front stands there
head_back : (xs more : List ℕ) (len status : ℕ) (f : Framing) → IsReplyAt (xs ++ more) len status (Some f) → len ≤ length xs → IsReplyAt xs len status (Some f)
head_back xs more len status f head fits = record {
  h = head.h;
  reads = (
    head.reads.0,
    cancel xs (print_response head.h ++ drop len xs) more
        (head.reads.1 ∙ ap (λ r. print_response head.h ++ r) (drop-append-le len xs more fits) ∙ sym (append_assoc (print_response head.h) (drop len xs) more)),
  );
  fits = fits;
  some = head.some;
  short = head.short;
  status_is = head.status_is;
  framing_is = head.framing_is;
}

-- a head that doesn't is waited for
head_cut : (xs more : List ℕ) (len status : ℕ) (f : Framing) → IsReplyAt (xs ++ more) len status (Some f) → length xs < len → IsUnfinished xs
head_cut xs more len status f head short = record {
  none = λ k r whole. no_head r (response_prefix_free xs more k head.h r (drop len (xs ++ more)) whole head.reads).1;
  may = ⊎_elim
      (λ (s : (k : List ℕ) × (print_response head.h ≡ xs ++ k) × (more ≡ k ++ drop len (xs ++ more))). (s.0, head.h, (head.reads.0, sym s.1 ∙ sym (append-nil (print_response head.h)))))
      (λ (s : (k : List ℕ) × (xs ≡ print_response head.h ++ k) × (drop len (xs ++ more) ≡ k ++ more)). absurd (too_long s.0 s.1))
      (split xs more (print_response head.h) (drop len (xs ++ more)) head.reads.1);
  short = omega (arith, short, head.short);
}
  where
    lengths : length (drop len (xs ++ more)) + len ≡ length xs + length more
    lengths = omega (arith, length-drop len (xs ++ more), length-append xs more, head.fits)

    no_head : (r : List ℕ) → r ++ more ≡ drop len (xs ++ more) → ⊥
    no_head r same = absurd (omega (arith, ap length same, length-append r more, lengths, short))

    too_long : (k : List ℕ) → xs ≡ print_response head.h ++ k → ⊥
    too_long k is = absurd (omega (arith, ap length is, length-append (print_response head.h) k, ap length head.reads.1, length-append (print_response head.h) (drop len (xs ++ more)), length-append xs more, lengths, short))

-- the bytes from a place of the front on
from_on : (front more : List ℕ) (p : ℕ) → p ≤ length front → drop p (front ++ more) ≡ drop p front ++ more
from_on front more p within = drop-append-le p front more within

head_here : (front more : List ℕ) (p len status : ℕ) (f : Framing) → p ≤ length front → IsReplyAt (drop p (front ++ more)) len status (Some f)
    → IsReplyAt (drop p front ++ more) len status (Some f)
head_here front more p len status f within head = subst (λ (b : List ℕ). IsReplyAt b len status (Some f)) (from_on front more p within) head

cut_here : (front more : List ℕ) (p len status : ℕ) (f : Framing) → p ≤ length front → IsBehindInterim front p → IsReplyAt (drop p (front ++ more)) len status (Some f)
    → length front < p + len → IsCutReply front
cut_here front more p len status f within behind head past = inl (record {
  from = p;
  behind = behind;
  waits = head_cut (drop p front) more len status f (head_here front more p len status f within head) (omega (arith, length-drop p front, within, past));
})

fits_here : (front more : List ℕ) (p len status : ℕ) (f : Framing) → p ≤ length front → IsReplyAt (drop p (front ++ more)) len status (Some f) → p + len ≤ length front
    → IsReplyAt (drop p front) len status (Some f)
fits_here front more p len status f within head fits =
    head_back (drop p front) more len status f (head_here front more p len status f within head) (omega (arith, length-drop p front, within, fits))

-- ---- the body in a front

cut_body : (front more : List ℕ) (status at : ℕ) (f : Framing) (framed : List ℕ) → IsHeadEnd front status at f → at ≤ length front → 0 < length more
    → drop at (front ++ more) ≡ framed → place_after (start f) framed ≡ Ended → IsCutReply front
cut_body front more status at f framed head within some is ends = inr (record {
  status = status;
  at = at;
  framing = f;
  head = head;
  unended = λ ended. longer (same_framed (start f) (drop at front) more framed [] (joined ∙ sym (append-nil framed)) ended ends);
  unfailed = λ failed. let wrong : Failed ≡ Ended = sym (failed_stays more) ∙ ap (λ (p : Place). place_after p more) (sym failed) ∙ sym (place_on (start f) (drop at front) more)
      ∙ ap (place_after (start f)) joined ∙ ends in absurd (cc);
})
  where
    joined : drop at front ++ more ≡ framed
    joined = sym (from_on front more at within) ∙ is

    longer : drop at front ≡ framed → ⊥
    longer same = absurd (omega (arith, ap length same, ap length joined, length-append (drop at front) more, some))

-- ---- the whole front

walk_on : (bytes front more : List ℕ) (status at : ℕ) (body : List ℕ) (w : IsWholeReply bytes status at body) → bytes ≡ front ++ more → w.rest ≡ [] → 0 < length more → (p : ℕ)
    → p ≤ length front → IsBehindInterim front p → Leads bytes p w.head.from → IsCutReply front
walk_on bytes front more status at body w is alone some p within behind (here b t u same) =
    let head : IsReplyAt (drop p (front ++ more)) w.head.len status (Some w.framing) =
    subst (λ (b : List ℕ). IsReplyAt (drop p b) w.head.len status (Some w.framing)) is
    (subst (λ n. IsReplyAt (drop n bytes) w.head.len status (Some w.framing)) (sym same) w.head.head) in
    ⊎_elim
    (λ (past : length front < p + w.head.len). cut_here front more p w.head.len status w.framing within behind head past)
    (λ (fits : p + w.head.len ≤ length front). cut_body front more status at w.framing w.framed
    (record { from = p; behind = behind; len = w.head.len; head = fits_here front more p w.head.len status w.framing within head fits; final = w.head.final; at_is = w.head.at_is ∙ ap (λ n. n + w.head.len) (sym same) })
    (omega (arith, fits, w.head.at_is, same)) some (ap (drop at) (sym is) ∙ w.behind ∙ ap (λ r. w.framed ++ r) alone ∙ append-nil w.framed) w.ends)
    (cases_lt (length front) (p + w.head.len))
walk_on bytes front more status at body w is alone some p within behind (over b t len u interim leads) =
    let head : IsReplyAt (drop p (front ++ more)) len interim.status (Some interim.framing) =
    subst (λ (b : List ℕ). IsReplyAt (drop p b) len interim.status (Some interim.framing)) is interim.head in
    ⊎_elim
    (λ (past : length front < p + len). cut_here front more p len interim.status interim.framing within behind head past)
    (λ (fits : p + len ≤ length front). walk_on bytes front more status at body w is alone some (p + len) fits
    (next front p len interim.status interim.framing (p + len) behind (fits_here front more p len interim.status interim.framing within head fits) interim.low refl) leads)
    (cases_lt (length front) (p + len))

pub front_is_cut : (bytes front more body : List ℕ) (status at : ℕ) → IsReply bytes status at body → bytes ≡ front ++ more → 0 < length more → IsCutReply front
front_is_cut bytes front more body status at r is some =
    walk_on bytes front more status at body r.whole is r.alone some 0 (omega arith) (first front 0 refl) (from_start bytes r.whole.head.from r.whole.head.behind)
