-- What the front of the bytes gives, the bytes give.
use Rattle.std.specs.Prelude.{suc, zero, Bool, Result, Ok, Err}
use Rattle.std.proofs.Common.{◌≡◌, ◌≢◌, ℕ, ◌+◌, ◌-◌, ◌≤◌, ◌⊎◌, List, [], ◌∷◌, ◌++◌, length, take, drop, refl, ap, ◌∙◌, sym, subst, arith, inl, inr, ⊎_elim, append_assoc, length-append, length-drop, take-append-drop}
use Rattle.std.proofs.lemmas.List.{append-nil}
use Rattle.std.proofs.lemmas.Grind.{common_steps}
use Rattle.httparse.specs.Grammar.{RequestHead, print_request, ReadsRequest, HasNoRequest}
use Rattle.httparse.proofs.GrammarLemmas.{ReadsRequest-append, request_unique}
use Rattle.sm_body.specs.declared.place.Place.{Place}
use Rattle.sm_body.specs.declared.place.Place.TheVariants.{Ended, Failed}
use Rattle.sm_body.specs.Places.{place_after, next_place}
use Rattle.sm_head.specs.Heads.{IsHopeless}
use Rattle.sm_model.specs.declared.cause.Cause.{Cause}
use Rattle.sm_model.specs.declared.cause.Cause.TheVariants.{BadChunk}
use Rattle.sm_head.specs.declared.asked.Asked.{Asked}
use Rattle.sm_head.specs.Judged.{judged}
use Rattle.sm_head.specs.Requests.{window, IsWaiting, IsRefused}
use Rattle.sm_conn.specs.Parts.{PartItem, ended, bad, Mode, in_head, in_body, behind_item, opening, behind_head, Reads, waiting, refused, whole, body, stopped, failed, shut}
use Rattle.sm_conn.proofs.PartsLaw.{data_items, data_on, place_on, refused_on, hopeless_on}

-- a front of a list that two splits give
split : (a b c d : List ℕ) → a ++ b ≡ c ++ d → ((k : List ℕ) × (c ≡ a ++ k) × (b ≡ k ++ d)) ⊎ ((k : List ℕ) × (a ≡ c ++ k) × (d ≡ k ++ b))
split [] b c d same = inl (c, refl, same)
split (x ∷ a) b [] d same = inr (x ∷ a, refl, sym same)
split (x ∷ a) b (y ∷ c) d same =
    let heads : x ≡ y = cc in
    let tails : a ++ b ≡ c ++ d = cc in
    ⊎_elim (λ (s : (k : List ℕ) × (c ≡ a ++ k) × (b ≡ k ++ d)). inl (s.0, (let e = s.1 in cc), s.2)) (λ (s : (k : List ℕ) × (a ≡ c ++ k) × (d ≡ k ++ b)). inr (s.0, (let e = s.1 in cc), s.2)) (split a b c d tails)

-- a whole head leaves something that makes a head
not_hopeless : (z rest : List ℕ) (h : RequestHead) → ReadsRequest z h rest → IsHopeless (window z) → ⊥
not_hopeless z rest h reads hopeless =
    let front = hopeless.front ++ 10 ∷ [] in
    let more = hopeless.rest ++ drop 8192 z in
    let whole : z ≡ front ++ more =
    sym (take-append-drop 8192 z) ∙ ap (λ b. b ++ drop 8192 z) (hopeless.splits ∙ sym (append_assoc hopeless.front (10 ∷ []) hopeless.rest)) ∙ append_assoc front hopeless.rest (drop 8192 z) in
    hopeless.never more h rest (subst (λ (b : List ℕ). ReadsRequest b h rest) whole reads)

-- a head of at most 8,192 bytes lies in the first 8,192
in_window : (z rest : List ℕ) (h : RequestHead) → ReadsRequest z h rest → length z ≤ length rest + 8192 → HasNoRequest (window z) → ⊥
in_window z rest h reads short none =
    let l : length (print_request h) ≤ 8192 = omega (arith, ap length reads.1, length-append (print_request h) rest) in
    none h (take (8192 - length (print_request h)) rest) (reads.0, ap (take 8192) reads.1 ∙ take_behind 8192 (print_request h) rest l)
  where
    take_behind : (n : ℕ) (xs ys : List ℕ) → length xs ≤ n → take n (xs ++ ys) ≡ xs ++ take (n - length xs) ys
    take_behind n [] ys low = grind (arith, common_steps)
    take_behind zero (x ∷ xs) ys low = absurd (omega arith)
    take_behind (suc n) (x ∷ xs) ys low = ap (λ t. x ∷ t) (take_behind n xs ys (omega arith) ∙ ap (λ k. xs ++ take k ys) (omega arith))

short_at : (z : List ℕ) (len : ℕ) → len ≤ 8192 → len ≤ length z → length z ≤ length (drop len z) + 8192
short_at z len short fits = let l = length-drop len z in omega arith

abbrev refusal : Cause → Result Asked Cause
refusal cause = Err cause

abbrev asking : Asked → Result Asked Cause
asking asked = Ok asked

-- a refused head asks nothing
refused_head : (z rest : List ℕ) (h : RequestHead) (cause : Cause) (asked : Asked) → IsRefused z cause → ReadsRequest z h rest → length z ≤ length rest + 8192
    → judged h ≡ Ok asked → ⊥
refused_head z rest h cause asked (inl (len, at)) reads short judge =
    let same = request_unique z at.h h (drop len z) rest at.reads reads in
    two_answers cause asked (sym at.judged_is ∙ ap judged same.0 ∙ judge)
  where
    two_answers : (cause : Cause) (asked : Asked) → refusal cause ≡ asking asked → ⊥
    two_answers cause asked e = absurd (cc)
refused_head z rest h cause asked (inr (inl (is, hopeless))) reads short judge = not_hopeless z rest h reads hopeless
refused_head z rest h cause asked (inr (inr (is, long))) reads short judge = in_window z rest h reads short long.none

-- a refused head isn't waiting
refused_waits : (z : List ℕ) (cause : Cause) → IsRefused z cause → IsWaiting z → ⊥
refused_waits z cause (inl (len, at)) wait = wait.none at.h (drop len z) at.reads
refused_waits z cause (inr (inl (is, hopeless))) wait = wait.hopeful (subst IsHopeless (take-append-drop 8192 z) (hopeless_on (window z) (drop 8192 z) hopeless))
refused_waits z cause (inr (inr (is, long))) wait = let s = wait.short in let f = long.full in omega arith

-- a head is refused for one cause
refused_once : (z : List ℕ) (c d : Cause) → IsRefused z c → IsRefused z d → c ≡ d
refused_once z c d (inl (len, at)) (inl (len2, at2)) =
    let same = request_unique z at.h at2.h (drop len z) (drop len2 z) at.reads at2.reads in
    one_cause c d (sym at.judged_is ∙ ap judged same.0 ∙ at2.judged_is)
  where
    one_cause : (c d : Cause) → refusal c ≡ refusal d → c ≡ d
    one_cause c d e = cc
refused_once z c d (inl (len, at)) (inr (inl (is, hopeless))) = absurd (not_hopeless z (drop len z) at.h at.reads hopeless)
refused_once z c d (inl (len, at)) (inr (inr (is, long))) = absurd (in_window z (drop len z) at.h at.reads (short_at z len at.short at.fits) long.none)
refused_once z c d (inr (inl (is, hopeless))) (inl (len, at)) = absurd (not_hopeless z (drop len z) at.h at.reads hopeless)
refused_once z c d (inr (inr (is, long))) (inl (len, at)) = absurd (in_window z (drop len z) at.h at.reads (short_at z len at.short at.fits) long.none)
refused_once z c d (inr (inl (is, hopeless))) (inr (inl (is2, hopeless2))) = is ∙ sym is2
refused_once z c d (inr (inl (is, hopeless))) (inr (inr (is2, long))) = absurd (long.hopeful hopeless)
refused_once z c d (inr (inr (is, long))) (inr (inl (is2, hopeless))) = absurd (long.hopeful hopeless)
refused_once z c d (inr (inr (is, long))) (inr (inr (is2, long2))) = is ∙ sym is2

-- nothing but the end stands at the end
ended_only : (k : List ℕ) → place_after Ended k ≢ Failed → k ≡ []
ended_only [] fine = refl
ended_only (x ∷ k) fine = absurd (fine (failed_stays k))
  where
    failed_stays : (k : List ℕ) → place_after Failed k ≡ Failed
    failed_stays [] = refl
    failed_stays (x ∷ k) = failed_stays k

pub failed_stays : (k : List ℕ) → place_after Failed k ≡ Failed
failed_stays [] = refl
failed_stays (x ∷ k) = failed_stays k

same_kept : (a : Mode) (k l : List ℕ) → a ≡ in_head k → a ≡ in_head l → l ≡ k
same_kept a k l x y = cc

same_place : (a : Mode) (p q : Place) {j k : Bool} → a ≡ in_body p j → a ≡ in_body q k → q ≡ p
same_place a p q x y = cc

same_close : (a : Mode) {p q : Place} (j k : Bool) → a ≡ in_body p j → a ≡ in_body q k → k ≡ j
same_close a j k x y = cc

-- the bytes of a head in progress, with those that follow
kept_more : (a : Mode) (k l xs ys : List ℕ) → a ≡ in_head k → a ≡ in_head l → l ++ (xs ++ ys) ≡ (k ++ xs) ++ ys
kept_more a k l xs ys x y = ap (λ n. n ++ (xs ++ ys)) (same_kept a k l x y) ∙ sym (append_assoc k xs ys)

nothing_else : (us ws : List PartItem) → ws ≡ us → (vs : List PartItem) × (ws ≡ us ++ vs)
nothing_else us ws same = ([], same ∙ sym (append-nil us))

-- behind the end of a body the machine fails at any byte
over_front : (p : Place) (front k whole_ : List ℕ) → whole_ ≡ front ++ k → place_after p front ≡ Ended → place_after p whole_ ≢ Failed → k ≡ []
over_front p front k whole_ is stops fine = ended_only k (λ h. fine (ap (place_after p) is ∙ place_on p front k ∙ ap (λ (r : Place). place_after r k) stops ∙ h))

over_ended : (p : Place) (front k whole_ : List ℕ) → whole_ ≡ front ++ k → place_after p front ≡ Ended → place_after p whole_ ≢ Failed → place_after p whole_ ≡ Ended
over_ended p front k whole_ is stops fine =
    ap (place_after p) (is ∙ ap (λ n. front ++ n) (over_front p front k whole_ is stops fine) ∙ append-nil front) ∙ stops

fail_front : (p : Place) (front k whole_ : List ℕ) (x : ℕ) → whole_ ≡ front ++ x ∷ k → next_place (place_after p front) x ≡ Failed → place_after p whole_ ≡ Failed
fail_front p front k whole_ x is stops =
    ap (place_after p) is ∙ place_on p front (x ∷ k) ∙ ap (λ (r : Place). place_after r k) stops ∙ failed_stays k

-- a failure lies behind what hasn't failed: the other front is longer
longer : (p : Place) (a b front rest : List ℕ) (x : ℕ) → a ++ b ≡ front ++ x ∷ rest → next_place (place_after p front) x ≡ Failed → place_after p a ≢ Failed
    → (k : List ℕ) × (front ≡ a ++ k)
longer p a b front rest x same stops fine = go (split a b front (x ∷ rest) same)
  where
    go : ((k : List ℕ) × (front ≡ a ++ k) × (b ≡ k ++ (x ∷ rest))) ⊎ ((k : List ℕ) × (a ≡ front ++ k) × (x ∷ rest ≡ k ++ b)) → (k : List ℕ) × (front ≡ a ++ k)
    go (inl (k, is, tail)) = (k, is)
    go (inr ([], is, tail)) = ([], sym (is ∙ append-nil front) ∙ sym (append-nil a))
    go (inr (y ∷ k, is, tail)) = let e : y ≡ x = cc in absurd (fine (fail_front p front k a x (is ∙ ap (λ z. front ++ (z ∷ k)) e) stops))

body_joins : (p q : Place) (xs front k : List ℕ) (us ws tail : List PartItem) → q ≡ p → us ≡ data_items p xs → front ≡ xs ++ k → ws ≡ data_items q front ++ tail
    → (vs : List PartItem) × (ws ≡ us ++ vs)
body_joins p q xs front k us ws tail same said is gives = (
  data_items (place_after p xs) k ++ tail,
  gives ∙ ap (λ (r : Place). data_items r front ++ tail) same ∙ ap (λ f. data_items p f ++ tail) is ∙ ap (λ d. d ++ tail) (data_on p xs k)
      ∙ append_assoc (data_items p xs) (data_items (place_after p xs) k) tail ∙ ap (λ u. u ++ (data_items (place_after p xs) k ++ tail)) (sym said),
)

-- two ends of one body are one
same_front : (p : Place) (a b c d : List ℕ) → a ++ b ≡ c ++ d → place_after p a ≡ Ended → place_after p c ≡ Ended → (a ≡ c) × (b ≡ d)
same_front p a b c d same one two = go (split a b c d same)
  where
    go : ((k : List ℕ) × (c ≡ a ++ k) × (b ≡ k ++ d)) ⊎ ((k : List ℕ) × (a ≡ c ++ k) × (d ≡ k ++ b)) → (a ≡ c) × (b ≡ d)
    go (inl (k, is, tail)) = let none = over_front p a k c is one (λ h. absurd (cc (two, h))) in (sym (is ∙ ap (λ n. a ++ n) none ∙ append-nil a), tail ∙ ap (λ n. n ++ d) none)
    go (inr (k, is, tail)) = let none = over_front p c k a is two (λ h. absurd (cc (one, h))) in (is ∙ ap (λ n. c ++ n) none ∙ append-nil c, sym (tail ∙ ap (λ n. n ++ b) none))

-- no body both ends and fails
not_both : (p : Place) (a b front rest : List ℕ) (x : ℕ) → a ++ b ≡ front ++ x ∷ rest → place_after p a ≡ Ended
    → place_after p front ≢ Ended → place_after p front ≢ Failed → next_place (place_after p front) x ≡ Failed → ⊥
not_both p a b front rest x same one still fine stops =
    let l = longer p a b front rest x same stops (λ h. absurd (cc (one, h))) in
    still (over_ended p a l.0 front l.1 one fine)

-- a body that hasn't ended goes on beyond what the end of it needs
beyond : (p : Place) (xs ys front rest : List ℕ) → xs ++ ys ≡ front ++ rest → place_after p front ≡ Ended → place_after p xs ≢ Ended → place_after p xs ≢ Failed
    → (k : List ℕ) × (front ≡ xs ++ k)
beyond p xs ys front rest same stops still fine = go (split xs ys front rest same)
  where
    go : ((k : List ℕ) × (front ≡ xs ++ k) × (ys ≡ k ++ rest)) ⊎ ((k : List ℕ) × (xs ≡ front ++ k) × (rest ≡ k ++ ys)) → (k : List ℕ) × (front ≡ xs ++ k)
    go (inl (k, is, tail)) = (k, is)
    go (inr (k, is, tail)) = absurd (still (over_ended p front k xs is stops fine))

both_longer : (a b k l : List ℕ) → b ≡ a ++ k → a ≡ b ++ l → b ≡ a
both_longer a b [] l is was = is ∙ append-nil a
both_longer a b (x ∷ k) l is was =
    absurd (omega (arith, ap length is, ap length was, length-append a (x ∷ k), length-append b l))

at_place : (p q : Place) (front : List ℕ) (r : Place) → q ≡ p → place_after q front ≡ r → place_after p front ≡ r
at_place p q front r same is = ap (λ (n : Place). place_after n front) (sym same) ∙ is

same_asked : (j k : Asked) → asking j ≡ asking k → k ≡ j
same_asked j k e = cc

-- Law (front): what the front of the bytes gives begins what the bytes give.
pub front_law : (a b c : Mode) (xs ys : List ℕ) (us ws : List PartItem) → Reads a xs us b → Reads a (xs ++ ys) ws c → (vs : List PartItem) × (ws ≡ us ++ vs)
front_law a b c xs ys us ws (waiting a1 b1 xs1 us1 k1 is1 wait1 none1 last1) second = (ws, ap (λ u. u ++ ws) (sym none1))
front_law a b c xs ys us ws (refused a1 b1 xs1 us1 k1 cause1 is1 refuse1 said1 last1) (waiting a2 c2 zs ws2 k2 is2 wait2 none2 last2) =
    absurd (refused_waits _ cause1 (refused_on (k1 ++ xs) ys cause1 refuse1) (subst IsWaiting (kept_more a k1 k2 xs ys is1 is2) wait2))
front_law a b c xs ys us ws (refused a1 b1 xs1 us1 k1 cause1 is1 refuse1 said1 last1) (refused a2 c2 zs ws2 k2 cause2 is2 refuse2 said2 last2) =
    let z = kept_more a k1 k2 xs ys is1 is2 in
    let one = refused_once _ cause1 cause2 (refused_on (k1 ++ xs) ys cause1 refuse1) (subst (λ (b : List ℕ). IsRefused b cause2) z refuse2) in
    nothing_else us ws (said2 ∙ ap (λ (c : Cause). bad c ∷ []) (sym one) ∙ sym said1)
front_law a b c xs ys us ws (refused a1 b1 xs1 us1 k1 cause1 is1 refuse1 said1 last1) (whole a2 c2 zs ws2 k2 rest2 h2 asked2 others2 is2 reads2 short2 judge2 inner2 said2) =
    let z = kept_more a k1 k2 xs ys is1 is2 in
    absurd (refused_head _ rest2 h2 cause1 asked2 (refused_on (k1 ++ xs) ys cause1 refuse1) (subst (λ (b : List ℕ). ReadsRequest b h2 rest2) z reads2)
    (subst (λ (b : List ℕ). length b ≤ length rest2 + 8192) z short2) judge2)
front_law a b c xs ys us ws (refused a1 b1 xs1 us1 k1 cause1 is1 refuse1 said1 last1) (body a2 c2 zs ws2 place2 close2 is2 still2 fine2 said2 last2) = absurd (cc (is1, is2))
front_law a b c xs ys us ws (refused a1 b1 xs1 us1 k1 cause1 is1 refuse1 said1 last1) (stopped a2 c2 zs ws2 place2 close2 front2 rest2 others2 is2 splits2 stops2 inner2 said2) = absurd (cc (is1, is2))
front_law a b c xs ys us ws (refused a1 b1 xs1 us1 k1 cause1 is1 refuse1 said1 last1) (failed a2 c2 zs ws2 place2 close2 front2 x2 rest2 is2 splits2 still2 fine2 stops2 said2 last2) = absurd (cc (is1, is2))
front_law a b c xs ys us ws (refused a1 b1 xs1 us1 k1 cause1 is1 refuse1 said1 last1) (shut a2 c2 zs ws2 is2 none2 last2) = absurd (cc (is1, is2))
front_law a b c xs ys us ws (whole a1 b1 xs1 us1 k1 rest1 h1 asked1 others1 is1 reads1 short1 judge1 inner1 said1) (waiting a2 c2 zs ws2 k2 is2 wait2 none2 last2) =
    absurd (wait2.none h1 (rest1 ++ ys) (subst (λ (b : List ℕ). ReadsRequest b h1 (rest1 ++ ys)) (sym (kept_more a k1 k2 xs ys is1 is2))
    (ReadsRequest-append (k1 ++ xs) h1 rest1 ys reads1)))
front_law a b c xs ys us ws (whole a1 b1 xs1 us1 k1 rest1 h1 asked1 others1 is1 reads1 short1 judge1 inner1 said1) (refused a2 c2 zs ws2 k2 cause2 is2 refuse2 said2 last2) =
    let z = kept_more a k1 k2 xs ys is1 is2 in
    absurd (refused_head _ (rest1 ++ ys) h1 cause2 asked1 (subst (λ (b : List ℕ). IsRefused b cause2) z refuse2) (ReadsRequest-append (k1 ++ xs) h1 rest1 ys reads1)
    (omega (arith, short1, length-append (k1 ++ xs) ys, length-append rest1 ys)) judge1)
front_law a b c xs ys us ws (whole a1 b1 xs1 us1 k1 rest1 h1 asked1 others1 is1 reads1 short1 judge1 inner1 said1) (whole a2 c2 zs ws2 k2 rest2 h2 asked2 others2 is2 reads2 short2 judge2 inner2 said2) =
    let z = kept_more a k1 k2 xs ys is1 is2 in
    let same = request_unique _ h1 h2 (rest1 ++ ys) rest2 (ReadsRequest-append (k1 ++ xs) h1 rest1 ys reads1) (subst (λ (b : List ℕ). ReadsRequest b h2 rest2) z reads2) in
    let one : asked2 ≡ asked1 = same_asked asked1 asked2 (sym judge1 ∙ ap judged same.0 ∙ judge2) in
    let next : Reads (behind_head asked1) (rest1 ++ ys) others2 c
    = subst (λ (b : List ℕ). Reads (behind_head asked1) b others2 c) (sym same.1) (subst (λ (k : Asked). Reads (behind_head k) rest2 others2 c) one inner2) in
    let below = front_law _ b c rest1 ys others1 others2 inner1 next in (
      below.0,
      said2 ∙ ap (λ (k : Asked). opening k ++ others2) one ∙ ap (λ o. opening asked1 ++ o) below.1 ∙ sym (append_assoc (opening asked1) others1 below.0)
          ∙ ap (λ u. u ++ below.0) (sym said1),
    )
front_law a b c xs ys us ws (whole a1 b1 xs1 us1 k1 rest1 h1 asked1 others1 is1 reads1 short1 judge1 inner1 said1) (body a2 c2 zs ws2 place2 close2 is2 still2 fine2 said2 last2) = absurd (cc (is1, is2))
front_law a b c xs ys us ws (whole a1 b1 xs1 us1 k1 rest1 h1 asked1 others1 is1 reads1 short1 judge1 inner1 said1) (stopped a2 c2 zs ws2 place2 close2 front2 rest2 others2 is2 splits2 stops2 inner2 said2) = absurd (cc (is1, is2))
front_law a b c xs ys us ws (whole a1 b1 xs1 us1 k1 rest1 h1 asked1 others1 is1 reads1 short1 judge1 inner1 said1) (failed a2 c2 zs ws2 place2 close2 front2 x2 rest2 is2 splits2 still2 fine2 stops2 said2 last2) = absurd (cc (is1, is2))
front_law a b c xs ys us ws (whole a1 b1 xs1 us1 k1 rest1 h1 asked1 others1 is1 reads1 short1 judge1 inner1 said1) (shut a2 c2 zs ws2 is2 none2 last2) = absurd (cc (is1, is2))
front_law a b c xs ys us ws (body a1 b1 xs1 us1 place1 close1 is1 still1 fine1 said1 last1) (waiting a2 c2 zs ws2 k2 is2 wait2 none2 last2) = absurd (cc (is1, is2))
front_law a b c xs ys us ws (body a1 b1 xs1 us1 place1 close1 is1 still1 fine1 said1 last1) (refused a2 c2 zs ws2 k2 cause2 is2 refuse2 said2 last2) = absurd (cc (is1, is2))
front_law a b c xs ys us ws (body a1 b1 xs1 us1 place1 close1 is1 still1 fine1 said1 last1) (whole a2 c2 zs ws2 k2 rest2 h2 asked2 others2 is2 reads2 short2 judge2 inner2 said2) = absurd (cc (is1, is2))
front_law a b c xs ys us ws (body a1 b1 xs1 us1 place1 close1 is1 still1 fine1 said1 last1) (body a2 c2 zs ws2 place2 close2 is2 still2 fine2 said2 last2) =
    let same = same_place a place1 place2 is1 is2 in body_joins place1 place2 xs (xs ++ ys) ys us ws [] same said1 refl (said2 ∙ sym (append-nil _))
front_law a b c xs ys us ws (body a1 b1 xs1 us1 place1 close1 is1 still1 fine1 said1 last1) (stopped a2 c2 zs ws2 place2 close2 front2 rest2 others2 is2 splits2 stops2 inner2 said2) = let same = same_place a place1 place2 is1 is2 in
    let l = beyond place1 xs ys front2 rest2 splits2 (at_place place1 place2 front2 Ended same stops2) still1 fine1 in
    body_joins place1 place2 xs front2 l.0 us ws (ended close2 ∷ others2) same said1 l.1 said2
front_law a b c xs ys us ws (body a1 b1 xs1 us1 place1 close1 is1 still1 fine1 said1 last1) (failed a2 c2 zs ws2 place2 close2 front2 x2 rest2 is2 splits2 still2 fine2 stops2 said2 last2) = let same = same_place a place1 place2 is1 is2 in
    let l = longer place1 xs ys front2 rest2 x2 splits2 (ap (λ (n : Place). next_place (place_after n front2) x2) (sym same) ∙ stops2) fine1 in
    body_joins place1 place2 xs front2 l.0 us ws (bad BadChunk ∷ []) same said1 l.1 said2
front_law a b c xs ys us ws (body a1 b1 xs1 us1 place1 close1 is1 still1 fine1 said1 last1) (shut a2 c2 zs ws2 is2 none2 last2) = absurd (cc (is1, is2))
front_law a b c xs ys us ws (stopped a1 b1 xs1 us1 place1 close1 front1 rest1 others1 is1 splits1 stops1 inner1 said1) (waiting a2 c2 zs ws2 k2 is2 wait2 none2 last2) = absurd (cc (is1, is2))
front_law a b c xs ys us ws (stopped a1 b1 xs1 us1 place1 close1 front1 rest1 others1 is1 splits1 stops1 inner1 said1) (refused a2 c2 zs ws2 k2 cause2 is2 refuse2 said2 last2) = absurd (cc (is1, is2))
front_law a b c xs ys us ws (stopped a1 b1 xs1 us1 place1 close1 front1 rest1 others1 is1 splits1 stops1 inner1 said1) (whole a2 c2 zs ws2 k2 rest2 h2 asked2 others2 is2 reads2 short2 judge2 inner2 said2) = absurd (cc (is1, is2))
front_law a b c xs ys us ws (stopped a1 b1 xs1 us1 place1 close1 front1 rest1 others1 is1 splits1 stops1 inner1 said1) (body a2 c2 zs ws2 place2 close2 is2 still2 fine2 said2 last2) =
    let same = same_place a place1 place2 is1 is2 in
    let joins : xs ++ ys ≡ front1 ++ (rest1 ++ ys) = ap (λ n. n ++ ys) splits1 ∙ append_assoc front1 rest1 ys in
    absurd (still2 (ap (λ (n : Place). place_after n (xs ++ ys)) same ∙ over_ended place1 front1 (rest1 ++ ys) (xs ++ ys) joins stops1 (λ h. fine2 (ap (λ (n : Place). place_after n (xs ++ ys)) same ∙ h))))
front_law a b c xs ys us ws (stopped a1 b1 xs1 us1 place1 close1 front1 rest1 others1 is1 splits1 stops1 inner1 said1) (stopped a2 c2 zs ws2 place2 close2 front2 rest2 others2 is2 splits2 stops2 inner2 said2) =
    let same = same_place a place1 place2 is1 is2 in
    let joins : xs ++ ys ≡ front1 ++ (rest1 ++ ys) = ap (λ n. n ++ ys) splits1 ∙ append_assoc front1 rest1 ys in
    let fronts = same_front place1 front1 (rest1 ++ ys) front2 rest2 (sym joins ∙ splits2) stops1 (at_place place1 place2 front2 Ended same stops2) in
    let one = same_close a close1 close2 is1 is2 in
    let next : Reads (behind_item close1) (rest1 ++ ys) others2 c
    = subst (λ (n : List ℕ). Reads (behind_item close1) n others2 c) (sym fronts.1) (subst (λ (k : Bool). Reads (behind_item k) rest2 others2 c) one inner2) in
    let below = front_law _ b c rest1 ys others1 others2 inner1 next in (
      below.0,
      said2 ∙ ap (λ (n : Place). data_items n front2 ++ (ended close2 ∷ others2)) same ∙ ap (λ f. data_items place1 f ++ (ended close2 ∷ others2)) (sym fronts.0)
          ∙ ap (λ (k : Bool). data_items place1 front1 ++ (ended k ∷ others2)) one
          ∙ ap (λ o. data_items place1 front1 ++ (ended close1 ∷ o)) below.1 ∙ sym (append_assoc (data_items place1 front1) (ended close1 ∷ others1) below.0) ∙ ap (λ u. u ++ below.0) (sym said1),
    )
front_law a b c xs ys us ws (stopped a1 b1 xs1 us1 place1 close1 front1 rest1 others1 is1 splits1 stops1 inner1 said1) (failed a2 c2 zs ws2 place2 close2 front2 x2 rest2 is2 splits2 still2 fine2 stops2 said2 last2) =
    let same = same_place a place1 place2 is1 is2 in
    let joins : xs ++ ys ≡ front1 ++ (rest1 ++ ys) = ap (λ n. n ++ ys) splits1 ∙ append_assoc front1 rest1 ys in
    absurd (not_both place1 front1 (rest1 ++ ys) front2 rest2 x2 (sym joins ∙ splits2) stops1
    (λ h. still2 (ap (λ (n : Place). place_after n front2) same ∙ h)) (λ h. fine2 (ap (λ (n : Place). place_after n front2) same ∙ h)) (ap (λ (n : Place). next_place (place_after n front2) x2) (sym same) ∙ stops2))
front_law a b c xs ys us ws (stopped a1 b1 xs1 us1 place1 close1 front1 rest1 others1 is1 splits1 stops1 inner1 said1) (shut a2 c2 zs ws2 is2 none2 last2) = absurd (cc (is1, is2))
front_law a b c xs ys us ws (failed a1 b1 xs1 us1 place1 close1 front1 x1 rest1 is1 splits1 still1 fine1 stops1 said1 last1) (waiting a2 c2 zs ws2 k2 is2 wait2 none2 last2) = absurd (cc (is1, is2))
front_law a b c xs ys us ws (failed a1 b1 xs1 us1 place1 close1 front1 x1 rest1 is1 splits1 still1 fine1 stops1 said1 last1) (refused a2 c2 zs ws2 k2 cause2 is2 refuse2 said2 last2) = absurd (cc (is1, is2))
front_law a b c xs ys us ws (failed a1 b1 xs1 us1 place1 close1 front1 x1 rest1 is1 splits1 still1 fine1 stops1 said1 last1) (whole a2 c2 zs ws2 k2 rest2 h2 asked2 others2 is2 reads2 short2 judge2 inner2 said2) = absurd (cc (is1, is2))
front_law a b c xs ys us ws (failed a1 b1 xs1 us1 place1 close1 front1 x1 rest1 is1 splits1 still1 fine1 stops1 said1 last1) (body a2 c2 zs ws2 place2 close2 is2 still2 fine2 said2 last2) =
    let same = same_place a place1 place2 is1 is2 in
    let joins : xs ++ ys ≡ front1 ++ (x1 ∷ (rest1 ++ ys)) = ap (λ n. n ++ ys) splits1 ∙ append_assoc front1 (x1 ∷ rest1) ys in
    absurd (fine2 (ap (λ (n : Place). place_after n (xs ++ ys)) same ∙ fail_front place1 front1 (rest1 ++ ys) (xs ++ ys) x1 joins stops1))
front_law a b c xs ys us ws (failed a1 b1 xs1 us1 place1 close1 front1 x1 rest1 is1 splits1 still1 fine1 stops1 said1 last1) (stopped a2 c2 zs ws2 place2 close2 front2 rest2 others2 is2 splits2 stops2 inner2 said2) =
    let same = same_place a place1 place2 is1 is2 in
    let joins : xs ++ ys ≡ front1 ++ (x1 ∷ (rest1 ++ ys)) = ap (λ n. n ++ ys) splits1 ∙ append_assoc front1 (x1 ∷ rest1) ys in
    absurd (not_both place1 front2 rest2 front1 (rest1 ++ ys) x1 (sym splits2 ∙ joins) (at_place place1 place2 front2 Ended same stops2) still1 fine1 stops1)
front_law a b c xs ys us ws (failed a1 b1 xs1 us1 place1 close1 front1 x1 rest1 is1 splits1 still1 fine1 stops1 said1 last1) (failed a2 c2 zs ws2 place2 close2 front2 x2 rest2 is2 splits2 still2 fine2 stops2 said2 last2) =
    let same = same_place a place1 place2 is1 is2 in
    let joins : xs ++ ys ≡ front1 ++ (x1 ∷ (rest1 ++ ys)) = ap (λ n. n ++ ys) splits1 ∙ append_assoc front1 (x1 ∷ rest1) ys in
    let l = longer place1 front1 (x1 ∷ (rest1 ++ ys)) front2 rest2 x2 (sym joins ∙ splits2) (ap (λ (n : Place). next_place (place_after n front2) x2) (sym same) ∙ stops2) fine1 in
    let m = longer place1 front2 (x2 ∷ rest2) front1 (rest1 ++ ys) x1 (sym splits2 ∙ joins) stops1 (λ h. fine2 (ap (λ (n : Place). place_after n front2) same ∙ h)) in
    let one : front2 ≡ front1 = both_longer front1 front2 l.0 m.0 l.1 m.1 in
    nothing_else us ws (said2 ∙ ap (λ (n : Place). data_items n front2 ++ (bad BadChunk ∷ [])) same ∙ ap (λ f. data_items place1 f ++ (bad BadChunk ∷ [])) one ∙ sym said1)
front_law a b c xs ys us ws (failed a1 b1 xs1 us1 place1 close1 front1 x1 rest1 is1 splits1 still1 fine1 stops1 said1 last1) (shut a2 c2 zs ws2 is2 none2 last2) = absurd (cc (is1, is2))
front_law a b c xs ys us ws (shut a1 b1 xs1 us1 is1 none1 last1) (waiting a2 c2 zs ws2 k2 is2 wait2 none2 last2) = absurd (cc (is1, is2))
front_law a b c xs ys us ws (shut a1 b1 xs1 us1 is1 none1 last1) (refused a2 c2 zs ws2 k2 cause2 is2 refuse2 said2 last2) = absurd (cc (is1, is2))
front_law a b c xs ys us ws (shut a1 b1 xs1 us1 is1 none1 last1) (whole a2 c2 zs ws2 k2 rest2 h2 asked2 others2 is2 reads2 short2 judge2 inner2 said2) = absurd (cc (is1, is2))
front_law a b c xs ys us ws (shut a1 b1 xs1 us1 is1 none1 last1) (body a2 c2 zs ws2 place2 close2 is2 still2 fine2 said2 last2) = absurd (cc (is1, is2))
front_law a b c xs ys us ws (shut a1 b1 xs1 us1 is1 none1 last1) (stopped a2 c2 zs ws2 place2 close2 front2 rest2 others2 is2 splits2 stops2 inner2 said2) = absurd (cc (is1, is2))
front_law a b c xs ys us ws (shut a1 b1 xs1 us1 is1 none1 last1) (failed a2 c2 zs ws2 place2 close2 front2 x2 rest2 is2 splits2 still2 fine2 stops2 said2 last2) = absurd (cc (is1, is2))
front_law a b c xs ys us ws (shut a1 b1 xs1 us1 is1 none1 last1) (shut a2 c2 zs ws2 is2 none2 last2) = nothing_else us ws (none2 ∙ sym none1)
