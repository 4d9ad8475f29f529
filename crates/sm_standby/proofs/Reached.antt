-- A standby reaches all that its primary had, where the manifest led to it.
use Rattle.std.proofs.Common.{◌≡◌, ◌⊎◌, ◌<◌, ◌≤◌, ◌+◌, ◌||◌, ℕ, zero, suc, true, false, cond, eqb, List, [], ◌∷◌, ◌++◌, length, length-append, slice_get, Option, Some, None, refl, ap, sym, ◌∙◌, subst, append_assoc, arith, inl, inr, ⊎_elim}
use Rattle.std.specs.Prelude.{All, Contains, is_some}
use Rattle.std.specs.List.{AllByRecursion}
use Rattle.std.proofs.lemmas.Bool.{eqb-true, eq-eqb, cases_lt}
use Rattle.std.proofs.lemmas.Option.{slice_get_within}
use Rattle.sm_model.specs.declared.address.Address.{Address}
use Rattle.sm_model.specs.declared.entry.Entry.{Entry}
use Rattle.sm_model.specs.declared.entry.Entry.TheVariants.{Declare, Keep}
use Rattle.sm_model.specs.declared.fragment.Fragment.{Fragment}
use Rattle.sm_model.specs.declared.track.Track.{Track}
use Rattle.sm_model.specs.Channels.{IsNarrowTrack}
use Rattle.sm_model.specs.Entries.{address_of}
use Rattle.sm_log.specs.Logs.{kept_at, FitsBehind, IsSound}
use Rattle.sm_log.proofs.AllLogs.{kept_stays, kept_once}
use Rattle.sm_log.proofs.ListedKept.{kept_address}
use Rattle.sm_manin.specs.declared.listing.Listing.{Listing}
use Rattle.sm_fetch.specs.declared.dial.Exchange.{Exchange}
use Rattle.sm_fetch.specs.Spelt.{given}
use Rattle.sm_client.specs.Origins.{again}
use Rattle.sm_client.specs.Served.{AnsweredBy, IsPlace}
use Rattle.sm_pull.specs.declared.plan.PullPlan.{PullPlan}
use Rattle.sm_pull.specs.Adds.{keeps_of}
use Rattle.sm_standby.specs.declared.held.Later.{Later}
use Rattle.sm_standby.specs.Turns as turns
use Rattle.sm_standby.specs.Turns.{Whose, candidate, again as anew, Came, absent, kept, later, dropped, Turn, passed, asked, Standing, IsPassed, MayTurn, kept_by, waits_by, behind, after, Turns, made_in}
use Rattle.sm_standby.specs.Waiting.{due, is_of, waits, without}
use Rattle.sm_standby.proofs.InStep.{HeldIs, InStep, due_has, CameIs, CameAt, turn_came, turn_in}
use Rattle.sm_standby.proofs.Logs.{kept_there, one_place, after_log}
use Rattle.sm_standby.proofs.Opens.{by_bool, is_of-same}
use Rattle.sm_pull.proofs.Moments.{answered_split, answered_grows}

-- ---- members

abbrev pub IsIn : Address → List Address → Type 0
IsIn a [] = ⊥
IsIn a (b ∷ more) = (b ≡ a) ⊎ IsIn a more

pub in_of : (xs : List Address) (a : Address) → Contains xs a → IsIn a xs
in_of [] a (k, lt, e) = absurd (omega (arith, lt))
in_of (b ∷ more) a (zero, lt, e) = inl e
in_of (b ∷ more) a (suc k, lt, e) = inr (in_of more a (k, omega (arith, lt), e))

in_behind : (a b : Address) (rest more : List Address) → rest ≡ b ∷ more → IsIn a more → IsIn a (behind rest)
in_behind a b rest more is there = subst (IsIn a) (sym (ap behind is)) there

abbrev pub HasPlace : ℕ → List Later → Type 0
HasPlace p [] = ⊥
HasPlace p (l ∷ more) = (l.place ≡ p) ⊎ HasPlace p more

place_more : (p : ℕ) (xs ys : List Later) → HasPlace p xs → HasPlace p (xs ++ ys)
place_more p [] ys h = absurd h
place_more p (x ∷ xs) ys (inl is) = inl is
place_more p (x ∷ xs) ys (inr h) = inr (place_more p xs ys h)

place_push : (p : ℕ) (xs : List Later) (l : Later) → l.place ≡ p → HasPlace p (xs ++ l ∷ [])
place_push p [] l is = inl is
place_push p (x ∷ xs) l is = inr (place_push p xs l is)

place_without : (p n : ℕ) (ls : List Later) → (p ≡ n → ⊥) → HasPlace p ls → HasPlace p (without n ls)
place_without p n [] other h = absurd h
place_without p n (l ∷ more) other (inl is) =
    by_bool (eqb l.place n) (λ b. eqb l.place n ≡ b → HasPlace p (cond b more (l ∷ without n more))) (λ t same. absurd (other (sym is ∙ eqb-true l.place n same))) (λ f same. inl is) refl
place_without p n (l ∷ more) other (inr h) =
    by_bool (eqb l.place n) (λ b. HasPlace p (cond b more (l ∷ without n more))) (λ t. h) (λ f. inr (place_without p n more other h))

none_due : (n : ℕ) (ls : List Later) → due n ls ≡ None → HasPlace n ls → ⊥
none_due n [] d h = h
none_due n (l ∷ more) d h =
    by_bool (eqb l.place n) (λ b. eqb l.place n ≡ b → ◌≡◌ {A = Option Later} (cond b (Some l) (due n more)) None → HasPlace n (l ∷ more) → ⊥)
    (λ t is e there. cc)
    (λ f is e there. ⊎_elim (λ here. no_test (sym is ∙ eq-eqb l.place n here)) (λ behind'. none_due n more e behind') there) refl d h
  where
    no_test : false ≡ true → ⊥
    no_test e = cc

due_place : (n : ℕ) (ls : List Later) (l : Later) → due n ls ≡ Some l → l.place ≡ n
due_place n [] l d = absurd (cc)
due_place n (k ∷ more) l d =
    by_bool (eqb k.place n) (λ b. eqb k.place n ≡ b → cond b (Some k) (due n more) ≡ Some l → l.place ≡ n)
    (λ t is e. let same : k ≡ l = cc in ap (λ (x : Later). x.place) (sym same) ∙ eqb-true k.place n is) (λ f is e. due_place n more l e) refl d

-- what waits at an address, with its place
waiting : (P : Later → Type 0) (a : Address) (ls : List Later) → AllByRecursion P ls → waits a ls ≡ true → (l : Later) × P l × (l.address ≡ a) × HasPlace l.place ls
waiting P a [] all w = absurd (cc)
waiting P a (l ∷ more) all w =
    by_bool (is_of a l.address) (λ b. is_of a l.address ≡ b → (b || waits a more) ≡ true → (k : Later) × P k × (k.address ≡ a) × HasPlace k.place (l ∷ more))
    (λ t is h. (l, all.0, sym (is_of-same a l.address is), inl refl)) (λ f is h. let r = waiting P a more all.1 h in (r.0, r.1, r.2, inr r.3)) refl w

-- ---- one place an address

get_split : (xs : List Entry) (i : ℕ) (x : Entry) → slice_get xs i ≡ Some x → (front : List Entry) × (back : List Entry) × (xs ≡ front ++ x ∷ back) × (length front ≡ i)
get_split [] i x e = absurd (cc)
get_split (y ∷ ys) zero x e = let same : y ≡ x = cc in ([], ys, ap (λ (z : Entry). z ∷ ys) same, refl)
get_split (y ∷ ys) (suc i) x e = let r = get_split ys i x e in (y ∷ r.0, r.1, ap (λ (zs : List Entry). y ∷ zs) r.2, ap suc r.3)

get_back : (xs ys : List Entry) (i : ℕ) (x : Entry) → i < length xs → slice_get (xs ++ ys) i ≡ Some x → slice_get xs i ≡ Some x
get_back [] ys i x lt e = absurd (omega (arith, lt))
get_back (z ∷ xs) ys zero x lt e = e
get_back (z ∷ xs) ys (suc i) x lt e = get_back xs ys i x (omega (arith, lt)) e

get_some : (xs : List Entry) (i : ℕ) → i < length xs → (x : Entry) × (slice_get xs i ≡ Some x)
get_some [] i lt = absurd (omega (arith, lt))
get_some (x ∷ xs) zero lt = (x, refl)
get_some (x ∷ xs) (suc i) lt = get_some xs i (omega (arith, lt))

there_kept : (log : List Entry) (p : ℕ) (f : Fragment) → IsSound log → slice_get log p ≡ Some (Keep f) → kept_at log (address_of f) ≡ Some (p, f)
there_kept log p f sound e =
    let s = get_split log p (Keep f) e in
    subst (λ (l : List Entry). kept_at l (address_of f) ≡ Some (p, f)) (sym s.2)
    (kept_once s.0 s.1 f (subst IsSound s.2 sound) ∙ ap (λ (n : ℕ). Some (n, f)) s.3)

no_kept : (k : ℕ × Fragment) (o : Option (ℕ × Fragment)) → o ≡ None → o ≡ Some k → ⊥
no_kept k o none some = let e : None ≡ Some k = sym none ∙ some in cc

-- ---- what is left

-- each fragment of this log, from the standby's next place on, has a candidate whose turn has yet to come, or waits for its place
abbrev pub IsLeft : List Entry → Standing → Type 0
IsLeft moment s = (p : ℕ) (f : Fragment) → slice_get moment p ≡ Some (Keep f) → length s.log ≤ p → IsIn (address_of f) s.rest ⊎ HasPlace p s.held

many : (fs : List Fragment) → length (keeps_of fs) ≡ length fs
many [] = refl
many (f ∷ fs) = ap suc (many fs)

pub some_kept : (o : Option (ℕ × Fragment)) → is_some o ≡ true → (k : ℕ × Fragment) × (o ≡ Some k)
some_kept None e = absurd (cc)
some_kept (Some k) e = (k, refl)

module _ (plan : PullPlan) (up : List Track) (place_is : IsPlace plan.place) (narrow : All IsNarrowTrack up) (names : AllByRecursion (λ (t : Track). All (λ b. b < 256) t.name) up) (channel : List Track)
    (listing : Listing) (moment : List Entry) (listing_is : listing ≡ again up moment) (sound : IsSound moment) where
  -- a log that goes on from it keeps the same there
  still : (log more : List Entry) (p : ℕ) (f : Fragment) → log ≡ moment ++ more → slice_get moment p ≡ Some (Keep f) → kept_at log (address_of f) ≡ Some (p, f)
  still log more p f is e =
      subst (λ (l : List Entry). kept_at l (address_of f) ≡ Some (p, f)) (sym is) (kept_stays (address_of f) 0 moment more (p, f) (there_kept moment p f sound e))

  -- what the log has there has this place
  one : (log more : List Entry) (a : Address) (n p : ℕ) (g f : Fragment) → log ≡ moment ++ more → a ≡ address_of f → slice_get moment p ≡ Some (Keep f) → kept_at log a ≡ Some (n, g) → n ≡ p
  one log more a n p g f is same e k =
      one_place n p g f (sym k ∙ (ap (λ (b : Address). kept_at log b) same ∙ still log more p f is e))

  -- an address that was passed over isn't that of a fragment from the next place on, unless it waits
  passed_left : (log more : List Entry) (s : Standing) (a : Address) (p : ℕ) (f : Fragment) → InStep up log s → log ≡ moment ++ more → IsPassed s a → slice_get moment p ≡ Some (Keep f) → length s.log ≤ p
      → a ≡ address_of f → HasPlace p s.held
  passed_left log more s a p f i is may e le same =
      by_bool (is_some (kept_at s.log a)) (λ b. is_some (kept_at s.log a) ≡ b → (b || waits a s.held) ≡ true → HasPlace p s.held)
      (λ t there h.
      let k = some_kept (kept_at s.log a) there in
      let own = kept_there s.log a k.0.0 k.0.1 k.1 in
      let low = slice_get_within s.log k.0.0 (Keep k.0.1) own in
      let within = slice_get_within moment p (Keep f) e in
      let here : slice_get moment k.0.0 ≡ Some (Keep k.0.1) =
      get_back moment more k.0.0 (Keep k.0.1) (omega (arith, low, le, within)) (ap (λ (l : List Entry). slice_get l k.0.0) (sym is) ∙ i.places k.0.0 k.0.1 own) in
      let named = kept_address s.log a k.0.0 k.0.1 k.1 in
      let both = there_kept moment k.0.0 k.0.1 sound here in
      let place : k.0.0 ≡ p = one_place k.0.0 p k.0.1 f (sym both ∙ (ap (λ (b : Address). kept_at moment b) (named ∙ same) ∙ there_kept moment p f sound e)) in
      absurd (omega (arith, low, le, place)))
      (λ t there h.
      let w = waiting (HeldIs up log) a s.held i.held h in
      let place = one log more w.0.address w.0.place p w.1.fragment f is (w.2 ∙ same) e w.1.kept in
      subst (λ (n : ℕ). HasPlace n s.held) place w.3) refl may.there

  -- nor is one that was asked for, unless it waits now
  asked_left : (log more : List Entry) (next : ℕ) (a : Address) (c : Came) (held : List Later) (p : ℕ) (f : Fragment) → log ≡ moment ++ more → CameIs log a c
      → turns.FitsPlace (candidate a) next c → slice_get moment p ≡ Some (Keep f) → next + length (kept_by a c) ≤ p → a ≡ address_of f → HasPlace p (held ++ waits_by a c)
  asked_left log more next a absent held p f is came fits e le same = absurd (no_kept (p, f) (kept_at log a) came (ap (λ (b : Address). kept_at log b) same ∙ still log more p f is e))
  asked_left log more next a (kept n raw) held p f is came fits e le same =
      let place = one log more a n p (given a.stream a.bitrate raw) f is same e came in absurd (omega (arith, le, fits, place))
  asked_left log more next a (later n raw) held p f is came fits e le same =
      place_push p held (record { place = n; address = a }) (one log more a n p (given a.stream a.bitrate raw) f is same e came)
  asked_left log more next a (dropped n raw) held p f is came fits e le same =
      let place = one log more a n p (given a.stream a.bitrate raw) f is same e came in absurd (omega (arith, le, fits, place))

  long_keeps : (s : Standing) (who : Whose) (made : List Exchange) (c : Came) → length (after s (asked who made c)).log ≡ length s.log + length (kept_by (turns.address_for who) c)
  long_keeps s who made c =
      ap length (after_log s who made c)
      ∙ (length-append s.log (keeps_of (kept_by (turns.address_for who) c)) ∙ ap (λ (n : ℕ). length s.log + n) (many (kept_by (turns.address_for who) c)))

  turn_left : (log last more : List Entry) (s : Standing) (t : Turn) → InStep up log s → log ≡ moment ++ more → MayTurn plan channel listing s t → AnsweredBy up log (turns.made_by t) last
      → IsLeft moment s → IsLeft moment (after s t)
  turn_left log last more s (passed a) i is may answered left = λ p f e le.
      ⊎_elim
      (λ there.
      let first = may.first in
      by_head p f e le (subst (IsIn (address_of f)) first.1 there))
      (λ waiting'. inr waiting') (left p f e le)
    where
      by_head : (p : ℕ) (f : Fragment) → slice_get moment p ≡ Some (Keep f) → length s.log ≤ p → IsIn (address_of f) (a ∷ may.first.0) → IsIn (address_of f) (behind s.rest) ⊎ HasPlace p s.held
      by_head p f e le (inl same) = inr (passed_left log more s a p f i is may e le same)
      by_head p f e le (inr there) = inl (in_behind (address_of f) a s.rest may.first.0 may.first.1 there)
  turn_left log last more s (asked (candidate a) made c) i is may answered left = λ p f e le.
      let long = long_keeps s (candidate a) made c in
      ⊎_elim (λ there. by_head p f e (omega (arith, le, long)) (subst (IsIn (address_of f)) may.turn.1.1 there)) (λ waiting'. inr (place_more p s.held (waits_by a c) waiting'))
      (left p f e (omega (arith, le, long)))
    where
      came : CameAt up log last a c
      came = turn_came plan up place_is narrow names channel listing moment listing_is log last s (candidate a) made c i may.turn may.gives answered

      on : came.moment ≡ moment ++ (more ++ came.since)
      on = came.moment_is ∙ (ap (λ (l : List Entry). l ++ came.since) is ∙ append_assoc moment more came.since)

      by_head : (p : ℕ) (f : Fragment) → slice_get moment p ≡ Some (Keep f) → length s.log + length (kept_by a c) ≤ p → IsIn (address_of f) (a ∷ may.turn.1.0)
          → IsIn (address_of f) (behind s.rest) ⊎ HasPlace p (s.held ++ waits_by a c)
      by_head p f e le (inl same) = inr (asked_left came.moment (more ++ came.since) (length s.log) a c s.held p f on came.came may.fits e le same)
      by_head p f e le (inr there) = inl (in_behind (address_of f) a s.rest may.turn.1.0 may.turn.1.1 there)
  turn_left log last more s (asked (anew l) made c) i is may answered left = λ p f e le.
      let long = long_keeps s (anew l) made c in
      ⊎_elim (λ there. inl there) (λ waiting'. inr (place_without p (length s.log) s.held (λ same. again_left p c long le same came.came may.fits) waiting')) (left p f e (omega (arith, le, long)))
    where
      came : CameAt up log last l.address c
      came = turn_came plan up place_is narrow names channel listing moment listing_is log last s (anew l) made c i may.turn may.gives answered

      h : HeldIs up log l
      h = due_has (HeldIs up log) (length s.log) s.held l i.held may.turn

      there : kept_at came.moment l.address ≡ Some (l.place, h.fragment)
      there = subst (λ (m : List Entry). kept_at m l.address ≡ Some (l.place, h.fragment)) (sym came.moment_is) (kept_stays l.address 0 log came.since (l.place, h.fragment) h.kept)

      again_left : (p : ℕ) (c : Came) → length (after s (asked (anew l) made c)).log ≡ length s.log + length (kept_by l.address c) → length (after s (asked (anew l) made c)).log ≤ p → p ≡ length s.log
          → CameIs came.moment l.address c → turns.FitsPlace (anew l) (length s.log) c → ⊥
      again_left p absent long le same is' fits = no_kept (l.place, h.fragment) (kept_at came.moment l.address) is' there
      again_left p (kept n raw) long le same is' fits = omega (arith, long, le, same)
      again_left p (later n raw) long le same is' fits = fits
      again_left p (dropped n raw) long le same is' fits = fits (one_place n l.place (given l.address.stream l.address.bitrate raw) h.fragment (sym is' ∙ there) ∙ due_place (length s.log) s.held l may.turn)

  pub turns_left : (log last more : List Entry) (s e : Standing) (ts : List Turn) → InStep up log s → log ≡ moment ++ more → Turns plan channel listing s ts e → AnsweredBy up log (made_in ts) last
      → IsLeft moment s → IsLeft moment e
  turns_left log last more s e [] i is legal answered left = subst (IsLeft moment) legal left
  turns_left log last more s e (t ∷ ts) i is legal answered left =
      let r = answered_split up log last (turns.made_by t) (made_in ts) answered in
      let g = answered_grows up log r.0 (turns.made_by t) r.1 in
      turns_left r.0 last (more ++ g.0) (after s t) e ts (turn_in plan up place_is narrow names channel listing moment listing_is log r.0 s t i legal.0 r.1)
      (g.1 ∙ (ap (λ (l : List Entry). l ++ g.0) is ∙ append_assoc moment more g.0)) legal.1 r.2 (turn_left log r.0 more s t i is legal.0 r.1 left)

  -- where no turn has yet to come, and nothing waits for the next place, nothing is left
  pub nothing_left : (s : Standing) → s.rest ≡ [] → due (length s.log) s.held ≡ None → 0 < length s.log → IsLeft moment s → length moment ≤ length s.log
  nothing_left s none nothing some left =
      ⊎_elim (λ lt. absurd (let x = get_some moment (length s.log) lt in by_entry x.0 x.1)) (λ ge. ge) (cases_lt (length s.log) (length moment))
    where
      by_left : (f : Fragment) → IsIn (address_of f) s.rest ⊎ HasPlace (length s.log) s.held → ⊥
      by_left f (inl there) = subst (IsIn (address_of f)) none there
      by_left f (inr waits') = none_due (length s.log) s.held nothing waits'

      by_entry : (e : Entry) → slice_get moment (length s.log) ≡ Some e → ⊥
      by_entry (Keep f) e = by_left f (left (length s.log) f e (omega arith))
      by_entry (Declare tracks) e =
          let split = get_split moment (length s.log) (Declare tracks) e in
          let fits : FitsBehind split.0 (Declare tracks) = sound.each split.0 split.1 (Declare tracks) split.2 in
          let empty = ap length fits.0 in
          let long = split.3 in
          omega (arith, empty, long, some)
