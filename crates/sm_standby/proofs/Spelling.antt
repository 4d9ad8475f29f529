-- What is kept was read.
use Rattle.std.proofs.Common.{◌≡◌, ◌≤◌, ℕ, List, [], ◌∷◌, ◌++◌, length, length-append, slice_get, Some, None, refl, ap, sym, ◌∙◌, subst, append-nil, arith, ⊎_elim}
use Rattle.std.specs.Prelude.{Contains}
use Rattle.std.proofs.lemmas.List.Elements.{Contains-append_left, Contains-append_right}
use Rattle.std.proofs.lemmas.Bool.{cases_lt}
use Rattle.sm_model.specs.declared.address.Address.{Address}
use Rattle.sm_model.specs.declared.entry.Entry.{Entry}
use Rattle.sm_model.specs.declared.entry.Entry.TheVariants.{Keep}
use Rattle.sm_model.specs.declared.fragment.Fragment.{Fragment}
use Rattle.sm_model.specs.declared.run.RawFragment.{RawFragment}
use Rattle.sm_model.specs.declared.track.Track.{Track}
use Rattle.sm_model.specs.Entries.{address_of}
use Rattle.sm_manin.specs.declared.listing.Listing.{Listing}
use Rattle.sm_fetch.specs.declared.dial.Exchange.{Exchange}
use Rattle.sm_fetch.specs.declared.place.Place.{Place}
use Rattle.sm_fetch.specs.declared.placed.Placed.TheVariants as placed
use Rattle.sm_fetch.specs.Spelt.{given}
use Rattle.sm_pull.specs.declared.plan.PullPlan.{PullPlan}
use Rattle.sm_pull.specs.Adds.{keeps_of}
use Rattle.sm_pull.specs.Asks.{Gives}
use Rattle.sm_standby.specs.Turns.{AsksPlaced, missed, url_of, Whose, Came, absent, kept, later, dropped, Turn, passed, asked, Standing, address_for, kept_by, after, Turns, made_in, kept_in}
use Rattle.sm_standby.specs.Spelled.{IsSpelled}
use Rattle.sm_standby.proofs.Waits.{get-behind}
use Rattle.sm_standby.proofs.Taking.{came_address, read_time}
use Rattle.sm_standby.proofs.Logs.{get_more, some_same, after_log, turns_log, fits_next}

keep_same : (f g : Fragment) → Keep f ≡ Keep g → f ≡ g
keep_same f g e = cc

spelled_right : (place : Place) (listing : Listing) (xs ys : List Exchange) (p : ℕ) (f : Fragment) → IsSpelled place listing ys p f → IsSpelled place listing (xs ++ ys) p f
spelled_right place listing xs ys p f s = record { exchange = s.exchange; there = Contains-append_right xs ys s.exchange s.there; raw = s.raw; asks = s.asks; fragment_is = s.fragment_is }

last_there : {X : Type 0} (xs : List X) (x : X) → Contains (xs ++ x ∷ []) x
last_there xs x = Contains-append_right xs (x ∷ []) x (0, omega arith, refl)

-- what this turn kept
spelled_one : (plan : PullPlan) (listing : Listing) (who : Whose) (made more : List Exchange) (n : ℕ) (raw : RawFragment) → Gives (AsksPlaced plan.place (url_of listing (address_for who))
    (address_for who)) missed plan.tries made (placed.Fragment n raw)
    → IsSpelled plan.place listing (made ++ more) n (given (address_for who).stream (address_for who).bitrate raw)
spelled_one plan listing who made more n raw g =
    let a = address_for who in
    let named : address_of (given a.stream a.bitrate raw) ≡ a = came_address a n raw (read_time a.time n raw g.last.answer g.gave.spelled) in
    record {
      exchange = g.last;
      there = Contains-append_left made more g.last (subst (λ (xs : List Exchange). Contains xs g.last) (sym g.made_is) (last_there g.missed g.last));
      raw = raw;
      asks = subst (λ (b : Address). AsksPlaced plan.place (url_of listing b) b g.last (placed.Fragment n raw)) (sym named) g.gave;
      fragment_is = refl;
    }

-- an entry of a log that goes on is what it was
entry_here : (log more : List Entry) (f g : Fragment) (p : ℕ) → slice_get log p ≡ Some (Keep g) → slice_get (log ++ more) p ≡ Some (Keep f) → g ≡ f
entry_here log more f g p here there = keep_same g f (some_same (Keep g) (Keep f) (sym (get_more log more p (Keep g) here) ∙ there))

get_last : (log : List Entry) (e : Entry) → slice_get (log ++ e ∷ []) (length log) ≡ Some e
get_last [] e = refl
get_last (x ∷ xs) e = get_last xs e

beyond : {X : Type 0} (xs : List X) (i : ℕ) (x : X) → slice_get xs i ≡ Some x → length xs ≤ i → ⊥
beyond xs i x here le = absurd (let none = get-behind xs i le in let e : None ≡ Some x = sym none ∙ here in cc)

none_more : (s : Standing) (who : Whose) (made : List Exchange) (c : Came) (p : ℕ) → kept_by (address_for who) c ≡ [] → length s.log ≤ p → length (after s (asked who made c)).log ≤ p
none_more s who made c p none le = subst (λ (l : List Entry). length l ≤ p) (sym (after_log s who made c ∙ (ap (λ (fs : List Fragment). s.log ++ keeps_of fs) none ∙ append-nil s.log))) le

pub turns_spelled : (plan : PullPlan) (channel : List Track) (listing : Listing) (s e : Standing) (ts : List Turn) → Turns plan channel listing s ts e
    → (p : ℕ) (f : Fragment) → slice_get e.log p ≡ Some (Keep f) → length s.log ≤ p
    → IsSpelled plan.place listing (made_in ts) p f
turns_spelled plan channel listing s e [] legal p f there le = absurd (beyond e.log p (Keep f) there (subst (λ (x : Standing). length x.log ≤ p) legal le))
turns_spelled plan channel listing s e (passed a ∷ ts) legal p f there le = turns_spelled plan channel listing (after s (passed a)) e ts legal.1 p f there le
turns_spelled plan channel listing s e (asked who made absent ∷ ts) legal p f there le =
    spelled_right plan.place listing made (made_in ts) p f (turns_spelled plan channel listing (after s (asked who made absent)) e ts legal.1 p f there (none_more s who made absent p refl le))
turns_spelled plan channel listing s e (asked who made (later n raw) ∷ ts) legal p f there le =
    spelled_right plan.place listing made (made_in ts) p f (turns_spelled plan channel listing (after s (asked who made (later n raw))) e ts legal.1 p f there (none_more s who made (later n raw) p refl le))
turns_spelled plan channel listing s e (asked who made (dropped n raw) ∷ ts) legal p f there le =
    spelled_right plan.place listing made (made_in ts) p f (turns_spelled plan channel listing (after s (asked who made (dropped n raw))) e ts legal.1 p f there (none_more s who made (dropped n raw) p refl le))
turns_spelled plan channel listing s e (asked who made (kept n raw) ∷ ts) legal p f there le =
    ⊎_elim
    (λ lt. spelled_right plan.place listing made (made_in ts) p f
    (turns_spelled plan channel listing (after s (asked who made (kept n raw))) e ts legal.1 p f there
    (subst (λ (l : List Entry). length l ≤ p) (sym (after_log s who made (kept n raw))) (let both = length-append s.log (Keep g ∷ []) in omega (arith, both, lt)))))
    (λ ge.
    let at : p ≡ length s.log = omega (arith, le, ge) in
    let number : n ≡ p = fits_next who (length s.log) n raw legal.0.fits ∙ sym at in
    let here : slice_get (s.log ++ Keep g ∷ []) p ≡ Some (Keep g) = ap (λ (i : ℕ). slice_get (s.log ++ Keep g ∷ []) i) at ∙ get_last s.log (Keep g) in
    let whole : e.log ≡ (s.log ++ Keep g ∷ []) ++ keeps_of (kept_in ts) =
    turns_log plan channel listing (after s (asked who made (kept n raw))) e ts legal.1 ∙ ap (λ (l : List Entry). l ++ keeps_of (kept_in ts)) (after_log s who made (kept n raw)) in
    let same : g ≡ f = entry_here (s.log ++ Keep g ∷ []) (keeps_of (kept_in ts)) f g p here (ap (λ (l : List Entry). slice_get l p) (sym whole) ∙ there) in
    subst (λ (h : Fragment). IsSpelled plan.place listing (made ++ made_in ts) p h) same
    (subst (λ (i : ℕ). IsSpelled plan.place listing (made ++ made_in ts) i g) number (spelled_one plan listing who made (made_in ts) n raw legal.0.gives)))
    (cases_lt (length s.log) p)
  where
    g : Fragment
    g = given (address_for who).stream (address_for who).bitrate raw
