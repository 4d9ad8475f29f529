-- Fragments that stay kept.
use Rattle.std.proofs.Common.{◌≡◌, ℕ, zero, suc, List, [], ◌∷◌, ◌++◌, length, drop, Option, ap, sym, ◌∙◌, subst, arith, append_assoc}
use Rattle.sm_log.proofs.AllLogs.{kept_stays}
use Rattle.sm_model.specs.declared.address.Address.{Address}
use Rattle.sm_model.specs.declared.entry.Entry.{Entry}
use Rattle.sm_model.specs.declared.run.RawFragment.{RawFragment}
use Rattle.sm_fetch.specs.declared.dial.Exchange.{Exchange}
use Rattle.sm_fetch.specs.declared.got.Got.{Got}
use Rattle.sm_fetch.specs.declared.got.Got.TheVariants as got
use Rattle.sm_fetch.specs.Origins.{Grows}
use Rattle.sm_fetch.specs.Fetched.{FetchedFragment, IsKeptAt, GrowsWith}
use Rattle.sm_client.specs.declared.plan.Plan.{Plan}
use Rattle.sm_client.specs.declared.piece.Asked.{Asked}
use Rattle.sm_client.specs.declared.piece.Asked.TheVariants as asked
use Rattle.sm_client.specs.declared.piece.Wanted.{Wanted}
use Rattle.sm_client.specs.declared.stream.Stream.{Stream}
use Rattle.sm_client.specs.Stands.{Piece, address_at}
use Rattle.sm_client.specs.Plays.{Part, PartsKept, PartsKeptOn, written_of}
use Rattle.sm_client.specs.Kept.{IsKept, AreKept, KeepsOn, with_address}
use Rattle.sm_client.specs.Calls.{IsAskedOf, AskedKept}
use Rattle.sm_client.proofs.Pieces.{spelled-fragment}

is_kept-grown : (plan : Plan) (log more : List Entry) (p : Piece) → IsKept plan log p → IsKept plan (log ++ more) p
is_kept-grown plan log more p k = λ may a named. let there = k may a named in (there.0, kept_stays a 0 log more (there.0, with_address a p.fragment) there.1)

are_kept-grown : (plan : Plan) (log more : List Entry) (ps : List Piece) → AreKept plan log ps → AreKept plan (log ++ more) ps
are_kept-grown plan log more [] k = tt
are_kept-grown plan log more (p ∷ ps) k = (is_kept-grown plan log more p k.0, are_kept-grown plan log more ps k.1)

are_kept-append : (plan : Plan) (log : List Entry) (ps qs : List Piece) → AreKept plan log ps → AreKept plan log qs → AreKept plan log (ps ++ qs)
are_kept-append plan log [] qs k l = l
are_kept-append plan log (p ∷ ps) qs k l = (k.0, are_kept-append plan log ps qs k.1 l)

-- ---- logs that are told

pub keeps-none : (plan : Plan) {s t : List Entry → Type 0} → Grows s t → KeepsOn plan s t []
keeps-none plan g = record { on = λ log told. let a = g log told in (a.0, a.1, tt) }

-- what was kept stays kept
pub keeps-more : {plan : Plan} (s t u : List Entry → Type 0) (ps qs : List Piece) → KeepsOn plan s t ps → KeepsOn plan t u qs → KeepsOn plan s u (ps ++ qs)
keeps-more {plan = plan} s t u ps qs k l = record {
  on = λ log told.
      let a = k.on log told in
      let b = l.on (log ++ a.0) a.1 in
      let joined : (log ++ a.0) ++ b.0 ≡ log ++ (a.0 ++ b.0) = append_assoc log a.0 b.0 in (
        a.0 ++ b.0,
        subst u joined b.1,
        subst (λ (all : List Entry). AreKept plan all (ps ++ qs)) joined (are_kept-append plan ((log ++ a.0) ++ b.0) ps qs (are_kept-grown plan (log ++ a.0) b.0 ps a.2) b.2),
      );
}

pub keeps-behind : {plan : Plan} {s t u : List Entry → Type 0} {ps : List Piece} → Grows s t → KeepsOn plan t u ps → KeepsOn plan s u ps
keeps-behind {plan = plan} {s = s} {t = t} {u = u} {ps = ps} g k = keeps-more s t u [] ps (keeps-none plan {s = s} {t = t} g) k

pub asked-behind : (st : Stream) (w : Wanted) (s t u : List Entry → Type 0) (r : Asked) → Grows s t → AskedKept st w t u r → AskedKept st w s u r
asked-behind st w s t u (asked.Took raw level) g k = keeps-behind g k
asked-behind st w s t u (asked.Missed outcome) g k = tt
asked-behind st w s t u asked.NoMemory g k = tt

-- ---- parts

parts_kept-grown : (plan : Plan) (log more : List Entry) (names : List (List ℕ)) (parts : List Part) → PartsKept plan log names parts → PartsKept plan (log ++ more) names parts
parts_kept-grown plan log more [] parts k = tt
parts_kept-grown plan log more (name ∷ names) [] k = tt
parts_kept-grown plan log more (name ∷ names) (part ∷ parts) k = (are_kept-grown plan log more (written_of plan name part) k.0, parts_kept-grown plan log more names parts k.1)

parts_kept-more : (plan : Plan) (s : List Entry) (names : List (List ℕ)) (parts : List Part) (part : Part) (number : ℕ) (name : List ℕ) (rest : List (List ℕ)) → length parts ≡ number
    → drop number names ≡ name ∷ rest → PartsKept plan s names parts → AreKept plan s (written_of plan name part) → PartsKept plan s names (parts ++ part ∷ [])
parts_kept-more plan s [] parts part number name rest count at k l = tt
parts_kept-more plan s (n ∷ names) [] part zero name rest count at k l = (rw same l, none names)
  where
    same : n ≡ name
    same = first (n ∷ names) (name ∷ rest) at
      where
        head : List (List ℕ) → List ℕ
        head [] = []
        head (x ∷ xs) = x

        first : (xs ys : List (List ℕ)) → xs ≡ ys → head xs ≡ head ys
        first xs ys e = ap head e

    none : (ns : List (List ℕ)) → PartsKept plan s ns []
    none [] = tt
    none (x ∷ xs) = tt
parts_kept-more plan s (n ∷ names) [] part (suc number) name rest count at k l = absurd (omega (arith, count))
parts_kept-more plan s (n ∷ names) (p ∷ parts) part zero name rest count at k l = absurd (omega (arith, count))
parts_kept-more plan s (n ∷ names) (p ∷ parts) part (suc number) name rest count at k l = (k.0, parts_kept-more plan s names parts part number name rest (omega (arith, count)) at k.1 l)

pub parts-more : {plan : Plan} (s t u : List Entry → Type 0) (names : List (List ℕ)) (parts : List Part) (part : Part) (number : ℕ) (name : List ℕ) (rest : List (List ℕ)) → length parts ≡ number
    → drop number names ≡ name ∷ rest → PartsKeptOn plan s t names parts → KeepsOn plan t u (written_of plan name part) → PartsKeptOn plan s u names (parts ++ part ∷ [])
parts-more {plan = plan} s t u names parts part number name rest count at k l = record {
  on = λ log told.
      let a = k.on log told in
      let b = l.on (log ++ a.0) a.1 in
      let joined : (log ++ a.0) ++ b.0 ≡ log ++ (a.0 ++ b.0) = append_assoc log a.0 b.0 in (
        a.0 ++ b.0,
        subst u joined b.1,
        subst (λ (all : List Entry). PartsKept plan all names (parts ++ part ∷ [])) joined
            (parts_kept-more plan ((log ++ a.0) ++ b.0) names parts part number name rest count at (parts_kept-grown plan (log ++ a.0) b.0 names parts a.2) b.2),
      );
}

-- ---- one fragment

-- at the address that was asked
named-kept : (plan : Plan) (url : List ℕ) (a b : Address) (log : List Entry) (raw : RawFragment) → a ≡ b → IsKeptAt plan.place url a log (got.Fragment raw) → IsKeptAt plan.place url b log (got.Fragment raw)
named-kept plan url a b log raw e k = subst (λ (c : Address). IsKeptAt plan.place url c log (got.Fragment raw)) e k

pub asked-kept : (st : Stream) (w : Wanted) (level : ℕ) {a : Address} {old new : Option (List Exchange)} {g : Got} {bytes : ℕ} (store store' : List Entry → Type 0) (r : Asked)
    → a ≡ address_at st.name.now w.listing.now w.start level → FetchedFragment st.plan.now.place w.listing.now.pattern a old new g bytes
    → GrowsWith st.plan.now.place w.listing.now.pattern a store store' g → IsAskedOf g level r → AskedKept st w store store' r
asked-kept st w level {a = a} {g = g} store store' (asked.Took raw place) at f k is =
    let spells = spelled-fragment a.time f.answer raw (rw is.0 at f.spells) in
    let time : raw.time ≡ w.start = spells.1 ∙ ap (λ (b : Address). b.time) at in
    let there : a ≡ address_at st.name.now w.listing.now raw.time place =
    at ∙ (ap (λ n. address_at st.name.now w.listing.now n level) (sym time) ∙ ap (λ n. address_at st.name.now w.listing.now raw.time n) (sym is.1)) in
    record {
      on = λ log told.
          let b = k log told in
          let kept = subst (λ (h : Got). IsKeptAt st.plan.now.place w.listing.now.pattern a (log ++ b.0) h) is.0 b.2 in
          (b.0, b.1, (named-kept st.plan.now w.listing.now.pattern a (address_at st.name.now w.listing.now raw.time place) (log ++ b.0) raw there kept, tt));
    }
asked-kept st w level store store' (asked.Missed m) at f k is = tt
asked-kept st w level store store' asked.NoMemory at f k is = tt
