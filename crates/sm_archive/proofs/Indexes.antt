-- The index of a log with one entry more.
use Rattle.std.proofs.Common.{◌≡◌, ℕ, List, [], ◌∷◌, ◌++◌, length, Option, None, Some, sym, ap, subst, ◌∙◌, arith}
use Rattle.std.specs.List.{AllZip}
use Rattle.sm_model.specs.declared.track.Track.{Track}
use Rattle.sm_model.specs.declared.fragment.Fragment.{Fragment}
use Rattle.sm_model.specs.declared.address.Address.{Address}
use Rattle.sm_model.specs.declared.entry.Entry.{Entry}
use Rattle.sm_model.specs.declared.entry.Entry.TheVariants.{Declare, Keep}
use Rattle.sm_model.specs.Entries.{address_of}
use Rattle.sm_log.specs.Adds.{Add, verdict}
use Rattle.sm_log.specs.Logs.{adds_from, verdict_on, FitsBehind}
use Rattle.sm_record.specs.declared.meta.Meta.{Meta}
use Rattle.sm_record.specs.Metas.{IsMetaOf}
use Rattle.sm_archive.specs.declared.index.Index.{Index}
use Rattle.sm_archive.specs.declared.archive.Pending.{Pending}
use Rattle.sm_archive.specs.declared.archive.Pending.TheVariants as pending
use Rattle.sm_archive.specs.Index.{HasSpace, Added}
use Rattle.sm_archive.specs.Stands.{IsIndex, IsMetaIn, IndexIs, IsPending}
use Rattle.sm_archive.specs.Taking.{CanAdd, CanTake, Taken}
use Rattle.sm_archive.proofs.Lists.{all_zip_push}
use Rattle.sm_archive.proofs.Logs.{adds_push}

-- what the index judges is the verdict on the log
pub index_verdict : (i : Index) (log : List Entry) (f : Fragment) → IsIndex i log → verdict i.catalog.channel i.catalog.adds (address_of f) f.duration ≡ verdict_on log f
index_verdict i log f is =
    ap (λ (xs : List Add). verdict i.catalog.channel xs (address_of f) f.duration) is.adds
    ∙ sym (ap (λ (l : List Entry). verdict_on l f) is.log_is)

pub index_added : (i j : Index) (log : List Entry) (f : Fragment) (a : Address) (m : Meta) (place : ℕ) → IsIndex i log → a ≡ address_of f → IsMetaOf i.catalog.channel f m → place ≡ length log → Added i j a m place
    → IsIndex j (log ++ Keep f ∷ [])
index_added i j log f a m place is a_is m_is place_is added =
    let add_is : i.catalog.adds ++ (record { address = a; duration = m.duration; place = place }) ∷ [] ≡ adds_from 1 (is.rest ++ Keep f ∷ []) =
    ap (λ (xs : List Add). xs ++ (record { address = a; duration = m.duration; place = place }) ∷ []) is.adds
    ∙ ap (λ (x : Address). adds_from 1 is.rest ++ (record { address = x; duration = m.duration; place = place }) ∷ []) a_is
    ∙ ap (λ (d : ℕ). adds_from 1 is.rest ++ (record { address = address_of f; duration = d; place = place }) ∷ []) m_is.duration
    ∙ ap (λ (p : ℕ). adds_from 1 is.rest ++ (record { address = address_of f; duration = f.duration; place = p }) ∷ []) (let l = ap length is.log_is in omega arith)
    ∙ sym (adds_push 1 is.rest f) in
    let metas : AllZip (IsMetaIn i.catalog.channel) (is.rest ++ Keep f ∷ []) (i.metas.items ++ m ∷ []) = all_zip_push (IsMetaIn i.catalog.channel) is.rest i.metas.items (Keep f) m is.metas m_is in
    let metas_are : AllZip (IsMetaIn i.catalog.channel) (is.rest ++ Keep f ∷ []) j.metas.items = subst (λ (ms : List Meta). AllZip (IsMetaIn i.catalog.channel) (is.rest ++ Keep f ∷ []) ms) (sym added.metas) metas in
    record {
      rest = is.rest ++ Keep f ∷ [];
      log_is = ap (λ (l : List Entry). l ++ Keep f ∷ []) is.log_is ∙ ap (λ (c : List Track). Declare c ∷ (is.rest ++ Keep f ∷ [])) (sym added.channel);
      adds = added.adds ∙ add_is;
      metas = subst (λ (c : List Track). AllZip (IsMetaIn c) (is.rest ++ Keep f ∷ []) j.metas.items) (sym added.channel) metas_are;
    }

pub can_add : (i : Index) (log : List Entry) (f : Fragment) (a : Address) (m : Meta) → IsIndex i log → a ≡ address_of f → m.duration ≡ f.duration → FitsBehind log (Keep f) → HasSpace i 1 a.stream → CanAdd i a m
can_add i log f a m is a_is m_is fits space = record {
  space = space;
  verdict =
      ap (λ (x : Address). verdict i.catalog.channel i.catalog.adds x m.duration) a_is
      ∙ ap (λ (d : ℕ). verdict i.catalog.channel i.catalog.adds (address_of f) d) m_is
      ∙ index_verdict i log f is
      ∙ fits.1;
  lasts = let l = fits.0.lasts in omega arith;
  ends = let e = fits.0.ends in let t = ap (λ (x : Address). x.time) a_is in omega arith;
}

pub can_take : (index : Option Index) (p : Pending) (log : List Entry) (e : Entry) → IndexIs index log → FitsBehind log e → IsPending p index log e → CanTake index p
can_take index (pending.Declare own) log e is fits h = tt
can_take None (pending.Keep a m check) log e is fits h = h
can_take (Some i) (pending.Keep a m check) log (Declare tracks) is fits h = absurd h
can_take (Some i) (pending.Keep a m check) log (Keep f) is fits h = can_add i log f a m is h.0 h.1.duration fits h.2

pub index_taken : (index : Option Index) (p : Pending) (log : List Entry) (e : Entry) (place : ℕ) (new : Option Index) → IndexIs index log → IsPending p index log e → place ≡ length log → Taken index p place new
    → IndexIs new (log ++ e ∷ [])
index_taken index (pending.Declare own) log e place new is h place_is taken =
    subst (λ (i : Option Index). IndexIs i (log ++ e ∷ [])) (sym taken) (subst (λ (l : List Entry). IsIndex own (l ++ e ∷ [])) (sym h.1) h.0)
index_taken None (pending.Keep a m check) log e place new is h place_is taken = absurd h
index_taken (Some i) (pending.Keep a m check) log (Declare tracks) place new is h place_is taken = absurd h
index_taken (Some i) (pending.Keep a m check) log (Keep f) place None is h place_is taken = absurd taken
index_taken (Some i) (pending.Keep a m check) log (Keep f) place (Some j) is h place_is taken = index_added i j log f a m place is h.0 h.1 place_is taken
