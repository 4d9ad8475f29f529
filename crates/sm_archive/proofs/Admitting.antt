-- Taking in the bodies of a store, one by one.
use Rattle.std.proofs.Common.{◌≡◌, ℕ, ◌+◌, ◌<◌, ◌^◌, min, ◌-◌, List, [], ◌∷◌, ◌++◌, length, Option, None, Some, sym, ap, subst, ◌∙◌, arith}
use Rattle.std.proofs.lemmas.List.Sums.{sum_by_push}
use Rattle.sm_model.specs.declared.track.Track.{Track}
use Rattle.sm_model.specs.declared.fragment.Fragment.{Fragment}
use Rattle.sm_model.specs.declared.address.Address.{Address}
use Rattle.sm_model.specs.declared.entry.Entry.{Entry}
use Rattle.sm_model.specs.declared.entry.Entry.TheVariants.{Declare, Keep}
use Rattle.sm_model.specs.Entries.{address_of}
use Rattle.sm_log.specs.Adds.{Add, verdict}
use Rattle.sm_log.specs.declared.verdict.Judged.TheVariants.{New}
use Rattle.sm_log.specs.Logs.{channel_of, verdict_on, FitsBehind}
use Rattle.sm_record.specs.Bodies.{IsBody}
use Rattle.sm_record.specs.Metas.{IsMetaOf}
use Rattle.sm_record.specs.declared.meta.Meta.{Meta}
use Rattle.sm_archive.specs.declared.index.Index.{Index}
use Rattle.sm_archive.specs.Index.{HasSpace, Reserved, Added}
use Rattle.sm_archive.specs.Stands.{IsIndex, IndexIs, used_by}
use Rattle.sm_archive.specs.Opening.{IsMisfit, IsWalked}
use Rattle.sm_archive.proofs.Lists.{all_zip_len}
use Rattle.sm_archive.proofs.Logs.{sound_push, channel_push, spell_push}
use Rattle.sm_archive.proofs.Indexes.{index_verdict, index_added}
use Rattle.sm_archive.proofs.Reservings.{index_same}
use Rattle.sm_archive.proofs.Appending.{never_new}
use Rattle.sm_archive.proofs.Stores.{no_keep, any_channel}

pub same_verdict : (i j : Index) (a : Address) (d e : ℕ) → Reserved i j → e ≡ d → verdict i.catalog.channel i.catalog.adds a d ≡ New → verdict j.catalog.channel j.catalog.adds a e ≡ New
same_verdict i j a d e r same new =
    ap (λ (c : List Track). verdict c j.catalog.adds a e) r.channel
    ∙ ap (λ (xs : List Add). verdict i.catalog.channel xs a e) r.adds
    ∙ ap (λ (n : ℕ). verdict i.catalog.channel i.catalog.adds a n) same
    ∙ new

pub space_less : (i : Index) (stream : List ℕ) → HasSpace i 2 stream → HasSpace i 1 stream
space_less i stream h = record { times = omega (arith, h.times); metas = omega (arith, h.metas) }

pub not_new : (c : List Track) (adds : List Add) (a : Address) (d : ℕ) → verdict c adds a d ≡ New → New ≡ verdict c adds a d
not_new c adds a d e = sym e

-- a fragment that is new to the index is taken in
pub fragment_admitted : (i j k : Index) (f : Fragment) (a : Address) (m : Meta) (place : ℕ) (log : List Entry) → Reserved i j → a ≡ address_of f → IsMetaOf i.catalog.channel f m
    → verdict i.catalog.channel i.catalog.adds a f.duration ≡ New → Added j k a m place
    → IsIndex i log → place ≡ length log → (verdict_on log f ≡ New) × IsIndex k (log ++ Keep f ∷ [])
fragment_admitted i j k f a m place log r a_is m_is new added is place_is = (
  sym (index_verdict i log f is) ∙ ap (λ (x : Address). verdict i.catalog.channel i.catalog.adds x f.duration) (sym a_is) ∙ new,
  index_added j k log f a m place (index_same i j log r is) a_is (subst (λ (c : List Track). IsMetaOf c f m) (sym r.channel) m_is) place_is added,
)

pub index_channel_is : (i : Index) (log : List Entry) → IsIndex i log → channel_of log ≡ Some i.catalog.channel
index_channel_is i log is = ap (λ (l : List Entry). channel_of l) is.log_is

pub no_first : (e : Entry) (f : Fragment) → e ≡ Keep f → FitsBehind [] e → ⊥
no_first e f is fits = let h : FitsBehind [] (Keep f) = subst (λ (x : Entry). FitsBehind [] x) is fits in never_new f h.1

-- by the channel of the log with the entry behind it
pub spelled_behind : (log : List Entry) (e : Entry) (body : List ℕ) → IsBody (channel_of log) e body → IsBody (channel_of (log ++ e ∷ [])) e body
spelled_behind [] (Keep f) body h = absurd (no_keep f body h)
spelled_behind [] (Declare tracks) body h = any_channel None (Some tracks) tracks body h
spelled_behind (x ∷ log) e body h = subst (λ (c : Option (List Track)). IsBody c e body) (sym (channel_push x log e)) h

pub first_admitted : (i : Index) (e : Entry) (body : List ℕ) (log : List Entry) → IsBody None e body → FitsBehind [] e → IsIndex i (e ∷ []) → log ≡ [] → (x : Entry) × IsBody (channel_of log) x body × FitsBehind log x
    × IndexIs (Some i) (log ++ x ∷ [])
first_admitted i e body log is fits index log_is =
    subst (λ (l : List Entry). (x : Entry) × IsBody (channel_of l) x body × FitsBehind l x × IndexIs (Some i) (l ++ x ∷ [])) (sym log_is) (e, is, fits, index)

pub first_misfit : (body : List ℕ) (log : List Entry) → IsMisfit [] body → log ≡ [] → IsMisfit log body
first_misfit body log misfit log_is = subst (λ (l : List Entry). IsMisfit l body) (sym log_is) misfit

pub log_length : (index : Option Index) (used : ℕ) (seen : List (List ℕ)) (log : List Entry) → IsWalked index used seen log → length log ≡ length seen
log_length index used seen log w = all_zip_len (IsBody (channel_of log)) log seen w.spell

sum_push : (seen : List (List ℕ)) (body : List ℕ) → used_by (seen ++ body ∷ []) ≡ used_by seen + (5 + length body)
sum_push seen body = sum_by_push (λ (b : List ℕ). 5 + length b) seen body

pub walked_on : (index new : Option Index) (used now : ℕ) (seen : List (List ℕ)) (log : List Entry) (body : List ℕ) → IsWalked index used seen log → length seen + 1 < 2 ^ 32
    → now ≡ min (used + (5 + length body)) (2 ^ 64 - 1)
    → (e : Entry) × IsBody (channel_of log) e body × FitsBehind log e × IndexIs new (log ++ e ∷ []) → (e : Entry) × IsWalked new now (seen ++ body ∷ []) (log ++ e ∷ [])
walked_on index new used now seen log body w few now_is h =
    let n = log_length index used seen log w in
    let push = sum_push seen body in (
      h.0,
      record {
        spell = spell_push seen log body h.0 w.spell (spelled_behind log h.0 body h.1);
        sound = sound_push log h.0 w.sound h.2 (omega (arith, n, few));
        index_is = h.3;
        used_is = omega (arith, w.used_is, now_is, push);
      },
    )
