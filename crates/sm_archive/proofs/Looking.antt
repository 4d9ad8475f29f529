-- What an archive shows of its log.
use Rattle.std.proofs.Common.{◌≡◌, ℕ, zero, suc, List, [], ◌∷◌, slice_get, Option, None, Some, refl, sym, ap, subst, ◌∙◌}
use Rattle.std.specs.List.{AllZip}
use Rattle.sm_model.specs.declared.track.Track.{Track}
use Rattle.sm_model.specs.declared.fragment.Fragment.{Fragment}
use Rattle.sm_model.specs.declared.entry.Entry.{Entry}
use Rattle.sm_model.specs.declared.entry.Entry.TheVariants.{Declare, Keep}
use Rattle.sm_log.specs.Logs.{channel_of}
use Rattle.sm_record.specs.declared.meta.Meta.{Meta}
use Rattle.sm_record.specs.Metas.{IsMetaOf}
use Rattle.sm_archive.specs.declared.index.Index.{Index}
use Rattle.sm_archive.specs.Stands.{IsMetaIn, IsIndex}
use Rattle.sm_archive.specs.Looking.{ShowsMeta}

some_is : (a b : Meta) → (let found : Meta → Option Meta = λ x. Some x in found a ≡ found b) → a ≡ b
some_is a b e = cc

at_meta : (ch : List Track) (rest : List Entry) (ms : List Meta) (k : ℕ) (m : Meta) → AllZip (IsMetaIn ch) rest ms → slice_get ms k ≡ Some m → (f : Fragment) × (slice_get rest k ≡ Some (Keep f)) × IsMetaOf ch f m
at_meta ch [] [] k m all e = absurd cc
at_meta ch [] (x ∷ ms) k m all e = absurd all
at_meta ch (y ∷ rest) [] k m all e = absurd all
at_meta ch (Declare t ∷ rest) (x ∷ ms) zero m all e = absurd all.0
at_meta ch (Keep f ∷ rest) (x ∷ ms) zero m all e = (f, refl, subst (λ (n : Meta). IsMetaOf ch f n) (some_is x m e) all.0)
at_meta ch (y ∷ rest) (x ∷ ms) (suc k) m all e = at_meta ch rest ms k m all.1 e

no_meta : (ch : List Track) (rest : List Entry) (ms : List Meta) (k : ℕ) (f : Fragment) → AllZip (IsMetaIn ch) rest ms → slice_get ms k ≡ None → slice_get rest k ≡ Some (Keep f) → ⊥
no_meta ch [] [] k f all none some = absurd cc
no_meta ch [] (x ∷ ms) k f all none some = all
no_meta ch (y ∷ rest) [] k f all none some = all
no_meta ch (y ∷ rest) (x ∷ ms) zero f all none some = absurd cc
no_meta ch (y ∷ rest) (x ∷ ms) (suc k) f all none some = no_meta ch rest ms k f all.1 none some

pub shows : (i : Index) (log : List Entry) (k : ℕ) (r : Option Meta) → IsIndex i log → r ≡ slice_get i.metas.items k → ShowsMeta r log (suc k)
shows i log k None is e = λ f some. no_meta i.catalog.channel is.rest i.metas.items k f is.metas (sym e) (sym (ap (λ (l : List Entry). slice_get l (suc k)) is.log_is) ∙ some)
shows i log k (Some m) is e =
    let h = at_meta i.catalog.channel is.rest i.metas.items k m is.metas (sym e) in
    (i.catalog.channel, h.0, ap (λ (l : List Entry). channel_of l) is.log_is, ap (λ (l : List Entry). slice_get l (suc k)) is.log_is ∙ h.1, h.2)
