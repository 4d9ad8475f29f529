-- A log with one entry more.
use Rattle.std.proofs.Common.{◌≡◌, ℕ, suc, ◌+◌, ◌<◌, ◌^◌, List, [], ◌∷◌, ◌++◌, length, Option, refl, sym, ap, subst, ◌∙◌, inl, inr, arith}
use Rattle.std.specs.List.{AllZip}
use Rattle.std.proofs.lemmas.List.{length-append}
use Rattle.sm_model.specs.declared.track.Track.{Track}
use Rattle.sm_model.specs.declared.fragment.Fragment.{Fragment}
use Rattle.sm_model.specs.declared.entry.Entry.{Entry}
use Rattle.sm_model.specs.declared.entry.Entry.TheVariants.{Declare, Keep}
use Rattle.sm_model.specs.Entries.{address_of}
use Rattle.sm_log.specs.Adds.{Add}
use Rattle.sm_log.specs.Logs.{channel_of, adds_from, FitsBehind, IsSound}
use Rattle.sm_record.specs.Bodies.{IsBody}
use Rattle.sm_archive.specs.Store.{Spell}
use Rattle.sm_archive.proofs.Lists.{all_zip_push, split_last}

same_pair : (front log : List Entry) (x e : Entry) → front ≡ log → x ≡ e → FitsBehind log e → FitsBehind front x
same_pair front log x e a b fits = subst (λ (l : List Entry). FitsBehind l x) (sym a) (subst (λ (y : Entry). FitsBehind log y) (sym b) fits)

pub sound_push : (log : List Entry) (e : Entry) → IsSound log → FitsBehind log e → length log + 1 < 2 ^ 32 → IsSound (log ++ e ∷ [])
sound_push log e sound fits few = record {
  few = omega (arith, few, length-append log (e ∷ []));
  each = λ front back x eq.
      elim (split_last log front e x back eq) [
        | inl last ↦ same_pair front log x e last.0 last.1 fits
        | inr before ↦ sound.each front before.0 x before.1
      ];
}

pub channel_push : (x : Entry) (log : List Entry) (e : Entry) → channel_of ((x ∷ log) ++ e ∷ []) ≡ channel_of (x ∷ log)
channel_push (Declare tracks) log e = refl
channel_push (Keep f) log e = refl

pub spell_push : (bodies : List (List ℕ)) (log : List Entry) (body : List ℕ) (e : Entry) → Spell bodies log → IsBody (channel_of (log ++ e ∷ [])) e body → Spell (bodies ++ body ∷ []) (log ++ e ∷ [])
spell_push [] [] body e all is = (is, tt)
spell_push (b ∷ bodies) [] body e all is = absurd all
spell_push bodies (x ∷ log) body e all is =
    let same = channel_push x log e in
    all_zip_push (IsBody (channel_of ((x ∷ log) ++ e ∷ []))) (x ∷ log) bodies e body
    (subst (λ (c : Option (List Track)). AllZip (IsBody c) (x ∷ log) bodies) (sym same) all) is

pub adds_push : (place : ℕ) (log : List Entry) (f : Fragment) → adds_from place (log ++ Keep f ∷ []) ≡ adds_from place log ++ (record { address = address_of f; duration = f.duration; place = place + length log }) ∷ []
adds_push place [] f = ap (λ (n : ℕ). (record { address = address_of f; duration = f.duration; place = n }) ∷ []) (omega arith)
adds_push place (Declare tracks ∷ log) f =
    adds_push (suc place) log f ∙ ap (λ (n : ℕ). adds_from (suc place) log ++ (record { address = address_of f; duration = f.duration; place = n }) ∷ []) (omega arith)
adds_push place (Keep g ∷ log) f =
    ap (λ (l : List Add). (record { address = address_of g; duration = g.duration; place = place }) ∷ l)
    (adds_push (suc place) log f ∙ ap (λ (n : ℕ). adds_from (suc place) log ++ (record { address = address_of f; duration = f.duration; place = n }) ∷ []) (omega arith))
