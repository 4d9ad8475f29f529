-- The whole boxes in front of a part of a canonical text are the text's own.
use Rattle.std.proofs.Common.{◌≡◌, ℕ, List, [], ◌++◌, sym, ap, ◌∙◌, append_assoc, rules}
use Rattle.std.specs.Prelude.{Result, Ok, Some, slice_get}
use Rattle.sm_model.specs.declared.cause.Cause.{Cause}
use Rattle.sm_model.specs.declared.run.Run.{Run}
use Rattle.sm_model.specs.declared.run.RawFragment.{RawFragment}
use Rattle.sm_model.specs.declared.sample.Sample.{Sample}
use Rattle.sm_model.specs.Boxes.{IsOneBox}
use Rattle.sm_model.specs.Frag.{frag, moof_run}
use Rattle.sm_moof.proofs.FrontLemmas.{same_box}
use Rattle.sm_moof.specs.Shown.{NamesIn, ServesIn, no_defaults}

ok_same : {A : Type 0} (x y : A) (r : Result A Cause) → r ≡ Ok x → r ≡ Ok y → x ≡ y
ok_same x y r e f = cc

pub moof_in_front : (part more m rest n after : List ℕ) → part ++ more ≡ n ++ after → part ≡ m ++ rest → IsOneBox m → IsOneBox n → (m ≡ n) × (rest ++ more ≡ after)
moof_in_front part more m rest n after text is one whole =
    same_box m n (rest ++ more) after one whole (sym (append_assoc m rest more) ∙ ap (λ (x : List ℕ). x ++ more) (sym is) ∙ text)

pub named : (n after part more : List ℕ) (time : ℕ) (run : Run) → IsOneBox n → moof_run no_defaults n ≡ Ok run → part ++ more ≡ n ++ after → NamesIn part time
    → (i duration : ℕ) × (slice_get run.ahead i ≡ Some (time, duration))
named n after part more time run whole again text shown =
    let e = (moof_in_front part more shown.moof shown.rest n after text shown.part_is shown.whole whole).0 in
    let same : shown.run ≡ run = ok_same shown.run run (moof_run no_defaults n) (sym (ap (moof_run no_defaults) e) ∙ shown.read) again in
    (shown.index, shown.duration, sym (ap (λ (r : Run). slice_get r.ahead shown.index) same) ∙ shown.pair)

pub served : (n d part more : List ℕ) (samples : List Sample) (duration : ℕ) (raw : RawFragment) → IsOneBox n → IsOneBox d → frag no_defaults n d ≡ Ok raw → part ++ more ≡ n ++ d → ServesIn part samples duration
    → (raw.samples ≡ samples) × (raw.duration ≡ duration)
served n d part more samples duration raw whole mdat_whole again text shown =
    let front = moof_in_front part more shown.moof (shown.mdat ++ shown.rest) n d text shown.part_is shown.moof_whole whole in
    let back = same_box shown.mdat d (shown.rest ++ more) [] shown.mdat_whole mdat_whole (sym (append_assoc shown.mdat shown.rest more) ∙ front.1 ∙ sym (search rules)) in
    let same : shown.raw ≡ raw = ok_same shown.raw raw (frag no_defaults n d) (sym (ap (λ (x : List ℕ). frag no_defaults x shown.mdat) front.0 ∙ ap (frag no_defaults n) back.0) ∙ shown.read) again in
    (sym (ap (λ (r : RawFragment). r.samples) same) ∙ shown.samples_are, sym (ap (λ (r : RawFragment). r.duration) same) ∙ shown.duration_is)
