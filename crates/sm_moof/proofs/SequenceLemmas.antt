-- The sequence number of a moof.
use Rattle.std.proofs.Common.{◌≡◌, ◌<◌, ◌+◌, ◌^◌, ℕ, Bool, true, false, cond, List, [], ◌++◌, drop, Some, None, refl, sym, ap, ◌∙◌, arith}
use Rattle.std.specs.Prelude.{codes, slice_range}
use Rattle.sm_model.specs.declared.fragment.Fragment.{Fragment}
use Rattle.sm_model.specs.Numbers.{number32}
use Rattle.sm_model.specs.Boxes.{Box, box_of, starts_whole}
use Rattle.sm_model.specs.FragText as text
use Rattle.sm_model.specs.Written.{IsWritten}
use Rattle.sm_model.proofs.BoxTexts.{text_front}
use Rattle.sm_model.proofs.WrittenBoxes.{IsText, made, box_is_text, front32, past32}
use Rattle.sm_model.proofs.WrittenFragment.{moof_is, moof_body, start_of}
use Rattle.sm_box.specs.Place.{Place, left}
use Rattle.sm_box.specs.Walks.{IsItem, IsDone, IsBad}
use Rattle.sm_moof.specs.Sequence.{number_in, sequence_at, sequence_in}

whole_first : (b : List ℕ) → starts_whole b ≡ true → sequence_at b ≡ number_in (box_of b).kind (box_of b).body
whole_first b w = ap (λ (t : Bool). cond t (number_in (box_of b).kind (box_of b).body) None) w

none_first : (b : List ℕ) → starts_whole b ≡ false → sequence_at b ≡ None
none_first b w = ap (λ (t : Bool). cond t (number_in (box_of b).kind (box_of b).body) None) w

left_is : (q : Place) (b : List ℕ) → q.body ≡ b → q.at ≡ 0 → left q ≡ b
left_is q b is zero = ap (λ (n : ℕ). drop n q.body) zero ∙ is

-- what the walk answers first is the first child
pub first_item : (q r : Place) (b kind own : List ℕ) (at body_at size : ℕ) → q.body ≡ b → q.at ≡ 0 → IsItem q r kind at body_at size → own ≡ slice_range b body_at (at + size)
    → number_in kind own ≡ sequence_at b
first_item q r b kind own at body_at size is zero i own_is =
    let l = left_is q b is zero in
    let first : sequence_at (left q) ≡ number_in (box_of (left q)).kind (box_of (left q)).body = whole_first (left q) i.whole in
    let inner : own ≡ (box_of (left q)).body = own_is ∙ ap (λ (x : List ℕ). slice_range x body_at (at + size)) (sym is) ∙ sym i.inner in
    ap (λ (k : List ℕ). number_in k own) i.kind_is ∙ ap (λ (x : List ℕ). number_in (box_of (left q)).kind x) inner ∙ sym first ∙ ap sequence_at l

pub first_done : (q r : Place) (b : List ℕ) → q.body ≡ b → q.at ≡ 0 → IsDone q r → None ≡ sequence_at b
unfolding starts_whole
first_done q r b is zero d = sym (none_first [] refl) ∙ ap sequence_at (sym d.nothing ∙ left_is q b is zero)

pub first_bad : (q r : Place) (b : List ℕ) (at : ℕ) → q.body ≡ b → q.at ≡ 0 → IsBad q r at → None ≡ sequence_at b
first_bad q r b at is zero d = sym (none_first (left q) d.none) ∙ ap sequence_at (left_is q b is zero)

-- ---- what was written

abbrev seq_body : ℕ → List ℕ
seq_body seq = number32 0 ++ number32 seq

mfhd_text : (seq : ℕ) → IsText 16 (codes "mfhd") (seq_body seq)
unfolding number32
mfhd_text seq = record { size_is = refl; fits = omega arith; kind_is = refl }

number_again : (seq : ℕ) → seq < 2 ^ 32 → number_in (codes "mfhd") (seq_body seq) ≡ Some seq
unfolding number32
number_again seq lt =
    let n = past32 (number32 0) (number32 seq) 4 0 refl ∙ front32 seq [] lt in
    ap (λ (m : ℕ). Some m) n

pub written_again : (seq id : ℕ) (f : Fragment) (ahead : List (ℕ × ℕ)) → seq < 2 ^ 32 → IsWritten id f ahead → sequence_in (text.moof seq id f ahead) ≡ Some seq
written_again seq id f ahead lt w =
    let front = text_front (text.mfhd seq) (text.traf_box id (start_of f ahead) f ahead) (made 16 (codes "mfhd") (seq_body seq)) (box_is_text 16 (codes "mfhd") (seq_body seq) (mfhd_text seq)) in
    ap (λ (x : Box). sequence_at x.body) (moof_is seq id f ahead w)
    ∙ whole_first (moof_body seq id f ahead) front.whole
    ∙ ap (λ (x : Box). number_in x.kind x.body) front.box_is
    ∙ number_again seq lt
