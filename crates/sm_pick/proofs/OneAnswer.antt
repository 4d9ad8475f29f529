-- One answer is due to an input.
use Rattle.std.proofs.Common.{◌≡◌, ℕ, true, List, [], Option, Some, None, refl, sym, ap, ◌∙◌}
use Rattle.sm_model.specs.declared.cause.Refusal.{Refusal}
use Rattle.sm_model.specs.declared.fragment.Fragment.{Fragment}
use Rattle.sm_model.specs.FragText.{frag_text}
use Rattle.sm_push.specs.Body.{body_end}
use Rattle.sm_pick.specs.declared.picked.Picked.{Picked}
use Rattle.sm_pick.specs.declared.picked.Picked.TheVariants.{Found, Refused, NotKept}
use Rattle.sm_pick.specs.Due.{IsPicked, IsAbsent, IsRefused, IsDue, refusal_line}

-- an input isn't whole and refused at once
not_both : (input : List ℕ) (r : Refusal) → body_end true input ≡ None → body_end true input ≡ Some r → ⊥
not_both input r p q = let e : Some r ≡ None = sym q ∙ p in cc

abbrev text_of_first : ℕ → ℕ × Fragment → List ℕ
text_of_first track x = frag_text x.0 track x.1 []

some_is : {A : Type 0} (x y : A) → Some x ≡ Some y → x ≡ y
some_is x y e = cc

same_text : (input : List ℕ) (track time : ℕ) (s t : List ℕ) → IsPicked input track time s → IsPicked input track time t → s ≡ t
same_text input track time s t p q =
    let e : Some (p.place, p.fragment) ≡ Some (q.place, q.fragment) = sym p.first ∙ q.first in
    p.text_is ∙ ap (text_of_first track) (some_is (p.place, p.fragment) (q.place, q.fragment) e) ∙ sym q.text_is

abbrev nothing : Option (ℕ × Fragment)
nothing = None

no_first : (x : ℕ × Fragment) → Some x ≡ nothing → ⊥
no_first x e = cc

not_absent : (input : List ℕ) (track time : ℕ) (s : List ℕ) → IsPicked input track time s → IsAbsent input track time → ⊥
not_absent input track time s p q = no_first (p.place, p.fragment) (sym p.first ∙ q.none)

same_line : (input l m : List ℕ) → IsRefused input l → IsRefused input m → l ≡ m
same_line input l m p q =
    p.line_is ∙ ap refusal_line (some_is p.refusal q.refusal (sym p.refused ∙ q.refused)) ∙ sym q.line_is

pub one_answer : (track time : ℕ) (input : List ℕ) (a b : Picked) → IsDue track time input a → IsDue track time input b → a ≡ b
one_answer track time input (Found s) (Found t) p q = ap (λ (x : List ℕ). Found x) (same_text input track time s t p q)
one_answer track time input (Found s) (Refused l) p q = absurd (not_both input q.refusal p.whole q.refused)
one_answer track time input (Found s) NotKept p q = absurd (not_absent input track time s p q)
one_answer track time input (Refused l) (Found t) p q = absurd (not_both input p.refusal q.whole p.refused)
one_answer track time input (Refused l) (Refused m) p q = ap (λ (x : List ℕ). Refused x) (same_line input l m p q)
one_answer track time input (Refused l) NotKept p q = absurd (not_both input p.refusal q.whole p.refused)
one_answer track time input NotKept (Found t) p q = absurd (not_absent input track time t q p)
one_answer track time input NotKept (Refused m) p q = absurd (not_both input q.refusal p.whole q.refused)
one_answer track time input NotKept NotKept p q = refl
