-- A decision is one on the head that stands in front.
use Rattle.std.proofs.Common.{◌≡◌, ℕ, ltb, eqb, List, length, refl, inl, inr}
use Rattle.std.proofs.lemmas.Bool.{cases_Bool}
use Rattle.sm_push.specs.declared.state.PushState.{PushState}
use Rattle.sm_model.specs.Numbers.{number32_at}
use Rattle.sm_model.specs.Boxes.{head_len, box_len}
use Rattle.sm_push.specs.PushHeads.{decision}
use Rattle.sm_box.specs.Heads.{head_of}
use Rattle.sm_push.specs.Heads.{by_head}

pub decision_is : (s : PushState) (b : List ℕ) → decision s b ≡ by_head s b (head_of b)
unfolding decision head_of
decision_is s b =
    elim (cases_Bool (ltb (length b) 8)) [
      | inl e ↦ rw e refl
      | inr e ↦ rw e (elim (cases_Bool (eqb (number32_at 0 b) 0)) [
        | inl f ↦ rw f refl
        | inr f ↦ rw f (elim (cases_Bool (ltb (length b) (head_len b))) [
          | inl g ↦ rw g refl
          | inr g ↦ rw g (elim (cases_Bool (ltb (box_len b) (head_len b))) [
            | inl h ↦ rw h refl
            | inr h ↦ rw h refl
          ])
        ])
      ])
    ]
