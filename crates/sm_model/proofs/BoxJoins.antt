-- The boxes that are computed are those whose texts are joined.
use Rattle.std.proofs.Common.{◌≡◌, ℕ, zero, suc, Bool, true, false, cond, List, [], ◌∷◌, ◌++◌, length, drop, take, Option, Some, None, refl, sym, ap, subst, ◌∙◌}
use Rattle.std.specs.Option.{option_map}
use Rattle.std.specs.List.{flat_map, AllZip}
use Rattle.std.proofs.lemmas.List.{take-append-drop}
use Rattle.sm_model.specs.Boxes.{Box, IsBoxText, IsBoxes, box_len, box_of, starts_whole, boxes_in, boxes}
use Rattle.sm_model.proofs.BoxLemmas.{boxes-nil, boxes-whole}
use Rattle.sm_model.proofs.BoxTexts.{text_front, front_text}

abbrev join : List (List ℕ) → List ℕ
join texts = flat_map (λ text. text) texts

joined_from : (texts : List (List ℕ)) (xs : List Box) → AllZip IsBoxText texts xs → boxes (join texts) ≡ Some xs
joined_from [] [] each = boxes-nil
joined_from [] (x ∷ xs) each = absurd each
joined_from (text ∷ texts) [] each = absurd each
joined_from (text ∷ texts) (x ∷ xs) each =
    let f = text_front text (join texts) x each.0 in
    boxes-whole (text ++ join texts) f.whole
    ∙ ap (λ (y : Box). option_map (λ (ys : List Box). y ∷ ys) (boxes (drop (box_len (text ++ join texts)) (text ++ join texts)))) f.box_is
    ∙ ap (λ (b : List ℕ). option_map (λ (ys : List Box). x ∷ ys) (boxes b)) f.behind
    ∙ ap (option_map (λ (ys : List Box). x ∷ ys)) (joined_from texts xs each.1)

pub boxes_from : (b : List ℕ) (xs : List Box) → IsBoxes b xs → boxes b ≡ Some xs
boxes_from b xs is = ap boxes is.joined ∙ joined_from is.texts xs is.each

abbrev nothing : Option (List Box)
nothing = None

abbrev just : List Box → Option (List Box)
just xs = Some xs

no_none : (xs : List Box) → nothing ≡ just xs → ⊥
no_none xs e = cc

some_is : (xs ys : List Box) → just xs ≡ just ys → xs ≡ ys
some_is xs ys e = cc

-- one box more, in front
more : (b : List ℕ) (xs : List Box) → starts_whole b ≡ true → IsBoxes (drop (box_len b) b) xs → IsBoxes b (box_of b ∷ xs)
more b xs w rest = record {
  texts = take (box_len b) b ∷ rest.texts;
  each = (front_text b w, rest.each);
  joined = sym (take-append-drop (box_len b) b) ∙ ap (λ (c : List ℕ). take (box_len b) b ++ c) rest.joined;
}

to_more : (b : List ℕ) (t : Bool) (o : Option (List Box)) (xs : List Box) → starts_whole b ≡ t
    → cond t (option_map (λ ys. box_of b ∷ ys) o) None ≡ Some xs → ((ys : List Box) → o ≡ Some ys → IsBoxes (drop (box_len b) b) ys) → IsBoxes b xs
to_more b false o xs w e k = absurd (no_none xs e)
to_more b true None xs w e k = absurd (no_none xs e)
to_more b true (Some ys) xs w e k = subst (IsBoxes b) (some_is (box_of b ∷ ys) xs e) (more b ys w (k ys refl))

none_joined : IsBoxes [] []
none_joined = record { texts = []; each = tt; joined = refl }

to : (n : ℕ) (b : List ℕ) (xs : List Box) → boxes_in n b ≡ Some xs → IsBoxes b xs
unfolding boxes_in
to n [] xs e = subst (IsBoxes []) (some_is [] xs e) none_joined
to zero (c ∷ b) xs e = absurd (no_none xs e)
to (suc n) (c ∷ b) xs e = to_more (c ∷ b) (starts_whole (c ∷ b)) (boxes_in n (drop (box_len (c ∷ b)) (c ∷ b))) xs refl e (to n (drop (box_len (c ∷ b)) (c ∷ b)))

pub boxes_to : (b : List ℕ) (xs : List Box) → boxes b ≡ Some xs → IsBoxes b xs
unfolding boxes
boxes_to b xs e = to (length b) b xs e
