-- Bytes are boxes and a rest, and a text of boxes is its boxes alone.
use Rattle.std.proofs.Common.{◌≡◌, ℕ, zero, suc, ◌≤◌, Bool, true, false, List, [], ◌∷◌, ◌++◌, length, take, drop, map, refl, sym, ap, subst, ◌∙◌, arith}
use Rattle.std.specs.Prelude.{◌↔◌}
use Rattle.std.specs.List.{AllByRecursion, AllZip}
use Rattle.std.proofs.lemmas.List.{append_assoc, append-nil, take-append-drop, length-take, length-drop}
use Rattle.sm_model.specs.Boxes.{Box, IsBoxText, IsBoxes, IsOneBox, starts_whole, box_len, box_of}
use Rattle.sm_model.proofs.BoxLemmas.{lengths, long_box, long_text, size_of}
use Rattle.sm_push.specs.Boxes.{bytes_of, Splits}
use Rattle.sm_push.proofs.Fronts.{one_box}
use Rattle.sm_push.proofs.Boxes.{ReadsWhole, head_take}

-- the box in front of bytes
one_front : ReadsWhole → (b : List ℕ) → starts_whole b ≡ true → IsOneBox (take (box_len b) b)
one_front reads b whole =
    let fits : (box_of b).size ≤ length b = omega (arith, size_of b, (lengths b whole).size) in
    let len : length (take (box_of b).size b) ≡ (box_of b).size = omega (arith, length-take (box_of b).size b) in
    let head = head_take b (box_of b).kind (box_of b).head (box_of b).size (reads b whole) fits in
    subst (λ (n : ℕ). IsOneBox (take n b)) (size_of b) (one_box (take (box_of b).size b) (box_of b).kind (box_of b).head (box_of b).size head len)

-- with a front before them
front_joins : (n : ℕ) (b more rest : List ℕ) → drop n b ≡ more ++ rest → b ≡ (take n b ++ more) ++ rest
front_joins n b more rest e = sym (take-append-drop n b) ∙ ap (λ (xs : List ℕ). take n b ++ xs) e ∙ sym (append_assoc (take n b) more rest)

abbrev SomeSplit : List ℕ → Type 0
SomeSplit b = (boxes : List (List ℕ)) × (rest : List ℕ) × Splits b boxes rest

split_at : ReadsWhole → (fuel : ℕ) (b : List ℕ) → length b ≤ fuel → (whole : Bool) → starts_whole b ≡ whole → SomeSplit b
split_at reads fuel b le false e = ([], b, record { whole = refl; each = tt; last = e })
split_at reads zero b le true e = absurd (omega (arith, long_text b e))
split_at reads (suc fuel) b le true e =
    let after : SomeSplit (drop (box_len b) b) = split_at reads fuel (drop (box_len b) b) (omega (arith, length-drop (box_len b) b, long_box b e, long_text b e)) (starts_whole (drop (box_len b) b)) refl in (
      take (box_len b) b ∷ after.0,
      after.1,
      record {
        whole = front_joins (box_len b) b (bytes_of after.0) after.1 after.2.whole;
        each = (one_front reads b e, after.2.each);
        last = after.2.last;
      },
    )

pub split_all : ReadsWhole → (b : List ℕ) → SomeSplit b
split_all reads b = split_at reads (length b) b (omega arith) (starts_whole b) refl

-- ---- texts of boxes

pub none_whole : starts_whole [] ≡ false
unfolding starts_whole
none_whole = refl

-- one text is that of the box as which it is read
abbrev pub TextsAre : Type 0
TextsAre = (b : List ℕ) (x : Box) → IsBoxText b x ↔ (IsOneBox b × (box_of b ≡ x))

texts_of : TextsAre → (boxes : List (List ℕ)) → AllByRecursion IsOneBox boxes → AllZip IsBoxText boxes (map box_of boxes)
texts_of are [] each = tt
texts_of are (box ∷ boxes) each = ((are box (box_of box)).1 (each.0, refl), texts_of are boxes each.1)

-- whole boxes without a rest are a text of boxes
pub alone_boxes : TextsAre → (b : List ℕ) (boxes : List (List ℕ)) → Splits b boxes [] → IsBoxes b (map box_of boxes)
alone_boxes are b boxes s = record { texts = boxes; each = texts_of are boxes s.each; joined = s.whole ∙ append-nil (bytes_of boxes) }

ones_of : TextsAre → (texts : List (List ℕ)) (xs : List Box) → AllZip IsBoxText texts xs → AllByRecursion IsOneBox texts × (xs ≡ map box_of texts)
ones_of are [] [] each = (tt, refl)
ones_of are [] (x ∷ xs) each = absurd each
ones_of are (text ∷ texts) [] each = absurd each
ones_of are (text ∷ texts) (x ∷ xs) each =
    let one = (are text x).0 each.0 in
    let more = ones_of are texts xs each.1 in
    ((one.0, more.0), ap (λ (y : Box). y ∷ xs) (sym one.1) ∙ ap (λ (ys : List Box). box_of text ∷ ys) more.1)

-- and a text of boxes is whole boxes without a rest
pub boxes_alone : TextsAre → (b : List ℕ) (xs : List Box) → IsBoxes b xs → (boxes : List (List ℕ)) × Splits b boxes [] × (xs ≡ map box_of boxes)
boxes_alone are b xs is =
    let ones = ones_of are is.texts xs is.each in
    (is.texts, record { whole = is.joined ∙ sym (append-nil (bytes_of is.texts)); each = ones.0; last = none_whole }, ones.1)
