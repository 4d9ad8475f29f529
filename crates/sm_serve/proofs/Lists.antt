-- Lists that are walked.
use Rattle.std.proofs.Common.{◌≡◌, ℕ, zero, suc, ◌+◌, ◌<◌, ◌≤◌, List, [], ◌∷◌, ◌++◌, length, take, drop, get_or, append_assoc, refl, sym, ◌∙◌, ap, add-one, drop-cons, arith}
use Rattle.std.specs.Prelude.{map}
use Rattle.std.proofs.lemmas.List.{append-nil, take_more, take-append-drop, drop-drop, map-append}
use Rattle.std.proofs.Math.Seq.{take-add}
use Rattle.std.proofs.lemmas.Grind.{flat_map-append}
use Rattle.sm_conn.specs.declared.part.Part.{Part}
use Rattle.sm_conn.specs.Stands.{items_of, joined}
use Rattle.sm_model.specs.declared.item.Item.{Item}
use Rattle.sm_conn.specs.Parts.{PartItem, byte}
use Rattle.sm_wire.specs.declared.item.WireItem.{WireItem}
use Rattle.sm_serve.specs.Items.{shown_item}

pub next_of : {A : Type 0} (xs : List A) (i : ℕ) (x : A) → i < length xs → x ≡ get_or xs i x → drop i xs ≡ x ∷ drop (i + 1) xs
next_of xs i x within is = rw add-one (drop-cons xs i x within ∙ ap (λ y. y ∷ drop (suc i) xs) (sym is))

pub next_shown : (xs : List Item) (i : ℕ) (x : Item) (more : List WireItem) → i < length xs → x ≡ get_or xs i x → map shown_item (drop i xs) ++ more ≡ shown_item x ∷ (map shown_item (drop (i + 1) xs) ++ more)
next_shown xs i x more within is = ap (λ (ys : List Item). map shown_item ys ++ more) (next_of xs i x within is)

pub drop_all : {A : Type 0} (i : ℕ) (xs : List A) → length xs ≤ i → drop i xs ≡ []
drop_all zero [] le = refl
drop_all (suc i) [] le = refl
drop_all zero (x ∷ xs) le = absurd (omega arith)
drop_all (suc i) (x ∷ xs) le = drop_all i xs (omega arith)

pub joined_drop : (ps : List Part) (i : ℕ) (x : Part) (more : List PartItem) → i < length ps → x ≡ get_or ps i x → joined (drop i ps) ++ more ≡ items_of x ++ (joined (drop (i + 1) ps) ++ more)
joined_drop ps i x more within is = ap (λ (qs : List Part). joined qs ++ more) (next_of ps i x within is) ∙ append_assoc (items_of x) (joined (drop (i + 1) ps)) more

pub joined_take : (ps : List Part) (i : ℕ) (x : Part) → i < length ps → x ≡ get_or ps i x → joined (take (i + 1) ps) ≡ joined (take i ps) ++ items_of x
joined_take ps i x within is =
    ap joined (take_more ps i x within) ∙ flat_map-append items_of (take i ps) (get_or ps i x ∷ []) ∙ ap (λ (qs : List PartItem). joined (take i ps) ++ qs) (append-nil (items_of (get_or ps i x)))
    ∙ ap (λ (y : Part). joined (take i ps) ++ items_of y) (sym is)

-- bytes of a part, cut behind some more
pub bytes_split : (bytes piece : List ℕ) (i n : ℕ) (more : List PartItem) → piece ≡ take n (drop i bytes) → map byte (drop i bytes) ++ more ≡ map byte piece ++ (map byte (drop (i + n) bytes) ++ more)
bytes_split bytes piece i n more is =
    ap (λ (xs : List ℕ). map byte xs ++ more) (sym (take-append-drop n (drop i bytes))) ∙ ap (λ (ps : List PartItem). ps ++ more) (map-append byte (take n (drop i bytes)) (drop n (drop i bytes)))
    ∙ append_assoc (map byte (take n (drop i bytes))) (map byte (drop n (drop i bytes))) more
    ∙ ap (λ (xs : List ℕ). map byte xs ++ (map byte (drop n (drop i bytes)) ++ more)) (sym is) ∙ ap (λ (xs : List ℕ). map byte piece ++ (map byte xs ++ more)) (drop-drop n i bytes)

pub bytes_more : (bytes piece : List ℕ) (i n : ℕ) → piece ≡ take n (drop i bytes) → map byte (take (i + n) bytes) ≡ map byte (take i bytes) ++ map byte piece
bytes_more bytes piece i n is = ap (λ (xs : List ℕ). map byte xs) (take-add i n bytes) ∙ map-append byte (take i bytes) (take n (drop i bytes)) ∙ ap (λ (xs : List ℕ). map byte (take i bytes) ++ map byte xs) (sym is)
