-- The lines of a manifest, read one after another.
use Rattle.std.proofs.Common.{◌≡◌, ◌-◌, ◌<◌, ◌^◌, ℕ, Bool, true, false, ◌||◌, cond, List, [], ◌∷◌, ◌++◌, length, take, Option, Some, None, Ok, refl, sym, ap, subst, ◌∙◌, append_assoc}
use Rattle.std.specs.Prelude.{decimal}
use Rattle.std.specs.List.{list_all, list_any}
use Rattle.sm_model.specs.declared.tag.Attribute.{Attribute}
use Rattle.sm_model.specs.declared.tag.Tag.{Tag}
use Rattle.sm_model.specs.declared.tag.Tag.TheVariants.{Start, Finish, Text}
use Rattle.sm_tag.specs.declared.grammar.Markup.TheVariants as markup
use Rattle.sm_model.specs.Same.{is_same}
use Rattle.sm_tag.specs.Elements.{bad_of}
use Rattle.sm_tag.specs.TagMarkup.{Markups}
use Rattle.sm_tag.specs.TagParts.{has_name}
use Rattle.sm_tag.specs.Tags.{Left, Next, Runs, follows, closes}
use Rattle.sm_tag.specs.TagText.{is_plain, IsTagName, AreWritten, attributes_then, closing, left_at, IsOpen}
use Rattle.sm_manin.specs.ManifestWalk.{Walk, step, walk}
use Rattle.sm_manout.specs.ManifestText.{attribute, option_attribute, text_attribute}
use Rattle.sm_tag.proofs.WrittenTags.{append_nil}
use Rattle.sm_tag.proofs.WrittenNext.{next_feed, next_start, next_finish}
use Rattle.sm_manout.proofs.ReadValues.{wide_plain}

-- from what is left and what was walked over, the text is without a tag at fault and is walked over with this end
abbrev pub Leads : (Walk → Type 0) → Left → Walk → Type 0
Leads Good s w = (tags : List Tag) × Runs s tags × (bad_of tags ≡ None) × Good (walk w tags)

pub on_start : (Good : Walk → Type 0) (s t : Left) (name : List ℕ) (attributes : List Attribute) (empty : Bool) (at : ℕ) (w : Walk)
    → Next s (Start name attributes empty at) t → Leads Good t (step w (Start name attributes empty at))
    → Leads Good s w
on_start Good s t name attributes empty at w next (tags, runs, bad, good) =
    (Start name attributes empty at ∷ tags, follows t next refl runs, bad, good)

on_text : (Good : Walk → Type 0) (s t : Left) (at : ℕ) (w : Walk) → Next s (Text at) t → Leads Good t w → Leads Good s w
on_text Good s t at w next (tags, runs, bad, good) = (Text at ∷ tags, follows t next refl runs, bad, good)

pub on_finish : (Good : Walk → Type 0) (s t : Left) (name : List ℕ) (at : ℕ) (w : Walk) → Next s (Finish name at) t → Leads Good t (step w (Finish name at)) → Leads Good s w
on_finish Good s t name at w next (tags, runs, bad, good) = (Finish name at ∷ tags, follows t next refl runs, bad, good)

-- a line begins with `<`
abbrev pub Begins : List ℕ → Type 0
Begins x = (y : List ℕ) × (x ≡ 60 ∷ y)

pub feed_read : (Good : Walk → Type 0) (size end : ℕ) (x : List ℕ) (names : List (List ℕ)) (w : Walk) → Begins x → IsOpen names → Leads Good (left_at size end x names) w → Leads Good (left_at size end (10 ∷ x) names) w
feed_read Good size end x names w begins open_names go =
    let P : List ℕ → Type 0 = λ l. Leads Good (left_at size end l names) w → Leads Good (left_at size end (10 ∷ l) names) w in
    subst P (sym begins.1) (λ here. on_text Good _ _ _ w (next_feed size end begins.0 names open_names) here) go

-- a line that is a start tag
pub start_line : (Good : Walk → Type 0) (size end : ℕ) (x : List ℕ) (names : List (List ℕ)) (name : List ℕ) (attributes : List Attribute) (empty : Bool) (w : Walk) → Begins x → IsOpen names
    → IsOpen (cond empty names (names ++ name ∷ [])) → Markups (name ++ attributes_then attributes (closing empty (10 ∷ x))) (Ok (markup.Start name attributes empty, 10 ∷ x))
    → ((at : ℕ) → Leads Good (left_at size end x (cond empty names (names ++ name ∷ []))) (step w (Start name attributes empty at)))
    → Leads Good (left_at size end (60 ∷ name ++ attributes_then attributes (closing empty (10 ∷ x))) names) w
start_line Good size end x names name attributes empty w begins open_names after read go =
    on_start Good _ _ name attributes empty _ w (next_start size end _ (10 ∷ x) names name attributes empty open_names read) (feed_read Good size end x _ _ begins after (go _))

-- a line that is an end tag
pub finish_line : (Good : Walk → Type 0) (size end : ℕ) (x cs : List ℕ) (names : List (List ℕ)) (name : List ℕ) (w : Walk) → Begins x → IsOpen names → IsOpen (take (length names - 1) names) → closes name names ≡ true
    → Markups cs (Ok (markup.Finish name, 10 ∷ x))
    → ((at : ℕ) → Leads Good (left_at size end x (take (length names - 1) names)) (step w (Finish name at))) → Leads Good (left_at size end (60 ∷ cs) names) w
finish_line Good size end x cs names name w begins open_names after last read go =
    on_finish Good _ _ name (end - length (60 ∷ cs)) w (next_finish size end cs (10 ∷ x) names name open_names last read) (feed_read Good size end x _ _ begins after (go (end - length (60 ∷ cs))))

-- ---- attributes

abbrev pub attr : List ℕ → List ℕ → Attribute
attr name value = record { name = name; value = value }

pub attributes_join : (xs ys : List Attribute) (rest : List ℕ) → attributes_then (xs ++ ys) rest ≡ attributes_then xs (attributes_then ys rest)
attributes_join [] ys rest = refl
attributes_join (x ∷ xs) ys rest = ap (λ (l : List ℕ). 32 ∷ x.name ++ (61 ∷ 34 ∷ x.value ++ (34 ∷ l))) (attributes_join xs ys rest)

pub attribute_text : (name value rest : List ℕ) → attribute name value ++ rest ≡ attributes_then (attr name value ∷ []) rest
unfolding attribute
attribute_text name value rest = simp append_assoc

-- the attribute of a number that may be absent
abbrev pub option_attr : List ℕ → Option ℕ → List Attribute
option_attr name None = []
option_attr name (Some n) = attr name (decimal n) ∷ []

pub option_text : (name : List ℕ) (o : Option ℕ) (rest : List ℕ) → option_attribute name o ++ rest ≡ attributes_then (option_attr name o) rest
option_text name None rest = refl
option_text name (Some n) rest = attribute_text name (decimal n) rest

-- the attribute of a text that may be empty
abbrev pub text_attr : List ℕ → List ℕ → List Attribute
text_attr name [] = []
text_attr name (c ∷ cs) = attr name (c ∷ cs) ∷ []

pub text_text : (name value rest : List ℕ) → text_attribute name value ++ rest ≡ attributes_then (text_attr name value) rest
text_text name [] rest = refl
text_text name (c ∷ cs) rest = attribute_text name (c ∷ cs) rest

-- no other names were seen than these
abbrev pub Within : List (List ℕ) → List Attribute → Type 0
Within names seen = (n : List ℕ) → list_any (is_same n) names ≡ false → has_name n seen ≡ false

-- behind attributes of the first names these can be written, and then no others than the second were seen
pub record Written (names after : List (List ℕ)) (more : List Attribute) : Type 0 where
  pub go : (seen : List Attribute) → Within names seen → AreWritten seen more × Within after (seen ++ more)

written_join : (seen xs ys : List Attribute) → AreWritten seen xs → AreWritten (seen ++ xs) ys → AreWritten seen (xs ++ ys)
written_join seen [] ys first second = subst (λ (l : List Attribute). AreWritten l ys) (append_nil seen) second
written_join seen (x ∷ xs) ys first second =
    (first.0, first.1, first.2, written_join (seen ++ x ∷ []) xs ys first.3 (subst (λ (l : List Attribute). AreWritten l ys) (sym (append_assoc seen (x ∷ []) xs)) second))

pub and_then : {a b c : List (List ℕ)} {xs ys : List Attribute} → Written a b xs → Written b c ys → Written a c (xs ++ ys)
and_then {a} {b} {c} {xs} {ys} first second = record {
  go = λ seen within.
      let one = first.go seen within in
      let two = second.go (seen ++ xs) one.1 in
      (written_join seen xs ys one.0 two.0, subst (λ (l : List Attribute). Within c l) (append_assoc seen xs ys) two.1);
}

seen_more : (n : List ℕ) (seen : List Attribute) (a : Attribute) → has_name n seen ≡ false → is_same n a.name ≡ false → has_name n (seen ++ a ∷ []) ≡ false
seen_more n [] a none other = rw other refl
seen_more n (x ∷ seen) a none other = by_or (is_same n x.name) none (λ k. seen_more n seen a k other)
  where
    by_or : (b : Bool) → (b || has_name n seen) ≡ false → (has_name n seen ≡ false → has_name n (seen ++ a ∷ []) ≡ false) → (b || has_name n (seen ++ a ∷ [])) ≡ false
    by_or true e rest = absurd cc
    by_or false e rest = rest e

last_name : (n m : List ℕ) (names : List (List ℕ)) → list_any (is_same n) (names ++ m ∷ []) ≡ false → (list_any (is_same n) names ≡ false) × (is_same n m ≡ false)
last_name n m [] e = (refl, by_or (is_same n m) e)
  where
    by_or : (b : Bool) → (b || false) ≡ false → b ≡ false
    by_or true e = absurd cc
    by_or false e = refl
last_name n m (x ∷ names) e = by_or (is_same n x) e (λ k. last_name n m names k)
  where
    by_or : (b : Bool) → (b || list_any (is_same n) (names ++ m ∷ [])) ≡ false → (list_any (is_same n) (names ++ m ∷ []) ≡ false → (list_any (is_same n) names ≡ false) × (is_same n m ≡ false))
        → ((b || list_any (is_same n) names) ≡ false) × (is_same n m ≡ false)
    by_or true e rest = absurd cc
    by_or false e rest = rest e

pub one_written : (names : List (List ℕ)) (name value : List ℕ) → IsTagName name → list_all is_plain value ≡ true → list_any (is_same name) names ≡ false → Written names (names ++ name ∷ []) (attr name value ∷ [])
one_written names name value is plain new = record {
  go = λ seen within. ((is, plain, within name new, tt), λ n none. let parts = last_name n name names none in seen_more n seen (attr name value) (within n parts.0) parts.1);
}

pub none_written : (names : List (List ℕ)) (name : List ℕ) → Written names (names ++ name ∷ []) []
none_written names name = record {
  go = λ seen within. (tt, λ n none. subst (λ (l : List Attribute). has_name n l ≡ false) (sym (append_nil seen)) (within n (last_name n name names none).0));
}

pub option_written : (names : List (List ℕ)) (name : List ℕ) (o : Option ℕ) → IsTagName name → ((n : ℕ) → o ≡ Some n → n < 2 ^ 64)
    → list_any (is_same name) names ≡ false → Written names (names ++ name ∷ []) (option_attr name o)
option_written names name None is narrow new = none_written names name
option_written names name (Some n) is narrow new = one_written names name (decimal n) is (wide_plain n (narrow n refl)) new

pub text_written : (names : List (List ℕ)) (name value : List ℕ) → IsTagName name → list_all is_plain value ≡ true → list_any (is_same name) names ≡ false → Written names (names ++ name ∷ []) (text_attr name value)
text_written names name [] is plain new = none_written names name
text_written names name (c ∷ cs) is plain new = one_written names name (c ∷ cs) is plain new

pub all_written : (names : List (List ℕ)) (xs : List Attribute) → Written [] names xs → AreWritten [] xs
all_written names xs written = (written.go [] (λ n none. refl)).0

-- a text is so many attributes, whatever follows
abbrev pub Spells : List ℕ → List Attribute → Type 0
Spells text attributes = (rest : List ℕ) → text ++ rest ≡ attributes_then attributes rest

pub spells_join : (a b : List ℕ) (xs ys : List Attribute) → Spells a xs → Spells b ys → Spells (a ++ b) (xs ++ ys)
spells_join a b xs ys first second rest =
    append_assoc a b rest ∙ ap (λ (l : List ℕ). a ++ l) (second rest) ∙ first (attributes_then ys rest) ∙ sym (attributes_join xs ys rest)

-- attributes, and what stands behind them
pub spells_then : (a e x y : List ℕ) (xs : List Attribute) → Spells a xs → e ++ x ≡ y → (a ++ e) ++ x ≡ attributes_then xs y
spells_then a e x y xs spells ends = append_assoc a e x ∙ ap (λ (l : List ℕ). a ++ l) ends ∙ spells y
