-- Texts that are names.
use Rattle.std.proofs.Common.{◌≡◌, ◌≤◌, ◌<◌, ◌+◌, ℕ, Bool, true, false, cond, ◌&&◌, nat_le, List, [], ◌∷◌, ◌++◌, length, map, drop, get_or, string_bytes, String, Global}
use Rattle.std.proofs.Common.{Some, None, refl, sym, ap, ◌∙◌}
use Rattle.std.specs.List.{list_all}
use Rattle.std.proofs.lemmas.Bool.{le-leb, lt-leb}
use Rattle.std.proofs.lemmas.List.{at_drop_more, at_drop_all, length-map}
use Rattle.sm_model.specs.Names.{is_name}
use Rattle.sm_words.specs.Words.{Text, name_by, streams_by}
use Rattle.sm_words.proofs.Adding.{AddedUpTo, added_more, added_all}

-- a text is a name, and the same text; or it is none
name_cases : (b : Bool) (t n : Text) → Some n ≡ cond b (Some t) None → (b ≡ true) × (n ≡ t)
name_cases true t n e = let same : n ≡ t = cc in (refl, same)
name_cases false t n e = absurd (cc)

pub named : (t n : Text) → Some n ≡ name_by t → (is_name t ≡ true) × (n ≡ t)
named t n e = name_cases (is_name t) t n e

none_cases : (b : Bool) (t : Text) → None ≡ cond b (Some t) None → b ≡ false
none_cases true t e = absurd (cc)
none_cases false t e = refl

pub unnamed : (t : Text) → None ≡ name_by t → is_name t ≡ false
unnamed t e = none_cases (is_name t) t e

-- the texts before this one are names, and what was made of them is the same texts
pub record NamedUpTo (texts : List (String Global)) (sofar : List Text) (i : ℕ) : Type 0 where
  pub added : AddedUpTo string_bytes texts [] sofar i
  pub names : list_all is_name (map string_bytes texts) ≡ list_all is_name (map string_bytes (drop i texts))

pub named_none_yet : (texts : List (String Global)) (sofar : List Text) → sofar ≡ [] → NamedUpTo texts sofar 0
named_none_yet texts sofar e = record { added = ap (λ (l : List Text). l ++ map string_bytes texts) e; names = refl }

pub named_more : (texts : List (String Global)) (sofar now : List Text) (i : ℕ) (d x : String Global) (n : Text) → i < length texts → x ≡ get_or texts i d
    → Some n ≡ name_by (string_bytes x) → now ≡ sofar ++ n ∷ [] → NamedUpTo texts sofar i → NamedUpTo texts now (i + 1)
named_more texts sofar now i d x n lt is some adds h =
    let one = named (string_bytes x) n some in
    record {
      added = added_more string_bytes texts [] sofar now i d x lt is (adds ∙ ap (λ (t : Text). sofar ++ t ∷ []) one.1) h.added;
      names = h.names ∙ at_drop_more (λ xs. list_all is_name (map string_bytes xs)) texts i d lt
          ∙ ap (λ y. is_name (string_bytes y) && list_all is_name (map string_bytes (drop (i + 1) texts))) (sym is)
          ∙ ap (λ (b : Bool). b && list_all is_name (map string_bytes (drop (i + 1) texts))) one.0;
    }

few : (texts : List (String Global)) → length texts ≤ 16 → nat_le (length (map string_bytes texts)) 16 ≡ true
few texts le = ap (λ (n : ℕ). nat_le n 16) (length-map texts string_bytes) ∙ le-leb (length texts) 16 le

streams_cases : (a b : Bool) (names : List Text) → a ≡ true → b ≡ true → cond (a && b) (Some names) None ≡ Some names
streams_cases a b names p q = ap (λ (c : Bool). cond (c && b) (Some names) None) p ∙ ap (λ (c : Bool). cond c (Some names) None) q

pub all_named : (texts : List (String Global)) (sofar : List Text) (i : ℕ) → length texts ≤ 16 → length texts ≤ i → NamedUpTo texts sofar i
    → Some sofar ≡ streams_by (map string_bytes texts)
all_named texts sofar i le end h =
    ap (λ (l : List Text). Some l) (added_all string_bytes texts [] sofar i end h.added)
    ∙ sym (streams_cases _ _ (map string_bytes texts) (few texts le) (h.names ∙ at_drop_all (λ xs. list_all is_name (map string_bytes xs)) texts i end))

no_streams : (a b : Bool) (names : List Text) → b ≡ false → None ≡ cond (a && b) (Some names) None
no_streams true b names p = sym (ap (λ (c : Bool). cond c (Some names) None) p)
no_streams false b names p = refl

pub one_unnamed : (texts : List (String Global)) (sofar : List Text) (i : ℕ) (d x : String Global) → i < length texts → x ≡ get_or texts i d
    → None ≡ name_by (string_bytes x) → NamedUpTo texts sofar i → None ≡ streams_by (map string_bytes texts)
one_unnamed texts sofar i d x lt is none h =
    no_streams (nat_le (length (map string_bytes texts)) 16) _ (map string_bytes texts)
    (h.names ∙ at_drop_more (λ xs. list_all is_name (map string_bytes xs)) texts i d lt
    ∙ ap (λ y. is_name (string_bytes y) && list_all is_name (map string_bytes (drop (i + 1) texts))) (sym is)
    ∙ ap (λ (b : Bool). b && list_all is_name (map string_bytes (drop (i + 1) texts))) (unnamed (string_bytes x) none))

many_cases : (a b : Bool) (names : List Text) → a ≡ false → None ≡ cond (a && b) (Some names) None
many_cases a b names p = sym (ap (λ (c : Bool). cond (c && b) (Some names) None) p)

pub too_many : (texts : List (String Global)) → 16 < length texts → None ≡ streams_by (map string_bytes texts)
too_many texts gt = many_cases _ (list_all is_name (map string_bytes texts)) (map string_bytes texts) (ap (λ (n : ℕ). nat_le n 16) (length-map texts string_bytes) ∙ lt-leb (length texts) 16 gt)
