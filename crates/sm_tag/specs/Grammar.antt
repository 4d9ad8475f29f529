-- Of which bytes a tag is made, and what it says.
use Rattle.std.specs.Prelude.{◌≡◌, ◌≢◌, ◌<◌, ◌⊎◌, ℕ, Bool, true, false, List, [], ◌∷◌, ◌++◌, length, drop, codes, encode_utf8, nat_eq, Option, Some, None}
use Rattle.std.specs.List.{list_all, starts_with}
use Rattle.sm_model.specs.declared.tag.Attribute.{Attribute}
use Rattle.sm_model.specs.Digits.{is_digit, decimal_from}
use Rattle.sm_model.specs.declared.tag.Tag.{Tag}
use Rattle.sm_model.specs.declared.tag.Tag.TheVariants as tags
use Rattle.sm_tag.specs.declared.grammar.Markup.{Markup}
use Rattle.sm_tag.specs.declared.grammar.Markup.TheVariants as markup
use Rattle.sm_tag.specs.TagBytes.{is_space, is_text}
use Rattle.sm_tag.specs.TagParts.{is_scalar, has_name}
use Rattle.sm_tag.specs.TagText.{IsTagName, closing}

-- white space, maybe none
abbrev pub IsSpace : List ℕ → Type 0
IsSpace text = list_all is_space text ≡ true

-- a reference, and the character that it stands for
pub data Reference : List ℕ → ℕ → Type 0 where
  less : Reference (codes "&lt;") 60
  greater : Reference (codes "&gt;") 62
  ampersand : Reference (codes "&amp;") 38
  quote : Reference (codes "&quot;") 34
  apostrophe : Reference (codes "&apos;") 39
  number : (d : ℕ) (ds : List ℕ) → list_all is_digit (d ∷ ds) ≡ true → is_scalar (decimal_from 0 (d ∷ ds)) ≡ true
      → Reference (codes "&#" ++ (d ∷ ds ++ codes ";")) (decimal_from 0 (d ∷ ds))

-- what stands between two quotes q, and the bytes that it stands for: any bytes but the quote and `<`, and references
pub data Value (q : ℕ) : List ℕ → List ℕ → Type 0 where
  empty : Value q [] []
  byte : {c : ℕ} {text value : List ℕ} → c ≢ q → c ≢ 60 → c ≢ 38 → Value q text value → Value q (c ∷ text) (c ∷ value)
  reference : {r text value : List ℕ} {c : ℕ} → Reference r c → Value q text value → Value q (r ++ text) (encode_utf8 c ++ value)

-- an attribute: a name, `=` with white space around it, and a value in quotes of one kind
pub record IsAttribute (text : List ℕ) (a : Attribute) : Type 0 where
  pub before : List ℕ
  pub after : List ℕ
  pub q : ℕ
  pub inner : List ℕ
  pub name_is : IsTagName a.name
  pub before_is : IsSpace before
  pub after_is : IsSpace after
  pub quote_is : (q ≡ 34) ⊎ (q ≡ 39)
  pub value_is : Value q inner a.value
  pub text_is : text ≡ a.name ++ (before ++ (61 ∷ after ++ (q ∷ inner ++ q ∷ [])))

-- attributes, each behind white space
pub data Attributes : List ℕ → List Attribute → Type 0 where
  none : Attributes [] []
  more : (space text others : List ℕ) {a : Attribute} {rest : List Attribute} → IsSpace space → 0 < length space → IsAttribute text a → Attributes others rest
      → Attributes (space ++ (text ++ others)) (a ∷ rest)

-- no attribute has the name of one before it
abbrev pub AreNew : List Attribute → List Attribute → Type 0
AreNew before [] = Unit {0}
AreNew before (a ∷ others) = (has_name a.name before ≡ false) × AreNew (before ++ a ∷ []) others

-- a start tag: `<`, a name, attributes of which none stands twice, white space, and `>`, or `/>` of an empty element
pub record IsStart (text name : List ℕ) (attributes : List Attribute) (empty : Bool) : Type 0 where
  pub inner : List ℕ
  pub space : List ℕ
  pub name_is : IsTagName name
  pub attributes_are : Attributes inner attributes
  pub each_once : AreNew [] attributes
  pub space_is : IsSpace space
  pub text_is : text ≡ 60 ∷ name ++ (inner ++ (space ++ closing empty []))

-- an end tag: `</`, a name, white space and `>`
pub record IsFinish (text name : List ℕ) : Type 0 where
  pub space : List ℕ
  pub name_is : IsTagName name
  pub space_is : IsSpace space
  pub text_is : text ≡ codes "</" ++ (name ++ (space ++ codes ">"))

-- a text that a word ends, where the word first stands in it
pub data UpTo (word : List ℕ) : List ℕ → Type 0 where
  here : UpTo word word
  later : {c : ℕ} {text : List ℕ} → starts_with nat_eq (c ∷ text) word ≡ false → UpTo word text → UpTo word (c ∷ text)

-- what is passed over: `<!--` up to the first `-->` behind it, and `<?` up to the first `?>`
pub data IsSkipped : List ℕ → Type 0 where
  comment : {text : List ℕ} → UpTo (codes "-->") text → IsSkipped (codes "<!--" ++ text)
  instruction : {text : List ℕ} → UpTo (codes "?>") text → IsSkipped (codes "<?" ++ text)

-- what a whole piece of text is, as one of these three
abbrev pub IsMade : List ℕ → Markup → Type 0
IsMade piece (markup.Start name attributes alone) = IsStart piece name attributes alone
IsMade piece (markup.Finish name) = IsFinish piece name
IsMade piece markup.Skipped = IsSkipped piece

-- what it is, or that it is none
abbrev pub IsPiece : List ℕ → Option Markup → Type 0
IsPiece piece (Some m) = IsMade piece m
IsPiece piece None = (m : Markup) → IsMade piece m → ⊥

-- text between tags: some bytes, of which none is `<`
pub record IsRun (text : List ℕ) : Type 0 where
  pub some : 0 < length text
  pub plain : list_all is_text text ≡ true

-- a tag stands at its place in the text, and so does text between tags, which goes up to the next `<`; a fault has the place
-- of a `<`, or the text's length
abbrev pub StandsIn : List ℕ → Tag → Type 0
StandsIn text (tags.Start name attributes alone at) = (piece : List ℕ) × (rest : List ℕ) × IsStart piece name attributes alone × (drop at text ≡ piece ++ rest)
StandsIn text (tags.Finish name at) = (piece : List ℕ) × (rest : List ℕ) × IsFinish piece name × (drop at text ≡ piece ++ rest)
StandsIn text (tags.Text at) = (piece : List ℕ) × (rest : List ℕ) × IsRun piece × (drop at text ≡ piece ++ 60 ∷ rest)
StandsIn text tags.End = Unit {0}
StandsIn text (tags.Bad at) = (at ≡ length text) ⊎ ((rest : List ℕ) × (drop at text ≡ 60 ∷ rest))
