-- The tags of a whole text.
use Rattle.std.specs.Prelude.{◌≡◌, ◌≢◌, ℕ, ◌-◌, Bool, true, false, ◌||◌, ◌&&◌, not, List, [], ◌∷◌, ◌++◌, length, take, drop, Option, Some, None, Ok, Err, nat_le}
use Rattle.std.specs.Prelude.{nat_lt, nat_eq, slice_index_or, ◌==◌, if◌then◌else◌}
use Rattle.std.specs.List.{starts_with}
use Rattle.std.specs.Cmp.Lexicographic.{pointwise}
use Rattle.sm_model.specs.declared.tag.Attribute.{Attribute}
use Rattle.sm_tag.specs.declared.grammar.Markup.{Markup}
use Rattle.sm_tag.specs.declared.grammar.Markup.TheVariants.{Skipped}
use Rattle.sm_tag.specs.declared.grammar.Markup.TheVariants as markup
use Rattle.sm_tag.specs.declared.grammar.Lead.{Lead}
use Rattle.sm_tag.specs.declared.grammar.Lead.TheVariants as lead
use Rattle.sm_model.specs.declared.tag.Tag.{Tag}
use Rattle.sm_model.specs.declared.tag.Tag.TheVariants.{Start, Finish, Text, End, Bad}
use Rattle.sm_tag.specs.TagParts.{short, wrong}
use Rattle.sm_tag.specs.TagMarkup.{Markups, lead_at}

-- What a reader of tags has left: the text's length, its length without the zero bytes at its end, the bytes that
-- are left, the names of the open elements from the outermost on, whether that one was begun, and the place of a fault.
pub record Left : Type 0 where
  pub size : ℕ
  pub end : ℕ
  pub rest : List ℕ
  pub open_names : List (List ℕ)
  pub begun : Bool
  pub bad : Option ℕ

-- What comes next, where comments and the like are passed over: what it is, the tag if it is one, how many bytes are
-- left from its place on, and what is behind it. A tag that the text ends in is Lost, one with a wrong byte is Stray.
pub data Founds (inside : Bool) : List ℕ → Lead × Markup × ℕ × List ℕ → Type 0 where
  bare : {bytes rest : List ℕ} {l : Lead} {left : ℕ} → lead_at inside bytes ≡ (l, left, rest) → l ≢ lead.Tag → Founds inside bytes (l, Skipped, left, rest)
  lost : {bytes rest : List ℕ} {left : ℕ} → lead_at inside bytes ≡ (lead.Tag, left, rest) → Markups rest (Err short)
      → Founds inside bytes (lead.Lost, Skipped, 0, [])
  stray : {bytes rest : List ℕ} {left : ℕ} → lead_at inside bytes ≡ (lead.Tag, left, rest) → Markups rest (Err wrong)
      → Founds inside bytes (lead.Stray, Skipped, left, [])
  marked : {bytes rest more : List ℕ} {left : ℕ} {m : Markup} → lead_at inside bytes ≡ (lead.Tag, left, rest) → Markups rest (Ok (m, more)) → m ≢ Skipped
      → Founds inside bytes (lead.Tag, m, left, more)
  skipped : {bytes rest more : List ℕ} {left : ℕ} {f : Lead × Markup × ℕ × List ℕ} → lead_at inside bytes ≡ (lead.Tag, left, rest)
      → Markups rest (Ok (Skipped, more)) → Founds inside more f → Founds inside bytes f

-- the innermost open element has that name
abbrev pub closes : List ℕ → List (List ℕ) → Bool
closes name open_names =
    nat_lt 0 (length open_names) && pointwise nat_eq (slice_index_or open_names (length open_names - 1) []) name

abbrev pub fails : Left → ℕ → Tag × Left
fails s at = (Bad at, record s { bad = Some at })

-- a start tag: there is one outermost element, and at most 32 are open
abbrev pub starts : Left → List ℕ → List Attribute → Bool → ℕ → List ℕ → Tag × Left
starts s name attributes empty at rest =
    if (s.begun && length s.open_names == 0) || nat_le 32 (length s.open_names) then fails s at
    else (
      Start name attributes empty at,
      record s { rest = rest; begun = true; open_names = if empty then s.open_names else s.open_names ++ name ∷ [] },
    )

-- an end tag has the name of the innermost open element
abbrev pub finishes : Left → List ℕ → ℕ → List ℕ → Tag × Left
finishes s name at rest =
    if closes name s.open_names then (Finish name at, record s { rest = rest; open_names = take (length s.open_names - 1) s.open_names }) else fails s at

abbrev pub marks : Left → Markup → ℕ → List ℕ → Tag × Left
marks s markup.Skipped at rest = fails s at
marks s (markup.Finish name) at rest = finishes s name at rest
marks s (markup.Start name attributes empty) at rest = starts s name attributes empty at rest

-- what a text that goes on so gives, and what is left behind it
abbrev pub gives : Left → Lead → Markup → ℕ → List ℕ → Tag × Left
gives s lead.Ended m left rest = if s.begun then (End, s) else fails s s.size
gives s lead.Lost m left rest = fails s s.size
gives s lead.Stray m left rest = fails s (s.end - left)
gives s lead.Run m left rest = (Text (s.end - left), record s { rest = rest })
gives s lead.Tag m left rest = marks s m (s.end - left) rest

abbrev pub continues : Left → Tag × Left → Option ℕ → Type 0
continues s step (Some at) = step ≡ (Bad at, s)
continues s step None =
    (f : Lead × Markup × ℕ × List ℕ) × Founds (not (length s.open_names == 0)) s.rest f × (step ≡ gives s f.0 f.1 f.2 f.3)

-- the next tag of what is left, and what is left behind it; behind a fault it is the fault again
abbrev pub Next : Left → Tag → Left → Type 0
Next s tag t = continues s (tag, t) s.bad

abbrev pub is_last : Tag → Bool
is_last End = true
is_last (Bad at) = true
is_last (Text at) = false
is_last (Start name attributes empty at) = false
is_last (Finish name at) = false

-- the tags of what is left, up to the end or the first fault
pub data Runs : Left → List Tag → Type 0 where
  ends : {s : Left} {tag : Tag} (t : Left) → Next s tag t → is_last tag ≡ true → Runs s (tag ∷ [])
  follows : {s : Left} {tag : Tag} {tags : List Tag} (t : Left) → Next s tag t → is_last tag ≡ false → Runs t tags → Runs s (tag ∷ tags)

abbrev pub kept : ℕ → List ℕ → List ℕ
kept c [] = if c == 0 then [] else c ∷ []
kept c (d ∷ ds) = c ∷ d ∷ ds

-- without the zero bytes at the end
abbrev pub without_zeros : List ℕ → List ℕ
without_zeros [] = []
without_zeros (c ∷ cs) = kept c (without_zeros cs)

-- without the byte order mark of UTF-8 in front
abbrev pub without_mark : List ℕ → List ℕ
without_mark bytes = if starts_with nat_eq bytes (239 ∷ 187 ∷ 191 ∷ []) then drop 3 bytes else bytes

-- before the first tag
abbrev pub begin : List ℕ → Left
begin text =
    record { size = length text; end = length (without_zeros text); rest = without_mark (without_zeros text); open_names = []; begun = false; bad = None }

-- the tags of a whole text, the last of which is its end or its first fault
abbrev pub TagsOf : List ℕ → List Tag → Type 0
TagsOf text tags = Runs (begin text) tags
