-- The next tag of a written text, where the reader has begun.
use Rattle.std.proofs.Common.{◌≡◌, ℕ, ◌-◌, Bool, true, not, cond, List, [], ◌∷◌, ◌++◌, length, take, Ok, refl, sym, subst}
use Rattle.sm_model.specs.declared.tag.Attribute.{Attribute}
use Rattle.sm_model.specs.declared.tag.Tag.TheVariants.{Start, Finish, Text}
use Rattle.sm_tag.specs.declared.grammar.Markup.{Markup}
use Rattle.sm_tag.specs.declared.grammar.Markup.TheVariants as markup
use Rattle.sm_tag.specs.declared.grammar.Lead.{Lead}
use Rattle.sm_tag.specs.declared.grammar.Lead.TheVariants as lead
use Rattle.sm_tag.specs.TagMarkup.{Markups, lead_at}
use Rattle.sm_tag.specs.Tags.{Founds, bare, marked, Next, closes}
use Rattle.sm_tag.specs.TagText.{left_at, IsOpen}

lead_tag : (cs : List ℕ) → lead_at true (60 ∷ cs) ≡ (lead.Tag, length (60 ∷ cs), cs)
unfolding lead_at
lead_tag cs = refl

lead_feed : (cs : List ℕ) → lead_at true (10 ∷ 60 ∷ cs) ≡ (lead.Run, length (10 ∷ 60 ∷ cs), 60 ∷ cs)
unfolding lead_at
lead_feed cs = refl

-- the line feed before a tag
pub next_feed : (size end : ℕ) (cs : List ℕ) (names : List (List ℕ)) → IsOpen names → Next (left_at size end (10 ∷ 60 ∷ cs) names) (Text (end - length (10 ∷ 60 ∷ cs))) (left_at size end (60 ∷ cs) names)
next_feed size end cs names open_names =
    let P : Bool → Type 0 = λ b. Founds (not b) (10 ∷ 60 ∷ cs) (lead.Run, markup.Skipped, length (10 ∷ 60 ∷ cs), 60 ∷ cs) in
    ((lead.Run, markup.Skipped, length (10 ∷ 60 ∷ cs), 60 ∷ cs), subst P (sym open_names.0) (bare (lead_feed cs) (λ e. cc e)), refl)

-- a start tag
pub next_start : (size end : ℕ) (cs more : List ℕ) (names : List (List ℕ)) (name : List ℕ) (attributes : List Attribute) (empty : Bool) → IsOpen names
    → Markups cs (Ok (markup.Start name attributes empty, more))
    → Next (left_at size end (60 ∷ cs) names) (Start name attributes empty (end - length (60 ∷ cs))) (left_at size end more (cond empty names (names ++ name ∷ [])))
next_start size end cs more names name attributes empty open_names read =
    let f : Lead × Markup × ℕ × List ℕ = (lead.Tag, markup.Start name attributes empty, length (60 ∷ cs), more) in
    let P : Bool → Type 0 = λ b. Founds (not b) (60 ∷ cs) f in
    (f, subst P (sym open_names.0) (marked (lead_tag cs) read (λ e. cc e)), rw (open_names.0, open_names.1) refl)

-- an end tag
pub next_finish : (size end : ℕ) (cs more : List ℕ) (names : List (List ℕ)) (name : List ℕ) → IsOpen names → closes name names ≡ true
    → Markups cs (Ok (markup.Finish name, more))
    → Next (left_at size end (60 ∷ cs) names) (Finish name (end - length (60 ∷ cs))) (left_at size end more (take (length names - 1) names))
next_finish size end cs more names name open_names last read =
    let f : Lead × Markup × ℕ × List ℕ = (lead.Tag, markup.Finish name, length (60 ∷ cs), more) in
    let P : Bool → Type 0 = λ b. Founds (not b) (60 ∷ cs) f in
    (f, subst P (sym open_names.0) (marked (lead_tag cs) read (λ e. cc e)), rw last refl)
