-- What begins with `<`, and what stands before it.
use Rattle.std.specs.Prelude.{◌≡◌, ℕ, Bool, true, false, List, [], ◌∷◌, length, Result, Ok, Err, ◌==◌, if◌then◌else◌, nat_eq, drop, codes, MatchBool}
use Rattle.std.specs.List.{starts_with}
use Rattle.sm_model.specs.declared.tag.Attribute.{Attribute}
use Rattle.sm_tag.specs.declared.grammar.Markup.{Markup}
use Rattle.sm_tag.specs.declared.grammar.Markup.TheVariants.{Skipped, Finish, Start}
use Rattle.sm_tag.specs.declared.grammar.Lead.{Lead}
use Rattle.sm_tag.specs.declared.grammar.Lead.TheVariants.{Ended, Lost, Stray, Run, Tag}
use Rattle.sm_tag.specs.TagBytes.{is_space, is_text, prefix, remaining}
use Rattle.sm_tag.specs.TagParts.{Stop, short, ◌>>=◌, name_at, byte_at, word_at, Tails}

-- what is behind the first such word
unfoldable pub past_word : List ℕ → List ℕ → Result (List ℕ) Stop
past_word word [] = Err short
past_word word (c ∷ cs) = if starts_with nat_eq (c ∷ cs) word then Ok (drop (length word) (c ∷ cs)) else past_word word cs

-- an end tag, behind `</`
unfoldable pub finish_at : List ℕ → Result (Markup × List ℕ) Stop
finish_at bytes = do
  name ← name_at bytes
  rest ← byte_at 62 (remaining is_space name.1)
  Ok (Finish name.0, rest)

-- a comment, behind `<!`; its end is sought behind both of its dashes
unfoldable pub comment_at : List ℕ → Result (Markup × List ℕ) Stop
comment_at bytes = do
  rest ← word_at (codes "--") bytes
  more ← past_word (codes "-->") rest
  Ok (Skipped, more)

-- behind `<?`
unfoldable pub instruction_at : List ℕ → Result (Markup × List ℕ) Stop
instruction_at bytes = do
  more ← past_word (codes "?>") bytes
  Ok (Skipped, more)

abbrev pub starting : List ℕ → Result (List Attribute × Bool × List ℕ) Stop → Result (Markup × List ℕ) Stop
starting name r = r >>= λ x. Ok (Start name x.0 x.1, x.2)

-- a start tag, behind `<`
pub data Starts : List ℕ → Result (Markup × List ℕ) Stop → Type 0 where
  unnamed : {bytes : List ℕ} {e : Stop} → name_at bytes ≡ Err e → Starts bytes (Err e)
  named : {bytes name rest : List ℕ} {r : Result (List Attribute × Bool × List ℕ) Stop} → name_at bytes ≡ Ok (name, rest) → Tails [] rest r
      → Starts bytes (starting name r)

-- behind `<`: `?`, `!`, `/`, or a start tag
abbrev pub Markups : List ℕ → Result (Markup × List ℕ) Stop → Type 0
Markups [] r = r ≡ Err short
Markups (c ∷ cs) r =
    MatchBool (c == 63) (r ≡ instruction_at cs) (MatchBool (c == 33) (r ≡ comment_at cs) (MatchBool (c == 47) (r ≡ finish_at cs) (Starts (c ∷ cs) r)))

-- inside the outermost element, by the text up to the next `<` and what begins there
abbrev pub lead_inside : List ℕ → List ℕ → List ℕ → Lead × ℕ × List ℕ
lead_inside bytes run [] = (Lost, 0, [])
lead_inside bytes [] (c ∷ cs) = (Tag, length bytes, cs)
lead_inside bytes (r ∷ rs) (c ∷ cs) = (Run, length bytes, c ∷ cs)

-- where something stands that may not, it is the next `<` that is at fault
abbrev pub lead_stray : List ℕ → Lead × ℕ × List ℕ
lead_stray [] = (Lost, 0, [])
lead_stray (c ∷ cs) = (Stray, length (c ∷ cs), [])

-- outside the outermost element, behind white space
abbrev pub lead_outside : List ℕ → Lead × ℕ × List ℕ
lead_outside [] = (Ended, 0, [])
lead_outside (c ∷ cs) = if c == 60 then (Tag, length (c ∷ cs), cs) else lead_stray (remaining is_text (c ∷ cs))

-- what comes next, how many bytes are left from its place on, and what is behind it
unfoldable pub lead_at : Bool → List ℕ → Lead × ℕ × List ℕ
lead_at true bytes = lead_inside bytes (prefix is_text bytes) (remaining is_text bytes)
lead_at false bytes = lead_outside (remaining is_space bytes)
