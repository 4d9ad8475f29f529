-- The tags of a text, as a function: every text has one list of tags. Each function takes a bound on its recursion, which
-- the length of the text gives.
use Rattle.std.specs.Prelude.{ℕ, zero, suc, ◌+◌, Bool, true, false, not, ◌==◌, List, [], ◌∷◌, ◌++◌, length, Option, Some, None, Result, Ok, Err, if◌then◌else◌}
use Rattle.sm_model.specs.declared.tag.Attribute.{Attribute}
use Rattle.sm_tag.specs.declared.grammar.Markup.{Markup}
use Rattle.sm_tag.specs.declared.grammar.Markup.TheVariants.{Skipped, Finish, Start}
use Rattle.sm_tag.specs.declared.grammar.Lead.{Lead}
use Rattle.sm_tag.specs.declared.grammar.Lead.TheVariants as lead
use Rattle.sm_model.specs.declared.tag.Tag.{Tag}
use Rattle.sm_model.specs.declared.tag.Tag.TheVariants.{Bad}
use Rattle.sm_tag.specs.TagParts.{Stop, short, wrong, ◌>>=◌, name_at, piece_at, opening_at, naming, has_name, mark_at}
use Rattle.sm_tag.specs.TagMarkup.{instruction_at, comment_at, finish_at, starting, lead_at}
use Rattle.sm_tag.specs.Tags.{Left, gives, is_last, begin}

-- behind the quote q and the bytes text of a value
abbrev pub value_by : List ℕ → Result (Bool × List ℕ × List ℕ) Stop → (List ℕ → List ℕ → Result (List ℕ × List ℕ) Stop)
    → Result (List ℕ × List ℕ) Stop
value_by text (Err e) go = Err e
value_by text (Ok (false, piece, rest)) go = Ok (text ++ piece, rest)
value_by text (Ok (true, piece, rest)) go = go (text ++ piece) rest

unfoldable pub value_in : ℕ → ℕ → List ℕ → List ℕ → Result (List ℕ × List ℕ) Stop
value_in zero q text bytes = Err short
value_in (suc n) q text bytes = value_by text (piece_at q bytes) (λ more rest. value_in n q more rest)

unfoldable pub attribute_in : ℕ → List ℕ → Result (Attribute × List ℕ) Stop
attribute_in n bytes = opening_at bytes >>= λ o. naming o.0 (value_in n o.1 [] o.2)

-- behind a name and the attributes seen
abbrev pub attribute_by : List Attribute → Result (Attribute × List ℕ) Stop → (List Attribute → List ℕ → Result (List Attribute × Bool × List ℕ) Stop)
    → Result (List Attribute × Bool × List ℕ) Stop
attribute_by seen (Err e) go = Err e
attribute_by seen (Ok (a, more)) go = if has_name a.name seen then Err wrong else go (seen ++ a ∷ []) more

abbrev pub tail_by : ℕ → List Attribute → Result (Option Bool × List ℕ) Stop
    → (List Attribute → List ℕ → Result (List Attribute × Bool × List ℕ) Stop)
    → Result (List Attribute × Bool × List ℕ) Stop
tail_by n seen (Err e) go = Err e
tail_by n seen (Ok (Some empty, rest)) go = Ok (seen, empty, rest)
tail_by n seen (Ok (None, rest)) go = attribute_by seen (attribute_in n rest) go

unfoldable pub tail_in : ℕ → List Attribute → List ℕ → Result (List Attribute × Bool × List ℕ) Stop
tail_in zero seen bytes = Err short
tail_in (suc n) seen bytes = tail_by (suc n) seen (mark_at bytes) (λ more rest. tail_in n more rest)

unfoldable pub start_in : ℕ → List ℕ → Result (Markup × List ℕ) Stop
start_in n bytes = name_at bytes >>= λ x. starting x.0 (tail_in n [] x.1)

unfoldable pub markup_in : ℕ → List ℕ → Result (Markup × List ℕ) Stop
markup_in n [] = Err short
markup_in n (c ∷ cs) =
    if c == 63 then instruction_at cs else if c == 33 then comment_at cs else if c == 47 then finish_at cs else start_in n (c ∷ cs)

-- what comes next, where comments and the like are passed over
abbrev pub markup_by : ℕ → Result (Markup × List ℕ) Stop → (List ℕ → Lead × Markup × ℕ × List ℕ) → Lead × Markup × ℕ × List ℕ
markup_by left (Err short) go = (lead.Lost, Skipped, 0, [])
markup_by left (Err wrong) go = (lead.Stray, Skipped, left, [])
markup_by left (Ok (Skipped, more)) go = go more
markup_by left (Ok (Finish name, more)) go = (lead.Tag, Finish name, left, more)
markup_by left (Ok (Start name attributes empty, more)) go = (lead.Tag, Start name attributes empty, left, more)

abbrev pub lead_by : ℕ → Lead × ℕ × List ℕ → (List ℕ → Lead × Markup × ℕ × List ℕ) → Lead × Markup × ℕ × List ℕ
lead_by n (lead.Tag, left, rest) go = markup_by left (markup_in n rest) go
lead_by n (lead.Ended, left, rest) go = (lead.Ended, Skipped, left, rest)
lead_by n (lead.Lost, left, rest) go = (lead.Lost, Skipped, left, rest)
lead_by n (lead.Stray, left, rest) go = (lead.Stray, Skipped, left, rest)
lead_by n (lead.Run, left, rest) go = (lead.Run, Skipped, left, rest)

unfoldable pub found_in : ℕ → Bool → List ℕ → Lead × Markup × ℕ × List ℕ
found_in zero inside bytes = (lead.Lost, Skipped, 0, [])
found_in (suc n) inside bytes = lead_by (suc n) (lead_at inside bytes) (λ more. found_in n inside more)

-- the next tag, and what is left behind it
abbrev pub next_by : Left → Lead × Markup × ℕ × List ℕ → Tag × Left
next_by s f = gives s f.0 f.1 f.2 f.3

abbrev pub next_from : ℕ → Left → Option ℕ → Tag × Left
next_from n s (Some at) = (Bad at, s)
next_from n s None = next_by s (found_in n (not (length s.open_names == 0)) s.rest)

unfoldable pub next_in : ℕ → Left → Tag × Left
next_in n s = next_from n s s.bad

abbrev pub run_by : Bool → Tag → List Tag → List Tag
run_by true tag tags = tag ∷ []
run_by false tag tags = tag ∷ tags

unfoldable pub tags_in : ℕ → Left → List Tag
tags_in zero s = []
tags_in (suc n) s = run_by (is_last (next_in (suc n) s).0) (next_in (suc n) s).0 (tags_in n (next_in (suc n) s).1)

-- the tags of a whole text
unfoldable pub tags_of : List ℕ → List Tag
tags_of text = tags_in (length text + 2) (begin text)
