-- What a play writes is what came of its exchanges.
use Rattle.std.proofs.Common.{◌≡◌, ◌+◌, ℕ, List, [], ◌∷◌, ◌++◌, length, take, Option, Some, None, refl, ap, sym, ◌∙◌, subst, arith, append-nil, append_assoc}
use Rattle.std.proofs.lemmas.List.{append_cancel_left}
use Rattle.std.specs.List.{AllByRecursion}
use Rattle.std.specs.Io.KnownBytes.{Appends}
use Rattle.sm_model.specs.declared.run.RawFragment.{RawFragment}
use Rattle.sm_model.specs.FragText.{frag_text}
use Rattle.sm_manin.specs.declared.listing.StreamListing.{StreamListing}
use Rattle.sm_fetch.specs.declared.got.Got.TheVariants as got
use Rattle.sm_fetch.specs.Spelt.{given}
use Rattle.sm_client.specs.declared.plan.Plan.{Plan}
use Rattle.sm_client.specs.declared.report.End.{End}
use Rattle.sm_client.specs.declared.report.End.TheVariants as ends
use Rattle.sm_client.specs.Turns.{Meaning, Turn}
use Rattle.sm_client.specs.Stands.{Item, list, piece, Piece, Stand, unread, absent, standing, State, nothing_read, read_at, state_by, state_after, written_at, wrote_at, wrote_by, first_start}
use Rattle.sm_client.specs.Asks.{Made, MadePiece, Asks, AsksLast}
use Rattle.sm_client.specs.Ends.{IsFront, IsTail, piece_text, texts, written_after}
use Rattle.sm_client.specs.Plays.{Gapless, Part, IsPart, first_times, written_of}
use Rattle.sm_client.specs.Came.{IsAnswered, came, came_by, came_texts, FollowOn, IsFrontOf}

-- ---- pieces, and what came

abbrev Came : Type 0
Came = ℕ × RawFragment

-- this one is written of that one
record IsOf (p : Piece) (c : Came) : Type 0 where
  pub stream : List ℕ
  pub bitrate : ℕ
  pub level : p.level ≡ c.0
  pub fragment : p.fragment ≡ given stream bitrate c.1

abbrev AreOf : List Piece → List Came → Type 0
AreOf [] [] = Unit {0}
AreOf [] (c ∷ cs) = ⊥
AreOf (p ∷ ps) [] = ⊥
AreOf (p ∷ ps) (c ∷ cs) = IsOf p c × AreOf ps cs

are-append : (ps qs : List Piece) (cs ds : List Came) → AreOf ps cs → AreOf qs ds → AreOf (ps ++ qs) (cs ++ ds)
are-append [] qs [] ds a b = b
are-append [] qs (c ∷ cs) ds a b = absurd a
are-append (p ∷ ps) qs [] ds a b = absurd a
are-append (p ∷ ps) qs (c ∷ cs) ds a b = (a.0, are-append ps qs cs ds a.1 b)

are-length : (ps : List Piece) (cs : List Came) → AreOf ps cs → length ps ≡ length cs
are-length [] [] a = refl
are-length [] (c ∷ cs) a = absurd a
are-length (p ∷ ps) [] a = absurd a
are-length (p ∷ ps) (c ∷ cs) a = omega (arith, are-length ps cs a.1)

text-of : (n : ℕ) (p : Piece) (c : Came) → IsOf p c → piece_text n p ≡ frag_text n (c.0 + 1) (given [] 0 c.1) []
text-of n p c o =
    let a : frag_text n (p.level + 1) p.fragment [] ≡ frag_text n (c.0 + 1) p.fragment [] = ap (λ l. frag_text n (l + 1) p.fragment []) o.level in
    let b : frag_text n (c.0 + 1) p.fragment [] ≡ frag_text n (c.0 + 1) (given o.stream o.bitrate c.1) [] = ap (λ f. frag_text n (c.0 + 1) f []) o.fragment in
    a ∙ b

are-texts : (n : ℕ) (ps : List Piece) (cs : List Came) → AreOf ps cs → texts n ps ≡ came_texts n cs
are-texts n [] [] a = refl
are-texts n [] (c ∷ cs) a = absurd a
are-texts n (p ∷ ps) [] a = absurd a
are-texts n (p ∷ ps) (c ∷ cs) a = ap (λ b. b ++ texts (n + 1) ps) (text-of n p c a.0) ∙ ap (λ b. frag_text n (c.0 + 1) (given [] 0 c.1) [] ++ b) (are-texts (n + 1) ps cs a.1)

are-follow : (start : ℕ) (ps : List Piece) (cs : List Came) → AreOf ps cs → Gapless start ps → FollowOn start cs
are-follow start [] [] a g = tt
are-follow start [] (c ∷ cs) a g = absurd a
are-follow start (p ∷ ps) [] a g = absurd a
are-follow start (p ∷ ps) (c ∷ cs) a g =
    let time : p.fragment.time ≡ c.1.time = ap (λ f. f.time) a.0.fragment in
    let behind : p.fragment.time + p.fragment.duration ≡ c.1.time + c.1.duration = ap (λ f. f.time + f.duration) a.0.fragment in
    (sym time ∙ g.0, are-follow (c.1.time + c.1.duration) ps cs a.1 (subst (λ n. Gapless n ps) behind g.1))

-- ---- what exchanges add

record Wrote (ps qs : List Piece) (cs : List Came) : Type 0 where
  pub added : List Piece
  pub is : qs ≡ ps ++ added
  pub are : AreOf added cs

wrote-none : (ps : List Piece) → Wrote ps ps []
wrote-none ps = record { added = []; is = sym (append-nil ps); are = tt }

wrote-same : {ps qs : List Piece} → qs ≡ ps → Wrote ps qs []
wrote-same {ps = ps} e = subst (λ qs. Wrote ps qs []) (sym e) (wrote-none ps)

wrote-more : {ps qs rs : List Piece} {cs ds : List Came} → Wrote ps qs cs → Wrote qs rs ds → Wrote ps rs (cs ++ ds)
wrote-more {ps = ps} {cs = cs} {ds = ds} a b = record {
  added = a.added ++ b.added;
  is = b.is ∙ ap (λ l. l ++ b.added) a.is ∙ append_assoc ps a.added b.added;
  are = are-append a.added b.added cs ds a.are b.are;
}

listed-same : (plan : Plan) (stand : Stand) (o : Option StreamListing) → written_at (read_at plan stand o) ≡ written_at stand
listed-same plan unread None = refl
listed-same plan unread (Some s) = refl
listed-same plan absent o = refl
listed-same plan (standing p) o = refl

module _ {P : Type 0} (m : Meaning P) (plan : Plan) (name : List ℕ) where
  piece-wrote : (t : Turn P) (s : State) (x : _) (raw : RawFragment) (level : ℕ) → MadePiece m plan name t s x (got.Fragment raw) level
      → Wrote (written_at s.stand) (written_at (wrote_at name s.stand level raw)) ((level, raw) ∷ [])
  piece-wrote t s x raw level k =
      subst (λ st. Wrote (written_at st) (written_at (wrote_at name st level raw)) ((level, raw) ∷ [])) (sym k.stands)
      (subst (λ o. Wrote k.at.written (wrote_by name k.at o level raw).written ((level, raw) ∷ [])) (sym k.last)
      (record { added = _ ∷ []; is = refl; are = (record { stream = name; bitrate = _; level = refl; fragment = refl }, tt) }))

  step-wrote : (t : Turn P) (s : State) (i : Item) → Made m plan name t s i → Wrote (written_at s.stand) (written_at (state_by plan name s i).stand) (came_by i)
  step-wrote t s (list x (got.Manifest l)) k = wrote-same (listed-same plan s.stand _)
  step-wrote t s (list x (got.Fragment raw)) k = wrote-none _
  step-wrote t s (list x (got.Status status)) k = wrote-none _
  step-wrote t s (list x got.Cut) k = wrote-none _
  step-wrote t s (list x (got.Unreadable at)) k = wrote-none _
  step-wrote t s (list x got.Lost) k = wrote-none _
  step-wrote t s (list x got.NoMemory) k = wrote-none _
  step-wrote t s (piece x (got.Manifest l) level) k = wrote-none _
  step-wrote t s (piece x (got.Fragment raw) level) k = piece-wrote t s x raw level k
  step-wrote t s (piece x (got.Status status) level) k = wrote-none _
  step-wrote t s (piece x got.Cut level) k = wrote-none _
  step-wrote t s (piece x (got.Unreadable at) level) k = wrote-none _
  step-wrote t s (piece x got.Lost level) k = wrote-none _
  step-wrote t s (piece x got.NoMemory level) k = wrote-none _

  all-wrote : (xs : List Item) (t : Turn P) (s : State) → Asks m plan name t s xs → Wrote (written_at s.stand) (written_after plan name s xs) (came xs)
  all-wrote [] t s a = wrote-none _
  all-wrote (x ∷ xs) t s a = wrote-more (step-wrote t s x a.0) (all-wrote xs _ _ a.2)

  last-wrote : (xs : List Item) (t : Turn P) (s : State) → AsksLast m plan name t s xs → Wrote (written_at s.stand) (written_after plan name s xs) (came xs)
  last-wrote [] t s a = wrote-none _
  last-wrote (x ∷ []) t s a = wrote-more (step-wrote t s x a) (wrote-none _)
  last-wrote (x ∷ y ∷ xs) t s a = absurd a

  made-answered : (t : Turn P) (s : State) (i : Item) → Made m plan name t s i → IsAnswered plan name i
  made-answered t s (list x g) k = (k.request, k.spells)
  made-answered t s (piece x g level) k = (k.listing.pattern, _, k.at.expected, k.request, k.spells)

  last-answered : (xs : List Item) (t : Turn P) (s : State) → AsksLast m plan name t s xs → AllByRecursion (IsAnswered plan name) xs
  last-answered [] t s a = tt
  last-answered (x ∷ []) t s a = (made-answered t s x a, tt)
  last-answered (x ∷ y ∷ xs) t s a = absurd a

  all-answered : (xs last : List Item) (t : Turn P) (s : State) → Asks m plan name t s xs → AllByRecursion (IsAnswered plan name) last → AllByRecursion (IsAnswered plan name) (xs ++ last)
  all-answered [] last t s a b = b
  all-answered (x ∷ xs) last t s a b = (made-answered t s x a.0, all-answered xs last _ _ a.2 b)

-- ---- a part of a play

module _ {P : Type 0} {m : Meaning P} {plan : Plan} {name : List ℕ} {number : ℕ} {start : Turn P} {track track' : Option (List ℕ)} {part : Part}
    (p : IsPart m plan name number start track track' part) where
  made : Wrote [] (written_of plan name part) (came part.made)
  made = all-wrote m plan name part.made start nothing_read p.asks

  are : AreOf (written_of plan name part) (came part.made)
  are = subst (λ ps. AreOf ps (came part.made)) (sym made.is) made.are

  pub part-answered : AllByRecursion (IsAnswered plan name) (part.made ++ part.last)
  part-answered = all-answered m plan name part.made part.last start nothing_read p.asks (last-answered m plan name part.last _ _ p.asks_last)

  pub part-text : Appends track track' (came_texts 1 (came part.made) ++ part.tail)
  part-text = subst (λ b. Appends track track' (b ++ part.tail)) (are-texts 1 (written_of plan name part) (came part.made) are) p.text

  pub part-follow : FollowOn (first_start plan.from (first_times name part.made)) (came part.made)
  part-follow = are-follow _ (written_of plan name part) (came part.made) are p.gapless

  part-front : IsFront plan name (state_after plan name nothing_read part.made) part.last part.tail → IsFrontOf (came_texts (length (came part.made) + 1) (came part.last)) part.tail
  part-front f =
      let w = last-wrote m plan name part.last _ _ p.asks_last in
      let one : f.one ∷ [] ≡ w.added = append_cancel_left (written_of plan name part) (f.one ∷ []) w.added (sym f.gave ∙ w.is) in
      let len : length (written_of plan name part) ≡ length (came part.made) = are-length (written_of plan name part) (came part.made) are in
      let n = length (came part.made) + 1 in
      let text : piece_text n f.one ≡ came_texts n (came part.last) =
      sym (append-nil (piece_text n f.one)) ∙ ap (λ ps. texts n ps) one ∙ are-texts n w.added (came part.last) w.are in
      (f.count, f.front ∙ ap (λ k. take f.count (piece_text (k + 1) f.one)) len ∙ ap (λ b. take f.count b) text)

  nothing : part.tail ≡ [] → IsFrontOf (came_texts (length (came part.made) + 1) (came part.last)) part.tail
  nothing e = (0, e)

  by-end : (end : End) → IsTail plan name end (state_after plan name nothing_read part.made) part.last part.tail
      → IsFrontOf (came_texts (length (came part.made) + 1) (came part.last)) part.tail
  by-end ends.WriteFault k = part-front k
  by-end ends.NoMemory k = nothing k
  by-end ends.Done k = nothing k.tail_is
  by-end (ends.NoMore expected) k = nothing k.tail_is
  by-end (ends.Hole expected next) k = nothing k.tail_is
  by-end (ends.GaveUp time outcomes) k = nothing k.tail_is
  by-end (ends.NoManifest outcomes) k = nothing k.tail_is
  by-end (ends.NoStream index) k = nothing k.tail_is

  pub part-behind : IsFrontOf (came_texts (length (came part.made) + 1) (came part.last)) part.tail
  part-behind = by-end part.end p.tail
