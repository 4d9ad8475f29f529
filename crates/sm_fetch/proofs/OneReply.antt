-- An answer begins with one thing.
use Rattle.std.proofs.Common.{◌≡◌, ◌<◌, ◌≤◌, ℕ, ◌+◌, ◌⊎◌, List, [], ◌∷◌, ◌++◌, drop, refl, ap, ◌∙◌, sym, subst, arith, inl, inr, ⊎_elim}
use Rattle.std.specs.Prelude.{Some, Ok, Err, Result}
use Rattle.std.proofs.lemmas.List.{append-nil}
use Rattle.sm_model.specs.declared.framing.Framing.{Framing}
use Rattle.sm_body.specs.declared.place.Place.{Place}
use Rattle.sm_body.specs.declared.place.Place.TheVariants.{Ended, Failed}
use Rattle.sm_body.specs.Places.{start, place_after, body_from}
use Rattle.sm_head.specs.declared.response.RespHead.{RespHead}
use Rattle.sm_head.specs.declared.response.RespHead.TheVariants.{Whole as Head, Partial}
use Rattle.sm_head.specs.declared.response.RespFault.{RespFault}
use Rattle.sm_head.specs.declared.response.RespFault.TheVariants as fault
use Rattle.sm_head.specs.Responses.{IsReplyAt, IsUnfinished, IsRespAnswer}
use Rattle.sm_head.proofs.ReplyLaw.{whole_is_one, partial_is_one}
use Rattle.sm_fetch.specs.Answered.{IsBehindInterim, first, next, IsHeadEnd, IsWholeReply, IsCutHead, IsCutReply, IsBadHead, IsNoReply}
use Rattle.sm_fetch.proofs.Framing.{place_on, failed_stays, split}

-- ---- heads

-- a head of so many bytes with a status below 200 stands there
pub record IsInterim (bytes : List ℕ) (at len : ℕ) : Type 0 where
  pub status : ℕ
  pub framing : Framing
  pub head : IsReplyAt (drop at bytes) len status (Some framing)
  pub low : status < 200

-- none does
abbrev Stops : List ℕ → ℕ → Type 0
Stops bytes at = (len : ℕ) → IsInterim bytes at len → ⊥

-- from one place to another there are such heads alone
pub data Leads : List ℕ → ℕ → ℕ → Type 0 where
  here : (bytes : List ℕ) (p q : ℕ) → p ≡ q → Leads bytes p q
  over : (bytes : List ℕ) (p len q : ℕ) → IsInterim bytes p len → Leads bytes (p + len) q → Leads bytes p q

one_more : (bytes : List ℕ) (s p len q : ℕ) → Leads bytes s p → IsInterim bytes p len → q ≡ p + len → Leads bytes s q
one_more bytes s p len q (here b t u same) head is =
    over bytes s len q (subst (λ n. IsInterim bytes n len) (sym same) head) (here bytes (s + len) q (ap (λ n. n + len) same ∙ sym is))
one_more bytes s p len q (over b t more u interim leads) head is = over bytes s more q interim (one_more bytes (s + more) p len q leads head is)

pub from_start : (bytes : List ℕ) (q : ℕ) → IsBehindInterim bytes q → Leads bytes 0 q
from_start bytes q (first b a at) = here bytes 0 q (sym at)
from_start bytes q (next b before len status f a behind head low at) =
    one_more bytes 0 before len q (from_start bytes before behind) (record { status = status; framing = f; head = head; low = low }) at

-- the answer of a whole head
abbrev head_of : ℕ → ℕ → Framing → Result RespHead RespFault
head_of len status f = Ok (Head len status f)

record SameHead (len status : ℕ) (f : Framing) (l s : ℕ) (g : Framing) : Type 0 where
  pub len_is : l ≡ len
  pub status_is : s ≡ status
  pub framing_is : g ≡ f

one_head : (bytes : List ℕ) (len status : ℕ) (f : Framing) (l s : ℕ) (g : Framing) → IsReplyAt bytes len status (Some f) → IsReplyAt bytes l s (Some g) → SameHead len status f l s g
one_head bytes len status f l s g head other = ⊎_elim
    (λ (same : head_of l s g ≡ head_of len status f). record { len_is = cc; status_is = cc; framing_is = cc })
    (λ (none : head_of l s g ≡ Err fault.NoMemory). absurd (cc))
    (whole_is_one bytes len status f head (head_of l s g) other)

not_waiting : (bytes : List ℕ) (len status : ℕ) (f : Framing) → IsReplyAt bytes len status (Some f) → IsUnfinished bytes → ⊥
not_waiting bytes len status f head waits = waits.none head.h (drop len bytes) head.reads

abbrev bad_answer : Result RespHead RespFault
bad_answer = Err fault.Bad

not_bad : (bytes : List ℕ) (len status : ℕ) (f : Framing) → IsReplyAt bytes len status (Some f) → IsRespAnswer bytes (Err fault.Bad) → ⊥
not_bad bytes len status f head bad = ⊎_elim
    (λ (same : bad_answer ≡ head_of len status f). absurd (cc))
    (λ (none : bad_answer ≡ Err fault.NoMemory). absurd (cc))
    (whole_is_one bytes len status f head bad_answer bad)

waiting_isnt_bad : (bytes : List ℕ) → IsUnfinished bytes → IsRespAnswer bytes (Err fault.Bad) → ⊥
waiting_isnt_bad bytes waits bad = ⊎_elim
    (λ (same : bad_answer ≡ Ok Partial). absurd (cc))
    (λ (none : bad_answer ≡ Err fault.NoMemory). absurd (cc))
    (partial_is_one bytes waits bad_answer bad)

final_stops : (bytes : List ℕ) (at len status : ℕ) (f : Framing) → IsReplyAt (drop at bytes) len status (Some f) → 200 ≤ status → Stops bytes at
final_stops bytes at len status f head final l other =
    let same = one_head (drop at bytes) len status f l other.status other.framing head other.head in absurd (omega (arith, same.status_is, other.low, final))

waiting_stops : (bytes : List ℕ) (at : ℕ) → IsUnfinished (drop at bytes) → Stops bytes at
waiting_stops bytes at waits l other = not_waiting (drop at bytes) l other.status other.framing other.head waits

bad_stops : (bytes : List ℕ) (at : ℕ) → IsRespAnswer (drop at bytes) (Err fault.Bad) → Stops bytes at
bad_stops bytes at bad l other = not_bad (drop at bytes) l other.status other.framing other.head bad

-- two ways from one place go on with each other
linear : (bytes : List ℕ) (s p q : ℕ) → Leads bytes s p → Leads bytes s q → Leads bytes p q ⊎ Leads bytes q p
linear bytes s p q (here b t u same) other = inl (subst (λ n. Leads bytes n q) same other)
linear bytes s p q (over b t len u interim leads) (here b' t' u' same) = inr (subst (λ n. Leads bytes n p) same (over bytes s len p interim leads))
linear bytes s p q (over b t len u interim leads) (over b' t' len' u' interim' leads') =
    let same = one_head (drop s bytes) len interim.status interim.framing len' interim'.status interim'.framing interim.head interim'.head in
    linear bytes (s + len) p q leads (subst (λ n. Leads bytes (s + n) q) same.len_is leads')

stuck : (bytes : List ℕ) (p q : ℕ) → Leads bytes p q → Stops bytes p → p ≡ q
stuck bytes p q (here b t u same) stops = same
stuck bytes p q (over b t len u interim leads) stops = absurd (stops len interim)

one_place : (bytes : List ℕ) (p q : ℕ) → IsBehindInterim bytes p → Stops bytes p → IsBehindInterim bytes q → Stops bytes q → p ≡ q
one_place bytes p q behind stops other stops_too = ⊎_elim
    (λ (leads : Leads bytes p q). stuck bytes p q leads stops)
    (λ (leads : Leads bytes q p). sym (stuck bytes q p leads stops_too))
    (linear bytes 0 p q (from_start bytes p behind) (from_start bytes q other))

-- ---- what stands there

end_stops : (bytes : List ℕ) (status at : ℕ) (f : Framing) (e : IsHeadEnd bytes status at f) → Stops bytes e.from
end_stops bytes status at f e = final_stops bytes e.from e.len status f e.head e.final

pub record SameEnd (status at : ℕ) (f : Framing) (s a : ℕ) (g : Framing) : Type 0 where
  pub status_is : s ≡ status
  pub at_is : a ≡ at
  pub framing_is : g ≡ f

pub one_end : (bytes : List ℕ) (status at : ℕ) (f : Framing) (s a : ℕ) (g : Framing) → IsHeadEnd bytes status at f → IsHeadEnd bytes s a g → SameEnd status at f s a g
one_end bytes status at f s a g e o =
    let place = one_place bytes e.from o.from e.behind (end_stops bytes status at f e) o.behind (end_stops bytes s a g o) in
    let same = one_head (drop e.from bytes) e.len status f o.len s g e.head (subst (λ n. IsReplyAt (drop n bytes) o.len s (Some g)) (sym place) o.head) in
    record { status_is = same.status_is; at_is = omega (arith, place, same.len_is, e.at_is, o.at_is); framing_is = same.framing_is }

pub end_isnt_cut : (bytes : List ℕ) (status at : ℕ) (f : Framing) → IsHeadEnd bytes status at f → IsCutHead bytes → ⊥
end_isnt_cut bytes status at f e c =
    let place = one_place bytes e.from c.from e.behind (end_stops bytes status at f e) c.behind (waiting_stops bytes c.from c.waits) in
    not_waiting (drop e.from bytes) e.len status f e.head (subst (λ n. IsUnfinished (drop n bytes)) (sym place) c.waits)

pub end_isnt_bad : (bytes : List ℕ) (status at : ℕ) (f : Framing) (bad : ℕ) → IsHeadEnd bytes status at f → IsBadHead bytes bad → ⊥
end_isnt_bad bytes status at f bad e b =
    let place = one_place bytes e.from bad e.behind (end_stops bytes status at f e) b.behind (bad_stops bytes bad b.bad) in
    not_bad (drop e.from bytes) e.len status f e.head (subst (λ n. IsRespAnswer (drop n bytes) (Err fault.Bad)) (sym place) b.bad)

pub cut_isnt_bad : (bytes : List ℕ) (bad : ℕ) → IsCutHead bytes → IsBadHead bytes bad → ⊥
cut_isnt_bad bytes bad c b =
    let place = one_place bytes c.from bad c.behind (waiting_stops bytes c.from c.waits) b.behind (bad_stops bytes bad b.bad) in
    waiting_isnt_bad (drop c.from bytes) c.waits (subst (λ n. IsRespAnswer (drop n bytes) (Err fault.Bad)) (sym place) b.bad)

pub one_bad : (bytes : List ℕ) (p q : ℕ) → IsBadHead bytes p → IsBadHead bytes q → p ≡ q
one_bad bytes p q b c = one_place bytes p q b.behind (bad_stops bytes p b.bad) c.behind (bad_stops bytes q c.bad)

-- ---- bodies

nothing_more : (k : List ℕ) → place_after Ended k ≡ Ended → k ≡ []
nothing_more [] is = refl
nothing_more (x ∷ k) is = let wrong : Failed ≡ Ended = sym (failed_stays k) ∙ is in absurd (cc)

behind_end : (p : Place) (framed k : List ℕ) → place_after p framed ≡ Ended → place_after p (framed ++ k) ≡ place_after Ended k
behind_end p framed k ended = place_on p framed k ∙ ap (λ (o : Place). place_after o k) ended

pub same_framed : (p : Place) (framed rest other more : List ℕ) → framed ++ rest ≡ other ++ more → place_after p framed ≡ Ended → place_after p other ≡ Ended → framed ≡ other
same_framed p framed rest other more joined ended ended_too = ⊎_elim
    (λ (s : (k : List ℕ) × (other ≡ framed ++ k) × (rest ≡ k ++ more)).
    let none = nothing_more s.0 (sym (behind_end p framed s.0 ended) ∙ ap (place_after p) (sym s.1) ∙ ended_too) in
    sym (s.1 ∙ ap (λ k. framed ++ k) none ∙ append-nil framed))
    (λ (s : (k : List ℕ) × (framed ≡ other ++ k) × (more ≡ k ++ rest)).
    let none = nothing_more s.0 (sym (behind_end p other s.0 ended_too) ∙ ap (place_after p) (sym s.1) ∙ ended) in
    s.1 ∙ ap (λ k. other ++ k) none ∙ append-nil other)
    (split framed rest other more joined)

ended_or_failed : (k : List ℕ) → (place_after Ended k ≡ Ended) ⊎ (place_after Ended k ≡ Failed)
ended_or_failed [] = inl refl
ended_or_failed (x ∷ k) = inr (failed_stays k)

pub one_whole : (bytes : List ℕ) (status at : ℕ) (body : List ℕ) (s a : ℕ) (b : List ℕ) → IsWholeReply bytes status at body → IsWholeReply bytes s a b
    → (s ≡ status) × (a ≡ at) × (b ≡ body)
one_whole bytes status at body s a b w o =
    let same = one_end bytes status at w.framing s a o.framing w.head o.head in
    let joined : w.framed ++ w.rest ≡ o.framed ++ o.rest = sym w.behind ∙ ap (λ n. drop n bytes) (sym same.at_is) ∙ o.behind in
    let ends : place_after (start w.framing) o.framed ≡ Ended = ap (λ (f : Framing). place_after (start f) o.framed) (sym same.framing_is) ∙ o.ends in
    let framed = same_framed (start w.framing) w.framed w.rest o.framed o.rest joined w.ends ends in
    (same.status_is, same.at_is, o.body_is ∙ ap (λ (f : Framing). body_from (start f) o.framed) same.framing_is ∙ ap (body_from (start w.framing)) (sym framed) ∙ sym w.body_is)

pub whole_isnt_cut : (bytes : List ℕ) (status at : ℕ) (body : List ℕ) → IsWholeReply bytes status at body → IsCutReply bytes → ⊥
whole_isnt_cut bytes status at body w (inl c) = end_isnt_cut bytes status at w.framing w.head c
whole_isnt_cut bytes status at body w (inr c) =
    let same = one_end bytes status at w.framing c.status c.at c.framing w.head c.head in
    let leads : place_after (start c.framing) (drop c.at bytes) ≡ place_after Ended w.rest =
    ap (λ n. place_after (start c.framing) (drop n bytes)) same.at_is ∙ ap (place_after (start c.framing)) w.behind
    ∙ behind_end (start c.framing) w.framed w.rest (ap (λ (f : Framing). place_after (start f) w.framed) same.framing_is ∙ w.ends) in
    ⊎_elim (λ (ended : place_after Ended w.rest ≡ Ended). c.unended (leads ∙ ended)) (λ (failed : place_after Ended w.rest ≡ Failed). c.unfailed (leads ∙ failed)) (ended_or_failed w.rest)

pub whole_isnt_none : (bytes : List ℕ) (status at : ℕ) (body : List ℕ) (bad : ℕ) → IsWholeReply bytes status at body → IsNoReply bytes bad → ⊥
whole_isnt_none bytes status at body bad w (inl b) = end_isnt_bad bytes status at w.framing bad w.head b
whole_isnt_none bytes status at body bad w (inr b) =
    let same = one_end bytes status at w.framing b.status bad b.framing w.head b.head in
    b.unended w.framed w.rest (ap (λ n. drop n bytes) same.at_is ∙ w.behind) (ap (λ (f : Framing). place_after (start f) w.framed) same.framing_is ∙ w.ends)

pub cut_isnt_none : (bytes : List ℕ) (bad : ℕ) → IsCutReply bytes → IsNoReply bytes bad → ⊥
cut_isnt_none bytes bad (inl c) (inl b) = cut_isnt_bad bytes bad c b
cut_isnt_none bytes bad (inl c) (inr b) = end_isnt_cut bytes b.status bad b.framing b.head c
cut_isnt_none bytes bad (inr c) (inl b) = end_isnt_bad bytes c.status c.at c.framing bad c.head b
cut_isnt_none bytes bad (inr c) (inr b) =
    let same = one_end bytes c.status c.at c.framing b.status bad b.framing c.head b.head in
    c.unfailed (ap (λ (f : Framing). place_after (start f) (drop c.at bytes)) (sym same.framing_is) ∙ ap (λ n. place_after (start b.framing) (drop n bytes)) (sym same.at_is) ∙ b.failed)

pub one_none : (bytes : List ℕ) (p q : ℕ) → IsNoReply bytes p → IsNoReply bytes q → p ≡ q
one_none bytes p q (inl b) (inl c) = one_bad bytes p q b c
one_none bytes p q (inl b) (inr c) = absurd (end_isnt_bad bytes c.status q c.framing p c.head b)
one_none bytes p q (inr b) (inl c) = absurd (end_isnt_bad bytes b.status p b.framing q b.head c)
one_none bytes p q (inr b) (inr c) = sym (one_end bytes b.status p b.framing c.status q c.framing b.head c.head).at_is
