-- What a front of an origin's reply spells: nothing but what the reply says.
use Rattle.std.proofs.Common.{◌≡◌, ◌<◌, ◌≤◌, ◌^◌, ℕ, zero, suc, ◌+◌, ◌⊎◌, Bool, List, [], ◌∷◌, ◌++◌, length, drop, refl, ap, ◌∙◌, sym, subst, arith, inl, inr, ⊎_elim, append_assoc, length-append, zero-add}
use Rattle.std.specs.Prelude.{Option, Some, Ok, Err, Result}
use Rattle.std.proofs.lemmas.List.{append-nil, drop-append-le}
use Rattle.sm_log.proofs.AllLogs.{kept_stays}
use Rattle.sm_log.proofs.ListedKept.{kept_address}
use Rattle.sm_log.specs.Logs.{kept_at}
use Rattle.std.proofs.lemmas.Bool.Decides.{nat_tests}
use Rattle.http.specs.StatusCode.{IsStatusCode}
use Rattle.httparse.specs.Grammar.{ReadsResponse}
use Rattle.httparse.proofs.GrammarLemmas.{ReadsResponse-append}
use Rattle.sm_model.specs.declared.address.Address.{Address}
use Rattle.sm_model.specs.declared.cause.Cause.{Cause}
use Rattle.sm_model.specs.declared.entry.Entry.{Entry}
use Rattle.sm_model.specs.declared.fragment.Fragment.{Fragment}
use Rattle.sm_model.specs.declared.framing.Framing.{Framing}
use Rattle.sm_model.specs.declared.framing.Framing.TheVariants as framing
use Rattle.sm_model.specs.declared.run.RawFragment.{RawFragment}
use Rattle.sm_model.specs.Entries.{address_of}
use Rattle.sm_model.specs.Frag.{frag}
use Rattle.sm_model.specs.FragText.{moof, mdat}
use Rattle.sm_model.specs.Written.{raw_again}
use Rattle.sm_model.proofs.WrittenFragment.{moof_whole, frag_read}
use Rattle.sm_log.specs.Logs.{ahead_in}
use Rattle.sm_body.specs.declared.place.Place.{Place as BodyPlace}
use Rattle.sm_body.specs.declared.place.Place.TheVariants.{Ended, Failed, Counted}
use Rattle.sm_body.specs.Places.{start, place_after, body_from, next_place}
use Rattle.sm_head.specs.declared.reply.Content.{Content}
use Rattle.sm_head.specs.declared.response.RespHead.{RespHead}
use Rattle.sm_head.specs.declared.response.RespHead.TheVariants.{Whole}
use Rattle.sm_head.specs.declared.response.RespFault.{RespFault}
use Rattle.sm_head.specs.declared.response.RespFault.TheVariants as fault
use Rattle.sm_head.specs.Responses.{IsReplyAt, IsRespAnswer, written_framing}
use Rattle.sm_head.specs.Replies.{reply_head, reply_text}
use Rattle.sm_head.proofs.ReplyLaw.{written_is_read, body_begins}
use Rattle.sm_moof.specs.Shown.{no_defaults}
use Rattle.sm_moof.proofs.FrontLemmas.{same_box}
use Rattle.sm_moof.proofs.SequenceLemmas.{written_again}
use Rattle.sm_moof.specs.Sequence.{sequence_in}
use Rattle.sm_fetch.specs.declared.placed.Placed.{Placed}
use Rattle.sm_fetch.specs.declared.placed.Placed.TheVariants as placed
use Rattle.sm_fetch.specs.Placing.{IsNumberedAt, SpellsPlaced, IsPlacedAt, GrowsPlaced}
use Rattle.sm_fetch.specs.declared.dial.Answer.{Answer}
use Rattle.sm_fetch.specs.declared.dial.Answer.TheVariants as answers
use Rattle.sm_fetch.specs.declared.place.Place.{Place}
use Rattle.sm_fetch.specs.declared.got.Got.{Got}
use Rattle.sm_fetch.specs.declared.got.Got.TheVariants as got
use Rattle.sm_fetch.specs.Answered.{IsBehindInterim, first, next, IsWholeReply}
use Rattle.sm_fetch.specs.Fetched.{IsKeptAt, GrowsWith}
use Rattle.sm_fetch.specs.Origins.{IsKeptText, IsUnwell, SaysFragment, FromOrigin, Grows, AnswersFrom}
use Rattle.sm_fetch.specs.Requests.{fragment_target, fragment_request}
use Rattle.sm_fetch.specs.Spelt.{IsFragmentAt, SpellsFragment, given}
use Rattle.sm_fetch.proofs.Framing.{failed_stays}

-- ---- counted bodies

ended_whole : (xs : List ℕ) → place_after Ended xs ≡ Ended → xs ≡ []
ended_whole [] is = refl
ended_whole (x ∷ xs) is = let wrong : Failed ≡ Ended = sym (failed_stays xs) ∙ is in absurd (cc)

next_counted : (n x : ℕ) → next_place (Counted (suc (suc n))) x ≡ Counted (suc n)
next_counted n x = grind (arith, nat_tests)

start_counted : (n : ℕ) → start (framing.Counted (suc n)) ≡ Counted (suc n)
start_counted n = grind (arith, nat_tests)

-- as many bytes as were counted, and all of them are the body
counted_whole : (n : ℕ) (xs : List ℕ) → place_after (Counted (suc n)) xs ≡ Ended → (length xs ≡ suc n) × (body_from (Counted (suc n)) xs ≡ xs)
counted_whole n [] is = absurd (cc)
counted_whole zero (x ∷ xs) is = let none = ended_whole xs is in (rw none refl, rw none refl)
counted_whole (suc n) (x ∷ xs) is =
    let rest = counted_whole n xs (ap (λ (p : BodyPlace). place_after p xs) (sym (next_counted n x)) ∙ is) in
    (ap suc rest.0, ap (λ (p : BodyPlace). x ∷ body_from p xs) (next_counted n x) ∙ ap (λ b. x ∷ b) rest.1)

started_whole : (n : ℕ) (xs : List ℕ) → place_after (start (framing.Counted n)) xs ≡ Ended → (length xs ≡ n) × (body_from (start (framing.Counted n)) xs ≡ xs)
started_whole zero xs is = let none = ended_whole xs is in (rw none refl, rw none refl)
started_whole (suc n) xs is =
    let whole = counted_whole n xs (ap (λ (p : BodyPlace). place_after p xs) (sym (start_counted n)) ∙ is) in
    (whole.0, ap (λ (p : BodyPlace). body_from p xs) (start_counted n) ∙ whole.1)

-- ---- heads

-- at its first byte a reply's own head stands, or one with a status below 200
head_first : (bytes : List ℕ) (from : ℕ) → IsBehindInterim bytes from → (from ≡ 0) ⊎ ((len status : ℕ) × (f : Framing) × IsReplyAt bytes len status (Some f) × (status < 200))
head_first bytes from (first b a at) = inl at
head_first bytes from (next b before len status f a behind head low at) = ⊎_elim
    (λ (zero_at : before ≡ 0). inr (len, status, f, subst (λ (n : ℕ). IsReplyAt (drop n bytes) len status (Some f)) zero_at head, low))
    (λ (other : (len status : ℕ) × (f : Framing) × IsReplyAt bytes len status (Some f) × (status < 200)). inr other)
    (head_first bytes before behind)

-- a head in front of the front stands in front of all
head_on : (bytes more : List ℕ) (len status : ℕ) (f : Option Framing) → IsReplyAt bytes len status f → IsReplyAt (bytes ++ more) len status f
head_on bytes more len status f head = record {
  h = head.h;
  reads = subst (λ (r : List ℕ). ReadsResponse (bytes ++ more) head.h r) (sym (drop-append-le len bytes more head.fits)) (ReadsResponse-append bytes head.h (drop len bytes) more head.reads);
  fits = let l = length-append bytes more in omega (arith, l, head.fits);
  some = head.some;
  short = head.short;
  status_is = head.status_is;
  framing_is = head.framing_is;
}

-- what is read of the head of a written reply, out of any front that has it
pub record IsOwnHead (status : ℕ) (kind : Content) (body : List ℕ) (close : Bool) (len found : ℕ) (f : Framing) : Type 0 where
  pub len_is : len ≡ length (reply_head status kind (length body) close)
  pub status_is : found ≡ status
  pub framing_is : f ≡ written_framing status (length body)

abbrev whole_head : ℕ → ℕ → Framing → Result RespHead RespFault
whole_head len found f = Ok (Whole len found f)

own_head : (status : ℕ) (kind : Content) (body : List ℕ) (close : Bool) (bytes more : List ℕ) (len found : ℕ) (f : Framing) → IsStatusCode status → length body < 10 ^ 18
    → reply_text status kind body close ≡ bytes ++ more → IsReplyAt bytes len found (Some f) → IsOwnHead status kind body close len found f
own_head status kind body close bytes more len found f code short text head =
    let all : reply_text status kind body close ++ [] ≡ bytes ++ more = append-nil (reply_text status kind body close) ∙ text in
    let said : IsRespAnswer (reply_text status kind body close ++ []) (Ok (Whole len found f)) =
    subst (λ (b : List ℕ). IsRespAnswer b (Ok (Whole len found f))) (sym all) (head_on bytes more len found (Some f) head) in
    ⊎_elim (λ (same : whole_head len found f ≡ whole_head (length (reply_head status kind (length body) close)) status (written_framing status (length body))). told same)
    (λ (none : whole_head len found f ≡ Err fault.NoMemory). absurd (cc))
    (written_is_read status kind body close [] (Ok (Whole len found f)) code short said)
  where
    told : whole_head len found f ≡ whole_head (length (reply_head status kind (length body) close)) status (written_framing status (length body)) → IsOwnHead status kind body close len found f
    told same = record { len_is = cc; status_is = cc; framing_is = cc }

-- ---- bodies

same_front : (xs ys rest more : List ℕ) → xs ++ rest ≡ ys → length xs ≡ length ys → xs ≡ ys
same_front [] [] rest more is len = refl
same_front [] (y ∷ ys) rest more is len = absurd (omega (arith, len))
same_front (x ∷ xs) [] rest more is len = absurd (omega (arith, len))
same_front (x ∷ xs) (y ∷ ys) rest more is len =
    let heads : x ≡ y = cc in
    let tails : xs ++ rest ≡ ys = cc in
    let e = same_front xs ys rest more tails (omega (arith, len)) in cc

-- a front of a written reply that has a whole reply has that one's status and body
pub own_body : (status : ℕ) (kind : Content) (body : List ℕ) (close : Bool) (bytes more : List ℕ) (found at : ℕ) (read : List ℕ) → IsStatusCode status → 200 ≤ status
    → length body < 10 ^ 18 → reply_text status kind body close ≡ bytes ++ more → IsWholeReply bytes found at read → (found ≡ status) × (read ≡ body)
own_body status kind body close bytes more found at read code final short text w = ⊎_elim
    (λ (here : w.head.from ≡ 0). at_start here)
    (λ (other : (len low : ℕ) × (f : Framing) × IsReplyAt bytes len low (Some f) × (low < 200)).
    let own = own_head status kind body close bytes more other.0 other.1 other.2 code short text other.3 in absurd (omega (arith, own.status_is, other.4, final)))
    (head_first bytes w.head.from w.head.behind)
  where
    fit : w.head.from ≡ 0 → w.head.len ≤ length bytes
    fit here = (subst (λ (n : ℕ). IsReplyAt (drop n bytes) w.head.len found (Some w.framing)) here w.head.head).fits

    behind_head : drop (length (reply_head status kind (length body) close)) (reply_text status kind body close) ≡ body
    behind_head = ap (drop (length (reply_head status kind (length body) close))) (sym (append-nil (reply_text status kind body close)))
        ∙ body_begins (reply_head status kind (length body) close) body [] ∙ append-nil body

    above : (status count : ℕ) → 200 ≤ status → written_framing status count ≡ framing.Counted count
    above status count high = grind (arith, nat_tests)

    at_start : w.head.from ≡ 0 → (found ≡ status) × (read ≡ body)
    at_start here =
        let own = own_head status kind body close bytes more w.head.len found w.framing code short text (subst (λ (n : ℕ). IsReplyAt (drop n bytes) w.head.len found (Some w.framing)) here w.head.head) in
        let counted : w.framing ≡ framing.Counted (length body) = own.framing_is ∙ above status (length body) final in
        let ends : place_after (start (framing.Counted (length body))) w.framed ≡ Ended = subst (λ (f : Framing). place_after (start f) w.framed ≡ Ended) counted w.ends in
        let whole = started_whole (length body) w.framed ends in
        let place : at ≡ w.head.len = w.head.at_is ∙ ap (λ n. n + w.head.len) here ∙ zero-add w.head.len in
        let fits : at ≤ length bytes = omega (arith, place, fit here) in
        let left : w.framed ++ (w.rest ++ more) ≡ body =
        sym (append_assoc w.framed w.rest more) ∙ ap (λ (b : List ℕ). b ++ more) (sym w.behind) ∙ sym (drop-append-le at bytes more fits) ∙ ap (drop at) (sym text)
        ∙ ap (λ n. drop n (reply_text status kind body close)) (place ∙ own.len_is) ∙ behind_head in
        let framed : w.framed ≡ body = same_front w.framed body (w.rest ++ more) [] left whole.0 in
        (own.status_is, w.body_is ∙ ap (λ (f : Framing). body_from (start f) w.framed) counted ∙ whole.1 ∙ framed)

-- ---- fragments

one_raw : (x y : RawFragment) (r : Result RawFragment Cause) → r ≡ Ok x → r ≡ Ok y → x ≡ y
one_raw x y r e f = cc

-- the text of a kept fragment is read as that
pub kept_again : (log : List Entry) (a : Address) (time : ℕ) (body : List ℕ) (raw : RawFragment) → (k : IsKeptText log a body) → IsFragmentAt time body raw
    → raw_again k.id k.fragment (ahead_in log a.stream a.time) ≡ raw
kept_again log a time body raw k f =
    let ahead = ahead_in log a.stream a.time in
    let boxes = same_box f.moof (moof k.seq k.id k.fragment ahead) f.mdat (mdat k.fragment.samples) f.moof_whole (moof_whole k.seq k.id k.fragment ahead k.written) (sym f.body_is ∙ k.text_is) in
    let says : frag no_defaults (moof k.seq k.id k.fragment ahead) (mdat k.fragment.samples) ≡ Ok raw =
    sym (ap (λ (m : List ℕ). frag no_defaults m f.mdat) boxes.0 ∙ ap (frag no_defaults (moof k.seq k.id k.fragment ahead)) boxes.1) ∙ f.read in
    one_raw (raw_again k.id k.fragment ahead) raw (frag no_defaults (moof k.seq k.id k.fragment ahead) (mdat k.fragment.samples))
    (frag_read no_defaults k.seq k.id k.fragment ahead k.written) says

pub kept_is_read : (log : List Entry) (a : Address) (time : ℕ) (body : List ℕ) (raw : RawFragment) → IsKeptText log a body → IsFragmentAt time body raw
    → (at : ℕ) × (kept_at log a ≡ Some (at, given a.stream a.bitrate raw))
kept_is_read log a time body raw k f =
    let again = kept_again log a time body raw k f in
    let same : given (address_of k.fragment).stream (address_of k.fragment).bitrate (raw_again k.id k.fragment (ahead_in log a.stream a.time)) ≡ given a.stream a.bitrate raw =
    ap (λ (b : Address). given b.stream b.bitrate (raw_again k.id k.fragment (ahead_in log a.stream a.time))) (kept_address log a k.seq k.fragment k.placed) ∙ ap (λ (r : RawFragment). given a.stream a.bitrate r) again in
    (k.seq, subst (λ (g : Fragment). kept_at log a ≡ Some (k.seq, g)) same k.placed)

-- ---- answers

-- a reply that says that all is well has the fragment
well : (log : List Entry) (named : List ℕ) (a : Address) (status : ℕ) (body : List ℕ) → status ≡ 200 → SaysFragment log a status body ⊎ IsUnwell status named → IsKeptText log a body
well log named a status body is (inl (inl gives)) = gives.1
well log named a status body is (inl (inr none)) = absurd (omega (arith, is, none.1))
well log named a status body is (inr (inl fails)) = absurd (omega (arith, is, fails))
well log named a status body is (inr (inr (inl busy))) = absurd (omega (arith, is, busy))
well log named a status body is (inr (inr (inr long))) = absurd (omega (arith, is, long.0))

front_is_kept : (log : List Entry) (place : Place) (url : List ℕ) (a : Address) (bytes : List ℕ) (g : Got) → FromOrigin log (fragment_request place url a) (answers.Bytes bytes)
    → SpellsFragment a.time (answers.Bytes bytes) g → IsKeptAt place url a log g
front_is_kept log place url a bytes (got.Manifest listing) from spells = absurd spells
front_is_kept log place url a bytes (got.Fragment raw) from (at, body, whole, is) = λ asked b named.
    let (reply, more, r, text) = from place.host place.port (fragment_target place url a) asked refl in
    let own = own_body r.status r.kind r.body r.close bytes more 200 at body r.code r.final r.short (sym r.text ∙ text) whole in
    kept_is_read log b a.time body raw (subst (IsKeptText log b) (sym own.1) (well log (fragment_target place url a) b r.status r.body (sym own.0) (r.fragment b named))) is
front_is_kept log place url a bytes (got.Status status) from spells = tt
front_is_kept log place url a bytes got.Cut from spells = tt
front_is_kept log place url a bytes (got.Unreadable at) from spells = tt
front_is_kept log place url a bytes got.Lost from spells = tt
front_is_kept log place url a bytes got.NoMemory from spells = tt

-- what is kept stays kept
kept_on : (place : Place) (url : List ℕ) (a : Address) (log since : List Entry) (g : Got) → IsKeptAt place url a log g → IsKeptAt place url a (log ++ since) g
kept_on place url a log since (got.Manifest listing) is = tt
kept_on place url a log since (got.Fragment raw) is = λ asked b named. let there = is asked b named in (there.0, kept_stays b 0 log since (there.0, given b.stream b.bitrate raw) there.1)
kept_on place url a log since (got.Status status) is = tt
kept_on place url a log since got.Cut is = tt
kept_on place url a log since (got.Unreadable at) is = tt
kept_on place url a log since got.Lost is = tt
kept_on place url a log since got.NoMemory is = tt

pub answer_is_kept : (old now : List Entry → Type 0) (place : Place) (url : List ℕ) (a : Address) (bytes : List ℕ) (g : Got)
    → AnswersFrom old now (fragment_request place url a) (answers.Bytes bytes) → SpellsFragment a.time (answers.Bytes bytes) g → GrowsWith place url a old now g
answer_is_kept old now place url a bytes g from spells = λ log told.
    let (until, since, is, origin) = from log told in
    let one = append_assoc log until since in (
      until ++ since,
      subst now one is,
      subst (λ (l : List Entry). IsKeptAt place url a l g) one (kept_on place url a (log ++ until) since g (front_is_kept (log ++ until) place url a bytes g origin spells)),
    )

-- the number that was read is that of the text
pub placed_is_read : (log : List Entry) (a : Address) (time : ℕ) (body : List ℕ) (number : ℕ) (raw : RawFragment) → IsKeptText log a body → IsNumberedAt time body number raw
    → kept_at log a ≡ Some (number, given a.stream a.bitrate raw)
unfolding kept_is_read
placed_is_read log a time body number raw k n =
    let f = n.0 in
    let ahead = ahead_in log a.stream a.time in
    let boxes = same_box f.moof (moof k.seq k.id k.fragment ahead) f.mdat (mdat k.fragment.samples) f.moof_whole (moof_whole k.seq k.id k.fragment ahead k.written) (sym f.body_is ∙ k.text_is) in
    let says : Some k.seq ≡ Some number = sym (written_again k.seq k.id k.fragment ahead k.seq_fits k.written) ∙ ap sequence_in (sym boxes.0) ∙ n.1 in
    let there = kept_is_read log a time body raw k f in
    subst (λ (m : ℕ). kept_at log a ≡ Some (m, given a.stream a.bitrate raw)) (one_some k.seq number says) there.1
  where
    one_some : (m n : ℕ) → (let some : ℕ → Option ℕ = λ x. Some x in some m ≡ some n) → m ≡ n
    one_some m n e = cc

front_is_placed : (log : List Entry) (place : Place) (url : List ℕ) (a : Address) (bytes : List ℕ) (p : Placed) → FromOrigin log (fragment_request place url a) (answers.Bytes bytes)
    → SpellsPlaced a.time (answers.Bytes bytes) p → IsPlacedAt place url a log p
front_is_placed log place url a bytes (placed.Fragment number raw) from (at, body, whole, is) = λ asked b named.
    let (reply, more, r, text) = from place.host place.port (fragment_target place url a) asked refl in
    let own = own_body r.status r.kind r.body r.close bytes more 200 at body r.code r.final r.short (sym r.text ∙ text) whole in
    placed_is_read log b a.time body number raw (subst (IsKeptText log b) (sym own.1) (well log (fragment_target place url a) b r.status r.body (sym own.0) (r.fragment b named))) is
front_is_placed log place url a bytes (placed.Status status) from spells = tt
front_is_placed log place url a bytes placed.Cut from spells = tt
front_is_placed log place url a bytes (placed.Unreadable at) from spells = tt
front_is_placed log place url a bytes placed.Lost from spells = tt
front_is_placed log place url a bytes placed.NoMemory from spells = tt

placed_on : (place : Place) (url : List ℕ) (a : Address) (log since : List Entry) (p : Placed) → IsPlacedAt place url a log p → IsPlacedAt place url a (log ++ since) p
placed_on place url a log since (placed.Fragment number raw) is = λ asked b named. kept_stays b 0 log since (number, given b.stream b.bitrate raw) (is asked b named)
placed_on place url a log since (placed.Status status) is = tt
placed_on place url a log since placed.Cut is = tt
placed_on place url a log since (placed.Unreadable at) is = tt
placed_on place url a log since placed.Lost is = tt
placed_on place url a log since placed.NoMemory is = tt

pub answer_is_placed : (old now : List Entry → Type 0) (place : Place) (url : List ℕ) (a : Address) (bytes : List ℕ) (p : Placed)
    → AnswersFrom old now (fragment_request place url a) (answers.Bytes bytes) → SpellsPlaced a.time (answers.Bytes bytes) p → GrowsPlaced place url a old now p
answer_is_placed old now place url a bytes p from spells = λ log told.
    let (until, since, is, origin) = from log told in
    let one = append_assoc log until since in (
      until ++ since,
      subst now one is,
      subst (λ (l : List Entry). IsPlacedAt place url a l p) one (placed_on place url a (log ++ until) since p (front_is_placed (log ++ until) place url a bytes p origin spells)),
    )

-- what is no fragment is kept anywhere
pub grown_without : (old now : List Entry → Type 0) (place : Place) (url : List ℕ) (a : Address) (g : Got) → ((log : List Entry) → IsKeptAt place url a log g)
    → Grows old now → GrowsWith place url a old now g
grown_without old now place url a g kept grows = λ log told. let (more, is) = grows log told in (more, is, kept (log ++ more))

-- ---- stores

pub stays_grown : (s : List Entry → Type 0) → Grows s s
stays_grown s = λ log told. ([], subst s (sym (append-nil log)) told)

pub grown : (old now : List Entry → Type 0) (request : List ℕ) (answer : Answer) → AnswersFrom old now request answer → Grows old now
grown old now request answer is = λ log told. let (until, since, at, from) = is log told in (until ++ since, subst now (append_assoc log until since) at)
