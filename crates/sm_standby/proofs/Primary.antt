-- What a primary that keeps a log answers to who asks for a fragment and its place.
use Rattle.std.proofs.Common.{◌≡◌, ◌≢◌, ◌<◌, ◌≤◌, ◌^◌, ◌⊎◌, ◌&&◌, ℕ, Bool, true, false, cond, eqb, List, [], ◌∷◌, length, Option, Some, None, refl, ap, sym, ◌∙◌, subst, arith, inl, inr}
use Rattle.std.specs.Prelude.{codes, is_some, All}
use Rattle.std.specs.List.{AllByRecursion}
use Rattle.std.proofs.lemmas.Bool.{eqb-true, eq-eqb}
use Rattle.std.proofs.lemmas.List.Elements.{recursion_from_All}
use Rattle.sm_model.specs.declared.address.Address.{Address}
use Rattle.sm_model.specs.declared.entry.Entry.{Entry}
use Rattle.sm_model.specs.declared.run.RawFragment.{RawFragment}
use Rattle.sm_model.specs.declared.target.Target.TheVariants as target
use Rattle.sm_model.specs.declared.track.Track.{Track}
use Rattle.sm_model.specs.Channels.{IsNarrowTrack}
use Rattle.sm_model.specs.Found.{is_kind}
use Rattle.sm_model.specs.FragText.{moof, mdat}
use Rattle.sm_model.specs.Names.{is_name}
use Rattle.sm_model.specs.Same.{is_same}
use Rattle.sm_model.specs.Written.{raw_again}
use Rattle.sm_model.proofs.WrittenFragment.{moof_whole, mdat_whole, moof_is, frag_read}
use Rattle.sm_log.specs.Adds.{id_in, is_declared, track_at}
use Rattle.sm_log.specs.Logs.{channel_of, kept_at, ahead_in}
use Rattle.sm_log.proofs.ListedKept.{kept_address}
use Rattle.sm_moof.specs.Sequence.{sequence_in}
use Rattle.sm_moof.specs.Shown.{no_defaults}
use Rattle.sm_moof.proofs.SequenceLemmas.{written_again}
use Rattle.sm_manout.specs.ManifestText.{url}
use Rattle.sm_manout.proofs.ShownDeclared.{same_is}
use Rattle.sm_addr.specs.Targets.{target_of}
use Rattle.sm_addr.specs.Written.{target_written, IsNamed}
use Rattle.sm_addr.proofs.RoundTrip.{target_again}
use Rattle.sm_fetch.specs.declared.dial.Answer.{Answer}
use Rattle.sm_fetch.specs.declared.dial.Answer.TheVariants as answers
use Rattle.sm_fetch.specs.declared.place.Place.{Place}
use Rattle.sm_fetch.specs.declared.placed.Placed.{Placed}
use Rattle.sm_fetch.specs.declared.placed.Placed.TheVariants as placed
use Rattle.sm_fetch.specs.Answered.{IsWholeReply}
use Rattle.sm_fetch.specs.Origins.{IsKeptText, IsUnwell, SaysFragment, IsOfOrigin, MayBeAsked, FromOrigin}
use Rattle.sm_fetch.specs.Patterns.{written_url}
use Rattle.sm_fetch.specs.Placing.{SpellsNumbered, SpellsPlaced}
use Rattle.sm_fetch.specs.Requests.{fragment_target, fragment_request}
use Rattle.sm_fetch.specs.Spelt.{IsFragmentAt, given}
use Rattle.sm_fetch.proofs.OneReply.{one_whole, whole_isnt_cut, whole_isnt_none}
use Rattle.sm_fetch.proofs.Origin.{own_body, kept_again, placed_is_read}
use Rattle.sm_fetch.proofs.Urls.{url_names}
use Rattle.sm_client.specs.Served.{IsPlace, IsStream, IsWhole, IsUnrefused}
use Rattle.sm_client.proofs.Asked.{may-ask, short-fragment}
use Rattle.sm_standby.specs.Placed.{NamesItself}
use Rattle.sm_standby.specs.Turns.{missed}

-- ---- what may be asked for

-- an address of the primary's channel, at a time of 64 bits
pub record IsAskable (up : List Track) (a : Address) : Type 0 where
  pub stream : IsStream up a.stream
  pub declared : is_declared up a ≡ true
  pub time : a.time < 2 ^ 64

url_same : (name : List ℕ) → url name ≡ written_url name
unfolding url
url_same name = refl

track_narrow : (name : List ℕ) (bitrate : ℕ) (channel : List Track) → AllByRecursion IsNarrowTrack channel → is_some (track_at name bitrate channel) ≡ true → (is_name name ≡ true) × (bitrate < 2 ^ 32)
track_narrow name bitrate [] all e = absurd (cc)
track_narrow name bitrate (t ∷ ts) all e = by (is_same t.name name) refl (eqb t.bitrate bitrate) refl e (λ h. track_narrow name bitrate ts all.1 h)
  where
    by : (b : Bool) → is_same t.name name ≡ b → (c : Bool) → eqb t.bitrate bitrate ≡ c → is_some (cond (b && c) (Some t) (track_at name bitrate ts)) ≡ true
        → (is_some (track_at name bitrate ts) ≡ true → (is_name name ≡ true) × (bitrate < 2 ^ 32)) → (is_name name ≡ true) × (bitrate < 2 ^ 32)
    by true same true equal e rest = (subst (λ n. is_name n ≡ true) (same_is t.name name same) all.0.name, subst (λ n. n < 2 ^ 32) (eqb-true t.bitrate bitrate equal) all.0.bitrate)
    by true same false other e rest = rest e
    by false other c equal e rest = rest e

-- a reply that says that all is well has the fragment
well : (log : List Entry) (named : List ℕ) (a : Address) (status : ℕ) (body : List ℕ) → status ≡ 200 → SaysFragment log a status body ⊎ IsUnwell status named → IsKeptText log a body
well log named a status body is (inl (inl gives)) = gives.1
well log named a status body is (inl (inr none)) = absurd (omega (arith, is, none.1))
well log named a status body is (inr (inl fails)) = absurd (omega (arith, is, fails))
well log named a status body is (inr (inr (inl busy))) = absurd (omega (arith, is, busy))
well log named a status body is (inr (inr (inr long))) = absurd (omega (arith, is, long.0))

-- one that says 404 says that none is there
none_said : (log : List Entry) (named : List ℕ) (a : Address) (status : ℕ) (body : List ℕ) → status ≡ 404 → SaysFragment log a status body ⊎ IsUnwell status named → kept_at log a ≡ None
none_said log named a status body is (inl (inl gives)) = absurd (let e = gives.0 in omega (arith, is, e))
none_said log named a status body is (inl (inr none)) = none.0
none_said log named a status body is (inr (inl fails)) = absurd (omega (arith, is, fails))
none_said log named a status body is (inr (inr (inl busy))) = absurd (omega (arith, is, busy))
none_said log named a status body is (inr (inr (inr long))) = absurd (omega (arith, is, long.0))

-- one with another status than 200 that is no refusal is no miss
no_miss : (log : List Entry) (named : List ℕ) (a : Address) (status : ℕ) (body : List ℕ) → status ≢ 200 → status ≢ 500 → status ≢ 503 → length named ≤ 7000
    → SaysFragment log a status body ⊎ IsUnwell status named → missed (placed.Status status) ≡ None
no_miss log named a status body no200 no500 no503 short (inl (inl gives)) = absurd (no200 gives.0)
no_miss log named a status body no200 no500 no503 short (inl (inr none)) = rw (eq-eqb status 404 none.1) refl
no_miss log named a status body no200 no500 no503 short (inr (inl fails)) = absurd (no500 fails)
no_miss log named a status body no200 no500 no503 short (inr (inr (inl busy))) = absurd (no503 busy)
no_miss log named a status body no200 no500 no503 short (inr (inr (inr long))) = absurd (omega (arith, short, long.1))

module _ (place : Place) (up : List Track) (place_is : IsPlace place) (narrow : All IsNarrowTrack up) where
  is_named : (a : Address) → IsAskable up a → IsNamed (target.Fragment a)
  is_named a k = let n = track_narrow a.stream a.bitrate up (recursion_from_All _ up narrow) k.declared in (n.1, k.time, n.0, k.stream.bytes)

  target_is : (pattern : List ℕ) (a : Address) → pattern ≡ url a.stream → fragment_target place pattern a ≡ target_written place.path (target.Fragment a)
  target_is pattern a is = ap (λ (u : List ℕ). fragment_target place u a) (is ∙ url_same a.stream) ∙ url_names place a

  -- the request names the address that it is made for
  pub names_itself : (pattern : List ℕ) (a : Address) → IsAskable up a → pattern ≡ url a.stream → NamesItself place pattern a
  names_itself pattern a k is =
      let t = target_is pattern a is in
      let named = is_named a k in
      record {
        may = subst (MayBeAsked place.host place.port) (sym t) (may-ask place (target.Fragment a) place_is named);
        names = ap target_of t ∙ target_again place.path (target.Fragment a) place_is.path place_is.bytes named;
      }

  -- what a whole reply says
  says : (log : List Entry) (pattern : List ℕ) (a : Address) (bytes body : List ℕ) (status at : ℕ) → IsAskable up a → pattern ≡ url a.stream
      → FromOrigin log (fragment_request place pattern a) (answers.Bytes bytes) → IsWholeReply bytes status at body → SaysFragment log a status body ⊎ IsUnwell status (fragment_target place pattern a)
  says log pattern a bytes body status at k is from w =
      let n = names_itself pattern a k is in
      own_says (from place.host place.port (fragment_target place pattern a) n.may refl) n.names
    where
      own_says : IsOfOrigin log (fragment_target place pattern a) bytes → target_of (fragment_target place pattern a) ≡ target.Fragment a → SaysFragment log a status body ⊎ IsUnwell status (fragment_target place pattern a)
      own_says (reply, more, r, text) names =
          let own = own_body r.status r.kind r.body r.close bytes more status at body r.code r.final r.short (sym r.text ∙ text) w in
          rw (own.0, own.1) (r.fragment a names)

  -- what is read is what the log keeps there, at its place, under the track_ID of its track
  pub placed_read : (log : List Entry) (pattern : List ℕ) (a : Address) (n : ℕ) (raw : RawFragment) (answer : Answer) → IsAskable up a → pattern ≡ url a.stream
      → FromOrigin log (fragment_request place pattern a) answer → SpellsPlaced a.time answer (placed.Fragment n raw)
      → (kept_at log a ≡ Some (n, given a.stream a.bitrate raw)) × ((channel : List Track) → channel_of log ≡ Some channel → raw.id ≡ id_in channel a)
  placed_read log pattern a n raw (answers.Bytes bytes) k is from (at, body, w, read) =
      let text = well log (fragment_target place pattern a) a 200 body refl (says log pattern a bytes body 200 at k is from w) in
      (placed_is_read log a a.time body n raw text read, λ channel c. sym (ap (λ (r : RawFragment). r.id) (kept_again log a a.time body raw text read.0)) ∙ text.id_is channel c)
  placed_read log pattern a n raw answers.Lost k is from s = absurd (cc)
  placed_read log pattern a n raw answers.NoMemory k is from s = absurd (cc)

  -- where it is told that none is there, none is
  pub placed_absent : (log : List Entry) (pattern : List ℕ) (a : Address) (answer : Answer) → IsAskable up a → pattern ≡ url a.stream
      → FromOrigin log (fragment_request place pattern a) answer → SpellsPlaced a.time answer (placed.Status 404) → kept_at log a ≡ None
  placed_absent log pattern a (answers.Bytes bytes) k is from (at, body, w, not) =
      none_said log (fragment_target place pattern a) a 404 body refl (says log pattern a bytes body 404 at k is from w)
  placed_absent log pattern a answers.Lost k is from s = absurd (cc)
  placed_absent log pattern a answers.NoMemory k is from s = absurd (cc)

  text_read : (log : List Entry) (a : Address) (body : List ℕ) (t : IsKeptText log a body) → IsFragmentAt a.time body (raw_again t.id t.fragment (ahead_in log a.stream a.time))
  text_read log a body t =
      let ahead = ahead_in log a.stream a.time in
      let w = t.written in
      record {
        moof = moof t.seq t.id t.fragment ahead;
        mdat = mdat t.fragment.samples;
        body_is = t.text_is;
        moof_whole = moof_whole t.seq t.id t.fragment ahead w;
        moof_kind = ap (is_kind (codes "moof")) (moof_is t.seq t.id t.fragment ahead w);
        mdat_whole = mdat_whole t.id t.fragment ahead w;
        read = frag_read no_defaults t.seq t.id t.fragment ahead w;
        valid = record { some = w.valid.some; few = w.valid.few; lasts = w.valid.lasts; ends = w.valid.ends; short = w.valid.short };
        time_is = ap (λ (b : Address). b.time) (kept_address log a t.seq t.fragment t.placed);
      }

  numbered : (log : List Entry) (a : Address) (body : List ℕ) (t : IsKeptText log a body) → sequence_in (moof t.seq t.id t.fragment (ahead_in log a.stream a.time)) ≡ None → ⊥
  numbered log a body t none = let some = written_again t.seq t.id t.fragment (ahead_in log a.stream a.time) t.seq_fits t.written in no_number t.seq (sym some ∙ none)
    where
      no_number : (n : ℕ) → ◌≡◌ {A = Option ℕ} (Some n) None → ⊥
      no_number n e = cc

  by_placed : (log : List Entry) (pattern : List ℕ) (a : Address) (bytes body : List ℕ) (status at : ℕ) (p : Placed) → IsAskable up a → pattern ≡ url a.stream
      → FromOrigin log (fragment_request place pattern a) (answers.Bytes bytes) → status ≢ 500 → status ≢ 503 → IsWholeReply bytes status at body → SpellsNumbered a.time bytes p → missed p ≡ None
  unfolding text_read
  by_placed log pattern a bytes body status at (placed.Fragment n raw) k is from no500 no503 w s = refl
  by_placed log pattern a bytes body status at (placed.Status other) k is from no500 no503 w (b, said, too, no200) =
      let same = one_whole bytes status at body other b said w too in
      let short : length (fragment_target place pattern a) ≤ 7000 = subst (λ (t : List ℕ). length t ≤ 7000) (sym (target_is pattern a is)) (short-fragment place a place_is (is_named a k)) in
      no_miss log (fragment_target place pattern a) a other said no200 (λ e. no500 (sym same.0 ∙ e)) (λ e. no503 (sym same.0 ∙ e)) short (says log pattern a bytes said other b k is from too)
  by_placed log pattern a bytes body status at placed.Cut k is from no500 no503 w s = absurd (whole_isnt_cut bytes status at body w s)
  by_placed log pattern a bytes body status at (placed.Unreadable bad) k is from no500 no503 w (inl none) = absurd (whole_isnt_none bytes status at body bad w none)
  by_placed log pattern a bytes body status at (placed.Unreadable bad) k is from no500 no503 w (inr (said, too, hasnt)) =
      let text = well log (fragment_target place pattern a) a 200 said refl (says log pattern a bytes said 200 bad k is from too) in
      absurd (numbered log a said text (hasnt (raw_again text.id text.fragment (ahead_in log a.stream a.time)) (text_read log a said text)))
  by_placed log pattern a bytes body status at placed.Lost k is from no500 no503 w s = absurd s
  by_placed log pattern a bytes body status at placed.NoMemory k is from no500 no503 w s = refl

  -- a whole answer that is no 500 and no 503 is no miss
  pub placed_given : (log : List Entry) (pattern : List ℕ) (a : Address) (p : Placed) (answer : Answer) → IsAskable up a → pattern ≡ url a.stream
      → FromOrigin log (fragment_request place pattern a) answer → IsUnrefused answer → SpellsPlaced a.time answer p → IsWhole answer → missed p ≡ None
  placed_given log pattern a p (answers.Bytes bytes) k is from free s (status, at, body, w) =
      let no = free status at body w in by_placed log pattern a bytes body status at p k is from no.0 no.1 w s
  placed_given log pattern a p answers.Lost k is from free s w = absurd w
  placed_given log pattern a p answers.NoMemory k is from free s w = absurd w
