-- A play over an origin that keeps a log: what its manifests and fragments spell, and how it ends.
use Rattle.std.proofs.Common.{◌≡◌, ◌≢◌, ◌<◌, ◌≤◌, ◌+◌, ◌^◌, ◌⊎◌, ◌||◌, ◌&&◌, ℕ, zero, suc, Bool, true, false, cond, eqb, ltb}
use Rattle.std.proofs.Common.{List, [], ◌∷◌, ◌++◌, length, slice_get, slice_index, Option, Some, None, Ok, refl, ap, sym, ◌∙◌, subst, arith, inl, inr}
use Rattle.std.specs.Prelude.{codes, is_some, filter, All}
use Rattle.std.specs.List.{list_any, AllByRecursion}
use Rattle.std.proofs.lemmas.Bool.{eqb-true}
use Rattle.std.proofs.lemmas.List.Elements.{recursion_from_All}
use Rattle.sm_model.specs.declared.address.Address.{Address}
use Rattle.sm_model.specs.declared.entry.Entry.{Entry}
use Rattle.sm_model.specs.declared.fragment.Fragment.{Fragment}
use Rattle.sm_model.specs.declared.run.RawFragment.{RawFragment}
use Rattle.sm_model.specs.declared.target.Target.TheVariants as target
use Rattle.sm_model.specs.declared.track.Track.{Track}
use Rattle.sm_model.specs.Channels.{IsNarrowTrack}
use Rattle.sm_model.specs.Found.{is_kind}
use Rattle.sm_model.specs.FragText.{moof, mdat, frag_text}
use Rattle.sm_model.specs.Same.{is_same}
use Rattle.sm_model.specs.Names.{is_name}
use Rattle.sm_model.specs.Written.{IsWritten, raw_again}
use Rattle.sm_model.proofs.WrittenFragment.{moof_whole, mdat_whole, moof_is, frag_read}
use Rattle.sm_log.specs.Adds.{track_at, tracks_of}
use Rattle.sm_log.specs.Logs.{channel_of, kept_at, listed_in, ahead_in}
use Rattle.sm_log.specs.Times.{entry_at}
use Rattle.sm_log.proofs.AllLogs.{listed_sound, listed_in_stays}
use Rattle.sm_log.proofs.ListedKept.{listed_kept, channel_sound, ahead_listed, kept_valid, kept_address}
use Rattle.sm_manin.specs.declared.listing.Level.{Level}
use Rattle.sm_manin.specs.declared.listing.Listing.{Listing}
use Rattle.sm_manin.specs.declared.listing.StreamListing.{StreamListing}
use Rattle.sm_manin.specs.Listings.{with_level}
use Rattle.sm_manin.specs.ManifestRead.{IsManifest}
use Rattle.sm_manout.specs.ManifestText.{manifest, url}
use Rattle.sm_manout.specs.ReadAgain.{levels_again, stream_again, streams_again, listing_again}
use Rattle.sm_manout.proofs.ReadManifest.{written_is_read}
use Rattle.sm_manout.proofs.ShownDeclared.{same_is, Declares, all_declared}
use Rattle.sm_addr.specs.Targets.{target_of}
use Rattle.sm_addr.specs.Written.{target_written, IsNamed}
use Rattle.sm_addr.proofs.RoundTrip.{target_again}
use Rattle.sm_moof.specs.Shown.{no_defaults}
use Rattle.sm_fetch.specs.declared.dial.Answer.{Answer}
use Rattle.sm_fetch.specs.declared.dial.Answer.TheVariants as answers
use Rattle.sm_fetch.specs.declared.got.Got.{Got}
use Rattle.sm_fetch.specs.declared.got.Got.TheVariants as got
use Rattle.sm_fetch.specs.declared.place.Place.{Place}
use Rattle.sm_fetch.specs.Answered.{IsWholeReply}
use Rattle.sm_fetch.specs.OneReading.{AreOne}
use Rattle.sm_fetch.specs.Patterns.{written_url}
use Rattle.sm_fetch.specs.Requests.{manifest_target, manifest_request, fragment_target, fragment_request}
use Rattle.sm_fetch.specs.Spelt.{SpellsManifest, SpellsFragment, IsFragmentAt}
use Rattle.sm_fetch.proofs.OneGot.{one_manifest_got, one_fragment_got}
use Rattle.sm_fetch.proofs.Origin.{own_body}
use Rattle.sm_fetch.proofs.Urls.{url_names}
use Rattle.sm_client.specs.Starts.{has, starts}
use Rattle.sm_client.specs.Stands.{listed, ladder_of, miss_of}
use Rattle.sm_fetch.specs.Origins.{IsKeptText, IsUnwell, SaysManifest, SaysFragment, IsOfOrigin, MayBeAsked, FromOrigin}
use Rattle.sm_client.specs.Origins.{IsQuality, IsListedStream, IsListedAt, IsTheOrigins, again}
use Rattle.sm_client.specs.Served.{IsMoment, IsPlace, IsWhole, IsUnrefused}
use Rattle.sm_client.proofs.Rows.{by_bool, or_true}
use Rattle.sm_client.proofs.Asked.{may-ask, short-manifest, short-fragment}

-- ---- lists

pub some_is : {X : Type 0} (o : Option X) → is_some o ≡ true → (x : X) × (o ≡ Some x)
some_is None e = absurd (cc)
some_is (Some x) e = (x, refl)

all-to : {X : Type 0} (P Q : X → Type 0) (xs : List X) → ((x : X) → P x → Q x) → AllByRecursion P xs → AllByRecursion Q xs
all-to P Q [] f a = tt
all-to P Q (x ∷ xs) f a = (f x a.0, all-to P Q xs f a.1)

all-filter : {X : Type 0} (P : X → Type 0) (p : X → Bool) (xs : List X) → AllByRecursion P xs → AllByRecursion (λ x. P x × (p x ≡ true)) (filter p xs)
all-filter P p [] a = tt
all-filter P p (x ∷ xs) a =
    by_bool (p x) (λ b. p x ≡ b → AllByRecursion (λ y. P y × (p y ≡ true)) (cond b (x ∷ filter p xs) (filter p xs)))
    (λ t is. ((a.0, is), all-filter P p xs a.1)) (λ f is. all-filter P p xs a.1) refl

any-more : {X : Type 0} (p : X → Bool) (xs : List X) (x : X) → list_any p xs ≡ false → p x ≡ false → list_any p (xs ++ x ∷ []) ≡ false
any-more p [] x a e = rw e refl
any-more p (y ∷ ys) x a e =
    by_bool (p y) (λ b. (b || list_any p ys) ≡ false → (b || list_any p (ys ++ x ∷ [])) ≡ false) (λ t h. absurd (cc)) (λ f h. any-more p ys x h e) a

-- ---- qualities

all-with : (P : Level → Type 0) (l : Level) (ls : List Level) → P l → AllByRecursion P ls → AllByRecursion P (with_level l ls)
all-with P l [] p a = (p, tt)
all-with P l (k ∷ ks) p a =
    by_bool (ltb l.bitrate k.bitrate) (λ b. AllByRecursion P (cond b (l ∷ k ∷ ks) (k ∷ with_level l ks))) (λ t. (p, a)) (λ f. (a.0, all-with P l ks p a.1))

all-again : (channel : List Track) (name : List ℕ) (sorted : List Level) (index : ℕ) (ts : List Track) → AllByRecursion (IsQuality channel name) sorted
    → AllByRecursion (λ t. is_some (track_at name t.bitrate channel) ≡ true) ts → AllByRecursion (IsQuality channel name) (levels_again sorted index ts)
all-again channel name sorted index [] a b = a
all-again channel name sorted index (t ∷ ts) a b =
    all-again channel name (with_level (record { index = index; bitrate = t.bitrate }) sorted) (index + 1) ts (all-with (IsQuality channel name) (record { index = index; bitrate = t.bitrate }) sorted b.0 a) b.1

tracks-named : (channel : List Track) (name : List ℕ) → AllByRecursion (λ t. is_some (track_at name t.bitrate channel) ≡ true) (tracks_of name channel)
tracks-named channel name =
    all-to (λ (t : Track). Declares channel t.name t.bitrate × (is_same t.name name ≡ true)) (λ (t : Track). is_some (track_at name t.bitrate channel) ≡ true) (tracks_of name channel)
    (λ t h. subst (λ n. is_some (track_at n t.bitrate channel) ≡ true) (same_is t.name name h.1) h.0)
    (all-filter (λ (t : Track). Declares channel t.name t.bitrate) (λ t. is_same t.name name) channel (all_declared channel))

pub level-at : (channel : List Track) (name : List ℕ) (ls : List Level) (i : ℕ) → AllByRecursion (IsQuality channel name) ls → i < length ls
    → is_some (track_at name (slice_index (ladder_of ls) i) channel) ≡ true
level-at channel name [] i a h = absurd (omega (arith, h))
level-at channel name (l ∷ ls) zero a h = a.0
level-at channel name (l ∷ ls) (suc i) a h = level-at channel name ls i a.1 (omega (arith, h))

-- ---- streams

ours : (channel : List Track) (times : List ℕ → List (ℕ × ℕ)) (name : List ℕ) (t : Track) → t.name ≡ name → IsListedStream channel name (stream_again channel (times t.name) t)
ours channel times name t e = record {
  pattern = ap url e;
  levels = subst (λ n. AllByRecursion (IsQuality channel name) (levels_again [] 0 (tracks_of n channel))) (sym e) (all-again channel name [] 0 (tracks_of name channel) tt (tracks-named channel name));
}

abbrev Finds : List Track → (List ℕ → List (ℕ × ℕ)) → List ℕ → List StreamListing → Type 0
Finds channel times name streams = (s : StreamListing) × (listed name streams ≡ Some s) × IsListedStream channel name s × (s.times ≡ times name)

listed-again : (channel : List Track) (times : List ℕ → List (ℕ × ℕ)) (name : List ℕ) (earlier ts : List Track) → list_any (λ u. is_same u.name name) earlier ≡ false
    → list_any (λ t. is_same t.name name) ts ≡ true → Finds channel times name (streams_again channel times earlier ts)
listed-again channel times name earlier [] none some = absurd (cc)
listed-again channel times name earlier (t ∷ ts) none some =
    by (is_same t.name name) refl (list_any (λ u. is_same u.name t.name) earlier) refl
    (λ other. listed-again channel times name (earlier ++ t ∷ []) ts (any-more (λ (u : Track). is_same u.name name) earlier t none other)
    (or_true (is_same t.name name) (list_any (λ t. is_same t.name name) ts) some other))
  where
    one : StreamListing
    one = stream_again channel (times t.name) t

    rest : List StreamListing
    rest = streams_again channel times (earlier ++ t ∷ []) ts

    by : (b : Bool) → is_same t.name name ≡ b → (c : Bool) → list_any (λ u. is_same u.name t.name) earlier ≡ c → (is_same t.name name ≡ false → Finds channel times name rest)
        → Finds channel times name ((cond c [] (one ∷ [])) ++ rest)
    by true same false first later =
        (one, ap (λ b. cond b (Some one) (listed name rest)) same, ours channel times name t (same_is t.name name same), ap times (same_is t.name name same))
    by true same true first later =
        absurd (let no : list_any (λ u. is_same u.name t.name) earlier ≡ false = ap (λ n. list_any (λ u. is_same u.name n) earlier) (same_is t.name name same) ∙ none in cc)
    by false other true first later = later other
    by false other false first later = let l = later other in (l.0, ap (λ b. cond b (Some one) (listed name rest)) other ∙ l.1, l.2, l.3)

-- ---- starts

pub has-entry : (k : ℕ) (ts : List (ℕ × ℕ)) → has k (starts ts) ≡ true → is_some (entry_at k ts) ≡ true
has-entry k [] e = absurd (cc)
has-entry k (x ∷ xs) e =
    by_bool (eqb x.0 k) (λ b. (b || has k (starts xs)) ≡ true → is_some (cond b (Some x.1) (entry_at k xs)) ≡ true) (λ t h. refl) (λ f h. has-entry k xs h) e

has-at : (k : ℕ) (ts : List (ℕ × ℕ)) → has k (starts ts) ≡ true → (i d : ℕ) × (slice_get ts i ≡ Some (k, d))
has-at k [] e = absurd (cc)
has-at k (x ∷ xs) e =
    by_bool (eqb x.0 k) (λ b. (b || has k (starts xs)) ≡ true → eqb x.0 k ≡ b → (i d : ℕ) × (slice_get (x ∷ xs) i ≡ Some (k, d)))
    (λ t h is. (0, x.1, ap (λ n. Some (n, x.1)) (eqb-true x.0 k is)))
    (λ f h is. let r = has-at k xs h in (suc r.0, r.1, r.2)) e refl

pub has-either : (k : ℕ) (xs ys : List ℕ) → has k (xs ++ ys) ≡ true → (has k xs ≡ true) ⊎ (has k ys ≡ true)
has-either k [] ys e = inr e
has-either k (x ∷ xs) ys e =
    by_bool (eqb x k) (λ b. (b || has k (xs ++ ys)) ≡ true → ((b || has k xs) ≡ true) ⊎ (has k ys ≡ true)) (λ t h. inl refl) (λ f h. has-either k xs ys h) e

pub entry-stays : (log more : List Entry) (name : List ℕ) (k : ℕ) → is_some (entry_at k (listed_in log name)) ≡ true → is_some (entry_at k (listed_in (log ++ more) name)) ≡ true
entry-stays log more name k e = let s = some_is (entry_at k (listed_in log name)) e in ap is_some (listed_in_stays log more name k s.0 s.1)

pub entry-ahead : (log : List Entry) (name : List ℕ) (start k : ℕ) → has k (starts (ahead_in log name start)) ≡ true → is_some (entry_at k (listed_in log name)) ≡ true
entry-ahead log name start k e = let a = has-at k (ahead_in log name start) e in ap is_some (ahead_listed log name start a.0 k a.1 a.2)

-- ---- replies

-- what a whole reply says, out of the front of an origin's
record Own (log : List Entry) (named body : List ℕ) (status : ℕ) : Type 0 where
  manifest : target_of named ≡ target.Manifest → SaysManifest log status body ⊎ IsUnwell status named
  fragment : (a : Address) → target_of named ≡ target.Fragment a → SaysFragment log a status body ⊎ IsUnwell status named

whole-own : (log : List Entry) (named bytes body : List ℕ) (status at : ℕ) → IsOfOrigin log named bytes → IsWholeReply bytes status at body → Own log named body status
whole-own log named bytes body status at (reply, more, r, text) w =
    let own = own_body r.status r.kind r.body r.close bytes more status at body r.code r.final r.short (sym r.text ∙ text) w in
    record { manifest = λ n. rw (own.0, own.1) (r.manifest n); fragment = λ a n. rw (own.0, own.1) (r.fragment a n) }

is-well : (status : ℕ) (named : List ℕ) → status ≢ 500 → status ≢ 503 → length named ≤ 7000 → IsUnwell status named → ⊥
is-well status named no500 no503 short (inl e) = no500 e
is-well status named no500 no503 short (inr (inl e)) = no503 e
is-well status named no500 no503 short (inr (inr e)) = omega (arith, short, e.1)

says-manifest : (channel : List Track) (log : List Entry) (named body : List ℕ) (status : ℕ) → channel_of log ≡ Some channel → (IsUnwell status named → ⊥) → SaysManifest log status body ⊎ IsUnwell status named
    → (status ≡ 200) × (body ≡ manifest channel (listed_in log))
says-manifest channel log named body status is well (inl (inl says)) =
    let same : says.0 ≡ channel = same-channel says.0 channel (sym says.1 ∙ is) in
    (says.2, says.3 ∙ ap (λ (c : List Track). manifest c (listed_in log)) same)
  where
    same-channel : (c d : List Track) → Some c ≡ Some d → c ≡ d
    same-channel c d e = cc
says-manifest channel log named body status is well (inl (inr none)) = absurd (let e : None ≡ Some channel = sym none.0 ∙ is in cc)
says-manifest channel log named body status is well (inr e) = absurd (well e)

says-fragment : (log : List Entry) (a : Address) (k : ℕ × Fragment) (named body : List ℕ) (status : ℕ) → kept_at log a ≡ Some k → (IsUnwell status named → ⊥) → SaysFragment log a status body ⊎ IsUnwell status named
    → (status ≡ 200) × IsKeptText log a body
says-fragment log a k named body status is well (inl (inl says)) = says
says-fragment log a k named body status is well (inl (inr none)) = absurd (let e : None ≡ Some k = sym none.0 ∙ is in cc)
says-fragment log a k named body status is well (inr e) = absurd (well e)

-- ---- manifests

manifest-again : (channel : List Track) (log : List Entry) → All IsNarrowTrack channel → IsMoment channel log → IsManifest (manifest channel (listed_in log)) (Ok (again channel log))
manifest-again channel log tracks is =
    written_is_read channel (listed_in log) (channel_sound log channel is.sound is.channel_is) tracks (λ name. listed_sound log name is.sound) is.few

manifest-whole : (place : Place) (channel : List Track) (log : List Entry) (bytes body : List ℕ) (status at : ℕ) → IsPlace place → All IsNarrowTrack channel
    → IsMoment channel log → FromOrigin log (manifest_request place) (answers.Bytes bytes) → IsWholeReply bytes status at body → status ≢ 500 → status ≢ 503
    → SpellsManifest (answers.Bytes bytes) (got.Manifest (again channel log))
manifest-whole place channel log bytes body status at there tracks is from w no500 no503 =
    let named = manifest_target place in
    let own = whole-own log named bytes body status at (from place.host place.port named (may-ask place target.Manifest there tt) refl) w in
    let says = says-manifest channel log named body status is.channel_is (is-well status named no500 no503 (short-manifest place there)) (own.manifest (target_again place.path target.Manifest there.path there.bytes tt)) in
    (at, body, subst (λ n. IsWholeReply bytes n at body) says.0 w, subst (λ t. IsManifest t (Ok (again channel log))) (sym says.1) (manifest-again channel log tracks is))

not500 : ◌≢◌ {A = ℕ} 200 500
not500 e = omega (arith, e)

not503 : ◌≢◌ {A = ℕ} 200 503
not503 e = omega (arith, e)

one-manifest : (l k : Listing) → AreOne (got.Manifest l) (got.Manifest k) → l ≡ k
one-manifest l k (inl e) = cc
one-manifest l k (inr (inl e)) = absurd (cc)
one-manifest l k (inr (inr e)) = absurd (cc)

-- what is read as a manifest is that of the log
pub manifest-read : (place : Place) (channel : List Track) (log : List Entry) (l : Listing) (answer : Answer) → IsPlace place → All IsNarrowTrack channel
    → IsMoment channel log → FromOrigin log (manifest_request place) answer → SpellsManifest answer (got.Manifest l) → l ≡ again channel log
manifest-read place channel log l (answers.Bytes bytes) there tracks is from (at, body, w, read) =
    one-manifest l (again channel log) (one_manifest_got (answers.Bytes bytes) (got.Manifest l) (got.Manifest (again channel log)) (at, body, w, read)
    (manifest-whole place channel log bytes body 200 at there tracks is from w not500 not503))
manifest-read place channel log l answers.Lost there tracks is from s = absurd (cc)
manifest-read place channel log l answers.NoMemory there tracks is from s = absurd (cc)

no-miss : (g h : Got) → AreOne g h → miss_of h ≡ None → (h ≡ got.NoMemory → ⊥) → miss_of g ≡ None
no-miss g h (inl e) n m = ap miss_of e ∙ n
no-miss g h (inr (inl e)) n m = ap miss_of e
no-miss g h (inr (inr e)) n m = absurd (m e)

-- a whole answer is no miss
pub manifest-given : (place : Place) (channel : List Track) (log : List Entry) (g : Got) (answer : Answer) → IsPlace place → All IsNarrowTrack channel
    → IsMoment channel log → FromOrigin log (manifest_request place) answer → IsUnrefused answer → SpellsManifest answer g → IsWhole answer → miss_of g ≡ None
manifest-given place channel log g (answers.Bytes bytes) there tracks is from free s (status, at, body, w) =
    let no = free status at body w in
    no-miss g (got.Manifest (again channel log)) (one_manifest_got (answers.Bytes bytes) g (got.Manifest (again channel log)) s
    (manifest-whole place channel log bytes body status at there tracks is from w no.0 no.1)) refl (λ e. cc)
manifest-given place channel log g answers.Lost there tracks is from free s w = absurd w
manifest-given place channel log g answers.NoMemory there tracks is from free s w = absurd w

-- ---- fragments

url-same : (name : List ℕ) → url name ≡ written_url name
unfolding url
url-same name = refl

track-narrow : (name : List ℕ) (bitrate : ℕ) (channel : List Track) → AllByRecursion IsNarrowTrack channel → is_some (track_at name bitrate channel) ≡ true → (is_name name ≡ true) × (bitrate < 2 ^ 32)
track-narrow name bitrate [] all e = absurd (cc)
track-narrow name bitrate (t ∷ ts) all e = by (is_same t.name name) refl (eqb t.bitrate bitrate) refl e (λ h. track-narrow name bitrate ts all.1 h)
  where
    by : (b : Bool) → is_same t.name name ≡ b → (c : Bool) → eqb t.bitrate bitrate ≡ c → is_some (cond (b && c) (Some t) (track_at name bitrate ts)) ≡ true
        → (is_some (track_at name bitrate ts) ≡ true → (is_name name ≡ true) × (bitrate < 2 ^ 32)) → (is_name name ≡ true) × (bitrate < 2 ^ 32)
    by true same true equal e rest = (subst (λ n. is_name n ≡ true) (same_is t.name name same) all.0.name, subst (λ n. n < 2 ^ 32) (eqb-true t.bitrate bitrate equal) all.0.bitrate)
    by true same false other e rest = rest e
    by false other c equal e rest = rest e

-- the address may be named
may-name : (place : Place) (channel : List Track) (log : List Entry) (pattern : List ℕ) (a : Address) (k : ℕ × Fragment) → IsMoment channel log → kept_at log a ≡ Some k → IsListedAt place channel log pattern a
    → IsNamed (target.Fragment a)
may-name place channel log pattern a k is kept at =
    let narrow = track-narrow a.stream a.bitrate channel (recursion_from_All _ channel at.tracks) at.declared in
    let v = kept_valid log a k.0 k.1 is.sound kept in
    let time : k.1.time ≡ a.time = ap (λ (b : Address). b.time) (kept_address log a k.0 k.1 kept) in
    (narrow.1, omega (arith, v.ends, time), narrow.0, at.stream.bytes)

-- and the request names it
target-is : (place : Place) (channel : List Track) (log : List Entry) (pattern : List ℕ) (a : Address) → IsListedAt place channel log pattern a → fragment_target place pattern a ≡ target_written place.path (target.Fragment a)
target-is place channel log pattern a at = ap (λ u. fragment_target place u a) (at.pattern_is ∙ url-same a.stream) ∙ url_names place a

text-read : (seq id time : ℕ) (f : Fragment) (ahead : List (ℕ × ℕ)) → IsWritten id f ahead → f.time ≡ time → IsFragmentAt time (frag_text seq id f ahead) (raw_again id f ahead)
text-read seq id time f ahead w is = record {
  moof = moof seq id f ahead;
  mdat = mdat f.samples;
  body_is = refl;
  moof_whole = moof_whole seq id f ahead w;
  moof_kind = ap (is_kind (codes "moof")) (moof_is seq id f ahead w);
  mdat_whole = mdat_whole id f ahead w;
  read = frag_read no_defaults seq id f ahead w;
  valid = record { some = w.valid.some; few = w.valid.few; lasts = w.valid.lasts; ends = w.valid.ends; short = w.valid.short };
  time_is = is;
}

fragment-whole : (place : Place) (channel : List Track) (log : List Entry) (pattern : List ℕ) (a : Address) (bytes body : List ℕ) (status at : ℕ) → IsMoment channel log → IsListedAt place channel log pattern a
    → FromOrigin log (fragment_request place pattern a) (answers.Bytes bytes) → IsWholeReply bytes status at body → status ≢ 500 → status ≢ 503
    → (raw : RawFragment) × IsTheOrigins log a raw × SpellsFragment a.time (answers.Bytes bytes) (got.Fragment raw)
fragment-whole place channel log pattern a bytes body status at is l from w no500 no503 =
    let k = some_is (kept_at log a) (listed_kept log channel a is.channel_is l.declared l.listed) in
    let named = may-name place channel log pattern a k.0 is k.1 l in
    let target' = target-is place channel log pattern a l in
    let may : MayBeAsked place.host place.port (fragment_target place pattern a) = subst (MayBeAsked place.host place.port) (sym target') (may-ask place (target.Fragment a) l.place_is named) in
    let short : length (fragment_target place pattern a) ≤ 7000 = subst (λ t. length t ≤ 7000) (sym target') (short-fragment place a l.place_is named) in
    let names : target_of (fragment_target place pattern a) ≡ target.Fragment a = ap target_of target' ∙ target_again place.path (target.Fragment a) l.place_is.path l.place_is.bytes named in
    let own = whole-own log (fragment_target place pattern a) bytes body status at (from place.host place.port (fragment_target place pattern a) may refl) w in
    let says = says-fragment log a k.0 (fragment_target place pattern a) body status k.1 (is-well status (fragment_target place pattern a) no500 no503 short) (own.fragment a names) in
    let text : IsKeptText log a body = says.1 in
    let ahead = ahead_in log a.stream a.time in
    let time : text.fragment.time ≡ a.time = ap (λ (b : Address). b.time) (kept_address log a text.seq text.fragment text.placed) in (
      raw_again text.id text.fragment ahead,
      record { place = text.seq; id = text.id; fragment = text.fragment; placed = text.placed; id_is = text.id_is; is = refl },
      (
        at,
        body,
        subst (λ n. IsWholeReply bytes n at body) says.0 w,
        subst (λ t. IsFragmentAt a.time t (raw_again text.id text.fragment ahead)) (sym text.text_is) (text-read text.seq text.id a.time text.fragment ahead text.written time),
      ),
    )

one-fragment : (r q : RawFragment) → AreOne (got.Fragment r) (got.Fragment q) → r ≡ q
one-fragment r q (inl e) = cc
one-fragment r q (inr (inl e)) = absurd (cc)
one-fragment r q (inr (inr e)) = absurd (cc)

-- what is read as a fragment is what the log keeps there
pub fragment-read : (place : Place) (channel : List Track) (log : List Entry) (pattern : List ℕ) (a : Address) (raw : RawFragment) (answer : Answer) → IsMoment channel log → IsListedAt place channel log pattern a
    → FromOrigin log (fragment_request place pattern a) answer → SpellsFragment a.time answer (got.Fragment raw) → IsTheOrigins log a raw
fragment-read place channel log pattern a raw (answers.Bytes bytes) is l from (at, body, w, read) =
    let f = fragment-whole place channel log pattern a bytes body 200 at is l from w not500 not503 in
    let same : raw ≡ f.0 = one-fragment raw f.0 (one_fragment_got a.time (answers.Bytes bytes) (got.Fragment raw) (got.Fragment f.0) (at, body, w, read) f.2) in
    subst (IsTheOrigins log a) (sym same) f.1
fragment-read place channel log pattern a raw answers.Lost is l from s = absurd (cc)
fragment-read place channel log pattern a raw answers.NoMemory is l from s = absurd (cc)

-- a whole answer is no miss
pub fragment-given : (place : Place) (channel : List Track) (log : List Entry) (pattern : List ℕ) (a : Address) (g : Got) (answer : Answer) → IsMoment channel log → IsListedAt place channel log pattern a
    → FromOrigin log (fragment_request place pattern a) answer → IsUnrefused answer → SpellsFragment a.time answer g → IsWhole answer → miss_of g ≡ None
fragment-given place channel log pattern a g (answers.Bytes bytes) is l from free s (status, at, body, w) =
    let no = free status at body w in
    let f = fragment-whole place channel log pattern a bytes body status at is l from w no.0 no.1 in
    no-miss g (got.Fragment f.0) (one_fragment_got a.time (answers.Bytes bytes) g (got.Fragment f.0) s f.2) refl (λ e. cc)
fragment-given place channel log pattern a g answers.Lost is l from free s w = absurd w
fragment-given place channel log pattern a g answers.NoMemory is l from free s w = absurd w

-- ---- the stream in the manifest

pub listed-found : (channel : List Track) (times : List ℕ → List (ℕ × ℕ)) (name : List ℕ) → list_any (λ t. is_same t.name name) channel ≡ true
    → (s : StreamListing) × (listed name (listing_again channel times).streams ≡ Some s) × IsListedStream channel name s × (s.times ≡ times name)
listed-found channel times name some = listed-again channel times name [] channel refl some
