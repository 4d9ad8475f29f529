-- The manifest of a channel is read as its streams.
use Rattle.std.proofs.Common.{◌≡◌, ◌<◌, ◌≤◌, ◌-◌, ℕ, Bool, true, false, ◌||◌, cond, List, [], ◌∷◌, ◌++◌, length, map, filter, Option, Some, None, Ok, refl, sym, ap, subst, ◌∙◌, append_assoc, All, arith}
use Rattle.std.specs.Prelude.{codes}
use Rattle.std.specs.List.{AllByRecursion, list_any}
use Rattle.std.proofs.lemmas.List.{append-nil, length-append, map-append}
use Rattle.std.proofs.lemmas.List.Elements.{recursion_from_All}
use Rattle.std.proofs.lemmas.Slice.Eq.{bytes_eq-Decides}
use Rattle.sm_model.specs.declared.tag.Tag.TheVariants.{Start, End}
use Rattle.sm_tag.specs.declared.grammar.Markup.{Markup}
use Rattle.sm_tag.specs.declared.grammar.Markup.TheVariants as markup
use Rattle.sm_tag.specs.declared.grammar.Lead.{Lead}
use Rattle.sm_tag.specs.declared.grammar.Lead.TheVariants as lead
use Rattle.sm_model.specs.declared.track.Track.{Track}
use Rattle.sm_model.specs.Channels.{IsTrack, IsChannel, IsNarrowTrack}
use Rattle.sm_model.specs.Digits.{number_of, is_number}
use Rattle.sm_model.specs.Same.{is_same}
use Rattle.sm_model.specs.Places.{least_from}
use Rattle.sm_tag.specs.Elements.{bad_of}
use Rattle.sm_tag.specs.TagParts.{name_at}
use Rattle.sm_tag.specs.TagMarkup.{Markups, lead_at, finish_at, instruction_at, past_word}
use Rattle.sm_tag.specs.Tags.{Left, Founds, bare, marked, skipped, Next, ends, begin, without_zeros, without_mark}
use Rattle.sm_tag.specs.TagText.{left_at}
use Rattle.sm_log.specs.Adds.{tracks_of}
use Rattle.sm_log.specs.Times.{AreTimes}
use Rattle.sm_log.proofs.Choice.{chosen}
use Rattle.sm_tag.proofs.WrittenTags.{Starts-again}
use Rattle.sm_tag.proofs.WrittenNext.{next_finish}
use Rattle.sm_tag.proofs.Zeros.{without_zeros_nonzero}
use Rattle.sm_catalog.proofs.Adding.{differ_in_bitrate}
use Rattle.sm_catalog.proofs.Counting.{passing_most}
use Rattle.sm_manin.specs.declared.listing.StreamListing.{StreamListing}
use Rattle.sm_manin.specs.declared.listing.Listing.{Listing}
use Rattle.sm_manin.specs.declared.raw.RawStream.{RawStream}
use Rattle.sm_manin.specs.ManifestWalk.{Walk, none_met, root_of}
use Rattle.sm_manin.specs.ManifestFaults.{name_of, is_root_at_fault, stream_faults, streams_faults, faults_of}
use Rattle.sm_manin.specs.Listings.{listing_of, look_of, read_of}
use Rattle.sm_manin.specs.ManifestRead.{judged, IsManifest}
use Rattle.sm_manin.proofs.NoFaults.{left_none, right_none}
use Rattle.sm_manout.specs.ManifestText.{stream_lines, streams_lines, manifest_head, manifest_foot, manifest}
use Rattle.sm_manout.specs.ReadAgain.{streams_again, listing_again}
use Rattle.sm_manout.proofs.ReadLines.{Leads, Begins, on_start, on_finish, feed_read}
use Rattle.sm_manout.proofs.ReadLevels.{root_attributes, in_root, walk_out, IsFit}
use Rattle.sm_manout.proofs.ReadStreams.{IsStream, IsRead, stream_begins, stream_read, stream_clean, stream_says, stream_named}

-- ---- one stream more

clean_push : (earlier ss : List RawStream) (s : RawStream) → streams_faults earlier ss ≡ [] → stream_faults false (earlier ++ ss) s ≡ [] → streams_faults earlier (ss ++ s ∷ []) ≡ []
clean_push earlier [] s none clean =
    let here : stream_faults false earlier s ≡ [] = subst (λ (rs : List RawStream). stream_faults false rs s ≡ []) (append-nil earlier) clean in
    ap (λ (xs : List ℕ). xs ++ []) here
clean_push earlier (r ∷ ss) s none clean =
    let first = left_none (stream_faults false earlier r) (streams_faults (earlier ++ r ∷ []) ss) none in
    let rest = clean_push (earlier ++ r ∷ []) ss s (right_none (stream_faults false earlier r) (streams_faults (earlier ++ r ∷ []) ss) none)
    (subst (λ (rs : List RawStream). stream_faults false rs s ≡ []) (sym (append_assoc earlier (r ∷ []) ss)) clean) in
    ap (λ (xs : List ℕ). xs ++ streams_faults (earlier ++ r ∷ []) (ss ++ s ∷ [])) first ∙ rest

-- the streams that were read are named as tracks before
abbrev NamesIn : List RawStream → List Track → Type 0
NamesIn done earlier = (n : List ℕ) → list_any (λ (u : Track). is_same u.name n) earlier ≡ false → list_any (λ (e : RawStream). is_same (name_of e) n) done ≡ false

any_last : {X : Type 0} (p : X → Bool) (xs : List X) (x : X) → list_any p (xs ++ x ∷ []) ≡ false → (list_any p xs ≡ false) × (p x ≡ false)
any_last p [] x e = (refl, by_or (p x) e)
  where
    by_or : (b : Bool) → (b || false) ≡ false → b ≡ false
    by_or true e = absurd cc
    by_or false e = refl
any_last p (y ∷ ys) x e = by_or (p y) e (λ k. any_last p ys x k)
  where
    by_or : (b : Bool) → (b || list_any p (ys ++ x ∷ [])) ≡ false → (list_any p (ys ++ x ∷ []) ≡ false → (list_any p ys ≡ false) × (p x ≡ false)) → ((b || list_any p ys) ≡ false) × (p x ≡ false)
    by_or true e rest = absurd cc
    by_or false e rest = rest e

any_push : {X : Type 0} (p : X → Bool) (xs : List X) (x : X) → list_any p xs ≡ false → p x ≡ false → list_any p (xs ++ x ∷ []) ≡ false
any_push p [] x none off = rw off refl
any_push p (y ∷ ys) x none off = by_or (p y) none (λ k. any_push p ys x k off)
  where
    by_or : (b : Bool) → (b || list_any p ys) ≡ false → (list_any p ys ≡ false → list_any p (ys ++ x ∷ []) ≡ false) → (b || list_any p (ys ++ x ∷ [])) ≡ false
    by_or true e rest = absurd cc
    by_or false e rest = rest e

names_later : (done : List RawStream) (earlier : List Track) (t : Track) → NamesIn done earlier → NamesIn done (earlier ++ t ∷ [])
names_later done earlier t names n none = names n (any_last (λ (u : Track). is_same u.name n) earlier t none).0

names_push : (done : List RawStream) (earlier : List Track) (t : Track) (s : RawStream) → NamesIn done earlier → name_of s ≡ t.name → NamesIn (done ++ s ∷ []) (earlier ++ t ∷ [])
names_push done earlier t s names named n none =
    let parts = any_last (λ (u : Track). is_same u.name n) earlier t none in
    let off : is_same (name_of s) n ≡ false = ap (λ (m : List ℕ). is_same m n) named ∙ parts.1 in
    any_push (λ (e : RawStream). is_same (name_of e) n) done s (names n parts.0) off

-- ---- the end of the text

abbrev walk_end : ℕ → List RawStream → Walk
walk_end at done = record { path = []; root = Some (root_of root_attributes at); other = None; protection = None; done = done; current = None }

lead_end : lead_at false (10 ∷ []) ≡ (lead.Ended, 0, [])
unfolding lead_at
lead_end = refl

text_end : (Good : Walk → Type 0) (size end : ℕ) (w : Walk) → Good w → Leads Good (left_at size end (10 ∷ []) []) w
text_end Good size end w good =
    (End ∷ [], ends _ ((lead.Ended, markup.Skipped, 0, []), bare lead_end (λ e. cc e), refl) refl, refl, good)

foot_end : finish_at (codes "SmoothStreamingMedia>\n") ≡ Ok (markup.Finish (codes "SmoothStreamingMedia"), 10 ∷ [])
unfolding finish_at name_at
foot_end = refl

foot_read : (Good : Walk → Type 0) (size end at : ℕ) (done : List RawStream) → Good (walk_end at done) → Leads Good (left_at size end manifest_foot in_root) (walk_out at done)
foot_read Good size end at done good =
    on_finish Good _ _ (codes "SmoothStreamingMedia") (end - length manifest_foot) (walk_out at done)
    (next_finish size end (codes "/SmoothStreamingMedia>\n") (10 ∷ []) in_root (codes "SmoothStreamingMedia") (refl, refl) refl (sym foot_end)) (text_end Good size end (walk_end at done) good)

-- ---- the streams

-- what holds of the channel and of its times, so that each stream is read
pub record IsReadable (channel : List Track) (times : List ℕ → List (ℕ × ℕ)) : Type 0 where
  pub channel_is : IsChannel channel
  pub fits : AllByRecursion IsFit channel
  pub apart : (name : List ℕ) → AreTimes (times name)
  pub short : (name : List ℕ) → length (times name) ≤ 262144

all_filter : {X : Type 0} (P : X → Type 0) (p : X → Bool) (xs : List X) → AllByRecursion P xs → AllByRecursion P (filter p xs)
all_filter P p [] all = tt
all_filter P p (x ∷ xs) all =
    chosen (p x) (λ l. AllByRecursion P l) (x ∷ filter p xs) (filter p xs) (λ _. (all.0, all_filter P p xs all.1)) (λ _. all_filter P p xs all.1)

some_named : (earlier ts : List Track) (t : Track) → 0 < length (tracks_of t.name (earlier ++ t ∷ ts))
some_named [] ts t = let same : is_same t.name t.name ≡ true = (bytes_eq-Decides t.name t.name).1 refl in rw same (omega arith)
some_named (u ∷ us) ts t =
    chosen (is_same u.name t.name) (λ (l : List Track). 0 < length l) (u ∷ tracks_of t.name (us ++ t ∷ ts)) (tracks_of t.name (us ++ t ∷ ts)) (λ _. omega arith) (λ _. some_named us ts t)

is_stream : (channel : List Track) (times : List ℕ → List (ℕ × ℕ)) (earlier ts : List Track) (t : Track) → IsReadable channel times → earlier ++ t ∷ ts ≡ channel → IsFit t → IsStream channel (times t.name) t
is_stream channel times earlier ts t is whole fit = record {
  fit = fit;
  some = subst (λ (us : List Track). 0 < length (tracks_of t.name us)) whole (some_named earlier ts t);
  few = omega (arith, passing_most (λ (u : Track). is_same u.name t.name) channel, is.channel_is.few);
  fits = all_filter IsFit (λ (u : Track). is_same u.name t.name) channel is.fits;
  differ = differ_in_bitrate t.name channel is.channel_is.agree;
  apart = is.apart t.name;
  short = is.short t.name;
}

-- the streams so far, with those of the tracks that are left, are all of them
record Stands (channel : List Track) (times : List ℕ → List (ℕ × ℕ)) (earlier rest : List Track) (done : List RawStream) : Type 0 where
  names : NamesIn done earlier
  few : length done ≤ length earlier
  clean : streams_faults [] done ≡ []
  says : map (listing_of 10000000) done ++ streams_again channel times earlier rest ≡ streams_again channel times [] channel

streams_begin : (channel : List Track) (times : List ℕ → List (ℕ × ℕ)) (earlier rest : List Track) → Begins (streams_lines channel times earlier rest ++ manifest_foot)
streams_begin channel times earlier [] = (_, refl)
streams_begin channel times earlier (t ∷ ts) = by_test (list_any (λ (u : Track). is_same u.name t.name) earlier) (streams_begin channel times (earlier ++ t ∷ []) ts)
  where
    by_test : (b : Bool) → Begins (streams_lines channel times (earlier ++ t ∷ []) ts ++ manifest_foot)
        → Begins ((cond b [] (stream_lines channel (times t.name) t) ++ streams_lines channel times (earlier ++ t ∷ []) ts) ++ manifest_foot)
    by_test true rest = rest
    by_test false rest =
        rw (append_assoc (stream_lines channel (times t.name) t) (streams_lines channel times (earlier ++ t ∷ []) ts) manifest_foot)
        (stream_begins channel (times t.name) t (streams_lines channel times (earlier ++ t ∷ []) ts ++ manifest_foot))

stands_still : (channel : List Track) (times : List ℕ → List (ℕ × ℕ)) (earlier ts : List Track) (t : Track) (done : List RawStream) → Stands channel times earlier (t ∷ ts) done
    → list_any (λ (u : Track). is_same u.name t.name) earlier ≡ true → Stands channel times (earlier ++ t ∷ []) ts done
stands_still channel times earlier ts t done stands there = record {
  names = names_later done earlier t stands.names;
  few = omega (arith, stands.few, length-append earlier (t ∷ []));
  clean = stands.clean;
  says = rw there at stands.says;
}

stands_more : (channel : List Track) (times : List ℕ → List (ℕ × ℕ)) (earlier ts : List Track) (t : Track) (done : List RawStream) (s : RawStream)
    → Stands channel times earlier (t ∷ ts) done → IsStream channel (times t.name) t
    → IsRead channel (times t.name) t s → length earlier < 64 → list_any (λ (u : Track). is_same u.name t.name) earlier ≡ false → Stands channel times (earlier ++ t ∷ []) ts (done ++ s ∷ [])
stands_more channel times earlier ts t done s stands is read low new =
    let clean = stream_clean done channel (times t.name) t s is read (omega (arith, stands.few, low)) (stands.names t.name new) in
    let says = stream_says channel (times t.name) t s is read in
    record {
      names = names_push done earlier t s stands.names (stream_named channel (times t.name) t s read);
      few = omega (arith, stands.few, length-append earlier (t ∷ []), length-append done (s ∷ []));
      clean = clean_push [] done s stands.clean clean;
      says =
          ap (λ (l : List StreamListing). l ++ streams_again channel times (earlier ++ t ∷ []) ts) (map-append (listing_of 10000000) done (s ∷ []))
          ∙ append_assoc (map (listing_of 10000000) done) (listing_of 10000000 s ∷ []) (streams_again channel times (earlier ++ t ∷ []) ts)
          ∙ ap (λ (y : StreamListing). map (listing_of 10000000) done ++ (y ∷ streams_again channel times (earlier ++ t ∷ []) ts)) says
          ∙ (rw new at stands.says);
    }

streams_read : (Good : Walk → Type 0) (size end at : ℕ) (channel : List Track) (times : List ℕ → List (ℕ × ℕ)) (earlier rest : List Track) (done : List RawStream) → IsReadable channel times → earlier ++ rest ≡ channel
    → AllByRecursion IsFit rest → Stands channel times earlier rest done
    → ((all : List RawStream) → Stands channel times channel [] all → Good (walk_end at all)) → Leads Good (left_at size end (streams_lines channel times earlier rest ++ manifest_foot) in_root) (walk_out at done)
streams_read Good size end at channel times earlier [] done is whole fit stands go =
    let all : earlier ≡ channel = sym (append-nil earlier) ∙ whole in
    foot_read Good size end at done (go done (subst (λ (ts : List Track). Stands channel times ts [] done) all stands))
streams_read Good size end at channel times earlier (t ∷ ts) done is whole fit stands go =
    let longer : (earlier ++ t ∷ []) ++ ts ≡ channel = append_assoc earlier (t ∷ []) ts ∙ whole in
    by_test (list_any (λ (u : Track). is_same u.name t.name) earlier) refl (λ more stand. streams_read Good size end at channel times (earlier ++ t ∷ []) ts more is longer fit.1 stand go)
  where
    low : length earlier < 64
    low = omega (arith, is.channel_is.few, ap length whole, length-append earlier (t ∷ ts))

    by_test : (b : Bool) → list_any (λ (u : Track). is_same u.name t.name) earlier ≡ b
        → ((more : List RawStream) → Stands channel times (earlier ++ t ∷ []) ts more → Leads Good (left_at size end (streams_lines channel times (earlier ++ t ∷ []) ts ++ manifest_foot) in_root) (walk_out at more))
        → Leads Good (left_at size end ((cond b [] (stream_lines channel (times t.name) t) ++ streams_lines channel times (earlier ++ t ∷ []) ts) ++ manifest_foot) in_root) (walk_out at done)
    by_test true there rest = rest done (stands_still channel times earlier ts t done stands there)
    by_test false new rest =
        let P : List ℕ → Type 0 = λ l. Leads Good (left_at size end l in_root) (walk_out at done) in
        let stream = is_stream channel times earlier ts t is whole fit.0 in
        subst P (sym (append_assoc (stream_lines channel (times t.name) t) (streams_lines channel times (earlier ++ t ∷ []) ts) manifest_foot))
        (stream_read Good size end (streams_lines channel times (earlier ++ t ∷ []) ts ++ manifest_foot) at done channel (times t.name) t (streams_begin channel times (earlier ++ t ∷ []) ts) stream
        (λ s read. rest (done ++ s ∷ []) (stands_more channel times earlier ts t done s stands stream read low new)))

-- ---- the head

abbrev behind_first : List ℕ → List ℕ
behind_first x =
    codes "<SmoothStreamingMedia MajorVersion=\"2\" MinorVersion=\"2\" TimeScale=\"10000000\" Duration=\"0\" IsLive=\"TRUE\" LookAheadFragmentCount=\"2\" DVRWindowLength=\"0\">\n" ++ x

first_line : (x : List ℕ) → instruction_at (codes "xml version=\"1.0\" encoding=\"utf-8\"?>\n" ++ behind_first x) ≡ Ok (markup.Skipped, 10 ∷ behind_first x)
unfolding instruction_at past_word
first_line x = refl

lead_first : (cs : List ℕ) → lead_at false (60 ∷ cs) ≡ (lead.Tag, length (60 ∷ cs), cs)
unfolding lead_at
lead_first cs = refl

lead_second : (cs : List ℕ) → lead_at false (10 ∷ 60 ∷ cs) ≡ (lead.Tag, length (60 ∷ cs), cs)
unfolding lead_at
lead_second cs = refl

abbrev second_text : List ℕ → List ℕ
second_text x =
    codes "SmoothStreamingMedia MajorVersion=\"2\" MinorVersion=\"2\" TimeScale=\"10000000\" Duration=\"0\" IsLive=\"TRUE\" LookAheadFragmentCount=\"2\" DVRWindowLength=\"0\">\n" ++ x

second_line : (x : List ℕ) → Markups (second_text x) (Ok (markup.Start (codes "SmoothStreamingMedia") root_attributes false, 10 ∷ x))
second_line x =
    Starts-again (codes "SmoothStreamingMedia") root_attributes false (10 ∷ x) (refl, refl)
    ((refl, refl), refl, refl, ((refl, refl), refl, refl, ((refl, refl), refl, refl, ((refl, refl), refl, refl, ((refl, refl), refl, refl, ((refl, refl), refl, refl, ((refl, refl), refl, refl, tt)))))))

-- before the first line
abbrev first_left : ℕ → ℕ → List ℕ → Left
first_left size end text = record { size = size; end = end; rest = text; open_names = []; begun = false; bad = None }

head_next : (size end : ℕ) (x : List ℕ) → Next (first_left size end (manifest_head ++ x)) (Start (codes "SmoothStreamingMedia") root_attributes false (end - length (behind_first x))) (left_at size end (10 ∷ x) in_root)
head_next size end x =
    let f : Lead × Markup × ℕ × List ℕ = (lead.Tag, markup.Start (codes "SmoothStreamingMedia") root_attributes false, length (behind_first x), 10 ∷ x) in
    let second : Founds false (10 ∷ behind_first x) f = marked (lead_second (second_text x)) (second_line x) (λ e. cc e) in
    (f, skipped (lead_first _) (sym (first_line x)) second, refl)

head_read : (Good : Walk → Type 0) (size end : ℕ) (x : List ℕ) → Begins x → ((at : ℕ) → Leads Good (left_at size end x in_root) (walk_out at [])) → Leads Good (first_left size end (manifest_head ++ x)) none_met
head_read Good size end x begins go =
    on_start Good _ _ (codes "SmoothStreamingMedia") root_attributes false (end - length (behind_first x)) none_met (head_next size end x)
    (feed_read Good size end x in_root (walk_out (end - length (behind_first x)) []) begins (refl, refl) (go (end - length (behind_first x))))

-- ---- the whole text

ends_feed : (h m f : List ℕ) → h ++ (m ++ (f ++ 10 ∷ [])) ≡ (h ++ (m ++ f)) ++ 10 ∷ []
ends_feed h m f = simp append_assoc

no_zeros : (text front : List ℕ) → text ≡ front ++ 10 ∷ [] → without_zeros text ≡ text
no_zeros text front is = rw is (without_zeros_nonzero front 10 (λ e. omega arith))

begins_first : (text y : List ℕ) → without_zeros text ≡ text → text ≡ 60 ∷ y → begin text ≡ first_left (length text) (length text) text
begins_first text y same is =
    let mark : without_mark text ≡ text = rw is refl in
    rw (same, mark) refl

root_clean : (at : ℕ) → is_root_at_fault (root_of root_attributes at) ≡ false
unfolding is_root_at_fault number_of is_number
root_clean at = refl

root_looks : (at : ℕ) → look_of (Some (root_of root_attributes at)) ≡ 2
unfolding number_of is_number
root_looks at = refl

-- what is walked over has no fault, and is the listing
record IsGood (listing : Listing) (w : Walk) : Type 0 where
  none : least_from None (faults_of None w) ≡ None
  says : read_of w ≡ listing

good : (channel : List Track) (times : List ℕ → List (ℕ × ℕ)) (at : ℕ) (done : List RawStream) → Stands channel times channel [] done → IsGood (listing_again channel times) (walk_end at done)
unfolding number_of is_number
good channel times at done stands =
    let root = root_clean at in
    let streams = stands.clean in
    let listed : map (listing_of 10000000) done ≡ streams_again channel times [] channel = sym (append-nil (map (listing_of 10000000) done)) ∙ stands.says in
    record {
      none = rw (root, streams) refl;
      says = ap (λ (l : List StreamListing). record { look = 2; streams = l }) listed;
    }

leads_all : (channel : List Track) (times : List ℕ → List (ℕ × ℕ)) → IsReadable channel times → Leads (IsGood (listing_again channel times)) (begin (manifest channel times)) none_met
unfolding manifest
leads_all channel times is =
    let Good = IsGood (listing_again channel times) in
    let x = streams_lines channel times [] channel ++ manifest_foot in
    let text = manifest_head ++ x in
    let clean : without_zeros text ≡ text = no_zeros text (manifest_head ++ (streams_lines channel times [] channel ++ codes "</SmoothStreamingMedia>"))
    (ends_feed manifest_head (streams_lines channel times [] channel) (codes "</SmoothStreamingMedia>")) in
    let P : Left → Type 0 = λ s. Leads Good s none_met in
    subst P (sym (begins_first text _ clean refl))
    (head_read Good (length text) (length text) x (streams_begin channel times [] channel) (λ at.
    streams_read Good (length text) (length text) at channel times [] channel [] is refl is.fits (record { names = λ n none. refl; few = omega arith; clean = refl; says = refl }) (λ all stands. good channel times at all stands)))

all_fit : (ts : List Track) → AllByRecursion IsTrack ts → AllByRecursion IsNarrowTrack ts → AllByRecursion IsFit ts
all_fit [] are narrow = tt
all_fit (t ∷ ts) are narrow = (record { track = are.0; narrow = narrow.0 }, all_fit ts are.1 narrow.1)

judged_good : (listing : Listing) (w : Walk) (bad : Option ℕ) → bad ≡ None → IsGood listing w → Ok listing ≡ judged (least_from None (faults_of bad w)) w
judged_good listing w bad is g =
    let none : least_from None (faults_of bad w) ≡ None = ap (λ (b : Option ℕ). least_from None (faults_of b w)) is ∙ g.none in
    sym (ap (λ (o : Option ℕ). judged o w) none ∙ ap Ok g.says)

pub written_is_read : (channel : List Track) (times : List ℕ → List (ℕ × ℕ)) → IsChannel channel → All IsNarrowTrack channel
    → ((name : List ℕ) → AreTimes (times name)) → ((name : List ℕ) → length (times name) ≤ 262144)
    → IsManifest (manifest channel times) (Ok (listing_again channel times))
written_is_read channel times is narrow apart short =
    let readable : IsReadable channel times = record {
      channel_is = is;
      fits = all_fit channel (recursion_from_All IsTrack channel is.each) (recursion_from_All IsNarrowTrack channel narrow);
      apart = apart;
      short = short;
    } in
    let led = leads_all channel times readable in
    (led.0, led.1, judged_good (listing_again channel times) _ (bad_of led.0) led.2 led.3)
