-- A manifest lists only what the channel declares, at the times that it was written with.
use Rattle.std.proofs.Common.{◌≡◌, ◌<◌, ◌≤◌, ◌^◌, ℕ, zero, suc, Bool, true, false, cond, List, [], ◌∷◌, ◌++◌, length, Option, Some, None, refl, sym, subst, append_assoc, All, arith}
use Rattle.std.specs.Prelude.{decimal, codes, is_some, slice_get}
use Rattle.std.specs.List.{AllByRecursion, list_any}
use Rattle.std.proofs.lemmas.List.Elements.{recursion_from_All}
use Rattle.hex.specs.Hex.{encode_upper}
use Rattle.sm_model.specs.declared.address.Address.{Address}
use Rattle.sm_model.specs.declared.track.Kind.{Kind}
use Rattle.sm_model.specs.declared.track.Kind.TheVariants as kind
use Rattle.sm_model.specs.declared.track.Params.{Params}
use Rattle.sm_model.specs.declared.track.Track.{Track}
use Rattle.sm_model.specs.Channels.{IsTrack, IsChannel, IsNarrowOption, AreNarrow, is_fourcc}
use Rattle.sm_model.specs.Same.{is_same}
use Rattle.sm_model.specs.Kinds.{kind_name}
use Rattle.sm_model.specs.Names.{is_name}
use Rattle.sm_log.specs.Adds.{is_declared, tracks_of}
use Rattle.sm_log.specs.Times.{entry_at, IsSpan}
use Rattle.sm_catalog.proofs.Counting.{passing_most}
use Rattle.sm_manout.specs.ManifestText.{attribute, number_attribute, option_attribute, text_attribute, number_attributes, escaped, url, stream_lines, streams_lines, manifest_head, manifest_foot, manifest}
use Rattle.sm_manout.specs.Shown.{Open, none_open, ended_by, lists_from, lists, after_line, line_starts, ListsIn, IsWritable}
use Rattle.sm_manout.proofs.ShownPieces.{has_no, ended_front, lists_front, decimal_none, both_none, name_none, fourcc_none, private_none, escaped_none, Good}
use Rattle.sm_manout.proofs.ShownRuns.{IsTime}
use Rattle.sm_manout.proofs.ShownLevels.{level_more}
use Rattle.sm_manout.proofs.ShownOpening.{opening_more, opening_front}
use Rattle.sm_manout.proofs.ShownLevelsRead.{IsLine}
use Rattle.sm_manout.proofs.ShownTimes.{starts_good, all_there}
use Rattle.sm_manout.proofs.ShownDeclared.{Declares, same_is, all_declared}
use Rattle.sm_manout.proofs.ShownStream.{stream_read}

-- ---- no line feed in a line

attribute_none : (name value : List ℕ) → has_no 10 name ≡ true → has_no 10 value ≡ true → has_no 10 (attribute name value) ≡ true
unfolding attribute
attribute_none name value n v =
    both_none 10 (codes " ") (name ++ (codes "=\"" ++ (value ++ codes "\""))) refl (both_none 10 name (codes "=\"" ++ (value ++ codes "\"")) n
    (both_none 10 (codes "=\"") (value ++ codes "\"") refl (both_none 10 value (codes "\"") v refl)))

number_none : (name : List ℕ) (n : ℕ) → has_no 10 name ≡ true → n < 2 ^ 64 → has_no 10 (number_attribute name n) ≡ true
number_none name n is lt = attribute_none name (decimal n) is (decimal_none 10 n refl lt)

option_none : (name : List ℕ) (o : Option ℕ) → has_no 10 name ≡ true → IsNarrowOption o → has_no 10 (option_attribute name o) ≡ true
option_none name None is narrow = refl
option_none name (Some n) is narrow = number_none name n is (omega (arith, narrow n refl))

text_none : (name value : List ℕ) → has_no 10 name ≡ true → has_no 10 value ≡ true → has_no 10 (text_attribute name value) ≡ true
text_none name [] is none = refl
text_none name (c ∷ cs) is none = attribute_none name (c ∷ cs) is none

numbers_none : (p : Params) → AreNarrow p → has_no 10 (number_attributes p) ≡ true
unfolding number_attributes
numbers_none p narrow =
    both_none 10 (option_attribute (codes "MaxWidth") p.width) _ (option_none (codes "MaxWidth") p.width refl narrow.width)
    (both_none 10 (option_attribute (codes "MaxHeight") p.height) _ (option_none (codes "MaxHeight") p.height refl narrow.height)
    (both_none 10 (option_attribute (codes "AudioTag") p.tag) _ (option_none (codes "AudioTag") p.tag refl narrow.tag)
    (both_none 10 (option_attribute (codes "Channels") p.channels) _ (option_none (codes "Channels") p.channels refl narrow.channels)
    (both_none 10 (option_attribute (codes "SamplingRate") p.rate) _ (option_none (codes "SamplingRate") p.rate refl narrow.rate)
    (both_none 10 (option_attribute (codes "BitsPerSample") p.bits) (option_attribute (codes "PacketSize") p.packet) (option_none (codes "BitsPerSample") p.bits refl narrow.bits)
    (option_none (codes "PacketSize") p.packet refl narrow.packet))))))

pub level_none : (t : Track) → is_fourcc t.fourcc ≡ true → AreNarrow t.numbers → has_no 10 (level_more t) ≡ true
level_none t fourcc narrow =
    both_none 10 (text_attribute (codes "FourCC") t.fourcc) _ (text_none (codes "FourCC") t.fourcc refl (fourcc_none t.fourcc fourcc))
    (both_none 10 (attribute (codes "CodecPrivateData") (encode_upper t.private)) _ (attribute_none (codes "CodecPrivateData") (encode_upper t.private) refl (private_none t.private))
    (both_none 10 (number_attributes t.numbers) (codes "/>") (numbers_none t.numbers narrow) refl))

url_none : (name : List ℕ) → has_no 10 (url name) ≡ true
unfolding url
url_none name =
    both_none 10 (codes "QualityLevels({bitrate})/Fragments(") (escaped name ++ codes "={start time})") refl (both_none 10 (escaped name) (codes "={start time})") (escaped_none name) refl)

kind_none : (k : Kind) → has_no 10 (kind_name k) ≡ true
kind_none kind.Video = refl
kind_none kind.Audio = refl
kind_none kind.Text = refl

pub more_none : (t : Track) (chunks levels : ℕ) → t.timescale < 2 ^ 32 → chunks < 2 ^ 64 → levels < 2 ^ 64 → has_no 10 (opening_more t chunks levels) ≡ true
more_none t chunks levels ticks low few =
    both_none 10 (number_attribute (codes "TimeScale") t.timescale) _ (number_none (codes "TimeScale") t.timescale refl (omega (arith, ticks)))
    (both_none 10 (number_attribute (codes "Chunks") chunks) _ (number_none (codes "Chunks") chunks refl low)
    (both_none 10 (number_attribute (codes "QualityLevels") levels) _ (number_none (codes "QualityLevels") levels refl few)
    (both_none 10 (attribute (codes "Url") (url t.name)) (codes ">") (attribute_none (codes "Url") (url t.name) refl (url_none t.name)) refl)))

pub opening_none : (t : Track) (more : List ℕ) → is_name t.name ≡ true → has_no 10 more ≡ true → has_no 10 (opening_front (kind_name t.kind) t.name more) ≡ true
opening_none t more is none =
    both_none 10 (kind_name t.kind) (34 ∷ codes " Name=\"" ++ (t.name ++ (34 ∷ more))) (kind_none t.kind) (both_none 10 t.name (34 ∷ more) (name_none 10 t.name refl is) none)

-- ---- what each track and each time brings

lines_are : (channel ts : List Track) → AllByRecursion IsTrack ts → AllByRecursion IsWritable ts → AllByRecursion (λ (t : Track). Declares channel t.name t.bitrate) ts → AllByRecursion (IsLine (Declares channel)) ts
lines_are channel [] tracks fits declared = tt
lines_are channel (t ∷ ts) tracks fits declared =
    ((fits.0.bitrate, level_none t tracks.0.fourcc fits.0.numbers, declared.0), lines_are channel ts tracks.1 fits.1 declared.1)

times_are : (Q : ℕ → Type 0) (ys : List (ℕ × ℕ)) → AllByRecursion (λ (y : ℕ × ℕ). Q y.0) ys → AllByRecursion IsSpan ys → AllByRecursion (IsTime Q) ys
times_are Q [] there spans = tt
times_are Q (y ∷ ys) there spans = ((there.0, omega (arith, spans.0.1), omega (arith, spans.0.1)), times_are Q ys there.1 spans.1)

-- ---- the whole text

-- what is listed is declared, and its time is one of its stream's
abbrev IsThat : List Track → (List ℕ → List (ℕ × ℕ)) → Address → Type 0
IsThat channel times a = (is_declared channel a ≡ true) × (is_some (entry_at a.time (times a.stream)) ≡ true)

-- what holds of the channel and its times
record IsSaid (channel : List Track) (times : List ℕ → List (ℕ × ℕ)) : Type 0 where
  few : length channel ≤ 64
  lines : AllByRecursion (IsLine (Declares channel)) channel
  spans : (name : List ℕ) → AllByRecursion IsSpan (times name)
  short : (name : List ℕ) → length (times name) < 2 ^ 64

one_read : (channel : List Track) (times : List ℕ → List (ℕ × ℕ)) (t : Track) (o : Open) (x : List ℕ) → IsSaid channel times → IsWritable t → ((o' : Open) → Good (IsThat channel times) o' x)
    → Good (IsThat channel times) o (stream_lines channel (times t.name) t ++ x)
one_read channel times t o x said fit go =
    let ys = times t.name in
    let Q : ℕ → Type 0 = λ start. is_some (entry_at start ys) ≡ true in
    let levels : length (tracks_of t.name channel) < 2 ^ 64 = omega (arith, passing_most (λ (u : Track). is_same u.name t.name) channel, said.few) in
    stream_read (IsThat channel times) (Declares channel) Q channel ys t o x fit.name
    (opening_none t (opening_more t (length ys) (length (tracks_of t.name channel))) fit.name (more_none t (length ys) (length (tracks_of t.name channel)) fit.timescale (said.short t.name) levels))
    (λ u e r. subst (λ (n : List ℕ). Declares channel n u.bitrate) (same_is u.name t.name e) r) (omega (arith, said.few)) said.lines
    (λ rates ss r q. starts_good (IsThat channel times) (Declares channel t.name) Q (record { stream = t.name; bitrates = rates }) (λ b start d there. (d, there)) r ss q)
    (said.short t.name) (times_are Q ys (all_there ys) (said.spans t.name)) go

all_read : (channel : List Track) (times : List ℕ → List (ℕ × ℕ)) (earlier ts : List Track) (o : Open) (x : List ℕ) → IsSaid channel times → AllByRecursion IsWritable ts → ((o' : Open) → Good (IsThat channel times) o' x)
    → Good (IsThat channel times) o (streams_lines channel times earlier ts ++ x)
all_read channel times earlier [] o x said fits go = go o
all_read channel times earlier (t ∷ ts) o x said fits go =
    by_test (list_any (λ (u : Track). is_same u.name t.name) earlier) (λ o'. all_read channel times (earlier ++ t ∷ []) ts o' x said fits.1 go)
  where
    by_test : (b : Bool) → ((o' : Open) → Good (IsThat channel times) o' (streams_lines channel times (earlier ++ t ∷ []) ts ++ x))
        → Good (IsThat channel times) o ((cond b [] (stream_lines channel (times t.name) t) ++ streams_lines channel times (earlier ++ t ∷ []) ts) ++ x)
    by_test true rest = rest o
    by_test false rest =
        let T : List ℕ → Type 0 = λ l. Good (IsThat channel times) o l in
        let more = streams_lines channel times (earlier ++ t ∷ []) ts in
        subst T (sym (append_assoc (stream_lines channel (times t.name) t) more x)) (one_read channel times t o (more ++ x) said fits.0 rest)

head_read : (P : Address → Type 0) (x : List ℕ) → Good P none_open x → Good P none_open (manifest_head ++ x)
unfolding after_line line_starts
head_read P x go = go

foot_read : (P : Address → Type 0) (o : Open) → Good P o manifest_foot
unfolding after_line line_starts
foot_read P o = tt

whole_read : (channel : List Track) (times : List ℕ → List (ℕ × ℕ)) → IsSaid channel times → AllByRecursion IsWritable channel → Good (IsThat channel times) none_open (manifest channel times)
unfolding manifest
whole_read channel times said fits =
    head_read (IsThat channel times) (streams_lines channel times [] channel ++ manifest_foot) (all_read channel times [] channel none_open manifest_foot said fits (foot_read (IsThat channel times)))

-- ---- a part

all_at : {X : Type 0} (P : X → Type 0) (xs : List X) (i : ℕ) (x : X) → AllByRecursion P xs → slice_get xs i ≡ Some x → P x
all_at P [] i x all e = absurd (cc)
all_at P (y ∷ ys) zero x all e = let same : y ≡ x = cc in subst P same all.0
all_at P (y ∷ ys) (suc i) x all e = all_at P ys i x all.1 e

part_read : (P : Address → Type 0) (part more text : List ℕ) → part ++ more ≡ text → Good P none_open text → AllByRecursion P (lists part)
part_read P part more text is good =
    let T : List ℕ → Type 0 = λ l. Good P none_open l in
    let L : List (List ℕ) → Type 0 = λ ls. AllByRecursion P (lists_from none_open ls) in
    let front = ended_front 10 [] part more in
    lists_front P none_open (ended_by 10 [] part) front.0 (subst L front.1 (subst T (sym is) good))

pub listed_is_listed : (channel : List Track) (times : List ℕ → List (ℕ × ℕ)) (part more : List ℕ) (a : Address) → IsChannel channel → All IsWritable channel
    → ((name : List ℕ) → All IsSpan (times name)) → ((name : List ℕ) → length (times name) < 2 ^ 64)
    → part ++ more ≡ manifest channel times → ListsIn part a → (is_declared channel a ≡ true) × (is_some (entry_at a.time (times a.stream)) ≡ true)
listed_is_listed channel times part more a valid fits spans short text shown =
    let each = recursion_from_All IsWritable channel fits in
    let said : IsSaid channel times = record {
      few = valid.few;
      lines = lines_are channel channel (recursion_from_All IsTrack channel valid.each) each (all_declared channel);
      spans = λ name. recursion_from_All IsSpan (times name) (spans name);
      short = short;
    } in
    all_at (IsThat channel times) (lists part) shown.0 a (part_read (IsThat channel times) part more (manifest channel times) text (whole_read channel times said each)) shown.1
