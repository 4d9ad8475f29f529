-- A written track is read as it is, param by param.
use Rattle.std.proofs.Common.{◌≡◌, ◌⊎◌, inl, inr, ◌<◌, ◌≤◌, ◌+◌, ◌^◌, ℕ, Bool, true, false, cond, eqb, leb, ltb, List, [], ◌∷◌, ◌++◌, length, Option, Some, None, option_map, refl, ap, sym, ◌∙◌, subst, append_assoc, arith}
use Rattle.std.specs.Prelude.{codes, decimal}
use Rattle.std.specs.List.{list_all}
use Rattle.std.proofs.lemmas.Bool.{cases_eq, cases_lt, eq-eqb, ne_eqb, lt-ltb, le-ltb, lt-leb}
use Rattle.hex.specs.Hex.{encode_upper}
use Rattle.sm_model.specs.declared.tag.Tag.TheVariants.{Start}
use Rattle.sm_model.specs.declared.track.Kind.{Kind}
use Rattle.sm_model.specs.declared.track.Kind.TheVariants as kind
use Rattle.sm_model.specs.declared.track.Params.{Params}
use Rattle.sm_model.specs.declared.track.Track.{Track}
use Rattle.sm_smil.specs.declared.raw_track.Form.{Form}
use Rattle.sm_smil.specs.declared.raw_track.Form.TheVariants.{Pushed, Ladder}
use Rattle.sm_smil.specs.declared.raw_track.ParamName.{ParamName}
use Rattle.sm_smil.specs.declared.raw_track.ParamName.TheVariants.{SystemBitrate, TrackId, TrackName, TimeScale, FourCc, CodecPrivateData, MaxWidth, MaxHeight, AudioTag, Channels, SamplingRate, BitsPerSample, PacketSize}
use Rattle.sm_smil.specs.declared.raw_track.SmilParam.{SmilParam}
use Rattle.sm_smil.specs.declared.raw_track.RawTrack.{RawTrack}
use Rattle.sm_model.specs.Channels.{IsNarrowTrack, IsNarrowOption}
use Rattle.sm_smil.specs.LiveTracks.{index_of, value_of, is_fit}
use Rattle.sm_smil.specs.LiveWalk.{Walk, step, with_param, is_read, param_name, text_param, number_param, video_param, audio_param, kind_in}
use Rattle.sm_smil.specs.LiveFaults.{misfits}
use Rattle.sm_smil.specs.LiveText.{param_line, number_line, option_line, number_lines, opening_line, closing_line, track_lines, element_name}
use Rattle.sm_smil.proofs.Fit.{same_name}
use Rattle.sm_tag.specs.TagText.{is_plain, left_at}
use Rattle.sm_smil.proofs.WrittenLines.{Leads, Begins, in_switch, in_track, param_attributes, param_read, param_begins, track_attributes, opening_read, opening_begins, closing_read, closing_begins}
use Rattle.sm_smil.proofs.WrittenValues.{expected, IsWritable, decimal_plain, decimal_number, name_plain, fourcc_plain, private_plain, private_again, timescale_fits}

-- one param more
abbrev value_or : Option (List ℕ) → Option (List ℕ) → Option (List ℕ)
value_or (Some v) o = Some v
value_or None o = o

value_or_none : (o : Option (List ℕ)) → value_or o None ≡ o
value_or_none (Some v) = refl
value_or_none None = refl

value_of_push : (name : ParamName) (ps : List SmilParam) (p : SmilParam) → value_of name (ps ++ p ∷ []) ≡ value_or (value_of name ps) (cond (eqb (index_of p.name) (index_of name)) (Some p.value) None)
value_of_push name [] p = refl
value_of_push name (q ∷ ps) p = tested (eqb (index_of q.name) (index_of name)) (value_of_push name ps p)
  where
    tested : (b : Bool) → value_of name (ps ++ p ∷ []) ≡ value_or (value_of name ps) (cond (eqb (index_of p.name) (index_of name)) (Some p.value) None)
        → cond b (Some q.value) (value_of name (ps ++ p ∷ [])) ≡ value_or (cond b (Some q.value) (value_of name ps)) (cond (eqb (index_of p.name) (index_of name)) (Some p.value) None)
    tested true rest = refl
    tested false rest = rest

misfits_push : (ps : List SmilParam) (p : SmilParam) → misfits ps ≡ [] → is_fit p.name p.value ≡ true → misfits (ps ++ p ∷ []) ≡ []
misfits_push [] p none fit = rw fit refl
misfits_push (q ∷ ps) p none fit = tested (is_fit q.name q.value) none (λ rest. misfits_push ps p rest fit)
  where
    tested : (b : Bool) → cond b (misfits ps) (q.at ∷ misfits ps) ≡ [] → (misfits ps ≡ [] → misfits (ps ++ p ∷ []) ≡ []) → cond b (misfits (ps ++ p ∷ [])) (q.at ∷ misfits (ps ++ p ∷ [])) ≡ []
    tested true e rest = rest e
    tested false e rest = cc

with_param_first : (t : RawTrack) (p : SmilParam) → value_of p.name t.params ≡ None → with_param t p ≡ record t { params = t.params ++ p ∷ [] }
with_param_first t p e = rw e refl

-- the params of the track were read whose names stand before the k-th, and no others
pub record Stage (form : Form) (id : ℕ) (t : Track) (k : ℕ) (raw : RawTrack) : Type 0 where
  pub kind : raw.kind ≡ t.kind
  pub bitrate : raw.bitrate ≡ Some (decimal t.bitrate)
  pub again : raw.again ≡ None
  pub fit : misfits raw.params ≡ []
  pub said : (name : ParamName) → value_of name raw.params ≡ cond (ltb (index_of name) k) (expected form id t name) None

absent : (form : Form) (id : ℕ) (t : Track) (raw : RawTrack) (name : ParamName) → Stage form id t (index_of name) raw → value_of name raw.params ≡ None
absent form id t raw name stage =
    let out : ltb (index_of name) (index_of name) ≡ false = le-ltb (index_of name) (index_of name) (omega arith) in
    rw out at (stage.said name)

-- names before the k-th, it, and those behind it
below : (form : Form) (id : ℕ) (t : Track) (raw : RawTrack) (name n : ParamName) → Stage form id t (index_of name) raw → index_of n < index_of name → value_of n raw.params ≡ expected form id t n
below form id t raw name n stage lt =
    let before : ltb (index_of n) (index_of name) ≡ true = lt-ltb (index_of n) (index_of name) lt in
    rw before at (stage.said n)

from_there : (form : Form) (id : ℕ) (t : Track) (raw : RawTrack) (name n : ParamName) → Stage form id t (index_of name) raw → index_of name ≤ index_of n → value_of n raw.params ≡ None
from_there form id t raw name n stage le =
    let out : ltb (index_of n) (index_of name) ≡ false = le-ltb (index_of n) (index_of name) le in
    rw out at (stage.said n)

other_index : (name n : ParamName) → (index_of n ≡ index_of name → ⊥) → eqb (index_of name) (index_of n) ≡ false
other_index name n apart = ne_eqb (index_of name) (index_of n) (λ e. apart (sym e))

-- what is said of a name behind one param more
abbrev IsSaid : Form → ℕ → Track → RawTrack → ParamName → List ℕ → ParamName → Type 0
IsSaid form id t raw name value n =
    value_or (value_of n raw.params) (cond (eqb (index_of name) (index_of n)) (Some value) None) ≡ cond (ltb (index_of n) (index_of name + 1)) (expected form id t n) None

said_more : (form : Form) (id : ℕ) (t : Track) (raw : RawTrack) (name : ParamName) (value : List ℕ) → expected form id t name ≡ Some value
    → Stage form id t (index_of name) raw → (n : ParamName) → ((index_of n < index_of name) ⊎ (index_of name ≤ index_of n))
    → ((index_of n ≡ index_of name) ⊎ (index_of n ≡ index_of name → ⊥)) → IsSaid form id t raw name value n
said_more form id t raw name value is stage n (inl lt) other =
    let after : ltb (index_of n) (index_of name + 1) ≡ true = lt-ltb (index_of n) (index_of name + 1) (omega arith) in
    let apart : eqb (index_of name) (index_of n) ≡ false = ne_eqb (index_of name) (index_of n) (λ e. omega arith) in
    rw (apart, after) (value_or_none (value_of n raw.params) ∙ below form id t raw name n stage lt)
said_more form id t raw name value is stage n (inr le) (inl same) =
    let after : ltb (index_of n) (index_of name + 1) ≡ true = lt-ltb (index_of n) (index_of name + 1) (omega arith) in
    let here : eqb (index_of name) (index_of n) ≡ true = eq-eqb (index_of name) (index_of n) (sym same) in
    let none : value_of n raw.params ≡ None = from_there form id t raw name n stage le in
    rw (none, here, after) (sym (ap (expected form id t) (same_name n name (eq-eqb (index_of n) (index_of name) same)) ∙ is))
said_more form id t raw name value is stage n (inr le) (inr apart) =
    let after : ltb (index_of n) (index_of name + 1) ≡ false = le-ltb (index_of n) (index_of name + 1) (omega arith) in
    let other : eqb (index_of name) (index_of n) ≡ false = other_index name n apart in
    let none : value_of n raw.params ≡ None = from_there form id t raw name n stage le in
    rw (none, other, after) refl

add_stage : (form : Form) (id : ℕ) (t : Track) (raw : RawTrack) (name : ParamName) (value : List ℕ) (at : ℕ) → expected form id t name ≡ Some value
    → is_fit name value ≡ true → Stage form id t (index_of name) raw
    → Stage form id t (index_of name + 1) (with_param raw (record { name = name; value = value; at = at }))
add_stage form id t raw name value at is fit stage =
    let p : SmilParam = record { name = name; value = value; at = at } in
    let first : with_param raw p ≡ record raw { params = raw.params ++ p ∷ [] } = with_param_first raw p (absent form id t raw name stage) in
    rw first (record {
      kind = stage.kind;
      bitrate = stage.bitrate;
      again = stage.again;
      fit = misfits_push raw.params p stage.fit fit;
      said = λ n. value_of_push n raw.params p ∙ said_more form id t raw name value is stage n (cases_lt (index_of n) (index_of name)) (cases_eq (index_of n) (index_of name));
    })

abbrev IsStill : Form → ℕ → Track → RawTrack → ParamName → ParamName → Type 0
IsStill form id t raw name n = value_of n raw.params ≡ cond (ltb (index_of n) (index_of name + 1)) (expected form id t n) None

said_still : (form : Form) (id : ℕ) (t : Track) (raw : RawTrack) (name : ParamName) → expected form id t name ≡ None → Stage form id t (index_of name) raw
    → (n : ParamName) → ((index_of n < index_of name) ⊎ (index_of name ≤ index_of n)) → ((index_of n ≡ index_of name) ⊎ (index_of n ≡ index_of name → ⊥))
    → IsStill form id t raw name n
said_still form id t raw name is stage n (inl lt) other =
    let after : ltb (index_of n) (index_of name + 1) ≡ true = lt-ltb (index_of n) (index_of name + 1) (omega arith) in
    rw after (below form id t raw name n stage lt)
said_still form id t raw name is stage n (inr le) (inl same) =
    let after : ltb (index_of n) (index_of name + 1) ≡ true = lt-ltb (index_of n) (index_of name + 1) (omega arith) in
    rw after (from_there form id t raw name n stage le ∙ sym (ap (expected form id t) (same_name n name (eq-eqb (index_of n) (index_of name) same)) ∙ is))
said_still form id t raw name is stage n (inr le) (inr apart) =
    let after : ltb (index_of n) (index_of name + 1) ≡ false = le-ltb (index_of n) (index_of name + 1) (omega arith) in
    rw after (from_there form id t raw name n stage le)

skip_stage : (form : Form) (id : ℕ) (t : Track) (raw : RawTrack) (name : ParamName) → expected form id t name ≡ None → Stage form id t (index_of name) raw → Stage form id t (index_of name + 1) raw
skip_stage form id t raw name is stage = record {
  kind = stage.kind;
  bitrate = stage.bitrate;
  again = stage.again;
  fit = stage.fit;
  said = λ n. said_still form id t raw name is stage n (cases_lt (index_of n) (index_of name)) (cases_eq (index_of n) (index_of name));
}

-- between two tracks, and inside one
abbrev pub walk_out : List RawTrack → Walk
walk_out done = record { path = in_switch; other = None; done = done; current = None; over = None }

abbrev pub walk_in : Kind → List RawTrack → RawTrack → Walk
walk_in k done raw = record { path = in_track k; other = None; done = done; current = Some raw; over = None }

-- the rest of the text gives the channel, whatever the places of what was read
abbrev GoesOn : Form → ℕ → (Walk → Type 0) → ℕ → List ℕ → ℕ → Track → List RawTrack → ℕ → Type 0
GoesOn form size Good end x id t done k =
    (raw : RawTrack) → Stage form id t k raw → Leads form Good (left_at size end x (in_track t.kind)) (walk_in t.kind done raw)

param_stage : (form : Form) (size : ℕ) (Good : Walk → Type 0) (end : ℕ) (x : List ℕ) (id : ℕ) (t : Track) (done : List RawTrack) (raw : RawTrack) (name : ParamName) (text value : List ℕ)
    → Begins x → list_all is_plain text ≡ true → param_name text ≡ Some name → is_read form raw name ≡ true → expected form id t name ≡ Some value
    → list_all is_plain value ≡ true → is_fit name value ≡ true → Stage form id t (index_of name) raw → GoesOn form size Good end x id t done (index_of name + 1)
    → Leads form Good (left_at size end (param_line text value ++ x) (in_track t.kind)) (walk_in t.kind done raw)
param_stage form size Good end x id t done raw name text value begins plain_name named reads is plain fit stage go =
    param_read form size Good end x t.kind text value (walk_in t.kind done raw) begins plain_name plain (λ at.
    let P : Walk → Type 0 = λ w. Leads form Good (left_at size end x (in_track t.kind)) w in
    let next : RawTrack = with_param raw (record { name = name; value = value; at = at }) in
    let met : step form (walk_in t.kind done raw) (Start (codes "param") (param_attributes text value) true at) ≡ walk_in t.kind done next = rw (named, reads) refl in
    subst P (sym met) (go next (add_stage form id t raw name value at is fit stage)))

option_stage : (form : Form) (size : ℕ) (Good : Walk → Type 0) (end : ℕ) (x : List ℕ) (id : ℕ) (t : Track) (done : List RawTrack) (raw : RawTrack) (name : ParamName) (text : List ℕ) (o : Option ℕ)
    → Begins x → list_all is_plain text ≡ true → param_name text ≡ Some name → is_read form raw name ≡ true → expected form id t name ≡ option_map decimal o
    → IsNarrowOption o → ((n : ℕ) → n < 2 ^ 32 → is_fit name (decimal n) ≡ true) → Stage form id t (index_of name) raw
    → GoesOn form size Good end x id t done (index_of name + 1) → Leads form Good (left_at size end (option_line text o ++ x) (in_track t.kind)) (walk_in t.kind done raw)
option_stage form size Good end x id t done raw name text None begins plain_name named reads is narrow fit stage go =
    go raw (skip_stage form id t raw name is stage)
option_stage form size Good end x id t done raw name text (Some n) begins plain_name named reads is narrow fit stage go =
    param_stage form size Good end x id t done raw name text (decimal n) begins plain_name named reads is (decimal_plain n (narrow n refl)) (fit n (narrow n refl)) stage go

option_begins : (text : List ℕ) (o : Option ℕ) (x : List ℕ) → Begins x → Begins (option_line text o ++ x)
option_begins text None x begins = begins
option_begins text (Some n) x begins = param_begins text (decimal n) x

number_fits : (n : ℕ) → n < 2 ^ 32 → is_fit MaxWidth (decimal n) ≡ true
unfolding is_fit
number_fits n lt = decimal_number n lt

numbers_text : (p : Params) (x : List ℕ)
    → number_lines p ++ x ≡ option_line (codes "MaxWidth") p.width ++ (option_line (codes "MaxHeight") p.height ++
    (option_line (codes "AudioTag") p.tag ++ (option_line (codes "Channels") p.channels ++
    (option_line (codes "SamplingRate") p.rate ++ (option_line (codes "BitsPerSample") p.bits ++ (option_line (codes "PacketSize") p.packet ++ x))))))
unfolding number_lines
numbers_text p x = simp append_assoc

numbers_begin : (p : Params) (x : List ℕ) → Begins x → Begins (number_lines p ++ x)
numbers_begin p x begins =
    rw (numbers_text p x) (option_begins _ p.width _ (option_begins _ p.height _ (option_begins _ p.tag _
    (option_begins _ p.channels _ (option_begins _ p.rate _ (option_begins _ p.bits _ (option_begins _ p.packet x begins)))))))

-- the names of the numbers
is_width : param_name (codes "MaxWidth") ≡ Some MaxWidth
unfolding param_name text_param number_param video_param audio_param
is_width = refl

is_height : param_name (codes "MaxHeight") ≡ Some MaxHeight
unfolding param_name text_param number_param video_param audio_param
is_height = refl

is_tag : param_name (codes "AudioTag") ≡ Some AudioTag
unfolding param_name text_param number_param video_param audio_param
is_tag = refl

is_channels : param_name (codes "Channels") ≡ Some Channels
unfolding param_name text_param number_param video_param audio_param
is_channels = refl

is_rate : param_name (codes "SamplingRate") ≡ Some SamplingRate
unfolding param_name text_param number_param video_param audio_param
is_rate = refl

is_bits : param_name (codes "BitsPerSample") ≡ Some BitsPerSample
unfolding param_name text_param number_param video_param audio_param
is_bits = refl

is_packet : param_name (codes "PacketSize") ≡ Some PacketSize
unfolding param_name text_param number_param video_param audio_param
is_packet = refl

is_id : param_name (codes "trackID") ≡ Some TrackId
unfolding param_name text_param number_param video_param audio_param
is_id = refl

is_track_name : param_name (codes "trackName") ≡ Some TrackName
unfolding param_name text_param number_param video_param audio_param
is_track_name = refl

is_time_scale : param_name (codes "TimeScale") ≡ Some TimeScale
unfolding param_name text_param number_param video_param audio_param
is_time_scale = refl

is_four_cc : param_name (codes "FourCC") ≡ Some FourCc
unfolding param_name text_param number_param video_param audio_param
is_four_cc = refl

is_codec : param_name (codes "CodecPrivateData") ≡ Some CodecPrivateData
unfolding param_name text_param number_param video_param audio_param
is_codec = refl

-- the timescale, which a ladder reads and a pushed header passes over
scale_stage : (form : Form) (size : ℕ) (Good : Walk → Type 0) (end : ℕ) (x : List ℕ) (id : ℕ) (t : Track) (done : List RawTrack) (raw : RawTrack)
    → Begins x → IsWritable id t → Stage form id t 3 raw → GoesOn form size Good end x id t done 4
    → Leads form Good (left_at size end (number_line (codes "TimeScale") t.timescale ++ x) (in_track t.kind)) (walk_in t.kind done raw)
unfolding is_fit
scale_stage Ladder size Good end x id t done raw begins fits stage go =
    param_stage Ladder size Good end x id t done raw TimeScale (codes "TimeScale") (decimal t.timescale) begins refl is_time_scale refl refl
    (decimal_plain t.timescale fits.narrow.timescale) (timescale_fits t.timescale fits.narrow.timescale fits.track.ticks) stage go
scale_stage Pushed size Good end x id t done raw begins fits stage go =
    param_read Pushed size Good end x t.kind (codes "TimeScale") (decimal t.timescale) (walk_in t.kind done raw) begins refl (decimal_plain t.timescale fits.narrow.timescale) (λ at.
    let P : Walk → Type 0 = λ w. Leads Pushed Good (left_at size end x (in_track t.kind)) w in
    let met : step Pushed (walk_in t.kind done raw) (Start (codes "param") (param_attributes (codes "TimeScale") (decimal t.timescale)) true at) ≡ walk_in t.kind done raw = rw is_time_scale refl in
    subst P (sym met) (go raw (skip_stage Pushed id t raw TimeScale refl stage)))

numbers_stage : (form : Form) (size : ℕ) (Good : Walk → Type 0) (end : ℕ) (x : List ℕ) (id : ℕ) (t : Track) (done : List RawTrack) (raw : RawTrack) → Begins x
    → IsNarrowTrack t → Stage form id t 6 raw → GoesOn form size Good end x id t done 13
    → Leads form Good (left_at size end (number_lines t.numbers ++ x) (in_track t.kind)) (walk_in t.kind done raw)
unfolding is_fit
numbers_stage form size Good end x id t done raw begins narrow stage go =
    let n = narrow.numbers in
    let b1 = option_begins (codes "PacketSize") t.numbers.packet x begins in
    let b2 = option_begins (codes "BitsPerSample") t.numbers.bits _ b1 in
    let b3 = option_begins (codes "SamplingRate") t.numbers.rate _ b2 in
    let b4 = option_begins (codes "Channels") t.numbers.channels _ b3 in
    let b5 = option_begins (codes "AudioTag") t.numbers.tag _ b4 in
    let b6 = option_begins (codes "MaxHeight") t.numbers.height _ b5 in
    let P : List ℕ → Type 0 = λ l. Leads form Good (left_at size end l (in_track t.kind)) (walk_in t.kind done raw) in
    subst P (sym (numbers_text t.numbers x))
    (option_stage form size Good end _ id t done raw MaxWidth (codes "MaxWidth") t.numbers.width b6 refl is_width refl refl n.width decimal_number stage (λ r1 s1.
    option_stage form size Good end _ id t done r1 MaxHeight (codes "MaxHeight") t.numbers.height b5 refl is_height refl refl n.height decimal_number s1 (λ r2 s2.
    option_stage form size Good end _ id t done r2 AudioTag (codes "AudioTag") t.numbers.tag b4 refl is_tag refl refl n.tag decimal_number s2 (λ r3 s3.
    option_stage form size Good end _ id t done r3 Channels (codes "Channels") t.numbers.channels b3 refl is_channels refl refl n.channels decimal_number s3 (λ r4 s4.
    option_stage form size Good end _ id t done r4 SamplingRate (codes "SamplingRate") t.numbers.rate b2 refl is_rate refl refl n.rate decimal_number s4 (λ r5 s5.
    option_stage form size Good end _ id t done r5 BitsPerSample (codes "BitsPerSample") t.numbers.bits b1 refl is_bits refl refl n.bits decimal_number s5 (λ r6 s6.
    option_stage form size Good end x id t done r6 PacketSize (codes "PacketSize") t.numbers.packet begins refl is_packet refl refl n.packet decimal_number s6 go)))))))

track_text : (id : ℕ) (t : Track) (x : List ℕ)
    → track_lines id t ++ x ≡ opening_line t.kind t.bitrate ++ (number_line (codes "trackID") id ++
    (param_line (codes "trackName") t.name ++ (number_line (codes "TimeScale") t.timescale ++
    (param_line (codes "FourCC") t.fourcc ++ (param_line (codes "CodecPrivateData") (encode_upper t.private) ++ (number_lines t.numbers ++ (closing_line t.kind ++ x)))))))
unfolding track_lines
track_text id t x = simp append_assoc

pub track_begins : (id : ℕ) (t : Track) (x : List ℕ) → Begins (track_lines id t ++ x)
track_begins id t x = rw (track_text id t x) (opening_begins t.kind t.bitrate _)

opened_kind : (k : Kind) → kind_in (element_name k) ≡ Some k
unfolding kind_in
opened_kind kind.Video = refl
opened_kind kind.Audio = refl
opened_kind kind.Text = refl

-- what is known of a track before its params
abbrev opened_track : Track → ℕ → RawTrack
opened_track t at = record { kind = t.kind; at = at; bitrate = Some (decimal t.bitrate); params = []; again = None }

first_stage : (form : Form) (id : ℕ) (t : Track) (at : ℕ) → Stage form id t 1 (opened_track t at)
first_stage form id t at = record { kind = refl; bitrate = refl; again = refl; fit = refl; said = unsaid }
  where
    unsaid : (name : ParamName) → None ≡ cond (ltb (index_of name) 1) (expected form id t name) None
    unsaid SystemBitrate = refl
    unsaid TrackId = refl
    unsaid TrackName = refl
    unsaid TimeScale = refl
    unsaid FourCc = refl
    unsaid CodecPrivateData = refl
    unsaid MaxWidth = refl
    unsaid MaxHeight = refl
    unsaid AudioTag = refl
    unsaid Channels = refl
    unsaid SamplingRate = refl
    unsaid BitsPerSample = refl
    unsaid PacketSize = refl

-- a written track is read, with some places
pub track_read : (form : Form) (size : ℕ) (Good : Walk → Type 0) (end : ℕ) (x : List ℕ) (id : ℕ) (t : Track) (done : List RawTrack) → Begins x → IsWritable id t
    → length done < 64 → ((raw : RawTrack) → Stage form id t 13 raw → Leads form Good (left_at size end x in_switch) (walk_out (done ++ raw ∷ [])))
    → Leads form Good (left_at size end (track_lines id t ++ x) in_switch) (walk_out done)
unfolding is_fit
track_read form size Good end x id t done begins fits room go =
    let narrow = fits.narrow in
    let c1 = closing_begins t.kind x in
    let c2 = numbers_begin t.numbers _ c1 in
    let c3 = param_begins (codes "CodecPrivateData") (encode_upper t.private) (number_lines t.numbers ++ (closing_line t.kind ++ x)) in
    let c4 = param_begins (codes "FourCC") t.fourcc (param_line (codes "CodecPrivateData") (encode_upper t.private) ++ (number_lines t.numbers ++ (closing_line t.kind ++ x))) in
    let c5 = param_begins (codes "TimeScale") (decimal t.timescale) (param_line (codes "FourCC") t.fourcc ++
    (param_line (codes "CodecPrivateData") (encode_upper t.private) ++ (number_lines t.numbers ++ (closing_line t.kind ++ x)))) in
    let c6 =
    param_begins (codes "trackName") t.name (number_line (codes "TimeScale") t.timescale ++
    (param_line (codes "FourCC") t.fourcc ++ (param_line (codes "CodecPrivateData") (encode_upper t.private) ++ (number_lines t.numbers ++ (closing_line t.kind ++ x))))) in
    let c7 =
    param_begins (codes "trackID") (decimal id) (param_line (codes "trackName") t.name ++ (number_line (codes "TimeScale") t.timescale ++
    (param_line (codes "FourCC") t.fourcc ++ (param_line (codes "CodecPrivateData") (encode_upper t.private) ++ (number_lines t.numbers ++ (closing_line t.kind ++ x)))))) in
    let few : leb 64 (length done) ≡ false = lt-leb 64 (length done) room in
    let P : List ℕ → Type 0 = λ l. Leads form Good (left_at size end l in_switch) (walk_out done) in
    subst P (sym (track_text id t x))
    (opening_read form size Good end _ t.kind t.bitrate (walk_out done) c7 (decimal_plain t.bitrate narrow.bitrate) (λ at.
    let Q : Walk → Type 0 =
    λ w. Leads form Good (left_at size end (number_line (codes "trackID") id ++ (param_line (codes "trackName") t.name ++
    (number_line (codes "TimeScale") t.timescale ++ (param_line (codes "FourCC") t.fourcc ++
    (param_line (codes "CodecPrivateData") (encode_upper t.private) ++ (number_lines t.numbers ++ (closing_line t.kind ++ x))))))) (in_track t.kind)) w in
    let met : step form (walk_out done) (Start (element_name t.kind) (track_attributes t.bitrate) false at) ≡ walk_in t.kind done (opened_track t at) = rw (opened_kind t.kind, few) refl in
    subst Q (sym met)
    (param_stage form size Good end _ id t done (opened_track t at) TrackId (codes "trackID") (decimal id) c6 refl is_id refl refl (decimal_plain id fits.small) (decimal_number id fits.small)
    (first_stage form id t at) (λ r2 s2.
    param_stage form size Good end _ id t done r2 TrackName (codes "trackName") t.name c5 refl is_track_name refl refl (name_plain t.name narrow.name) narrow.name s2 (λ r3 s3.
    scale_stage form size Good end _ id t done r3 c4 fits s3 (λ r4 s4.
    param_stage form size Good end _ id t done r4 FourCc (codes "FourCC") t.fourcc c3 refl is_four_cc refl refl (fourcc_plain t.fourcc fits.track.fourcc) fits.track.fourcc s4 (λ r5 s5.
    param_stage form size Good end _ id t done r5 CodecPrivateData (codes "CodecPrivateData") (encode_upper t.private) c2 refl is_codec refl refl (private_plain t.private)
    (private_again t.private narrow.private fits.track.short) s5 (λ r6 s6.
    numbers_stage form size Good end _ id t done r6 c1 narrow s6 (λ r s.
    closing_read form size Good end x t.kind (walk_in t.kind done r) begins (λ place. go r s))))))))))
