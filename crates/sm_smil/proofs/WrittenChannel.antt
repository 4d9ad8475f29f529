-- The live manifest of a channel is read as that channel.
use Rattle.std.proofs.Common.{◌≡◌, ◌<◌, ◌≤◌, ◌+◌, ◌-◌, ◌^◌, ℕ, suc, Bool, true, false, ◌&&◌, ◌||◌, not, eqb, List, [], ◌∷◌, ◌++◌, length, map, Some, None, unwrap_or, Result, Ok, refl, ap, sym, ◌∙◌, subst, append_assoc, length-append, arith, All, AllPairs}
use Rattle.std.specs.Prelude.{codes}
use Rattle.std.specs.List.{AllByRecursion}
use Rattle.std.specs.Result.{result_unwrap_or}
use Rattle.std.proofs.lemmas.Bool.{ne_eqb, eq-eqb}
use Rattle.std.proofs.lemmas.List.Elements.{recursion_from_All}
use Rattle.std.proofs.lemmas.Slice.Eq.{bytes_eq-Decides}
use Rattle.hex.proofs.HexLemmas.{decode_of-encode_upper}
use Rattle.sm_tag.proofs.Zeros.{without_zeros_nonzero}
use Rattle.sm_model.specs.declared.tag.Attribute.{Attribute}
use Rattle.sm_model.specs.declared.tag.Tag.{Tag}
use Rattle.sm_model.specs.declared.tag.Tag.TheVariants.{Start, End}
use Rattle.sm_tag.specs.declared.grammar.Markup.{Markup}
use Rattle.sm_tag.specs.declared.grammar.Markup.TheVariants as markup
use Rattle.sm_tag.specs.declared.grammar.Lead.{Lead}
use Rattle.sm_tag.specs.declared.grammar.Lead.TheVariants as lead
use Rattle.sm_smil.specs.declared.raw_track.Form.{Form}
use Rattle.sm_smil.specs.declared.raw_track.Form.TheVariants.{Pushed, Ladder}
use Rattle.sm_model.specs.declared.smil.SmilTrack.{SmilTrack}
use Rattle.sm_smil.specs.declared.raw_track.ParamName.TheVariants.{TrackId, TrackName, TimeScale, FourCc, CodecPrivateData, MaxWidth, MaxHeight, AudioTag, Channels, SamplingRate, BitsPerSample, PacketSize}
use Rattle.sm_smil.specs.declared.raw_track.RawTrack.{RawTrack}
use Rattle.sm_model.specs.declared.track.Kind.{Kind}
use Rattle.sm_model.specs.declared.track.Kind.TheVariants as kind
use Rattle.sm_model.specs.declared.track.Track.{Track}
use Rattle.sm_model.specs.Channels.{IsTrack, Agree, IsChannel, IsNarrowTrack}
use Rattle.sm_tag.specs.TagParts.{name_at}
use Rattle.sm_tag.specs.TagMarkup.{Markups, lead_at, finish_at, instruction_at, past_word}
use Rattle.sm_tag.specs.Tags.{Left, Founds, bare, marked, skipped, Next, ends, begin, without_zeros, without_mark}
use Rattle.sm_model.specs.Same.{is_same}
use Rattle.sm_smil.specs.LiveTracks.{value_of, number_in, stream_name, bitrate_of, timescale_of, bytes_in, numbers_of, track_id_of, track_of, smil_track, ladder_track}
use Rattle.sm_smil.specs.LiveWalk.{Walk, nothing_met, walk_tags}
use Rattle.sm_smil.specs.LiveFaults.{inner_faults, clash, collide, lacks_part, collides_with, end_faults, tracks_faults, text_faults, share_id, faults_of}
use Rattle.sm_model.specs.Kinds.{are_one_kind}
use Rattle.sm_model.specs.Places.{least_from}
use Rattle.sm_tag.specs.Elements.{bad_of}
use Rattle.sm_smil.specs.LiveManifests.{fault_of, tracks_or_fault, IsLadder, IsLiveManifest}
use Rattle.sm_smil.specs.LiveText.{track_lines, tracks_lines, head_lines, foot_lines, live_text}
use Rattle.sm_smil.specs.Untimed.{untimed_tracks}
use Rattle.sm_smil.proofs.Fit.{neither}
use Rattle.sm_smil.proofs.OneReading.{one_ladder, one_live_manifest}
use Rattle.sm_tag.specs.TagText.{left_at}
use Rattle.sm_tag.proofs.WrittenTags.{append_nil, Starts-again}
use Rattle.sm_tag.proofs.WrittenNext.{next_finish}
use Rattle.sm_smil.proofs.WrittenLines.{Leads, Begins, in_switch, start_line, finish_line, on_start, on_finish, feed_read}
use Rattle.sm_smil.proofs.WrittenValues.{IsWritable, decimal_number, decimal_again, timescale_fits, option_again}
use Rattle.sm_smil.proofs.WrittenTracks.{Stage, walk_out, track_read, track_begins}

-- the timescale that is compared: a pushed header says none
abbrev pub ticks_said : Form → Track → ℕ
ticks_said Pushed t = 10000000
ticks_said Ladder t = t.timescale

-- what was read of a track is the track with its track_ID, whatever its timescale, without a fault
pub record IsRead (form : Form) (id : ℕ) (t : Track) (raw : RawTrack) : Type 0 where
  pub track : (ticks : ℕ) → track_of ticks raw ≡ record t { timescale = ticks }
  pub name : stream_name raw ≡ t.name
  pub kind : raw.kind ≡ t.kind
  pub bitrate : bitrate_of raw ≡ Some t.bitrate
  pub own_id : track_id_of raw ≡ Some id
  pub timescale : timescale_of raw ≡ Some (ticks_said form t)
  pub clean : inner_faults raw ≡ []
  pub whole : lacks_part form raw ≡ false

read_name : (form : Form) (id : ℕ) (t : Track) (raw : RawTrack) → Stage form id t 13 raw → stream_name raw ≡ t.name
read_name form id t raw s = rw (s.said TrackName) refl

read_bitrate : (form : Form) (id : ℕ) (t : Track) (raw : RawTrack) → IsWritable id t → Stage form id t 13 raw → bitrate_of raw ≡ Some t.bitrate
read_bitrate form id t raw fits s = rw s.bitrate (decimal_again t.bitrate fits.narrow.bitrate)

read_id : (form : Form) (id : ℕ) (t : Track) (raw : RawTrack) → IsWritable id t → Stage form id t 13 raw → track_id_of raw ≡ Some id
read_id form id t raw fits s = rw (s.said TrackId) (decimal_again id fits.small)

read_timescale : (form : Form) (id : ℕ) (t : Track) (raw : RawTrack) → IsWritable id t → Stage form id t 13 raw → timescale_of raw ≡ Some (ticks_said form t)
read_timescale Pushed id t raw fits s = rw (s.said TimeScale) refl
read_timescale Ladder id t raw fits s =
    rw (s.said TimeScale, timescale_fits t.timescale fits.narrow.timescale fits.track.ticks) (decimal_again t.timescale fits.narrow.timescale)

read_whole : (form : Form) (id : ℕ) (t : Track) (raw : RawTrack) → Stage form id t 13 raw → lacks_part form raw ≡ false
unfolding lacks_part
read_whole Pushed id t raw s = rw (s.bitrate, s.said TrackId) refl
read_whole Ladder id t raw s = rw s.bitrate refl

read_private : (form : Form) (id : ℕ) (t : Track) (raw : RawTrack) → IsWritable id t → Stage form id t 13 raw → bytes_in (value_of CodecPrivateData raw.params) ≡ t.private
read_private form id t raw fits s =
    rw (s.said CodecPrivateData) (ap (λ r. result_unwrap_or r []) (decode_of-encode_upper t.private fits.narrow.private))

read_numbers : (form : Form) (id : ℕ) (t : Track) (raw : RawTrack) → IsWritable id t → Stage form id t 13 raw → numbers_of raw ≡ t.numbers
unfolding numbers_of
read_numbers form id t raw fits s =
    let n = fits.narrow.numbers in
    let w1 : number_in (value_of MaxWidth raw.params) ≡ t.numbers.width = ap number_in (s.said MaxWidth) ∙ option_again t.numbers.width n.width in
    let w2 : number_in (value_of MaxHeight raw.params) ≡ t.numbers.height = ap number_in (s.said MaxHeight) ∙ option_again t.numbers.height n.height in
    let w3 : number_in (value_of AudioTag raw.params) ≡ t.numbers.tag = ap number_in (s.said AudioTag) ∙ option_again t.numbers.tag n.tag in
    let w4 : number_in (value_of Channels raw.params) ≡ t.numbers.channels = ap number_in (s.said Channels) ∙ option_again t.numbers.channels n.channels in
    let w5 : number_in (value_of SamplingRate raw.params) ≡ t.numbers.rate = ap number_in (s.said SamplingRate) ∙ option_again t.numbers.rate n.rate in
    let w6 : number_in (value_of BitsPerSample raw.params) ≡ t.numbers.bits = ap number_in (s.said BitsPerSample) ∙ option_again t.numbers.bits n.bits in
    let w7 : number_in (value_of PacketSize raw.params) ≡ t.numbers.packet = ap number_in (s.said PacketSize) ∙ option_again t.numbers.packet n.packet in
    rw (w1, w2, w3, w4, w5, w6, w7) refl

read_track : (form : Form) (id : ℕ) (t : Track) (raw : RawTrack) → IsWritable id t → Stage form id t 13 raw → (ticks : ℕ) → track_of ticks raw ≡ record t { timescale = ticks }
unfolding track_of
read_track form id t raw fits s ticks =
    let k = s.kind in
    let n = read_name form id t raw s in
    let b : unwrap_or (bitrate_of raw) 0 ≡ t.bitrate = ap (λ o. unwrap_or o 0) (read_bitrate form id t raw fits s) in
    let f : unwrap_or (value_of FourCc raw.params) [] ≡ t.fourcc = ap (λ o. unwrap_or o []) (s.said FourCc) in
    let p = read_private form id t raw fits s in
    let m = read_numbers form id t raw fits s in
    rw (n, b, f, p, m, k) refl

pub is_read : (form : Form) (id : ℕ) (t : Track) (raw : RawTrack) → IsWritable id t → Stage form id t 13 raw → IsRead form id t raw
is_read form id t raw fits s = record {
  track = read_track form id t raw fits s;
  name = read_name form id t raw s;
  kind = s.kind;
  bitrate = read_bitrate form id t raw fits s;
  own_id = read_id form id t raw fits s;
  timescale = read_timescale form id t raw fits s;
  clean = rw (s.bitrate, s.fit, s.again, decimal_number t.bitrate fits.narrow.bitrate) refl;
  whole = read_whole form id t raw s;
}

kind_refl : (k : Kind) → are_one_kind k k ≡ true
kind_refl kind.Video = refl
kind_refl kind.Audio = refl
kind_refl kind.Text = refl

kinds_same : (a b : Kind) → a ≡ b → are_one_kind a b ≡ true
kinds_same a b e = rw e (kind_refl b)

ticks_same : (form : Form) (a b : Track) → a.timescale ≡ b.timescale → ticks_said form a ≡ ticks_said form b
ticks_same Pushed a b e = refl
ticks_same Ladder a b e = e

-- tracks that agree don't clash
no_clash : (form : Form) (i j : ℕ) (a b : Track) (x y : RawTrack) → IsRead form i a x → IsRead form j b y → Agree a b → clash x y ≡ false
unfolding clash
no_clash form i j a b x y is it agree =
    rw (is.name, it.name, is.bitrate, it.bitrate, is.kind, it.kind, is.timescale, it.timescale) (tested (is_same a.name b.name) refl)
  where
    tested : (same : Bool) → is_same a.name b.name ≡ same
        → (same && (eqb a.bitrate b.bitrate || (not (are_one_kind a.kind b.kind) || not (eqb (ticks_said form a) (ticks_said form b))))) ≡ false
    tested false e = refl
    tested true e =
        let named = (bytes_eq-Decides a.name b.name).0 e in
        let r : eqb a.bitrate b.bitrate ≡ false = ne_eqb a.bitrate b.bitrate (agree.apart named) in
        let k : are_one_kind a.kind b.kind ≡ true = kinds_same a.kind b.kind (agree.kind named) in
        let t : eqb (ticks_said form a) (ticks_said form b) ≡ true = eq-eqb (ticks_said form a) (ticks_said form b) (ticks_same form a b (agree.timescale named)) in
        rw (r, k, t) refl

no_shared_id : (form : Form) (i j : ℕ) (a b : Track) (x y : RawTrack) → IsRead form i a x → IsRead form j b y → (i ≡ j → ⊥) → share_id form x y ≡ false
no_shared_id Ladder i j a b x y is it ne = refl
no_shared_id Pushed i j a b x y is it ne = rw (is.own_id, it.own_id) (ne_eqb i j ne)

apart : (form : Form) (i j : ℕ) (a b : Track) (x y : RawTrack) → IsRead form i a x → IsRead form j b y → (i ≡ j → ⊥) → Agree a b → collide form x y ≡ false
unfolding collide
apart form i j a b x y is it ne agree = rw (no_clash form i j a b x y is it agree, no_shared_id form i j a b x y is it ne) refl

-- each of these was read as one of those, whose track_IDs begin at id
abbrev pub AreRead : Form → ℕ → List RawTrack → List Track → Type 0
AreRead form id [] [] = Unit {0}
AreRead form id (x ∷ xs) (t ∷ ts) = IsRead form id t x × AreRead form (id + 1) xs ts
AreRead form id [] (t ∷ ts) = ⊥
AreRead form id (x ∷ xs) [] = ⊥

read_push : (form : Form) (id j : ℕ) (xs : List RawTrack) (ts : List Track) (x : RawTrack) (t : Track)
    → j ≡ id + length ts → AreRead form id xs ts → IsRead form j t x → AreRead form id (xs ++ x ∷ []) (ts ++ t ∷ [])
read_push form id j [] [] x t e are is =
    let here : j ≡ id = omega (arith, e) in
    (subst (λ (k : ℕ). IsRead form k t x) here is, tt)
read_push form id j (y ∷ ys) (u ∷ us) x t e are is = (are.0, read_push form (id + 1) j ys us x t (omega (arith, e)) are.1 is)
read_push form id j [] (u ∷ us) x t e are is = absurd are
read_push form id j (y ∷ ys) [] x t e are is = absurd are

ladder_map : (id : ℕ) (xs : List RawTrack) (ts : List Track) → AreRead Ladder id xs ts → map ladder_track xs ≡ ts
ladder_map id [] [] are = refl
ladder_map id (x ∷ xs) (t ∷ ts) are =
    let ticks : unwrap_or (timescale_of x) 0 ≡ t.timescale = ap (λ o. unwrap_or o 0) are.0.timescale in
    let first : ladder_track x ≡ t = ap (λ (n : ℕ). track_of n x) ticks ∙ are.0.track t.timescale in
    rw (first, ladder_map (id + 1) xs ts are.1) refl
ladder_map id [] (t ∷ ts) are = absurd are
ladder_map id (x ∷ xs) [] are = absurd are

pushed_map : (id : ℕ) (xs : List RawTrack) (ts : List Track) → AreRead Pushed id xs ts → map smil_track xs ≡ untimed_tracks id ts
pushed_map id [] [] are = refl
pushed_map id (x ∷ xs) (t ∷ ts) are =
    let own : unwrap_or (track_id_of x) 0 ≡ id = ap (λ o. unwrap_or o 0) are.0.own_id in
    rw (own, are.0.track 0, pushed_map (id + 1) xs ts are.1) refl
pushed_map id [] (t ∷ ts) are = absurd are
pushed_map id (x ∷ xs) [] are = absurd are

read_len : (form : Form) (id : ℕ) (xs : List RawTrack) (ts : List Track) → AreRead form id xs ts → length xs ≡ length ts
read_len form id [] [] are = refl
read_len form id (x ∷ xs) (t ∷ ts) are = ap suc (read_len form (id + 1) xs ts are.1)
read_len form id [] (t ∷ ts) are = absurd are
read_len form id (x ∷ xs) [] are = absurd are

collides_none : (form : Form) (id j : ℕ) (xs : List RawTrack) (ts : List Track) (x : RawTrack) (t : Track)
    → id + length ts ≤ j → AreRead form id xs ts → AllByRecursion (λ u. Agree u t) ts → IsRead form j t x → collides_with form xs x ≡ false
collides_none form id j [] [] x t le are agree is = refl
collides_none form id j (y ∷ ys) (u ∷ us) x t le are agree is =
    let first : collide form y x ≡ false = apart form id j u t y x are.0 is (λ e. omega (arith, e, le)) agree.0 in
    rw first (collides_none form (id + 1) j ys us x t (omega (arith, le)) are.1 agree.1 is)
collides_none form id j [] (u ∷ us) x t le are agree is = absurd are
collides_none form id j (y ∷ ys) [] x t le are agree is = absurd are

faults_push : (form : Form) (earlier xs : List RawTrack) (x : RawTrack) → tracks_faults form earlier xs ≡ [] → inner_faults x ≡ [] → end_faults form (earlier ++ xs) x ≡ [] → tracks_faults form
    earlier (xs ++ x ∷ []) ≡ []
faults_push form earlier [] x none inner end =
    let P : List RawTrack → Type 0 = λ l. end_faults form l x ≡ [] in
    let here : end_faults form earlier x ≡ [] = subst P (append_nil earlier) end in
    rw (inner, here) refl
faults_push form earlier (y ∷ ys) x none inner end =
    let parts = neither (inner_faults y ++ end_faults form earlier y) _ none in
    let P : List RawTrack → Type 0 = λ l. end_faults form l x ≡ [] in
    let here : end_faults form ((earlier ++ y ∷ []) ++ ys) x ≡ [] = subst P (sym (append_assoc earlier (y ∷ []) ys)) end in
    rw (parts.0, faults_push form (earlier ++ y ∷ []) ys x parts.1 inner here) refl

end_none : (form : Form) (earlier : List RawTrack) (x : RawTrack) → lacks_part form x ≡ false → collides_with form earlier x ≡ false → end_faults form earlier x ≡ []
unfolding end_faults
end_none form earlier x whole free = rw (whole, free) refl

-- ---- the foot

switch_end : (x : List ℕ) → finish_at (codes "switch>" ++ (10 ∷ x)) ≡ Ok (markup.Finish (codes "switch"), 10 ∷ x)
unfolding finish_at name_at
switch_end x = refl

body_end : (x : List ℕ) → finish_at (codes "body>" ++ (10 ∷ x)) ≡ Ok (markup.Finish (codes "body"), 10 ∷ x)
unfolding finish_at name_at
body_end x = refl

smil_end : finish_at (codes "smil>\n") ≡ Ok (markup.Finish (codes "smil"), 10 ∷ [])
unfolding finish_at name_at
smil_end = refl

lead_end : lead_at false (10 ∷ []) ≡ (lead.Ended, 0, [])
unfolding lead_at
lead_end = refl

text_end : (form : Form) (size : ℕ) (Good : Walk → Type 0) (end : ℕ) (w : Walk) → Good w → Leads form Good (left_at size end (10 ∷ []) []) w
text_end form size Good end w good =
    (End ∷ [], ends _ ((lead.Ended, markup.Skipped, 0, []), bare lead_end (λ e. cc e), refl) refl, refl, good)

foot_read : (form : Form) (size : ℕ) (Good : Walk → Type 0) (end : ℕ) (done : List RawTrack)
    → Good (record { path = []; other = None; done = done; current = None; over = None }) → Leads form Good (left_at size end foot_lines in_switch) (walk_out done)
foot_read form size Good end done good =
    let in_body = codes "smil" ∷ codes "body" ∷ [] in
    let in_smil = codes "smil" ∷ [] in
    finish_line form size Good end (codes "</body>\n</smil>\n") (codes "/switch>\n</body>\n</smil>\n") in_switch (codes "switch") (walk_out done) (_, refl) (refl, refl) (refl, refl) refl
    (sym (switch_end (codes "</body>\n</smil>\n"))) (λ a.
    finish_line form size Good end (codes "</smil>\n") (codes "/body>\n</smil>\n") in_body (codes "body") (record { path = in_body; other = None; done = done; current = None; over = None })
    (_, refl) (refl, refl) (refl, refl) refl (sym (body_end (codes "</smil>\n"))) (λ b.
    on_finish form size Good _ _ (codes "smil") (end - length (codes "</smil>\n")) (record { path = in_smil; other = None; done = done; current = None; over = None })
    (next_finish size end (codes "/smil>\n") (10 ∷ []) in_smil (codes "smil") (refl, refl) refl (sym smil_end)) (text_end form size Good end _ good)))

-- ---- the tracks

abbrev pub AreWritable : ℕ → List Track → Type 0
AreWritable id [] = Unit {0}
AreWritable id (t ∷ ts) = IsWritable id t × AreWritable (id + 1) ts

abbrev pub PairsAgree : List Track → Type 0
PairsAgree [] = Unit {0}
PairsAgree (t ∷ ts) = AllByRecursion (Agree t) ts × PairsAgree ts

-- each of these agrees with all of those before
abbrev pub AgreeWith : List Track → List Track → Type 0
AgreeWith before rest = AllByRecursion (λ u. AllByRecursion (λ b. Agree b u) before) rest

all_push : (before : List Track) (t u : Track) → AllByRecursion (λ b. Agree b u) before → Agree t u → AllByRecursion (λ b. Agree b u) (before ++ t ∷ [])
all_push [] t u all agree = (agree, tt)
all_push (b ∷ bs) t u all agree = (all.0, all_push bs t u all.1 agree)

with_push : (before : List Track) (t : Track) (rest : List Track) → AgreeWith before rest → AllByRecursion (Agree t) rest → AgreeWith (before ++ t ∷ []) rest
with_push before t [] all agree = tt
with_push before t (u ∷ us) all agree = (all_push before t u all.0 agree.0, with_push before t us all.1 agree.1)

tracks_begin : (id : ℕ) (ts : List Track) → Begins (tracks_lines id ts ++ foot_lines)
tracks_begin id [] = (_, refl)
tracks_begin id (t ∷ ts) = rw (append_assoc (track_lines id t) (tracks_lines (id + 1) ts) foot_lines) (track_begins id t (tracks_lines (id + 1) ts ++ foot_lines))

-- the walk at the end of the text
abbrev walk_end : List RawTrack → Walk
walk_end done = record { path = []; other = None; done = done; current = None; over = None }

tracks_read : (form : Form) (size : ℕ) (Good : Walk → Type 0) (end : ℕ) (channel : List Track) (done : List RawTrack) (before rest : List Track) (id : ℕ) → before ++ rest ≡ channel → length channel
    ≤ 64
    → ((xs : List RawTrack) → AreRead form 1 xs channel → tracks_faults form [] xs ≡ [] → Good (walk_end xs)) → id ≡ 1 + length before → AreRead form 1 done before → tracks_faults form [] done ≡ []
    → AreWritable id rest → AgreeWith before rest → PairsAgree rest → Leads form Good (left_at size end (tracks_lines id rest ++ foot_lines) in_switch) (walk_out done)
tracks_read form size Good end channel done before [] id whole few reaches place are none fits with_before agree =
    let all : before ≡ channel = sym (append_nil before) ∙ whole in
    foot_read form size Good end done (reaches done (subst (λ (ts : List Track). AreRead form 1 done ts) all are) none)
tracks_read form size Good end channel done before (t ∷ ts) id whole few reaches place are none fits with_before agree =
    let count : length done ≡ length before = read_len form 1 done before are in
    let long : length before + length (t ∷ ts) ≡ length channel = sym (length-append before (t ∷ ts)) ∙ ap length whole in
    let room : length done < 64 = omega (arith, count, long) in
    let more : id + 1 ≡ 1 + length (before ++ t ∷ []) = omega (arith, place, length-append before (t ∷ [])) in
    let P : List ℕ → Type 0 = λ l. Leads form Good (left_at size end l in_switch) (walk_out done) in
    subst P (sym (append_assoc (track_lines id t) (tracks_lines (id + 1) ts) foot_lines))
    (track_read form size Good end (tracks_lines (id + 1) ts ++ foot_lines) id t done (tracks_begin (id + 1) ts) fits.0 room (λ raw stage.
    let is = is_read form id t raw fits.0 stage in
    let free = collides_none form 1 id done before raw t (omega (arith, place)) are with_before.0 is in
    tracks_read form size Good end channel (done ++ raw ∷ []) (before ++ t ∷ []) ts (id + 1) (append_assoc before (t ∷ []) ts ∙ whole) few reaches more
    (read_push form 1 id done before raw t place are is)
    (faults_push form [] done raw none is.clean (end_none form done raw is.whole free)) fits.1 (with_push before t ts with_before.1 agree.0) agree.1))

-- ---- the head

abbrev smil_attributes : List Attribute
smil_attributes = record { name = codes "xmlns"; value = codes "http://www.w3.org/2001/SMIL20/Language" } ∷ []

-- behind the first line, and behind the second
abbrev behind_first : List ℕ → List ℕ
behind_first x = codes "<smil xmlns=\"http://www.w3.org/2001/SMIL20/Language\">\n<head/>\n<body>\n<switch>\n" ++ x

abbrev behind_second : List ℕ → List ℕ
behind_second x = codes "<head/>\n<body>\n<switch>\n" ++ x

first_line : (x : List ℕ) → instruction_at (codes "xml version=\"1.0\" encoding=\"utf-8\"?>\n" ++ behind_first x) ≡ Ok (markup.Skipped, 10 ∷ behind_first x)
unfolding instruction_at past_word
first_line x = refl

lead_first : (cs : List ℕ) → lead_at false (60 ∷ cs) ≡ (lead.Tag, length (60 ∷ cs), cs)
unfolding lead_at
lead_first cs = refl

lead_second : (cs : List ℕ) → lead_at false (10 ∷ 60 ∷ cs) ≡ (lead.Tag, length (60 ∷ cs), cs)
unfolding lead_at
lead_second cs = refl

second_line : (x : List ℕ) → Markups (codes "smil xmlns=\"http://www.w3.org/2001/SMIL20/Language\">\n" ++ behind_second x)
    (Ok (markup.Start (codes "smil") smil_attributes false, 10 ∷ behind_second x))
second_line x = Starts-again (codes "smil") smil_attributes false (10 ∷ behind_second x) (refl, refl) ((refl, refl), refl, refl, tt)

-- before the first line
abbrev pub first_left : ℕ → ℕ → List ℕ → Left
first_left size end text = record { size = size; end = end; rest = text; open_names = []; begun = false; bad = None }

head_next : (size end : ℕ) (x : List ℕ) → Next (first_left size end (head_lines ++ x)) (Start (codes "smil") smil_attributes false (end - length (behind_first x)))
    (left_at size end (10 ∷ behind_second x) (codes "smil" ∷ []))
head_next size end x =
    let f : Lead × Markup × ℕ × List ℕ = (lead.Tag, markup.Start (codes "smil") smil_attributes false, length (behind_first x), 10 ∷ behind_second x) in
    let second : Founds false (10 ∷ behind_first x) f = marked (lead_second (codes "smil xmlns=\"http://www.w3.org/2001/SMIL20/Language\">\n" ++ behind_second x)) (second_line x) (λ e. cc e) in
    (f, skipped (lead_first _) (sym (first_line x)) second, refl)

head_read : (form : Form) (size : ℕ) (Good : Walk → Type 0) (end : ℕ) (x : List ℕ) → Begins x → Leads form Good (left_at size end x in_switch) (walk_out []) → Leads form Good
    (first_left size end (head_lines ++ x)) nothing_met
head_read form size Good end x begins go =
    let in_smil = codes "smil" ∷ [] in
    let in_body = codes "smil" ∷ codes "body" ∷ [] in
    let w1 : Walk = record { path = in_smil; other = None; done = []; current = None; over = None } in
    let w2 : Walk = record { path = in_body; other = None; done = []; current = None; over = None } in
    on_start form size Good _ _ (codes "smil") smil_attributes false (end - length (behind_first x)) nothing_met (head_next size end x)
    (feed_read form size Good end (behind_second x) in_smil w1 (_, refl) (refl, refl)
    (start_line form size Good end (codes "<body>\n<switch>\n" ++ x) in_smil (codes "head") [] true w1 (_, refl) (refl, refl) (refl, refl)
    (Starts-again (codes "head") [] true (10 ∷ (codes "<body>\n<switch>\n" ++ x)) (refl, refl) tt) (λ a.
    start_line form size Good end (codes "<switch>\n" ++ x) in_smil (codes "body") [] false w1 (_, refl) (refl, refl) (refl, refl)
    (Starts-again (codes "body") [] false (10 ∷ (codes "<switch>\n" ++ x)) (refl, refl) tt) (λ b.
    start_line form size Good end x in_body (codes "switch") [] false w2 begins (refl, refl) (refl, refl) (Starts-again (codes "switch") [] false (10 ∷ x) (refl, refl) tt) (λ c. go)))))

-- ---- the whole text

ends_feed : (h m f : List ℕ) → h ++ (m ++ (f ++ 10 ∷ [])) ≡ (h ++ (m ++ f)) ++ 10 ∷ []
ends_feed h m f = simp append_assoc

no_zeros : (text front : List ℕ) → text ≡ front ++ 10 ∷ [] → without_zeros text ≡ text
no_zeros text front is = rw is (without_zeros_nonzero front 10 (λ e. omega arith))

begins_first : (text y : List ℕ) → without_zeros text ≡ text → text ≡ 60 ∷ y → begin text ≡ first_left (length text) (length text) text
begins_first text y same is =
    let mark : without_mark text ≡ text = rw is refl in
    rw (same, mark) refl

agree_pairs : (ts : List Track) → AllPairs Agree ts → PairsAgree ts
agree_pairs [] all = tt
agree_pairs (t ∷ ts) all =
    (recursion_from_All (Agree t) ts (λ k d within. all 0 (suc k) d (omega arith) (omega arith)), agree_pairs ts (λ i j d lt within. all (suc i) (suc j) d (omega arith) (omega arith)))

writable : (id : ℕ) (ts : List Track) → id + length ts < 2 ^ 32 → AllByRecursion IsTrack ts → AllByRecursion IsNarrowTrack ts → AreWritable id ts
writable id [] few fit narrow = tt
writable id (t ∷ ts) few fit narrow =
    (record { small = omega arith; track = fit.0; narrow = narrow.0 }, writable (id + 1) ts (omega arith) fit.1 narrow.1)

with_none : (rest : List Track) → AgreeWith [] rest
with_none [] = tt
with_none (u ∷ us) = (tt, with_none us)

-- the text leads to what its tracks are read as
leads_channel : (form : Form) (Good : Walk → Type 0) (channel : List Track) → IsChannel channel → All IsNarrowTrack channel
    → ((xs : List RawTrack) → AreRead form 1 xs channel → tracks_faults form [] xs ≡ [] → Good (walk_end xs)) → Leads form Good (begin (live_text channel)) nothing_met
unfolding live_text
leads_channel form Good channel is narrow reaches =
    let x = tracks_lines 1 channel ++ foot_lines in
    let text = head_lines ++ x in
    let clean : without_zeros text ≡ text = no_zeros text (head_lines ++ (tracks_lines 1 channel ++ codes "</switch>\n</body>\n</smil>"))
    (ends_feed head_lines (tracks_lines 1 channel) (codes "</switch>\n</body>\n</smil>")) in
    let few = is.few in
    let P : Left → Type 0 = λ s. Leads form Good s nothing_met in
    subst P (sym (begins_first text _ clean refl))
    (head_read form (length text) Good (length text) x (tracks_begin 1 channel)
    (tracks_read form (length text) Good (length text) channel [] [] channel 1 refl is.few reaches refl tt refl
    (writable 1 channel (omega arith) (recursion_from_All IsTrack channel is.each) (recursion_from_All IsNarrowTrack channel narrow)) (with_none channel) (agree_pairs channel is.agree)))

-- what is walked over gives these tracks, and nothing is at fault
record IsGood {X : Type 0} (track : RawTrack → X) (form : Form) (wanted : List X) (size : ℕ) (w : Walk) : Type 0 where
  none : least_from None (faults_of form size None w) ≡ None
  tracks : map track w.done ≡ wanted

some_done : (size : ℕ) (done : List RawTrack) → 0 < length done → text_faults size None done ≡ []
some_done size [] some = absurd (omega arith)
some_done size (d ∷ ds) some = refl

no_faults : (form : Form) (channel : List Track) (size : ℕ) (xs : List RawTrack) → IsChannel channel → AreRead form 1 xs channel → tracks_faults form [] xs ≡ [] → least_from None
    (faults_of form size None (walk_end xs)) ≡ None
no_faults form channel size xs is are none =
    let count : length xs ≡ length channel = read_len form 1 xs channel are in
    let last = some_done size xs (omega (arith, count, is.some)) in
    rw (none, last) refl

given : {X : Type 0} (track : RawTrack → X) (form : Form) (wanted : List X) (size : ℕ) (tags : List Tag) → bad_of tags ≡ None → IsGood track form wanted size (walk_tags form nothing_met tags)
    → tracks_or_fault track (fault_of form size tags) (walk_tags form nothing_met tags).done ≡ Ok wanted
given track form wanted size tags bad good = rw (bad, good.none) (ap Ok good.tracks)

pub live_text_gives : (channel : List Track) → IsChannel channel → All IsNarrowTrack channel → (r : Result (List Track) ℕ) → IsLadder (live_text channel) r → r ≡ Ok channel
live_text_gives channel is narrow r read =
    let size = length (live_text channel) in
    let good = leads_channel Ladder (IsGood ladder_track Ladder channel size) channel is narrow
    (λ xs are none. record { none = no_faults Ladder channel size xs is are none; tracks = ladder_map 1 xs channel are }) in
    one_ladder (live_text channel) r (Ok channel) read (good.0, good.1, sym (given ladder_track Ladder channel size good.0 good.2 good.3))

pub live_text_pushes : (channel : List Track) → IsChannel channel → All IsNarrowTrack channel → (r : Result (List SmilTrack) ℕ) → IsLiveManifest (live_text channel) r → r ≡ Ok
    (untimed_tracks 1 channel)
live_text_pushes channel is narrow r read =
    let size = length (live_text channel) in
    let wanted = untimed_tracks 1 channel in
    let good = leads_channel Pushed (IsGood smil_track Pushed wanted size) channel is narrow
    (λ xs are none. record { none = no_faults Pushed channel size xs is are none; tracks = pushed_map 1 xs channel are }) in
    one_live_manifest (live_text channel) r (Ok wanted) read (good.0, good.1, sym (given smil_track Pushed wanted size good.0 good.2 good.3))
