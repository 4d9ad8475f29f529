-- The qualities of a stream are read as its tracks.
use Rattle.std.proofs.Common.{◌≡◌, ◌≢◌, ◌<◌, ◌≤◌, ◌+◌, ◌^◌, ℕ, suc, Bool, true, false, cond, eqb, leb, List, [], ◌∷◌, ◌++◌, length, filter, Option, Some, None, refl, sym, ap, subst, ◌∙◌, append_assoc, arith}
use Rattle.std.specs.Prelude.{codes, decimal}
use Rattle.std.specs.List.{AllByRecursion, list_any}
use Rattle.std.proofs.lemmas.Bool.{ne_eqb, lt-leb}
use Rattle.std.proofs.lemmas.List.{append-nil}
use Rattle.hex.specs.Hex.{encode_upper}
use Rattle.sm_model.specs.declared.tag.Attribute.{Attribute}
use Rattle.sm_model.specs.declared.track.Params.{Params}
use Rattle.sm_model.specs.declared.track.Track.{Track}
use Rattle.sm_model.specs.Channels.{IsTrack, IsNarrowTrack, IsNarrowOption}
use Rattle.sm_model.specs.Digits.{number_of}
use Rattle.sm_model.specs.Same.{is_same}
use Rattle.sm_tag.specs.TagText.{attributes_then, closing, left_at}
use Rattle.sm_tag.proofs.WrittenTags.{Starts-again}
use Rattle.sm_smil.proofs.WrittenValues.{decimal_again, fourcc_plain, private_plain}
use Rattle.sm_catalog.proofs.Counting.{DifferInBitrate}
use Rattle.sm_manin.specs.declared.listing.Level.{Level}
use Rattle.sm_manin.specs.declared.raw.RawLevel.{RawLevel}
use Rattle.sm_manin.specs.declared.raw.RawStream.{RawStream}
use Rattle.sm_manin.specs.ManifestWalk.{Walk, root_of, level_of}
use Rattle.sm_manin.specs.Values.{narrow_in}
use Rattle.sm_manin.specs.ManifestFaults.{at_if, are_equal_bitrates, is_level_at_fault, level_faults}
use Rattle.sm_manin.specs.Listings.{level_in, levels_from, with_level}
use Rattle.sm_manin.proofs.NoFaults.{left_none, right_none}
use Rattle.sm_manout.specs.ManifestText.{attribute, number_attribute, text_attribute, number_attributes, level_line, level_lines}
use Rattle.sm_manout.specs.ReadAgain.{levels_again}
use Rattle.sm_manout.proofs.ReadValues.{wide_plain}
use Rattle.sm_manout.proofs.ReadLines.{Leads, Begins, start_line, attr, attribute_text, option_attr, option_text, text_attr, text_text}
use Rattle.sm_manout.proofs.ReadLines.{attributes_join, Spells, spells_join, spells_then, Written, and_then, one_written, option_written, text_written, all_written}

-- ---- the walk inside a stream

abbrev pub root_attributes : List Attribute
root_attributes =
    attr (codes "MajorVersion") (codes "2")
    ∷ attr (codes "MinorVersion") (codes "2")
    ∷ attr (codes "TimeScale") (codes "10000000")
    ∷ attr (codes "Duration") (codes "0")
    ∷ attr (codes "IsLive") (codes "TRUE")
    ∷ attr (codes "LookAheadFragmentCount") (codes "2")
    ∷ attr (codes "DVRWindowLength") (codes "0")
    ∷ []

abbrev pub in_root : List (List ℕ)
in_root = codes "SmoothStreamingMedia" ∷ []

abbrev pub in_stream : List (List ℕ)
in_stream = codes "SmoothStreamingMedia" ∷ codes "StreamIndex" ∷ []

-- between two streams, and inside one; the outermost element began at that place
abbrev pub walk_out : ℕ → List RawStream → Walk
walk_out at done = record { path = in_root; root = Some (root_of root_attributes at); other = None; protection = None; done = done; current = None }

abbrev pub walk_in : ℕ → List RawStream → RawStream → Walk
walk_in at done s = record { path = in_stream; root = Some (root_of root_attributes at); other = None; protection = None; done = done; current = Some s }

-- ---- one quality

abbrev number_attrs : Params → List Attribute
number_attrs p =
    option_attr (codes "MaxWidth") p.width ++ (option_attr (codes "MaxHeight") p.height ++
    (option_attr (codes "AudioTag") p.tag ++ (option_attr (codes "Channels") p.channels ++ (option_attr (codes "SamplingRate") p.rate ++ (option_attr (codes "BitsPerSample") p.bits ++ option_attr (codes "PacketSize") p.packet)))))

numbers_text : (p : Params) → Spells (number_attributes p) (number_attrs p)
unfolding number_attributes
numbers_text p =
    spells_join _ _ (option_attr (codes "MaxWidth") p.width) _ (option_text (codes "MaxWidth") p.width)
    (spells_join _ _ (option_attr (codes "MaxHeight") p.height) _ (option_text (codes "MaxHeight") p.height)
    (spells_join _ _ (option_attr (codes "AudioTag") p.tag) _ (option_text (codes "AudioTag") p.tag)
    (spells_join _ _ (option_attr (codes "Channels") p.channels) _ (option_text (codes "Channels") p.channels)
    (spells_join _ _ (option_attr (codes "SamplingRate") p.rate) _ (option_text (codes "SamplingRate") p.rate)
    (spells_join _ _ (option_attr (codes "BitsPerSample") p.bits) (option_attr (codes "PacketSize") p.packet) (option_text (codes "BitsPerSample") p.bits) (option_text (codes "PacketSize") p.packet))))))

abbrev level_attrs : ℕ → Track → List Attribute
level_attrs index t =
    attr (codes "Index") (decimal index) ∷ attr (codes "Bitrate") (decimal t.bitrate) ∷ (text_attr (codes "FourCC") t.fourcc ++ attr (codes "CodecPrivateData") (encode_upper t.private) ∷ number_attrs t.numbers)

level_text : (index : ℕ) (t : Track) (x : List ℕ) → level_line index t ++ x ≡ 60 ∷ codes "QualityLevel" ++ attributes_then (level_attrs index t) (closing true (10 ∷ x))
unfolding level_line
level_text index t x =
    let y = closing true (10 ∷ x) in
    let numbers : (number_attributes t.numbers ++ codes "/>\n") ++ x ≡ attributes_then (number_attrs t.numbers) y =
    spells_then (number_attributes t.numbers) (codes "/>\n") x y (number_attrs t.numbers) (numbers_text t.numbers) refl in
    let private : (attribute (codes "CodecPrivateData") (encode_upper t.private) ++ (number_attributes t.numbers ++ codes "/>\n")) ++ x ≡ attributes_then
    (attr (codes "CodecPrivateData") (encode_upper t.private) ∷ number_attrs t.numbers) y =
    spells_then (attribute (codes "CodecPrivateData") (encode_upper t.private)) _ x _ (attr (codes "CodecPrivateData") (encode_upper t.private) ∷ []) (attribute_text (codes "CodecPrivateData") (encode_upper t.private)) numbers in
    let fourcc = spells_then (text_attribute (codes "FourCC") t.fourcc) _ x _ (text_attr (codes "FourCC") t.fourcc) (text_text (codes "FourCC") t.fourcc) private
    ∙ sym (attributes_join (text_attr (codes "FourCC") t.fourcc) (attr (codes "CodecPrivateData") (encode_upper t.private) ∷ number_attrs t.numbers) y) in
    let bitrate = spells_then (number_attribute (codes "Bitrate") t.bitrate) _ x _ (attr (codes "Bitrate") (decimal t.bitrate) ∷ []) (attribute_text (codes "Bitrate") (decimal t.bitrate)) fourcc in
    let all = spells_then (number_attribute (codes "Index") index) _ x _ (attr (codes "Index") (decimal index) ∷ []) (attribute_text (codes "Index") (decimal index)) bitrate in
    ap (λ (l : List ℕ). 60 ∷ codes "QualityLevel" ++ l) all

wide : (o : Option ℕ) → IsNarrowOption o → (n : ℕ) → o ≡ Some n → n < 2 ^ 64
wide None narrow n e = absurd cc
wide (Some m) narrow n e = let same : m ≡ n = cc in omega (arith, narrow m refl, same)

abbrev names_1 : List (List ℕ)
names_1 = codes "Index" ∷ codes "Bitrate" ∷ codes "FourCC" ∷ codes "CodecPrivateData" ∷ []

abbrev names_2 : List (List ℕ)
names_2 = names_1 ++ codes "MaxWidth" ∷ codes "MaxHeight" ∷ codes "AudioTag" ∷ []

abbrev names_3 : List (List ℕ)
names_3 = names_2 ++ codes "Channels" ∷ codes "SamplingRate" ∷ codes "BitsPerSample" ∷ codes "PacketSize" ∷ []

numbers_written : (p : Params) → IsNarrowOption p.width → IsNarrowOption p.height → IsNarrowOption p.tag → IsNarrowOption p.channels → IsNarrowOption p.rate → IsNarrowOption p.bits → IsNarrowOption p.packet
    → Written names_1 names_3 (number_attrs p)
numbers_written p w h t c r b k =
    and_then (option_written names_1 (codes "MaxWidth") p.width (refl, refl) (wide p.width w) refl)
    (and_then (option_written (names_1 ++ codes "MaxWidth" ∷ []) (codes "MaxHeight") p.height (refl, refl) (wide p.height h) refl)
    (and_then (option_written (names_1 ++ codes "MaxWidth" ∷ codes "MaxHeight" ∷ []) (codes "AudioTag") p.tag (refl, refl) (wide p.tag t) refl)
    (and_then (option_written names_2 (codes "Channels") p.channels (refl, refl) (wide p.channels c) refl)
    (and_then (option_written (names_2 ++ codes "Channels" ∷ []) (codes "SamplingRate") p.rate (refl, refl) (wide p.rate r) refl)
    (and_then (option_written (names_2 ++ codes "Channels" ∷ codes "SamplingRate" ∷ []) (codes "BitsPerSample") p.bits (refl, refl) (wide p.bits b) refl)
    (option_written (names_2 ++ codes "Channels" ∷ codes "SamplingRate" ∷ codes "BitsPerSample" ∷ []) (codes "PacketSize") p.packet (refl, refl) (wide p.packet k) refl))))))

level_written : (index : ℕ) (t : Track) → index < 2 ^ 32 → IsTrack t → IsNarrowTrack t → Written [] names_3 (level_attrs index t)
level_written index t low is narrow =
    let n = narrow.numbers in
    and_then (one_written [] (codes "Index") (decimal index) (refl, refl) (wide_plain index (omega (arith, low))) refl)
    (and_then (one_written (codes "Index" ∷ []) (codes "Bitrate") (decimal t.bitrate) (refl, refl) (wide_plain t.bitrate (omega (arith, narrow.bitrate))) refl)
    (and_then (text_written (codes "Index" ∷ codes "Bitrate" ∷ []) (codes "FourCC") t.fourcc (refl, refl) (fourcc_plain t.fourcc is.fourcc) refl)
    (and_then (one_written (codes "Index" ∷ codes "Bitrate" ∷ codes "FourCC" ∷ []) (codes "CodecPrivateData") (encode_upper t.private) (refl, refl) (private_plain t.private) refl)
    (numbers_written t.numbers n.width n.height n.tag n.channels n.rate n.bits n.packet))))

level_begins : (index : ℕ) (t : Track) (x : List ℕ) → Begins (level_line index t ++ x)
unfolding level_line
level_begins index t x = (_, refl)

level_read : (Good : Walk → Type 0) (size end : ℕ) (x : List ℕ) (at : ℕ) (done : List RawStream) (s : RawStream) (index : ℕ) (t : Track) → Begins x → index < 2 ^ 32 → IsTrack t → IsNarrowTrack t
    → ((here : ℕ) → Leads Good (left_at size end x in_stream) (walk_in at done (record s { levels = s.levels ++ level_of (level_attrs index t) here ∷ [] })))
    → Leads Good (left_at size end (level_line index t ++ x) in_stream) (walk_in at done s)
level_read Good size end x at done s index t begins low is narrow go =
    let P : List ℕ → Type 0 = λ l. Leads Good (left_at size end l in_stream) (walk_in at done s) in
    subst P (sym (level_text index t x)) (start_line Good size end x in_stream (codes "QualityLevel") (level_attrs index t) true (walk_in at done s) begins (refl, refl) (refl, refl)
    (Starts-again (codes "QualityLevel") (level_attrs index t) true (10 ∷ x) (refl, refl) (all_written names_3 (level_attrs index t) (level_written index t low is narrow))) go)

-- ---- all of a stream

pub record IsLevel (index : ℕ) (t : Track) (l : RawLevel) : Type 0 where
  pub index_is : l.index ≡ Some (decimal index)
  pub bitrate_is : l.bitrate ≡ Some (decimal t.bitrate)

abbrev pub AreLevels : ℕ → List Track → List RawLevel → Type 0
AreLevels index [] [] = Unit {0}
AreLevels index (t ∷ ts) (l ∷ ls) = IsLevel index t l × AreLevels (index + 1) ts ls
AreLevels index [] (l ∷ ls) = ⊥
AreLevels index (t ∷ ts) [] = ⊥

levels_push : (index place : ℕ) (ts : List Track) (ls : List RawLevel) (t : Track) (l : RawLevel) → place ≡ index + length ts → AreLevels index ts ls → IsLevel place t l → AreLevels index (ts ++ t ∷ []) (ls ++ l ∷ [])
levels_push index place [] [] t l at are is =
    let here : place ≡ index = omega (arith, at) in (subst (λ (n : ℕ). IsLevel n t l) here is, tt)
levels_push index place (u ∷ us) (k ∷ ks) t l at are is = (are.0, levels_push (index + 1) place us ks t l (omega (arith, at)) are.1 is)
levels_push index place [] (k ∷ ks) t l at are is = absurd are
levels_push index place (u ∷ us) [] t l at are is = absurd are

pub levels_len : (index : ℕ) (ts : List Track) (ls : List RawLevel) → AreLevels index ts ls → length ls ≡ length ts
levels_len index [] [] are = refl
levels_len index (t ∷ ts) (l ∷ ls) are = ap suc (levels_len (index + 1) ts ls are.1)
levels_len index [] (l ∷ ls) are = absurd are
levels_len index (t ∷ ts) [] are = absurd are

-- a track whose numbers fit
pub record IsFit (t : Track) : Type 0 where
  pub track : IsTrack t
  pub narrow : IsNarrowTrack t

bitrate_again : (index : ℕ) (t : Track) (l : RawLevel) → IsLevel index t l → IsFit t → narrow_in l.bitrate ≡ Some t.bitrate
bitrate_again index t l is fit = ap narrow_in is.bitrate_is ∙ decimal_again t.bitrate fit.narrow.bitrate

no_equal : (index : ℕ) (ts : List Track) (ls : List RawLevel) (t : Track) → AreLevels index ts ls → AllByRecursion IsFit ts → AllByRecursion (λ (u : Track). u.bitrate ≢ t.bitrate) ts
    → list_any (λ e. are_equal_bitrates (narrow_in e.bitrate) (Some t.bitrate)) ls ≡ false
no_equal index [] [] t are fit apart = refl
no_equal index (u ∷ us) (l ∷ ls) t are fit apart =
    let first = bitrate_again index u l are.0 fit.0 in
    let other : eqb u.bitrate t.bitrate ≡ false = ne_eqb u.bitrate t.bitrate apart.0 in
    let rest = no_equal (index + 1) us ls t are.1 fit.1 apart.1 in
    rw (first, other) rest
no_equal index [] (l ∷ ls) t are fit apart = absurd are
no_equal index (u ∷ us) [] t are fit apart = absurd are

level_clean : (place : ℕ) (ts : List Track) (ls : List RawLevel) (t : Track) (l : RawLevel) → place < 64 → length ts ≡ place → AreLevels 0 ts ls → AllByRecursion IsFit ts → IsLevel place t l → IsFit t
    → AllByRecursion (λ (u : Track). u.bitrate ≢ t.bitrate) ts → is_level_at_fault ls l ≡ false
unfolding is_level_at_fault
level_clean place ts ls t l low at are fits is fit apart =
    let few : leb 64 (length ls) ≡ false = lt-leb 64 (length ls) (omega (arith, levels_len 0 ts ls are, at, low)) in
    let bitrate = bitrate_again place t l is fit in
    let index : number_of (decimal place) ≡ Some place = decimal_again place (omega (arith, low)) in
    let none = no_equal 0 ts ls t are fits apart in
    rw (few, bitrate, is.index_is, index, none) refl

faults_push : (earlier ls : List RawLevel) (l : RawLevel) → level_faults earlier ls ≡ [] → is_level_at_fault (earlier ++ ls) l ≡ false → level_faults earlier (ls ++ l ∷ []) ≡ []
faults_push earlier [] l none clean =
    let here : is_level_at_fault earlier l ≡ false = subst (λ (ks : List RawLevel). is_level_at_fault ks l ≡ false) (append-nil earlier) clean in rw here refl
faults_push earlier (k ∷ ks) l none clean =
    let first = left_none (at_if (is_level_at_fault earlier k) k.at) (level_faults (earlier ++ k ∷ []) ks) none in
    let rest = faults_push (earlier ++ k ∷ []) ks l (right_none (at_if (is_level_at_fault earlier k) k.at) (level_faults (earlier ++ k ∷ []) ks) none)
    (subst (λ (hs : List RawLevel). is_level_at_fault hs l ≡ false) (sym (append_assoc earlier (k ∷ []) ks)) clean) in
    ap (λ (xs : List ℕ). xs ++ level_faults (earlier ++ k ∷ []) (ks ++ l ∷ [])) first ∙ rest

abbrev pub lines_of : ℕ → List Track → List ℕ
lines_of index [] = []
lines_of index (t ∷ ts) = level_line index t ++ lines_of (index + 1) ts

pub lines_are : (index : ℕ) (name : List ℕ) (ts : List Track) → level_lines index name ts ≡ lines_of index (filter (λ t. is_same t.name name) ts)
lines_are index name [] = refl
lines_are index name (t ∷ ts) = by_test (is_same t.name name) (lines_are (index + 1) name ts) (lines_are index name ts)
  where
    by_test : (b : Bool) → level_lines (index + 1) name ts ≡ lines_of (index + 1) (filter (λ t. is_same t.name name) ts) → level_lines index name ts ≡ lines_of index (filter (λ t. is_same t.name name) ts)
        → cond b (level_line index t ++ level_lines (index + 1) name ts) (level_lines index name ts) ≡ lines_of index (cond b (t ∷ filter (λ t. is_same t.name name) ts) (filter (λ t. is_same t.name name) ts))
    by_test true next same = ap (λ (l : List ℕ). level_line index t ++ l) next
    by_test false next same = same

abbrev Apart : List Track → List Track → Type 0
Apart before rest = AllByRecursion (λ (t : Track). AllByRecursion (λ (u : Track). u.bitrate ≢ t.bitrate) before) rest

all_push : {X : Type 0} (P : X → Type 0) (xs : List X) (x : X) → AllByRecursion P xs → P x → AllByRecursion P (xs ++ x ∷ [])
all_push P [] x all is = (is, tt)
all_push P (y ∷ ys) x all is = (all.0, all_push P ys x all.1 is)

apart_push : (before : List Track) (t : Track) (rest : List Track) → Apart before rest → AllByRecursion (λ (u : Track). t.bitrate ≢ u.bitrate) rest → Apart (before ++ t ∷ []) rest
apart_push before t [] apart differ = tt
apart_push before t (u ∷ us) apart differ = (all_push (λ (v : Track). v.bitrate ≢ u.bitrate) before t apart.0 differ.0, apart_push before t us apart.1 differ.1)

pub nothing_apart : (rest : List Track) → Apart [] rest
nothing_apart [] = tt
nothing_apart (u ∷ us) = (tt, nothing_apart us)

pub lines_begin : (index : ℕ) (ts : List Track) (x : List ℕ) → Begins x → Begins (lines_of index ts ++ x)
lines_begin index [] x begins = begins
lines_begin index (t ∷ ts) x begins = rw (append_assoc (level_line index t) (lines_of (index + 1) ts) x) (level_begins index t (lines_of (index + 1) ts ++ x))

pub levels_read : (Good : Walk → Type 0) (size end : ℕ) (x : List ℕ) (at : ℕ) (done : List RawStream) (s : RawStream) (before rest : List Track) (ls : List RawLevel) (index : ℕ) → Begins x → index ≡ length before
    → index + length rest ≤ 64 → AllByRecursion IsFit before → AllByRecursion IsFit rest
    → Apart before rest → DifferInBitrate rest → AreLevels 0 before ls → level_faults [] ls ≡ []
    → ((all : List RawLevel) → AreLevels 0 (before ++ rest) all → level_faults [] all ≡ [] → Leads Good (left_at size end x in_stream) (walk_in at done (record s { levels = all })))
    → Leads Good (left_at size end (lines_of index rest ++ x) in_stream) (walk_in at done (record s { levels = ls }))
levels_read Good size end x at done s before [] ls index begins place few fits fit apart differ are none go =
    go ls (subst (λ (ts : List Track). AreLevels 0 ts ls) (sym (append-nil before)) are) none
levels_read Good size end x at done s before (t ∷ ts) ls index begins place few fits fit apart differ are none go =
    let P : List ℕ → Type 0 = λ l. Leads Good (left_at size end l in_stream) (walk_in at done (record s { levels = ls })) in
    subst P (sym (append_assoc (level_line index t) (lines_of (index + 1) ts) x))
    (level_read Good size end (lines_of (index + 1) ts ++ x) at done (record s { levels = ls }) index t (lines_begin (index + 1) ts x begins) (omega (arith, few)) fit.0.track fit.0.narrow (λ here.
    let l : RawLevel = level_of (level_attrs index t) here in
    let is : IsLevel index t l = record { index_is = refl; bitrate_is = refl } in
    levels_read Good size end x at done s (before ++ t ∷ []) ts (ls ++ l ∷ []) (index + 1) begins (next before t place) (omega (arith, few)) (all_push IsFit before t fits fit.0) fit.1 (apart_push before t ts apart.1 differ.0) differ.1
    (levels_push 0 index before ls t l (omega (arith, place)) are is)
    (faults_push [] ls l none (level_clean index before ls t l (omega (arith, few)) (sym place) are fits is fit.0 apart.0))
    (λ all have clean. go all (subst (λ (us : List Track). AreLevels 0 us all) (append_assoc before (t ∷ []) ts) have) clean)))
  where
    next : (xs : List Track) (y : Track) → index ≡ length xs → index + 1 ≡ length (xs ++ y ∷ [])
    next xs y e = omega (arith, e, pushed xs y)
      where
        pushed : (zs : List Track) (y : Track) → length (zs ++ y ∷ []) ≡ length zs + 1
        pushed [] y = refl
        pushed (z ∷ zs) y = omega (arith, pushed zs y)

-- ---- the values

level_again : (index : ℕ) (t : Track) (l : RawLevel) → index < 2 ^ 32 → IsLevel index t l → IsFit t → level_in index l ≡ record { index = index; bitrate = t.bitrate }
level_again index t l low is fit =
    let bitrate = bitrate_again index t l is fit in
    let number : number_of (decimal index) ≡ Some index = decimal_again index low in
    rw (bitrate, is.index_is, number) refl

pub levels_value : (sorted : List Level) (index : ℕ) (ts : List Track) (ls : List RawLevel) → index + length ts < 2 ^ 32 → AllByRecursion IsFit ts
    → AreLevels index ts ls → levels_from sorted index ls ≡ levels_again sorted index ts
levels_value sorted index [] [] low fit are = refl
levels_value sorted index (t ∷ ts) (l ∷ ls) low fit are =
    let first = level_again index t l (omega (arith, low)) are.0 fit.0 in
    ap (λ (k : Level). levels_from (with_level k sorted) (index + 1) ls) first ∙ levels_value (with_level (record { index = index; bitrate = t.bitrate }) sorted) (index + 1) ts ls (omega (arith, low)) fit.1 are.1
levels_value sorted index [] (l ∷ ls) low fit are = absurd are
levels_value sorted index (t ∷ ts) [] low fit are = absurd are
