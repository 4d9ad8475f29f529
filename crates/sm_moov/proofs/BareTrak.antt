-- The boxes of a bare moov, read again: a trak and a trex.
use Rattle.std.proofs.Common.{◌≡◌, ◌<◌, ◌+◌, ◌^◌, ℕ, true, false, eqb, leb, List, [], ◌∷◌, ◌++◌, length, drop, Some, refl, ap, ◌∙◌, arith, lit<}
use Rattle.std.specs.Prelude.{codes}
use Rattle.std.specs.Option.{option_map, option_and_then}
use Rattle.std.proofs.lemmas.Bool.{le-leb, ne_eqb}
use Rattle.std.proofs.lemmas.List.{length-append, length-replicate, drop_at}
use Rattle.sm_model.specs.declared.track.Kind.{Kind}
use Rattle.sm_model.specs.declared.track.Kind.TheVariants.{Video, Audio, Text}
use Rattle.sm_model.specs.declared.track.Track.{Track}
use Rattle.sm_model.specs.Numbers.{number32, number32_at}
use Rattle.sm_model.specs.FragText.{box}
use Rattle.sm_model.specs.Boxes.{Box, boxes, box_of, starts_whole}
use Rattle.sm_model.specs.Found.{found, bodies}
use Rattle.sm_model.specs.Fields.{version}
use Rattle.sm_model.specs.Moov as moov
use Rattle.sm_model.specs.Moov.{some_body, first_child, number_behind_times, first_entry, no_defaults}
use Rattle.sm_model.specs.MoovText.{zeros, tkhd, mdhd, sample_type, entry, stsd, stbl, minf, mdia, head}
use Rattle.sm_model.proofs.BoxTexts.{drop_past}
use Rattle.sm_model.proofs.WrittenBoxes.{IsText, made, len32, front32, past32, one_box, boxes-end, box_is, box_text_len, one_whole}

pub zeros-len : (n : ℕ) → length (zeros n) ≡ n
unfolding zeros
zeros-len n = length-replicate n 0

-- ---- bodies

abbrev times : ℕ → ℕ → List ℕ → List ℕ
times word n rest = number32 word ++ (zeros 8 ++ (number32 n ++ rest))

times-len : (word n : ℕ) (rest : List ℕ) → length (times word n rest) ≡ 16 + length rest
times-len word n rest =
    omega (arith, len32 word, len32 n, zeros-len 8, length-append (number32 word) (zeros 8 ++ (number32 n ++ rest)), length-append (zeros 8) (number32 n ++ rest), length-append (number32 n) rest)

-- a field behind times of 32 bits is read
times_read : (word n : ℕ) (rest : List ℕ) → version (times word n rest) ≡ 0 → n < 2 ^ 32 → number_behind_times (times word n rest) ≡ Some n
unfolding number_behind_times
times_read word n rest v fits =
    let l : leb 16 (length (times word n rest)) ≡ true = le-leb 16 (length (times word n rest)) (omega (arith, times-len word n rest)) in
    let at : number32_at 12 (times word n rest) ≡ n
    = past32 (number32 word) (zeros 8 ++ (number32 n ++ rest)) 12 8 (omega (arith, len32 word))
    ∙ past32 (zeros 8) (number32 n ++ rest) 8 0 (omega (arith, zeros-len 8)) ∙ front32 n rest fits in
    rw (v, l, at) refl

version_seven : (rest : List ℕ) → version (number32 7 ++ rest) ≡ 0
unfolding version number32
version_seven rest = refl

version_zero : (rest : List ℕ) → version (number32 0 ++ rest) ≡ 0
unfolding version number32
version_zero rest = refl

-- the first child of a body whose boxes are known
child_at : (name b : List ℕ) (xs : List Box) → boxes b ≡ Some xs → first_child name b ≡ some_body (found (bodies name xs))
unfolding first_child
child_at name b xs e = ap (option_and_then (λ ys. some_body (found (bodies name ys)))) e

-- two boxes and no more
two_boxes : (n m : ℕ) (kind other body rest : List ℕ) → IsText n kind body → IsText m other rest
    → boxes (box n kind body ++ box m other rest) ≡ Some (made n kind body ∷ made m other rest ∷ [])
two_boxes n m kind other body rest s t =
    one_box n kind body (box m other rest) s ∙ ap (option_map (λ (xs : List Box). made n kind body ∷ xs)) (boxes-end m other rest t)

-- ---- the entry of an stsd

abbrev entry_body : List ℕ
entry_body = zeros 6 ++ (0 ∷ 1 ∷ [])

type-len : (kind : Kind) → length (sample_type kind) ≡ 4
type-len Video = refl
type-len Audio = refl
type-len Text = refl

entry_text : (kind : Kind) → IsText 16 (sample_type kind) entry_body
entry_text kind = record {
  size_is = omega (arith, zeros-len 6, length-append (zeros 6) (0 ∷ 1 ∷ []));
  fits = lit< tt;
  kind_is = type-len kind;
}

entry_is : (kind : Kind) → box_of (entry kind) ≡ made 16 (sample_type kind) entry_body
unfolding entry
entry_is kind = box_is 16 (sample_type kind) entry_body (entry_text kind)

entry_whole : (kind : Kind) → starts_whole (entry kind) ≡ true
unfolding entry
entry_whole kind = (one_whole 16 (sample_type kind) entry_body (entry_text kind)).whole

entry-len : (kind : Kind) → length (entry kind) ≡ 16
unfolding entry
entry-len kind = box_text_len 16 (sample_type kind) entry_body (entry_text kind)

abbrev stsd_body : Kind → List ℕ
stsd_body kind = number32 0 ++ (number32 1 ++ entry kind)

stsd_body-len : (kind : Kind) → length (stsd_body kind) ≡ 24
stsd_body-len kind =
    omega (arith, len32 0, len32 1, entry-len kind, length-append (number32 0) (number32 1 ++ entry kind), length-append (number32 1) (entry kind))

entry_read : (kind : Kind) → first_entry (stsd_body kind) ≡ Some (sample_type kind)
unfolding first_entry
entry_read kind =
    let l : leb 16 (length (stsd_body kind)) ≡ true = le-leb 16 (length (stsd_body kind)) (omega (arith, stsd_body-len kind)) in
    let v : version (stsd_body kind) ≡ 0 = version_zero (number32 1 ++ entry kind) in
    let n : number32_at 4 (stsd_body kind) ≡ 1
    = past32 (number32 0) (number32 1 ++ entry kind) 4 0 (omega (arith, len32 0)) ∙ front32 1 (entry kind) (lit< tt) in
    let d : drop 8 (stsd_body kind) ≡ entry kind
    = drop_past (number32 0) (number32 1 ++ entry kind) 8 4 (omega (arith, len32 0)) ∙ drop_at (number32 1) (entry kind) 4 (len32 1) in
    rw (l, v, n, d, entry_whole kind, entry_is kind) refl

-- ---- an mdia

stsd_text : (kind : Kind) → IsText 32 (codes "stsd") (stsd_body kind)
stsd_text kind = record { size_is = omega (arith, stsd_body-len kind); fits = lit< tt; kind_is = refl }

stsd-len : (kind : Kind) → length (stsd kind) ≡ 32
unfolding stsd
stsd-len kind = box_text_len 32 (codes "stsd") (stsd_body kind) (stsd_text kind)

stbl_text : (kind : Kind) → IsText 40 (codes "stbl") (stsd kind)
stbl_text kind = record { size_is = omega (arith, stsd-len kind); fits = lit< tt; kind_is = refl }

stbl-len : (kind : Kind) → length (stbl kind) ≡ 40
unfolding stbl
stbl-len kind = box_text_len 40 (codes "stbl") (stsd kind) (stbl_text kind)

minf_text : (kind : Kind) → IsText 48 (codes "minf") (stbl kind)
minf_text kind = record { size_is = omega (arith, stbl-len kind); fits = lit< tt; kind_is = refl }

minf-len : (kind : Kind) → length (minf kind) ≡ 48
unfolding minf
minf-len kind = box_text_len 48 (codes "minf") (stbl kind) (minf_text kind)

stsd_found : (kind : Kind) → first_child (codes "stsd") (stsd kind) ≡ Some (stsd_body kind)
unfolding stsd bodies
stsd_found kind = child_at (codes "stsd") (stsd kind) (made 32 (codes "stsd") (stsd_body kind) ∷ []) (boxes-end 32 (codes "stsd") (stsd_body kind) (stsd_text kind))

stbl_found : (kind : Kind) → first_child (codes "stbl") (stbl kind) ≡ Some (stsd kind)
unfolding stbl bodies
stbl_found kind = child_at (codes "stbl") (stbl kind) (made 40 (codes "stbl") (stsd kind) ∷ []) (boxes-end 40 (codes "stbl") (stsd kind) (stbl_text kind))

abbrev mdhd_body : ℕ → List ℕ
mdhd_body ticks = times 0 ticks (zeros 8)

mdhd_text : (ticks : ℕ) → IsText 32 (codes "mdhd") (mdhd_body ticks)
mdhd_text ticks = record { size_is = omega (arith, times-len 0 ticks (zeros 8), zeros-len 8); fits = lit< tt; kind_is = refl }

mdhd-len : (ticks : ℕ) → length (mdhd ticks) ≡ 32
unfolding mdhd
mdhd-len ticks = box_text_len 32 (codes "mdhd") (mdhd_body ticks) (mdhd_text ticks)

abbrev mdia_body : Track → List ℕ
mdia_body t = mdhd t.timescale ++ minf t.kind

mdia_boxes : (t : Track) → boxes (mdia_body t) ≡ Some (made 32 (codes "mdhd") (mdhd_body t.timescale) ∷ made 48 (codes "minf") (stbl t.kind) ∷ [])
unfolding mdhd minf
mdia_boxes t =
    two_boxes 32 48 (codes "mdhd") (codes "minf") (mdhd_body t.timescale) (stbl t.kind) (mdhd_text t.timescale) (minf_text t.kind)

mdhd_found : (t : Track) → first_child (codes "mdhd") (mdia_body t) ≡ Some (mdhd_body t.timescale)
unfolding bodies
mdhd_found t = child_at (codes "mdhd") (mdia_body t) _ (mdia_boxes t)

minf_found : (t : Track) → first_child (codes "minf") (mdia_body t) ≡ Some (stbl t.kind)
unfolding bodies
minf_found t = child_at (codes "minf") (mdia_body t) _ (mdia_boxes t)

-- a track whose timescale is one, of 32 bits
pub record IsTimed (t : Track) : Type 0 where
  pub some : 0 < t.timescale
  pub fits : t.timescale < 2 ^ 32

timescale_read : (t : Track) → IsTimed t → moov.timescale (mdia_body t) ≡ Some t.timescale
unfolding moov.timescale
timescale_read t h =
    let f : eqb t.timescale 0 ≡ false = ne_eqb t.timescale 0 (λ e. omega (arith, e, h.some)) in
    rw (mdhd_found t, times_read 0 t.timescale (zeros 8) (version_zero (zeros 8 ++ (number32 t.timescale ++ zeros 8))) h.fits, f) refl

type_read : (t : Track) → moov.entry_type (mdia_body t) ≡ Some (sample_type t.kind)
unfolding moov.entry_type
type_read t = rw (minf_found t, stbl_found t.kind, stsd_found t.kind) (entry_read t.kind)

-- ---- a trak

abbrev tkhd_body : ℕ → List ℕ
tkhd_body id = times 7 id (zeros 68)

tkhd_text : (id : ℕ) → IsText 92 (codes "tkhd") (tkhd_body id)
tkhd_text id = record { size_is = omega (arith, times-len 7 id (zeros 68), zeros-len 68); fits = lit< tt; kind_is = refl }

tkhd-len : (id : ℕ) → length (tkhd id) ≡ 92
unfolding tkhd
tkhd-len id = box_text_len 92 (codes "tkhd") (tkhd_body id) (tkhd_text id)

mdia_text : (t : Track) → IsText 88 (codes "mdia") (mdia_body t)
mdia_text t = record {
  size_is = omega (arith, mdhd-len t.timescale, minf-len t.kind, length-append (mdhd t.timescale) (minf t.kind));
  fits = lit< tt;
  kind_is = refl;
}

mdia-len : (t : Track) → length (mdia t) ≡ 88
unfolding mdia
mdia-len t = box_text_len 88 (codes "mdia") (mdia_body t) (mdia_text t)

trak_boxes : (id : ℕ) (t : Track) → boxes (tkhd id ++ mdia t) ≡ Some (made 92 (codes "tkhd") (tkhd_body id) ∷ made 88 (codes "mdia") (mdia_body t) ∷ [])
unfolding tkhd mdia
trak_boxes id t = two_boxes 92 88 (codes "tkhd") (codes "mdia") (tkhd_body id) (mdia_body t) (tkhd_text id) (mdia_text t)

tkhd_found : (id : ℕ) (t : Track) → first_child (codes "tkhd") (tkhd id ++ mdia t) ≡ Some (tkhd_body id)
unfolding bodies
tkhd_found id t = child_at (codes "tkhd") (tkhd id ++ mdia t) _ (trak_boxes id t)

mdia_found : (id : ℕ) (t : Track) → first_child (codes "mdia") (tkhd id ++ mdia t) ≡ Some (mdia_body t)
unfolding bodies
mdia_found id t = child_at (codes "mdia") (tkhd id ++ mdia t) _ (trak_boxes id t)

id_read : (id : ℕ) (t : Track) → id < 2 ^ 32 → moov.tkhd_id (tkhd id ++ mdia t) ≡ Some id
unfolding moov.tkhd_id
id_read id t fits = rw (tkhd_found id t) (times_read 7 id (zeros 68) (version_seven (zeros 8 ++ (number32 id ++ zeros 68))) fits)

pub trak_text : (id : ℕ) (t : Track) → IsText 188 (codes "trak") (tkhd id ++ mdia t)
trak_text id t = record { size_is = omega (arith, tkhd-len id, mdia-len t, length-append (tkhd id) (mdia t)); fits = lit< tt; kind_is = refl }

-- no sample type of ours is that of encrypted samples
clear : (id ticks : ℕ) (kind : Kind) → moov.head_of id ticks (sample_type kind) ≡ record { id = id; timescale = ticks; protected = false; defaults = no_defaults }
clear id ticks Video = refl
clear id ticks Audio = refl
clear id ticks Text = refl

pub trak_read : (id : ℕ) (t : Track) → id < 2 ^ 32 → IsTimed t → moov.trak (tkhd id ++ mdia t) ≡ Some (head id t)
unfolding moov.trak
trak_read id t fits h = rw (id_read id t fits, mdia_found id t, timescale_read t h, type_read t) (ap Some (clear id t.timescale t.kind))

-- ---- a trex

abbrev pub trex_body : ℕ → List ℕ
trex_body id = number32 0 ++ (number32 id ++ (number32 1 ++ zeros 12))

trex_body-len : (id : ℕ) → length (trex_body id) ≡ 24
trex_body-len id =
    omega (arith, len32 0, len32 id, len32 1, zeros-len 12, length-append (number32 0) (number32 id ++ (number32 1 ++ zeros 12)), length-append (number32 id) (number32 1 ++ zeros 12), length-append (number32 1) (zeros 12))

pub trex_text : (id : ℕ) → IsText 32 (codes "trex") (trex_body id)
trex_text id = record { size_is = omega (arith, trex_body-len id); fits = lit< tt; kind_is = refl }

zero_at : (id i : ℕ) (j : ℕ) → 12 + j ≡ i → number32_at i (trex_body id) ≡ number32_at j (zeros 12)
zero_at id i j e =
    past32 (number32 0) (number32 id ++ (number32 1 ++ zeros 12)) i (8 + j) (omega (arith, e, len32 0))
    ∙ past32 (number32 id) (number32 1 ++ zeros 12) (8 + j) (4 + j) (omega (arith, len32 id))
    ∙ past32 (number32 1) (zeros 12) (4 + j) j (omega (arith, len32 1))

zero_one : number32_at 0 (zeros 12) ≡ 0
unfolding number32_at zeros
zero_one = refl

zero_two : number32_at 4 (zeros 12) ≡ 0
unfolding number32_at zeros
zero_two = refl

zero_three : number32_at 8 (zeros 12) ≡ 0
unfolding number32_at zeros
zero_three = refl

pub trex_read : (id : ℕ) → id < 2 ^ 32 → moov.trex (trex_body id) ≡ Some (id, no_defaults)
unfolding moov.trex
trex_read id fits =
    let l : leb 24 (length (trex_body id)) ≡ true = le-leb 24 (length (trex_body id)) (omega (arith, trex_body-len id)) in
    let n : number32_at 4 (trex_body id) ≡ id
    = past32 (number32 0) (number32 id ++ (number32 1 ++ zeros 12)) 4 0 (omega (arith, len32 0)) ∙ front32 id (number32 1 ++ zeros 12) fits in
    rw (l, n, zero_at id 12 0 refl ∙ zero_one, zero_at id 16 4 refl ∙ zero_two, zero_at id 20 8 refl ∙ zero_three) refl
