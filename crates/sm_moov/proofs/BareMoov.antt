-- A bare moov, read again.
use Rattle.std.proofs.Common.{◌≡◌, ◌≤◌, ◌<◌, ◌+◌, ◌*◌, ◌^◌, ℕ, Bool, true, false, cond, eqb, ◌||◌, List, [], ◌∷◌, ◌++◌, length, map, Option, Some, None, refl, sym, ap, ◌∙◌, append_assoc, append-nil, arith, lit<}
use Rattle.std.specs.Prelude.{codes, nat_eq}
use Rattle.std.specs.List.{list_any, All, AllByRecursion}
use Rattle.std.specs.Option.{option_map, option_and_then}
use Rattle.std.proofs.lemmas.Bool.{ne_eqb}
use Rattle.std.proofs.lemmas.List.{length-append}
use Rattle.std.proofs.Math.Nat.{mul-suc}
use Rattle.std.proofs.lemmas.List.Elements.{All-head, All-tail}
use Rattle.sm_model.specs.declared.run.Defaults.{Defaults}
use Rattle.sm_model.specs.declared.heads.TrackHead.{TrackHead}
use Rattle.sm_model.specs.declared.track.Track.{Track}
use Rattle.sm_model.specs.Channels.{IsTrack, IsNarrowTrack}
use Rattle.sm_model.specs.Boxes.{Box, boxes, box_of, IsOneBox}
use Rattle.sm_model.specs.Found.{bodies}
use Rattle.sm_model.specs.Moov as moov
use Rattle.sm_model.specs.Moov.{gather, joined, single, no_defaults, defaults_for, with_defaults, repeats, settled, traks_of, trexes_of, trexes_in}
use Rattle.sm_model.specs.MoovText.{zeros, numbered, mvhd, tkhd, mdia, bare_trak, bare_traks, bare_trex, bare_trexes, bare_mvex, moov_body, bare_moov, head, heads}
use Rattle.sm_model.proofs.BoxLemmas.{boxes-nil}
use Rattle.sm_model.proofs.WrittenBoxes.{IsText, made, one_box, boxes-end, box_is, box_text_len, one_whole}
use Rattle.sm_moov.proofs.BareTrak.{IsTimed, zeros-len, trak_text, trak_read, trex_body, trex_text, trex_read}

-- ---- boxes that are numbered

numbered_len : (f : ℕ → Track → List ℕ) (n : ℕ) → ((id : ℕ) (t : Track) → length (f id t) ≡ n) → (id : ℕ) (ts : List Track) → length (numbered f id ts) ≡ n * length ts
unfolding numbered
numbered_len f n each id [] = omega arith
numbered_len f n each id (t ∷ ts) = omega (arith, each id t, numbered_len f n each (id + 1) ts, length-append (f id t) (numbered f (id + 1) ts), mul-suc n (length ts))

-- the boxes of the tracks, and then those of the rest
numbered_boxes : (f : ℕ → Track → List ℕ) (g : ℕ → Track → Box)
    → ((id : ℕ) (t : Track) (rest : List ℕ) → boxes (f id t ++ rest) ≡ option_map (λ xs. g id t ∷ xs) (boxes rest))
    → (id : ℕ) (ts : List Track) (rest : List ℕ) (ys : List Box) → boxes rest ≡ Some ys
    → boxes (numbered f id ts ++ rest) ≡ Some (numbered (λ i t. g i t ∷ []) id ts ++ ys)
unfolding numbered
numbered_boxes f g each id [] rest ys e = e
numbered_boxes f g each id (t ∷ ts) rest ys e =
    ap boxes (append_assoc (f id t) (numbered f (id + 1) ts) rest) ∙ each id t (numbered f (id + 1) ts ++ rest)
    ∙ ap (option_map (λ (xs : List Box). g id t ∷ xs)) (numbered_boxes f g each (id + 1) ts rest ys e)

-- what the bodies of the tracks' boxes say
numbered_gather : {A : Type 0} (F : List ℕ → Option (List A)) (name : List ℕ) (g : ℕ → Track → Box) (h : ℕ → Track → A)
    → ((id : ℕ) (t : Track) (xs : List Box) → bodies name (g id t ∷ xs) ≡ (g id t).body ∷ bodies name xs)
    → ((id : ℕ) (t : Track) → id < 2 ^ 32 → IsTimed t → F (g id t).body ≡ Some (h id t ∷ []))
    → (id : ℕ) (ts : List Track) (ys : List Box) → id + length ts < 2 ^ 32 → AllByRecursion IsTimed ts → gather F (bodies name ys) ≡ Some []
    → gather F (bodies name (numbered (λ i t. g i t ∷ []) id ts ++ ys)) ≡ Some (numbered (λ i t. h i t ∷ []) id ts)
unfolding numbered gather
numbered_gather F name g h kind said id [] ys lt all none = none
numbered_gather F name g h kind said id (t ∷ ts) ys lt all none =
    let rest : List Box = numbered (λ i t. g i t ∷ []) (id + 1) ts ++ ys in
    let later = numbered_gather F name g h kind said (id + 1) ts ys (omega (arith, lt)) all.1 none in
    ap (gather F) (kind id t rest) ∙ ap (λ o. joined o (gather F (bodies name rest))) (said id t (omega (arith, lt)) all.0)
    ∙ ap (joined (Some (h id t ∷ []))) later

-- boxes of another type say nothing
numbered_other : (name : List ℕ) (g : ℕ → Track → Box) → ((id : ℕ) (t : Track) (xs : List Box) → bodies name (g id t ∷ xs) ≡ bodies name xs)
    → (id : ℕ) (ts : List Track) (ys : List Box) → bodies name (numbered (λ i t. g i t ∷ []) id ts ++ ys) ≡ bodies name ys
unfolding numbered
numbered_other name g other id [] ys = refl
numbered_other name g other id (t ∷ ts) ys = other id t _ ∙ numbered_other name g other (id + 1) ts ys

-- ---- the mvex

abbrev trex_box : ℕ → Track → Box
trex_box id t = made 32 (codes "trex") (trex_body id)

abbrev zero_trex : ℕ → Track → ℕ × Defaults
zero_trex id t = (id, no_defaults)

trex-len : (id : ℕ) → length (bare_trex id) ≡ 32
unfolding bare_trex
trex-len id = box_text_len 32 (codes "trex") (trex_body id) (trex_text id)

trexes_boxes : (ts : List Track) → boxes (bare_trexes ts) ≡ Some (numbered (λ i t. trex_box i t ∷ []) 1 ts ++ [])
unfolding bare_trex
trexes_boxes ts =
    ap boxes (sym (append-nil (bare_trexes ts)))
    ∙ numbered_boxes (λ id t. bare_trex id) trex_box (λ id t rest. one_box 32 (codes "trex") (trex_body id) rest (trex_text id)) 1 ts [] [] boxes-nil

trex_kind : (id : ℕ) (t : Track) (xs : List Box) → bodies (codes "trex") (trex_box id t ∷ xs) ≡ trex_body id ∷ bodies (codes "trex") xs
unfolding bodies
trex_kind id t xs = refl

no_bodies : {A : Type 0} (F : List ℕ → Option (List A)) (name : List ℕ) → gather F (bodies name []) ≡ Some []
unfolding gather bodies
no_bodies F name = refl

mvex_read : (ts : List Track) → 1 + length ts < 2 ^ 32 → AllByRecursion IsTimed ts → moov.mvex (bare_trexes ts) ≡ Some (numbered (λ i t. zero_trex i t ∷ []) 1 ts)
unfolding moov.mvex
mvex_read ts lt all =
    ap (option_and_then trexes_in) (trexes_boxes ts)
    ∙ numbered_gather (λ b. single (moov.trex b)) (codes "trex") trex_box zero_trex trex_kind (λ id t fits h. ap single (trex_read id fits)) 1 ts [] lt all
    (no_bodies (λ b. single (moov.trex b)) (codes "trex"))

mvex_text : (ts : List Track) → length ts ≤ 64 → IsText (8 + 32 * length ts) (codes "mvex") (bare_trexes ts)
mvex_text ts few = record {
  size_is = omega (arith, numbered_len (λ id t. bare_trex id) 32 (λ id t. trex-len id) 1 ts);
  fits = omega (arith, few);
  kind_is = refl;
}

-- ---- the moov

abbrev trak_box : ℕ → Track → Box
trak_box id t = made 188 (codes "trak") (tkhd id ++ mdia t)

abbrev mvhd_box : Box
mvhd_box = made 108 (codes "mvhd") (zeros 100)

abbrev mvex_box : List Track → Box
mvex_box ts = made (8 + 32 * length ts) (codes "mvex") (bare_trexes ts)

mvhd_text : IsText 108 (codes "mvhd") (zeros 100)
mvhd_text = record { size_is = omega (arith, zeros-len 100); fits = lit< tt; kind_is = refl }

abbrev children : List Track → List Box
children ts = mvhd_box ∷ (numbered (λ i t. trak_box i t ∷ []) 1 ts ++ mvex_box ts ∷ [])

children_are : (ts : List Track) → length ts ≤ 64 → boxes (moov_body ts) ≡ Some (children ts)
unfolding moov_body mvhd bare_mvex bare_trak
children_are ts few =
    one_box 108 (codes "mvhd") (zeros 100) (bare_traks ts ++ bare_mvex ts) mvhd_text
    ∙ ap (option_map (λ (xs : List Box). mvhd_box ∷ xs))
    (numbered_boxes bare_trak trak_box (λ id t rest. one_box 188 (codes "trak") (tkhd id ++ mdia t) rest (trak_text id t)) 1 ts (bare_mvex ts) (mvex_box ts ∷ [])
    (boxes-end (8 + 32 * length ts) (codes "mvex") (bare_trexes ts) (mvex_text ts few)))

trak_kind : (id : ℕ) (t : Track) (xs : List Box) → bodies (codes "trak") (trak_box id t ∷ xs) ≡ (tkhd id ++ mdia t) ∷ bodies (codes "trak") xs
unfolding bodies
trak_kind id t xs = refl

trak_no_mvex : (id : ℕ) (t : Track) (xs : List Box) → bodies (codes "mvex") (trak_box id t ∷ xs) ≡ bodies (codes "mvex") xs
unfolding bodies
trak_no_mvex id t xs = refl

mvhd_no_trak : (xs : List Box) → bodies (codes "trak") (mvhd_box ∷ xs) ≡ bodies (codes "trak") xs
unfolding bodies
mvhd_no_trak xs = refl

mvhd_no_mvex : (xs : List Box) → bodies (codes "mvex") (mvhd_box ∷ xs) ≡ bodies (codes "mvex") xs
unfolding bodies
mvhd_no_mvex xs = refl

mvex_no_trak : (ts : List Track) → gather (λ b. single (moov.trak b)) (bodies (codes "trak") (mvex_box ts ∷ [])) ≡ Some []
unfolding gather bodies
mvex_no_trak ts = refl

traks_read : (ts : List Track) → 1 + length ts < 2 ^ 32 → AllByRecursion IsTimed ts → traks_of (children ts) ≡ Some (heads ts)
traks_read ts lt all =
    ap (gather (λ b. single (moov.trak b))) (mvhd_no_trak (numbered (λ i t. trak_box i t ∷ []) 1 ts ++ mvex_box ts ∷ []))
    ∙ numbered_gather (λ b. single (moov.trak b)) (codes "trak") trak_box head trak_kind (λ id t fits h. ap single (trak_read id t fits h)) 1 ts (mvex_box ts ∷ []) lt all
    (mvex_no_trak ts)

one_mvex : (ts : List Track) → bodies (codes "mvex") (mvex_box ts ∷ []) ≡ bare_trexes ts ∷ []
unfolding bodies
one_mvex ts = refl

gather-one : {A : Type 0} (F : List ℕ → Option (List A)) (b : List ℕ) (xs : List A) → F b ≡ Some xs → gather F (b ∷ []) ≡ Some xs
unfolding gather
gather-one F b xs e = ap (λ o. joined o (Some [])) e ∙ ap Some (append-nil xs)

trexes_read : (ts : List Track) → 1 + length ts < 2 ^ 32 → AllByRecursion IsTimed ts → trexes_of (children ts) ≡ Some (numbered (λ i t. zero_trex i t ∷ []) 1 ts)
trexes_read ts lt all =
    ap (gather moov.mvex)
    (mvhd_no_mvex (numbered (λ i t. trak_box i t ∷ []) 1 ts ++ mvex_box ts ∷ [])
    ∙ numbered_other (codes "mvex") trak_box trak_no_mvex 1 ts (mvex_box ts ∷ []) ∙ one_mvex ts)
    ∙ gather-one moov.mvex (bare_trexes ts) _ (mvex_read ts lt all)

-- ---- defaults and track_IDs

zero_for : (k : ℕ) (ts : List Track) (id : ℕ) → defaults_for (numbered (λ i t. zero_trex i t ∷ []) k ts) id ≡ no_defaults
unfolding numbered defaults_for
zero_for k [] id = refl
zero_for k (t ∷ ts) id = ap (cond (eqb k id) no_defaults) (zero_for (k + 1) ts id) ∙ same (eqb k id)
  where
    same : (b : Bool) → cond b no_defaults no_defaults ≡ no_defaults
    same true = refl
    same false = refl

keeps : (ds : List (ℕ × Defaults)) → ((id : ℕ) → defaults_for ds id ≡ no_defaults) → (k : ℕ) (ts : List Track)
    → map (with_defaults ds) (numbered (λ i t. head i t ∷ []) k ts) ≡ numbered (λ i t. head i t ∷ []) k ts
unfolding numbered
keeps ds zero k [] = refl
keeps ds zero k (t ∷ ts) =
    ap (λ (d : Defaults). record (head k t) { defaults = d } ∷ map (with_defaults ds) (numbered (λ i t. head i t ∷ []) (k + 1) ts)) (zero k)
    ∙ ap (λ (hs : List TrackHead). head k t ∷ hs) (keeps ds zero (k + 1) ts)

later_ids : (n k : ℕ) (ts : List Track) → n < k → list_any (nat_eq n) (map (λ h. h.id) (numbered (λ i t. head i t ∷ []) k ts)) ≡ false
unfolding numbered
later_ids n k [] lt = refl
later_ids n k (t ∷ ts) lt =
    ap (λ (b : Bool). b || list_any (nat_eq n) (map (λ h. h.id) (numbered (λ i t. head i t ∷ []) (k + 1) ts))) (ne_eqb n k (λ e. omega (arith, e, lt)))
    ∙ later_ids n (k + 1) ts (omega (arith, lt))

apart : (k : ℕ) (ts : List Track) → repeats (map (λ h. h.id) (numbered (λ i t. head i t ∷ []) k ts)) ≡ false
unfolding numbered repeats
apart k [] = refl
apart k (t ∷ ts) =
    ap (λ (b : Bool). b || repeats (map (λ h. h.id) (numbered (λ i t. head i t ∷ []) (k + 1) ts))) (later_ids k (k + 1) ts (omega arith))
    ∙ apart (k + 1) ts

settled_heads : (ts : List Track) → settled (numbered (λ i t. zero_trex i t ∷ []) 1 ts) (heads ts) ≡ Some (heads ts)
unfolding settled
settled_heads ts =
    let zero : List (ℕ × Defaults) = numbered (λ i t. zero_trex i t ∷ []) 1 ts in
    ap (λ (b : Bool). cond b None (Some (map (with_defaults zero) (heads ts)))) (apart 1 ts)
    ∙ ap Some (keeps zero (zero_for 1 ts) 1 ts)

pub body_read : (ts : List Track) → length ts ≤ 64 → AllByRecursion IsTimed ts → moov.moov (moov_body ts) ≡ Some (heads ts)
unfolding moov.moov moov.moov_of
body_read ts few all =
    let lt : 1 + length ts < 2 ^ 32 = omega (arith, few) in
    ap (option_and_then moov.moov_of) (children_are ts few)
    ∙ ap (option_and_then (λ (t : List (ℕ × Defaults)). option_and_then (settled t) (traks_of (children ts)))) (trexes_read ts lt all)
    ∙ ap (option_and_then (settled (numbered (λ i t. zero_trex i t ∷ []) 1 ts))) (traks_read ts lt all)
    ∙ settled_heads ts

trak-len : (id : ℕ) (t : Track) → length (bare_trak id t) ≡ 188
unfolding bare_trak
trak-len id t = box_text_len 188 (codes "trak") (tkhd id ++ mdia t) (trak_text id t)

mvhd-len : length mvhd ≡ 108
unfolding mvhd
mvhd-len = box_text_len 108 (codes "mvhd") (zeros 100) mvhd_text

mvex-len : (ts : List Track) → length ts ≤ 64 → length (bare_mvex ts) ≡ 8 + 32 * length ts
unfolding bare_mvex
mvex-len ts few = box_text_len (8 + 32 * length ts) (codes "mvex") (bare_trexes ts) (mvex_text ts few)

moov_text : (ts : List Track) → length ts ≤ 64 → IsText (124 + 220 * length ts) (codes "moov") (moov_body ts)
unfolding moov_body
moov_text ts few = record {
  size_is = omega (arith, mvhd-len, mvex-len ts few, numbered_len bare_trak 188 trak-len 1 ts, length-append mvhd (bare_traks ts ++ bare_mvex ts), length-append (bare_traks ts) (bare_mvex ts));
  fits = omega (arith, few);
  kind_is = refl;
}

pub bare_whole : (ts : List Track) → length ts ≤ 64 → IsOneBox (bare_moov ts)
unfolding bare_moov
bare_whole ts few = one_whole (124 + 220 * length ts) (codes "moov") (moov_body ts) (moov_text ts few)

pub bare_body : (ts : List Track) → length ts ≤ 64 → (box_of (bare_moov ts)).body ≡ moov_body ts
unfolding bare_moov
bare_body ts few = ap (λ (x : Box). x.body) (box_is (124 + 220 * length ts) (codes "moov") (moov_body ts) (moov_text ts few))

pub bare-len : (ts : List Track) → length ts ≤ 64 → length (bare_moov ts) ≡ 124 + 220 * length ts
unfolding bare_moov
bare-len ts few = box_text_len (124 + 220 * length ts) (codes "moov") (moov_body ts) (moov_text ts few)

-- the tracks of a valid channel, whose numbers have 32 bits
pub timed : (ts : List Track) → All IsTrack ts → All IsNarrowTrack ts → AllByRecursion IsTimed ts
timed [] tracks narrow = tt
timed (t ∷ ts) tracks narrow = (
  record { some = (All-head IsTrack t ts tracks).ticks; fits = (All-head IsNarrowTrack t ts narrow).timescale },
  timed ts (All-tail IsTrack t ts tracks) (All-tail IsNarrowTrack t ts narrow),
)
