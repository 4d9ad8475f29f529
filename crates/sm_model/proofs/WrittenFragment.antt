-- A canonical moof and its mdat are read again as what was written.
use Rattle.std.proofs.Common.{◌≡◌, ◌≤◌, ◌<◌, ◌+◌, ◌-◌, ◌^◌, ℕ, true, false, not, ltb, leb, List, [], ◌∷◌, ◌++◌, length, map, Option, Some, None, Result, Ok, Err, refl, sym, ap, ◌∙◌, arith}
use Rattle.std.specs.Prelude.{codes}
use Rattle.std.specs.Option.{option_map, option_map_or}
use Rattle.std.specs.List.{flat_map}
use Rattle.std.specs.Int.{w32, cast_signed}
use Rattle.std.proofs.lemmas.Bool.{le-leb, le-ltb}
use Rattle.std.proofs.lemmas.List.{length-append}
use Rattle.std.proofs.lemmas.List.Concat.{length-flat_map}
use Rattle.std.proofs.lemmas.List.Sums.{sum_by-cons}
use Rattle.sm_model.specs.declared.sample.Sample.{Sample}
use Rattle.sm_model.specs.declared.fragment.Fragment.{Fragment}
use Rattle.sm_model.specs.declared.cause.Cause.{Cause}
use Rattle.sm_model.specs.declared.cause.Cause.TheVariants.{BadBox, ManyTracks}
use Rattle.sm_model.specs.declared.run.Run.{Run}
use Rattle.sm_model.specs.declared.run.Defaults.{Defaults}
use Rattle.sm_model.specs.Numbers.{number32}
use Rattle.sm_model.specs.FragText.{moof_len}
use Rattle.sm_model.specs.FragText as text
use Rattle.sm_model.specs.Boxes.{Box, boxes, box_of, IsOneBox}
use Rattle.sm_model.specs.Fragments.{sample_bytes}
use Rattle.sm_model.specs.Found.{found, bodies, is_kind}
use Rattle.sm_model.specs.Frag.{finish, first_cause, Traf, traf_of, bad_lines, other_lines, moof_lines, last_lines, run_of, judged_moof, run_in, moof_run, rest_of, mdat_rest, sizes, raw_of, last, frag}
use Rattle.sm_model.specs.Steps.{and_then}
use Rattle.sm_model.specs.Written.{IsWritten, row_of, run_again, raw_again}
use Rattle.sm_model.proofs.OrderLemmas.{frag_in_two}
use Rattle.sm_model.proofs.PassLemmas.{NoneHolds, none_holds, none_holds-append}
use Rattle.sm_model.proofs.WrittenBoxes.{len32, IsText, made, one_box, boxes-end, box_is, box_text_len, one_whole}
use Rattle.sm_model.proofs.WrittenRows.{cut_again}
use Rattle.sm_model.proofs.WrittenFields.{small_signed}
use Rattle.sm_model.proofs.WrittenTraf.{traf_body, traf_size, traf_text, ahead_small, one, traf_again, bad_pass, other_pass, run_read, traf_boxes_read}

-- ---- the texts of its boxes

abbrev seq_body : ℕ → List ℕ
seq_body seq = number32 0 ++ number32 seq

seq_text : (seq : ℕ) → IsText 16 (codes "mfhd") (seq_body seq)
seq_text seq = record { size_is = omega (arith, len32 0, len32 seq, length-append (number32 0) (number32 seq)); fits = omega arith; kind_is = refl }

-- the samples start behind the moof and the head of the mdat
abbrev pub start_of : Fragment → List (ℕ × ℕ) → ℕ
start_of f ahead = moof_len f.samples ahead + 8

abbrev pub moof_body : ℕ → ℕ → Fragment → List (ℕ × ℕ) → List ℕ
moof_body seq id f ahead = text.mfhd seq ++ text.traf_box id (start_of f ahead) f ahead

pub moof_text : (seq id : ℕ) (f : Fragment) (ahead : List (ℕ × ℕ)) → length f.samples ≤ 65536 → length ahead ≤ 255 → IsText (moof_len f.samples ahead) (codes "moof") (moof_body seq id f ahead)
moof_text seq id f ahead le few =
    let t = box_text_len (traf_size f ahead) (codes "traf") (traf_body id (start_of f ahead) f ahead) (traf_text id (start_of f ahead) f ahead le few) in
    let h = box_text_len 16 (codes "mfhd") (seq_body seq) (seq_text seq) in
    record { size_is = omega (arith, t, h, length-append (text.mfhd seq) (text.traf_box id (start_of f ahead) f ahead)); fits = omega (arith, ahead_small ahead few); kind_is = refl }

abbrev pub sample_text : List Sample → List ℕ
sample_text ss = flat_map (λ s. s.bytes) ss

pub mdat_text : (ss : List Sample) → sample_bytes ss ≤ 67108864 → IsText (8 + sample_bytes ss) (codes "mdat") (sample_text ss)
mdat_text ss le = record { size_is = omega (arith, length-flat_map (λ s. s.bytes) ss); fits = omega (arith, le); kind_is = refl }

-- each of the two texts is one whole box
pub moof_whole : (seq id : ℕ) (f : Fragment) (ahead : List (ℕ × ℕ)) → IsWritten id f ahead → IsOneBox (text.moof seq id f ahead)
moof_whole seq id f ahead w = one_whole (moof_len f.samples ahead) (codes "moof") (moof_body seq id f ahead) (moof_text seq id f ahead w.valid.few w.few)

pub mdat_whole : (id : ℕ) (f : Fragment) (ahead : List (ℕ × ℕ)) → IsWritten id f ahead → IsOneBox (text.mdat f.samples)
mdat_whole id f ahead w = one_whole (8 + sample_bytes f.samples) (codes "mdat") (sample_text f.samples) (mdat_text f.samples w.valid.short)

pub moof_is : (seq id : ℕ) (f : Fragment) (ahead : List (ℕ × ℕ)) → IsWritten id f ahead → box_of (text.moof seq id f ahead) ≡ made (moof_len f.samples ahead) (codes "moof") (moof_body seq id f ahead)
moof_is seq id f ahead w = box_is (moof_len f.samples ahead) (codes "moof") (moof_body seq id f ahead) (moof_text seq id f ahead w.valid.few w.few)

pub mdat_is : (id : ℕ) (f : Fragment) (ahead : List (ℕ × ℕ)) → IsWritten id f ahead → box_of (text.mdat f.samples) ≡ made (8 + sample_bytes f.samples) (codes "mdat") (sample_text f.samples)
mdat_is id f ahead w = box_is (8 + sample_bytes f.samples) (codes "mdat") (sample_text f.samples) (mdat_text f.samples w.valid.short)

-- a canonical text is a moof and an mdat
pub text_boxes : (seq id : ℕ) (f : Fragment) (ahead : List (ℕ × ℕ)) → IsWritten id f ahead
    → boxes (text.frag_text seq id f ahead) ≡ Some (made (moof_len f.samples ahead) (codes "moof") (moof_body seq id f ahead) ∷ made (8 + sample_bytes f.samples) (codes "mdat") (sample_text f.samples) ∷ [])
text_boxes seq id f ahead w =
    one_box (moof_len f.samples ahead) (codes "moof") (moof_body seq id f ahead) (text.mdat f.samples) (moof_text seq id f ahead w.valid.few w.few)
    ∙ ap (option_map (λ (xs : List Box). made (moof_len f.samples ahead) (codes "moof") (moof_body seq id f ahead) ∷ xs))
    (boxes-end (8 + sample_bytes f.samples) (codes "mdat") (sample_text f.samples) (mdat_text f.samples w.valid.short))

pub two_boxes : (seq id : ℕ) (f : Fragment) (ahead : List (ℕ × ℕ)) → IsWritten id f ahead
    → boxes (text.frag_text seq id f ahead) ≡ Some (box_of (text.moof seq id f ahead) ∷ box_of (text.mdat f.samples) ∷ [])
two_boxes seq id f ahead w =
    text_boxes seq id f ahead w
    ∙ ap (λ (x : Box). Some (x ∷ made (8 + sample_bytes f.samples) (codes "mdat") (sample_text f.samples) ∷ [])) (sym (moof_is seq id f ahead w))
    ∙ ap (λ (x : Box). Some (box_of (text.moof seq id f ahead) ∷ x ∷ [])) (sym (mdat_is id f ahead w))

-- ---- the moof

moof_boxes : (seq id : ℕ) (f : Fragment) (ahead : List (ℕ × ℕ)) → length f.samples ≤ 65536 → length ahead ≤ 255
    → boxes (moof_body seq id f ahead) ≡ Some (made 16 (codes "mfhd") (seq_body seq) ∷ made (traf_size f ahead) (codes "traf") (traf_body id (start_of f ahead) f ahead) ∷ [])
moof_boxes seq id f ahead le few =
    one_box 16 (codes "mfhd") (seq_body seq) (text.traf_box id (start_of f ahead) f ahead) (seq_text seq)
    ∙ ap (option_map (λ (xs : List Box). made 16 (codes "mfhd") (seq_body seq) ∷ xs))
    (boxes-end (traf_size f ahead) (codes "traf") (traf_body id (start_of f ahead) f ahead) (traf_text id (start_of f ahead) f ahead le few))

one_traf : (seq n : ℕ) (b : List ℕ) → found (bodies (codes "traf") (made 16 (codes "mfhd") (seq_body seq) ∷ made n (codes "traf") b ∷ [])) ≡ one b
unfolding bodies
one_traf seq n b = refl

small : (f : Fragment) (ahead : List (ℕ × ℕ)) → length f.samples ≤ 65536 → length ahead ≤ 255 → start_of f ahead < 2 ^ 31
small f ahead le few = omega (arith, le, ahead_small ahead few)

judged_again : (d : Defaults) (id : ℕ) (f : Fragment) (ahead : List (ℕ × ℕ)) (b : List ℕ) → IsWritten id f ahead
    → judged_moof d (one b) (traf_again id (start_of f ahead) f ahead) ≡ Ok (run_again id (start_of f ahead) f ahead)
unfolding judged_moof
judged_again d id f ahead b w =
    let st : ℕ = start_of f ahead in
    let t = traf_again id st f ahead in
    let s = small f ahead w.valid.few w.few in
    let all : NoneHolds (moof_lines (one b) t) = (refl, none_holds-append (bad_lines t) ((false, ManyTracks) ∷ other_lines t) (bad_pass id st f ahead) (refl, other_pass id st f ahead w.valid)) in
    ap (λ (o : Option Cause). option_map_or (λ c. Err c) o (Ok (run_of d t))) (none_holds (moof_lines (one b) t) all)
    ∙ ap (λ (x : Run). Ok x) (run_read d id st f ahead w (omega (arith, s)))

map_or_map : (d : Defaults) (b : List ℕ) (o : Option (List Box))
    → option_map_or (λ ys. judged_moof d (one b) (traf_of ys)) o (Err BadBox) ≡ option_map_or (λ t. judged_moof d (one b) t) (option_map (λ ys. traf_of ys) o) (Err BadBox)
map_or_map d b None = refl
map_or_map d b (Some ys) = refl

run_in_again : (d : Defaults) (id : ℕ) (f : Fragment) (ahead : List (ℕ × ℕ)) → IsWritten id f ahead
    → run_in d (one (traf_body id (start_of f ahead) f ahead)) ≡ Ok (run_again id (start_of f ahead) f ahead)
unfolding run_in
run_in_again d id f ahead w =
    let b : List ℕ = traf_body id (start_of f ahead) f ahead in
    map_or_map d b (boxes b)
    ∙ ap (λ (o : Option Traf). option_map_or (λ t. judged_moof d (one b) t) o (Err BadBox)) (traf_boxes_read id (start_of f ahead) f ahead w)
    ∙ judged_again d id f ahead b w

-- a canonical moof is read as what was written, whatever the defaults
pub moof_read : (d : Defaults) (seq id : ℕ) (f : Fragment) (ahead : List (ℕ × ℕ)) → IsWritten id f ahead
    → moof_run d (text.moof seq id f ahead) ≡ Ok (run_again id (start_of f ahead) f ahead)
unfolding moof_run
moof_read d seq id f ahead w =
    let b = ap (λ (x : Box). boxes x.body) (moof_is seq id f ahead w) ∙ moof_boxes seq id f ahead w.valid.few w.few in
    ap (λ (o : Option (List Box)). option_map_or (λ xs. run_in d (found (bodies (codes "traf") xs))) o (Err BadBox)) b
    ∙ ap (run_in d) (one_traf seq (traf_size f ahead) (traf_body id (start_of f ahead) f ahead))
    ∙ run_in_again d id f ahead w

-- ---- the mdat

sizes_again : (ss : List Sample) → sizes (map row_of ss) ≡ sample_bytes ss
sizes_again [] = refl
sizes_again (s ∷ ss) = sum_by-cons (λ r. r.size) (row_of s) (map row_of ss) ∙ ap (λ (n : ℕ). length s.bytes + n) (sizes_again ss) ∙ sym (sum_by-cons (λ x. length x.bytes) s ss)

at_start : (n : ℕ) (body : List ℕ) → n < 2 ^ 31 → rest_of n (Some (cast_signed w32 n)) body ≡ body
unfolding rest_of
at_start n body lt =
    let l : leb n n ≡ true = le-leb n n (omega arith) in
    let z : n - n ≡ 0 = omega arith in
    rw (small_signed n lt, l, z) refl

rest_again : (seq id : ℕ) (f : Fragment) (ahead : List (ℕ × ℕ)) → IsWritten id f ahead
    → mdat_rest (text.moof seq id f ahead) (text.mdat f.samples) (run_again id (start_of f ahead) f ahead) ≡ sample_text f.samples
rest_again seq id f ahead w =
    let l : length (text.moof seq id f ahead) ≡ moof_len f.samples ahead = box_text_len (moof_len f.samples ahead) (codes "moof") (moof_body seq id f ahead) (moof_text seq id f ahead w.valid.few w.few) in
    ap (λ (x : Box). rest_of (length (text.moof seq id f ahead) + x.head) (Some (cast_signed w32 (start_of f ahead))) x.body) (mdat_is id f ahead w)
    ∙ ap (λ (n : ℕ). rest_of (n + 8) (Some (cast_signed w32 (start_of f ahead))) (sample_text f.samples)) l
    ∙ at_start (start_of f ahead) (sample_text f.samples) (small f ahead w.valid.few w.few)

last_again : (seq id : ℕ) (f : Fragment) (ahead : List (ℕ × ℕ)) → IsWritten id f ahead
    → last (text.moof seq id f ahead) (text.mdat f.samples) (run_again id (start_of f ahead) f ahead) ≡ Ok (raw_again id f ahead)
unfolding finish raw_of
last_again seq id f ahead w =
    let m = text.moof seq id f ahead in
    let md = text.mdat f.samples in
    let run = run_again id (start_of f ahead) f ahead in
    let r = rest_again seq id f ahead w in
    let k : is_kind (codes "mdat") (box_of md) ≡ true = ap (is_kind (codes "mdat")) (mdat_is id f ahead w) in
    let room : ltb (length (sample_text f.samples)) (sizes (map row_of f.samples)) ≡ false = le-ltb _ _ (omega (arith, length-flat_map (λ s. s.bytes) f.samples, sizes_again f.samples)) in
    let none : first_cause (last_lines m md run) ≡ None
    = none_holds (last_lines m md run) (ap not k, (ap (λ (x : List ℕ). ltb (length x) (sizes (map row_of f.samples))) r ∙ room, tt)) in
    ap (λ (o : Option Cause). option_map_or (λ c. Err c) o (Ok (raw_of (mdat_rest m md run) run))) none
    ∙ ap (λ (x : List ℕ). Ok (raw_of x run)) r
    ∙ ap (λ (ss : List Sample). Ok (record { id = id; time = f.time; duration = f.duration; signed = f.signed; samples = ss; ahead = ahead })) (cut_again f.samples)

-- what was written is read again, whatever the defaults
pub frag_read : (d : Defaults) (seq id : ℕ) (f : Fragment) (ahead : List (ℕ × ℕ)) → IsWritten id f ahead
    → frag d (text.moof seq id f ahead) (text.mdat f.samples) ≡ Ok (raw_again id f ahead)
frag_read d seq id f ahead w =
    frag_in_two d (text.moof seq id f ahead) (text.mdat f.samples)
    ∙ ap (λ (r : Result Run Cause). and_then r (last (text.moof seq id f ahead) (text.mdat f.samples))) (moof_read d seq id f ahead w)
    ∙ last_again seq id f ahead w
