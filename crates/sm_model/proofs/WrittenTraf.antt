-- A canonical traf is read again as what was written.
use Rattle.std.proofs.Common.{◌≡◌, ◌≤◌, ◌<◌, ◌+◌, ◌*◌, ◌^◌, ℕ, Bool, true, false, not, eqb, ltb, leb, ◌&&◌, List, [], ◌∷◌, ◌++◌, length, map, Option, Some, None, Ok, Err, refl, ap, ◌∙◌, arith}
use Rattle.std.specs.Prelude.{codes}
use Rattle.std.specs.Option.{option_map, option_map_or}
use Rattle.std.specs.List.{flat_map, All}
use Rattle.std.proofs.lemmas.Bool.{lt-leb, le-ltb, ne_eqb, and_right}
use Rattle.std.proofs.lemmas.List.{length-append, take_all}
use Rattle.sm_model.specs.declared.sample.Sample.{Sample}
use Rattle.sm_model.specs.declared.fragment.Fragment.{Fragment}
use Rattle.sm_model.specs.declared.cause.Cause.{Cause}
use Rattle.sm_model.specs.declared.cause.Cause.TheVariants.{BadBox}
use Rattle.sm_model.specs.declared.run.Run.{Run}
use Rattle.sm_model.specs.declared.run.Defaults.{Defaults}
use Rattle.sm_model.specs.Numbers.{number32, number64, number32_at}
use Rattle.sm_model.specs.FragText.{pair, ahead_len, tfxd_type, tfrf_type}
use Rattle.sm_model.specs.FragText as text
use Rattle.sm_model.specs.Boxes.{Box, boxes, box_of, IsOneBox}
use Rattle.sm_model.specs.Fragments.{IsValid, IsWide}
use Rattle.sm_model.specs.Found.{Found, bodies, user_bodies}
use Rattle.sm_model.specs.Fields.{tfrf_fits, tfxd_pair, rows, defaults_of}
use Rattle.sm_model.specs.Frag.{Traf, traf_of, bad_lines, other_lines, refusal, ahead_of, run_of, judged, traf}
use Rattle.sm_model.specs.Written.{IsWritten, row_of, run_again}
use Rattle.sm_model.proofs.BoxLemmas.{boxes-nil}
use Rattle.sm_model.proofs.PassLemmas.{NoneHolds, none_holds, none_holds-append}
use Rattle.sm_model.proofs.WrittenBoxes.{len32, len64, IsText, made, one_box, boxes-end, box_is, box_text_len, one_whole}
use Rattle.sm_model.proofs.WrittenFields.{ahead_body, pairs_text_len, pairs_again, ahead_fits, head_body, head_id, head_fits, head_base, time_body, time_fits, time_pair, run_body, run_count, run_body_len, is_signed, run_fits, run_start, run_rows}

-- ---- its boxes

head_text : (id : ℕ) → IsText 16 (codes "tfhd") (head_body id)
head_text id = record { size_is = omega (arith, len32 0, len32 id, length-append (number32 0) (number32 id)); fits = omega arith; kind_is = refl }

run_text : (st : ℕ) (signed : Bool) (ss : List Sample) → length ss ≤ 65536 → IsText (20 + 16 * length ss) (codes "trun") (run_body st signed ss)
run_text st signed ss le = record { size_is = omega (arith, run_body_len st signed ss); fits = omega arith; kind_is = refl }

pub time_text : (t d : ℕ) → IsText 44 (codes "uuid") (tfxd_type ++ time_body t d)
time_text t d = record {
  size_is = omega (arith, length-append (number32 0x01000000) (pair (t, d)), len32 0x01000000, length-append (number64 t) (number64 d), len64 t, len64 d);
  fits = omega arith;
  kind_is = refl;
}

pub ahead_text : (ps : List (ℕ × ℕ)) → length ps ≤ 255 → IsText (29 + 16 * length ps) (codes "uuid") (tfrf_type ++ ahead_body ps)
ahead_text ps le = record {
  size_is = omega (arith, length-append (number32 0x01000000) (length ps ∷ flat_map pair ps), len32 0x01000000, pairs_text_len ps);
  fits = omega arith;
  kind_is = refl;
}

abbrev ahead_boxes : List (ℕ × ℕ) → List Box
ahead_boxes [] = []
ahead_boxes (p ∷ ps) = made (29 + 16 * length (p ∷ ps)) (codes "uuid") (tfrf_type ++ ahead_body (p ∷ ps)) ∷ []

abbrev traf_boxes : ℕ → ℕ → Fragment → List (ℕ × ℕ) → List Box
traf_boxes id st f ahead =
    made 16 (codes "tfhd") (head_body id)
    ∷ made (20 + 16 * length f.samples) (codes "trun") (run_body st f.signed f.samples)
    ∷ made 44 (codes "uuid") (tfxd_type ++ time_body f.time f.duration)
    ∷ ahead_boxes ahead

abbrev pub traf_body : ℕ → ℕ → Fragment → List (ℕ × ℕ) → List ℕ
traf_body id st f ahead = text.tfhd id ++ (text.trun st f.signed f.samples ++ (text.tfxd_box f.time f.duration ++ text.tfrf ahead))

abbrev pub traf_size : Fragment → List (ℕ × ℕ) → ℕ
traf_size f ahead = 88 + 16 * length f.samples + ahead_len ahead

boxes_ahead : (ahead : List (ℕ × ℕ)) → length ahead ≤ 255 → boxes (text.tfrf ahead) ≡ Some (ahead_boxes ahead)
boxes_ahead [] le = boxes-nil
boxes_ahead (p ∷ ps) le = boxes-end (29 + 16 * length (p ∷ ps)) (codes "uuid") (tfrf_type ++ ahead_body (p ∷ ps)) (ahead_text (p ∷ ps) le)

boxes_traf : (id st : ℕ) (f : Fragment) (ahead : List (ℕ × ℕ)) → length f.samples ≤ 65536 → length ahead ≤ 255 → boxes (traf_body id st f ahead) ≡ Some (traf_boxes id st f ahead)
boxes_traf id st f ahead le few =
    let s3 = one_box 44 (codes "uuid") (tfxd_type ++ time_body f.time f.duration) (text.tfrf ahead) (time_text f.time f.duration) in
    let s2 = one_box (20 + 16 * length f.samples) (codes "trun") (run_body st f.signed f.samples) (text.tfxd_box f.time f.duration ++ text.tfrf ahead) (run_text st f.signed f.samples le) in
    let s1 = one_box 16 (codes "tfhd") (head_body id) (text.trun st f.signed f.samples ++ (text.tfxd_box f.time f.duration ++ text.tfrf ahead)) (head_text id) in
    let e3 : boxes (text.tfxd_box f.time f.duration ++ text.tfrf ahead) ≡ Some (made 44 (codes "uuid") (tfxd_type ++ time_body f.time f.duration) ∷ ahead_boxes ahead)
    = s3 ∙ ap (option_map (λ (xs : List Box). made 44 (codes "uuid") (tfxd_type ++ time_body f.time f.duration) ∷ xs)) (boxes_ahead ahead few) in
    let e2 = s2 ∙ ap (option_map (λ (xs : List Box). made (20 + 16 * length f.samples) (codes "trun") (run_body st f.signed f.samples) ∷ xs)) e3 in
    s1 ∙ ap (option_map (λ (xs : List Box). made 16 (codes "tfhd") (head_body id) ∷ xs)) e2

ahead_text_len : (ahead : List (ℕ × ℕ)) → length ahead ≤ 255 → length (text.tfrf ahead) ≡ ahead_len ahead
ahead_text_len [] le = refl
ahead_text_len (p ∷ ps) le = box_text_len (29 + 16 * length (p ∷ ps)) (codes "uuid") (tfrf_type ++ ahead_body (p ∷ ps)) (ahead_text (p ∷ ps) le)

traf_body_len : (id st : ℕ) (f : Fragment) (ahead : List (ℕ × ℕ)) → length f.samples ≤ 65536 → length ahead ≤ 255
    → length (traf_body id st f ahead) ≡ 80 + 16 * length f.samples + ahead_len ahead
traf_body_len id st f ahead le few =
    let h = box_text_len 16 (codes "tfhd") (head_body id) (head_text id) in
    let r = box_text_len (20 + 16 * length f.samples) (codes "trun") (run_body st f.signed f.samples) (run_text st f.signed f.samples le) in
    let x = box_text_len 44 (codes "uuid") (tfxd_type ++ time_body f.time f.duration) (time_text f.time f.duration) in
    omega (
      arith,
      h,
      r,
      x,
      ahead_text_len ahead few,
      length-append (text.tfhd id) (text.trun st f.signed f.samples ++ (text.tfxd_box f.time f.duration ++ text.tfrf ahead)),
      length-append (text.trun st f.signed f.samples) (text.tfxd_box f.time f.duration ++ text.tfrf ahead),
      length-append (text.tfxd_box f.time f.duration) (text.tfrf ahead),
    )

-- what the pairs take
pub ahead_small : (ahead : List (ℕ × ℕ)) → length ahead ≤ 255 → ahead_len ahead ≤ 4109
ahead_small [] le = omega arith
ahead_small (p ∷ ps) le = omega (arith, le)

pub traf_text : (id st : ℕ) (f : Fragment) (ahead : List (ℕ × ℕ)) → length f.samples ≤ 65536 → length ahead ≤ 255 → IsText (traf_size f ahead) (codes "traf") (traf_body id st f ahead)
traf_text id st f ahead le few = record { size_is = omega (arith, traf_body_len id st f ahead le few); fits = omega (arith, ahead_small ahead few); kind_is = refl }

-- ---- what stands in it

abbrev pub one : List ℕ → Found
one b = record { some = true; twice = false; first = b }

abbrev no_one : Found
no_one = record { some = false; twice = false; first = [] }

abbrev ahead_found : List (ℕ × ℕ) → Found
ahead_found [] = no_one
ahead_found (p ∷ ps) = one (ahead_body (p ∷ ps))

abbrev pub traf_again : ℕ → ℕ → Fragment → List (ℕ × ℕ) → Traf
traf_again id st f ahead = record {
  head = one (head_body id);
  run = one (run_body st f.signed f.samples);
  time = one (time_body f.time f.duration);
  ahead = ahead_found ahead;
  senc = no_one;
  sealed = no_one;
}

stands : (id st : ℕ) (f : Fragment) (ahead : List (ℕ × ℕ)) → traf_of (traf_boxes id st f ahead) ≡ traf_again id st f ahead
unfolding bodies user_bodies
stands id st f [] = refl
stands id st f (p ∷ ps) = refl

-- ---- no line holds

ahead_once : (ahead : List (ℕ × ℕ)) → (ahead_found ahead).twice ≡ false
ahead_once [] = refl
ahead_once (p ∷ ps) = refl

ahead_passes : (ahead : List (ℕ × ℕ)) → ((ahead_found ahead).some && not (tfrf_fits (ahead_found ahead).first)) ≡ false
unfolding number32
ahead_passes [] = refl
ahead_passes (p ∷ ps) = ap not (ahead_fits (p ∷ ps))

ahead_read : (ahead : List (ℕ × ℕ)) → All IsWide ahead → ahead_of (ahead_found ahead) ≡ ahead
unfolding ahead_of number32
ahead_read [] w = refl
ahead_read (p ∷ ps) w = pairs_again (length (p ∷ ps)) (p ∷ ps) w (length (p ∷ ps)) (omega arith) ∙ take_all (length (p ∷ ps)) (p ∷ ps) (omega arith)

pub bad_pass : (id st : ℕ) (f : Fragment) (ahead : List (ℕ × ℕ)) → NoneHolds (bad_lines (traf_again id st f ahead))
bad_pass id st f ahead = (refl, (ahead_once ahead, (ap not (head_fits id), (ap not (time_fits f.time f.duration), (ahead_passes ahead, tt)))))

pub other_pass : (id st : ℕ) (f : Fragment) (ahead : List (ℕ × ℕ)) → IsValid f → NoneHolds (other_lines (traf_again id st f ahead))
other_pass id st f ahead v =
    let tp = time_pair f.time f.duration (omega (arith, v.ends), omega (arith, v.ends)) in
    let rb = run_body st f.signed f.samples in
    let n = run_count st f.signed f.samples (omega (arith, v.few)) in
    let e5 : eqb (tfxd_pair (time_body f.time f.duration)).1 0 ≡ false = ap (λ (p : ℕ × ℕ). eqb p.1 0) tp ∙ ne_eqb f.duration 0 (λ e. omega (arith, e, v.lasts)) in
    let e6 : leb (2 ^ 63) ((tfxd_pair (time_body f.time f.duration)).0 + (tfxd_pair (time_body f.time f.duration)).1) ≡ false
    = ap (λ (p : ℕ × ℕ). leb (2 ^ 63) (p.0 + p.1)) tp ∙ lt-leb (2 ^ 63) (f.time + f.duration) v.ends in
    let e8 : (leb 8 (length rb) && eqb (number32_at 4 rb) 0) ≡ false = and_right (leb 8 (length rb)) (eqb (number32_at 4 rb) 0) (ap (λ (k : ℕ). eqb k 0) n ∙ ne_eqb (length f.samples) 0 (λ e. omega (arith, e, v.some))) in
    let e9 : (leb 8 (length rb) && ltb 65536 (number32_at 4 rb)) ≡ false = and_right (leb 8 (length rb)) (ltb 65536 (number32_at 4 rb)) (ap (λ (k : ℕ). ltb 65536 k) n ∙ le-ltb 65536 (length f.samples) v.few) in
    (refl, (refl, (head_base id, (refl, (e5, (e6, (refl, (e8, (e9, (ap not (run_fits st f.signed f.samples (omega (arith, v.few))), tt))))))))))

-- ---- what it says

abbrev nothing : Sample
nothing = record { duration = 0; flags = 0; offset = 0; bytes = [] }

pub run_read : (d : Defaults) (id st : ℕ) (f : Fragment) (ahead : List (ℕ × ℕ)) → IsWritten id f ahead → st < 2 ^ 32
    → run_of d (traf_again id st f ahead) ≡ run_again id st f ahead
unfolding run_of
run_read d id st f ahead w lt =
    let tp = time_pair f.time f.duration (omega (arith, w.valid.ends), omega (arith, w.valid.ends)) in
    let n = run_count st f.signed f.samples (omega (arith, w.valid.few)) in
    let i = head_id id w.id_fits in
    let s = is_signed st f.signed f.samples in
    let p = run_start st f.signed f.samples lt in
    let r : rows (defaults_of d (head_body id)) (run_body st f.signed f.samples) (number32_at 4 (run_body st f.signed f.samples)) ≡ map row_of f.samples
    = ap (rows (defaults_of d (head_body id)) (run_body st f.signed f.samples)) n ∙ run_rows (defaults_of d (head_body id)) st f.signed f.samples nothing w.samples in
    let a = ahead_read ahead w.pairs in
    let t0 : (tfxd_pair (time_body f.time f.duration)).0 ≡ f.time = ap (λ (q : ℕ × ℕ). q.0) tp in
    let t1 : (tfxd_pair (time_body f.time f.duration)).1 ≡ f.duration = ap (λ (q : ℕ × ℕ). q.1) tp in
    rw (i, t0, t1, s, p, r, a) refl

-- the boxes of a canonical traf, by their kinds
pub traf_boxes_read : (id st : ℕ) (f : Fragment) (ahead : List (ℕ × ℕ)) → IsWritten id f ahead
    → option_map (λ xs. traf_of xs) (boxes (traf_body id st f ahead)) ≡ Some (traf_again id st f ahead)
traf_boxes_read id st f ahead w = ap (option_map (λ (xs : List Box). traf_of xs)) (boxes_traf id st f ahead w.valid.few w.few) ∙ ap (λ (t : Traf). Some t) (stands id st f ahead)

-- a canonical traf is read as what was written, whatever the defaults
pub traf_read : (d : Defaults) (id st : ℕ) (f : Fragment) (ahead : List (ℕ × ℕ)) → IsWritten id f ahead → st < 2 ^ 32
    → traf d (traf_body id st f ahead) ≡ Ok (run_again id st f ahead)
unfolding traf judged refusal
traf_read d id st f ahead w lt =
    let t = traf_again id st f ahead in
    let none : refusal t ≡ None = none_holds (bad_lines t ++ other_lines t) (none_holds-append (bad_lines t) (other_lines t) (bad_pass id st f ahead) (other_pass id st f ahead w.valid)) in
    ap (λ (o : Option (List Box)). option_map_or (λ xs. judged d (traf_of xs)) o (Err BadBox)) (boxes_traf id st f ahead w.valid.few w.few)
    ∙ ap (judged d) (stands id st f ahead)
    ∙ ap (λ (o : Option Cause). option_map_or (λ c. Err c) o (Ok (run_of d t))) none
    ∙ ap (λ (x : Run). Ok x) (run_read d id st f ahead w lt)

pub traf_whole : (id st : ℕ) (f : Fragment) (ahead : List (ℕ × ℕ)) → IsWritten id f ahead → IsOneBox (text.traf_box id st f ahead)
traf_whole id st f ahead w = one_whole (traf_size f ahead) (codes "traf") (traf_body id st f ahead) (traf_text id st f ahead w.valid.few w.few)

pub traf_again_read : (d : Defaults) (id st : ℕ) (f : Fragment) (ahead : List (ℕ × ℕ)) → IsWritten id f ahead → st < 2 ^ 32
    → traf d (box_of (text.traf_box id st f ahead)).body ≡ Ok (run_again id st f ahead)
traf_again_read d id st f ahead w lt =
    ap (λ (x : Box). traf d x.body) (box_is (traf_size f ahead) (codes "traf") (traf_body id st f ahead) (traf_text id st f ahead w.valid.few w.few)) ∙ traf_read d id st f ahead w lt
