-- The fields of tfhd, trun, tfxd and tfrf that were written are read again.
use Rattle.std.proofs.Common.{◌≡◌, ◌≤◌, ◌<◌, ◌+◌, ◌*◌, ◌^◌, ℕ, pos, zero, suc, Bool, true, false, cond, eqb, leb, ◌&&◌, List, [], ◌∷◌, ◌++◌, length, take, drop, get_or, map, Some, refl, sym, ap, ◌∙◌, append_assoc, arith}
use Rattle.std.specs.List.{flat_map, All}
use Rattle.std.specs.Int.{w32, cast_signed}
use Rattle.std.proofs.lemmas.Int.{ints}
use Rattle.std.proofs.lemmas.Bool.{le-leb, eq-eqb, and_from}
use Rattle.std.proofs.lemmas.List.{length-append, append-nil, take-append-drop, length-take-le, take_all}
use Rattle.std.proofs.lemmas.List.Concat.{flat_map-cons, flat_map-append}
use Rattle.std.proofs.Math.Seq.{take-suc, drop-cons}
use Rattle.sm_model.specs.declared.sample.Sample.{Sample}
use Rattle.sm_model.specs.declared.run.Defaults.{Defaults}
use Rattle.sm_model.specs.Numbers.{number32, number64, number32_at, number64_at}
use Rattle.sm_model.specs.FragText.{pair}
use Rattle.sm_model.specs.FragText as text
use Rattle.sm_model.specs.Fields.{has, field, version, tfhd_len, tfhd_fits, rows_at, row_len, trun_fits, rows, data_offset, tfxd_fits, tfxd_pair, pair_at, pair_len, tfrf_fits, tfrf_pair, pairs}
use Rattle.sm_model.specs.Fragments.{IsNarrow, IsWide}
use Rattle.sm_model.specs.Written.{row_of}
use Rattle.sm_model.proofs.WrittenBoxes.{len32, len64, front32, front64, past32, past64}
use Rattle.sm_model.proofs.WrittenRows.{words, rows_text_len, rows_again, row_len_is, rows_at_is}

-- ---- pairs

abbrev pub ahead_body : List (ℕ × ℕ) → List ℕ
ahead_body ps = number32 0x01000000 ++ (length ps ∷ flat_map pair ps)

abbrev pub ahead_head : ℕ → List ℕ
ahead_head n = 1 ∷ 0 ∷ 0 ∷ 0 ∷ n ∷ []

pub ahead_is : (ps : List (ℕ × ℕ)) → ahead_body ps ≡ ahead_head (length ps) ++ flat_map pair ps
unfolding number32
ahead_is ps = refl

pair_text_len : (p : ℕ × ℕ) → length (pair p) ≡ 16
pair_text_len p = omega (arith, len64 p.0, len64 p.1, length-append (number64 p.0) (number64 p.1))

pub pairs_text_len : (ps : List (ℕ × ℕ)) → length (flat_map pair ps) ≡ length ps * 16
pairs_text_len [] = refl
pairs_text_len (p ∷ ps) =
    let e = ap length (flat_map-cons pair p ps) in
    omega (arith, e, length-append (pair p) (flat_map pair ps), pair_text_len p, pairs_text_len ps)

two : (p : ℕ × ℕ) (rest : List ℕ) → IsWide p → (number64_at 0 (pair p ++ rest) ≡ p.0) × (number64_at 8 (pair p ++ rest) ≡ p.1)
two p rest f =
    let e = append_assoc (number64 p.0) (number64 p.1) rest in (
      ap (number64_at 0) e ∙ front64 p.0 (number64 p.1 ++ rest) f.0,
      ap (number64_at 8) e ∙ past64 (number64 p.0) (number64 p.1 ++ rest) 8 0 (omega (arith, len64 p.0)) ∙ front64 p.1 rest f.1,
    )

at_pair : (head : List ℕ) (ps : List (ℕ × ℕ)) (i j : ℕ) (p : ℕ × ℕ) (front back : List (ℕ × ℕ)) → ps ≡ front ++ p ∷ back → length front ≡ i
    → number64_at (length head + i * 16 + j) (head ++ flat_map pair ps) ≡ number64_at j (pair p ++ flat_map pair back)
at_pair head ps i j p front back e n =
    let f : flat_map pair ps ≡ flat_map pair front ++ (pair p ++ flat_map pair back)
    = ap (flat_map pair) e ∙ flat_map-append pair front (p ∷ back) ∙ ap (λ (x : List ℕ). flat_map pair front ++ x) (flat_map-cons pair p back) in
    let l = pairs_text_len front in
    past64 head (flat_map pair ps) (length head + i * 16 + j) (i * 16 + j) (omega arith)
    ∙ ap (number64_at (i * 16 + j)) f
    ∙ past64 (flat_map pair front) (pair p ++ flat_map pair back) (i * 16 + j) j (omega (arith, l, ap (λ (k : ℕ). k * 16) n))

pair_split : (ps : List (ℕ × ℕ)) (i : ℕ) (e : ℕ × ℕ) → i < length ps → ps ≡ take i ps ++ get_or ps i e ∷ drop (suc i) ps
pair_split ps i e lt = sym (take-append-drop i ps) ∙ ap (λ (x : List (ℕ × ℕ)). take i ps ++ x) (drop-cons ps i e lt)

-- the pair of an index
pub pair_again : (n : ℕ) (ps : List (ℕ × ℕ)) (i : ℕ) (e : ℕ × ℕ) → All IsWide ps → i < length ps → tfrf_pair (ahead_head n ++ flat_map pair ps) i ≡ get_or ps i e
unfolding tfrf_pair pair_at pair_len version
pair_again n ps i e w lt =
    let p = get_or ps i e in
    let s = pair_split ps i e lt in
    let l : length (take i ps) ≡ i = length-take-le i ps (omega arith) in
    let q = two p (flat_map pair (drop (suc i) ps)) (w i e lt) in
    let b = ahead_head n ++ flat_map pair ps in
    let a0 : number64_at (5 + i * 16) b ≡ p.0 = ap (λ (k : ℕ). number64_at k b) (omega arith) ∙ at_pair (ahead_head n) ps i 0 p (take i ps) (drop (suc i) ps) s l ∙ q.0 in
    let a8 : number64_at (5 + i * 16 + 8) b ≡ p.1 = at_pair (ahead_head n) ps i 8 p (take i ps) (drop (suc i) ps) s l ∙ q.1 in
    rw (a0, a8) refl

pub pairs_again : (n : ℕ) (ps : List (ℕ × ℕ)) → All IsWide ps → (i : ℕ) → i ≤ length ps → pairs (ahead_head n ++ flat_map pair ps) i ≡ take i ps
unfolding pairs
pairs_again n ps w zero le = refl
pairs_again n ps w (suc i) le =
    ap (λ (x : List (ℕ × ℕ)). x ++ tfrf_pair (ahead_head n ++ flat_map pair ps) i ∷ []) (pairs_again n ps w i (omega arith))
    ∙ ap (λ (x : ℕ × ℕ). take i ps ++ x ∷ []) (pair_again n ps i (0, 0) w (omega arith))
    ∙ sym (take-suc ps i (0, 0) (omega arith))

pub ahead_fits : (ps : List (ℕ × ℕ)) → tfrf_fits (ahead_head (length ps) ++ flat_map pair ps) ≡ true
unfolding tfrf_fits version pair_len
ahead_fits ps =
    let l = pairs_text_len ps in
    let p1 : leb 5 (length (ahead_head (length ps) ++ flat_map pair ps)) ≡ true = le-leb _ _ (omega arith) in
    let p2 : eqb (length (ahead_head (length ps) ++ flat_map pair ps)) (5 + length ps * 16) ≡ true = eq-eqb _ _ (omega (arith, l)) in
    rw (p1, p2) refl

-- ---- tfhd and tfxd

abbrev pub head_body : ℕ → List ℕ
head_body id = number32 0 ++ number32 id

head_word : (id : ℕ) → number32_at 0 (head_body id) ≡ 0
head_word id = front32 0 (number32 id) (omega arith)

pub head_id : (id : ℕ) → id < 2 ^ 32 → number32_at 4 (head_body id) ≡ id
head_id id lt = past32 (number32 0) (number32 id) 4 0 (omega (arith, len32 0)) ∙ ap (number32_at 0) (sym (append-nil (number32 id))) ∙ front32 id [] lt

no_fields : tfhd_len 0 ≡ 8
unfolding tfhd_len field has
no_fields = refl

pub head_fits : (id : ℕ) → tfhd_fits (head_body id) ≡ true
unfolding tfhd_fits
head_fits id =
    let l : length (head_body id) ≡ 8 = omega (arith, length-append (number32 0) (number32 id), len32 0, len32 id) in
    let t : tfhd_len (number32_at 0 (head_body id)) ≡ 8 = ap tfhd_len (head_word id) ∙ no_fields in
    rw (l, t) refl

no_base : has 0 0x1 ≡ false
unfolding has
no_base = refl

pub head_base : (id : ℕ) → has (number32_at 0 (head_body id)) 0x1 ≡ false
head_base id = ap (λ (w : ℕ). has w 0x1) (head_word id) ∙ no_base

abbrev pub time_body : ℕ → ℕ → List ℕ
time_body t d = number32 0x01000000 ++ pair (t, d)

pub time_fits : (t d : ℕ) → tfxd_fits (time_body t d) ≡ true
unfolding tfxd_fits version number32
time_fits t d =
    let l : length (time_body t d) ≡ 20 = omega (arith, length-append (number64 t) (number64 d), len64 t, len64 d) in
    rw l refl

time_version : (t d : ℕ) → get_or (time_body t d) 0 0 ≡ 1
unfolding number32
time_version t d = refl

pub time_pair : (t d : ℕ) → IsWide (t, d) → tfxd_pair (time_body t d) ≡ (t, d)
unfolding tfxd_pair pair_at version
time_pair t d w =
    let v : get_or (time_body t d) 0 0 ≡ 1 = time_version t d in
    let q = two (t, d) [] w in
    let e : pair (t, d) ++ [] ≡ pair (t, d) = append-nil (pair (t, d)) in
    let a0 : number64_at 4 (time_body t d) ≡ t = past64 (number32 0x01000000) (pair (t, d)) 4 0 (omega (arith, len32 0x01000000)) ∙ ap (number64_at 0) (sym e) ∙ q.0 in
    let a8 : number64_at (4 + 8) (time_body t d) ≡ d = past64 (number32 0x01000000) (pair (t, d)) 12 8 (omega (arith, len32 0x01000000)) ∙ ap (number64_at 8) (sym e) ∙ q.1 in
    rw (v, a0, a8) refl

-- ---- trun

abbrev pub run_head : ℕ → ℕ → ℕ → List ℕ
run_head w n st = number32 w ++ (number32 n ++ number32 st)

abbrev pub run_body : ℕ → Bool → List Sample → List ℕ
run_body st signed ss = number32 (text.run_word signed) ++ (number32 (length ss) ++ (number32 st ++ flat_map text.row_text ss))

run_is : (st : ℕ) (signed : Bool) (ss : List Sample) → run_body st signed ss ≡ run_head (text.run_word signed) (length ss) st ++ flat_map text.row_text ss
run_is st signed ss = simp append_assoc

run_head_len : (w n st : ℕ) → length (run_head w n st) ≡ 12
run_head_len w n st = omega (arith, len32 w, len32 n, len32 st, length-append (number32 w) (number32 n ++ number32 st), length-append (number32 n) (number32 st))

version_small : (signed : Bool) → text.run_word signed < 2 ^ 32
version_small true = omega arith
version_small false = omega arith

run_first_word : (st : ℕ) (signed : Bool) (ss : List Sample) → number32_at 0 (run_body st signed ss) ≡ text.run_word signed
run_first_word st signed ss = front32 (text.run_word signed) (number32 (length ss) ++ (number32 st ++ flat_map text.row_text ss)) (version_small signed)

pub run_count : (st : ℕ) (signed : Bool) (ss : List Sample) → length ss < 2 ^ 32 → number32_at 4 (run_body st signed ss) ≡ length ss
run_count st signed ss lt =
    past32 (number32 (text.run_word signed)) (number32 (length ss) ++ (number32 st ++ flat_map text.row_text ss)) 4 0 (omega (arith, len32 (text.run_word signed)))
    ∙ front32 (length ss) (number32 st ++ flat_map text.row_text ss) lt

run_place : (st : ℕ) (signed : Bool) (ss : List Sample) → st < 2 ^ 32 → number32_at 8 (run_body st signed ss) ≡ st
run_place st signed ss lt =
    past32 (number32 (text.run_word signed)) (number32 (length ss) ++ (number32 st ++ flat_map text.row_text ss)) 8 4 (omega (arith, len32 (text.run_word signed)))
    ∙ past32 (number32 (length ss)) (number32 st ++ flat_map text.row_text ss) 4 0 (omega (arith, len32 (length ss)))
    ∙ front32 st (flat_map text.row_text ss) lt

pub run_body_len : (st : ℕ) (signed : Bool) (ss : List Sample) → length (run_body st signed ss) ≡ 12 + length ss * 16
run_body_len st signed ss =
    ap length (run_is st signed ss) ∙ omega (
      arith,
      length-append (run_head (text.run_word signed) (length ss) st) (flat_map text.row_text ss),
      run_head_len (text.run_word signed) (length ss) st,
      rows_text_len ss,
    )

run_first : (st : ℕ) (signed : Bool) (ss : List Sample) → version (run_body st signed ss) ≡ cond signed 1 0
unfolding version number32
run_first st true ss = refl
run_first st false ss = refl

low : (signed : Bool) → leb (cond signed 1 0) 1 ≡ true
low true = refl
low false = refl

pub is_signed : (st : ℕ) (signed : Bool) (ss : List Sample) → eqb (version (run_body st signed ss)) 1 ≡ signed
is_signed st signed ss = ap (λ (n : ℕ). eqb n 1) (run_first st signed ss) ∙ back signed
  where
    back : (s : Bool) → eqb (cond s 1 0) 1 ≡ s
    back true = refl
    back false = refl

pub run_fits : (st : ℕ) (signed : Bool) (ss : List Sample) → length ss < 2 ^ 32 → trun_fits (run_body st signed ss) ≡ true
unfolding trun_fits
run_fits st signed ss lt =
    let b = run_body st signed ss in
    let l = run_body_len st signed ss in
    let w = run_first_word st signed ss in
    let h = words signed in
    let n = run_count st signed ss lt in
    let r : rows_at (number32_at 0 b) ≡ 12 = ap rows_at w ∙ rows_at_is (text.run_word signed) h in
    let m : row_len (number32_at 0 b) ≡ 16 = ap row_len w ∙ row_len_is (text.run_word signed) h in
    let p1 : leb 8 (length b) ≡ true = le-leb _ _ (omega (arith, l)) in
    let p2 : leb (version b) 1 ≡ true = ap (λ (k : ℕ). leb k 1) (run_first st signed ss) ∙ low signed in
    let p3 : eqb (length b) (rows_at (number32_at 0 b) + number32_at 4 b * row_len (number32_at 0 b)) ≡ true
    = eq-eqb _ _ (l ∙ sym (ap (λ (k : ℕ). k + number32_at 4 b * row_len (number32_at 0 b)) r ∙ ap (λ (k : ℕ). 12 + k * row_len (number32_at 0 b)) n ∙ ap (λ (k : ℕ). 12 + length ss * k) m)) in
    and_from (leb 8 (length b)) (leb (version b) 1 && eqb (length b) (rows_at (number32_at 0 b) + number32_at 4 b * row_len (number32_at 0 b))) p1
    (and_from (leb (version b) 1) (eqb (length b) (rows_at (number32_at 0 b) + number32_at 4 b * row_len (number32_at 0 b))) p2 p3)

-- below 2^31 the sign is no matter
pub small_signed : (n : ℕ) → n < 2 ^ 31 → cast_signed w32 n ≡ pos n
small_signed n lt = omega (arith, ints)

pub run_start : (st : ℕ) (signed : Bool) (ss : List Sample) → st < 2 ^ 32 → data_offset (run_body st signed ss) ≡ Some (cast_signed w32 st)
unfolding data_offset
run_start st signed ss lt =
    let h : has (number32_at 0 (run_body st signed ss)) 0x1 ≡ true = ap (λ (w : ℕ). has w 0x1) (run_first_word st signed ss) ∙ (words signed).start in
    rw (h, run_place st signed ss lt) refl

pub run_rows : (d : Defaults) (st : ℕ) (signed : Bool) (ss : List Sample) (e : Sample) → All IsNarrow ss → rows d (run_body st signed ss) (length ss) ≡ map row_of ss
run_rows d st signed ss e n =
    let head = run_head (text.run_word signed) (length ss) st in
    let i = run_is st signed ss in
    ap (λ (b : List ℕ). rows d b (length ss)) i
    ∙ rows_again d head ss (text.run_word signed) e (ap (number32_at 0) (sym i) ∙ run_first_word st signed ss) (words signed) (run_head_len (text.run_word signed) (length ss) st) n (length ss)
    (omega arith)
    ∙ ap (map row_of) (take_all (length ss) ss (omega arith))
