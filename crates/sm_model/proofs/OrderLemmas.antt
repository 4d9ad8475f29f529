-- One list of causes, and the parts in which it is gone through.
use Rattle.std.proofs.Common.{◌≡◌, ℕ, Bool, true, false, not, cond, List, [], ◌∷◌, ◌++◌, Option, Some, None, Result, Ok, Err, refl, sym, ap, ◌∙◌, ◌⊎◌, inl, inr}
use Rattle.std.specs.Prelude.{codes}
use Rattle.std.specs.Option.{option_map, option_map_or}
use Rattle.std.specs.List.{AllByRecursion}
use Rattle.sm_model.specs.declared.cause.Cause.{Cause}
use Rattle.sm_model.specs.declared.cause.Cause.TheVariants.{BadBox, ManyTracks}
use Rattle.sm_model.specs.declared.run.Defaults.{Defaults}
use Rattle.sm_model.specs.declared.run.RawFragment.{RawFragment}
use Rattle.sm_model.specs.declared.run.Run.{Run}
use Rattle.sm_model.specs.Boxes.{Box, boxes, box_of}
use Rattle.sm_model.specs.Found.{Found, found, bodies}
use Rattle.sm_model.specs.Frag.{finish, Line, first_cause, Traf, traf_of, bad_lines, other_lines, moof_lines, last_lines, refusal, run_of, judged, traf, judged_moof, run_in, moof_run, mdat_rest, raw_of, last, judged_frag, frag_in, frag}
use Rattle.sm_model.specs.Steps.{and_then, is_bad, alone}

abbrev none : Option Cause
none = None

abbrev or_else : Option Cause → Option Cause → Option Cause
or_else (Some c) other = Some c
or_else None other = other

first_cause-append : (xs ys : List Line) → first_cause (xs ++ ys) ≡ or_else (first_cause xs) (first_cause ys)
first_cause-append [] ys = refl
first_cause-append (x ∷ xs) ys =
    elim x.0 as (λ v. cond v (Some x.1) (first_cause (xs ++ ys)) ≡ or_else (cond v (Some x.1) (first_cause xs)) (first_cause ys)) [
      | true ↦ refl
      | false ↦ first_cause-append xs ys
    ]

none_some : (c : Cause) → none ≡ Some c → ⊥
none_some c e = cc

-- ---- the moof, and then the mdat

in_two : (A L : Option Cause) (run : Run) (raw : RawFragment) (next : Run → Result RawFragment Cause) → next run ≡ option_map_or (λ c. Err c) L (Ok raw)
    → option_map_or (λ c. Err c) (or_else A L) (Ok raw) ≡ and_then (option_map_or (λ c. Err c) A (Ok run)) next
in_two (Some c) L run raw next e = refl
in_two None L run raw next e = sym e

judged_in_two : (d : Defaults) (m md : List ℕ) (trafs : Found) (t : Traf) → judged_frag d m md trafs t ≡ and_then (judged_moof d trafs t) (last m md)
unfolding judged_frag judged_moof finish
judged_in_two d m md trafs t =
    let run = run_of d t in
    let raw = raw_of (mdat_rest m md run) run in
    ap (λ (o : Option Cause). option_map_or (λ c. Err c) o (Ok raw)) (first_cause-append (moof_lines trafs t) (last_lines m md run))
    ∙ in_two (first_cause (moof_lines trafs t)) (first_cause (last_lines m md run)) run raw (last m md) refl

frag_in_two_in : (d : Defaults) (m md : List ℕ) (trafs : Found) → frag_in d m md trafs ≡ and_then (run_in d trafs) (last m md)
unfolding frag_in run_in
frag_in_two_in d m md trafs =
    elim (boxes trafs.first) as (λ o. option_map_or (λ ys. judged_frag d m md trafs (traf_of ys)) o (Err BadBox) ≡ and_then (option_map_or (λ ys. judged_moof d trafs (traf_of ys)) o (Err BadBox)) (last m md)) [
      | None ↦ refl
      | Some ys ↦ judged_in_two d m md trafs (traf_of ys)
    ]

-- the one list is gone through in two steps
pub frag_in_two : (d : Defaults) (m md : List ℕ) → frag d m md ≡ and_then (moof_run d m) (last m md)
unfolding frag moof_run
frag_in_two d m md =
    elim (boxes (box_of m).body) as (λ o. option_map_or (λ xs. frag_in d m md (found (bodies (codes "traf") xs))) o (Err BadBox)
    ≡ and_then (option_map_or (λ xs. run_in d (found (bodies (codes "traf") xs))) o (Err BadBox)) (last m md)) [
      | None ↦ refl
      | Some xs ↦ frag_in_two_in d m md (found (bodies (codes "traf") xs))
    ]

-- ---- the traf, and ManyTracks in its place

only_bad : (xs : List Line) → AllByRecursion (λ x. x.1 ≡ BadBox) xs → (first_cause xs ≡ None) ⊎ (first_cause xs ≡ Some BadBox)
only_bad [] h = inl refl
only_bad (x ∷ xs) h =
    elim x.0 as (λ v. (cond v (Some x.1) (first_cause xs) ≡ None) ⊎ (cond v (Some x.1) (first_cause xs) ≡ Some BadBox)) [
      | true ↦ inr (ap (λ (c : Cause). Some c) h.0)
      | false ↦ only_bad xs h.1
    ]

not_bad : (x : Line) (xs : List Line) (t : Bool) (c : Cause) → is_bad x.1 ≡ false → (first_cause xs ≡ Some c → is_bad c ≡ false) → cond t (Some x.1) (first_cause xs) ≡ Some c → is_bad c ≡ false
not_bad x xs true c h g e = let s : x.1 ≡ c = cc in ap is_bad (sym s) ∙ h
not_bad x xs false c h g e = g e

never_bad : (xs : List Line) → AllByRecursion (λ x. is_bad x.1 ≡ false) xs → (c : Cause) → first_cause xs ≡ Some c → is_bad c ≡ false
never_bad [] h c e = absurd (none_some c e)
never_bad (x ∷ xs) h c e = not_bad x xs x.0 c h.0 (never_bad xs h.1 c) e

in_place : (B O : Option Cause) (many : Bool) (run : Run) → (B ≡ None) ⊎ (B ≡ Some BadBox) → ((c : Cause) → O ≡ Some c → is_bad c ≡ false)
    → option_map_or (λ c. Err c) (or_else B (cond many (Some ManyTracks) O)) (Ok run) ≡ alone many (option_map_or (λ c. Err c) (or_else B O) (Ok run))
in_place B O many run (inr e) o = rw e refl
in_place B None true run (inl e) o = rw e refl
in_place B None false run (inl e) o = rw e refl
in_place B (Some c) true run (inl e) o = rw (e, o c refl) refl
in_place B (Some c) false run (inl e) o = rw (e, o c refl) refl

judged_alone : (d : Defaults) (trafs : Found) (t : Traf) → trafs.some ≡ true → judged_moof d trafs t ≡ alone trafs.twice (judged d t)
unfolding judged_moof judged refusal
judged_alone d trafs t e =
    let run = run_of d t in
    let more : List Line = (trafs.twice, ManyTracks) ∷ other_lines t in
    let s1 : first_cause (moof_lines trafs t) ≡ first_cause (bad_lines t ++ more) = ap (λ (v : Bool). cond (not v) (Some BadBox) (first_cause (bad_lines t ++ more))) e in
    let s2 : first_cause (bad_lines t ++ more) ≡ or_else (first_cause (bad_lines t)) (first_cause more) = first_cause-append (bad_lines t) more in
    ap (λ (o : Option Cause). option_map_or (λ c. Err c) o (Ok run)) (s1 ∙ s2)
    ∙ in_place (first_cause (bad_lines t)) (first_cause (other_lines t)) trafs.twice run
    (only_bad (bad_lines t) (refl, (refl, (refl, (refl, (refl, tt))))))
    (never_bad (other_lines t) (refl, (refl, (refl, (refl, (refl, (refl, (refl, (refl, (refl, (refl, tt)))))))))))
    ∙ ap (λ (o : Option Cause). alone trafs.twice (option_map_or (λ c. Err c) o (Ok run))) (sym (first_cause-append (bad_lines t) (other_lines t)))

run_in_alone : (d : Defaults) (trafs : Found) → trafs.some ≡ true → run_in d trafs ≡ alone trafs.twice (traf d trafs.first)
unfolding run_in traf
run_in_alone d trafs e =
    elim (boxes trafs.first) as (λ o. option_map_or (λ ys. judged_moof d trafs (traf_of ys)) o (Err BadBox) ≡ alone trafs.twice (option_map_or (λ ys. judged d (traf_of ys)) o (Err BadBox))) [
      | None ↦ refl
      | Some ys ↦ judged_alone d trafs (traf_of ys) e
    ]

none_first : (d : Defaults) (f : Found) → f.some ≡ false → run_in d f ≡ Err BadBox
unfolding run_in judged_moof
none_first d f e =
    elim (boxes f.first) as (λ o. option_map_or (λ ys. judged_moof d f (traf_of ys)) o (Err BadBox) ≡ Err BadBox) [ None ↦ refl | Some ys ↦ rw e refl ]

map_or_map : (d : Defaults) (o : Option (List Box))
    → option_map_or (λ xs. run_in d (found (bodies (codes "traf") xs))) o (Err BadBox) ≡ option_map_or (run_in d) (option_map (λ xs. found (bodies (codes "traf") xs)) o) (Err BadBox)
map_or_map d None = refl
map_or_map d (Some xs) = refl

-- what was found of the trafs among the children of a moof
abbrev pub trafs_in : List ℕ → Option Found
trafs_in body = option_map (λ xs. found (bodies (codes "traf") xs)) (boxes body)

moof_run_is : (d : Defaults) (m : List ℕ) → moof_run d m ≡ option_map_or (run_in d) (trafs_in (box_of m).body) (Err BadBox)
unfolding moof_run
moof_run_is d m = map_or_map d (boxes (box_of m).body)

-- a child is cut or has a bad size
pub moof_run_bad : (d : Defaults) (m : List ℕ) → trafs_in (box_of m).body ≡ None → moof_run d m ≡ Err BadBox
moof_run_bad d m e = moof_run_is d m ∙ ap (λ (o : Option Found). option_map_or (run_in d) o (Err BadBox)) e

-- there is no traf
pub moof_run_empty : (d : Defaults) (m : List ℕ) (f : Found) → trafs_in (box_of m).body ≡ Some f → f.some ≡ false → moof_run d m ≡ Err BadBox
moof_run_empty d m f e n = moof_run_is d m ∙ ap (λ (o : Option Found). option_map_or (run_in d) o (Err BadBox)) e ∙ none_first d f n

-- the answer of the first traf, with ManyTracks behind BadBox and before every other cause
pub moof_run_first : (d : Defaults) (m : List ℕ) (f : Found) → trafs_in (box_of m).body ≡ Some f → f.some ≡ true → moof_run d m ≡ alone f.twice (traf d f.first)
moof_run_first d m f e n = moof_run_is d m ∙ ap (λ (o : Option Found). option_map_or (run_in d) o (Err BadBox)) e ∙ run_in_alone d f n

-- ---- no line of a moof reads the defaults

abbrev given : Run → Result Run Cause
given run = Ok run

ok_err : (run : Run) (c : Cause) → given run ≡ Err c → ⊥
ok_err run c e = cc

same_cause : (o : Option Cause) (r s : Run) (c : Cause) → option_map_or (λ x. Err x) o (Ok r) ≡ Err c → option_map_or (λ x. Err x) o (Ok s) ≡ Err c
same_cause None r s c h = absurd (ok_err r c h)
same_cause (Some x) r s c h = h

judged_same : (d e : Defaults) (trafs : Found) (t : Traf) (c : Cause) → judged_moof d trafs t ≡ Err c → judged_moof e trafs t ≡ Err c
unfolding judged_moof
judged_same d e trafs t c h = same_cause (first_cause (moof_lines trafs t)) (run_of d t) (run_of e t) c h

run_in_same : (d e : Defaults) (trafs : Found) (c : Cause) → run_in d trafs ≡ Err c → run_in e trafs ≡ Err c
unfolding run_in
run_in_same d e trafs c =
    elim (boxes trafs.first) as (λ o. option_map_or (λ ys. judged_moof d trafs (traf_of ys)) o (Err BadBox) ≡ Err c → option_map_or (λ ys. judged_moof e trafs (traf_of ys)) o (Err BadBox) ≡ Err c) [
      | None ↦ λ h. h
      | Some ys ↦ judged_same d e trafs (traf_of ys) c
    ]

pub moof_run_same : (d e : Defaults) (m : List ℕ) (c : Cause) → moof_run d m ≡ Err c → moof_run e m ≡ Err c
unfolding moof_run
moof_run_same d e m c =
    elim (boxes (box_of m).body) as (λ o. option_map_or (λ xs. run_in d (found (bodies (codes "traf") xs))) o (Err BadBox) ≡ Err c → option_map_or (λ xs. run_in e (found (bodies (codes "traf") xs))) o (Err BadBox) ≡ Err c) [
      | None ↦ λ h. h
      | Some xs ↦ run_in_same d e (found (bodies (codes "traf") xs)) c
    ]
