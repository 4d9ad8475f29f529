-- What the machine does with a whole box is what the rules say of it.
use Rattle.std.proofs.Common.{◌≡◌, ℕ, ◌+◌, Bool, true, false, cond, List, [], ◌∷◌, ◌++◌, length, Option, Some, None, refl, sym, ap, subst, ◌∙◌, arith}
use Rattle.std.specs.Prelude.{is_some, find, option_and_then, Result, Ok, Err}
use Rattle.std.proofs.lemmas.List.{length-append, append-nil}
use Rattle.std.proofs.lemmas.List.Concat.{flat_map-append}
use Rattle.sm_model.specs.declared.cause.Cause.{Cause}
use Rattle.sm_model.specs.declared.cause.Cause.TheVariants.{UnknownTrack}
use Rattle.sm_model.specs.declared.cause.Refusal.{Refusal}
use Rattle.sm_model.specs.declared.run.Defaults.{Defaults}
use Rattle.sm_model.specs.declared.run.Run.{Run}
use Rattle.sm_model.specs.declared.run.RawFragment.{RawFragment}
use Rattle.sm_model.specs.declared.header.Header.{Header}
use Rattle.sm_model.specs.declared.header.HeaderTrack.{HeaderTrack}
use Rattle.sm_push.specs.declared.state.PushState.{PushState}
use Rattle.sm_push.specs.declared.state.PendingMoof.{PendingMoof}
use Rattle.sm_push.specs.declared.state.HeaderStage.{HeaderStage}
use Rattle.sm_push.specs.declared.state.HeaderStage.TheVariants.{Gathering, Complete}
use Rattle.sm_push.specs.declared.state.TopBox.{TopBox}
use Rattle.sm_push.specs.declared.state.TopBox.TheVariants.{Moof, Mdat, Moov, Manifest, Other}
use Rattle.sm_model.specs.Boxes.{box_of}
use Rattle.sm_model.specs.Frag.{moof_run, frag, last, finish}
use Rattle.sm_model.specs.Steps.{and_then}
use Rattle.sm_model.specs.TrackId.{track_id}
use Rattle.sm_model.specs.Moov.{no_defaults}
use Rattle.sm_push.specs.Header.{header_of, track_with}
use Rattle.sm_model.specs.Items.{Given}
use Rattle.sm_push.specs.PushBoxes.{Step, past, passed, taken, manifest_text, moof_taken, pending, awaited, awaiting, track_in, mdat_taken, fragment_taken, moov_taken, manifest_taken, header_taken}
use Rattle.sm_push.specs.Body.{push_start}
use Rattle.sm_push.specs.Boxes.{bytes_of}
use Rattle.sm_push.specs.Rules.{sort_of, is_moof, is_moov, is_manifest, place_behind, place_of_last, last_moof, first_manifest, first_moov, header_said}
use Rattle.sm_push.specs.Rules.{track_named, track_of, is_read, refused_at, moof_gives, header_gives, fragment_of, fragment_gives, top_gives}
use Rattle.sm_push.proofs.RuleHeads.{StageIs, both_there}

-- ---- one box more before

find_on : (p : List ℕ → Bool) (xs : List (List ℕ)) (x : List ℕ) → p x ≡ false → find p (xs ++ x ∷ []) ≡ find p xs
find_on p [] x e = rw e refl
find_on p (y ∷ ys) x e =
    elim (p y) as (λ v. cond v (Some y) (find p (ys ++ x ∷ [])) ≡ cond v (Some y) (find p ys)) [ true ↦ refl | false ↦ find_on p ys x e ]

old_by : (v : Bool) (z y : List ℕ) (o o' : Option (List ℕ)) → cond v (Some z) o ≡ Some y → (o ≡ Some y → o' ≡ Some y) → cond v (Some z) o' ≡ Some y
old_by true z y o o' e more = e
old_by false z y o o' e more = more e

find_old : (p : List ℕ → Bool) (xs : List (List ℕ)) (x y : List ℕ) → find p xs ≡ Some y → find p (xs ++ x ∷ []) ≡ Some y
find_old p [] x y e = absurd cc
find_old p (z ∷ zs) x y e = old_by (p z) z y (find p zs) (find p (zs ++ x ∷ [])) e (find_old p zs x y)

new_by : (v : Bool) (z y : List ℕ) (o o' : Option (List ℕ)) → cond v (Some z) o ≡ None → (o ≡ None → o' ≡ Some y) → cond v (Some z) o' ≡ Some y
new_by true z y o o' e more = absurd cc
new_by false z y o o' e more = more e

find_new : (p : List ℕ → Bool) (xs : List (List ℕ)) (x : List ℕ) → p x ≡ true → find p xs ≡ None → find p (xs ++ x ∷ []) ≡ Some x
find_new p [] x t e = rw t refl
find_new p (z ∷ zs) x t e = new_by (p z) z x (find p zs) (find p (zs ++ x ∷ [])) e (find_new p zs x t)

last_more : (before : List (List ℕ)) (box : List ℕ) → last_moof (before ++ box ∷ []) ≡ cond (is_moof (sort_of box)) (Some box) None
unfolding last_moof
last_more [] box = refl
last_more (x ∷ []) box = refl
last_more (x ∷ y ∷ more) box = last_more (y ∷ more) box

pub bytes_more : (before : List (List ℕ)) (box : List ℕ) → bytes_of (before ++ box ∷ []) ≡ bytes_of before ++ box
bytes_more before box = flat_map-append (λ (b : List ℕ). b) before (box ∷ []) ∙ ap (λ (xs : List ℕ). bytes_of before ++ xs) (append-nil box)

long_more : (before : List (List ℕ)) (box : List ℕ) → length (bytes_of (before ++ box ∷ [])) ≡ length (bytes_of before) + length box
long_more before box = ap length (bytes_more before box) ∙ length-append (bytes_of before) box

place_more : (before : List (List ℕ)) (box : List ℕ) (at : ℕ) → at ≡ place_behind before → past at (length box) ≡ place_behind (before ++ box ∷ [])
place_more before box at e = omega (arith, e, long_more before box)

-- ---- what is known where boxes came and nothing was refused

abbrev pub MoofIs : List (List ℕ) → Option PendingMoof → Type 0
MoofIs before None = last_moof before ≡ None
MoofIs before (Some p) =
    (moof : List ℕ)
    × (last_moof before ≡ Some moof)
    × (p.size ≡ length moof)
    × (p.at ≡ place_of_last before moof)
    × (track_of before moof ≡ Some p.track)
    × (moof_run p.track.defaults moof ≡ Ok p.run)

pub record Knows (headerless : Bool) (before : List (List ℕ)) (s : PushState) : Type 0 where
  pub headerless_is : s.headerless ≡ headerless
  pub at : s.at ≡ place_behind before
  pub stage : StageIs before s.stage
  pub moof : MoofIs before s.moof

pub nothing_known : (headerless : Bool) → Knows headerless [] (push_start headerless)
unfolding first_manifest first_moov last_moof
nothing_known headerless = record { headerless_is = refl; at = refl; stage = (refl, refl, refl); moof = refl }

-- a box that is neither a first live server manifest box nor a first moov changes no header
abbrev IsApart : List (List ℕ) → List ℕ → Type 0
IsApart before box = (first_manifest (before ++ box ∷ []) ≡ first_manifest before) × (first_moov (before ++ box ∷ []) ≡ first_moov before)

said_same : (before : List (List ℕ)) (box : List ℕ) → IsApart before box → header_said (before ++ box ∷ []) ≡ header_said before
said_same before box a = rw (a.0, a.1) refl

stage_same : (before : List (List ℕ)) (box : List ℕ) (stage : HeaderStage) → IsApart before box → StageIs before stage → StageIs (before ++ box ∷ []) stage
stage_same before box (Gathering manifest moov) a is = (a.0 ∙ is.0, a.1 ∙ is.1, said_same before box a ∙ is.2)
stage_same before box (Complete tracks) a is = (is.0, said_same before box a ∙ is.1, is.2)

-- of a sort that no header has
other_apart : (before : List (List ℕ)) (box : List ℕ) → is_manifest (sort_of box) ≡ false → is_moov (sort_of box) ≡ false → IsApart before box
unfolding first_manifest first_moov
other_apart before box m v = (find_on (λ b. is_manifest (sort_of b)) before box m, find_on (λ b. is_moov (sort_of b)) before box v)

-- what a step leaves is known, and what it gives is what the rules say
abbrev pub Follows : Bool → List (List ℕ) → List ℕ → Step → Result (Option Given) Refusal → Type 0
Follows headerless before box (Ok step) (Ok item) = (step.0 ≡ item) × Knows headerless (before ++ box ∷ []) step.1
Follows headerless before box (Err r) (Err r') = r ≡ r'
Follows headerless before box (Ok step) (Err r) = ⊥
Follows headerless before box (Err r) (Ok item) = ⊥

refused_follows : (headerless : Bool) (before : List (List ℕ)) (box : List ℕ) (at at' : ℕ) (cause : Cause) → at ≡ at' → Follows headerless before box (Err (record { at = at; cause = cause })) (refused_at at' cause)
refused_follows headerless before box at at' cause e = let r : ℕ → Refusal = λ n. record { at = n; cause = cause } in ap r e

-- what the laws of fragments say
pub record Fragments : Type 0 where
  pub two_steps : (d : Defaults) (m md : List ℕ) → frag d m md ≡ and_then (moof_run d m) (last m md)
  pub same_cause : (d other : Defaults) (m : List ℕ) (cause : Cause) → moof_run d m ≡ Err cause → moof_run other m ≡ Err cause
  pub same_track : (d : Defaults) (m : List ℕ) (run : Run) → moof_run d m ≡ Ok run → track_id m ≡ Some run.id

-- ---- a moof

track_same : (before : List (List ℕ)) (stage : HeaderStage) (id : ℕ) → StageIs before stage → track_in stage id ≡ track_named (header_said before) id
track_same before (Gathering manifest moov) id is = rw is.2 refl
track_same before (Complete tracks) id is =
    rw is.1 (ap (λ (ts : List HeaderTrack). track_with id ts) (sym is.2))

track_found : (before : List (List ℕ)) (moof : List ℕ) (id : ℕ) → track_id moof ≡ Some id → track_of before moof ≡ track_named (header_said before) id
track_found before moof id e = rw e refl

moof_apart : (before : List (List ℕ)) (box : List ℕ) → sort_of box ≡ Moof → IsApart before box
moof_apart before box e = other_apart before box (ap is_manifest e) (ap is_moov e)

awaits : (headerless : Bool) (before : List (List ℕ)) (box : List ℕ) (s : PushState) (track : HeaderTrack) (run : Run) → Knows headerless before s → sort_of box ≡ Moof
    → track_of before box ≡ Some track → moof_run track.defaults box ≡ Ok run
    → Knows headerless (before ++ box ∷ []) (awaiting s (Some (record { run = run; size = length box; at = s.at; track = track })) (length box))
awaits headerless before box s track run k e t r =
    let a = moof_apart before box e in
    record {
      headerless_is = k.headerless_is;
      at = place_more before box s.at k.at;
      stage = stage_same before box s.stage a k.stage;
      moof = (
        box,
        last_more before box ∙ ap (λ (x : TopBox). cond (is_moof x) (Some box) None) e,
        refl,
        k.at ∙ omega (arith, long_more before box),
        ap (λ (h : Option (Result Header Cause)). option_and_then (track_named h) (track_id box)) (said_same before box a) ∙ t,
        r,
      );
    }

moof_run_follows : Fragments → (headerless : Bool) (before : List (List ℕ)) (box : List ℕ) (s : PushState) (track : HeaderTrack) (said run : Run) (r : Result Run Cause) → Knows headerless before s → sort_of box ≡ Moof
    → moof_run no_defaults box ≡ Ok said → track_of before box ≡ Some track → moof_run track.defaults box ≡ r → Follows headerless before box (awaited r track s box) (Ok None)
moof_run_follows laws headerless before box s track said run (Ok again) k e f t g = (refl, awaits headerless before box s track again k e t g)
moof_run_follows laws headerless before box s track said run (Err cause) k e f t g = let no = laws.same_cause track.defaults no_defaults box cause g in absurd cc

moof_track_follows : Fragments → (headerless : Bool) (before : List (List ℕ)) (box : List ℕ) (s : PushState) (said : Run) (track : Option HeaderTrack) → Knows headerless before s → sort_of box ≡ Moof
    → moof_run no_defaults box ≡ Ok said → track_of before box ≡ track → Follows headerless before box (pending track s box) (moof_gives (place_behind before) (Ok said) track)
moof_track_follows laws headerless before box s said None k e f t = refused_follows headerless before box s.at (place_behind before) UnknownTrack k.at
moof_track_follows laws headerless before box s said (Some track) k e f t = moof_run_follows laws headerless before box s track said said (moof_run track.defaults box) k e f t refl

moof_follows : Fragments → (headerless : Bool) (before : List (List ℕ)) (box : List ℕ) (s : PushState) (said : Result Run Cause) → Knows headerless before s → sort_of box ≡ Moof → moof_run no_defaults box ≡ said
    → Follows headerless before box (moof_taken said s box) (moof_gives (place_behind before) said (track_of before box))
moof_follows laws headerless before box s (Err cause) k e f = refused_follows headerless before box s.at (place_behind before) cause k.at
moof_follows laws headerless before box s (Ok said) k e f =
    let found : track_of before box ≡ track_in s.stage said.id =
    track_found before box said.id (laws.same_track no_defaults box said f) ∙ sym (track_same before s.stage said.id k.stage) in
    subst (λ (t : Option HeaderTrack). Follows headerless before box (pending t s box) (moof_gives (place_behind before) (Ok said) (track_of before box))) found
    (moof_track_follows laws headerless before box s said (track_of before box) k e f refl)

-- ---- a box that is passed over

pass_follows : (headerless : Bool) (before : List (List ℕ)) (box : List ℕ) (s : PushState) → Knows headerless before s → IsApart before box → is_moof (sort_of box) ≡ false → s.moof ≡ None
    → Follows headerless before box (Ok (None, passed s (length box))) (Ok None)
pass_follows headerless before box s k a plain none = (
  refl,
  record {
    headerless_is = k.headerless_is;
    at = place_more before box s.at k.at;
    stage = stage_same before box s.stage a k.stage;
    moof =
        let m : MoofIs (before ++ box ∷ []) None = last_more before box ∙ ap (λ (v : Bool). cond v (Some box) None) plain in
        subst (MoofIs (before ++ box ∷ [])) (sym none) m;
  },
)

-- ---- a box of a header

-- what stays where a box of a header came
staged_known : (headerless : Bool) (before : List (List ℕ)) (box : List ℕ) (s : PushState) (stage : HeaderStage)
    → Knows headerless before s → StageIs (before ++ box ∷ []) stage → is_moof (sort_of box) ≡ false → s.moof ≡ None
    → Knows headerless (before ++ box ∷ []) (record s { stage = stage; at = past s.at (length box) })
staged_known headerless before box s stage k is plain none = record {
  headerless_is = k.headerless_is;
  at = place_more before box s.at k.at;
  stage = is;
  moof =
      let m : MoofIs (before ++ box ∷ []) None = last_more before box ∙ ap (λ (v : Bool). cond v (Some box) None) plain in
      subst (MoofIs (before ++ box ∷ [])) (sym none) m;
}

-- the header at its later box
header_follows : (headerless : Bool) (before : List (List ℕ)) (box : List ℕ) (s : PushState) (said : Result Header Cause)
    → Knows headerless before s → header_said (before ++ box ∷ []) ≡ Some said → is_moof (sort_of box) ≡ false → s.moof ≡ None
    → Follows headerless before box (header_taken said s (length box)) (header_gives (place_behind before) (header_said (before ++ box ∷ [])))
header_follows headerless before box s (Err cause) k e plain none = rw e (refused_follows headerless before box s.at (place_behind before) cause k.at)
header_follows headerless before box s (Ok h) k e plain none = rw e (refl, staged_known headerless before box s (Complete h.tracks) k (h, e, refl) plain none)

-- the first of the two
half_follows : (headerless : Bool) (before : List (List ℕ)) (box : List ℕ) (s : PushState) (stage : HeaderStage)
    → Knows headerless before s → header_said (before ++ box ∷ []) ≡ None → StageIs (before ++ box ∷ []) stage → is_moof (sort_of box) ≡ false → s.moof ≡ None
    → Follows headerless before box (Ok (None, record s { stage = stage; at = past s.at (length box) })) (header_gives (place_behind before) (header_said (before ++ box ∷ [])))
half_follows headerless before box s stage k e is plain none = rw e (refl, staged_known headerless before box s stage k is plain none)

-- a first moov
moov_is_first : (before : List (List ℕ)) (box : List ℕ) → sort_of box ≡ Moov → first_moov before ≡ None
    → (first_manifest (before ++ box ∷ []) ≡ first_manifest before) × (first_moov (before ++ box ∷ []) ≡ Some box)
unfolding first_manifest first_moov
moov_is_first before box e none = (find_on (λ b. is_manifest (sort_of b)) before box (ap is_manifest e), find_new (λ b. is_moov (sort_of b)) before box (ap is_moov e) none)

manifest_is_first : (before : List (List ℕ)) (box : List ℕ) → sort_of box ≡ Manifest → first_manifest before ≡ None
    → (first_manifest (before ++ box ∷ []) ≡ Some box) × (first_moov (before ++ box ∷ []) ≡ first_moov before)
unfolding first_manifest first_moov
manifest_is_first before box e none = (find_new (λ b. is_manifest (sort_of b)) before box (ap is_manifest e) none, find_on (λ b. is_moov (sort_of b)) before box (ap is_moov e))

-- a later one of the two changes no header
moov_is_later : (before : List (List ℕ)) (box moov : List ℕ) → sort_of box ≡ Moov → first_moov before ≡ Some moov → IsApart before box
unfolding first_manifest first_moov
moov_is_later before box moov e f = (find_on (λ b. is_manifest (sort_of b)) before box (ap is_manifest e), find_old (λ b. is_moov (sort_of b)) before box moov f ∙ sym f)

manifest_is_later : (before : List (List ℕ)) (box manifest : List ℕ) → sort_of box ≡ Manifest → first_manifest before ≡ Some manifest → IsApart before box
unfolding first_manifest first_moov
manifest_is_later before box manifest e f = (find_old (λ b. is_manifest (sort_of b)) before box manifest f ∙ sym f, find_on (λ b. is_moov (sort_of b)) before box (ap is_moov e))

both_said : (before : List (List ℕ)) (manifest moov : List ℕ) → first_manifest before ≡ Some manifest → first_moov before ≡ Some moov → header_said before ≡ Some (header_of (manifest_text manifest) (box_of moov).body)
both_said before manifest moov e f = rw (e, f) refl

no_manifest_said : (before : List (List ℕ)) → first_manifest before ≡ None → header_said before ≡ None
no_manifest_said before e = rw e refl

no_moov_said : (before : List (List ℕ)) (manifest : Option (List ℕ)) → first_manifest before ≡ manifest → first_moov before ≡ None → header_said before ≡ None
no_moov_said before (Some manifest) e f = rw (e, f) refl
no_moov_said before None e f = rw e refl

some_is : (o : Option (List ℕ)) → is_some o ≡ true → (x : List ℕ) × (o ≡ Some x)
some_is (Some x) e = (x, refl)
some_is None e = absurd cc

-- what is done with a whole box whose head shows no cause
abbrev pub done : Bool → PushState → TopBox → List ℕ → Step
done read s sort box = cond read (taken s sort box) (Ok (None, passed s (length box)))

abbrev HeaderDone : Bool → List (List ℕ) → List ℕ → PushState → TopBox → Type 0
HeaderDone headerless before box s sort =
    Follows headerless before box (done (is_read before sort) s sort box) (cond (is_read before sort) (header_gives (place_behind before) (header_said (before ++ box ∷ []))) (Ok None))

moov_at : (headerless : Bool) (before : List (List ℕ)) (box : List ℕ) (s : PushState) (stage : HeaderStage)
    → Knows headerless before s → s.stage ≡ stage → StageIs before stage → sort_of box ≡ Moov → s.moof ≡ None → HeaderDone headerless before box s Moov
unfolding taken
moov_at headerless before box s (Complete tracks) k g is e none =
    let some = some_is (first_moov before) (both_there before (Ok is.0) is.1).1 in
    let f : first_moov before ≡ Some some.0 = some.1 in
    rw f (pass_follows headerless before box s k (moov_is_later before box some.0 e f) (ap is_moof e) none)
moov_at headerless before box s (Gathering manifest (Some moov)) k g is e none =
    let f : first_moov before ≡ Some moov = is.1 in
    rw f (pass_follows headerless before box s k (moov_is_later before box moov e f) (ap is_moof e) none)
moov_at headerless before box s (Gathering (Some manifest) None) k g is e none =
    let f : first_moov before ≡ None = is.1 in
    let new = moov_is_first before box e f in
    rw f (subst (λ (x : HeaderStage). Follows headerless before box (moov_taken x s box) (header_gives (place_behind before) (header_said (before ++ box ∷ [])))) (sym g)
    (header_follows headerless before box s (header_of (manifest_text manifest) (box_of box).body) k (both_said (before ++ box ∷ []) manifest box (new.0 ∙ is.0) new.1) (ap is_moof e) none))
moov_at headerless before box s (Gathering None None) k g is e none =
    let f : first_moov before ≡ None = is.1 in
    let new = moov_is_first before box e f in
    let said = no_manifest_said (before ++ box ∷ []) (new.0 ∙ is.0) in
    rw f (subst (λ (x : HeaderStage). Follows headerless before box (moov_taken x s box) (header_gives (place_behind before) (header_said (before ++ box ∷ [])))) (sym g)
    (half_follows headerless before box s (Gathering None (Some box)) k said (new.0 ∙ is.0, new.1, said) (ap is_moof e) none))

manifest_at : (headerless : Bool) (before : List (List ℕ)) (box : List ℕ) (s : PushState) (stage : HeaderStage)
    → Knows headerless before s → s.stage ≡ stage → StageIs before stage → sort_of box ≡ Manifest → s.moof ≡ None → HeaderDone headerless before box s Manifest
unfolding taken
manifest_at headerless before box s (Complete tracks) k g is e none =
    let some = some_is (first_manifest before) (both_there before (Ok is.0) is.1).0 in
    let f : first_manifest before ≡ Some some.0 = some.1 in
    rw f (pass_follows headerless before box s k (manifest_is_later before box some.0 e f) (ap is_moof e) none)
manifest_at headerless before box s (Gathering (Some manifest) moov) k g is e none =
    let f : first_manifest before ≡ Some manifest = is.0 in
    rw f (pass_follows headerless before box s k (manifest_is_later before box manifest e f) (ap is_moof e) none)
manifest_at headerless before box s (Gathering None (Some moov)) k g is e none =
    let f : first_manifest before ≡ None = is.0 in
    let new = manifest_is_first before box e f in
    rw f (subst (λ (x : HeaderStage). Follows headerless before box (manifest_taken x s box) (header_gives (place_behind before) (header_said (before ++ box ∷ [])))) (sym g)
    (header_follows headerless before box s (header_of (manifest_text box) (box_of moov).body) k (both_said (before ++ box ∷ []) box moov new.0 (new.1 ∙ is.1)) (ap is_moof e) none))
manifest_at headerless before box s (Gathering None None) k g is e none =
    let f : first_manifest before ≡ None = is.0 in
    let new = manifest_is_first before box e f in
    let said = no_moov_said (before ++ box ∷ []) (Some box) new.0 (new.1 ∙ is.1) in
    rw f (subst (λ (x : HeaderStage). Follows headerless before box (manifest_taken x s box) (header_gives (place_behind before) (header_said (before ++ box ∷ [])))) (sym g)
    (half_follows headerless before box s (Gathering (Some box) None) k said (new.0, new.1 ∙ is.1, said) (ap is_moof e) none))

-- ---- where no moof stands before

pub top_follows : Fragments → (headerless : Bool) (before : List (List ℕ)) (box : List ℕ) (s : PushState) (sort : TopBox) → Knows headerless before s → sort_of box ≡ sort → s.moof ≡ None
    → Follows headerless before box (done (is_read before sort) s sort box) (top_gives before box sort)
unfolding taken
top_follows laws headerless before box s Moof k e none = moof_follows laws headerless before box s (moof_run no_defaults box) k e refl
top_follows laws headerless before box s Mdat k e none = pass_follows headerless before box s k (other_apart before box (ap is_manifest e) (ap is_moov e)) (ap is_moof e) none
top_follows laws headerless before box s Moov k e none = moov_at headerless before box s s.stage k refl k.stage e none
top_follows laws headerless before box s Manifest k e none = manifest_at headerless before box s s.stage k refl k.stage e none
top_follows laws headerless before box s Other k e none = pass_follows headerless before box s k (other_apart before box (ap is_manifest e) (ap is_moov e)) (ap is_moof e) none

-- ---- behind a moof

mdat_apart : (before : List (List ℕ)) (box : List ℕ) → sort_of box ≡ Mdat → IsApart before box
mdat_apart before box e = other_apart before box (ap is_manifest e) (ap is_moov e)

fragment_follows : (headerless : Bool) (before : List (List ℕ)) (box : List ℕ) (s : PushState) (p : PendingMoof) (at : ℕ) (raw : Result RawFragment Cause) → Knows headerless before s → sort_of box ≡ Mdat → p.at ≡ at
    → Follows headerless before box (fragment_taken raw p s (length box)) (fragment_of at p.track raw)
fragment_follows headerless before box s p at (Err cause) k e f = refused_follows headerless before box p.at at cause f
fragment_follows headerless before box s p at (Ok raw) k e f = (
  refl,
  record {
    headerless_is = k.headerless_is;
    at = place_more before box s.at k.at;
    stage = stage_same before box s.stage (mdat_apart before box e) k.stage;
    moof = last_more before box ∙ ap (λ (x : TopBox). cond (is_moof x) (Some box) None) e;
  },
)

pub mdat_follows : Fragments → (headerless : Bool) (before : List (List ℕ)) (box : List ℕ) (s : PushState) (p : PendingMoof) → Knows headerless before s → sort_of box ≡ Mdat → (is : MoofIs before (Some p))
    → Follows headerless before box (mdat_taken (Some p) s box) (fragment_gives (place_of_last before is.0) is.0 box (track_of before is.0))
mdat_follows laws headerless before box s p k e is =
    let raw : frag p.track.defaults is.0 box ≡ finish p.size box p.run =
    laws.two_steps p.track.defaults is.0 box
    ∙ ap (λ (r : Result Run Cause). and_then r (last is.0 box)) is.5
    ∙ ap (λ (n : ℕ). finish n box p.run) (sym is.2) in
    rw (is.4, raw) (fragment_follows headerless before box s p (place_of_last before is.0) (finish p.size box p.run) k e is.3)
