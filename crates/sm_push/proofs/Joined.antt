-- Canonical texts one behind another are a headerless body.
use Rattle.std.proofs.Common.{◌≡◌, ℕ, ◌+◌, ◌-◌, ◌<◌, ◌^◌, true, false, ltb, List, [], ◌∷◌, ◌++◌, length, map, Bool, Option, Some, None, refl, sym, ap, subst, ◌∙◌, arith}
use Rattle.std.specs.Prelude.{codes, is_some, Result, Ok}
use Rattle.std.specs.List.{flat_map, AllByRecursion}
use Rattle.std.proofs.lemmas.Bool.{le-ltb}
use Rattle.std.proofs.lemmas.List.{append_assoc, append-nil, length-append}
use Rattle.sm_model.specs.declared.cause.Cause.{Cause}
use Rattle.sm_model.specs.declared.fragment.Fragment.{Fragment}
use Rattle.sm_model.specs.declared.run.Defaults.{Defaults}
use Rattle.sm_model.specs.declared.run.Run.{Run}
use Rattle.sm_model.specs.declared.run.RawFragment.{RawFragment}
use Rattle.sm_model.specs.declared.sample.Sample.{Sample}
use Rattle.sm_push.specs.declared.state.PushState.{PushState}
use Rattle.sm_push.specs.declared.state.PendingMoof.{PendingMoof}
use Rattle.sm_push.specs.declared.state.HeaderStage.TheVariants.{Gathering, Complete}
use Rattle.sm_push.specs.declared.state.TopBox.TheVariants.{Moof, Mdat}
use Rattle.sm_push.specs.declared.state.BoxDecision.{BoxDecision}
use Rattle.sm_push.specs.declared.state.BoxDecision.TheVariants.{Wait, Refuse, Pass, Take}
use Rattle.sm_model.specs.Numbers.{number32}
use Rattle.sm_model.specs.Boxes.{IsOneBox}
use Rattle.sm_model.specs.Fragments.{sample_bytes}
use Rattle.sm_model.specs.FragText.{box, mfhd, traf_box, moof_len}
use Rattle.sm_model.specs.FragText as text
use Rattle.sm_model.specs.Frag.{frag, moof_run, finish, last}
use Rattle.sm_model.specs.Steps.{and_then}
use Rattle.sm_model.specs.Canonical.{Canonical, IsCanonical, IsJoin, text_of}
use Rattle.sm_model.specs.Written.{IsWritten, run_again, raw_again}
use Rattle.sm_model.specs.Moov.{no_defaults}
use Rattle.sm_model.specs.Items.{Frag}
use Rattle.sm_model.specs.declared.header.HeaderTrack.{HeaderTrack}
use Rattle.sm_model.specs.declared.cause.Refusal.{Refusal}
use Rattle.sm_push.specs.declared.state.HeaderStage.{HeaderStage}
use Rattle.sm_push.specs.PushHeads.{decision, at_top, within}
use Rattle.sm_push.specs.PushBoxes.{Step, past, taken, moof_taken, awaited, awaiting, pending, track_in, fragment_taken, named}
use Rattle.sm_push.specs.Body.{Outcome, ended, led_by, body, body_end, cut_off, header_in, push_start, IsFrontOf}
use Rattle.sm_box.specs.Heads.{head_of}
use Rattle.sm_box.specs.declared.head.Head.TheVariants.{Whole}
use Rattle.sm_push.specs.Heads.{by_head}
use Rattle.sm_push.specs.Boxes.{bytes_of, box_gives, step_gives, rest_gives, rest_inside, boxes_give}
use Rattle.sm_push.specs.Rules.{numbered}
use Rattle.sm_push.specs.Header.{track_with}
use Rattle.sm_push.specs.Joins.{given_by, IsOfHeader, FollowsHeader}
use Rattle.sm_push.proofs.HeadLemmas.{decision_is}
use Rattle.sm_model.specs.Items.{Given}
use Rattle.sm_push.proofs.Boxes.{ReadsWhole, boxes_walk}
use Rattle.sm_push.proofs.Splits.{split_all}
use Rattle.sm_push.proofs.Walking.{walk_front}
use Rattle.sm_push.proofs.RuleSteps.{Fragments}
use Rattle.sm_push.proofs.RuleBodies.{at_end, body_is, led_twice, start}

-- what the laws of texts say
pub record Texts : Type 0 where
  pub moof_len_is : (seq id : ℕ) (f : Fragment) (ahead : List (ℕ × ℕ)) → length (text.moof seq id f ahead) ≡ moof_len f.samples ahead
  pub mdat_len_is : (samples : List Sample) → length (text.mdat samples) ≡ 8 + sample_bytes samples
  pub moof_whole : (seq id : ℕ) (f : Fragment) (ahead : List (ℕ × ℕ)) → IsWritten id f ahead → IsOneBox (text.moof seq id f ahead)
  pub mdat_whole : (id : ℕ) (f : Fragment) (ahead : List (ℕ × ℕ)) → IsWritten id f ahead → IsOneBox (text.mdat f.samples)
  pub moof_says : (d : Defaults) (seq id : ℕ) (f : Fragment) (ahead : List (ℕ × ℕ)) → IsWritten id f ahead → moof_run d (text.moof seq id f ahead) ≡ Ok (run_again id (moof_len f.samples ahead + 8) f ahead)
  pub both_say : (d : Defaults) (seq id : ℕ) (f : Fragment) (ahead : List (ℕ × ℕ)) → IsWritten id f ahead → frag d (text.moof seq id f ahead) (text.mdat f.samples) ≡ Ok (raw_again id f ahead)
  pub two_steps : (d : Defaults) (m md : List ℕ) → frag d m md ≡ and_then (moof_run d m) (last m md)
  pub head : (kind body rest : List ℕ) → length kind ≡ 4 → 8 + length body < 2 ^ 32 → head_of (box (8 + length body) kind body ++ rest) ≡ Whole kind 8 (8 + length body)

len32 : (n : ℕ) → length (number32 n) ≡ 4
unfolding number32
len32 n = refl

-- the head of a text
text_head : Texts → (size : ℕ) (kind body : List ℕ) → length kind ≡ 4 → length (box size kind body) ≡ size → size < 2 ^ 32 → head_of (box size kind body) ≡ Whole kind 8 size
text_head laws size kind body k len lt =
    let e : 8 + length body ≡ size = omega (arith, k, len, len32 size, length-append (number32 size) (kind ++ body), length-append kind body) in
    subst (λ (n : ℕ). head_of (box n kind body) ≡ Whole kind 8 n) e
    (ap head_of (sym (append-nil (box (8 + length body) kind body))) ∙ laws.head kind body [] k (omega (arith, e)))

abbrev moof_of : Canonical → List ℕ
moof_of c = text.moof c.seq c.id c.fragment []

abbrev mdat_of : Canonical → List ℕ
mdat_of c = text.mdat c.fragment.samples

abbrev run_of : Canonical → Run
run_of c = run_again c.id (moof_len c.fragment.samples [] + 8) c.fragment []

-- the fragment of a text, which is of a track that is known at this stage
pub record IsOfStage (stage : HeaderStage) (c : Canonical) : Type 0 where
  pub written : IsWritten c.id c.fragment []
  pub track : HeaderTrack
  pub known : track_in stage c.id ≡ Some track
  pub stream : track.stream ≡ c.fragment.stream
  pub bitrate : track.bitrate ≡ c.fragment.bitrate

-- fragments may come
abbrev pub MayCome : Bool → HeaderStage → Type 0
MayCome headerless stage = (size : ℕ) → at_top headerless stage Moof size ≡ within Moof size size 2097152

abbrev boxes_of : List Canonical → List (List ℕ)
boxes_of [] = []
boxes_of (c ∷ cs) = moof_of c ∷ mdat_of c ∷ boxes_of cs

-- between two texts
abbrev between : Bool → HeaderStage → ℕ → PushState
between headerless stage at = record { headerless = headerless; stage = stage; moof = None; at = at }

module _ (laws : Texts) (headerless : Bool) (stage : HeaderStage) (may : MayCome headerless stage) where
  -- behind the moof of one
  abbrev amid : ℕ → (c : Canonical) → HeaderTrack → PushState
  amid at c track = awaiting (between headerless stage at) (Some (record { run = run_of c; size = length (moof_of c); at = at; track = track })) (length (moof_of c))

  moof_decided : (at : ℕ) (c : Canonical) → IsOfStage stage c → decision (between headerless stage at) (moof_of c) ≡ Take Moof (moof_len c.fragment.samples [])
  moof_decided at c is =
      let few = is.written.valid.few in
      let small : ltb 2097152 (moof_len c.fragment.samples []) ≡ false = le-ltb _ _ (omega (arith, few)) in
      let h : head_of (moof_of c) ≡ Whole (codes "moof") 8 (moof_len c.fragment.samples []) =
      text_head laws (moof_len c.fragment.samples []) (codes "moof") (mfhd c.seq ++ traf_box c.id (moof_len c.fragment.samples [] + 8) c.fragment []) refl
      (laws.moof_len_is c.seq c.id c.fragment []) (omega (arith, few)) in
      decision_is (between headerless stage at) (moof_of c) ∙ ap (by_head (between headerless stage at) (moof_of c)) h ∙ may (moof_len c.fragment.samples []) ∙ rw small refl

  mdat_decided : (at : ℕ) (c : Canonical) (is : IsOfStage stage c) → decision (amid at c is.track) (mdat_of c) ≡ Take Mdat (8 + sample_bytes c.fragment.samples)
  mdat_decided at c is =
      let short = is.written.valid.short in
      let small : ltb 67108864 (8 + sample_bytes c.fragment.samples - 8) ≡ false = le-ltb _ _ (omega (arith, short)) in
      let h : head_of (mdat_of c) ≡ Whole (codes "mdat") 8 (8 + sample_bytes c.fragment.samples) =
      text_head laws (8 + sample_bytes c.fragment.samples) (codes "mdat") (flat_map (λ s. s.bytes) c.fragment.samples) refl
      (laws.mdat_len_is c.fragment.samples) (omega (arith, short)) in
      decision_is (amid at c is.track) (mdat_of c) ∙ ap (by_head (amid at c is.track) (mdat_of c)) h ∙ rw small refl

  moof_step : (at : ℕ) (c : Canonical) (is : IsOfStage stage c) → taken (between headerless stage at) Moof (moof_of c) ≡ Ok (None, amid at c is.track)
  unfolding taken
  moof_step at c is =
      let says : (d : Defaults) → moof_run d (moof_of c) ≡ Ok (run_of c) = λ d. laws.moof_says d c.seq c.id c.fragment [] is.written in
      let s = between headerless stage at in
      ap (λ (r : Result Run Cause). moof_taken r s (moof_of c)) (says no_defaults)
      ∙ ap (λ (t : Option HeaderTrack). pending t s (moof_of c)) is.known
      ∙ ap (λ (r : Result Run Cause). awaited r is.track s (moof_of c)) (says is.track.defaults)

  same_fragment : (c : Canonical) (is : IsOfStage stage c) → named is.track (raw_again c.id c.fragment []) ≡ c.fragment
  same_fragment c is =
      let made : List ℕ → ℕ → Fragment = λ stream bitrate. record c.fragment { stream = stream; bitrate = bitrate } in
      ap (λ (x : List ℕ). made x is.track.bitrate) is.stream ∙ ap (made c.fragment.stream) is.bitrate

  mdat_step : (at : ℕ) (c : Canonical) (is : IsOfStage stage c)
      → taken (amid at c is.track) Mdat (mdat_of c) ≡ Ok (Some (given_by c), between headerless stage (past (past at (length (moof_of c))) (length (mdat_of c))))
  unfolding taken
  mdat_step at c is =
      let w = is.written in
      let raw : finish (length (moof_of c)) (mdat_of c) (run_of c) ≡ Ok (raw_again c.id c.fragment []) =
      ap (λ (r : Result Run Cause). and_then r (last (moof_of c) (mdat_of c))) (sym (laws.moof_says no_defaults c.seq c.id c.fragment [] w))
      ∙ sym (laws.two_steps no_defaults (moof_of c) (mdat_of c))
      ∙ laws.both_say no_defaults c.seq c.id c.fragment [] w in
      let p : PendingMoof = record { run = run_of c; size = length (moof_of c); at = at; track = is.track } in
      let next : PushState = between headerless stage (past (past at (length (moof_of c))) (length (mdat_of c))) in
      let end : Fragment → Step = λ f. Ok (Some (Frag c.id f), next) in
      ap (λ (r : Result RawFragment Cause). fragment_taken r p (amid at c is.track) (length (mdat_of c))) raw ∙ ap end (same_fragment c is)

  one_text : (at : ℕ) (c : Canonical) (boxes : List (List ℕ)) → IsOfStage stage c
      → boxes_give (between headerless stage at) (moof_of c ∷ mdat_of c ∷ boxes) []
      ≡ led_by (given_by c ∷ []) (boxes_give (between headerless stage (past (past at (length (moof_of c))) (length (mdat_of c)))) boxes [])
  one_text at c boxes is =
      let s = between headerless stage at in
      let go : PushState → Outcome = λ next. boxes_give next (mdat_of c ∷ boxes) [] in
      let on : PushState → Outcome = λ next. boxes_give next boxes [] in
      ap (λ (d : BoxDecision). box_gives s (moof_of c) d go) (moof_decided at c is)
      ∙ ap (λ (r : Step). step_gives s r go) (moof_step at c is)
      ∙ ap (λ (d : BoxDecision). box_gives (amid at c is.track) (mdat_of c) d on) (mdat_decided at c is)
      ∙ ap (λ (r : Step). step_gives (amid at c is.track) r on) (mdat_step at c is)

  all_texts : (at : ℕ) (cs : List Canonical) → AllByRecursion (IsOfStage stage) cs
      → (n : ℕ) × (boxes_give (between headerless stage at) (boxes_of cs) [] ≡ led_by (map given_by cs) (ended (between headerless stage n) false))
  all_texts at [] is = (at, at_end (between headerless stage at))
  all_texts at (c ∷ cs) is =
      let more = all_texts (past (past at (length (moof_of c))) (length (mdat_of c))) cs is.1 in (
        more.0,
        one_text at c (boxes_of cs) is.0 ∙ ap (led_by (given_by c ∷ [])) more.1 ∙ led_twice (given_by c ∷ []) (map given_by cs) (ended (between headerless stage more.0) false),
      )

ones : Texts → (stage : HeaderStage) (cs : List Canonical) → AllByRecursion (IsOfStage stage) cs → AllByRecursion IsOneBox (boxes_of cs)
ones laws stage [] is = tt
ones laws stage (c ∷ cs) is = (
  laws.moof_whole c.seq c.id c.fragment [] is.0.written,
  (laws.mdat_whole c.id c.fragment [] is.0.written, ones laws stage cs is.1),
)

joined : (cs : List Canonical) → bytes_of (boxes_of cs) ≡ flat_map text_of cs
joined [] = refl
joined (c ∷ cs) = ap (λ (b : List ℕ). moof_of c ++ (mdat_of c ++ b)) (joined cs) ∙ sym (append_assoc (moof_of c) (mdat_of c) (flat_map text_of cs))

-- ---- without a header

abbrev begun : HeaderStage
begun = Gathering None None

of_number : (c : Canonical) → IsCanonical c → IsOfStage begun c
of_number c h = record {
  written = record { valid = h.valid; few = omega arith; id_fits = h.id_fits; samples = h.samples; pairs = λ k d lt. absurd (omega (arith, lt)) };
  track = numbered c.id;
  known = refl;
  stream = sym h.stream;
  bitrate = sym h.bitrate;
}

of_numbers : (cs : List Canonical) → AllByRecursion IsCanonical cs → AllByRecursion (IsOfStage begun) cs
of_numbers [] is = tt
of_numbers (c ∷ cs) is = (of_number c is.0, of_numbers cs is.1)

pub join_gives : Texts → ReadsWhole → (b : List ℕ) (cs : List Canonical) → IsJoin b cs → (n : ℕ) × (body true b ≡ led_by (map given_by cs) (ended (between true begun n) false))
join_gives laws reads b cs is =
    let each = of_numbers cs is.canonical in
    let all = all_texts laws true begun (λ size. refl) 0 cs each in
    (all.0, ap (body true) (is.text ∙ sym (joined cs)) ∙ body_is reads true (boxes_of cs) (ones laws begun cs each) ∙ all.1)

pub join_items : Texts → ReadsWhole → (b : List ℕ) (cs : List Canonical) → IsJoin b cs → (body true b).items ≡ map given_by cs
join_items laws reads b cs is = ap (λ (o : Outcome). o.items) (join_gives laws reads b cs is).1 ∙ append-nil (map given_by cs)

pub join_ends : Texts → ReadsWhole → (b : List ℕ) (cs : List Canonical) → IsJoin b cs → body_end true b ≡ None
join_ends laws reads b cs is = ap (λ (o : Outcome). cut_off o.inside (length b) o.refusal) (join_gives laws reads b cs is).1

-- ---- behind a header

-- what is not refused and not cut off
not_cut : (inside : Bool) (n : ℕ) (r : Option Refusal) → cut_off inside n r ≡ None → (r ≡ None) × (inside ≡ false)
not_cut inside n (Some r) e = absurd cc
not_cut true n None e = absurd cc
not_cut false n None e = (refl, refl)

no_rest : (s : PushState) (d : BoxDecision) (rest : List ℕ) (moof : Bool) → (rest_gives s d (rest_inside rest moof)).refusal ≡ None → (rest_gives s d (rest_inside rest moof)).inside ≡ false → rest ≡ []
no_rest s d [] moof r e = refl
no_rest s Wait (x ∷ rest) moof r e = absurd cc
no_rest s (Refuse cause) (x ∷ rest) moof r e = absurd cc
no_rest s (Pass size) (x ∷ rest) moof r e = absurd cc
no_rest s (Take sort size) (x ∷ rest) moof r e = absurd cc

-- a track is known only where a header was read
complete : (headerless : Bool) (stage : HeaderStage) (id : ℕ) (t : HeaderTrack) → track_with id (header_in stage) ≡ Some t → (track_in stage id ≡ Some t) × MayCome headerless stage
complete headerless (Gathering manifest moov) id t e = absurd cc
complete headerless (Complete tracks) id t e = (e, λ size. refl)

of_track : (stage : HeaderStage) (c : Canonical) → IsOfHeader (header_in stage) c → IsOfStage stage c
of_track stage c h = record {
  written = record { valid = h.valid; few = omega arith; id_fits = h.id_fits; samples = h.samples; pairs = λ k d lt. absurd (omega (arith, lt)) };
  track = h.track;
  known = (complete false stage c.id h.track h.named).0;
  stream = h.stream;
  bitrate = h.bitrate;
}

of_tracks : (stage : HeaderStage) (cs : List Canonical) → AllByRecursion (IsOfHeader (header_in stage)) cs → AllByRecursion (IsOfStage stage) cs
of_tracks stage [] is = tt
of_tracks stage (c ∷ cs) is = (of_track stage c is.0, of_tracks stage cs is.1)

each_both : (xs ys : List (List ℕ)) → AllByRecursion IsOneBox xs → AllByRecursion IsOneBox ys → AllByRecursion IsOneBox (xs ++ ys)
each_both [] ys a b = b
each_both (x ∷ xs) ys a b = (a.0, each_both xs ys a.1 b)

bytes_both : (xs ys : List (List ℕ)) → bytes_of (xs ++ ys) ≡ bytes_of xs ++ bytes_of ys
bytes_both [] ys = refl
bytes_both (x ∷ xs) ys = ap (λ (b : List ℕ). x ++ b) (bytes_both xs ys) ∙ sym (append_assoc x (bytes_of xs) (bytes_of ys))

-- a state without a moof that waits
same_state : (s : PushState) → s.moof ≡ None → s ≡ between s.headerless s.stage s.at
same_state s none = ap (λ (m : Option PendingMoof). let t : PushState = record { headerless = s.headerless; stage = s.stage; moof = m; at = s.at } in t) none

texts_give : Texts → (s : PushState) (cs : List Canonical) → s.moof ≡ None → AllByRecursion (IsOfHeader (header_in s.stage)) cs
    → boxes_give s (boxes_of cs) [] ≡ led_by (map given_by cs) (ended s false)
texts_give laws s [] none is = at_end s ∙ ap (λ (m : Option PendingMoof). ended s (is_some m)) none
texts_give laws s (c ∷ cs) none is =
    let all = all_texts laws s.headerless s.stage (complete s.headerless s.stage c.id is.0.track is.0.named).1 s.at (c ∷ cs) (of_tracks s.stage (c ∷ cs) is) in
    ap (λ (t : PushState). boxes_give t (boxes_of (c ∷ cs)) []) (same_state s none) ∙ all.1

none_before : (p b : Outcome) → IsFrontOf p b → b.refusal ≡ None → (o : Option Refusal) → p.refusal ≡ o → p.refusal ≡ None
none_before p b f none None e = e
none_before p b f none (Some r) e = absurd (let also = (f.refusal r e).1 in cc)

no_moof : (m : Option PendingMoof) → is_some m ≡ false → m ≡ None
no_moof None e = refl
no_moof (Some p) e = absurd cc

module _ (laws : Texts) (fragments : Fragments) (reads : ReadsWhole) where
  -- a body that isn't refused and isn't cut off is whole boxes, and this is left behind them
  record IsWhole (front : List ℕ) : Type 0 where
    boxes : List (List ℕ)
    each : AllByRecursion IsOneBox boxes
    bytes_are : front ≡ bytes_of boxes
    next : PushState
    none : next.moof ≡ None
    stage_is : header_in next.stage ≡ (body false front).header
    gives : (ys : List (List ℕ)) → boxes_give (push_start false) (boxes ++ ys) [] ≡ led_by (body false front).items (boxes_give next ys [])

  whole : (front : List ℕ) → body_end false front ≡ None → IsWhole front
  whole front ends =
      let (boxes, rest, s) = split_all reads front in
      let o = not_cut (body false front).inside (length front) (body false front).refusal ends in
      let given : body false front ≡ boxes_give (push_start false) boxes rest = ap (body false) s.whole ∙ boxes_walk reads (push_start false) boxes rest s.each s.last in
      let fine : (body false (bytes_of boxes)).refusal ≡ None =
      none_before (body false (bytes_of boxes)) (body false front) (subst (λ (b : List ℕ). IsFrontOf (body false (bytes_of boxes)) (body false b)) (sym s.whole) (walk_front (push_start false) 0 (bytes_of boxes) rest)) o.0
      (body false (bytes_of boxes)).refusal refl in
      let w = start fragments reads false boxes s.each fine in
      let here : body false front ≡ led_by (boxes_give (push_start false) boxes []).items (rest_gives w.next (decision w.next rest) (rest_inside rest (is_some w.next.moof))) =
      given ∙ ap (λ (bs : List (List ℕ)). boxes_give (push_start false) bs rest) (sym (append-nil boxes)) ∙ w.gives [] rest in
      let nothing : rest ≡ [] = no_rest w.next (decision w.next rest) rest (is_some w.next.moof) (sym (ap (λ (x : Outcome). x.refusal) here) ∙ o.0) (sym (ap (λ (x : Outcome). x.inside) here) ∙ o.1) in
      let same : body false front ≡ boxes_give (push_start false) boxes [] = given ∙ ap (boxes_give (push_start false) boxes) nothing in
      let end : body false front ≡ led_by (boxes_give (push_start false) boxes []).items (ended w.next (is_some w.next.moof)) =
      same ∙ ap (λ (bs : List (List ℕ)). boxes_give (push_start false) bs []) (sym (append-nil boxes)) ∙ w.gives [] [] ∙ ap (led_by (boxes_give (push_start false) boxes []).items) (at_end w.next) in
      record {
        boxes = boxes;
        each = s.each;
        bytes_are = s.whole ∙ ap (λ (r : List ℕ). bytes_of boxes ++ r) nothing ∙ append-nil (bytes_of boxes);
        next = w.next;
        none = no_moof w.next.moof (sym (ap (λ (x : Outcome). x.inside) end) ∙ o.1);
        stage_is = sym (ap (λ (x : Outcome). x.header) end);
        gives = λ ys. w.gives ys [] ∙ ap (λ (x : Outcome). led_by x.items (boxes_give w.next ys [])) (sym same);
      }

  pub follows : (front b : List ℕ) (cs : List Canonical) → FollowsHeader front b cs
      → body false b ≡ led_by (body false front).items (record { items = map given_by cs; refusal = None; inside = false; header = (body false front).header })
  follows front b cs h =
      let w = whole front h.whole in
      let each : AllByRecursion (IsOfHeader (header_in w.next.stage)) cs = subst (λ (tracks : List HeaderTrack). AllByRecursion (IsOfHeader tracks) cs) (sym w.stage_is) h.each in
      let bytes : b ≡ bytes_of (w.boxes ++ boxes_of cs) = h.text ∙ ap (λ (x : List ℕ). x ++ flat_map text_of cs) w.bytes_are
      ∙ ap (λ (x : List ℕ). bytes_of w.boxes ++ x) (sym (joined cs)) ∙ sym (bytes_both w.boxes (boxes_of cs)) in
      let told : List Given → List HeaderTrack → Outcome = λ items header. record { items = items; refusal = None; inside = false; header = header } in
      ap (body false) bytes
      ∙ body_is reads false (w.boxes ++ boxes_of cs) (each_both w.boxes (boxes_of cs) w.each (ones laws w.next.stage cs (of_tracks w.next.stage cs each)))
      ∙ w.gives (boxes_of cs)
      ∙ ap (led_by (body false front).items) (texts_give laws w.next cs w.none each ∙ ap (λ (xs : List Given). told xs (header_in w.next.stage)) (append-nil (map given_by cs)) ∙ ap (told (map given_by cs)) w.stage_is)

  pub follows_end : (front b : List ℕ) (cs : List Canonical) → FollowsHeader front b cs → body_end false b ≡ None
  follows_end front b cs h = ap (λ (o : Outcome). cut_off o.inside (length b) o.refusal) (follows front b cs h)
