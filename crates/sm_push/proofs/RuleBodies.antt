-- The rules, over whole bodies.
use Rattle.std.proofs.Common.{◌≡◌, ℕ, ◌+◌, ◌-◌, ◌<◌, ◌≤◌, Bool, true, false, cond, ltb, leb, eqb, List, [], ◌∷◌, ◌++◌, length, Option, Some, None, refl, sym, ap, subst, ◌∙◌, inl, inr, arith}
use Rattle.std.specs.Prelude.{◌⊎◌, not, ◌&&◌, ◌||◌, is_some, codes, Result, Ok, Err}
use Rattle.std.specs.Option.{option_to_list}
use Rattle.std.specs.List.{AllByRecursion}
use Rattle.std.proofs.lemmas.Bool.{cases_Bool, and_parts, and_from, leb-true, le-leb}
use Rattle.std.proofs.lemmas.List.{append_assoc, append-nil}
use Rattle.sm_model.specs.declared.cause.Cause.{Cause}
use Rattle.sm_model.specs.declared.cause.Cause.TheVariants.{OpenEnded, BadBox}
use Rattle.sm_model.specs.declared.cause.Refusal.{Refusal}
use Rattle.sm_push.specs.declared.state.PushState.{PushState}
use Rattle.sm_push.specs.declared.state.PendingMoof.{PendingMoof}
use Rattle.sm_push.specs.declared.state.HeaderStage.{HeaderStage}
use Rattle.sm_push.specs.declared.state.HeaderStage.TheVariants.{Gathering, Complete}
use Rattle.sm_push.specs.declared.state.TopBox.{TopBox}
use Rattle.sm_push.specs.declared.state.TopBox.TheVariants.{Moof, Mdat, Moov, Manifest, Other}
use Rattle.sm_push.specs.declared.state.BoxDecision.{BoxDecision}
use Rattle.sm_push.specs.declared.state.BoxDecision.TheVariants.{Wait, Refuse, Pass, Take}
use Rattle.sm_model.specs.Numbers.{number32_at}
use Rattle.sm_model.specs.Boxes.{IsOneBox, head_len, box_len, box_of, starts_whole}
use Rattle.sm_model.specs.Frag.{first_cause}
use Rattle.sm_model.specs.Items.{Given}
use Rattle.sm_push.specs.PushHeads.{decision, ruling, is}
use Rattle.sm_push.specs.PushBoxes.{Step, passed, taken, mdat_taken}
use Rattle.sm_push.specs.Body.{Outcome, ended, refused, led_by, header_in, push_start, body}
use Rattle.sm_model.proofs.BoxLemmas.{lengths}
use Rattle.sm_push.specs.Boxes.{bytes_of, box_gives, step_gives, rest_gives, rest_inside, boxes_give}
use Rattle.sm_push.specs.Rules.{has_user, sort_of, has_head, place_behind, place_of_last, last_moof, track_of, fragment_gives, is_read, head_lines}
use Rattle.sm_push.specs.Rules.{head_cause, whole_gives, unless_head, box_means, refusal_at, cut_means, Adds, Stops}
use Rattle.sm_push.specs.Rules.{header_said, tracks_said}
use Rattle.sm_push.proofs.Stable.{decision-nil}
use Rattle.sm_push.proofs.Splits.{none_whole}
use Rattle.sm_push.proofs.Boxes.{ReadsWhole, boxes_walk}
use Rattle.sm_push.proofs.RuleHeads.{decided, undecided, answer, ruled_behind, ruled_top, StageIs}
use Rattle.sm_push.proofs.RuleSteps.{Fragments, MoofIs, Knows, nothing_known, Follows, done, top_follows, mdat_follows, bytes_more}

-- ---- the decision

abbrev read_in : List (List ℕ) → TopBox → Bool
read_in before sort = is_some (last_moof before) || is_read before sort

abbrev lines_cause : Bool → List (List ℕ) → List ℕ → Option Cause
lines_cause headerless before b = first_cause (head_lines (is_some (last_moof before)) headerless before (sort_of b) (head_len b) (box_len b))

ruled : (headerless : Bool) (before : List (List ℕ)) (s : PushState) (b : List ℕ) → Knows headerless before s
    → ruling s (sort_of b) (head_len b) (box_len b) ≡ answer (lines_cause headerless before b) (read_in before (sort_of b)) (sort_of b) (box_len b)
ruled headerless before s b k = by s.moof refl k.moof
  where
    by : (m : Option PendingMoof) → s.moof ≡ m → MoofIs before m → ruling s (sort_of b) (head_len b) (box_len b) ≡ answer (lines_cause headerless before b) (read_in before (sort_of b)) (sort_of b) (box_len b)
    by None e is = rw (e, is, k.headerless_is) (ruled_top headerless before s.stage (sort_of b) (head_len b) (box_len b) k.stage)
    by (Some p) e is = let f : last_moof before ≡ Some is.0 = is.1 in rw (e, f) (ruled_behind headerless before (sort_of b) (head_len b) (box_len b))

choose : (o d : Bool) (c : Option Cause) (r : BoxDecision) (read : Bool) (sort : TopBox) (size : ℕ) → r ≡ answer c read sort size
    → cond o (Refuse OpenEnded) (cond d (Refuse BadBox) r) ≡ answer (cond o (Some OpenEnded) (cond d (Some BadBox) c)) read sort size
choose true d c r read sort size e = refl
choose false true c r read sort size e = refl
choose false false c r read sort size e = e

decision_by : (headerless : Bool) (before : List (List ℕ)) (s : PushState) (b : List ℕ) → Knows headerless before s → has_head b ≡ true
    → decision s b ≡ answer (head_cause headerless before b) (read_in before (sort_of b)) (sort_of b) (box_len b)
decision_by headerless before s b k there =
    decided s b there
    ∙ choose (eqb (number32_at 0 b) 0) (ltb (box_len b) (head_len b)) (lines_cause headerless before b) (ruling s (sort_of b) (head_len b) (box_len b)) (read_in before (sort_of b)) (sort_of b) (box_len b) (ruled headerless before s b k)

user_there : (box : List ℕ) → IsOneBox box → has_user box ≡ true → head_len box + 16 ≤ length box
unfolding box_of
user_there box one user =
    let l = lengths box one.whole in
    let room : 16 ≤ box_len box - head_len box = leb-true _ _ (and_parts (is (box_of box).kind (codes "uuid")) (leb 16 (box_len box - head_len box)) user).1 in
    omega (arith, room, l.size, l.head)

whole_has_head : (box : List ℕ) → IsOneBox box → has_head box ≡ true
whole_has_head box one =
    let l = lengths box one.whole in
    and_from (leb 8 (length box)) (eqb (number32_at 0 box) 0 || (leb (head_len box) (length box) && (not (has_user box) || leb (head_len box + 16) (length box)))) (le-leb _ _ l.eight)
    (elim (cases_Bool (eqb (number32_at 0 box) 0)) [
      | inl e ↦ rw e refl
      | inr e ↦ rw e (and_from (leb (head_len box) (length box)) (not (has_user box) || leb (head_len box + 16) (length box)) (le-leb _ _ (omega (arith, l.head, l.size)))
          (elim (cases_Bool (has_user box)) [
            | inl user ↦ rw user (le-leb _ _ (user_there box one user))
            | inr other ↦ rw other refl
          ]))
    ])

-- ---- a whole box

mdat_sort : (headerless : Bool) (before : List (List ℕ)) (sort : TopBox) (head size : ℕ) → first_cause (head_lines true headerless before sort head size) ≡ None → sort ≡ Mdat
mdat_sort headerless before Mdat head size e = refl
mdat_sort headerless before Moof head size e = absurd cc
mdat_sort headerless before Moov head size e = absurd cc
mdat_sort headerless before Manifest head size e = absurd cc
mdat_sort headerless before Other head size e = absurd cc

done_follows : Fragments → (headerless : Bool) (before : List (List ℕ)) (box : List ℕ) (s : PushState) (m : Option PendingMoof) → Knows headerless before s
    → s.moof ≡ m → MoofIs before m → lines_cause headerless before box ≡ None
    → Follows headerless before box (done (read_in before (sort_of box)) s (sort_of box) box) (whole_gives before box (last_moof before))
unfolding taken
done_follows laws headerless before box s None k g is none = rw is (top_follows laws headerless before box s (sort_of box) k refl g)
done_follows laws headerless before box s (Some p) k g is none =
    let f : last_moof before ≡ Some is.0 = is.1 in
    let e : sort_of box ≡ Mdat = mdat_sort headerless before (sort_of box) (head_len box) (box_len box) (rw f at none) in
    rw (f, e) (subst (λ (x : Option PendingMoof). Follows headerless before box (mdat_taken x s box) (fragment_gives (place_of_last before is.0) is.0 box (track_of before is.0))) (sym g)
    (mdat_follows laws headerless before box s p k e is))

-- what the machine does with the box is what the rules say
abbrev Refuses : Bool → List (List ℕ) → List ℕ → PushState → Type 0
Refuses headerless before box s =
    (r : Refusal) × (box_means headerless before box ≡ Err r) × ((go : PushState → Outcome) → box_gives s box (decision s box) go ≡ refused (header_in s.stage) r)

abbrev Goes : Bool → List (List ℕ) → List ℕ → PushState → Type 0
Goes headerless before box s =
    (item : Option Given) × (next : PushState) × (box_means headerless before box ≡ Ok item) × Knows headerless (before ++ box ∷ []) next
    × ((go : PushState → Outcome) → box_gives s box (decision s box) go ≡ led_by (option_to_list item) (go next))

abbrev StepIs : Bool → List (List ℕ) → List ℕ → PushState → Type 0
StepIs headerless before box s = Refuses headerless before box s ⊎ Goes headerless before box s

step_from : (headerless : Bool) (before : List (List ℕ)) (box : List ℕ) (s : PushState) (step : Step) (means : Result (Option Given) Refusal) → Follows headerless before box step means → box_means headerless before box ≡ means
    → ((go : PushState → Outcome) → box_gives s box (decision s box) go ≡ step_gives s step go) → StepIs headerless before box s
step_from headerless before box s (Ok step) (Ok item) f e g = inr (item, step.1, e, f.1, λ go. g go ∙ ap (λ (i : Option Given). led_by (option_to_list i) (go step.1)) f.0)
step_from headerless before box s (Err r) (Err r') f e g = inl (r', e, λ go. g go ∙ ap (refused (header_in s.stage)) f)
step_from headerless before box s (Ok step) (Err r) f e g = absurd f
step_from headerless before box s (Err r) (Ok item) f e g = absurd f

done_gives : (s : PushState) (box : List ℕ) (read : Bool) (sort : TopBox) (size : ℕ) (go : PushState → Outcome) → size ≡ length box → box_gives s box (answer None read sort size) go ≡ step_gives s (done read s sort box) go
done_gives s box true sort size go e = refl
done_gives s box false sort size go e = ap (λ (n : ℕ). go (passed s n)) e

lines_none : (o d : Bool) (c : Option Cause) → cond o (Some OpenEnded) (cond d (Some BadBox) c) ≡ None → c ≡ None
lines_none true d c e = absurd cc
lines_none false true c e = absurd cc
lines_none false false c e = e

step_by : Fragments → (headerless : Bool) (before : List (List ℕ)) (box : List ℕ) (s : PushState) (cause : Option Cause) → Knows headerless before s
    → IsOneBox box → head_cause headerless before box ≡ cause → StepIs headerless before box s
step_by laws headerless before box s (Some cause) k one e =
    let d : decision s box ≡ Refuse cause = decision_by headerless before s box k (whole_has_head box one) ∙ ap (λ (c : Option Cause). answer c (read_in before (sort_of box)) (sort_of box) (box_len box)) e in
    let at : ℕ → Refusal = λ n. record { at = n; cause = cause } in
    inl (
      record { at = place_behind before; cause = cause },
      ap (λ (c : Option Cause). unless_head (place_behind before) c (whole_gives before box (last_moof before))) e,
      λ go. ap (λ (x : BoxDecision). box_gives s box x go) d ∙ ap (λ (n : ℕ). refused (header_in s.stage) (at n)) k.at,
    )
step_by laws headerless before box s None k one e =
    let d : decision s box ≡ answer None (read_in before (sort_of box)) (sort_of box) (box_len box) =
    decision_by headerless before s box k (whole_has_head box one) ∙ ap (λ (c : Option Cause). answer c (read_in before (sort_of box)) (sort_of box) (box_len box)) e in
    let none = lines_none (eqb (number32_at 0 box) 0) (ltb (box_len box) (head_len box)) (lines_cause headerless before box) e in
    step_from headerless before box s (done (read_in before (sort_of box)) s (sort_of box) box) (whole_gives before box (last_moof before))
    (done_follows laws headerless before box s s.moof k refl k.moof none)
    (ap (λ (c : Option Cause). unless_head (place_behind before) c (whole_gives before box (last_moof before))) e)
    (λ go. ap (λ (x : BoxDecision). box_gives s box x go) d ∙ done_gives s box (read_in before (sort_of box)) (sort_of box) (box_len box) go one.all)

step_is : Fragments → (headerless : Bool) (before : List (List ℕ)) (box : List ℕ) (s : PushState) → Knows headerless before s → IsOneBox box → StepIs headerless before box s
step_is laws headerless before box s k one = step_by laws headerless before box s (head_cause headerless before box) k one refl

-- ---- boxes in a row

pub led_twice : (xs ys : List Given) (o : Outcome) → led_by xs (led_by ys o) ≡ led_by (xs ++ ys) o
led_twice xs ys o =
    let made : List Given → Outcome = λ items. record { items = items; refusal = o.refusal; inside = o.inside; header = o.header } in
    ap made (sym (append_assoc xs ys o.items))

pub record Went (headerless : Bool) (before : List (List ℕ)) (s : PushState) (todo : List (List ℕ)) : Type 0 where
  pub next : PushState
  pub knows : Knows headerless (before ++ todo) next
  pub gives : (boxes : List (List ℕ)) (rest : List ℕ) → boxes_give s (todo ++ boxes) rest ≡ led_by (boxes_give s todo []).items (boxes_give next boxes rest)

pub at_end : (s : PushState) → boxes_give s [] [] ≡ ended s (is_some s.moof)
at_end s = let wait = decision-nil s in rw wait refl

went_on : (headerless : Bool) (before : List (List ℕ)) (box : List ℕ) (s : PushState) (todo : List (List ℕ)) (g : Goes headerless before box s)
    → Went headerless (before ++ box ∷ []) g.1 todo → Went headerless before s (box ∷ todo)
went_on headerless before box s todo g w = record {
  next = w.next;
  knows = subst (λ (bs : List (List ℕ)). Knows headerless bs w.next) (append_assoc before (box ∷ []) todo) w.knows;
  gives = λ boxes rest.
      let here : boxes_give s (box ∷ todo) [] ≡ led_by (option_to_list g.0) (boxes_give g.1 todo []) = g.4 (λ next. boxes_give next todo []) in
      g.4 (λ next. boxes_give next (todo ++ boxes) rest)
      ∙ ap (led_by (option_to_list g.0)) (w.gives boxes rest)
      ∙ led_twice (option_to_list g.0) (boxes_give g.1 todo []).items (boxes_give w.next boxes rest)
      ∙ ap (λ (o : Outcome). led_by o.items (boxes_give w.next boxes rest)) (sym here);
}

no_refusal : (r : Refusal) (o : Option Refusal) → o ≡ Some r → o ≡ None → ⊥
no_refusal r o e f = cc

went_by : (headerless : Bool) (before : List (List ℕ)) (box : List ℕ) (s : PushState) (todo : List (List ℕ)) → StepIs headerless before box s → (boxes_give s (box ∷ todo) []).refusal ≡ None
    → ((next : PushState) → Knows headerless (before ++ box ∷ []) next → (boxes_give next todo []).refusal ≡ None → Went headerless (before ++ box ∷ []) next todo) → Went headerless before s (box ∷ todo)
went_by headerless before box s todo (inl r) none go = absurd (no_refusal r.0 (boxes_give s (box ∷ todo) []).refusal (ap (λ (o : Outcome). o.refusal) (r.2 (λ next. boxes_give next todo []))) none)
went_by headerless before box s todo (inr g) none go =
    went_on headerless before box s todo g (go g.1 g.3 (ap (λ (o : Outcome). o.refusal) (sym (g.4 (λ next. boxes_give next todo []))) ∙ none))

went : Fragments → (headerless : Bool) (before todo : List (List ℕ)) (s : PushState) → Knows headerless before s → AllByRecursion IsOneBox todo → (boxes_give s todo []).refusal ≡ None → Went headerless before s todo
went laws headerless before [] s k each none = record {
  next = s;
  knows = subst (λ (bs : List (List ℕ)). Knows headerless bs s) (sym (append-nil before)) k;
  gives = λ boxes rest. ap (λ (o : Outcome). led_by o.items (boxes_give s boxes rest)) (sym (at_end s));
}
went laws headerless before (box ∷ todo) s k each none =
    went_by headerless before box s todo (step_is laws headerless before box s k each.0) none (λ next known clear. went laws headerless (before ++ box ∷ []) todo next known each.1 clear)

-- ---- whole bodies

each_more : (before : List (List ℕ)) (box : List ℕ) → AllByRecursion IsOneBox before → IsOneBox box → AllByRecursion IsOneBox (before ++ box ∷ [])
each_more [] box each one = (one, tt)
each_more (x ∷ before) box each one = (each.0, each_more before box each.1 one)

pub body_is : ReadsWhole → (headerless : Bool) (boxes : List (List ℕ)) → AllByRecursion IsOneBox boxes → body headerless (bytes_of boxes) ≡ boxes_give (push_start headerless) boxes []
body_is reads headerless boxes each =
    ap (body headerless) (sym (append-nil (bytes_of boxes))) ∙ boxes_walk reads (push_start headerless) boxes [] each none_whole

-- the boxes before were gone through
pub start : Fragments → ReadsWhole → (headerless : Bool) (before : List (List ℕ)) → AllByRecursion IsOneBox before → (body headerless (bytes_of before)).refusal ≡ None → Went headerless [] (push_start headerless) before
start laws reads headerless before each none =
    went laws headerless [] before (push_start headerless) (nothing_known headerless) each (ap (λ (o : Outcome). o.refusal) (sym (body_is reads headerless before each)) ∙ none)

adds_by : (headerless : Bool) (before : List (List ℕ)) (box : List ℕ) (s : PushState) (old new : Outcome) → StepIs headerless before box s
    → new ≡ led_by old.items (boxes_give s (box ∷ []) []) → Adds old new (box_means headerless before box)
adds_by headerless before box s old new (inl r) e =
    let here : new ≡ led_by old.items (refused (header_in s.stage) r.0) = e ∙ ap (led_by old.items) (r.2 (λ next. boxes_give next [] [])) in
    rw (r.1) (record { items = ap (λ (o : Outcome). o.items) here; refusal = ap (λ (o : Outcome). o.refusal) here })
adds_by headerless before box s old new (inr g) e =
    let here : new ≡ led_by old.items (led_by (option_to_list g.0) (ended g.1 (is_some g.1.moof))) =
    e ∙ ap (led_by old.items) (g.4 (λ next. boxes_give next [] []) ∙ ap (led_by (option_to_list g.0)) (at_end g.1)) in
    rw (g.2) (record {
      items = ap (λ (o : Outcome). o.items) here ∙ ap (λ (xs : List Given). old.items ++ xs) (append-nil (option_to_list g.0));
      refusal = ap (λ (o : Outcome). o.refusal) here;
    })

pub one_more : Fragments → ReadsWhole → (headerless : Bool) (before : List (List ℕ)) (box : List ℕ) → AllByRecursion IsOneBox before → IsOneBox box → (body headerless (bytes_of before)).refusal ≡ None
    → Adds (body headerless (bytes_of before)) (body headerless (bytes_of before ++ box)) (box_means headerless before box)
one_more laws reads headerless before box each one none =
    let w = start laws reads headerless before each none in
    let new : body headerless (bytes_of before ++ box) ≡ led_by (body headerless (bytes_of before)).items (boxes_give w.next (box ∷ []) []) =
    ap (body headerless) (sym (bytes_more before box))
    ∙ body_is reads headerless (before ++ box ∷ []) (each_more before box each one)
    ∙ w.gives (box ∷ []) []
    ∙ ap (λ (o : Outcome). led_by o.items (boxes_give w.next (box ∷ []) [])) (sym (body_is reads headerless before each)) in
    adds_by headerless before box w.next (body headerless (bytes_of before)) (body headerless (bytes_of before ++ box)) (step_is laws headerless before box w.next w.knows one) new

-- ---- a box that is cut

rest_by : (s : PushState) (at : ℕ) (cause : Option Cause) (read inside : Bool) (sort : TopBox) (size : ℕ) (old new : Outcome)
    → s.at ≡ at → new ≡ led_by old.items (rest_gives s (answer cause read sort size) inside) → Stops old new (refusal_at at cause)
rest_by s at (Some cause) read inside sort size old new f e =
    let r : ℕ → Option Refusal = λ n. Some (record { at = n; cause = cause }) in
    record { items = ap (λ (o : Outcome). o.items) e ∙ append-nil old.items; refusal = ap (λ (o : Outcome). o.refusal) e ∙ ap r f }
rest_by s at None true inside sort size old new f e = record { items = ap (λ (o : Outcome). o.items) e ∙ append-nil old.items; refusal = ap (λ (o : Outcome). o.refusal) e }
rest_by s at None false inside sort size old new f e = record { items = ap (λ (o : Outcome). o.items) e ∙ append-nil old.items; refusal = ap (λ (o : Outcome). o.refusal) e }

stops_by : (headerless : Bool) (before : List (List ℕ)) (rest : List ℕ) (s : PushState) (old new : Outcome) (there : Bool) → Knows headerless before s → has_head rest ≡ there
    → new ≡ led_by old.items (boxes_give s [] rest) → Stops old new (cut_means headerless before rest)
stops_by headerless before rest s old new true k there e =
    let d = decision_by headerless before s rest k there in
    rw there (rest_by s (place_behind before) (head_cause headerless before rest) (read_in before (sort_of rest)) (rest_inside rest (is_some s.moof)) (sort_of rest) (box_len rest) old new k.at
    (e ∙ ap (λ (x : BoxDecision). led_by old.items (rest_gives s x (rest_inside rest (is_some s.moof)))) d))
stops_by headerless before rest s old new false k there e =
    let d = undecided s rest there in
    let here : new ≡ led_by old.items (ended s (rest_inside rest (is_some s.moof))) = e ∙ ap (λ (x : BoxDecision). led_by old.items (rest_gives s x (rest_inside rest (is_some s.moof)))) d in
    rw there (record { items = ap (λ (o : Outcome). o.items) here ∙ append-nil old.items; refusal = ap (λ (o : Outcome). o.refusal) here })

cut_is : Fragments → ReadsWhole → (headerless : Bool) (before : List (List ℕ)) (rest : List ℕ) → AllByRecursion IsOneBox before → starts_whole rest ≡ false
    → (w : Went headerless [] (push_start headerless) before) → body headerless (bytes_of before ++ rest) ≡ led_by (body headerless (bytes_of before)).items (boxes_give w.next [] rest)
cut_is laws reads headerless before rest each cut w =
    boxes_walk reads (push_start headerless) before rest each cut
    ∙ ap (λ (bs : List (List ℕ)). boxes_give (push_start headerless) bs rest) (sym (append-nil before))
    ∙ w.gives [] rest
    ∙ ap (λ (o : Outcome). led_by o.items (boxes_give w.next [] rest)) (sym (body_is reads headerless before each))

pub cut_stops : Fragments → ReadsWhole → (headerless : Bool) (before : List (List ℕ)) (rest : List ℕ) → AllByRecursion IsOneBox before → starts_whole rest ≡ false → (body headerless (bytes_of before)).refusal ≡ None
    → Stops (body headerless (bytes_of before)) (body headerless (bytes_of before ++ rest)) (cut_means headerless before rest)
cut_stops laws reads headerless before rest each cut none =
    let w = start laws reads headerless before each none in
    let new = cut_is laws reads headerless before rest each cut w in
    stops_by headerless before rest w.next (body headerless (bytes_of before)) (body headerless (bytes_of before ++ rest)) (has_head rest) w.knows refl new

-- ---- where a body may end

some_moof : (before : List (List ℕ)) (m : Option PendingMoof) → MoofIs before m → is_some m ≡ is_some (last_moof before)
some_moof before None is = rw is refl
some_moof before (Some p) is = let f : last_moof before ≡ Some is.0 = is.1 in rw f refl

whole_is : Fragments → ReadsWhole → (headerless : Bool) (before : List (List ℕ)) → AllByRecursion IsOneBox before → (w : Went headerless [] (push_start headerless) before)
    → body headerless (bytes_of before) ≡ led_by (boxes_give (push_start headerless) before []).items (ended w.next (is_some w.next.moof))
whole_is laws reads headerless before each w =
    body_is reads headerless before each
    ∙ ap (λ (bs : List (List ℕ)). boxes_give (push_start headerless) bs []) (sym (append-nil before))
    ∙ w.gives [] []
    ∙ ap (led_by (boxes_give (push_start headerless) before []).items) (at_end w.next)

pub ends_inside : Fragments → ReadsWhole → (headerless : Bool) (before : List (List ℕ)) → AllByRecursion IsOneBox before → (body headerless (bytes_of before)).refusal ≡ None
    → (body headerless (bytes_of before)).inside ≡ is_some (last_moof before)
ends_inside laws reads headerless before each none =
    let w = start laws reads headerless before each none in
    ap (λ (o : Outcome). o.inside) (whole_is laws reads headerless before each w) ∙ some_moof before w.next.moof w.knows.moof

inside_by : (s : PushState) (d : BoxDecision) (rest : List ℕ) (m : Bool) → 0 < length rest → (rest_gives s d (rest_inside rest m)).refusal ≡ None → (rest_gives s d (rest_inside rest m)).inside ≡ true
inside_by s d [] m lt e = absurd (omega (arith, lt))
inside_by s Wait (x ∷ xs) m lt e = refl
inside_by s (Pass size) (x ∷ xs) m lt e = refl
inside_by s (Take sort size) (x ∷ xs) m lt e = refl
inside_by s (Refuse cause) (x ∷ xs) m lt e = absurd cc

pub cut_inside : Fragments → ReadsWhole → (headerless : Bool) (before : List (List ℕ)) (rest : List ℕ) → AllByRecursion IsOneBox before → starts_whole rest ≡ false → (body headerless (bytes_of before)).refusal ≡ None
    → 0 < length rest → (body headerless (bytes_of before ++ rest)).refusal ≡ None → (body headerless (bytes_of before ++ rest)).inside ≡ true
cut_inside laws reads headerless before rest each cut none some clear =
    let w = start laws reads headerless before each none in
    let new = cut_is laws reads headerless before rest each cut w in
    let clear_rest : (boxes_give w.next [] rest).refusal ≡ None = sym (ap (λ (o : Outcome). o.refusal) new) ∙ clear in
    ap (λ (o : Outcome). o.inside) new ∙ inside_by w.next (decision w.next rest) rest (is_some w.next.moof) some clear_rest

header_by : (before : List (List ℕ)) (stage : HeaderStage) → StageIs before stage → header_in stage ≡ tracks_said (header_said before)
header_by before (Gathering manifest moov) is = rw is.2 refl
header_by before (Complete tracks) is = rw is.1 (sym is.2)

pub header_is : Fragments → ReadsWhole → (headerless : Bool) (before : List (List ℕ)) → AllByRecursion IsOneBox before → (body headerless (bytes_of before)).refusal ≡ None
    → (body headerless (bytes_of before)).header ≡ tracks_said (header_said before)
header_is laws reads headerless before each none =
    let w = start laws reads headerless before each none in
    ap (λ (o : Outcome). o.header) (whole_is laws reads headerless before each w) ∙ header_by before w.next.stage w.knows.stage
