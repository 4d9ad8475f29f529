-- The shortest front that has a header has nothing else, and may end there.
use Rattle.std.proofs.Common.{◌≡◌, ◌⊎◌, inl, inr, ◌<◌, ℕ, Bool, true, false, cond, List, [], ◌∷◌, ◌++◌, length, Option, Some, None, Result, Ok, Err, refl, sym, ap, subst, ◌∙◌, arith}
use Rattle.std.specs.Prelude.{◌+◌, ◌-◌, ◌==◌, ◌&&◌, nat_lt, nat_le, codes, take, drop}
use Rattle.std.specs.List.{AllByRecursion}
use Rattle.std.proofs.lemmas.List.{append_assoc, append-nil}
use Rattle.sm_model.specs.declared.cause.Cause.{Cause}
use Rattle.sm_model.specs.declared.cause.Cause.TheVariants as causes
use Rattle.sm_model.specs.declared.cause.Refusal.{Refusal}
use Rattle.sm_model.specs.declared.header.Header.{Header as HeaderRead}
use Rattle.sm_model.specs.declared.header.HeaderTrack.{HeaderTrack}
use Rattle.sm_model.specs.declared.track.Track.{Track}
use Rattle.sm_model.specs.Boxes.{IsOneBox, box_of, head_len, box_len, starts_whole}
use Rattle.sm_model.specs.Items.{Header}
use Rattle.sm_model.specs.Numbers.{number32_at}
use Rattle.sm_push.specs.declared.state.HeaderStage.TheVariants.{Gathering, Complete}
use Rattle.sm_push.specs.declared.state.PushState.{PushState}
use Rattle.sm_push.specs.declared.state.TopBox.{TopBox}
use Rattle.sm_push.specs.declared.state.TopBox.TheVariants.{Moof, Mdat, Moov, Manifest, Other}
use Rattle.sm_push.specs.declared.state.BoxDecision.{BoxDecision}
use Rattle.sm_push.specs.declared.state.BoxDecision.TheVariants.{Wait, Refuse, Pass, Take}
use Rattle.sm_push.specs.Header.{header_of}
use Rattle.sm_push.specs.PushHeads.{decision, at_top, by_kind, is, kind_sort, user_sort}
use Rattle.sm_push.specs.PushBoxes.{Step, past, taken, header_taken, manifest_text}
use Rattle.sm_push.specs.Body.{Outcome, led_by, body, body_end, cut_off, push_start}
use Rattle.sm_push.specs.Boxes.{bytes_of, box_gives, step_gives, rest_gives, rest_inside, boxes_give, Splits}
use Rattle.sm_push.proofs.RuleBodies.{at_end}
use Rattle.sm_export.specs.Heads.{header_given}

-- before the header is complete, without a moof
abbrev gathering : Option (List ℕ) → Option (List ℕ) → ℕ → PushState
gathering manifest moov place = record { headerless = false; stage = Gathering manifest moov; moof = None; at = place }

abbrev complete : List HeaderTrack → ℕ → PushState
complete tracks place = record { headerless = false; stage = Complete tracks; moof = None; at = place }

-- ---- no moof is taken there

abbrev NoMoof : BoxDecision → Type 0
NoMoof d = (size : ℕ) → d ≡ Take Moof size → ⊥

either : (b : Bool) (x y : BoxDecision) → NoMoof x → NoMoof y → NoMoof (cond b x y)
either true x y p q = p
either false x y p q = q

waits : NoMoof Wait
waits size e = absurd cc

refuses : (cause : Cause) → NoMoof (Refuse cause)
refuses cause size e = absurd cc

passes : (n : ℕ) → NoMoof (Pass n)
passes n size e = absurd cc

takes_moov : (n : ℕ) → NoMoof (Take Moov n)
takes_moov n size e = absurd cc

takes_manifest : (n : ℕ) → NoMoof (Take Manifest n)
takes_manifest n size e = absurd cc

at_the_top : (manifest moov : Option (List ℕ)) (sort : TopBox) (n : ℕ) → NoMoof (at_top false (Gathering manifest moov) sort n)
at_the_top manifest moov Moof n = refuses causes.NoHeader
at_the_top manifest moov Mdat n = passes n
at_the_top manifest None Moov n = either (nat_lt 1048576 n) (Refuse causes.BoxTooLarge) (Take Moov n) (refuses causes.BoxTooLarge) (takes_moov n)
at_the_top manifest (Some v) Moov n = passes n
at_the_top None moov Manifest n = either (nat_lt 1048576 n) (Refuse causes.BoxTooLarge) (Take Manifest n) (refuses causes.BoxTooLarge) (takes_manifest n)
at_the_top (Some m) moov Manifest n = passes n
at_the_top manifest moov Other n = passes n

of_kind : (manifest moov : Option (List ℕ)) (place : ℕ) (b kind : List ℕ) (head size : ℕ) → NoMoof (by_kind (gathering manifest moov place) b kind head size)
of_kind manifest moov place b kind head size =
    either (is kind (codes "uuid") && nat_le 16 (size - head)) _ _
    (either (nat_lt (length b) (head + 16)) Wait _ waits (at_the_top manifest moov (user_sort (take 16 (drop head b))) size))
    (at_the_top manifest moov (kind_sort kind) size)

no_moof : (manifest moov : Option (List ℕ)) (place : ℕ) (b : List ℕ) → NoMoof (decision (gathering manifest moov place) b)
unfolding decision
no_moof manifest moov place b =
    either (nat_lt (length b) 8) Wait _ waits
    (either (number32_at 0 b == 0) (Refuse causes.OpenEnded) _ (refuses causes.OpenEnded)
    (either (nat_lt (length b) (head_len b)) Wait _ waits
    (either (nat_lt (box_len b) (head_len b)) (Refuse causes.BadBox) _ (refuses causes.BadBox)
    (of_kind manifest moov place b (take 4 (drop 4 b)) (head_len b) (box_len b)))))

-- ---- one box

abbrev Stops : Step → Type 0
Stops step = (r : Refusal) × (step ≡ Err r)

abbrev Goes : Step → Type 0
Goes step = (manifest : Option (List ℕ)) × (moov : Option (List ℕ)) × (place : ℕ) × (step ≡ Ok (None, gathering manifest moov place))

abbrev Completes : Step → Type 0
Completes step = (channel : List Track) × (tracks : List HeaderTrack) × (place : ℕ) × (step ≡ Ok (Some (Header channel), complete tracks place))

abbrev IsStep : Step → Type 0
IsStep step = Stops step ⊎ (Goes step ⊎ Completes step)

read : (manifest moov : Option (List ℕ)) (place size : ℕ) (r : Result HeaderRead Cause) → IsStep (header_taken r (gathering manifest moov place) size)
read manifest moov place size (Err cause) = inl (_, refl)
read manifest moov place size (Ok h) = inr (inr (h.channel, h.tracks, past place size, refl))

step_is : (manifest moov : Option (List ℕ)) (place : ℕ) (sort : TopBox) (size : ℕ) (box : List ℕ) → decision (gathering manifest moov place) box ≡ Take sort size
    → IsStep (taken (gathering manifest moov place) sort box)
unfolding taken
step_is manifest moov place Moof size box e = absurd (no_moof manifest moov place box size e)
step_is manifest moov place Mdat size box e = inr (inl (manifest, moov, past place (length box), refl))
step_is (Some m) moov place Moov size box e = read (Some m) moov place (length box) (header_of (manifest_text m) (box_of box).body)
step_is None moov place Moov size box e = inr (inl (None, Some box, past place (length box), refl))
step_is manifest (Some v) place Manifest size box e = read manifest (Some v) place (length box) (header_of (manifest_text box) (box_of v).body)
step_is manifest None place Manifest size box e = inr (inl (Some box, None, past place (length box), refl))
step_is manifest moov place Other size box e = inr (inl (manifest, moov, past place (length box), refl))

-- ---- all boxes

-- a front of the boxes gives a header and nothing else, and may end there
record Heads (s : PushState) (boxes : List (List ℕ)) : Type 0 where
  front : List (List ℕ)
  back : List (List ℕ)
  split : boxes ≡ front ++ back
  channel : List Track
  tracks : List HeaderTrack
  gives : boxes_give s front [] ≡ record { items = Header channel ∷ []; refusal = None; inside = false; header = tracks }

abbrev Comes : PushState → List (List ℕ) → List ℕ → Type 0
Comes s boxes rest = ((boxes_give s boxes rest).items ≡ []) ⊎ Heads s boxes

abbrev On : List (List ℕ) → List ℕ → Type 0
On boxes rest = (manifest moov : Option (List ℕ)) (place : ℕ) → Comes (gathering manifest moov place) boxes rest

passed_on : (s : PushState) (box : List ℕ) (boxes : List (List ℕ)) (rest : List ℕ) (next : PushState)
    → ((bs : List (List ℕ)) (r : List ℕ) → boxes_give s (box ∷ bs) r ≡ boxes_give next bs r) → Comes next boxes rest → Comes s (box ∷ boxes) rest
passed_on s box boxes rest next is (inl none) = inl (ap (λ (o : Outcome). o.items) (is boxes rest) ∙ none)
passed_on s box boxes rest next is (inr h) = inr (record {
  front = box ∷ h.front;
  back = h.back;
  split = ap (λ (bs : List (List ℕ)). box ∷ bs) h.split;
  channel = h.channel;
  tracks = h.tracks;
  gives = is h.front [] ∙ h.gives;
})

led_none : (o : Outcome) → led_by [] o ≡ o
led_none o = refl

taken_on : (manifest moov : Option (List ℕ)) (place : ℕ) (sort : TopBox) (size : ℕ) (box : List ℕ) (boxes : List (List ℕ)) (rest : List ℕ)
    → decision (gathering manifest moov place) box ≡ Take sort size → On boxes rest → IsStep (taken (gathering manifest moov place) sort box) → Comes (gathering manifest moov place) (box ∷ boxes) rest
taken_on manifest moov place sort size box boxes rest d on (inl stops) =
    let s = gathering manifest moov place in
    let go : PushState → Outcome = λ next. boxes_give next boxes rest in
    inl (ap (λ (x : BoxDecision). (box_gives s box x go).items) d ∙ ap (λ (step : Step). (step_gives s step go).items) stops.1)
taken_on manifest moov place sort size box boxes rest d on (inr (inl goes)) =
    let s = gathering manifest moov place in
    let next = gathering goes.0 goes.1 goes.2 in
    let is : (bs : List (List ℕ)) (r : List ℕ) → boxes_give s (box ∷ bs) r ≡ boxes_give next bs r = λ bs r.
    ap (λ (x : BoxDecision). box_gives s box x (λ (t : PushState). boxes_give t bs r)) d
    ∙ (ap (λ (step : Step). step_gives s step (λ (t : PushState). boxes_give t bs r)) goes.3 ∙ led_none (boxes_give next bs r)) in
    passed_on s box boxes rest next is (on goes.0 goes.1 goes.2)
taken_on manifest moov place sort size box boxes rest d on (inr (inr completes)) =
    let s = gathering manifest moov place in
    let go : PushState → Outcome = λ next. boxes_give next [] [] in
    inr (record {
      front = box ∷ [];
      back = boxes;
      split = refl;
      channel = completes.0;
      tracks = completes.1;
      gives = ap (λ (x : BoxDecision). box_gives s box x go) d ∙ (ap (λ (step : Step). step_gives s step go) completes.3
          ∙ ap (led_by (Header completes.0 ∷ [])) (at_end (complete completes.1 completes.2)));
    })

box_on : (manifest moov : Option (List ℕ)) (place : ℕ) (box : List ℕ) (boxes : List (List ℕ)) (rest : List ℕ) (d : BoxDecision)
    → decision (gathering manifest moov place) box ≡ d → On boxes rest → Comes (gathering manifest moov place) (box ∷ boxes) rest
box_on manifest moov place box boxes rest Wait e on =
    inl (ap (λ (x : BoxDecision). (box_gives (gathering manifest moov place) box x (λ (t : PushState). boxes_give t boxes rest)).items) e)
box_on manifest moov place box boxes rest (Refuse cause) e on =
    inl (ap (λ (x : BoxDecision). (box_gives (gathering manifest moov place) box x (λ (t : PushState). boxes_give t boxes rest)).items) e)
box_on manifest moov place box boxes rest (Pass size) e on =
    passed_on (gathering manifest moov place) box boxes rest (gathering manifest moov (past place size))
    (λ bs r. ap (λ (x : BoxDecision). box_gives (gathering manifest moov place) box x (λ (t : PushState). boxes_give t bs r)) e) (on manifest moov (past place size))
box_on manifest moov place box boxes rest (Take sort size) e on = taken_on manifest moov place sort size box boxes rest e on (step_is manifest moov place sort size box e)

rest_alone : (s : PushState) (d : BoxDecision) (b : Bool) → (rest_gives s d b).items ≡ []
rest_alone s Wait b = refl
rest_alone s (Refuse cause) b = refl
rest_alone s (Pass size) b = refl
rest_alone s (Take sort size) b = refl

gathered : (boxes : List (List ℕ)) (rest : List ℕ) → On boxes rest
gathered [] rest manifest moov place =
    inl (rest_alone (gathering manifest moov place) (decision (gathering manifest moov place) rest) (rest_inside rest false))
gathered (box ∷ boxes) rest manifest moov place =
    box_on manifest moov place box boxes rest (decision (gathering manifest moov place) box) refl (gathered boxes rest)

-- ---- the shortest front

each_front : (xs ys : List (List ℕ)) → AllByRecursion IsOneBox (xs ++ ys) → AllByRecursion IsOneBox xs
each_front [] ys all = tt
each_front (x ∷ xs) ys all = (all.0, each_front xs ys all.1)

bytes_both : (xs ys : List (List ℕ)) → bytes_of (xs ++ ys) ≡ bytes_of xs ++ bytes_of ys
bytes_both [] ys = refl
bytes_both (x ∷ xs) ys = ap (λ (b : List ℕ). x ++ b) (bytes_both xs ys) ∙ sym (append_assoc x (bytes_of xs) (bytes_of ys))

abbrev pub SplitAll : Type 0
SplitAll = (headerless : Bool) (b : List ℕ) → (boxes : List (List ℕ)) × (rest : List ℕ) × Splits b boxes rest × (body headerless b ≡ boxes_give (push_start headerless) boxes rest)

abbrev pub SplitAny : Type 0
SplitAny = (headerless : Bool) (b : List ℕ) (boxes : List (List ℕ)) (rest : List ℕ) → Splits b boxes rest → body headerless b ≡ boxes_give (push_start headerless) boxes rest

abbrev IsBare : List ℕ → List Track → Type 0
IsBare front channel = ((body false front).items ≡ Header channel ∷ []) × (body_end false front ≡ None)

some_is : (x y : List Track) → Some x ≡ Some y → x ≡ y
some_is x y e = cc

bare_front : (p : List ℕ) (channel other : List Track) (tracks : List HeaderTrack) → body false p ≡ record { items = Header other ∷ []; refusal = None; inside = false; header = tracks }
    → header_given (body false p).items ≡ Some channel → IsBare p channel
bare_front p channel other tracks is gives =
    let same : other ≡ channel = some_is other channel (sym (ap (λ (o : Outcome). header_given o.items) is) ∙ gives) in (
      ap (λ (o : Outcome). o.items) is ∙ ap (λ (c : List Track). Header c ∷ []) same,
      ap (λ (o : Outcome). cut_off o.inside (length p) o.refusal) is,
    )

none_whole : starts_whole [] ≡ false
unfolding starts_whole
none_whole = refl

-- what stands behind the front of boxes is nothing
bare_by : (front p q : List ℕ) (channel other : List Track) (tracks : List HeaderTrack) → header_given (body false front).items ≡ Some channel
    → ((x y : List ℕ) → front ≡ x ++ y → 0 < length y → header_given (body false x).items ≡ None) → front ≡ p ++ q
    → body false p ≡ record { items = Header other ∷ []; refusal = None; inside = false; header = tracks } → IsBare front channel
bare_by front p [] channel other tracks gives shortest is says =
    let same : front ≡ p = is ∙ append-nil p in
    subst (λ (x : List ℕ). IsBare x channel) (sym same) (bare_front p channel other tracks says (ap (λ (x : List ℕ). header_given (body false x).items) (sym same) ∙ gives))
bare_by front p (x ∷ q) channel other tracks gives shortest is says =
    absurd (let none = shortest p (x ∷ q) is (omega arith) in let some = ap (λ (o : Outcome). header_given o.items) says in cc)

pub bare : SplitAll → SplitAny → (front : List ℕ) (channel : List Track) → header_given (body false front).items ≡ Some channel
    → ((x y : List ℕ) → front ≡ x ++ y → 0 < length y → header_given (body false x).items ≡ None) → IsBare front channel
bare split any front channel gives shortest =
    let (boxes, rest, s, o) = split false front in
    by_boxes boxes rest s o (gathered boxes rest None None 0)
  where
    by_boxes : (boxes : List (List ℕ)) (rest : List ℕ) → Splits front boxes rest → body false front ≡ boxes_give (push_start false) boxes rest → Comes (gathering None None 0) boxes rest → IsBare front channel
    by_boxes boxes rest s o (inl none) = absurd (let same = ap header_given (ap (λ (x : Outcome). x.items) o ∙ none) in cc)
    by_boxes boxes rest s o (inr h) =
        let p = bytes_of h.front in
        let is : front ≡ p ++ (bytes_of h.back ++ rest) =
        s.whole ∙ (ap (λ (bs : List (List ℕ)). bytes_of bs ++ rest) h.split ∙ (ap (λ (x : List ℕ). x ++ rest) (bytes_both h.front h.back) ∙ append_assoc p (bytes_of h.back) rest)) in
        let own : Splits p h.front [] =
        record { whole = sym (append-nil p); each = each_front h.front h.back (subst (λ (bs : List (List ℕ)). AllByRecursion IsOneBox bs) h.split s.each); last = none_whole } in
        bare_by front p (bytes_of h.back ++ rest) channel h.channel h.tracks gives shortest is (any false p h.front [] own ∙ h.gives)
