-- The bodies of boxes of one type, one box before others, and what is said of a list of bodies.
use Rattle.std.proofs.Common.{◌≡◌, ◌<◌, ◌≤◌, ◌+◌, ◌-◌, ℕ, suc, Bool, true, false, cond, eqb, List, [], ◌∷◌, ◌++◌, length, map, take, drop, get_or, drop-cons, add-one, Option, Some, None, Result, Ok, Err, IfOk, refl, sym, ap, ◌∙◌, append_assoc, append-nil, arith}
use Rattle.std.specs.Prelude.{nat_eq, codes}
use Rattle.std.proofs.lemmas.Bool.{eqb-true}
use Rattle.std.proofs.lemmas.List.{drop_all, take_all, length-drop}
use Rattle.std.specs.Option.{option_map, option_and_then}
use Rattle.std.specs.List.{filter}
use Rattle.std.specs.Cmp.Lexicographic.{pointwise}
use Rattle.sm_model.specs.Boxes.{Box, boxes, box_of, box_len, head_len, starts_whole}
use Rattle.sm_model.specs.Found.{bodies, is_kind}
use Rattle.sm_model.proofs.BoxLemmas.{boxes-nil, boxes-none, boxes-whole, long_head}
use Rattle.sm_box.specs.Walks.{IsFront}
use Rattle.sm_model.specs.declared.heads.TrackHead.{TrackHead}
use Rattle.sm_model.specs.declared.run.Defaults.{Defaults}
use Rattle.sm_model.specs.Moov.{joined, single, gather, trak, mvex, traks_of, moov_of, moov, settled, repeats, with_defaults}
use Rattle.sm_moov.proofs.GatherLemmas.{joined-assoc, joined-nil}
use Rattle.sm_moov.specs.Plain.{AddsBodies}

-- one box before others
bodies_first : (name : List ℕ) (x : Box) (xs : List Box) → bodies name (x ∷ xs) ≡ cond (pointwise nat_eq x.kind name) (x.body ∷ []) [] ++ bodies name xs
unfolding bodies
bodies_first name x xs = tested (pointwise nat_eq x.kind name)
  where
    tested : (t : Bool) → map (λ (y : Box). y.body) (cond t (x ∷ filter (is_kind name) xs) (filter (is_kind name) xs)) ≡ cond t (x.body ∷ []) [] ++ map (λ (y : Box). y.body) (filter (is_kind name) xs)
    tested true = refl
    tested false = refl

pub adds_none : (name b : List ℕ) (old : List (List ℕ)) → eqb (length b) 0 ≡ true → AddsBodies name b true old old
unfolding bodies
adds_none name [] old e = ([], boxes-nil, sym (append-nil old))
adds_none name (c ∷ b) old e = absurd (omega (arith, eqb-true (length (c ∷ b)) 0 e))

pub adds_nothing : (name b : List ℕ) (old new : List (List ℕ)) → eqb (length b) 0 ≡ false → starts_whole b ≡ false → AddsBodies name b false old new
adds_nothing name [] old new e w = cc e
adds_nothing name (c ∷ b) old new e w = boxes-none (c ∷ b) (omega arith) w

pub adds_on : {E : Type 0} (r : Result Bool E) (name b : List ℕ) (old mid new : List (List ℕ)) → starts_whole b ≡ true
    → mid ≡ old ++ cond (pointwise nat_eq (box_of b).kind name) ((box_of b).body ∷ []) [] → IfOk r (λ w. AddsBodies name (drop (box_len b) b) w mid new)
    → IfOk r (λ w. AddsBodies name b w old new)
adds_on (Ok true) name b old mid new w m (xs, is, e) = (
  box_of b ∷ xs,
  boxes-whole b w ∙ ap (option_map (λ ys. box_of b ∷ ys)) is,
  e ∙ ap (λ (l : List (List ℕ)). l ++ bodies name xs) m ∙ append_assoc old _ (bodies name xs)
      ∙ ap (λ (l : List (List ℕ)). old ++ l) (sym (bodies_first name (box_of b) xs)),
)
adds_on (Ok false) name b old mid new w m none = boxes-whole b w ∙ ap (option_map (λ ys. box_of b ∷ ys)) none
adds_on (Err x) name b old mid new w m h = tt

-- the same by what was read of the head, where the parts of the bytes were lent
pub adds_front : {E : Type 0} (r : Result Bool E) (name b kind body rest : List ℕ) (head size : ℕ) (old mid new : List (List ℕ)) → IsFront b head size
    → kind ≡ take 4 (drop 4 b) → body ≡ take (size - head) (drop head b) → rest ≡ take (length b - size) (drop size b)
    → mid ≡ old ++ cond (pointwise nat_eq kind name) (body ∷ []) [] → IfOk r (λ w. AddsBodies name rest w mid new)
    → IfOk r (λ w. AddsBodies name b w old new)
unfolding box_of
adds_front r name b kind body rest head size old mid new front k y e m h =
    adds_on r name b old mid new front.whole (rw (← front.head_is, ← front.size_is) (rw (k, y) at m)) (rw (← front.size_is) (rw (e, take_all (length b - size) (drop size b) (omega (arith, length-drop size b))) at h))

-- ---- a list of bodies

gather_first : {A : Type 0} (f : List ℕ → Option (List A)) (before all : Option (List A)) (bs : List (List ℕ)) (i : ℕ) (b : List ℕ) (d : List ℕ) → i < length bs
    → b ≡ get_or bs i d → joined before (gather f (drop i bs)) ≡ all → joined (joined before (f b)) (gather f (drop (i + 1) bs)) ≡ all
unfolding gather
gather_first f before all bs i b d within is h =
    let cut : drop i bs ≡ get_or bs i d ∷ drop (suc i) bs = drop-cons bs i d within in
    let next : i + 1 ≡ suc i = add-one i in
    rw (is, next) (sym (joined-assoc before (f (get_or bs i d)) (gather f (drop (suc i) bs))) ∙ rw cut at h)

-- a body that says nothing spoils all
pub gather_spoils : {A : Type 0} (f : List ℕ → Option (List A)) (before all : Option (List A)) (bs : List (List ℕ)) (i : ℕ) (b d : List ℕ) → i < length bs
    → b ≡ get_or bs i d → joined before (gather f (drop i bs)) ≡ all → f b ≡ None → None ≡ all
gather_spoils {A = A} f before all bs i b d within is h none = spoilt before (gather_first f before all bs i b d within is h)
  where
    spoilt : (o : Option (List A)) → joined (joined o (f b)) (gather f (drop (i + 1) bs)) ≡ all → None ≡ all
    spoilt None e = e
    spoilt (Some xs) e = rw none at e

-- one that says something adds it
pub gather_adds : {A : Type 0} (f : List ℕ → Option (List A)) (old more new : List A) (all : Option (List A)) (bs : List (List ℕ)) (i : ℕ) (b d : List ℕ)
    → i < length bs → b ≡ get_or bs i d → joined (Some old) (gather f (drop i bs)) ≡ all → f b ≡ Some more → new ≡ old ++ more
    → joined (Some new) (gather f (drop (i + 1) bs)) ≡ all
gather_adds f old more new all bs i b d within is h some e = rw e (rw some at (gather_first f (Some old) all bs i b d within is h))

-- none are left
pub gather_ends : {A : Type 0} (f : List ℕ → Option (List A)) (old : List A) (all : Option (List A)) (bs : List (List ℕ)) (i : ℕ) → length bs ≤ i
    → joined (Some old) (gather f (drop i bs)) ≡ all → Some old ≡ all
unfolding gather
gather_ends f old all bs i le h =
    let none : drop i bs ≡ [] = drop_all i bs le in
    sym (joined-nil (Some old)) ∙ rw none at h

-- a box has some bytes
pub front_some : (b : List ℕ) (head size : ℕ) → IsFront b head size → (0 < size) × (size ≤ length b)
unfolding box_of
front_some b head size front =
    let eight : 8 ≤ head_len b = long_head b in
    (omega (arith, eight, front.head_is, front.fits), front.inside)

-- ---- a moov

-- what a trak says, as a list of one head
abbrev pub one_head : List ℕ → Option (List TrackHead)
one_head b = single (trak b)

pub unboxed : (name b : List ℕ) → None ≡ option_map (bodies name) (boxes b) → None ≡ moov b
unfolding moov
unboxed name b e = by_boxes (boxes b) e
  where
    by_boxes : (o : Option (List Box)) → None ≡ option_map (bodies name) o → None ≡ option_and_then moov_of o
    by_boxes None e = refl
    by_boxes (Some xs) e = cc e

some_is : {A : Type 0} (x y : A) → Some x ≡ Some y → x ≡ y
some_is x y e = cc e

pub untold : (b : List ℕ) (ms : List (List ℕ)) → Some ms ≡ option_map (bodies (codes "mvex")) (boxes b) → None ≡ gather mvex ms → None ≡ moov b
unfolding moov moov_of
untold b ms e none = by_boxes (boxes b) e
  where
    by_boxes : (o : Option (List Box)) → Some ms ≡ option_map (bodies (codes "mvex")) o → None ≡ option_and_then moov_of o
    by_boxes None e = cc e
    by_boxes (Some xs) e =
        let same : ms ≡ bodies (codes "mvex") xs = some_is ms _ e in
        ap (option_and_then (λ ts. option_and_then (settled ts) (traks_of xs))) (none ∙ ap (gather mvex) same)

-- what the traks say, where the trexes say these
pub told : (b : List ℕ) (ms ks : List (List ℕ)) (ts : List (ℕ × Defaults)) → Some ms ≡ option_map (bodies (codes "mvex")) (boxes b) → Some ts ≡ gather mvex ms
    → Some ks ≡ option_map (bodies (codes "trak")) (boxes b) → option_and_then (settled ts) (gather one_head ks) ≡ moov b
unfolding moov moov_of
told b ms ks ts e t k = by_boxes (boxes b) e k
  where
    by_boxes : (o : Option (List Box)) → Some ms ≡ option_map (bodies (codes "mvex")) o → Some ks ≡ option_map (bodies (codes "trak")) o
        → option_and_then (settled ts) (gather one_head ks) ≡ option_and_then moov_of o
    by_boxes None e k = cc e
    by_boxes (Some xs) e k =
        let same : ms ≡ bodies (codes "mvex") xs = some_is ms _ e in
        let traks : ks ≡ bodies (codes "trak") xs = some_is ks _ k in
        ap (λ l. option_and_then (settled ts) (gather one_head l)) traks
        ∙ ap (option_and_then (λ us. option_and_then (settled us) (traks_of xs))) (t ∙ ap (gather mvex) same)

pub repeated : (ts : List (ℕ × Defaults)) (hs : List TrackHead) → repeats (map (λ h. h.id) hs) ≡ true → settled ts hs ≡ None
unfolding settled
repeated ts hs e = rw e refl

pub apart : (ts : List (ℕ × Defaults)) (hs : List TrackHead) → repeats (map (λ h. h.id) hs) ≡ false → settled ts hs ≡ Some (map (with_defaults ts) hs)
unfolding settled
apart ts hs e = rw e refl

-- fewer bytes are left behind a box
pub shorter : (b : List ℕ) (head size : ℕ) → IsFront b head size → length (take (length b - size) (drop size b)) < length b
shorter b head size front =
    let some = front_some b head size front in
    let all : take (length b - size) (drop size b) ≡ drop size b = take_all (length b - size) (drop size b) (omega (arith, length-drop size b)) in
    rw all (omega (arith, length-drop size b, some.0, some.1))
