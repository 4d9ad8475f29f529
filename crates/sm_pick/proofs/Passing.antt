-- An mdat that is passed over.
use Rattle.std.proofs.Common.{◌≡◌, ◌≤◌, ◌<◌, ◌+◌, ◌-◌, ℕ, Bool, true, false, List, ◌++◌, length, drop, refl, sym, ap, subst, ◌∙◌, replicate, arith}
use Rattle.std.specs.Prelude.{not, codes, Option, Some, None, ◌^◌}
use Rattle.std.proofs.lemmas.List.{length-append, length-drop, length-replicate}
use Rattle.sm_box.specs.Heads.{head_of}
use Rattle.sm_box.specs.declared.head.Head.TheVariants.{Whole}
use Rattle.sm_model.specs.Boxes.{box_of, IsOneBox}
use Rattle.sm_model.specs.Frag.{finish, raw_of, rest_of, rest_behind, lacks_bytes, is_no_mdat}
use Rattle.sm_model.specs.Same.{is_same}
use Rattle.sm_push.specs.declared.state.PendingMoof.{PendingMoof}
use Rattle.sm_push.specs.declared.state.PushState.{PushState}
use Rattle.sm_push.specs.declared.state.BoxDecision.TheVariants.{Take}
use Rattle.sm_push.specs.declared.state.TopBox.TheVariants.{Mdat}
use Rattle.sm_push.specs.PushHeads.{decision}
use Rattle.sm_push.proofs.Fronts.{WholeIs, whole_is, head_stable}
use Rattle.sm_push.specs.Heads.{IsOpen}
use Rattle.sm_push.specs.Steps.{IsPending}
use Rattle.sm_push.proofs.Limits.{take_limited}
use Rattle.sm_push.proofs.Stable.{stable, taken_whole}
use Rattle.sm_moof.proofs.WholeLemmas.{body_is}
use Rattle.sm_pick.specs.Skim.{IsComing}

-- the fragment of a moof comes of a box that is an mdat and has room for the samples
comes_of : (moof : PendingMoof) (box : List ℕ) → is_no_mdat box ≡ false → lacks_bytes (rest_behind moof.size box moof.run) moof.run.samples ≡ false → IsComing moof box
unfolding finish raw_of
comes_of moof box kind room = record { raw = raw_of (rest_behind moof.size box moof.run) moof.run; says = rw (kind, room) refl; id = refl; time = refl }

not_not : (a : Bool) → true ≡ not a → a ≡ false
not_not true e = absurd cc
not_not false e = refl

-- what a head says of an mdat that is taken
-- whether it has room for the samples
lacks_none : (moof : PendingMoof) (box : List ℕ) (head : ℕ) → head ≡ (box_of box).head → true ≡ not (lacks_bytes (rest_of (moof.size + head) moof.run.start (box_of box).body) moof.run.samples)
    → lacks_bytes (rest_behind moof.size box moof.run) moof.run.samples ≡ false
lacks_none moof box head e fits = rw e at (not_not (lacks_bytes (rest_of (moof.size + head) moof.run.start (box_of box).body) moof.run.samples) fits)

no_other : (box kind : List ℕ) → kind ≡ (box_of box).kind → true ≡ is_same kind (codes "mdat") → is_no_mdat box ≡ false
no_other box kind e is = let same : true ≡ is_same (box_of box).kind (codes "mdat") = rw e at is in ap not (sym same)

head_is : (b kind : List ℕ) (head n : ℕ) → WholeIs b kind head n → head ≡ (box_of b).head
unfolding box_of
head_is b kind head n w = w.head_is

kind_is : (b kind : List ℕ) (head n : ℕ) → WholeIs b kind head n → kind ≡ (box_of b).kind
unfolding box_of
kind_is b kind head n w = w.kind_is

pub coming : (s : PushState) (moof : PendingMoof) (h rest kind : List ℕ) (head n size : ℕ) → decision s h ≡ Take Mdat size → head_of h ≡ Whole kind head n → true ≡ is_same kind (codes "mdat")
    → ((body : List ℕ) → size - head ≡ length body → true ≡ not (lacks_bytes (rest_of (moof.size + head) moof.run.start body) moof.run.samples)) → length h + length rest ≡ size
    → IsComing moof (h ++ rest)
coming s moof h rest kind head n size taken read is fits whole =
    let b : List ℕ = h ++ rest in
    let len : length b ≡ size = length-append h rest ∙ whole in
    let same : decision s b ≡ Take Mdat size = stable s h rest (rw taken tt) ∙ taken in
    let one : IsOneBox b = taken_whole s b Mdat size same len in
    let w : WholeIs b kind head n = whole_is b kind head n (head_stable h rest (rw read tt) ∙ read) in
    let body : (box_of b).body ≡ drop head b = body_is b one ∙ ap (λ (k : ℕ). drop k b) (sym (head_is b kind head n w)) in
    let room : size - head ≡ length (box_of b).body = ap (λ (k : ℕ). k - head) (sym len) ∙ sym (length-drop head b) ∙ ap length (sym body) in
    comes_of moof b (no_other b kind (kind_is b kind head n w) is) (lacks_none moof b head (head_is b kind head n w) (fits (box_of b).body room))

-- the head of a box that is taken is a part of it
pub head_inside : (s : PushState) (h kind : List ℕ) (head n size : ℕ) → decision s h ≡ Take Mdat size → head_of h ≡ Whole kind head n → length h ≤ size → head ≤ size
head_inside s h kind head n size taken read le =
    let rest : List ℕ = replicate (size - length h) 0 in
    let b : List ℕ = h ++ rest in
    let len : length b ≡ size = omega (arith, length-append h rest, length-replicate {A = ℕ} (size - length h) 0) in
    let same : decision s b ≡ Take Mdat size = stable s h rest (rw taken tt) ∙ taken in
    let one : IsOneBox b = taken_whole s b Mdat size same len in
    let w = whole_is b kind head n (head_stable h rest (rw read tt) ∙ read) in
    omega (arith, w.fits, w.size_is, one.all, len)

-- of a box that is taken something is missing
pub still_open : (s : PushState) (h : List ℕ) (size : ℕ) → IsOpen (length h) (decision s h) → decision s h ≡ Take Mdat size → length h < size
still_open s h size due taken = let lt : IsOpen (length h) (Take Mdat size) = rw taken at due in lt

-- what waits is short
pub moof_short : (waiting : Option PendingMoof) (moof : PendingMoof) → IsPending waiting → waiting ≡ Some moof → moof.size ≤ 2097152
moof_short None moof pending e = absurd cc
moof_short (Some other) moof pending e = let same : other ≡ moof = cc in subst (λ (m : PendingMoof). m.size ≤ 2097152) same pending.1

-- lengths add up far below the bound
pub lengths_fit : (s : PushState) (h kind : List ℕ) (head n size : ℕ) (moof : PendingMoof) → IsOpen (length h) (decision s h) → decision s h ≡ Take Mdat size → head_of h ≡ Whole kind head n
    → moof.size ≤ 2097152 → moof.size + head < 2 ^ 64
lengths_fit s h kind head n size moof due taken read short =
    let lt : length h < size = still_open s h size due taken in
    omega (arith, short, head_inside s h kind head n size taken read (omega (arith, lt)), take_limited s h Mdat size taken)
