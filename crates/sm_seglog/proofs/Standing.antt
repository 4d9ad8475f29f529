-- What a log over many files stands for behind its calls.
use Rattle.std.proofs.Common.{◌≡◌, ◌≢◌, ⊎_elim, ℕ, ◌+◌, ◌-◌, ◌≤◌, ◌<◌, ◌^◌, min, true, false, List, [], ◌∷◌, ◌++◌, length, get_or, slice_get, Option, None, Some, is_some, IsSome, IfSome, Result, Ok, Err, IfOk, refl, sym, ap, subst, ◌∙◌, ◌⊎◌, inl, inr, arith}
use Rattle.std.specs.Prelude.{IsErrOf}
use Rattle.std.proofs.lemmas.List.{length_push, length-append}
use Rattle.std.proofs.lemmas.Option.{slice_get-get_or}
use Rattle.sm_site.specs.Image.{Image}
use Rattle.sm_site.specs.Clauses.{HasCause, Rose}
use Rattle.sm_gatelog.specs.Logs.{Log, FaultsRise, IsSettled, IsStored, SettleFaults, kept, log_after, log_settled, slots_from}
use Rattle.sm_gatelog.specs.Logs as log
use Rattle.sm_gatelog.proofs.Sound.{length-slots}
use Rattle.sm_gatelog.specs.declared.slot.Slot.{Slot}
use Rattle.sm_gatelog.specs.declared.answer.Appended.{Appended}
use Rattle.sm_gatelog.specs.declared.answer.Appended.TheVariants as appended
use Rattle.sm_gatelog.specs.declared.answer.Settled.{Settled}
use Rattle.sm_gatelog.specs.declared.answer.Settled.TheVariants as settled
use Rattle.sm_gatelog.specs.declared.answer.ReadFault.{ReadFault}
use Rattle.sm_gatelog.specs.declared.answer.ReadFault.TheVariants as read_fault
use Rattle.sm_seglog.specs.Stores.{joined, slots_in}
use Rattle.sm_seglog.specs.Segments.{Segments, SegStands, GoesOn, HasRoom, IsBlank, IsNextReady, NextGrows, OnlyReserved, AfterSegAppend, AfterSegSettle, SegAfter, advanced, count_of, shifted_settled, slots_of, with_last}
use Rattle.sm_seglog.specs.Standing.{AfterAppend, AfterSettle, Fits, Leaves, Stands, StaysReserved}
use Rattle.sm_seglog.proofs.Images.{seg_reserved, stands_none}
use Rattle.sm_seglog.proofs.Opening.{each_fewer}
use Rattle.sm_seglog.proofs.Parts.{each_slots}

-- ---- what a value stands for

pub stands_some : (v : Segments) (bodies : List (List ℕ)) (body : List ℕ) (n : ℕ) (outcomes : Image → Type 0) → count_of v ≡ min (length bodies) (2 ^ 64 - 1) → v.last.doubt ≡ Some n → ((c : Image) → outcomes c
    → SegStands bodies (Some body) v outcomes) → Stands v bodies (Some body) outcomes
stands_some v bodies body n outcomes count some each = record { count = count; doubts = sym (ap (λ (o : Option ℕ). is_some o) some); each = each }

pub sure_of : (v : Segments) (bodies : List (List ℕ)) (outcomes : Image → Type 0) → Stands v bodies None outcomes → v.last.doubt ≡ None
sure_of v bodies outcomes s = none v.last.doubt s.doubts
  where
    none : (o : Option ℕ) → false ≡ is_some o → o ≡ None
    none None e = refl
    none (Some n) e = absurd cc

pub stands_sure : (v : Segments) (bodies : List (List ℕ)) (doubt : Option (List ℕ)) (outcomes : Image → Type 0) → v.last.doubt ≡ None → Stands v bodies doubt outcomes → Stands v bodies None outcomes
stands_sure v bodies None outcomes none s = s
stands_sure v bodies (Some body) outcomes none s = let no : true ≡ false = s.doubts ∙ ap (λ (o : Option ℕ). is_some o) none in absurd (cc)

pub count_push : (bodies : List (List ℕ)) (body : List ℕ) (n m : ℕ) → n ≡ min (length bodies) (2 ^ 64 - 1) → m ≡ min (n + 1) (2 ^ 64 - 1) → m ≡ min (length (bodies ++ body ∷ [])) (2 ^ 64 - 1)
count_push bodies body n m is more = omega (arith, is, more, length_push bodies body)

pub same_stands : (bodies : List (List ℕ)) (v w : Segments) (old new : Image → Type 0) → w ≡ v → ((c : Image) → new c → (d : Image) × old d) → (SegStands bodies None v old → SegStands bodies None w new)
    → Stands v bodies None old → Stands w bodies None new
same_stands bodies v w old new same from after s = record {
  count = ap count_of same ∙ s.count;
  doubts = s.doubts ∙ ap (λ (l : Segments). is_some l.last.doubt) (sym same);
  each = λ c left. let d = from c left in after (s.each d.0 d.1);
}

-- ---- fewer outcomes, and the same log with more reserved

log_fewer : (bodies : List (List ℕ)) (doubt : Option (List ℕ)) (l : Log) (old new : Image → Type 0) → ((c : Image) → new c → old c) → log.Stands bodies doubt l old → log.Stands bodies doubt l new
log_fewer bodies doubt l old new less s = record { made = s.made; slots = s.slots; end = s.end; doubt_is = s.doubt_is; held = λ c left. s.held c (less c left) }

pub seg_fewer : (bodies : List (List ℕ)) (doubt : Option (List ℕ)) (v : Segments) (old new : Image → Type 0) → ((c : Image) → new c → old c) → SegStands bodies doubt v old → SegStands bodies doubt v new
seg_fewer bodies doubt v old new less s = record {
  parts = s.parts;
  here = s.here;
  bodies_are = s.bodies_are;
  before = s.before;
  full = each_fewer 0 v.full s.parts old new less s.full;
  last = log_fewer s.here doubt v.last old new less s.last;
  file = s.file;
  few = s.few;
  next = λ c left. s.next c (less c left);
  rest = λ c left. s.rest c (less c left);
}

pub fewer_outcomes : (v : Segments) (bodies : List (List ℕ)) (doubt : Option (List ℕ)) (old new : Image → Type 0) → ((c : Image) → new c → old c) → Stands v bodies doubt old → Stands v bodies doubt new
fewer_outcomes v bodies doubt old new less s = record { count = s.count; doubts = s.doubts; each = λ c left. seg_fewer bodies doubt v old new less (s.each c (less c left)) }

pub same_count : (v w : Segments) → OnlyReserved v w → count_of w ≡ count_of v
same_count v w r =
    let slots = ap (λ (l : Log). length l.slots) r.last in
    ap (λ (n : ℕ). min (n + length w.last.slots) (2 ^ 64 - 1)) r.before ∙ ap (λ (n : ℕ). min (v.before + n) (2 ^ 64 - 1)) slots

pub reserved_stands : (v w : Segments) (bodies : List (List ℕ)) (doubt : Option (List ℕ)) (outcomes : Image → Type 0) → OnlyReserved v w → Stands v bodies doubt outcomes → Stands w bodies doubt outcomes
reserved_stands v w bodies doubt outcomes r s = record {
  count = same_count v w r ∙ s.count;
  doubts = s.doubts ∙ ap (λ (l : Log). is_some l.doubt) (sym r.last);
  each = λ c left. seg_reserved bodies doubt v w outcomes r (s.each c left);
}

-- where the contents are told, they are an outcome
pub outcome : (contents : Option Image) (P : Image → Type 0) → IsSome contents → IfSome contents P → (x : Image) × P x
outcome None P some passes = absurd cc
outcome (Some x) P some passes = (x, passes)

slots_count : (parts : List (List (List ℕ))) → length (slots_in parts) ≡ length (joined parts)
slots_count [] = refl
slots_count (p ∷ parts) = omega (arith, length-append (slots_from 13 p) (slots_in parts), length-append p (joined parts), length-slots 13 p, slots_count parts)

-- the gate of each body
pub slot_there : (bodies : List (List ℕ)) (v : Segments) (place : ℕ) (outcomes : Image → Type 0) (d : Slot) → SegStands bodies None v outcomes → place < count_of v
    → slice_get (slots_of v.full ++ v.last.slots) place ≡ Some (get_or (slots_of v.full ++ v.last.slots) place d)
slot_there bodies v place outcomes d s below =
    let full : length (slots_of v.full) ≡ length (joined s.parts) = ap length (each_slots 0 v.full s.parts outcomes s.full) ∙ slots_count s.parts in
    slice_get-get_or (slots_of v.full ++ v.last.slots) place d (omega (arith, below, s.before, full, length-append (slots_of v.full) v.last.slots))

-- ---- an append

-- how many bodies there are, and which is in doubt
abbrev pub Counted : Segments → ℕ → Appended → Segments → Type 0
Counted old n (appended.Stored place) new = (count_of new ≡ min (count_of old + 1) (2 ^ 64 - 1)) × (new.last.doubt ≡ None)
Counted old n appended.Clean new = (count_of new ≡ count_of old) × (new.last.doubt ≡ None)
Counted old n appended.Doubt new = (count_of new ≡ count_of old) × (new.last.doubt ≡ Some n)

counted_here : (old : Segments) (n : ℕ) (r : Appended) → old.last.doubt ≡ None → Counted old n r (with_last old (log_after old.last n r))
counted_here old n (appended.Stored place) none = let slot : Slot = record { gate = old.last.end; length = n } in (omega (arith, length_push old.last.slots slot), refl)
counted_here old n appended.Clean none = (refl, none)
counted_here old n appended.Doubt none = (refl, refl)

counted_next : (old : Segments) (next : Log) (n : ℕ) (r : Appended) → IsBlank (length old.full + 1) next → Counted old n r (with_last (advanced old next) (log_after (record next { made = true }) n r))
counted_next old next n (appended.Stored place) blank =
    let slot : Slot = record { gate = next.end; length = n } in
    let none : length next.slots ≡ 0 = ap length blank.slots in
    (omega (arith, length_push next.slots slot, none), refl)
counted_next old next n appended.Clean blank = let none : length next.slots ≡ 0 = ap length blank.slots in (omega (arith, none), blank.doubt)
counted_next old next n appended.Doubt blank = let none : length next.slots ≡ 0 = ap length blank.slots in (omega (arith, none), refl)

pub counted : (old : Segments) (n : ℕ) (r : Appended) (new : Segments) → old.last.doubt ≡ None → SegAfter old n r new → Counted old n r new
counted old n r new none (inl here) = subst (λ (v : Segments). Counted old n r v) (sym here.1) (counted_here old n r none)
counted old n r new none (inr (inl same)) = subst (λ (v : Segments). Counted old n r v) (sym same.1.1) (subst (λ (a : Appended). Counted old n a old) (sym same.1.0) (refl, none))
counted old n r new none (inr (inr next)) = subst (λ (v : Segments). Counted old n r v) (sym next.1.3) (counted_next old next.1.0 n r next.1.2)

ends_here : (last new : Log) (n : ℕ) → (last.slots ≡ []) ⊎ (last.end + (6 + n) ≤ 2 ^ 28) → length new.slots ≡ length last.slots + 1 → new.end ≡ last.end + (5 + n)
    → (length new.slots ≡ 1) ⊎ (new.end + 1 ≤ 2 ^ 28)
ends_here last new n (inl none) count end = inl (omega (arith, count, ap length none))
ends_here last new n (inr le) count end = inr (omega (arith, le, end))

leaves_here : (old : Segments) (n : ℕ) (r : Appended) → GoesOn old n → 1 ≤ old.last.spare → Leaves old r (with_last old (log_after old.last n r))
leaves_here old n (appended.Stored place) goes spare =
    let slot : Slot = record { gate = old.last.end; length = n } in
    ends_here old.last (kept old.last n) n goes (length_push old.last.slots slot) refl
leaves_here old n appended.Clean goes spare = record { fits = λ m fits. fits; spare = spare }
leaves_here old n appended.Doubt goes spare = record { fits = λ m fits. fits; spare = spare }

leaves_next : (old : Segments) (next : Log) (n : ℕ) (r : Appended) → IsBlank (length old.full + 1) next → 1 ≤ next.spare → Leaves old r (with_last (advanced old next) (log_after (record next { made = true }) n r))
leaves_next old next n (appended.Stored place) blank spare =
    let slot : Slot = record { gate = next.end; length = n } in
    let none : length next.slots ≡ 0 = ap length blank.slots in
    inl (omega (arith, length_push next.slots slot, none))
leaves_next old next n appended.Clean blank spare = record { fits = λ m fits. inl (inl blank.slots); spare = spare }
leaves_next old next n appended.Doubt blank spare = record { fits = λ m fits. inl (inl blank.slots); spare = spare }

pub leaves : (old : Segments) (n : ℕ) (r : Appended) (new : Segments) → 1 ≤ old.last.spare → (length old.full < 1023 → IsNextReady old n) → Fits old n → SegAfter old n r new → Leaves old r new
leaves old n r new spare ready fits (inl here) = subst (λ (v : Segments). Leaves old r v) (sym here.1) (leaves_here old n r here.0 spare)
leaves old n r new spare ready fits (inr (inl same)) =
    subst (λ (v : Segments). Leaves old r v) (sym same.1.1) (subst (λ (a : Appended). Leaves old a old) (sym same.1.0) (record { fits = λ m has. has; spare = spare }))
leaves old n r new spare ready fits (inr (inr next)) =
    let few : length old.full < 1023 = ⊎_elim (λ goes. absurd (next.0 goes)) (λ f. f) fits in
    let waits = ready few in
    let is : next.1.0 ≡ waits.0 = only next.1.0 waits.0 (sym next.1.1 ∙ waits.1) in
    subst (λ (v : Segments). Leaves old r v) (sym next.1.3) (leaves_next old next.1.0 n r next.1.2 (subst (λ (l : Log). 1 ≤ l.spare) (sym is) waits.2))
  where
    only : (x y : Log) → (let found : Log → Option Log = λ z. Some z in found x ≡ found y) → x ≡ y
    only x y e = cc

pub after_append : (bodies : List (List ℕ)) (body : List ℕ) (r : Appended) (v w : Segments) (old new : Image → Type 0) → Counted v (length body) r w → IsStored r (count_of v) → ((c : Image) → new c → (d : Image) × old d)
    → (SegStands bodies None v old → AfterSegAppend bodies body r w new) → Stands v bodies None old → AfterAppend bodies body r w new
after_append bodies body (appended.Stored place) v w old new counts at from after s = (
  at ∙ s.count,
  stands_none w (bodies ++ body ∷ []) new (count_push bodies body (count_of v) (count_of w) s.count counts.0) counts.1 (λ c left. let d = from c left in (after (s.each d.0 d.1)).1),
)
after_append bodies body appended.Clean v w old new counts at from after s = stands_none w bodies new (counts.0 ∙ s.count) counts.1 (λ c left. let d = from c left in after (s.each d.0 d.1))
after_append bodies body appended.Doubt v w old new counts at from after s =
    stands_some w bodies body (length body) new (counts.0 ∙ s.count) counts.1 (λ c left. let d = from c left in after (s.each d.0 d.1))

pub append_rises : (r : Appended) (m n : ℕ) → FaultsRise r m n → m ≤ n
append_rises (appended.Stored place) m n same = omega (arith, same)
append_rises appended.Clean m n rose = rose.later
append_rises appended.Doubt m n rose = rose.later

pub cause_rises : {T E : Type 0} (r : Result T E) (m n : ℕ) → HasCause m n r → m ≤ n
cause_rises (Ok x) m n cause = omega (arith, cause.done refl)
cause_rises (Err e) m n cause = (cause.failed refl).later

-- ---- settling

-- the doubt's length, and the value once it is settled
pub record IsSettling (v : Segments) (r : Settled) (w : Segments) : Type 0 where
  pub n : ℕ
  pub value : w ≡ with_last v (log_settled v.last n r)

pub settling : (v : Segments) (last : Log) (before : ℕ) (r : Settled) → IsSome v.last.doubt → IfSome v.last.doubt (λ n. last ≡ log_settled v.last n r) → IsSettling v (shifted_settled before r) (with_last v last)
settling v last before r some is = go v.last.doubt some is
  where
    same : (l : Log) (n : ℕ) (r : Settled) → log_settled l n r ≡ log_settled l n (shifted_settled before r)
    same l n (settled.Stored place) = refl
    same l n settled.Gone = refl
    same l n settled.DiskFault = refl

    go : (o : Option ℕ) → IsSome o → IfSome o (λ n. last ≡ log_settled v.last n r) → IsSettling v (shifted_settled before r) (with_last v last)
    go None some is = let none : false ≡ true = some in absurd (cc)
    go (Some n) some is = record { n = n; value = ap (λ (l : Log). with_last v l) (is ∙ same v.last n r) }

pub settled_at : (before : ℕ) (r : Settled) (n : ℕ) → IsSettled r n → IsSettled (shifted_settled before r) (min (before + n) (2 ^ 64 - 1))
settled_at before (settled.Stored place) n is = ap (λ (k : ℕ). min (before + k) (2 ^ 64 - 1)) is
settled_at before settled.Gone n is = tt
settled_at before settled.DiskFault n is = tt

pub after_settle : (bodies : List (List ℕ)) (body : List ℕ) (r : Settled) (v w : Segments) (old new : Image → Type 0) → IsSettling v r w → IsSettled r (count_of v) → ((c : Image) → new c → old c)
    → (SegStands bodies (Some body) v old → AfterSegSettle bodies body r w new) → Stands v bodies (Some body) old → AfterSettle bodies body r w new
after_settle bodies body (settled.Stored place) v w old new is at less after s =
    let slot : Slot = record { gate = v.last.end; length = is.n } in
    let count : count_of w ≡ min (v.before + (length v.last.slots + 1)) (2 ^ 64 - 1) = ap count_of is.value ∙ ap (λ (k : ℕ). min (v.before + k) (2 ^ 64 - 1)) (length_push v.last.slots slot) in (
      at ∙ s.count,
      stands_none w (bodies ++ body ∷ []) new (count_push bodies body (count_of v) (count_of w) s.count (omega (arith, count))) (ap (λ (l : Segments). l.last.doubt) is.value) (λ c left. (after (s.each c (less c left))).1),
    )
after_settle bodies body settled.Gone v w old new is at less after s =
    stands_none w bodies new (ap count_of is.value ∙ s.count) (ap (λ (l : Segments). l.last.doubt) is.value) (λ c left. after (s.each c (less c left)))
after_settle bodies body settled.DiskFault v w old new is at less after s = record {
  count = ap count_of is.value ∙ s.count;
  doubts = s.doubts ∙ ap (λ (l : Segments). is_some l.last.doubt) (sym is.value);
  each = λ c left. after (s.each c (less c left));
}

pub settle_same : (v w : Segments) (r : Settled) → IsSettling v r w → r ≡ settled.DiskFault → w ≡ v
settle_same v w (settled.Stored place) is e = absurd cc
settle_same v w settled.Gone is e = absurd cc
settle_same v w settled.DiskFault is e = is.value

last_reserved : (v : Segments) (n : ℕ) (r : Settled) → StaysReserved v (with_last v (log_settled v.last n r))
last_reserved v n (settled.Stored place) = record { spare = omega arith; room = λ m has. record { here = has.here; next = has.next } }
last_reserved v n settled.Gone = record { spare = omega arith; room = λ m has. record { here = has.here; next = has.next } }
last_reserved v n settled.DiskFault = record { spare = omega arith; room = λ m has. record { here = has.here; next = has.next } }

pub settle_reserved : (v w : Segments) (r : Settled) → IsSettling v r w → StaysReserved v w
settle_reserved v w r is = subst (λ (l : Segments). StaysReserved v l) (sym is.value) (last_reserved v is.n r)

pub settle_rises : (r : Settled) (m n : ℕ) → SettleFaults r m n → m ≤ n
settle_rises (settled.Stored place) m n same = omega (arith, same)
settle_rises settled.Gone m n same = omega (arith, same)
settle_rises settled.DiskFault m n rose = rose.later

-- ---- a read

pub read_there : {E : Type 0} (r : Result (List ℕ) E) (contents : Option Image) (v : Segments) (old : Image → Type 0) (place : ℕ) → place < count_of v → IfSome contents old
    → ((bodies : List (List ℕ)) (doubt : Option (List ℕ)) → SegStands bodies doubt v old → IfOk r (λ bytes. IfSome contents (λ c. bytes ≡ get_or bodies place [])))
    → IfOk r (λ bytes. (bodies : List (List ℕ)) (doubt : Option (List ℕ)) → Stands v bodies doubt old → IfSome contents (λ c. slice_get bodies place ≡ Some bytes))
read_there (Err e) contents v old place within passes is = tt
read_there (Ok bytes) None v old place within passes is = λ bodies doubt s. tt
read_there (Ok bytes) (Some x) v old place within passes is = λ bodies doubt s.
    slice_get-get_or bodies place [] (omega (arith, within, s.count)) ∙ ap (λ (b : List ℕ). Some b) (sym (is bodies doubt (s.each x passes)))

pub read_rises : {T : Type 0} (r : Result T ReadFault) (m n : ℕ) → (IsErrOf r read_fault.DiskFault → Rose m n) → (r ≢ Err read_fault.DiskFault → n ≡ m) → m ≤ n
read_rises (Ok x) m n cause same = omega (arith, same (λ e. absurd cc))
read_rises (Err read_fault.DiskFault) m n cause same = (cause refl).later
read_rises (Err read_fault.NoMemory) m n cause same = omega (arith, same (λ e. absurd cc))

-- ---- what is reserved

next_kept : (v w : Option Log) (n : ℕ) → NextGrows v w → (next : Log) × (v ≡ Some next) × (1 ≤ next.spare) × (n ≤ next.room) → (next : Log) × (w ≡ Some next) × (1 ≤ next.spare) × (n ≤ next.room)
next_kept None w n grows (next, is, spare, room) = absurd cc
next_kept (Some x) None n grows ready = absurd grows
next_kept (Some x) (Some y) n grows (next, is, spare, room) =
    let same : x ≡ next = only x next is in
    (y, refl, omega (arith, grows.0, ap (λ (l : Log). l.spare) same, spare), omega (arith, grows.1, ap (λ (l : Log). l.room) same, room))
  where
    only : (a b : Log) → (let found : Log → Option Log = λ z. Some z in found a ≡ found b) → a ≡ b
    only a b e = cc

-- there is no less room
pub room_kept : (v w : Segments) → OnlyReserved v w → (n : ℕ) → HasRoom v n → HasRoom w n
room_kept v w r n has = record {
  here = omega (arith, r.room, has.here);
  next = subst (λ (l : List Log). length l < 1023 → IsNextReady w n) (sym r.full) (λ few. next_kept v.next w.next n r.next (has.next few));
}
