-- What one act of a connection reads.
use Rattle.std.proofs.Common.{◌≡◌, ◌≢◌, ◌<◌, ℕ, ◌-◌, ◌≤◌, ◌⊎◌, false, List, [], ◌∷◌, ◌++◌, length, take, drop, get_or, refl, ap, ◌∙◌, sym, subst, arith, inl, inr, take-append-drop, length-drop}
use Rattle.std.specs.Prelude.{map, Bool, Result, Ok, Err, IfOk}
use Rattle.std.proofs.lemmas.List.{append-nil, length-take, take_all}
use Rattle.std.proofs.lemmas.Grind.{flat_map-append}
use Rattle.sm_body.specs.declared.place.Place.{Place}
use Rattle.sm_body.specs.declared.place.Place.TheVariants.{Ended, Failed}
use Rattle.sm_body.specs.Places.{place_after, body_from, is_data, next_place}
use Rattle.sm_model.specs.declared.cause.Cause.{Cause}
use Rattle.sm_model.specs.declared.cause.Cause.TheVariants.{BadChunk}
use Rattle.sm_head.specs.declared.asked.Asked.{Asked}
use Rattle.sm_head.specs.Requests.{IsWaiting, IsRefused, IsHeadAt}
use Rattle.sm_conn.specs.declared.part.Part.{Part}
use Rattle.sm_conn.specs.Parts.{PartItem, byte, ended, bad, Mode, in_head, in_body, closed, behind_item, opening, behind_head, Reads, waiting, refused, whole, body, stopped, failed}
use Rattle.sm_conn.specs.Stands.{items_of, joined, mode_from, mode_at}
use Rattle.sm_conn.specs.declared.conn.State.{State}
use Rattle.sm_conn.specs.declared.conn.State.TheVariants.{Head, Body, Closed}
use Rattle.sm_conn.proofs.PartsLaw.{body_on, data_items}

pub joined_push : (ps qs : List Part) (p : Part) → qs ≡ ps ++ p ∷ [] → joined qs ≡ joined ps ++ items_of p
joined_push ps qs p pushed = ap joined pushed ∙ flat_map-append items_of ps (p ∷ []) ∙ ap (λ i. joined ps ++ i) (append-nil (items_of p))

data_none : (p : Place) (xs : List ℕ) → is_data p ≡ false → length xs ≤ 1 → data_items p xs ≡ []
data_none p [] frame short = refl
data_none p (x ∷ []) frame short = rw frame refl
data_none p (x ∷ y ∷ xs) frame short = absurd (omega arith)

none_taken : (p : Place) (bytes : List ℕ) (n : ℕ) → is_data p ≡ false → n ≤ 1 → data_items p (take n bytes) ≡ []
none_taken p bytes n frame small = let l = length-take n bytes in data_none p (take n bytes) frame (omega arith)

pub skip_act : (a : Mode) (p q : Place) (k : Bool) (bytes : List ℕ) (n : ℕ) → a ≡ in_body p k → is_data p ≡ false → n ≡ 1 → q ≡ place_after p (take n bytes)
    → (items : List PartItem) (last : Mode) → Reads (in_body q k) (drop n bytes) items last → Reads a bytes ([] ++ items) last
skip_act a p q k bytes n at frame one moved items last next =
    subst (λ (b : List ℕ). Reads a b ([] ++ items) last) (take-append-drop n bytes)
    (body_on p k (take n bytes) (drop n bytes) a (in_body q k) last [] items at (ap (λ r. in_body r k) moved) (sym (none_taken p bytes n frame (omega arith))) next)

pub body_act : (a : Mode) (p q : Place) (k : Bool) (bytes part : List ℕ) (n : ℕ) → a ≡ in_body p k → q ≡ place_after p (take n bytes) → body_from p (take n bytes) ≡ take n bytes → part ≡ take n bytes
    → (items : List PartItem) (last : Mode) → Reads (in_body q k) (drop n bytes) items last → Reads a bytes (map (λ b. byte b) part ++ items) last
body_act a p q k bytes part n at moved all is items last next =
    subst (λ (b : List ℕ). Reads a b (map (λ b. byte b) part ++ items) last) (take-append-drop n bytes)
    (body_on p k (take n bytes) (drop n bytes) a (in_body q k) last (map (λ b. byte b) part) items at (ap (λ r. in_body r k) moved) (ap (map (λ b. byte b)) (is ∙ sym all)) next)

pub end_act : (a : Mode) (p : Place) (k : Bool) (bytes : List ℕ) (n : ℕ) → a ≡ in_body p k → is_data p ≡ false → n ≤ 1 → place_after p (take n bytes) ≡ Ended
    → (items : List PartItem) (last : Mode) → Reads (behind_item k) (drop n bytes) items last → Reads a bytes ((ended k ∷ []) ++ items) last
end_act a p k bytes n at frame small stops items last next =
    stopped a last bytes (ended k ∷ items) p k (take n bytes) (drop n bytes) items at (sym (take-append-drop n bytes)) stops next
    (ap (λ i. i ++ (ended k ∷ items)) (sym (none_taken p bytes n frame small)))

pub more_act : (a : Mode) (p q : Place) (k : Bool) (bytes : List ℕ) → a ≡ in_body p k → bytes ≡ [] → q ≡ p → p ≢ Ended → p ≢ Failed → Reads a bytes [] (in_body q k)
more_act a p q k bytes at none same open_ fine =
    subst (λ (b : List ℕ). Reads a b [] (in_body q k)) (sym none) (body a (in_body q k) [] [] p k at open_ fine refl (ap (λ r. in_body r k) same))

pub bad_act : (a : Mode) (p : Place) (k : Bool) (bytes : List ℕ) → a ≡ in_body p k → p ≢ Failed
    → (p ≡ Failed) ⊎ ((p ≢ Ended) × (0 < length bytes) × (next_place p (get_or bytes 0 0) ≡ Failed)) → Reads a bytes (bad BadChunk ∷ []) closed
bad_act a p k bytes at fine (inl was) = absurd (fine was)
bad_act a p k [] at fine (inr (still, some, now)) = absurd (omega arith)
bad_act a p k (x ∷ bytes) at fine (inr (still, some, now)) = failed a closed (x ∷ bytes) (bad BadChunk ∷ []) p k [] x bytes at refl still fine now refl refl

pub whole_act : (a : Mode) (bytes : List ℕ) (len : ℕ) (asked : Asked) → a ≡ in_head [] → IsHeadAt bytes len (Ok asked)
    → (items : List PartItem) (last : Mode) → Reads (behind_head asked) (drop len bytes) items last → Reads a bytes (opening asked ++ items) last
whole_act a bytes len asked at is items last next =
    let l = length-drop len bytes in
    whole a last bytes (opening asked ++ items) [] (drop len bytes) is.h asked items at is.reads (omega (arith, is.short, is.fits)) is.judged_is next refl

pub partial_act : (a : Mode) (bytes kept : List ℕ) → a ≡ in_head [] → IsWaiting bytes → kept ≡ bytes → Reads a bytes [] (in_head kept)
partial_act a bytes kept at wait same = waiting a (in_head kept) bytes [] [] at wait refl (ap (λ k. in_head k) same)

pub refused_act : (a : Mode) (bytes : List ℕ) (cause : Cause) → a ≡ in_head [] → IsRefused bytes cause → Reads a bytes (bad cause ∷ []) closed
refused_act a bytes cause at refuse = refused a closed bytes (bad cause ∷ []) [] cause at refuse refl refl

-- ---- the end of a piece

pub finish : (a mid last : Mode) (xs ys : List ℕ) (at : ℕ) (before after added : List PartItem) → ys ≡ xs → after ≡ before ++ added
    → Reads mid (take (length ys - at) (drop at ys)) added last
    → ((items : List PartItem) (last : Mode) → Reads mid (drop at xs) items last → Reads a xs (before ++ items) last)
    → Reads a xs after last
finish a mid last xs ys at before after added same joins reads on =
    let l = length-drop at ys in
    let all : take (length ys - at) (drop at ys) ≡ drop at xs = take_all (length ys - at) (drop at ys) (omega arith) ∙ ap (drop at) same in
    subst (λ (i : List PartItem). Reads a xs i last) (sym joins) (on added last (subst (λ (b : List ℕ). Reads mid b added last) all reads))

pub mode_without : (s : State) (kept : List ℕ) → (s ≡ Head → ⊥) → mode_from s kept ≡ mode_at s
mode_without Head kept other = absurd (other refl)
mode_without (Body framer close) kept other = refl
mode_without Closed kept other = refl

pub if_ok : {T E : Type 0} (r : Result T E) (P Q : T → Type 0) → ((t : T) → P t → Q t) → IfOk r P → IfOk r Q
if_ok (Ok t) P Q on is = on t is
if_ok (Err e) P Q on is = is
