-- What parts give, part by part.
use Rattle.std.proofs.Common.{◌≡◌, ℕ, Bool, true, false, List, [], ◌∷◌, ◌++◌, length, Option, Some, None, refl, sym, ◌∙◌, ap, append_assoc, if◌then◌else◌}
use Rattle.std.specs.Prelude.{map}
use Rattle.std.proofs.lemmas.List.{append-nil, map-append}
use Rattle.sm_model.specs.declared.cause.Cause.{Cause}
use Rattle.sm_model.specs.declared.cause.Refusal.{Refusal}
use Rattle.sm_model.specs.declared.header.HeaderTrack.{HeaderTrack}
use Rattle.sm_model.specs.Items.{Given}
use Rattle.sm_push.specs.Body.{Outcome, body, body_end, cut_off, walk, led_by, refused, IsFrontOf}
use Rattle.sm_model.specs.declared.target.Target.{Target}
use Rattle.sm_conn.specs.Parts.{PartItem, got, continued, posted, byte, ended, bad}
use Rattle.sm_wire.specs.declared.item.WireItem.{WireItem}
use Rattle.sm_wire.specs.declared.item.WireItem.TheVariants.{Continue, Get, End, Refuse}
use Rattle.sm_wire.specs.Wire.{shown, unplaced, pushed, wire, Left}

-- a common front is taken away
pub same_rest : {A : Type 0} (xs ys zs : List A) → xs ++ ys ≡ xs ++ zs → ys ≡ zs
same_rest [] ys zs e = e
same_rest (x ∷ xs) ys zs e = let tails : xs ++ ys ≡ xs ++ zs = cc in same_rest xs ys zs tails

pub left_unique : (o : Option (List ℕ)) (parts : List PartItem) (xs ys : List WireItem) → Left o parts xs → Left o parts ys → xs ≡ ys
left_unique None parts xs ys one two = sym one ∙ two
left_unique (Some b) parts xs ys one two = same_rest _ xs ys (sym one ∙ two)

pushed_rest : (o : Outcome) (r : Option Refusal) (rest : List WireItem) → (items : List WireItem) × (pushed o r rest ≡ map shown o.items ++ items)
pushed_rest o (Some r) rest = (Refuse r ∷ [], refl)
pushed_rest o None rest = (rest, refl)

pub got_left : (t : Target) (parts : List PartItem) → Left None (got t false ∷ parts) (Get t false ∷ wire None parts)
unfolding wire
got_left t parts = refl

pub got_close : (t : Target) (parts : List PartItem) → Left None (got t true ∷ parts) (Get t true ∷ [])
unfolding wire
got_close t parts = refl

pub continue_left : (parts : List PartItem) → Left None (continued ∷ parts) (Continue ∷ wire None parts)
unfolding wire
continue_left parts = refl

pub posted_left : (parts : List PartItem) (items : List WireItem) → Left (Some []) parts items → Left None (posted ∷ parts) items
unfolding wire walk
posted_left parts items left = left

pub bad_left : (cause : Cause) (parts : List PartItem) → Left None (bad cause ∷ parts) (Refuse (unplaced cause) ∷ [])
unfolding wire
bad_left cause parts = refl

pub bad_inside : (b : List ℕ) (cause : Cause) (parts : List PartItem) → (body false b).refusal ≡ None → Left (Some b) (bad cause ∷ parts) (Refuse (unplaced cause) ∷ [])
unfolding wire
bad_inside b cause parts clear = ap (λ (r : Option Refusal). pushed (body false b) r (Refuse (unplaced cause) ∷ [])) clear

pub ended_left : (b : List ℕ) (parts : List PartItem) → body_end false b ≡ None → Left (Some b) (ended false ∷ parts) (End false ∷ wire None parts)
unfolding wire
ended_left b parts clear = ap (λ (r : Option Refusal). pushed (body false b) r (End false ∷ wire None parts)) clear

pub ended_close : (b : List ℕ) (parts : List PartItem) → body_end false b ≡ None → Left (Some b) (ended true ∷ parts) (End true ∷ [])
unfolding wire
ended_close b parts clear = ap (λ (r : Option Refusal). pushed (body false b) r (End true ∷ [])) clear

pub ended_refused : (b : List ℕ) (parts : List PartItem) (close : Bool) (r : Refusal) → body_end false b ≡ Some r → Left (Some b) (ended close ∷ parts) (Refuse r ∷ [])
unfolding wire
ended_refused b parts close r is = ap (λ (s : Option Refusal). pushed (body false b) s (End close ∷ (if close then [] else wire None parts))) is

-- bytes of a push are joined
pub bytes_joined : (bytes b : List ℕ) (parts : List PartItem) → wire (Some b) (map byte bytes ++ parts) ≡ wire (Some (b ++ bytes)) parts
unfolding wire
bytes_joined [] b parts = ap (λ (c : List ℕ). wire (Some c) parts) (sym (append-nil b))
bytes_joined (x ∷ bytes) b parts = bytes_joined bytes (b ++ x ∷ []) parts ∙ ap (λ (c : List ℕ). wire (Some c) parts) (append_assoc b (x ∷ []) bytes)

pub bytes_left : (b bytes : List ℕ) (new : List Given) (parts : List PartItem) (items : List WireItem) → (body false (b ++ bytes)).items ≡ (body false b).items ++ new
    → Left (Some (b ++ bytes)) parts items → Left (Some b) (map byte bytes ++ parts) (map shown new ++ items)
bytes_left b bytes new parts items more left =
    bytes_joined bytes b parts ∙ left ∙ ap (λ (gs : List Given). map shown gs ++ items) more ∙ ap (λ (ws : List WireItem). ws ++ items) (map-append shown (body false b).items new) ∙ append_assoc _ (map shown new) items

module _ (front : (headerless : Bool) (p q : List ℕ) → IsFrontOf (body headerless p) (body headerless (p ++ q))) where
  left_inside : (parts : List PartItem) (b : List ℕ) → (items : List WireItem) × Left (Some b) parts items
  unfolding wire
  left_inside [] b = pushed_rest (body false b) (body false b).refusal []
  left_inside (byte x ∷ parts) b =
      let rest = left_inside parts (b ++ x ∷ []) in
      let more = (front false b (x ∷ [])).items in
      (map shown more.0 ++ rest.0, bytes_left b (x ∷ []) more.0 parts rest.0 more.1 rest.1)
  left_inside (ended close ∷ parts) b = pushed_rest (body false b) (body_end false b) _
  left_inside (bad cause ∷ parts) b = pushed_rest (body false b) (body false b).refusal _
  left_inside (got t close ∷ parts) b = pushed_rest (body false b) (body false b).refusal _
  left_inside (continued ∷ parts) b = pushed_rest (body false b) (body false b).refusal _
  left_inside (posted ∷ parts) b = pushed_rest (body false b) (body false b).refusal _

  pub left_exists : (o : Option (List ℕ)) (parts : List PartItem) → (items : List WireItem) × Left o parts items
  left_exists None parts = (wire None parts, refl)
  left_exists (Some b) parts = left_inside parts b

  -- a refusal stays, whatever follows
  refusal_stays : (parts : List PartItem) (b : List ℕ) (r : Refusal) → (body false b).refusal ≡ Some r → wire (Some b) parts ≡ map shown (body false b).items ++ Refuse r ∷ []
  unfolding wire
  refusal_stays [] b r is = ap (λ (s : Option Refusal). pushed (body false b) s []) is
  refusal_stays (byte x ∷ parts) b r is =
      let on = (front false b (x ∷ [])).refusal r is in
      refusal_stays parts (b ++ x ∷ []) r on.1 ∙ ap (λ (gs : List Given). map shown gs ++ Refuse r ∷ []) on.0
  refusal_stays (ended close ∷ parts) b r is =
      ap (λ (s : Option Refusal). pushed (body false b) (cut_off (body false b).inside (length b) s) (End close ∷ (if close then [] else wire None parts))) is
      ∙ cut_same (body false b).inside (length b)
    where
      cut_same : (i : Bool) (n : ℕ) → pushed (body false b) (cut_off i n (Some r)) (End close ∷ (if close then [] else wire None parts)) ≡ map shown (body false b).items ++ Refuse r ∷ []
      cut_same true n = refl
      cut_same false n = refl
  refusal_stays (bad cause ∷ parts) b r is = ap (λ (s : Option Refusal). pushed (body false b) s (Refuse (unplaced cause) ∷ [])) is
  refusal_stays (got t close ∷ parts) b r is = ap (λ (s : Option Refusal). pushed (body false b) s []) is
  refusal_stays (continued ∷ parts) b r is = ap (λ (s : Option Refusal). pushed (body false b) s []) is
  refusal_stays (posted ∷ parts) b r is = ap (λ (s : Option Refusal). pushed (body false b) s []) is

  pub refused_left : (b bytes : List ℕ) (before : List Given) (header : List HeaderTrack) (r : Refusal) (parts : List PartItem) → body false (b ++ bytes) ≡ led_by ((body false b).items ++ before) (refused header r)
      → Left (Some b) (map byte bytes ++ parts) (map shown before ++ Refuse r ∷ [])
  refused_left b bytes before header r parts is =
      let items : (body false (b ++ bytes)).items ≡ (body false b).items ++ before = ap (λ (o : Outcome). o.items) is ∙ append-nil ((body false b).items ++ before) in
      bytes_left b bytes before parts (Refuse r ∷ []) items (refusal_stays parts (b ++ bytes) r (ap (λ (o : Outcome). o.refusal) is))

  -- what the front gives begins what all give
  front_from : (parts : List PartItem) (o : Option (List ℕ)) (more : List PartItem) → (rest : List WireItem) × (wire o (parts ++ more) ≡ wire o parts ++ rest)
  unfolding wire
  front_from [] None more = (wire None more, refl)
  front_from [] (Some b) more = inside (body false b).refusal refl
    where
      inside : (s : Option Refusal) → (body false b).refusal ≡ s → (rest : List WireItem) × (wire (Some b) more ≡ wire (Some b) [] ++ rest)
      inside (Some r) is = ([], refusal_stays more b r is ∙ sym (append-nil _) ∙ ap (λ (s : Option Refusal). pushed (body false b) s [] ++ []) (sym is))
      inside None is =
          let items = left_inside more b in
          (items.0, items.1 ∙ ap (λ (ws : List WireItem). ws ++ items.0) (sym (append-nil (map shown (body false b).items))) ∙ ap (λ (s : Option Refusal). pushed (body false b) s [] ++ items.0) (sym is))
  front_from (got t true ∷ parts) None more = ([], refl)
  front_from (got t false ∷ parts) None more = let rest = front_from parts None more in (rest.0, ap (λ (ws : List WireItem). Get t false ∷ ws) rest.1)
  front_from (continued ∷ parts) None more = let rest = front_from parts None more in (rest.0, ap (λ (ws : List WireItem). Continue ∷ ws) rest.1)
  front_from (posted ∷ parts) None more = front_from parts (Some []) more
  front_from (bad cause ∷ parts) None more = ([], refl)
  front_from (byte x ∷ parts) None more = ([], refl)
  front_from (ended close ∷ parts) None more = ([], refl)
  front_from (byte x ∷ parts) (Some b) more = front_from parts (Some (b ++ x ∷ [])) more
  front_from (ended true ∷ parts) (Some b) more = ([], sym (append-nil _))
  front_from (ended false ∷ parts) (Some b) more = let rest = front_from parts None more in ended_front (body_end false b) rest.0 rest.1
    where
      ended_front : (r : Option Refusal) (rest : List WireItem) → wire None (parts ++ more) ≡ wire None parts ++ rest
          → (left : List WireItem) × (pushed (body false b) r (End false ∷ wire None (parts ++ more)) ≡ pushed (body false b) r (End false ∷ wire None parts) ++ left)
      ended_front (Some r) rest e = ([], sym (append-nil _))
      ended_front None rest e = (rest, ap (λ (ws : List WireItem). map shown (body false b).items ++ End false ∷ ws) e ∙ sym (append_assoc (map shown (body false b).items) (End false ∷ wire None parts) rest))
  front_from (bad cause ∷ parts) (Some b) more = ([], sym (append-nil _))
  front_from (got t close ∷ parts) (Some b) more = ([], sym (append-nil _))
  front_from (continued ∷ parts) (Some b) more = ([], sym (append-nil _))
  front_from (posted ∷ parts) (Some b) more = ([], sym (append-nil _))

  pub wire_front : (parts more : List PartItem) → (rest : List WireItem) × (wire None (parts ++ more) ≡ wire None parts ++ rest)
  wire_front parts more = front_from parts None more

pub posted_back : (parts : List PartItem) (items : List WireItem) → Left None (posted ∷ parts) items → Left (Some []) parts items
unfolding wire walk
posted_back parts items left = left
