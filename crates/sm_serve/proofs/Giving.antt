-- What parts give to a run.
use Rattle.std.proofs.Common.{◌≡◌, ℕ, Bool, true, false, if◌then◌else◌, List, [], ◌∷◌, ◌++◌, Option, Some, None, Ok, Err, is_some, refl, sym, ◌∙◌, ap, subst, append_assoc}
use Rattle.std.specs.Prelude.{map}
use Rattle.sm_site.specs.Meanings.{Seen}
use Rattle.sm_model.specs.declared.cause.Refusal.{Refusal}
use Rattle.sm_model.specs.declared.item.Item.{Item}
use Rattle.sm_model.specs.Items.{Given, item_of}
use Rattle.sm_model.specs.Items as given
use Rattle.sm_model.specs.declared.header.HeaderTrack.{HeaderTrack}
use Rattle.std.specs.List.{AllByRecursion}
use Rattle.sm_serve.specs.Pushes.{AreValid}
use Rattle.sm_push.specs.Body.{body, body_end, led_by, refused}
use Rattle.sm_push.specs.declared.fault.PushFault.TheVariants as pushes
use Rattle.sm_push.specs.Standing.{Standing, push_header}
use Rattle.sm_model.specs.declared.target.Target.{Target}
use Rattle.sm_conn.specs.Parts.{PartItem, got, continued, ended}
use Rattle.sm_wire.specs.declared.item.WireItem.{WireItem}
use Rattle.sm_wire.specs.declared.item.WireItem.TheVariants.{Get, Continue, End}
use Rattle.sm_wire.specs.Wire.{wire, Left, shown}
use Rattle.sm_wire.proofs.WireLaw.{left_unique, got_left, got_close, continue_left, ended_left, ended_close}
use Rattle.sm_serve.specs.Items.{shown_item, ItemIsValid}
use Rattle.sm_serve.specs.Run.{idle, acting}
use Rattle.sm_serve.specs.Standing.{History}
use Rattle.sm_serve.specs.Resting.{PlaceIs, counts_of}
use Rattle.sm_serve.specs.declared.handler.Handler.{Handler}
use Rattle.sm_serve.specs.declared.still.Still.{Still}
use Rattle.sm_serve.specs.declared.still.Still.TheVariants.{Open, Closed}
use Rattle.sm_serve.proofs.Reaching.{reach_then, comes_here, comes_at}
use Rattle.sm_serve.specs.Giving.{FedPush, IsAt, Comes, StaysOpen, PartGives}

pub fed_place : (b piece : List ℕ) (push : Option Standing) (items : List Given) → FedPush b piece push (Ok items) → PlaceIs push (Some (b ++ piece)) × ((body false (b ++ piece)).items ≡ (body false b).items ++ items)
fed_place b piece None items fed = absurd fed
fed_place b piece (Some p) items fed = fed

pub fed_refused : (b piece : List ℕ) (push : Option Standing) (before : List Given) (r : Refusal) → FedPush b piece push (Err (pushes.Refused before r))
    → (header : List HeaderTrack) × (body false (b ++ piece) ≡ led_by ((body false b).items ++ before) (refused header r))
fed_refused b piece None before r fed = absurd fed
fed_refused b piece (Some p) before r fed = (push_header p, fed)

-- what is given is valid, without its track_IDs too
pub valid_items : (gs : List Given) → AreValid gs → AllByRecursion ItemIsValid (map item_of gs)
valid_items [] valid = tt
valid_items (given.Header channel ∷ gs) valid = (valid.0, valid_items gs valid.1)
valid_items (given.Frag id f ∷ gs) valid = (valid.0, valid_items gs valid.1)

pub valid_vec : (items : List Item) (gs : List Given) → items ≡ map item_of gs → AreValid gs → AllByRecursion ItemIsValid items
valid_vec items gs is valid = subst (λ (xs : List Item). AllByRecursion ItemIsValid xs) (sym is) (valid_items gs valid)

same_shown : (g : Given) → shown_item (item_of g) ≡ shown g
same_shown (given.Header channel) = refl
same_shown (given.Frag id f) = refl

pub shown_items : (gs : List Given) → map shown_item (map item_of gs) ≡ map shown gs
shown_items [] = refl
shown_items (g ∷ gs) = ap (λ (ws : List WireItem). shown_item (item_of g) ∷ ws) (shown_items gs) ∙ ap (λ (w : WireItem). w ∷ map shown gs) (same_shown g)

pub shown_vec : (items : List Item) (gs : List Given) (rest : List WireItem) → items ≡ map item_of gs → map shown_item items ++ rest ≡ map shown gs ++ rest
shown_vec items gs rest is = ap (λ (xs : List Item). map shown_item xs ++ rest) is ∙ ap (λ (ws : List WireItem). ws ++ rest) (shown_items gs)

module _ {D : Type 0} (site : Seen D) where
  pub open_gives : (h : History) (n : ℕ) (r : Still) (before after : Option (List ℕ)) (parts more : List PartItem) (given left : List WireItem) (new : Handler D)
      → Comes site h n r left new → PlaceIs new.live.now.push after → Left after more left
      → ((qs : List PartItem) (ws : List WireItem) → Left after qs ws → Left before (parts ++ qs) (given ++ ws)) → PartGives site h n r before parts more new
  open_gives h n Open before after parts more given left new comes place left_is on =
      record { after = after; after_is = place; given = given; on = on; left = left; left_is = left_is; reaches = comes }
  open_gives h n Closed before after parts more given left new comes place left_is on = comes

  pub closed_gives : (h : History) (n : ℕ) (r : Still) (before : Option (List ℕ)) (parts more : List PartItem) (left : List WireItem) (new : Handler D)
      → r ≡ Closed → Comes site h n r left new → PartGives site h n r before parts more new
  closed_gives h n Open before parts more left new is comes = absurd (cc)
  closed_gives h n Closed before parts more left new is comes = comes

  pub starved_gives : (h : History) (n : ℕ) (r : Still) (before : Option (List ℕ)) (parts more : List PartItem) (new : Handler D)
      → r ≡ Closed → Comes site h n Closed [] new → PartGives site h n r before parts more new
  starved_gives h n Open before parts more new is comes = absurd (cc)
  starved_gives h n Closed before parts more new is comes = comes

  -- an end of a push
  pub end_gives : (h : History) (n : ℕ) (close : Bool) (r : Still) (b : List ℕ) (more : List PartItem) (new : Handler D) → body_end false b ≡ None
      → (close ≡ true → r ≡ Closed) → (r ≡ Open → new.live.now.push ≡ None) → Comes site h n r (if close then [] else wire None more) new
      → PartGives site h n r (Some b) (ended close ∷ []) more new
  end_gives h n true r b more new clear closes none comes = closed_gives h n r (Some b) (ended true ∷ []) more [] new (closes refl) comes
  end_gives h n false Closed b more new clear closes none comes = comes
  end_gives h n false Open b more new clear closes none comes =
      open_gives h n Open (Some b) None (ended false ∷ []) more (End false ∷ []) (wire None more) new comes (subst (λ (p : Option Standing). PlaceIs p None) (sym (none refl)) tt) refl
      (λ qs ws left. ended_left b qs clear ∙ ap (λ (us : List WireItem). map shown (body false b).items ++ End false ∷ us) left)

  pub end_items : (b : List ℕ) (close : Bool) (more : List PartItem) (items : List WireItem) → body_end false b ≡ None → Left (Some b) (ended close ∷ more) items → items ≡ End close ∷ (if close then [] else wire None more)
  end_items b true more items clear left = left_unique (Some b) (ended true ∷ more) items _ left (ended_close b more clear)
  end_items b false more items clear left = left_unique (Some b) (ended false ∷ more) items _ left (ended_left b more clear)

  -- a request for what is there
  pub get_gives : (h : History) (n : ℕ) (t : Target) (close : Bool) (r : Still) (more : List PartItem) (new : Handler D)
      → (close ≡ true → r ≡ Closed) → PlaceIs new.live.now.push None → Comes site h n r (if close then [] else wire None more) new
      → PartGives site h n r None (got t close ∷ []) more new
  get_gives h n t true r more new closes none comes = closed_gives h n r None (got t true ∷ []) more [] new (closes refl) comes
  get_gives h n t false Closed more new closes none comes = comes
  get_gives h n t false Open more new closes none comes =
      open_gives h n Open None None (got t false ∷ []) more (Get t false ∷ []) (wire None more) new comes none refl
      (λ qs ws left. got_left t qs ∙ ap (λ (us : List WireItem). Get t false ∷ us) left)

  pub get_items : (t : Target) (close : Bool) (more : List PartItem) (items : List WireItem) → Left None (got t close ∷ more) items → items ≡ Get t close ∷ (if close then [] else wire None more)
  get_items t true more items left = left_unique None (got t true ∷ more) items _ left (got_close t more)
  get_items t false more items left = left_unique None (got t false ∷ more) items _ left (got_left t more)

  pub continue_gives : (h : History) (n : ℕ) (r : Still) (more : List PartItem) (new : Handler D) → PlaceIs new.live.now.push None
      → Comes site h n r (wire None more) new → PartGives site h n r None (continued ∷ []) more new
  continue_gives h n r more new none comes =
      open_gives h n r None None (continued ∷ []) more (Continue ∷ []) (wire None more) new comes none refl
      (λ qs ws left. continue_left qs ∙ ap (λ (us : List WireItem). Continue ∷ us) left)

pub place_clear : (push : Option Standing) (b : List ℕ) → PlaceIs push (Some b) → (body false b).refusal ≡ None
place_clear None b place = absurd place
place_clear (Some p) b place = place.clear

pub place_some : (push : Option Standing) (place : Option (List ℕ)) → is_some push ≡ true → PlaceIs push place → (b : List ℕ) × (place ≡ Some b)
place_some None place some is = absurd (cc)
place_some (Some p) None some is = absurd is
place_some (Some p) (Some b) some is = (b, refl)

pub place_none : (push : Option Standing) (place : Option (List ℕ)) → is_some push ≡ false → PlaceIs push place → place ≡ None
place_none None None none is = refl
place_none None (Some b) none is = absurd is
place_none (Some p) place none is = absurd (cc)

module _ {D : Type 0} (site : Seen D) where
  -- nothing was taken
  pub open_here : (h : History) (place : Option (List ℕ)) (more : List PartItem) (items : List WireItem) (old : Handler D)
      → IsAt site h items old → PlaceIs old.live.now.push place → Left place more items → StaysOpen site h old.live.now.number place [] more old
  open_here h place more items old at is left = record {
    after = place;
    after_is = is;
    given = [];
    on = λ qs ws l. l;
    left = items;
    left_is = left;
    reaches = comes_here site h items old at;
  }

  -- what is given behind parts that were taken
  joined_gives : (h : History) (n : ℕ) (r : Still) (before : Option (List ℕ)) (ps qs more : List PartItem) (mid new : Handler D) → (one : StaysOpen site h n before ps (qs ++ more) mid)
      → PartGives site one.reaches.later n r one.after qs more new → PartGives site h n r before (ps ++ qs) more new
  joined_gives h n Open before ps qs more mid new one two = record {
    after = two.after;
    after_is = two.after_is;
    given = one.given ++ two.given;
    on = λ rs ws l.
        subst (λ (xs : List PartItem). Left before xs ((one.given ++ two.given) ++ ws)) (sym (append_assoc ps qs rs))
        (subst (λ (us : List WireItem). Left before (ps ++ (qs ++ rs)) us) (sym (append_assoc one.given two.given ws)) (one.on (qs ++ rs) (two.given ++ ws) (two.on rs ws l)));
    left = two.left;
    left_is = two.left_is;
    reaches = reach_then site h one.reaches.later n true (acting n two.left) (counts_of new.live.now) (counts_of new.live.now) new.origin.now new.site.now one.reaches.follows two.reaches (λ t. refl);
  }
  joined_gives h n Closed before ps qs more mid new one two =
      reach_then site h one.reaches.later n false idle (counts_of new.live.now) (counts_of new.live.now) new.origin.now new.site.now one.reaches.follows two (λ t. refl)

  -- parts, and then further ones
  pub then_gives : (h : History) (n : ℕ) (r : Still) (before : Option (List ℕ)) (ps qs more : List PartItem) (mid new : Handler D) → mid.live.now.number ≡ n
      → (one : StaysOpen site h n before ps (qs ++ more) mid)
      → ((k : History) → IsAt site k one.left mid → PartGives site k mid.live.now.number r one.after qs more new)
      → PartGives site h n r before (ps ++ qs) more new
  then_gives h n r before ps qs more mid new same one so =
      let k = one.reaches.later in
      joined_gives h n r before ps qs more mid new one
      (subst (λ (m : ℕ). PartGives site k m r one.after qs more new) same (so k (comes_at site h n one.left mid same one.reaches)))
