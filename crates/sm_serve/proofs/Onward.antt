-- What stands of a connection behind a move, by the phase that the move leads to.
use Rattle.std.proofs.Common.{◌≡◌, ℕ, ◌≤◌, Bool, true, false, List, [], ◌∷◌, ◌++◌, take, refl, sym, ◌∙◌, ap, subst, append_assoc}
use Rattle.std.proofs.lemmas.List.{append-nil}
use Rattle.sm_model.specs.declared.entry.Entry.{Entry}
use Rattle.sm_model.specs.declared.fragment.Fragment.{Fragment}
use Rattle.sm_model.specs.Entries.{address_of}
use Rattle.sm_site.specs.Meanings.{Item}
use Rattle.sm_head.specs.declared.reply.TheConstants.{CONTINUE, NO_MEMORY}
use Rattle.sm_head.specs.Shown.{shows_status}
use Rattle.sm_wire.specs.declared.item.WireItem.{WireItem}
use Rattle.sm_wire.specs.declared.item.WireItem.TheVariants.{Continue, Frag}
use Rattle.sm_wire.specs.Wire.{IsWire}
use Rattle.sm_origin.specs.Machine.{Machine}
use Rattle.sm_origin.specs.Shown.{Claim, Acknowledged, Request, Shows}
use Rattle.sm_serve.specs.Connections.{received, live, is_among}
use Rattle.sm_serve.specs.Run.{Phase, in_phase, idle, acting, sending, shutting, Point, Stepped}
use Rattle.sm_serve.specs.Moments.{machine_at}
use Rattle.sm_serve.specs.Shown.{replies}
use Rattle.sm_serve.proofs.Answering.{IsOk, HeldIn, TextsHold, complete, open_push, Matches, AllBy, HeldBy, AreKept, Core, IsAway, IsOpenWith, Open, Sends, head, refused, Stood, WireLaws}
use Rattle.sm_serve.proofs.Adding.{Extends}
use Rattle.sm_serve.proofs.Growing.{reached_by}
use Rattle.sm_serve.proofs.Going.{machine_push}
use Rattle.sm_serve.proofs.Requests.{matches_map, matches_push, complete_split, open_split, bad_push, kept_push}

-- the same of a connection, for another predicate, behind a log that keeps what the open push has, and of equal bytes and replies
abbrev pub remade : (H K : Claim → Type 0) (log new : List Entry) (bytes now : List ℕ) (parts these : List (List ℕ)) → now ≡ bytes → these ≡ parts
    → ((claim : Claim) → H claim → K claim) → (c : Core H log bytes parts) → AreKept new (open_push [] c.done) → Core K new now these
remade H K log new bytes now parts these one two so c kept = record {
  base = c.base;
  extra = c.extra;
  bytes_are = one ∙ c.bytes_are;
  given = c.given;
  wire = c.wire;
  done = c.done;
  rest = c.rest;
  given_are = c.given_are;
  good = c.good;
  bad = c.bad;
  parts_are = two ∙ c.parts_are;
  matched = matches_map H K so (complete [] c.done) c.good c.matched;
  not_ok = c.not_ok;
  kept = kept;
}

-- the next item is done with, which ends no request
abbrev past : (H K : Claim → Type 0) (log new : List Entry) (bytes : List ℕ) (parts : List (List ℕ)) (c : Core H log bytes parts) (item : WireItem) (more : List WireItem)
    → ((claim : Claim) → H claim → K claim) → c.rest ≡ item ∷ more → complete (open_push [] c.done) (item ∷ []) ≡ [] → AreKept new (open_push [] (c.done ++ item ∷ []))
    → Core K new bytes parts
past H K log new bytes parts c item more so rest ends kept = record {
  base = c.base;
  extra = c.extra;
  bytes_are = c.bytes_are;
  given = c.given;
  wire = c.wire;
  done = c.done ++ item ∷ [];
  rest = more;
  given_are = c.given_are ∙ ap (λ (ws : List WireItem). c.done ++ ws) rest ∙ sym (append_assoc c.done (item ∷ []) more);
  good = c.good;
  bad = c.bad;
  parts_are = c.parts_are;
  matched = subst (λ (qs : List Request). Matches K qs c.good)
      (sym (complete_split [] c.done (item ∷ []) ∙ ap (λ (qs : List Request). complete [] c.done ++ qs) ends ∙ append-nil (complete [] c.done)))
      (matches_map H K so (complete [] c.done) c.good c.matched);
  not_ok = c.not_ok;
  kept = kept;
}

-- a reply that is sent, or its front, is one that answers the next request
pub replied : (now : ℕ → Machine) (H K : Claim → Type 0) (p : Point) (bytes : List ℕ) (parts : List (List ℕ)) (c : Core H p.machine.log bytes parts) (text : List ℕ) (more : List WireItem) (item : WireItem) (q : Request)
    (k : ℕ)
    → ((claim : Claim) → H claim → K claim) → IsOpenWith H p bytes parts c (item ∷ more) → complete [] (c.done ++ item ∷ []) ≡ complete [] c.done ++ q ∷ [] → AreKept p.machine.log (open_push [] (c.done ++ item ∷ []))
    → (IsOk (take k text) → (claim : Claim) → Shows q (take k text) claim → K claim)
    → (d : Core K p.machine.log bytes (parts ++ take k text ∷ [])) × IsOpenWith K p bytes (parts ++ take k text ∷ []) d more
replied now H K p bytes parts c text more item q k so (none, clean, rest) whole kept shows = (
  record {
    base = c.base;
    extra = c.extra;
    bytes_are = c.bytes_are;
    given = c.given;
    wire = c.wire;
    done = c.done ++ item ∷ [];
    rest = more;
    given_are = c.given_are ∙ ap (λ (ws : List WireItem). c.done ++ ws) rest ∙ sym (append_assoc c.done (item ∷ []) more);
    good = c.good ++ take k text ∷ [];
    bad = [];
    parts_are = ap (λ (ps : List (List ℕ)). ps ++ take k text ∷ []) (c.parts_are ∙ ap (λ (ps : List (List ℕ)). c.good ++ ps) clean ∙ append-nil c.good) ∙ sym (append-nil (c.good ++ take k text ∷ []));
    matched = subst (λ (qs : List Request). Matches K qs (c.good ++ take k text ∷ [])) (sym whole)
        (matches_push K (complete [] c.done) c.good q (take k text) (matches_map H K so (complete [] c.done) c.good c.matched) shows);
    not_ok = tt;
    kept = kept;
  },
  (none, refl, refl),
)

-- a piece that is taken in
pub taken_in : WireLaws → (H K : Claim → Type 0) (p : Point) (bytes : List ℕ) (parts : List (List ℕ)) (c : Core H p.machine.log bytes parts) (piece : List ℕ) (given more : List WireItem)
    → ((claim : Claim) → H claim → K claim)
    → IsOpenWith H p bytes parts c [] → IsWire bytes given → IsWire (bytes ++ piece) (given ++ more) → (d : Core K p.machine.log (bytes ++ piece) parts) × IsOpenWith K p (bytes ++ piece) parts d more
taken_in laws H K p bytes parts c piece given more so (none, clean, rest) one two =
    let base_is : bytes ≡ c.base = c.bytes_are ∙ ap (λ (b : List ℕ). c.base ++ b) none ∙ append-nil c.base in
    let same : given ≡ c.given = laws.one bytes c.given given (subst (λ (b : List ℕ). IsWire b c.given) (sym base_is) c.wire) one in
    let done_is : given ≡ c.done = same ∙ c.given_are ∙ ap (λ (ws : List WireItem). c.done ++ ws) rest ∙ append-nil c.done in (
      record {
        base = bytes ++ piece;
        extra = [];
        bytes_are = sym (append-nil (bytes ++ piece));
        given = given ++ more;
        wire = two;
        done = c.done;
        rest = more;
        given_are = ap (λ (ws : List WireItem). ws ++ more) done_is;
        good = c.good;
        bad = c.bad;
        parts_are = c.parts_are;
        matched = matches_map H K so (complete [] c.done) c.good c.matched;
        not_ok = c.not_ok;
        kept = c.kept;
      },
      (refl, clean, refl),
    )

pub all_by_front : (t : ℕ) (items es : List Item) → AllBy t (items ++ es) → AllBy t items
all_by_front t [] es by = tt
all_by_front t (x ∷ items) es by = (by.0, all_by_front t items es by.1)

-- behind a step the machine is the one that it left
pub fresh : (first : Machine) (ss : List Stepped) (x : Stepped) (t : ℕ) → x.ends ≤ t → machine_at first (ss ++ x ∷ []) t ≡ x.after
fresh first ss x t le = machine_push first ss x t ∙ reached_by x.after (machine_at first ss t) x.ends t le

module _ (longer : (log more : List Entry) (claim : Claim) → HeldIn log claim → HeldIn (log ++ more) claim) where
  pub kept_more : (log more : List Entry) (fs : List Fragment) → AreKept log fs → AreKept (log ++ more) fs
  kept_more log more [] kept = tt
  kept_more log more (f ∷ fs) kept = (longer log more (Acknowledged (address_of f)) kept.0, kept_more log more fs kept.1)

  pub held_more : (first : Machine) (items es : List Item) (ss xs : List Stepped) → ((t : ℕ) → Extends (machine_at first ss t) (machine_at first (ss ++ xs) t)) → (claim : Claim)
      → HeldBy first items ss claim → HeldBy first (items ++ es) (ss ++ xs) claim
  held_more first items es ss xs grow claim held t by =
      subst (λ (log : List Entry). HeldIn log claim) (sym (grow t).1) (longer (machine_at first ss t).log (grow t).0 claim (held t (all_by_front t items es by)))

  -- a fragment without a reply joins its push
  pub joins : (H K : Claim → Type 0) (p q : Point) (bytes : List ℕ) (parts : List (List ℕ)) (c : Core H p.machine.log bytes parts) (f : Fragment) (more : List WireItem) → ((claim : Claim) → H claim → K claim)
      → Extends p.machine q.machine
      → IsOpenWith H p bytes parts c (Frag f ∷ more) → HeldIn q.machine.log (Acknowledged (address_of f)) → (d : Core K q.machine.log bytes parts) × IsOpenWith K q bytes parts d more
  joins H K p q bytes parts c f more so grow (none, clean, rest) kept = (
    past H K p.machine.log q.machine.log bytes parts c (Frag f) more so rest refl
        (subst (λ (fs : List Fragment). AreKept q.machine.log fs) (sym (open_split [] c.done (Frag f ∷ [])))
        (kept_push q.machine.log (open_push [] c.done) f
        (subst (λ (log : List Entry). AreKept log (open_push [] c.done)) (sym grow.1) (kept_more p.machine.log grow.0 (open_push [] c.done) c.kept)) kept)),
    (none, clean, refl),
  )

  pub carries : (H K : Claim → Type 0) (p q : Point) (bytes : List ℕ) (parts : List (List ℕ)) (more : List WireItem) → ((claim : Claim) → H claim → K claim) → Extends p.machine q.machine
      → Open H p bytes parts more → Open K q bytes parts more
  carries H K p q bytes parts more so grow (c, open_) = (
    remade H K p.machine.log q.machine.log bytes bytes parts parts refl refl so c
        (subst (λ (log : List Entry). AreKept log (open_push [] c.done)) (sym grow.1) (kept_more p.machine.log grow.0 (open_push [] c.done) c.kept)),
    open_,
  )

-- ---- what stands of a connection, for other predicates, bytes and replies

pub anew : WireLaws → (K : Claim → Type 0) (p : Point) (bytes : List ℕ) (parts : List (List ℕ)) → bytes ≡ [] → parts ≡ [] → Open K p bytes parts []
anew laws K p bytes parts one two = (
  record {
    base = [];
    extra = [];
    bytes_are = one;
    given = [];
    wire = laws.none;
    done = [];
    rest = [];
    given_are = refl;
    good = [];
    bad = [];
    parts_are = two;
    matched = tt;
    not_ok = tt;
    kept = tt;
  },
  (refl, refl, refl),
)

pub recast : (K : Claim → Type 0) (p : Point) (bytes now : List ℕ) (parts these : List (List ℕ)) (more : List WireItem) → now ≡ bytes → these ≡ parts → Open K p bytes parts more → Open K p now these more
recast K p bytes now parts these more one two (c, open_) =
    (remade K K p.machine.log p.machine.log bytes now parts these one two (λ claim held. held) c c.kept, open_)

pub mapped : (H K : Claim → Type 0) (log : List Entry) (bytes now : List ℕ) (parts these : List (List ℕ)) → now ≡ bytes → these ≡ parts → ((claim : Claim) → H claim → K claim) → Core H log bytes parts
    → Core K log now these
mapped H K log bytes now parts these one two so c = remade H K log log bytes now parts these one two so c c.kept

-- a part that is no 200
pub with_bad : (H K : Claim → Type 0) (log : List Entry) (bytes now : List ℕ) (parts these : List (List ℕ)) (part : List ℕ) → now ≡ bytes → these ≡ parts ++ part ∷ [] → ((claim : Claim) → H claim → K claim)
    → (IsOk part → ⊥)
    → Core H log bytes parts → Core K log now these
with_bad H K log bytes now parts these part one two so not_so c = record {
  base = c.base;
  extra = c.extra;
  bytes_are = one ∙ c.bytes_are;
  given = c.given;
  wire = c.wire;
  done = c.done;
  rest = c.rest;
  given_are = c.given_are;
  good = c.good;
  bad = c.bad ++ part ∷ [];
  parts_are = two ∙ ap (λ (ps : List (List ℕ)). ps ++ part ∷ []) c.parts_are ∙ append_assoc c.good c.bad (part ∷ []);
  matched = matches_map H K so (complete [] c.done) c.good c.matched;
  not_ok = bad_push c.bad part c.not_ok not_so;
  kept = c.kept;
}

-- a piece that isn't read
pub outside : (H K : Claim → Type 0) (log : List Entry) (bytes now : List ℕ) (parts these : List (List ℕ)) (piece : List ℕ) → now ≡ bytes ++ piece → these ≡ parts → ((claim : Claim) → H claim → K claim)
    → (c : Core H log bytes parts) → (d : Core K log now these) × (c.bad ≡ [] → d.bad ≡ [])
outside H K log bytes now parts these piece one two so c = (
  record {
    base = c.base;
    extra = c.extra ++ piece;
    bytes_are = one ∙ ap (λ (b : List ℕ). b ++ piece) c.bytes_are ∙ append_assoc c.base c.extra piece;
    given = c.given;
    wire = c.wire;
    done = c.done;
    rest = c.rest;
    given_are = c.given_are;
    good = c.good;
    bad = c.bad;
    parts_are = two ∙ c.parts_are;
    matched = matches_map H K so (complete [] c.done) c.good c.matched;
    not_ok = c.not_ok;
    kept = c.kept;
  },
  λ clean. clean,
)

-- an item that ends no request and adds nothing to the open push
pub passes : (H K : Claim → Type 0) (p : Point) (bytes : List ℕ) (parts : List (List ℕ)) (item : WireItem) (more : List WireItem) → ((claim : Claim) → H claim → K claim)
    → ((fs : List Fragment) → complete fs (item ∷ []) ≡ [])
    → ((fs : List Fragment) → open_push fs (item ∷ []) ≡ fs) → Open H p bytes parts (item ∷ more) → Open K p bytes parts more
passes H K p bytes parts item more so ends adds (c, (none, clean, rest)) = (
  past H K p.machine.log p.machine.log bytes parts c item more so rest (ends (open_push [] c.done))
      (subst (λ (fs : List Fragment). AreKept p.machine.log fs) (sym (open_split [] c.done (item ∷ []) ∙ adds (open_push [] c.done))) c.kept),
  (none, clean, refl),
)

-- ---- the phase that a move leads to

module _ (first : Machine) (items : List Item) (steps : List Stepped) (q : Point) (n : ℕ) where
  pub stands_acting : (more : List WireItem) → q.phase ≡ acting n more → Open (HeldBy first items steps) q (received n items) (replies n items) more → Stood first items steps q n
  stands_acting more phase (c, (none, clean, rest)) = record {
    core = c;
    at_rest = λ away among. absurd (subst (λ (f : Phase). IsAway n f) phase away refl);
    acting_on = λ others is. let e : acting n more ≡ acting n others = sym phase ∙ is in let same : more ≡ others = cc in (none, clean, rest ∙ same);
    sends = λ text close others is. let e : acting n more ≡ sending n text close others = sym phase ∙ is in absurd (cc);
  }

  pub stands_sending : (text : List ℕ) (close : Bool) (more : List WireItem) → q.phase ≡ sending n text close more → (c : Core (HeldBy first items steps) q.machine.log (received n items) (replies n items))
      → Sends (machine_at first steps) (HeldBy first items steps) q (received n items) (replies n items) c text close more → Stood first items steps q n
  stands_sending text close more phase c sends = record {
    core = c;
    at_rest = λ away among. absurd (subst (λ (f : Phase). IsAway n f) phase away refl);
    acting_on = λ others is. let e : sending n text close more ≡ acting n others = sym phase ∙ is in absurd (cc);
    sends = λ words closing others is. let e : sending n text close more ≡ sending n words closing others = sym phase ∙ is in
        let one : text ≡ words = cc in let two : close ≡ closing = cc in let three : more ≡ others = cc in
        subst (λ (ws : List WireItem). Sends (machine_at first steps) (HeldBy first items steps) q (received n items) (replies n items) c words closing ws) three
        (subst (λ (b : Bool). Sends (machine_at first steps) (HeldBy first items steps) q (received n items) (replies n items) c words b more) two
        (subst (λ (z : List ℕ). Sends (machine_at first steps) (HeldBy first items steps) q (received n items) (replies n items) c z close more) one sends));
  }

  pub stands_shutting : q.phase ≡ shutting n → Core (HeldBy first items steps) q.machine.log (received n items) (replies n items) → Stood first items steps q n
  stands_shutting phase c = record {
    core = c;
    at_rest = λ away among. absurd (subst (λ (f : Phase). IsAway n f) phase away refl);
    acting_on = λ others is. let e : shutting n ≡ acting n others = sym phase ∙ is in absurd (cc);
    sends = λ text close others is. let e : shutting n ≡ sending n text close others = sym phase ∙ is in absurd (cc);
  }

  pub stands_idle : q.phase ≡ idle → (c : Core (HeldBy first items steps) q.machine.log (received n items) (replies n items))
      → (is_among n (live items) ≡ true → IsOpenWith (HeldBy first items steps) q (received n items) (replies n items) c []) → Stood first items steps q n
  stands_idle phase c open_ = record {
    core = c;
    at_rest = λ away among. open_ among;
    acting_on = λ others is. let e : idle ≡ acting n others = sym phase ∙ is in absurd (cc);
    sends = λ text close others is. let e : idle ≡ sending n text close others = sym phase ∙ is in absurd (cc);
  }

-- ---- moves that leave no entry and make no step, and those of other connections

pub continues_stood : (first : Machine) (items : List Item) (steps : List Stepped) (p : Point) (n k : ℕ) (more : List WireItem) → Stood first items steps p n → p.phase ≡ acting k (Continue ∷ more)
    → Stood first items steps (in_phase p (sending k CONTINUE.now false more)) n
continues_stood first items steps p n k more s phase = record {
  core = s.core;
  at_rest = λ away open_. s.at_rest (subst (λ (f : Phase). IsAway n f) (sym phase) away) open_;
  acting_on = λ rest is. absurd (cc);
  sends = λ text close rest is. head (s.acting_on (Continue ∷ rest) (let one : k ≡ n = cc in let two : more ≡ rest = cc in cc)) (let one : CONTINUE.now ≡ text = cc in sym one) (let one : false ≡ close = cc in sym one);
}

pub wants_stood : TextsHold → (first : Machine) (items : List Item) (steps : List Stepped) (p : Point) (n k : ℕ) (more : List WireItem) → Stood first items steps p n → p.phase ≡ acting k more
    → Stood first items steps (in_phase p (sending k NO_MEMORY.now true [])) n
wants_stood texts first items steps p n k more s phase = record {
  core = s.core;
  at_rest = λ away open_. s.at_rest (subst (λ (f : Phase). IsAway n f) (sym phase) away) open_;
  acting_on = λ rest is. absurd (cc);
  sends = λ text close rest is. refused (let one : true ≡ close = cc in sym one) (s.acting_on more (let one : k ≡ n = cc in cc)).1
      (λ j ok. let one : NO_MEMORY.now ≡ text = cc in let no_ok = texts.no_memory j in let yes : shows_status 200 (take j NO_MEMORY.now) ≡ true = ap (λ (z : List ℕ). shows_status 200 (take j z)) one ∙ ok in absurd (cc));
}

-- a move of another connection, or of none
module _ (longer : (log more : List Entry) (claim : Claim) → HeldIn log claim → HeldIn (log ++ more) claim) where
  pub elsewhere_stood : (first : Machine) (items es : List Item) (ss xs : List Stepped) (p q : Point) (n : ℕ) → Stood first items ss p n
      → ((t : ℕ) → Extends (machine_at first ss t) (machine_at first (ss ++ xs) t)) → Extends p.machine q.machine → received n (items ++ es) ≡ received n items → replies n (items ++ es) ≡ replies n items
      → (is_among n (live (items ++ es)) ≡ true → is_among n (live items) ≡ true) → IsAway n p.phase → IsAway n q.phase → Stood first (items ++ es) (ss ++ xs) q n
  elsewhere_stood first items es ss xs p q n s grow on same_bytes same_parts same_live was_away is_away =
      let c = s.core in
      record {
        core = remade (HeldBy first items ss) (HeldBy first (items ++ es) (ss ++ xs)) p.machine.log q.machine.log (received n items) (received n (items ++ es))
            (replies n items) (replies n (items ++ es)) same_bytes same_parts (λ claim held. held_more longer first items es ss xs grow claim held) c
            (subst (λ (log : List Entry). AreKept log (open_push [] c.done)) (sym on.1) (kept_more longer p.machine.log on.0 (open_push [] c.done) c.kept));
        at_rest = λ away open_. s.at_rest was_away (same_live open_);
        acting_on = λ more is. absurd (subst (λ (f : Phase). IsAway n f) is is_away refl);
        sends = λ text close more is. absurd (subst (λ (f : Phase). IsAway n f) is is_away refl);
      }
