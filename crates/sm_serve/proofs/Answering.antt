-- What stands, along a run, of the requests of a connection and the replies to them.
use Rattle.std.proofs.Common.{◌≡◌, ◌⊎◌, ℕ, ◌≤◌, Bool, true, false, List, [], ◌∷◌, ◌++◌, take, Some, None}
use Rattle.sm_model.specs.declared.entry.Entry.{Entry}
use Rattle.sm_model.specs.declared.fragment.Fragment.{Fragment}
use Rattle.sm_model.specs.Entries.{address_of}
use Rattle.sm_model.specs.declared.act.Act.{Act}
use Rattle.sm_model.specs.declared.act.Act.TheVariants as acts
use Rattle.sm_model.specs.declared.cause.Refusal.{Refusal}
use Rattle.sm_model.specs.declared.target.Target.{Target}
use Rattle.sm_site.specs.Meanings.{Item}
use Rattle.sm_site.specs.Clauses.{Rose}
use Rattle.sm_head.specs.declared.reply.TheConstants.{CONTINUE, NO_MEMORY}
use Rattle.sm_head.specs.Shown.{shows_status}
use Rattle.sm_wire.specs.declared.item.WireItem.{WireItem}
use Rattle.sm_wire.specs.declared.item.WireItem.TheVariants.{Continue, Get, Header, Frag, End, Refuse}
use Rattle.sm_wire.specs.Wire.{IsWire}
use Rattle.sm_origin.specs.Machine.{Machine, Step, entry_of}
use Rattle.sm_origin.specs.Shown.{IsReal, Claim, Acknowledged, Request, Asked, Pushed, Shows, Holds}
use Rattle.sm_reply.specs.declared.reply.Reply.{Reply}
use Rattle.sm_serve.specs.Connections.{received, live, is_among}
use Rattle.sm_serve.specs.Run.{Phase, idle, acting, sending, shutting, Point, Stepped, act_of_target, sent_of}
use Rattle.sm_serve.specs.Moments.{machine_at}
use Rattle.sm_serve.specs.Shown.{replies}
use Rattle.sm_serve.specs.declared.texts.TheConstants.{TOO_MANY}

-- ---- what is shown and held

abbrev pub IsOk : List ℕ → Type 0
IsOk part = shows_status 200 part ≡ true

-- held, if the log is one of real entries
abbrev pub HeldIn : List Entry → Claim → Type 0
HeldIn log claim = IsReal log → Holds log claim

-- ---- requests and replies

-- the requests that are whole, and the fragments of the push that is open behind them
abbrev pub complete : List Fragment → List WireItem → List Request
complete fs [] = []
complete fs (Continue ∷ items) = complete fs items
complete fs (Get target close ∷ items) = Asked target ∷ complete [] items
complete fs (Header channel ∷ items) = complete fs items
complete fs (Frag f ∷ items) = complete (fs ++ f ∷ []) items
complete fs (End close ∷ items) = Pushed fs ∷ complete [] items
complete fs (Refuse r ∷ items) = Pushed fs ∷ complete [] items

abbrev pub open_push : List Fragment → List WireItem → List Fragment
open_push fs [] = fs
open_push fs (Continue ∷ items) = open_push fs items
open_push fs (Get target close ∷ items) = open_push [] items
open_push fs (Header channel ∷ items) = open_push fs items
open_push fs (Frag f ∷ items) = open_push (fs ++ f ∷ []) items
open_push fs (End close ∷ items) = open_push [] items
open_push fs (Refuse r ∷ items) = open_push [] items

-- the part stands where the request stands
abbrev pub Answers : List Request → List (List ℕ) → Request → List ℕ → Type 0
Answers [] parts request part = ⊥
Answers (q ∷ requests) [] request part = ⊥
Answers (q ∷ requests) (p ∷ parts) request part = ((q ≡ request) × (p ≡ part)) ⊎ Answers requests parts request part

-- as many parts as requests, and what each shows is so
abbrev pub Matches : (Claim → Type 0) → List Request → List (List ℕ) → Type 0
Matches H [] [] = Unit {0}
Matches H [] (p ∷ parts) = ⊥
Matches H (q ∷ requests) [] = ⊥
Matches H (q ∷ requests) (p ∷ parts) = (IsOk p → (claim : Claim) → Shows q p claim → H claim) × Matches H requests parts

abbrev pub AreNotOk : List (List ℕ) → Type 0
AreNotOk [] = Unit {0}
AreNotOk (p ∷ parts) = (IsOk p → ⊥) × AreNotOk parts

-- ---- what is held

abbrev pub AllBy : ℕ → List Item → Type 0
AllBy t [] = Unit {0}
AllBy t (item ∷ items) = (item.moment ≤ t) × AllBy t items

-- held by the log of the last step that ended by each moment that is not before the entries
abbrev pub HeldBy : Machine → List Item → List Stepped → Claim → Type 0
HeldBy first items steps claim = (t : ℕ) → AllBy t items → HeldIn (machine_at first steps t).log claim

abbrev pub AreKept : List Entry → List Fragment → Type 0
AreKept log [] = Unit {0}
AreKept log (f ∷ fs) = HeldIn log (Acknowledged (address_of f)) × AreKept log fs

-- ---- one connection

-- Of its bytes the front gave these items, of which the first were answered: one reply for each request, which shows only what is so.
-- Behind these stand replies that show nothing, and bytes that weren't read.
pub record Core (H : Claim → Type 0) (log : List Entry) (bytes : List ℕ) (parts : List (List ℕ)) : Type 0 where
  pub base : List ℕ
  pub extra : List ℕ
  pub bytes_are : bytes ≡ base ++ extra
  pub given : List WireItem
  pub wire : IsWire base given
  pub done : List WireItem
  pub rest : List WireItem
  pub given_are : given ≡ done ++ rest
  pub good : List (List ℕ)
  pub bad : List (List ℕ)
  pub parts_are : parts ≡ good ++ bad
  pub matched : Matches H (complete [] done) good
  pub not_ok : AreNotOk bad
  pub kept : AreKept log (open_push [] done)

-- the phase isn't that of the connection
abbrev pub IsAway : ℕ → Phase → Type 0
IsAway n idle = Unit {0}
IsAway n (acting k more) = k ≡ n → ⊥
IsAway n (sending k bytes close more) = k ≡ n → ⊥
IsAway n (shutting k) = k ≡ n → ⊥

-- all is answered but these items
module _ (H : Claim → Type 0) (p : Point) (bytes : List ℕ) (parts : List (List ℕ)) where
  abbrev pub IsOpenWith : Core H p.machine.log bytes parts → List WireItem → Type 0
  IsOpenWith c more = (c.extra ≡ []) × (c.bad ≡ []) × (c.rest ≡ more)

abbrev pub Open : (Claim → Type 0) → Point → List ℕ → List (List ℕ) → List WireItem → Type 0
Open H p bytes parts more = (c : Core H p.machine.log bytes parts) × IsOpenWith H p bytes parts c more

-- what the bytes are that are to be sent on it
pub data Sends (now : (t : ℕ) → Machine) (H : Claim → Type 0) (p : Point) (bytes : List ℕ) (parts : List (List ℕ)) (c : Core H p.machine.log bytes parts) (text : List ℕ) (close : Bool) (more : List WireItem) : Type 0 where
  head : IsOpenWith H p bytes parts c (Continue ∷ more) → text ≡ CONTINUE.now → close ≡ false → Sends now H p bytes parts c text close more
  reply : (item : WireItem) (q : Request) → IsOpenWith H p bytes parts c (item ∷ more) → complete [] (c.done ++ item ∷ []) ≡ complete [] c.done ++ q ∷ [] → AreKept p.machine.log (open_push [] (c.done ++ item ∷ []))
      → ((k : ℕ) → shows_status 100 (take k text) ≡ false) → ((k : ℕ) → IsOk (take k text) → (claim : Claim) → Shows q (take k text) claim → HeldIn p.machine.log claim)
      → ((t : ℕ) → p.ended ≤ t → now t ≡ p.machine) → Sends now H p bytes parts c text close more
  refused : close ≡ true → c.bad ≡ [] → ((k : ℕ) → IsOk (take k text) → ⊥) → Sends now H p bytes parts c text close more

-- what stands of it, in each phase
pub record Stood (first : Machine) (items : List Item) (steps : List Stepped) (p : Point) (n : ℕ) : Type 0 where
  pub core : Core (HeldBy first items steps) p.machine.log (received n items) (replies n items)
  pub at_rest : IsAway n p.phase → is_among n (live items) ≡ true → IsOpenWith (HeldBy first items steps) p (received n items) (replies n items) core []
  pub acting_on : (more : List WireItem) → p.phase ≡ acting n more → IsOpenWith (HeldBy first items steps) p (received n items) (replies n items) core more
  pub sends : (text : List ℕ) (close : Bool) (more : List WireItem) → p.phase ≡ sending n text close more
      → Sends (machine_at first steps) (HeldBy first items steps) p (received n items) (replies n items) core text close more

-- ---- what other laws say

pub record WireLaws : Type 0 where
  pub none : IsWire [] []
  pub front : (bytes more : List ℕ) (given all : List WireItem) → IsWire bytes given → IsWire (bytes ++ more) all → (rest : List WireItem) × (all ≡ given ++ rest)
  pub one : (bytes : List ℕ) (given other : List WireItem) → IsWire bytes given → IsWire bytes other → other ≡ given

-- of the replies of each step
pub record TextsHold : Type 0 where
  -- no final reply is taken for what lets a client go on
  pub final : (a b : ℕ) (m n : Machine) (act : Act) (r : Reply) (bytes : List ℕ) (k : ℕ) → Step (Rose a b) m act n r → sent_of r ≡ Some bytes → shows_status 100 (take k bytes) ≡ false
  -- only an act that writes may have no reply; where it has one, that closes and doesn't say that all is well
  pub replies : (a b : ℕ) (m n : Machine) (act : Act) (r : Reply) → Step (Rose a b) m act n r → entry_of act ≡ None → sent_of r ≡ None → r.close ≡ true
  pub closes : (a b : ℕ) (m n : Machine) (act : Act) (r : Reply) (bytes : List ℕ) (e : Entry) → Step (Rose a b) m act n r → entry_of act ≡ Some e → sent_of r ≡ Some bytes → r.close ≡ true
  pub refuses : (a b : ℕ) (m n : Machine) (act : Act) (r : Reply) (bytes : List ℕ) (k : ℕ) (e : Entry) → Step (Rose a b) m act n r → entry_of act ≡ Some e → sent_of r ≡ Some bytes → IsOk (take k bytes) → ⊥
  pub refusal : (a b : ℕ) (m n : Machine) (cause : Refusal) (r : Reply) (bytes : List ℕ) (k : ℕ) → Step (Rose a b) m (acts.Refuse cause) n r → sent_of r ≡ Some bytes → IsOk (take k bytes) → ⊥
  -- a fragment without a reply is kept
  pub silent : (a b : ℕ) (m n : Machine) (f : Fragment) (r : Reply) → Step (Rose a b) m (acts.Frag f) n r → sent_of r ≡ None → HeldIn n.log (Acknowledged (address_of f))
  -- what is shown to a request that only reads is held
  pub asked : (a b : ℕ) (m n : Machine) (target : Target) (r : Reply) (bytes : List ℕ) (k : ℕ) (claim : Claim) → Step (Rose a b) m (act_of_target target) n r → sent_of r ≡ Some bytes → IsOk (take k bytes)
      → Shows (Asked target) (take k bytes) claim → HeldIn n.log claim
  -- the texts that stand ready
  pub no_memory : (k : ℕ) → shows_status 200 (take k NO_MEMORY.now) ≡ false
  pub too_many : (k : ℕ) → shows_status 200 (take k TOO_MANY.now) ≡ false
  pub continue_ok : (k : ℕ) → shows_status 200 (take k CONTINUE.now) ≡ false
  pub continue_100 : shows_status 100 CONTINUE.now ≡ true
