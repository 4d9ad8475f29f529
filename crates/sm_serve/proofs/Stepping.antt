-- Each connection stands behind the steps of its own items.
use Rattle.std.proofs.Common.{◌≡◌, ◌⊎◌, inl, inr, ℕ, Bool, true, false, ◌||◌, List, [], ◌∷◌, ◌++◌, take, Option, Some, None, refl, sym, ◌∙◌, ap, subst}
use Rattle.std.proofs.lemmas.List.{append-nil}
use Rattle.std.proofs.lemmas.Bool.{cases_Bool}
use Rattle.sm_model.specs.declared.act.Act.{Act}
use Rattle.sm_model.specs.declared.act.Act.TheVariants as acts
use Rattle.sm_model.specs.declared.entry.Entry.{Entry}
use Rattle.sm_model.specs.declared.fragment.Fragment.{Fragment}
use Rattle.sm_model.specs.declared.target.Target.{Target}
use Rattle.sm_model.specs.declared.target.Target.TheVariants as targets
use Rattle.sm_site.specs.Meanings.{Item}
use Rattle.sm_site.specs.Clauses.{Rose}
use Rattle.sm_head.specs.Shown.{shows_status}
use Rattle.sm_wire.specs.declared.item.WireItem.{WireItem}
use Rattle.sm_wire.specs.declared.item.WireItem.TheVariants.{Continue, Get, Header, Frag, End, Refuse}
use Rattle.sm_origin.specs.Machine.{Machine, Step, entry_of}
use Rattle.sm_origin.specs.Shown.{Claim, Request, Asked, Pushed, Shows}
use Rattle.sm_serve.specs.Connections.{received}
use Rattle.sm_serve.specs.Run.{acting, sending, shutting, phase_after, behind_step, act_of, act_of_target, closes, sent_of, Point, Stepped, IsStep}
use Rattle.sm_serve.specs.Moments.{machine_at}
use Rattle.sm_serve.specs.Shown.{replies}
use Rattle.sm_serve.proofs.Answering.{IsOk, HeldIn, TextsHold, complete, open_push, HeldBy, AreKept, IsAway, Open, reply, refused, Stood}
use Rattle.sm_serve.proofs.Adding.{Extends}
use Rattle.sm_serve.proofs.Requests.{complete_split, open_split, end_shows}
use Rattle.sm_serve.proofs.Onward.{fresh, held_more, joins, passes, carries, stands_acting, stands_sending, stands_shutting}

-- the phase of another connection stays away
pub away_after : (n k : ℕ) (o : Option (List ℕ)) (close : Bool) (more : List WireItem) → (k ≡ n → ⊥) → IsAway n (phase_after k o close more)
away_after n k None true more other = other
away_after n k None false more other = other
away_after n k (Some bytes) close more other = other

reads_only : (target : Target) → entry_of (act_of_target target) ≡ None
reads_only targets.Manifest = refl
reads_only (targets.Fragment a) = refl
reads_only (targets.Streams name) = refl
reads_only targets.Unknown = refl

or_true : (b : Bool) → (b || true) ≡ true
or_true true = refl
or_true false = refl

pub option_cases : {A : Type 0} (o : Option A) → (o ≡ None) ⊎ ((x : A) × (o ≡ Some x))
option_cases None = inl refl
option_cases (Some x) = inr (x, refl)

module _ (longer : (log more : List Entry) (claim : Claim) → HeldIn log claim → HeldIn (log ++ more) claim) (texts : TextsHold) (first : Machine) (items : List Item) (ss : List Stepped) (p : Point) (n : ℕ)
    (s : Stood first items ss p n) (k : ℕ) (same : k ≡ n) (act : Act) (x : Stepped) (step : IsStep true p act x) (grow : (t : ℕ) → Extends (machine_at first ss t) (machine_at first (ss ++ x ∷ []) t))
    (on : Extends p.machine x.after) where
  abbrev Now : List Stepped
  Now = ss ++ x ∷ []

  abbrev K : Claim → Type 0
  K = HeldBy first items Now

  so : (claim : Claim) → HeldBy first items ss claim → HeldBy first items Now claim
  so claim held = subst (λ (now : List Item). HeldBy first now Now claim) (append-nil items) (held_more longer first items [] ss (x ∷ []) grow claim held)

  -- what was left to be answered, behind the step
  here : (item : WireItem) (more : List WireItem) → p.phase ≡ acting k (item ∷ more) → Open (HeldBy first items Now) (behind_step p k item more x) (received n items) (replies n items) (item ∷ more)
  here item more phase =
      carries longer (HeldBy first items ss) (HeldBy first items Now) p (behind_step p k item more x) (received n items) (replies n items) (item ∷ more) so on
      (s.core, s.acting_on (item ∷ more) (phase ∙ ap (λ (j : ℕ). acting j (item ∷ more)) same))

  done_by : (a : Act) → act ≡ a → Step (Rose x.faults x.faults_after) x.before a x.after x.reply
  done_by a is = subst (λ (b : Act). Step (Rose x.faults x.faults_after) x.before b x.after x.reply) (step.act_is ∙ is) (step.machine refl).step

  shuts : (item : WireItem) (more : List WireItem) → p.phase ≡ acting k (item ∷ more) → sent_of x.reply ≡ None → x.reply.close ≡ true → Stood first items Now (behind_step p k item more x) n
  shuts item more phase none close =
      stands_shutting first items Now (behind_step p k item more x) n
      (ap (λ (o : Option (List ℕ)). phase_after k o (x.reply.close || closes item) more) none ∙ ap (λ (b : Bool). phase_after k None (b || closes item) more) close ∙ ap (λ (j : ℕ). shutting j) same)
      (here item more phase).0

  sends_on : (item : WireItem) (more : List WireItem) (bytes : List ℕ) → sent_of x.reply ≡ Some bytes → (behind_step p k item more x).phase ≡ sending n bytes (x.reply.close || closes item) more
  sends_on item more bytes some = ap (λ (o : Option (List ℕ)). phase_after k o (x.reply.close || closes item) more) some ∙ ap (λ (j : ℕ). sending j bytes (x.reply.close || closes item) more) same

  -- a reply that closes and is no 200
  refuses : (item : WireItem) (more : List WireItem) (bytes : List ℕ) → p.phase ≡ acting k (item ∷ more) → sent_of x.reply ≡ Some bytes → (x.reply.close || closes item) ≡ true → ((j : ℕ) → IsOk (take j bytes) → ⊥)
      → Stood first items Now (behind_step p k item more x) n
  refuses item more bytes phase some close none =
      let c = here item more phase in
      stands_sending first items Now (behind_step p k item more x) n bytes (x.reply.close || closes item) more (sends_on item more bytes some) c.0 (refused close c.1.1 none)

  -- a reply to a request
  replies_to : (item : WireItem) (more : List WireItem) (bytes : List ℕ) (q : Request) (c : Open (HeldBy first items Now) (behind_step p k item more x) (received n items) (replies n items) (item ∷ more))
      → sent_of x.reply ≡ Some bytes → complete (open_push [] c.0.done) (item ∷ []) ≡ q ∷ [] → open_push (open_push [] c.0.done) (item ∷ []) ≡ [] → ((j : ℕ) → shows_status 100 (take j bytes) ≡ false)
      → ((j : ℕ) → IsOk (take j bytes) → (claim : Claim) → Shows q (take j bytes) claim → HeldIn x.after.log claim) → Stood first items Now (behind_step p k item more x) n
  replies_to item more bytes q c some whole none final shows =
      stands_sending first items Now (behind_step p k item more x) n bytes (x.reply.close || closes item) more (sends_on item more bytes some) c.0
      (reply item q c.1 (complete_split [] c.0.done (item ∷ []) ∙ ap (λ (qs : List Request). complete [] c.0.done ++ qs) whole)
      (subst (λ (fs : List Fragment). AreKept x.after.log fs) (sym (open_split [] c.0.done (item ∷ []) ∙ none)) tt) final shows (λ t le. fresh first ss x t le))

  goes_on_with : (item : WireItem) (more : List WireItem) → (x.reply.close || closes item) ≡ false → sent_of x.reply ≡ None → Open (HeldBy first items Now) (behind_step p k item more x) (received n items) (replies n items) more
      → Stood first items Now (behind_step p k item more x) n
  goes_on_with item more stays none c =
      stands_acting first items Now (behind_step p k item more x) n more
      (ap (λ (o : Option (List ℕ)). phase_after k o (x.reply.close || closes item) more) none ∙ ap (λ (b : Bool). phase_after k None b more) stays ∙ ap (λ (j : ℕ). acting j more) same) c

  -- a header or a fragment with a reply
  refused_entry : (item : WireItem) (more : List WireItem) (a : Act) (e : Entry) (bytes : List ℕ) → act ≡ a → entry_of a ≡ Some e → p.phase ≡ acting k (item ∷ more) → sent_of x.reply ≡ Some bytes
      → Stood first items Now (behind_step p k item more x) n
  refused_entry item more a e bytes is entry phase some =
      let closed = texts.closes x.faults x.faults_after x.before x.after a x.reply bytes e (done_by a is) entry some in
      refuses item more bytes phase some (ap (λ (b : Bool). b || closes item) closed) (λ j ok. texts.refuses x.faults x.faults_after x.before x.after a x.reply bytes j e (done_by a is) entry some ok)

  pub acted : (item : WireItem) (more : List WireItem) → p.phase ≡ acting k (item ∷ more) → act_of (p.counts k) item ≡ Some act → Stood first items Now (behind_step p k item more x) n
  acted Continue more phase does = absurd (cc)
  acted (Get target close) more phase does =
      let is : act ≡ act_of_target target = let e : act_of_target target ≡ act = cc in sym e in
      let done = done_by (act_of_target target) is in
      elim (option_cases (sent_of x.reply)) [
        | inl none ↦ shuts (Get target close) more phase none (texts.replies x.faults x.faults_after x.before x.after (act_of_target target) x.reply done (reads_only target) none)
        | inr (bytes, some) ↦ replies_to (Get target close) more bytes (Asked target) (here (Get target close) more phase) some refl refl
            (λ j. texts.final x.faults x.faults_after x.before x.after (act_of_target target) x.reply bytes j done some)
            (λ j ok claim shown. texts.asked x.faults x.faults_after x.before x.after target x.reply bytes j claim done some ok shown)
      ]
  acted (Header channel) more phase does =
      let is : act ≡ acts.Header channel = let e : acts.Header channel ≡ act = cc in sym e in
      elim (option_cases (sent_of x.reply)) [
        | inl none ↦ elim (cases_Bool x.reply.close) [
          | inl close ↦ shuts (Header channel) more phase none close
          | inr stays ↦ goes_on_with (Header channel) more (ap (λ (b : Bool). b || false) stays) none
              (passes K K (behind_step p k (Header channel) more x) (received n items) (replies n items) (Header channel) more (λ claim held. held) (λ fs. refl) (λ fs. refl) (here (Header channel) more phase))
        ]
        | inr (bytes, some) ↦ refused_entry (Header channel) more (acts.Header channel) _ bytes is refl phase some
      ]
  acted (Frag f) more phase does =
      let is : act ≡ acts.Frag f = let e : acts.Frag f ≡ act = cc in sym e in
      elim (option_cases (sent_of x.reply)) [
        | inl none ↦ elim (cases_Bool x.reply.close) [
          | inl close ↦ shuts (Frag f) more phase none close
          | inr stays ↦ goes_on_with (Frag f) more (ap (λ (b : Bool). b || false) stays) none
              (joins longer (HeldBy first items ss) K p (behind_step p k (Frag f) more x) (received n items) (replies n items) s.core f more so on
              (s.acting_on (Frag f ∷ more) (phase ∙ ap (λ (j : ℕ). acting j (Frag f ∷ more)) same)) (texts.silent x.faults x.faults_after x.before x.after f x.reply (done_by (acts.Frag f) is) none))
        ]
        | inr (bytes, some) ↦ refused_entry (Frag f) more (acts.Frag f) _ bytes is refl phase some
      ]
  acted (End close) more phase does =
      let counts = p.counts k in
      let a = acts.End counts.kept counts.known in
      let is : act ≡ a = let e : a ≡ act = cc in sym e in
      let c = here (End close) more phase in
      elim (option_cases (sent_of x.reply)) [
        | inl none ↦ shuts (End close) more phase none (texts.replies x.faults x.faults_after x.before x.after a x.reply (done_by a is) refl none)
        | inr (bytes, some) ↦ replies_to (End close) more bytes (Pushed (open_push [] c.0.done)) c some refl refl (λ j. texts.final x.faults x.faults_after x.before x.after a x.reply bytes j (done_by a is) some)
            (λ j ok claim shown. end_shows x.after.log (open_push [] c.0.done) (take j bytes) claim c.0.kept shown)
      ]
  acted (Refuse r) more phase does =
      let is : act ≡ acts.Refuse r = let e : acts.Refuse r ≡ act = cc in sym e in
      elim (option_cases (sent_of x.reply)) [
        | inl none ↦ shuts (Refuse r) more phase none (texts.replies x.faults x.faults_after x.before x.after (acts.Refuse r) x.reply (done_by (acts.Refuse r) is) refl none)
        | inr (bytes, some) ↦ refuses (Refuse r) more bytes phase some (or_true x.reply.close) (λ j ok. texts.refusal x.faults x.faults_after x.before x.after r x.reply bytes j (done_by (acts.Refuse r) is) some ok)
      ]
