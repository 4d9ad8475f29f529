-- What the laws of the origin and of heads say of the replies of each step.
use Rattle.std.proofs.Common.{◌≡◌, ◌≢◌, inl, inr, ℕ, ◌==◌, ◌≤◌, ◌<◌, Bool, true, false, if◌then◌else◌, List, [], ◌∷◌, ◌++◌, take, drop, Some, None, IsSome, refl, sym, ◌∙◌, ap, subst, arith, take-append-drop}
use Rattle.std.specs.Prelude.{codes}
use Rattle.std.proofs.lemmas.Bool.{eq-eqb, ne_eqb, cases_eq}
use Rattle.sm_model.specs.declared.act.Act.{Act}
use Rattle.sm_model.specs.declared.act.Act.TheVariants as acts
use Rattle.sm_model.specs.declared.address.Address.{Address}
use Rattle.sm_model.specs.declared.cause.Refusal.{Refusal}
use Rattle.sm_model.specs.declared.entry.Entry.{Entry}
use Rattle.sm_model.specs.declared.fragment.Fragment.{Fragment}
use Rattle.sm_model.specs.declared.target.Target.{Target}
use Rattle.sm_model.specs.declared.target.Target.TheVariants as targets
use Rattle.sm_model.specs.Entries.{address_of}
use Rattle.sm_log.specs.Logs.{kept_at}
use Rattle.sm_site.specs.Clauses.{Rose}
use Rattle.sm_head.specs.declared.reply.Content.{Content}
use Rattle.sm_head.specs.declared.reply.Content.TheVariants.{Plain}
use Rattle.sm_head.specs.declared.reply.TheConstants.{CONTINUE, NO_MEMORY}
use Rattle.sm_head.specs.Replies.{reply_text}
use Rattle.sm_head.specs.Shown.{shows_status}
use Rattle.sm_reply.specs.declared.reply.Reply.{Reply}
use Rattle.sm_origin.specs.Machine.{Machine, Step, entry_of}
use Rattle.sm_origin.specs.Shown.{IsReal, Claim, lists, names, serves, acknowledges, Holds, Asked, Shows}
use Rattle.sm_serve.specs.declared.texts.TheConstants.{TOO_MANY}
use Rattle.sm_serve.specs.Run.{act_of_target, sent_of}
use Rattle.sm_serve.proofs.Answering.{IsOk, HeldIn, TextsHold}
use Rattle.sm_serve.proofs.Adding.{step_adds}

abbrev IsCode : ℕ → Type 0
IsCode n = (100 ≤ n) × (n < 1000)

-- ---- what is sent of a reply

data Way (r : Reply) : Type 0 where
  nothing : r.status ≡ 0 → sent_of r ≡ None → Way r
  ready : r.status ≡ 500 → sent_of r ≡ Some NO_MEMORY.now → Way r
  own : r.status ≢ 0 → r.status ≢ 500 → sent_of r ≡ Some r.bytes → Way r

way_of : (r : Reply) → Way r
way_of r =
    elim (cases_eq r.status 0) [
      | inl is ↦ nothing is (ap (λ (b : Bool). if b then None else if r.status == 500 then Some NO_MEMORY.now else Some r.bytes) (eq-eqb r.status 0 is))
      | inr some ↦ elim (cases_eq r.status 500) [
        | inl is ↦ ready is
            (ap (λ (b : Bool). if b then None else if r.status == 500 then Some NO_MEMORY.now else Some r.bytes) (ne_eqb r.status 0 some) ∙ ap (λ (b : Bool). if b then Some NO_MEMORY.now else Some r.bytes) (eq-eqb r.status 500 is))
        | inr other ↦ own some other
            (ap (λ (b : Bool). if b then None else if r.status == 500 then Some NO_MEMORY.now else Some r.bytes) (ne_eqb r.status 0 some) ∙ ap (λ (b : Bool). if b then Some NO_MEMORY.now else Some r.bytes) (ne_eqb r.status 500 other))
      ]
    ]

not_true : (b : Bool) → (b ≡ true → ⊥) → b ≡ false
not_true true none = absurd (none refl)
not_true false none = refl

goes_on_code : IsCode 100
goes_on_code = (omega arith, omega arith)

well_code : IsCode 200
well_code = (omega arith, omega arith)

too_many_code : IsCode 503
too_many_code = (omega arith, omega arith)

-- ---- what the parts of it say

module _ (ready_goes_on : (other : ℕ) (part more : List ℕ) → IsCode other → part ++ more ≡ CONTINUE.now → shows_status other part ≡ true → other ≡ 100)
    (ready_no_memory : (other : ℕ) (part more : List ℕ) → IsCode other → part ++ more ≡ NO_MEMORY.now → shows_status other part ≡ true → other ≡ 500)
    (ready_whole : shows_status 100 CONTINUE.now ≡ true)
    (too_many_is : TOO_MANY.now ≡ reply_text 503 Plain (codes "49 TooManyConnections" ++ 10 ∷ []) true)
    (part_own : (status other : ℕ) (kind : Content) (body : List ℕ) (close : Bool) (part more : List ℕ) → IsCode status → IsCode other → part ++ more ≡ reply_text status kind body close
    → shows_status other part ≡ true → other ≡ status)
    (replied : (a b : ℕ) (m n : Machine) (act : Act) (r : Reply) → Step (Rose a b) m act n r → entry_of act ≡ None → r.status ≢ 0)
    (refused : (a b : ℕ) (m n : Machine) (act : Act) (r : Reply) (e : Entry) → Step (Rose a b) m act n r → entry_of act ≡ Some e → r.status ≢ 0 → (r.status ≢ 200) × (r.close ≡ true))
    (refusal : (a b : ℕ) (m n : Machine) (cause : Refusal) (r : Reply) → Step (Rose a b) m (acts.Refuse cause) n r → r.status ≢ 200)
    (final : (a b : ℕ) (m n : Machine) (act : Act) (r : Reply) → Step (Rose a b) m act n r → r.status ≢ 100)
    (says : (a b : ℕ) (m n : Machine) (act : Act) (r : Reply) → Step (Rose a b) m act n r → r.status ≢ 0 → r.status ≢ 500 → (part more : List ℕ) → part ++ more ≡ r.bytes
    → (other : ℕ) → IsCode other → shows_status other part ≡ true → other ≡ r.status)
    (kept : (a b : ℕ) (m n : Machine) (f : Fragment) (r : Reply) → Step (Rose a b) m (acts.Frag f) n r → r.status ≡ 0 → IsSome (kept_at n.log (address_of f)))
    (manifest : (a b : ℕ) (m n : Machine) (r : Reply) → IsReal m.log → Step (Rose a b) m acts.Manifest n r → r.status ≢ 500 → (part more : List ℕ) → part ++ more ≡ r.bytes
    → shows_status 200 part ≡ true → (claim : Claim) → Shows (Asked targets.Manifest) part claim → Holds m.log claim)
    (fragment : (a b : ℕ) (m n : Machine) (address : Address) (r : Reply) → IsReal m.log → Step (Rose a b) m (acts.Fragment address) n r → r.status ≢ 500 → (part more : List ℕ) → part ++ more ≡ r.bytes
    → shows_status 200 part ≡ true → (claim : Claim) → Shows (Asked (targets.Fragment address)) part claim → Holds m.log claim)
    (stays : (log more : List Entry) (claim : Claim) → Holds log claim → Holds (log ++ more) claim)
    (front : (log more : List Entry) → IsReal (log ++ more) → IsReal log) where
  none_ready : (other k : ℕ) → IsCode other → other ≢ 500 → shows_status other (take k NO_MEMORY.now) ≡ true → ⊥
  none_ready other k code differs says = differs (ready_no_memory other (take k NO_MEMORY.now) (drop k NO_MEMORY.now) code (take-append-drop k NO_MEMORY.now) says)

  -- no part of what is sent says another status
  says_none : (a b : ℕ) (m n : Machine) (act : Act) (r : Reply) (bytes : List ℕ) (k other : ℕ) → Step (Rose a b) m act n r → sent_of r ≡ Some bytes → IsCode other → other ≢ 500 → r.status ≢ other
      → shows_status other (take k bytes) ≡ true → ⊥
  says_none a b m n act r bytes k other step some code differs not_its shown = go (way_of r)
    where
      go : Way r → ⊥
      go (nothing is none) = absurd (cc)
      go (ready is sent) =
          let same : bytes ≡ NO_MEMORY.now = (let e : Some bytes ≡ Some NO_MEMORY.now = sym some ∙ sent in cc) in
          none_ready other k code differs (ap (λ (z : List ℕ). shows_status other (take k z)) (sym same) ∙ shown)
      go (own one two sent) =
          let same : bytes ≡ r.bytes = (let e : Some bytes ≡ Some r.bytes = sym some ∙ sent in cc) in
          not_its (sym (says a b m n act r step one two (take k r.bytes) (drop k r.bytes) (take-append-drop k r.bytes) other code (ap (λ (z : List ℕ). shows_status other (take k z)) (sym same) ∙ shown)))

  some_status : (r : Reply) (bytes : List ℕ) → sent_of r ≡ Some bytes → r.status ≢ 0
  some_status r bytes some is =
      let none : sent_of r ≡ None = ap (λ (b : Bool). if b then None else if r.status == 500 then Some NO_MEMORY.now else Some r.bytes) (eq-eqb r.status 0 is) in
      let e : None ≡ Some bytes = sym none ∙ some in absurd (cc)

  no_status : (r : Reply) → sent_of r ≡ None → r.status ≡ 0
  no_status r none = go (way_of r)
    where
      go : Way r → r.status ≡ 0
      go (nothing is sent) = is
      go (ready is sent) = let e : None ≡ Some NO_MEMORY.now = sym none ∙ sent in absurd (cc)
      go (own one two sent) = let e : None ≡ Some r.bytes = sym none ∙ sent in absurd (cc)

  -- what is shown in answer to a request that reads
  answered : (a b : ℕ) (m n : Machine) (act : Act) (r : Reply) (bytes : List ℕ) (k : ℕ) (claim : Claim) → Step (Rose a b) m act n r → sent_of r ≡ Some bytes → IsOk (take k bytes)
      → (IsReal m.log → r.status ≢ 500 → (part more : List ℕ) → part ++ more ≡ r.bytes → part ≡ take k bytes → Holds m.log claim) → HeldIn n.log claim
  answered a b m n act r bytes k claim step some ok shows sound = go (way_of r)
    where
      grow : (more : List Entry) × (n.log ≡ m.log ++ more)
      grow = step_adds (Rose a b) m n act r step

      go : Way r → Holds n.log claim
      go (nothing is sent) = let e : None ≡ Some bytes = sym sent ∙ some in absurd (cc)
      go (ready is sent) =
          let same : bytes ≡ NO_MEMORY.now = (let e : Some bytes ≡ Some NO_MEMORY.now = sym some ∙ sent in cc) in
          absurd (none_ready 200 k well_code (λ e. omega (arith, e)) (ap (λ (z : List ℕ). shows_status 200 (take k z)) (sym same) ∙ ok))
      go (own one two sent) =
          let same : r.bytes ≡ bytes = (let e : Some r.bytes ≡ Some bytes = sym sent ∙ some in cc) in
          subst (λ (log : List Entry). Holds log claim) (sym grow.1)
          (stays m.log grow.0 claim (shows (front m.log grow.0 (subst (λ (log : List Entry). IsReal log) grow.1 sound)) two (take k r.bytes) (drop k r.bytes) (take-append-drop k r.bytes) (ap (λ (z : List ℕ). take k z) same)))

  -- a request for nothing shows nothing
  asked : (a b : ℕ) (m n : Machine) (target : Target) (r : Reply) (bytes : List ℕ) (k : ℕ) (claim : Claim) → Step (Rose a b) m (act_of_target target) n r → sent_of r ≡ Some bytes → IsOk (take k bytes)
      → Shows (Asked target) (take k bytes) claim → HeldIn n.log claim
  asked a b m n targets.Manifest r bytes k claim step some ok shows =
      answered a b m n acts.Manifest r bytes k claim step some ok (λ sound other part more whole is.
      manifest a b m n r sound step other part more whole (ap (λ (z : List ℕ). shows_status 200 z) is ∙ ok) claim (subst (λ (z : List ℕ). Shows (Asked targets.Manifest) z claim) (sym is) shows))
  asked a b m n (targets.Fragment address) r bytes k claim step some ok shows =
      answered a b m n (acts.Fragment address) r bytes k claim step some ok (λ sound other part more whole is.
      fragment a b m n address r sound step other part more whole (ap (λ (z : List ℕ). shows_status 200 z) is ∙ ok) claim (subst (λ (z : List ℕ). Shows (Asked (targets.Fragment address)) z claim) (sym is) shows))
  asked a b m n (targets.Streams name) r bytes k claim step some ok (lists address asks inside is) = absurd (cc)
  asked a b m n (targets.Streams name) r bytes k claim step some ok (names address time asks inside is) = absurd (cc)
  asked a b m n (targets.Streams name) r bytes k claim step some ok (serves address samples duration asks inside is) = absurd (cc)
  asked a b m n (targets.Streams name) r bytes k claim step some ok (acknowledges fs place f asks got is) = absurd (cc)
  asked a b m n targets.Unknown r bytes k claim step some ok (lists address asks inside is) = absurd (cc)
  asked a b m n targets.Unknown r bytes k claim step some ok (names address time asks inside is) = absurd (cc)
  asked a b m n targets.Unknown r bytes k claim step some ok (serves address samples duration asks inside is) = absurd (cc)
  asked a b m n targets.Unknown r bytes k claim step some ok (acknowledges fs place f asks got is) = absurd (cc)

  pub texts_hold : TextsHold
  texts_hold = record {
    final = λ a b m n act r bytes k step some. not_true (shows_status 100 (take k bytes)) (λ shown. says_none a b m n act r bytes k 100 step some goes_on_code (λ e. omega (arith, e)) (final a b m n act r step) shown);
    replies = λ a b m n act r step reads none. absurd (replied a b m n act r step reads (no_status r none));
    closes = λ a b m n act r bytes e step writes some. (refused a b m n act r e step writes (some_status r bytes some)).1;
    refuses = λ a b m n act r bytes k e step writes some ok. says_none a b m n act r bytes k 200 step some well_code (λ e. omega (arith, e)) (refused a b m n act r e step writes (some_status r bytes some)).0 ok;
    refusal = λ a b m n cause r bytes k step some ok. says_none a b m n (acts.Refuse cause) r bytes k 200 step some well_code (λ e. omega (arith, e)) (refusal a b m n cause r step) ok;
    silent = λ a b m n f r step none sound. kept a b m n f r step (no_status r none);
    asked = asked;
    no_memory = λ k. not_true (shows_status 200 (take k NO_MEMORY.now)) (none_ready 200 k well_code (λ e. omega (arith, e)));
    too_many = λ k. not_true (shows_status 200 (take k TOO_MANY.now)) (λ shown.
        let e : 200 ≡ 503 = part_own 503 200 Plain (codes "49 TooManyConnections" ++ 10 ∷ []) true (take k TOO_MANY.now) (drop k TOO_MANY.now) too_many_code well_code (take-append-drop k TOO_MANY.now ∙ too_many_is) shown in
        omega (arith, e));
    continue_ok = λ k. not_true (shows_status 200 (take k CONTINUE.now)) (λ shown.
        let e : 200 ≡ 100 = ready_goes_on 200 (take k CONTINUE.now) (drop k CONTINUE.now) well_code (take-append-drop k CONTINUE.now) shown in omega (arith, e));
    continue_100 = ready_whole;
  }
