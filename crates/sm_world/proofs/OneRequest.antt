-- What goes out on a connection that asks once.
use Rattle.std.proofs.Common.{◌≡◌, ◌⊎◌, inl, inr, ⊎_elim, ℕ, ◌<◌, ◌≤◌, Bool, true, false, ◌||◌, if◌then◌else◌, List, [], ◌∷◌, ◌++◌, length, take, drop, Option, Some, None, refl, sym, ◌∙◌, ap, subst, arith, append_assoc, take-append-drop}
use Rattle.std.proofs.lemmas.Bool.{eq-eqb, ne_eqb, cases_eq}
use Rattle.std.proofs.lemmas.List.{append-nil}
use Rattle.sm_model.specs.declared.act.Act.{Act}
use Rattle.sm_model.specs.declared.act.Act.TheVariants as acts
use Rattle.sm_model.specs.declared.entry.Entry.{Entry}
use Rattle.sm_site.specs.Clauses.{Rose}
use Rattle.sm_site.specs.Meanings.{Deal, Item, sent_by, sent_on}
use Rattle.sm_site.specs.Meanings.Deal.{Began, Came, Left, Over, Sent, Shut}
use Rattle.sm_addr.specs.Targets.{target_of}
use Rattle.sm_head.specs.declared.reply.TheConstants.{NO_MEMORY, CONTINUE}
use Rattle.sm_wire.specs.declared.item.WireItem.{WireItem}
use Rattle.sm_wire.specs.declared.item.WireItem.TheVariants as items
use Rattle.sm_wire.specs.Wire.{unplaced, IsWire}
use Rattle.sm_origin.specs.Machine.{Machine, Step}
use Rattle.sm_origin.specs.Shown.{IsReal}
use Rattle.sm_serve.specs.declared.texts.TheConstants.{TOO_MANY}
use Rattle.sm_serve.specs.Connections.{received, live, is_among, deals_in}
use Rattle.sm_serve.specs.Run.{Phase, idle, acting, sending, shutting, Point, Stepped, act_of, act_of_target, closes, sent_of, phase_after, at, Moves, LeadsTo, rests, moves_on}
use Rattle.sm_serve.specs.Run.{opened, crowded, came, unread, passed, left, over, continues, acts_on, wants, done, sent, failed, unsent, shut, declared, recalled}
use Rattle.sm_serve.proofs.Adding.{Extends}
use Rattle.sm_serve.proofs.Answering.{IsAway}
use Rattle.sm_serve.proofs.Fronts.{steps_on}
use Rattle.sm_serve.proofs.Quiet.{bytes_came, not_live}
use Rattle.sm_serve.proofs.Stepping.{away_after}
use Rattle.sm_serve.proofs.Transcripts.{live_push}
use Rattle.sm_fetch.specs.Requests.{get_text}
use Rattle.sm_fetch.specs.Origins.{MayBeAsked}
use Rattle.sm_world.specs.Replying.{IsReplyTo, IsReplyFront}
use Rattle.sm_world.specs.Wider.{replies_by}
use Rattle.sm_world.proofs.Steps.{IsAct, AreActs, acts_front, acts_last, Causes, AllCause, cause_front, cause_last}
use Rattle.sm_world.proofs.GetText.{IsAsked, IsFew, front_gives, few_behind}
use Rattle.sm_world.proofs.OriginReplies.{no_memory_replies, too_many_replies, asked_is_reply, refused_is_reply}
use Rattle.sm_world.specs.Bringing.{begun, begun_by}
use Rattle.sm_world.proofs.Fronts.{begun_both, began_one, deals_both, still_out, AreFirst, first_of_first, came_by_then, begins_once, among_after}

-- ---- what was sent

pub sent_both : (conn : ℕ) (xs ys : List Item) → sent_on conn (xs ++ ys) ≡ sent_on conn xs ++ sent_on conn ys
sent_both conn [] ys = refl
sent_both conn (x ∷ xs) ys = ap (λ (l : List ℕ). sent_by conn x.deal ++ l) (sent_both conn xs ys) ∙ sym (append_assoc (sent_by conn x.deal) (sent_on conn xs) (sent_on conn ys))

or_true : (b : Bool) → (b || true) ≡ true
or_true true = refl
or_true false = refl

-- the request is the text of the GET of a target
pub record Asks (request : List ℕ) : Type 0 where
  pub host : List ℕ
  pub port : ℕ
  pub named : List ℕ
  pub may : MayBeAsked host port named
  pub text : request ≡ get_text host port named

closing : (named : List ℕ) (item : WireItem) → IsAsked named item → closes item ≡ true
closing named item (inl get) = ap closes get
closing named item (inr (c, refuse, may)) = ap closes refuse

not_continue : (named : List ℕ) (more : List WireItem) → IsFew named (items.Continue ∷ more) → ⊥
not_continue named more (inl none) = cc
not_continue named more (inr (item, one, inl get)) = cc
not_continue named more (inr (item, one, inr (c, refuse, may))) = cc

some_of : (n : ℕ) → (n ≡ 0 → ⊥) → 0 < n
some_of n some = grind (arith, some)

-- ---- one connection

-- the disk's failures are these, and where 64 connections are live in a front of these entries, that holds
module _ (fails crowds : Type 0) (conn : ℕ) (request : List ℕ) (first : List Entry) (base : List Item) where
  abbrev HasBegun : List Item → Type 0
  HasBegun es = 0 < begun conn (deals_in es)

  begun_later : (es more : List Item) → HasBegun es → HasBegun (es ++ more)
  begun_later es more some = let deals = ap (begun conn) (deals_both es more) in let both = begun_both conn (deals_in es) (deals_in more) in omega (arith, deals, both, some)

  -- by some moment since the first log the text was a front of a reply
  pub record Good (log : List Entry) (text : List ℕ) : Type 0 where
    pub until : List Entry
    pub since : List Entry
    pub log_is : log ≡ (first ++ until) ++ since
    pub says : (e : Asks request) → IsReal (first ++ until) → IsReplyFront fails crowds (first ++ until) e.named text

  good_later : (log more : List Entry) (text : List ℕ) → Good log text → Good (log ++ more) text
  good_later log more text good = record {
    until = good.until;
    since = good.since ++ more;
    log_is = ap (λ (l : List Entry). l ++ more) good.log_is ∙ append_assoc (first ++ good.until) good.since more;
    says = good.says;
  }

  good_front : (log : List Entry) (text part rest : List ℕ) → text ≡ part ++ rest → Good log text → Good log part
  good_front log text part rest is good = record {
    until = good.until;
    since = good.since;
    log_is = good.log_is;
    says = λ e real.
        let whole = good.says e real in
        (whole.0, rest ++ whole.1, whole.2, whole.3 ∙ ap (λ (t : List ℕ). t ++ whole.1) is ∙ append_assoc part rest whole.1);
  }

  -- a text that is a reply whatever the log
  good_now : (log : List Entry) (text : List ℕ) → ((more : List Entry) × (log ≡ first ++ more)) → ((e : Asks request) → (l : List Entry) → IsReplyTo fails crowds l e.named text) → Good log text
  good_now log text (more, is) reply = record {
    until = more;
    since = [];
    log_is = is ∙ sym (append-nil (first ++ more));
    says = λ e real. (text, [], reply e (first ++ more), sym (append-nil text));
  }

  abbrev Awaits : List Entry → List Item → Phase → Type 0
  Awaits log es idle = Unit {0}
  Awaits log es (acting k todo) = (e : Asks request) → k ≡ conn → HasBegun es × IsFew e.named todo
  Awaits log es (sending k text close todo) = k ≡ conn → Good log text × ((e : Asks request) → (close ≡ true) × HasBegun es)
  Awaits log es (shutting k) = Unit {0}

  -- it answered, and is closed or about to be
  abbrev Gone : List Item → List Item → Phase → Type 0
  Gone items es phase = (e : Asks request) → HasBegun es × ((phase ≡ shutting conn) ⊎ (IsAway conn phase × (is_among conn (live items) ≡ false)))

  abbrev Silent : List Item → List Item → List Entry → Phase → Type 0
  Silent items es log phase = (sent_on conn items ≡ []) × Awaits log es phase

  abbrev Spoke : List Item → List Item → List Entry → Phase → Type 0
  Spoke items es log phase = Good log (sent_on conn items) × Gone items es phase

  pub record Stands (items es : List Item) (log : List Entry) (phase : Phase) : Type 0 where
    pub grown : (more : List Entry) × (log ≡ first ++ more)
    pub state : Silent items es log phase ⊎ Spoke items es log phase

  -- ---- a move

  module _ (es ns : List Item) (p : Point) (s : Stands (base ++ es) es p.machine.log p.phase) where
    abbrev items' : List Item
    items' = base ++ es

    abbrev Next : List Entry → Phase → Type 0
    Next log phase = Stands (items' ++ ns) (es ++ ns) log phase

    reaches : (q : Point) (m : Machine) (f : Phase) → q.machine ≡ m → q.phase ≡ f → Next m.log f → Next q.machine.log q.phase
    reaches q m f machine phase next =
        subst (λ (l : List Entry). Next l q.phase) (sym (ap (λ (k : Machine). k.log) machine)) (subst (λ (g : Phase). Next m.log g) (sym phase) next)

    -- nothing is sent on it, and no step is made
    next : (q : Point) (f : Phase) → q.machine ≡ p.machine → q.phase ≡ f → sent_on conn ns ≡ [] → (Awaits p.machine.log es p.phase → Awaits p.machine.log (es ++ ns) f)
        → (Gone items' es p.phase → Gone (items' ++ ns) (es ++ ns) f) → Next q.machine.log q.phase
    next q f machine phase none awaits gone = reaches q p.machine f machine phase (record { grown = s.grown; state = go s.state })
      where
        same : sent_on conn (items' ++ ns) ≡ sent_on conn items'
        same = sent_both conn items' ns ∙ ap (λ (l : List ℕ). sent_on conn items' ++ l) none ∙ append-nil (sent_on conn items')

        go : Silent items' es p.machine.log p.phase ⊎ Spoke items' es p.machine.log p.phase → Silent (items' ++ ns) (es ++ ns) p.machine.log f ⊎ Spoke (items' ++ ns) (es ++ ns) p.machine.log f
        go (inl (silent, waits)) = inl (same ∙ silent, awaits waits)
        go (inr (good, over_)) = inr (subst (λ (t : List ℕ). Good p.machine.log t) (sym same) good, gone over_)

    awaits_in : (f : Phase) → p.phase ≡ f → Awaits p.machine.log es p.phase → Awaits p.machine.log es f
    awaits_in f is waits = subst (λ (g : Phase). Awaits p.machine.log es g) is waits

    gone_in : (f : Phase) → p.phase ≡ f → Gone items' es p.phase → Gone items' es f
    gone_in f is over_ = subst (λ (g : Phase). Gone items' es g) is over_

    -- behind a move of another connection, or of none, it stays closed
    stays_gone : (f g : Phase) → p.phase ≡ f → (f ≡ shutting conn → ⊥) → (IsAway conn f → IsAway conn g) → (is_among conn (live items') ≡ false → is_among conn (live (items' ++ ns)) ≡ false)
        → Gone items' es p.phase → Gone (items' ++ ns) (es ++ ns) g
    stays_gone f g is other away out over_ e =
        let was = gone_in f is over_ e in
        (begun_later es ns was.0, inr (⊎_elim (λ (now : f ≡ shutting conn). absurd (other now)) (λ (a : IsAway conn f × (is_among conn (live items') ≡ false)). (away a.0, out a.1)) was.1))

    still_nothing : ns ≡ [] → is_among conn (live items') ≡ false → is_among conn (live (items' ++ ns)) ≡ false
    still_nothing none out = ap (λ (l : List Item). is_among conn (live (items' ++ l))) none ∙ ap (λ (l : List Item). is_among conn (live l)) (append-nil items') ∙ out

    behind_entry : (m : ℕ) (deal : Deal) → ns ≡ at m deal → begun_by conn deal ≡ 0 → is_among conn (live items') ≡ false → is_among conn (live (items' ++ ns)) ≡ false
    behind_entry m deal e none out =
        ap (λ (l : List Item). is_among conn (live (items' ++ l))) e ∙ ap (is_among conn) (live_push items' (record { moment = m; deal = deal })) ∙ among_after conn (live items') deal none out

    sent_none : (m : ℕ) (deal : Deal) → ns ≡ at m deal → sent_by conn deal ≡ [] → sent_on conn ns ≡ []
    sent_none m deal e none = ap (sent_on conn) e ∙ ap (λ (l : List ℕ). l ++ []) none

    no_entry : ns ≡ [] → sent_on conn ns ≡ []
    no_entry none = ap (sent_on conn) none

    ready_no_memory : Good p.machine.log NO_MEMORY.now
    ready_no_memory = good_now p.machine.log NO_MEMORY.now s.grown (λ e l. no_memory_replies fails crowds l e.named)

    ready_too_many : crowds → Good p.machine.log TOO_MANY.now
    ready_too_many so = good_now p.machine.log TOO_MANY.now s.grown (λ e l. too_many_replies fails crowds l e.named so)

    one_deal : (m n : ℕ) → deals_in (at m (Began n)) ≡ Began n ∷ []
    unfolding deals_in
    one_deal m n = refl

    none_came : (m n : ℕ) (bytes : List ℕ) → begun conn (deals_in (at m (Came n bytes))) ≡ 0
    unfolding deals_in
    none_came m n bytes = refl

    begun_live : is_among conn (live base) ≡ false → (n : ℕ) → is_among n (live items') ≡ true → n ≡ conn → HasBegun es
    begun_live out n among same =
        some_of (begun conn (deals_in es))
        (λ none. let gone = still_out conn base es out none in let here : is_among conn (live items') ≡ true = subst (λ (k : ℕ). is_among k (live items') ≡ true) same among in absurd (cc))

    absurd_continue : (n : ℕ) (more : List WireItem) → n ≡ conn → Awaits p.machine.log es (acting n (items.Continue ∷ more)) → Good p.machine.log CONTINUE.now × ((e : Asks request) → (false ≡ true) × HasBegun (es ++ ns))
    absurd_continue n more same waits =
        let no : (e : Asks request) → ⊥ = λ e. not_continue e.named more (waits e same).1 in (
          record { until = s.grown.0; since = []; log_is = s.grown.1 ∙ sym (append-nil (first ++ s.grown.0)); says = λ e real. absurd (no e) },
          λ e. absurd (no e),
        )

    -- something is sent
    sends : (m n : ℕ) (bytes part rest : List ℕ) (close : Bool) (more : List WireItem) (broken : Bool) (q : Point) (f : Phase) → p.phase ≡ sending n bytes close more → bytes ≡ part ++ rest
        → ns ≡ at m (Sent n part broken) → q.machine ≡ p.machine → q.phase ≡ f → (n ≡ conn → close ≡ true → f ≡ shutting conn) → ((n ≡ conn → ⊥) → Awaits p.machine.log (es ++ ns) f)
        → ((n ≡ conn → ⊥) → IsAway conn f) → Next q.machine.log q.phase
    sends m n bytes part rest close more broken q f phase is e machine to closed waits_else away_else = elim (cases_eq n conn) [
      | inr other ↦ next q f machine to (sent_none m (Sent n part broken) e (ap (λ (b : Bool). if b then part else []) (ne_eqb n conn other))) (λ waits. waits_else other)
          (stays_gone (sending n bytes close more) f phase (λ bad. cc) away_else (behind_entry m (Sent n part broken) e refl))
      | inl same ↦ reaches q p.machine f machine to (record { grown = s.grown; state = go same s.state })
    ]
      where
        now : n ≡ conn → sent_on conn (items' ++ ns) ≡ sent_on conn items' ++ part
        now same =
            sent_both conn items' ns ∙ ap (λ (l : List Item). sent_on conn items' ++ sent_on conn l) e
            ∙ ap (λ (b : Bool). sent_on conn items' ++ ((if b then part else []) ++ [])) (eq-eqb n conn same) ∙ ap (λ (l : List ℕ). sent_on conn items' ++ l) (append-nil part)

        never : n ≡ conn → Gone items' es p.phase → (x : Asks request) → ⊥
        never same over_ x =
            ⊎_elim (λ (bad : sending n bytes close more ≡ shutting conn). cc) (λ (a : IsAway conn (sending n bytes close more) × (is_among conn (live items') ≡ false)). a.0 same)
            (gone_in (sending n bytes close more) phase over_ x).1

        go : n ≡ conn → Silent items' es p.machine.log p.phase ⊎ Spoke items' es p.machine.log p.phase → Silent (items' ++ ns) (es ++ ns) p.machine.log f ⊎ Spoke (items' ++ ns) (es ++ ns) p.machine.log f
        go same (inl (silent, waits)) =
            let w = awaits_in (sending n bytes close more) phase waits same in
            inr (
              subst (λ (t : List ℕ). Good p.machine.log t) (sym (now same ∙ ap (λ (l : List ℕ). l ++ part) silent)) (good_front p.machine.log bytes part rest is w.0),
              λ x. (begun_later es ns (w.1 x).1, inl (closed same (w.1 x).0)),
            )
        go same (inr (good, over_)) =
            inr (record { until = good.until; since = good.since; log_is = good.log_is; says = λ x real. absurd (never same over_ x) }, λ x. absurd (never same over_ x))

    waits_else : (n : ℕ) (close : Bool) (more : List WireItem) → (n ≡ conn → ⊥) → Awaits p.machine.log (es ++ ns) (if close then shutting n else acting n more)
    waits_else n true more other = tt
    waits_else n false more other = λ x same. absurd (other same)

    shut_gone : (m n : ℕ) → ns ≡ at m (Shut n) → p.phase ≡ shutting n → Gone items' es p.phase → Gone (items' ++ ns) (es ++ ns) idle
    shut_gone m n e phase over_ x =
        let was = gone_in (shutting n) phase over_ x in (
          begun_later es ns was.0,
          inr (⊎_elim
              (λ (now : shutting n ≡ shutting conn). let same : n ≡ conn = cc in (tt, ap (λ (l : List Item). is_among conn (live (items' ++ l))) e ∙ not_live conn n m items' same))
              (λ (a : IsAway conn (shutting n) × (is_among conn (live items') ≡ false)). (tt, behind_entry m (Shut n) e refl a.1)) was.1),
        )

    -- a step is made
    grows : (x : Stepped) (q : Point) → x.before ≡ p.machine → IsAct x → ns ≡ [] → (f : Phase) → q.machine ≡ x.after → q.phase ≡ f → (Awaits p.machine.log es p.phase → Awaits x.after.log (es ++ ns) f)
        → (Gone items' es p.phase → Gone (items' ++ ns) (es ++ ns) f) → Next q.machine.log q.phase
    grows x q before step e f machine to awaits gone = reaches q x.after f machine to (record {
      grown = (s.grown.0 ++ on.0, on.1 ∙ ap (λ (l : List Entry). l ++ on.0) s.grown.1 ∙ append_assoc first s.grown.0 on.0);
      state = go s.state;
    })
      where
        on : Extends p.machine x.after
        on = steps_on p x before step

        same : sent_on conn (items' ++ ns) ≡ sent_on conn items'
        same = ap (λ (l : List Item). sent_on conn (items' ++ l)) e ∙ ap (sent_on conn) (append-nil items')

        go : Silent items' es p.machine.log p.phase ⊎ Spoke items' es p.machine.log p.phase → Silent (items' ++ ns) (es ++ ns) x.after.log f ⊎ Spoke (items' ++ ns) (es ++ ns) x.after.log f
        go (inl (silent, waits)) = inl (same ∙ silent, awaits waits)
        go (inr (good, over_)) =
            inr (subst (λ (t : List ℕ). Good x.after.log t) (sym same) (subst (λ (l : List Entry). Good l (sent_on conn items')) (sym on.1) (good_later p.machine.log on.0 (sent_on conn items') good)), gone over_)

    -- an item is acted on
    acted : (n : ℕ) (item : WireItem) (more : List WireItem) (act : Act) (x : Stepped) (q : Point) → Causes fails x → p.phase ≡ acting n (item ∷ more)
        → act_of (p.counts n) item ≡ Some act → x.act ≡ act → x.before ≡ p.machine
        → IsAct x → ns ≡ [] → q.machine ≡ x.after → q.phase ≡ phase_after n (sent_of x.reply) (x.reply.close || closes item) more → Next q.machine.log q.phase
    acted n item more act x q causes phase does act_is before step e machine to = elim (cases_eq n conn) [
      | inr other ↦ grows x q before step e now machine to (λ waits. else_waits (sent_of x.reply) (x.reply.close || closes item) other)
          (stays_gone (acting n (item ∷ more)) now phase (λ bad. cc) (λ a. away_after conn n (sent_of x.reply) (x.reply.close || closes item) more a) (still_nothing e))
      | inl same ↦ grows x q before step e now machine to (λ waits. own same (awaits_in (acting n (item ∷ more)) phase waits) (sent_of x.reply) refl)
          (λ over_ y. absurd (⊎_elim (λ (bad : acting n (item ∷ more) ≡ shutting conn). cc) (λ (a : IsAway conn (acting n (item ∷ more)) × (is_among conn (live items') ≡ false)). a.0 same)
          (gone_in (acting n (item ∷ more)) phase over_ y).1))
    ]
      where
        now : Phase
        now = phase_after n (sent_of x.reply) (x.reply.close || closes item) more

        else_waits : (o : Option (List ℕ)) (close : Bool) → (n ≡ conn → ⊥) → Awaits x.after.log (es ++ ns) (phase_after n o close more)
        else_waits None true other = tt
        else_waits None false other = λ y same. absurd (other same)
        else_waits (Some bytes) close other = λ same. absurd (other same)

        on : Extends p.machine x.after
        on = steps_on p x before step

        was : x.before.log ≡ first ++ s.grown.0
        was = ap (λ (k : Machine). k.log) before ∙ s.grown.1

        asked : (named : List ℕ) → IsFew named (item ∷ more) → IsAsked named item
        asked named (inl none) = absurd (cc)
        asked named (inr (it, one, is)) = let same : it ≡ item = cc in subst (λ (i : WireItem). IsAsked named i) same is

        closes_now : (named : List ℕ) → IsAsked named item → (x.reply.close || closes item) ≡ true
        closes_now named is = ap (λ (b : Bool). x.reply.close || b) (closing named item is) ∙ or_true x.reply.close

        replies : (named : List ℕ) → IsAsked named item → (bytes : List ℕ) → sent_of x.reply ≡ Some bytes → IsReal x.before.log → IsReplyTo fails crowds x.before.log named bytes
        replies named (inl get) bytes some real =
            let which : act_of_target (target_of named) ≡ x.act = (let both : Some (act_of_target (target_of named)) ≡ Some act = sym (ap (act_of (p.counts n)) get) ∙ does in cc) in
            replies_by x.before.log named bytes causes (λ so. so) (asked_is_reply (Rose x.faults x.faults_after) crowds named x.before x.after x.reply bytes real
            (subst (λ (a : Act). Step (Rose x.faults x.faults_after) x.before a x.after x.reply) (sym which) step) some)
        replies named (inr (c, refuse, may)) bytes some real =
            let which : acts.Refuse (unplaced c) ≡ x.act = (let both : Some (acts.Refuse (unplaced c)) ≡ Some act = sym (ap (act_of (p.counts n)) refuse) ∙ does in cc) in
            replies_by x.before.log named bytes causes (λ so. so) (refused_is_reply (Rose x.faults x.faults_after) crowds named x.before x.after c x.reply bytes may
            (subst (λ (a : Act). Step (Rose x.faults x.faults_after) x.before a x.after x.reply) (sym which) step) some)

        own : n ≡ conn → Awaits p.machine.log es (acting n (item ∷ more)) → (o : Option (List ℕ)) → sent_of x.reply ≡ o → Awaits x.after.log (es ++ ns) (phase_after n o (x.reply.close || closes item) more)
        own same waits None none = shut_or (x.reply.close || closes item) (λ y. closes_now y.named (asked y.named (waits y same).1))
          where
            shut_or : (b : Bool) → ((y : Asks request) → b ≡ true) → Awaits x.after.log (es ++ ns) (if b then shutting n else acting n more)
            shut_or true all = tt
            shut_or false all = λ y again. absurd (let bad : false ≡ true = all y in cc)
        own same waits (Some bytes) some = λ again. (
          record {
            until = s.grown.0;
            since = on.0;
            log_is = on.1 ∙ ap (λ (l : List Entry). l ++ on.0) s.grown.1;
            says = λ y real.
                let reply = subst (λ (l : List Entry). IsReplyTo fails crowds l y.named bytes) was
                (replies y.named (asked y.named (waits y same).1) bytes some (subst (λ (l : List Entry). IsReal l) (sym was) real)) in
                (bytes, [], reply, sym (append-nil bytes));
          },
          λ y. (closes_now y.named (asked y.named (waits y same).1), begun_later es ns (waits y same).0),
        )

    module _ (comes : AreFirst conn request (deals_in (es ++ ns))) where
      -- a connection that begins
      began_live : (m n : ℕ) (f g : Phase) → ns ≡ at m (Began n) → p.phase ≡ f → (f ≡ shutting conn → ⊥) → ((n ≡ conn → ⊥) → IsAway conn g) → Gone items' es p.phase → Gone (items' ++ ns) (es ++ ns) g
      began_live m n f g e is other away over_ x =
          let was = gone_in f is over_ x in
          let once : n ≡ conn → ⊥ = λ same.
          let deals : deals_in (es ++ ns) ≡ deals_in es ++ Began conn ∷ [] =
          ap (λ (l : List Item). deals_in (es ++ l)) e ∙ deals_both es (at m (Began n)) ∙ ap (λ (ds : List Deal). deals_in es ++ ds) (one_deal m n) ∙ ap (λ (k : ℕ). deals_in es ++ Began k ∷ []) same in
          let none = begins_once conn request (deals_in es) (subst (λ (ds : List Deal). AreFirst conn request ds) deals comes) in
          let some = was.0 in omega (arith, none, some) in (
            begun_later es ns was.0,
            inr (⊎_elim (λ (now : f ≡ shutting conn). absurd (other now))
                (λ (a : IsAway conn f × (is_among conn (live items') ≡ false)). (away once, behind_entry m (Began n) e (ap (λ (b : Bool). if b then 1 else 0) (ne_eqb n conn once)) a.1)) was.1),
          )

      began_now : (m n : ℕ) → ns ≡ at m (Began n) → n ≡ conn → HasBegun (es ++ ns)
      began_now m n e same =
          let deals : deals_in (es ++ ns) ≡ deals_in es ++ Began conn ∷ [] =
          ap (λ (l : List Item). deals_in (es ++ l)) e ∙ deals_both es (at m (Began n)) ∙ ap (λ (ds : List Deal). deals_in es ++ ds) (one_deal m n) ∙ ap (λ (k : ℕ). deals_in es ++ Began k ∷ []) same in
          let count = ap (begun conn) deals in
          let both = begun_both conn (deals_in es) (Began conn ∷ []) in
          let one = began_one conn in
          omega (arith, count, both, one)

      -- a piece of a live connection
      came_live : (m n : ℕ) (bytes : List ℕ) (f g : Phase) → ns ≡ at m (Came n bytes) → p.phase ≡ f → is_among n (live items') ≡ true → (f ≡ shutting conn → ⊥) → ((n ≡ conn → ⊥) → IsAway conn g)
          → Gone items' es p.phase → Gone (items' ++ ns) (es ++ ns) g
      came_live m n bytes f g e is among other away over_ x =
          let was = gone_in f is over_ x in (
            begun_later es ns was.0,
            inr (⊎_elim (λ (now : f ≡ shutting conn). absurd (other now))
                (λ (a : IsAway conn f × (is_among conn (live items') ≡ false)).
                (away (λ same. let here : is_among conn (live items') ≡ true = subst (λ (k : ℕ). is_among k (live items') ≡ true) same among in let none = a.1 in absurd (cc)), behind_entry m (Came n bytes) e refl a.1)) was.1),
          )

      -- what a piece gives
      given_few : (m n : ℕ) (bytes : List ℕ) (given more : List WireItem) → ns ≡ at m (Came n bytes) → is_among conn (live base) ≡ false → is_among n (live items') ≡ true
          → IsWire (received n items' ++ bytes) (given ++ more) → (e : Asks request) → n ≡ conn → HasBegun (es ++ ns) × IsFew e.named more
      given_few m n bytes given more is out among wire e same =
          let some : HasBegun es = begun_live out n among same in (
            begun_later es ns some,
            ⊎_elim
                (λ (none : begun conn (deals_in (es ++ ns)) ≡ 0). let later = begun_later es ns some in absurd (omega (arith, none, later)))
                (λ (came_ : (rest : List ℕ) × (received conn (base ++ (es ++ ns)) ++ rest ≡ request)).
                let now : received conn (base ++ (es ++ ns)) ≡ received n items' ++ bytes =
                ap (received conn) (sym (append_assoc base es ns)) ∙ ap (λ (l : List Item). received conn (items' ++ l)) is ∙ bytes_came conn n m bytes items' same ∙ ap (λ (k : ℕ). received k items' ++ bytes) (sym same) in
                few_behind e.named given more
                (front_gives e.host e.port e.named (received n items' ++ bytes) came_.0 e.may (ap (λ (l : List ℕ). l ++ came_.0) (sym now) ∙ came_.1 ∙ e.text) (given ++ more) wire))
                (came_by_then conn request base (es ++ ns) comes),
          )

      -- ---- each move

      stays_on : (xs : List Stepped) (q : Point) → AreActs xs → AllCause fails xs → (64 ≤ length (live items') → crowds) → is_among conn (live base) ≡ false → Moves false items' p ns xs q → Next q.machine.log q.phase
      stays_on xs q real causes crowding out (opened m n phase few e none is) =
          next q (acting n []) (ap (λ (r : Point). r.machine) is) (ap (λ (r : Point). r.phase) is) (sent_none m (Began n) e refl)
          (λ waits x same. (began_now m n e same, inl refl)) (began_live m n idle (acting n []) e phase (λ bad. cc) (λ other. other))
      stays_on xs q real causes crowding out (crowded m n phase many e none is) =
          next q (sending n TOO_MANY.now true []) (ap (λ (r : Point). r.machine) is) (ap (λ (r : Point). r.phase) is) (sent_none m (Began n) e refl)
          (λ waits same. (ready_too_many (crowding many), λ x. (refl, began_now m n e same))) (began_live m n idle (sending n TOO_MANY.now true []) e phase (λ bad. cc) (λ other. other))
      stays_on xs q real causes crowding out (came m n bytes given more phase among e none one two is) =
          next q (acting n more) (ap (λ (r : Point). r.machine) is) (ap (λ (r : Point). r.phase) is) (sent_none m (Came n bytes) e refl)
          (λ waits. given_few m n bytes given more e out among two) (came_live m n bytes idle (acting n more) e phase among (λ bad. cc) (λ other. other))
      stays_on xs q real causes crowding out (unread m n bytes phase among e none is) =
          next q (sending n NO_MEMORY.now true []) (ap (λ (r : Point). r.machine) is) (ap (λ (r : Point). r.phase) is) (sent_none m (Came n bytes) e refl)
          (λ waits same. (ready_no_memory, λ x. (refl, begun_later es ns (begun_live out n among same)))) (came_live m n bytes idle (sending n NO_MEMORY.now true []) e phase among (λ bad. cc) (λ other. other))
      stays_on xs q real causes crowding out (passed m n bytes phase among e none is) =
          next q idle (ap (λ (r : Point). r.machine) is) (ap (λ (r : Point). r.phase) is) (sent_none m (Came n bytes) e refl)
          (λ waits. tt) (stays_gone idle idle phase (λ bad. cc) (λ a. tt) (behind_entry m (Came n bytes) e refl))
      stays_on xs q real causes crowding out (left m n phase e none is) =
          next q idle (ap (λ (r : Point). r.machine) is) (ap (λ (r : Point). r.phase) is) (sent_none m (Left n) e refl)
          (λ waits. tt) (stays_gone idle idle phase (λ bad. cc) (λ a. tt) (behind_entry m (Left n) e refl))
      stays_on xs q real causes crowding out (over m phase e none is) =
          next q idle (ap (λ (r : Point). r.machine) is) (ap (λ (r : Point). r.phase) is) (sent_none m Over e refl)
          (λ waits. tt) (stays_gone idle idle phase (λ bad. cc) (λ a. tt) (behind_entry m Over e refl))
      stays_on xs q real causes crowding out (continues n more phase e none is) =
          next q (sending n CONTINUE.now false more) (ap (λ (r : Point). r.machine) is) (ap (λ (r : Point). r.phase) is) (no_entry e)
          (λ waits same. absurd_continue n more same (awaits_in (acting n (items.Continue ∷ more)) phase waits))
          (stays_gone (acting n (items.Continue ∷ more)) (sending n CONTINUE.now false more) phase (λ bad. cc) (λ a. a) (still_nothing e))
      stays_on xs q real causes crowding out (acts_on n item more act x phase does conn_is is_step e one is) =
          let step : IsAct x = (subst (λ (ys : List Stepped). AreActs ys) one real).0 in
          acted n item more act x q (subst (λ (ys : List Stepped). AllCause fails ys) one causes).0 phase does is_step.act_is is_step.before_is step e (ap (λ (r : Point). r.machine) is) (ap (λ (r : Point). r.phase) is)
      stays_on xs q real causes crowding out (wants n more phase e none is) =
          next q (sending n NO_MEMORY.now true []) (ap (λ (r : Point). r.machine) is) (ap (λ (r : Point). r.phase) is) (no_entry e)
          (λ waits same. (ready_no_memory, λ x. (refl, begun_later es ns (awaits_in (acting n more) phase waits x same).0)))
          (stays_gone (acting n more) (sending n NO_MEMORY.now true []) phase (λ bad. cc) (λ a. a) (still_nothing e))
      stays_on xs q real causes crowding out (done n phase e none is) =
          next q idle (ap (λ (r : Point). r.machine) is) (ap (λ (r : Point). r.phase) is) (no_entry e)
          (λ waits. tt) (stays_gone (acting n []) idle phase (λ bad. cc) (λ a. tt) (still_nothing e))
      stays_on xs q real causes crowding out (sent m n bytes close more phase after e none is) =
          sends m n bytes bytes [] close more false q (if close then shutting n else acting n more) phase (sym (append-nil bytes)) e (ap (λ (r : Point). r.machine) is) (ap (λ (r : Point). r.phase) is)
          (λ same closed. ap (λ (b : Bool). if b then shutting n else acting n more) closed ∙ ap (λ (k : ℕ). shutting k) same) (waits_else n close more) (away_after conn n None close more)
      stays_on xs q real causes crowding out (failed m n k bytes close more phase after e none is) =
          sends m n bytes (take k bytes) (drop k bytes) close more true q (shutting n) phase (sym (take-append-drop k bytes)) e (ap (λ (r : Point). r.machine) is) (ap (λ (r : Point). r.phase) is)
          (λ same closed. ap (λ (j : ℕ). shutting j) same) (λ other. tt) (λ other. other)
      stays_on xs q real causes crowding out (unsent n bytes close more phase e none is) =
          next q (shutting n) (ap (λ (r : Point). r.machine) is) (ap (λ (r : Point). r.phase) is) (no_entry e)
          (λ waits. tt) (stays_gone (sending n bytes close more) (shutting n) phase (λ bad. cc) (λ a. a) (still_nothing e))
      stays_on xs q real causes crowding out (shut m n phase e none is) =
          next q idle (ap (λ (r : Point). r.machine) is) (ap (λ (r : Point). r.phase) is) (sent_none m (Shut n) e refl)
          (λ waits. tt) (shut_gone m n e phase)
      stays_on xs q real causes crowding out (declared header x phase conn_is is_step e one is) =
          let step : IsAct x = (subst (λ (ys : List Stepped). AreActs ys) one real).0 in
          grows x q is_step.before_is step e idle (ap (λ (r : Point). r.machine) is) (ap (λ (r : Point). r.phase) is) (λ waits. tt)
          (stays_gone idle idle phase (λ bad. cc) (λ a. tt) (still_nothing e))
      stays_on xs q real causes crowding out (recalled address x phase conn_is is_step e one is) =
          let step : IsAct x = (subst (λ (ys : List Stepped). AreActs ys) one real).0 in
          grows x q is_step.before_is step e idle (ap (λ (r : Point). r.machine) is) (ap (λ (r : Point). r.phase) is) (λ waits. tt)
          (stays_gone idle idle phase (λ bad. cc) (λ a. tt) (still_nothing e))

  -- what went out is a front of a reply of the log at some moment since
  pub answers : (items : List Item) (log : List Entry) (phase : Phase) (es : List Item) → Stands items es log phase → Good log (sent_on conn items)
  answers items log phase es stands = go stands.state
    where
      go : Silent items es log phase ⊎ Spoke items es log phase → Good log (sent_on conn items)
      go (inl (silent_, waits)) = record {
        until = stands.grown.0;
        since = [];
        log_is = stands.grown.1 ∙ sym (append-nil (first ++ stands.grown.0));
        says = λ e real.
            subst (λ (t : List ℕ). IsReplyFront fails crowds (first ++ stands.grown.0) e.named t) (sym silent_) (NO_MEMORY.now, NO_MEMORY.now, no_memory_replies fails crowds (first ++ stands.grown.0) e.named, refl);
      }
      go (inr (good, over_)) = good

  -- ---- along a path

  module _ (steps : List Stepped) (p : Point) (log_is : p.machine.log ≡ first) (phase_is : p.phase ≡ idle) (out : is_among conn (live base) ≡ false) (silent : sent_on conn base ≡ []) where
    here : Stands (base ++ []) [] p.machine.log p.phase
    here = record {
      grown = ([], log_is ∙ sym (append-nil first));
      state = inl (ap (sent_on conn) (append-nil base) ∙ silent, subst (λ (f : Phase). Awaits p.machine.log [] f) (sym phase_is) tt);
    }

    pub along : (whole : List Item) → ((es more : List Item) → whole ≡ (base ++ es) ++ more → 64 ≤ length (live (base ++ es)) → crowds) → (items : List Item) (ss : List Stepped) (q : Point)
        → LeadsTo base steps p items ss q → (more : List Item) → whole ≡ items ++ more → (es : List Item) × (further : List Stepped) × (items ≡ base ++ es) × (ss ≡ steps ++ further)
        × (AreFirst conn request (deals_in es) → AreActs ss → AllCause fails further → Stands items es q.machine.log q.phase)
    along whole crowding items ss q (rests now all q' a b c) more rest = (
      [],
      [],
      a ∙ sym (append-nil base),
      b ∙ sym (append-nil steps),
      λ comes real causes.
          subst (λ (l : List Item). Stands l [] q.machine.log q.phase) (append-nil base ∙ sym a) (subst (λ (r : Point). Stands (base ++ []) [] r.machine.log r.phase) (sym c) here),
    )
    along whole crowding items ss q (moves_on was ns now ys xs all r q' path move a b) more rest =
        let then_rest : whole ≡ was ++ (ns ++ more) = rest ∙ ap (λ (l : List Item). l ++ more) a ∙ append_assoc was ns more in
        let before = along whole crowding was ys r path (ns ++ more) then_rest in (
          before.0 ++ ns,
          before.1 ++ xs,
          a ∙ ap (λ (l : List Item). l ++ ns) before.2 ∙ append_assoc base before.0 ns,
          b ∙ ap (λ (l : List Stepped). l ++ xs) before.3 ∙ append_assoc steps before.1 xs,
          λ comes real causes.
              let acts_all = subst (λ (zs : List Stepped). AreActs zs) b real in
              let then_ = before.4 (first_of_first conn request (deals_in before.0) (deals_in ns) (subst (λ (ds : List Deal). AreFirst conn request ds) (deals_both before.0 ns) comes)) (acts_front ys xs acts_all)
              (cause_front fails before.1 xs causes) in
              let crowded_here : 64 ≤ length (live (base ++ before.0)) → crowds =
              crowding before.0 (ns ++ more) (then_rest ∙ ap (λ (l : List Item). l ++ (ns ++ more)) before.2) in
              subst (λ (l : List Item). Stands l (before.0 ++ ns) q.machine.log q.phase) (sym (a ∙ ap (λ (l : List Item). l ++ ns) before.2))
              (stays_on before.0 ns r (subst (λ (l : List Item). Stands l before.0 r.machine.log r.phase) before.2 then_) comes xs q (acts_last ys xs acts_all) (cause_last fails before.1 xs causes) crowded_here out
              (subst (λ (l : List Item). Moves false l r ns xs q) before.2 move)),
        )
