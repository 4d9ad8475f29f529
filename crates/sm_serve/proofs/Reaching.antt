-- What a run reaches.
use Rattle.std.proofs.Common.{◌≡◌, ℕ, Bool, true, false, ◌||◌, if◌then◌else◌, List, [], ◌∷◌, Some, IsTrue, refl, sym, ◌∙◌, ap, subst}
use Rattle.sm_site.specs.Meanings.{Seen}
use Rattle.sm_model.specs.declared.act.Act.{Act}
use Rattle.sm_reply.specs.declared.reply.Reply.{Reply}
use Rattle.sm_origin.specs.Machine.{Machine}
use Rattle.sm_wire.specs.declared.item.WireItem.{WireItem}
use Rattle.sm_wire.specs.declared.item.WireItem.TheVariants.{Continue}
use Rattle.sm_origin.specs.declared.origin.Origin.{Origin}
use Rattle.sm_serve.specs.Standing.{StandsOn}
use Rattle.sm_serve.specs.Run.{Counts, Point, Phase, Moves, idle, acting, sending, in_phase, ladders, wants, continues, acts_on, act_of, closes, counts_after, set_counts, phase_after, sent_of, behind_step}
use Rattle.std.proofs.lemmas.Bool.{eq-eqb, ne_eqb}
use Rattle.sm_serve.specs.Connections.{received, live, deals_in}
use Rattle.sm_serve.specs.Standing.{History, GoesOn, Keeps, Follows, Reaches, is_told, stays_open}
use Rattle.sm_serve.specs.Resting.{counts_of}
use Rattle.sm_serve.specs.Giving.{IsAt, Comes}
use Rattle.sm_serve.specs.declared.handler.Handler.{Handler}
use Rattle.sm_serve.specs.declared.still.Still.{Still}
use Rattle.sm_serve.specs.declared.still.Still.TheVariants.{Open}
use Rattle.sm_serve.proofs.Lasting.{asked_push, on_itself, on_paused, on_stepped}
use Rattle.sm_serve.proofs.Sending.{follows_then}
use Rattle.sm_head.specs.declared.reply.TheConstants.{NO_MEMORY, CONTINUE}
use Rattle.sm_serve.proofs.Going.{Acted, stepped, silent_move, paused}

-- what was reached behind calls of the link
pub reached : {D : Type 0} (site : Seen D) (h later : History) (n : ℕ) (is_open : Bool) (e : D) (q : Point) (origin : Origin)
    → Keeps site later e → Follows n is_open h later → later.point ≡ q → q.machine ≡ h.point.machine → q.counts ≡ h.point.counts
    → StandsOn site h.point.machine origin e → Reaches site h n is_open q.phase (h.point.counts n) origin e
reached site h later n is_open e q origin keeps follows is machine counts stands = record {
  later = later;
  keeps = keeps;
  stands = subst (λ (m : Machine). StandsOn site m origin e) (sym (ap (λ (p : Point). p.machine) is ∙ machine)) stands;
  follows = follows;
  phase_is = ap (λ (p : Point). p.phase) is;
  counts_are = λ open_. ap (λ (p : Point). p.counts n) is ∙ ap (λ (f : ℕ → Counts). f n) counts;
}

pub follows_itself : (n : ℕ) (h k : History) → k.first ≡ h.first → k.begin ≡ h.begin → k.base ≡ h.base → k.found ≡ h.found → k.items ≡ h.items → GoesOn h k
    → ((j : ℕ) → (j ≡ n → ⊥) → k.point.counts j ≡ h.point.counts j) → ladders k.steps ≡ ladders h.steps
    → Follows n true h k
follows_itself n h k first begin base found items on counts no_ladder = record {
  first = first;
  begin = begin;
  base = base;
  found = found;
  on = on;
  received = λ j. ap (received j) items;
  deals = ap deals_in items;
  live = ap live items;
  counts = counts;
  no_ladder = no_ladder;
}

module _ {D : Type 0} (site : Seen D) where
  -- a history that goes on, and then reaches
  pub reach_then : (h k : History) (n : ℕ) (is_open : Bool) (phase : Phase) (counts all : Counts) (origin : Origin) (e : D)
      → Follows n true h k → Reaches site k n is_open phase counts origin e → (IsTrue is_open → counts ≡ all) → Reaches site h n is_open phase all origin e
  reach_then h k n is_open phase counts all origin e follows reaches same = record {
    later = reaches.later;
    keeps = reaches.keeps;
    stands = reaches.stands;
    follows = follows_then n is_open h k reaches.later follows reaches.follows;
    phase_is = reaches.phase_is;
    counts_are = λ t. reaches.counts_are t ∙ same t;
  }

  pub other_counts : (n j : ℕ) (new : Counts) (counts : ℕ → Counts) → (j ≡ n → ⊥) → set_counts n new counts j ≡ counts j
  other_counts n j new counts other = ap (λ (b : Bool). if b then new else counts j) (ne_eqb j n other)

  pub these_counts : (n : ℕ) (new : Counts) (counts : ℕ → Counts) → set_counts n new counts n ≡ new
  these_counts n new counts = ap (λ (b : Bool). if b then new else counts n) (eq-eqb n n refl)

  -- one act, one step
  module _ (h : History) (e : D) (origin : Origin) (act : Act) (reply : Reply) (n : ℕ) (item : WireItem) (more : List WireItem)
      (acted : Acted site h e (Some n) act reply origin) (phase : h.point.phase ≡ acting n (item ∷ more)) (does : act_of (h.point.counts n) item ≡ Some act) where
    abbrev pub point_of : Point
    point_of = behind_step h.point n item more acted.x

    abbrev pub behind : History
    behind = stepped site h acted.x point_of

    pub behind_keeps : Keeps site behind e
    behind_keeps = acted.keeps point_of (acts_on n item more act acted.x phase does acted.conn_is acted.is_step refl refl refl) refl refl refl refl

    pub behind_follows : Follows n true h behind
    behind_follows = follows_itself n h behind refl refl refl refl refl
        (on_stepped (is_told (site.view e)) h acted.x point_of (acts_on n item more act acted.x phase does acted.conn_is acted.is_step refl refl refl))
        (λ j other. other_counts n j _ h.point.counts other) (asked_push h.steps acted.x n acted.conn_is)

    pub behind_counts : behind.point.counts n ≡ counts_after item reply.counted (h.point.counts n)
    behind_counts = these_counts n _ h.point.counts ∙ ap (λ (r : Reply). counts_after item r.counted (h.point.counts n)) acted.reply_is

    pub behind_phase : (close : Bool) → closes item ≡ close → behind.point.phase ≡ phase_after n (sent_of reply) (reply.close || close) more
    behind_phase close is = ap (λ (r : Reply). phase_after n (sent_of r) (r.close || closes item) more) acted.reply_is ∙ ap (λ (b : Bool). phase_after n (sent_of reply) (reply.close || b) more) is

  -- the counts of a closed connection don't matter
  pub closed_counts : (h : History) (n : ℕ) (phase : Phase) (counts all : Counts) (origin : Origin) (e : D) → Reaches site h n false phase counts origin e → Reaches site h n false phase all origin e
  closed_counts h n phase counts all origin e reaches = record {
    later = reaches.later;
    keeps = reaches.keeps;
    stands = reaches.stands;
    follows = reaches.follows;
    phase_is = reaches.phase_is;
    counts_are = λ t. absurd (cc);
  }

  -- want of memory in place of what comes next
  pub starving : (h : History) (d : D) (n : ℕ) (more : List WireItem) → Keeps site h d → h.point.phase ≡ acting n more
      → Keeps site (paused site h (in_phase h.point (sending n NO_MEMORY.now true []))) d
  starving h d n more keeps phase = silent_move site h d (in_phase h.point (sending n NO_MEMORY.now true [])) keeps (wants n more phase refl refl refl) refl refl refl refl

  pub paused_follows : (h : History) (n : ℕ) (phase : Phase) → Moves false h.items h.point [] [] (in_phase h.point phase) → Follows n true h (paused site h (in_phase h.point phase))
  paused_follows h n phase move = follows_itself n h (paused site h (in_phase h.point phase)) refl refl refl refl refl (on_paused false h (in_phase h.point phase) move) (λ j other. refl) refl

  -- the head 100 is due
  pub continuing : (h : History) (d : D) (n : ℕ) (more : List WireItem) → Keeps site h d → h.point.phase ≡ acting n (Continue ∷ more)
      → Keeps site (paused site h (in_phase h.point (sending n CONTINUE.now false more))) d
  continuing h d n more keeps phase = silent_move site h d (in_phase h.point (sending n CONTINUE.now false more)) keeps (continues n more phase refl refl refl) refl refl refl refl

-- what a run has reached without a move
pub reached_here : {D : Type 0} (site : Seen D) (h : History) (n : ℕ) (phase : Phase) (counts : Counts)
    (origin : Origin) (d : D) → Keeps site h d → StandsOn site h.point.machine origin d → h.point.phase ≡ phase → h.point.counts n ≡ counts
    → Reaches site h n true phase counts origin d
reached_here site h n phase counts origin d keeps stands phase_is counts_are = record {
  later = h;
  keeps = keeps;
  stands = stands;
  follows = record {
    first = refl;
    begin = refl;
    base = refl;
    found = refl;
    on = on_itself h;
    received = λ j. refl;
    deals = refl;
    live = refl;
    counts = λ j other. refl;
    no_ladder = refl;
  };
  phase_is = phase_is;
  counts_are = λ t. counts_are;
}

-- ---- what a handler comes to

module _ {D : Type 0} (site : Seen D) where
  -- nothing was done
  pub comes_here : (h : History) (items : List WireItem) (old : Handler D) → IsAt site h items old → Comes site h old.live.now.number Open items old
  comes_here h items old at =
      reached_here site h old.live.now.number (acting old.live.now.number items) (counts_of old.live.now) old.origin.now old.site.now at.keeps at.stands at.phase at.counts

  -- the run stands in front of the items that it came to
  pub comes_at : (h : History) (n : ℕ) (items : List WireItem) (mid : Handler D) → mid.live.now.number ≡ n → (was : Comes site h n Open items mid) → IsAt site was.later items mid
  comes_at h n items mid same was = record {
    keeps = was.keeps;
    stands = was.stands;
    phase = was.phase_is ∙ ap (λ (m : ℕ). acting m items) (sym same);
    counts = ap was.later.point.counts same ∙ was.counts_are refl;
  }

  -- and goes on from there
  pub comes_then : (h : History) (n : ℕ) (r : Still) (items more : List WireItem) (mid new : Handler D) → mid.live.now.number ≡ n → Comes site h n Open items mid
      → ((k : History) → IsAt site k items mid → Comes site k mid.live.now.number r more new) → Comes site h n r more new
  comes_then h n r items more mid new same was so =
      reach_then site h was.later n (stays_open r) (if stays_open r then acting n more else idle) (counts_of new.live.now) (counts_of new.live.now) new.origin.now new.site.now was.follows
      (subst (λ (m : ℕ). Comes site was.later m r more new) same (so was.later (comes_at h n items mid same was))) (λ t. refl)
