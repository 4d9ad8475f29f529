-- What a run keeps was pushed.
use Rattle.std.proofs.Common.{◌≡◌, ℕ, Bool, true, false, ◌||◌, if◌then◌else◌, List, [], ◌∷◌, ◌++◌, Option, None, Some, refl, sym, ◌∙◌, ap, subst, arith}
use Rattle.std.specs.List.{Contains}
use Rattle.std.proofs.lemmas.List.{append-nil}
use Rattle.std.proofs.lemmas.Bool.{eq-eqb}
use Rattle.std.proofs.lemmas.List.Elements.{Contains-append_right}
use Rattle.sm_model.specs.declared.act.Act.{Act}
use Rattle.sm_model.specs.declared.entry.Entry.TheVariants.{Declare, Keep}
use Rattle.sm_model.specs.declared.fragment.Fragment.{Fragment}
use Rattle.sm_model.specs.declared.target.Target.{Target}
use Rattle.sm_model.specs.declared.target.Target.TheVariants as targets
use Rattle.sm_site.specs.Clauses.{Rose}
use Rattle.sm_site.specs.Meanings.{Item}
use Rattle.sm_site.specs.Meanings.Deal.{Came}
use Rattle.sm_wire.specs.declared.item.WireItem.{WireItem}
use Rattle.sm_wire.specs.declared.item.WireItem.TheVariants as item
use Rattle.sm_wire.specs.Wire.{IsWire}
use Rattle.sm_origin.specs.Machine.{Machine, entry_of}
use Rattle.sm_serve.specs.Connections.{received, live, is_among}
use Rattle.sm_serve.specs.Run.{Counts, Phase, idle, acting, sending, shutting, Point, Stepped, IsStep, act_of, act_of_target, phase_after, sent_of, closes, at, Moves, Run, begins, goes_on}
use Rattle.sm_serve.specs.Run.{opened, crowded, came, unread, passed, left, over, continues, acts_on, wants, done, sent, failed, unsent, shut, declared, recalled}
use Rattle.sm_serve.proofs.Transcripts.{received_push, live_push}
use Rattle.sm_serve.proofs.Events.{live_is_open}
use Rattle.sm_world.specs.Pushed.{IsPushed}
use Rattle.sm_world.proofs.Sources.{in_none, in_more, pushed_later}
use Rattle.sm_world.proofs.Entries.{Comes, comes_later, Pushes, no_entry, step_comes}

-- ---- points

-- the fragments that are still to be acted on were pushed
abbrev AllPushed : List Item → List WireItem → Type 0
AllPushed items todo = (f : Fragment) → Contains todo (item.Frag f) → IsPushed items f

abbrev Awaits : List Item → Phase → Type 0
Awaits items idle = Unit {0}
Awaits items (acting n todo) = AllPushed items todo
Awaits items (sending n bytes close todo) = AllPushed items todo
Awaits items (shutting n) = Unit {0}

pub record Stood (first : Machine) (items : List Item) (p : Point) : Type 0 where
  pub comes : Comes items first p.machine
  pub awaits : Awaits items p.phase

nothing_left : (items : List Item) → AllPushed items []
nothing_left items f there = absurd (in_none (item.Frag f) there)

all_later : (items es : List Item) (todo : List WireItem) → AllPushed items todo → AllPushed (items ++ es) todo
all_later items es todo all f there = pushed_later items es f (all f there)

all_but_first : (items : List Item) (x : WireItem) (todo : List WireItem) → AllPushed items (x ∷ todo) → AllPushed items todo
all_but_first items x todo all f there = all f (in_more x todo (item.Frag f) there)

-- behind a step, whatever is sent
behind_item : (items : List Item) (n : ℕ) (sent : Option (List ℕ)) (close : Bool) (todo : List WireItem) → AllPushed items todo → Awaits items (phase_after n sent close todo)
behind_item items n None true todo all = tt
behind_item items n None false todo all = all
behind_item items n (Some bytes) close todo all = all

behind_sent : (items : List Item) (n : ℕ) (close : Bool) (todo : List WireItem) → AllPushed items todo → Awaits items (if close then shutting n else acting n todo)
behind_sent items n true todo all = tt
behind_sent items n false todo all = all

-- what an item adds was pushed
target_adds_none : (target : Target) → entry_of (act_of_target target) ≡ None
target_adds_none targets.Manifest = refl
target_adds_none (targets.Fragment a) = refl
target_adds_none (targets.Streams name) = refl
target_adds_none targets.Unknown = refl

first_of : (items : List Item) (g : Fragment) (todo : List WireItem) → AllPushed items (item.Frag g ∷ todo) → Pushes items (Some (Keep g))
first_of items g todo all f is =
    let same : g ≡ f = cc in
    all f (0, omega arith, ap (λ (h : Fragment). item.Frag h) same)

adds : (items : List Item) (counts : Counts) (x : WireItem) (todo : List WireItem) (act act' : Act) → AllPushed items (x ∷ todo) → act_of counts x ≡ Some act → act' ≡ act
    → Pushes items (entry_of act')
adds items counts item.Continue todo act act' all does same = absurd (cc)
adds items counts (item.Get target close) todo act act' all does same =
    let is : act_of_target target ≡ act' = cc in
    no_entry items (entry_of act') (sym (ap entry_of is) ∙ target_adds_none target)
adds items counts (item.Header channel) todo act act' all does same = λ f is. absurd (cc)
adds items counts (item.Frag g) todo act act' all does same =
    let is : Some (Keep g) ≡ entry_of act' = cc in
    λ f e. first_of items g todo all f (is ∙ e)
adds items counts (item.End close) todo act act' all does same = λ f is. absurd (cc)
adds items counts (item.Refuse r) todo act act' all does same = λ f is. absurd (cc)

came_pushed : (items : List Item) (m n : ℕ) (bytes : List ℕ) (given more : List WireItem) → is_among n (live items) ≡ true → IsWire (received n items ++ bytes) (given ++ more)
    → AllPushed (items ++ at m (Came n bytes)) more
came_pushed items m n bytes given more among wire f there = record {
  conn = n;
  until = items ++ at m (Came n bytes);
  since = [];
  split = sym (append-nil (items ++ at m (Came n bytes)));
  live = live_is_open n [] (items ++ at m (Came n bytes)) (ap (is_among n) (live_push items (record { moment = m; deal = Came n bytes })) ∙ among);
  given = given ++ more;
  wire = subst (λ (b : List ℕ). IsWire b (given ++ more)) (sym (received_push n items (record { moment = m; deal = Came n bytes })
      ∙ ap (λ (b : Bool). if b then received n items ++ bytes else received n items) (eq-eqb n n refl))) wire;
  among = Contains-append_right given more (item.Frag f) there;
}

module _ (first : Machine) (items : List Item) (p : Point) (es : List Item) (xs : List Stepped) (q : Point) (s : Stood first items p) where
  -- where no step was made
  silent : (phase : Phase) (counts : ℕ → Counts) (ended failed_ faults : ℕ) → q ≡ record { machine = p.machine; counts = counts; phase = phase; ended = ended; failed = failed_; faults = faults } → Awaits (items ++ es) phase
      → Stood first (items ++ es) q
  silent phase counts ended failed_ faults is awaits =
      subst (Stood first (items ++ es)) (sym is) (record { comes = comes_later items es first p.machine s.comes; awaits = awaits })

  left_of : (n : ℕ) (todo : List WireItem) → p.phase ≡ acting n todo → AllPushed items todo
  left_of n todo phase = subst (Awaits items) phase s.awaits

  left_sending : (n : ℕ) (bytes : List ℕ) (close : Bool) (todo : List WireItem) → p.phase ≡ sending n bytes close todo → AllPushed items todo
  left_sending n bytes close todo phase = subst (Awaits items) phase s.awaits

  -- where one was made
  acted : (act : Act) (x : Stepped) (phase : Phase) (counts : ℕ → Counts) (ended failed_ faults : ℕ) → IsStep true p act x → Pushes items (entry_of x.act)
      → q ≡ record { machine = x.after; counts = counts; phase = phase; ended = ended; failed = failed_; faults = faults } → Awaits (items ++ es) phase → Stood first (items ++ es) q
  acted act x phase counts ended failed_ faults step pushes is awaits =
      let before : Comes items first x.before = subst (Comes items first) (sym step.before_is) s.comes in
      let after = step_comes items first (Rose x.faults x.faults_after) x.before x.after x.act x.reply pushes (step.machine refl).step before in
      subst (Stood first (items ++ es)) (sym is) (record { comes = comes_later items es first x.after after; awaits = awaits })

  stands_on : Moves true items p es xs q → Stood first (items ++ es) q
  stands_on (opened m n phase few e none is) = silent _ _ _ _ _ is (nothing_left (items ++ es))
  stands_on (crowded m n phase many e none is) = silent _ _ _ _ _ is (nothing_left (items ++ es))
  stands_on (came m n bytes given more phase among e none one two is) =
      silent _ _ _ _ _ is (subst (λ (ys : List Item). AllPushed (items ++ ys) more) (sym e) (came_pushed items m n bytes given more among two))
  stands_on (unread m n bytes phase among e none is) = silent _ _ _ _ _ is (nothing_left (items ++ es))
  stands_on (passed m n bytes phase among e none is) = silent _ _ _ _ _ is tt
  stands_on (left m n phase e none is) = silent _ _ _ _ _ is tt
  stands_on (over m phase e none is) = silent _ _ _ _ _ is tt
  stands_on (continues n more phase e none is) =
      silent _ _ _ _ _ is (all_later items es more (all_but_first items item.Continue more (left_of n (item.Continue ∷ more) phase)))
  stands_on (acts_on n x more act step phase does conn is_step e one is) =
      let all = left_of n (x ∷ more) phase in
      acted act step _ _ _ _ _ is_step (adds items (p.counts n) x more act step.act all does is_step.act_is) is
      (behind_item (items ++ es) n (sent_of step.reply) (step.reply.close || closes x) more (all_later items es more (all_but_first items x more all)))
  stands_on (wants n more phase e none is) = silent _ _ _ _ _ is (nothing_left (items ++ es))
  stands_on (done n phase e none is) = silent _ _ _ _ _ is tt
  stands_on (sent m n bytes close more phase after e none is) =
      silent _ _ _ _ _ is (behind_sent (items ++ es) n close more (all_later items es more (left_sending n bytes close more phase)))
  stands_on (failed m n k bytes close more phase after e none is) = silent _ _ _ _ _ is tt
  stands_on (unsent n bytes close more phase e none is) = silent _ _ _ _ _ is tt
  stands_on (shut m n phase e none is) = silent _ _ _ _ _ is tt
  stands_on (declared header step phase conn is_step e one is) =
      acted _ step _ _ _ _ _ is_step (λ f some. absurd (let bad : Some (Declare header) ≡ Some (Keep f) = sym (ap entry_of is_step.act_is) ∙ some in cc)) is tt
  stands_on (recalled a step phase conn is_step e one is) =
      acted _ step _ _ _ _ _ is_step (λ f some. absurd (let bad : None ≡ Some (Keep f) = sym (ap entry_of is_step.act_is) ∙ some in cc)) is tt

pub stood : (first : Machine) (begin faults : ℕ) (items : List Item) (steps : List Stepped) (p : Point) → first.doubt ≡ None → Run true first begin faults items steps p → Stood first items p
stood first begin faults [] [] p none begins = record {
  comes = record { more = []; log_is = sym (append-nil first.log); pushed = λ f there. absurd (in_none (Keep f) there); doubted = no_entry [] first.doubt none };
  awaits = tt;
}
stood first begin faults items steps q none (goes_on was es items' ss xs steps' p q' run move now all) =
    subst (λ (is : List Item). Stood first is q) (sym now) (stands_on first was p es xs q (stood first begin faults was ss p none run) move)
