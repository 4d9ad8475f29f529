-- Histories that go on.
use Rattle.std.proofs.Common.{◌≡◌, ℕ, Bool, false, List, [], ◌∷◌, ◌++◌, Option, Some, None, refl, sym, ◌∙◌, ap, subst, append_assoc}
use Rattle.std.proofs.lemmas.List.{append-nil}
use Rattle.sm_site.specs.Meanings.{Item}
use Rattle.sm_model.specs.declared.act.Act.{Act}
use Rattle.sm_model.specs.declared.act.Act.TheVariants as acts
use Rattle.sm_model.specs.declared.address.Address.{Address}
use Rattle.sm_model.specs.declared.track.Track.{Track}
use Rattle.sm_serve.specs.Run.{Point, Stepped, Moves, opened, crowded, came, unread, passed, left, over, continues, acts_on, wants, done, sent, failed, unsent, shut, declared, recalled, ladder_in, ladders, LeadsTo, rests, moves_on}
use Rattle.sm_serve.specs.Standing.{History, GoesOn, moved}

-- ---- what leads to what

-- a move, where nothing is said of whether the disk tells its contents
pub untold : (told : Bool) (items : List Item) (p : Point) (es : List Item) (xs : List Stepped) (q : Point) → Moves told items p es xs q → Moves false items p es xs q
untold told items p es xs q (opened m n phase few e none is) = opened m n phase few e none is
untold told items p es xs q (crowded m n phase many e none is) = crowded m n phase many e none is
untold told items p es xs q (came m n bytes given more phase live e none one two is) = came m n bytes given more phase live e none one two is
untold told items p es xs q (unread m n bytes phase live e none is) = unread m n bytes phase live e none is
untold told items p es xs q (passed m n bytes phase live e none is) = passed m n bytes phase live e none is
untold told items p es xs q (left m n phase e none is) = left m n phase e none is
untold told items p es xs q (over m phase e none is) = over m phase e none is
untold told items p es xs q (continues n more phase e none is) = continues n more phase e none is
untold told items p es xs q (acts_on n item more act x phase does conn step e one is) =
    acts_on n item more act x phase does conn (record { act_is = step.act_is; before_is = step.before_is; faults_is = step.faults_is; no_fewer = step.no_fewer; machine = λ has. absurd (cc) }) e one is
untold told items p es xs q (wants n more phase e none is) = wants n more phase e none is
untold told items p es xs q (done n phase e none is) = done n phase e none is
untold told items p es xs q (sent m n bytes close more phase after e none is) = sent m n bytes close more phase (λ has. absurd (cc)) e none is
untold told items p es xs q (failed m n k bytes close more phase after e none is) = failed m n k bytes close more phase (λ has. absurd (cc)) e none is
untold told items p es xs q (unsent n bytes close more phase e none is) = unsent n bytes close more phase e none is
untold told items p es xs q (shut m n phase e none is) = shut m n phase e none is
untold told items p es xs q (declared header x phase conn step e one is) =
    declared header x phase conn (record { act_is = step.act_is; before_is = step.before_is; faults_is = step.faults_is; no_fewer = step.no_fewer; machine = λ has. absurd (cc) }) e one is
untold told items p es xs q (recalled a x phase conn step e one is) =
    recalled a x phase conn (record { act_is = step.act_is; before_is = step.before_is; faults_is = step.faults_is; no_fewer = step.no_fewer; machine = λ has. absurd (cc) }) e one is

leads_here : (items : List Item) (steps : List Stepped) (p : Point) → LeadsTo items steps p items steps p
leads_here items steps p = rests items steps p refl refl refl

leads_by : (told : Bool) (items es : List Item) (steps xs : List Stepped) (p q : Point) → Moves told items p es xs q → LeadsTo items steps p (items ++ es) (steps ++ xs) q
leads_by told items es steps xs p q move = moves_on items es (items ++ es) steps xs (steps ++ xs) p q (leads_here items steps p) (untold told items p es xs q move) refl refl

leads_then : (items was : List Item) (steps ss : List Stepped) (p r : Point) (now : List Item) (all : List Stepped) (q : Point) → LeadsTo items steps p was ss r → LeadsTo was ss r now all q → LeadsTo items steps p now all q
leads_then items was steps ss p r now all q one (rests now' all' q' a b c) =
    subst (λ (l : List Item). LeadsTo items steps p l all q) (sym a)
    (subst (λ (ys : List Stepped). LeadsTo items steps p was ys q) (sym b) (subst (λ (point : Point). LeadsTo items steps p was ss point) (sym c) one))
leads_then items was steps ss p r now all q one (moves_on mid es now' ys xs all' s q' two move a b) =
    moves_on mid es now ys xs all s q (leads_then items was steps ss p r mid ys s one two) move a b

-- ---- histories

pub on_itself : (h : History) → GoesOn h h
on_itself h = record {
  entries = [];
  items = sym (append-nil h.items);
  further = [];
  steps = sym (append-nil h.steps);
  path = leads_here h.items h.steps h.point;
}

-- a move without an entry and without a step
pub on_paused : (told : Bool) (h : History) (q : Point) → Moves told h.items h.point [] [] q → GoesOn h (record h { point = q })
on_paused told h q move = record {
  entries = [];
  items = sym (append-nil h.items);
  further = [];
  steps = sym (append-nil h.steps);
  path = subst (λ (l : List Item). LeadsTo h.items h.steps h.point l h.steps q) (append-nil h.items)
      (subst (λ (ys : List Stepped). LeadsTo h.items h.steps h.point (h.items ++ []) ys q) (append-nil h.steps) (leads_by told h.items [] h.steps [] h.point q move));
}

pub on_moved : (told : Bool) (h : History) (es : List Item) (q : Point) → Moves told h.items h.point es [] q → GoesOn h (moved h es q)
on_moved told h es q move = record {
  entries = es;
  items = refl;
  further = [];
  steps = sym (append-nil h.steps);
  path = subst (λ (ys : List Stepped). LeadsTo h.items h.steps h.point (h.items ++ es) ys q) (append-nil h.steps) (leads_by told h.items es h.steps [] h.point q move);
}

pub on_stepped : (told : Bool) (h : History) (x : Stepped) (q : Point) → Moves told h.items h.point [] (x ∷ []) q → GoesOn h (record h { steps = h.steps ++ x ∷ []; point = q })
on_stepped told h x q move = record {
  entries = [];
  items = sym (append-nil h.items);
  further = x ∷ [];
  steps = refl;
  path = subst (λ (l : List Item). LeadsTo h.items h.steps h.point l (h.steps ++ x ∷ []) q) (append-nil h.items) (leads_by told h.items [] h.steps (x ∷ []) h.point q move);
}

pub on_then : (h k l : History) → GoesOn h k → GoesOn k l → GoesOn h l
on_then h k l one two = record {
  entries = one.entries ++ two.entries;
  items = two.items ∙ ap (λ (is : List Item). is ++ two.entries) one.items ∙ append_assoc h.items one.entries two.entries;
  further = one.further ++ two.further;
  steps = two.steps ∙ ap (λ (xs : List Stepped). xs ++ two.further) one.steps ∙ append_assoc h.steps one.further two.further;
  path = leads_then h.items k.items h.steps k.steps h.point k.point l.items l.steps l.point one.path two.path;
}

pub on_behind : (told : Bool) (h k : History) (es : List Item) (q : Point) → Moves told h.items h.point es [] q → GoesOn (moved h es q) k → GoesOn h k
on_behind told h k es q move on = on_then h (moved h es q) k (on_moved told h es q move) on

-- ---- ladders

-- a step that declares no ladder
ladders_push : (xs : List Stepped) (x : Stepped) → ladder_in x.conn x.act ≡ [] → ladders (xs ++ x ∷ []) ≡ ladders xs
ladders_push [] x e = ap (λ (l : List (List Track)). l ++ []) e
ladders_push (y ∷ ys) x e = ap (λ (l : List (List Track)). ladder_in y.conn y.act ++ l) (ladders_push ys x e)

-- one that a connection asks for
pub asked_push : (xs : List Stepped) (x : Stepped) (n : ℕ) → x.conn ≡ Some n → ladders (xs ++ x ∷ []) ≡ ladders xs
asked_push xs x n conn = ladders_push xs x (ap (λ (c : Option ℕ). ladder_in c x.act) conn)

-- one that reads back
pub recalled_push : (xs now : List Stepped) (x : Stepped) (a : Address) → now ≡ xs ++ x ∷ [] → x.conn ≡ None → x.act ≡ acts.Fragment a → ladders now ≡ ladders xs
recalled_push xs now x a is conn act =
    ap (λ (l : List Stepped). ladders l) is ∙ ladders_push xs x (ap (λ (c : Option ℕ). ladder_in c x.act) conn ∙ ap (λ (t : Act). ladder_in None t) act)
