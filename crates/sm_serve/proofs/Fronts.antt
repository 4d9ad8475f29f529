-- The front of a run up to a moment.
use Rattle.std.proofs.Common.{◌≡◌, ◌⊎◌, inl, inr, ⊎_elim, ℕ, ◌<◌, ◌≤◌, Bool, true, nat_le, if◌then◌else◌, List, [], ◌∷◌, ◌++◌, Some, refl, sym, ◌∙◌, ap, subst}
use Rattle.std.specs.Prelude.{slice_get}
use Rattle.std.proofs.lemmas.List.{append-nil}
use Rattle.std.proofs.lemmas.Bool.{cases_lt, le-leb, lt-leb}
use Rattle.sm_model.specs.declared.entry.Entry.{Entry}
use Rattle.sm_site.specs.Meanings.{Item}
use Rattle.sm_site.specs.Clauses.{Rose}
use Rattle.sm_wire.specs.Wire.{IsWire}
use Rattle.sm_origin.specs.Machine.{Machine, Step}
use Rattle.sm_origin.specs.Shown.{Claim}
use Rattle.sm_serve.specs.Connections.{received}
use Rattle.sm_serve.specs.Run.{Point, Stepped, Moves, opened, crowded, came, unread, passed, left, over, continues, acts_on, wants, done, sent, failed, unsent, shut, declared, recalled, Run, begins, goes_on}
use Rattle.sm_serve.specs.Moments.{machine_at}
use Rattle.sm_serve.specs.Shown.{requests_from, replies, until, Shown}
use Rattle.sm_serve.proofs.Answering.{HeldIn, AllBy, HeldBy, Core, WireLaws}
use Rattle.sm_serve.proofs.Adding.{Extends, and_then, step_adds}
use Rattle.sm_serve.proofs.Going.{machine_push}
use Rattle.sm_serve.proofs.Growing.{itself, Stays, StepsOn, kind_of, below, reached_by, not_reached}
use Rattle.sm_serve.proofs.Requests.{core_shows, answers_at}

abbrev Entries : List Item → Type 0
Entries es = (es ≡ []) ⊎ ((item : Item) × (es ≡ item ∷ []))

entries_of : (items : List Item) (p : Point) (es : List Item) (xs : List Stepped) (q : Point) → Moves true items p es xs q → Entries es
entries_of items p es xs q (opened m n phase few e none is) = inr (_, e)
entries_of items p es xs q (crowded m n phase many e none is) = inr (_, e)
entries_of items p es xs q (came m n bytes given more phase live e none one two is) = inr (_, e)
entries_of items p es xs q (unread m n bytes phase live e none is) = inr (_, e)
entries_of items p es xs q (passed m n bytes phase live e none is) = inr (_, e)
entries_of items p es xs q (left m n phase e none is) = inr (_, e)
entries_of items p es xs q (over m phase e none is) = inr (_, e)
entries_of items p es xs q (continues n more phase e none is) = inl e
entries_of items p es xs q (acts_on n item more act x phase does conn step e one is) = inl e
entries_of items p es xs q (wants n more phase e none is) = inl e
entries_of items p es xs q (done n phase e none is) = inl e
entries_of items p es xs q (sent m n bytes close more phase after e none is) = inr (_, e)
entries_of items p es xs q (failed m n k bytes close more phase after e none is) = inr (_, e)
entries_of items p es xs q (unsent n bytes close more phase e none is) = inl e
entries_of items p es xs q (shut m n phase e none is) = inr (_, e)
entries_of items p es xs q (declared header x phase conn step e one is) = inl e
entries_of items p es xs q (recalled a x phase conn step e one is) = inl e

-- up to a moment there are all the entries, or as many as before the last one
pub until_push : (t : ℕ) (items : List Item) (item : Item) → ((until t (items ++ item ∷ []) ≡ items ++ item ∷ []) × AllBy t (items ++ item ∷ [])) ⊎ (until t (items ++ item ∷ []) ≡ until t items)
until_push t [] item = go (cases_lt t item.moment)
  where
    go : (t < item.moment) ⊎ (item.moment ≤ t) → ((until t (item ∷ []) ≡ item ∷ []) × AllBy t (item ∷ [])) ⊎ (until t (item ∷ []) ≡ [])
    go (inl lt) = inr (ap (λ (b : Bool). if b then item ∷ [] else []) (lt-leb item.moment t lt))
    go (inr le) = inl (ap (λ (b : Bool). if b then item ∷ [] else []) (le-leb item.moment t le), (le, tt))
until_push t (x ∷ items) item = go (cases_lt t x.moment) (until_push t items item)
  where
    go : (t < x.moment) ⊎ (x.moment ≤ t) → ((until t (items ++ item ∷ []) ≡ items ++ item ∷ []) × AllBy t (items ++ item ∷ [])) ⊎ (until t (items ++ item ∷ []) ≡ until t items)
        → ((until t (x ∷ items ++ item ∷ []) ≡ x ∷ items ++ item ∷ []) × AllBy t (x ∷ items ++ item ∷ [])) ⊎ (until t (x ∷ items ++ item ∷ []) ≡ until t (x ∷ items))
    go (inl lt) rest = inr (ap (λ (b : Bool). if b then x ∷ until t (items ++ item ∷ []) else []) (lt-leb x.moment t lt) ∙ sym (ap (λ (b : Bool). if b then x ∷ until t items else []) (lt-leb x.moment t lt)))
    go (inr le) (inl (is, by)) = inl (ap (λ (b : Bool). if b then x ∷ until t (items ++ item ∷ []) else []) (le-leb x.moment t le) ∙ ap (λ (l : List Item). x ∷ l) is, (le, by))
    go (inr le) (inr is) = inr (ap (λ (l : List Item). if nat_le x.moment t then x ∷ l else []) is)

record Front (first : Machine) (begin faults : ℕ) (items : List Item) (steps : List Stepped) (t : ℕ) : Type 0 where
  entries : List Item
  entries_are : until t items ≡ entries
  earlier : List Stepped
  point : Point
  run : Run true first begin faults entries earlier point
  all_by : AllBy t entries
  extends : Extends (machine_at first earlier t) (machine_at first steps t)

-- the log behind a step begins with the one before it
pub steps_on : (p : Point) (x : Stepped) → x.before ≡ p.machine → Step (Rose x.faults x.faults_after) x.before x.act x.after x.reply → Extends p.machine x.after
steps_on p x from step = subst (λ (m : Machine). Extends m x.after) from (step_adds (Rose x.faults x.faults_after) x.before x.after x.act x.reply step)

pub steps_grow : (first : Machine) (begin faults : ℕ) (was : List Item) (ss : List Stepped) (p : Point) → Run true first begin faults was ss p → (xs : List Stepped) (q : Point) → Stays p xs q ⊎ StepsOn p xs q
    → (t : ℕ) → Extends (machine_at first ss t) (machine_at first (ss ++ xs) t)
steps_grow first begin faults was ss p run xs q (inl (none, same)) t =
    subst (λ (ys : List Stepped). Extends (machine_at first ss t) (machine_at first ys t)) (sym (ap (λ (ys : List Stepped). ss ++ ys) none ∙ append-nil ss)) (itself (machine_at first ss t))
steps_grow first begin faults was ss p run xs q (inr (x, one, from, step, to)) t =
    let at : machine_at first (ss ++ xs) t ≡ (if nat_le x.ends t then x.after else machine_at first ss t) = ap (λ (ys : List Stepped). machine_at first (ss ++ ys) t) one ∙ machine_push first ss x t in
    ⊎_elim
    (λ (early : t < x.ends). subst (λ (n : Machine). Extends (machine_at first ss t) n) (sym (at ∙ not_reached x.after (machine_at first ss t) x.ends t early)) (itself (machine_at first ss t)))
    (λ (late : x.ends ≤ t). subst (λ (n : Machine). Extends (machine_at first ss t) n) (sym (at ∙ reached_by x.after (machine_at first ss t) x.ends t late))
    (and_then (machine_at first ss t) p.machine x.after (below first begin faults was ss p run t) (steps_on p x from step)))
    (cases_lt t x.ends)

front : (first : Machine) (begin faults : ℕ) (items : List Item) (steps : List Stepped) (p : Point) → Run true first begin faults items steps p → (t : ℕ) → Front first begin faults items steps t
front first begin faults [] [] p begins t = record { entries = []; entries_are = refl; earlier = []; point = _; run = begins; all_by = tt; extends = itself first }
front first begin faults items steps q (goes_on was es items' ss xs steps' p q' run move now all) t = go (front first begin faults was ss p run t) (entries_of was p es xs q move)
  where
    longer : Extends (machine_at first ss t) (machine_at first steps t)
    longer = subst (λ (ys : List Stepped). Extends (machine_at first ss t) (machine_at first ys t)) (sym all) (steps_grow first begin faults was ss p run xs q (kind_of was p es xs q move) t)

    keeps : (f : Front first begin faults was ss t) → until t items ≡ until t was → Front first begin faults items steps t
    keeps f same = record {
      entries = f.entries;
      entries_are = same ∙ f.entries_are;
      earlier = f.earlier;
      point = f.point;
      run = f.run;
      all_by = f.all_by;
      extends = and_then (machine_at first f.earlier t) (machine_at first ss t) (machine_at first steps t) f.extends longer;
    }

    go : Front first begin faults was ss t → Entries es → Front first begin faults items steps t
    go f (inl none) = keeps f (ap (λ (l : List Item). until t l) (now ∙ ap (λ (l : List Item). was ++ l) none ∙ append-nil was))
    go f (inr (item, one)) = ⊎_elim
        (λ (whole : (until t (was ++ item ∷ []) ≡ was ++ item ∷ []) × AllBy t (was ++ item ∷ [])). let is : items ≡ was ++ item ∷ [] = now ∙ ap (λ (l : List Item). was ++ l) one in
        record {
          entries = items;
          entries_are = ap (λ (l : List Item). until t l) is ∙ whole.0 ∙ sym is;
          earlier = steps;
          point = q;
          run = goes_on was es items ss xs steps p q run move now all;
          all_by = subst (λ (l : List Item). AllBy t l) (sym is) whole.1;
          extends = itself (machine_at first steps t);
        })
        (λ (less : until t (was ++ item ∷ []) ≡ until t was). keeps f (ap (λ (l : List Item). until t l) (now ∙ ap (λ (l : List Item). was ++ l) one) ∙ less))
        (until_push t was item)

-- what stands of each connection along each run gives the law
pub runs_hold : ((log more : List Entry) (claim : Claim) → HeldIn log claim → HeldIn (log ++ more) claim) → WireLaws
    → ((first : Machine) (begin faults : ℕ) (items : List Item) (steps : List Stepped) (point : Point) → Run true first begin faults items steps point → (n : ℕ)
    → Core (HeldBy first items steps) point.machine.log (received n items) (replies n items))
    → (first : Machine) (begin faults : ℕ) (items : List Item) (steps : List Stepped) (point : Point) → Run true first begin faults items steps point
    → (t : ℕ) (claim : Claim) → Shown items t claim → HeldIn (machine_at first steps t).log claim
runs_hold longer laws stand first begin faults items steps point run t claim shown =
    let f = front first begin faults items steps point run t in
    let core = stand first begin faults f.entries f.earlier f.point f.run shown.conn in
    let sent : slice_get (replies shown.conn f.entries) shown.index ≡ Some shown.part = ap (λ (l : List Item). slice_get (replies shown.conn l) shown.index) (sym f.entries_are) ∙ shown.replied in
    let held = core_shows laws (HeldBy first f.entries f.earlier) f.point.machine.log (received shown.conn f.entries) (replies shown.conn f.entries) core
    shown.given (subst (λ (l : List Item). IsWire (received shown.conn l) shown.given) f.entries_are shown.wire)
    shown.request shown.part claim (answers_at (requests_from [] shown.given) (replies shown.conn f.entries) shown.index shown.request shown.part shown.asked sent) shown.is_well shown.shows in
    subst (λ (log : List Entry). HeldIn log claim) (sym f.extends.1) (longer (machine_at first f.earlier t).log f.extends.0 claim (held t f.all_by))
