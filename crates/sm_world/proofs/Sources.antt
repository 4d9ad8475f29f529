-- Where the fragments of a transcript come from.
use Rattle.std.proofs.Common.{◌≡◌, ⊎_elim, ℕ, Bool, true, false, ◌==◌, if◌then◌else◌, List, [], ◌∷◌, ◌++◌, refl, sym, ◌∙◌, ap, subst, append_assoc, arith}
use Rattle.std.specs.List.{Contains}
use Rattle.std.proofs.lemmas.List.Elements.{Contains-append_right, Contains-push_cases}
use Rattle.sm_model.specs.declared.fragment.Fragment.{Fragment}
use Rattle.sm_site.specs.Meanings.{Deal, Item, IsLive, open_after, open_from}
use Rattle.sm_site.specs.Meanings.Deal.{Began, Came, Left, Over, Sent, Shut}
use Rattle.sm_wire.specs.Wire.{IsWire}
use Rattle.sm_serve.specs.Connections.{received, received_from, received_after}
use Rattle.sm_world.specs.Pushed.{IsPushed}

-- ---- elements

pub in_none : {A : Type 0} (x : A) → Contains [] x → ⊥
in_none x there = omega (arith, there.1)

pub in_one : {A : Type 0} (y x : A) → Contains (y ∷ []) x → y ≡ x
in_one y x there = ⊎_elim (λ none. absurd (in_none x none)) (λ is. is) (Contains-push_cases [] y x there)

pub in_more : {A : Type 0} (y : A) (xs : List A) (x : A) → Contains xs x → Contains (y ∷ xs) x
in_more y xs x there = Contains-append_right (y ∷ []) xs x there

-- ---- later

pub pushed_later : (items more : List Item) (f : Fragment) → IsPushed items f → IsPushed (items ++ more) f
pushed_later items more f p = record {
  conn = p.conn;
  until = p.until;
  since = p.since ++ more;
  split = ap (λ (is : List Item). is ++ more) p.split ∙ append_assoc p.until p.since more;
  live = p.live;
  given = p.given;
  wire = p.wire;
  among = p.among;
}

-- ---- behind other entries

-- a connection that is open behind the items was opened in them, or was open before
open_more : (was now : Bool) (conn : ℕ) (items : List Item) → (was ≡ true → now ≡ true) → open_from was conn items ≡ true → open_from now conn items ≡ true
open_more was now conn [] so is = so is
open_more was now conn (item ∷ items) so is = open_more (open_after was conn item.deal) (open_after now conn item.deal) conn items (after item.deal) is
  where
    if_true : (b : Bool) → (if b then true else was) ≡ true → (if b then true else now) ≡ true
    if_true true e = refl
    if_true false e = so e

    if_false : (b : Bool) → (if b then false else was) ≡ true → (if b then false else now) ≡ true
    if_false true e = e
    if_false false e = so e

    after : (deal : Deal) → open_after was conn deal ≡ true → open_after now conn deal ≡ true
    after (Began n) e = if_true (n == conn) e
    after (Came n bytes) e = so e
    after (Left n) e = if_false (n == conn) e
    after Over e = so e
    after (Sent n bytes failed) e = so e
    after (Shut n) e = if_false (n == conn) e

open_append : (was : Bool) (conn : ℕ) (base items : List Item) → open_from was conn (base ++ items) ≡ open_from (open_from was conn base) conn items
open_append was conn [] items = refl
open_append was conn (item ∷ base) items = open_append (open_after was conn item.deal) conn base items

live_behind : (conn : ℕ) (base items : List Item) → IsLive conn items → IsLive conn (base ++ items)
live_behind conn base items live = open_append false conn base items ∙ open_more false (open_from false conn base) conn items (λ e. absurd (cc)) live

-- what it brought before it was opened doesn't count
received_same : (open_ : Bool) (conn : ℕ) (was now : List ℕ) (items : List Item) → (open_ ≡ true → was ≡ now) → open_from open_ conn items ≡ true
    → received_from conn was items ≡ received_from conn now items
received_same open_ conn was now [] so is = so is
received_same open_ conn was now (item ∷ items) so is =
    received_same (open_after open_ conn item.deal) conn (received_after conn was item.deal) (received_after conn now item.deal) items (after item.deal) is
  where
    began : (b : Bool) → (if b then true else open_) ≡ true → (if b then [] else was) ≡ (if b then [] else now)
    began true e = refl
    began false e = so e

    closed : (b : Bool) → (if b then false else open_) ≡ true → was ≡ now
    closed true e = absurd (cc)
    closed false e = so e

    after : (deal : Deal) → open_after open_ conn deal ≡ true → received_after conn was deal ≡ received_after conn now deal
    after (Began n) e = began (n == conn) e
    after (Came n bytes) e = ap (λ (bs : List ℕ). if n == conn then bs ++ bytes else bs) (so e)
    after (Left n) e = closed (n == conn) e
    after Over e = so e
    after (Sent n bytes failed) e = so e
    after (Shut n) e = closed (n == conn) e

received_append : (conn : ℕ) (was : List ℕ) (base items : List Item) → received_from conn was (base ++ items) ≡ received_from conn (received_from conn was base) items
received_append conn was [] items = refl
received_append conn was (item ∷ base) items = received_append conn (received_after conn was item.deal) base items

received_behind : (conn : ℕ) (base items : List Item) → IsLive conn items → received conn items ≡ received conn (base ++ items)
unfolding received
received_behind conn base items live =
    received_same false conn [] (received_from conn [] base) items (λ e. absurd (cc)) live ∙ sym (received_append conn [] base items)

pub pushed_behind : (base items : List Item) (f : Fragment) → IsPushed items f → IsPushed (base ++ items) f
pushed_behind base items f p = record {
  conn = p.conn;
  until = base ++ p.until;
  since = p.since;
  split = ap (λ (is : List Item). base ++ is) p.split ∙ sym (append_assoc base p.until p.since);
  live = live_behind p.conn base p.until p.live;
  given = p.given;
  wire = subst (λ (bytes : List ℕ). IsWire bytes p.given) (received_behind p.conn base p.until p.live) p.wire;
  among = p.among;
}
