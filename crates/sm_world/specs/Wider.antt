-- What is said for a cause on one stretch of the way of a site is said for a cause on a longer one.
use Rattle.std.proofs.Common.{◌≡◌, ◌⊎◌, inl, inr, ⊎_elim, ℕ, ◌≤◌, ◌-◌, ◌^◌, List, [], ◌++◌, Option, Some, None, sym, ◌∙◌, ap, subst, arith, append_assoc, append-nil}
use Rattle.std.proofs.lemmas.Bool.{cases_eq}
use Rattle.sm_model.specs.declared.entry.Entry.{Entry}
use Rattle.sm_site.specs.Clauses.{Both, Rose}
use Rattle.sm_site.specs.Meanings.{View, Item, SameLink}
use Rattle.sm_site.specs.Sites.{SameBut}
use Rattle.sm_world.specs.Replying.{Replaces, IsReplyTo, IsReplyFront, given}
use Rattle.sm_world.specs.Saying.{IsCrowdedSince, IsLonger, IsSaidBetween, IsSaidBy, TellsOn}
use Rattle.sm_world.specs.Went.{CameOf, GoesOut, IsAnsweredSince}
use Rattle.sm_world.specs.declared.acted.Acted.{Acted}
use Rattle.sm_world.specs.declared.acted.Acted.TheVariants as acted

-- ---- counts of faults

pub rose_wider : (low a b high : ℕ) → low ≤ a → b ≤ high → Rose a b → Rose low high
rose_wider low a b high from to rose =
    let later = rose.later in
    record {
      later = omega (arith, from, to, later);
      rose = λ last. ⊎_elim
          (λ (same : b ≡ 2 ^ 64 - 1). omega (arith, same, from, to, later, last))
          (λ (other : b ≡ 2 ^ 64 - 1 → ⊥). let up = rose.rose other in omega (arith, from, to, up))
          (cases_eq b (2 ^ 64 - 1));
    }

-- ---- transcripts

longer_same : (o : Option (List Item)) → Both o o IsLonger
longer_same None = tt
longer_same (Some items) = ([], sym (append-nil items))

-- two ways, one behind the other
both_then : (R S T : List Item → List Item → Type 0) (a b c : Option (List Item))
    → ((x y z : List Item) → R x y → S y z → T x z) → Both a b R → Both b c S → Both a c T
both_then R S T None None None so one two = tt
both_then R S T None None (Some z) so one two = two
both_then R S T None (Some y) None so one two = tt
both_then R S T None (Some y) (Some z) so one two = absurd one
both_then R S T (Some x) None None so one two = one
both_then R S T (Some x) None (Some z) so one two = absurd one
both_then R S T (Some x) (Some y) None so one two = two
both_then R S T (Some x) (Some y) (Some z) so one two = so x y z one two

longer_then : (a b c : Option (List Item)) → Both a b IsLonger → Both b c IsLonger → Both a c IsLonger
longer_then a b c one two = both_then IsLonger IsLonger IsLonger a b c
    (λ x y z first then. (first.0 ++ then.0, then.1 ∙ ap (λ (l : List Item). l ++ then.0) first.1 ∙ append_assoc x first.0 then.0)) one two

crowded_before : (a b c : Option (List Item)) → Both a b IsLonger → Both b c IsCrowdedSince → Both a c IsCrowdedSince
crowded_before a b c one two = both_then IsLonger IsCrowdedSince IsCrowdedSince a b c
    (λ x y z first w. (let same : y ++ w.until ≡ x ++ (first.0 ++ w.until)
    = ap (λ (l : List Item). l ++ w.until) first.1 ∙ append_assoc x first.0 w.until in record {
      until = first.0 ++ w.until;
      since = w.since;
      goes_on = w.goes_on ∙ ap (λ (l : List Item). l ++ w.since) same;
      before = w.before;
      stretch = w.stretch;
      ends = sym same ∙ w.ends;
      many = w.many;
    }))
    one two

crowded_behind : (a b c : Option (List Item)) → Both a b IsCrowdedSince → Both b c IsLonger → Both a c IsCrowdedSince
crowded_behind a b c one two = both_then IsCrowdedSince IsLonger IsCrowdedSince a b c
    (λ x y z w then. record {
      until = w.until;
      since = w.since ++ then.0;
      goes_on = then.1 ∙ ap (λ (l : List Item). l ++ then.0) w.goes_on ∙ append_assoc (x ++ w.until) w.since then.0;
      before = w.before;
      stretch = w.stretch;
      ends = w.ends;
      many = w.many;
    })
    one two

answered_before : (request bytes : List ℕ) (a b c : Option (List Item))
    → Both a b IsLonger → Both b c (IsAnsweredSince request bytes) → Both a c (IsAnsweredSince request bytes)
answered_before request bytes a b c one two = both_then IsLonger (IsAnsweredSince request bytes) (IsAnsweredSince request bytes) a b c
    (λ x y z first w. (let same : y ++ w.until ≡ x ++ (first.0 ++ w.until)
    = ap (λ (l : List Item). l ++ w.until) first.1 ∙ append_assoc x first.0 w.until in record {
      until = first.0 ++ w.until;
      stretch = w.stretch;
      since = w.since;
      goes_on = w.goes_on ∙ ap (λ (l : List Item). (l ++ w.stretch) ++ w.since) same;
      conn = w.conn;
      high = w.high;
      out = subst (λ (l : List Item). GoesOut w.conn request bytes l w.stretch) same w.out;
    }))
    one two

answered_behind : (request bytes : List ℕ) (a b c : Option (List Item))
    → Both a b (IsAnsweredSince request bytes) → Both b c IsLonger → Both a c (IsAnsweredSince request bytes)
answered_behind request bytes a b c one two = both_then (IsAnsweredSince request bytes) IsLonger (IsAnsweredSince request bytes) a b c
    (λ x y z w then. record {
      until = w.until;
      stretch = w.stretch;
      since = w.since ++ then.0;
      goes_on = then.1 ∙ ap (λ (l : List Item). l ++ then.0) w.goes_on ∙ append_assoc ((x ++ w.until) ++ w.stretch) w.since then.0;
      conn = w.conn;
      high = w.high;
      out = w.out;
    })
    one two

-- ---- views

pub tells_same : (v : View) → TellsOn v v
tells_same v = record { disk_faults = omega arith; link_faults = omega arith; transcript = longer_same v.transcript }

pub tells_then : (a b c : View) → TellsOn a b → TellsOn b c → TellsOn a c
tells_then a b c one two = record {
  disk_faults = (let x = one.disk_faults in let y = two.disk_faults in omega (arith, x, y));
  link_faults = (let x = one.link_faults in let y = two.link_faults in omega (arith, x, y));
  transcript = longer_then a.transcript b.transcript c.transcript one.transcript two.transcript;
}

longer_as : (a b : Option (List Item)) → b ≡ a → Both a b IsLonger
longer_as a b is = subst (λ (o : Option (List Item)). Both a o IsLonger) (sym is) (longer_same a)

-- all but the script stayed
pub tells_but : (a b : View) → SameBut a b → TellsOn a b
tells_but a b same = record {
  disk_faults = (let is = same.disk_faults in omega (arith, is));
  link_faults = (let is = same.link_faults in omega (arith, is));
  transcript = longer_as a.transcript b.transcript same.transcript;
}

-- the disk alone was called
pub tells_link : (a b : View) → a.disk_faults ≤ b.disk_faults → SameLink a b → TellsOn a b
tells_link a b no_fewer same = record {
  disk_faults = no_fewer;
  link_faults = (let is = same.link_faults in omega (arith, is));
  transcript = longer_as a.transcript b.transcript same.transcript;
}

-- ---- what is said

-- a disk that failed and a connection too many are so by anything that follows
pub replies_by : {f g c d : Type 0} (log : List Entry) (named bytes : List ℕ) → (f → g) → (c → d) → IsReplyTo f c log named bytes
    → IsReplyTo g d log named bytes
replies_by {f = f} {g = g} {c = c} {d = d} log named bytes fails crowds (says, is) = (by says, is)
  where
    by : (bytes ≡ given log named) ⊎ Replaces f c log named bytes → (bytes ≡ given log named) ⊎ Replaces g d log named bytes
    by (inl same) = inl same
    by (inr (inl none)) = inr (inl none)
    by (inr (inr (inl (text, so)))) = inr (inr (inl (text, crowds so)))
    by (inr (inr (inr (inl u)))) =
        inr (inr (inr (inl (record {
          address = u.address;
          place = u.place;
          fragment = u.fragment;
          asks = u.asks;
          kept = u.kept;
          why = fails u.why;
          reply_is = u.reply_is;
        }))))
    by (inr (inr (inr (inr refusal)))) = inr (inr (inr (inr refusal)))

front_by : {f g c d : Type 0} (log : List Entry) (named bytes : List ℕ) → (f → g) → (c → d) → IsReplyFront f c log named bytes
    → IsReplyFront g d log named bytes
front_by log named bytes fails crowds (reply, more, to, is) = (reply, more, replies_by log named reply fails crowds to, is)

-- what follows of these is said too
said_wider : {f g a b c d : Type 0} (log : List Entry) (request : List ℕ) (came : Acted) → (f → g) → (a → b) → (c → d)
    → IsSaidBy f a c log request came → IsSaidBy g b d log request came
said_wider log request acted.Unopened fails breaks crowds said = fails said
said_wider log request acted.Broken fails breaks crowds said = breaks said
said_wider log request acted.NoMemory fails breaks crowds said = tt
said_wider log request (acted.Sent bytes) fails breaks crowds said =
    λ host port named may text. front_by log named bytes fails crowds (said host port named may text)

pub said_between : (a b c d : View) → TellsOn a b → TellsOn c d → (log : List Entry) (request : List ℕ) (came : Acted)
    → IsSaidBetween b c log request came → IsSaidBetween a d log request came
said_between a b c d before behind log request came said =
    said_wider log request came
    (λ rose. rose_wider a.disk_faults b.disk_faults c.disk_faults d.disk_faults before.disk_faults behind.disk_faults rose)
    (λ rose. rose_wider a.link_faults b.link_faults c.link_faults d.link_faults before.link_faults behind.link_faults rose)
    (λ crowded. crowded_before a.transcript b.transcript d.transcript before.transcript
    (crowded_behind b.transcript c.transcript d.transcript crowded behind.transcript))
    said

-- ---- what came

pub came_between : (a b c d : View) → TellsOn a b → TellsOn c d → (request : List ℕ) (came : Acted) → CameOf b c request came → CameOf a d request came
came_between a b c d before behind request acted.Unopened went =
    rose_wider a.disk_faults b.disk_faults c.disk_faults d.disk_faults before.disk_faults behind.disk_faults went
came_between a b c d before behind request acted.Broken went =
    rose_wider a.link_faults b.link_faults c.link_faults d.link_faults before.link_faults behind.link_faults went
came_between a b c d before behind request acted.NoMemory went = tt
came_between a b c d before behind request (acted.Sent bytes) went =
    answered_before request bytes a.transcript b.transcript d.transcript before.transcript
    (answered_behind request bytes b.transcript c.transcript d.transcript went behind.transcript)
