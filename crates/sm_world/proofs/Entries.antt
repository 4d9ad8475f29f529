-- What a step keeps was pushed.
use Rattle.std.proofs.Common.{◌≡◌, ◌⊎◌, inl, inr, ⊎_elim, List, [], ◌∷◌, ◌++◌, Option, None, Some, sym, ◌∙◌, ap, append_assoc}
use Rattle.std.specs.List.{Contains}
use Rattle.std.proofs.lemmas.List.Elements.{Contains-append_cases}
use Rattle.sm_model.specs.declared.act.Act.{Act}
use Rattle.sm_model.specs.declared.entry.Entry.{Entry}
use Rattle.sm_model.specs.declared.entry.Entry.TheVariants.{Keep}
use Rattle.sm_model.specs.declared.fragment.Fragment.{Fragment}
use Rattle.sm_site.specs.Meanings.{Item}
use Rattle.sm_reply.specs.declared.reply.Reply.{Reply}
use Rattle.sm_origin.specs.Machine.{Machine, SameLog, entry_of, Writes, refused, there, full, kept, unwritten, Clear, Row, answered, unread, unsettled, wrote, Step, row, wants, untold}
use Rattle.sm_world.specs.Pushed.{IsPushed}
use Rattle.sm_world.proofs.Sources.{in_one, pushed_later}

-- what the machine has beyond the first one, and what is in doubt, was pushed
pub record Comes (items : List Item) (first m : Machine) : Type 0 where
  pub more : List Entry
  pub log_is : m.log ≡ first.log ++ more
  pub pushed : (f : Fragment) → Contains more (Keep f) → IsPushed items f
  pub doubted : (f : Fragment) → m.doubt ≡ Some (Keep f) → IsPushed items f

pub comes_later : (items es : List Item) (first m : Machine) → Comes items first m → Comes (items ++ es) first m
comes_later items es first m c = record {
  more = c.more;
  log_is = c.log_is;
  pushed = λ f there. pushed_later items es f (c.pushed f there);
  doubted = λ f is. pushed_later items es f (c.doubted f is);
}

-- an entry that may be new
abbrev pub Pushes : List Item → Option Entry → Type 0
Pushes items o = (f : Fragment) → o ≡ Some (Keep f) → IsPushed items f

pub no_entry : (items : List Item) (o : Option Entry) → o ≡ None → Pushes items o
no_entry items o none f is = absurd (let bad : Some (Keep f) ≡ None = sym is ∙ none in cc)

module _ (items : List Item) (first : Machine) where
  same : (m n : Machine) → SameLog m n → Comes items first m → Comes items first n
  same m n is c = record { more = c.more; log_is = is.log ∙ c.log_is; pushed = c.pushed; doubted = λ f some. c.doubted f (sym is.doubt ∙ some) }

  -- the log goes on by one entry, or stays; and this may be in doubt
  with_entry : (m n : Machine) (e : Entry) → Comes items first m → Pushes items (Some e) → n.log ≡ m.log ++ e ∷ [] → Pushes items n.doubt → Comes items first n
  with_entry m n e c pushes log doubted = record {
    more = c.more ++ e ∷ [];
    log_is = log ∙ ap (λ (l : List Entry). l ++ e ∷ []) c.log_is ∙ append_assoc first.log c.more (e ∷ []);
    pushed = λ f there. ⊎_elim (c.pushed f) (λ last. pushes f (ap (λ (x : Entry). Some x) (in_one e (Keep f) last))) (Contains-append_cases c.more (e ∷ []) (Keep f) there);
    doubted = doubted;
  }

  without_entry : (m n : Machine) → Comes items first m → n.log ≡ m.log → Pushes items n.doubt → Comes items first n
  without_entry m n c log doubted = record { more = c.more; log_is = log ∙ c.log_is; pushed = c.pushed; doubted = doubted }

  clears : (m n : Machine) → Clear m n → Comes items first m → Comes items first n
  clears m n (inl (none, is)) c = same m n is c
  clears m n (inr settled) c = go settled.log
    where
      go : (n.log ≡ m.log) ⊎ (n.log ≡ m.log ++ settled.entry ∷ []) → Comes items first n
      go (inl gone) = without_entry m n c gone (no_entry items n.doubt settled.doubt)
      go (inr stays) = with_entry m n settled.entry c (λ f is. c.doubted f (settled.was ∙ is)) stays (no_entry items n.doubt settled.doubt)

  module _ (failed : Type 0) where
    writes : (m n : Machine) (e : Entry) (r : Reply) → Pushes items (Some e) → Writes failed m e n r → Comes items first m → Comes items first n
    writes m n e r pushes (refused why judged is reply) c = same m n is c
    writes m n e r pushes (there counted judged is reply) c = same m n is c
    writes m n e r pushes (full counted judged limit is reply) c = same m n is c
    writes m n e r pushes (kept counted judged limit log doubt reply) c = with_entry m n e c pushes log (no_entry items n.doubt doubt)
    writes m n e r pushes (unwritten counted judged limit log doubt fault reply) c =
        without_entry m n c log (⊎_elim (no_entry items n.doubt) (λ some. (λ f is. pushes f (sym some ∙ is))) doubt)

    row_comes : (m n : Machine) (act : Act) (r : Reply) → Pushes items (entry_of act) → Row failed m act n r → Comes items first m → Comes items first n
    row_comes m n act r pushes (answered none is reply) c = same m n is c
    row_comes m n act r pushes (unread a place f asks kept_ is fault reply) c = same m n is c
    row_comes m n act r pushes (unsettled e d entry doubt is fault reply) c = same m n is c
    row_comes m n act r pushes (wrote e mid entry clear by) c = writes mid n e r (λ f is. pushes f (entry ∙ is)) by (clears m mid clear c)

    pub step_comes : (m n : Machine) (act : Act) (r : Reply) → Pushes items (entry_of act) → Step failed m act n r → Comes items first m → Comes items first n
    step_comes m n act r pushes (row by) c = row_comes m n act r pushes by c
    step_comes m n act r pushes (wants is reply) c = same m n is c
    step_comes m n act r pushes (untold told by close reply) c = row_comes m n act told pushes by c
