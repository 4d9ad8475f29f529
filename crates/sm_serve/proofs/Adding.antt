-- A step only adds to the log.
use Rattle.std.proofs.Common.{◌≡◌, ◌⊎◌, inl, inr, List, [], ◌∷◌, ◌++◌, None, Some, sym, ◌∙◌, ap, append_assoc}
use Rattle.std.proofs.lemmas.List.{append-nil}
use Rattle.sm_model.specs.declared.act.Act.{Act}
use Rattle.sm_model.specs.declared.entry.Entry.{Entry}
use Rattle.sm_reply.specs.declared.reply.Reply.{Reply}
use Rattle.sm_origin.specs.Machine.{Machine, Writes, refused, there, full, kept, unwritten, Clear, Row, answered, unread, unsettled, wrote, Step, row, wants, untold, entry_of}

abbrev pub Extends : Machine → Machine → Type 0
Extends m n = (more : List Entry) × (n.log ≡ m.log ++ more)

same : (m n : Machine) → n.log ≡ m.log → Extends m n
same m n is = ([], is ∙ sym (append-nil m.log))

pub and_then : (m n k : Machine) → Extends m n → Extends n k → Extends m k
and_then m n k one two = (one.0 ++ two.0, two.1 ∙ ap (λ (l : List Entry). l ++ two.0) one.1 ∙ append_assoc m.log one.0 two.0)

settles_by : (m n : Machine) (e : Entry) → (n.log ≡ m.log) ⊎ (n.log ≡ m.log ++ e ∷ []) → Extends m n
settles_by m n e (inl gone) = same m n gone
settles_by m n e (inr stays) = (e ∷ [], stays)

clears : (m n : Machine) → Clear m n → Extends m n
clears m n (inl (none, is)) = same m n is.log
clears m n (inr settled) = settles_by m n settled.entry settled.log

module _ (failed : Type 0) where
  writes : (m n : Machine) (e : Entry) (r : Reply) → Writes failed m e n r → Extends m n
  writes m n e r (refused why judged is reply) = same m n is.log
  writes m n e r (there counted judged is reply) = same m n is.log
  writes m n e r (full counted judged limit is reply) = same m n is.log
  writes m n e r (kept counted judged limit log doubt reply) = (e ∷ [], log)
  writes m n e r (unwritten counted judged limit log doubt fault reply) = same m n log

  row_adds : (m n : Machine) (act : Act) (r : Reply) → Row failed m act n r → Extends m n
  row_adds m n act r (answered none is reply) = same m n is.log
  row_adds m n act r (unread a place f asks kept_ is fault reply) = same m n is.log
  row_adds m n act r (unsettled e d entry doubt is fault reply) = same m n is.log
  row_adds m n act r (wrote e mid entry clear by) = and_then m mid n (clears m mid clear) (writes mid n e r by)

  pub step_adds : (m n : Machine) (act : Act) (r : Reply) → Step failed m act n r → Extends m n
  step_adds m n act r (row by) = row_adds m n act r by
  step_adds m n act r (wants is reply) = same m n is.log
  step_adds m n act r (untold meant by closes reply) = row_adds m n act meant by

  -- ---- an act that adds no entry leaves it

  row_leaves : (m n : Machine) (act : Act) (r : Reply) → entry_of act ≡ None → Row failed m act n r → n.log ≡ m.log
  row_leaves m n act r adds (answered none is reply) = is.log
  row_leaves m n act r adds (unread a place f asks kept_ is fault reply) = is.log
  row_leaves m n act r adds (unsettled e d entry doubt is fault reply) = is.log
  row_leaves m n act r adds (wrote e mid entry clear by) = absurd (let bad : None ≡ Some e = sym adds ∙ entry in cc)

  pub step_leaves : (m n : Machine) (act : Act) (r : Reply) → entry_of act ≡ None → Step failed m act n r → n.log ≡ m.log
  step_leaves m n act r adds (row by) = row_leaves m n act r adds by
  step_leaves m n act r adds (wants is reply) = is.log
  step_leaves m n act r adds (untold meant by closes reply) = row_leaves m n act meant adds by
