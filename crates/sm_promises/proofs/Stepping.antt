-- What each step of a run may answer, and which fragments stay.
use Rattle.std.proofs.Common.{◌≡◌, ◌⊎◌, inl, inr, ℕ, ◌≤◌, true, List, [], ◌∷◌, ◌++◌, Option, Some, None, refl, sym, ap, subst, ◌∙◌, append_assoc}
use Rattle.sm_model.specs.declared.act.Act.{Act}
use Rattle.sm_model.specs.declared.act.Act.TheVariants.{Frag, Fragment as Ask}
use Rattle.sm_model.specs.declared.address.Address.{Address}
use Rattle.sm_model.specs.declared.cause.Cause.{Cause}
use Rattle.sm_model.specs.declared.cause.Cause.TheVariants as cause
use Rattle.sm_model.specs.declared.entry.Entry.{Entry}
use Rattle.sm_model.specs.declared.entry.Entry.TheVariants.{Declare, Keep}
use Rattle.sm_model.specs.declared.fragment.Fragment.{Fragment}
use Rattle.sm_model.specs.declared.track.Track.{Track}
use Rattle.sm_model.specs.Entries.{address_of}
use Rattle.sm_log.specs.declared.verdict.Judged.{Judged as Verdict}
use Rattle.sm_log.specs.declared.verdict.Judged.TheVariants as verdicts
use Rattle.sm_log.specs.Logs.{adds_of, channel_of, kept_at, verdict_by, verdict_on, IsSound}
use Rattle.sm_site.specs.Image.{Image}
use Rattle.sm_site.specs.Meanings.{Item}
use Rattle.sm_archive.specs.Store.{IsStore}
use Rattle.sm_reply.specs.declared.reply.Counted.{Counted}
use Rattle.sm_reply.specs.declared.reply.Counted.TheVariants.{Known}
use Rattle.sm_reply.specs.declared.reply.Reply.{Reply}
use Rattle.sm_reply.specs.Replies.{silent, unplaced, no_memory, reply_of, kept_reply, fragment_reply}
use Rattle.sm_origin.specs.Machine.{Machine, SameLog, MeetsLimit, Fresh, There, Not, by_verdict, judged, Clear, Writes, refused, there, full, kept, unwritten, Row, answered, unread, unsettled, wrote, Step, row, wants as wants_memory, untold, entry_of}
use Rattle.sm_serve.specs.Faultless.{TakesIn, IsBeyond}
use Rattle.sm_serve.specs.Moments.{machine_at, IsOneOf, FitsAt}
use Rattle.sm_serve.specs.Run.{Point, Stepped, IsStep, Moves, opened, crowded, came, unread as unread_piece, passed, left, over, continues, acts_on, wants, done, sent, failed, unsent, shut, declared, recalled, Run, begins, goes_on}
use Rattle.sm_serve.proofs.Adding.{step_adds}
use Rattle.sm_promises.specs.Promises.{GivesWhole, DiskFailed, IsOutOfMemory}

-- ---- the steps of a run

record IsTaken (x : Stepped) : Type 0 where
  step : Step (DiskFailed x) x.before x.act x.after x.reply
  sound : IsSound x.after.log

abbrev AreTaken : List Stepped → Type 0
AreTaken [] = Unit {0}
AreTaken (x ∷ xs) = IsTaken x × AreTaken xs

none_taken : (xs : List Stepped) → xs ≡ [] → AreTaken xs
none_taken xs none = subst AreTaken (sym none) tt

one_taken : (p : Point) (act : Act) (x : Stepped) (xs : List Stepped) → IsStep true p act x → xs ≡ x ∷ [] → AreTaken xs
one_taken p act x xs step one = subst AreTaken (sym one) (record { step = (step.machine refl).step; sound = (step.machine refl).archived.keeps.sound }, tt)

taken_by : (items : List Item) (p : Point) (es : List Item) (xs : List Stepped) (q : Point) → Moves true items p es xs q → AreTaken xs
taken_by items p es xs q (opened m n phase few e none is) = none_taken xs none
taken_by items p es xs q (crowded m n phase many e none is) = none_taken xs none
taken_by items p es xs q (came m n bytes given more phase live e none one two is) = none_taken xs none
taken_by items p es xs q (unread_piece m n bytes phase live e none is) = none_taken xs none
taken_by items p es xs q (passed m n bytes phase live e none is) = none_taken xs none
taken_by items p es xs q (left m n phase e none is) = none_taken xs none
taken_by items p es xs q (over m phase e none is) = none_taken xs none
taken_by items p es xs q (continues n more phase e none is) = none_taken xs none
taken_by items p es xs q (acts_on n item more act x phase does conn step e one is) = one_taken p act x xs step one
taken_by items p es xs q (wants n more phase e none is) = none_taken xs none
taken_by items p es xs q (done n phase e none is) = none_taken xs none
taken_by items p es xs q (sent m n bytes close more phase after e none is) = none_taken xs none
taken_by items p es xs q (failed m n k bytes close more phase after e none is) = none_taken xs none
taken_by items p es xs q (unsent n bytes close more phase e none is) = none_taken xs none
taken_by items p es xs q (shut m n phase e none is) = none_taken xs none
taken_by items p es xs q (declared header x phase conn step e one is) = one_taken p _ x xs step one
taken_by items p es xs q (recalled a x phase conn step e one is) = one_taken p _ x xs step one

both_taken : (xs ys : List Stepped) → AreTaken xs → AreTaken ys → AreTaken (xs ++ ys)
both_taken [] ys xs-are ys-are = ys-are
both_taken (x ∷ xs) ys xs-are ys-are = (xs-are.0, both_taken xs ys xs-are.1 ys-are)

in_taken : (front behind : List Stepped) (x : Stepped) → AreTaken (front ++ x ∷ behind) → IsTaken x
in_taken [] behind x are = are.0
in_taken (y ∷ front) behind x are = in_taken front behind x are.1

all_taken : (first : Machine) (begin faults : ℕ) (items : List Item) (steps : List Stepped) (p : Point) → Run true first begin faults items steps p → AreTaken steps
all_taken first begin faults [] [] p begins = tt
all_taken first begin faults items steps q (goes_on was es items' ss xs steps' p q' run move now all) =
    subst AreTaken (sym all) (both_taken ss xs (all_taken first begin faults was ss p run) (taken_by was p es xs q move))

one_of : (first : Machine) (begin faults : ℕ) (items : List Item) (steps : List Stepped) (p : Point) → Run true first begin faults items steps p → (x : Stepped) → IsOneOf x steps → IsTaken x
one_of first begin faults items steps p run x (front, behind, is) = in_taken front behind x (subst AreTaken is (all_taken first begin faults items steps p run))

-- ---- what reads

reads_row : (fails : Type 0) (m n : Machine) (act : Act) (r : Reply) → entry_of act ≡ None → Row fails m act n r
    → (r ≡ reply_of m.log act) ⊎ (fails × (r ≡ unplaced cause.DiskFault))
reads_row fails m n act r reads (answered adds same reply) = inl reply
reads_row fails m n act r reads (unread a place f asks is same fault reply) = inr (fault, reply)
reads_row fails m n act r reads (unsettled e d entry was same fault reply) = inr (fault, reply)
reads_row fails m n act r reads (wrote e mid entry clear by) = absurd (let bad : None ≡ Some e = sym reads ∙ entry in cc)

reads_step : (fails : Type 0) (m n : Machine) (act : Act) (r : Reply) → entry_of act ≡ None → Step fails m act n r
    → (r ≡ reply_of m.log act) ⊎ ((fails × (r ≡ unplaced cause.DiskFault)) ⊎ (r ≡ no_memory))
reads_step fails m n act r reads (row by) = elim (reads_row fails m n act r reads by) [ inl a ↦ inl a | inr b ↦ inr (inl b) ]
reads_step fails m n act r reads (wants_memory same reply) = inr (inr reply)
reads_step fails m n act r reads (untold meant by closes reply) = inr (inr reply)

module _ (first : Machine) (begin faults : ℕ) (items : List Item) (steps : List Stepped) (p : Point) (run : Run true first begin faults items steps p) where
  pub reads : (x : Stepped) → IsOneOf x steps → entry_of x.act ≡ None
      → (x.reply ≡ reply_of x.before.log x.act) ⊎ ((DiskFailed x × (x.reply ≡ unplaced cause.DiskFault)) ⊎ IsOutOfMemory x)
  reads x among none = reads_step (DiskFailed x) x.before x.after x.act x.reply none (one_of first begin faults items steps p run x among).step

head_channel : (log : List Entry) (a : Address) (place : ℕ) (f : Fragment) → IsSound log → kept_at log a ≡ Some (place, f) → (channel : List Track) × (channel_of log ≡ Some channel)
head_channel [] a place f sound is = absurd (cc)
head_channel (Declare channel ∷ rest) a place f sound is = (channel, refl)
head_channel (Keep g ∷ rest) a place f sound is = absurd (let bad : verdicts.NotDeclared ≡ verdicts.New = (sound.each [] rest (Keep g) refl).1 in cc)

module _ (front : (log more : List Entry) → IsSound (log ++ more) → IsSound log)
    (first : Machine) (begin faults : ℕ) (items : List Item) (steps : List Stepped) (p : Point) (run : Run true first begin faults items steps p) where
  pub given : (x : Stepped) → IsOneOf x steps → (a : Address) (place : ℕ) (f : Fragment) → x.act ≡ Ask a → kept_at x.before.log a ≡ Some (place, f)
      → GivesWhole x a place f ⊎ (DiskFailed x ⊎ IsOutOfMemory x)
  given x among a place f asks is =
      let t = one_of first begin faults items steps p run x among in
      let adds = step_adds (DiskFailed x) x.before x.after x.act x.reply t.step in
      let head = head_channel x.before.log a place f (front x.before.log adds.0 (subst IsSound adds.1 t.sound)) is in
      elim (reads_step (DiskFailed x) x.before x.after x.act x.reply (ap entry_of asks) t.step) [
        | inl reply ↦ inl (
          head.0,
          head.1,
          reply ∙ ap (reply_of x.before.log) asks ∙ ap (λ (o : Option (List Track)). fragment_reply o x.before.log a) head.1
              ∙ ap (λ (o : Option (ℕ × Fragment)). kept_reply head.0 x.before.log a o) is,
        )
        | inr why ↦ elim why [ inl fault ↦ inr (inl fault.0) | inr starved ↦ inr (inr starved) ]
      ]

-- ---- what writes, where nothing is in doubt

clear_same : (m n : Machine) → m.doubt ≡ None → Clear m n → SameLog m n
clear_same m n doubt (inl (was, same)) = same
clear_same m n doubt (inr settled) = absurd (let bad : None ≡ Some settled.entry = sym doubt ∙ settled.was in cc)

abbrev Takes : Type 0 → Machine → Machine → Entry → Counted → Reply → Type 0
Takes fails m n e counted r = TakesIn m n e counted r ⊎ (IsBeyond m n e r ⊎ (fails ⊎ (r ≡ no_memory)))

writes_fresh : (fails : Type 0) (m n : Machine) (e : Entry) (counted : Counted) (r : Reply) → judged m.log e ≡ Fresh counted → Writes fails m e n r → Takes fails m n e counted r
writes_fresh fails m n e counted r fresh (refused why is same reply) = absurd (let bad : Fresh counted ≡ Not why = sym fresh ∙ is in cc)
writes_fresh fails m n e counted r fresh (there known is same reply) = absurd (let bad : Fresh counted ≡ There known = sym fresh ∙ is in cc)
writes_fresh fails m n e counted r fresh (full new is limit same reply) = inr (inl (record { limit = limit; same = same; reply = reply }))
writes_fresh fails m n e counted r fresh (kept new is limit log gone reply) =
    let both : Fresh new ≡ Fresh counted = sym is ∙ fresh in
    let one : new ≡ counted = cc in
    inl (record { log = log; reply = reply ∙ ap silent one })
writes_fresh fails m n e counted r fresh (unwritten new is limit log gone fault reply) = inr (inr (inl fault))

from_same : (fails : Type 0) (m mid n : Machine) (e : Entry) (counted : Counted) (r : Reply) → SameLog m mid → Takes fails mid n e counted r → Takes fails m n e counted r
from_same fails m mid n e counted r same (inl taken) = inl (record { log = taken.log ∙ ap (λ (l : List Entry). l ++ e ∷ []) same.log; reply = taken.reply })
from_same fails m mid n e counted r same (inr (inl b)) = inr (inl (record {
  limit = subst (λ (l : List Entry). MeetsLimit n.archive l e) same.log b.limit;
  same = record { log = b.same.log ∙ same.log; doubt = b.same.doubt ∙ same.doubt };
  reply = b.reply;
}))
from_same fails m mid n e counted r same (inr (inr x)) = inr (inr x)

row_fresh : (fails : Type 0) (m n : Machine) (act : Act) (e : Entry) (counted : Counted) (r : Reply) → m.doubt ≡ None → entry_of act ≡ Some e → judged m.log e ≡ Fresh counted
    → Row fails m act n r → Takes fails m n e counted r
row_fresh fails m n act e counted r doubt adds fresh (answered none same reply) = absurd (let bad : Some e ≡ None = sym adds ∙ none in cc)
row_fresh fails m n act e counted r doubt adds fresh (unread a place f asks is same fault reply) = inr (inr (inl fault))
row_fresh fails m n act e counted r doubt adds fresh (unsettled x d entry was same fault reply) = inr (inr (inl fault))
row_fresh fails m n act e counted r doubt adds fresh (wrote x mid entry clear by) =
    let both : Some x ≡ Some e = sym entry ∙ adds in
    let one : x ≡ e = cc in
    let same = clear_same m mid doubt clear in
    let by_e = subst (λ (y : Entry). Writes fails mid y n r) one by in
    from_same fails m mid n e counted r same (writes_fresh fails mid n e counted r (ap (λ (l : List Entry). judged l e) same.log ∙ fresh) by_e)

step_fresh : (fails : Type 0) (m n : Machine) (act : Act) (e : Entry) (counted : Counted) (r : Reply) → m.doubt ≡ None → entry_of act ≡ Some e → judged m.log e ≡ Fresh counted
    → Step fails m act n r → Takes fails m n e counted r
step_fresh fails m n act e counted r doubt adds fresh (row by) = row_fresh fails m n act e counted r doubt adds fresh by
step_fresh fails m n act e counted r doubt adds fresh (wants_memory same reply) = inr (inr (inr reply))
step_fresh fails m n act e counted r doubt adds fresh (untold meant by closes reply) = inr (inr (inr reply))

writes_not : (fails : Type 0) (m n : Machine) (e : Entry) (why : Cause) (r : Reply) → judged m.log e ≡ Not why → Writes fails m e n r → (n.log ≡ m.log) × (r ≡ unplaced why)
writes_not fails m n e why r not (refused w is same reply) =
    let both : Not w ≡ Not why = sym is ∙ not in
    let one : w ≡ why = cc in
    (same.log, reply ∙ ap unplaced one)
writes_not fails m n e why r not (there known is same reply) = absurd (let bad : Not why ≡ There known = sym not ∙ is in cc)
writes_not fails m n e why r not (full new is limit same reply) = absurd (let bad : Not why ≡ Fresh new = sym not ∙ is in cc)
writes_not fails m n e why r not (kept new is limit log gone reply) = absurd (let bad : Not why ≡ Fresh new = sym not ∙ is in cc)
writes_not fails m n e why r not (unwritten new is limit log gone fault reply) = absurd (let bad : Not why ≡ Fresh new = sym not ∙ is in cc)

row_not : (fails : Type 0) (m n : Machine) (act : Act) (e : Entry) (why : Cause) (r : Reply) → m.doubt ≡ None → entry_of act ≡ Some e → judged m.log e ≡ Not why
    → Row fails m act n r → (n.log ≡ m.log) × (r ≡ unplaced why)
row_not fails m n act e why r doubt adds not (answered none same reply) = absurd (let bad : Some e ≡ None = sym adds ∙ none in cc)
row_not fails m n act e why r doubt adds not (unread a place f asks is same fault reply) = absurd (let bad : Some e ≡ None = sym adds ∙ ap entry_of asks in cc)
row_not fails m n act e why r doubt adds not (unsettled x d entry was same fault reply) = absurd (let bad : None ≡ Some d = sym doubt ∙ was in cc)
row_not fails m n act e why r doubt adds not (wrote x mid entry clear by) =
    let both : Some x ≡ Some e = sym entry ∙ adds in
    let one : x ≡ e = cc in
    let same = clear_same m mid doubt clear in
    let w = writes_not fails mid n e why r (ap (λ (l : List Entry). judged l e) same.log ∙ not) (subst (λ (y : Entry). Writes fails mid y n r) one by) in
    (w.0 ∙ same.log, w.1)

step_not : (fails : Type 0) (m n : Machine) (act : Act) (e : Entry) (why : Cause) (r : Reply) → m.doubt ≡ None → entry_of act ≡ Some e → judged m.log e ≡ Not why
    → Step fails m act n r → (n.log ≡ m.log) × ((r ≡ unplaced why) ⊎ (r ≡ no_memory))
step_not fails m n act e why r doubt adds not (row by) = let w = row_not fails m n act e why r doubt adds not by in (w.0, inl w.1)
step_not fails m n act e why r doubt adds not (wants_memory same reply) = (same.log, inr reply)
step_not fails m n act e why r doubt adds not (untold meant by closes reply) = ((row_not fails m n act e why meant doubt adds not by).0, inr reply)

-- what is there already

writes_there : (fails : Type 0) (m n : Machine) (e : Entry) (counted : Counted) (r : Reply) → judged m.log e ≡ There counted → Writes fails m e n r
    → (n.log ≡ m.log) × (r ≡ silent counted)
writes_there fails m n e counted r known (refused w is same reply) = absurd (let bad : There counted ≡ Not w = sym known ∙ is in cc)
writes_there fails m n e counted r known (there other is same reply) =
    let both : There other ≡ There counted = sym is ∙ known in
    let one : other ≡ counted = cc in
    (same.log, reply ∙ ap silent one)
writes_there fails m n e counted r known (full new is limit same reply) = absurd (let bad : There counted ≡ Fresh new = sym known ∙ is in cc)
writes_there fails m n e counted r known (kept new is limit log gone reply) = absurd (let bad : There counted ≡ Fresh new = sym known ∙ is in cc)
writes_there fails m n e counted r known (unwritten new is limit log gone fault reply) = absurd (let bad : There counted ≡ Fresh new = sym known ∙ is in cc)

row_there : (fails : Type 0) (m n : Machine) (act : Act) (e : Entry) (counted : Counted) (r : Reply) → m.doubt ≡ None → entry_of act ≡ Some e
    → judged m.log e ≡ There counted → Row fails m act n r → (n.log ≡ m.log) × (r ≡ silent counted)
row_there fails m n act e counted r doubt adds known (answered none same reply) = absurd (let bad : Some e ≡ None = sym adds ∙ none in cc)
row_there fails m n act e counted r doubt adds known (unread a place f asks is same fault reply) = absurd (let bad : Some e ≡ None = sym adds ∙ ap entry_of asks in cc)
row_there fails m n act e counted r doubt adds known (unsettled x d entry was same fault reply) = absurd (let bad : None ≡ Some d = sym doubt ∙ was in cc)
row_there fails m n act e counted r doubt adds known (wrote x mid entry clear by) =
    let both : Some x ≡ Some e = sym entry ∙ adds in
    let one : x ≡ e = cc in
    let same = clear_same m mid doubt clear in
    let w = writes_there fails mid n e counted r (ap (λ (l : List Entry). judged l e) same.log ∙ known) (subst (λ (y : Entry). Writes fails mid y n r) one by) in
    (w.0 ∙ same.log, w.1)

step_there : (fails : Type 0) (m n : Machine) (act : Act) (e : Entry) (counted : Counted) (r : Reply) → m.doubt ≡ None → entry_of act ≡ Some e
    → judged m.log e ≡ There counted → Step fails m act n r → (n.log ≡ m.log) × ((r ≡ silent counted) ⊎ (r ≡ no_memory))
step_there fails m n act e counted r doubt adds known (row by) = let w = row_there fails m n act e counted r doubt adds known by in (w.0, inl w.1)
step_there fails m n act e counted r doubt adds known (wants_memory same reply) = (same.log, inr reply)
step_there fails m n act e counted r doubt adds known (untold meant by closes reply) = ((row_there fails m n act e counted meant doubt adds known by).0, inr reply)

-- the verdict looks at the address and the duration alone
by_there : (f g : Fragment) (v : Verdict) → by_verdict f v ≡ There Known → by_verdict g v ≡ There Known
by_there f g verdicts.New is = absurd (cc)
by_there f g (verdicts.Known place) is = refl
by_there f g verdicts.NotDeclared is = absurd (cc)
by_there f g (verdicts.Clash was) is = absurd (cc)
by_there f g (verdicts.Overlap end) is = absurd (cc)

pub whatever_samples : (log : List Entry) (f g : Fragment) → address_of g ≡ address_of f → g.duration ≡ f.duration → judged log (Keep f) ≡ There Known
    → judged log (Keep g) ≡ There Known
whatever_samples log f g address duration is =
    let same : verdict_on log g ≡ verdict_on log f =
    ap (λ (a : Address). verdict_by (channel_of log) (adds_of log) a g.duration) address
    ∙ ap (λ (d : ℕ). verdict_by (channel_of log) (adds_of log) (address_of f) d) duration in
    ap (by_verdict g) same ∙ by_there f g (verdict_on log f) is

module _ (first : Machine) (begin faults : ℕ) (items : List Item) (steps : List Stepped) (p : Point) (run : Run true first begin faults items steps p) where
  pub is_there : (x : Stepped) → IsOneOf x steps → (f : Fragment) → x.before.doubt ≡ None → x.act ≡ Frag f → judged x.before.log (Keep f) ≡ There Known
      → (x.after.log ≡ x.before.log) × ((x.reply ≡ silent Known) ⊎ IsOutOfMemory x)
  is_there x among f doubt pushes known =
      step_there (DiskFailed x) x.before x.after x.act (Keep f) Known x.reply doubt (ap entry_of pushes) known (one_of first begin faults items steps p run x among).step

  pub taken : (x : Stepped) → IsOneOf x steps → (e : Entry) (counted : Counted) → x.before.doubt ≡ None → entry_of x.act ≡ Some e → judged x.before.log e ≡ Fresh counted
      → Takes (DiskFailed x) x.before x.after e counted x.reply
  taken x among e counted doubt adds fresh =
      step_fresh (DiskFailed x) x.before x.after x.act e counted x.reply doubt adds fresh (one_of first begin faults items steps p run x among).step

  pub not_taken : (x : Stepped) → IsOneOf x steps → (e : Entry) (why : Cause) → x.before.doubt ≡ None → entry_of x.act ≡ Some e → judged x.before.log e ≡ Not why
      → (x.after.log ≡ x.before.log) × ((x.reply ≡ unplaced why) ⊎ IsOutOfMemory x)
  not_taken x among e why doubt adds not =
      step_not (DiskFailed x) x.before x.after x.act e why x.reply doubt adds not (one_of first begin faults items steps p run x among).step

-- ---- what stays

fits_log : (first : Machine) (steps : List Stepped) (t : ℕ) (image : Image) → FitsAt first steps t image
    → (more : List Entry) × IsStore ((machine_at first steps t).log ++ more) image
fits_log first steps t image (inl fits) = (fits.doubt, fits.store)
fits_log first steps t image (inr (x, among, inside, fits)) =
    (fits.doubt ++ fits.written, subst (λ (l : List Entry). IsStore l image) (append_assoc (machine_at first steps t).log fits.doubt fits.written) fits.store)

module _ (stay : (log more : List Entry) (a : Address) (kept : ℕ × Fragment) → kept_at log a ≡ Some kept → kept_at (log ++ more) a ≡ Some kept)
    (later : (first : Machine) (begin faults : ℕ) (items : List Item) (steps : List Stepped) (p : Point) → Run true first begin faults items steps p → (t u : ℕ) → t ≤ u
    → (more : List Entry) × ((machine_at first steps u).log ≡ (machine_at first steps t).log ++ more)) where
  pub stays_kept : (first : Machine) (begin faults : ℕ) (items : List Item) (steps : List Stepped) (p : Point) → Run true first begin faults items steps p → (t u : ℕ) → t ≤ u
      → (a : Address) (place : ℕ) (f : Fragment) → kept_at (machine_at first steps t).log a ≡ Some (place, f) → (image : Image) → FitsAt first steps u image
      → (kept : List Entry) × IsStore kept image × (kept_at kept a ≡ Some (place, f))
  stays_kept first begin faults items steps p run t u le a place f is image fits =
      let more = later first begin faults items steps p run t u le in
      let log = fits_log first steps u image fits in
      let there : kept_at (machine_at first steps u).log a ≡ Some (place, f) =
      ap (λ (l : List Entry). kept_at l a) more.1 ∙ stay (machine_at first steps t).log more.0 a (place, f) is in
      ((machine_at first steps u).log ++ log.0, log.1, stay (machine_at first steps u).log log.0 a (place, f) there)

  pub found_stays : (found : List Entry) (a : Address) (place : ℕ) (f : Fragment) → kept_at found a ≡ Some (place, f) → (kept more : List Entry) → kept ≡ found ++ more
      → kept_at kept a ≡ Some (place, f)
  found_stays found a place f is now more on = ap (λ (l : List Entry). kept_at l a) on ∙ stay found more a (place, f) is
