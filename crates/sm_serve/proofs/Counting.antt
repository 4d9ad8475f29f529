-- The disk's count of faults along a run, and what is answered while it stands.
use Rattle.std.proofs.Common.{◌≡◌, ◌⊎◌, inl, inr, ℕ, ◌-◌, ◌<◌, ◌≤◌, ◌^◌, true, List, [], ◌∷◌, ◌++◌, Option, Some, None, refl, sym, ◌∙◌, ap, subst, arith}
use Rattle.std.proofs.lemmas.List.{append-nil}
use Rattle.sm_model.specs.declared.act.Act.{Act}
use Rattle.sm_model.specs.declared.act.Act.TheVariants.{Fragment as Ask}
use Rattle.sm_model.specs.declared.address.Address.{Address}
use Rattle.sm_model.specs.declared.entry.Entry.{Entry}
use Rattle.sm_model.specs.declared.entry.Entry.TheVariants.{Declare, Keep}
use Rattle.sm_model.specs.declared.fragment.Fragment.{Fragment}
use Rattle.sm_model.specs.declared.track.Track.{Track}
use Rattle.sm_log.specs.declared.verdict.Judged.TheVariants as verdicts
use Rattle.sm_log.specs.Logs.{channel_of, kept_at, IsSound}
use Rattle.sm_site.specs.Meanings.{View, Item}
use Rattle.sm_site.specs.Clauses.{Rose}
use Rattle.sm_reply.specs.declared.reply.Counted.{Counted}
use Rattle.sm_reply.specs.declared.reply.Reply.{Reply}
use Rattle.sm_reply.specs.Replies.{silent, reply_of, kept_reply, fragment_reply}
use Rattle.sm_origin.specs.Machine.{Machine, SameLog, MeetsLimit, Fresh, There, Not, judged, Clear, Writes, refused, there, full, kept, unwritten, Row, answered, unread, unsettled, wrote, Step, row, wants as wants_memory, untold, entry_of}
use Rattle.sm_serve.specs.Run.{Point, Stepped, IsStep, Moves, opened, crowded, came, unread as unread_piece, passed, left, over, continues, acts_on, wants, done, sent, failed, unsent, shut, declared, recalled, Run, begins, goes_on}
use Rattle.sm_serve.specs.Moments.{IsOneOf}
use Rattle.sm_serve.specs.Standing.{History}
use Rattle.sm_serve.specs.Serving.{Since}
use Rattle.sm_serve.specs.Faultless.{IsFaultless, Gives, TakesIn, IsBeyond, IsStarved, IsGiven, IsTaken}
use Rattle.sm_serve.proofs.Adding.{Extends, and_then, step_adds}
use Rattle.sm_serve.proofs.Growing.{itself}

-- ---- the steps of a run

-- a move makes no step, and leaves the machine and the count
record Stays (p : Point) (xs : List Stepped) (q : Point) : Type 0 where
  none : xs ≡ []
  machine : q.machine ≡ p.machine
  faults : q.faults ≡ p.faults

-- a step begins with this machine and this count
record Begins (m : Machine) (n : ℕ) (x : Stepped) : Type 0 where
  before : x.before ≡ m
  faults : x.faults ≡ n
  no_fewer : x.faults ≤ x.faults_after
  step : Step (Rose x.faults x.faults_after) x.before x.act x.after x.reply
  sound : IsSound x.after.log

-- it makes one, which begins with those of its point
record StepsOn (p : Point) (xs : List Stepped) (q : Point) : Type 0 where
  x : Stepped
  one : xs ≡ x ∷ []
  begins_so : Begins p.machine p.faults x
  machine : q.machine ≡ x.after
  faults : q.faults ≡ x.faults_after

stays : (p : Point) (xs : List Stepped) (q r : Point) → xs ≡ [] → q ≡ r → r.machine ≡ p.machine → r.faults ≡ p.faults → Stays p xs q ⊎ StepsOn p xs q
stays p xs q r none is machine faults = inl (record { none = none; machine = ap (λ (s : Point). s.machine) is ∙ machine; faults = ap (λ (s : Point). s.faults) is ∙ faults })

steps : (p : Point) (act : Act) (x : Stepped) (xs : List Stepped) (q r : Point) → IsStep true p act x → xs ≡ x ∷ [] → q ≡ r → r.machine ≡ x.after → r.faults ≡ x.faults_after → Stays p xs q ⊎ StepsOn p xs q
steps p act x xs q r step one is machine faults = inr (record {
  x = x;
  one = one;
  begins_so = record { before = step.before_is; faults = step.faults_is; no_fewer = step.no_fewer; step = (step.machine refl).step; sound = (step.machine refl).archived.keeps.sound };
  machine = ap (λ (s : Point). s.machine) is ∙ machine;
  faults = ap (λ (s : Point). s.faults) is ∙ faults;
})

kind_of : (items : List Item) (p : Point) (es : List Item) (xs : List Stepped) (q : Point) → Moves true items p es xs q → Stays p xs q ⊎ StepsOn p xs q
kind_of items p es xs q (opened m n phase few e none is) = stays p xs q _ none is refl refl
kind_of items p es xs q (crowded m n phase many e none is) = stays p xs q _ none is refl refl
kind_of items p es xs q (came m n bytes given more phase live e none one two is) = stays p xs q _ none is refl refl
kind_of items p es xs q (unread_piece m n bytes phase live e none is) = stays p xs q _ none is refl refl
kind_of items p es xs q (passed m n bytes phase live e none is) = stays p xs q _ none is refl refl
kind_of items p es xs q (left m n phase e none is) = stays p xs q _ none is refl refl
kind_of items p es xs q (over m phase e none is) = stays p xs q _ none is refl refl
kind_of items p es xs q (continues n more phase e none is) = stays p xs q _ none is refl refl
kind_of items p es xs q (acts_on n item more act x phase does conn step e one is) = steps p act x xs q _ step one is refl refl
kind_of items p es xs q (wants n more phase e none is) = stays p xs q _ none is refl refl
kind_of items p es xs q (done n phase e none is) = stays p xs q _ none is refl refl
kind_of items p es xs q (sent m n bytes close more phase after e none is) = stays p xs q _ none is refl refl
kind_of items p es xs q (failed m n k bytes close more phase after e none is) = stays p xs q _ none is refl refl
kind_of items p es xs q (unsent n bytes close more phase e none is) = stays p xs q _ none is refl refl
kind_of items p es xs q (shut m n phase e none is) = stays p xs q _ none is refl refl
kind_of items p es xs q (declared header x phase conn step e one is) = steps p _ x xs q _ step one is refl refl
kind_of items p es xs q (recalled a x phase conn step e one is) = steps p _ x xs q _ step one is refl refl

-- ---- steps that follow each other

-- the machine and the count behind the last of these steps
abbrev last_of : Machine → List Stepped → Machine
last_of m [] = m
last_of m (x ∷ xs) = last_of x.after xs

abbrev faults_of : ℕ → List Stepped → ℕ
faults_of n [] = n
faults_of n (x ∷ xs) = faults_of x.faults_after xs

-- each of these steps begins with what the one before it left
abbrev AreLinked : Machine → ℕ → List Stepped → Type 0
AreLinked m n [] = Unit {0}
AreLinked m n (x ∷ xs) = Begins m n x × AreLinked x.after x.faults_after xs

last_push : (m : Machine) (xs : List Stepped) (x : Stepped) → last_of m (xs ++ x ∷ []) ≡ x.after
last_push m [] x = refl
last_push m (y ∷ xs) x = last_push y.after xs x

faults_push : (n : ℕ) (xs : List Stepped) (x : Stepped) → faults_of n (xs ++ x ∷ []) ≡ x.faults_after
faults_push n [] x = refl
faults_push n (y ∷ xs) x = faults_push y.faults_after xs x

last_both : (m : Machine) (xs ys : List Stepped) → last_of m (xs ++ ys) ≡ last_of (last_of m xs) ys
last_both m [] ys = refl
last_both m (x ∷ xs) ys = last_both x.after xs ys

faults_both : (n : ℕ) (xs ys : List Stepped) → faults_of n (xs ++ ys) ≡ faults_of (faults_of n xs) ys
faults_both n [] ys = refl
faults_both n (x ∷ xs) ys = faults_both x.faults_after xs ys

linked_push : (m : Machine) (n : ℕ) (xs : List Stepped) (x : Stepped) → AreLinked m n xs → Begins (last_of m xs) (faults_of n xs) x → AreLinked m n (xs ++ x ∷ [])
linked_push m n [] x linked so = (so, tt)
linked_push m n (y ∷ xs) x linked so = (linked.0, linked_push y.after y.faults_after xs x linked.1 so)

linked_behind : (m : Machine) (n : ℕ) (xs ys : List Stepped) → AreLinked m n (xs ++ ys) → AreLinked (last_of m xs) (faults_of n xs) ys
linked_behind m n [] ys linked = linked
linked_behind m n (x ∷ xs) ys linked = linked_behind x.after x.faults_after xs ys linked.1

-- the count never falls
no_fewer : (m : Machine) (n : ℕ) (xs : List Stepped) → AreLinked m n xs → n ≤ faults_of n xs
no_fewer m n [] linked = omega arith
no_fewer m n (x ∷ xs) linked = let rest = no_fewer x.after x.faults_after xs linked.1 in let here = linked.0.no_fewer in let from = linked.0.faults in omega (arith, rest, here, from)

record Leads (first : Machine) (faults : ℕ) (all : List Stepped) (p : Point) : Type 0 where
  linked : AreLinked first faults all
  machine : p.machine ≡ last_of first all
  count : p.faults ≡ faults_of faults all

leads : (first : Machine) (begin faults : ℕ) (items : List Item) (all : List Stepped) (p : Point) → Run true first begin faults items all p → Leads first faults all p
leads first begin faults [] [] p begins = record { linked = tt; machine = refl; count = refl }
leads first begin faults items all q (goes_on was es items' ss xs all' p q' run move now is) = go (leads first begin faults was ss p run) (kind_of was p es xs q move)
  where
    go : Leads first faults ss p → Stays p xs q ⊎ StepsOn p xs q → Leads first faults all q
    go before (inl s) =
        let same : all ≡ ss = is ∙ ap (λ (ys : List Stepped). ss ++ ys) s.none ∙ append-nil ss in
        subst (λ (ys : List Stepped). Leads first faults ys q) (sym same) (record { linked = before.linked; machine = s.machine ∙ before.machine; count = s.faults ∙ before.count })
    go before (inr s) =
        let more : all ≡ ss ++ s.x ∷ [] = is ∙ ap (λ (ys : List Stepped). ss ++ ys) s.one in
        let so = subst (λ (m : Machine). Begins m (faults_of faults ss) s.x) before.machine (subst (λ (n : ℕ). Begins p.machine n s.x) before.count s.begins_so) in
        subst (λ (ys : List Stepped). Leads first faults ys q) (sym more)
        (record { linked = linked_push first faults ss s.x before.linked so; machine = s.machine ∙ sym (last_push first ss s.x); count = s.faults ∙ sym (faults_push faults ss s.x) })

-- ---- no fault

module _ (fails : Type 0) (none : fails → ⊥) where
  clear_none : (m n : Machine) → m.doubt ≡ None → Clear m n → SameLog m n
  clear_none m n doubt (inl (was, same)) = same
  clear_none m n doubt (inr settled) = absurd (let bad : None ≡ Some settled.entry = sym doubt ∙ settled.was in cc)

  writes_none : (m n : Machine) (e : Entry) (r : Reply) → m.doubt ≡ None → Writes fails m e n r → n.doubt ≡ None
  writes_none m n e r doubt (refused why is same reply) = same.doubt ∙ doubt
  writes_none m n e r doubt (there counted is same reply) = same.doubt ∙ doubt
  writes_none m n e r doubt (full counted is limit same reply) = same.doubt ∙ doubt
  writes_none m n e r doubt (kept counted is limit log gone reply) = gone
  writes_none m n e r doubt (unwritten counted is limit log gone fault reply) = absurd (none fault)

  row_none : (m n : Machine) (act : Act) (r : Reply) → m.doubt ≡ None → Row fails m act n r → n.doubt ≡ None
  row_none m n act r doubt (answered adds same reply) = same.doubt ∙ doubt
  row_none m n act r doubt (unread a place f asks is same fault reply) = absurd (none fault)
  row_none m n act r doubt (unsettled e d entry was same fault reply) = absurd (none fault)
  row_none m n act r doubt (wrote e mid entry clear by) = writes_none mid n e r ((clear_none m mid doubt clear).doubt ∙ doubt) by

  -- without a fault nothing comes into doubt
  step_none : (m n : Machine) (act : Act) (r : Reply) → m.doubt ≡ None → Step fails m act n r → n.doubt ≡ None
  step_none m n act r doubt (row by) = row_none m n act r doubt by
  step_none m n act r doubt (wants_memory same reply) = same.doubt ∙ doubt
  step_none m n act r doubt (untold meant by closes reply) = row_none m n act meant doubt by

  -- without a fault an act that only reads is answered by the log, or there was no memory
  step_reads : (m n : Machine) (act : Act) (r : Reply) → entry_of act ≡ None → Step fails m act n r → (r ≡ reply_of m.log act) ⊎ IsStarved r
  step_reads m n act r reads (row (answered adds same reply)) = inl reply
  step_reads m n act r reads (row (unread a place f asks is same fault reply)) = absurd (none fault)
  step_reads m n act r reads (row (unsettled e d entry was same fault reply)) = absurd (none fault)
  step_reads m n act r reads (row (wrote e mid entry clear by)) = absurd (let bad : None ≡ Some e = sym reads ∙ entry in cc)
  step_reads m n act r reads (wants_memory same reply) = inr reply
  step_reads m n act r reads (untold meant by closes reply) = inr reply

  writes_fresh : (m n : Machine) (e : Entry) (counted : Counted) (r : Reply) → judged m.log e ≡ Fresh counted → Writes fails m e n r → TakesIn m n e counted r ⊎ (IsBeyond m n e r ⊎ IsStarved r)
  writes_fresh m n e counted r fresh (refused why is same reply) = absurd (let bad : Fresh counted ≡ Not why = sym fresh ∙ is in cc)
  writes_fresh m n e counted r fresh (there known is same reply) = absurd (let bad : Fresh counted ≡ There known = sym fresh ∙ is in cc)
  writes_fresh m n e counted r fresh (full new is limit same reply) = inr (inl (record { limit = limit; same = same; reply = reply }))
  writes_fresh m n e counted r fresh (kept new is limit log gone reply) =
      let both : Fresh new ≡ Fresh counted = sym is ∙ fresh in
      let one : new ≡ counted = cc in
      inl (record { log = log; reply = reply ∙ ap silent one })
  writes_fresh m n e counted r fresh (unwritten new is limit log gone fault reply) = absurd (none fault)

  from_same : (m mid n : Machine) (e : Entry) (counted : Counted) (r : Reply) → SameLog m mid → TakesIn mid n e counted r ⊎ (IsBeyond mid n e r ⊎ IsStarved r) → TakesIn m n e counted r ⊎ (IsBeyond m n e r ⊎ IsStarved r)
  from_same m mid n e counted r same (inl taken) = inl (record { log = taken.log ∙ ap (λ (l : List Entry). l ++ e ∷ []) same.log; reply = taken.reply })
  from_same m mid n e counted r same (inr (inl beyond)) =
      inr (inl (record { limit = subst (λ (l : List Entry). MeetsLimit n.archive l e) same.log beyond.limit; same = record { log = beyond.same.log ∙ same.log; doubt = beyond.same.doubt ∙ same.doubt }; reply = beyond.reply }))
  from_same m mid n e counted r same (inr (inr starved)) = inr (inr starved)

  row_fresh : (m n : Machine) (act : Act) (e : Entry) (counted : Counted) (r : Reply) → m.doubt ≡ None → entry_of act ≡ Some e → judged m.log e ≡ Fresh counted → Row fails m act n r
      → TakesIn m n e counted r ⊎ (IsBeyond m n e r ⊎ IsStarved r)
  row_fresh m n act e counted r doubt adds fresh (answered reads same reply) = absurd (let bad : None ≡ Some e = sym reads ∙ adds in cc)
  row_fresh m n act e counted r doubt adds fresh (unread a place f asks is same fault reply) = absurd (none fault)
  row_fresh m n act e counted r doubt adds fresh (unsettled d entry is was same fault reply) = absurd (none fault)
  row_fresh m n act e counted r doubt adds fresh (wrote d mid is clear by) =
      let both : Some d ≡ Some e = sym is ∙ adds in
      let one : d ≡ e = cc in
      let same = clear_none m mid doubt clear in
      from_same m mid n e counted r same
      (writes_fresh mid n e counted r (ap (λ (l : List Entry). judged l e) same.log ∙ fresh) (subst (λ (x : Entry). Writes fails mid x n r) one by))

  -- without a fault and a doubt an entry that is new is taken in, or a limit is met, or there was no memory
  step_fresh : (m n : Machine) (act : Act) (e : Entry) (counted : Counted) (r : Reply) → m.doubt ≡ None → entry_of act ≡ Some e → judged m.log e ≡ Fresh counted → Step fails m act n r
      → TakesIn m n e counted r ⊎ (IsBeyond m n e r ⊎ IsStarved r)
  step_fresh m n act e counted r doubt adds fresh (row by) = row_fresh m n act e counted r doubt adds fresh by
  step_fresh m n act e counted r doubt adds fresh (wants_memory same reply) = inr (inr reply)
  step_fresh m n act e counted r doubt adds fresh (untold meant by closes reply) = inr (inr reply)

-- a step among linked ones whose count is at the end what it was at the start
record Without (m : Machine) (x : Stepped) : Type 0 where
  extends : Extends m x.before
  doubt : m.doubt ≡ None → x.before.doubt ≡ None
  none : Rose x.faults x.faults_after → ⊥
  step : Step (Rose x.faults x.faults_after) x.before x.act x.after x.reply
  sound : IsSound x.after.log

-- a count that stands below its end didn't rise
not_risen : (x : Stepped) → x.faults_after ≡ x.faults → x.faults_after < 2 ^ 64 - 1 → Rose x.faults x.faults_after → ⊥
not_risen x same below rose =
    let rises : x.faults < x.faults_after = rose.rose (λ last. absurd (omega (arith, last, below))) in
    absurd (omega (arith, rises, same))

without : (m : Machine) (n : ℕ) (front behind : List Stepped) (x : Stepped) → AreLinked m n (front ++ x ∷ behind) → faults_of n (front ++ x ∷ behind) ≡ n → n < 2 ^ 64 - 1 → Without m x
without m n [] behind x (so, rest) last below =
    let later = no_fewer x.after x.faults_after behind rest in
    let from = so.faults in
    let up = so.no_fewer in
    let same : x.faults_after ≡ x.faults = omega (arith, later, from, up, last) in
    record {
      extends = subst (λ (k : Machine). Extends m k) (sym so.before) (itself m);
      doubt = λ none. ap (λ (k : Machine). k.doubt) so.before ∙ none;
      none = not_risen x same (omega (arith, same, from, below));
      step = so.step;
      sound = so.sound;
    }
without m n (y ∷ front) behind x (so, rest) last below =
    let later = no_fewer y.after y.faults_after (front ++ x ∷ behind) rest in
    let from = so.faults in
    let up = so.no_fewer in
    let same : y.faults_after ≡ n = omega (arith, later, from, up, last) in
    let deeper = without y.after y.faults_after front behind x rest (last ∙ sym same) (omega (arith, same, below)) in
    let no_rise = not_risen y (omega (arith, same, from)) (omega (arith, same, below)) in
    let adds = step_adds (Rose y.faults y.faults_after) y.before y.after y.act y.reply so.step in
    record {
      extends = and_then m y.after x.before (subst (λ (k : Machine). Extends k y.after) so.before adds) deeper.extends;
      doubt = λ none. deeper.doubt (step_none (Rose y.faults y.faults_after) no_rise y.before y.after y.act y.reply (ap (λ (k : Machine). k.doubt) so.before ∙ none) so.step);
      none = deeper.none;
      step = deeper.step;
      sound = deeper.sound;
    }

-- a step of a later history
without_since : (h k : History) → Run true h.first h.begin h.found.disk_faults h.items h.steps h.point → Run true k.first k.begin k.found.disk_faults k.items k.steps k.point → (since : Since h k)
    → IsFaultless h.point k.point → (x : Stepped) → IsOneOf x since.on.further → Without h.point.machine x
without_since h k run later since still x (front, behind, is) =
    let one = leads h.first h.begin h.found.disk_faults h.items h.steps h.point run in
    let all = leads k.first k.begin k.found.disk_faults k.items k.steps k.point later in
    let more = front ++ x ∷ behind in
    let steps_are : k.steps ≡ h.steps ++ more = since.on.steps ∙ ap (λ (ys : List Stepped). h.steps ++ ys) is in
    let n = h.found.disk_faults in
    let faults_are : k.found.disk_faults ≡ n = ap (λ (v : View). v.disk_faults) since.found in
    let linked : AreLinked h.first n (h.steps ++ more) =
    subst (λ (m : Machine). AreLinked m n (h.steps ++ more)) since.first
    (subst (λ (i : ℕ). AreLinked k.first i (h.steps ++ more)) faults_are
    (subst (λ (ys : List Stepped). AreLinked k.first k.found.disk_faults ys) steps_are all.linked)) in
    let behind_h = linked_behind h.first n h.steps more linked in
    let count : k.point.faults ≡ faults_of (faults_of n h.steps) more =
    all.count ∙ ap (λ (i : ℕ). faults_of i k.steps) faults_are ∙ ap (λ (ys : List Stepped). faults_of n ys) steps_are ∙ faults_both n h.steps more in
    let last : faults_of (faults_of n h.steps) more ≡ faults_of n h.steps = sym count ∙ still.same ∙ one.count in
    let low = still.below in
    let same = still.same in
    let from = one.count in
    subst (λ (m : Machine). Without m x) (sym one.machine)
    (without (last_of h.first h.steps) (faults_of n h.steps) front behind x behind_h last (omega (arith, low, same, from)))

-- ---- what is given

-- where a fragment is kept in a sound log there is a channel
head_channel : (log : List Entry) (a : Address) (place : ℕ) (f : Fragment) → IsSound log → kept_at log a ≡ Some (place, f) → (channel : List Track) × (rest : List Entry) × (log ≡ Declare channel ∷ rest)
head_channel [] a place f sound is = absurd (cc)
head_channel (Declare channel ∷ rest) a place f sound is = (channel, rest, refl)
head_channel (Keep g ∷ rest) a place f sound is = absurd (let bad : verdicts.NotDeclared ≡ verdicts.New = (sound.each [] rest (Keep g) refl).1 in cc)

channel_in : (log now more : List Entry) (channel : List Track) (rest : List Entry) → log ≡ Declare channel ∷ rest → now ≡ log ++ more → channel_of now ≡ Some channel
channel_in log now more channel rest is on = ap channel_of (on ∙ ap (λ (l : List Entry). l ++ more) is)

gives : (log : List Entry) (a : Address) (place : ℕ) (f : Fragment) (channel : List Track) (r : Reply) → channel_of log ≡ Some channel → kept_at log a ≡ Some (place, f) → r ≡ reply_of log (Ask a) → Gives log a place f r
gives log a place f channel r head is reply = record {
  channel = channel;
  channel_is = head;
  reply = reply ∙ ap (λ (o : Option (List Track)). fragment_reply o log a) head ∙ ap (λ (o : Option (ℕ × Fragment)). kept_reply channel log a o) is;
}

pub all_is_given : ((log more : List Entry) → IsSound (log ++ more) → IsSound log)
    → ((log more : List Entry) (address : Address) (kept : ℕ × Fragment) → kept_at log address ≡ Some kept → kept_at (log ++ more) address ≡ Some kept)
    → (h k : History) → Run true h.first h.begin h.found.disk_faults h.items h.steps h.point → Run true k.first k.begin k.found.disk_faults k.items k.steps k.point → (since : Since h k)
    → IsFaultless h.point k.point → (x : Stepped) → IsOneOf x since.on.further → (a : Address) (place : ℕ) (f : Fragment) → x.act ≡ Ask a → kept_at h.point.machine.log a ≡ Some (place, f)
    → IsGiven x a place f
all_is_given front stay h k run later since still x among a place f asks is =
    let w = without_since h k run later since still x among in
    let log = h.point.machine.log in
    let more = w.extends.0 in
    let on : x.before.log ≡ log ++ more = w.extends.1 in
    let adds = step_adds (Rose x.faults x.faults_after) x.before x.after x.act x.reply w.step in
    let sound = front log more (subst IsSound on (front x.before.log adds.0 (subst IsSound adds.1 w.sound))) in
    let head = head_channel log a place f sound is in
    let kept_now : kept_at x.before.log a ≡ Some (place, f) = ap (λ (l : List Entry). kept_at l a) on ∙ stay log more a (place, f) is in
    let channel_now = channel_in log x.before.log more head.0 head.1 head.2 on in
    elim (step_reads (Rose x.faults x.faults_after) w.none x.before x.after x.act x.reply (ap entry_of asks) w.step) [
      | inl reply ↦ inl (gives x.before.log a place f head.0 x.reply channel_now kept_now (reply ∙ ap (reply_of x.before.log) asks))
      | inr starved ↦ inr starved
    ]

pub all_is_taken : (h k : History) → Run true h.first h.begin h.found.disk_faults h.items h.steps h.point → Run true k.first k.begin k.found.disk_faults k.items k.steps k.point → (since : Since h k)
    → IsFaultless h.point k.point → h.point.machine.doubt ≡ None → (x : Stepped) → IsOneOf x since.on.further → (e : Entry) (counted : Counted) → entry_of x.act ≡ Some e → judged x.before.log e ≡ Fresh counted
    → IsTaken x e counted
all_is_taken h k run later since still doubt x among e counted adds fresh =
    let w = without_since h k run later since still x among in
    step_fresh (Rose x.faults x.faults_after) w.none x.before x.after x.act e counted x.reply (w.doubt doubt) adds fresh w.step
