-- The replies of steps, by their status.
use Rattle.std.proofs.Common.{◌≡◌, ◌≢◌, ◌⊎◌, inl, inr, ℕ, ◌≤◌, ◌<◌, ◌==◌, ◌&&◌, not, Bool, true, false, nat_le, nat_lt, List, ◌++◌, Option, Some, None, option_map, slice_get, refl, sym, ◌∙◌, ap, subst, arith}
use Rattle.std.proofs.lemmas.Bool.{leb-true, ltb-true}
use Rattle.sm_model.specs.declared.act.Act.{Act}
use Rattle.sm_model.specs.declared.act.Act.TheVariants.{Manifest, Fragment as Ask, Unknown, Header, Frag, End, Refuse}
use Rattle.sm_model.specs.declared.address.Address.{Address}
use Rattle.sm_model.specs.declared.cause.Cause.{Cause}
use Rattle.sm_model.specs.declared.cause.Cause.TheVariants as cause
use Rattle.sm_model.specs.declared.cause.Refusal.{Refusal}
use Rattle.sm_model.specs.declared.entry.Entry.{Entry}
use Rattle.sm_model.specs.declared.entry.Entry.TheVariants.{Declare, Keep}
use Rattle.sm_model.specs.declared.fragment.Fragment.{Fragment}
use Rattle.sm_model.specs.declared.track.Track.{Track}
use Rattle.sm_model.specs.Causes.{cause_status, cause_line}
use Rattle.sm_log.specs.declared.verdict.Checked.{Checked}
use Rattle.sm_log.specs.declared.verdict.Checked.TheVariants as checked
use Rattle.sm_log.specs.declared.verdict.Judged.{Judged as Verdict}
use Rattle.sm_log.specs.declared.verdict.Judged.TheVariants as verdicts
use Rattle.sm_log.specs.Headers.{check}
use Rattle.sm_log.specs.Logs.{kept_at, verdict_on, channel_of}
use Rattle.sm_head.specs.declared.reply.Content.{Content}
use Rattle.sm_head.specs.declared.reply.Content.TheVariants.{Plain, Xml, Mp4}
use Rattle.sm_head.specs.Replies.{reply_text}
use Rattle.sm_head.specs.Shown.{shows_status}
use Rattle.sm_archive.specs.Declaring.{refusal_in}
use Rattle.sm_reply.specs.declared.reply.Reply.{Reply}
use Rattle.sm_reply.specs.declared.reply.Counted.{Counted}
use Rattle.sm_reply.specs.Replies.{closes, told, unplaced, ok, silent, no_memory, manifest_of, fragment_of, counts_line, manifest_reply, kept_reply, fragment_reply, reply_of}
use Rattle.sm_origin.specs.Machine.{Machine, entry_of, Not, by_verdict, by_check, by_channel, judged}
use Rattle.sm_origin.specs.Machine.{Writes, refused, there, full, kept, unwritten, Row, answered, unread, unsettled, wrote, Step, row, wants, untold}

-- ---- the statuses of refusals

is_refusal : (c : Cause) → (nat_le 400 (cause_status c) && nat_lt (cause_status c) 508) ≡ true
is_refusal cause.BadBox = refl
is_refusal cause.BoxTooLarge = refl
is_refusal cause.OpenEnded = refl
is_refusal cause.NoHeader = refl
is_refusal (cause.BadLiveManifest inside) = refl
is_refusal cause.BadMoov = refl
is_refusal cause.UnknownTrack = refl
is_refusal (cause.NotDeclared stream bitrate) = refl
is_refusal (cause.DeclClash stream bitrate) = refl
is_refusal cause.Protected = refl
is_refusal cause.ManyTracks = refl
is_refusal cause.ManyRuns = refl
is_refusal cause.BaseOffset = refl
is_refusal cause.NoTime = refl
is_refusal cause.NoDuration = refl
is_refusal cause.NoSamples = refl
is_refusal cause.SamplesOutside = refl
is_refusal cause.NoMdat = refl
is_refusal (cause.DurationClash before given) = refl
is_refusal (cause.Overlap end) = refl
is_refusal cause.CutOff = refl
is_refusal cause.TimeTooLarge = refl
is_refusal cause.TooManySamples = refl
is_refusal cause.BadRun = refl
is_refusal cause.Full = refl
is_refusal cause.DiskFault = refl
is_refusal cause.Damaged = refl
is_refusal cause.NoMemory = refl
is_refusal cause.Forward = refl
is_refusal cause.BadHead = refl
is_refusal cause.HeadTooLarge = refl
is_refusal cause.NoTarget = refl
is_refusal cause.Method = refl
is_refusal cause.Encoded = refl
is_refusal cause.BadChunk = refl
is_refusal cause.LengthRequired = refl
is_refusal cause.NotKept = refl
is_refusal cause.NoChannel = refl
is_refusal cause.TooManyConnections = refl

both_true : (a b : Bool) → (a && b) ≡ true → (a ≡ true) × (b ≡ true)
both_true true b e = (refl, e)
both_true false b e = absurd (cc)

pub refusal_status : (c : Cause) → (400 ≤ cause_status c) × (cause_status c < 508)
refusal_status c = let p = both_true (nat_le 400 (cause_status c)) (nat_lt (cause_status c) 508) (is_refusal c) in (leb-true 400 (cause_status c) p.0, ltb-true (cause_status c) 508 p.1)

-- ---- the forms of replies

pub data Form (r : Reply) : Type 0 where
  tells : (why : Refusal) → r ≡ told why → Form r
  gives : (kind : Content) (body : List ℕ) → r ≡ ok kind body → Form r
  starves : r ≡ no_memory → Form r

-- a reply to a request
manifest_form : (channel : Option (List Track)) (log : List Entry) → Form (manifest_reply channel log)
manifest_form None log = tells (record { at = 0; cause = cause.NoChannel }) refl
manifest_form (Some channel) log = gives Xml (manifest_of channel log) refl

kept_form : (channel : List Track) (log : List Entry) (a : Address) (k : Option (ℕ × Fragment)) → Form (kept_reply channel log a k)
kept_form channel log a None = tells (record { at = 0; cause = cause.NotKept }) refl
kept_form channel log a (Some k) = gives Mp4 (fragment_of channel log a k.0 k.1) refl

fragment_form : (channel : Option (List Track)) (log : List Entry) (a : Address) → Form (fragment_reply channel log a)
fragment_form None log a = tells (record { at = 0; cause = cause.NoChannel }) refl
fragment_form (Some channel) log a = kept_form channel log a (kept_at log a)

reading_form : (log : List Entry) (act : Act) → entry_of act ≡ None → Form (reply_of log act)
reading_form log Manifest none = manifest_form (channel_of log) log
reading_form log (Ask a) none = fragment_form (channel_of log) log a
reading_form log Unknown none = tells (record { at = 0; cause = cause.NoTarget }) refl
reading_form log (Header header) none = absurd (cc)
reading_form log (Frag f) none = absurd (cc)
reading_form log (End kept_ known) none = gives Plain (counts_line kept_ known) refl
reading_form log (Refuse why) none = tells why refl

as_form : (r s : Reply) → r ≡ s → Form s → Form r
as_form r s is form = subst Form (sym is) form

-- of an act that only reads
pub row_reads : (broken : Type 0) (m n : Machine) (act : Act) (r : Reply) → Row broken m act n r → entry_of act ≡ None → Form r
row_reads broken m n act r (answered none same is) reads = as_form r (reply_of m.log act) is (reading_form m.log act none)
row_reads broken m n act r (unread a place f asks kept_ same failed is) reads = tells (record { at = 0; cause = cause.DiskFault }) is
row_reads broken m n act r (unsettled e d entry doubt same failed is) reads = tells (record { at = 0; cause = cause.DiskFault }) is
row_reads broken m n act r (wrote e mid entry clear by) reads = let bad : None ≡ Some e = sym reads ∙ entry in absurd (cc)

pub step_reads : (broken : Type 0) (m n : Machine) (act : Act) (r : Reply) → Step broken m act n r → entry_of act ≡ None → Form r
step_reads broken m n act r (row by) reads = row_reads broken m n act r by reads
step_reads broken m n act r (wants same is) reads = starves is
step_reads broken m n act r (untold meant by close is) reads = starves is

form_status : (r : Reply) → Form r → (r.status ≡ 200) ⊎ (400 ≤ r.status)
form_status r (tells why is) = let low = (refusal_status why.cause).0 in let same : r.status ≡ cause_status why.cause = ap (λ (s : Reply). s.status) is in inr (omega (arith, low, same))
form_status r (gives kind body is) = inl (ap (λ (s : Reply). s.status) is)
form_status r (starves is) = let same : r.status ≡ 500 = ap (λ (s : Reply). s.status) is in inr (omega (arith, same))

-- ---- acts that write

-- what a log says against an entry is a conflict
verdict_conflict : (f : Fragment) (v : Verdict) (why : Cause) → by_verdict f v ≡ Not why → cause_status why ≡ 409
verdict_conflict f verdicts.New why is = absurd (cc)
verdict_conflict f (verdicts.Known place) why is = absurd (cc)
verdict_conflict f verdicts.NotDeclared why is = let same : cause.NotDeclared f.stream f.bitrate ≡ why = cc in ap cause_status (sym same)
verdict_conflict f (verdicts.Clash k) why is = let same : cause.DurationClash k f.duration ≡ why = cc in ap cause_status (sym same)
verdict_conflict f (verdicts.Overlap end) why is = let same : cause.Overlap end ≡ why = cc in ap cause_status (sym same)

lacks_conflict : (o : Option Track) (why : Cause) → by_check (option_map (λ (t : Track). cause.NotDeclared t.name t.bitrate) o) ≡ Not why → cause_status why ≡ 409
lacks_conflict None why is = absurd (cc)
lacks_conflict (Some t) why is = let same : cause.NotDeclared t.name t.bitrate ≡ why = cc in ap cause_status (sym same)

clash_conflict : (o : Option Track) (why : Cause) → by_check (option_map (λ (t : Track). cause.DeclClash t.name t.bitrate) o) ≡ Not why → cause_status why ≡ 409
clash_conflict None why is = absurd (cc)
clash_conflict (Some t) why is = let same : cause.DeclClash t.name t.bitrate ≡ why = cc in ap cause_status (sym same)

check_conflict : (header : List Track) (c : Checked) (why : Cause) → by_check (refusal_in header c) ≡ Not why → cause_status why ≡ 409
check_conflict header checked.Agreed why is = absurd (cc)
check_conflict header (checked.NotDeclared index) why is = lacks_conflict (slice_get header index) why is
check_conflict header (checked.Clash index) why is = clash_conflict (slice_get header index) why is

channel_conflict : (header : List Track) (channel : Option (List Track)) (why : Cause) → by_channel header channel ≡ Not why → cause_status why ≡ 409
channel_conflict header None why is = absurd (cc)
channel_conflict header (Some channel) why is = check_conflict header (check channel header) why is

judged_conflict : (log : List Entry) (e : Entry) (why : Cause) → judged log e ≡ Not why → cause_status why ≡ 409
judged_conflict log (Declare header) why is = channel_conflict header (channel_of log) why is
judged_conflict log (Keep f) why is = verdict_conflict f (verdict_on log f) why is

-- an act that writes is answered by nothing, or by a refusal that closes, or starves
pub data Closing (r : Reply) : Type 0 where
  quiet : (counted : Counted) → r ≡ silent counted → Closing r
  shuts : (why : Cause) → closes why ≡ true → r ≡ unplaced why → Closing r
  starved : r ≡ no_memory → Closing r

closes_conflict : (why : Cause) → cause_status why ≡ 409 → closes why ≡ true
closes_conflict why is = ap (λ (s : ℕ). not (s == 404)) is

writes_closing : (broken : Type 0) (m n : Machine) (e : Entry) (r : Reply) → Writes broken m e n r → Closing r
writes_closing broken m n e r (refused why not_so same is) = shuts why (closes_conflict why (judged_conflict m.log e why not_so)) is
writes_closing broken m n e r (there counted so same is) = quiet counted is
writes_closing broken m n e r (full counted so limit same is) = shuts cause.Full refl is
writes_closing broken m n e r (kept counted so limit log doubt is) = quiet counted is
writes_closing broken m n e r (unwritten counted so limit log doubt failed is) = shuts cause.DiskFault refl is

row_closing : (broken : Type 0) (m n : Machine) (act : Act) (r : Reply) (e : Entry) → Row broken m act n r → entry_of act ≡ Some e → Closing r
row_closing broken m n act r e (answered none same is) writes = let bad : None ≡ Some e = sym none ∙ writes in absurd (cc)
row_closing broken m n act r e (unread a place f asks kept_ same failed is) writes = shuts cause.DiskFault refl is
row_closing broken m n act r e (unsettled d x entry doubt same failed is) writes = shuts cause.DiskFault refl is
row_closing broken m n act r e (wrote d mid entry clear by) writes = writes_closing broken mid n d r by

step_closing : (broken : Type 0) (m n : Machine) (act : Act) (r : Reply) (e : Entry) → Step broken m act n r → entry_of act ≡ Some e → Closing r
step_closing broken m n act r e (row by) writes = row_closing broken m n act r e by writes
step_closing broken m n act r e (wants same is) writes = starved is
step_closing broken m n act r e (untold meant by close is) writes = starved is

pub closing_refused : (broken : Type 0) (m n : Machine) (act : Act) (r : Reply) (e : Entry) → Step broken m act n r → entry_of act ≡ Some e → r.status ≢ 0 → (r.status ≢ 200) × (r.close ≡ true)
closing_refused broken m n act r e step writes some = go (step_closing broken m n act r e step writes)
  where
    go : Closing r → (r.status ≢ 200) × (r.close ≡ true)
    go (quiet counted is) = absurd (some (ap (λ (s : Reply). s.status) is))
    go (shuts why close is) =
        let low = (refusal_status why).0 in
        let same : r.status ≡ cause_status why = ap (λ (s : Reply). s.status) is in
        (λ well. omega (arith, low, same, well), ap (λ (s : Reply). s.close) is ∙ close)
    go (starved is) = let same : r.status ≡ 500 = ap (λ (s : Reply). s.status) is in (λ well. omega (arith, same, well), ap (λ (s : Reply). s.close) is)

-- ---- of every act

entry_cases : (o : Option Entry) → (o ≡ None) ⊎ ((e : Entry) × (o ≡ Some e))
entry_cases None = inl refl
entry_cases (Some e) = inr (e, refl)

pub reads_some : (broken : Type 0) (m n : Machine) (act : Act) (r : Reply) → Step broken m act n r → entry_of act ≡ None → r.status ≢ 0
reads_some broken m n act r step reads is =
    elim (form_status r (step_reads broken m n act r step reads)) [
      | inl well ↦ omega (arith, well, is)
      | inr high ↦ omega (arith, high, is)
    ]

pub refusal_differs : (broken : Type 0) (m n : Machine) (why : Refusal) (r : Reply) → Step broken m (Refuse why) n r → r.status ≢ 200
refusal_differs broken m n why r (row (answered none same is)) well =
    let low = (refusal_status why.cause).0 in
    let status : r.status ≡ cause_status why.cause = ap (λ (s : Reply). s.status) is in
    omega (arith, low, status, well)
refusal_differs broken m n why r (row (unread a place f asks kept_ same failed is)) well = absurd (cc)
refusal_differs broken m n why r (row (unsettled e d entry doubt same failed is)) well = absurd (cc)
refusal_differs broken m n why r (row (wrote e mid entry clear by)) well = absurd (cc)
refusal_differs broken m n why r (wants same is) well = let status : r.status ≡ 500 = ap (λ (s : Reply). s.status) is in omega (arith, status, well)
refusal_differs broken m n why r (untold meant by close is) well = let status : r.status ≡ 500 = ap (λ (s : Reply). s.status) is in omega (arith, status, well)

pub final_status : (broken : Type 0) (m n : Machine) (act : Act) (r : Reply) → Step broken m act n r → r.status ≢ 100
final_status broken m n act r step is =
    elim (entry_cases (entry_of act)) [
      | inl reads ↦ elim (form_status r (step_reads broken m n act r step reads)) [
        | inl well ↦ omega (arith, well, is)
        | inr high ↦ omega (arith, high, is)
      ]
      | inr (e, writes) ↦ go (step_closing broken m n act r e step writes)
    ]
  where
    go : Closing r → ⊥
    go (quiet counted same) = let status : r.status ≡ 0 = ap (λ (s : Reply). s.status) same in omega (arith, status, is)
    go (shuts why close same) = let low = (refusal_status why).0 in let status : r.status ≡ cause_status why = ap (λ (s : Reply). s.status) same in omega (arith, low, status, is)
    go (starved same) = let status : r.status ≡ 500 = ap (λ (s : Reply). s.status) same in omega (arith, status, is)

-- ---- what its bytes say

abbrev IsCode : ℕ → Type 0
IsCode n = (100 ≤ n) × (n < 1000)

-- its bytes are written with its status
record IsWritten (r : Reply) : Type 0 where
  kind : Content
  body : List ℕ
  close : Bool
  code : IsCode r.status
  bytes : r.bytes ≡ reply_text r.status kind body close

told_written : (why : Refusal) → IsWritten (told why)
told_written why = let b = refusal_status why.cause in record { kind = Plain; body = cause_line why.at why.cause; close = closes why.cause; code = (let low = b.0 in omega (arith, low), let high = b.1 in omega (arith, high)); bytes = refl }

ok_written : (kind : Content) (body : List ℕ) → IsWritten (ok kind body)
ok_written kind body = record { kind = kind; body = body; close = false; code = (omega arith, omega arith); bytes = refl }

form_written : (r : Reply) → Form r → r.status ≢ 500 → IsWritten r
form_written r (tells why is) other = subst IsWritten (sym is) (told_written why)
form_written r (gives kind body is) other = subst IsWritten (sym is) (ok_written kind body)
form_written r (starves is) other = absurd (other (ap (λ (s : Reply). s.status) is))

closing_written : (r : Reply) → Closing r → r.status ≢ 0 → r.status ≢ 500 → IsWritten r
closing_written r (quiet counted is) some other = absurd (some (ap (λ (s : Reply). s.status) is))
closing_written r (shuts why close is) some other = subst IsWritten (sym is) (told_written (record { at = 0; cause = why }))
closing_written r (starved is) some other = absurd (other (ap (λ (s : Reply). s.status) is))

step_written : (broken : Type 0) (m n : Machine) (act : Act) (r : Reply) → Step broken m act n r → r.status ≢ 0 → r.status ≢ 500 → IsWritten r
step_written broken m n act r step some other =
    elim (entry_cases (entry_of act)) [
      | inl reads ↦ form_written r (step_reads broken m n act r step reads) other
      | inr (e, writes) ↦ closing_written r (step_closing broken m n act r e step writes) some other
    ]

pub says_own : ((status other : ℕ) (kind : Content) (body : List ℕ) (close : Bool) (part more : List ℕ) → IsCode status → IsCode other → part ++ more ≡ reply_text status kind body close → shows_status other part ≡ true
    → other ≡ status)
    → (broken : Type 0) (m n : Machine) (act : Act) (r : Reply) → Step broken m act n r → r.status ≢ 0 → r.status ≢ 500 → (part more : List ℕ) → part ++ more ≡ r.bytes
    → (other : ℕ) → IsCode other → shows_status other part ≡ true → other ≡ r.status
says_own law broken m n act r step some differs part more whole other code shown =
    let w = step_written broken m n act r step some differs in
    law r.status other w.kind w.body w.close part more w.code code (whole ∙ w.bytes) shown
