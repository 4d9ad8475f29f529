-- What an origin sends in answer to a GET is a reply of it.
use Rattle.std.proofs.Common.{◌≡◌, ◌⊎◌, inl, inr, ℕ, suc, ◌+◌, ◌<◌, ◌≤◌, ◌^◌, Bool, true, false, if◌then◌else◌, List, [], ◌∷◌, ◌++◌, length, Option, Some, None, refl, sym, ◌∙◌, ap, subst, arith, length-append}
use Rattle.std.specs.Prelude.{codes}
use Rattle.std.specs.Fmt.{digits}
use Rattle.std.specs.List.{position}
use Rattle.std.proofs.lemmas.List.Quantifiers.{position-Some}
use Rattle.http.specs.StatusCode.{IsStatusCode}
use Rattle.sm_model.specs.declared.act.Act.{Act}
use Rattle.sm_model.specs.declared.act.Act.TheVariants as acts
use Rattle.sm_model.specs.declared.address.Address.{Address}
use Rattle.sm_model.specs.declared.cause.Cause.{Cause}
use Rattle.sm_model.specs.declared.cause.Cause.TheVariants as cause
use Rattle.sm_model.specs.declared.entry.Entry.{Entry}
use Rattle.sm_model.specs.declared.entry.Entry.TheVariants.{Declare, Keep}
use Rattle.sm_model.specs.declared.fragment.Fragment.{Fragment}
use Rattle.sm_model.specs.declared.target.Target.{Target}
use Rattle.sm_model.specs.declared.target.Target.TheVariants as targets
use Rattle.sm_model.specs.declared.track.Track.{Track}
use Rattle.sm_model.specs.Causes.{cause_line}
use Rattle.sm_model.specs.Channels.{IsChannel}
use Rattle.sm_model.specs.Fragments.{IsValid}
use Rattle.sm_model.specs.FragText.{frag_text, moof, mdat, ahead_len}
use Rattle.sm_model.proofs.TextLengths.{moof-len, mdat-len}
use Rattle.sm_log.specs.Logs.{channel_of, adds_of, is_kept_at, kept_from, kept_at, listed_by, listed_in, ahead_in, IsSound}
use Rattle.sm_log.proofs.ListedKept.{channel_sound, spans_sound, ahead_short, ahead_wide, kept_valid}
use Rattle.sm_manout.specs.ManifestText.{manifest}
use Rattle.sm_addr.specs.Targets.{target_of}
use Rattle.sm_head.specs.declared.reply.Content.TheVariants.{Xml, Mp4, Plain}
use Rattle.sm_head.specs.declared.reply.TheConstants.{NO_MEMORY}
use Rattle.sm_head.specs.Judged.{is_push}
use Rattle.sm_head.specs.Replies.{reply_text, phrase}
use Rattle.sm_reply.specs.declared.reply.Reply.{Reply}
use Rattle.sm_origin.specs.Machine.{Machine, entry_of, Row, answered, unread, unsettled, wrote, Step, row, wants, untold}
use Rattle.sm_reply.specs.Replies.{unplaced, ok, no_memory, fragment_of, manifest_of, manifest_reply, kept_reply, fragment_reply, reply_of}
use Rattle.sm_log.specs.Adds.{id_in, ids}
use Rattle.sm_origin.specs.Shown.{IsReal}
use Rattle.sm_origin.proofs.Real.{channel_writable, kept_samples}
use Rattle.sm_serve.specs.declared.texts.TheConstants.{TOO_MANY}
use Rattle.sm_serve.specs.Run.{act_of_target, sent_of}
use Rattle.sm_fetch.specs.Origins.{IsKeptText, IsUnwell, IsOriginReply}
use Rattle.sm_world.specs.Replying.{given, IsRefusable, Replaces, IsReplyTo}
use Rattle.sm_world.proofs.ManifestSize.{few_listed, manifest_size}

-- ---- what is kept stands within the log

kept_within : (a : Address) (from : ℕ) (log : List Entry) (k : ℕ × Fragment) → kept_from a from log ≡ Some k → k.0 < from + length log
kept_within a from [] k is = absurd (cc)
kept_within a from (Declare tracks ∷ log) k is = let later = kept_within a (suc from) log k is in omega (arith, later)
kept_within a from (Keep f ∷ log) k is = here (is_kept_at a f) is (λ e. kept_within a (suc from) log k e)
  where
    here : (b : Bool) → (if b then Some (from, f) else kept_from a (suc from) log) ≡ Some k → (kept_from a (suc from) log ≡ Some k → k.0 < suc from + length log)
        → k.0 < from + length (Keep f ∷ log)
    here true e rest = let first : from ≡ k.0 = cc in omega (arith, first)
    here false e rest = let later = rest e in omega (arith, later)

-- ---- texts that stand ready

-- a plain line that says that all isn't well
unwell : (log : List Entry) (named : List ℕ) (status : ℕ) (line : List ℕ) (close : Bool) → IsStatusCode status → 200 ≤ status → length line < 10 ^ 18 → IsUnwell status named
    → IsOriginReply log named (reply_text status Plain line close)
unwell log named status line close code final short is = record {
  status = status;
  kind = Plain;
  body = line;
  close = close;
  code = code;
  final = final;
  short = short;
  text = refl;
  manifest = λ asks. inr is;
  fragment = λ a asks. inr is;
}

no_memory_text : NO_MEMORY.now ≡ reply_text 500 Plain (codes "33 NoMemory" ++ 10 ∷ []) true
unfolding phrase digits
no_memory_text = refl

too_many_text : TOO_MANY.now ≡ reply_text 503 Plain (codes "49 TooManyConnections" ++ 10 ∷ []) true
unfolding phrase digits
too_many_text = refl

pub no_memory_is_reply : (log : List Entry) (named : List ℕ) → IsOriginReply log named NO_MEMORY.now
no_memory_is_reply log named =
    subst (λ (text : List ℕ). IsOriginReply log named text) (sym no_memory_text)
    (unwell log named 500 (codes "33 NoMemory" ++ 10 ∷ []) true (omega arith, omega arith) (omega arith) (omega arith) (inl refl))

pub too_many_is_reply : (log : List Entry) (named : List ℕ) → IsOriginReply log named TOO_MANY.now
too_many_is_reply log named =
    subst (λ (text : List ℕ). IsOriginReply log named text) (sym too_many_text)
    (unwell log named 503 (codes "49 TooManyConnections" ++ 10 ∷ []) true (omega arith, omega arith) (omega arith) (omega arith) (inr (inl refl)))

-- ---- lines

disk_line : length (cause_line 0 cause.DiskFault) < 10 ^ 18
unfolding digits
disk_line = omega arith

channel_line : length (cause_line 0 cause.NoChannel) < 10 ^ 18
unfolding digits
channel_line = omega arith

kept_line : length (cause_line 0 cause.NotKept) < 10 ^ 18
unfolding digits
kept_line = omega arith

target_line : length (cause_line 0 cause.NoTarget) < 10 ^ 18
unfolding digits
target_line = omega arith

method_line : length (cause_line 0 cause.Method) < 10 ^ 18
unfolding digits
method_line = omega arith

large_line : length (cause_line 0 cause.HeadTooLarge) < 10 ^ 18
unfolding digits
large_line = omega arith

-- ---- what a log keeps

none_kept : (log : List Entry) (a : Address) → IsSound log → channel_of log ≡ None → kept_at log a ≡ None
none_kept [] a sound is = refl
none_kept (Declare tracks ∷ log) a sound is = absurd (cc)
none_kept (Keep f ∷ log) a sound is = absurd (let new = (sound.each [] log (Keep f) refl).1 in cc)

place_low : (p : Track → Bool) (channel : List Track) (o : Option ℕ) → position p channel ≡ o → length channel ≤ 64 → ids o < 2 ^ 32
place_low p channel None is few = omega arith
place_low p [] (Some i) is few = absurd (cc)
place_low p (t ∷ ts) (Some i) is few = let at = (position-Some p (t ∷ ts) i t is).0 in omega arith

id_low : (channel : List Track) (a : Address) → IsChannel channel → id_in channel a < 2 ^ 32
id_low channel a is = place_low _ channel _ refl is.few

ahead_low : (ps : List (ℕ × ℕ)) → length ps ≤ 2 → ahead_len ps ≤ 61
ahead_low [] few = omega arith
ahead_low (p ∷ ps) few = omega arith

text_low : (seq id : ℕ) (f : Fragment) (ahead : List (ℕ × ℕ)) → IsValid f → length ahead ≤ 2 → length (frag_text seq id f ahead) < 10 ^ 18
text_low seq id f ahead valid few =
    let samples = valid.few in
    let bytes = valid.short in
    let m = moof-len seq id f ahead in
    let d = mdat-len f.samples in
    let extra = ahead_low ahead few in
    omega (arith, length-append (moof seq id f ahead) (mdat f.samples), m, d, extra, samples, bytes)

-- ---- replies

abbrev Replies : List Entry → List ℕ → Reply → Type 0
Replies log named r = (bytes : List ℕ) → sent_of r ≡ Some bytes → IsOriginReply log named bytes

sent_as : (log : List Entry) (named : List ℕ) (r s : Reply) (text : List ℕ) → r ≡ s → sent_of s ≡ Some text → IsOriginReply log named text → Replies log named r
sent_as log named r s text is sends reply bytes some =
    let same : text ≡ bytes = (let e : Some text ≡ Some bytes = sym sends ∙ sym (ap sent_of is) ∙ some in cc) in
    subst (λ (t : List ℕ). IsOriginReply log named t) same reply

not_push : (named : List ℕ) (t : Target) → is_push (target_of named) ≡ true → target_of named ≡ t → is_push t ≡ false → ⊥
not_push named t push is none = let e : true ≡ false = sym push ∙ ap is_push is ∙ none in cc

module _ (log : List Entry) (named : List ℕ) where
  wants_memory : (r : Reply) → r ≡ no_memory → Replies log named r
  wants_memory r is = sent_as log named r no_memory NO_MEMORY.now is refl (no_memory_is_reply log named)

  disk_failed : (r : Reply) → r ≡ unplaced cause.DiskFault → Replies log named r
  disk_failed r is =
      sent_as log named r (unplaced cause.DiskFault) (reply_text 503 Plain (cause_line 0 cause.DiskFault) true) is refl
      (unwell log named 503 (cause_line 0 cause.DiskFault) true (omega arith, omega arith) (omega arith) disk_line (inr (inl refl)))

  -- no line for a target that is none of the two
  other_line : (status : ℕ) (line : List ℕ) (close : Bool) → IsStatusCode status → 200 ≤ status → length line < 10 ^ 18 → (target_of named ≡ targets.Manifest → ⊥)
      → ((a : Address) → target_of named ≡ targets.Fragment a → ⊥) → IsOriginReply log named (reply_text status Plain line close)
  other_line status line close code final short one two = record {
    status = status;
    kind = Plain;
    body = line;
    close = close;
    code = code;
    final = final;
    short = short;
    text = refl;
    manifest = λ asks. absurd (one asks);
    fragment = λ a asks. absurd (two a asks);
  }

  pub refusal_is_reply : (c : Cause) (r : Reply) → IsRefusable named c → r ≡ unplaced c → Replies log named r
  refusal_is_reply c r (inl (method, push)) is =
      sent_as log named r (unplaced cause.Method) (reply_text 405 Plain (cause_line 0 cause.Method) true) (is ∙ ap unplaced method) refl
      (other_line 405 (cause_line 0 cause.Method) true (omega arith, omega arith) (omega arith) method_line
      (λ asks. not_push named targets.Manifest push asks refl) (λ a asks. not_push named (targets.Fragment a) push asks refl))
  refusal_is_reply c r (inr (large, long)) is =
      sent_as log named r (unplaced cause.HeadTooLarge) (reply_text 431 Plain (cause_line 0 cause.HeadTooLarge) true) (is ∙ ap unplaced large) refl
      (unwell log named 431 (cause_line 0 cause.HeadTooLarge) true (omega arith, omega arith) (omega arith) large_line (inr (inr (refl, long))))

  module _ (real : IsReal log) where
    manifest_replies : target_of named ≡ targets.Manifest → (o : Option (List Track)) → channel_of log ≡ o → (r : Reply) → r ≡ manifest_reply o log → Replies log named r
    manifest_replies asks None none r is =
        sent_as log named r (unplaced cause.NoChannel) (reply_text 404 Plain (cause_line 0 cause.NoChannel) false) is refl (record {
          status = 404;
          kind = Plain;
          body = cause_line 0 cause.NoChannel;
          close = false;
          code = (omega arith, omega arith);
          final = omega arith;
          short = channel_line;
          text = refl;
          manifest = λ again. inl (inr (none, refl));
          fragment = λ a other. absurd (let e : targets.Manifest ≡ targets.Fragment a = sym asks ∙ other in cc);
        })
    manifest_replies asks (Some channel) some r is =
        let body = manifest_of channel log in
        let by : body ≡ manifest channel (listed_in log) = ap (λ (o : Option (List Track)). manifest channel (λ s. listed_by o (adds_of log) s)) (sym some) in
        let size = manifest_size channel (listed_in log) (channel_sound log channel real.sound some) (channel_writable log channel real.each some) (λ s. spans_sound log s real.sound)
        (λ s. few_listed log s real.sound) in
        sent_as log named r (ok Xml body) (reply_text 200 Xml body false) is refl (record {
          status = 200;
          kind = Xml;
          body = body;
          close = false;
          code = (omega arith, omega arith);
          final = omega arith;
          short = subst (λ (b : List ℕ). length b < 10 ^ 18) (sym by) size;
          text = refl;
          manifest = λ again. inl (inl (channel, some, refl, by));
          fragment = λ a other. absurd (let e : targets.Manifest ≡ targets.Fragment a = sym asks ∙ other in cc);
        })

    module _ (a : Address) (asks : target_of named ≡ targets.Fragment a) where
      same_address : (b : Address) → target_of named ≡ targets.Fragment b → a ≡ b
      same_address b other = let e : targets.Fragment a ≡ targets.Fragment b = sym asks ∙ other in cc

      none_there : (status : ℕ) (line : List ℕ) → status ≡ 404 → IsStatusCode status → 200 ≤ status → length line < 10 ^ 18 → kept_at log a ≡ None → IsOriginReply log named (reply_text status Plain line false)
      none_there status line is code final short none = record {
        status = status;
        kind = Plain;
        body = line;
        close = false;
        code = code;
        final = final;
        short = short;
        text = refl;
        manifest = λ other. absurd (let e : targets.Fragment a ≡ targets.Manifest = sym asks ∙ other in cc);
        fragment = λ b other. inl (inr (subst (λ (c : Address). kept_at log c ≡ None) (same_address b other) none, is));
      }

      kept_text : (channel : List Track) → channel_of log ≡ Some channel → (place : ℕ) (f : Fragment) → kept_at log a ≡ Some (place, f)
          → IsKeptText log a (fragment_of channel log a place f) × (length (fragment_of channel log a place f) < 10 ^ 18)
      kept_text channel some place f kept =
          let valid = kept_valid log a place f real.sound kept in
          let few = ahead_short log a.stream a.time in (
            record {
              seq = place;
              id = id_in channel a;
              fragment = f;
              text_is = refl;
              written = record {
                valid = valid;
                few = omega (arith, few);
                id_fits = id_low channel a (channel_sound log channel real.sound some);
                samples = kept_samples log a place f real.each kept;
                pairs = ahead_wide log a.stream a.time real.sound;
              };
              placed = kept;
              seq_fits = omega (arith, real.sound.few, kept_within a 0 log (place, f) kept);
              id_is = λ other is. ap (λ (c : List Track). id_in c a) (let same : channel ≡ other = cc in same);
            },
            text_low place (id_in channel a) f (ahead_in log a.stream a.time) valid few,
          )

      kept_replies : (channel : List Track) → channel_of log ≡ Some channel → (o : Option (ℕ × Fragment)) → kept_at log a ≡ o → (r : Reply) → r ≡ kept_reply channel log a o → Replies log named r
      kept_replies channel some None none r is =
          sent_as log named r (unplaced cause.NotKept) (reply_text 404 Plain (cause_line 0 cause.NotKept) false) is refl
          (none_there 404 (cause_line 0 cause.NotKept) refl (omega arith, omega arith) (omega arith) kept_line none)
      kept_replies channel some (Some kept) there r is =
          let body = fragment_of channel log a kept.0 kept.1 in
          let k = kept_text channel some kept.0 kept.1 there in
          sent_as log named r (ok Mp4 body) (reply_text 200 Mp4 body false) is refl (record {
            status = 200;
            kind = Mp4;
            body = body;
            close = false;
            code = (omega arith, omega arith);
            final = omega arith;
            short = k.1;
            text = refl;
            manifest = λ other. absurd (let e : targets.Fragment a ≡ targets.Manifest = sym asks ∙ other in cc);
            fragment = λ b other. inl (inl (refl, subst (λ (c : Address). IsKeptText log c body) (same_address b other) k.0));
          })

      fragment_replies : (o : Option (List Track)) → channel_of log ≡ o → (r : Reply) → r ≡ fragment_reply o log a → Replies log named r
      fragment_replies None none r is =
          sent_as log named r (unplaced cause.NoChannel) (reply_text 404 Plain (cause_line 0 cause.NoChannel) false) is refl
          (none_there 404 (cause_line 0 cause.NoChannel) refl (omega arith, omega arith) (omega arith) channel_line (none_kept log a real.sound none))
      fragment_replies (Some channel) some r is = kept_replies channel some (kept_at log a) refl r is

    no_target : (r : Reply) → r ≡ unplaced cause.NoTarget → (target_of named ≡ targets.Manifest → ⊥) → ((a : Address) → target_of named ≡ targets.Fragment a → ⊥) → Replies log named r
    no_target r is one two =
        sent_as log named r (unplaced cause.NoTarget) (reply_text 404 Plain (cause_line 0 cause.NoTarget) false) is refl
        (other_line 404 (cause_line 0 cause.NoTarget) false (omega arith, omega arith) (omega arith) target_line one two)

    target_replies : (t : Target) → target_of named ≡ t → (r : Reply) → r ≡ reply_of log (act_of_target t) → Replies log named r
    target_replies targets.Manifest asks r is = manifest_replies asks (channel_of log) refl r is
    target_replies (targets.Fragment a) asks r is = fragment_replies a asks (channel_of log) refl r is
    target_replies (targets.Streams name) asks r is =
        no_target r is (λ other. let e : targets.Streams name ≡ targets.Manifest = sym asks ∙ other in cc) (λ a other. let e : targets.Streams name ≡ targets.Fragment a = sym asks ∙ other in cc)
    target_replies targets.Unknown asks r is =
        no_target r is (λ other. let e : targets.Unknown ≡ targets.Manifest = sym asks ∙ other in cc) (λ a other. let e : targets.Unknown ≡ targets.Fragment a = sym asks ∙ other in cc)

-- ---- steps

adds_none : (t : Target) → entry_of (act_of_target t) ≡ None
adds_none targets.Manifest = refl
adds_none (targets.Fragment a) = refl
adds_none (targets.Streams name) = refl
adds_none targets.Unknown = refl

-- what is sent behind a step that adds nothing, by what its log says
module _ (failed : Type 0) (named : List ℕ) (m n : Machine) (act : Act) (none : entry_of act ≡ None) (says : (r : Reply) → r ≡ reply_of m.log act → Replies m.log named r) where
  row_replies : (r : Reply) → Row failed m act n r → Replies m.log named r
  row_replies r (answered e same is) = says r is
  row_replies r (unread a place f asks kept same fault is) = disk_failed m.log named r is
  row_replies r (unsettled e d entry doubt same fault is) = absurd (let bad : None ≡ Some e = sym none ∙ entry in cc)
  row_replies r (wrote e mid entry clear by) = absurd (let bad : None ≡ Some e = sym none ∙ entry in cc)

  step_replies : (r : Reply) → Step failed m act n r → Replies m.log named r
  step_replies r (row by) = row_replies r by
  step_replies r (wants same is) = wants_memory m.log named r is
  step_replies r (untold meant by close is) = wants_memory m.log named r is

-- ---- the reply itself

manifest_sent : (log : List Entry) (o : Option (List Track)) → sent_of (manifest_reply o log) ≡ Some (manifest_reply o log).bytes
manifest_sent log None = refl
manifest_sent log (Some channel) = refl

kept_sent : (log : List Entry) (a : Address) (channel : List Track) (o : Option (ℕ × Fragment)) → sent_of (kept_reply channel log a o) ≡ Some (kept_reply channel log a o).bytes
kept_sent log a channel None = refl
kept_sent log a channel (Some kept) = refl

fragment_sent : (log : List Entry) (a : Address) (o : Option (List Track)) → sent_of (fragment_reply o log a) ≡ Some (fragment_reply o log a).bytes
fragment_sent log a None = refl
fragment_sent log a (Some channel) = kept_sent log a channel (kept_at log a)

target_sent : (log : List Entry) (t : Target) → sent_of (reply_of log (act_of_target t)) ≡ Some (reply_of log (act_of_target t)).bytes
target_sent log targets.Manifest = manifest_sent log (channel_of log)
target_sent log (targets.Fragment a) = fragment_sent log a (channel_of log)
target_sent log (targets.Streams name) = refl
target_sent log targets.Unknown = refl

same_sent : (r s : Reply) (text bytes : List ℕ) → r ≡ s → sent_of s ≡ Some text → sent_of r ≡ Some bytes → bytes ≡ text
same_sent r s text bytes is sends some = let e : Some bytes ≡ Some text = sym some ∙ ap sent_of is ∙ sends in cc

asks_for : (t : Target) (a : Address) → act_of_target t ≡ acts.Fragment a → t ≡ targets.Fragment a
asks_for targets.Manifest a is = absurd (cc)
asks_for (targets.Fragment b) a is = let same : b ≡ a = cc in ap (λ (x : Address). targets.Fragment x) same
asks_for (targets.Streams name) a is = absurd (cc)
asks_for targets.Unknown a is = absurd (cc)

abbrev Says : (failed crowded : Type 0) → List Entry → List ℕ → List ℕ → Type 0
Says failed crowded log named bytes = (bytes ≡ given log named) ⊎ Replaces failed crowded log named bytes

module _ (failed crowded : Type 0) (named : List ℕ) (m n : Machine) (r : Reply) (bytes : List ℕ) (some : sent_of r ≡ Some bytes) where
  wants_said : r ≡ no_memory → Says failed crowded m.log named bytes
  wants_said is = inr (inl (same_sent r no_memory NO_MEMORY.now bytes is refl some))

  row_said : Row failed m (act_of_target (target_of named)) n r → Says failed crowded m.log named bytes
  row_said (answered e same is) =
      inl (same_sent r (reply_of m.log (act_of_target (target_of named))) (given m.log named) bytes is (target_sent m.log (target_of named)) some)
  row_said (unread a place f asks kept same fault is) = inr (inr (inr (inl (record {
    address = a;
    place = place;
    fragment = f;
    asks = asks_for (target_of named) a asks;
    kept = kept;
    why = fault;
    reply_is = same_sent r (unplaced cause.DiskFault) (unplaced cause.DiskFault).bytes bytes is refl some;
  }))))
  row_said (unsettled e d entry doubt same fault is) = absurd (let bad : None ≡ Some e = sym (adds_none (target_of named)) ∙ entry in cc)
  row_said (wrote e mid entry clear by) = absurd (let bad : None ≡ Some e = sym (adds_none (target_of named)) ∙ entry in cc)

  said : Step failed m (act_of_target (target_of named)) n r → Says failed crowded m.log named bytes
  said (row by) = row_said by
  said (wants same is) = wants_said is
  said (untold meant by close is) = wants_said is

  -- a refusal, or want of memory for it
  unplaced_sent : (c : Cause) → IsRefusable named c → sent_of (unplaced c) ≡ Some (unplaced c).bytes
  unplaced_sent c (inl (method, push)) = ap sent_of (ap unplaced method) ∙ ap (λ (k : Cause). Some (unplaced k).bytes) (sym method)
  unplaced_sent c (inr (large, long)) = ap sent_of (ap unplaced large) ∙ ap (λ (k : Cause). Some (unplaced k).bytes) (sym large)

  refusal_said : (c : Cause) → IsRefusable named c → r ≡ unplaced c → Says failed crowded m.log named bytes
  refusal_said c may is = inr (inr (inr (inr (c, may, same_sent r (unplaced c) (unplaced c).bytes bytes is (unplaced_sent c may) some))))

  refused_row : (c : Cause) → IsRefusable named c → Row failed m (acts.Refuse (record { at = 0; cause = c })) n r → Says failed crowded m.log named bytes
  refused_row c may (answered e same is) = refusal_said c may is
  refused_row c may (unread a place f asks kept same fault is) = absurd (cc)
  refused_row c may (unsettled e d entry doubt same fault is) = absurd (let bad : None ≡ Some e = entry in cc)
  refused_row c may (wrote e mid entry clear by) = absurd (let bad : None ≡ Some e = entry in cc)

  refused_said : (c : Cause) → IsRefusable named c → Step failed m (acts.Refuse (record { at = 0; cause = c })) n r → Says failed crowded m.log named bytes
  refused_said c may (row by) = refused_row c may by
  refused_said c may (wants same is) = wants_said is
  refused_said c may (untold meant by close is) = wants_said is

-- what is sent in answer to a GET of a target is the reply of the log that was asked
pub asked_is_reply : (failed crowded : Type 0) (named : List ℕ) (m n : Machine) (r : Reply) (bytes : List ℕ) → IsReal m.log → Step failed m (act_of_target (target_of named)) n r → sent_of r ≡ Some bytes
    → IsReplyTo failed crowded m.log named bytes
asked_is_reply failed crowded named m n r bytes real step some = (
  said failed crowded named m n r bytes some step,
  step_replies failed named m n (act_of_target (target_of named)) (adds_none (target_of named)) (λ s is. target_replies m.log named real (target_of named) refl s is) r step bytes some,
)

-- and so is what is sent in place of one whose head is refused
pub refused_is_reply : (failed crowded : Type 0) (named : List ℕ) (m n : Machine) (c : Cause) (r : Reply) (bytes : List ℕ) → IsRefusable named c → Step failed m (acts.Refuse (record { at = 0; cause = c })) n r
    → sent_of r ≡ Some bytes → IsReplyTo failed crowded m.log named bytes
refused_is_reply failed crowded named m n c r bytes may step some = (
  refused_said failed crowded named m n r bytes some c may step,
  step_replies failed named m n (acts.Refuse (record { at = 0; cause = c })) refl (λ s is. refusal_is_reply m.log named c s may is) r step bytes some,
)

-- texts that stand ready
pub no_memory_replies : (failed crowded : Type 0) (log : List Entry) (named : List ℕ) → IsReplyTo failed crowded log named NO_MEMORY.now
no_memory_replies failed crowded log named = (inr (inl refl), no_memory_is_reply log named)

pub too_many_replies : (failed crowded : Type 0) (log : List Entry) (named : List ℕ) → crowded → IsReplyTo failed crowded log named TOO_MANY.now
too_many_replies failed crowded log named so = (inr (inr (inl (refl, so))), too_many_is_reply log named)
