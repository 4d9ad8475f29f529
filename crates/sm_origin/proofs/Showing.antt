-- What the parts of replies to requests show.
use Rattle.std.proofs.Common.{◌≡◌, ◌≢◌, ◌⊎◌, inl, inr, ℕ, ◌≤◌, ◌<◌, ◌^◌, ◌==◌, ◌&&◌, Bool, true, false, List, [], ◌∷◌, ◌++◌, length, Option, Some, None, IsSome, is_some, slice_get, refl, sym, ◌∙◌, ap, subst, arith}
use Rattle.std.specs.Prelude.{All}
use Rattle.std.specs.List.{position}
use Rattle.std.proofs.lemmas.List.Quantifiers.{position-Some}
use Rattle.sm_model.specs.declared.act.Act.{Act}
use Rattle.sm_model.specs.declared.act.Act.TheVariants.{Manifest, Fragment as Ask}
use Rattle.sm_model.specs.declared.address.Address.{Address}
use Rattle.sm_model.specs.declared.cause.Cause.{Cause}
use Rattle.sm_model.specs.declared.cause.Cause.TheVariants as cause
use Rattle.sm_model.specs.declared.entry.Entry.{Entry}
use Rattle.sm_model.specs.declared.fragment.Fragment.{Fragment}
use Rattle.sm_model.specs.declared.sample.Sample.{Sample}
use Rattle.sm_model.specs.declared.target.Target.TheVariants as targets
use Rattle.sm_model.specs.declared.track.Track.{Track}
use Rattle.sm_model.specs.Causes.{cause_status, cause_line}
use Rattle.sm_model.specs.Channels.{IsChannel}
use Rattle.sm_model.specs.Fragments.{IsValid, IsWide}
use Rattle.sm_model.specs.FragText.{frag_text}
use Rattle.sm_model.specs.Same.{is_same}
use Rattle.sm_model.specs.Written.{IsWritten}
use Rattle.sm_log.specs.Times.{entry_at}
use Rattle.sm_log.specs.Logs.{channel_of, kept_at, listed_in, ahead_in, IsSound}
use Rattle.sm_head.specs.declared.reply.Content.{Content}
use Rattle.sm_head.specs.declared.reply.Content.TheVariants.{Plain, Xml, Mp4}
use Rattle.sm_head.specs.Replies.{reply_text}
use Rattle.sm_head.specs.Shown.{shows_status, body_of}
use Rattle.sm_moof.specs.Shown.{NamesIn, ServesIn}
use Rattle.sm_manout.specs.Shown.{ListsIn, IsWritable}
use Rattle.sm_reply.specs.declared.reply.Reply.{Reply}
use Rattle.sm_reply.specs.Replies.{closes, unplaced, ok, manifest_of, fragment_of, manifest_reply, kept_reply, fragment_reply, reply_of}
use Rattle.sm_log.specs.Adds.{ids, id_in}
use Rattle.sm_origin.specs.Machine.{Machine, answered, unread, unsettled, wrote, Step, row, wants, untold}
use Rattle.sm_origin.specs.Shown.{IsReal, Claim, KeptAs, Holds, Asked, Shows, lists, names, serves, acknowledges}
use Rattle.sm_origin.proofs.Real.{channel_writable, kept_samples}
use Rattle.sm_origin.proofs.Telling.{refusal_status}

abbrev IsCode : ℕ → Type 0
IsCode n = (100 ≤ n) × (n < 1000)

well_code : IsCode 200
well_code = (omega arith, omega arith)

-- a step in answer to a request that reads: it answers, or its status is another
data Answer (log : List Entry) (act : Act) (r : Reply) : Type 0 where
  gives : r ≡ reply_of log act → Answer log act r
  fails : (why : Cause) → r ≡ unplaced why → Answer log act r

manifest_step : (broken : Type 0) (m n : Machine) (r : Reply) → Step broken m Manifest n r → r.status ≢ 500 → Answer m.log Manifest r
manifest_step broken m n r (row (answered none same is)) other = gives is
manifest_step broken m n r (row (unread a place f asks kept_ same failed is)) other = fails cause.DiskFault is
manifest_step broken m n r (row (unsettled e d entry doubt same failed is)) other = fails cause.DiskFault is
manifest_step broken m n r (row (wrote e mid entry clear by)) other = absurd (cc)
manifest_step broken m n r (wants same is) other = absurd (other (ap (λ (s : Reply). s.status) is))
manifest_step broken m n r (untold meant by close is) other = absurd (other (ap (λ (s : Reply). s.status) is))

fragment_step : (broken : Type 0) (m n : Machine) (a : Address) (r : Reply) → Step broken m (Ask a) n r → r.status ≢ 500 → Answer m.log (Ask a) r
fragment_step broken m n a r (row (answered none same is)) other = gives is
fragment_step broken m n a r (row (unread b place f asks kept_ same failed is)) other = fails cause.DiskFault is
fragment_step broken m n a r (row (unsettled e d entry doubt same failed is)) other = fails cause.DiskFault is
fragment_step broken m n a r (row (wrote e mid entry clear by)) other = absurd (cc)
fragment_step broken m n a r (wants same is) other = absurd (other (ap (λ (s : Reply). s.status) is))
fragment_step broken m n a r (untold meant by close is) other = absurd (other (ap (λ (s : Reply). s.status) is))

-- the number of a track is a place of the channel, from 1
placed : (p : Track → Bool) (channel : List Track) (place : ℕ) → position p channel ≡ Some place → place < length channel
placed p [] place is = absurd (cc)
placed p (t ∷ ts) place is = (position-Some p (t ∷ ts) place t is).0

ids_low : (o : Option ℕ) (n : ℕ) → ((place : ℕ) → o ≡ Some place → place < n) → ids o ≤ n
ids_low None n low = omega arith
ids_low (Some place) n low = let l = low place refl in omega (arith, l)

id_fits : (channel : List Track) (a : Address) → length channel ≤ 64 → id_in channel a < 2 ^ 32
id_fits channel a few =
    let low = ids_low (position (λ (t : Track). is_same t.name a.stream && (t.bitrate == a.bitrate)) channel) (length channel) (λ place is. placed (λ (t : Track). is_same t.name a.stream && (t.bitrate == a.bitrate)) channel place is) in
    omega (arith, low, few)

option_cases : {A : Type 0} (o : Option A) → (o ≡ None) ⊎ ((x : A) × (o ≡ Some x))
option_cases None = inl refl
option_cases (Some x) = inr (x, refl)

module _ (part_own : (status other : ℕ) (kind : Content) (body : List ℕ) (close : Bool) (part more : List ℕ) → IsCode status → IsCode other
    → part ++ more ≡ reply_text status kind body close → shows_status other part ≡ true → other ≡ status)
    (part_body : (status : ℕ) (kind : Content) (body : List ℕ) (close : Bool) (part more : List ℕ) → IsCode status → part ++ more ≡ reply_text status kind body close → (rest : List ℕ)
    × (body_of part ++ rest ≡ body)) where
  -- a part of a refusal doesn't say that all is well
  none_well : (why : Cause) (r : Reply) (part more : List ℕ) → r ≡ unplaced why → part ++ more ≡ r.bytes → shows_status 200 part ≡ true → ⊥
  none_well why r part more is whole well =
      let b = refusal_status why in
      let low = b.0 in let high = b.1 in
      let same : 200 ≡ cause_status why = part_own (cause_status why) 200 Plain (cause_line 0 why) (closes why) part more (omega (arith, low), omega (arith, high)) well_code (whole ∙ ap (λ (s : Reply). s.bytes) is) well in
      omega (arith, low, same)

  -- what a part of a body that is there shows of it
  shown_body : (kind : Content) (body : List ℕ) (r : Reply) (part more : List ℕ) → r ≡ ok kind body → part ++ more ≡ r.bytes → (rest : List ℕ) × (body_of part ++ rest ≡ body)
  shown_body kind body r part more is whole = part_body 200 kind body false part more well_code (whole ∙ ap (λ (s : Reply). s.bytes) is)

  module _ (lists_kept : (log : List Entry) (channel : List Track) (part more : List ℕ) (a : Address) → IsSound log → channel_of log ≡ Some channel
      → All IsWritable channel → part ++ more ≡ manifest_of channel log → ListsIn part a → IsSome (kept_at log a)) where
    manifest_lists : (log : List Entry) (r : Reply) (part more : List ℕ) (a : Address) → IsReal log → Answer log Manifest r → part ++ more ≡ r.bytes → shows_status 200 part ≡ true → ListsIn (body_of part) a
        → IsSome (kept_at log a)
    manifest_lists log r part more a real (fails why is) whole well listed = absurd (none_well why r part more is whole well)
    manifest_lists log r part more a real (gives is) whole well listed =
        elim (option_cases (channel_of log)) [
          | inl none ↦ absurd (none_well cause.NoChannel r part more (is ∙ ap (λ (o : Option (List Track)). manifest_reply o log) none) whole well)
          | inr (channel, some) ↦
              let b = shown_body Xml (manifest_of channel log) r part more (is ∙ ap (λ (o : Option (List Track)). manifest_reply o log) some) whole in
              lists_kept log channel (body_of part) b.0 a real.sound some (channel_writable log channel real.each some) b.1 listed
        ]

    pub manifest_shows : (broken : Type 0) (m n : Machine) (r : Reply) → IsReal m.log → Step broken m Manifest n r → r.status ≢ 500 → (part more : List ℕ) → part ++ more ≡ r.bytes → shows_status 200 part ≡ true
        → (claim : Claim) → Shows (Asked targets.Manifest) part claim → Holds m.log claim
    manifest_shows broken m n r real step other part more whole well claim (lists a asks inside is) =
        subst (λ (c : Claim). Holds m.log c) (sym is) (manifest_lists m.log r part more a real (manifest_step broken m n r step other) whole well inside)
    manifest_shows broken m n r real step other part more whole well claim (names a time asks inside is) = absurd (cc)
    manifest_shows broken m n r real step other part more whole well claim (serves a samples duration asks inside is) = absurd (cc)
    manifest_shows broken m n r real step other part more whole well claim (acknowledges fs place f asks got is) = absurd (cc)

  module _ (serves_own : (seq id : ℕ) (f : Fragment) (ahead : List (ℕ × ℕ)) (part more : List ℕ) (samples : List Sample) (duration : ℕ) → IsWritten id f ahead → part ++ more ≡ frag_text seq id f ahead
      → ServesIn part samples duration → (f.samples ≡ samples) × (f.duration ≡ duration))
      (names_own : (seq id : ℕ) (f : Fragment) (ahead : List (ℕ × ℕ)) (part more : List ℕ) (time : ℕ) → IsWritten id f ahead → part ++ more ≡ frag_text seq id f ahead → NamesIn part time
      → (i duration : ℕ) × (slice_get ahead i ≡ Some (time, duration)))
      (valid_channel : (log : List Entry) (channel : List Track) → IsSound log → channel_of log ≡ Some channel → IsChannel channel)
      (ahead_listed : (log : List Entry) (stream : List ℕ) (start index time duration : ℕ) → slice_get (ahead_in log stream start) index ≡ Some (time, duration) → entry_at time (listed_in log stream) ≡ Some duration)
      (ahead_few : (log : List Entry) (stream : List ℕ) (start : ℕ) → length (ahead_in log stream start) ≤ 2)
      (ahead_wide : (log : List Entry) (stream : List ℕ) (start : ℕ) → IsSound log → All IsWide (ahead_in log stream start))
      (kept_valid : (log : List Entry) (address : Address) (place : ℕ) (f : Fragment) → IsSound log → kept_at log address ≡ Some (place, f) → IsValid f) where
    -- the fragment that a part of a reply shows, and what stands behind the part
    record Given (log : List Entry) (a : Address) (part : List ℕ) : Type 0 where
      place : ℕ
      fragment : Fragment
      kept : kept_at log a ≡ Some (place, fragment)
      id : ℕ
      written : IsWritten id fragment (ahead_in log a.stream a.time)
      rest : List ℕ
      text : body_of part ++ rest ≡ frag_text place id fragment (ahead_in log a.stream a.time)

    given_from : (log : List Entry) (a : Address) (channel : List Track) (place : ℕ) (f : Fragment) (part rest : List ℕ) → IsReal log → channel_of log ≡ Some channel → kept_at log a ≡ Some (place, f)
        → body_of part ++ rest ≡ fragment_of channel log a place f → Given log a part
    given_from log a channel place f part rest real has kept text = record {
      place = place;
      fragment = f;
      kept = kept;
      id = id_in channel a;
      rest = rest;
      text = text;
      written = record {
        valid = kept_valid log a place f real.sound kept;
        few = let low = ahead_few log a.stream a.time in omega (arith, low);
        id_fits = id_fits channel a (valid_channel log channel real.sound has).few;
        samples = kept_samples log a place f real.each kept;
        pairs = ahead_wide log a.stream a.time real.sound;
      };
    }

    fragment_given : (log : List Entry) (r : Reply) (part more : List ℕ) (a : Address) → IsReal log → Answer log (Ask a) r → part ++ more ≡ r.bytes → shows_status 200 part ≡ true → Given log a part
    fragment_given log r part more a real (fails why is) whole well = absurd (none_well why r part more is whole well)
    fragment_given log r part more a real (gives is) whole well =
        elim (option_cases (channel_of log)) [
          | inl none ↦ absurd (none_well cause.NoChannel r part more (is ∙ ap (λ (o : Option (List Track)). fragment_reply o log a) none) whole well)
          | inr (channel, some) ↦ elim (option_cases (kept_at log a)) [
            | inl none ↦ absurd (none_well cause.NotKept r part more
                (is ∙ ap (λ (o : Option (List Track)). fragment_reply o log a) some ∙ ap (λ (k : Option (ℕ × Fragment)). kept_reply channel log a k) none) whole well)
            | inr (k, kept) ↦
                let b = shown_body Mp4 (fragment_of channel log a k.0 k.1) r part more
                (is ∙ ap (λ (o : Option (List Track)). fragment_reply o log a) some ∙ ap (λ (x : Option (ℕ × Fragment)). kept_reply channel log a x) kept) whole in
                given_from log a channel k.0 k.1 part b.0 real some kept b.1
          ]
        ]

    pub fragment_shows : (broken : Type 0) (m n : Machine) (a : Address) (r : Reply) → IsReal m.log → Step broken m (Ask a) n r → r.status ≢ 500 → (part more : List ℕ) → part ++ more ≡ r.bytes
        → shows_status 200 part ≡ true
        → (claim : Claim) → Shows (Asked (targets.Fragment a)) part claim → Holds m.log claim
    fragment_shows broken m n a r real step other part more whole well claim (lists b asks inside is) = absurd (cc)
    fragment_shows broken m n a r real step other part more whole well claim (names b time asks inside is) =
        let g = fragment_given m.log r part more a real (fragment_step broken m n a r step other) whole well in
        let named = names_own g.place g.id g.fragment (ahead_in m.log a.stream a.time) (body_of part) g.rest time g.written g.text inside in
        let same : a ≡ b = cc in
        subst (λ (c : Claim). Holds m.log c) (sym is)
        (subst (λ (x : Address). IsSome (entry_at time (listed_in m.log x.stream))) same (ap is_some (ahead_listed m.log a.stream a.time named.0 time named.1 named.2)))
    fragment_shows broken m n a r real step other part more whole well claim (serves b samples duration asks inside is) =
        let g = fragment_given m.log r part more a real (fragment_step broken m n a r step other) whole well in
        let own = serves_own g.place g.id g.fragment (ahead_in m.log a.stream a.time) (body_of part) g.rest samples duration g.written g.text inside in
        let same : a ≡ b = cc in
        let held : KeptAs m.log a samples duration = record { place = g.place; fragment = g.fragment; kept = g.kept; samples_are = own.0; duration_is = own.1 } in
        subst (λ (c : Claim). Holds m.log c) (sym is) (subst (λ (x : Address). KeptAs m.log x samples duration) same held)
    fragment_shows broken m n a r real step other part more whole well claim (acknowledges fs place f asks got is) = absurd (cc)
