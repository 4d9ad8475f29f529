-- Declaring, from its parts.
use Rattle.std.proofs.Common.{◌≡◌, ◌≢◌, ℕ, ◌+◌, ◌≤◌, ◌<◌, Bool, length, slice_get, option_map, is_none, List, [], ◌∷◌, ◌++◌, Option, None, Some, Result, Ok, refl, sym, ap, subst, ◌∙◌, ◌⊎◌, inl, inr, arith, lit<}
use Rattle.sm_model.specs.declared.no_memory.NoMemory.{NoMemory}
use Rattle.sm_model.specs.declared.track.Track.{Track}
use Rattle.sm_model.specs.declared.entry.Entry.{Entry}
use Rattle.sm_model.specs.declared.entry.Entry.TheVariants.{Declare}
use Rattle.sm_model.specs.Channels.{IsChannel}
use Rattle.sm_log.specs.Logs.{channel_of}
use Rattle.sm_archive.specs.Steps.{Clears, Settles, Grows}
use Rattle.sm_record.specs.Bodies.{body_len}
use Rattle.sm_site.specs.Image.{Image}
use Rattle.sm_seglog.specs.Standing.{EndsWithin, Fits}
use Rattle.sm_archive.specs.declared.index.Index.{Index}
use Rattle.sm_archive.specs.declared.archive.Pending.TheVariants as pending
use Rattle.sm_archive.specs.declared.archive.Archive.{Archive}
use Rattle.sm_archive.specs.declared.limits.Limits.{Limits}
use Rattle.sm_archive.specs.declared.ready.Header.{Header}
use Rattle.sm_archive.specs.declared.answers.Declared.{Declared}
use Rattle.sm_archive.specs.declared.answers.Declared.TheVariants as answer
use Rattle.sm_archive.specs.Store.{IsStore}
use Rattle.sm_archive.specs.Stands.{IndexIs, IsIndex, Stands}
use Rattle.sm_archive.specs.Appending.{CanAppend, IsUnused}
use Rattle.sm_archive.specs.Declaring.{IsHeader, ReadyHeader, IsWithin, IsWithinNow, Compares, DeclaredNew, DeclareStep, refusal_in}
use Rattle.sm_seglog.specs.Segments.{HasRoom}
use Rattle.std.specs.List.{position}
use Rattle.std.proofs.lemmas.List.Quantifiers.{position-Some}
use Rattle.sm_model.specs.declared.cause.Cause.TheVariants as cause
use Rattle.sm_log.specs.declared.verdict.Checked.{Checked}
use Rattle.sm_log.specs.declared.verdict.Checked.TheVariants as checked
use Rattle.sm_log.specs.Headers.{check, checked_by, differs}
use Rattle.sm_log.specs.Adds.{track_at}

pub header_can : (a : Archive) (h : Header) (channel : List Track) → IsHeader h channel a.log → IsChannel channel → IsWithin a channel → CanAppend a (pending.Declare h.index) h.body [] (Declare channel)
header_can a h channel is valid within = record {
  fits = (refl, valid);
  few = lit< tt;
  spelled = inr (is.body (Some channel));
  pends = (is.index, refl);
  some = omega (arith, is.len);
  short = omega (arith, is.short);
  room = is.room;
  spare = is.spare;
  bytes = omega (arith, is.len, within.bytes);
  files = subst (λ (n : ℕ). Fits a.log n) (sym is.len) within.files;
}

pub still_within : (a b : Archive) (channel : List Track) → IsUnused a b → IsWithin a channel → IsWithin b channel
still_within a b channel u within = record {
  bytes = subst (λ (l : Limits). b.used + (5 + body_len (Declare channel)) ≤ l.store_bytes) (sym u.limits) (subst (λ (n : ℕ). n + (5 + body_len (Declare channel)) ≤ a.limits.store_bytes) (sym u.used) within.bytes);
  entries = subst (λ (l : Limits). 1 ≤ l.entries) (sym u.limits) within.entries;
  files = u.files (body_len (Declare channel)) within.files;
}

-- and it was so where it was fixed
pub within_now : (a b : Archive) (h : Header) (channel : List Track) → IsHeader h channel a.log → IsWithin a channel → b.limits ≡ a.limits → b.used ≡ a.used + (5 + length h.body) → EndsWithin b.log → IsWithinNow b
within_now a b h channel is within limits used ends = record {
  bytes = subst (λ (l : Limits). b.used ≤ l.store_bytes) (sym limits) (omega (arith, used, is.len, within.bytes));
  entries = subst (λ (l : Limits). 1 ≤ l.entries) (sym limits) within.entries;
  files = ends;
}

-- the log of an index has its channel
pub index_knows : (a : Archive) (i : Index) (log : List Entry) (outcomes : Image → Type 0) → Stands a log None outcomes → a.index ≡ Some i → channel_of log ≡ Some i.catalog.channel
index_knows a i log outcomes s is = let x : IsIndex i log = subst (λ (o : Option Index). IndexIs o log) is s.keeps.index in ap (λ (l : List Entry). channel_of l) x.log_is

pub compared : (acted : Type 0) (a : Archive) (i : Index) (log : List Entry) (outcomes : Image → Type 0) (channel : List Track) → Stands a log None outcomes → a.index ≡ Some i → (d : Declared)
    → Compares i.catalog.channel channel d
    → DeclaredNew acted outcomes a log channel d
compared acted a i log outcomes channel s is answer.Agreed h = (i.catalog.channel, index_knows a i log outcomes s is, h, s)
compared acted a i log outcomes channel s is (answer.Refused k) h = (i.catalog.channel, index_knows a i log outcomes s is, h, s)
compared acted a i log outcomes channel s is answer.Fixed h = absurd h
compared acted a i log outcomes channel s is answer.Full h = absurd h
compared acted a i log outcomes channel s is answer.DiskFault h = absurd h
compared acted a i log outcomes channel s is answer.NoMemory h = absurd h

pub not_fault : (known channel : List Track) (d : Declared) → Compares known channel d → d ≡ answer.DiskFault → ⊥
not_fault known channel d h e = subst (λ (x : Declared). Compares known channel x) e h

pub empty_log : (a : Archive) (log : List Entry) (outcomes : Image → Type 0) → Stands a log None outcomes → a.index ≡ None → log ≡ []
empty_log a log outcomes s is = subst (λ (o : Option Index). IndexIs o log) is s.keeps.index

declared_as : (acted did : Type 0) → (did → acted) → (outcomes : Image → Type 0) (new : Archive) (log : List Entry) (channel : List Track) (d : Declared) → DeclaredNew did outcomes new log channel d
    → DeclaredNew acted outcomes new log channel d
declared_as acted did so outcomes new log channel answer.Fixed h = (h.0, h.1, so h.2, h.3)
declared_as acted did so outcomes new log channel answer.Agreed h = h
declared_as acted did so outcomes new log channel (answer.Refused cause) h = h
declared_as acted did so outcomes new log channel answer.Full h = h
declared_as acted did so outcomes new log channel answer.DiskFault h = (h.0, h.1, elim h.2 [ inl s ↦ inl s | inr s ↦ inr (so s.0, s.1) ])
declared_as acted did so outcomes new log channel answer.NoMemory h = absurd h

step_with : (acted : Type 0) (outcomes : Image → Type 0) (new : Archive) (log : List Entry) (doubt : Option Entry) (mid : List Entry) (channel : List Track) → Clears acted log doubt mid → (d : Declared)
    → DeclaredNew acted outcomes new mid channel d → DeclareStep acted outcomes new log doubt channel d
step_with acted outcomes new log doubt mid channel clears answer.Fixed h = (mid, clears, h)
step_with acted outcomes new log doubt mid channel clears answer.Agreed h = (mid, clears, h)
step_with acted outcomes new log doubt mid channel clears (answer.Refused cause) h = (mid, clears, h)
step_with acted outcomes new log doubt mid channel clears answer.Full h = (mid, clears, h)
step_with acted outcomes new log doubt mid channel clears answer.DiskFault h = inr (mid, clears, h)
step_with acted outcomes new log doubt mid channel clears answer.NoMemory h = absurd h

pub step_from : (acted did : Type 0) → (did → acted) → (outcomes : Image → Type 0) (new : Archive) (log : List Entry) (doubt : Option Entry) (mid : List Entry) (channel : List Track) → Clears acted log doubt mid → (d : Declared)
    → DeclaredNew did outcomes new mid channel d → DeclareStep acted outcomes new log doubt channel d
step_from acted did so outcomes new log doubt mid channel clears d h = step_with acted outcomes new log doubt mid channel clears d (declared_as acted did so outcomes new mid channel d h)

pub grown_from : (channel : List Track) (log after : List Entry) → log ≡ [] → (after ≡ []) ⊎ (after ≡ Declare channel ∷ []) → (after ≡ log) ⊎ (after ≡ log ++ Declare channel ∷ [])
grown_from channel log after e (inl is) = inl (is ∙ sym e)
grown_from channel log after e (inr is) = inr (is ∙ ap (λ (l : List Entry). l ++ Declare channel ∷ []) (sym e))

-- where nothing was made ready a channel stands, before and after the doubt is settled
settled_some : (i : Index) (log : List Entry) (doubt : Option Entry) (mid : List Entry) → IsIndex i log → Settles log doubt mid → mid ≢ []
settled_some i log doubt mid is (inl same) = λ e. let x = sym is.log_is ∙ sym same ∙ e in cc
settled_some i log doubt mid is (inr more) = λ e. let x = ap (λ (l : List Entry). l ++ more.0 ∷ []) (sym is.log_is) ∙ sym more.2 ∙ e in cc

pub still_ready : (a b c : Archive) (outcomes : Image → Type 0) (channel : List Track) (log : List Entry) (doubt : Option Entry) (mid : List Entry) (h : Option Header) → Stands a log doubt outcomes → Settles log doubt mid
    → (h ≡ None → (i : Index) × (a.index ≡ Some i)) → ((own : Header) → h ≡ Some own → IsHeader own channel b.log × (2 ≤ b.log.last.spare)) → b.log.last.spare ≤ c.log.last.spare + 1
    → ((n : ℕ) → HasRoom b.log n → HasRoom c.log n)
    → ReadyHeader h channel c.log mid
still_ready a b c outcomes channel log doubt mid None s settles unneeded ready spare room =
    let i = unneeded refl in
    settled_some i.0 log doubt mid (subst (λ (o : Option Index). IndexIs o log) i.1 s.keeps.index) settles
still_ready a b c outcomes channel log doubt mid (Some own) s settles unneeded ready spare room =
    let h = ready own refl in
    record { index = h.0.index; body = h.0.body; len = h.0.len; short = h.0.short; room = room (length own.body) h.0.room; spare = omega (arith, h.1) }

pub grown : (log : List Entry) (doubt : Option Entry) (mid : List Entry) (channel : List Track) (c : Image) → Settles log doubt mid → (after : List Entry) × IsStore after c
    × ((after ≡ mid) ⊎ (after ≡ mid ++ Declare channel ∷ []))
    → (after : List Entry) × IsStore after c × Grows log doubt (Declare channel) after
grown log doubt mid channel c settles h =
    elim h.2 [
      | inl same ↦ (h.0, h.1, inl (subst (λ (l : List Entry). Settles log doubt l) (sym same) settles))
      | inr more ↦ (h.0, h.1, inr (mid, settles, more))
    ]

abbrev fine : Option Header → Result (Option Header) NoMemory
fine o = Ok o

pub made_ok : (a b : Option Header) → a ≡ b → fine a ≡ fine b
made_ok a b e = ap fine e

-- ---- refusals

position_below : (p : Track → Bool) (xs : List Track) (i : ℕ) → position p xs ≡ Some i → i < length xs
position_below p [] i e = absurd cc
position_below p (x ∷ xs) i e = (position-Some p (x ∷ xs) i x e).0

-- the first track that isn't so stands in the header
pub lacks_there : (known header : List Track) (index : ℕ) → check known header ≡ checked.NotDeclared index → index < length header
lacks_there known header index e = found (position (λ (t : Track). is_none (track_at t.name t.bitrate known)) header) (position (λ (t : Track). differs t (track_at t.name t.bitrate known)) header) refl e
  where
    found : (o p : Option ℕ) → position (λ (t : Track). is_none (track_at t.name t.bitrate known)) header ≡ o → checked_by o p ≡ checked.NotDeclared index → index < length header
    found None None is e = absurd cc
    found None (Some k) is e = absurd cc
    found (Some k) p is e = let same : k ≡ index = cc in subst (λ (n : ℕ). n < length header) same (position_below (λ (t : Track). is_none (track_at t.name t.bitrate known)) header k is)

pub clash_there : (known header : List Track) (index : ℕ) → check known header ≡ checked.Clash index → index < length header
clash_there known header index e = found (position (λ (t : Track). is_none (track_at t.name t.bitrate known)) header) (position (λ (t : Track). differs t (track_at t.name t.bitrate known)) header) refl e
  where
    found : (o p : Option ℕ) → position (λ (t : Track). differs t (track_at t.name t.bitrate known)) header ≡ p → checked_by o p ≡ checked.Clash index → index < length header
    found (Some k) p is e = absurd cc
    found None None is e = absurd cc
    found None (Some k) is e = let same : k ≡ index = cc in subst (λ (n : ℕ). n < length header) same (position_below (λ (t : Track). differs t (track_at t.name t.bitrate known)) header k is)

pub refused_lack : (known header tracks : List Track) (index : ℕ) (t : Track) → check known header ≡ checked.NotDeclared index → tracks ≡ header → slice_get tracks index ≡ Some t
    → refusal_in header (check known header) ≡ Some (cause.NotDeclared t.name t.bitrate)
refused_lack known header tracks index t is same there =
    ap (λ (c : Checked). refusal_in header c) is
    ∙ ap (λ (o : Option Track). option_map (λ (x : Track). cause.NotDeclared x.name x.bitrate) o) (ap (λ (l : List Track). slice_get l index) (sym same) ∙ there)

pub refused_differ : (known header tracks : List Track) (index : ℕ) (t : Track) → check known header ≡ checked.Clash index → tracks ≡ header → slice_get tracks index ≡ Some t
    → refusal_in header (check known header) ≡ Some (cause.DeclClash t.name t.bitrate)
refused_differ known header tracks index t is same there =
    ap (λ (c : Checked). refusal_in header c) is
    ∙ ap (λ (o : Option Track). option_map (λ (x : Track). cause.DeclClash x.name x.bitrate) o) (ap (λ (l : List Track). slice_get l index) (sym same) ∙ there)

-- ---- whichever the answer, it stands for some log

pub declared_again : (acted : Type 0) (outcomes : Image → Type 0) (new : Archive) (log : List Entry) (doubt : Option Entry) (channel : List Track) (d : Declared) → DeclareStep acted outcomes new log doubt channel d
    → (l : List Entry) × (o : Option Entry) × Stands new l o outcomes
declared_again acted outcomes new log doubt channel answer.Fixed h = (Declare channel ∷ [], None, h.2.3)
declared_again acted outcomes new log doubt channel answer.Agreed h = (h.0, None, h.2.3)
declared_again acted outcomes new log doubt channel (answer.Refused cause) h = (h.0, None, h.2.3)
declared_again acted outcomes new log doubt channel answer.Full h = ([], None, h.2.2)
declared_again acted outcomes new log doubt channel answer.DiskFault (inl h) = (log, doubt, h.1)
declared_again acted outcomes new log doubt channel answer.DiskFault (inr h) = elim h.2.2 [ inl s ↦ ([], None, s) | inr s ↦ ([], Some (Declare channel), s.1) ]
declared_again acted outcomes new log doubt channel answer.NoMemory h = (log, doubt, h)
