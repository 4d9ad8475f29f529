-- Keeping, from its parts.
use Rattle.std.proofs.Common.{◌≡◌, ℕ, ◌+◌, ◌≤◌, false, List, [], ◌∷◌, ◌++◌, length, Option, None, Some, refl, sym, ap, subst, ◌∙◌, ◌⊎◌, inl, inr, arith}
use Rattle.sm_model.specs.declared.track.Track.{Track}
use Rattle.sm_model.specs.declared.fragment.Fragment.{Fragment}
use Rattle.sm_model.specs.declared.entry.Entry.{Entry}
use Rattle.sm_model.specs.declared.entry.Entry.TheVariants.{Keep}
use Rattle.sm_model.specs.Entries.{address_of}
use Rattle.sm_log.specs.declared.verdict.Judged.TheVariants.{NotDeclared}
use Rattle.sm_log.specs.Adds.{is_declared}
use Rattle.sm_log.specs.Logs.{channel_of, verdict_on}
use Rattle.sm_archive.specs.Steps.{Clears, Settles, Grows}
use Rattle.sm_site.specs.Image.{Image}
use Rattle.sm_site.specs.Clauses.{Rose}
use Rattle.sm_archive.specs.declared.index.Index.{Index}
use Rattle.sm_archive.specs.declared.archive.Archive.{Archive}
use Rattle.sm_archive.specs.declared.ready.Ready.{Ready}
use Rattle.sm_archive.specs.declared.answers.Keeping.{Keeping}
use Rattle.sm_archive.specs.declared.answers.Keeping.TheVariants as keeping
use Rattle.sm_archive.specs.Store.{IsStore}
use Rattle.sm_archive.specs.Stands.{IndexIs, Stands}
use Rattle.sm_model.specs.declared.address.Address.{Address}
use Rattle.sm_model.specs.declared.cause.Cause.TheVariants as cause
use Rattle.sm_log.specs.declared.verdict.Judged.{Judged}
use Rattle.sm_log.specs.declared.verdict.Judged.TheVariants as judged
use Rattle.sm_archive.specs.Keeping.{HasChannel, SpaceIn, KeepStep, refusal_of}
use Rattle.sm_archive.specs.Keeper.{IsPrepared, KeptNew}
use Rattle.sm_archive.proofs.Appending.{no_channel, index_has}
use Rattle.sm_seglog.specs.Segments.{HasRoom}

-- what was prepared is still so once the doubt is settled
pub still_prepared : (a b : Archive) (r : Ready) (f : Fragment) → IsPrepared 2 a r f → ((channel : List Track) → HasChannel b channel → HasChannel a channel)
    → ((n : ℕ) (stream : List ℕ) → SpaceIn a (n + 1) stream → SpaceIn b n stream) → a.log.last.spare ≤ b.log.last.spare + 1 → ((n : ℕ) → HasRoom a.log n → HasRoom b.log n) → IsPrepared 1 b r f
still_prepared a b r f p channel space spare room = record {
  ready = record {
    address = p.ready.address;
    time = p.ready.time;
    duration = p.ready.duration;
    body = λ c has. p.ready.body c (channel c has);
    meta = λ c has. p.ready.meta c (channel c has);
    len = p.ready.len;
    short = p.ready.short;
    room = room (length r.body) p.ready.room;
  };
  spare = omega (arith, p.spare);
  space = space 1 r.address.stream p.space;
}

module _ (acted did : Type 0) (so : did → acted) (outcomes : Image → Type 0) (new : Archive) (log : List Entry) (doubt : Option Entry) (mid : List Entry) (clears : Clears acted log doubt mid) (f : Fragment) where
  pub step_from : (k : Keeping) → KeptNew did outcomes new mid f k → KeepStep acted outcomes new log doubt f k
  step_from (keeping.Kept place) h = (mid, clears, h.0, h.1, h.2, so h.3, h.4)
  step_from (keeping.Known place) h = (mid, clears, h.0, h.1)
  step_from (keeping.Refused why) h = (mid, clears, h.0, h.1)
  step_from keeping.Full h = (mid, clears, h.0, h.1, h.2)
  step_from keeping.DiskFault h = inr (mid, clears, h.0, h.1, elim h.2 [ inl s ↦ inl s | inr s ↦ inr (so s.0, s.1) ])
  step_from keeping.NoMemory h = absurd h

module _ (log : List Entry) (doubt : Option Entry) (mid : List Entry) (settles : Settles log doubt mid) (f : Fragment) where
  pub grown : (c : Image) → (after : List Entry) × IsStore after c × ((after ≡ mid) ⊎ (after ≡ mid ++ Keep f ∷ [])) → (after : List Entry) × IsStore after c × Grows log doubt (Keep f) after
  grown c h =
      elim h.2 [
        | inl same ↦ (h.0, h.1, inl (subst (λ (l : List Entry). Settles log doubt l) (sym same) settles))
        | inr more ↦ (h.0, h.1, inr (mid, settles, more))
      ]

-- a channel without the track
undeclared_by : (tracks : List Track) (log : List Entry) (f : Fragment) → channel_of log ≡ Some tracks → is_declared tracks (address_of f) ≡ false → verdict_on log f ≡ NotDeclared
undeclared_by tracks log f is lacks = rw (is, lacks) refl

pub undeclared : (a : Archive) (index : Option Index) (log : List Entry) (f : Fragment) → a.index ≡ index → IndexIs index log → ((channel : List Track) → HasChannel a channel → is_declared channel (address_of f) ≡ false)
    → verdict_on log f ≡ NotDeclared
undeclared a None log f e is lacks = ap (λ (l : List Entry). verdict_on l f) is ∙ no_channel f
undeclared a (Some i) log f e is lacks = undeclared_by i.catalog.channel log f (ap (λ (l : List Entry). channel_of l) is.log_is) (lacks i.catalog.channel (index_has a i e))

pub rose_later : (a b c : ℕ) → a ≤ b → Rose b c → Rose a c
rose_later a b c le rose = record { later = omega (arith, le, rose.later); rose = λ n. let lt = rose.rose n in omega arith }

-- ---- refusals

pub refused_undeclared : (v : Judged) (f : Fragment) (a : Address) → v ≡ judged.NotDeclared → a ≡ address_of f → refusal_of f v ≡ Some (cause.NotDeclared a.stream a.bitrate)
refused_undeclared v f a is own = ap (λ (w : Judged). refusal_of f w) is ∙ ap (λ (x : Address). Some (cause.NotDeclared x.stream x.bitrate)) (sym own)

pub refused_clash : (v : Judged) (f : Fragment) (kept given : ℕ) → v ≡ judged.Clash kept → given ≡ f.duration → refusal_of f v ≡ Some (cause.DurationClash kept given)
refused_clash v f kept given is own = ap (λ (w : Judged). refusal_of f w) is ∙ ap (λ (n : ℕ). Some (cause.DurationClash kept n)) (sym own)

pub refused_overlap : (v : Judged) (f : Fragment) (end : ℕ) → v ≡ judged.Overlap end → refusal_of f v ≡ Some (cause.Overlap end)
refused_overlap v f end is = ap (λ (w : Judged). refusal_of f w) is

-- ---- whichever the answer, it stands for some log

abbrev pub StandsAgain : (Image → Type 0) → Archive → Type 0
StandsAgain outcomes new = (log : List Entry) × (doubt : Option Entry) × Stands new log doubt outcomes

pub kept_again : (acted : Type 0) (outcomes : Image → Type 0) (new : Archive) (log : List Entry) (doubt : Option Entry) (f : Fragment) (k : Keeping) → KeepStep acted outcomes new log doubt f k → StandsAgain outcomes new
kept_again acted outcomes new log doubt f (keeping.Kept place) h = (h.0 ++ Keep f ∷ [], None, h.6)
kept_again acted outcomes new log doubt f (keeping.Known place) h = (h.0, None, h.3)
kept_again acted outcomes new log doubt f (keeping.Refused cause) h = (h.0, None, h.3)
kept_again acted outcomes new log doubt f keeping.Full h = (h.0, None, h.4)
kept_again acted outcomes new log doubt f keeping.DiskFault (inl h) = (log, doubt, h.1)
kept_again acted outcomes new log doubt f keeping.DiskFault (inr h) = elim h.4 [ inl s ↦ (h.0, None, s) | inr s ↦ (h.0, Some (Keep f), s.1) ]
kept_again acted outcomes new log doubt f keeping.NoMemory h = (log, doubt, h)
