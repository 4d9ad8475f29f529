-- What is ready, from what is ready by an index.
use Rattle.std.proofs.Common.{◌≡◌, ℕ, ◌≤◌, false, List, length, Option, None, Some, Result, Ok, Err, sym, ap, subst, ◌∙◌, inl, inr}
use Rattle.std.specs.Prelude.{IfOk}
use Rattle.sm_model.specs.declared.no_memory.NoMemory.{NoMemory}
use Rattle.sm_model.specs.declared.track.Track.{Track}
use Rattle.sm_model.specs.declared.fragment.Fragment.{Fragment}
use Rattle.sm_model.specs.declared.entry.Entry.TheVariants.{Keep}
use Rattle.sm_model.specs.Entries.{address_of}
use Rattle.sm_log.specs.Adds.{is_declared}
use Rattle.sm_record.specs.declared.meta.Meta.{Meta}
use Rattle.sm_record.specs.Bodies.{IsBody}
use Rattle.sm_record.specs.Metas.{meta_of, IsMetaOf}
use Rattle.sm_seglog.specs.Segments.{Segments}
use Rattle.sm_archive.specs.declared.index.Index.{Index}
use Rattle.sm_archive.specs.declared.archive.Pending.TheVariants as pending
use Rattle.sm_archive.specs.declared.archive.Archive.{Archive}
use Rattle.sm_archive.specs.declared.ready.Ready.{Ready}
use Rattle.sm_archive.specs.Index.{HasSpace}
use Rattle.sm_archive.specs.Keeping.{HasChannel, SpaceIn}
use Rattle.sm_archive.specs.Keeper.{ReadyIn, Prepared}
use Rattle.sm_seglog.specs.Segments.{HasRoom}

-- the archive has one index at most, this one, of the log or in doubt
pub record IsOnlyIndex (a : Archive) (i : Index) : Type 0 where
  pub index : (j : Index) → a.index ≡ Some j → j ≡ i
  pub pends : (j : Index) (bytes : ℕ) → a.doubt ≡ Some (record { entry = pending.Declare j; bytes = bytes }) → j ≡ i

some_index : (i j : Index) → (let found : Index → Option Index = λ x. Some x in found i ≡ found j) → i ≡ j
some_index i j e = cc

-- the index of the log, where no header is in doubt
pub only_of_log : (a : Archive) (i : Index) → a.index ≡ Some i → ((j : Index) (bytes : ℕ) → a.doubt ≡ Some (record { entry = pending.Declare j; bytes = bytes }) → ⊥) → IsOnlyIndex a i
only_of_log a i is not_pending = record { index = λ j j_is. some_index j i (sym j_is ∙ is); pends = λ j bytes d. absurd (not_pending j bytes d) }

only_of : (a : Archive) (i : Index) (channel : List Track) → IsOnlyIndex a i → HasChannel a channel → i.catalog.channel ≡ channel
only_of a i channel only h =
    let same : h.index ≡ i = elim h.is [ inl is ↦ only.index h.index is | inr d ↦ only.pends h.index d.0 d.1 ] in
    ap (λ (x : Index). x.catalog.channel) (sym same) ∙ h.channel_is

space_of : (a : Archive) (i : Index) (n : ℕ) (stream : List ℕ) → IsOnlyIndex a i → HasSpace i n stream → SpaceIn a n stream
space_of a i n stream only h = record {
  index = λ j is. subst (λ (x : Index). HasSpace x n stream) (sym (only.index j is)) h;
  pends = λ j bytes is. subst (λ (x : Index). HasSpace x n stream) (sym (only.pends j bytes is)) h;
}

pub prepared_by : (a : Archive) (i : Index) (v : Segments) (r : Option Ready) (f : Fragment) → a.log ≡ v → IsOnlyIndex a i → ReadyIn r f i v → Prepared r a f
prepared_by a i v None f log_is only h = λ channel has. subst (λ (c : List Track). is_declared c (address_of f) ≡ false) (only_of a i channel only has) h
prepared_by a i v (Some r) f log_is only h = record {
  ready = record {
    address = h.address;
    time = h.meta.time;
    duration = h.meta.duration;
    body = λ channel has. subst (λ (c : List Track). IsBody (Some c) (Keep f) r.body) (only_of a i channel only has) h.body;
    meta = λ channel has. subst (λ (c : List Track). IsMetaOf c f r.meta) (only_of a i channel only has) h.meta;
    len = h.len;
    short = h.short;
    room = subst (λ (w : Segments). HasRoom w (length r.body)) (sym log_is) h.room;
  };
  spare = subst (λ (w : Segments). 2 ≤ w.last.spare) (sym log_is) h.spare;
  space = space_of a i 2 r.address.stream only h.space;
}

pub prepared_result : (a : Archive) (i : Index) (v : Segments) (r : Result (Option Ready) NoMemory) (f : Fragment) → a.log ≡ v → IsOnlyIndex a i → IfOk r (λ x. ReadyIn x f i v) → IfOk r (λ x. Prepared x a f)
prepared_result a i v (Ok r) f log_is only h = prepared_by a i v r f log_is only h
prepared_result a i v (Err e) f log_is only h = tt

some_meta : (a b : Meta) → (let found : Meta → Option Meta = λ x. Some x in found a ≡ found b) → a ≡ b
some_meta a b e = cc

pub meta_is : (channel : List Track) (f : Fragment) (body : List ℕ) (m : Meta) → Some m ≡ meta_of body → (x : Meta) × (meta_of body ≡ Some x) × IsMetaOf channel f x → IsMetaOf channel f m
meta_is channel f body m e h = subst (λ (x : Meta). IsMetaOf channel f x) (sym (some_meta m h.0 (e ∙ h.1))) h.2
