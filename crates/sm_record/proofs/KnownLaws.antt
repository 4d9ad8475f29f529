-- Reading the body of an entry that is known to be one, without a look at its digest.
use Rattle.std.proofs.Common.{◌≡◌, ◌-◌, ℕ, List, ◌∷◌, length, take, get_or, Option, Some, refl, subst, sym, ap, ◌∙◌, inl, inr}
use Rattle.std.specs.Prelude.{Result, Ok, Err}
use Rattle.sm_model.specs.declared.track.Track.{Track}
use Rattle.sm_model.specs.declared.entry.Entry.{Entry}
use Rattle.sm_model.specs.declared.entry.Entry.TheVariants.{Declare, Keep}
use Rattle.sm_record.specs.declared.fault.RecordFault.{RecordFault}
use Rattle.sm_record.specs.declared.fault.RecordFault.TheVariants as faults
use Rattle.sm_record.specs.Bodies.{IsBody, IsPlainBody, IsSealedBody, sealed, sealed_byte}
use Rattle.sm_record.specs.Reads.{Reads, Knows, IsEntryOf}
use Rattle.sm_record.specs.Reading.{Fails, byte_at}
use Rattle.sm_record.proofs.Seals.{sealed_front}
use Rattle.sm_record.proofs.ReadLaws.{one_entry, first_is, body_empty, sealed_failed, answer_damaged}

pub known : (channel : Option (List Track)) (body : List ℕ) (r : Result Entry RecordFault) → Reads (λ x. IsBody channel x body) r → (entry : Entry) → IsBody channel entry body → Knows entry r
known channel body (Ok e) h entry p = one_entry channel e entry body h p
known channel body (Err faults.Damaged) h entry p = h entry p
known channel body (Err faults.NoMemory) h entry p = tt

-- the bytes before a digest
pub known_sealed : (channel : Option (List Track)) (body front : List ℕ) (r : Result Entry RecordFault) → front ≡ take (length body - 32) body → Reads (IsEntryOf channel front) r
    → (entry : Entry) → IsSealedBody channel entry body → Knows entry r
known_sealed channel body front (Ok e) is h entry s =
    let f : front ≡ sealed_byte entry ∷ s.fields = is ∙ sealed_front body (sealed_byte entry ∷ s.fields) s.is in
    let too : IsSealedBody channel e body = record { fields = h.fields; has = h.has; is = s.is ∙ ap sealed (sym f ∙ h.is) } in
    one_entry channel e entry body (inr too) (inr s)
known_sealed channel body front (Err faults.Damaged) is h entry s =
    h entry (record { fields = s.fields; has = s.has; is = is ∙ sealed_front body (sealed_byte entry ∷ s.fields) s.is })
known_sealed channel body front (Err faults.NoMemory) is h entry s = tt

not_plain : (channel : Option (List Track)) (entry : Entry) (body : List ℕ) (byte : ℕ) → get_or body 0 0 ≡ byte → (byte ≡ 1 → ⊥) → (byte ≡ 2 → ⊥) → IsPlainBody channel entry body → ⊥
not_plain channel (Declare ts) body byte is not1 not2 p = not1 (sym is ∙ ap (λ (x : List ℕ). get_or x 0 0) p.is)
not_plain channel (Keep f) body byte is not1 not2 p = not2 (sym is ∙ ap (λ (x : List ℕ). get_or x 0 0) p.is)

pub known_other : (channel : Option (List Track)) (body : List ℕ) (byte : ℕ) (fields : List ℕ) (r : Result Entry RecordFault) → byte_at body ≡ Some (byte, fields) → (byte ≡ 1 → ⊥) → (byte ≡ 2 → ⊥)
    → ((entry : Entry) → IsSealedBody channel entry body → Knows entry r) → (entry : Entry) → IsBody channel entry body → Knows entry r
known_other channel body byte fields r e not1 not2 h entry (inl plain) = absurd (not_plain channel entry body byte (first_is body byte fields e) not1 not2 plain)
known_other channel body byte fields r e not1 not2 h entry (inr seal) = h entry seal

pub known_empty : (channel : Option (List Track)) (body : List ℕ) (fault : RecordFault) → Fails fault (byte_at body) → (entry : Entry) → IsBody channel entry body → Knows entry (Err fault)
known_empty channel body fault h = known channel body (Err fault) (body_empty channel body fault h)

-- a body whose end is no digest is no sealed body
pub refused : (channel : Option (List Track)) (body : List ℕ) (fault : RecordFault) → (fault ≡ faults.Damaged → (bytes : List ℕ) → body ≡ sealed bytes → ⊥)
    → Reads (λ x. IsSealedBody channel x body) (Err fault)
refused channel body faults.Damaged h = sealed_failed channel body faults.Damaged (h refl)
refused channel body faults.NoMemory h = tt

-- what is said of a copy is said of the bytes
pub copied : (channel : Option (List Track)) (body copy : List ℕ) (r : Result Entry RecordFault) → copy ≡ body → Reads (λ x. IsBody channel x copy) r → r ≡ Err faults.Damaged → (entry : Entry)
    → IsBody channel entry body → ⊥
copied channel body copy r same h = answer_damaged (λ x. IsBody channel x body) r (subst (λ (b : List ℕ). Reads (λ x. IsBody channel x b) r) same h)
