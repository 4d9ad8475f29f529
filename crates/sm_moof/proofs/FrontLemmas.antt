-- What stands in front of some bytes: one whole box at most, and one canonical text at most.
use Rattle.std.proofs.Common.{◌≡◌, ◌≤◌, ◌<◌, ◌+◌, ◌^◌, ℕ, Bool, true, false, cond, eqb, List, [], ◌++◌, length, take, drop, refl, sym, ap, ◌∙◌, arith}
use Rattle.std.specs.Prelude.{decimal, Result, Ok}
use Rattle.std.specs.Int.{w32, w64, from_be_bytes}
use Rattle.std.proofs.lemmas.Bool.{eqb-true}
use Rattle.std.proofs.lemmas.List.{length-drop, take_at, drop_at, take-append-le, drop-append-le}
use Rattle.std.proofs.lemmas.Nat.{from_be_bytes-to_be_bytes_4}
use Rattle.sm_model.specs.declared.cause.Cause.{Cause}
use Rattle.sm_model.specs.declared.run.RawFragment.{RawFragment}
use Rattle.sm_model.specs.Numbers.{number32, number32_at, number64_at}
use Rattle.sm_model.specs.Boxes.{box_len, IsOneBox}
use Rattle.sm_model.specs.FragText.{moof}
use Rattle.sm_model.specs.Canonical.{Canonical, IsCanonical}
use Rattle.sm_model.specs.Written.{IsWritten, raw_again}
use Rattle.sm_moof.proofs.WholeLemmas.{long, sixteen}

-- ---- whole boxes

seen_in : (n i : ℕ) (x r : List ℕ) → i + n ≤ length x → take n (drop i (x ++ r)) ≡ take n (drop i x)
seen_in n i x r le = ap (take n) (drop-append-le i x r (omega arith)) ∙ take-append-le n (drop i x) r (omega (arith, length-drop i x))

same_by : (t : Bool) (m n k : ℕ) → (t ≡ true → m ≡ n) → cond t m k ≡ cond t n k
same_by true m n k e = e refl
same_by false m n k e = refl

-- the size stands in the head, so what follows a box does not change it
len_in : (x r : List ℕ) → IsOneBox x → box_len (x ++ r) ≡ box_len x
unfolding box_len number32_at number64_at
len_in x r p =
    let n : number32_at 0 (x ++ r) ≡ number32_at 0 x = ap (from_be_bytes w32) (seen_in 4 0 x r (omega (arith, long x p))) in
    ap (λ (k : ℕ). cond (eqb k 1) (number64_at 8 (x ++ r)) k) n
    ∙ same_by (eqb (number32_at 0 x) 1) (number64_at 8 (x ++ r)) (number64_at 8 x) (number32_at 0 x)
    (λ t. ap (from_be_bytes w64) (seen_in 8 8 x r (sixteen x p (eqb-true _ _ t))))

-- two whole boxes in front of the same bytes are one
pub same_box : (x y r s : List ℕ) → IsOneBox x → IsOneBox y → x ++ r ≡ y ++ s → (x ≡ y) × (r ≡ s)
same_box x y r s p q e =
    let n : length x ≡ length y = sym p.all ∙ sym (len_in x r p) ∙ ap box_len e ∙ len_in y s q ∙ q.all in (
      sym (take_at x r (length x) refl) ∙ ap (take (length x)) e ∙ take_at y s (length x) (sym n),
      sym (drop_at x r (length x) refl) ∙ ap (drop (length x)) e ∙ drop_at y s (length x) (sym n),
    )

-- ---- canonical texts

pub is_written : (c : Canonical) → IsCanonical c → IsWritten c.id c.fragment []
is_written c h = record {
  valid = h.valid;
  few = omega arith;
  id_fits = h.id_fits;
  samples = h.samples;
  pairs = λ k d lt. absurd (omega (arith, lt));
}

-- the sequence number stands behind twenty bytes
seq_at : (c : Canonical) → c.seq < 2 ^ 32 → number32_at 20 (moof c.seq c.id c.fragment []) ≡ c.seq
unfolding number32 number32_at
seq_at c lt = from_be_bytes-to_be_bytes_4 c.seq lt

-- what a text says, out of its sequence number and what is read of it
abbrev said : ℕ → RawFragment → Canonical
said seq raw = record {
  seq = seq;
  id = raw.id;
  fragment = record { stream = decimal raw.id; bitrate = raw.id; time = raw.time; duration = raw.duration; signed = raw.signed; samples = raw.samples };
}

said_again : (c : Canonical) → IsCanonical c → c ≡ said c.seq (raw_again c.id c.fragment [])
said_again c h =
    ap (λ (x : List ℕ). record c { fragment = record c.fragment { stream = x } }) h.stream
    ∙ ap (λ (n : ℕ). record c { fragment = record c.fragment { stream = decimal c.id; bitrate = n } }) h.bitrate

same_raw : (x y : RawFragment) (r : Result RawFragment Cause) → r ≡ Ok x → r ≡ Ok y → x ≡ y
same_raw x y r e f = cc

-- canonical texts whose moofs are one, and that are read as the same, are one
pub same_text : (c d : Canonical) (r : Result RawFragment Cause) → IsCanonical c → IsCanonical d → moof c.seq c.id c.fragment [] ≡ moof d.seq d.id d.fragment []
    → r ≡ Ok (raw_again c.id c.fragment []) → r ≡ Ok (raw_again d.id d.fragment []) → c ≡ d
same_text c d r p q m e f =
    let raw = same_raw (raw_again c.id c.fragment []) (raw_again d.id d.fragment []) r e f in
    let seq : c.seq ≡ d.seq = sym (seq_at c p.seq_fits) ∙ ap (number32_at 20) m ∙ seq_at d q.seq_fits in
    said_again c p ∙ ap (λ (n : ℕ). said n (raw_again c.id c.fragment [])) seq ∙ ap (said d.seq) raw ∙ sym (said_again d q)
