-- Cutting samples, one more at a time.
use Rattle.std.proofs.Common.{◌≡◌, ◌≤◌, ◌<◌, ◌+◌, ◌-◌, ℕ, List, [], ◌∷◌, ◌++◌, length, take, drop, get_or, sym, ap, ◌∙◌, append_assoc, arith}
use Rattle.std.proofs.lemmas.List.{take_all, drop_more, drop_all, append-nil, length-drop}
use Rattle.std.proofs.lemmas.List.Sums.{sum_by-drop_more}
use Rattle.sm_model.specs.declared.run.Row.{Row}
use Rattle.sm_model.specs.declared.sample.Sample.{Sample}
use Rattle.sm_model.specs.Cut.{cut, sizes}
use Rattle.sm_model.proofs.SoundLemmas.{cut-bytes, cut-len}
use Rattle.std.specs.List.{flat_map}

abbrev pub sample : Row → List ℕ → Sample
sample r bytes = record { duration = r.duration; flags = r.flags; offset = r.offset; bytes = bytes }

cut_more : (rest : List ℕ) (rows : List Row) (i : ℕ) (d : Row) (front total : List Sample) → i < length rows
    → front ++ cut rest (drop i rows) ≡ total → (front ++ sample (get_or rows i d) (take (get_or rows i d).size rest) ∷ []) ++ cut (drop (get_or rows i d).size rest) (drop (i + 1) rows) ≡ total
unfolding cut
cut_more rest rows i d front total lt h =
    append_assoc front (sample (get_or rows i d) (take (get_or rows i d).size rest) ∷ []) (cut (drop (get_or rows i d).size rest) (drop (i + 1) rows))
    ∙ sym (ap (λ (rs : List Row). front ++ cut rest rs) (drop_more rows i d lt)) ∙ h

-- the state of the loop before and after one sample
pub cut_step : (rest after front bytes : List ℕ) (rows : List Row) (i : ℕ) (d : Row) (old new total : List Sample) → i < length rows
    → new ≡ old ++ sample (get_or rows i d) bytes ∷ [] → bytes ≡ front → front ≡ take (get_or rows i d).size rest → after ≡ drop (get_or rows i d).size rest
    → (sizes (drop i rows) ≤ length rest) × (old ++ cut rest (drop i rows) ≡ total)
    → (sizes (drop (i + 1) rows) ≤ length after) × (new ++ cut after (drop (i + 1) rows) ≡ total)
cut_step rest after front bytes rows i d old new total lt n b f a h =
    let r = get_or rows i d in
    let s : length after ≡ length rest - r.size = ap length a ∙ length-drop r.size rest in
    let e : new ≡ old ++ sample r (take r.size rest) ∷ [] = n ∙ ap (λ (x : List ℕ). old ++ sample r x ∷ []) (b ∙ f) in (
      omega (arith, h.0, sum_by-drop_more (λ x. x.size) rows i d lt, s),
      ap (λ (x : List Sample). x ++ cut after (drop (i + 1) rows)) e ∙ ap (λ (x : List ℕ). (old ++ sample r (take r.size rest) ∷ []) ++ cut x (drop (i + 1) rows)) a ∙ cut_more rest rows i d old total lt h.1,
    )

pub cut_done : (rest : List ℕ) (rows : List Row) (i : ℕ) (front total : List Sample) → length rows ≤ i → front ++ cut rest (drop i rows) ≡ total → front ≡ total
unfolding cut
cut_done rest rows i front total le h = sym (append-nil front) ∙ sym (ap (λ (rs : List Row). front ++ cut rest rs) (drop_all i rows le)) ∙ h

-- how many bytes are left, before and after one sample
pub cut_count : (rest after block : List ℕ) (rows : List Row) (i : ℕ) (d : Row) → i < length rows → after ≡ drop (get_or rows i d).size rest
    → length rest + sizes rows ≡ length block + sizes (drop i rows) → sizes (drop i rows) ≤ length rest → length after + sizes rows ≡ length block + sizes (drop (i + 1) rows)
cut_count rest after block rows i d lt a h le =
    omega (arith, h, le, sum_by-drop_more (λ x. x.size) rows i d lt, length-drop (get_or rows i d).size rest, ap length a)

pub cut_left : (rest block : List ℕ) (rows : List Row) (i : ℕ) → length rows ≤ i → length rest + sizes rows ≡ length block + sizes (drop i rows) → length rest + sizes rows ≡ length block
cut_left rest block rows i le h =
    let z : sizes (drop i rows) ≡ sizes [] = ap sizes (drop_all i rows le) in
    omega (arith, h, z)

-- the bytes of all samples lie at the head of the block
pub cut_joined : (block : List ℕ) (rows : List Row) (samples : List Sample) (whole : List ℕ) (all left : ℕ) → sizes rows ≤ length block → samples ≡ cut block rows
    → whole ≡ take (all - left) block → all ≡ length block → left + sizes rows ≡ length block → whole ≡ flat_map (λ (x : Sample). x.bytes) samples
cut_joined block rows samples whole all left fits is front a l =
    let k : all - left ≡ sizes rows = omega (arith, a, l) in
    front ∙ ap (λ (n : ℕ). take n block) k ∙ sym (cut-bytes block rows fits) ∙ ap (flat_map (λ (x : Sample). x.bytes)) (sym is)

-- ---- a block that has the samples and nothing else

pub cut_len : (block : List ℕ) (rows : List Row) → length (cut block rows) ≡ length rows
cut_len block rows = cut-len block rows

pub packed_joined : (block : List ℕ) (rows : List Row) (samples : List Sample) → sizes rows ≡ length block → cut block rows ≡ samples → block ≡ flat_map (λ (x : Sample). x.bytes) samples
packed_joined block rows samples all is =
    sym (take_all (sizes rows) block (omega (arith, all))) ∙ sym (cut-bytes block rows (omega (arith, all))) ∙ ap (flat_map (λ (x : Sample). x.bytes)) is
