-- What tracks give one behind the other, one track more.
use Rattle.std.proofs.Common.{◌≡◌, ◌+◌, ◌<◌, ℕ, List, [], ◌∷◌, ◌++◌, length, take, get_or, sym, ap, ◌∙◌, append_assoc, append-nil, arith}
use Rattle.std.proofs.lemmas.List.{take_more, length-take}
use Rattle.sm_model.specs.declared.track.Track.{Track}
use Rattle.sm_model.specs.MoovText.{numbered}

pub numbered-append : {A : Type 0} (f : ℕ → Track → List A) (id : ℕ) (ts : List Track) (t : Track) → numbered f id (ts ++ t ∷ []) ≡ numbered f id ts ++ f (id + length ts) t
unfolding numbered
numbered-append f id [] t = append-nil (f id t) ∙ ap (λ (n : ℕ). f n t) (omega arith)
numbered-append f id (x ∷ ts) t =
    let n : id + 1 + length ts ≡ id + length (x ∷ ts) = omega arith in
    ap (λ l. f id x ++ l) (numbered-append f (id + 1) ts t ∙ ap (λ (k : ℕ). numbered f (id + 1) ts ++ f k t) n)
    ∙ sym (append_assoc (f id x) (numbered f (id + 1) ts) (f (id + length (x ∷ ts)) t))

-- a loop's step: the tracks up to a place, and the one there
pub numbered-more : (f : ℕ → Track → List ℕ) (ts : List Track) (i id : ℕ) (d : Track) (out before after : List ℕ) → i < length ts → id ≡ 1 + i
    → before ≡ out ++ numbered f 1 (take i ts) → after ≡ before ++ f id (get_or ts i d) → after ≡ out ++ numbered f 1 (take (i + 1) ts)
numbered-more f ts i id d out before after lt n b a =
    let t : Track = get_or ts i d in
    let front : List Track = take i ts in
    let len : 1 + length front ≡ id = omega (arith, n, length-take i ts) in
    a ∙ ap (λ (l : List ℕ). l ++ f id t) b ∙ append_assoc out (numbered f 1 front) (f id t)
    ∙ ap (λ (l : List ℕ). out ++ l) (ap (λ (k : ℕ). numbered f 1 front ++ f k t) (sym len) ∙ sym (numbered-append f 1 front t) ∙ ap (numbered f 1) (sym (take_more ts i d lt)))

-- tracks of which there is one have a first one
pub first_track : (ts : List Track) (i : ℕ) → i < length ts → Track
first_track [] i lt = absurd (omega arith)
first_track (t ∷ ts) i lt = t
