-- One piece more of a value.
use Rattle.std.proofs.Common.{◌≡◌, ℕ, Bool, true, false, List, [], ◌++◌, Result, Ok, Err, ap, sym, ◌∙◌}
use Rattle.sm_tag.specs.TagParts.{Stop, short, wrong, piece_at, Values, refused, closed, goes_on}
use Rattle.sm_tag.specs.declared.halt.Halt.{Halt}
use Rattle.sm_tag.specs.declared.halt.Halt.TheVariants.{Memory, Short, Wrong}
use Rattle.sm_tag.specs.Reads.{adding_piece, Fails, FailsBy}

abbrev value_or : Bool × List ℕ × List ℕ → Result (Bool × List ℕ × List ℕ) Stop → Bool × List ℕ × List ℕ
value_or d (Ok x) = x
value_or d (Err e) = d

-- the piece that was added
pub taken : (old new rest : List ℕ) (b : Bool) (r : Result (Bool × List ℕ × List ℕ) Stop) → adding_piece old r ≡ Ok (b, new, rest) → (text : List ℕ) × (r ≡ Ok (b, text, rest)) × (new ≡ old ++ text)
taken old new rest b (Ok p) e =
    let goes = ap (λ (r : Result (Bool × List ℕ × List ℕ) Stop). (value_or p r).0) e in
    let text = ap (λ (r : Result (Bool × List ℕ × List ℕ) Stop). (value_or p r).1) e in
    let left = ap (λ (r : Result (Bool × List ℕ × List ℕ) Stop). (value_or p r).2) e in
    (p.1, ap (λ x. Ok (x, p.1, p.2)) goes ∙ ap (λ x. Ok (b, p.1, x)) left, sym text)
taken old new rest b (Err d) e = cc

-- no piece was added
pub stopped : (old : List ℕ) (e : Stop) (r : Result (Bool × List ℕ × List ℕ) Stop) → adding_piece old r ≡ Err e → r ≡ Err e
stopped old e (Ok p) h = cc
stopped old e (Err d) h = cc

-- the readings of the rest, behind the text, are those of the whole
abbrev pub Completes : ℕ → List ℕ → List ℕ → List ℕ → Type 0
Completes q bytes text rest = (r : Result (List ℕ × List ℕ) Stop) → Values q text rest r → Values q [] bytes r

pub completes_on : (q : ℕ) (bytes old new rest behind : List ℕ) → Completes q bytes old rest → adding_piece old (piece_at q rest) ≡ Ok (true, new, behind) → Completes q bytes new behind
completes_on q bytes old new rest behind before e r h =
    let t = taken old new behind true (piece_at q rest) e in
    before r (goes_on t.1 (rw t.2 at h))

pub completes_closed : (q : ℕ) (bytes old new rest behind : List ℕ) → Completes q bytes old rest → adding_piece old (piece_at q rest) ≡ Ok (false, new, behind) → Values q [] bytes (Ok (new, behind))
completes_closed q bytes old new rest behind before e =
    let t = taken old new behind false (piece_at q rest) e in
    rw t.2 (before _ (closed t.1))

pub completes_fails : (q : ℕ) (bytes old rest : List ℕ) (e : Halt) → Completes q bytes old rest → Fails e (adding_piece old (piece_at q rest)) → FailsBy e (Values q [] bytes)
completes_fails q bytes old rest Memory before h = tt
completes_fails q bytes old rest Short before h = before _ (refused (stopped old short (piece_at q rest) h))
completes_fails q bytes old rest Wrong before h = before _ (refused (stopped old wrong (piece_at q rest) h))
