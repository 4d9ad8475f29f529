-- The least of two lists of places, one behind the other, and one quality or one stream more.
use Rattle.std.proofs.Common.{◌≡◌, ℕ, false, List, [], ◌∷◌, ◌++◌, Option, refl, sym, ◌+◌, ◌<◌, length, take, drop, get_or, drop-cons, add-one}
use Rattle.std.proofs.lemmas.List.{take_more}
use Rattle.sm_manin.specs.declared.raw.RawLevel.{RawLevel}
use Rattle.sm_manin.specs.declared.raw.RawStream.{RawStream}
use Rattle.sm_model.specs.Places.{least_from, sooner}
use Rattle.sm_manin.specs.ManifestFaults.{at_if, is_level_at_fault, level_faults, stream_faults, streams_faults}

pub least_from_append : (f : Option ℕ) (xs ys : List ℕ) → least_from f (xs ++ ys) ≡ least_from (least_from f xs) ys
least_from_append f [] ys = refl
least_from_append f (x ∷ xs) ys = least_from_append (sooner f x) xs ys

pub level_more : (f : Option ℕ) (ls : List RawLevel) (i : ℕ) (l : RawLevel) → i < length ls → l ≡ get_or ls i l
    → least_from (least_from f (at_if (is_level_at_fault (take i ls) l) l.at)) (level_faults (take (i + 1) ls) (drop (i + 1) ls)) ≡ least_from f (level_faults (take i ls) (drop i ls))
level_more f ls i l within is =
    let rest = drop-cons ls i l within in
    let front = take_more ls i l within in
    rw (rest, front, ← is, add-one) (sym (least_from_append f (at_if (is_level_at_fault (take i ls) l) l.at) _))

pub stream_more : (f : Option ℕ) (ss : List RawStream) (i : ℕ) (s : RawStream) → i < length ss → s ≡ get_or ss i s
    → least_from (least_from f (stream_faults false (take i ss) s)) (streams_faults (take (i + 1) ss) (drop (i + 1) ss)) ≡ least_from f (streams_faults (take i ss) (drop i ss))
stream_more f ss i s within is =
    let rest = drop-cons ss i s within in
    let front = take_more ss i s within in
    rw (rest, front, ← is, add-one) (sym (least_from_append f (stream_faults false (take i ss) s) _))
