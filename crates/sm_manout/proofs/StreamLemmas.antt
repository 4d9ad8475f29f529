-- One track more of those that are gone over.
use Rattle.std.proofs.Common.{◌≡◌, ◌<◌, ◌+◌, ℕ, cond, List, [], ◌∷◌, ◌++◌, length, get_or, take, drop, sym, ap, ◌∙◌, append_assoc}
use Rattle.std.proofs.lemmas.List.{take_more, drop_more}
use Rattle.std.specs.List.{list_any}
use Rattle.sm_model.specs.declared.track.Track.{Track}
use Rattle.sm_model.specs.Same.{is_same}
use Rattle.sm_manout.specs.ManifestText.{stream_lines, streams_lines}

pub streams_more : (channel : List Track) (times : List ℕ → List (ℕ × ℕ)) (ts : List Track) (o : List ℕ) (i : ℕ) (t : Track) → i < length ts → t ≡ get_or ts i t
    → (o ++ cond (list_any (λ (u : Track). is_same u.name t.name) (take i ts)) [] (stream_lines channel (times t.name) t))
    ++ streams_lines channel times (take (i + 1) ts) (drop (i + 1) ts) ≡ o ++ streams_lines channel times (take i ts)
    (drop i ts)
streams_more channel times ts o i t h is =
    let front : take (i + 1) ts ≡ take i ts ++ t ∷ [] = take_more ts i t h ∙ ap (λ (u : Track). take i ts ++ u ∷ []) (sym is) in
    let rest : drop i ts ≡ t ∷ drop (i + 1) ts = drop_more ts i t h ∙ ap (λ (u : Track). u ∷ drop (i + 1) ts) (sym is) in
    append_assoc o _ _
    ∙ ap (λ (l : List Track). o ++ (cond (list_any (λ (u : Track). is_same u.name t.name) (take i ts)) [] (stream_lines channel (times t.name) t) ++ streams_lines channel times l (drop (i + 1) ts))) front
    ∙ sym (ap (λ (l : List Track). o ++ streams_lines channel times (take i ts) l) rest)
