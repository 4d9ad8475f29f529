use Rattle.std.proofs.Common.{◌≡◌, ◌+◌, ◌++◌, ◌∷◌, [], List, map, All, Some, None, drop, ℕ, Vec, Global, subst, ap, ◌∙◌, arith, sym}
use Rattle.std.proofs.lemmas.List.{drop_more, map_push}
use Rattle.std.proofs.lemmas.List.Elements.{All-push}
use Rattle.std.specs.List.{position}
use Rattle.sm_model.specs.declared.track.Track.{Track}
use Rattle.sm_model.specs.Same.{is_same}
use Rattle.sm_log.specs.Adds.{names_from, names_of}
use Rattle.sm_catalog.specs.declared.stream.Stream.{Stream}
use Rattle.sm_catalog.specs.Content.{Lane, IsFresh}
use Rattle.sm_catalog.proofs.Lookups.{name_there, name_new}
use Rattle.sm_catalog.proofs.parts.streams_of.Goals as goal
use Rattle.sm_catalog.proofs.parts.streams_of.Goals.{in-Some, in-None+in_ok-new_stream-in-None+in_ok-push-in-None}

pub loop-track-preserved : goal.loop-track-preserved
loop-track-preserved c =
    let ch = c.args.channel.now in
    let i = c.loop-track.track-index in
    let t = c.track-item.result in
    let ls = c.loop-track.streams.items in
    let rest : drop i ch ≡ t ∷ drop (i + 1) ch = drop_more ch i t (omega arith) ∙ ap (λ (u : Track). u ∷ drop (i + 1) ch) (sym c.track-item.is) in
    let so_far : names_from (map (λ (l : Lane). l.name) ls) (t ∷ drop (i + 1) ch) ≡ names_of ch = ap (λ (ts : List Track). names_from (map (λ (l : Lane). l.name) ls) ts) (sym rest) ∙ c.loop-track.invariant.names in
    elim c.match-stream_place.branch [
      | in-Some w ↦
          let e : position (λ (l : Lane). is_same l.name t.name) ls ≡ Some w.in-Some.field-0 = sym (rw (c.deref.ensures.value, c.as_bytes.ensures.same) at w.in-Some.ensures) in
          record {
            names = ap (λ (v : Vec Stream Global). names_from (map (λ (l : Lane). l.name) v.items) (drop (i + 1) ch)) w.streams-is ∙ sym (name_there ls t (drop (i + 1) ch) w.in-Some.field-0 e) ∙ so_far;
            fresh = subst (λ (v : Vec Stream Global). All (IsFresh ch) v.items) (sym w.streams-is) c.loop-track.invariant.fresh;
          }
      | in-None+in_ok-new_stream-in-None+in_ok-push-in-None w ↦
          let e : position (λ (l : Lane). is_same l.name t.name) ls ≡ None = sym (rw (c.deref.ensures.value, c.as_bytes.ensures.same) at w.in-None.ensures) in
          let l = w.in_ok-new_stream-in-None.field-0 in
          let more : map (λ (m : Lane). m.name) (ls ++ l ∷ []) ≡ map (λ (m : Lane). m.name) ls ++ t.name ∷ [] = map_push (λ (m : Lane). m.name) ls l
          ∙ ap (λ (n : List ℕ). map (λ (m : Lane). m.name) ls ++ n ∷ []) w.in_ok-new_stream-in-None.ensures.name in
          record {
            names = ap (λ (v : Vec Stream Global). names_from (map (λ (m : Lane). m.name) v.items) (drop (i + 1) ch)) w.streams-is
                ∙ ap (λ (ms : List Lane). names_from (map (λ (m : Lane). m.name) ms) (drop (i + 1) ch)) w.in_ok-push-in-None.ensures.items ∙ ap (λ (ns : List (List ℕ)). names_from ns (drop (i + 1) ch)) more
                ∙ sym (name_new ls t (drop (i + 1) ch) e) ∙ so_far;
            fresh = subst (λ (v : Vec Stream Global). All (IsFresh ch) v.items) (sym w.streams-is)
                (subst (λ (ms : List Lane). All (IsFresh ch) ms) (sym w.in_ok-push-in-None.ensures.items) (All-push (IsFresh ch) ls l c.loop-track.invariant.fresh w.in_ok-new_stream-in-None.ensures.fresh));
          }
    ]
