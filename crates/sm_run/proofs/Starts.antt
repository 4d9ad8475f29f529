-- Players that are started, and joined.
use Rattle.std.proofs.Common.{◌≡◌, ℕ, ◌+◌, List, [], ◌∷◌, ◌++◌, append-nil, append_assoc, sym, ap, subst, ◌∙◌, arith}
use Rattle.std.proofs.lemmas.List.{length-append}
use Rattle.std.proofs.lemmas.List.Elements.{All-nil, All-push}
use Rattle.sm_shelf.specs.Shelf.{Table}
use Rattle.sm_players.specs.Starting.{AreEnds, Launch}
use Rattle.sm_run.specs.Staff.{Starts, IsFresh, Joins, Staff}

pub starts_none : (shelf : Table) (limit started started' : ℕ) (running running' : List Launch) → started' ≡ started → running' ≡ running
    → Starts shelf limit started started' running running'
starts_none shelf limit started started' running running' same as_before = record {
  more = [];
  fresh = All-nil (IsFresh shelf limit);
  count = omega (arith, same);
  behind = as_before ∙ sym (append-nil running);
}

-- the same of a limit and a number that are equal, behind players that are
pub starts_as : (shelf : Table) (limit limit' started started' now : ℕ) (running running' p : List Launch) → limit' ≡ limit → started' ≡ started → running' ≡ running
    → Starts shelf limit' started' now running' p → Starts shelf limit started now running p
starts_as shelf limit limit' started started' now running running' p l s r so =
    subst (λ (n : ℕ). Starts shelf n started now running p) l
    (subst (λ (n : ℕ). Starts shelf limit' n now running p) s (subst (λ (ls : List Launch). Starts shelf limit' started' now ls p) r so))

-- one more is started
pub starts_one : (shelf : Table) (limit started now then : ℕ) (running p q : List Launch) (l : Launch) → then ≡ now + 1 → IsFresh shelf limit l → q ≡ p ++ l ∷ []
    → Starts shelf limit started now running p → Starts shelf limit started then running q
starts_one shelf limit started now then running p q l next fresh behind so =
    let long = length-append so.more (l ∷ []) in
    let count = so.count in
    record {
      more = so.more ++ l ∷ [];
      fresh = All-push (IsFresh shelf limit) so.more l so.fresh fresh;
      count = omega (arith, next, count, long);
      behind = behind ∙ ap (λ (ls : List Launch). ls ++ l ∷ []) so.behind ∙ append_assoc running so.more (l ∷ []);
    }

-- behind none
pub starts_from : (shelf : Table) (limit started now : ℕ) (running p : List Launch) → running ≡ [] → Starts shelf limit started now running p → Starts shelf limit started now [] p
starts_from shelf limit started now running p none so = subst (λ (ls : List Launch). Starts shelf limit started now ls p) none so

pub joins : (shelf : Table) (old new : Staff) (now : ℕ) (p : List Launch) → Starts shelf old.limit old.started now [] p → new.started ≡ now → AreEnds p new.ended
    → Joins shelf old new
joins shelf old new now p so same played = record {
  players = so.more;
  fresh = so.fresh;
  count = same ∙ so.count;
  played = subst (λ (ls : List Launch). AreEnds ls new.ended) so.behind played;
}
