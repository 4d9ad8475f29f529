use Rattle.std.proofs.Common.{◌≡◌, ◌+◌, All, vec_len}
use Rattle.sm_shelf.specs.Shelf.{unread}
use Rattle.sm_shelf.proofs.writer.admit.Given as goal

abbrev pub invariant-loop : goal.invariant-loop
invariant-loop l = (vec_len l.readers ≡ vec_len l.initial.readers + l.counter)
    × (All (λ r. r ≡ unread l.fn.core.desk.place.table_id) l.initial.readers.items → All (λ r. r ≡ unread l.fn.core.desk.place.table_id) l.readers.items)
