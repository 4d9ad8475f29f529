use Rattle.std.proofs.Common.{◌≡◌, ◌≤◌, ◌+◌, All, map, vec_len, vec_capacity}
use Rattle.sm_shelf.specs.Shelf.{Table}
use Rattle.sm_run.specs.Staff.{IsUnread, Starts}
use Rattle.sm_run.proofs.staffing.start_all.Given as goal

abbrev pub invariant-loop-reader : goal.invariant-loop-reader
invariant-loop-reader g l =
    let old = l.initial.spawner in record {
      started : g.P.Spawner.started l.spawner + vec_len l.readers ≡ g.P.Spawner.started old + vec_len l.initial.readers;
      no_fewer : g.P.Spawner.started old ≤ g.P.Spawner.started l.spawner;
      unread : (shelf : Table) → All (IsUnread shelf) l.initial.readers.items → All (IsUnread shelf) l.readers.items;
      starts : (shelf : Table) → All (IsUnread shelf) l.initial.readers.items → Starts shelf (g.P.Spawner.limit old) (g.P.Spawner.started old) (g.P.Spawner.started l.spawner) (map (λ h. h.promise) l.initial.running.items) (map (λ h. h.promise) l.running.items);
      count : vec_len l.running + g.P.Spawner.started old ≡ vec_len l.initial.running + g.P.Spawner.started l.spawner;
      few : vec_len l.running + vec_len l.readers ≤ vec_len l.initial.running + vec_len l.initial.readers;
      room : vec_len l.running + vec_len l.readers ≤ vec_capacity l.running;
      limit : g.P.Spawner.limit l.spawner ≡ g.P.Spawner.limit old;
      chosen : g.P.Spawner.chosen l.spawner ≡ g.P.Spawner.chosen old;
      later : g.P.Spawner.spawn_faults old ≤ g.P.Spawner.spawn_faults l.spawner;
    }

abbrev pub decreases-loop-reader : goal.decreases-loop-reader
decreases-loop-reader g l = vec_len l.readers
