use Rattle.std.proofs.Common.{refl}
use Rattle.sm_client.proofs.Dials.{left-behind}
use Rattle.sm_client.proofs.Seeks.{found-levels, relisted-to, relisted-lost, relist-gave_up, relist-stopped}
use Rattle.sm_client.proofs.stream.Stream.relist.Goals as goal

pub relist-requires-clause-levels : goal.relist-requires-clause-levels
relist-requires-clause-levels g c = found-levels _ c.in-Read.ensures.listed refl

pub returns-in-Ok-clause-relists : goal.returns-in-Ok-clause-relists
returns-in-Ok-clause-relists g c p h may = rw (← c.pause.ensures.log) (relisted-to may c.in-Read.ensures.listed (c.in-Ok.ensures.holds p h))

pub returns-in-Err-clause-relists : goal.returns-in-Err-clause-relists
returns-in-Err-clause-relists g c p h may = rw (← c.pause.ensures.log) (relisted-lost may c.in-Read.ensures.listed)

pub returns-in-GaveUp-clause-relists : goal.returns-in-GaveUp-clause-relists
returns-in-GaveUp-clause-relists g c p h may = rw (← c.pause.ensures.log) (relist-gave_up may c.in-GaveUp.ensures.listed)

pub returns-in-NoMemory-clause-relists : goal.returns-in-NoMemory-clause-relists
returns-in-NoMemory-clause-relists g c p h may = rw (← c.pause.ensures.log) (relist-stopped may c.in-NoMemory.ensures.listed)

pub returns-in-Ok-clause-levels : goal.returns-in-Ok-clause-levels
returns-in-Ok-clause-levels g c = rw c.in-Ok.ensures.listing (found-levels _ c.in-Read.ensures.listed refl)

pub returns-in-Ok-clause-dial : goal.returns-in-Ok-clause-dial
returns-in-Ok-clause-dial g c = let e = c.pause.ensures in left-behind g.met.C.Dial.later_then e.goes_on e.later e.chosen e.log e.store c.in-Read.ensures.dial

pub returns-in-Err-clause-dial : goal.returns-in-Err-clause-dial
returns-in-Err-clause-dial g c = let e = c.pause.ensures in left-behind g.met.C.Dial.later_then e.goes_on e.later e.chosen e.log e.store c.in-Read.ensures.dial

pub returns-in-GaveUp-clause-dial : goal.returns-in-GaveUp-clause-dial
returns-in-GaveUp-clause-dial g c = let e = c.pause.ensures in left-behind g.met.C.Dial.later_then e.goes_on e.later e.chosen e.log e.store c.in-GaveUp.ensures.dial

pub returns-in-NoMemory-clause-dial : goal.returns-in-NoMemory-clause-dial
returns-in-NoMemory-clause-dial g c = let e = c.pause.ensures in left-behind g.met.C.Dial.later_then e.goes_on e.later e.chosen e.log e.store c.in-NoMemory.ensures.dial
