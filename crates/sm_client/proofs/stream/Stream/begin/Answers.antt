use Rattle.std.proofs.Common.{refl}
use Rattle.sm_client.specs.Stands.{unread}
use Rattle.sm_client.proofs.Seeks.{found-levels, began-absent, began-standing, began-lost, listed-gave_up, listed-stopped}
use Rattle.sm_client.proofs.stream.Stream.begin.Goals as goal

pub begin-requires : goal.begin-requires
begin-requires g c = found-levels _ c.in-Read-Some.ensures.listed c.in-Read-Some.field-0-is

pub returns-in-Read-None-clause-began : goal.returns-in-Read-None-clause-began
returns-in-Read-None-clause-began g c = began-absent _ c.in-Read-None.ensures.listed c.in-Read-None.field-0-is

pub returns-in-Ok-clause-began : goal.returns-in-Ok-clause-began
returns-in-Ok-clause-began g c = began-standing _ _ c.in-Read-Some.ensures.listed c.in-Read-Some.field-0-is refl c.in-Ok.ensures

pub returns-in-Err-clause-began : goal.returns-in-Err-clause-began
returns-in-Err-clause-began g c = began-lost _ c.in-Read-Some.ensures.listed c.in-Read-Some.field-0-is

pub returns-in-GaveUp-clause-began : goal.returns-in-GaveUp-clause-began
returns-in-GaveUp-clause-began g c = listed-gave_up _ unread tt (c.in-GaveUp.ensures.listed unread tt)

pub returns-in-NoMemory-clause-began : goal.returns-in-NoMemory-clause-began
returns-in-NoMemory-clause-began g c = listed-stopped _ unread (c.in-NoMemory.ensures.listed unread tt)
