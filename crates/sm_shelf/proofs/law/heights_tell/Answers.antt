use Rattle.sm_shelf.proofs.Heights.{front_height, whole_is, whole_height, front_later, of_later}
use Rattle.sm_shelf.proofs.law.heights_tell.Goals as goal

pub returns-clause-front : goal.returns-clause-front
returns-clause-front c log d sound on = front_height log d sound on

pub returns-clause-whole : goal.returns-clause-whole
returns-clause-whole c log d sound on high = whole_is log d sound on high

pub returns-clause-back : goal.returns-clause-back
returns-clause-back c log d sound is = whole_height log d sound is

pub returns-clause-later : goal.returns-clause-later
returns-clause-later c log more d on = front_later log more d on

pub returns-clause-rest : goal.returns-clause-rest
returns-clause-rest c log more op of = of_later log more op of
