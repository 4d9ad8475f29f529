-- What was found, without where it lies in memory.
use Rattle.sm_model.specs.Found as model
use Rattle.sm_box.specs.declared.found.Found.{Found}

abbrev pub seen : Found → model.Found
seen f = record { some = f.some; twice = f.twice; first = f.first.now }
