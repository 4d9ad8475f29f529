use Rattle.sm_promises.proofs.Stepping.{is_there, whatever_samples}
use Rattle.sm_promises.proofs.law.a_second_fragment_takes_no_place.Goals as goal

pub returns : goal.returns
returns g c = record {
  known = λ before after found base loop x among f doubt pushes known.
      is_there loop.first _ loop.faults loop.items loop.steps loop.last loop.run x among f doubt pushes known;
  whatever = λ log f other address duration is. whatever_samples log f other address duration is;
}
