use Rattle.sm_seglog.proofs.OneReading as own
use Rattle.sm_seglog.proofs.law.stores_have_one_reading.Goals as goal

pub returns-clause-one_list : goal.returns-clause-one_list
returns-clause-one_list c = own.one_list (record {
  one_list = c.one_reading.ensures.one_list;
  not_fresh = c.one_reading.ensures.not_fresh;
  no_fault = c.one_reading.ensures.no_fault;
  fault_not_fresh
      = c.one_reading.ensures.fault_not_fresh;
  one_place = c.one_reading.ensures.one_place;
})

pub returns-clause-one_cut : goal.returns-clause-one_cut
returns-clause-one_cut c = own.one_cut (record {
  one_list = c.one_reading.ensures.one_list;
  not_fresh = c.one_reading.ensures.not_fresh;
  no_fault = c.one_reading.ensures.no_fault;
  fault_not_fresh =
      c.one_reading.ensures.fault_not_fresh;
  one_place = c.one_reading.ensures.one_place;
})

pub returns-clause-no_fault : goal.returns-clause-no_fault
returns-clause-no_fault c = own.no_fault (record {
  one_list = c.one_reading.ensures.one_list;
  not_fresh = c.one_reading.ensures.not_fresh;
  no_fault = c.one_reading.ensures.no_fault;
  fault_not_fresh
      = c.one_reading.ensures.fault_not_fresh;
  one_place = c.one_reading.ensures.one_place;
})

pub returns-clause-one_place : goal.returns-clause-one_place
returns-clause-one_place c = own.one_place (record {
  one_list = c.one_reading.ensures.one_list;
  not_fresh = c.one_reading.ensures.not_fresh;
  no_fault = c.one_reading.ensures.no_fault;
  fault_not_fresh = c.one_reading.ensures.fault_not_fresh;
  one_place = c.one_reading.ensures.one_place;
})
