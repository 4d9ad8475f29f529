use Rattle.sm_promises.proofs.call.promised.Goals as goal

pub returns : goal.returns
returns g c = record {
  run = c.run.ensures.run;
  goes_on = c.run.ensures.goes_on;
  ran = record {
    policies = _;
    words = _;
    around = _;
    around' = _;
    output = _;
    output' = _;
    dial = _;
    dial' = _;
    staff = _;
    staff' = _;
    status = _;
    runs = c.run.ensures.run;
  };
  told_stays = λ found base begins t image left.
      c.what_was_told_stays.ensures _ _ _
      (record {
        policies = _;
        words = _;
        around = _;
        around' = _;
        output = _;
        output' = _;
        dial = _;
        dial' = _;
        staff = _;
        staff' = _;
        status = _;
        runs = c.run.ensures.run;
      })
      found base begins t image left;
  first_stays = λ found base begins a place f is t image left.
      c.the_first_fragment_stays.ensures.found _ _ _
      (record {
        policies = _;
        words = _;
        around = _;
        around' = _;
        output = _;
        output' = _;
        dial = _;
        dial' = _;
        staff = _;
        staff' = _;
        status = _;
        runs = c.run.ensures.run;
      })
      found base begins a place f is t image left;
}
