use Rattle.sm_push.proofs.RuleBodies.{one_more, cut_stops, cut_inside, ends_inside, header_is}
use Rattle.sm_push.proofs.rules.by_rules.Goals as goal

pub returns-clause-whole : goal.returns-clause-whole
returns-clause-whole c =
    one_more (record { two_steps = c.frag_is_in_two_steps.ensures; same_cause = c.causes_are_without_defaults.ensures; same_track = c.track_id_is_of_run.ensures }) c.whole_is_read.ensures

pub returns-clause-cut : goal.returns-clause-cut
returns-clause-cut c =
    cut_stops (record { two_steps = c.frag_is_in_two_steps.ensures; same_cause = c.causes_are_without_defaults.ensures; same_track = c.track_id_is_of_run.ensures }) c.whole_is_read.ensures

pub returns-clause-ends : goal.returns-clause-ends
returns-clause-ends c =
    ends_inside (record { two_steps = c.frag_is_in_two_steps.ensures; same_cause = c.causes_are_without_defaults.ensures; same_track = c.track_id_is_of_run.ensures }) c.whole_is_read.ensures

pub returns-clause-inside : goal.returns-clause-inside
returns-clause-inside c =
    cut_inside (record { two_steps = c.frag_is_in_two_steps.ensures; same_cause = c.causes_are_without_defaults.ensures; same_track = c.track_id_is_of_run.ensures }) c.whole_is_read.ensures

pub returns-clause-header : goal.returns-clause-header
returns-clause-header c =
    header_is (record { two_steps = c.frag_is_in_two_steps.ensures; same_cause = c.causes_are_without_defaults.ensures; same_track = c.track_id_is_of_run.ensures }) c.whole_is_read.ensures
