use Rattle.std.proofs.Common.{ap}
use Rattle.sm_push.specs.Body.{Outcome}
use Rattle.sm_push.proofs.Joined.{follows, follows_end}
use Rattle.sm_push.proofs.law.joined_texts_follow_a_header.Goals as goal

pub returns-clause-items : goal.returns-clause-items
returns-clause-items c front b cs h = ap (λ (o : Outcome). o.items) (follows (record {
  moof_len_is = c.sizes_are_lengths.ensures.moof;
  mdat_len_is = c.sizes_are_lengths.ensures.mdat;
  moof_whole = c.written_fragment_is_read.ensures.moof_whole;
  mdat_whole = c.written_fragment_is_read.ensures.mdat_whole;
  moof_says = c.written_fragment_is_read.ensures.moof;
  both_say = c.written_fragment_is_read.ensures.fragment;
  two_steps = c.frag_is_in_two_steps.ensures;
  head = c.written_box_is_read.ensures.head;
}) (record { two_steps = c.frag_is_in_two_steps.ensures; same_cause = c.causes_are_without_defaults.ensures; same_track = c.track_id_is_of_run.ensures })
    c.whole_is_read.ensures front b cs h)

pub returns-clause-header : goal.returns-clause-header
returns-clause-header c front b cs h = ap (λ (o : Outcome). o.header) (follows (record {
  moof_len_is = c.sizes_are_lengths.ensures.moof;
  mdat_len_is = c.sizes_are_lengths.ensures.mdat;
  moof_whole = c.written_fragment_is_read.ensures.moof_whole;
  mdat_whole = c.written_fragment_is_read.ensures.mdat_whole;
  moof_says = c.written_fragment_is_read.ensures.moof;
  both_say = c.written_fragment_is_read.ensures.fragment;
  two_steps = c.frag_is_in_two_steps.ensures;
  head = c.written_box_is_read.ensures.head;
}) (record { two_steps = c.frag_is_in_two_steps.ensures; same_cause = c.causes_are_without_defaults.ensures; same_track = c.track_id_is_of_run.ensures })
    c.whole_is_read.ensures front b cs h)

pub returns-clause-end : goal.returns-clause-end
returns-clause-end c front b cs h = follows_end (record {
  moof_len_is = c.sizes_are_lengths.ensures.moof;
  mdat_len_is = c.sizes_are_lengths.ensures.mdat;
  moof_whole = c.written_fragment_is_read.ensures.moof_whole;
  mdat_whole = c.written_fragment_is_read.ensures.mdat_whole;
  moof_says = c.written_fragment_is_read.ensures.moof;
  both_say = c.written_fragment_is_read.ensures.fragment;
  two_steps = c.frag_is_in_two_steps.ensures;
  head = c.written_box_is_read.ensures.head;
}) (record { two_steps = c.frag_is_in_two_steps.ensures; same_cause = c.causes_are_without_defaults.ensures; same_track = c.track_id_is_of_run.ensures })
    c.whole_is_read.ensures front b cs h
