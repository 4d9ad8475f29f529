use Rattle.sm_push.proofs.Joined.{join_items, join_ends}
use Rattle.sm_push.proofs.law.joined_texts_are_a_body.Goals as goal

pub returns-clause-items : goal.returns-clause-items
returns-clause-items c = join_items (record {
  moof_len_is = c.sizes_are_lengths.ensures.moof;
  mdat_len_is = c.sizes_are_lengths.ensures.mdat;
  moof_whole = c.written_fragment_is_read.ensures.moof_whole;
  mdat_whole = c.written_fragment_is_read.ensures.mdat_whole;
  moof_says = c.written_fragment_is_read.ensures.moof;
  both_say = c.written_fragment_is_read.ensures.fragment;
  two_steps = c.frag_is_in_two_steps.ensures;
  head = c.written_box_is_read.ensures.head;
}) c.whole_is_read.ensures

pub returns-clause-end : goal.returns-clause-end
returns-clause-end c = join_ends (record {
  moof_len_is = c.sizes_are_lengths.ensures.moof;
  mdat_len_is = c.sizes_are_lengths.ensures.mdat;
  moof_whole = c.written_fragment_is_read.ensures.moof_whole;
  mdat_whole = c.written_fragment_is_read.ensures.mdat_whole;
  moof_says = c.written_fragment_is_read.ensures.moof;
  both_say = c.written_fragment_is_read.ensures.fragment;
  two_steps = c.frag_is_in_two_steps.ensures;
  head = c.written_box_is_read.ensures.head;
}) c.whole_is_read.ensures
