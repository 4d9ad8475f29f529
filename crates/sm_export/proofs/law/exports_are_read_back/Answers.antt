use Rattle.sm_export.proofs.ReadBack.{items_back, ends_back}
use Rattle.sm_export.proofs.law.exports_are_read_back.Goals as goal

pub returns-clause-items : goal.returns-clause-items
returns-clause-items c b log name bitrate text t real = items_back (record {
  there = c.what_is_kept_stays.ensures.there;
  address = c.what_is_kept_is_valid.ensures.address;
  valid = c.what_is_kept_is_valid.ensures.valid;
  split = c.by_boxes.ensures.split;
  any = c.by_boxes.ensures.any;
  apart = c.tracks_of_a_header_differ.ensures;
  items = c.joined_texts_follow_a_header.ensures.items;
  end = c.joined_texts_follow_a_header.ensures.end;
}) b log name bitrate text t real

pub returns-clause-end : goal.returns-clause-end
returns-clause-end c b log name bitrate text t real = ends_back (record {
  there = c.what_is_kept_stays.ensures.there;
  address = c.what_is_kept_is_valid.ensures.address;
  valid = c.what_is_kept_is_valid.ensures.valid;
  split = c.by_boxes.ensures.split;
  any = c.by_boxes.ensures.any;
  apart = c.tracks_of_a_header_differ.ensures;
  items = c.joined_texts_follow_a_header.ensures.items;
  end = c.joined_texts_follow_a_header.ensures.end;
}) b log name bitrate text t real
