use Rattle.sm_log.specs.Logs.{times_in}
use Rattle.sm_log.proofs.Apart.{sorted_times}
use Rattle.sm_export.proofs.Ordered.{all_kept, only_kept, in_order}
use Rattle.sm_export.proofs.law.quality_is_in_time_order.Goals as goal

pub returns-clause-all : goal.returns-clause-all
returns-clause-all c = all_kept c.kept_is_added.ensures.one c.kept_is_added.ensures.place

pub returns-clause-only : goal.returns-clause-only
returns-clause-only c log name bitrate f there = only_kept c.what_is_kept_stays.ensures.there c.what_is_kept_is_valid.ensures.address log name bitrate (times_in log name) f there

pub returns-clause-order : goal.returns-clause-order
returns-clause-order c log name bitrate sound =
    in_order c.what_is_kept_is_valid.ensures.address log name bitrate (times_in log name) (sorted_times (times_in log name) (c.times_are_apart.ensures.spans log name sound))
