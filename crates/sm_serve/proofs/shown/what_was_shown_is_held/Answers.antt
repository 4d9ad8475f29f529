use Rattle.sm_serve.proofs.Laws.{wire_laws, longer_logs}
use Rattle.sm_serve.proofs.Replying.{texts_hold}
use Rattle.sm_serve.proofs.Fronts.{runs_hold}
use Rattle.sm_serve.proofs.Along.{connections_stand}
use Rattle.sm_serve.proofs.shown.what_was_shown_is_held.Goals as goal

pub returns : goal.returns
returns c =
    let tell = c.replies_tell_by_their_status.ensures in
    let ready = c.ready_texts_show_their_status.ensures in
    let front = c.logs_of_stores_are_real.ensures.front in
    let stays = c.what_is_held_stays.ensures in
    let shows = c.what_is_shown_is_held.ensures in
    let texts = texts_hold ready.goes_on ready.no_memory ready.whole.0 c.too_many_is_told.ensures c.part_shows_its_status.ensures.own tell.asked tell.refused tell.refusal tell.not_interim tell.own
    c.a_silent_fragment_is_kept.ensures shows.manifest shows.fragment stays front in
    let longer = longer_logs front stays in
    let laws = wire_laws c.wire_of_front.ensures.bytes in
    runs_hold longer laws (connections_stand longer laws texts)
