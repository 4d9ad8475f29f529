use Rattle.sm_site.specs.Clauses.{Rose}
use Rattle.sm_origin.proofs.Showing.{manifest_shows, fragment_shows}
use Rattle.sm_origin.proofs.shown.what_is_shown_is_held.Goals as goal

pub returns : goal.returns
returns c = record {
  manifest = λ a b m n r real step other part more whole well claim shows.
      manifest_shows c.part_shows_its_status.ensures.own c.part_shows_front_of_body.ensures c.manifests_list_what_is_kept.ensures (Rose a b) m n r real step other part more whole well claim shows;
  fragment = λ a b m n address r real step other part more whole well claim shows.
      fragment_shows c.part_shows_its_status.ensures.own c.part_shows_front_of_body.ensures c.fragments_show_themselves.ensures.serves c.fragments_show_themselves.ensures.names
      c.sound_logs_can_be_listed.ensures.channel c.what_is_ahead_is_listed.ensures.listed c.what_is_ahead_is_listed.ensures.few c.what_is_ahead_is_listed.ensures.wide c.what_is_kept_is_valid.ensures.valid
      (Rose a b) m n address r real step other part more whole well claim shows;
}
