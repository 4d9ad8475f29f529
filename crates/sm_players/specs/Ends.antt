-- What the ends of players tell.
use Rattle.std.specs.Prelude.{List, map, Option}
use Rattle.sm_site.specs.Meanings.{View}
use Rattle.sm_players.specs.declared.launched.PlayerEnd.{PlayerEnd}
use Rattle.sm_players.specs.Asking.{Asking}
use Rattle.sm_players.specs.Starting.{Ended}

-- how a player ended, by the reader that it was given, what its wire tells and its forward was asked
abbrev pub end_of : {W F : Type 0} → (W → View) → (F → Option (List Asking)) → PlayerEnd W F → Ended
end_of view asked e = record {
  table = e.given.value.table;
  played = e.played;
  told = (view e.wire.value).transcript;
  link_faults = (view e.wire.value).link_faults;
  asked = asked e.forward.value;
  seen = e.reader.value.seen;
}

-- how players ended, one after the other
abbrev pub ends_of : {W F : Type 0} → (W → View) → (F → Option (List Asking)) → List (PlayerEnd W F) → List Ended
ends_of view asked es = map (end_of view asked) es
