-- What one event gives to a player.
use Rattle.std.specs.Prelude.{◌≡◌, List, Option}
use Rattle.sm_site.specs.Meanings.{Deal, Item}
use Rattle.sm_players.specs.declared.live.Live.{Live}
use Rattle.sm_players.specs.Asking.{Asking, behind}
use Rattle.sm_players.specs.Telling.{Goes}
use Rattle.sm_players.specs.Taking.{Standing}
use Rattle.sm_players.specs.Open.{Known, AreKnown}
use Rattle.sm_players.specs.Playing.{Turns}

-- An event that was taken is dealt with: from live connections that are known, over what is told, to those that are live then.
pub record TurnGives (deal : Deal) (old new : Option (List Item)) (was now : Option (List Asking)) (lives : List Known) (p : Standing) (left : List Live)
    (q : Standing) : Type 0 where
  pub told : List Deal
  pub goes : Goes old new told
  pub asked : List Asking
  pub asks : now ≡ behind was asked
  pub after : List Known
  pub turns : Turns lives p deal told asked after q
  pub known : AreKnown after left
