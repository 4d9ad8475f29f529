-- What the code holds of an order.
use Rattle.std.specs.Prelude.{◌<◌, ◌≤◌, ◌^◌, ℕ, length, string_bytes}
use Rattle.std.specs.Option.{option_map}
use Rattle.sm_client.specs.declared.plan.Plan.{Plan}
use Rattle.sm_words.specs.declared.order.Order.{Order}
use Rattle.sm_words.specs.declared.order.Order.TheVariants as order
use Rattle.sm_words.specs.declared.order.PlayNumbers.{PlayNumbers}
use Rattle.sm_words.specs.declared.order.ServeOrder.{ServeOrder}
use Rattle.sm_words.specs.declared.edge_order.EdgeOrder.{EdgeOrder}
use Rattle.sm_words.specs.Words.{Pulling, Serving, Wanted, Pick, Serve, ServeShown, Push, Play, Relay, Standby, Listing, Rehearse, Export, Help, Version, PlayNumbers as Numbers}

abbrev pub serving_of : ServeOrder → Serving
serving_of s = record {
  store = string_bytes s.store;
  port = s.port;
  ladder = s.ladder;
  turns = s.turns;
  bind = option_map string_bytes s.bind;
  journal = option_map string_bytes s.journal;
}

abbrev pub pulling_of : EdgeOrder → Pulling
pulling_of e = record {
  place = e.place;
  store = string_bytes e.store;
  rounds = e.rounds;
  tries = e.tries;
  journal = option_map string_bytes e.journal;
}

abbrev pub wanted_of : Order → Wanted
wanted_of (order.Pick track time) = Pick track time
wanted_of (order.Serve s) = Serve (serving_of s)
wanted_of (order.ServeShown s players) = ServeShown (serving_of s) players
wanted_of (order.Push p) = Push (string_bytes p.host) p.port (string_bytes p.path) p.id
wanted_of (order.Play p) = Play p.plan
wanted_of (order.Relay e) = Relay (pulling_of e)
wanted_of (order.Standby e) = Standby (pulling_of e)
wanted_of (order.List store) = Listing (string_bytes store)
wanted_of (order.Rehearse number size) = Rehearse number size
wanted_of (order.Help topic) = Help topic
wanted_of order.Version = Version
wanted_of (order.Export e) = Export (string_bytes e.store) e.name e.bitrate

abbrev pub numbers_of : PlayNumbers → Numbers
numbers_of n = record { port = n.port; from = n.from; count = n.count; tries = n.tries; refresh = n.refresh }

-- what may be played
pub record IsPlayable (plan : Plan) : Type 0 where
  pub streams : length plan.streams ≤ 16
  pub count : plan.count ≤ 1000000
  pub tries : 0 < plan.tries
  pub refresh : 0 < plan.refresh

-- what threads may show beside the loop, which leaves them the next port
pub record IsShowable (s : Serving) (players : ℕ) : Type 0 where
  pub port : s.port ≤ 65534
  pub some_play : 0 < players
  pub few_play : players ≤ 16

-- what may be pulled
pub record IsPullable (e : Pulling) : Type 0 where
  pub rounds : 0 < e.rounds
  pub tries : 0 < e.tries

-- a world in which may be rehearsed, and its size
pub record IsWorld (number size : ℕ) : Type 0 where
  pub number_fits : number < 2 ^ 31
  pub size_fits : size ≤ 2000
