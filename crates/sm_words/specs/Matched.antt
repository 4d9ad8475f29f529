-- What was read by `clap`.
use Rattle.std.specs.Prelude.{◌∷◌, Option, Some, map, string_bytes, String}
use Rattle.std.specs.Global.{Global}
use Rattle.std.specs.Option.{option_map}
use Rattle.sm_words.specs.declared.matched.ServeTexts.{ServeTexts}
use Rattle.sm_words.specs.declared.matched.PushTexts.{PushTexts}
use Rattle.sm_words.specs.declared.matched.PlayTexts.{PlayTexts}
use Rattle.sm_words.specs.declared.matched.ExportTexts.{ExportTexts}
use Rattle.sm_words.specs.declared.matched.EdgeTexts.{EdgeTexts}
use Rattle.sm_words.specs.Words.{Text, EdgeTexts as Pulled, ExportTexts as Filed, PlayTexts as Played, PushTexts as Sent, ServeTexts as Asked, play_words_by}

abbrev pub pair_of : String Global × String Global → Text × Text
pair_of t = (string_bytes t.0, string_bytes t.1)

abbrev pub serve_texts_of : ServeTexts → Asked
serve_texts_of t = record {
  port = string_bytes t.port;
  ladder = t.ladder;
  turns = option_map string_bytes t.turns;
  bind = string_bytes t.bind;
  journal = string_bytes t.journal;
  players = string_bytes t.players;
  store = string_bytes t.store;
}

abbrev pub push_texts_of : PushTexts → Sent
push_texts_of t = record { host = string_bytes t.host; port = string_bytes t.port; path = string_bytes t.path; id = string_bytes t.id }

abbrev pub export_texts_of : ExportTexts → Filed
export_texts_of t = record { store = string_bytes t.store; name = string_bytes t.name; bitrate = string_bytes t.bitrate }

abbrev pub edge_texts_of : EdgeTexts → Pulled
edge_texts_of t = record {
  host = string_bytes t.host;
  port = string_bytes t.port;
  path = string_bytes t.path;
  store = string_bytes t.store;
  rounds = string_bytes t.rounds;
  tries = string_bytes t.tries;
  journal = string_bytes t.journal;
}

-- none where there is no stream
abbrev pub play_texts_of : PlayTexts → Option Played
play_texts_of t =
    play_words_by (string_bytes t.host ∷ string_bytes t.port ∷ string_bytes t.path ∷ map string_bytes t.streams.items) (option_map string_bytes t.from)
    (Some (string_bytes t.count)) (Some (string_bytes t.tries)) (Some (string_bytes t.refresh))
