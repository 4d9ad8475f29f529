use Rattle.std.proofs.Common.{rules, arith, ◌≡◌, ◌∙◌, ◌<◌, true, length, map, string_bytes, Some, sym, ap, ap₂}
use Rattle.std.specs.Option.{option_map}
use Rattle.sm_words.specs.Words.{Play, Text, streams_by}
use Rattle.sm_words.specs.Places.{is_host, is_path}
use Rattle.sm_words.specs.Matched.{play_texts_of}
use Rattle.sm_words.specs.Orders.{numbers_of}
use Rattle.sm_words.proofs.Playing.{no_numbers, plays}
use Rattle.sm_words.proofs.order.play_order.Goals as goal

pub returns-in_default : goal.returns-in_default
returns-in_default c =
    no_numbers (play_texts_of c.args.texts) (λ x is. sym (ap (option_map numbers_of) c.in_default.is) ∙ c.play_numbers.ensures x is)

pub returns : goal.returns
returns c =
    let t = c.args.texts in
    let n = numbers_of c.in-Some.numbers in
    let some : 0 < length t.streams.items = search (rules, arith) in
    let host : is_host (string_bytes t.host) ≡ true = search rules in
    let path : is_path (string_bytes t.path) ≡ true = search rules in
    let named : streams_by (map string_bytes t.streams.items) ≡ Some c.in-Some-2.streams =
    ap (λ l. streams_by (map string_bytes l)) (sym c.deref.ensures.value) ∙ sym c.in_ok-streams.ensures ∙ c.in-Some-2.is in
    let host_is : c.in_ok-from_slice.field-0 ≡ string_bytes t.host = search rules in
    let path_is : c.from_vec.result ≡ string_bytes t.path = search rules in
    ap₂ (λ (h p : Text). Some (Play (record {
      place = record { host = h; port = n.port; path = p };
      streams = c.in-Some-2.streams;
      from = n.from;
      count = n.count;
      tries = n.tries;
      refresh = n.refresh;
    }))) host_is path_is
    ∙ plays string_bytes t.streams.items (string_bytes t.host) (string_bytes t.port) (string_bytes t.path) (option_map string_bytes t.from) (string_bytes t.count)
    (string_bytes t.tries) (string_bytes t.refresh) n c.in-Some-2.streams some (λ x is. sym (ap (option_map numbers_of) c.in-Some.is) ∙ c.play_numbers.ensures x is) host path named
