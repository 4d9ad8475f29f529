-- What is to be played, by the texts.
use Rattle.std.proofs.Common.{◌≡◌, ◌∙◌, ◌&&◌, ◌<◌, Bool, true, cond, List, [], ◌∷◌, length, map, Option, Some, None, refl, sym, ap, ap₂, arith}
use Rattle.std.specs.Option.{option_and_then, option_map}
use Rattle.sm_words.specs.Words.{Text, PlayNumbers, PlayTexts, Play, numbers_by, plan_by, play_by, play_words_by, streams_by, texts_by}
use Rattle.sm_words.specs.Places.{is_host, is_path}

-- without its numbers nothing is
pub no_numbers : (o : Option PlayTexts) → ((x : PlayTexts) → o ≡ Some x → None ≡ numbers_by x) → None ≡ option_and_then play_by o
no_numbers None h = refl
no_numbers (Some x) h =
    ap (λ (n : Option PlayNumbers).
    option_and_then (λ n. cond (is_host x.host && is_path x.path) (option_map (λ streams. Play (plan_by x n streams)) (streams_by (x.stream ∷ x.more))) None) n) (h x refl)

by_parts : (x : PlayTexts) (n : PlayNumbers) (names : List Text) → Some n ≡ numbers_by x → is_host x.host ≡ true → is_path x.path ≡ true → streams_by (x.stream ∷ x.more) ≡ Some names
    → Some (Play (plan_by x n names)) ≡ play_by x
by_parts x n names num host path named =
    sym (ap₂ (λ (a b : Bool). cond (a && b) (option_map (λ streams. Play (plan_by x n streams)) (streams_by (x.stream ∷ x.more))) None) host path
    ∙ ap (λ (q : Option (List Text)). option_map (λ streams. Play (plan_by x n streams)) q) named)
    ∙ ap (λ (m : Option PlayNumbers).
    option_and_then (λ n. cond (is_host x.host && is_path x.path) (option_map (λ streams. Play (plan_by x n streams)) (streams_by (x.stream ∷ x.more))) None) m) num

-- a place, names and numbers
pub plays : {X : Type 0} (text : X → Text) (items : List X) (host port path : Text) (from : Option Text) (count tries refresh : Text) (n : PlayNumbers) (names : List Text) → 0 < length items
    → ((x : PlayTexts) → play_words_by (host ∷ port ∷ path ∷ map text items) from (Some count) (Some tries) (Some refresh) ≡ Some x → Some n ≡ numbers_by x)
    → is_host host ≡ true → is_path path ≡ true → streams_by (map text items) ≡ Some names
    → Some (Play (record {
      place = record { host = host; port = n.port; path = path };
      streams = names;
      from = n.from;
      count = n.count;
      tries = n.tries;
      refresh = n.refresh;
    })) ≡ option_and_then play_by (play_words_by (host ∷ port ∷ path ∷ map text items) from (Some count) (Some tries) (Some refresh))
plays text [] host port path from count tries refresh n names some num is_one is_other named = absurd (omega arith)
plays text (item ∷ items) host port path from count tries refresh n names some num is_one is_other named =
    let x = texts_by host port path (text item) (map text items) from (Some count) (Some tries) (Some refresh) in
    by_parts x n names (num x refl) is_one is_other named
