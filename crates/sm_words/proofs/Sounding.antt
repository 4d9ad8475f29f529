-- What is asked for may be played, or rehearsed.
use Rattle.std.proofs.Common.{◌≡◌, ◌≤◌, ◌<◌, ℕ, Bool, true, false, cond, ◌&&◌, nat_le, List, [], ◌∷◌, length, codes, Option, Some, None, IfSome, refl, sym, ap, subst, ◌^◌, ◌-◌, arith}
use Rattle.std.specs.Option.{option_map, option_and_then}
use Rattle.std.specs.List.{list_all}
use Rattle.std.proofs.lemmas.Bool.{leb-true}
use Rattle.clap.proofs.WalkLemmas.{both}
use Rattle.sm_model.specs.Digits.{is_digit, decimal_from}
use Rattle.sm_model.specs.Names.{is_name}
use Rattle.sm_client.specs.declared.plan.Plan.{Plan}
use Rattle.sm_words.specs.Options.{edge_options, play_options, serve_options}
use Rattle.sm_words.specs.Words.{Text, Read, Pulling, Serving, Wanted, Pick, Serve, ServeShown, Push, Play, Relay, Standby, Listing, Rehearse, Export, Help, Version, EdgeTexts, ExportTexts, PlayNumbers, PlayTexts, PushTexts, ServeTexts, asked, is, is_numeral, numeral, read}
use Rattle.sm_words.specs.Words.{filled, last_port, list_of, number_or, numbers_by, pick_by, pick_of, plan_by, play_by, play_of, play_texts, players_by, push_by, push_of, push_texts, serve_by, serve_of, served_by}
use Rattle.sm_words.specs.declared.topic.Topic.TheVariants as topics
use Rattle.sm_words.specs.Words.{alone, edge_by, edge_of, edge_texts, pulling_by, help_by, topic_named, export_by, export_of, export_texts, name_by, rehearse_by, rehearse_of, serve_texts, start_by, streams_by, two_words, only_word}
use Rattle.sm_words.specs.Places.{is_host, is_path}
use Rattle.sm_words.specs.Orders.{IsPlayable, IsPullable, IsShowable, IsWorld}

abbrev IsFit : Wanted → Type 0
IsFit (Pick track time) = Unit {0}
IsFit (Serve s) = Unit {0}
IsFit (ServeShown s players) = IsShowable s players
IsFit (Push host port path id) = Unit {0}
IsFit (Play plan) = IsPlayable plan
IsFit (Relay e) = IsPullable e
IsFit (Standby e) = IsPullable e
IsFit (Listing store) = Unit {0}
IsFit (Rehearse number size) = IsWorld number size
IsFit (Export store name bitrate) = Unit {0}
IsFit (Help topic) = Unit {0}
IsFit Version = Unit {0}

-- ---- options

of_both : {A : Type 0} (P : A → Type 0) (b : Bool) (x y : Option A) → IfSome x P → IfSome y P → IfSome (cond b x y) P
of_both P true x y p q = p
of_both P false x y p q = q

of_then : {A B : Type 0} (P : B → Type 0) (f : A → Option B) (o : Option A) → ((a : A) → o ≡ Some a → IfSome (f a) P) → IfSome (option_and_then f o) P
of_then P f None h = tt
of_then P f (Some a) h = h a refl

of_map : {A B : Type 0} (P : B → Type 0) (f : A → B) (o : Option A) → ((a : A) → o ≡ Some a → P (f a)) → IfSome (option_map f o) P
of_map P f None h = tt
of_map P f (Some a) h = h a refl

-- ---- numbers and streams

some_if : {A : Type 0} (b : Bool) (v w : A) → cond b (Some v) None ≡ Some w → (b ≡ true) × (v ≡ w)
some_if true v w e = let same : v ≡ w = cc in (refl, same)
some_if false v w e = absurd (cc)

record IsBetween (low high n : ℕ) : Type 0 where
  pub low_is : low ≤ n
  pub high_is : n ≤ high

between : (low high : ℕ) (text : Text) (n : ℕ) → numeral low high text ≡ Some n → IsBetween low high n
unfolding numeral
between low high text n e =
    let made = some_if (is_numeral low high text) (decimal_from 0 text) n e in
    let long = both (nat_le 1 (length text)) _ made.0 in
    let short = both (nat_le (length text) 19) _ long.1 in
    let digits = both (list_all is_digit text) _ short.1 in
    let bounds = both (nat_le low (decimal_from 0 text)) _ digits.1 in
    let above = leb-true low (decimal_from 0 text) bounds.0 in
    let below = leb-true (decimal_from 0 text) high bounds.1 in
    record { low_is = omega (arith, above, made.1); high_is = omega (arith, below, made.1) }

few : (names streams : List Text) → streams_by names ≡ Some streams → length streams ≤ 16
few names streams e =
    let made = some_if (nat_le (length names) 16 && list_all is_name names) names streams e in
    let bound = both (nat_le (length names) 16) _ made.0 in
    let short = leb-true (length names) 16 bound.0 in
    let same : length names ≡ length streams = ap (λ (l : List Text). length l) made.1 in
    omega (arith, short, same)

-- ---- what is asked

record AreFit (n : PlayNumbers) : Type 0 where
  pub count : n.count ≤ 1000000
  pub tries : 0 < n.tries
  pub refresh : 0 < n.refresh

refresh_fits : (x : PlayTexts) (port : ℕ) (from : Option ℕ) (count tries : ℕ) → count ≤ 1000000 → 0 < tries
    → IfSome (option_map (λ refresh. record { port = port; from = from; count = count; tries = tries; refresh = refresh }) (numeral 1 10000 x.refresh)) AreFit
refresh_fits x port from count tries many patient =
    of_map AreFit (λ refresh. record { port = port; from = from; count = count; tries = tries; refresh = refresh }) (numeral 1 10000 x.refresh)
    (λ refresh r. let fresh = between 1 10000 x.refresh refresh r in record { count = many; tries = patient; refresh = omega (arith, fresh.low_is) })

tries_fit : (x : PlayTexts) (port : ℕ) (from : Option ℕ) (count : ℕ) → count ≤ 1000000
    → IfSome (option_and_then (λ tries. option_map (λ refresh. record { port = port; from = from; count = count; tries = tries; refresh = refresh }) (numeral 1 10000 x.refresh))
    (numeral 1 16 x.tries)) AreFit
tries_fit x port from count many =
    of_then AreFit (λ tries. option_map (λ refresh. record { port = port; from = from; count = count; tries = tries; refresh = refresh }) (numeral 1 10000 x.refresh))
    (numeral 1 16 x.tries)
    (λ tries t. let patient = between 1 16 x.tries tries t in refresh_fits x port from count tries many (omega (arith, patient.low_is)))

numbers_fit : (x : PlayTexts) → IfSome (numbers_by x) AreFit
numbers_fit x =
    of_then AreFit (λ port.
    option_and_then (λ from.
    option_and_then (λ count.
    option_and_then (λ tries. option_map (λ refresh. record { port = port; from = from; count = count; tries = tries; refresh = refresh }) (numeral 1 10000 x.refresh))
    (numeral 1 16 x.tries))
    (numeral 1 1000000 x.count))
    (start_by x.from))
    (numeral 1 65535 x.port) (λ port p.
    of_then AreFit (λ from.
    option_and_then (λ count.
    option_and_then (λ tries. option_map (λ refresh. record { port = port; from = from; count = count; tries = tries; refresh = refresh }) (numeral 1 10000 x.refresh))
    (numeral 1 16 x.tries))
    (numeral 1 1000000 x.count))
    (start_by x.from) (λ from f.
    of_then AreFit (λ count.
    option_and_then (λ tries. option_map (λ refresh. record { port = port; from = from; count = count; tries = tries; refresh = refresh }) (numeral 1 10000 x.refresh))
    (numeral 1 16 x.tries))
    (numeral 1 1000000 x.count) (λ count c.
    let many = between 1 1000000 x.count count c in
    tries_fit x port from count many.high_is)))

if_some : {A : Type 0} (P : A → Type 0) (o : Option A) (a : A) → IfSome o P → o ≡ Some a → P a
if_some P None a p e = absurd (cc)
if_some P (Some b) a p e = let same : b ≡ a = cc in subst (λ c. P c) same p

-- a start, numbers and streams make a plan
play_fits : (x : PlayTexts) → IfSome (play_by x) IsFit
play_fits x =
    of_then IsFit (λ n. cond (is_host x.host && is_path x.path) (option_map (λ streams. Play (plan_by x n streams)) (streams_by (x.stream ∷ x.more))) None) (numbers_by x)
    (λ n is.
    let fit = if_some AreFit (numbers_by x) n (numbers_fit x) is in
    of_both IsFit (is_host x.host && is_path x.path) (option_map (λ streams. Play (plan_by x n streams)) (streams_by (x.stream ∷ x.more))) None
    (of_map IsFit (λ streams. Play (plan_by x n streams)) (streams_by (x.stream ∷ x.more)) (λ streams s.
    record { streams = few (x.stream ∷ x.more) streams s; count = fit.count; tries = fit.tries; refresh = fit.refresh }))
    tt)

-- a number and a size make a world
rounds_fit : (n : ℕ) (size : Text) → n < 2 ^ 31 → IfSome (option_map (λ s. Rehearse n s) (numeral 0 2000 size)) IsFit
rounds_fit n size low =
    of_map IsFit (λ s. Rehearse n s) (numeral 0 2000 size) (λ s e. let few_rounds = between 0 2000 size s e in record { number_fits = low; size_fits = few_rounds.high_is })

rehearse_fits : (x : Text × Text) → IfSome (rehearse_by x.0 x.1) IsFit
rehearse_fits x =
    of_then IsFit (λ n. option_map (λ s. Rehearse n s) (numeral 0 2000 x.1)) (numeral 0 (2 ^ 31 - 1) x.0)
    (λ n e. let world = between 0 (2 ^ 31 - 1) x.0 n e in rounds_fit n x.1 (omega (arith, world.high_is)))

-- what another command asks for is nothing to play
pick_fits : (x : Text × Text) → IfSome (pick_by x.0 x.1) IsFit
pick_fits x =
    of_then IsFit (λ t. option_map (λ at. Pick t at) (numeral 0 (2 ^ 63 - 1) x.1)) (numeral 1 (2 ^ 32 - 1) x.0)
    (λ t p. of_map IsFit (λ at. Pick t at) (numeral 0 (2 ^ 63 - 1) x.1) (λ at q. tt))

some_by : (o : Option ℕ) (n : ℕ) → option_map (λ m. Some m) o ≡ Some (Some n) → o ≡ Some n
some_by None n e = absurd (cc)
some_by (Some m) n e = let same : Some m ≡ Some n = cc in same

players_between : (text : Option Text) (n : ℕ) → players_by text ≡ Some (Some n) → IsBetween 1 16 n
players_between None n e = absurd (let none : Some None ≡ Some (Some n) = e in cc)
players_between (Some text) n e = between 1 16 text n (some_by (numeral 1 16 text) n e)

abbrev served : ServeTexts → Option ℕ → ℕ → ℕ → Text → Wanted
served x players port turns store =
    served_by (record { store = store; port = port; ladder = x.ladder; turns = turns; bind = filled x.bind; journal = filled x.journal }) players

served_fits : (x : ServeTexts) (players : Option ℕ) (port turns : ℕ) (store : Text) → players_by (filled x.players) ≡ Some players → numeral 1 (last_port players) x.port ≡ Some port
    → IsFit (served x players port turns store)
served_fits x None port turns store q p = tt
served_fits x (Some players) port turns store q p =
    let count = players_between (filled x.players) players q in
    let place = between 1 65534 x.port port p in
    record { port = place.high_is; some_play = omega (arith, count.low_is); few_play = count.high_is }

serve_fits : (x : ServeTexts) → IfSome (serve_by x) IsFit
serve_fits x =
    of_then IsFit (λ players.
    option_and_then (λ port.
    option_and_then (λ turns. option_map (λ store. served x players port turns store) (filled x.store)) (number_or 1 (2 ^ 63 - 1) (Some (2 ^ 63 - 1)) x.turns))
    (numeral 1 (last_port players) x.port))
    (players_by (filled x.players)) (λ players q.
    of_then IsFit (λ port.
    option_and_then (λ turns. option_map (λ store. served x players port turns store) (filled x.store)) (number_or 1 (2 ^ 63 - 1) (Some (2 ^ 63 - 1)) x.turns))
    (numeral 1 (last_port players) x.port) (λ port p.
    of_then IsFit (λ turns. option_map (λ store. served x players port turns store) (filled x.store)) (number_or 1 (2 ^ 63 - 1) (Some (2 ^ 63 - 1)) x.turns) (λ turns t.
    of_map IsFit (λ store. served x players port turns store) (filled x.store) (λ store s. served_fits x players port turns store q p))))

push_fits : (x : PushTexts) → IfSome (push_by x) IsFit
push_fits x =
    of_then IsFit (λ port. cond (is_host x.host && (is_path x.path && is_name x.id)) (Some (Push x.host port x.path x.id)) None) (numeral 1 65535 x.port)
    (λ port p. of_both IsFit (is_host x.host && (is_path x.path && is_name x.id)) (Some (Push x.host port x.path x.id)) None tt tt)

list_fits : (r : Read) → IfSome (list_of r) IsFit
list_fits r =
    of_then IsFit (λ store. option_map Listing (filled store)) (only_word r.words) (λ store e. of_map IsFit Listing (filled store) (λ text s. tt))

export_fits : (x : ExportTexts) → IfSome (export_by x) IsFit
export_fits x =
    of_then IsFit (λ bitrate. option_and_then (λ store. option_map (λ name. Export store name bitrate) (name_by x.name)) (filled x.store)) (numeral 0 (2 ^ 32 - 1) x.bitrate) (λ bitrate b.
    of_then IsFit (λ store. option_map (λ name. Export store name bitrate) (name_by x.name)) (filled x.store) (λ store s.
    of_map IsFit (λ name. Export store name bitrate) (name_by x.name) (λ name n. tt)))

-- numbers make what is pulled
edge_fits : (x : EdgeTexts) → IfSome (edge_by x) IsPullable
edge_fits x =
    of_then IsPullable (λ port.
    option_and_then (λ rounds.
    option_and_then (λ tries.
    option_and_then (λ store. cond (is_host x.host && is_path x.path) (Some (pulling_by x port rounds tries store)) None) (filled x.store))
    (numeral 1 16 x.tries))
    (numeral 1 1000000 x.rounds))
    (numeral 1 65535 x.port) (λ port p.
    of_then IsPullable (λ rounds.
    option_and_then (λ tries.
    option_and_then (λ store. cond (is_host x.host && is_path x.path) (Some (pulling_by x port rounds tries store)) None) (filled x.store))
    (numeral 1 16 x.tries))
    (numeral 1 1000000 x.rounds) (λ rounds r.
    let many = between 1 1000000 x.rounds rounds r in
    of_then IsPullable (λ tries.
    option_and_then (λ store. cond (is_host x.host && is_path x.path) (Some (pulling_by x port rounds tries store)) None) (filled x.store))
    (numeral 1 16 x.tries) (λ tries t.
    let patient = between 1 16 x.tries tries t in
    of_then IsPullable (λ store. cond (is_host x.host && is_path x.path) (Some (pulling_by x port rounds tries store)) None) (filled x.store) (λ store s.
    of_both IsPullable (is_host x.host && is_path x.path) (Some (pulling_by x port rounds tries store)) None
    (record { rounds = omega (arith, many.low_is); tries = omega (arith, patient.low_is) }) tt))))

edge_read_fits : (o : Option Read) → IfSome (option_and_then edge_of o) IsPullable
edge_read_fits o = of_then IsPullable edge_of o (λ r e. of_then IsPullable edge_by (edge_texts r) (λ x s. edge_fits x))

pulls : (to : Pulling → Wanted) → ((e : Pulling) → IsPullable e → IsFit (to e)) → (o : Option Pulling) → IfSome o IsPullable → IfSome (option_map to o) IsFit
pulls to so None h = tt
pulls to so (Some e) h = so e h

-- the words behind a command, each of which is asked for by what is read of them
of_read : {A : Type 0} (texts : Read → Option A) (by : A → Option Wanted) (o : Option Read) → ((x : A) → IfSome (by x) IsFit)
    → IfSome (option_and_then (λ r. option_and_then by (texts r)) o) IsFit
of_read texts by o h = of_then IsFit (λ r. option_and_then by (texts r)) o (λ r e. of_then IsFit by (texts r) (λ x s. h x))

help_fits : (words : List Text) → IfSome (help_by words) IsFit
help_fits [] = tt
help_fits (name ∷ []) = of_map IsFit (λ topic. Help topic) (topic_named name) (λ topic e. tt)
help_fits (name ∷ more ∷ words) = tt

alone_fits : (words : List Text) (wanted : Wanted) → IsFit wanted → IfSome (alone words wanted) IsFit
alone_fits [] wanted fit = fit
alone_fits (word ∷ words) wanted fit = tt

asked_fits : (words : List Text) → IfSome (asked words) IsFit
unfolding asked
asked_fits [] = tt
asked_fits (command ∷ words) =
    of_both IsFit (is command (codes "pick")) (option_and_then pick_of (read [] words)) _
    (of_read (λ r. two_words r.words) (λ x. pick_by x.0 x.1) (read [] words) pick_fits)
    (of_both IsFit (is command (codes "serve")) (option_and_then serve_of (read serve_options words)) _
    (of_read serve_texts serve_by (read serve_options words) serve_fits)
    (of_both IsFit (is command (codes "push")) (option_and_then push_of (read [] words)) _
    (of_read (λ r. push_texts r.words) push_by (read [] words) push_fits)
    (of_both IsFit (is command (codes "list")) (option_and_then list_of (read [] words)) _
    (of_then IsFit list_of (read [] words) (λ r e. list_fits r))
    (of_both IsFit (is command (codes "play")) (option_and_then play_of (read play_options words)) _
    (of_read play_texts play_by (read play_options words) play_fits)
    (of_both IsFit (is command (codes "rehearse")) (option_and_then rehearse_of (read [] words)) _
    (of_read (λ r. two_words r.words) (λ x. rehearse_by x.0 x.1) (read [] words) rehearse_fits)
    (of_both IsFit (is command (codes "export")) (option_and_then export_of (read [] words)) _
    (of_read (λ r. export_texts r.words) export_by (read [] words) export_fits)
    (of_both IsFit (is command (codes "relay")) (option_map (λ e. Relay e) (option_and_then edge_of (read edge_options words))) _
    (pulls (λ e. Relay e) (λ e h. h) (option_and_then edge_of (read edge_options words)) (edge_read_fits (read edge_options words)))
    (of_both IsFit (is command (codes "standby")) (option_map (λ e. Standby e) (option_and_then edge_of (read edge_options words))) _
    (pulls (λ e. Standby e) (λ e h. h) (option_and_then edge_of (read edge_options words)) (edge_read_fits (read edge_options words)))
    (of_both IsFit (is command (codes "help")) (help_by words) _ (help_fits words)
    (of_both IsFit (is command (codes "--help")) (alone words (Help topics.All)) _ (alone_fits words (Help topics.All) tt)
    (of_both IsFit (is command (codes "version")) (alone words Version) _ (alone_fits words Version tt)
    (of_both IsFit (is command (codes "--version")) (alone words Version) None (alone_fits words Version tt)
    tt))))))))))))

-- what the words ask to play may be played
pub playable : (plan : Plan) (words : List Text) → Some (Play plan) ≡ asked words → IsPlayable plan
playable plan words e = if_some IsFit (asked words) (Play plan) (asked_fits words) (sym e)

-- and what they ask to serve with player threads may be shown by as many
pub showable : (s : Serving) (players : ℕ) (words : List Text) → Some (ServeShown s players) ≡ asked words → IsShowable s players
showable s players words is = if_some IsFit (asked words) (ServeShown s players) (asked_fits words) (sym is)

-- and what they ask to relay or to follow may be pulled
pub relayable : (e : Pulling) (words : List Text) → Some (Relay e) ≡ asked words → IsPullable e
relayable e words is = if_some IsFit (asked words) (Relay e) (asked_fits words) (sym is)

pub followable : (e : Pulling) (words : List Text) → Some (Standby e) ≡ asked words → IsPullable e
followable e words is = if_some IsFit (asked words) (Standby e) (asked_fits words) (sym is)

-- and what they ask to rehearse may be rehearsed
pub rehearsable : (number size : ℕ) (words : List Text) → Some (Rehearse number size) ≡ asked words → IsWorld number size
rehearsable number size words e = if_some IsFit (asked words) (Rehearse number size) (asked_fits words) (sym e)
