-- What a relay kept was read of its origin.
use Rattle.std.proofs.Common.{◌≡◌, ◌⊎◌, inl, inr, ℕ, List, [], ◌∷◌, ◌++◌, Option, Some, sym, ap, subst, ◌∙◌, append_assoc}
use Rattle.std.proofs.lemmas.List.{append_cancel_left}
use Rattle.std.proofs.lemmas.List.Elements.{Contains-append_left, Contains-append_right}
use Rattle.std.specs.List.{AllByRecursion}
use Rattle.std.specs.Prelude.{Contains}
use Rattle.sm_model.specs.declared.entry.Entry.{Entry}
use Rattle.sm_model.specs.declared.fragment.Fragment.{Fragment}
use Rattle.sm_model.specs.declared.track.Track.{Track}
use Rattle.sm_model.specs.declared.address.Address.{Address}
use Rattle.sm_fetch.specs.declared.dial.Exchange.{Exchange}
use Rattle.sm_fetch.specs.declared.got.Got.TheVariants as got
use Rattle.sm_fetch.specs.declared.place.Place.{Place}
use Rattle.sm_fetch.specs.Exchanges.{with_all}
use Rattle.sm_site.specs.Meanings.{Seen}
use Rattle.sm_archive.specs.declared.archive.Archive.{Archive}
use Rattle.sm_archive.specs.Store.{IsStore}
use Rattle.sm_pull.specs.declared.plan.PullPlan.{PullPlan}
use Rattle.sm_pull.specs.declared.stop.Stop.{Stop}
use Rattle.sm_pull.specs.declared.stop.Stop.TheVariants as stop
use Rattle.sm_pull.specs.Adds.{keeps_of}
use Rattle.sm_pull.specs.Asks.{AsksFragment}
use Rattle.sm_relay.specs.declared.report.RelayEnd.{RelayEnd}
use Rattle.sm_relay.specs.declared.report.RelayEnd.TheVariants as ends
use Rattle.sm_relay.specs.declared.report.RelayReport.{RelayReport}
use Rattle.sm_relay.specs.Ends.{EndsWith}
use Rattle.sm_relay.specs.Read.{WasRead}
use Rattle.sm_relay.specs.Rounds.{AreRounds, IsBroken, IsRound, Round, RoundStops, kept_in, made_in}
use Rattle.sm_relay.specs.Wants.{Want, wants_of}
use Rattle.sm_edge.specs.Relaying.{HasRelayed}
use Rattle.sm_client.specs.Turns.{Meaning}
use Rattle.sm_tool.specs.declared.answer.Answer.{Answer}
use Rattle.sm_tool.specs.Edges.{Dialing, RelayMeans, at_edge, plan_of}
use Rattle.sm_tool.specs.Ran.{Around, IsRun, Means, MeansBy}
use Rattle.sm_run.specs.Runs.{RunsBy, shown_by}
use Rattle.sm_words.specs.Words.{Pulling, Relay, Serving, Wanted, asked}
use Rattle.sm_usage.specs.Wrong.{wrong_words}
use Rattle.sm_ends.specs.Ended.{End}
use Rattle.sm_promises.specs.Promises.{ProgramRan, IsPulled, WasReadFrom}

read_from : (place : Place) (wants : List Want) (xs ys : List Exchange) (f : Fragment) → ((x : Exchange) → Contains xs x → Contains ys x) → WasRead place wants xs f → WasReadFrom place ys f
read_from place wants xs ys f more w = record {
  url = w.want.url;
  exchange = w.exchange;
  there = more w.exchange w.there;
  raw = w.raw;
  asked = subst (λ (a : Address). AsksFragment place w.want.url a w.exchange (got.Fragment w.raw)) (sym w.address_is) w.asked;
  is = w.is;
}

all_from : (place : Place) (wants : List Want) (xs ys : List Exchange) (fs : List Fragment) → ((x : Exchange) → Contains xs x → Contains ys x) → AllByRecursion (WasRead place wants xs) fs
    → AllByRecursion (WasReadFrom place ys) fs
all_from place wants xs ys [] more all = tt
all_from place wants xs ys (f ∷ fs) more all = (read_from place wants xs ys f more all.0, all_from place wants xs ys fs more all.1)

all_both : (P : Fragment → Type 0) (xs ys : List Fragment) → AllByRecursion P xs → AllByRecursion P ys → AllByRecursion P (xs ++ ys)
all_both P [] ys a b = b
all_both P (x ∷ xs) ys a b = (a.0, all_both P xs ys a.1 b)

all_front : (P : Fragment → Type 0) (xs ys : List Fragment) → AllByRecursion P (xs ++ ys) → AllByRecursion P xs
all_front P [] ys all = tt
all_front P (x ∷ xs) ys all = (all.0, all_front P xs ys all.1)

more_from : (place : Place) (xs ys : List Exchange) (fs : List Fragment) → ((x : Exchange) → Contains xs x → Contains ys x) → AllByRecursion (WasReadFrom place xs) fs → AllByRecursion (WasReadFrom place ys) fs
more_from place xs ys [] more all = tt
more_from place xs ys (f ∷ fs) more all = (
  record { url = all.0.url; exchange = all.0.exchange; there = more all.0.exchange all.0.there; raw = all.0.raw; asked = all.0.asked; is = all.0.is },
  more_from place xs ys fs more all.1,
)

pub one_log : (told : Option (List Exchange)) (b made xs : List Exchange) → told ≡ with_all (Some b) xs → told ≡ Some (b ++ made) → xs ≡ made
one_log told b made xs is told_is =
    let same : Some (b ++ xs) ≡ Some (b ++ made) = sym is ∙ told_is in
    let inner : b ++ xs ≡ b ++ made = cc in
    append_cancel_left b xs made inner

module _ (by_round : (plan : PullPlan) (channel : List Track) (log : List Entry) (r : Round) → IsRound plan channel log r
    → AllByRecursion (WasRead plan.place (wants_of channel r.listing) r.pulled) r.kept)
    (by_broken : (plan : PullPlan) (channel : List Track) (new : Archive) (log : List Entry) (made : List Exchange) (added tried : List Fragment) (why : Stop)
    → (b : IsBroken plan channel new log made added tried why) → AllByRecursion (WasRead plan.place (wants_of channel b.listing) b.pulled) (added ++ tried)) where
  rounds_read : (plan : PullPlan) (channel : List Track) (log : List Entry) (rs : List Round) → AreRounds plan channel log rs → AllByRecursion (WasReadFrom plan.place (made_in rs)) (kept_in rs)
  rounds_read plan channel log [] are = tt
  rounds_read plan channel log (r ∷ rs) are =
      all_both (WasReadFrom plan.place (made_in (r ∷ rs))) r.kept (kept_in rs)
      (all_from plan.place (wants_of channel r.listing) r.pulled (made_in (r ∷ rs)) r.kept
      (λ x there. Contains-append_left (r.asked ++ r.pulled) (made_in rs) x (Contains-append_right r.asked r.pulled x there)) (by_round plan channel log r are.0))
      (more_from plan.place (made_in rs) (made_in (r ∷ rs)) (kept_in rs) (λ x there. Contains-append_right (r.asked ++ r.pulled) (made_in rs) x there)
      (rounds_read plan channel (log ++ keeps_of r.kept) rs are.1))

  none_read : (place : Place) (made : List Exchange) (added tried : List Fragment) → added ≡ [] → tried ≡ [] → AllByRecursion (WasReadFrom place made) (added ++ tried)
  none_read place made added tried a t = subst (λ (fs : List Fragment). AllByRecursion (WasReadFrom place made) fs) (sym (ap (λ (fs : List Fragment). fs ++ tried) a ∙ t)) tt

  broken_read : (plan : PullPlan) (channel : List Track) (new : Archive) (log : List Entry) (made : List Exchange) (added tried : List Fragment) (why : Stop)
      → IsBroken plan channel new log made added tried why → AllByRecursion (WasReadFrom plan.place made) (added ++ tried)
  broken_read plan channel new log made added tried why b =
      all_from plan.place (wants_of channel b.listing) b.pulled made (added ++ tried)
      (λ x there. subst (λ (xs : List Exchange). Contains xs x) (sym b.made_is) (Contains-append_right b.asked b.pulled x there)) (by_broken plan channel new log made added tried why b)

  stops_read : (plan : PullPlan) (channel : List Track) (new : Archive) (log : List Entry) (made : List Exchange) (added tried : List Fragment) (why : Stop)
      → RoundStops plan channel new log made added tried why → AllByRecursion (WasReadFrom plan.place made) (added ++ tried)
  stops_read plan channel new log made added tried (stop.NoManifest outcomes) h = none_read plan.place made added tried h.added_is h.tried_is
  stops_read plan channel new log made added tried (stop.NoTrack index) h = none_read plan.place made added tried h.added_is h.tried_is
  stops_read plan channel new log made added tried (stop.GaveUp address outcomes) h = broken_read plan channel new log made added tried (stop.GaveUp address outcomes) h
  stops_read plan channel new log made added tried (stop.Refused address cause) h = broken_read plan channel new log made added tried (stop.Refused address cause) h
  stops_read plan channel new log made added tried stop.Full h = broken_read plan channel new log made added tried stop.Full h
  stops_read plan channel new log made added tried stop.DiskFault h = broken_read plan channel new log made added tried stop.DiskFault h
  stops_read plan channel new log made added tried stop.NoMemory (inl h) = none_read plan.place made added tried h.added_is h.tried_is
  stops_read plan channel new log made added tried stop.NoMemory (inr h) = broken_read plan channel new log made added tried stop.NoMemory h

  last_read : (plan : PullPlan) (channel : List Track) (new : Archive) (log : List Entry) (count : ℕ) (made : List Exchange) (added tried : List Fragment) (end : RelayEnd)
      → EndsWith plan channel new log count made added tried end → AllByRecursion (WasReadFrom plan.place made) (added ++ tried)
  last_read plan channel new log count made added tried ends.Done h = none_read plan.place made added tried h.added_is h.tried_is
  last_read plan channel new log count made added tried (ends.NoManifest outcomes) h = stops_read plan channel new log made added tried h.why h.stops
  last_read plan channel new log count made added tried (ends.NoTrack index) h = stops_read plan channel new log made added tried h.why h.stops
  last_read plan channel new log count made added tried (ends.GaveUp address outcomes) h = stops_read plan channel new log made added tried h.why h.stops
  last_read plan channel new log count made added tried (ends.Refused address cause) h = stops_read plan channel new log made added tried h.why h.stops
  last_read plan channel new log count made added tried ends.Full h = stops_read plan channel new log made added tried h.why h.stops
  last_read plan channel new log count made added tried ends.DiskFault h = stops_read plan channel new log made added tried h.why h.stops
  last_read plan channel new log count made added tried ends.NoMemory h = stops_read plan channel new log made added tried h.why h.stops

  module _ {D C P : Type 0} (site : Seen D) (t : Dialing C) (m : Meaning P) where
    pulled : (e : Pulling) (in_ in' : End) (before after : D) (c c' : C) (b made : List Exchange) (channel : List Track) (report : RelayReport) → t.log c ≡ Some b → t.log c' ≡ Some (b ++ made)
        → HasRelayed site t.log t.store t.later t.faults t.chosen in_ in' (at_edge e) e.place.host (plan_of e) before after c c' channel report → IsPulled site t e in_ in' before after c c' made
    pulled e in_ in' before after c c' b made channel report was told h =
        let r = h.relayed in
        let plan = plan_of e in
        let xs = made_in r.rounds ++ r.made in
        let here : t.log c' ≡ with_all (Some b) xs = r.asks.told_is ∙ ap (λ (o : Option (List Exchange)). with_all o xs) (h.quiet ∙ was) in
        let same : xs ≡ made = one_log (t.log c') b made xs here told in
        let log = h.edge.store.log ++ keeps_of (kept_in r.rounds) in
        let first = more_from plan.place (made_in r.rounds) xs (kept_in r.rounds) (λ x there. Contains-append_left (made_in r.rounds) r.made x there) (rounds_read plan channel h.edge.store.log r.rounds r.are) in
        let last = more_from plan.place r.made xs (r.added ++ r.tried) (λ x there. Contains-append_right (made_in r.rounds) r.made x there)
        (last_read plan channel h.after log _ r.made r.added r.tried report.end r.ends) in
        let both = all_both (WasReadFrom plan.place xs) (kept_in r.rounds) (r.added ++ r.tried) first last in
        let read = subst (λ (ys : List Exchange). AllByRecursion (WasReadFrom plan.place ys) ((kept_in r.rounds ++ r.added) ++ r.tried)) same
        (subst (λ (fs : List Fragment). AllByRecursion (WasReadFrom plan.place xs) fs) (sym (append_assoc (kept_in r.rounds) r.added r.tried)) both) in
        record {
          channel = channel;
          report = report;
          ran = h;
          was_read = read;
          left = λ some u image since is.
              let at_moment = (r.adds.moments some).each u image since is in
              let front = at_moment.2 in (
                front.front,
                subst (λ (l : List Entry). IsStore l image) front.after_is at_moment.1,
                all_front (WasReadFrom plan.place made) front.front front.back (subst (λ (fs : List Fragment). AllByRecursion (WasReadFrom plan.place made) fs) front.whole read),
              );
        }

    abbrev Comes : Pulling → End → End → D → D → C → C → List Exchange → Type 0
    Comes e in_ in' before after c c' made = IsPulled site t e in_ in' before after c c' made ⊎ (t.log c' ≡ t.log c)

    by_means : (e : Pulling) (in_ in' : End) (before after : D) (c c' : C) (b made : List Exchange) (answer : Answer) → t.log c ≡ Some b → t.log c' ≡ Some (b ++ made)
        → RelayMeans site t e in_ in' before after c c' answer → Comes e in_ in' before after c c' made
    by_means e in_ in' before after c c' b made answer was told (inl (channel, report, h, tells)) = inl (pulled e in_ in' before after c c' b made channel report was told h)
    by_means e in_ in' before after c c' b made answer was told (inr u) = inr u.2

    in_run : (policies : List P) (words : List (List ℕ)) (e : Pulling) (old new : Around) (out out' : End) (before after : D) (c c' : C) (status : ℕ) (b made : List Exchange)
        → asked words ≡ Some (Relay e) → t.log c ≡ Some b → t.log c' ≡ Some (b ++ made) → IsRun site t m policies words old new out out' before after c c' status → Comes e old.input new.input before after c c' made
    in_run policies words e old new out out' before after c c' status b made is was told r = go r.means
      where
        go : Means site t m policies words old new out r.written before after c c' r.answer → Comes e old.input new.input before after c c' made
        go (inl h) =
            let of_words = subst (λ (x : Option Wanted). MeansBy site t m policies (wrong_words words) x old new out r.written before after c c' r.answer) is h in
            by_means e old.input new.input before after c c' b made r.answer was told of_words.0
        go (inr h) = inr (ap t.log h.2.dial_is)

    pub relays : (before after : D) (r : ProgramRan site t m before after) (e : Pulling) → asked r.words ≡ Some (Relay e) → (b made : List Exchange) → t.log r.dial ≡ Some b → t.log r.dial' ≡ Some (b ++ made)
        → Comes e r.around.input r.around'.input before after r.dial r.dial' made
    relays before after r e is b made was told =
        let runs = subst (λ (o : Option (Serving × ℕ)). RunsBy site t m r.policies r.words o r.around r.around' r.output r.output' before after r.dial r.dial' r.staff r.staff' r.status) (ap shown_by is) r.runs in
        in_run r.policies r.words e r.around r.around' r.output r.output' before after r.dial r.dial' r.status b made is was told runs.0
