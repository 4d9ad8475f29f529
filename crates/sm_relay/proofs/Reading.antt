-- What was kept was read, in few exchanges; and a loss is told where one was.
use Rattle.std.proofs.Common.{◌≡◌, ◌≤◌, ◌+◌, ◌*◌, ℕ, zero, suc, List, [], ◌∷◌, ◌++◌, length, length-append, Option, Some, refl, ap, sym, ◌∙◌, subst, inl, inr, ⊎_elim, arith}
use Rattle.std.proofs.Math.Nat.{mul-le-mul_left}
use Rattle.std.specs.Prelude.{Contains}
use Rattle.std.specs.List.{AllByRecursion}
use Rattle.std.proofs.lemmas.List.Elements.{Contains-append_left, Contains-append_right}
use Rattle.sm_model.specs.declared.address.Address.{Address}
use Rattle.sm_model.specs.declared.entry.Entry.{Entry}
use Rattle.sm_model.specs.declared.fragment.Fragment.{Fragment}
use Rattle.sm_model.specs.declared.track.Track.{Track}
use Rattle.sm_archive.specs.declared.archive.Archive.{Archive}
use Rattle.sm_fetch.specs.declared.dial.Answer.TheVariants as answers
use Rattle.sm_fetch.specs.declared.dial.Answer.{Answer}
use Rattle.sm_fetch.specs.declared.dial.Exchange.{Exchange}
use Rattle.sm_fetch.specs.declared.got.Got.{Got}
use Rattle.sm_fetch.specs.declared.got.Got.TheVariants as got
use Rattle.sm_fetch.specs.declared.place.Place.{Place}
use Rattle.sm_fetch.specs.Spelt.{SpellsManifest, SpellsFragment, given}
use Rattle.sm_client.specs.declared.report.Miss.{Miss}
use Rattle.sm_client.specs.declared.report.Miss.TheVariants as miss
use Rattle.sm_client.specs.Stands.{miss_of}
use Rattle.sm_pull.specs.declared.plan.PullPlan.{PullPlan}
use Rattle.sm_pull.specs.declared.stop.Stop.{Stop}
use Rattle.sm_pull.specs.declared.stop.Stop.TheVariants as stop
use Rattle.sm_pull.specs.Asks.{AsksManifest, AsksFragment, Misses, Gives}
use Rattle.sm_pull.specs.Adds.{keeps_of}
use Rattle.sm_pull.proofs.Tried.{both_all}
use Rattle.sm_relay.specs.Wants.{Want, wants_of}
use Rattle.sm_relay.specs.Pulls.{Reads, IsStep, Fails, StopsAt, Walks, Breaks}
use Rattle.sm_relay.specs.declared.report.RelayEnd.{RelayEnd}
use Rattle.sm_relay.specs.declared.report.RelayEnd.TheVariants as ends
use Rattle.sm_relay.specs.Rounds.{Round, IsRound, IsBroken, RoundStops}
use Rattle.sm_relay.specs.Ends.{end_of, IsDone, IsStopped, EndsWith}
use Rattle.sm_relay.specs.Read.{WasRead, carried}
use Rattle.sm_relay.proofs.Origin.{all_with}
use Rattle.sm_relay.proofs.Whole.{read_address, ends_either}

-- ---- what was read

was_more : (place : Place) (ws ws' : List Want) (xs xs' : List Exchange) (f : Fragment) → ((w : Want) → Contains ws w → Contains ws' w) → ((x : Exchange) → Contains xs x → Contains xs' x) → WasRead place ws xs f
    → WasRead place ws' xs' f
was_more place ws ws' xs xs' f wants made r = record {
  want = r.want;
  wanted = wants r.want r.wanted;
  address_is = r.address_is;
  exchange = r.exchange;
  there = made r.exchange r.there;
  raw = r.raw;
  asked = r.asked;
  is = r.is;
}

here_is : {A : Type 0} (x : A) (xs : List A) → Contains (x ∷ xs) x
here_is x xs = (0, omega arith, refl)

behind : {A : Type 0} (x y : A) (xs : List A) → Contains xs y → Contains (x ∷ xs) y
behind x y xs there = (suc there.0, omega (arith, there.1), there.2)

reads_was : (plan : PullPlan) (log : List Entry) (w : Want) (made : List Exchange) (f : Fragment) → Reads plan log w made f → WasRead plan.place (w ∷ []) made f
reads_was plan log w made f r = record {
  want = w;
  wanted = here_is w [];
  address_is = read_address plan log w made f r;
  exchange = r.gave.last;
  there = subst (λ (xs : List Exchange). Contains xs r.gave.last) (sym r.gave.made_is) (Contains-append_right r.gave.missed (r.gave.last ∷ []) r.gave.last (here_is r.gave.last []));
  raw = r.raw;
  asked = r.gave.gave;
  is = r.is ∙ sym (ap (λ (g : Fragment). given g.stream g.bitrate r.raw) r.is);
}

step_was : (plan : PullPlan) (log : List Entry) (w : Want) (made : List Exchange) (added : List Fragment) → IsStep plan log w made added → AllByRecursion (WasRead plan.place (w ∷ []) made) added
step_was plan log w made added (inl s) = subst (AllByRecursion (WasRead plan.place (w ∷ []) made)) (sym s.added_is) tt
step_was plan log w made added (inr t) = subst (AllByRecursion (WasRead plan.place (w ∷ []) made)) (sym t.added_is) (reads_was plan log w made t.fragment t.reads, tt)

all_more : (place : Place) (ws ws' : List Want) (xs xs' : List Exchange) (fs : List Fragment) → ((w : Want) → Contains ws w → Contains ws' w) → ((x : Exchange) → Contains xs x → Contains xs' x)
    → AllByRecursion (WasRead place ws xs) fs → AllByRecursion (WasRead place ws' xs') fs
all_more place ws ws' xs xs' fs wants made all = all_with (WasRead place ws xs) (WasRead place ws' xs') fs (λ f r. was_more place ws ws' xs xs' f wants made r) all

walks_was : (plan : PullPlan) (log : List Entry) (ws : List Want) (made : List Exchange) (added : List Fragment) → Walks plan log ws made added → AllByRecursion (WasRead plan.place ws made) added
walks_was plan log [] made added walks = subst (AllByRecursion (WasRead plan.place [] made)) (sym walks.1) tt
walks_was plan log (w ∷ ws) made added (one, more, kept, rest, step, walks, made_is, added_is) =
    subst (AllByRecursion (WasRead plan.place (w ∷ ws) made)) (sym added_is)
    (both_all (WasRead plan.place (w ∷ ws) made) kept rest
    (all_more plan.place (w ∷ []) (w ∷ ws) one made kept (λ v there. Contains-append_left (w ∷ []) ws v there) (λ x there. subst (λ (xs : List Exchange). Contains xs x) (sym made_is) (Contains-append_left one more x there))
    (step_was plan log w one kept step))
    (all_more plan.place ws (w ∷ ws) more made rest (λ v there. behind w v ws there) (λ x there. subst (λ (xs : List Exchange). Contains xs x) (sym made_is) (Contains-append_right one more x there))
    (walks_was plan (log ++ keeps_of kept) ws more rest walks)))

pub round_read : (plan : PullPlan) (channel : List Track) (log : List Entry) (r : Round) → IsRound plan channel log r → AllByRecursion (WasRead plan.place (wants_of channel r.listing) r.pulled) r.kept
round_read plan channel log r is = walks_was plan log (wants_of channel r.listing) r.pulled r.kept is.walks

fails_was : (plan : PullPlan) (new : Archive) (log : List Entry) (w : Want) (made : List Exchange) (tried : List Fragment) (why : Stop) → Fails plan new log w made tried why
    → AllByRecursion (WasRead plan.place (w ∷ []) made) tried
fails_was plan new log w made tried why f = subst (AllByRecursion (WasRead plan.place (w ∷ []) made)) (sym f.tried_is) (reads_was plan log w made f.fragment f.reads, tt)

none_was : (plan : PullPlan) (w : Want) (made : List Exchange) (tried : List Fragment) → tried ≡ [] → AllByRecursion (WasRead plan.place (w ∷ []) made) tried
none_was plan w made tried is = subst (AllByRecursion (WasRead plan.place (w ∷ []) made)) (sym is) tt

stop_was : (plan : PullPlan) (new : Archive) (log : List Entry) (w : Want) (made : List Exchange) (tried : List Fragment) (why : Stop) → StopsAt plan new log w made tried why
    → AllByRecursion (WasRead plan.place (w ∷ []) made) tried
stop_was plan new log w made tried (stop.NoManifest outcomes) s = absurd s
stop_was plan new log w made tried (stop.NoTrack index) s = absurd s
stop_was plan new log w made tried (stop.GaveUp address outcomes) s = none_was plan w made tried s.tried_is
stop_was plan new log w made tried (stop.Refused address cause) s = fails_was plan new log w made tried (stop.Refused address cause) s
stop_was plan new log w made tried stop.Full s = fails_was plan new log w made tried stop.Full s
stop_was plan new log w made tried stop.DiskFault s = fails_was plan new log w made tried stop.DiskFault s
stop_was plan new log w made tried stop.NoMemory (inl r) = none_was plan w made tried r.tried_is
stop_was plan new log w made tried stop.NoMemory (inr f) = fails_was plan new log w made tried stop.NoMemory f

breaks_was : (plan : PullPlan) (new : Archive) (log : List Entry) (ws : List Want) (made : List Exchange) (added tried : List Fragment) (why : Stop) → Breaks plan new log ws made added tried why
    → AllByRecursion (WasRead plan.place ws made) (added ++ tried)
breaks_was plan new log ws made added tried why b =
    both_all (WasRead plan.place ws made) added tried
    (all_more plan.place b.front ws b.walked made added
    (λ v there. subst (λ (us : List Want). Contains us v) (sym b.wants_are) (Contains-append_left b.front (b.want ∷ b.back) v there))
    (λ x there. subst (λ (xs : List Exchange). Contains xs x) (sym b.made_is) (Contains-append_left b.walked b.last x there))
    (walks_was plan log b.front b.walked added b.walks))
    (all_more plan.place (b.want ∷ []) ws b.last made tried
    (λ v there. subst (λ (us : List Want). Contains us v) (sym b.wants_are) (Contains-append_right b.front (b.want ∷ b.back) v (Contains-append_left (b.want ∷ []) b.back v there)))
    (λ x there. subst (λ (xs : List Exchange). Contains xs x) (sym b.made_is) (Contains-append_right b.walked b.last x there))
    (stop_was plan new (log ++ keeps_of added) b.want b.last tried why b.stops))

pub broken_read : (plan : PullPlan) (channel : List Track) (new : Archive) (log : List Entry) (made : List Exchange) (added tried : List Fragment) (why : Stop)
    → (b : IsBroken plan channel new log made added tried why) → AllByRecursion (WasRead plan.place (wants_of channel b.listing) b.pulled) (added ++ tried)
broken_read plan channel new log made added tried why b = breaks_was plan new log (wants_of channel b.listing) b.pulled added tried why b.breaks

-- ---- how many exchanges

gives_few : {G : Type 0} (asks : Exchange → G → Type 0) (miss : G → Option Miss) (tries : ℕ) (made : List Exchange) (g : G) → Gives asks miss tries made g → length made ≤ tries
gives_few asks miss tries made g gives = let all = ap length gives.made_is in let both = length-append gives.missed (gives.last ∷ []) in let few = gives.few in omega (arith, all, both, few)

step_few : (plan : PullPlan) (log : List Entry) (w : Want) (made : List Exchange) (added : List Fragment) → IsStep plan log w made added → length made ≤ plan.tries
step_few plan log w made added (inl s) = let none = ap length s.made_is in omega (arith, none)
step_few plan log w made added (inr t) = gives_few (AsksFragment plan.place w.url w.address) miss_of plan.tries made (got.Fragment t.reads.raw) t.reads.gave

one_more : (tries n a b c : ℕ) → a ≤ tries → b ≤ tries * n → c ≡ a + b → c ≤ tries * suc n
one_more tries n a b c first rest is = let times : tries * suc n ≡ tries * n + tries = omega arith in omega (arith, times, first, rest, is)

walks_few : (plan : PullPlan) (log : List Entry) (ws : List Want) (made : List Exchange) (added : List Fragment) → Walks plan log ws made added → length made ≤ plan.tries * length ws
walks_few plan log [] made added walks = let none = ap length walks.0 in omega (arith, none)
walks_few plan log (w ∷ ws) made added (one, more, kept, rest, step, walks, made_is, added_is) =
    one_more plan.tries (length ws) (length one) (length more) (length made) (step_few plan log w one kept step) (walks_few plan (log ++ keeps_of kept) ws more rest walks) (ap length made_is ∙ length-append one more)

with_manifest : (tries n a b c : ℕ) → a ≤ tries → b ≤ tries * n → c ≡ a + b → c ≤ tries * (1 + n)
with_manifest tries n a b c first rest is = let times : tries * (1 + n) ≡ tries + tries * n = omega arith in omega (arith, times, first, rest, is)

pub round_short : (plan : PullPlan) (channel : List Track) (log : List Entry) (r : Round) → IsRound plan channel log r → length r.asked + length r.pulled ≤ plan.tries * (1 + length (wants_of channel r.listing))
round_short plan channel log r is =
    with_manifest plan.tries (length (wants_of channel r.listing)) (length r.asked) (length r.pulled) (length r.asked + length r.pulled)
    (gives_few (AsksManifest plan.place) miss_of plan.tries r.asked (got.Manifest r.listing) is.read) (walks_few plan log (wants_of channel r.listing) r.pulled r.kept is.walks) refl

stop_few : (plan : PullPlan) (new : Archive) (log : List Entry) (w : Want) (made : List Exchange) (tried : List Fragment) (why : Stop) → StopsAt plan new log w made tried why → length made ≤ plan.tries
stop_few plan new log w made tried (stop.NoManifest outcomes) s = absurd s
stop_few plan new log w made tried (stop.NoTrack index) s = absurd s
stop_few plan new log w made tried (stop.GaveUp address outcomes) s = let all = s.missed.all in omega (arith, all)
stop_few plan new log w made tried (stop.Refused address cause) s = gives_few (AsksFragment plan.place w.url w.address) miss_of plan.tries made (got.Fragment s.reads.raw) s.reads.gave
stop_few plan new log w made tried stop.Full s = gives_few (AsksFragment plan.place w.url w.address) miss_of plan.tries made (got.Fragment s.reads.raw) s.reads.gave
stop_few plan new log w made tried stop.DiskFault s = gives_few (AsksFragment plan.place w.url w.address) miss_of plan.tries made (got.Fragment s.reads.raw) s.reads.gave
stop_few plan new log w made tried stop.NoMemory (inl r) = r.tries.few
stop_few plan new log w made tried stop.NoMemory (inr s) = gives_few (AsksFragment plan.place w.url w.address) miss_of plan.tries made (got.Fragment s.reads.raw) s.reads.gave

wider : (tries k n a b c : ℕ) → a ≤ tries * k → b ≤ tries → k + 1 ≤ n → c ≡ a + b → c ≤ tries * n
wider tries k zero a b c first rest le is = absurd (omega (arith, le))
wider tries k (suc m) a b c first rest le is =
    let times : tries * suc m ≡ tries * m + tries = omega arith in
    let more : tries * k ≤ tries * m = mul-le-mul_left tries (omega (arith, le)) in
    omega (arith, times, more, first, rest, is)

pub broken_short : (plan : PullPlan) (channel : List Track) (new : Archive) (log : List Entry) (made : List Exchange) (added tried : List Fragment) (why : Stop)
    → (b : IsBroken plan channel new log made added tried why) → length made ≤ plan.tries * (1 + length (wants_of channel b.listing))
broken_short plan channel new log made added tried why b =
    let ws = wants_of channel b.listing in
    let all = ap length b.breaks.wants_are ∙ length-append b.breaks.front (b.breaks.want ∷ b.breaks.back) in
    let pulled : length b.pulled ≤ plan.tries * length ws =
    wider plan.tries (length b.breaks.front) (length ws) (length b.breaks.walked) (length b.breaks.last) (length b.pulled) (walks_few plan log b.breaks.front b.breaks.walked added b.breaks.walks)
    (stop_few plan new (log ++ keeps_of added) b.breaks.want b.breaks.last tried why b.breaks.stops) (omega (arith, all)) (ap length b.breaks.made_is ∙ length-append b.breaks.walked b.breaks.last) in
    with_manifest plan.tries (length ws) (length b.asked) (length b.pulled) (length made) (gives_few (AsksManifest plan.place) miss_of plan.tries b.asked (got.Manifest b.listing) b.read) pulled
    (ap length b.made_is ∙ length-append b.asked b.pulled)

-- ---- losses

manifest_lost : (answer : Answer) → SpellsManifest answer got.Lost → answer ≡ answers.Lost
manifest_lost (answers.Bytes bytes) s = absurd s
manifest_lost answers.Lost s = refl
manifest_lost answers.NoMemory s = absurd (cc)

fragment_lost : (time : ℕ) (answer : Answer) → SpellsFragment time answer got.Lost → answer ≡ answers.Lost
fragment_lost time (answers.Bytes bytes) s = absurd s
fragment_lost time answers.Lost s = refl
fragment_lost time answers.NoMemory s = absurd (cc)

lost_got : (g : Got) → miss_of g ≡ Some miss.Lost → g ≡ got.Lost
lost_got (got.Manifest l) e = absurd (cc)
lost_got (got.Fragment raw) e = absurd (cc)
lost_got (got.Status status) e = absurd (cc)
lost_got got.Cut e = absurd (cc)
lost_got (got.Unreadable at) e = absurd (cc)
lost_got got.Lost e = refl
lost_got got.NoMemory e = absurd (cc)

-- an exchange that was lost is among those whose outcomes have a loss
module _ (asks : Exchange → Got → Type 0) (so : (x : Exchange) → asks x got.Lost → x.answer ≡ answers.Lost) where
  pub lost_there : (xs : List Exchange) (ms : List Miss) → Misses asks miss_of xs ms → Contains ms miss.Lost → (x : Exchange) × Contains xs x × (x.answer ≡ answers.Lost)
  lost_there [] [] all (k, lt, e) = absurd (omega (arith, lt))
  lost_there [] (m ∷ ms) all there = absurd all
  lost_there (x ∷ xs) [] all there = absurd all
  lost_there (x ∷ xs) (m ∷ ms) all (zero, lt, e) =
      let is : miss_of all.0.0 ≡ Some miss.Lost = all.0.2 ∙ ap (λ (n : Miss). Some n) e in
      (x, here_is x xs, so x (subst (asks x) (lost_got all.0.0 is) all.0.1))
  lost_there (x ∷ xs) (m ∷ ms) all (suc k, lt, e) =
      let r = lost_there xs ms all.1 (k, omega (arith, lt), e) in
      (r.0, behind x r.0 xs r.1, r.2)

pub lost_manifest : (place : Place) (x : Exchange) → AsksManifest place x got.Lost → x.answer ≡ answers.Lost
lost_manifest place x a = manifest_lost x.answer a.spelled

pub lost_fragment : (place : Place) (url : List ℕ) (address : Address) (x : Exchange) → AsksFragment place url address x got.Lost → x.answer ≡ answers.Lost
lost_fragment place url address x a = fragment_lost address.time x.answer a.spelled

nothing_there : {A : Type 0} (x : A) → Contains [] x → ⊥
nothing_there x h = omega (arith, h.1)

pub stops_lost : (plan : PullPlan) (channel : List Track) (new : Archive) (log : List Entry) (made : List Exchange) (added tried : List Fragment) (why : Stop) → RoundStops plan channel new log made added tried why
    → Contains (carried (end_of why)) miss.Lost → (x : Exchange) × Contains made x × (x.answer ≡ answers.Lost)
stops_lost plan channel new log made added tried (stop.NoManifest outcomes) s there = lost_there (AsksManifest plan.place) (lost_manifest plan.place) made outcomes s.missed.misses there
stops_lost plan channel new log made added tried (stop.NoTrack index) s there = absurd (nothing_there miss.Lost there)
stops_lost plan channel new log made added tried (stop.GaveUp address outcomes) s there =
    let w = s.breaks.want in
    let r = lost_there (AsksFragment plan.place w.url w.address) (lost_fragment plan.place w.url w.address) s.breaks.last outcomes s.breaks.stops.missed.misses there in (
      r.0,
      subst (λ (xs : List Exchange). Contains xs r.0) (sym (s.made_is ∙ ap (λ (xs : List Exchange). s.asked ++ xs) s.breaks.made_is))
          (Contains-append_right s.asked (s.breaks.walked ++ s.breaks.last) r.0 (Contains-append_right s.breaks.walked s.breaks.last r.0 r.1)),
      r.2,
    )
stops_lost plan channel new log made added tried (stop.Refused address cause) s there = absurd (nothing_there miss.Lost there)
stops_lost plan channel new log made added tried stop.Full s there = absurd (nothing_there miss.Lost there)
stops_lost plan channel new log made added tried stop.DiskFault s there = absurd (nothing_there miss.Lost there)
stops_lost plan channel new log made added tried stop.NoMemory s there = absurd (nothing_there miss.Lost there)

pub ends_lost : (plan : PullPlan) (channel : List Track) (new : Archive) (log : List Entry) (count : ℕ) (made : List Exchange) (added tried : List Fragment) (end : RelayEnd)
    → EndsWith plan channel new log count made added tried end → Contains (carried end) miss.Lost → (x : Exchange) × Contains made x × (x.answer ≡ answers.Lost)
ends_lost plan channel new log count made added tried end e there =
    ⊎_elim
    (λ (done : IsDone plan count made added tried × (end ≡ ends.Done)). absurd (nothing_there miss.Lost (subst (λ (o : RelayEnd). Contains (carried o) miss.Lost) done.1 there)))
    (λ (out : IsStopped plan channel new log count made added tried end).
    stops_lost plan channel new log made added tried out.why out.stops (subst (λ (o : RelayEnd). Contains (carried o) miss.Lost) out.end_is there))
    (ends_either plan channel new log count made added tried end e)
