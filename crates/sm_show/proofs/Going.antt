-- How the loop goes on.
use Rattle.std.proofs.Common.{◌≡◌, ◌≤◌, ◌<◌, ◌+◌, ◌↔◌, ℕ, true, List, [], ◌∷◌, ◌++◌, IsSome, Option, inr, refl, sym, ◌∙◌, ap, subst, arith}
use Rattle.sm_site.specs.Image.{Image}
use Rattle.sm_site.specs.Meanings.{Deal, Item, Seen}
use Rattle.sm_site.specs.Meanings.Deal.{Over}
use Rattle.sm_site.specs.Clauses.{Rose}
use Rattle.sm_model.specs.declared.entry.Entry.{Entry}
use Rattle.sm_log.specs.Digests.{digest_of}
use Rattle.sm_archive.specs.Store.{IsStore}
use Rattle.sm_origin.specs.Machine.{Machine}
use Rattle.sm_origin.specs.Shown.{Claim, Holds}
use Rattle.sm_serve.specs.declared.outcome.Served.{Served as Outcome}
use Rattle.sm_serve.specs.declared.outcome.Served.TheVariants as served
use Rattle.sm_serve.specs.declared.state.State.{State}
use Rattle.sm_serve.specs.Connections.{deals_in, events_in}
use Rattle.sm_serve.specs.Run.{Stepped, Point, Run}
use Rattle.sm_serve.specs.Moments.{FitsAt}
use Rattle.sm_serve.specs.Shown.{Shown}
use Rattle.sm_serve.specs.Surviving.{Survives}
use Rattle.sm_serve.specs.Standing.{History, Keeps, is_told}
use Rattle.sm_serve.specs.Serving.{Serves, Since, Turns, TurnsBy, EndsAs, IsOver, NoneIsOver, Served}
use Rattle.sm_serve.proofs.Events.{turns_then, counted}
use Rattle.sm_serve.proofs.Ending.{none_both, none_of}
use Rattle.sm_serve.proofs.Going.{run_as}
use Rattle.sm_shelf.specs.Shelf.{Desk, Belongs}
use Rattle.sm_show.specs.declared.outcome.Up.{Up}
use Rattle.sm_show.specs.declared.outcome.Up.TheVariants.{Whole, Behind}
use Rattle.sm_show.specs.Marks.{Shows, HasShown, behind_by, short_by}
use Rattle.sm_show.specs.Recalling.{Publishes, Recalls}
use Rattle.sm_show.proofs.Resting.{turns_rest}
use Rattle.sm_show.proofs.Marked.{belongs_later, shows_more}

-- the law that logs grow
abbrev pub Grows : Type 0
Grows = (h k : History) → Run true h.first h.begin h.found.disk_faults h.items h.steps h.point
    → Run true k.first k.begin k.found.disk_faults k.items k.steps k.point → Since h k → (more : List Entry) × (k.point.machine.log ≡ h.point.machine.log ++ more)

module _ {D : Type 0} (site : Seen D) where
  -- a later site tells its contents where this one does
  pub still_told : (h k : History) (s t : State) (d e : D) → Serves site h s d → Serves site k t e → Since h k → is_told (site.view e) ≡ is_told (site.view d)
  still_told h k s t d e one two since = two.keeps.still_told ∙ ap is_told since.found ∙ sym one.keeps.still_told

  pub grown : Grows → (h k : History) (s t : State) (d e : D) → Serves site h s d → Serves site k t e → Since h k → IsSome (site.view d).contents
      → (more : List Entry) × (k.point.machine.log ≡ h.point.machine.log ++ more)
  grown grows h k s t d e one two since told =
      let has : is_told (site.view e) ≡ true = still_told h k s t d e one two since ∙ told in
      grows h k (run_as (is_told (site.view d)) true h.first h.begin h.found.disk_faults h.items h.steps h.point (sym told) one.keeps.run)
      (run_as (is_told (site.view e)) true k.first k.begin k.found.disk_faults k.items k.steps k.point (sym has) two.keeps.run) since

  -- behind a turn and what is read back then
  unfoldable pub turns_next : (h : History) (i : ℕ) (was : Option (List Deal)) (mid state : State) (m d e : D) (one : TurnsBy site h i was mid m)
      → TurnsBy site one.turns.later 1 (site.view m).script state d → Recalls site state d e → TurnsBy site h (i + 1) was state e
  unfolding turns_then
  turns_next h i was mid state m d e one two recalls =
      turns_then site h (i + 1) 0 (i + 1) was state e state d (let same : 0 + (i + 1) ≡ i + 1 = omega arith in same)
      (turns_then site h i 1 (i + 1) was state d mid m (let same : 1 + i ≡ i + 1 = omega arith in same) one two)
      (turns_rest site two.turns.later (site.view d).script state e recalls.disk_alone.link.script (recalls.rests two.turns.later two.turns.serves))

  -- what belonged to the log belongs to that of a later site
  pub belongs_on : Grows → (h k l : History) (s t u : State) (d e f : D) (desk : Desk) → Serves site h s d → Serves site k t e → Since h k
      → Serves site l u f → Since k l → IsSome (site.view d).contents → Belongs k.point.machine.log desk → Belongs l.point.machine.log desk
  belongs_on grows h k l s t u d e f desk begin one on two since told belongs =
      let more = grown grows k l t u e f one two since (still_told h k s t d e begin one on ∙ told) in
      belongs_later k.point.machine.log more.0 l.point.machine.log desk more.1 belongs

  -- a turn, and what is published behind it
  pub turn_shows : Grows → (h k turned : History) (s t u : State) (d m e f : D) (before desk desk' : Desk) (up : Up) (n b b' c c' : ℕ) → Serves site h s d
      → Serves site k t m → Since h k → (serves : Serves site turned u e) → Since k turned → (deal : Deal) × (deals_in turned.items ≡ deals_in k.items ++ deal ∷ [])
      → (recalls : Recalls site u e f) → Publishes (site.view e).transcript desk desk'
      → ((l : History) → Serves site l u e → IsSome (site.view e).contents → Belongs l.point.machine.log desk → Belongs l.point.machine.log desk')
      → ((l : History) → Serves site l u e → IsSome (site.view e).contents → Belongs l.point.machine.log desk → (up ≡ Whole) ↔ (desk'.published ≡ digest_of l.point.machine.log))
      → (up ≡ Behind → IsSome (site.view e).contents → Rose (site.view e).disk_faults (site.view f).disk_faults)
      → IsSome (site.view d).contents → Shows h k n b c before desk → b' ≡ b + behind_by up → c' ≡ c + short_by up
      → Shows h (recalls.rests turned serves).later (n + 1) b' c' before desk'
  turn_shows grows h k turned s t u d m e f before desk desk' up n b b' c c' begin one on serves since took recalls more belongs whole blamed told shows bs cs =
      let rests = recalls.rests turned serves in
      let at_mid : is_told (site.view m) ≡ true = still_told h k s t d m begin one on ∙ told in
      let at_turned : is_told (site.view e) ≡ true = still_told k turned t u m e one serves since ∙ at_mid in
      let belonged = belongs_on grows h k turned s t u d m e desk begin one on serves since told shows.belongs in
      let was : (site.view e).disk_faults ≡ turned.point.faults = sym serves.keeps.counted in
      let now : (site.view f).disk_faults ≡ rests.later.point.faults = sym rests.serves.keeps.counted in
      shows_more h k turned rests.later n (n + 1) b b' c c' before desk desk' up shows since took rests.since rests.same
      (subst (λ (t : Option (List Item)). Publishes t desk desk') serves.keeps.told more) (rests.log (recalls.told ∙ at_turned)) (belongs turned serves at_turned belonged)
      (whole turned serves at_turned belonged)
      (λ behind. subst (λ (x : ℕ). Rose x rests.later.point.faults) was (subst (λ (x : ℕ). Rose (site.view e).disk_faults x) now (blamed behind at_turned))) refl bs cs

  -- the end says that nothing more comes
  pub ended_as : (h : History) (i n b c : ℕ) (was : Option (List Deal)) (mid state : State) (m d : D) (one : TurnsBy site h i was mid m)
      (two : TurnsBy site one.turns.later 1 (site.view m).script state d) → i < n → IsOver (site.view d).transcript → NoneIsOver one.deals → two.deals ≡ Over ∷ []
      → EndsAs n (served.Done i b c) (site.view d).transcript (events_in h.items) (events_in two.turns.later.items) (one.deals ++ two.deals)
  unfolding turns_then
  ended_as h i n b c was mid state m d one two few over none last = inr (
    few,
    counted site h (i + 1) was state d (turns_then site h i 1 (i + 1) was state d mid m (omega arith) one two),
    over,
    (one.deals, ap (λ (ds : List Deal). one.deals ++ ds) last, none),
  )

  -- no event came
  pub stopped_as : (h : History) (i n : ℕ) (was : Option (List Deal)) (mid state : State) (m d : D) (one : TurnsBy site h i was mid m)
      (two : TurnsBy site one.turns.later 0 (site.view m).script state d) → i < n → NoneIsOver one.deals → two.deals ≡ []
      → (events_in two.turns.later.items < n + events_in h.items) × NoneIsOver (one.deals ++ two.deals)
  unfolding turns_then
  stopped_as h i n was mid state m d one two few none last =
      let taken = counted site h (i + 0) was state d (turns_then site h i 0 (i + 0) was state d mid m (omega arith) one two) in
      (omega (arith, taken, few), none_both one.deals two.deals none (none_of two.deals last))

  module _ (left_told : (s : D) (t : ℕ) (image : Image) → site.left_at s t image → IsSome (site.view s).contents)
      (crashes : (first : Machine) (begin faults : ℕ) (items : List Item) (steps : List Stepped) (point : Point) → Run true first begin faults items steps point → (t : ℕ) (image : Image)
      → FitsAt first steps t image
      → (log : List Entry) × IsStore log image × ((more : List Entry) × (log ≡ first.log ++ more)) × ((claim : Claim) → Shown items t claim → Holds log claim)) where
    survives : (h : History) (d : D) → Keeps site h d → (t : ℕ) (image : Image) → h.begin ≤ t → site.left_at d t image → Survives h.first h.items t image
    survives h d keeps t image from left =
        let run = run_as (is_told (site.view d)) true h.first h.begin h.found.disk_faults h.items h.steps h.point (sym (left_told d t image left)) keeps.run in
        let s = crashes h.first h.begin h.found.disk_faults h.items h.steps h.point run t image (keeps.images t image from left) in
        record { log = s.0; store = s.1; more = s.2.0; extends = s.2.1; holds = s.3 }

    -- the loop served, and so it showed
    pub served_shown : (h : History) (deals : List Deal) (turns : ℕ) (result : Outcome) (before desk : Desk) (state : State) (d : D) → (all : Turns site h deals state d)
        → EndsAs turns result (site.view d).transcript (events_in h.items) (events_in all.later.items) deals → HasShown h result all.later before desk
        → (run : Served site h result turns state d) × HasShown h result run.later before desk
    served_shown h deals turns result before desk state d all ends shown =
        let k = all.serves.keeps in (
          record {
            later = all.later;
            since = all.since;
            deals = deals;
            taken = all.taken;
            no_ladder = all.no_ladder;
            ended = ends;
            run = k.run;
            awaits = all.serves.rest.phase_is;
            told = k.told;
            stands = all.serves.rest.stands;
            recorded = k.recorded;
            blamed = k.blamed;
            counted = k.counted;
            still_told = k.still_told;
            crash = k.images;
            survives = survives all.later d k;
          },
          shown,
        )
