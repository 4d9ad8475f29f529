-- What went out on a connection of its own is the origin's.
use Rattle.std.proofs.Common.{◌≡◌, ◌⊎◌, inl, inr, ℕ, ◌/◌, ◌≤◌, Bool, true, false, List, [], ◌∷◌, ◌++◌, length, take, drop, Option, None, Some, refl, sym, ◌∙◌, ap, subst, append_assoc, take-append-drop, arith}
use Rattle.std.specs.Prelude.{IfSome, IsSome}
use Rattle.std.proofs.lemmas.List.{append-nil, append_cancel_left}
use Rattle.sm_model.specs.declared.entry.Entry.{Entry}
use Rattle.sm_site.specs.declared.event.Event.{Event}
use Rattle.sm_site.specs.Clauses.{Both, Rose}
use Rattle.sm_site.specs.Image.{Image}
use Rattle.sm_site.specs.Meanings.{Item, Deal, sent_on, Seen}
use Rattle.sm_site.specs.Scripts.{deals_of, numbers_after}
use Rattle.sm_archive.specs.Store.{IsStore}
use Rattle.sm_log.specs.Logs.{channel_of}
use Rattle.sm_log.proofs.AllLogs.{sound_front}
use Rattle.sm_origin.specs.Machine.{Machine}
use Rattle.sm_origin.specs.Shown.{IsReal}
use Rattle.sm_origin.specs.Stores.{Fits}
use Rattle.sm_origin.proofs.Real.{real_front, spelled_fit}
use Rattle.sm_wire.proofs.WireLaw.{same_rest}
use Rattle.sm_serve.specs.declared.state.State.{State}
use Rattle.sm_serve.specs.Connections.{live, is_among, deals_in}
use Rattle.sm_serve.specs.Run.{Run, Stepped}
use Rattle.sm_serve.specs.Standing.{History, is_told}
use Rattle.sm_serve.specs.Serving.{Serves, Since, TurnsBy, AreTaken, numbers_of}
use Rattle.sm_serve.proofs.Going.{run_as}
use Rattle.sm_fetch.specs.declared.dial.Answer.{Answer}
use Rattle.sm_fetch.specs.declared.dial.Answer.TheVariants as answers
use Rattle.sm_fetch.specs.Origins.{FromOrigin, IsOfOrigin, Grows as Lasts, AnswersFrom}
use Rattle.sm_world.specs.declared.acted.Acted.{Acted}
use Rattle.sm_world.specs.declared.acted.Acted.TheVariants as acted
use Rattle.sm_world.specs.Answering.{HasSent, halved, answer_for}
use Rattle.sm_world.specs.Bringing.{begun, Brings}
use Rattle.sm_world.specs.Replying.{IsReplyFront}
use Rattle.sm_world.specs.Saying.{StandsAt, IsSaidBetween, IsSaidBy, IsCrowdedSince, IsLonger, TellsOn, WasCrowded, Says, SaysOn}
use Rattle.sm_world.specs.Wider.{said_between, tells_same}
use Rattle.sm_world.specs.Worlds.{World, IsOpen, Stands, Grows}
use Rattle.sm_world.proofs.Fronts.{AreFirst, deals_both, none_above, taken_of}
use Rattle.sm_world.proofs.Steps.{AreActs, AllCause, Counted, all_cause, path_counted, run_acts}
use Rattle.sm_world.proofs.OneRequest.{Stands as Stood, Good, sent_both, along, answers as spoken}
use Rattle.sm_world.proofs.Standing.{some_of, at_some, serves_to}

-- ---- logs of real entries

store_real : (log : List Entry) (image : Image) → IsStore log image → IsReal log
store_real log image store = record { sound = store.sound; each = spelled_fit (channel_of log) log store.bodies store.spell }

front_real : (log more : List Entry) → IsReal (log ++ more) → IsReal log
front_real log more real = real_front sound_front log more real

-- the log of a machine, one of whose images is there
now_real : (contents : Option Image) (outcomes : Image → Type 0) (m : Machine) → IsSome contents → IfSome contents outcomes → ((image : Image) → outcomes image → Fits m image) → IsReal m.log
now_real contents outcomes m some pass fits =
    let c = some_of contents some in
    let f = fits c.0 (at_some contents outcomes c.0 c.1 pass) in
    front_real m.log f.doubt (store_real (m.log ++ f.doubt) c.0 f.store)

-- ---- lists

nothing_front : (xs ys : List ℕ) → xs ++ ys ≡ [] → xs ≡ []
nothing_front [] ys is = refl
nothing_front (x ∷ xs) ys is = absurd (cc)

nothing_behind : (xs ys : List ℕ) → xs ++ ys ≡ [] → ys ≡ []
nothing_behind [] ys is = is
nothing_behind (x ∷ xs) ys is = absurd (cc)

-- the script that was told, and the one with events behind it
pub script_on : (a b : Option (List Deal)) (events : List Event) → IsSome a → Both a b (λ was now. now ≡ was ++ deals_of events) → (was : List Deal) × (a ≡ Some was) × (b ≡ Some (was ++ deals_of events))
script_on None None events some both = absurd (cc)
script_on None (Some b) events some both = absurd both
script_on (Some a) None events some both = absurd both
script_on (Some a) (Some b) events some both = (a, refl, ap (λ (l : List Deal). Some l) both)

pub taken_in : (a b : Option (List Deal)) (was deals : List Deal) → a ≡ Some was → Both a b (AreTaken deals) → (now : List Deal) × AreTaken deals was now
taken_in None b was deals is both = absurd (cc)
taken_in (Some a) None was deals is both = absurd both
taken_in (Some a) (Some b) was deals is both = (b, (let same : a ≡ was = cc in subst (λ (l : List Deal). AreTaken deals l b) same both))

-- two that are told
pub both_some : {A : Type 0} (a b : Option A) (R : A → A → Type 0) (x y : A) → a ≡ Some x → b ≡ Some y → R x y → Both a b R
both_some {A = A} a b R x y is_a is_b so = subst (λ (o : Option A). Both o b R) (sym is_a) (subst (λ (o : Option A). Both (Some x) o R) (sym is_b) so)

-- ---- what was served

module _ {D : Type 0} (site : Seen D) where
  -- nothing that could be said came
  pub says_nothing : (w : World) (before : D) (request : List ℕ) (came : Acted) (state : Option State) (d : D) → ((log : List Entry) → IsSaidBetween (site.view before) (site.view d) log request came)
      → (now : World) × Stands site now state d × Grows w now → Says site w before request came state d
  says_nothing w before request came state d said (now, stands, grows) = record {
    now = now;
    stands = stands;
    grows = grows;
    until = [];
    since = grows.more;
    log_is = grows.log ∙ ap (λ (l : List Entry). l ++ grows.more) (sym (append-nil w.log));
    said = said (w.log ++ []);
  }

  -- a request was brought on an unused connection, and all was served
  pub says_sent : (w : World) (state : State) (c d : D) (new : State) (e : D) (from conn : ℕ) (request : List ℕ) (events : List Event) (came : Acted) → IsSome (site.view d).contents → IsSome (site.view e).contents
      → IfSome (site.view e).contents (site.may_leave e) → IsSome (site.view c).script → IfSome (site.view c).script (λ deals. numbers_after from deals ≤ conn) → is_among conn (numbers_of state.lives.items) ≡ false
      → IfSome (site.view c).transcript (λ items. sent_on conn items ≡ []) → (site.view d).transcript ≡ (site.view c).transcript → Brings conn request events
      → Both (site.view c).script (site.view d).script (λ was now. now ≡ was ++ deals_of events) → HasSent conn (site.view e).transcript came
      → (turns : (h : History) → Serves site h state d → (n : ℕ) × TurnsBy site h n (site.view d).script new e)
      → (site.view d).disk_faults ≡ (site.view c).disk_faults → IsOpen site w state d → Says site w c request came (Some new) e
  says_sent w state c d new e from conn request events came told after pass some_script above unused unsent same brings added sent turns kept_faults o = record {
    now = on.0;
    stands = on.1;
    grows = on.2;
    until = good.until;
    since = good.since;
    log_is = on.3 ∙ good.log_is ∙ ap (λ (l : List Entry). (l ++ good.until) ++ good.since) o.log_is;
    said = subst (λ (l : List Entry). IsSaidBetween (site.view c) (site.view e) (l ++ good.until) request came) o.log_is (said came sent);
  }
    where
      h : History
      h = o.run

      t : (n : ℕ) × TurnsBy site h n (site.view d).script new e
      t = turns h o.serves

      k : History
      k = t.1.turns.later

      since : Since h k
      since = t.1.turns.since

      on : (now : World) × IsOpen site now new e × Grows w now × (now.log ≡ k.point.machine.log)
      on = serves_to site w state d new e told after turns o

      first : List Entry
      first = h.point.machine.log

      none_sent : sent_on conn h.base ++ sent_on conn h.items ≡ []
      none_sent =
          sym (sent_both conn h.base h.items)
          ∙ at_some (site.view c).transcript (λ items. sent_on conn items ≡ []) (h.base ++ h.items) (sym same ∙ o.serves.keeps.told) unsent

      out : is_among conn (live h.items) ≡ false
      out = subst (λ (ns : List ℕ). is_among conn ns ≡ false) o.serves.rest.numbers unused

      failed : Type 0
      failed = Rose (site.view c).disk_faults (site.view e).disk_faults

      crowded : Type 0
      crowded = WasCrowded (site.view c) (site.view e)

      crowding : (es more : List Item) → k.items ≡ (h.items ++ es) ++ more → 64 ≤ length (live (h.items ++ es)) → crowded
      crowding es more is many =
          both_some (site.view c).transcript (site.view e).transcript IsCrowdedSince (h.base ++ h.items) (k.base ++ k.items) (sym same ∙ o.serves.keeps.told) t.1.turns.serves.keeps.told (record {
            until = es;
            since = more;
            goes_on = ap (λ (l : List Item). l ++ k.items) since.base ∙ ap (λ (l : List Item). h.base ++ l) is ∙ sym (append_assoc h.base (h.items ++ es) more)
                ∙ ap (λ (l : List Item). l ++ more) (sym (append_assoc h.base h.items es));
            before = h.base;
            stretch = h.items ++ es;
            ends = append_assoc h.base h.items es;
            many = many;
          })

      path : (es : List Item) × (further : List Stepped) × (k.items ≡ h.items ++ es) × (k.steps ≡ h.steps ++ further)
          × (AreFirst conn request (deals_in es) → AreActs k.steps → AllCause failed further → Stood failed crowded conn request first h.items k.items es k.point.machine.log k.point.phase)
      path =
          along failed crowded conn request first h.items h.steps h.point refl o.serves.rest.phase_is out (nothing_behind (sent_on conn h.base) (sent_on conn h.items) none_sent)
          k.items crowding k.items k.steps k.point since.on.path [] (sym (append-nil k.items))

      counts : (further : List Stepped) × (k.steps ≡ h.steps ++ further) × Counted h.point k.point further
      counts = path_counted h.items h.steps h.point k.items k.steps k.point since.on.path

      causes : AllCause failed path.1
      causes =
          let same : counts.0 ≡ path.1 = append_cancel_left h.steps counts.0 path.1 (sym counts.1 ∙ path.3) in
          let from : h.point.faults ≡ (site.view c).disk_faults = o.serves.keeps.counted ∙ kept_faults in
          let to : k.point.faults ≡ (site.view e).disk_faults = t.1.turns.serves.keeps.counted in
          subst (λ (xs : List Stepped). AllCause failed xs) same
          (subst (λ (n : ℕ). AllCause (Rose n (site.view e).disk_faults) counts.0) from (subst (λ (n : ℕ). AllCause (Rose h.point.faults n) counts.0) to
          (all_cause h.point.faults k.point.faults counts.0 counts.2.between)))

      deals_are : deals_in path.0 ≡ t.1.deals
      deals_are = same_rest (deals_in h.items) (deals_in path.0) t.1.deals (sym (deals_both h.items path.0) ∙ sym (ap deals_in path.2) ∙ t.1.turns.taken)

      script : (was : List Deal) × ((site.view c).script ≡ Some was) × ((site.view d).script ≡ Some (was ++ deals_of events))
      script = script_on (site.view c).script (site.view d).script events some_script added

      comes : AreFirst conn request (deals_in path.0)
      comes =
          let taken = taken_in (site.view d).script (site.view e).script (script.0 ++ deals_of events) t.1.deals script.2 t.1.script_is in
          let none : begun conn script.0 ≡ 0 = none_above conn from script.0 (at_some (site.view c).script (λ deals. numbers_after from deals ≤ conn) script.0 script.1 above) in
          subst (λ (ds : List Deal). AreFirst conn request ds) (sym deals_are) (taken_of conn request events script.0 t.1.deals taken.0 brings none taken.1)

      run : Run true k.first k.begin k.found.disk_faults k.items k.steps k.point
      run = run_as (is_told (site.view e)) true k.first k.begin k.found.disk_faults k.items k.steps k.point (sym after) t.1.turns.serves.keeps.run

      good : Good failed crowded conn request first h.items k.point.machine.log (sent_on conn k.items)
      good = spoken failed crowded conn request first h.items k.items k.point.machine.log k.point.phase path.0 (path.4 comes (run_acts k.first k.begin k.found.disk_faults k.items k.steps k.point run) causes)

      real : IsReal (first ++ good.until)
      real =
          front_real (first ++ good.until) good.since
          (subst (λ (l : List Entry). IsReal l) good.log_is (now_real (site.view e).contents (site.may_leave e) k.point.machine after pass t.1.turns.serves.keeps.now))

      sent_is : (bytes : List ℕ) → IfSome (site.view e).transcript (λ items. bytes ≡ sent_on conn items) → bytes ≡ sent_on conn k.items
      sent_is bytes is =
          at_some (site.view e).transcript (λ items. bytes ≡ sent_on conn items) (k.base ++ k.items) t.1.turns.serves.keeps.told is ∙ sent_both conn k.base k.items
          ∙ ap (λ (l : List ℕ). l ++ sent_on conn k.items) (ap (sent_on conn) since.base ∙ nothing_front (sent_on conn h.base) (sent_on conn h.items) none_sent)

      said : (a : Acted) → HasSent conn (site.view e).transcript a → IsSaidBetween (site.view c) (site.view e) (first ++ good.until) request a
      said acted.Unopened is = absurd is
      said acted.Broken is = absurd is
      said acted.NoMemory is = tt
      said (acted.Sent bytes) is = λ host port named may text.
          subst (λ (b : List ℕ). IsReplyFront failed crowded (first ++ good.until) named b) (sym (sent_is bytes is))
          (good.says (record { host = host; port = port; named = named; may = may; text = text }) real)

module _ {D : Type 0} (site : Seen D) where
  -- from where the site was before
  pub says_before : (w : World) (d mid e : D) (request : List ℕ) (came : Acted) (state : Option State) → TellsOn (site.view d) (site.view mid)
      → Says site w mid request came state e → Says site w d request came state e
  says_before w d mid e request came state tells s = record {
    now = s.now;
    stands = s.stands;
    grows = s.grows;
    until = s.until;
    since = s.since;
    log_is = s.log_is;
    said = said_between (site.view d) (site.view mid) (site.view e) (site.view e) tells (tells_same (site.view e)) (w.log ++ s.until) request came s.said;
  }

  -- what serving leaves of the counts and the transcript
  pub tells_served : (w : World) (state : State) (d : D) (new : State) (e : D) → ((h : History) → Serves site h state d → (n : ℕ) × TurnsBy site h n (site.view d).script new e)
      → (site.view d).link_faults ≤ (site.view e).link_faults → IsOpen site w state d → TellsOn (site.view d) (site.view e)
  tells_served w state d new e turns links o =
      let h : History = o.run in
      let t = turns h o.serves in
      let k : History = t.1.turns.later in
      let since : Since h k = t.1.turns.since in
      let counts = path_counted h.items h.steps h.point k.items k.steps k.point since.on.path in
      let later = counts.2.later in
      let from = o.serves.keeps.counted in
      let to = t.1.turns.serves.keeps.counted in
      record {
        disk_faults = omega (arith, later, from, to);
        link_faults = links;
        transcript = both_some (site.view d).transcript (site.view e).transcript IsLonger (h.base ++ h.items) (k.base ++ k.items) o.serves.keeps.told t.1.turns.serves.keeps.told (
          since.on.entries,
          ap (λ (l : List Item). l ++ k.items) since.base ∙ ap (λ (l : List Item). h.base ++ l) since.on.items ∙ sym (append_assoc h.base h.items since.on.entries),
        );
      }

-- ---- what is answered

part_of : (log : List Entry) (named bytes part rest : List ℕ) → bytes ≡ part ++ rest → IsOfOrigin log named bytes → IsOfOrigin log named part
part_of log named bytes part rest is whole = (whole.0, rest ++ whole.1, whole.2, whole.3 ∙ ap (λ (t : List ℕ). t ++ whole.1) is ∙ append_assoc part rest whole.1)

half_of : (cut : Bool) (bytes : List ℕ) → (rest : List ℕ) × (bytes ≡ halved cut bytes ++ rest)
half_of true bytes = (drop (length bytes / 2) bytes, sym (take-append-drop (length bytes / 2) bytes))
half_of false bytes = ([], sym (append-nil bytes))

bytes_answered : (log : List Entry) (request bytes : List ℕ) (cut : Bool) (limit : ℕ) → FromOrigin log request (answers.Bytes bytes) → FromOrigin log request (answers.Bytes (take limit (halved cut bytes)))
bytes_answered log request bytes cut limit from host port named may text =
    let half = half_of cut bytes in
    part_of log named (halved cut bytes) (take limit (halved cut bytes)) (drop limit (halved cut bytes)) (sym (take-append-drop limit (halved cut bytes)))
    (part_of log named bytes (halved cut bytes) half.0 half.1 (from host port named may text))

answer_from : (failed broken crowded : Type 0) (log : List Entry) (request : List ℕ) (lost cut : Bool) (limit : ℕ) (came : Acted) → IsSaidBy failed broken crowded log request came
    → FromOrigin log request (answer_for lost cut limit came)
answer_from failed broken crowded log request lost cut limit acted.Unopened said = tt
answer_from failed broken crowded log request lost cut limit acted.Broken said = tt
answer_from failed broken crowded log request lost cut limit acted.NoMemory said = tt
answer_from failed broken crowded log request true cut limit (acted.Sent bytes) said = tt
answer_from failed broken crowded log request false cut limit (acted.Sent bytes) said =
    bytes_answered log request bytes cut limit (λ host port named may text. (let s = said host port named may text in (s.0, s.1, s.2.1, s.3)))

either_from : (log : List Entry) (request : List ℕ) (answer result : Answer) → (result ≡ answers.NoMemory) ⊎ (result ≡ answer) → FromOrigin log request answer → FromOrigin log request result
either_from log request answer result (inl wants) from = subst (λ (a : Answer). FromOrigin log request a) (sym wants) tt
either_from log request answer result (inr is) from = subst (λ (a : Answer). FromOrigin log request a) (sym is) from

module _ {D : Type 0} (site : Seen D) where
  pub answers_on : (state state' : Option State) (d e : D) (request : List ℕ) (lost cut : Bool) (limit : ℕ) (came : Acted) (result : Answer) → SaysOn site state d request came state' e
      → (result ≡ answers.NoMemory) ⊎ (result ≡ answer_for lost cut limit came)
      → AnswersFrom (StandsAt site state d) (StandsAt site state' e) request result
  answers_on state state' d e request lost cut limit came result says either log was =
      let s = says was.world was.stands in
      let on : s.now.log ≡ (log ++ s.until) ++ s.since = s.log_is ∙ ap (λ (l : List Entry). (l ++ s.until) ++ s.since) was.log_is in (
        s.until,
        s.since,
        record { world = s.now; stands = s.stands; log_is = on },
        either_from (log ++ s.until) request (answer_for lost cut limit came) result either
            (answer_from _ _ _ (log ++ s.until) request lost cut limit came
            (subst (λ (l : List Entry). IsSaidBetween (site.view d) (site.view e) (l ++ s.until) request came) was.log_is s.said)),
      )

  pub stays_at : (state : Option State) (d : D) → Lasts (StandsAt site state d) (StandsAt site state d)
  stays_at state d log at = ([], subst (λ (l : List Entry). StandsAt site state d l) (sym (append-nil log)) at)
