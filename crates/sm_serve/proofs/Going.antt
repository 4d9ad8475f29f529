-- How a run goes on, on a site.
use Rattle.std.proofs.Common.{◌≡◌, ◌≢◌, ◌⊎◌, inl, inr, ⊎_elim, ℕ, ◌+◌, ◌-◌, ◌<◌, ◌≤◌, ◌^◌, Bool, true, false, nat_le, if◌then◌else◌, List, [], ◌∷◌, ◌++◌, Option, Some, None, IsSome, is_some, IsTrue, refl, sym, ◌∙◌, ap, subst, arith, append_assoc}
use Rattle.std.proofs.lemmas.List.{append-nil}
use Rattle.std.proofs.lemmas.Bool.{cases_lt, cases_Bool}
use Rattle.std.proofs.lemmas.Bool.Decides.{nat_tests}
use Rattle.sm_site.specs.Image.{Image}
use Rattle.sm_site.specs.Meanings.{Item, DiskCall, SameLink, Seen}
use Rattle.sm_site.specs.Clauses.{Both, Passes, SameOutcomes}
use Rattle.sm_model.specs.declared.act.Act.{Act}
use Rattle.sm_model.specs.declared.entry.Entry.{Entry}
use Rattle.sm_reply.specs.declared.reply.Reply.{Reply}
use Rattle.sm_origin.specs.Machine.{Machine, SameLog, entry_of}
use Rattle.sm_origin.specs.declared.origin.Origin.{Origin}
use Rattle.sm_archive.specs.Store.{IsStore}
use Rattle.sm_archive.specs.declared.archive.Archive.{Archive}
use Rattle.sm_archive.specs.Stands as archive
use Rattle.sm_origin.specs.Stores.{IsPartOf, Fits, FitsInside}
use Rattle.sm_origin.specs.Acting.{ActGives}
use Rattle.sm_site.specs.Clauses.{last_moment}
use Rattle.sm_serve.specs.Run.{Point, Stepped, OnMachine, IsStep, Moves, Run, goes_on}
use Rattle.sm_serve.specs.Moments.{machine_at, IsOneOf, FitsAt}
use Rattle.sm_serve.specs.Standing.{History, StandsOn, is_told, Keeps, moved, calls_of}

-- ---- the machine at a moment

pub machine_push : (m : Machine) (steps : List Stepped) (x : Stepped) (t : ℕ) → machine_at m (steps ++ x ∷ []) t ≡ (if nat_le x.ends t then x.after else machine_at m steps t)
machine_push m [] x t = refl
machine_push m (y ∷ steps) x t = machine_push (if nat_le y.ends t then y.after else m) steps x t

ended_by : (m n : Machine) (e t : ℕ) → e ≤ t → (if nat_le e t then m else n) ≡ m
ended_by m n e t le = grind (arith, nat_tests)

not_ended : (m n : Machine) (e t : ℕ) → t < e → (if nat_le e t then m else n) ≡ n
not_ended m n e t lt = grind (arith, nat_tests)

one_of_more : (steps : List Stepped) (x y : Stepped) → IsOneOf x steps → IsOneOf x (steps ++ y ∷ [])
one_of_more steps x y (front, behind, is) = (front, behind ++ y ∷ [], ap (λ (s : List Stepped). s ++ y ∷ []) is ∙ append_assoc front (x ∷ behind) (y ∷ []))

-- what fits a log fits the same log
pub fits_same : (m n : Machine) (image : Image) → SameLog m n → Fits m image → Fits n image
fits_same m n image same fits = record {
  doubt = fits.doubt;
  of_doubt = subst (λ (o : Option Entry). IsPartOf o fits.doubt) (sym same.doubt) fits.of_doubt;
  store = subst (λ (l : List Entry). IsStore (l ++ fits.doubt) image) (sym same.log) fits.store;
}

inside_same : (m n : Machine) (entry : Option Entry) (image : Image) → SameLog m n → FitsInside m entry image → FitsInside n entry image
inside_same m n entry image same fits = record {
  doubt = fits.doubt;
  of_doubt = subst (λ (o : Option Entry). IsPartOf o fits.doubt) (sym same.doubt) fits.of_doubt;
  written = fits.written;
  of_entry = fits.of_entry;
  store = subst (λ (l : List Entry). IsStore ((l ++ fits.doubt) ++ fits.written) image) (sym same.log) fits.store;
}

same_by : (m n : Machine) → n ≡ m → SameLog m n
same_by m n is = record { log = ap (λ (k : Machine). k.log) is; doubt = ap (λ (k : Machine). k.doubt) is }

same_then : (m n k : Machine) → SameLog m n → SameLog n k → SameLog m k
same_then m n k one two = record { log = two.log ∙ one.log; doubt = two.doubt ∙ one.doubt }

-- an image that fits fits when a step comes behind that ends later
fits_more : (m : Machine) (steps : List Stepped) (x : Stepped) (t : ℕ) (image : Image) → SameLog (machine_at m steps t) (machine_at m (steps ++ x ∷ []) t)
    → FitsAt m steps t image → FitsAt m (steps ++ x ∷ []) t image
fits_more m steps x t image same (inl fits) = inl (fits_same (machine_at m steps t) (machine_at m (steps ++ x ∷ []) t) image same fits)
fits_more m steps x t image same (inr (y, within, inside, fits)) =
    inr (y, one_of_more steps y x within, inside, inside_same (machine_at m steps t) (machine_at m (steps ++ x ∷ []) t) (entry_of y.act) image same fits)

-- the last of some calls
last_of_call : (a b : ℕ) (calls : List DiskCall) → calls ≢ [] → last_moment a calls ≡ last_moment b calls
last_of_call a b [] some = absurd (some refl)
last_of_call a b (call ∷ calls) some = refl

no_call : (calls : List DiskCall) → (calls ≡ []) ⊎ (calls ≢ [])
no_call [] = inl refl
no_call (call ∷ calls) = inr (λ e. cc)

last_of_none : (a : ℕ) (calls : List DiskCall) → calls ≡ [] → last_moment a calls ≡ a
last_of_none a calls none = ap (last_moment a) none

calls_push : (steps : List Stepped) (x : Stepped) → calls_of (steps ++ x ∷ []) ≡ calls_of steps ++ x.calls
calls_push [] x = append-nil x.calls
calls_push (y ∷ steps) x = ap (λ (cs : List DiskCall). y.calls ++ cs) (calls_push steps x) ∙ sym (append_assoc y.calls (calls_of steps) x.calls)

-- a step adds its calls to the record
record_grows : (found a b : Option (List DiskCall)) (steps : List Stepped) (x : Stepped) → Both found a (λ before now. now ≡ before ++ calls_of steps) → Both a b (λ before now. now ≡ before ++ x.calls)
    → Both found b (λ before now. now ≡ before ++ calls_of (steps ++ x ∷ []))
record_grows None None None steps x was told = tt
record_grows found None (Some ds) steps x was told = absurd told
record_grows found (Some cs) None steps x was told = absurd told
record_grows None (Some cs) b steps x was told = absurd was
record_grows (Some before) None b steps x was told = absurd was
record_grows (Some before) (Some cs) (Some ds) steps x is told =
    told ∙ ap (λ (l : List DiskCall). l ++ x.calls) is ∙ append_assoc before (calls_of steps) x.calls ∙ ap (λ (l : List DiskCall). before ++ l) (sym (calls_push steps x))

-- the run, where contents are told as before
pub run_as : (a b : Bool) (first : Machine) (begin faults : ℕ) (items : List Item) (steps : List Stepped) (p : Point) → b ≡ a → Run a first begin faults items steps p → Run b first begin faults items steps p
run_as a b first begin faults items steps p same run = subst (λ (told : Bool). Run told first begin faults items steps p) (sym same) run

-- a record that isn't told is no record
none_recorded : (found a b : Option (List DiskCall)) (steps all : List Stepped) → Both found a (λ before now. now ≡ before ++ calls_of steps) → is_some a ≡ false → is_some b ≡ false
    → Both found b (λ before now. now ≡ before ++ calls_of all)
none_recorded None None None steps all was one two = tt
none_recorded (Some before) None b steps all was one two = absurd was
none_recorded found (Some cs) b steps all was one two = absurd (cc)
none_recorded found None (Some ds) steps all was one two = absurd (cc)

module _ {D : Type 0} (site : Seen D) where
  -- ---- no call

  abbrev pub paused : History → Point → History
  paused h q = record h { point = q }

  -- the run goes on without a call
  pub silent_move : (h : History) (d : D) (q : Point) → Keeps site h d → Moves (is_told (site.view d)) h.items h.point [] [] q → q.machine ≡ h.point.machine → q.ended ≡ h.point.ended → q.failed ≡ h.point.failed
      → q.faults ≡ h.point.faults → Keeps site (paused h q) d
  silent_move h d q keeps move machine ended failed faults = record {
    run = goes_on h.items [] h.items h.steps [] h.steps h.point q keeps.run move (sym (append-nil h.items)) (sym (append-nil h.steps));
    told = keeps.told;
    clock = λ has. subst (λ (e : ℕ). e ≤ (site.view d).moment) (sym ended) (keeps.clock has);
    current = λ has t le. keeps.current has t (subst (λ (e : ℕ). e ≤ t) ended le) ∙ sym machine;
    now = λ image left. subst (λ (m : Machine). Fits m image) (sym machine) (keeps.now image left);
    images = keeps.images;
    recorded = keeps.recorded;
    blamed = λ below. subst (λ (n : ℕ). h.found.send_faults + n ≤ (site.view d).send_faults) (sym failed) (keeps.blamed below);
    counted = faults ∙ keeps.counted;
    still_told = keeps.still_told;
  }

  abbrev pub stepped : History → Stepped → Point → History
  stepped h x q = record h { steps = h.steps ++ x ∷ []; point = q }

  -- An act was acted on by one step: behind any move that makes it, the run goes on.
  pub record Acted (h : History) (e : D) (conn : Option ℕ) (act : Act) (reply : Reply) (origin : Origin) : Type 0 where
    pub x : Stepped
    pub conn_is : x.conn ≡ conn
    pub reply_is : x.reply ≡ reply
    pub is_step : IsStep (is_told (site.view e)) h.point act x
    pub keeps : (q : Point) → Moves (is_told (site.view e)) h.items h.point [] (x ∷ []) q → q.machine ≡ x.after → q.ended ≡ x.ends → q.failed ≡ h.point.failed
        → q.faults ≡ x.faults_after → Keeps site (stepped h x q) e
    pub stands : StandsOn site x.after origin e

  module _ (told : (s : D) (t : ℕ) (image : Image) → site.left_at s t image → IsSome (site.view s).contents) where
    -- ---- a call of the link

    pub link_move : (h : History) (d e : D) (es : List Item) (q : Point) → Keeps site h d → Moves (is_told (site.view e)) h.items h.point es [] q → q.machine ≡ h.point.machine
        → (IsTrue (is_told (site.view e)) → h.point.ended ≤ q.ended) → (site.view e).transcript ≡ Some ((h.base ++ h.items) ++ es)
        → Passes site d e → SameOutcomes (site.may_leave d) (site.may_leave e) → (site.view e).calls ≡ (site.view d).calls → (site.view e).contents ≡ (site.view d).contents
        → (IsTrue (is_told (site.view e)) → q.ended ≤ (site.view e).moment) → ((site.view e).send_faults < 2 ^ 64 - 1 → h.found.send_faults + q.failed ≤ (site.view e).send_faults) → q.faults ≡ h.point.faults
        → (site.view e).disk_faults ≡ (site.view d).disk_faults → Keeps site (moved h es q) e
    link_move h d e es q keeps move machine later told_is time same calls contents clock blamed faults same_faults =
        let as_told : is_told (site.view e) ≡ is_told (site.view d) = ap (λ (o : Option Image). is_some o) contents in
        record {
          run = goes_on h.items es (h.items ++ es) h.steps [] h.steps h.point q
              (run_as (is_told (site.view d)) (is_told (site.view e)) h.first h.begin h.found.disk_faults h.items h.steps h.point as_told keeps.run) move refl (sym (append-nil h.steps));
          told = told_is ∙ ap (λ (items : List Item). Some items) (append_assoc h.base h.items es);
          clock = clock;
          current = λ has t le. keeps.current (sym as_told ∙ has) t (let l = later has in omega (arith, le, l)) ∙ sym machine;
          now = λ image left. subst (λ (m : Machine). Fits m image) (sym machine) (keeps.now image ((same image).0 left));
          images = λ t image from left. elim (cases_lt (site.view d).moment t) [
            | inl after ↦
                let has : IsTrue (is_told (site.view d)) = sym as_told ∙ told e t image left in
                let was : site.may_leave d image = ⊎_elim (λ o. o) (λ n. (same image).0 n) (time.within t image after left) in
                inl (subst (λ (m : Machine). Fits m image) (sym (keeps.current has t (let c = keeps.clock has in omega arith))) (keeps.now image was))
            | inr before ↦ keeps.images t image from ((time.keeps t image before).0 left)
          ];
          recorded = subst (λ (o : Option (List DiskCall)). Both h.found.calls o (λ before now. now ≡ before ++ calls_of h.steps)) (sym calls) keeps.recorded;
          blamed = blamed;
          counted = faults ∙ keeps.counted ∙ sym same_faults;
          still_told = as_told ∙ keeps.still_told;
        }

    -- ---- a step

    -- of a disk that tells its contents
    module _ (h : History) (d e : D) (origin : Origin) (act : Act) (reply : Reply) (conn : Option ℕ) (keeps : Keeps site h d)
        (has : IsTrue (is_told (site.view d))) (as_told : is_told (site.view e) ≡ is_told (site.view d))
        (acts : ActGives site d e h.point.machine origin act reply) (link : SameLink (site.view d) (site.view e)) (no_fewer : (site.view d).disk_faults ≤ (site.view e).disk_faults) where
      abbrev the_step : Stepped
      the_step = record {
        conn = conn;
        act = act;
        before = h.point.machine;
        after = acts.after;
        reply = reply;
        began = (site.view d).moment;
        calls = acts.calls;
        faults = (site.view d).disk_faults;
        faults_after = (site.view e).disk_faults;
        ends = last_moment h.point.ended acts.calls;
      }

      on_machine : OnMachine h.point the_step
      on_machine = record {
        step = acts.step;
        still = acts.still;
        limits = acts.limits;
        archived = record {
          bodies = acts.stands.stands.bodies;
          body = acts.stands.stands.body;
          keeps = subst (λ (a : Archive). archive.Keeps a acts.stands.stands.bodies acts.stands.stands.body acts.after.log acts.after.doubt) (sym acts.stands.archive) acts.stands.stands.keeps;
        };
        began = keeps.clock has;
        ends_is = refl;
      }

      ends_when : ((acts.calls ≡ []) × (the_step.ends ≡ h.point.ended) × ((site.view e).moment ≡ (site.view d).moment)) ⊎ ((site.view e).moment ≡ the_step.ends)
      ends_when = ⊎_elim
          (λ none. inl (none, last_of_none h.point.ended acts.calls none, acts.ended ∙ last_of_none (site.view d).moment acts.calls none))
          (λ some. inr (acts.ended ∙ last_of_call (site.view d).moment h.point.ended acts.calls some)) (no_call acts.calls)

      ends_within : the_step.ends ≤ (site.view e).moment
      ends_within = elim ends_when [
        | inl (none, was, same) ↦ let c = keeps.clock has in omega (arith, was, same, c)
        | inr now ↦ omega (arith, now)
      ]

      ends_later : h.point.ended ≤ the_step.ends
      ends_later = elim ends_when [
        | inl (none, was, same) ↦ omega (arith, was)
        | inr now ↦ let c = keeps.clock has in let l = acts.later in omega (arith, now, c, l)
      ]

      after_at : (t : ℕ) → the_step.ends ≤ t → machine_at h.first (h.steps ++ the_step ∷ []) t ≡ acts.after
      after_at t le = machine_push h.first h.steps the_step t ∙ ended_by acts.after _ the_step.ends t le

      before_at : (t : ℕ) → t < the_step.ends → machine_at h.first (h.steps ++ the_step ∷ []) t ≡ machine_at h.first h.steps t
      before_at t lt = machine_push h.first h.steps the_step t ∙ not_ended acts.after _ the_step.ends t lt

      -- a step without a call changes nothing
      still_at : acts.calls ≡ [] → (t : ℕ) → SameLog (machine_at h.first h.steps t) (machine_at h.first (h.steps ++ the_step ∷ []) t)
      still_at none t = elim (cases_lt t the_step.ends) [
        | inl lt ↦ same_by (machine_at h.first h.steps t) (machine_at h.first (h.steps ++ the_step ∷ []) t) (before_at t lt)
        | inr le ↦
            same_then (machine_at h.first h.steps t) h.point.machine (machine_at h.first (h.steps ++ the_step ∷ []) t)
            (same_by (machine_at h.first h.steps t) h.point.machine (sym (keeps.current has t (let k = ends_later in omega (arith, k, le)))))
            (same_then h.point.machine acts.after (machine_at h.first (h.steps ++ the_step ∷ []) t) (acts.still none)
            (same_by acts.after (machine_at h.first (h.steps ++ the_step ∷ []) t) (after_at t le)))
      ]

      -- from the end of the act on
      since_fits : (t : ℕ) (image : Image) → (site.view e).moment ≤ t → site.left_at e t image → FitsAt h.first (h.steps ++ the_step ∷ []) t image
      since_fits t image le left =
          let k = ends_within in
          inl (subst (λ (m : Machine). Fits m image) (sym (after_at t (omega (arith, k, le)))) (acts.since t image le left))

      was_fits : (t : ℕ) (image : Image) → h.begin ≤ t → t ≤ (site.view d).moment → site.left_at e t image → SameLog (machine_at h.first h.steps t) (machine_at h.first (h.steps ++ the_step ∷ []) t)
          → FitsAt h.first (h.steps ++ the_step ∷ []) t image
      was_fits t image from before left same = fits_more h.first h.steps the_step t image same (keeps.images t image from ((acts.keeps t image before).0 left))

      image_fits : (t : ℕ) (image : Image) → h.begin ≤ t → site.left_at e t image → FitsAt h.first (h.steps ++ the_step ∷ []) t image
      image_fits t image from left = elim (cases_lt t (site.view e).moment) [
        | inr le ↦ since_fits t image le left
        | inl lt ↦ elim ends_when [
          | inl (none, was, same) ↦ was_fits t image from (omega (arith, lt, same)) left (still_at none t)
          | inr now ↦
              let early : t < the_step.ends = omega (arith, now, lt) in
              elim (cases_lt (site.view d).moment t) [
                | inl after ↦
                    let here = before_at t early ∙ keeps.current has t (let c = keeps.clock has in omega (arith, c, after)) in
                    inr (the_step, (h.steps, [], refl), (after, early), subst (λ (m : Machine). FitsInside m (entry_of act) image) (sym here) (acts.inside t image after left))
                | inr before ↦ was_fits t image from before left (same_by (machine_at h.first h.steps t) (machine_at h.first (h.steps ++ the_step ∷ []) t) (before_at t early))
              ]
        ]
      ]

      acted_told : Acted h e conn act reply origin
      acted_told = record {
        x = the_step;
        conn_is = refl;
        reply_is = refl;
        is_step = record { act_is = refl; before_is = refl; faults_is = sym keeps.counted; no_fewer = no_fewer; machine = λ t. on_machine };
        keeps = λ q move machine ended failed faults. record {
          run = goes_on h.items [] h.items h.steps (the_step ∷ []) (h.steps ++ the_step ∷ []) h.point q
              (run_as (is_told (site.view d)) (is_told (site.view e)) h.first h.begin h.found.disk_faults h.items h.steps h.point as_told keeps.run) move (sym (append-nil h.items)) refl;
          told = link.transcript ∙ keeps.told;
          clock = λ t. subst (λ (k : ℕ). k ≤ (site.view e).moment) (sym ended) ends_within;
          current = λ h' t le. after_at t (subst (λ (k : ℕ). k ≤ t) ended le) ∙ sym machine;
          now = λ image left. subst (λ (m : Machine). Fits m image) (sym machine) (acts.now image left);
          images = image_fits;
          recorded = record_grows h.found.calls (site.view d).calls (site.view e).calls h.steps the_step keeps.recorded acts.noted;
          blamed = λ below.
              let same = link.send_faults in
              subst (λ (n : ℕ). h.found.send_faults + n ≤ (site.view e).send_faults) (sym failed)
              (subst (λ (n : ℕ). h.found.send_faults + h.point.failed ≤ n) (sym same) (keeps.blamed (subst (λ (n : ℕ). n < 2 ^ 64 - 1) same below)));
          counted = faults;
          still_told = as_told ∙ keeps.still_told;
        };
        stands = acts.stands;
      }

    -- of a disk that doesn't
    module _ (h : History) (d e : D) (origin : Origin) (act : Act) (reply : Reply) (conn : Option ℕ) (keeps : Keeps site h d)
        (none : is_told (site.view d) ≡ false) (as_told : is_told (site.view e) ≡ is_told (site.view d))
        (now_at : (s : D) (image : Image) → site.may_leave s image → site.left_at s (site.view s).moment image) (calls_told : (s : D) → is_some (site.view s).calls ≡ is_some (site.view s).contents)
        (after : Machine) (stands : StandsOn site after origin e) (link : SameLink (site.view d) (site.view e)) (no_fewer : (site.view d).disk_faults ≤ (site.view e).disk_faults) where
      not_told : IsTrue (is_told (site.view e)) → ⊥
      not_told has = let both : true ≡ false = sym has ∙ as_told ∙ none in cc

      abbrev blind_step : Stepped
      blind_step = record {
        conn = conn;
        act = act;
        before = h.point.machine;
        after = after;
        reply = reply;
        began = (site.view d).moment;
        calls = [];
        faults = (site.view d).disk_faults;
        faults_after = (site.view e).disk_faults;
        ends = (site.view e).moment;
      }

      acted_untold : Acted h e conn act reply origin
      acted_untold = record {
        x = blind_step;
        conn_is = refl;
        reply_is = refl;
        is_step = record { act_is = refl; before_is = refl; faults_is = sym keeps.counted; no_fewer = no_fewer; machine = λ has. absurd (not_told has) };
        keeps = λ q move machine ended failed faults. record {
          run = goes_on h.items [] h.items h.steps (blind_step ∷ []) (h.steps ++ blind_step ∷ []) h.point q
              (run_as (is_told (site.view d)) (is_told (site.view e)) h.first h.begin h.found.disk_faults h.items h.steps h.point as_told keeps.run) move (sym (append-nil h.items)) refl;
          told = link.transcript ∙ keeps.told;
          clock = λ has. absurd (not_told has);
          current = λ has t le. absurd (not_told has);
          now = λ image left. absurd (not_told (told e (site.view e).moment image (now_at e image left)));
          images = λ t image from left. absurd (not_told (told e t image left));
          recorded = none_recorded h.found.calls (site.view d).calls (site.view e).calls h.steps (h.steps ++ blind_step ∷ []) keeps.recorded (calls_told d ∙ none) (calls_told e ∙ as_told ∙ none);
          blamed = λ below.
              let same = link.send_faults in
              subst (λ (n : ℕ). h.found.send_faults + n ≤ (site.view e).send_faults) (sym failed)
              (subst (λ (n : ℕ). h.found.send_faults + h.point.failed ≤ n) (sym same) (keeps.blamed (subst (λ (n : ℕ). n < 2 ^ 64 - 1) same below)));
          counted = faults;
          still_told = as_told ∙ keeps.still_told;
        };
        stands = stands;
      }

    -- of any disk
    pub acted : (h : History) (d e : D) (origin : Origin) (act : Act) (reply : Reply) (conn : Option ℕ) → Keeps site h d → is_told (site.view e) ≡ is_told (site.view d)
        → ((s : D) (image : Image) → site.may_leave s image → site.left_at s (site.view s).moment image) → ((s : D) → is_some (site.view s).calls ≡ is_some (site.view s).contents)
        → (IsSome (site.view d).contents → ActGives site d e h.point.machine origin act reply) → (m : Machine) × StandsOn site m origin e → SameLink (site.view d) (site.view e)
        → (site.view d).disk_faults ≤ (site.view e).disk_faults → Acted h e conn act reply origin
    acted h d e origin act reply conn keeps as_told now_at calls_told gives stands link no_fewer = elim (cases_Bool (is_told (site.view d))) [
      | inl has ↦ acted_told h d e origin act reply conn keeps has as_told (gives has) link no_fewer
      | inr none ↦ acted_untold h d e origin act reply conn keeps none as_told now_at calls_told stands.0 stands.1 link no_fewer
    ]
