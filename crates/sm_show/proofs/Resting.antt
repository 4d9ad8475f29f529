-- A run that goes on by reading back.
use Rattle.std.proofs.Common.{◌≡◌, ◌≢◌, List, [], ◌∷◌, ◌++◌, Option, IsSome, is_some, refl, sym, ◌∙◌, ap, subst, append-nil, append_assoc, Err}
use Rattle.std.proofs.lemmas.List.{map-append}
use Rattle.sm_site.specs.Meanings.{Deal, Item, Seen}
use Rattle.sm_site.proofs.Moments.{alone_here, alone_then}
use Rattle.sm_model.specs.declared.address.Address.{Address}
use Rattle.sm_archive.specs.declared.fetch.Fetched.{Fetched}
use Rattle.sm_archive.proofs.Keepings.{rose_later}
use Rattle.sm_serve.specs.declared.state.State.{State}
use Rattle.sm_serve.specs.Connections.{deals_in}
use Rattle.sm_serve.specs.Standing.{History, StandsForSome}
use Rattle.sm_serve.specs.Serving.{Serves, Since, TurnsBy, RecallsIn}
use Rattle.sm_serve.proofs.Lasting.{on_itself, on_then, recalled_push}
use Rattle.sm_serve.proofs.Events.{same_script}
use Rattle.sm_model.specs.declared.entry.Entry.{Entry}
use Rattle.sm_log.specs.Digests.{Digest}
use Rattle.sm_shelf.specs.Past.{Publishing, all_at, last_of, publishing}
use Rattle.sm_shelf.specs.Shelf.{Desk, Belongs, shows_next}
use Rattle.sm_show.specs.declared.outcome.Lack.{Lack}
use Rattle.sm_show.specs.declared.outcome.Lack.TheVariants as lack
use Rattle.sm_show.specs.declared.outcome.Up.{Up}
use Rattle.sm_show.specs.declared.outcome.Up.TheVariants.{Behind}
use Rattle.sm_show.specs.Recalling.{BringsUp, Publishes, ReadsBack, Rests, Recalls}

pub since_itself : (h : History) → Since h h
since_itself h = record { first = refl; begin = refl; base = refl; found = refl; on = on_itself h }

pub since_then : (h k l : History) → Since h k → Since k l → Since h l
since_then h k l one two = record {
  first = two.first ∙ one.first;
  begin = two.begin ∙ one.begin;
  base = two.base ∙ one.base;
  found = two.found ∙ one.found;
  on = on_then h k l one.on two.on;
}

-- ---- what is published

pub last_then : (before : Digest) (ds es : List Digest) → last_of before (ds ++ es) ≡ last_of (last_of before ds) es
last_then before [] es = refl
last_then before (d ∷ ds) es = last_then d ds es

-- nothing is published there
pub publishes_here : (told : Option (List Item)) (desk : Desk) → Publishes told desk desk
publishes_here told desk = record { digests = []; past = sym (append-nil desk.past); last = refl }

-- one digest is, or none
pub publishes_one : (told : Option (List Item)) (a b : Desk) (d : Digest) → b ≡ shows_next a told d → Publishes told a b
publishes_one told a b d is = record { digests = d ∷ []; past = ap (λ (o : Desk). o.past) is; last = ap (λ (o : Desk). o.published) is }

pub publishes_none : (told : Option (List Item)) (a b : Desk) → b.past ≡ a.past → b.published ≡ a.published → Publishes told a b
publishes_none told a b past same = record { digests = []; past = past ∙ sym (append-nil a.past); last = same }

pub publishes_then : (told : Option (List Item)) (a b c : Desk) → Publishes told a b → Publishes told b c → Publishes told a c
publishes_then told a b c one two = record {
  digests = one.digests ++ two.digests;
  past = two.past ∙ ap (λ (l : List Publishing). l ++ all_at told two.digests) one.past ∙ append_assoc a.past (all_at told one.digests) (all_at told two.digests)
      ∙ ap (λ (l : List Publishing). a.past ++ l) (sym (map-append (publishing told) one.digests two.digests));
  last = two.last ∙ ap (λ (d : Digest). last_of d two.digests) one.last ∙ sym (last_then a.published one.digests two.digests);
}

module _ {D : Type 0} (site : Seen D) where
  pub rests_here : (h : History) (state : State) (d : D) → Serves site h state d → Rests site h state d
  rests_here h state d serves = record { later = h; serves = serves; since = since_itself h; same = refl; log = λ told. refl; no_ladder = refl }

  pub rests_by : (h : History) (a : Address) (r : Fetched) (state : State) (d : D) → RecallsIn site h a r state d → Rests site h state d
  rests_by h a r state d on = record {
    later = on.later;
    serves = on.serves;
    since = on.since;
    same = on.same;
    log = on.log;
    no_ladder = recalled_push h.steps on.later.steps on.step a on.steps on.conn on.act;
  }

  pub rests_then : (h : History) (state : State) (d e : D) → is_some (site.view e).contents ≡ is_some (site.view d).contents → (one : Rests site h state d)
      → Rests site one.later state e → Rests site h state e
  rests_then h state d e told one two = record {
    later = two.later;
    serves = two.serves;
    since = since_then h one.later two.later one.since two.since;
    same = two.same ∙ one.same;
    log = λ has. two.log has ∙ one.log (sym told ∙ has);
    no_ladder = two.no_ladder ∙ one.no_ladder;
  }

  pub recalls_here : (state : State) (d : D) → StandsForSome site state.origin d → Recalls site state d d
  recalls_here state d stands = record {
    stands = stands;
    rests = λ h serves. rests_here h state d serves;
    told = refl;
    disk_alone = alone_here (site.view d);
  }

  pub recalls_then : (state : State) (d e f : D) → Recalls site state d e → Recalls site state e f → Recalls site state d f
  recalls_then state d e f one two = record {
    stands = two.stands;
    rests = λ h serves.
        let mid = one.rests h serves in
        rests_then h state e f two.told mid (two.rests mid.later mid.serves);
    told = two.told ∙ one.told;
    disk_alone = alone_then (site.view d) (site.view e) (site.view f) one.disk_alone two.disk_alone;
  }

  -- it is no event
  unfoldable pub turns_rest : (h : History) (was : Option (List Deal)) (state : State) (d : D) → (site.view d).script ≡ was → Rests site h state d → TurnsBy site h 0 was state d
  turns_rest h was state d script rests = record {
    deals = [];
    many = refl;
    turns = record {
      later = rests.later;
      serves = rests.serves;
      since = rests.since;
      taken = ap deals_in rests.same ∙ sym (append-nil (deals_in h.items));
      no_ladder = rests.no_ladder;
    };
    script_is = same_script was (site.view d).script script;
  }

  -- what belongs to the log before belongs to it behind
  pub belongs_then : (state : State) (old mid : D) (a b c : Desk) → Recalls site state old mid
      → ((h : History) → Serves site h state old → IsSome (site.view old).contents → Belongs h.point.machine.log a → Belongs h.point.machine.log b)
      → ((h : History) → Serves site h state mid → IsSome (site.view mid).contents → Belongs h.point.machine.log b → Belongs h.point.machine.log c)
      → (h : History) → Serves site h state old → IsSome (site.view old).contents → Belongs h.point.machine.log a → Belongs h.point.machine.log c
  belongs_then state old mid a b c recalls one two h serves told belongs =
      let rests = recalls.rests h serves in
      let has = recalls.told ∙ told in
      let same = rests.log has in
      subst (λ (l : List Entry). Belongs l c) same (two rests.later rests.serves has (subst (λ (l : List Entry). Belongs l b) (sym same) (one h serves told belongs)))

  -- what is read back next isn't there
  pub back_without : {T U : Type 0} (state : State) (d e f : D) (why : Lack) → Recalls site state d e → ReadsBack {T = T} site state e f (Err why)
      → ReadsBack {T = U} site state d f (Err why)
  back_without state d e f why one two = record {
    recalls = recalls_then state d e f one two.recalls;
    fault = λ is told.
        let same : why ≡ lack.Disk = cc in
        rose_later (site.view d).disk_faults (site.view e).disk_faults (site.view f).disk_faults one.disk_alone.no_fewer
        (two.fault (ap (λ (w : Lack). Err w) same) (one.told ∙ told));
  }

  -- nothing is brought there
  pub brings_here : (state : State) (d : D) (desk : Desk) (up : Up) → up ≢ Behind → StandsForSome site state.origin d → BringsUp site state d d desk desk up
  brings_here state d desk up not_behind stands = record {
    recalls = recalls_here state d stands;
    table = refl;
    publishes = publishes_here (site.view d).transcript desk;
    belongs = λ h serves told belongs. belongs;
    behind = λ is. absurd (not_behind is);
  }

  pub brings_then : (state : State) (d e f : D) (a b c : Desk) (was up : Up) → BringsUp site state d e a b was → BringsUp site state e f b c up
      → BringsUp site state d f a c up
  brings_then state d e f a b c was up one two = record {
    recalls = recalls_then state d e f one.recalls two.recalls;
    table = two.table ∙ one.table;
    publishes = publishes_then (site.view d).transcript a b c one.publishes (subst (λ (t : Option (List Item)). Publishes t b c) one.recalls.disk_alone.link.transcript two.publishes);
    belongs = belongs_then state d e a b c one.recalls one.belongs two.belongs;
    behind = λ is told. rose_later (site.view d).disk_faults (site.view e).disk_faults (site.view f).disk_faults one.recalls.disk_alone.no_fewer
        (two.behind is (one.recalls.told ∙ told));
  }
