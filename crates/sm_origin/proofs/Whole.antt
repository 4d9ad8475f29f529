-- One act of an origin, whole: what is shown for each machine that the origin stands for, put together.
use Rattle.std.proofs.Common.{arith, ◌≡◌, ◌≢◌, ◌∙◌, inl, inr, List, Option, None, Some, IsSome, is_some, Result, IfOk, OnOk, OnErr, refl, ap, sym, subst}
use Rattle.sm_model.specs.declared.address.Address.{Address}
use Rattle.sm_model.specs.declared.cause.Cause.{Cause}
use Rattle.sm_model.specs.declared.entry.Entry.{Entry}
use Rattle.sm_model.specs.declared.act.Act.{Act}
use Rattle.sm_model.specs.declared.act.Act.TheVariants.{Fragment as Ask}
use Rattle.sm_model.specs.declared.no_memory.NoMemory.{NoMemory}
use Rattle.sm_model.specs.declared.track.Track.{Track}
use Rattle.sm_log.specs.Logs.{channel_of}
use Rattle.sm_site.specs.Meanings.{Seen, DiskAlone}
use Rattle.sm_site.specs.Clauses.{Acted, Recorded, Rose, Throughout}
use Rattle.sm_site.proofs.Moments.{no_call, alone_here}
use Rattle.sm_archive.specs.declared.archive.Archive.{Archive}
use Rattle.sm_archive.specs.Stands.{Stands}
use Rattle.sm_archive.specs.Steps.{Grows}
use Rattle.sm_archive.specs.Store.{IsStore}
use Rattle.sm_cache.specs.declared.cache.Kept.{Kept}
use Rattle.sm_reply.specs.declared.reply.Reply.{Reply}
use Rattle.sm_head.specs.declared.reply.Content.TheVariants.{Mp4}
use Rattle.sm_reply.specs.Replies.{ok, reply_of, fragment_of}
use Rattle.sm_origin.specs.declared.origin.Origin.{Origin}
use Rattle.sm_origin.specs.Acting.{IsHeld, AreHeld, StandsOn, StandsForSome}
use Rattle.sm_origin.specs.Acts.{IsOneStep, Acts}
use Rattle.sm_origin.specs.Answers.{IsTold}
use Rattle.sm_origin.specs.Caching.{Remembers, with_kept}
use Rattle.sm_origin.specs.Giving.{Gives, Made}
use Rattle.sm_origin.specs.Machine.{Machine, SameLog, Step, entry_of}
use Rattle.sm_origin.specs.Replying.{Asked, IsAnswer}
use Rattle.sm_origin.proofs.Places.{has_channel, kept_there}
use Rattle.sm_origin.proofs.Steps.{Stepped}
use Rattle.sm_origin.proofs.Acts.{Laws, Places, Stays, One, same_told, told_before, made_step, held_told, held_after, held_read, write_gives, read_gives}
use Rattle.sm_origin.proofs.Asked.{asked_is, same_behind, status_of, two_hundred}
use Rattle.sm_origin.proofs.Replied.{made_given}
use Rattle.sm_origin.proofs.Telling.{refusal_status}

same : (m : Machine) → SameLog m m
same m = record { log = refl; doubt = refl }

-- a refusal gives nothing
pub told_no_hit : (why : Cause) (reply : Reply) → IsTold why reply → reply.status ≢ 200
told_no_hit why reply (inl is) status =
    let low = (refusal_status why).0 in
    let told = ap (λ (r : Reply). r.status) is in
    absurd (omega (arith, low, told, status))
told_no_hit why reply (inr is) status = absurd (omega (arith, status_of reply is, status))

-- what an act is that reads or calls nothing
pub record Reads {D : Type 0} (site : Seen D) (old new : D) (was o : Origin) (act : Act) (reply : List Entry → Reply) : Type 0 where
  pub some : StandsForSome site was old
  pub alone : DiskAlone (site.view old) (site.view new)
  pub through : Throughout site old new (λ t c. site.may_leave old c)
  pub stands : (m : Machine) → StandsOn site m was old → StandsOn site m o new
  pub step : (m : Machine) → StandsOn site m was old → IsSome (site.view old).contents
      → Step (Rose (site.view old).disk_faults (site.view new).disk_faults) m act m (reply m.log)

-- what one is that adds an entry, where it leaves the cache
pub record Adds {D : Type 0} (site : Seen D) (old new : D) (was o : Origin) (act : Act) (e : Entry) (reply : Reply) : Type 0 where
  pub some : StandsForSome site was old
  pub alone : DiskAlone (site.view old) (site.view new)
  pub recorded : Recorded (site.view old) (site.view new)
  pub entry : entry_of act ≡ Some e
  pub limits : o.archive.limits ≡ was.archive.limits
  pub step : (m : Machine) → StandsOn site m was old
      → Stepped (Rose (site.view old).disk_faults (site.view new).disk_faults) (Acted (site.view old) (site.view new)) (site.may_leave new) m o.archive act reply
  pub through : (m : Machine) → StandsOn site m was old → IsSome (site.view old).contents
      → Throughout site old new (λ t c. (after : List Entry) × IsStore after c × Grows m.log m.doubt e after)

module _ {D : Type 0} (site : Seen D) (laws : Laws site) where
  was_told : (old new : D) → Recorded (site.view old) (site.view new) → IsSome (site.view new).contents → IsSome (site.view old).contents
  was_told old new recorded = told_before (site.view old) (site.view new) (laws.calls old) (laws.calls new) recorded

  still_told : (old new : D) → Recorded (site.view old) (site.view new) → is_some (site.view new).contents ≡ is_some (site.view old).contents
  still_told old new recorded = same_told (site.view old) (site.view new) (laws.calls old) (laws.calls new) recorded

  -- ---- acts that add nothing

  -- what an archive's read leaves of the origin
  pub stood : (old new : D) (o : Origin) → Recorded (site.view old) (site.view new)
      → ((log : List Entry) (doubt : Option Entry) → Stands o.archive log doubt (site.may_leave old) → Stands o.archive log doubt (site.may_leave new))
      → (m : Machine) → StandsOn site m o old → StandsOn site m o new
  stood old new o recorded stands m s = record {
    archive = s.archive;
    stands = stands m.log m.doubt s.stands;
    cached = held_told _ _ m.log o.cache.entries (was_told old new recorded) s.cached;
  }

  pub reads_once : (old new : D) (was o : Origin) (act : Act) (reply : List Entry → Reply) → Reads site old new was o act reply → IsOneStep site old new was o act reply
  reads_once old new was o act reply r = record {
    stands = (r.some.0, r.stands r.some.0 r.some.1);
    step = λ told m s. read_gives site laws old new m was o act (reply m.log) told s (r.step m s told) r.through (r.stands m s);
    told = still_told old new r.through.recorded;
    disk_alone = r.alone;
  }

  reads : (old new : D) (was o : Origin) (act : Act) (reply : Reply) → Reads site old new was o act (λ log. reply)
      → ((m : Machine) → StandsOn site m was old → IsAnswer (Rose (site.view old).disk_faults (site.view new).disk_faults) m act m reply)
      → Remembers act reply was.cache o.cache → Acts site old new was o act reply
  reads old new was o act reply r answer remembers = record {
    one = reads_once old new was o act (λ log. reply) r;
    replied = λ m s. record { after = m; answer = answer m s; stands = r.stands m s; limits = refl };
    remembers = remembers;
  }

  pub asks : (old new : D) (was o : Origin) (a : Address) (reply : Reply) → Reads site old new was o (Ask a) (λ log. reply)
      → ((m : Machine) → StandsOn site m was old → Asked (Rose (site.view old).disk_faults (site.view new).disk_faults) m.log a reply)
      → Remembers (Ask a) reply was.cache o.cache → Acts site old new was o (Ask a) reply
  asks old new was o a reply r asked remembers = reads old new was o (Ask a) reply r (λ m s. (same m, asked m s)) remembers

  -- a fragment that the archive was asked for
  pub asks_read : (old new : D) (o : Origin) (a : Address) (reply : Reply) → StandsForSome site o old → DiskAlone (site.view old) (site.view new)
      → Throughout site old new (λ t c. site.may_leave old c)
      → ((log : List Entry) (doubt : Option Entry) → Stands o.archive log doubt (site.may_leave old) → Stands o.archive log doubt (site.may_leave new))
      → ((m : Machine) → StandsOn site m o old → IsSome (site.view old).contents
      → Step (Rose (site.view old).disk_faults (site.view new).disk_faults) m (Ask a) m reply)
      → ((m : Machine) → StandsOn site m o old → Asked (Rose (site.view old).disk_faults (site.view new).disk_faults) m.log a reply)
      → Remembers (Ask a) reply o.cache o.cache → Acts site old new o o (Ask a) reply
  asks_read old new o a reply some alone through stands step asked remembers =
      asks old new o o a reply (record { some = some; alone = alone; through = through; stands = stood old new o through.recorded stands; step = step }) asked remembers

  -- an act that is answered out of what the archive holds of itself
  pub tells : (d : D) (o : Origin) (act what : Act) (made : Result Reply NoMemory) (reply : Reply) → StandsForSome site o d → act ≡ what → entry_of what ≡ None
      → ((m : Machine) → StandsOn site m o d → IfOk made (λ r. r ≡ reply_of m.log what)) → Made made reply
      → ((failed : Type 0) (m : Machine) → Step failed m what m reply → IsAnswer failed m what m reply) → ((a : Address) → what ≡ Ask a → ⊥)
      → Acts site d d o o act reply
  tells d o act what made reply some is none meant told answer other =
      subst (λ (x : Act). Acts site d d o o x reply) (sym is)
      (reads d d o o what reply
      (record {
        some = some;
        alone = alone_here (site.view d);
        through = no_call site d (λ t c. site.may_leave d c) (laws.no_later d);
        stands = λ m s. s;
        step = λ m s has. made_step _ m m what made reply none (same m) (meant m s) told;
      })
      (λ m s. answer _ m (made_step _ m m what made reply none (same m) (meant m s) told)) (same_behind what reply o.cache other))

  -- a fragment that is held, as it was read or as the cache has it
  pub gives : One → (old new : D) (was o : Origin) (a : Address) (k : Kept) (made : Result Reply NoMemory) (reply : Reply) → StandsForSome site was old
      → DiskAlone (site.view old) (site.view new) → Throughout site old new (λ t c. site.may_leave old c)
      → ((m : Machine) → StandsOn site m was old → StandsOn site m o new)
      → ((m : Machine) → StandsOn site m was old → IsHeld (IsSome (site.view old).contents) m.log (a, k))
      → Gives was.archive a k.place k.fragment made → Made made reply
      → (IfOk made (λ r. r.status ≡ 200) → Remembers (Ask a) reply was.cache o.cache) → Acts site old new was o (Ask a) reply
  gives one old new was o a k made reply some alone through stands held given told remembers =
      asks old new was o a reply
      (record {
        some = some;
        alone = alone;
        through = through;
        stands = stands;
        step = λ m s has.
            let h = held m s in
            let t = to m s in
            let is = asked_is m.log t.0 a k.place k.fragment t.1 (kept_there one m.log a k.place k.fragment s.stands.keeps.sound (h.same has) h.address) in
            made_step _ m m (Ask a) made reply refl (same m) (subst (λ (x : Reply). IfOk made (λ r. r ≡ x)) (sym is) (text m s)) told;
      })
      (λ m s. let h = held m s in made_given _ m.log a (to m s).0 k.place k.fragment made reply (to m s).1 h.place h.address h.valid (text m s) told)
      (remembers (two_hundred made (fragment_of (to some.0 some.1).0 some.0.log a k.place k.fragment) (text some.0 some.1)))
    where
      to : (m : Machine) → StandsOn site m was old → (channel : List Track) × (channel_of m.log ≡ Some channel)
      to m s = has_channel m.log a k.place s.stands.keeps.sound (held m s).place

      text : (m : Machine) (s : StandsOn site m was old) → IfOk made (λ r. r ≡ ok Mp4 (fragment_of (to m s).0 m.log a k.place k.fragment))
      text m s = given s.stands.bodies s.stands.body m.log m.doubt s.stands.keeps (to m s).0 (to m s).1

  -- where it was put into the cache, if it could be given
  pub put_stands : (old new : D) (was o : Origin) (a : Address) (k : Kept) (made : Result Reply NoMemory) → Recorded (site.view old) (site.view new)
      → ((log : List Entry) (doubt : Option Entry) → Stands was.archive log doubt (site.may_leave old) → Stands was.archive log doubt (site.may_leave new))
      → o.archive ≡ was.archive → OnOk made (o.cache ≡ with_kept was.cache k.place k.fragment) → OnErr made (o.cache ≡ was.cache)
      → ((m : Machine) → StandsOn site m was old → IsHeld (IsSome (site.view old).contents) m.log (a, k))
      → (m : Machine) → StandsOn site m was old → StandsOn site m o new
  put_stands old new was o a k made recorded stands archive put none held m s =
      let h = held m s in
      record {
        archive = s.archive ∙ sym archive;
        stands = subst (λ (x : Archive). Stands x m.log m.doubt (site.may_leave new)) (sym archive) (stands m.log m.doubt s.stands);
        cached = held_read was.cache o.cache k.place k.fragment made put none _ m.log h.valid a h.address h.place (λ t. h.same (was_told old new recorded t))
            (held_told _ _ m.log was.cache.entries (was_told old new recorded) s.cached);
      }

  -- an act is the same where the origin stood for the same before, whatever order its cache had
  pub reordered : (old new : D) (was mid o : Origin) (act : Act) (reply : Reply) → ((m : Machine) → StandsOn site m was old → StandsOn site m mid old)
      → Remembers act reply was.cache o.cache → Acts site old new mid o act reply → Acts site old new was o act reply
  reordered old new was mid o act reply front remembers acts = record {
    one = record {
      stands = acts.one.stands;
      step = λ told m s. acts.one.step told m (front m s);
      told = acts.one.told;
      disk_alone = acts.one.disk_alone;
    };
    replied = λ m s. acts.replied m (front m s);
    remembers = remembers;
  }

  -- ---- acts that add an entry

  module _ (old new : D) (was o : Origin) (act : Act) (e : Entry) (reply : Reply) (w : Adds site old new was o act e reply)
      (held : (m : Machine) (s : StandsOn site m was old) → AreHeld (IsSome (site.view new).contents) (w.step m s).after.log o.cache.entries) where
    on : (m : Machine) (s : StandsOn site m was old) → StandsOn site (w.step m s).after o new
    on m s = record { archive = (w.step m s).archive; stands = (w.step m s).stands; cached = held m s }

    limit : (m : Machine) (s : StandsOn site m was old) → o.archive.limits ≡ m.archive.limits
    limit m s = w.limits ∙ ap (λ (a : Archive). a.limits) (sym s.archive)

    pub adds_once : IsOneStep site old new was o act (λ log. reply)
    adds_once = record {
      stands = ((w.step w.some.0 w.some.1).after, on w.some.0 w.some.1);
      step = λ told m s. write_gives site laws old new m o act e reply told w.entry (w.step m s) (limit m s) (w.through m s told) (held m s);
      told = still_told old new w.recorded;
      disk_alone = w.alone;
    }

    pub adds : ((failed : Type 0) (m n : Machine) → Step failed m act n reply → IsAnswer failed m act n reply) → Remembers act reply was.cache o.cache → Acts site old new was o act reply
    adds answer remembers = record {
      one = adds_once;
      replied = λ m s. record {
        after = (w.step m s).after;
        answer = answer _ m (w.step m s).after (w.step m s).step;
        stands = on m s;
        limits = ap (λ (a : Archive). a.limits) (w.step m s).archive ∙ limit m s;
      };
      remembers = remembers;
    }

  -- what the cache has is held behind it
  pub behind : Places → Stays → (old new : D) (was o : Origin) (act : Act) (e : Entry) (reply : Reply) (w : Adds site old new was o act e reply) (m : Machine) (s : StandsOn site m was old)
      → AreHeld (IsSome (site.view new).contents) (w.step m s).after.log was.cache.entries
  behind places stays old new was o act e reply w m s =
      held_after places stays _ _ _ _ _ m o.archive act reply (was_told old new w.recorded) (w.step m s) was.cache.entries s.cached
