use Rattle.std.proofs.Common.{◌≡◌, ℕ, [], ◌∷◌, None, IsSome, refl, ap, sym, ◌∙◌, subst, inl, inr, arith}
use Rattle.sm_model.specs.declared.address.Address.{Address}
use Rattle.sm_model.specs.Entries.{address_of}
use Rattle.sm_log.specs.Logs.{kept_at}
use Rattle.sm_fetch.specs.declared.got.Got.TheVariants as got
use Rattle.sm_client.specs.Stands.{miss_of}
use Rattle.sm_client.proofs.Pieces.{spelled-fragment}
use Rattle.sm_pull.specs.Asks.{AsksFragment, Gives, GivesNone, Tries}
use Rattle.sm_pull.specs.Adds.{NotKept}
use Rattle.sm_pull.specs.Tracks.{address_at}
use Rattle.sm_pull.specs.declared.stop.Stop.TheVariants as stop
use Rattle.sm_pull.proofs.Dials.{asks_same}
use Rattle.sm_pull.proofs.Disks.{adds_none}
use Rattle.sm_pull.proofs.Judging.{on_ok, if_err}
use Rattle.sm_relay.specs.Wants.{Want}
use Rattle.sm_relay.specs.Pulls.{Reads}
use Rattle.sm_relay.proofs.Walked.{pulls_one, stops_one, none_there, some_there, gives_tries, stops_failed}
use Rattle.sm_relay.proofs.one.pull_one.Goals as goal

pub returns-in_default-clause-err : goal.returns-in_default-clause-err
returns-in_default-clause-err g c = λ log s.
    let w : Want = record { url = c.args.url.now; address = address_at c.args.track.now c.args.time } in
    stops_one stop.NoMemory w [] [] (asks_same g.met.C.Dial.later_same c.args.dial.now) (adds_none g.met.D.Disk.no_later c.args.disk.now c.args.archive.now log s)
    (inl (record { absent = inl refl; tries = record { each = tt; few = omega arith }; tried_is = refl }))

pub returns-then-is_kept-clause-ok : goal.returns-then-is_kept-clause-ok
returns-then-is_kept-clause-ok g c = λ log s.
    let w : Want = record { url = c.args.url.now; address = address_at c.args.track.now c.args.time } in
    let kept = some_there (kept_at log c.in-Ok.address) c.is_kept.result (c.is_kept.ensures s.bodies s.body log None s.keeps) c.if-is_kept.true in
    pulls_one w [] [] (asks_same g.met.C.Dial.later_same c.args.dial.now) (adds_none g.met.D.Disk.no_later c.args.disk.now c.args.archive.now log s)
    (inl (record { kept = subst (λ (a : Address). IsSome (kept_at log a)) c.in-Ok.ensures kept; made_is = refl; added_is = refl }))

pub keep-requires-clause-absent : goal.keep-requires-clause-absent
keep-requires-clause-absent g c = λ log s.
    let none = none_there (kept_at log c.in-Ok.address) c.is_kept.result (c.is_kept.ensures s.bodies s.body log None s.keeps) c.if-is_kept.false in
    let took = c.in-Took.ensures.2 in
    let v = spelled-fragment c.in-Ok.address.time took.last.answer c.in-Took.raw took.gave.spelled in
    let time : c.in-Took.raw.time ≡ c.args.time = v.1 ∙ ap (λ (a : Address). a.time) c.in-Ok.ensures in
    let named : address_of c.in-Ok-fragment_of.fragment ≡ address_at c.args.track.now c.args.time = ap address_of c.in-Ok-fragment_of.ensures ∙ ap (λ (t : ℕ). address_at c.args.track.now t) time in
    subst (λ (a : Address). kept_at log a ≡ None) (c.in-Ok.ensures ∙ sym named) none

pub returns-in-Ok-fragment_of-clause-ok : goal.returns-in-Ok-fragment_of-clause-ok
returns-in-Ok-fragment_of-clause-ok g c = on_ok c.keep.result (λ ok log s.
    let k = ok log s in
    let w : Want = record { url = c.args.url.now; address = address_at c.args.track.now c.args.time } in
    let none = none_there (kept_at log c.in-Ok.address) c.is_kept.result (c.is_kept.ensures s.bodies s.body log None s.keeps) c.if-is_kept.false in
    let took = c.in-Took.ensures in
    let reads : Reads c.args.plan.now log w took.0 c.in-Ok-fragment_of.fragment = record {
      absent = subst (λ (a : Address). kept_at log a ≡ None) c.in-Ok.ensures none;
      raw = c.in-Took.raw;
      gave = subst (λ (a : Address). Gives (AsksFragment c.args.plan.now.place c.args.url.now a) miss_of c.args.plan.now.tries took.0 (got.Fragment c.in-Took.raw)) c.in-Ok.ensures took.2;
      is = c.in-Ok-fragment_of.ensures;
    } in
    pulls_one w took.0 (c.in-Ok-fragment_of.fragment ∷ []) took.1 k.1 (inr (record { fragment = c.in-Ok-fragment_of.fragment; reads = reads; is_new = k.0; added_is = refl }))) c.keep.ensures.ok

pub returns-in-Ok-fragment_of-clause-err : goal.returns-in-Ok-fragment_of-clause-err
returns-in-Ok-fragment_of-clause-err g c = if_err c.keep.result (λ why err log s.
    let k = err log s in
    let w : Want = record { url = c.args.url.now; address = address_at c.args.track.now c.args.time } in
    let none = none_there (kept_at log c.in-Ok.address) c.is_kept.result (c.is_kept.ensures s.bodies s.body log None s.keeps) c.if-is_kept.false in
    let took = c.in-Took.ensures in
    let reads : Reads c.args.plan.now log w took.0 c.in-Ok-fragment_of.fragment = record {
      absent = subst (λ (a : Address). kept_at log a ≡ None) c.in-Ok.ensures none;
      raw = c.in-Took.raw;
      gave = subst (λ (a : Address). Gives (AsksFragment c.args.plan.now.place c.args.url.now a) miss_of c.args.plan.now.tries took.0 (got.Fragment c.in-Took.raw)) c.in-Ok.ensures took.2;
      is = c.in-Ok-fragment_of.ensures;
    } in
    stops_one why w took.0 (c.in-Ok-fragment_of.fragment ∷ []) took.1 k.1
    (stops_failed c.args.plan.now c.keep.new.archive log w took.0 (c.in-Ok-fragment_of.fragment ∷ []) why
    (record { fragment = c.in-Ok-fragment_of.fragment; reads = reads; tried_is = refl; not_kept = subst (λ (a : Address). NotKept c.keep.new.archive log c.in-Ok-fragment_of.fragment a why) c.in-Ok.ensures k.0 }))) c.keep.ensures.err

pub returns-in-Err-clause-err : goal.returns-in-Err-clause-err
returns-in-Err-clause-err g c = λ log s.
    let w : Want = record { url = c.args.url.now; address = address_at c.args.track.now c.args.time } in
    let none = none_there (kept_at log c.in-Ok.address) c.is_kept.result (c.is_kept.ensures s.bodies s.body log None s.keeps) c.if-is_kept.false in
    let took = c.in-Took.ensures in
    let gave = subst (λ (a : Address). Gives (AsksFragment c.args.plan.now.place c.args.url.now a) miss_of c.args.plan.now.tries took.0 (got.Fragment c.in-Took.raw)) c.in-Ok.ensures took.2 in
    stops_one stop.NoMemory w took.0 [] took.1 (adds_none g.met.D.Disk.no_later c.args.disk.now c.args.archive.now log s)
    (inl (record {
      absent = inr (subst (λ (a : Address). kept_at log a ≡ None) c.in-Ok.ensures none);
      tries = gives_tries (AsksFragment c.args.plan.now.place w.url w.address) miss_of c.args.plan.now.tries took.0 (got.Fragment c.in-Took.raw) gave;
      tried_is = refl;
    }))

pub returns-in-GaveUp-clause-err : goal.returns-in-GaveUp-clause-err
returns-in-GaveUp-clause-err g c = λ log s.
    let w : Want = record { url = c.args.url.now; address = address_at c.args.track.now c.args.time } in
    let none = none_there (kept_at log c.in-Ok.address) c.is_kept.result (c.is_kept.ensures s.bodies s.body log None s.keeps) c.if-is_kept.false in
    let gave = c.in-GaveUp.ensures in
    stops_one (stop.GaveUp c.in-Ok.address c.in-GaveUp.outcomes) w gave.0 [] gave.1 (adds_none g.met.D.Disk.no_later c.args.disk.now c.args.archive.now log s)
    (record {
      absent = subst (λ (a : Address). kept_at log a ≡ None) c.in-Ok.ensures none;
      address_is = c.in-Ok.ensures;
      missed = subst (λ (a : Address). GivesNone (AsksFragment c.args.plan.now.place c.args.url.now a) miss_of c.args.plan.now.tries gave.0 c.in-GaveUp.outcomes) c.in-Ok.ensures gave.2;
      tried_is = refl;
    })

pub returns-in-NoMemory-clause-err : goal.returns-in-NoMemory-clause-err
returns-in-NoMemory-clause-err g c = λ log s.
    let w : Want = record { url = c.args.url.now; address = address_at c.args.track.now c.args.time } in
    let none = none_there (kept_at log c.in-Ok.address) c.is_kept.result (c.is_kept.ensures s.bodies s.body log None s.keeps) c.if-is_kept.false in
    let out = c.in-NoMemory.ensures in
    stops_one stop.NoMemory w out.0 [] out.1 (adds_none g.met.D.Disk.no_later c.args.disk.now c.args.archive.now log s)
    (inl (record {
      absent = inr (subst (λ (a : Address). kept_at log a ≡ None) c.in-Ok.ensures none);
      tries = subst (λ (a : Address). Tries (AsksFragment c.args.plan.now.place c.args.url.now a) c.args.plan.now.tries out.0) c.in-Ok.ensures out.2;
      tried_is = refl;
    }))
