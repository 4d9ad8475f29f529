use Rattle.std.proofs.Common.{◌≡◌, ◌∙◌, ap, sym, subst, arith, None}
use Rattle.lru.specs.LruCache.{LruCache}
use Rattle.sm_model.specs.declared.address.Address.{Address}
use Rattle.sm_model.specs.declared.act.Act.TheVariants.{Fragment as Ask}
use Rattle.sm_cache.specs.declared.cache.Kept.{Kept}
use Rattle.sm_site.proofs.Moments.{no_call, alone_here}
use Rattle.sm_origin.specs.Caching.{Remembers, held_at}
use Rattle.sm_origin.proofs.Places.{place_within}
use Rattle.sm_origin.proofs.Acts.{Laws}
use Rattle.sm_origin.proofs.Fronts.{absent_stays, fronted, hit_held, hit_remembers}
use Rattle.sm_origin.proofs.Whole.{gives, reordered}
use Rattle.sm_origin.proofs.origin.Origin.fragment.Goals as goal

pub give_kept-requires-clause-valid : goal.give_kept-requires-clause-valid
give_kept-requires-clause-valid g c =
    let s = c.requires.stands.1 in
    (hit_held _ c.requires.stands.0.log c.args.address.now c.args.self.now.cache c.in-Some.kept.now (sym c.in-Some.ensures.value) s.cached).valid

pub give_kept-requires-clause-place : goal.give_kept-requires-clause-place
give_kept-requires-clause-place g c =
    let m = c.requires.stands.0 in
    let s = c.requires.stands.1 in
    let h = hit_held _ m.log c.args.address.now c.args.self.now.cache c.in-Some.kept.now (sym c.in-Some.ensures.value) s.cached in
    omega (arith, place_within c.args.address.now m.log c.in-Some.kept.now.place h.place, s.stands.keeps.sound.few)

-- where the cache lacks it

pub fetch-requires-clause-absent : goal.fetch-requires-clause-absent
fetch-requires-clause-absent g c =
    let none : held_at c.args.address.now c.args.self.now.cache ≡ None = sym c.in-None.ensures.value in
    ap (λ (x : LruCache Address Kept). held_at c.args.address.now x)
    (absent_stays c.args.address.now c.args.self.now.cache c.get.follows.lender-at-none c.get.follows.holds-at-none none) ∙ none

pub fetch-requires-clause-stands : goal.fetch-requires-clause-stands
fetch-requires-clause-stands g c =
    let m = c.requires.stands.0 in
    (m, fronted _ _ m c.args.self.now c.get.follows.lender-at-none c.args.address.now c.get.follows.holds-at-none c.requires.stands.1)

pub returns-in-None-clause-acts : goal.returns-in-None-clause-acts
returns-in-None-clause-acts g c =
    let laws : Laws g.D.Disk.seen =
    record { calls = g.met.D.Disk.calls_told; no_later = g.met.D.Disk.no_later; at_now = g.met.D.Disk.at_now; image = c.an_image_fits.ensures } in
    let was = c.args.self.now in
    let a = c.args.address.now in
    let cache = c.get.follows.lender-at-none in
    let none : held_at a was.cache ≡ None = sym c.in-None.ensures.value in
    reordered g.D.Disk.seen laws c.args.disk.now c.fetch.new.disk was (record { archive = was.archive; cache = cache }) c.fetch.new.self (Ask a) c.fetch.result
    (λ m s. fronted _ _ m was cache a c.get.follows.holds-at-none s)
    (subst (λ (x : LruCache Address Kept). Remembers (Ask a) c.fetch.result x c.fetch.new.self.cache)
    (absent_stays a was.cache cache c.get.follows.holds-at-none none) c.fetch.ensures.remembers)
    c.fetch.ensures

-- where it has it

pub returns-in-Some-clause-acts : goal.returns-in-Some-clause-acts
returns-in-Some-clause-acts g c =
    let laws : Laws g.D.Disk.seen =
    record { calls = g.met.D.Disk.calls_told; no_later = g.met.D.Disk.no_later; at_now = g.met.D.Disk.at_now; image = c.an_image_fits.ensures } in
    let site = g.D.Disk.seen in
    let d = c.args.disk.now in
    let was = c.args.self.now in
    let a = c.args.address.now in
    let cache = c.get.follows.lender-at-none in
    let kept = c.in-Some.kept.now in
    gives site laws c.kept_is_added.ensures.one d d was (record { archive = was.archive; cache = cache }) a kept c.give_kept.result c.or_starved.result c.requires.stands
    (alone_here (site.view d)) (no_call site d _ (g.met.D.Disk.no_later d))
    (λ m s. fronted _ _ m was cache a c.get.follows.holds-at-none s)
    (λ m s. hit_held _ m.log a was.cache kept (sym c.in-Some.ensures.value) s.cached)
    c.give_kept.ensures c.or_starved.ensures
    (λ status. hit_remembers was.cache cache a kept c.give_kept.result c.or_starved.result (sym c.in-Some.ensures.value) c.get.follows.holds-at-none status c.or_starved.ensures)
