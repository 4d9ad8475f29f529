-- How many exchanges a round makes.
use Rattle.std.proofs.Common.{◌≡◌, ◌+◌, ◌*◌, ◌≤◌, ℕ, cond, eqb, List, [], ◌∷◌, ◌++◌, length, length-append, Option, Some, refl, ap, subst, arith}
use Rattle.std.proofs.Math.Nat.{mul-le-mul_left}
use Rattle.sm_model.specs.declared.address.Address.{Address}
use Rattle.sm_model.specs.declared.entry.Entry.{Entry}
use Rattle.sm_model.specs.declared.track.Track.{Track}
use Rattle.sm_manin.specs.declared.listing.Listing.{Listing}
use Rattle.sm_fetch.specs.declared.dial.Exchange.{Exchange}
use Rattle.sm_client.specs.declared.report.Miss.{Miss}
use Rattle.sm_pull.specs.declared.plan.PullPlan.{PullPlan}
use Rattle.sm_pull.specs.Asks.{Gives}
use Rattle.sm_standby.specs.declared.held.Later.{Later}
use Rattle.sm_standby.specs.Waiting.{due, without}
use Rattle.sm_standby.specs.Turns.{Whose, candidate, again, Came, absent, kept, later, dropped, Turn, passed, asked, Standing, waits_by, behind, after, Turns, made_in}
use Rattle.sm_standby.specs.Followed.{at}
use Rattle.sm_standby.specs.Rounds.{addresses_of, Round, IsRound}
use Rattle.sm_standby.proofs.Opens.{by_bool}

less : (t a b : ℕ) → a ≤ b → t * a ≤ t * b
less t a b h = mul-le-mul_left t h

step : (t a b : ℕ) → a + 1 ≤ b → t + t * a ≤ t * b
step t a b h = let m = less t (a + 1) b h in omega (arith, m)

gives_few : {G : Type 0} {asks : Exchange → G → Type 0} {miss : G → Option Miss} {tries : ℕ} {made : List Exchange} {g : G} → Gives asks miss tries made g → length made ≤ tries
gives_few g =
    let all = length-append g.missed (g.last ∷ []) in
    let is = ap length g.made_is in
    let few = g.few in
    omega (arith, all, is, few)

due_fewer : (n : ℕ) (held : List Later) (l : Later) → due n held ≡ Some l → length (without n held) + 1 ≤ length held
due_fewer n [] l e = absurd (cc)
due_fewer n (k ∷ ls) l e =
    by_bool (eqb k.place n) (λ t. cond t (Some k) (due n ls) ≡ Some l → length (cond t ls (k ∷ without n ls)) + 1 ≤ length (k ∷ ls)) (λ is h. omega arith)
    (λ is h. let more = due_fewer n ls l h in omega (arith, more)) e

waits_few : (a : Address) (c : Came) → length (waits_by a c) ≤ 1
waits_few a absent = omega arith
waits_few a (kept n raw) = omega arith
waits_few a (later n raw) = omega arith
waits_few a (dropped n raw) = omega arith

weight : Standing → ℕ
weight s = 2 * length s.rest + length s.held

passed_less : (s : Standing) (a : Address) (more : List Address) → s.rest ≡ a ∷ more → weight (after s (passed a)) ≤ weight s
unfolding weight
passed_less s a more is =
    let there = ap length is in
    let next : length (behind s.rest) ≡ length more = ap (λ (r : List Address). length (behind r)) is in
    omega (arith, there, next)

asked_less : (s : Standing) (who : Whose) (made : List Exchange) (c : Came) → ((a : Address) → who ≡ candidate a → (more : List Address) × (s.rest ≡ a ∷ more))
    → ((l : Later) → who ≡ again l → due (length s.log) s.held ≡ Some l)
    → weight (after s (asked who made c)) + 1 ≤ weight s
unfolding weight
asked_less s (candidate a) made c first wait =
    let is = (first a refl).1 in
    let more = (first a refl).0 in
    let there = ap length is in
    let next : length (behind s.rest) ≡ length more = ap (λ (r : List Address). length (behind r)) is in
    let added = length-append s.held (waits_by a c) in
    let few = waits_few a c in
    omega (arith, there, next, added, few)
asked_less s (again l) made c first wait = let fewer = due_fewer (length s.log) s.held l (wait l refl) in omega (arith, fewer)

same_again : (l k : Later) → again l ≡ again k → l ≡ k
same_again l k e = cc

turns_few : (plan : PullPlan) (channel : List Track) (listing : Listing) (s e : Standing) (ts : List Turn) → Turns plan channel listing s ts e → length (made_in ts) ≤ plan.tries * weight s
turns_few plan channel listing s e [] legal = omega arith
turns_few plan channel listing s e (passed a ∷ ts) legal =
    let more = turns_few plan channel listing (after s (passed a)) e ts legal.1 in
    let lower = less plan.tries (weight (after s (passed a))) (weight s) (passed_less s a legal.0.first.0 legal.0.first.1) in
    omega (arith, more, lower)
turns_few plan channel listing s e (asked (candidate a) made c ∷ ts) legal =
    let more = turns_few plan channel listing (after s (asked (candidate a) made c)) e ts legal.1 in
    let lower = step plan.tries (weight (after s (asked (candidate a) made c))) (weight s) (asked_less s (candidate a) made c (λ b same. first b same) (λ l other. absurd (cc))) in
    let one = gives_few legal.0.gives in
    let both = length-append made (made_in ts) in
    omega (arith, more, lower, one, both)
  where
    same_candidate : (x y : Address) → candidate x ≡ candidate y → x ≡ y
    same_candidate x y q = cc

    first : (b : Address) → candidate a ≡ candidate b → (rest : List Address) × (s.rest ≡ b ∷ rest)
    first b same = subst (λ (x : Address). (rest : List Address) × (s.rest ≡ x ∷ rest)) (same_candidate a b same) legal.0.turn.1
turns_few plan channel listing s e (asked (again l) made c ∷ ts) legal =
    let more = turns_few plan channel listing (after s (asked (again l) made c)) e ts legal.1 in
    let lower = step plan.tries (weight (after s (asked (again l) made c))) (weight s)
    (asked_less s (again l) made c (λ b other. absurd (cc)) (λ k same. subst (λ (x : Later). due (length s.log) s.held ≡ Some x) (same_again l k same) legal.0.turn)) in
    let one = gives_few legal.0.gives in
    let both = length-append made (made_in ts) in
    omega (arith, more, lower, one, both)

pub round_few : (plan : PullPlan) (channel : List Track) (log log' : List Entry) (held held' : List Later) (r : Round) → IsRound plan channel log held r log' held'
    → length (r.reads ++ made_in r.turns) ≤ plan.tries * (1 + (2 * length (addresses_of channel r.listing) + length held))
unfolding weight
round_few plan channel log log' held held' r is =
    let turns = turns_few plan channel r.listing (at log held (addresses_of channel r.listing)) (at log' held' []) r.turns is.turns in
    let reads = gives_few is.reads in
    let both = length-append r.reads (made_in r.turns) in
    let all = step plan.tries (2 * length (addresses_of channel r.listing) + length held) (1 + (2 * length (addresses_of channel r.listing) + length held)) (omega arith) in
    omega (arith, turns, reads, both, all)
