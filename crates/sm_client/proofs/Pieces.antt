-- Requests for fragments.
use Rattle.std.proofs.Common.{◌≡◌, ◌<◌, ◌⊎◌, ℕ, List, [], ◌∷◌, length, slice_index, get_or, Option, refl, ap, sym, ◌∙◌, arith, inl, inr}
use Rattle.std.proofs.lemmas.List.{get_or_default}
use Rattle.sm_policy.specs.declared.policy.Outcome.{Outcome}
use Rattle.sm_model.specs.declared.address.Address.{Address}
use Rattle.sm_model.specs.declared.run.RawFragment.{RawFragment}
use Rattle.sm_model.specs.Fragments.{IsValid}
use Rattle.sm_manin.specs.declared.listing.Level.{Level}
use Rattle.sm_manin.specs.declared.listing.Listing.{Listing}
use Rattle.sm_fetch.specs.declared.dial.Answer.{Answer}
use Rattle.sm_fetch.specs.declared.dial.Answer.TheVariants as answers
use Rattle.sm_fetch.specs.declared.dial.Exchange.{Exchange}
use Rattle.sm_fetch.specs.declared.got.Got.{Got}
use Rattle.sm_fetch.specs.declared.got.Got.TheVariants as got
use Rattle.sm_fetch.specs.Exchanges.{with_one, logged, answer_len}
use Rattle.sm_fetch.specs.Requests.{fragment_request, fragment_limit}
use Rattle.sm_fetch.specs.Spelt.{SpellsFragment, given}
use Rattle.sm_fetch.specs.Fetched.{FetchedFragment}
use Rattle.sm_client.specs.declared.plan.Plan.{Plan}
use Rattle.sm_client.specs.declared.report.Miss.{Miss}
use Rattle.sm_client.specs.declared.piece.Asked.{Asked}
use Rattle.sm_client.specs.declared.piece.Asked.TheVariants as asked
use Rattle.sm_client.specs.declared.piece.Wanted.{Wanted}
use Rattle.sm_client.specs.declared.stream.Stream.{Stream}
use Rattle.sm_client.specs.Turns.{Meaning, Turn, fresh, Continues}
use Rattle.sm_client.specs.Stands.{Item, piece, Standing, standing, ladder_of, address_at}
use Rattle.sm_client.specs.Asks.{outcome_of}
use Rattle.sm_client.specs.Calls.{at, Went, MayPiece, PieceMade, PieceHeard, PieceLost, PieceOnce, IsAskedOf}
use Rattle.sm_client.proofs.Turns.{behaves-refl}
use Rattle.sm_client.proofs.Went.{with_all-one, went-more, made-piece}

pub length-ladder : (levels : List Level) → length (ladder_of levels) ≡ length levels
length-ladder [] = refl
length-ladder (l ∷ ls) = omega (arith, length-ladder ls)

-- what was chosen, and what was asked
pub record Chosen {P : Type 0} (m : Meaning P) (name : List ℕ) (w : Wanted) (who : P) (ladder : List ℕ) (level : ℕ) (address : Address) : Type 0 where
  pub ladder_is : ladder ≡ ladder_of w.listing.now.levels
  pub pick : level ≡ m.pick who [] ladder w.ahead
  pub within : level < length ladder
  pub address_is : address ≡ record { stream = name; bitrate = slice_index ladder level; time = w.start }

-- one exchange, and how much came
pub record PieceCame {P : Type 0} (m : Meaning P) (plan : Plan) (name : List ℕ) (w : Wanted) (who : P) (old new : Option (List Exchange)) (g : Got) (level bytes : ℕ) : Type 0 where
  pub made : PieceMade m plan name w who old new g level
  pub len : bytes ≡ answer_len made.exchange.answer

pub chosen-address : {name : List ℕ} (w : Wanted) {ladder : List ℕ} (level : ℕ) {address : Address}
    → address ≡ record { stream = name; bitrate = slice_index ladder level; time = w.start } → ladder ≡ ladder_of w.listing.now.levels
    → address ≡ address_at name w.listing.now w.start level
chosen-address {name = name} w level is ladder_is = is ∙ ap (λ l. record { stream = name; bitrate = slice_index l level; time = w.start }) ladder_is

came : {P : Type 0} {m : Meaning P} {name : List ℕ} {w : Wanted} {who : P} {ladder : List ℕ} {level : ℕ} {address : Address} (plan : Plan)
    {old new : Option (List Exchange)} {g : Got} {bytes : ℕ} → Chosen m name w who ladder level address → (answer : Answer)
    → new ≡ with_one old (record { request = fragment_request plan.place w.listing.now.pattern address; limit = fragment_limit; answer = answer })
    → SpellsFragment address.time answer g → bytes ≡ answer_len answer → PieceCame m plan name w who old new g level bytes
came {m = m} {name = name} {w = w} {who = who} {ladder = ladder} {level = level} {address = address} plan k answer log spells len =
    let same : address ≡ address_at name w.listing.now w.start level = chosen-address w level k.address_is k.ladder_is in
    let few : length ladder ≡ length w.listing.now.levels = ap length k.ladder_is ∙ length-ladder w.listing.now.levels in
    let time : address.time ≡ w.start = ap (λ a. a.time) k.address_is in
    record {
      made = record {
        exchange = record { request = fragment_request plan.place w.listing.now.pattern address; limit = fragment_limit; answer = answer };
        log = log;
        chosen = k.pick ∙ ap (λ l. m.pick who [] l w.ahead) k.ladder_is;
        within = omega (arith, few, k.within);
        request = ap (fragment_request plan.place w.listing.now.pattern) same;
        limit = refl;
        spells = rw (← time) spells;
      };
      len = len;
    }

came-by : {P : Type 0} {m : Meaning P} {name : List ℕ} {w : Wanted} {who : P} {ladder : List ℕ} {level : ℕ} {address : Address} (plan : Plan)
    {old new : Option (List Exchange)} {g : Got} {bytes : ℕ} → Chosen m name w who ladder level address → (answer : Answer)
    → new ≡ logged old (fragment_request plan.place w.listing.now.pattern address) fragment_limit answer
    → SpellsFragment address.time answer g → bytes ≡ answer_len answer → ((new ≡ old) × (g ≡ got.NoMemory)) ⊎ PieceCame m plan name w who old new g level bytes
came-by plan k (answers.Bytes b) log spells len = inr (came plan k (answers.Bytes b) log spells len)
came-by plan k answers.Lost log spells len = inr (came plan k answers.Lost log spells len)
came-by plan k answers.NoMemory log spells len = inl (log, spells)

pub piece-came : {P : Type 0} {m : Meaning P} {name : List ℕ} {w : Wanted} {who : P} {ladder : List ℕ} {level : ℕ} {address : Address} {plan : Plan}
    {old new : Option (List Exchange)} {g : Got} {bytes : ℕ} → Chosen m name w who ladder level address
    → FetchedFragment plan.place w.listing.now.pattern address old new g bytes → ((new ≡ old) × (g ≡ got.NoMemory)) ⊎ PieceCame m plan name w who old new g level bytes
piece-came {plan = plan} k f = came-by plan k f.answer f.log f.spells f.length_is

pub spelled-no_manifest : (l : Listing) (start : ℕ) (answer : Answer) → SpellsFragment start answer (got.Manifest l) → ⊥
spelled-no_manifest l start (answers.Bytes b) x = x
spelled-no_manifest l start answers.Lost x = cc
spelled-no_manifest l start answers.NoMemory x = cc

module _ {P : Type 0} {m : Meaning P} {plan : Plan} {name : List ℕ} {w : Wanted} {who : P} {old new : Option (List Exchange)} {level bytes : ℕ} where
  came-same : {g : Got} (h : Got) → g ≡ h → ((new ≡ old) × (g ≡ got.NoMemory)) ⊎ PieceCame m plan name w who old new g level bytes
      → ((new ≡ old) × (h ≡ got.NoMemory)) ⊎ PieceCame m plan name w who old new h level bytes
  came-same h e c = rw (← e) c

  not_lost : {g : Got} → (g ≡ got.NoMemory → ⊥) → ((new ≡ old) × (g ≡ got.NoMemory)) ⊎ PieceCame m plan name w who old new g level bytes
      → PieceCame m plan name w who old new g level bytes
  not_lost n (inl e) = absurd (n e.1)
  not_lost n (inr c) = c

  heard : {g : Got} {now : P} {outcome : Outcome} → (c : PieceCame m plan name w who old new g level bytes) → ((x : Exchange) → bytes ≡ answer_len x.answer → outcome ≡ outcome_of g x)
      → Continues m who now (record { level = level; outcome = outcome }) → PieceHeard m plan name w who now old new g level
  heard c is k = record { made = c.made; heard = rw (← (is c.made.exchange c.len)) k }

  no_manifest : (l : Listing) → PieceCame m plan name w who old new (got.Manifest l) level bytes → ⊥
  no_manifest l c = spelled-no_manifest l w.start c.made.exchange.answer c.made.spells

  pub piece-lost : {g : Got} → ((new ≡ old) × (g ≡ got.NoMemory)) ⊎ PieceCame m plan name w who old new g level bytes → g ≡ got.NoMemory → PieceLost m plan name w who who old new
  piece-lost (inl e) is = record { same = refl; made = inl e.0 }
  piece-lost (inr c) is = record { same = refl; made = inr (level, rw is at c.made) }

pub piece-once : {P : Type 0} {m : Meaning P} {who now : P} {old new : Option (List Exchange)} {g : Got} {level bytes : ℕ} {outcome : Outcome} (st : Stream) (w : Wanted) (r : Asked)
    → ((new ≡ old) × (g ≡ got.NoMemory)) ⊎ PieceCame m st.plan.now st.name.now w who old new g level bytes
    → (g ≡ got.NoMemory → ⊥) → ((x : Exchange) → bytes ≡ answer_len x.answer → outcome ≡ outcome_of g x)
    → Continues m who now (record { level = level; outcome = outcome }) → IsAskedOf g level r → PieceOnce m st w who now old new r
piece-once st w (asked.Took raw place) c n is k a =
    let h = heard (not_lost n c) is k in rw (a.1) (rw a.0 at h)
piece-once {g = g} {level = level} st w (asked.Missed outcome) c n is k a = record { came = g; level = level; heard = heard (not_lost n c) is k; is = a }
piece-once st w asked.NoMemory c n is k (inl e) = absurd (n e)
piece-once st w asked.NoMemory c n is k (inr l) = absurd (no_manifest l.0 (not_lost (λ e. cc) (came-same (got.Manifest l.0) l.1 c)))

pub piece-none : {P : Type 0} (m : Meaning P) (plan : Plan) (name : List ℕ) (w : Wanted) (who : P) (log : Option (List Exchange)) → PieceLost m plan name w who who log log
piece-none m plan name w who log = record { same = refl; made = inl refl }

pub address-is : {name sname items ladder : List ℕ} {level b t : ℕ} → b ≡ get_or items level b → ladder ≡ items → level < length ladder → sname ≡ name
    → ◌≡◌ {A = Address} (record { stream = sname; bitrate = b; time = t }) (record { stream = name; bitrate = slice_index ladder level; time = t })
address-is {name = name} {sname = sname} {items = items} {ladder = ladder} {level = level} {b = b} {t = t} at same fits is =
    let bit : b ≡ get_or ladder level 0 = at ∙ (ap (λ l. get_or l level b) (sym same) ∙ get_or_default ladder level b 0 fits) in
    ap (λ n. record { stream = n; bitrate = b; time = t }) is ∙ ap (λ n. record { stream = name; bitrate = n; time = t }) bit

-- a fragment that was read is valid, and of the time asked
pub spelled-fragment : (start : ℕ) (answer : Answer) (raw : RawFragment) → SpellsFragment start answer (got.Fragment raw) → IsValid (given [] 0 raw) × (raw.time ≡ start)
spelled-fragment start (answers.Bytes b) raw s = (s.3.valid, s.3.time_is)
spelled-fragment start answers.Lost raw s = absurd (cc)
spelled-fragment start answers.NoMemory raw s = absurd (cc)

pub valid-named : (name : List ℕ) (raw : RawFragment) → IsValid (given [] 0 raw) → IsValid (given name 0 raw)
valid-named name raw v = record { some = v.some; few = v.few; lasts = v.lasts; ends = v.ends; short = v.short }

-- want of memory, with an exchange or without one
pub lost-went : {P : Type 0} {m : Meaning P} {plan : Plan} {name : List ℕ} {w : Wanted} {begin : Turn P} {who then : P} {old mid new : Option (List Exchange)}
    (p : Standing) (missed : List Miss) (ps kept : List P) → MayPiece plan p w → length missed < plan.tries → PieceLost m plan name w who then mid new
    → Went m plan name begin (fresh who ps) (at (standing p) []) (at (standing p) missed) [] old mid → kept ≡ ps
    → (last : List Item) × Went m plan name begin (fresh then kept) (at (standing p) []) (at (standing p) missed) last old new
lost-went {P = P} {m = m} {plan = plan} {name = name} {w = w} {begin = begin} {who = who} {old = old} {mid = mid} {new = new} p missed ps kept may tries f r same = rw (f.same, same) (by f.made)
  where
    by : (new ≡ mid) ⊎ ((level : ℕ) × PieceMade m plan name w who mid new got.NoMemory level)
        → (last : List Item) × Went m plan name begin (fresh who ps) (at (standing p) []) (at (standing p) missed) last old new
    by (inl e) = ([], rw e r)
    by (inr l) = (
      piece l.1.exchange got.NoMemory l.0 ∷ [],
      went-more r (record {
        made = [];
        log = l.1.log ∙ with_all-one mid l.1.exchange;
        asks = tt;
        state = refl;
        asks_last = made-piece p missed ps may tries l.1;
        turn = behaves-refl m (fresh who ps);
      }),
    )
