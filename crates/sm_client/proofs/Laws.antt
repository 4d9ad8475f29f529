-- What follows of the exchanges of a stream.
use Rattle.std.proofs.Common.{◌≡◌, ◌<◌, ◌≤◌, ◌+◌, ◌*◌, ℕ, List, [], ◌∷◌, ◌++◌, length, Option, Some, None, refl, ap, sym, ◌∙◌, subst, arith, inl, inr, length-append, add-mul, one-mul, mul-le-mul_right, mul_right_comm, add_assoc}
use Rattle.sm_model.specs.declared.run.RawFragment.{RawFragment}
use Rattle.sm_manin.specs.declared.listing.StreamListing.{StreamListing}
use Rattle.sm_fetch.specs.declared.dial.Exchange.{Exchange}
use Rattle.sm_fetch.specs.declared.got.Got.TheVariants as got
use Rattle.sm_client.specs.declared.plan.Plan.{Plan}
use Rattle.sm_client.specs.declared.report.Miss.{Miss}
use Rattle.sm_client.specs.declared.report.Miss.TheVariants as miss
use Rattle.sm_client.specs.Turns.{Meaning, Turn}
use Rattle.sm_client.specs.Starts.{starts}
use Rattle.sm_client.specs.Stands.{Item, list, piece, Piece, unread, absent, standing, Standing, State, listed, first_start, nothing_read, state_after, piece_of, wrote, wrote_by, begun, relisted, times_of}
use Rattle.sm_client.specs.Asks.{IsStale, Asks, AsksLast, Made, MadePiece, turn_after}
use Rattle.sm_client.specs.Ends.{written_after}
use Rattle.sm_client.specs.Plays.{Gapless, first_times}
use Rattle.sm_client.proofs.Pieces.{spelled-fragment, spelled-no_manifest}
use Rattle.sm_client.proofs.Went.{spelled-no_fragment}

-- ---- gapless

end_of : ℕ → List Piece → ℕ
end_of start [] = start
end_of start (p ∷ ps) = end_of (p.fragment.time + p.fragment.duration) ps

gapless-one : (start : ℕ) (ps : List Piece) (p : Piece) → Gapless start ps → p.fragment.time ≡ end_of start ps → Gapless start (ps ++ p ∷ [])
unfolding end_of
gapless-one start [] p g is = (is, tt)
gapless-one start (q ∷ ps) p g is = (g.0, gapless-one (q.fragment.time + q.fragment.duration) ps p g.1 is)

end_of-one : (start : ℕ) (ps : List Piece) (p : Piece) → end_of start (ps ++ p ∷ []) ≡ p.fragment.time + p.fragment.duration
unfolding end_of
end_of-one start [] p = refl
end_of-one start (q ∷ ps) p = end_of-one (q.fragment.time + q.fragment.duration) ps p

record Runs (start : ℕ) (p : Standing) : Type 0 where
  pub gapless : Gapless start p.written
  pub ends : p.expected ≡ end_of start p.written

module _ {P : Type 0} (m : Meaning P) (plan : Plan) (name : List ℕ) where
  same-standing : (p q : Standing) → standing p ≡ standing q → p ≡ q
  same-standing p q e = cc

  runs-wrote : {start : ℕ} (p : Standing) (s : StreamListing) (raw : RawFragment) (level : ℕ) → Runs start p → raw.time ≡ p.expected → Runs start (wrote name p s level raw)
  runs-wrote {start = start} p s raw level r time = record {
    gapless = gapless-one start p.written (piece_of name s level raw) r.gapless (time ∙ r.ends);
    ends = sym (end_of-one start p.written (piece_of name s level raw));
  }

  runs-by : {start : ℕ} (t : Turn P) (p : Standing) (missed : List Miss) (x : Exchange) (raw : RawFragment) (level : ℕ) → Runs start p
      → MadePiece m plan name t (record { stand = standing p; missed = missed }) x (got.Fragment raw) level → Runs start (wrote_by name p p.listing level raw)
  runs-by {start = start} t p missed x raw level r k =
      let same : p ≡ k.at = same-standing p k.at k.stands in
      let listing : p.listing ≡ Some k.listing = ap (λ (q : Standing). q.listing) same ∙ k.last in
      let time : raw.time ≡ p.expected = (spelled-fragment k.at.expected x.answer raw k.spells).1 ∙ ap (λ (q : Standing). q.expected) (sym same) in
      subst (λ o. Runs start (wrote_by name p o level raw)) (sym listing) (runs-wrote p k.listing raw level r time)

  standing-law : (start : ℕ) (xs : List Item) (t : Turn P) (p : Standing) (missed : List Miss) → Runs start p → Asks m plan name t (record { stand = standing p; missed = missed }) xs
      → Gapless start (written_after plan name (record { stand = standing p; missed = missed }) xs)
  standing-law start [] t p missed r a = r.gapless
  standing-law start (list x (got.Manifest l) ∷ xs) t p missed r a = standing-law start xs t (relisted p (listed name l.streams)) [] (record { gapless = r.gapless; ends = r.ends }) a.2
  standing-law start (list x (got.Fragment raw) ∷ xs) t p missed r a = standing-law start xs t p missed r a.2
  standing-law start (list x (got.Status status) ∷ xs) t p missed r a = standing-law start xs t p _ r a.2
  standing-law start (list x got.Cut ∷ xs) t p missed r a = standing-law start xs t p _ r a.2
  standing-law start (list x (got.Unreadable at) ∷ xs) t p missed r a = standing-law start xs t p _ r a.2
  standing-law start (list x got.Lost ∷ xs) t p missed r a = standing-law start xs t p _ r a.2
  standing-law start (list x got.NoMemory ∷ xs) t p missed r a = absurd a.1
  standing-law start (piece x (got.Manifest l) level ∷ xs) t p missed r a = standing-law start xs _ p missed r a.2
  standing-law start (piece x (got.Fragment raw) level ∷ xs) t p missed r a = standing-law start xs _ (wrote_by name p p.listing level raw) [] (runs-by t p missed x raw level r a.0) a.2
  standing-law start (piece x (got.Status status) level ∷ xs) t p missed r a = standing-law start xs _ p _ r a.2
  standing-law start (piece x got.Cut level ∷ xs) t p missed r a = standing-law start xs _ p _ r a.2
  standing-law start (piece x (got.Unreadable at) level ∷ xs) t p missed r a = standing-law start xs _ p _ r a.2
  standing-law start (piece x got.Lost level ∷ xs) t p missed r a = standing-law start xs _ p _ r a.2
  standing-law start (piece x got.NoMemory level ∷ xs) t p missed r a = absurd a.1

  absent-none : (t : Turn P) (missed : List Miss) (xs : List Item) → Asks m plan name t (record { stand = absent; missed = missed }) xs → xs ≡ []
  absent-none t missed [] a = refl
  absent-none t missed (list x g ∷ xs) a = absurd a.0.may
  absent-none t missed (piece x g level ∷ xs) a = absurd (let e : absent ≡ standing a.0.at = a.0.stands in cc)

  begun-law : (o : Option StreamListing) (t : Turn P) (xs : List Item) → Asks m plan name t (record { stand = begun plan o; missed = [] }) xs
      → Gapless (first_start plan.from (times_of o)) (written_after plan name (record { stand = begun plan o; missed = [] }) xs)
  unfolding end_of
  begun-law None t xs a = rw (absent-none t [] xs a) tt
  begun-law (Some s) t xs a =
      standing-law (first_start plan.from s.times) xs t
      (record { listing = Some s; expected = first_start plan.from s.times; known = starts s.times; written = []; manifests = 1 }) []
      (record { gapless = tt; ends = refl }) a

  unread-law : (xs : List Item) (t : Turn P) (missed : List Miss) → Asks m plan name t (record { stand = unread; missed = missed }) xs
      → Gapless (first_start plan.from (first_times name xs)) (written_after plan name (record { stand = unread; missed = missed }) xs)
  unread-law [] t missed a = tt
  unread-law (list x (got.Manifest l) ∷ xs) t missed a = begun-law (listed name l.streams) t xs a.2
  unread-law (list x (got.Fragment raw) ∷ xs) t missed a = unread-law xs t missed a.2
  unread-law (list x (got.Status status) ∷ xs) t missed a = unread-law xs t _ a.2
  unread-law (list x got.Cut ∷ xs) t missed a = unread-law xs t _ a.2
  unread-law (list x (got.Unreadable at) ∷ xs) t missed a = unread-law xs t _ a.2
  unread-law (list x got.Lost ∷ xs) t missed a = unread-law xs t _ a.2
  unread-law (list x got.NoMemory ∷ xs) t missed a = absurd a.1
  unread-law (piece x g level ∷ xs) t missed a = absurd (let e : unread ≡ standing a.0.at = a.0.stands in cc)

  pub gapless-law : (t : Turn P) (xs : List Item) → Asks m plan name t nothing_read xs → Gapless (first_start plan.from (first_times name xs)) (written_after plan name nothing_read xs)
  gapless-law t xs a = unread-law xs t [] a

-- ---- how many

bound : (w m k c r t : ℕ) → w ≤ c → m ≤ r → k ≤ t → (w * (r + 1) + m) * t + k ≤ (c + 1) * t * (r + 1)
bound w m k c r t wc mr kt =
    let a : w * (r + 1) ≤ c * (r + 1) = mul-le-mul_right (r + 1) wc in
    let b : (c + 1) * (r + 1) ≡ c * (r + 1) + 1 * (r + 1) = add-mul c 1 (r + 1) in
    let x : w * (r + 1) + m + 1 ≤ (c + 1) * (r + 1) = omega (arith, a, b, one-mul (r + 1), mr) in
    let y : (w * (r + 1) + m + 1) * t ≤ (c + 1) * (r + 1) * t = mul-le-mul_right t x in
    let z : (w * (r + 1) + m + 1) * t ≡ (w * (r + 1) + m) * t + 1 * t = add-mul (w * (r + 1) + m) 1 t in
    let e : (c + 1) * (r + 1) * t ≡ (c + 1) * t * (r + 1) = mul_right_comm (c + 1) (r + 1) t in
    omega (arith, y, z, one-mul t, e, kt)

-- a manifest more
manifest-more : (x k t : ℕ) → k < t → x * t + k + 1 ≤ (x + 1) * t + 0
manifest-more x k t h = let z : (x + 1) * t ≡ x * t + 1 * t = add-mul x 1 t in omega (arith, z, one-mul t, h)

-- a fragment more
fragment-more : (w m k r t : ℕ) → m ≤ r → k < t → (w * (r + 1) + m) * t + k + 1 ≤ ((w + 1) * (r + 1) + 0) * t + 0
fragment-more w m k r t mr h =
    let b : (w + 1) * (r + 1) ≡ w * (r + 1) + 1 * (r + 1) = add-mul w 1 (r + 1) in
    let x : w * (r + 1) + m + 1 ≤ (w + 1) * (r + 1) + 0 = omega (arith, b, one-mul (r + 1), mr) in
    let y : (w * (r + 1) + m + 1) * t ≤ ((w + 1) * (r + 1) + 0) * t = mul-le-mul_right t x in
    let z = manifest-more (w * (r + 1) + m) k t h in
    omega (arith, y, z)

first-more : (r k t : ℕ) → k < t → k + 1 ≤ (0 * (r + 1) + 1) * t + 0
first-more r k t h = let z : (0 * (r + 1) + 1) * t ≡ 0 * (r + 1) * t + 1 * t = add-mul (0 * (r + 1)) 1 t in omega (arith, z, one-mul t, h)

unread-bound : (k c r t : ℕ) → k ≤ t → k ≤ (c + 1) * t * (r + 1)
unread-bound k c r t h = omega (arith, bound 0 0 k c r t (omega arith) (omega arith) h)

module _ {P : Type 0} (m : Meaning P) (plan : Plan) (name : List ℕ) (last : List Item) where
  abbrev most : ℕ
  most = (plan.count + 1) * plan.tries * (plan.refresh + 1)

  tries-left : (t : Turn P) (s : State) (x : Item) → Made m plan name t s x → length s.missed < plan.tries
  tries-left t s (list x g) k = k.tries
  tries-left t s (piece x g level) k = k.tries

  -- how many may come last
  with-last : (t : Turn P) (s : State) (n : ℕ) → (length s.missed ≤ plan.tries) → AsksLast m plan name t s last → ((k : ℕ) → k ≤ plan.tries → n + k ≤ most) → length last + (n + length s.missed) ≤ most
  with-last t s n h a b = by last a
    where
      by : (xs : List Item) → AsksLast m plan name t s xs → length xs + (n + length s.missed) ≤ most
      by [] a = omega (arith, b (length s.missed) h)
      by (x ∷ []) a = omega (arith, b (length s.missed + 1) (omega (arith, tries-left t s x a)))
      by (x ∷ y ∷ xs) a = absurd a

  absent-last : (t : Turn P) (missed : List Miss) → AsksLast m plan name t (record { stand = absent; missed = missed }) last → length last ≡ 0
  absent-last t missed a = by last a
    where
      by : (xs : List Item) → AsksLast m plan name t (record { stand = absent; missed = missed }) xs → length xs ≡ 0
      by [] a = refl
      by (list x g ∷ []) a = absurd a.may
      by (piece x g level ∷ []) a = absurd (let e : absent ≡ standing a.at = a.stands in cc)
      by (x ∷ y ∷ xs) a = absurd a

  abbrev StandingFew : Turn P → Standing → List Miss → List Item → Type 0
  StandingFew t p missed xs =
      length p.written ≤ plan.count → p.manifests ≤ plan.refresh → length missed ≤ plan.tries → Asks m plan name t (record { stand = standing p; missed = missed }) xs
      → AsksLast m plan name (turn_after m t xs) (state_after plan name (record { stand = standing p; missed = missed }) xs) last
      → length xs + (length last + ((length p.written * (plan.refresh + 1) + p.manifests) * plan.tries + length missed)) ≤ most

  missed-few : (p : Standing) (missed : List Miss) (x : Miss) (n : ℕ) → n + (length last + ((length p.written * (plan.refresh + 1) + p.manifests) * plan.tries + length (missed ++ x ∷ []))) ≤ most
      → n + 1 + (length last + ((length p.written * (plan.refresh + 1) + p.manifests) * plan.tries + length missed)) ≤ most
  missed-few p missed x n h = omega (arith, h, length-append missed (x ∷ []))

  longer : (missed : List Miss) (x : Miss) → length missed < plan.tries → length (missed ++ x ∷ []) ≤ plan.tries
  longer missed x h = omega (arith, h, length-append missed (x ∷ []))

  relist-few : (p : Standing) → IsStale plan p → 0 < plan.refresh → p.manifests + 1 ≤ plan.refresh
  relist-few p (inl none) some = omega (arith, none, some)
  relist-few p (inr fewer) some = omega (arith, fewer.0)

  wrote-few : (t : Turn P) (p : Standing) (missed : List Miss) (x : Exchange) (raw : RawFragment) (level : ℕ) (xs : List Item)
      → MadePiece m plan name t (record { stand = standing p; missed = missed }) x (got.Fragment raw) level → p.manifests ≤ plan.refresh
      → (o : Option StreamListing) → o ≡ p.listing
      → (length (wrote_by name p o level raw).written ≤ plan.count → (wrote_by name p o level raw).manifests ≤ plan.refresh
      → length xs + (length last + ((length (wrote_by name p o level raw).written * (plan.refresh + 1) + (wrote_by name p o level raw).manifests) * plan.tries + 0)) ≤ most)
      → length xs + 1 + (length last + ((length p.written * (plan.refresh + 1) + p.manifests) * plan.tries + length missed)) ≤ most
  wrote-few t p missed x raw level xs k fewer None is rest =
      absurd (let same : p ≡ k.at = same-standing' p k.at k.stands in let some : p.listing ≡ Some k.listing = ap (λ (q : Standing). q.listing) same ∙ k.last in cc)
    where
      same-standing' : (p q : Standing) → standing p ≡ standing q → p ≡ q
      same-standing' p q e = cc
  wrote-few t p missed x raw level xs k fewer (Some s) is rest =
      let same : p ≡ k.at = same-standing' p k.at k.stands in
      let more : length p.written < plan.count = rw same k.more in
      let len : length (p.written ++ piece_of name s level raw ∷ []) ≡ length p.written + 1 = length-append p.written (piece_of name s level raw ∷ []) in
      let r = rest (omega (arith, len, more)) (omega arith) in
      let r' : length xs + (length last + (((length p.written + 1) * (plan.refresh + 1) + 0) * plan.tries + 0)) ≤ most = rw (← len) r in
      omega (arith, r', fragment-more (length p.written) p.manifests (length missed) plan.refresh plan.tries fewer k.tries)
    where
      same-standing' : (p q : Standing) → standing p ≡ standing q → p ≡ q
      same-standing' p q e = cc

  standing-few : 0 < plan.refresh → (xs : List Item) (t : Turn P) (p : Standing) (missed : List Miss) → StandingFew t p missed xs
  standing-few some [] t p missed w mr h a b =
      omega (
        arith,
        with-last t (record { stand = standing p; missed = missed }) ((length p.written * (plan.refresh + 1) + p.manifests) * plan.tries) h b
            (λ k kt. bound (length p.written) p.manifests k plan.count plan.refresh plan.tries w mr kt),
      )
  standing-few some (list x (got.Manifest l) ∷ xs) t p missed w mr h a b =
      let r = standing-few some xs t (relisted p (listed name l.streams)) [] w (relist-few p a.0.may.stale some) (omega arith) a.2 b in
      omega (arith, r, manifest-more (length p.written * (plan.refresh + 1) + p.manifests) (length missed) plan.tries a.0.tries, add_assoc (length p.written * (plan.refresh + 1)) p.manifests 1)
  standing-few some (list x (got.Fragment raw) ∷ xs) t p missed w mr h a b = absurd (spelled-no_fragment raw x.answer a.0.spells)
  standing-few some (list x (got.Status status) ∷ xs) t p missed w mr h a b = omega (arith, missed-few p missed _ (length xs) (standing-few some xs t p _ w mr (longer missed _ a.0.tries) a.2 b))
  standing-few some (list x got.Cut ∷ xs) t p missed w mr h a b = omega (arith, missed-few p missed _ (length xs) (standing-few some xs t p _ w mr (longer missed _ a.0.tries) a.2 b))
  standing-few some (list x (got.Unreadable at) ∷ xs) t p missed w mr h a b = omega (arith, missed-few p missed _ (length xs) (standing-few some xs t p _ w mr (longer missed _ a.0.tries) a.2 b))
  standing-few some (list x got.Lost ∷ xs) t p missed w mr h a b = omega (arith, missed-few p missed _ (length xs) (standing-few some xs t p _ w mr (longer missed _ a.0.tries) a.2 b))
  standing-few some (list x got.NoMemory ∷ xs) t p missed w mr h a b = absurd a.1
  standing-few some (piece x (got.Manifest l) level ∷ xs) t p missed w mr h a b = absurd (spelled-no_manifest l _ x.answer a.0.spells)
  standing-few some (piece x (got.Fragment raw) level ∷ xs) t p missed w mr h a b =
      omega (arith, wrote-few t p missed x raw level xs a.0 mr p.listing refl (λ w' mr'. standing-few some xs _ (wrote_by name p p.listing level raw) [] w' mr' (omega arith) a.2 b))
  standing-few some (piece x (got.Status status) level ∷ xs) t p missed w mr h a b = omega (arith, missed-few p missed _ (length xs) (standing-few some xs _ p _ w mr (longer missed _ a.0.tries) a.2 b))
  standing-few some (piece x got.Cut level ∷ xs) t p missed w mr h a b = omega (arith, missed-few p missed _ (length xs) (standing-few some xs _ p _ w mr (longer missed _ a.0.tries) a.2 b))
  standing-few some (piece x (got.Unreadable at) level ∷ xs) t p missed w mr h a b = omega (arith, missed-few p missed _ (length xs) (standing-few some xs _ p _ w mr (longer missed _ a.0.tries) a.2 b))
  standing-few some (piece x got.Lost level ∷ xs) t p missed w mr h a b = omega (arith, missed-few p missed _ (length xs) (standing-few some xs _ p _ w mr (longer missed _ a.0.tries) a.2 b))
  standing-few some (piece x got.NoMemory level ∷ xs) t p missed w mr h a b = absurd a.1

  begun-few : 0 < plan.refresh → (o : Option StreamListing) (t : Turn P) (missed : List Miss) (xs : List Item) → length missed < plan.tries → Asks m plan name t (record { stand = begun plan o; missed = [] }) xs
      → AsksLast m plan name (turn_after m t xs) (state_after plan name (record { stand = begun plan o; missed = [] }) xs) last → length xs + 1 + (length last + length missed) ≤ most
  begun-few some None t missed xs h a b =
      let none : xs ≡ [] = absent-none m plan name t [] xs a in
      let b' : AsksLast m plan name t (record { stand = absent; missed = [] }) last = rw none at b in
      omega (arith, ap length none, absent-last t [] b', unread-bound (length missed + 1) plan.count plan.refresh plan.tries (omega (arith, h)))
  begun-few some (Some s) t missed xs h a b =
      let r = standing-few some xs t (record { listing = Some s; expected = first_start plan.from s.times; known = starts s.times; written = []; manifests = 1 }) [] (omega arith) (omega (arith, some)) (omega arith) a b in
      omega (arith, r, first-more plan.refresh (length missed) plan.tries h)

  unread-few : 0 < plan.refresh → (xs : List Item) (t : Turn P) (missed : List Miss) → length missed ≤ plan.tries → Asks m plan name t (record { stand = unread; missed = missed }) xs
      → AsksLast m plan name (turn_after m t xs) (state_after plan name (record { stand = unread; missed = missed }) xs) last → length xs + (length last + length missed) ≤ most
  unread-few some [] t missed h a b = omega (arith, with-last t (record { stand = unread; missed = missed }) 0 h b (λ k kt. omega (arith, unread-bound k plan.count plan.refresh plan.tries kt)))
  unread-few some (list x (got.Manifest l) ∷ xs) t missed h a b = omega (arith, begun-few some (listed name l.streams) t missed xs a.0.tries a.2 b)
  unread-few some (list x (got.Fragment raw) ∷ xs) t missed h a b = absurd (spelled-no_fragment raw x.answer a.0.spells)
  unread-few some (list x (got.Status status) ∷ xs) t missed h a b = omega (arith, unread-few some xs t (missed ++ _ ∷ []) (longer missed _ a.0.tries) a.2 b, length-append missed (miss.Status status ∷ []))
  unread-few some (list x got.Cut ∷ xs) t missed h a b = omega (arith, unread-few some xs t (missed ++ _ ∷ []) (longer missed _ a.0.tries) a.2 b, length-append missed (miss.Cut ∷ []))
  unread-few some (list x (got.Unreadable at) ∷ xs) t missed h a b = omega (arith, unread-few some xs t (missed ++ _ ∷ []) (longer missed _ a.0.tries) a.2 b, length-append missed (miss.Unreadable at ∷ []))
  unread-few some (list x got.Lost ∷ xs) t missed h a b = omega (arith, unread-few some xs t (missed ++ _ ∷ []) (longer missed _ a.0.tries) a.2 b, length-append missed (miss.Lost ∷ []))
  unread-few some (list x got.NoMemory ∷ xs) t missed h a b = absurd a.1
  unread-few some (piece x g level ∷ xs) t missed h a b = absurd (let e : unread ≡ standing a.0.at = a.0.stands in cc)

pub few-law : {P : Type 0} (m : Meaning P) (plan : Plan) (name : List ℕ) (t : Turn P) (xs last : List Item) → 0 < plan.tries → 0 < plan.refresh → Asks m plan name t nothing_read xs
    → AsksLast m plan name (turn_after m t xs) (state_after plan name nothing_read xs) last → length xs + length last ≤ (plan.count + 1) * plan.tries * (plan.refresh + 1)
few-law m plan name t xs last tries refresh a b = let r = unread-few m plan name last refresh xs t [] (omega arith) a b in omega (arith, r)
