-- A front of a sound log, one entry further.
use Rattle.std.proofs.Common.{◌≡◌, ◌≤◌, ◌<◌, ◌+◌, ◌⊎◌, inl, inr, ℕ, zero, suc, Bool, true, false, cond, Option, Some, None, List, [], ◌∷◌, ◌++◌, length, map, take, drop, refl, sym, ap, subst, ◌∙◌, append_assoc, arith}
use Rattle.std.proofs.lemmas.List.{length-map, map-append, take-append-drop}
use Rattle.std.specs.List.{slice_get}
use Rattle.sm_model.specs.declared.address.Address.{Address}
use Rattle.sm_model.specs.declared.entry.Entry.{Entry}
use Rattle.sm_model.specs.declared.entry.Entry.TheVariants.{Declare, Keep}
use Rattle.sm_model.specs.declared.fragment.Fragment.{Fragment}
use Rattle.sm_model.specs.declared.track.Track.{Track}
use Rattle.sm_model.specs.Entries.{address_of}
use Rattle.sm_log.specs.Adds.{Add}
use Rattle.sm_log.specs.Logs.{channel_of, verdict_by, FitsBehind, IsSound}
use Rattle.sm_log.specs.Digests.{Digest, digest_of, keeps_of, window_of}
use Rattle.sm_log.proofs.AllLogs.{sound_front}
use Rattle.sm_shelf.specs.Laying.{Op, Whole, Next, laid, op_at, declared, is_next, is_new, is_fresh, with_add, adds_in}
use Rattle.sm_shelf.specs.Shelf.{IsFront, IsOf}
use Rattle.sm_shelf.proofs.Places.{next_one}
use Rattle.sm_shelf.proofs.Windows.{window_grows}

abbrev pub told : Fragment → Address × ℕ
told f = (address_of f, f.duration)

-- ---- what a sound log is made of

-- fragments alone
abbrev pub AreKeeps : List Entry → Type 0
AreKeeps [] = Unit {0}
AreKeeps (Declare tracks ∷ es) = ⊥
AreKeeps (Keep f ∷ es) = AreKeeps es

pub keeps_long : (es : List Entry) → AreKeeps es → length (keeps_of es) ≡ length es
keeps_long [] k = refl
keeps_long (Declare tracks ∷ es) k = absurd k
keeps_long (Keep f ∷ es) k = ap suc (keeps_long es k)

keeps_join : (log more : List Entry) → keeps_of (log ++ more) ≡ keeps_of log ++ keeps_of more
keeps_join [] more = refl
keeps_join (Declare tracks ∷ log) more = keeps_join log more
keeps_join (Keep f ∷ log) more = ap (λ (l : List Fragment). f ∷ l) (keeps_join log more)

rest_keeps : (x : Entry) (front rest : List Entry)
    → ((fr back : List Entry) (e : Entry) → (x ∷ front) ++ rest ≡ fr ++ e ∷ back → FitsBehind fr e) → AreKeeps rest
rest_keeps x front [] each = tt
rest_keeps x front (Declare tracks ∷ es) each = let first = (each (x ∷ front) es (Declare tracks) refl).0 in absurd cc
rest_keeps x front (Keep f ∷ es) each =
    rest_keeps x (front ++ Keep f ∷ []) es (λ fr back e is. each fr back e (sym (append_assoc (x ∷ front) (Keep f ∷ []) es) ∙ is))

-- the channel, and fragments alone behind it
pub shape_of : (log : List Entry) → IsSound log → (log ≡ []) ⊎ ((tracks : List Track) × (rest : List Entry) × (log ≡ Declare tracks ∷ rest) × AreKeeps rest)
shape_of [] sound = inl refl
shape_of (Declare tracks ∷ rest) sound = inr (tracks, rest, refl, rest_keeps (Declare tracks) [] rest sound.each)
shape_of (Keep f ∷ rest) sound = let fits = (sound.each [] rest (Keep f) refl).1 in absurd cc

-- ---- one entry further

abbrev made : Option (List Track) → List (Address × ℕ) → List Fragment → Digest
made c a w = record { channel = c; adds = a; window = w }

pub digest_is : (d e : Digest) → d.channel ≡ e.channel → d.adds ≡ e.adds → d.window ≡ e.window → d ≡ e
digest_is d e c a w =
    ap (λ (x : Option (List Track)). made x d.adds d.window) c ∙ ap (λ (x : List (Address × ℕ)). made e.channel x d.window) a
    ∙ ap (λ (x : List Fragment). made e.channel e.adds x) w

-- the digest of a front that has a channel, with a fragment more
front_grows : (tracks : List Track) (rest : List Entry) (f : Fragment)
    → with_add (digest_of (Declare tracks ∷ rest)) (address_of f) f.duration (window_of (window_of (keeps_of rest) ++ f ∷ []))
    ≡ digest_of (Declare tracks ∷ (rest ++ Keep f ∷ []))
front_grows tracks rest f =
    let joined = keeps_join rest (Keep f ∷ []) in
    digest_is (with_add (digest_of (Declare tracks ∷ rest)) (address_of f) f.duration (window_of (window_of (keeps_of rest) ++ f ∷ []))) (digest_of (Declare tracks ∷ (rest ++ Keep f ∷ [])))
    refl (sym (ap (map told) joined ∙ map-append told (keeps_of rest) (f ∷ []))) (window_grows (keeps_of rest) f ∙ ap window_of (sym joined))

take_next : (log : List Entry) (n : ℕ) (e : Entry) → slice_get log n ≡ Some e → take (suc n) log ≡ take n log ++ e ∷ []
take_next [] n e at = absurd cc
take_next (x ∷ log) zero e at = let same : x ≡ e = cc in ap (λ (y : Entry). y ∷ []) same
take_next (x ∷ log) (suc n) e at = ap (λ (l : List Entry). x ∷ l) (take_next log n e at)

pub take_long : (log : List Entry) (n : ℕ) → n ≤ length log → length (take n log) ≡ n
take_long log zero le = refl
take_long [] (suc n) le = absurd (omega (arith, le))
take_long (x ∷ log) (suc n) le = ap suc (take_long log n (omega (arith, le)))

within : (log : List Entry) (n : ℕ) (e : Entry) → slice_get log n ≡ Some e → n < length log
within [] n e at = absurd cc
within (x ∷ log) zero e at = omega arith
within (x ∷ log) (suc n) e at = let w = within log n e at in omega (arith, w)

pub sound_take : (log : List Entry) (n : ℕ) → IsSound log → IsSound (take n log)
sound_take log n sound = sound_front (take n log) (drop n log) (subst IsSound (sym (take-append-drop n log)) sound)

new_some : (o : Option (List Track)) (adds : List Add) (a : Address) (d : ℕ) → is_new (verdict_by o adds a d) ≡ true → o ≡ None → ⊥
new_some None adds a d is none = absurd cc
new_some (Some channel) adds a d is none = absurd cc

-- what stands next behind a front that has a channel leaves the next front
grown_front : (log front : List Entry) (n : ℕ) (f : Fragment) (tracks : List Track) (rest : List Entry) → front ≡ take n log → front ≡ Declare tracks ∷ rest → slice_get log n ≡ Some (Keep f)
    → IsFront log (with_add (digest_of front) (address_of f) f.duration (window_of ((digest_of front).window ++ f ∷ [])))
grown_front log front n f tracks rest is shape at =
    let w = within log n (Keep f) at in (
      suc n,
      omega (arith, w),
      ap (λ (l : List Entry). with_add (digest_of l) (address_of f) f.duration (window_of ((digest_of l).window ++ f ∷ []))) shape
          ∙ front_grows tracks rest f ∙ ap (λ (l : List Entry). digest_of (l ++ Keep f ∷ [])) (sym shape ∙ is) ∙ ap digest_of (sym (take_next log n (Keep f) at)),
    )

place_is : (log front : List Entry) (n : ℕ) (tracks : List Track) (rest : List Entry) → n ≤ length log → front ≡ take n log → front ≡ Declare tracks ∷ rest → AreKeeps rest
    → length (digest_of front).adds + 1 ≡ n
place_is log front n tracks rest le is shape keeps =
    let long : length front ≡ n = ap length is ∙ take_long log n le in
    let shaped : length front ≡ suc (length rest) = ap length shape in
    let adds : length (digest_of front).adds ≡ length (map told (keeps_of rest)) = ap (λ (l : List Entry). length (digest_of l).adds) shape in
    let mapped = length-map (keeps_of rest) told in
    let keeps_many = keeps_long rest keeps in
    omega (arith, long, shaped, adds, mapped, keeps_many)

next_front : (log : List Entry) (n place : ℕ) (f : Fragment) → IsSound log → n ≤ length log → slice_get log place ≡ Some (Keep f)
    → is_next (digest_of (take n log)) place (address_of f) f.duration ≡ true
    → IsFront log (with_add (digest_of (take n log)) (address_of f) f.duration (window_of ((digest_of (take n log)).window ++ f ∷ [])))
next_front log n place f sound le at is =
    let d = digest_of (take n log) in
    let one = next_one d place (address_of f) f.duration is in
    elim (shape_of (take n log) (sound_take log n sound)) [
      | inl none ↦ absurd (new_some d.channel (adds_in d) (address_of f) f.duration one.new (ap channel_of none))
      | inr s ↦
          let same : place ≡ n = one.place_is ∙ place_is log (take n log) n s.0 s.1 le refl s.2 s.3 in
          grown_front log (take n log) n f s.0 s.1 refl s.2 (subst (λ (k : ℕ). slice_get log k ≡ Some (Keep f)) same at)
    ]

keep_front : (log : List Entry) (n place : ℕ) (f : Fragment) (b : Bool) → IsSound log → n ≤ length log → slice_get log place ≡ Some (Keep f)
    → is_next (digest_of (take n log)) place (address_of f) f.duration ≡ b
    → IsFront log (cond b (with_add (digest_of (take n log)) (address_of f) f.duration (window_of ((digest_of (take n log)).window ++ f ∷ []))) (digest_of (take n log)))
keep_front log n place f true sound le at is = next_front log n place f sound le at is
keep_front log n place f false sound le at is = (n, le, refl)

fill_front : (log : List Entry) (d all : Digest) (b : Bool) → IsFront log d → IsFront log all → IsFront log (cond b all d)
fill_front log d all true on of = of
fill_front log d all false on of = on

-- what stands in the log leaves the digest of a front of it
pub laid_front : (log : List Entry) (d : Digest) (op : Op) → IsSound log → IsFront log d → IsOf log op → IsFront log (laid d op)
laid_front log d (Whole all) sound on of = fill_front log d all (is_fresh d) on of
laid_front log d (Next place f) sound on of =
    subst (λ (x : Digest). IsFront log (laid x (Next place f))) (sym on.2)
    (keep_front log on.0 place f (is_next (digest_of (take on.0 log)) place (address_of f) f.duration) sound on.1 of refl)

-- ---- an entry of the log

not_among : (es : List Entry) (k : ℕ) (tracks : List Track) → AreKeeps es → slice_get es k ≡ Some (Declare tracks) → ⊥
not_among [] k tracks keeps at = absurd cc
not_among (Declare other ∷ es) k tracks keeps at = absurd keeps
not_among (Keep f ∷ es) zero tracks keeps at = absurd cc
not_among (Keep f ∷ es) (suc k) tracks keeps at = not_among es k tracks keeps at

declared_first : (log rest : List Entry) (k : ℕ) (tracks other : List Track) → log ≡ Declare other ∷ rest → AreKeeps rest → slice_get log k ≡ Some (Declare tracks) → IsFront log (declared tracks)
declared_first log rest zero tracks other is keeps at =
    let here : Declare other ≡ Declare tracks = (let got : slice_get (Declare other ∷ rest) 0 ≡ Some (Declare tracks) = subst (λ (l : List Entry). slice_get l 0 ≡ Some (Declare tracks)) is at in cc) in
    let long = ap length is in
    (1, omega (arith, long), sym (ap (λ (l : List Entry). digest_of (take 1 l)) is ∙ ap (λ (e : Entry). digest_of (e ∷ [])) here))
declared_first log rest (suc k) tracks other is keeps at =
    absurd (not_among rest k tracks keeps (subst (λ (l : List Entry). slice_get l (suc k) ≡ Some (Declare tracks)) is at))

-- what the log has at a place is an operation of it
pub entry_of : (log : List Entry) (place : ℕ) (e : Entry) → IsSound log → slice_get log place ≡ Some e → IsOf log (op_at place e)
entry_of log place (Declare tracks) sound at = elim (shape_of log sound) [
  | inl none ↦ absurd (let got : slice_get [] place ≡ Some (Declare tracks) = subst (λ (l : List Entry). slice_get l place ≡ Some (Declare tracks)) none at in cc)
  | inr s ↦ declared_first log s.1 place tracks s.0 s.2 s.3 at
]
entry_of log place (Keep f) sound at = at
