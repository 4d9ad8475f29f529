-- A log whose Keeps stand at their places in another, under the same channel, is a front of it.
use Rattle.std.proofs.Common.{◌≡◌, ◌<◌, ℕ, zero, suc, List, [], ◌∷◌, ◌++◌, length, length-append, slice_get, Option, Some, None, refl, ap, sym, ◌∙◌, subst, append_assoc, arith}
use Rattle.sm_model.specs.declared.entry.Entry.{Entry}
use Rattle.sm_model.specs.declared.entry.Entry.TheVariants.{Declare, Keep}
use Rattle.sm_model.specs.declared.fragment.Fragment.{Fragment}
use Rattle.sm_model.specs.declared.track.Track.{Track}
use Rattle.sm_log.specs.declared.verdict.Judged.TheVariants.{New}
use Rattle.sm_log.specs.Logs.{channel_of, verdict_on, FitsBehind, IsSound}
use Rattle.sm_pull.specs.Adds.{keeps_of}
use Rattle.sm_pull.specs.Below.{Places}
use Rattle.sm_pull.proofs.Disks.{log_both}
use Rattle.sm_standby.specs.Served.{IsFront}

some_same : {X : Type 0} (a b : X) → Some a ≡ Some b → a ≡ b
some_same a b e = cc

-- ---- a channel, and Keeps

pub record IsLogOf (channel : List Track) (log : List Entry) : Type 0 where
  pub fragments : List Fragment
  pub is : log ≡ Declare channel ∷ keeps_of fragments

rest_keeps : (log front rest : List Entry) → IsSound log → log ≡ front ++ rest → 0 < length front → (fs : List Fragment) × (rest ≡ keeps_of fs)
rest_keeps log front [] sound is some = ([], refl)
rest_keeps log front (Declare tracks ∷ more) sound is some =
    let fits : FitsBehind front (Declare tracks) = sound.each front more (Declare tracks) is in
    absurd (let none = ap length fits.0 in omega (arith, none, some))
rest_keeps log front (Keep f ∷ more) sound is some =
    let long = length-append front (Keep f ∷ []) in
    let r = rest_keeps log (front ++ Keep f ∷ []) more sound (is ∙ sym (append_assoc front (Keep f ∷ []) more)) (omega (arith, long)) in
    (f ∷ r.0, ap (λ (es : List Entry). Keep f ∷ es) r.1)

pub log_of : (log : List Entry) (channel : List Track) → IsSound log → channel_of log ≡ Some channel → IsLogOf channel log
log_of [] channel sound e = absurd (cc)
log_of (Keep f ∷ more) channel sound e = absurd (cc)
log_of (Declare tracks ∷ more) channel sound e =
    let r = rest_keeps (Declare tracks ∷ more) (Declare tracks ∷ []) more sound refl (omega arith) in
    record { fragments = r.0; is = ap (λ (es : List Entry). Declare tracks ∷ es) r.1 ∙ ap (λ (ts : List Track). Declare ts ∷ keeps_of r.0) (some_same tracks channel e) }

pub log_more : (channel : List Track) (log : List Entry) (fs : List Fragment) → IsLogOf channel log → IsLogOf channel (log ++ keeps_of fs)
log_more channel log fs l = record { fragments = l.fragments ++ fs; is = ap (λ (es : List Entry). es ++ keeps_of fs) l.is ∙ log_both (Declare channel ∷ []) l.fragments fs }

pub log_some : (channel : List Track) (log : List Entry) → IsLogOf channel log → 0 < length log
log_some channel log l = let e = ap length l.is in omega (arith, e)

-- ---- fronts

front_of : (xs ys : List Entry) → ((p : ℕ) (e : Entry) → slice_get xs p ≡ Some e → slice_get ys p ≡ Some e) → IsFront xs ys
front_of [] ys all = (ys, refl)
front_of (x ∷ xs) [] all = absurd (let e = all 0 x refl in no_entry x e)
  where
    no_entry : (y : Entry) → ◌≡◌ {A = Option Entry} None (Some y) → ⊥
    no_entry y e = cc
front_of (x ∷ xs) (y ∷ ys) all =
    let same : y ≡ x = some_same y x (all 0 x refl) in
    let r = front_of xs ys (λ p e h. all (suc p) e h) in
    (r.0, ap (λ (z : Entry). z ∷ ys) same ∙ ap (λ (zs : List Entry). x ∷ zs) r.1)

is_keep : (fs : List Fragment) (q : ℕ) (e : Entry) → slice_get (keeps_of fs) q ≡ Some e → (f : Fragment) × (e ≡ Keep f)
is_keep [] q e h = absurd (cc)
is_keep (f ∷ fs) zero e h = (f, sym (some_same (Keep f) e h))
is_keep (f ∷ fs) (suc q) e h = is_keep fs q e h

head_is : (channel : List Track) (up : List Entry) → channel_of up ≡ Some channel → slice_get up 0 ≡ Some (Declare channel)
head_is channel [] e = absurd (cc)
head_is channel (Keep f ∷ more) e = absurd (cc)
head_is channel (Declare tracks ∷ more) e = ap (λ (ts : List Track). Some (Declare ts)) (some_same tracks channel e)

agrees : (channel : List Track) (fs : List Fragment) (up : List Entry) → channel_of up ≡ Some channel → Places (Declare channel ∷ keeps_of fs) up → (p : ℕ) (e : Entry)
    → slice_get (Declare channel ∷ keeps_of fs) p ≡ Some e → slice_get up p ≡ Some e
agrees channel fs up is all zero e h = head_is channel up is ∙ h
agrees channel fs up is all (suc q) e h =
    let k = is_keep fs q e h in
    all (suc q) k.0 (h ∙ ap (λ (x : Entry). Some x) k.1) ∙ ap (λ (x : Entry). Some x) (sym k.1)

pub is_front : (channel : List Track) (log up : List Entry) → IsLogOf channel log → channel_of up ≡ Some channel → Places log up → IsFront log up
is_front channel log up l is all =
    subst (λ (es : List Entry). IsFront es up) (sym l.is)
    (front_of (Declare channel ∷ keeps_of l.fragments) up (agrees channel l.fragments up is (subst (λ (es : List Entry). Places es up) l.is all)))

channel_more : (log more : List Entry) (channel : List Track) → channel_of log ≡ Some channel → channel_of (log ++ more) ≡ Some channel
channel_more [] more channel e = absurd (cc)
channel_more (Declare tracks ∷ log) more channel e = e
channel_more (Keep f ∷ log) more channel e = absurd (cc)

pub channel_on : (log more up : List Entry) (channel : List Track) → up ≡ log ++ more → channel_of log ≡ Some channel → channel_of up ≡ Some channel
channel_on log more up channel is e = subst (λ (l : List Entry). channel_of l ≡ Some channel) (sym is) (channel_more log more channel e)

-- ---- what stands behind a front

behind_front : (xs ys : List Entry) (e : Entry) → slice_get (xs ++ ys) (length xs) ≡ Some e → (back : List Entry) × (ys ≡ e ∷ back)
behind_front [] [] e h = absurd (cc)
behind_front [] (y ∷ ys) e h = (ys, ap (λ (x : Entry). x ∷ ys) (some_same y e h))
behind_front (x ∷ xs) ys e h = behind_front xs ys e h

-- what a sound log has behind a front of it was new there
pub new_behind : (log up : List Entry) (n : ℕ) (f : Fragment) → IsSound up → IsFront log up → n ≡ length log → slice_get up n ≡ Some (Keep f) → verdict_on log f ≡ New
new_behind log up n f sound front at h =
    let there : slice_get (log ++ front.0) (length log) ≡ Some (Keep f) = ap (λ (i : ℕ). slice_get (log ++ front.0) i) (sym at) ∙ (ap (λ (l : List Entry). slice_get l n) (sym front.1) ∙ h) in
    let b = behind_front log front.0 (Keep f) there in
    (sound.each log b.0 (Keep f) (front.1 ∙ ap (λ (es : List Entry). log ++ es) b.1)).1
