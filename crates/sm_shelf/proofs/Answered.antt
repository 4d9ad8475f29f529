-- What the digest of a sound log answers.
use Rattle.std.proofs.Common.{◌≡◌, ◌≢◌, ◌+◌, inl, inr, ℕ, zero, suc, true, is_some, Option, IsSome, Some, None, List, [], ◌∷◌, ◌++◌, length, map, refl, sym, ap, subst, ◌∙◌, append-nil, arith}
use Rattle.std.proofs.lemmas.List.{length-append, length-map}
use Rattle.std.specs.List.{slice_get}
use Rattle.sm_model.specs.declared.address.Address.{Address}
use Rattle.sm_model.specs.declared.act.Act.{Act}
use Rattle.sm_model.specs.declared.act.Act.TheVariants.{Manifest, Fragment as Ask, Unknown, Header, Frag, End, Refuse}
use Rattle.sm_model.specs.declared.entry.Entry.{Entry}
use Rattle.sm_model.specs.declared.entry.Entry.TheVariants.{Declare, Keep}
use Rattle.sm_model.specs.declared.fragment.Fragment.{Fragment}
use Rattle.sm_model.specs.declared.track.Track.{Track}
use Rattle.sm_model.specs.Entries.{address_of}
use Rattle.sm_log.specs.Times.{entry_at}
use Rattle.sm_log.specs.Adds.{Add, times_of, behind, id_in, is_declared, listed}
use Rattle.sm_log.specs.Logs.{channel_of, adds_from, adds_of, kept_at, listed_by, listed_in, IsSound}
use Rattle.sm_log.specs.Digests.{Digest, Extends, digest_of, keeps_of, window_of}
use Rattle.sm_log.proofs.AllLogs.{kept_once, sound_front}
use Rattle.sm_model.specs.FragText.{frag_text}
use Rattle.sm_head.specs.declared.reply.Content.TheVariants.{Xml, Mp4}
use Rattle.sm_reply.specs.declared.reply.Reply.{Reply}
use Rattle.sm_reply.specs.Replies.{ok, manifest_with, manifest_reply, fragment_reply, kept_reply, reply_of}
use Rattle.sm_shelf.specs.Parts.{placed}
use Rattle.sm_shelf.specs.Laying.{adds_in}
use Rattle.sm_shelf.specs.Shown.{IsHeld, IsReplyTo, ahead_by, id_by, lists}
use Rattle.sm_shelf.proofs.Fronts.{AreKeeps, shape_of, told}
use Rattle.sm_shelf.proofs.Windows.{window_behind}
use Rattle.sm_shelf.proofs.Places.{get_behind}

-- ---- what was added

pub rest_placed : (p : ℕ) (es : List Entry) → AreKeeps es → placed p (map told (keeps_of es)) ≡ adds_from p es
rest_placed p [] k = refl
rest_placed p (Declare tracks ∷ es) k = absurd k
rest_placed p (Keep f ∷ es) k = ap (λ (l : List Add). (record { address = address_of f; duration = f.duration; place = p }) ∷ l) (rest_placed (suc p) es k)

pub adds_are : (log : List Entry) → IsSound log → adds_in (digest_of log) ≡ adds_of log
adds_are log sound = elim (shape_of log sound) [
  | inl none ↦ subst (λ (l : List Entry). adds_in (digest_of l) ≡ adds_of l) (sym none) refl
  | inr s ↦ subst (λ (l : List Entry). adds_in (digest_of l) ≡ adds_of l) (sym s.2) (rest_placed 1 s.1 s.3)
]

-- ---- what is in the window

pub get_entry : (es : List Entry) (i : ℕ) (f : Fragment) → AreKeeps es → slice_get (keeps_of es) i ≡ Some f → (front : List Entry) × (back : List Entry) × (es ≡ front ++ Keep f ∷ back) × (length front ≡ i)
get_entry [] i f k at = absurd cc
get_entry (Declare tracks ∷ es) i f k at = absurd k
get_entry (Keep g ∷ es) zero f k at = let same : g ≡ f = cc in ([], es, ap (λ (h : Fragment). Keep h ∷ es) same, refl)
get_entry (Keep g ∷ es) (suc i) f k at =
    let more = get_entry es i f k at in
    (Keep g ∷ more.0, more.1, ap (λ (l : List Entry). Keep g ∷ l) more.2, ap suc more.3)

pub kept_here : (log front back : List Entry) (f : Fragment) (a : Address) (place : ℕ) → IsSound log → log ≡ front ++ Keep f ∷ back → address_of f ≡ a → length front ≡ place
    → kept_at log a ≡ Some (place, f)
kept_here log front back f a place sound is at long =
    ap (λ (l : List Entry). kept_at l a) is ∙ ap (kept_at (front ++ Keep f ∷ back)) (sym at) ∙ kept_once front back f (subst IsSound is sound) ∙ ap (λ (n : ℕ). Some (n, f)) long

pub held_is_kept : (log : List Entry) (a : Address) (place : ℕ) (f : Fragment) → IsSound log → IsHeld (digest_of log) a place f → kept_at log a ≡ Some (place, f)
held_is_kept log a place f sound held =
    let behind = window_behind (keeps_of log) in
    let long : length (keeps_of log) ≡ length behind.0 + length (window_of (keeps_of log)) = ap length behind.1 ∙ length-append behind.0 (window_of (keeps_of log)) in
    let mapped = length-map (keeps_of log) told in
    let got : slice_get (keeps_of log) (length behind.0 + held.index) ≡ Some f =
    ap (λ (l : List Fragment). slice_get l (length behind.0 + held.index)) behind.1 ∙ get_behind behind.0 (window_of (keeps_of log)) held.index f held.at in
    let here : place ≡ suc (length behind.0 + held.index) = omega (arith, long, mapped, held.place_is) in
    elim (shape_of log sound) [
      | inl none ↦ absurd (no_get held.index f (subst (λ (l : List Entry). slice_get (window_of (keeps_of l)) held.index ≡ Some f) none held.at))
      | inr s ↦
          let at = get_entry s.1 (length behind.0 + held.index) f s.3 (subst (λ (l : List Entry). slice_get (keeps_of l) (length behind.0 + held.index) ≡ Some f) s.2 got) in
          kept_here log (Declare s.0 ∷ at.0) at.1 f a place sound (s.2 ∙ ap (λ (l : List Entry). Declare s.0 ∷ l) at.2) held.address (ap suc at.3 ∙ sym here)
    ]
  where
    no_get : (i : ℕ) (g : Fragment) → slice_get [] i ≡ Some g → ⊥
    no_get i g at = absurd cc

-- ---- as many

pub same_channel : (d older : Digest) → Extends d older → older.channel ≢ None → d.channel ≡ older.channel
same_channel d older on some = elim on.channel [ inl none ↦ absurd (some none) | inr same ↦ same ]

no_more : (xs more : List (Address × ℕ)) → length (xs ++ more) ≡ length xs → more ≡ []
no_more xs [] long = refl
no_more xs (m ∷ ms) long = absurd (let all = length-append xs (m ∷ ms) in omega (arith, long, all))

pub same_adds : (d older : Digest) → Extends d older → length d.adds ≡ length older.adds → d.adds ≡ older.adds
same_adds d older on long =
    let none = no_more older.adds on.adds.0 (ap length (sym on.adds.1) ∙ long) in
    on.adds.1 ∙ ap (λ (l : List (Address × ℕ)). older.adds ++ l) none ∙ append-nil older.adds

-- ---- replies

lists_is : (o : Option (List Track)) (log : List Entry) (adds : List Add) → adds ≡ adds_of log → lists o adds ≡ manifest_reply o log
lists_is None log adds is = refl
lists_is (Some channel) log adds is = ap (λ (l : List Add). ok Xml (manifest_with channel l)) is

gives_is : (o : Option (List Track)) (log : List Entry) (adds : List Add) (a : Address) (place : ℕ) (f : Fragment) → channel_of log ≡ o → adds ≡ adds_of log
    → kept_at log a ≡ Some (place, f) → o ≢ None → ok Mp4 (frag_text place (id_by o a) f (ahead_by o adds a)) ≡ fragment_reply o log a
gives_is None log adds a place f channel is kept some = absurd (some refl)
gives_is (Some channel) log adds a place f same is kept some =
    ap (λ (l : List Add). ok Mp4 (frag_text place (id_in channel a) f (behind (listed_by (Some channel) l a.stream) a.time (entry_at a.time (times_of a.stream l))))) is
    ∙ ap (λ (o : Option (List Track)). ok Mp4 (frag_text place (id_in channel a) f (behind (listed_by o (adds_of log) a.stream) a.time (entry_at a.time (times_of a.stream (adds_of log)))))) (sym same)
    ∙ sym (ap (kept_reply channel log a) kept)

declared_where_kept : (log : List Entry) (a : Address) (place : ℕ) (f : Fragment) → IsSound log → kept_at log a ≡ Some (place, f) → channel_of log ≢ None
declared_where_kept log a place f sound kept none = elim (shape_of log sound) [
  | inl empty ↦ (let got : kept_at [] a ≡ Some (place, f) = subst (λ (l : List Entry). kept_at l a ≡ Some (place, f)) empty kept in cc)
  | inr s ↦ (let got : channel_of (Declare s.0 ∷ s.1) ≡ None = subst (λ (l : List Entry). channel_of l ≡ None) s.2 none in cc)
]

pub reply_is : (log : List Entry) (act : Act) (text : List ℕ) → IsSound log → IsReplyTo (digest_of log) act text → text ≡ (reply_of log act).bytes
reply_is log Manifest text sound is = is ∙ ap (λ (r : Reply). r.bytes) (lists_is (channel_of log) log (adds_in (digest_of log)) (adds_are log sound))
reply_is log (Ask a) text sound is =
    let kept = held_is_kept log a is.place is.fragment sound is.held in
    is.text_is ∙ ap (λ (r : Reply). r.bytes) (gives_is (channel_of log) log (adds_in (digest_of log)) a is.place is.fragment refl (adds_are log sound) kept (declared_where_kept log a is.place is.fragment sound kept))
reply_is log Unknown text sound is = absurd is
reply_is log (Header header) text sound is = absurd is
reply_is log (Frag f) text sound is = absurd is
reply_is log (End kept known) text sound is = absurd is
reply_is log (Refuse r) text sound is = absurd is

-- ---- what is shown is kept

-- what was added of a digest is the front of what was added of one that goes on from it
placed_join : (p : ℕ) (xs ys : List (Address × ℕ)) → placed p (xs ++ ys) ≡ placed p xs ++ placed (p + length xs) ys
placed_join p [] ys = ap (λ (n : ℕ). placed n ys) (let same : p ≡ p + 0 = omega arith in same)
placed_join p (x ∷ xs) ys =
    let same : suc p + length xs ≡ p + suc (length xs) = omega arith in
    ap (λ (l : List Add). (record { address = x.0; duration = x.1; place = p }) ∷ l) (placed_join (suc p) xs ys ∙ ap (λ (n : ℕ). placed (suc p) xs ++ placed n ys) same)

time_of : (o : Option ℕ) → is_some o ≡ true → (n : ℕ) × (o ≡ Some n)
time_of None is = absurd cc
time_of (Some n) is = (n, refl)

kept_of : (o : Option (ℕ × Fragment)) → IsSome o → (k : ℕ × Fragment) × (o ≡ Some k)
kept_of None is = absurd cc
kept_of (Some k) is = (k, refl)

pub shown_is_kept : (log more : List Entry) (d : Digest) (channel : List Track) (a : Address) → IsSound (log ++ more) → Extends (digest_of log) d → d.channel ≡ Some channel
    → is_declared channel a ≡ true → is_some (entry_at a.time (listed channel (adds_in d) a.stream)) ≡ true
    → ((c : List Track) (adds rest : List Add) (s : List ℕ) (t n : ℕ) → entry_at t (listed c adds s) ≡ Some n → entry_at t (listed c (adds ++ rest) s) ≡ Some n)
    → ((l : List Entry) (c : List Track) (b : Address) → channel_of l ≡ Some c → is_declared c b ≡ true → is_some (entry_at b.time (listed_in l b.stream)) ≡ true → IsSome (kept_at l b))
    → ((l rest : List Entry) (b : Address) (k : ℕ × Fragment) → kept_at l b ≡ Some k → kept_at (l ++ rest) b ≡ Some k) → IsSome (kept_at (log ++ more) a)
shown_is_kept log more d channel a sound on some declared listed_there stay kept_where stays =
    let front = sound_front log more sound in
    let same : channel_of log ≡ Some channel = same_channel (digest_of log) d on (λ none. let both : Some channel ≡ None = sym some ∙ none in cc) ∙ some in
    let time = time_of (entry_at a.time (listed channel (adds_in d) a.stream)) listed_there in
    let joined : adds_of log ≡ adds_in d ++ placed (1 + length d.adds) on.adds.0 = sym (adds_are log front) ∙ ap (placed 1) on.adds.1 ∙ placed_join 1 d.adds on.adds.0 in
    let still : entry_at a.time (listed channel (adds_of log) a.stream) ≡ Some time.0 =
    ap (λ (l : List Add). entry_at a.time (listed channel l a.stream)) joined ∙ stay channel (adds_in d) (placed (1 + length d.adds) on.adds.0) a.stream a.time time.0 time.1 in
    let is_listed : entry_at a.time (listed_in log a.stream) ≡ Some time.0 = ap (λ (o : Option (List Track)). entry_at a.time (listed_by o (adds_of log) a.stream)) same ∙ still in
    let kept = kept_of (kept_at log a) (kept_where log channel a same declared (ap is_some is_listed)) in
    subst (λ (o : Option (ℕ × Fragment)). IsSome o) (sym (stays log more a kept.0 kept.1)) refl
