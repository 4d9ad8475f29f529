-- Texts one behind another, and how much of them has gone out.
use Rattle.std.proofs.Common.{◌≡◌, ◌+◌, ◌<◌, ◌≤◌, min, ℕ, List, [], ◌∷◌, ◌++◌, length, length-append, take, drop, Option, refl, sym, ap, subst, ◌∙◌, arith, append_assoc, append-nil}
use Rattle.std.specs.Prelude.{◌==◌, ◌^◌, zero, suc, Bool, true, false, nat_lt, slice_index_or, if◌then◌else◌, Result, Ok, Err, IfErr, OnErr}
use Rattle.std.specs.Io.KnownBytes.{Appends}
use Rattle.std.proofs.KnownBytes.{Appends-trans}
use Rattle.std.proofs.lemmas.List.{take_more, take-append-le, take_min, take-append-drop}
use Rattle.std.proofs.Math.Seq.{take-append-add}
use Rattle.sm_ends.specs.Moves.{AppendsFront}
use Rattle.sm_model.specs.declared.address.Address.{Address}
use Rattle.sm_model.specs.declared.entry.Entry.{Entry}
use Rattle.sm_model.specs.declared.fragment.Fragment.{Fragment}
use Rattle.sm_model.specs.FragText.{frag_text}
use Rattle.sm_model.specs.declared.entry.Entry.TheVariants.{Declare, Keep}
use Rattle.sm_model.specs.Same.{is_same}
use Rattle.sm_log.specs.Times.{with_entry}
use Rattle.sm_log.specs.Adds.{Add, times_from}
use Rattle.sm_log.specs.Logs.{times_in, adds_of, adds_from, IsSound}
use Rattle.sm_export.specs.Exporting.{texts_from}
use Rattle.sm_export.specs.declared.gathering.Broken.{Broken}
use Rattle.sm_export.specs.declared.gathering.Broken.TheVariants as broken
use Rattle.sm_export.specs.Gathering.{Leaves, LeavesFront}
use Rattle.sm_export.specs.Qualities.{kept_list, kept_among}
use Rattle.sm_export.specs.Reading.{WentOut}
use Rattle.sm_export.proofs.Gathered.{leaves_more, front_more, front_of_longer}

pub texts_both : (seq id : ℕ) (xs ys : List Fragment) → texts_from seq id (xs ++ ys) ≡ texts_from seq id xs ++ texts_from (seq + length xs) id ys
texts_both seq id [] ys = ap (λ (n : ℕ). texts_from n id ys) (omega arith)
texts_both seq id (x ∷ xs) ys =
    let n : (seq + 1) + length xs ≡ seq + length (x ∷ xs) = omega arith in
    ap (λ (t : List ℕ). frag_text seq id x [] ++ t) (texts_both (seq + 1) id xs ys ∙ ap (λ (m : ℕ). texts_from (seq + 1) id xs ++ texts_from m id ys) n)
    ∙ sym (append_assoc (frag_text seq id x []) (texts_from (seq + 1) id xs) (texts_from (seq + length (x ∷ xs)) id ys))

pub kept_both : (log : List Entry) (name : List ℕ) (bitrate : ℕ) (ts us : List (ℕ × ℕ)) → kept_among log name bitrate (ts ++ us) ≡ kept_among log name bitrate ts ++ kept_among log name bitrate us
kept_both log name bitrate [] us = refl
kept_both log name bitrate (t ∷ ts) us =
    let first : List Fragment = kept_list log (record { stream = name; bitrate = bitrate; time = t.0 }) in
    ap (λ (fs : List Fragment). first ++ fs) (kept_both log name bitrate ts us) ∙ sym (append_assoc first (kept_among log name bitrate ts) (kept_among log name bitrate us))

-- ---- how much has gone out

-- all of the first, and a front of the second, is a front of both and more
pub front_then : (a b c : Option (List ℕ)) (xs ys zs : List ℕ) → Appends a b xs → AppendsFront b c ys → AppendsFront a c (xs ++ (ys ++ zs))
front_then a b c xs ys zs p q =
    let n : ℕ = min q.0 (length ys) in
    (length xs + n, subst (Appends a c) (sym (took xs ys zs q.0)) (Appends-trans a b c xs (take q.0 ys) p q.1))
  where
    took : (xs ys zs : List ℕ) (k : ℕ) → take (length xs + min k (length ys)) (xs ++ (ys ++ zs)) ≡ xs ++ take k ys
    took xs ys zs k = take-append-add xs (ys ++ zs) (min k (length ys)) ∙ ap (λ (t : List ℕ). xs ++ t) (take-append-le (min k (length ys)) ys zs (omega arith) ∙ take_min k ys)

-- all of the header went out, and a front of the texts, or what the sink took of them
pub went_on : (why : Broken) (a b c : Option (List ℕ)) (xs ys : List ℕ) → Appends a b xs → AppendsFront b c ys → WentOut why a c xs ys
went_on broken.WriteFault a b c xs ys p q = subst (λ (t : List ℕ). AppendsFront a c (xs ++ t)) (append-nil ys) (front_then a b c xs ys [] p q)
went_on broken.DiskFault a b c xs ys p q = (q.0, Appends-trans a b c xs (take q.0 ys) p q.1)
went_on broken.Damaged a b c xs ys p q = (q.0, Appends-trans a b c xs (take q.0 ys) p q.1)
went_on broken.NoMemory a b c xs ys p q = (q.0, Appends-trans a b c xs (take q.0 ys) p q.1)

pub err_by : {T E : Type 0} (r : Result T E) (P : Type 0) (Q : E → Type 0) → ((e : E) → P → Q e) → OnErr r P → IfErr r Q
err_by (Ok x) P Q so h = tt
err_by (Err e) P Q so h = so e h

pub err_of : {T E : Type 0} (r : Result T E) (e : E) (P : E → Type 0) → r ≡ Err e → IfErr r P → P e
err_of {T} {E} r e P is h = subst (λ (x : Result T E). IfErr x P) is h

-- a front of the first is a front of both
pub front_of_first : (a b : Option (List ℕ)) (xs ys : List ℕ) → AppendsFront a b xs → AppendsFront a b (xs ++ ys)
front_of_first a b xs ys p = (min p.0 (length xs), subst (Appends a b) (took xs ys p.0) p.1)
  where
    took : (xs ys : List ℕ) (k : ℕ) → take k xs ≡ take (min k (length xs)) (xs ++ ys)
    took xs ys k = sym (take-append-le (min k (length xs)) xs ys (omega arith) ∙ take_min k xs)

-- ---- one address more

kept_one : (log : List Entry) (name : List ℕ) (bitrate : ℕ) (address : Address) (t : ℕ × ℕ) → address ≡ record { stream = name; bitrate = bitrate; time = t.0 }
    → kept_among log name bitrate (t ∷ []) ≡ kept_list log address
kept_one log name bitrate address t is = append-nil (kept_list log (record { stream = name; bitrate = bitrate; time = t.0 })) ∙ ap (λ (a : Address). kept_list log a) (sym is)

kept_next : (log : List Entry) (name : List ℕ) (bitrate : ℕ) (address : Address) (times : List (ℕ × ℕ)) (i : ℕ) (t : ℕ × ℕ) → i < length times → t ≡ slice_index_or times i t
    → address ≡ record { stream = name; bitrate = bitrate; time = t.0 } → kept_among log name bitrate (take (i + 1) times) ≡ kept_among log name bitrate (take i times) ++ kept_list log address
kept_next log name bitrate address times i t lt here is =
    ap (λ (ts : List (ℕ × ℕ)). kept_among log name bitrate ts) (take_more times i t lt ∙ ap (λ (u : ℕ × ℕ). take i times ++ u ∷ []) (sym here))
    ∙ (kept_both log name bitrate (take i times) (t ∷ []) ∙ ap (λ (fs : List Fragment). kept_among log name bitrate (take i times) ++ fs) (kept_one log name bitrate address t is))

texts_next : (id written : ℕ) (ks fs : List Fragment) → written ≡ length ks → texts_from 1 id (ks ++ fs) ≡ texts_from 1 id ks ++ texts_from (written + 1) id fs
texts_next id written ks fs count = texts_both 1 id ks fs ∙ ap (λ (n : ℕ). texts_from 1 id ks ++ texts_from n id fs) (omega (arith, count))

pub wrote_more : (a b c : Option (List ℕ)) (before g h : List ℕ) (log : List Entry) (name : List ℕ) (bitrate : ℕ) (address : Address) (times : List (ℕ × ℕ)) (i : ℕ) (t : ℕ × ℕ) (id written n : ℕ)
    → i < length times → t ≡ slice_index_or times i t → address ≡ record { stream = name; bitrate = bitrate; time = t.0 }
    → Leaves a b (before ++ texts_from 1 id (kept_among log name bitrate (take i times))) g → written ≡ length (kept_among log name bitrate (take i times))
    → Leaves b c (g ++ texts_from (written + 1) id (kept_list log address)) h → length (kept_list log address) ≡ n
    → Leaves a c (before ++ texts_from 1 id (kept_among log name bitrate (take (i + 1) times))) h × (written + n ≡ length (kept_among log name bitrate (take (i + 1) times)))
wrote_more a b c before g h log name bitrate address times i t id written n lt here is p count q one =
    let next = kept_next log name bitrate address times i t lt here is in
    let was : List ℕ = texts_from 1 id (kept_among log name bitrate (take i times)) in
    let more : List ℕ = texts_from (written + 1) id (kept_list log address) in
    let text : texts_from 1 id (kept_among log name bitrate (take (i + 1) times)) ≡ was ++ more =
    ap (texts_from 1 id) next ∙ texts_next id written (kept_among log name bitrate (take i times)) (kept_list log address) count in
    let len : length (kept_among log name bitrate (take (i + 1) times)) ≡ length (kept_among log name bitrate (take i times)) + length (kept_list log address) =
    ap length next ∙ length-append (kept_among log name bitrate (take i times)) (kept_list log address) in
    let all : (before ++ was) ++ more ≡ before ++ texts_from 1 id (kept_among log name bitrate (take (i + 1) times)) =
    append_assoc before was more ∙ ap (λ (l : List ℕ). before ++ l) (sym text) in (
      subst (λ (l : List ℕ). Leaves a c l h) all (leaves_more a b c (before ++ was) more g h p q),
      omega (arith, count, one, len),
    )

-- what was passed on of one text, behind all before it, is a front of all
pub wrote_part : (a b c : Option (List ℕ)) (before g h : List ℕ) (log : List Entry) (name : List ℕ) (bitrate : ℕ) (address : Address) (times : List (ℕ × ℕ)) (i : ℕ) (t : ℕ × ℕ) (id written : ℕ)
    → i < length times → t ≡ slice_index_or times i t → address ≡ record { stream = name; bitrate = bitrate; time = t.0 }
    → Leaves a b (before ++ texts_from 1 id (kept_among log name bitrate (take i times))) g → written ≡ length (kept_among log name bitrate (take i times))
    → LeavesFront b c (g ++ texts_from (written + 1) id (kept_list log address)) h → LeavesFront a c (before ++ texts_from 1 id (kept_among log name bitrate times)) h
wrote_part a b c before g h log name bitrate address times i t id written lt here is p count q =
    let ks : List Fragment = kept_among log name bitrate (take i times) in
    let fs : List Fragment = kept_list log address in
    let later : List Fragment = kept_among log name bitrate (drop (i + 1) times) in
    let all : kept_among log name bitrate times ≡ ks ++ (fs ++ later) =
    ap (λ (ts : List (ℕ × ℕ)). kept_among log name bitrate ts) (sym (take-append-drop (i + 1) times))
    ∙ (kept_both log name bitrate (take (i + 1) times) (drop (i + 1) times) ∙ (ap (λ (gs : List Fragment). gs ++ later) (kept_next log name bitrate address times i t lt here is) ∙ append_assoc ks fs later)) in
    let was : List ℕ = texts_from 1 id ks in
    let more : List ℕ = texts_from (written + 1) id fs in
    let rest : List ℕ = texts_from ((written + 1) + length fs) id later in
    let text : texts_from 1 id (kept_among log name bitrate times) ≡ was ++ (more ++ rest) =
    ap (texts_from 1 id) all ∙ (texts_next id written ks (fs ++ later) count ∙ ap (λ (x : List ℕ). was ++ x) (texts_both (written + 1) id fs later)) in
    let joined : ((before ++ was) ++ more) ++ rest ≡ before ++ texts_from 1 id (kept_among log name bitrate times) =
    append_assoc (before ++ was) more rest ∙ (append_assoc before was (more ++ rest) ∙ ap (λ (x : List ℕ). before ++ x) (sym text)) in
    subst (λ (l : List ℕ). LeavesFront a c l h) joined (front_of_longer a c ((before ++ was) ++ more) rest h (front_more a b c (before ++ was) more g h p q))

-- what stands at an index, whatever else would
pub at_any : (xs : List (ℕ × ℕ)) (i : ℕ) (d e : ℕ × ℕ) → i < length xs → slice_index_or xs i d ≡ slice_index_or xs i e
at_any [] i d e lt = absurd (omega (arith, lt))
at_any (x ∷ xs) zero d e lt = refl
at_any (x ∷ xs) (suc i) d e lt = at_any xs i d e (omega (arith, lt))

-- ---- how many times there are

with_len : (s v : ℕ) (xs : List (ℕ × ℕ)) → length (with_entry s v xs) ≤ length xs + 1
with_len s v [] = omega arith
with_len s v (x ∷ xs) = cases (with_len s v xs) (nat_lt s x.0) (x.0 == s)
  where
    cases : length (with_entry s v xs) ≤ length xs + 1 → (p q : Bool) → length (if p then (s, v) ∷ x ∷ xs else if q then x ∷ xs else x ∷ with_entry s v xs) ≤ length (x ∷ xs) + 1
    cases one true q = omega arith
    cases one false true = omega arith
    cases one false false = omega (arith, one)

times_len : (stream : List ℕ) (times : List (ℕ × ℕ)) (adds : List Add) → length (times_from stream times adds) ≤ length times + length adds
times_len stream times [] = omega arith
times_len stream times (a ∷ adds) =
    cases (is_same a.address.stream stream) (times_len stream (with_entry a.address.time a.duration times) adds) (times_len stream times adds) (with_len a.address.time a.duration times)
  where
    cases : (p : Bool) → length (times_from stream (with_entry a.address.time a.duration times) adds) ≤ length (with_entry a.address.time a.duration times) + length adds
        → length (times_from stream times adds) ≤ length times + length adds → length (with_entry a.address.time a.duration times) ≤ length times + 1
        → length (times_from stream (if p then with_entry a.address.time a.duration times else times) adds) ≤ length times + length (a ∷ adds)
    cases true more same one = omega (arith, more, one)
    cases false more same one = omega (arith, same)

adds_len : (place : ℕ) (log : List Entry) → length (adds_from place log) ≤ length log
adds_len place [] = omega arith
adds_len place (Declare tracks ∷ log) = let more = adds_len (suc place) log in omega (arith, more)
adds_len place (Keep f ∷ log) = let more = adds_len (suc place) log in omega (arith, more)

pub times_few : (log : List Entry) (stream : List ℕ) → IsSound log → length (times_in log stream) < 2 ^ 32
times_few log stream sound =
    let times = times_len stream [] (adds_of log) in
    let adds = adds_len 0 log in
    let few = sound.few in
    omega (arith, times, adds, few)
