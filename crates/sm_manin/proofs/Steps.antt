-- One element more of a text's value or of a stream's times.
use Rattle.std.proofs.Common.{◌≡◌, ℕ, zero, suc, ◌+◌, ◌*◌, ◌-◌, ◌<◌, ◌≤◌, ◌^◌, ◌++◌, None, is_some, cond, leb, ltb, ◌&&◌, append_assoc, Bool, true}
use Rattle.std.proofs.Common.{false, List, [], ◌∷◌, Option, Some, Result, Ok, Err, length, take, drop, get_or, drop-cons, refl, sym, arith, ap, ◌∙◌, add-one}
use Rattle.sm_manin.specs.declared.raw.RawTime.{RawTime}
use Rattle.std.proofs.Math.Nat.{mul-le-mul_left}
use Rattle.std.proofs.lemmas.Bool.{leb-true, and_parts}
use Rattle.std.specs.Option.{unwrap_or}
use Rattle.sm_manin.specs.RunTimes.{time_in, times_in, fault_in, with_times, or_fault, expand, start_in, duration_in, count_in, fits, checked_time, is_unsettled, unsettled_time}

fault_with : (xs : List (ℕ × ℕ)) (r : Result (List (ℕ × ℕ)) ℕ) → fault_in (with_times xs r) ≡ fault_in r
fault_with xs (Ok more) = refl
fault_with xs (Err at) = refl

whole : (n : ℕ) (xs : List RawTime) → length xs ≤ n → take n xs ≡ xs
whole zero [] l = refl
whole (suc n) [] l = refl
whole zero (x ∷ xs) l = absurd (omega arith)
whole (suc n) (x ∷ xs) l = ap (λ (ys : List RawTime). x ∷ ys) (whole n xs (omega arith))

rest : (n k : ℕ) (xs : List RawTime) → length xs ≤ n + k → take n (drop k xs) ≡ drop k xs
rest n zero xs l = whole n xs (omega arith)
rest n (suc k) [] l = whole n [] (omega arith)
rest n (suc k) (x ∷ xs) l = rest n k xs (omega arith)

cons_at : (cs : List RawTime) (i : ℕ) (c : RawTime) → i < length cs → drop i cs ≡ get_or cs i c ∷ drop (i + 1) cs
cons_at cs i c l = rw add-one (drop-cons cs i c l)

head_time : (o : Bool) (end count : ℕ) (c : RawTime) (cs : List RawTime) (start d r : ℕ) → time_in o end count c cs ≡ Some (start, d, r)
    → fault_in (times_in o end count (c ∷ cs)) ≡ fault_in (times_in o (start + d * r) (count + r) cs)
head_time o end count c cs start d r e =
    ap (λ (t : Option (ℕ × ℕ × ℕ)). fault_in (or_fault c.at t (λ x. with_times (expand x.0 x.1 x.2) (times_in o (x.0 + x.1 * x.2) (count + x.2) cs)))) e ∙ fault_with (expand start d r) _

-- one `c` more
pub time_more : (o : Bool) (end count i : ℕ) (cs : List RawTime) (c : RawTime) (start d r : ℕ) → i < length cs → c ≡ get_or cs i c → time_in o end count c (take (length cs - (i + 1)) (drop (i + 1) cs)) ≡ Some (start, d, r)
    → fault_in (times_in o end count (drop i cs)) ≡ fault_in (times_in o (start + d * r) (count + r) (drop (i + 1) cs))
time_more o end count i cs c start d r within is e =
    rw (cons_at cs i c within, ← is) (head_time o end count c (drop (i + 1) cs) start d r (ap (λ (ys : List RawTime). time_in o end count c ys) (sym (rest (length cs - (i + 1)) (i + 1) cs (omega arith))) ∙ e))

-- ---- the times themselves

with_both : (xs ys : List (ℕ × ℕ)) (r : Result (List (ℕ × ℕ)) ℕ) → with_times xs (with_times ys r) ≡ with_times (xs ++ ys) r
with_both xs ys (Ok more) = ap Ok (sym (append_assoc xs ys more))
with_both xs ys (Err at) = refl

-- one `c` more, with the times that it stands for
pub times_more : (o : Bool) (end count i : ℕ) (cs : List RawTime) (c : RawTime) (start d r : ℕ) (all : List (ℕ × ℕ)) → i < length cs → c ≡ get_or cs i c
    → time_in o end count c (take (length cs - (i + 1)) (drop (i + 1) cs)) ≡ Some (start, d, r)
    → with_times (all ++ expand start d r) (times_in o (start + d * r) (count + r) (drop (i + 1) cs)) ≡ with_times all (times_in o end count (drop i cs))
times_more o end count i cs c start d r all within is e =
    let behind = drop (i + 1) cs in
    let e' : time_in o end count c behind ≡ Some (start, d, r) = ap (λ (ys : List RawTime). time_in o end count c ys) (sym (rest (length cs - (i + 1)) (i + 1) cs (omega arith))) ∙ e in
    let head : times_in o end count (c ∷ behind) ≡ with_times (expand start d r) (times_in o (start + d * r) (count + r) behind) =
    ap (λ (t : Option (ℕ × ℕ × ℕ)). or_fault c.at t (λ x. with_times (expand x.0 x.1 x.2) (times_in o (x.0 + x.1 * x.2) (count + x.2) behind))) e' in
    let whole' : drop i cs ≡ c ∷ behind = cons_at cs i c within ∙ ap (λ (x : RawTime). x ∷ behind) (sym is) in
    sym (with_both all (expand start d r) _) ∙ ap (with_times all) (sym head) ∙ ap (λ (ys : List RawTime). with_times all (times_in o end count ys)) (sym whole')

-- a `c` at fault
pub times_at_fault : (o : Bool) (end count i : ℕ) (cs : List RawTime) (c : RawTime) (all : List (ℕ × ℕ)) → i < length cs → c ≡ get_or cs i c → time_in o end count c (take (length cs - (i + 1)) (drop (i + 1) cs)) ≡ None
    → with_times all (times_in o end count (drop i cs)) ≡ Err c.at
times_at_fault o end count i cs c all within is e =
    let behind = drop (i + 1) cs in
    let e' : time_in o end count c behind ≡ None = ap (λ (ys : List RawTime). time_in o end count c ys) (sym (rest (length cs - (i + 1)) (i + 1) cs (omega arith))) ∙ e in
    let head : times_in o end count (c ∷ behind) ≡ Err c.at =
    ap (λ (t : Option (ℕ × ℕ × ℕ)). or_fault c.at t (λ x. with_times (expand x.0 x.1 x.2) (times_in o (x.0 + x.1 * x.2) (count + x.2) behind))) e' in
    let whole' : drop i cs ≡ c ∷ behind = cons_at cs i c within ∙ ap (λ (x : RawTime). x ∷ behind) (sym is) in
    ap (λ (ys : List RawTime). with_times all (times_in o end count ys)) whole' ∙ ap (with_times all) head

-- ---- a run

run_left : (start d k r : ℕ) → k < r → expand start d (r - k) ≡ (start, d) ∷ expand (start + d) d (r - (k + 1))
run_left start d k r h = let more : r - k ≡ suc (r - (k + 1)) = omega (arith, h) in rw more refl

pub run_more : (all : List (ℕ × ℕ)) (start d k r : ℕ) → k < r → (all ++ (start, d) ∷ []) ++ expand (start + d) d (r - (k + 1)) ≡ all ++ expand start d (r - k)
run_more all start d k r h = append_assoc all ((start, d) ∷ []) _ ∙ ap (λ (ys : List (ℕ × ℕ)). all ++ ys) (sym (run_left start d k r h))

pub next_start : (start d k : ℕ) → (start + d * k) + d ≡ start + d * (k + 1)
next_start start d k = omega arith

pub run_fits : (start d k r : ℕ) → k < r → start + d * r < 2 ^ 64 → (start + d * k) + d < 2 ^ 64
run_fits start d k r h fits =
    let less : k + 1 ≤ r = omega (arith, h) in
    let most : d * (k + 1) ≤ d * r = mul-le-mul_left d less in
    omega (arith, fits, most)

-- ---- the count fits

third : Option (ℕ × ℕ × ℕ) → ℕ
third None = 0
third (Some x) = x.2

unsettled_count : (end count : ℕ) (start r : Option ℕ) (x : ℕ × ℕ × ℕ) → count < 2 ^ 64 → unsettled_time end start r ≡ Some x → count + x.2 < 2 ^ 64
unfolding third
unsettled_count end count None r x h e = absurd cc
unsettled_count end count (Some a) None x h e = absurd cc
unsettled_count end count (Some a) (Some b) x h e = by_test (leb end a) e
  where
    by_test : (t : Bool) → cond t (Some (a, 0, 0)) None ≡ Some x → count + x.2 < 2 ^ 64
    by_test true e = let none : 0 ≡ x.2 = ap third e in omega (arith, none, h)
    by_test false e = absurd cc

fourth : (a b c d : Bool) → (a && (b && (c && d))) ≡ true → d ≡ true
fourth a b c d e = (and_parts c d (and_parts b (c && d) (and_parts a (b && (c && d)) e).1).1).1

checked_times : (end count : ℕ) (start d r : Option ℕ) (x : ℕ × ℕ × ℕ) → checked_time end count start d r ≡ Some x → count + x.2 ≤ 262144
unfolding third
checked_times end count None d r x e = absurd cc
checked_times end count (Some a) None r x e = absurd cc
checked_times end count (Some a) (Some b) None x e = absurd cc
checked_times end count (Some a) (Some b) (Some n) x e = by_test (fits end count a b n) refl e
  where
    by_test : (t : Bool) → fits end count a b n ≡ t → cond t (Some (a, b, n)) None ≡ Some x → count + x.2 ≤ 262144
    by_test true is e =
        let few : count + n ≤ 262144 = leb-true (count + n) 262144 (fourth (ltb 0 b) (leb end a) (ltb (a + b * n) 9223372036854775808) (leb (count + n) 262144) is) in
        let same : n ≡ x.2 = ap third e in
        omega (arith, few, same)
    by_test false is e = absurd cc

-- so many times and those of one `c` more
pub count_fits : (o : Bool) (end count : ℕ) (c : RawTime) (cs : List RawTime) (x : ℕ × ℕ × ℕ) → count < 2 ^ 64 → time_in o end count c cs ≡ Some x → count + x.2 < 2 ^ 64
count_fits o end count c cs x h e = by_test (is_unsettled o (unwrap_or (start_in end c.t) 0) c.d cs) e
  where
    by_test : (t : Bool)
        → cond t (unsettled_time end (start_in end c.t) (count_in (is_some c.d) c.r)) (checked_time end count (start_in end c.t) (duration_in (unwrap_or (start_in end c.t) 0) c.d cs) (count_in (is_some c.d) c.r)) ≡ Some x
        → count + x.2 < 2 ^ 64
    by_test true e = unsettled_count end count (start_in end c.t) (count_in (is_some c.d) c.r) x h e
    by_test false e =
        let few = checked_times end count (start_in end c.t) (duration_in (unwrap_or (start_in end c.t) 0) c.d cs) (count_in (is_some c.d) c.r) x e in
        omega (arith, few)
