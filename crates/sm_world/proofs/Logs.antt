-- A log, by the places of its entries.
use Rattle.std.proofs.Common.{◌≡◌, ℕ, zero, suc, ◌+◌, ◌*◌, ◌<◌, List, [], ◌∷◌, ◌++◌, Some, length, take, refl, sym, ap, ◌∙◌, arith, append_assoc}
use Rattle.std.specs.Prelude.{slice_get}
use Rattle.std.proofs.lemmas.List.{take_all}
use Rattle.std.proofs.lemmas.Option.{slice_get_within, get_or_from_slice_get}
use Rattle.std.proofs.Math.Seq.{take-suc}
use Rattle.sm_model.specs.declared.entry.Entry.{Entry}
use Rattle.sm_model.specs.declared.entry.Entry.TheVariants.{Declare, Keep}
use Rattle.sm_log.specs.Logs.{channel_of}
use Rattle.sm_world.specs.Encoders.{channel, of_encoder_a, keeps, log_of, entries_after, KeepsRound}

-- one entry more
next : (log : List Entry) (n : ℕ) (e : Entry) → slice_get log n ≡ Some e → take (suc n) log ≡ take n log ++ e ∷ []
next log n e is = take-suc log n e (slice_get_within log n e is) ∙ ap (λ (x : Entry). take n log ++ x ∷ []) (get_or_from_slice_get log n e e is)

-- the entries of a round, behind those before it
round : (log : List Entry) (i : ℕ) → KeepsRound log i
    → take (3 * suc i + 1) log ≡ take (3 * i + 1) log ++ Keep (of_encoder_a i 1) ∷ Keep (of_encoder_a i 2) ∷ Keep (of_encoder_a i 3) ∷ []
round log i k =
    let fourth : 3 * suc i + 1 ≡ suc (3 * i + 3) = omega arith in
    let third : 3 * i + 3 ≡ suc (3 * i + 2) = omega arith in
    let second : 3 * i + 2 ≡ suc (3 * i + 1) = omega arith in
    let one = take (3 * i + 1) log in
    let a = Keep (of_encoder_a i 1) in
    let b = Keep (of_encoder_a i 2) in
    let c = Keep (of_encoder_a i 3) in
    let two : take (3 * i + 2) log ≡ one ++ a ∷ [] = ap (λ (n : ℕ). take n log) second ∙ next log (3 * i + 1) a k.first in
    let three : take (3 * i + 3) log ≡ (one ++ a ∷ []) ++ b ∷ [] =
    ap (λ (n : ℕ). take n log) third ∙ next log (3 * i + 2) b k.second ∙ ap (λ (l : List Entry). l ++ b ∷ []) two in
    ap (λ (n : ℕ). take n log) fourth ∙ next log (3 * i + 3) c k.third ∙ ap (λ (l : List Entry). l ++ c ∷ []) three
    ∙ append_assoc (one ++ a ∷ []) (b ∷ []) (c ∷ []) ∙ append_assoc one (a ∷ []) (b ∷ c ∷ [])

first : (log : List Entry) → channel_of log ≡ Some channel → take 1 log ≡ Declare channel ∷ []
first [] is = absurd (cc)
first (Declare tracks ∷ more) is = let same : tracks ≡ channel = cc in ap (λ (t : _). Declare t ∷ []) same
first (Keep f ∷ more) is = absurd (cc)

rounds : (log : List Entry) (n : ℕ) → channel_of log ≡ Some channel → ((j : ℕ) → j < n → KeepsRound log j) → take (3 * n + 1) log ≡ Declare channel ∷ keeps n
rounds log zero is all = first log is
rounds log (suc n) is all =
    round log n (all n (omega arith))
    ∙ ap (λ (l : List Entry). l ++ Keep (of_encoder_a n 1) ∷ Keep (of_encoder_a n 2) ∷ Keep (of_encoder_a n 3) ∷ []) (rounds log n is (λ j below. all j (omega (arith, below))))

-- a log of so many entries that are these is that log
pub is_log_of : (log : List Entry) (n : ℕ) → 0 < n → length log ≡ entries_after n → channel_of log ≡ Some channel → ((j : ℕ) → j < n → KeepsRound log j) → log ≡ log_of n
is_log_of log zero some len is all = absurd (omega (arith, some))
is_log_of log (suc n) some len is all =
    sym (take_all (3 * suc n + 1) log (omega (arith, len))) ∙ rounds log (suc n) is all

pub no_entries : (log : List Entry) → length log ≡ entries_after 0 → log ≡ log_of 0
no_entries [] is = refl
no_entries (e ∷ log) is = absurd (omega (arith, is))
