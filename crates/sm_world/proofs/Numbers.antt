-- What the exchanges of a client of a rehearsal and its fragments come to.
use Rattle.std.proofs.Common.{◌≡◌, ℕ, zero, suc, ◌+◌, ◌*◌, ◌%◌, ◌==◌, ◌<◌, ◌≤◌, ⊎_elim, Bool, true, false, List, [], ◌∷◌, ◌++◌, length, refl, sym, ap, ◌∙◌, subst, arith, append-nil}
use Rattle.std.specs.Prelude.{Contains, ◌||◌}
use Rattle.std.proofs.Math.Bool.{or-false}
use Rattle.std.proofs.lemmas.Bool.{ne_eqb, eq-eqb}
use Rattle.std.proofs.lemmas.Bool.Decides.{eqb_tells}
use Rattle.std.proofs.lemmas.List.{length-append}
use Rattle.std.proofs.lemmas.List.Elements.{Contains-append_cases}
use Rattle.std.proofs.lemmas.List.Folds.{list_any-append}
use Rattle.sm_model.specs.declared.entry.Entry.{Entry}
use Rattle.sm_model.specs.declared.entry.Entry.TheVariants.{Keep}
use Rattle.sm_model.specs.declared.fragment.Fragment.{Fragment}
use Rattle.sm_fetch.specs.declared.dial.Exchange.{Exchange}
use Rattle.sm_site.specs.Faults.{is_listed}
use Rattle.sm_site.specs.Meanings.{View}
use Rattle.sm_client.specs.Plays.{Gapless}
use Rattle.sm_client.specs.Served.{AreIn}
use Rattle.sm_client.specs.Stands.{Piece}
use Rattle.sm_world.specs.Answering.{answer_for}
use Rattle.sm_world.specs.Clients.{AreDue, CameBy, DueBy, HaveCome}
use Rattle.sm_world.specs.declared.acted.Acted.{Acted}
use Rattle.sm_world.specs.declared.acted.Acted.TheVariants as acted
use Rattle.sm_world.specs.Encoders.{of_encoder_a, keeps, log_of, entries_after}
use Rattle.sm_world.specs.Numbered.{AreByNumber}
use Rattle.sm_world.specs.Saying.{IsSaidBetween, TellsOn}
use Rattle.sm_world.specs.Went.{CameOf}
use Rattle.sm_world.specs.Wider.{came_between, said_between}
use Rattle.sm_world.proofs.Sources.{in_none}

-- ---- multiples

-- those below are listed where they are multiples, and none from there on
abbrev pub Multiples : ℕ → ℕ → List ℕ → Type 0
Multiples of next xs = ((n : ℕ) → 0 < n → n < next → is_listed n xs ≡ (n % of == 0)) × ((n : ℕ) → next ≤ n → is_listed n xs ≡ false)

listed_push : (n k : ℕ) (xs : List ℕ) → is_listed n (xs ++ k ∷ []) ≡ (is_listed n xs || (k == n))
listed_push n k xs = list_any-append (λ x. x == n) xs (k ∷ []) ∙ ap (λ (b : Bool). is_listed n xs || b) (or-false (k == n))

listed_other : (n k : ℕ) (xs : List ℕ) → (k ≡ n → ⊥) → is_listed n (xs ++ k ∷ []) ≡ is_listed n xs
listed_other n k xs other = listed_push n k xs ∙ ap (λ (b : Bool). is_listed n xs || b) (ne_eqb k n other) ∙ or-false (is_listed n xs)

listed_here : (n : ℕ) (xs : List ℕ) → is_listed n xs ≡ false → is_listed n (xs ++ n ∷ []) ≡ true
listed_here n xs none = listed_push n n xs ∙ ap (λ (b : Bool). b || (n == n)) none ∙ eq-eqb n n refl

pub multiple_more : (of k : ℕ) (xs : List ℕ) → (k % of == 0) ≡ true → Multiples of k xs → Multiples of (k + 1) (xs ++ k ∷ [])
multiple_more of k xs is m = (
  λ n some below. ⊎_elim
      (λ same. let here = listed_here k xs (m.1 k (omega arith)) in let e : k ≡ n = same.1 in subst (λ (j : ℕ). is_listed j (xs ++ k ∷ []) ≡ (j % of == 0)) e (here ∙ sym is))
      (λ other. listed_other n k xs other.1 ∙ m.0 n some (let ne = other.1 in omega (arith, ne, below)))
      (eqb_tells k n),
  λ n from. listed_other n k xs (λ same. absurd (omega (arith, same, from))) ∙ m.1 n (omega (arith, from)),
)

pub multiple_not : (of k : ℕ) (xs : List ℕ) → (k % of == 0) ≡ false → Multiples of k xs → Multiples of (k + 1) xs
multiple_not of k xs is m = (
  λ n some below. ⊎_elim
      (λ same. let e : k ≡ n = same.1 in subst (λ (j : ℕ). is_listed j xs ≡ (j % of == 0)) e (m.1 k (omega arith) ∙ sym is))
      (λ other. m.0 n some (let ne = other.1 in omega (arith, ne, below)))
      (eqb_tells k n),
  λ n from. m.1 n (omega (arith, from)),
)

pub no_multiples : (of : ℕ) (xs : List ℕ) → xs ≡ [] → Multiples of 1 xs
no_multiples of [] is = (λ n some below. absurd (omega (arith, some, below)), λ n from. refl)
no_multiples of (x ∷ xs) is = absurd (cc)

-- ---- what is lost and cut

-- a log that is no longer than it was is the same
no_more : (log more : List Entry) → length (log ++ more) ≤ length log → more ≡ []
no_more log [] short = refl
no_more log (e ∷ more) short = absurd (let len = length-append log (e ∷ more) in omega (arith, len, short))

pub same_log : (log more : List Entry) → length (log ++ more) ≤ length log → log ++ more ≡ log
same_log log more short = ap (λ (l : List Entry). log ++ l) (no_more log more short) ∙ append-nil log

by_grown : (from to : View) (lost cut : List ℕ) (number : ℕ) (log later : List Entry) (xs : List Exchange) → AreByNumber from to lost cut number log xs later → length log ≤ length later
by_grown from to lost cut number log later [] (more, is) = let len = length-append log more in let same = ap (λ (l : List Entry). length l) is in omega (arith, len, same)
by_grown from to lost cut number log later (x ∷ xs) (more, by, rest) = let len = length-append log more in omega (arith, len, by_grown from to lost cut (number + 1) (log ++ more) later xs rest)

-- such a list has the multiples of this number up to that one
abbrev pub Lists : ℕ → ℕ → List ℕ → Type 0
Lists of most xs = (n : ℕ) → 0 < n → n ≤ most → is_listed n xs ≡ (n % of == 0)

due_by : (from to : View) (log : List Entry) (x : Exchange) (came : Acted) (lost cut : Bool) → x.answer ≡ answer_for lost cut x.limit came → CameBy lost x.answer
    → CameOf from to x.request came → IsSaidBetween from to log x.request came → DueBy from to lost cut log x
due_by from to log x came true cut is due out said = due
due_by from to log x acted.Unopened false cut is due out said = absurd (subst (CameBy false) is due)
due_by from to log x acted.Broken false cut is due out said = absurd (subst (CameBy false) is due)
due_by from to log x acted.NoMemory false cut is due out said = absurd (subst (CameBy false) is due)
due_by from to log x (acted.Sent bytes) false cut is due out said = record {
  went = bytes;
  out = out;
  said = said;
  answer = is;
  some = λ none. (subst (CameBy false) none due) refl;
}

pub are_due : (from to : View) (lost cut : List ℕ) (most number : ℕ) (log later : List Entry) (xs : List Exchange) → Lists 5 most lost → Lists 7 most cut → 0 < number → number + length xs ≤ most + 1
    → length later ≤ length log → HaveCome number xs → AreByNumber from to lost cut number log xs later → AreDue from to log number xs
are_due from to lost cut most number log later [] five seven some few short come by = tt
are_due from to lost cut most number log later (x ∷ xs) five seven some few short come (more, by, rest) =
    let long = by_grown from to lost cut (number + 1) (log ++ more) later xs rest in
    let same : log ++ more ≡ log = same_log log more (omega (arith, long, short)) in
    let is = by.answered in
    let answer : x.answer ≡ answer_for (number % 5 == 0) (number % 7 == 0) x.limit is.came =
    is.answer ∙ ap (λ (b : Bool). answer_for b (is_listed number cut) x.limit is.came) (five number some (omega (arith, few)))
    ∙ ap (λ (b : Bool). answer_for (number % 5 == 0) b x.limit is.came) (seven number some (omega (arith, few)))
    in (
      due_by from to log x is.came (number % 5 == 0) (number % 7 == 0) answer come.0 is.went (subst (λ (l : List Entry). IsSaidBetween from to l x.request is.came) same by.said),
      are_due from to lost cut most (number + 1) log later xs five seven (omega arith) (omega (arith, few)) short come.1
          (subst (λ (l : List Entry). AreByNumber from to lost cut (number + 1) l xs later) same rest),
    )

-- for causes on a longer way
due_so : (a b c d : View) → TellsOn a b → TellsOn c d → (lost cut : Bool) (log : List Entry) (x : Exchange) → DueBy b c lost cut log x → DueBy a d lost cut log x
due_so a b c d before behind true cut log x due = due
due_so a b c d before behind false cut log x due = record {
  went = due.went;
  out = came_between a b c d before behind x.request (acted.Sent due.went) due.out;
  said = said_between a b c d before behind log x.request (acted.Sent due.went) due.said;
  answer = due.answer;
  some = due.some;
}

pub due_wider : (a b c d : View) → TellsOn a b → TellsOn c d → (log : List Entry) (number : ℕ) (xs : List Exchange) → AreDue b c log number xs → AreDue a d log number xs
due_wider a b c d before behind log number [] due = tt
due_wider a b c d before behind log number (x ∷ xs) due =
    (due_so a b c d before behind (number % 5 == 0) (number % 7 == 0) log x due.0, due_wider a b c d before behind log (number + 1) xs due.1)

-- ---- the log

length_keeps : (n : ℕ) → length (keeps n) ≡ 3 * n
length_keeps zero = refl
length_keeps (suc n) =
    let more = length-append (keeps n) (Keep (of_encoder_a n 1) ∷ Keep (of_encoder_a n 2) ∷ Keep (of_encoder_a n 3) ∷ []) in
    omega (arith, length_keeps n, more)

pub length_log : (n : ℕ) → length (log_of n) ≡ entries_after n
length_log zero = refl
length_log (suc n) = omega (arith, length_keeps (suc n))

-- a fragment of a round
record IsOfRound (n : ℕ) (f : Fragment) : Type 0 where
  round : ℕ
  below : round < n
  time : f.time ≡ 20000000 * round
  duration : f.duration ≡ 20000000

of_round : (n i id : ℕ) (f : Fragment) → i < n → Keep (of_encoder_a i id) ≡ Keep f → IsOfRound n f
of_round n i id f below is = let same : of_encoder_a i id ≡ f = cc in record {
  round = i;
  below = below;
  time = sym (ap (λ (g : Fragment). g.time) same);
  duration = sym (ap (λ (g : Fragment). g.duration) same);
}

later_round : (n : ℕ) (f : Fragment) → IsOfRound n f → IsOfRound (suc n) f
later_round n f r = record { round = r.round; below = (let low = r.below in omega (arith, low)); time = r.time; duration = r.duration }

among_three : (n : ℕ) (f : Fragment) → Contains (Keep (of_encoder_a n 1) ∷ Keep (of_encoder_a n 2) ∷ Keep (of_encoder_a n 3) ∷ []) (Keep f) → IsOfRound (suc n) f
among_three n f (zero, fits, is) = of_round (suc n) n 1 f (omega arith) is
among_three n f (suc zero, fits, is) = of_round (suc n) n 2 f (omega arith) is
among_three n f (suc (suc zero), fits, is) = of_round (suc n) n 3 f (omega arith) is
among_three n f (suc (suc (suc k)), fits, is) = absurd (omega (arith, fits))

round_of : (n : ℕ) (f : Fragment) → Contains (keeps n) (Keep f) → IsOfRound n f
round_of zero f there = absurd (in_none (Keep f) there)
round_of (suc n) f there = ⊎_elim
    (λ before. later_round n f (round_of n f before))
    (λ last. among_three n f last)
    (Contains-append_cases (keeps n) (Keep (of_encoder_a n 1) ∷ Keep (of_encoder_a n 2) ∷ Keep (of_encoder_a n 3) ∷ []) (Keep f) there)

kept_round : (n : ℕ) (f : Fragment) → Contains (log_of n) (Keep f) → IsOfRound n f
kept_round zero f there = absurd (in_none (Keep f) there)
kept_round (suc n) f (zero, fits, is) = absurd (cc)
kept_round (suc n) f (suc k, fits, is) = round_of (suc n) f (k, omega (arith, fits), is)

-- ---- a run of fragments

-- from one round on they are of one round after another
in_rounds : (n i : ℕ) (p : Piece) (ps : List Piece) → AreIn (log_of n) (p ∷ ps) → Gapless (20000000 * i) (p ∷ ps) → i + length (p ∷ ps) ≤ n
in_rounds n i p [] kept gapless =
    let r = kept_round n p.fragment kept.0 in
    let below = r.below in
    let time : 20000000 * i ≡ 20000000 * r.round = sym gapless.0 ∙ r.time in
    omega (arith, below, time)
in_rounds n i p (q ∷ ps) kept gapless =
    let r = kept_round n p.fragment kept.0 in
    let time = gapless.0 in
    let duration = r.duration in
    let next : p.fragment.time + p.fragment.duration ≡ 20000000 * (i + 1) = omega (arith, time, duration) in
    let rest = in_rounds n (i + 1) q ps kept.1 (subst (λ (t : ℕ). Gapless t (q ∷ ps)) next gapless.1) in
    omega (arith, rest)

-- as many of them as there are rounds begin at 0
pub all_rounds : (n start : ℕ) (ps : List Piece) → 0 < n → length ps ≡ n → AreIn (log_of n) ps → Gapless start ps → Gapless 0 ps
all_rounds n start [] some whole kept gapless = absurd (omega (arith, some, whole))
all_rounds n start (p ∷ ps) some whole kept gapless =
    let r = kept_round n p.fragment kept.0 in
    let first : start ≡ 20000000 * r.round = sym gapless.0 ∙ r.time in
    let from = in_rounds n r.round p ps kept (subst (λ (t : ℕ). Gapless t (p ∷ ps)) first gapless) in
    let none : start ≡ 0 = omega (arith, first, from, whole) in
    subst (λ (t : ℕ). Gapless t (p ∷ ps)) none gapless
