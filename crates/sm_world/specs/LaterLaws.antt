-- What the laws of a dial on a site stand on: what becomes of it over one call after another.
use Rattle.std.proofs.Common.{◌≡◌, ℕ, ◌+◌, ◌-◌, ◌≤◌, List, [], ◌∷◌, ◌++◌, length, refl, sym, ◌∙◌, ap, subst, arith, append_assoc, append-nil, length-append}
use Rattle.sm_model.specs.declared.entry.Entry.{Entry}
use Rattle.sm_site.specs.Meanings.{View, Seen}
use Rattle.sm_fetch.specs.declared.dial.Exchange.{Exchange}
use Rattle.sm_world.specs.Dialing.{Dialing, next_number}
use Rattle.sm_world.specs.Later.{HasMade, IsLater, Continues}
use Rattle.sm_world.specs.Numbered.{IsAnswered, AreAnswered, IsByNumber, AreByNumber}
use Rattle.sm_world.specs.Saying.{StandsAt, TellsOn}
use Rattle.sm_world.specs.Wider.{came_between, said_between, tells_same, tells_then}
use Rattle.sm_world.specs.Worlds.{World, Grows}

grows_not : (w : World) → Grows w w
grows_not w = record { first = refl; past = refl; more = []; log = sym (append-nil w.log) }

grows_then : (u v w : World) → Grows u v → Grows v w → Grows u w
grows_then u v w a b = record {
  first = b.first ∙ a.first;
  past = b.past ∙ a.past;
  more = a.more ++ b.more;
  log = b.log ∙ ap (λ (l : List Entry). l ++ b.more) a.log ∙ append_assoc u.log a.more b.more;
}

-- ---- exchanges by their numbers

-- for causes on a longer way
answered_wider : (a b c d : View) → TellsOn a b → TellsOn c d → (lost cut : List ℕ) (n : ℕ) (x : Exchange)
    → IsAnswered b c lost cut n x → IsAnswered a d lost cut n x
answered_wider a b c d before behind lost cut n x is =
    record { came = is.came; went = came_between a b c d before behind x.request is.came is.went; answer = is.answer }

all_wider : (a b c d : View) → TellsOn a b → TellsOn c d → (lost cut : List ℕ) (since n : ℕ) (xs : List Exchange) → AreAnswered b c lost cut since n xs
    → AreAnswered a d lost cut since n xs
all_wider a b c d before behind lost cut since n [] all = tt
all_wider a b c d before behind lost cut since n (x ∷ xs) all = (
  answered_wider a b c d before behind lost cut (n - since + 1) x all.0,
  all_wider a b c d before behind lost cut since (n + 1) xs all.1,
)

all_both : (from to : View) (lost cut : List ℕ) (since n m : ℕ) (xs ys : List Exchange) → m ≡ n + length xs → AreAnswered from to lost cut since n xs
    → AreAnswered from to lost cut since m ys → AreAnswered from to lost cut since n (xs ++ ys)
all_both from to lost cut since n m [] ys is all then =
    subst (λ (k : ℕ). AreAnswered from to lost cut since k ys) (let e : m ≡ n = omega (arith, is) in e) then
all_both from to lost cut since n m (x ∷ xs) ys is all then = (all.0, all_both from to lost cut since (n + 1) m xs ys (omega (arith, is)) all.1 then)

by_wider : (a b c d : View) → TellsOn a b → TellsOn c d → (lost cut : List ℕ) (n : ℕ) (log : List Entry) (xs : List Exchange) (later : List Entry)
    → AreByNumber b c lost cut n log xs later → AreByNumber a d lost cut n log xs later
unfolding answered_wider
by_wider a b c d before behind lost cut n log [] later on = on
by_wider a b c d before behind lost cut n log (x ∷ xs) later (more, by, rest) = (
  more,
  record {
    answered = answered_wider a b c d before behind lost cut n x by.answered;
    said = said_between a b c d before behind (log ++ more) x.request by.answered.came by.said;
  },
  by_wider a b c d before behind lost cut (n + 1) (log ++ more) xs later rest,
)

module _ (from to : View) (lost cut : List ℕ) where
  -- from an earlier log
  by_before : (n : ℕ) (log more : List Entry) (xs : List Exchange) (later : List Entry) → AreByNumber from to lost cut n (log ++ more) xs later
      → AreByNumber from to lost cut n log xs later
  by_before n log more [] later (on, is) = (more ++ on, is ∙ append_assoc log more on)
  by_before n log more (x ∷ xs) later (on, by, rest) =
      let same = append_assoc log more on in (
        more ++ on,
        subst (λ (l : List Entry). IsByNumber from to lost cut n l x) same by,
        subst (λ (l : List Entry). AreByNumber from to lost cut (n + 1) l xs later) same rest,
      )

  pub by_both : (n m : ℕ) (log mid : List Entry) (xs ys : List Exchange) (later : List Entry) → m ≡ n + length xs → AreByNumber from to lost cut n log xs mid
      → AreByNumber from to lost cut m mid ys later → AreByNumber from to lost cut n log (xs ++ ys) later
  by_both n m log mid [] ys later is (more, same) then =
      by_before n log more ys later (subst (λ (l : List Entry). AreByNumber from to lost cut n l ys later) same
      (subst (λ (k : ℕ). AreByNumber from to lost cut k mid ys later) (let e : m ≡ n = omega (arith, is) in e) then))
  by_both n m log mid (x ∷ xs) ys later is (more, by, rest) then =
      (more, by, by_both (n + 1) m (log ++ more) mid xs ys later (omega (arith, is)) rest then)

module _ {D : Type 0} (site : Seen D) where
  pub made_not : (d e : D × Dialing) → e.1.made ≡ d.1.made
      → ((log : List Entry) → StandsAt site d.1.state d.0 log
      → (more : List Entry) × StandsAt site e.1.state e.0 (log ++ more)) → HasMade site d e
  made_not d e same on = record {
    more = [];
    made = same ∙ sym (append-nil d.1.made);
    answered = tt;
    on = λ within log at. (let x = on log at in (log ++ x.0, x.1, (x.0, refl)));
  }

  made_then : (d e f : D × Dialing) → e.1.lost ≡ d.1.lost → e.1.cut ≡ d.1.cut → e.1.since ≡ d.1.since → TellsOn (site.view d.0) (site.view e.0)
      → TellsOn (site.view e.0) (site.view f.0) → HasMade site d e → HasMade site e f → HasMade site d f
  made_then d e f lost cut since before behind a b = record {
    more = a.more ++ b.more;
    made = b.made ∙ ap (λ (l : List Exchange). l ++ b.more) a.made ∙ append_assoc d.1.made a.more b.more;
    answered = answered;
    on = λ within log at. on within log at;
  }
    where
      long : length e.1.made ≡ length d.1.made + length a.more
      long = ap (λ (l : List Exchange). length l) a.made ∙ length-append d.1.made a.more

      later : AreAnswered (site.view e.0) (site.view f.0) d.1.lost d.1.cut d.1.since (length e.1.made) b.more
      later =
          subst (λ (n : ℕ). AreAnswered (site.view e.0) (site.view f.0) d.1.lost d.1.cut n (length e.1.made) b.more) since
          (subst (λ (l : List ℕ). AreAnswered (site.view e.0) (site.view f.0) l d.1.cut e.1.since (length e.1.made) b.more) lost
          (subst (λ (l : List ℕ). AreAnswered (site.view e.0) (site.view f.0) e.1.lost l e.1.since (length e.1.made) b.more) cut b.answered))

      answered : AreAnswered (site.view d.0) (site.view f.0) d.1.lost d.1.cut d.1.since (length d.1.made) (a.more ++ b.more)
      answered =
          all_both (site.view d.0) (site.view f.0) d.1.lost d.1.cut d.1.since (length d.1.made) (length e.1.made) a.more b.more long
          (all_wider (site.view d.0) (site.view d.0) (site.view e.0) (site.view f.0) (tells_same (site.view d.0)) behind d.1.lost d.1.cut d.1.since
          (length d.1.made) a.more a.answered)
          (all_wider (site.view d.0) (site.view e.0) (site.view f.0) (site.view f.0) before (tells_same (site.view f.0)) d.1.lost d.1.cut d.1.since
          (length e.1.made) b.more later)

      on : d.1.since ≤ length d.1.made → (log : List Entry) → StandsAt site d.1.state d.0 log
          → (later : List Entry) × StandsAt site f.1.state f.0 later
          × AreByNumber (site.view d.0) (site.view f.0) d.1.lost d.1.cut (next_number d.1) log (a.more ++ b.more) later
      on within log at =
          let x = a.on within log at in
          let y = b.on (omega (arith, long, since, within)) x.0 x.1 in
          let first : AreByNumber (site.view d.0) (site.view f.0) d.1.lost d.1.cut (next_number d.1) log a.more x.0 =
          by_wider (site.view d.0) (site.view d.0) (site.view e.0) (site.view f.0) (tells_same (site.view d.0)) behind d.1.lost d.1.cut
          (next_number d.1) log a.more x.0 x.2
          in
          let then : AreByNumber (site.view e.0) (site.view f.0) d.1.lost d.1.cut (next_number e.1) x.0 b.more y.0 =
          subst (λ (l : List ℕ). AreByNumber (site.view e.0) (site.view f.0) l d.1.cut (next_number e.1) x.0 b.more y.0) lost
          (subst (λ (l : List ℕ). AreByNumber (site.view e.0) (site.view f.0) e.1.lost l (next_number e.1) x.0 b.more y.0) cut y.2)
          in
          let second : AreByNumber (site.view d.0) (site.view f.0) d.1.lost d.1.cut (next_number e.1) x.0 b.more y.0 =
          by_wider (site.view d.0) (site.view e.0) (site.view f.0) (site.view f.0) before (tells_same (site.view f.0)) d.1.lost d.1.cut
          (next_number e.1) x.0 b.more y.0 then
          in (
            y.0,
            y.1,
            by_both (site.view d.0) (site.view f.0) d.1.lost d.1.cut (next_number d.1) (next_number e.1) log x.0 a.more b.more y.0
                (omega (arith, long, since, within)) first second,
          )

  pub is_later_same : (d : D × Dialing) → IsLater site d d
  is_later_same d = record {
    limits = refl;
    lost = refl;
    cut = refl;
    since = refl;
    crashes = refl;
    tells = tells_same (site.view d.0);
    exchanges = made_not d d refl (λ log at. ([], subst (λ (l : List Entry). StandsAt site d.1.state d.0 l) (sym (append-nil log)) at));
    goes_on = λ w stands. (w, stands, grows_not w);
  }

  pub is_later_then : (d e f : D × Dialing) → IsLater site d e → IsLater site e f → IsLater site d f
  is_later_then d e f a b = record {
    limits = b.limits ∙ a.limits;
    lost = b.lost ∙ a.lost;
    cut = b.cut ∙ a.cut;
    since = b.since ∙ a.since;
    crashes = b.crashes ∙ a.crashes;
    tells = tells_then (site.view d.0) (site.view e.0) (site.view f.0) a.tells b.tells;
    exchanges = made_then d e f a.lost a.cut a.since a.tells b.tells a.exchanges b.exchanges;
    goes_on = λ w stands. (let x = a.goes_on w stands in let y = b.goes_on x.0 x.1 in (y.0, y.1, grows_then w x.0 y.0 x.2 y.2));
  }

  -- ---- through crashes too

  pub continues_same : (d : D × Dialing) → Continues site d d
  continues_same d w stands = (w, stands, refl, ([], sym (append-nil w.log)))

  pub continues_then : (d e f : D × Dialing) → Continues site d e → Continues site e f → Continues site d f
  continues_then d e f a b w stands =
      let x = a w stands in
      let y = b x.0 x.1 in (
        y.0,
        y.1,
        y.2 ∙ x.2,
        (x.3.0 ++ y.3.0, y.3.1 ∙ ap (λ (l : List Entry). l ++ y.3.0) x.3.1 ∙ append_assoc w.log x.3.0 y.3.0),
      )

  pub continues_later : (d e : D × Dialing) → IsLater site d e → Continues site d e
  continues_later d e a w stands = let x = a.goes_on w stands in (x.0, x.1, x.2.first, (x.2.more, x.2.log))
