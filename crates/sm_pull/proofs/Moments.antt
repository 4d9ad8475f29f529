-- At which moments of its log an origin answered.
use Rattle.std.proofs.Common.{◌≡◌, List, [], ◌∷◌, ◌++◌, ap, sym, ◌∙◌, append_assoc, append-nil}
use Rattle.sm_model.specs.declared.entry.Entry.{Entry}
use Rattle.sm_model.specs.declared.track.Track.{Track}
use Rattle.sm_fetch.specs.declared.dial.Exchange.{Exchange}
use Rattle.sm_fetch.specs.Origins.{FromOrigin}
use Rattle.sm_client.specs.Served.{IsMoment, AnsweredBy}

pub answered_split : (up : List Track) (log later : List Entry) (xs ys : List Exchange) → AnsweredBy up log (xs ++ ys) later → (mid : List Entry) × AnsweredBy up log xs mid × AnsweredBy up mid ys later
answered_split up log later [] ys a = (log, ([], sym (append-nil log)), a)
answered_split up log later (x ∷ xs) ys a = let r = answered_split up (log ++ a.0) later xs ys a.3 in (r.0, (a.0, a.1, a.2, r.1), r.2)

pub answered_grows : (up : List Track) (log later : List Entry) (xs : List Exchange) → AnsweredBy up log xs later → (more : List Entry) × (later ≡ log ++ more)
answered_grows up log later [] a = a
answered_grows up log later (x ∷ xs) a = let r = answered_grows up (log ++ a.0) later xs a.3 in (a.0 ++ r.0, r.1 ∙ append_assoc log a.0 r.0)

-- a moment of the log at which an exchange was answered
pub record At (up : List Track) (log later : List Entry) (x : Exchange) : Type 0 where
  pub moment : List Entry
  pub is : IsMoment up moment
  pub from : FromOrigin moment x.request x.answer
  pub since : List Entry
  pub moment_is : moment ≡ log ++ since
  pub until : List Entry
  pub later_is : later ≡ moment ++ until

pub last_at : (up : List Track) (log later : List Entry) (xs : List Exchange) (x : Exchange) → AnsweredBy up log (xs ++ x ∷ []) later → At up log later x
last_at up log later xs x a =
    let s = answered_split up log later xs (x ∷ []) a in
    let before = answered_grows up log s.0 xs s.1 in
    let one = s.2 in
    record {
      moment = s.0 ++ one.0;
      is = one.1;
      from = one.2;
      since = before.0 ++ one.0;
      moment_is = ap (λ (l : List Entry). l ++ one.0) before.1 ∙ append_assoc log before.0 one.0;
      until = one.3.0;
      later_is = one.3.1;
    }
