-- A play behind a dial that was just turned.
use Rattle.std.proofs.Common.{◌≡◌, ◌≤◌, ◌++◌, ℕ, List, [], ◌∷◌, Option, sym, subst}
use Rattle.std.proofs.lemmas.List.{append_assoc}
use Rattle.sm_ends.specs.Faults.{Rose}
use Rattle.sm_model.specs.declared.entry.Entry.{Entry}
use Rattle.sm_fetch.specs.declared.dial.Exchange.{Exchange}
use Rattle.sm_fetch.specs.Exchanges.{IsTurnedTo, Peer}
use Rattle.sm_fetch.specs.Origins.{Grows}
use Rattle.sm_client.specs.declared.plan.Plan.{Plan}
use Rattle.sm_client.specs.declared.report.End.TheVariants as ends
use Rattle.sm_client.specs.declared.report.Report.{Report}
use Rattle.sm_client.specs.Turns.{Meaning}
use Rattle.sm_client.specs.Dials.{Dialed, carried}
use Rattle.sm_client.specs.Plays.{PartsKept, Played, PlayedKept}
use Rattle.sm_client.specs.Pushing.{Line}
use Rattle.sm_client.specs.Served.{PlayedServed}
use Rattle.sm_client.proofs.Dials.{dialed-none, dialed-then}
use Rattle.sm_tool.specs.Plays.{HasPlayed, Tape}

-- what the logs of a moment keep is kept by those that go on from earlier ones
pub kept_since : {P : Type 0} (m : Meaning P) (plan : Plan) (policies : List P) (log log' : Option (List Exchange)) (old mid now : List Entry → Type 0) (held held' : ℕ → Option (List ℕ))
    (report : Report) → Grows old mid → PlayedKept m plan policies log log' mid now held held' report → PlayedKept m plan policies log log' old now held held' report
kept_since m plan [] log log' old mid now held held' report grows k = absurd k
kept_since m plan (p ∷ ps) log log' old mid now held held' report grows k = record {
  plays = k.plays;
  kept = record {
    on = λ kept told.
        let g = grows kept told in
        let n = k.kept.on (kept ++ g.0) g.1 in
        let joined = append_assoc kept g.0 n.0 in
        (g.0 ++ n.0, subst now joined n.1, subst (λ (l : List Entry). PartsKept plan l plan.streams k.plays.parts) joined n.2);
  };
}

-- a dial that stays turned
turned_still : (was is : Option Peer) (host place : List ℕ) (port : ℕ) → is ≡ was → host ≡ place → IsTurnedTo was host port → IsTurnedTo is place port
turned_still was is host place port same named turned =
    subst (λ (told : Option Peer). IsTurnedTo told place port) (sym same) (subst (λ (h : List ℕ). IsTurnedTo was h port) named turned)

-- the dial was turned, and then the plan was played
pub played_behind : {P : Type 0} (m : Meaning P) (plan : Plan) (policies : List P) (dial mid dial' : Line) (old turned now : List Entry → Type 0) (tracks tracks' : Tape) (report : Report) (host : List ℕ)
    → mid.log ≡ dial.log → dial.faults ≤ mid.faults → Grows old turned → host ≡ plan.place.host → IsTurnedTo mid.chosen host plan.place.port → dial'.chosen ≡ mid.chosen
    → Played m plan policies mid.log dial'.log tracks.held tracks'.held report → PlayedKept m plan policies mid.log dial'.log turned now tracks.held tracks'.held report
    → PlayedServed m plan policies mid.log dial'.log tracks.held tracks'.held report → Dialed mid.log dial'.log mid.faults dial'.faults turned now (carried report.end)
    → (report.end ≡ ends.WriteFault → Rose tracks.faults tracks'.faults) → HasPlayed m plan policies dial dial' old now tracks tracks' report
played_behind m plan policies dial mid dial' old turned now tracks tracks' report host same later grows named chosen still played kept served dialed failed = record {
  turned = turned_still mid.chosen dial'.chosen host plan.place.host plan.place.port still named chosen;
  played = subst (λ (log : Option (List Exchange)). Played m plan policies log dial'.log tracks.held tracks'.held report) same played;
  kept = subst (λ (log : Option (List Exchange)). PlayedKept m plan policies log dial'.log old now tracks.held tracks'.held report) same
      (kept_since m plan policies mid.log dial'.log old turned now tracks.held tracks'.held report grows kept);
  served = subst (λ (log : Option (List Exchange)). PlayedServed m plan policies log dial'.log tracks.held tracks'.held report) same served;
  dialed = dialed-then (dialed-none same later grows) dialed;
  failed = failed;
}
