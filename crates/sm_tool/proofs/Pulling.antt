-- How it is told what was pulled into a store.
use Rattle.std.proofs.Common.{◌≡◌, ◌⊎◌, inl, inr, ℕ, List, Result, Ok, Err, sym, subst, ◌∙◌}
use Rattle.std.specs.Prelude.{IfOk, OnErr}
use Rattle.sm_model.specs.declared.no_memory.NoMemory.{NoMemory}
use Rattle.sm_model.specs.declared.track.Track.{Track}
use Rattle.sm_site.specs.Meanings.{Chosen, Seen}
use Rattle.sm_pull.specs.declared.plan.PullPlan.{PullPlan}
use Rattle.sm_relay.specs.declared.report.RelayReport.{RelayReport}
use Rattle.sm_relay.specs.declared.report.RelayEnd.{RelayEnd}
use Rattle.sm_relay.specs.declared.report.RelayEnd.TheVariants as relayed
use Rattle.sm_standby.specs.declared.report.FollowReport.{FollowReport}
use Rattle.sm_standby.specs.declared.report.FollowEnd.{FollowEnd}
use Rattle.sm_standby.specs.declared.report.FollowEnd.TheVariants as followed
use Rattle.sm_edge.specs.Relaying.{HasRelayed}
use Rattle.sm_edge.specs.Following.{HasFollowed}
use Rattle.sm_tool.specs.declared.answer.Answer.{Answer}
use Rattle.sm_tool.specs.declared.answer.Answer.TheVariants.{NotAStore, Starved}
use Rattle.sm_tool.specs.Edges.{Dialing, TellsFollow, TellsFollowEnd, TellsRelay, TellsRelayEnd}
use Rattle.sm_tool.specs.Stores.{or_starved}
use Rattle.sm_ends.specs.Ended.{End}

-- ---- what is told, or that there was no memory for it

pub told_or : {Q : Type 0} (P : Answer → Type 0) (r : Result Answer NoMemory) (answer : Answer) → IfOk r P → OnErr r Q → answer ≡ or_starved r → P answer ⊎ ((answer ≡ Starved) × Q)
told_or P (Ok a) answer tells none is = inl (subst P (sym is) tells)
told_or P (Err e) answer tells none is = inr (is, none)

pub told_if : (P : Answer → Type 0) (r : Result Answer NoMemory) (answer : Answer) → IfOk r P → answer ≡ or_starved r → P answer ⊎ (answer ≡ Starved)
told_if P (Ok a) answer tells is = inl (subst P (sym is) tells)
told_if P (Err e) answer tells is = inr is

-- ---- what was pulled was no other than a store

relay_told : (channel : List Track) (kept : ℕ) (end : RelayEnd) (answer : Answer) (line : List ℕ) → TellsRelayEnd channel kept end answer → answer ≡ NotAStore line → ⊥
relay_told channel kept relayed.Done answer line is e = let no = sym is ∙ e in cc
relay_told channel kept (relayed.NoManifest outcomes) answer line is e = let no = sym is ∙ e in cc
relay_told channel kept (relayed.NoTrack index) answer line is e = let no = sym is ∙ e in cc
relay_told channel kept (relayed.GaveUp address outcomes) answer line is e = let no = sym is ∙ e in cc
relay_told channel kept (relayed.Refused address cause) answer line is e = let no = sym is ∙ e in cc
relay_told channel kept relayed.Full answer line is e = let no = sym is ∙ e in cc
relay_told channel kept relayed.DiskFault answer line is e = let no = sym is ∙ e in cc
relay_told channel kept relayed.NoMemory answer line is e = let no = sym is ∙ e in cc

pub relay_is_store : (channel : List Track) (report : RelayReport) (r : Result Answer NoMemory) (answer : Answer) (line : List ℕ) → IfOk r (λ a. TellsRelay channel report a)
    → answer ≡ or_starved r → answer ≡ NotAStore line → ⊥
relay_is_store channel report (Ok a) answer line tells is e = relay_told channel report.kept report.end a line tells (sym is ∙ e)
relay_is_store channel report (Err none) answer line tells is e = let no = sym is ∙ e in cc

follow_told : (channel : List Track) (kept : ℕ) (end : FollowEnd) (answer : Answer) (line : List ℕ) → TellsFollowEnd channel kept end answer → answer ≡ NotAStore line → ⊥
follow_told channel kept followed.Done answer line is e = let no = sym is ∙ e in cc
follow_told channel kept (followed.Gap place next) answer line is e = let no = sym is ∙ e in cc
follow_told channel kept (followed.NoManifest outcomes) answer line is e = let no = sym is ∙ e in cc
follow_told channel kept (followed.NoTrack index) answer line is e = let no = sym is ∙ e in cc
follow_told channel kept (followed.GaveUp address outcomes) answer line is e = let no = sym is ∙ e in cc
follow_told channel kept (followed.OtherId address id) answer line is e = let no = sym is ∙ e in cc
follow_told channel kept (followed.Refused address cause) answer line is e = let no = sym is ∙ e in cc
follow_told channel kept followed.Full answer line is e = let no = sym is ∙ e in cc
follow_told channel kept followed.DiskFault answer line is e = let no = sym is ∙ e in cc
follow_told channel kept followed.NoMemory answer line is e = let no = sym is ∙ e in cc

pub follow_is_store : (channel : List Track) (report : FollowReport) (r : Result Answer NoMemory) (answer : Answer) (line : List ℕ) → IfOk r (λ a. TellsFollow channel report a)
    → answer ≡ or_starved r → answer ≡ NotAStore line → ⊥
follow_is_store channel report (Ok a) answer line tells is e = follow_told channel report.kept report.end a line tells (sym is ∙ e)
follow_is_store channel report (Err none) answer line tells is e = let no = sym is ∙ e in cc

-- ---- the host by its other name

module _ {S C : Type 0} (site : Seen S) (t : Dialing C) (input input' : End) (selection : Chosen) (plan : PullPlan)
    (old new : S) (dial dial' : C) (channel : List Track) (host place : List ℕ) (same : host ≡ place) where
  pub relayed_at : (report : RelayReport) → HasRelayed site t.log t.store t.later t.faults t.chosen input input' selection host plan old new dial dial' channel report
      → HasRelayed site t.log t.store t.later t.faults t.chosen input input' selection place plan old new dial dial' channel report
  relayed_at report r =
      subst (λ (h : List ℕ). HasRelayed site t.log t.store t.later t.faults t.chosen input input' selection h plan old new dial dial' channel report) same r

  pub followed_at : (report : FollowReport) → HasFollowed site t.log t.store t.later t.faults t.chosen input input' selection host plan old new dial dial' channel report
      → HasFollowed site t.log t.store t.later t.faults t.chosen input input' selection place plan old new dial dial' channel report
  followed_at report r =
      subst (λ (h : List ℕ). HasFollowed site t.log t.store t.later t.faults t.chosen input input' selection h plan old new dial dial' channel report) same r
