-- The words of the clauses of a site that crashes where it is told to.
use Rattle.std.specs.Prelude.{◌≡◌, ◌↔◌, ℕ, Bool, List, IsSome}
use Rattle.sm_site.specs.Image.{Image}
use Rattle.sm_site.specs.Meanings.{Item, Seen, View}
use Rattle.sm_site.specs.Clauses.{SameOutcomes}

-- all but the script stays
pub record SameBut (old new : View) : Type 0 where
  pub moment : new.moment ≡ old.moment
  pub contents : new.contents ≡ old.contents
  pub calls : new.calls ≡ old.calls
  pub reads : new.reads ≡ old.reads
  pub disk_faults : new.disk_faults ≡ old.disk_faults
  pub transcript : new.transcript ≡ old.transcript
  pub link_faults : new.link_faults ≡ old.link_faults
  pub send_faults : new.send_faults ≡ old.send_faults
  pub chosen : new.chosen ≡ old.chosen

-- contents, transcript and script are told
pub record Tells (view : View) : Type 0 where
  pub contents : IsSome view.contents
  pub transcript : IsSome view.transcript
  pub script : IsSome view.script

-- no count changes
pub record SameCounts (old new : View) : Type 0 where
  pub reads : new.reads ≡ old.reads
  pub disk_faults : new.disk_faults ≡ old.disk_faults
  pub link_faults : new.link_faults ≡ old.link_faults
  pub send_faults : new.send_faults ≡ old.send_faults

-- a call changes neither what a crash leaves, by each choice, nor what one has left, nor the numbers that were given, the openings before
-- and whether memory has run out
pub record Undisturbed {D : Type 0} (site : Seen D) (given : D → ℕ) (opened : D → List (List Item)) (wants : D → Bool)
    (left_by : D → ℕ → Image) (old new : D) : Type 0 where
  pub crash : SameOutcomes (site.may_leave old) (site.may_leave new)
  pub past : (t : ℕ) (c : Image) → site.left_at new t c ↔ site.left_at old t c
  pub numbers : given new ≡ given old
  pub openings : opened new ≡ opened old
  pub starved : wants new ≡ wants old
  pub choices : left_by new ≡ left_by old
