-- Calls that take no event.
use Rattle.std.proofs.Common.{◌≡◌, is_some, refl, ◌∙◌, ap}
use Rattle.sm_site.specs.Meanings.{View, SameDisk, SameLink, Seen}
use Rattle.sm_serve.specs.Between.{TakesNone}
use Rattle.sm_serve.proofs.Transcripts.{told_here, faults_here, script_here, chosen_here}
use Rattle.sm_site.specs.Clauses.{AreOne}

-- no call
pub none_taken : (v : View) → TakesNone v v
none_taken v = record { told = refl; link_faults = refl; script = refl; chosen = refl }

-- two calls
pub none_then : (u v w : View) → TakesNone u v → TakesNone v w → TakesNone u w
none_then u v w one two = record {
  told = two.told ∙ one.told;
  link_faults = two.link_faults ∙ one.link_faults;
  script = two.script ∙ one.script;
  chosen = two.chosen ∙ one.chosen;
}

-- a call of the disk
pub none_of_disk : (v w : View) → SameLink v w → TakesNone v w
none_of_disk v w same = record { told = ap is_some same.transcript; link_faults = same.link_faults; script = same.script; chosen = same.chosen }

-- a call of the link, whose view is the site's
pub none_of_link : {D : Type 0} (site link : Seen D) (one : AreOne site link) (d e : D) → is_some (link.view e).transcript ≡ is_some (link.view d).transcript
    → (link.view e).link_faults ≡ (link.view d).link_faults → (link.view e).script ≡ (link.view d).script → SameDisk (link.view d) (link.view e) → TakesNone (site.view d) (site.view e)
none_of_link site link one d e told faults script disk = record {
  told = told_here site link one d e told;
  link_faults = faults_here site link one d e faults;
  script = script_here site link one d e script;
  chosen = chosen_here site link one d e disk.chosen;
}
