-- One act of an origin, whole.
use Rattle.std.specs.Prelude.{◌≡◌, List, IsSome, is_some}
use Rattle.sm_model.specs.declared.act.Act.{Act}
use Rattle.sm_model.specs.declared.entry.Entry.{Entry}
use Rattle.sm_site.specs.Meanings.{Seen, DiskAlone}
use Rattle.sm_site.specs.Clauses.{Rose}
use Rattle.sm_reply.specs.declared.reply.Reply.{Reply}
use Rattle.sm_origin.specs.declared.origin.Origin.{Origin}
use Rattle.sm_origin.specs.Machine.{Machine}
use Rattle.sm_origin.specs.Acting.{StandsOn, StandsForSome, ActGives}
use Rattle.sm_origin.specs.Caching.{Remembers}
use Rattle.sm_origin.specs.Replying.{Replies}
use Rattle.sm_origin.specs.Seen.{cache_of}

-- An act of an origin was one step, whichever machine it stood for, with the reply that this one's log gives. Only the disk was called.
pub record IsOneStep {D : Type 0} (site : Seen D) (old new : D) (before after : Origin) (act : Act) (reply : List Entry → Reply) : Type 0 where
  -- It stands for some machine again, whichever it stood for.
  pub stands : StandsForSome site after new
  pub step : IsSome (site.view old).contents → (m : Machine) → StandsOn site m before old → ActGives site old new m after act (reply m.log)
  pub told : is_some (site.view new).contents ≡ is_some (site.view old).contents
  pub disk_alone : DiskAlone (site.view old) (site.view new)

-- An origin acted: by one step, and with the same reply on a disk that tells no contents; of a fragment that is read back from such a one its
-- address, its place and that it is valid. What it gave or kept is remembered.
pub record Acts {D : Type 0} (site : Seen D) (old new : D) (before after : Origin) (act : Act) (reply : Reply) : Type 0 where
  pub one : IsOneStep site old new before after act (λ log. reply)
  pub replied : (m : Machine) → StandsOn site m before old
      → Replies (Rose (site.view old).disk_faults (site.view new).disk_faults) (IsSome (site.view new).contents) (site.may_leave new) m after act reply
  pub remembers : Remembers act reply (cache_of before) (cache_of after)
