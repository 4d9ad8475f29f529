-- Which log an image has.
use Rattle.std.proofs.Common.{◌≡◌, ℕ, ◌+◌, List, [], ◌∷◌, sym, subst}
use Rattle.sm_model.specs.declared.entry.Entry.{Entry}
use Rattle.sm_site.specs.Image.{Image, bytes_of}
use Rattle.sm_site.specs.Clauses.{Settled}
use Rattle.sm_gatelog.specs.Files.{HasLog, IsFresh}
use Rattle.sm_seglog.specs.Stores.{HasStore, LogsFrom}
use Rattle.sm_archive.specs.Store.{IsStore}
use Rattle.sm_origin.specs.Opening.{HasOneStore}

same_logs : (file : ℕ) (parts : List (List (List ℕ))) (c d : Image) → ((n : ℕ) → bytes_of d n ≡ bytes_of c n) → LogsFrom file parts c → LogsFrom file parts d
same_logs file [] c d same logs = tt
same_logs file (bodies ∷ parts) c d same logs = (subst (HasLog bodies) (sym (same file)) logs.0, same_logs (file + 1) parts c d same logs.1)

same_store : (bodies : List (List ℕ)) (c d : Image) → ((n : ℕ) → bytes_of d n ≡ bytes_of c n) → HasStore bodies c → HasStore bodies d
same_store bodies c d same has = record {
  parts = has.parts;
  bodies_are = has.bodies_are;
  few = has.few;
  logs = same_logs 0 has.parts c d same has.logs;
  rest = λ file from below. subst IsFresh (sym (same file)) (has.rest file from below);
}

-- where nothing is pending, each image is the one that stands there
pub one_store : (log : List Entry) (c : Image) (outcomes : Image → Type 0) → IsStore log c → Settled c outcomes → HasOneStore log outcomes
one_store log c outcomes is settled = record {
  bodies = is.bodies;
  each = λ image left. same_store is.bodies c image (settled image left) is.has;
  spell = is.spell;
  sound = is.sound;
}

pub store_in : (log : List Entry) (c : Image) (outcomes : Image → Type 0) → HasOneStore log outcomes → outcomes c → IsStore log c
store_in log c outcomes one left = record { bodies = one.bodies; has = one.each c left; spell = one.spell; sound = one.sound }

pub fewer_stores : (log : List Entry) (old new : Image → Type 0) → ((c : Image) → new c → old c) → HasOneStore log old → HasOneStore log new
fewer_stores log old new fewer one = record { bodies = one.bodies; each = λ image left. one.each image (fewer image left); spell = one.spell; sound = one.sound }
