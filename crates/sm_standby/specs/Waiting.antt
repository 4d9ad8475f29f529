-- Addresses that wait, since what stands there has a later place.
use Rattle.std.specs.Prelude.{◌≡◌, ◌≤◌, ◌==◌, ℕ, Bool, false, List, [], ◌∷◌, Option, None, Contains, bytes_eq, ◌&&◌, if◌then◌else◌}
use Rattle.std.specs.List.{find, list_any}
use Rattle.sm_model.specs.declared.address.Address.{Address}
use Rattle.sm_model.specs.declared.entry.Entry.{Entry}
use Rattle.sm_log.specs.Logs.{kept_at}
use Rattle.sm_standby.specs.declared.held.Later.{Later}

-- the first that has this place
abbrev pub due : ℕ → List Later → Option Later
due place held = find (λ l. l.place == place) held

-- without that one
abbrev pub without : ℕ → List Later → List Later
without place [] = []
without place (l ∷ more) = if l.place == place then more else l ∷ without place more

abbrev pub is_of : Address → Address → Bool
is_of a b = bytes_eq a.stream b.stream && (a.bitrate == b.bitrate && a.time == b.time)

-- whether this address waits
abbrev pub waits : Address → List Later → Bool
waits a held = list_any (λ l. is_of a l.address) held

-- each address waits once, and nothing is kept there
abbrev pub AreOpen : List Entry → List Later → Type 0
AreOpen log [] = Unit {0}
AreOpen log (l ∷ more) = (kept_at log l.address ≡ None) × (waits l.address more ≡ false) × AreOpen log more

-- the least of their places
pub record IsLeast (held : List Later) (place : ℕ) : Type 0 where
  pub one : Later
  pub there : Contains held one
  pub place_is : one.place ≡ place
  pub least : (l : Later) → Contains held l → place ≤ l.place
