-- What an answer spells is one thing.
use Rattle.std.specs.Prelude.{◌≡◌, ◌⊎◌}
use Rattle.sm_fetch.specs.declared.got.Got.{Got}
use Rattle.sm_fetch.specs.declared.got.Got.TheVariants as got
use Rattle.sm_fetch.specs.declared.push.Pushed.{Pushed}
use Rattle.sm_fetch.specs.declared.push.Pushed.TheVariants as pushed

-- they are one, unless one of them is want of memory
abbrev pub AreOne : Got → Got → Type 0
AreOne g h = (g ≡ h) ⊎ ((g ≡ got.NoMemory) ⊎ (h ≡ got.NoMemory))

abbrev pub AreOnePush : Pushed → Pushed → Type 0
AreOnePush p q = (p ≡ q) ⊎ ((p ≡ pushed.NoMemory) ⊎ (q ≡ pushed.NoMemory))
