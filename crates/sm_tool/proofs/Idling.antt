-- A site with which nothing is done.
use Rattle.std.proofs.Common.{◌≤◌, ℕ, refl}
use Rattle.sm_archive.specs.Store.{IsStore}
use Rattle.sm_site.specs.Image.{Image}
use Rattle.sm_site.specs.Meanings.{Seen}
use Rattle.sm_site.proofs.Moments.{no_call}
use Rattle.sm_command.specs.Lasting.{KeepsStores, Lasts, Spared, Untouched}
use Rattle.sm_command.proofs.Lasting.{at_each, silent_lasts, unwritten_spared}

module _ {D : Type 0} (site : Seen D) (no_later : (d : D) (t : ℕ) (c : Image) → site.left_at d t c → t ≤ (site.view d).moment) where
  pub idle_untouched : (d : D) → Untouched site d d
  idle_untouched d = record { contents = refl; each = at_each site d d (λ t c. site.may_leave d c) (site.may_leave d) (no_call site d (λ t c. site.may_leave d c) (no_later d)) (λ t c left. left) }

  pub idle_spared : (d : D) → Spared site d d
  idle_spared d = unwritten_spared site d d (idle_untouched d)

  pub idle_lasts : (at_now : (d : D) (c : Image) → site.left_at d (site.view d).moment c → site.may_leave d c) → (d : D) → Lasts site d d
  idle_lasts at_now d some log one base told =
      silent_lasts site at_now log base d d one
      (at_each site d d (λ t c. IsStore log c) (IsStore log) (no_call site d (λ t c. IsStore log c) (no_later d)) (λ t c store. store)) told

  pub idle_stores : (at_now : (d : D) (c : Image) → site.left_at d (site.view d).moment c → site.may_leave d c) → (d : D) (R : Type 0) → KeepsStores site d d R
  idle_stores at_now d R = record { lasts = idle_lasts at_now d; untouched = λ r. idle_untouched d; spared = idle_spared d }
