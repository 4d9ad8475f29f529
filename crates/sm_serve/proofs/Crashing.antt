-- What was shown is held by what a crash leaves.
use Rattle.std.proofs.Common.{◌≡◌, inl, inr, ℕ, List, ◌++◌, ◌∙◌, ap, subst, append_assoc}
use Rattle.sm_model.specs.declared.entry.Entry.{Entry}
use Rattle.sm_site.specs.Image.{Image}
use Rattle.sm_site.specs.Meanings.{Item}
use Rattle.sm_archive.specs.Store.{IsStore}
use Rattle.sm_origin.specs.Machine.{Machine}
use Rattle.sm_origin.specs.Shown.{IsReal, Claim, Holds}
use Rattle.sm_serve.specs.Run.{Stepped}
use Rattle.sm_serve.specs.Moments.{machine_at, FitsAt}
use Rattle.sm_serve.specs.Shown.{Shown}

module _ (real : (log : List Entry) (image : Image) → IsStore log image → IsReal log)
    (front : (log more : List Entry) → IsReal (log ++ more) → IsReal log) (stays : (log more : List Entry) (claim : Claim) → Holds log claim → Holds (log ++ more) claim)
    (first : Machine) (steps : List Stepped) (items : List Item) (t : ℕ) (image : Image)
    (held : (claim : Claim) → Shown items t claim → IsReal (machine_at first steps t).log → Holds (machine_at first steps t).log claim) where
  -- the image is a store of the log at the moment and what is behind it
  longer_holds : (more behind : List Entry) → (machine_at first steps t).log ≡ first.log ++ more → IsStore ((machine_at first steps t).log ++ behind) image
      → (log : List Entry) × IsStore log image × ((rest : List Entry) × (log ≡ first.log ++ rest)) × ((claim : Claim) → Shown items t claim → Holds log claim)
  longer_holds more behind is store =
      let log = (machine_at first steps t).log in (
        log ++ behind,
        store,
        (more ++ behind, ap (λ (l : List Entry). l ++ behind) is ∙ append_assoc first.log more behind),
        λ claim shown. stays log behind claim (held claim shown (front log behind (real (log ++ behind) image store))),
      )

  pub image_holds : (more : List Entry) × ((machine_at first steps t).log ≡ first.log ++ more) → FitsAt first steps t image
      → (log : List Entry) × IsStore log image × ((rest : List Entry) × (log ≡ first.log ++ rest)) × ((claim : Claim) → Shown items t claim → Holds log claim)
  image_holds (more, is) (inl fits) = longer_holds more fits.doubt is fits.store
  image_holds (more, is) (inr (x, among, inside, fits)) =
      longer_holds more (fits.doubt ++ fits.written) is (subst (λ (log : List Entry). IsStore log image) (append_assoc (machine_at first steps t).log fits.doubt fits.written) fits.store)
