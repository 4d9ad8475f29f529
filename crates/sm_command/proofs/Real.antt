-- Logs of real entries along a run.
use Rattle.std.proofs.Common.{◌≡◌, List, ◌++◌, Option, Some, None, IsSome, subst}
use Rattle.std.specs.Prelude.{IfSome}
use Rattle.sm_model.specs.declared.entry.Entry.{Entry}
use Rattle.sm_site.specs.Image.{Image}
use Rattle.sm_archive.specs.Store.{IsStore}
use Rattle.sm_origin.specs.Machine.{Machine}
use Rattle.sm_origin.specs.Shown.{IsReal}
use Rattle.sm_origin.specs.Stores.{Fits}

image_of : (contents : Option Image) (P : Image → Type 0) → IsSome contents → IfSome contents P → (image : Image) × P image
image_of None P some holds = absurd (cc)
image_of (Some image) P some holds = (image, holds)

-- the log is that of an image, or a front of it
pub real_now : ((log : List Entry) (image : Image) → IsStore log image → IsReal log) → ((log more : List Entry) → IsReal (log ++ more) → IsReal log)
    → (contents : Option Image) (outcomes : Image → Type 0) (m : Machine) → IsSome contents → IfSome contents outcomes → ((image : Image) → outcomes image → Fits m image) → IsReal m.log
real_now store front contents outcomes m some pass fits =
    let here = image_of contents outcomes some pass in
    let f = fits here.0 here.1 in
    front m.log f.doubt (store (m.log ++ f.doubt) here.0 f.store)

pub real_front : ((log more : List Entry) → IsReal (log ++ more) → IsReal log) → (log last : List Entry) → ((more : List Entry) × (last ≡ log ++ more)) → IsReal last → IsReal log
real_front front log last (more, is) real = front log more (subst (λ (l : List Entry). IsReal l) is real)
