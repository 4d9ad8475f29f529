-- What follows from whether an archive is in doubt, and what its images are.
use Rattle.std.proofs.Common.{◌≡◌, ℕ, List, [], ◌∷◌, ◌++◌, Option, None, Some, refl, subst, ◌⊎◌, inl, inr}
use Rattle.sm_model.specs.declared.entry.Entry.{Entry}
use Rattle.sm_log.specs.Logs.{IsSound}
use Rattle.sm_archive.specs.Steps.{Settles}
use Rattle.sm_site.specs.Image.{Image}
use Rattle.sm_seglog.specs.Stores.{HasStore}
use Rattle.sm_seglog.specs.Segments.{Segments}
use Rattle.sm_seglog.specs.Stores.{StorePerhaps}
use Rattle.sm_archive.specs.declared.index.Index.{Index}
use Rattle.sm_archive.specs.declared.archive.Doubt.{Doubt}
use Rattle.sm_archive.specs.declared.archive.Archive.{Archive}
use Rattle.sm_archive.specs.Store.{Spell, IsStore}
use Rattle.sm_archive.specs.Stands.{Doubted, IsDoubt, Stands}
use Rattle.sm_archive.proofs.Logs.{sound_push, spell_push}
use Rattle.sm_seglog.proofs.Images.{perhaps_of}

module _ (index : Option Index) (v : Segments) (log : List Entry) where
  pub doubted_none : (d : Option Doubt) (body : Option (List ℕ)) (doubt : Option Entry) → d ≡ None → Doubted d index v log body doubt → (body ≡ None) × (doubt ≡ None)
  doubted_none None None None e h = (refl, refl)
  doubted_none None None (Some x) e h = absurd h
  doubted_none None (Some b) doubt e h = absurd h
  doubted_none (Some x) body doubt e h = absurd cc

  pub record InDoubt (x : Doubt) (body : Option (List ℕ)) (doubt : Option Entry) : Type 0 where
    pub own : List ℕ
    pub entry : Entry
    pub body_is : body ≡ Some own
    pub doubt_is : doubt ≡ Some entry
    pub is : IsDoubt x index v log own entry

  some_is : (x y : Doubt) → (let found : Doubt → Option Doubt = λ d. Some d in found x ≡ found y) → x ≡ y
  some_is x y e = cc

  pub doubted_some : (d : Option Doubt) (body : Option (List ℕ)) (doubt : Option Entry) (x : Doubt) → d ≡ Some x → Doubted d index v log body doubt → InDoubt x body doubt
  doubted_some None body doubt x e h = absurd cc
  doubted_some (Some y) None doubt x e h = absurd h
  doubted_some (Some y) (Some b) None x e h = absurd h
  doubted_some (Some y) (Some b) (Some n) x e h = record { own = b; entry = n; body_is = refl; doubt_is = refl; is = subst (λ (z : Doubt). IsDoubt z index v log b n) (some_is y x e) h }

-- the image of an outcome
pub store_here : (log : List Entry) (bodies : List (List ℕ)) (c : Image) → IsSound log → Spell bodies log → HasStore bodies c → IsStore log c
store_here log bodies c sound spell has = record { bodies = bodies; has = has; spell = spell; sound = sound }

pub store_with : (log : List Entry) (bodies : List (List ℕ)) (body : List ℕ) (x : Doubt) (index : Option Index) (v : Segments) (e : Entry) (c : Image) → IsSound log → Spell bodies log → IsDoubt x index v log body e
    → HasStore (bodies ++ body ∷ []) c → IsStore (log ++ e ∷ []) c
store_with log bodies body x index v e c sound spell d has =
    store_here (log ++ e ∷ []) (bodies ++ body ∷ []) c (sound_push log e sound d.fits d.few) (spell_push bodies log body e spell d.spelled) has

images : (od : Option Doubt) (index : Option Index) (v : Segments) (log : List Entry) (bodies : List (List ℕ)) (body : Option (List ℕ)) (doubt : Option Entry) (c : Image)
    → IsSound log → Spell bodies log → Doubted od index v log body doubt → StorePerhaps bodies body c → (after : List Entry) × IsStore after c × Settles log doubt after
images None index v log bodies None None c sound spell d has = (log, store_here log bodies c sound spell has, inl refl)
images None index v log bodies None (Some x) c sound spell d has = absurd d
images None index v log bodies (Some b) doubt c sound spell d has = absurd d
images (Some x) index v log bodies None doubt c sound spell d has = absurd d
images (Some x) index v log bodies (Some b) None c sound spell d has = absurd d
images (Some x) index v log bodies (Some b) (Some e) c sound spell d (inl has) = (log, store_here log bodies c sound spell has, inl refl)
images (Some x) index v log bodies (Some b) (Some e) c sound spell d (inr has) = (log ++ e ∷ [], store_with log bodies b x index v e c sound spell d has, inr (e, refl, refl))

-- each image that a crash may leave is the log, perhaps with the doubt
pub image_of : (a : Archive) (log : List Entry) (doubt : Option Entry) (outcomes : Image → Type 0) → Stands a log doubt outcomes → (c : Image) → outcomes c → (after : List Entry) × IsStore after c × Settles log doubt after
image_of a log doubt outcomes s c left = images a.doubt a.index a.log log s.bodies s.body doubt c s.keeps.sound s.keeps.spell s.keeps.doubted (perhaps_of s.bodies s.body a.log outcomes (s.stands.each c left) c left)

pub image_fits : (a : Archive) (log : List Entry) (doubt : Option Entry) (outcomes : Image → Type 0) → Stands a log doubt outcomes → (c : Image) → outcomes c
    → IsStore log c ⊎ ((d : Entry) × (doubt ≡ Some d) × IsStore (log ++ d ∷ []) c)
image_fits a log doubt outcomes s c left =
    let i = image_of a log doubt outcomes s c left in
    elim i.2 [
      | inl same ↦ inl (subst (λ (l : List Entry). IsStore l c) same i.1)
      | inr more ↦ inr (more.0, more.1, subst (λ (l : List Entry). IsStore l c) more.2 i.1)
    ]
