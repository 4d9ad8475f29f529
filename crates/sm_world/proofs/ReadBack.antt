-- What reading a store back needs and leaves.
use Rattle.std.proofs.Common.{◌≡◌, ℕ, List, Option, None, Some, Result, Ok, Err, refl, sym, ◌∙◌, subst}
use Rattle.std.specs.Prelude.{IfOk, IfSome, IsSome}
use Rattle.sm_model.specs.declared.entry.Entry.{Entry}
use Rattle.sm_site.specs.Image.{Image}
use Rattle.sm_site.specs.Meanings.{Seen}
use Rattle.sm_seglog.specs.Segments.{Segments}
use Rattle.sm_seglog.specs.Stores.{HasStore, StorePerhaps}
use Rattle.sm_seglog.proofs.Images.{perhaps_of}
use Rattle.sm_archive.specs.declared.archive.Archive.{Archive}
use Rattle.sm_archive.specs.declared.archive.Doubt.{Doubt}
use Rattle.sm_archive.specs.declared.index.Index.{Index}
use Rattle.sm_archive.specs.Stands.{Doubted, Stands as Holds}
use Rattle.sm_archive.specs.Store.{IsStore, Spell}
use Rattle.sm_origin.specs.Machine.{Machine}
use Rattle.sm_origin.specs.Opening.{HasOneStore}
use Rattle.sm_serve.specs.declared.state.State.{State}
use Rattle.sm_serve.specs.Standing.{StandsOn}
use Rattle.sm_world.specs.Worlds.{World, IsClosed}
use Rattle.sm_world.proofs.Standing.{some_of, at_some}
use Rattle.sm_world.proofs.Stores.{store_in}

-- ---- an archive without a doubt

no_body : (d : Option Doubt) (index : Option Index) (v : Segments) (log : List Entry) (body : Option (List ℕ)) → Doubted d index v log body None → body ≡ None
no_body None index v log None h = refl
no_body None index v log (Some b) h = absurd h
no_body (Some x) index v log None h = absurd h
no_body (Some x) index v log (Some b) h = absurd h

-- every image that a crash may leave is its log
pub one_store_of : (a : Archive) (log : List Entry) (outcomes : Image → Type 0) → Holds a log None outcomes → HasOneStore log outcomes
one_store_of a log outcomes s = record {
  bodies = s.bodies;
  each = λ c left. subst (λ (body : Option (List ℕ)). StorePerhaps s.bodies body c) (no_body a.doubt a.index a.log log s.body s.keeps.doubted)
      (perhaps_of s.bodies s.body a.log outcomes (s.stands.each c left) c left);
  spell = s.keeps.spell;
  sound = s.keeps.sound;
}

-- ---- a store that was opened

module _ {D : Type 0} (site : Seen D)
    (one_list : (xs ys : List (List ℕ)) (image : Image) → HasStore xs image → HasStore ys image → xs ≡ ys)
    (one_log : (bodies : List (List ℕ)) (a b : List Entry) → Spell bodies a → Spell bodies b → a ≡ b) where
  same_log : (a b : List Entry) (c : Image) → IsStore a c → IsStore b c → a ≡ b
  same_log a b c x y = one_log x.bodies a b x.spell (subst (λ (bodies : List (List ℕ)). Spell bodies b) (sym (one_list x.bodies y.bodies c x.has y.has)) y.spell)

  pub holds_log : (w : World) (d e : D) (new : State) → IsSome (site.view d).contents → IfSome (site.view d).contents (site.may_leave d)
      → IfSome (site.view d).contents (λ c. (m : Machine) × IsStore m.log c × (m.doubt ≡ None) × StandsOn site m new.origin e)
      → IsClosed site w d → Holds new.origin.archive w.log None (site.may_leave e)
  holds_log w d e new some passes found closed =
      subst (λ (doubt : Option Entry). Holds new.origin.archive w.log doubt (site.may_leave e)) m.2
      (subst (λ (log : List Entry). Holds new.origin.archive log m.0.doubt (site.may_leave e)) is m.3.stands)
    where
      c : (x : Image) × ((site.view d).contents ≡ Some x)
      c = some_of (site.view d).contents some

      m : (m : Machine) × IsStore m.log c.0 × (m.doubt ≡ None) × StandsOn site m new.origin e
      m = at_some (site.view d).contents (λ c. (m : Machine) × IsStore m.log c × (m.doubt ≡ None) × StandsOn site m new.origin e) c.0 c.1 found

      is : m.0.log ≡ w.log
      is = same_log m.0.log w.log c.0 m.1 (store_in w.log c.0 (site.may_leave d) closed.one (at_some (site.view d).contents (site.may_leave d) c.0 c.1 passes))

-- it is closed again
pub closed_again : {D : Type 0} (site : Seen D) (w : World) (d e : D) → (site.view e).transcript ≡ (site.view d).transcript → HasOneStore w.log (site.may_leave e)
    → IsClosed site w d → IsClosed site w e
closed_again site w d e same one closed = record { one = one; items = closed.items; told = same ∙ closed.told; comes = closed.comes }

pub ok_map : {A E : Type 0} (r : Result A E) (P Q : A → Type 0) → ((a : A) → P a → Q a) → IfOk r P → IfOk r Q
ok_map (Ok a) P Q so holds = so a holds
ok_map (Err e) P Q so holds = tt
