-- A disk without bytes is an empty store.
use Rattle.std.proofs.Common.{◌≡◌, inl, ℕ, List, [], ◌∷◌, ◌++◌, Option, length, nat_cmp, refl, sym, ap, subst, arith, ◌≤◌}
use Rattle.std.specs.FinMap as map
use Rattle.std.specs.FinMap.{get-empty}
use Rattle.std.specs.Option.{unwrap_or}
use Rattle.sm_model.specs.declared.entry.Entry.{Entry}
use Rattle.sm_site.specs.Image.{Image, bytes_of}
use Rattle.sm_archive.specs.Store.{IsStore}

not_empty : (front back : List Entry) (e : Entry) → [] ≡ front ++ e ∷ back → ⊥
not_empty [] back e is = absurd (cc)
not_empty (x ∷ front) back e is = absurd (cc)

pub empty_store : (c : Image) → ((file : ℕ) → bytes_of c file ≡ []) → IsStore [] c
empty_store c none = record {
  bodies = [];
  has = record {
    parts = [];
    bodies_are = refl;
    few = omega arith;
    logs = tt;
    rest = λ file from below. inl (subst (λ (bytes : List ℕ). length bytes ≤ 1) (sym (none file)) (omega arith));
  };
  spell = tt;
  sound = record { few = omega arith; each = λ front back e is. absurd (not_empty front back e is) };
}

pub bytes_empty : (file : ℕ) → bytes_of map.empty file ≡ []
bytes_empty file = ap (λ (o : Option (List ℕ)). unwrap_or o []) (get-empty nat_cmp file)
