-- What a log keeps at an address, by the place where it stands.
use Rattle.std.proofs.Common.{◌≡◌, ℕ, zero, suc, List, [], ◌∷◌, ◌++◌, length, Option, Some, None, refl, sym, ap, subst, ◌∙◌}
use Rattle.std.specs.Prelude.{slice_get}
use Rattle.std.specs.Option.{option_map}
use Rattle.sm_model.specs.declared.address.Address.{Address}
use Rattle.sm_model.specs.declared.entry.Entry.{Entry}
use Rattle.sm_model.specs.declared.entry.Entry.TheVariants.{Keep}
use Rattle.sm_model.specs.declared.fragment.Fragment.{Fragment}
use Rattle.sm_model.specs.Entries.{address_of}
use Rattle.sm_log.specs.Adds.{place_of}
use Rattle.sm_log.specs.Logs.{adds_of, kept_at, IsSound}
use Rattle.sm_export.specs.Qualities.{fragments_in, kept_list}

some_is : (x y : Entry) → Some x ≡ Some y → x ≡ y
some_is x y e = cc

-- an entry with what stands before it and behind it
split_at : (log : List Entry) (p : ℕ) (e : Entry) → slice_get log p ≡ Some e → (front : List Entry) × (back : List Entry) × (log ≡ front ++ e ∷ back)
split_at [] p e h = absurd cc
split_at (x ∷ log) zero e h = ([], log, ap (λ (y : Entry). y ∷ log) (some_is x e h))
split_at (x ∷ log) (suc p) e h = let r = split_at log p e h in (x ∷ r.0, r.1, ap (λ (l : List Entry). x ∷ l) r.2)

pub kept_entry : ((front back : List Entry) (f : Fragment) → IsSound (front ++ Keep f ∷ back) → kept_at (front ++ Keep f ∷ back) (address_of f) ≡ Some (length front, f))
    → (log : List Entry) (p : ℕ) (f : Fragment) (a : Address) → IsSound log → slice_get log p ≡ Some (Keep f) → address_of f ≡ a → kept_list log a ≡ f ∷ []
kept_entry one log p f a sound there named =
    let s = split_at log p (Keep f) there in
    let kept : kept_at log (address_of f) ≡ Some (length s.0, f) =
    subst (λ (l : List Entry). IsSound l → kept_at l (address_of f) ≡ Some (length s.0, f)) (sym s.2) (one s.0 s.1 f) sound in
    ap (λ (b : Address). kept_list log b) (sym named) ∙ ap fragments_in kept

none_is : (o : Option (ℕ × Fragment)) → option_map (λ (k : ℕ × Fragment). k.0) o ≡ None → o ≡ None
none_is None e = refl
none_is (Some k) e = absurd cc

pub none_entry : ((log : List Entry) (address : Address) → place_of address (adds_of log) ≡ option_map (λ (k : ℕ × Fragment). k.0) (kept_at log address))
    → (log : List Entry) (a : Address) → place_of a (adds_of log) ≡ None → kept_list log a ≡ []
none_entry place log a none = ap fragments_in (none_is (kept_at log a) (sym (place log a) ∙ none))
