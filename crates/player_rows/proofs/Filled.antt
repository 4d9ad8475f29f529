-- All fragments of a catalog, in order, stand at its end.
use Rattle.std.proofs.Common.{◌≡◌, ◌≤◌, List, [], ◌∷◌, ◌++◌, length, map, sym, ap, ◌∙◌, arith}
use Rattle.std.proofs.lemmas.List.{length-map, map-append}
use Rattle.sm_model.specs.declared.address.Address.{Address}
use Rattle.sm_model.specs.declared.fragment.Fragment.{Fragment}
use Rattle.sm_model.specs.Entries.{address_of}
use Rattle.sm_log.specs.Adds.{Add}
use Rattle.sm_shelf.specs.Parts.{addresses_in, IsEnd}
use Rattle.sm_shelf.proofs.Places.{end_of}

pub same_grows : (adds adds' : List Add) (x : Add) (fs fs' : List Fragment) (f : Fragment) → addresses_in adds ≡ map address_of fs → adds' ≡ adds ++ x ∷ []
    → fs' ≡ fs ++ f ∷ [] → x.address ≡ address_of f → addresses_in adds' ≡ map address_of fs'
same_grows adds adds' x fs fs' f same is more at =
    ap addresses_in is ∙ map-append (λ (a : Add). a.address) adds (x ∷ []) ∙ ap (λ (l : List Address). l ++ x.address ∷ []) same
    ∙ ap (λ (b : Address). map address_of fs ++ b ∷ []) at ∙ sym (map-append address_of fs (f ∷ [])) ∙ sym (ap (map address_of) more)

pub within_of : (adds : List Add) (fs : List Fragment) → addresses_in adds ≡ map address_of fs → length fs ≤ length adds
within_of adds fs same =
    let a = length-map adds (λ (x : Add). x.address) in
    let b = length-map fs address_of in
    let e = ap length same in
    omega (arith, a, b, e)

pub last_of : (adds : List Add) (fs : List Fragment) → addresses_in adds ≡ map address_of fs → IsEnd (addresses_in adds) (map address_of fs)
last_of adds fs same = end_of [] (map address_of fs) (addresses_in adds) same
