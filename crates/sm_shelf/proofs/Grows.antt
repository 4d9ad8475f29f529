-- What goes on from what.
use Rattle.std.proofs.Common.{◌≡◌, inl, inr, ℕ, suc, Bool, true, false, cond, eqb, is_none, length, arith, Option, None, Some, List, [], ◌∷◌, ◌++◌, map, fold, refl, sym, ap}
use Rattle.std.proofs.lemmas.Bool.{and_parts}
use Rattle.std.proofs.lemmas.Bool.Decides.{nat_tests}
use Rattle.sm_model.specs.declared.address.Address.{Address}
use Rattle.sm_model.specs.declared.fragment.Fragment.{Fragment}
use Rattle.sm_model.specs.declared.track.Track.{Track}
use Rattle.sm_model.specs.Entries.{address_of}
use Rattle.sm_log.specs.Digests.{Digest, Extends, window_of}
use Rattle.sm_log.proofs.AllLogs.{extends_itself, extends_through}
use Rattle.sm_shelf.specs.declared.laid.Laid.{Laid}
use Rattle.sm_shelf.specs.Laying.{Op, Whole, Next, laid, is_next, is_fresh, with_add, nothing}
use Rattle.sm_shelf.specs.Shelf.{applied, op_in}

pub extends_refl : (d : Digest) → Extends d d
extends_refl = extends_itself

pub extends_trans : (a b c : Digest) → Extends a b → Extends b c → Extends a c
extends_trans = extends_through

pub least : (d : Digest) → Extends d nothing
least d = record { channel = inl refl; adds = (d.adds, refl) }

add_cases : (d : Digest) (a : Address) (n : ℕ) (w : List Fragment) (b : Bool) → Extends (cond b (with_add d a n w) d) d
add_cases d a n w true = record { channel = inr refl; adds = ((a, n) ∷ [], refl) }
add_cases d a n w false = extends_refl d

fresh_channel : (o : Option (List Track)) → is_none o ≡ true → o ≡ None
fresh_channel None is = refl
fresh_channel (Some channel) is = absurd cc

fresh_adds : (l : List (Address × ℕ)) → eqb (length l) 0 ≡ true → l ≡ []
fresh_adds [] is = refl
fresh_adds (x ∷ xs) is = absurd (let n : suc (length xs) ≡ 0 = grind (arith, nat_tests, is) in omega (arith, n))

fill_cases : (d all : Digest) (b : Bool) → is_fresh d ≡ b → Extends (cond b all d) d
fill_cases d all true is =
    let parts = and_parts (is_none d.channel) (eqb (length d.adds) 0) is in
    record { channel = inl (fresh_channel d.channel parts.0); adds = (all.adds, ap (λ (l : List (Address × ℕ)). l ++ all.adds) (sym (fresh_adds d.adds parts.1))) }
fill_cases d all false is = extends_refl d

-- each operation leaves a digest that goes on from the one before
extends_laid : (d : Digest) (op : Op) → Extends (laid d op) d
extends_laid d (Whole all) = fill_cases d all (is_fresh d) refl
extends_laid d (Next place f) =
    add_cases d (address_of f) f.duration (window_of (d.window ++ f ∷ [])) (is_next d place (address_of f) f.duration)

-- the fold of a list goes on from where it began
pub extends_fold : (ops : List Op) (d : Digest) → Extends (fold laid d ops) d
extends_fold [] d = extends_refl d
extends_fold (op ∷ ops) d = extends_trans (fold laid (laid d op) ops) (laid d op) d (extends_fold ops (laid d op)) (extends_laid d op)

-- what is laid, as operations
pub fold_ops : (ls : List Laid) (d : Digest) → fold applied d ls ≡ fold laid d (map op_in ls)
fold_ops [] d = refl
fold_ops (l ∷ ls) d = fold_ops ls (applied d l)

pub extends_applied : (ls : List Laid) (d : Digest) → Extends (fold applied d ls) d
extends_applied [] d = extends_refl d
extends_applied (l ∷ ls) d = extends_trans (fold applied (applied d l) ls) (applied d l) d (extends_applied ls (applied d l)) (extends_laid d (op_in l))
