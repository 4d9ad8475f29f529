-- A list of bodies is of one log.
use Rattle.std.proofs.Common.{◌≡◌, ℕ, List, [], ◌∷◌, Option, None, Some, refl, sym, ap, subst, ◌∙◌, inl, inr}
use Rattle.std.specs.List.{AllZip}
use Rattle.sm_model.specs.declared.track.Track.{Track}
use Rattle.sm_model.specs.declared.fragment.Fragment.{Fragment}
use Rattle.sm_model.specs.declared.entry.Entry.{Entry}
use Rattle.sm_model.specs.declared.entry.Entry.TheVariants.{Declare, Keep}
use Rattle.sm_log.specs.Logs.{channel_of}
use Rattle.sm_record.specs.Bodies.{IsBody}
use Rattle.sm_archive.specs.Store.{Spell}

-- a body has one entry by a channel
abbrev pub HasOne : Type 0
HasOne = (channel : Option (List Track)) (a b : Entry) (body : List ℕ) → IsBody channel a body → IsBody channel b body → a ≡ b

pub no_keep : (f : Fragment) (body : List ℕ) → IsBody None (Keep f) body → ⊥
no_keep f body (inl p) = p.has
no_keep f body (inr p) = p.has

-- a channel's body is one by every channel
pub any_channel : (known other : Option (List Track)) (tracks : List Track) (body : List ℕ) → IsBody known (Declare tracks) body → IsBody other (Declare tracks) body
any_channel known other tracks body (inl p) = inl (record { fields = p.fields; has = p.has; is = p.is })
any_channel known other tracks body (inr p) = inr (record { fields = p.fields; has = p.has; is = p.is })

one_by_channel : HasOne → (channel : Option (List Track)) (xs bs : List Entry) (bodies : List (List ℕ)) → AllZip (IsBody channel) xs bodies → AllZip (IsBody channel) bs bodies → xs ≡ bs
one_by_channel one channel [] [] [] p q = refl
one_by_channel one channel [] [] (x ∷ bodies) p q = refl
one_by_channel one channel [] (b ∷ bs) [] p q = absurd q
one_by_channel one channel [] (b ∷ bs) (x ∷ bodies) p q = absurd p
one_by_channel one channel (a ∷ xs) bs [] p q = absurd p
one_by_channel one channel (a ∷ xs) [] (x ∷ bodies) p q = absurd q
one_by_channel one channel (a ∷ xs) (b ∷ bs) (x ∷ bodies) p q =
    ap (λ (e : Entry). e ∷ xs) (one channel a b x p.0 q.0) ∙ ap (λ (l : List Entry). b ∷ l) (one_by_channel one channel xs bs bodies p.1 q.1)

pub one_log : HasOne → (bodies : List (List ℕ)) (a b : List Entry) → Spell bodies a → Spell bodies b → a ≡ b
one_log one [] [] [] p q = refl
one_log one [] [] (e ∷ b) p q = absurd q
one_log one [] (e ∷ a) b p q = absurd p
one_log one (x ∷ bodies) [] b p q = absurd p
one_log one (x ∷ bodies) (e ∷ a) [] p q = absurd q
one_log one (x ∷ bodies) (Keep f ∷ a) (e ∷ b) p q = absurd (no_keep f x p.0)
one_log one (x ∷ bodies) (Declare s ∷ a) (Keep g ∷ b) p q = absurd (no_keep g x q.0)
one_log one (x ∷ bodies) (Declare s ∷ a) (Declare t ∷ b) p q =
    let same : Declare s ≡ Declare t = one (Some s) (Declare s) (Declare t) x p.0 (any_channel (Some t) (Some s) t x q.0) in
    let channel : channel_of (Declare t ∷ b) ≡ channel_of (Declare s ∷ a) = ap (λ (e : Entry). channel_of (e ∷ [])) (sym same) in
    one_by_channel one (Some s) (Declare s ∷ a) (Declare t ∷ b) (x ∷ bodies) p (subst (λ (c : Option (List Track)). AllZip (IsBody c) (Declare t ∷ b) (x ∷ bodies)) channel q)
