-- An image that has a log is none at which an opening stops.
use Rattle.std.proofs.Common.{◌≡◌, ◌⊎◌, inl, inr, ℕ, zero, suc, ◌+◌, ◌<◌, ◌≤◌, ◌^◌, List, [], ◌∷◌, ◌++◌, length, get_or, take, drop, length-append, Option, None, Some, sym, ◌∙◌, ap, subst, arith}
use Rattle.std.specs.Prelude.{slice_get}
use Rattle.std.specs.List.{AllZip}
use Rattle.std.proofs.lemmas.List.{take-append-drop}
use Rattle.std.proofs.lemmas.Option.{slice_get_within, slice_get_cases}
use Rattle.sm_model.specs.declared.entry.Entry.{Entry}
use Rattle.sm_model.specs.declared.entry.Entry.TheVariants.{Declare, Keep}
use Rattle.sm_model.specs.declared.track.Track.{Track}
use Rattle.sm_log.specs.Logs.{channel_of, FitsBehind}
use Rattle.sm_record.specs.Bodies.{IsBody}
use Rattle.sm_site.specs.Image.{Image}
use Rattle.sm_seglog.specs.Stores.{HasStore, NotAStore as NoLog}
use Rattle.sm_archive.specs.Store.{IsStore, Spell}
use Rattle.sm_archive.specs.Opening.{IsNoEntry, NotAStore}
use Rattle.sm_archive.proofs.Fetching.{all_zip_get}
use Rattle.sm_archive.proofs.Lists.{all_zip_len}
use Rattle.sm_serve.proofs.Lists.{next_of}

all_zip_take : {A B : Type 0} (R : A → B → Type 0) (n : ℕ) (xs : List A) (ys : List B) → AllZip R xs ys → AllZip R (take n xs) (take n ys)
all_zip_take R zero xs ys all = tt
all_zip_take R (suc n) [] [] all = tt
all_zip_take R (suc n) [] (y ∷ ys) all = absurd all
all_zip_take R (suc n) (x ∷ xs) [] all = absurd all
all_zip_take R (suc n) (x ∷ xs) (y ∷ ys) all = (all.0, all_zip_take R n xs ys all.1)

spell_take : (n : ℕ) (log : List Entry) (bodies : List (List ℕ)) → Spell bodies log → Spell (take n bodies) (take n log)
spell_take zero log bodies spell = tt
spell_take (suc n) [] [] spell = tt
spell_take (suc n) [] (y ∷ ys) spell = absurd spell
spell_take (suc n) (x ∷ xs) [] spell = absurd spell
spell_take (suc n) (Declare tracks ∷ xs) (y ∷ ys) spell = (spell.0, all_zip_take (IsBody (Some tracks)) n xs ys spell.1)
spell_take (suc n) (Keep f ∷ xs) (y ∷ ys) spell = (spell.0, all_zip_take (IsBody None) n xs ys spell.1)

-- the body of a channel is that whatever stands before it
declared_so : (a b : Option (List Track)) (tracks : List Track) (body : List ℕ) → IsBody a (Declare tracks) body → IsBody b (Declare tracks) body
declared_so a b tracks body (inl plain) = inl (record { fields = plain.fields; has = plain.has; is = plain.is })
declared_so a b tracks body (inr sealed) = inr (record { fields = sealed.fields; has = sealed.has; is = sealed.is })

body_behind : (n : ℕ) (log back : List Entry) (e : Entry) (body : List ℕ) → log ≡ take n log ++ e ∷ back → IsBody (channel_of log) e body → IsBody (channel_of (take n log)) e body
body_behind zero log back (Declare tracks) body is has = declared_so (channel_of log) None tracks body has
body_behind zero log back (Keep f) body is has = subst (λ (c : Option (List Track)). IsBody c (Keep f) body) (ap (λ (l : List Entry). channel_of l) is) has
body_behind (suc n) [] back e body is has = has
body_behind (suc n) (Declare tracks ∷ log) back e body is has = has
body_behind (suc n) (Keep f ∷ log) back e body is has = has

module _ (one_list : (xs ys : List (List ℕ)) (image : Image) → HasStore xs image → HasStore ys image → xs ≡ ys)
    (no_fault : (xs : List (List ℕ)) (at : ℕ) (image : Image) → HasStore xs image → NoLog at image → ⊥)
    (one_log : (bodies : List (List ℕ)) (a b : List Entry) → Spell bodies a → Spell bodies b → a ≡ b) where
  no_entry_fails : (log : List Entry) (c : Image) (at : ℕ) → IsStore log c → IsNoEntry at c → ⊥
  no_entry_fails log c at store n = at_place (slice_get_cases log n.place).1
    where
      bodies : List (List ℕ)
      bodies = n.bodies

      spell : Spell bodies log
      spell = subst (λ (b : List (List ℕ)). Spell b log) (one_list store.bodies bodies c store.has n.has) store.spell

      within : n.place < length log
      within = let same = all_zip_len (IsBody (channel_of log)) log bodies spell in let inside = slice_get_within bodies n.place n.fails.body n.fails.there in omega (arith, same, inside)

      at_place : ((x : Entry) × (n.place < length log) × (slice_get log n.place ≡ Some x) × (get_or log n.place x ≡ x)) ⊎ ((length log ≤ n.place) × (slice_get log n.place ≡ None)) → ⊥
      at_place (inl (x, inside, got, read)) =
          let p = n.place in
          let front = take p log in
          let split : log ≡ front ++ x ∷ drop (p + 1) log = sym (take-append-drop p log) ∙ ap (λ (l : List Entry). front ++ l) (next_of log p x inside (sym read)) in
          let same : n.fails.log ≡ front = one_log (take p bodies) n.fails.log front n.fails.before (spell_take p log bodies spell) in
          let has : IsBody (channel_of log) x n.fails.body = all_zip_get (IsBody (channel_of log)) log bodies p x n.fails.body spell got n.fails.there in
          let sum = ap (λ (l : List Entry). length l) split ∙ length-append front (x ∷ drop (p + 1) log) in
          let small = store.sound.few in
          let few : length front + 1 < 2 ^ 32 = omega (arith, sum, small) in
          n.fails.fails x
          (subst (λ (l : List Entry). IsBody (channel_of l) x n.fails.body) (sym same) (body_behind p log (drop (p + 1) log) x n.fails.body split has))
          (subst (λ (l : List Entry). FitsBehind l x) (sym same) (store.sound.each front (drop (p + 1) log) x split))
          (subst (λ (l : List Entry). length l + 1 < 2 ^ 32) (sym same) few)
      at_place (inr past) = let le = past.0 in absurd (omega (arith, within, le))

  pub stores_open : (log : List Entry) (c : Image) (at : ℕ) → IsStore log c → NotAStore at c → ⊥
  stores_open log c at store (inl no_log) = no_fault store.bodies at c store.has no_log
  stores_open log c at store (inr no_entry) = no_entry_fails log c at store no_entry
