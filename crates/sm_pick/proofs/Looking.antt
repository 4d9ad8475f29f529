-- What is known of the bytes that came so far, one piece after the other.
use Rattle.std.proofs.Common.{◌≡◌, ◌≤◌, ◌<◌, ◌⊎◌, ◌+◌, ◌-◌, ℕ, zero, suc, Bool, true, false, cond, List, [], ◌∷◌, ◌++◌, length, Option, Some, None, Ok, Err, refl, sym, ap, subst, ◌∙◌, inl, inr, arith}
use Rattle.std.specs.Prelude.{is_some, min, ◌^◌}
use Rattle.std.specs.Option.{option_or}
use Rattle.std.specs.List.{AllByRecursion}
use Rattle.std.proofs.lemmas.List.{length-append}
use Rattle.sm_model.specs.declared.cause.Refusal.{Refusal}
use Rattle.sm_model.specs.declared.fragment.Fragment.{Fragment}
use Rattle.sm_model.specs.Fragments.{IsValid}
use Rattle.sm_model.specs.Items.{Given, Frag, first_from}
use Rattle.sm_push.specs.Body.{Outcome, body, body_end, cut_off, IsFrontOf}
use Rattle.sm_push.specs.Validity.{IsValidItem}
use Rattle.sm_push.specs.Standing.{IsPartial, PieceGives, Stands, Answers, rest_of}
use Rattle.sm_push.specs.declared.fault.StepFault.TheVariants as faults
use Rattle.sm_push.proofs.Steps.{fed, fed_refused}
use Rattle.sm_pick.specs.declared.search.Search.{Search}
use Rattle.sm_pick.specs.declared.skim.Skim.{Skim}
use Rattle.sm_ends.specs.Ended.{input_most}
use Rattle.sm_pick.specs.Skim.{standing, skipped, behind, cut_at, PassesOver}
use Rattle.sm_pick.specs.Search.{fragments_in, is_sought, IsInside, IsOver, IsLooking, IsPassing, LooksBy, Looks}
use Rattle.sm_pick.proofs.Searching.{fragments-append, fragments_few, first-append, found_valid}
use Rattle.sm_pick.proofs.Skimming.{IsBack, skipped_partial, skipped_stands, behind_partial, passes_over, over_more, comes_back, ends_looking, ends_passing}

-- nothing is refused yet
pub unrefused : (s : Search) (b : List ℕ) → is_some s.refusal ≡ false → Looks s b → IsLooking s b ⊎ IsPassing s b
unrefused s b none h = by_refusal s.refusal none h
  where
    by_refusal : (r : Option Refusal) → is_some r ≡ false → LooksBy r s b → IsLooking s b ⊎ IsPassing s b
    by_refusal None e h = h
    by_refusal (Some r) e h = absurd cc

-- and nothing is passed over
pub looking : (s : Search) (b : List ℕ) → is_some s.refusal ≡ false → s.skim.kept.skip ≡ 0 → Looks s b → IsLooking s b
looking s b none here h = by_state (unrefused s b none h)
  where
    by_state : IsLooking s b ⊎ IsPassing s b → IsLooking s b
    by_state (inl is) = is
    by_state (inr is) = absurd (omega (arith, here, is.over.some))

pub partial_of : (s : Search) (b : List ℕ) → is_some s.refusal ≡ false → Looks s b → IsPartial s.skim.kept
partial_of s b none h = by_state (unrefused s b none h)
  where
    by_state : IsLooking s b ⊎ IsPassing s b → IsPartial s.skim.kept
    by_state (inl is) = is.partial
    by_state (inr is) = is.partial

pub counted_of : (s : Search) (b : List ℕ) → is_some s.refusal ≡ false → Looks s b → s.skim.bytes ≡ min (length b) (2 ^ 64 - 1)
counted_of s b none h = by_state (unrefused s b none h)
  where
    by_state : IsLooking s b ⊎ IsPassing s b → s.skim.bytes ≡ min (length b) (2 ^ 64 - 1)
    by_state (inl is) = is.stands.count
    by_state (inr is) = is.bytes

pub none_of : (r : Option Refusal) → is_some r ≡ false → r ≡ None
none_of None e = refl
none_of (Some r) e = absurd cc

-- ---- a piece behind a refusal

pub stays_refused : ((headerless : Bool) (p q : List ℕ) → IsFrontOf (body headerless p) (body headerless (p ++ q)))
    → (s : Search) (b piece : List ℕ) → is_some s.refusal ≡ true → Looks s b → Looks s (b ++ piece)
stays_refused front s b piece some h = by_refusal s.refusal some h
  where
    by_refusal : (r : Option Refusal) → is_some r ≡ true → LooksBy r s b → LooksBy r s (b ++ piece)
    by_refusal None e h = absurd cc
    by_refusal (Some r) e h = ((front true b piece).refusal r h).1

-- ---- a piece that gives items

pub all_fit : ((headerless : Bool) (b : List ℕ) → length (body headerless b).items ≤ length b)
    → (s : Search) (b piece : List ℕ) (items : List Given) → IsLooking s b → (body true (b ++ piece)).items ≡ (body true b).items ++ items
    → length b + length piece ≤ input_most → s.count + length items < 4294967296
all_fit few s b piece items h e short =
    omega (arith, few true (b ++ piece), length-append b piece, ap length e, length-append (body true b).items items, h.count, fragments_few (body true b).items, short)

pub few_so : ((headerless : Bool) (b : List ℕ) → length (body headerless b).items ≤ length b) → (s : Search) (b : List ℕ) → IsLooking s b → length b ≤ input_most → s.count + 1 < 4294967296
few_so few s b h short = omega (arith, few true b, h.count, fragments_few (body true b).items, short)

-- the search behind a piece
pub record IsOn (old new : Search) (skim : Skim) (items : List Given) : Type 0 where
  pub track : new.track ≡ old.track
  pub time : new.time ≡ old.time
  pub skim_is : new.skim ≡ skim
  pub count : new.count ≡ old.count + fragments_in items
  pub found : new.found ≡ option_or old.found (first_from (old.count + 1) old.track old.time items)

pub looks_on : (old new : Search) (skim : Skim) (b piece : List ℕ) (items : List Given) → IsLooking old b → Stands true (standing skim) (b ++ piece) → IsPartial skim.kept
    → (body true (b ++ piece)).items ≡ (body true b).items ++ items → IsOn old new skim items → IsLooking new (b ++ piece)
looks_on old new skim b piece items h stands partial e on =
    let gs : List Given = (body true b).items in
    let place : old.count + 1 ≡ 1 + fragments_in gs = omega (arith, h.count) in
    record {
      stands = subst (λ (k : Skim). Stands true (standing k) (b ++ piece)) (sym on.skim_is) stands;
      partial = subst (λ (k : Skim). IsPartial k.kept) (sym on.skim_is) partial;
      count = on.count ∙ ap (λ (n : ℕ). n + fragments_in items) h.count ∙ sym (fragments-append gs items) ∙ ap fragments_in (sym e);
      found = on.found ∙ ap (λ (n : ℕ). option_or old.found (first_from n old.track old.time items)) place
          ∙ ap (λ (o : Option (ℕ × Fragment)). option_or o (first_from (1 + fragments_in gs) old.track old.time items)) h.found
          ∙ sym (first-append 1 old.track old.time gs items)
          ∙ ap (first_from 1 old.track old.time) (sym e)
          ∙ ap (λ (n : ℕ). first_from 1 n old.time (body true (b ++ piece)).items) (sym on.track)
          ∙ ap (λ (n : ℕ). first_from 1 new.track n (body true (b ++ piece)).items) (sym on.time);
    }

-- what a piece that was taken gives, and what it leaves
pub fed_on : (old new : Skim) (b piece : List ℕ) (items : List Given) → Stands true (standing old) b → IsPartial new.kept → PieceGives old.kept new.kept piece items (Ok tt) → new.bytes ≡ old.bytes + length piece
    → new.bytes < 2 ^ 64 → Answers true b piece (standing new) (Ok items)
fed_on old new b piece items stands partial gives bytes short = fed true (standing old) (standing new) b piece items stands partial gives refl (omega (arith, bytes, short))

-- ---- an mdat that is passed over

-- one fragment more that isn't sought changes nothing that was found
pub found_still : (track time : ℕ) (gs : List Given) (id : ℕ) (f : Fragment) → is_sought track time (Frag id f) ≡ false
    → first_from 1 track time (gs ++ Frag id f ∷ []) ≡ first_from 1 track time gs
found_still track time gs id f other =
    let none : first_from (1 + fragments_in gs) track time (Frag id f ∷ []) ≡ None = ap (λ (t : Bool). cond t (Some (1 + fragments_in gs, f)) None) other in
    first-append 1 track time gs (Frag id f ∷ []) ∙ ap (option_or (first_from 1 track time gs)) none ∙ or_none (first_from 1 track time gs)
  where
    or_none : (o : Option (ℕ × Fragment)) → option_or o None ≡ o
    or_none None = refl
    or_none (Some x) = refl

-- those of a box that gives nothing
skips_looking : (old : Search) (b piece : List ℕ) → IsLooking old b → 0 < old.skim.kept.skip → length piece ≤ old.skim.kept.skip → old.skim.bytes + length piece < 2 ^ 64
    → IsLooking (record old { skim = skipped old.skim (length piece) }) (b ++ piece)
skips_looking old b piece is some within short =
    let now = skipped_stands old.skim b piece some is.partial within short is.stands in
    record {
      stands = now.0;
      partial = skipped_partial old.skim (length piece) some is.partial;
      count = is.count ∙ ap fragments_in (sym now.1);
      found = is.found ∙ ap (first_from 1 old.track old.time) (sym now.1);
    }

-- those of an mdat of which more is missing
passes_on : (old : Search) (b piece : List ℕ) → IsPassing old b → length piece < old.skim.kept.skip → old.skim.bytes + length piece < 2 ^ 64
    → IsPassing (record old { skim = skipped old.skim (length piece) }) (b ++ piece)
passes_on old b piece is some short =
    let here : IsInside b piece = is.over.inside piece some in
    record {
      over = over_more old.skim b piece old.track old.time is.over is.partial some;
      partial = skipped_partial old.skim (length piece) is.over.some is.partial;
      bytes = omega (arith, is.bytes, short, length-append b piece);
      count = is.count ∙ ap (λ (gs : List Given). fragments_in gs + 1) (sym here.items);
      found = is.found ∙ ap (first_from 1 old.track old.time) (sym here.items);
    }

-- and the last ones of it
passes_out : (old : Search) (b piece : List ℕ) → IsPassing old b → length piece ≡ old.skim.kept.skip → old.skim.bytes + length piece < 2 ^ 64
    → IsLooking (record old { skim = skipped old.skim (length piece) }) (b ++ piece)
passes_out old b piece is all short =
    let back : IsBack old.skim b piece old.track old.time = comes_back old.skim b piece old.track old.time is.over is.partial all is.bytes short in
    record {
      stands = back.stands;
      partial = skipped_partial old.skim (length piece) is.over.some is.partial;
      count = is.count ∙ sym (fragments-append (body true b).items (Frag back.id back.fragment ∷ [])) ∙ ap fragments_in (sym back.items);
      found = is.found ∙ sym (found_still old.track old.time (body true b).items back.id back.fragment back.other) ∙ ap (first_from 1 old.track old.time) (sym back.items);
    }

pub skips_on : (old : Search) (b piece : List ℕ) → IsLooking old b ⊎ IsPassing old b → 0 < old.skim.kept.skip → length piece ≤ old.skim.kept.skip → old.skim.bytes + length piece < 2 ^ 64
    → LooksBy None (record old { skim = skipped old.skim (length piece) }) (b ++ piece)
skips_on old b piece (inl is) some within short = inl (skips_looking old b piece is some within short)
skips_on old b piece (inr is) some within short = by_left (old.skim.kept.skip - length piece) refl
  where
    by_left : (n : ℕ) → old.skim.kept.skip - length piece ≡ n → LooksBy None (record old { skim = skipped old.skim (length piece) }) (b ++ piece)
    by_left zero e = inl (passes_out old b piece is (omega (arith, e, within)) short)
    by_left (suc n) e = inr (passes_on old b piece is (omega (arith, e)) short)

-- an mdat is passed over from here on
pub passes_from : (old : Search) (b : List ℕ) (new : Skim) → IsLooking old b → PassesOver old.skim new old.track old.time
    → LooksBy None (record old { skim = new; count = old.count + 1 }) b
passes_from old b new is p =
    let partial : IsPartial (behind old.skim.kept p.size) = behind_partial old.skim.kept p.size is.partial in
    let over : IsOver (behind old.skim.kept p.size) b old.track old.time = passes_over old.skim.kept b old.track old.time p.size is.stands.later is.partial p.passable in
    rw p.now (inr (record { over = over; partial = partial; bytes = is.stands.count; count = ap (λ (n : ℕ). n + 1) is.count; found = is.found }))

-- ---- a piece that is refused

pub fault_refuses : (old new : Skim) (b piece : List ℕ) (items : List Given) (r : Refusal) → Stands true (standing old) b → PieceGives old.kept new.kept piece items (Err (faults.Refused r))
    → (body true (b ++ piece)).refusal ≡ Some r
fault_refuses old new b piece items r stands gives = ap (λ (o : Outcome). o.refusal) (fed_refused true (standing old) (standing new) new.kept b piece items r stands gives refl)

-- ---- the end

pub ends_so : (s : Search) (b : List ℕ) → IsLooking s b ⊎ IsPassing s b → cut_at (rest_of s.skim.kept []).inside s.skim.bytes ≡ body_end true b
ends_so s b (inl is) = ends_looking s.skim b is.stands
ends_so s b (inr is) = ends_passing s.skim b s.track s.time is.over is.partial is.bytes

-- what was found in a whole push is valid
pub valid_at_end : (s : Search) (b : List ℕ) → AllByRecursion IsValidItem (body true b).items → Looks s b → None ≡ body_end true b → (n : ℕ) (f : Fragment) → s.found ≡ Some (n, f) → IsValid f
valid_at_end s b valid h whole n f e = by_refusal s.refusal h
  where
    by_refusal : (r : Option Refusal) → LooksBy r s b → IsValid f
    by_refusal None (inl h) = found_valid 1 s.track s.time (body true b).items n f valid (sym h.found ∙ e)
    by_refusal None (inr h) = found_valid 1 s.track s.time (body true b).items n f valid (sym h.found ∙ e)
    by_refusal (Some r) h =
        let none : None ≡ Some r = whole ∙ ap (cut_off (body true b).inside (length b)) h in
        absurd cc
