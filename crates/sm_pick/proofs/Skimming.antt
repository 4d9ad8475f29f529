-- What is known of the bytes of a push of which some are passed over.
use Rattle.std.proofs.Common.{◌≡◌, ◌≤◌, ◌<◌, ◌+◌, ◌-◌, ℕ, zero, suc, Bool, true, false, ltb, ◌||◌, List, [], ◌∷◌, ◌++◌, length, drop, Some, None, Ok, refl, sym, ap, ◌∙◌, arith}
use Rattle.std.specs.Prelude.{is_some, min, ◌^◌}
use Rattle.std.proofs.lemmas.List.{append_assoc, append-nil, length-append, drop_all}
use Rattle.sm_model.specs.declared.cause.Cause.TheVariants.{CutOff}
use Rattle.sm_model.specs.declared.fragment.Fragment.{Fragment}
use Rattle.sm_model.specs.declared.run.RawFragment.{RawFragment}
use Rattle.sm_model.specs.Frag.{finish}
use Rattle.sm_model.specs.Items.{Given, Frag}
use Rattle.sm_push.specs.declared.kept.Kept.{Kept}
use Rattle.sm_push.specs.declared.state.BoxDecision.TheVariants.{Take}
use Rattle.sm_push.specs.declared.state.PendingMoof.{PendingMoof}
use Rattle.sm_push.specs.declared.state.TopBox.TheVariants.{Mdat}
use Rattle.sm_push.specs.Body.{Outcome, ended, led_by, stepped, walk, body, cut_off, body_end}
use Rattle.sm_push.specs.PushBoxes.{Step, taken, named, awaiting, mdat_taken}
use Rattle.sm_push.specs.PushHeads.{decision}
use Rattle.sm_push.specs.Standing.{IsPartial, PieceGives, Stands, rest_of}
use Rattle.sm_push.proofs.Stable.{decision-nil, stable}
use Rattle.sm_push.proofs.Walking.{walk-over, takes}
use Rattle.sm_push.proofs.Steps.{empty_partial, skip_advances, nothing_due, inside_skip, fed, ends_at}
use Rattle.sm_pick.specs.declared.skim.Skim.{Skim}
use Rattle.sm_pick.specs.Skim.{standing, skipped, behind, cut_at, is_at, IsComing, Passable}
use Rattle.sm_pick.specs.Search.{is_sought, Comes, IsInside, IsOver}

-- ---- bytes of a box that is passed over

-- what a push that passes over a box gives on, behind so many bytes of it
pub skips : (k : Kept) (piece more : List ℕ) → 0 < k.skip → IsPartial k → length piece ≤ k.skip
    → rest_of k (piece ++ more) ≡ walk k.state (k.skip - length piece) (k.held ++ more)
skips k piece more some p within =
    let none : drop (length piece) piece ≡ [] = drop_all (length piece) piece (omega arith) in
    skip_advances k (length piece) piece more some p within (omega arith) ∙ ap (λ (xs : List ℕ). walk k.state (k.skip - length piece) (k.held ++ (xs ++ more))) none

pub skipped_partial : (s : Skim) (n : ℕ) → 0 < s.kept.skip → IsPartial s.kept → IsPartial (skipped s n).kept
skipped_partial s n some p = record { skipping = λ _. p.skipping some; due = p.due; boxes = p.boxes }

skip_gives : (s : Skim) (piece : List ℕ) → 0 < s.kept.skip → IsPartial s.kept → length piece ≤ s.kept.skip → PieceGives s.kept (skipped s (length piece)).kept piece [] (Ok tt)
skip_gives s piece some p within more = skips s.kept piece more some p within

-- one that stands for bytes stands for them with the piece, which gives nothing
pub skipped_stands : (s : Skim) (b piece : List ℕ) → 0 < s.kept.skip → IsPartial s.kept → length piece ≤ s.kept.skip → s.bytes + length piece < 2 ^ 64 → Stands true (standing s) b
    → Stands true (standing (skipped s (length piece))) (b ++ piece) × ((body true (b ++ piece)).items ≡ (body true b).items)
skipped_stands s b piece some p within short stands =
    let a = fed true (standing s) (standing (skipped s (length piece))) b piece [] stands (skipped_partial s (length piece) some p) (skip_gives s piece some p within) refl (omega arith) in
    (a.0, a.1 ∙ append-nil _)

-- ---- an mdat that is passed over

-- the items before, then those of both
behind_both : (xs ys : List Given) (o : Outcome) → led_by xs (led_by ys o) ≡ led_by (xs ++ ys) o
behind_both xs ys o = ap (λ (zs : List Given). record { items = zs; refusal = o.refusal; inside = o.inside; header = o.header }) (sym (append_assoc xs ys o.items))

or_true : (a b : Bool) → b ≡ true → (a || b) ≡ true
or_true true b e = refl
or_true false b e = e

-- it is still open
open_inside : (k : Kept) (part : List ℕ) (moof : PendingMoof) (size : ℕ) → IsPartial k → k.skip ≡ 0 → k.state.moof ≡ Some moof → decision k.state k.held ≡ Take Mdat size
    → length k.held + length part < size → rest_of k part ≡ ended k.state true
open_inside k part moof size p here waits taken short =
    let held : List ℕ = k.held ++ part in
    let same : decision k.state held ≡ Take Mdat size = stable k.state k.held part (rw taken tt) ∙ taken in
    let now : Kept = record { state = k.state; held = held; skip = 0 } in
    let partial : IsPartial now = record { skipping = λ some. absurd (omega arith); due = rw same (omega (arith, length-append k.held part)); boxes = p.boxes } in
    let moof_is : is_some k.state.moof ≡ true = rw waits refl in
    let inside : (ltb 0 (length held) || is_some k.state.moof) ≡ true = or_true _ _ moof_is in
    rw here (ap (walk k.state 0) (sym (append-nil held)) ∙ nothing_due now partial ∙ ap (ended k.state) inside)

-- what its fragment and what follows give
whole_gives : (k : Kept) (rest more : List ℕ) (moof : PendingMoof) (size : ℕ) (raw : RawFragment) → k.skip ≡ 0 → k.state.moof ≡ Some moof → decision k.state k.held ≡ Take Mdat size
    → length k.held + length rest ≡ size → finish moof.size (k.held ++ rest) moof.run ≡ Ok raw
    → rest_of k (rest ++ more) ≡ led_by (Frag raw.id (named moof.track raw) ∷ []) (walk (awaiting k.state None size) 0 more)
unfolding taken
whole_gives k rest more moof size raw here waits taken whole says =
    let box : List ℕ = k.held ++ rest in
    let len : length box ≡ size = length-append k.held rest ∙ whole in
    let same : decision k.state box ≡ Take Mdat size = stable k.state k.held rest (rw taken tt) ∙ taken in
    let split : k.held ++ (rest ++ more) ≡ box ++ more = sym (append_assoc k.held rest more) in
    let step : mdat_taken k.state.moof k.state box ≡ Ok (Some (Frag raw.id (named moof.track raw)), awaiting k.state None size) = rw (waits, says, len) refl in
    rw here (ap (walk k.state 0) split ∙ takes k.state box more Mdat size same len ∙ ap (λ (x : Step). stepped k.state x size (λ next _. walk next 0 more)) step)

skip_none : (k : Kept) (size : ℕ) → IsPartial k → decision k.state k.held ≡ Take Mdat size → k.skip ≡ 0
skip_none k size p taken = by_skip k.skip refl
  where
    by_skip : (n : ℕ) → k.skip ≡ n → k.skip ≡ 0
    by_skip zero e = e
    by_skip (suc n) e =
        let none : k.held ≡ [] = p.skipping (omega (arith, e)) in
        let wait : decision k.state [] ≡ Take Mdat size = rw none at taken in
        absurd (let no = sym (decision-nil k.state) ∙ wait in cc)

not_sought : (track time : ℕ) (moof : PendingMoof) (raw : RawFragment) → raw.id ≡ moof.run.id → raw.time ≡ moof.run.time → is_at moof track time ≡ false
    → is_sought track time (Frag raw.id (named moof.track raw)) ≡ false
not_sought track time moof raw id at other = rw (id, at) other

-- what comes of it
comes_so : (k : Kept) (b rest : List ℕ) (track time size : ℕ) → ((more : List ℕ) → body true (b ++ more) ≡ led_by (body true b).items (rest_of k more)) → IsPartial k
    → (p : Passable k track time size) → length k.held + length rest ≡ size → Comes (behind k size) b rest track time
comes_so k b rest track time size later partial p whole =
    let come : IsComing p.moof (k.held ++ rest) = p.comes rest whole in
    let here : k.skip ≡ 0 = skip_none k size partial p.begun in
    let item : Given = Frag come.raw.id (named p.moof.track come.raw) in
    record {
      id = come.raw.id;
      fragment = named p.moof.track come.raw;
      other = not_sought track time p.moof come.raw come.id come.time p.other;
      later = λ more.
          let left : walk (awaiting k.state None size) (size - length k.held) (rest ++ more) ≡ walk (awaiting k.state None size) 0 more =
          walk-over (awaiting k.state None size) (size - length k.held) rest more (omega (arith, whole))
          ∙ ap (λ (n : ℕ). walk (awaiting k.state None size) n more) (omega (arith, whole)) in
          later (rest ++ more)
          ∙ ap (led_by (body true b).items) (whole_gives k rest more p.moof size come.raw here p.waits p.begun whole come.says ∙ ap (led_by (item ∷ [])) (sym left))
          ∙ behind_both (body true b).items (item ∷ []) (rest_of (behind k size) (rest ++ more));
    }

inside_so : (k : Kept) (b part : List ℕ) (track time size : ℕ) → ((more : List ℕ) → body true (b ++ more) ≡ led_by (body true b).items (rest_of k more)) → IsPartial k
    → (p : Passable k track time size) → length k.held + length part < size → IsInside b part
inside_so k b part track time size later partial p short =
    let o : body true (b ++ part) ≡ led_by (body true b).items (ended k.state true) =
    later part ∙ ap (led_by (body true b).items) (open_inside k part p.moof size partial (skip_none k size partial p.begun) p.waits p.begun short) in
    record {
      clear = ap (λ (x : Outcome). x.refusal) o;
      inside = ap (λ (x : Outcome). x.inside) o;
      items = ap (λ (x : Outcome). x.items) o ∙ append-nil _;
    }

pub passes_over : (k : Kept) (b : List ℕ) (track time size : ℕ) → ((more : List ℕ) → body true (b ++ more) ≡ led_by (body true b).items (rest_of k more)) → IsPartial k
    → Passable k track time size → IsOver (behind k size) b track time
passes_over k b track time size later partial p = record {
  some = omega (arith, p.short);
  inside = λ part short. inside_so k b part track time size later partial p (omega (arith, p.short, short));
  whole = λ rest whole. comes_so k b rest track time size later partial p (omega (arith, p.short, whole));
}

pub behind_partial : (k : Kept) (size : ℕ) → IsPartial k → IsPartial (behind k size)
behind_partial k size p = empty_partial (awaiting k.state None size) [] (size - length k.held) refl (record { stage = p.boxes.stage; moof = tt })

-- ---- bytes of an mdat that is passed over

inside_more : (k : Kept) (b piece part : List ℕ) (track time : ℕ) → IsOver k b track time → length piece + length part < k.skip → IsInside (b ++ piece) part
inside_more k b piece part track time over short =
    let all : IsInside b (piece ++ part) = over.inside (piece ++ part) (omega (arith, short, length-append piece part)) in
    let first : IsInside b piece = over.inside piece (omega (arith, short)) in
    let split : (b ++ piece) ++ part ≡ b ++ (piece ++ part) = append_assoc b piece part in
    record {
      clear = ap (λ (xs : List ℕ). (body true xs).refusal) split ∙ all.clear;
      inside = ap (λ (xs : List ℕ). (body true xs).inside) split ∙ all.inside;
      items = ap (λ (xs : List ℕ). (body true xs).items) split ∙ all.items ∙ sym first.items;
    }

comes_more : (s : Skim) (b piece rest : List ℕ) (track time : ℕ) → IsOver s.kept b track time → IsPartial s.kept → length piece < s.kept.skip → length rest ≡ s.kept.skip - length piece
    → Comes (skipped s (length piece)).kept (b ++ piece) rest track time
comes_more s b piece rest track time over partial short len =
    let come : Comes s.kept b (piece ++ rest) track time = over.whole (piece ++ rest) (omega (arith, short, len, length-append piece rest)) in
    let first : IsInside b piece = over.inside piece short in
    record {
      id = come.id;
      fragment = come.fragment;
      other = come.other;
      later = λ more.
          let split : (b ++ piece) ++ (rest ++ more) ≡ b ++ ((piece ++ rest) ++ more) = append_assoc b piece (rest ++ more) ∙ ap (λ (xs : List ℕ). b ++ xs) (sym (append_assoc piece rest more)) in
          let go : rest_of s.kept ((piece ++ rest) ++ more) ≡ rest_of (skipped s (length piece)).kept (rest ++ more) =
          ap (rest_of s.kept) (append_assoc piece rest more) ∙ skips s.kept piece (rest ++ more) over.some partial (omega (arith, short)) in
          ap (body true) split ∙ come.later more
          ∙ ap (λ (gs : List Given). led_by (gs ++ Frag come.id come.fragment ∷ []) (rest_of s.kept ((piece ++ rest) ++ more))) (sym first.items)
          ∙ ap (led_by ((body true (b ++ piece)).items ++ Frag come.id come.fragment ∷ [])) go;
    }

-- some of it is still missing
pub over_more : (s : Skim) (b piece : List ℕ) (track time : ℕ) → IsOver s.kept b track time → IsPartial s.kept → length piece < s.kept.skip
    → IsOver (skipped s (length piece)).kept (b ++ piece) track time
over_more s b piece track time over partial short = record {
  some = omega (arith, short);
  inside = λ part lt. inside_more s.kept b piece part track time over (omega (arith, short, lt));
  whole = λ rest len. comes_more s b piece rest track time over partial short len;
}

-- the end of it: the push stands for the bytes again, and the fragment came
pub record IsBack (s : Skim) (b piece : List ℕ) (track time : ℕ) : Type 0 where
  pub stands : Stands true (standing (skipped s (length piece))) (b ++ piece)
  pub id : ℕ
  pub fragment : Fragment
  pub other : is_sought track time (Frag id fragment) ≡ false
  pub items : (body true (b ++ piece)).items ≡ (body true b).items ++ Frag id fragment ∷ []

pub comes_back : (s : Skim) (b piece : List ℕ) (track time : ℕ) → IsOver s.kept b track time → IsPartial s.kept → length piece ≡ s.kept.skip → s.bytes ≡ min (length b) (2 ^ 64 - 1)
    → s.bytes + length piece < 2 ^ 64 → IsBack s b piece track time
comes_back s b piece track time over partial all counted short =
    let come : Comes s.kept b piece track time = over.whole piece all in
    let new : Skim = skipped s (length piece) in
    let gs : List Given = (body true b).items ++ Frag come.id come.fragment ∷ [] in
    let later : (more : List ℕ) → body true (b ++ (piece ++ more)) ≡ led_by gs (rest_of new.kept more) = λ more.
    come.later more ∙ ap (led_by gs) (skips s.kept piece more over.some partial (omega (arith, all))) in
    let end : body true (b ++ piece) ≡ led_by gs (ended new.kept.state _) =
    ap (λ (xs : List ℕ). body true (b ++ xs)) (sym (append-nil piece)) ∙ later [] ∙ ap (led_by gs) (nothing_due new.kept (skipped_partial s (length piece) over.some partial)) in
    let items : (body true (b ++ piece)).items ≡ gs = ap (λ (o : Outcome). o.items) end ∙ append-nil gs in
    record {
      stands = record {
        works = refl;
        clear = ap (λ (o : Outcome). o.refusal) end;
        count = omega (arith, counted, short, length-append b piece);
        header = sym (ap (λ (o : Outcome). o.header) end);
        later = λ more. ap (body true) (append_assoc b piece more) ∙ later more ∙ ap (λ (xs : List Given). led_by xs (rest_of new.kept more)) (sym items);
      };
      id = come.id;
      fragment = come.fragment;
      other = come.other;
      items = items;
    }

-- ---- the end

-- where the bytes may not end
pub ends_looking : (s : Skim) (b : List ℕ) → Stands true (standing s) b → cut_at (rest_of s.kept []).inside s.bytes ≡ body_end true b
ends_looking s b stands =
    let inside : (body true b).inside ≡ (rest_of s.kept []).inside = ends_at true (standing s) b _ stands refl in
    let clear : (body true b).refusal ≡ None = stands.clear in
    rw (inside, clear) (by_inside (rest_of s.kept []).inside)
  where
    by_inside : (inside : Bool) → cut_at inside s.bytes ≡ cut_off inside (length b) None
    by_inside true = ap (λ (n : ℕ). Some (record { at = n; cause = CutOff })) stands.count
    by_inside false = refl

pub ends_passing : (s : Skim) (b : List ℕ) (track time : ℕ) → IsOver s.kept b track time → IsPartial s.kept → s.bytes ≡ min (length b) (2 ^ 64 - 1)
    → cut_at (rest_of s.kept []).inside s.bytes ≡ body_end true b
ends_passing s b track time over partial counted =
    let here : IsInside b [] = over.inside [] over.some in
    let same : b ++ [] ≡ b = append-nil b in
    let inside : (body true b).inside ≡ true = ap (λ (xs : List ℕ). (body true xs).inside) (sym same) ∙ here.inside in
    let clear : (body true b).refusal ≡ None = ap (λ (xs : List ℕ). (body true xs).refusal) (sym same) ∙ here.clear in
    let skip : (rest_of s.kept []).inside ≡ true = sym (inside_skip s.kept partial over.some) in
    rw (inside, clear, skip) (ap (λ (n : ℕ). Some (record { at = n; cause = CutOff })) counted)
