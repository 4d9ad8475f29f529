-- A body of a `moof` and one box behind it, and the fragment that it is.
use Rattle.std.proofs.Common.{◌≡◌, ◌≢◌, ◌≤◌, ℕ, Bool, true, false, List, [], ◌∷◌, ◌++◌, length, take, drop, refl, ap, ◌∙◌, sym, subst, arith, take-append-drop}
use Rattle.std.specs.Prelude.{Ok, Err, Result, nat_le, codes, IsTrue}
use Rattle.std.proofs.lemmas.Bool.Decides.{nat_tests}
use Rattle.sm_model.specs.declared.cause.Cause.{Cause}
use Rattle.sm_model.specs.declared.run.RawFragment.{RawFragment}
use Rattle.sm_model.specs.Boxes.{Box, box_of, starts_whole, IsOneBox}
use Rattle.sm_model.specs.Found.{is_kind}
use Rattle.sm_model.specs.Frag.{frag}
use Rattle.sm_model.specs.Fragments.{sample_bytes}
use Rattle.sm_model.specs.Sound.{IsSoundFragment}
use Rattle.sm_model.proofs.BoxLemmas.{size_of}
use Rattle.sm_box.specs.Walks.{IsFront}
use Rattle.sm_moof.specs.Shown.{no_defaults}
use Rattle.sm_moof.proofs.FrontLemmas.{same_box}
use Rattle.sm_fetch.specs.Spelt.{IsFragmentAt}
use Rattle.sm_fetch.specs.TwoBoxes.{IsPair, HasNoPair, HasNoFragment}

-- what the law of whole boxes says
pub record Stays : Type 0 where
  pub whole : (b rest : List ℕ) → starts_whole b ≡ true → starts_whole (b ++ rest) ≡ true
  pub same : (b rest : List ℕ) → starts_whole b ≡ true → box_of (b ++ rest) ≡ box_of b

not_both : (b : Bool) → b ≡ true → b ≡ false → ⊥
not_both b is not = absurd (cc)

pub not_true : (b : Bool) (P : Type 0) → b ≡ false → (P → IsTrue b) → P → ⊥
not_true true P is to p = absurd (cc)
not_true false P is to p = let t : IsTrue false = to p in absurd (cc)

pub no_front : Stays → (body : List ℕ) → starts_whole body ≡ false → HasNoPair body
no_front stays body none moof mdat p =
    not_both (starts_whole body) (ap starts_whole p.body_is ∙ stays.whole moof mdat p.moof_whole.whole) none

-- the first box is as long as its size says
pub cut_at : Stays → (body moof mdat : List ℕ) (head size : ℕ) → IsFront body head size → IsPair body moof mdat → (take size body ≡ moof) × (drop size body ≡ mdat)
cut_at stays body moof mdat head size front p =
    let len : size ≡ length moof = front.size_is ∙ ap (λ (b : List ℕ). (box_of b).size) p.body_is
    ∙ ap (λ (x : Box). x.size) (stays.same moof mdat p.moof_whole.whole) ∙ size_of moof ∙ p.moof_whole.all in
    (ap (λ n. take n body) len ∙ ap (take (length moof)) p.body_is ∙ take_front moof mdat, ap (λ n. drop n body) len ∙ ap (drop (length moof)) p.body_is ∙ drop_front moof mdat)
  where
    take_front : (xs ys : List ℕ) → take (length xs) (xs ++ ys) ≡ xs
    take_front [] ys = refl
    take_front (x ∷ xs) ys = ap (λ t. x ∷ t) (take_front xs ys)

    drop_front : (xs ys : List ℕ) → drop (length xs) (xs ++ ys) ≡ ys
    drop_front [] ys = refl
    drop_front (x ∷ xs) ys = drop_front xs ys

pub not_one : Stays → (body : List ℕ) (head size : ℕ) → IsFront body head size → (IsOneBox (take size body) → ⊥) → HasNoPair body
not_one stays body head size front not moof mdat p =
    not (subst IsOneBox (sym (cut_at stays body moof mdat head size front p).0) p.moof_whole)

pub not_kind : Stays → (body : List ℕ) (head size : ℕ) → IsFront body head size → is_kind (codes "moof") (box_of (take size body)) ≡ false → HasNoPair body
not_kind stays body head size front not moof mdat p =
    not_both (is_kind (codes "moof") (box_of (take size body)))
    (ap (λ (b : List ℕ). is_kind (codes "moof") (box_of b)) (cut_at stays body moof mdat head size front p).0 ∙ p.moof_kind) not

pub not_rest : Stays → (body : List ℕ) (head size : ℕ) → IsFront body head size → (IsOneBox (drop size body) → ⊥) → HasNoPair body
not_rest stays body head size front not moof mdat p =
    not (subst IsOneBox (sym (cut_at stays body moof mdat head size front p).1) p.mdat_whole)

pub pair_at : (body : List ℕ) (size : ℕ) → IsOneBox (take size body) → is_kind (codes "moof") (box_of (take size body)) ≡ true → IsOneBox (drop size body)
    → IsPair body (take size body) (drop size body)
pair_at body size one kind rest = record { body_is = sym (take-append-drop size body); moof_whole = one; moof_kind = kind; mdat_whole = rest }

-- ---- fragments

pub pair_of : (time : ℕ) (body : List ℕ) (raw : RawFragment) (f : IsFragmentAt time body raw) → IsPair body f.moof f.mdat
pair_of time body raw f = record { body_is = f.body_is; moof_whole = f.moof_whole; moof_kind = f.moof_kind; mdat_whole = f.mdat_whole }

-- a body has one `moof`
pub same_moof : (body x xs y ys : List ℕ) → IsPair body x xs → IsPair body y ys → x ≡ y
same_moof body x xs y ys p q = (same_box x y xs ys p.moof_whole q.moof_whole (sym p.body_is ∙ q.body_is)).0

-- the two boxes of a body say one thing
says : (time : ℕ) (body moof mdat : List ℕ) (raw : RawFragment) → IsPair body moof mdat → IsFragmentAt time body raw → frag no_defaults moof mdat ≡ Ok raw
says time body moof mdat raw p f =
    let e = same_box moof f.moof mdat f.mdat p.moof_whole f.moof_whole (sym p.body_is ∙ f.body_is) in
    ap (λ (x : List ℕ). frag no_defaults x mdat) e.0 ∙ ap (frag no_defaults f.moof) e.1 ∙ f.read

one_raw : (x y : RawFragment) (r : Result RawFragment Cause) → r ≡ Ok x → r ≡ Ok y → x ≡ y
one_raw x y r e f = cc

pub no_pair : (time : ℕ) (body : List ℕ) → HasNoPair body → HasNoFragment time body
no_pair time body none raw f = none f.moof f.mdat (pair_of time body raw f)

pub refused : (time : ℕ) (body moof mdat : List ℕ) (cause : Cause) → IsPair body moof mdat → frag no_defaults moof mdat ≡ Err cause → HasNoFragment time body
refused time body moof mdat cause p why raw f =
    let ok = says time body moof mdat raw p f in two cause raw (frag no_defaults moof mdat) why ok
  where
    two : (cause : Cause) (raw : RawFragment) (r : Result RawFragment Cause) → r ≡ Err cause → r ≡ Ok raw → ⊥
    two cause raw r e f = absurd (cc)

pub other_time : (time : ℕ) (body moof mdat : List ℕ) (raw : RawFragment) → IsPair body moof mdat → frag no_defaults moof mdat ≡ Ok raw → raw.time ≢ time
    → HasNoFragment time body
other_time time body moof mdat raw p ok other found f =
    other (ap (λ (r : RawFragment). r.time) (one_raw raw found (frag no_defaults moof mdat) ok (says time body moof mdat found p f)) ∙ f.time_is)

pub too_long : (time : ℕ) (body moof mdat : List ℕ) (raw : RawFragment) → IsPair body moof mdat → frag no_defaults moof mdat ≡ Ok raw
    → nat_le (sample_bytes raw.samples) 67108864 ≡ false → HasNoFragment time body
too_long time body moof mdat raw p ok long found f =
    let same = ap (λ (r : RawFragment). sample_bytes r.samples) (one_raw raw found (frag no_defaults moof mdat) ok (says time body moof mdat found p f)) in
    above (sample_bytes raw.samples) (sample_bytes found.samples) same long f.valid.short
  where
    above : (n m : ℕ) → n ≡ m → nat_le n 67108864 ≡ false → m ≤ 67108864 → ⊥
    above n m same long short = absurd (grind (arith, nat_tests))

pub fragment_at : (time : ℕ) (body moof mdat : List ℕ) (raw : RawFragment) → IsPair body moof mdat → frag no_defaults moof mdat ≡ Ok raw
    → IsSoundFragment mdat raw → raw.time ≡ time → nat_le (sample_bytes raw.samples) 67108864 ≡ true → IsFragmentAt time body raw
fragment_at time body moof mdat raw p ok sound is short = record {
  moof = moof;
  mdat = mdat;
  body_is = p.body_is;
  moof_whole = p.moof_whole;
  moof_kind = p.moof_kind;
  mdat_whole = p.mdat_whole;
  read = ok;
  valid = record { some = sound.some; few = sound.few; lasts = sound.lasts; ends = sound.ends; short = below (sample_bytes raw.samples) short };
  time_is = is;
}
  where
    below : (n : ℕ) → nat_le n 67108864 ≡ true → n ≤ 67108864
    below n short = grind (arith, nat_tests)
