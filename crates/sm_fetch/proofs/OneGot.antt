-- An answer spells one thing, beside want of memory.
use Rattle.std.proofs.Common.{◌≡◌, ◌≢◌, ℕ, ◌⊎◌, List, refl, ap, ◌∙◌, sym, subst, inl, inr}
use Rattle.std.specs.Prelude.{Ok, Err, Result}
use Rattle.sm_model.specs.declared.run.RawFragment.{RawFragment}
use Rattle.sm_model.specs.Frag.{frag}
use Rattle.sm_manin.specs.declared.listing.Listing.{Listing}
use Rattle.sm_manin.specs.ManifestRead.{IsManifest}
use Rattle.sm_manin.proofs.OneReading.{one_reading}
use Rattle.sm_moof.specs.Shown.{no_defaults}
use Rattle.sm_moof.proofs.FrontLemmas.{same_box}
use Rattle.sm_fetch.specs.declared.dial.Answer.{Answer}
use Rattle.sm_fetch.specs.declared.dial.Answer.TheVariants as answers
use Rattle.sm_fetch.specs.declared.got.Got.{Got}
use Rattle.sm_fetch.specs.declared.got.Got.TheVariants as got
use Rattle.sm_fetch.specs.declared.push.Pushed.{Pushed}
use Rattle.sm_fetch.specs.declared.push.Pushed.TheVariants as pushed
use Rattle.sm_fetch.specs.Answered.{IsWholeReply, IsCutReply, IsNoReply}
use Rattle.sm_fetch.specs.Spelt.{IsFragmentAt, SpellsListing, SpellsSamples, SpellsLine, SpellsManifest, SpellsFragment, SpellsPush}
use Rattle.sm_fetch.specs.OneReading.{AreOne, AreOnePush}
use Rattle.sm_fetch.proofs.OneReply.{one_whole, whole_isnt_cut, whole_isnt_none, cut_isnt_none, one_none}

-- ---- whatever the bodies are read as

data Spelt (V : Type 0) : Type 0 where
  value : V → Spelt V
  status : ℕ → Spelt V
  cut : Spelt V
  unreadable : ℕ → Spelt V

abbrev SpeltBy : {V : Type 0} → (List ℕ → V → Type 0) → List ℕ → Spelt V → Type 0
SpeltBy B bytes (value v) = (at : ℕ) × (body : List ℕ) × IsWholeReply bytes 200 at body × B body v
SpeltBy B bytes (status s) = (at : ℕ) × (body : List ℕ) × IsWholeReply bytes s at body × (s ≢ 200)
SpeltBy B bytes cut = IsCutReply bytes
SpeltBy {V} B bytes (unreadable at) = IsNoReply bytes at ⊎ ((body : List ℕ) × IsWholeReply bytes 200 at body × ((v : V) → B body v → ⊥))

one_spelt : {V : Type 0} → (B : List ℕ → V → Type 0) → ((body : List ℕ) (v w : V) → B body v → B body w → v ≡ w) → (bytes : List ℕ) (x y : Spelt V)
    → SpeltBy B bytes x → SpeltBy B bytes y → x ≡ y
one_spelt B one bytes (value v) (value w) (a, body, whole, is) (b, other, too, also) =
    let same = one_whole bytes 200 a body 200 b other whole too in ap value (one body v w is (subst (λ (t : List ℕ). B t w) same.2 also))
one_spelt B one bytes (value v) (status s) (a, body, whole, is) (b, other, too, not) = absurd (not (one_whole bytes 200 a body s b other whole too).0)
one_spelt B one bytes (value v) cut (a, body, whole, is) c = absurd (whole_isnt_cut bytes 200 a body whole c)
one_spelt B one bytes (value v) (unreadable at) (a, body, whole, is) (inl none) = absurd (whole_isnt_none bytes 200 a body at whole none)
one_spelt B one bytes (value v) (unreadable at) (a, body, whole, is) (inr (other, too, not)) =
    let same = one_whole bytes 200 a body 200 at other whole too in absurd (not v (subst (λ (t : List ℕ). B t v) (sym same.2) is))
one_spelt B one bytes (status s) (value w) (a, body, whole, not) (b, other, too, also) = absurd (not (one_whole bytes 200 b other s a body too whole).0)
one_spelt B one bytes (status s) (status t) (a, body, whole, not) (b, other, too, nor) = ap status (sym (one_whole bytes s a body t b other whole too).0)
one_spelt B one bytes (status s) cut (a, body, whole, not) c = absurd (whole_isnt_cut bytes s a body whole c)
one_spelt B one bytes (status s) (unreadable at) (a, body, whole, not) (inl none) = absurd (whole_isnt_none bytes s a body at whole none)
one_spelt B one bytes (status s) (unreadable at) (a, body, whole, not) (inr (other, too, nor)) = absurd (not (one_whole bytes 200 at other s a body too whole).0)
one_spelt B one bytes cut (value w) c (b, other, too, also) = absurd (whole_isnt_cut bytes 200 b other too c)
one_spelt B one bytes cut (status t) c (b, other, too, nor) = absurd (whole_isnt_cut bytes t b other too c)
one_spelt B one bytes cut cut c d = refl
one_spelt B one bytes cut (unreadable at) c (inl none) = absurd (cut_isnt_none bytes at c none)
one_spelt B one bytes cut (unreadable at) c (inr (other, too, nor)) = absurd (whole_isnt_cut bytes 200 at other too c)
one_spelt B one bytes (unreadable at) (value w) (inl none) (b, other, too, also) = absurd (whole_isnt_none bytes 200 b other at too none)
one_spelt B one bytes (unreadable at) (value w) (inr (body, whole, not)) (b, other, too, also) =
    let same = one_whole bytes 200 at body 200 b other whole too in absurd (not w (subst (λ (t : List ℕ). B t w) same.2 also))
one_spelt B one bytes (unreadable at) (status t) (inl none) (b, other, too, nor) = absurd (whole_isnt_none bytes t b other at too none)
one_spelt B one bytes (unreadable at) (status t) (inr (body, whole, not)) (b, other, too, nor) = absurd (nor (one_whole bytes 200 at body t b other whole too).0)
one_spelt B one bytes (unreadable at) cut (inl none) c = absurd (cut_isnt_none bytes at c none)
one_spelt B one bytes (unreadable at) cut (inr (body, whole, not)) c = absurd (whole_isnt_cut bytes 200 at body whole c)
one_spelt B one bytes (unreadable at) (unreadable bt) (inl none) (inl nor) = ap unreadable (one_none bytes at bt none nor)
one_spelt B one bytes (unreadable at) (unreadable bt) (inl none) (inr (other, too, nor)) = absurd (whole_isnt_none bytes 200 bt other at too none)
one_spelt B one bytes (unreadable at) (unreadable bt) (inr (body, whole, not)) (inl nor) = absurd (whole_isnt_none bytes 200 at body bt whole nor)
one_spelt B one bytes (unreadable at) (unreadable bt) (inr (body, whole, not)) (inr (other, too, nor)) = ap unreadable (sym (one_whole bytes 200 at body 200 bt other whole too).1)

-- ---- manifests

ok_same : {A E : Type 0} (x y : A) (r : Result A E) → r ≡ Ok x → r ≡ Ok y → x ≡ y
ok_same x y r e f = cc

IsListing : List ℕ → Listing → Type 0
IsListing body listing = IsManifest body (Ok listing)

one_listing : (body : List ℕ) (v w : Listing) → IsListing body v → IsListing body w → v ≡ w
unfolding IsListing
one_listing body v w is also = ok_same v w (Ok v) refl (one_reading body (Ok v) (Ok w) is also)

not_both : (body : List ℕ) (wrong : ℕ) → IsManifest body (Err wrong) → (v : Listing) → IsListing body v → ⊥
unfolding IsListing
not_both body wrong bad v is = two wrong v (one_reading body (Err wrong) (Ok v) bad is)
  where
    two : (wrong : ℕ) (v : Listing) → ◌≡◌ {A = Result Listing ℕ} (Err wrong) (Ok v) → ⊥
    two wrong v e = absurd (cc)

listing_got : Spelt Listing → Got
listing_got (value v) = got.Manifest v
listing_got (status s) = got.Status s
listing_got cut = got.Cut
listing_got (unreadable at) = got.Unreadable at

listing_spelt : (bytes : List ℕ) (g : Got) → SpellsListing bytes g → (g ≡ got.NoMemory) ⊎ ((x : Spelt Listing) × SpeltBy IsListing bytes x × (g ≡ listing_got x))
unfolding IsListing listing_got
listing_spelt bytes (got.Manifest listing) is = inr (value listing, is, refl)
listing_spelt bytes (got.Fragment raw) is = absurd is
listing_spelt bytes (got.Status s) is = inr (status s, is, refl)
listing_spelt bytes got.Cut is = inr (cut, is, refl)
listing_spelt bytes (got.Unreadable at) (inl none) = inr (unreadable at, inl none, refl)
listing_spelt bytes (got.Unreadable at) (inr (body, whole, (wrong, bad))) = inr (unreadable at, inr (body, whole, not_both body wrong bad), refl)
listing_spelt bytes got.Lost is = absurd is
listing_spelt bytes got.NoMemory is = inl refl

-- ---- fragments

one_fragment : (time : ℕ) (body : List ℕ) (v w : RawFragment) → IsFragmentAt time body v → IsFragmentAt time body w → v ≡ w
one_fragment time body v w f o =
    let e = same_box f.moof o.moof f.mdat o.mdat f.moof_whole o.moof_whole (sym f.body_is ∙ o.body_is) in
    ok_same v w (frag no_defaults f.moof f.mdat) f.read (ap (λ (x : List ℕ). frag no_defaults x f.mdat) e.0 ∙ ap (frag no_defaults o.moof) e.1 ∙ o.read)

fragment_got : Spelt RawFragment → Got
fragment_got (value v) = got.Fragment v
fragment_got (status s) = got.Status s
fragment_got cut = got.Cut
fragment_got (unreadable at) = got.Unreadable at

fragment_spelt : (time : ℕ) (bytes : List ℕ) (g : Got) → SpellsSamples time bytes g
    → (g ≡ got.NoMemory) ⊎ ((x : Spelt RawFragment) × SpeltBy (IsFragmentAt time) bytes x × (g ≡ fragment_got x))
unfolding fragment_got
fragment_spelt time bytes (got.Manifest listing) is = absurd is
fragment_spelt time bytes (got.Fragment raw) is = inr (value raw, is, refl)
fragment_spelt time bytes (got.Status s) is = inr (status s, is, refl)
fragment_spelt time bytes got.Cut is = inr (cut, is, refl)
fragment_spelt time bytes (got.Unreadable at) is = inr (unreadable at, is, refl)
fragment_spelt time bytes got.Lost is = absurd is
fragment_spelt time bytes got.NoMemory is = inl refl

-- ---- answers

abbrev Way : {V : Type 0} → (List ℕ → V → Type 0) → (Spelt V → Got) → List ℕ → Got → Type 0
Way {V} B make bytes g = (g ≡ got.NoMemory) ⊎ ((x : Spelt V) × SpeltBy B bytes x × (g ≡ make x))

joined : {V : Type 0} → (B : List ℕ → V → Type 0) (make : Spelt V → Got) → ((body : List ℕ) (v w : V) → B body v → B body w → v ≡ w) → (bytes : List ℕ) (g h : Got)
    → Way B make bytes g → Way B make bytes h → AreOne g h
joined B make one bytes g h (inl none) also = inr (inl none)
joined B make one bytes g h (inr (x, is, from)) (inl none) = inr (inr none)
joined B make one bytes g h (inr (x, is, from)) (inr (y, also, too)) = inl (from ∙ ap make (one_spelt B one bytes x y is also) ∙ sym too)

pub one_manifest_got : (answer : Answer) (g h : Got) → SpellsManifest answer g → SpellsManifest answer h → AreOne g h
one_manifest_got (answers.Bytes bytes) g h is also = joined IsListing listing_got one_listing bytes g h (listing_spelt bytes g is) (listing_spelt bytes h also)
one_manifest_got answers.Lost g h is also = inl (is ∙ sym also)
one_manifest_got answers.NoMemory g h is also = inl (is ∙ sym also)

pub one_fragment_got : (time : ℕ) (answer : Answer) (g h : Got) → SpellsFragment time answer g → SpellsFragment time answer h → AreOne g h
one_fragment_got time (answers.Bytes bytes) g h is also =
    joined (IsFragmentAt time) fragment_got (one_fragment time) bytes g h (fragment_spelt time bytes g is) (fragment_spelt time bytes h also)
one_fragment_got time answers.Lost g h is also = inl (is ∙ sym also)
one_fragment_got time answers.NoMemory g h is also = inl (is ∙ sym also)

one_line : (bytes : List ℕ) (p q : Pushed) → SpellsLine bytes p → SpellsLine bytes q → AreOnePush p q
one_line bytes (pushed.Status s line) (pushed.Status t other) (a, whole) (b, too) =
    let same = one_whole bytes s a line t b other whole too in inl (ap (λ n. pushed.Status n line) (sym same.0) ∙ ap (λ (l : List ℕ). pushed.Status t l) (sym same.2))
one_line bytes (pushed.Status s line) pushed.Cut (a, whole) c = absurd (whole_isnt_cut bytes s a line whole c)
one_line bytes (pushed.Status s line) (pushed.Unreadable at) (a, whole) none = absurd (whole_isnt_none bytes s a line at whole none)
one_line bytes (pushed.Status s line) pushed.Lost is also = absurd also
one_line bytes p pushed.NoMemory is also = inr (inr refl)
one_line bytes pushed.Cut (pushed.Status t other) c (b, too) = absurd (whole_isnt_cut bytes t b other too c)
one_line bytes pushed.Cut pushed.Cut is also = inl refl
one_line bytes pushed.Cut (pushed.Unreadable at) c none = absurd (cut_isnt_none bytes at c none)
one_line bytes pushed.Cut pushed.Lost is also = absurd also
one_line bytes (pushed.Unreadable at) (pushed.Status t other) none (b, too) = absurd (whole_isnt_none bytes t b other at too none)
one_line bytes (pushed.Unreadable at) pushed.Cut none c = absurd (cut_isnt_none bytes at c none)
one_line bytes (pushed.Unreadable at) (pushed.Unreadable bt) none nor = inl (ap (λ n. pushed.Unreadable n) (one_none bytes at bt none nor))
one_line bytes (pushed.Unreadable at) pushed.Lost is also = absurd also
one_line bytes pushed.Lost q is also = absurd is
one_line bytes pushed.NoMemory q is also = inr (inl refl)

pub one_pushed : (answer : Answer) (p q : Pushed) → SpellsPush answer p → SpellsPush answer q → AreOnePush p q
one_pushed (answers.Bytes bytes) p q is also = one_line bytes p q is also
one_pushed answers.Lost p q is also = inl (is ∙ sym also)
one_pushed answers.NoMemory p q is also = inl (is ∙ sym also)
