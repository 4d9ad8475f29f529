-- The lines of a log, one entry after the other, and where its entries stand.
use Rattle.std.proofs.Common.{◌≡◌, ◌<◌, ◌≤◌, ◌+◌, ℕ, zero, suc, List, [], ◌∷◌, ◌++◌, length, take, Option, Some, None, Result, Ok, Err, refl, sym, ap, subst, ◌∙◌, arith}
use Rattle.std.specs.Prelude.{is_some, slice_get, IfSome, IsSome, IfOk, IfErr, IsErrOf}
use Rattle.std.specs.Option.{option_map}
use Rattle.std.proofs.lemmas.List.{append-nil, append_assoc, take_all}
use Rattle.sm_model.specs.declared.address.Address.{Address}
use Rattle.sm_model.specs.declared.entry.Entry.{Entry}
use Rattle.sm_model.specs.declared.entry.Entry.TheVariants.{Keep}
use Rattle.sm_model.specs.declared.fragment.Fragment.{Fragment}
use Rattle.sm_model.specs.Entries.{address_of}
use Rattle.sm_log.specs.Adds.{place_of}
use Rattle.sm_log.specs.Logs.{adds_of, kept_at, IsSound}
use Rattle.sm_site.specs.Clauses.{Both, Recorded, Rose}
use Rattle.sm_site.specs.Image.{Image}
use Rattle.sm_site.specs.Meanings.{View, Seen}
use Rattle.sm_archive.specs.declared.archive.Archive.{Archive}
use Rattle.sm_archive.specs.Opening.{NotAStore}
use Rattle.sm_archive.specs.Stands.{Stands}
use Rattle.sm_archive.specs.Store.{IsStore}
use Rattle.sm_command.specs.declared.fault.StoreFault.{StoreFault}
use Rattle.sm_command.specs.declared.fault.StoreFault.TheVariants as fault
use Rattle.sm_command.specs.Choosing.{WhyUnchosen}
use Rattle.sm_command.specs.Opening.{IsOpened}
use Rattle.sm_command.specs.Serving.{WhyUnopened}
use Rattle.sm_command.specs.Lasting.{NoFewer, Untouched}
use Rattle.sm_command.specs.Listing.{kept_line, line_at, line_in, lines_from, lines_of, UnlistedBy, WhyUnlisted, WhyUnput}

-- ---- lines

pub lines_next : (p i : ℕ) (log : List Entry) → i < length log → lines_from p (take (suc i) log) ≡ lines_from p (take i log) ++ line_in (i + p) (slice_get log i)
lines_next p i [] lt = absurd (omega arith)
lines_next p zero (e ∷ log) lt =
    let n : 0 + p ≡ p = omega arith in
    append-nil (line_at p e) ∙ sym (ap (λ (k : ℕ). line_at k e) n)
lines_next p (suc i) (e ∷ log) lt =
    let n : i + suc p ≡ suc i + p = omega arith in
    ap (λ (more : List ℕ). line_at p e ++ more) (lines_next (suc p) i log (omega (arith, lt)))
    ∙ sym (append_assoc (line_at p e) (lines_from (suc p) (take i log)) (line_in (i + suc p) (slice_get log i)))
    ∙ ap (λ (k : ℕ). (line_at p e ++ lines_from (suc p) (take i log)) ++ line_in k (slice_get log i)) n

-- one line more
pub text_next : (i : ℕ) (log : List Entry) (text line text' : List ℕ) → i < length log → text ≡ lines_from 0 (take i log) → line ≡ line_in i (slice_get log i) → text' ≡ text ++ line
    → text' ≡ lines_from 0 (take (i + 1) log)
text_next i log text line text' lt was one is =
    let n : suc i ≡ i + 1 = omega arith in
    let same : i + 0 ≡ i = omega arith in
    is
    ∙ ap (λ (t : List ℕ). t ++ line) was
    ∙ ap (λ (t : List ℕ). lines_from 0 (take i log) ++ t) (one ∙ sym (ap (λ (k : ℕ). line_in k (slice_get log i)) same))
    ∙ sym (lines_next 0 i log lt)
    ∙ ap (λ (k : ℕ). lines_from 0 (take k log)) n

pub all_lines : (n : ℕ) (log : List Entry) (text : List ℕ) → n ≡ length log → text ≡ lines_from 0 (take n log) → text ≡ lines_from 0 log
all_lines n log text e is = is ∙ ap (λ (l : List Entry). lines_from 0 l) (take_all n log (omega (arith, e)))

-- ---- places

-- an entry with what stands before it and behind it
pub record IsPlaced (log : List Entry) (p : ℕ) (e : Entry) : Type 0 where
  pub front : List Entry
  pub back : List Entry
  pub whole : log ≡ front ++ e ∷ back
  pub place : length front ≡ p

some_is : (x y : Entry) → Some x ≡ Some y → x ≡ y
some_is x y e = cc

pub placed : (log : List Entry) (p : ℕ) (e : Entry) → slice_get log p ≡ Some e → IsPlaced log p e
placed [] p e h = absurd cc
placed (x ∷ log) zero e h = record { front = []; back = log; whole = ap (λ (y : Entry). y ∷ log) (some_is x e h); place = refl }
placed (x ∷ log) (suc p) e h =
    let behind = placed log p e h in
    record { front = x ∷ behind.front; back = behind.back; whole = ap (λ (l : List Entry). x ∷ l) behind.whole; place = ap suc behind.place }

-- in a sound log a fragment's address is that of its own place
pub place_there : ((log : List Entry) (address : Address) → place_of address (adds_of log) ≡ option_map (λ (k : ℕ × Fragment). k.0) (kept_at log address))
    → ((front back : List Entry) (f : Fragment) → IsSound (front ++ Keep f ∷ back) → kept_at (front ++ Keep f ∷ back) (address_of f) ≡ Some (length front, f))
    → (log : List Entry) (p : ℕ) (f : Fragment) → IsSound log → slice_get log p ≡ Some (Keep f) → place_of (address_of f) (adds_of log) ≡ Some p
place_there added one log p f sound h =
    let at = placed log p (Keep f) h in
    let kept : kept_at log (address_of f) ≡ Some (length at.front, f) =
    subst (λ (l : List Entry). IsSound l → kept_at l (address_of f) ≡ Some (length at.front, f)) (sym at.whole) (one at.front at.back f) sound in
    added log (address_of f) ∙ ap (λ (k : Option (ℕ × Fragment)). option_map (λ (k : ℕ × Fragment). k.0) k) kept ∙ ap (λ (n : ℕ). Some n) at.place

some_number : (x y : ℕ) → Some x ≡ Some y → x ≡ y
some_number x y e = cc

-- what is found at the address of a place is what stands there
pub line_there : ((log : List Entry) (address : Address) → place_of address (adds_of log) ≡ option_map (λ (k : ℕ × Fragment). k.0) (kept_at log address))
    → ((front back : List Entry) (f : Fragment) → IsSound (front ++ Keep f ∷ back) → kept_at (front ++ Keep f ∷ back) (address_of f) ≡ Some (length front, f))
    → (log : List Entry) (p : ℕ) (f g : Fragment) (a : Address) (at : ℕ) → IsSound log → slice_get log p ≡ Some (Keep f) → a ≡ address_of f
    → place_of a (adds_of log) ≡ Some at → slice_get log at ≡ Some (Keep g) → kept_line p g ≡ line_in p (slice_get log p)
line_there added one log p f g a at sound here is found there =
    let same : at ≡ p = some_number at p (sym found ∙ ap (λ (x : Address). place_of x (adds_of log)) is ∙ place_there added one log p f sound here) in
    ap (λ (e : Option Entry). line_in p e) (sym there ∙ ap (λ (k : ℕ). slice_get log k) same)

pub not_absent : ((log : List Entry) (address : Address) → place_of address (adds_of log) ≡ option_map (λ (k : ℕ × Fragment). k.0) (kept_at log address))
    → ((front back : List Entry) (f : Fragment) → IsSound (front ++ Keep f ∷ back) → kept_at (front ++ Keep f ∷ back) (address_of f) ≡ Some (length front, f))
    → (log : List Entry) (p : ℕ) (f : Fragment) (a : Address) → IsSound log → slice_get log p ≡ Some (Keep f) → a ≡ address_of f → place_of a (adds_of log) ≡ None → ⊥
not_absent added one log p f a sound here is none =
    let both : Some p ≡ None = sym (place_there added one log p f sound here) ∙ sym (ap (λ (x : Address). place_of x (adds_of log)) is) ∙ none in
    cc

-- ---- whether the contents are told

both_told : {A : Type 0} (old new : Option A) (R : A → A → Type 0) → Both old new R → is_some new ≡ is_some old
both_told None None R h = refl
both_told (Some a) (Some b) R h = refl
both_told (Some a) None R h = absurd h
both_told None (Some b) R h = absurd h

pub told_stays : {D : Type 0} (view : D → View) → ((d : D) → is_some (view d).calls ≡ is_some (view d).contents) → (old new : D) → Recorded (view old) (view new)
    → is_some (view new).contents ≡ is_some (view old).contents
told_stays view calls_told old new h = sym (calls_told new) ∙ both_told (view old).calls (view new).calls _ h ∙ calls_told old

-- ---- why there is no list

rose_later : (a b c : ℕ) → a ≤ b → Rose b c → Rose a c
rose_later a b c le rose =
    let later = rose.later in
    record { later = omega (arith, le, later); rose = λ last. (let now = rose.rose last in omega (arith, le, now)) }

-- the fault of a later call is that of the whole
pub unput_later : (a b c : View) (why : StoreFault) → a.disk_faults ≤ b.disk_faults → is_some b.contents ≡ is_some a.contents → WhyUnput b c why → WhyUnput a c why
unput_later a b c fault.DiskFault le told h = rose_later a.disk_faults b.disk_faults c.disk_faults le h
unput_later a b c fault.LinkFault le told h = h
unput_later a b c (fault.NotAStore at) le told h = h
unput_later a b c fault.Unread le told h = h
unput_later a b c fault.LongLadder le told h = h
unput_later a b c (fault.BadLadder at) le told h = h
unput_later a b c (fault.Refused cause) le told h = h
unput_later a b c fault.Full le told h = h
unput_later a b c fault.Damaged le told h = λ some. h (told ∙ some)
unput_later a b c fault.NoMemory le told h = omega (arith, le, h)

pub unlisted : (a b c : View) (why : StoreFault) → a.disk_faults ≤ b.disk_faults → is_some b.contents ≡ is_some a.contents → WhyUnput b c why → UnlistedBy a c why
unlisted a b c fault.DiskFault le told h = rose_later a.disk_faults b.disk_faults c.disk_faults le h
unlisted a b c fault.LinkFault le told h = absurd h
unlisted a b c (fault.NotAStore at) le told h = absurd h
unlisted a b c fault.Unread le told h = h
unlisted a b c fault.LongLadder le told h = h
unlisted a b c (fault.BadLadder at) le told h = h
unlisted a b c (fault.Refused cause) le told h = h
unlisted a b c fault.Full le told h = h
unlisted a b c fault.Damaged le told h = λ some. h (told ∙ some)
unlisted a b c fault.NoMemory le told h = omega (arith, le, h)

pub unlisted_later : (a b c : View) (why : StoreFault) → b.contents ≡ a.contents → a.disk_faults ≤ b.disk_faults → a.link_faults ≤ b.link_faults → UnlistedBy b c why → UnlistedBy a c why
unlisted_later a b c fault.DiskFault same disk link h = rose_later a.disk_faults b.disk_faults c.disk_faults disk h
unlisted_later a b c fault.LinkFault same disk link h = rose_later a.link_faults b.link_faults c.link_faults link h
unlisted_later a b c (fault.NotAStore at) same disk link h = subst (λ (x : Option Image). IfSome x (NotAStore at)) same h
unlisted_later a b c fault.Unread same disk link h = h
unlisted_later a b c fault.LongLadder same disk link h = h
unlisted_later a b c (fault.BadLadder at) same disk link h = h
unlisted_later a b c (fault.Refused cause) same disk link h = h
unlisted_later a b c fault.Full same disk link h = h
unlisted_later a b c fault.Damaged same disk link h = λ some. h (ap (λ (x : Option Image). is_some x) same ∙ some)
unlisted_later a b c fault.NoMemory same disk link h = omega (arith, disk, h)

pub unlisted_chosen : (a b : View) (why : StoreFault) → WhyUnchosen a b why → UnlistedBy a b why
unlisted_chosen a b fault.DiskFault h = h
unlisted_chosen a b fault.LinkFault h = h
unlisted_chosen a b (fault.NotAStore at) h = absurd h
unlisted_chosen a b fault.Unread h = h
unlisted_chosen a b fault.LongLadder h = h
unlisted_chosen a b (fault.BadLadder at) h = h
unlisted_chosen a b (fault.Refused cause) h = h
unlisted_chosen a b fault.Full h = h
unlisted_chosen a b fault.Damaged h = absurd h
unlisted_chosen a b fault.NoMemory h = h.disk

pub unlisted_unopened : (a b : View) (why : StoreFault) → WhyUnopened a b why → UnlistedBy a b why
unlisted_unopened a b fault.DiskFault h = h
unlisted_unopened a b fault.LinkFault h = h
unlisted_unopened a b (fault.NotAStore at) h = h
unlisted_unopened a b fault.Unread h = h
unlisted_unopened a b fault.LongLadder h = h
unlisted_unopened a b (fault.BadLadder at) h = h
unlisted_unopened a b (fault.Refused cause) h = h
unlisted_unopened a b fault.Full h = h
unlisted_unopened a b fault.Damaged h = absurd h
unlisted_unopened a b fault.NoMemory h = h.disk

-- neither a place nor the choice of a site says that the files are no store
pub put_is_placed : (a b : View) (r : Result (List ℕ) StoreFault) → IfErr r (λ why. WhyUnput a b why) → (at : ℕ) → IsErrOf r (fault.NotAStore at) → ⊥
put_is_placed a b r h at is = subst (λ (x : Result (List ℕ) StoreFault). IfErr x (λ why. WhyUnput a b why)) is h

pub chosen_is_placed : (a b : View) (why : StoreFault) → WhyUnchosen a b why → (at : ℕ) → why ≡ fault.NotAStore at → ⊥
chosen_is_placed a b why h at is = subst (λ (x : StoreFault). WhyUnchosen a b x) is h

-- ---- the list

listed : (contents : Option Image) (log : List Entry) (text : List ℕ) → IfSome contents (IsStore log) → (IsSome contents → text ≡ lines_of log)
    → IfSome contents (λ c. (log : List Entry) × IsStore log c × (text ≡ lines_of log))
listed None log text store lines = tt
listed (Some c) log text store lines = (log, store, lines refl)

pub list_of : {D : Type 0} (site : Seen D) (old mid : D) (archive : Archive) (r : Result (List ℕ) StoreFault)
    → IsOpened site archive old mid → is_some (site.view mid).contents ≡ is_some (site.view old).contents
    → IfOk r (λ text. (log : List Entry) → Stands archive log None (site.may_leave mid) → IsSome (site.view mid).contents → text ≡ lines_of log)
    → IfOk r (λ text. IfSome (site.view old).contents (λ c. (log : List Entry) × IsStore log c × (text ≡ lines_of log)))
list_of site old mid archive (Ok text) o told lines = listed (site.view old).contents o.log text o.store (λ some. lines o.log o.stands (told ∙ some))
list_of site old mid archive (Err why) o told lines = tt

pub why_of : (a b c : View) (r : Result (List ℕ) StoreFault) → a.disk_faults ≤ b.disk_faults → is_some b.contents ≡ is_some a.contents
    → IfErr r (λ why. WhyUnput b c why) → IfErr r (λ why. UnlistedBy a c why)
why_of a b c (Ok text) le told h = tt
why_of a b c (Err why) le told h = unlisted a b c why le told h

-- the site was chosen, and what it found there couldn't be listed
pub why_unlisted : {D : Type 0} (site : Seen D) (old mid new : D) (r : Result (List ℕ) StoreFault)
    → (site.view mid).contents ≡ (site.view old).contents → NoFewer (site.view old) (site.view mid) → IfErr r (λ why. UnlistedBy (site.view mid) (site.view new) why) → NoFewer (site.view old) (site.view new)
    → ((at : ℕ) → IsErrOf r (fault.NotAStore at) → Untouched site old new) → IfErr r (λ why. WhyUnlisted site old new why)
why_unlisted site old mid new (Ok text) same few h counts untouched = tt
why_unlisted site old mid new (Err why) same few h counts untouched = record {
  cause = unlisted_later (site.view old) (site.view mid) (site.view new) why same few.disk few.link h;
  no_fewer = counts;
  untouched = λ at is. untouched at (ap (λ (x : StoreFault). let r : Result (List ℕ) StoreFault = Err x in r) is);
}

-- no site was chosen
pub why_unchosen : {D : Type 0} (site : Seen D) (old new : D) (why : StoreFault)
    → WhyUnchosen (site.view old) (site.view new) why → NoFewer (site.view old) (site.view new) → WhyUnlisted site old new why
why_unchosen site old new why h counts = record {
  cause = unlisted_chosen (site.view old) (site.view new) why h;
  no_fewer = counts;
  untouched = λ at is. absurd (chosen_is_placed (site.view old) (site.view new) why h at is);
}
