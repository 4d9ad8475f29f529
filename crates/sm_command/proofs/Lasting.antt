-- What a crash leaves at the moments of a command.
use Rattle.std.proofs.Common.{⊎_elim, inl, ◌≡◌, ◌≤◌, ℕ, List, [], Option, Some, None, IsSome, refl, sym, ◌∙◌, ap, subst, arith}
use Rattle.std.specs.Prelude.{IfSome, slice_get}
use Rattle.std.proofs.lemmas.List.{append-nil}
use Rattle.std.proofs.lemmas.Bool.{cases_lt}
use Rattle.sm_model.specs.declared.entry.Entry.{Entry}
use Rattle.sm_site.specs.Clauses.{Elapses, NoMore, SameOutcomes, Throughout}
use Rattle.sm_site.specs.Image.{Image}
use Rattle.sm_site.specs.Meanings.{DiskAlone, View, Item, Seen}
use Rattle.sm_site.proofs.Moments.{and_then, weakened}
use Rattle.sm_seglog.specs.Stores.{HasStore}
use Rattle.sm_archive.specs.Store.{IsNoStore, IsStore, Spell}
use Rattle.sm_origin.specs.Machine.{Machine}
use Rattle.sm_origin.specs.Opening.{HasOneStore, WritesEmptyAlone}
use Rattle.sm_origin.specs.Shown.{Claim}
use Rattle.sm_origin.specs.Stores.{Fits}
use Rattle.sm_origin.proofs.Acts.{if_some, some_of}
use Rattle.sm_serve.specs.Shown.{Shown, replies}
use Rattle.sm_command.specs.Lasting.{AtEachMoment, IsSilent, KeepsStores, NoFewer, OnlyChosen, Outlasts, Spared, Untouched}

-- ---- one part, and then another

module _ {D : Type 0} (site : Seen D) where
  pub at_each : (old new : D) (P : ℕ → Image → Type 0) (Q : Image → Type 0) → Throughout site old new P → ((t : ℕ) (c : Image) → P t c → Q c)
      → AtEachMoment site old new Q
  at_each old new P Q all so = record { later = all.later; keeps = all.keeps; each = λ t c after left. so t c (all.each t c after left) }

  pub weaker : (old new : D) (P Q : Image → Type 0) → AtEachMoment site old new P → ((c : Image) → P c → Q c) → AtEachMoment site old new Q
  weaker old new P Q all so = record { later = all.later; keeps = all.keeps; each = λ t c after left. so c (all.each t c after left) }

  pub one_by_one : (old mid new : D) (P : Image → Type 0) → AtEachMoment site old mid P → AtEachMoment site mid new P → AtEachMoment site old new P
  one_by_one old mid new P first second = record {
    later = omega (arith, first.later, second.later);
    keeps = λ t c le.
        let so_far = first.keeps t c le in
        let on = second.keeps t c (omega (arith, le, first.later)) in
        (λ left. so_far.0 (on.0 left), λ left. on.1 (so_far.1 left));
    each = λ t c after left. ⊎_elim (λ later. second.each t c later left) (λ before. first.each t c after ((second.keeps t c before).0 left)) (cases_lt (site.view mid).moment t);
  }

  -- a call that leaves the outcomes as they are
  pub chosen : (old new : D) (was is : Image → Type 0) → Elapses (site.view old) (site.view new) (site.left_at old) (site.left_at new) was is → SameOutcomes was is → AtEachMoment site old new was
  chosen old new was is time same = record {
    later = time.later;
    keeps = time.keeps;
    each = λ t c after left. ⊎_elim (λ o. o) (λ n. (same c).0 n) (time.within t c after left);
  }

  pub selected_only : (old new : D) → (site.view new).contents ≡ (site.view old).contents → (site.view new).transcript ≡ (site.view old).transcript
      → (site.view new).send_faults ≡ (site.view old).send_faults → (site.view old).disk_faults ≤ (site.view new).disk_faults → (site.view old).link_faults ≤ (site.view new).link_faults
      → Elapses (site.view old) (site.view new) (site.left_at old) (site.left_at new) (site.may_leave old) (site.may_leave new) → SameOutcomes (site.may_leave old) (site.may_leave new)
      → OnlyChosen site old new
  selected_only old new contents transcript send_faults disk link time same = record {
    contents = contents;
    crash = same;
    any_moment = chosen old new (site.may_leave old) (site.may_leave new) time same;
    silent = record { transcript = transcript; send_faults = send_faults; no_fewer = record { disk = disk; link = link } };
  }

-- a call of the disk alone behind another call
pub counts_then : (a b c : View) → NoFewer a b → b.disk_faults ≤ c.disk_faults → c.link_faults ≡ b.link_faults → NoFewer a c
counts_then a b c first disk_yet link_is =
    let disk = first.disk in
    let link = first.link in
    record { disk = omega (arith, disk, disk_yet); link = omega (arith, link, link_is) }

-- ---- one store

pub one_here : (log : List Entry) (outcomes : Image → Type 0) → HasOneStore log outcomes → (c : Image) → outcomes c → IsStore log c
one_here log outcomes one c left = record { bodies = one.bodies; has = one.each c left; spell = one.spell; sound = one.sound }

-- an image with the same bodies
pub spelled : (log : List Entry) (outcomes : Image → Type 0) → (one : HasOneStore log outcomes) → (c : Image) → HasStore one.bodies c → IsStore log c
spelled log outcomes one c has = record { bodies = one.bodies; has = has; spell = one.spell; sound = one.sound }

pub one_still : (log : List Entry) (was is : Image → Type 0) → SameOutcomes was is → HasOneStore log was → HasOneStore log is
one_still log was is same one = record { bodies = one.bodies; each = λ c left. one.each c ((same c).0 left); spell = one.spell; sound = one.sound }

-- the log that the contents are
pub log_is : ((xs ys : List (List ℕ)) (image : Image) → HasStore xs image → HasStore ys image → xs ≡ ys) → ((bodies : List (List ℕ)) (a b : List Entry) → Spell bodies a → Spell bodies b → a ≡ b)
    → (contents : Option Image) (outcomes : Image → Type 0) (found log : List Entry) → IsSome contents → IfSome contents outcomes → IfSome contents (IsStore found) → HasOneStore log outcomes → found ≡ log
log_is one_list one_log None outcomes found log some pass store one = absurd (cc)
log_is one_list one_log (Some c) outcomes found log some pass store one =
    one_log one.bodies found log (subst (λ (bodies : List (List ℕ)). Spell bodies found) (one_list store.bodies one.bodies c store.has (one.each c pass)) store.spell) one.spell

pub fits_found : (m : Machine) (log : List Entry) (image : Image) → m.log ≡ log → IsStore log image → Fits m image
fits_found m log image is store = record { doubt = []; of_doubt = inl refl; store = subst (λ (l : List Entry). IsStore l image) (sym (append-nil m.log ∙ is)) store }

module _ {D : Type 0} (site : Seen D) (at_now : (d : D) (c : Image) → site.left_at d (site.view d).moment c → site.may_leave d c) where
  -- the moment at which the call began is one of those at which the store stood
  pub store_since : (log : List Entry) (old new : D) → HasOneStore log (site.may_leave old) → AtEachMoment site old new (IsStore log) → (t : ℕ) (image : Image) → (site.view old).moment ≤ t
      → site.left_at new t image → IsStore log image
  store_since log old new one all t image from left =
      ⊎_elim (λ after. all.each t image after left)
      (λ (before : t ≤ (site.view old).moment).
      let now : t ≡ (site.view old).moment = omega (arith, before, from) in
      one_here log (site.may_leave old) one image (at_now old image (subst (λ (k : ℕ). site.left_at old k image) now ((all.keeps t image before).0 left))))
      (cases_lt (site.view old).moment t)

  -- what is left after a call that leaves nothing else
  pub no_more : (now_at : (d : D) (c : Image) → site.may_leave d c → site.left_at d (site.view d).moment c) → (old new : D) → Throughout site old new (λ t c. site.may_leave old c) → (c : Image) → site.may_leave new c
      → site.may_leave old c
  no_more now_at old new all c left =
      ⊎_elim (λ after. all.each (site.view new).moment c after (now_at new c left))
      (λ (before : (site.view new).moment ≤ (site.view old).moment).
      let later = all.later in
      let still : (site.view new).moment ≡ (site.view old).moment = omega (arith, before, later) in
      at_now old c (subst (λ (k : ℕ). site.left_at old k c) still ((all.keeps (site.view new).moment c before).0 (now_at new c left))))
      (cases_lt (site.view old).moment (site.view new).moment)

  -- a part that leaves nothing else, and then another
  pub no_other : (now_at : (d : D) (c : Image) → site.may_leave d c → site.left_at d (site.view d).moment c) → (old mid new : D) → Throughout site old mid (λ t c. site.may_leave old c)
      → Throughout site mid new (λ t c. site.may_leave mid c) → Throughout site old new (λ t c. site.may_leave old c)
  no_other now_at old mid new first second =
      and_then site old mid new (λ t c. site.may_leave old c) first
      (weakened site mid new (λ t c. site.may_leave mid c) (λ t c. site.may_leave old c) second (λ t c left. no_more now_at old mid first c left))

-- ---- what is no store

-- a store was there
a_store : (contents : Option Image) (P : Type 0) (log : List Entry) → IfSome contents (IsStore log) → IfSome contents (λ c. IsNoStore c → P)
a_store None P log store = tt
a_store (Some c) P log store = λ none. absurd (none log store)

module _ {D : Type 0} (site : Seen D) where
  -- a call that writes nothing
  pub unwritten_spared : (old new : D) → Untouched site old new → Spared site old new
  unwritten_spared old new same = some_of (site.view old).contents (λ c. IsNoStore c → Untouched site old new) (λ c none. same)

  -- a call that found a store
  pub found_spared : (log : List Entry) (old new : D) → IfSome (site.view old).contents (IsStore log) → Spared site old new
  found_spared log old new store = a_store (site.view old).contents (Untouched site old new) log store

  alone : (old new : D) → ((site.view new).contents ≡ (site.view old).contents) × NoMore (site.may_leave old) (site.may_leave new) × Throughout site old new (λ t c. site.may_leave old c)
      → Untouched site old new
  alone old new is = record { contents = is.0; each = at_each site old new (λ t c. site.may_leave old c) (site.may_leave old) is.2 (λ t c left. left) }

  -- a call that writes the store of an empty log alone
  pub opened_spared : (old new : D) → WritesEmptyAlone site old new → Spared site old new
  opened_spared old new is =
      if_some (site.view old).contents
      (λ c. (IsStore [] c → ⊥) → ((site.view new).contents ≡ (site.view old).contents) × NoMore (site.may_leave old) (site.may_leave new) × Throughout site old new (λ t c. site.may_leave old c))
      (λ c. IsNoStore c → Untouched site old new) (λ c spares none. alone old new (spares (none []))) is

  behind : (old mid new : D) → (site.view mid).contents ≡ (site.view old).contents → AtEachMoment site old mid (site.may_leave old) → SameOutcomes (site.may_leave old) (site.may_leave mid)
      → Untouched site mid new → Untouched site old new
  behind old mid new is first same u = record {
    contents = u.contents ∙ is;
    each = one_by_one site old mid new (site.may_leave old) first (weaker site mid new (site.may_leave mid) (site.may_leave old) u.each (λ c left. (same c).0 left));
  }

  -- a site was chosen, and then a call was made on it
  pub chosen_spared : (old mid new : D) → (site.view mid).contents ≡ (site.view old).contents → AtEachMoment site old mid (site.may_leave old) → SameOutcomes (site.may_leave old) (site.may_leave mid)
      → Spared site mid new → Spared site old new
  chosen_spared old mid new is first same yet =
      if_some (site.view old).contents (λ c. IsNoStore c → Untouched site mid new) (λ c. IsNoStore c → Untouched site old new)
      (λ c spares none. behind old mid new is first same (spares none))
      (subst (λ (o : Option Image). IfSome o (λ c. IsNoStore c → Untouched site mid new)) is yet)

-- ---- nothing was shown

none_there : (i : ℕ) (part : List ℕ) → slice_get [] i ≡ Some part → ⊥
none_there i part e = cc

nothing_shown : (t : ℕ) (claim : Claim) → Shown [] t claim → ⊥
unfolding replies
nothing_shown t claim shown = none_there shown.index shown.part shown.replied

module _ {D : Type 0} (site : Seen D) (at_now : (d : D) (c : Image) → site.left_at d (site.view d).moment c → site.may_leave d c) where
  -- a call without an entry
  pub silent_lasts : (log : List Entry) (base : List Item) (old new : D) → HasOneStore log (site.may_leave old) → AtEachMoment site old new (IsStore log) → (site.view new).transcript ≡ Some base
      → Outlasts site log base old new
  silent_lasts log base old new one all told = record {
    items = [];
    told = told ∙ ap (λ (is : List Item). Some is) (sym (append-nil base));
    survives = λ t image from left. record {
      now = log;
      store = store_since site at_now log old new one all t image from left;
      more = [];
      extends = sym (append-nil log);
      holds = λ claim shown. absurd (nothing_shown t claim shown);
    };
  }

-- ---- a site was chosen, and then the disk alone was touched

pub alone_silent : (a b : View) → DiskAlone a b → IsSilent a b
alone_silent a b alone = record {
  transcript = alone.link.transcript;
  send_faults = alone.link.send_faults;
  no_fewer = (let is = alone.link.link_faults in record { disk = alone.no_fewer; link = omega (arith, is) });
}

pub silent_then : (a b c : View) → IsSilent a b → DiskAlone b c → IsSilent a c
silent_then a b c first alone = record {
  transcript = alone.link.transcript ∙ first.transcript;
  send_faults = alone.link.send_faults ∙ first.send_faults;
  no_fewer = counts_then a b c first.no_fewer alone.no_fewer alone.link.link_faults;
}

module _ {D : Type 0} (site : Seen D) where
  -- nothing was written by a choice
  pub only_untouched : (old new : D) → OnlyChosen site old new → Untouched site old new
  only_untouched old new only = record { contents = only.contents; each = only.any_moment }

  -- nor by a call that leaves nothing else behind it
  pub chosen_untouched : (old mid new : D) → OnlyChosen site old mid
      → ((site.view new).contents ≡ (site.view mid).contents) × NoMore (site.may_leave mid) (site.may_leave new) × Throughout site mid new (λ t c. site.may_leave mid c)
      → Untouched site old new
  chosen_untouched old mid new only u = record {
    contents = u.0 ∙ only.contents;
    each = one_by_one site old mid new (site.may_leave old) only.any_moment
        (at_each site mid new (λ t c. site.may_leave mid c) (site.may_leave old) u.2 (λ t c left. (only.crash c).0 left));
  }

  -- one store stays at each moment of both
  pub chosen_one : (log : List Entry) (old mid new : D) → OnlyChosen site old mid → HasOneStore log (site.may_leave old)
      → ((log : List Entry) → HasOneStore log (site.may_leave mid) → Throughout site mid new (λ t c. IsStore log c)) → AtEachMoment site old new (IsStore log)
  chosen_one log old mid new only one all =
      one_by_one site old mid new (IsStore log)
      (weaker site old mid (site.may_leave old) (IsStore log) only.any_moment (one_here log (site.may_leave old) one))
      (at_each site mid new (λ t c. IsStore log c) (IsStore log) (all log (one_still log (site.may_leave old) (site.may_leave mid) only.crash one)) (λ t c is. is))

  pub only_one : (log : List Entry) (old new : D) → OnlyChosen site old new → HasOneStore log (site.may_leave old) → AtEachMoment site old new (IsStore log)
  only_one log old new only one = weaker site old new (site.may_leave old) (IsStore log) only.any_moment (one_here log (site.may_leave old) one)

module _ {D : Type 0} (site : Seen D) (at_now : (d : D) (c : Image) → site.left_at d (site.view d).moment c → site.may_leave d c) where
  -- a choice hurts no store
  pub only_keeps : (old new : D) (R : Type 0) → OnlyChosen site old new → KeepsStores site old new R
  only_keeps old new R only = record {
    lasts = λ some log one base told. silent_lasts site at_now log base old new one (only_one site log old new only one) (only.silent.transcript ∙ told);
    untouched = λ r. only_untouched site old new only;
    spared = unwritten_spared site old new (only_untouched site old new only);
  }

  -- nor does a call of the disk behind it that leaves one store one store
  pub chosen_keeps : (old mid new : D) (R : Type 0) → OnlyChosen site old mid
      → ((log : List Entry) → HasOneStore log (site.may_leave mid) → Throughout site mid new (λ t c. IsStore log c))
      → (R → ((site.view new).contents ≡ (site.view mid).contents) × NoMore (site.may_leave mid) (site.may_leave new) × Throughout site mid new (λ t c. site.may_leave mid c))
      → Spared site mid new → DiskAlone (site.view mid) (site.view new) → KeepsStores site old new R
  chosen_keeps old mid new R only all u spared alone = record {
    lasts = λ some log one base told.
        silent_lasts site at_now log base old new one (chosen_one site log old mid new only one all) (alone.link.transcript ∙ only.silent.transcript ∙ told);
    untouched = λ r. chosen_untouched site old mid new only (u r);
    spared = chosen_spared site old mid new only.contents only.any_moment only.crash spared;
  }
