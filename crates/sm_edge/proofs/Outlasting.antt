-- A store that outlasts a call which opens it and adds to it.
use Rattle.std.proofs.Common.{⊎_elim, inl, inr, ◌⊎◌, ◌≡◌, ◌≤◌, ℕ, List, [], ◌∷◌, ◌++◌, Option, Some, None, IsSome, sym, ◌∙◌, ap, subst, arith}
use Rattle.std.specs.Prelude.{IfSome, slice_get}
use Rattle.std.proofs.lemmas.List.{append-nil, append_assoc}
use Rattle.std.proofs.lemmas.Bool.{cases_lt}
use Rattle.sm_model.specs.declared.entry.Entry.{Entry}
use Rattle.sm_model.specs.declared.fragment.Fragment.{Fragment}
use Rattle.sm_model.specs.declared.track.Track.{Track}
use Rattle.sm_site.specs.Clauses.{SameOutcomes, Throughout}
use Rattle.sm_site.specs.Image.{Image}
use Rattle.sm_site.specs.Meanings.{Chosen, Item, Seen}
use Rattle.sm_seglog.specs.Stores.{HasStore}
use Rattle.sm_archive.specs.declared.archive.Archive.{Archive}
use Rattle.sm_archive.specs.Store.{IsStore, Spell}
use Rattle.sm_origin.specs.Opening.{HasOneStore}
use Rattle.sm_origin.specs.Shown.{Claim}
use Rattle.sm_serve.specs.Shown.{Shown, replies}
use Rattle.sm_command.specs.Lasting.{AtEachMoment, Outlasts, Spared}
use Rattle.sm_command.specs.Opening.{BeginsWith}
use Rattle.sm_command.proofs.Lasting.{at_each, found_spared, one_by_one, one_here, one_still, weaker}
use Rattle.sm_command.proofs.Opened.{begins_so}
use Rattle.sm_pull.specs.Adds.{Adds, LeavesFront, keeps_of}
use Rattle.sm_edge.specs.Opening.{IsEdge}
use Rattle.sm_ends.specs.Ended.{End}

-- ---- nothing was shown

none_there : (i : ℕ) (part : List ℕ) → slice_get [] i ≡ Some part → ⊥
none_there i part e = cc

nothing_shown : (t : ℕ) (claim : Claim) → Shown [] t claim → ⊥
unfolding replies
nothing_shown t claim shown = none_there shown.index shown.part shown.replied

module _ {D : Type 0} (site : Seen D) (at_now : (d : D) (c : Image) → site.left_at d (site.view d).moment c → site.may_leave d c) where
  -- the moment at which the call began is one of those at which the store stood
  begins_since : (log : List Entry) (old new : D) → HasOneStore log (site.may_leave old) → AtEachMoment site old new (BeginsWith log) → (t : ℕ) (image : Image) → (site.view old).moment ≤ t
      → site.left_at new t image → BeginsWith log image
  begins_since log old new one all t image from left =
      ⊎_elim (λ after. all.each t image after left)
      (λ (before : t ≤ (site.view old).moment).
      let now : t ≡ (site.view old).moment = omega (arith, before, from) in
      begins_so log image (one_here log (site.may_leave old) one image (at_now old image (subst (λ (k : ℕ). site.left_at old k image) now ((all.keeps t image before).0 left)))))
      (cases_lt (site.view old).moment t)

  -- a call that shows nothing, in which the store only grows
  pub silent_grows : (log : List Entry) (base : List Item) (old new : D) → HasOneStore log (site.may_leave old)
      → ((t : ℕ) (image : Image) → site.left_at new t image → AtEachMoment site old new (BeginsWith log)) → (site.view new).transcript ≡ Some base
      → Outlasts site log base old new
  silent_grows log base old new one all told = record {
    items = [];
    told = told ∙ ap (λ (is : List Item). Some is) (sym (append-nil base));
    survives = λ t image from left.
        let begins = begins_since log old new one (all t image left) t image from left in
        record { now = begins.0; store = begins.2; more = begins.1; extends = begins.3; holds = λ claim shown. absurd (nothing_shown t claim shown) };
  }

-- ---- a store that is opened

module _ {D : Type 0} (site : Seen D) where
  -- a call that leaves the outcomes as they are
  pub chosen_begins : (log : List Entry) (old new : D) → HasOneStore log (site.may_leave old) → AtEachMoment site old new (site.may_leave old) → AtEachMoment site old new (BeginsWith log)
  chosen_begins log old new one all = weaker site old new (site.may_leave old) (BeginsWith log) all (λ c left. begins_so log c (one_here log (site.may_leave old) one c left))

  -- such a call, and then one that opens
  pub opened_begins : (log : List Entry) (old mid new : D) → HasOneStore log (site.may_leave old) → AtEachMoment site old mid (site.may_leave old) → SameOutcomes (site.may_leave old) (site.may_leave mid)
      → ((log : List Entry) → HasOneStore log (site.may_leave mid) → Throughout site mid new (λ t c. BeginsWith log c)) → AtEachMoment site old new (BeginsWith log)
  opened_begins log old mid new one first same second =
      one_by_one site old mid new (BeginsWith log) (chosen_begins log old mid one first)
      (at_each site mid new (λ t c. BeginsWith log c) (BeginsWith log) (second log (one_still log (site.may_leave old) (site.may_leave mid) same one)) (λ t c b. b))

-- a call that found the store of an edge
pub edge_spared : {D : Type 0} (site : Seen D) {input input' : End} {archive : Archive} {channel : List Track}
    {selection : Chosen} (old opened new : D) → IsEdge site input input' archive channel selection old opened → Spared site old new
edge_spared site old opened new edge =
    let found = edge.store.declared.tries.found in
    found_spared site found.log old new (subst (λ (o : Option Image). IfSome o (IsStore found.log)) edge.site.contents found.store)

-- ---- a store that is added to

image_of : (contents : Option Image) (P : Image → Type 0) → IsSome contents → IfSome contents P → (c : Image) × P c
image_of None P some h = absurd (cc)
image_of (Some c) P some h = (c, h)

-- an image without a doubt is the log's
pub fits_alone : (log : List Entry) (c : Image) → IsStore log c ⊎ ((d : Entry) × (None ≡ Some d) × IsStore (log ++ d ∷ []) c) → IsStore log c
fits_alone log c (inl store) = store
fits_alone log c (inr x) = let no = x.1 in absurd (cc)

module _ {D : Type 0} (site : Seen D) (pass : (d : D) → IfSome (site.view d).contents (site.may_leave d))
    (told : (d : D) (t : ℕ) (c : Image) → site.left_at d t c → IsSome (site.view d).contents) (at_now : (d : D) (c : Image) → site.left_at d (site.view d).moment c → site.may_leave d c)
    (now_at : (d : D) (c : Image) → site.may_leave d c → site.left_at d (site.view d).moment c) (one_list : (xs ys : List (List ℕ)) (image : Image) → HasStore xs image → HasStore ys image → xs ≡ ys)
    (one_log : (bodies : List (List ℕ)) (a b : List Entry) → Spell bodies a → Spell bodies b → a ≡ b) where
  one_reading : (a b : List Entry) (c : Image) → IsStore a c → IsStore b c → a ≡ b
  one_reading a b c x y = one_log x.bodies a b x.spell (subst (λ (bodies : List (List ℕ)). Spell bodies b) (sym (one_list x.bodies y.bodies c x.has y.has)) y.spell)

  -- the log that the store was opened with begins with the one that was there
  log_begins : (log found : List Entry) (old opened : D) → HasOneStore log (site.may_leave old) → AtEachMoment site old opened (BeginsWith log) → ((c : Image) → site.may_leave opened c → IsStore found c)
      → (c : Image) → site.may_leave opened c → (more : List Entry) × (found ≡ log ++ more)
  log_begins log found old opened one all fits c left =
      let begins = begins_since site at_now log old opened one all (site.view opened).moment c all.later (now_at opened c left) in
      (begins.1, one_reading found begins.0 c (fits c left) begins.2 ∙ begins.3)

  adding_begins : (log found more : List Entry) (kept : List Fragment) (opened new : D) → found ≡ log ++ more → Throughout site opened new (LeavesFront found kept)
      → AtEachMoment site opened new (BeginsWith log)
  adding_begins log found more kept opened new is all =
      at_each site opened new (LeavesFront found kept) (BeginsWith log) all (λ t c left.
      let front = left.2 in (
        left.0,
        more ++ keeps_of front.front,
        left.1,
        front.after_is ∙ ap (λ (l : List Entry). l ++ keeps_of front.front) is ∙ append_assoc log more (keeps_of front.front),
      ))

  -- the store that was there outlasts an opening, and what is added to it then
  pub added_lasts : (log : List Entry) (base : List Item) (old opened new : D) {archive after : Archive} {found : List Entry} {added tried : List Fragment} → HasOneStore log (site.may_leave old)
      → AtEachMoment site old opened (BeginsWith log) → ((c : Image) → site.may_leave opened c → IsStore found c)
      → Adds site opened new archive after found added tried → (site.view opened).transcript ≡ Some base → Outlasts site log base old new
  added_lasts log base old opened new {found = found} {added = added} {tried = tried} one all fits adds shown =
      silent_grows site at_now log base old new one (λ t image left.
      let some : IsSome (site.view opened).contents = sym adds.contents ∙ told new t image left in
      let now = image_of (site.view opened).contents (site.may_leave opened) some (pass opened) in
      let more = log_begins log found old opened one all fits now.0 now.1 in
      one_by_one site old opened new (BeginsWith log) all (adding_begins log found more.0 (added ++ tried) opened new more.1 (adds.moments some)))
      (adds.disk_alone.link.transcript ∙ shown)
