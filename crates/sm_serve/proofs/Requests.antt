-- Which parts answer which requests.
use Rattle.std.proofs.Common.{◌≡◌, inl, inr, zero, suc, ℕ, List, [], ◌∷◌, ◌++◌, Some, refl, sym, ◌∙◌, ap, subst, append_assoc}
use Rattle.std.specs.Prelude.{slice_get}
use Rattle.sm_model.specs.declared.fragment.Fragment.{Fragment}
use Rattle.sm_model.specs.declared.entry.Entry.{Entry}
use Rattle.sm_model.specs.Entries.{address_of}
use Rattle.sm_site.specs.Meanings.{Item}
use Rattle.sm_head.specs.Shown.{shows_status}
use Rattle.sm_wire.specs.declared.item.WireItem.{WireItem}
use Rattle.sm_wire.specs.declared.item.WireItem.TheVariants.{Continue, Get, Header, Frag, End, Refuse}
use Rattle.sm_wire.specs.Wire.{IsWire}
use Rattle.sm_origin.specs.Shown.{Claim, Acknowledged, lists, names, serves, acknowledges, Request, Asked, Pushed, Shows}
use Rattle.sm_serve.specs.Shown.{requests_from, replies_after, replies_from, replies}
use Rattle.sm_serve.proofs.Answering.{IsOk, HeldIn, complete, open_push, Answers, Matches, AreNotOk, AreKept, Core, WireLaws}

-- ---- requests: those that are whole, and the push that is open

pub requests_split : (fs : List Fragment) (xs ys : List WireItem) → requests_from fs (xs ++ ys) ≡ complete fs xs ++ requests_from (open_push fs xs) ys
requests_split fs [] ys = refl
requests_split fs (Continue ∷ xs) ys = requests_split fs xs ys
requests_split fs (Get target close ∷ xs) ys = ap (λ (qs : List Request). Asked target ∷ qs) (requests_split [] xs ys)
requests_split fs (Header channel ∷ xs) ys = requests_split fs xs ys
requests_split fs (Frag f ∷ xs) ys = requests_split (fs ++ f ∷ []) xs ys
requests_split fs (End close ∷ xs) ys = ap (λ (qs : List Request). Pushed fs ∷ qs) (requests_split [] xs ys)
requests_split fs (Refuse r ∷ xs) ys = ap (λ (qs : List Request). Pushed fs ∷ qs) (requests_split [] xs ys)

pub complete_split : (fs : List Fragment) (xs ys : List WireItem) → complete fs (xs ++ ys) ≡ complete fs xs ++ complete (open_push fs xs) ys
complete_split fs [] ys = refl
complete_split fs (Continue ∷ xs) ys = complete_split fs xs ys
complete_split fs (Get target close ∷ xs) ys = ap (λ (qs : List Request). Asked target ∷ qs) (complete_split [] xs ys)
complete_split fs (Header channel ∷ xs) ys = complete_split fs xs ys
complete_split fs (Frag f ∷ xs) ys = complete_split (fs ++ f ∷ []) xs ys
complete_split fs (End close ∷ xs) ys = ap (λ (qs : List Request). Pushed fs ∷ qs) (complete_split [] xs ys)
complete_split fs (Refuse r ∷ xs) ys = ap (λ (qs : List Request). Pushed fs ∷ qs) (complete_split [] xs ys)

pub open_split : (fs : List Fragment) (xs ys : List WireItem) → open_push fs (xs ++ ys) ≡ open_push (open_push fs xs) ys
open_split fs [] ys = refl
open_split fs (Continue ∷ xs) ys = open_split fs xs ys
open_split fs (Get target close ∷ xs) ys = open_split [] xs ys
open_split fs (Header channel ∷ xs) ys = open_split fs xs ys
open_split fs (Frag f ∷ xs) ys = open_split (fs ++ f ∷ []) xs ys
open_split fs (End close ∷ xs) ys = open_split [] xs ys
open_split fs (Refuse r ∷ xs) ys = open_split [] xs ys

-- ---- replies

replies_push_from : (n : ℕ) (was : List (List ℕ)) (items : List Item) (item : Item) → replies_from n was (items ++ item ∷ []) ≡ replies_after n (replies_from n was items) item.deal
replies_push_from n was [] item = refl
replies_push_from n was (x ∷ items) item = replies_push_from n (replies_after n was x.deal) items item

pub replies_push : (n : ℕ) (items : List Item) (item : Item) → replies n (items ++ item ∷ []) ≡ replies_after n (replies n items) item.deal
unfolding replies
replies_push n items item = replies_push_from n [] items item

-- ---- requests and the replies to them

pub matches_map : (H K : Claim → Type 0) → ((claim : Claim) → H claim → K claim) → (qs : List Request) (ps : List (List ℕ)) → Matches H qs ps → Matches K qs ps
matches_map H K so [] [] m = tt
matches_map H K so [] (p ∷ ps) m = absurd m
matches_map H K so (q ∷ qs) [] m = absurd m
matches_map H K so (q ∷ qs) (p ∷ ps) m = (λ ok claim shows. so claim (m.0 ok claim shows), matches_map H K so qs ps m.1)

pub matches_push : (H : Claim → Type 0) (qs : List Request) (ps : List (List ℕ)) (q : Request) (p : List ℕ) → Matches H qs ps → (IsOk p → (claim : Claim) → Shows q p claim → H claim)
    → Matches H (qs ++ q ∷ []) (ps ++ p ∷ [])
matches_push H [] [] q p m new = (new, tt)
matches_push H [] (y ∷ ps) q p m new = absurd m
matches_push H (x ∷ qs) [] q p m new = absurd m
matches_push H (x ∷ qs) (y ∷ ps) q p m new = (m.0, matches_push H qs ps q p m.1 new)

bad_answers : (qs : List Request) (ps : List (List ℕ)) (q : Request) (p : List ℕ) → AreNotOk ps → Answers qs ps q p → IsOk p → ⊥
bad_answers [] ps q p bad a ok = a
bad_answers (x ∷ qs) [] q p bad a ok = a
bad_answers (x ∷ qs) (y ∷ ps) q p bad (inl (one, two)) ok = bad.0 (ap (λ (z : List ℕ). shows_status 200 z) two ∙ ok)
bad_answers (x ∷ qs) (y ∷ ps) q p bad (inr a) ok = bad_answers qs ps q p bad.1 a ok

pub looked_up : (H : Claim → Type 0) (qs more : List Request) (good bad : List (List ℕ)) (q : Request) (p : List ℕ) (claim : Claim) → Matches H qs good → AreNotOk bad
    → Answers (qs ++ more) (good ++ bad) q p → IsOk p → Shows q p claim → H claim
looked_up H [] more [] bad q p claim m none a ok shows = absurd (bad_answers more bad q p none a ok)
looked_up H [] more (y ∷ good) bad q p claim m none a ok shows = absurd m
looked_up H (x ∷ qs) more [] bad q p claim m none a ok shows = absurd m
looked_up H (x ∷ qs) more (y ∷ good) bad q p claim m none (inl (one, two)) ok shows =
    m.0 (ap (λ (z : List ℕ). shows_status 200 z) two ∙ ok) claim (subst (λ (z : List ℕ). Shows x z claim) (sym two) (subst (λ (z : Request). Shows z p claim) (sym one) shows))
looked_up H (x ∷ qs) more (y ∷ good) bad q p claim m none (inr a) ok shows = looked_up H qs more good bad q p claim m.1 none a ok shows

pub core_shows : WireLaws → (H : Claim → Type 0) (log : List Entry) (bytes : List ℕ) (parts : List (List ℕ)) → Core H log bytes parts → (all : List WireItem) → IsWire bytes all
    → (q : Request) (p : List ℕ) (claim : Claim) → Answers (requests_from [] all) parts q p → IsOk p → Shows q p claim → H claim
core_shows laws H log bytes parts c all wire q p claim answers ok shows =
    let front = laws.front c.base c.extra c.given all c.wire (subst (λ (b : List ℕ). IsWire b all) c.bytes_are wire) in
    let all_is : all ≡ c.done ++ (c.rest ++ front.0) = front.1 ∙ ap (λ (ws : List WireItem). ws ++ front.0) c.given_are ∙ append_assoc c.done c.rest front.0 in
    let split : requests_from [] all ≡ complete [] c.done ++ requests_from (open_push [] c.done) (c.rest ++ front.0) = ap (λ (ws : List WireItem). requests_from [] ws) all_is ∙ requests_split [] c.done (c.rest ++ front.0) in
    looked_up H (complete [] c.done) (requests_from (open_push [] c.done) (c.rest ++ front.0)) c.good c.bad q p claim c.matched c.not_ok
    (subst (λ (ps : List (List ℕ)). Answers (complete [] c.done ++ requests_from (open_push [] c.done) (c.rest ++ front.0)) ps q p) c.parts_are
    (subst (λ (qs : List Request). Answers qs parts q p) split answers)) ok shows

-- what stands at the same place in both lists
pub answers_at : (qs : List Request) (ps : List (List ℕ)) (i : ℕ) (q : Request) (p : List ℕ) → slice_get qs i ≡ Some q → slice_get ps i ≡ Some p → Answers qs ps q p
answers_at [] ps i q p asked sent = absurd (cc)
answers_at (x ∷ qs) [] i q p asked sent = absurd (cc)
answers_at (x ∷ qs) (y ∷ ps) zero q p asked sent = inl (let one : x ≡ q = cc in one, let two : y ≡ p = cc in two)
answers_at (x ∷ qs) (y ∷ ps) (suc i) q p asked sent = inr (answers_at qs ps i q p asked sent)

-- bytes that are no 200 answer nothing
pub bad_push : (ps : List (List ℕ)) (p : List ℕ) → AreNotOk ps → (IsOk p → ⊥) → AreNotOk (ps ++ p ∷ [])
bad_push [] p none new = (new, tt)
bad_push (x ∷ ps) p none new = (none.0, bad_push ps p none.1 new)

-- ---- the fragments of a push

pub kept_push : (log : List Entry) (fs : List Fragment) (f : Fragment) → AreKept log fs → HeldIn log (Acknowledged (address_of f)) → AreKept log (fs ++ f ∷ [])
kept_push log [] f kept new = (new, tt)
kept_push log (g ∷ fs) f kept new = (kept.0, kept_push log fs f kept.1 new)

pub kept_of : (log : List Entry) (fs : List Fragment) (i : ℕ) (f : Fragment) → AreKept log fs → slice_get fs i ≡ Some f → HeldIn log (Acknowledged (address_of f))
kept_of log [] i f kept is = absurd (cc)
kept_of log (g ∷ fs) zero f kept is = let same : g ≡ f = cc in subst (λ (h : Fragment). HeldIn log (Acknowledged (address_of h))) same kept.0
kept_of log (g ∷ fs) (suc i) f kept is = kept_of log fs i f kept.1 is

-- the 200 of a push shows what is kept of it
pub end_shows : (log : List Entry) (fs : List Fragment) (part : List ℕ) (claim : Claim) → AreKept log fs → Shows (Pushed fs) part claim → HeldIn log claim
end_shows log fs part claim kept (lists a asks in_it is) = absurd (cc)
end_shows log fs part claim kept (names a time asks in_it is) = absurd (cc)
end_shows log fs part claim kept (serves a samples duration asks in_it is) = absurd (cc)
end_shows log fs part claim kept (acknowledges gs i f asks got is) =
    let same : fs ≡ gs = cc in
    subst (λ (c : Claim). HeldIn log c) (sym is) (kept_of log fs i f kept (subst (λ (hs : List Fragment). slice_get hs i ≡ Some f) (sym same) got))
