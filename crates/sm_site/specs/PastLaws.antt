-- What the laws of a site in memory stand on.
use Rattle.std.specs.Prelude.{◌≡◌, ◌+◌, ◌≤◌, ℕ, Bool, true, false, if◌then◌else◌, ◌++◌, All, List, [], ◌∷◌, length, take}
use Rattle.std.proofs.Common.{refl, subst, sym, inl, arith}
use Rattle.std.proofs.lemmas.List.{take_all}
use Rattle.sm_site.specs.declared.step.FileBytes.{FileBytes}
use Rattle.sm_site.specs.declared.step.Step.{Step}
use Rattle.sm_site.specs.Image.{Image}
use Rattle.sm_site.specs.Meanings.{Item}
use Rattle.sm_site.specs.Meanings.Deal.{Sent as SentDeal, Shut as ShutDeal}
use Rattle.sm_site.specs.Event.{deal_of}
use Rattle.std.proofs.lemmas.List.Elements.{All-nil, All-cons, All-append}
use Rattle.sm_site.specs.declared.step.Step.TheVariants.{Sized, Read, Wrote, Synced, Took, Sent, Shut, Crashed}
use Rattle.sm_site.specs.Past.{item_of, is_crash, items_on, items_from, State, after, start, IsOutcome, LeftAt}

pub contents_pass : (s : State) → IsOutcome s s.contents
contents_pass s file = inl refl

all_of : (past : List Step) → take (length past) past ≡ past
all_of past = take_all (length past) past (omega arith)

pub at_now : (first : List FileBytes) (past : List Step) (c : Image) → LeftAt first past (length past) c → IsOutcome (after (start first) past) c
at_now first past c left = subst (λ (l : List Step). IsOutcome (after (start first) l) c) (all_of past) left.1

pub now_at : (first : List FileBytes) (past : List Step) (c : Image) → IsOutcome (after (start first) past) c → LeftAt first past (length past) c
now_at first past c now = (omega arith, subst (λ (l : List Step). IsOutcome (after (start first) l) c) (sym (all_of past)) now)

single : (n : ℕ) (item : Item) → item.moment ≤ n → All (λ (item : Item). item.moment ≤ n) (item ∷ [])
single n item le = let P : Item → Type 0 = λ i. i.moment ≤ n in All-cons P item [] le (All-nil P)

one_entry : (m n : ℕ) (step : Step) → m ≤ n → All (λ (item : Item). item.moment ≤ n) (item_of m step)
one_entry m n (Sized file failed) le = All-nil (λ (i : Item). i.moment ≤ n)
one_entry m n (Read file at k failed) le = All-nil (λ (i : Item). i.moment ≤ n)
one_entry m n (Wrote file at bytes failed reached) le = All-nil (λ (i : Item). i.moment ≤ n)
one_entry m n (Synced file failed) le = All-nil (λ (i : Item). i.moment ≤ n)
one_entry m n (Took event) le = single n (record { moment = m; deal = deal_of event }) le
one_entry m n (Sent conn bytes failed) le = single n (record { moment = m; deal = SentDeal conn bytes.items failed }) le
one_entry m n (Shut conn) le = single n (record { moment = m; deal = ShutDeal conn }) le
one_entry m n (Crashed choice) le = All-nil (λ (i : Item). i.moment ≤ n)

entries : (m n : ℕ) (items : List Item) (past : List Step) → m + length past ≤ n → All (λ (item : Item). item.moment ≤ n) items
    → All (λ (item : Item). item.moment ≤ n) (items_on m items past)
entries m n items [] le all = all
entries m n items (step ∷ past) le all = entries (m + 1) n (if is_crash step then [] else items ++ item_of (m + 1) step) past (omega arith) (either (is_crash step))
  where
    either : (b : Bool) → All (λ (item : Item). item.moment ≤ n) (if b then [] else items ++ item_of (m + 1) step)
    either true = All-nil (λ (i : Item). i.moment ≤ n)
    either false = All-append (λ (i : Item). i.moment ≤ n) items (item_of (m + 1) step) all (one_entry (m + 1) n step (omega arith))

pub no_entry_later : (past : List Step) → All (λ (item : Item). item.moment ≤ length past) (items_from 0 past)
no_entry_later past = entries 0 (length past) [] past (omega arith) (All-nil (λ (i : Item). i.moment ≤ length past))
