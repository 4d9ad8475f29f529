use Rattle.std.proofs.Common.{rules, arith, ◌≡◌, ◌+◌, ◌<◌, ◌≤◌, ◌++◌, ℕ, List, length, get_or, take, sym, ap, ◌∙◌, subst}
use Rattle.std.proofs.lemmas.List.{take_all, get_or-append-add}
use Rattle.std.specs.List.{sum_by}
use Rattle.sm_gatelog.specs.Logs.{Log}
use Rattle.sm_gatelog.specs.declared.slot.Slot.{Slot}
use Rattle.sm_seglog.specs.Segments.{Segments, slots_of}
use Rattle.sm_seglog.proofs.PartAt.{slots_at, slots_length}
use Rattle.sm_seglog.proofs.log.SegLog.gate.Goals as goal

pub returns-then-segment-len : goal.returns-then-segment-len
returns-then-segment-len c = λ slot.
    let full : List Log = c.self.inside.full.items in
    let rest : List Slot = c.self.inside.last.slots in
    let i : ℕ = c.segment_of-segment.result.0 in
    let k : ℕ = c.segment_of-segment.result.1 in
    let here : Log = c.index.result.now in
    let lt : i < length full = search (rules, arith) in
    let same : c.deref.result.now ≡ full = c.deref.ensures.value in
    let at : k + sum_by (λ (l : Log). length l.slots) (take i full) ≡ c.args.place =
    subst (λ (ls : List Log). k + sum_by (λ (l : Log). length l.slots) (take i ls) ≡ c.args.place) same c.segment_of-segment.ensures.place in
    let small : k < length (get_or full i here).slots =
    subst (λ (ls : List Log). i < length ls → k < length (get_or ls i here).slots) same (c.segment_of-segment.ensures.inside here) lt in
    let is : here ≡ get_or full i here = c.index.ensures in
    let found : get_or here.slots k slot ≡ get_or (slots_of full ++ rest) c.args.place slot =
    ap (λ (l : Log). get_or l.slots k slot) is ∙ sym (slots_at full i here k rest slot lt small) ∙ ap (λ (n : ℕ). get_or (slots_of full ++ rest) n slot) at in
    subst (λ (l : Segments). c.gate.result ≡ (get_or (slots_of l.full ++ l.last.slots) c.args.place slot).gate) c.self.view_is (c.gate.ensures slot ∙ ap (λ (s : Slot). s.gate) found)

pub returns : goal.returns
returns c = λ slot.
    let full : List Log = c.self.inside.full.items in
    let rest : List Slot = c.self.inside.last.slots in
    let i : ℕ = c.segment_of-segment.result.0 in
    let k : ℕ = c.segment_of-segment.result.1 in
    let most : length full ≤ i = search (rules, arith) in
    let same : c.deref.result.now ≡ full = c.deref.ensures.value in
    let at : k + sum_by (λ (l : Log). length l.slots) (take i full) ≡ c.args.place =
    subst (λ (ls : List Log). k + sum_by (λ (l : Log). length l.slots) (take i ls) ≡ c.args.place) same c.segment_of-segment.ensures.place in
    let sum : sum_by (λ (l : Log). length l.slots) (take i full) ≡ length (slots_of full) = ap (λ (l : List Log). sum_by (λ (x : Log). length x.slots) l) (take_all i full most) ∙ sym (slots_length full) in
    let place : length (slots_of full) + k ≡ c.args.place = omega (arith, sum, at) in
    let found : get_or rest k slot ≡ get_or (slots_of full ++ rest) c.args.place slot =
    sym (get_or-append-add (slots_of full) rest k slot) ∙ ap (λ (n : ℕ). get_or (slots_of full ++ rest) n slot) place in
    subst (λ (l : Segments). c.gate-2.result ≡ (get_or (slots_of l.full ++ l.last.slots) c.args.place slot).gate) c.self.view_is (c.gate-2.ensures slot ∙ ap (λ (s : Slot). s.gate) found)
