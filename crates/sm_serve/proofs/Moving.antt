-- Each connection stands behind each move that makes no step.
use Rattle.std.proofs.Common.{◌≡◌, inl, inr, ℕ, ◌<◌, ◌≤◌, Bool, true, false, if◌then◌else◌, List, [], ◌∷◌, ◌++◌, length, take, refl, sym, ◌∙◌, ap, subst, arith}
use Rattle.std.proofs.lemmas.List.{take_all}
use Rattle.std.proofs.lemmas.Bool.{cases_eq, cases_Bool}
use Rattle.sm_site.specs.Meanings.{Deal, Item}
use Rattle.sm_site.specs.Meanings.Deal.{Began, Came, Sent, Shut}
use Rattle.sm_head.specs.declared.reply.TheConstants.{NO_MEMORY}
use Rattle.sm_head.specs.Shown.{shows_status}
use Rattle.sm_wire.specs.declared.item.WireItem.{WireItem}
use Rattle.sm_wire.specs.declared.item.WireItem.TheVariants.{Continue}
use Rattle.sm_wire.specs.Wire.{IsWire}
use Rattle.sm_origin.specs.Machine.{Machine}
use Rattle.sm_origin.specs.Shown.{Claim, Request, Shows}
use Rattle.sm_serve.specs.declared.texts.TheConstants.{TOO_MANY}
use Rattle.sm_serve.specs.Connections.{received, live, is_among}
use Rattle.sm_serve.specs.Run.{Phase, in_phase, at_event, behind_failure, at, idle, acting, sending, shutting, Point, Stepped}
use Rattle.sm_serve.specs.Moments.{machine_at}
use Rattle.sm_serve.specs.Shown.{replies}
use Rattle.sm_serve.proofs.Answering.{IsOk, HeldIn, TextsHold, complete, open_push, AllBy, HeldBy, AreKept, Core, IsAway, IsOpenWith, Open, Sends, head, reply, refused, Stood, WireLaws}
use Rattle.sm_serve.proofs.Quiet.{bytes_begun, parts_begun, bytes_came, parts_came, bytes_sent, parts_sent, parts_head, not_live, still_live}
use Rattle.sm_serve.proofs.Onward.{replied, taken_in, all_by_front, anew, recast, mapped, with_bad, outside, passes, stands_acting, stands_sending, stands_shutting, stands_idle}

not_ok : (part : List ℕ) → shows_status 200 part ≡ false → IsOk part → ⊥
not_ok part no_ok ok = absurd (cc)

-- an entry is at its moment, and all entries before it are by then
all_by_last : (t m : ℕ) (items : List Item) (deal : Deal) → AllBy t (items ++ at m deal) → m ≤ t
all_by_last t m [] deal by = by.0
all_by_last t m (x ∷ items) deal by = all_by_last t m items deal by.1

module _ (laws : WireLaws) (texts : TextsHold) (first : Machine) (items : List Item) (ss : List Stepped) (p : Point) (n : ℕ) (s : Stood first items ss p n) where
  -- what was held by an earlier transcript is held by each later one
  entry_so : (es : List Item) (claim : Claim) → HeldBy first items ss claim → HeldBy first (items ++ es) ss claim
  entry_so es claim held t by = held t (all_by_front t items es by)

  resting : p.phase ≡ idle → is_among n (live items) ≡ true → IsOpenWith (HeldBy first items ss) p (received n items) (replies n items) s.core []
  resting phase among = s.at_rest (subst (λ (f : Phase). IsAway n f) (sym phase) tt) among

  pub opened_own : (m k : ℕ) (q : Point) → k ≡ n → q.phase ≡ acting k [] → Stood first (items ++ at m (Began k)) ss q n
  opened_own m k q same phase =
      let now = items ++ at m (Began k) in
      stands_acting first now ss q n [] (phase ∙ ap (λ (j : ℕ). acting j []) same)
      (anew laws (HeldBy first now ss) q (received n now) (replies n now) (bytes_begun n k m items same) (parts_begun n k m items same))

  pub crowded_own : (m k : ℕ) (q : Point) → k ≡ n → q.phase ≡ sending k TOO_MANY.now true [] → Stood first (items ++ at m (Began k)) ss q n
  crowded_own m k q same phase =
      let now = items ++ at m (Began k) in
      let new = anew laws (HeldBy first now ss) q (received n now) (replies n now) (bytes_begun n k m items same) (parts_begun n k m items same) in
      stands_sending first now ss q n TOO_MANY.now true [] (phase ∙ ap (λ (j : ℕ). sending j TOO_MANY.now true []) same) new.0
      (refused refl new.1.1 (λ j ok. not_ok (take j TOO_MANY.now) (texts.too_many j) ok))

  pub came_own : (m k : ℕ) (bytes : List ℕ) (given more : List WireItem) → k ≡ n → p.phase ≡ idle → is_among k (live items) ≡ true → IsWire (received k items) given → IsWire (received k items ++ bytes) (given ++ more)
      → Stood first (items ++ at m (Came k bytes)) ss (at_event p (acting k more) m) n
  came_own m k bytes given more same phase among one two =
      let now = items ++ at m (Came k bytes) in
      let q = at_event p (acting k more) m in
      let taken = taken_in laws (HeldBy first items ss) (HeldBy first now ss) p (received n items) (replies n items) s.core bytes given more (entry_so (at m (Came k bytes)))
      (resting phase (subst (λ (j : ℕ). is_among j (live items) ≡ true) same among)) (subst (λ (j : ℕ). IsWire (received j items) given) same one)
      (subst (λ (j : ℕ). IsWire (received j items ++ bytes) (given ++ more)) same two) in
      stands_acting first now ss q n more (ap (λ (j : ℕ). acting j more) same)
      (recast (HeldBy first now ss) q (received n items ++ bytes) (received n now) (replies n items) (replies n now) more (bytes_came n k m bytes items same) (parts_came n k m bytes items) taken)

  -- a piece that isn't read
  unread_core : (m k : ℕ) (bytes : List ℕ) → k ≡ n
      → (d : Core (HeldBy first (items ++ at m (Came k bytes)) ss) p.machine.log (received n (items ++ at m (Came k bytes))) (replies n (items ++ at m (Came k bytes)))) × (s.core.bad ≡ [] → d.bad ≡ [])
  unread_core m k bytes same =
      let now = items ++ at m (Came k bytes) in
      outside (HeldBy first items ss) (HeldBy first now ss) p.machine.log (received n items) (received n now) (replies n items) (replies n now) bytes (bytes_came n k m bytes items same) (parts_came n k m bytes items)
      (entry_so (at m (Came k bytes))) s.core

  pub unread_own : (m k : ℕ) (bytes : List ℕ) → k ≡ n → p.phase ≡ idle → is_among k (live items) ≡ true → Stood first (items ++ at m (Came k bytes)) ss (at_event p (sending k NO_MEMORY.now true []) m) n
  unread_own m k bytes same phase among =
      let d = unread_core m k bytes same in
      stands_sending first (items ++ at m (Came k bytes)) ss (at_event p (sending k NO_MEMORY.now true []) m) n NO_MEMORY.now true [] (ap (λ (j : ℕ). sending j NO_MEMORY.now true []) same) d.0
      (refused refl (d.1 (resting phase (subst (λ (j : ℕ). is_among j (live items) ≡ true) same among)).1) (λ j ok. not_ok (take j NO_MEMORY.now) (texts.no_memory j) ok))

  pub passed_own : (m k : ℕ) (bytes : List ℕ) → k ≡ n → is_among k (live items) ≡ false → Stood first (items ++ at m (Came k bytes)) ss (at_event p idle m) n
  passed_own m k bytes same gone =
      stands_idle first (items ++ at m (Came k bytes)) ss (at_event p idle m) n refl (unread_core m k bytes same).0
      (λ among. let was = still_live n k m bytes items in let none : is_among n (live items) ≡ false = subst (λ (j : ℕ). is_among j (live items) ≡ false) same gone in absurd (cc))

  pub done_stood : (k : ℕ) → p.phase ≡ acting k [] → Stood first items ss (in_phase p idle) n
  done_stood k phase = stands_idle first items ss (in_phase p idle) n refl s.core
      (λ among. elim (cases_eq k n) [
        | inl same ↦ s.acting_on [] (phase ∙ ap (λ (j : ℕ). acting j []) same)
        | inr other ↦ s.at_rest (subst (λ (f : Phase). IsAway n f) (sym phase) other) among
      ])

  pub unsent_stood : (k : ℕ) (text : List ℕ) (close : Bool) (more : List WireItem) → p.phase ≡ sending k text close more → Stood first items ss (behind_failure p (shutting k)) n
  unsent_stood k text close more phase = record {
    core = s.core;
    at_rest = λ away among. s.at_rest (subst (λ (f : Phase). IsAway n f) (sym phase) away) among;
    acting_on = λ others is. absurd (cc);
    sends = λ words closing others is. absurd (cc);
  }

  pub shut_own : (m k : ℕ) → k ≡ n → received n (items ++ at m (Shut k)) ≡ received n items → replies n (items ++ at m (Shut k)) ≡ replies n items → Stood first (items ++ at m (Shut k)) ss (in_phase p idle) n
  shut_own m k same bytes parts =
      let now = items ++ at m (Shut k) in
      stands_idle first now ss (in_phase p idle) n refl
      (mapped (HeldBy first items ss) (HeldBy first now ss) p.machine.log (received n items) (received n now) (replies n items) (replies n now) bytes parts (entry_so (at m (Shut k))) s.core)
      (λ among. let none = not_live n k m items same in absurd (cc))

  -- ---- what is sent

  -- a part that is no 200, or that is taken for the head 100
  refused_core : (m k : ℕ) (part : List ℕ) (broken : Bool) → k ≡ n → (IsOk part → ⊥)
      → Core (HeldBy first (items ++ at m (Sent k part broken)) ss) p.machine.log (received n (items ++ at m (Sent k part broken))) (replies n (items ++ at m (Sent k part broken)))
  refused_core m k part broken same none =
      let deal = Sent k part broken in
      let now = items ++ at m deal in
      elim (cases_Bool (shows_status 100 part)) [
        | inl is ↦ mapped (HeldBy first items ss) (HeldBy first now ss) p.machine.log (received n items) (received n now) (replies n items) (replies n now) (bytes_sent n k m part broken items)
            (parts_head n k m part broken items same is) (entry_so (at m deal)) s.core
        | inr is ↦ with_bad (HeldBy first items ss) (HeldBy first now ss) p.machine.log (received n items) (received n now) (replies n items) (replies n now) part (bytes_sent n k m part broken items)
            (parts_sent n k m part broken items same is) (entry_so (at m deal)) none s.core
      ]

  -- the reply to the next request, or its front
  answered : (m k j : ℕ) (text : List ℕ) (broken : Bool) (more : List WireItem) (item : WireItem) (request : Request) → k ≡ n → p.ended < m
      → IsOpenWith (HeldBy first items ss) p (received n items) (replies n items) s.core (item ∷ more)
      → complete [] (s.core.done ++ item ∷ []) ≡ complete [] s.core.done ++ request ∷ [] → AreKept p.machine.log (open_push [] (s.core.done ++ item ∷ [])) → shows_status 100 (take j text) ≡ false
      → (IsOk (take j text) → (claim : Claim) → Shows request (take j text) claim → HeldIn p.machine.log claim) → ((t : ℕ) → p.ended ≤ t → machine_at first ss t ≡ p.machine)
      → Open (HeldBy first (items ++ at m (Sent k (take j text) broken)) ss) p (received n (items ++ at m (Sent k (take j text) broken))) (replies n (items ++ at m (Sent k (take j text) broken))) more
  answered m k j text broken more item request same after open_ whole kept final shows settled =
      let deal = Sent k (take j text) broken in
      let now = items ++ at m deal in
      recast (HeldBy first now ss) p (received n items) (received n now) (replies n items ++ take j text ∷ []) (replies n now) more (bytes_sent n k m (take j text) broken items) (parts_sent n k m (take j text) broken items same final)
      (replied (machine_at first ss) (HeldBy first items ss) (HeldBy first now ss) p (received n items) (replies n items) s.core text more item request j (entry_so (at m deal)) open_ whole kept
      (λ ok claim shown t by.
      let late = all_by_last t m items deal by in
      let by_then : p.ended ≤ t = omega (arith, after, late) in
      subst (λ (machine : Machine). HeldIn machine.log claim) (sym (settled t by_then)) (shows ok claim shown)))

  sent_as : (m k : ℕ) (text part : List ℕ) (close : Bool) (more : List WireItem) → k ≡ n → p.ended < m → part ≡ text → take (length text) text ≡ part
      → Sends (machine_at first ss) (HeldBy first items ss) p (received n items) (replies n items) s.core text close more → Stood first (items ++ at m (Sent k part false)) ss (in_phase p (if close then shutting k else acting k more)) n
  sent_as m k text part close more same after is all (head open_ is_head stays) =
      let deal = Sent k part false in
      let now = items ++ at m deal in
      let q = in_phase p (if close then shutting k else acting k more) in
      let skipped = parts_head n k m part false items same (ap (λ (z : List ℕ). shows_status 100 z) (is ∙ is_head) ∙ texts.continue_100) in
      stands_acting first now ss q n more (ap (λ (b : Bool). if b then shutting k else acting k more) stays ∙ ap (λ (j : ℕ). acting j more) same)
      (recast (HeldBy first now ss) q (received n items) (received n now) (replies n items) (replies n now) more (bytes_sent n k m part false items) skipped
      (passes (HeldBy first items ss) (HeldBy first now ss) p (received n items) (replies n items) Continue more (entry_so (at m deal)) (λ fs. refl) (λ fs. refl) (s.core, open_)))
  sent_as m k text part close more same after is all (reply item request open_ whole kept final shows settled) =
      let now = λ (z : List ℕ). items ++ at m (Sent k z false) in
      let new = subst (λ (z : List ℕ). Open (HeldBy first (now z) ss) p (received n (now z)) (replies n (now z)) more) all
      (answered m k (length text) text false more item request same after open_ whole kept (final (length text)) (shows (length text)) settled) in
      elim (cases_Bool close) [
        | inl closes ↦ stands_shutting first (now part) ss (in_phase p (if close then shutting k else acting k more)) n (ap (λ (b : Bool). if b then shutting k else acting k more) closes ∙ ap (λ (j : ℕ). shutting j) same) new.0
        | inr stays ↦ stands_acting first (now part) ss (in_phase p (if close then shutting k else acting k more)) n more (ap (λ (b : Bool). if b then shutting k else acting k more) stays ∙ ap (λ (j : ℕ). acting j more) same) new
      ]
  sent_as m k text part close more same after is all (refused closes clean none) =
      stands_shutting first (items ++ at m (Sent k part false)) ss (in_phase p (if close then shutting k else acting k more)) n (ap (λ (b : Bool). if b then shutting k else acting k more) closes ∙ ap (λ (j : ℕ). shutting j) same)
      (refused_core m k part false same (λ ok. none (length text) (ap (λ (z : List ℕ). shows_status 200 z) all ∙ ok)))

  pub sent_own : (m k : ℕ) (text : List ℕ) (close : Bool) (more : List WireItem) → k ≡ n → p.phase ≡ sending k text close more → p.ended < m
      → Stood first (items ++ at m (Sent k text false)) ss (in_phase p (if close then shutting k else acting k more)) n
  sent_own m k text close more same phase after =
      sent_as m k text text close more same after refl (take_all (length text) text (omega arith)) (s.sends text close more (phase ∙ ap (λ (j : ℕ). sending j text close more) same))

  failed_core : (m k j : ℕ) (text : List ℕ) (close : Bool) (more : List WireItem) → k ≡ n → p.ended < m
      → Sends (machine_at first ss) (HeldBy first items ss) p (received n items) (replies n items) s.core text close more
      → Core (HeldBy first (items ++ at m (Sent k (take j text) true)) ss) p.machine.log (received n (items ++ at m (Sent k (take j text) true))) (replies n (items ++ at m (Sent k (take j text) true)))
  failed_core m k j text close more same after (head open_ is_head stays) =
      refused_core m k (take j text) true same (λ ok. not_ok (take j text) (ap (λ (z : List ℕ). shows_status 200 (take j z)) is_head ∙ texts.continue_ok j) ok)
  failed_core m k j text close more same after (reply item request open_ whole kept final shows settled) =
      (answered m k j text true more item request same after open_ whole kept (final j) (shows j) settled).0
  failed_core m k j text close more same after (refused closes clean none) = refused_core m k (take j text) true same (none j)

  pub failed_own : (m k j : ℕ) (text : List ℕ) (close : Bool) (more : List WireItem) → k ≡ n → p.phase ≡ sending k text close more → p.ended < m
      → Stood first (items ++ at m (Sent k (take j text) true)) ss (behind_failure p (shutting k)) n
  failed_own m k j text close more same phase after =
      stands_shutting first (items ++ at m (Sent k (take j text) true)) ss (behind_failure p (shutting k)) n (ap (λ (i : ℕ). shutting i) same)
      (failed_core m k j text close more same after (s.sends text close more (phase ∙ ap (λ (i : ℕ). sending i text close more) same)))
