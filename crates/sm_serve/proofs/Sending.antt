-- Sends and closes of a run.
use Rattle.std.proofs.Common.{◌≡◌, ℕ, ◌+◌, ◌-◌, ◌<◌, ◌≤◌, ◌^◌, Bool, true, false, if◌then◌else◌, List, [], ◌++◌, take, Option, Some, is_some, IsSome, IsTrue, refl, sym, ◌∙◌, ap, subst, arith}
use Rattle.std.proofs.lemmas.List.{append-nil}
use Rattle.sm_site.specs.Image.{Image}
use Rattle.sm_site.specs.Meanings.{View, Item, Deal, Seen}
use Rattle.sm_site.specs.Meanings.Deal.{Sent, Shut}
use Rattle.sm_site.specs.Clauses.{AreOne, LinkAlone, Adds, Rose}
use Rattle.sm_site.proofs.Views.{seen_here, same_here, elapses_here}
use Rattle.sm_wire.specs.declared.item.WireItem.{WireItem}
use Rattle.sm_serve.specs.Connections.{received, live, without, deals_in}
use Rattle.sm_serve.specs.Run.{Counts, Point, idle, acting, sending, shutting, Moves, sent, failed, unsent, shut, at, in_phase, behind_failure}
use Rattle.sm_serve.specs.Standing.{History, is_told, Keeps, moved, Follows}
use Rattle.sm_serve.proofs.Lasting.{on_moved, on_then}
use Rattle.sm_serve.proofs.Transcripts.{received_push, live_push, deals_push, told_adds}
use Rattle.sm_serve.proofs.Going.{link_move}

pub follows_then : (n : ℕ) (is_open : Bool) (h k l : History) → Follows n true h k → Follows n is_open k l → Follows n is_open h l
follows_then n is_open h k l one two = record {
  first = two.first ∙ one.first;
  begin = two.begin ∙ one.begin;
  base = two.base ∙ one.base;
  found = two.found ∙ one.found;
  on = on_then h k l one.on two.on;
  received = λ j. two.received j ∙ one.received j;
  deals = two.deals ∙ one.deals;
  live = two.live ∙ ap (λ (ns : List ℕ). if is_open then ns else without n ns) one.live;
  counts = λ j other. two.counts j other ∙ one.counts j other;
  no_ladder = two.no_ladder ∙ one.no_ladder;
}

module _ {D : Type 0} (site link : Seen D)
    (one : AreOne site link)
    (told : (s : D) (t : ℕ) (image : Image) → site.left_at s t image → IsSome (site.view s).contents) where
  -- a history behind calls of the link, at a point
  pub record After (h : History) (n : ℕ) (is_open : Bool) (e : D) (q : Point) : Type 0 where
    pub later : History
    pub keeps : Keeps site later e
    pub follows : Follows n is_open h later
    pub point_is : later.point ≡ q

  pub calls_here : (d e : D) → LinkAlone link d e → (site.view e).calls ≡ (site.view d).calls
  calls_here d e call = ap (λ (v : View). v.calls) (one.view e) ∙ call.disk.calls ∙ ap (λ (v : View). v.calls) (sym (one.view d))

  pub contents_here : (d e : D) → LinkAlone link d e → (site.view e).contents ≡ (site.view d).contents
  contents_here d e call = ap (λ (v : View). v.contents) (one.view e) ∙ call.disk.contents ∙ ap (λ (v : View). v.contents) (sym (one.view d))

  pub disk_faults_here : (d e : D) → LinkAlone link d e → (site.view e).disk_faults ≡ (site.view d).disk_faults
  disk_faults_here d e call = ap (λ (v : View). v.disk_faults) (one.view e) ∙ call.disk.disk_faults ∙ ap (λ (v : View). v.disk_faults) (sym (one.view d))

  pub told_here : (d e : D) → LinkAlone link d e → IsTrue (is_told (site.view e)) → IsTrue (is_told (site.view d))
  told_here d e call has = sym (ap (λ (o : Option Image). is_some o) (contents_here d e call)) ∙ has

  added : (h : History) (d e : D) (deal : Deal) (q : Point) → Keeps site h d → LinkAlone link d e → Adds deal (link.view d) (link.view e)
      → ((m : ℕ) → (IsTrue (is_told (site.view e)) → h.point.ended < m) → Moves (is_told (site.view e)) h.items h.point (at m deal) [] q)
      → q.machine ≡ h.point.machine → q.ended ≡ h.point.ended → q.faults ≡ h.point.faults → ((site.view e).send_faults < 2 ^ 64 - 1 → h.found.send_faults + q.failed ≤ (site.view e).send_faults)
      → (m : ℕ) × Keeps site (moved h (at m deal) q) e × Moves (is_told (site.view e)) h.items h.point (at m deal) [] q
  added h d e deal q keeps call adds move machine ended faults blamed =
      let here = seen_here site link one (Adds deal) d e adds in
      let t = told_adds (site.view d) (site.view e) (h.base ++ h.items) deal keeps.told here in
      let time = elapses_here site link one d e call.time in
      let same = same_here site link one d e call.crash in
      let m = t.0 in
      let above : (site.view d).moment < m = t.1 in
      let within : m ≤ (site.view e).moment = t.2 in
      let behind : IsTrue (is_told (site.view e)) → h.point.ended < m = λ has. (let c = keeps.clock (told_here d e call has) in omega (arith, c, above)) in (
        m,
        link_move site told h d e (at m deal) q keeps (move m behind) machine (λ has. omega (arith, ended))
            t.3 time same (calls_here d e call) (contents_here d e call) (λ has. (let b = behind has in omega (arith, ended, b, within))) blamed faults (disk_faults_here d e call),
        move m behind,
      )

  follows_sent : (told_ : Bool) (h : History) (m n : ℕ) (bytes : List ℕ) (fails : Bool) (q : Point) → Moves told_ h.items h.point (at m (Sent n bytes fails)) [] q → q.counts ≡ h.point.counts
      → Follows n true h (moved h (at m (Sent n bytes fails)) q)
  follows_sent told_ h m n bytes fails q move counts = record {
    first = refl;
    begin = refl;
    base = refl;
    found = refl;
    on = on_moved told_ h (at m (Sent n bytes fails)) q move;
    received = λ j. received_push j h.items (record { moment = m; deal = Sent n bytes fails });
    deals = deals_push h.items (record { moment = m; deal = Sent n bytes fails });
    live = live_push h.items (record { moment = m; deal = Sent n bytes fails });
    counts = λ j other. ap (λ (f : ℕ → Counts). f j) counts;
    no_ladder = refl;
  }

  pub sent_after : (h : History) (d e : D) (n : ℕ) (bytes : List ℕ) (close : Bool) (more : List WireItem) → Keeps site h d → LinkAlone link d e → h.point.phase ≡ sending n bytes close more
      → Adds (Sent n bytes false) (link.view d) (link.view e) → (link.view e).send_faults ≡ (link.view d).send_faults → After h n true e (in_phase h.point (if close then shutting n else acting n more))
  sent_after h d e n bytes close more keeps call phase adds faults =
      let q = in_phase h.point (if close then shutting n else acting n more) in
      let same : (site.view e).send_faults ≡ (site.view d).send_faults = ap (λ (v : View). v.send_faults) (one.view e) ∙ faults ∙ ap (λ (v : View). v.send_faults) (sym (one.view d)) in
      let a = added h d e (Sent n bytes false) q keeps call adds (λ m behind. sent m n bytes close more phase behind refl refl refl) refl refl refl
      (λ below. subst (λ (k : ℕ). h.found.send_faults + h.point.failed ≤ k) (sym same) (keeps.blamed (subst (λ (k : ℕ). k < 2 ^ 64 - 1) same below))) in
      record { later = moved h (at a.0 (Sent n bytes false)) q; keeps = a.1; follows = follows_sent (is_told (site.view e)) h a.0 n bytes false q a.2 refl; point_is = refl }

  blame : (d e : D) (h : History) → Keeps site h d → Rose (link.view d).send_faults (link.view e).send_faults → (site.view e).send_faults < 2 ^ 64 - 1 → h.found.send_faults + (h.point.failed + 1) ≤ (site.view e).send_faults
  blame d e h keeps rose below =
      let rises : (site.view d).send_faults < (site.view e).send_faults = seen_here site link one (λ v w. v.send_faults < w.send_faults) d e
      (rose.rose (λ last. absurd (let at : (site.view e).send_faults ≡ 2 ^ 64 - 1 = ap (λ (v : View). v.send_faults) (one.view e) ∙ last in omega (arith, at, below)))) in
      let was = keeps.blamed (omega (arith, rises, below)) in
      omega (arith, was, rises)

  pub failed_after : (h : History) (d e : D) (n k : ℕ) (bytes : List ℕ) (close : Bool) (more : List WireItem) → Keeps site h d → LinkAlone link d e → h.point.phase ≡ sending n bytes close more
      → Adds (Sent n (take k bytes) true) (link.view d) (link.view e) → Rose (link.view d).send_faults (link.view e).send_faults → After h n true e (behind_failure h.point (shutting n))
  failed_after h d e n k bytes close more keeps call phase adds rose =
      let q = behind_failure h.point (shutting n) in
      let a = added h d e (Sent n (take k bytes) true) q keeps call adds (λ m behind. failed m n k bytes close more phase behind refl refl refl) refl refl refl
      (λ below. blame d e h keeps rose below) in
      record { later = moved h (at a.0 (Sent n (take k bytes) true)) q; keeps = a.1; follows = follows_sent (is_told (site.view e)) h a.0 n (take k bytes) true q a.2 refl; point_is = refl }

  pub unsent_after : (h : History) (d e : D) (n : ℕ) (bytes : List ℕ) (close : Bool) (more : List WireItem) → Keeps site h d → LinkAlone link d e → h.point.phase ≡ sending n bytes close more
      → (link.view e).transcript ≡ (link.view d).transcript → Rose (link.view d).send_faults (link.view e).send_faults → After h n true e (behind_failure h.point (shutting n))
  unsent_after h d e n bytes close more keeps call phase still rose =
      let q = behind_failure h.point (shutting n) in
      let time = elapses_here site link one d e call.time in
      let same = same_here site link one d e call.crash in
      let told_is : (site.view e).transcript ≡ Some ((h.base ++ h.items) ++ []) = ap (λ (v : View). v.transcript) (one.view e) ∙ still ∙ ap (λ (v : View). v.transcript) (sym (one.view d)) ∙ keeps.told ∙ ap
      (λ (l : List Item). Some l) (sym (append-nil (h.base ++ h.items))) in
      let on = link_move site told h d e [] q keeps (unsent n bytes close more phase refl refl refl) refl (λ has. omega arith) told_is time same (calls_here d e call) (contents_here d e call)
      (λ has. (let c = keeps.clock (told_here d e call has) in let l = time.later in omega (arith, c, l))) (λ below. blame d e h keeps rose below) refl (disk_faults_here d e call) in
      record {
        later = moved h [] q;
        keeps = on;
        follows = record {
          first = refl;
          begin = refl;
          base = refl;
          found = refl;
          on = on_moved (is_told (site.view e)) h [] q (unsent n bytes close more phase refl refl refl);
          received = λ j. ap (received j) (append-nil h.items);
          deals = ap deals_in (append-nil h.items);
          live = ap live (append-nil h.items);
          counts = λ j other. refl;
          no_ladder = refl;
        };
        point_is = refl;
      }

  pub shut_after : (h : History) (d e : D) (n : ℕ) → Keeps site h d → LinkAlone link d e → h.point.phase ≡ shutting n
      → Adds (Shut n) (link.view d) (link.view e) → (link.view e).send_faults ≡ (link.view d).send_faults → After h n false e (in_phase h.point idle)
  shut_after h d e n keeps call phase adds faults =
      let q = in_phase h.point idle in
      let same : (site.view e).send_faults ≡ (site.view d).send_faults = ap (λ (v : View). v.send_faults) (one.view e) ∙ faults ∙ ap (λ (v : View). v.send_faults) (sym (one.view d)) in
      let a = added h d e (Shut n) q keeps call adds (λ m behind. shut m n phase refl refl refl) refl refl refl
      (λ below. subst (λ (k : ℕ). h.found.send_faults + h.point.failed ≤ k) (sym same) (keeps.blamed (subst (λ (k : ℕ). k < 2 ^ 64 - 1) same below))) in
      record {
        later = moved h (at a.0 (Shut n)) q;
        keeps = a.1;
        follows = record {
          first = refl;
          begin = refl;
          base = refl;
          found = refl;
          on = on_moved (is_told (site.view e)) h (at a.0 (Shut n)) q a.2;
          received = λ j. received_push j h.items (record { moment = a.0; deal = Shut n });
          deals = deals_push h.items (record { moment = a.0; deal = Shut n });
          live = live_push h.items (record { moment = a.0; deal = Shut n });
          counts = λ j other. refl;
          no_ladder = refl;
        };
        point_is = refl;
      }

  pub then_shut : (h : History) (d e : D) (n : ℕ) (q : Point) → (a : After h n true d q) → q.phase ≡ shutting n → LinkAlone link d e
      → Adds (Shut n) (link.view d) (link.view e) → (link.view e).send_faults ≡ (link.view d).send_faults
      → After h n false e (in_phase q idle)
  then_shut h d e n q a phase call adds faults =
      let s = shut_after a.later d e n a.keeps call (ap (λ (p : Point). p.phase) a.point_is ∙ phase) adds faults in
      record { later = s.later; keeps = s.keeps; follows = follows_then n false h a.later s.later a.follows s.follows; point_is = s.point_is ∙ ap (λ (p : Point). in_phase p idle) a.point_is }
