use Rattle.std.proofs.Common.{rules, ◌≡◌, ◌⊎◌, ⊎_elim, ◌≤◌, ℕ, List, ◌++◌, take, length, Bool, true, false, if◌then◌else◌, IfSome, is_some, refl, sym, ◌∙◌, ap, subst}
use Rattle.sm_site.specs.Meanings.{View, IsLive}
use Rattle.sm_site.specs.Meanings.Deal.{Sent, Shut}
use Rattle.sm_site.specs.Clauses.{Adds, Rose}
use Rattle.sm_serve.specs.Run.{idle, acting, shutting, in_phase, behind_failure}
use Rattle.sm_site.proofs.Transcripts.{stays_live}
use Rattle.sm_serve.proofs.Transcripts.{adds_told}
use Rattle.sm_serve.proofs.Steps.{not_open, sent_call, sent_then}
use Rattle.sm_serve.proofs.Reaching.{reached}
use Rattle.sm_serve.proofs.Sending.{After, sent_after, failed_after, unsent_after, then_shut}
use Rattle.sm_serve.proofs.tell.tell_both.Goals as goal

pub close-requires : goal.close-requires
close-requires g c =
    let live : IfSome (g.S.Link.seen.view c.args.site.now).transcript (IsLive c.args.number) = subst (λ (v : View). IfSome v.transcript (IsLive c.args.number)) (g.met.S.Site.one.view c.args.site.now) c.requires.live in
    let adds : Adds (Sent c.args.number (c.args.head.now ++ c.args.tail.now) false) (g.S.Link.seen.view c.args.site.now) (g.S.Link.seen.view c.send_both.new.self) = search rules in
    record { live = stays_live (g.S.Link.seen.view c.args.site.now) (g.S.Link.seen.view c.send_both.new.self) c.args.number (Sent c.args.number (c.args.head.now ++ c.args.tail.now) false) (λ was t. t) live adds }

pub close-requires-in-Err : goal.close-requires-in-Err
close-requires-in-Err g c =
    let live : IfSome (g.S.Link.seen.view c.args.site.now).transcript (IsLive c.args.number) = subst (λ (v : View). IfSome v.transcript (IsLive c.args.number)) (g.met.S.Site.one.view c.args.site.now) c.requires.live in
    let W = g.S.Link.seen.view in
    let d = c.args.site.now in
    let e = c.send_both.new.self in
    let part : ((k : ℕ) × (k ≤ length (c.args.head.now ++ c.args.tail.now)) × Adds (Sent c.args.number (take k (c.args.head.now ++ c.args.tail.now)) true) (W d) (W e)) ⊎ ((W e).transcript ≡ (W d).transcript) = search rules in
    record {
      live = ⊎_elim
          (λ (p : (k : ℕ) × (k ≤ length (c.args.head.now ++ c.args.tail.now))
          × Adds (Sent c.args.number (take k (c.args.head.now ++ c.args.tail.now)) true) (W d) (W e)). stays_live (g.S.Link.seen.view c.args.site.now) (g.S.Link.seen.view c.send_both.new.self) c.args.number
          (Sent c.args.number (take p.0 (c.args.head.now ++ c.args.tail.now)) true) (λ was t. t) live p.2)
          (λ (same : (W e).transcript ≡ (W d).transcript). subst (λ (o : _). IfSome o (IsLive c.args.number)) (sym same) live) part;
    }

-- what was sent, the connection stays open
pub returns-else-close : goal.returns-else-close
returns-else-close g c =
    let W = g.S.Link.seen.view in
    let d = c.args.site.now in
    let e = c.send_both.new.self in
    let n = c.args.number in
    let bytes : List ℕ = c.args.head.now ++ c.args.tail.now in
    let call = c.send_both.ensures.link_alone in
    let adds : Adds (Sent n bytes false) (W d) (W e) = search rules in
    let faults : (W e).send_faults ≡ (W d).send_faults = search rules in
    let one = sent_call g.S.Disk.seen g.S.Link.seen g.met.S.Site.one g.met.S.Disk.told c.fewer_images_stand.ensures d e call (adds_told (W d) (W e) (Sent n bytes false) adds)
    c.send_both.ensures.link_faults c.send_both.ensures.script in
    record {
      goes_on = λ h more origin keeps stands phase.
          let a = sent_after g.S.Disk.seen g.S.Link.seen g.met.S.Site.one g.met.S.Disk.told h d e n bytes c.args.close more keeps call phase adds faults in
          let q = in_phase h.point (acting n more) in
          let is : a.later.point ≡ q = a.point_is ∙ ap (λ (b : Bool). in_phase h.point (if b then shutting n else acting n more)) c.if-close.false in
          reached g.S.Disk.seen h a.later n true e q origin a.keeps a.follows is refl refl (one.stands h.point.machine origin stands);
      closed = λ is. absurd (let both : false ≡ true = sym c.if-close.false ∙ is in cc);
      live = λ open_.
          let live : IfSome (W d).transcript (IsLive n) = subst (λ (v : View). IfSome v.transcript (IsLive n)) (g.met.S.Site.one.view d) c.requires.live in
          subst (λ (v : View). IfSome v.transcript (IsLive n)) (sym (g.met.S.Site.one.view e)) (stays_live (W d) (W e) n (Sent n bytes false) (λ was t. t) live adds);
      sent = one;
    }

-- and it is closed
pub returns-then-close : goal.returns-then-close
returns-then-close g c =
    let W = g.S.Link.seen.view in
    let d = c.args.site.now in
    let e = c.send_both.new.self in
    let n = c.args.number in
    let bytes : List ℕ = c.args.head.now ++ c.args.tail.now in
    let call = c.send_both.ensures.link_alone in
    let f = c.close.new.self in
    let call2 = c.close.ensures.link_alone in
    let adds : Adds (Sent n bytes false) (W d) (W e) = search rules in
    let faults : (W e).send_faults ≡ (W d).send_faults = search rules in
    let one = sent_call g.S.Disk.seen g.S.Link.seen g.met.S.Site.one g.met.S.Disk.told c.fewer_images_stand.ensures d e call (adds_told (W d) (W e) (Sent n bytes false) adds)
    c.send_both.ensures.link_faults c.send_both.ensures.script in
    let two = sent_call g.S.Disk.seen g.S.Link.seen g.met.S.Site.one g.met.S.Disk.told c.fewer_images_stand.ensures e f call2
    (adds_told (W e) (W f) (Shut n) c.close.ensures.shut) c.close.ensures.link_faults c.close.ensures.script in
    let sent = sent_then g.S.Disk.seen d e f one two in
    record {
      goes_on = λ h more origin keeps stands phase.
          let a = sent_after g.S.Disk.seen g.S.Link.seen g.met.S.Site.one g.met.S.Disk.told h d e n bytes c.args.close more keeps call phase adds faults in
          let q = in_phase h.point (if c.args.close then shutting n else acting n more) in
          let shuts : q.phase ≡ shutting n = ap (λ (b : Bool). if b then shutting n else acting n more) c.if-close.true in
          let s = then_shut g.S.Disk.seen g.S.Link.seen g.met.S.Site.one g.met.S.Disk.told h e f n q a shuts call2 c.close.ensures.shut c.close.ensures.send_faults in
          reached g.S.Disk.seen h s.later n false f (in_phase q idle) origin s.keeps s.follows s.point_is refl refl (sent.stands h.point.machine origin stands);
      closed = λ is. refl;
      live = λ open_. absurd (not_open open_);
      sent = sent;
    }

-- the send failed
pub returns-in-Err : goal.returns-in-Err
returns-in-Err g c =
    let W = g.S.Link.seen.view in
    let d = c.args.site.now in
    let e = c.send_both.new.self in
    let n = c.args.number in
    let bytes : List ℕ = c.args.head.now ++ c.args.tail.now in
    let call = c.send_both.ensures.link_alone in
    let f = c.close-in-Err.new.self in
    let call2 = c.close-in-Err.ensures.link_alone in
    let part : ((k : ℕ) × (k ≤ length bytes) × Adds (Sent n (take k bytes) true) (W d) (W e)) ⊎ ((W e).transcript ≡ (W d).transcript) = search rules in
    let rose : Rose (W d).send_faults (W e).send_faults = search rules in
    let told : is_some (W e).transcript ≡ is_some (W d).transcript = ⊎_elim
    (λ (p : (k : ℕ) × (k ≤ length bytes) × Adds (Sent n (take k bytes) true) (W d) (W e)). adds_told (W d) (W e) (Sent n (take p.0 bytes) true) p.2)
    (λ (still : (W e).transcript ≡ (W d).transcript). ap is_some still) part in
    let one = sent_call g.S.Disk.seen g.S.Link.seen g.met.S.Site.one g.met.S.Disk.told c.fewer_images_stand.ensures d e call told
    c.send_both.ensures.link_faults c.send_both.ensures.script in
    let two = sent_call g.S.Disk.seen g.S.Link.seen g.met.S.Site.one g.met.S.Disk.told c.fewer_images_stand.ensures e f call2
    (adds_told (W e) (W f) (Shut n) c.close-in-Err.ensures.shut) c.close-in-Err.ensures.link_faults c.close-in-Err.ensures.script in
    let sent = sent_then g.S.Disk.seen d e f one two in
    record {
      goes_on = λ h more origin keeps stands phase.
          let q = behind_failure h.point (shutting n) in
          let a : After g.S.Disk.seen g.S.Link.seen g.met.S.Site.one g.met.S.Disk.told h n true e q = ⊎_elim
          (λ (p : (k : ℕ) × (k ≤ length bytes) × Adds (Sent n (take k bytes) true) (W d) (W e)).
          failed_after g.S.Disk.seen g.S.Link.seen g.met.S.Site.one g.met.S.Disk.told h d e n p.0 bytes c.args.close more keeps call phase p.2 rose)
          (λ (still : (W e).transcript ≡ (W d).transcript).
          unsent_after g.S.Disk.seen g.S.Link.seen g.met.S.Site.one g.met.S.Disk.told h d e n bytes c.args.close more keeps call phase still rose) part in
          let s = then_shut g.S.Disk.seen g.S.Link.seen g.met.S.Site.one g.met.S.Disk.told h e f n q a refl call2 c.close-in-Err.ensures.shut c.close-in-Err.ensures.send_faults in
          reached g.S.Disk.seen h s.later n false f (in_phase q idle) origin s.keeps s.follows s.point_is refl refl (sent.stands h.point.machine origin stands);
      closed = λ is. refl;
      live = λ open_. absurd (not_open open_);
      sent = sent;
    }
