-- How a run of calls goes on.
use Rattle.std.proofs.Common.{◌≡◌, ℕ, ◌≤◌, List, refl, ◌∙◌, arith}
use Rattle.sm_site.specs.Image.{Image, bytes_of}
use Rattle.sm_site.specs.Meanings.{SameLink, Seen}
use Rattle.sm_site.specs.Clauses.{Passes, NoMore, Recorded, Throughout}
use Rattle.sm_site.proofs.Moments.{one_call, no_call, weakened, and_then, link_here, link_then}
use Rattle.sm_gatelog.specs.Moments.{InFile, Looks, EveryMoment}

module _ {D : Type 0} (site : Seen D) where
  pub by_call : (old new : D) (P : Image → Type 0) → Passes site old new
      → Recorded (site.view old) (site.view new) → ((c : Image) → site.may_leave old c → P c) → ((c : Image) → site.may_leave new c → P c) → EveryMoment site old new P
  by_call old new P time recorded from to = record { moments = one_call site old new _ _ _ time recorded (λ t c was. from c was) (λ t c now. to c now); now = to }

  pub by_looks : (old new : D) (P : Image → Type 0) → Looks site old new → ((c : Image) → site.may_leave old c → P c) → EveryMoment site old new P
  by_looks old new P looks from = record { moments = weakened site old new _ _ looks.moments (λ t c was. from c was); now = λ c now. from c (looks.crash c now) }

  pub by_write : (old new : D) (P Q : Image → Type 0) → Throughout site old new (λ t. P) → ((c : Image) → site.may_leave new c → P c) → ((c : Image) → P c → Q c) → EveryMoment site old new Q
  by_write old new P Q all now so = record { moments = weakened site old new _ _ all (λ t c p. so c p); now = λ c left. so c (now c left) }

  pub every_weaker : (old new : D) (P Q : Image → Type 0) → EveryMoment site old new P → ((c : Image) → P c → Q c) → EveryMoment site old new Q
  every_weaker old new P Q all so = by_write old new P Q all.moments all.now so

  pub every_then : (old mid new : D) (P : Image → Type 0) → EveryMoment site old mid P → EveryMoment site mid new P → EveryMoment site old new P
  every_then old mid new P first second = record { moments = and_then site old mid new _ first.moments second.moments; now = second.now }

  pub looks_call : (old new : D) → (site.view new).contents ≡ (site.view old).contents → NoMore (site.may_leave old) (site.may_leave new)
      → Passes site old new → Recorded (site.view old) (site.view new)
      → (site.view old).reads ≤ (site.view new).reads → SameLink (site.view old) (site.view new) → Looks site old new
  looks_call old new contents crash time recorded reads link =
      record { contents = contents; crash = crash; moments = one_call site old new _ _ _ time recorded (λ t c was. was) (λ t c now. crash c now); reads = reads; link = link }

  pub looks_then : (old mid new : D) → Looks site old mid → Looks site mid new → Looks site old new
  looks_then old mid new first second = record {
    contents = second.contents ∙ first.contents;
    crash = λ c now. first.crash c (second.crash c now);
    moments = and_then site old mid new _ first.moments (weakened site mid new _ _ second.moments (λ t c was. first.crash c was));
    reads = omega (arith, first.reads, second.reads);
    link = link_then (site.view old) (site.view mid) (site.view new) first.link second.link;
  }

  pub looks_same : (d : D) → ((t : ℕ) (c : Image) → site.left_at d t c → t ≤ (site.view d).moment) → Looks site d d
  looks_same d no_later = record {
    contents = refl;
    crash = λ c now. now;
    moments = no_call site d _ no_later;
    reads = omega arith;
    link = link_here (site.view d);
  }

-- an old outcome is one
pub in_file_same : (file : ℕ) (P : List ℕ → Type 0) (old : Image → Type 0) (c : Image) → P (bytes_of c file) → old c → InFile file P old c
in_file_same file P old c p was = (p, (c, was, λ other apart. refl))

pub in_file_then : (file : ℕ) (P Q : List ℕ → Type 0) (old mid : Image → Type 0) → ((c : Image) → mid c → InFile file Q old c) → (c : Image) → InFile file P mid c → InFile file P old c
in_file_then file P Q old mid before c (p, (d, was, same)) = let first = before d was in (p, (first.1.0, first.1.1, λ other apart. same other apart ∙ first.1.2 other apart))

pub in_file_weaker : (file : ℕ) (P Q : List ℕ → Type 0) (old : Image → Type 0) → ((b : List ℕ) → P b → Q b) → (c : Image) → InFile file P old c → InFile file Q old c
in_file_weaker file P Q old so c (p, from) = (so (bytes_of c file) p, from)
