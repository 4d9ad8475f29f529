-- What the logs of the rows stand for behind a call.
use Rattle.std.proofs.Common.{◌≡◌, ◌∙◌, ℕ, false, true, List, [], ◌∷◌, ◌++◌, length, Option, None, Some, is_some}
use Rattle.sm_site.specs.Image.{Image}
use Rattle.sm_gatelog.specs.Logs.{Log, Stands, IsLog, AfterAppend, AfterSettle}
use Rattle.sm_gatelog.specs.declared.answer.Appended.{Appended}
use Rattle.sm_gatelog.specs.declared.answer.Appended.TheVariants as appended
use Rattle.sm_gatelog.specs.declared.answer.Settled.{Settled}
use Rattle.sm_gatelog.specs.declared.answer.Settled.TheVariants as settled
use Rattle.sm_gatelog.proofs.Settling.{stands_reserved}
use Rattle.sm_seglog.specs.Segments.{Segments, OnlyReserved}
use Rattle.sm_seglog.specs.Standing as seg
use Rattle.sm_seglog.proofs.Standing.{fewer_outcomes, reserved_stands}

-- ---- one file

pub log_sure : (doubt : Option (List ℕ)) (bodies : List (List ℕ)) (log : Log) (outcomes : Image → Type 0) → log.doubt ≡ None → Stands bodies doubt log outcomes → Stands bodies None log outcomes
log_sure None bodies log outcomes none s = s
log_sure (Some body) bodies log outcomes none s = let some : log.doubt ≡ Some (length body) = s.doubt_is in absurd (cc)

pub log_appended : (bodies : List (List ℕ)) (body : List ℕ) (r : Appended) (log : Log) (outcomes : Image → Type 0) → AfterAppend bodies body r log outcomes → IsLog log outcomes
log_appended bodies body (appended.Stored place) log outcomes a = (bodies ++ body ∷ [], None, a.1)
log_appended bodies body appended.Clean log outcomes a = (bodies, None, a)
log_appended bodies body appended.Doubt log outcomes a = (bodies, Some body, a)

pub log_settled : (bodies : List (List ℕ)) (body : List ℕ) (r : Settled) (log : Log) (outcomes : Image → Type 0) → AfterSettle bodies body r log outcomes → IsLog log outcomes
log_settled bodies body (settled.Stored place) log outcomes a = (bodies ++ body ∷ [], None, a.1)
log_settled bodies body settled.Gone log outcomes a = (bodies, None, a)
log_settled bodies body settled.DiskFault log outcomes a = (bodies, Some body, a)

-- a doubt was settled
pub log_after_settle : (log new : Log) (r : Settled) (outcomes after : Image → Type 0) → is_some log.doubt ≡ true
    → ((bodies : List (List ℕ)) (body : List ℕ) → Stands bodies (Some body) log outcomes → AfterSettle bodies body r new after) → IsLog log outcomes → IsLog new after
log_after_settle log new r outcomes after some settles (bodies, None, s) = let none : log.doubt ≡ None = s.doubt_is in absurd (cc)
log_after_settle log new r outcomes after some settles (bodies, Some body, s) = log_settled bodies body r new after (settles bodies body s)

pub log_fewer : (log : Log) (old new : Image → Type 0) → ((c : Image) → new c → old c) → IsLog log old → IsLog log new
log_fewer log old new fewer h =
    let s = h.2 in
    (h.0, h.1, record { made = s.made; slots = s.slots; end = s.end; doubt_is = s.doubt_is; held = λ c left. s.held c (fewer c left) })

pub log_reserved : (old new : Log) (outcomes : Image → Type 0) → new ≡ record old { spare = new.spare; room = new.room } → IsLog old outcomes → IsLog new outcomes
log_reserved old new outcomes is h = (h.0, h.1, stands_reserved h.0 h.1 old new outcomes is h.2)

-- ---- many files

pub seg_appended : (bodies : List (List ℕ)) (body : List ℕ) (r : Appended) (log : Segments) (outcomes : Image → Type 0) → seg.AfterAppend bodies body r log outcomes → seg.IsSegLog log outcomes
seg_appended bodies body (appended.Stored place) log outcomes a = (bodies ++ body ∷ [], None, a.1)
seg_appended bodies body appended.Clean log outcomes a = (bodies, None, a)
seg_appended bodies body appended.Doubt log outcomes a = (bodies, Some body, a)

pub seg_settled : (bodies : List (List ℕ)) (body : List ℕ) (r : Settled) (log : Segments) (outcomes : Image → Type 0) → seg.AfterSettle bodies body r log outcomes → seg.IsSegLog log outcomes
seg_settled bodies body (settled.Stored place) log outcomes a = (bodies ++ body ∷ [], None, a.1)
seg_settled bodies body settled.Gone log outcomes a = (bodies, None, a)
seg_settled bodies body settled.DiskFault log outcomes a = (bodies, Some body, a)

-- a doubt was settled
pub seg_after_settle : (log new : Segments) (r : Settled) (outcomes after : Image → Type 0) → is_some log.last.doubt ≡ true
    → ((bodies : List (List ℕ)) (body : List ℕ) → seg.Stands log bodies (Some body) outcomes → seg.AfterSettle bodies body r new after) → seg.IsSegLog log outcomes → seg.IsSegLog new after
seg_after_settle log new r outcomes after some settles (bodies, None, s) = let none : false ≡ true = s.doubts ∙ some in absurd (cc)
seg_after_settle log new r outcomes after some settles (bodies, Some body, s) = seg_settled bodies body r new after (settles bodies body s)

pub seg_fewer : (log : Segments) (old new : Image → Type 0) → ((c : Image) → new c → old c) → seg.IsSegLog log old → seg.IsSegLog log new
seg_fewer log old new fewer h = (h.0, h.1, fewer_outcomes log h.0 h.1 old new fewer h.2)

pub seg_kept : (old new : Segments) (outcomes : Image → Type 0) → OnlyReserved old new → seg.IsSegLog old outcomes → seg.IsSegLog new outcomes
seg_kept old new outcomes is h = (h.0, h.1, reserved_stands old new h.0 h.1 outcomes is h.2)
