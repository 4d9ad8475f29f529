-- What is reserved stands for the same.
use Rattle.std.proofs.Common.{◌≡◌, ℕ, ◌≤◌, ◌<◌, ◌^◌, List, [], ◌∷◌, Option, None, Some, sym, ap, subst, ◌∙◌, arith}
use Rattle.std.specs.List.{AllZip}
use Rattle.sm_model.specs.declared.track.Track.{Track}
use Rattle.sm_model.specs.declared.entry.Entry.{Entry}
use Rattle.sm_model.specs.declared.entry.Entry.TheVariants.{Declare, Keep}
use Rattle.sm_model.specs.Channels.{IsChannel}
use Rattle.sm_log.specs.Logs.{FitsBehind, IsSound}
use Rattle.sm_record.specs.declared.meta.Meta.{Meta}
use Rattle.sm_record.specs.Metas.{IsMetaOf}
use Rattle.sm_site.specs.Image.{Image}
use Rattle.sm_seglog.specs.Segments.{Segments}
use Rattle.sm_archive.specs.declared.index.Index.{Index}
use Rattle.sm_archive.specs.declared.archive.Pending.{Pending}
use Rattle.sm_archive.specs.declared.archive.Pending.TheVariants as pending
use Rattle.sm_archive.specs.declared.archive.Doubt.{Doubt}
use Rattle.sm_archive.specs.declared.archive.Archive.{Archive}
use Rattle.sm_archive.specs.declared.limits.Limits.{Limits}
use Rattle.sm_archive.specs.Index.{Reserved}
use Rattle.sm_archive.specs.Stands.{IsIndex, IsMetaIn, IndexIs, IsPending, Doubted, Stands}
use Rattle.sm_archive.specs.Reserving.{IndexReserved, PendingReserved, DoubtReserved, IsReserved, HasOneIndex}
use Rattle.sm_archive.proofs.Doubts.{doubted_some}
use Rattle.sm_seglog.proofs.Standing.{same_count, reserved_stands}

pub index_same : (i j : Index) (log : List Entry) → Reserved i j → IsIndex i log → IsIndex j log
index_same i j log r is = record {
  rest = is.rest;
  log_is = is.log_is ∙ ap (λ (c : List Track). Declare c ∷ is.rest) (sym r.channel);
  adds = r.adds ∙ is.adds;
  metas =
      subst (λ (c : List Track). AllZip (IsMetaIn c) is.rest j.metas.items) (sym r.channel)
      (subst (λ (ms : List Meta). AllZip (IsMetaIn i.catalog.channel) is.rest ms) (sym r.metas) is.metas);
}

indexes_same : (i j : Option Index) (log : List Entry) → IndexReserved i j → IndexIs i log → IndexIs j log
indexes_same None None log r is = is
indexes_same None (Some j) log r is = absurd r
indexes_same (Some i) None log r is = absurd r
indexes_same (Some i) (Some j) log r is = index_same i j log r is

keep_same : (p : Pending) (i j : Option Index) (log : List Entry) (e : Entry) → IndexReserved i j → IsPending p i log e → (q : Pending) → PendingReserved p q → IsPending q j log e
keep_same (pending.Declare a) i j log e r is (pending.Declare b) same = (index_same a b (e ∷ []) same is.0, is.1)
keep_same (pending.Declare a) i j log e r is (pending.Keep b m check) same = absurd same
keep_same (pending.Keep a m check) None j log e r is q same = absurd is
keep_same (pending.Keep a m check) (Some i) None log e r is q same = absurd r
keep_same (pending.Keep a m check) (Some i) (Some j) log (Declare tracks) r is q same = absurd is
keep_same (pending.Keep a m check) (Some i) (Some j) log (Keep f) r is q same =
    subst (λ (p : Pending). IsPending p (Some j) log (Keep f)) (sym same)
    (is.0, subst (λ (c : List Track). IsMetaOf c f m) (sym r.channel) is.1, r.more 1 a.stream is.2)

doubts_same : (x y : Option Doubt) (i j : Option Index) (v w : Segments) (log : List Entry) (body : Option (List ℕ)) (doubt : Option Entry) → DoubtReserved x y → IndexReserved i j → v.last.spare ≤ w.last.spare
    → Doubted x i v log body doubt → Doubted y j w log body doubt
doubts_same None None i j v w log None None d r le is = is
doubts_same None None i j v w log None (Some e) d r le is = is
doubts_same None None i j v w log (Some b) doubt d r le is = is
doubts_same None (Some y) i j v w log body doubt d r le is = absurd d
doubts_same (Some x) None i j v w log body doubt d r le is = absurd d
doubts_same (Some x) (Some y) i j v w log None doubt d r le is = absurd is
doubts_same (Some x) (Some y) i j v w log (Some b) None d r le is = absurd is
doubts_same (Some x) (Some y) i j v w log (Some b) (Some e) d r le is = record {
  fits = is.fits;
  few = is.few;
  spelled = is.spelled;
  bytes = d.0 ∙ is.bytes;
  spare = omega (arith, is.spare);
  pends = keep_same x.entry i j log e r is.pends y.entry d.1;
}

pub stands_reserved : (a b : Archive) (outcomes : Image → Type 0) → IsReserved a b → (log : List Entry) (doubt : Option Entry) → Stands a log doubt outcomes → Stands b log doubt outcomes
stands_reserved a b outcomes r log doubt s = record {
  bodies = s.bodies;
  body = s.body;
  stands = reserved_stands a.log b.log s.bodies s.body outcomes r.log s.stands;
  keeps = record {
    count = same_count a.log b.log r.log ∙ s.keeps.count;
    spell = s.keeps.spell;
    sound = s.keeps.sound;
    index = indexes_same a.index b.index log r.index s.keeps.index;
    used = r.used ∙ s.keeps.used;
    few = subst (λ (l : Limits). l.entries < 2 ^ 32) (sym r.limits) s.keeps.few;
    low = subst (λ (l : Limits). l.store_bytes ≤ 2 ^ 62) (sym r.limits) s.keeps.low;
    doubted = doubts_same a.doubt b.doubt a.index b.index a.log b.log log s.body doubt r.doubt r.index r.log.spare s.keeps.doubted;
  };
}

-- ---- what reserving needs

channel_valid : (i : Index) (log : List Entry) → IsIndex i log → IsSound log → IsChannel i.catalog.channel
channel_valid i log is sound = (sound.each [] is.rest (Declare i.catalog.channel) is.log_is).1

head_is : (e d : Entry) (xs ys : List Entry) → e ∷ xs ≡ d ∷ ys → e ≡ d
head_is e d xs ys h = cc

header_valid : (i : Index) (log : List Entry) (e : Entry) → IsIndex i (e ∷ []) → FitsBehind log e → IsChannel i.catalog.channel
header_valid i log e is fits = (subst (λ (x : Entry). FitsBehind log x) (head_is e (Declare i.catalog.channel) [] is.rest is.log_is) fits).1

pub index_channel : (a : Archive) (log : List Entry) (doubt : Option Entry) (outcomes : Image → Type 0) → Stands a log doubt outcomes → (i : Index) → a.index ≡ Some i → IsChannel i.catalog.channel
index_channel a log doubt outcomes s i is = channel_valid i log (subst (λ (x : Option Index). IndexIs x log) is s.keeps.index) s.keeps.sound

pub pending_channel : (a : Archive) (log : List Entry) (doubt : Option Entry) (outcomes : Image → Type 0) → Stands a log doubt outcomes → (i : Index) (bytes : ℕ)
    → a.doubt ≡ Some (record { entry = pending.Declare i; bytes = bytes })
    → IsChannel i.catalog.channel
pending_channel a log doubt outcomes s i bytes is =
    let d = doubted_some a.index a.log log a.doubt s.body doubt (record { entry = pending.Declare i; bytes = bytes }) is s.keeps.doubted in
    header_valid i log d.entry d.is.pends.0 d.is.fits

pub one_index : (a : Archive) (log : List Entry) (doubt : Option Entry) (outcomes : Image → Type 0) → Stands a log doubt outcomes → HasOneIndex a
one_index a log doubt outcomes s i j bytes index_is doubt_is =
    let d = doubted_some a.index a.log log a.doubt s.body doubt (record { entry = pending.Declare j; bytes = bytes }) doubt_is s.keeps.doubted in
    let is : IsIndex i log = subst (λ (x : Option Index). IndexIs x log) index_is s.keeps.index in
    let e = sym is.log_is ∙ d.is.pends.1 in cc
