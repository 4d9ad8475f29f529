-- What a store comes to, by what its archive does.
use Rattle.std.proofs.Common.{◌≡◌, ◌≤◌, ℕ, List, Option, Some, IsSome, true, false, inl, ap, subst, ◌∙◌, arith}
use Rattle.std.specs.Prelude.{is_some, IfSome}
use Rattle.sm_model.specs.declared.entry.Entry.{Entry}
use Rattle.sm_site.specs.Image.{Image}
use Rattle.sm_site.specs.Meanings.{Chosen, View, asked}
use Rattle.sm_archive.specs.Opening.{NotAStore}
use Rattle.sm_archive.specs.Store.{IsStore}
use Rattle.sm_command.specs.declared.fault.StoreFault.{StoreFault}
use Rattle.sm_command.specs.declared.fault.StoreFault.TheVariants as fault
use Rattle.sm_command.specs.Serving.{WhyUnopened}
use Rattle.sm_export.specs.declared.exported.Exported.{Exported}
use Rattle.sm_export.specs.declared.exported.Exported.TheVariants as exported
use Rattle.sm_export.specs.declared.exported.StoreExport.{StoreExport}
use Rattle.sm_export.specs.declared.exported.StoreExport.TheVariants as ends
use Rattle.sm_export.specs.Exporting.{ExportedAs, IsBegun, IsStopped}
use Rattle.sm_export.specs.Storing.{ComesTo, IsChosenFor, IsTaken, TakesTo}
use Rattle.sm_export.proofs.Reading.{rose_later}
use Rattle.sm_ends.specs.Ended.{End}

-- ---- under a stronger premise

begun_under : (T U : Type 0) → (U → T) → (log : List Entry) (b name : List ℕ) (bitrate : ℕ) (held held' : Option (List ℕ)) → IsBegun T log b name bitrate held held' → IsBegun U log b name bitrate held held'
begun_under T U so log b name bitrate held held' h = record { clear = h.clear; fits = h.fits; front = λ u. h.front (so u) }

stopped_under : (T U : Type 0) → (U → T) → (log : List Entry) (b name : List ℕ) (bitrate : ℕ) (held held' : Option (List ℕ)) → IsStopped T log b name bitrate held held' → IsStopped U log b name bitrate held held'
stopped_under T U so log b name bitrate held held' h = record { clear = h.clear; fits = h.fits; front = λ u. h.front (so u) }

under : (T U : Type 0) → (U → T) → (log : List Entry) (b name : List ℕ) (bitrate : ℕ) (held held' : Option (List ℕ)) (e : Exported) → ExportedAs T log b name bitrate held held' e
    → ExportedAs U log b name bitrate held held' e
under T U so log b name bitrate held held' (exported.Done written) h = record { clear = h.clear; fits = h.fits; whole = λ u. h.whole (so u) }
under T U so log b name bitrate held held' (exported.Input r) h = h
under T U so log b name bitrate held held' (exported.Other c) h = h
under T U so log b name bitrate held held' exported.DiskFault h = begun_under T U so log b name bitrate held held' h
under T U so log b name bitrate held held' exported.Damaged h = (λ u. h.0 (so u), begun_under T U so log b name bitrate held held' h.1)
under T U so log b name bitrate held held' exported.WriteFault h = stopped_under T U so log b name bitrate held held' h
under T U so log b name bitrate held held' (exported.NoMemory false) h = h
under T U so log b name bitrate held held' (exported.NoMemory true) h = begun_under T U so log b name bitrate held held' h

taken_under : (T U : Type 0) → (U → T) → (log : List Entry) (name : List ℕ) (bitrate : ℕ) (old mid new : View) (input input' output output' : End) (e : Exported) → old.disk_faults ≤ mid.disk_faults
    → IsTaken T log name bitrate mid new input input' output output' e → IsTaken U log name bitrate old new input input' output output' e
taken_under T U so log name bitrate old mid new input input' output output' e le h = record {
  text = h.text;
  consumed = h.consumed;
  ended = h.ended;
  short = h.short;
  exported = under T U so log h.text name bitrate output.told output'.told e h.exported;
  disk_fault = λ is. rose_later old.disk_faults mid.disk_faults new.disk_faults le (h.disk_fault is);
  fault = h.fault;
}

-- ---- a store that was opened

pub opened_comes : (log : List Entry) (name : List ℕ) (bitrate : ℕ) (old mid new : View) (input input' output output' : End) (r : StoreExport) → old.disk_faults ≤ mid.disk_faults
    → is_some mid.contents ≡ is_some old.contents → IfSome old.contents (IsStore log) → TakesTo (IsSome mid.contents) log name bitrate mid new input input' output output' r
    → ComesTo name bitrate old new input input' output output' r
opened_comes log name bitrate old mid new input input' output output' (ends.Ended e) le told store h =
    (log, store, taken_under (IsSome mid.contents) (IsSome old.contents) (λ some. told ∙ some) log name bitrate old mid new input input' output output' e le h)
opened_comes log name bitrate old mid new input input' output output' (ends.Unopened why) le told store h = absurd h
opened_comes log name bitrate old mid new input input' output output' (ends.Unread fault) le told store h = ((log, store), h.0, h.1)

-- it was opened
pub taken_is_opened : (told : Type 0) (log : List Entry) (name : List ℕ) (bitrate : ℕ) (old new : View) (input input' output output' : End) (r : StoreExport) (why : StoreFault)
    → TakesTo told log name bitrate old new input input' output output' r → r ≡ ends.Unopened why → ⊥
taken_is_opened told log name bitrate old new input input' output output' r why h is = subst (λ (x : StoreExport). TakesTo told log name bitrate old new input input' output output' x) is h

-- ---- behind the choice of the folder

unopened_later : (a b c : View) (why : StoreFault) → a.disk_faults ≤ b.disk_faults → a.link_faults ≤ b.link_faults → b.contents ≡ a.contents → WhyUnopened b c why → WhyUnopened a c why
unopened_later a b c fault.DiskFault disk link same h = rose_later a.disk_faults b.disk_faults c.disk_faults disk h
unopened_later a b c fault.LinkFault disk link same h = rose_later a.link_faults b.link_faults c.link_faults link h
unopened_later a b c (fault.NotAStore at) disk link same h = subst (λ (o : Option Image). IfSome o (NotAStore at)) same h
unopened_later a b c fault.Unread disk link same h = h
unopened_later a b c fault.LongLadder disk link same h = h
unopened_later a b c (fault.BadLadder at) disk link same h = h
unopened_later a b c (fault.Refused cause) disk link same h = h
unopened_later a b c fault.Full disk link same h = h
unopened_later a b c fault.Damaged disk link same h = h
unopened_later a b c fault.NoMemory disk link same h =
    let more = h.disk in let yet = h.link in record { disk = omega (arith, disk, more); link = omega (arith, link, yet) }

pub chosen_comes : (name : List ℕ) (bitrate : ℕ) (old mid new : View) (input input' output output' : End) (r : StoreExport) → old.disk_faults ≤ mid.disk_faults → old.link_faults ≤ mid.link_faults
    → mid.contents ≡ old.contents → ComesTo name bitrate mid new input input' output output' r → ComesTo name bitrate old new input input' output output' r
chosen_comes name bitrate old mid new input input' output output' (ends.Ended e) disk link same h = (
  h.0,
  subst (λ (o : Option Image). IfSome o (IsStore h.0)) same h.1,
  taken_under (IsSome mid.contents) (IsSome old.contents) (λ some. ap is_some same ∙ some) h.0 name bitrate old mid new input input' output output' e disk h.2,
)
chosen_comes name bitrate old mid new input input' output output' (ends.Unopened why) disk link same h = (unopened_later old mid new why disk link same h.0, h.1, h.2)
chosen_comes name bitrate old mid new input input' output output' (ends.Unread fault) disk link same h =
    ((h.0.0, subst (λ (o : Option Image). IfSome o (IsStore h.0.0)) same h.0.1), h.1, h.2)

pub chosen_for : (r : StoreExport) (chosen : Chosen) (u v w : View) → v.chosen ≡ asked u.chosen (Some chosen) → w.chosen ≡ v.chosen → IsChosenFor r chosen u w
chosen_for (ends.Ended e) chosen u v w is same = same ∙ is
chosen_for (ends.Unopened why) chosen u v w is same = inl (same ∙ is)
chosen_for (ends.Unread fault) chosen u v w is same = same ∙ is
