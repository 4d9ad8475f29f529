-- The state of a disk in memory after its calls, and what a crash leaves of it.
use Rattle.std.specs.Prelude.{◌≡◌, ◌⊎◌, ℕ, zero, suc, ◌+◌, ◌-◌, ◌≤◌, ◌<◌, max, min, Bool, true, false, ◌&&◌, ◌||◌}
use Rattle.std.specs.Prelude.{◌==◌, not, nat_le, nat_lt, if◌then◌else◌, List, [], ◌∷◌, ◌++◌, length, take, drop, replicate, get_or, Option, None, Some, IsTrue}
use Rattle.std.specs.FinMap as map
use Rattle.sm_site.specs.declared.event.Event.{Event}
use Rattle.sm_site.specs.declared.event.Event.TheVariants.{Opened, Piece, Closed, Ended}
use Rattle.sm_site.specs.declared.step.FileBytes.{FileBytes}
use Rattle.sm_site.specs.declared.step.Pending.{Pending}
use Rattle.sm_site.specs.declared.step.Step.{Step}
use Rattle.sm_site.specs.declared.step.Step.TheVariants.{Sized, Read, Wrote, Synced, Took, Sent, Shut, Crashed}
use Rattle.sm_site.specs.Event.{deal_of}
use Rattle.sm_site.specs.Image.{Image, bytes_of, written}
use Rattle.sm_site.specs.Scripts.{number_after}
use Rattle.sm_site.specs.Meanings.{Choice, DiskCall, Deal, Item, View, IsLive}
use Rattle.sm_site.specs.Meanings.Deed.{Sized as SizedDeed, Read as ReadDeed, Wrote as WroteDeed, Synced as SyncedDeed}
use Rattle.sm_site.specs.Meanings.Deal.{Sent as SentDeal, Shut as ShutDeal}

abbrev pub image_of : List FileBytes → Image
image_of [] = map.empty
image_of (file ∷ files) = map.insert (image_of files) file.number file.bytes.items

-- a range of a file that was written since its last sync
pub record Range : Type 0 where
  pub file : ℕ
  pub at : ℕ
  pub n : ℕ

-- what the files hold, what the last sync of each left on the disk, and the ranges written since, the newest first
pub record State : Type 0 where
  pub contents : Image
  pub base : Image
  pub ranges : List Range

abbrev pub is_pending : ℕ → ℕ → List Range → Bool
is_pending file i [] = false
is_pending file i (r ∷ rs) = ((r.file == file) && (nat_le r.at i && nat_lt i (r.at + r.n))) || is_pending file i rs

abbrev pub without : ℕ → List Range → List Range
without file [] = []
without file (r ∷ rs) = if r.file == file then without file rs else r ∷ without file rs

-- a range with one byte throughout, as far as it is inside the file
abbrev pub fill : ℕ → ℕ → ℕ → List ℕ → List ℕ
fill at n byte bytes = take at bytes ++ (replicate (min n (length bytes - at)) byte ++ drop (at + n) bytes)

abbrev pub filled : ℕ → Image → List Range → Image
filled byte image [] = image
filled byte image (r ∷ rs) = filled byte (map.insert image r.file (fill r.at r.n byte (bytes_of image r.file))) rs

-- what a crash keeps: the old bytes and lengths, the new ones, or the new lengths with every pending byte the same
abbrev pub chosen : ℕ → State → Image
chosen zero s = s.base
chosen (suc zero) s = s.contents
chosen (suc (suc n)) s = filled (suc (suc n)) s.contents s.ranges

abbrev pub after_step : State → Step → State
after_step s (Sized file failed) = s
after_step s (Read file at n failed) = s
after_step s (Wrote file at bytes failed reached) = record {
  contents = (if reached then map.insert s.contents file (written (bytes_of s.contents file) at bytes.items) else s.contents);
  base = s.base;
  ranges = (record { file = file; at = at; n = length bytes.items }) ∷ s.ranges;
}
after_step s (Synced file true) = s
after_step s (Synced file false) = record { contents = s.contents; base = map.insert s.base file (bytes_of s.contents file); ranges = without file s.ranges }
after_step s (Took event) = s
after_step s (Sent conn bytes failed) = s
after_step s (Shut conn) = s
after_step s (Crashed choice) = record { contents = chosen choice s; base = chosen choice s; ranges = [] }

abbrev pub after : State → List Step → State
after s [] = s
after s (step ∷ steps) = after (after_step s step) steps

abbrev pub start : List FileBytes → State
start files = record { contents = image_of files; base = image_of files; ranges = [] }

-- the file's bytes, or its last synced bytes but for what is pending and past their end
pub record Patched (file : ℕ) (s : State) (c : List ℕ) : Type 0 where
  pub no_shorter : length (bytes_of s.base file) ≤ length c
  pub no_longer : length c ≤ max (length (bytes_of s.base file)) (length (bytes_of s.contents file))
  pub kept : (i : ℕ) → i < length (bytes_of s.base file) → is_pending file i s.ranges ≡ false → get_or c i 0 ≡ get_or (bytes_of s.base file) i 0

abbrev pub IsOutcome : State → Image → Type 0
IsOutcome s c = (file : ℕ) → (bytes_of c file ≡ bytes_of s.contents file) ⊎ Patched file s (bytes_of c file)

-- what a crash at a moment leaves
abbrev pub LeftAt : List FileBytes → List Step → ℕ → Image → Type 0
LeftAt first past t c = (t ≤ length past) × IsOutcome (after (start first) (take t past)) c

-- the record of disk calls
abbrev pub call_of : ℕ → Step → List DiskCall
call_of m (Sized file failed) = (record { moment = m; deed = SizedDeed file; failed = failed }) ∷ []
call_of m (Read file at n failed) = (record { moment = m; deed = ReadDeed file at n; failed = failed }) ∷ []
call_of m (Wrote file at bytes failed reached) = (record { moment = m; deed = WroteDeed file at bytes.items; failed = failed }) ∷ []
call_of m (Synced file failed) = (record { moment = m; deed = SyncedDeed file; failed = failed }) ∷ []
call_of m (Took event) = []
call_of m (Sent conn bytes failed) = []
call_of m (Shut conn) = []
call_of m (Crashed choice) = []

-- the record and the transcript of an opening begin behind the crash before it
abbrev pub is_crash : Step → Bool
is_crash (Sized file failed) = false
is_crash (Read file at n failed) = false
is_crash (Wrote file at bytes failed reached) = false
is_crash (Synced file failed) = false
is_crash (Took event) = false
is_crash (Sent conn bytes failed) = false
is_crash (Shut conn) = false
is_crash (Crashed choice) = true

abbrev pub calls_on : ℕ → List DiskCall → List Step → List DiskCall
calls_on n calls [] = calls
calls_on n calls (step ∷ steps) = calls_on (n + 1) (if is_crash step then [] else calls ++ call_of (n + 1) step) steps

abbrev pub calls_from : ℕ → List Step → List DiskCall
calls_from n steps = calls_on n [] steps

-- the transcript
abbrev pub item_of : ℕ → Step → List Item
item_of m (Sized file failed) = []
item_of m (Read file at n failed) = []
item_of m (Wrote file at bytes failed reached) = []
item_of m (Synced file failed) = []
item_of m (Took event) = (record { moment = m; deal = deal_of event }) ∷ []
item_of m (Sent conn bytes failed) = (record { moment = m; deal = SentDeal conn bytes.items failed }) ∷ []
item_of m (Shut conn) = (record { moment = m; deal = ShutDeal conn }) ∷ []
item_of m (Crashed choice) = []

abbrev pub items_on : ℕ → List Item → List Step → List Item
items_on n items [] = items
items_on n items (step ∷ steps) = items_on (n + 1) (if is_crash step then [] else items ++ item_of (n + 1) step) steps

abbrev pub items_from : ℕ → List Step → List Item
items_from n steps = items_on n [] steps

-- a transcript without an entry is not kept
abbrev pub with_items : List Item → List (List Item) → List (List Item)
with_items [] kept = kept
with_items (item ∷ items) kept = kept ++ (item ∷ items) ∷ []

-- the transcripts of the openings before the last crash
abbrev pub openings_on : ℕ → List (List Item) → List Item → List Step → List (List Item)
openings_on n kept items [] = kept
openings_on n kept items (step ∷ steps) =
    openings_on (n + 1) (if is_crash step then with_items items kept else kept) (if is_crash step then [] else items ++ item_of (n + 1) step) steps

abbrev pub openings_of : List Step → List (List Item)
openings_of steps = openings_on 0 [] [] steps

-- the meanings of a site in memory
abbrev pub view_of : List FileBytes → List Step → List Deal → ℕ → ℕ → ℕ → ℕ → Choice → View
view_of first past script reads disk_faults link_faults send_faults chosen = record {
  moment = length past;
  contents = Some (after (start first) past).contents;
  calls = Some (calls_from 0 past);
  reads = reads;
  disk_faults = disk_faults;
  transcript = Some (items_from 0 past);
  script = Some script;
  link_faults = link_faults;
  send_faults = send_faults;
  chosen = chosen;
}

-- the files are those after the calls
abbrev pub IsAfter : List FileBytes → List Step → List FileBytes → Type 0
IsAfter first past files = (file : ℕ) → bytes_of (image_of files) file ≡ bytes_of (after (start first) past).contents file

abbrev pub IsIn : ℕ → List ℕ → Type 0
IsIn n [] = ⊥
IsIn n (x ∷ xs) = (x ≡ n) ⊎ IsIn n xs

abbrev pub is_in : ℕ → List ℕ → Bool
is_in n [] = false
is_in n (x ∷ xs) = if x == n then true else is_in n xs

-- each open connection is among these
abbrev pub Tracks : List Step → List ℕ → Type 0
Tracks past live = (conn : ℕ) → IsLive conn (items_from 0 past) → IsTrue (is_in conn live)

-- the ranges of what is pending, the newest first
abbrev pub ranges_from : List Range → List Pending → List Range
ranges_from ranges [] = ranges
ranges_from ranges (p ∷ ps) = ranges_from ((record { file = p.file; at = p.at; n = p.count }) ∷ ranges) ps

-- the bytes before a write
abbrev pub undo : Pending → List ℕ → List ℕ
undo p bytes = take (min p.length (length bytes)) (written bytes p.at p.old.items)

-- a file's bytes before all that is pending
abbrev pub undone : ℕ → List Pending → List ℕ → List ℕ
undone file [] bytes = bytes
undone file (p ∷ ps) bytes = if p.file == file then undo p (undone file ps bytes) else undone file ps bytes

-- so the last synced bytes are found again
abbrev pub Undoes : List Pending → Image → Image → Type 0
Undoes pending contents base = (file : ℕ) → undone file pending (bytes_of contents file) ≡ bytes_of base file

-- the contents differ from the last synced bytes in pending ranges and past their end alone
abbrev pub Agrees : State → Type 0
Agrees s = (file : ℕ) → Patched file s (bytes_of s.contents file)

-- the first number that is above all given to connections, through all crashes
abbrev pub number_on : ℕ → Step → ℕ
number_on n (Sized file failed) = n
number_on n (Read file at k failed) = n
number_on n (Wrote file at bytes failed reached) = n
number_on n (Synced file failed) = n
number_on n (Took event) = number_after n (deal_of event)
number_on n (Sent conn bytes failed) = n
number_on n (Shut conn) = n
number_on n (Crashed choice) = n

abbrev pub numbers_from : ℕ → List Step → ℕ
numbers_from n [] = n
numbers_from n (step ∷ steps) = numbers_from (number_on n step) steps

abbrev pub numbers_of : List Step → ℕ
numbers_of steps = numbers_from 0 steps

-- the number that a step gave
abbrev pub opened_by : Event → Option ℕ
opened_by (Opened n) = Some n
opened_by (Piece n piece) = None
opened_by (Closed n) = None
opened_by Ended = None

abbrev pub opened_in : Step → Option ℕ
opened_in (Sized file failed) = None
opened_in (Read file at n failed) = None
opened_in (Wrote file at bytes failed reached) = None
opened_in (Synced file failed) = None
opened_in (Took event) = opened_by event
opened_in (Sent conn bytes failed) = None
opened_in (Shut conn) = None
opened_in (Crashed choice) = None

-- all that went out on a connection since the last crash stands behind such a step
abbrev pub is_opening : ℕ → Event → Bool
is_opening conn (Opened n) = n == conn
is_opening conn (Piece n piece) = false
is_opening conn (Closed n) = false
is_opening conn Ended = false

abbrev pub begins : ℕ → Step → Bool
begins conn (Sized file failed) = false
begins conn (Read file at n failed) = false
begins conn (Wrote file at bytes failed reached) = false
begins conn (Synced file failed) = false
begins conn (Took event) = is_opening conn event
begins conn (Sent n bytes failed) = false
begins conn (Shut n) = false
begins conn (Crashed choice) = true

-- a connection is opened under a number that is none of those below the first free one, and bytes go out on one of those
abbrev pub is_new : ℕ → Event → Bool
is_new n (Opened k) = nat_le n k
is_new n (Piece k piece) = true
is_new n (Closed k) = true
is_new n Ended = true

abbrev pub keeps_order : ℕ → Step → Bool
keeps_order n (Sized file failed) = true
keeps_order n (Read file at k failed) = true
keeps_order n (Wrote file at bytes failed reached) = true
keeps_order n (Synced file failed) = true
keeps_order n (Took event) = is_new n event
keeps_order n (Sent conn bytes failed) = nat_lt conn n
keeps_order n (Shut conn) = true
keeps_order n (Crashed choice) = true

-- so the numbers of connections rise, through all crashes, and nothing goes out on a connection before it is opened
abbrev pub is_ordered : ℕ → List Step → Bool
is_ordered n [] = true
is_ordered n (step ∷ steps) = keeps_order n step && is_ordered (number_on n step) steps

-- something was done since the last crash
abbrev pub open_on : Bool → List Step → Bool
open_on was [] = was
open_on was (step ∷ steps) = open_on (not (is_crash step)) steps

abbrev pub is_open : List Step → Bool
is_open steps = open_on false steps
