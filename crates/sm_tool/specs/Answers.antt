-- What a command answers: its status and its line.
use Rattle.std.specs.Prelude.{ℕ, List, [], codes}
use Rattle.sm_tool.specs.declared.answer.Answer.{Answer}
use Rattle.sm_tool.specs.declared.answer.Answer.TheVariants.{Found, Words, Unread, TooLong, LongLadder, Refused, NotKept, Clash, Undone}
use Rattle.sm_tool.specs.declared.answer.Answer.TheVariants.{Damaged, DiskFault, LinkFault, TrackFault, Starved, Full, NotAStore, Unfinished}
use Rattle.sm_tool.specs.declared.answer.Stop.{Stop}
use Rattle.sm_tool.specs.declared.answer.Stop.TheVariants as stops

abbrev pub stop_status_of : Stop → ℕ
stop_status_of stops.Damaged = 4
stop_status_of stops.Disk = 5
stop_status_of stops.Output = 7
stop_status_of stops.Memory = 9

abbrev pub status_of : Answer → ℕ
status_of (Found text) = 0
status_of (Words text) = 2
status_of TooLong = 3
status_of LongLadder = 3
status_of (Refused line) = 3
status_of NotKept = 4
status_of (Clash line) = 4
status_of (Undone line) = 4
status_of Damaged = 4
status_of DiskFault = 5
status_of Unread = 6
status_of TrackFault = 7
status_of LinkFault = 8
status_of Starved = 9
status_of Full = 10
status_of (NotAStore line) = 11
status_of (Unfinished stop) = stop_status_of stop

abbrev pub line_of : Answer → List ℕ
line_of (Found text) = text
line_of (Words text) = text
line_of TooLong = codes "error: input at 268435456: too long\nThe input has more than 268,435,456 bytes.\n"
line_of LongLadder = codes "error: input at 1048576: too long\nThe ladder has more than 1,048,576 bytes.\n"
line_of (Refused line) = line
line_of NotKept = codes "error: 47 NotKept\nThe input has no fragment with this track_ID and time.\n"
line_of (Clash line) = line
line_of (Undone line) = line
line_of Damaged = codes "error: 32 Damaged\nWhat was read of the store is not what was written there.\n"
line_of DiskFault = codes "error: disk\nThe system refused a call on the folder of the store or on a file in it.\n"
line_of Unread = codes "error: read\nReading the input failed.\n"
line_of LinkFault = codes "error: link\nThe port cannot be listened at, a thread cannot be made, or a connection was refused or lost.\n"
line_of TrackFault = []
line_of Starved = codes "error: memory\nThere was not enough memory.\n"
line_of Full = codes "error: full\nA limit is met: the store's bytes, its entries, or a stream's times.\n"
line_of (NotAStore line) = line
line_of (Unfinished stop) = []

-- where what was found can't be written the status is 7; a failure keeps its own
abbrev pub unwritten_status_of : Answer → ℕ
unwritten_status_of (Found text) = 7
unwritten_status_of (Words text) = 2
unwritten_status_of TooLong = 3
unwritten_status_of LongLadder = 3
unwritten_status_of (Refused line) = 3
unwritten_status_of NotKept = 4
unwritten_status_of (Clash line) = 4
unwritten_status_of (Undone line) = 4
unwritten_status_of Damaged = 4
unwritten_status_of DiskFault = 5
unwritten_status_of Unread = 6
unwritten_status_of TrackFault = 7
unwritten_status_of LinkFault = 8
unwritten_status_of Starved = 9
unwritten_status_of Full = 10
unwritten_status_of (NotAStore line) = 11
unwritten_status_of (Unfinished stop) = stop_status_of stop
