-- What an archive answers, as replies.
use Rattle.std.specs.Prelude.{◌≡◌, ◌⊎◌, List}
use Rattle.sm_archive.specs.declared.answers.Declared.{Declared}
use Rattle.sm_archive.specs.declared.answers.Declared.TheVariants as declared
use Rattle.sm_archive.specs.declared.answers.Keeping.{Keeping}
use Rattle.sm_archive.specs.declared.answers.Keeping.TheVariants as keeping
use Rattle.sm_archive.specs.declared.fetch.Fetched.{Fetched}
use Rattle.sm_archive.specs.declared.fetch.Fetched.TheVariants as fetched
use Rattle.sm_model.specs.declared.address.Address.{Address}
use Rattle.sm_model.specs.declared.entry.Entry.{Entry}
use Rattle.sm_model.specs.declared.act.Act.TheVariants.{Fragment as Ask}
use Rattle.sm_model.specs.declared.cause.Cause.{Cause}
use Rattle.sm_model.specs.declared.cause.Cause.TheVariants as cause
use Rattle.sm_reply.specs.declared.reply.Reply.{Reply}
use Rattle.sm_reply.specs.declared.reply.Counted.TheVariants.{Kept, Known, Neither}
use Rattle.sm_reply.specs.Replies.{unplaced, silent, no_memory, reply_of}

abbrev pub reply_to_header : Declared → Reply
reply_to_header declared.Fixed = silent Neither
reply_to_header declared.Agreed = silent Neither
reply_to_header (declared.Refused why) = unplaced why
reply_to_header declared.Full = unplaced cause.Full
reply_to_header declared.DiskFault = unplaced cause.DiskFault
reply_to_header declared.NoMemory = no_memory

-- what a connection would be told where this was read back: what the log answers, or why it could not be read
abbrev pub reply_to_fetched : List Entry → Address → Fetched → Reply
reply_to_fetched log a (fetched.Found place f) = reply_of log (Ask a)
reply_to_fetched log a fetched.Absent = reply_of log (Ask a)
reply_to_fetched log a fetched.DiskFault = unplaced cause.DiskFault
reply_to_fetched log a fetched.Damaged = unplaced cause.Damaged
reply_to_fetched log a fetched.NoMemory = no_memory

-- a refusal is told, or memory is wanted for its text
abbrev pub IsTold : Cause → Reply → Type 0
IsTold why reply = (reply ≡ unplaced why) ⊎ (reply ≡ no_memory)

abbrev pub ToldHeader : Declared → Reply → Type 0
ToldHeader declared.Fixed reply = reply ≡ silent Neither
ToldHeader declared.Agreed reply = reply ≡ silent Neither
ToldHeader (declared.Refused why) reply = IsTold why reply
ToldHeader declared.Full reply = IsTold cause.Full reply
ToldHeader declared.DiskFault reply = IsTold cause.DiskFault reply
ToldHeader declared.NoMemory reply = reply ≡ no_memory

abbrev pub ToldFragment : Keeping → Reply → Type 0
ToldFragment (keeping.Kept place) reply = reply ≡ silent Kept
ToldFragment (keeping.Known place) reply = reply ≡ silent Known
ToldFragment (keeping.Refused why) reply = IsTold why reply
ToldFragment keeping.Full reply = IsTold cause.Full reply
ToldFragment keeping.DiskFault reply = IsTold cause.DiskFault reply
ToldFragment keeping.NoMemory reply = reply ≡ no_memory
