-- The texts of replies, as bytes (RFC 9112, section 4).
use Rattle.std.specs.Prelude.{◌+◌, ◌==◌, not, ℕ, Bool, true, false, List, [], ◌∷◌, ◌++◌, codes, decimal, Option, Some, None}
use Rattle.sm_model.specs.declared.track.Track.{Track}
use Rattle.sm_model.specs.declared.fragment.Fragment.{Fragment}
use Rattle.sm_model.specs.declared.address.Address.{Address}
use Rattle.sm_model.specs.declared.entry.Entry.{Entry}
use Rattle.sm_model.specs.declared.cause.Cause.{Cause}
use Rattle.sm_model.specs.declared.cause.Cause.TheVariants as cause
use Rattle.sm_model.specs.declared.cause.Refusal.{Refusal}
use Rattle.sm_model.specs.declared.act.Act.{Act}
use Rattle.sm_model.specs.declared.act.Act.TheVariants.{Manifest, Fragment as Ask, Unknown, Header, Frag, End, Refuse}
use Rattle.sm_model.specs.Causes.{cause_status, cause_line}
use Rattle.sm_model.specs.FragText.{frag_text}
use Rattle.sm_log.specs.Adds.{Add, listed, id_in}
use Rattle.sm_log.specs.Logs.{channel_of, adds_of, kept_at, ahead_in}
use Rattle.sm_catalog.specs.Content.{Content as Catalog}
use Rattle.sm_manout.specs.ManifestText.{manifest}
use Rattle.sm_head.specs.declared.reply.Content.{Content}
use Rattle.sm_head.specs.declared.reply.Content.TheVariants.{Xml, Mp4, Plain}
use Rattle.sm_head.specs.Replies.{reply_text}
use Rattle.sm_reply.specs.declared.reply.Reply.{Reply}
use Rattle.sm_reply.specs.declared.reply.Counted.{Counted}
use Rattle.sm_reply.specs.declared.reply.Counted.TheVariants.{Neither}

-- a refusal as a reply: status and line of its cause; 404 alone keeps the connection
abbrev pub closes : Cause → Bool
closes c = not (cause_status c == 404)

abbrev pub told : Refusal → Reply
told r = record {
  status = cause_status r.cause;
  bytes = reply_text (cause_status r.cause) Plain (cause_line r.at r.cause) (closes r.cause);
  close = closes r.cause;
  counted = Neither;
}

-- a cause without a place
abbrev pub unplaced : Cause → Reply
unplaced c = told (record { at = 0; cause = c })

-- a body that is there
abbrev pub ok : Content → List ℕ → Reply
ok kind body = record { status = 200; bytes = reply_text 200 kind body false; close = false; counted = Neither }

-- nothing is said
abbrev pub silent : Counted → Reply
silent counted = record { status = 0; bytes = []; close = false; counted = counted }

-- want of memory, whose text stands ready elsewhere
abbrev pub no_memory : Reply
no_memory = record { status = 500; bytes = []; close = true; counted = Neither }

-- the manifest of a channel and of what is listed of what was added to it
abbrev pub manifest_with : List Track → List Add → List ℕ
manifest_with channel adds = manifest channel (listed channel adds)

abbrev pub manifest_of : List Track → List Entry → List ℕ
manifest_of channel log = manifest_with channel (adds_of log)

-- a kept fragment: its place in the log is its sequence number, and up to two listed times are told ahead
abbrev pub fragment_of : List Track → List Entry → Address → ℕ → Fragment → List ℕ
fragment_of channel log a place f = frag_text place (id_in channel a) f (ahead_in log a.stream a.time)

-- the two counts of a push that has ended
abbrev pub counts_line : ℕ → ℕ → List ℕ
counts_line kept known = codes "kept " ++ (decimal kept ++ (codes " known " ++ (decimal known ++ 10 ∷ [])))

-- the manifest of a catalog, if there is one
abbrev pub catalog_reply : Option Catalog → Reply
catalog_reply None = unplaced cause.NoChannel
catalog_reply (Some c) = ok Xml (manifest_with c.channel c.adds)

abbrev pub manifest_reply : Option (List Track) → List Entry → Reply
manifest_reply None log = unplaced cause.NoChannel
manifest_reply (Some channel) log = ok Xml (manifest_of channel log)

abbrev pub kept_reply : List Track → List Entry → Address → Option (ℕ × Fragment) → Reply
kept_reply channel log a None = unplaced cause.NotKept
kept_reply channel log a (Some kept) = ok Mp4 (fragment_of channel log a kept.0 kept.1)

abbrev pub fragment_reply : Option (List Track) → List Entry → Address → Reply
fragment_reply None log a = unplaced cause.NoChannel
fragment_reply (Some channel) log a = kept_reply channel log a (kept_at log a)

-- what a log answers to an act that adds nothing to it
abbrev pub reply_of : List Entry → Act → Reply
reply_of log Manifest = manifest_reply (channel_of log) log
reply_of log (Ask a) = fragment_reply (channel_of log) log a
reply_of log Unknown = unplaced cause.NoTarget
reply_of log (Header header) = silent Neither
reply_of log (Frag f) = silent Neither
reply_of log (End kept known) = ok Plain (counts_line kept known)
reply_of log (Refuse r) = told r
