use Rattle.std.proofs.Common.{◌≡◌, ◌∙◌, ap, sym, subst, List, Option, None, Some, option_map, IfOk}
use Rattle.sm_model.specs.declared.entry.Entry.{Entry}
use Rattle.sm_model.specs.declared.track.Track.{Track}
use Rattle.sm_log.specs.Adds.{Add}
use Rattle.sm_log.specs.Logs.{channel_of}
use Rattle.sm_catalog.specs.Content.{Content}
use Rattle.sm_archive.specs.Looking.{ShowsCatalog}
use Rattle.sm_head.specs.declared.reply.Content.TheVariants.{Xml}
use Rattle.sm_reply.specs.declared.reply.Reply.{Reply}
use Rattle.sm_reply.specs.Replies.{ok, manifest_with, manifest_reply, catalog_reply}
use Rattle.sm_origin.proofs.listing.list.Goals as goal

-- the manifest of the catalog that a log shows is the log's
shown : (o : Option Content) (log : List Entry) → ShowsCatalog o log → catalog_reply o ≡ manifest_reply (channel_of log) log
shown None log shows = sym (ap (λ (channel : Option (List Track)). manifest_reply channel log) shows)
shown (Some c) log shows =
    ap (λ (adds : List Add). ok Xml (manifest_with c.channel adds)) shows.1 ∙ sym (ap (λ (channel : Option (List Track)). manifest_reply channel log) shows.0)

pub returns : goal.returns
returns c = λ bodies body log doubt k.
    subst (λ (meant : Reply). IfOk c.manifest_reply.result (λ reply. reply ≡ meant))
    (shown (option_map (λ r. r.now) c.catalog.result) log (c.catalog.ensures bodies body log doubt k)) c.manifest_reply.ensures
