use Rattle.std.proofs.Common.{◌∙◌, sym}
use Rattle.sm_export.proofs.Heads.{found_by}
use Rattle.sm_export.proofs.head.first_header.Goals as goal

pub returns : goal.returns
returns c = c.channel_in.ensures ∙ sym (found_by c.args.items c.find_header.result c.find_header.ensures)
