use Rattle.std.proofs.Common.{map, string_bytes, ap, ◌∙◌}
use Rattle.sm_run.proofs.Ending.{fits_by}
use Rattle.sm_run.specs.Runs.{shown_by}
use Rattle.sm_run.proofs.command.shown_in.Goals as goal

pub returns-clause-fits : goal.returns-clause-fits
returns-clause-fits c = fits_by c.shown_by.result (map string_bytes c.args.words.now) (c.shown_by.ensures ∙ ap shown_by c.in_ok-order_of.ensures)
