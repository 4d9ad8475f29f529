use Rattle.std.proofs.Common.{subst}
use Rattle.std.specs.Option.{option_map}
use Rattle.sm_shelf.specs.declared.replies.Listed.{Listed}
use Rattle.sm_shelf.specs.Shown.{IsListingOf}
use Rattle.sm_shelf.proofs.Reading.{again_shown}
use Rattle.sm_shelf.proofs.replies.manifest_of.Goals as goal

pub returns-in-Same-clause-shown : goal.returns-in-Same-clause-shown
returns-in-Same-clause-shown c d listing listed =
    again_shown d c.args.kept c.again.result (subst (IsListingOf d (option_map (λ (l : Listed). l.count) c.args.kept)) c.in-Same.is listing) listed c.again.ensures
