use Rattle.std.proofs.Common.{sym}
use Rattle.sm_archive.proofs.Places.{is_not_declared, is_declared_by}
use Rattle.sm_archive.proofs.index.Index.has_track.Goals as goal

pub returns-in-NotDeclared : goal.returns-in-NotDeclared
returns-in-NotDeclared c = sym (is_not_declared c.args.self.now.catalog.channel c.args.self.now.catalog.adds c.args.address.now 1 c.in-NotDeclared.ensures.verdict)

pub returns-in-New : goal.returns-in-New
returns-in-New c = sym (is_declared_by c.args.self.now.catalog.channel c.args.self.now.catalog.adds c.args.address.now 1 _ c.in-New.ensures.verdict (λ e. cc))

pub returns-in-Known : goal.returns-in-Known
returns-in-Known c = sym (is_declared_by c.args.self.now.catalog.channel c.args.self.now.catalog.adds c.args.address.now 1 _ c.in-Known.ensures.verdict (λ e. cc))

pub returns-in-Clash : goal.returns-in-Clash
returns-in-Clash c = sym (is_declared_by c.args.self.now.catalog.channel c.args.self.now.catalog.adds c.args.address.now 1 _ c.in-Clash.ensures.verdict (λ e. cc))

pub returns-in-Overlap : goal.returns-in-Overlap
returns-in-Overlap c = sym (is_declared_by c.args.self.now.catalog.channel c.args.self.now.catalog.adds c.args.address.now 1 _ c.in-Overlap.ensures.verdict (λ e. cc))
