use Rattle.std.proofs.Common.{rules, ◌≡◌, ◌++◌, ◌∷◌, [], subst, sym}
use Rattle.sm_site.specs.declared.event.Event.TheVariants.{Piece}
use Rattle.sm_world.specs.Bringing.{Brings}
use Rattle.sm_world.proofs.Pieces.{brings_push}
use Rattle.sm_world.proofs.asking.add_piece.Goals as goal

pub returns : goal.returns
returns c bytes brings =
    let is : c.push.new.self.items ≡ c.args.events.now.items ++ Piece c.args.conn c.args.piece.now ∷ [] = search rules in
    subst (Brings c.args.conn (bytes ++ c.args.piece.now)) (sym is)
    (brings_push c.args.conn bytes c.args.piece.now c.args.events.now.items c.requires.some c.requires.short brings)
