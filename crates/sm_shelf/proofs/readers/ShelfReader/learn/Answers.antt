use Rattle.left_right.specs.Sides.{view as known}
use Rattle.sm_shelf.proofs.Reading.{reader_later}
use Rattle.sm_shelf.proofs.readers.ShelfReader.learn.Goals as goal

pub invariant_of-self-then-is_err : goal.invariant_of-self-then-is_err
invariant_of-self-then-is_err c =
    reader_later c.self.inside.channel c.self.inside.listed (known c.take_over.new.seat.place) (known c.self.inside.seat.place) c.take_over.ensures.seen c.self.invariant

pub invariant_of-self-else-is_err : goal.invariant_of-self-else-is_err
invariant_of-self-else-is_err c =
    reader_later c.self.inside.channel c.self.inside.listed (known c.take_over.new.seat.place) (known c.self.inside.seat.place) c.take_over.ensures.seen c.self.invariant
