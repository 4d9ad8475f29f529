-- What the system gives a program to begin with.
use Rattle.std.specs.Prelude.{List, [], drop, Result, Ok, Err}
use Rattle.std.specs.Global.{Global}
use Rattle.std.specs.declared.string.String.{String}
use Rattle.std.specs.Vec.Iter.{into_iter_items}
use Rattle.std.specs.declared.vec.IntoIter.{IntoIter}
use Rattle.std.specs.declared.io.Error.{Error}

-- the words behind the program's name, and none where they can't be had
abbrev pub words_in : Result (IntoIter (String Global) Global) Error → List (String Global)
words_in (Ok args) = drop 1 (into_iter_items args)
words_in (Err e) = []
