use Rattle.std.proofs.Common.{rules, ◌≡◌, ◌&&◌, Bool, true, map, string_bytes, ap₂}
use Rattle.std.proofs.lemmas.Bool.{and_parts}
use Rattle.clap.specs.Kinds.{Kinds}
use Rattle.clap.specs.Walk.{is_empty}
use Rattle.clap.specs.Words.{app_of, is_simple}
use Rattle.sm_words.specs.Clapped.{are_plain}
use Rattle.sm_words.proofs.matched.matched.Goals as goal

pub returns-in-Ok : goal.returns-in-Ok
returns-in-Ok c =
    let plain : are_plain (map string_bytes c.args.words.now) ≡ true = search rules in
    let simple = and_parts (is_simple (app_of c.args.command)) _ c.requires.simple in
    (ap₂ (λ (a : Bool) (k : Kinds). a && is_empty k) plain (c.in-Ok.ensures.kinds c.requires.simple), (c.in-Ok.ensures.matches simple.0).0)
