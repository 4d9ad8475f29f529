use Rattle.std.proofs.Common.{◌≡◌, ◌<◌, ◌+◌, ◌^◌, ◌++◌, length, false, None, sym, subst, ◌∙◌, arith}
use Rattle.std.specs.Prelude.{is_some, Option}
use Rattle.std.proofs.lemmas.List.{length-append}
use Rattle.sm_model.specs.declared.cause.Refusal.{Refusal}
use Rattle.sm_pick.specs.Search.{IsLooking, LooksBy}
use Rattle.sm_pick.proofs.Looking.{unrefused, looking, counted_of, none_of, stays_refused, all_fit, few_so, looks_on, fed_on, skips_on, fault_refuses}
use Rattle.sm_pick.proofs.search.Search.take_part.Goals as goal

pub returns-then-is_some-clause-looks : goal.returns-then-is_some-clause-looks
returns-then-is_some-clause-looks c b h = stays_refused c.front.ensures c.args.self.now b c.args.piece.now (sym c.is_some.ensures ∙ c.if-is_some.true) h

pub returns-then-self-gt0-clause-looks : goal.returns-then-self-gt0-clause-looks
returns-then-self-gt0-clause-looks c b h =
    let s = c.args.self.now in
    let piece = c.args.piece.now in
    let none : is_some s.refusal ≡ false = sym c.is_some.ensures ∙ c.if-is_some.false in
    let refusal : s.refusal ≡ None = none_of s.refusal none in
    let some : 0 < s.skim.kept.skip = omega arith in
    let short : s.skim.bytes + length piece < 2 ^ 64 = omega (arith, counted_of s c.requires.looks.0 none c.requires.looks.1, c.requires.looks.2) in
    let now = skips_on s b piece (unrefused s b none h) some (c.requires.within refusal some) short in
    let here : LooksBy None (record s { skim = c.skip.new.self }) (b ++ piece) = rw c.skip.ensures now in
    subst (λ (r : Option Refusal). LooksBy r (record s { skim = c.skip.new.self }) (b ++ piece)) (sym refusal) here

pub note-requires : goal.note-requires
note-requires c =
    let s = c.args.self.now in
    let piece = c.args.piece.now in
    let b = c.requires.looks.0 in
    let none : is_some s.refusal ≡ false = sym c.is_some.ensures ∙ c.if-is_some.false in
    let is : IsLooking s b = looking s b none (omega arith) c.requires.looks.1 in
    let short : c.feed.new.self.bytes < 2 ^ 64 = omega (arith, c.feed.ensures.bytes, is.stands.count, c.requires.looks.2) in
    let a = fed_on s.skim c.feed.new.self b piece c.in-Ok.items is.stands c.in-Ok.ensures.partial c.in-Ok.ensures.feeds c.feed.ensures.bytes short in
    all_fit c.items_are_no_more_than_bytes.ensures s b piece c.in-Ok.items is a.1 c.requires.looks.2

pub pass_other-requires-clause-few : goal.pass_other-requires-clause-few
pass_other-requires-clause-few c =
    let s = c.args.self.now in
    let piece = c.args.piece.now in
    let b = c.requires.looks.0 in
    let none : is_some s.refusal ≡ false = sym c.is_some.ensures ∙ c.if-is_some.false in
    let is : IsLooking s b = looking s b none (omega arith) c.requires.looks.1 in
    let short : c.feed.new.self.bytes < 2 ^ 64 = omega (arith, c.feed.ensures.bytes, is.stands.count, c.requires.looks.2) in
    let a = fed_on s.skim c.feed.new.self b piece c.in-Ok.items is.stands c.in-Ok.ensures.partial c.in-Ok.ensures.feeds c.feed.ensures.bytes short in
    let now : IsLooking c.note.new.self (b ++ piece) = looks_on s c.note.new.self c.feed.new.self b piece c.in-Ok.items is a.0 c.in-Ok.ensures.partial a.1
    (record { track = c.note.ensures.asked.0; time = c.note.ensures.asked.1; skim_is = c.note.ensures.rest.0; count = c.note.ensures.count; found = c.note.ensures.found }) in
    few_so c.items_are_no_more_than_bytes.ensures c.note.new.self (b ++ piece) now (omega (arith, length-append b piece, c.requires.looks.2))

pub returns-in-Ok-clause-looks : goal.returns-in-Ok-clause-looks
returns-in-Ok-clause-looks c b h =
    let s = c.args.self.now in
    let piece = c.args.piece.now in
    let none : is_some s.refusal ≡ false = sym c.is_some.ensures ∙ c.if-is_some.false in
    let is : IsLooking s b = looking s b none (omega arith) h in
    let short : c.feed.new.self.bytes < 2 ^ 64 = omega (arith, c.feed.ensures.bytes, counted_of s c.requires.looks.0 none c.requires.looks.1, c.requires.looks.2) in
    let a = fed_on s.skim c.feed.new.self b piece c.in-Ok.items is.stands c.in-Ok.ensures.partial c.in-Ok.ensures.feeds c.feed.ensures.bytes short in
    let now : IsLooking c.note.new.self (b ++ piece) = looks_on s c.note.new.self c.feed.new.self b piece c.in-Ok.items is a.0 c.in-Ok.ensures.partial a.1
    (record { track = c.note.ensures.asked.0; time = c.note.ensures.asked.1; skim_is = c.note.ensures.rest.0; count = c.note.ensures.count; found = c.note.ensures.found }) in
    let refusal : c.pass_other.new.self.refusal ≡ None = c.pass_other.ensures.asked.2 ∙ c.note.ensures.rest.1 ∙ none_of s.refusal none in
    subst (λ (r : Option Refusal). LooksBy r c.pass_other.new.self (b ++ piece)) (sym refusal) (c.pass_other.ensures.looks (b ++ piece) now)

pub returns-in-Err-Refused-clause-looks : goal.returns-in-Err-Refused-clause-looks
returns-in-Err-Refused-clause-looks c b h =
    let s = c.args.self.now in
    let none : is_some s.refusal ≡ false = sym c.is_some.ensures ∙ c.if-is_some.false in
    let is : IsLooking s b = looking s b none (omega arith) h in
    let gives = rw c.in-Err-Refused.field-0-is at c.in-Err-Refused.ensures.feeds in
    fault_refuses s.skim c.feed.new.self b c.args.piece.now gives.0 c.in-Err-Refused.refusal is.stands gives.1
