use Rattle.std.proofs.Common.{◌≡◌, take, drop, sym, ◌∙◌, take-append-drop}
use Rattle.sm_body.specs.declared.place.Place.TheVariants.{Ended, Failed}
use Rattle.sm_body.specs.Places.{start, place_after}
use Rattle.sm_fetch.proofs.Fronts.{no_front_ends}
use Rattle.sm_fetch.proofs.plain.body_plainly.Goals as goal

pub returns-in-Ended : goal.returns-in-Ended
returns-in-Ended c = record {
  framed = take c.loop-end.end c.args.bytes.now;
  rest = drop c.loop-end.end c.args.bytes.now;
  joined = sym (take-append-drop c.loop-end.end c.args.bytes.now);
  ends = sym c.in_ok-front.ensures.place ∙ c.in-Ended.is;
  body_is = c.in_ok-own-in-Ended.ensures ∙ c.in_ok-front.ensures.body;
}

pub returns-in-Failed : goal.returns-in-Failed
returns-in-Failed c =
    let failed : place_after (start c.args.framing) c.args.bytes.now ≡ Failed = sym c.in_ok-all.ensures.place ∙ c.in-Failed.is in
    record {
      failed = failed;
      unended = no_front_ends (start c.args.framing) c.args.bytes.now c.loop-end.end c.loop-end-test.false c.loop-end.invariant
          (λ ended. let wrong : Failed ≡ Ended = sym failed ∙ ended in absurd (cc));
    }
