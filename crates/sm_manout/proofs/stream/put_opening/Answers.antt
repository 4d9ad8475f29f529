use Rattle.std.proofs.lemmas.Result.{IfOk-equal}
use Rattle.sm_manout.specs.ManifestText.{stream_opening}
use Rattle.sm_manout.proofs.Joined.{eight}
use Rattle.sm_manout.proofs.stream.put_opening.Goals as goal

pub returns : goal.returns
unfolding stream_opening
returns c =
    IfOk-equal c.put-2.result _ _ _ c.put-2.ensures
    (rw (
      c.in_ok-put_attribute-3.ensures,
      c.in_ok-put_number-3.ensures,
      c.in_ok-put_number-2.ensures,
      c.in_ok-put_number.ensures,
      c.in_ok-put_attribute-2.ensures,
      c.in_ok-put_attribute.ensures,
      c.in_ok-put.ensures,
      c.deref.ensures.value,
      c.in_ok-url.ensures,
      c.as_bytes.ensures.same,
      c.as_bytes-2.ensures.same,
      c.name.ensures,
    ) (eight c.args.out.now.items _ _ _ _ _ _ _ _))
