use Rattle.std.proofs.Common.{◌∙◌, subst, List}
use Rattle.sm_model.specs.declared.track.Track.{Track}
use Rattle.sm_model.specs.Entries.{address_of}
use Rattle.sm_record.specs.Places.{IsPlaceOf}
use Rattle.sm_record.proofs.PutLaws.{keep_sealed, keep_short, keep_body_len}
use Rattle.sm_record.proofs.put.put_keep.Goals as goal

pub returns-clause-sealed : goal.returns-clause-sealed
returns-clause-sealed c =
    keep_sealed c.args.channel.now c.place_of-place.result c.args.fragment.now c.from_vec.result
    (subst (λ (x : List Track). IsPlaceOf x (address_of c.args.fragment.now) c.place_of-place.result) c.as_slice.ensures c.place_of-place.ensures.place)
    c.place_of-place.ensures.low c.requires.valid c.in_ok-sealed_keep.ensures.1 (c.from_vec.ensures ∙ c.in_ok-sealed_keep.ensures.0)

pub returns-clause-short : goal.returns-clause-short
returns-clause-short c = keep_short c.place_of-place.result c.args.fragment.now c.from_vec.result c.requires.valid (c.from_vec.ensures ∙ c.in_ok-sealed_keep.ensures.0)

pub returns-clause-len : goal.returns-clause-len
returns-clause-len c = keep_body_len c.place_of-place.result c.args.fragment.now c.from_vec.result (c.from_vec.ensures ∙ c.in_ok-sealed_keep.ensures.0)
