use Rattle.std.proofs.Common.{◌∙◌}
use Rattle.sm_world.proofs.Heading.{header_by}
use Rattle.sm_world.proofs.header.header.Goals as goal

pub returns : goal.returns
returns c = c.from_vec.ensures ∙ header_by c.in_ok-manifest.manifest.items c.extend_from_slice.new.self.items c.extend_from_slice-2.new.self.items c.deref.result.now c.as_slice.result.now
    c.as_slice-2.result.now c.new-out.result.items c.extend_from_slice-3.new.self.items c.extend_from_slice-4.new.self.items c.extend_from_slice-5.new.self.items c.in_ok-channel.field-0
    c.in_ok-manifest.ensures.items c.in_ok-extend_from_slice.ensures.items c.in_ok-extend_from_slice-2.ensures.items c.deref.ensures.value (c.as_slice.ensures ∙ c.in_ok-manifest-2.ensures)
    (c.as_slice-2.ensures ∙ c.in_ok-moov.ensures) c.in_ok-channel.ensures c.new-out.ensures.items c.in_ok-extend_from_slice-3.ensures.items c.in_ok-extend_from_slice-4.ensures.items
    c.in_ok-extend_from_slice-5.ensures.items
