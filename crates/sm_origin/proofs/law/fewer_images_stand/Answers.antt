use Rattle.std.proofs.Common.{Option, IsSome, subst}
use Rattle.sm_site.specs.Image.{Image}
use Rattle.sm_origin.proofs.Acts.{held_told}
use Rattle.sm_origin.proofs.law.fewer_images_stand.Goals as goal

pub returns : goal.returns
returns g c = λ m o old new stands same fewer. record {
  archive = stands.archive;
  stands = c.fewer_images_stand.ensures o.archive m.log m.doubt old new stands.stands fewer;
  cached = held_told _ _ m.log o.cache.entries (λ told. subst (λ (x : Option Image). IsSome x) same told) stands.cached;
}
