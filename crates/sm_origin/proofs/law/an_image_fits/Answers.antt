use Rattle.sm_origin.proofs.Acts.{fits_of}
use Rattle.sm_origin.proofs.law.an_image_fits.Goals as goal

pub returns : goal.returns
returns g c = λ m o site image stands left. fits_of m image (c.an_image_fits.ensures o.archive m.log m.doubt site image stands.stands left)
