-- A text has one reading as a manifest.
use Rattle.std.proofs.Common.{◌≡◌, ℕ, List, None, Result, refl, sym, ◌∙◌, ap}
use Rattle.sm_model.specs.declared.tag.Tag.{Tag}
use Rattle.sm_model.specs.Places.{least_from}
use Rattle.sm_tag.specs.Elements.{bad_of}
use Rattle.sm_tag.specs.TagsRead.{tags_of}
use Rattle.sm_tag.proofs.TagTotals.{tags_total}
use Rattle.sm_tag.proofs.Unique.{Runs-unique}
use Rattle.sm_manin.specs.declared.listing.Listing.{Listing}
use Rattle.sm_manin.specs.ManifestWalk.{none_met, walk}
use Rattle.sm_manin.specs.ManifestFaults.{faults_of}
use Rattle.sm_manin.specs.ManifestRead.{judged, IsManifest}

-- what these tags give
abbrev given : List Tag → Result Listing ℕ
given tags = judged (least_from None (faults_of (bad_of tags) (walk none_met tags))) (walk none_met tags)

pub one_reading : (text : List ℕ) (r s : Result Listing ℕ) → IsManifest text r → IsManifest text s → r ≡ s
one_reading text r s (tags, reads, says) (others, too, says_too) = says ∙ (ap given (Runs-unique reads too) ∙ sym says_too)

pub some_reading : (text : List ℕ) → (r : Result Listing ℕ) × IsManifest text r
some_reading text = (given (tags_of text), (tags_of text, tags_total text, refl))
