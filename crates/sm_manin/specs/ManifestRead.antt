-- What a manifest says ([MS-SSTR] 2.2.2): its listing, or the least place of a fault.
use Rattle.std.specs.Prelude.{◌≡◌, ℕ, List, Option, Some, None, Result, Ok, Err}
use Rattle.sm_model.specs.declared.tag.Tag.{Tag}
use Rattle.sm_manin.specs.declared.listing.Listing.{Listing}
use Rattle.sm_tag.specs.Tags.{TagsOf}
use Rattle.sm_model.specs.Places.{least_from}
use Rattle.sm_tag.specs.Elements.{bad_of}
use Rattle.sm_manin.specs.ManifestWalk.{Walk, none_met, walk}
use Rattle.sm_manin.specs.ManifestFaults.{faults_of}
use Rattle.sm_manin.specs.Listings.{read_of}

abbrev pub judged : Option ℕ → Walk → Result Listing ℕ
judged (Some at) w = Err at
judged None w = Ok (read_of w)

-- the text of a manifest, and its listing or the least place of a fault
abbrev pub IsManifest : List ℕ → Result Listing ℕ → Type 0
IsManifest text r =
    (tags : List Tag) × TagsOf text tags × (r ≡ judged (least_from None (faults_of (bad_of tags) (walk none_met tags))) (walk none_met tags))
