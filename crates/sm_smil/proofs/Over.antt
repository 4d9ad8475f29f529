-- One tag more of a text.
use Rattle.std.proofs.Common.{◌≡◌, ℕ, List, [], ◌∷◌, Some, None, false, refl}
use Rattle.sm_model.specs.declared.tag.Tag.{Tag}
use Rattle.sm_model.specs.declared.tag.Tag.TheVariants.{Start, Finish, Text, End, Bad}
use Rattle.sm_smil.specs.declared.raw_track.Form.{Form}
use Rattle.sm_tag.specs.Tags.{Left, Runs, ends, follows, Next, is_last}
use Rattle.sm_smil.specs.LiveWalk.{Walk, nothing_met, step, walk_tags}
use Rattle.sm_tag.specs.Elements.{bad_of}
use Rattle.sm_smil.specs.Answers.{WalkedOver}

-- what the tags that are left give, the tags of the whole text give
abbrev pub Leads : Form → Left → Walk → Left → Type 0
Leads form whole w left =
    (ts : List Tag) → Runs left ts → (tags : List Tag) × Runs whole tags × (walk_tags form w ts ≡ walk_tags form nothing_met tags) × (bad_of ts ≡ bad_of tags)

abbrev pub IsMiddle : Tag → Type 0
IsMiddle t = (is_last t ≡ false) × ((ts : List Tag) → bad_of (t ∷ ts) ≡ bad_of ts)

pub middle : (t : Tag) → (t ≡ End → ⊥) → ((at : ℕ) → t ≡ Bad at → ⊥) → IsMiddle t
middle End e b = absurd (e refl)
middle (Bad at) e b = absurd (b at refl)
middle (Text at) e b = (refl, λ ts. refl)
middle (Start name attributes empty at) e b = (refl, λ ts. refl)
middle (Finish name at) e b = (refl, λ ts. refl)

pub leads_on : (form : Form) (whole : Left) (w : Walk) (left next : Left) (t : Tag) → Leads form whole w left → Next left t next → IsMiddle t → Leads form whole (step form w t) next
leads_on form whole w left next t before n m ts r = rw (← m.1 ts) (before (t ∷ ts) (follows next n m.0 r))

pub leads_end : (form : Form) (whole : Left) (w : Walk) (left next : Left) (t : Tag) → Leads form whole w left → Next left t next → t ≡ End → WalkedOver form whole w None
leads_end form whole w left next t before n e = before (End ∷ []) (ends next (rw e at n) refl)

pub leads_bad : (form : Form) (whole : Left) (w : Walk) (left next : Left) (t : Tag) (at : ℕ) → Leads form whole w left → Next left t next → t ≡ Bad at → WalkedOver form whole w (Some at)
leads_bad form whole w left next t at before n e = before (Bad at ∷ []) (ends next (rw e at n) refl)
