-- The header that the encoders push.
use Rattle.std.proofs.Common.{◌≡◌, ℕ, ◌+◌, List, [], ◌++◌, length, refl, ◌∙◌, ap, append_assoc}
use Rattle.std.specs.Prelude.{codes}
use Rattle.sm_model.specs.declared.track.Track.{Track}
use Rattle.sm_model.specs.FragText.{box}
use Rattle.sm_model.specs.MoovText.{bare_moov}
use Rattle.sm_model.specs.Numbers.{number32}
use Rattle.sm_world.specs.declared.header.TheConstants.{FTYP, MANIFEST, TEXT}
use Rattle.sm_world.specs.Encoders.{channel}
use Rattle.sm_world.specs.Header.{file_type, header_text, manifest_body, manifest_head, manifest_text}

file_type_is : FTYP.now ≡ file_type
unfolding number32
file_type_is = refl

head_is : MANIFEST.now ≡ manifest_head
head_is = refl

text_is : TEXT.now ≡ manifest_text
unfolding manifest_text
text_is = refl

pub header_by : (none one two body text moov empty first second third : List ℕ) (tracks : List Track) → none ≡ [] → one ≡ none ++ MANIFEST.now → two ≡ one ++ TEXT.now → body ≡ two
    → text ≡ box (8 + length body) (codes "uuid") body → moov ≡ bare_moov tracks → tracks ≡ channel → empty ≡ [] → first ≡ empty ++ FTYP.now → second ≡ first ++ text → third ≡ second ++ moov
    → third ≡ header_text
unfolding header_text
header_by none one two body text moov empty first second third tracks none_is one_is two_is body_is text_is_ moov_is tracks_are empty_is first_is second_is third_is =
    let whole : body ≡ manifest_body =
    body_is ∙ two_is ∙ ap (λ (l : List ℕ). l ++ TEXT.now) (one_is ∙ ap (λ (l : List ℕ). l ++ MANIFEST.now) none_is ∙ head_is) ∙ ap (λ (l : List ℕ). manifest_head ++ l) text_is
    in
    let boxed : text ≡ box (8 + length manifest_body) (codes "uuid") manifest_body = text_is_ ∙ ap (λ (l : List ℕ). box (8 + length l) (codes "uuid") l) whole in
    let bare : moov ≡ bare_moov channel = moov_is ∙ ap bare_moov tracks_are in
    let began : first ≡ file_type = first_is ∙ ap (λ (l : List ℕ). l ++ FTYP.now) empty_is ∙ file_type_is in
    third_is ∙ ap (λ (l : List ℕ). l ++ moov) (second_is ∙ ap (λ (l : List ℕ). l ++ text) began ∙ ap (λ (l : List ℕ). file_type ++ l) boxed)
    ∙ ap (λ (l : List ℕ). (file_type ++ box (8 + length manifest_body) (codes "uuid") manifest_body) ++ l) bare
    ∙ append_assoc file_type (box (8 + length manifest_body) (codes "uuid") manifest_body) (bare_moov channel)
