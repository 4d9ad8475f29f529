-- The lines of qualities, and the first line of a stream.
use Rattle.std.proofs.Common.{◌≡◌, ◌<◌, ◌^◌, ℕ, List, [], ◌∷◌, ◌++◌, Option, refl, ap, ◌∙◌, append_assoc, arith}
use Rattle.std.specs.Prelude.{decimal, codes, option_to_list}
use Rattle.hex.specs.Hex.{encode_upper}
use Rattle.sm_model.specs.declared.track.Track.{Track}
use Rattle.sm_manin.specs.Values.{narrow_in}
use Rattle.sm_manout.specs.ManifestText.{level_line, attribute, text_attribute, number_attributes}
use Rattle.sm_smil.proofs.WrittenValues.{decimal_again}
use Rattle.sm_manout.specs.Shown.{Open, ended_by, quoted, after_line, line_starts}
use Rattle.sm_manout.proofs.ShownPieces.{ended_piece, decimal_none}

abbrev pub level_more : Track → List ℕ
level_more t = text_attribute (codes "FourCC") t.fourcc ++ (attribute (codes "CodecPrivateData") (encode_upper t.private) ++ (number_attributes t.numbers ++ codes "/>"))

abbrev pub level_front : ℕ → ℕ → List ℕ → List ℕ
level_front i b more = codes "<QualityLevel Index=\"" ++ (decimal i ++ (34 ∷ codes " Bitrate=\"" ++ (decimal b ++ (34 ∷ more))))

pub level_text : (i : ℕ) (t : Track) (x : List ℕ) → level_line i t ++ x ≡ level_front i t.bitrate (level_more t) ++ (10 ∷ x)
unfolding level_line attribute
level_text i t x = simp append_assoc

level_pieces : (i b : ℕ) (more : List ℕ) → i < 2 ^ 64 → b < 2 ^ 64
    → ended_by 34 [] (codes " Index=\"" ++ (decimal i ++ (34 ∷ codes " Bitrate=\"" ++ (decimal b ++ (34 ∷ more))))) ≡ codes " Index=" ∷ decimal i ∷ codes " Bitrate=" ∷ decimal b ∷ ended_by 34 [] more
level_pieces i b more li lb =
    ap (λ (l : List (List ℕ)). codes " Index=" ∷ l) (ended_piece 34 [] (decimal i) (codes " Bitrate=\"" ++ (decimal b ++ (34 ∷ more))) (decimal_none 34 i refl li)
    ∙ ap (λ (l : List (List ℕ)). decimal i ∷ codes " Bitrate=" ∷ l) (ended_piece 34 [] (decimal b) more (decimal_none 34 b refl lb)))

-- it adds its bitrate to the stream's
pub level_says : (o : Open) (i b : ℕ) (more : List ℕ) → i < 2 ^ 64 → b < 2 ^ 32 → after_line o (level_front i b more) ≡ record { stream = o.stream; bitrates = o.bitrates ++ b ∷ [] }
unfolding after_line
level_says o i b more li lb =
    let with_rate : Option ℕ → Open = λ r. record { stream = o.stream; bitrates = o.bitrates ++ option_to_list r } in
    ap (λ (l : List (List ℕ)). with_rate (narrow_in (quoted (codes " Bitrate=") l))) (level_pieces i b more li (omega arith)) ∙ ap with_rate (decimal_again b lb)

pub level_lists_none : (i b : ℕ) (more : List ℕ) → line_starts (level_front i b more) ≡ []
unfolding line_starts
level_lists_none i b more = refl
