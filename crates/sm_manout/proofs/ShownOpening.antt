-- The first line of a stream, and the qualities behind it.
use Rattle.std.proofs.Common.{◌≡◌, ◌<◌, ◌^◌, ℕ, true, List, [], ◌∷◌, ◌++◌, refl, sym, ap, subst, ◌∙◌, append_assoc}
use Rattle.std.specs.Prelude.{codes, unwrap_or}
use Rattle.sm_model.specs.declared.address.Address.{Address}
use Rattle.sm_model.specs.declared.track.Track.{Track}
use Rattle.sm_model.specs.declared.track.Kind.{Kind}
use Rattle.sm_model.specs.declared.track.Kind.TheVariants as kind
use Rattle.sm_model.specs.Kinds.{kind_name}
use Rattle.sm_model.specs.Names.{is_name}
use Rattle.sm_manout.specs.ManifestText.{level_line, attribute, number_attribute, stream_opening, url}
use Rattle.sm_manout.specs.Shown.{Open, ended_by, quoted, after_line, line_starts}
use Rattle.sm_manout.proofs.ShownPieces.{has_no, ended_piece, name_none, Good, line_good}
use Rattle.sm_manout.proofs.ShownLevels.{level_front, level_more, level_text, level_says}

abbrev pub opening_more : Track → ℕ → ℕ → List ℕ
opening_more t chunks levels =
    number_attribute (codes "TimeScale") t.timescale ++ (number_attribute (codes "Chunks") chunks ++ (number_attribute (codes "QualityLevels") levels ++ (attribute (codes "Url") (url t.name) ++ codes ">")))

abbrev pub opening_front : List ℕ → List ℕ → List ℕ → List ℕ
opening_front k name more = codes "<StreamIndex Type=\"" ++ (k ++ (34 ∷ codes " Name=\"" ++ (name ++ (34 ∷ more))))

pub opening_text : (t : Track) (chunks levels : ℕ) (x : List ℕ) → stream_opening t chunks levels ++ x ≡ opening_front (kind_name t.kind) t.name (opening_more t chunks levels) ++ (10 ∷ x)
unfolding stream_opening attribute
opening_text t chunks levels x = simp append_assoc

kind_none : (k : Kind) → has_no 34 (kind_name k) ≡ true
kind_none kind.Video = refl
kind_none kind.Audio = refl
kind_none kind.Text = refl

opening_pieces : (k name more : List ℕ) → has_no 34 k ≡ true → has_no 34 name ≡ true
    → ended_by 34 [] (codes " Type=\"" ++ (k ++ (34 ∷ codes " Name=\"" ++ (name ++ (34 ∷ more))))) ≡ codes " Type=" ∷ k ∷ codes " Name=" ∷ name ∷ ended_by 34 [] more
opening_pieces k name more nk nn =
    ap (λ (l : List (List ℕ)). codes " Type=" ∷ l) (ended_piece 34 [] k (codes " Name=\"" ++ (name ++ (34 ∷ more))) nk
    ∙ ap (λ (l : List (List ℕ)). k ∷ codes " Name=" ∷ l) (ended_piece 34 [] name more nn))

-- it opens the stream of that name
pub opening_says : (o : Open) (k : Kind) (name more : List ℕ) → is_name name ≡ true → after_line o (opening_front (kind_name k) name more) ≡ record { stream = name; bitrates = [] }
unfolding after_line
opening_says o k name more is =
    let by : List (List ℕ) → Open = λ l. record { stream = unwrap_or (quoted (codes " Name=") l) (unwrap_or (quoted (codes " Type=") l) []); bitrates = [] } in
    ap by (opening_pieces (kind_name k) name more (kind_none k) (name_none 34 name refl is))

pub opening_lists_none : (k name more : List ℕ) → line_starts (opening_front k name more) ≡ []
unfolding line_starts
opening_lists_none k name more = refl

-- a line of a quality, read
pub level_read : (P : Address → Type 0) (o : Open) (i : ℕ) (t : Track) (x : List ℕ) → i < 2 ^ 64 → t.bitrate < 2 ^ 32 → has_no 10 (level_front i t.bitrate (level_more t)) ≡ true
    → Good P (record { stream = o.stream; bitrates = o.bitrates ++ t.bitrate ∷ [] }) x → Good P o (level_line i t ++ x)
unfolding line_starts
level_read P o i t x li lb none go =
    let T : List ℕ → Type 0 = λ l. Good P o l in
    let G : Open → Type 0 = λ o'. Good P o' x in
    subst T (sym (level_text i t x)) (line_good P o (level_front i t.bitrate (level_more t)) x none tt (subst G (sym (level_says o i t.bitrate (level_more t) li lb)) go))

pub opening_read : (P : Address → Type 0) (o : Open) (t : Track) (chunks levels : ℕ) (x : List ℕ) → is_name t.name ≡ true → has_no 10 (opening_front (kind_name t.kind) t.name (opening_more t chunks levels)) ≡ true
    → Good P (record { stream = t.name; bitrates = [] }) x → Good P o (stream_opening t chunks levels ++ x)
unfolding line_starts
opening_read P o t chunks levels x is none go =
    let T : List ℕ → Type 0 = λ l. Good P o l in
    let G : Open → Type 0 = λ o'. Good P o' x in
    subst T (sym (opening_text t chunks levels x)) (line_good P o (opening_front (kind_name t.kind) t.name (opening_more t chunks levels)) x none tt (subst G (sym (opening_says o t.kind t.name (opening_more t chunks levels) is)) go))
