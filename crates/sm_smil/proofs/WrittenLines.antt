-- The lines of a live manifest, read one after another.
use Rattle.std.proofs.Common.{◌≡◌, ◌-◌, ℕ, Bool, true, false, cond, List, [], ◌∷◌, ◌++◌, length, take, None, Ok, refl, sym, subst, append_assoc}
use Rattle.std.specs.Prelude.{codes, decimal}
use Rattle.std.specs.List.{list_all}
use Rattle.sm_model.specs.declared.tag.Attribute.{Attribute}
use Rattle.sm_model.specs.declared.tag.Tag.{Tag}
use Rattle.sm_model.specs.declared.tag.Tag.TheVariants.{Start, Finish, Text}
use Rattle.sm_tag.specs.declared.grammar.Markup.TheVariants as markup
use Rattle.sm_smil.specs.declared.raw_track.Form.{Form}
use Rattle.sm_model.specs.declared.track.Kind.{Kind}
use Rattle.sm_model.specs.declared.track.Kind.TheVariants as kind
use Rattle.sm_tag.specs.TagParts.{name_at}
use Rattle.sm_tag.specs.TagMarkup.{Markups, finish_at}
use Rattle.sm_tag.specs.Tags.{Left, Next, Runs, follows, closes}
use Rattle.sm_smil.specs.LiveWalk.{Walk, step, walk_tags}
use Rattle.sm_tag.specs.Elements.{bad_of}
use Rattle.sm_smil.specs.LiveText.{param_line, opening_line, closing_line, element_name}
use Rattle.sm_tag.specs.TagText.{is_plain, AreWritten, attributes_then, closing, left_at, IsOpen}
use Rattle.sm_tag.proofs.WrittenTags.{Starts-again}
use Rattle.sm_tag.proofs.WrittenNext.{next_feed, next_start, next_finish}

-- from what is left and what was walked over, the text is without a tag at fault and is walked over with this end
abbrev pub Leads : Form → (Walk → Type 0) → Left → Walk → Type 0
Leads form Good s w = (tags : List Tag) × Runs s tags × (bad_of tags ≡ None) × Good (walk_tags form w tags)

pub on_start : (form : Form) (size : ℕ) (Good : Walk → Type 0) (s t : Left) (name : List ℕ) (attributes : List Attribute) (empty : Bool) (at : ℕ) (w : Walk)
    → Next s (Start name attributes empty at) t → Leads form Good t (step form w (Start name attributes empty at)) → Leads form Good s w
on_start form size Good s t name attributes empty at w next (tags, runs, bad, good) =
    (Start name attributes empty at ∷ tags, follows t next refl runs, bad, good)

on_text : (form : Form) (size : ℕ) (Good : Walk → Type 0) (s t : Left) (at : ℕ) (w : Walk) → Next s (Text at) t → Leads form Good t w → Leads form Good s w
on_text form size Good s t at w next (tags, runs, bad, good) = (Text at ∷ tags, follows t next refl runs, bad, good)

pub on_finish : (form : Form) (size : ℕ) (Good : Walk → Type 0) (s t : Left) (name : List ℕ) (at : ℕ) (w : Walk) → Next s (Finish name at) t → Leads form Good t (step form w (Finish name at)) →
    Leads form Good s w
on_finish form size Good s t name at w next (tags, runs, bad, good) =
    (Finish name at ∷ tags, follows t next refl runs, bad, good)

-- a line begins with `<`
abbrev pub Begins : List ℕ → Type 0
Begins x = (y : List ℕ) × (x ≡ 60 ∷ y)

pub feed_read : (form : Form) (size : ℕ) (Good : Walk → Type 0) (end : ℕ) (x : List ℕ) (names : List (List ℕ)) (w : Walk) → Begins x → IsOpen names
    → Leads form Good (left_at size end x names) w → Leads form Good (left_at size end (10 ∷ x) names) w
feed_read form size Good end x names w begins open_names go =
    let P : List ℕ → Type 0 = λ l. Leads form Good (left_at size end l names) w → Leads form Good (left_at size end (10 ∷ l) names) w in
    subst P (sym begins.1) (λ here. on_text form size Good _ _ _ w (next_feed size end begins.0 names open_names) here) go

-- a line that is a start tag
pub start_line : (form : Form) (size : ℕ) (Good : Walk → Type 0) (end : ℕ) (x : List ℕ) (names : List (List ℕ)) (name : List ℕ) (attributes : List Attribute) (empty : Bool) (w : Walk)
    → Begins x → IsOpen names → IsOpen (cond empty names (names ++ name ∷ []))
    → Markups (name ++ attributes_then attributes (closing empty (10 ∷ x))) (Ok (markup.Start name attributes empty, 10 ∷ x))
    → ((at : ℕ) → Leads form Good (left_at size end x (cond empty names (names ++ name ∷ []))) (step form w (Start name attributes empty at)))
    → Leads form Good (left_at size end (60 ∷ name ++ attributes_then attributes (closing empty (10 ∷ x))) names) w
start_line form size Good end x names name attributes empty w begins open_names after read go =
    on_start form size Good _ _ name attributes empty _ w (next_start size end _ (10 ∷ x) names name attributes empty open_names read) (feed_read form size Good end x _ _ begins after (go _))

-- a line that is an end tag
pub finish_line : (form : Form) (size : ℕ) (Good : Walk → Type 0) (end : ℕ) (x cs : List ℕ) (names : List (List ℕ)) (name : List ℕ) (w : Walk) → Begins x → IsOpen names
    → IsOpen (take (length names - 1) names) → closes name names ≡ true → Markups cs (Ok (markup.Finish name, 10 ∷ x))
    → ((at : ℕ) → Leads form Good (left_at size end x (take (length names - 1) names)) (step form w (Finish name at)))
    → Leads form Good (left_at size end (60 ∷ cs) names) w
finish_line form size Good end x cs names name w begins open_names after last read go =
    on_finish form size Good _ _ name (end - length (60 ∷ cs)) w (next_finish size end cs (10 ∷ x) names name open_names last read)
    (feed_read form size Good end x _ _ begins after (go (end - length (60 ∷ cs))))

-- the attributes of a param
abbrev pub param_attributes : List ℕ → List ℕ → List Attribute
param_attributes name value =
    record { name = codes "name"; value = name } ∷ record { name = codes "value"; value = value } ∷ record { name = codes "valuetype"; value = codes "data" } ∷ []

param_text : (name value x : List ℕ) → param_line name value ++ x ≡ 60 ∷ codes "param" ++ attributes_then (param_attributes name value) (closing true (10 ∷ x))
unfolding param_line
param_text name value x = simp append_assoc

pub param_begins : (name value x : List ℕ) → Begins (param_line name value ++ x)
unfolding param_line
param_begins name value x = (_, refl)

-- inside smil, body and switch, and inside a track there
abbrev pub in_switch : List (List ℕ)
in_switch = codes "smil" ∷ codes "body" ∷ codes "switch" ∷ []

abbrev pub in_track : Kind → List (List ℕ)
in_track k = codes "smil" ∷ codes "body" ∷ codes "switch" ∷ element_name k ∷ []

pub param_read : (form : Form) (size : ℕ) (Good : Walk → Type 0) (end : ℕ) (x : List ℕ) (k : Kind) (name value : List ℕ) (w : Walk) → Begins x
    → list_all is_plain name ≡ true → list_all is_plain value ≡ true
    → ((at : ℕ) → Leads form Good (left_at size end x (in_track k)) (step form w (Start (codes "param") (param_attributes name value) true at)))
    → Leads form Good (left_at size end (param_line name value ++ x) (in_track k)) w
param_read form size Good end x k name value w begins plain_name plain go =
    let P : List ℕ → Type 0 = λ l. Leads form Good (left_at size end l (in_track k)) w in
    let are : AreWritten [] (param_attributes name value) = ((refl, refl), plain_name, refl, ((refl, refl), plain, refl, ((refl, refl), refl, refl, tt))) in
    subst P (sym (param_text name value x)) (start_line form size Good end x (in_track k) (codes "param") (param_attributes name value) true w begins (refl, refl) (refl, refl)
    (Starts-again (codes "param") (param_attributes name value) true (10 ∷ x) (refl, refl) are) go)

-- the attributes of a track
abbrev pub track_attributes : ℕ → List Attribute
track_attributes bitrate =
    record { name = codes "src"; value = codes "Streams" } ∷ record { name = codes "systemBitrate"; value = decimal bitrate } ∷ []

opening_text : (k : Kind) (bitrate : ℕ) (x : List ℕ) → opening_line k bitrate ++ x ≡ 60 ∷ element_name k ++ attributes_then (track_attributes bitrate) (closing false (10 ∷ x))
unfolding opening_line
opening_text kind.Video bitrate x = simp append_assoc
opening_text kind.Audio bitrate x = simp append_assoc
opening_text kind.Text bitrate x = simp append_assoc

pub opening_begins : (k : Kind) (bitrate : ℕ) (x : List ℕ) → Begins (opening_line k bitrate ++ x)
unfolding opening_line
opening_begins k bitrate x = (_, refl)

opening_markup : (k : Kind) (bitrate : ℕ) (rest : List ℕ) → list_all is_plain (decimal bitrate) ≡ true
    → Markups (element_name k ++ attributes_then (track_attributes bitrate) (closing false rest)) (Ok (markup.Start (element_name k) (track_attributes bitrate) false, rest))
opening_markup kind.Video bitrate rest plain = Starts-again (codes "video") (track_attributes bitrate) false rest (refl, refl) ((refl, refl), refl, refl, ((refl, refl), plain, refl, tt))
opening_markup kind.Audio bitrate rest plain = Starts-again (codes "audio") (track_attributes bitrate) false rest (refl, refl) ((refl, refl), refl, refl, ((refl, refl), plain, refl, tt))
opening_markup kind.Text bitrate rest plain = Starts-again (codes "textstream") (track_attributes bitrate) false rest (refl, refl) ((refl, refl), refl, refl, ((refl, refl), plain, refl, tt))

pub opening_read : (form : Form) (size : ℕ) (Good : Walk → Type 0) (end : ℕ) (x : List ℕ) (k : Kind) (bitrate : ℕ) (w : Walk) → Begins x
    → list_all is_plain (decimal bitrate) ≡ true
    → ((at : ℕ) → Leads form Good (left_at size end x (in_track k)) (step form w (Start (element_name k) (track_attributes bitrate) false at)))
    → Leads form Good (left_at size end (opening_line k bitrate ++ x) in_switch) w
opening_read form size Good end x k bitrate w begins plain go =
    let P : List ℕ → Type 0 = λ l. Leads form Good (left_at size end l in_switch) w in
    subst P (sym (opening_text k bitrate x)) (start_line form size Good end x in_switch (element_name k) (track_attributes bitrate) false w begins (refl, refl) (refl, refl)
    (opening_markup k bitrate (10 ∷ x) plain) go)

pub closing_begins : (k : Kind) (x : List ℕ) → Begins (closing_line k ++ x)
unfolding closing_line
closing_begins kind.Video x = (_, refl)
closing_begins kind.Audio x = (_, refl)
closing_begins kind.Text x = (_, refl)

video_end : (x : List ℕ) → finish_at (codes "video>" ++ (10 ∷ x)) ≡ Ok (markup.Finish (codes "video"), 10 ∷ x)
unfolding finish_at name_at
video_end x = refl

audio_end : (x : List ℕ) → finish_at (codes "audio>" ++ (10 ∷ x)) ≡ Ok (markup.Finish (codes "audio"), 10 ∷ x)
unfolding finish_at name_at
audio_end x = refl

text_end : (x : List ℕ) → finish_at (codes "textstream>" ++ (10 ∷ x)) ≡ Ok (markup.Finish (codes "textstream"), 10 ∷ x)
unfolding finish_at name_at
text_end x = refl

pub closing_read : (form : Form) (size : ℕ) (Good : Walk → Type 0) (end : ℕ) (x : List ℕ) (k : Kind) (w : Walk) → Begins x
    → ((at : ℕ) → Leads form Good (left_at size end x in_switch) (step form w (Finish (element_name k) at)))
    → Leads form Good (left_at size end (closing_line k ++ x) (in_track k)) w
unfolding closing_line
closing_read form size Good end x kind.Video w begins go =
    finish_line form size Good end x (codes "/video>" ++ (10 ∷ x)) (in_track kind.Video) (codes "video") w begins (refl, refl) (refl, refl) refl (sym (video_end x)) go
closing_read form size Good end x kind.Audio w begins go =
    finish_line form size Good end x (codes "/audio>" ++ (10 ∷ x)) (in_track kind.Audio) (codes "audio") w begins (refl, refl) (refl, refl) refl (sym (audio_end x)) go
closing_read form size Good end x kind.Text w begins go =
    finish_line form size Good end x (codes "/textstream>" ++ (10 ∷ x)) (in_track kind.Text) (codes "textstream") w begins (refl, refl) (refl, refl) refl (sym (text_end x)) go
