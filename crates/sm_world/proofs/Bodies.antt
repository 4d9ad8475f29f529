-- The bodies that the encoders push.
use Rattle.std.proofs.Common.{◌≡◌, ℕ, List, [], ◌∷◌, ◌++◌, ◌∙◌, ap, append_assoc}
use Rattle.sm_model.specs.declared.fragment.Fragment.{Fragment}
use Rattle.sm_model.specs.FragText.{frag_text}
use Rattle.sm_world.specs.Deeds.{body_of_a, body_of_b}
use Rattle.sm_world.specs.Encoders.{fragment_of, of_encoder_a}

pub body_by_a : (header one two three four : List ℕ) (i : ℕ) (f g h : Fragment) → one ≡ header → two ≡ one ++ frag_text 1 1 f [] → three ≡ two ++ frag_text 1 2 g []
    → four ≡ three ++ frag_text 1 3 h [] → f ≡ of_encoder_a i 1 → g ≡ of_encoder_a i 2 → h ≡ of_encoder_a i 3 → four ≡ body_of_a header i
body_by_a header one two three four i f g h first second third fourth f_is g_is h_is =
    let a = frag_text 1 1 f [] in
    let b = frag_text 1 2 g [] in
    let c = frag_text 1 3 h [] in
    let all : four ≡ ((header ++ a) ++ b) ++ c =
    fourth ∙ ap (λ (l : List ℕ). l ++ c) (third ∙ ap (λ (l : List ℕ). l ++ b) (second ∙ ap (λ (l : List ℕ). l ++ a) first))
    in
    all ∙ ap (λ (l : List ℕ). l ++ c) (append_assoc header a b) ∙ append_assoc header (a ++ b) c ∙ ap (λ (l : List ℕ). header ++ l) (append_assoc a b c)
    ∙ ap (λ (x : Fragment). header ++ (frag_text 1 1 x [] ++ (b ++ c))) f_is
    ∙ ap (λ (x : Fragment). header ++ (frag_text 1 1 (of_encoder_a i 1) [] ++ (frag_text 1 2 x [] ++ c))) g_is
    ∙ ap (λ (x : Fragment). header ++ (frag_text 1 1 (of_encoder_a i 1) [] ++ (frag_text 1 2 (of_encoder_a i 2) [] ++ frag_text 1 3 x []))) h_is

pub body_by_b : (header one two bytes : List ℕ) (time duration : ℕ) (f : Fragment) → one ≡ header → two ≡ one ++ frag_text 1 1 f [] → f ≡ fragment_of 1 time duration bytes
    → bytes ≡ 0 ∷ [] → two ≡ body_of_b header time duration
body_by_b header one two bytes time duration f first second is zero_is =
    second ∙ ap (λ (l : List ℕ). l ++ frag_text 1 1 f []) first ∙ ap (λ (x : Fragment). header ++ frag_text 1 1 x []) is
    ∙ ap (λ (l : List ℕ). header ++ frag_text 1 1 (fragment_of 1 time duration l) []) zero_is
