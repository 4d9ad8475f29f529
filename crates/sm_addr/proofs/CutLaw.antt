-- The first `.isml/`.
use Rattle.std.proofs.Common.{Bool, ◌≡◌, ℕ, ◌+◌, ◌-◌, ◌<◌, ◌≤◌, true, false, List, [], ◌∷◌, ◌++◌, length, take, drop, get_or, refl, ap, ◌∙◌, sym, arith, length-drop, append_assoc, Option, Some, None}
use Rattle.std.specs.Prelude.{codes, nat_eq, option_map}
use Rattle.std.specs.List.{starts_with}
use Rattle.std.proofs.lemmas.List.{append-nil, take_more, drop-drop, take_all}
use Rattle.std.proofs.lemmas.Bool.{cond-true, cond-false}
use Rattle.std.proofs.lemmas.Grind.{common_steps}
use Rattle.sm_addr.specs.Paths.{cut_isml}

-- what stands before is put before the cut
abbrev pub after_cut : List ℕ → Option (List ℕ × List ℕ) → Option (List ℕ × List ℕ)
after_cut front found = option_map (λ (p : List ℕ × List ℕ). (front ++ p.0, p.1)) found

moved : (text : List ℕ) (i : ℕ) → i < length text → (r : Option (List ℕ × List ℕ))
    → after_cut (take i text) (option_map (λ (p : List ℕ × List ℕ). (get_or text i 0 ∷ p.0, p.1)) r) ≡ after_cut (take (i + 1) text) r
moved text i lt None = refl
moved text i lt (Some p) = ap (λ (x : List ℕ). Some (x, p.1)) (sym (ap (λ t. t ++ p.0) (take_more text i 0 lt) ∙ append_assoc (take i text) (get_or text i 0 ∷ []) p.0))

pub not_here : (x : ℕ) (rest : List ℕ) → starts_with nat_eq (x ∷ rest) (codes ".isml/") ≡ false
    → cut_isml (x ∷ rest) ≡ option_map (λ (p : List ℕ × List ℕ). (x ∷ p.0, p.1)) (cut_isml rest)
not_here x rest other = cond-false _ _ _ other

pub is_here : (x : ℕ) (rest : List ℕ) → starts_with nat_eq (x ∷ rest) (codes ".isml/") ≡ true → cut_isml (x ∷ rest) ≡ Some ([], drop 6 (x ∷ rest))
is_here x rest here = cond-true _ _ _ here

split_at : (text : List ℕ) (i : ℕ) → i < length text → drop i text ≡ get_or text i 0 ∷ drop (i + 1) text
split_at text i lt = grind (arith, common_steps)

pub one_more : (text : List ℕ) (i : ℕ) → i < length text → starts_with nat_eq (drop i text) (codes ".isml/") ≡ false
    → cut_isml text ≡ after_cut (take i text) (cut_isml (drop i text)) → cut_isml text ≡ after_cut (take (i + 1) text) (cut_isml (drop (i + 1) text))
one_more text i lt other was =
    let s = split_at text i lt in
    was ∙ ap (λ (d : List ℕ). after_cut (take i text) (cut_isml d)) s
    ∙ ap (after_cut (take i text)) (not_here (get_or text i 0) (drop (i + 1) text) (ap (λ (d : List ℕ). starts_with nat_eq d (codes ".isml/")) (sym s) ∙ other))
    ∙ moved text i lt (cut_isml (drop (i + 1) text))

pub found_at : (text : List ℕ) (i : ℕ) → i < length text → starts_with nat_eq (drop i text) (codes ".isml/") ≡ true
    → cut_isml text ≡ after_cut (take i text) (cut_isml (drop i text)) → cut_isml text ≡ Some (take i text, drop (i + 6) text)
found_at text i lt here was =
    let s = split_at text i lt in
    was ∙ ap (λ (d : List ℕ). after_cut (take i text) (cut_isml d)) s
    ∙ ap (after_cut (take i text)) (is_here (get_or text i 0) (drop (i + 1) text) (ap (λ (d : List ℕ). starts_with nat_eq d (codes ".isml/")) (sym s) ∙ here))
    ∙ ap (λ (d : List ℕ). Some (take i text ++ [], d)) (ap (drop 6) (sym s) ∙ drop-drop 6 i text)
    ∙ ap (λ (t : List ℕ). Some (t, drop (i + 6) text)) (append-nil (take i text))

pub tail_is : (text : List ℕ) (i : ℕ) → take (length text - i) (drop i text) ≡ drop i text
tail_is text i = let l = length-drop i text in take_all (length text - i) (drop i text) (omega arith)

pub tail_starts : (text : List ℕ) (i : ℕ) (b : Bool) → b ≡ starts_with nat_eq (take (length text - i) (drop i text)) (codes ".isml/") → starts_with nat_eq (drop i text) (codes ".isml/") ≡ b
tail_starts text i b is = ap (λ (d : List ℕ). starts_with nat_eq d (codes ".isml/")) (sym (tail_is text i)) ∙ sym is

pub tail_long : (text : List ℕ) (i : ℕ) → i < length text → 6 ≤ length (take (length text - i) (drop i text)) → i + 6 ≤ length text
tail_long text i lt long = let l = length-drop i text in let m = ap length (tail_is text i) in omega arith
