use Rattle.std.proofs.Common.{◌≡◌, ℕ, ◌+◌, ◌-◌, ◌<◌, Bool, true, false, cond, nat_eq, List, [], ◌∷◌, length, get_or, take, drop, sym, ap, ◌∙◌, arith, length-drop}
use Rattle.std.specs.List.{starts_with}
use Rattle.std.proofs.lemmas.List.{drop_more, drop-drop, take_all}
use Rattle.sm_head.specs.Shown.{body_of}
use Rattle.sm_head.proofs.plain.body_of.Goals as goal

abbrev empty_line : List ℕ
empty_line = 13 ∷ 10 ∷ 13 ∷ 10 ∷ []

here : (xs : List ℕ) → starts_with nat_eq xs empty_line ≡ true → body_of xs ≡ drop 4 xs
here [] e = absurd cc
here (c ∷ cs) e = ap (λ (b : Bool). cond b (drop 4 (c ∷ cs)) (body_of cs)) e

later : (part : List ℕ) (i : ℕ) → i < length part → starts_with nat_eq (drop i part) empty_line ≡ false → body_of (drop i part) ≡ body_of (drop (i + 1) part)
later part i lt off =
    let split = drop_more part i 0 lt in
    let rest = drop (i + 1) part in
    ap body_of split ∙ ap (λ (b : Bool). cond b (drop 4 (get_or part i 0 ∷ rest)) (body_of rest)) (sym (ap (λ (l : List ℕ). starts_with nat_eq l empty_line) split) ∙ off)

-- a slice up to the end
whole : (part : List ℕ) (i : ℕ) → take (length part - i) (drop i part) ≡ drop i part
whole part i = take_all (length part - i) (drop i part) (omega (arith, length-drop {A = ℕ}))

pub returns-then-starts_with : goal.returns-then-starts_with
returns-then-starts_with c =
    let part = c.args.part.now in
    let i = c.loop-i.i in
    let begins : starts_with nat_eq (drop i part) empty_line ≡ true = sym (ap (λ (l : List ℕ). starts_with nat_eq l empty_line) (whole part i)) ∙ sym c.starts_with.ensures.value ∙ c.if-starts_with.true in
    whole part (i + 4) ∙ sym (drop-drop 4 i part) ∙ sym (here (drop i part) begins) ∙ c.loop-i.invariant

pub loop-i-preserved : goal.loop-i-preserved
loop-i-preserved c =
    let part = c.args.part.now in
    let i = c.loop-i.i in
    let off : starts_with nat_eq (drop i part) empty_line ≡ false = sym (ap (λ (l : List ℕ). starts_with nat_eq l empty_line) (whole part i)) ∙ sym c.starts_with.ensures.value ∙ c.if-starts_with.false in
    sym (later part i c.loop-i-test.true off) ∙ c.loop-i.invariant
