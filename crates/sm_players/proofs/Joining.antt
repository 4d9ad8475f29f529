-- Players that are joined one after the other, and counted.
use Rattle.std.proofs.Common.{◌≡◌, ℕ, ◌+◌, ◌<◌, List, [], ◌∷◌, ◌++◌, length, get_or, take, Option, append-nil, append_assoc, refl, sym, ap, subst, ◌∙◌}
use Rattle.std.proofs.lemmas.List.{map-append, take_more}
use Rattle.sm_site.specs.Meanings.{View}
use Rattle.sm_players.specs.declared.launched.PlayerEnd.{PlayerEnd}
use Rattle.sm_players.specs.declared.played.Played.{Played}
use Rattle.sm_players.specs.declared.played.Played.TheVariants.{Done, LinkFault, NoMemory}
use Rattle.sm_players.specs.declared.spawner.Finished.{Finished}
use Rattle.sm_players.specs.Asking.{Asking}
use Rattle.sm_players.specs.Ends.{end_of, ends_of}
use Rattle.sm_players.specs.Starting.{AreEnds, Ended, IsPlayed, Launch, count_of, with_one}

-- Of these players the first ones were joined, these are their ends, and those are left.
pub record HaveJoined (all left : List Launch) (ends : List Ended) : Type 0 where
  pub gone : List Launch
  pub split : all ≡ gone ++ left
  pub each : AreEnds gone ends

pub none_joined : (all left : List Launch) (ends : List Ended) → all ≡ left → ends ≡ [] → HaveJoined all left ends
none_joined all left ends same none = record { gone = []; split = same; each = subst (AreEnds []) (sym none) tt }

one_more_ends : (ls : List Launch) (es : List Ended) (l : Launch) (e : Ended) → AreEnds ls es → IsPlayed l e → AreEnds (ls ++ l ∷ []) (es ++ e ∷ [])
one_more_ends [] [] l e all one = (one, tt)
one_more_ends [] (x ∷ es) l e all one = absurd all
one_more_ends (k ∷ ls) [] l e all one = absurd all
one_more_ends (k ∷ ls) (x ∷ es) l e all one = (all.0, one_more_ends ls es l e all.1 one)

-- the first one of those that are left is joined
pub joined_one : (all left left' : List Launch) (l : Launch) (e : Ended) (es es' : List Ended) → left ≡ l ∷ left' → es' ≡ es ++ e ∷ [] → IsPlayed l e
    → HaveJoined all left es → HaveJoined all left' es'
joined_one all left left' l e es es' is next played so = record {
  gone = so.gone ++ l ∷ [];
  split = so.split ∙ ap (λ (ls : List Launch). so.gone ++ ls) is ∙ sym (append_assoc so.gone (l ∷ []) left');
  each = subst (AreEnds (so.gone ++ l ∷ [])) (sym next) (one_more_ends so.gone es l e so.each played);
}

pub all_joined : (all left : List Launch) (es : List Ended) → left ≡ [] → HaveJoined all left es → AreEnds all es
all_joined all left es is so =
    subst (λ (ls : List Launch). AreEnds ls es) (sym (so.split ∙ ap (λ (ls : List Launch). so.gone ++ ls) is ∙ append-nil so.gone)) so.each

-- ---- counting

with_swapped : (p q : Played) (f : Finished) → with_one p (with_one q f) ≡ with_one q (with_one p f)
with_swapped (Done a) (Done b) f = refl
with_swapped (Done a) LinkFault f = refl
with_swapped (Done a) NoMemory f = refl
with_swapped LinkFault (Done b) f = refl
with_swapped LinkFault LinkFault f = refl
with_swapped LinkFault NoMemory f = refl
with_swapped NoMemory (Done b) f = refl
with_swapped NoMemory LinkFault f = refl
with_swapped NoMemory NoMemory f = refl

-- one more end is counted
pub count_more : (es : List Ended) (e : Ended) → count_of (es ++ e ∷ []) ≡ with_one e.played (count_of es)
count_more [] e = refl
count_more (x ∷ es) e = ap (with_one x.played) (count_more es e) ∙ with_swapped x.played e.played (count_of es)

-- of the first ends one more is counted
pub count_next : {W F : Type 0} (view : W → View) (asked : F → Option (List Asking)) (es : List (PlayerEnd W F)) (i : ℕ) (e : PlayerEnd W F) (p : Played)
    (old new : Finished) → i < length es → e ≡ get_or es i e → p ≡ e.played → new ≡ with_one p old → old ≡ count_of (ends_of view asked (take i es))
    → new ≡ count_of (ends_of view asked (take (i + 1) es))
count_next {W} {F} view asked es i e p old new within is played one so =
    let more : take (i + 1) es ≡ take i es ++ e ∷ [] = take_more es i e within ∙ ap (λ (x : PlayerEnd W F). take i es ++ x ∷ []) (sym is) in
    let ends : ends_of view asked (take (i + 1) es) ≡ ends_of view asked (take i es) ++ end_of view asked e ∷ []
    = ap (ends_of view asked) more ∙ map-append (end_of view asked) (take i es) (e ∷ []) in
    one ∙ ap (λ (q : Played). with_one q old) played ∙ ap (with_one e.played) so ∙ sym (ap count_of ends ∙ count_more (ends_of view asked (take i es)) (end_of view asked e))
