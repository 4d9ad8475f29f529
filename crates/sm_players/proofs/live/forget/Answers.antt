use Rattle.std.proofs.Common.{◌≡◌, ℕ, ◌<◌, ◌++◌, List, length, get_or, inl, inr, refl, sym, ◌∙◌, subst}
use Rattle.sm_players.specs.declared.live.Live.{Live}
use Rattle.sm_players.specs.Open.{AreOpen, AreKnown, IsApart, numbers_of}
use Rattle.sm_players.proofs.Lists.{apart_none, gone_open, known_at, none_but, none_known, number_at}
use Rattle.sm_players.proofs.live.forget.Goals as goal

pub returns-in-Some : goal.returns-in-Some
returns-in-Some c =
    let old = c.args.lives.now.items in
    let i = c.in-Some.i in
    let n = c.args.number in
    let same = c.deref.ensures.value in
    let found = subst (λ (ls : List Live). (i < length ls) × (get_or (numbers_of ls) i 0 ≡ n)) same c.in-Some.ensures.found in
    record {
      open_ = λ items but. subst (λ (ls : List Live). AreOpen items ls) (sym c.remove.ensures.items) (gone_open n items old i found.0 found.1 but);
      known = λ ks known.
          let at = known_at ks old i c.remove.result known found.0 c.remove.ensures.value in
          let number = sym (number_at old i c.remove.result found.0 c.remove.ensures.value) ∙ found.1 in (
            at.front ++ at.back,
            subst (λ (ls : List Live). AreKnown (at.front ++ at.back) ls) (sym c.remove.ensures.items) at.gone,
            inl (record { front = at.front; back = at.back; one = at.one; number_is = at.known.number_is ∙ number; lives_is = at.is; after_is = refl }),
          );
    }

pub returns-in-None : goal.returns-in-None
returns-in-None c =
    let old = c.args.lives.now.items in
    let n = c.args.number in
    let same = c.deref.ensures.value in
    let missing = subst (λ (ls : List Live). (k : ℕ) → k < length ls → get_or (numbers_of ls) k 0 ≡ n → ⊥) same c.in-None.ensures.missing in
    let apart : IsApart n old = apart_none old n missing in
    record { open_ = λ items but. none_but n items old apart but; known = λ ks known. (ks, known, inr (none_known n ks old known apart, refl)) }
