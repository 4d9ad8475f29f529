use Rattle.std.proofs.Common.{[], ◌++◌, sym, ap, ◌∙◌, append_assoc, List, ℕ}
use Rattle.sm_model.specs.declared.run.Defaults.{Defaults}
use Rattle.sm_model.specs.FragText.{moof, mdat}
use Rattle.sm_model.specs.Frag.{frag}
use Rattle.sm_moof.proofs.FrontLemmas.{same_box, is_written, same_text}
use Rattle.sm_moof.proofs.law.canonical_texts_are_no_prefixes.Goals as goal

pub returns : goal.returns
returns x = λ c d r s p q e.
    let law = x.written_fragment_is_read.ensures in
    let v = is_written c p in
    let w = is_written d q in
    let m = moof c.seq c.id c.fragment [] in
    let n = moof d.seq d.id d.fragment [] in
    let a = mdat c.fragment.samples in
    let b = mdat d.fragment.samples in
    let front = same_box m n (a ++ r) (b ++ s) (law.moof_whole c.seq c.id c.fragment [] v) (law.moof_whole d.seq d.id d.fragment [] w) (sym (append_assoc m a r) ∙ e ∙ append_assoc n b s) in
    let back = same_box a b r s (law.mdat_whole c.id c.fragment [] v) (law.mdat_whole d.id d.fragment [] w) front.1 in
    let none : Defaults = record { duration = 0; size = 0; flags = 0 } in
    let again = law.fragment none d.seq d.id d.fragment [] w in
    (same_text c d (frag none m a) p q front.0 (law.fragment none c.seq c.id c.fragment [] v) (ap (λ (y : List ℕ). frag none y a) front.0 ∙ ap (frag none n) back.0 ∙ again), back.1)
