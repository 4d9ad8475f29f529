use Rattle.std.proofs.Common.{◌≡◌, ◌∙◌, ap, subst, List, ℕ, ◌++◌}
use Rattle.sm_conn.specs.declared.conn.State.{State}
use Rattle.sm_conn.specs.declared.part.Part.{Part}
use Rattle.sm_conn.specs.Parts.{Reads}
use Rattle.sm_conn.specs.Stands.{mode_at, mode_from, mode_of, joined}
use Rattle.sm_conn.proofs.PartsLaw.{unkept}
use Rattle.sm_conn.proofs.ActLaw.{if_ok}
use Rattle.sm_conn.proofs.conn.Conn.read_piece.Goals as goal

pub returns-in_ok-extend_from_slice-in-Head : goal.returns-in_ok-extend_from_slice-in-Head
returns-in_ok-extend_from_slice-in-Head c =
    let old = c.args.self.now in
    let kept = old.kept.items in
    let copied = c.in_ok-bytes-in-Head.ensures.items_if_clones_equal (λ x y e. e) ∙ c.as_slice.ensures.value in
    let all : c.as_slice-in-Head.result.now ≡ kept ++ c.args.piece.now =
    c.as_slice-in-Head.ensures.value ∙ c.in_ok-extend_from_slice-in-Head.ensures.items ∙ ap (λ b. b ++ c.args.piece.now) copied in
    if_ok c.read_all.result (λ (parts : List Part). Reads (mode_at old.state) c.as_slice-in-Head.result.now (joined parts) (mode_of c.read_all.new.self)) _
    (λ parts reads. unkept kept c.args.piece.now (mode_at old.state) (mode_of old) _ _ (ap mode_at c.in-Head.is) (ap (λ (s : State). mode_from s kept) c.in-Head.is)
    (subst (λ (b : List ℕ). Reads (mode_at old.state) b (joined parts) (mode_of c.read_all.new.self)) all reads))
    c.read_all.ensures
