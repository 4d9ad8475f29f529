use Rattle.std.proofs.Common.{◌≡◌, ◌+◌, ◌-◌, ◌≤◌, ℕ, List, ◌++◌, length, take, drop, Option, Some, refl, sym, ap, subst, arith}
use Rattle.std.specs.Prelude.{map}
use Rattle.sm_conn.specs.Parts.{PartItem, byte}
use Rattle.sm_wire.specs.Wire.{Left}
use Rattle.sm_serve.specs.declared.still.Still.TheVariants.{Open, Closed}
use Rattle.sm_serve.specs.Resting.{PlaceIs, SameConn}
use Rattle.sm_serve.specs.Giving.{StaysOpen, PartGives}
use Rattle.sm_serve.proofs.Steps.{conn_lasts, here_leaves, both_leave, may_still}
use Rattle.sm_serve.proofs.Lists.{bytes_split, bytes_more, drop_all}
use Rattle.std.proofs.lemmas.List.{take_all, take_rest, length-drop}
use Rattle.sm_serve.proofs.Giving.{open_here, then_gives, place_some}
use Rattle.sm_serve.proofs.handler.Handler.take_body.Goals as goal

pub loop-done-init : goal.loop-done-init
loop-done-init g c = record {
  inside = omega arith;
  leaves = here_leaves g.S.Disk.seen SameConn c.args.self.now c.args.self.now.live.now Open (record { number = refl; conn = refl }) c.requires.may;
  open_ = c.requires.open;
  goes_on = λ b h more items here is left. open_here g.S.Disk.seen h (Some b) (map (λ x. byte x) c.args.bytes.now ++ more) items c.args.self.now here is left;
}

pub returns-in-Closed-clause-goes_on : goal.returns-in-Closed-clause-goes_on
returns-in-Closed-clause-goes_on g c b h more items here is left =
    let n = c.args.self.now.live.now.number in
    let bytes : List ℕ = c.args.bytes.now in
    let i = c.loop-done.done in
    let count = c.due-count.result in
    let piece : List ℕ = take count (take (length bytes - i) (drop i bytes)) in
    let piece_is : piece ≡ take count (drop i bytes) = ap (λ (xs : List ℕ). take count xs) (take_rest bytes i) in
    let rest = map byte (drop (i + count) bytes) ++ more in
    let one = subst (λ (qs : List PartItem). StaysOpen g.S.Disk.seen h n (Some b) (map byte (take i bytes)) qs c.loop-done.self) (bytes_split bytes piece i count more piece_is)
    (c.loop-done.invariant.goes_on b h more items here is left) in
    let place = place_some c.loop-done.self.live.now.push one.after c.loop-done.invariant.open_ one.after_is in
    then_gives g.S.Disk.seen h n Closed (Some b) (map byte (take i bytes)) (map byte piece) rest c.loop-done.self c.take_chunk.new.self c.loop-done.invariant.leaves.same.number one
    (λ k there. subst (λ (o : Option (List ℕ)). PartGives g.S.Disk.seen k c.loop-done.self.live.now.number Closed o (map byte piece) rest c.take_chunk.new.self) (sym place.1)
    (c.in-Closed.ensures.goes_on place.0 k rest one.left there (subst (λ (o : Option (List ℕ)). PlaceIs c.loop-done.self.live.now.push o) place.1 one.after_is)
    (subst (λ (o : Option (List ℕ)). Left o (map byte piece ++ rest) one.left) place.1 one.left_is)))

pub loop-done-preserved : goal.loop-done-preserved
loop-done-preserved g c =
    let n = c.args.self.now.live.now.number in
    let bytes : List ℕ = c.args.bytes.now in
    let i = c.loop-done.done in
    let count = c.due-count.result in
    let piece : List ℕ = take count (take (length bytes - i) (drop i bytes)) in
    let piece_is : piece ≡ take count (drop i bytes) = ap (λ (xs : List ℕ). take count xs) (take_rest bytes i) in
    record {
      inside = omega (arith, c.loop-done.invariant.inside, c.due-count.ensures.most, ap length (take_rest bytes i), length-drop i bytes);
      leaves = both_leave g.S.Disk.seen conn_lasts c.loop-done.invariant.leaves c.in-Open.ensures.leaves;
      open_ = c.in-Open.ensures.push refl;
      goes_on = λ b h more items here is left.
          let rest = map byte (drop (i + count) bytes) ++ more in
          let one = subst (λ (qs : List PartItem). StaysOpen g.S.Disk.seen h n (Some b) (map byte (take i bytes)) qs c.loop-done.self) (bytes_split bytes piece i count more piece_is)
          (c.loop-done.invariant.goes_on b h more items here is left) in
          let place = place_some c.loop-done.self.live.now.push one.after c.loop-done.invariant.open_ one.after_is in
          let all = then_gives g.S.Disk.seen h n Open (Some b) (map byte (take i bytes)) (map byte piece) rest c.loop-done.self c.take_chunk.new.self c.loop-done.invariant.leaves.same.number one
          (λ k there. subst (λ (o : Option (List ℕ)). PartGives g.S.Disk.seen k c.loop-done.self.live.now.number Open o (map byte piece) rest c.take_chunk.new.self) (sym place.1)
          (c.in-Open.ensures.goes_on place.0 k rest one.left there (subst (λ (o : Option (List ℕ)). PlaceIs c.loop-done.self.live.now.push o) place.1 one.after_is)
          (subst (λ (o : Option (List ℕ)). Left o (map byte piece ++ rest) one.left) place.1 one.left_is))) in
          subst (λ (ps : List PartItem). StaysOpen g.S.Disk.seen h n (Some b) ps rest c.take_chunk.new.self) (sym (bytes_more bytes piece i count piece_is)) all;
    }

pub returns-clause-goes_on : goal.returns-clause-goes_on
returns-clause-goes_on g c b h more items here is left =
    let n = c.args.self.now.live.now.number in
    let bytes : List ℕ = c.args.bytes.now in
    let i = c.loop-done.done in
    let long : length bytes ≤ i = omega arith in
    subst (λ (xs : List ℕ). StaysOpen g.S.Disk.seen h n (Some b) (map byte xs) more c.loop-done.self) (take_all i bytes long)
    (subst (λ (xs : List ℕ). StaysOpen g.S.Disk.seen h n (Some b) (map byte (take i bytes)) (map byte xs ++ more) c.loop-done.self) (drop_all i bytes long)
    (c.loop-done.invariant.goes_on b h more items here is left))

pub take_chunk-requires-clause-may : goal.take_chunk-requires-clause-may
take_chunk-requires-clause-may g c = may_still g.S.Disk.seen conn_lasts c.loop-done.invariant.leaves
