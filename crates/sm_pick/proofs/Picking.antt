-- How far an input was read.
use Rattle.std.proofs.Common.{◌≡◌, ◌≤◌, ◌<◌, ◌+◌, ℕ, List, ◌++◌, length, take, Option, sym, ◌∙◌, arith}
use Rattle.std.specs.Io.KnownBytes.{Consumes}
use Rattle.std.proofs.KnownBytes.{Consumes-trans}
use Rattle.std.proofs.lemmas.List.{length-append, length-take-le}
use Rattle.sm_ends.specs.Moves.{TakesCount}
use Rattle.sm_pick.specs.declared.search.Search.{Search}
use Rattle.sm_ends.specs.Ended.{input_most}
use Rattle.sm_pick.specs.Search.{Looks}

-- these bytes were taken so far, and the search knows them, unless they are too many
pub record IsReadUpTo (track time : ℕ) (old new : Option (List ℕ)) (search : Search) (total : ℕ) : Type 0 where
  pub bytes : List ℕ
  pub taken : Consumes old new bytes
  pub total_is : total ≡ length bytes
  pub within : total ≤ input_most + 1
  pub looks : total ≤ input_most → Looks search bytes
  pub track_is : search.track ≡ track
  pub time_is : search.time ≡ time

-- a piece more was taken
pub record IsPiece (old new : Option (List ℕ)) (total n : ℕ) (room : List ℕ) : Type 0 where
  pub taken : Consumes old new (take n room)
  pub inside : n ≤ length room
  pub within : total + n ≤ input_most + 1

pub piece_taken : (track time : ℕ) (old mid new : Option (List ℕ)) (s : Search) (total n : ℕ) (room : List ℕ) → IsReadUpTo track time old mid s total → IsPiece mid new total n room → TakesCount old new (total + n)
piece_taken track time old mid new s total n room h p =
    let len : length (h.bytes ++ take n room) ≡ total + n = omega (arith, length-append h.bytes (take n room), length-take-le n room p.inside, h.total_is) in
    (h.bytes ++ take n room, Consumes-trans old mid new h.bytes (take n room) h.taken p.taken, len)

-- and the search took it
pub read_on : (track time : ℕ) (old mid new : Option (List ℕ)) (s s' : Search) (total n : ℕ) (room : List ℕ) → IsReadUpTo track time old mid s total → IsPiece mid new total n room
    → total ≤ input_most → ((b : List ℕ) → Looks s b → Looks s' (b ++ take n room)) → s'.track ≡ s.track → s'.time ≡ s.time → IsReadUpTo track time old new s' (total + n)
unfolding piece_taken
read_on track time old mid new s s' total n room h p few looks e f =
    let all = piece_taken track time old mid new s total n room h p in
    record {
      bytes = all.0;
      taken = all.1;
      total_is = sym all.2;
      within = p.within;
      looks = λ _. looks h.bytes (h.looks few);
      track_is = e ∙ h.track_is;
      time_is = f ∙ h.time_is;
    }

-- or the bytes are too many
pub read_over : (track time : ℕ) (old mid new : Option (List ℕ)) (s : Search) (total n : ℕ) (room : List ℕ) → IsReadUpTo track time old mid s total → IsPiece mid new total n room
    → input_most < total + n → IsReadUpTo track time old new s (total + n)
read_over track time old mid new s total n room h p many =
    let all = piece_taken track time old mid new s total n room h p in
    record {
      bytes = all.0;
      taken = all.1;
      total_is = sym all.2;
      within = p.within;
      looks = λ few. absurd (omega arith);
      track_is = h.track_is;
      time_is = h.time_is;
    }
