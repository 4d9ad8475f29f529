-- What is done with a box at the top of a push body, as soon as its head is there, and for a `uuid` box its user type.
use Rattle.std.specs.Prelude.{ℕ, ◌+◌, ◌-◌, Bool, ◌&&◌, List, [], ◌∷◌, length, take, drop, None, is_some, nat_lt, nat_le, nat_eq, ◌==◌, codes, if◌then◌else◌}
use Rattle.std.specs.Cmp.Lexicographic.{pointwise}
use Rattle.sm_model.specs.declared.cause.Cause.TheVariants as causes
use Rattle.sm_push.specs.declared.state.HeaderStage.{HeaderStage}
use Rattle.sm_push.specs.declared.state.HeaderStage.TheVariants.{Gathering, Complete}
use Rattle.sm_push.specs.declared.state.PushState.{PushState}
use Rattle.sm_push.specs.declared.state.TopBox.{TopBox}
use Rattle.sm_push.specs.declared.state.TopBox.TheVariants.{Moof, Mdat, Moov, Manifest, Other}
use Rattle.sm_push.specs.declared.state.BoxDecision.{BoxDecision}
use Rattle.sm_push.specs.declared.state.BoxDecision.TheVariants.{Wait, Refuse, Pass, Take}
use Rattle.sm_model.specs.Numbers.{number32_at}
use Rattle.sm_model.specs.Boxes.{head_len, box_len}

-- the live server manifest box: a5d40b30-e814-11dd-ba2f-0800200c9a66
abbrev pub manifest_type : List ℕ
manifest_type = 0xa5 ∷ 0xd4 ∷ 0x0b ∷ 0x30 ∷ 0xe8 ∷ 0x14 ∷ 0x11 ∷ 0xdd ∷ 0xba ∷ 0x2f ∷ 0x08 ∷ 0x00 ∷ 0x20 ∷ 0x0c ∷ 0x9a ∷ 0x66 ∷ []

abbrev pub is : List ℕ → List ℕ → Bool
is a b = pointwise nat_eq a b

abbrev pub kind_sort : List ℕ → TopBox
kind_sort kind = if is kind (codes "moof") then Moof else if is kind (codes "mdat") then Mdat else if is kind (codes "moov") then Moov else Other

abbrev pub user_sort : List ℕ → TopBox
user_sort user = if is user manifest_type then Manifest else Other

-- a box that is read, if what is counted of it is within the limit
abbrev pub within : TopBox → ℕ → ℕ → ℕ → BoxDecision
within sort size counted most = if nat_lt most counted then Refuse causes.BoxTooLarge else Take sort size

-- behind a moof: the limit on an mdat counts its body
abbrev pub behind_moof : TopBox → ℕ → ℕ → BoxDecision
behind_moof Mdat head size = within Mdat size (size - head) 67108864
behind_moof _ head size = Refuse causes.NoMdat

-- elsewhere: the limits count the whole box, and only the first moov and the first live server manifest box are read
abbrev pub at_top : Bool → HeaderStage → TopBox → ℕ → BoxDecision
at_top headerless (Complete tracks) Moof size = within Moof size size 2097152
at_top headerless (Gathering manifest moov) Moof size = if headerless then within Moof size size 2097152 else Refuse causes.NoHeader
at_top headerless (Gathering manifest None) Moov size = within Moov size size 1048576
at_top headerless (Gathering None moov) Manifest size = within Manifest size size 1048576
at_top headerless _ _ size = Pass size

abbrev pub ruling : PushState → TopBox → ℕ → ℕ → BoxDecision
ruling s sort head size = if is_some s.moof then behind_moof sort head size else at_top s.headerless s.stage sort size

-- a uuid box that has room for a user type waits for it
abbrev pub by_kind : PushState → List ℕ → List ℕ → ℕ → ℕ → BoxDecision
by_kind s b kind head size =
    if is kind (codes "uuid") && nat_le 16 (size - head)
    then (if nat_lt (length b) (head + 16) then Wait else ruling s (user_sort (take 16 (drop head b))) head size)
    else ruling s (kind_sort kind) head size

-- what is done with the box at the front of the bytes
unfoldable pub decision : PushState → List ℕ → BoxDecision
decision s b =
    if nat_lt (length b) 8 then Wait
    else if number32_at 0 b == 0 then Refuse causes.OpenEnded
    else if nat_lt (length b) (head_len b) then Wait
    else if nat_lt (box_len b) (head_len b) then Refuse causes.BadBox
    else by_kind s b (take 4 (drop 4 b)) (head_len b) (box_len b)
