-- What is decided on a head is what the rules say of it.
use Rattle.std.proofs.Common.{◌≡◌, ℕ, ◌+◌, ◌-◌, ◌<◌, ◌≤◌, Bool, true, false, cond, ltb, leb, eqb, List, length, take, drop, Option, Some, None, refl, ap, inl, inr, arith}
use Rattle.std.specs.Prelude.{not, ◌&&◌, ◌||◌, is_some, codes, Result, Ok}
use Rattle.std.proofs.lemmas.Bool.{cases_Bool, and_parts, ltb-true, ltb-false, leb-true, le-ltb, lt-ltb, le-leb}
use Rattle.std.proofs.lemmas.List.{take-take}
use Rattle.sm_model.specs.declared.cause.Cause.{Cause}
use Rattle.sm_model.specs.declared.cause.Cause.TheVariants.{OpenEnded, BadBox, BoxTooLarge}
use Rattle.sm_model.specs.declared.header.Header.{Header}
use Rattle.sm_model.specs.declared.header.HeaderTrack.{HeaderTrack}
use Rattle.sm_push.specs.declared.state.PushState.{PushState}
use Rattle.sm_push.specs.declared.state.HeaderStage.{HeaderStage}
use Rattle.sm_push.specs.declared.state.HeaderStage.TheVariants.{Gathering, Complete}
use Rattle.sm_push.specs.declared.state.TopBox.{TopBox}
use Rattle.sm_push.specs.declared.state.TopBox.TheVariants.{Moof, Mdat, Moov, Manifest, Other}
use Rattle.sm_push.specs.declared.state.BoxDecision.{BoxDecision}
use Rattle.sm_push.specs.declared.state.BoxDecision.TheVariants.{Wait, Refuse, Pass, Take}
use Rattle.sm_model.specs.Numbers.{number32_at}
use Rattle.sm_model.specs.Boxes.{head_len, box_len, box_of}
use Rattle.sm_model.specs.Frag.{first_cause}
use Rattle.sm_push.specs.PushHeads.{decision, by_kind, ruling, at_top, behind_moof, is}
use Rattle.sm_push.specs.Rules.{has_user, sort_of, has_head, first_manifest, first_moov, header_said, header_by_both, is_read, head_lines}

-- ---- the sort is that of the head

-- what is decided where the head is there
abbrev shown : PushState → List ℕ → BoxDecision
shown s b =
    cond (eqb (number32_at 0 b) 0) (Refuse OpenEnded)
    (cond (ltb (box_len b) (head_len b)) (Refuse BadBox) (ruling s (sort_of b) (head_len b) (box_len b)))

user_shown : (s : PushState) (b : List ℕ) → has_user b ≡ true → head_len b + 16 ≤ length b → by_kind s b (take 4 (drop 4 b)) (head_len b) (box_len b) ≡ ruling s (sort_of b) (head_len b) (box_len b)
unfolding sort_of box_of
user_shown s b user le =
    let room : 16 ≤ box_len b - head_len b = leb-true _ _ (and_parts (is (take 4 (drop 4 b)) (codes "uuid")) (leb 16 (box_len b - head_len b)) user).1 in
    let there : ltb (length b) (head_len b + 16) ≡ false = le-ltb _ _ le in
    let front : take 16 (take (box_len b - head_len b) (drop (head_len b) b)) ≡ take 16 (drop (head_len b) b) = take-take 16 (box_len b - head_len b) (drop (head_len b) b) room in
    rw (user, there, front) refl

other_shown : (s : PushState) (b : List ℕ) → has_user b ≡ false → by_kind s b (take 4 (drop 4 b)) (head_len b) (box_len b) ≡ ruling s (sort_of b) (head_len b) (box_len b)
unfolding sort_of box_of
other_shown s b other = rw other refl

user_waits : (s : PushState) (b : List ℕ) → has_user b ≡ true → length b < head_len b + 16 → by_kind s b (take 4 (drop 4 b)) (head_len b) (box_len b) ≡ Wait
unfolding box_of
user_waits s b user lt = let short : ltb (length b) (head_len b + 16) ≡ true = lt-ltb _ _ lt in rw (user, short) refl

or_true : (a b : Bool) → (a || b) ≡ true → a ≡ false → b ≡ true
or_true true b e f = absurd cc
or_true false b e f = e

not_true : (a : Bool) → not a ≡ false → a ≡ true
not_true true e = refl
not_true false e = absurd cc

or_false : (a b : Bool) → (a || b) ≡ false → (a ≡ false) × (b ≡ false)
or_false true b e = absurd cc
or_false false b e = (refl, e)

and_false : (a b : Bool) → (a && b) ≡ false → a ≡ true → b ≡ false
and_false true b e f = e
and_false false b e f = absurd cc

by_kind_shown : (s : PushState) (b : List ℕ) → (not (has_user b) || leb (head_len b + 16) (length b)) ≡ true → by_kind s b (take 4 (drop 4 b)) (head_len b) (box_len b) ≡ ruling s (sort_of b) (head_len b) (box_len b)
by_kind_shown s b there =
    elim (cases_Bool (has_user b)) [
      | inl user ↦ user_shown s b user (leb-true _ _ (or_true (not (has_user b)) (leb (head_len b + 16) (length b)) there (ap not user)))
      | inr other ↦ other_shown s b other
    ]

pub decided : (s : PushState) (b : List ℕ) → has_head b ≡ true → decision s b ≡ shown s b
unfolding decision
decided s b there =
    let p = and_parts (leb 8 (length b)) (eqb (number32_at 0 b) 0 || (leb (head_len b) (length b) && (not (has_user b) || leb (head_len b + 16) (length b)))) there in
    let eight : ltb (length b) 8 ≡ false = le-ltb _ _ (leb-true _ _ p.0) in
    rw eight (elim (cases_Bool (eqb (number32_at 0 b) 0)) [
      | inl endless ↦ rw endless refl
      | inr closed ↦
          let q = and_parts (leb (head_len b) (length b)) (not (has_user b) || leb (head_len b + 16) (length b))
          (or_true (eqb (number32_at 0 b) 0) (leb (head_len b) (length b) && (not (has_user b) || leb (head_len b + 16) (length b))) p.1 closed) in
          let long : ltb (length b) (head_len b) ≡ false = le-ltb _ _ (leb-true _ _ q.0) in
          rw (closed, long) (elim (cases_Bool (ltb (box_len b) (head_len b))) [
            | inl bad ↦ rw bad refl
            | inr good ↦ rw good (by_kind_shown s b q.1)
          ])
    ])

bad_has_no_user : (b : List ℕ) → has_user b ≡ true → ltb (box_len b) (head_len b) ≡ true → ⊥
unfolding box_of
bad_has_no_user b user bad =
    let room : 16 ≤ box_len b - head_len b = leb-true _ _ (and_parts (is (take 4 (drop 4 b)) (codes "uuid")) (leb 16 (box_len b - head_len b)) user).1 in
    omega (arith, room, ltb-true _ _ bad)

leb-false : (a b : ℕ) → leb a b ≡ false → b < a
leb-false a b e =
    elim (cases_Bool (ltb b a)) [
      | inl lt ↦ ltb-true _ _ lt
      | inr ge ↦ let no : leb a b ≡ true = le-leb _ _ (ltb-false _ _ ge) in absurd cc
    ]

pub undecided : (s : PushState) (b : List ℕ) → has_head b ≡ false → decision s b ≡ Wait
unfolding decision
undecided s b lacks =
    elim (cases_Bool (ltb (length b) 8)) [
      | inl short ↦ rw short refl
      | inr eight ↦
          let o = or_false (eqb (number32_at 0 b) 0) (leb (head_len b) (length b) && (not (has_user b) || leb (head_len b + 16) (length b)))
          (and_false (leb 8 (length b)) (eqb (number32_at 0 b) 0 || (leb (head_len b) (length b) && (not (has_user b) || leb (head_len b + 16) (length b)))) lacks (le-leb _ _ (ltb-false _ _ eight))) in
          let closed : eqb (number32_at 0 b) 0 ≡ false = o.0 in
          rw (eight, closed) (elim (cases_Bool (ltb (length b) (head_len b))) [
            | inl cut ↦ rw cut refl
            | inr long ↦
                let u = or_false (not (has_user b)) (leb (head_len b + 16) (length b)) (and_false (leb (head_len b) (length b)) (not (has_user b) || leb (head_len b + 16) (length b)) o.1 (le-leb _ _ (ltb-false _ _ long))) in
                let user : has_user b ≡ true = not_true (has_user b) u.0 in
                rw long (elim (cases_Bool (ltb (box_len b) (head_len b))) [
                  | inl bad ↦ absurd (bad_has_no_user b user bad)
                  | inr good ↦ rw good (user_waits s b user (leb-false _ _ u.1))
                ])
          ])
    ]

-- ---- the ruling is that of the lines

-- what is done with a box whose head shows this cause, or none
abbrev pub answer : Option Cause → Bool → TopBox → ℕ → BoxDecision
answer (Some cause) read sort size = Refuse cause
answer None true sort size = Take sort size
answer None false sort size = Pass size

limited : (t : Bool) (sort : TopBox) (size : ℕ) → cond t (Refuse BoxTooLarge) (Take sort size) ≡ answer (cond t (Some BoxTooLarge) None) true sort size
limited true sort size = refl
limited false sort size = refl

pub ruled_behind : (headerless : Bool) (before : List (List ℕ)) (sort : TopBox) (head size : ℕ)
    → behind_moof sort head size ≡ answer (first_cause (head_lines true headerless before sort head size)) true sort size
ruled_behind headerless before Mdat head size = limited (ltb 67108864 (size - head)) Mdat size
ruled_behind headerless before Moof head size = refl
ruled_behind headerless before Moov head size = refl
ruled_behind headerless before Manifest head size = refl
ruled_behind headerless before Other head size = refl

-- the stage is what the boxes before say of the header
abbrev pub StageIs : List (List ℕ) → HeaderStage → Type 0
StageIs before (Gathering manifest moov) = (first_manifest before ≡ manifest) × (first_moov before ≡ moov) × (header_said before ≡ None)
StageIs before (Complete tracks) = (h : Header) × (header_said before ≡ Some (Ok h)) × (h.tracks ≡ tracks)

pub both_there : (before : List (List ℕ)) (said : Result Header Cause) → header_said before ≡ Some said → (is_some (first_manifest before) ≡ true) × (is_some (first_moov before) ≡ true)
both_there before said e = by (first_manifest before) (first_moov before) e
  where
    by : (manifest moov : Option (List ℕ)) → header_by_both manifest moov ≡ Some said → (is_some manifest ≡ true) × (is_some moov ≡ true)
    by (Some manifest) (Some moov) e = (refl, refl)
    by (Some manifest) None e = absurd cc
    by None (Some moov) e = absurd cc
    by None None e = absurd cc

top_moof : (headerless : Bool) (before : List (List ℕ)) (manifest moov : Option (List ℕ)) (head size : ℕ) → header_said before ≡ None
    → at_top headerless (Gathering manifest moov) Moof size ≡ answer (first_cause (head_lines false headerless before Moof head size)) true Moof size
top_moof true before manifest moov head size none = rw none (limited (ltb 2097152 size) Moof size)
top_moof false before manifest moov head size none = rw none refl

ruled_gathering : (headerless : Bool) (before : List (List ℕ)) (manifest moov : Option (List ℕ)) (sort : TopBox) (head size : ℕ) → first_manifest before ≡ manifest → first_moov before ≡ moov → header_said before ≡ None
    → at_top headerless (Gathering manifest moov) sort size ≡ answer (first_cause (head_lines false headerless before sort head size)) (is_read before sort) sort size
ruled_gathering headerless before manifest moov Moof head size e f none = top_moof headerless before manifest moov head size none
ruled_gathering headerless before (Some manifest) (Some moov) Moov head size e f none = rw f refl
ruled_gathering headerless before None (Some moov) Moov head size e f none = rw f refl
ruled_gathering headerless before (Some manifest) None Moov head size e f none = rw f (limited (ltb 1048576 size) Moov size)
ruled_gathering headerless before None None Moov head size e f none = rw f (limited (ltb 1048576 size) Moov size)
ruled_gathering headerless before (Some manifest) (Some moov) Manifest head size e f none = rw e refl
ruled_gathering headerless before (Some manifest) None Manifest head size e f none = rw e refl
ruled_gathering headerless before None (Some moov) Manifest head size e f none = rw e (limited (ltb 1048576 size) Manifest size)
ruled_gathering headerless before None None Manifest head size e f none = rw e (limited (ltb 1048576 size) Manifest size)
ruled_gathering headerless before (Some manifest) (Some moov) Mdat head size e f none = refl
ruled_gathering headerless before (Some manifest) None Mdat head size e f none = refl
ruled_gathering headerless before None (Some moov) Mdat head size e f none = refl
ruled_gathering headerless before None None Mdat head size e f none = refl
ruled_gathering headerless before (Some manifest) (Some moov) Other head size e f none = refl
ruled_gathering headerless before (Some manifest) None Other head size e f none = refl
ruled_gathering headerless before None (Some moov) Other head size e f none = refl
ruled_gathering headerless before None None Other head size e f none = refl

ruled_complete : (headerless : Bool) (before : List (List ℕ)) (tracks : List HeaderTrack) (said : Result Header Cause) (sort : TopBox) (head size : ℕ) → header_said before ≡ Some said
    → at_top headerless (Complete tracks) sort size ≡ answer (first_cause (head_lines false headerless before sort head size)) (is_read before sort) sort size
ruled_complete headerless before tracks said Moof head size e = rw e (limited (ltb 2097152 size) Moof size)
ruled_complete headerless before tracks said Moov head size e = let both = (both_there before said e).1 in rw both refl
ruled_complete headerless before tracks said Manifest head size e = let both = (both_there before said e).0 in rw both refl
ruled_complete headerless before tracks said Mdat head size e = refl
ruled_complete headerless before tracks said Other head size e = refl

pub ruled_top : (headerless : Bool) (before : List (List ℕ)) (stage : HeaderStage) (sort : TopBox) (head size : ℕ) → StageIs before stage
    → at_top headerless stage sort size ≡ answer (first_cause (head_lines false headerless before sort head size)) (is_read before sort) sort size
ruled_top headerless before (Gathering manifest moov) sort head size is = ruled_gathering headerless before manifest moov sort head size is.0 is.1 is.2
ruled_top headerless before (Complete tracks) sort head size is = ruled_complete headerless before tracks (Ok is.0) sort head size is.1
