-- What has gone out and what is gathered, over several calls.
use Rattle.std.proofs.Common.{◌≡◌, ◌∙◌, ℕ, List, [], ◌++◌, length, take, drop, Option, refl, sym, ap, subst, append_assoc, append-nil}
use Rattle.std.specs.Io.KnownBytes.{Appends}
use Rattle.std.proofs.KnownBytes.{Appends-nil, Appends-trans}
use Rattle.std.proofs.Math.Seq.{take-append_seam}
use Rattle.std.proofs.lemmas.List.{take-append-drop}
use Rattle.sm_ends.specs.Moves.{AppendsFront}
use Rattle.sm_export.specs.Gathering.{Leaves, LeavesFront}

-- ---- one call

-- nothing went out
pub all_gathered : (a : Option (List ℕ)) (text g : List ℕ) → text ≡ g → Leaves a a text g
all_gathered a text g e = record { out = []; went = Appends-nil a; whole = e }

-- all that was gathered went out
pub all_out : (a b : Option (List ℕ)) (g h : List ℕ) → h ≡ [] → Appends a b g → Leaves a b (g ++ []) h
all_out a b g h none p = record { out = g; went = p; whole = ap (λ (l : List ℕ). g ++ l) (sym none) }

-- a front of what was gathered went out, and nothing is gathered
pub part_out : (a b : Option (List ℕ)) (g h xs : List ℕ) → h ≡ [] → AppendsFront a b g → LeavesFront a b (g ++ xs) h
part_out a b g h xs none p = record {
  front = take p.0 g;
  rest = drop p.0 g ++ xs;
  joined = ap (λ (l : List ℕ). l ++ xs) (sym (take-append-drop p.0 g)) ∙ append_assoc (take p.0 g) (drop p.0 g) xs;
  leaves = record { out = take p.0 g; went = p.1; whole = sym (append-nil (take p.0 g)) ∙ ap (λ (l : List ℕ). take p.0 g ++ l) (sym none) };
}

-- a text is a front of itself and more
pub front_of_more : (a b : Option (List ℕ)) (xs ys g : List ℕ) → Leaves a b xs g → LeavesFront a b (xs ++ ys) g
front_of_more a b xs ys g p = record { front = xs; rest = ys; joined = refl; leaves = p }

pub nothing_more : (a : Option (List ℕ)) (g xs : List ℕ) → LeavesFront a a (g ++ xs) g
nothing_more a g xs = front_of_more a a g xs g (all_gathered a g g refl)

pub front_of_all : (a b : Option (List ℕ)) (xs g : List ℕ) → Leaves a b xs g → LeavesFront a b xs g
front_of_all a b xs g p = record { front = xs; rest = []; joined = sym (append-nil xs); leaves = p }

-- a front of a text is one of it and more
pub front_of_longer : (a b : Option (List ℕ)) (xs ys g : List ℕ) → LeavesFront a b xs g → LeavesFront a b (xs ++ ys) g
front_of_longer a b xs ys g p = record {
  front = p.front;
  rest = p.rest ++ ys;
  joined = ap (λ (l : List ℕ). l ++ ys) p.joined ∙ append_assoc p.front p.rest ys;
  leaves = p.leaves;
}

-- ---- two calls

-- the second went on behind what the first left
behind : (xs ys out g out' h : List ℕ) → xs ≡ out ++ g → g ++ ys ≡ out' ++ h → xs ++ ys ≡ (out ++ out') ++ h
behind xs ys out g out' h e f = ap (λ (l : List ℕ). l ++ ys) e ∙ (append_assoc out g ys ∙ (ap (λ (l : List ℕ). out ++ l) f ∙ sym (append_assoc out out' h)))

pub leaves_more : (a b c : Option (List ℕ)) (xs ys g h : List ℕ) → Leaves a b xs g → Leaves b c (g ++ ys) h → Leaves a c (xs ++ ys) h
leaves_more a b c xs ys g h p q = record {
  out = p.out ++ q.out;
  went = Appends-trans a b c p.out q.out p.went q.went;
  whole = behind xs ys p.out g q.out h p.whole q.whole;
}

pub front_more : (a b c : Option (List ℕ)) (xs ys g h : List ℕ) → Leaves a b xs g → LeavesFront b c (g ++ ys) h → LeavesFront a c (xs ++ ys) h
front_more a b c xs ys g h p q = record {
  front = p.out ++ q.front;
  rest = q.rest;
  joined = behind xs ys p.out g q.front q.rest p.whole q.joined;
  leaves = record {
    out = p.out ++ q.leaves.out;
    went = Appends-trans a b c p.out q.leaves.out p.went q.leaves.went;
    whole = ap (λ (l : List ℕ). p.out ++ l) q.leaves.whole ∙ sym (append_assoc p.out q.leaves.out h);
  };
}

-- behind a front no more than what it left goes out
pub front_then_left : (a b c : Option (List ℕ)) (xs g h : List ℕ) → LeavesFront a b xs g → LeavesFront b c (g ++ []) h → LeavesFront a c xs h
front_then_left a b c xs g h p q =
    let front : LeavesFront a c (p.front ++ []) h = front_more a b c p.front [] g h p.leaves q in
    let alone : LeavesFront a c p.front h = subst (λ (l : List ℕ). LeavesFront a c l h) (append-nil p.front) front in
    subst (λ (l : List ℕ). LeavesFront a c l h) (sym p.joined) (front_of_longer a c p.front p.rest h alone)

-- ---- the sink alone

-- where nothing is gathered any more, all went out
pub all_went : (a b : Option (List ℕ)) (xs h : List ℕ) → h ≡ [] → Leaves a b (xs ++ []) h → Appends a b xs
all_went a b xs h none p =
    let same : p.out ≡ xs = sym (append-nil p.out) ∙ (ap (λ (l : List ℕ). p.out ++ l) (sym none) ∙ (sym p.whole ∙ append-nil xs)) in
    subst (λ (l : List ℕ). Appends a b l) same p.went

pub front_went : (a b : Option (List ℕ)) (xs h : List ℕ) → LeavesFront a b xs h → AppendsFront a b xs
front_went a b xs h p =
    let out : List ℕ = p.leaves.out in
    let parts : xs ≡ out ++ (h ++ p.rest) = p.joined ∙ (ap (λ (l : List ℕ). l ++ p.rest) p.leaves.whole ∙ append_assoc out h p.rest) in
    let took : out ≡ take (length out) xs = sym (ap (λ (l : List ℕ). take (length out) l) parts ∙ take-append_seam out (h ++ p.rest)) in
    (length out, subst (λ (l : List ℕ). Appends a b l) took p.leaves.went)

-- from nothing gathered to nothing gathered
pub all_sent : (a b c : Option (List ℕ)) (g xs h k : List ℕ) → g ≡ [] → Leaves a b (g ++ xs) h → k ≡ [] → Leaves b c (h ++ []) k → Appends a c xs
all_sent a b c g xs h k none p gone q = subst (λ (l : List ℕ). Appends a c (l ++ xs)) none (all_went a c (g ++ xs) k gone (leaves_more a b c (g ++ xs) [] h k p q))

pub front_sent : (a b c : Option (List ℕ)) (g xs h k : List ℕ) → g ≡ [] → LeavesFront a b (g ++ xs) h → LeavesFront b c (h ++ []) k → AppendsFront a c xs
front_sent a b c g xs h k none p q = subst (λ (l : List ℕ). AppendsFront a c (l ++ xs)) none (front_went a c (g ++ xs) k (front_then_left a b c (g ++ xs) h k p q))

-- ---- past what nothing is gathered before

direct_is : (h bytes : List ℕ) → h ≡ [] → h ++ bytes ≡ bytes ++ h
direct_is h bytes none = ap (λ (l : List ℕ). l ++ bytes) none ∙ (sym (append-nil bytes) ∙ ap (λ (l : List ℕ). bytes ++ l) (sym none))

pub direct : (a b : Option (List ℕ)) (h bytes : List ℕ) → h ≡ [] → Appends a b bytes → Leaves a b (h ++ bytes) h
direct a b h bytes none p = record { out = bytes; went = p; whole = direct_is h bytes none }

pub direct_front : (a b : Option (List ℕ)) (h bytes : List ℕ) → h ≡ [] → AppendsFront a b bytes → LeavesFront a b (h ++ bytes) h
direct_front a b h bytes none p = record {
  front = take p.0 bytes;
  rest = drop p.0 bytes;
  joined = ap (λ (l : List ℕ). l ++ bytes) none ∙ sym (take-append-drop p.0 bytes);
  leaves = record { out = take p.0 bytes; went = p.1; whole = sym (append-nil (take p.0 bytes)) ∙ ap (λ (l : List ℕ). take p.0 bytes ++ l) (sym none) };
}
