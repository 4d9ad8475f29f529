-- An image has one list of bodies, or one place that shows that it is no store.
use Rattle.std.proofs.Common.{◌≡◌, ◌⊎◌, inl, inr, ℕ, ◌+◌, ◌≤◌, ◌<◌, List, [], ◌∷◌, length, refl, sym, ◌∙◌, ap, subst, arith}
use Rattle.sm_site.specs.Image.{Image, bytes_of}
use Rattle.sm_gatelog.specs.Files.{HasLog, IsFresh, NotALog}
use Rattle.sm_seglog.specs.Stores.{joined, LogsFrom, HasStore, NotAStore}

-- what is known of one file
pub record OfAFile : Type 0 where
  pub one_list : (xs ys : List (List ℕ)) (bytes : List ℕ) → HasLog xs bytes → HasLog ys bytes → xs ≡ ys
  pub not_fresh : (xs : List (List ℕ)) (bytes : List ℕ) → HasLog xs bytes → IsFresh bytes → ⊥
  pub no_fault : (xs : List (List ℕ)) (at : ℕ) (bytes : List ℕ) → HasLog xs bytes → NotALog at bytes → ⊥
  pub fault_not_fresh : (at : ℕ) (bytes : List ℕ) → NotALog at bytes → IsFresh bytes → ⊥
  pub one_place : (m n : ℕ) (bytes : List ℕ) → NotALog m bytes → NotALog n bytes → m ≡ n

-- the file of this number shows that the image is no store, and all files before it are logs
abbrev FaultIn : ℕ → ℕ → Image → Type 0
FaultIn at n c = NotALog at (bytes_of c n) ⊎ ((at ≡ 0) × IsFresh (bytes_of c n) × ((file : ℕ) × (n < file) × (file < 1024) × (IsFresh (bytes_of c file) → ⊥)))

abbrev FreshBehind : ℕ → Image → Type 0
FreshBehind n c = (file : ℕ) → n ≤ file → file < 1024 → IsFresh (bytes_of c file)

module _ (law : OfAFile) (c : Image) where
  log_or_fault : (bodies : List (List ℕ)) (at n : ℕ) → HasLog bodies (bytes_of c n) → FaultIn at n c → ⊥
  log_or_fault bodies at n has (inl bad) = law.no_fault bodies at (bytes_of c n) has bad
  log_or_fault bodies at n has (inr (zero, fresh, other)) = law.not_fresh bodies (bytes_of c n) has fresh

  fresh_or_fault : (at n : ℕ) → n < 1024 → FreshBehind n c → FaultIn at n c → ⊥
  fresh_or_fault at n few fresh (inl bad) = law.fault_not_fresh at (bytes_of c n) bad (fresh n (omega arith) few)
  fresh_or_fault at n few fresh (inr (zero, first, (file, above, below, not))) = not (fresh file (omega (arith, above)) below)

  one_fault : (m n file : ℕ) → FaultIn m file c → FaultIn n file c → m ≡ n
  one_fault m n file (inl a) (inl b) = law.one_place m n (bytes_of c file) a b
  one_fault m n file (inl a) (inr (zero, fresh, other)) = absurd (law.fault_not_fresh m (bytes_of c file) a fresh)
  one_fault m n file (inr (zero, fresh, other)) (inl b) = absurd (law.fault_not_fresh n (bytes_of c file) b fresh)
  one_fault m n file (inr a) (inr b) = a.0 ∙ sym b.0

  one_cut_from : (file m n : ℕ) (xs ys : List (List (List ℕ))) → m ≡ file + length xs → n ≡ file + length ys → m ≤ 1024 → n ≤ 1024 → LogsFrom file xs c
      → LogsFrom file ys c → FreshBehind m c → FreshBehind n c → xs ≡ ys
  one_cut_from file m n [] [] at_m at_n few_m few_n a b behind_a behind_b = refl
  one_cut_from file m n [] (y ∷ ys) at_m at_n few_m few_n a (has, b) behind_a behind_b = absurd (law.not_fresh y (bytes_of c file) has (behind_a file (omega (arith, at_m)) (omega (arith, at_n, few_n))))
  one_cut_from file m n (x ∷ xs) [] at_m at_n few_m few_n (has, a) b behind_a behind_b = absurd (law.not_fresh x (bytes_of c file) has (behind_b file (omega (arith, at_n)) (omega (arith, at_m, few_m))))
  one_cut_from file m n (x ∷ xs) (y ∷ ys) at_m at_n few_m few_n (has_x, a) (has_y, b) behind_a behind_b =
      ap (λ (p : List (List ℕ)). p ∷ xs) (law.one_list x y (bytes_of c file) has_x has_y)
      ∙ ap (λ (ps : List (List (List ℕ))). y ∷ ps) (one_cut_from (file + 1) m n xs ys (omega (arith, at_m)) (omega (arith, at_n)) few_m few_n a b behind_a behind_b)

  no_fault_from : (at file m n : ℕ) (xs ys : List (List (List ℕ))) → m ≡ file + length xs → n ≡ file + length ys → n < 1024 → LogsFrom file xs c → LogsFrom file ys c → FreshBehind m c → FaultIn at n c → ⊥
  no_fault_from at file m n [] [] at_m at_n few a b behind fault = let same : n ≡ m = omega (arith, at_m, at_n) in fresh_or_fault at m (omega (arith, same, few)) behind (subst (λ (k : ℕ). FaultIn at k c) same fault)
  no_fault_from at file m n [] (y ∷ ys) at_m at_n few a (has, b) behind fault = law.not_fresh y (bytes_of c file) has (behind file (omega (arith, at_m)) (omega (arith, at_n, few)))
  no_fault_from at file m n (x ∷ xs) [] at_m at_n few (has, a) b behind fault = let same : n ≡ file = omega (arith, at_n) in log_or_fault x at file has (subst (λ (k : ℕ). FaultIn at k c) same fault)
  no_fault_from at file m n (x ∷ xs) (y ∷ ys) at_m at_n few (has_x, a) (has_y, b) behind fault = no_fault_from at (file + 1) m n xs ys (omega (arith, at_m)) (omega (arith, at_n)) few a b behind fault

  one_place_from : (p q file m n : ℕ) (xs ys : List (List (List ℕ))) → m ≡ file + length xs → n ≡ file + length ys → LogsFrom file xs c → LogsFrom file ys c → FaultIn p m c → FaultIn q n c → p ≡ q
  one_place_from p q file m n [] [] at_m at_n a b fault_p fault_q = let same : n ≡ m = omega (arith, at_m, at_n) in one_fault p q m fault_p (subst (λ (k : ℕ). FaultIn q k c) same fault_q)
  one_place_from p q file m n [] (y ∷ ys) at_m at_n a (has, b) fault_p fault_q = let same : m ≡ file = omega (arith, at_m) in absurd (log_or_fault y p file has (subst (λ (k : ℕ). FaultIn p k c) same fault_p))
  one_place_from p q file m n (x ∷ xs) [] at_m at_n (has, a) b fault_p fault_q = let same : n ≡ file = omega (arith, at_n) in absurd (log_or_fault x q file has (subst (λ (k : ℕ). FaultIn q k c) same fault_q))
  one_place_from p q file m n (x ∷ xs) (y ∷ ys) at_m at_n (has_x, a) (has_y, b) fault_p fault_q = one_place_from p q (file + 1) m n xs ys (omega (arith, at_m)) (omega (arith, at_n)) a b fault_p fault_q

pub one_cut : OfAFile → (xs ys : List (List ℕ)) (c : Image) (a : HasStore xs c) (b : HasStore ys c) → a.parts ≡ b.parts
one_cut law xs ys c a b = one_cut_from law c 0 (length a.parts) (length b.parts) a.parts b.parts (omega arith) (omega arith) a.few b.few a.logs b.logs a.rest b.rest

pub one_list : OfAFile → (xs ys : List (List ℕ)) (c : Image) → HasStore xs c → HasStore ys c → xs ≡ ys
one_list law xs ys c a b = a.bodies_are ∙ ap joined (one_cut law xs ys c a b) ∙ sym b.bodies_are

pub no_fault : OfAFile → (xs : List (List ℕ)) (at : ℕ) (c : Image) → HasStore xs c → NotAStore at c → ⊥
no_fault law xs at c a bad = no_fault_from law c at 0 (length a.parts) (length bad.parts) a.parts bad.parts (omega arith) (omega arith) bad.few a.logs bad.logs a.rest bad.fault

pub one_place : OfAFile → (m n : ℕ) (c : Image) → NotAStore m c → NotAStore n c → m ≡ n
one_place law m n c a b = one_place_from law c m n 0 (length a.parts) (length b.parts) a.parts b.parts (omega arith) (omega arith) a.logs b.logs a.fault b.fault
