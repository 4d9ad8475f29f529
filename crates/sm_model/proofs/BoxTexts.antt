-- The text of a box, whatever bytes follow, is read as the box; and a whole box in front is a box's text.
use Rattle.std.proofs.Common.{◌≡◌, ◌≤◌, ◌+◌, ◌-◌, ℕ, Bool, true, false, cond, eqb, List, [], ◌++◌, length, take, drop, refl, sym, ap, subst, ◌∙◌, append_assoc, inl, inr, arith}
use Rattle.std.specs.Int.{w32, w64, from_be_bytes}
use Rattle.std.proofs.lemmas.Bool.{eqb-true, ne_eqb}
use Rattle.std.proofs.lemmas.List.{length-append, length-drop, length-take-le, take-append-drop, take_at, take-take, take_all, drop_at, drop-drop, drop-take, append-nil}
use Rattle.sm_model.specs.Numbers.{number32_at, number64_at}
use Rattle.sm_model.specs.Boxes.{Box, Is32, Is64, IsShortText, IsLongText, IsBoxText, IsOneBox, head_len, box_len, box_of, starts_whole}
use Rattle.sm_model.proofs.BoxLemmas.{lengths, is_whole}

-- dropping past a front
pub drop_past : (xs rest : List ℕ) (i j : ℕ) → length xs + j ≡ i → drop i (xs ++ rest) ≡ drop j rest
drop_past xs rest i j e =
    ap (λ (k : ℕ). drop k (xs ++ rest)) (sym e) ∙ sym (drop-drop j (length xs) (xs ++ rest)) ∙ ap (drop j) (drop_at xs rest (length xs) refl)

-- ---- a text in front

number_front : (field rest : List ℕ) (n : ℕ) → Is32 field n → number32_at 0 (field ++ rest) ≡ n
unfolding number32_at
number_front field rest n is = ap (from_be_bytes w32) (take_at field rest 4 is.0) ∙ is.1

wide_front : (field kind wide rest : List ℕ) (n : ℕ) → length field ≡ 4 → length kind ≡ 4 → Is64 wide n → number64_at 8 (field ++ (kind ++ (wide ++ rest))) ≡ n
unfolding number64_at
wide_front field kind wide rest n f k is =
    ap (λ (b : List ℕ). from_be_bytes w64 (take 8 b)) (drop_past field (kind ++ (wide ++ rest)) 8 4 (omega arith) ∙ drop_at kind (wide ++ rest) 4 k)
    ∙ ap (from_be_bytes w64) (take_at wide rest 8 is.0) ∙ is.1

-- the parts of a box in front of a rest: the 64-bit size is left out or stands behind the kind
pub record AreParts (b field kind wide body rest : List ℕ) (size : ℕ) : Type 0 where
  pub flat : b ≡ field ++ (kind ++ (wide ++ (body ++ rest)))
  pub field_is : length field ≡ 4
  pub kind_is : length kind ≡ 4
  pub counts : size ≡ 8 + length wide + length body
  pub head : head_len b ≡ 8 + length wide
  pub size_is : box_len b ≡ size

-- a box is read in front, and a rest stands behind it
pub record IsInFront (b rest : List ℕ) (x : Box) : Type 0 where
  pub whole : starts_whole b ≡ true
  pub box_is : box_of b ≡ x
  pub behind : drop (box_len b) b ≡ rest

parts_len : (b field kind wide body rest : List ℕ) (size : ℕ) → AreParts b field kind wide body rest size → length b ≡ size + length rest
parts_len b field kind wide body rest size p =
    omega (
      arith,
      ap length p.flat,
      p.field_is,
      p.kind_is,
      p.counts,
      length-append field (kind ++ (wide ++ (body ++ rest))),
      length-append kind (wide ++ (body ++ rest)),
      length-append wide (body ++ rest),
      length-append body rest,
    )

past_parts : (b field kind wide body rest : List ℕ) (size n m : ℕ) → AreParts b field kind wide body rest size → n ≡ 8 + length wide + m → drop n b ≡ drop m (body ++ rest)
past_parts b field kind wide body rest size n m p e =
    ap (drop n) p.flat
    ∙ drop_past field (kind ++ (wide ++ (body ++ rest))) n (4 + (length wide + m)) (omega (arith, p.field_is))
    ∙ drop_past kind (wide ++ (body ++ rest)) (4 + (length wide + m)) (length wide + m) (omega (arith, p.kind_is))
    ∙ drop_past wide (body ++ rest) (length wide + m) m refl

pub in_front : (b field kind wide body rest : List ℕ) (size : ℕ) → AreParts b field kind wide body rest size
    → IsInFront b rest (record { kind = kind; head = 8 + length wide; size = size; body = body })
unfolding box_of
in_front b field kind wide body rest size p =
    let n = parts_len b field kind wide body rest size p in
    let k : take 4 (drop 4 b) ≡ kind =
    ap (λ (c : List ℕ). take 4 (drop 4 c)) p.flat
    ∙ ap (take 4) (drop_at field (kind ++ (wide ++ (body ++ rest))) 4 p.field_is) ∙ take_at kind (wide ++ (body ++ rest)) 4 p.kind_is in
    let y : take (box_len b - head_len b) (drop (head_len b) b) ≡ body =
    ap (λ (i : ℕ). take (i - head_len b) (drop (head_len b) b)) p.size_is
    ∙ ap (λ (i : ℕ). take (size - i) (drop i b)) p.head
    ∙ ap (take (size - (8 + length wide))) (past_parts b field kind wide body rest size (8 + length wide) 0 p (omega arith))
    ∙ take_at body rest (size - (8 + length wide)) (omega (arith, p.counts)) in
    let h : head_len b ≡ 8 + length wide = p.head in
    let s : box_len b ≡ size = p.size_is in
    record {
      whole = is_whole b (record { eight = omega (arith, n, p.counts); head = omega (arith, p.head, p.size_is, p.counts); size = omega (arith, n, p.size_is) });
      box_is = cc;
      behind =
          ap (λ (i : ℕ). drop i b) p.size_is
          ∙ past_parts b field kind wide body rest size size (length body) p (omega (arith, p.counts))
          ∙ drop_at body rest (length body) refl;
    }

-- the text of a box is in front of whatever follows
short_parts : (text rest : List ℕ) (x : Box) (t : IsShortText text x) → AreParts (text ++ rest) t.field x.kind [] x.body rest x.size
unfolding head_len box_len
short_parts text rest x t =
    let flat : text ++ rest ≡ t.field ++ (x.kind ++ (x.body ++ rest)) = ap (λ (b : List ℕ). b ++ rest) t.joined ∙ simp append_assoc in
    let n : number32_at 0 (text ++ rest) ≡ x.size = ap (number32_at 0) flat ∙ number_front t.field (x.kind ++ (x.body ++ rest)) x.size t.says in
    let other : eqb (number32_at 0 (text ++ rest)) 1 ≡ false = ne_eqb _ _ (λ e. omega (arith, e, n, t.counts)) in
    record {
      flat = flat;
      field_is = t.says.0;
      kind_is = t.kind;
      counts = omega (arith, t.counts);
      head = ap (λ (v : Bool). cond v 16 8) other;
      size_is = ap (λ (v : Bool). cond v (number64_at 8 (text ++ rest)) (number32_at 0 (text ++ rest))) other ∙ n;
    }

long_parts : (text rest : List ℕ) (x : Box) (t : IsLongText text x) → AreParts (text ++ rest) t.field x.kind t.wide x.body rest x.size
unfolding head_len box_len
long_parts text rest x t =
    let flat : text ++ rest ≡ t.field ++ (x.kind ++ (t.wide ++ (x.body ++ rest))) = ap (λ (b : List ℕ). b ++ rest) t.joined ∙ simp append_assoc in
    let n : number32_at 0 (text ++ rest) ≡ 1 = ap (number32_at 0) flat ∙ number_front t.field (x.kind ++ (t.wide ++ (x.body ++ rest))) 1 t.marks in
    let m : number64_at 8 (text ++ rest) ≡ x.size =
    ap (number64_at 8) flat ∙ wide_front t.field x.kind t.wide (x.body ++ rest) x.size t.marks.0 t.kind t.says in
    let one : eqb (number32_at 0 (text ++ rest)) 1 ≡ true = ap (λ (i : ℕ). eqb i 1) n in
    record {
      flat = flat;
      field_is = t.marks.0;
      kind_is = t.kind;
      counts = omega (arith, t.counts, t.says.0);
      head = ap (λ (v : Bool). cond v 16 8) one ∙ omega (arith, t.says.0);
      size_is = ap (λ (v : Bool). cond v (number64_at 8 (text ++ rest)) (number32_at 0 (text ++ rest))) one ∙ m;
    }

with_head : (x : Box) (n : ℕ) → n ≡ x.head → record { kind = x.kind; head = n; size = x.size; body = x.body } ≡ x
with_head x n e = let made : ℕ → Box = λ h. record { kind = x.kind; head = h; size = x.size; body = x.body } in ap made e

pub text_front : (text rest : List ℕ) (x : Box) → IsBoxText text x → IsInFront (text ++ rest) rest x
text_front text rest x (inl t) =
    let f = in_front (text ++ rest) t.field x.kind [] x.body rest x.size (short_parts text rest x t) in
    record { whole = f.whole; box_is = f.box_is ∙ with_head x 8 (sym t.head); behind = f.behind }
text_front text rest x (inr t) =
    let f = in_front (text ++ rest) t.field x.kind t.wide x.body rest x.size (long_parts text rest x t) in
    record { whole = f.whole; box_is = f.box_is ∙ with_head x (8 + length t.wide) (omega (arith, t.head, t.says.0)); behind = f.behind }

-- ---- a whole box in front is a box's text

cut_in_two : (k m : ℕ) (b : List ℕ) → take (k + m) b ≡ take k b ++ take m (drop k b)
cut_in_two k m b =
    sym (take-append-drop k (take (k + m) b))
    ∙ ap (λ (xs : List ℕ). xs ++ drop k (take (k + m) b)) (take-take k (k + m) b (omega arith))
    ∙ ap (λ (xs : List ℕ). take k b ++ xs) (drop-take k m b)

cut_at : (k n : ℕ) (b : List ℕ) → k ≤ n → take n b ≡ take k b ++ take (n - k) (drop k b)
cut_at k n b le = ap (λ (i : ℕ). take i b) (omega arith) ∙ cut_in_two k (n - k) b

part_len : (k n : ℕ) (b : List ℕ) → k + n ≤ length b → length (take n (drop k b)) ≡ n
part_len k n b le = length-take-le n (drop k b) (omega (arith, length-drop k b))

abbrev read_as : List ℕ → ℕ → ℕ → Box
read_as b head size = record { kind = take 4 (drop 4 b); head = head; size = size; body = take (size - head) (drop head b) }

-- a front, the kind behind it, and what stands behind these
kind_behind : (n : ℕ) (b : List ℕ) → 8 ≤ n → take n b ≡ take 4 b ++ (take 4 (drop 4 b) ++ take (n - 8) (drop 8 b))
kind_behind n b le =
    let second : take (n - 4) (drop 4 b) ≡ take 4 (drop 4 b) ++ take (n - 8) (drop 8 b) =
    cut_at 4 (n - 4) (drop 4 b) (omega arith)
    ∙ ap (λ (i : ℕ). take 4 (drop 4 b) ++ take i (drop 4 (drop 4 b))) (omega arith)
    ∙ ap (λ (xs : List ℕ). take 4 (drop 4 b) ++ take (n - 8) xs) (drop-drop 4 4 b) in
    cut_at 4 n b (omega arith) ∙ ap (λ (xs : List ℕ). take 4 b ++ xs) second

short_read : (b : List ℕ) (n : ℕ) → 8 ≤ n → n ≤ length b → number32_at 0 b ≡ n → IsShortText (take n b) (read_as b 8 n)
unfolding number32_at
short_read b n ge le e = record {
  field = take 4 b;
  says = (part_len 0 4 b (omega arith), e);
  kind = part_len 4 4 b (omega arith);
  head = refl;
  counts = omega (arith, part_len 8 (n - 8) b (omega arith));
  joined = kind_behind n b ge;
}

wide_behind : (n : ℕ) (b : List ℕ) → 16 ≤ n → take (n - 8) (drop 8 b) ≡ take 8 (drop 8 b) ++ take (n - 16) (drop 16 b)
wide_behind n b ge =
    cut_at 8 (n - 8) (drop 8 b) (omega arith)
    ∙ ap (λ (i : ℕ). take 8 (drop 8 b) ++ take i (drop 8 (drop 8 b))) (omega arith)
    ∙ ap (λ (xs : List ℕ). take 8 (drop 8 b) ++ take (n - 16) xs) (drop-drop 8 8 b)

long_read : (b : List ℕ) (n : ℕ) → 16 ≤ n → n ≤ length b → number32_at 0 b ≡ 1 → number64_at 8 b ≡ n → IsLongText (take n b) (read_as b 16 n)
unfolding number32_at number64_at
long_read b n ge le one e = record {
  field = take 4 b;
  marks = (part_len 0 4 b (omega arith), one);
  wide = take 8 (drop 8 b);
  says = (part_len 8 8 b (omega arith), e);
  kind = part_len 4 4 b (omega arith);
  head = refl;
  counts = omega (arith, part_len 16 (n - 16) b (omega arith));
  joined = kind_behind n b (omega arith) ∙ ap (λ (xs : List ℕ). take 4 b ++ (take 4 (drop 4 b) ++ xs)) (wide_behind n b ge);
}

read_by : (b : List ℕ) (t : Bool) → eqb (number32_at 0 b) 1 ≡ t → cond t 16 8 ≤ cond t (number64_at 8 b) (number32_at 0 b) → cond t (number64_at 8 b) (number32_at 0 b) ≤ length b
    → IsBoxText (take (cond t (number64_at 8 b) (number32_at 0 b)) b) (read_as b (cond t 16 8) (cond t (number64_at 8 b) (number32_at 0 b)))
read_by b true e ge le = inr (long_read b (number64_at 8 b) ge le (eqb-true _ _ e) refl)
read_by b false e ge le = inl (short_read b (number32_at 0 b) ge le refl)

pub front_text : (b : List ℕ) → starts_whole b ≡ true → IsBoxText (take (box_len b) b) (box_of b)
unfolding box_of head_len box_len
front_text b w = let l = lengths b w in read_by b (eqb (number32_at 0 b) 1) refl l.head l.size

-- ---- one box and nothing else

pub one_from : (text : List ℕ) (x : Box) → IsBoxText text x → IsOneBox text × (box_of text ≡ x)
one_from text x t =
    let f : IsInFront text [] x = subst (λ (b : List ℕ). IsInFront b [] x) (append-nil text) (text_front text [] x t) in
    let none : length (drop (box_len text) text) ≡ 0 = ap length f.behind in
    (record { whole = f.whole; all = omega (arith, none, length-drop (box_len text) text, (lengths text f.whole).size) }, f.box_is)

pub one_to : (text : List ℕ) (x : Box) → IsOneBox text × (box_of text ≡ x) → IsBoxText text x
one_to text x h =
    let all : take (box_len text) text ≡ text = take_all (box_len text) text (omega (arith, h.0.all)) in
    subst (IsBoxText text) h.1 (subst (λ (b : List ℕ). IsBoxText b (box_of text)) all (front_text text h.0.whole))
