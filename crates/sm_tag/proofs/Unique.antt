-- A text has one reading.
use Rattle.std.proofs.Common.{◌≡◌, ℕ, Bool, true, false, eqb, List, [], ◌∷◌, Option, Some, None, Result, Ok, Err, refl, ap, sym, ◌∙◌}
use Rattle.std.specs.Prelude.{MatchBool}
use Rattle.sm_model.specs.declared.tag.Attribute.{Attribute}
use Rattle.sm_model.specs.declared.tag.Tag.{Tag}
use Rattle.sm_tag.specs.declared.grammar.Markup.{Markup}
use Rattle.sm_tag.specs.declared.grammar.Markup.TheVariants.{Skipped}
use Rattle.sm_tag.specs.declared.grammar.Lead.{Lead}
use Rattle.sm_tag.specs.declared.grammar.Lead.TheVariants as lead
use Rattle.sm_tag.specs.TagParts.{Stop, short, wrong, piece_at, opening_at, mark_at, name_at, Values, refused, closed, goes_on, AttributeAt, unopened, opened, Tails, unmarked, ended, broken, twice, another}
use Rattle.sm_tag.specs.TagMarkup.{Starts, unnamed, named, Markups, lead_at}
use Rattle.sm_tag.specs.Tags as tags
use Rattle.sm_tag.specs.Tags.{Left, Founds, bare, lost, stray, marked, skipped, Next, gives, Runs, ends, follows}

abbrev pub ok_or : {A : Type 0} → A → Result A Stop → A
ok_or d (Ok x) = x
ok_or d (Err e) = d

-- two facts on what one step gives
pub pairs : {A B : Type 0} {a c : A} {b d : B} (r : Result (A × B) Stop) → r ≡ Ok (a, b) → r ≡ Ok (c, d) → (a ≡ c) × (b ≡ d)
pairs {A = A} {B = B} {a = a} {b = b} r e f =
    let same = ap (ok_or (a, b)) (sym e ∙ f) in
    (ap (λ (p : A × B). p.0) same, ap (λ (p : A × B). p.1) same)

pub triples : {A B C : Type 0} {a x : A} {b y : B} {c z : C} (r : Result (A × B × C) Stop) → r ≡ Ok (a, b, c) → r ≡ Ok (x, y, z) → (a ≡ x) × (b ≡ y) × (c ≡ z)
triples {A = A} {B = B} {C = C} {a = a} {b = b} {c = c} r e f =
    let same = ap (ok_or (a, b, c)) (sym e ∙ f) in
    (ap (λ (p : A × B × C). p.0) same, ap (λ (p : A × B × C). p.1) same, ap (λ (p : A × B × C). p.2) same)

Values-unique : (q : ℕ) {text bytes : List ℕ} {r s : Result (List ℕ × List ℕ) Stop} → Values q text bytes r → Values q text bytes s → r ≡ s
Values-unique q (refused e) (refused f) = cc
Values-unique q (refused e) (closed f) = cc
Values-unique q (refused e) (goes_on f k) = cc
Values-unique q (closed e) (refused f) = cc
Values-unique q {bytes = bytes} (closed e) (closed f) =
    let same = triples (piece_at q bytes) e f in
    rw (same.1, same.2) refl
Values-unique q {bytes = bytes} (closed e) (goes_on f k) = let same = (triples (piece_at q bytes) e f).0 in cc
Values-unique q (goes_on e h) (refused f) = cc
Values-unique q {bytes = bytes} (goes_on e h) (closed f) = let same = (triples (piece_at q bytes) e f).0 in cc
Values-unique q {bytes = bytes} (goes_on e h) (goes_on f k) =
    let same = triples (piece_at q bytes) f e in
    Values-unique q h (rw (same.1, same.2) at k)

AttributeAt-unique : {bytes : List ℕ} {r s : Result (Attribute × List ℕ) Stop} → AttributeAt bytes r → AttributeAt bytes s → r ≡ s
AttributeAt-unique (unopened e) (unopened f) = cc
AttributeAt-unique (unopened e) (opened f v) = cc
AttributeAt-unique (opened e u) (unopened f) = cc
AttributeAt-unique {bytes = bytes} (opened {name = name} {q = q} e u) (opened f v) =
    let same = triples (opening_at bytes) f e in
    let one = Values-unique q u (rw (same.1, same.2) at v) in
    rw (same.0, one) refl

Tails-unique : {seen : List Attribute} {bytes : List ℕ} {r s : Result (List Attribute × Bool × List ℕ) Stop} → Tails seen bytes r → Tails seen bytes s → r ≡ s
Tails-unique (unmarked e) (unmarked f) = cc
Tails-unique (unmarked e) (ended f) = cc
Tails-unique (unmarked e) (broken f b) = cc
Tails-unique (unmarked e) (twice f b t) = cc
Tails-unique (unmarked e) (another f b t k) = cc
Tails-unique (ended e) (unmarked f) = cc
Tails-unique {bytes = bytes} (ended e) (ended f) =
    let same = pairs (mark_at bytes) e f in
    let mark = same.0 in
    let rest = same.1 in
    cc
Tails-unique {bytes = bytes} (ended e) (broken f b) = let mark = (pairs (mark_at bytes) e f).0 in cc
Tails-unique {bytes = bytes} (ended e) (twice f b t) = let mark = (pairs (mark_at bytes) e f).0 in cc
Tails-unique {bytes = bytes} (ended e) (another f b t k) = let mark = (pairs (mark_at bytes) e f).0 in cc
Tails-unique (broken e a) (unmarked f) = cc
Tails-unique {bytes = bytes} (broken e a) (ended f) = let mark = (pairs (mark_at bytes) e f).0 in cc
Tails-unique {bytes = bytes} (broken e a) (broken f b) =
    let rest = (pairs (mark_at bytes) f e).1 in
    let one = AttributeAt-unique a (rw rest at b) in
    cc
Tails-unique {bytes = bytes} (broken e a) (twice f b t) =
    let rest = (pairs (mark_at bytes) f e).1 in
    let one = AttributeAt-unique a (rw rest at b) in
    cc
Tails-unique {bytes = bytes} (broken e a) (another f b t k) =
    let rest = (pairs (mark_at bytes) f e).1 in
    let one = AttributeAt-unique a (rw rest at b) in
    cc
Tails-unique (twice e a s) (unmarked f) = cc
Tails-unique {bytes = bytes} (twice e a s) (ended f) = let mark = (pairs (mark_at bytes) e f).0 in cc
Tails-unique {bytes = bytes} (twice e a s) (broken f b) =
    let rest = (pairs (mark_at bytes) f e).1 in
    let one = AttributeAt-unique a (rw rest at b) in
    cc
Tails-unique (twice e a s) (twice f b t) = refl
Tails-unique {bytes = bytes} (twice {a = x} e a s) (another {a = y} f b t k) =
    let rest = (pairs (mark_at bytes) f e).1 in
    let one = AttributeAt-unique a (rw rest at b) in
    let same : x ≡ y = (pairs _ refl one).0 in
    cc
Tails-unique (another e a s h) (unmarked f) = cc
Tails-unique {bytes = bytes} (another e a s h) (ended f) = let mark = (pairs (mark_at bytes) e f).0 in cc
Tails-unique {bytes = bytes} (another e a s h) (broken f b) =
    let rest = (pairs (mark_at bytes) f e).1 in
    let one = AttributeAt-unique a (rw rest at b) in
    cc
Tails-unique {bytes = bytes} (another {a = x} e a s h) (twice {a = y} f b t) =
    let rest = (pairs (mark_at bytes) f e).1 in
    let one = AttributeAt-unique a (rw rest at b) in
    let same : x ≡ y = (pairs _ refl one).0 in
    cc
Tails-unique {bytes = bytes} (another e a s h) (another f b t k) =
    let rest = (pairs (mark_at bytes) f e).1 in
    let one = pairs _ refl (AttributeAt-unique (rw rest at b) a) in
    Tails-unique h (rw (one.0, one.1) at k)

Starts-unique : {bytes : List ℕ} {r s : Result (Markup × List ℕ) Stop} → Starts bytes r → Starts bytes s → r ≡ s
Starts-unique (unnamed e) (unnamed f) = cc
Starts-unique (unnamed e) (named f k) = cc
Starts-unique (named e h) (unnamed f) = cc
Starts-unique {bytes = bytes} (named e h) (named f k) =
    let same = pairs (name_at bytes) f e in
    let one = Tails-unique h (rw same.1 at k) in
    rw (same.0, one) refl

either : (b : Bool) (P Q R S : Type 0) (E : Type 0) → MatchBool b P Q → MatchBool b R S → (P → R → E) → (Q → S → E) → E
either true P Q R S E h k left right = left h k
either false P Q R S E h k left right = right h k

pub Markups-unique : (bytes : List ℕ) (r s : Result (Markup × List ℕ) Stop) → Markups bytes r → Markups bytes s → r ≡ s
Markups-unique [] r s h k = h ∙ sym k
Markups-unique (c ∷ cs) r s h k =
    either (eqb c 63) _ _ _ _ _ h k (λ a b. a ∙ sym b) (λ h1 k1.
    either (eqb c 33) _ _ _ _ _ h1 k1 (λ a b. a ∙ sym b) (λ h2 k2.
    either (eqb c 47) _ _ _ _ _ h2 k2 (λ a b. a ∙ sym b) (λ a b. Starts-unique a b)))

-- two facts on what stands before a tag
leads : {l m : Lead} {a b : ℕ} {x y : List ℕ} (p : Lead × ℕ × List ℕ) → p ≡ (l, a, x) → p ≡ (m, b, y) → (l ≡ m) × (a ≡ b) × (x ≡ y)
leads p e f =
    let same = sym e ∙ f in
    (ap (λ (q : Lead × ℕ × List ℕ). q.0) same, ap (λ (q : Lead × ℕ × List ℕ). q.1) same, ap (λ (q : Lead × ℕ × List ℕ). q.2) same)

-- two readings of what begins at the next `<`
same_markup : (inside : Bool) (bytes : List ℕ) {rest more : List ℕ} {left right : ℕ} (r s : Result (Markup × List ℕ) Stop) → lead_at inside bytes ≡ (lead.Tag, left, rest)
    → Markups rest r → lead_at inside bytes ≡ (lead.Tag, right, more) → Markups more s → r ≡ s
same_markup inside bytes {rest = rest} r s e m f n =
    let same = (leads (lead_at inside bytes) f e).2 in
    Markups-unique rest r s m (rw same at n)

Founds-unique : (inside : Bool) {bytes : List ℕ} {f g : Lead × Markup × ℕ × List ℕ} → Founds inside bytes f → Founds inside bytes g → f ≡ g
Founds-unique inside {bytes = bytes} (bare e a) (bare f b) =
    let same = leads (lead_at inside bytes) e f in
    rw (same.0, same.1, same.2) refl
Founds-unique inside {bytes = bytes} (bare e a) (lost f n) = absurd (a (leads (lead_at inside bytes) e f).0)
Founds-unique inside {bytes = bytes} (bare e a) (stray f n) = absurd (a (leads (lead_at inside bytes) e f).0)
Founds-unique inside {bytes = bytes} (bare e a) (marked {more = z} {m = w} f n b) = absurd (a (leads (lead_at inside bytes) e f).0)
Founds-unique inside {bytes = bytes} (bare e a) (skipped {more = z} f n k) = absurd (a (leads (lead_at inside bytes) e f).0)
Founds-unique inside {bytes = bytes} (lost e m) (bare f b) = absurd (b (leads (lead_at inside bytes) f e).0)
Founds-unique inside {bytes = bytes} (lost e m) (lost f n) = refl
Founds-unique inside {bytes = bytes} (lost e m) (stray f n) = cc (same_markup inside bytes (Err short) (Err wrong) e m f n)
Founds-unique inside {bytes = bytes} (lost e m) (marked {more = z} {m = w} f n b) = cc (same_markup inside bytes (Err short) (Ok (w, z)) e m f n)
Founds-unique inside {bytes = bytes} (lost e m) (skipped {more = z} f n k) = cc (same_markup inside bytes (Err short) (Ok (Skipped, z)) e m f n)
Founds-unique inside {bytes = bytes} (stray e m) (bare f b) = absurd (b (leads (lead_at inside bytes) f e).0)
Founds-unique inside {bytes = bytes} (stray e m) (lost f n) = cc (same_markup inside bytes (Err wrong) (Err short) e m f n)
Founds-unique inside {bytes = bytes} (stray e m) (stray f n) =
    let same = leads (lead_at inside bytes) e f in
    rw same.1 refl
Founds-unique inside {bytes = bytes} (stray e m) (marked {more = z} {m = w} f n b) = cc (same_markup inside bytes (Err wrong) (Ok (w, z)) e m f n)
Founds-unique inside {bytes = bytes} (stray e m) (skipped {more = z} f n k) = cc (same_markup inside bytes (Err wrong) (Ok (Skipped, z)) e m f n)
Founds-unique inside {bytes = bytes} (marked {more = x} {m = y} e m a) (bare f b) = absurd (b (leads (lead_at inside bytes) f e).0)
Founds-unique inside {bytes = bytes} (marked {more = x} {m = y} e m a) (lost f n) = cc (same_markup inside bytes (Ok (y, x)) (Err short) e m f n)
Founds-unique inside {bytes = bytes} (marked {more = x} {m = y} e m a) (stray f n) = cc (same_markup inside bytes (Ok (y, x)) (Err wrong) e m f n)
Founds-unique inside {bytes = bytes} (marked {more = x} {m = y} e m a) (marked {more = z} {m = w} f n b) =
    let same = leads (lead_at inside bytes) f e in
    let one = pairs {a = y} {c = w} {b = x} {d = z} (Ok (y, x)) refl (same_markup inside bytes (Ok (y, x)) (Ok (w, z)) e m f n) in
    rw (one.0, one.1, same.1) refl
Founds-unique inside {bytes = bytes} (marked {more = x} {m = y} e m a) (skipped {more = z} f n k) =
    let one = pairs {a = y} {c = Skipped} {b = x} {d = z} (Ok (y, x)) refl (same_markup inside bytes (Ok (y, x)) (Ok (Skipped, z)) e m f n) in
    absurd (a one.0)
Founds-unique inside {bytes = bytes} (skipped {more = x} e m h) (bare f b) = absurd (b (leads (lead_at inside bytes) f e).0)
Founds-unique inside {bytes = bytes} (skipped {more = x} e m h) (lost f n) = cc (same_markup inside bytes (Ok (Skipped, x)) (Err short) e m f n)
Founds-unique inside {bytes = bytes} (skipped {more = x} e m h) (stray f n) = cc (same_markup inside bytes (Ok (Skipped, x)) (Err wrong) e m f n)
Founds-unique inside {bytes = bytes} (skipped {more = x} e m h) (marked {more = z} {m = w} f n b) =
    let one = pairs {a = Skipped} {c = w} {b = x} {d = z} (Ok (Skipped, x)) refl (same_markup inside bytes (Ok (Skipped, x)) (Ok (w, z)) e m f n) in
    absurd (b (sym one.0))
Founds-unique inside {bytes = bytes} (skipped {more = x} e m h) (skipped {more = z} f n k) =
    let one = pairs {a = Skipped} {c = Skipped} {b = x} {d = z} (Ok (Skipped, x)) refl (same_markup inside bytes (Ok (Skipped, x)) (Ok (Skipped, z)) e m f n) in
    Founds-unique inside h (rw (← one.1) at k)

steps : (s : Left) (bad : Option ℕ) (a b : Tag × Left) → tags.continues s a bad → tags.continues s b bad → a ≡ b
steps s (Some at) a b h k = h ∙ sym k
steps s None a b h k =
    let one = Founds-unique _ h.1 k.1 in
    h.2 ∙ (ap (λ (f : Lead × Markup × ℕ × List ℕ). gives s f.0 f.1 f.2 f.3) one ∙ sym k.2)

Next-unique : (s t u : Left) (a b : Tag) → Next s a t → Next s b u → (a ≡ b) × (t ≡ u)
Next-unique s t u a b h k =
    let same = steps s s.bad (a, t) (b, u) h k in
    (ap (λ (p : Tag × Left). p.0) same, ap (λ (p : Tag × Left). p.1) same)

pub Runs-unique : {s : Left} {a b : List Tag} → Runs s a → Runs s b → a ≡ b
Runs-unique (ends t h l) (ends u k m) = let same = (Next-unique _ _ _ _ _ h k).0 in cc
Runs-unique (ends t h l) (follows u k m r) = let same = (Next-unique _ _ _ _ _ h k).0 in cc
Runs-unique (follows t h l r) (ends u k m) = let same = (Next-unique _ _ _ _ _ h k).0 in cc
Runs-unique (follows t h l r) (follows u k m q) =
    let same = Next-unique _ _ _ _ _ k h in
    let rest = Runs-unique r (rw same.1 at q) in
    rw (sym same.0, rest) refl
