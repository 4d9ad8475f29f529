-- Reading the words behind a command.
use Rattle.std.proofs.Common.{inl, inr, codes, ◌≡◌, ◌≤◌, ◌<◌, ◌+◌, ◌-◌, ℕ, Bool, true, false, cond, eqb, List, [], ◌∷◌, ◌++◌}
use Rattle.std.proofs.Common.{length, map, take, drop, get_or, string_bytes, String, Global, Bor, Option, Some, None, refl, sym, ap, ◌∙◌, arith}
use Rattle.std.specs.Option.{option_map, option_or, MatchOption}
use Rattle.std.proofs.lemmas.Bool.{eqb-true, eq-eqb}
use Rattle.std.proofs.lemmas.Bool.Decides.{eqb_tells}
use Rattle.std.proofs.lemmas.List.{append_assoc, at_drop_more, at_drop_all, length-drop, take_all}
use Rattle.std.specs.Str.Pattern.{FindsTextPrefix}
use Rattle.sm_words.specs.declared.option.Name.{Name}
use Rattle.sm_words.specs.declared.line.Given.{Given}
use Rattle.sm_words.specs.declared.line.Place.{Place}
use Rattle.sm_words.specs.declared.line.Place.TheVariants.{Free, Behind, Bare}
use Rattle.sm_words.specs.Options.{text_of, is_same}
use Rattle.sm_words.specs.Words.{Text, Read, behind, end_at, first_given, given_by, goes_on, joined, nothing, read, read_from, value_in, values_of, word_at}
use Rattle.sm_words.specs.Line.{given_of}

-- ---- what stands behind a beginning

cond_same : {X : Type 0} (c : ℕ) (x y : X) → cond (eqb c c) x y ≡ x
cond_same c x y = ap (λ (t : Bool). cond t x y) (eq-eqb c c refl)

pub behind-append : (p r : Text) → behind p (p ++ r) ≡ Some r
behind-append [] r = refl
behind-append (b ∷ p) r = cond_same b (behind p (p ++ r)) None ∙ behind-append p r

pub behind-none : (p s : Text) → ((rest : Text) → s ≡ p ++ rest → ⊥) → behind p s ≡ None
behind-none [] s h = absurd (h s refl)
behind-none (b ∷ p) [] h = refl
behind-none (b ∷ p) (c ∷ s) h =
    elim (eqb_tells b c) [
      | inl same ↦ ap (λ (t : Bool). cond t (behind p s) None) same.0 ∙ behind-none p s (λ rest e. h rest (ap (λ (l : Text). c ∷ l) e ∙ ap (λ (k : ℕ). k ∷ (p ++ rest)) (sym same.1)))
      | inr other ↦ ap (λ (t : Bool). cond t (behind p s) None) other.0
    ]

pub stripped : (p s : Text) (r : Option (Bor Text))
    → MatchOption r (FindsTextPrefix p s None) (λ x. (n : ℕ) × FindsTextPrefix p s (Some n) × (x.now ≡ drop n s) × (length x.now + n ≡ length s))
    → option_map (λ rest. rest.now) r ≡ behind p s
stripped p s None h = sym (behind-none p s h)
stripped p s (Some x) h =
    sym (ap (λ (t : Text). behind p t) h.1.1 ∙ behind-append p (drop h.0 s) ∙ ap (λ (t : Text). Some t) (sym h.2))

-- ---- one option

pub gives_nothing : (name : Name) (word : Text) → None ≡ behind (text_of name) word → None ≡ given_by name word
unfolding given_by
gives_nothing name word e = ap value_in e

pub gives_alone : (name : Name) (word rest : Text) → Some rest ≡ behind (text_of name) word → eqb (length rest) 0 ≡ true → Some None ≡ given_by name word
unfolding given_by
gives_alone name word [] e empty = ap value_in e
gives_alone name word (c ∷ cs) e empty = absurd (omega (arith, eqb-true (length (c ∷ cs)) 0 empty))

pub gives_no_value : (name : Name) (word rest : Text) → Some rest ≡ behind (text_of name) word → eqb (length rest) 0 ≡ false → None ≡ behind (codes "=") rest
    → None ≡ given_by name word
unfolding given_by
gives_no_value name word [] e some v = absurd (cc)
gives_no_value name word (c ∷ cs) e some v = ap (λ (o : Option Text). option_map (λ value. Some value) o) v ∙ ap value_in e

pub gives_value : (name : Name) (word rest value : Text) → Some rest ≡ behind (text_of name) word → Some value ≡ behind (codes "=") rest
    → Some (Some value) ≡ given_by name word
unfolding given_by
gives_value name word [] value e v = absurd (cc)
gives_value name word (c ∷ cs) value e v = ap (λ (o : Option Text). option_map (λ value. Some value) o) v ∙ ap value_in e

-- ---- the options of a command

abbrev pub FirstFrom : List Name → Text → ℕ → Type 0
FirstFrom options word i = first_given options word ≡ first_given (drop i options) word

pub first_here : (options : List Name) (word : Text) (i : ℕ) (d name : Name) (how : Option Text) → i < length options → name ≡ get_or options i d
    → given_by name word ≡ Some how → FirstFrom options word i → Some (name, how) ≡ first_given options word
first_here options word i d name how lt is given h =
    sym (h ∙ at_drop_more (λ (ns : List Name). first_given ns word) options i d lt
    ∙ ap (λ (n : Name). option_or (option_map (λ (x : Option Text). (n, x)) (given_by n word)) (first_given (drop (i + 1) options) word)) (sym is)
    ∙ ap (λ (o : Option (Option Text)). option_or (option_map (λ (x : Option Text). (name, x)) o) (first_given (drop (i + 1) options) word)) given)

pub first_later : (options : List Name) (word : Text) (i : ℕ) (d name : Name) → i < length options → name ≡ get_or options i d
    → given_by name word ≡ None → FirstFrom options word i → FirstFrom options word (i + 1)
first_later options word i d name lt is given h =
    h ∙ at_drop_more (λ (ns : List Name). first_given ns word) options i d lt
    ∙ ap (λ (n : Name). option_or (option_map (λ (x : Option Text). (n, x)) (given_by n word)) (first_given (drop (i + 1) options) word)) (sym is)
    ∙ ap (λ (o : Option (Option Text)). option_or (option_map (λ (x : Option Text). (name, x)) o) (first_given (drop (i + 1) options) word)) given

pub first_none : (options : List Name) (word : Text) (i : ℕ) → length options ≤ i → FirstFrom options word i → None ≡ first_given options word
first_none options word i le h = sym (h ∙ at_drop_all (λ (ns : List Name). first_given ns word) options i le)

-- ---- the words of a line

pub joined-assoc : (a b c : Read) → joined a (joined b c) ≡ joined (joined a b) c
joined-assoc a b c =
    ap (λ (gs : List (Name × Text)). record { given = gs; words = a.words ++ (b.words ++ c.words) }) (sym (append_assoc a.given b.given c.given))
    ∙ ap (λ (ws : List Text). record { given = (a.given ++ b.given) ++ c.given; words = ws }) (sym (append_assoc a.words b.words c.words))

joined-map : (a b : Read) (x : Option Read) → option_map (λ r. joined a r) (option_map (λ r. joined b r) x) ≡ option_map (λ r. joined (joined a b) r) x
joined-map a b None = refl
joined-map a b (Some r) = ap (λ (t : Read). Some t) (joined-assoc a b r)

nothing-joined : (x : Option Read) → option_map (λ r. joined nothing r) x ≡ x
nothing-joined None = refl
nothing-joined (Some r) = refl

-- what was read of the words before a place, and where the next one stands
abbrev pub ReadUpTo : List Name → List (String Global) → Read → Place → ℕ → Type 0
ReadUpTo options words sofar place i =
    read options (map string_bytes words) ≡ option_map (λ r. joined sofar r) (read_from options (map string_bytes (drop i words)) place)

pub read_none_yet : (options : List Name) (words : List (String Global)) (sofar : Read) → sofar ≡ nothing → ReadUpTo options words sofar Free 0
read_none_yet options words sofar e =
    sym (ap (λ (s : Read). option_map (λ r. joined s r) (read options (map string_bytes words))) e ∙ nothing-joined (read options (map string_bytes words)))

rest_at : List Name → List (String Global) → Read → Place → Option Read
rest_at options words sofar place = option_map (λ r. joined sofar r) (read_from options (map string_bytes words) place)

pub word_refused : (options : List Name) (words : List (String Global)) (sofar : Read) (place : Place) (i : ℕ) (d word : String Global) → i < length words
    → word ≡ get_or words i d → None ≡ word_at options place (string_bytes word) → ReadUpTo options words sofar place i
    → None ≡ read options (map string_bytes words)
word_refused options words sofar place i d word lt is none h =
    let more = at_drop_more (λ (ws : List (String Global)). option_map (λ r. joined sofar r) (read_from options (map string_bytes ws) place)) words i d lt in
    let rest : Place → Option Read = λ next. read_from options (map string_bytes (drop (i + 1) words)) next in
    sym (h ∙ more
    ∙ ap (λ (w : String Global). option_map (λ r. joined sofar r) (goes_on (word_at options place (string_bytes w)) rest)) (sym is)
    ∙ ap (λ (o : Option (Place × Read)). option_map (λ r. joined sofar r) (goes_on o rest)) (sym none))

pub word_read : (options : List Name) (words : List (String Global)) (sofar adds after : Read) (place next : Place) (i : ℕ) (d word : String Global) → i < length words
    → word ≡ get_or words i d → Some (next, adds) ≡ word_at options place (string_bytes word) → after ≡ joined sofar adds → ReadUpTo options words sofar place i
    → ReadUpTo options words after next (i + 1)
word_read options words sofar adds after place next i d word lt is some joins h =
    let more = at_drop_more (λ (ws : List (String Global)). option_map (λ r. joined sofar r) (read_from options (map string_bytes ws) place)) words i d lt in
    let rest : Place → Option Read = λ next. read_from options (map string_bytes (drop (i + 1) words)) next in
    h ∙ more
    ∙ ap (λ (w : String Global). option_map (λ r. joined sofar r) (goes_on (word_at options place (string_bytes w)) rest)) (sym is)
    ∙ ap (λ (o : Option (Place × Read)). option_map (λ r. joined sofar r) (goes_on o rest)) (sym some)
    ∙ joined-map sofar adds (rest next)
    ∙ ap (λ (s : Read). option_map (λ r. joined s r) (rest next)) (sym joins)

all_read : (options : List Name) (words : List (String Global)) (sofar : Read) (place : Place) (i : ℕ) → length words ≤ i → ReadUpTo options words sofar place i
    → read options (map string_bytes words) ≡ option_map (λ r. joined sofar r) (end_at place)
all_read options words sofar place i le h =
    h ∙ at_drop_all (λ (ws : List (String Global)). option_map (λ r. joined sofar r) (read_from options (map string_bytes ws) place)) words i le

append-none : {X : Type 0} (xs : List X) → xs ++ [] ≡ xs
append-none [] = refl
append-none (x ∷ xs) = ap (λ l. x ∷ l) (append-none xs)

pub joined-nothing : (a : Read) → joined a nothing ≡ a
joined-nothing a =
    ap (λ (gs : List (Name × Text)). record { given = gs; words = a.words ++ [] }) (append-none a.given)
    ∙ ap (λ (ws : List Text). record { given = a.given; words = ws }) (append-none a.words)

pub value_missing : (options : List Name) (words : List (String Global)) (sofar : Read) (place : Place) (name : Name) (i : ℕ) → length words ≤ i → place ≡ Behind name
    → ReadUpTo options words sofar place i → None ≡ read options (map string_bytes words)
value_missing options words sofar place name i le is h =
    sym (all_read options words sofar place i le h ∙ ap (λ (p : Place). option_map (λ r. joined sofar r) (end_at p)) is)

ends : (place : Place) → ((name : Name) → place ≡ Behind name → ⊥) → end_at place ≡ Some nothing
ends Free h = refl
ends Bare h = refl
ends (Behind name) h = absurd (h name refl)

pub line_read : (options : List Name) (words : List (String Global)) (sofar : Read) (place : Place) (i : ℕ) → length words ≤ i
    → ((name : Name) → place ≡ Behind name → ⊥) → ReadUpTo options words sofar place i → Some sofar ≡ read options (map string_bytes words)
line_read options words sofar place i le free h =
    sym (all_read options words sofar place i le h ∙ ap (λ (o : Option Read). option_map (λ r. joined sofar r) o) (ends place free) ∙ ap (λ (r : Read). Some r) (joined-nothing sofar))

-- ---- the values of an option

abbrev pub ValuesFrom : List Given → Name → ℕ → Type 0
ValuesFrom given name i = values_of name (map given_of given) ≡ values_of name (map given_of (drop i given))

pub rest_whole : (given : List Given) (i : ℕ) → take (length given - i) (drop i given) ≡ drop i given
rest_whole given i = take_all (length given - i) (drop i given) (omega (arith, length-drop i given))

values_there : (given : List Given) (name : Name) (i : ℕ) (d one : Given) → i < length given → one ≡ get_or given i d
    → values_of name (map given_of (drop i given))
    ≡ cond (is_same one.name name) (string_bytes one.value ∷ values_of name (map given_of (drop (i + 1) given))) (values_of name (map given_of (drop (i + 1) given)))
values_there given name i d one lt is =
    at_drop_more (λ (gs : List Given). values_of name (map given_of gs)) given i d lt
    ∙ ap (λ (g : Given). values_of name (map given_of (g ∷ drop (i + 1) given))) (sym is)

pub values_here : (given : List Given) (name : Name) (i : ℕ) (d one : Given) (value : Text) (rest : List Given) → i < length given → one ≡ get_or given i d → is_same one.name name ≡ true
    → value ≡ string_bytes one.value → rest ≡ drop (i + 1) given → ValuesFrom given name i → values_of name (map given_of given) ≡ value ∷ values_of name (map given_of rest)
values_here given name i d one value rest lt is same v r h =
    h ∙ values_there given name i d one lt is
    ∙ ap (λ (t : Bool). cond t (string_bytes one.value ∷ values_of name (map given_of (drop (i + 1) given))) (values_of name (map given_of (drop (i + 1) given)))) same
    ∙ ap (λ (t : Text). t ∷ values_of name (map given_of (drop (i + 1) given))) (sym v)
    ∙ ap (λ (gs : List Given). value ∷ values_of name (map given_of gs)) (sym r)

pub values_later : (given : List Given) (name : Name) (i : ℕ) (d one : Given) → i < length given → one ≡ get_or given i d → is_same one.name name ≡ false
    → ValuesFrom given name i → ValuesFrom given name (i + 1)
values_later given name i d one lt is other h =
    h ∙ values_there given name i d one lt is
    ∙ ap (λ (t : Bool). cond t (string_bytes one.value ∷ values_of name (map given_of (drop (i + 1) given))) (values_of name (map given_of (drop (i + 1) given)))) other

pub values_none : (given : List Given) (name : Name) (i : ℕ) → length given ≤ i → ValuesFrom given name i → values_of name (map given_of given) ≡ []
values_none given name i le h = h ∙ at_drop_all (λ (gs : List Given). values_of name (map given_of gs)) given i le
