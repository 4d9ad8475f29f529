-- What a part of a reply shows is the reply's own.
use Rattle.std.proofs.Common.{◌≡◌, ℕ, zero, suc, ◌+◌, ◌≤◌, ◌/◌, ◌%◌, Bool, true, false, not, ◌&&◌, cond, eqb, ltb, List, [], ◌∷◌, ◌++◌, length, take, drop, refl, ap, ◌∙◌, sym, subst, arith, append_assoc}
use Rattle.std.specs.Prelude.{codes, decimal, nat_le, nat_eq}
use Rattle.std.specs.Fmt.{digits, digits_onto, digit_glyph}
use Rattle.std.specs.List.{list_all, starts_with}
use Rattle.std.proofs.lemmas.Bool.{and_parts, ne_eqb, eqb-true}
use Rattle.std.proofs.lemmas.Bool.Decides.{Decides-eqb}
use Rattle.std.proofs.lemmas.Fmt.{decimal_injective}
use Rattle.std.proofs.lemmas.List.{append_cancel_left}
use Rattle.std.proofs.lemmas.Slice.Eq.{starts_is}
use Rattle.http.specs.StatusCode.{IsStatusCode}
use Rattle.httparse.specs.Grammar.{is_value_byte}
use Rattle.sm_head.specs.declared.reply.Content.{Content}
use Rattle.sm_head.specs.declared.reply.Content.TheVariants.{Xml, Mp4, Plain}
use Rattle.sm_head.specs.Replies.{crlf, kind_text, phrase, status_line, reply_text}
use Rattle.sm_head.specs.Shown.{shows_status, body_of}
use Rattle.sm_head.proofs.ReplyLaw.{phrase_fits, three_digits}

-- ---- bodies

-- each front of the text shows a front of the body
abbrev pub Fronts : List ℕ → List ℕ → Type 0
Fronts text body = (n : ℕ) → (rest : List ℕ) × (body_of (take n text) ++ rest ≡ body)

other_byte : (c : ℕ) (text body : List ℕ) → eqb 13 c ≡ false → Fronts text body → Fronts (c ∷ text) body
other_byte c text body off go zero = (body, refl)
other_byte c text body off go (suc n) =
    let P : Bool → Type 0 = λ b. (rest : List ℕ) × (cond (b && starts_with nat_eq (take n text) (10 ∷ 13 ∷ 10 ∷ [])) (drop 4 (c ∷ take n text)) (body_of (take n text)) ++ rest ≡ body) in
    subst P (sym off) (go n)

line_end : (c : ℕ) (text body : List ℕ) → eqb 13 c ≡ false → Fronts (c ∷ text) body → Fronts (13 ∷ 10 ∷ c ∷ text) body
line_end c text body off go zero = (body, refl)
line_end c text body off go (suc zero) = (body, refl)
line_end c text body off go (suc (suc zero)) = (body, refl)
line_end c text body off go (suc (suc (suc n))) =
    let P : Bool → Type 0 = λ b. (rest : List ℕ) × (cond (b && starts_with nat_eq (take n text) (10 ∷ [])) (drop 4 (13 ∷ 10 ∷ c ∷ take n text)) (body_of (c ∷ take n text)) ++ rest ≡ body) in
    subst P (sym off) (go (suc n))

last_end : (body : List ℕ) → Fronts (13 ∷ 10 ∷ 13 ∷ 10 ∷ body) body
last_end body zero = (body, refl)
last_end body (suc zero) = (body, refl)
last_end body (suc (suc zero)) = (body, refl)
last_end body (suc (suc (suc zero))) = (body, refl)
last_end body (suc (suc (suc (suc n)))) = (drop n body, halves n body)
  where
    halves : (n : ℕ) (xs : List ℕ) → take n xs ++ drop n xs ≡ xs
    halves zero xs = refl
    halves (suc n) [] = refl
    halves (suc n) (x ∷ xs) = ap (λ (l : List ℕ). x ∷ l) (halves n xs)

-- ---- lines

abbrev has_no_cr : List ℕ → Bool
has_no_cr w = list_all (λ c. not (eqb 13 c)) w

not_true : (b : Bool) → not b ≡ true → b ≡ false
not_true true e = absurd cc
not_true false e = refl

both_none : (v w : List ℕ) → has_no_cr v ≡ true → has_no_cr w ≡ true → has_no_cr (v ++ w) ≡ true
both_none [] w none others = others
both_none (c ∷ cs) w none others =
    let parts = and_parts (not (eqb 13 c)) (has_no_cr cs) none in
    let rest = both_none cs w parts.1 others in
    rw (parts.0, rest) refl

bytes_pass : (w text body : List ℕ) → has_no_cr w ≡ true → Fronts text body → Fronts (w ++ text) body
bytes_pass [] text body none go = go
bytes_pass (c ∷ cs) text body none go =
    let parts = and_parts (not (eqb 13 c)) (has_no_cr cs) none in
    other_byte c (cs ++ text) body (not_true (eqb 13 c) parts.0) (bytes_pass cs text body parts.1 go)

glyph_high : (d : ℕ) → not (eqb 13 (digit_glyph false d)) ≡ true
glyph_high d = by_test (ltb d 10)
  where
    off : (n k : ℕ) → 14 ≤ k → not (eqb 13 (k + n)) ≡ true
    off n k high = let e : eqb 13 (k + n) ≡ false = ne_eqb 13 (k + n) (λ same. omega (arith, same, high)) in rw e refl

    by_test : (b : Bool) → not (eqb 13 (cond b (48 + d) (87 + d))) ≡ true
    by_test true = off d 48 (omega arith)
    by_test false = off d 87 (omega arith)

digits_none : (k n : ℕ) (more : List ℕ) → has_no_cr more ≡ true → has_no_cr (digits_onto k 10 false n more) ≡ true
digits_none zero n more none = none
digits_none (suc k) n more none =
    let here = glyph_high (n % 10) in
    let longer : has_no_cr (digit_glyph false (n % 10) ∷ more) ≡ true = rw (here, none) refl in
    by_test (eqb (n / 10) 0) longer (digits_none k (n / 10) (digit_glyph false (n % 10) ∷ more) longer)
  where
    by_test : (b : Bool) → has_no_cr (digit_glyph false (n % 10) ∷ more) ≡ true → has_no_cr (digits_onto k 10 false (n / 10) (digit_glyph false (n % 10) ∷ more)) ≡ true
        → has_no_cr (cond b (digit_glyph false (n % 10) ∷ more) (digits_onto k 10 false (n / 10) (digit_glyph false (n % 10) ∷ more))) ≡ true
    by_test true last more_digits = last
    by_test false last more_digits = more_digits

decimal_none : (n : ℕ) → has_no_cr (decimal n) ≡ true
unfolding digits
decimal_none n = digits_none 64 n [] refl

value_none : (v : List ℕ) → list_all is_value_byte v ≡ true → has_no_cr v ≡ true
value_none [] all = refl
value_none (c ∷ cs) all =
    let parts = and_parts (is_value_byte c) (list_all is_value_byte cs) all in
    let e : eqb 13 c ≡ false = by_test (eqb 13 c) refl parts.0 in
    rw (e, value_none cs parts.1) refl
  where
    by_test : (b : Bool) → eqb 13 c ≡ b → is_value_byte c ≡ true → b ≡ false
    by_test true is value = let same : 13 ≡ c = eqb-true 13 c is in let other : is_value_byte 13 ≡ true = ap is_value_byte same ∙ value in absurd cc
    by_test false is value = refl

phrase_none : (n : ℕ) → IsStatusCode n → has_no_cr (phrase n) ≡ true
phrase_none n is = value_none (phrase n) (and_parts (list_all is_value_byte (phrase n)) (nat_le (length (phrase n)) 64) (phrase_fits n is.1)).0

kind_none : (kind : Content) → has_no_cr (kind_text kind) ≡ true
kind_none Xml = refl
kind_none Mp4 = refl
kind_none Plain = refl

-- ---- the head

abbrev pub status_text : ℕ → List ℕ
status_text status = codes "HTTP/1.1 " ++ (decimal status ++ (codes " " ++ phrase status))

-- the lines behind the status line, without the first letter
abbrev field_lines : Content → ℕ → List ℕ → List ℕ
field_lines kind count rest = codes "ontent-Type: " ++ (kind_text kind ++ (13 ∷ 10 ∷ 67 ∷ codes "ontent-Length: " ++ (decimal count ++ rest)))

abbrev close_end : Bool → List ℕ → List ℕ
close_end true body = 13 ∷ 10 ∷ 67 ∷ codes "onnection: close" ++ (13 ∷ 10 ∷ 13 ∷ 10 ∷ body)
close_end false body = 13 ∷ 10 ∷ 13 ∷ 10 ∷ body

status_line_none : (status : ℕ) → IsStatusCode status → has_no_cr (status_text status) ≡ true
status_line_none status is =
    both_none (codes "HTTP/1.1 ") (decimal status ++ (codes " " ++ phrase status)) refl
    (both_none (decimal status) (codes " " ++ phrase status) (decimal_none status) (both_none (codes " ") (phrase status) refl (phrase_none status is)))

laid : (status : ℕ) (kind : Content) (body : List ℕ) (close : Bool) → reply_text status kind body close ≡ status_text status ++ (13 ∷ 10 ∷ 67 ∷ field_lines kind (length body) (close_end close body))
laid status kind body true =
    regroup (codes "HTTP/1.1 ") (decimal status) (codes " ") (phrase status) crlf (codes "Content-Type: ") (kind_text kind) (codes "Content-Length: ") (decimal (length body)) (codes "Connection: close") body
  where
    regroup : (a d s p e b k l n w x : List ℕ)
        → ((a ++ d ++ s ++ p ++ e) ++ (b ++ k ++ e) ++ (l ++ n ++ e) ++ (w ++ e) ++ e) ++ x ≡ (a ++ (d ++ (s ++ p))) ++ (e ++ (b ++ (k ++ (e ++ (l ++ (n ++ (e ++ (w ++ (e ++ (e ++ x))))))))))
    regroup a d s p e b k l n w x = simp append_assoc
laid status kind body false =
    regroup (codes "HTTP/1.1 ") (decimal status) (codes " ") (phrase status) crlf (codes "Content-Type: ") (kind_text kind) (codes "Content-Length: ") (decimal (length body)) body
  where
    regroup : (a d s p e b k l n x : List ℕ)
        → ((a ++ d ++ s ++ p ++ e) ++ (b ++ k ++ e) ++ (l ++ n ++ e) ++ [] ++ e) ++ x ≡ (a ++ (d ++ (s ++ p))) ++ (e ++ (b ++ (k ++ (e ++ (l ++ (n ++ (e ++ (e ++ x))))))))
    regroup a d s p e b k l n x = simp append_assoc

end_fronts : (close : Bool) (body : List ℕ) → Fronts (close_end close body) body
end_fronts true body =
    line_end 67 (codes "onnection: close" ++ (13 ∷ 10 ∷ 13 ∷ 10 ∷ body)) body refl (bytes_pass (codes "Connection: close") (13 ∷ 10 ∷ 13 ∷ 10 ∷ body) body refl (last_end body))
end_fronts false body = last_end body

reply_fronts : (status : ℕ) (kind : Content) (body : List ℕ) (close : Bool) → IsStatusCode status → Fronts (reply_text status kind body close) body
reply_fronts status kind body close is =
    let P : List ℕ → Type 0 = λ l. Fronts l body in
    let rest = close_end close body in
    let length_none = both_none (codes "Content-Length: ") (decimal (length body)) refl (decimal_none (length body)) in
    let third : Fronts (67 ∷ codes "ontent-Length: " ++ (decimal (length body) ++ rest)) body =
    subst P (append_assoc (codes "Content-Length: ") (decimal (length body)) rest) (bytes_pass (codes "Content-Length: " ++ decimal (length body)) rest body length_none (end_fronts close body)) in
    let type_none = both_none (codes "Content-Type: ") (kind_text kind) refl (kind_none kind) in
    let behind_type = 13 ∷ 10 ∷ 67 ∷ codes "ontent-Length: " ++ (decimal (length body) ++ rest) in
    let second : Fronts (67 ∷ field_lines kind (length body) rest) body =
    subst P (append_assoc (codes "Content-Type: ") (kind_text kind) behind_type)
    (bytes_pass (codes "Content-Type: " ++ kind_text kind) behind_type body type_none (line_end 67 (codes "ontent-Length: " ++ (decimal (length body) ++ rest)) body refl third)) in
    let status_none = status_line_none status is in
    subst P (sym (laid status kind body close)) (bytes_pass (status_text status) (13 ∷ 10 ∷ 67 ∷ field_lines kind (length body) rest) body status_none (line_end 67 (field_lines kind (length body) rest) body refl second))

taken : (part more : List ℕ) → take (length part) (part ++ more) ≡ part
taken [] more = refl
taken (c ∷ cs) more = ap (λ (l : List ℕ). c ∷ l) (taken cs more)

pub front_of_body : (status : ℕ) (kind : Content) (body : List ℕ) (close : Bool) (part more : List ℕ) → IsStatusCode status → part ++ more ≡ reply_text status kind body close
    → (rest : List ℕ) × (body_of part ++ rest ≡ body)
front_of_body status kind body close part more is text =
    let P : List ℕ → Type 0 = λ l. (rest : List ℕ) × (body_of l ++ rest ≡ body) in
    subst P (sym (ap (take (length part)) text) ∙ taken part more) (reply_fronts status kind body close is (length part))

-- ---- statuses

same_digits : (a b x y : List ℕ) → length a ≡ 3 → length b ≡ 3 → a ++ x ≡ b ++ y → a ≡ b
same_digits a b x y three also same =
    sym (taken a x) ∙ ap (λ (k : ℕ). take k (a ++ x)) (three ∙ sym also) ∙ ap (take (length b)) same ∙ taken b y

pub status_shown : (status other : ℕ) (part more tail : List ℕ) → IsStatusCode status → IsStatusCode other → part ++ more ≡ codes "HTTP/1.1 " ++ (decimal status ++ tail) → shows_status other part ≡ true → other ≡ status
status_shown status other part more tail is also text shown =
    let version = codes "HTTP/1.1 " in
    let begun = codes "HTTP/1.1 " ++ decimal other in
    let rest = drop (length begun) part in
    let begins : part ≡ begun ++ rest = (starts_is Decides-eqb part begun (shows_status other part) refl).0 shown in
    let both : version ++ (decimal other ++ (rest ++ more)) ≡ version ++ (decimal status ++ tail) =
    sym (append_assoc version (decimal other) (rest ++ more)) ∙ sym (append_assoc begun rest more) ∙ ap (λ (l : List ℕ). l ++ more) (sym begins) ∙ text in
    let digits_are = same_digits (decimal other) (decimal status) (rest ++ more) tail (three_digits other also) (three_digits status is) (append_cancel_left version (decimal other ++ (rest ++ more)) (decimal status ++ tail) both) in
    decimal_injective other status (omega (arith, also.1)) (omega (arith, is.1)) digits_are

pub status_shows : (status : ℕ) (tail : List ℕ) → shows_status status (codes "HTTP/1.1 " ++ (decimal status ++ tail)) ≡ true
status_shows status tail =
    let begun = codes "HTTP/1.1 " ++ decimal status in
    let text = codes "HTTP/1.1 " ++ (decimal status ++ tail) in
    (starts_is Decides-eqb text begun (shows_status status text) refl).1 tail (sym (append_assoc (codes "HTTP/1.1 ") (decimal status) tail))

pub status_apart : (status : ℕ) (x : List ℕ) → status_text status ++ x ≡ codes "HTTP/1.1 " ++ (decimal status ++ ((codes " " ++ phrase status) ++ x))
status_apart status x =
    append_assoc (codes "HTTP/1.1 ") (decimal status ++ (codes " " ++ phrase status)) x ∙ ap (λ (l : List ℕ). codes "HTTP/1.1 " ++ l) (append_assoc (decimal status) (codes " " ++ phrase status) x)

-- what stands behind the status
abbrev behind_status : ℕ → Content → List ℕ → Bool → List ℕ
behind_status status kind body close = (codes " " ++ phrase status) ++ (13 ∷ 10 ∷ 67 ∷ field_lines kind (length body) (close_end close body))

by_status : (status : ℕ) (kind : Content) (body : List ℕ) (close : Bool) → reply_text status kind body close ≡ codes "HTTP/1.1 " ++ (decimal status ++ behind_status status kind body close)
by_status status kind body close =
    laid status kind body close ∙ status_apart status (13 ∷ 10 ∷ 67 ∷ field_lines kind (length body) (close_end close body))

pub reply_status : (status other : ℕ) (kind : Content) (body : List ℕ) (close : Bool) (part more : List ℕ) → IsStatusCode status → IsStatusCode other → part ++ more ≡ reply_text status kind body close
    → shows_status other part ≡ true → other ≡ status
reply_status status other kind body close part more is also text shown =
    status_shown status other part more (behind_status status kind body close) is also (text ∙ by_status status kind body close) shown

pub reply_shows : (status : ℕ) (kind : Content) (body : List ℕ) (close : Bool) → shows_status status (reply_text status kind body close) ≡ true
reply_shows status kind body close =
    let S : List ℕ → Type 0 = λ l. shows_status status l ≡ true in
    subst S (sym (by_status status kind body close)) (status_shows status (behind_status status kind body close))

pub line_laid : (status : ℕ) → status_line status ++ crlf ≡ status_text status ++ (13 ∷ 10 ∷ 13 ∷ 10 ∷ [])
line_laid status = regroup (codes "HTTP/1.1 ") (decimal status) (codes " ") (phrase status) crlf
  where
    regroup : (a d s p e : List ℕ) → (a ++ d ++ s ++ p ++ e) ++ e ≡ (a ++ (d ++ (s ++ p))) ++ (e ++ e)
    regroup a d s p e = simp append_assoc

-- a head without a body
head_fronts : (status : ℕ) → IsStatusCode status → Fronts (status_text status ++ (13 ∷ 10 ∷ 13 ∷ 10 ∷ [])) []
head_fronts status is =
    let status_none = status_line_none status is in
    bytes_pass (status_text status) (13 ∷ 10 ∷ 13 ∷ 10 ∷ []) [] status_none (last_end [])

no_front : (a b : List ℕ) → a ++ b ≡ [] → a ≡ []
no_front [] b e = refl
no_front (c ∷ cs) b e = absurd cc

pub head_has_no_body : (status : ℕ) (part more text : List ℕ) → IsStatusCode status → part ++ more ≡ text → text ≡ status_text status ++ (13 ∷ 10 ∷ 13 ∷ 10 ∷ []) → body_of part ≡ []
head_has_no_body status part more text is whole same =
    let front = head_fronts status is (length part) in
    let here : take (length part) (status_text status ++ (13 ∷ 10 ∷ 13 ∷ 10 ∷ [])) ≡ part = sym (ap (take (length part)) (whole ∙ same)) ∙ taken part more in
    sym (ap body_of here) ∙ no_front (body_of (take (length part) (status_text status ++ (13 ∷ 10 ∷ 13 ∷ 10 ∷ [])))) front.0 front.1
