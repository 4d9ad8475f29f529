-- A reply that was written is read again.
use Rattle.std.proofs.Common.{◌≡◌, ℕ, zero, suc, ◌+◌, ◌-◌, ◌<◌, ◌≤◌, ◌^◌, ◌/◌, ◌%◌, ◌⊎◌, Bool, true, false, IsTrue, List, [], ◌∷◌, ◌++◌, length, take, drop, refl, ap, ◌∙◌, sym, arith, All, inl, inr, ⊎_elim, append_assoc, length-append, length-drop, Ok, Err, Some, None}
use Rattle.std.specs.Prelude.{◌&&◌, nat_lt, nat_le, codes, decimal, map, reverse, Result, if◌then◌else◌}
use Rattle.std.specs.List.{list_all, flat_map}
use Rattle.std.specs.Char.{is_ascii_digit}
use Rattle.std.specs.Str.Parse.{AllDigits, digits_value}
use Rattle.std.proofs.lemmas.Bool.{cases_Bool, and_parts, le-leb, lt-ltb}
use Rattle.std.proofs.lemmas.Bool.Decides.{nat_tests, Decides-below_and}
use Rattle.std.proofs.lemmas.Fmt.{decimal_is_IsNumeral, decimal_digit, decimal_step, length-decimal-le}
use Rattle.std.proofs.lemmas.List.{append-nil}
use Rattle.std.proofs.lemmas.List.Elements.{All-nil, All-cons, All-head}
use Rattle.std.proofs.lemmas.Str.Parse.{digit_from_value}
use Rattle.std.proofs.Math.Seq.{drop-append_seam, take-append-add}
use Rattle.http.specs.StatusCode.{IsStatusCode}
use Rattle.httparse.specs.Grammar.{is_token_byte, is_value_byte, is_ows, AllPass, skip_ows, trim_ows, Field, IsField, print_field, crlf, ResponseHead, IsResponseHead, print_response, ReadsResponse, HasNoResponse, status_code}
use Rattle.httparse.specs.Spans.{name_and_value}
use Rattle.httparse.proofs.GrammarLemmas.{response_unique, response_prefix_free}
use Rattle.httparse.proofs.TrimLemmas.{AllPass-reverse, trim_ows_space}
use Rattle.sm_model.specs.declared.framing.Framing.{Framing}
use Rattle.sm_model.specs.declared.framing.Framing.TheVariants as framing
use Rattle.sm_head.specs.declared.reply.Content.{Content}
use Rattle.sm_head.specs.declared.reply.Content.TheVariants.{Xml, Mp4, Plain}
use Rattle.sm_head.specs.declared.response.RespHead.{RespHead}
use Rattle.sm_head.specs.declared.response.RespHead.TheVariants.{Whole, Partial}
use Rattle.sm_head.specs.declared.response.RespFault.{RespFault}
use Rattle.sm_head.specs.declared.response.RespFault.TheVariants as fault
use Rattle.sm_head.specs.Judged.{Pairs, lengths, transfers}
use Rattle.sm_head.specs.Lengths.{is_length}
use Rattle.sm_head.specs.Replies as reply
use Rattle.sm_head.specs.Replies.{kind_text, phrase, close_line, reply_head, reply_text}
use Rattle.sm_head.specs.Requests.{window}
use Rattle.sm_head.specs.Responses.{reply_framing, reply_by, answered, IsReplyAt, IsUnfinished, IsRespAnswer, IsButForMemory, written_framing}

-- ---- one reading

reply_length : (bytes : List ℕ) (h : ResponseHead) (len : ℕ) → len ≤ length bytes → ReadsResponse bytes h (drop len bytes) → length (print_response h) ≡ len
reply_length bytes h len fits reads = omega (arith, ap length reads.1, length-append (print_response h) (drop len bytes), length-drop len bytes)

-- a head of at most 8,192 bytes is in the window
in_window : (bytes : List ℕ) (h : ResponseHead) (len : ℕ) → len ≤ length bytes → len ≤ 8192 → ReadsResponse bytes h (drop len bytes) → HasNoResponse (window bytes) → ⊥
in_window bytes h len fits short reads none =
    let size = reply_length bytes h len fits reads in
    let room : 8192 ≡ length (print_response h) + (8192 - len) = omega (arith, size) in
    none h (take (8192 - len) (drop len bytes))
    (reads.0, ap (take 8192) reads.1 ∙ ap (λ n. take n (print_response h ++ drop len bytes)) room ∙ take-append-add (print_response h) (drop len bytes) (8192 - len))

-- a whole head is the only answer
pub whole_is_one : (bytes : List ℕ) (len status : ℕ) (f : Framing) → IsReplyAt bytes len status (Some f)
    → (answer : Result RespHead RespFault) → IsRespAnswer bytes answer → IsButForMemory answer (Ok (Whole len status f))
whole_is_one bytes len status f at (Ok (Whole l s g)) other =
    let u = response_unique bytes at.h other.h (drop len bytes) (drop l bytes) at.reads other.reads in
    let same_len : l ≡ len = omega (arith, length-drop len bytes, length-drop l bytes, ap length u.1, at.fits, other.fits) in
    let same_status : s ≡ status = other.status_is ∙ ap status_code (sym u.0) ∙ sym at.status_is in
    let some : Some g ≡ Some f = sym other.framing_is ∙ ap answered (sym u.0) ∙ at.framing_is in
    let same : g ≡ f = cc in
    inl (cc)
whole_is_one bytes len status f at (Ok Partial) u = absurd (u.none at.h (drop len bytes) at.reads)
whole_is_one bytes len status f at (Err fault.Bad) (inl (l, s, other)) =
    let u = response_unique bytes at.h other.h (drop len bytes) (drop l bytes) at.reads other.reads in
    let some : None ≡ Some f = sym other.framing_is ∙ ap answered (sym u.0) ∙ at.framing_is in
    absurd (cc)
whole_is_one bytes len status f at (Err fault.Bad) (inr (none, never)) = absurd (in_window bytes at.h len at.fits at.short at.reads none)
whole_is_one bytes len status f at (Err fault.NoMemory) is = inr refl

pub partial_is_one : (bytes : List ℕ) → IsUnfinished bytes → (answer : Result RespHead RespFault) → IsRespAnswer bytes answer → IsButForMemory answer (Ok Partial)
partial_is_one bytes u (Ok (Whole l s g)) other = absurd (u.none other.h (drop l bytes) other.reads)
partial_is_one bytes u (Ok Partial) other = inl refl
partial_is_one bytes u (Err fault.Bad) (inl (l, s, other)) = absurd (u.none other.h (drop l bytes) other.reads)
partial_is_one bytes u (Err fault.Bad) (inr (none, never)) = absurd (never u)
partial_is_one bytes u (Err fault.NoMemory) is = inr refl

isnt_other : (wanted : RespHead) → IsButForMemory (Err fault.Bad) (Ok wanted) → ⊥
isnt_other wanted (inl e) = cc
isnt_other wanted (inr e) = cc

pub one_reading : (bytes : List ℕ) (one other : Result RespHead RespFault) → IsRespAnswer bytes one → IsRespAnswer bytes other
    → (one ≡ Err fault.NoMemory) ⊎ IsButForMemory other one
one_reading bytes (Ok (Whole len status f)) other is also = inr (whole_is_one bytes len status f is other also)
one_reading bytes (Ok Partial) other is also = inr (partial_is_one bytes is other also)
one_reading bytes (Err fault.Bad) (Ok (Whole len status f)) is also = absurd (isnt_other _ (whole_is_one bytes len status f also (Err fault.Bad) is))
one_reading bytes (Err fault.Bad) (Ok Partial) is also = absurd (isnt_other _ (partial_is_one bytes also (Err fault.Bad) is))
one_reading bytes (Err fault.Bad) (Err fault.Bad) is also = inr (inl refl)
one_reading bytes (Err fault.Bad) (Err fault.NoMemory) is also = inr (inr refl)
one_reading bytes (Err fault.NoMemory) other is also = inl refl

-- ---- numbers

pass_from : (test : ℕ → Bool) (bs : List ℕ) → list_all test bs ≡ true → AllPass test bs
pass_from test [] all = All-nil _
pass_from test (b ∷ bs) all = let parts = and_parts (test b) (list_all test bs) all in All-cons (λ x. IsTrue (test x)) b bs parts.0 (pass_from test bs parts.1)

digits_pass : (ds : List ℕ) → AllDigits 10 ds → AllPass is_ascii_digit ds
digits_pass [] all = All-nil _
digits_pass (d ∷ ds) (digit, all) =
    let range = digit_from_value d digit in
    let here : is_ascii_digit d ≡ true = grind (arith, nat_tests, range) in
    All-cons (λ b. IsTrue (is_ascii_digit b)) d ds here (digits_pass ds all)

digits_all : (ds : List ℕ) → AllDigits 10 ds → list_all is_ascii_digit ds ≡ true
digits_all [] all = refl
digits_all (d ∷ ds) (digit, all) =
    let range = digit_from_value d digit in
    let here : is_ascii_digit d ≡ true = grind (arith, nat_tests, range) in
    rw (here, digits_all ds all) refl

skip_digits : (ds : List ℕ) → AllPass is_ascii_digit ds → skip_ows ds ≡ ds
skip_digits [] all = refl
skip_digits (d ∷ ds) all =
    let digit : is_ascii_digit d ≡ true = All-head (λ b. IsTrue (is_ascii_digit b)) d ds all in
    let other : is_ows d ≡ false = grind (arith, nat_tests) in
    rw other refl

-- a number behind a space is the value of its field
number_trims : (n : ℕ) → n < 2 ^ 64 → trim_ows (32 ∷ decimal n) ≡ decimal n
number_trims n low =
    let pass = digits_pass (decimal n) (decimal_is_IsNumeral n low).0.1 in
    trim_ows_space (decimal n) (skip_digits (decimal n) pass) (skip_digits (reverse (decimal n)) (AllPass-reverse is_ascii_digit (decimal n) pass))

number_is_length : (n : ℕ) → n < 10 ^ 18 → is_length (decimal n) ≡ true
number_is_length n low =
    let numeral = (decimal_is_IsNumeral n (omega arith)).0 in
    let some : nat_lt 0 (length (decimal n)) ≡ true = lt-ltb 0 (length (decimal n)) numeral.0 in
    let few : nat_le (length (decimal n)) 18 ≡ true = le-leb (length (decimal n)) 18 (length-decimal-le 18 n (omega arith) low (omega arith)) in
    rw (some, few, digits_all (decimal n) numeral.1) refl

-- a status has three digits
pub three_digits : (n : ℕ) → IsStatusCode n → length (decimal n) ≡ 3
three_digits n is =
    let last = decimal_step n (omega (arith, is.0)) (omega (arith, is.1)) in
    let middle = decimal_step (n / 10) (omega (arith, is.0)) (omega (arith, is.1)) in
    let first = decimal_digit (n / 10 / 10) (omega (arith, is.1)) in
    omega (arith, ap length last, ap length middle, ap length first, length-append (decimal (n / 10)) ((48 + n % 10) ∷ []), length-append (decimal (n / 10 / 10)) ((48 + n / 10 % 10) ∷ []))

-- ---- phrases

abbrev pub is_fit : ℕ → Bool
is_fit n = list_all is_value_byte (phrase n) && nat_le (length (phrase n)) 64

abbrev fit_below : ℕ → Bool
fit_below zero = true
fit_below (suc n) = is_fit n && fit_below n

-- each phrase may stand in a status line, and is short
pub phrase_fits : (n : ℕ) → n < 1000 → is_fit n ≡ true
unfolding phrase
phrase_fits n low = (Decides-below_and is_fit (λ k. is_fit k ≡ true) fit_below (λ k. (λ x. x, λ x. x)) refl (λ _. refl) 1000).0 refl n low

-- ---- the head

field : List ℕ → List ℕ → Field
field name value = record { name = name; raw = 32 ∷ value; end = crlf }

close_fields : Bool → List Field
close_fields true = field (codes "Connection") (codes "close") ∷ []
close_fields false = []

abbrev written_head : ℕ → Content → ℕ → Bool → ResponseHead
written_head status kind count close = record {
  blank = [];
  minor = 1;
  digits = decimal status;
  reason = Some (phrase status);
  line_end = crlf;
  fields = field (codes "Content-Type") (kind_text kind) ∷ field (codes "Content-Length") (decimal count) ∷ close_fields close;
  last = crlf;
}

-- the bytes of a head, from left to right
abbrev laid : List ℕ → List ℕ → List ℕ → List ℕ → List ℕ → List ℕ
laid status phrase kind count closing =
    codes "HTTP/1.1 " ++ status ++ codes " " ++ phrase ++ reply.crlf ++ codes "Content-Type: " ++ kind ++ reply.crlf ++ codes "Content-Length: " ++ count ++ reply.crlf ++ closing ++ reply.crlf

close_is : (close : Bool) → flat_map print_field (close_fields close) ≡ close_line close
unfolding field close_fields
close_is true = refl
close_is false = refl

print_laid : (status : ℕ) (kind : Content) (count : ℕ) (close : Bool)
    → print_response (written_head status kind count close) ≡ laid (decimal status) (phrase status) (kind_text kind) (decimal count) (flat_map print_field (close_fields close))
unfolding print_response field
print_laid status kind count close =
    regroup (codes "HTTP/1.1 ") (decimal status) (codes " ") (phrase status) reply.crlf (codes "Content-Type: ") (kind_text kind) (codes "Content-Length: ") (decimal count)
    (flat_map print_field (close_fields close))
  where
    regroup : (a d s p e b k l n c : List ℕ)
        → a ++ d ++ (s ++ p) ++ e ++ ((b ++ k ++ e) ++ ((l ++ n ++ e) ++ c) ++ e) ≡ a ++ d ++ s ++ p ++ e ++ b ++ k ++ e ++ l ++ n ++ e ++ c ++ e
    regroup a d s p e b k l n c = simp append_assoc

reply_laid : (status : ℕ) (kind : Content) (count : ℕ) (close : Bool)
    → reply_head status kind count close ≡ laid (decimal status) (phrase status) (kind_text kind) (decimal count) (close_line close)
reply_laid status kind count close =
    regroup (codes "HTTP/1.1 ") (decimal status) (codes " ") (phrase status) reply.crlf (codes "Content-Type: ") (kind_text kind) (codes "Content-Length: ") (decimal count)
    (close_line close)
  where
    regroup : (a d s p e b k l n c : List ℕ)
        → (a ++ d ++ s ++ p ++ e) ++ (b ++ k ++ e) ++ (l ++ n ++ e) ++ c ++ e ≡ a ++ d ++ s ++ p ++ e ++ b ++ k ++ e ++ l ++ n ++ e ++ c ++ e
    regroup a d s p e b k l n c = simp append_assoc

print_is : (status : ℕ) (kind : Content) (count : ℕ) (close : Bool) → print_response (written_head status kind count close) ≡ reply_head status kind count close
print_is status kind count close =
    print_laid status kind count close ∙ ap (laid (decimal status) (phrase status) (kind_text kind) (decimal count)) (close_is close) ∙ sym (reply_laid status kind count close)

-- ---- the head is one

name_is_token : (bs : List ℕ) → nat_lt 0 (length bs) ≡ true → list_all is_token_byte bs ≡ true → (0 < length bs) × AllPass is_token_byte bs
name_is_token bs some all = (grind (arith, nat_tests), pass_from is_token_byte bs all)

kind_fits : (kind : Content) → list_all is_value_byte (kind_text kind) ≡ true
kind_fits Xml = refl
kind_fits Mp4 = refl
kind_fits Plain = refl

digits_fit : (ds : List ℕ) → AllDigits 10 ds → list_all is_value_byte ds ≡ true
digits_fit [] all = refl
digits_fit (d ∷ ds) (digit, all) =
    let range = digit_from_value d digit in
    let here : is_value_byte d ≡ true = grind (arith, nat_tests, range) in
    rw (here, digits_fit ds all) refl

field_fits : (name value : List ℕ) → nat_lt 0 (length name) ≡ true → list_all is_token_byte name ≡ true → list_all is_value_byte value ≡ true → IsField (field name value)
unfolding field
field_fits name value some token all = record { name = name_is_token name some token; raw = pass_from is_value_byte (32 ∷ value) all }

close_fits : (close : Bool) → All IsField (close_fields close)
unfolding close_fields is_token_byte
close_fits true = All-cons IsField _ [] (field_fits (codes "Connection") (codes "close") refl refl refl) (All-nil IsField)
close_fits false = All-nil IsField

fields_fit : (kind : Content) (count : ℕ) (close : Bool) → count < 10 ^ 18
    → All IsField (field (codes "Content-Type") (kind_text kind) ∷ field (codes "Content-Length") (decimal count) ∷ close_fields close)
unfolding is_token_byte
fields_fit kind count close low =
    All-cons IsField (field (codes "Content-Type") (kind_text kind)) (field (codes "Content-Length") (decimal count) ∷ close_fields close)
    (field_fits (codes "Content-Type") (kind_text kind) refl refl (kind_fits kind))
    (All-cons IsField (field (codes "Content-Length") (decimal count)) (close_fields close)
    (field_fits (codes "Content-Length") (decimal count) refl refl (digits_fit (decimal count) (decimal_is_IsNumeral count (omega arith)).0.1)) (close_fits close))

head_is : (status : ℕ) (kind : Content) (count : ℕ) (close : Bool) → IsStatusCode status → count < 10 ^ 18 → IsResponseHead (written_head status kind count close)
head_is status kind count close is low = record {
  minor = omega arith;
  digits = (three_digits status is, digits_pass (decimal status) (decimal_is_IsNumeral status (omega (arith, is.1))).0.1);
  reason = pass_from is_value_byte (phrase status) (and_parts (list_all is_value_byte (phrase status)) (nat_le (length (phrase status)) 64) (phrase_fits status is.1)).0;
  fields = fields_fit kind count close low;
}

-- ---- what it tells

lengths_are : (kind : Content) (count : ℕ) (close : Bool) → lengths (map name_and_value (written_head 200 kind count close).fields) ≡ trim_ows (32 ∷ decimal count) ∷ []
unfolding field close_fields
lengths_are kind count true = refl
lengths_are kind count false = refl

transfers_are : (kind : Content) (count : ℕ) (close : Bool) → transfers (map name_and_value (written_head 200 kind count close).fields) ≡ []
unfolding field close_fields
transfers_are kind count true = refl
transfers_are kind count false = refl

few_fields : (kind : Content) (count : ℕ) (close : Bool) → nat_lt 64 (length (map name_and_value (written_head 200 kind count close).fields)) ≡ false
unfolding close_fields
few_fields kind count true = refl
few_fields kind count false = refl

framing_is : (kind : Content) (count : ℕ) (close : Bool) → count < 10 ^ 18
    → reply_framing (lengths (map name_and_value (written_head 200 kind count close).fields)) (transfers (map name_and_value (written_head 200 kind count close).fields)) ≡ Some (framing.Counted count)
framing_is kind count close low =
    ap (λ vs. reply_framing vs (transfers (map name_and_value (written_head 200 kind count close).fields))) (lengths_are kind count close ∙ ap (λ v. v ∷ []) (number_trims count (omega arith)))
    ∙ ap (reply_framing (decimal count ∷ [])) (transfers_are kind count close)
    ∙ ap (λ (b : Bool). if b then Some (framing.Counted (digits_value 10 (decimal count))) else None) (number_is_length count low)
    ∙ ap (λ n. Some (framing.Counted n)) (decimal_is_IsNumeral count (omega arith)).1

told_by : (status : ℕ) (pairs : Pairs) (count : ℕ) → nat_lt 64 (length pairs) ≡ false → reply_framing (lengths pairs) (transfers pairs) ≡ Some (framing.Counted count)
    → reply_by status pairs ≡ Some (written_framing status count)
told_by status pairs count few tells = ⊎_elim
    (λ (low : nat_lt status 200 ≡ true). rw (few, low) refl)
    (λ (high : nat_lt status 200 ≡ false). rw (few, high) tells)
    (cases_Bool (nat_lt status 200))

answered_is : (status : ℕ) (kind : Content) (count : ℕ) (close : Bool) → IsStatusCode status → count < 10 ^ 18
    → answered (written_head status kind count close) ≡ Some (written_framing status count)
answered_is status kind count close is low =
    let pairs = map name_and_value (written_head 200 kind count close).fields in
    ap (λ s. reply_by s pairs) (decimal_is_IsNumeral status (omega (arith, is.1))).1
    ∙ told_by status pairs count (few_fields kind count close) (framing_is kind count close low)

-- ---- its length

kind_short : (kind : Content) → length (kind_text kind) ≤ 10
kind_short Xml = omega arith
kind_short Mp4 = omega arith
kind_short Plain = omega arith

head_short : (status : ℕ) (kind : Content) (count : ℕ) (close : Bool) → IsStatusCode status → count < 10 ^ 18 → length (reply_head status kind count close) ≤ 8192
head_short status kind count close is low =
    let three = three_digits status is in
    let phrase_short : length (phrase status) ≤ 64 = grind (arith, nat_tests, (and_parts (list_all is_value_byte (phrase status)) (nat_le (length (phrase status)) 64) (phrase_fits status is.1)).1) in
    let kind_fits = kind_short kind in
    let count_short = length-decimal-le 18 count (omega arith) low (omega arith) in
    sum_is close three phrase_short kind_fits count_short
  where
    sum_is : (close : Bool) → length (decimal status) ≡ 3 → length (phrase status) ≤ 64 → length (kind_text kind) ≤ 10 → length (decimal count) ≤ 18 → length (reply_head status kind count close) ≤ 8192
    sum_is true three short fits few = simp (length-append) (omega arith)
    sum_is false three short fits few = simp (length-append) (omega arith)

head_some : (status : ℕ) (kind : Content) (count : ℕ) (close : Bool) → 0 < length (reply_head status kind count close)
head_some status kind count close = omega arith

-- ---- the reply

pub body_begins : (head body more : List ℕ) → drop (length head) ((head ++ body) ++ more) ≡ body ++ more
body_begins head body more = ap (drop (length head)) (append_assoc head body more) ∙ drop-append_seam head (body ++ more)

written_at : (status : ℕ) (kind : Content) (body : List ℕ) (close : Bool) (more : List ℕ) → IsStatusCode status → length body < 10 ^ 18
    → IsReplyAt (reply_text status kind body close ++ more) (length (reply_head status kind (length body) close)) status (Some (written_framing status (length body)))
written_at status kind body close more is low =
    let count = length body in
    let head = reply_head status kind count close in
    let text = reply_text status kind body close ++ more in
    record {
      h = written_head status kind count close;
      reads = (
        head_is status kind count close is low,
        append_assoc head body more ∙ ap (λ x. x ++ (body ++ more)) (sym (print_is status kind count close)) ∙ ap (λ x. print_response (written_head status kind count close) ++ x) (sym (body_begins head body more)),
      );
      fits = omega (arith, length-append (head ++ body) more, length-append head body);
      some = head_some status kind count close;
      short = head_short status kind count close is low;
      status_is = sym (decimal_is_IsNumeral status (omega (arith, is.1))).1;
      framing_is = answered_is status kind count close is low;
    }

pub written_is_read : (status : ℕ) (kind : Content) (body : List ℕ) (close : Bool) (more : List ℕ) (answer : Result RespHead RespFault)
    → IsStatusCode status → length body < 10 ^ 18 → IsRespAnswer (reply_text status kind body close ++ more) answer
    → IsButForMemory answer (Ok (Whole (length (reply_head status kind (length body) close)) status (written_framing status (length body))))
written_is_read status kind body close more answer is low said = whole_is_one _ _ status _ (written_at status kind body close more is low) answer said

-- a front of the head is waited for
pub front_waits : (status : ℕ) (kind : Content) (count : ℕ) (close : Bool) (front rest : List ℕ) (answer : Result RespHead RespFault)
    → IsStatusCode status → count < 10 ^ 18 → reply_head status kind count close ≡ front ++ rest → 0 < length rest
    → IsRespAnswer front answer → IsButForMemory answer (Ok Partial)
front_waits status kind count close front rest answer is low same some said =
    let h = written_head status kind count close in
    let printed : front ++ rest ≡ print_response h = sym same ∙ sym (print_is status kind count close) in
    let reads : ReadsResponse (front ++ rest) h [] = (head_is status kind count close is low, printed ∙ sym (append-nil (print_response h))) in
    let short = head_short status kind count close is low in
    partial_is_one front (record {
      none = λ k r whole. no_rest r (response_prefix_free front rest k h r [] whole reads).1;
      may = (rest, h, reads);
      short = omega (arith, ap length same, length-append front rest);
    }) answer said
  where
    no_rest : (r : List ℕ) → r ++ rest ≡ [] → ⊥
    no_rest r none = absurd (omega (arith, ap length none, length-append r rest))
