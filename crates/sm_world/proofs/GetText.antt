-- The text of a GET is read as one request.
use Rattle.std.proofs.Common.{◌≡◌, ◌⊎◌, inl, inr, ⊎_elim, ℕ, ◌+◌, ◌<◌, ◌≤◌, Bool, true, false, IsTrue, List, [], ◌∷◌, ◌++◌, length, take, drop, Ok, Err, None, refl, sym, ◌∙◌, ap, subst, arith, All}
use Rattle.std.proofs.Common.{append_assoc, length-append, take-append-drop, if◌then◌else◌}
use Rattle.std.specs.Prelude.{codes, decimal, nat_lt, Result}
use Rattle.std.specs.List.{list_all}
use Rattle.std.specs.Str.Parse.{AllDigits}
use Rattle.std.proofs.lemmas.Bool.{and_parts, cases_Bool}
use Rattle.std.proofs.lemmas.Bool.Decides.{nat_tests}
use Rattle.std.proofs.lemmas.Fmt.{decimal_is_IsNumeral, length-decimal-le}
use Rattle.std.proofs.lemmas.List.{append-nil}
use Rattle.std.proofs.lemmas.List.Elements.{All-nil, All-cons, All-append}
use Rattle.std.proofs.lemmas.Str.Parse.{digit_from_value}
use Rattle.httparse.specs.Grammar.{is_token_byte, is_value_byte, AllPass, trim_ows, Field, IsField, crlf, RequestHead, IsRequestHead, print_request, ReadsRequest}
use Rattle.httparse.specs.Ascii.{crlf_bytes}
use Rattle.httparse.proofs.GrammarLemmas.{request_prefix_free}
use Rattle.sm_model.specs.declared.cause.Cause.{Cause}
use Rattle.sm_model.specs.declared.cause.Cause.TheVariants.{Method as NoMethod}
use Rattle.sm_model.specs.declared.framing.Framing.TheVariants as framing
use Rattle.sm_model.specs.declared.target.Target.{Target}
use Rattle.sm_addr.specs.Targets.{target_of}
use Rattle.sm_head.specs.declared.asked.Asked.{Asked}
use Rattle.sm_head.specs.declared.asked.Verb.TheVariants.{Get}
use Rattle.sm_head.specs.Heads.{IsHopeless}
use Rattle.sm_head.specs.Judged.{judged, is_push}
use Rattle.sm_world.specs.Replying.{IsRefusable}
use Rattle.sm_head.specs.Requests.{window, IsRefused}
use Rattle.sm_conn.specs.Parts.{PartItem, got, bad, Mode, in_head, in_body, closed, opening, behind_head, Reads, waiting, refused, whole, body, stopped, failed, shut, IsParts}
use Rattle.sm_wire.specs.declared.item.WireItem.{WireItem}
use Rattle.sm_wire.specs.declared.item.WireItem.TheVariants as items
use Rattle.sm_wire.specs.Wire.{unplaced, wire, IsWire}
use Rattle.sm_fetch.specs.Requests.{get_text}
use Rattle.sm_fetch.specs.Origins.{MayBeAsked}

-- ---- the head

field : List ℕ → List ℕ → Field
field name value = record { name = name; raw = 32 ∷ value; end = crlf }

abbrev get_head : List ℕ → ℕ → List ℕ → RequestHead
get_head host port named = record {
  blank = [];
  method = codes "GET";
  target = named;
  minor = 1;
  line_end = crlf;
  fields = field (codes "Host") (host ++ (codes ":" ++ decimal port)) ∷ field (codes "Connection") (codes "close") ∷ [];
  last = crlf;
}

print_is : (host : List ℕ) (port : ℕ) (named : List ℕ) → print_request (get_head host port named) ≡ get_text host port named
unfolding print_request field
print_is host port named = regroup (codes "GET ") named (codes " HTTP/1.1") crlf_bytes (codes "Host: ") host (codes ":") (decimal port) (codes "Connection: close")
  where
    regroup : (g t v e n h c p k : List ℕ) → (((g ++ t) ++ v) ++ e) ++ (((n ++ (h ++ (c ++ p))) ++ e) ++ ((k ++ e) ++ []) ++ e) ≡ ((((g ++ t) ++ v) ++ e) ++ ((((n ++ h) ++ c) ++ p) ++ e)) ++ (k ++ e) ++ e
    regroup g t v e n h c p k = simp (append_assoc, append-nil)

pass_from : (test : ℕ → Bool) (bs : List ℕ) → list_all test bs ≡ true → AllPass test bs
pass_from test [] all = All-nil _
pass_from test (b ∷ bs) all = let parts = and_parts (test b) (list_all test bs) all in All-cons (λ x. IsTrue (test x)) b bs parts.0 (pass_from test bs parts.1)

digits_fit : (ds : List ℕ) → AllDigits 10 ds → AllPass is_value_byte ds
digits_fit [] all = All-nil _
digits_fit (d ∷ ds) (digit, all) =
    let range = digit_from_value d digit in
    let here : is_value_byte d ≡ true = grind (arith, nat_tests, range) in
    All-cons (λ b. IsTrue (is_value_byte b)) d ds here (digits_fit ds all)

name_is_token : (bs : List ℕ) → nat_lt 0 (length bs) ≡ true → list_all is_token_byte bs ≡ true → (0 < length bs) × AllPass is_token_byte bs
name_is_token bs some all = (grind (arith, nat_tests), pass_from is_token_byte bs all)

field_fits : (name value : List ℕ) → nat_lt 0 (length name) ≡ true → list_all is_token_byte name ≡ true → AllPass is_value_byte value → IsField (field name value)
unfolding field
field_fits name value some token all = record { name = name_is_token name some token; raw = All-cons (λ b. IsTrue (is_value_byte b)) 32 value refl all }

host_passes : (host : List ℕ) (port : ℕ) (named : List ℕ) → MayBeAsked host port named → AllPass is_value_byte (host ++ (codes ":" ++ decimal port))
host_passes host port named may =
    All-append (λ b. IsTrue (is_value_byte b)) host (codes ":" ++ decimal port) may.printable
    (All-cons (λ b. IsTrue (is_value_byte b)) 58 (decimal port) refl (digits_fit (decimal port) (let n = may.narrow in decimal_is_IsNumeral port (omega arith)).0.1))

fields_fit : (host : List ℕ) (port : ℕ) (named : List ℕ) → MayBeAsked host port named → All IsField (get_head host port named).fields
unfolding is_token_byte
fields_fit host port named may =
    All-cons IsField (field (codes "Host") (host ++ (codes ":" ++ decimal port))) (field (codes "Connection") (codes "close") ∷ [])
    (field_fits (codes "Host") (host ++ (codes ":" ++ decimal port)) refl refl (host_passes host port named may))
    (All-cons IsField (field (codes "Connection") (codes "close")) [] (field_fits (codes "Connection") (codes "close") refl refl (pass_from is_value_byte (codes "close") refl)) (All-nil IsField))

head_is : (host : List ℕ) (port : ℕ) (named : List ℕ) → MayBeAsked host port named → IsRequestHead (get_head host port named)
unfolding is_token_byte
head_is host port named may = record {
  method = name_is_token (codes "GET") refl refl;
  target = (may.some, may.visible);
  target_text = may.text;
  minor = omega arith;
  fields = fields_fit host port named may;
}

-- the text is this head, and nothing follows it
text_reads : (host : List ℕ) (port : ℕ) (named : List ℕ) → MayBeAsked host port named → ReadsRequest (get_text host port named) (get_head host port named) []
text_reads host port named may = (head_is host port named may, sym (print_is host port named) ∙ sym (append-nil (print_request (get_head host port named))))

-- ---- what it asks

judgement : Target → Result Asked Cause
judgement t = if is_push t then Err NoMethod else Ok (record { method = Get; target = t; framing = framing.None; close = true; expects = false })

judged_is : (host : List ℕ) (port : ℕ) (named : List ℕ) → judged (get_head host port named) ≡ judgement (target_of named)
unfolding field judgement trim_ows
judged_is host port named = refl

text_short : (host : List ℕ) (port : ℕ) (named : List ℕ) → MayBeAsked host port named → length (get_text host port named) ≤ length named + 400
text_short host port named may =
    let few = may.few in
    let narrow = may.narrow in
    let digits = length-decimal-le 5 port (omega arith) (omega arith) (omega arith) in
    simp (length-append) (omega arith)

-- ---- fronts of it

-- a head that stands at the front of a front is this one, and the front is the whole text
head_at : (host : List ℕ) (port : ℕ) (named front rest : List ℕ) → MayBeAsked host port named → front ++ rest ≡ get_text host port named → (h : RequestHead) (more : List ℕ) → ReadsRequest front h more
    → (h ≡ get_head host port named) × (more ++ rest ≡ [])
head_at host port named front rest may is h more reads =
    request_prefix_free front rest h (get_head host port named) more [] reads (subst (λ (b : List ℕ). ReadsRequest b (get_head host port named) []) (sym is) (text_reads host port named may))

none_behind : (xs ys : List ℕ) → xs ++ ys ≡ [] → xs ≡ []
none_behind [] ys is = refl
none_behind (x ∷ xs) ys is = absurd (cc)

-- a line feed in the text leaves a head to come
not_hopeless : (text front : List ℕ) (h : RequestHead) (end : List ℕ) → ReadsRequest text h [] → front ++ end ≡ text → IsHopeless (window front) → ⊥
not_hopeless text front h end reads is hopeless =
    let line = hopeless.front ++ 10 ∷ [] in
    let more = hopeless.rest ++ (drop 8192 front ++ end) in
    let whole : text ≡ line ++ more =
    sym is ∙ ap (λ (b : List ℕ). b ++ end) (sym (take-append-drop 8192 front)) ∙ append_assoc (take 8192 front) (drop 8192 front) end
    ∙ ap (λ (b : List ℕ). b ++ (drop 8192 front ++ end)) (hopeless.splits ∙ sym (append_assoc hopeless.front (10 ∷ []) hopeless.rest)) ∙ append_assoc line hopeless.rest (drop 8192 front ++ end) in
    hopeless.never more h [] (subst (λ (b : List ℕ). ReadsRequest b h []) whole reads)

refusable : (named : List ℕ) (cause : Cause) → judgement (target_of named) ≡ Err cause → (cause ≡ NoMethod) × (is_push (target_of named) ≡ true)
unfolding judgement
refusable named cause is = ⊎_elim
    (λ (push : is_push (target_of named) ≡ true). ((let e : Err NoMethod ≡ Err cause = sym (ap (λ (b : Bool). asked_if b (target_of named)) push) ∙ is in cc), push))
    (λ (other : is_push (target_of named) ≡ false). absurd (let e : Ok _ ≡ Err cause = sym (ap (λ (b : Bool). asked_if b (target_of named)) other) ∙ is in cc)) (cases_Bool (is_push (target_of named)))
  where
    asked_if : Bool → Target → Result Asked Cause
    asked_if b t = if b then Err NoMethod else Ok (record { method = Get; target = t; framing = framing.None; close = true; expects = false })

asked_is : (named : List ℕ) (asked : Asked) → judgement (target_of named) ≡ Ok asked → asked ≡ record { method = Get; target = target_of named; framing = framing.None; close = true; expects = false }
unfolding judgement
asked_is named asked is = ⊎_elim
    (λ (push : is_push (target_of named) ≡ true). absurd (let e : Err NoMethod ≡ Ok asked = sym (ap (λ (b : Bool). asked_if b (target_of named)) push) ∙ is in cc))
    (λ (other : is_push (target_of named) ≡ false).
    let e : Ok (record { method = Get; target = target_of named; framing = framing.None; close = true; expects = false }) ≡ Ok asked =
    sym (ap (λ (b : Bool). asked_if b (target_of named)) other) ∙ is in cc)
    (cases_Bool (is_push (target_of named)))
  where
    asked_if : Bool → Target → Result Asked Cause
    asked_if b t = if b then Err NoMethod else Ok (record { method = Get; target = t; framing = framing.None; close = true; expects = false })

-- what the parts of a front are
abbrev pub AreParts : List ℕ → List PartItem → Type 0
AreParts named parts = (parts ≡ []) ⊎ ((parts ≡ got (target_of named) true ∷ []) ⊎ ((cause : Cause) × (parts ≡ bad cause ∷ []) × IsRefusable named cause))

nothing_more : (mode last : Mode) (bytes : List ℕ) (items : List PartItem) → mode ≡ closed → Reads mode bytes items last → items ≡ []
nothing_more mode last bytes items is (waiting m l b i kept at none empty end) = absurd (let e : closed ≡ in_head kept = sym is ∙ at in cc)
nothing_more mode last bytes items is (refused m l b i kept cause at why said end) = absurd (let e : closed ≡ in_head kept = sym is ∙ at in cc)
nothing_more mode last bytes items is (whole m l b i kept rest h asked others at reads short judges inner said) = absurd (let e : closed ≡ in_head kept = sym is ∙ at in cc)
nothing_more mode last bytes items is (body m l b i place close at still fine said end) = absurd (let e : closed ≡ in_body place close = sym is ∙ at in cc)
nothing_more mode last bytes items is (stopped m l b i place close front rest others at splits stops inner said) = absurd (let e : closed ≡ in_body place close = sym is ∙ at in cc)
nothing_more mode last bytes items is (failed m l b i place close front wrong rest at splits still fine stops said end) = absurd (let e : closed ≡ in_body place close = sym is ∙ at in cc)
nothing_more mode last bytes items is (shut m l b i at none end) = none

module _ (host : List ℕ) (port : ℕ) (named : List ℕ) (may : MayBeAsked host port named) (front rest : List ℕ) (is : front ++ rest ≡ get_text host port named) where
  of_head : (h : RequestHead) (more : List ℕ) → ReadsRequest front h more → judged h ≡ judgement (target_of named)
  of_head h more reads = ap judged (head_at host port named front rest may is h more reads).0 ∙ judged_is host port named

  refused_as : (cause : Cause) → IsRefused front cause → IsRefusable named cause
  refused_as cause (inl (len, at)) = inl (refusable named cause (sym (of_head at.h (drop len front) at.reads) ∙ at.judged_is))
  refused_as cause (inr (inl (bad_, hopeless))) = absurd (not_hopeless (get_text host port named) front (get_head host port named) rest (text_reads host port named may) is hopeless)
  refused_as cause (inr (inr (large, long))) =
      let short = text_short host port named may in
      let full = long.full in
      let size = length-append front rest in
      let all = ap length is in
      inr (large, omega (arith, short, full, size, all))

  parts_of : (mode last : Mode) (parts : List PartItem) → mode ≡ in_head [] → Reads mode front parts last → AreParts named parts
  parts_of mode last parts start (waiting m l b i kept at none empty end) = inl empty
  parts_of mode last parts start (refused m l b i kept cause at why said end) =
      let same : in_head [] ≡ in_head kept = sym start ∙ at in
      let nothing : kept ≡ [] = cc in
      inr (inr (cause, said, refused_as cause (subst (λ (k : List ℕ). IsRefused (k ++ front) cause) nothing why)))
  parts_of mode last parts start (whole m l b i kept more h asked others at reads short judges inner said) =
      let same : in_head [] ≡ in_head kept = sym start ∙ at in
      let nothing : kept ≡ [] = cc in
      let here = subst (λ (k : List ℕ). ReadsRequest (k ++ front) h more) nothing reads in
      let it = asked_is named asked (sym (of_head h more here) ∙ judges) in
      let ends : behind_head asked ≡ closed = ap behind_head it in
      inr (inl (said ∙ ap (λ (o : List PartItem). opening asked ++ o) (nothing_more (behind_head asked) last more others ends inner) ∙ ap (λ (a : Asked). opening a ++ []) it))
  parts_of mode last parts start (body m l b i place close at still fine said end) = absurd (let e : in_head [] ≡ in_body place close = sym start ∙ at in cc)
  parts_of mode last parts start (stopped m l b i place close front' rest' others at splits stops inner said) = absurd (let e : in_head [] ≡ in_body place close = sym start ∙ at in cc)
  parts_of mode last parts start (failed m l b i place close front' wrong rest' at splits still fine stops said end) = absurd (let e : in_head [] ≡ in_body place close = sym start ∙ at in cc)
  parts_of mode last parts start (shut m l b i at none end) = absurd (let e : in_head [] ≡ closed = sym start ∙ at in cc)

  pub front_parts : (parts : List PartItem) → IsParts front parts → AreParts named parts
  front_parts parts (last, reads) = parts_of (in_head []) last parts refl reads

-- ---- what a front gives

-- the one GET that the text is, or the refusal in place of it
abbrev pub IsAsked : List ℕ → WireItem → Type 0
IsAsked named item = (item ≡ items.Get (target_of named) true) ⊎ ((cause : Cause) × (item ≡ items.Refuse (unplaced cause)) × IsRefusable named cause)

-- nothing, or that
abbrev pub IsFew : List ℕ → List WireItem → Type 0
IsFew named given = (given ≡ []) ⊎ ((item : WireItem) × (given ≡ item ∷ []) × IsAsked named item)

wire_few : (named : List ℕ) (parts : List PartItem) → AreParts named parts → IsFew named (wire None parts)
unfolding wire
wire_few named parts (inl none) = inl (ap (wire None) none)
wire_few named parts (inr (inl one)) = inr (items.Get (target_of named) true, ap (wire None) one, inl refl)
wire_few named parts (inr (inr (cause, one, may))) = inr (items.Refuse (unplaced cause), ap (wire None) one, inr (cause, refl, may))

-- what the front of the text of a GET gives
pub front_gives : (host : List ℕ) (port : ℕ) (named front rest : List ℕ) → MayBeAsked host port named → front ++ rest ≡ get_text host port named → (given : List WireItem) → IsWire front given
    → IsFew named given
front_gives host port named front rest may is given (parts, read, said) =
    subst (λ (l : List WireItem). IsFew named l) (sym said) (wire_few named parts (front_parts host port named may front rest is parts read))

-- what comes behind what was given is few too
pub few_behind : (named : List ℕ) (given more : List WireItem) → IsFew named (given ++ more) → IsFew named more
few_behind named [] more few = few
few_behind named (x ∷ given) more (inl none) = absurd (cc)
few_behind named (x ∷ given) more (inr (item, one, asked)) = let rest : given ++ more ≡ [] = cc in inl (last_none given more rest)
  where
    last_none : (xs ys : List WireItem) → xs ++ ys ≡ [] → ys ≡ []
    last_none [] ys is = is
    last_none (z ∷ xs) ys is = absurd (cc)
