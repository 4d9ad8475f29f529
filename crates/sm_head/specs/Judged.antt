-- What a whole request head asks, or why it is refused. RFC 9112, sections 3, 6.3 and 9.6; RFC 9110, sections 8.4, 10.1.1.
use Rattle.std.specs.Prelude.{ℕ, Bool, true, false, ◌&&◌, ◌||◌, not, ◌==◌, nat_lt, List, [], ◌∷◌, length, map, codes, Option, Some, None, Result, Ok, Err, if◌then◌else◌}
use Rattle.std.specs.Str.{bytes_eq}
use Rattle.std.specs.Str.Parse.{digits_value}
use Rattle.httparse.specs.Grammar.{RequestHead}
use Rattle.httparse.specs.Spans.{name_and_value}
use Rattle.sm_model.specs.declared.cause.Cause.{Cause}
use Rattle.sm_model.specs.declared.cause.Cause.TheVariants.{BadHead, HeadTooLarge, Method, Encoded, LengthRequired}
use Rattle.sm_model.specs.declared.framing.Framing.{Framing}
use Rattle.sm_model.specs.declared.framing.Framing.TheVariants as framing
use Rattle.sm_model.specs.declared.target.Target.{Target}
use Rattle.sm_model.specs.declared.target.Target.TheVariants as target
use Rattle.sm_addr.specs.Targets.{target_of}
use Rattle.sm_head.specs.declared.asked.Verb.{Verb}
use Rattle.sm_head.specs.declared.asked.Verb.TheVariants.{Get, Post}
use Rattle.sm_head.specs.declared.asked.Asked.{Asked}
use Rattle.sm_head.specs.Fields.{values_in, has_value, is_several, is_there, is_other}
use Rattle.sm_head.specs.Lengths.{is_length}

abbrev pub Pairs : Type 0
Pairs = List (List ℕ × List ℕ)

-- the values of the fields that tell the body, by their names without regard to case
abbrev pub lengths : Pairs → List (List ℕ)
lengths pairs = values_in (codes "content-length") pairs

abbrev pub transfers : Pairs → List (List ℕ)
transfers pairs = values_in (codes "transfer-encoding") pairs

abbrev pub contents : Pairs → List (List ℕ)
contents pairs = values_in (codes "content-encoding") pairs

-- a length is one of 1 to 18 digits, and a GET has none but 0
abbrev pub is_bad_length : Bool → List (List ℕ) → Bool
is_bad_length get [] = false
is_bad_length get (v ∷ []) = not (is_length v) || (get && not (digits_value 10 v == 0))
is_bad_length get (v ∷ w ∷ vs) = true

-- the fields contradict each other, or a GET has a body
abbrev pub is_bad : Bool → Pairs → Bool
is_bad get pairs =
    is_bad_length get (lengths pairs) || is_several (transfers pairs) || is_several (contents pairs)
    || (is_there (lengths pairs) && is_there (transfers pairs)) || (get && is_there (transfers pairs))

abbrev pub verb_of : List ℕ → Option Verb
verb_of method = if bytes_eq method (codes "GET") then Some Get else if bytes_eq method (codes "POST") then Some Post else None

abbrev pub is_get : Option Verb → Bool
is_get (Some Get) = true
is_get (Some Post) = false
is_get None = false

-- the connection closes behind the reply
abbrev pub closes : ℕ → Pairs → Bool
closes minor pairs = (minor == 0) || has_value (codes "connection") (codes "close") pairs

-- the client waits for leave to send the body
abbrev pub expects : Pairs → Bool
expects pairs = has_value (codes "expect") (codes "100-continue") pairs

-- the body is encoded
abbrev pub is_encoded : Pairs → Bool
is_encoded pairs = is_other (codes "identity") (contents pairs) || is_other (codes "chunked") (transfers pairs)

-- how the body of a POST is framed, by its lengths and its transfer codings
abbrev pub framing_by : List (List ℕ) → List (List ℕ) → Option Framing
framing_by [] [] = None
framing_by [] (t ∷ ts) = Some framing.Chunked
framing_by (v ∷ []) transfer = if is_length v then Some (framing.Counted (digits_value 10 v)) else None
framing_by (v ∷ w ∷ vs) transfer = None

abbrev pub is_push : Target → Bool
is_push target.Manifest = false
is_push (target.Fragment a) = false
is_push (target.Streams id) = true
is_push target.Unknown = false

-- a POST whose body is framed so
abbrev pub framed_by : Option Framing → Target → ℕ → Pairs → Result Asked Cause
framed_by None t minor pairs = Err LengthRequired
framed_by (Some f) t minor pairs = Ok (record { method = Post; target = t; framing = f; close = closes minor pairs; expects = expects pairs })

abbrev pub push_by : Target → ℕ → Pairs → Result Asked Cause
push_by t minor pairs = if is_encoded pairs then Err Encoded else framed_by (framing_by (lengths pairs) (transfers pairs)) t minor pairs

abbrev pub get_by : Target → ℕ → Pairs → Result Asked Cause
get_by t minor pairs = Ok (record { method = Get; target = t; framing = framing.None; close = closes minor pairs; expects = false })

-- a GET has another target than a push, and a POST no other
abbrev pub asked_by : Option Verb → Target → ℕ → Pairs → Result Asked Cause
asked_by (Some Get) t minor pairs = if is_push t then Err Method else get_by t minor pairs
asked_by (Some Post) t minor pairs = if is_push t then push_by t minor pairs else Err Method
asked_by None t minor pairs = Err Method

-- what a head of this method, target, version and fields asks: the first refusal that holds
abbrev pub judged_by : List ℕ → List ℕ → ℕ → Pairs → Result Asked Cause
judged_by method target minor pairs =
    if nat_lt 64 (length pairs) then Err HeadTooLarge else
    if is_bad (is_get (verb_of method)) pairs then Err BadHead else asked_by (verb_of method) (target_of target) minor pairs

-- what a head asks
abbrev pub judged : RequestHead → Result Asked Cause
judged h = judged_by h.method h.target h.minor (map name_and_value h.fields)
