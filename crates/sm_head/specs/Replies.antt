-- How a reply is written. RFC 9112, section 4; RFC 9110, sections 8.3, 8.6 and 15.
use Rattle.std.specs.Prelude.{ℕ, Bool, List, [], ◌∷◌, ◌++◌, length, codes, decimal, unwrap_or, if◌then◌else◌}
use Rattle.http.specs.StatusCode.{reason_phrase}
use Rattle.sm_head.specs.declared.reply.Content.{Content}
use Rattle.sm_head.specs.declared.reply.Content.TheVariants.{Xml, Mp4, Plain}

-- CR LF
abbrev pub crlf : List ℕ
crlf = 13 ∷ 10 ∷ []

abbrev pub kind_text : Content → List ℕ
kind_text Xml = codes "text/xml"
kind_text Mp4 = codes "video/mp4"
kind_text Plain = codes "text/plain"

-- the phrase of a status, if it has one
unfoldable pub phrase : ℕ → List ℕ
phrase status = unwrap_or (reason_phrase status) []

abbrev pub status_line : ℕ → List ℕ
status_line status = codes "HTTP/1.1 " ++ decimal status ++ codes " " ++ phrase status ++ crlf

abbrev pub type_line : Content → List ℕ
type_line kind = codes "Content-Type: " ++ kind_text kind ++ crlf

abbrev pub length_line : ℕ → List ℕ
length_line count = codes "Content-Length: " ++ decimal count ++ crlf

abbrev pub close_line : Bool → List ℕ
close_line close = if close then codes "Connection: close" ++ crlf else []

-- the head, with the empty line that ends it
abbrev pub reply_head : ℕ → Content → ℕ → Bool → List ℕ
reply_head status kind count close = status_line status ++ type_line kind ++ length_line count ++ close_line close ++ crlf

-- the whole reply
abbrev pub reply_text : ℕ → Content → List ℕ → Bool → List ℕ
reply_text status kind body close = reply_head status kind (length body) close ++ body
