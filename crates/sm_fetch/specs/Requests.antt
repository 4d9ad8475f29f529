-- The texts of requests, and how long a reply to each may be. RFC 9112, sections 3 and 7.1; RFC 9110, section 7.2; [MS-SSTR] 2.2.1, 2.2.3.
use Rattle.std.specs.Prelude.{ℕ, zero, suc, List, [], ◌∷◌, ◌++◌, length, take, drop, codes, decimal, false}
use Rattle.std.specs.List.{flat_map}
use Rattle.std.specs.Fmt.{digits}
use Rattle.sm_model.specs.declared.address.Address.{Address}
use Rattle.sm_model.specs.declared.target.Target.TheVariants as target
use Rattle.sm_addr.specs.Paths.{isml}
use Rattle.sm_addr.specs.Written.{escaped, is_plain_in_path, target_written}
use Rattle.sm_head.specs.Replies.{crlf}
use Rattle.sm_fetch.specs.declared.place.Place.{Place}
use Rattle.sm_fetch.specs.Patterns.{filled}

-- bytes of a whole reply
abbrev pub manifest_limit : ℕ
manifest_limit = 67108864

abbrev pub fragment_limit : ℕ
fragment_limit = 70254592

abbrev pub push_limit : ℕ
push_limit = 1048576

-- ---- heads

abbrev pub request_line : List ℕ → List ℕ → List ℕ
request_line method named = method ++ codes " " ++ named ++ codes " HTTP/1.1" ++ crlf

abbrev pub host_line : List ℕ → ℕ → List ℕ
host_line host port = codes "Host: " ++ host ++ codes ":" ++ decimal port ++ crlf

abbrev pub close_line : List ℕ
close_line = codes "Connection: close" ++ crlf

-- the request for a target
abbrev pub get_text : List ℕ → ℕ → List ℕ → List ℕ
get_text host port named = request_line (codes "GET") named ++ host_line host port ++ close_line ++ crlf

-- ---- what is asked

abbrev pub manifest_target : Place → List ℕ
manifest_target place = target_written place.path target.Manifest

abbrev pub manifest_request : Place → List ℕ
manifest_request place = get_text place.host place.port (manifest_target place)

-- the path, and the Url with the bitrate and the start in their places
abbrev pub fragment_target : Place → List ℕ → Address → List ℕ
fragment_target place url a = codes "/" ++ escaped is_plain_in_path place.path ++ isml ++ filled a.bitrate a.time url

abbrev pub fragment_request : Place → List ℕ → Address → List ℕ
fragment_request place url a = get_text place.host place.port (fragment_target place url a)

-- ---- a push

-- a body in pieces of 65,536 bytes, of which the last one may be shorter; it has no more pieces than bytes
abbrev pub pieces_in : ℕ → List ℕ → List (List ℕ)
pieces_in n [] = []
pieces_in zero (b ∷ body) = []
pieces_in (suc n) (b ∷ body) = take 65536 (b ∷ body) ∷ pieces_in n (drop 65536 (b ∷ body))

unfoldable pub pieces : List ℕ → List (List ℕ)
pieces body = pieces_in (length body) body

-- its size in lower-case hexadecimal digits, without leading zeros, and its bytes
abbrev pub chunk : List ℕ → List ℕ
chunk piece = digits 16 false (length piece) ++ crlf ++ piece ++ crlf

abbrev pub last_chunk : List ℕ
last_chunk = codes "0" ++ crlf ++ crlf

abbrev pub chunked : List ℕ → List ℕ
chunked body = flat_map chunk (pieces body) ++ last_chunk

abbrev pub coding_line : List ℕ
coding_line = codes "Transfer-Encoding: chunked" ++ crlf

-- the head of a push to a target
abbrev pub post_head : List ℕ → ℕ → List ℕ → List ℕ
post_head host port named = request_line (codes "POST") named ++ host_line host port ++ coding_line ++ close_line ++ crlf

abbrev pub push_target : Place → List ℕ → List ℕ
push_target place id = target_written place.path (target.Streams id)

abbrev pub push_request : Place → List ℕ → List ℕ → List ℕ
push_request place id body = post_head place.host place.port (push_target place id) ++ chunked body
