-- What a part of a reply shows: its status, and so much of its body as is there.
use Rattle.std.specs.Prelude.{ℕ, Bool, List, [], ◌∷◌, ◌++◌, drop, codes, decimal, nat_eq, if◌then◌else◌}
use Rattle.std.specs.List.{starts_with}
use Rattle.sm_head.specs.Replies.{crlf}

-- whether a part shows that status: it begins with the version and the status
abbrev pub shows_status : ℕ → List ℕ → Bool
shows_status status part = starts_with nat_eq part (codes "HTTP/1.1 " ++ decimal status)

-- what stands behind the first empty line, nothing where there is none
abbrev pub body_of : List ℕ → List ℕ
body_of [] = []
body_of (c ∷ cs) = if starts_with nat_eq (c ∷ cs) (crlf ++ crlf) then drop 4 (c ∷ cs) else body_of cs
