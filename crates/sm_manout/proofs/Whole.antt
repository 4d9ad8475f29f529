-- A whole manifest lists every address of its tracks at every time that it was written with.
use Rattle.std.proofs.Common.{◌≡◌, add-one, ◌+◌, ◌<◌, ◌≤◌, ◌^◌, ◌&&◌, ◌||◌, ℕ, suc, Bool, true, false, cond, eqb, List, [], ◌∷◌, ◌++◌, length}
use Rattle.std.proofs.Common.{map, Some, refl, sym, ap, subst, ◌∙◌, ◌⊎◌, inl, inr, append_assoc, All, arith}
use Rattle.std.specs.Prelude.{codes, is_some}
use Rattle.std.specs.List.{AllByRecursion, flat_map, list_any}
use Rattle.std.proofs.lemmas.Bool.{and_parts, eqb-true}
use Rattle.std.proofs.lemmas.List.{append-nil}
use Rattle.std.proofs.lemmas.List.Elements.{recursion_from_All}
use Rattle.std.proofs.lemmas.Slice.Eq.{bytes_eq-Decides}
use Rattle.sm_model.specs.declared.address.Address.{Address}
use Rattle.sm_model.specs.declared.track.Track.{Track}
use Rattle.sm_model.specs.Same.{is_same}
use Rattle.sm_model.specs.Kinds.{kind_name}
use Rattle.sm_model.specs.Names.{is_name}
use Rattle.sm_model.specs.Channels.{IsChannel, IsTrack}
use Rattle.sm_log.specs.Adds.{is_declared, track_at, tracks_of}
use Rattle.sm_log.specs.Times.{entry_at, IsSpan}
use Rattle.sm_catalog.proofs.Counting.{passing_most}
use Rattle.sm_manout.specs.ManifestText.{TimeRun, run_line, run_lines, runs, runs_from, follows, level_line, level_lines, stream_opening, stream_lines, streams_lines, manifest_head, manifest_foot, manifest}
use Rattle.sm_manout.specs.Shown.{Open, none_open, ended_by, lists_from, lists, after_line, line_starts, run_starts, at_bitrates, ListsIn, IsWritable}
use Rattle.sm_manout.proofs.Among.{Has, has_left, has_right, has_map, has_at}
use Rattle.sm_manout.proofs.ShownPieces.{has_no, ended_piece}
use Rattle.sm_manout.proofs.ShownLines.{run_front, run_text, run_says}
use Rattle.sm_manout.proofs.ShownRuns.{IsTime, IsRun, run_first, run_more, run_front_none, after_run, starts_stay, starts_next}
use Rattle.sm_manout.proofs.ShownLevels.{level_front, level_more, level_text, level_says}
use Rattle.sm_manout.proofs.ShownLevelsRead.{IsLine, level_front_none}
use Rattle.sm_manout.proofs.ShownOpening.{opening_more, opening_front, opening_text, opening_says}
use Rattle.sm_manout.proofs.ShownDeclared.{same_is}
use Rattle.sm_manout.proofs.ShownManifest.{level_none, more_none, opening_none}

-- ---- what a text lists

abbrev pub Lists : Address → Open → List ℕ → Type 0
Lists a o text = Has a (lists_from o (ended_by 10 [] text))

line_here : (a : Address) (o : Open) (line rest : List ℕ) → has_no 10 line ≡ true → Has a (flat_map (at_bitrates o) (line_starts line)) → Lists a o (line ++ (10 ∷ rest))
line_here a o line rest none h =
    let T : List (List ℕ) → Type 0 = λ ls. Has a (lists_from o ls) in
    subst T (sym (ended_piece 10 [] line rest none)) (has_left a (flat_map (at_bitrates o) (line_starts line)) (lists_from (after_line o line) (ended_by 10 [] rest)) h)

line_behind : (a : Address) (o : Open) (line rest : List ℕ) → has_no 10 line ≡ true → Lists a (after_line o line) rest → Lists a o (line ++ (10 ∷ rest))
line_behind a o line rest none h =
    let T : List (List ℕ) → Type 0 = λ ls. Has a (lists_from o ls) in
    subst T (sym (ended_piece 10 [] line rest none)) (has_right a (flat_map (at_bitrates o) (line_starts line)) (lists_from (after_line o line) (ended_by 10 [] rest)) h)

-- whole lines, and what stands behind them
whole_lines_of : (p more piece : List ℕ) → (front : List (List ℕ)) × (ended_by 10 piece (p ++ (10 ∷ more)) ≡ front ++ ended_by 10 [] more)
whole_lines_of [] more piece = (piece ∷ [], refl)
whole_lines_of (c ∷ cs) more piece = by_test (eqb c 10) (whole_lines_of cs more []) (whole_lines_of cs more (piece ++ c ∷ []))
  where
    by_test : (b : Bool) → ((front : List (List ℕ)) × (ended_by 10 [] (cs ++ (10 ∷ more)) ≡ front ++ ended_by 10 [] more))
        → ((front : List (List ℕ)) × (ended_by 10 (piece ++ c ∷ []) (cs ++ (10 ∷ more)) ≡ front ++ ended_by 10 [] more))
        → (front : List (List ℕ)) × (cond b (piece ∷ ended_by 10 [] (cs ++ (10 ∷ more))) (ended_by 10 (piece ++ c ∷ []) (cs ++ (10 ∷ more))) ≡ front ++ ended_by 10 [] more)
    by_test true h k = (piece ∷ h.0, ap (λ (l : List (List ℕ)). piece ∷ l) h.1)
    by_test false h k = k

lists_behind : (a : Address) (o : Open) (front rest : List (List ℕ)) → ((o' : Open) → Has a (lists_from o' rest)) → Has a (lists_from o (front ++ rest))
lists_behind a o [] rest h = h o
lists_behind a o (x ∷ xs) rest h = has_right a (flat_map (at_bitrates o) (line_starts x)) (lists_from (after_line o x) (xs ++ rest)) (lists_behind a (after_line o x) xs rest h)

-- what is listed behind whole lines, whatever they open, is listed with them
text_behind : (a : Address) (o : Open) (p more : List ℕ) → ((o' : Open) → Lists a o' more) → Lists a o (p ++ (10 ∷ more))
text_behind a o p more h =
    let T : List (List ℕ) → Type 0 = λ ls. Has a (lists_from o ls) in
    let f = whole_lines_of p more [] in
    subst T (sym f.1) (lists_behind a o f.0 (ended_by 10 [] more) h)

-- ---- qualities

-- the bitrates of a stream's tracks
abbrev rates : List ℕ → List Track → List ℕ
rates name [] = []
rates name (t ∷ ts) = cond (is_same t.name name) (t.bitrate ∷ rates name ts) (rates name ts)

rate_there : (stream : List ℕ) (b : ℕ) (ts : List Track) → is_some (track_at stream b ts) ≡ true → Has b (rates stream ts)
rate_there stream b [] e = absurd (cc)
rate_there stream b (t ∷ ts) e = by_name (is_same t.name stream) (eqb t.bitrate b) refl e (rate_there stream b ts)
  where
    by_name : (n m : Bool) → eqb t.bitrate b ≡ m → is_some (cond (n && m) (Some t) (track_at stream b ts)) ≡ true → (is_some (track_at stream b ts) ≡ true → Has b (rates stream ts))
        → Has b (cond n (t.bitrate ∷ rates stream ts) (rates stream ts))
    by_name true true is h rest = inl (eqb-true t.bitrate b is)
    by_name true false is h rest = inr (rest h)
    by_name false m is h rest = rest h

level_behind : (a : Address) (o : Open) (i : ℕ) (t : Track) (x : List ℕ) → i < 2 ^ 64 → t.bitrate < 2 ^ 32 → has_no 10 (level_front i t.bitrate (level_more t)) ≡ true
    → Lists a (record { stream = o.stream; bitrates = o.bitrates ++ t.bitrate ∷ [] }) x → Lists a o (level_line i t ++ x)
level_behind a o i t x li lb none go =
    let T : List ℕ → Type 0 = λ l. Lists a o l in
    let G : Open → Type 0 = λ o'. Lists a o' x in
    subst T (sym (level_text i t x)) (line_behind a o (level_front i t.bitrate (level_more t)) x none (subst G (sym (level_says o i t.bitrate (level_more t) li lb)) go))

levels_behind : (a : Address) (name bs : List ℕ) (i : ℕ) (ts : List Track) (x : List ℕ) → i + length ts < 2 ^ 64 → AllByRecursion (IsLine (λ n b. Unit {0})) ts
    → Lists a (record { stream = name; bitrates = bs ++ rates name ts }) x → Lists a (record { stream = name; bitrates = bs }) (level_lines i name ts ++ x)
levels_behind a name bs i [] x fits lines h =
    let G : List ℕ → Type 0 = λ l. Lists a (record { stream = name; bitrates = l }) x in
    subst G (append-nil bs) h
levels_behind a name bs i (t ∷ ts) x fits lines h =
    by_test (is_same t.name name) h (λ go. levels_behind a name (bs ++ t.bitrate ∷ []) (suc i) ts x (omega (arith, fits)) lines.1 go) (λ go. levels_behind a name bs i ts x (omega (arith, fits)) lines.1 go)
  where
    by_test : (b : Bool) → Lists a (record { stream = name; bitrates = bs ++ cond b (t.bitrate ∷ rates name ts) (rates name ts) }) x
        → (Lists a (record { stream = name; bitrates = (bs ++ t.bitrate ∷ []) ++ rates name ts }) x → Lists a (record { stream = name; bitrates = bs ++ t.bitrate ∷ [] }) (level_lines (suc i) name ts ++ x))
        → (Lists a (record { stream = name; bitrates = bs ++ rates name ts }) x → Lists a (record { stream = name; bitrates = bs }) (level_lines i name ts ++ x))
        → Lists a (record { stream = name; bitrates = bs }) (cond b (level_line i t ++ level_lines (i + 1) name ts) (level_lines i name ts) ++ x)
    by_test true go more other =
        let T : List ℕ → Type 0 = λ l. Lists a (record { stream = name; bitrates = bs }) l in
        let G : List ℕ → Type 0 = λ l. Lists a (record { stream = name; bitrates = l }) x in
        let none = level_front_none i t.bitrate (level_more t) (omega (arith, fits)) (omega (arith, lines.0.0)) lines.0.1 in
        rw add-one
        (subst T (sym (append_assoc (level_line i t) (level_lines (suc i) name ts) x))
        (level_behind a (record { stream = name; bitrates = bs }) i t (level_lines (suc i) name ts ++ x) (omega (arith, fits)) lines.0.0 none
        (more (subst G (sym (append_assoc bs (t.bitrate ∷ []) (rates name ts))) go))))
    by_test false go more other = other go

opening_behind : (a : Address) (o : Open) (t : Track) (chunks levels : ℕ) (x : List ℕ) → is_name t.name ≡ true → has_no 10 (opening_front (kind_name t.kind) t.name (opening_more t chunks levels)) ≡ true
    → Lists a (record { stream = t.name; bitrates = [] }) x → Lists a o (stream_opening t chunks levels ++ x)
opening_behind a o t chunks levels x is none go =
    let T : List ℕ → Type 0 = λ l. Lists a o l in
    let G : Open → Type 0 = λ o'. Lists a o' x in
    subst T (sym (opening_text t chunks levels x)) (line_behind a o (opening_front (kind_name t.kind) t.name (opening_more t chunks levels)) x none (subst G (sym (opening_says o t.kind t.name (opening_more t chunks levels) is)) go))

-- ---- times

-- an address of the open stream, at one of its bitrates
record IsOf (a : Address) (o : Open) : Type 0 where
  stream : o.stream ≡ a.stream
  rate : Has a.bitrate o.bitrates

starts_here : (a : Address) (o : Open) → IsOf a o → (ss : List ℕ) → Has a.time ss → Has a (flat_map (at_bitrates o) ss)
starts_here a o of [] h = absurd h
starts_here a o of (s ∷ ss) (inl e) =
    let at : Address → Type 0 = λ x. Has x (at_bitrates o s) in
    let named : List ℕ → Address = λ n. record { stream = n; bitrate = a.bitrate; time = s } in
    let timed : ℕ → Address = λ t. record { stream = a.stream; bitrate = a.bitrate; time = t } in
    has_left a (at_bitrates o s) (flat_map (at_bitrates o) ss)
    (subst at (ap named of.stream ∙ ap timed e) (has_map (λ (b : ℕ). record { stream = o.stream; bitrate = b; time = s }) a.bitrate o.bitrates of.rate))
starts_here a o of (s ∷ ss) (inr h) = has_right a (at_bitrates o s) (flat_map (at_bitrates o) ss) (starts_here a o of ss h)

run_here : (a : Address) (o : Open) (r : TimeRun) (x : List ℕ) → IsOf a o → r.start < 2 ^ 64 → r.duration < 2 ^ 64 → r.count < 2 ^ 64 → Has a.time (run_starts r.count r.start r.duration)
    → Lists a o (run_line r ++ x)
run_here a o r x of ls ld lr h =
    let b = eqb r.count 1 in
    let T : List ℕ → Type 0 = λ l. Lists a o l in
    let A : List ℕ → Type 0 = λ l. Has a (flat_map (at_bitrates o) l) in
    subst T (sym (run_text r x)) (line_here a o (run_front b r.start r.duration r.count) x (run_front_none b r.start r.duration r.count ls ld lr)
    (subst A (sym (run_says r.start r.duration r.count ls ld lr)) (starts_here a o of (run_starts r.count r.start r.duration) h)))

run_behind : (a : Address) (o : Open) (r : TimeRun) (x : List ℕ) → r.start < 2 ^ 64 → r.duration < 2 ^ 64 → r.count < 2 ^ 64 → Lists a o x → Lists a o (run_line r ++ x)
run_behind a o r x ls ld lr go =
    let b = eqb r.count 1 in
    let T : List ℕ → Type 0 = λ l. Lists a o l in
    let G : Open → Type 0 = λ o'. Lists a o' x in
    subst T (sym (run_text r x)) (line_behind a o (run_front b r.start r.duration r.count) x (run_front_none b r.start r.duration r.count ls ld lr) (subst G (sym (after_run o b r.start r.duration r.count)) go))

abbrev starts : List (ℕ × ℕ) → List ℕ
starts ys = map (λ (y : ℕ × ℕ). y.0) ys

abbrev Any : ℕ → Type 0
Any n = Unit {0}

-- the start stands in the run that is open, or among those behind it
abbrev Waits : ℕ → ℕ → ℕ → ℕ × ℕ → List (ℕ × ℕ) → Type 0
Waits t start count last ys = Has t (run_starts count start last.1) ⊎ Has t (starts ys)

runs_list : (a : Address) (o : Open) (x : List ℕ) (start count : ℕ) (last : ℕ × ℕ) (ys : List (ℕ × ℕ)) → IsOf a o → IsRun Any start count last → count + length ys < 2 ^ 64
    → AllByRecursion (IsTime Any) ys → Waits a.time start count last ys → Lists a o (run_lines (runs_from start count last ys) ++ x)
runs_list a o x start count last [] of run fits times (inl h) =
    let T : List ℕ → Type 0 = λ l. Lists a o (l ++ x) in
    let r : TimeRun = record { start = start; duration = last.1; count = count } in
    subst T (sym (append-nil (run_line r))) (run_here a o r x of run.start_fits run.last_fits (omega (arith, fits)) h)
runs_list a o x start count last [] of run fits times (inr h) = absurd h
runs_list a o x start count last (y ∷ ys) of run fits times w =
    by_test (follows last y) refl w (λ more go. runs_list a o x start (suc count) y ys of more (omega (arith, fits)) times.1 go)
    (λ go. runs_list a o x y.0 1 y ys of (run_first Any y times.0) (omega (arith, fits)) times.1 go)
  where
    r : TimeRun
    r = record { start = start; duration = last.1; count = count }

    gone_on : y.1 ≡ last.1 → y.0 ≡ last.0 + last.1 → Waits a.time start count last (y ∷ ys) → Waits a.time start (suc count) y ys
    gone_on same next (inl h) =
        let D : ℕ → Type 0 = λ d. Has a.time (run_starts (suc count) start d) in
        inl (subst D (sym same) (starts_stay a.time count start last.1 h))
    gone_on same next (inr (inl e)) =
        let D : ℕ → Type 0 = λ d. Has a.time (run_starts (suc count) start d) in
        let N : ℕ → Type 0 = λ n. Has n (run_starts (suc count) start last.1) in
        inl (subst D (sym same) (subst N (run.ends ∙ sym next ∙ e) (starts_next count start last.1)))
    gone_on same next (inr (inr h)) = inr h

    begun : Waits a.time start count last (y ∷ ys) → (Waits a.time y.0 1 y ys → Lists a o (run_lines (runs_from y.0 1 y ys) ++ x)) → Lists a o (run_line r ++ (run_lines (runs_from y.0 1 y ys) ++ x))
    begun (inl h) other = run_here a o r (run_lines (runs_from y.0 1 y ys) ++ x) of run.start_fits run.last_fits (omega (arith, fits)) h
    begun (inr (inl e)) other = run_behind a o r (run_lines (runs_from y.0 1 y ys) ++ x) run.start_fits run.last_fits (omega (arith, fits)) (other (inl (inl e)))
    begun (inr (inr h)) other = run_behind a o r (run_lines (runs_from y.0 1 y ys) ++ x) run.start_fits run.last_fits (omega (arith, fits)) (other (inr h))

    by_test : (b : Bool) → follows last y ≡ b → Waits a.time start count last (y ∷ ys)
        → (IsRun Any start (suc count) y → Waits a.time start (suc count) y ys → Lists a o (run_lines (runs_from start (suc count) y ys) ++ x))
        → (Waits a.time y.0 1 y ys → Lists a o (run_lines (runs_from y.0 1 y ys) ++ x))
        → Lists a o (run_lines (cond b (runs_from start (count + 1) y ys) (r ∷ runs_from y.0 1 y ys)) ++ x)
    by_test true is wait more other =
        let parts = and_parts (eqb y.1 last.1) (eqb y.0 (last.0 + last.1)) is in
        let same = eqb-true y.1 last.1 parts.0 in
        let next = eqb-true y.0 (last.0 + last.1) parts.1 in
        rw add-one (more (run_more Any start count last y run times.0 same next) (gone_on same next wait))
    by_test false is wait more other =
        let T : List ℕ → Type 0 = λ l. Lists a o l in
        subst T (sym (append_assoc (run_line r) (run_lines (runs_from y.0 1 y ys)) x)) (begun wait other)

all_runs_list : (a : Address) (o : Open) (x : List ℕ) (ys : List (ℕ × ℕ)) → IsOf a o → length ys < 2 ^ 64 → AllByRecursion (IsTime Any) ys → Has a.time (starts ys) → Lists a o (run_lines (runs ys) ++ x)
all_runs_list a o x [] of fits times h = absurd h
all_runs_list a o x (y ∷ ys) of fits times (inl e) = runs_list a o x y.0 1 y ys of (run_first Any y times.0) (omega (arith, fits)) times.1 (inl (inl e))
all_runs_list a o x (y ∷ ys) of fits times (inr h) = runs_list a o x y.0 1 y ys of (run_first Any y times.0) (omega (arith, fits)) times.1 (inr h)

start_there : (t : ℕ) (ys : List (ℕ × ℕ)) → is_some (entry_at t ys) ≡ true → Has t (starts ys)
start_there t [] e = absurd (cc)
start_there t (y ∷ ys) e = by_test (eqb y.0 t) refl e (start_there t ys)
  where
    by_test : (b : Bool) → eqb y.0 t ≡ b → is_some (cond b (Some y.1) (entry_at t ys)) ≡ true → (is_some (entry_at t ys) ≡ true → Has t (starts ys)) → Has t (y.0 ∷ starts ys)
    by_test true is h rest = inl (eqb-true y.0 t is)
    by_test false is h rest = inr (rest h)

-- ---- streams

-- what holds of the channel and its times
record IsSaid (channel : List Track) (times : List ℕ → List (ℕ × ℕ)) : Type 0 where
  few : length channel ≤ 64
  lines : AllByRecursion (IsLine (λ n b. Unit {0})) channel
  spans : (name : List ℕ) → AllByRecursion (IsTime Any) (times name)
  short : (name : List ℕ) → length (times name) < 2 ^ 64

stream_list : (channel : List Track) (times : List ℕ → List (ℕ × ℕ)) (a : Address) (t : Track) (o : Open) (x : List ℕ) → IsSaid channel times → IsWritable t → t.name ≡ a.stream
    → is_some (track_at t.name a.bitrate channel) ≡ true → is_some (entry_at a.time (times t.name)) ≡ true → Lists a o (stream_lines channel (times t.name) t ++ x)
unfolding stream_lines
stream_list channel times a t o x said fit is rate there =
    let T : List ℕ → Type 0 = λ l. Lists a o l in
    let ys = times t.name in
    let opening = stream_opening t (length ys) (length (tracks_of t.name channel)) in
    let levels = level_lines 0 t.name channel in
    let cs = run_lines (runs ys) in
    let few : length (tracks_of t.name channel) < 2 ^ 64 = omega (arith, passing_most (λ (u : Track). is_same u.name t.name) channel, said.few) in
    let split : (opening ++ (levels ++ (cs ++ codes "</StreamIndex>\n"))) ++ x ≡ opening ++ (levels ++ (cs ++ (codes "</StreamIndex>\n" ++ x))) = simp append_assoc in
    subst T (sym split) (opening_behind a o t (length ys) (length (tracks_of t.name channel)) (levels ++ (cs ++ (codes "</StreamIndex>\n" ++ x))) fit.name
    (opening_none t (opening_more t (length ys) (length (tracks_of t.name channel))) fit.name (more_none t (length ys) (length (tracks_of t.name channel)) fit.timescale (said.short t.name) few))
    (levels_behind a t.name [] 0 channel (cs ++ (codes "</StreamIndex>\n" ++ x)) (omega (arith, said.few)) said.lines
    (all_runs_list a (record { stream = t.name; bitrates = rates t.name channel }) (codes "</StreamIndex>\n" ++ x) ys (record { stream = is; rate = rate_there t.name a.bitrate channel rate })
    (said.short t.name) (said.spans t.name) (start_there a.time ys there))))

stream_behind : (channel : List Track) (ys : List (ℕ × ℕ)) (a : Address) (t : Track) (o : Open) (x : List ℕ) → ((o' : Open) → Lists a o' x) → Lists a o (stream_lines channel ys t ++ x)
unfolding stream_lines
stream_behind channel ys a t o x go =
    let T : List ℕ → Type 0 = λ l. Lists a o l in
    let opening = stream_opening t (length ys) (length (tracks_of t.name channel)) in
    let levels = level_lines 0 t.name channel in
    let cs = run_lines (runs ys) in
    let split : (opening ++ (levels ++ (cs ++ codes "</StreamIndex>\n"))) ++ x ≡ (opening ++ (levels ++ (cs ++ codes "</StreamIndex>"))) ++ (10 ∷ x) = simp append_assoc in
    subst T (sym split) (text_behind a o (opening ++ (levels ++ (cs ++ codes "</StreamIndex>"))) x go)

-- the stream of a name stands where its first track does
abbrev IsAmong : List ℕ → List Track → Type 0
IsAmong name ts = list_any (λ (u : Track). is_same u.name name) ts ≡ true

abbrev IsNotAmong : List ℕ → List Track → Type 0
IsNotAmong name ts = list_any (λ (u : Track). is_same u.name name) ts ≡ false

same_too : (a b : List ℕ) → a ≡ b → is_same a b ≡ true
same_too a b e = (bytes_eq-Decides a b).1 e

any_more : (name : List ℕ) (ts : List Track) (t : Track) → IsNotAmong name ts → is_same t.name name ≡ false → IsNotAmong name (ts ++ t ∷ [])
any_more name [] t none other = rw other refl
any_more name (u ∷ ts) t none other = by_test (is_same u.name name) none (any_more name ts t)
  where
    by_test : (b : Bool) → (b || list_any (λ (u : Track). is_same u.name name) ts) ≡ false → (IsNotAmong name ts → is_same t.name name ≡ false → IsNotAmong name (ts ++ t ∷ []))
        → (b || list_any (λ (u : Track). is_same u.name name) (ts ++ t ∷ [])) ≡ false
    by_test true h rest = absurd (cc)
    by_test false h rest = rest h other

all_list : (channel : List Track) (times : List ℕ → List (ℕ × ℕ)) (a : Address) (earlier ts : List Track) (o : Open) (x : List ℕ) → IsSaid channel times → AllByRecursion IsWritable ts
    → is_declared channel a ≡ true → is_some (entry_at a.time (times a.stream)) ≡ true → IsNotAmong a.stream earlier → IsAmong a.stream ts
    → Lists a o (streams_lines channel times earlier ts ++ x)
all_list channel times a earlier [] o x said fits rate there none some = absurd (cc)
all_list channel times a earlier (t ∷ ts) o x said fits rate there none some =
    by_name (is_same t.name a.stream) refl some (λ other o' rest. all_list channel times a (earlier ++ t ∷ []) ts o' x said fits.1 rate there (any_more a.stream earlier t none other) rest)
  where
    more : List ℕ
    more = streams_lines channel times (earlier ++ t ∷ []) ts

    lines : List ℕ
    lines = stream_lines channel (times t.name) t

    ours : t.name ≡ a.stream → (b : Bool) → list_any (λ (u : Track). is_same u.name t.name) earlier ≡ b → Lists a o ((cond b [] lines ++ more) ++ x)
    ours is true e =
        let N : List ℕ → Type 0 = λ n. list_any (λ (u : Track). is_same u.name n) earlier ≡ true in
        let here : list_any (λ (u : Track). is_same u.name a.stream) earlier ≡ true = subst N is e in
        absurd (let no = sym here ∙ none in cc)
    ours is false e =
        let T : List ℕ → Type 0 = λ l. Lists a o l in
        let R : List ℕ → Type 0 = λ n. is_some (track_at n a.bitrate channel) ≡ true in
        let E : List ℕ → Type 0 = λ n. is_some (entry_at a.time (times n)) ≡ true in
        subst T (sym (append_assoc lines more x)) (stream_list channel times a t o (more ++ x) said fits.0 is (subst R (sym is) rate) (subst E (sym is) there))

    others : (b : Bool) → ((o' : Open) → Lists a o' (more ++ x)) → Lists a o ((cond b [] lines ++ more) ++ x)
    others true rest = rest o
    others false rest =
        let T : List ℕ → Type 0 = λ l. Lists a o l in
        subst T (sym (append_assoc lines more x)) (stream_behind channel (times t.name) a t o (more ++ x) rest)

    by_name : (b : Bool) → is_same t.name a.stream ≡ b → (b || list_any (λ (u : Track). is_same u.name a.stream) ts) ≡ true
        → (is_same t.name a.stream ≡ false → (o' : Open) → IsAmong a.stream ts → Lists a o' (more ++ x))
        → Lists a o ((cond (list_any (λ (u : Track). is_same u.name t.name) earlier) [] lines ++ more) ++ x)
    by_name true is some rest = ours (same_is t.name a.stream is) (list_any (λ (u : Track). is_same u.name t.name) earlier) refl
    by_name false is some rest = others (list_any (λ (u : Track). is_same u.name t.name) earlier) (λ o'. rest is o' some)

among : (stream : List ℕ) (b : ℕ) (ts : List Track) → is_some (track_at stream b ts) ≡ true → IsAmong stream ts
among stream b [] e = absurd (cc)
among stream b (t ∷ ts) e = by_name (is_same t.name stream) (eqb t.bitrate b) e (among stream b ts)
  where
    by_name : (n m : Bool) → is_some (cond (n && m) (Some t) (track_at stream b ts)) ≡ true → (is_some (track_at stream b ts) ≡ true → IsAmong stream ts)
        → (n || list_any (λ (u : Track). is_same u.name stream) ts) ≡ true
    by_name true m h rest = refl
    by_name false m h rest = rest h

head_behind : (a : Address) (x : List ℕ) → Lists a none_open x → Lists a none_open (manifest_head ++ x)
unfolding after_line line_starts
head_behind a x go = go

pub whole_lists : (channel : List Track) (times : List ℕ → List (ℕ × ℕ)) (a : Address) → IsChannel channel → All IsWritable channel → ((name : List ℕ) → All IsSpan (times name))
    → ((name : List ℕ) → length (times name) < 2 ^ 64) → is_declared channel a ≡ true → is_some (entry_at a.time (times a.stream)) ≡ true → ListsIn (manifest channel times) a
unfolding manifest
whole_lists channel times a valid fits spans short rate there =
    let each = recursion_from_All IsWritable channel fits in
    let said : IsSaid channel times = record {
      few = valid.few;
      lines = every_line channel (recursion_from_All IsTrack channel valid.each) each;
      spans = λ name. every_time (times name) (recursion_from_All IsSpan (times name) (spans name));
      short = short;
    } in
    has_at a (lists (manifest_head ++ (streams_lines channel times [] channel ++ manifest_foot)))
    (head_behind a (streams_lines channel times [] channel ++ manifest_foot) (all_list channel times a [] channel none_open manifest_foot said each rate there refl (among a.stream a.bitrate channel rate)))
  where
    every_line : (ts : List Track) → AllByRecursion IsTrack ts → AllByRecursion IsWritable ts → AllByRecursion (IsLine (λ n b. Unit {0})) ts
    every_line [] tracks writable = tt
    every_line (t ∷ ts) tracks writable = ((writable.0.bitrate, level_none t tracks.0.fourcc writable.0.numbers, tt), every_line ts tracks.1 writable.1)

    every_time : (ys : List (ℕ × ℕ)) → AllByRecursion IsSpan ys → AllByRecursion (IsTime Any) ys
    every_time [] all = tt
    every_time (y ∷ ys) all = ((tt, omega (arith, all.0.1), omega (arith, all.0.1)), every_time ys all.1)
