-- The lines of one stream.
use Rattle.std.proofs.Common.{◌≡◌, ◌<◌, ◌^◌, ℕ, true, List, [], ◌∷◌, ◌++◌, length, sym, subst, append_assoc, arith}
use Rattle.std.specs.Prelude.{codes}
use Rattle.std.specs.List.{AllByRecursion, flat_map}
use Rattle.sm_model.specs.declared.address.Address.{Address}
use Rattle.sm_model.specs.declared.track.Track.{Track}
use Rattle.sm_model.specs.Kinds.{kind_name}
use Rattle.sm_model.specs.Same.{is_same}
use Rattle.sm_model.specs.Names.{is_name}
use Rattle.sm_log.specs.Adds.{tracks_of}
use Rattle.sm_manout.specs.ManifestText.{level_lines, run_lines, runs, stream_opening, stream_lines}
use Rattle.sm_manout.specs.Shown.{Open, after_line, line_starts, at_bitrates}
use Rattle.sm_manout.proofs.ShownPieces.{has_no, Good}
use Rattle.sm_manout.proofs.ShownRuns.{IsTime, run_first, runs_read}
use Rattle.sm_manout.proofs.ShownOpening.{opening_front, opening_more, opening_read}
use Rattle.sm_manout.proofs.ShownLevelsRead.{IsLine, levels_read}

pub foot_read : (P : Address → Type 0) (o : Open) (x : List ℕ) → Good P o x → Good P o (codes "</StreamIndex>\n" ++ x)
unfolding after_line line_starts
foot_read P o x go = go

pub all_runs : (P : Address → Type 0) (Q : ℕ → Type 0) (o : Open) (x : List ℕ) (ts : List (ℕ × ℕ)) → ((ss : List ℕ) → AllByRecursion Q ss → AllByRecursion P (flat_map (at_bitrates o) ss)) → length ts < 2 ^ 64
    → AllByRecursion (IsTime Q) ts → Good P o x → Good P o (run_lines (runs ts) ++ x)
all_runs P Q o x [] each fits times go = go
all_runs P Q o x (y ∷ ys) each fits times go = runs_read P Q o x y.0 1 y ys each (run_first Q y times.0) (omega (arith, fits)) times.1 go

-- the stream whose first track is t
pub stream_read : (P : Address → Type 0) (R : List ℕ → ℕ → Type 0) (Q : ℕ → Type 0) (channel : List Track) (ts : List (ℕ × ℕ)) (t : Track) (o : Open) (x : List ℕ) → is_name t.name ≡ true
    → has_no 10 (opening_front (kind_name t.kind) t.name (opening_more t (length ts) (length (tracks_of t.name channel)))) ≡ true
    → ((u : Track) → is_same u.name t.name ≡ true → R u.name u.bitrate → R t.name u.bitrate) → length channel < 2 ^ 64 → AllByRecursion (IsLine R) channel
    → ((rates ss : List ℕ) → AllByRecursion (R t.name) rates → AllByRecursion Q ss → AllByRecursion P (flat_map (at_bitrates (record { stream = t.name; bitrates = rates })) ss))
    → length ts < 2 ^ 64 → AllByRecursion (IsTime Q) ts → ((o' : Open) → Good P o' x) → Good P o (stream_lines channel ts t ++ x)
unfolding stream_lines
stream_read P R Q channel ts t o x is none same few lines each fits times go =
    let T : List ℕ → Type 0 = λ l. Good P o l in
    let opening = stream_opening t (length ts) (length (tracks_of t.name channel)) in
    let levels = level_lines 0 t.name channel in
    let cs = run_lines (runs ts) in
    let split : (opening ++ (levels ++ (cs ++ codes "</StreamIndex>\n"))) ++ x ≡ opening ++ (levels ++ (cs ++ (codes "</StreamIndex>\n" ++ x))) = simp append_assoc in
    subst T (sym split) (opening_read P o t (length ts) (length (tracks_of t.name channel)) (levels ++ (cs ++ (codes "</StreamIndex>\n" ++ x))) is none
    (levels_read P R t.name [] 0 channel (cs ++ (codes "</StreamIndex>\n" ++ x)) same (omega (arith, few)) lines tt (λ rates all.
    all_runs P Q (record { stream = t.name; bitrates = rates }) (codes "</StreamIndex>\n" ++ x) ts (λ ss. each rates ss all) fits times
    (foot_read P (record { stream = t.name; bitrates = rates }) x (go (record { stream = t.name; bitrates = rates }))))))
