-- A stream is read as what was written of it.
use Rattle.std.proofs.Common.{◌≡◌, ◌<◌, ◌≤◌, ◌+◌, ◌*◌, ◌^◌, ℕ, zero, suc, Bool, true, false, cond, eqb, leb, List, [], ◌∷◌, ◌++◌, length, Some, None, Ok, refl, sym, ap, subst, ◌∙◌, append_assoc, arith}
use Rattle.std.specs.Prelude.{codes, decimal}
use Rattle.std.specs.List.{AllByRecursion, list_any}
use Rattle.std.proofs.lemmas.Bool.{lt-leb, ne_eqb}
use Rattle.std.proofs.lemmas.List.{append-nil}
use Rattle.sm_model.specs.declared.tag.Attribute.{Attribute}
use Rattle.sm_tag.specs.declared.grammar.Markup.TheVariants as markup
use Rattle.sm_model.specs.declared.track.Track.{Track}
use Rattle.sm_model.specs.Digits.{number_of}
use Rattle.sm_model.specs.Same.{is_same}
use Rattle.sm_model.specs.Kinds.{kind_name}
use Rattle.sm_tag.specs.Elements.{attribute_of}
use Rattle.sm_model.specs.Names.{is_name}
use Rattle.sm_tag.specs.TagMarkup.{finish_at}
use Rattle.sm_tag.specs.TagParts.{name_at}
use Rattle.sm_tag.specs.TagText.{attributes_then, closing, left_at}
use Rattle.sm_log.specs.Adds.{tracks_of}
use Rattle.sm_log.specs.Times.{AreTimes}
use Rattle.sm_tag.proofs.WrittenTags.{Starts-again}
use Rattle.sm_smil.proofs.WrittenValues.{decimal_again, name_plain}
use Rattle.sm_catalog.proofs.Counting.{DifferInBitrate}
use Rattle.sm_manin.specs.declared.raw.RawLevel.{RawLevel}
use Rattle.sm_manin.specs.declared.raw.RawStream.{RawStream}
use Rattle.sm_manin.specs.declared.raw.RawTime.{RawTime}
use Rattle.sm_manin.specs.Values.{narrow_or}
use Rattle.sm_manin.specs.ManifestWalk.{Walk, time_of}
use Rattle.sm_manin.specs.RunTimes.{times_in}
use Rattle.sm_manin.specs.ManifestFaults.{name_of, is_stream_at_fault, level_faults, stream_faults}
use Rattle.sm_manin.specs.Listings.{levels_of, listing_of}
use Rattle.sm_manout.specs.ManifestText.{TimeRun, attribute, number_attribute, run_line, run_lines, runs, level_lines, url, stream_opening, stream_lines}
use Rattle.sm_manout.specs.ReadAgain.{stream_again}
use Rattle.sm_manout.proofs.ReadValues.{wide_plain, kind_again, kind_plain, url_plain, url_again}
use Rattle.sm_manout.proofs.ReadLines.{Leads, Begins, start_line, finish_line, attr, attribute_text, spells_then, Spells, Written, and_then, one_written, none_written, all_written}
use Rattle.sm_manout.proofs.ReadRuns.{IsRunTime, AreRunTimes, run_times_push, RunsFit, times_again, all_runs_again, all_runs_fit}
use Rattle.sm_manout.proofs.ReadLevels.{in_root, in_stream, walk_out, walk_in, AreLevels, levels_len, IsFit, lines_of, lines_are, nothing_apart, levels_read, levels_value, lines_begin}

-- ---- the lines of runs

abbrev count_attr : Bool → ℕ → List Attribute
count_attr true count = []
count_attr false count = attr (codes "r") (decimal count) ∷ []

abbrev run_attrs : TimeRun → List Attribute
run_attrs r = attr (codes "t") (decimal r.start) ∷ attr (codes "d") (decimal r.duration) ∷ count_attr (eqb r.count 1) r.count

count_spells : (b : Bool) (count : ℕ) → Spells (cond b [] (number_attribute (codes "r") count)) (count_attr b count)
count_spells true count rest = refl
count_spells false count rest = attribute_text (codes "r") (decimal count) rest

run_text : (r : TimeRun) (x : List ℕ) → run_line r ++ x ≡ 60 ∷ codes "c" ++ attributes_then (run_attrs r) (closing true (10 ∷ x))
unfolding run_line
run_text r x =
    let y = closing true (10 ∷ x) in
    let count : (cond (eqb r.count 1) [] (number_attribute (codes "r") r.count) ++ codes "/>\n") ++ x ≡ attributes_then (count_attr (eqb r.count 1) r.count) y =
    spells_then (cond (eqb r.count 1) [] (number_attribute (codes "r") r.count)) (codes "/>\n") x y (count_attr (eqb r.count 1) r.count) (count_spells (eqb r.count 1) r.count) refl in
    let duration = spells_then (number_attribute (codes "d") r.duration) _ x _ (attr (codes "d") (decimal r.duration) ∷ []) (attribute_text (codes "d") (decimal r.duration)) count in
    let start = spells_then (number_attribute (codes "t") r.start) _ x _ (attr (codes "t") (decimal r.start) ∷ []) (attribute_text (codes "t") (decimal r.start)) duration in
    ap (λ (l : List ℕ). 60 ∷ codes "c" ++ l) start

abbrev run_names : List (List ℕ)
run_names = codes "t" ∷ codes "d" ∷ codes "r" ∷ []

count_written : (b : Bool) (count : ℕ) → count < 2 ^ 64 → Written (codes "t" ∷ codes "d" ∷ []) run_names (count_attr b count)
count_written true count low = none_written (codes "t" ∷ codes "d" ∷ []) (codes "r")
count_written false count low = one_written (codes "t" ∷ codes "d" ∷ []) (codes "r") (decimal count) (refl, refl) (wide_plain count low) refl

-- a run whose numbers have 64 bits
record IsWideRun (r : TimeRun) : Type 0 where
  start : r.start < 2 ^ 64
  duration : r.duration < 2 ^ 64
  count : r.count < 2 ^ 64

run_written : (r : TimeRun) → IsWideRun r → Written [] run_names (run_attrs r)
run_written r wide =
    and_then (one_written [] (codes "t") (decimal r.start) (refl, refl) (wide_plain r.start wide.start) refl)
    (and_then (one_written (codes "t" ∷ []) (codes "d") (decimal r.duration) (refl, refl) (wide_plain r.duration wide.duration) refl)
    (count_written (eqb r.count 1) r.count wide.count))

count_said : (t d : Attribute) (b : Bool) (count : ℕ) → attribute_of (codes "r") (attr (codes "t") t.value ∷ attr (codes "d") d.value ∷ count_attr b count) ≡ cond b None (Some (decimal count))
count_said t d true count = refl
count_said t d false count = refl

is_run_time : (r : TimeRun) (at : ℕ) → IsRunTime r (time_of (run_attrs r) at)
is_run_time r at = record {
  start = refl;
  duration = refl;
  count = count_said (attr (codes "t") (decimal r.start)) (attr (codes "d") (decimal r.duration)) (eqb r.count 1) r.count;
}

run_begins : (r : TimeRun) (x : List ℕ) → Begins (run_line r ++ x)
unfolding run_line
run_begins r x = (_, refl)

runs_begin : (rs : List TimeRun) (x : List ℕ) → Begins x → Begins (run_lines rs ++ x)
runs_begin [] x begins = begins
runs_begin (r ∷ rs) x begins = rw (append_assoc (run_line r) (run_lines rs) x) (run_begins r (run_lines rs ++ x))

run_read : (Good : Walk → Type 0) (size end : ℕ) (x : List ℕ) (at : ℕ) (done : List RawStream) (s : RawStream) (r : TimeRun) → Begins x → IsWideRun r
    → ((here : ℕ) → Leads Good (left_at size end x in_stream) (walk_in at done (record s { times = s.times ++ time_of (run_attrs r) here ∷ [] }))) → Leads Good (left_at size end (run_line r ++ x) in_stream) (walk_in at done s)
run_read Good size end x at done s r begins wide go =
    let P : List ℕ → Type 0 = λ l. Leads Good (left_at size end l in_stream) (walk_in at done s) in
    subst P (sym (run_text r x)) (start_line Good size end x in_stream (codes "c") (run_attrs r) true (walk_in at done s) begins (refl, refl) (refl, refl)
    (Starts-again (codes "c") (run_attrs r) true (10 ∷ x) (refl, refl) (all_written run_names (run_attrs r) (run_written r wide))) go)

runs_read : (Good : Walk → Type 0) (size end : ℕ) (x : List ℕ) (at : ℕ) (done : List RawStream) (s : RawStream) (before rest : List TimeRun)
    (cs : List RawTime) → Begins x → AllByRecursion IsWideRun rest → AreRunTimes before cs
    → ((all : List RawTime) → AreRunTimes (before ++ rest) all → Leads Good (left_at size end x in_stream) (walk_in at done (record s { times = all })))
    → Leads Good (left_at size end (run_lines rest ++ x) in_stream) (walk_in at done (record s { times = cs }))
runs_read Good size end x at done s before [] cs begins wide are go =
    go cs (subst (λ (rs : List TimeRun). AreRunTimes rs cs) (sym (append-nil before)) are)
runs_read Good size end x at done s before (r ∷ rs) cs begins wide are go =
    let P : List ℕ → Type 0 = λ l. Leads Good (left_at size end l in_stream) (walk_in at done (record s { times = cs })) in
    subst P (sym (append_assoc (run_line r) (run_lines rs) x))
    (run_read Good size end (run_lines rs ++ x) at done (record s { times = cs }) r (runs_begin rs x begins) wide.0 (λ here.
    runs_read Good size end x at done s (before ++ r ∷ []) rs (cs ++ time_of (run_attrs r) here ∷ []) begins wide.1 (run_times_push before cs r (time_of (run_attrs r) here) are (is_run_time r here))
    (λ all have. go all (subst (λ (qs : List TimeRun). AreRunTimes qs all) (append_assoc before (r ∷ []) rs) have))))

wide_runs : (end count : ℕ) (rs : List TimeRun) → RunsFit end count rs → AllByRecursion IsWideRun rs
wide_runs end count [] fit = tt
wide_runs end count (r ∷ rs) fit =
    let longer = lasting r.duration r.count fit.0.some in
    (record { start = omega (arith, fit.0.ends); duration = omega (arith, fit.0.ends, longer); count = omega (arith, fit.0.few) }, wide_runs (r.start + r.duration * r.count) (count + r.count) rs fit.1)
  where
    lasting : (d n : ℕ) → 0 < n → d ≤ d * n
    lasting d zero some = absurd (omega arith)
    lasting d (suc n) some = omega arith

-- ---- the line that opens a stream

abbrev stream_attrs : Track → ℕ → ℕ → List Attribute
stream_attrs t chunks levels =
    attr (codes "Type") (kind_name t.kind)
    ∷ attr (codes "Name") t.name
    ∷ attr (codes "TimeScale") (decimal t.timescale)
    ∷ attr (codes "Chunks") (decimal chunks)
    ∷ attr (codes "QualityLevels") (decimal levels)
    ∷ attr (codes "Url") (url t.name)
    ∷ []

opening_text : (t : Track) (chunks levels : ℕ) (x : List ℕ) → stream_opening t chunks levels ++ x ≡ 60 ∷ codes "StreamIndex" ++ attributes_then (stream_attrs t chunks levels) (closing false (10 ∷ x))
unfolding stream_opening
opening_text t chunks levels x =
    let y = closing false (10 ∷ x) in
    let e : (attribute (codes "Url") (url t.name) ++ codes ">\n") ++ x ≡ attributes_then (attr (codes "Url") (url t.name) ∷ []) y =
    spells_then (attribute (codes "Url") (url t.name)) (codes ">\n") x y (attr (codes "Url") (url t.name) ∷ []) (attribute_text (codes "Url") (url t.name)) refl in
    let d = spells_then (number_attribute (codes "QualityLevels") levels) _ x _ (attr (codes "QualityLevels") (decimal levels) ∷ []) (attribute_text (codes "QualityLevels") (decimal levels)) e in
    let c = spells_then (number_attribute (codes "Chunks") chunks) _ x _ (attr (codes "Chunks") (decimal chunks) ∷ []) (attribute_text (codes "Chunks") (decimal chunks)) d in
    let b = spells_then (number_attribute (codes "TimeScale") t.timescale) _ x _ (attr (codes "TimeScale") (decimal t.timescale) ∷ []) (attribute_text (codes "TimeScale") (decimal t.timescale)) c in
    let a = spells_then (attribute (codes "Name") t.name) _ x _ (attr (codes "Name") t.name ∷ []) (attribute_text (codes "Name") t.name) b in
    let k = spells_then (attribute (codes "Type") (kind_name t.kind)) _ x _ (attr (codes "Type") (kind_name t.kind) ∷ []) (attribute_text (codes "Type") (kind_name t.kind)) a in
    ap (λ (l : List ℕ). 60 ∷ codes "StreamIndex" ++ l) k

abbrev stream_names : List (List ℕ)
stream_names = codes "Type" ∷ codes "Name" ∷ codes "TimeScale" ∷ codes "Chunks" ∷ codes "QualityLevels" ∷ codes "Url" ∷ []

opening_written : (t : Track) (chunks levels : ℕ) → IsFit t → chunks < 2 ^ 64 → levels < 2 ^ 64 → Written [] stream_names (stream_attrs t chunks levels)
opening_written t chunks levels fit low few =
    and_then (one_written [] (codes "Type") (kind_name t.kind) (refl, refl) (kind_plain t.kind) refl)
    (and_then (one_written (codes "Type" ∷ []) (codes "Name") t.name (refl, refl) (name_plain t.name fit.narrow.name) refl)
    (and_then (one_written (codes "Type" ∷ codes "Name" ∷ []) (codes "TimeScale") (decimal t.timescale) (refl, refl) (wide_plain t.timescale (omega (arith, fit.narrow.timescale))) refl)
    (and_then (one_written (codes "Type" ∷ codes "Name" ∷ codes "TimeScale" ∷ []) (codes "Chunks") (decimal chunks) (refl, refl) (wide_plain chunks low) refl)
    (and_then (one_written (codes "Type" ∷ codes "Name" ∷ codes "TimeScale" ∷ codes "Chunks" ∷ []) (codes "QualityLevels") (decimal levels) (refl, refl) (wide_plain levels few) refl)
    (one_written (codes "Type" ∷ codes "Name" ∷ codes "TimeScale" ∷ codes "Chunks" ∷ codes "QualityLevels" ∷ []) (codes "Url") (url t.name) (refl, refl) (url_plain t.name) refl)))))

opening_begins : (t : Track) (chunks levels : ℕ) (x : List ℕ) → Begins (stream_opening t chunks levels ++ x)
unfolding stream_opening
opening_begins t chunks levels x = (_, refl)

-- what is known of a stream: its start tag, its qualities and its elements `c`
abbrev pub raw_stream : Track → ℕ → List RawLevel → List RawTime → RawStream
raw_stream t at ls cs = record {
  at = at;
  kind_text = Some (kind_name t.kind);
  url = Some (url t.name);
  name = Some t.name;
  timescale = Some (decimal t.timescale);
  levels = ls;
  times = cs;
}

opening_read : (Good : Walk → Type 0) (size end : ℕ) (x : List ℕ) (at : ℕ) (done : List RawStream) (t : Track) (chunks levels : ℕ) → Begins x → IsFit t → chunks < 2 ^ 64 → levels < 2 ^ 64
    → ((here : ℕ) → Leads Good (left_at size end x in_stream) (walk_in at done (raw_stream t here [] []))) → Leads Good (left_at size end (stream_opening t chunks levels ++ x) in_root) (walk_out at done)
opening_read Good size end x at done t chunks levels begins fit low few go =
    let P : List ℕ → Type 0 = λ l. Leads Good (left_at size end l in_root) (walk_out at done) in
    subst P (sym (opening_text t chunks levels x)) (start_line Good size end x in_root (codes "StreamIndex") (stream_attrs t chunks levels) false (walk_out at done) begins (refl, refl) (refl, refl)
    (Starts-again (codes "StreamIndex") (stream_attrs t chunks levels) false (10 ∷ x) (refl, refl) (all_written stream_names (stream_attrs t chunks levels) (opening_written t chunks levels fit low few))) go)

stream_end : (x : List ℕ) → finish_at (codes "StreamIndex>" ++ (10 ∷ x)) ≡ Ok (markup.Finish (codes "StreamIndex"), 10 ∷ x)
unfolding finish_at name_at
stream_end x = refl

end_read : (Good : Walk → Type 0) (size end : ℕ) (x : List ℕ) (at : ℕ) (done : List RawStream) (s : RawStream) → Begins x → Leads Good (left_at size end x in_root) (walk_out at (done ++ s ∷ []))
    → Leads Good (left_at size end (codes "</StreamIndex>\n" ++ x) in_stream) (walk_in at done s)
end_read Good size end x at done s begins go =
    finish_line Good size end x (codes "/StreamIndex>" ++ (10 ∷ x)) in_stream (codes "StreamIndex") (walk_in at done s) begins (refl, refl) (refl, refl) refl (sym (stream_end x)) (λ here. go)

-- ---- a whole stream

-- the tracks of a stream, and its times
pub record IsStream (channel : List Track) (times : List (ℕ × ℕ)) (t : Track) : Type 0 where
  pub fit : IsFit t
  pub some : 0 < length (tracks_of t.name channel)
  pub few : length (tracks_of t.name channel) ≤ 64
  pub fits : AllByRecursion IsFit (tracks_of t.name channel)
  pub differ : DifferInBitrate (tracks_of t.name channel)
  pub apart : AreTimes times
  pub short : length times ≤ 262144

-- what was read of it
pub record IsRead (channel : List Track) (times : List (ℕ × ℕ)) (t : Track) (s : RawStream) : Type 0 where
  pub at : ℕ
  pub ls : List RawLevel
  pub cs : List RawTime
  pub is : s ≡ raw_stream t at ls cs
  pub levels : AreLevels 0 (tracks_of t.name channel) ls
  pub clean : level_faults [] ls ≡ []
  pub runs : AreRunTimes (runs times) cs

stream_text : (channel : List Track) (times : List (ℕ × ℕ)) (t : Track) (x : List ℕ)
    → stream_lines channel times t ++ x ≡ stream_opening t (length times) (length (tracks_of t.name channel)) ++ (lines_of 0 (tracks_of t.name channel) ++ (run_lines (runs times) ++ (codes "</StreamIndex>\n" ++ x)))
unfolding stream_lines
stream_text channel times t x =
    let o = stream_opening t (length times) (length (tracks_of t.name channel)) in
    let l = level_lines 0 t.name channel in
    let r = run_lines (runs times) in
    append_assoc o (l ++ (r ++ codes "</StreamIndex>\n")) x
    ∙ ap (λ (y : List ℕ). o ++ y) (append_assoc l (r ++ codes "</StreamIndex>\n") x ∙ ap (λ (y : List ℕ). l ++ y) (append_assoc r (codes "</StreamIndex>\n") x))
    ∙ ap (λ (k : List ℕ). o ++ (k ++ (r ++ (codes "</StreamIndex>\n" ++ x)))) (lines_are 0 t.name channel)

pub stream_begins : (channel : List Track) (times : List (ℕ × ℕ)) (t : Track) (x : List ℕ) → Begins (stream_lines channel times t ++ x)
stream_begins channel times t x = rw (stream_text channel times t x) (opening_begins t (length times) (length (tracks_of t.name channel)) _)

pub stream_read : (Good : Walk → Type 0) (size end : ℕ) (x : List ℕ) (at : ℕ) (done : List RawStream) (channel : List Track) (times : List (ℕ × ℕ)) (t : Track) → Begins x → IsStream channel times t
    → ((s : RawStream) → IsRead channel times t s → Leads Good (left_at size end x in_root) (walk_out at (done ++ s ∷ []))) → Leads Good (left_at size end (stream_lines channel times t ++ x) in_root) (walk_out at done)
stream_read Good size end x at done channel times t begins is go =
    let us = tracks_of t.name channel in
    let rs = runs times in
    let fit = all_runs_fit times is.apart is.short in
    let last : Begins (codes "</StreamIndex>\n" ++ x) = (_, refl) in
    let third : Begins (run_lines rs ++ (codes "</StreamIndex>\n" ++ x)) = runs_begin rs (codes "</StreamIndex>\n" ++ x) last in
    let second : Begins (lines_of 0 us ++ (run_lines rs ++ (codes "</StreamIndex>\n" ++ x))) = lines_begin 0 us (run_lines rs ++ (codes "</StreamIndex>\n" ++ x)) third in
    let P : List ℕ → Type 0 = λ l. Leads Good (left_at size end l in_root) (walk_out at done) in
    subst P (sym (stream_text channel times t x))
    (opening_read Good size end (lines_of 0 us ++ (run_lines rs ++ (codes "</StreamIndex>\n" ++ x))) at done t (length times) (length us) second is.fit (omega (arith, is.short)) (omega (arith, is.few)) (λ here.
    levels_read Good size end (run_lines rs ++ (codes "</StreamIndex>\n" ++ x)) at done (raw_stream t here [] []) [] us [] 0 third refl (omega (arith, is.few)) tt is.fits (nothing_apart us) is.differ tt refl (λ ls levels clean.
    runs_read Good size end (codes "</StreamIndex>\n" ++ x) at done (raw_stream t here ls []) [] rs [] last (wide_runs 0 0 rs fit) tt (λ cs times_are.
    end_read Good size end x at done (raw_stream t here ls cs) begins (go (raw_stream t here ls cs) (record { at = here; ls = ls; cs = cs; is = refl; levels = levels; clean = clean; runs = times_are }))))))

-- ---- what it says

times_say : (channel : List Track) (times : List (ℕ × ℕ)) (t : Track) (s : RawStream) → IsStream channel times t → (read : IsRead channel times t s) → times_in false 0 0 read.cs ≡ Ok times
times_say channel times t s is read =
    times_again 0 0 (runs times) read.cs read.runs (all_runs_fit times is.apart is.short) ∙ ap Ok (all_runs_again times)

timescale_again : (t : Track) → IsFit t → (n : ℕ) → narrow_or n (Some (decimal t.timescale)) ≡ Some t.timescale
timescale_again t fit n = decimal_again t.timescale fit.narrow.timescale

some_levels : (ls : List RawLevel) → 0 < length ls → eqb (length ls) 0 ≡ false
some_levels [] h = absurd (omega arith)
some_levels (l ∷ ls) h = ne_eqb (suc (length ls)) 0 (λ e. omega (arith, e))

own_clean : (done : List RawStream) (t : Track) (at : ℕ) (ls : List RawLevel) (cs : List RawTime) → IsFit t → length done < 64 → list_any (λ (e : RawStream). is_same (name_of e) t.name) done ≡ false
    → is_stream_at_fault done (raw_stream t at ls cs) ≡ false
unfolding is_stream_at_fault
own_clean done t at ls cs fit few new =
    let room : leb 64 (length done) ≡ false = lt-leb 64 (length done) few in
    let kind = kind_again t.kind in
    let pattern = url_again t.name in
    let name : is_name t.name ≡ true = fit.narrow.name in
    let scale : number_of (decimal t.timescale) ≡ Some t.timescale = decimal_again t.timescale fit.narrow.timescale in
    rw (room, kind, pattern, name, scale, new) refl

raw_clean : (done : List RawStream) (channel : List Track) (times : List (ℕ × ℕ)) (t : Track) (at : ℕ) (ls : List RawLevel) (cs : List RawTime) → IsFit t → length done < 64
    → list_any (λ (e : RawStream). is_same (name_of e) t.name) done ≡ false → 0 < length ls → level_faults [] ls ≡ [] → times_in false 0 0 cs ≡ Ok times
    → stream_faults false done (raw_stream t at ls cs) ≡ []
raw_clean done channel times t at ls cs fit few new some levels runs =
    let own = own_clean done t at ls cs fit few new in
    let has = some_levels ls some in
    rw (own, has, levels, runs) refl

pub stream_clean : (done : List RawStream) (channel : List Track) (times : List (ℕ × ℕ)) (t : Track) (s : RawStream) → IsStream channel times t → IsRead channel times t s → length done < 64
    → list_any (λ (e : RawStream). is_same (name_of e) t.name) done ≡ false → stream_faults false done s ≡ []
stream_clean done channel times t s is read few new =
    let count = levels_len 0 (tracks_of t.name channel) read.ls read.levels in
    subst (λ (r : RawStream). stream_faults false done r ≡ []) (sym read.is) (raw_clean done channel times t read.at read.ls read.cs is.fit few new (omega (arith, count, is.some)) read.clean (times_say channel times t s is read))

raw_listing : (channel : List Track) (times : List (ℕ × ℕ)) (t : Track) (at : ℕ) (ls : List RawLevel) (cs : List RawTime) → IsFit t → levels_of ls ≡ (stream_again channel times t).levels → times_in false 0 0 cs ≡ Ok times
    → listing_of 10000000 (raw_stream t at ls cs) ≡ stream_again channel times t
raw_listing channel times t at ls cs fit levels runs =
    let kind = kind_again t.kind in
    let scale : number_of (decimal t.timescale) ≡ Some t.timescale = decimal_again t.timescale fit.narrow.timescale in
    rw (kind, scale, levels, runs) refl

pub stream_says : (channel : List Track) (times : List (ℕ × ℕ)) (t : Track) (s : RawStream) → IsStream channel times t → IsRead channel times t s → listing_of 10000000 s ≡ stream_again channel times t
stream_says channel times t s is read =
    subst (λ (r : RawStream). listing_of 10000000 r ≡ stream_again channel times t) (sym read.is)
    (raw_listing channel times t read.at read.ls read.cs is.fit (levels_value [] 0 (tracks_of t.name channel) read.ls (omega (arith, is.few)) is.fits read.levels) (times_say channel times t s is read))

pub stream_named : (channel : List Track) (times : List (ℕ × ℕ)) (t : Track) (s : RawStream) → IsRead channel times t s → name_of s ≡ t.name
stream_named channel times t s read = ap name_of read.is
