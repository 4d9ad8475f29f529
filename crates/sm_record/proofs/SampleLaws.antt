-- A fragment's fields, read and written.
use Rattle.std.proofs.Common.{◌≡◌, ℕ, zero, suc, ◌*◌, ◌^◌, ◌<◌, List, [], ◌∷◌, ◌++◌, length, Some, refl, sym, ap, subst, ◌∙◌, append_assoc, arith}
use Rattle.std.specs.Int.{w32, w64}
use Rattle.std.specs.List.{flat_map, AllByRecursion, slice_get}
use Rattle.std.proofs.lemmas.List.{append-nil, length-append, nil_from_length}
use Rattle.std.proofs.lemmas.List.Concat.{flat_map-cons}
use Rattle.sm_model.specs.declared.track.Track.{Track}
use Rattle.sm_model.specs.declared.sample.Sample.{Sample}
use Rattle.sm_model.specs.declared.fragment.Fragment.{Fragment}
use Rattle.sm_model.specs.Numbers.{number32, number64}
use Rattle.sm_model.specs.Fragments.{IsNarrow}
use Rattle.sm_record.specs.Texts.{row_text, flag_text, keep_text}
use Rattle.sm_record.specs.declared.fields.Row.{Row}
use Rattle.sm_record.specs.declared.fields.Front.{Front}
use Rattle.sm_record.specs.Bodies.{IsKeep}
use Rattle.sm_record.specs.Reading.{◌>>=◌, number_at, taken, flag_at, row_at, sample_of, samples_at, front_at, fragment_of, whole, all_samples_at, keep_at}
use Rattle.sm_record.proofs.Steps.{IsBytes, bind_some, some_is, Takes, Takes-then, takes32, again32, takes64, again64, taken_takes, taken_again, whole_takes, nothing_behind, behind}
use Rattle.sm_record.proofs.FieldLaws.{flag_takes, flag_again}

abbrev numbers_text : Row → List ℕ
numbers_text r = number32 r.duration ++ (number32 r.flags ++ (number32 r.offset ++ number32 r.size))

record FitsRow (r : Row) : Type 0 where
  duration : r.duration < 2 ^ 32
  flags : r.flags < 2 ^ 32
  offset : r.offset < 2 ^ 32
  size : r.size < 2 ^ 32

row_takes : (bytes : List ℕ) (r : Row) (rest : List ℕ) → IsBytes bytes → row_at bytes ≡ Some (r, rest) → Takes bytes (numbers_text r) rest × FitsRow r
unfolding row_at
row_takes bytes r rest fits e =
    let b1 = bind_some (number_at w32 bytes) _ (r, rest) e in
    let t1 = takes32 bytes b1.0.0 b1.0.1 fits b1.1 in
    let b2 = bind_some (number_at w32 b1.0.1) _ (r, rest) b1.2 in
    let t2 = takes32 b1.0.1 b2.0.0 b2.0.1 t1.0.rest_fits b2.1 in
    let b3 = bind_some (number_at w32 b2.0.1) _ (r, rest) b2.2 in
    let t3 = takes32 b2.0.1 b3.0.0 b3.0.1 t2.0.rest_fits b3.1 in
    let b4 = bind_some (number_at w32 b3.0.1) _ (r, rest) b3.2 in
    let t4 = takes32 b3.0.1 b4.0.0 b4.0.1 t3.0.rest_fits b4.1 in
    let u3 = Takes-then _ _ _ _ _ t3.0 t4.0 in
    let u2 = Takes-then _ _ _ _ _ t2.0 u3 in
    let u1 = Takes-then _ _ _ _ _ t1.0 u2 in
    let made : Row × List ℕ = (record { duration = b1.0.0; flags = b2.0.0; offset = b3.0.0; size = b4.0.0 }, b4.0.1) in
    subst (λ (x : Row × List ℕ). Takes bytes (numbers_text x.0) x.1 × FitsRow x.0) (some_is made (r, rest) b4.2)
    (u1, record { duration = t1.1; flags = t2.1; offset = t3.1; size = t4.1 })

row_again : (r : Row) (rest : List ℕ) → FitsRow r → row_at (numbers_text r ++ rest) ≡ Some (r, rest)
unfolding row_at
row_again r rest h =
    let regrouped : numbers_text r ++ rest ≡ number32 r.duration ++ (number32 r.flags ++ (number32 r.offset ++ (number32 r.size ++ rest))) = simp append_assoc in
    ap row_at regrouped ∙ rw (again32 r.duration _ h.duration, again32 r.flags _ h.flags, again32 r.offset _ h.offset, again32 r.size rest h.size) refl

abbrev bytes_text : List Sample → List ℕ
bytes_text ss = flat_map (λ s. s.bytes) ss

-- what the samples took from their rows, all of them, and from the bytes
record HaveTaken (n : ℕ) (table bytes : List ℕ) (ss : List Sample) (rest : List ℕ) : Type 0 where
  rows : List ℕ
  table_takes : Takes table (flat_map row_text ss) rows
  takes : Takes bytes (bytes_text ss) rest
  count : length ss ≡ n
  each : AllByRecursion IsNarrow ss

samples_take : (n : ℕ) (table bytes : List ℕ) (x : List Sample × List ℕ) → IsBytes table → IsBytes bytes → samples_at n table bytes ≡ Some x → HaveTaken n table bytes x.0 x.1
unfolding samples_at row_text
samples_take zero table bytes x tfits fits e =
    subst (λ (y : List Sample × List ℕ). HaveTaken 0 table bytes y.0 y.1) (some_is ([], bytes) x e)
    (record { rows = table; table_takes = record { parts = refl; rest_fits = tfits }; takes = record { parts = refl; rest_fits = fits }; count = refl; each = tt })
samples_take (suc n) table bytes x tfits fits e =
    let a = bind_some (row_at table) (λ row. taken row.0.size bytes >>= λ own. samples_at n row.1 own.1 >>= λ others. Some (sample_of row.0 own.0 ∷ others.0, others.1)) x e in
    let b = bind_some (taken a.0.0.size bytes) (λ own. samples_at n a.0.1 own.1 >>= λ others. Some (sample_of a.0.0 own.0 ∷ others.0, others.1)) x a.2 in
    let d = bind_some (samples_at n a.0.1 b.0.1) (λ others. Some (sample_of a.0.0 b.0.0 ∷ others.0, others.1)) x b.2 in
    let row = row_takes table a.0.0 a.0.1 tfits a.1 in
    let own = taken_takes a.0.0.size bytes b.0.0 b.0.1 fits b.1 in
    let more = samples_take n a.0.1 b.0.1 d.0 row.0.rest_fits own.takes.rest_fits d.1 in
    let s = sample_of a.0.0 b.0.0 in
    let row_is : Takes table (row_text s) a.0.1 = subst (λ (k : ℕ). Takes table (number32 a.0.0.duration ++ (number32 a.0.0.flags ++ (number32 a.0.0.offset ++ number32 k))) a.0.1) (sym own.len) row.0 in
    let rows : Takes table (flat_map row_text (s ∷ d.0.0)) more.rows = rw flat_map-cons (Takes-then table (row_text s) a.0.1 (flat_map row_text d.0.0) more.rows row_is more.table_takes) in
    let all : Takes bytes (bytes_text (s ∷ d.0.0)) d.0.1 = rw flat_map-cons (Takes-then bytes b.0.0 b.0.1 (bytes_text d.0.0) d.0.1 own.takes more.takes) in
    let made : List Sample × List ℕ = (s ∷ d.0.0, d.0.1) in
    subst (λ (y : List Sample × List ℕ). HaveTaken (suc n) table bytes y.0 y.1) (some_is made x d.2)
    (record {
      rows = more.rows;
      table_takes = rows;
      takes = all;
      count = ap suc more.count;
      each = (record { duration = row.1.duration; size = omega (arith, own.len, row.1.size); flags = row.1.flags; offset = row.1.offset }, more.each);
    })

samples_again : (ss : List Sample) (rows rest : List ℕ) → AllByRecursion IsNarrow ss → samples_at (length ss) (flat_map row_text ss ++ rows) (bytes_text ss ++ rest) ≡ Some (ss, rest)
unfolding samples_at row_text
samples_again [] rows rest each = refl
samples_again (s ∷ ss) rows rest each =
    let r : Row = record { duration = s.duration; flags = s.flags; offset = s.offset; size = length s.bytes } in
    let table : flat_map row_text (s ∷ ss) ++ rows ≡ numbers_text r ++ (flat_map row_text ss ++ rows) = ap (λ (x : List ℕ). x ++ rows) (flat_map-cons row_text s ss) ∙ append_assoc (row_text s) (flat_map row_text ss) rows in
    let bytes : bytes_text (s ∷ ss) ++ rest ≡ s.bytes ++ (bytes_text ss ++ rest) = ap (λ (x : List ℕ). x ++ rest) (flat_map-cons (λ (t : Sample). t.bytes) s ss) ∙ append_assoc s.bytes (bytes_text ss) rest in
    let first = row_again r (flat_map row_text ss ++ rows) (record { duration = each.0.duration; flags = each.0.flags; offset = each.0.offset; size = each.0.size }) in
    let own = taken_again (length s.bytes) s.bytes (bytes_text ss ++ rest) refl in
    ap (λ (x : List ℕ). samples_at (suc (length ss)) x (bytes_text (s ∷ ss) ++ rest)) table
    ∙ ap (λ (x : List ℕ). samples_at (suc (length ss)) (numbers_text r ++ (flat_map row_text ss ++ rows)) x) bytes
    ∙ rw (first, own, samples_again ss rows rest each.1) refl

row_len : (s : Sample) → length (row_text s) ≡ 16
unfolding row_text number32
row_len s = refl

pub rows_len : (ss : List Sample) → length (flat_map row_text ss) ≡ 16 * length ss
rows_len [] = refl
rows_len (s ∷ ss) = ap length (flat_map-cons row_text s ss) ∙ omega (arith, length-append (row_text s) (flat_map row_text ss), row_len s, rows_len ss)

all_samples_take : (count : ℕ) (bytes : List ℕ) (ss : List Sample) → IsBytes bytes → all_samples_at count bytes ≡ Some ss → (bytes ≡ flat_map row_text ss ++ bytes_text ss) × (length ss ≡ count) × AllByRecursion IsNarrow ss
unfolding all_samples_at
all_samples_take count bytes ss fits e =
    let a = bind_some (taken (16 * count) bytes) (λ table. samples_at count table.0 table.1 >>= λ samples. whole samples) ss e in
    let b = bind_some (samples_at count a.0.0 a.0.1) (λ samples. whole samples) ss a.2 in
    let g = whole_takes b.0.0 b.0.1 ss b.2 in
    let table = taken_takes (16 * count) bytes a.0.0 a.0.1 fits a.1 in
    let taken = samples_take count a.0.0 a.0.1 b.0 table.own_fits table.takes.rest_fits b.1 in
    let none : taken.rows ≡ [] = nil_from_length taken.rows (omega (arith, ap length taken.table_takes.parts, length-append (flat_map row_text b.0.0) taken.rows, rows_len b.0.0, table.len, taken.count)) in
    let table_is = nothing_behind _ _ _ taken.table_takes none in
    let rest_is = nothing_behind _ _ _ taken.takes g.0 in
    let text : bytes ≡ flat_map row_text b.0.0 ++ bytes_text b.0.0 = table.takes.parts ∙ ap (λ (x : List ℕ). x ++ a.0.1) table_is ∙ ap (λ (x : List ℕ). flat_map row_text b.0.0 ++ x) rest_is in
    subst (λ (v : List Sample). (bytes ≡ flat_map row_text v ++ bytes_text v) × (length v ≡ count) × AllByRecursion IsNarrow v) g.1 (text, taken.count, taken.each)

all_samples_again : (ss : List Sample) → AllByRecursion IsNarrow ss → all_samples_at (length ss) (flat_map row_text ss ++ bytes_text ss) ≡ Some ss
unfolding all_samples_at
all_samples_again ss each =
    let table = taken_again (16 * length ss) (flat_map row_text ss) (bytes_text ss) (rows_len ss) in
    let rest : samples_at (length ss) (flat_map row_text ss) (bytes_text ss) ≡ Some (ss, []) =
    ap (λ (x : List ℕ). samples_at (length ss) x (bytes_text ss)) (sym (append-nil (flat_map row_text ss)))
    ∙ ap (λ (x : List ℕ). samples_at (length ss) (flat_map row_text ss ++ []) x) (sym (append-nil (bytes_text ss)))
    ∙ samples_again ss [] [] each in
    rw (table, rest) refl

-- ---- what stands before the samples

abbrev front_text : Front → List ℕ
front_text r = number32 r.place ++ (number64 r.time ++ (number64 r.duration ++ (flag_text r.signed ++ number32 r.count)))

record FitsFront (r : Front) : Type 0 where
  place : r.place < 2 ^ 32
  time : r.time < 2 ^ 64
  duration : r.duration < 2 ^ 64
  count : r.count < 2 ^ 32

front_takes : (bytes : List ℕ) (r : Front) (rest : List ℕ) → IsBytes bytes → front_at bytes ≡ Some (r, rest) → Takes bytes (front_text r) rest × FitsFront r
unfolding front_at
front_takes bytes r rest fits e =
    let b1 = bind_some (number_at w32 bytes) _ (r, rest) e in
    let t1 = takes32 bytes b1.0.0 b1.0.1 fits b1.1 in
    let b2 = bind_some (number_at w64 b1.0.1) _ (r, rest) b1.2 in
    let t2 = takes64 b1.0.1 b2.0.0 b2.0.1 t1.0.rest_fits b2.1 in
    let b3 = bind_some (number_at w64 b2.0.1) _ (r, rest) b2.2 in
    let t3 = takes64 b2.0.1 b3.0.0 b3.0.1 t2.0.rest_fits b3.1 in
    let b4 = bind_some (flag_at b3.0.1) _ (r, rest) b3.2 in
    let t4 = flag_takes b3.0.1 b4.0.0 b4.0.1 t3.0.rest_fits b4.1 in
    let b5 = bind_some (number_at w32 b4.0.1) _ (r, rest) b4.2 in
    let t5 = takes32 b4.0.1 b5.0.0 b5.0.1 t4.rest_fits b5.1 in
    let u4 = Takes-then _ _ _ _ _ t4 t5.0 in
    let u3 = Takes-then _ _ _ _ _ t3.0 u4 in
    let u2 = Takes-then _ _ _ _ _ t2.0 u3 in
    let u1 = Takes-then _ _ _ _ _ t1.0 u2 in
    let made : Front × List ℕ = (record { place = b1.0.0; time = b2.0.0; duration = b3.0.0; signed = b4.0.0; count = b5.0.0 }, b5.0.1) in
    subst (λ (x : Front × List ℕ). Takes bytes (front_text x.0) x.1 × FitsFront x.0) (some_is made (r, rest) b5.2)
    (u1, record { place = t1.1; time = t2.1; duration = t3.1; count = t5.1 })

front_joined : (r : Front) (x : List ℕ) → front_text r ++ x ≡ number32 r.place ++ (number64 r.time ++ (number64 r.duration ++ (flag_text r.signed ++ (number32 r.count ++ x))))
front_joined r x =
    behind (number32 r.place) (number64 r.time ++ (number64 r.duration ++ (flag_text r.signed ++ number32 r.count))) x _
    (behind (number64 r.time) (number64 r.duration ++ (flag_text r.signed ++ number32 r.count)) x _
    (behind (number64 r.duration) (flag_text r.signed ++ number32 r.count) x _ refl))

front_again : (r : Front) (rest : List ℕ) → FitsFront r → front_at (number32 r.place ++ (number64 r.time ++ (number64 r.duration ++ (flag_text r.signed ++ (number32 r.count ++ rest))))) ≡ Some (r, rest)
unfolding front_at
front_again r rest h =
    rw (again32 r.place _ h.place, again64 r.time _ h.time, again64 r.duration _ h.duration, flag_again r.signed _, again32 r.count rest h.count) refl

-- ---- the fragment

pub keep_takes : (channel : List Track) (bytes : List ℕ) (f : Fragment) → IsBytes bytes → keep_at channel bytes ≡ Some f → IsKeep channel f bytes
unfolding keep_at keep_text
keep_takes channel bytes f fits e =
    let a = bind_some (front_at bytes) (λ front. slice_get channel front.0.place >>= λ t. all_samples_at front.0.count front.1 >>= λ samples. Some (fragment_of t front.0 samples)) f e in
    let b = bind_some (slice_get channel a.0.0.place) (λ t. all_samples_at a.0.0.count a.0.1 >>= λ samples. Some (fragment_of t a.0.0 samples)) f a.2 in
    let d = bind_some (all_samples_at a.0.0.count a.0.1) (λ samples. Some (fragment_of b.0 a.0.0 samples)) f b.2 in
    let front = front_takes bytes a.0.0 a.0.1 fits a.1 in
    let samples = all_samples_take a.0.0.count a.0.1 d.0 front.0.rest_fits d.1 in
    let joined : bytes ≡ front_text a.0.0 ++ (flat_map row_text d.0 ++ bytes_text d.0) = front.0.parts ∙ ap (λ (x : List ℕ). front_text a.0.0 ++ x) samples.0 in
    let regrouped = front_joined a.0.0 (flat_map row_text d.0 ++ bytes_text d.0) in
    let counted = ap (λ (k : ℕ). number32 a.0.0.place ++ (number64 a.0.0.time ++ (number64 a.0.0.duration ++ (flag_text a.0.0.signed ++ (number32 k ++ (flat_map row_text d.0 ++ bytes_text d.0)))))) (sym samples.1) in
    subst (λ (g : Fragment). IsKeep channel g bytes) (some_is (fragment_of b.0 a.0.0 d.0) f d.2)
    (record {
      place = a.0.0.place;
      of = record { track = b.0; there = b.1; stream = refl; bitrate = refl };
      low = front.1.place;
      time = front.1.time;
      duration = front.1.duration;
      few = omega (arith, samples.1, front.1.count);
      each = samples.2;
      text = joined ∙ regrouped ∙ counted;
    })

made_is : (t : Track) (front : Front) (f : Fragment) → t.name ≡ f.stream → t.bitrate ≡ f.bitrate → front.time ≡ f.time → front.duration ≡ f.duration → front.signed ≡ f.signed → fragment_of t front f.samples ≡ f
made_is t front f s b ti d si = rw (s, b, ti, d, si) refl

pub keep_again : (channel : List Track) (f : Fragment) (bytes : List ℕ) → IsKeep channel f bytes → keep_at channel bytes ≡ Some f
unfolding keep_at keep_text
keep_again channel f bytes h =
    let front : Front = record { place = h.place; time = f.time; duration = f.duration; signed = f.signed; count = length f.samples } in
    let first = front_again front (flat_map row_text f.samples ++ bytes_text f.samples) (record { place = h.low; time = h.time; duration = h.duration; count = h.few }) in
    let made : Some (fragment_of h.of.track front f.samples) ≡ Some f = ap (λ (g : Fragment). Some g) (made_is h.of.track front f h.of.stream h.of.bitrate refl refl refl) in
    ap (keep_at channel) h.text ∙ rw (first, h.of.there, all_samples_again f.samples h.each) made
