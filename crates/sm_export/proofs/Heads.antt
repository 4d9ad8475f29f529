-- Headers among items, and refusals that stay.
use Rattle.std.proofs.Common.{◌≡◌, ◌+◌, ◌<◌, ◌≤◌, ◌-◌, ℕ, Bool, false, List, [], ◌∷◌, ◌++◌, length, length-append, map, take, drop, Option, Some, None, IsSome, refl, sym, ap, subst, ◌∙◌, arith, append_assoc}
use Rattle.std.specs.Prelude.{is_some}
use Rattle.std.specs.List.{find}
use Rattle.std.proofs.lemmas.List.{take-append-drop, length-take}
use Rattle.std.proofs.Math.Seq.{take-add, take-append_seam}
use Rattle.sm_model.specs.declared.cause.Refusal.{Refusal}
use Rattle.sm_model.specs.declared.track.Track.{Track}
use Rattle.sm_model.specs.declared.item.Item.{Item}
use Rattle.sm_model.specs.Items.{Given, Header, Frag, item_of}
use Rattle.sm_push.specs.Body.{Outcome, body, led_by, refused, IsFrontOf}
use Rattle.sm_model.specs.declared.header.HeaderTrack.{HeaderTrack}
use Rattle.sm_push.specs.Header.{id_for}
use Rattle.sm_export.specs.Heads.{is_header, channel_in, header_given, seen_after, seen_by, IsHead, SeenAt}

pub header_behind : (xs ys : List Given) → header_given xs ≡ None → header_given (xs ++ ys) ≡ header_given ys
header_behind [] ys e = refl
header_behind (Header channel ∷ xs) ys e = absurd cc
header_behind (Frag id f ∷ xs) ys e = header_behind xs ys e

pub none_before : (xs ys : List Given) → header_given (xs ++ ys) ≡ None → header_given xs ≡ None
none_before [] ys e = refl
none_before (Header other ∷ xs) ys e = absurd cc
none_before (Frag id f ∷ xs) ys e = none_before xs ys e

pub found_is : (gs : List Given) → channel_in (find (λ i. is_header i) (map item_of gs)) ≡ header_given gs
found_is [] = refl
found_is (Header channel ∷ gs) = refl
found_is (Frag id f ∷ gs) = found_is gs

pub found_by : (gs : List Given) (found : Option Item) → found ≡ find (λ i. is_header i) (map item_of gs) → header_given gs ≡ channel_in found
found_by gs found is = sym (ap channel_in is ∙ found_is gs)

abbrev Fronts : Type 0
Fronts = (headerless : Bool) (p q : List ℕ) → IsFrontOf (body headerless p) (body headerless (p ++ q))

-- a shorter front gives no header either
pub no_header_before : Fronts → (b p q : List ℕ) → b ≡ p ++ q → header_given (body false b).items ≡ None → header_given (body false p).items ≡ None
no_header_before front b p q is none =
    let f = front false p q in
    none_before (body false p).items f.items.0 (ap header_given (sym f.items.1) ∙ (ap (λ (x : List ℕ). header_given (body false x).items) (sym is) ∙ none))

-- what is refused in a front is refused in all
pub refused_yet : Fronts → (b p q : List ℕ) (r : Refusal) → b ≡ p ++ q → (body false p).refusal ≡ Some r → (body false b).refusal ≡ Some r
refused_yet front b p q r is some = ap (λ (x : List ℕ). (body false x).refusal) is ∙ ((front false p q).refusal r some).1

-- a refusal behind items
pub refusal_of_led : (o : Outcome) (gs : List Given) (header : List HeaderTrack) (r : Refusal) → o ≡ led_by gs (refused header r) → o.refusal ≡ Some r
refusal_of_led o gs header r e = ap (λ (x : Outcome). x.refusal) e

-- ---- one piece more

pub piece_joined : (b : List ℕ) (m k : ℕ) → m ≤ k → take m b ++ take (k - m) (drop m b) ≡ take k b
piece_joined b m k le = sym (take-add m (k - m) b) ∙ ap (λ (n : ℕ). take n b) (omega (arith, le))

pub fed_none : (b piece whole : List ℕ) (given : List Given) → b ++ piece ≡ whole → (body false (b ++ piece)).items ≡ (body false b).items ++ given → header_given (body false b).items ≡ None → header_given given ≡ None
    → header_given (body false whole).items ≡ None
fed_none b piece whole given is items none last =
    ap (λ (x : List ℕ). header_given (body false x).items) (sym is) ∙ (ap header_given items ∙ (header_behind (body false b).items given none ∙ last))

pub fed_some : (b piece whole : List ℕ) (given : List Given) (channel : List Track) → b ++ piece ≡ whole → (body false (b ++ piece)).items ≡ (body false b).items ++ given → header_given (body false b).items ≡ None
    → header_given given ≡ Some channel → header_given (body false whole).items ≡ Some channel
fed_some b piece whole given channel is items none last =
    ap (λ (x : List ℕ). header_given (body false x).items) (sym is) ∙ (ap header_given items ∙ (header_behind (body false b).items given none ∙ last))

pub fed_refused : Fronts → (input b piece whole : List ℕ) (rest : List ℕ) (gs : List Given) (header : List HeaderTrack) (r : Refusal) → b ++ piece ≡ whole → input ≡ whole ++ rest
    → body false (b ++ piece) ≡ led_by gs (refused header r) → (body false input).refusal ≡ Some r
fed_refused front input b piece whole rest gs header r is split led =
    refused_yet front input whole rest r split (ap (λ (x : List ℕ). (body false x).refusal) (sym is) ∙ refusal_of_led (body false (b ++ piece)) gs header r led)

-- ---- in which piece the header comes

some_stays : (xs ys : List Given) → IsSome (header_given xs) → IsSome (header_given (xs ++ ys))
some_stays [] ys some = absurd cc
some_stays (Header channel ∷ xs) ys some = refl
some_stays (Frag id f ∷ xs) ys some = some_stays xs ys some

seen_now : (b : List ℕ) (at end : ℕ) (given : List Given) (o : Option (List Track)) → at ≤ end → header_given (body false (take at b)).items ≡ None
    → (body false (take end b)).items ≡ (body false (take at b)).items ++ given → header_given given ≡ o → SeenAt b end (seen_by o at)
seen_now b at end given None le none items is = ap header_given items ∙ (header_behind (body false (take at b)).items given none ∙ is)
seen_now b at end given (Some channel) le none items is =
    (le, none, ap is_some (ap header_given items ∙ (header_behind (body false (take at b)).items given none ∙ is)))

seen_next : (b : List ℕ) (at end : ℕ) (seen : Option ℕ) (given : List Given) → at ≤ end → SeenAt b at seen
    → (body false (take end b)).items ≡ (body false (take at b)).items ++ given → SeenAt b end (seen_after seen given at)
seen_next b at end None given le none items = seen_now b at end given (header_given given) le none items refl
seen_next b at end (Some from) given le s items =
    (omega (arith, le, s.0), s.1, subst (λ (gs : List Given). IsSome (header_given gs)) (sym items) (some_stays (body false (take at b)).items given s.2))

pub seen_more : (b piece : List ℕ) (at end : ℕ) (seen : Option ℕ) (given : List Given) → at ≤ end → SeenAt b at seen → take at b ++ piece ≡ take end b
    → (body false (take at b ++ piece)).items ≡ (body false (take at b)).items ++ given → SeenAt b end (seen_after seen given at)
seen_more b piece at end seen given le s whole items = seen_next b at end seen given le s (ap (λ (x : List ℕ). (body false x).items) (sym whole) ∙ items)

-- a proper front of a front is one of a front that is shorter by one
shorter : (input p q : List ℕ) (at : ℕ) → at < length input → take (at + 1) input ≡ p ++ q → 0 < length q → take at input ≡ p ++ take (at - length p) (drop (length p) input)
shorter input p q at inside e some =
    let len : length p + length q ≡ at + 1 = sym (length-append p q) ∙ (ap length (sym e) ∙ (length-take (at + 1) input ∙ omega (arith, inside))) in
    let le : length p ≤ at = omega (arith, len, some) in
    let whole : input ≡ p ++ (q ++ drop (at + 1) input) =
    sym (take-append-drop (at + 1) input) ∙ (ap (λ (x : List ℕ). x ++ drop (at + 1) input) e ∙ append_assoc p q (drop (at + 1) input)) in
    let first : take (length p) input ≡ p = ap (take (length p)) whole ∙ take-append_seam p (q ++ drop (at + 1) input) in
    sym (piece_joined input (length p) at le) ∙ ap (λ (x : List ℕ). x ++ take (at - length p) (drop (length p) input)) first

pub fed_head : Fronts → (input : List ℕ) (at : ℕ) (channel : List Track) (name : List ℕ) (bitrate : ℕ) (id : Option ℕ) → at < length input → header_given (body false (take (at + 1) input)).items ≡ Some channel
    → header_given (body false (take at input)).items ≡ None → id ≡ id_for name bitrate (body false (take (at + 1) input)).header → IsHead input (take (at + 1) input) channel name bitrate id
fed_head front input at channel name bitrate id inside gives none is = record {
  rest = drop (at + 1) input;
  joined = sym (take-append-drop (at + 1) input);
  gives = gives;
  shortest = λ p q e some. no_header_before front (take at input) p (take (at - length p) (drop (length p) input)) (shorter input p q at inside e some) none;
  id_is = is;
}
