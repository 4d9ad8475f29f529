-- Events that bring a request.
use Rattle.std.proofs.Common.{◌≡◌, ℕ, ◌+◌, ◌≤◌, Bool, true, false, ◌&&◌, ◌==◌, nat_le, if◌then◌else◌, List, [], ◌∷◌, ◌++◌, length, refl, sym, ◌∙◌, ap, append_assoc, arith}
use Rattle.std.proofs.lemmas.List.{append-nil}
use Rattle.std.proofs.lemmas.Bool.{eq-eqb}
use Rattle.std.proofs.lemmas.Bool.Decides.{nat_tests}
use Rattle.sm_site.specs.declared.event.Event.{Event}
use Rattle.sm_site.specs.declared.event.Event.TheVariants.{Opened, Piece, Closed, Ended}
use Rattle.sm_site.specs.Scripts.{is_script}
use Rattle.sm_world.specs.Bringing.{brought, brought_by, Brings}

brought_push : (conn : ℕ) (events : List Event) (event : Event) → brought conn (events ++ event ∷ []) ≡ brought conn events ++ brought_by conn event
brought_push conn [] event = append-nil (brought_by conn event)
brought_push conn (x ∷ events) event =
    ap (λ (l : List ℕ). brought_by conn x ++ l) (brought_push conn events event) ∙ sym (append_assoc (brought_by conn x) (brought conn events) (brought_by conn event))

and_map : (a b c : Bool) → (b ≡ true → c ≡ true) → (a && b) ≡ true → (a && c) ≡ true
and_map true b c so is = so is
and_map false b c so is = absurd (cc)

le_test : (a b : ℕ) → a ≤ b → nat_le a b ≡ true
le_test a b le = grind (arith, nat_tests)

sized : (piece : List ℕ) → 1 ≤ length piece → length piece ≤ 65536 → ((nat_le 1 (length piece) && nat_le (length piece) 65536) && true) ≡ true
sized piece some short =
    ap (λ (b : Bool). (b && nat_le (length piece) 65536) && true) (le_test 1 (length piece) some) ∙ ap (λ (b : Bool). b && true) (le_test (length piece) 65536 short)

script_push : (from conn : ℕ) (piece : List ℕ) (events : List Event) → 1 ≤ length piece → length piece ≤ 65536 → is_script from events ≡ true
    → is_script from (events ++ Piece conn piece ∷ []) ≡ true
script_push from conn piece [] some short is = sized piece some short
script_push from conn piece (Opened n ∷ events) some short is =
    and_map (nat_le from n) (is_script (n + 1) events) (is_script (n + 1) (events ++ Piece conn piece ∷ [])) (script_push (n + 1) conn piece events some short) is
script_push from conn piece (Piece n other ∷ events) some short is =
    and_map (nat_le 1 (length other) && nat_le (length other) 65536) (is_script from events) (is_script from (events ++ Piece conn piece ∷ [])) (script_push from conn piece events some short) is
script_push from conn piece (Closed n ∷ events) some short is = script_push from conn piece events some short is
script_push from conn piece (Ended ∷ events) some short is = absurd (cc)

pub brings_none : (conn : ℕ) → Brings conn [] (Opened conn ∷ [])
brings_none conn = record { rest = []; opens = refl; all = refl; fits = λ from le. ap (λ (b : Bool). b && true) (le_test from conn le) }

pub brings_push : (conn : ℕ) (bytes piece : List ℕ) (events : List Event) → 1 ≤ length piece → length piece ≤ 65536 → Brings conn bytes events
    → Brings conn (bytes ++ piece) (events ++ Piece conn piece ∷ [])
brings_push conn bytes piece events some short b = record {
  rest = b.rest ++ Piece conn piece ∷ [];
  opens = ap (λ (es : List Event). es ++ Piece conn piece ∷ []) b.opens;
  all = brought_push conn b.rest (Piece conn piece) ∙ ap (λ (l : List ℕ). l ++ (if conn == conn then piece else [])) b.all
      ∙ ap (λ (c : Bool). bytes ++ (if c then piece else [])) (eq-eqb conn conn refl);
  fits = λ from le. script_push from conn piece events some short (b.fits from le);
}
