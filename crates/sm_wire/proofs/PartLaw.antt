-- Where each part leads.
use Rattle.std.proofs.Common.{◌≡◌, ℕ, ◌<◌, Bool, true, false, List, [], ◌∷◌, ◌++◌, length, refl, ap, ◌∙◌, sym, subst, arith, append_assoc, Option, Some, None}
use Rattle.std.specs.Prelude.{map}
use Rattle.std.proofs.lemmas.List.{append-nil}
use Rattle.sm_model.specs.declared.cause.Cause.{Cause}
use Rattle.sm_model.specs.declared.cause.Refusal.{Refusal}
use Rattle.sm_model.specs.declared.target.Target.{Target}
use Rattle.sm_push.specs.Body.{body}
use Rattle.sm_conn.specs.declared.part.Part.{Part}
use Rattle.sm_conn.specs.declared.part.Part.TheVariants as part
use Rattle.sm_conn.specs.Parts.{PartItem, bad}
use Rattle.sm_wire.specs.declared.item.WireItem.{WireItem}
use Rattle.sm_wire.specs.declared.item.WireItem.TheVariants.{Continue, Get, End, Refuse}
use Rattle.sm_wire.specs.declared.plain.Behind.{Behind}
use Rattle.sm_wire.specs.declared.plain.Behind.TheVariants.{More, Last}
use Rattle.sm_wire.specs.Wire.{shown, unplaced, pushed, wire}
use Rattle.sm_wire.specs.Plain.{IsGiven, unless_closed, Goes}
use Rattle.sm_wire.proofs.WireLaw.{ended_left, ended_close, ended_refused, bad_inside, bytes_joined}

-- ---- no push is open

pub got_goes : (before : List WireItem) (t : Target) (close : Bool) → Goes before None (part.Get t close) (unless_closed close) (before ++ Get t close ∷ [])
unfolding wire
got_goes before t true = λ rest. refl
got_goes before t false = λ rest. sym (append_assoc before (Get t false ∷ []) (wire None rest))

pub continue_goes : (before : List WireItem) → Goes before None part.Continue (More None) (before ++ Continue ∷ [])
unfolding wire
continue_goes before rest = sym (append_assoc before (Continue ∷ []) (wire None rest))

pub post_goes : (before : List WireItem) → Goes before None part.Post (More (Some [])) before
unfolding wire
post_goes before rest = refl

pub no_bytes_go : (before : List WireItem) (bytes : List ℕ) → length bytes ≡ 0 → Goes before None (part.Body bytes) (More None) before
no_bytes_go before [] none rest = refl
no_bytes_go before (x ∷ bytes) none rest = absurd (omega arith)

pub bytes_are_last : (before : List WireItem) (bytes : List ℕ) → 0 < length bytes → Goes before None (part.Body bytes) Last before
unfolding wire
bytes_are_last before [] some rest = absurd (omega arith)
bytes_are_last before (x ∷ bytes) some rest = append-nil before

pub end_is_last : (before : List WireItem) (close : Bool) → Goes before None (part.End close) Last before
unfolding wire
end_is_last before close rest = append-nil before

pub bad_is_last : (before : List WireItem) (cause : Cause) → Goes before None (part.Bad cause) Last (before ++ Refuse (unplaced cause) ∷ [])
unfolding wire
bad_is_last before cause rest = refl

-- ---- a push is open

pub bytes_go : (before : List WireItem) (b bytes : List ℕ) → Goes before (Some b) (part.Body bytes) (More (Some (b ++ bytes))) before
bytes_go before b bytes rest = ap (λ ws. before ++ ws) (bytes_joined bytes b rest)

pub refused_end : (before after : List WireItem) (b : List ℕ) (close : Bool) → IsGiven b true false before after → Goes before (Some b) (part.End close) Last after
refused_end before after b close (r, is, given) rest = ap (λ ws. before ++ ws) (ended_refused b rest close r is) ∙ sym given

pub end_goes : (before given after : List WireItem) (b : List ℕ) (close : Bool) → IsGiven b true true before given → after ≡ given ++ End close ∷ []
    → Goes before (Some b) (part.End close) (unless_closed close) after
end_goes before given after b true (clear, is) ends = λ rest.
    ap (λ ws. before ++ ws) (ended_close b rest clear) ∙ sym (append_assoc before (map shown (body false b).items) (End true ∷ []))
    ∙ ap (λ ws. ws ++ End true ∷ []) (sym is) ∙ sym ends
end_goes before given after b false (clear, is) ends = λ rest.
    ap (λ ws. before ++ ws) (ended_left b rest clear) ∙ sym (append_assoc before (map shown (body false b).items) (End false ∷ wire None rest))
    ∙ ap (λ ws. ws ++ End false ∷ wire None rest) (sym is) ∙ sym (append_assoc given (End false ∷ []) (wire None rest)) ∙ ap (λ ws. ws ++ wire None rest) (sym ends)

bad_refused : (b : List ℕ) (cause : Cause) (rest : List PartItem) (r : Refusal) → (body false b).refusal ≡ Some r
    → wire (Some b) (bad cause ∷ rest) ≡ map shown (body false b).items ++ Refuse r ∷ []
unfolding wire
bad_refused b cause rest r is = ap (λ (s : Option Refusal). pushed (body false b) s (Refuse (unplaced cause) ∷ [])) is

pub refused_bad : (before after : List WireItem) (b : List ℕ) (cause : Cause) → IsGiven b false false before after → Goes before (Some b) (part.Bad cause) Last after
refused_bad before after b cause (r, is, given) rest = ap (λ ws. before ++ ws) (bad_refused b cause rest r is) ∙ sym given

pub bad_goes : (before given after : List WireItem) (b : List ℕ) (cause : Cause) → IsGiven b false true before given → after ≡ given ++ Refuse (unplaced cause) ∷ []
    → Goes before (Some b) (part.Bad cause) Last after
bad_goes before given after b cause (clear, is) ends rest =
    ap (λ ws. before ++ ws) (bad_inside b cause rest clear) ∙ sym (append_assoc before (map shown (body false b).items) (Refuse (unplaced cause) ∷ []))
    ∙ ap (λ ws. ws ++ Refuse (unplaced cause) ∷ []) (sym is) ∙ sym ends

-- what a push gives that goes on no more
pub cut_given : (before after : List WireItem) (b : List ℕ) (clear : Bool) → IsGiven b false clear before after → after ≡ before ++ wire (Some b) []
unfolding wire
cut_given before after b true (clear, is) =
    is ∙ ap (λ ws. before ++ ws) (sym (append-nil (map shown (body false b).items)) ∙ ap (λ (s : Option Refusal). pushed (body false b) s []) (sym clear))
cut_given before after b false (r, refuses, is) = is ∙ ap (λ ws. before ++ ws) (ap (λ (s : Option Refusal). pushed (body false b) s []) (sym refuses))

-- a part that comes where none can
abbrev pub IsStray : Part → Type 0
IsStray (part.Get t close) = Unit {0}
IsStray part.Continue = Unit {0}
IsStray part.Post = Unit {0}
IsStray (part.Body bytes) = ⊥
IsStray (part.End close) = ⊥
IsStray (part.Bad cause) = ⊥

pub stray_is_last : (before after : List WireItem) (b : List ℕ) (p : Part) → IsStray p → after ≡ before ++ wire (Some b) [] → Goes before (Some b) p Last after
unfolding wire
stray_is_last before after b (part.Get t close) stray is rest = sym is
stray_is_last before after b part.Continue stray is rest = sym is
stray_is_last before after b part.Post stray is rest = sym is
stray_is_last before after b (part.Body bytes) stray is rest = absurd stray
stray_is_last before after b (part.End close) stray is rest = absurd stray
stray_is_last before after b (part.Bad cause) stray is rest = absurd stray

-- ---- the same, of equal things

pub goes_as : (before after given : List WireItem) (o : Option (List ℕ)) (p q : Part) (one other : Behind) → p ≡ q → one ≡ other → after ≡ given
    → Goes before o q other given → Goes before o p one after
goes_as before after given o p q one other part_is behind_is after_is goes =
    subst (λ (r : Part). Goes before o r one after) (sym part_is)
    (subst (λ (b : Behind). Goes before o q b after) (sym behind_is) (subst (λ (ws : List WireItem). Goes before o q other ws) (sym after_is) goes))

pub given_as : (b c : List ℕ) (ends clear wanted : Bool) (before after : List WireItem) → b ≡ c → clear ≡ wanted → IsGiven b ends clear before after → IsGiven c ends wanted before after
given_as b c ends clear wanted before after bytes_are clear_is given =
    subst (λ (x : List ℕ). IsGiven x ends wanted before after) bytes_are (subst (λ (k : Bool). IsGiven b ends k before after) clear_is given)
