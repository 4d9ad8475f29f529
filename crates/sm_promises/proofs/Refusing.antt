-- A push is refused for its first fault.
use Rattle.std.proofs.Common.{◌≡◌, ℕ, ◌≤◌, Bool, false, List, [], ◌∷◌, ◌++◌, map, Some, None, refl, sym, ◌∙◌, ap, subst, append_assoc}
use Rattle.sm_model.specs.declared.cause.Refusal.{Refusal}
use Rattle.sm_model.specs.declared.header.HeaderTrack.{HeaderTrack}
use Rattle.sm_model.specs.Items.{Given}
use Rattle.sm_site.specs.Meanings.{Item}
use Rattle.sm_push.specs.Body.{body, walk, led_by, refused}
use Rattle.sm_conn.specs.Parts.{PartItem, posted, byte}
use Rattle.sm_wire.specs.declared.item.WireItem.{WireItem}
use Rattle.sm_wire.specs.declared.item.WireItem.TheVariants.{Refuse}
use Rattle.sm_wire.specs.Wire.{shown, wire, Left, IsWire}
use Rattle.sm_origin.specs.Machine.{Machine}
use Rattle.sm_serve.specs.Connections.{received}
use Rattle.sm_serve.specs.Run.{Counts, Point, Run, Stepped}
use Rattle.sm_serve.specs.Sent.{openings}
use Rattle.sm_promises.specs.Promises.{AreActs, IsFaultyPush}
use Rattle.sm_promises.proofs.Asking.{Fronts, become_steps}

-- where bytes of a push bring a refusal, the items before it and the refusal are what is left, whatever follows
abbrev pub Ends : Type 0
Ends = (before bytes : List ℕ) (items : List Given) (header : List HeaderTrack) (r : Refusal) (parts : List PartItem)
    → body false (before ++ bytes) ≡ led_by ((body false before).items ++ items) (refused header r)
    → Left (Some before) (map (λ b. byte b) bytes ++ parts) (map shown items ++ Refuse r ∷ [])

empty_body : (body false []).items ≡ []
unfolding walk
empty_body = refl

posted_wire : (parts : List PartItem) → wire None (posted ∷ parts) ≡ wire (Some []) parts
unfolding wire
posted_wire parts = refl

pub faulty_wire : Ends → (bytes : List ℕ) (items : List Given) (fault : Refusal) → IsFaultyPush bytes items fault → IsWire bytes (map shown items ++ Refuse fault ∷ [])
faulty_wire ends bytes items fault f =
    let rest = map (λ b. byte b) f.push ++ f.behind in
    let all = map shown items ++ Refuse fault ∷ [] in
    let left = ends [] f.push items f.header fault f.behind (f.faulty ∙ ap (λ (before : List Given). led_by (before ++ items) (refused f.header fault)) (sym empty_body)) in
    (posted ∷ rest, f.parts, sym (posted_wire rest ∙ left ∙ ap (λ (before : List Given). map shown before ++ all) empty_body))

pub refused_first : Fronts → Ends → (told : Bool) (first : Machine) (begin faults : ℕ) (its : List Item) (steps : List Stepped) (p : Point) → Run told first begin faults its steps p
    → (n : ℕ) → openings n its ≤ 1 → (items : List Given) (fault : Refusal) → IsFaultyPush (received n its) items fault
    → (done rest : List WireItem) × (counts : Counts) × (map shown items ++ Refuse fault ∷ [] ≡ done ++ rest) × AreActs n steps done counts
refused_first front ends told first begin faults its steps p run n few items fault f =
    let b = become_steps front told first begin faults its steps p run n few in
    let all = map shown items ++ Refuse fault ∷ [] in
    let whole = subst (λ bytes. IsWire bytes all) b.came (faulty_wire ends (received n its) items fault f) in
    let more = front b.read b.late b.given all b.are whole in
    (b.done, b.rest ++ more.0, b.counts, more.1 ∙ ap (λ (ws : List WireItem). ws ++ more.0) b.front ∙ append_assoc b.done b.rest more.0, b.acts)
