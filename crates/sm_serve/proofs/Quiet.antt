-- What an entry more changes of a connection.
use Rattle.std.proofs.Common.{◌≡◌, inl, inr, ℕ, Bool, true, false, not, ◌&&◌, if◌then◌else◌, List, [], ◌∷◌, ◌++◌, refl, sym, ◌∙◌, ap, subst}
use Rattle.std.proofs.lemmas.List.{append-nil}
use Rattle.std.proofs.lemmas.Bool.{eq-eqb, ne_eqb, cases_Bool}
use Rattle.sm_site.specs.Meanings.{Deal, Item}
use Rattle.sm_site.specs.Meanings.Deal.{Began, Came, Left, Over, Sent, Shut}
use Rattle.sm_head.specs.Shown.{shows_status}
use Rattle.sm_serve.specs.Connections.{received_after, received, without, live_after, live, is_among}
use Rattle.sm_serve.specs.Run.{at}
use Rattle.sm_serve.specs.Shown.{replies_after, replies}
use Rattle.sm_serve.proofs.Transcripts.{received_push, live_push}
use Rattle.sm_serve.proofs.Lives.{among_less, among_itself, among_push}
use Rattle.sm_serve.proofs.Requests.{replies_push}

-- the bytes and the replies stay, and the connection isn't opened
abbrev pub IsQuiet : ℕ → List Item → List Item → Type 0
IsQuiet n items es =
    (received n (items ++ es) ≡ received n items) × (replies n (items ++ es) ≡ replies n items) × (is_among n (live (items ++ es)) ≡ true → is_among n (live items) ≡ true)

pub quiet_none : (n : ℕ) (items : List Item) → IsQuiet n items []
quiet_none n items = (ap (λ (l : List Item). received n l) (append-nil items), ap (λ (l : List Item). replies n l) (append-nil items), λ now. ap (λ (l : List Item). is_among n (live l)) (sym (append-nil items)) ∙ now)

quiet_by : (n m : ℕ) (items : List Item) (deal : Deal) → received_after n (received n items) deal ≡ received n items → replies_after n (replies n items) deal ≡ replies n items
    → (is_among n (live_after (live items) deal) ≡ true → is_among n (live items) ≡ true) → IsQuiet n items (at m deal)
quiet_by n m items deal bytes parts opens =
    let item : Item = record { moment = m; deal = deal } in
    (received_push n items item ∙ bytes, replies_push n items item ∙ parts, λ now. opens (ap (λ (ns : List ℕ). is_among n ns) (sym (live_push items item)) ∙ now))

pub began_less : (n k : ℕ) (ns : List ℕ) → (k ≡ n → ⊥) → is_among n (without k ns ++ k ∷ []) ≡ true → is_among n ns ≡ true
began_less n k ns other now =
    elim (cases_Bool (is_among n ns)) [
      | inl among ↦ among
      | inr none ↦ let gone = among_push n k (without k ns) (among_less n k ns none) (λ e. other (sym e)) in absurd (cc)
    ]

pub ended_less : (n k : ℕ) (ns : List ℕ) → is_among n (without k ns) ≡ true → is_among n ns ≡ true
ended_less n k ns now =
    elim (cases_Bool (is_among n ns)) [
      | inl among ↦ among
      | inr none ↦ let gone = among_less n k ns none in absurd (cc)
    ]

pub quiet_began : (n k m : ℕ) (items : List Item) → (k ≡ n → ⊥) → IsQuiet n items (at m (Began k))
quiet_began n k m items other =
    quiet_by n m items (Began k) (ap (λ (b : Bool). if b then [] else received n items) (ne_eqb k n other)) (ap (λ (b : Bool). if b then [] else replies n items) (ne_eqb k n other)) (began_less n k (live items) other)

pub quiet_came : (n k m : ℕ) (bytes : List ℕ) (items : List Item) → (k ≡ n → ⊥) → IsQuiet n items (at m (Came k bytes))
quiet_came n k m bytes items other = quiet_by n m items (Came k bytes) (ap (λ (b : Bool). if b then received n items ++ bytes else received n items) (ne_eqb k n other)) refl (λ now. now)

pub quiet_left : (n k m : ℕ) (items : List Item) → IsQuiet n items (at m (Left k))
quiet_left n k m items = quiet_by n m items (Left k) refl refl (ended_less n k (live items))

pub quiet_over : (n m : ℕ) (items : List Item) → IsQuiet n items (at m Over)
quiet_over n m items = quiet_by n m items Over refl refl (λ now. now)

pub quiet_sent : (n k m : ℕ) (part : List ℕ) (broken : Bool) (items : List Item) → (k ≡ n → ⊥) → IsQuiet n items (at m (Sent k part broken))
quiet_sent n k m part broken items other =
    quiet_by n m items (Sent k part broken) refl
    (ap (λ (b : Bool). if b && not (shows_status 100 part) then replies n items ++ part ∷ [] else replies n items) (ne_eqb k n other)) (λ now. now)

pub quiet_shut : (n k m : ℕ) (items : List Item) → IsQuiet n items (at m (Shut k))
quiet_shut n k m items = quiet_by n m items (Shut k) refl refl (ended_less n k (live items))

-- ---- of the connection itself

pub bytes_begun : (n k m : ℕ) (items : List Item) → k ≡ n → received n (items ++ at m (Began k)) ≡ []
bytes_begun n k m items same = received_push n items (record { moment = m; deal = Began k }) ∙ ap (λ (b : Bool). if b then [] else received n items) (eq-eqb k n same)

pub parts_begun : (n k m : ℕ) (items : List Item) → k ≡ n → replies n (items ++ at m (Began k)) ≡ []
parts_begun n k m items same = replies_push n items (record { moment = m; deal = Began k }) ∙ ap (λ (b : Bool). if b then [] else replies n items) (eq-eqb k n same)

pub bytes_came : (n k m : ℕ) (bytes : List ℕ) (items : List Item) → k ≡ n → received n (items ++ at m (Came k bytes)) ≡ received n items ++ bytes
bytes_came n k m bytes items same = received_push n items (record { moment = m; deal = Came k bytes }) ∙ ap (λ (b : Bool). if b then received n items ++ bytes else received n items) (eq-eqb k n same)

pub parts_came : (n k m : ℕ) (bytes : List ℕ) (items : List Item) → replies n (items ++ at m (Came k bytes)) ≡ replies n items
parts_came n k m bytes items = replies_push n items (record { moment = m; deal = Came k bytes })

pub bytes_sent : (n k m : ℕ) (part : List ℕ) (broken : Bool) (items : List Item) → received n (items ++ at m (Sent k part broken)) ≡ received n items
bytes_sent n k m part broken items = received_push n items (record { moment = m; deal = Sent k part broken })

pub parts_sent : (n k m : ℕ) (part : List ℕ) (broken : Bool) (items : List Item) → k ≡ n → shows_status 100 part ≡ false → replies n (items ++ at m (Sent k part broken)) ≡ replies n items ++ part ∷ []
parts_sent n k m part broken items same final =
    replies_push n items (record { moment = m; deal = Sent k part broken })
    ∙ ap (λ (b : Bool). if b && not (shows_status 100 part) then replies n items ++ part ∷ [] else replies n items) (eq-eqb k n same)
    ∙ ap (λ (b : Bool). if not b then replies n items ++ part ∷ [] else replies n items) final

pub parts_head : (n k m : ℕ) (part : List ℕ) (broken : Bool) (items : List Item) → k ≡ n → shows_status 100 part ≡ true → replies n (items ++ at m (Sent k part broken)) ≡ replies n items
parts_head n k m part broken items same head =
    replies_push n items (record { moment = m; deal = Sent k part broken })
    ∙ ap (λ (b : Bool). if b && not (shows_status 100 part) then replies n items ++ part ∷ [] else replies n items) (eq-eqb k n same)
    ∙ ap (λ (b : Bool). if not b then replies n items ++ part ∷ [] else replies n items) head

pub not_live : (n k m : ℕ) (items : List Item) → k ≡ n → is_among n (live (items ++ at m (Shut k))) ≡ false
not_live n k m items same =
    ap (λ (ns : List ℕ). is_among n ns) (live_push items (record { moment = m; deal = Shut k })) ∙ subst (λ (j : ℕ). is_among n (without j (live items)) ≡ false) (sym same) (among_itself n (live items))

pub still_live : (n k m : ℕ) (bytes : List ℕ) (items : List Item) → is_among n (live (items ++ at m (Came k bytes))) ≡ is_among n (live items)
still_live n k m bytes items = ap (λ (ns : List ℕ). is_among n ns) (live_push items (record { moment = m; deal = Came k bytes }))
