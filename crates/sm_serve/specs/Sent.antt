-- What is told on a connection.
use Rattle.std.specs.Prelude.{◌≡◌, ◌⊎◌, ℕ, ◌+◌, ◌==◌, true, List, [], ◌∷◌, ◌++◌, Some, None, if◌then◌else◌}
use Rattle.std.specs.List.{concat}
use Rattle.sm_site.specs.Meanings.{Deal, Item, sent_on}
use Rattle.sm_site.specs.Meanings.Deal.{Began, Came, Left, Over, Sent, Shut}
use Rattle.sm_head.specs.declared.reply.TheConstants.{CONTINUE, NO_MEMORY}
use Rattle.sm_serve.specs.declared.texts.TheConstants.{TOO_MANY}
use Rattle.sm_serve.specs.Connections.{is_open}
use Rattle.sm_serve.specs.Run.{Point, Stepped, idle, sent_of}

-- how often a connection was opened; a link gives each a number of its own
abbrev pub opens : ℕ → Deal → ℕ
opens n (Began k) = if k == n then 1 else 0
opens n (Came k bytes) = 0
opens n (Left k) = 0
opens n Over = 0
opens n (Sent k bytes failed) = 0
opens n (Shut k) = 0

unfoldable pub openings : ℕ → List Item → ℕ
openings n [] = 0
openings n (item ∷ items) = opens n item.deal + openings n items

-- a text that stands ready
abbrev pub StandsReady : List ℕ → Type 0
StandsReady text = (text ≡ CONTINUE.now) ⊎ ((text ≡ NO_MEMORY.now) ⊎ (text ≡ TOO_MANY.now))

-- These texts are told on a connection behind these steps: what is to be sent of the replies to its own steps, in their order, and between
-- them what stands ready.
pub data AreTexts (n : ℕ) : List Stepped → List (List ℕ) → Type 0 where
  nothing : AreTexts n [] []
  ready : (steps : List Stepped) (texts : List (List ℕ)) (text : List ℕ) → AreTexts n steps texts → StandsReady text
      → AreTexts n steps (texts ++ text ∷ [])
  replied : (steps : List Stepped) (texts : List (List ℕ)) (x : Stepped) (text : List ℕ) → AreTexts n steps texts → x.conn ≡ Some n
      → sent_of x.reply ≡ Some text → AreTexts n (steps ++ x ∷ []) (texts ++ text ∷ [])
  silent : (steps : List Stepped) (texts : List (List ℕ)) (x : Stepped) → AreTexts n steps texts → x.conn ≡ Some n → sent_of x.reply ≡ None
      → AreTexts n (steps ++ x ∷ []) texts
  other : (steps : List Stepped) (texts : List (List ℕ)) (x : Stepped) → AreTexts n steps texts → (x.conn ≡ Some n → ⊥)
      → AreTexts n (steps ++ x ∷ []) texts

-- The bytes that went out on a connection are a front of the texts that were told on it, joined. They are all of them where the loop awaits
-- an event, and no send failed or the connection is still open.
pub record IsFrontOfTexts (n : ℕ) (items : List Item) (steps : List Stepped) (p : Point) : Type 0 where
  pub texts : List (List ℕ)
  pub are_texts : AreTexts n steps texts
  pub rest : List ℕ
  pub front : concat texts ≡ sent_on n items ++ rest
  pub whole : p.phase ≡ idle → (p.failed ≡ 0) ⊎ (is_open n items ≡ true) → rest ≡ []
