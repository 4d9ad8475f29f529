use Rattle.std.proofs.Common.{refl, ◌∙◌, sym, ap, ◌+◌}
use Rattle.sm_model.specs.declared.fragment.Fragment.{Fragment}
use Rattle.sm_client.proofs.Dials.{left-dropped, left-carried}
use Rattle.sm_client.proofs.Streaming.{may-piece, ends-gave_up, ends-stopped, ends-untold, ends-unwritten, ends-written, streams-on, follows}
use Rattle.sm_client.proofs.stream.Stream.add_piece.Goals as goal

pub returns-clause-added : goal.returns-clause-added
returns-clause-added g c p h more known =
    ends-stopped _ c.in-NoMemory.ensures.dial.dialed.grows (c.in-NoMemory.ensures.made p (may-piece h c.in-Some.is refl more known c.ahead.ensures)) h.written

pub returns-in-GaveUp-clause-added : goal.returns-in-GaveUp-clause-added
returns-in-GaveUp-clause-added g c p h more known =
    ends-gave_up _ c.in-GaveUp.ensures.dial.dialed.grows h more known (c.in-GaveUp.ensures.made p (may-piece h c.in-Some.is refl more known c.ahead.ensures)) h.written

pub returns-in_default-fragment_of-clause-added : goal.returns-in_default-fragment_of-clause-added
returns-in_default-fragment_of-clause-added g c p h more known =
    ends-untold _ c.in-Took.ensures.dial.dialed.grows (c.in-Took.ensures.made p (may-piece h c.in-Some.is refl more known c.ahead.ensures)) h.written

pub returns-in-Some-write-clause-added : goal.returns-in-Some-write-clause-added
returns-in-Some-write-clause-added g c p h more known =
    ends-unwritten c.in-Some-write.end (c.args.standing.now.written + 1) (c.in-Took.level + 1) c.in-Ok.fragment c.in-Took.ensures.dial.dialed.grows (sym h.listing ∙ c.in-Some.is)
    (c.in-Took.ensures.made p (may-piece h c.in-Some.is refl more known c.ahead.ensures))
    (ap (λ n. n + 1) h.written) refl
    c.in-Ok.ensures.0 c.in-Some-write.ensures.text
    h.written

pub returns-in-Ok-wrote-clause-added : goal.returns-in-Ok-wrote-clause-added
returns-in-Ok-wrote-clause-added g c p h more known =
    streams-on _ (c.args.standing.now.written + 1) (c.in-Took.level + 1) c.in-Ok.fragment (sym h.listing ∙ c.in-Some.is)
    (c.in-Took.ensures.made p (may-piece h c.in-Some.is refl more known c.ahead.ensures)) c.in-Took.ensures.kept
    (ap (λ n. n + 1) h.written) refl c.in-Ok.ensures.0 c.in_default-write.ensures.text
    (c.in-Ok-wrote.ensures.holds p _ h
    (rw (c.as_slice.ensures ∙ c.in-Ok.ensures.1)
    (follows c.args.self.now.name.now c.in-Took.raw c.in-Took.level (c.in-Ok.fragment.time + c.in-Ok.fragment.duration) (sym h.listing ∙ c.in-Some.is)
    (c.in-Took.ensures.took.2 ∙ h.expected) (ap (λ (f : Fragment). f.time + f.duration) c.in-Ok.ensures.0))))

pub returns-in-Took-clause-added : goal.returns-in-Took-clause-added
returns-in-Took-clause-added g c p h more known =
    ends-written (c.args.standing.now.written + 1) (c.in-Took.level + 1) c.in-Ok.fragment (sym h.listing ∙ c.in-Some.is)
    (c.in-Took.ensures.made p (may-piece h c.in-Some.is refl more known c.ahead.ensures)) c.in-Took.ensures.kept
    (ap (λ n. n + 1) h.written) refl c.in-Ok.ensures.0 c.in_default-write.ensures.text (c.wrote.ensures.written ∙ ap (λ n. n + 1) h.written)

pub returns-in-Some-write-clause-dial : goal.returns-in-Some-write-clause-dial
returns-in-Some-write-clause-dial g c = left-carried _ (left-dropped c.in-Took.ensures.dial) c.in-Some-write.ensures.quiet
