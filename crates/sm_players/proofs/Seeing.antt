-- What a player has seen only goes forward.
use Rattle.std.proofs.Common.{◌≡◌, ℕ, Bool, true, false, List, [], sym, ap, subst}
use Rattle.sm_log.specs.Digests.{Digest, Extends}
use Rattle.sm_log.proofs.AllLogs.{extends_itself, extends_through}
use Rattle.sm_site.specs.Meanings.{Deal}
use Rattle.sm_model.specs.declared.target.Target.{Target}
use Rattle.sm_conn.specs.Parts.{PartItem}
use Rattle.sm_players.specs.declared.replying.Final.{Final}
use Rattle.sm_players.specs.Asking.{Asking}
use Rattle.sm_players.specs.Open.{Known}
use Rattle.sm_players.specs.Replying.{IsFinal, shown_it, forwarded, failed, unknown, IsReplied, to_get, to_post, to_bad}
use Rattle.sm_players.specs.Taking.{Standing, Handles, skips, replies, starves, Takes, nothing, next, stops}
use Rattle.sm_players.specs.Playing.{Turns, opened, crowded, unborn, came, unread, passed, left, left_alone, over, Plays, begins, goes_on}

same_sees : (a b : Digest) → b ≡ a → Extends b a
same_sees a b same = subst (λ (d : Digest). Extends d a) (sym same) (extends_itself a)

final_sees : (seen : Digest) (target : Target) (seen' : Digest) (asked : List Asking) (f : Final) → IsFinal seen target seen' asked f → Extends seen' seen
final_sees seen target seen' asked f (shown_it act is answers none close) = answers.0
final_sees seen target seen' asked f (forwarded act is answers one closes) = answers.0
final_sees seen target seen' asked f (failed act is answers one told) = answers.0
final_sees seen target seen' asked f (unknown is same none told) = same_sees seen seen' same

replied_sees : (seen : Digest) (item : PartItem) (seen' : Digest) (asked : List Asking) (f : Final) → IsReplied seen item seen' asked f → Extends seen' seen
replied_sees seen item seen' asked f (to_get target close r is final told) = final_sees seen target seen' asked r final
replied_sees seen item seen' asked f (to_post is same none told) = same_sees seen seen' same
replied_sees seen item seen' asked f (to_bad c is same none told) = same_sees seen seen' same

same_standing : (p q : Standing) → q ≡ p → Extends q.seen p.seen
same_standing p q same = same_sees p.seen q.seen (ap (λ (s : Standing). s.seen) same)

handles_sees : (n : ℕ) (p : Standing) (items : List PartItem) (told : List Deal) (asked : List Asking) (o : Bool) (q : Standing) → Handles n p items told asked o q → Extends q.seen p.seen
handles_sees n p items told asked o q (skips is none nor open_ same) = same_standing p q same
handles_sees n p items told asked o q (replies item f result is replied tells open_ count) = replied_sees p.seen item q.seen asked f replied
handles_sees n p items told asked o q (starves result starved tells open_ count) = starved.on

takes_sees : (n : ℕ) (p : Standing) (items : List PartItem) (told : List Deal) (asked : List Asking) (o : Bool) (q : Standing) → Takes n p items told asked o q → Extends q.seen p.seen
takes_sees n p [] [] [] true q nothing = extends_itself p.seen
takes_sees n p items told asked o q (next was more items' ds es told' xs ys asked' o' r q' before one is tell ask) =
    extends_through q.seen r.seen p.seen (handles_sees n r more es ys o q one) (takes_sees n p was ds xs true r before)
takes_sees n p items told asked false q (stops was rest items' told' asked' q' before is) = takes_sees n p was told asked false q before

pub turns_sees : (lives after : List Known) (p q : Standing) (deal : Deal) (told : List Deal) (asked : List Asking) → Turns lives p deal told asked after q → Extends q.seen p.seen
turns_sees lives after p q deal told asked (opened n is few none nor more same) = same_standing p q same
turns_sees lives after p q deal told asked (crowded n text result is many text_is tells none more same) = same_standing p q same
turns_sees lives after p q deal told asked (unborn n result is tells none more same) = same_standing p q same
turns_sees lives after p q deal told asked (came front back k bytes given more o is lives_is had has takes left_is) = takes_sees k.number p more told asked o q takes
turns_sees lives after p q deal told asked (unread front back k bytes result is lives_is tells none left_is same) = same_standing p q same
turns_sees lives after p q deal told asked (passed n bytes is none nor nob left_is same) = same_standing p q same
turns_sees lives after p q deal told asked (left front back k is lives_is none nor left_is same) = same_standing p q same
turns_sees lives after p q deal told asked (left_alone n is none nor nob left_is same) = same_standing p q same
turns_sees lives after p q deal told asked (over is none nor left_is same) = same_standing p q same

pub plays_sees : (p q : Standing) (taken : ℕ) (deals : List Deal) (asked : List Asking) (lives : List Known) (ended : Bool) → Plays p taken deals asked lives ended q → Extends q.seen p.seen
plays_sees p q taken [] [] [] false (begins taken' none) = extends_itself p.seen
plays_sees p q taken deals asked lives ended (goes_on n taken' ds es deals' xs ys asked' ks lives' r q' deal ended' before turn count tell ask over_) =
    extends_through q.seen r.seen p.seen (turns_sees ks lives r q deal es ys turn) (plays_sees p r n ds xs ks false before)
