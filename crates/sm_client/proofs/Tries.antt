-- What holds at each try.
use Rattle.std.proofs.Common.{◌≡◌, ◌<◌, ◌+◌, ℕ, List, [], ◌∷◌, ◌++◌, length, Option, refl, ◌∙◌, arith, length-append}
use Rattle.sm_manin.specs.declared.listing.StreamListing.{StreamListing}
use Rattle.sm_fetch.specs.declared.dial.Exchange.{Exchange}
use Rattle.sm_fetch.specs.declared.got.Got.TheVariants as got
use Rattle.sm_client.specs.declared.plan.Plan.{Plan}
use Rattle.sm_client.specs.declared.report.Miss.{Miss}
use Rattle.sm_client.specs.declared.list.Listed.TheVariants as listed_once
use Rattle.sm_client.specs.declared.list.Manifest.TheVariants as manifest
use Rattle.sm_model.specs.declared.run.RawFragment.{RawFragment}
use Rattle.sm_fetch.specs.declared.got.Got.{Got}
use Rattle.sm_client.specs.declared.piece.Pieces.TheVariants as pieces
use Rattle.sm_client.specs.declared.piece.Wanted.{Wanted}
use Rattle.sm_client.specs.Turns.{Meaning, Turn, fresh, settle}
use Rattle.sm_client.specs.Stands.{Stand, Standing, standing, piece}
use Rattle.sm_client.specs.Asks.{MayList, IsRead}
use Rattle.sm_client.specs.Calls.{at, ListWent, ListedOnce, ListedBy, ListMissed, Went, MayPiece, PieceHeard, PieceMissed, PieceLost, PieceTaken, PieceStopped, TookValid}
use Rattle.sm_client.proofs.Went.{lists-start, lists-more, list-found, list-missed, list-lost, went-start, went-more, went-took, piece-last, piece_missed-is}
use Rattle.sm_client.proofs.Pieces.{spelled-fragment, valid-named, lost-went}

-- so many requests for the manifest missed
pub record ListTried (plan : Plan) (name : List ℕ) (outcomes : List Miss) (tries : ℕ) (old new : Option (List Exchange)) : Type 0 where
  pub count : length outcomes ≡ tries
  pub went : (stand : Stand) → MayList plan stand → ListWent plan name (at stand []) (at stand outcomes) [] old new

pub list_tried-start : (plan : Plan) (name : List ℕ) (log : Option (List Exchange)) → ListTried plan name [] 0 log log
list_tried-start plan name log = record { count = refl; went = λ stand may. lists-start plan name (at stand []) log }

pub list_tried-more : {plan : Plan} {name : List ℕ} {outcomes : List Miss} {tries : ℕ} {old mid new : Option (List Exchange)} {m : Miss} (now : List Miss) (k : ℕ)
    → ListTried plan name outcomes tries old mid → tries < plan.tries → ListMissed plan mid new m → now ≡ outcomes ++ m ∷ [] → k ≡ tries + 1
    → ListTried plan name now k old new
list_tried-more {name = name} {outcomes = outcomes} now k t fits missed is next = record {
  count = rw (is, length-append) (omega (arith, t.count, next));
  went = λ stand may. rw is (lists-more (t.went stand may) (list-missed name stand outcomes may (omega (arith, t.count, fits)) missed));
}

pub list_tried-found : {plan : Plan} {name : List ℕ} {outcomes : List Miss} {tries : ℕ} {old mid new : Option (List Exchange)} {found : Option StreamListing}
    → ListTried plan name outcomes tries old mid → tries < plan.tries → ListedOnce plan name mid new (listed_once.Found found)
    → (stand : Stand) → MayList plan stand → ListedBy plan name stand old new (manifest.Read found)
list_tried-found {outcomes = outcomes} t fits f stand may = (lists-more (t.went stand may) (list-found stand outcomes may (omega (arith, t.count, fits)) f.0), f.1)

pub list_tried-stopped : {plan : Plan} {name : List ℕ} {outcomes : List Miss} {tries : ℕ} {old mid new : Option (List Exchange)} {m : Miss}
    → ListTried plan name outcomes tries old mid → tries < plan.tries → ListMissed plan mid new m
    → (stand : Stand) → MayList plan stand → ListedBy plan name stand old new manifest.NoMemory
list_tried-stopped {name = name} {outcomes = outcomes} {m = m} t fits missed stand may = record {
  to = at stand (outcomes ++ m ∷ []);
  last = [];
  went = lists-more (t.went stand may) (list-missed name stand outcomes may (omega (arith, t.count, fits)) missed);
  written = refl;
}

pub list_tried-lost : {plan : Plan} {name : List ℕ} {outcomes : List Miss} {tries : ℕ} {old mid new : Option (List Exchange)}
    → ListTried plan name outcomes tries old mid → tries < plan.tries → ListedOnce plan name mid new listed_once.NoMemory
    → (stand : Stand) → MayList plan stand → ListedBy plan name stand old new manifest.NoMemory
list_tried-lost {name = name} {outcomes = outcomes} t fits lost stand may =
    let l = list-lost name stand outcomes may (omega (arith, t.count, fits)) lost in
    record { to = at stand outcomes; last = l.0; went = lists-more (t.went stand may) l.1; written = refl }

pub list_tried-end : {plan : Plan} {name : List ℕ} {outcomes : List Miss} {tries : ℕ} {old new : Option (List Exchange)}
    → ListTried plan name outcomes tries old new → tries ≡ plan.tries
    → (stand : Stand) → MayList plan stand → ListedBy plan name stand old new (manifest.GaveUp outcomes)
list_tried-end t all stand may = (t.went stand may, t.count ∙ all)

pub list_tried-same : {plan : Plan} {name : List ℕ} {outcomes now : List Miss} {tries : ℕ} {old new : Option (List Exchange)} → now ≡ outcomes
    → ListTried plan name outcomes tries old new → ListTried plan name now tries old new
list_tried-same e t = rw e t

-- ---- fragments

-- so many requests for a start missed
pub record PieceTried {P : Type 0} (m : Meaning P) (plan : Plan) (name : List ℕ) (w : Wanted) (begin now : Turn P) (outcomes : List Miss) (tries : ℕ) (old new : Option (List Exchange)) : Type 0 where
  pub count : length outcomes ≡ tries
  pub went : (p : Standing) → MayPiece plan p w → Went m plan name begin now (at (standing p) []) (at (standing p) outcomes) [] old new

pub piece_tried-start : {P : Type 0} (m : Meaning P) (plan : Plan) (name : List ℕ) (w : Wanted) (t : Turn P) (outcomes : List Miss) (log : Option (List Exchange)) → outcomes ≡ []
    → PieceTried m plan name w t t outcomes 0 log log
piece_tried-start m plan name w t outcomes log e =
    rw e (record { count = refl; went = λ p may. went-start m plan name t (at (standing p) []) log })

module _ {P : Type 0} {m : Meaning P} {plan : Plan} {name : List ℕ} {w : Wanted} {begin : Turn P} {who then now : P} {ps qs : List P} {outcomes : List Miss} {tries : ℕ}
    {old mid new : Option (List Exchange)} where
  tried-last : {g : Got} {level : ℕ} (kept : List P) → PieceTried m plan name w begin (fresh who ps) outcomes tries old mid → tries < plan.tries
      → (heard : PieceHeard m plan name w who then mid new g level) → IsRead g → kept ≡ ps → settle m then [] kept ≡ fresh now qs
      → (p : Standing) → MayPiece plan p w
      → Went m plan name begin (fresh now qs) (at (standing p) []) (at (standing p) outcomes) (piece heard.made.exchange g level ∷ []) old new
  tried-last kept t fits heard read same settled p may =
      went-more (t.went p may) (piece-last p outcomes ps kept may (omega (arith, t.count, fits)) heard read same settled)

  pub piece_tried-more : {miss : Miss} (kept : List P) (after : List Miss) (k : ℕ) → PieceTried m plan name w begin (fresh who ps) outcomes tries old mid → tries < plan.tries
      → PieceMissed m plan name w who then mid new miss → kept ≡ ps → settle m then [] kept ≡ fresh now qs → after ≡ outcomes ++ miss ∷ [] → k ≡ tries + 1
      → PieceTried m plan name w begin (fresh now qs) after k old new
  piece_tried-more {miss = miss} kept after k t fits f same settled is next =
      record {
        count = rw (is, length-append) (omega (arith, t.count, next));
        went = λ p may.
            let m' = piece_missed-is name (at (standing p) outcomes) f.came f.level miss f.is in
            rw is (went-took (at (standing p) (outcomes ++ miss ∷ [])) (tried-last kept t fits f.heard m'.0 same settled p may) m'.0 m'.1);
      }

  pub piece_tried-took : {raw : RawFragment} {level : ℕ} (kept : List P) → PieceTried m plan name w begin (fresh who ps) outcomes tries old mid → tries < plan.tries
      → PieceHeard m plan name w who then mid new (got.Fragment raw) level → kept ≡ ps → settle m then [] kept ≡ fresh now qs
      → (p : Standing) → MayPiece plan p w → PieceTaken m plan name p w.listing.now begin (fresh now qs) old new raw level
  piece_tried-took {raw = raw} {level = level} kept t fits heard same settled p may =
      let shown = spelled-fragment w.start heard.made.exchange.answer raw heard.made.spells in
      record {
        missed = outcomes;
        exchange = heard.made.exchange;
        went = tried-last kept t fits heard tt same settled p may;
        within = heard.made.within;
        valid = valid-named name raw shown.0;
        time = shown.1 ∙ may.expects;
      }

  pub piece_tried-stopped : {miss : Miss} (kept : List P) → PieceTried m plan name w begin (fresh who ps) outcomes tries old mid → tries < plan.tries
      → PieceMissed m plan name w who then mid new miss → kept ≡ ps → settle m then [] kept ≡ fresh now qs
      → (p : Standing) → MayPiece plan p w → PieceStopped m plan name p begin (fresh now qs) old new
  piece_tried-stopped {miss = miss} kept t fits f same settled p may =
      let m' = piece_missed-is name (at (standing p) outcomes) f.came f.level miss f.is in
      record { missed = outcomes; last = _; went = tried-last kept t fits f.heard m'.0 same settled p may }

pub piece_tried-lost : {P : Type 0} {m : Meaning P} {plan : Plan} {name : List ℕ} {w : Wanted} {begin : Turn P} {who then : P} {ps : List P} {outcomes : List Miss} {tries : ℕ}
    {old mid new : Option (List Exchange)} (kept : List P) → PieceTried m plan name w begin (fresh who ps) outcomes tries old mid → tries < plan.tries
    → PieceLost m plan name w who then mid new → kept ≡ ps
    → (p : Standing) → MayPiece plan p w → PieceStopped m plan name p begin (fresh then kept) old new
piece_tried-lost {ps = ps} {outcomes = outcomes} kept t fits f same p may =
    let l = lost-went p outcomes ps kept may (omega (arith, t.count, fits)) f (t.went p may) same in
    record { missed = outcomes; last = l.0; went = l.1 }

pub piece_tried-end : {P : Type 0} {m : Meaning P} {plan : Plan} {name : List ℕ} {w : Wanted} {begin now : Turn P} {outcomes : List Miss} {tries : ℕ} {old new : Option (List Exchange)}
    → PieceTried m plan name w begin now outcomes tries old new → tries ≡ plan.tries
    → (p : Standing) → MayPiece plan p w → Went m plan name begin now (at (standing p) []) (at (standing p) outcomes) [] old new × (length outcomes ≡ plan.tries)
piece_tried-end t all p may = (t.went p may, t.count ∙ all)

pub took-valid : {P : Type 0} {m : Meaning P} {plan : Plan} {name : List ℕ} {w : Wanted} {who now : P} {old new : Option (List Exchange)} {raw : RawFragment} {level : ℕ}
    → PieceHeard m plan name w who now old new (got.Fragment raw) level → TookValid w (pieces.Took raw level)
took-valid {w = w} {raw = raw} h = let v = spelled-fragment w.start h.made.exchange.answer raw h.made.spells in (h.made.within, v.0, v.1)
