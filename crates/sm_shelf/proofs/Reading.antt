-- What a reader keeps stays right.
use Rattle.std.proofs.Common.{◌≡◌, ◌≢◌, ◌≤◌, ◌⊎◌, inl, inr, ℕ, Bool, true, Result, IfOk, Option, Some, None, List, [], ◌∷◌, length, take, refl, sym, ap, subst, ◌∙◌, arith}
use Rattle.std.proofs.lemmas.List.{length-append, take-append-le}
use Rattle.std.proofs.Math.Seq.{take_all}
use Rattle.std.specs.List.{slice_get}
use Rattle.std.specs.Option.{ForSome, option_map}
use Rattle.std.specs.Arc.{arc_value}
use Rattle.sm_model.specs.declared.address.Address.{Address}
use Rattle.sm_model.specs.declared.fragment.Fragment.{Fragment}
use Rattle.sm_model.specs.declared.track.Track.{Track}
use Rattle.sm_model.specs.Channels.{IsChannel}
use Rattle.sm_model.specs.FragText.{frag_text}
use Rattle.sm_log.specs.Adds.{Add, id_in}
use Rattle.sm_log.specs.Digests.{Digest, Extends}
use Rattle.sm_head.specs.declared.reply.Content.TheVariants.{Mp4}
use Rattle.sm_reply.specs.declared.reply.Reply.{Reply}
use Rattle.sm_reply.specs.Replies.{ok}
use Rattle.sm_model.specs.declared.act.Act.TheVariants.{Manifest}
use Rattle.sm_shelf.specs.declared.shown.Shown.{Shown}
use Rattle.sm_shelf.specs.declared.shown.Shown.TheVariants as shown
use Rattle.sm_shelf.specs.declared.found.Held.{Held}
use Rattle.sm_shelf.specs.declared.found.Found.{Found}
use Rattle.sm_shelf.specs.declared.found.Found.TheVariants as found
use Rattle.sm_shelf.specs.declared.replies.Listed.{Listed}
use Rattle.sm_shelf.specs.Parts.{placed}
use Rattle.sm_shelf.specs.Laying.{adds_in}
use Rattle.sm_shelf.specs.Shown.{ahead_by, id_by, both, lists, IsGiven, IsSeen, IsTaken, IsFound, IsShown, IsListed, IsReader}
use Rattle.sm_shelf.proofs.Ahead.{ahead_few}
use Rattle.sm_shelf.proofs.Answered.{same_channel}

some_not_none : (o : Option (List Track)) (channel : List Track) → o ≡ Some channel → o ≢ None
some_not_none o channel is none = cc

pub seen_later : (d older : Digest) (channel : List Track) → Extends d older → IsSeen older channel → IsSeen d channel
seen_later d older channel on seen = record {
  channel_is = same_channel d older on (some_not_none older.channel channel seen.channel_is) ∙ seen.channel_is;
  valid = seen.valid;
}

pub listed_later : (d older : Digest) (count : ℕ) (text : List ℕ) → Extends d older → IsListed older count text → IsListed d count text
listed_later d older count text on l =
    let same = same_channel d older on l.declared in
    let long = ap length on.adds.1 ∙ length-append older.adds on.adds.0 in
    let within = l.within in
    let front : take count d.adds ≡ take count older.adds = ap (take count) on.adds.1 ∙ take-append-le count older.adds on.adds.0 within in
    record {
      declared = λ none. l.declared (sym same ∙ none);
      within = omega (arith, long, within);
      text_is = l.text_is ∙ ap (λ (o : Option (List Track)). (lists o (placed 1 (take count older.adds))).bytes) (sym same)
          ∙ ap (λ (xs : List (Address × ℕ)). (lists d.channel (placed 1 xs)).bytes) (sym front);
    }

channel_later : (o : Option (List Track)) (d older : Digest) → Extends d older → ForSome o (IsSeen older) → ForSome o (IsSeen d)
channel_later o d older on seen = λ c is. seen_later d older c on (seen c is)

kept_later : (o : Option Listed) (d older : Digest) → Extends d older → ForSome o (λ l. IsListed older l.count l.text) → ForSome o (λ l. IsListed d l.count l.text)
kept_later o d older on kept = λ l is. listed_later d older l.count l.text on (kept l is)

pub reader_later : (c : Option (List Track)) (l : Option Listed) (d older : Digest) → Extends d older → IsReader c l older → IsReader c l d
reader_later c l d older on r = record { channel = channel_later c d older on r.channel; listed = kept_later l d older on r.listed }

-- ---- manifests

-- as much was added, so the text is still the one
pub listed_same : (d : Digest) (count : ℕ) (text : List ℕ) → IsListed d count text → count ≡ length d.adds → text ≡ (lists d.channel (adds_in d)).bytes
listed_same d count text l is =
    l.text_is ∙ ap (λ (xs : List (Address × ℕ)). (lists d.channel (placed 1 xs)).bytes) (take_all count d.adds (omega (arith, is)))

pub listed_new : (d : Digest) (count : ℕ) (text : List ℕ) → d.channel ≢ None → count ≡ length d.adds → text ≡ (lists d.channel (adds_in d)).bytes → IsListed d count text
listed_new d count text declared is text_is = record {
  declared = declared;
  within = omega (arith, is);
  text_is = text_is ∙ ap (λ (xs : List (Address × ℕ)). (lists d.channel (placed 1 xs)).bytes) (sym (take_all count d.adds (omega (arith, is))));
}

-- ---- fragments

few_ahead : (o : Option (List Track)) (adds : List Add) (a : Address) → length (ahead_by o adds a) ≤ 2
few_ahead None adds a = omega arith
few_ahead (Some channel) adds a = ahead_few channel adds a.stream a.time

pub both_are : (xs : List (ℕ × ℕ)) (x y : Option (ℕ × ℕ)) → x ≡ slice_get xs 0 → y ≡ slice_get xs 1 → length xs ≤ 2 → both x y ≡ xs
both_are [] x y one two few = ap (λ (o : Option (ℕ × ℕ)). both o y) one
both_are (a ∷ []) x y one two few = ap (λ (o : Option (ℕ × ℕ)). both o y) one ∙ ap (both (Some a)) two
both_are (a ∷ b ∷ []) x y one two few = ap (λ (o : Option (ℕ × ℕ)). both o y) one ∙ ap (both (Some a)) two
both_are (a ∷ b ∷ c ∷ xs) x y one two few = absurd (omega (arith, few))

pub taken_given : (d : Digest) (a : Address) (knows : Bool) (h : Held) (channel : List Track) (text : List ℕ) → IsTaken d a knows h → d.channel ≡ Some channel
    → text ≡ (ok Mp4 (frag_text h.place (id_in channel a) (arc_value h.fragment) (both h.first h.second))).bytes → IsGiven d a text
taken_given d a knows h channel text taken some is =
    let f = arc_value h.fragment in
    let ahead_is = both_are (ahead_by d.channel (adds_in d) a) h.first h.second taken.first taken.second (few_ahead d.channel (adds_in d) a) in
    record {
      place = h.place;
      fragment = f;
      held = taken.held;
      text_is = is ∙ ap (λ (l : List (ℕ × ℕ)). (ok Mp4 (frag_text h.place (id_in channel a) f l)).bytes) ahead_is
          ∙ ap (λ (o : Option (List Track)). (ok Mp4 (frag_text h.place (id_by o a) f (ahead_by d.channel (adds_in d) a))).bytes) (sym some);
    }

-- ---- the channel

pub seen_of : (o : Option (List Track)) (channel : List Track) (d : Digest) → ForSome o (λ c. (c ≡ channel) × IsChannel c) → d.channel ≡ Some channel → ForSome o (IsSeen d)
seen_of o channel d given is = λ c at. record { channel_is = is ∙ ap (λ (t : List Track). Some t) (sym (given c at).0); valid = (given c at).1 }

-- ---- what is told

pub given_as : {E : Type 0} (r : Result Reply E) (place id : ℕ) (f g : Fragment) (l m : List (ℕ × ℕ)) → g ≡ f → l ≡ m → IfOk r (λ reply. reply ≡ ok Mp4 (frag_text place id g l))
    → IfOk r (λ reply. reply ≡ ok Mp4 (frag_text place id f m))
given_as r place id f g l m same is given =
    subst (λ (xs : List (ℕ × ℕ)). IfOk r (λ reply. reply ≡ ok Mp4 (frag_text place id f xs))) is
    (subst (λ (h : Fragment). IfOk r (λ reply. reply ≡ ok Mp4 (frag_text place id h l))) same given)

pub again_shown : (d : Digest) (kept : Option Listed) (s : Shown) → option_map (λ (l : Listed). l.count) kept ≡ Some (length d.adds) → ForSome kept (λ l. IsListed d l.count l.text)
    → (s ≡ shown.NoMemory) ⊎ ForSome kept (λ l. s ≡ shown.Reply l.text) → IsShown d Manifest s
again_shown d None s same listed (inl none) = absurd cc
again_shown d None s same listed (inr given) = absurd cc
again_shown d (Some l) s same listed (inl none) = subst (IsShown d Manifest) (sym none) tt
again_shown d (Some l) s same listed (inr given) =
    let as_many : l.count ≡ length d.adds = cc in
    subst (IsShown d Manifest) (sym (given l refl)) (listed_same d l.count l.text (listed l refl) as_many)

-- what was found, of which the channel was taken
pub taken_bare : (d : Digest) (a : Address) (knows : Bool) (h : Held) (o : Option (List Track)) → o ≡ None → IsTaken d a knows h
    → IsTaken d a true (record { place = h.place; first = h.first; second = h.second; fragment = h.fragment; channel = o })
taken_bare d a knows h o none taken = record {
  held = taken.held;
  first = taken.first;
  second = taken.second;
  valid = taken.valid;
  small = taken.small;
  channel = λ c at. absurd cc;
  asked = λ no. absurd cc;
}

pub held_is : (d : Digest) (a : Address) (knows : Bool) (f : Found) (h : Held) → f ≡ found.Held h → IsFound d a knows f → IsTaken d a knows h
held_is d a knows f h is got = subst (IsFound d a knows) is got

pub handed : (d : Digest) (a : Address) (knows : Bool) (h : Held) (o : Option (List Track)) → o ≡ h.channel → IsTaken d a knows h → ForSome o (IsSeen d)
handed d a knows h o is taken = λ c at. taken.channel c (sym is ∙ at)
