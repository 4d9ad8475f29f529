-- A field that is read is the field that was written, and what was written is read again.
use Rattle.std.proofs.Common.{◌≡◌, ℕ, zero, suc, ◌^◌, ◌<◌, Bool, true, false, List, [], ◌∷◌, ◌++◌, length, Option, Some, None, refl, sym, ap, subst, ◌∙◌, append_assoc, arith}
use Rattle.std.specs.Int.{w32}
use Rattle.sm_model.specs.declared.track.Kind.{Kind}
use Rattle.sm_model.specs.declared.track.Kind.TheVariants.{Video, Audio, Text}
use Rattle.sm_model.specs.declared.track.Params.{Params}
use Rattle.sm_model.specs.Names.{is_name}
use Rattle.sm_model.specs.Numbers.{number32}
use Rattle.sm_model.specs.Channels.{AreNarrow, IsNarrowOption}
use Rattle.sm_record.specs.Texts.{kind_byte, short_text, long_text, option_text, flag_text, params_text}
use Rattle.sm_record.specs.Reading.{◌>>=◌, number_at, taken, byte_at, short_at, long_at, option_at, flag_at, kind_at, name_of, name_at, params_at}
use Rattle.sm_record.proofs.Steps.{IsBytes, IsBytes-rest, bind_some, guard_held, some_is, Takes, Takes-then, takes32, again32, taken_takes, taken_again, byte_takes}

pub short_takes : (bytes own rest : List ℕ) → IsBytes bytes → short_at bytes ≡ Some (own, rest) → Takes bytes (short_text own) rest × (length own < 2 ^ 8)
unfolding short_at
short_takes bytes own rest fits e =
    let b = bind_some (byte_at bytes) (λ n. taken n.0 n.1) (own, rest) e in
    let t = byte_takes bytes b.0.0 b.0.1 fits b.1 in
    let u = taken_takes b.0.0 b.0.1 own rest t.0.rest_fits b.2 in
    let both = Takes-then bytes (b.0.0 ∷ []) b.0.1 own rest t.0 u.takes in
    (subst (λ (k : ℕ). Takes bytes (k ∷ own) rest) (sym u.len) both, omega (arith, t.1, u.len))

pub short_again : (own rest : List ℕ) → short_at (short_text own ++ rest) ≡ Some (own, rest)
unfolding short_at
short_again own rest = taken_again (length own) own rest refl

pub long_takes : (bytes own rest : List ℕ) → IsBytes bytes → long_at bytes ≡ Some (own, rest) → Takes bytes (long_text own) rest × (length own < 2 ^ 32)
unfolding long_at
long_takes bytes own rest fits e =
    let b = bind_some (number_at w32 bytes) (λ n. taken n.0 n.1) (own, rest) e in
    let t = takes32 bytes b.0.0 b.0.1 fits b.1 in
    let u = taken_takes b.0.0 b.0.1 own rest t.0.rest_fits b.2 in
    let both = Takes-then bytes (number32 b.0.0) b.0.1 own rest t.0 u.takes in
    (subst (λ (k : ℕ). Takes bytes (number32 k ++ own) rest) (sym u.len) both, omega (arith, t.1, u.len))

pub long_again : (own rest : List ℕ) → length own < 2 ^ 32 → long_at (long_text own ++ rest) ≡ Some (own, rest)
unfolding long_at
long_again own rest lt =
    let regrouped : long_text own ++ rest ≡ number32 (length own) ++ (own ++ rest) = append_assoc (number32 (length own)) own rest in
    ap long_at regrouped ∙ rw (again32 (length own) (own ++ rest) lt) (taken_again (length own) own rest refl)

narrow_some : (n : ℕ) → n < 2 ^ 32 → IsNarrowOption (Some n)
narrow_some n lt = λ x e. subst (λ (y : ℕ). y < 2 ^ 32) (some_is n x e) lt

narrow_none : IsNarrowOption None
narrow_none = λ x e. absurd cc

pub option_takes : (bytes : List ℕ) (o : Option ℕ) (rest : List ℕ) → IsBytes bytes → option_at bytes ≡ Some (o, rest) → Takes bytes (option_text o) rest × IsNarrowOption o
unfolding option_at
option_takes [] o rest fits e = absurd cc
option_takes (zero ∷ bytes) o rest fits e =
    subst (λ (x : Option ℕ × List ℕ). Takes (0 ∷ bytes) (option_text x.0) x.1 × IsNarrowOption x.0) (some_is (None, bytes) (o, rest) e)
    (record { parts = refl; rest_fits = IsBytes-rest 0 bytes fits }, narrow_none)
option_takes (suc zero ∷ bytes) o rest fits e =
    let b = bind_some (number_at w32 bytes) (λ n. Some (Some n.0, n.1)) (o, rest) e in
    let t = takes32 bytes b.0.0 b.0.1 (IsBytes-rest 1 bytes fits) b.1 in
    subst (λ (x : Option ℕ × List ℕ). Takes (1 ∷ bytes) (option_text x.0) x.1 × IsNarrowOption x.0) (some_is (Some b.0.0, b.0.1) (o, rest) b.2)
    (record { parts = ap (λ (w : List ℕ). 1 ∷ w) t.0.parts; rest_fits = t.0.rest_fits }, narrow_some b.0.0 t.1)
option_takes (suc (suc b) ∷ bytes) o rest fits e = absurd cc

pub option_again : (o : Option ℕ) (rest : List ℕ) → IsNarrowOption o → option_at (option_text o ++ rest) ≡ Some (o, rest)
unfolding option_at
option_again None rest h = refl
option_again (Some n) rest h = rw (again32 n rest (h n refl)) refl

pub flag_takes : (bytes : List ℕ) (f : Bool) (rest : List ℕ) → IsBytes bytes → flag_at bytes ≡ Some (f, rest) → Takes bytes (flag_text f) rest
unfolding flag_at
flag_takes [] f rest fits e = absurd cc
flag_takes (zero ∷ bytes) f rest fits e = subst (λ (x : Bool × List ℕ). Takes (0 ∷ bytes) (flag_text x.0) x.1) (some_is (false, bytes) (f, rest) e)
    (record { parts = refl; rest_fits = IsBytes-rest 0 bytes fits })
flag_takes (suc zero ∷ bytes) f rest fits e = subst (λ (x : Bool × List ℕ). Takes (1 ∷ bytes) (flag_text x.0) x.1) (some_is (true, bytes) (f, rest) e)
    (record { parts = refl; rest_fits = IsBytes-rest 1 bytes fits })
flag_takes (suc (suc b) ∷ bytes) f rest fits e = absurd cc

pub flag_again : (f : Bool) (rest : List ℕ) → flag_at (flag_text f ++ rest) ≡ Some (f, rest)
unfolding flag_at
flag_again true rest = refl
flag_again false rest = refl

pub kind_takes : (bytes : List ℕ) (k : Kind) (rest : List ℕ) → IsBytes bytes → kind_at bytes ≡ Some (k, rest) → Takes bytes (kind_byte k ∷ []) rest
unfolding kind_at
kind_takes [] k rest fits e = absurd cc
kind_takes (zero ∷ bytes) k rest fits e = absurd cc
kind_takes (suc zero ∷ bytes) k rest fits e = subst (λ (x : Kind × List ℕ). Takes (1 ∷ bytes) (kind_byte x.0 ∷ []) x.1) (some_is (Video, bytes) (k, rest) e)
    (record { parts = refl; rest_fits = IsBytes-rest 1 bytes fits })
kind_takes (suc (suc zero) ∷ bytes) k rest fits e = subst (λ (x : Kind × List ℕ). Takes (2 ∷ bytes) (kind_byte x.0 ∷ []) x.1) (some_is (Audio, bytes) (k, rest) e)
    (record { parts = refl; rest_fits = IsBytes-rest 2 bytes fits })
kind_takes (suc (suc (suc zero)) ∷ bytes) k rest fits e = subst (λ (x : Kind × List ℕ). Takes (3 ∷ bytes) (kind_byte x.0 ∷ []) x.1) (some_is (Text, bytes) (k, rest) e)
    (record { parts = refl; rest_fits = IsBytes-rest 3 bytes fits })
kind_takes (suc (suc (suc (suc b))) ∷ bytes) k rest fits e = absurd cc

pub kind_again : (k : Kind) (rest : List ℕ) → kind_at (kind_byte k ∷ rest) ≡ Some (k, rest)
unfolding kind_at
kind_again Video rest = refl
kind_again Audio rest = refl
kind_again Text rest = refl

pub name_takes : (bytes name rest : List ℕ) → IsBytes bytes → name_at bytes ≡ Some (name, rest) → Takes bytes (short_text name) rest × (is_name name ≡ true)
unfolding name_at
name_takes bytes name rest fits e =
    let a = bind_some (short_at bytes) (λ text. name_of text.0 >>= λ name. Some (name, text.1)) (name, rest) e in
    let b = bind_some (name_of a.0.0) (λ name. Some (name, a.0.1)) (name, rest) a.2 in
    let g = guard_held (is_name a.0.0) a.0.0 b.0 b.1 in
    let t = short_takes bytes a.0.0 a.0.1 fits a.1 in
    let made : Takes bytes (short_text b.0) a.0.1 × (is_name b.0 ≡ true) = subst (λ (n : List ℕ). Takes bytes (short_text n) a.0.1 × (is_name n ≡ true)) g.1 (t.0, g.0) in
    subst (λ (x : List ℕ × List ℕ). Takes bytes (short_text x.0) x.1 × (is_name x.0 ≡ true)) (some_is (b.0, a.0.1) (name, rest) b.2) made

pub name_again : (name rest : List ℕ) → is_name name ≡ true → name_at (short_text name ++ rest) ≡ Some (name, rest)
unfolding name_at
name_again name rest h = rw (short_again name rest, h) refl

pub params_takes : (bytes : List ℕ) (p : Params) (rest : List ℕ) → IsBytes bytes → params_at bytes ≡ Some (p, rest) → Takes bytes (params_text p) rest × AreNarrow p
unfolding params_at params_text
params_takes bytes p rest fits e =
    let b1 = bind_some (option_at bytes) _ (p, rest) e in
    let t1 = option_takes bytes b1.0.0 b1.0.1 fits b1.1 in
    let b2 = bind_some (option_at b1.0.1) _ (p, rest) b1.2 in
    let t2 = option_takes b1.0.1 b2.0.0 b2.0.1 t1.0.rest_fits b2.1 in
    let b3 = bind_some (option_at b2.0.1) _ (p, rest) b2.2 in
    let t3 = option_takes b2.0.1 b3.0.0 b3.0.1 t2.0.rest_fits b3.1 in
    let b4 = bind_some (option_at b3.0.1) _ (p, rest) b3.2 in
    let t4 = option_takes b3.0.1 b4.0.0 b4.0.1 t3.0.rest_fits b4.1 in
    let b5 = bind_some (option_at b4.0.1) _ (p, rest) b4.2 in
    let t5 = option_takes b4.0.1 b5.0.0 b5.0.1 t4.0.rest_fits b5.1 in
    let b6 = bind_some (option_at b5.0.1) _ (p, rest) b5.2 in
    let t6 = option_takes b5.0.1 b6.0.0 b6.0.1 t5.0.rest_fits b6.1 in
    let b7 = bind_some (option_at b6.0.1) _ (p, rest) b6.2 in
    let t7 = option_takes b6.0.1 b7.0.0 b7.0.1 t6.0.rest_fits b7.1 in
    let u6 = Takes-then _ _ _ _ _ t6.0 t7.0 in
    let u5 = Takes-then _ _ _ _ _ t5.0 u6 in
    let u4 = Takes-then _ _ _ _ _ t4.0 u5 in
    let u3 = Takes-then _ _ _ _ _ t3.0 u4 in
    let u2 = Takes-then _ _ _ _ _ t2.0 u3 in
    let u1 = Takes-then _ _ _ _ _ t1.0 u2 in
    let made : Params × List ℕ = (record { width = b1.0.0; height = b2.0.0; tag = b3.0.0; channels = b4.0.0; rate = b5.0.0; bits = b6.0.0; packet = b7.0.0 }, b7.0.1) in
    subst (λ (x : Params × List ℕ). Takes bytes (params_text x.0) x.1 × AreNarrow x.0) (some_is made (p, rest) b7.2)
    (u1, record { width = t1.1; height = t2.1; tag = t3.1; channels = t4.1; rate = t5.1; bits = t6.1; packet = t7.1 })

pub params_again : (p : Params) (rest : List ℕ) → AreNarrow p → params_at (params_text p ++ rest) ≡ Some (p, rest)
unfolding params_at params_text
params_again p rest h =
    simp append_assoc
    (rw (
      option_again p.width _ h.width,
      option_again p.height _ h.height,
      option_again p.tag _ h.tag,
      option_again p.channels _ h.channels,
      option_again p.rate _ h.rate,
      option_again p.bits _ h.bits,
      option_again p.packet rest h.packet,
    ) refl)
