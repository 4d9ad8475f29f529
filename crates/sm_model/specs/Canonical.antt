-- Canonical texts of fragments one after another, without a header and without pairs ahead.
use Rattle.std.specs.Prelude.{◌≡◌, ◌<◌, ◌^◌, ℕ, List, [], decimal}
use Rattle.std.specs.List.{flat_map, All, AllByRecursion}
use Rattle.sm_model.specs.declared.fragment.Fragment.{Fragment}
use Rattle.sm_model.specs.Fragments.{IsValid, IsNarrow}
use Rattle.sm_model.specs.FragText.{frag_text}

-- what one text says
pub record Canonical : Type 0 where
  pub seq : ℕ
  pub id : ℕ
  pub fragment : Fragment

-- a valid fragment of a track that no header names: the stream's name is the track_ID in decimal, and so is the bitrate
pub record IsCanonical (c : Canonical) : Type 0 where
  pub seq_fits : c.seq < 2 ^ 32
  pub id_fits : c.id < 2 ^ 32
  pub stream : c.fragment.stream ≡ decimal c.id
  pub bitrate : c.fragment.bitrate ≡ c.id
  pub valid : IsValid c.fragment
  pub samples : All IsNarrow c.fragment.samples

abbrev pub text_of : Canonical → List ℕ
text_of c = frag_text c.seq c.id c.fragment []

-- these texts one after another and nothing else
pub record IsJoin (b : List ℕ) (cs : List Canonical) : Type 0 where
  pub canonical : AllByRecursion IsCanonical cs
  pub text : b ≡ flat_map text_of cs
