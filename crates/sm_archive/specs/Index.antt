-- What calls of an index do.
use Rattle.std.specs.Prelude.{◌≡◌, ℕ, ◌+◌, ◌≤◌, List, [], ◌∷◌, ◌++◌}
use Rattle.std.specs.Vec.{vec_len, vec_capacity}
use Rattle.sm_model.specs.declared.address.Address.{Address}
use Rattle.sm_record.specs.declared.meta.Meta.{Meta}
use Rattle.sm_catalog.specs.Content.{spare_of}
use Rattle.sm_archive.specs.declared.index.Index.{Index}

-- so many entries of this stream can be added without memory
pub record HasSpace (i : Index) (n : ℕ) (stream : List ℕ) : Type 0 where
  pub times : n ≤ spare_of stream i.catalog.spares
  pub metas : vec_len i.metas + n ≤ vec_capacity i.metas

-- the same, perhaps with more space
pub record Reserved (i j : Index) : Type 0 where
  pub channel : j.catalog.channel ≡ i.catalog.channel
  pub adds : j.catalog.adds ≡ i.catalog.adds
  pub metas : j.metas.items ≡ i.metas.items
  pub more : (n : ℕ) (stream : List ℕ) → HasSpace i n stream → HasSpace j n stream

-- one fragment more
pub record Added (i j : Index) (a : Address) (m : Meta) (place : ℕ) : Type 0 where
  pub channel : j.catalog.channel ≡ i.catalog.channel
  pub adds : j.catalog.adds ≡ i.catalog.adds ++ (record { address = a; duration = m.duration; place = place }) ∷ []
  pub metas : j.metas.items ≡ i.metas.items ++ m ∷ []
  pub less : (n : ℕ) (stream : List ℕ) → HasSpace i (n + 1) stream → HasSpace j n stream
