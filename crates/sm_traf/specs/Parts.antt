-- What stands in a traf, without where it lies in memory.
use Rattle.std.specs.Prelude.{◌≡◌, true, List, ◌∷◌, []}
use Rattle.sm_model.specs.declared.cause.Cause.TheVariants.{NoSamples, TooManySamples, BadRun}
use Rattle.sm_model.specs.Fields.{tfhd_fits, tfxd_fits, tfrf_fits, trun_fits}
use Rattle.sm_model.specs.Frag.{Traf, Line, lacks_trun, counts_none, counts_too_many, has_bad_trun}
use Rattle.sm_box.specs.Seen.{seen}
use Rattle.sm_traf.specs.declared.parts.Parts.{Parts}

abbrev pub seen_parts : Parts → Traf
seen_parts p = record {
  head = seen p.head;
  run = seen p.run;
  time = seen p.time;
  ahead = seen p.ahead;
  senc = seen p.senc;
  sealed = seen p.sealed;
}

-- the bodies in which a later test looks for fields have their lengths
pub record IsReadable (t : Traf) : Type 0 where
  pub head : tfhd_fits t.head.first ≡ true
  pub time : t.time.some ≡ true → tfxd_fits t.time.first ≡ true
  pub ahead : t.ahead.some ≡ true → tfrf_fits t.ahead.first ≡ true

-- every body that a run is made of has its length
pub record Passes (t : Traf) : Type 0 where
  pub head : tfhd_fits t.head.first ≡ true
  pub time : tfxd_fits t.time.first ≡ true
  pub ahead : t.ahead.some ≡ true → tfrf_fits t.ahead.first ≡ true
  pub run : trun_fits t.run.first ≡ true

-- the last lines of the list: what the trun shows
abbrev pub run_lines : Traf → List Line
run_lines t =
    (lacks_trun t, NoSamples)
    ∷ (counts_none t, NoSamples)
    ∷ (counts_too_many t, TooManySamples)
    ∷ (has_bad_trun t, BadRun)
    ∷ []
