use Rattle.std.proofs.Common.{◌+◌}
use Rattle.sm_model.specs.FragText.{moof, mdat, moof_len}
use Rattle.sm_model.specs.Written.{run_again, raw_again}
use Rattle.sm_moof.specs.Shown.{no_defaults}
use Rattle.sm_moof.proofs.ShownLemmas.{named, served}
use Rattle.sm_moof.proofs.law.fragments_show_themselves.Goals as goal

pub returns : goal.returns
returns c =
    let law = c.written_fragment_is_read.ensures in
    record {
      serves = λ seq id f ahead part more samples duration w text shown.
          served (moof seq id f ahead) (mdat f.samples) part more samples duration (raw_again id f ahead) (law.moof_whole seq id f ahead w) (law.mdat_whole id f ahead w) (law.fragment no_defaults seq id f ahead w) text shown;
      names = λ seq id f ahead part more time w text shown.
          named (moof seq id f ahead) (mdat f.samples) part more time (run_again id (moof_len f.samples ahead + 8) f ahead) (law.moof_whole seq id f ahead w) (law.moof no_defaults seq id f ahead w) text shown;
    }
