use Rattle.sm_model.proofs.SoundLemmas.{run_is_sound, finish_is_sound, fragment_is_sound}
use Rattle.sm_model.proofs.law.read_is_sound.Goals as goal

pub returns : goal.returns
returns c = record {
  run = run_is_sound;
  finish = finish_is_sound;
  fragment = λ d m md raw e. (fragment_is_sound d m md raw e).0;
  in_order = λ d m md raw e. (fragment_is_sound d m md raw e).1;
}
