use Rattle.std.proofs.Common.{◌≡◌, ◌<◌, ◌^◌, ◌∙◌, ℕ, List, length, take, sym, ap, subst}
use Rattle.sm_log.specs.Adds.{times_of}
use Rattle.sm_log.specs.Logs.{times_in}
use Rattle.sm_export.specs.Qualities.{kept_among}
use Rattle.sm_export.specs.declared.gathering.Broken.TheVariants as broken
use Rattle.sm_export.proofs.Texts.{err_of, times_few}
use Rattle.sm_export.proofs.Answering.{begun, fit, stopped, text_is}
use Rattle.sm_export.proofs.call.export.Goals as goal

pub write_file-requires-clause-few : goal.write_file-requires-clause-few
write_file-requires-clause-few g c =
    let log = c.requires.stands.0 in
    let s = c.requires.stands.2 in
    let shows = c.in-Some.ensures s.bodies s.body log c.requires.stands.1 s.keeps in
    let times : c.times-times.result.now ≡ times_in log c.args.name.now = c.times-times.ensures ∙ ap (times_of c.args.name.now) shows.1 in
    subst (λ (ts : List (ℕ × ℕ)). length ts < 2 ^ 32) (sym times) (times_few log c.args.name.now s.keeps.sound)

pub returns-in-Ok-write_file-clause-exported : goal.returns-in-Ok-write_file-clause-exported
returns-in-Ok-write_file-clause-exported g c = λ log doubt s.
    let shows = c.in-Some.ensures s.bodies s.body log doubt s.keeps in
    let head = c.in-Ok.ensures.head.1 in
    let found = c.in-Ok-id_in.ensures.ok in
    let input = c.args.input.now in
    let name = c.args.name.now in
    let times = c.times-times.ensures ∙ ap (times_of name) shows.1 in
    let text = text_is input name c.args.bitrate log (take c.in-Ok.head.len input) c.split_at.result.0.now c.in-Ok.head.channel c.in-Ok.head.id c.in-Ok-id_in.id c.times-times.result.now head found.0
    c.in-Ok-write_file.ensures.narrow c.split_at.ensures.front times in
    record {
      clear = c.in-Ok.ensures.clear;
      fits = fit input name c.args.bitrate log (take c.in-Ok.head.len input) c.in-Ok.head.channel c.in-Some.catalog.now.channel c.in-Ok.head.id c.in-Ok-id_in.id head found.0 found.1 shows.0;
      whole = λ told.
          let w = c.in-Ok-write_file.ensures.ok log doubt s told in
          (_, text, w.0, w.1 ∙ ap (λ (ts : List (ℕ × ℕ)). length (kept_among log name c.args.bitrate ts)) times);
    }

pub returns-in-Err-DiskFault-clause-exported : goal.returns-in-Err-DiskFault-clause-exported
returns-in-Err-DiskFault-clause-exported g c = λ log doubt s.
    let shows = c.in-Some.ensures s.bodies s.body log doubt s.keeps in
    let found = c.in-Ok-id_in.ensures.ok in
    let name = c.args.name.now in
    begun _ c.args.input.now name c.args.bitrate log (take c.in-Ok.head.len c.args.input.now) c.split_at.result.0.now c.in-Ok.head.channel c.in-Some.catalog.now.channel c.in-Ok.head.id c.in-Ok-id_in.id
    c.times-times.result.now (g.O.Sink.held c.args.out.now) (g.O.Sink.held c.write_file.new.out) c.in-Ok.ensures.clear c.in-Ok.ensures.head.1 found.0 found.1 shows.0 c.in-Err-DiskFault.ensures.narrow
    c.split_at.ensures.front (c.times-times.ensures ∙ ap (times_of name) shows.1) (λ told. err_of c.write_file.result broken.DiskFault _ (cc) c.write_file.ensures.err log doubt s told)

pub returns-in-Err-WriteFault-clause-exported : goal.returns-in-Err-WriteFault-clause-exported
returns-in-Err-WriteFault-clause-exported g c = λ log doubt s.
    let shows = c.in-Some.ensures s.bodies s.body log doubt s.keeps in
    let found = c.in-Ok-id_in.ensures.ok in
    let name = c.args.name.now in
    stopped _ c.args.input.now name c.args.bitrate log (take c.in-Ok.head.len c.args.input.now) c.split_at.result.0.now c.in-Ok.head.channel c.in-Some.catalog.now.channel c.in-Ok.head.id c.in-Ok-id_in.id
    c.times-times.result.now (g.O.Sink.held c.args.out.now) (g.O.Sink.held c.write_file.new.out) c.in-Ok.ensures.clear c.in-Ok.ensures.head.1 found.0 found.1 shows.0 c.in-Err-WriteFault.ensures.narrow
    c.split_at.ensures.front (c.times-times.ensures ∙ ap (times_of name) shows.1) (λ told. err_of c.write_file.result broken.WriteFault _ (cc) c.write_file.ensures.err log doubt s told)

pub returns-in-Err-NoMemory-write_file-clause-exported : goal.returns-in-Err-NoMemory-write_file-clause-exported
returns-in-Err-NoMemory-write_file-clause-exported g c = λ log doubt s.
    let shows = c.in-Some.ensures s.bodies s.body log doubt s.keeps in
    let found = c.in-Ok-id_in.ensures.ok in
    let name = c.args.name.now in
    begun _ c.args.input.now name c.args.bitrate log (take c.in-Ok.head.len c.args.input.now) c.split_at.result.0.now c.in-Ok.head.channel c.in-Some.catalog.now.channel c.in-Ok.head.id c.in-Ok-id_in.id
    c.times-times.result.now (g.O.Sink.held c.args.out.now) (g.O.Sink.held c.write_file.new.out) c.in-Ok.ensures.clear c.in-Ok.ensures.head.1 found.0 found.1 shows.0 c.in-Err-NoMemory-write_file.ensures.narrow
    c.split_at.ensures.front (c.times-times.ensures ∙ ap (times_of name) shows.1) (λ told. err_of c.write_file.result broken.NoMemory _ (cc) c.write_file.ensures.err log doubt s told)
