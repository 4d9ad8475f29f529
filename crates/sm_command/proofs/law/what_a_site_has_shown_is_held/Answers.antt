use Rattle.sm_command.proofs.law.what_a_site_has_shown_is_held.Goals as goal

pub returns : goal.returns
returns g c first begin faults items steps point run o site stands some t claim shown =
    c.what_was_shown_is_held.ensures first begin faults items steps point run t claim shown (c.logs_of_runs_are_real.ensures first begin faults items steps point run o site stands some t)
