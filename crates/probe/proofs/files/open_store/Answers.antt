use Rattle.probe.proofs.files.open_store.Goals as goal

pub returns-in-Ok-clause-found : goal.returns-in-Ok-clause-found
returns-in-Ok-clause-found g c clean =
    let opened = c.in-Ok.ensures.opened clean in
    record { conn = c.in_ok-conn.conn; found = c.in_ok-conn.ensures.found; contest = opened.contest; spelled = opened.found; shows = opened.shows }
