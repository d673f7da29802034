-- The callers come back to their places at the same desk.
use Rattle.examples.proofs.TwoCallers.{whole_after}
use Rattle.examples.proofs.threads.run_beside.Goals as goal

pub end-requires : goal.end-requires
end-requires g c =
    let first = c.join-session.ensures.first in
    let second = c.join-session.ensures.second in
    let came = c.join-session.result in
    whole_after c.args.session.driver.desk came.0.driver.desk c.args.crew.callers.0 c.args.crew.callers.1 came.1.0.0 came.1.0.1 c.requires
    (search (first)) (search (second)) (search (second))
