use Rattle.modem_show.proofs.Silence.{silent_fit}
use Rattle.modem_show.proofs.talks.Talks.new.Goals as goal

pub returns-clause-past : goal.returns-clause-past
returns-clause-past c = silent_fit c.args.dialect c.args.data_channels.items c.in_ok-talks.talks.items c.in_ok-talks.ensures
