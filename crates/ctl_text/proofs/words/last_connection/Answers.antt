use Rattle.ctl_text.proofs.CommandWords.{last_number}
use Rattle.ctl_text.proofs.words.last_connection.Goals as goal

pub returns-clause-says : goal.returns-clause-says
returns-clause-says c =
    last_number c.args.words.now c.first_word.result.0.now c.in_ok-dlci.dlci.number c.first_word.ensures.word c.in_ok-dlci.ensures c.if-word-words.false
