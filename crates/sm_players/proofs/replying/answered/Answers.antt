use Rattle.sm_players.proofs.Replies.{get_answer}
use Rattle.sm_players.proofs.replying.answered.Goals as goal

pub returns-in-Ok : goal.returns-in-Ok
returns-in-Ok g c =
    let t = c.in-Ok.ensures in
    record {
      asked = t.asked;
      asks = t.asks;
      means = get_answer c.args.reader.now.seen c.args.target.now c.args.close c.reply_to.new.reader.seen t.asked c.in-Ok.reply t.means;
      later = t.later;
    }

pub returns-in-Err : goal.returns-in-Err
returns-in-Err g c =
    let t = c.in-Err.ensures in
    record { asked = t.asked; asks = t.asks; means = t.means c.args.close; later = t.later }
