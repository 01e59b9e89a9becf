-- The generation's bytes are those of one moment.
use Rattle.std.proofs.Common.{sym}
use Rattle.pk_snapshot.proofs.SeenLemmas.{stamp_seen}
use Rattle.pk_snapshot.proofs.reading.stamp_of.Goals as goal

pub returns-clause-given : goal.returns-clause-given
returns-clause-given g c = λ h.
    let seen = c.in_ok-read_once.ensures.given h in
    record {
      moment = seen.moment;
      since = seen.since;
      until = seen.until;
      stamp_is = sym (stamp_seen seen.moment c.read_once.new.out c.args.half c.body.result c.u64_at.result c.body.ensures c.read_once.auto.out seen.are c.u64_at.ensures);
    }
