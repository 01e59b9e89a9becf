-- The gate's byte is that of one moment, and the generation's bytes are those of a later one.
use Rattle.pk_manifest.proofs.Evolving.{evolves_then}
use Rattle.pk_snapshot.proofs.SeenLemmas.{gate_seen, shut_seen}
use Rattle.pk_snapshot.proofs.reading.stamp_behind.Goals as goal

pub returns-in_err-stamp-clause-evolves : goal.returns-in_err-stamp-clause-evolves
returns-in_err-stamp-clause-evolves g c = λ h.
    let f = g.F.SharedFile in
    evolves_then (f.content c.args.file.now) (f.content c.read_once.new.file) (f.content c.stamp_of.new.file) (c.read_once.ensures.evolves h) (c.stamp_of.ensures.evolves h)

pub returns-clause-evolves : goal.returns-clause-evolves
returns-clause-evolves g c = λ h.
    let f = g.F.SharedFile in
    evolves_then (f.content c.args.file.now) (f.content c.read_once.new.file) (f.content c.stamp_of.new.file) (c.read_once.ensures.evolves h) (c.stamp_of.ensures.evolves h)

pub returns-clause-given : goal.returns-clause-given
returns-clause-given g c = λ h.
    let f = g.F.SharedFile in
    let first = c.in_ok-read_once.ensures.given h in
    let second = c.in_ok-stamp.ensures.given h in
    record {
      gate_at = first.moment;
      stamp_at = second.moment;
      since = first.since;
      between = evolves_then first.moment (f.content c.read_once.new.file) second.moment first.until second.since;
      until = second.until;
      gate = gate_seen first.moment c.read_once.new.out c.args.half c.gate.result c.gate.ensures c.read_once.auto.out first.are c.if-gate.false;
      stamp_is = second.stamp_is;
    }

pub returns-then-gate-clause-shut : goal.returns-then-gate-clause-shut
returns-then-gate-clause-shut g c = λ h.
    let seen = c.in_ok-read_once.ensures.given h in
    record {
      moment = seen.moment;
      since = seen.since;
      until = seen.until;
      shut = shut_seen seen.moment c.read_once.new.out c.args.half c.gate.result c.gate.ensures c.read_once.auto.out seen.are c.if-gate.true;
    }
