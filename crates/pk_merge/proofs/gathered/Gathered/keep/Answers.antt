-- One document more.
use Rattle.std.proofs.Common.{arith}
use Rattle.pk_model.specs.Views.{doc_of}
use Rattle.pk_merge.specs.Gathering.{docs_in}
use Rattle.pk_merge.proofs.GatherLemmas.{kept_each, kept_rise, kept_size, front_one}
use Rattle.pk_merge.proofs.gathered.Gathered.keep.Goals as goal

pub returns-then-bytes-from : goal.returns-then-bytes-from
returns-then-bytes-from c =
    omega (
      arith,
      front_one (docs_in c.args.self.now) (doc_of c.args.document),
      c.args.self.now.size,
      c.if-bytes-from.true,
      c.from.ensures,
      c.len.ensures,
    )

pub invariant_of-self-2-clause-rising : goal.invariant_of-self-2-clause-rising
invariant_of-self-2-clause-rising c =
    kept_rise c.args.self.now.documents.items c.push.new.self.items c.args.document c.args.self.now.last
    c.in-Ok.ensures.items c.args.self.now.rising c.args.self.now.each c.requires

pub invariant_of-self-2-clause-each : goal.invariant_of-self-2-clause-each
invariant_of-self-2-clause-each c =
    kept_each c.args.self.now.documents.items c.push.new.self.items c.args.document c.args.self.now.last
    c.in-Ok.ensures.items c.args.self.now.each c.requires

pub invariant_of-self-2-clause-size : goal.invariant_of-self-2-clause-size
invariant_of-self-2-clause-size c =
    omega (
      arith,
      kept_size c.args.self.now.documents.items c.push.new.self.items c.args.document
          c.in-Ok.ensures.items,
      c.args.self.now.size,
      c.len.ensures,
    )
