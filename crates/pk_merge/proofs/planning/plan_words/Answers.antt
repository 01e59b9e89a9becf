-- At first no term is planned, and all are to come.
use Rattle.std.proofs.Common.{[], ℕ, length, rules, subst, sym}
use Rattle.pk_join.specs.Walk.{WalksWithin}
use Rattle.pk_join.proofs.ComeLemmas.{same_walk_none, within_same}
use Rattle.pk_join.proofs.WholeLemmas.{pass_none, walks_then}
use Rattle.pk_model.specs.Terms.{terms_of}
use Rattle.pk_state.specs.Committed.{live_in}
use Rattle.pk_merge.proofs.planning.plan_words.Goals as goal

pub words-init : goal.words-init
words-init g c = record {
  left = search rules;
  same = same_walk_none c.args.walk.now;
  whole = pass_none g.D.Disk.honest (g.D.Disk.content c.args.disk.now) c.args.walk.now.inputs.items;
  entries = c.new-index.ensures.entries;
  most_kept = c.new-index.ensures.most_kept;
  come =
      λ honest inputs stored come. (
        [],
        terms_of (live_in stored),
        come,
        c.new-index.ensures.words (live_in stored),
      );
}

pub next-requires : goal.next-requires
next-requires g c =
    let inv = c.words.invariant in
    within_same (length (g.D.Disk.content c.words.disk)) c.args.walk.now c.words.walk inv.same
    (subst (λ (n : ℕ). WalksWithin n c.args.walk.now) (sym inv.left.keeps.size) c.requires)

pub words-preserved : goal.words-preserved
words-preserved g c =
    let inv = c.words.invariant in
    record {
      left = search rules;
      same = search rules;
      whole = walks_then g.D.Disk.honest (g.D.Disk.content c.args.disk.now) (g.D.Disk.content c.words.disk)
          c.args.walk.now c.words.walk c.next.new.self c.next.ensures.same (λ h. (inv.left.keeps.read h).bytes)
          inv.whole c.in_ok-next.ensures.whole;
      entries = search rules;
      most_kept = search rules;
      come = search rules;
    }

pub returns-clause-whole : goal.returns-clause-whole
returns-clause-whole g c =
    let inv = c.words.invariant in
    walks_then g.D.Disk.honest (g.D.Disk.content c.args.disk.now) (g.D.Disk.content c.words.disk)
    c.args.walk.now c.words.walk c.next.new.self c.next.ensures.same (λ h. (inv.left.keeps.read h).bytes)
    inv.whole c.in_ok-next.ensures.whole
