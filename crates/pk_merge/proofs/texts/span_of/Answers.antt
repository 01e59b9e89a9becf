-- One text more stands in the bytes then.
use Rattle.std.proofs.Common.{◌≡◌, ◌+◌, ℕ, length, take, get_or, ap, subst, arith}
use Rattle.std.specs.Prelude.{All}
use Rattle.std.proofs.lemmas.List.{get_or_default}
use Rattle.std.proofs.lemmas.List.Elements.{All-more, All-weaker}
use Rattle.pk_merge.specs.declared.kept.Kept.{Kept}
use Rattle.pk_merge.specs.Spans.{StandsIn}
use Rattle.pk_merge.proofs.texts.span_of.Goals as goal

none : Kept
none = record { number = 0; at = 0; len = 0 }

pub loop-i-preserved : goal.loop-i-preserved
unfolding none
loop-i-preserved c =
    let ks = c.args.documents.now in
    let i = c.loop-i.i in
    let from = (get_or ks 0 none).at in
    let inv = c.loop-i.invariant in
    let lt = c.loop-i-test.true in
    record {
      short = omega (arith, c.max-bytes.ensures, c.from.ensures, inv.short, c.if-end-from.false);
      inside = omega (
        arith,
        c.max-bytes.ensures,
        c.from.ensures,
        inv.inside,
        c.if-kept-from.false,
        c.requires.inside i none lt,
      );
      near = All-more (StandsIn from (from + c.max-bytes.result)) ks i none lt
          (All-weaker (StandsIn from (from + c.loop-i.bytes)) (StandsIn from (from + c.max-bytes.result))
          (λ k stands. (stands.0, omega (arith, stands.1, c.max-bytes.ensures))) (take i ks) inv.near) (
            omega (arith, c.if-kept-from.false),
            omega (arith, c.max-bytes.ensures, c.from.ensures, c.if-kept-from.false),
          );
    }

pub returns : goal.returns
unfolding none
returns c =
    let ks = c.args.documents.now in
    let from = (get_or ks 0 none).at in
    let inv = c.loop-i.invariant in
    let all : c.loop-i.i ≡ length ks = omega (arith, c.loop-i-test.false, c.loop-i.auto.i-end) in
    record {
      some = c.requires.some;
      most = omega arith;
      begins = λ e. ap (λ (k : Kept). k.at) (get_or_default ks 0 none e c.requires.some);
      short = inv.short;
      inside = inv.inside;
      near = λ some. subst (λ (n : ℕ). All (StandsIn from (from + c.loop-i.bytes)) (take n ks)) all inv.near;
      longest = λ e less first next. omega (arith, less);
    }
