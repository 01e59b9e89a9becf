-- One input more, of the open segment at its place.
use Rattle.std.proofs.Common.{◌<◌, refl, sym, subst, List, arith, length}
use Rattle.std.specs.Prelude.{All}
use Rattle.std.proofs.lemmas.List.Elements.{All-nil, All-push}
use Rattle.pk_join.specs.declared.input.MergeInput.{MergeInput}
use Rattle.pk_manifest.specs.Bodies.{bodies_end}
use Rattle.pk_join.specs.Inputs.{HasKind, LiesInside}
use Rattle.pk_merge.specs.Output.{LiesApart}
use Rattle.pk_merge.specs.Streaming.{LiesBehind}
use Rattle.pk_store.specs.Inputs.{BeginsFrom, EntryApart}
use Rattle.pk_open.specs.Opened.{entries_of}
use Rattle.pk_open.proofs.PlaceLemmas.{entries_many, entry_there, inside_at}
use Rattle.pk_store.proofs.InputLemmas.{inputs_more, inputs_all, kind_at, of_all, of_more}
use Rattle.pk_store.proofs.inputs.inputs_of.Goals as goal

pub loop-segment-preserved : goal.loop-segment-preserved
loop-segment-preserved c =
    let os = c.args.opened.now in
    let n = c.loop-segment.segment-index in
    let o = c.segment-item.result in
    let at = c.segment-item.is in
    let there = entry_there os n o (omega arith) at in
    let less : n < length (entries_of os) = omega (arith, entries_many os) in
    let put = c.in_ok-push.ensures.items in
    record {
      spelled = λ bytes stored spells are. inputs_more bytes os stored n o c.loop-segment.inputs.items c.push.new.self.items _ spells are (omega arith) at put refl refl refl (c.loop-segment.invariant.spelled bytes stored spells are);
      inside = λ size lie. subst (λ (is : List MergeInput). All (LiesInside size) is) (sym put) (All-push (LiesInside size) c.loop-segment.inputs.items _ (c.loop-segment.invariant.inside size lie) (inside_at size os n o lie (omega arith) at));
      apart = λ start end all. subst (λ (is : List MergeInput). All (LiesApart start end) is) (sym put) (All-push (LiesApart start end) c.loop-segment.inputs.items _ (c.loop-segment.invariant.apart start end all)
          (subst (EntryApart start end) (sym there) (all n o.entry less)));
      each = of_more os n o c.loop-segment.inputs.items c.push.new.self.items _ (omega arith) at put refl refl c.loop-segment.invariant.each;
      behind = λ all. subst (λ (is : List MergeInput). All LiesBehind is) (sym put) (All-push LiesBehind c.loop-segment.inputs.items _ (c.loop-segment.invariant.behind all)
          (subst (BeginsFrom bodies_end) (sym there) (all n o.entry less)));
      kinds = λ have. subst (λ (is : List MergeInput). All HasKind is) (sym put) (All-push HasKind c.loop-segment.inputs.items _ (c.loop-segment.invariant.kinds have) (kind_at (entries_of os) n o.entry have less there));
    }

pub returns-clause-spelled : goal.returns-clause-spelled
returns-clause-spelled c = λ bytes stored spells are.
    inputs_all bytes c.args.opened.now stored c.loop-segment.segment-index c.loop-segment.inputs.items are (omega arith) (c.loop-segment.invariant.spelled bytes stored spells are)

pub returns-clause-each : goal.returns-clause-each
returns-clause-each c = of_all c.args.opened.now c.loop-segment.segment-index c.loop-segment.inputs.items (omega arith) c.loop-segment.invariant.each

pub loop-segment-init : goal.loop-segment-init
loop-segment-init c =
    rw c.in_ok-inputs.ensures.items (record {
      spelled = λ bytes stored spells are. tt;
      inside = λ size lie. All-nil (LiesInside size);
      kinds = λ have. All-nil HasKind;
      apart = λ start end all. All-nil (LiesApart start end);
      each = tt;
      behind = λ all. All-nil LiesBehind;
    })
