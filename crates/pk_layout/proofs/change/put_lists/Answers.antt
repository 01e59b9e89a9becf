-- One list more is put at its place.
use Rattle.std.proofs.Common.{rules, ◌∙◌, ◌<◌, ap, arith, length, subst, sym}
use Rattle.std.proofs.lemmas.Iterator.Adapters.{YieldsList-from_vec}
use Rattle.std.proofs.lemmas.Iterator.Consumers.{YieldsList-turn}
use Rattle.pk_layout.specs.declared.change.NewList.{NewList}
use Rattle.pk_layout.specs.Change.{listed, made_at}
use Rattle.pk_layout.proofs.ChangeLemmas.{lists_last, lists_long, put_at}
use Rattle.pk_layout.proofs.change.put_lists.Goals as goal

pub index_mut-segment-requires : goal.index_mut-segment-requires
index_mut-segment-requires c =
    let turn = YieldsList-turn (YieldsList-from_vec {s = c.into_iter-list-iterator.result} c.args.lists.items (search rules) (search rules)) c.loop-list.yielded c.loop-list.list-iterator c.loop-list.yielded_by c.next.result c.next.new.self c.in-Some.list c.in-Some.is c.next.ensures.steps in
    let os = c.args.opened.now.items in
    let here = subst (λ (l : NewList). l.place < length os) (sym turn.1) (c.requires (length c.loop-list.yielded) c.in-Some.list turn.0) in
    omega (arith, here, c.loop-list.opened.ok.0, ap length c.loop-list.invariant.items, lists_long os c.loop-list.yielded)

pub loop-list-preserved : goal.loop-list-preserved
loop-list-preserved c =
    let turn = YieldsList-turn (YieldsList-from_vec {s = c.into_iter-list-iterator.result} c.args.lists.items (search rules) (search rules)) c.loop-list.yielded c.loop-list.list-iterator c.loop-list.yielded_by c.next.result c.next.new.self c.in-Some.list c.in-Some.is c.next.ensures.steps in
    let os = c.args.opened.now.items in
    let l = c.in-Some.list in
    let here = subst (λ (k : NewList). k.place < length os) (sym turn.1) (c.requires (length c.loop-list.yielded) l turn.0) in
    let within : l.place < length c.loop-list.opened.items = omega (arith, here, ap length c.loop-list.invariant.items, lists_long os c.loop-list.yielded) in
    record {
      items = put_at (listed l) c.loop-list.opened.items l.place c.index_mut-segment.result.now within c.index_mut-segment.ensures.value
          ∙ ap (made_at (listed l) l.place) c.loop-list.invariant.items ∙ sym (lists_last os c.loop-list.yielded l);
      room = c.loop-list.invariant.room;
    }
