-- One piece more, and then all.
use Rattle.std.proofs.Common.{rules, ◌≡◌, ◌∙◌, ◌<◌, ap, arith, get_or, length, map-id, sym}
use Rattle.std.proofs.lemmas.Iterator.Adapters.{YieldsList-from_vec}
use Rattle.std.proofs.lemmas.Iterator.Consumers.{YieldsList-end, YieldsList-turn}
use Rattle.std.proofs.lemmas.List.{get_or_default, length_push}
use Rattle.pk_disk.specs.declared.units.Extent.{Extent}
use Rattle.pk_disk.specs.Units.{start_of}
use Rattle.pk_layout.proofs.WriteLemmas.{all_pieces, one_piece}
use Rattle.pk_layout.proofs.pieces.pieces_for.Goals as goal

abbrev no_place : Extent
no_place = record { first = 0; units = 0; bytes = 0 }

pub loop-bytes-preserved : goal.loop-bytes-preserved
loop-bytes-preserved c =
    let turn = YieldsList-turn (YieldsList-from_vec {s = c.into_iter-bytes-iterator.result} c.args.writes.items (search rules) (search rules)) c.loop-bytes.yielded c.loop-bytes.bytes-iterator c.loop-bytes.yielded_by c.next.result c.next.new.self c.in-Some.bytes c.in-Some.is c.next.ensures.steps in
    let xs = c.args.extents.now in
    let n = length c.loop-bytes.yielded in
    let lt : n < length xs = omega (arith, turn.0, c.requires) in
    let e : Extent = get_or xs n no_place in
    let place : c.len.result ≡ n = omega (arith, c.len.ensures, c.loop-bytes.invariant.many) in
    record {
      many = omega (arith, c.in_ok-push.ensures.len, length_push c.loop-bytes.yielded c.in-Some.bytes, c.loop-bytes.invariant.many);
      so_far = one_piece c.loop-bytes.pieces.items c.push.new.self.items xs c.loop-bytes.yielded e c.in-Some.bytes _ lt (get_or_default xs n no_place e lt) c.loop-bytes.invariant.so_far c.in_ok-push.ensures.items
          (ap (λ at. record { at = at; bytes = c.in-Some.bytes.items }) (c.start-at.ensures ∙ ap (λ k. start_of (get_or xs k no_place)) place));
    }

pub returns : goal.returns
returns c =
    let end = YieldsList-end (YieldsList-from_vec {s = c.into_iter-bytes-iterator.result} c.args.writes.items (search rules) (search rules)) c.loop-bytes.yielded c.loop-bytes.bytes-iterator c.loop-bytes.yielded_by c.next.result c.next.new.self c.in-None.is c.next.ensures.steps in
    all_pieces c.loop-bytes.pieces.items c.args.extents.now c.loop-bytes.yielded c.args.writes.items c.requires (sym (map-id c.loop-bytes.yielded) ∙ end.0) c.loop-bytes.invariant.so_far
