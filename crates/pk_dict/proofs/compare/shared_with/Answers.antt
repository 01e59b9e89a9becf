-- A piece that agrees as a whole goes on, one that does not ends the count.
use Rattle.std.proofs.Common.{arith, refl, ◌∙◌, ap, List, ℕ, length, drop, take, ◌+◌, ◌-◌, ◌≡◌}
use Rattle.std.proofs.lemmas.List.{take_rest}
use Rattle.pk_posting.proofs.SourceLemmas.{answered_more}
use Rattle.pk_dict.specs.Dictionary.{shared}
use Rattle.pk_dict.specs.Place.{bytes_at}
use Rattle.pk_dict.proofs.Parts.{length_bytes_at}
use Rattle.pk_dict.proofs.Shared.{shared_past, shared_value, Piece, piece_part, piece_whole, ended, which_ended}
use Rattle.pk_dict.proofs.compare.shared_with.Goals as goal

pub returns-then-from-clause-value : goal.returns-then-from-clause-value
returns-then-from-clause-value g c h =
    shared_past _ _ _ _ (omega (arith, length_bytes_at (g.S.ByteSource.content c.args.source.now) c.args.place c.requires.0))

pub returns-then-more-size-clause-value : goal.returns-then-more-size-clause-value
returns-then-more-size-clause-value g c h =
    let B = bytes_at (g.S.ByteSource.content c.args.source.now) c.args.place in
    let len = length_bytes_at (g.S.ByteSource.content c.args.source.now) c.args.place c.requires.0 in
    let p : Piece B c.args.at c.args.n c.loop-done.done c.min-size.result c.in_ok-more.more c.args.term.now (take c.min-size.result (drop (c.args.at + c.loop-done.done) B)) = record {
      inside = omega (arith, len);
      within = omega arith;
      is = refl;
      found = c.in_ok-more.ensures.value h ∙ ap (λ (l : List ℕ). shared (take c.min-size.result (drop (c.args.at + c.loop-done.done) (bytes_at l c.args.place))) (take (length c.args.term.now - c.loop-done.done) (drop c.loop-done.done c.args.term.now))) (c.loop-done.invariant.left.same h)
          ∙ ap (shared (take c.min-size.result (drop (c.args.at + c.loop-done.done) B))) (take_rest c.args.term.now c.loop-done.done);
    } in
    let e = piece_part _ _ _ _ _ _ _ _ p c.if-more-size.true in
    shared_value _ _ _ _ _ (omega (arith, len)) (omega (arith, e, c.loop-done.invariant.value h))

pub loop-done-preserved : goal.loop-done-preserved
loop-done-preserved g c =
    let B = bytes_at (g.S.ByteSource.content c.args.source.now) c.args.place in
    let len = length_bytes_at (g.S.ByteSource.content c.args.source.now) c.args.place c.requires.0 in
    let most = c.in_ok-more.ensures.most in
    let whole : c.in_ok-more.more ≡ c.min-size.result = omega (arith, most.0) in
    let left = c.in_ok-more.ensures.left in
    record {
      left = answered_more g.met.S.ByteSource.keeps_then c.loop-done.invariant.left left.read left.faults.ok;
      asks = omega (arith, left.asks, c.loop-done.invariant.asks);
      below = omega (arith, most.0);
      value = λ h.
          let p : Piece B c.args.at c.args.n c.loop-done.done c.min-size.result c.in_ok-more.more c.args.term.now (take c.min-size.result (drop (c.args.at + c.loop-done.done) B)) = record {
            inside = omega (arith, len);
            within = omega arith;
            is = refl;
            found = c.in_ok-more.ensures.value h ∙ ap (λ (l : List ℕ). shared (take c.min-size.result (drop (c.args.at + c.loop-done.done) (bytes_at l c.args.place))) (take (length c.args.term.now - c.loop-done.done) (drop c.loop-done.done c.args.term.now))) (c.loop-done.invariant.left.same h)
                ∙ ap (shared (take c.min-size.result (drop (c.args.at + c.loop-done.done) B))) (take_rest c.args.term.now c.loop-done.done);
          } in
          let e = piece_whole _ _ _ _ _ _ _ _ p whole in
          omega (arith, e, c.loop-done.invariant.value h);
    }

pub returns-clause-value : goal.returns-clause-value
returns-clause-value g c h =
    let content = g.S.ByteSource.content c.args.source.now in
    let e = ended (bytes_at content c.args.place) c.args.at c.args.n c.loop-done.done c.args.term.now (which_ended c.args.n (length c.args.term.now) c.loop-done.done (omega arith)) in
    shared_value _ _ _ _ _ (omega (arith, length_bytes_at content c.args.place c.requires.0)) (omega (arith, e, c.loop-done.invariant.value h))
