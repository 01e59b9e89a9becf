-- One piece more stands at the end.
use Rattle.std.proofs.Common.{arith, ◌∙◌, ◌++◌, ◌+◌, ◌≡◌, sym, ap, List, ℕ, take, drop, append_assoc}
use Rattle.std.proofs.Math.Seq.{take-add}
use Rattle.std.proofs.lemmas.List.{drop-drop}
use Rattle.pk_posting.proofs.SourceLemmas.{answered_more}
use Rattle.pk_dict.specs.Place.{bytes_at}
use Rattle.pk_dict.proofs.entries.append.Goals as goal

-- two pieces side by side
joined : (out new old bytes : List ℕ) (at done size : ℕ) → out ≡ old ++ take done (drop at bytes) → new ≡ out ++ take size (drop (at + done) bytes) → new ≡ old ++ take (done + size) (drop at bytes)
joined out new old bytes at done size h k =
    k ∙ ap (λ (l : List ℕ). l ++ take size (drop (at + done) bytes)) h ∙ append_assoc old (take done (drop at bytes)) (take size (drop (at + done) bytes))
    ∙ ap (λ (l : List ℕ). old ++ (take done (drop at bytes) ++ take size l)) (sym (drop-drop done at bytes))
    ∙ ap (λ (l : List ℕ). old ++ l) (sym (take-add done size (drop at bytes)))

pub loop-done-preserved : goal.loop-done-preserved
loop-done-preserved g c =
    let left = c.in_ok-append_stretch.ensures.left in
    record {
      left = answered_more g.met.S.ByteSource.keeps_then c.loop-done.invariant.left left left.faults.ok;
      asks = omega (arith, c.loop-done.invariant.asks, c.in_ok-append_stretch.ensures.asks);
      below = omega arith;
      long = omega (arith, c.in_ok-append_stretch.ensures.long, c.loop-done.invariant.long);
      room = omega (arith, c.in_ok-append_stretch.ensures.room, c.loop-done.invariant.room);
      value = λ h. joined c.loop-done.out.items _ c.args.out.now.items _ c.args.at c.loop-done.done c.min-size.result (c.loop-done.invariant.value h)
          (c.in_ok-append_stretch.ensures.value h ∙ ap (λ (l : List ℕ). c.loop-done.out.items ++ take c.min-size.result (drop (c.args.at + c.loop-done.done) (bytes_at l c.args.place))) (c.loop-done.invariant.left.same h));
    }
