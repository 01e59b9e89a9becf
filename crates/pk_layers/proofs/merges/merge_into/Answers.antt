-- Unit 3 is behind both inputs, and the segment fits there.
use Rattle.std.proofs.Common.{◌≡◌, ◌∙◌, ◌+◌, ℕ, length, sym, subst, arith, Ok, Some}
use Rattle.std.specs.Prelude.{All, Option}
use Rattle.pk_merge.specs.declared.prepared.Prepared.{Prepared}
use Rattle.pk_join.specs.Inputs.{LiesInside}
use Rattle.pk_merge.specs.Prepared.{IsReady}
use Rattle.pk_layers.proofs.merges.merge_into.Goals as goal

pub merge_into-requires : goal.merge_into-requires
merge_into-requires g c =
    let inputs = c.inputs-inputs.result in
    let p = c.in-Some.prepared in
    let size = length (g.D.Disk.content c.prepare.new.disk) in
    let keeps = c.in_ok-prepared.ensures.left.keeps in
    let is : size ≡ 2048 = keeps.size ∙ c.requires in
    let ready = subst (λ (o : Option Prepared). IsReady (length (g.D.Disk.content c.args.disk.now)) inputs (Ok o)) c.in-Some.is c.in_ok-prepared.ensures.ready in (
      inputs,
      record {
        ready = subst (λ (n : ℕ). IsReady n inputs (Ok (Some p))) (sym keeps.size) ready;
        inside = subst (λ (n : ℕ). All (LiesInside n) inputs) (sym is) c.inputs-inputs.ensures.inside;
        fits = omega (arith, c.if-size-gt512.false, c.size-size.ensures.value, is);
        apart = c.inputs-inputs.ensures.apart (1536 + p.size);
      },
    )
