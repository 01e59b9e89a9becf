use Rattle.std.proofs.Common.{arith, ap, ◌∙◌, ◌++◌, ℕ, List, length}
use Rattle.std.specs.Int.{w32, to_le_bytes}
use Rattle.std.specs.List.{flat_map}
use Rattle.std.proofs.lemmas.List.{take_all}
use Rattle.pk_dict.proofs.Adding.{finished}
use Rattle.pk_dict.proofs.writer.DictWriter.finish.Goals as goal

pub returns : goal.returns
returns c es d =
    let same =
    c.in_ok-extend_from_slice-2.ensures.items ∙ ap (λ (l : List ℕ). c.loop-start.out.items ++ l) c.as_slice.ensures.value
    ∙ ap (λ (l : List ℕ). l ++ c.args.self.body.items) (c.loop-start.invariant ∙ ap (flat_map (to_le_bytes w32)) (take_all c.loop-start.start-index c.args.self.starts.items (omega (arith, ap (λ (l : List ℕ). length l) c.as_slice-start-items.ensures.value))))
    ∙ finished es c.args.self.starts.items c.args.self.body.items d.starts d.body in
    record { rising = d.rising; fits = d.fits; size = omega (arith, ap (λ (l : List ℕ). length l) same, d.size); same = same }
