-- What was lent is what stands in the dictionary.
use Rattle.std.proofs.Common.{◌∙◌, ◌++◌, sym, ap, List, ℕ}
use Rattle.pk_dict.proofs.Parts.{lent_part}
use Rattle.pk_dict.proofs.entries.append_stretch.Goals as goal

pub returns-clause-value : goal.returns-clause-value
returns-clause-value g c h =
    c.in_ok-extend_from_slice.ensures.items
    ∙ ap (λ (l : List ℕ). c.args.out.now.items ++ l) (sym (lent_part _ c.args.place c.args.size c.args.at _ (record { lies = c.requires.lies.0; inside = c.requires.inside; is = c.in_ok-piece.ensures.value h })))
