-- What is shared with a lent piece is shared with the dictionary's bytes.
use Rattle.std.proofs.Common.{◌∙◌, sym, ap, List, ℕ}
use Rattle.pk_dict.specs.Dictionary.{shared}
use Rattle.pk_dict.proofs.Parts.{lent_part}
use Rattle.pk_dict.proofs.compare.shared_stretch.Goals as goal

pub returns-clause-value : goal.returns-clause-value
returns-clause-value g c h =
    c.shared_front.ensures.value
    ∙ ap (λ (s : List ℕ). shared s c.args.term.now) (sym (lent_part _ c.args.place c.args.size c.args.at _ (record { lies = c.requires.lies.0; inside = c.requires.inside; is = c.in_ok-piece.ensures.value h })))
