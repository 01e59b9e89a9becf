-- Both are the spelling.
use Rattle.std.proofs.Common.{◌∙◌, sym}
use Rattle.pk_segment.proofs.laws.a_list_has_one_segment.Goals as goal

pub returns : goal.returns
returns c = λ a b docs kind x y. x.same ∙ sym y.same
