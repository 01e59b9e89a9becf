-- The generation that is shown was in force when a command began, or took force in it.
use Rattle.pk_state.proofs.BesideLemmas.{means}
use Rattle.pk_state.proofs.laws.a_reader_holds_what_a_command_left.Goals as goal

pub returns : goal.returns
returns c = λ first rest bytes image half generation b told commands moment fresh shot.
    means bytes image half generation b shot first rest told commands moment fresh
