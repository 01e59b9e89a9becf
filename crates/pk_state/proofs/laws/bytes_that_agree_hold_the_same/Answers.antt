-- The same body is in force, and its entries spell the same; and the other way round.
use Rattle.pk_state.proofs.HoldsLemmas.{agree_back, holds_frame, same_body}
use Rattle.pk_state.proofs.laws.bytes_that_agree_hold_the_same.Goals as goal

pub returns : goal.returns
returns c = λ bytes image half b held has agree.
    (holds_frame bytes image half b held has agree, holds_frame image bytes half b held (same_body bytes image b agree half has) (agree_back bytes image b agree))
