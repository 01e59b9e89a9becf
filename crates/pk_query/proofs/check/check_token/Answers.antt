-- A bracket that closes takes the last place off the list.
use Rattle.std.proofs.Common.{◌≤◌, subst, length, arith}
use Rattle.pk_query.specs.LexerView.{token_view}
use Rattle.pk_query.specs.CheckView.{HasRoom}
use Rattle.pk_query.specs.declared.lexer.Token.{Token}
use Rattle.pk_query.proofs.CheckLemmas.{close_step}
use Rattle.pk_query.proofs.check.check_token.Goals as goal

pub returns-then-depth-gt0-clause-step : goal.returns-then-depth-gt0-clause-step
returns-then-depth-gt0-clause-step c =
    let d = c.args.progress.depth in
    let P : Token → Type 0 = λ t. HasRoom (token_view t) d in
    let h = subst P c.in-Close.is c.requires.room in
    let within : d ≤ length c.args.places.now = omega (arith, c.requires.size, h) in
    rw c.in-Close.is (close_step c.args.progress.after_operand c.args.places.now d c.args.place c.if-after_operand-2.true c.if-depth-gt0.true within)
