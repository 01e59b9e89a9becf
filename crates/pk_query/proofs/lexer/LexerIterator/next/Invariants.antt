-- Only spaces were passed over: the tokens of the rest are those from before.
use Rattle.std.proofs.Common.{◌≡◌, ◌+◌, ◌<◌, ◌^◌, length}
use denote.Shadow.{shadow}
use denote.Text.{Utf8}
use Rattle.pk_query.specs.Tokens.{placed_from, lexemes}
use Rattle.pk_query.proofs.lexer.LexerIterator.next.Given as goal

abbrev pub invariant-lexemes : goal.invariant-lexemes
invariant-lexemes l =
    (placed_from l.self-inside.at (lexemes l.self-inside.rest.now) ≡ l.fn.self)
    × (l.self-inside.at + length l.self-inside.rest.now < 2 ^ 64)
    × shadow (Utf8 l.self-inside.rest.now)

abbrev pub decreases-lexemes : goal.decreases-lexemes
decreases-lexemes l = length l.self-inside.rest.now
