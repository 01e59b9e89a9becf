-- The test on the tokens that are left is the test on all, and each NOT had a token.
use Rattle.std.proofs.Common.{◌≡◌, ◌+◌, ◌≤◌, length}
use Rattle.pk_query.specs.Tokens.{only_tokens, tokens}
use Rattle.pk_query.specs.Depth.{has_long_nots}
use Rattle.pk_query.proofs.depth.has_long_nots.Given as goal

abbrev pub invariant-tokens : goal.invariant-tokens
invariant-tokens l =
    (has_long_nots l.nots (only_tokens l.token-iterator) ≡ has_long_nots 0 (tokens l.fn.text))
    × (l.nots + length l.token-iterator ≤ length l.fn.text)
