-- The test on the tokens that are left is the test on all, and each bracket had a token.
use Rattle.std.proofs.Common.{◌≡◌, ◌+◌, ◌≤◌, length}
use Rattle.pk_query.specs.Tokens.{only_tokens, tokens}
use Rattle.pk_query.specs.Depth.{nests_too_deep}
use Rattle.pk_query.proofs.depth.has_deep_brackets.Given as goal

abbrev pub invariant-tokens : goal.invariant-tokens
invariant-tokens l =
    (nests_too_deep l.opens l.closes (only_tokens l.token-iterator) ≡ nests_too_deep 0 0 (tokens l.fn.text))
    × (l.opens + l.closes + length l.token-iterator ≤ length l.fn.text)
