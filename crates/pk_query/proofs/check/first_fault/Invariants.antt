-- The fault of the tokens that are left is that of the text, and there is room for their brackets.
use Rattle.std.proofs.Common.{◌≡◌, false, length}
use Rattle.pk_query.specs.Tokens.{only_tokens}
use Rattle.pk_query.specs.Depth.{nests_too_deep}
use Rattle.pk_query.specs.Limits.{max_depth}
use Rattle.pk_query.specs.Check.{checked, first_fault}
use Rattle.pk_query.specs.CheckView.{progress_view}
use Rattle.pk_query.proofs.check.first_fault.Given as goal

abbrev pub invariant-tokens : goal.invariant-tokens
invariant-tokens l =
    (checked (progress_view l.progress l.places) l.place-iterator (length l.fn.text) ≡ first_fault l.fn.text)
    × (nests_too_deep l.progress.depth 0 (only_tokens l.place-iterator) ≡ false)
    × (length l.places ≡ max_depth)
