-- The two tests together are what the words say.
use Rattle.std.proofs.Common.{◌≡◌, ◌∙◌, true, false, sym, inl, inr}
use Rattle.pk_query.specs.Tokens.{tokens}
use Rattle.pk_query.proofs.DepthLemmas.{brackets_true, true_brackets, nots_true, true_nots}
use Rattle.pk_query.proofs.depth.is_too_deep.Goals as goal

pub returns-then-has_deep_brackets : goal.returns-then-has_deep_brackets
returns-then-has_deep_brackets c =
    (λ _. inl (brackets_true (tokens c.args.text.now) (sym c.has_deep_brackets.ensures ∙ c.if-has_deep_brackets.true)), λ _. c.if-has_deep_brackets.true)

pub returns-else-has_deep_brackets : goal.returns-else-has_deep_brackets
returns-else-has_deep_brackets c =
    let ts = tokens c.args.text.now in (
      λ long. inr (nots_true ts (sym c.has_long_nots.ensures ∙ long)),
      λ deep. elim deep [
        | inl d ↦ let h : true ≡ false = sym (true_brackets ts d) ∙ sym c.has_deep_brackets.ensures ∙ c.if-has_deep_brackets.false in cc
        | inr d ↦ c.has_long_nots.ensures ∙ true_nots ts d
      ],
    )
