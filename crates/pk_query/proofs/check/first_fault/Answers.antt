-- Each token keeps the invariant, and the last open bracket stands last in the list.
use Rattle.std.proofs.Common.{◌≡◌, ◌≤◌, ◌∙◌, ◌∷◌, [], List, ap, sym, length, arith, rules, Bool, not, refl, false, true}
use Rattle.pk_query.specs.Tokens.{Placed, placed_tokens, only_tokens}
use Rattle.pk_query.specs.LexerView.{token_view}
use Rattle.pk_query.specs.Depth.{nests_too_deep}
use Rattle.pk_query.specs.Check.{checked, check_on}
use Rattle.pk_query.specs.CheckView.{progress_view}
use Rattle.pk_query.proofs.DepthLemmas.{not_deep}
use Rattle.pk_query.proofs.CheckLemmas.{room, nests_next, end_closed, end_open, test_of}
use Rattle.pk_query.proofs.check.first_fault.Goals as goal

pub tokens-init : goal.tokens-init
tokens-init c =
    let end = length c.args.text.now in
    let start : c.into_iter-place-iterator.result ≡ placed_tokens c.args.text.now = c.into_iter-place-iterator.ensures.into_iter_gives ∙ c.of-place-items.ensures.tokens in (
      ap (λ (ps : List Placed). checked (record { after_operand = false; places = [] }) ps end) start,
      ap (λ (ps : List Placed). nests_too_deep 0 0 (only_tokens ps)) start ∙ not_deep c.args.text.now c.requires,
      search rules,
    )

pub check_token-requires-clause-room : goal.check_token-requires-clause-room
check_token-requires-clause-room c =
    let d = c.tokens.progress.depth in
    room (token_view c.in-Some.field-0.token) (only_tokens c.next.new.self) d (ap (λ (ps : List Placed). nests_too_deep d 0 (only_tokens ps)) (sym c.in-Some.ensures.steps) ∙ c.tokens.invariant.1)

pub tokens-preserved : goal.tokens-preserved
tokens-preserved c =
    let t = token_view c.in-Some.field-0.token in
    let d = c.tokens.progress.depth in
    let ps = c.next.new.self in
    let progress = progress_view c.tokens.progress c.tokens.places in
    let end = length c.args.text.now in
    let e : nests_too_deep d 0 (t ∷ only_tokens ps) ≡ false = ap (λ (ps : List Placed). nests_too_deep d 0 (only_tokens ps)) (sym c.in-Some.ensures.steps) ∙ c.tokens.invariant.1 in (
      ap (λ r. check_on r (λ next. checked next ps end)) (sym c.in-Ok.ensures.step) ∙ ap (λ (ps : List Placed). checked progress ps end) (sym c.in-Some.ensures.steps) ∙ c.tokens.invariant.0,
      nests_next t (only_tokens ps) d _ e c.in-Ok.ensures.depth,
      search rules,
    )

was_true : (b : Bool) → not b ≡ false → b ≡ true
was_true true e = refl
was_true false e = sym e

pub returns-then-progress-gt0 : goal.returns-then-progress-gt0
returns-then-progress-gt0 c =
    let d = c.tokens.progress.depth in
    let end = length c.args.text.now in
    let small = test_of (only_tokens c.tokens.place-iterator) d 0 c.tokens.invariant.1 in
    let within : d ≤ length c.tokens.places = omega (arith, small, c.tokens.invariant.2) in
    sym (end_open c.tokens.progress.after_operand c.tokens.places d end (was_true _ c.if-not-progress.false) c.if-progress-gt0.true within)
    ∙ ap (λ (ps : List Placed). checked (progress_view c.tokens.progress c.tokens.places) ps end) (sym c.in-None.ensures.steps.0) ∙ c.tokens.invariant.0

pub returns-else-progress-gt0 : goal.returns-else-progress-gt0
returns-else-progress-gt0 c =
    let end = length c.args.text.now in
    sym (end_closed c.tokens.progress.after_operand c.tokens.places c.tokens.progress.depth end (was_true _ c.if-not-progress.false) c.if-progress-gt0.false)
    ∙ ap (λ (ps : List Placed). checked (progress_view c.tokens.progress c.tokens.places) ps end) (sym c.in-None.ensures.steps.0) ∙ c.tokens.invariant.0
