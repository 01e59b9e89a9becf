use Rattle.std.proofs.Common.{arith, ◌≡◌, ◌∙◌, ℕ, List, [], length, append-nil, sym, ap}
use Rattle.std.proofs.lemmas.List.{length-map}
use Rattle.std.specs.Borrow.{Bor}
use Rattle.pk_model.specs.Tree.{tree_of}
use Rattle.pk_plan.specs.Operands.{query_takes}
use Rattle.pk_plan.specs.Plans.{operation_of}
use Rattle.pk_plan.specs.Words.{leaves, texts}
use Rattle.pk_plan.proofs.FoundLemmas.{found_answer}
use Rattle.pk_plan.proofs.WordLemmas.{by_its_words}
use Rattle.pk_plan.proofs.planning.plan_with.Goals as goal

pub returns-clause-means : goal.returns-clause-means
returns-clause-means c docs rises =
    let query = tree_of c.args.query.now in
    let words = texts c.args.words.items in
    let is = c.requires in
    let many : length words ≡ length (leaves query) = ap length is in
    let first : c.plan_of.new.place ≡ 0 = omega (arith, c.in_ok-plan.ensures.passed, many, length-map c.args.words.items (λ (w : Bor (List ℕ)). w.now)) in
    found_answer (operation_of words c.in_ok-plan.plan) query
    (λ ws. c.in_ok-plan.ensures.plan.same words ws
    ∙ ap (λ n. query_takes words ws n query) first
    ∙ ap (λ (all : List (List ℕ)). query_takes all ws 0 query) is
    ∙ by_its_words query ws)
    docs rises

pub returns-clause-rows : goal.returns-clause-rows
returns-clause-rows c =
    let query = tree_of c.args.query.now in
    let words = texts c.args.words.items in
    let is = c.requires in
    let many : length words ≡ length (leaves query) = ap length is in
    let first : c.plan_of.new.place ≡ 0 = omega (arith, c.in_ok-plan.ensures.passed, many, length-map c.args.words.items (λ (w : Bor (List ℕ)). w.now)) in
    c.in_ok-plan.ensures.rows words
    (record { before = []; behind = []; place = sym first; all = is ∙ sym (append-nil (leaves query)) })
