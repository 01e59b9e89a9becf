-- The live numbers in the list of one word are its answer.
use Rattle.std.proofs.Common.{◌≡◌, ◌∙◌, ap, sym}
use Rattle.std.proofs.lemmas.Result.{IfOk-weaker}
use Rattle.pk_model.specs.Collection.{answer}
use Rattle.pk_model.specs.Tree.{Term, tree_of}
use Rattle.pk_sets.specs.Sets.{intersection}
use Rattle.pk_index.specs.Index.{list_of}
use Rattle.pk_index.proofs.HitLemmas.{answer_is}
use Rattle.pk_live.proofs.finding.find.Goals as goal

pub returns-in-Term-clause-found : goal.returns-in-Term-clause-found
returns-in-Term-clause-found c = λ docs keeps live here.
    let word = c.as_str.result.now in
    let tree : Term word ≡ tree_of c.args.query.now = ap Term c.as_str.ensures.value ∙ sym (ap tree_of c.in-Term.is) in
    IfOk-weaker c.live_list.result _ _ (λ v e. e ∙ ap (intersection c.args.live.now) c.list.ensures.numbers
    ∙ answer_is (Term word) c.args.live.now (list_of c.args.index.now word) docs live (keeps.each word) ∙ ap (λ q. answer q docs) tree) c.live_list.ensures.found

pub returns-in-Term-clause-none : goal.returns-in-Term-clause-none
returns-in-Term-clause-none c = λ docs keeps live one is none.
    let word = c.as_str.result.now in
    let tree : Term word ≡ tree_of c.args.query.now = ap Term c.as_str.ensures.value ∙ sym (ap tree_of c.in-Term.is) in
    c.live_list.ensures.none (ap (intersection c.args.live.now) c.list.ensures.numbers
    ∙ answer_is (Term word) c.args.live.now (list_of c.args.index.now word) docs live (keeps.each word) ∙ ap (λ q. answer q docs) (tree ∙ is) ∙ none)
